use Rattle.std.proofs.Common.{◌∙◌, drop}
use Rattle.std.proofs.lemmas.List.{drop_all}
use Rattle.algol_tree.specs.declared.refusal.Code.TheVariants as codes
use Rattle.algol_tree.specs.declared.tree.Named.{Named}
use Rattle.algol_tree.specs.Names.{if_so, is_no_parameter}
use Rattle.algol_frames.proofs.Noting.{note_item, note_end}
use Rattle.algol_scope.proofs.Headings.{unknown_one}
use Rattle.algol_scope.proofs.heading.note_unknown.Goals as goal

pub names-preserved : goal.names-preserved
names-preserved c =
    λ h known.
    note_item codes.UnknownName (λ (n : Named). if_so (is_no_parameter h n) n.spot) c.args.ns.now c.names.n-index c.n-item.result c.names.faults.first
    c.note_if.new.faults.first _ c.names-test.true c.n-item.is
    (unknown_one h c.n-item.result c.bytes.result.now c.is_said.result c.names.faults.first c.note_if.new.faults.first c.bytes.ensures
    (c.is_said.ensures ∙ known c.bytes.result.now) c.note_if.ensures)
    (c.names.invariant h known)

pub returns : goal.returns
returns c =
    λ h known.
    note_end codes.UnknownName (λ (n : Named). if_so (is_no_parameter h n) n.spot) (drop c.names.n-index c.args.ns.now) c.names.faults.first _
    (drop_all c.names.n-index c.args.ns.now c.names-test.false) (c.names.invariant h known)
