use Rattle.std.proofs.Common.{ap, sym, ◌∙◌, drop}
use Rattle.std.specs.List.{flat_map}
use Rattle.std.proofs.lemmas.List.{drop_all}
use Rattle.algol_tree.specs.Names.{names_of_spec}
use Rattle.algol_known.specs.Naming.{has_name, is_typed, sort_named}
use Rattle.algol_scope.proofs.Headings.{bare_has, repeats_specs, repeats_spec, repeats_end}
use Rattle.algol_scope.proofs.heading.twice_in_specs.Goals as goal

pub specs-init : goal.specs-init
specs-init c =
    repeats_specs (has_name c.new-names.result.typed c.new-names.result.declared c.new-names.result.parameters) (sort_named c.no_names-before.result) c.args.faults.now.first
    c.args.h.now.specs c.deref-spec-items.result.now (c.deref-spec-items.ensures.value ∙ c.items.ensures)
    (λ q.
    ap (λ z. is_typed z q) (sym c.new-names.ensures.typed)
    ∙ sym (bare_has c.new-names.result.typed c.new-names.result.declared c.new-names.result.parameters (sort_named c.no_names-before.result q) q c.new-names.ensures.declared
    c.new-names.ensures.parameters (c.no_names-before.ensures q)))

pub specs-preserved : goal.specs-preserved
specs-preserved c =
    repeats_spec (has_name c.new-names.result.typed c.new-names.result.declared c.new-names.result.parameters) (sort_named c.specs.before) (sort_named c.note_repeated.new.before)
    c.specs.faults.first c.note_repeated.new.faults.first _ c.deref-spec-items.result.now c.specs.spec-index c.spec-item.result c.as_slice.result.now
    c.specs-test.true c.spec-item.is (c.as_slice.ensures.value ∙ c.names_of.ensures) c.in_ok-note_repeated.ensures.noted
    c.in_ok-note_repeated.ensures.before c.specs.invariant

pub returns : goal.returns
returns c =
    repeats_end (has_name c.new-names.result.typed c.new-names.result.declared c.new-names.result.parameters) (sort_named c.specs.before) c.specs.faults.first _
    (flat_map names_of_spec (drop c.specs.spec-index c.deref-spec-items.result.now))
    (ap (flat_map names_of_spec) (drop_all c.specs.spec-index c.deref-spec-items.result.now c.specs-test.false)) c.specs.invariant
