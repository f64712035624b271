use Rattle.std.proofs.Common.{◌∙◌, ap, drop, refl, true}
use Rattle.std.specs.Prelude.{◌||◌}
use Rattle.std.specs.Str.{bytes_eq}
use Rattle.std.proofs.lemmas.List.{drop_all}
use Rattle.algol_tree.specs.Sorts.{is_named_in}
use Rattle.algol_known.specs.Naming.{has_name, sort_named}
use Rattle.algol_known.specs.Passing.{kept}
use Rattle.algol_known.proofs.Formals.{say_step}
use Rattle.algol_scope.proofs.Headings.{repeats_start, repeats_item, repeats_end}
use Rattle.algol_scope.proofs.heading.note_repeated.Goals as goal

pub names-init : goal.names-init
names-init c =
    record {
      noted =
          λ seen known.
          repeats_start (has_name c.args.names.now.typed c.args.names.now.declared c.args.names.now.parameters) (sort_named c.args.before.now)
          c.args.faults.now.first seen c.args.ns.now known;
      before = λ q. refl;
    }

pub names-preserved : goal.names-preserved
names-preserved c =
    record {
      noted =
          λ seen known.
          repeats_item (has_name c.args.names.now.typed c.args.names.now.declared c.args.names.now.parameters) (sort_named c.names.before)
          (sort_named c.say.new.table) c.names.faults.first c.note_if.new.faults.first _ c.args.ns.now c.names.n-index c.n-item.result c.bytes-name.result.now
          c.is_before.result c.names-test.true c.n-item.is c.bytes-name.ensures
          (c.is_before.ensures
          ∙ ap (λ b. has_name c.args.names.now.typed c.args.names.now.declared c.args.names.now.parameters c.bytes-name.result.now || b) c.in_ok-is_said.ensures.before)
          c.note_if.ensures c.in_ok-is_said.ensures.said
          (c.names.invariant.noted seen known);
      before =
          λ q.
          say_step (sort_named c.names.before q) (kept (sort_named c.args.before.now q) (is_named_in c.args.ns.now q) true) (sort_named c.say.new.table q) c.args.ns.now
          c.names.n-index c.n-item.result q true c.names-test.true c.n-item.is (c.names.invariant.before q)
          (c.in_ok-is_said.ensures.said q ∙ ap (λ z. kept (sort_named c.names.before q) (bytes_eq z q) true) c.bytes-name.ensures);
    }

pub returns-clause-noted : goal.returns-clause-noted
returns-clause-noted c =
    λ seen known.
    repeats_end (has_name c.args.names.now.typed c.args.names.now.declared c.args.names.now.parameters) (sort_named c.names.before) c.names.faults.first _
    (drop c.names.n-index c.args.ns.now) (drop_all c.names.n-index c.args.ns.now c.names-test.false) (c.names.invariant.noted seen known)
