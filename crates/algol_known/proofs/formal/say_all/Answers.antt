use Rattle.std.proofs.Common.{◌∙◌, ap}
use Rattle.std.specs.Str.{bytes_eq}
use Rattle.algol_tree.specs.Sorts.{is_named_in}
use Rattle.algol_known.specs.Naming.{sort_named}
use Rattle.algol_known.specs.Passing.{kept}
use Rattle.algol_known.proofs.Formals.{say_step}
use Rattle.algol_known.proofs.formal.say_all.Goals as goal

pub names-preserved : goal.names-preserved
names-preserved c =
    λ q. say_step (sort_named c.names.table q) (kept (sort_named c.args.table.now q) (is_named_in c.args.names.now q) c.args.value)
    (sort_named c.say.new.table q) c.args.names.now c.names.n-index c.n-item.result q c.args.value c.names-test.true c.n-item.is (c.names.invariant q)
    (c.in_ok-say.ensures.said q ∙ ap (λ z. kept (sort_named c.names.table q) (bytes_eq z q) c.args.value) c.bytes.ensures)
