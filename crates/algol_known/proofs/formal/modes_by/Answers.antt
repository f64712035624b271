use Rattle.std.proofs.Common.{◌∙◌, ◌+◌, ◌++◌, ap, drop, map}
use Rattle.std.proofs.lemmas.List.{drop_all}
use Rattle.algol_sorts.specs.Specified.{told_sort}
use Rattle.algol_known.proofs.Formals.{mode_in, modes_end, modes_step}
use Rattle.algol_known.proofs.formal.modes_by.Goals as goal

pub params-preserved : goal.params-preserved
params-preserved c =
    ap (λ z. z ++ map (mode_in c.args.heading.now) (drop (c.params.n-index + 1) c.deref-n-items.result.now)) c.in_ok-push.ensures.items
    ∙ modes_step c.args.heading.now c.params.found.items _ c.deref-n-items.result.now c.params.n-index c.n-item.result c.sort.result c.params-test.true c.n-item.is
    (c.sort.ensures ∙ ap (told_sort c.args.specified.now) c.bytes.ensures ∙ c.requires c.n-item.result.name) c.params.invariant

pub returns : goal.returns
returns c =
    modes_end c.args.heading.now c.params.found.items (drop c.params.n-index c.deref-n-items.result.now)
    (drop_all c.params.n-index c.deref-n-items.result.now c.params-test.false) c.params.invariant
