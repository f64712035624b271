use Rattle.std.proofs.Common.{sym, ◌∙◌, ap, not}
use Rattle.algol_known.proofs.Plain.{not_plain, plain_as}
use Rattle.algol_known.proofs.around.Around.is_plain.Goals as goal

pub returns-then-not-is_empty : goal.returns-then-not-is_empty
returns-then-not-is_empty c =
    λ a s. not_plain c.args.e.now c.in-Variable.v c.as_slice.result.now c.is_empty.result a c.in-Variable.is (c.as_slice.ensures.value ∙ c.items.ensures) c.is_empty.ensures
    c.if-not-is_empty.true

pub returns-in-Some : goal.returns-in-Some
returns-in-Some c =
    λ a s. plain_as c.args.self.now c.args.seen c.args.e.now c.in-Variable.v c.as_slice.result.now c.is_empty.result c.bytes.result.now
    c.in-Some.entry a c.in-Variable.is (c.as_slice.ensures.value ∙ c.items.ensures) c.is_empty.ensures c.if-not-is_empty.false c.bytes.ensures
    (sym c.find.ensures ∙ c.in-Some.is) s ∙ ap not (sym c.is_simple.ensures)
