use Rattle.std.proofs.Common.{◌+◌, ◌*◌, ◌-◌, ◌∙◌, ap, drop, get_or, sym, arith}
use Rattle.std.proofs.lemmas.List.{drop_more}
use Rattle.algol_tree.specs.Spelling.{value_after}
use Rattle.algol_tree.proofs.Trees.{value_after_le}
use Rattle.b67_emit_stmt.proofs.line.width_of.Goals as goal

pub overflow_mul-width : goal.overflow_mul-width
overflow_mul-width c =
    let xs = c.args.digits.now in
    let i = c.digits.digit-index in
    let w = c.digits.width in
    let e = ap (value_after w) (drop_more xs i 0 c.digits-test.true) in
    let grows = value_after_le (w * 10 + (get_or xs i 0 - 48)) (drop (i + 1) xs) in
    omega (arith, sym e ∙ c.digits.invariant, grows)

pub overflow_add-width : goal.overflow_add-width
overflow_add-width c =
    let xs = c.args.digits.now in
    let i = c.digits.digit-index in
    let w = c.digits.width in
    let e = ap (value_after w) (drop_more xs i 0 c.digits-test.true) in
    let grows = value_after_le (w * 10 + (get_or xs i 0 - 48)) (drop (i + 1) xs) in
    omega (arith, sym e ∙ c.digits.invariant, grows, c.saturating_sub.ensures, c.from.ensures)
