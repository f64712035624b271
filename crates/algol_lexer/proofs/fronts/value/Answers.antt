use Rattle.std.proofs.Common.{◌≡◌, ℕ, ◌+◌, ◌-◌, ◌*◌, List, get_or, drop, sym, ◌∙◌, arith}
use Rattle.algol_tree.specs.Spelling.{value_after, value_of}
use Rattle.algol_tree.proofs.Trees.{value_after_le}
use Rattle.algol_lexer.proofs.LexValue.{value_after_drop}
use Rattle.algol_lexer.proofs.fronts.value.Goals as goal

-- past the limit already, and the digits that are left make it no smaller
pub returns-then-value-gt-NUMBER_LIMIT-clause-above : goal.returns-then-value-gt-NUMBER_LIMIT-clause-above
returns-then-value-gt-NUMBER_LIMIT-clause-above c =
    let ds : List ℕ = c.args.digits.now in
    let i : ℕ = c.loop-digit.digit-index in
    let next : ℕ = c.loop-digit.value * 10 + (get_or ds i 0 - 48) in
    let whole : value_after next (drop (i + 1) ds) ≡ value_of ds = sym (value_after_drop c.loop-digit.value ds i c.loop-digit-test.true) ∙ c.loop-digit.invariant.whole in
    omega (arith, whole, value_after_le next (drop (i + 1) ds))
