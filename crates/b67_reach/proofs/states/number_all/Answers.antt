use Rattle.std.proofs.Common.{sym, ap, ◌∙◌, ℕ, ◌+◌, drop, slice_index_or, arith}
use Rattle.b67_reach.specs.Woken.{told_number, told_numbers}
use Rattle.b67_reach.proofs.Woken.{one_more}
use Rattle.b67_reach.proofs.states.number_all.Goals as goal

pub telling-preserved : goal.telling-preserved
telling-preserved c =
    let i = c.telling.index in
    let ps = c.args.processes.now.items in
    let ns = c.args.positions.now.items in
    let p = c.index.result.now in
    let n = c.index-in-telling.result.now in
    let numbers = c.telling.numbers.items in
    ap (λ z. told_numbers (drop (i + 1) ps) (drop (i + 1) ns) z)
    (c.tell.ensures ∙ ap (λ (k : ℕ). told_number k n numbers) c.index.ensures
    ∙ ap (λ (k : ℕ). told_number (slice_index_or ps i p) k numbers) c.index-in-telling.ensures)
    ∙ sym (one_more i ps ns numbers p n (omega (arith, c.telling-test.true, c.len-index-end.ensures)) (omega (arith, c.telling-test.true, c.len-index-end.ensures, c.requires)))
    ∙ c.telling.invariant
