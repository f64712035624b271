use Rattle.std.proofs.Common.{◌≡◌, sym, ap, ◌∙◌, ℕ, ◌+◌, ◌-◌, ◌≤◌, List, Some, None, slice_get, take, drop, arith}
use Rattle.b67_word.specs.Word.{Word}
use Rattle.b67_store.specs.Store.{Stacks, words_of}
use Rattle.b67_linkage.specs.Closing.{without_arrays}
use Rattle.b67_linkage.proofs.Closed.{next_cell, no_cell}
use Rattle.b67_linkage.proofs.arrays.close_arrays.Goals as goal

pub returns-in_default-clause-rows : goal.returns-in_default-clause-rows
returns-in_default-clause-rows g c =
    let words = words_of (g.C.Core.stacks c.args.core.now) c.args.frame.stack in
    let here = c.args.frame.at + 2 + c.cells.index in
    let e : slice_get words here ≡ None =
    ap (λ (st : Stacks). slice_get (words_of st c.args.frame.stack) here) (sym c.cells.invariant.stacks) ∙ sym c.read.ensures ∙ c.in_default.is in
    sym (no_cell words here (c.args.cells - c.cells.index) (g.C.Core.rows c.cells.core) e) ∙ c.cells.invariant.rest

pub cells-preserved : goal.cells-preserved
cells-preserved g c =
    let words = words_of (g.C.Core.stacks c.args.core.now) c.args.frame.stack in
    let here = c.args.frame.at + 2 + c.cells.index in
    let most = c.args.cells - c.cells.index in
    let some : 1 ≤ most = omega (arith, c.cells-test.true) in
    let e : slice_get words here ≡ Some c.in-Some.word =
    ap (λ (st : Stacks). slice_get (words_of st c.args.frame.stack) here) (sym c.cells.invariant.stacks) ∙ sym c.read.ensures ∙ c.in-Some.is in
    let most_is : c.args.cells - (c.cells.index + 1) ≡ most - 1 = omega arith in
    let here_is : c.args.frame.at + 2 + (c.cells.index + 1) ≡ here + 1 = omega arith in
    record {
      stacks = c.close_cell.ensures.stacks ∙ c.cells.invariant.stacks;
      short = c.close_cell.ensures.short;
      within = omega (arith, c.cells-test.true);
      rest = ap (λ (k : ℕ). without_arrays (take k (drop (c.args.frame.at + 2 + (c.cells.index + 1)) words)) (g.C.Core.rows c.close_cell.new.core)) most_is
          ∙ ap (λ (k : ℕ). without_arrays (take (most - 1) (drop k words)) (g.C.Core.rows c.close_cell.new.core)) here_is
          ∙ next_cell words here most c.in-Some.word (g.C.Core.rows c.cells.core) (g.C.Core.rows c.close_cell.new.core) some e c.close_cell.ensures.rows
          ∙ c.cells.invariant.rest;
    }
