use Rattle.std.proofs.Common.{◌∙◌, ◌+◌, ap, subst, sym, length, List, IsSome, arith}
use Rattle.b67_word.specs.Word.{Word}
use Rattle.b67_word.proofs.Cited.{one_longer}
use Rattle.b67_control.specs.Control.{descriptor_word}
use Rattle.b67_store.specs.Store.{Stacks, stack_at, words_of, with_push}
use Rattle.b67_intrinsics.proofs.Pushing.{ArePushed, pushed_words, still_open, pushed_more, pushed_all}
use Rattle.b67_intrinsics.proofs.marks.push_all.Goals as goal

pub pushing-preserved : goal.pushing-preserved
pushing-preserved g c =
    let first = g.C.Core.stacks c.args.core.now in
    let now = g.C.Core.stacks c.pushing.core in
    let n = c.args.stack in
    let xs = c.args.arrays.now in
    let x = c.descriptor_at-array.result in
    let is = c.push_word.ensures.stacks ∙ ap (λ (w : Word). with_push now n w) c.pack.ensures in
    record {
      pushed = subst (λ (st : Stacks). ArePushed first st n xs (c.pushing.at + 1)) (sym is) (pushed_more first now n xs c.pushing.at x c.descriptor_at-array.ensures.value c.pushing.invariant.pushed);
      opened = subst (λ (st : Stacks). IsSome (stack_at st n)) (sym is) (still_open now n (descriptor_word x) c.pushing.invariant.opened);
      size = omega (arith, ap (λ (st : Stacks). length (words_of st n)) is, ap (λ (ws : List Word). length ws) (pushed_words now n (descriptor_word x) c.pushing.invariant.opened), one_longer (words_of now n) (descriptor_word x), c.pushing.invariant.size);
      rows = c.push_word.ensures.rows ∙ c.pushing.invariant.rows;
    }

pub returns-clause-stacks : goal.returns-clause-stacks
returns-clause-stacks g c =
    pushed_all (g.C.Core.stacks c.args.core.now) (g.C.Core.stacks c.pushing.core) c.args.stack c.args.arrays.now c.pushing.at (omega (arith, c.pushing-test.false)) c.pushing.invariant.pushed
