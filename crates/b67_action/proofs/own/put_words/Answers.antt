use Rattle.std.proofs.Common.{◌≡◌, refl, sym, ap, subst, ◌∙◌, ℕ, suc, ◌-◌, ◌<◌, ◌++◌, ◌∷◌, [], take, drop, reverse, length, slice_get, List, Option, IsSome, Some, arith}
use Rattle.b67_word.specs.Word.{Word}
use Rattle.b67_store.specs.Store.{Stacks, stack_at, words_of, words_or, with_stack, with_push, stack_limit}
use Rattle.b67_action.proofs.OwnWords.{none_put, next_put, own_words, one_pushed, is_there, put_long}
use Rattle.b67_action.proofs.own.put_words.Goals as goal

pub putting-init : goal.putting-init
putting-init g c =
    let n = c.args.stack in
    let st = g.C.Core.stacks c.args.core.now in
    record {
      some = omega (arith, c.len-count.ensures.value);
      stacks = c.cut_words.ensures.stacks ∙ ap (λ (z : List Word). with_stack st n z) (sym (none_put (take c.args.base (words_of st n)) c.args.words.now c.len-count.result c.len-count.ensures.value));
      rows = c.cut_words.ensures.rows;
    }

pub unwrap-word-requires : goal.unwrap-word-requires
unwrap-word-requires g c =
    subst (λ (o : Option Word). IsSome o) (sym c.from_top.ensures) (is_there c.args.words.now (c.putting.count - 1) (omega (arith, c.putting.invariant.some, c.putting-test.true)))

pub push_word-requires-clause-open : goal.push_word-requires-clause-open
push_word-requires-clause-open g c =
    let n = c.args.stack in
    let st = g.C.Core.stacks c.args.core.now in
    subst (λ (z : Stacks). IsSome (stack_at z n)) (sym c.putting.invariant.stacks)
    (subst (λ (o : Option (List Word)). IsSome o) (sym (own_words st n c.requires.open (take c.args.base (words_of st n) ++ reverse (drop c.putting.count c.args.words.now)))) refl)

pub push_word-requires-clause-room : goal.push_word-requires-clause-room
push_word-requires-clause-room g c =
    let n = c.args.stack in
    let st = g.C.Core.stacks c.args.core.now in
    let under = take c.args.base (words_of st n) ++ reverse (drop c.putting.count c.args.words.now) in
    let long = put_long (words_of st n) c.args.words.now c.args.base c.putting.count in
    subst (λ (z : Stacks). length (words_of z n) < stack_limit) (sym c.putting.invariant.stacks)
    (subst (λ (o : Option (List Word)). length (words_or o) < stack_limit) (sym (own_words st n c.requires.open under))
    (omega (arith, long, c.putting.invariant.some, c.putting-test.true, c.requires.room)))

pub putting-preserved : goal.putting-preserved
putting-preserved g c =
    let n = c.args.stack in
    let st = g.C.Core.stacks c.args.core.now in
    let base = take c.args.base (words_of st n) in
    let ws = c.args.words.now in
    let count_is : c.putting.count ≡ suc (c.putting.count - 1) = omega (arith, c.putting-test.true) in
    let there : slice_get ws (c.putting.count - 1) ≡ Some c.unwrap-word.result = sym c.from_top.ensures ∙ c.unwrap-word.ensures in
    record {
      some = omega (arith, c.putting.invariant.some);
      stacks = c.push_word.ensures.stacks ∙ ap (λ (z : Stacks). with_push z n c.unwrap-word.result) c.putting.invariant.stacks
          ∙ one_pushed st n c.requires.open (base ++ reverse (drop c.putting.count ws)) c.unwrap-word.result
          ∙ ap (λ (k : ℕ). with_stack st n ((base ++ reverse (drop k ws)) ++ c.unwrap-word.result ∷ [])) count_is
          ∙ ap (λ (z : List Word). with_stack st n z) (next_put base ws (c.putting.count - 1) c.unwrap-word.result there);
      rows = c.push_word.ensures.rows ∙ c.putting.invariant.rows;
    }

pub returns-clause-stacks : goal.returns-clause-stacks
returns-clause-stacks g c =
    let n = c.args.stack in
    let st = g.C.Core.stacks c.args.core.now in
    let none : c.putting.count ≡ 0 = omega (arith, c.putting-test.false) in
    c.putting.invariant.stacks ∙ ap (λ (k : ℕ). with_stack st n (take c.args.base (words_of st n) ++ reverse (drop k c.args.words.now))) none
