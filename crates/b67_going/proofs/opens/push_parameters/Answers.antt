use Rattle.std.proofs.Common.{◌≡◌, refl, ℕ, Option, sym, ap, subst, ◌∙◌, ◌+◌, ◌<◌, ◌++◌, List, IsSome, Some, length, slice_get, arith}
use Rattle.b67_word.specs.Word.{Word}
use Rattle.b67_store.specs.Store.{Stacks, stack_at, words_of, word_at, with_stack, with_push, stack_limit}
use Rattle.b67_table.specs.Chains.{place}
use Rattle.b67_going.specs.Paths.{some_words}
use Rattle.b67_going.proofs.Opened.{none_pushed, open_still, long, word_there, other_words, one_pushed}
use Rattle.b67_going.proofs.opens.push_parameters.Goals as goal

pub parameters-init : goal.parameters-init
parameters-init g c = record {
  within = omega arith;
  stacks = none_pushed (g.C.Core.stacks c.args.core.now) c.args.number c.requires.open;
  rows = refl;
}

pub unwrap-word-requires : goal.unwrap-word-requires
unwrap-word-requires g c =
    let st = g.C.Core.stacks c.args.core.now in
    let n = c.args.needs.now in
    let ws = words_of st c.args.number ++ some_words st n.stack n.first c.parameters.index in
    subst (λ (o : Option Word). IsSome o) (sym c.read.ensures)
    (subst (λ (z : Stacks). IsSome (word_at z (place n.stack (n.first + c.parameters.index)))) (sym c.parameters.invariant.stacks)
    (word_there st c.args.number ws n.stack (n.first + c.parameters.index) c.requires.other (omega (arith, c.requires.there, c.parameters-test.true))))

pub push_word-requires-clause-open : goal.push_word-requires-clause-open
push_word-requires-clause-open g c =
    let st = g.C.Core.stacks c.args.core.now in
    let n = c.args.needs.now in
    subst (λ (z : Stacks). IsSome (stack_at z c.args.number)) (sym c.parameters.invariant.stacks)
    (open_still st c.args.number (words_of st c.args.number ++ some_words st n.stack n.first c.parameters.index) c.requires.open)

pub push_word-requires-clause-room : goal.push_word-requires-clause-room
push_word-requires-clause-room g c =
    let st = g.C.Core.stacks c.args.core.now in
    let n = c.args.needs.now in
    let short = long st c.args.number (words_of st c.args.number) (words_of st n.stack) n.first c.parameters.index c.requires.open in
    subst (λ (z : Stacks). length (words_of z c.args.number) < stack_limit) (sym c.parameters.invariant.stacks) (omega (arith, short, c.requires.room, c.parameters-test.true))

pub parameters-preserved : goal.parameters-preserved
parameters-preserved g c =
    let st = g.C.Core.stacks c.args.core.now in
    let n = c.args.needs.now in
    let ws = words_of st c.args.number ++ some_words st n.stack n.first c.parameters.index in
    let e : slice_get (words_of st n.stack) (n.first + c.parameters.index) ≡ Some c.unwrap-word.result =
    ap (λ (z : List Word). slice_get z (n.first + c.parameters.index)) (sym (other_words st c.args.number ws n.stack c.requires.other))
    ∙ ap (λ (z : Stacks). word_at z (place n.stack (n.first + c.parameters.index))) (sym c.parameters.invariant.stacks) ∙ sym c.read.ensures ∙ c.unwrap-word.ensures in
    record {
      within = omega (arith, c.parameters-test.true);
      stacks = c.push_word.ensures.stacks ∙ ap (λ (z : Stacks). with_push z c.args.number c.unwrap-word.result) c.parameters.invariant.stacks
          ∙ one_pushed st c.args.number (words_of st c.args.number) (words_of st n.stack) n.first c.parameters.index c.unwrap-word.result c.requires.open e;
      rows = c.push_word.ensures.rows ∙ c.parameters.invariant.rows;
    }

pub returns-clause-stacks : goal.returns-clause-stacks
returns-clause-stacks g c =
    let st = g.C.Core.stacks c.args.core.now in
    let n = c.args.needs.now in
    let all : c.parameters.index ≡ n.count = omega (arith, c.parameters.invariant.within, c.parameters-test.false) in
    c.parameters.invariant.stacks ∙ ap (λ (i : ℕ). with_stack st c.args.number (words_of st c.args.number ++ some_words st n.stack n.first i)) all
