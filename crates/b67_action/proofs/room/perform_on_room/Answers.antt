use Rattle.std.proofs.Common.{refl, sym, ap, subst, ◌∙◌, Bool}
use Rattle.b67_deeds.specs.declared.Letter.TheVariants as letters
use Rattle.b67_private.specs.declared.operators.WordsRow.{WordsRow}
use Rattle.b67_private.specs.declared.operators.WordsRow.TheVariants as words
use Rattle.b67_private.specs.Actions.{words_program}
use Rattle.b67_action.specs.Lettered.{LettersOn}
use Rattle.b67_action.specs.OnRoom.{PerformsOn}
use Rattle.b67_action.proofs.Went.{went_so, none_went}
use Rattle.b67_action.proofs.room.perform_on_room.Goals as goal

pub returns-in-ValueCall-clause-done : goal.returns-in-ValueCall-clause-done
returns-in-ValueCall-clause-done c =
    went_so c.value.result letters.Read (λ named. PerformsOn (words_program c.args.row c.args.regs.now c.args.next) c.args.regs.now c.args.room.now c.value.new.regs c.value.new.room) c.if_went.result c.if_went.ensures
    (λ done. subst (λ (w : WordsRow). PerformsOn (words_program w c.args.regs.now c.args.next) c.args.regs.now c.args.room.now c.value.new.regs c.value.new.room) (sym c.in-ValueCall.is) (c.value.ensures.done done))

pub returns-in-ValueCall-clause-letter : goal.returns-in-ValueCall-clause-letter
returns-in-ValueCall-clause-letter c =
    went_so c.value.result letters.Read (LettersOn c.args.row c.args.regs.now c.args.room.now) c.if_went.result c.if_went.ensures
    (λ done. subst (λ (w : WordsRow). LettersOn w c.args.regs.now c.args.room.now letters.Read) (sym c.in-ValueCall.is) (c.value.ensures.letter done))

pub returns-in-ValueCall-clause-none : goal.returns-in-ValueCall-clause-none
returns-in-ValueCall-clause-none c = λ none. c.value.ensures.none (none_went c.value.result letters.Read c.if_went.result c.if_went.ensures none)

pub returns-else-keeps-clause-done : goal.returns-else-keeps-clause-done
returns-else-keeps-clause-done c =
    went_so c.store.result letters.Store (λ named. PerformsOn (words_program c.args.row c.args.regs.now c.args.next) c.args.regs.now c.args.room.now c.store.new.regs c.store.new.room) c.if_went-else-keeps.result c.if_went-else-keeps.ensures
    (λ done. subst (λ (w : WordsRow). PerformsOn (words_program w c.args.regs.now c.args.next) c.args.regs.now c.args.room.now c.store.new.regs c.store.new.room) (sym (c.in-Store.is ∙ ap (λ (b : Bool). words.Store b) c.if-keeps.false)) (c.store.ensures.done done))

pub returns-else-keeps-clause-letter : goal.returns-else-keeps-clause-letter
returns-else-keeps-clause-letter c =
    went_so c.store.result letters.Store (LettersOn c.args.row c.args.regs.now c.args.room.now) c.if_went-else-keeps.result c.if_went-else-keeps.ensures
    (λ done. subst (λ (w : WordsRow). LettersOn w c.args.regs.now c.args.room.now letters.Store) (sym (c.in-Store.is ∙ ap (λ (b : Bool). words.Store b) c.if-keeps.false)) (c.store.ensures.letter done))

pub returns-else-keeps-clause-none : goal.returns-else-keeps-clause-none
returns-else-keeps-clause-none c = λ none. c.store.ensures.none (none_went c.store.result letters.Store c.if_went-else-keeps.result c.if_went-else-keeps.ensures none)

pub returns-in-Turn-clause-done : goal.returns-in-Turn-clause-done
returns-in-Turn-clause-done c =
    went_so c.turn.result letters.Turn (λ named. PerformsOn (words_program c.args.row c.args.regs.now c.args.next) c.args.regs.now c.args.room.now c.turn.new.regs c.args.room.now) c.if_went-in-Turn.result c.if_went-in-Turn.ensures
    (λ done. subst (λ (w : WordsRow). PerformsOn (words_program w c.args.regs.now c.args.next) c.args.regs.now c.args.room.now c.turn.new.regs c.args.room.now) (sym c.in-Turn.is) (c.turn.ensures.done done))

pub returns-in-Turn-clause-letter : goal.returns-in-Turn-clause-letter
returns-in-Turn-clause-letter c =
    went_so c.turn.result letters.Turn (LettersOn c.args.row c.args.regs.now c.args.room.now) c.if_went-in-Turn.result c.if_went-in-Turn.ensures
    (λ done. subst (λ (w : WordsRow). LettersOn w c.args.regs.now c.args.room.now letters.Turn) (sym c.in-Turn.is) (λ stacks there. refl))

pub returns-in-Turn-clause-none : goal.returns-in-Turn-clause-none
returns-in-Turn-clause-none c = λ none. (c.turn.ensures.none (none_went c.turn.result letters.Turn c.if_went-in-Turn.result c.if_went-in-Turn.ensures none), refl)

pub returns-in-Index-clause-done : goal.returns-in-Index-clause-done
returns-in-Index-clause-done c =
    went_so c.index.result letters.Index (λ named. PerformsOn (words_program c.args.row c.args.regs.now c.args.next) c.args.regs.now c.args.room.now c.index.new.regs c.index.new.room) c.if_went-in-Index.result c.if_went-in-Index.ensures
    (λ done. subst (λ (w : WordsRow). PerformsOn (words_program w c.args.regs.now c.args.next) c.args.regs.now c.args.room.now c.index.new.regs c.index.new.room) (sym c.in-Index.is) (c.index.ensures.done done))

pub returns-in-Index-clause-letter : goal.returns-in-Index-clause-letter
returns-in-Index-clause-letter c =
    went_so c.index.result letters.Index (LettersOn c.args.row c.args.regs.now c.args.room.now) c.if_went-in-Index.result c.if_went-in-Index.ensures
    (λ done. subst (λ (w : WordsRow). LettersOn w c.args.regs.now c.args.room.now letters.Index) (sym c.in-Index.is) (λ stacks there. refl))

pub returns-in-Index-clause-none : goal.returns-in-Index-clause-none
returns-in-Index-clause-none c = λ none. c.index.ensures.none (none_went c.index.result letters.Index c.if_went-in-Index.result c.if_went-in-Index.ensures none)
