use Rattle.std.proofs.Common.{◌≡◌, refl, sym, ap, subst, ◌∙◌, Bool, Some, Ok}
use Rattle.b67_store.specs.Store.{with_cut}
use Rattle.b67_deeds.specs.declared.Letter.TheVariants as letters
use Rattle.b67_private.specs.declared.operators.WordsRow.{WordsRow}
use Rattle.b67_private.specs.declared.operators.WordsRow.TheVariants as words
use Rattle.b67_private.specs.Actions.{words_program}
use Rattle.b67_private.specs.Lettered.{words_letter}
use Rattle.b67_reach.specs.Answers.{ProgramPerforms}
use Rattle.b67_action.specs.Reaching.{own_of}
use Rattle.b67_action.proofs.Went.{went_so, none_went}
use Rattle.b67_action.proofs.elements.reach_at_once.Goals as goal

pub returns-in-IndexAndLoad-clause-done : goal.returns-in-IndexAndLoad-clause-done
returns-in-IndexAndLoad-clause-done g c =
    let st = g.C.Core.stacks c.args.core.now in
    let rows = g.C.Core.rows c.args.core.now in
    let r = c.args.regs.now in
    let new = own_of (g.C.Core.stacks c.load_element.new.core) (g.C.Core.rows c.load_element.new.core) c.load_element.new.regs in
    went_so c.load_element.result letters.ElementRead (λ named. ProgramPerforms {A = Unit {0}} (words_program c.args.kind r c.args.next) (own_of st rows r) new (Ok (tt {0}))) c.if_went.result c.if_went.ensures
    (λ done. subst (λ (w : WordsRow). ProgramPerforms {A = Unit {0}} (words_program w r c.args.next) (own_of st rows r) new (Ok (tt {0}))) (sym c.in-IndexAndLoad.is) (c.load_element.ensures.done done))

pub returns-in-IndexAndLoad-clause-letter : goal.returns-in-IndexAndLoad-clause-letter
returns-in-IndexAndLoad-clause-letter g c =
    let cut = with_cut (g.C.Core.stacks c.args.core.now) c.args.regs.now.stack c.args.regs.now.s in
    went_so c.load_element.result letters.ElementRead (λ named. words_letter c.args.kind cut c.args.regs.now ≡ Some named) c.if_went.result c.if_went.ensures
    (λ done. subst (λ (w : WordsRow). words_letter w cut c.args.regs.now ≡ Some letters.ElementRead) (sym c.in-IndexAndLoad.is) (refl))

pub returns-in-IndexAndLoad-clause-none : goal.returns-in-IndexAndLoad-clause-none
returns-in-IndexAndLoad-clause-none g c = λ none. c.load_element.ensures.none (none_went c.load_element.result letters.ElementRead c.if_went.result c.if_went.ensures none)

pub returns-in-IndexMother-clause-done : goal.returns-in-IndexMother-clause-done
returns-in-IndexMother-clause-done g c =
    let st = g.C.Core.stacks c.args.core.now in
    let rows = g.C.Core.rows c.args.core.now in
    let r = c.args.regs.now in
    let new = own_of (g.C.Core.stacks c.load_row.new.core) (g.C.Core.rows c.load_row.new.core) c.load_row.new.regs in
    went_so c.load_row.result letters.Index (λ named. ProgramPerforms {A = Unit {0}} (words_program c.args.kind r c.args.next) (own_of st rows r) new (Ok (tt {0}))) c.if_went-in-IndexMother.result c.if_went-in-IndexMother.ensures
    (λ done. subst (λ (w : WordsRow). ProgramPerforms {A = Unit {0}} (words_program w r c.args.next) (own_of st rows r) new (Ok (tt {0}))) (sym c.in-IndexMother.is) (c.load_row.ensures.done done))

pub returns-in-IndexMother-clause-letter : goal.returns-in-IndexMother-clause-letter
returns-in-IndexMother-clause-letter g c =
    let cut = with_cut (g.C.Core.stacks c.args.core.now) c.args.regs.now.stack c.args.regs.now.s in
    went_so c.load_row.result letters.Index (λ named. words_letter c.args.kind cut c.args.regs.now ≡ Some named) c.if_went-in-IndexMother.result c.if_went-in-IndexMother.ensures
    (λ done. subst (λ (w : WordsRow). words_letter w cut c.args.regs.now ≡ Some letters.Index) (sym c.in-IndexMother.is) (refl))

pub returns-in-IndexMother-clause-none : goal.returns-in-IndexMother-clause-none
returns-in-IndexMother-clause-none g c = λ none. c.load_row.ensures.none (none_went c.load_row.result letters.Index c.if_went-in-IndexMother.result c.if_went-in-IndexMother.ensures none)

pub returns-else-keeps-clause-done : goal.returns-else-keeps-clause-done
returns-else-keeps-clause-done g c =
    let st = g.C.Core.stacks c.args.core.now in
    let rows = g.C.Core.rows c.args.core.now in
    let r = c.args.regs.now in
    let new = own_of (g.C.Core.stacks c.store_element.new.core) (g.C.Core.rows c.store_element.new.core) c.store_element.new.regs in
    went_so c.store_element.result letters.ElementStore (λ named. ProgramPerforms {A = Unit {0}} (words_program c.args.kind r c.args.next) (own_of st rows r) new (Ok (tt {0}))) c.if_went-else-keeps.result c.if_went-else-keeps.ensures
    (λ done. subst (λ (w : WordsRow). ProgramPerforms {A = Unit {0}} (words_program w r c.args.next) (own_of st rows r) new (Ok (tt {0}))) (sym (c.in-Store.is ∙ ap (λ (b : Bool). words.Store b) c.if-keeps.false)) (c.store_element.ensures.done done))

pub returns-else-keeps-clause-letter : goal.returns-else-keeps-clause-letter
returns-else-keeps-clause-letter g c =
    let cut = with_cut (g.C.Core.stacks c.args.core.now) c.args.regs.now.stack c.args.regs.now.s in
    went_so c.store_element.result letters.ElementStore (λ named. words_letter c.args.kind cut c.args.regs.now ≡ Some named) c.if_went-else-keeps.result c.if_went-else-keeps.ensures
    (λ done. subst (λ (w : WordsRow). words_letter w cut c.args.regs.now ≡ Some letters.ElementStore) (sym (c.in-Store.is ∙ ap (λ (b : Bool). words.Store b) c.if-keeps.false)) (c.store_element.ensures.letter done))

pub returns-else-keeps-clause-none : goal.returns-else-keeps-clause-none
returns-else-keeps-clause-none g c = λ none. c.store_element.ensures.none (none_went c.store_element.result letters.ElementStore c.if_went-else-keeps.result c.if_went-else-keeps.ensures none)
