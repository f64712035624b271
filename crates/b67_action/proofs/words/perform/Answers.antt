use Rattle.std.proofs.Common.{sym, ap, subst}
use Rattle.b67_deeds.specs.declared.Letter.TheVariants as letters
use Rattle.b67_private.specs.declared.operators.WordsRow.{WordsRow}
use Rattle.b67_private.specs.declared.operators.WordsRow.TheVariants as words
use Rattle.b67_private.specs.Actions.{words_program}
use Rattle.b67_private.specs.Lettered.{words_letter}
use Rattle.b67_reach.specs.Answers.{ProgramPerforms}
use Rattle.b67_reach.specs.Images.{own_of_image}
use Rattle.b67_operators.proofs.Lettering.{lettered_as}
use Rattle.b67_action.proofs.words.perform.Goals as goal

pub returns-in-Turn-clause-performs : goal.returns-in-Turn-clause-performs
returns-in-Turn-clause-performs g c =
    let r = c.args.regs.now in
    let old = own_of_image (g.C.Core.stacks c.args.core.now) (g.C.Core.rows c.args.core.now) r in
    let new = own_of_image (g.C.Core.stacks c.turn.new.core) (g.C.Core.rows c.turn.new.core) c.turn.new.regs in
    subst (λ (w : WordsRow). ProgramPerforms (words_program w r c.args.next) old new c.lettered.result) (sym c.in-Turn.is)
    (c.lettered.ensures.performs (words_program (words.Turn c.in-Turn.kind c.in-Turn.target) r c.args.next) old new c.turn.ensures)

pub returns-in-Turn-clause-letter : goal.returns-in-Turn-clause-letter
returns-in-Turn-clause-letter g c =
    let st = g.C.Core.stacks c.args.core.now in
    lettered_as c.lettered.result letters.Turn (words_letter c.args.row st c.args.regs.now) (ap (λ (w : WordsRow). words_letter w st c.args.regs.now) c.in-Turn.is) c.lettered.ensures.letter

pub returns-in-LoadThrough-clause-performs : goal.returns-in-LoadThrough-clause-performs
returns-in-LoadThrough-clause-performs g c =
    let r = c.args.regs.now in
    let old = own_of_image (g.C.Core.stacks c.args.core.now) (g.C.Core.rows c.args.core.now) r in
    let new = own_of_image (g.C.Core.stacks c.load_through.new.core) (g.C.Core.rows c.load_through.new.core) c.load_through.new.regs in
    subst (λ (w : WordsRow). ProgramPerforms (words_program w r c.args.next) old new c.lettered-in-LoadThrough.result) (sym c.in-LoadThrough.is)
    (c.lettered-in-LoadThrough.ensures.performs (words_program words.LoadThrough r c.args.next) old new c.load_through.ensures)

pub returns-in-LoadThrough-clause-letter : goal.returns-in-LoadThrough-clause-letter
returns-in-LoadThrough-clause-letter g c =
    let st = g.C.Core.stacks c.args.core.now in
    lettered_as c.lettered-in-LoadThrough.result letters.Pass (words_letter c.args.row st c.args.regs.now) (ap (λ (w : WordsRow). words_letter w st c.args.regs.now) c.in-LoadThrough.is) c.lettered-in-LoadThrough.ensures.letter

pub returns-in-Index-clause-performs : goal.returns-in-Index-clause-performs
returns-in-Index-clause-performs g c =
    let r = c.args.regs.now in
    let old = own_of_image (g.C.Core.stacks c.args.core.now) (g.C.Core.rows c.args.core.now) r in
    let new = own_of_image (g.C.Core.stacks c.index.new.core) (g.C.Core.rows c.index.new.core) c.index.new.regs in
    subst (λ (w : WordsRow). ProgramPerforms (words_program w r c.args.next) old new c.lettered-in-Index.result) (sym c.in-Index.is)
    (c.lettered-in-Index.ensures.performs (words_program words.Index r c.args.next) old new c.index.ensures)

pub returns-in-Index-clause-letter : goal.returns-in-Index-clause-letter
returns-in-Index-clause-letter g c =
    let st = g.C.Core.stacks c.args.core.now in
    lettered_as c.lettered-in-Index.result letters.Index (words_letter c.args.row st c.args.regs.now) (ap (λ (w : WordsRow). words_letter w st c.args.regs.now) c.in-Index.is) c.lettered-in-Index.ensures.letter

pub returns-in-IndexAndLoad-clause-performs : goal.returns-in-IndexAndLoad-clause-performs
returns-in-IndexAndLoad-clause-performs g c =
    let r = c.args.regs.now in
    let old = own_of_image (g.C.Core.stacks c.args.core.now) (g.C.Core.rows c.args.core.now) r in
    let new = own_of_image (g.C.Core.stacks c.index_and_load.new.core) (g.C.Core.rows c.index_and_load.new.core) c.index_and_load.new.regs in
    subst (λ (w : WordsRow). ProgramPerforms (words_program w r c.args.next) old new c.lettered-in-IndexAndLoad.result) (sym c.in-IndexAndLoad.is)
    (c.lettered-in-IndexAndLoad.ensures.performs (words_program words.IndexAndLoad r c.args.next) old new c.index_and_load.ensures)

pub returns-in-IndexAndLoad-clause-letter : goal.returns-in-IndexAndLoad-clause-letter
returns-in-IndexAndLoad-clause-letter g c =
    let st = g.C.Core.stacks c.args.core.now in
    lettered_as c.lettered-in-IndexAndLoad.result letters.ElementRead (words_letter c.args.row st c.args.regs.now) (ap (λ (w : WordsRow). words_letter w st c.args.regs.now) c.in-IndexAndLoad.is) c.lettered-in-IndexAndLoad.ensures.letter

pub returns-in-IndexMother-clause-performs : goal.returns-in-IndexMother-clause-performs
returns-in-IndexMother-clause-performs g c =
    let r = c.args.regs.now in
    let old = own_of_image (g.C.Core.stacks c.args.core.now) (g.C.Core.rows c.args.core.now) r in
    let new = own_of_image (g.C.Core.stacks c.index_mother.new.core) (g.C.Core.rows c.index_mother.new.core) c.index_mother.new.regs in
    subst (λ (w : WordsRow). ProgramPerforms (words_program w r c.args.next) old new c.lettered-in-IndexMother.result) (sym c.in-IndexMother.is)
    (c.lettered-in-IndexMother.ensures.performs (words_program words.IndexMother r c.args.next) old new c.index_mother.ensures)

pub returns-in-IndexMother-clause-letter : goal.returns-in-IndexMother-clause-letter
returns-in-IndexMother-clause-letter g c =
    let st = g.C.Core.stacks c.args.core.now in
    lettered_as c.lettered-in-IndexMother.result letters.Index (words_letter c.args.row st c.args.regs.now) (ap (λ (w : WordsRow). words_letter w st c.args.regs.now) c.in-IndexMother.is) c.lettered-in-IndexMother.ensures.letter
