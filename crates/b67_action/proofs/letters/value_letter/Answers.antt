use Rattle.std.proofs.Common.{sym, ap, ◌∙◌, Option, Some}
use Rattle.b67_table.specs.declared.Cell.{Cell}
use Rattle.b67_table.specs.Look.{look_seen}
use Rattle.b67_table.specs.References.{couple_cell, reached}
use Rattle.b67_deeds.specs.declared.Letter.{Letter}
use Rattle.b67_letters.specs.Letters.{value_letter}
use Rattle.b67_reach.specs.Answers.{looked}
use Rattle.b67_operators.proofs.Lettering.{told_ok, told_err}
use Rattle.b67_action.proofs.letters.value_letter.Goals as goal

pub returns-in-Ok : goal.returns-in-Ok
returns-in-Ok g c =
    let st = g.C.Core.stacks c.args.core.now in
    ap (λ (l : Letter). Some l) c.entered_or.ensures
    ∙ sym (told_ok value_letter (look_seen st (reached (couple_cell c.args.regs.now c.args.couple.level c.args.couple.index))) c.in-Ok.found
    (c.in-Ok.ensures.value ∙ ap (λ (o : Option Cell). looked (look_seen st (reached o))) c.couple_cell.ensures))

pub returns-in-Err : goal.returns-in-Err
returns-in-Err g c =
    let st = g.C.Core.stacks c.args.core.now in
    sym (told_err value_letter (look_seen st (reached (couple_cell c.args.regs.now c.args.couple.level c.args.couple.index))) c.in-Err.field-0
    (c.in-Err.ensures.value ∙ ap (λ (o : Option Cell). looked (look_seen st (reached o))) c.couple_cell.ensures))
