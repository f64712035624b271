use Rattle.std.proofs.Common.{sym, ap, ◌∙◌, Option, Some, Ok}
use Rattle.b67_control.specs.Control.{as_pcw}
use Rattle.b67_table.specs.declared.Cell.{Cell}
use Rattle.b67_table.specs.declared.Reached.{Reached}
use Rattle.b67_table.specs.Look.{look_seen}
use Rattle.b67_table.specs.Program.{see}
use Rattle.b67_table.specs.References.{couple_cell, reached}
use Rattle.b67_table.specs.Rows.{value_call, value_or_entry}
use Rattle.b67_deeds.specs.declared.Letter.{Letter}
use Rattle.b67_letters.specs.Letters.{value_letter}
use Rattle.b67_reach.specs.Answers.{looked}
use Rattle.b67_reach.specs.Images.{own_of_image}
use Rattle.b67_reach.proofs.Looking.{tells_look, performs_then}
use Rattle.b67_operators.proofs.Lettering.{told_on, lettered_as}
use Rattle.b67_operators.proofs.entering.value_call.Goals as goal

pub returns-clause-letter : goal.returns-clause-letter
returns-clause-letter g c =
    let st = g.C.Core.stacks c.args.core.now in
    told_on value_letter (look_seen st (reached (couple_cell c.args.regs.now c.args.couple.level c.args.couple.index))) c.in_ok-found.found
    (c.in_ok-found.ensures.value ∙ ap (λ (o : Option Cell). looked (look_seen st (reached o))) c.couple_cell.ensures) c.lettered.result
    (lettered_as c.lettered.result c.entered_or-letter.result (value_letter c.in_ok-found.found) (ap (λ (l : Letter). Some l) (sym c.entered_or-letter.ensures)) c.lettered.ensures.letter)

pub returns-clause-performs : goal.returns-clause-performs
returns-clause-performs g c =
    let st = g.C.Core.stacks c.args.core.now in
    let rows = g.C.Core.rows c.args.core.now in
    let r = c.args.regs.now in
    let look = reached (couple_cell r c.args.couple.level c.args.couple.index) in
    let new = own_of_image (g.C.Core.stacks c.value_or_entry-answer.new.core) (g.C.Core.rows c.value_or_entry-answer.new.core) c.value_or_entry-answer.new.regs in
    c.lettered.ensures.performs (value_call c.args.couple r c.args.next) (own_of_image st rows r) new
    (performs_then (see look) (λ (w : Reached). value_or_entry r c.args.next w (as_pcw w.word)) c.in_ok-found.found (own_of_image st rows r) new c.value_or_entry-answer.result
    (tells_look look st rows (Ok c.in_ok-found.found) (c.in_ok-found.ensures.value ∙ ap (λ (o : Option Cell). looked (look_seen st (reached o))) c.couple_cell.ensures))
    c.value_or_entry-answer.ensures)
