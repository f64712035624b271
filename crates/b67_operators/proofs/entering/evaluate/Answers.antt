use Rattle.std.proofs.Common.{sym, ap, Some, Ok}
use Rattle.b67_word.specs.Word.{Word}
use Rattle.b67_control.specs.Control.{as_pcw}
use Rattle.b67_table.specs.declared.Reached.{Reached}
use Rattle.b67_table.specs.Look.{look_seen, ◌>->◌}
use Rattle.b67_table.specs.Program.{see}
use Rattle.b67_table.specs.References.{popped, cell_of, reached}
use Rattle.b67_table.specs.Rows.{evaluate, cell_or_entry}
use Rattle.b67_deeds.specs.declared.Letter.{Letter}
use Rattle.b67_letters.specs.Letters.{place_letter}
use Rattle.b67_reach.specs.Images.{own_of_image}
use Rattle.b67_reach.proofs.Looking.{tells_look, performs_then}
use Rattle.b67_operators.proofs.Lettering.{told_on, lettered_as}
use Rattle.b67_operators.proofs.entering.evaluate.Goals as goal

pub returns-clause-letter : goal.returns-clause-letter
returns-clause-letter g c =
    let r = c.args.regs.now in
    told_on place_letter (look_seen (g.C.Core.stacks c.args.core.now) (popped r >-> (λ (x : Word). reached (cell_of r x)))) c.in_ok-found.found c.in_ok-found.ensures.value c.lettered.result
    (lettered_as c.lettered.result c.entered_or-letter.result (place_letter c.in_ok-found.found) (ap (λ (l : Letter). Some l) (sym c.entered_or-letter.ensures)) c.lettered.ensures.letter)

pub returns-clause-performs : goal.returns-clause-performs
returns-clause-performs g c =
    let st = g.C.Core.stacks c.args.core.now in
    let rows = g.C.Core.rows c.args.core.now in
    let r = c.args.regs.now in
    let look = popped r >-> (λ (x : Word). reached (cell_of r x)) in
    let new = own_of_image (g.C.Core.stacks c.cell_or_entry-answer.new.core) (g.C.Core.rows c.cell_or_entry-answer.new.core) c.cell_or_entry-answer.new.regs in
    c.lettered.ensures.performs (evaluate r c.args.next) (own_of_image st rows r) new
    (performs_then (see look) (λ (w : Reached). cell_or_entry r c.args.next w (as_pcw w.word)) c.in_ok-found.found (own_of_image st rows r) new c.cell_or_entry-answer.result
    (tells_look look st rows (Ok c.in_ok-found.found) c.in_ok-found.ensures.value) c.cell_or_entry-answer.ensures)
