use Rattle.std.proofs.Common.{sym, ap, ◌∙◌, Some}
use Rattle.b67_word.specs.Word.{Word}
use Rattle.b67_table.specs.Look.{look_seen, ◌>->◌}
use Rattle.b67_table.specs.References.{popped, cell_of, reached}
use Rattle.b67_deeds.specs.declared.Letter.{Letter}
use Rattle.b67_letters.specs.Letters.{place_letter}
use Rattle.b67_operators.proofs.Lettering.{told_ok, told_err}
use Rattle.b67_action.proofs.letters.place_letter.Goals as goal

pub returns-in-Ok : goal.returns-in-Ok
returns-in-Ok g c =
    let r = c.args.regs.now in
    ap (λ (l : Letter). Some l) c.entered_or.ensures ∙ sym (told_ok place_letter (look_seen (g.C.Core.stacks c.args.core.now) (popped r >-> (λ (x : Word). reached (cell_of r x)))) c.in-Ok.found c.in-Ok.ensures.value)

pub returns-in-Err : goal.returns-in-Err
returns-in-Err g c =
    let r = c.args.regs.now in
    sym (told_err place_letter (look_seen (g.C.Core.stacks c.args.core.now) (popped r >-> (λ (x : Word). reached (cell_of r x)))) c.in-Err.field-0 c.in-Err.ensures.value)
