use Rattle.std.proofs.Common.{sym, ap, ◌∙◌, Some}
use Rattle.b67_table.specs.Look.{look_seen}
use Rattle.b67_table.specs.References.{popped}
use Rattle.b67_deeds.specs.declared.Letter.{Letter}
use Rattle.b67_letters.specs.Letters.{loaded_letter}
use Rattle.b67_operators.proofs.Lettering.{told_ok, told_err}
use Rattle.b67_action.proofs.letters.loaded_letter.Goals as goal

pub returns-in-Ok : goal.returns-in-Ok
returns-in-Ok g c =
    let r = c.args.regs.now in
    ap (λ (l : Letter). Some l) c.element_or_not.ensures ∙ sym (told_ok loaded_letter (look_seen (g.C.Core.stacks c.args.core.now) (popped r)) c.in-Ok.x c.in-Ok.ensures.value)

pub returns-in-Err : goal.returns-in-Err
returns-in-Err g c =
    let r = c.args.regs.now in
    sym (told_err loaded_letter (look_seen (g.C.Core.stacks c.args.core.now) (popped r)) c.in-Err.field-0 c.in-Err.ensures.value)
