use Rattle.std.proofs.Common.{sym, ap, ◌∙◌, Some}
use Rattle.b67_table.specs.Look.{look_seen}
use Rattle.b67_table.specs.References.{popped_two}
use Rattle.b67_deeds.specs.declared.Letter.{Letter}
use Rattle.b67_letters.specs.Letters.{stored_letter}
use Rattle.b67_operators.proofs.Lettering.{told_two, told_two_err}
use Rattle.b67_action.proofs.letters.stored_letter.Goals as goal

pub returns-in-Ok : goal.returns-in-Ok
returns-in-Ok g c =
    ap (λ (l : Letter). Some l) c.element_or_not.ensures
    ∙ sym (told_two stored_letter (look_seen (g.C.Core.stacks c.args.core.now) (popped_two c.args.regs.now)) c.in-Ok.two.0 c.in-Ok.two.1 c.in-Ok.ensures.value)

pub returns-in-Err : goal.returns-in-Err
returns-in-Err g c = sym (told_two_err stored_letter (look_seen (g.C.Core.stacks c.args.core.now) (popped_two c.args.regs.now)) c.in-Err.field-0 c.in-Err.ensures.value)
