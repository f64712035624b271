use Rattle.std.proofs.Common.{refl, ap, Some}
use Rattle.b67_list.specs.Numbered.{numbered}
use Rattle.b67_deeds.specs.declared.Letter.{Letter}
use Rattle.b67_reach.specs.Images.{image_of}
use Rattle.b67_action.proofs.Lettering.{row_lettered}
use Rattle.b67_action.proofs.letters.row_letter.Goals as goal

pub returns-in-Own : goal.returns-in-Own
returns-in-Own g c = λ kernel.
    let img = image_of (g.C.Core.stacks c.args.core.now) (g.C.Core.rows c.args.core.now) kernel c.args.parts.now in
    row_lettered img (numbered c.args.parts.now.regs.items c.args.process) c.registers-regs.result.now c.args.row _ _ c.registers-regs.ensures c.in-Own.is refl

pub returns-in-Words : goal.returns-in-Words
returns-in-Words g c = λ kernel.
    let img = image_of (g.C.Core.stacks c.args.core.now) (g.C.Core.rows c.args.core.now) kernel c.args.parts.now in
    row_lettered img (numbered c.args.parts.now.regs.items c.args.process) c.registers-regs.result.now c.args.row _ _ c.registers-regs.ensures c.in-Words.is c.words_letter.ensures

pub returns-in-Exit : goal.returns-in-Exit
returns-in-Exit g c = λ kernel.
    let img = image_of (g.C.Core.stacks c.args.core.now) (g.C.Core.rows c.args.core.now) kernel c.args.parts.now in
    row_lettered img (numbered c.args.parts.now.regs.items c.args.process) c.registers-regs.result.now c.args.row _ _ c.registers-regs.ensures c.in-Exit.is
    (ap (λ (l : Letter). Some l) c.left_letter.ensures)

pub returns-in-ReturnValue : goal.returns-in-ReturnValue
returns-in-ReturnValue g c = λ kernel.
    let img = image_of (g.C.Core.stacks c.args.core.now) (g.C.Core.rows c.args.core.now) kernel c.args.parts.now in
    row_lettered img (numbered c.args.parts.now.regs.items c.args.process) c.registers-regs.result.now c.args.row _ _ c.registers-regs.ensures c.in-ReturnValue.is refl
