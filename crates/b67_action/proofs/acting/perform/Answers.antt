use Rattle.std.proofs.Common.{sym, subst, OnOk}
use Rattle.std.specs.Prelude.{◌≡◌, IfSome}
use Rattle.b67_list.specs.Numbered.{numbered}
use Rattle.b67_list.proofs.Answered.{when_ok}
use Rattle.b67_reach.specs.Images.{image_of}
use Rattle.b67_action.specs.declared.rows.Row.{Row}
use Rattle.b67_action.specs.Lettered.{row_letter}
use Rattle.b67_action.proofs.acting.perform.Goals as goal

pub returns-in-Enter-clause-letter : goal.returns-in-Enter-clause-letter
returns-in-Enter-clause-letter g c =
    let img = image_of (g.C.Core.stacks c.args.core.now) (g.C.Core.rows c.args.core.now) c.args.kernel.now c.args.parts.now in
    subst (λ (w : Row). OnOk c.enter.result (IfSome (numbered c.args.parts.now.regs.items c.args.process) (λ r. c.enter.new.letter ≡ row_letter w img r)))
    (sym c.in-Enter.is) c.enter.ensures.letter

pub returns-in_default-clause-letter : goal.returns-in_default-clause-letter
returns-in_default-clause-letter g c = when_ok c.hindered.result _ (c.row_letter.ensures c.args.kernel.now)
