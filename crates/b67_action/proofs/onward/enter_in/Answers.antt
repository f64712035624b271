use Rattle.std.proofs.Common.{sym, ap, subst, ◌∙◌, ◌-◌, set, Option}
use Rattle.b67_control.specs.declared.Registers.{Registers}
use Rattle.b67_table.specs.Rows.{enter}
use Rattle.b67_operators.proofs.AtOnce.{well}
use Rattle.b67_operators.proofs.Leaves.{here, set_here}
use Rattle.b67_reach.specs.Images.{Own}
use Rattle.b67_list.proofs.Numbered.{numbered_same}
use Rattle.b67_action.specs.Acting.{EntersPlainly}
use Rattle.b67_action.proofs.Among.{acts_in, has}
use Rattle.b67_action.proofs.onward.enter_in.Goals as goal

pub returns-clause-entered : goal.returns-clause-entered
returns-clause-entered g c = λ done code.
    acts_in (g.C.Core.stacks c.args.core.now) (g.C.Core.rows c.args.core.now) c.args.all.now.items c.args.process c.index_mut-regs.result.now c.requires.linked
    c.index_mut-regs.ensures.value (enter code) c.args.next (g.C.Core.stacks c.enter_at_once.new.core) (g.C.Core.rows c.enter_at_once.new.core) c.enter_at_once.new.regs
    well (c.enter_at_once.ensures.entered done code)

pub returns-clause-calls : goal.returns-clause-calls
returns-clause-calls g c = λ done.
    let st = g.C.Core.stacks c.args.core.now in
    subst (λ (o : Option Registers). EntersPlainly st o)
    (sym (has st (g.C.Core.rows c.args.core.now) c.args.all.now.items c.args.process c.index_mut-regs.result.now c.requires.linked c.index_mut-regs.ensures.value))
    (c.enter_at_once.ensures.calls done)

pub returns-clause-stays : goal.returns-clause-stays
returns-clause-stays g c = λ none.
    let all = c.args.all.now.items in
    let p = c.args.process in
    let r = c.index_mut-regs.result.now in
    let there = here (g.C.Core.stacks c.args.core.now) (g.C.Core.rows c.args.core.now) all p r c.requires.linked c.index_mut-regs.ensures.value in
    let same = c.enter_at_once.ensures.stays none in (
      ap (λ (o : Own). o.stacks) same,
      ap (λ (o : Own). o.rows) same,
      ap (λ (o : Own). set all (p - 1) o.regs) same ∙ set_here all p r there.1 ∙ numbered_same all p r there.0,
    )
