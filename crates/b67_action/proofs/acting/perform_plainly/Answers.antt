use Rattle.std.proofs.Common.{refl, sym, ap, subst}
use Rattle.b67_list.specs.Numbered.{numbered}
use Rattle.b67_list.proofs.Answered.{when_ok}
use Rattle.b67_events.specs.declared.Woken.{Woken}
use Rattle.b67_table.specs.Program.{does}
use Rattle.b67_reach.specs.Images.{image_of}
use Rattle.b67_operators.specs.Leaves.{program_in}
use Rattle.b67_action.specs.declared.rows.Row.{Row}
use Rattle.b67_action.specs.Acting.{row_effect, RowReleases}
use Rattle.b67_action.specs.Among.{with_all, EffectComes}
use Rattle.b67_private.specs.Actions.{words_program}
use Rattle.b67_action.proofs.Coming.{comes_by}
use Rattle.b67_action.proofs.Releasing.{on_same}
use Rattle.b67_action.proofs.acting.perform_plainly.Goals as goal

pub returns-in-Own-clause-comes : goal.returns-in-Own-clause-comes
returns-in-Own-clause-comes g c =
    let img = image_of (g.C.Core.stacks c.args.core.now) (g.C.Core.rows c.args.core.now) c.args.kernel.now c.args.parts.now in
    let new = with_all (g.C.Core.stacks c.perform_own_in.new.core) (g.C.Core.rows c.perform_own_in.new.core) c.perform_own_in.new.all.items img in
    subst (λ (w : Row). EffectComes c.args.process (row_effect w c.args.parts.now.code c.args.op.now c.args.next c.args.process (numbered c.args.parts.now.regs.items c.args.process) img) img new c.perform_own_in.result)
    (sym c.in-Own.is) (c.perform_own_in.ensures.does img refl refl refl)

pub returns-in-Words-clause-comes : goal.returns-in-Words-clause-comes
returns-in-Words-clause-comes g c =
    let p = c.args.process in
    let regs = numbered c.args.parts.now.regs.items p in
    let img = image_of (g.C.Core.stacks c.args.core.now) (g.C.Core.rows c.args.core.now) c.args.kernel.now c.args.parts.now in
    let new = with_all (g.C.Core.stacks c.perform_words.new.core) (g.C.Core.rows c.perform_words.new.core) c.perform_words.new.all.items img in
    let program = program_in (words_program c.in-Words.kind) regs c.args.next in
    subst (λ (w : Row). EffectComes p (row_effect w c.args.parts.now.code c.args.op.now c.args.next p regs img) img new c.plainly.result)
    (sym c.in-Words.is) (c.plainly.ensures.comes p (does p program img) img new (comes_by p program img new c.perform_words.result (c.perform_words.ensures.acts img refl refl refl)))

pub returns-in-Own-clause-woken : goal.returns-in-Own-clause-woken
returns-in-Own-clause-woken g c =
    let img = image_of (g.C.Core.stacks c.args.core.now) (g.C.Core.rows c.args.core.now) c.args.kernel.now c.args.parts.now in
    let before = c.args.parts.now.woken.processes.items in
    when_ok c.perform_own_in.result _
    (subst (λ (w : Row). RowReleases w img (numbered c.args.parts.now.regs.items c.args.process) before before) (sym c.in-Own.is) refl)

pub returns-in-Words-clause-woken : goal.returns-in-Words-clause-woken
returns-in-Words-clause-woken g c =
    let img = image_of (g.C.Core.stacks c.args.core.now) (g.C.Core.rows c.args.core.now) c.args.kernel.now c.args.parts.now in
    let before = c.args.parts.now.woken.processes.items in
    when_ok c.plainly.result _
    (subst (λ (w : Row). RowReleases w img (numbered c.args.parts.now.regs.items c.args.process) before before) (sym c.in-Words.is) refl)

pub returns-in-Exit-clause-woken : goal.returns-in-Exit-clause-woken
returns-in-Exit-clause-woken g c =
    let img = image_of (g.C.Core.stacks c.args.core.now) (g.C.Core.rows c.args.core.now) c.args.kernel.now c.args.parts.now in
    let before = c.args.parts.now.woken.processes.items in
    let after = c.exit.new.parts.woken.processes.items in
    on_same c.exit.result _ _
    (λ x. subst (λ (w : Row). RowReleases w img (numbered c.args.parts.now.regs.items c.args.process) before after) (sym c.in-Exit.is) x) c.exit.ensures.woken

pub returns-in-ReturnValue-clause-woken : goal.returns-in-ReturnValue-clause-woken
returns-in-ReturnValue-clause-woken g c =
    let img = image_of (g.C.Core.stacks c.args.core.now) (g.C.Core.rows c.args.core.now) c.args.kernel.now c.args.parts.now in
    let before = c.args.parts.now.woken.processes.items in
    let after = c.return_value.new.parts.woken.processes.items in
    when_ok c.return_value.result _
    (subst (λ (w : Row). RowReleases w img (numbered c.args.parts.now.regs.items c.args.process) before after) (sym c.in-ReturnValue.is)
    (ap (λ (w : Woken). w.processes.items) c.return_value.ensures.woken))
