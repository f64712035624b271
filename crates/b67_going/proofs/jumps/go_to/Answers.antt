use Rattle.std.proofs.Common.{◌≡◌, refl, sym, ap, subst, ◌∙◌, ◌-◌, ◌<◌, ◌≤◌, ℕ, List, slice_set, Option, Some, Ok}
use Rattle.b67_list.specs.Numbered.{numbered}
use Rattle.b67_word.specs.declared.Place.{Place}
use Rattle.b67_control.specs.declared.Registers.{Registers}
use Rattle.b67_store.specs.Store.{words_of}
use Rattle.b67_table.specs.GoingTo.{go_to, gone_to}
use Rattle.b67_table.specs.Image.{with_events}
use Rattle.b67_table.specs.Look.{look_seen}
use Rattle.b67_table.specs.Program.{changed}
use Rattle.b67_table.specs.Private.{display_at}
use Rattle.b67_linkage.specs.Held.{IsLinked}
use Rattle.b67_linkage.specs.Leaving.{cutting}
use Rattle.b67_reach.specs.Images.{image_of, own_of_image, with_own}
use Rattle.b67_reach.specs.Answers.{ProgramActs}
use Rattle.b67_intrinsics.specs.Called.{arguments, called_in}
use Rattle.b67_going.specs.Targets.{tabled, named_target, IsClear}
use Rattle.b67_going.proofs.Numbers.{is_within, read_is, written_is, then_there}
use Rattle.b67_going.proofs.Started.{calling}
use Rattle.b67_going.proofs.Above.{target_was, way_stops, acts_exit, goes}
use Rattle.b67_going.proofs.jumps.go_to.Goals as goal

pub returns-in_err-may_go-clause-acts : goal.returns-in_err-may_go-clause-acts
returns-in_err-may_go-clause-acts g c = λ next mark.
    let st = g.C.Core.stacks c.args.core.now in
    let rows = g.C.Core.rows c.args.core.now in
    let p = c.args.process in
    let all = c.args.parts.now.regs.items in
    let r = c.registers-regs.result.now in
    let img = image_of st rows c.args.kernel.now c.args.parts.now in
    let code = c.args.parts.now.code in
    let t = tabled c.in_ok-target.target in
    let to = target_was (look_seen st (named_target r (arguments st r))) c.in_ok-target.target c.in_ok-target.ensures.value in
    let stop = c.in_err-may_go.field-0.0 in
    let res = c.from_residual-in_err-may_go.result in
    let routes = c.in_err-may_go.ensures.routes img refl (sym c.deref.ensures.value) (sym c.deref-2.ensures.value) in
    subst (λ (o : Option Registers). ProgramActs p (called_in go_to code o next mark) img img res) (sym c.registers-regs.ensures)
    (acts_exit p (called_in go_to code (Some r) next mark) img res stop c.from_residual-in_err-may_go.ensures.1
    (way_stops code r next mark img p t to stop (routes p _)))

pub index_mut-regs-requires : goal.index_mut-regs-requires
index_mut-regs-requires g c =
    let st = g.C.Core.stacks c.args.core.now in
    let rows = g.C.Core.rows c.args.core.now in
    let p = c.args.process in
    let all = c.args.parts.now.regs.items in
    let r = c.registers-regs.result.now in
    subst (λ (n : ℕ). p - 1 < n) (sym c.args.parts.now.regs.ok.0) (is_within all p r c.registers-regs.ensures)

pub leave_above-requires-clause-linked : goal.leave_above-requires-clause-linked
leave_above-requires-clause-linked g c =
    let st = g.C.Core.stacks c.args.core.now in
    let rows = g.C.Core.rows c.args.core.now in
    let p = c.args.process in
    let all = c.args.parts.now.regs.items in
    let r = c.registers-regs.result.now in
    let same = read_is all p r c.index_mut-regs.result.now _ c.registers-regs.ensures c.index_mut-regs.ensures.value in
    subst (IsLinked st rows) (sym same) (calling st rows (numbered all p) r c.requires c.registers-regs.ensures).0

pub leave_above-requires-clause-high : goal.leave_above-requires-clause-high
leave_above-requires-clause-high g c =
    let st = g.C.Core.stacks c.args.core.now in
    let rows = g.C.Core.rows c.args.core.now in
    let p = c.args.process in
    let all = c.args.parts.now.regs.items in
    let r = c.registers-regs.result.now in
    let same = read_is all p r c.index_mut-regs.result.now _ c.registers-regs.ensures c.index_mut-regs.ensures.value in
    subst (λ (q : Registers). c.in_ok-target.target.level ≤ q.ll) (sym same) c.in_ok-target.ensures.high

pub leave_above-requires-clause-frame : goal.leave_above-requires-clause-frame
leave_above-requires-clause-frame g c =
    let st = g.C.Core.stacks c.args.core.now in
    let rows = g.C.Core.rows c.args.core.now in
    let p = c.args.process in
    let all = c.args.parts.now.regs.items in
    let r = c.registers-regs.result.now in
    let same = read_is all p r c.index_mut-regs.result.now _ c.registers-regs.ensures c.index_mut-regs.ensures.value in
    subst (λ (q : Registers). display_at q c.in_ok-target.target.level ≡ Some c.in_ok-target.target.frame) (sym same) c.in_ok-target.ensures.frame

pub leave_above-requires-clause-own : goal.leave_above-requires-clause-own
leave_above-requires-clause-own g c =
    let st = g.C.Core.stacks c.args.core.now in
    let rows = g.C.Core.rows c.args.core.now in
    let p = c.args.process in
    let all = c.args.parts.now.regs.items in
    let r = c.registers-regs.result.now in
    let same = read_is all p r c.index_mut-regs.result.now _ c.registers-regs.ensures c.index_mut-regs.ensures.value in
    subst (λ (q : Registers). c.in_ok-target.target.frame.stack ≡ q.stack) (sym same) c.in_ok-may_go.ensures.own

pub leave_above-requires-clause-clear : goal.leave_above-requires-clause-clear
leave_above-requires-clause-clear g c =
    let st = g.C.Core.stacks c.args.core.now in
    let rows = g.C.Core.rows c.args.core.now in
    let p = c.args.process in
    let all = c.args.parts.now.regs.items in
    let r = c.registers-regs.result.now in
    let same = read_is all p r c.index_mut-regs.result.now _ c.registers-regs.ensures c.index_mut-regs.ensures.value in
    subst (λ (q : Registers). IsClear st q c.in_ok-target.target) (sym same) c.in_ok-may_go.ensures.clear

pub returns-clause-acts : goal.returns-clause-acts
returns-clause-acts g c = λ next mark.
    let st = g.C.Core.stacks c.args.core.now in
    let rows = g.C.Core.rows c.args.core.now in
    let p = c.args.process in
    let all = c.args.parts.now.regs.items in
    let r = c.registers-regs.result.now in
    let img = image_of st rows c.args.kernel.now c.args.parts.now in
    let code = c.args.parts.now.code in
    let t = tabled c.in_ok-target.target in
    let to = target_was (look_seen st (named_target r (arguments st r))) c.in_ok-target.target c.in_ok-target.ensures.value in
    let same = read_is all p r c.index_mut-regs.result.now _ c.registers-regs.ensures c.index_mut-regs.ensures.value in
    let k = c.in_ok-may_go.ensures.clear.0 in
    let cut = c.in_ok-may_go.ensures.clear.1 in
    let routes = c.in_ok-may_go.ensures.routes img refl (sym c.deref.ensures.value) (sym c.deref-2.ensures.value) k cut in
    let q = c.leave_above.new.regs in
    let left = with_events (with_own (own_of_image (g.C.Core.stacks c.leave_above.new.core) (g.C.Core.rows c.leave_above.new.core) q) p img) c.leave_above.new.kernel.events in
    let written = written_is all p r q c.registers-regs.ensures in
    let is = subst (λ (x : Registers). look_seen st (cutting x t.frame t.level) ≡ Ok k → changed p (gone_to x t k.passing k.display (words_of st x.stack)) img ≡ left) same
    (λ x. c.leave_above.ensures.changes k x p img refl refl refl) cut in
    let new = record left { regs = slice_set all (p - 1) q; lists = c.leave_above.new.kernel.lists } in
    subst (λ (o : Option Registers). ProgramActs p (called_in go_to code o next mark) img new (Ok tt)) (sym c.registers-regs.ensures)
    (goes code r next mark img p t to k new q routes (calling st rows (numbered all p) r c.requires c.registers-regs.ensures).0.size
    (is ∙ ap (λ (zs : List Registers). record left { regs = zs }) (sym written)
    ∙ ap (λ (z : List (List Place)). record left { regs = slice_set all (p - 1) q; lists = z }) (sym c.leave_above.ensures.lists))
    (ap (λ (zs : List Registers). numbered zs p) written ∙ then_there all p r q c.registers-regs.ensures) c.leave_above.ensures.room)
