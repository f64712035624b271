use Rattle.std.proofs.Common.{◌≡◌, refl, ℕ, zero, suc, ◌-◌, ◌<◌, ◌≤◌, subst, List, length, set, slice_get, Option, Some, None, arith, rules}
use Rattle.std.specs.Prelude.{IfSome}
use Rattle.b67_list.specs.Numbered.{numbered}
use Rattle.b67_list.proofs.Lists.{get_within}
use Rattle.b67_control.specs.declared.Registers.{Registers}
use Rattle.b67_store.specs.Store.{Stacks, Rows}
use Rattle.b67_display.specs.Shown.{IsShown}
use Rattle.b67_linkage.specs.Showing.{leaving_shown}
use Rattle.b67_operators.specs.Leaves.{IsLinkedIn, HasLeftFrame}
use Rattle.b67_operators.proofs.AtOnce.{same_some}
use Rattle.b67_operators.proofs.Leaves.{here, left_frame}
use Rattle.b67_operators.proofs.at_once.leave_shown_in.Goals as goal

-- a process that is there has an index, one less than its number
inside : (stacks : Stacks) (rows : Rows) (all : List Registers) (p : ℕ) → IsLinkedIn stacks rows (numbered all p) → (1 ≤ p) × (p - 1 < length all)
inside stacks rows all zero k = absurd k
inside stacks rows all (suc j) k = by (slice_get all j) refl k
  where
    by : (o : Option Registers) → slice_get all j ≡ o → IsLinkedIn stacks rows o → (1 ≤ suc j) × (suc j - 1 < length all)
    by None i m = absurd m
    by (Some q) i m =
        let low : j < length all = get_within all j q i in
        (omega arith, omega (arith, low))

pub overflow_sub-process : goal.overflow_sub-process
overflow_sub-process g c =
    let w : 1 ≤ c.args.process = (inside (g.C.Core.stacks c.args.core.now) (g.C.Core.rows c.args.core.now) c.args.all.now.items c.args.process c.requires.linked).0 in
    omega arith

pub index_mut-regs-requires : goal.index_mut-regs-requires
index_mut-regs-requires g c =
    let w : c.args.process - 1 < length c.args.all.now.items =
    (inside (g.C.Core.stacks c.args.core.now) (g.C.Core.rows c.args.core.now) c.args.all.now.items c.args.process c.requires.linked).1 in
    search (rules, w)

pub returns-clause-left : goal.returns-clause-left
returns-clause-left g c = λ r has.
    let st = g.C.Core.stacks c.args.core.now in
    let rows = g.C.Core.rows c.args.core.now in
    let all = c.args.all.now.items in
    let p = c.args.process in
    let own = c.index_mut-regs.result.now in
    let b = c.args.below.now in
    let stacks = g.C.Core.stacks c.leave_shown_for.new.core in
    let more = g.C.Core.rows c.leave_shown_for.new.core in
    let q = c.leave_shown_for.new.regs in
    let same : own ≡ r = same_some (numbered all p) own r (here st rows all p own c.requires.linked c.index_mut-regs.ensures.value).0 has in
    subst (λ (x : Registers). HasLeftFrame st rows all p (leaving_shown x b) c.args.value (numbered all p) stacks more (set all (p - 1) q)) same
    (left_frame st rows all p (leaving_shown own b) c.args.value own stacks more q c.requires.linked c.index_mut-regs.ensures.value c.leave_shown_for.ensures)

pub leave_shown_for-requires-clause-linked : goal.leave_shown_for-requires-clause-linked
leave_shown_for-requires-clause-linked g c =
    let st = g.C.Core.stacks c.args.core.now in
    let rows = g.C.Core.rows c.args.core.now in
    let all = c.args.all.now.items in
    let p = c.args.process in
    subst (λ (o : Option Registers). IsLinkedIn st rows o) (here st rows all p c.index_mut-regs.result.now c.requires.linked c.index_mut-regs.ensures.value).0 c.requires.linked

pub leave_shown_for-requires-clause-shown : goal.leave_shown_for-requires-clause-shown
leave_shown_for-requires-clause-shown g c =
    let st = g.C.Core.stacks c.args.core.now in
    let rows = g.C.Core.rows c.args.core.now in
    let all = c.args.all.now.items in
    let p = c.args.process in
    subst (λ (o : Option Registers). IfSome o (λ r. IsShown r.ll r.display)) (here st rows all p c.index_mut-regs.result.now c.requires.linked c.index_mut-regs.ensures.value).0 c.requires.shown
