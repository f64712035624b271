use Rattle.std.specs.Prelude.{IfSome}
use Rattle.std.proofs.Common.{◌≡◌, ◌≤◌, refl, sym, ap, subst, ◌∙◌, ℕ, ◌+◌, true, length, Option, Some, None, arith}
use Rattle.b67_list.specs.Numbered.{numbered}
use Rattle.b67_control.specs.declared.Registers.{Registers}
use Rattle.b67_segment.specs.declared.code.Code.{Code}
use Rattle.b67_store.specs.Store.{stack_limit}
use Rattle.b67_table.specs.declared.Private.{Private}
use Rattle.b67_table.specs.Image.{Image, with_private, is_live}
use Rattle.b67_table.specs.Private.{floor}
use Rattle.b67_table.specs.Valid.{IsValid}
use Rattle.b67_reach.specs.Images.{image_of}
use Rattle.b67_linkage.proofs.Linked.{live_are_linked}
use Rattle.b67_action.proofs.Ready.{if_some, some_is, kept_places}
use Rattle.b67_machine.specs.declared.Failure.{Failure}
use Rattle.b67_machine.specs.Kept.{MachineModel, Counts}
use Rattle.b67_machine.specs.Machines.{with_failure}
use Rattle.b67_machine.specs.Tables.{AreTables}
use Rattle.b67_machine.proofs.Ends.{goes_on}
use Rattle.b67_machine.proofs.Failures.{none_kept, valid_with}
use Rattle.b67_machine.proofs.Going.{kept_is}
use Rattle.b67_machine.proofs.Putting.{linked_there, room_there, number_there, stretched_there, goes_there}
use Rattle.b67_machine.proofs.Machine.put_private.Goals as goal

-- what was put from the floor on
put_at_floor : (img put : Image) (p : ℕ) (r : Registers) (n : ℕ) (part : Private) → numbered img.regs p ≡ Some r → put ≡ with_private img p n part → n ≡ floor r
    → IfSome (numbered img.regs p) (λ (q : Registers). put ≡ with_private img p (floor q) part)
put_at_floor img put p r n part has e f =
    if_some (λ (q : Registers). put ≡ with_private img p (floor q) part) (numbered img.regs p) r has (e ∙ ap (λ (k : ℕ). with_private img p k part) f)

pub floor-base-requires : goal.floor-base-requires
floor-base-requires g c =
    let live = subst (λ (k : MachineModel). is_live (numbered k.image.states c.args.process) ≡ true) (sym c.self.view_is) c.requires.lives in
    (live_are_linked c.self.inside.parts.code (image_of (g.C.Core.stacks c.self.inside.core) (g.C.Core.rows c.self.inside.core) c.self.inside.kernel c.self.inside.parts)
    c.args.process c.registers-regs.result.now c.self.invariant.0 live c.registers-regs.ensures).level

pub put_from-requires-clause-linked : goal.put_from-requires-clause-linked
put_from-requires-clause-linked g c =
    let old = c.args.self.now in
    let base = image_of (g.C.Core.stacks c.self.inside.core) (g.C.Core.rows c.self.inside.core) c.self.inside.kernel c.self.inside.parts in
    let none : c.self.inside.failure ≡ None = none_kept c.self.inside.failure (ap (λ (k : MachineModel). k.image.fault) c.self.view_is ∙ (goes_on old c.requires.going).fault) in
    let image : old.image ≡ base = ap (λ (k : MachineModel). k.image) (sym c.self.view_is) ∙ ap (λ (f : Option Failure). with_failure base f) none in
    linked_there old c.self.inside.parts.code base c.args.process c.args.performed c.args.end.now (ap (λ (k : MachineModel). k.code) (sym c.self.view_is)) image
    c.self.invariant.0 c.requires.lives c.requires.stretch

pub put_from-requires-clause-room : goal.put_from-requires-clause-room
put_from-requires-clause-room g c =
    let old = c.args.self.now in
    let base = image_of (g.C.Core.stacks c.self.inside.core) (g.C.Core.rows c.self.inside.core) c.self.inside.kernel c.self.inside.parts in
    let none : c.self.inside.failure ≡ None = none_kept c.self.inside.failure (ap (λ (k : MachineModel). k.image.fault) c.self.view_is ∙ (goes_on old c.requires.going).fault) in
    let image : old.image ≡ base = ap (λ (k : MachineModel). k.image) (sym c.self.view_is) ∙ ap (λ (f : Option Failure). with_failure base f) none in
    let end = c.args.end.now in
    let low = some_is (λ (r : Registers). floor r + length end.words ≤ stack_limit) (numbered base.regs c.args.process) c.registers-regs.result.now c.registers-regs.ensures
    (room_there old c.self.inside.parts.code base c.args.process c.args.performed c.args.end.now (ap (λ (k : MachineModel). k.code) (sym c.self.view_is)) image
    c.self.invariant.0 c.requires.lives c.requires.stretch) in
    omega (arith, low, c.floor-base.ensures.value)

pub count-requires-clause-most : goal.count-requires-clause-most
count-requires-clause-most g c =
    let old = c.args.self.now in
    let base = image_of (g.C.Core.stacks c.self.inside.core) (g.C.Core.rows c.self.inside.core) c.self.inside.kernel c.self.inside.parts in
    let none : c.self.inside.failure ≡ None = none_kept c.self.inside.failure (ap (λ (k : MachineModel). k.image.fault) c.self.view_is ∙ (goes_on old c.requires.going).fault) in
    let image : old.image ≡ base = ap (λ (k : MachineModel). k.image) (sym c.self.view_is) ∙ ap (λ (f : Option Failure). with_failure base f) none in
    let n = number_there old c.self.inside.parts.code base c.args.process c.args.performed c.args.end.now (ap (λ (k : MachineModel). k.code) (sym c.self.view_is)) image
    c.self.invariant.0 c.requires.lives c.requires.stretch in
    omega (arith, n, c.self.invariant.0.registers, c.self.invariant.0.most, c.self.invariant.2)

pub invariant_of-self : goal.invariant_of-self
invariant_of-self g c =
    let old = c.args.self.now in
    let base = image_of (g.C.Core.stacks c.self.inside.core) (g.C.Core.rows c.self.inside.core) c.self.inside.kernel c.self.inside.parts in
    let none : c.self.inside.failure ≡ None = none_kept c.self.inside.failure (ap (λ (k : MachineModel). k.image.fault) c.self.view_is ∙ (goes_on old c.requires.going).fault) in
    let image : old.image ≡ base = ap (λ (k : MachineModel). k.image) (sym c.self.view_is) ∙ ap (λ (f : Option Failure). with_failure base f) none in
    let acted = image_of (g.C.Core.stacks c.put_from.new.core) (g.C.Core.rows c.put_from.new.core) c.self.inside.kernel c.put_from.new.parts in
    let p = c.args.process in
    let end = c.args.end.now in
    let r = c.registers-regs.result.now in
    let put = put_at_floor base acted p r c.floor-base.result end c.registers-regs.ensures (c.put_from.ensures.put c.self.inside.kernel) c.floor-base.ensures.value in
    let s = stretched_there old c.self.inside.parts.code base c.args.process c.args.performed c.args.end.now (ap (λ (k : MachineModel). k.code) (sym c.self.view_is)) image
    c.self.invariant.0 c.requires.lives c.requires.stretch
    acted put in
    let code = c.put_from.ensures.code in (
      subst (λ (k : Code). IsValid k acted) (sym code) s.valid,
      record {
        waiting = c.self.invariant.1.waiting;
        released = kept_places c.self.inside.kernel.room c.self.inside.kernel.room c.self.inside.parts.woken c.put_from.new.parts.woken c.self.invariant.1.released c.put_from.ensures.places refl;
      },
      c.count.ensures.length ∙ c.self.invariant.2,
      subst (λ (k : Code). AreTables k c.self.inside.tables.items) (sym code) c.self.invariant.3,
    )

pub returns-clause-goes : goal.returns-clause-goes
returns-clause-goes g c =
    let old = c.args.self.now in
    let base = image_of (g.C.Core.stacks c.self.inside.core) (g.C.Core.rows c.self.inside.core) c.self.inside.kernel c.self.inside.parts in
    let none : c.self.inside.failure ≡ None = none_kept c.self.inside.failure (ap (λ (k : MachineModel). k.image.fault) c.self.view_is ∙ (goes_on old c.requires.going).fault) in
    let image : old.image ≡ base = ap (λ (k : MachineModel). k.image) (sym c.self.view_is) ∙ ap (λ (f : Option Failure). with_failure base f) none in
    let acted = image_of (g.C.Core.stacks c.put_from.new.core) (g.C.Core.rows c.put_from.new.core) c.self.inside.kernel c.put_from.new.parts in
    let p = c.args.process in
    let end = c.args.end.now in
    let r = c.registers-regs.result.now in
    let put = put_at_floor base acted p r c.floor-base.result end c.registers-regs.ensures (c.put_from.ensures.put c.self.inside.kernel) c.floor-base.ensures.value in
    let new : MachineModel = record {
      code = c.put_from.new.parts.code;
      image = with_failure acted c.self.inside.failure;
      counts = c.count.new.counts.items;
      released = c.put_from.new.parts.woken.processes.items;
      limit = c.self.inside.limit;
      lacked = c.self.inside.lacked;
      letter = c.self.inside.letter;
    } in
    goes_there old c.self.inside.parts.code base c.args.process c.args.performed c.args.end.now (ap (λ (k : MachineModel). k.code) (sym c.self.view_is)) image
    c.self.invariant.0 c.requires.lives c.requires.stretch
    new
    (subst (λ (f : Option Failure). IfSome (numbered base.regs c.args.process) (λ (r : Registers). with_failure acted f ≡ with_private base c.args.process (floor r) c.args.end.now)) (sym none)
    put)
    (subst (λ (k : MachineModel). Counts k.counts c.args.process c.args.performed c.count.new.counts.items) c.self.view_is c.count.ensures.counts)
    (kept_is old new
    (c.put_from.ensures.code ∙ ap (λ (k : MachineModel). k.code) c.self.view_is)
    (c.put_from.ensures.released ∙ ap (λ (k : MachineModel). k.released) c.self.view_is)
    (ap (λ (k : MachineModel). k.limit) c.self.view_is) (ap (λ (k : MachineModel). k.lacked) c.self.view_is) (ap (λ (k : MachineModel). k.letter) c.self.view_is))

pub returns-clause-valid : goal.returns-clause-valid
returns-clause-valid g c =
    let old = c.args.self.now in
    let base = image_of (g.C.Core.stacks c.self.inside.core) (g.C.Core.rows c.self.inside.core) c.self.inside.kernel c.self.inside.parts in
    let none : c.self.inside.failure ≡ None = none_kept c.self.inside.failure (ap (λ (k : MachineModel). k.image.fault) c.self.view_is ∙ (goes_on old c.requires.going).fault) in
    let image : old.image ≡ base = ap (λ (k : MachineModel). k.image) (sym c.self.view_is) ∙ ap (λ (f : Option Failure). with_failure base f) none in
    let acted = image_of (g.C.Core.stacks c.put_from.new.core) (g.C.Core.rows c.put_from.new.core) c.self.inside.kernel c.put_from.new.parts in
    let p = c.args.process in
    let end = c.args.end.now in
    let r = c.registers-regs.result.now in
    let put = put_at_floor base acted p r c.floor-base.result end c.registers-regs.ensures (c.put_from.ensures.put c.self.inside.kernel) c.floor-base.ensures.value in
    let s = stretched_there old c.self.inside.parts.code base c.args.process c.args.performed c.args.end.now (ap (λ (k : MachineModel). k.code) (sym c.self.view_is)) image
    c.self.invariant.0 c.requires.lives c.requires.stretch
    acted put in
    valid_with c.put_from.new.parts.code acted c.self.inside.failure refl
    (subst (λ (k : Code). IsValid k acted) (sym c.put_from.ensures.code) s.valid)
