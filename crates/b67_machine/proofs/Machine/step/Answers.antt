use Rattle.std.specs.Prelude.{IfSome}
use Rattle.std.proofs.Common.{◌≡◌, ◌≤◌, refl, sym, ap, subst, ◌∙◌, ℕ, Bool, true, Option, None, arith}
use Rattle.b67_list.specs.Numbered.{numbered}
use Rattle.b67_table.specs.Image.{Image, is_able}
use Rattle.b67_table.specs.Outcome.{Outcome}
use Rattle.b67_table.specs.Valid.{IsValid}
use Rattle.b67_table.proofs.Lists.{numbered_from, numbered_within}
use Rattle.b67_table.proofs.Waking.{able_live}
use Rattle.b67_linkage.proofs.Linked.{live_are_linked}
use Rattle.b67_reach.specs.Images.{image_of}
use Rattle.b67_action.proofs.Ready.{registers_there, if_some}
use Rattle.b67_control.specs.declared.Registers.{Registers}
use Rattle.b67_segment.specs.declared.code.Code.{Code}
use Rattle.b67_segment.specs.Decoded.{AreDecoded}
use Rattle.b67_action.specs.Able.{AbleAfter}
use Rattle.b67_action.specs.declared.done.Done.{Done}
use Rattle.b67_action.specs.declared.done.Done.TheVariants as dones
use Rattle.b67_action.specs.Done.{Came, is_performed}
use Rattle.b67_action.specs.Lettered.{letter_in}
use Rattle.b67_deeds.specs.declared.Letter.{Letter}
use Rattle.b67_letters.specs.Letters.{letter, letter_by, registers_letter}
use Rattle.b67_machine.specs.Letters.{or_before, lettered}
use Rattle.b67_machine.specs.declared.Failure.{Failure}
use Rattle.b67_machine.specs.Kept.{MachineModel, operators_counted, Counts}
use Rattle.b67_machine.specs.Machines.{with_failure}
use Rattle.b67_machine.specs.Stepping.{operators_in, StepsBy}
use Rattle.b67_machine.proofs.Ends.{goes_on}
use Rattle.b67_machine.proofs.Failures.{none_kept, valid_with, released_so, acts_by}
use Rattle.b67_machine.proofs.Machine.step.Goals as goal

at_most_one : (done : Done) → operators_in done ≤ 1
at_most_one dones.Went = omega arith
at_most_one dones.Waits = omega arith
at_most_one dones.Ended = omega arith
at_most_one (dones.Fault kind) = omega arith
at_most_one (dones.Interrupt kind) = omega arith
at_most_one dones.StackLimit = omega arith
at_most_one dones.NoMemory = omega arith

-- what is not counted has no letter
none_by : (code : Code) (img acted : Image) (p : ℕ) (done : Done) → Came code img p done acted → operators_in done ≡ 0 → letter_in done (letter code img p) ≡ None
none_by code img acted p dones.Went x e = cc
none_by code img acted p dones.Waits x e = cc
none_by code img acted p dones.Ended x e = cc
none_by code img acted p (dones.Fault kind) x e = cc
none_by code img acted p (dones.Interrupt kind) x e = ap (λ (o : Outcome Image). letter_by o (registers_letter code img (numbered img.regs p))) x.0
none_by code img acted p dones.StackLimit x e = ap (λ (o : Outcome Image). letter_by o (registers_letter code img (numbered img.regs p))) x.0
none_by code img acted p dones.NoMemory x e = refl

noted_as : (done : Done) (found before : Option Letter) → (operators_in done ≡ 0 → letter_in done found ≡ None) → or_before (letter_in done found) before ≡ lettered (operators_in done) found before
noted_as dones.Went found before none = refl
noted_as dones.Waits found before none = refl
noted_as dones.Ended found before none = refl
noted_as (dones.Fault kind) found before none = refl
noted_as (dones.Interrupt kind) found before none = ap (λ (l : Option Letter). or_before l before) (none refl)
noted_as dones.StackLimit found before none = ap (λ (l : Option Letter). or_before l before) (none refl)
noted_as dones.NoMemory found before none = refl

pub returns-then-self-clause-steps : goal.returns-then-self-clause-steps
returns-then-self-clause-steps g c =
    subst (λ (b : Bool). StepsBy b c.args.self.now c.args.process dones.NoMemory c.args.self.now) (sym c.if-self.true ∙ ap (λ (k : MachineModel). k.lacked) c.self.view_is) (refl, refl)

pub returns-then-self-clause-valid : goal.returns-then-self-clause-valid
returns-then-self-clause-valid g c =
    subst (λ (k : MachineModel). IsValid k.code k.image) c.self.view_is
    (valid_with c.self.inside.parts.code (image_of (g.C.Core.stacks c.self.inside.core) (g.C.Core.rows c.self.inside.core) c.self.inside.kernel c.self.inside.parts)
    c.self.inside.failure refl c.self.invariant.0)

pub registers-regs-requires : goal.registers-regs-requires
registers-regs-requires g c =
    registers_there c.self.inside.parts.code (image_of (g.C.Core.stacks c.self.inside.core) (g.C.Core.rows c.self.inside.core) c.self.inside.kernel c.self.inside.parts) c.args.process
    c.self.invariant.0 (subst (λ (k : MachineModel). is_able (numbered k.image.states c.args.process) ≡ true) (sym c.self.view_is) c.requires.able)

pub prepare-requires-clause-level : goal.prepare-requires-clause-level
prepare-requires-clause-level g c =
    let able = subst (λ (k : MachineModel). is_able (numbered k.image.states c.args.process) ≡ true) (sym c.self.view_is) c.requires.able in
    omega (
      arith,
      (live_are_linked c.self.inside.parts.code
          (image_of (g.C.Core.stacks c.self.inside.core) (g.C.Core.rows c.self.inside.core) c.self.inside.kernel c.self.inside.parts) c.args.process c.registers-regs.result.now
          c.self.invariant.0 (able_live (numbered c.self.inside.parts.states.items c.args.process) able) c.registers-regs.ensures).level,
    )

pub action-done-requires-clause-table : goal.action-done-requires-clause-table
action-done-requires-clause-table g c =
    if_some (λ (r : Registers). IfSome c.decoded.result (λ t. AreDecoded c.self.inside.parts.code r.segment r.ll t.now)) (numbered c.self.inside.parts.regs.items c.args.process)
    c.registers-regs.result.now c.registers-regs.ensures (c.decoded.ensures c.self.inside.parts.code c.prepare.ensures)

pub count-requires-clause-least : goal.count-requires-clause-least
count-requires-clause-least g c = numbered_from c.self.inside.parts.regs.items c.args.process c.registers-regs.result.now c.registers-regs.ensures

pub count-requires-clause-room : goal.count-requires-clause-room
count-requires-clause-room g c =
    omega (
      arith,
      c.requires.count,
      ap (λ (k : MachineModel). operators_counted k.counts c.args.process) c.self.view_is,
      c.operators_in.ensures,
      at_most_one c.action-done.result.0,
    )

pub count-requires-clause-most : goal.count-requires-clause-most
count-requires-clause-most g c =
    let v = c.self.invariant.0 in
    omega (arith, numbered_within c.self.inside.parts.regs.items c.args.process c.registers-regs.result.now c.registers-regs.ensures, v.registers, v.most, c.self.invariant.2)

pub returns-clause-steps : goal.returns-clause-steps
returns-clause-steps g c =
    let old = c.args.self.now in
    let new : MachineModel = record {
      code = c.action-done.new.parts.code;
      image = with_failure (image_of (g.C.Core.stacks c.action-done.new.core) (g.C.Core.rows c.action-done.new.core) c.action-done.new.kernel c.action-done.new.parts)
          c.failure_of-self-inside.result;
      counts = c.count.new.counts.items;
      released = c.settle.new.released.items;
      limit = c.limit_of-self-inside.result;
      lacked = c.lacks-self-inside.result;
      letter = c.note.new.last;
    } in
    let base = image_of (g.C.Core.stacks c.self.inside.core) (g.C.Core.rows c.self.inside.core) c.self.inside.kernel c.self.inside.parts in
    let acted = image_of (g.C.Core.stacks c.action-done.new.core) (g.C.Core.rows c.action-done.new.core) c.action-done.new.kernel c.action-done.new.parts in
    let done = c.action-done.result.0 in
    let none : c.self.inside.failure ≡ None = none_kept c.self.inside.failure (ap (λ (k : MachineModel). k.image.fault) c.self.view_is ∙ (goes_on old c.requires.going).fault) in
    let image : old.image ≡ base = ap (λ (k : MachineModel). k.image) (sym c.self.view_is) ∙ ap (λ (f : Option Failure). with_failure base f) none in
    subst (λ (b : Bool). StepsBy b old c.args.process done new) (sym c.if-self.false ∙ ap (λ (k : MachineModel). k.lacked) c.self.view_is)
    (acts_by old new c.self.inside.parts.code base acted c.args.process done (ap (λ (k : MachineModel). k.code) (sym c.self.view_is)) image refl c.action-done.ensures.came
    (ap (λ (f : Option Failure). with_failure acted f) c.failure_of-self-inside.ensures)
    (subst (λ (n : ℕ). Counts old.counts c.args.process n c.count.new.counts.items) c.operators_in.ensures
    (subst (λ (k : MachineModel). Counts k.counts c.args.process c.operators_in.result c.count.new.counts.items) c.self.view_is c.count.ensures.counts))
    (released_so (is_performed done) c.self.inside.parts.code base c.args.process c.action-done.new.parts.woken.processes.items c.settle.new.released.items
    c.action-done.ensures.woken c.settle.ensures.kept c.settle.ensures.none)
    (λ e. subst (AbleAfter base acted c.args.process) (sym (c.settle.ensures.kept e)) (c.action-done.ensures.able e))
    c.limit_of-self-inside.ensures c.lacks-self-inside.ensures
    (c.note.ensures
    ∙ ap (λ (l : Option Letter). or_before l c.self.inside.letter) c.action-done.ensures.letter
    ∙ noted_as done (letter c.self.inside.parts.code base c.args.process) c.self.inside.letter
    (none_by c.self.inside.parts.code base acted c.args.process done c.action-done.ensures.came)
    ∙ ap (λ (k : MachineModel). lettered (operators_in done) (letter c.self.inside.parts.code base c.args.process) k.letter) c.self.view_is)
    c.action-done.ensures.code)

pub returns-clause-valid : goal.returns-clause-valid
returns-clause-valid g c =
    let acted = image_of (g.C.Core.stacks c.action-done.new.core) (g.C.Core.rows c.action-done.new.core) c.action-done.new.kernel c.action-done.new.parts in
    valid_with c.action-done.new.parts.code acted c.failure_of-self-inside.result refl
    (subst (λ (k : Code). IsValid k acted) (sym c.action-done.ensures.code) c.action-done.ensures.valid)
