use Rattle.std.proofs.Common.{◌≡◌, ◌≤◌, refl, sym, ap, subst, ◌∙◌, ◌+◌, true, length, take, Option, None, arith}
use Rattle.b67_list.specs.Numbered.{numbered}
use Rattle.b67_segment.specs.declared.code.Code.{Code}
use Rattle.b67_table.specs.Image.{Image, is_able}
use Rattle.b67_table.specs.Valid.{IsValid}
use Rattle.b67_table.proofs.Lists.{numbered_from, numbered_within}
use Rattle.b67_table.proofs.Waking.{able_live}
use Rattle.b67_linkage.proofs.Linked.{live_are_linked}
use Rattle.b67_reach.specs.Images.{image_of}
use Rattle.b67_action.specs.Running.{HasRun}
use Rattle.b67_action.proofs.Ready.{registers_there, kept_places}
use Rattle.b67_machine.specs.declared.Failure.{Failure}
use Rattle.b67_machine.specs.Chaining.{released_after}
use Rattle.b67_machine.specs.Kept.{MachineModel, Counts}
use Rattle.b67_machine.specs.Letters.{last_or}
use Rattle.b67_machine.specs.Machines.{with_failure}
use Rattle.b67_machine.specs.Tables.{AreTables}
use Rattle.b67_machine.proofs.Ends.{goes_on}
use Rattle.b67_machine.proofs.Failures.{none_kept, valid_with}
use Rattle.b67_machine.proofs.Lending.{kept_with}
use Rattle.b67_machine.proofs.Machine.run_process.Goals as goal

pub registers-regs-requires : goal.registers-regs-requires
registers-regs-requires g c =
    registers_there c.self.inside.parts.code (image_of (g.C.Core.stacks c.self.inside.core) (g.C.Core.rows c.self.inside.core) c.self.inside.kernel c.self.inside.parts) c.args.process
    c.self.invariant.0 (subst (λ (k : MachineModel). is_able (numbered k.image.states c.args.process) ≡ true) (sym c.self.view_is) c.requires.able)

pub prepare-requires-clause-level : goal.prepare-requires-clause-level
prepare-requires-clause-level g c =
    let able = subst (λ (k : MachineModel). is_able (numbered k.image.states c.args.process) ≡ true) (sym c.self.view_is) c.requires.able in
    omega (
      arith,
      (live_are_linked c.self.inside.parts.code
          (image_of (g.C.Core.stacks c.self.inside.core) (g.C.Core.rows c.self.inside.core) c.self.inside.kernel c.self.inside.parts) c.args.process c.registers-regs.result.now
          c.self.invariant.0 (able_live (numbered c.self.inside.parts.states.items c.args.process) able) c.registers-regs.ensures).level,
    )

pub run_in-ran-requires-clause-valid : goal.run_in-ran-requires-clause-valid
run_in-ran-requires-clause-valid g c = (c.self.inside.kernel, c.self.invariant.0)

pub count-requires-clause-most : goal.count-requires-clause-most
count-requires-clause-most g c =
    let v = c.self.invariant.0 in
    omega (arith, numbered_within c.self.inside.parts.regs.items c.args.process c.registers-regs.result.now c.registers-regs.ensures, v.registers, v.most, c.self.invariant.2)

pub returns-clause-runs : goal.returns-clause-runs
returns-clause-runs g c =
    let old = c.args.self.now in
    let p = c.args.process in
    let ran = c.run_in-ran.result in
    let noted = c.run_in-ran.new.letters in
    let parts = c.self.inside.parts in
    let v = c.self.invariant.0 in
    let base = image_of (g.C.Core.stacks c.self.inside.core) (g.C.Core.rows c.self.inside.core) c.self.inside.kernel parts in
    let acted = image_of (g.C.Core.stacks c.run_in-ran.new.core) (g.C.Core.rows c.run_in-ran.new.core) c.self.inside.kernel c.run_in-ran.new.parts in
    let none : c.self.inside.failure ≡ None = none_kept c.self.inside.failure (ap (λ (k : MachineModel). k.image.fault) c.self.view_is ∙ (goes_on old c.requires.going).fault) in
    let image : old.image ≡ base = ap (λ (k : MachineModel). k.image) (sym c.self.view_is) ∙ ap (λ (f : Option Failure). with_failure base f) none in
    let new : MachineModel = record {
      code = c.run_in-ran.new.parts.code;
      image = with_failure acted c.self.inside.failure;
      counts = c.count.new.counts.items;
      released = c.run_in-ran.new.parts.woken.processes.items;
      limit = c.self.inside.limit;
      lacked = c.self.inside.lacked;
      letter = c.note_last.new.last;
    } in
    let run = subst (λ (f : Option Failure). HasRun parts.code p c.args.most base ran noted (with_failure acted f)) (sym none)
    (c.run_in-ran.ensures.ran c.self.inside.kernel v) in
    record {
      begun = subst (λ (k : MachineModel). IsValid k.code k.image) c.self.view_is (valid_with parts.code base c.self.inside.failure refl v);
      number = numbered_from parts.regs.items p c.registers-regs.result.now c.registers-regs.ensures;
      known = subst (λ (k : MachineModel). p ≤ length k.counts) c.self.view_is
          (omega (arith, numbered_within parts.regs.items p c.registers-regs.result.now c.registers-regs.ensures, v.registers, v.most, c.self.invariant.2));
      run = subst (λ (k : Code). HasRun k p c.args.most old.image ran noted new.image) (ap (λ (k : MachineModel). k.code) c.self.view_is)
          (subst (λ (x : Image). HasRun parts.code p c.args.most x ran noted new.image) (sym image) run);
      counts = subst (λ (k : MachineModel). Counts k.counts p (ran.operators + ran.plain) c.count.new.counts.items) c.self.view_is c.count.ensures.counts;
      others = kept_with old new (released_after ran.entries old.released) (last_or (take ran.entries noted) old.letter)
          (c.run_in-ran.ensures.code ∙ ap (λ (k : MachineModel). k.code) c.self.view_is)
          (c.run_in-ran.ensures.released ∙ ap (λ (k : MachineModel). released_after ran.entries k.released) c.self.view_is)
          (ap (λ (k : MachineModel). k.limit) c.self.view_is) (ap (λ (k : MachineModel). k.lacked) c.self.view_is)
          (c.note_last.ensures ∙ ap (λ (k : MachineModel). last_or (take ran.entries noted) k.letter) c.self.view_is);
    }

pub returns-clause-valid : goal.returns-clause-valid
returns-clause-valid g c =
    let acted = image_of (g.C.Core.stacks c.run_in-ran.new.core) (g.C.Core.rows c.run_in-ran.new.core) c.self.inside.kernel c.run_in-ran.new.parts in
    valid_with c.run_in-ran.new.parts.code acted c.self.inside.failure refl
    (subst (λ (k : Code). IsValid k acted) (sym c.run_in-ran.ensures.code) (c.run_in-ran.ensures.ran c.self.inside.kernel c.self.invariant.0).valid)

pub invariant_of-self : goal.invariant_of-self
invariant_of-self g c =
    let acted = image_of (g.C.Core.stacks c.run_in-ran.new.core) (g.C.Core.rows c.run_in-ran.new.core) c.self.inside.kernel c.run_in-ran.new.parts in (
      subst (λ (k : Code). IsValid k acted) (sym c.run_in-ran.ensures.code) (c.run_in-ran.ensures.ran c.self.inside.kernel c.self.invariant.0).valid,
      record { waiting = c.self.invariant.1.waiting; released = kept_places c.self.inside.kernel.room c.self.inside.kernel.room c.self.inside.parts.woken c.run_in-ran.new.parts.woken c.self.invariant.1.released c.run_in-ran.ensures.room refl },
      c.count.ensures.length ∙ c.self.invariant.2,
      subst (λ (k : Code). AreTables k c.prepare.new.segments.items) (sym c.run_in-ran.ensures.code) c.prepare.ensures,
    )
