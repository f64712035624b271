use Rattle.std.specs.Prelude.{IfSome}
use Rattle.std.proofs.Common.{◌≡◌, ◌≤◌, refl, sym, ap, subst, ◌∙◌, ◌+◌, true, length, take, Option, None, arith}
use Rattle.b67_list.specs.Numbered.{numbered}
use Rattle.b67_segment.specs.declared.code.Code.{Code}
use Rattle.b67_table.specs.Image.{Image, with_private, is_able}
use Rattle.b67_table.specs.Valid.{IsValid}
use Rattle.b67_table.specs.Privacy.{RegistersStay}
use Rattle.b67_reach.specs.Images.{image_of}
use Rattle.b67_action.specs.Running.{HasRun}
use Rattle.b67_action.proofs.Ready.{kept_places}
use Rattle.b67_machine.specs.declared.Failure.{Failure}
use Rattle.b67_machine.specs.Chaining.{released_after}
use Rattle.b67_machine.specs.Kept.{MachineModel, Counts}
use Rattle.b67_machine.specs.Letters.{last_or}
use Rattle.b67_machine.specs.Machines.{with_failure}
use Rattle.b67_machine.specs.Tables.{AreTables}
use Rattle.b67_machine.proofs.Ends.{goes_on}
use Rattle.b67_machine.proofs.Failures.{none_kept, valid_with}
use Rattle.b67_machine.proofs.Lending.{kept_with}
use Rattle.b67_machine.proofs.Whole.{linked_put, room_put, number_put, run_on}
use Rattle.b67_machine.proofs.Machine.put_run.Goals as goal

pub put_from-requires-clause-linked : goal.put_from-requires-clause-linked
put_from-requires-clause-linked g c =
    let old = c.args.self.now in
    let p = c.args.process in
    let end = c.args.end.now in
    let parts = c.self.inside.parts in
    let v = c.self.invariant.0 in
    let base = image_of (g.C.Core.stacks c.self.inside.core) (g.C.Core.rows c.self.inside.core) c.self.inside.kernel parts in
    let none : c.self.inside.failure ≡ None = none_kept c.self.inside.failure (ap (λ (k : MachineModel). k.image.fault) c.self.view_is ∙ (goes_on old c.requires.going).fault) in
    let image : old.image ≡ base = ap (λ (k : MachineModel). k.image) (sym c.self.view_is) ∙ ap (λ (f : Option Failure). with_failure base f) none in
    let able = subst (λ (k : MachineModel). is_able (numbered k.image.states p) ≡ true) (sym c.self.view_is) c.requires.able in
    let run = run_on old.code parts.code old.image base p c.requires.run.0 end c.args.ran c.args.letters.now (ap (λ (k : MachineModel). k.code) (sym c.self.view_is)) image c.requires.run.1 in
    linked_put parts.code base p c.requires.run.0 end c.args.ran c.args.letters.now v able run

pub put_from-requires-clause-keeps : goal.put_from-requires-clause-keeps
put_from-requires-clause-keeps g c =
    subst (λ (k : MachineModel). IfSome (numbered k.image.regs c.args.process) (λ r. RegistersStay r c.args.end.now.regs)) (sym c.self.view_is) c.requires.keeps

pub put_from-requires-clause-room : goal.put_from-requires-clause-room
put_from-requires-clause-room g c =
    let old = c.args.self.now in
    let p = c.args.process in
    let end = c.args.end.now in
    let parts = c.self.inside.parts in
    let v = c.self.invariant.0 in
    let base = image_of (g.C.Core.stacks c.self.inside.core) (g.C.Core.rows c.self.inside.core) c.self.inside.kernel parts in
    let none : c.self.inside.failure ≡ None = none_kept c.self.inside.failure (ap (λ (k : MachineModel). k.image.fault) c.self.view_is ∙ (goes_on old c.requires.going).fault) in
    let image : old.image ≡ base = ap (λ (k : MachineModel). k.image) (sym c.self.view_is) ∙ ap (λ (f : Option Failure). with_failure base f) none in
    let able = subst (λ (k : MachineModel). is_able (numbered k.image.states p) ≡ true) (sym c.self.view_is) c.requires.able in
    let run = run_on old.code parts.code old.image base p c.requires.run.0 end c.args.ran c.args.letters.now (ap (λ (k : MachineModel). k.code) (sym c.self.view_is)) image c.requires.run.1 in
    omega (arith, room_put parts.code base p c.requires.run.0 end c.args.ran c.args.letters.now v able run c.requires.full)

pub count-requires-clause-least : goal.count-requires-clause-least
count-requires-clause-least g c =
    let old = c.args.self.now in
    let p = c.args.process in
    let end = c.args.end.now in
    let parts = c.self.inside.parts in
    let v = c.self.invariant.0 in
    let base = image_of (g.C.Core.stacks c.self.inside.core) (g.C.Core.rows c.self.inside.core) c.self.inside.kernel parts in
    let none : c.self.inside.failure ≡ None = none_kept c.self.inside.failure (ap (λ (k : MachineModel). k.image.fault) c.self.view_is ∙ (goes_on old c.requires.going).fault) in
    let image : old.image ≡ base = ap (λ (k : MachineModel). k.image) (sym c.self.view_is) ∙ ap (λ (f : Option Failure). with_failure base f) none in
    let able = subst (λ (k : MachineModel). is_able (numbered k.image.states p) ≡ true) (sym c.self.view_is) c.requires.able in
    let run = run_on old.code parts.code old.image base p c.requires.run.0 end c.args.ran c.args.letters.now (ap (λ (k : MachineModel). k.code) (sym c.self.view_is)) image c.requires.run.1 in
    (number_put parts.code base p c.requires.run.0 end c.args.ran c.args.letters.now v able run).0

pub count-requires-clause-most : goal.count-requires-clause-most
count-requires-clause-most g c =
    let old = c.args.self.now in
    let p = c.args.process in
    let end = c.args.end.now in
    let parts = c.self.inside.parts in
    let v = c.self.invariant.0 in
    let base = image_of (g.C.Core.stacks c.self.inside.core) (g.C.Core.rows c.self.inside.core) c.self.inside.kernel parts in
    let none : c.self.inside.failure ≡ None = none_kept c.self.inside.failure (ap (λ (k : MachineModel). k.image.fault) c.self.view_is ∙ (goes_on old c.requires.going).fault) in
    let image : old.image ≡ base = ap (λ (k : MachineModel). k.image) (sym c.self.view_is) ∙ ap (λ (f : Option Failure). with_failure base f) none in
    let able = subst (λ (k : MachineModel). is_able (numbered k.image.states p) ≡ true) (sym c.self.view_is) c.requires.able in
    let run = run_on old.code parts.code old.image base p c.requires.run.0 end c.args.ran c.args.letters.now (ap (λ (k : MachineModel). k.code) (sym c.self.view_is)) image c.requires.run.1 in
    omega (arith, (number_put parts.code base p c.requires.run.0 end c.args.ran c.args.letters.now v able run).1, v.registers, v.most, c.self.invariant.2)

pub returns-clause-runs : goal.returns-clause-runs
returns-clause-runs g c = λ most h.
    let old = c.args.self.now in
    let p = c.args.process in
    let end = c.args.end.now in
    let parts = c.self.inside.parts in
    let v = c.self.invariant.0 in
    let base = image_of (g.C.Core.stacks c.self.inside.core) (g.C.Core.rows c.self.inside.core) c.self.inside.kernel parts in
    let none : c.self.inside.failure ≡ None = none_kept c.self.inside.failure (ap (λ (k : MachineModel). k.image.fault) c.self.view_is ∙ (goes_on old c.requires.going).fault) in
    let image : old.image ≡ base = ap (λ (k : MachineModel). k.image) (sym c.self.view_is) ∙ ap (λ (f : Option Failure). with_failure base f) none in
    let able = subst (λ (k : MachineModel). is_able (numbered k.image.states p) ≡ true) (sym c.self.view_is) c.requires.able in
    let run = run_on old.code parts.code old.image base p c.requires.run.0 end c.args.ran c.args.letters.now (ap (λ (k : MachineModel). k.code) (sym c.self.view_is)) image c.requires.run.1 in
    let ran = c.args.ran in
    let noted = c.args.letters.now in
    let number = number_put parts.code base p c.requires.run.0 end c.args.ran c.args.letters.now v able run in
    let acted = image_of (g.C.Core.stacks c.put_from.new.core) (g.C.Core.rows c.put_from.new.core) c.self.inside.kernel c.put_from.new.parts in
    let put : with_failure acted c.self.inside.failure ≡ with_private old.image p 0 end =
    ap (λ (f : Option Failure). with_failure acted f) none ∙ c.put_from.ensures.put c.self.inside.kernel ∙ ap (λ (x : Image). with_private x p 0 end) (sym image) in
    let new : MachineModel = record {
      code = c.put_from.new.parts.code;
      image = with_failure acted c.self.inside.failure;
      counts = c.count.new.counts.items;
      released = c.put_from.new.parts.woken.processes.items;
      limit = c.self.inside.limit;
      lacked = c.self.inside.lacked;
      letter = c.note_last.new.last;
    } in
    record {
      begun = subst (λ (k : MachineModel). IsValid k.code k.image) c.self.view_is (valid_with parts.code base c.self.inside.failure refl v);
      number = number.0;
      known = subst (λ (k : MachineModel). p ≤ length k.counts) c.self.view_is (omega (arith, number.1, v.registers, v.most, c.self.invariant.2));
      run = subst (HasRun old.code p most old.image ran noted) (sym put) h;
      counts = subst (λ (k : MachineModel). Counts k.counts p (ran.operators + ran.plain) c.count.new.counts.items) c.self.view_is c.count.ensures.counts;
      others = kept_with old new (released_after ran.entries old.released) (last_or (take ran.entries noted) old.letter)
          (c.put_from.ensures.code ∙ ap (λ (k : MachineModel). k.code) c.self.view_is)
          (c.put_from.ensures.released ∙ ap (λ (k : MachineModel). released_after ran.entries k.released) c.self.view_is)
          (ap (λ (k : MachineModel). k.limit) c.self.view_is) (ap (λ (k : MachineModel). k.lacked) c.self.view_is)
          (c.note_last.ensures ∙ ap (λ (k : MachineModel). last_or (take ran.entries noted) k.letter) c.self.view_is);
    }

pub returns-clause-valid : goal.returns-clause-valid
returns-clause-valid g c =
    let old = c.args.self.now in
    let p = c.args.process in
    let end = c.args.end.now in
    let parts = c.self.inside.parts in
    let v = c.self.invariant.0 in
    let base = image_of (g.C.Core.stacks c.self.inside.core) (g.C.Core.rows c.self.inside.core) c.self.inside.kernel parts in
    let none : c.self.inside.failure ≡ None = none_kept c.self.inside.failure (ap (λ (k : MachineModel). k.image.fault) c.self.view_is ∙ (goes_on old c.requires.going).fault) in
    let image : old.image ≡ base = ap (λ (k : MachineModel). k.image) (sym c.self.view_is) ∙ ap (λ (f : Option Failure). with_failure base f) none in
    let able = subst (λ (k : MachineModel). is_able (numbered k.image.states p) ≡ true) (sym c.self.view_is) c.requires.able in
    let run = run_on old.code parts.code old.image base p c.requires.run.0 end c.args.ran c.args.letters.now (ap (λ (k : MachineModel). k.code) (sym c.self.view_is)) image c.requires.run.1 in
    let acted = image_of (g.C.Core.stacks c.put_from.new.core) (g.C.Core.rows c.put_from.new.core) c.self.inside.kernel c.put_from.new.parts in
    valid_with c.put_from.new.parts.code acted c.self.inside.failure refl
    (subst (λ (k : Code). IsValid k acted) (sym c.put_from.ensures.code) (subst (IsValid parts.code) (sym (c.put_from.ensures.put c.self.inside.kernel)) run.valid))

pub invariant_of-self : goal.invariant_of-self
invariant_of-self g c =
    let old = c.args.self.now in
    let p = c.args.process in
    let end = c.args.end.now in
    let parts = c.self.inside.parts in
    let v = c.self.invariant.0 in
    let base = image_of (g.C.Core.stacks c.self.inside.core) (g.C.Core.rows c.self.inside.core) c.self.inside.kernel parts in
    let none : c.self.inside.failure ≡ None = none_kept c.self.inside.failure (ap (λ (k : MachineModel). k.image.fault) c.self.view_is ∙ (goes_on old c.requires.going).fault) in
    let image : old.image ≡ base = ap (λ (k : MachineModel). k.image) (sym c.self.view_is) ∙ ap (λ (f : Option Failure). with_failure base f) none in
    let able = subst (λ (k : MachineModel). is_able (numbered k.image.states p) ≡ true) (sym c.self.view_is) c.requires.able in
    let run = run_on old.code parts.code old.image base p c.requires.run.0 end c.args.ran c.args.letters.now (ap (λ (k : MachineModel). k.code) (sym c.self.view_is)) image c.requires.run.1 in
    let acted = image_of (g.C.Core.stacks c.put_from.new.core) (g.C.Core.rows c.put_from.new.core) c.self.inside.kernel c.put_from.new.parts in (
      subst (λ (k : Code). IsValid k acted) (sym c.put_from.ensures.code) (subst (IsValid parts.code) (sym (c.put_from.ensures.put c.self.inside.kernel)) run.valid),
      record { waiting = c.self.invariant.1.waiting; released = kept_places c.self.inside.kernel.room c.self.inside.kernel.room parts.woken c.put_from.new.parts.woken c.self.invariant.1.released c.put_from.ensures.places refl },
      c.count.ensures.length ∙ c.self.invariant.2,
      subst (λ (k : Code). AreTables k c.self.inside.tables.items) (sym c.put_from.ensures.code) c.self.invariant.3,
    )
