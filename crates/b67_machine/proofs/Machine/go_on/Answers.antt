use Rattle.std.specs.Prelude.{IfSome, is_some, not}
use Rattle.std.proofs.Common.{◌≡◌, refl, sym, ap, subst, ◌∙◌, ℕ, Bool, true, false, List, Option, Some, None, arith}
use Rattle.b67_list.specs.Numbered.{numbered}
use Rattle.b67_control.specs.declared.Registers.{Registers}
use Rattle.b67_events.specs.declared.Woken.{Woken}
use Rattle.b67_segment.specs.declared.code.Code.{Code}
use Rattle.b67_segment.specs.Decoded.{AreDecoded}
use Rattle.b67_table.specs.Image.{Image, is_able}
use Rattle.b67_table.specs.Valid.{IsValid}
use Rattle.b67_table.proofs.Lists.{numbered_within}
use Rattle.b67_reach.specs.Images.{image_of}
use Rattle.b67_action.specs.declared.done.Done.TheVariants.{Went}
use Rattle.b67_action.proofs.Ready.{registers_there, if_some, some_is, kept_places}
use Rattle.b67_deeds.specs.declared.Letter.{Letter}
use Rattle.b67_machine.specs.declared.Failure.{Failure}
use Rattle.b67_machine.specs.Kept.{MachineModel, Counts}
use Rattle.b67_machine.specs.Letters.{or_before}
use Rattle.b67_machine.specs.Machines.{with_failure}
use Rattle.b67_machine.specs.Stepping.{StepsBy}
use Rattle.b67_machine.specs.Tables.{AreTables}
use Rattle.b67_machine.proofs.Ends.{goes_on}
use Rattle.b67_machine.proofs.Failures.{none_kept, valid_with, acts_by}
use Rattle.b67_machine.proofs.Machine.go_on.Goals as goal

-- a letter, or none
some_one : (o : Option Letter) → is_some o ≡ true → (l : Letter) × (o ≡ Some l)
some_one None e = cc
some_one (Some l) e = (l, refl)

no_one : (o : Option Letter) → is_some o ≡ false → o ≡ None
no_one None e = refl
no_one (Some l) e = cc

-- a machine of which these are the same is the same
stays : (old : MachineModel) (code : Code) (image : Image) (released : List ℕ) → code ≡ old.code → image ≡ old.image → released ≡ old.released
    → record old { code = code; image = image; released = released } ≡ old
stays old code image released c i r =
    ap (λ (x : Code). record old { code = x; image = image; released = released }) c
    ∙ ap (λ (x : Image). record old { image = x; released = released }) i
    ∙ ap (λ (x : List ℕ). record old { released = x }) r

pub registers-regs-requires : goal.registers-regs-requires
registers-regs-requires g c =
    registers_there c.self.inside.parts.code (image_of (g.C.Core.stacks c.self.inside.core) (g.C.Core.rows c.self.inside.core) c.self.inside.kernel c.self.inside.parts) c.args.process
    c.self.invariant.0 (subst (λ (k : MachineModel). is_able (numbered k.image.states c.args.process) ≡ true) (sym c.self.view_is) c.requires.able)

pub go_on-letter-requires-clause-valid : goal.go_on-letter-requires-clause-valid
go_on-letter-requires-clause-valid g c = c.self.invariant.0

pub go_on-letter-requires-clause-table : goal.go_on-letter-requires-clause-table
go_on-letter-requires-clause-table g c =
    if_some (λ (r : Registers). IfSome c.decoded-table.result (λ t. AreDecoded c.self.inside.parts.code r.segment r.ll t.now)) (numbered c.self.inside.parts.regs.items c.args.process)
    c.registers-regs.result.now c.registers-regs.ensures (c.decoded-table.ensures c.self.inside.parts.code c.self.invariant.3)

pub count-requires-clause-most : goal.count-requires-clause-most
count-requires-clause-most g c =
    let v = c.self.invariant.0 in
    omega (arith, numbered_within c.self.inside.parts.regs.items c.args.process c.registers-regs.result.now c.registers-regs.ensures, v.registers, v.most, c.self.invariant.2)

pub returns-clause-went : goal.returns-clause-went
returns-clause-went g c = λ done.
    let old = c.args.self.now in
    let base = image_of (g.C.Core.stacks c.self.inside.core) (g.C.Core.rows c.self.inside.core) c.self.inside.kernel c.self.inside.parts in
    let acted = image_of (g.C.Core.stacks c.go_on-letter.new.core) (g.C.Core.rows c.go_on-letter.new.core) c.go_on-letter.new.kernel c.go_on-letter.new.parts in
    let new : MachineModel = record {
      code = c.go_on-letter.new.parts.code;
      image = with_failure acted c.self.inside.failure;
      counts = c.count.new.counts.items;
      released = c.go_on-letter.new.parts.woken.processes.items;
      limit = c.self.inside.limit;
      lacked = c.self.inside.lacked;
      letter = c.go_on-letter.result;
    } in
    let none : c.self.inside.failure ≡ None = none_kept c.self.inside.failure (ap (λ (k : MachineModel). k.image.fault) c.self.view_is ∙ (goes_on old c.requires.going).fault) in
    let image : old.image ≡ base = ap (λ (k : MachineModel). k.image) (sym c.self.view_is) ∙ ap (λ (f : Option Failure). with_failure base f) none in
    let one = some_one c.go_on-letter.result (c.is_none.ensures ∙ ap not c.if-is_none.false) in
    let gone = some_is _ c.go_on-letter.result one.0 one.1 c.go_on-letter.ensures.went in
    subst (λ (b : Bool). StepsBy b old c.args.process Went new) (sym c.if-self.false ∙ ap (λ (k : MachineModel). k.lacked) c.self.view_is)
    (acts_by old new c.self.inside.parts.code base acted c.args.process Went (ap (λ (k : MachineModel). k.code) (sym c.self.view_is)) image refl gone.came
    (ap (λ (f : Option Failure). with_failure acted f) none)
    (subst (λ (k : MachineModel). Counts k.counts c.args.process 1 c.count.new.counts.items) c.self.view_is c.count.ensures.counts)
    gone.woken (λ e. gone.able) (ap (λ (k : MachineModel). k.limit) c.self.view_is ∙ (goes_on old c.requires.going).limit) c.if-self.false
    (one.1 ∙ sym (ap (λ (l : Option Letter). or_before l old.letter) (some_is _ c.go_on-letter.result one.0 one.1 c.go_on-letter.ensures.letter))) c.go_on-letter.ensures.code)

pub returns-clause-calm : goal.returns-clause-calm
returns-clause-calm g c = λ done.
    let one = some_one c.go_on-letter.result (c.is_none.ensures ∙ ap not c.if-is_none.false) in
    let calm = some_is _ c.go_on-letter.result one.0 one.1 c.go_on-letter.ensures.calm in
    record {
      states = ap (λ v. v.items) calm.0 ∙ ap (λ (k : MachineModel). k.image.states) c.self.view_is;
      started = calm.1 ∙ ap (λ (k : MachineModel). k.image.started) c.self.view_is;
      fault = ap (λ (k : MachineModel). k.image.fault) c.self.view_is;
      released = calm.2;
    }

pub returns-clause-valid : goal.returns-clause-valid
returns-clause-valid g c =
    let acted = image_of (g.C.Core.stacks c.go_on-letter.new.core) (g.C.Core.rows c.go_on-letter.new.core) c.go_on-letter.new.kernel c.go_on-letter.new.parts in
    let one = some_one c.go_on-letter.result (c.is_none.ensures ∙ ap not c.if-is_none.false) in
    let gone = some_is _ c.go_on-letter.result one.0 one.1 c.go_on-letter.ensures.went in
    valid_with c.go_on-letter.new.parts.code acted c.self.inside.failure refl (subst (λ (k : Code). IsValid k acted) (sym c.go_on-letter.ensures.code) gone.valid)

pub returns-then-self-clause-valid : goal.returns-then-self-clause-valid
returns-then-self-clause-valid g c =
    subst (λ (k : MachineModel). IsValid k.code k.image) c.self.view_is
    (valid_with c.self.inside.parts.code (image_of (g.C.Core.stacks c.self.inside.core) (g.C.Core.rows c.self.inside.core) c.self.inside.kernel c.self.inside.parts)
    c.self.inside.failure refl c.self.invariant.0)

pub invariant_of-self : goal.invariant_of-self
invariant_of-self g c =
    let acted = image_of (g.C.Core.stacks c.go_on-letter.new.core) (g.C.Core.rows c.go_on-letter.new.core) c.go_on-letter.new.kernel c.go_on-letter.new.parts in
    let same = c.go_on-letter.ensures.stays (no_one c.go_on-letter.result (c.is_none.ensures ∙ ap not c.if-is_none.true)) in (
      subst (λ (k : Code). IsValid k acted) (sym c.go_on-letter.ensures.code) (subst (λ (i : Image). IsValid c.self.inside.parts.code i) (sym same) c.self.invariant.0),
      record {
        waiting = omega (arith, c.self.invariant.1.waiting, c.go_on-letter.ensures.processes);
        released = kept_places c.self.inside.kernel.room c.go_on-letter.new.kernel.room c.self.inside.parts.woken c.go_on-letter.new.parts.woken
            c.self.invariant.1.released c.go_on-letter.ensures.room c.go_on-letter.ensures.processes;
      },
      c.self.invariant.2,
      subst (λ (k : Code). AreTables k c.self.inside.tables.items) (sym c.go_on-letter.ensures.code) c.self.invariant.3,
    )

pub returns-then-is_none-clause-valid : goal.returns-then-is_none-clause-valid
returns-then-is_none-clause-valid g c =
    let acted = image_of (g.C.Core.stacks c.go_on-letter.new.core) (g.C.Core.rows c.go_on-letter.new.core) c.go_on-letter.new.kernel c.go_on-letter.new.parts in
    let same = c.go_on-letter.ensures.stays (no_one c.go_on-letter.result (c.is_none.ensures ∙ ap not c.if-is_none.true)) in
    valid_with c.go_on-letter.new.parts.code acted c.self.inside.failure refl
    (subst (λ (k : Code). IsValid k acted) (sym c.go_on-letter.ensures.code) (subst (λ (i : Image). IsValid c.self.inside.parts.code i) (sym same) c.self.invariant.0))

pub returns-then-is_none-clause-stays : goal.returns-then-is_none-clause-stays
returns-then-is_none-clause-stays g c = λ none.
    let same = c.go_on-letter.ensures.stays (no_one c.go_on-letter.result (c.is_none.ensures ∙ ap not c.if-is_none.true)) in
    let kept : MachineModel = record {
      code = c.self.inside.parts.code;
      image = with_failure (image_of (g.C.Core.stacks c.self.inside.core) (g.C.Core.rows c.self.inside.core) c.self.inside.kernel c.self.inside.parts) c.self.inside.failure;
      counts = c.self.inside.counts.items;
      released = c.self.inside.parts.woken.processes.items;
      limit = c.self.inside.limit;
      lacked = c.self.inside.lacked;
      letter = c.self.inside.letter;
    } in
    stays kept c.go_on-letter.new.parts.code _ c.go_on-letter.new.parts.woken.processes.items c.go_on-letter.ensures.code
    (ap (λ (i : Image). with_failure i c.self.inside.failure) same) (ap (λ (w : Woken). w.processes.items) (c.go_on-letter.ensures.woken (no_one c.go_on-letter.result (c.is_none.ensures ∙ ap not c.if-is_none.true)))) ∙ c.self.view_is
