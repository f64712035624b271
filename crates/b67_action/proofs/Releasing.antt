-- Whom an operator releases, step by step.
use Rattle.std.proofs.Common.{◌≡◌, sym, subst, ℕ, Bool, true, List, Option, Some, Result, Ok, Err, OnOk}
use Rattle.b67_control.specs.declared.Registers.{Registers}
use Rattle.b67_control.specs.declared.Mscw.{Mscw}
use Rattle.b67_ops.specs.declared.intrinsic.Intrinsic.{Intrinsic}
use Rattle.b67_ops.specs.declared.intrinsic.Intrinsic.TheVariants.{GoTo, Select, Arrays, Event, Start, Write, Wait, Cause, Reset, Happened, Procure, Liberate, WaitAny, CauseAndReset, Available, Fix}
use Rattle.b67_table.specs.Image.{Image}
use Rattle.b67_table.specs.Look.{look_seen}
use Rattle.b67_operators.specs.declared.calling.Called.{Called}
use Rattle.b67_operators.specs.Entries.{procedure_called}
use Rattle.b67_intrinsics.specs.Names.{Releases}
use Rattle.b67_reach.specs.declared.Stop.{Stop}
use Rattle.b67_reach.specs.Answers.{looked}
use Rattle.b67_action.specs.Acting.{hindered, CallReleases, CalleeReleases, EnterReleases}
use Rattle.b67_action.specs.Done.{makes}

pub on_hindered : (res : Result (Unit {0}) Stop) (X Y : Type 0) → (X → Y) → OnOk res X → OnOk (hindered res) Y
on_hindered (Ok u) X Y f x = f x
on_hindered (Err stop) X Y f x = tt

pub on_same : {A B : Type 0} (res : Result A B) (X Y : Type 0) → (X → Y) → OnOk res X → OnOk res Y
on_same (Ok a) X Y f x = f x
on_same (Err b) X Y f x = tt

module _ (img : Image) (regs : Option Registers) (m : Mscw) (before after : List ℕ) where
  -- what makes something releases nobody
  made : (name : Intrinsic) → makes (Some name) ≡ true → after ≡ before → Releases name img regs m before after
  made GoTo e f = f
  made Select e f = f
  made Arrays e f = f
  made Event e f = f
  made Start e f = f
  made Write e f = f
  made Wait e f = f
  made Cause e f = cc
  made Reset e f = f
  made Happened e f = f
  made Procure e f = f
  made Liberate e f = cc
  made WaitAny e f = f
  made CauseAndReset e f = cc
  made Available e f = f
  made Fix e f = f

  pub called_made : (o : Option Intrinsic) (name : Intrinsic) → o ≡ Some name → makes (Some name) ≡ true → after ≡ before → CallReleases o img regs m before after
  called_made o name e k f = subst (λ (z : Option Intrinsic). CallReleases z img regs m before after) (sym e) (made name k f)

  pub called_named : (o : Option Intrinsic) (name : Intrinsic) → o ≡ Some name → Releases name img regs m before after → CallReleases o img regs m before after
  called_named o name e x = subst (λ (z : Option Intrinsic). CallReleases z img regs m before after) (sym e) x

module _ (img : Image) (o : Option Registers) (r : Registers) (has : o ≡ Some r) (c : Called) (e : Ok c ≡ looked (look_seen img.stacks (procedure_called r))) (before after : List ℕ) where
  pub enter_releases : (b : Bool) → c.pcw.intrinsic ≡ b → CalleeReleases b c img o before after → EnterReleases img o before after
  enter_releases b i x =
      subst (λ (z : Option Registers). EnterReleases img z before after) (sym has)
      (c, e, subst (λ (z : Bool). CalleeReleases z c img (Some r) before after) (sym i) (subst (λ (z : Option Registers). CalleeReleases b c img z before after) has x))
