-- An operator after which its process goes on leaves a run without an end.
use Rattle.std.specs.Prelude.{if◌then◌else◌, not, ◌&&◌}
use Rattle.std.proofs.Common.{◌≡◌, ◌≢◌, refl, ap, subst, ◌∙◌, ℕ, zero, suc, Bool, true, false, cond, List, [], ◌∷◌, Option, Some, None, Result, Ok, Err}
use Rattle.std.specs.Prelude.{slice_get}
use Rattle.std.proofs.Math.Decide.{ℕ_discrete}
use Rattle.b67_list.specs.Numbered.{numbered}
use Rattle.b67_control.specs.declared.Registers.{Registers}
use Rattle.b67_ops.specs.declared.Operator.{Operator}
use Rattle.b67_ops.specs.declared.BadCode.{BadCode}
use Rattle.b67_segment.specs.declared.code.Code.{Code}
use Rattle.b67_table.specs.declared.InterruptKind.TheVariants.{BadCode as bad_code}
use Rattle.b67_table.specs.declared.Private.{Private}
use Rattle.b67_table.specs.declared.ProcessState.{ProcessState}
use Rattle.b67_table.specs.declared.ProcessState.TheVariants as states
use Rattle.b67_table.specs.Effect.{Effect, gives, faults, interrupts}
use Rattle.b67_table.specs.Ending.{has_ended, some_able, some_lives, finished, all_waiting, image_end}
use Rattle.b67_table.specs.Ending as ending
use Rattle.b67_table.specs.Image.{Image, Failure, with_effect, with_private, private_of, is_able, is_live}
use Rattle.b67_table.specs.Outcome as outcomes
use Rattle.b67_table.specs.Private.{floor}
use Rattle.b67_table.specs.Program.{Change, done, look_up, write, changed, asked, effect_of}
use Rattle.b67_table.specs.Questions.{told}
use Rattle.b67_table.specs.Rows.{TableRow, private_part, action, row}
use Rattle.b67_table.specs.Table.{table, raw, by_row, by_operator, by_registers, operator_at}
use Rattle.b67_table.specs.Writes.{Write, write_made}
use Rattle.b67_table.specs.Writes as writes
use Rattle.b67_table.proofs.Limit.{limit_comes_last}
use Rattle.b67_table.proofs.States.{changed_passes}
use Rattle.b67_action.specs.declared.done.Done.TheVariants.{Went}
use Rattle.b67_machine.specs.Kept.{MachineModel}
use Rattle.b67_machine.specs.Reads.{machine_end}
use Rattle.b67_machine.specs.Stepping.{MachineActs}
use Rattle.b67_machine.proofs.Ends.{goes_on, no_end}

-- ---- what an operator of a process leaves: no other process has ended, and no fault is kept

abbrev going : Option ProcessState → Bool
going o = not (has_ended o)

record Lasts (p : ℕ) (old new : Image) : Type 0 where
  others : (q : ℕ) → p ≢ q → going (numbered old.states q) ≡ true → going (numbered new.states q) ≡ true
  fault : new.fault ≡ old.fault

fault_written : (p : ℕ) (w : Write) (img : Image) → (write_made p w img).fault ≡ img.fault
fault_written p (writes.save place w) img = refl
fault_written p (writes.cut stack count) img = refl
fault_written p (writes.push stack w) img = refl
fault_written p (writes.registers r) img = refl
fault_written p (writes.open_row m count counted) img = refl
fault_written p (writes.write_row m at w) img = refl
fault_written p (writes.close_row m) img = refl
fault_written p (writes.open_event place) img = refl
fault_written p (writes.close_events stack at) img = refl
fault_written p (writes.event_deed x place) img = refl
fault_written p (writes.wait_any places) img = refl
fault_written p writes.go_on img = refl
fault_written p (writes.line bytes) img = refl
fault_written p (writes.start r words) img = refl
fault_written p (writes.end_process stack) img = refl

fault_changed : (p : ℕ) (c : Change) (img : Image) → (changed p c img).fault ≡ img.fault
fault_changed p done img = refl
fault_changed p (look_up q more) img = fault_changed p (more (told img q)) img
fault_changed p (write w next) img = fault_changed p next (write_made p w img) ∙ fault_written p w img

module _ (code : Code) (p : ℕ) (old new : Image) where
  by_change : (e : Effect Change) → effect_of p old e ≡ gives new → Lasts p old new
  by_change (gives c) i =
      let same : changed p c old ≡ new = cc in
      subst (Lasts p old) same (record { others = λ q apart l. changed_passes going refl p q c old apart l; fault = fault_changed p c old })
  by_change (faults kind) i = cc
  by_change (interrupts kind) i = cc

  by_part : (base : ℕ) (e : Effect Private) → with_effect old p base e ≡ gives new → Lasts p old new
  by_part base (gives part) i =
      let same : with_private old p base part ≡ new = cc in
      subst (Lasts p old) same (record { others = λ q apart l. l; fault = refl })
  by_part base (faults kind) i = cc
  by_part base (interrupts kind) i = cc

  by_rows : (w : TableRow) (r : Registers) (next : ℕ) → by_row w code old p r next ≡ gives new → Lasts p old new
  by_rows (private_part change) r next i = by_part (floor r) (change next (private_of old r)) i
  by_rows (action program) r next i = by_change (asked old (program code r next)) i

  by_fetch : (r : Registers) (f : Result (Operator × ℕ) BadCode) → by_operator code old p r f ≡ gives new → Lasts p old new
  by_fetch r (Err e) i = cc
  by_fetch r (Ok found) i = by_rows (row found.0 r.place) r found.1 i

  by_regs : (o : Option Registers) → by_registers code old p o ≡ gives new → Lasts p old new
  by_regs None i = cc
  by_regs (Some r) i = by_fetch r (operator_at code r) i

  by_life : (b : Bool) → cond b (by_registers code old p (numbered old.regs p)) (interrupts bad_code) ≡ gives new → Lasts p old new
  by_life true i = by_regs (numbered old.regs p) i
  by_life false i = cc

  lasts : table code old p ≡ outcomes.gives new → Lasts p old new
  unfolding raw
  lasts t = by_life (is_live (numbered old.states p)) ((limit_comes_last.new code old new p).0 t).0

-- ---- the end of the run

able_goes : (o : Option ProcessState) → is_able o ≡ true → going o ≡ true
able_goes None e = cc
able_goes (Some states.Able) e = refl
able_goes (Some (states.WaitsFor at)) e = cc
able_goes (Some states.WaitsAny) e = cc
able_goes (Some (states.Procures at)) e = cc
able_goes (Some states.Ended) e = cc

able_at : (ss : List ProcessState) (k : ℕ) → is_able (slice_get ss k) ≡ true → some_able ss ≡ true
able_at [] k e = cc
able_at (states.Able ∷ ss) k e = refl
able_at (states.WaitsFor at ∷ ss) zero e = cc
able_at (states.WaitsFor at ∷ ss) (suc k) e = able_at ss k e
able_at (states.WaitsAny ∷ ss) zero e = cc
able_at (states.WaitsAny ∷ ss) (suc k) e = able_at ss k e
able_at (states.Procures at ∷ ss) zero e = cc
able_at (states.Procures at ∷ ss) (suc k) e = able_at ss k e
able_at (states.Ended ∷ ss) zero e = cc
able_at (states.Ended ∷ ss) (suc k) e = able_at ss k e

some_is_able : (ss : List ProcessState) (p : ℕ) → is_able (numbered ss p) ≡ true → some_able ss ≡ true
some_is_able ss zero e = cc
some_is_able ss (suc k) e = able_at ss k e

first_goes : (b : Bool) (f : Option Failure) (ss : List ProcessState) → (if b then Some finished else ending.image_end_by f ss) ≡ None → not b ≡ true
first_goes true f ss e = cc
first_goes false f ss e = refl

first_of : (img : Image) → image_end img ≡ None → going (numbered img.states 1) ≡ true
unfolding image_end
first_of img e = first_goes (has_ended (numbered img.states 1)) img.fault img.states e

none_by : (b : Bool) (f : Option Failure) (ss : List ProcessState) → not b ≡ true → f ≡ None → some_able ss ≡ true → (if b then Some finished else ending.image_end_by f ss) ≡ None
none_by true f ss n e a = cc
none_by false (Some f) ss n e a = cc
none_by false None ss n e a = ap (λ (x : Bool). if some_lives ss && not x then Some all_waiting else None) a ∙ not_both (some_lives ss)
  where
    not_both : (b : Bool) → (if b && not true then Some all_waiting else None) ≡ None
    not_both true = refl
    not_both false = refl

none_of : (img : Image) (p : ℕ) → going (numbered img.states 1) ≡ true → img.fault ≡ None → is_able (numbered img.states p) ≡ true → image_end img ≡ None
unfolding image_end
none_of img p first fault able = none_by (has_ended (numbered img.states 1)) img.fault img.states first fault (some_is_able img.states p able)

pub went_goes : (old new : MachineModel) (p : ℕ) → machine_end old ≡ None → MachineActs old p Went new → machine_end new ≡ None
went_goes old new p going_on acts =
    let on = goes_on old going_on in
    let k = lasts old.code p old.image acts.acted acts.came.0 in
    no_end new (ap image_end acts.image ∙ none_of acts.acted p (first (ℕ_discrete p 1) on.end k) (k.fault ∙ on.fault) acts.came.1) acts.limit
  where
    first : Dec (p ≡ 1) → image_end old.image ≡ None → Lasts p old.image acts.acted → going (numbered acts.acted.states 1) ≡ true
    first (yes e) end k = able_goes (numbered acts.acted.states 1) (subst (λ (q : ℕ). is_able (numbered acts.acted.states q) ≡ true) e acts.came.1)
    first (no h) end k = k.others 1 h (first_of old.image end)
