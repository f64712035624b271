-- An image that pictures a world shows it, and its stacks are within their weights.
use Rattle.std.proofs.Common.{◌≡◌, refl, sym, ap, ◌∙◌, subst, ℕ, suc, ◌+◌, ◌≤◌, List, [], ◌∷◌, length, Option, Some, None, Bool, true, false, arith}
use Rattle.b67_list.proofs.Truths.{true_false}
use Rattle.b67_scenes.proofs.Prelude.{if◌then◌else◌, ◌&&◌, ◌||◌, not, slice_get, numbered, PProgram, Scopes, scopes_of, Process, State, able, waits_for, waits_any, procures, ended, lives, World, WorldFault, process_at, or_no_process, is_able as meaning_able, Registers, Code, Effect, interrupts, Image, is_live, limited, limit, by_registers, stack_length, BadCode as bad_code, ProcessState, Able, WaitsFor, WaitsAny, Procures, Ended, Texts, some_same, weight, numbered_beyond, Layout, failure_of, Living, Pictured, living, dead, PicturesBy, StateIs}
use Rattle.algol_meaning.specs.Run.{end_of}
use Rattle.algol_meaning.specs.Run as meaning
use Rattle.b67_table.specs.Image.{Failure}
use Rattle.b67_table.specs.Image.{is_able as image_able}
use Rattle.b67_table.specs.Table.{table, raw}
use Rattle.b67_table.specs.Ending.{ImageEnd, image_end, may_act}
use Rattle.b67_table.specs.Ending as machine
use Rattle.b67_faithful.specs.Agreement.{end_as}
use Rattle.b67_scenes.proofs.Plainly.{steps_fit}

-- ---- a process in a world and in its image

-- some process lives in both
some_lives_alike : (sc : Scopes) (w : World) (lay : Layout) (qs : List Process) (ss : List ProcessState) → length ss ≡ length qs → ((k : ℕ) (q : Process) → slice_get qs k ≡ Some q → StateIs sc w lay q.state (slice_get ss k)) → meaning.some_lives qs ≡ machine.some_lives ss
some_lives_alike sc w lay [] [] e each = refl
some_lives_alike sc w lay [] (s ∷ ss) e each = absurd (omega (arith, e))
some_lives_alike sc w lay (q ∷ qs) [] e each = absurd (omega (arith, e))
some_lives_alike sc w lay (q ∷ qs) (s ∷ ss) e each =
    let fewer : length ss ≡ length qs = omega (arith, e) in
    by_first q.state s (some_lives_alike sc w lay qs ss fewer (λ k r h. each (suc k) r h)) (each 0 q refl)
  where
    by_first : (x : State) (s : ProcessState) → meaning.some_lives qs ≡ machine.some_lives ss → StateIs sc w lay x (Some s) → (lives x || meaning.some_lives qs) ≡ machine.some_lives (s ∷ ss)
    by_first able Able later is = refl
    by_first (waits_for r) (WaitsFor at) later is = refl
    by_first (waits_any rs) WaitsAny later is = refl
    by_first (procures r) (Procures at) later is = refl
    by_first ended Ended later is = later
    by_first able _ later is = absurd is
    by_first (waits_for r) _ later is = absurd is
    by_first (waits_any rs) _ later is = absurd is
    by_first (procures r) _ later is = absurd is
    by_first ended _ later is = absurd is

-- some process is able in both
some_able_alike : (sc : Scopes) (w : World) (lay : Layout) (qs : List Process) (ss : List ProcessState) → length ss ≡ length qs → ((k : ℕ) (q : Process) → slice_get qs k ≡ Some q → StateIs sc w lay q.state (slice_get ss k)) → meaning.some_able qs ≡ machine.some_able ss
some_able_alike sc w lay [] [] e each = refl
some_able_alike sc w lay [] (s ∷ ss) e each = absurd (omega (arith, e))
some_able_alike sc w lay (q ∷ qs) [] e each = absurd (omega (arith, e))
some_able_alike sc w lay (q ∷ qs) (s ∷ ss) e each =
    let fewer : length ss ≡ length qs = omega (arith, e) in
    by_first q.state s (some_able_alike sc w lay qs ss fewer (λ k r h. each (suc k) r h)) (each 0 q refl)
  where
    by_first : (x : State) (s : ProcessState) → meaning.some_able qs ≡ machine.some_able ss → StateIs sc w lay x (Some s) → (meaning_able x || meaning.some_able qs) ≡ machine.some_able (s ∷ ss)
    by_first able Able later is = refl
    by_first (waits_for r) (WaitsFor at) later is = later
    by_first (waits_any rs) WaitsAny later is = later
    by_first (procures r) (Procures at) later is = later
    by_first ended Ended later is = later
    by_first able _ later is = absurd is
    by_first (waits_for r) _ later is = absurd is
    by_first (waits_any rs) _ later is = absurd is
    by_first (procures r) _ later is = absurd is
    by_first ended _ later is = absurd is

-- it is able in both, or in neither
pub able_in_both : (sc : Scopes) (w : World) (lay : Layout) (x : State) (o : Option ProcessState) → StateIs sc w lay x o → meaning_able x ≡ image_able o
able_in_both sc w lay able (Some Able) is = refl
able_in_both sc w lay (waits_for r) (Some (WaitsFor at)) is = refl
able_in_both sc w lay (waits_any rs) (Some WaitsAny) is = refl
able_in_both sc w lay (procures r) (Some (Procures at)) is = refl
able_in_both sc w lay ended (Some Ended) is = refl
able_in_both sc w lay able _ is = absurd is
able_in_both sc w lay (waits_for r) _ is = absurd is
able_in_both sc w lay (waits_any rs) _ is = absurd is
able_in_both sc w lay (procures r) _ is = absurd is
able_in_both sc w lay ended _ is = absurd is

-- it lives in both, or has ended in both
ended_in_both : (sc : Scopes) (w : World) (lay : Layout) (x : State) (o : Option ProcessState) → StateIs sc w lay x o → machine.has_ended o ≡ not (lives x)
ended_in_both sc w lay able (Some Able) is = refl
ended_in_both sc w lay (waits_for r) (Some (WaitsFor at)) is = refl
ended_in_both sc w lay (waits_any rs) (Some WaitsAny) is = refl
ended_in_both sc w lay (procures r) (Some (Procures at)) is = refl
ended_in_both sc w lay ended (Some Ended) is = refl
ended_in_both sc w lay able _ is = absurd is
ended_in_both sc w lay (waits_for r) _ is = absurd is
ended_in_both sc w lay (waits_any rs) _ is = absurd is
ended_in_both sc w lay (procures r) _ is = absurd is
ended_in_both sc w lay ended _ is = absurd is

-- all wait, as an end of the one and of the other
waiting_as : (b : Bool) → (if b then Some meaning.all_waiting else None) ≡ end_as (if b then Some machine.all_waiting else None)
waiting_as true = refl
waiting_as false = refl

-- what may act is able
goes_able : (e : Option ImageEnd) (b : Bool) → machine.goes_on e b ≡ true → b ≡ true
goes_able None b h = h
goes_able (Some e) b h = cc

pub able_acts : (img : Image) (p : ℕ) → may_act img p ≡ true → image_able (numbered img.states p) ≡ true
unfolding may_act
able_acts img p e = goes_able (image_end img) (image_able (numbered img.states p)) e

-- a process that does not live, or is not there, never comes to the limit
pub no_limit : {B : Type 0} (code : Code) (img : Image) (p : ℕ) → is_live (numbered img.states p) ≡ false → table code img p ≡ limit → B
unfolding table raw
no_limit code img p gone t = by_live (is_live (numbered img.states p)) (by_registers code img p (numbered img.regs p)) gone t
  where
    by_live : {C : Type 0} (live : Bool) (x : Effect Image) → live ≡ false → limited (stack_length p) (if live then x else interrupts bad_code) ≡ limit → C
    by_live true x f h = true_false refl f
    by_live false x f h = cc

module _ (tree : PProgram) (code : Code) (texts : Texts) (w : World) (lay : Layout) (img : Image) (by : PicturesBy tree code texts w lay img) where
  -- an able process, and how it is pictured
  pub record IsAble (p : ℕ) : Type 0 where
    pub process : Process
    pub at : numbered w.processes p ≡ Some process
    pub able_is : lives process.state ≡ true
    pub able_p : StateIs (scopes_of tree) w lay process.state (numbered img.states p)
    pub able_now : meaning_able ((process_at w p).state) ≡ true
    pub lives_so : Living tree code texts w lay img p process

  state_is : (p : ℕ) (q : Process) → Pictured tree code texts w lay img p q → StateIs (scopes_of tree) w lay q.state (numbered img.states p)
  state_is p q (living a s l) = s
  state_is p q (dead e s) = subst (λ (x : State). StateIs (scopes_of tree) w lay x (numbered img.states p)) (sym e) (subst (λ (o : Option ProcessState). StateIs (scopes_of tree) w lay ended o) (sym s) tt)

  -- none is there
  beyond : (p : ℕ) → numbered w.processes p ≡ None → numbered img.states p ≡ None
  beyond p e = numbered_beyond w.processes img.states p by.states e

  pub able_alike : (p : ℕ) → meaning_able ((process_at w p).state) ≡ image_able (numbered img.states p)
  able_alike p = found (numbered w.processes p) refl
    where
      found : (o : Option Process) → numbered w.processes p ≡ o → meaning_able ((process_at w p).state) ≡ image_able (numbered img.states p)
      found (Some q) at = ap (λ (x : Option Process). meaning_able ((or_no_process x).state)) at ∙ able_in_both (scopes_of tree) w lay q.state (numbered img.states p) (state_is p q (by.each p q at))
      found None gone = ap (λ (x : Option Process). meaning_able ((or_no_process x).state)) gone ∙ sym (ap image_able (beyond p gone))

  pub able_one : (p : ℕ) → image_able (numbered img.states p) ≡ true → IsAble p
  able_one p e = found (numbered w.processes p) refl
    where
      by_picture : (q : Process) → numbered w.processes p ≡ Some q → Pictured tree code texts w lay img p q → IsAble p
      by_picture q at (living a s l) = record { process = q; at = at; able_is = a; able_p = s; able_now = able_alike p ∙ e; lives_so = l }
      by_picture q at (dead d s) = true_false e (ap image_able s)

      found : (o : Option Process) → numbered w.processes p ≡ o → IsAble p
      found (Some q) at = by_picture q at (by.each p q at)
      found None gone = true_false e (ap image_able (beyond p gone))

  -- ---- the end

  by_fault : (f : Option WorldFault) → meaning.end_by f w.processes ≡ end_as (machine.image_end_by (failure_of f) img.states)
  by_fault (Some f) = refl
  by_fault None =
      let each : (k : ℕ) (q : Process) → slice_get w.processes k ≡ Some q → StateIs (scopes_of tree) w lay q.state (slice_get img.states k) = λ k q e. state_is (suc k) q (by.each (suc k) q e) in
      ap (λ (b : Bool). if b && not (meaning.some_able w.processes) then Some meaning.all_waiting else None) (some_lives_alike (scopes_of tree) w lay w.processes img.states by.states each)
      ∙ ap (λ (b : Bool). if machine.some_lives img.states && not b then Some meaning.all_waiting else None) (some_able_alike (scopes_of tree) w lay w.processes img.states by.states each)
      ∙ waiting_as (machine.some_lives img.states && not (machine.some_able img.states))

  abbrev worldly : Bool → Option meaning.End
  worldly b = if b then meaning.end_by w.fault w.processes else Some meaning.finished

  abbrev imaged : Bool → Option ImageEnd
  imaged b = if b then Some machine.finished else machine.image_end_by img.fault img.states

  -- where there is a process 1
  pub ends_alike : 1 ≤ length w.processes → end_of w ≡ end_as (image_end img)
  unfolding end_of image_end
  ends_alike some = found w.processes refl some
    where
      by_life : (b : Bool) → worldly b ≡ end_as (imaged (not b))
      by_life true = by_fault w.fault ∙ ap (λ (f : Option Failure). end_as (machine.image_end_by f img.states)) (sym by.fault)
      by_life false = refl

      by_state : (q : Process) → numbered w.processes 1 ≡ Some q → StateIs (scopes_of tree) w lay q.state (numbered img.states 1) →
          (if lives ((process_at w 1).state) then meaning.end_by w.fault w.processes else Some meaning.finished) ≡
          end_as (if machine.has_ended (numbered img.states 1) then Some machine.finished else machine.image_end_by img.fault img.states)
      by_state q at is =
          ap (λ (x : Option Process). worldly (lives ((or_no_process x).state))) at
          ∙ by_life (lives q.state)
          ∙ sym (ap (λ (b : Bool). end_as (imaged b)) (ended_in_both (scopes_of tree) w lay q.state (numbered img.states 1) is))

      found : (qs : List Process) → w.processes ≡ qs → 1 ≤ length w.processes →
          (if lives ((process_at w 1).state) then meaning.end_by w.fault w.processes else Some meaning.finished) ≡
          end_as (if machine.has_ended (numbered img.states 1) then Some machine.finished else machine.image_end_by img.fault img.states)
      found [] e many = absurd (omega (arith, many, ap length e))
      found (q ∷ qs) e many =
          let at : numbered w.processes 1 ≡ Some q = ap (λ (xs : List Process). numbered xs 1) e in
          by_state q at (state_is 1 q (by.each 1 q at))

  -- ---- the weight

  pub is_light : (p : ℕ) (r : Registers) → is_live (numbered img.states p) ≡ true → numbered img.regs p ≡ Some r → r.s + 3 ≤ weight tree w p
  is_light p r live at = found (numbered w.processes p) refl
    where
      by_picture : (q : Process) → Pictured tree code texts w lay img p q → r.s + 3 ≤ weight tree w p
      by_picture q (living a s l) =
          let same : r ≡ l.core.registers = some_same (sym at ∙ l.has.registers) in
          omega (arith, ap (λ (x : Registers). x.s) same, l.has.is.top, steps_fit l.steps, l.light)
      by_picture q (dead e s) = true_false live (ap is_live s)

      found : (o : Option Process) → numbered w.processes p ≡ o → r.s + 3 ≤ weight tree w p
      found (Some q) e = by_picture q (by.each p q e)
      found None gone = true_false live (ap is_live (beyond p gone))
