-- What the calls of processors that share a plant leave.
use Rattle.std.proofs.Common.{◌≡◌, inl, inr, refl, sym, ap, subst, ◌∙◌, ℕ, zero, suc, ◌+◌, ◌≤◌, Bool, true, false, Option, Some, None, List, length, arith}
use Rattle.std.specs.Prelude.{◌≢◌}
use Rattle.b67_list.specs.Numbered.{numbered}
use Rattle.b67_segment.specs.declared.code.Code.{Code}
use Rattle.b67_table.specs.declared.ProcessState.{ProcessState}
use Rattle.b67_table.specs.Image.{is_able}
use Rattle.b67_table.proofs.Lists.{numbered_within}
use Rattle.b67_stands.specs.Running.{Running, answer_of}
use Rattle.b67_stands.specs.Picked.{Pick}
use Rattle.b67_stands.specs.Placing.{holder_of}
use Rattle.b67_stands.specs.Stands.{Stands}
use Rattle.b67_stands.proofs.Places.{held_able}
use Rattle.b67_stands.specs.Shared.{Shared, take, land, run, leave, IsFree, with_acts}
use Rattle.b67_stands.proofs.Staying.{runs_go_on}
use Rattle.b67_plant.specs.declared.taking.Taken.{Taken}
use Rattle.b67_plant.specs.declared.taking.Taken.TheVariants as taken
use Rattle.b67_plant.specs.declared.taking.PlantLanding.{PlantLanding}
use Rattle.b67_plant.specs.declared.taking.PlantLanding.TheVariants as landings
use Rattle.b67_parcel.specs.Parcels.{Stretch}
use Rattle.b67_plant.specs.Calls.{PlantTakes, MayLand, PutsParcel, entries_in, LandsOrStays, LeavesOr}
use Rattle.b67_plant.proofs.Made.{no_acts}

-- ---- the calls

module _ (code : Code) (budget : ℕ) (pick : Pick) (processors : ℕ) (acts : List ℕ) (old new : Running) (shared : Shared code budget pick processors acts old) where
  pub as_it_was : new ≡ old → Shared code budget pick processors acts new
  as_it_was same = subst (Shared code budget pick processors acts) (sym same) shared

  no_more : (me made : ℕ) → made ≡ 0 → Shared code budget pick processors acts new → Shared code budget pick processors (with_acts acts me made) new
  no_more me made none is =
      subst (λ (xs : List ℕ). Shared code budget pick processors xs new) (sym (no_acts acts me) ∙ ap (with_acts acts me) (sym none)) is

  pub taken_on : (me : ℕ) (answer : Taken) (p : ℕ) → 1 ≤ me → me ≤ processors → IsFree me old → PlantTakes pick budget me old answer p new
      → Shared code budget pick processors acts new
  taken_on me taken.Work p one most free t = take me p shared t.0 one most free t.1
  taken_on me taken.Idle p one most free t = as_it_was t.2
  taken_on me taken.Over p one most free t = as_it_was t.1
  taken_on me taken.Lacked p one most free t = as_it_was t.1

  -- with so many entries
  counted_run : (n : ℕ) (s : Stretch) (me made : ℕ) → 1 ≤ me → me ≤ processors → MayLand budget me s old → PutsParcel n budget s old new → made + old.acts ≡ new.acts
      → Shared code budget pick processors (with_acts acts me made) new
  counted_run zero s me made one most may l book =
      no_more me made (omega (arith, book, ap (λ (r : Running). r.acts) l.new_is)) (land s.process s.ran.plain shared may.0 (omega (arith, may.1, one)) l)
  counted_run (suc n) s me made one most may (inr (vain, same)) book =
      no_more me made (omega (arith, book, ap (λ (r : Running). r.acts) same)) (as_it_was same)
  counted_run (suc n) s me made one most may (inl puts) book =
      let before = run me s.process (entries_in s) s.ran.operators shared may.0 one most may.1 puts.runs in
      let on = runs_go_on budget old puts.between s.process (entries_in s) s.ran.operators may.0 puts.runs in
      let out : 1 ≤ holder_of puts.between.out s.process =
      omega (arith, ap (λ (r : Running). holder_of r.out s.process) puts.runs.new_is, may.1, one) in
      let same : length (entries_in s) ≡ made =
      omega (arith, book, ap (λ (r : Running). r.acts) puts.runs.new_is, ap (λ (r : Running). r.acts) puts.lands.new_is) in
      subst (λ (k : ℕ). Shared code budget pick processors (with_acts acts me k) new) same (land s.process s.ran.plain before on out puts.lands)

  none : (me made : ℕ) → new ≡ old → made + old.acts ≡ new.acts → Shared code budget pick processors (with_acts acts me made) new
  none me made same book = no_more me made (omega (arith, book, ap (λ (r : Running). r.acts) same)) (as_it_was same)

  pub landed_on : (me : ℕ) (s : Stretch) (answer : PlantLanding) (made : ℕ) → 1 ≤ me → me ≤ processors → LandsOrStays budget me s old answer new → made + old.acts ≡ new.acts
      → Shared code budget pick processors (with_acts acts me made) new
  landed_on me s landings.Landed made one most t book = counted_run s.room s me made one most t.0 t.1.puts book
  landed_on me s (landings.Stale place kept given) made one most t book = none me made t.2 book
  landed_on me s landings.NotOut made one most t book = none me made t.2 book
  landed_on me s landings.Over made one most t book = none me made t.1 book
  landed_on me s landings.Lacked made one most t book = none me made t.1 book

  pub left_on : (has_left : Bool) → answer_of budget old ≢ None → LeavesOr has_left old new → Shared code budget pick processors acts new
  left_on true ended t = leave shared ended t
  left_on false ended t = as_it_was t

-- whoever is out has been started
pub started_out : (code : Code) (budget : ℕ) (s : Running) → Stands code budget s → answer_of budget s ≡ None → (q : ℕ) → 1 ≤ holder_of s.out q → q ≤ s.machine.image.started
started_out code budget s stands going q held =
    let able = held_able s.machine.image s.waiting s.out q (stands.placed going) held in
    let state = state_of (numbered s.machine.image.states q) able in
    omega (arith, numbered_within s.machine.image.states q state.0 state.1, stands.valid.states)
  where
    state_of : (o : Option ProcessState) → is_able o ≡ true → (x : ProcessState) × (o ≡ Some x)
    state_of (Some x) e = (x, refl)
    state_of None e = cc

-- so where nobody of those is out with a processor, nobody is
pub nobody : (code : Code) (budget : ℕ) (s : Running) (me : ℕ) → Stands code budget s → answer_of budget s ≡ None → 1 ≤ me
    → ((q : ℕ) → 1 ≤ q → q ≤ s.machine.image.started → holder_of s.out q ≢ me) → IsFree me s
nobody code budget s me stands going one none zero e = omega (arith, e, one)
nobody code budget s me stands going one none (suc k) e =
    none (suc k) (omega arith) (started_out code budget s stands going (suc k) (omega (arith, e, one))) e
