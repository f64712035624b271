-- The world in which GO TO has left instances of a process: all else of them is the same, and so are all others.
use Rattle.std.proofs.Common.{◌≡◌, ◌≢◌, ◌⊎◌, inl, inr, refl, sym, ap, ◌∙◌, subst, ℕ, zero, suc, ◌<◌, ◌≤◌, List, [], ◌∷◌, length, Option, Some, None, true, false, arith}
use Rattle.b67_list.proofs.Numbered.{numbered_set}
use Rattle.b67_list.proofs.Numbers.{none_some}
use Rattle.b67_list.proofs.Truths.{true_false}
use Rattle.b67_scenes.proofs.Prelude.{slice_get, slice_set, numbered, set_numbered, Scopes, leave, Instance, Process, World, no_process, instance_at, or_no_instance, ancestor, with_instance, with_process, Place, place, length_set_numbered, some_same, same_or_not, numbered_other, IsSameBut, StayBelow, StandOn, Layout}
use Rattle.b67_rows.proofs.Parting.{same_but}
use Rattle.b67_scenes.proofs.Kept.{LeavesAlone, AreAlike}
use Rattle.b67_scenes.proofs.Tasks.{EventsStay, events_left}

-- an instance is one of these
abbrev pub IsAmong : List ℕ → ℕ → Type 0
IsAmong [] j = ⊥
IsAmong (i ∷ is) j = (i ≡ j) ⊎ IsAmong is j

-- ---- one is left

abbrev pub left_one : World → ℕ → World
left_one w i = with_instance w i (record (instance_at w i) { left = true })

none_get : {A : Type 0} (xs : List A) (k : ℕ) (y : A) → slice_get xs k ≡ None → slice_get (slice_set xs k y) k ≡ None
none_get [] k y e = e
none_get (x ∷ xs) zero y e = cc
none_get (x ∷ xs) (suc k) y e = none_get xs k y e

none_set : {A : Type 0} (xs : List A) (n : ℕ) (y : A) → numbered xs n ≡ None → numbered (set_numbered xs n y) n ≡ None
none_set xs zero y e = refl
none_set xs (suc k) y e = none_get xs k y e

-- where none stands there, none does after
none_left : (w : World) (i j : ℕ) → numbered w.instances i ≡ None → numbered (left_one w i).instances j ≡ numbered w.instances j
none_left w i j none = by (same_or_not i j)
  where
    by : (i ≡ j) ⊎ (i ≢ j) → numbered (left_one w i).instances j ≡ numbered w.instances j
    by (inl same) =
        subst (λ (k : ℕ). numbered (left_one w i).instances k ≡ numbered w.instances k) same
        (none_set w.instances i (record (instance_at w i) { left = true }) none ∙ sym none)
    by (inr apart) = numbered_other w.instances i j (record (instance_at w i) { left = true }) apart

left_same : (w : World) (i j : ℕ) → IsSameBut (instance_at (left_one w i) j) (instance_at w j)
left_same w i j = by (numbered w.instances i) refl
  where
    by : (o : Option Instance) → numbered w.instances i ≡ o → IsSameBut (instance_at (left_one w i) j) (instance_at w j)
    by (Some x) e = let s = same_but w 0 no_process i x e j in record { block = s.block; parent = s.parent; cells = s.cells }
    by None e =
        let o = none_left w i j e in
        record {
          block = ap (λ (z : Option Instance). (or_no_instance z).block) o;
          parent = ap (λ (z : Option Instance). (or_no_instance z).parent) o;
          cells = ap (λ (z : Option Instance). (or_no_instance z).cells) o;
        }

-- ---- all of these are left

pub leave_others : (is : List ℕ) (w : World) (j : ℕ) → (IsAmong is j → ⊥) → numbered (leave w is).instances j ≡ numbered w.instances j
leave_others [] w j apart = refl
leave_others (i ∷ is) w j apart =
    leave_others is (left_one w i) j (λ a. apart (inr a)) ∙ numbered_other w.instances i j (record (instance_at w i) { left = true }) (λ same. apart (inl same))

pub leave_processes : (is : List ℕ) (w : World) → (leave w is).processes ≡ w.processes
leave_processes [] w = refl
leave_processes (i ∷ is) w = leave_processes is (left_one w i)

pub leave_output : (is : List ℕ) (w : World) → (leave w is).output ≡ w.output
leave_output [] w = refl
leave_output (i ∷ is) w = leave_output is (left_one w i)

pub leave_fault : (is : List ℕ) (w : World) → (leave w is).fault ≡ w.fault
leave_fault [] w = refl
leave_fault (i ∷ is) w = leave_fault is (left_one w i)

pub leave_many : (is : List ℕ) (w : World) → length (leave w is).instances ≡ length w.instances
leave_many [] w = refl
leave_many (i ∷ is) w = leave_many is (left_one w i) ∙ length_set_numbered w.instances i (record (instance_at w i) { left = true })

pub leave_same : (is : List ℕ) (w : World) (j : ℕ) → IsSameBut (instance_at (leave w is) j) (instance_at w j)
leave_same [] w j = record { block = refl; parent = refl; cells = refl }
leave_same (i ∷ is) w j =
    let later : IsSameBut (instance_at (leave w (i ∷ is)) j) (instance_at (left_one w i) j) = leave_same is (left_one w i) j in
    let first : IsSameBut (instance_at (left_one w i) j) (instance_at w j) = left_same w i j in
    record { block = later.block ∙ first.block; parent = later.parent ∙ first.parent; cells = later.cells ∙ first.cells }

-- also where a process has other parts
pub same_up : (w : World) (is : List ℕ) (p : ℕ) (q : Process) (up j : ℕ) → ancestor (with_process (leave w is) p q) up j ≡ ancestor w up j
same_up w is p q zero j = refl
same_up w is p q (suc up) j = ap (λ (n : ℕ). ancestor (with_process (leave w is) p q) up n) (leave_same is w j).parent ∙ same_up w is p q up ((instance_at w j).parent)

-- ---- what stands then stood before, and is none of these

-- what is left, and what was left before
abbrev AllLeft : World → ℕ → Type 0
AllLeft w j = (x : Instance) → numbered w.instances j ≡ Some x → x.left ≡ true

one_gone : (w : World) (i j : ℕ) → (i ≡ j) ⊎ AllLeft w j → AllLeft (left_one w i) j
one_gone w i j gone x e = by (same_or_not i j) gone
  where
    gone_there : Instance
    gone_there = record (instance_at w i) { left = true }

    here : (o : Option Instance) → numbered w.instances i ≡ o → i ≡ j → x.left ≡ true
    here None none same = none_some (sym (none_set w.instances i gone_there none) ∙ ap (λ (k : ℕ). numbered (left_one w i).instances k) same ∙ e)
    here (Some y) there same =
        let is : gone_there ≡ x = some_same (sym (numbered_set w.instances i y gone_there there) ∙ ap (λ (k : ℕ). numbered (left_one w i).instances k) same ∙ e) in
        ap (λ (z : Instance). z.left) (sym is)

    by : (i ≡ j) ⊎ (i ≢ j) → (i ≡ j) ⊎ AllLeft w j → x.left ≡ true
    by (inl same) known = here (numbered w.instances i) refl same
    by (inr apart) (inl same) = absurd (apart same)
    by (inr apart) (inr before) = before x (sym (numbered_other w.instances i j gone_there apart) ∙ e)

still_left : (is : List ℕ) (w : World) (j : ℕ) → AllLeft w j → AllLeft (leave w is) j
still_left [] w j gone = gone
still_left (i ∷ is) w j gone = still_left is (left_one w i) j (one_gone w i j (inr gone))

all_gone : (is : List ℕ) (w : World) (j : ℕ) → IsAmong is j → AllLeft (leave w is) j
all_gone [] w j a = absurd a
all_gone (i ∷ is) w j (inl same) = still_left is (left_one w i) j (one_gone w i j (inl same))
all_gone (i ∷ is) w j (inr later) = all_gone is (left_one w i) j later

among_or_not : (is : List ℕ) (j : ℕ) → IsAmong is j ⊎ (IsAmong is j → ⊥)
among_or_not [] j = inr (λ a. a)
among_or_not (i ∷ is) j = by (same_or_not i j) (among_or_not is j)
  where
    by : (i ≡ j) ⊎ (i ≢ j) → IsAmong is j ⊎ (IsAmong is j → ⊥) → IsAmong (i ∷ is) j ⊎ (IsAmong (i ∷ is) j → ⊥)
    by (inl same) later = inl (inl same)
    by (inr apart) (inl later) = inl (inr later)
    by (inr apart) (inr none) = inr neither
      where
        neither : IsAmong (i ∷ is) j → ⊥
        neither (inl same) = apart same
        neither (inr later) = none later

pub stood_before : (is : List ℕ) (w : World) (j : ℕ) (x : Instance) → numbered (leave w is).instances j ≡ Some x → x.left ≡ false → (numbered w.instances j ≡ Some x) × (IsAmong is j → ⊥)
stood_before is w j x there stands = by (among_or_not is j)
  where
    by : IsAmong is j ⊎ (IsAmong is j → ⊥) → (numbered w.instances j ≡ Some x) × (IsAmong is j → ⊥)
    by (inl a) = true_false (all_gone is w j a x there) stands
    by (inr none) = (sym (leave_others is w j none) ∙ there, none)

-- ---- those of one process, whose frames lie high

module _ (w : World) (lay : Layout) (p limit : ℕ) where
  pub record IsHigh (i : ℕ) : Type 0 where
    pub instance : Instance
    pub is : numbered w.instances i ≡ Some instance
    pub own : instance.process ≡ p
    pub at : ℕ
    pub laid : numbered lay.places i ≡ Some (place p at)
    pub high : limit ≤ at

  abbrev pub AreHigh : List ℕ → Type 0
  AreHigh [] = Unit {0}
  AreHigh (i ∷ is) = IsHigh i × AreHigh is

  among_high : (is : List ℕ) → AreHigh is → (j : ℕ) → IsAmong is j → IsHigh j
  among_high [] high j a = absurd a
  among_high (i ∷ is) high j (inl same) = subst IsHigh same high.0
  among_high (i ∷ is) high j (inr later) = among_high is high.1 j later

  -- what lies lower stays
  pub leave_below : (sc : Scopes) (is : List ℕ) → AreHigh is → (q : Process) → StandOn sc w (with_process (leave w is) p q) lay lay → StayBelow sc w (with_process (leave w is) p q) lay lay p limit
  leave_below sc is high q on =
      record {
        on = on;
        instances = λ j at x there own laid low. leave_others is w j (λ a. apart j at laid low (among_high is high j a)) ∙ there;
        rows = λ j at x there own laid low. refl;
      }
    where
      apart : (j at : ℕ) → numbered lay.places j ≡ Some (place p at) → at < limit → IsHigh j → ⊥
      apart j at laid low h =
          let same : h.at ≡ at = ap (λ (x : Place). x.at) (some_same (sym h.laid ∙ laid)) in
          absurd (omega (arith, h.high, low, same))

  -- and so do events
  pub leave_events : (is : List ℕ) (q : Process) → EventsStay w (with_process (leave w is) p q)
  leave_events is q = events_left w (with_process (leave w is) p q) (λ j. let s : IsSameBut (instance_at (leave w is) j) (instance_at w j) = leave_same is w j in record { block = s.block; parent = s.parent; cells = s.cells })

  -- and what other processes have
  pub leave_alike : (sc : Scopes) (is : List ℕ) → AreHigh is → (q : Process) (m : ℕ) → m ≢ p → LeavesAlone sc w (with_process (leave w is) p q) lay lay m → AreAlike sc w (with_process (leave w is) p q) lay lay m
  leave_alike sc is high q m other alone =
      record {
        alone = alone;
        own = λ j x there own. leave_others is w j (λ a. apart j x there own (among_high is high j a)) ∙ there;
        rows = λ j x there own. refl;
        events = leave_events is q;
      }
    where
      apart : (j : ℕ) (x : Instance) → numbered w.instances j ≡ Some x → x.process ≡ m → IsHigh j → ⊥
      apart j x there own h = other (sym own ∙ ap (λ (y : Instance). y.process) (some_same (sym there ∙ h.is)) ∙ h.own)
