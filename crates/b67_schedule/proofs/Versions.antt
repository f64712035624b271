-- Texts of either version.
use Rattle.std.specs.Prelude.{slice_get, max, ◌⊎◌}
use Rattle.std.proofs.Common.{◌≡◌, ℕ, ◌-◌, ◌<◌, ◌≤◌, Some, List, [], ◌∷◌, ◌++◌, length, take, drop, codes, refl, sym, ap, subst, arith, ◌∙◌, inl, inr, ⊎_elim}
use Rattle.std.proofs.lemmas.List.{append-nil}
use Rattle.std.proofs.lemmas.Bool.{cases_lt}
use Rattle.b67_text.specs.declared.BadText.{BadText}
use Rattle.b67_text.specs.Texts.{Begins, IsRefused, StopsAt, PartStands}
use Rattle.b67_text.proofs.Fronts.{IsWord, word_stops}
use Rattle.b67_text.proofs.Parts.{refused_where_it_stops}
use Rattle.b67_list.proofs.Numbers.{one_target}
use Rattle.b67_schedule.specs.declared.Run.{Run}
use Rattle.b67_deeds.specs.declared.Letter.{Letter}
use Rattle.b67_schedule.specs.declared.reading.Given.{Given}
use Rattle.b67_schedule.specs.declared.reading.Given.TheVariants.{One, Two}
use Rattle.b67_schedule.specs.declared.refusal.ReadSchedule.{ReadSchedule}
use Rattle.b67_schedule.specs.declared.refusal.ReadSchedule.TheVariants.{Bad, NoMemory}
use Rattle.b67_schedule.specs.Schedules.{OldText, ScheduleText}
use Rattle.b67_schedule.specs.Reading.{IsOldText, IsScheduleText, IsGivenText, ScheduleRefuses}
use Rattle.b67_schedule.specs.Giving.{IsTextOf, SaySame}
use Rattle.b67_schedule.proofs.Wholes.{count_part}
use Rattle.b67_schedule.proofs.OldTexts as old
use Rattle.b67_schedule.proofs.OldTexts.{follow_runs}
use Rattle.b67_schedule.proofs.NewTexts as new

-- what is refused as either of two kinds is refused where the one is that reaches farther
both_refused : (First Second : List ℕ → Type 0) (bytes : List ℕ) (n m : ℕ) → IsRefused First bytes n → IsRefused Second bytes m
    → IsRefused (λ (text : List ℕ). First text ⊎ Second text) bytes (max n m)
both_refused First Second bytes n m p q = record {
  none = λ is. ⊎_elim (λ (one : First bytes). p.none one) (λ (other : Second bytes). q.none other) is;
  reach = record {
    within = omega (arith, p.reach.within, q.reach.within);
    begins = ⊎_elim (λ (less : n < m).
        let same : m ≡ max n m = omega arith in
        let begun : Begins Second (take m bytes) = q.reach.begins in
        subst (λ (k : ℕ). Begins (λ (text : List ℕ). First text ⊎ Second text) (take k bytes)) same (begun.0, inr begun.1))
        (λ (more : m ≤ n).
        let same : n ≡ max n m = omega arith in
        let begun : Begins First (take n bytes) = p.reach.begins in
        subst (λ (k : ℕ). Begins (λ (text : List ℕ). First text ⊎ Second text) (take k bytes)) same (begun.0, inl begun.1)) (cases_lt n m);
    longest = λ k inside b. ⊎_elim (λ (one : First (take k bytes ++ b.0)). omega (arith, p.reach.longest k inside (b.0, one)))
        (λ (other : Second (take k bytes ++ b.0)). omega (arith, q.reach.longest k inside (b.0, other))) b.1;
  };
}

-- ---- with the head of version 1

-- the number in the head of version 2 does not stand there
other_stops : (rest : List ℕ) → StopsAt (IsWord new.head) (old.head ++ rest) 0 9
other_stops rest =
    word_stops new.head (old.head ++ rest) 0 9 9 (omega arith) (record { within = omega arith; next_is = refl; part_is = refl }) (λ e. differ e)
  where
    differ : slice_get (old.head ++ rest) 9 ≡ Some 50 → ⊥
    differ e = let same : ◌≡◌ {A = ℕ} 49 50 = one_target 49 50 e in omega (arith, same)

other_refused : (bytes : List ℕ) (next : ℕ) → PartStands old.head bytes 0 next → IsRefused IsScheduleText bytes 9
other_refused bytes next st =
    refused_where_it_stops IsScheduleText bytes 9
    (new.head_stops bytes 0 9 (subst (λ (b : List ℕ). StopsAt (IsWord new.head) b 0 9) (sym st.part_is) (other_stops (drop next bytes))))

-- a refusal as version 1 comes after its head
head_behind : (bytes : List ℕ) (next byte : ℕ) → PartStands old.head bytes 0 next → IsRefused IsOldText bytes byte → 11 ≤ byte
head_behind bytes next byte st refused =
    refused.reach.longest 11 (omega (arith, st.within, st.next_is)) (
      count_part 0,
      subst (λ (front : List ℕ). IsOldText (front ++ count_part 0)) (sym (ap (take 11) st.part_is))
          (record { runs = []; are = follow_runs [] tt (omega arith); text_is = ap (λ (r : List ℕ). old.head ++ r) (sym (append-nil (count_part 0))) }),
    )

pub one_refused : (e : ReadSchedule) (bytes : List ℕ) (next : ℕ) → PartStands old.head bytes 0 next → ScheduleRefuses IsOldText e bytes → ScheduleRefuses IsGivenText e bytes
one_refused (Bad bad) bytes next st refused =
    let far = head_behind bytes next bad.byte st refused in
    let same : max bad.byte 9 ≡ bad.byte = omega (arith, far) in
    subst (IsRefused IsGivenText bytes) same (both_refused IsOldText IsScheduleText bytes bad.byte 9 refused (other_refused bytes next st))
one_refused NoMemory bytes next st refused = tt

-- ---- without it

pub two_refused : (bytes : List ℕ) (old_byte byte : ℕ) → StopsAt (IsWord old.head) bytes 0 old_byte → IsRefused IsScheduleText bytes byte → IsRefused IsGivenText bytes (max old_byte byte)
two_refused bytes old_byte byte stop refused =
    both_refused IsOldText IsScheduleText bytes old_byte byte (refused_where_it_stops IsOldText bytes old_byte (old.head_stops bytes 0 old_byte stop)) refused

-- ---- what is given

pub apart : (runs others : List Run) (letters : List Letter) → OldText runs ≡ ScheduleText others letters → ⊥
apart runs others letters e = let same : ◌≡◌ {A = ℕ} 49 50 = one_target 49 50 (ap (λ (t : List ℕ). slice_get t 9) e) in omega (arith, same)

pub given_same : (found given : Given) (bytes : List ℕ) → IsTextOf found bytes → IsTextOf given bytes → SaySame found given
given_same (One a) (One b) bytes p q = old.one_text a.runs b.runs [] [] p.0 q.0 (ap (λ (t : List ℕ). t ++ []) (sym p.1 ∙ q.1))
given_same (Two a) (Two b) bytes p q =
    let same = new.one_text a.runs b.runs a.letters b.letters [] [] p.0 q.0 (ap (λ (t : List ℕ). t ++ []) (sym p.1 ∙ q.1)) in
    (same.runs_are, same.letters_are)
given_same (One a) (Two b) bytes p q = absurd (apart a.runs b.runs b.letters (sym p.1 ∙ q.1))
given_same (Two a) (One b) bytes p q = absurd (apart b.runs a.runs a.letters (sym q.1 ∙ p.1))

given_is : (given : Given) (bytes : List ℕ) → IsTextOf given bytes → IsGivenText bytes
given_is (One a) bytes is = inl (record { runs = a.runs; are = is.0; text_is = is.1 })
given_is (Two a) bytes is = inr (record { runs = a.runs; letters = a.letters; schedule = is.0; text_is = is.1 })

pub given_not_refused : (e : ReadSchedule) (given : Given) (bytes : List ℕ) → ScheduleRefuses IsGivenText e bytes → IsTextOf given bytes → e ≡ NoMemory
given_not_refused (Bad bad) given bytes refused is = absurd (refused.none (given_is given bytes is))
given_not_refused NoMemory given bytes refused is = refl
