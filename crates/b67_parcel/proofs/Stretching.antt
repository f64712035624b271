-- What a parcel keeps as it is made, filled and worked.
use Rattle.std.specs.Prelude.{nat_le, slice_get, take}
use Rattle.std.proofs.Common.{◌≡◌, ◌⊎◌, inl, inr, refl, sym, ap, subst, ◌∙◌, ℕ, zero, suc, ◌+◌, ◌-◌, ◌<◌, ◌≤◌, Bool, true, false, List, [], ◌∷◌, ◌++◌, drop, length, Some, arith}
use Rattle.std.proofs.lemmas.Bool.{leb-true, leb-false}
use Rattle.std.proofs.lemmas.List.{length-take-le}
use Rattle.b67_list.specs.Numbered.{numbered}
use Rattle.b67_word.specs.Word.{Word}
use Rattle.b67_limits.specs.declared.TheConstants.{MOST_STRETCH}
use Rattle.b67_control.specs.declared.Registers.{Registers}
use Rattle.b67_deeds.specs.declared.Letter.{Letter}
use Rattle.b67_segment.specs.declared.code.Code.{Code}
use Rattle.b67_table.specs.declared.Private.{Private}
use Rattle.b67_table.specs.Beginning.{first_image, first_registers}
use Rattle.b67_table.specs.Image.{Image, is_able}
use Rattle.b67_table.specs.Privacy.{RegistersStay}
use Rattle.b67_table.specs.Valid.{IsValid}
use Rattle.b67_table.proofs.Cited.{keeps_both}
use Rattle.b67_private.specs.Parts.{PlainParts, stay, go, IsPrivatePart, is_plain}
use Rattle.b67_private.proofs.ValidParts.{first_part}
use Rattle.b67_action.specs.declared.running.Ran.{Ran}
use Rattle.b67_machine.specs.declared.tables.Levels.{Levels}
use Rattle.b67_machine.specs.Tables.{AreTables}
use Rattle.b67_machine.specs.Chaining.{RunsTo}
use Rattle.b67_machine.specs.Parts.{private_part, whole_part, IsWholePart, IsFull}
use Rattle.b67_limits.specs.declared.TheConstants.{MOST_RUN}
use Rattle.b67_parcel.specs.Parcels.{Stretch, IsTaken, IsStretch, part_for, IsComplete, IsPlain, IsRun, Performs, WorkedBy, no_operators, IsFetched, Fetched}

keeps_self : (r : Registers) → RegistersStay r r
keeps_self r = (refl, refl, refl, refl, refl, refl)

-- ---- as it is filled

module _ (code : Code) (p : ℕ) (start end : Private) (noted : List Letter) (same : end ≡ start) (part : IsPrivatePart start) where
  idle : (room : ℕ) → Performs room code (record { process = p; room = room; start = start; end = end; ran = no_operators; noted = noted })
  idle zero = record {
    performed = subst (PlainParts code start 0) (sym same) stay;
    only = refl;
    few = omega arith;
    keeps = subst (λ (x : Private). RegistersStay start.regs x.regs) (sym same) (keeps_self start.regs);
    part = subst IsPrivatePart (sym same) part;
  }
  idle (suc n) = inl (record { none = refl; same = same })

  pub filled : (room : ℕ) (ran : Ran) → IsTaken code p room start → IsComplete room start → length noted ≡ room → ran ≡ no_operators
      → IsStretch code (record { process = p; room = room; start = start; end = end; ran = ran; noted = noted })
  filled room ran taken complete size none =
      subst (λ (r : Ran). IsStretch code (record { process = p; room = room; start = start; end = end; ran = r; noted = noted })) (sym none)
      (record { taken = taken; complete = complete; is_part = part; performed = idle room; letters = size })

-- ---- as it begins with what was taken ahead

-- the words from one on
from_one : (ws : List Word) (n : ℕ) (w : Word) → slice_get ws n ≡ Some w → w ∷ drop (suc n) ws ≡ drop n ws
from_one [] zero w e = cc
from_one [] (suc n) w e = cc
from_one (x ∷ ws) zero w e = let same : x ≡ w = cc in ap (λ (z : Word). z ∷ ws) (sym same)
from_one (x ∷ ws) (suc n) w e = from_one ws n w e

pub next_copied : (ws : List Word) (at : ℕ) (w : Word) → 0 < at → slice_get ws (at - 1) ≡ Some w → w ∷ drop at ws ≡ drop (at - 1) ws
next_copied ws zero w some e = absurd (omega (arith, some))
next_copied ws (suc n) w some e =
    let same : suc n - 1 ≡ n = omega arith in
    from_one ws n w (subst (λ (k : ℕ). slice_get ws k ≡ Some w) same e) ∙ ap (λ (k : ℕ). drop k ws) (sym same)

pub begun_with : (code : Code) (f : Fetched) (p room : ℕ) (start end : Private) (ran : Ran) (noted : List Letter) → IsFetched code f → p ≡ f.process → room ≡ f.room → start ≡ f.part
    → end ≡ start → ran ≡ no_operators → length noted ≡ room → IsStretch code (record { process = p; room = room; start = start; end = end; ran = ran; noted = noted })
begun_with code f p room start end ran noted is e r s x none size =
    let taken : IsTaken code p room start =
    subst (λ (q : ℕ). IsTaken code q room start) (sym e) (subst (λ (k : ℕ). IsTaken code f.process k start) (sym r)
    (subst (λ (y : Private). IsTaken code f.process f.room y) (sym s) is.taken)) in
    let complete : IsComplete room start =
    subst (λ (k : ℕ). IsComplete k start) (sym r) (subst (λ (y : Private). IsComplete f.room y) (sym s) is.complete) in
    filled code p start end noted x (subst IsPrivatePart (sym s) is.is_part) room ran taken complete size none

-- a part that was lent stands first
pub first_is : (part rest : List Letter) (n : ℕ) → length part ≡ n → take n (part ++ rest) ≡ part
first_is [] rest zero e = refl
first_is [] rest (suc n) e = absurd (omega (arith, e))
first_is (l ∷ part) rest zero e = absurd (omega (arith, e))
first_is (l ∷ part) rest (suc n) e = ap (λ (xs : List Letter). l ∷ xs) (first_is part rest n (omega (arith, e)))

-- as many letters as it may have entries
pub letters_noted : (letters : List Letter) (room most : ℕ) → length letters ≡ most → room ≤ most → length (take room letters) ≡ room
letters_noted letters room most e few = length-take-le room letters (omega (arith, e, few))

-- ---- as it is made

first_taken : private_part first_image 1 ≡ Some (record { regs = first_registers; words = [] })
unfolding first_image
first_taken = refl

first_able : is_able (numbered first_image.states 1) ≡ true
unfolding first_image
first_able = refl

part_is : (p : Private) (r : Registers) (ws : List Word) → p.regs ≡ r → p.words ≡ ws → p ≡ record { regs = r; words = ws }
part_is p r ws e f = ap (λ (x : Registers). record { regs = x; words = p.words }) e ∙ ap (λ (x : List Word). record { regs = r; words = x }) f

first_of : (code : Code) → IsValid code first_image → IsTaken code 1 0 (record { regs = first_registers; words = [] })
first_of code valid = record { image = first_image; valid = valid; able = first_able; part = first_taken }

pub begun : (code : Code) (start end : Private) (ran : Ran) (noted : List Letter) → IsValid code first_image → (start.regs ≡ first_registers) × (start.words ≡ [])
    → (end.regs ≡ first_registers) × (end.words ≡ []) → ran ≡ no_operators → length noted ≡ 0
    → IsStretch code (record { process = 1; room = 0; start = start; end = end; ran = ran; noted = noted })
begun code start end ran noted valid e f none size =
    let first : Private = record { regs = first_registers; words = [] } in
    let starts : start ≡ first = part_is start first_registers [] e.0 e.1 in
    let ends : end ≡ first = part_is end first_registers [] f.0 f.1 in
    filled code 1 start end noted (ends ∙ sym starts) (subst IsPrivatePart (sym starts) first_part) 0 ran (subst (IsTaken code 1 0) (sym starts) (first_of code valid))
    (subst IsWholePart (sym starts) refl) size none

pub none_fetched : (code : Code) (part : Private) → IsValid code first_image → (part.regs ≡ first_registers) × (part.words ≡ [])
    → IsFetched code (record { is_there = false; process = 1; room = 0; part = part })
none_fetched code part valid e =
    let b = begun code part part no_operators [] valid e e refl refl in
    record { taken = b.taken; complete = b.complete; is_part = b.is_part }

pub no_tables : (code : Code) (tables : List Levels) → tables ≡ [] → AreTables code tables
no_tables code tables e = subst (AreTables code) (sym e) (λ segment level table h. cc)

-- ---- as it is worked

pub plains_both : (code : Code) (a b c : Private) (n m : ℕ) → PlainParts code a n b → PlainParts code b m c → PlainParts code a (n + m) c
plains_both code a b c n m stay rest = let same : m ≡ 0 + m = omega arith in subst (λ (k : ℕ). PlainParts code a k c) same rest
plains_both code a b c n m (go {b = d} {n = k} e plains) rest =
    let same : k + m + 1 ≡ k + 1 + m = omega arith in
    subst (λ (x : ℕ). PlainParts code a x c) same (go e (plains_both code d b c k m plains rest))

pub as_far : {A : Type 0} (n m most : ℕ) → n ≤ most → m ≤ most - n → (m < most - n → A) → (n + m ≡ most) ⊎ A
as_far {A} n m most few le stops = by (nat_le (most - n) m) refl
  where
    by : (b : Bool) → nat_le (most - n) m ≡ b → (n + m ≡ most) ⊎ A
    by true e = inl (omega (arith, few, le, leb-true (most - n) m e))
    by false e = inr (stops (leb-false (most - n) m e))

-- a parcel that may have no entries is of a private part
pub plain_of : (n : ℕ) (code : Code) (s : Stretch) → n ≡ 0 → Performs n code s → IsPlain code s
plain_of n code s e is = subst (λ (k : ℕ). Performs k code s) e is

pub of_plain : (n : ℕ) (code : Code) (s : Stretch) → n ≡ 0 → IsPlain code s → Performs n code s
of_plain n code s e is = subst (λ (k : ℕ). Performs k code s) (sym e) is

pub worked_plain : (n : ℕ) (code : Code) (s : Stretch) → n ≡ 0 → (s.ran.plain ≡ MOST_STRETCH) ⊎ (is_plain code s.end ≡ false) → WorkedBy n code s
worked_plain n code s e is = subst (λ (k : ℕ). WorkedBy k code s) (sym e) is

-- the operators of a stretch, with so many plain ones more
more_plain : (ran : Ran) (n : ℕ) → ran ≡ record no_operators { plain = ran.plain } → record ran { plain = n } ≡ record no_operators { plain = n }
more_plain ran n e = ap (λ (r : Ran). record r { plain = n }) e

abbrev pub stretched : Stretch → Private → ℕ → Stretch
stretched s after m = record s { end = after; ran = record s.ran { plain = s.ran.plain + m } }

module _ (code : Code) (s : Stretch) (after : Private) (m : ℕ) (is : IsPlain code s) (more : PlainParts code s.end m after) (most : m ≤ MOST_STRETCH - s.ran.plain)
    (keeps : RegistersStay s.end.regs after.regs) (part : IsPrivatePart after) where
  pub goes_on : IsPlain code (stretched s after m)
  goes_on = record {
    performed = plains_both code s.start s.end after s.ran.plain m is.performed more;
    only = more_plain s.ran (s.ran.plain + m) is.only;
    few = omega (arith, most, is.few);
    keeps = keeps_both s.start.regs s.end.regs after.regs is.keeps keeps;
    part = part;
  }

  pub worked : (m < MOST_STRETCH - s.ran.plain → is_plain code after ≡ false) → (s.ran.plain + m ≡ MOST_STRETCH) ⊎ (is_plain code after ≡ false)
  worked stops = as_far s.ran.plain m MOST_STRETCH is.few most stops

-- one that may have some is of the whole stack
pub whole_of : (n : ℕ) (img : Image) (p : ℕ) (start : Private) → 1 ≤ n → part_for n img p ≡ Some start → whole_part img p ≡ Some start
whole_of zero img p start some e = absurd (omega (arith, some))
whole_of (suc n) img p start some e = e

-- its run, as it was performed on a copy of the start
module _ (code other : Code) (s : Stretch) (copy end : Private) (ran : Ran) (noted : List Letter) (same : other ≡ code) (copied : copy ≡ s.start)
    (runs : (p : ℕ) → RunsTo other p MOST_RUN copy ran noted end) (full : IsFull end) (keeps : RegistersStay copy.regs end.regs) (counted : ran.entries ≤ ran.operators)
    (most : ran.operators + ran.plain ≤ MOST_RUN) where
  pub has_run : IsRun code (record s { end = end; ran = ran; noted = noted })
  has_run = record {
    runs = subst (λ (c : Code). RunsTo c s.process MOST_RUN s.start ran noted end) same
        (subst (λ (x : Private). RunsTo other s.process MOST_RUN x ran noted end) copied (runs s.process));
    full = full;
    keeps = subst (λ (x : Private). RegistersStay x.regs end.regs) copied keeps;
    counted = counted;
    most = most;
  }

pub of_run : (n : ℕ) (code : Code) (s : Stretch) → 1 ≤ n → IsRun code s → Performs n code s
of_run zero code s some is = absurd (omega (arith, some))
of_run (suc n) code s some is = inr is

pub worked_run : (n : ℕ) (code : Code) (s : Stretch) → 1 ≤ n → IsRun code s → WorkedBy n code s
worked_run zero code s some is = absurd (omega (arith, some))
worked_run (suc n) code s some is = is
