-- Lines that are written, one after another.
use Rattle.std.proofs.Common.{◌≡◌, ℕ, ◌+◌, ◌-◌, ◌<◌, ◌≤◌, zero, suc, List, [], ◌∷◌, ◌++◌, length, take, drop, set, replicate, get_or, refl, sym, ap, arith, ◌∙◌, append_assoc}
use Rattle.std.proofs.lemmas.List.{append-nil, length-append, length-replicate, length-take-le, length-drop, take_all, take_more, take-append-le, drop-append-le, take-append-drop, map-append, set_split}
use Rattle.b67_schedule.specs.declared.Run.{Run}
use Rattle.b67_deeds.specs.declared.Letter.{Letter}
use Rattle.b67_deeds.specs.Letters.{byte_of}
use Rattle.b67_schedule.specs.Letters.{bytes_of}
use Rattle.b67_schedule.specs.Schedules.{entries, letter_line, letter_lines}
use Rattle.b67_schedule.proofs.Pushes.{entries_push}
use Rattle.std.specs.Prelude.{if◌then◌else◌, Result, Ok, Err, OnOk, is_ok}
use Rattle.b67_schedule.proofs.NewTexts.{nothing}

-- how many letters are the first run's
first_few : (run : Run) (runs : List Run) (letters : List Letter) → length letters ≡ length (entries (run ∷ runs)) → (run.times ≤ length letters) × (length (drop run.times letters) ≡ length (entries runs))
first_few run runs letters e =
    let all : length (entries (run ∷ runs)) ≡ run.times + length (entries runs) =
    length-append (replicate run.times run.process) (entries runs) ∙ ap (λ (n : ℕ). n + length (entries runs)) (length-replicate run.times run.process) in
    let own : length (take run.times letters) ≡ run.times = length-take-le run.times letters (omega (arith, e, all)) in
    let both : length letters ≡ length (take run.times letters) + length (drop run.times letters) =
    ap length (sym (take-append-drop run.times letters)) ∙ length-append (take run.times letters) (drop run.times letters) in
    (omega (arith, e, all), omega (arith, e, all, own, both))

-- one more line
pub lines_more : (runs : List Run) (run : Run) (letters more : List Letter) → length letters ≡ length (entries runs) → length more ≡ run.times →
    letter_lines (runs ++ run ∷ []) (letters ++ more) ≡ letter_lines runs letters ++ letter_line run.process more
lines_more [] run letters more e long =
    ap (λ (ls : List Letter). letter_line run.process (take run.times (ls ++ more)) ++ []) (nothing letters (omega (arith, e)))
    ∙ append-nil (letter_line run.process (take run.times more)) ∙ ap (λ (ls : List Letter). letter_line run.process ls) (take_all run.times more (omega (arith, long)))
lines_more (first ∷ runs) run letters more e long =
    let f = first_few first runs letters e in
    ap (λ (ls : List Letter). letter_line first.process ls ++ letter_lines (runs ++ run ∷ []) (drop first.times (letters ++ more))) (take-append-le first.times letters more f.0)
    ∙ ap (λ (ls : List Letter). letter_line first.process (take first.times letters) ++ letter_lines (runs ++ run ∷ []) ls) (drop-append-le first.times letters more f.0)
    ∙ ap (λ (t : List ℕ). letter_line first.process (take first.times letters) ++ t) (lines_more runs run (drop first.times letters) more f.1 long)
    ∙ sym (append_assoc (letter_line first.process (take first.times letters)) (letter_lines runs (drop first.times letters)) (letter_line run.process more))

-- ---- letters

set_behind : (front xs : List ℕ) (k y : ℕ) → set (front ++ xs) (length front + k) y ≡ front ++ set xs k y
set_behind [] xs k y = let same : length {A = ℕ} [] + k ≡ k = omega arith in ap (λ (n : ℕ). set xs n y) same
set_behind (x ∷ front) xs k y =
    let next : length (x ∷ front) + k ≡ suc (length front + k) = omega arith in
    ap (λ (n : ℕ). set (x ∷ (front ++ xs)) n y) next ∙ ap (λ (zs : List ℕ). x ∷ zs) (set_behind front xs k y)

written : (letters : List Letter) (k m : ℕ) (d : Letter) → k + suc m ≡ length letters →
    set (bytes_of (take k letters) ++ replicate (suc m) 0) k (byte_of (get_or letters k d)) ≡ bytes_of (take (suc k) letters) ++ replicate m 0
written [] zero m d e = absurd (omega (arith, e))
written [] (suc k) m d e = absurd (omega (arith, e))
written (l ∷ letters) zero m d e = refl
written (l ∷ letters) (suc k) m d e = ap (λ (xs : List ℕ). byte_of l ∷ xs) (written letters k m d (omega (arith, e)))

-- one more byte is written over the zeros
pub one_written : (front : List ℕ) (letters : List Letter) (at k : ℕ) (d : Letter) → k < length letters → at ≡ length front + k →
    set (front ++ (bytes_of (take k letters) ++ replicate (length letters - k) 0)) at (byte_of (get_or letters k d))
    ≡ front ++ (bytes_of (take (k + 1) letters) ++ replicate (length letters - (k + 1)) 0)
one_written front letters at k d inside is =
    let m : ℕ = length letters - (k + 1) in
    let zeros : length letters - k ≡ suc (length letters - (k + 1)) = omega (arith, inside) in
    let next : suc k ≡ k + 1 = omega arith in
    ap (λ (n : ℕ). set (front ++ (bytes_of (take k letters) ++ replicate n 0)) at (byte_of (get_or letters k d))) zeros
    ∙ ap (λ (n : ℕ). set (front ++ (bytes_of (take k letters) ++ replicate (suc (length letters - (k + 1))) 0)) n (byte_of (get_or letters k d))) is
    ∙ set_behind front (bytes_of (take k letters) ++ replicate (suc (length letters - (k + 1))) 0) k (byte_of (get_or letters k d))
    ∙ ap (λ (xs : List ℕ). front ++ xs) (written letters k (length letters - (k + 1)) d (omega (arith, inside)))
    ∙ ap (λ (n : ℕ). front ++ (bytes_of (take n letters) ++ replicate (length letters - (k + 1)) 0)) next

-- ---- where a run's letters stand

all : (run : Run) (runs : List Run) → length (entries (run ∷ runs)) ≡ run.times + length (entries runs)
all run runs = length-append (replicate run.times run.process) (entries runs) ∙ ap (λ (n : ℕ). n + length (entries runs)) (length-replicate run.times run.process)

pub run_within : (runs : List Run) (i : ℕ) (d : Run) → i < length runs → length (entries (take i runs)) + (get_or runs i d).times ≤ length (entries runs)
run_within [] i d inside = absurd (omega (arith, inside))
run_within (run ∷ runs) zero d inside = omega (arith, all run runs)
run_within (run ∷ runs) (suc i) d inside = omega (arith, run_within runs i d (omega (arith, inside)), all run runs, all run (take i runs))

pub entries_next : (runs : List Run) (i : ℕ) (d : Run) → i < length runs → length (entries (take (i + 1) runs)) ≡ length (entries (take i runs)) + (get_or runs i d).times
entries_next runs i d inside =
    let run : Run = get_or runs i d in
    ap (λ (rs : List Run). length (entries rs)) (take_more runs i d inside) ∙ ap length (entries_push (take i runs) run)
    ∙ length-append (entries (take i runs)) (replicate run.times run.process) ∙ ap (λ (n : ℕ). length (entries (take i runs)) + n) (length-replicate run.times run.process)

-- the text up to a run, and the run's line
pub line_written : (runs : List Run) (letters : List Letter) (i at : ℕ) (d : Run) → i < length runs → length letters ≡ length (entries runs) → at ≡ length (entries (take i runs)) →
    letter_lines (take (i + 1) runs) (take (at + (get_or runs i d).times) letters)
    ≡ letter_lines (take i runs) (take at letters) ++ letter_line (get_or runs i d).process (take (at + (get_or runs i d).times - at) (drop at letters))
line_written runs letters i at d inside each is =
    let run : Run = get_or runs i d in
    let within = run_within runs i d inside in
    let more : take (i + 1) runs ≡ take i runs ++ run ∷ [] = take_more runs i d inside in
    let count : at + run.times - at ≡ run.times = omega arith in
    let front : length (take at letters) ≡ length (entries (take i runs)) = length-take-le at letters (omega (arith, is, within, each)) ∙ is in
    let left : length (drop at letters) ≡ length letters - at = length-drop at letters in
    let own : length (take run.times (drop at letters)) ≡ run.times = length-take-le run.times (drop at letters) (omega (arith, is, within, each, left)) in
    ap (λ (rs : List Run). letter_lines rs (take (at + run.times) letters)) more
    ∙ ap (λ (ls : List Letter). letter_lines (take i runs ++ run ∷ []) ls) (take-add at run.times letters)
    ∙ lines_more (take i runs) run (take at letters) (take run.times (drop at letters)) front own
    ∙ ap (λ (n : ℕ). letter_lines (take i runs) (take at letters) ++ letter_line run.process (take n (drop at letters))) (sym count)
  where
    take-add : (m n : ℕ) (ls : List Letter) → take (m + n) ls ≡ take m ls ++ take n (drop m ls)
    take-add zero n ls = let same : 0 + n ≡ n = omega arith in ap (λ (k : ℕ). take k ls) same
    take-add (suc m) n [] = none (suc m + n) ∙ sym (none n)
      where
        none : (k : ℕ) → take {A = Letter} k [] ≡ []
        none zero = refl
        none (suc k) = refl
    take-add (suc m) n (l ∷ ls) =
        let next : suc m + n ≡ suc (m + n) = omega arith in
        ap (λ (k : ℕ). take k (l ∷ ls)) next ∙ ap (λ (xs : List Letter). l ∷ xs) (take-add m n ls)

-- what is written after what was written
pub joined : (new before front lines line more : List ℕ) → new ≡ before ++ line → before ≡ front ++ lines → more ≡ lines ++ line → new ≡ front ++ more
joined new before front lines line more e f g = e ∙ ap (λ (t : List ℕ). t ++ line) f ∙ append_assoc front lines line ∙ ap (λ (t : List ℕ). front ++ t) (sym g)

-- what was appended where all went well
pub on_ok : {A E : Type 0} (r : Result A E) (x a b : List ℕ) → x ≡ (if is_ok r then a else b) → OnOk r (x ≡ a)
on_ok (Ok v) x a b e = e
on_ok (Err v) x a b e = tt
