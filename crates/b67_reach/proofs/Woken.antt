-- The positions that a kernel tells are the woken numbers that the table tells.
use Rattle.std.proofs.Common.{◌≡◌, refl, ap, ◌∙◌, ℕ, ◌+◌, ◌<◌, ◌≤◌, Bool, true, false, cond, List, [], ◌∷◌, length, map, drop, slice_index_or, add-one, drop-cons, nat_eq, Option, Some, None, arith}
use Rattle.std.proofs.lemmas.Bool.{cond-false}
use Rattle.std.proofs.lemmas.Bool.Decides.{nat_tests}
use Rattle.b67_list.specs.Numbered.{set_numbered}
use Rattle.b67_word.specs.declared.Place.{Place}
use Rattle.b67_events.specs.Events.{same_place, position_number_of, list_of, first_that, position_of}
use Rattle.b67_table.specs.Writes.{with_number, told_positions}
use Rattle.b67_reach.specs.Woken.{told_number, told_numbers}

-- who is counted from 1 on has no position 0
some_from : (test : Place → Bool) (n : ℕ) (places : List Place) (m : ℕ) → first_that test n places ≡ Some m → n ≤ m
some_from test n [] m e = cc
some_from test n (x ∷ places) m e = by_test (some_from test (n + 1) places m) (test x) e
  where
    by_test : (first_that test (n + 1) places ≡ Some m → n + 1 ≤ m) → (b : Bool) → cond b (Some n) (first_that test (n + 1) places) ≡ Some m → n ≤ m
    by_test later true i = let same : n ≡ m = cc in omega arith
    by_test later false i = omega (arith, later i)

one_told : (o : Option ℕ) → ((n : ℕ) → o ≡ Some n → 1 ≤ n) → (p : ℕ) (numbers : List ℕ) → told_number p (position_number_of o) numbers ≡ with_number o p numbers
one_told None k p numbers = refl
one_told (Some n) k p numbers =
    let some = k n refl in
    cond-false (nat_eq n 0) numbers (set_numbered numbers p n) (grind (arith, nat_tests, some))

pub positions_told : (at : Place) (lists : List (List Place)) (ps numbers : List ℕ)
    → told_numbers ps (map (λ p. position_number_of (position_of at lists p)) ps) numbers ≡ told_positions at lists ps numbers
positions_told at lists [] numbers = refl
positions_told at lists (p ∷ ps) numbers =
    positions_told at lists ps (told_number p (position_number_of (position_of at lists p)) numbers)
    ∙ ap (told_positions at lists ps)
    (one_told (position_of at lists p) (λ n e. some_from (λ place. same_place place at) 1 (list_of p lists) n e) p numbers)

-- one process more
pub one_more : (i : ℕ) (ps ns numbers : List ℕ) (d e : ℕ) → i < length ps → i < length ns
    → told_numbers (drop i ps) (drop i ns) numbers
    ≡ told_numbers (drop (i + 1) ps) (drop (i + 1) ns) (told_number (slice_index_or ps i d) (slice_index_or ns i e) numbers)
one_more i ps ns numbers d e h k =
    let a : drop i ps ≡ slice_index_or ps i d ∷ drop (i + 1) ps = rw (add-one, drop-cons ps i d) in
    let b : drop i ns ≡ slice_index_or ns i e ∷ drop (i + 1) ns = rw (add-one, drop-cons ns i e) in
    ap (λ (z : List ℕ). told_numbers z (drop i ns) numbers) a ∙ ap (λ (z : List ℕ). told_numbers (slice_index_or ps i d ∷ drop (i + 1) ps) z numbers) b
