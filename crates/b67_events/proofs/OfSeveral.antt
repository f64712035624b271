-- Several events: which has happened first, where one stands in a list, and the lists as processes join and are released.
use Rattle.std.proofs.Common.{◌≡◌, ℕ, zero, suc, ◌+◌, ◌-◌, ◌<◌, ◌≤◌, Bool, true, false, cond, ◌||◌, eqb, List, [], ◌∷◌, ◌++◌, length, take, set, get_or, refl, sym, ap, ◌∙◌, arith}
use Rattle.std.specs.Prelude.{Some}
use Rattle.std.proofs.lemmas.Bool.{cond-true, cond-false, eq-eqb}
use Rattle.std.proofs.Math.Dec.{eqb-suc-zero, eqb-zero-suc, eqb-suc-suc}
use Rattle.std.proofs.lemmas.List.{length-set, take_more, take_more_set}
use Rattle.b67_list.specs.Numbered.{set_numbered}
use Rattle.b67_word.specs.declared.Place.{Place}
use Rattle.b67_events.specs.Events.{happened_at, waiter_is_one_of, list_of, with_list, unlisted, first_that, first_event_happened}
use Rattle.b67_events.specs.Kept.{EventEntry, events_of, flags_at, flag_of}
use Rattle.b67_events.specs.declared.Waiting.{Waiting}
use Rattle.b67_events.proofs.Shown.{happened_shown}

-- ---- the first that has happened

first_same : (t u : Place → Bool) → ((at : Place) → t at ≡ u at) → (n : ℕ) (places : List Place) → first_that t n places ≡ first_that u n places
first_same t u same n [] = refl
first_same t u same n (at ∷ places) =
    ap (λ b. cond b (Some n) (first_that t (n + 1) places)) (same at) ∙ ap (λ o. cond (u at) (Some n) o) (first_same t u same (n + 1) places)

pub first_shown : (fs : List EventEntry) (ws : List Waiting) (places : List Place)
    → first_that (λ p. flag_of (λ f. f.happened) (flags_at p fs)) 1 places ≡ first_event_happened places (events_of fs ws)
first_shown fs ws places =
    first_same (λ p. flag_of (λ f. f.happened) (flags_at p fs)) (λ p. happened_at p (events_of fs ws)) (λ p. sym (happened_shown p fs ws)) 1 places

-- ---- positions

-- ---- the list of a process that waits for several

list_padded : (lists : List (List Place)) (k : ℕ) (places : List Place) → length lists ≤ k
    → with_list (lists ++ [] ∷ []) (suc k) places ≡ with_list lists (suc k) places
list_padded [] zero places h = refl
list_padded [] (suc k) places h = refl
list_padded (l ∷ lists) zero places h = absurd (omega (arith, h))
list_padded (l ∷ lists) (suc k) places h = ap (λ ls. l ∷ ls) (list_padded lists k places (omega (arith, h)))

list_set : (lists : List (List Place)) (k : ℕ) (places : List Place) → k < length lists → set lists k places ≡ with_list lists (suc k) places
list_set [] k places h = absurd (omega (arith, h))
list_set (l ∷ lists) zero places h = refl
list_set (l ∷ lists) (suc k) places h = ap (λ ls. l ∷ ls) (list_set lists k places (omega (arith, h)))

pub list_padded_at : (lists : List (List Place)) (p : ℕ) (places : List Place) → 1 ≤ p → length lists ≤ p - 1
    → with_list (lists ++ [] ∷ []) p places ≡ with_list lists p places
list_padded_at lists zero places low h = absurd (omega (arith, low))
list_padded_at lists (suc k) places low h = list_padded lists k places (omega (arith, h))

pub list_set_at : (lists : List (List Place)) (p : ℕ) (places : List Place) → 1 ≤ p → p - 1 < length lists → set lists (p - 1) places ≡ with_list lists p places
list_set_at lists zero places low h = absurd (omega (arith, low))
list_set_at lists (suc k) places low h =
    let same : suc k - 1 ≡ k = omega arith in ap (λ i. set lists i places) same ∙ list_set lists k places (omega (arith, h))

pub list_at : (lists : List (List Place)) (p : ℕ) (d : List Place) → (p ≡ 0 → ⊥) → p - 1 < length lists → list_of p lists ≡ get_or lists (p - 1) d
list_at lists zero d some h = absurd (some refl)
list_at lists (suc k) d some h =
    let same : suc k - 1 ≡ k = omega arith in at_index lists k (omega (arith, h)) ∙ ap (λ i. get_or lists i d) (sym same)
  where
    at_index : (ls : List (List Place)) (k : ℕ) → k < length ls → list_of (suc k) ls ≡ get_or ls k d
    at_index [] k less = absurd (omega (arith, less))
    at_index (l ∷ ls) zero less = refl
    at_index (l ∷ ls) (suc k) less = at_index ls k (omega (arith, less))

pub list_past : (lists : List (List Place)) (p : ℕ) → (p ≡ 0 → ⊥) → length lists ≤ p - 1 → list_of p lists ≡ []
list_past lists zero some h = absurd (some refl)
list_past lists (suc k) some h = past_index lists k (omega (arith, h))
  where
    past_index : (ls : List (List Place)) (k : ℕ) → length ls ≤ k → list_of (suc k) ls ≡ []
    past_index [] k le = refl
    past_index (l ∷ ls) zero le = absurd (omega (arith, le))
    past_index (l ∷ ls) (suc k) le = past_index ls k (omega (arith, le))

-- places are taken over one after the other
pub taken_more : (xs ys : List Place) (i : ℕ) (d : Place) → i < length xs → i < length ys → take i xs ≡ take i ys
    → take (i + 1) (set xs i (get_or ys i d)) ≡ take (i + 1) ys
taken_more xs ys i d h k e =
    take_more_set xs i (get_or ys i d) h ∙ ap (λ zs. zs ++ get_or ys i d ∷ []) e ∙ sym (take_more ys i d k)

pub list_own : (lists : List (List Place)) (k : ℕ) (places : List Place) → list_of (suc k) (with_list lists (suc k) places) ≡ places
list_own [] zero places = refl
list_own [] (suc k) places = list_own [] k places
list_own (l ∷ lists) zero places = refl
list_own (l ∷ lists) (suc k) places = list_own lists k places

list_else : (lists : List (List Place)) (k j : ℕ) (places : List Place) → (k ≡ j → ⊥)
    → list_of (suc j) (with_list lists (suc k) places) ≡ list_of (suc j) lists
list_else [] zero zero places h = absurd (h refl)
list_else [] zero (suc j) places h = refl
list_else [] (suc k) zero places h = refl
list_else [] (suc k) (suc j) places h = list_else [] k j places (λ e. h (ap suc e))
list_else (l ∷ lists) zero zero places h = absurd (h refl)
list_else (l ∷ lists) zero (suc j) places h = refl
list_else (l ∷ lists) (suc k) zero places h = refl
list_else (l ∷ lists) (suc k) (suc j) places h = list_else lists k j places (λ e. h (ap suc e))

-- of every other process it stays
pub list_other : (lists : List (List Place)) (p q : ℕ) (places : List Place) → (p ≡ q → ⊥) → list_of q (with_list lists p places) ≡ list_of q lists
list_other lists zero q places h = refl
list_other lists (suc k) zero places h = refl
list_other lists (suc k) (suc j) places h = list_else lists k j places (λ e. h (ap suc e))

pub list_length : (n : ℕ) (lists : List (List Place)) (p : ℕ) (places : List Place) → p ≤ n → length lists ≤ n → length (with_list lists p places) ≤ n
list_length n lists zero places h k = k
list_length zero lists (suc p) places h k = absurd (omega (arith, h))
list_length (suc n) [] (suc zero) places h k = omega arith
list_length (suc n) [] (suc (suc p)) places h k = let rest = list_length n [] (suc p) places (omega (arith, h)) (omega arith) in omega (arith, rest)
list_length (suc n) (l ∷ lists) (suc zero) places h k = omega (arith, k)
list_length (suc n) (l ∷ lists) (suc (suc p)) places h k =
    let rest = list_length n lists (suc p) places (omega (arith, h)) (omega (arith, k)) in omega (arith, rest)

-- ---- the lists of those who are released

if_none : (b : Bool) → [] ≡ cond {A = List Place} b [] []
if_none true = refl
if_none false = refl

list_cut : (lists : List (List Place)) (k j : ℕ) → list_of (suc j) (set lists k []) ≡ cond (eqb j k) [] (list_of (suc j) lists)
list_cut [] k j = if_none (eqb j k)
list_cut (l ∷ lists) zero zero = sym (cond-true (eqb 0 0) [] l (eq-eqb 0 0 refl))
list_cut (l ∷ lists) zero (suc j) = sym (cond-false (eqb (suc j) 0) [] (list_of (suc j) lists) (eqb-suc-zero j))
list_cut (l ∷ lists) (suc k) zero = sym (cond-false (eqb 0 (suc k)) [] l (eqb-zero-suc k))
list_cut (l ∷ lists) (suc k) (suc j) = list_cut lists k j ∙ ap (λ t. cond t [] (list_of (suc j) lists)) (sym (eqb-suc-suc j k))

list_gone : (lists : List (List Place)) (p q : ℕ) → list_of q (set_numbered lists p []) ≡ cond (eqb q p) [] (list_of q lists)
list_gone lists zero zero = if_none (eqb 0 0)
list_gone lists zero (suc j) = sym (cond-false (eqb (suc j) 0) [] (list_of (suc j) lists) (eqb-suc-zero j))
list_gone lists (suc k) zero = if_none (eqb 0 (suc k))
list_gone lists (suc k) (suc j) = list_cut lists k j ∙ ap (λ t. cond t [] (list_of (suc j) lists)) (sym (eqb-suc-suc j k))

cond_both : (a b : Bool) (places : List Place) → cond b [] (cond a [] places) ≡ cond (a || b) [] places
cond_both true true places = refl
cond_both true false places = refl
cond_both false true places = refl
cond_both false false places = refl

-- who is released has no list, and every other one keeps its own
pub list_unlisted : (ps : List ℕ) (lists : List (List Place)) (q : ℕ) → list_of q (unlisted ps lists) ≡ cond (waiter_is_one_of ps q) [] (list_of q lists)
list_unlisted [] lists q = refl
list_unlisted (p ∷ ps) lists q =
    list_unlisted ps (set_numbered lists p []) q ∙ ap (λ places. cond (waiter_is_one_of ps q) [] places) (list_gone lists p q)
    ∙ cond_both (eqb q p) (waiter_is_one_of ps q) (list_of q lists)

length_numbered : (lists : List (List Place)) (p : ℕ) → length (set_numbered lists p []) ≡ length lists
length_numbered lists zero = refl
length_numbered lists (suc k) = length-set lists k []

pub unlisted_length : (ps : List ℕ) (lists : List (List Place)) → length (unlisted ps lists) ≡ length lists
unlisted_length [] lists = refl
unlisted_length (p ∷ ps) lists = unlisted_length ps (set_numbered lists p []) ∙ length_numbered lists p
