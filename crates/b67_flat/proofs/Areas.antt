-- Words that are written in one span are no other's.
use Rattle.std.proofs.Common.{◌≡◌, ◌≢◌, ℕ, zero, suc, ◌+◌, ◌-◌, ◌<◌, ◌≤◌, Bool, true, false, List, [], ◌∷◌, set, take, drop, map, Option, Some, None, refl, ap, sym, ◌∙◌, arith, rules}
use Rattle.std.specs.Prelude.{nat_lt, slice_get, option_map, unwrap_or}
use Rattle.std.proofs.lemmas.List.{drop-set-lt, drop-set-add, take-set-le}
use Rattle.b67_word.specs.Word.{Word}
use Rattle.b67_store.specs.Store.{at_number, opened_at}
use Rattle.b67_list.proofs.Numbers.{ltb_false, ltb_true}
use Rattle.b67_flat.specs.declared.Span.{Span}
use Rattle.b67_flat.specs.Spans.{end_of_span, Ascend, end_after, IsOneOf}
use Rattle.b67_flat.specs.Flat.{words_at}

pub some_same : {X : Type 0} (d x y : X) → Some x ≡ Some y → x ≡ y
some_same {X = X} d x y e = ap (λ (o : Option X). unwrap_or o d) e

-- ---- spans that stand in order

pub begins_past : (from k : ℕ) (spans : List Span) (t : Span) → Ascend from spans → slice_get spans k ≡ Some t → from ≤ t.place
begins_past from k [] t a e = absurd (search rules)
begins_past from zero (x ∷ xs) t a e = omega (arith, a.0, ap (λ (s : Span). s.place) (some_same x x t e))
begins_past from (suc k) (x ∷ xs) t a e = omega (arith, a.0, begins_past (end_of_span x) k xs t a.2 e)

-- each ends within the end of all
pub ends_within : (from k : ℕ) (spans : List Span) (t : Span) → Ascend from spans → slice_get spans k ≡ Some t → end_of_span t ≤ end_after from spans
ends_within from k [] t a e = absurd (search rules)
ends_within from zero (x ∷ xs) t a e = omega (arith, later (end_of_span x) xs a.2, ap end_of_span (some_same x x t e))
  where
    later : (from : ℕ) (spans : List Span) → Ascend from spans → from ≤ end_after from spans
    later from [] a = omega arith
    later from (s ∷ ss) a = omega (arith, a.0, later (end_of_span s) ss a.2)
ends_within from (suc k) (x ∷ xs) t a e = ends_within (end_of_span x) k xs t a.2 e

pub ordered : (from j k : ℕ) (spans : List Span) (s t : Span) → Ascend from spans → j < k → slice_get spans j ≡ Some s → slice_get spans k ≡ Some t → end_of_span s ≤ t.place
ordered from j k [] s t a p e f = absurd (search rules)
ordered from j zero (x ∷ xs) s t a p e f = absurd (omega arith)
ordered from zero (suc k) (x ∷ xs) s t a p e f = omega (arith, begins_past (end_of_span x) k xs t a.2 f, ap end_of_span (some_same x x s e))
ordered from (suc j) (suc k) (x ∷ xs) s t a p e f = ordered (end_of_span x) j k xs s t a.2 (omega arith) e f

-- ---- words that are set

set_before : {X : Type 0} (words : List X) (place count at : ℕ) (w : X) → at < place → take count (drop place (set words at w)) ≡ take count (drop place words)
set_before words place count at w p = ap (take count) (drop-set-lt place words at w p)

set_after : {X : Type 0} (words : List X) (place count i : ℕ) (w : X) → count ≤ i → take count (drop place (set words (place + i) w)) ≡ take count (drop place words)
set_after words place count i w p = ap (take count) (drop-set-add place words i w) ∙ take-set-le count (drop place words) i w p

take_set : {X : Type 0} (words : List X) (count i : ℕ) (w : X) → i < count → take count (set words i w) ≡ set (take count words) i w
take_set words zero i w p = absurd (omega arith)
take_set [] (suc count) i w p = refl
take_set (x ∷ xs) (suc count) zero w p = refl
take_set (x ∷ xs) (suc count) (suc i) w p = ap (λ ys. x ∷ ys) (take_set xs count i w (omega arith))

-- in its own span
pub set_inside : (words : List Word) (place count i : ℕ) (w : Word) → i < count → words_at (set words (place + i) w) place count ≡ set (words_at words place count) i w
set_inside words place count i w p = ap (take count) (drop-set-add place words i w) ∙ take_set (drop place words) count i w p

-- in another one
apart_case : (words : List Word) (spans : List Span) (s t : Span) (j k i count : ℕ) (w : Word) (b c : Bool) → nat_lt j k ≡ b → nat_lt k j ≡ c → Ascend 0 spans → j ≢ k → slice_get spans j ≡ Some s → slice_get spans k ≡ Some t → i < s.length → count ≤ t.length → words_at (set words (s.place + i) w) t.place count ≡ words_at words t.place count
apart_case words spans s t j k i count w true c x y a n e f p q =
    set_before words t.place count (s.place + i) w (omega (arith, p, ordered 0 j k spans s t a (ltb_true j k x) e f))
apart_case words spans s t j k i count w false true x y a n e f p q =
    let o : end_of_span t ≤ s.place = ordered 0 k j spans t s a (ltb_true k j y) f e in
    let m : s.place + i ≡ t.place + (s.place + i - t.place) = omega (arith, o) in
    ap (λ z. take count (drop t.place (set words z w))) m ∙ set_after words t.place count (s.place + i - t.place) w (omega (arith, o, q))
apart_case words spans s t j k i count w false false x y a n e f p q = absurd (n (omega (arith, ltb_false j k x, ltb_false k j y)))

pub set_apart : (words : List Word) (spans : List Span) (s t : Span) (i count : ℕ) (w : Word) → Ascend 0 spans → IsOneOf s spans → IsOneOf t spans → s ≢ t → i < s.length → count ≤ t.length → words_at (set words (s.place + i) w) t.place count ≡ words_at words t.place count
set_apart words spans s t i count w a (j, e) (k, f) n p q =
    apart_case words spans s t j k i count w (nat_lt j k) (nat_lt k j) refl refl a (λ g. n (some_same s s t (sym e ∙ ap (λ m. slice_get spans m) g ∙ f))) e f p q

-- ---- tables of what is open

pub at_mapped : {X Y : Type 0} (f : X → Y) (table : List (Option X)) (n : ℕ) → at_number (map (option_map f) table) n ≡ option_map f (at_number table n)
at_mapped f [] n = refl
at_mapped f (None ∷ xs) zero = refl
at_mapped f (Some x ∷ xs) zero = refl
at_mapped f (x ∷ xs) (suc n) = at_mapped f xs n

-- what all that is open has in two memories, where it is the same
pub mapped_same : {X Y : Type 0} (f g : X → Y) (table : List (Option X)) → ((n : ℕ) (x : X) → at_number table n ≡ Some x → f x ≡ g x) → map (option_map f) table ≡ map (option_map g) table
mapped_same f g [] h = refl
mapped_same f g (None ∷ xs) h = ap (λ ys. None ∷ ys) (mapped_same f g xs (λ n x e. h (suc n) x e))
mapped_same f g (Some x ∷ xs) h =
    ap (λ y. Some y ∷ map (option_map f) xs) (h 0 x refl) ∙ ap (λ ys. Some (g x) ∷ ys) (mapped_same f g xs (λ n z e. h (suc n) z e))

-- and where it changes at one number only
pub mapped_set : {X Y : Type 0} (f g : X → Y) (table : List (Option X)) (n : ℕ) (y : X) → ((k : ℕ) (x : X) → k ≢ n → at_number table k ≡ Some x → f x ≡ g x) → map (option_map f) (set table n (Some y)) ≡ set (map (option_map g) table) n (Some (f y))
mapped_set f g [] n y h = refl
mapped_set f g (o ∷ xs) zero y h = ap (λ ys. Some (f y) ∷ ys) (mapped_same f g xs (λ k x e. h (suc k) x (λ z. absurd (omega (arith, z))) e))
mapped_set f g (None ∷ xs) (suc n) y h = ap (λ ys. None ∷ ys) (mapped_set f g xs n y (λ k x d e. h (suc k) x (λ z. d (omega (arith, z))) e))
mapped_set f g (Some o ∷ xs) (suc n) y h =
    ap (λ z. Some z ∷ map (option_map f) (set xs n (Some y))) (h 0 o (λ z. absurd (omega (arith, z))) refl)
    ∙ ap (λ ys. Some (g o) ∷ ys) (mapped_set f g xs n y (λ k x d e. h (suc k) x (λ z. d (omega (arith, z))) e))

-- and where one more is open
pub opened_mapped : {X Y : Type 0} (f : X → Y) (table : List (Option X)) (n : ℕ) (x : X) → map (option_map f) (opened_at table n x) ≡ opened_at (map (option_map f) table) n (f x)
opened_mapped f [] zero x = refl
opened_mapped f [] (suc n) x = ap (λ ys. None ∷ ys) (opened_mapped f [] n x)
opened_mapped f (o ∷ xs) zero x = refl
opened_mapped f (o ∷ xs) (suc n) x = ap (λ ys. option_map f o ∷ ys) (opened_mapped f xs n x)
