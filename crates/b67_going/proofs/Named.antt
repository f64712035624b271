-- The frames that words name, and those that a new process needs.
use Rattle.std.proofs.Common.{◌≡◌, refl, sym, ap, ◌∙◌, ℕ, zero, suc, ◌+◌, ◌-◌, ◌≤◌, Bool, true, false, ◌||◌, List, [], ◌∷◌, take, drop, slice_get, Option, Some, None, arith}
use Rattle.std.specs.List.{list_any}
use Rattle.b67_word.specs.declared.Place.{Place}
use Rattle.b67_word.specs.Word.{Word}
use Rattle.b67_control.specs.declared.Sirw.{Sirw}
use Rattle.b67_control.specs.Control.{as_sirw}
use Rattle.b67_events.specs.Events.{same_place}
use Rattle.b67_table.specs.Starting.{is_among, sirw_frame, named_frames}

pub drop_at : (words : List Word) (at : ℕ) (w : Word) → slice_get words at ≡ Some w → drop at words ≡ w ∷ drop (at + 1) words
drop_at [] zero w e = cc
drop_at [] (suc n) w e = cc
drop_at (x ∷ xs) zero w e = cc
drop_at (x ∷ xs) (suc n) w e =
    let j_is : suc (n + 1) ≡ suc n + 1 = omega arith in drop_at xs n w e ∙ ap (λ (j : ℕ). w ∷ drop j (x ∷ xs)) j_is

drop_past : (words : List Word) (at : ℕ) → slice_get words at ≡ None → drop at words ≡ []
drop_past [] zero e = refl
drop_past [] (suc n) e = refl
drop_past (x ∷ xs) zero e = cc
drop_past (x ∷ xs) (suc n) e = drop_past xs n e

none_taken : (n : ℕ) → take {A = Word} n [] ≡ []
none_taken zero = refl
none_taken (suc n) = refl

or_either : (b c : Bool) → (b || c) ≡ ((b || false) || c)
or_either true c = refl
or_either false c = refl

sirw_or : (o : Option Sirw) (rest : List Place) (f : Place) → is_among (sirw_frame o rest) f ≡ (is_among (sirw_frame o []) f || is_among rest f)
sirw_or None rest f = refl
sirw_or (Some s) rest f = or_either (same_place f (record { stack = s.stack; at = s.displacement })) (list_any (same_place f) rest)

module _ (words : List Word) (f : Place) where
  abbrev pub among : ℕ → ℕ → Bool
  among at most = is_among (named_frames (take most (drop at words))) f

  one_word : (at most : ℕ) (w : Word) → 1 ≤ most → slice_get words at ≡ Some w
      → among at most ≡ (is_among (sirw_frame (as_sirw w) []) f || among (at + 1) (most - 1))
  one_word at most w h e =
      let j_is : most ≡ suc (most - 1) = omega (arith, h) in
      ap (λ (j : ℕ). is_among (named_frames (take j (drop at words))) f) j_is
      ∙ ap (λ (z : List Word). is_among (named_frames (take (suc (most - 1)) z)) f) (drop_at words at w e)
      ∙ sirw_or (as_sirw w) (named_frames (take (most - 1) (drop (at + 1) words))) f

  pub named_here : (at most : ℕ) (w : Word) → 1 ≤ most → slice_get words at ≡ Some w → is_among (sirw_frame (as_sirw w) []) f ≡ true → among at most ≡ true
  named_here at most w h e g = one_word at most w h e ∙ ap (λ (b : Bool). b || among (at + 1) (most - 1)) g

  pub named_later : (at most next left : ℕ) (w : Word) → 1 ≤ most → slice_get words at ≡ Some w → is_among (sirw_frame (as_sirw w) []) f ≡ false
      → next ≡ at + 1 → left ≡ most - 1 → among at most ≡ among next left
  named_later at most next left w h e g n l =
      one_word at most w h e ∙ ap (λ (b : Bool). b || among (at + 1) (most - 1)) g ∙ sym (ap (λ (k : ℕ). among k left) n ∙ ap (λ (k : ℕ). among (at + 1) k) l)

  pub named_no_more : (at most : ℕ) → slice_get words at ≡ None → among at most ≡ false
  named_no_more at most e =
      ap (λ (z : List Word). is_among (named_frames (take most z)) f) (drop_past words at e) ∙ ap (λ (z : List Word). is_among (named_frames z) f) (none_taken most)

  pub named_none : (at most : ℕ) → most ≡ 0 → among at most ≡ false
  named_none at most e = ap (λ (k : ℕ). among at k) e
