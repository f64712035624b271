-- Words in the room of a stack, where the bottom stands first, as a list with the top one first.
use Rattle.std.proofs.Common.{◌≡◌, sym, ap, ◌∙◌, ℕ, suc, ◌+◌, ◌-◌, ◌<◌, ◌≤◌, List, [], ◌∷◌, ◌++◌, length, take, drop, set, get_or, take-append-drop, arith}
use Rattle.std.specs.Prelude.{reverse}
use Rattle.std.proofs.lemmas.Grind.{take-set_at}
use Rattle.std.proofs.lemmas.List.{reverse-append, reverse-reverse, length-take-le, length-drop, length-set, take-take, drop-take}
use Rattle.std.proofs.Math.Seq.{take-suc, take-append_seam, drop-append_seam}
use Rattle.b67_store.proofs.TopFirst.{cut_is}

-- one on top of others
one_over : {A : Type 0} (lower : List A) (w : A) → reverse (lower ++ w ∷ []) ≡ w ∷ reverse lower
one_over lower w = reverse-append lower (w ∷ [])

module _ {A : Type 0} (room : List A) where
  -- the lowest are those without so many on top
  pub cut_in : (n at count : ℕ) → at + count ≡ n → n ≤ length room → reverse (take at room) ≡ drop count (reverse (take n room))
  cut_in n at count e h =
      ap reverse (sym (take-take at n room (omega (arith, e)))) ∙ cut_is (take n room) at count (omega (arith, e, length-take-le n room h))

  -- one more than so many
  more_in : (n at : ℕ) (w d : A) → at + 1 ≡ n → n ≤ length room → w ≡ get_or room at d → reverse (take n room) ≡ w ∷ reverse (take at room)
  more_in n at w d e h is =
      let here : n ≡ suc at = omega (arith, e) in
      ap (λ (k : ℕ). reverse (take k room)) here ∙ ap reverse (take-suc room at d (omega (arith, e, h)))
      ∙ one_over (take at room) (get_or room at d) ∙ ap (λ x. x ∷ reverse (take at room)) (sym is)

  -- the one on top stands highest
  pub top_in : (n : ℕ) (w d : A) → 1 ≤ n → n ≤ length room → w ≡ get_or room (n - 1) d → reverse (take n room) ≡ w ∷ drop 1 (reverse (take n room))
  top_in n w d k h is = more_in n (n - 1) w d (omega (arith, k)) h is ∙ ap (λ ws. w ∷ ws) (cut_in n (n - 1) 1 (omega (arith, k)) h)

  -- and the two on top
  pub two_in : (n : ℕ) (w v c d : A) → 2 ≤ n → n ≤ length room → w ≡ get_or room (n - 1) c → v ≡ get_or room (n - 2) d
      → reverse (take n room) ≡ w ∷ v ∷ drop 2 (reverse (take n room))
  two_in n w v c d k h is under =
      more_in n (n - 1) w c (omega (arith, k)) h is
      ∙ ap (λ ws. w ∷ ws) (more_in (n - 1) (n - 2) v d (omega (arith, k)) (omega (arith, h)) under)
      ∙ ap (λ ws. w ∷ v ∷ ws) (cut_in n (n - 2) 2 (omega (arith, k)) h)

  -- what is written becomes the one on top
  written : (n at : ℕ) (w : A) → at + 1 ≡ n → at < length room → reverse (take n (set room at w)) ≡ w ∷ reverse (take at room)
  written n at w e l = ap reverse (take-set_at room at n w (sym e) l) ∙ one_over (take at room) w

  -- it takes the place of so many on top
  pub put_in : (n count : ℕ) (w : A) → count ≤ n → n ≤ length room → n - count < length room
      → reverse (take (n - count + 1) (set room (n - count) w)) ≡ w ∷ drop count (reverse (take n room))
  put_in n count w k h l =
      written (n - count + 1) (n - count) w (omega arith) l ∙ ap (λ ws. w ∷ ws) (cut_in n (n - count) count (omega (arith, k)) h)

-- two take the places of those on top
pub put_two_in : {A : Type 0} (room : List A) (n : ℕ) (v w : A) → 2 ≤ n → n ≤ length room
    → reverse (take n (set (set room (n - 2) v) (n - 1) w)) ≡ w ∷ v ∷ drop 2 (reverse (take n room))
put_two_in room n v w k h =
    written (set room (n - 2) v) n (n - 1) w (omega (arith, k)) (omega (arith, k, h, length-set room (n - 2) v))
    ∙ ap (λ ws. w ∷ ws) (written room (n - 1) (n - 2) v (omega (arith, k)) (omega (arith, k, h)))
    ∙ ap (λ ws. w ∷ v ∷ ws) (cut_in room n (n - 2) 2 (omega (arith, k)) h)

-- words that stand in a room from a place on, and those below it
pub upper_in : {A : Type 0} (room words : List A) (base n : ℕ) → base + length words ≡ n → reverse (drop base (take n room)) ≡ words
    → reverse (take n room) ≡ words ++ reverse (take base room)
upper_in room words base n e is =
    ap reverse (sym (take-append-drop base (take n room))) ∙ reverse-append (take base (take n room)) (drop base (take n room))
    ∙ ap (λ xs. reverse (drop base (take n room)) ++ reverse xs) (take-take base n room (omega (arith, e))) ∙ ap (λ xs. xs ++ reverse (take base room)) is

-- where these words lie over others, which fill the room up to a place, they are those from the place on
pub from_base : {A : Type 0} (room upper lower : List A) (base n : ℕ) → length lower ≡ base → base ≤ n → n ≤ length room → reverse (take n room) ≡ upper ++ reverse lower
    → drop (length room - n) (reverse (drop base room)) ≡ upper
from_base room upper lower base n e k h is =
    sym (cut_is (drop base room) (n - base) (length room - n) (omega (arith, k, h, length-drop base room)))
    ∙ ap reverse (sym (ap (λ (m : ℕ). drop base (take m room)) all ∙ drop-take base (n - base) room) ∙ ap (drop base) taken ∙ ap (λ (m : ℕ). drop m (lower ++ reverse upper)) (sym e) ∙ drop-append_seam lower (reverse upper))
    ∙ reverse-reverse upper
  where
    all : n ≡ base + (n - base)
    all = omega (arith, k)

    taken : take n room ≡ lower ++ reverse upper
    taken =
        sym (reverse-reverse (take n room)) ∙ ap reverse is ∙ reverse-append upper (reverse lower)
        ∙ ap (λ xs. xs ++ reverse upper) (reverse-reverse lower)

-- what is left of a room is what it was left with
pub left_is : {A : Type 0} (room last : List A) → length last ≡ length room → take (length room) (last ++ drop (length last) room) ≡ last
left_is room last e =
    ap (λ (n : ℕ). take n (last ++ drop (length last) room)) (sym e) ∙ take-append_seam last (drop (length last) room)
