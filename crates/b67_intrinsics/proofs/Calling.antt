-- The arguments of an intrinsic, and the tests that lead to its changes.
use Rattle.std.proofs.Common.{◌≡◌, refl, sym, ap, ◌∙◌, ℕ, zero, suc, ◌<◌, ℤ, List, [], ◌∷◌, take, drop, length, Option, Some, None, Result, Ok, Err, slice_get, arith}
use Rattle.b67_word.specs.Word.{Word, as_whole}
use Rattle.b67_store.specs.Store.{Stacks}
use Rattle.b67_table.specs.declared.InterruptKind.TheVariants.{InvalidOperand}
use Rattle.b67_table.specs.Arguments.{three, three_in, arguments_joined, wholes_in}
use Rattle.b67_table.specs.Look.{look_seen, valid, ◌>->◌}
use Rattle.b67_reach.specs.declared.Stop.{Stop}
use Rattle.b67_reach.specs.declared.Stop.TheVariants.{Interrupt}
use Rattle.b67_reach.specs.Answers.{looked}
use Rattle.b67_intrinsics.specs.Called.{only, as_triple, whole_in, whole_answer}

-- ---- words of a list

pub drop_at : (xs : List Word) (k : ℕ) (w : Word) → slice_get xs k ≡ Some w → drop k xs ≡ w ∷ drop (suc k) xs
drop_at [] zero w e = cc
drop_at [] (suc k) w e = cc
drop_at (x ∷ xs) zero w e = let p : x ≡ w = cc in ap (λ (y : Word). y ∷ xs) p
drop_at (x ∷ xs) (suc k) w e = drop_at xs k w e

pub only_one : (xs : List Word) (n k : ℕ) (w : Word) → n ≡ 1 → slice_get xs k ≡ Some w → Ok w ≡ only (take n (drop k xs))
only_one xs n k w one e = sym (ap (λ (m : ℕ). only (take m (drop k xs))) one ∙ ap (λ (ys : List Word). only (take 1 ys)) (drop_at xs k w e))

-- ---- three whole numbers

-- a look that only InvalidOperand stops, where it finds nothing
nothing_left : (st : Stacks) (q : Option (List ℤ)) (stop : Stop) → stop ≡ Interrupt InvalidOperand → ◌≡◌ {A = Option (List ℤ)} q None
    → ◌≡◌ {A = Result (ℤ × ℤ × ℤ) Stop} (Err stop) (looked (as_triple (look_seen st (valid q >-> three_in))))
nothing_left st q stop e n =
    ap (λ (s : Stop). Err s) e ∙ sym (ap (λ (o : Option (List ℤ)). looked (as_triple (look_seen st (valid o >-> three_in)))) n)

none_was : (o : Option ℤ) (stop : Stop) → ◌≡◌ {A = Result ℤ Stop} (Err stop) (whole_answer o) → (stop ≡ Interrupt InvalidOperand) × (o ≡ None)
none_was None stop e = (cc, refl)
none_was (Some z) stop e = cc

join_none : (o : Option ℤ) → arguments_joined o None ≡ None
join_none None = refl
join_none (Some z) = refl

-- an argument that is no whole number, wherever it stands
pub no_whole : (st : Stacks) (ws : List Word) (n : ℕ) (stop : Stop) → n < length ws → ◌≡◌ {A = Result ℤ Stop} (Err stop) (whole_in (slice_get ws n))
    → (stop ≡ Interrupt InvalidOperand) × (wholes_in ws ≡ None)
no_whole st [] n stop h e = absurd (impossible n h)
  where
    impossible : (n : ℕ) → n < 0 → ⊥
    impossible n h = omega (arith, h)
no_whole st (w ∷ ws) zero stop h e =
    let p = none_was (as_whole w) stop e in (p.0, ap (λ (o : Option ℤ). arguments_joined o (wholes_in ws)) p.1)
no_whole st (w ∷ ws) (suc n) stop h e =
    let p = no_whole st ws n stop (omega (arith, h)) e in (p.0, ap (λ (q : Option (List ℤ)). arguments_joined (as_whole w) q) p.1 ∙ join_none (as_whole w))

pub three_stop : (st : Stacks) (ws : List Word) (n : ℕ) (stop : Stop) → n < length ws → ◌≡◌ {A = Result ℤ Stop} (Err stop) (whole_in (slice_get ws n))
    → ◌≡◌ {A = Result (ℤ × ℤ × ℤ) Stop} (Err stop) (looked (as_triple (look_seen st (three ws))))
three_stop st ws n stop h e = let p = no_whole st ws n stop h e in nothing_left st (wholes_in ws) stop p.0 p.1

pub not_three : (st : Stacks) (ws : List Word) → (length ws ≡ 3 → ⊥)
    → ◌≡◌ {A = Result (ℤ × ℤ × ℤ) Stop} (Err (Interrupt InvalidOperand)) (looked (as_triple (look_seen st (three ws))))
not_three st [] other = refl
not_three st (a ∷ []) other = one_left (as_whole a)
  where
    one_left : (o : Option ℤ) → Err (Interrupt InvalidOperand) ≡ looked (as_triple (look_seen st (valid (arguments_joined o (Some [])) >-> three_in)))
    one_left None = refl
    one_left (Some z) = refl
not_three st (a ∷ b ∷ []) other = two_left (as_whole a) (as_whole b)
  where
    two_left : (o p : Option ℤ) → Err (Interrupt InvalidOperand) ≡ looked (as_triple (look_seen st (valid (arguments_joined o (arguments_joined p (Some []))) >-> three_in)))
    two_left None None = refl
    two_left None (Some z) = refl
    two_left (Some z) None = refl
    two_left (Some z) (Some y) = refl
not_three st (a ∷ b ∷ c ∷ []) other = absurd (other refl)
not_three st (a ∷ b ∷ c ∷ d ∷ ws) other = more (as_whole a) (as_whole b) (as_whole c) (as_whole d) (wholes_in ws)
  where
    more : (o p q r : Option ℤ) (s : Option (List ℤ)) → Err (Interrupt InvalidOperand) ≡ looked (as_triple (look_seen st (valid (arguments_joined o (arguments_joined p (arguments_joined q (arguments_joined r s)))) >-> three_in)))
    more None p q r s = refl
    more (Some x) None q r s = refl
    more (Some x) (Some y) None r s = refl
    more (Some x) (Some y) (Some z) None s = refl
    more (Some x) (Some y) (Some z) (Some v) None = refl
    more (Some x) (Some y) (Some z) (Some v) (Some vs) = refl
