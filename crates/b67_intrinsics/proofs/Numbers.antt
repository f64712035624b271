-- The arguments, read one after another as whole numbers.
use Rattle.std.specs.Result.{IsErrAnd}
use Rattle.std.proofs.Common.{◌≡◌, refl, sym, ap, subst, ◌∙◌, ℕ, suc, ◌+◌, ◌≤◌, ℤ, List, [], ◌∷◌, ◌++◌, length, drop, Option, Some, None, Result, Ok, Err, slice_get, append_assoc, append-nil, arith}
use Rattle.std.specs.Prelude.{IfErr}
use Rattle.b67_word.specs.Word.{Word, as_whole}
use Rattle.b67_table.specs.declared.InterruptKind.TheVariants.{InvalidOperand}
use Rattle.b67_table.specs.Arguments.{arguments_joined, wholes_in}
use Rattle.b67_reach.specs.declared.Stop.{Stop}
use Rattle.b67_reach.specs.declared.Stop.TheVariants.{Interrupt}
use Rattle.b67_intrinsics.specs.declared.hindrance.Hindrance.{Hindrance}
use Rattle.b67_intrinsics.specs.declared.hindrance.Hindrance.TheVariants.{Stopped}
use Rattle.b67_intrinsics.specs.Called.{whole_in, whole_answer, WholesFail}
use Rattle.b67_intrinsics.proofs.Calling.{drop_at}
use Rattle.b67_intrinsics.proofs.ManyEvents.{none_left}

abbrev pub with_rest : List ℤ → Option (List ℤ) → Option (List ℤ)
with_rest zs None = None
with_rest zs (Some rest) = Some (zs ++ rest)

-- so many words are read as these numbers
abbrev pub AreRead : List Word → List ℤ → ℕ → Type 0
AreRead words zs n = wholes_in words ≡ with_rest zs (wholes_in (drop n words))

pub read_first : (words : List Word) → AreRead words [] 0
read_first words = no_more (wholes_in words)
  where
    no_more : (o : Option (List ℤ)) → o ≡ with_rest [] o
    no_more None = refl
    no_more (Some zs) = refl

one_read : (zs : List ℤ) (z : ℤ) (o : Option (List ℤ)) → with_rest zs (arguments_joined (Some z) o) ≡ with_rest (zs ++ z ∷ []) o
one_read zs z None = refl
one_read zs z (Some rest) = ap Some (sym (append_assoc zs (z ∷ []) rest))

whole_is : (o : Option ℤ) (z : ℤ) → Ok z ≡ whole_answer o → o ≡ Some z
whole_is None z e = cc
whole_is (Some x) z e = cc

pub read_next : (words : List Word) (zs : List ℤ) (z : ℤ) (n : ℕ) → Ok z ≡ whole_in (slice_get words n) → AreRead words zs n → AreRead words (zs ++ z ∷ []) (n + 1)
read_next words zs z n e read = by (slice_get words n) refl e
  where
    by : (o : Option Word) → slice_get words n ≡ o → Ok z ≡ whole_in o → AreRead words (zs ++ z ∷ []) (n + 1)
    by None here e = cc
    by (Some w) here e =
        let next : suc n ≡ n + 1 = omega arith in
        read ∙ ap (λ (ws : List Word). with_rest zs (wholes_in ws)) (drop_at words n w here)
        ∙ ap (λ (o : Option ℤ). with_rest zs (arguments_joined o (wholes_in (drop (suc n) words)))) (whole_is (as_whole w) z e)
        ∙ one_read zs z (wholes_in (drop (suc n) words)) ∙ ap (λ (k : ℕ). with_rest (zs ++ z ∷ []) (wholes_in (drop k words))) next

pub read_whole : (words : List Word) (zs : List ℤ) (n : ℕ) → length words ≤ n → AreRead words zs n → wholes_in words ≡ Some zs
read_whole words zs n h read =
    read ∙ ap (λ (ws : List Word). with_rest zs (wholes_in ws)) (none_left words n h) ∙ ap Some (append-nil zs)

-- ---- the exits

pub wholes_stop : {A : Type 0} (words : List Word) (res : Result A Hindrance) (stop : Stop) → stop ≡ Interrupt InvalidOperand → wholes_in words ≡ None
    → IsErrAnd res (λ h. h ≡ Stopped stop) → IfErr res (WholesFail words)
wholes_stop words (Ok a) stop e n i = tt
wholes_stop words (Err h) stop e n i = subst (λ (k : Hindrance). WholesFail words k) (sym i) (e, n)

pub length_last : (zs : List ℤ) (z : ℤ) → length (zs ++ z ∷ []) ≡ length zs + 1
length_last [] z = refl
length_last (x ∷ zs) z = omega (arith, length_last zs z)
