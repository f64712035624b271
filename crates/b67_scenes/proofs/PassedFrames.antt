-- The frames that GO TO passes: each is that of an own instance, at whose place it lies, or is lent to an evaluation, where no own instance has its own.
use Rattle.std.proofs.Common.{◌≡◌, ◌⊎◌, inl, inr, sym, ap, ◌∙◌, ℕ, ◌<◌, ◌≤◌, List, [], ◌∷◌, Some, true, false, arith}
use Rattle.b67_scenes.proofs.Prelude.{numbered, is_evaluation, Part, IsOwn, Place, place, Passed, some_same, Layout}

module _ (lay : Layout) (p : ℕ) where
  abbrev pub IsOwnFrame : List Part → Part → ℕ → Type 0
  IsOwnFrame all part n = (is_evaluation part.purpose ≡ false) × IsOwn all part.instance × (numbered lay.places part.instance ≡ Some (place p n))

  abbrev pub IsLentFrame : List Part → Part → ℕ → Type 0
  IsLentFrame all part n = (is_evaluation part.purpose ≡ true) × ((j : ℕ) (g : Place) → IsOwn all j → numbered lay.places j ≡ Some g → g.at ≡ n → ⊥)

  -- one of all these parts has its frame at this height, which is no higher than the limit
  pub record IsPassed (limit : ℕ) (all : List Part) (part : Part) (n : ℕ) : Type 0 where
    pub low : n ≤ limit
    pub frame : IsOwnFrame all part n ⊎ IsLentFrame all part n

  abbrev pub ArePassed : ℕ → List Part → List Part → List Passed → Type 0
  ArePassed limit all [] [] = Unit {0}
  ArePassed limit all (part ∷ parts) (f ∷ fs) = IsPassed limit all part f.frame × ArePassed limit all parts fs
  ArePassed limit all _ _ = ⊥

  -- so it is where there is one more part above, whose frame lies higher
  module _ (limit high : ℕ) (first : Part) (all : List Part) (above : limit < high) (laid : is_evaluation first.purpose ≡ false → numbered lay.places first.instance ≡ Some (place p high)) where
    one_more : (part : Part) (n : ℕ) → IsPassed limit all part n → IsPassed high (first ∷ all) part n
    one_more part n h = record { low = omega (arith, h.low, above); frame = by_frame h.frame }
      where
        apart : ((j : ℕ) (g : Place) → IsOwn all j → numbered lay.places j ≡ Some g → g.at ≡ n → ⊥) → (j : ℕ) (g : Place) → IsOwn (first ∷ all) j → numbered lay.places j ≡ Some g → g.at ≡ n → ⊥
        apart none j g (inl own) there at =
            let same : g ≡ place p high = some_same (sym there ∙ ap (numbered lay.places) (sym own.1) ∙ laid own.0) in
            absurd (omega (arith, h.low, above, at, ap (λ (f : Place). f.at) same))
        apart none j g (inr own) there at = none j g own there at

        by_frame : IsOwnFrame all part n ⊎ IsLentFrame all part n → IsOwnFrame (first ∷ all) part n ⊎ IsLentFrame (first ∷ all) part n
        by_frame (inl own) = inl (own.0, inr own.1, own.2)
        by_frame (inr lent) = inr (lent.0, apart lent.1)

    pub passed_further : (parts : List Part) (fs : List Passed) → ArePassed limit all parts fs → ArePassed high (first ∷ all) parts fs
    passed_further [] [] are = tt
    passed_further [] (f ∷ fs) are = absurd are
    passed_further (part ∷ parts) [] are = absurd are
    passed_further (part ∷ parts) (f ∷ fs) are = (one_more part f.frame are.0, passed_further parts fs are.1)
