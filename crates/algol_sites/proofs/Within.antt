-- The places of blocks and their numbers: which names can be assigned to, by either.
use Rattle.std.proofs.Common.{◌≡◌, ℕ, ◌+◌, ◌<◌, Bool, true, false, List, [], ◌∷◌, map, length, refl, ap, sym, ◌∙◌, arith}
use Rattle.std.proofs.lemmas.List.Sorted.{list_any-IsPermutation, IsPermutation-reverse}
use Rattle.std.specs.Prelude.{◌==◌, ◌&&◌, ◌||◌, is_some, if◌then◌else◌, reverse}
use Rattle.std.specs.List.{list_any}
use Rattle.algol_tree.specs.declared.token.Spot.{Spot}
use Rattle.algol_tree.specs.declared.tree.Heading.{Heading}
use Rattle.algol_tree.specs.Classes as class
use Rattle.algol_tree.specs.Classes.{Class}
use Rattle.algol_tree.specs.Blocks.{Block, same_spot, number_at, around}
use Rattle.algol_tree.specs.Surroundings.{Surroundings}
use Rattle.algol_sites.specs.declared.place.Place.{Place}
use Rattle.algol_sites.specs.Assigning.{is_within, can_take}
use Rattle.algol_sites.specs.Placing.{AreBlocks, SiteIsPlaced}

-- ---- places are the same where their numbers are

even : (a b : Spot) → same_spot a b ≡ same_spot b a
even a b = grind arith

meets : (a b c : Spot) → same_spot a b ≡ true → same_spot b c ≡ same_spot a c
meets a b c h = grind arith

compared : (b s t : Spot) (bs : List Block) (x y : Bool) → same_spot b s ≡ x → same_spot b t ≡ y →
    (number_at bs s < length bs → (number_at bs s == number_at bs t) ≡ same_spot s t) → (if x then 0 else number_at bs s + 1) < length bs + 1 →
    ((if x then 0 else number_at bs s + 1) == (if y then 0 else number_at bs t + 1)) ≡ same_spot s t
compared b s t bs true true p q r h = sym (meets b s t p ∙ q)
compared b s t bs true false p q r h = let e : (0 == number_at bs t + 1) ≡ false = grind arith in e ∙ sym (meets b s t p ∙ q)
compared b s t bs false true p q r h =
    let e : (number_at bs s + 1 == 0) ≡ false = grind arith in e ∙ sym (even s t ∙ meets b t s q ∙ p)
compared b s t bs false false p q r h =
    let e : (number_at bs s + 1 == number_at bs t + 1) ≡ (number_at bs s == number_at bs t) = grind arith in e ∙ r (omega arith)

pub numbered : (bs : List Block) (s t : Spot) → number_at bs s < length bs → (number_at bs s == number_at bs t) ≡ same_spot s t
numbered [] s t h = absurd (omega arith)
numbered (b ∷ bs) s t h =
    compared b.spot s t bs (same_spot b.spot s) (same_spot b.spot t) refl refl (numbered bs s t)
    (let e : length (b ∷ bs) ≡ length bs + 1 = omega arith in omega (arith, e, h))

-- ---- inside a procedure

module _ (blocks : List Block) where
  any_told : (spots : List Spot) (procedure : Spot) → AreBlocks blocks spots →
      list_any (λ (i : ℕ). i == number_at blocks procedure) (map (number_at blocks) spots) ≡ list_any (λ (b : Spot). same_spot procedure b) spots
  any_told [] procedure h = refl
  any_told (s ∷ ss) procedure h =
      ap (λ b. b || list_any (λ (i : ℕ). i == number_at blocks procedure) (map (number_at blocks) ss)) (numbered blocks s procedure h.0 ∙ even s procedure)
      ∙ ap (λ b. same_spot procedure s || b) (any_told ss procedure h.1)

  abbrev is_around : Heading → Surroundings → Bool
  is_around h a = list_any (λ (i : ℕ). i == number_at blocks h.name.spot) (a.block ∷ around blocks a.block)

  within_told : (place : Place) (a : Surroundings) (h : Heading) → SiteIsPlaced blocks place a → is_within place.block place.around.items h.name.spot ≡ is_around h a
  within_told place a h p =
      let n = number_at blocks h.name.spot in
      ap (λ b. same_spot place.block h.name.spot || b)
      (list_any-IsPermutation (λ (b : Spot). same_spot h.name.spot b) place.around.items (reverse place.around.items) (IsPermutation-reverse place.around.items)
      ∙ sym (any_told (reverse place.around.items) h.name.spot p.are_blocks.1))
      ∙ ap (λ b. b || list_any (λ (i : ℕ). i == n) (map (number_at blocks) (reverse place.around.items))) (sym (numbered blocks place.block h.name.spot p.are_blocks.0))
      ∙ ap (λ (m : ℕ). (m == n) || list_any (λ (i : ℕ). i == n) (map (number_at blocks) (reverse place.around.items))) (sym p.number)
      ∙ ap (λ (ns : List ℕ). (a.block == n) || list_any (λ (i : ℕ). i == n) ns) (sym p.outer)

  abbrev pub is_assignable : Class → Surroundings → Bool
  is_assignable (class.simple k) a = true
  is_assignable (class.procedure h) a = is_some h.kind && is_around h a
  is_assignable class.unknown a = true
  is_assignable _ a = false

  pub taken_told : (place : Place) (a : Surroundings) (c : Class) → SiteIsPlaced blocks place a → can_take place.block place.around.items c ≡ is_assignable c a
  taken_told place a (class.simple k) p = refl
  taken_told place a (class.array k n) p = refl
  taken_told place a class.event p = refl
  taken_told place a class.task p = refl
  taken_told place a class.label p = refl
  taken_told place a class.file p = refl
  taken_told place a (class.procedure h) p = ap (λ b. is_some h.kind && b) (within_told place a h p)
  taken_told place a class.unknown p = refl
