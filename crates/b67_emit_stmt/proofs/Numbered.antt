-- The numbers of the procedures that a block declares.
use Rattle.std.proofs.Common.{◌≡◌, ℕ, ◌+◌, ◌<◌, ◌≤◌, ◌^◌, Bool, true, false, if◌then◌else◌, Some, None, List, [], ◌∷◌, ◌++◌, map, length, sym, ap, ◌∙◌, refl, arith, append_assoc}
use Rattle.std.proofs.lemmas.List.Elements.{All-nil, All-cons}
use Rattle.std.proofs.lemmas.List.{length-map}
use Rattle.std.specs.List.{All}
use Rattle.algol_tree.specs.declared.token.Spot.{Spot}
use Rattle.algol_tree.specs.declared.tree.Named.{Named}
use Rattle.algol_tree.specs.Blocks.{number_at, same_spot}
use Rattle.algol_tree.specs.Plain.{PDecls}
use Rattle.algol_tree.specs.Scopes.{Scopes}
use Rattle.algol_places.specs.Numbers.{number_from, place_number_of}
use Rattle.algol_paths.specs.Segments.{segment_of}
use Rattle.b67_ops.specs.declared.TheConstants.{MOST_LEVEL}
use Rattle.b67_templates.specs.Cells.{procedures, control_segments}
use Rattle.b67_emit_stmt.specs.declared.draft.Known.{Known}
use Rattle.b67_emit_stmt.specs.Bodies.{procedure_numbers_of}
use Rattle.b67_emit_stmt.specs.Fits.{AreNumbered, procedure_number_in}

pub numbers_long : (s : Known) (ns : List Named) → length (procedure_numbers_of s ns) ≡ length ns
numbers_long s ns = length-map ns (λ (n : Named). procedure_number_in s.procedures.now n.spot)

-- there are as many control words as procedures
pub controls_many : (sc : Scopes) (ds : PDecls) → length (control_segments sc ds) ≡ length (procedures ds)
controls_many sc ds = length-map (procedures ds) (λ (n : Named). segment_of sc.blocks (number_at sc.blocks n.spot))

module _ (s : Known) (sc : Scopes) (level : ℕ) where
  pub numbers_fit : (ns : List Named) → AreNumbered sc s level ns → All (λ (k : ℕ). k < 2 ^ 10) (procedure_numbers_of s ns)
  numbers_fit [] h = All-nil (λ (k : ℕ). k < 2 ^ 10)
  numbers_fit (n ∷ ns) h = All-cons (λ (k : ℕ). k < 2 ^ 10) (procedure_number_in s.procedures.now n.spot) (procedure_numbers_of s ns) (omega (arith, h.0.few)) (numbers_fit ns h.1)

  pub numbers_inner : (ns : List Named) → AreNumbered sc s level ns → 1 ≤ length (procedure_numbers_of s ns) → level + 1 ≤ MOST_LEVEL
  numbers_inner [] h some = absurd (omega (arith, some))
  numbers_inner (n ∷ ns) h some = h.0.inner

  pub numbers_are : (ns : List Named) → AreNumbered sc s level ns → procedure_numbers_of s ns ≡ map (λ (n : Named). segment_of sc.blocks (number_at sc.blocks n.spot)) ns
  numbers_are [] h = refl
  numbers_are (n ∷ ns) h =
      ap (λ k. k ∷ procedure_numbers_of s ns) (sym h.0.is) ∙ ap (λ l. segment_of sc.blocks (number_at sc.blocks n.spot) ∷ l) (numbers_are ns h.1)

from_within : (k : ℕ) (ps : List Spot) (spot : Spot) (n : ℕ) → number_from k ps spot ≡ Some n → n < k + length ps
from_within k [] spot n e = absurd (let clash : None ≡ Some n = e in cc)
from_within k (p ∷ ps) spot n e = by (same_spot p spot) (from_within (k + 1) ps spot n) e
  where
    by : (b : Bool) → (number_from (k + 1) ps spot ≡ Some n → n < k + 1 + length ps) → (if b then Some k else number_from (k + 1) ps spot) ≡ Some n → n < k + length (p ∷ ps)
    by true later f =
        let same : k ≡ n = cc in
        omega (arith, same)
    by false later f = omega (arith, later f)

-- a number is that of one of the places
pub number_within : (ps : List Spot) (spot : Spot) (n : ℕ) → place_number_of ps spot ≡ Some n → n < length ps
number_within ps spot n e = omega (arith, from_within 0 ps spot n e)

-- one more
pub numbers_more : (s : Known) (xs ys all more rest : List ℕ) (k : ℕ) → xs ++ more ≡ all → more ≡ k ∷ rest → ys ≡ xs ++ k ∷ [] → ys ++ rest ≡ all
numbers_more s xs ys all more rest k h is e = ap (λ l. l ++ rest) e ∙ append_assoc xs (k ∷ []) rest ∙ ap (λ l. xs ++ l) (sym is) ∙ h
