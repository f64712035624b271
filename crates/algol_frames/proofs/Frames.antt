-- Frames, as they are laid out cell by cell.
use Rattle.std.proofs.Common.{◌≡◌, ℕ, ◌+◌, ◌≤◌, Bool, true, false, List, [], ◌∷◌, ◌++◌, length, Option, Some, refl, ap, sym, ◌∙◌, arith, length-append}
use Rattle.std.specs.Prelude.{if◌then◌else◌}
use Rattle.std.specs.Option.{option_or}
use Rattle.std.specs.Map.{lookup}
use Rattle.std.specs.BTreeMap.{BTreeMap, IsEmpty, get, is_at}
use Rattle.algol_tree.specs.declared.token.Spot.{Spot}
use Rattle.algol_tree.specs.contracts.token.SpotOrd.TheImpl.{ghosts}
use Rattle.algol_tree.specs.Blocks.{same_spot}
use Rattle.algol_frames.specs.declared.found.Cell.{Cell}
use Rattle.algol_frames.specs.declared.found.Content.{Content}
use Rattle.algol_frames.specs.declared.scopes.Couple.{Couple}
use Rattle.algol_frames.specs.Laying.{couple_from, is_of, those_holding}

pub no_more : (content : Content) (cs : List Cell) → length (those_holding content cs) ≤ length cs
no_more content [] = omega arith
no_more content (c ∷ cs) = decide (is_of content c) (no_more content cs)
  where
    decide : (b : Bool) → length (those_holding content cs) ≤ length cs →
        length (if b then c ∷ those_holding content cs else those_holding content cs) ≤ length (c ∷ cs)
    decide true h = omega (arith, h)
    decide false h = omega (arith, h)

abbrev one : ℕ → ℕ → Couple
one level index = record { level = level; index = index }

couples_append : (level index : ℕ) (cs ds : List Cell) (q : Spot) →
    couple_from level index (cs ++ ds) q ≡ option_or (couple_from level index cs q) (couple_from level (index + length cs) ds q)
couples_append level index [] ds q = let none : index ≡ index + 0 = omega arith in ap (λ z. couple_from level z ds q) none
couples_append level index (c ∷ cs) ds q = decide (same_spot c.spot q) (couples_append level (index + 1) cs ds q)
  where
    decide : (b : Bool) →
        couple_from level (index + 1) (cs ++ ds) q ≡ option_or (couple_from level (index + 1) cs q) (couple_from level ((index + 1) + length cs) ds q) →
        (if b then Some (one level index) else couple_from level (index + 1) (cs ++ ds) q) ≡
        option_or (if b then Some (one level index) else couple_from level (index + 1) cs q) (couple_from level (index + length (c ∷ cs)) ds q)
    decide true h = refl
    decide false h =
        let next : (index + 1) + length cs ≡ index + length (c ∷ cs) = omega arith in
        h
        ∙ ap (λ z. option_or (couple_from level (index + 1) cs q) (couple_from level z ds q)) next

-- more cells lie after those that lie there
pub one_more : (level first : ℕ) (cs ds : List Cell) (index : ℕ) (q : Spot) (old new : Option Couple) → old ≡ couple_from level first cs q →
    index ≡ first + length cs → new ≡ option_or old (couple_from level index ds q) → new ≡ couple_from level first (cs ++ ds) q
one_more level first cs ds index q old new a b e =
    e ∙ ap (λ z. option_or z (couple_from level index ds q)) a ∙ ap (λ z. option_or (couple_from level first cs q) (couple_from level z ds q)) b
    ∙ sym (couples_append level first cs ds q)

pub behind : (first : ℕ) (cs ds : List Cell) (index next : ℕ) → index ≡ first + length cs → next ≡ index + length ds → next ≡ first + length (cs ++ ds)
behind first cs ds index next a b = omega (arith, a, b, length-append cs ds)

-- the first cells of a frame that is empty
pub first_cells : (level first : ℕ) (cs : List Cell) (q : Spot) (empty new : BTreeMap Spot Couple) → IsEmpty empty →
    get ghosts.cmp new q ≡ option_or (get ghosts.cmp empty q) (couple_from level first cs q) → get ghosts.cmp new q ≡ couple_from level first cs q
first_cells level first cs q empty new none e =
    e ∙ ap (λ z. option_or (lookup (is_at (ghosts.cmp q)) z) (couple_from level first cs q)) none
