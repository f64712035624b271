-- Bounds of arrays at which no rule is broken: the upper ones are numbers, and the lower ones are whole.
use Rattle.std.proofs.Common.{List, [], ◌∷◌}
use Rattle.std.specs.List.{AllByRecursion}
use Rattle.algol_tree.specs.declared.tree.Kind.TheVariants as types
use Rattle.algol_tree.specs.Blocks.{Block}
use Rattle.algol_tree.specs.Plain.{PPair}
use Rattle.algol_tree.specs.Sites.{sites, sites_in_pairs}
use Rattle.algol_tree.specs.Surroundings.{Surroundings}
use Rattle.b67_templates.specs.Fragments.{IsWholeNumber}
use Rattle.algol_paths.specs.Arrays.{lows_of}
use Rattle.b67_templates.specs.Code.{AreDimensions}
use Rattle.b67_list.proofs.Lists.{each_back, each_front}
use Rattle.b67_fitting.specs.Wholes.{HaveDimensions, NumbersWhole}
use Rattle.b67_fitting.specs.Typing.{TypedPairs}
use Rattle.b67_fitting.proofs.Clean.{IsClean, AreClean, KnowsPlain}
use Rattle.b67_fitting.proofs.Typed.{of_kind, typed}

-- the lower bounds are whole
abbrev pub LowsWhole : List PPair → Type 0
LowsWhole ps = AllByRecursion (λ (p : PPair). IsWholeNumber p.low) ps

pub typed_pairs : (blocks : List Block) (a : Surroundings) → KnowsPlain a → (ps : List PPair) → AllByRecursion (λ (p : PPair). IsWholeNumber p.low × NumbersWhole p.high) ps →
    AreClean blocks (sites_in_pairs ps a) → TypedPairs a ps
typed_pairs blocks a plain [] w c = tt
typed_pairs blocks a plain (p ∷ ps) w c =
    let h = typed blocks a plain p.high w.0.1 (each_front (IsClean blocks) (sites p.high a) (sites_in_pairs ps a) c.1) in
    (w.0.0, of_kind a types.Number p.high h c.0.typed, typed_pairs blocks a plain ps w.1 (each_back (IsClean blocks) (sites p.high a) (sites_in_pairs ps a) c.1))

pub lows_whole : (a : Surroundings) (ps : List PPair) → TypedPairs a ps → LowsWhole ps
lows_whole a [] t = tt
lows_whole a (p ∷ ps) t = (t.0, lows_whole a ps t.2)

-- those of a declared array
pub dimensions_of : (ps : List PPair) → AreDimensions ps → LowsWhole ps → HaveDimensions (lows_of ps)
dimensions_of [] d w = absurd d
dimensions_of (p ∷ []) d w = w.0
dimensions_of (p ∷ q ∷ []) d w = (w.0, w.1.0)
dimensions_of (p ∷ q ∷ r ∷ ps) d w = absurd d
