-- What is found in frames is what they were laid out from.
use Rattle.std.proofs.Common.{◌≡◌, ℕ, ◌+◌, ◌<◌, suc, Bool, true, false, List, [], ◌∷◌, length, drop, get_or, drop-cons, add-one, Option, Some, None, refl, ap, sym, ◌∙◌}
use Rattle.std.specs.Prelude.{◌&&◌, if◌then◌else◌}
use Rattle.std.specs.Option.{option_or}
use Rattle.std.specs.declared.alloc.Global.{Global}
use Rattle.std.specs.declared.vec.Vec.{Vec}
use Rattle.std.specs.BTreeMap.{BTreeMap, get}
use Rattle.algol_tree.specs.declared.token.Spot.{Spot}
use Rattle.algol_tree.specs.contracts.token.SpotOrd.TheImpl.{ghosts}
use Rattle.algol_tree.specs.Blocks.{same_spot}
use Rattle.algol_frames.specs.declared.found.Block.{Block}
use Rattle.algol_frames.specs.ByLine.{placed_in}
use Rattle.algol_frames.specs.declared.found.Cell.{Cell}
use Rattle.algol_frames.specs.declared.found.Content.TheVariants as content
use Rattle.algol_frames.specs.declared.found.Use.{Use}
use Rattle.algol_frames.specs.declared.scopes.Couple.{Couple}
use Rattle.algol_frames.specs.declared.scopes.Declared.{Declared}
use Rattle.algol_frames.specs.declared.scopes.Scopes.{Scopes}
use Rattle.algol_frames.specs.Laying.{AreLaid, actual_from, declared_by, declared_from, framed_in, is_of, laid_in, levels_of, number_from, parameters_from, result_from}

module _ (f g : ℕ → Spot → Option Couple) (same : (q : ℕ) (spot : Spot) → f q spot ≡ g q spot) where
  declared_alike : (us : List Use) (spot : Spot) → declared_from f us spot ≡ declared_from g us spot
  declared_alike [] spot = refl
  declared_alike (u ∷ us) spot =
      ap
      (λ z.
      if same_spot u.spot spot then Some (record { spot = u.declared; block = u.block; level = u.level; sort = u.sort; couple = z }) else declared_from f us spot)
      (same u.block u.declared)
      ∙ ap (λ z. if same_spot u.spot spot then Some (declared_by g u) else z)
      (declared_alike us spot)

  actual_alike : (cs : List Cell) (spot : Spot) → actual_from f cs spot ≡ actual_from g cs spot
  actual_alike [] spot = refl
  actual_alike (c ∷ cs) spot =
      let is : Bool = is_of content.Actual c && same_spot c.spot spot in
      ap (λ z. option_or (if is then z else None) (actual_from f cs spot)) (same c.block c.spot)
      ∙ ap (λ z. option_or (if is then g c.block c.spot else None) z) (actual_alike cs spot)

  result_alike : (n : ℕ) (bs : List Block) (spot : Spot) → result_from f n bs spot ≡ result_from g n bs spot
  result_alike n [] spot = refl
  result_alike n (b ∷ bs) spot =
      ap (λ z. option_or (if same_spot b.spot spot then z else None) (result_from f (n + 1) bs spot)) (same n b.spot)
      ∙ ap (λ z. option_or (if same_spot b.spot spot then g n b.spot else None) z) (result_alike (n + 1) bs spot)

-- one more use in its place
one_use : (x rest : Option Declared) (d : Declared) (b : Bool) → option_or (option_or x (if b then Some d else None)) rest ≡ option_or x (if b then Some d else rest)
one_use None rest d true = refl
one_use None rest d false = refl
one_use (Some e) rest d b = refl

abbrev declared_with : Use → Option Couple → Declared
declared_with u couple = record { spot = u.declared; block = u.block; level = u.level; sort = u.sort; couple = couple }

pub placed_use : (f : ℕ → Spot → Option Couple) (us : List Use) (i : ℕ) (u : Use) (couple : Option Couple) (q : Spot) (old new : Option Declared) → i < length us →
    u ≡ get_or us i u → couple ≡ f u.block u.declared →
    new ≡ option_or old (if same_spot u.spot q then Some (record { spot = u.declared; block = u.block; level = u.level; sort = u.sort; couple = couple }) else None) →
    option_or old (declared_from f (drop i us) q) ≡ declared_from f us q → option_or new (declared_from f (drop (i + 1) us) q) ≡ declared_from f us q
placed_use f us i u couple q old new h same is put inv =
    rw add-one
    (let at : drop i us ≡ u ∷ drop (suc i) us = drop-cons us i u h ∙ ap (λ z. z ∷ drop (suc i) us) (sym same) in
    ap (λ z. option_or z (declared_from f (drop (suc i) us) q)) put
    ∙ one_use old (declared_from f (drop (suc i) us) q) (declared_with u couple) (same_spot u.spot q)
    ∙ ap (λ z. option_or old (if same_spot u.spot q then Some (declared_with u z) else declared_from f (drop (suc i) us) q)) is
    ∙ ap (λ z. option_or old (declared_from f z q)) (sym at) ∙ inv)

pub laid : (blocks : List Block) (table : BTreeMap ℕ (Vec Cell Global)) (cells : List Cell) (uses : List Use) (frames held : List (BTreeMap Spot Couple)) →
    frames ≡ held → ((q : ℕ) (spot : Spot) → framed_in held q spot ≡ laid_in blocks table q spot) → (s : Scopes) →
    ((q : Spot) → placed_in s.declared q ≡ declared_from (framed_in frames) uses q) →
    ((q : Spot) → get ghosts.cmp s.results q ≡ result_from (framed_in frames) 0 blocks q) →
    ((q : Spot) → get ghosts.cmp s.actuals q ≡ actual_from (framed_in frames) cells q) → s.levels.items ≡ levels_of blocks →
    ((q : Spot) → get ghosts.cmp s.parameters q ≡ parameters_from uses q) → ((q : Spot) → get ghosts.cmp s.numbers q ≡ number_from 0 blocks q) →
    AreLaid blocks table cells uses s
laid blocks table cells uses frames held f framed s declared results actuals levels parameters numbers =
    let there : (q : ℕ) (spot : Spot) → framed_in frames q spot ≡ laid_in blocks table q spot = λ q spot. ap (λ z. framed_in z q spot) f ∙ framed q spot in
    record {
      declarations = λ spot. declared spot ∙ declared_alike (framed_in frames) (laid_in blocks table) there uses spot;
      results = λ spot. results spot ∙ result_alike (framed_in frames) (laid_in blocks table) there 0 blocks spot;
      actuals = λ spot. actuals spot ∙ actual_alike (framed_in frames) (laid_in blocks table) there cells spot;
      levels = levels;
      parameters = parameters;
      numbers = numbers;
    }
