use Rattle.std.proofs.Common.{◌≡◌, ℕ, ◌+◌, ◌<◌, ◌≤◌, List, [], ◌∷◌, ◌++◌, length, map, drop, get_or, append-nil, append_assoc, sym, ap, ◌∙◌}
use Rattle.std.proofs.lemmas.List.{drop_all}
use Rattle.algol_meaning.specs.Value as plain
use Rattle.algol_cells.specs.SeenCell as cells
use Rattle.algol_rest_expr.specs.SeenExpression as seen
use Rattle.algol_rest_expr.specs.declared.part.Given.{Given}
use Rattle.algol_world.specs.declared.world.World.{World}
use Rattle.algol_world.specs.declared.world.Part.{Part}
use Rattle.algol_effect.specs.Effects.{given_cells_in}
use Rattle.b67_list.proofs.Lists.{drop_read}
use Rattle.algol_step.proofs.calling.given_cells.Goals as goal

cells_next :
    (w : World) (p : ℕ) (part : Part) (done new all : List plain.Cell) (gs : List Given) (i : ℕ) (g : Given)
    → i < length gs → g ≡ get_or gs i g → new ≡ done ++ given_cells_in w p part (seen.done g ∷ [])
    → done ++ given_cells_in w p part (seen.all_done (drop i gs)) ≡ all
    → new ++ given_cells_in w p part (seen.all_done (drop (i + 1) gs)) ≡ all
cells_next w p part done new all gs i g h is pushed inv =
    let r : List plain.Cell = given_cells_in w p part (seen.all_done (drop (i + 1) gs)) in
    ap (λ (cs : List plain.Cell). cs ++ r) pushed
    ∙ append_assoc done (given_cells_in w p part (seen.done g ∷ [])) r
    ∙ ap (λ (hs : List Given). done ++ given_cells_in w p part (seen.all_done hs)) (sym (drop_read gs i g h is))
    ∙ inv

cells_given :
    (w : World) (p : ℕ) (part : Part) (done all : List plain.Cell) (gs : List Given) (i : ℕ)
    → length gs ≤ i → done ++ given_cells_in w p part (seen.all_done (drop i gs)) ≡ all → done ≡ all
cells_given w p part done all gs i h inv = sym (append-nil done) ∙ ap (λ (hs : List Given). done ++ given_cells_in w p part (seen.all_done hs)) (sym (drop_all i gs h)) ∙ inv

pub giving-preserved : goal.giving-preserved
giving-preserved c =
    cells_next c.args.world.now c.args.process c.args.part.now (map cells.cell c.giving.cells.items) _ _ c.args.givens.now c.giving.given-index c.given-item.result
    c.giving-test.true c.given-item.is c.in_ok-push_given.ensures c.giving.invariant

pub returns : goal.returns
returns c = cells_given c.args.world.now c.args.process c.args.part.now (map cells.cell c.giving.cells.items) _ c.args.givens.now c.giving.given-index c.giving-test.false c.giving.invariant
