use Rattle.std.proofs.Common.{◌≡◌, ℕ, ◌+◌, ◌<◌, ◌≤◌, List, [], ◌∷◌, ◌++◌, length, map, drop, get_or, append-nil, append_assoc, sym, ap, ◌∙◌}
use Rattle.std.proofs.lemmas.List.{drop_all}
use Rattle.algol_tree.specs.declared.tree.Kind.{Kind}
use Rattle.algol_tree.specs.declared.tree.Named.{Named}
use Rattle.algol_meaning.specs.World as world
use Rattle.algol_meaning.specs.Value as plain
use Rattle.algol_meaning.specs.Arrays as arrays
use Rattle.algol_cells.specs.SeenCell as seen
use Rattle.algol_instances.specs.SeenInstance.{named_cells}
use Rattle.b67_list.proofs.Lists.{drop_read}
use Rattle.algol_step.proofs.making.push_arrays.Goals as goal

arrays_next :
    (k : Kind) (bs : List plain.Bounds) (done new all : List world.NamedCell) (ns : List Named) (i : ℕ) (n : Named)
    → i < length ns → n ≡ get_or ns i n → new ≡ done ++ arrays.new_arrays k bs (n ∷ [])
    → done ++ arrays.new_arrays k bs (drop i ns) ≡ all
    → new ++ arrays.new_arrays k bs (drop (i + 1) ns) ≡ all
arrays_next k bs done new all ns i n h is pushed inv =
    let r : List world.NamedCell = arrays.new_arrays k bs (drop (i + 1) ns) in
    ap (λ (cs : List world.NamedCell). cs ++ r) pushed
    ∙ append_assoc done (arrays.new_arrays k bs (n ∷ [])) r
    ∙ ap (λ (ms : List Named). done ++ arrays.new_arrays k bs ms) (sym (drop_read ns i n h is))
    ∙ inv

arrays_made :
    (k : Kind) (bs : List plain.Bounds) (done all : List world.NamedCell) (ns : List Named) (i : ℕ)
    → length ns ≤ i → done ++ arrays.new_arrays k bs (drop i ns) ≡ all → done ≡ all
arrays_made k bs done all ns i h inv = sym (append-nil done) ∙ ap (λ (ms : List Named). done ++ arrays.new_arrays k bs ms) (sym (drop_all i ns h)) ∙ inv

pub making-preserved : goal.making-preserved
making-preserved c =
    arrays_next c.args.kind (map seen.bounds c.args.bounds.now) (named_cells c.making.cells.items) _ _ c.args.names.now c.making.n-index c.n-item.result
    c.making-test.true c.n-item.is c.in_ok-push_array.ensures c.making.invariant

pub returns : goal.returns
returns c = arrays_made c.args.kind (map seen.bounds c.args.bounds.now) (named_cells c.making.cells.items) _ c.args.names.now c.making.n-index c.making-test.false c.making.invariant
