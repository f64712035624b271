use Rattle.std.proofs.Common.{◌++◌, ◌∙◌, ◌∷◌, [], ap, get_or, false}
use Rattle.std.specs.Prelude.{if◌then◌else◌}
use Rattle.algol_tree.specs.Blocks.{same_spot}
use Rattle.algol_sites.specs.declared.label.Standing.{Standing}
use Rattle.algol_sites.specs.Labelling.{places_in}
use Rattle.algol_sites.proofs.Labelled.{gathered}
use Rattle.algol_sites.proofs.label.gather.Goals as goal

abbrev none : Standing
none = record { declared = record { line = 0; column = 0 }; spot = record { line = 0; column = 0 }; at_home = false }

pub standings-preserved : goal.standings-preserved
standings-preserved c = λ q.
    let s = get_or c.args.standings.now c.standings.standing-index none in
    gathered (places_in c.standings.found) c.args.standings.now c.standings.standing-index none q (places_in c.taken-places.new.table q) (places_in c.put.new.table q)
    c.standings-test.true (c.taken-places.ensures.others q)
    (c.in_ok-put.ensures q
    ∙ ap (λ xs. if same_spot s.declared q then xs else places_in c.taken-places.new.table q)
    (c.in_ok-push.ensures.items ∙ ap (λ xs. xs ++ s ∷ []) c.taken-places.ensures.places))
    ∙ c.standings.invariant q
