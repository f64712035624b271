-- What is noted along the parts of a program and then at its labels is the program's first fault.
use Rattle.std.proofs.Common.{◌≡◌, List, map, Option, None, ap, sym, ◌∙◌}
use Rattle.std.specs.List.{flat_map}
use Rattle.algol_tree.specs.declared.token.Spot.{Spot}
use Rattle.algol_tree.specs.declared.refusal.Code.TheVariants as codes
use Rattle.algol_tree.specs.declared.refusal.Fault.{Fault}
use Rattle.algol_tree.specs.Plain.{PProgram}
use Rattle.algol_tree.specs.Blocks.{blocks_of_program}
use Rattle.algol_tree.specs.Labels.{bad_labels}
use Rattle.algol_tree.specs.Accepted.{noted_all, check_faults, first_fault, sites_of}
use Rattle.algol_sites.specs.declared.label.Standing.{Standing}
use Rattle.algol_sites.specs.Noting.{rule_broken, noted_along}
use Rattle.algol_sites.specs.Labelling.{standing_as, standings_at, labels_at, bad_in}
use Rattle.algol_sites.proofs.Labelled.{labels_told}
use Rattle.algol_sites.proofs.Whole.{first_in_turn}

pub checked : (p : PProgram) (f g : Option Fault) (all : List Standing) (spots : List Spot) → f ≡ noted_along (blocks_of_program p) None (sites_of p) →
    map standing_as all ≡ flat_map standings_at (sites_of p) → spots ≡ flat_map labels_at (sites_of p) → g ≡ noted_all f (bad_in all spots) →
    g ≡ first_fault (check_faults p)
checked p f g all spots e s l q =
    q ∙ ap (noted_all f) (labels_told (sites_of p) all spots s l)
    ∙ ap (λ o. noted_all o (rule_broken codes.BadLabel (bad_labels (sites_of p)))) e ∙ sym (first_in_turn p)
