-- The faults of a heading are those of its declaration.
use Rattle.std.proofs.Common.{◌≡◌, Bool, List, [], ◌∷◌, ◌++◌, Option, Some, None, refl, ap, sym, ◌∙◌}
use Rattle.std.proofs.lemmas.List.{map-append}
use Rattle.std.specs.Prelude.{not}
use Rattle.std.specs.List.{flat_map}
use Rattle.algol_tree.specs.declared.token.Spot.{Spot}
use Rattle.algol_tree.specs.declared.refusal.Code.TheVariants as codes
use Rattle.algol_tree.specs.declared.refusal.Fault.{Fault}
use Rattle.algol_tree.specs.declared.tree.Heading.{Heading}
use Rattle.algol_tree.specs.declared.tree.Named.{Named}
use Rattle.algol_tree.specs.Plain as tree
use Rattle.algol_tree.specs.Plain.{PDecls, PStmt}
use Rattle.algol_tree.specs.Classes.{is_unspecified}
use Rattle.algol_tree.specs.Sorts.{class_in}
use Rattle.algol_tree.specs.Names.{if_so}
use Rattle.algol_tree.specs.Forwards.{same_heading}
use Rattle.algol_tree.specs.Blocks.{Block}
use Rattle.algol_tree.specs.Surroundings.{Surroundings, body_of}
use Rattle.algol_tree.specs.Sites as site
use Rattle.algol_tree.specs.Accepted.{noted_all}
use Rattle.algol_sites.specs.Noting.{rule_broken, broken_if, noted_at}
use Rattle.algol_sites.specs.Headings.{faulty, missing, referring, is_reference, unlike}
use Rattle.algol_sites.proofs.Parts.{broken_pair}

abbrev spots_where : (Named → Bool) → List Named → List Spot
spots_where test ns = flat_map (λ (n : Named). if_so (test n) n.spot) ns

faulty_told : (test : Named → Bool) (ns : List Named) → faulty test ns ≡ rule_broken codes.WrongType (spots_where test ns)
faulty_told test [] = refl
faulty_told test (n ∷ ns) =
    ap (λ fs. broken_if codes.WrongType (test n) n.spot ++ fs) (faulty_told test ns)
    ∙ sym (map-append (λ (spot : Spot). record { spot = spot; code = codes.WrongType }) (if_so (test n) n.spot) (spots_where test ns))

abbrev unspecified_in : Heading → Named → Bool
unspecified_in h n = is_unspecified (class_in h.specs n.name)

abbrev refers_in : Heading → Named → Bool
refers_in h n = is_reference (class_in h.specs n.name)

heading_told : (h : Heading) (f : Option Fault) →
    noted_all (noted_all f (missing h.specs h.params)) (referring h.specs h.values) ≡
    noted_all f (rule_broken codes.WrongType (spots_where (unspecified_in h) h.params ++ spots_where (refers_in h) h.values))
heading_told h f =
    ap (λ fs. noted_all (noted_all f fs) (referring h.specs h.values)) (faulty_told (unspecified_in h) h.params)
    ∙ ap (noted_all (noted_all f (rule_broken codes.WrongType (spots_where (unspecified_in h) h.params)))) (faulty_told (refers_in h) h.values)
    ∙ sym (broken_pair f (spots_where (unspecified_in h) h.params) (spots_where (refers_in h) h.values))

pub procedure_noted : (blocks : List Block) (a : Surroundings) (h : Heading) (s : PStmt) (later : PDecls) (f g : Option Fault) →
    g ≡ noted_all (noted_all f (missing h.specs h.params)) (referring h.specs h.values) →
    g ≡ noted_at blocks f (record { part = site.declaration (tree.procedure h s) later; around = a })
procedure_noted blocks a h s later f g e = e ∙ heading_told h f

abbrev unlike_spots : Heading → Option Heading → List Spot
unlike_spots h None = []
unlike_spots h (Some g) = if_so (not (same_heading h g)) g.name.spot

unlike_told : (h : Heading) (o : Option Heading) → unlike h o ≡ rule_broken codes.WrongType (unlike_spots h o)
unlike_told h None = refl
unlike_told h (Some g) = refl

pub forward_noted : (blocks : List Block) (a : Surroundings) (h : Heading) (o : Option Heading) (later : PDecls) (f g k : Option Fault) → body_of h.name.name later ≡ o →
    g ≡ noted_all (noted_all f (missing h.specs h.params)) (referring h.specs h.values) → k ≡ noted_all g (unlike h o) →
    k ≡ noted_at blocks f (record { part = site.declaration (tree.forward h) later; around = a })
forward_noted blocks a h o later f g k b e q =
    let wrong = spots_where (unspecified_in h) h.params ++ spots_where (refers_in h) h.values in
    q ∙ ap (λ x. noted_all x (unlike h o)) (e ∙ heading_told h f)
    ∙ ap (noted_all (noted_all f (rule_broken codes.WrongType wrong))) (unlike_told h o)
    ∙ sym (broken_pair f wrong (unlike_spots h o))
    ∙ ap (λ (x : Option Heading). noted_all f (rule_broken codes.WrongType (wrong ++ unlike_spots h x))) (sym b)
