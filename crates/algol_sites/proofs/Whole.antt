-- The first fault of a program is the one that is noted part by part, in the order of the text, and then label by label.
use Rattle.std.proofs.Common.{◌≡◌, List, [], ◌∷◌, ◌++◌, Option, None, refl, ap, sym, ◌∙◌}
use Rattle.std.specs.List.{flat_map}
use Rattle.std.proofs.lemmas.List.{map-append}
use Rattle.algol_tree.specs.declared.token.Spot.{Spot}
use Rattle.algol_tree.specs.declared.refusal.Code.{Code}
use Rattle.algol_tree.specs.declared.refusal.Code.TheVariants as codes
use Rattle.algol_tree.specs.declared.refusal.Fault.{Fault}
use Rattle.algol_tree.specs.Plain.{PProgram}
use Rattle.algol_tree.specs.Blocks.{Block, blocks_of_program}
use Rattle.algol_tree.specs.Sites.{Site}
use Rattle.algol_tree.specs.Checks.{wrong_types, not_assignable}
use Rattle.algol_tree.specs.Counted.{wrong_counts, bad_lists, wide_lines}
use Rattle.algol_tree.specs.Labels.{bad_labels}
use Rattle.algol_tree.specs.Accepted.{noted_all, check_faults, first_fault, sites_of}
use Rattle.algol_rules.proofs.Order.{IsRule, AreRules, noted_all_swap, noted_all_append}
use Rattle.algol_sites.specs.Noting.{rule_broken, noted_at, noted_along}

-- ---- lists of faults, one list after the other

abbrev noted_many : Option Fault → List (List Fault) → Option Fault
noted_many first [] = first
noted_many first (fs ∷ fss) = noted_many (noted_all first fs) fss

abbrev AllRules : List (List Fault) → Type 0
AllRules [] = Unit {0}
AllRules (fs ∷ fss) = AreRules fs × AllRules fss

abbrev joined : List (List Fault) → List (List Fault) → List (List Fault)
joined [] gss = gss
joined (fs ∷ fss) [] = fs ∷ fss
joined (fs ∷ fss) (gs ∷ gss) = (fs ++ gs) ∷ joined fss gss

-- a list is noted before or after others
swapped : (first : Option Fault) (gs : List Fault) (fss : List (List Fault)) → AreRules gs → AllRules fss →
    noted_many (noted_all first gs) fss ≡ noted_all (noted_many first fss) gs
swapped first gs [] r s = refl
swapped first gs (fs ∷ fss) r s =
    ap (λ o. noted_many o fss) (noted_all_swap first gs fs r s.0) ∙ swapped (noted_all first fs) gs fss r s.1

many_swapped : (first : Option Fault) (fss gss : List (List Fault)) → AllRules fss → AllRules gss →
    noted_many (noted_many first fss) gss ≡ noted_many (noted_many first gss) fss
many_swapped first [] gss r s = refl
many_swapped first (fs ∷ fss) gss r s =
    many_swapped (noted_all first fs) fss gss r.1 s ∙ ap (λ o. noted_many o fss) (swapped first fs gss r.0 s)

apart : (first : Option Fault) (fss gss : List (List Fault)) → AllRules fss → AllRules gss → noted_many first (joined fss gss) ≡ noted_many (noted_many first fss) gss
apart first [] gss r s = refl
apart first (fs ∷ fss) [] r s = refl
apart first (fs ∷ fss) (gs ∷ gss) r s =
    ap (λ o. noted_many o (joined fss gss)) (noted_all_append first fs gs)
    ∙ apart (noted_all (noted_all first fs) gs) fss gss r.1 s.1
    ∙ ap (λ o. noted_many o gss) (swapped (noted_all first fs) gs fss s.0 r.1)

-- ---- the rules of one part, and of many

broken_rules : (code : Code) (spots : List Spot) → ((spot : Spot) → IsRule (record { spot = spot; code = code })) → AreRules (rule_broken code spots)
broken_rules code [] r = tt
broken_rules code (spot ∷ spots) r = (r spot, broken_rules code spots r)

abbrev by_rule : List Spot → List Spot → List Spot → List Spot → List Spot → List (List Fault)
by_rule types counts places lists lines =
    rule_broken codes.WrongType types ∷ rule_broken codes.WrongCount counts ∷ rule_broken codes.NotAssignable places ∷ rule_broken codes.WriteList lists
    ∷ rule_broken codes.LineTooWide lines ∷ []

by_rule_rules : (a b c d e : List Spot) → AllRules (by_rule a b c d e)
by_rule_rules a b c d e = (
  broken_rules codes.WrongType a (λ spot. refl),
  (
    broken_rules codes.WrongCount b (λ spot. refl),
    (
      broken_rules codes.NotAssignable c (λ spot. refl),
      (broken_rules codes.WriteList d (λ spot. refl), (broken_rules codes.LineTooWide e (λ spot. refl), tt)),
    ),
  ),
)

module _ (blocks : List Block) where
  abbrev by_part : Site → List (List Fault)
  by_part x = by_rule (wrong_types blocks x) (wrong_counts x) (not_assignable blocks x) (bad_lists x) (wide_lines x)

  abbrev by_all : List Site → List (List Fault)
  by_all xs =
      by_rule (flat_map (wrong_types blocks) xs) (flat_map wrong_counts xs) (flat_map (not_assignable blocks) xs) (flat_map bad_lists xs)
      (flat_map wide_lines xs)

  broken_append : (code : Code) (xs ys : List Spot) → rule_broken code (xs ++ ys) ≡ rule_broken code xs ++ rule_broken code ys
  broken_append code xs ys = map-append (λ (spot : Spot). record { spot = spot; code = code }) xs ys

  by_one_more : (x : Site) (xs : List Site) → by_all (x ∷ xs) ≡ joined (by_part x) (by_all xs)
  by_one_more x xs =
      let a = broken_append codes.WrongType (wrong_types blocks x) (flat_map (wrong_types blocks) xs) in
      let b = broken_append codes.WrongCount (wrong_counts x) (flat_map wrong_counts xs) in
      let c = broken_append codes.NotAssignable (not_assignable blocks x) (flat_map (not_assignable blocks) xs) in
      let d = broken_append codes.WriteList (bad_lists x) (flat_map bad_lists xs) in
      let e = broken_append codes.LineTooWide (wide_lines x) (flat_map wide_lines xs) in
      simp (a, b, c, d, e)

  along : (first : Option Fault) (xs : List Site) → noted_many first (by_all xs) ≡ noted_along blocks first xs
  along first [] = refl
  along first (x ∷ xs) =
      ap (noted_many first) (by_one_more x xs)
      ∙ apart first (by_part x) (by_all xs)
      (by_rule_rules (wrong_types blocks x) (wrong_counts x) (not_assignable blocks x) (bad_lists x) (wide_lines x))
      (by_rule_rules (flat_map (wrong_types blocks) xs) (flat_map wrong_counts xs) (flat_map (not_assignable blocks) xs) (flat_map bad_lists xs) (flat_map wide_lines xs))
      ∙ along (noted_at blocks first x) xs

in_turn : (first : Option Fault) (a b c d e g : List Fault) →
    noted_all first (a ++ b ++ c ++ d ++ e ++ g) ≡ noted_all (noted_many first (a ∷ b ∷ c ∷ d ∷ e ∷ [])) g
in_turn first a b c d e g =
    noted_all_append first (a ++ b ++ c ++ d ++ e) g
    ∙ ap (λ o. noted_all o g)
    (noted_all_append first (a ++ b ++ c ++ d) e
    ∙ ap (λ o. noted_all o e)
    (noted_all_append first (a ++ b ++ c) d
    ∙ ap (λ o. noted_all o d) (noted_all_append first (a ++ b) c ∙ ap (λ o. noted_all o c) (noted_all_append first a b))))

pub first_in_turn : (p : PProgram) →
    first_fault (check_faults p) ≡ noted_all (noted_along (blocks_of_program p) None (sites_of p)) (rule_broken codes.BadLabel (bad_labels (sites_of p)))
unfolding check_faults
first_in_turn p =
    let blocks = blocks_of_program p in
    let xs = sites_of p in
    in_turn None (rule_broken codes.WrongType (flat_map (wrong_types blocks) xs)) (rule_broken codes.WrongCount (flat_map wrong_counts xs))
    (rule_broken codes.NotAssignable (flat_map (not_assignable blocks) xs)) (rule_broken codes.WriteList (flat_map bad_lists xs)) (rule_broken codes.LineTooWide (flat_map wide_lines xs))
    (rule_broken codes.BadLabel (bad_labels xs))
    ∙ ap (λ o. noted_all o (rule_broken codes.BadLabel (bad_labels xs))) (along blocks None xs)

-- wrong types are noted before or after parts
pub noted_later : (blocks : List Block) (first : Option Fault) (spots : List Spot) (xs : List Site) →
    noted_along blocks (noted_all first (rule_broken codes.WrongType spots)) xs ≡ noted_all (noted_along blocks first xs) (rule_broken codes.WrongType spots)
noted_later blocks first spots xs =
    let wrong = rule_broken codes.WrongType spots in
    sym (along blocks (noted_all first wrong) xs)
    ∙ swapped first wrong (by_all blocks xs) (broken_rules codes.WrongType spots (λ spot. refl))
    (by_rule_rules (flat_map (wrong_types blocks) xs) (flat_map wrong_counts xs) (flat_map (not_assignable blocks) xs) (flat_map bad_lists xs) (flat_map wide_lines xs))
    ∙ ap (λ o. noted_all o wrong) (along blocks first xs)

-- parts are noted before or after others
pub either_first : (blocks : List Block) (first : Option Fault) (xs ys : List Site) →
    noted_along blocks (noted_along blocks first xs) ys ≡ noted_along blocks (noted_along blocks first ys) xs
either_first blocks first xs ys =
    let are_rules : (zs : List Site) → AllRules (by_all blocks zs) = λ zs.
    by_rule_rules (flat_map (wrong_types blocks) zs) (flat_map wrong_counts zs) (flat_map (not_assignable blocks) zs) (flat_map bad_lists zs) (flat_map wide_lines zs) in
    sym (along blocks (noted_along blocks first xs) ys)
    ∙ ap (λ o. noted_many o (by_all blocks ys)) (sym (along blocks first xs))
    ∙ many_swapped first (by_all blocks xs) (by_all blocks ys) (are_rules xs) (are_rules ys)
    ∙ ap (λ o. noted_many o (by_all blocks xs)) (along blocks first ys)
    ∙ along blocks (noted_along blocks first ys) xs
