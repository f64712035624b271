-- The places at which the walk finds labels bad are those that the rule has.
use Rattle.std.proofs.Common.{◌≡◌, ℕ, ◌+◌, ◌<◌, Bool, true, false, List, [], ◌∷◌, ◌++◌, length, drop, get_or, map, refl, ap, sym, ◌∙◌, append_assoc, drop-cons, suc, arith}
use Rattle.std.proofs.lemmas.List.{map-append}
use Rattle.std.specs.Prelude.{not, filter, cond, if◌then◌else◌}
use Rattle.std.specs.List.{flat_map}
use Rattle.algol_tree.specs.declared.token.Spot.{Spot}
use Rattle.algol_tree.specs.declared.refusal.Code.TheVariants as codes
use Rattle.algol_tree.specs.declared.refusal.Fault.{Fault}
use Rattle.algol_tree.specs.Blocks.{same_spot}
use Rattle.algol_tree.specs.Labels as rules'
use Rattle.algol_tree.specs.Labels.{bad_labels}
use Rattle.algol_tree.specs.Sites.{Site}
use Rattle.algol_tree.proofs.Spots.{same_spot_is}
use Rattle.algol_sites.specs.declared.label.Standing.{Standing}
use Rattle.algol_sites.specs.Noting.{rule_broken, broken_if}
use Rattle.algol_sites.specs.Labelling.{standing_as, standings_at, labels_at, those_of, away, label_again, bad_at, bad_in}

abbrev is_of : Spot → rules'.Standing → Bool
is_of spot t = same_spot t.declared spot

abbrev is_away : rules'.Standing → Bool
is_away t = not t.at_home

abbrev spot_of : rules'.Standing → Spot
spot_of t = t.spot

abbrev as_fault : Spot → Fault
as_fault spot = record { spot = spot; code = codes.BadLabel }

abbrev bad_standings : Spot → List rules'.Standing → List Spot
bad_standings spot [] = spot ∷ []
bad_standings spot (s ∷ ss) = map spot_of (filter is_away (s ∷ ss)) ++ map spot_of ss

abbrev bad_label : List rules'.Standing → Spot → List Spot
bad_label all spot = bad_standings spot (filter (is_of spot) all)

-- ---- the standings of one label

chosen : (b : Bool) (s : Standing) (ss : List Standing) (ts : List rules'.Standing) → map standing_as ss ≡ ts →
    map standing_as (if b then s ∷ ss else ss) ≡ cond b (standing_as s ∷ ts) ts
chosen true s ss ts h = ap (λ xs. standing_as s ∷ xs) h
chosen false s ss ts h = h

filtered : (ss : List Standing) (spot : Spot) → map standing_as (those_of ss spot) ≡ filter (is_of spot) (map standing_as ss)
filtered [] spot = refl
filtered (s ∷ ss) spot = chosen (same_spot s.declared spot) s (those_of ss spot) (filter (is_of spot) (map standing_as ss)) (filtered ss spot)

one_away : (b : Bool) (t : rules'.Standing) (ts : List rules'.Standing) (fs : List Fault) → fs ≡ rule_broken codes.BadLabel (map spot_of ts) →
    broken_if codes.BadLabel b t.spot ++ fs ≡ rule_broken codes.BadLabel (map spot_of (cond b (t ∷ ts) ts))
one_away true t ts fs h = ap (λ gs. as_fault t.spot ∷ gs) h
one_away false t ts fs h = h

away_told : (ss : List Standing) → away ss ≡ rule_broken codes.BadLabel (map spot_of (filter is_away (map standing_as ss)))
away_told [] = refl
away_told (s ∷ ss) = one_away (not s.at_home) (standing_as s) (filter is_away (map standing_as ss)) (away ss) (away_told ss)

again_told : (ss : List Standing) → label_again ss ≡ rule_broken codes.BadLabel (map spot_of (map standing_as ss))
again_told [] = refl
again_told (s ∷ ss) = ap (λ fs. as_fault s.spot ∷ fs) (again_told ss)

at_told : (spot : Spot) (ss : List Standing) → bad_at spot ss ≡ rule_broken codes.BadLabel (bad_standings spot (map standing_as ss))
at_told spot [] = refl
at_told spot (s ∷ ss) =
    ap (λ fs. fs ++ label_again ss) (away_told (s ∷ ss))
    ∙ ap (λ fs. rule_broken codes.BadLabel (map spot_of (filter is_away (map standing_as (s ∷ ss)))) ++ fs) (again_told ss)
    ∙ sym (map-append as_fault (map spot_of (filter is_away (map standing_as (s ∷ ss)))) (map spot_of (map standing_as ss)))

-- ---- all labels

in_told : (all : List Standing) (spots : List Spot) → bad_in all spots ≡ rule_broken codes.BadLabel (flat_map (bad_label (map standing_as all)) spots)
in_told all [] = refl
in_told all (spot ∷ spots) =
    ap (λ fs. fs ++ bad_in all spots) (at_told spot (those_of all spot) ∙ ap (λ ts. rule_broken codes.BadLabel (bad_standings spot ts)) (filtered all spot))
    ∙ ap (λ fs. rule_broken codes.BadLabel (bad_label (map standing_as all) spot) ++ fs) (in_told all spots)
    ∙ sym (map-append as_fault (bad_label (map standing_as all) spot) (flat_map (bad_label (map standing_as all)) spots))

pub labels_told : (xs : List Site) (all : List Standing) (spots : List Spot) → map standing_as all ≡ flat_map standings_at xs → spots ≡ flat_map labels_at xs →
    bad_in all spots ≡ rule_broken codes.BadLabel (bad_labels xs)
labels_told xs all spots p q =
    in_told all spots ∙ ap (λ ts. rule_broken codes.BadLabel (flat_map (bad_label ts) spots)) p
    ∙ ap (λ zs. rule_broken codes.BadLabel (flat_map (bad_label (flat_map standings_at xs)) zs)) q

-- ---- the standings of each label, gathered one after the other

one_more : (b : Bool) (s : Standing) (all old new both rest : List Standing) → (b ≡ true → all ≡ old) → new ≡ (if b then [] else old) →
    both ≡ (if b then all ++ s ∷ [] else new) → both ++ rest ≡ old ++ (if b then s ∷ rest else rest)
one_more true s all old new both rest k n e = ap (λ z. z ++ rest) e ∙ append_assoc all (s ∷ []) rest ∙ ap (λ z. z ++ s ∷ rest) (k refl)
one_more false s all old new both rest k n e = ap (λ z. z ++ rest) (e ∙ n)

pub gathered : (places : Spot → List Standing) (ss : List Standing) (i : ℕ) (d : Standing) (q : Spot) (new both : List Standing) → i < length ss →
    new ≡ (if same_spot (get_or ss i d).declared q then [] else places q) →
    both ≡ (if same_spot (get_or ss i d).declared q then places (get_or ss i d).declared ++ get_or ss i d ∷ [] else new) →
    both ++ those_of (drop (i + 1) ss) q ≡ places q ++ those_of (drop i ss) q
gathered places ss i d q new both h n b =
    let s = get_or ss i d in
    let next : suc i ≡ i + 1 = omega arith in
    let at : drop i ss ≡ s ∷ drop (i + 1) ss = drop-cons ss i d h ∙ ap (λ k. s ∷ drop k ss) next in
    one_more (same_spot s.declared q) s (places s.declared) (places q) new both (those_of (drop (i + 1) ss) q) (λ t. ap places (same_spot_is s.declared q t)) n b
    ∙ ap (λ xs. places q ++ those_of xs q) (sym at)
