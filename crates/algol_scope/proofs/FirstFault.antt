-- The first fault of a program is the one that is noted part by part, in the order of the text, and then at the limits.
use Rattle.std.proofs.Common.{◌≡◌, ℕ, ◌+◌, Bool, true, false, List, [], ◌∷◌, ◌++◌, map, filter, Option, None, refl, ap, sym, ◌∙◌, arith}
use Rattle.std.specs.Prelude.{not, min, nat_lt, if◌then◌else◌}
use Rattle.std.specs.Bool.{◌==◌}
use Rattle.std.specs.List.{flat_map}
use Rattle.std.specs.declared.alloc.Global.{Global}
use Rattle.std.specs.declared.vec.Vec.{Vec}
use Rattle.std.specs.BTreeMap.{BTreeMap}
use Rattle.std.proofs.lemmas.Grind.{flat_map-append}
use Rattle.algol_tree.specs.declared.TheConstants.{MOST_BLOCK_CELLS, MOST_PROCEDURES}
use Rattle.algol_tree.specs.declared.token.Spot.{Spot}
use Rattle.algol_tree.specs.declared.refusal.Code.{Code}
use Rattle.algol_tree.specs.declared.refusal.Code.TheVariants as codes
use Rattle.algol_tree.specs.declared.refusal.Fault.{Fault}
use Rattle.algol_tree.specs.Plain.{PProgram}
use Rattle.algol_tree.specs.Blocks.{Block, blocks_of_program, number_at}
use Rattle.algol_tree.specs.Sites.{Site}
use Rattle.algol_tree.specs.Sorts.{same_name}
use Rattle.algol_tree.specs.Cells as cells
use Rattle.algol_tree.specs.Cells.{cells_at, cells_of, level_of}
use Rattle.algol_tree.specs.Names.{cells_beyond, deep_actuals, deep_blocks, declared_twice, if_so, is_too_deep, long_segments, place_beyond, procedures, procedures_beyond, program_segment, segments_of_part, unknown_names}
use Rattle.algol_tree.specs.Accepted.{broken, noted_all, scope_faults, first_fault, sites_of}
use Rattle.algol_rules.proofs.Order.{IsRule, AreRules, noted_all_append, noted_all_swap}
use Rattle.algol_frames.specs.declared.found.Cell.{Cell}
use Rattle.algol_frames.specs.Framing.{beyond_from, framed_cells_in, deep_place, places_of, procedure_place, those_in}
use Rattle.algol_frames.proofs.Noting.{broken_append}
use Rattle.algol_scope.specs.Finding.{limit_faults}
use Rattle.algol_scope.specs.Noting.{noted_cell_of, faults_at, long_at, long_segment}
use Rattle.algol_scope.specs.Stating.{AreNumbered, stated_block_of}

-- ---- lists of faults, one list after the other

abbrev noted_many : Option Fault → List (List Fault) → Option Fault
noted_many first [] = first
noted_many first (fs ∷ fss) = noted_many (noted_all first fs) fss

abbrev AllRules : List (List Fault) → Type 0
AllRules [] = Unit {0}
AllRules (fs ∷ fss) = AreRules fs × AllRules fss

abbrev joined : List (List Fault) → List (List Fault) → List (List Fault)
joined [] gss = gss
joined (fs ∷ fss) [] = fs ∷ fss
joined (fs ∷ fss) (gs ∷ gss) = (fs ++ gs) ∷ joined fss gss

-- a list is noted before or after others
swapped : (first : Option Fault) (gs : List Fault) (fss : List (List Fault)) → AreRules gs → AllRules fss →
    noted_many (noted_all first gs) fss ≡ noted_all (noted_many first fss) gs
swapped first gs [] r s = refl
swapped first gs (fs ∷ fss) r s =
    ap (λ o. noted_many o fss) (noted_all_swap first gs fs r s.0) ∙ swapped (noted_all first fs) gs fss r s.1

apart : (first : Option Fault) (fss gss : List (List Fault)) → AllRules fss → AllRules gss → noted_many first (joined fss gss) ≡ noted_many (noted_many first fss) gss
apart first [] gss r s = refl
apart first (fs ∷ fss) [] r s = refl
apart first (fs ∷ fss) (gs ∷ gss) r s =
    ap (λ o. noted_many o (joined fss gss)) (noted_all_append first fs gs)
    ∙ apart (noted_all (noted_all first fs) gs) fss gss r.1 s.1
    ∙ ap (λ o. noted_many o gss) (swapped (noted_all first fs) gs fss s.0 r.1)

-- ---- the rules of one part, and of many

broken_rules : (code : Code) (spots : List Spot) → ((spot : Spot) → IsRule (record { spot = spot; code = code })) → AreRules (broken code spots)
broken_rules code [] r = tt
broken_rules code (spot ∷ spots) r = (r spot, broken_rules code spots r)

abbrev by_rule : List Spot → List Spot → List Spot → List Spot → List (List Fault)
by_rule unknown twice deep long =
    broken codes.UnknownName unknown ∷ broken codes.DeclaredTwice twice ∷ broken codes.TooManyLevels deep ∷ broken codes.SegmentTooLong long ∷ []

by_rule_rules : (a b c d : List Spot) → AllRules (by_rule a b c d)
by_rule_rules a b c d = (
  broken_rules codes.UnknownName a (λ spot. refl),
  (
    broken_rules codes.DeclaredTwice b (λ spot. refl),
    (broken_rules codes.TooManyLevels c (λ spot. refl), (broken_rules codes.SegmentTooLong d (λ spot. refl), tt)),
  ),
)

in_turn : (first : Option Fault) (a b c d : List Fault) → noted_all first (a ++ (b ++ (c ++ d))) ≡ noted_many first (a ∷ b ∷ c ∷ d ∷ [])
in_turn first a b c d =
    noted_all_append first a (b ++ (c ++ d)) ∙ noted_all_append (noted_all first a) b (c ++ d)
    ∙ noted_all_append (noted_all (noted_all first a) b) c d

module _ (blocks : List Block) where
  abbrev by_part : Site → List (List Fault)
  by_part x = by_rule (unknown_names x) (declared_twice blocks x) (deep_actuals x) (long_at x)

  abbrev by_all : List Site → List (List Fault)
  by_all xs = by_rule (flat_map unknown_names xs) (flat_map (declared_twice blocks) xs) (flat_map deep_actuals xs) (flat_map long_at xs)

  by_one_more : (x : Site) (xs : List Site) → by_all (x ∷ xs) ≡ joined (by_part x) (by_all xs)
  by_one_more x xs =
      let a = broken_append codes.UnknownName (unknown_names x) (flat_map unknown_names xs) in
      let b = broken_append codes.DeclaredTwice (declared_twice blocks x) (flat_map (declared_twice blocks) xs) in
      let c = broken_append codes.TooManyLevels (deep_actuals x) (flat_map deep_actuals xs) in
      let d = broken_append codes.SegmentTooLong (long_at x) (flat_map long_at xs) in
      simp (a, b, c, d)

  pub along : (first : Option Fault) (xs : List Site) → noted_many first (by_all xs) ≡ noted_all first (flat_map (faults_at blocks) xs)
  along first [] = refl
  along first (x ∷ xs) =
      ap (noted_many first) (by_one_more x xs)
      ∙ apart first (by_part x) (by_all xs) (by_rule_rules (unknown_names x) (declared_twice blocks x) (deep_actuals x) (long_at x))
      (by_rule_rules (flat_map unknown_names xs) (flat_map (declared_twice blocks) xs) (flat_map deep_actuals xs) (flat_map long_at xs))
      ∙ along (noted_many first (by_part x)) xs
      ∙ ap (λ z. noted_all z (flat_map (faults_at blocks) xs))
      (sym (in_turn first (broken codes.UnknownName (unknown_names x)) (broken codes.DeclaredTwice (declared_twice blocks x))
      (broken codes.TooManyLevels (deep_actuals x)) (broken codes.SegmentTooLong (long_at x))))
      ∙ sym (noted_all_append first (faults_at blocks x) (flat_map (faults_at blocks) xs))

-- ---- the limits

less_min : (n : ℕ) → nat_lt 31 (min n 255) ≡ nat_lt 31 n
less_min n = grind arith

level_told : (b : Block) → deep_place (stated_block_of b) ≡ if_so (is_too_deep (level_of b)) b.spot
level_told b = ap (λ z. if_so z b.spot) (less_min (level_of b))

levels_told : (bs : List Block) → flat_map deep_place (map stated_block_of bs) ≡ deep_blocks bs
levels_told [] = refl
levels_told (b ∷ bs) =
    ap (λ z. z ++ flat_map deep_place (map stated_block_of bs)) (level_told b) ∙ ap (λ z. if_so (is_too_deep (level_of b)) b.spot ++ z) (levels_told bs)

procedures_told : (bs : List Block) → flat_map procedure_place (map stated_block_of bs) ≡ map (λ (b : Block). b.spot) (procedures bs)
procedures_told [] = refl
procedures_told (b ∷ bs) = step (not (same_name b.name [])) (procedures_told bs)
  where
    step : (x : Bool) → flat_map procedure_place (map stated_block_of bs) ≡ map (λ (b : Block). b.spot) (procedures bs) →
        if_so x b.spot ++ flat_map procedure_place (map stated_block_of bs) ≡ map (λ (b : Block). b.spot) (if x then b ∷ procedures bs else procedures bs)
    step true h = ap (λ z. b.spot ∷ z) h
    step false h = h

pub those_told : (cs : List cells.Cell) (n : ℕ) → those_in (map noted_cell_of cs) n ≡ map noted_cell_of (filter (λ (c : cells.Cell). c.block == n) cs)
those_told [] n = refl
those_told (c ∷ cs) n = step (c.block == n) (those_told cs n)
  where
    step : (x : Bool) → those_in (map noted_cell_of cs) n ≡ map noted_cell_of (filter (λ (c : cells.Cell). c.block == n) cs) →
        (if x then noted_cell_of c ∷ those_in (map noted_cell_of cs) n else those_in (map noted_cell_of cs) n) ≡
        map noted_cell_of (if x then c ∷ filter (λ (c : cells.Cell). c.block == n) cs else filter (λ (c : cells.Cell). c.block == n) cs)
    step true h = ap (λ z. noted_cell_of c ∷ z) h
    step false h = h

places_told : (cs : List cells.Cell) → places_of (map noted_cell_of cs) ≡ map (λ (c : cells.Cell). c.spot) cs
places_told [] = refl
places_told (c ∷ cs) = ap (λ z. c.spot ∷ z) (places_told cs)

beyond_told : (blocks : List Block) (ss : List Site) (table : BTreeMap ℕ (Vec Cell Global)) (bs : List Block) (n : ℕ) →
    ((q : ℕ) → framed_cells_in table q ≡ those_in (map noted_cell_of (flat_map (cells_at blocks) ss)) q) → AreNumbered blocks n bs →
    beyond_from table n (map stated_block_of bs) ≡
    flat_map (λ (b : Block). place_beyond MOST_BLOCK_CELLS (map (λ (c : cells.Cell). c.spot) (cells_of blocks ss (number_at blocks b.spot)))) bs
beyond_told blocks ss table [] n h a = refl
beyond_told blocks ss table (b ∷ bs) n h a =
    let rest : List Spot = beyond_from table (n + 1) (map stated_block_of bs) in
    ap (λ z. place_beyond MOST_BLOCK_CELLS (places_of z) ++ rest) (h n ∙ those_told (flat_map (cells_at blocks) ss) n)
    ∙ ap (λ z. place_beyond MOST_BLOCK_CELLS z ++ rest) (places_told (cells_of blocks ss n))
    ∙ ap (λ z. place_beyond MOST_BLOCK_CELLS (map (λ (c : cells.Cell). c.spot) (cells_of blocks ss z)) ++ rest) (sym a.0)
    ∙ ap (λ z. place_beyond MOST_BLOCK_CELLS (map (λ (c : cells.Cell). c.spot) (cells_of blocks ss (number_at blocks b.spot))) ++ z)
    (beyond_told blocks ss table bs (n + 1) h a.1.1)

pub limits_told : (p : PProgram) (table : BTreeMap ℕ (Vec Cell Global)) →
    ((q : ℕ) → framed_cells_in table q ≡ those_in (map noted_cell_of (flat_map (cells_at (blocks_of_program p)) (sites_of p))) q) →
    AreNumbered (blocks_of_program p) 0 (blocks_of_program p) →
    limit_faults p (map stated_block_of (blocks_of_program p)) table ≡
    broken codes.TooManyLevels (deep_blocks (blocks_of_program p)) ++ (broken codes.TooManyCells (cells_beyond (blocks_of_program p) (sites_of p)) ++
    (broken codes.TooManyProcedures (procedures_beyond (blocks_of_program p)) ++ broken codes.SegmentTooLong (long_segment (program_segment p))))
limits_told p table h a =
    let blocks = blocks_of_program p in
    let x = levels_told blocks in
    let y = beyond_told blocks (sites_of p) table blocks 0 h a in
    let z = ap (place_beyond MOST_PROCEDURES) (procedures_told blocks) in
    let s : List Fault = broken codes.SegmentTooLong (long_segment (program_segment p)) in
    let q : List Fault = broken codes.TooManyProcedures (place_beyond MOST_PROCEDURES (flat_map procedure_place (map stated_block_of blocks))) in
    let c : List Fault = broken codes.TooManyCells (beyond_from table 0 (map stated_block_of blocks)) in
    ap (λ w. broken codes.TooManyLevels w ++ (c ++ (q ++ s))) x
    ∙ ap (λ w. broken codes.TooManyLevels (deep_blocks blocks) ++ (broken codes.TooManyCells w ++ (q ++ s))) y
    ∙ ap (λ w. broken codes.TooManyLevels (deep_blocks blocks) ++ (broken codes.TooManyCells (cells_beyond blocks (sites_of p)) ++ (broken codes.TooManyProcedures w ++ s))) z

-- ---- all rules

long_told : (xs : List Site) → flat_map long_segment (flat_map (λ (x : Site). segments_of_part x.part) xs) ≡ flat_map long_at xs
long_told [] = refl
long_told (x ∷ xs) =
    flat_map-append long_segment (segments_of_part x.part) (flat_map (λ (y : Site). segments_of_part y.part) xs)
    ∙ ap (λ z. long_at x ++ z) (long_told xs)

module _ (u t la sd lb c p sp : List Fault) (rla : AreRules la) (rsd : AreRules sd) (rlb : AreRules lb) (rc : AreRules c) (rp : AreRules p) (rsp : AreRules sp) where
  abbrev N : Option Fault → List Fault → Option Fault
  N = noted_all

  -- what is noted part by part and then at the limits, and by the rules one after the other
  reorder : (o : Option Fault) → N (N (N (N (N (N (N (N o u) t) la) sd) lb) c) p) sp ≡ N (N (N (N (N (N (N (N o u) t) lb) la) c) p) sp) sd
  reorder o =
      let m : Option Fault = N (N o u) t in
      ap (λ z. N (N (N z c) p) sp) (noted_all_swap (N m la) sd lb rsd rlb)
      ∙ ap (λ z. N (N (N (N z sd) c) p) sp) (noted_all_swap m la lb rla rlb)
      ∙ ap (λ z. N (N z p) sp) (noted_all_swap (N (N m lb) la) sd c rsd rc)
      ∙ ap (λ z. N z sp) (noted_all_swap (N (N (N m lb) la) c) sd p rsd rp)
      ∙ noted_all_swap (N (N (N (N m lb) la) c) p) sd sp rsd rsp

pub first_in_turn : (p : PProgram) →
    noted_all (noted_all None (flat_map (faults_at (blocks_of_program p)) (sites_of p)))
    (broken codes.TooManyLevels (deep_blocks (blocks_of_program p)) ++ (broken codes.TooManyCells (cells_beyond (blocks_of_program p) (sites_of p)) ++
    (broken codes.TooManyProcedures (procedures_beyond (blocks_of_program p)) ++ broken codes.SegmentTooLong (long_segment (program_segment p)))))
    ≡ first_fault (scope_faults p)
unfolding scope_faults
first_in_turn p =
    let blocks = blocks_of_program p in
    let xs = sites_of p in
    let u : List Fault = broken codes.UnknownName (flat_map unknown_names xs) in
    let t : List Fault = broken codes.DeclaredTwice (flat_map (declared_twice blocks) xs) in
    let la : List Fault = broken codes.TooManyLevels (flat_map deep_actuals xs) in
    let sd : List Fault = broken codes.SegmentTooLong (flat_map long_at xs) in
    let lb : List Fault = broken codes.TooManyLevels (deep_blocks blocks) in
    let c : List Fault = broken codes.TooManyCells (cells_beyond blocks xs) in
    let q : List Fault = broken codes.TooManyProcedures (procedures_beyond blocks) in
    let sp : List Fault = broken codes.SegmentTooLong (long_segment (program_segment p)) in
    let walked : Option Fault = noted_all None (flat_map (faults_at blocks) xs) in
    in_turn walked lb c q sp
    ∙ ap (λ z. noted_many z (lb ∷ c ∷ q ∷ sp ∷ [])) (sym (along blocks None xs))
    ∙ reorder u t la sd lb c q sp (broken_rules codes.TooManyLevels (flat_map deep_actuals xs) (λ spot. refl))
    (broken_rules codes.SegmentTooLong (flat_map long_at xs) (λ spot. refl)) (broken_rules codes.TooManyLevels (deep_blocks blocks) (λ spot. refl))
    (broken_rules codes.TooManyCells (cells_beyond blocks xs) (λ spot. refl))
    (broken_rules codes.TooManyProcedures (procedures_beyond blocks) (λ spot. refl))
    (broken_rules codes.SegmentTooLong (long_segment (program_segment p)) (λ spot. refl)) None
    ∙ sym
    (together p u t la sd lb c q sp (sym (broken_append codes.TooManyLevels (deep_blocks blocks) (flat_map deep_actuals xs)))
    (sym (broken_append codes.SegmentTooLong (long_segment (program_segment p)) (flat_map long_at xs))
    ∙ ap (λ z. broken codes.SegmentTooLong (long_segment (program_segment p) ++ z)) (sym (long_told xs))))
  where
    together : (p : PProgram) (u t la sd lb c q sp : List Fault) →
        lb ++ la ≡ broken codes.TooManyLevels (deep_blocks (blocks_of_program p) ++ flat_map deep_actuals (sites_of p)) →
        sp ++ sd ≡ broken codes.SegmentTooLong (long_segments p (sites_of p)) →
        noted_all None
        (((((u ++ t) ++ broken codes.TooManyLevels (deep_blocks (blocks_of_program p) ++ flat_map deep_actuals (sites_of p))) ++ c) ++ q) ++
        broken codes.SegmentTooLong (long_segments p (sites_of p)))
        ≡ noted_all (noted_all (noted_all (noted_all (noted_all (noted_all (noted_all (noted_all None u) t) lb) la) c) q) sp) sd
    together p u t la sd lb c q sp h k =
        ap (λ z. noted_all None (((((u ++ t) ++ z) ++ c) ++ q) ++ broken codes.SegmentTooLong (long_segments p (sites_of p)))) (sym h)
        ∙ ap (λ z. noted_all None (((((u ++ t) ++ (lb ++ la)) ++ c) ++ q) ++ z)) (sym k)
        ∙ noted_all_append None ((((u ++ t) ++ (lb ++ la)) ++ c) ++ q) (sp ++ sd)
        ∙ ap (λ z. noted_all z (sp ++ sd))
        (noted_all_append None (((u ++ t) ++ (lb ++ la)) ++ c) q
        ∙ ap (λ z. noted_all z q)
        (noted_all_append None ((u ++ t) ++ (lb ++ la)) c
        ∙ ap (λ z. noted_all z c)
        (noted_all_append None (u ++ t) (lb ++ la)
        ∙ ap (λ z. noted_all z (lb ++ la)) (noted_all_append None u t)
        ∙ noted_all_append (noted_all (noted_all None u) t) lb la)))
        ∙ noted_all_append (noted_all (noted_all (noted_all (noted_all (noted_all (noted_all None u) t) lb) la) c) q) sp sd
