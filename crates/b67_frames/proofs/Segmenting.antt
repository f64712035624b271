-- The arrays and the statements of the program's outer block, and those of each procedure, need no more words than four for each token of
-- their segment. So the code of each actual has room, also where it stands in an inner block.
use Rattle.std.proofs.Common.{None, ◌≡◌, ◌⊎◌, inl, inr, refl, sym, ap, ◌∙◌, subst, ℕ, zero, suc, ◌+◌, ◌*◌, ◌<◌, ◌≤◌, Bool, true, false, List, [], ◌∷◌, ◌++◌, length, take, filter, Option, Some, arith, add-one, append-nil}
use Rattle.b67_frames.proofs.Prelude.{if◌then◌else◌, slice_get, Block, block_numbered, around, stmt_tokens, PExpr, PPair, PStmt, PStmts, PDecls, PProgram, Named, actuals_are_few, arguments_in_stmts, procedures, Actual, actuals_of, stmts_depth, HasNames, AreNested, tokens_around, decls_small, stmt_small, stmts_small, most_around}
use Rattle.std.specs.Prelude.{not}
use Rattle.std.specs.List.{flat_map}
use Rattle.std.proofs.lemmas.Grind.{flat_map-append}
use Rattle.std.proofs.lemmas.List.Elements.{filter-append}
use Rattle.algol_tree.specs.declared.token.Spot.{Spot}
use Rattle.algol_tree.specs.declared.tree.Heading.{Heading}
use Rattle.algol_tree.specs.Accepted.{sites_of}
use Rattle.algol_tree.specs.Blocks.{Begin, of_statement, of_procedure, procedure_block, blocks_of, blocks_in_stmts, blocks_in_decls, blocks_of_program}
use Rattle.algol_tree.specs.Classes.{Formal}
use Rattle.algol_tree.specs.Counts.{heading_tokens}
use Rattle.algol_tree.specs.Names.{Segment, segments_of_part}
use Rattle.algol_tree.specs.Plain as tree
use Rattle.algol_tree.specs.Plain.{name_alone, PExprs}
use Rattle.algol_tree.specs.Scopes.{scopes_of}
use Rattle.algol_tree.specs.Sites.{Site, name_part, wants_value, actual_part, actual_part_by, first_formal, other_formals, inside_expr, inside_list, inside_actuals, sites, sites_in_pairs, here_stmt, has_decls, inside_stmt, sites_in_stmts, sites_in_decls}
use Rattle.algol_tree.specs.Sorts.{Declared}
use Rattle.algol_tree.specs.Surroundings.{Surroundings, outermost, formals_at, knowing, knowing_all, inside, inside_procedure}
use Rattle.algol_tree.proofs.Trees.{got_numbered}
use Rattle.algol_paths.specs.Segments.{is_procedure, procedures_before, segment_among, tokens_or_none, segment_tokens}
use Rattle.b67_templates.specs.Arguments.{arguments_in_decls}
use Rattle.b67_templates.specs.Depths.{decls_depth, depth}
use Rattle.b67_templates.specs.Names.{DeclsNamed, StmtNamed, StmtsNamed}
use Rattle.b67_rows.proofs.ActualsWeighing.{actual_small}
use Rattle.b67_rows.proofs.InnerBlocks.{own_tokens, Inside, blocks_inside}

-- the segments that begin at these places of the text
abbrev segs : List Site → List Segment
segs xs = flat_map (λ (x : Site). segments_of_part x.part) xs

-- what a block's arrays and its statements need, and the control words of its procedures and of its actuals, and one word more
abbrev pub needs : Block → ℕ
needs b = decls_depth b.decls + stmts_depth b.stmts + length (procedures b.decls) + (arguments_in_decls b.decls + arguments_in_stmts b.stmts) + 1

-- each block has room in its segment, and its tokens are among those of the segment
abbrev Pairs : List Block → List Segment → Type 0
Pairs [] [] = Unit {0}
Pairs (b ∷ bs) (s ∷ ss) = ((needs b ≤ 4 * s.tokens) × (own_tokens b ≤ s.tokens)) × Pairs bs ss
Pairs _ _ = ⊥

-- so has each procedure's among these, where the segments begin at these places
abbrev Match : List Block → List Site → Type 0
Match bs xs = Pairs (filter is_procedure bs) (segs xs)

pairs_both : (bs cs : List Block) (ss ts : List Segment) → Pairs bs ss → Pairs cs ts → Pairs (bs ++ cs) (ss ++ ts)
pairs_both [] cs [] ts h k = k
pairs_both [] cs (s ∷ ss) ts h k = absurd h
pairs_both (b ∷ bs) cs [] ts h k = absurd h
pairs_both (b ∷ bs) cs (s ∷ ss) ts h k = (h.0, pairs_both bs cs ss ts h.1 k)

match_both : (bs cs : List Block) (xs ys : List Site) → Match bs xs → Match cs ys → Match (bs ++ cs) (xs ++ ys)
match_both bs cs xs ys h k =
    subst (λ (zs : List Block). Pairs zs (segs (xs ++ ys))) (sym (filter-append is_procedure bs cs))
    (subst (λ (ss : List Segment). Pairs (filter is_procedure bs ++ filter is_procedure cs) ss) (sym (flat_map-append (λ (x : Site). segments_of_part x.part) xs ys))
    (pairs_both (filter is_procedure bs) (filter is_procedure cs) (segs xs) (segs ys) h k))

pub both_none : (xs ys : List Site) → segs xs ≡ [] → segs ys ≡ [] → segs (xs ++ ys) ≡ []
both_none xs ys e f = flat_map-append (λ (x : Site). segments_of_part x.part) xs ys ∙ ap (λ (ss : List Segment). ss ++ segs ys) e ∙ f

none_match : (xs : List Site) → segs xs ≡ [] → Match [] xs
none_match xs e = subst (λ (ss : List Segment). Pairs [] ss) (sym e) tt

-- where places begin no segment
front : (bs : List Block) (xs ys : List Site) → segs xs ≡ [] → Match bs ys → Match bs (xs ++ ys)
front bs xs ys e h =
    subst (λ (ss : List Segment). Pairs (filter is_procedure bs) ss) (sym (flat_map-append (λ (x : Site). segments_of_part x.part) xs ys ∙ ap (λ (ss : List Segment). ss ++ segs ys) e)) h

back : (bs : List Block) (xs ys : List Site) → Match bs xs → segs ys ≡ [] → Match bs (xs ++ ys)
back bs xs ys h e =
    subst (λ (ss : List Segment). Pairs (filter is_procedure bs) ss)
    (sym (flat_map-append (λ (x : Site). segments_of_part x.part) xs ys ∙ ap (λ (ss : List Segment). segs xs ++ ss) e ∙ append-nil (segs xs))) h

-- ---- no segment begins in an expression

actual_none : (e : PExpr) (f : Option Formal) → segments_of_part (actual_part e f) ≡ []
actual_none e f = by (name_alone e)
  where
    named : (n : Named) (b : Bool) → segments_of_part (name_part n b) ≡ []
    named n true = refl
    named n false = refl

    by : (o : Option Named) → segments_of_part (actual_part_by o e f) ≡ []
    by None = refl
    by (Some n) = named n (wants_value f)

mutual
  expr_none : (e : PExpr) (a : Surroundings) → segs (inside_expr e a) ≡ []
  expr_none (tree.number z spot) a = refl
  expr_none (tree.truth b spot) a = refl
  expr_none (tree.variable (tree.subscripted n es)) a = list_none es a
  expr_none (tree.call (tree.called n es)) a = actuals_none es (formals_at a n) a
  expr_none (tree.tested x es spot) a = refl
  expr_none (tree.paren e spot) a = expr_none e a
  expr_none (tree.plus e spot) a = expr_none e a
  expr_none (tree.neg e spot) a = expr_none e a
  expr_none (tree.not e spot) a = expr_none e a
  expr_none (tree.two op x y) a = both_none (inside_expr x a) (sites y a) (expr_none x a) (expr_none y a)
  expr_none (tree.if c x y spot) a =
      both_none (inside_expr c a ++ sites x a) (sites y a) (both_none (inside_expr c a) (sites x a) (expr_none c a) (expr_none x a)) (expr_none y a)

  list_none : (es : PExprs) (a : Surroundings) → segs (inside_list es a) ≡ []
  list_none tree.none a = refl
  list_none (tree.more e es) a = both_none (inside_expr e a) (inside_list es a) (expr_none e a) (list_none es a)

  actuals_none : (es : PExprs) (fs : List Formal) (a : Surroundings) → segs (inside_actuals es fs a) ≡ []
  actuals_none tree.none fs a = refl
  actuals_none (tree.more e es) fs a =
      ap (λ (ss : List Segment). ss ++ segs (inside_expr e a ++ inside_actuals es (other_formals fs) a)) (actual_none e (first_formal fs))
      ∙ both_none (inside_expr e a) (inside_actuals es (other_formals fs) a) (expr_none e a) (actuals_none es (other_formals fs) a)

pub pairs_none : (pairs : List PPair) (a : Surroundings) → segs (sites_in_pairs pairs a) ≡ []
pairs_none [] a = refl
pairs_none (p ∷ pairs) a = both_none (sites p.high a) (sites_in_pairs pairs a) (expr_none p.high a) (pairs_none pairs a)

-- ---- statements and declarations

-- the statements of a procedure
head_small : (h : Heading) (s : PStmt) (outer : List Spot) → needs (procedure_block h s outer) ≤ 4 * (heading_tokens h + stmt_tokens s)
head_small h tree.empty outer = omega arith
head_small h (tree.label n s) outer = omega (arith, stmt_small (tree.label n s))
head_small h (tree.assign v e) outer = omega (arith, stmt_small (tree.assign v e))
head_small h (tree.call_of c) outer = omega (arith, stmt_small (tree.call_of c))
head_small h (tree.go_to n) outer = omega arith
head_small h (tree.block (tree.body spot ds ss)) outer = omega (arith, decls_small ds, stmts_small ss)
head_small h (tree.if_then c x) outer = omega (arith, stmt_small (tree.if_then c x))
head_small h (tree.if_else c x y) outer = omega (arith, stmt_small (tree.if_else c x y))
head_small h (tree.while c b) outer = omega (arith, stmt_small (tree.while c b))
head_small h (tree.until b c) outer = omega (arith, stmt_small (tree.until b c))
head_small h (tree.for v a s l b) outer = omega (arith, stmt_small (tree.for v a s l b))
head_small h (tree.thru e b) outer = omega (arith, stmt_small (tree.thru e b))
head_small h (tree.case e ss) outer = omega (arith, stmt_small (tree.case e ss))
head_small h (tree.process c task) outer = omega (arith, stmt_small (tree.process c task))
head_small h (tree.event act e) outer = omega (arith, stmt_small (tree.event act e))
head_small h (tree.write n spot phrases es) outer = omega (arith, stmt_small (tree.write n spot phrases es))

head_tokens : (h : Heading) (s : PStmt) (outer : List Spot) → own_tokens (procedure_block h s outer) ≤ heading_tokens h + stmt_tokens s
head_tokens h tree.empty outer = omega arith
head_tokens h (tree.label n s) outer = omega arith
head_tokens h (tree.assign v e) outer = omega arith
head_tokens h (tree.call_of c) outer = omega arith
head_tokens h (tree.go_to n) outer = omega arith
head_tokens h (tree.block (tree.body spot ds ss)) outer = omega arith
head_tokens h (tree.if_then c x) outer = omega arith
head_tokens h (tree.if_else c x y) outer = omega arith
head_tokens h (tree.while c b) outer = omega arith
head_tokens h (tree.until b c) outer = omega arith
head_tokens h (tree.for v a s l b) outer = omega arith
head_tokens h (tree.thru e b) outer = omega arith
head_tokens h (tree.case e ss) outer = omega arith
head_tokens h (tree.process c task) outer = omega arith
head_tokens h (tree.event act e) outer = omega arith
head_tokens h (tree.write n spot phrases es) outer = omega arith

module _ (blocks : List Block) where
  -- a statement, and what stands in it
  abbrev under : PStmt → Surroundings → List Site
  under s a = here_stmt s false a ∷ inside_stmt blocks s of_statement false a

  mutual
    stmt_match : (s : PStmt) (begin : Begin) (listed : Bool) (a : Surroundings) (outer : List Spot) → StmtNamed s → Match (blocks_of s begin outer) (inside_stmt blocks s begin listed a)
    stmt_match tree.empty begin listed a outer named = tt
    stmt_match (tree.label n s) begin listed a outer named = stmt_match s of_statement listed a outer named
    stmt_match (tree.assign (tree.subscripted n es) e) begin listed a outer named =
        none_match (inside_list es a ++ sites e a) (both_none (inside_list es a) (sites e a) (list_none es a) (expr_none e a))
    stmt_match (tree.call_of (tree.called n es)) begin listed a outer named = none_match (inside_actuals es (formals_at a n) a) (actuals_none es (formals_at a n) a)
    stmt_match (tree.go_to n) begin listed a outer named = tt
    -- no BEGIN of a statement has a name
    stmt_match (tree.block (tree.body spot tree.no_decls ss)) of_statement listed a outer named =
        stmts_match ss false (inside blocks of_statement (tree.body spot tree.no_decls ss) a) outer named.1
    stmt_match (tree.block (tree.body spot tree.no_decls ss)) of_procedure listed a outer named =
        stmts_match ss false (inside blocks of_procedure (tree.body spot tree.no_decls ss) a) outer named.1
    stmt_match (tree.block (tree.body spot (tree.decls d ds) ss)) of_statement listed a outer named =
        let i : Surroundings = inside blocks of_statement (tree.body spot (tree.decls d ds) ss) a in
        match_both (blocks_in_decls (tree.decls d ds) (spot ∷ outer)) (blocks_in_stmts ss (spot ∷ outer)) (sites_in_decls blocks (tree.decls d ds) i i.known) (sites_in_stmts blocks ss true (knowing_all blocks (tree.decls d ds) i))
        (decls_match (tree.decls d ds) i i.known (spot ∷ outer) named.0) (stmts_match ss true (knowing_all blocks (tree.decls d ds) i) (spot ∷ outer) named.1)
    stmt_match (tree.block (tree.body spot (tree.decls d ds) ss)) of_procedure listed a outer named =
        let i : Surroundings = inside blocks of_procedure (tree.body spot (tree.decls d ds) ss) a in
        match_both (blocks_in_decls (tree.decls d ds) outer) (blocks_in_stmts ss outer) (sites_in_decls blocks (tree.decls d ds) i i.known) (sites_in_stmts blocks ss true (knowing_all blocks (tree.decls d ds) i))
        (decls_match (tree.decls d ds) i i.known outer named.0) (stmts_match ss true (knowing_all blocks (tree.decls d ds) i) outer named.1)
    stmt_match (tree.if_then c x) begin listed a outer named =
        front (blocks_of x of_statement outer) (sites c a) (under x a) (expr_none c a) (stmt_match x of_statement false a outer named)
    stmt_match (tree.if_else c x y) begin listed a outer named =
        match_both (blocks_of x of_statement outer) (blocks_of y of_statement outer) (sites c a ++ under x a) (under y a)
        (front (blocks_of x of_statement outer) (sites c a) (under x a) (expr_none c a) (stmt_match x of_statement false a outer named.0))
        (stmt_match y of_statement false a outer named.1)
    stmt_match (tree.while c b) begin listed a outer named =
        front (blocks_of b of_statement outer) (sites c a) (under b a) (expr_none c a) (stmt_match b of_statement false a outer named)
    stmt_match (tree.until b c) begin listed a outer named =
        back (blocks_of b of_statement outer) (under b a) (sites c a) (stmt_match b of_statement false a outer named) (expr_none c a)
    stmt_match (tree.for v x s l b) begin listed a outer named =
        front (blocks_of b of_statement outer) (sites x a ++ sites s a ++ sites l a) (under b a)
        (both_none (sites x a ++ sites s a) (sites l a) (both_none (sites x a) (sites s a) (expr_none x a) (expr_none s a)) (expr_none l a)) (stmt_match b of_statement false a outer named)
    stmt_match (tree.thru e b) begin listed a outer named =
        front (blocks_of b of_statement outer) (sites e a) (under b a) (expr_none e a) (stmt_match b of_statement false a outer named)
    stmt_match (tree.case e ss) begin listed a outer named =
        front (blocks_in_stmts ss outer) (sites e a) (sites_in_stmts blocks ss false a) (expr_none e a) (stmts_match ss false a outer named)
    stmt_match (tree.process (tree.called n es) task) begin listed a outer named = none_match (inside_actuals es (formals_at a n) a) (actuals_none es (formals_at a n) a)
    stmt_match (tree.event act e) begin listed a outer named = tt
    stmt_match (tree.write n spot phrases es) begin listed a outer named = none_match (inside_list es a) (list_none es a)

    stmts_match : (ss : PStmts) (listed : Bool) (a : Surroundings) (outer : List Spot) → StmtsNamed ss → Match (blocks_in_stmts ss outer) (sites_in_stmts blocks ss listed a)
    stmts_match tree.no_stmts listed a outer named = tt
    stmts_match (tree.stmts s ss) listed a outer named =
        match_both (blocks_of s of_statement outer) (blocks_in_stmts ss outer) (inside_stmt blocks s of_statement listed a) (sites_in_stmts blocks ss listed a)
        (stmt_match s of_statement listed a outer named.0) (stmts_match ss listed a outer named.1)

    decls_match : (ds : PDecls) (a : Surroundings) (first : List Declared) (outer : List Spot) → DeclsNamed ds → Match (blocks_in_decls ds outer) (sites_in_decls blocks ds a first)
    decls_match tree.no_decls a first outer named = tt
    decls_match (tree.decls (tree.simple kind ns) ds) a first outer named = decls_match ds (knowing blocks (tree.simple kind ns) ds a) first outer named.1
    decls_match (tree.decls (tree.files ns) ds) a first outer named = decls_match ds (knowing blocks (tree.files ns) ds a) first outer named.1
    decls_match (tree.decls (tree.forward h) ds) a first outer named = decls_match ds (knowing blocks (tree.forward h) ds a) first outer named.1
    decls_match (tree.decls (tree.events ns) ds) a first outer named = decls_match ds (knowing blocks (tree.events ns) ds a) first outer named.1
    decls_match (tree.decls (tree.tasks ns) ds) a first outer named = decls_match ds (knowing blocks (tree.tasks ns) ds a) first outer named.1
    decls_match (tree.decls (tree.labels ns) ds) a first outer named = decls_match ds (knowing blocks (tree.labels ns) ds a) first outer named.1
    decls_match (tree.decls (tree.arrays kind ns pairs) ds) a first outer named =
        let k : Surroundings = knowing blocks (tree.arrays kind ns pairs) ds a in
        front (blocks_in_decls ds outer) (sites_in_pairs pairs (record k { known = first })) (sites_in_decls blocks ds k first) (pairs_none pairs (record k { known = first })) (decls_match ds k first outer named.1)
    -- the segment begins at the declaration
    decls_match (tree.decls (tree.procedure h s) ds) a first outer named =
        let k : Surroundings = knowing blocks (tree.procedure h s) ds a in
        let inner : List Site = inside_stmt blocks s of_procedure false (inside_procedure blocks h k) in
        let later : List Block = blocks_of s of_procedure (h.name.spot ∷ outer) ++ blocks_in_decls ds outer in
        let own : is_procedure (procedure_block h s outer) ≡ true = ap not named.0.0 in
        let rest : Match later (inner ++ sites_in_decls blocks ds k first) =
        match_both (blocks_of s of_procedure (h.name.spot ∷ outer)) (blocks_in_decls ds outer) inner (sites_in_decls blocks ds k first)
        (stmt_match s of_procedure false (inside_procedure blocks h k) (h.name.spot ∷ outer) named.0.1) (decls_match ds k first outer named.1) in
        subst (λ (b : Bool). Pairs (if b then procedure_block h s outer ∷ filter is_procedure later else filter is_procedure later)
        (record { spot = h.name.spot; tokens = heading_tokens h + stmt_tokens s } ∷ segs (inner ++ sites_in_decls blocks ds k first))) (sym own)
        ((head_small h s outer, head_tokens h s outer), rest)

-- the code of each actual has room above the cells of its block
abbrev pub ActualsHaveRoom : PProgram → Type 0
ActualsHaveRoom p =
    (j : ℕ) → j < length (scopes_of p).blocks → (n : ℕ) (a : Actual) → slice_get (actuals_of (scopes_of p) (block_numbered (scopes_of p).blocks j)) n ≡ Some a → depth a.expr ≤ most_around p j

-- ---- by their numbers

picked : (bs : List Block) (ss : List Segment) (k : ℕ) (b : Block) → Pairs bs ss → slice_get bs k ≡ Some b →
    (needs b ≤ 4 * tokens_or_none (slice_get ss k)) × (own_tokens b ≤ tokens_or_none (slice_get ss k))
picked [] ss k b h e = cc
picked (c ∷ bs) [] k b h e = absurd h
picked (c ∷ bs) (s ∷ ss) zero b h e = let same : c ≡ b = cc in subst (λ (x : Block). (needs x ≤ 4 * s.tokens) × (own_tokens x ≤ s.tokens)) same h.0
picked (c ∷ bs) (s ∷ ss) (suc k) b h e = picked bs ss k b h.1 e

-- a procedure's block is the one after as many as stand before it
pub numbered_procedure : (bs : List Block) (j : ℕ) (b : Block) → slice_get bs j ≡ Some b → is_procedure b ≡ true → slice_get (filter is_procedure bs) (procedures_before bs j) ≡ Some b
numbered_procedure [] j b e own = cc
numbered_procedure (c ∷ bs) zero b e own =
    let same : b ≡ c = cc in
    ap (λ (t : Bool). slice_get (if t then c ∷ filter is_procedure bs else filter is_procedure bs) 0) (ap is_procedure (sym same) ∙ own) ∙ e
numbered_procedure (c ∷ bs) (suc j) b e own = by (is_procedure c) (numbered_procedure bs j b e own)
  where
    by : (t : Bool) → slice_get (filter is_procedure bs) (procedures_before bs j) ≡ Some b →
        slice_get (if t then c ∷ filter is_procedure bs else filter is_procedure bs) (length (if t then c ∷ filter is_procedure (take j bs) else filter is_procedure (take j bs))) ≡ Some b
    by true h = h
    by false h = h

-- of the outer block, and of those of procedures
block_fits : (p : PProgram) → HasNames p → (j : ℕ) → j < length (scopes_of p).blocks → (j ≡ 0) ⊎ (is_procedure (block_numbered (scopes_of p).blocks j) ≡ true) →
    (needs (block_numbered (scopes_of p).blocks j) ≤ 4 * tokens_around p j) × (own_tokens (block_numbered (scopes_of p).blocks j) ≤ tokens_around p j)
unfolding scopes_of blocks_of_program
block_fits (tree.program (tree.body spot ds ss)) named j known (inl first) =
    subst
    (λ (k : ℕ). (needs (block_numbered (scopes_of (tree.program (tree.body spot ds ss))).blocks k) ≤ 4 * tokens_around (tree.program (tree.body spot ds ss)) k)
    × (own_tokens (block_numbered (scopes_of (tree.program (tree.body spot ds ss))).blocks k) ≤ tokens_around (tree.program (tree.body spot ds ss)) k)) (sym first)
    (omega (arith, decls_small ds, stmts_small ss), omega arith)
block_fits (tree.program (tree.body spot ds ss)) named j known (inr own) =
    let p : PProgram = tree.program (tree.body spot ds ss) in
    let bs : List Block = blocks_of_program p in
    let all : Match bs (sites_of p) =
    match_both (blocks_in_decls ds (spot ∷ [])) (blocks_in_stmts ss (spot ∷ [])) (sites_in_decls bs ds outermost []) (sites_in_stmts bs ss (has_decls ds) (knowing_all bs ds outermost))
    (decls_match bs ds outermost [] (spot ∷ []) named.0) (stmts_match bs ss (has_decls ds) (knowing_all bs ds outermost) (spot ∷ []) named.1) in
    let there : slice_get bs j ≡ Some (block_numbered bs j) = got_numbered bs j known in
    let number : slice_get (filter is_procedure bs) (procedures_before bs j) ≡ Some (block_numbered bs j) = numbered_procedure bs j (block_numbered bs j) there own in
    let segment : segment_tokens p (if is_procedure (block_numbered bs j) then procedures_before bs j + 1 else segment_among bs (around bs j)) ≡ tokens_or_none (slice_get (segs (sites_of p)) (procedures_before bs j)) =
    ap (λ (t : Bool). segment_tokens p (if t then procedures_before bs j + 1 else segment_among bs (around bs j))) own
    ∙ ap (λ (k : ℕ). segment_tokens p k) (add-one (procedures_before bs j)) in
    subst (λ (n : ℕ). (needs (block_numbered bs j) ≤ 4 * n) × (own_tokens (block_numbered bs j) ≤ n)) (sym segment) (picked (filter is_procedure bs) (segs (sites_of p)) (procedures_before bs j) (block_numbered bs j) all number)

pub block_small : (p : PProgram) → HasNames p → (j : ℕ) → j < length (scopes_of p).blocks → (j ≡ 0) ⊎ (is_procedure (block_numbered (scopes_of p).blocks j) ≡ true) →
    needs (block_numbered (scopes_of p).blocks j) ≤ 4 * tokens_around p j
block_small p named j known own = (block_fits p named j known own).0

-- ---- of each block

-- a block that is no procedure's lies in the segment of the one around it
same_tokens : (p : PProgram) (j k : ℕ) → is_procedure (block_numbered (scopes_of p).blocks j) ≡ false → around (scopes_of p).blocks j ≡ k ∷ around (scopes_of p).blocks k → tokens_around p j ≡ tokens_around p k
same_tokens p j k none around_is =
    let bs : List Block = (scopes_of p).blocks in
    ap (λ (t : Bool). segment_tokens p (if t then procedures_before bs j + 1 else segment_among bs (around bs j))) none ∙ ap (λ (js : List ℕ). segment_tokens p (segment_among bs js)) around_is

program_inside : (p : PProgram) → HasNames p → AreNested (scopes_of p) → (k : ℕ) → suc k < length (scopes_of p).blocks → is_procedure (block_numbered (scopes_of p).blocks (suc k)) ≡ false →
    Inside (scopes_of p).blocks (suc k)
unfolding scopes_of blocks_of_program
program_inside (tree.program b) named nested k known none = blocks_inside (scopes_of (tree.program b)) nested b refl named k known none

module _ (p : PProgram) (named : HasNames p) (nested : AreNested (scopes_of p)) where
  abbrev bs : List Block
  bs = (scopes_of p).blocks

  -- so its tokens are among those of its segment
  fits_below : (m j : ℕ) → j < m → j < length bs → own_tokens (block_numbered bs j) ≤ tokens_around p j
  fits_below zero j low known = absurd (omega (arith, low))
  fits_below (suc m) zero low known = (block_fits p named zero known (inl refl)).1
  fits_below (suc m) (suc k) low known = by (fits_below m) (is_procedure (block_numbered bs (suc k))) refl
    where
      by : ((j : ℕ) → j < m → j < length bs → own_tokens (block_numbered bs j) ≤ tokens_around p j) → (t : Bool) → is_procedure (block_numbered bs (suc k)) ≡ t →
          own_tokens (block_numbered bs (suc k)) ≤ tokens_around p (suc k)
      by before true own = (block_fits p named (suc k) known (inr own)).1
      by before false none =
          let i : Inside bs (suc k) = program_inside p named nested k known none in
          omega (arith, i.fewer, before i.outer (omega (arith, low, i.before)) (omega (arith, known, i.before)), same_tokens p (suc k) i.outer none i.around_is)

  pub own_fits : (j : ℕ) → j < length bs → own_tokens (block_numbered bs j) ≤ tokens_around p j
  own_fits j known = fits_below (suc j) j (omega arith) known

  -- the code of each of its actuals has room above its cells
  pub actuals_fit : ActualsHaveRoom p
  actuals_fit j known n a there =
      omega (
        arith,
        actual_small (scopes_of p) (block_numbered bs j) n a there,
        actuals_are_few (scopes_of p) (block_numbered bs j),
        own_fits j known,
      )
