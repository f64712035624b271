-- The procedures of a program that is built: their blocks, the segments that begin at the places of the text, and their texts, in the
-- same order.
use Rattle.std.proofs.Common.{arith, ◌≡◌, ℕ, ◌+◌, not, Bool, true, false, List, [], ◌∷◌, ◌++◌, length, filter, Option, refl, sym, ap, ◌∙◌, subst, append-nil, if◌then◌else◌, Some, None}
use Rattle.std.specs.List.{flat_map}
use Rattle.std.proofs.lemmas.Grind.{flat_map-append}
use Rattle.std.proofs.lemmas.List.{length-map}
use Rattle.std.proofs.lemmas.List.Elements.{filter-append}
use Rattle.algol_tree.specs.declared.token.Spot.{Spot}
use Rattle.algol_tree.specs.declared.tree.Heading.{Heading}
use Rattle.algol_tree.specs.declared.tree.Named.{Named}
use Rattle.algol_tree.specs.Accepted.{sites_of}
use Rattle.algol_tree.specs.Blocks.{Block, Begin, of_statement, of_procedure, procedure_block, blocks_of, blocks_in_stmts, blocks_in_decls, blocks_of_program}
use Rattle.algol_tree.specs.Cells.{level_of}
use Rattle.algol_tree.specs.Classes.{Formal}
use Rattle.algol_tree.specs.Counts.{heading_tokens, stmt_tokens}
use Rattle.algol_tree.specs.Names.{Segment, segments_of_part}
use Rattle.algol_tree.specs.Plain as tree
use Rattle.algol_tree.specs.Plain.{PExpr, PExprs, PStmt, PStmts, PDecls, name_alone}
use Rattle.algol_tree.specs.Sites.{Site, name_part, wants_value, actual_part_by, first_formal, other_formals, inside_expr, inside_list, inside_actuals, sites, here_stmt, has_decls, inside_stmt, sites_in_pairs, sites_in_stmts, sites_in_decls}
use Rattle.algol_tree.specs.Sorts.{Declared, parameters_of}
use Rattle.algol_tree.specs.Surroundings.{Surroundings, outermost, formals_at, knowing, knowing_all, inside, inside_procedure}
use Rattle.algol_paths.specs.Segments.{is_procedure}
use Rattle.b67_ops.specs.declared.TheConstants.{OUTER_LEVEL}
use Rattle.b67_emit_text.specs.Texts.{Text, procedure_text, texts_of, texts_in_stmts, texts_in_decls, texts_in_body}
use Rattle.b67_templates.specs.Names.{DeclsNamed, StmtNamed, StmtsNamed, HasNames}
use Rattle.b67_frames.proofs.Segmenting.{pairs_none, both_none}

-- the segments that begin at these places of the text
abbrev pub segs : List Site → List Segment
segs xs = flat_map (λ (x : Site). segments_of_part x.part) xs

-- the text of a block, with so many tokens
abbrev pub text_of : Block → ℕ → Text
text_of b tokens =
    record {
      level = level_of b;
      spot = b.spot;
      name = b.name;
      parameters = length b.parameters;
      result = b.result;
      decls = b.decls;
      stmts = b.stmts;
      tokens = tokens;
    }

pub record IsTextOf (b : Block) (s : Segment) (t : Text) : Type 0 where
  pub place : s.spot ≡ b.spot
  pub is : t ≡ text_of b s.tokens

abbrev pub Triples : List Block → List Segment → List Text → Type 0
Triples [] [] [] = Unit {0}
Triples (b ∷ bs) (s ∷ ss) (t ∷ ts) = IsTextOf b s t × Triples bs ss ts
Triples _ _ _ = ⊥

-- those of the procedures among these blocks, and of the segments that begin at these places
abbrev pub Match : List Block → List Site → List Text → Type 0
Match bs xs ts = Triples (filter is_procedure bs) (segs xs) ts

triples_both : (bs cs : List Block) (ss us : List Segment) (ts vs : List Text) → Triples bs ss ts → Triples cs us vs → Triples (bs ++ cs) (ss ++ us) (ts ++ vs)
triples_both [] cs [] us [] vs h k = k
triples_both [] cs [] us (t ∷ ts) vs h k = absurd h
triples_both [] cs (s ∷ ss) us [] vs h k = absurd h
triples_both [] cs (s ∷ ss) us (t ∷ ts) vs h k = absurd h
triples_both (b ∷ bs) cs [] us [] vs h k = absurd h
triples_both (b ∷ bs) cs [] us (t ∷ ts) vs h k = absurd h
triples_both (b ∷ bs) cs (s ∷ ss) us [] vs h k = absurd h
triples_both (b ∷ bs) cs (s ∷ ss) us (t ∷ ts) vs h k = (h.0, triples_both bs cs ss us ts vs h.1 k)

match_both : (bs cs : List Block) (xs ys : List Site) (ts vs : List Text) → Match bs xs ts → Match cs ys vs → Match (bs ++ cs) (xs ++ ys) (ts ++ vs)
match_both bs cs xs ys ts vs h k =
    subst (λ (zs : List Block). Triples zs (segs (xs ++ ys)) (ts ++ vs)) (sym (filter-append is_procedure bs cs))
    (subst (λ (ss : List Segment). Triples (filter is_procedure bs ++ filter is_procedure cs) ss (ts ++ vs)) (sym (flat_map-append (λ (x : Site). segments_of_part x.part) xs ys))
    (triples_both (filter is_procedure bs) (filter is_procedure cs) (segs xs) (segs ys) ts vs h k))

none_match : (xs : List Site) → segs xs ≡ [] → Match [] xs []
none_match xs e = subst (λ (ss : List Segment). Triples [] ss []) (sym e) tt

-- where places begin no segment
front : (bs : List Block) (xs ys : List Site) (ts : List Text) → segs xs ≡ [] → Match bs ys ts → Match bs (xs ++ ys) ts
front bs xs ys ts e h =
    subst (λ (ss : List Segment). Triples (filter is_procedure bs) ss ts) (sym (flat_map-append (λ (x : Site). segments_of_part x.part) xs ys ∙ ap (λ (ss : List Segment). ss ++ segs ys) e)) h

back : (bs : List Block) (xs ys : List Site) (ts : List Text) → Match bs xs ts → segs ys ≡ [] → Match bs (xs ++ ys) ts
back bs xs ys ts h e =
    subst (λ (ss : List Segment). Triples (filter is_procedure bs) ss ts)
    (sym (flat_map-append (λ (x : Site). segments_of_part x.part) xs ys ∙ ap (λ (ss : List Segment). segs xs ++ ss) e ∙ append-nil (segs xs))) h

-- ---- no segment begins in an expression

name_none : (n : Named) (b : Bool) → segments_of_part (name_part n b) ≡ []
name_none n true = refl
name_none n false = refl

actual_none : (o : Option Named) (e : PExpr) (f : Option Formal) → segments_of_part (actual_part_by o e f) ≡ []
actual_none (Some n) e f = name_none n (wants_value f)
actual_none None e f = refl

mutual
  expr_none : (e : PExpr) (a : Surroundings) → segs (inside_expr e a) ≡ []
  expr_none (tree.number z spot) a = refl
  expr_none (tree.truth b spot) a = refl
  expr_none (tree.variable (tree.subscripted n es)) a = list_none es a
  expr_none (tree.call (tree.called n es)) a = actuals_none es (formals_at a n) a
  expr_none (tree.tested test es spot) a = refl
  expr_none (tree.paren e spot) a = expr_none e a
  expr_none (tree.plus e spot) a = expr_none e a
  expr_none (tree.neg e spot) a = expr_none e a
  expr_none (tree.not e spot) a = expr_none e a
  expr_none (tree.two op x y) a = both_none (inside_expr x a) (sites y a) (expr_none x a) (expr_none y a)
  expr_none (tree.if c x y spot) a =
      both_none (inside_expr c a ++ sites x a) (sites y a) (both_none (inside_expr c a) (sites x a) (expr_none c a) (expr_none x a)) (expr_none y a)

  list_none : (es : PExprs) (a : Surroundings) → segs (inside_list es a) ≡ []
  list_none tree.none a = refl
  list_none (tree.more e es) a = both_none (inside_expr e a) (inside_list es a) (expr_none e a) (list_none es a)

  actuals_none : (es : PExprs) (fs : List Formal) (a : Surroundings) → segs (inside_actuals es fs a) ≡ []
  actuals_none tree.none fs a = refl
  actuals_none (tree.more e es) fs a =
      ap (λ (ss : List Segment). ss ++ segs (inside_expr e a ++ inside_actuals es (other_formals fs) a)) (actual_none (name_alone e) e (first_formal fs))
      ∙ both_none (inside_expr e a) (inside_actuals es (other_formals fs) a) (expr_none e a) (actuals_none es (other_formals fs) a)

-- ---- statements and declarations

-- the text of a procedure is that of its block
same_text : (h : Heading) (s : PStmt) (outer : List Spot) (level : ℕ) → level ≡ length outer + 1 →
    procedure_text (level + 1) h s ≡ text_of (procedure_block h s outer) (heading_tokens h + stmt_tokens s)
same_text h s outer level e =
    let high : level + 1 ≡ length outer + 2 = omega (arith, e) in
    let many : length (parameters_of h) ≡ length h.params = length-map h.params _ in
    let its : ℕ → ℕ → Text = λ at n. record (procedure_text at h s) { parameters = n } in
    ap (λ (at : ℕ). its at (length h.params)) high ∙ ap (its (length outer + 2)) (sym many)

module _ (blocks : List Block) where
  -- a statement, and what stands in it
  abbrev under : PStmt → Surroundings → List Site
  under s a = here_stmt s false a ∷ inside_stmt blocks s of_statement false a

  -- the level is that of what stands in the blocks at these places
  mutual
    stmt_match : (s : PStmt) (begin : Begin) (listed : Bool) (a : Surroundings) (outer : List Spot) (level : ℕ) → level ≡ length outer + 1 → StmtNamed s →
        Match (blocks_of s begin outer) (inside_stmt blocks s begin listed a) (texts_of s begin level)
    stmt_match tree.empty begin listed a outer l e named = tt
    stmt_match (tree.label n s) begin listed a outer l e named = stmt_match s of_statement listed a outer l e named
    stmt_match (tree.assign (tree.subscripted n es) v) begin listed a outer l e named =
        none_match (inside_list es a ++ sites v a) (both_none (inside_list es a) (sites v a) (list_none es a) (expr_none v a))
    stmt_match (tree.call_of (tree.called n es)) begin listed a outer l e named = none_match (inside_actuals es (formals_at a n) a) (actuals_none es (formals_at a n) a)
    stmt_match (tree.go_to n) begin listed a outer l e named = tt
    -- no BEGIN of a statement has a name
    stmt_match (tree.block (tree.body spot tree.no_decls ss)) of_statement listed a outer l e named =
        stmts_match ss false (inside blocks of_statement (tree.body spot tree.no_decls ss) a) outer l e named.1
    stmt_match (tree.block (tree.body spot tree.no_decls ss)) of_procedure listed a outer l e named =
        stmts_match ss false (inside blocks of_procedure (tree.body spot tree.no_decls ss) a) outer l e named.1
    stmt_match (tree.block (tree.body spot (tree.decls d ds) ss)) of_statement listed a outer l e named =
        let i : Surroundings = inside blocks of_statement (tree.body spot (tree.decls d ds) ss) a in
        let e' : l + 1 ≡ length (spot ∷ outer) + 1 = omega (arith, e) in
        match_both (blocks_in_decls (tree.decls d ds) (spot ∷ outer)) (blocks_in_stmts ss (spot ∷ outer)) (sites_in_decls blocks (tree.decls d ds) i i.known) (sites_in_stmts blocks ss true (knowing_all blocks (tree.decls d ds) i))
        (texts_in_decls (tree.decls d ds) (l + 1)) (texts_in_stmts ss (l + 1))
        (decls_match (tree.decls d ds) i i.known (spot ∷ outer) (l + 1) e' named.0) (stmts_match ss true (knowing_all blocks (tree.decls d ds) i) (spot ∷ outer) (l + 1) e' named.1)
    stmt_match (tree.block (tree.body spot (tree.decls d ds) ss)) of_procedure listed a outer l e named =
        let i : Surroundings = inside blocks of_procedure (tree.body spot (tree.decls d ds) ss) a in
        match_both (blocks_in_decls (tree.decls d ds) outer) (blocks_in_stmts ss outer) (sites_in_decls blocks (tree.decls d ds) i i.known) (sites_in_stmts blocks ss true (knowing_all blocks (tree.decls d ds) i))
        (texts_in_decls (tree.decls d ds) l) (texts_in_stmts ss l)
        (decls_match (tree.decls d ds) i i.known outer l e named.0) (stmts_match ss true (knowing_all blocks (tree.decls d ds) i) outer l e named.1)
    stmt_match (tree.if_then c x) begin listed a outer l e named =
        front (blocks_of x of_statement outer) (sites c a) (under x a) (texts_of x of_statement l) (expr_none c a) (stmt_match x of_statement false a outer l e named)
    stmt_match (tree.if_else c x y) begin listed a outer l e named =
        match_both (blocks_of x of_statement outer) (blocks_of y of_statement outer) (sites c a ++ under x a) (under y a) (texts_of x of_statement l) (texts_of y of_statement l)
        (front (blocks_of x of_statement outer) (sites c a) (under x a) (texts_of x of_statement l) (expr_none c a) (stmt_match x of_statement false a outer l e named.0))
        (stmt_match y of_statement false a outer l e named.1)
    stmt_match (tree.while c b) begin listed a outer l e named =
        front (blocks_of b of_statement outer) (sites c a) (under b a) (texts_of b of_statement l) (expr_none c a) (stmt_match b of_statement false a outer l e named)
    stmt_match (tree.until b c) begin listed a outer l e named =
        back (blocks_of b of_statement outer) (under b a) (sites c a) (texts_of b of_statement l) (stmt_match b of_statement false a outer l e named) (expr_none c a)
    stmt_match (tree.for v x s m b) begin listed a outer l e named =
        front (blocks_of b of_statement outer) (sites x a ++ sites s a ++ sites m a) (under b a) (texts_of b of_statement l)
        (both_none (sites x a ++ sites s a) (sites m a) (both_none (sites x a) (sites s a) (expr_none x a) (expr_none s a)) (expr_none m a))
        (stmt_match b of_statement false a outer l e named)
    stmt_match (tree.thru n b) begin listed a outer l e named =
        front (blocks_of b of_statement outer) (sites n a) (under b a) (texts_of b of_statement l) (expr_none n a) (stmt_match b of_statement false a outer l e named)
    stmt_match (tree.case n ss) begin listed a outer l e named =
        front (blocks_in_stmts ss outer) (sites n a) (sites_in_stmts blocks ss false a) (texts_in_stmts ss l) (expr_none n a) (stmts_match ss false a outer l e named)
    stmt_match (tree.process (tree.called n es) task) begin listed a outer l e named = none_match (inside_actuals es (formals_at a n) a) (actuals_none es (formals_at a n) a)
    stmt_match (tree.event act v) begin listed a outer l e named = tt
    stmt_match (tree.write n spot phrases es) begin listed a outer l e named = none_match (inside_list es a) (list_none es a)

    stmts_match : (ss : PStmts) (listed : Bool) (a : Surroundings) (outer : List Spot) (level : ℕ) → level ≡ length outer + 1 → StmtsNamed ss →
        Match (blocks_in_stmts ss outer) (sites_in_stmts blocks ss listed a) (texts_in_stmts ss level)
    stmts_match tree.no_stmts listed a outer l e named = tt
    stmts_match (tree.stmts s ss) listed a outer l e named =
        match_both (blocks_of s of_statement outer) (blocks_in_stmts ss outer) (inside_stmt blocks s of_statement listed a) (sites_in_stmts blocks ss listed a)
        (texts_of s of_statement l) (texts_in_stmts ss l) (stmt_match s of_statement listed a outer l e named.0) (stmts_match ss listed a outer l e named.1)

    decls_match : (ds : PDecls) (a : Surroundings) (first : List Declared) (outer : List Spot) (level : ℕ) → level ≡ length outer + 1 → DeclsNamed ds →
        Match (blocks_in_decls ds outer) (sites_in_decls blocks ds a first) (texts_in_decls ds level)
    decls_match tree.no_decls a first outer l e named = tt
    decls_match (tree.decls (tree.simple kind ns) ds) a first outer l e named = decls_match ds (knowing blocks (tree.simple kind ns) ds a) first outer l e named.1
    decls_match (tree.decls (tree.files ns) ds) a first outer l e named = decls_match ds (knowing blocks (tree.files ns) ds a) first outer l e named.1
    decls_match (tree.decls (tree.forward h) ds) a first outer l e named = decls_match ds (knowing blocks (tree.forward h) ds a) first outer l e named.1
    decls_match (tree.decls (tree.events ns) ds) a first outer l e named = decls_match ds (knowing blocks (tree.events ns) ds a) first outer l e named.1
    decls_match (tree.decls (tree.tasks ns) ds) a first outer l e named = decls_match ds (knowing blocks (tree.tasks ns) ds a) first outer l e named.1
    decls_match (tree.decls (tree.labels ns) ds) a first outer l e named = decls_match ds (knowing blocks (tree.labels ns) ds a) first outer l e named.1
    -- the bounds see what is known at the block's begin
    decls_match (tree.decls (tree.arrays kind ns pairs) ds) a first outer l e named =
        let k : Surroundings = knowing blocks (tree.arrays kind ns pairs) ds a in
        let begin : Surroundings = record k { known = first } in
        front (blocks_in_decls ds outer) (sites_in_pairs pairs begin) (sites_in_decls blocks ds k first) (texts_in_decls ds l) (pairs_none pairs begin)
        (decls_match ds k first outer l e named.1)
    -- the segment begins at the declaration
    decls_match (tree.decls (tree.procedure h s) ds) a first outer l e named =
        let k : Surroundings = knowing blocks (tree.procedure h s) ds a in
        let inner : List Site = inside_stmt blocks s of_procedure false (inside_procedure blocks h k) in
        let later : List Block = blocks_of s of_procedure (h.name.spot ∷ outer) ++ blocks_in_decls ds outer in
        let own : is_procedure (procedure_block h s outer) ≡ true = ap not named.0.0 in
        let tokens : ℕ = heading_tokens h + stmt_tokens s in
        let rest : Match later (inner ++ sites_in_decls blocks ds k first) (texts_of s of_procedure (l + 1) ++ texts_in_decls ds l) =
        match_both (blocks_of s of_procedure (h.name.spot ∷ outer)) (blocks_in_decls ds outer) inner (sites_in_decls blocks ds k first)
        (texts_of s of_procedure (l + 1)) (texts_in_decls ds l)
        (stmt_match s of_procedure false (inside_procedure blocks h k) (h.name.spot ∷ outer) (l + 1) (omega (arith, e)) named.0.1) (decls_match ds k first outer l e named.1) in
        let first_text : Text = procedure_text (l + 1) h s in
        let this : IsTextOf (procedure_block h s outer) (record { spot = h.name.spot; tokens = tokens }) first_text = record {
          place = refl;
          is = same_text h s outer l e;
        } in
        subst (λ (b : Bool). Triples (if b then procedure_block h s outer ∷ filter is_procedure later else filter is_procedure later)
        (record { spot = h.name.spot; tokens = tokens } ∷ segs (inner ++ sites_in_decls blocks ds k first)) (first_text ∷ (texts_of s of_procedure (l + 1) ++ texts_in_decls ds l))) (sym own)
        (this, rest)

-- of the whole program, whose outer block is that of no procedure
pub all_match : (spot : Spot) (ds : PDecls) (ss : PStmts) → HasNames (tree.program (tree.body spot ds ss)) →
    Match (blocks_of_program (tree.program (tree.body spot ds ss))) (sites_of (tree.program (tree.body spot ds ss))) (texts_in_body (tree.body spot ds ss) OUTER_LEVEL)
unfolding blocks_of_program
all_match spot ds ss named =
    let bs = blocks_of_program (tree.program (tree.body spot ds ss)) in
    let outer = spot ∷ [] in
    let around = knowing_all bs ds outermost in
    match_both (blocks_in_decls ds outer) (blocks_in_stmts ss outer) (sites_in_decls bs ds outermost []) (sites_in_stmts bs ss (has_decls ds) around)
    (texts_in_decls ds OUTER_LEVEL) (texts_in_stmts ss OUTER_LEVEL)
    (decls_match bs ds outermost [] outer OUTER_LEVEL refl named.0) (stmts_match bs ss (has_decls ds) around outer OUTER_LEVEL refl named.1)
