-- What is around each part of an accepted program.
use Rattle.std.proofs.Common.{◌≡◌, ℕ, ◌<◌, Bool, true, false, List, [], ◌∷◌, ◌++◌, map, length, Some, sym, ap, subst, slice_get}
use Rattle.std.proofs.lemmas.Option.{slice_get_within}
use Rattle.std.specs.List.{AllByRecursion}
use Rattle.algol_tree.specs.declared.token.Spot.{Spot}
use Rattle.algol_tree.specs.Ascending.{IsInOrder}
use Rattle.algol_tree.specs.Blocks.{Block, Begin, of_statement, of_procedure, blocks_of, blocks_in_decls, blocks_in_stmts, blocks_of_program, number_at, around}
use Rattle.algol_tree.specs.Accepted.{Accepted, scope_faults, check_faults, sites_of}
use Rattle.algol_tree.specs.Checks.{wrong_types}
use Rattle.algol_tree.specs.Classes.{Formal}
use Rattle.algol_tree.specs.Names.{unknown_names}
use Rattle.algol_tree.specs.Plain as tree
use Rattle.algol_tree.specs.Plain.{PExpr, PExprs, PPair, PStmt, PStmts, PDecls, PProgram}
use Rattle.algol_tree.specs.Sites.{Site, sites, other_formals, inside_expr, inside_list, inside_actuals, sites_in_pairs, here_stmt, inside_stmt, sites_in_stmts, sites_in_decls, has_decls}
use Rattle.algol_tree.specs.Sorts.{Declared}
use Rattle.algol_tree.specs.Surroundings.{Surroundings, outermost, formals_at, knowing, knowing_all, inside_begin, inside_procedure}
use Rattle.algol_tree.proofs.Trees.{block_is}
use Rattle.b67_list.proofs.Lists.{append_none_left, each_back, each_both, each_front, none_mapped}
use Rattle.b67_fitting.proofs.Headings.{DeclsSpecified, StmtSpecified, StmtsSpecified}
use Rattle.b67_fitting.proofs.HeadingsTyped.{IsTyped, in_decls as specified_decls, in_stmts as specified_stmts}
use Rattle.b67_fitting.proofs.Lists.{nil_each}
use Rattle.b67_fitting.proofs.Numbering.{IsNumbered, all_numbered, number_is}
use Rattle.b67_fitting.proofs.Callees.{IsNamed, AreNamed, AreCallees, are_callees}
use Rattle.b67_fitting.proofs.Surrounded.{IsKnown, IsAround, knows_one, knows_all, enters, enters_procedure}
use Rattle.b67_fitting.proofs.OneBlock.{the_block}
use Rattle.b67_fitting.proofs.Nesting.{blocks_apart, starts}

-- The block of the place has this number, and as many blocks are around it as the depth says. What is known there is of it or of those.
pub record IsSurrounded (blocks : List Block) (a : Surroundings) : Type 0 where
  pub some : a.block < length blocks
  pub deep : length (around blocks a.block) ≡ a.depth
  pub known : AllByRecursion (IsKnown blocks a.block a.depth) a.known

-- ---- expressions

module _ (P : Surroundings → Type 0) (a : Surroundings) (p : P a) where
  abbrev Each : List Site → Type 0
  Each xs = AllByRecursion (λ (x : Site). P x.around) xs

  both : (xs ys : List Site) → Each xs → Each ys → Each (xs ++ ys)
  both xs ys g h = each_both (λ (x : Site). P x.around) xs ys g h

  mutual
    pub in_expr : (e : PExpr) → Each (inside_expr e a)
    in_expr (tree.number z spot) = tt
    in_expr (tree.truth b spot) = tt
    in_expr (tree.variable (tree.subscripted n es)) = in_list es
    in_expr (tree.call (tree.called n es)) = in_actuals es (formals_at a n)
    in_expr (tree.tested x es spot) = tt
    in_expr (tree.paren e spot) = (p, in_expr e)
    in_expr (tree.plus e spot) = (p, in_expr e)
    in_expr (tree.neg e spot) = (p, in_expr e)
    in_expr (tree.not e spot) = (p, in_expr e)
    in_expr (tree.two op x y) = both (sites x a) (sites y a) (p, in_expr x) (p, in_expr y)
    in_expr (tree.if c x y spot) = both (sites c a ++ sites x a) (sites y a) (both (sites c a) (sites x a) (p, in_expr c) (p, in_expr x)) (p, in_expr y)

    pub in_list : (es : PExprs) → Each (inside_list es a)
    in_list tree.none = tt
    in_list (tree.more e es) = both (sites e a) (inside_list es a) (p, in_expr e) (in_list es)

    pub in_actuals : (es : PExprs) (fs : List Formal) → Each (inside_actuals es fs a)
    in_actuals tree.none fs = tt
    in_actuals (tree.more e es) fs = (p, (p, both (inside_expr e a) (inside_actuals es (other_formals fs) a) (in_expr e) (in_actuals es (other_formals fs))))

  in_pairs : (ps : List PPair) → Each (sites_in_pairs ps a)
  in_pairs [] = tt
  in_pairs (q ∷ ps) = (p, both (sites q.high a) (sites_in_pairs ps a) (p, in_expr q.high) (in_pairs ps))

-- ---- declarations and statements

module _ (blocks : List Block) where
  pub surrounded : (j : ℕ) (outer : List Spot) (a : Surroundings) → IsAround blocks j outer a → IsSurrounded blocks a
  surrounded j outer a r =
      let same : j ≡ a.block = sym r.block_is in
      record {
        some = subst (λ (k : ℕ). k < length blocks) same r.some;
        deep = subst (λ (k : ℕ). length (around blocks k) ≡ a.depth) same r.deep;
        known = subst (λ (k : ℕ). AllByRecursion (IsKnown blocks k a.depth) a.known) same r.known;
      }

  abbrev IsPlaced : Site → Type 0
  IsPlaced x = IsSurrounded blocks x.around

  abbrev ArePlaced : List Site → Type 0
  ArePlaced xs = AllByRecursion IsPlaced xs

  joined : (xs ys : List Site) → ArePlaced xs → ArePlaced ys → ArePlaced (xs ++ ys)
  joined xs ys g h = each_both IsPlaced xs ys g h

  abbrev Numbered : List Block → Type 0
  Numbered bs = AllByRecursion (IsNumbered blocks) bs

  abbrev stmt_sites : PStmt → Begin → Bool → Surroundings → List Site
  stmt_sites t begin listed a = here_stmt t listed a ∷ inside_stmt blocks t begin listed a

  in_sites : (a : Surroundings) → IsSurrounded blocks a → (e : PExpr) → ArePlaced (sites e a)
  in_sites a p e = (p, in_expr (IsSurrounded blocks) a p e)

  named_front : (xs ys : List Site) → AreNamed (xs ++ ys) → AreNamed xs
  named_front xs ys k = each_front IsNamed xs ys k

  named_back : (xs ys : List Site) → AreNamed (xs ++ ys) → AreNamed ys
  named_back xs ys k = each_back IsNamed xs ys k

  -- `k`: the names of these parts are known where they stand
  mutual
    in_stmt : (j : ℕ) (outer : List Spot) (a : Surroundings) (t : PStmt) (begin : Begin) (listed : Bool) → IsAround blocks j outer a → StmtSpecified t → AreNamed (inside_stmt blocks t begin listed a) →
        Numbered (blocks_of t begin outer) → ArePlaced (inside_stmt blocks t begin listed a)
    in_stmt j outer a tree.empty g l r b k f = tt
    in_stmt j outer a (tree.label n t) g l r b k f = (surrounded j outer a r, in_stmt j outer a t of_statement l r b k.1 f)
    in_stmt j outer a (tree.assign (tree.subscripted n es) e) g l r b k f =
        let p = surrounded j outer a r in
        joined (inside_list es a) (sites e a) (in_list (IsSurrounded blocks) a p es) (in_sites a p e)
    in_stmt j outer a (tree.call_of (tree.called n es)) g l r b k f = in_actuals (IsSurrounded blocks) a (surrounded j outer a r) es (formals_at a n)
    in_stmt j outer a (tree.go_to n) g l r b k f = tt
    in_stmt j outer a (tree.block (tree.body spot tree.no_decls ss)) of_statement l r b k f = in_stmts j outer a ss false r b.1 k f
    in_stmt j outer a (tree.block (tree.body spot (tree.decls d ds) ss)) of_statement l r b k f =
        let i = number_at blocks spot in
        let inner : List Spot = spot ∷ outer in
        let c : Surroundings = inside_begin blocks (tree.body spot (tree.decls d ds) ss) a in
        let after : Surroundings = knowing_all blocks (tree.decls d ds) c in
        let its = the_block spot outer (tree.decls d ds) ss in
        let declared = sites_in_decls blocks (tree.decls d ds) c c.known in
        let stated = sites_in_stmts blocks ss true after in
        let begun : IsAround blocks i inner c =
        enters blocks j outer spot a (slice_get_within blocks i its f.0) (ap (λ (z : Block). map (number_at blocks) z.outer) (block_is blocks i its f.0)) r in
        let numbered_decls = each_front (IsNumbered blocks) (blocks_in_decls (tree.decls d ds) inner) (blocks_in_stmts ss inner) f.1 in
        let numbered_stmts = each_back (IsNumbered blocks) (blocks_in_decls (tree.decls d ds) inner) (blocks_in_stmts ss inner) f.1 in
        let known = named_front declared stated k in
        let called = are_callees blocks i inner (tree.decls d ds) c c.known begun.chain_is b.0 numbered_decls known in
        joined declared stated (in_decls i inner c (tree.decls d ds) c.known begun begun b.0 called known numbered_decls)
        (in_stmts i inner after ss true (knows_all blocks i inner (tree.decls d ds) c b.0 called begun) b.1 (named_back declared stated k) numbered_stmts)
    in_stmt j outer a (tree.block (tree.body spot ds ss)) of_procedure l r b k f =
        let after : Surroundings = knowing_all blocks ds a in
        let declared = sites_in_decls blocks ds a a.known in
        let stated = sites_in_stmts blocks ss (has_decls ds) after in
        let numbered_decls = each_front (IsNumbered blocks) (blocks_in_decls ds outer) (blocks_in_stmts ss outer) f in
        let numbered_stmts = each_back (IsNumbered blocks) (blocks_in_decls ds outer) (blocks_in_stmts ss outer) f in
        let known = named_front declared stated k in
        let called = are_callees blocks j outer ds a a.known r.chain_is b.0 numbered_decls known in
        joined declared stated (in_decls j outer a ds a.known r r b.0 called known numbered_decls)
        (in_stmts j outer after ss (has_decls ds) (knows_all blocks j outer ds a b.0 called r) b.1 (named_back declared stated k) numbered_stmts)
    in_stmt j outer a (tree.if_then c x) g l r b k f =
        let its = named_back (sites c a) (stmt_sites x of_statement false a) k in
        joined (sites c a) (stmt_sites x of_statement false a) (in_sites a (surrounded j outer a r) c) (surrounded j outer a r, in_stmt j outer a x of_statement false r b its.1 f)
    in_stmt j outer a (tree.if_else c x y) g l r b k f =
        let p = surrounded j outer a r in
        let two = named_front (sites c a ++ stmt_sites x of_statement false a) (stmt_sites y of_statement false a) k in
        let first = named_back (sites c a) (stmt_sites x of_statement false a) two in
        let other = named_back (sites c a ++ stmt_sites x of_statement false a) (stmt_sites y of_statement false a) k in
        joined (sites c a ++ stmt_sites x of_statement false a) (stmt_sites y of_statement false a)
        (joined (sites c a) (stmt_sites x of_statement false a) (in_sites a p c)
        (p, in_stmt j outer a x of_statement false r b.0 first.1 (each_front (IsNumbered blocks) (blocks_of x of_statement outer) (blocks_of y of_statement outer) f)))
        (p, in_stmt j outer a y of_statement false r b.1 other.1 (each_back (IsNumbered blocks) (blocks_of x of_statement outer) (blocks_of y of_statement outer) f))
    in_stmt j outer a (tree.while c x) g l r b k f =
        let its = named_back (sites c a) (stmt_sites x of_statement false a) k in
        joined (sites c a) (stmt_sites x of_statement false a) (in_sites a (surrounded j outer a r) c) (surrounded j outer a r, in_stmt j outer a x of_statement false r b its.1 f)
    in_stmt j outer a (tree.until x c) g l r b k f =
        let its = named_front (stmt_sites x of_statement false a) (sites c a) k in
        joined (stmt_sites x of_statement false a) (sites c a) (surrounded j outer a r, in_stmt j outer a x of_statement false r b its.1 f) (in_sites a (surrounded j outer a r) c)
    in_stmt j outer a (tree.for v x y z t) g l r b k f =
        let p = surrounded j outer a r in
        let its = named_back (sites x a ++ sites y a ++ sites z a) (stmt_sites t of_statement false a) k in
        joined (sites x a ++ sites y a ++ sites z a) (stmt_sites t of_statement false a)
        (joined (sites x a ++ sites y a) (sites z a) (joined (sites x a) (sites y a) (in_sites a p x) (in_sites a p y)) (in_sites a p z)) (p, in_stmt j outer a t of_statement false r b its.1 f)
    in_stmt j outer a (tree.thru e x) g l r b k f =
        let its = named_back (sites e a) (stmt_sites x of_statement false a) k in
        joined (sites e a) (stmt_sites x of_statement false a) (in_sites a (surrounded j outer a r) e) (surrounded j outer a r, in_stmt j outer a x of_statement false r b its.1 f)
    in_stmt j outer a (tree.case e ss) g l r b k f =
        joined (sites e a) (sites_in_stmts blocks ss false a) (in_sites a (surrounded j outer a r) e)
        (in_stmts j outer a ss false r b (named_back (sites e a) (sites_in_stmts blocks ss false a) k) f)
    in_stmt j outer a (tree.process (tree.called n es) task) g l r b k f = in_actuals (IsSurrounded blocks) a (surrounded j outer a r) es (formals_at a n)
    in_stmt j outer a (tree.event act e) g l r b k f = tt
    in_stmt j outer a (tree.write n spot phrases es) g l r b k f = in_list (IsSurrounded blocks) a (surrounded j outer a r) es

    pub in_stmts : (j : ℕ) (outer : List Spot) (a : Surroundings) (ss : PStmts) (listed : Bool) → IsAround blocks j outer a → StmtsSpecified ss → AreNamed (sites_in_stmts blocks ss listed a) →
        Numbered (blocks_in_stmts ss outer) → ArePlaced (sites_in_stmts blocks ss listed a)
    in_stmts j outer a tree.no_stmts l r b k f = tt
    in_stmts j outer a (tree.stmts t ss) l r b k f =
        let its = named_front (stmt_sites t of_statement l a) (sites_in_stmts blocks ss l a) k in
        joined (stmt_sites t of_statement l a) (sites_in_stmts blocks ss l a)
        (surrounded j outer a r, in_stmt j outer a t of_statement l r b.0 its.1 (each_front (IsNumbered blocks) (blocks_of t of_statement outer) (blocks_in_stmts ss outer) f))
        (in_stmts j outer a ss l r b.1 (named_back (stmt_sites t of_statement l a) (sites_in_stmts blocks ss l a) k)
        (each_back (IsNumbered blocks) (blocks_of t of_statement outer) (blocks_in_stmts ss outer) f))

    -- `first`: what is known at the begin of the block, and so in its bounds
    pub in_decls : (j : ℕ) (outer : List Spot) (a : Surroundings) (ds : PDecls) (first : List Declared) → IsAround blocks j outer (record a { known = first }) → IsAround blocks j outer a → DeclsSpecified ds → AreCallees blocks j ds →
        AreNamed (sites_in_decls blocks ds a first) → Numbered (blocks_in_decls ds outer) → ArePlaced (sites_in_decls blocks ds a first)
    in_decls j outer a tree.no_decls first e r b c k f = tt
    in_decls j outer a (tree.decls (tree.simple kind ns) ds) first e r b c k f =
        (surrounded j outer a r, in_decls j outer (knowing blocks (tree.simple kind ns) ds a) ds first e (knows_one blocks j outer (tree.simple kind ns) ds a b.0 c r) b.1 c k.1 f)
    in_decls j outer a (tree.decls (tree.files ns) ds) first e r b c k f =
        (surrounded j outer a r, in_decls j outer (knowing blocks (tree.files ns) ds a) ds first e (knows_one blocks j outer (tree.files ns) ds a b.0 c r) b.1 c k.1 f)
    in_decls j outer a (tree.decls (tree.events ns) ds) first e r b c k f =
        (surrounded j outer a r, in_decls j outer (knowing blocks (tree.events ns) ds a) ds first e (knows_one blocks j outer (tree.events ns) ds a b.0 c r) b.1 c k.1 f)
    in_decls j outer a (tree.decls (tree.tasks ns) ds) first e r b c k f =
        (surrounded j outer a r, in_decls j outer (knowing blocks (tree.tasks ns) ds a) ds first e (knows_one blocks j outer (tree.tasks ns) ds a b.0 c r) b.1 c k.1 f)
    in_decls j outer a (tree.decls (tree.labels ns) ds) first e r b c k f =
        (surrounded j outer a r, in_decls j outer (knowing blocks (tree.labels ns) ds a) ds first e (knows_one blocks j outer (tree.labels ns) ds a b.0 c r) b.1 c k.1 f)
    in_decls j outer a (tree.decls (tree.arrays kind ns pairs) ds) first e r b c k f =
        let after : Surroundings = knowing blocks (tree.arrays kind ns pairs) ds a in
        let at : Surroundings = record a { known = first } in
        let bounds : List Site = sites_in_pairs pairs at in
        let later : List Site = sites_in_decls blocks ds after first in (
          surrounded j outer a r,
          joined bounds later (in_pairs (IsSurrounded blocks) at (surrounded j outer at e) pairs)
              (in_decls j outer after ds first e (knows_one blocks j outer (tree.arrays kind ns pairs) ds a b.0 c r) b.1 c (named_back bounds later k.1) f),
        )
    in_decls j outer a (tree.decls (tree.forward h) ds) first e r b c k f =
        (surrounded j outer a r, in_decls j outer (knowing blocks (tree.forward h) ds a) ds first e (knows_one blocks j outer (tree.forward h) ds a b.0 c r) b.1 c.1 k.1 f)
    in_decls j outer a (tree.decls (tree.procedure h t) ds) first e r b c k f =
        let i = number_at blocks h.name.spot in
        let after : Surroundings = knowing blocks (tree.procedure h t) ds a in
        let known = knows_one blocks j outer (tree.procedure h t) ds a b.0 c r in
        let d : Surroundings = inside_procedure blocks h after in
        let begun : IsAround blocks i (h.name.spot ∷ outer) d = enters_procedure blocks j outer h after c.0 known in
        let its : List Site = stmt_sites t of_procedure false d in
        let later : List Site = sites_in_decls blocks ds after first in
        let named = named_front its later k.1 in (
          surrounded j outer a r,
          joined its later
              (surrounded i (h.name.spot ∷ outer) d begun, in_stmt i (h.name.spot ∷ outer) d t of_procedure false begun b.0.1 named.1 (each_front (IsNumbered blocks) (blocks_of t of_procedure (h.name.spot ∷ outer)) (blocks_in_decls ds outer) f.1))
              (in_decls j outer after ds first e known b.1 c.1 (named_back its later k.1) (each_back (IsNumbered blocks) (blocks_of t of_procedure (h.name.spot ∷ outer)) (blocks_in_decls ds outer) f.1)),
        )

-- ---- the program

-- the names of each part are known where it stands
each_named : (p : PProgram) → Accepted p → AreNamed (sites_of p)
unfolding scope_faults
each_named p accepted = nil_each unknown_names (sites_of p) (none_mapped _ _ (append_none_left _ _ (append_none_left _ _ (append_none_left _ _ (append_none_left _ _ (append_none_left _ _ accepted.scoped))))))

-- no rule of types is broken at a part
each_typed : (p : PProgram) → Accepted p → AllByRecursion (IsTyped (blocks_of_program p)) (sites_of p)
unfolding check_faults
each_typed p accepted = nil_each (wrong_types (blocks_of_program p)) (sites_of p) (none_mapped _ _ (append_none_left _ _ (append_none_left _ _ (append_none_left _ _ (append_none_left _ _ (append_none_left _ _ accepted.checked))))))

pub each_surrounded : (p : PProgram) → Accepted p → IsInOrder p → AllByRecursion (λ (x : Site). IsSurrounded (blocks_of_program p) x.around) (sites_of p)
unfolding blocks_of_program
each_surrounded (tree.program (tree.body spot ds ss)) accepted order =
    let outer = spot ∷ [] in
    let blocks = the_block spot [] ds ss ∷ (blocks_in_decls ds outer ++ blocks_in_stmts ss outer) in
    let first = number_at blocks spot in
    let begun : IsAround blocks first outer outermost = starts spot ds ss order in
    let after : Surroundings = knowing_all blocks ds outermost in
    let declared = sites_in_decls blocks ds outermost [] in
    let stated = sites_in_stmts blocks ss (has_decls ds) after in
    let named : AreNamed (declared ++ stated) = each_named (tree.program (tree.body spot ds ss)) accepted in
    let typed : AllByRecursion (IsTyped blocks) (declared ++ stated) = each_typed (tree.program (tree.body spot ds ss)) accepted in
    let decls_right : DeclsSpecified ds = specified_decls blocks ds outermost [] (each_front (IsTyped blocks) declared stated typed) in
    let stmts_right : StmtsSpecified ss = specified_stmts blocks ss (has_decls ds) after (each_back (IsTyped blocks) declared stated typed) in
    let numbered = all_numbered blocks (blocks_apart spot ds ss order) in
    let numbered_decls = each_front (IsNumbered blocks) (blocks_in_decls ds outer) (blocks_in_stmts ss outer) numbered.1 in
    let numbered_stmts = each_back (IsNumbered blocks) (blocks_in_decls ds outer) (blocks_in_stmts ss outer) numbered.1 in
    let known = each_front IsNamed declared stated named in
    let called = are_callees blocks first outer ds outermost [] begun.chain_is decls_right numbered_decls known in
    joined blocks declared stated (in_decls blocks first outer outermost ds [] begun begun decls_right called known numbered_decls)
    (in_stmts blocks first outer after ss (has_decls ds) (knows_all blocks first outer ds outermost decls_right called begun) stmts_right (each_back IsNamed declared stated named) numbered_stmts)

-- a block has its number by its place
pub each_number : (p : PProgram) → IsInOrder p → (j : ℕ) (b : Block) → slice_get (blocks_of_program p) j ≡ Some b →
    number_at (blocks_of_program p) b.spot ≡ j
unfolding blocks_of_program
each_number (tree.program (tree.body spot ds ss)) order j b h =
    number_is (the_block spot [] ds ss ∷ (blocks_in_decls ds (spot ∷ []) ++ blocks_in_stmts ss (spot ∷ []))) j b (blocks_apart spot ds ss order) h
