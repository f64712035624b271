-- Each part of a tree stands in a block of the program that is as deep as it says, and so do the declarations that are known there.
use Rattle.std.proofs.Common.{◌≡◌, ℕ, ◌+◌, Bool, true, false, List, [], ◌∷◌, ◌++◌, length, Option, Some, None, refl, ap, sym, ◌∙◌, subst, arith, append_assoc, length-append, slice_get}
use Rattle.algol_tree.specs.declared.token.Spot.{Spot}
use Rattle.algol_tree.specs.declared.tree.Named.{Named}
use Rattle.algol_tree.specs.declared.tree.Heading.{Heading}
use Rattle.algol_tree.specs.Plain as tree
use Rattle.algol_tree.specs.Plain.{PExpr, PExprs, PPair, PStmt, PStmts, PDecl, PDecls, PBody, PProgram, name_alone}
use Rattle.algol_tree.specs.Classes.{Class, Formal}
use Rattle.algol_tree.specs.Sorts.{Declared, Sort, declare, declared_parameters}
use Rattle.algol_tree.specs.Blocks.{Block, Begin, of_statement, of_procedure, own_block, own_outer, blocks_of, blocks_in_stmts, blocks_in_decl, blocks_in_decls, blocks_in_body, blocks_of_program, number_at, outer_block, procedure_block}
use Rattle.algol_tree.specs.Surroundings.{Surroundings, outermost, formals_at, made_known, knowing, knowing_all, inside_begin, inside_procedure}
use Rattle.algol_tree.specs.Sites as site
use Rattle.algol_tree.specs.Sites.{Part, Site, here, actual_part_by, name_part, wants_value, first_formal, other_formals, inside_expr, inside_list, inside_actuals, sites, sites_in_pairs, here_stmt, inside_stmt, inside_decl, sites_in_stmts, sites_in_decls, sites_in_body, has_decls}
use Rattle.algol_tree.specs.Cells.{level_at}
use Rattle.algol_tree.specs.Couples.{level_if}
use Rattle.algol_tree.specs.Accepted.{sites_of}
use Rattle.algol_tree.specs.Ascending.{IsInOrder}
use Rattle.algol_scope.specs.Stating.{AreNumbered}
use Rattle.algol_scope.proofs.Numbering.{in_order, at_length}

-- the block with that number has so many blocks around it
abbrev pub IsAt : List Block → ℕ → ℕ → Type 0
IsAt blocks number depth = level_if (slice_get blocks number) ≡ Some (level_at depth)

module _ (blocks : List Block) where
  abbrev pub AllAt : List Declared → Type 0
  AllAt [] = Unit {0}
  AllAt (d ∷ ds) = IsAt blocks d.block d.depth × AllAt ds

  pub record Stands (a : Surroundings) : Type 0 where
    pub here : IsAt blocks a.block a.depth
    pub known : AllAt a.known

  -- the block that a declaration begins
  abbrev pub HasBlock : Part → Surroundings → Type 0
  HasBlock (site.declaration (tree.procedure h s) later) a = IsAt blocks (number_at blocks h.name.spot) (a.depth + 1)
  HasBlock _ a = Unit {0}

  pub record IsPlaced (x : Site) : Type 0 where
    pub stands : Stands x.around
    pub block : HasBlock x.part x.around

  abbrev pub Each : List Site → Type 0
  Each [] = Unit {0}
  Each (x ∷ xs) = IsPlaced x × Each xs

  each_append : (xs ys : List Site) → Each xs → Each ys → Each (xs ++ ys)
  each_append [] ys h k = k
  each_append (x ∷ xs) ys h k = (h.0, each_append xs ys h.1 k)

  all_append : (ds es : List Declared) → AllAt ds → AllAt es → AllAt (ds ++ es)
  all_append [] es h k = k
  all_append (d ∷ ds) es h k = (h.0, all_append ds es h.1 k)

  -- ---- expressions

  module _ (a : Surroundings) (s : Stands a) where
    of_name : (n : Named) (value : Bool) → HasBlock (name_part n value) a
    of_name n true = tt
    of_name n false = tt

    of_actual : (o : Option Named) (e : PExpr) (f : Option Formal) → HasBlock (actual_part_by o e f) a
    of_actual (Some n) e f = of_name n (wants_value f)
    of_actual None e f = tt

    at_expr : (e : PExpr) → IsPlaced (here e a)
    at_expr e = record { stands = s; block = tt }

    mutual
      in_expr : (e : PExpr) → Each (inside_expr e a)
      in_expr (tree.number z spot) = tt
      in_expr (tree.truth z spot) = tt
      in_expr (tree.variable (tree.subscripted n es)) = in_list es
      in_expr (tree.call (tree.called n es)) = in_actuals es (formals_at a n)
      in_expr (tree.tested test es spot) = tt
      in_expr (tree.paren e spot) = (at_expr e, in_expr e)
      in_expr (tree.plus e spot) = (at_expr e, in_expr e)
      in_expr (tree.neg e spot) = (at_expr e, in_expr e)
      in_expr (tree.not e spot) = (at_expr e, in_expr e)
      in_expr (tree.two op x y) = each_append (sites x a) (sites y a) (at_expr x, in_expr x) (at_expr y, in_expr y)
      in_expr (tree.if c x y spot) =
          each_append (sites c a ++ sites x a) (sites y a) (each_append (sites c a) (sites x a) (at_expr c, in_expr c) (at_expr x, in_expr x))
          (at_expr y, in_expr y)

      in_list : (es : PExprs) → Each (inside_list es a)
      in_list tree.none = tt
      in_list (tree.more e es) = each_append (sites e a) (inside_list es a) (at_expr e, in_expr e) (in_list es)

      in_actuals : (es : PExprs) (fs : List Formal) → Each (inside_actuals es fs a)
      in_actuals tree.none fs = tt
      in_actuals (tree.more e es) fs = (
        record { stands = s; block = tt },
        (
          record { stands = s; block = of_actual (name_alone e) e (first_formal fs) },
          each_append (inside_expr e a) (inside_actuals es (other_formals fs) a) (in_expr e) (in_actuals es (other_formals fs)),
        ),
      )

    in_sites : (e : PExpr) → Each (sites e a)
    in_sites e = (at_expr e, in_expr e)

    in_pairs : (ps : List PPair) → Each (sites_in_pairs ps a)
    in_pairs [] = tt
    in_pairs (p ∷ ps) = (record { stands = s; block = tt }, each_append (sites p.high a) (sites_in_pairs ps a) (in_sites p.high) (in_pairs ps))

    at_stmt : (t : PStmt) (listed : Bool) → IsPlaced (here_stmt t listed a)
    at_stmt t listed = record { stands = s; block = tt }

  -- ---- declarations

  declared_at : (block depth : ℕ) (sort : Sort) (c : Class) (ns : List Named) → IsAt blocks block depth → AllAt (declare block depth sort c ns)
  declared_at block depth sort c [] h = tt
  declared_at block depth sort c (n ∷ ns) h = (h, declared_at block depth sort c ns h)

  parameters_at : (block depth : ℕ) (h : Heading) (ns : List Named) → IsAt blocks block depth → AllAt (declared_parameters block depth (record h { params = ns }))
  parameters_at block depth h [] at = tt
  parameters_at block depth h (n ∷ ns) at = (at, parameters_at block depth h ns at)

  made_at : (d : PDecl) (later : PDecls) (a : Surroundings) → IsAt blocks a.block a.depth → AllAt (made_known blocks d later a)
  made_at (tree.simple kind ns) later a h = declared_at a.block a.depth _ _ ns h
  made_at (tree.files ns) later a h = declared_at a.block a.depth _ _ ns h
  made_at (tree.events ns) later a h = declared_at a.block a.depth _ _ ns h
  made_at (tree.tasks ns) later a h = declared_at a.block a.depth _ _ ns h
  made_at (tree.labels ns) later a h = declared_at a.block a.depth _ _ ns h
  made_at (tree.arrays kind ns pairs) later a h = declared_at a.block a.depth _ _ ns h
  made_at (tree.forward g) later a h = (h, tt)
  made_at (tree.procedure g s) later a h = (h, tt)

  pub knows : (d : PDecl) (later : PDecls) (a : Surroundings) → Stands a → Stands (knowing blocks d later a)
  knows d later a s = record { here = s.here; known = all_append (made_known blocks d later a) a.known (made_at d later a s.here) s.known }

  pub enters : (h : Heading) (a : Surroundings) → Stands a → IsAt blocks (number_at blocks h.name.spot) (a.depth + 1) → Stands (inside_procedure blocks h a)
  enters h a s at =
      record {
        here = at;
        known =
            all_append (declared_parameters (number_at blocks h.name.spot) (a.depth + 1) h) a.known
            (parameters_at (number_at blocks h.name.spot) (a.depth + 1) h h.params at) s.known;
      }

  -- ---- blocks

  -- the block is the one that its place has
  abbrev IsFound : Block → Type 0
  IsFound b = slice_get blocks (number_at blocks b.spot) ≡ Some b

  abbrev AreFound : List Block → Type 0
  AreFound [] = Unit {0}
  AreFound (b ∷ bs) = IsFound b × AreFound bs

  found_first : (bs cs : List Block) → AreFound (bs ++ cs) → AreFound bs
  found_first [] cs h = tt
  found_first (b ∷ bs) cs h = (h.0, found_first bs cs h.1)

  found_last : (bs cs : List Block) → AreFound (bs ++ cs) → AreFound cs
  found_last [] cs h = h
  found_last (b ∷ bs) cs h = found_last bs cs h.1

  -- a block begins inside these surroundings
  begins_at : (b : Block) (depth : ℕ) → IsFound b → length b.outer ≡ depth + 1 → IsAt blocks (number_at blocks b.spot) (depth + 1)
  begins_at b depth h e = ap level_if h ∙ ap (λ n. Some (level_at n)) e

  begun : (spot : Spot) (a : Surroundings) → Stands a → IsAt blocks (number_at blocks spot) (a.depth + 1) →
      Stands (record { block = number_at blocks spot; depth = a.depth + 1; known = a.known })
  begun spot a s at = record { here = at; known = s.known }

  one_more : (spot : Spot) (outer : List Spot) (depth : ℕ) → length outer ≡ depth + 1 → length (spot ∷ outer) ≡ (depth + 1) + 1
  one_more spot outer depth e = omega (arith, e)

  -- ---- statements and declarations

  pub knows_all : (ds : PDecls) (a : Surroundings) → Stands a → Stands (knowing_all blocks ds a)
  knows_all tree.no_decls a s = s
  knows_all (tree.decls d ds) a s = knows_all ds (knowing blocks d ds a) (knows d ds a s)

  as_deep : (ds : PDecls) (a : Surroundings) → (knowing_all blocks ds a).depth ≡ a.depth
  as_deep tree.no_decls a = refl
  as_deep (tree.decls d ds) a = as_deep ds (knowing blocks d ds a)

  deep_behind : (ds : PDecls) (a : Surroundings) (outer : List Spot) → length outer ≡ a.depth + 1 → length outer ≡ (knowing_all blocks ds a).depth + 1
  deep_behind ds a outer e = e ∙ ap (λ z. z + 1) (sym (as_deep ds a))

  its_block : (d : PDecl) (later : PDecls) (outer : List Spot) (a : Surroundings) → length outer ≡ a.depth + 1 → AreFound (blocks_in_decl d outer) →
      HasBlock (site.declaration d later) a
  its_block (tree.simple kind ns) later outer a e f = tt
  its_block (tree.files ns) later outer a e f = tt
  its_block (tree.events ns) later outer a e f = tt
  its_block (tree.tasks ns) later outer a e f = tt
  its_block (tree.labels ns) later outer a e f = tt
  its_block (tree.arrays kind ns pairs) later outer a e f = tt
  its_block (tree.forward h) later outer a e f = tt
  its_block (tree.procedure h s) later outer a e f = begins_at (procedure_block h s outer) a.depth f.0 e

  one_declaration : (d : PDecl) (ds : PDecls) (outer : List Spot) (a : Surroundings) (first : List Declared) → Stands a → length outer ≡ a.depth + 1 →
      AreFound (blocks_in_decl d outer) → Each (inside_decl blocks d (knowing blocks d ds a) first) →
      Each (sites_in_decls blocks ds (knowing blocks d ds a) first) → Each (sites_in_decls blocks (tree.decls d ds) a first)
  one_declaration d ds outer a first st e f h k = (
    record { stands = st; block = its_block d ds outer a e f },
    each_append (inside_decl blocks d (knowing blocks d ds a) first) (sites_in_decls blocks ds (knowing blocks d ds a) first) h k,
  )

  mutual
    in_stmt : (s : PStmt) (begin : Begin) (listed : Bool) (outer : List Spot) (a : Surroundings) → Stands a → length outer ≡ a.depth + 1 →
        AreFound (blocks_of s begin outer) → Each (inside_stmt blocks s begin listed a)
    in_stmt tree.empty begin listed outer a st e f = tt
    in_stmt (tree.label n s) begin listed outer a st e f = (at_stmt a st s listed, in_stmt s of_statement listed outer a st e f)
    in_stmt (tree.assign (tree.subscripted n es) x) begin listed outer a st e f =
        each_append (inside_list es a) (sites x a) (in_list a st es) (in_sites a st x)
    in_stmt (tree.call_of (tree.called n es)) begin listed outer a st e f = in_actuals a st es (formals_at a n)
    in_stmt (tree.go_to n) begin listed outer a st e f = tt
    in_stmt (tree.block b) of_statement listed outer a st e f = in_begin b outer a st e f
    in_stmt (tree.block b) of_procedure listed outer a st e f = in_body b outer a st e f
    in_stmt (tree.if_then c x) begin listed outer a st e f =
        each_append (sites c a) (here_stmt x false a ∷ inside_stmt blocks x of_statement false a) (in_sites a st c)
        (at_stmt a st x false, in_stmt x of_statement false outer a st e f)
    in_stmt (tree.if_else c x y) begin listed outer a st e f =
        let xs : List Site = here_stmt x false a ∷ inside_stmt blocks x of_statement false a in
        each_append (sites c a ++ xs) (here_stmt y false a ∷ inside_stmt blocks y of_statement false a)
        (each_append (sites c a) xs (in_sites a st c)
        (at_stmt a st x false, in_stmt x of_statement false outer a st e (found_first (blocks_of x of_statement outer) (blocks_of y of_statement outer) f)))
        (at_stmt a st y false, in_stmt y of_statement false outer a st e (found_last (blocks_of x of_statement outer) (blocks_of y of_statement outer) f))
    in_stmt (tree.while c b) begin listed outer a st e f =
        each_append (sites c a) (here_stmt b false a ∷ inside_stmt blocks b of_statement false a) (in_sites a st c)
        (at_stmt a st b false, in_stmt b of_statement false outer a st e f)
    in_stmt (tree.until b c) begin listed outer a st e f =
        each_append (here_stmt b false a ∷ inside_stmt blocks b of_statement false a) (sites c a)
        (at_stmt a st b false, in_stmt b of_statement false outer a st e f) (in_sites a st c)
    in_stmt (tree.for v x y z b) begin listed outer a st e f =
        each_append ((sites x a ++ sites y a) ++ sites z a) (here_stmt b false a ∷ inside_stmt blocks b of_statement false a)
        (each_append (sites x a ++ sites y a) (sites z a) (each_append (sites x a) (sites y a) (in_sites a st x) (in_sites a st y)) (in_sites a st z))
        (at_stmt a st b false, in_stmt b of_statement false outer a st e f)
    in_stmt (tree.thru x b) begin listed outer a st e f =
        each_append (sites x a) (here_stmt b false a ∷ inside_stmt blocks b of_statement false a) (in_sites a st x)
        (at_stmt a st b false, in_stmt b of_statement false outer a st e f)
    in_stmt (tree.case x ss) begin listed outer a st e f =
        each_append (sites x a) (sites_in_stmts blocks ss false a) (in_sites a st x) (in_stmts ss false outer a st e f)
    in_stmt (tree.process (tree.called n es) task) begin listed outer a st e f = in_actuals a st es (formals_at a n)
    in_stmt (tree.event act x) begin listed outer a st e f = tt
    in_stmt (tree.write n spot phrases es) begin listed outer a st e f = in_list a st es

    in_begin : (b : PBody) (outer : List Spot) (a : Surroundings) → Stands a → length outer ≡ a.depth + 1 →
        AreFound (own_block b outer ++ blocks_in_body b (own_outer b outer)) → Each (sites_in_body blocks b (inside_begin blocks b a))
    in_begin (tree.body spot tree.no_decls ss) outer a st e f = in_stmts ss false outer a st e f
    in_begin (tree.body spot (tree.decls d ds) ss) outer a st e f =
        let b : Block = record { spot = spot; outer = outer; name = []; parameters = []; result = None; decls = tree.decls d ds; stmts = ss } in
        let c : Surroundings = record { block = number_at blocks spot; depth = a.depth + 1; known = a.known } in
        let sc : Stands c = begun spot a st (begins_at b a.depth f.0 e) in
        let inner : List Spot = spot ∷ outer in
        let deep : length inner ≡ c.depth + 1 = one_more spot outer a.depth e in
        let k : Surroundings = knowing blocks d ds c in
        let fd : AreFound (blocks_in_decl d inner ++ blocks_in_decls ds inner) =
        found_first (blocks_in_decl d inner ++ blocks_in_decls ds inner) (blocks_in_stmts ss inner) f.1 in
        let fs : AreFound (blocks_in_stmts ss inner) =
        found_last (blocks_in_decl d inner ++ blocks_in_decls ds inner) (blocks_in_stmts ss inner) f.1 in
        each_append (sites_in_decls blocks (tree.decls d ds) c c.known) (sites_in_stmts blocks ss true (knowing_all blocks ds k))
        (one_declaration d ds inner c c.known sc deep (found_first (blocks_in_decl d inner) (blocks_in_decls ds inner) fd)
        (in_decl d inner k c.known (knows d ds c sc) sc.known deep (found_first (blocks_in_decl d inner) (blocks_in_decls ds inner) fd))
        (in_decls ds inner k c.known (knows d ds c sc) sc.known deep (found_last (blocks_in_decl d inner) (blocks_in_decls ds inner) fd)))
        (in_stmts ss true inner (knowing_all blocks ds k) (knows_all ds k (knows d ds c sc)) (deep_behind ds k inner deep) fs)

    in_body : (b : PBody) (outer : List Spot) (a : Surroundings) → Stands a → length outer ≡ a.depth + 1 → AreFound (blocks_in_body b outer) →
        Each (sites_in_body blocks b a)
    in_body (tree.body spot ds ss) outer a st e f =
        each_append (sites_in_decls blocks ds a a.known) (sites_in_stmts blocks ss (has_decls ds) (knowing_all blocks ds a))
        (in_decls ds outer a a.known st st.known e (found_first (blocks_in_decls ds outer) (blocks_in_stmts ss outer) f))
        (in_stmts ss (has_decls ds) outer (knowing_all blocks ds a) (knows_all ds a st) (deep_behind ds a outer e)
        (found_last (blocks_in_decls ds outer) (blocks_in_stmts ss outer) f))

    in_stmts : (ss : PStmts) (listed : Bool) (outer : List Spot) (a : Surroundings) → Stands a → length outer ≡ a.depth + 1 →
        AreFound (blocks_in_stmts ss outer) → Each (sites_in_stmts blocks ss listed a)
    in_stmts tree.no_stmts listed outer a st e f = tt
    in_stmts (tree.stmts s ss) listed outer a st e f = (
      at_stmt a st s listed,
      each_append (inside_stmt blocks s of_statement listed a) (sites_in_stmts blocks ss listed a)
          (in_stmt s of_statement listed outer a st e (found_first (blocks_of s of_statement outer) (blocks_in_stmts ss outer) f))
          (in_stmts ss listed outer a st e (found_last (blocks_of s of_statement outer) (blocks_in_stmts ss outer) f)),
    )

    in_decls : (ds : PDecls) (outer : List Spot) (a : Surroundings) (first : List Declared) → Stands a → AllAt first → length outer ≡ a.depth + 1 →
        AreFound (blocks_in_decls ds outer) → Each (sites_in_decls blocks ds a first)
    in_decls tree.no_decls outer a first st k e f = tt
    in_decls (tree.decls d ds) outer a first st k e f =
        let fd : AreFound (blocks_in_decl d outer) = found_first (blocks_in_decl d outer) (blocks_in_decls ds outer) f in
        one_declaration d ds outer a first st e fd (in_decl d outer (knowing blocks d ds a) first (knows d ds a st) k e fd)
        (in_decls ds outer (knowing blocks d ds a) first (knows d ds a st) k e (found_last (blocks_in_decl d outer) (blocks_in_decls ds outer) f))

    -- the place is after the declaration
    in_decl : (d : PDecl) (outer : List Spot) (a : Surroundings) (first : List Declared) → Stands a → AllAt first → length outer ≡ a.depth + 1 →
        AreFound (blocks_in_decl d outer) → Each (inside_decl blocks d a first)
    in_decl (tree.simple kind ns) outer a first st k e f = tt
    in_decl (tree.files ns) outer a first st k e f = tt
    in_decl (tree.events ns) outer a first st k e f = tt
    in_decl (tree.tasks ns) outer a first st k e f = tt
    in_decl (tree.labels ns) outer a first st k e f = tt
    in_decl (tree.arrays kind ns pairs) outer a first st k e f = in_pairs (record a { known = first }) (record { here = st.here; known = k }) pairs
    in_decl (tree.forward h) outer a first st k e f = tt
    in_decl (tree.procedure h s) outer a first st k e f =
        let inner : Surroundings = inside_procedure blocks h a in
        let si : Stands inner = enters h a st (begins_at (procedure_block h s outer) a.depth f.0 e) in
        (at_stmt inner si s false, in_stmt s of_procedure false (h.name.spot ∷ outer) inner si (one_more h.name.spot outer a.depth e) f.1)

-- ---- the whole program

found : (pre suf : List Block) → AreNumbered (pre ++ suf) (length pre) suf → AreFound (pre ++ suf) suf
found pre [] h = tt
found pre (b ∷ suf) h =
    let e : (pre ++ b ∷ []) ++ suf ≡ pre ++ b ∷ suf = append_assoc pre (b ∷ []) suf in
    let n : length (pre ++ b ∷ []) ≡ length pre + 1 = length-append pre (b ∷ []) in
    let P : List Block → Type 0 = λ z. AreNumbered z (length (pre ++ b ∷ [])) suf in
    let Q : ℕ → Type 0 = λ z. AreNumbered (pre ++ b ∷ suf) z suf in
    let R : List Block → Type 0 = λ z. AreFound z suf in
    (ap (slice_get (pre ++ b ∷ suf)) h.0 ∙ at_length pre suf b, subst R e (found (pre ++ b ∷ []) suf (subst P (sym e) (subst Q (sym n) h.1.1))))

its_blocks : (b : PBody) (spot : Spot) (ds : PDecls) (ss : PStmts) → b ≡ tree.body spot ds ss →
    blocks_of_program (tree.program b) ≡ outer_block (tree.body spot ds ss) ∷ blocks_in_body (tree.body spot ds ss) (spot ∷ [])
unfolding blocks_of_program
its_blocks b spot ds ss e = ap (λ z. blocks_of_program (tree.program z)) e

placed_in : (spot : Spot) (ds : PDecls) (ss : PStmts) (blocks : List Block) →
    blocks ≡ outer_block (tree.body spot ds ss) ∷ blocks_in_body (tree.body spot ds ss) (spot ∷ []) → AreFound blocks blocks →
    Each blocks (sites_in_body blocks (tree.body spot ds ss) outermost)
placed_in spot ds ss blocks e f =
    let inner : List Block = blocks_in_body (tree.body spot ds ss) (spot ∷ []) in
    let P : List Block → Type 0 = λ z. AreFound blocks z in
    let one : 1 ≡ 0 + 1 = omega arith in
    let first : IsAt blocks 0 0 = ap (λ z. level_if (slice_get z 0)) e in
    in_body blocks (tree.body spot ds ss) (spot ∷ []) outermost (record { here = first; known = tt }) one (subst P e f).1

pub placed : (p : PProgram) → IsInOrder p → Each (blocks_of_program p) (sites_of p)
placed (tree.program (tree.body spot ds ss)) h =
    let blocks : List Block = blocks_of_program (tree.program (tree.body spot ds ss)) in
    placed_in spot ds ss blocks (its_blocks (tree.body spot ds ss) spot ds ss refl) (found [] blocks (in_order (tree.program (tree.body spot ds ss)) h))
