-- A label before a statement that is told to be in the list of its block stands there.
use Rattle.std.proofs.Common.{Some, None, ◌≡◌, ◌⊎◌, inl, inr, ℕ, Bool, true, false, List, [], ◌∷◌, ◌++◌, Option, refl, sym, ap, ◌∙◌, subst}
use Rattle.std.specs.List.{AllByRecursion}
use Rattle.algol_tree.specs.declared.token.Spot.{Spot}
use Rattle.algol_tree.specs.declared.tree.Named.{Named}
use Rattle.algol_tree.specs.Blocks.{Block, Begin, of_statement, of_procedure, procedure_block, stmts_of, blocks_of, blocks_in_decls, blocks_in_stmts, block_numbered, number_at}
use Rattle.algol_tree.specs.Classes.{Formal}
use Rattle.algol_tree.specs.Plain as tree
use Rattle.algol_tree.specs.Plain.{name_alone, PExpr, PExprs, PPair, PStmt, PStmts, PDecl, PDecls}
use Rattle.algol_tree.specs.Sites as parts
use Rattle.algol_tree.specs.Sites.{Site, here, sites, wants_value, name_part, actual_part, actual_part_by, first_formal, other_formals, inside_expr, inside_list, inside_actuals, sites_in_pairs, here_stmt, inside_stmt, sites_in_stmts, sites_in_decls, has_decls}
use Rattle.algol_tree.specs.Sorts.{Declared}
use Rattle.algol_tree.specs.Surroundings.{Surroundings, formals_at, knowing, knowing_all, inside_begin, inside_procedure}
use Rattle.algol_tree.proofs.Trees.{block_is}
use Rattle.b67_list.proofs.Lists.{each_back, each_both, each_front}
use Rattle.b67_fitting.proofs.Numbering.{IsNumbered}
use Rattle.b67_fitting.proofs.OneBlock.{the_block}
use Rattle.b67_fitting.proofs.Placed.{same_number}

-- the label stands before this statement, with others perhaps
abbrev pub Heads : Named → PStmt → Type 0
Heads m (tree.label n s) = (m ≡ n) ⊎ Heads m s
Heads m _ = ⊥

-- .. before one of this list
abbrev pub StandsIn : Named → PStmts → Type 0
StandsIn m tree.no_stmts = ⊥
StandsIn m (tree.stmts s ss) = Heads m s ⊎ StandsIn m ss

module _ (blocks : List Block) where
  abbrev InList : Surroundings → Named → Type 0
  InList a m = StandsIn m (block_numbered blocks a.block).stmts

  pub record AtHome (x : Site) : Type 0 where
    pub standing : (m : Named) (s : PStmt) → x.part ≡ parts.statement (tree.label m s) true → StandsIn m (block_numbered blocks x.around.block).stmts

  abbrev AllHome : List Site → Type 0
  AllHome xs = AllByRecursion AtHome xs

  joined : (xs ys : List Site) → AllHome xs → AllHome ys → AllHome (xs ++ ys)
  joined xs ys g h = each_both AtHome xs ys g h

  -- ---- expressions

  of_expr : (a : Surroundings) (e : PExpr) → AtHome (here e a)
  of_expr a e = record { standing = λ m s h. absurd (let clash : parts.expression e ≡ parts.statement (tree.label m s) true = h in cc) }

  of_name : (a : Surroundings) (n : Named) (value : Bool) → AtHome (record { part = name_part n value; around = a })
  of_name a n true = of_expr a (tree.variable (tree.subscripted n tree.none))
  of_name a n false = record { standing = λ m s h. absurd (let clash : parts.name n ≡ parts.statement (tree.label m s) true = h in cc) }

  of_actual : (a : Surroundings) (e : PExpr) (f : Option Formal) → AtHome (record { part = parts.actual e f; around = a })
  of_actual a e f = record { standing = λ m s h. absurd (let clash : parts.actual e f ≡ parts.statement (tree.label m s) true = h in cc) }

  of_bound : (a : Surroundings) (e : PExpr) → AtHome (record { part = parts.bound e; around = a })
  of_bound a e = record { standing = λ m s h. absurd (let clash : parts.bound e ≡ parts.statement (tree.label m s) true = h in cc) }

  of_part : (a : Surroundings) (e : PExpr) (f : Option Formal) → AtHome (record { part = actual_part e f; around = a })
  of_part a e f = by (name_alone e)
    where
      by : (o : Option Named) → AtHome (record { part = actual_part_by o e f; around = a })
      by None = of_expr a e
      by (Some n) = of_name a n (wants_value f)

  mutual
    in_expr : (a : Surroundings) (e : PExpr) → AllHome (inside_expr e a)
    in_expr a (tree.number z spot) = tt
    in_expr a (tree.truth b spot) = tt
    in_expr a (tree.variable (tree.subscripted n es)) = in_list a es
    in_expr a (tree.call (tree.called n es)) = in_actuals a es (formals_at a n)
    in_expr a (tree.tested x es spot) = tt
    in_expr a (tree.paren e spot) = (of_expr a e, in_expr a e)
    in_expr a (tree.plus e spot) = (of_expr a e, in_expr a e)
    in_expr a (tree.neg e spot) = (of_expr a e, in_expr a e)
    in_expr a (tree.not e spot) = (of_expr a e, in_expr a e)
    in_expr a (tree.two op x y) = joined (sites x a) (sites y a) (of_expr a x, in_expr a x) (of_expr a y, in_expr a y)
    in_expr a (tree.if c x y spot) =
        joined (sites c a ++ sites x a) (sites y a) (joined (sites c a) (sites x a) (of_expr a c, in_expr a c) (of_expr a x, in_expr a x)) (of_expr a y, in_expr a y)

    in_list : (a : Surroundings) (es : PExprs) → AllHome (inside_list es a)
    in_list a tree.none = tt
    in_list a (tree.more e es) = joined (sites e a) (inside_list es a) (of_expr a e, in_expr a e) (in_list a es)

    in_actuals : (a : Surroundings) (es : PExprs) (fs : List Formal) → AllHome (inside_actuals es fs a)
    in_actuals a tree.none fs = tt
    in_actuals a (tree.more e es) fs =
        (of_actual a e (first_formal fs), (of_part a e (first_formal fs), joined (inside_expr e a) (inside_actuals es (other_formals fs) a) (in_expr a e) (in_actuals a es (other_formals fs))))

  in_sites : (a : Surroundings) (e : PExpr) → AllHome (sites e a)
  in_sites a e = (of_expr a e, in_expr a e)

  in_pairs : (a : Surroundings) (ps : List PPair) → AllHome (sites_in_pairs ps a)
  in_pairs a [] = tt
  in_pairs a (p ∷ ps) = (of_bound a p.high, joined (sites p.high a) (sites_in_pairs ps a) (in_sites a p.high) (in_pairs a ps))

  -- ---- statements and declarations

  -- the labels before a statement that is told to be in the list are there
  abbrev Homes : PStmt → Bool → Surroundings → Type 0
  Homes t listed a = listed ≡ true → (m : Named) → Heads m t → InList a m

  -- .. and those of a list
  abbrev AreHomes : PStmts → Bool → Surroundings → Type 0
  AreHomes ss listed a = listed ≡ true → (m : Named) → StandsIn m ss → InList a m

  not_listed : (t : PStmt) (a : Surroundings) → Homes t false a
  not_listed t a e = absurd (let clash : false ≡ true = e in cc)

  of_stmt : (t : PStmt) (listed : Bool) (a : Surroundings) → Homes t listed a → AtHome (here_stmt t listed a)
  of_stmt t listed a f =
      record {
        standing =
            λ m s h.
            let told : listed ≡ true = cc in
            let same : t ≡ tree.label m s = cc in
            f told m (subst (Heads m) (sym same) (inl refl));
      }

  of_decl : (d : PDecl) (ds : PDecls) (a : Surroundings) → AtHome (record { part = parts.declaration d ds; around = a })
  of_decl d ds a = record { standing = λ m s h. absurd (let clash : parts.declaration d ds ≡ parts.statement (tree.label m s) true = h in cc) }

  -- the body of a procedure has the list of its block
  abbrev Own : Begin → PStmt → Surroundings → Type 0
  Own of_statement t a = Unit {0}
  Own of_procedure t a = (block_numbered blocks a.block).stmts ≡ stmts_of t

  abbrev Numbered : List Block → Type 0
  Numbered bs = AllByRecursion (IsNumbered blocks) bs

  abbrev stmt_sites : PStmt → Begin → Bool → Surroundings → List Site
  stmt_sites t begin listed a = here_stmt t listed a ∷ inside_stmt blocks t begin listed a

  -- a list whose block has it
  list_home : (ss : PStmts) (listed : Bool) (a : Surroundings) (k : ℕ) → a.block ≡ k → (block_numbered blocks k).stmts ≡ ss → AreHomes ss listed a
  list_home ss listed a k e s told m h = subst (StandsIn m) (sym (ap (λ (i : ℕ). (block_numbered blocks i).stmts) e ∙ s)) h

  mutual
    in_stmt : (outer : List Spot) (a : Surroundings) (t : PStmt) (begin : Begin) (listed : Bool) → Own begin t a → Homes t listed a → Numbered (blocks_of t begin outer) →
        AllHome (inside_stmt blocks t begin listed a)
    in_stmt outer a tree.empty g l o h f = tt
    in_stmt outer a (tree.label n t) g l o h f = (of_stmt t l a (λ e m i. h e m (inr i)), in_stmt outer a t of_statement l tt (λ e m i. h e m (inr i)) f)
    in_stmt outer a (tree.assign (tree.subscripted n es) e) g l o h f = joined (inside_list es a) (sites e a) (in_list a es) (in_sites a e)
    in_stmt outer a (tree.call_of (tree.called n es)) g l o h f = in_actuals a es (formals_at a n)
    in_stmt outer a (tree.go_to n) g l o h f = tt
    in_stmt outer a (tree.block (tree.body spot tree.no_decls ss)) of_statement l o h f = in_stmts outer a ss false (λ e. absurd (let clash : false ≡ true = e in cc)) f
    in_stmt outer a (tree.block (tree.body spot (tree.decls d ds) ss)) of_statement l o h f =
        let i = number_at blocks spot in
        let inner : List Spot = spot ∷ outer in
        let c : Surroundings = inside_begin blocks (tree.body spot (tree.decls d ds) ss) a in
        let after : Surroundings = knowing_all blocks (tree.decls d ds) c in
        let its = the_block spot outer (tree.decls d ds) ss in
        joined (sites_in_decls blocks (tree.decls d ds) c c.known) (sites_in_stmts blocks ss true after)
        (in_decls inner c (tree.decls d ds) c.known (each_front (IsNumbered blocks) (blocks_in_decls (tree.decls d ds) inner) (blocks_in_stmts ss inner) f.1))
        (in_stmts inner after ss true (list_home ss true after i (same_number blocks (tree.decls d ds) c) (ap (λ (z : Block). z.stmts) (block_is blocks i its f.0)))
        (each_back (IsNumbered blocks) (blocks_in_decls (tree.decls d ds) inner) (blocks_in_stmts ss inner) f.1))
    in_stmt outer a (tree.block (tree.body spot ds ss)) of_procedure l o h f =
        let after : Surroundings = knowing_all blocks ds a in
        joined (sites_in_decls blocks ds a a.known) (sites_in_stmts blocks ss (has_decls ds) after)
        (in_decls outer a ds a.known (each_front (IsNumbered blocks) (blocks_in_decls ds outer) (blocks_in_stmts ss outer) f))
        (in_stmts outer after ss (has_decls ds) (list_home ss (has_decls ds) after a.block (same_number blocks ds a) o)
        (each_back (IsNumbered blocks) (blocks_in_decls ds outer) (blocks_in_stmts ss outer) f))
    in_stmt outer a (tree.if_then c x) g l o h f =
        joined (sites c a) (stmt_sites x of_statement false a) (in_sites a c) (of_stmt x false a (not_listed x a), in_stmt outer a x of_statement false tt (not_listed x a) f)
    in_stmt outer a (tree.if_else c x y) g l o h f =
        let these = blocks_of x of_statement outer in
        let those = blocks_of y of_statement outer in
        joined (sites c a ++ stmt_sites x of_statement false a) (stmt_sites y of_statement false a)
        (joined (sites c a) (stmt_sites x of_statement false a) (in_sites a c)
        (of_stmt x false a (not_listed x a), in_stmt outer a x of_statement false tt (not_listed x a) (each_front (IsNumbered blocks) these those f)))
        (of_stmt y false a (not_listed y a), in_stmt outer a y of_statement false tt (not_listed y a) (each_back (IsNumbered blocks) these those f))
    in_stmt outer a (tree.while c x) g l o h f =
        joined (sites c a) (stmt_sites x of_statement false a) (in_sites a c) (of_stmt x false a (not_listed x a), in_stmt outer a x of_statement false tt (not_listed x a) f)
    in_stmt outer a (tree.until x c) g l o h f =
        joined (stmt_sites x of_statement false a) (sites c a) (of_stmt x false a (not_listed x a), in_stmt outer a x of_statement false tt (not_listed x a) f) (in_sites a c)
    in_stmt outer a (tree.for v x s z t) g l o h f =
        joined (sites x a ++ sites s a ++ sites z a) (stmt_sites t of_statement false a)
        (joined (sites x a ++ sites s a) (sites z a) (joined (sites x a) (sites s a) (in_sites a x) (in_sites a s)) (in_sites a z))
        (of_stmt t false a (not_listed t a), in_stmt outer a t of_statement false tt (not_listed t a) f)
    in_stmt outer a (tree.thru e x) g l o h f =
        joined (sites e a) (stmt_sites x of_statement false a) (in_sites a e) (of_stmt x false a (not_listed x a), in_stmt outer a x of_statement false tt (not_listed x a) f)
    in_stmt outer a (tree.case e ss) g l o h f =
        joined (sites e a) (sites_in_stmts blocks ss false a) (in_sites a e) (in_stmts outer a ss false (λ e. absurd (let clash : false ≡ true = e in cc)) f)
    in_stmt outer a (tree.process (tree.called n es) task) g l o h f = in_actuals a es (formals_at a n)
    in_stmt outer a (tree.event act e) g l o h f = tt
    in_stmt outer a (tree.write n spot phrases es) g l o h f = in_list a es

    pub in_stmts : (outer : List Spot) (a : Surroundings) (ss : PStmts) (listed : Bool) → AreHomes ss listed a → Numbered (blocks_in_stmts ss outer) → AllHome (sites_in_stmts blocks ss listed a)
    in_stmts outer a tree.no_stmts l h f = tt
    in_stmts outer a (tree.stmts t ss) l h f =
        let first : Homes t l a = λ e m i. h e m (inl i) in
        joined (stmt_sites t of_statement l a) (sites_in_stmts blocks ss l a)
        (of_stmt t l a first, in_stmt outer a t of_statement l tt first (each_front (IsNumbered blocks) (blocks_of t of_statement outer) (blocks_in_stmts ss outer) f))
        (in_stmts outer a ss l (λ e m i. h e m (inr i)) (each_back (IsNumbered blocks) (blocks_of t of_statement outer) (blocks_in_stmts ss outer) f))

    -- `first`: what is known at the begin of the block
    pub in_decls : (outer : List Spot) (a : Surroundings) (ds : PDecls) (first : List Declared) → Numbered (blocks_in_decls ds outer) → AllHome (sites_in_decls blocks ds a first)
    in_decls outer a tree.no_decls first f = tt
    in_decls outer a (tree.decls (tree.simple kind ns) ds) first f = (of_decl (tree.simple kind ns) ds a, in_decls outer (knowing blocks (tree.simple kind ns) ds a) ds first f)
    in_decls outer a (tree.decls (tree.files ns) ds) first f = (of_decl (tree.files ns) ds a, in_decls outer (knowing blocks (tree.files ns) ds a) ds first f)
    in_decls outer a (tree.decls (tree.events ns) ds) first f = (of_decl (tree.events ns) ds a, in_decls outer (knowing blocks (tree.events ns) ds a) ds first f)
    in_decls outer a (tree.decls (tree.tasks ns) ds) first f = (of_decl (tree.tasks ns) ds a, in_decls outer (knowing blocks (tree.tasks ns) ds a) ds first f)
    in_decls outer a (tree.decls (tree.labels ns) ds) first f = (of_decl (tree.labels ns) ds a, in_decls outer (knowing blocks (tree.labels ns) ds a) ds first f)
    in_decls outer a (tree.decls (tree.forward h) ds) first f = (of_decl (tree.forward h) ds a, in_decls outer (knowing blocks (tree.forward h) ds a) ds first f)
    in_decls outer a (tree.decls (tree.arrays kind ns pairs) ds) first f =
        let after : Surroundings = knowing blocks (tree.arrays kind ns pairs) ds a in
        let at : Surroundings = record a { known = first } in
        (of_decl (tree.arrays kind ns pairs) ds a, joined (sites_in_pairs pairs at) (sites_in_decls blocks ds after first) (in_pairs at pairs) (in_decls outer after ds first f))
    in_decls outer a (tree.decls (tree.procedure h t) ds) first f =
        let i = number_at blocks h.name.spot in
        let after : Surroundings = knowing blocks (tree.procedure h t) ds a in
        let d : Surroundings = inside_procedure blocks h after in
        let inner : List Spot = h.name.spot ∷ outer in
        let own : (block_numbered blocks i).stmts ≡ stmts_of t = ap (λ (z : Block). z.stmts) (block_is blocks i (procedure_block h t outer) f.0) in (
          of_decl (tree.procedure h t) ds a,
          joined (stmt_sites t of_procedure false d) (sites_in_decls blocks ds after first)
              (of_stmt t false d (not_listed t d), in_stmt inner d t of_procedure false own (not_listed t d) (each_front (IsNumbered blocks) (blocks_of t of_procedure inner) (blocks_in_decls ds outer) f.1))
              (in_decls outer after ds first (each_back (IsNumbered blocks) (blocks_of t of_procedure inner) (blocks_in_decls ds outer) f.1)),
        )
