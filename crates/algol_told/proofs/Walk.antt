-- What holds of the surroundings of each part of a tree: what holds where the program begins, and stays so from part to part.
use Rattle.std.proofs.Common.{◌+◌, Bool, true, false, List, [], ◌∷◌, ◌++◌, Option, Some, None}
use Rattle.std.specs.List.{AllByRecursion}
use Rattle.algol_tree.specs.declared.token.Spot.{Spot}
use Rattle.algol_tree.specs.declared.tree.Named.{Named}
use Rattle.algol_tree.specs.declared.tree.Heading.{Heading}
use Rattle.algol_tree.specs.Plain as tree
use Rattle.algol_tree.specs.Plain.{PExpr, PExprs, PPair, PStmt, PStmts, PDecl, PDecls, PBody, PProgram, name_alone}
use Rattle.algol_tree.specs.Classes.{Formal}
use Rattle.algol_tree.specs.Sorts.{Declared}
use Rattle.algol_tree.specs.Blocks.{Block, Begin, of_statement, of_procedure, number_at}
use Rattle.algol_tree.specs.Surroundings.{Surroundings, formals_at, inside_begin, inside_procedure, knowing, knowing_all, outermost}
use Rattle.algol_tree.specs.Sites as site
use Rattle.algol_tree.specs.Sites.{Part, Site, actual_part_by, first_formal, here, name_part, wants_value, sites, inside_expr, inside_list, inside_actuals, sites_in_pairs, other_formals, here_stmt, inside_stmt, inside_decl, sites_in_stmts, sites_in_decls, sites_in_body, sites_by, has_decls}
use Rattle.algol_told.proofs.Lists.{all_append, all_left, all_right}

module _ (blocks : List Block) (Holds : Surroundings → Type 0) where
  -- it holds after a declaration too, and inside a procedure
  abbrev pub Behind : Part → Surroundings → Type 0
  Behind (site.declaration (tree.procedure h s) ds) a =
      Holds (knowing blocks (tree.procedure h s) ds a) × Holds (inside_procedure blocks h (knowing blocks (tree.procedure h s) ds a))
  Behind (site.declaration d ds) a = Holds (knowing blocks d ds a)
  Behind _ a = Unit {0}

  pub record HoldsAt (x : Site) : Type 0 where
    pub around : Holds x.around
    pub behind : Behind x.part x.around

-- `begins`, `knows` and `enters`: it stays so where a block begins, after a declaration, and inside a procedure, wherever the sites pass
-- this test. `begun` is what was known where the block began, and `a` the place before a declaration.
module _ (blocks : List Block) (Holds : Surroundings → Type 0) (Passes : Site → Type 0)
    (begins : (spot : Spot) (a : Surroundings) → Holds a → Holds (record { block = number_at blocks spot; depth = a.depth + 1; known = a.known }))
    (knows : (d : PDecl) (ds : PDecls) (a : Surroundings) (begun : List Declared) → Holds a →
    AllByRecursion Passes (sites_in_decls blocks (tree.decls d ds) a begun) → Holds (knowing blocks d ds a))
    (enters : (h : Heading) (s : PStmt) (ds : PDecls) (a : Surroundings) → Holds (knowing blocks (tree.procedure h s) ds a) →
    Passes (record { part = site.declaration (tree.procedure h s) ds; around = a }) →
    Holds (inside_procedure blocks h (knowing blocks (tree.procedure h s) ds a)))
  where
    abbrev pub Each : List Site → Type 0
    Each xs = AllByRecursion (HoldsAt blocks Holds) xs

    each : (xs ys : List Site) → Each xs → Each ys → Each (xs ++ ys)
    each xs ys h k = all_append (HoldsAt blocks Holds) xs ys h k

    -- ---- expressions

    module _ (a : Surroundings) (t : Holds a) where
      of_name : (n : Named) (value : Bool) → Behind blocks Holds (name_part n value) a
      of_name n true = tt
      of_name n false = tt

      of_actual : (o : Option Named) (e : PExpr) (f : Option Formal) → Behind blocks Holds (actual_part_by o e f) a
      of_actual (Some n) e f = of_name n (wants_value f)
      of_actual None e f = tt

      here_expr : (e : PExpr) → HoldsAt blocks Holds (here e a)
      here_expr e = record { around = t; behind = tt }

      at_stmt : (s : PStmt) (listed : Bool) → HoldsAt blocks Holds (here_stmt s listed a)
      at_stmt s listed = record { around = t; behind = tt }

      mutual
        in_expr : (e : PExpr) → Each (inside_expr e a)
        in_expr (tree.number z spot) = tt
        in_expr (tree.truth z spot) = tt
        in_expr (tree.variable (tree.subscripted n es)) = in_list es
        in_expr (tree.call (tree.called n es)) = in_actuals es (formals_at a n)
        in_expr (tree.tested test es spot) = tt
        in_expr (tree.paren e spot) = (here_expr e, in_expr e)
        in_expr (tree.plus e spot) = (here_expr e, in_expr e)
        in_expr (tree.neg e spot) = (here_expr e, in_expr e)
        in_expr (tree.not e spot) = (here_expr e, in_expr e)
        in_expr (tree.two op x y) = each (sites x a) (sites y a) (here_expr x, in_expr x) (here_expr y, in_expr y)
        in_expr (tree.if c x y spot) =
            each (sites c a ++ sites x a) (sites y a) (each (sites c a) (sites x a) (here_expr c, in_expr c) (here_expr x, in_expr x)) (here_expr y, in_expr y)

        in_list : (es : PExprs) → Each (inside_list es a)
        in_list tree.none = tt
        in_list (tree.more e es) = each (sites e a) (inside_list es a) (here_expr e, in_expr e) (in_list es)

        in_actuals : (es : PExprs) (fs : List Formal) → Each (inside_actuals es fs a)
        in_actuals tree.none fs = tt
        in_actuals (tree.more e es) fs = (
          record { around = t; behind = tt },
          (record { around = t; behind = of_actual (name_alone e) e (first_formal fs) }, each (inside_expr e a) (inside_actuals es (other_formals fs) a) (in_expr e) (in_actuals es (other_formals fs))),
        )

      in_sites : (e : PExpr) → Each (sites e a)
      in_sites e = (here_expr e, in_expr e)

      in_pairs : (ps : List PPair) → Each (sites_in_pairs ps a)
      in_pairs [] = tt
      in_pairs (p ∷ ps) = (record { around = t; behind = tt }, each (sites p.high a) (sites_in_pairs ps a) (in_sites p.high) (in_pairs ps))

    -- ---- statements and declarations

    abbrev AllPass : List Site → Type 0
    AllPass xs = AllByRecursion Passes xs

    first : (xs ys : List Site) → AllPass (xs ++ ys) → AllPass xs
    first xs ys o = all_left Passes xs ys o

    last : (xs ys : List Site) → AllPass (xs ++ ys) → AllPass ys
    last xs ys o = all_right Passes xs ys o

    -- the place after all declarations
    knows_all : (ds : PDecls) (a : Surroundings) (begun : List Declared) → Holds a → AllPass (sites_in_decls blocks ds a begun) → Holds (knowing_all blocks ds a)
    knows_all tree.no_decls a begun t o = t
    knows_all (tree.decls d ds) a begun t o =
        knows_all ds (knowing blocks d ds a) begun (knows d ds a begun t o)
        (last (inside_decl blocks d (knowing blocks d ds a) begun) (sites_in_decls blocks ds (knowing blocks d ds a) begun) o.1)

    behind_of : (d : PDecl) (ds : PDecls) (a : Surroundings) → Holds (knowing blocks d ds a) → Passes (record { part = site.declaration d ds; around = a }) →
        Behind blocks Holds (site.declaration d ds) a
    behind_of (tree.simple kind ns) ds a n h = n
    behind_of (tree.files ns) ds a n h = n
    behind_of (tree.events ns) ds a n h = n
    behind_of (tree.tasks ns) ds a n h = n
    behind_of (tree.labels ns) ds a n h = n
    behind_of (tree.arrays kind ns pairs) ds a n h = n
    behind_of (tree.forward g) ds a n h = n
    behind_of (tree.procedure g s) ds a n h = (n, enters g s ds a n h)

    one_declaration : (d : PDecl) (ds : PDecls) (a : Surroundings) (begun : List Declared) → Holds a → Holds (knowing blocks d ds a) →
        Passes (record { part = site.declaration d ds; around = a }) → Each (inside_decl blocks d (knowing blocks d ds a) begun) →
        Each (sites_in_decls blocks ds (knowing blocks d ds a) begun) → Each (sites_in_decls blocks (tree.decls d ds) a begun)
    one_declaration d ds a begun t n p h k = (
      record { around = t; behind = behind_of d ds a n p },
      each (inside_decl blocks d (knowing blocks d ds a) begun) (sites_in_decls blocks ds (knowing blocks d ds a) begun) h k,
    )

    mutual
      in_stmt : (s : PStmt) (begin : Begin) (listed : Bool) (a : Surroundings) → Holds a → AllPass (inside_stmt blocks s begin listed a) →
          Each (inside_stmt blocks s begin listed a)
      in_stmt tree.empty begin listed a t o = tt
      in_stmt (tree.label n s) begin listed a t o = (at_stmt a t s listed, in_stmt s of_statement listed a t o.1)
      in_stmt (tree.assign (tree.subscripted n es) x) begin listed a t o = each (inside_list es a) (sites x a) (in_list a t es) (in_sites a t x)
      in_stmt (tree.call_of (tree.called n es)) begin listed a t o = in_actuals a t es (formals_at a n)
      in_stmt (tree.go_to n) begin listed a t o = tt
      in_stmt (tree.block b) of_statement listed a t o = in_begin b a t o
      in_stmt (tree.block b) of_procedure listed a t o = in_body b a t o
      in_stmt (tree.if_then c x) begin listed a t o =
          let xs : List Site = here_stmt x false a ∷ inside_stmt blocks x of_statement false a in
          each (sites c a) xs (in_sites a t c) (at_stmt a t x false, in_stmt x of_statement false a t (last (sites c a) xs o).1)
      in_stmt (tree.if_else c x y) begin listed a t o =
          let xs : List Site = here_stmt x false a ∷ inside_stmt blocks x of_statement false a in
          let ys : List Site = here_stmt y false a ∷ inside_stmt blocks y of_statement false a in
          each (sites c a ++ xs) ys
          (each (sites c a) xs (in_sites a t c) (at_stmt a t x false, in_stmt x of_statement false a t (last (sites c a) xs (first (sites c a ++ xs) ys o)).1))
          (at_stmt a t y false, in_stmt y of_statement false a t (last (sites c a ++ xs) ys o).1)
      in_stmt (tree.while c b) begin listed a t o =
          let xs : List Site = here_stmt b false a ∷ inside_stmt blocks b of_statement false a in
          each (sites c a) xs (in_sites a t c) (at_stmt a t b false, in_stmt b of_statement false a t (last (sites c a) xs o).1)
      in_stmt (tree.until b c) begin listed a t o =
          let xs : List Site = here_stmt b false a ∷ inside_stmt blocks b of_statement false a in
          each xs (sites c a) (at_stmt a t b false, in_stmt b of_statement false a t (first xs (sites c a) o).1) (in_sites a t c)
      in_stmt (tree.for v x y z b) begin listed a t o =
          let es : List Site = (sites x a ++ sites y a) ++ sites z a in
          let xs : List Site = here_stmt b false a ∷ inside_stmt blocks b of_statement false a in
          each es xs
          (each (sites x a ++ sites y a) (sites z a) (each (sites x a) (sites y a) (in_sites a t x) (in_sites a t y)) (in_sites a t z))
          (at_stmt a t b false, in_stmt b of_statement false a t (last es xs o).1)
      in_stmt (tree.thru x b) begin listed a t o =
          let xs : List Site = here_stmt b false a ∷ inside_stmt blocks b of_statement false a in
          each (sites x a) xs (in_sites a t x) (at_stmt a t b false, in_stmt b of_statement false a t (last (sites x a) xs o).1)
      in_stmt (tree.case x ss) begin listed a t o =
          each (sites x a) (sites_in_stmts blocks ss false a) (in_sites a t x)
          (in_stmts ss false a t (last (sites x a) (sites_in_stmts blocks ss false a) o))
      in_stmt (tree.process (tree.called n es) task) begin listed a t o = in_actuals a t es (formals_at a n)
      in_stmt (tree.event act x) begin listed a t o = tt
      in_stmt (tree.write n spot phrases es) begin listed a t o = in_list a t es

      in_begin : (b : PBody) (a : Surroundings) → Holds a → AllPass (sites_in_body blocks b (inside_begin blocks b a)) →
          Each (sites_in_body blocks b (inside_begin blocks b a))
      in_begin (tree.body spot tree.no_decls ss) a t o = in_stmts ss false a t o
      in_begin (tree.body spot (tree.decls d ds) ss) a t o =
          let c : Surroundings = record { block = number_at blocks spot; depth = a.depth + 1; known = a.known } in
          let tc : Holds c = begins spot a t in
          let xs : List Site = sites_in_decls blocks (tree.decls d ds) c c.known in
          let k : Surroundings = knowing_all blocks (tree.decls d ds) c in
          let ys : List Site = sites_in_stmts blocks ss true k in
          let os : AllPass xs = first xs ys o in
          let n : Surroundings = knowing blocks d ds c in
          let tn : Holds n = knows d ds c c.known tc os in
          let inner : List Site = inside_decl blocks d n c.known in
          let more : List Site = sites_in_decls blocks ds n c.known in
          each xs ys
          (one_declaration d ds c c.known tc tn os.0 (in_decl d ds c c.known tn tc os.0 (first inner more os.1)) (in_decls ds n c.known tn tc (last inner more os.1)))
          (in_stmts ss true k (knows_all (tree.decls d ds) c c.known tc os) (last xs ys o))

      in_body : (b : PBody) (a : Surroundings) → Holds a → AllPass (sites_in_body blocks b a) → Each (sites_in_body blocks b a)
      in_body (tree.body spot ds ss) a t o =
          let xs : List Site = sites_in_decls blocks ds a a.known in
          let k : Surroundings = knowing_all blocks ds a in
          let ys : List Site = sites_in_stmts blocks ss (has_decls ds) k in
          each xs ys (in_decls ds a a.known t t (first xs ys o)) (in_stmts ss (has_decls ds) k (knows_all ds a a.known t (first xs ys o)) (last xs ys o))

      in_stmts : (ss : PStmts) (listed : Bool) (a : Surroundings) → Holds a → AllPass (sites_in_stmts blocks ss listed a) → Each (sites_in_stmts blocks ss listed a)
      in_stmts tree.no_stmts listed a t o = tt
      in_stmts (tree.stmts s ss) listed a t o =
          let xs : List Site = inside_stmt blocks s of_statement listed a in
          let ys : List Site = sites_in_stmts blocks ss listed a in
          (at_stmt a t s listed, each xs ys (in_stmt s of_statement listed a t (first xs ys o.1)) (in_stmts ss listed a t (last xs ys o.1)))

      in_decls : (ds : PDecls) (a : Surroundings) (begun : List Declared) → Holds a → Holds (record a { known = begun }) → AllPass (sites_in_decls blocks ds a begun) →
          Each (sites_in_decls blocks ds a begun)
      in_decls tree.no_decls a begun t u o = tt
      in_decls (tree.decls d ds) a begun t u o =
          let n : Surroundings = knowing blocks d ds a in
          let tn : Holds n = knows d ds a begun t o in
          let inner : List Site = inside_decl blocks d n begun in
          let more : List Site = sites_in_decls blocks ds n begun in
          one_declaration d ds a begun t tn o.0 (in_decl d ds a begun tn u o.0 (first inner more o.1)) (in_decls ds n begun tn u (last inner more o.1))

      in_decl : (d : PDecl) (ds : PDecls) (a : Surroundings) (begun : List Declared) → Holds (knowing blocks d ds a) → Holds (record a { known = begun }) →
          Passes (record { part = site.declaration d ds; around = a }) → AllPass (inside_decl blocks d (knowing blocks d ds a) begun) →
          Each (inside_decl blocks d (knowing blocks d ds a) begun)
      in_decl (tree.simple kind ns) ds a begun t u h o = tt
      in_decl (tree.files ns) ds a begun t u h o = tt
      in_decl (tree.events ns) ds a begun t u h o = tt
      in_decl (tree.tasks ns) ds a begun t u h o = tt
      in_decl (tree.labels ns) ds a begun t u h o = tt
      in_decl (tree.arrays kind ns pairs) ds a begun t u h o = in_pairs (record a { known = begun }) u pairs
      in_decl (tree.forward g) ds a begun t u h o = tt
      in_decl (tree.procedure g s) ds a begun t u h o =
          let inner : Surroundings = inside_procedure blocks g (knowing blocks (tree.procedure g s) ds a) in
          let ti : Holds inner = enters g s ds a t h in
          (at_stmt inner ti s false, in_stmt s of_procedure false inner ti o.1)

    -- ---- the whole program

    pub all_hold : (p : PProgram) → Holds outermost → AllPass (sites_by p blocks) → Each (sites_by p blocks)
    all_hold (tree.program b) t o = in_body b outermost t o
