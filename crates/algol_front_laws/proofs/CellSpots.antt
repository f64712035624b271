-- The cells of a tree, but for the results of procedures, stand at places that are all different.
use Rattle.std.proofs.Common.{◌≡◌, Bool, true, false, List, [], ◌∷◌, ◌++◌, Option, refl, sym, subst, ap, ◌∙◌, append_assoc, map, Some, None}
use Rattle.std.proofs.lemmas.Grind.{flat_map-append}
use Rattle.std.specs.List.{flat_map}
use Rattle.algol_tree.specs.declared.token.Spot.{Spot}
use Rattle.algol_tree.specs.declared.tree.Named.{Named}
use Rattle.algol_tree.specs.declared.tree.Heading.{Heading}
use Rattle.algol_tree.specs.declared.tree.EventName.{EventName}
use Rattle.algol_tree.specs.Plain as tree
use Rattle.algol_tree.specs.Plain.{PExpr, PExprs, PPair, PStmt, PStmts, PDecl, PDecls, PBody, PProgram, name_alone}
use Rattle.algol_tree.specs.Classes.{Formal}
use Rattle.algol_tree.specs.Sorts.{Declared}
use Rattle.algol_tree.specs.Blocks.{Block, Begin, of_statement, of_procedure}
use Rattle.algol_tree.specs.Surroundings.{Surroundings, formals_at, inside, inside_procedure, knowing, knowing_all, outermost}
use Rattle.algol_tree.specs.Sites as site
use Rattle.algol_tree.specs.Sites.{Part, Site, actual_part, actual_part_by, first_formal, here_stmt, inside_actuals, inside_decl, inside_expr, inside_list, inside_stmt, name_part, other_formals, sites, sites_by, sites_in_body, sites_in_decls, sites_in_pairs, sites_in_stmts, has_decls, wants_value}
use Rattle.algol_tree.specs.Cells.{first_spot, has_cell}
use Rattle.algol_tree.specs.Names.{specified}
use Rattle.algol_tree.specs.Ascending.{IsInOrder, spots_of_body, spots_of_decl, spots_of_decls, spots_of_expr, spots_of_exprs, spots_of_heading, spots_of_names, spots_of_pairs, spots_of_stmt, spots_of_stmts, spots_of_task}
use Rattle.algol_told.proofs.Spots.{AreApart, Fits, ahead_fits, all_fit, both_fit, drop_fits, flat_fit, nil_fits, none_fits, ordered, skip_fits, take_fits}

-- the places of the cells that a part has itself, but for a result
abbrev pub cells_in_decl : PDecl → List Spot
cells_in_decl (tree.simple kind ns) = spots_of_names ns
cells_in_decl (tree.files ns) = []
cells_in_decl (tree.events ns) = spots_of_names ns
cells_in_decl (tree.tasks ns) = spots_of_names ns
cells_in_decl (tree.labels ns) = []
cells_in_decl (tree.arrays kind ns pairs) = spots_of_names ns
cells_in_decl (tree.forward h) = []
cells_in_decl (tree.procedure h s) = h.name.spot ∷ spots_of_names h.params

abbrev pub spot_if : Bool → Spot → List Spot
spot_if true spot = spot ∷ []
spot_if false spot = []

abbrev pub cells_in_part : Part → Surroundings → List Spot
cells_in_part (site.declaration d later) a = cells_in_decl d
cells_in_part (site.actual e f) a = spot_if (has_cell e f a) (first_spot e)
cells_in_part _ a = []

abbrev pub cell_spots : Site → List Spot
cell_spots x = cells_in_part x.part x.around

abbrev At : List Site → List Spot
At xs = flat_map cell_spots xs

both : (xs ys : List Site) (us vs : List Spot) → Fits (At xs) us → Fits (At ys) vs → Fits (At (xs ++ ys)) (us ++ vs)
both xs ys us vs h k = flat_fit cell_spots xs ys us vs h k

-- ---- expressions

module _ (a : Surroundings) where
  name_none : (n : Named) (b : Bool) → cells_in_part (name_part n b) a ≡ []
  name_none n true = refl
  name_none n false = refl

  part_none : (o : Option Named) (e : PExpr) (f : Option Formal) → cells_in_part (actual_part_by o e f) a ≡ []
  part_none (Some n) e f = name_none n (wants_value f)
  part_none None e f = refl

  -- the first token of the first expression, and the cells in it and in what follows
  and_then : (first : Spot) (xs ys : List Site) (us vs : List Spot) → Fits (first ∷ At xs) us → Fits (At ys) vs → Fits (first ∷ At (xs ++ ys)) (us ++ vs)
  and_then first xs ys us vs h k =
      let P : List Spot → Type 0 = λ zs. Fits (first ∷ zs) (us ++ vs) in
      subst P (sym (flat_map-append cell_spots xs ys)) (both_fit (first ∷ At xs) (At ys) us vs h k)

  one_actual : (e : PExpr) (f : Option Formal) (rest : List Site) (us vs : List Spot) → Fits (first_spot e ∷ At (inside_expr e a)) us → Fits (At rest) vs →
      Fits (At (record { part = site.actual e f; around = a } ∷ record { part = actual_part e f; around = a } ∷ (inside_expr e a ++ rest))) (us ++ vs)
  one_actual e f rest us vs h k =
      let P : List Spot → Type 0 = λ zs. Fits (spot_if (has_cell e f a) (first_spot e) ++ (zs ++ At (inside_expr e a ++ rest))) (us ++ vs) in
      subst P (sym (part_none (name_alone e) e f)) (decide (has_cell e f a))
    where
      decide : (b : Bool) → Fits (spot_if b (first_spot e) ++ At (inside_expr e a ++ rest)) (us ++ vs)
      decide true = and_then (first_spot e) (inside_expr e a) rest us vs h k
      decide false = both (inside_expr e a) rest us vs (drop_fits (first_spot e) (At (inside_expr e a)) us h) k

  at_sites : (e : PExpr) → Fits (first_spot e ∷ At (inside_expr e a)) (spots_of_expr e) → Fits (At (sites e a)) (spots_of_expr e)
  at_sites e f = drop_fits (first_spot e) (At (inside_expr e a)) (spots_of_expr e) f

  mutual
    in_expr : (e : PExpr) → Fits (first_spot e ∷ At (inside_expr e a)) (spots_of_expr e)
    in_expr (tree.number z spot) = all_fit (spot ∷ [])
    in_expr (tree.truth z spot) = all_fit (spot ∷ [])
    in_expr (tree.variable (tree.subscripted n es)) = take_fits n.spot (At (inside_list es a)) (spots_of_exprs es) (in_list es)
    in_expr (tree.call (tree.called n es)) = take_fits n.spot (At (inside_actuals es (formals_at a n) a)) (spots_of_exprs es) (in_actuals es (formals_at a n))
    in_expr (tree.tested test es spot) = let spots = map (λ (e : EventName). e.name.spot) es in take_fits spot [] spots (none_fits spots)
    in_expr (tree.paren e spot) = take_fits spot (At (sites e a)) (spots_of_expr e) (at_sites e (in_expr e))
    in_expr (tree.plus e spot) = take_fits spot (At (sites e a)) (spots_of_expr e) (at_sites e (in_expr e))
    in_expr (tree.neg e spot) = take_fits spot (At (sites e a)) (spots_of_expr e) (at_sites e (in_expr e))
    in_expr (tree.not e spot) = take_fits spot (At (sites e a)) (spots_of_expr e) (at_sites e (in_expr e))
    in_expr (tree.two op x y) = and_then (first_spot x) (sites x a) (sites y a) (spots_of_expr x) (spots_of_expr y) (in_expr x) (at_sites y (in_expr y))
    in_expr (tree.if c x y spot) =
        take_fits spot (At ((sites c a ++ sites x a) ++ sites y a)) ((spots_of_expr c ++ spots_of_expr x) ++ spots_of_expr y)
        (both (sites c a ++ sites x a) (sites y a) (spots_of_expr c ++ spots_of_expr x) (spots_of_expr y)
        (both (sites c a) (sites x a) (spots_of_expr c) (spots_of_expr x) (at_sites c (in_expr c)) (at_sites x (in_expr x))) (at_sites y (in_expr y)))

    in_list : (es : PExprs) → Fits (At (inside_list es a)) (spots_of_exprs es)
    in_list tree.none = none_fits []
    in_list (tree.more e es) = both (sites e a) (inside_list es a) (spots_of_expr e) (spots_of_exprs es) (at_sites e (in_expr e)) (in_list es)

    in_actuals : (es : PExprs) (fs : List Formal) → Fits (At (inside_actuals es fs a)) (spots_of_exprs es)
    in_actuals tree.none fs = none_fits []
    in_actuals (tree.more e es) fs =
        one_actual e (first_formal fs) (inside_actuals es (other_formals fs) a) (spots_of_expr e) (spots_of_exprs es) (in_expr e) (in_actuals es (other_formals fs))

  in_sites : (e : PExpr) → Fits (At (sites e a)) (spots_of_expr e)
  in_sites e = at_sites e (in_expr e)

  in_pairs : (ps : List PPair) → Fits (At (sites_in_pairs ps a)) (spots_of_pairs ps)
  in_pairs [] = none_fits []
  in_pairs (p ∷ ps) = both (sites p.high a) (sites_in_pairs ps a) (spots_of_expr p.high) (spots_of_pairs ps) (in_sites p.high) (in_pairs ps)

-- ---- statements and declarations

of_heading : (h : Heading) → Fits (h.name.spot ∷ spots_of_names h.params) (spots_of_heading h)
of_heading h =
    let ps : List Spot = spots_of_names h.params in
    let vs : List Spot = spots_of_names h.values in
    take_fits h.name.spot ps ((ps ++ vs) ++ spots_of_names (specified h)) (ahead_fits ps (ps ++ vs) (spots_of_names (specified h)) (ahead_fits ps ps vs (all_fit ps)))

module _ (blocks : List Block) where
  -- a statement itself and what is inside
  abbrev stmt_sites : PStmt → Begin → Bool → Surroundings → List Site
  stmt_sites s begin listed a = here_stmt s listed a ∷ inside_stmt blocks s begin listed a

  one_declaration : (d : PDecl) (inner rest : List Site) (us vs : List Spot) → Fits (cells_in_decl d ++ At inner) us → Fits (At rest) vs →
      Fits (cells_in_decl d ++ At (inner ++ rest)) (us ++ vs)
  one_declaration d inner rest us vs h k =
      let P : List Spot → Type 0 = λ zs. Fits zs (us ++ vs) in
      subst P (append_assoc (cells_in_decl d) (At inner) (At rest) ∙ ap (λ zs. cells_in_decl d ++ zs) (sym (flat_map-append cell_spots inner rest)))
      (both_fit (cells_in_decl d ++ At inner) (At rest) us vs h k)

  mutual
    in_stmt : (s : PStmt) (begin : Begin) (listed : Bool) (a : Surroundings) → Fits (At (stmt_sites s begin listed a)) (spots_of_stmt s)
    in_stmt tree.empty begin listed a = none_fits []
    in_stmt (tree.label n s) begin listed a =
        skip_fits n.spot (At (stmt_sites s of_statement listed a)) (spots_of_stmt s) (in_stmt s of_statement listed a)
    in_stmt (tree.assign (tree.subscripted n es) x) begin listed a =
        skip_fits n.spot (At (inside_list es a ++ sites x a)) (spots_of_exprs es ++ spots_of_expr x)
        (both (inside_list es a) (sites x a) (spots_of_exprs es) (spots_of_expr x) (in_list a es) (in_sites a x))
    in_stmt (tree.call_of (tree.called n es)) begin listed a =
        skip_fits n.spot (At (inside_actuals es (formals_at a n) a)) (spots_of_exprs es) (in_actuals a es (formals_at a n))
    in_stmt (tree.go_to n) begin listed a = none_fits (n.spot ∷ [])
    in_stmt (tree.block b) begin listed a = in_body b (inside blocks begin b a)
    in_stmt (tree.if_then c x) begin listed a =
        both (sites c a) (stmt_sites x of_statement false a) (spots_of_expr c) (spots_of_stmt x) (in_sites a c) (in_stmt x of_statement false a)
    in_stmt (tree.if_else c x y) begin listed a =
        let xs : List Site = stmt_sites x of_statement false a in
        both (sites c a ++ xs) (stmt_sites y of_statement false a) (spots_of_expr c ++ spots_of_stmt x) (spots_of_stmt y)
        (both (sites c a) xs (spots_of_expr c) (spots_of_stmt x) (in_sites a c) (in_stmt x of_statement false a)) (in_stmt y of_statement false a)
    in_stmt (tree.while c b) begin listed a =
        both (sites c a) (stmt_sites b of_statement false a) (spots_of_expr c) (spots_of_stmt b) (in_sites a c) (in_stmt b of_statement false a)
    in_stmt (tree.until b c) begin listed a =
        both (stmt_sites b of_statement false a) (sites c a) (spots_of_stmt b) (spots_of_expr c) (in_stmt b of_statement false a) (in_sites a c)
    in_stmt (tree.for v x y z b) begin listed a =
        let es : List Site = (sites x a ++ sites y a) ++ sites z a in
        let us : List Spot = (spots_of_expr x ++ spots_of_expr y) ++ spots_of_expr z in
        let xs : List Site = stmt_sites b of_statement false a in
        skip_fits v.spot (At (es ++ xs)) (us ++ spots_of_stmt b)
        (both es xs us (spots_of_stmt b)
        (both (sites x a ++ sites y a) (sites z a) (spots_of_expr x ++ spots_of_expr y) (spots_of_expr z)
        (both (sites x a) (sites y a) (spots_of_expr x) (spots_of_expr y) (in_sites a x) (in_sites a y)) (in_sites a z)) (in_stmt b of_statement false a))
    in_stmt (tree.thru x b) begin listed a =
        both (sites x a) (stmt_sites b of_statement false a) (spots_of_expr x) (spots_of_stmt b) (in_sites a x) (in_stmt b of_statement false a)
    in_stmt (tree.case x ss) begin listed a =
        both (sites x a) (sites_in_stmts blocks ss false a) (spots_of_expr x) (spots_of_stmts ss) (in_sites a x) (in_stmts ss false a)
    in_stmt (tree.process (tree.called n es) task) begin listed a =
        skip_fits n.spot (At (inside_actuals es (formals_at a n) a)) (spots_of_exprs es ++ spots_of_task task)
        (ahead_fits (At (inside_actuals es (formals_at a n) a)) (spots_of_exprs es) (spots_of_task task) (in_actuals a es (formals_at a n)))
    in_stmt (tree.event act x) begin listed a = none_fits (x.name.spot ∷ [])
    in_stmt (tree.write n spot phrases es) begin listed a = skip_fits n.spot (At (inside_list es a)) (spots_of_exprs es) (in_list a es)

    in_body : (b : PBody) (a : Surroundings) → Fits (At (sites_in_body blocks b a)) (spots_of_body b)
    in_body (tree.body spot ds ss) a =
        let xs : List Site = sites_in_decls blocks ds a a.known in
        let ys : List Site = sites_in_stmts blocks ss (has_decls ds) (knowing_all blocks ds a) in
        skip_fits spot (At (xs ++ ys)) (spots_of_decls ds ++ spots_of_stmts ss)
        (both xs ys (spots_of_decls ds) (spots_of_stmts ss) (in_decls ds a a.known) (in_stmts ss (has_decls ds) (knowing_all blocks ds a)))

    in_stmts : (ss : PStmts) (listed : Bool) (a : Surroundings) → Fits (At (sites_in_stmts blocks ss listed a)) (spots_of_stmts ss)
    in_stmts tree.no_stmts listed a = none_fits []
    in_stmts (tree.stmts s ss) listed a =
        both (stmt_sites s of_statement listed a) (sites_in_stmts blocks ss listed a) (spots_of_stmt s) (spots_of_stmts ss) (in_stmt s of_statement listed a)
        (in_stmts ss listed a)

    in_decls : (ds : PDecls) (a : Surroundings) (begun : List Declared) → Fits (At (sites_in_decls blocks ds a begun)) (spots_of_decls ds)
    in_decls tree.no_decls a begun = none_fits []
    in_decls (tree.decls d ds) a begun =
        let n : Surroundings = knowing blocks d ds a in
        one_declaration d (inside_decl blocks d n begun) (sites_in_decls blocks ds n begun) (spots_of_decl d) (spots_of_decls ds) (in_decl d n begun) (in_decls ds n begun)

    -- the place is after the declaration
    in_decl : (d : PDecl) (a : Surroundings) (begun : List Declared) → Fits (cells_in_decl d ++ At (inside_decl blocks d a begun)) (spots_of_decl d)
    in_decl (tree.simple kind ns) a begun = nil_fits (spots_of_names ns) (spots_of_names ns) (all_fit (spots_of_names ns))
    in_decl (tree.files ns) a begun = none_fits (spots_of_names ns)
    in_decl (tree.events ns) a begun = nil_fits (spots_of_names ns) (spots_of_names ns) (all_fit (spots_of_names ns))
    in_decl (tree.tasks ns) a begun = nil_fits (spots_of_names ns) (spots_of_names ns) (all_fit (spots_of_names ns))
    in_decl (tree.labels ns) a begun = none_fits (spots_of_names ns)
    in_decl (tree.arrays kind ns pairs) a begun =
        both_fit (spots_of_names ns) (At (sites_in_pairs pairs (record a { known = begun }))) (spots_of_names ns) (spots_of_pairs pairs) (all_fit (spots_of_names ns))
        (in_pairs (record a { known = begun }) pairs)
    in_decl (tree.forward h) a begun = none_fits (spots_of_heading h)
    in_decl (tree.procedure h s) a begun =
        both_fit (h.name.spot ∷ spots_of_names h.params) (At (stmt_sites s of_procedure false (inside_procedure blocks h a))) (spots_of_heading h) (spots_of_stmt s)
        (of_heading h) (in_stmt s of_procedure false (inside_procedure blocks h a))

-- ---- the whole program

pub cells_apart : (p : PProgram) (blocks : List Block) → IsInOrder p → AreApart (At (sites_by p blocks))
cells_apart (tree.program b) blocks o = (in_body blocks b outermost).apart (ordered (spots_of_body b) o)
