-- The names of a tree stand at places that are all different.
use Rattle.std.proofs.Common.{◌≡◌, Bool, true, false, List, [], ◌∷◌, ◌++◌, map, Option, Some, None, refl, sym, subst, ap, ◌∙◌, append_assoc}
use Rattle.std.proofs.lemmas.Grind.{flat_map-append}
use Rattle.std.specs.List.{flat_map}
use Rattle.algol_tree.specs.declared.token.Spot.{Spot}
use Rattle.algol_tree.specs.declared.tree.Named.{Named}
use Rattle.algol_tree.specs.declared.tree.EventName.{EventName}
use Rattle.algol_tree.specs.Plain as tree
use Rattle.algol_tree.specs.Plain.{PExpr, PExprs, PPair, PStmt, PStmts, PDecl, PDecls, PBody, PProgram, name_alone}
use Rattle.algol_tree.specs.Classes.{Formal}
use Rattle.algol_tree.specs.Sorts.{Declared}
use Rattle.algol_tree.specs.Blocks.{Block, Begin, of_statement, of_procedure}
use Rattle.algol_tree.specs.Surroundings.{Surroundings, formals_at, inside, inside_procedure, knowing, knowing_all, outermost}
use Rattle.algol_tree.specs.Sites as site
use Rattle.algol_tree.specs.Sites.{Part, Site, actual_part, actual_part_by, first_formal, here_stmt, inside_actuals, inside_decl, inside_expr, inside_list, inside_stmt, name_part, other_formals, sites, sites_by, sites_in_body, sites_in_decls, sites_in_pairs, sites_in_stmts, has_decls, wants_value}
use Rattle.algol_tree.specs.Scopes.{if_named, names_in, names_in_expr}
use Rattle.algol_tree.specs.Names.{specified}
use Rattle.algol_tree.specs.Ascending.{IsInOrder, spots_of_body, spots_of_decl, spots_of_decls, spots_of_expr, spots_of_exprs, spots_of_heading, spots_of_names, spots_of_pairs, spots_of_stmt, spots_of_stmts, spots_of_task}
use Rattle.algol_tree.proofs.Alone.{named_alone}
use Rattle.algol_told.proofs.Spots.{AreApart, Fits, all_fit, both_fit, flat_fit, nil_fits, none_fits, ordered, skip_fits, take_fits, turned_fit}

-- the places of the names that a part uses or declares itself
abbrev pub spots_in_decl : PDecl → List Spot
spots_in_decl (tree.simple kind ns) = spots_of_names ns
spots_in_decl (tree.files ns) = spots_of_names ns
spots_in_decl (tree.events ns) = spots_of_names ns
spots_in_decl (tree.tasks ns) = spots_of_names ns
spots_in_decl (tree.labels ns) = spots_of_names ns
spots_in_decl (tree.arrays kind ns pairs) = spots_of_names ns
spots_in_decl (tree.forward h) = h.name.spot ∷ []
spots_in_decl (tree.procedure h s) = spots_of_heading h

abbrev pub spots_in_part : Part → List Spot
spots_in_part (site.declaration d later) = spots_in_decl d
spots_in_part p = spots_of_names (names_in p)

abbrev pub spots_at : Site → List Spot
spots_at x = spots_in_part x.part

abbrev At : List Site → List Spot
At xs = flat_map spots_at xs

-- the first sites have some of the first places, and the others some of those after
both : (xs ys : List Site) (us vs : List Spot) → Fits (At xs) us → Fits (At ys) vs → Fits (At (xs ++ ys)) (us ++ vs)
both xs ys us vs h k = flat_fit spots_at xs ys us vs h k

-- ---- expressions

module _ (a : Surroundings) where
  name_spots : (n : Named) (b : Bool) → spots_in_part (name_part n b) ≡ n.spot ∷ []
  name_spots n true = refl
  name_spots n false = refl

  actual_spots : (o : Option Named) (e : PExpr) (f : Option Formal) → name_alone e ≡ o → spots_in_part (actual_part_by o e f) ≡ spots_of_names (names_in_expr e)
  actual_spots (Some n) e f is = name_spots n (wants_value f) ∙ ap (λ x. spots_of_names (names_in_expr x)) (sym (named_alone e n is))
  actual_spots None e f is = refl

  one_actual : (e : PExpr) (f : Option Formal) (rest : List Site) (us vs : List Spot) → Fits (At (sites e a)) us → Fits (At rest) vs →
      Fits (At (record { part = actual_part e f; around = a } ∷ (inside_expr e a ++ rest))) (us ++ vs)
  one_actual e f rest us vs h k =
      let P : List Spot → Type 0 = λ zs. Fits (zs ++ At (inside_expr e a ++ rest)) (us ++ vs) in
      subst P (sym (actual_spots (name_alone e) e f refl)) (both (sites e a) rest us vs h k)

  abbrev event_spots : List EventName → List Spot
  event_spots es = spots_of_names (map (λ (e : EventName). e.name) es)

  in_events : (es : List EventName) → Fits (event_spots es ++ []) (map (λ (e : EventName). e.name.spot) es)
  in_events [] = none_fits []
  in_events (e ∷ es) = take_fits e.name.spot (event_spots es ++ []) (map (λ (f : EventName). f.name.spot) es) (in_events es)

  mutual
    in_expr : (e : PExpr) → Fits (At (sites e a)) (spots_of_expr e)
    in_expr (tree.number z spot) = none_fits (spot ∷ [])
    in_expr (tree.truth z spot) = none_fits (spot ∷ [])
    in_expr (tree.variable (tree.subscripted n es)) = take_fits n.spot (At (inside_list es a)) (spots_of_exprs es) (in_list es)
    in_expr (tree.call (tree.called n es)) = take_fits n.spot (At (inside_actuals es (formals_at a n) a)) (spots_of_exprs es) (in_actuals es (formals_at a n))
    in_expr (tree.tested test es spot) = skip_fits spot (event_spots es ++ []) (map (λ (e : EventName). e.name.spot) es) (in_events es)
    in_expr (tree.paren e spot) = skip_fits spot (At (sites e a)) (spots_of_expr e) (in_expr e)
    in_expr (tree.plus e spot) = skip_fits spot (At (sites e a)) (spots_of_expr e) (in_expr e)
    in_expr (tree.neg e spot) = skip_fits spot (At (sites e a)) (spots_of_expr e) (in_expr e)
    in_expr (tree.not e spot) = skip_fits spot (At (sites e a)) (spots_of_expr e) (in_expr e)
    in_expr (tree.two op x y) = both (sites x a) (sites y a) (spots_of_expr x) (spots_of_expr y) (in_expr x) (in_expr y)
    in_expr (tree.if c x y spot) =
        skip_fits spot (At ((sites c a ++ sites x a) ++ sites y a)) ((spots_of_expr c ++ spots_of_expr x) ++ spots_of_expr y)
        (both (sites c a ++ sites x a) (sites y a) (spots_of_expr c ++ spots_of_expr x) (spots_of_expr y)
        (both (sites c a) (sites x a) (spots_of_expr c) (spots_of_expr x) (in_expr c) (in_expr x)) (in_expr y))

    in_list : (es : PExprs) → Fits (At (inside_list es a)) (spots_of_exprs es)
    in_list tree.none = none_fits []
    in_list (tree.more e es) = both (sites e a) (inside_list es a) (spots_of_expr e) (spots_of_exprs es) (in_expr e) (in_list es)

    in_actuals : (es : PExprs) (fs : List Formal) → Fits (At (inside_actuals es fs a)) (spots_of_exprs es)
    in_actuals tree.none fs = none_fits []
    in_actuals (tree.more e es) fs =
        one_actual e (first_formal fs) (inside_actuals es (other_formals fs) a) (spots_of_expr e) (spots_of_exprs es) (in_expr e) (in_actuals es (other_formals fs))

  in_pairs : (ps : List PPair) → Fits (At (sites_in_pairs ps a)) (spots_of_pairs ps)
  in_pairs [] = none_fits []
  in_pairs (p ∷ ps) = both (sites p.high a) (sites_in_pairs ps a) (spots_of_expr p.high) (spots_of_pairs ps) (in_expr p.high) (in_pairs ps)

  -- the task of a process stands after its actuals
  in_process : (n : Named) (es : PExprs) (task : Option Named) (fs : List Formal) →
      Fits (n.spot ∷ (spots_of_names (if_named task) ++ At (inside_actuals es fs a))) (n.spot ∷ (spots_of_exprs es ++ spots_of_task task))
  in_process n es None fs =
      take_fits n.spot (At (inside_actuals es fs a)) (spots_of_exprs es ++ [])
      (turned_fit (At (inside_actuals es fs a)) [] (spots_of_exprs es) [] (in_actuals es fs) (none_fits []))
  in_process n es (Some t) fs =
      take_fits n.spot (t.spot ∷ At (inside_actuals es fs a)) (spots_of_exprs es ++ t.spot ∷ [])
      (turned_fit (At (inside_actuals es fs a)) (t.spot ∷ []) (spots_of_exprs es) (t.spot ∷ []) (in_actuals es fs) (all_fit (t.spot ∷ [])))

-- ---- statements and declarations

module _ (blocks : List Block) where
  -- a statement itself and what is inside
  abbrev stmt_sites : PStmt → Begin → Bool → Surroundings → List Site
  stmt_sites s begin listed a = here_stmt s listed a ∷ inside_stmt blocks s begin listed a

  one_declaration : (d : PDecl) (inner rest : List Site) (us vs : List Spot) → Fits (spots_in_decl d ++ At inner) us → Fits (At rest) vs →
      Fits (spots_in_decl d ++ At (inner ++ rest)) (us ++ vs)
  one_declaration d inner rest us vs h k =
      let P : List Spot → Type 0 = λ zs. Fits zs (us ++ vs) in
      subst P (append_assoc (spots_in_decl d) (At inner) (At rest) ∙ ap (λ zs. spots_in_decl d ++ zs) (sym (flat_map-append spots_at inner rest)))
      (both_fit (spots_in_decl d ++ At inner) (At rest) us vs h k)

  mutual
    in_stmt : (s : PStmt) (begin : Begin) (listed : Bool) (a : Surroundings) → Fits (At (stmt_sites s begin listed a)) (spots_of_stmt s)
    in_stmt tree.empty begin listed a = none_fits []
    in_stmt (tree.label n s) begin listed a =
        take_fits n.spot (At (stmt_sites s of_statement listed a)) (spots_of_stmt s) (in_stmt s of_statement listed a)
    in_stmt (tree.assign (tree.subscripted n es) x) begin listed a =
        take_fits n.spot (At (inside_list es a ++ sites x a)) (spots_of_exprs es ++ spots_of_expr x)
        (both (inside_list es a) (sites x a) (spots_of_exprs es) (spots_of_expr x) (in_list a es) (in_expr a x))
    in_stmt (tree.call_of (tree.called n es)) begin listed a =
        take_fits n.spot (At (inside_actuals es (formals_at a n) a)) (spots_of_exprs es) (in_actuals a es (formals_at a n))
    in_stmt (tree.go_to n) begin listed a = all_fit (n.spot ∷ [])
    in_stmt (tree.block b) begin listed a = in_body b (inside blocks begin b a)
    in_stmt (tree.if_then c x) begin listed a =
        both (sites c a) (stmt_sites x of_statement false a) (spots_of_expr c) (spots_of_stmt x) (in_expr a c) (in_stmt x of_statement false a)
    in_stmt (tree.if_else c x y) begin listed a =
        let xs : List Site = stmt_sites x of_statement false a in
        both (sites c a ++ xs) (stmt_sites y of_statement false a) (spots_of_expr c ++ spots_of_stmt x) (spots_of_stmt y)
        (both (sites c a) xs (spots_of_expr c) (spots_of_stmt x) (in_expr a c) (in_stmt x of_statement false a)) (in_stmt y of_statement false a)
    in_stmt (tree.while c b) begin listed a =
        both (sites c a) (stmt_sites b of_statement false a) (spots_of_expr c) (spots_of_stmt b) (in_expr a c) (in_stmt b of_statement false a)
    in_stmt (tree.until b c) begin listed a =
        both (stmt_sites b of_statement false a) (sites c a) (spots_of_stmt b) (spots_of_expr c) (in_stmt b of_statement false a) (in_expr a c)
    in_stmt (tree.for v x y z b) begin listed a =
        let es : List Site = (sites x a ++ sites y a) ++ sites z a in
        let us : List Spot = (spots_of_expr x ++ spots_of_expr y) ++ spots_of_expr z in
        let xs : List Site = stmt_sites b of_statement false a in
        take_fits v.spot (At (es ++ xs)) (us ++ spots_of_stmt b)
        (both es xs us (spots_of_stmt b)
        (both (sites x a ++ sites y a) (sites z a) (spots_of_expr x ++ spots_of_expr y) (spots_of_expr z)
        (both (sites x a) (sites y a) (spots_of_expr x) (spots_of_expr y) (in_expr a x) (in_expr a y)) (in_expr a z)) (in_stmt b of_statement false a))
    in_stmt (tree.thru x b) begin listed a =
        both (sites x a) (stmt_sites b of_statement false a) (spots_of_expr x) (spots_of_stmt b) (in_expr a x) (in_stmt b of_statement false a)
    in_stmt (tree.case x ss) begin listed a =
        both (sites x a) (sites_in_stmts blocks ss false a) (spots_of_expr x) (spots_of_stmts ss) (in_expr a x) (in_stmts ss false a)
    in_stmt (tree.process (tree.called n es) task) begin listed a = in_process a n es task (formals_at a n)
    in_stmt (tree.event act x) begin listed a = all_fit (x.name.spot ∷ [])
    in_stmt (tree.write n spot phrases es) begin listed a = take_fits n.spot (At (inside_list es a)) (spots_of_exprs es) (in_list a es)

    in_body : (b : PBody) (a : Surroundings) → Fits (At (sites_in_body blocks b a)) (spots_of_body b)
    in_body (tree.body spot ds ss) a =
        let xs : List Site = sites_in_decls blocks ds a a.known in
        let ys : List Site = sites_in_stmts blocks ss (has_decls ds) (knowing_all blocks ds a) in
        skip_fits spot (At (xs ++ ys)) (spots_of_decls ds ++ spots_of_stmts ss)
        (both xs ys (spots_of_decls ds) (spots_of_stmts ss) (in_decls ds a a.known) (in_stmts ss (has_decls ds) (knowing_all blocks ds a)))

    in_stmts : (ss : PStmts) (listed : Bool) (a : Surroundings) → Fits (At (sites_in_stmts blocks ss listed a)) (spots_of_stmts ss)
    in_stmts tree.no_stmts listed a = none_fits []
    in_stmts (tree.stmts s ss) listed a =
        both (stmt_sites s of_statement listed a) (sites_in_stmts blocks ss listed a) (spots_of_stmt s) (spots_of_stmts ss) (in_stmt s of_statement listed a)
        (in_stmts ss listed a)

    in_decls : (ds : PDecls) (a : Surroundings) (begun : List Declared) → Fits (At (sites_in_decls blocks ds a begun)) (spots_of_decls ds)
    in_decls tree.no_decls a begun = none_fits []
    in_decls (tree.decls d ds) a begun =
        let n : Surroundings = knowing blocks d ds a in
        one_declaration d (inside_decl blocks d n begun) (sites_in_decls blocks ds n begun) (spots_of_decl d) (spots_of_decls ds) (in_decl d n begun) (in_decls ds n begun)

    -- the place is after the declaration
    in_decl : (d : PDecl) (a : Surroundings) (begun : List Declared) → Fits (spots_in_decl d ++ At (inside_decl blocks d a begun)) (spots_of_decl d)
    in_decl (tree.simple kind ns) a begun = nil_fits (spots_of_names ns) (spots_of_names ns) (all_fit (spots_of_names ns))
    in_decl (tree.files ns) a begun = nil_fits (spots_of_names ns) (spots_of_names ns) (all_fit (spots_of_names ns))
    in_decl (tree.events ns) a begun = nil_fits (spots_of_names ns) (spots_of_names ns) (all_fit (spots_of_names ns))
    in_decl (tree.tasks ns) a begun = nil_fits (spots_of_names ns) (spots_of_names ns) (all_fit (spots_of_names ns))
    in_decl (tree.labels ns) a begun = nil_fits (spots_of_names ns) (spots_of_names ns) (all_fit (spots_of_names ns))
    in_decl (tree.arrays kind ns pairs) a begun =
        both_fit (spots_of_names ns) (At (sites_in_pairs pairs (record a { known = begun }))) (spots_of_names ns) (spots_of_pairs pairs) (all_fit (spots_of_names ns))
        (in_pairs (record a { known = begun }) pairs)
    in_decl (tree.forward h) a begun =
        let rest : List Spot = (spots_of_names h.params ++ spots_of_names h.values) ++ spots_of_names (specified h) in
        take_fits h.name.spot [] rest (none_fits rest)
    in_decl (tree.procedure h s) a begun =
        both_fit (spots_of_heading h) (At (stmt_sites s of_procedure false (inside_procedure blocks h a))) (spots_of_heading h) (spots_of_stmt s)
        (all_fit (spots_of_heading h)) (in_stmt s of_procedure false (inside_procedure blocks h a))

-- ---- the whole program

pub names_apart : (p : PProgram) (blocks : List Block) → IsInOrder p → AreApart (At (sites_by p blocks))
names_apart (tree.program b) blocks o = (in_body blocks b outermost).apart (ordered (spots_of_body b) o)
