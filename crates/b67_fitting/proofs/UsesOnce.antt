-- The uses of names in a program stand at places of its text, no two at one.
use Rattle.algol_tree.proofs.Alone.{named_alone}
use Rattle.algol_tree.specs.declared.tree.EventName.{EventName}
use Rattle.std.proofs.Common.{◌∙◌, sym, arith, ◌≡◌, ℕ, ◌+◌, ◌-◌, ◌≤◌, Bool, true, false, List, [], ◌∷◌, ◌++◌, Option, Some, None, refl, ap, map}
use Rattle.std.specs.List.{flat_map}
use Rattle.algol_tree.specs.declared.token.Spot.{Spot}
use Rattle.algol_tree.specs.declared.tree.Named.{Named}
use Rattle.algol_tree.specs.Ascending.{spots_of_names, spots_of_expr, spots_of_exprs, spots_of_task, spots_of_heading, spots_of_pairs, spots_of_stmt, spots_of_stmts, spots_of_decls}
use Rattle.algol_tree.specs.Blocks.{Block, Begin, of_statement, of_procedure}
use Rattle.algol_tree.specs.Classes.{Formal}
use Rattle.algol_tree.specs.Plain as tree
use Rattle.algol_tree.specs.Plain.{name_alone, PExpr, PExprs, PPair, PStmt, PStmts, PDecls}
use Rattle.algol_tree.specs.Scopes.{Use, used, use_by, left_uses, if_named, part_uses, uses_at}
use Rattle.algol_tree.specs.Sites as site
use Rattle.algol_tree.specs.Sites.{Site, sites, first_formal, other_formals, wants_value, name_part, actual_part, actual_part_by, inside_expr, inside_list, inside_actuals, sites_in_pairs, here_stmt, inside_stmt, sites_in_stmts, sites_in_decls, has_decls}
use Rattle.algol_tree.specs.Sorts as sort
use Rattle.algol_tree.specs.Sorts.{Declared}
use Rattle.algol_tree.specs.Surroundings.{Surroundings, declared_as, formals_at, knowing, knowing_all, inside, inside_procedure}
use Rattle.algol_tree.proofs.Trees.{left_place}
use Rattle.b67_fitting.proofs.Numbering.{here, times, times_both, places, places_both, use_place}

-- the uses of an actual are those of its expression
name_uses : (n : Named) (value : Bool) (a : Surroundings) → part_uses (name_part n value) a ≡ used a n ++ []
name_uses n true a = refl
name_uses n false a = refl

actual_uses : (e : PExpr) (f : Option Formal) (a : Surroundings) → part_uses (actual_part e f) a ≡ part_uses (site.expression e) a
actual_uses e f a = by (name_alone e) refl
  where
    by : (o : Option Named) → name_alone e ≡ o → part_uses (actual_part_by o e f) a ≡ part_uses (site.expression e) a
    by None h = refl
    by (Some n) h = name_uses n (wants_value f) a ∙ ap (λ x. part_uses (site.expression x) a) (sym (named_alone e n h))

-- the places of events are those of their names
spots_of_events : (es : List EventName) → spots_of_names (map (λ (e : EventName). e.name) es) ≡ map (λ (e : EventName). e.name.spot) es
spots_of_events [] = refl
spots_of_events (e ∷ es) = ap (λ xs. e.name.spot ∷ xs) (spots_of_events es)

-- the place of a task's name is that of its use
pub task_places : (task : Option Named) → spots_of_names (if_named task) ≡ spots_of_task task
task_places None = refl
task_places (Some n) = refl

module _ (s : Spot) where
  -- how many uses stand at the place
  abbrev pub uses_in : List Site → ℕ
  uses_in [] = 0
  uses_in (x ∷ xs) = times use_place s (uses_at x) + uses_in xs

  pub uses_both : (xs ys : List Site) → uses_in (xs ++ ys) ≡ uses_in xs + uses_in ys
  uses_both [] ys = omega arith
  uses_both (x ∷ xs) ys = omega (arith, uses_both xs ys)

  pub uses_all : (xs : List Site) → times use_place s (flat_map uses_at xs) ≡ uses_in xs
  uses_all [] = refl
  uses_all (x ∷ xs) = omega (arith, times_both use_place s (uses_at x) (flat_map uses_at xs), uses_all xs)

  -- ---- names

  of_name : (a : Surroundings) (n : Named) (o : Option Declared) → times use_place s (use_by a n o) ≤ places s (n.spot ∷ [])
  of_name a n None = omega arith
  of_name a n (Some d) = omega arith

  of_names : (a : Surroundings) (ns : List Named) → times use_place s (flat_map (used a) ns) ≤ places s (spots_of_names ns)
  of_names a [] = omega arith
  of_names a (n ∷ ns) = omega (arith, times_both use_place s (used a n) (flat_map (used a) ns), of_name a n (declared_as a n), of_names a ns)

  of_left : (a : Surroundings) (n : Named) (o : Option Declared) → times use_place s (left_uses (use_by a n o)) ≤ places s (n.spot ∷ [])
  of_left a n None = omega arith
  of_left a n (Some d) =
      let u : Use = record { spot = n.spot; block = d.block; up = a.depth - d.depth; sort = d.sort } in
      omega (arith, ap (here s) (left_place u d.sort))

  -- ---- expressions

  module _ (a : Surroundings) where
    mutual
      in_expr : (e : PExpr) → uses_in (sites e a) ≤ places s (spots_of_expr e)
      in_expr (tree.number z spot) = omega arith
      in_expr (tree.truth z spot) = omega arith
      in_expr (tree.variable (tree.subscripted n es)) = omega (arith, of_names a (n ∷ []), in_list es)
      in_expr (tree.call (tree.called n es)) = omega (arith, of_names a (n ∷ []), in_actuals es (formals_at a n))
      in_expr (tree.tested x es spot) = omega (arith, of_names a (map (λ (e : EventName). e.name) es), ap (places s) (spots_of_events es))
      in_expr (tree.paren e spot) = omega (arith, in_expr e)
      in_expr (tree.plus e spot) = omega (arith, in_expr e)
      in_expr (tree.neg e spot) = omega (arith, in_expr e)
      in_expr (tree.not e spot) = omega (arith, in_expr e)
      in_expr (tree.two op x y) = omega (arith, uses_both (sites x a) (sites y a), places_both s (spots_of_expr x) (spots_of_expr y), in_expr x, in_expr y)
      in_expr (tree.if c x y spot) =
          omega (
            arith,
            uses_both (sites c a ++ sites x a) (sites y a),
            uses_both (sites c a) (sites x a),
            places_both s (spots_of_expr c ++ spots_of_expr x) (spots_of_expr y),
            places_both s (spots_of_expr c) (spots_of_expr x),
            in_expr c,
            in_expr x,
            in_expr y,
          )

      in_list : (es : PExprs) → uses_in (inside_list es a) ≤ places s (spots_of_exprs es)
      in_list tree.none = omega arith
      in_list (tree.more e es) = omega (arith, uses_both (sites e a) (inside_list es a), places_both s (spots_of_expr e) (spots_of_exprs es), in_expr e, in_list es)

      in_actuals : (es : PExprs) (fs : List Formal) → uses_in (inside_actuals es fs a) ≤ places s (spots_of_exprs es)
      in_actuals tree.none fs = omega arith
      in_actuals (tree.more e es) fs =
          omega (
            arith,
            ap (times use_place s) (actual_uses e (first_formal fs) a),
            uses_both (inside_expr e a) (inside_actuals es (other_formals fs) a),
            places_both s (spots_of_expr e) (spots_of_exprs es),
            in_expr e,
            in_actuals es (other_formals fs),
          )

    in_pairs : (ps : List PPair) → uses_in (sites_in_pairs ps a) ≤ places s (spots_of_pairs ps)
    in_pairs [] = omega arith
    in_pairs (p ∷ ps) =
        omega (arith, uses_both (sites p.high a) (sites_in_pairs ps a), places_both s (spots_of_expr p.high) (spots_of_pairs ps), in_expr p.high, in_pairs ps)

  -- ---- statements and declarations

  module _ (blocks : List Block) where
    abbrev stmt_sites : PStmt → Begin → Bool → Surroundings → List Site
    stmt_sites t begin listed a = here_stmt t listed a ∷ inside_stmt blocks t begin listed a

    mutual
      in_stmt : (t : PStmt) (begin : Begin) (listed : Bool) (a : Surroundings) → uses_in (stmt_sites t begin listed a) ≤ places s (spots_of_stmt t)
      in_stmt tree.empty g l a = omega arith
      in_stmt (tree.label n t) g l a = omega (arith, of_names a (n ∷ []), in_stmt t of_statement l a)
      in_stmt (tree.assign (tree.subscripted n es) e) g l a =
          omega (arith, of_left a n (declared_as a n), uses_both (inside_list es a) (sites e a), places_both s (spots_of_exprs es) (spots_of_expr e), in_list a es, in_expr a e)
      in_stmt (tree.call_of (tree.called n es)) g l a = omega (arith, of_names a (n ∷ []), in_actuals a es (formals_at a n))
      in_stmt (tree.go_to n) g l a = omega (arith, of_names a (n ∷ []))
      in_stmt (tree.block (tree.body spot ds ss)) g l a =
          let c : Surroundings = inside blocks g (tree.body spot ds ss) a in
          let k : Surroundings = knowing_all blocks ds c in
          omega (
            arith,
            uses_both (sites_in_decls blocks ds c c.known) (sites_in_stmts blocks ss (has_decls ds) k),
            places_both s (spots_of_decls ds) (spots_of_stmts ss),
            in_decls ds c c.known,
            in_stmts ss (has_decls ds) k,
          )
      in_stmt (tree.if_then c x) g l a =
          omega (arith, uses_both (sites c a) (stmt_sites x of_statement false a), places_both s (spots_of_expr c) (spots_of_stmt x), in_expr a c, in_stmt x of_statement false a)
      in_stmt (tree.if_else c x y) g l a =
          omega (
            arith,
            uses_both (sites c a ++ stmt_sites x of_statement false a) (stmt_sites y of_statement false a),
            uses_both (sites c a) (stmt_sites x of_statement false a),
            places_both s (spots_of_expr c ++ spots_of_stmt x) (spots_of_stmt y),
            places_both s (spots_of_expr c) (spots_of_stmt x),
            in_expr a c,
            in_stmt x of_statement false a,
            in_stmt y of_statement false a,
          )
      in_stmt (tree.while c x) g l a =
          omega (arith, uses_both (sites c a) (stmt_sites x of_statement false a), places_both s (spots_of_expr c) (spots_of_stmt x), in_expr a c, in_stmt x of_statement false a)
      in_stmt (tree.until x c) g l a =
          omega (arith, uses_both (stmt_sites x of_statement false a) (sites c a), places_both s (spots_of_stmt x) (spots_of_expr c), in_expr a c, in_stmt x of_statement false a)
      in_stmt (tree.for v x y z t) g l a =
          omega (
            arith,
            of_names a (v ∷ []),
            uses_both (sites x a ++ sites y a ++ sites z a) (stmt_sites t of_statement false a),
            uses_both (sites x a ++ sites y a) (sites z a),
            uses_both (sites x a) (sites y a),
            places_both s (spots_of_expr x ++ spots_of_expr y ++ spots_of_expr z) (spots_of_stmt t),
            places_both s (spots_of_expr x ++ spots_of_expr y) (spots_of_expr z),
            places_both s (spots_of_expr x) (spots_of_expr y),
            in_expr a x,
            in_expr a y,
            in_expr a z,
            in_stmt t of_statement false a,
          )
      in_stmt (tree.thru e x) g l a =
          omega (arith, uses_both (sites e a) (stmt_sites x of_statement false a), places_both s (spots_of_expr e) (spots_of_stmt x), in_expr a e, in_stmt x of_statement false a)
      in_stmt (tree.case e ss) g l a =
          omega (arith, uses_both (sites e a) (sites_in_stmts blocks ss false a), places_both s (spots_of_expr e) (spots_of_stmts ss), in_expr a e, in_stmts ss false a)
      in_stmt (tree.process (tree.called n es) task) g l a =
          omega (
            arith,
            of_names a (n ∷ if_named task),
            ap (places s) (task_places task),
            in_actuals a es (formals_at a n),
            places_both s (spots_of_exprs es) (spots_of_task task),
          )
      in_stmt (tree.event act e) g l a = omega (arith, of_names a (e.name ∷ []))
      in_stmt (tree.write n spot phrases es) g l a = omega (arith, of_names a (n ∷ []), in_list a es)

      pub in_stmts : (ss : PStmts) (listed : Bool) (a : Surroundings) → uses_in (sites_in_stmts blocks ss listed a) ≤ places s (spots_of_stmts ss)
      in_stmts tree.no_stmts l a = omega arith
      in_stmts (tree.stmts t ss) l a =
          omega (arith, uses_both (stmt_sites t of_statement l a) (sites_in_stmts blocks ss l a), places_both s (spots_of_stmt t) (spots_of_stmts ss), in_stmt t of_statement l a, in_stmts ss l a)

      -- declarations use names only in bounds and in the bodies of procedures
      pub in_decls : (ds : PDecls) (a : Surroundings) (first : List Declared) → uses_in (sites_in_decls blocks ds a first) ≤ places s (spots_of_decls ds)
      in_decls tree.no_decls a first = omega arith
      in_decls (tree.decls (tree.simple kind ns) ds) a first =
          omega (arith, places_both s (spots_of_names ns) (spots_of_decls ds), in_decls ds (knowing blocks (tree.simple kind ns) ds a) first)
      in_decls (tree.decls (tree.files ns) ds) a first =
          omega (arith, places_both s (spots_of_names ns) (spots_of_decls ds), in_decls ds (knowing blocks (tree.files ns) ds a) first)
      in_decls (tree.decls (tree.events ns) ds) a first =
          omega (arith, places_both s (spots_of_names ns) (spots_of_decls ds), in_decls ds (knowing blocks (tree.events ns) ds a) first)
      in_decls (tree.decls (tree.tasks ns) ds) a first =
          omega (arith, places_both s (spots_of_names ns) (spots_of_decls ds), in_decls ds (knowing blocks (tree.tasks ns) ds a) first)
      in_decls (tree.decls (tree.labels ns) ds) a first =
          omega (arith, places_both s (spots_of_names ns) (spots_of_decls ds), in_decls ds (knowing blocks (tree.labels ns) ds a) first)
      in_decls (tree.decls (tree.arrays kind ns pairs) ds) a first =
          let after : Surroundings = knowing blocks (tree.arrays kind ns pairs) ds a in
          let bounds : Surroundings = record after { known = first } in
          omega (
            arith,
            uses_both (sites_in_pairs pairs bounds) (sites_in_decls blocks ds after first),
            places_both s (spots_of_names ns ++ spots_of_pairs pairs) (spots_of_decls ds),
            places_both s (spots_of_names ns) (spots_of_pairs pairs),
            in_pairs bounds pairs,
            in_decls ds after first,
          )
      in_decls (tree.decls (tree.forward h) ds) a first =
          omega (arith, places_both s (spots_of_heading h) (spots_of_decls ds), in_decls ds (knowing blocks (tree.forward h) ds a) first)
      in_decls (tree.decls (tree.procedure h t) ds) a first =
          let after : Surroundings = knowing blocks (tree.procedure h t) ds a in
          let c : Surroundings = inside_procedure blocks h after in
          omega (
            arith,
            uses_both (stmt_sites t of_procedure false c) (sites_in_decls blocks ds after first),
            places_both s (spots_of_heading h ++ spots_of_stmt t) (spots_of_decls ds),
            places_both s (spots_of_heading h) (spots_of_stmt t),
            in_stmt t of_procedure false c,
            in_decls ds after first,
          )
