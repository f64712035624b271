-- The names that are found in an accepted tree mean by its scopes what its uses say.
use Rattle.std.proofs.Common.{arith, ◌≡◌, ℕ, ℤ, suc, ◌+◌, ◌-◌, Bool, true, false, List, [], ◌∷◌, ◌++◌, Option, Some, None, refl, sym, ap, ◌∙◌, append-nil, map, subst}
use Rattle.std.proofs.lemmas.Grind.{flat_map-append}
use Rattle.std.specs.List.{AllByRecursion, flat_map}
use Rattle.algol_tree.specs.declared.token.Spot.{Spot}
use Rattle.algol_tree.specs.declared.tree.Named.{Named}
use Rattle.algol_tree.specs.declared.tree.EventName.{EventName}
use Rattle.algol_tree.specs.Plain as tree
use Rattle.algol_tree.specs.Plain.{PExpr, PExprs, PPair, PStmt, PStmts, PDecl, PDecls, PBody, name_alone}
use Rattle.algol_tree.specs.Ascending.{IsInOrder}
use Rattle.algol_tree.specs.Blocks.{Block, Begin, of_statement, of_procedure, blocks_of_program, number_at}
use Rattle.algol_tree.specs.Classes.{Formal}
use Rattle.algol_tree.specs.Scopes as scoping
use Rattle.algol_tree.specs.Sorts as plain
use Rattle.algol_tree.specs.Sorts.{Declared}
use Rattle.algol_tree.specs.Surroundings.{Surroundings, formals_at, inside_procedure, knowing, knowing_all, outermost}
use Rattle.algol_tree.specs.Sites.{Site, actual_part_by, first_formal, here, here_stmt, inside_actuals, inside_decl, inside_expr, inside_list, inside_stmt, name_part, other_formals, sites, sites_in_body, sites_in_decls, sites_in_pairs, sites_in_stmts, has_decls, wants_value}
use Rattle.algol_tree.proofs.Alone.{named_alone}
use Rattle.algol_tree.proofs.Trees.{found_known, same_depth}
use Rattle.algol_sorts.specs.Sorts.{sort_of}
use Rattle.algol_frames.specs.declared.scopes.Declared as laid
use Rattle.algol_frames.specs.declared.scopes.Scopes.{Scopes}
use Rattle.algol_scope.specs.Resolved.{AreOf, declaration_of}
use Rattle.algol_told.specs.Telling.{ScopesTell, TellsAll, TellsAt}
use Rattle.algol_told.proofs.Declarations.{DeclsHave, InDecl, StmtHas, StmtsHave}
use Rattle.algol_told.proofs.Lists.{all_left, all_right}
use Rattle.algol_told.proofs.Told.{each_part_is_told}
use Rattle.algol_paths.specs.Arrays.{Lows, lows_at}
use Rattle.algol_lows.proofs.Formals.{FormalsFound, formals_found}
use Rattle.algol_names.specs.declared.found.Found.{Found}
use Rattle.algol_names.specs.Found.{at, at_left, in_body, in_decl, in_decls, in_expr, in_exprs, in_pairs, in_stmt, in_stmts, in_task}
use Rattle.algol_cells.specs.SeenScope.{sort_as}
use Rattle.algol_names.specs.Kept.{lows_listed as listed}
use Rattle.algol_names.specs.Meant as meant
use Rattle.algol_names.proofs.Clear.{AllClear, IsClear, all_clear, inside_clear, knowing_clear}
use Rattle.algol_names.proofs.Parts.{assign_uses, body_uses, call_uses, called_uses, case_uses, counting_uses, decl_uses, declared_uses, decls_uses, else_uses, event_uses, expr_uses, go_to_uses, if_uses, label_uses, list_uses, more_uses, pairs_uses, process_uses, stmt_uses, stmts_uses, task_uses, then_uses, thru_uses, two_uses, until_uses, variable_uses, while_uses, whole_uses, write_uses}

next : (n : ℕ) → suc n ≡ n + 1
next n = omega arith

module _ (s : Scopes) (lows : Spot → Option Lows) (blocks : List Block) where
  abbrev list_at : Spot → List ℤ
  list_at spot = listed (lows spot)

  abbrev use_by : Found → Option laid.Declared → List scoping.Use
  use_by f o = meant.use_by (declaration_of s) list_at blocks f o

  abbrev told : Found → List scoping.Use
  told f = meant.use_told (declaration_of s) list_at blocks f

  abbrev all_told : List Found → List scoping.Use
  all_told fs = meant.uses_told (declaration_of s) list_at blocks fs

  abbrev Clear : Surroundings → Type 0
  Clear a = AllClear lows blocks a

  joined : (xs ys : List Found) (us vs : List scoping.Use) → all_told xs ≡ us → all_told ys ≡ vs → all_told (xs ++ ys) ≡ us ++ vs
  joined xs ys us vs h k = flat_map-append told xs ys ∙ ap (λ (z : List scoping.Use). z ++ all_told ys) h ∙ ap (λ (z : List scoping.Use). us ++ z) k

  -- ---- one name

  abbrev made : Spot → ℕ → ℕ → plain.Sort → List scoping.Use
  made spot block up sort = record { spot = spot; block = block; up = up; sort = sort } ∷ []

  name_meant : (n : Named) (a : Surroundings) → Clear a → ScopesTell s a n → told (at n (suc a.depth)) ≡ scoping.used a n
  name_meant n a c t =
      let d = t.declared in
      let x = t.told in
      let level : x.level ≡ d.depth + 2 = t.level in
      let up : suc a.depth - (x.level - 1) ≡ a.depth - d.depth = omega (arith, level) in
      let clear : sort_as (sort_of d) (list_at d.spot) (number_at blocks d.spot) ≡ d.sort = found_known (IsClear lows blocks) a.known n.name d c t.found in
      ap (use_by (at n (suc a.depth))) t.answers
      ∙ ap (λ (z : ℕ). made n.spot z (suc a.depth - (x.level - 1)) (sort_as x.sort (list_at x.spot) (number_at blocks x.spot))) t.block
      ∙ ap (λ (z : ℕ). made n.spot d.block z (sort_as x.sort (list_at x.spot) (number_at blocks x.spot))) up
      ∙ ap (λ (z : Spot). made n.spot d.block (a.depth - d.depth) (sort_as x.sort (list_at z) (number_at blocks z))) t.spot
      ∙ ap (λ z. made n.spot d.block (a.depth - d.depth) (sort_as z (list_at d.spot) (number_at blocks d.spot))) t.sort
      ∙ ap (λ (z : plain.Sort). made n.spot d.block (a.depth - d.depth) z) clear
      ∙ sym (ap (scoping.use_by a n) t.found)

  left_by : (n : Named) (k : ℕ) (o : Option laid.Declared) → use_by (at_left n k) o ≡ scoping.left_uses (use_by (at n k) o)
  left_by n k None = refl
  left_by n k (Some x) = refl

  left_meant : (n : Named) (a : Surroundings) → Clear a → ScopesTell s a n → told (at_left n (suc a.depth)) ≡ scoping.left_uses (scoping.used a n)
  left_meant n a c t = left_by n (suc a.depth) (declaration_of s n.spot) ∙ ap scoping.left_uses (name_meant n a c t)

  -- a name before others
  first_meant : (n : Named) (a : Surroundings) (fs : List Found) (us : List scoping.Use) → Clear a → ScopesTell s a n → all_told fs ≡ us →
      all_told (at n (suc a.depth) ∷ fs) ≡ scoping.used a n ++ us
  first_meant n a fs us c t h = ap (λ (z : List scoping.Use). z ++ all_told fs) (name_meant n a c t) ∙ ap (λ (z : List scoping.Use). scoping.used a n ++ z) h

  alone_meant : (n : Named) (a : Surroundings) → Clear a → ScopesTell s a n → all_told (at n (suc a.depth) ∷ []) ≡ scoping.used a n
  alone_meant n a c t = first_meant n a [] [] c t refl ∙ append-nil (scoping.used a n)

  -- ---- expressions

  name_at : (n : Named) (b : Bool) (a : Surroundings) → TellsAt s (record { part = name_part n b; around = a }) →
      TellsAt s (here (tree.variable (tree.subscripted n tree.none)) a)
  name_at n true a t = t
  name_at n false a t = t

  -- an actual uses the names that the expression uses
  actual_at : (o : Option Named) (e : PExpr) (f : Option Formal) (a : Surroundings) → name_alone e ≡ o → TellsAt s (record { part = actual_part_by o e f; around = a }) → TellsAt s (here e a)
  actual_at (Some n) e f a is t = subst (λ x. TellsAt s (here x a)) (sym (named_alone e n is)) (name_at n (wants_value f) a t)
  actual_at None e f a is t = t

  left_told : (xs ys : List Site) → TellsAll s (xs ++ ys) → TellsAll s xs
  left_told xs ys t = all_left (TellsAt s) xs ys t

  right_told : (xs ys : List Site) → TellsAll s (xs ++ ys) → TellsAll s ys
  right_told xs ys t = all_right (TellsAt s) xs ys t

  abbrev events_uses : List EventName → Surroundings → List scoping.Use
  events_uses es a = flat_map (scoping.used a) (map (λ (e : EventName). e.name) es)

  events_meant : (es : List EventName) (a : Surroundings) → Clear a → AllByRecursion (ScopesTell s a) (map (λ (e : EventName). e.name) es) →
      all_told (map (λ (e : EventName). at e.name (suc a.depth)) es) ≡ events_uses es a
  events_meant [] a c t = refl
  events_meant (e ∷ es) a c t = first_meant e.name a (map (λ (f : EventName). at f.name (suc a.depth)) es) (events_uses es a) c t.0 (events_meant es a c t.1)

  mutual
    expr_meant : (e : PExpr) (a : Surroundings) → Clear a → TellsAll s (sites e a) → all_told (in_expr e (suc a.depth)) ≡ expr_uses e a
    expr_meant (tree.number z spot) a c t = refl
    expr_meant (tree.truth b spot) a c t = refl
    expr_meant (tree.variable (tree.subscripted n es)) a c t =
        first_meant n a (in_exprs es (suc a.depth)) (list_uses es a) c t.0.0 (list_meant es a c t.1) ∙ sym (variable_uses n es a)
    expr_meant (tree.call (tree.called n es)) a c t =
        first_meant n a (in_exprs es (suc a.depth)) (list_uses es a) c t.0.0 (actuals_meant es (formals_at a n) a c t.1) ∙ sym (call_uses n es a)
    expr_meant (tree.tested test es spot) a c t = events_meant es a c t.0 ∙ sym (append-nil (events_uses es a))
    expr_meant (tree.paren e spot) a c t = expr_meant e a c t.1
    expr_meant (tree.plus e spot) a c t = expr_meant e a c t.1
    expr_meant (tree.neg e spot) a c t = expr_meant e a c t.1
    expr_meant (tree.not e spot) a c t = expr_meant e a c t.1
    expr_meant (tree.two op x y) a c t =
        let k = suc a.depth in
        joined (in_expr x k) (in_expr y k) (expr_uses x a) (expr_uses y a) (expr_meant x a c (left_told (sites x a) (sites y a) t.1))
        (expr_meant y a c (right_told (sites x a) (sites y a) t.1))
        ∙ sym (two_uses op x y a)
    expr_meant (tree.if g x y spot) a c t =
        let k = suc a.depth in
        let gx = sites g a ++ sites x a in
        let two = left_told gx (sites y a) t.1 in
        joined (in_expr g k) (in_expr x k ++ in_expr y k) (expr_uses g a) (expr_uses x a ++ expr_uses y a) (expr_meant g a c (left_told (sites g a) (sites x a) two))
        (joined (in_expr x k) (in_expr y k) (expr_uses x a) (expr_uses y a) (expr_meant x a c (right_told (sites g a) (sites x a) two))
        (expr_meant y a c (right_told gx (sites y a) t.1)))
        ∙ sym (if_uses g x y spot a)

    list_meant : (es : PExprs) (a : Surroundings) → Clear a → TellsAll s (inside_list es a) → all_told (in_exprs es (suc a.depth)) ≡ list_uses es a
    list_meant tree.none a c t = refl
    list_meant (tree.more e es) a c t =
        let k = suc a.depth in
        joined (in_expr e k) (in_exprs es k) (expr_uses e a) (list_uses es a) (expr_meant e a c (left_told (sites e a) (inside_list es a) t))
        (list_meant es a c (right_told (sites e a) (inside_list es a) t))
        ∙ sym (flat_map-append scoping.uses_at (sites e a) (inside_list es a))

    actuals_meant : (es : PExprs) (fs : List Formal) (a : Surroundings) → Clear a → TellsAll s (inside_actuals es fs a) → all_told (in_exprs es (suc a.depth)) ≡ list_uses es a
    actuals_meant tree.none fs a c t = refl
    actuals_meant (tree.more e es) fs a c t =
        let k = suc a.depth in
        let more = inside_actuals es (other_formals fs) a in
        joined (in_expr e k) (in_exprs es k) (expr_uses e a) (list_uses es a)
        (expr_meant e a c (actual_at (name_alone e) e (first_formal fs) a refl t.1.0, left_told (inside_expr e a) more t.1.1))
        (actuals_meant es (other_formals fs) a c (right_told (inside_expr e a) more t.1.1))
        ∙ sym (flat_map-append scoping.uses_at (sites e a) (inside_list es a))

  pairs_meant : (ps : List PPair) (a : Surroundings) → Clear a → TellsAll s (sites_in_pairs ps a) → all_told (in_pairs ps (suc a.depth)) ≡ pairs_uses ps a
  pairs_meant [] a c t = refl
  pairs_meant (p ∷ ps) a c t =
      let k = suc a.depth in
      joined (in_expr p.high k) (in_pairs ps k) (expr_uses p.high a) (pairs_uses ps a) (expr_meant p.high a c (left_told (sites p.high a) (sites_in_pairs ps a) t.1))
      (pairs_meant ps a c (right_told (sites p.high a) (sites_in_pairs ps a) t.1))
      ∙ sym (flat_map-append scoping.uses_at (sites p.high a) (sites_in_pairs ps a))

  task_meant : (task : Option Named) (a : Surroundings) → Clear a → AllByRecursion (ScopesTell s a) (scoping.if_named task) → all_told (in_task task (suc a.depth)) ≡ task_uses task a
  task_meant None a c t = refl
  task_meant (Some n) a c t = alone_meant n a c t.0

  -- ---- statements and declarations

  -- under the place of each parameter its heading's lower bounds are kept
  abbrev Found' : PDecl → PDecls → Type 0
  Found' d later = FormalsFound lows d later

  abbrev stmt_sites : PStmt → Begin → Bool → Surroundings → List Site
  stmt_sites t begin listed a = here_stmt t listed a ∷ inside_stmt blocks t begin listed a

  -- what declarations and statements use is what their BEGIN uses
  body_joined : (spot : Spot) (ds : PDecls) (xs : PStmts) (a : Surroundings) → all_told (in_decls ds (suc a.depth)) ≡ decls_uses blocks ds a a.known →
      all_told (in_stmts xs (suc (knowing_all blocks ds a).depth)) ≡ stmts_uses blocks xs (has_decls ds) (knowing_all blocks ds a) →
      all_told (in_body (tree.body spot ds xs) (suc a.depth)) ≡ body_uses blocks (tree.body spot ds xs) a
  body_joined spot ds xs a d x =
      let k = suc a.depth in
      joined (in_decls ds k) (in_stmts xs k) (decls_uses blocks ds a a.known) (stmts_uses blocks xs (has_decls ds) (knowing_all blocks ds a)) d
      (ap (λ (z : ℕ). all_told (in_stmts xs (suc z))) (sym (same_depth blocks ds a)) ∙ x)
      ∙ sym (whole_uses blocks spot ds xs a)

  -- .. seen from the place of the BEGIN
  abbrev decls_part : PDecls → Surroundings → List Site
  decls_part ds a = sites_in_decls blocks ds a a.known

  abbrev stmts_part : PDecls → PStmts → Surroundings → List Site
  stmts_part ds xs a = sites_in_stmts blocks xs (has_decls ds) (knowing_all blocks ds a)

  mutual
    stmt_meant : (x : PStmt) (begin : Begin) (listed : Bool) (a : Surroundings) → Clear a → StmtHas Found' x → TellsAll s (stmt_sites x begin listed a) →
        all_told (in_stmt x begin (suc a.depth)) ≡ stmt_uses blocks x begin listed a
    stmt_meant tree.empty begin listed a c f t = refl
    stmt_meant (tree.label n x) begin listed a c f t =
        first_meant n a (in_stmt x of_statement (suc a.depth)) (stmt_uses blocks x of_statement listed a) c t.0.0 (stmt_meant x of_statement listed a c f t.1)
        ∙ sym (label_uses blocks n x begin listed a)
    stmt_meant (tree.assign (tree.subscripted n es) e) begin listed a c f t =
        let k = suc a.depth in
        ap (λ (z : List scoping.Use). z ++ all_told (in_exprs es k ++ in_expr e k)) (left_meant n a c t.0.0)
        ∙ ap (λ (z : List scoping.Use). scoping.left_uses (scoping.used a n) ++ z)
        (joined (in_exprs es k) (in_expr e k) (list_uses es a) (expr_uses e a) (list_meant es a c (left_told (inside_list es a) (sites e a) t.1))
        (expr_meant e a c (right_told (inside_list es a) (sites e a) t.1)))
        ∙ sym (assign_uses blocks n es e begin listed a)
    stmt_meant (tree.call_of (tree.called n es)) begin listed a c f t =
        first_meant n a (in_exprs es (suc a.depth)) (list_uses es a) c t.0.0 (actuals_meant es (formals_at a n) a c t.1) ∙ sym (called_uses blocks n es begin listed a)
    stmt_meant (tree.go_to n) begin listed a c f t = alone_meant n a c t.0.0 ∙ sym (go_to_uses blocks n begin listed a)
    stmt_meant (tree.block (tree.body spot tree.no_decls xs)) of_statement listed a c f t = stmts_meant xs false a c f.1 t.1
    stmt_meant (tree.block (tree.body spot (tree.decls d ds) xs)) of_statement listed a c f t =
        let b = tree.body spot (tree.decls d ds) xs in
        let i : Surroundings = record { block = number_at blocks spot; depth = a.depth + 1; known = a.known } in
        ap (λ (z : ℕ). all_told (in_body b (suc z))) (next a.depth)
        ∙ body_joined spot (tree.decls d ds) xs i
        (decls_meant (tree.decls d ds) i i.known c c f.0 (left_told (decls_part (tree.decls d ds) i) (stmts_part (tree.decls d ds) xs i) t.1))
        (stmts_meant xs true (knowing_all blocks (tree.decls d ds) i) (all_clear lows blocks (tree.decls d ds) i c) f.1
        (right_told (decls_part (tree.decls d ds) i) (stmts_part (tree.decls d ds) xs i) t.1))
    stmt_meant (tree.block (tree.body spot ds xs)) of_procedure listed a c f t =
        body_joined spot ds xs a (decls_meant ds a a.known c c f.0 (left_told (decls_part ds a) (stmts_part ds xs a) t.1))
        (stmts_meant xs (has_decls ds) (knowing_all blocks ds a) (all_clear lows blocks ds a c) f.1 (right_told (decls_part ds a) (stmts_part ds xs a) t.1))
    stmt_meant (tree.if_then g x) begin listed a c f t =
        let k = suc a.depth in
        let xs = stmt_sites x of_statement false a in
        joined (in_expr g k) (in_stmt x of_statement k) (expr_uses g a) (stmt_uses blocks x of_statement false a) (expr_meant g a c (left_told (sites g a) xs t.1))
        (stmt_meant x of_statement false a c f (right_told (sites g a) xs t.1))
        ∙ sym (then_uses blocks g x begin listed a)
    stmt_meant (tree.if_else g x y) begin listed a c f t =
        let k = suc a.depth in
        let xs = stmt_sites x of_statement false a in
        let ys = stmt_sites y of_statement false a in
        let two = left_told (sites g a ++ xs) ys t.1 in
        joined (in_expr g k) (in_stmt x of_statement k ++ in_stmt y of_statement k) (expr_uses g a)
        (stmt_uses blocks x of_statement false a ++ stmt_uses blocks y of_statement false a) (expr_meant g a c (left_told (sites g a) xs two))
        (joined (in_stmt x of_statement k) (in_stmt y of_statement k) (stmt_uses blocks x of_statement false a) (stmt_uses blocks y of_statement false a)
        (stmt_meant x of_statement false a c f.0 (right_told (sites g a) xs two)) (stmt_meant y of_statement false a c f.1 (right_told (sites g a ++ xs) ys t.1)))
        ∙ sym (else_uses blocks g x y begin listed a)
    stmt_meant (tree.while g x) begin listed a c f t =
        let k = suc a.depth in
        let xs = stmt_sites x of_statement false a in
        joined (in_expr g k) (in_stmt x of_statement k) (expr_uses g a) (stmt_uses blocks x of_statement false a) (expr_meant g a c (left_told (sites g a) xs t.1))
        (stmt_meant x of_statement false a c f (right_told (sites g a) xs t.1))
        ∙ sym (while_uses blocks g x begin listed a)
    stmt_meant (tree.until x g) begin listed a c f t =
        let k = suc a.depth in
        let xs = stmt_sites x of_statement false a in
        joined (in_stmt x of_statement k) (in_expr g k) (stmt_uses blocks x of_statement false a) (expr_uses g a)
        (stmt_meant x of_statement false a c f (left_told xs (sites g a) t.1)) (expr_meant g a c (right_told xs (sites g a) t.1))
        ∙ sym (until_uses blocks x g begin listed a)
    stmt_meant (tree.for v p q r x) begin listed a c f t =
        let k = suc a.depth in
        let xs = stmt_sites x of_statement false a in
        let all = (sites p a ++ sites q a) ++ sites r a in
        let three = left_told all xs t.1 in
        let two = left_told (sites p a ++ sites q a) (sites r a) three in
        joined (at v k ∷ (in_expr p k ++ (in_expr q k ++ in_expr r k))) (in_stmt x of_statement k)
        (scoping.used a v ++ (expr_uses p a ++ (expr_uses q a ++ expr_uses r a))) (stmt_uses blocks x of_statement false a)
        (first_meant v a (in_expr p k ++ (in_expr q k ++ in_expr r k)) (expr_uses p a ++ (expr_uses q a ++ expr_uses r a)) c t.0.0
        (joined (in_expr p k) (in_expr q k ++ in_expr r k) (expr_uses p a) (expr_uses q a ++ expr_uses r a) (expr_meant p a c (left_told (sites p a) (sites q a) two))
        (joined (in_expr q k) (in_expr r k) (expr_uses q a) (expr_uses r a) (expr_meant q a c (right_told (sites p a) (sites q a) two))
        (expr_meant r a c (right_told (sites p a ++ sites q a) (sites r a) three)))))
        (stmt_meant x of_statement false a c f (right_told all xs t.1))
        ∙ sym (counting_uses blocks v p q r x begin listed a)
    stmt_meant (tree.thru g x) begin listed a c f t =
        let k = suc a.depth in
        let xs = stmt_sites x of_statement false a in
        joined (in_expr g k) (in_stmt x of_statement k) (expr_uses g a) (stmt_uses blocks x of_statement false a) (expr_meant g a c (left_told (sites g a) xs t.1))
        (stmt_meant x of_statement false a c f (right_told (sites g a) xs t.1))
        ∙ sym (thru_uses blocks g x begin listed a)
    stmt_meant (tree.case g xs) begin listed a c f t =
        let k = suc a.depth in
        let its = sites_in_stmts blocks xs false a in
        joined (in_expr g k) (in_stmts xs k) (expr_uses g a) (stmts_uses blocks xs false a) (expr_meant g a c (left_told (sites g a) its t.1))
        (stmts_meant xs false a c f (right_told (sites g a) its t.1))
        ∙ sym (case_uses blocks g xs begin listed a)
    stmt_meant (tree.process (tree.called n es) task) begin listed a c f t =
        let k = suc a.depth in
        first_meant n a (in_task task k ++ in_exprs es k) (task_uses task a ++ list_uses es a) c t.0.0
        (joined (in_task task k) (in_exprs es k) (task_uses task a) (list_uses es a) (task_meant task a c t.0.1) (actuals_meant es (formals_at a n) a c t.1))
        ∙ sym (process_uses blocks n es task begin listed a)
    stmt_meant (tree.event act e) begin listed a c f t = alone_meant e.name a c t.0.0 ∙ sym (event_uses blocks act e begin listed a)
    stmt_meant (tree.write n spot phrases es) begin listed a c f t =
        first_meant n a (in_exprs es (suc a.depth)) (list_uses es a) c t.0.0 (list_meant es a c t.1) ∙ sym (write_uses blocks n spot phrases es begin listed a)

    stmts_meant : (xs : PStmts) (listed : Bool) (a : Surroundings) → Clear a → StmtsHave Found' xs → TellsAll s (sites_in_stmts blocks xs listed a) →
        all_told (in_stmts xs (suc a.depth)) ≡ stmts_uses blocks xs listed a
    stmts_meant tree.no_stmts listed a c f t = refl
    stmts_meant (tree.stmts x xs) listed a c f t =
        let k = suc a.depth in
        let own = inside_stmt blocks x of_statement listed a in
        let more = sites_in_stmts blocks xs listed a in
        joined (in_stmt x of_statement k) (in_stmts xs k) (stmt_uses blocks x of_statement listed a) (stmts_uses blocks xs listed a)
        (stmt_meant x of_statement listed a c f.0 (t.0, left_told own more t.1)) (stmts_meant xs listed a c f.1 (right_told own more t.1))
        ∙ sym (more_uses blocks x xs listed a)

    decls_meant : (ds : PDecls) (a : Surroundings) (begun : List Declared) → Clear a → Clear (record a { known = begun }) → DeclsHave Found' ds →
        TellsAll s (sites_in_decls blocks ds a begun) → all_told (in_decls ds (suc a.depth)) ≡ decls_uses blocks ds a begun
    decls_meant tree.no_decls a begun c b f t = refl
    decls_meant (tree.decls d ds) a begun c b f t =
        let k = suc a.depth in
        let n : Surroundings = knowing blocks d ds a in
        let own = inside_decl blocks d n begun in
        let more = sites_in_decls blocks ds n begun in
        joined (in_decl d k) (in_decls ds k) (decl_uses blocks d n begun) (decls_uses blocks ds n begun)
        (decl_meant d ds n begun (knowing_clear lows blocks d ds a c) b f.0 f.1.0 (left_told own more t.1))
        (decls_meant ds n begun (knowing_clear lows blocks d ds a c) b f.1.1 (right_told own more t.1))
        ∙ sym (declared_uses blocks d ds a begun)

    -- the place is after the declaration
    decl_meant : (d : PDecl) (later : PDecls) (a : Surroundings) (begun : List Declared) → Clear a → Clear (record a { known = begun }) → Found' d later → InDecl Found' d →
        TellsAll s (inside_decl blocks d a begun) → all_told (in_decl d (suc a.depth)) ≡ decl_uses blocks d a begun
    decl_meant (tree.arrays kind ns pairs) later a begun c b f g t = pairs_meant pairs (record a { known = begun }) b t
    decl_meant (tree.procedure h x) later a begun c b f g t =
        let i : Surroundings = inside_procedure blocks h a in
        ap (λ (z : ℕ). all_told (in_stmt x of_procedure (suc z))) (next a.depth)
        ∙ stmt_meant x of_procedure false i (inside_clear lows blocks h x later a f c) g t
    decl_meant (tree.simple kind ns) later a begun c b f g t = refl
    decl_meant (tree.files ns) later a begun c b f g t = refl
    decl_meant (tree.events ns) later a begun c b f g t = refl
    decl_meant (tree.tasks ns) later a begun c b f g t = refl
    decl_meant (tree.labels ns) later a begun c b f g t = refl
    decl_meant (tree.forward h) later a begun c b f g t = refl

  body_meant : (spot : Spot) (ds : PDecls) (xs : PStmts) (a : Surroundings) → Clear a → DeclsHave Found' ds × StmtsHave Found' xs →
      TellsAll s (sites_in_body blocks (tree.body spot ds xs) a) → all_told (in_body (tree.body spot ds xs) (suc a.depth)) ≡ body_uses blocks (tree.body spot ds xs) a
  body_meant spot ds xs a c f t =
      body_joined spot ds xs a (decls_meant ds a a.known c c f.0 (left_told (decls_part ds a) (stmts_part ds xs a) t))
      (stmts_meant xs (has_decls ds) (knowing_all blocks ds a) (all_clear lows blocks ds a c) f.1 (right_told (decls_part ds a) (stmts_part ds xs a) t))

-- ---- a program

-- where the same lower bounds are kept, a name means the same
same_by : (s : Scopes) (lows kept : Spot → List ℤ) (blocks : List Block) → ((spot : Spot) → kept spot ≡ lows spot) → (f : Found) (o : Option laid.Declared) →
    meant.use_by (declaration_of s) kept blocks f o ≡ meant.use_by (declaration_of s) lows blocks f o
same_by s lows kept blocks same f None = refl
same_by s lows kept blocks same f (Some d) =
    ap (λ (z : List ℤ). meant.left_or f.is_left (record { spot = f.spot; block = d.block; up = f.around - (d.level - 1); sort = sort_as d.sort z (number_at blocks d.spot) }) ∷ [])
    (same d.spot)

same_told : (s : Scopes) (lows kept : Spot → List ℤ) (blocks : List Block) → ((spot : Spot) → kept spot ≡ lows spot) → (fs : List Found) →
    meant.uses_told (declaration_of s) kept blocks fs ≡ meant.uses_told (declaration_of s) lows blocks fs
same_told s lows kept blocks same [] = refl
same_told s lows kept blocks same (f ∷ fs) =
    ap (λ (z : List scoping.Use). z ++ meant.uses_told (declaration_of s) kept blocks fs) (same_by s lows kept blocks same f (declaration_of s f.spot))
    ∙ ap (λ (z : List scoping.Use). meant.use_told (declaration_of s) lows blocks f ++ z) (same_told s lows kept blocks same fs)

pub program_meant : (s : Scopes) (b : PBody) (kept : Spot → List ℤ) → ((spot : Spot) → kept spot ≡ listed (lows_at (blocks_of_program (tree.program b)) spot)) → AreOf (tree.program b) s → IsInOrder (tree.program b) →
    (let blocks = blocks_of_program (tree.program b) in meant.uses_told (declaration_of s) kept blocks (in_body b 1) ≡ body_uses blocks b outermost)
program_meant s (tree.body spot ds xs) kept same are order =
    let p = tree.program (tree.body spot ds xs) in
    let blocks = blocks_of_program p in
    same_told s (λ at. listed (lows_at blocks at)) kept blocks same (in_body (tree.body spot ds xs) 1)
    ∙ body_meant s (lows_at blocks) blocks spot ds xs outermost tt (formals_found s spot ds xs are order) (each_part_is_told p s order are)
