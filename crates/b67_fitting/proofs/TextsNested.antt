-- The text of each block of a program keeps to it: its names are seen from there, those in bounds from the block around it,
-- but for parameters, and the blocks in it stand in it.
use Rattle.std.proofs.Common.{◌≡◌, arith, ℕ, ◌<◌, ◌≤◌, Bool, true, false, List, ◌∷◌, ◌++◌, map, length, Option, Some, None, refl, subst, []}
use Rattle.std.specs.List.{AllByRecursion}
use Rattle.std.proofs.lemmas.List.{length-map, length-append}
use Rattle.algol_tree.specs.declared.token.Spot.{Spot}
use Rattle.algol_tree.specs.declared.tree.Heading.{Heading}
use Rattle.algol_tree.specs.declared.tree.Named.{Named}
use Rattle.algol_tree.specs.Blocks.{Block, Begin, of_statement, of_procedure, decls_of, stmts_of, blocks_of, blocks_in_decls, blocks_in_stmts, procedure_block, block_numbered, number_at, around}
use Rattle.algol_tree.specs.Cells.{cells_of}
use Rattle.algol_tree.specs.Plain as tree
use Rattle.algol_tree.specs.Plain.{PStmt, PStmts, PDecls}
use Rattle.algol_tree.specs.Scopes.{Scopes, if_named}
use Rattle.algol_tree.specs.Sites.{Site, sites, sites_in_pairs, here_stmt, inside_list, inside_stmt, sites_in_stmts, sites_in_decls, has_decls}
use Rattle.algol_tree.specs.Sorts.{Declared, Parameter, is_named_in, sort_in, parameters_of}
use Rattle.algol_tree.specs.Surroundings.{Surroundings, formals_at, knowing, knowing_all, inside_begin, inside_procedure}
use Rattle.algol_paths.specs.Blocks.{BlockIsSeen, IsInner}
use Rattle.algol_paths.specs.Texts.{InName, InStmt, InStmts}
use Rattle.b67_templates.specs.Cells.{actuals_in_stmt, actuals_in_stmts}
use Rattle.b67_list.proofs.Lists.{each_back, each_both, each_front}
use Rattle.b67_fitting.proofs.Headings.{DeclsSpecified, StmtSpecified, StmtsSpecified}
use Rattle.b67_templates.specs.Nested.{AreParameters}
use Rattle.b67_fitting.proofs.ActualsFew.{few_bounds, few_stmt, few_stmts}
use Rattle.b67_fitting.proofs.Callees.{AreCallees, are_callees}
use Rattle.b67_fitting.proofs.Surrounded.{IsAround, knows_one, knows_all, enters, enters_procedure, IsGood, AreGood, all_seen, left_seen, in_expr, in_list, in_actuals}
use Rattle.b67_fitting.proofs.Bounds.{early_inside, early_procedure, in_bounds, in_body}
use Rattle.b67_fitting.proofs.CellsFew.{cells_both, declaring, FewBounds, FewInBody, as_many, procedure_many}
use Rattle.b67_fitting.proofs.OneBlock.{the_block, IsFine, AreFine, fine_numbered, ArePart, part_named, front, back, rest, IsTextOf, AreTexts, is_there, outer_is, is_text, is_inner}
use Rattle.b67_fitting.proofs.Placed.{same_number}

heading_long : (h : Heading) → length (parameters_of h) ≡ length h.params
heading_long h = length-map {B = Parameter} h.params (λ (n : Named). record { name = n.name; sort = sort_in h.specs (is_named_in h.values n.name) n.name })

abbrev IsNoBlock : PStmt → Type 0
IsNoBlock (tree.block b) = ⊥
IsNoBlock t = Unit {0}

-- `all`: all parts of the tree
module _ (sc : Scopes) (all : List Site) (each : (k : ℕ) → k < length sc.blocks → AreParameters sc (block_numbered sc.blocks k)) (outermost : (block_numbered sc.blocks 0).outer ≡ []) where
  abbrev stmt_sites : PStmt → Begin → Bool → Surroundings → List Site
  stmt_sites t begin listed a = here_stmt t listed a ∷ inside_stmt sc.blocks t begin listed a

  abbrev Fine : List Block → Type 0
  Fine bs = AreFine sc all bs

  abbrev Part : List Site → Type 0
  Part xs = ArePart sc all xs

  abbrev Texts : List Block → Type 0
  Texts bs = AreTexts sc all bs

  -- `j`: the block in which it stands. The body of a procedure is the text of the procedure's block.
  abbrev IsTextIn : Begin → ℕ → PStmt → Type 0
  IsTextIn of_statement j t = InStmt (BlockIsSeen sc j) (IsInner sc j) t
  IsTextIn of_procedure j t = InStmts (BlockIsSeen sc j) (IsInner sc j) (stmts_of t)

  text_in : (begin : Begin) (j : ℕ) (t : PStmt) → IsNoBlock t → InStmt (BlockIsSeen sc j) (IsInner sc j) t → IsTextIn begin j t
  text_in of_statement j t p i = i
  text_in of_procedure j (tree.block b) p i = absurd p
  text_in of_procedure j t p i = (i, tt)

  -- the name of a task
  task_in : (j : ℕ) (task : Option Named) → AllByRecursion (BlockIsSeen sc j) (if_named task) → InName (BlockIsSeen sc j) task
  task_in j None h = tt
  task_in j (Some m) h = h.0

  -- the body of a procedure has few actuals
  few_alone : (j : ℕ) (outer : List Spot) (a : Surroundings) (t : PStmt) → IsAround sc.blocks j outer a → StmtSpecified t → AreGood sc (here_stmt t false a ∷ inside_stmt sc.blocks t of_statement false a) →
      length (actuals_in_stmts sc (tree.stmts t tree.no_stmts)) ≤ length (cells_of sc.blocks (here_stmt t false a ∷ inside_stmt sc.blocks t of_statement false a) a.block)
  few_alone j outer a t r b g = omega (arith, few_stmt sc each outermost j outer a r t false b g, length-append (actuals_in_stmt sc t) [])

  few_body : (j : ℕ) (outer : List Spot) (a : Surroundings) (t : PStmt) → IsAround sc.blocks j outer a → StmtSpecified t → AreGood sc (stmt_sites t of_procedure false a) →
      AreCallees sc.blocks j (decls_of t) → FewInBody sc t a
  few_body j outer a (tree.block (tree.body spot ds ss)) r b g called =
      let declared = sites_in_decls sc.blocks ds a a.known in
      let after = knowing_all sc.blocks ds a in
      let stated = sites_in_stmts sc.blocks ss (has_decls ds) after in (
        few_bounds sc each outermost j outer a a.known ds r b.0 (each_front (IsGood sc) declared stated g.1),
        subst (λ (m : ℕ). length (actuals_in_stmts sc ss) ≤ length (cells_of sc.blocks stated m)) (same_number sc.blocks ds a)
            (few_stmts sc each outermost j outer after (knows_all sc.blocks j outer ds a b.0 called r) ss (has_decls ds) b.1 (each_back (IsGood sc) declared stated g.1)),
      )
  few_body j outer a tree.empty r b g called = few_alone j outer a tree.empty r b g
  few_body j outer a (tree.label n t) r b g called = few_alone j outer a (tree.label n t) r b g
  few_body j outer a (tree.assign (tree.subscripted n es) e) r b g called = few_alone j outer a (tree.assign (tree.subscripted n es) e) r b g
  few_body j outer a (tree.call_of (tree.called n es)) r b g called = few_alone j outer a (tree.call_of (tree.called n es)) r b g
  few_body j outer a (tree.go_to n) r b g called = few_alone j outer a (tree.go_to n) r b g
  few_body j outer a (tree.if_then c x) r b g called = few_alone j outer a (tree.if_then c x) r b g
  few_body j outer a (tree.if_else c x y) r b g called = few_alone j outer a (tree.if_else c x y) r b g
  few_body j outer a (tree.while c x) r b g called = few_alone j outer a (tree.while c x) r b g
  few_body j outer a (tree.until x c) r b g called = few_alone j outer a (tree.until x c) r b g
  few_body j outer a (tree.for v x s l t) r b g called = few_alone j outer a (tree.for v x s l t) r b g
  few_body j outer a (tree.thru e x) r b g called = few_alone j outer a (tree.thru e x) r b g
  few_body j outer a (tree.case e ss) r b g called = few_alone j outer a (tree.case e ss) r b g
  few_body j outer a (tree.process (tree.called n es) task) r b g called = few_alone j outer a (tree.process (tree.called n es) task) r b g
  few_body j outer a (tree.event act e) r b g called = few_alone j outer a (tree.event act e) r b g
  few_body j outer a (tree.write n spot phrases es) r b g called = few_alone j outer a (tree.write n spot phrases es) r b g

  abbrev IsNested : Begin → ℕ → List Spot → PStmt → Type 0
  IsNested begin j outer t = IsTextIn begin j t × Texts (blocks_of t begin outer)

  abbrev AreNestedIn : ℕ → List Spot → PStmts → Type 0
  AreNestedIn j outer ss = InStmts (BlockIsSeen sc j) (IsInner sc j) ss × Texts (blocks_in_stmts ss outer)

  -- the procedures of these declarations have blocks in the block j
  pub callees : (j : ℕ) (outer : List Spot) (ds : PDecls) (a : Surroundings) (first : List Declared) → map (number_at sc.blocks) outer ≡ j ∷ around sc.blocks j → DeclsSpecified ds →
      Fine (blocks_in_decls ds outer) → Part (sites_in_decls sc.blocks ds a first) → AreCallees sc.blocks j ds
  callees j outer ds a first e b f h =
      are_callees sc.blocks j outer ds a first e b (fine_numbered sc all (blocks_in_decls ds outer) f) (part_named sc all (sites_in_decls sc.blocks ds a first) h)

  -- so have those that the body of a procedure declares
  body_callees : (j : ℕ) (outer : List Spot) (t : PStmt) (a : Surroundings) → map (number_at sc.blocks) outer ≡ j ∷ around sc.blocks j → StmtSpecified t →
      Fine (blocks_of t of_procedure outer) → Part (stmt_sites t of_procedure false a) → AreCallees sc.blocks j (decls_of t)
  body_callees j outer (tree.block (tree.body spot ds ss)) a e b f h =
      let declared = sites_in_decls sc.blocks ds a a.known in
      let stated = sites_in_stmts sc.blocks ss (has_decls ds) (knowing_all sc.blocks ds a) in
      let its = rest sc all (here_stmt (tree.block (tree.body spot ds ss)) false a) (declared ++ stated) h in
      callees j outer ds a a.known e b.0 (each_front (IsFine sc all) (blocks_in_decls ds outer) (blocks_in_stmts ss outer) f) (front sc all declared stated its)
  body_callees j outer t a e b f h = tt

  mutual
    in_stmt : (j : ℕ) (outer : List Spot) (a : Surroundings) (t : PStmt) (begin : Begin) (listed : Bool) → IsAround sc.blocks j outer a → StmtSpecified t →
        Part (stmt_sites t begin listed a) → Fine (blocks_of t begin outer) → IsNested begin j outer t
    in_stmt j outer a tree.empty g l r b h f = (text_in g j tree.empty tt tt, tt)
    in_stmt j outer a (tree.label n t) g l r b h f =
        let nested = in_stmt j outer a t of_statement l r b (rest sc all (here_stmt (tree.label n t) l a) (stmt_sites t of_statement l a) h) f in
        (text_in g j (tree.label n t) tt nested.0, nested.1)
    in_stmt j outer a (tree.assign (tree.subscripted n es) e) g l r b h f =
        let good = h.good in
        let subscripts = in_list sc j outer a r es (each_front (IsGood sc) (inside_list es a) (sites e a) good.1) in
        let value = in_expr sc j outer a r e (each_back (IsGood sc) (inside_list es a) (sites e a) good.1) in
        (text_in g j (tree.assign (tree.subscripted n es) e) tt (left_seen sc j outer a r n es e l good.0.known h.kept.0 good.0.there, subscripts, value), tt)
    in_stmt j outer a (tree.call_of (tree.called n es)) g l r b h f =
        let good = h.good in
        (text_in g j (tree.call_of (tree.called n es)) tt ((all_seen sc j outer a r (n ∷ []) good.0.known good.0.there).0, in_actuals sc j outer a r es (formals_at a n) good.1), tt)
    in_stmt j outer a (tree.go_to n) g l r b h f =
        let good = h.good in
        (text_in g j (tree.go_to n) tt ((all_seen sc j outer a r (n ∷ []) good.0.known good.0.there).0), tt)
    in_stmt j outer a (tree.block (tree.body spot tree.no_decls ss)) of_statement l r b h f =
        in_stmts j outer a ss false r b.1 (rest sc all (here_stmt (tree.block (tree.body spot tree.no_decls ss)) l a) (sites_in_stmts sc.blocks ss false a) h) f
    in_stmt j outer a (tree.block (tree.body spot (tree.decls d ds) ss)) of_statement l r b h f =
        let k = number_at sc.blocks spot in
        let its = the_block spot outer (tree.decls d ds) ss in
        let c : Surroundings = inside_begin sc.blocks (tree.body spot (tree.decls d ds) ss) a in
        let after : Surroundings = knowing_all sc.blocks (tree.decls d ds) c in
        let declared = sites_in_decls sc.blocks (tree.decls d ds) c c.known in
        let stated = sites_in_stmts sc.blocks ss true after in
        let parts = rest sc all (here_stmt (tree.block (tree.body spot (tree.decls d ds) ss)) l a) (declared ++ stated) h in
        let there = is_there sc all its f.0 in
        let begun : IsAround sc.blocks k (spot ∷ outer) c = enters sc.blocks j outer spot a there (outer_is sc all its f.0) r in
        let fine_decls = each_front (IsFine sc all) (blocks_in_decls (tree.decls d ds) (spot ∷ outer)) (blocks_in_stmts ss (spot ∷ outer)) f.1 in
        let fine_stmts = each_back (IsFine sc all) (blocks_in_decls (tree.decls d ds) (spot ∷ outer)) (blocks_in_stmts ss (spot ∷ outer)) f.1 in
        let part = front sc all declared stated parts in
        let called = callees k (spot ∷ outer) (tree.decls d ds) c c.known begun.chain_is b.0 fine_decls part in
        let inner = in_decls k (spot ∷ outer) c (tree.decls d ds) c.known begun b.0 called part fine_decls in
        let known_behind = knows_all sc.blocks k (spot ∷ outer) (tree.decls d ds) c b.0 called begun in
        let nested = in_stmts k (spot ∷ outer) after ss true known_behind b.1 (back sc all declared stated parts) fine_stmts in
        let few_declared : FewBounds sc c c.known (tree.decls d ds) = few_bounds sc each outermost k (spot ∷ outer) c c.known (tree.decls d ds) begun b.0 part.good in
        let few_stated : length (actuals_in_stmts sc ss) ≤ length (cells_of sc.blocks stated k) =
        subst (λ (m : ℕ). length (actuals_in_stmts sc ss) ≤ length (cells_of sc.blocks stated m)) known_behind.block_is
        (few_stmts sc each outermost k (spot ∷ outer) after known_behind ss true b.1 ((back sc all declared stated parts).good)) in
        let bounds = in_bounds sc k (spot ∷ outer) c (tree.decls d ds) c.known begun (early_inside sc j outer a r) b.0 part.good in
        let its_text : IsTextOf sc all its = is_text sc all its f.0 called (omega (arith, as_many sc (tree.decls d ds) c c.known b.0 few_declared, few_stated, cells_both sc.blocks declared stated k, parts.less k)) bounds nested.0 in (
          is_inner sc all spot outer (tree.decls d ds) ss f.0 j r.chain_is,
          (its_text, each_both (IsTextOf sc all) (blocks_in_decls (tree.decls d ds) (spot ∷ outer)) (blocks_in_stmts ss (spot ∷ outer)) inner nested.1),
        )
    in_stmt j outer a (tree.block (tree.body spot ds ss)) of_procedure l r b h f =
        let after : Surroundings = knowing_all sc.blocks ds a in
        let declared = sites_in_decls sc.blocks ds a a.known in
        let stated = sites_in_stmts sc.blocks ss (has_decls ds) after in
        let parts = rest sc all (here_stmt (tree.block (tree.body spot ds ss)) l a) (declared ++ stated) h in
        let fine_decls = each_front (IsFine sc all) (blocks_in_decls ds outer) (blocks_in_stmts ss outer) f in
        let fine_stmts = each_back (IsFine sc all) (blocks_in_decls ds outer) (blocks_in_stmts ss outer) f in
        let part = front sc all declared stated parts in
        let called = callees j outer ds a a.known r.chain_is b.0 fine_decls part in
        let inner = in_decls j outer a ds a.known r b.0 called part fine_decls in
        let nested = in_stmts j outer after ss (has_decls ds) (knows_all sc.blocks j outer ds a b.0 called r) b.1 (back sc all declared stated parts) fine_stmts in
        (nested.0, each_both (IsTextOf sc all) (blocks_in_decls ds outer) (blocks_in_stmts ss outer) inner nested.1)
    in_stmt j outer a (tree.if_then c x) g l r b h f =
        let good = h.good in
        let its = rest sc all (here_stmt (tree.if_then c x) l a) (sites c a ++ stmt_sites x of_statement false a) h in
        let nested = in_stmt j outer a x of_statement false r b (back sc all (sites c a) (stmt_sites x of_statement false a) its) f in
        (text_in g j (tree.if_then c x) tt (in_expr sc j outer a r c (each_front (IsGood sc) (sites c a) (stmt_sites x of_statement false a) good.1), nested.0), nested.1)
    in_stmt j outer a (tree.if_else c x y) g l r b h f =
        let its = rest sc all (here_stmt (tree.if_else c x y) l a) (sites c a ++ stmt_sites x of_statement false a ++ stmt_sites y of_statement false a) h in
        let two = front sc all (sites c a ++ stmt_sites x of_statement false a) (stmt_sites y of_statement false a) its in
        let condition = front sc all (sites c a) (stmt_sites x of_statement false a) two in
        let first = in_stmt j outer a x of_statement false r b.0 (back sc all (sites c a) (stmt_sites x of_statement false a) two) (each_front (IsFine sc all) (blocks_of x of_statement outer) (blocks_of y of_statement outer) f) in
        let other =
        in_stmt j outer a y of_statement false r b.1 (back sc all (sites c a ++ stmt_sites x of_statement false a) (stmt_sites y of_statement false a) its) (each_back (IsFine sc all) (blocks_of x of_statement outer) (blocks_of y of_statement outer) f) in
        (text_in g j (tree.if_else c x y) tt (in_expr sc j outer a r c condition.good, first.0, other.0), each_both (IsTextOf sc all) (blocks_of x of_statement outer) (blocks_of y of_statement outer) first.1 other.1)
    in_stmt j outer a (tree.while c x) g l r b h f =
        let its = rest sc all (here_stmt (tree.while c x) l a) (sites c a ++ stmt_sites x of_statement false a) h in
        let nested = in_stmt j outer a x of_statement false r b (back sc all (sites c a) (stmt_sites x of_statement false a) its) f in
        (text_in g j (tree.while c x) tt (in_expr sc j outer a r c ((front sc all (sites c a) (stmt_sites x of_statement false a) its).good), nested.0), nested.1)
    in_stmt j outer a (tree.until x c) g l r b h f =
        let its = rest sc all (here_stmt (tree.until x c) l a) (stmt_sites x of_statement false a ++ sites c a) h in
        let nested = in_stmt j outer a x of_statement false r b (front sc all (stmt_sites x of_statement false a) (sites c a) its) f in
        (text_in g j (tree.until x c) tt (nested.0, in_expr sc j outer a r c ((back sc all (stmt_sites x of_statement false a) (sites c a) its).good)), nested.1)
    in_stmt j outer a (tree.for v x y z t) g l r b h f =
        let good = h.good in
        let its = rest sc all (here_stmt (tree.for v x y z t) l a) (sites x a ++ sites y a ++ sites z a ++ stmt_sites t of_statement false a) h in
        let three = front sc all (sites x a ++ sites y a ++ sites z a) (stmt_sites t of_statement false a) its in
        let two = front sc all (sites x a ++ sites y a) (sites z a) three in
        let nested = in_stmt j outer a t of_statement false r b (back sc all (sites x a ++ sites y a ++ sites z a) (stmt_sites t of_statement false a) its) f in (
          text_in g j (tree.for v x y z t) tt (
            (all_seen sc j outer a r (v ∷ []) good.0.known good.0.there).0,
            in_expr sc j outer a r x ((front sc all (sites x a) (sites y a) two).good),
            in_expr sc j outer a r y ((back sc all (sites x a) (sites y a) two).good),
            in_expr sc j outer a r z ((back sc all (sites x a ++ sites y a) (sites z a) three).good),
            nested.0,
          ),
          nested.1,
        )
    in_stmt j outer a (tree.thru e x) g l r b h f =
        let its = rest sc all (here_stmt (tree.thru e x) l a) (sites e a ++ stmt_sites x of_statement false a) h in
        let nested = in_stmt j outer a x of_statement false r b (back sc all (sites e a) (stmt_sites x of_statement false a) its) f in
        (text_in g j (tree.thru e x) tt (in_expr sc j outer a r e ((front sc all (sites e a) (stmt_sites x of_statement false a) its).good), nested.0), nested.1)
    in_stmt j outer a (tree.case e ss) g l r b h f =
        let its = rest sc all (here_stmt (tree.case e ss) l a) (sites e a ++ sites_in_stmts sc.blocks ss false a) h in
        let nested = in_stmts j outer a ss false r b (back sc all (sites e a) (sites_in_stmts sc.blocks ss false a) its) f in
        (text_in g j (tree.case e ss) tt (in_expr sc j outer a r e ((front sc all (sites e a) (sites_in_stmts sc.blocks ss false a) its).good), nested.0), nested.1)
    in_stmt j outer a (tree.process (tree.called n es) task) g l r b h f =
        let good = h.good in
        let seen = all_seen sc j outer a r (n ∷ if_named task) good.0.known good.0.there in
        (text_in g j (tree.process (tree.called n es) task) tt (seen.0, in_actuals sc j outer a r es (formals_at a n) good.1, task_in j task seen.1), tt)
    in_stmt j outer a (tree.event act e) g l r b h f =
        let good = h.good in
        (text_in g j (tree.event act e) tt ((all_seen sc j outer a r (e.name ∷ []) good.0.known good.0.there).0), tt)
    in_stmt j outer a (tree.write n spot phrases es) g l r b h f =
        let good = h.good in
        (text_in g j (tree.write n spot phrases es) tt (in_list sc j outer a r es good.1), tt)

    pub in_stmts : (j : ℕ) (outer : List Spot) (a : Surroundings) (ss : PStmts) (listed : Bool) → IsAround sc.blocks j outer a → StmtsSpecified ss →
        Part (sites_in_stmts sc.blocks ss listed a) → Fine (blocks_in_stmts ss outer) → AreNestedIn j outer ss
    in_stmts j outer a tree.no_stmts l r b h f = (tt, tt)
    in_stmts j outer a (tree.stmts t ss) l r b h f =
        let first =
        in_stmt j outer a t of_statement l r b.0 (front sc all (stmt_sites t of_statement l a) (sites_in_stmts sc.blocks ss l a) h) (each_front (IsFine sc all) (blocks_of t of_statement outer) (blocks_in_stmts ss outer) f) in
        let others =
        in_stmts j outer a ss l r b.1 (back sc all (stmt_sites t of_statement l a) (sites_in_stmts sc.blocks ss l a) h) (each_back (IsFine sc all) (blocks_of t of_statement outer) (blocks_in_stmts ss outer) f) in
        ((first.0, others.0), each_both (IsTextOf sc all) (blocks_of t of_statement outer) (blocks_in_stmts ss outer) first.1 others.1)

    -- the procedures that are declared, and what stands in them
    pub in_decls : (j : ℕ) (outer : List Spot) (a : Surroundings) (ds : PDecls) (first : List Declared) → IsAround sc.blocks j outer a → DeclsSpecified ds → AreCallees sc.blocks j ds →
        Part (sites_in_decls sc.blocks ds a first) → Fine (blocks_in_decls ds outer) → Texts (blocks_in_decls ds outer)
    in_decls j outer a tree.no_decls first r b c h f = tt
    in_decls j outer a (tree.decls (tree.simple kind ns) ds) first r b c h f =
        let after : Surroundings = knowing sc.blocks (tree.simple kind ns) ds a in
        in_decls j outer after ds first (knows_one sc.blocks j outer (tree.simple kind ns) ds a b.0 c r) b.1 c (rest sc all _ (sites_in_decls sc.blocks ds after first) h) f
    in_decls j outer a (tree.decls (tree.files ns) ds) first r b c h f =
        let after : Surroundings = knowing sc.blocks (tree.files ns) ds a in
        in_decls j outer after ds first (knows_one sc.blocks j outer (tree.files ns) ds a b.0 c r) b.1 c (rest sc all _ (sites_in_decls sc.blocks ds after first) h) f
    in_decls j outer a (tree.decls (tree.events ns) ds) first r b c h f =
        let after : Surroundings = knowing sc.blocks (tree.events ns) ds a in
        in_decls j outer after ds first (knows_one sc.blocks j outer (tree.events ns) ds a b.0 c r) b.1 c (rest sc all _ (sites_in_decls sc.blocks ds after first) h) f
    in_decls j outer a (tree.decls (tree.tasks ns) ds) first r b c h f =
        let after : Surroundings = knowing sc.blocks (tree.tasks ns) ds a in
        in_decls j outer after ds first (knows_one sc.blocks j outer (tree.tasks ns) ds a b.0 c r) b.1 c (rest sc all _ (sites_in_decls sc.blocks ds after first) h) f
    in_decls j outer a (tree.decls (tree.labels ns) ds) first r b c h f =
        let after : Surroundings = knowing sc.blocks (tree.labels ns) ds a in
        in_decls j outer after ds first (knows_one sc.blocks j outer (tree.labels ns) ds a b.0 c r) b.1 c (rest sc all _ (sites_in_decls sc.blocks ds after first) h) f
    in_decls j outer a (tree.decls (tree.arrays kind ns pairs) ds) first r b c h f =
        let after : Surroundings = knowing sc.blocks (tree.arrays kind ns pairs) ds a in
        let bounds : List Site = sites_in_pairs pairs (record after { known = first }) in
        let later : List Site = sites_in_decls sc.blocks ds after first in
        in_decls j outer after ds first (knows_one sc.blocks j outer (tree.arrays kind ns pairs) ds a b.0 c r) b.1 c (back sc all bounds later (rest sc all _ (bounds ++ later) h)) f
    in_decls j outer a (tree.decls (tree.forward g) ds) first r b c h f =
        let after : Surroundings = knowing sc.blocks (tree.forward g) ds a in
        in_decls j outer after ds first (knows_one sc.blocks j outer (tree.forward g) ds a b.0 c r) b.1 c.1 (rest sc all _ (sites_in_decls sc.blocks ds after first) h) f
    in_decls j outer a (tree.decls (tree.procedure g t) ds) first r b c h f =
        let k = number_at sc.blocks g.name.spot in
        let after : Surroundings = knowing sc.blocks (tree.procedure g t) ds a in
        let known = knows_one sc.blocks j outer (tree.procedure g t) ds a b.0 c r in
        let d : Surroundings = inside_procedure sc.blocks g after in
        let begun : IsAround sc.blocks k (g.name.spot ∷ outer) d = enters_procedure sc.blocks j outer g after c.0 known in
        let declaration : Site = declaring sc.blocks g t ds a in
        let its : List Site = stmt_sites t of_procedure false d in
        let later : List Site = sites_in_decls sc.blocks ds after first in
        let whole = front sc all (declaration ∷ its) later h in
        let part = rest sc all declaration its whole in
        let fine_body = each_front (IsFine sc all) (blocks_of t of_procedure (g.name.spot ∷ outer)) (blocks_in_decls ds outer) f.1 in
        let fine_later = each_back (IsFine sc all) (blocks_of t of_procedure (g.name.spot ∷ outer)) (blocks_in_decls ds outer) f.1 in
        let nested = in_stmt k (g.name.spot ∷ outer) d t of_procedure false begun b.0.1 part fine_body in
        let inner = in_decls j outer after ds first known b.1 c.1 (back sc all (declaration ∷ its) later h) fine_later in
        let called = body_callees k (g.name.spot ∷ outer) t d begun.chain_is b.0.1 fine_body part in
        let bounds = in_body sc k (g.name.spot ∷ outer) d t begun (early_procedure sc j outer after known g b.0.0) b.0.1 part.good in
        let its_text : IsTextOf sc all (procedure_block g t outer) =
        is_text sc all (procedure_block g t outer) f.0 called (omega (arith, heading_long g, procedure_many sc g t ds a d refl b.0.1 (few_body k (g.name.spot ∷ outer) d t begun b.0.1 part.good called), whole.less k)) bounds nested.0 in
        (its_text, each_both (IsTextOf sc all) (blocks_of t of_procedure (g.name.spot ∷ outer)) (blocks_in_decls ds outer) nested.1 inner)
