-- The actuals of a block keep to its text. So does what a part has still to do that evaluates one of them.
use Rattle.std.proofs.Common.{◌≡◌, refl, subst, ℕ, zero, suc, List, [], ◌∷◌, ◌++◌, Some, Bool, true, false, append_assoc, map}
use Rattle.b67_list.proofs.Numbers.{none_some}
use Rattle.b67_list.proofs.Truths.{true_false}
use Rattle.b67_rows.proofs.Prelude.{AllByRecursion, if◌then◌else◌, is_some, slice_get, Block, block_numbered, PExpr, PExprs, PPair, PStmt, PStmts, PDecls, PBody, Scopes, use_of, procedure_in, EventName, Kind, Named, Item, event_items, decls_items, items, ending, BlockIsSeen, IsSeenAround, IsInner, KeepsToText, InStmt, InStmts, InItems, InDeclared, Couple, Wanted, value, by_name, array, other, Actual, own_actual, wants_of, actuals_in, actuals_among, actuals_given, actuals_in_pairs, actuals_in_decls, actuals_in_stmt, actuals_in_stmts, actuals_of, IsOwnActual, IsText, some_same}
use Rattle.algol_tree.specs.Plain as tree
use Rattle.algol_meaning.specs.Asks.{evaluated_of, located_of}
use Rattle.algol_meaning.specs.Rest.{Half, val, busy, HalfPlace, at, aims}
use Rattle.algol_meaning.specs.Settle.{settle, settle_place, settle_actual_place}
use Rattle.algol_paths.specs.Texts.{InExpr, InExprs, InPairs}
use Rattle.algol_paths.proofs.Expressions.{InHalf, InHalfPlace, settle_in, settle_place_in}
use Rattle.b67_templates.specs.Cells.{event, has_place}

-- ---- names of which more holds

module _ (P R : Named → Type 0) (more : (n : Named) → R n → P n) where
  names_more : (ns : List Named) → AllByRecursion R ns → AllByRecursion P ns
  names_more [] i = tt
  names_more (n ∷ ns) i = (more n i.0, names_more ns i.1)

  mutual
    expr_more : (e : PExpr) → InExpr R e → InExpr P e
    expr_more (tree.number z spot) i = tt
    expr_more (tree.truth b spot) i = tt
    expr_more (tree.variable (tree.subscripted n es)) i = (more n i.0, exprs_more es i.1)
    expr_more (tree.call (tree.called n es)) i = (more n i.0, exprs_more es i.1)
    expr_more (tree.tested which es spot) i = names_more (map (λ (e : EventName). e.name) es) i
    expr_more (tree.paren e spot) i = expr_more e i
    expr_more (tree.plus e spot) i = expr_more e i
    expr_more (tree.neg e spot) i = expr_more e i
    expr_more (tree.not e spot) i = expr_more e i
    expr_more (tree.two op x y) i = (expr_more x i.0, expr_more y i.1)
    expr_more (tree.if c x y spot) i = (expr_more c i.0, expr_more x i.1, expr_more y i.2)

    exprs_more : (es : PExprs) → InExprs R es → InExprs P es
    exprs_more tree.none i = tt
    exprs_more (tree.more e es) i = (expr_more e i.0, exprs_more es i.1)

  pairs_more : (pairs : List PPair) → InPairs R pairs → InPairs P pairs
  pairs_more [] i = tt
  pairs_more (p ∷ pairs) i = (expr_more p.high i.0, pairs_more pairs i.1)

-- ---- lists of actuals

module _ (P : Named → Type 0) where
  -- each of them has such names
  abbrev AreIn : List Actual → Type 0
  AreIn [] = Unit {0}
  AreIn (a ∷ as') = InExpr P a.expr × AreIn as'

  in_both : (as' bs : List Actual) → AreIn as' → AreIn bs → AreIn (as' ++ bs)
  in_both [] bs i j = j
  in_both (a ∷ as') bs i j = (i.0, in_both as' bs i.1 j)

  in_there : (as' : List Actual) → AreIn as' → (n : ℕ) (a : Actual) → slice_get as' n ≡ Some a → InExpr P a.expr
  in_there [] i n a e = none_some e
  in_there (b ∷ as') i zero a e = subst (λ (x : Actual). InExpr P x.expr) (some_same e) i.0
  in_there (b ∷ as') i (suc n) a e = in_there as' i.1 n a e

  in_if : (b : Bool) (a : Actual) → InExpr P a.expr → AreIn (if b then a ∷ [] else [])
  in_if true a i = (i, tt)
  in_if false a i = tt

  -- ---- texts

  module _ (sc : Scopes) where
    own_in : (w : Wanted) (e : PExpr) → InExpr P e → AreIn (own_actual sc w e)
    own_in (by_name k) (tree.variable (tree.subscripted n tree.none)) i =
        in_if (is_some (procedure_in ((use_of sc n).sort))) (record { expr = tree.variable (tree.subscripted n tree.none); kind = k }) i
    own_in (by_name k) (tree.variable (tree.subscripted n (tree.more e es))) i = (i, tt)
    own_in (by_name k) (tree.number z spot) i = (i, tt)
    own_in (by_name k) (tree.truth b spot) i = (i, tt)
    own_in (by_name k) (tree.call c) i = (i, tt)
    own_in (by_name k) (tree.tested x es spot) i = (i, tt)
    own_in (by_name k) (tree.paren e spot) i = (i, tt)
    own_in (by_name k) (tree.plus e spot) i = (i, tt)
    own_in (by_name k) (tree.neg e spot) i = (i, tt)
    own_in (by_name k) (tree.not e spot) i = (i, tt)
    own_in (by_name k) (tree.two op x y) i = (i, tt)
    own_in (by_name k) (tree.if c x y spot) i = (i, tt)
    own_in (value k) e i = tt
    own_in (array s) e i = tt
    own_in event e i = tt
    own_in other e i = tt

    mutual
      expr_in : (e : PExpr) → InExpr P e → AreIn (actuals_in sc e)
      expr_in (tree.variable (tree.subscripted n es)) i = among_in es i.1
      expr_in (tree.call (tree.called n es)) i = given_in (wants_of sc n) es i.1
      expr_in (tree.paren e spot) i = expr_in e i
      expr_in (tree.plus e spot) i = expr_in e i
      expr_in (tree.neg e spot) i = expr_in e i
      expr_in (tree.not e spot) i = expr_in e i
      expr_in (tree.two op x y) i = in_both (actuals_in sc x) (actuals_in sc y) (expr_in x i.0) (expr_in y i.1)
      expr_in (tree.if c x y spot) i =
          in_both (actuals_in sc c ++ actuals_in sc x) (actuals_in sc y) (in_both (actuals_in sc c) (actuals_in sc x) (expr_in c i.0) (expr_in x i.1)) (expr_in y i.2)
      expr_in _ i = tt

      among_in : (es : PExprs) → InExprs P es → AreIn (actuals_among sc es)
      among_in tree.none i = tt
      among_in (tree.more e es) i = in_both (actuals_in sc e) (actuals_among sc es) (expr_in e i.0) (among_in es i.1)

      given_in : (wanted : List Wanted) (es : PExprs) → InExprs P es → AreIn (actuals_given sc wanted es)
      given_in wanted tree.none i = tt
      given_in [] (tree.more e es) i = in_both (actuals_in sc e) (actuals_given sc [] es) (expr_in e i.0) (given_in [] es i.1)
      given_in (w ∷ wanted) (tree.more e es) i =
          in_both (own_actual sc w e ++ actuals_in sc e) (actuals_given sc wanted es) (in_both (own_actual sc w e) (actuals_in sc e) (own_in w e i.0) (expr_in e i.0)) (given_in wanted es i.1)

    pairs_in : (pairs : List PPair) → InPairs P pairs → AreIn (actuals_in_pairs sc pairs)
    pairs_in [] i = tt
    pairs_in (p ∷ pairs) i = in_both (actuals_in sc p.high) (actuals_in_pairs sc pairs) (expr_in p.high i.0) (pairs_in pairs i.1)

    module _ (Q : PBody → Type 0) where
      mutual
        stmt_in : (s : PStmt) → InStmt P Q s → AreIn (actuals_in_stmt sc s)
        stmt_in (tree.label n s) i = stmt_in s i
        stmt_in (tree.assign (tree.subscripted n es) e) i = in_both (actuals_among sc es) (actuals_in sc e) (among_in es i.1) (expr_in e i.2)
        stmt_in (tree.call_of (tree.called n es)) i = given_in (wants_of sc n) es i.1
        stmt_in (tree.block (tree.body spot tree.no_decls ss)) i = stmts_in ss i
        stmt_in (tree.block (tree.body spot (tree.decls d ds) ss)) i = tt
        stmt_in (tree.if_then c x) i = in_both (actuals_in sc c) (actuals_in_stmt sc x) (expr_in c i.0) (stmt_in x i.1)
        stmt_in (tree.if_else c x y) i =
            in_both (actuals_in sc c ++ actuals_in_stmt sc x) (actuals_in_stmt sc y) (in_both (actuals_in sc c) (actuals_in_stmt sc x) (expr_in c i.0) (stmt_in x i.1)) (stmt_in y i.2)
        stmt_in (tree.while c b) i = in_both (actuals_in sc c) (actuals_in_stmt sc b) (expr_in c i.0) (stmt_in b i.1)
        stmt_in (tree.until b c) i = in_both (actuals_in_stmt sc b) (actuals_in sc c) (stmt_in b i.0) (expr_in c i.1)
        stmt_in (tree.for v a s l b) i =
            in_both (actuals_in sc a ++ actuals_in sc s ++ actuals_in sc l) (actuals_in_stmt sc b)
            (in_both (actuals_in sc a ++ actuals_in sc s) (actuals_in sc l) (in_both (actuals_in sc a) (actuals_in sc s) (expr_in a i.1) (expr_in s i.2)) (expr_in l i.3)) (stmt_in b i.4)
        stmt_in (tree.thru e b) i = in_both (actuals_in sc e) (actuals_in_stmt sc b) (expr_in e i.0) (stmt_in b i.1)
        stmt_in (tree.case e ss) i = in_both (actuals_in sc e) (actuals_in_stmts sc ss) (expr_in e i.0) (stmts_in ss i.1)
        stmt_in (tree.process (tree.called n es) task) i = given_in (wants_of sc n) es i.1
        stmt_in (tree.write n spot phrases es) i = among_in es i
        stmt_in _ i = tt

        stmts_in : (ss : PStmts) → InStmts P Q ss → AreIn (actuals_in_stmts sc ss)
        stmts_in tree.no_stmts i = tt
        stmts_in (tree.stmts s ss) i = in_both (actuals_in_stmt sc s) (actuals_in_stmts sc ss) (stmt_in s i.0) (stmts_in ss i.1)

      -- ---- what a block has to do

      items_in : (ss : PStmts) (k : List Item) → InItems P Q (items ss k) → AreIn (actuals_in_stmts sc ss)
      items_in tree.no_stmts k i = tt
      items_in (tree.stmts s ss) k i = in_both (actuals_in_stmt sc s) (actuals_in_stmts sc ss) (stmt_in s i.0) (items_in ss k i.1)

      module _ (R : Named → Type 0) (more : (n : Named) → R n → P n) where
        abbrev Keeps : List Item → Type 0
        Keeps k = InDeclared P Q R k

        first_in : (ss : PStmts) (k : List Item) → Keeps (items ss k) → AreIn (actuals_in_stmts sc ss)
        first_in tree.no_stmts k i = tt
        first_in (tree.stmts s ss) k i = items_in (tree.stmts s ss) k i

        past_events : (ns : List Named) (k : List Item) → Keeps (event_items ns ++ k) → Keeps k
        past_events [] k i = i
        past_events (n ∷ ns) k i = past_events ns k i

        decls_in : (ds : PDecls) (k : List Item) → Keeps (decls_items ds ++ k) → AreIn (actuals_in_decls sc ds) × Keeps k
        decls_in tree.no_decls k i = (tt, i)
        decls_in (tree.decls (tree.arrays kind ns pairs) ds) k i =
            let later : AreIn (actuals_in_decls sc ds) × Keeps k = decls_in ds k i.1 in
            (in_both (actuals_in_pairs sc pairs) (actuals_in_decls sc ds) (pairs_in pairs (pairs_more P R more pairs i.0)) later.0, later.1)
        decls_in (tree.decls (tree.events ns) ds) k i = decls_in ds k (past_events ns (decls_items ds ++ k) (subst Keeps (append_assoc (event_items ns) (decls_items ds) k) i))
        decls_in (tree.decls (tree.tasks ns) ds) k i = decls_in ds k (past_events ns (decls_items ds ++ k) (subst Keeps (append_assoc (event_items ns) (decls_items ds) k) i))
        decls_in (tree.decls (tree.simple kind ns) ds) k i = decls_in ds k i
        decls_in (tree.decls (tree.files ns) ds) k i = decls_in ds k i
        decls_in (tree.decls (tree.labels ns) ds) k i = decls_in ds k i
        decls_in (tree.decls (tree.forward h) ds) k i = decls_in ds k i
        decls_in (tree.decls (tree.procedure h s) ds) k i = decls_in ds k i

        block_in : (b : Block) → Keeps (decls_items b.decls ++ items b.stmts (ending b)) → AreIn (actuals_of sc b)
        block_in b i =
            let parts : AreIn (actuals_in_decls sc b.decls) × Keeps (items b.stmts (ending b)) = decls_in b.decls (items b.stmts (ending b)) i in
            in_both (actuals_in_decls sc b.decls) (actuals_in_stmts sc b.stmts) parts.0 (first_in b.stmts (ending b) parts.1)

-- each name of an actual is seen from its block
pub actual_seen : (sc : Scopes) (j : ℕ) → IsText sc j → (level : ℕ) (e : PExpr) (kind : Kind) (couple : Couple) → IsOwnActual sc j level e kind couple → InExpr (BlockIsSeen sc j) e
actual_seen sc j text level e kind couple is =
    in_there (BlockIsSeen sc j) (actuals_of sc (block_numbered sc.blocks j))
    (block_in (BlockIsSeen sc j) sc (IsInner sc j) (IsSeenAround sc j) (λ n around_it. around_it.0) (block_numbered sc.blocks j) text.items) is.number (record { expr = e; kind = kind }) is.there

-- ---- what evaluates an actual

module _ (sc : Scopes) (j : ℕ) where
  evaluated_keeps : (x : Half) → InHalf (BlockIsSeen sc j) x → KeepsToText sc j (evaluated_of x)
  evaluated_keeps (val v) i = tt
  evaluated_keeps (busy h) i = i

  located_keeps : (x : HalfPlace) → InHalfPlace (BlockIsSeen sc j) x → KeepsToText sc j (located_of x)
  located_keeps (at p) i = i
  located_keeps (aims x) i = i

  -- for its value
  pub value_keeps : (e : PExpr) → InExpr (BlockIsSeen sc j) e → KeepsToText sc j (evaluated_of (settle sc e))
  value_keeps e i = evaluated_keeps (settle sc e) (settle_in (BlockIsSeen sc j) sc e i)

  -- for its place
  pub place_keeps : (e : PExpr) → has_place e ≡ true → InExpr (BlockIsSeen sc j) e → KeepsToText sc j (located_of (settle_actual_place sc e))
  place_keeps (tree.variable (tree.subscripted n (tree.more e es))) placed i =
      located_keeps (settle_place sc (tree.subscripted n (tree.more e es))) (settle_place_in (BlockIsSeen sc j) sc n (tree.more e es) i.0 i.1)
  place_keeps _ placed i = true_false placed refl
