-- The code of an actual needs no more words than two for each token of the text in which the actual stands. So they have room above the
-- control words of that block.
use Rattle.std.proofs.Common.{◌≡◌, subst, ℕ, zero, suc, ◌+◌, ◌*◌, ◌≤◌, ◌++◌, Bool, true, false, List, [], ◌∷◌, length, Some, arith}
use Rattle.b67_list.proofs.Numbers.{none_some}
use Rattle.b67_rows.proofs.Prelude.{if◌then◌else◌, is_some, slice_get, Block, expr_tokens, exprs_tokens, pairs_tokens, stmt_tokens, stmts_tokens, decls_tokens, PExpr, PExprs, PPair, PStmt, PStmts, PDecls, Scopes, use_of, procedure_in, arguments_in_decls, arguments_in_stmt, arguments_in_stmts, Wanted, value, by_name, array, other, Actual, procedures, own_actual, wants_of, actuals_in, actuals_among, actuals_given, actuals_in_pairs, actuals_in_decls, actuals_in_stmt, actuals_in_stmts, actuals_of, depth, some_same}
use Rattle.algol_tree.specs.Plain as tree
use Rattle.b67_templates.specs.Cells.{event}
use Rattle.b67_rows.proofs.Weighing.{depth_small, arguments_small, among_small, given_small, bounds_arguments}

-- ---- lists of actuals

-- the code of each needs no more than so many words
abbrev AreLow : ℕ → List Actual → Type 0
AreLow m [] = Unit {0}
AreLow m (a ∷ as') = (depth a.expr ≤ m) × AreLow m as'

low_both : (k : ℕ) (as' bs : List Actual) → AreLow k as' → AreLow k bs → AreLow k (as' ++ bs)
low_both k [] bs low more = more
low_both k (a ∷ as') bs low more = (low.0, low_both k as' bs low.1 more)

low_more : (m k : ℕ) (as' : List Actual) → m ≤ k → AreLow m as' → AreLow k as'
low_more m k [] h low = tt
low_more m k (a ∷ as') h low = (omega (arith, h, low.0), low_more m k as' h low.1)

-- in two parts of a text
low_joined : (m n k : ℕ) (as' bs : List Actual) → m ≤ k → n ≤ k → AreLow m as' → AreLow n bs → AreLow k (as' ++ bs)
low_joined m n k as' bs h i low more = low_both k as' bs (low_more m k as' h low) (low_more n k bs i more)

low_there : (m : ℕ) (as' : List Actual) → AreLow m as' → (n : ℕ) (a : Actual) → slice_get as' n ≡ Some a → depth a.expr ≤ m
low_there m [] low n a e = none_some e
low_there m (b ∷ as') low zero a e = subst (λ (x : Actual). depth x.expr ≤ m) (some_same e) low.0
low_there m (b ∷ as') low (suc n) a e = low_there m as' low.1 n a e

-- ---- texts

module _ (sc : Scopes) where
  low_if : (m : ℕ) (b : Bool) (a : Actual) → depth a.expr ≤ m → AreLow m (if b then a ∷ [] else [])
  low_if m true a h = (h, tt)
  low_if m false a h = tt

  own_low : (w : Wanted) (e : PExpr) → AreLow (2 * expr_tokens e) (own_actual sc w e)
  own_low (by_name k) (tree.variable (tree.subscripted n tree.none)) =
      low_if 2 (is_some (procedure_in ((use_of sc n).sort))) (record { expr = tree.variable (tree.subscripted n tree.none); kind = k }) (omega arith)
  own_low (by_name k) (tree.number z spot) = (depth_small (tree.number z spot), tt)
  own_low (by_name k) (tree.truth b spot) = (depth_small (tree.truth b spot), tt)
  own_low (by_name k) (tree.variable (tree.subscripted n (tree.more e es))) = (depth_small (tree.variable (tree.subscripted n (tree.more e es))), tt)
  own_low (by_name k) (tree.call c) = (depth_small (tree.call c), tt)
  own_low (by_name k) (tree.tested x es spot) = (depth_small (tree.tested x es spot), tt)
  own_low (by_name k) (tree.paren e spot) = (depth_small (tree.paren e spot), tt)
  own_low (by_name k) (tree.plus e spot) = (depth_small (tree.plus e spot), tt)
  own_low (by_name k) (tree.neg e spot) = (depth_small (tree.neg e spot), tt)
  own_low (by_name k) (tree.not e spot) = (depth_small (tree.not e spot), tt)
  own_low (by_name k) (tree.two op x y) = (depth_small (tree.two op x y), tt)
  own_low (by_name k) (tree.if c x y spot) = (depth_small (tree.if c x y spot), tt)
  own_low (value k) e = tt
  own_low (array s) e = tt
  own_low event e = tt
  own_low other e = tt

  mutual
    expr_low : (e : PExpr) → AreLow (2 * expr_tokens e) (actuals_in sc e)
    expr_low (tree.variable (tree.subscripted n tree.none)) = tt
    expr_low (tree.variable (tree.subscripted n (tree.more e es))) =
        low_more (2 * exprs_tokens (tree.more e es)) (2 * expr_tokens (tree.variable (tree.subscripted n (tree.more e es)))) (actuals_among sc (tree.more e es)) (omega arith) (among_low (tree.more e es))
    expr_low (tree.call (tree.called n tree.none)) = low_more 0 2 (actuals_given sc (wants_of sc n) tree.none) (omega arith) (given_low (wants_of sc n) tree.none)
    expr_low (tree.call (tree.called n (tree.more e es))) =
        low_more (2 * exprs_tokens (tree.more e es)) (2 * expr_tokens (tree.call (tree.called n (tree.more e es)))) (actuals_given sc (wants_of sc n) (tree.more e es)) (omega arith)
        (given_low (wants_of sc n) (tree.more e es))
    expr_low (tree.paren e spot) = low_more (2 * expr_tokens e) (2 * expr_tokens (tree.paren e spot)) (actuals_in sc e) (omega arith) (expr_low e)
    expr_low (tree.plus e spot) = low_more (2 * expr_tokens e) (2 * expr_tokens (tree.plus e spot)) (actuals_in sc e) (omega arith) (expr_low e)
    expr_low (tree.neg e spot) = low_more (2 * expr_tokens e) (2 * expr_tokens (tree.neg e spot)) (actuals_in sc e) (omega arith) (expr_low e)
    expr_low (tree.not e spot) = low_more (2 * expr_tokens e) (2 * expr_tokens (tree.not e spot)) (actuals_in sc e) (omega arith) (expr_low e)
    expr_low (tree.two op x y) =
        low_joined (2 * expr_tokens x) (2 * expr_tokens y) (2 * expr_tokens (tree.two op x y)) (actuals_in sc x) (actuals_in sc y) (omega arith) (omega arith) (expr_low x) (expr_low y)
    expr_low (tree.if c x y spot) =
        let k : ℕ = 2 * expr_tokens (tree.if c x y spot) in
        low_joined k (2 * expr_tokens y) k (actuals_in sc c ++ actuals_in sc x) (actuals_in sc y) (omega arith) (omega arith)
        (low_joined (2 * expr_tokens c) (2 * expr_tokens x) k (actuals_in sc c) (actuals_in sc x) (omega arith) (omega arith) (expr_low c) (expr_low x)) (expr_low y)
    expr_low _ = tt

    among_low : (es : PExprs) → AreLow (2 * exprs_tokens es) (actuals_among sc es)
    among_low tree.none = tt
    among_low (tree.more e es) =
        low_joined (2 * expr_tokens e) (2 * exprs_tokens es) (2 * exprs_tokens (tree.more e es)) (actuals_in sc e) (actuals_among sc es) (omega arith) (omega arith) (expr_low e) (among_low es)

    given_low : (wanted : List Wanted) (es : PExprs) → AreLow (2 * exprs_tokens es) (actuals_given sc wanted es)
    given_low wanted tree.none = tt
    given_low [] (tree.more e es) =
        low_joined (2 * expr_tokens e) (2 * exprs_tokens es) (2 * exprs_tokens (tree.more e es)) (actuals_in sc e) (actuals_given sc [] es) (omega arith) (omega arith) (expr_low e) (given_low [] es)
    given_low (w ∷ wanted) (tree.more e es) =
        let k : ℕ = 2 * exprs_tokens (tree.more e es) in
        low_joined k (2 * exprs_tokens es) k (own_actual sc w e ++ actuals_in sc e) (actuals_given sc wanted es) (omega arith) (omega arith)
        (low_joined (2 * expr_tokens e) (2 * expr_tokens e) k (own_actual sc w e) (actuals_in sc e) (omega arith) (omega arith) (own_low w e) (expr_low e)) (given_low wanted es)

  pairs_low : (pairs : List PPair) → AreLow (2 * pairs_tokens pairs) (actuals_in_pairs sc pairs)
  pairs_low [] = tt
  pairs_low (p ∷ pairs) =
      low_joined (2 * expr_tokens p.high) (2 * pairs_tokens pairs) (2 * pairs_tokens (p ∷ pairs)) (actuals_in sc p.high) (actuals_in_pairs sc pairs) (omega arith) (omega arith) (expr_low p.high) (pairs_low pairs)

  decls_low : (ds : PDecls) → AreLow (2 * decls_tokens ds) (actuals_in_decls sc ds)
  decls_low tree.no_decls = tt
  decls_low (tree.decls (tree.arrays kind ns pairs) ds) =
      low_joined (2 * pairs_tokens pairs) (2 * decls_tokens ds) (2 * decls_tokens (tree.decls (tree.arrays kind ns pairs) ds)) (actuals_in_pairs sc pairs) (actuals_in_decls sc ds) (omega arith) (omega arith)
      (pairs_low pairs) (decls_low ds)
  decls_low (tree.decls (tree.simple kind ns) ds) = low_more (2 * decls_tokens ds) (2 * decls_tokens (tree.decls (tree.simple kind ns) ds)) (actuals_in_decls sc ds) (omega arith) (decls_low ds)
  decls_low (tree.decls (tree.files ns) ds) = low_more (2 * decls_tokens ds) (2 * decls_tokens (tree.decls (tree.files ns) ds)) (actuals_in_decls sc ds) (omega arith) (decls_low ds)
  decls_low (tree.decls (tree.events ns) ds) = low_more (2 * decls_tokens ds) (2 * decls_tokens (tree.decls (tree.events ns) ds)) (actuals_in_decls sc ds) (omega arith) (decls_low ds)
  decls_low (tree.decls (tree.tasks ns) ds) = low_more (2 * decls_tokens ds) (2 * decls_tokens (tree.decls (tree.tasks ns) ds)) (actuals_in_decls sc ds) (omega arith) (decls_low ds)
  decls_low (tree.decls (tree.labels ns) ds) = low_more (2 * decls_tokens ds) (2 * decls_tokens (tree.decls (tree.labels ns) ds)) (actuals_in_decls sc ds) (omega arith) (decls_low ds)
  decls_low (tree.decls (tree.forward h) ds) = low_more (2 * decls_tokens ds) (2 * decls_tokens (tree.decls (tree.forward h) ds)) (actuals_in_decls sc ds) (omega arith) (decls_low ds)
  decls_low (tree.decls (tree.procedure h s) ds) = low_more (2 * decls_tokens ds) (2 * decls_tokens (tree.decls (tree.procedure h s) ds)) (actuals_in_decls sc ds) (omega arith) (decls_low ds)

  -- of an expression and a statement
  test_low : (c : PExpr) (x : PStmt) (k : ℕ) → 2 * expr_tokens c ≤ k → 2 * stmt_tokens x ≤ k → AreLow (2 * stmt_tokens x) (actuals_in_stmt sc x) → AreLow k (actuals_in sc c ++ actuals_in_stmt sc x)
  test_low c x k h i low = low_joined (2 * expr_tokens c) (2 * stmt_tokens x) k (actuals_in sc c) (actuals_in_stmt sc x) h i (expr_low c) low

  mutual
    stmt_low : (s : PStmt) → AreLow (2 * stmt_tokens s) (actuals_in_stmt sc s)
    stmt_low (tree.label n s) = low_more (2 * stmt_tokens s) (2 * stmt_tokens (tree.label n s)) (actuals_in_stmt sc s) (omega arith) (stmt_low s)
    stmt_low (tree.assign (tree.subscripted n tree.none) e) =
        low_more (2 * expr_tokens e) (2 * stmt_tokens (tree.assign (tree.subscripted n tree.none) e)) (actuals_in sc e) (omega arith) (expr_low e)
    stmt_low (tree.assign (tree.subscripted n (tree.more i is)) e) =
        low_joined (2 * exprs_tokens (tree.more i is)) (2 * expr_tokens e) (2 * stmt_tokens (tree.assign (tree.subscripted n (tree.more i is)) e)) (actuals_among sc (tree.more i is)) (actuals_in sc e) (omega arith) (omega arith)
        (among_low (tree.more i is)) (expr_low e)
    stmt_low (tree.call_of (tree.called n tree.none)) = expr_low (tree.call (tree.called n tree.none))
    stmt_low (tree.call_of (tree.called n (tree.more e es))) = expr_low (tree.call (tree.called n (tree.more e es)))
    stmt_low (tree.block (tree.body spot tree.no_decls ss)) =
        low_more (2 * stmts_tokens ss) (2 * stmt_tokens (tree.block (tree.body spot tree.no_decls ss))) (actuals_in_stmts sc ss) (omega arith) (stmts_low ss)
    stmt_low (tree.block (tree.body spot (tree.decls d ds) ss)) = tt
    stmt_low (tree.if_then c x) = test_low c x (2 * stmt_tokens (tree.if_then c x)) (omega arith) (omega arith) (stmt_low x)
    stmt_low (tree.if_else c x y) =
        let k : ℕ = 2 * stmt_tokens (tree.if_else c x y) in
        low_joined k (2 * stmt_tokens y) k (actuals_in sc c ++ actuals_in_stmt sc x) (actuals_in_stmt sc y) (omega arith) (omega arith) (test_low c x k (omega arith) (omega arith) (stmt_low x)) (stmt_low y)
    stmt_low (tree.while c b) = test_low c b (2 * stmt_tokens (tree.while c b)) (omega arith) (omega arith) (stmt_low b)
    stmt_low (tree.until b c) =
        low_joined (2 * stmt_tokens b) (2 * expr_tokens c) (2 * stmt_tokens (tree.until b c)) (actuals_in_stmt sc b) (actuals_in sc c) (omega arith) (omega arith) (stmt_low b) (expr_low c)
    stmt_low (tree.for v a s l b) =
        let k : ℕ = 2 * stmt_tokens (tree.for v a s l b) in
        low_joined k (2 * stmt_tokens b) k (actuals_in sc a ++ actuals_in sc s ++ actuals_in sc l) (actuals_in_stmt sc b) (omega arith) (omega arith)
        (low_joined k (2 * expr_tokens l) k (actuals_in sc a ++ actuals_in sc s) (actuals_in sc l) (omega arith) (omega arith)
        (low_joined (2 * expr_tokens a) (2 * expr_tokens s) k (actuals_in sc a) (actuals_in sc s) (omega arith) (omega arith) (expr_low a) (expr_low s)) (expr_low l)) (stmt_low b)
    stmt_low (tree.thru e b) = test_low e b (2 * stmt_tokens (tree.thru e b)) (omega arith) (omega arith) (stmt_low b)
    stmt_low (tree.case e ss) =
        low_joined (2 * expr_tokens e) (2 * stmts_tokens ss) (2 * stmt_tokens (tree.case e ss)) (actuals_in sc e) (actuals_in_stmts sc ss) (omega arith) (omega arith) (expr_low e) (stmts_low ss)
    stmt_low (tree.process (tree.called n tree.none) task) =
        low_more (2 * expr_tokens (tree.call (tree.called n tree.none))) (2 * stmt_tokens (tree.process (tree.called n tree.none) task)) (actuals_in sc (tree.call (tree.called n tree.none))) (omega arith)
        (expr_low (tree.call (tree.called n tree.none)))
    stmt_low (tree.process (tree.called n (tree.more e es)) task) =
        low_more (2 * expr_tokens (tree.call (tree.called n (tree.more e es)))) (2 * stmt_tokens (tree.process (tree.called n (tree.more e es)) task)) (actuals_in sc (tree.call (tree.called n (tree.more e es)))) (omega arith)
        (expr_low (tree.call (tree.called n (tree.more e es))))
    stmt_low (tree.write n spot phrases es) = low_more (2 * exprs_tokens es) (2 * stmt_tokens (tree.write n spot phrases es)) (actuals_among sc es) (omega arith) (among_low es)
    stmt_low _ = tt

    stmts_low : (ss : PStmts) → AreLow (2 * stmts_tokens ss) (actuals_in_stmts sc ss)
    stmts_low tree.no_stmts = tt
    stmts_low (tree.stmts s ss) =
        low_joined (2 * stmt_tokens s) (2 * stmts_tokens ss) (2 * stmts_tokens (tree.stmts s ss)) (actuals_in_stmt sc s) (actuals_in_stmts sc ss) (omega arith) (omega arith) (stmt_low s) (stmts_low ss)

-- ---- control words

-- procedures and actuals of declarations are no more than their tokens
controls_in_decls : (ds : PDecls) → length (procedures ds) + arguments_in_decls ds ≤ decls_tokens ds
controls_in_decls tree.no_decls = omega arith
controls_in_decls (tree.decls (tree.simple kind ns) ds) = omega (arith, controls_in_decls ds)
controls_in_decls (tree.decls (tree.files ns) ds) = omega (arith, controls_in_decls ds)
controls_in_decls (tree.decls (tree.events ns) ds) = omega (arith, controls_in_decls ds)
controls_in_decls (tree.decls (tree.tasks ns) ds) = omega (arith, controls_in_decls ds)
controls_in_decls (tree.decls (tree.labels ns) ds) = omega (arith, controls_in_decls ds)
controls_in_decls (tree.decls (tree.arrays kind ns pairs) ds) = omega (arith, controls_in_decls ds, bounds_arguments pairs)
controls_in_decls (tree.decls (tree.forward h) ds) = omega (arith, controls_in_decls ds)
controls_in_decls (tree.decls (tree.procedure h s) ds) = omega (arith, controls_in_decls ds)

mutual
  arguments_in_text : (s : PStmt) → arguments_in_stmt s ≤ stmt_tokens s
  arguments_in_text (tree.label n s) = omega (arith, arguments_in_text s)
  arguments_in_text (tree.assign (tree.subscripted n tree.none) e) = omega (arith, arguments_small e)
  arguments_in_text (tree.assign (tree.subscripted n (tree.more i is)) e) = omega (arith, arguments_small i, among_small is, arguments_small e)
  arguments_in_text (tree.call_of (tree.called n tree.none)) = omega arith
  arguments_in_text (tree.call_of (tree.called n (tree.more e es))) = omega (arith, arguments_small e, given_small es)
  arguments_in_text (tree.block (tree.body spot tree.no_decls ss)) = omega (arith, arguments_in_texts ss)
  arguments_in_text (tree.block (tree.body spot (tree.decls d ds) ss)) = omega arith
  arguments_in_text (tree.if_then c x) = omega (arith, arguments_small c, arguments_in_text x)
  arguments_in_text (tree.if_else c x y) = omega (arith, arguments_small c, arguments_in_text x, arguments_in_text y)
  arguments_in_text (tree.while c b) = omega (arith, arguments_small c, arguments_in_text b)
  arguments_in_text (tree.until b c) = omega (arith, arguments_in_text b, arguments_small c)
  arguments_in_text (tree.for v a s l b) = omega (arith, arguments_small a, arguments_small s, arguments_small l, arguments_in_text b)
  arguments_in_text (tree.thru e b) = omega (arith, arguments_small e, arguments_in_text b)
  arguments_in_text (tree.case e ss) = omega (arith, arguments_small e, arguments_in_texts ss)
  arguments_in_text (tree.process (tree.called n tree.none) task) = omega arith
  arguments_in_text (tree.process (tree.called n (tree.more e es)) task) = omega (arith, arguments_small e, given_small es)
  arguments_in_text (tree.write n spot phrases es) = omega (arith, among_small es)
  arguments_in_text _ = omega arith

  arguments_in_texts : (ss : PStmts) → arguments_in_stmts ss ≤ stmts_tokens ss
  arguments_in_texts tree.no_stmts = omega arith
  arguments_in_texts (tree.stmts s ss) = omega (arith, arguments_in_text s, arguments_in_texts ss)

-- The code of each actual of a block has room, with the control words of its procedures and of its actuals, in four words for each token of the
-- block's own declarations and statements.
pub actual_small : (sc : Scopes) (b : Block) (n : ℕ) (a : Actual) → slice_get (actuals_of sc b) n ≡ Some a →
    depth a.expr + length (procedures b.decls) + (arguments_in_decls b.decls + arguments_in_stmts b.stmts) ≤ 4 * (decls_tokens b.decls + stmts_tokens b.stmts)
actual_small sc b n a e =
    let k : ℕ = 2 * (decls_tokens b.decls + stmts_tokens b.stmts) in
    omega (
      arith,
      low_there k (actuals_of sc b) (low_joined (2 * decls_tokens b.decls) (2 * stmts_tokens b.stmts) k (actuals_in_decls sc b.decls) (actuals_in_stmts sc b.stmts) (omega arith) (omega arith) (decls_low sc b.decls)
          (stmts_low sc b.stmts)) n a e,
      controls_in_decls b.decls,
      arguments_in_texts b.stmts,
    )
