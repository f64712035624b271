-- A block has no more actuals with cells than actuals.
use Rattle.std.proofs.Common.{ℕ, ◌+◌, ◌≤◌, ◌++◌, Bool, true, false, List, [], ◌∷◌, length, length-append, arith}
use Rattle.std.specs.Prelude.{if◌then◌else◌, is_some}
use Rattle.algol_tree.specs.Plain as tree
use Rattle.algol_tree.specs.Plain.{PExpr, PExprs, PPair, PStmt, PStmts, PDecls}
use Rattle.algol_tree.specs.Sorts.{procedure_in}
use Rattle.algol_tree.specs.Scopes.{Scopes, use_of}
use Rattle.b67_templates.specs.Cells.{Wanted, value, by_name, array, event, other, Actual, own_actual, wants_of, actuals_in, actuals_among, actuals_given, actuals_in_pairs, actuals_in_decls, actuals_in_stmt, actuals_in_stmts}
use Rattle.b67_templates.specs.Arguments.{arguments_in, arguments_among, arguments_given, arguments_in_pairs, arguments_in_decls, arguments_in_stmt, arguments_in_stmts, ActualsAreFew}

module _ (sc : Scopes) where
  if_one : (b : Bool) (a : Actual) → length (if b then a ∷ [] else []) ≤ 1
  if_one true a = omega arith
  if_one false a = omega arith

  one : (w : Wanted) (e : PExpr) → length (own_actual sc w e) ≤ 1
  one (by_name k) (tree.variable (tree.subscripted n tree.none)) =
      if_one (is_some (procedure_in ((use_of sc n).sort))) (record { expr = tree.variable (tree.subscripted n tree.none); kind = k })
  one (by_name k) _ = omega arith
  one (value k) e = omega arith
  one (array s) e = omega arith
  one event e = omega arith
  one other e = omega arith

  both : {X : Type 0} (xs ys : List X) (m n : ℕ) → length xs ≤ m → length ys ≤ n → length (xs ++ ys) ≤ m + n
  both xs ys m n h k = omega (arith, h, k, length-append xs ys)

  three : {X : Type 0} (xs ys zs : List X) (m n k : ℕ) → length xs ≤ m → length ys ≤ n → length zs ≤ k → length (xs ++ ys ++ zs) ≤ m + n + k
  three xs ys zs m n k h i j = both (xs ++ ys) zs (m + n) k (both xs ys m n h i) j

  four : {X : Type 0} (xs ys zs us : List X) (m n k j : ℕ) → length xs ≤ m → length ys ≤ n → length zs ≤ k → length us ≤ j → length (xs ++ ys ++ zs ++ us) ≤ m + n + k + j
  four xs ys zs us m n k j h i l o = both (xs ++ ys ++ zs) us (m + n + k) j (three xs ys zs m n k h i l) o

  within : {X : Type 0} (xs ys : List X) (m n : ℕ) → length xs ≤ m → length ys ≤ n → length (xs ++ ys) ≤ 1 + m + n
  within xs ys m n h k = omega (arith, both xs ys m n h k)

  mutual
    few_in : (e : PExpr) → length (actuals_in sc e) ≤ arguments_in e
    few_in (tree.variable (tree.subscripted n es)) = few_among es
    few_in (tree.call (tree.called n es)) = few_given (wants_of sc n) es
    few_in (tree.paren e spot) = few_in e
    few_in (tree.plus e spot) = few_in e
    few_in (tree.neg e spot) = few_in e
    few_in (tree.not e spot) = few_in e
    few_in (tree.two op x y) = both (actuals_in sc x) (actuals_in sc y) (arguments_in x) (arguments_in y) (few_in x) (few_in y)
    few_in (tree.if c x y spot) =
        three (actuals_in sc c) (actuals_in sc x) (actuals_in sc y) (arguments_in c) (arguments_in x) (arguments_in y) (few_in c) (few_in x) (few_in y)
    few_in _ = omega arith

    few_among : (es : PExprs) → length (actuals_among sc es) ≤ arguments_among es
    few_among tree.none = omega arith
    few_among (tree.more e es) = both (actuals_in sc e) (actuals_among sc es) (arguments_in e) (arguments_among es) (few_in e) (few_among es)

    few_given : (wanted : List Wanted) (es : PExprs) → length (actuals_given sc wanted es) ≤ arguments_given es
    few_given wanted tree.none = omega arith
    few_given [] (tree.more e es) =
        within (actuals_in sc e) (actuals_given sc [] es) (arguments_in e) (arguments_given es) (few_in e) (few_given [] es)
    few_given (w ∷ wanted) (tree.more e es) =
        three (own_actual sc w e) (actuals_in sc e) (actuals_given sc wanted es) 1 (arguments_in e) (arguments_given es) (one w e) (few_in e) (few_given wanted es)

  few_pairs : (pairs : List PPair) → length (actuals_in_pairs sc pairs) ≤ arguments_in_pairs pairs
  few_pairs [] = omega arith
  few_pairs (p ∷ pairs) = both (actuals_in sc p.high) (actuals_in_pairs sc pairs) (arguments_in p.high) (arguments_in_pairs pairs) (few_in p.high) (few_pairs pairs)

  few_decls : (ds : PDecls) → length (actuals_in_decls sc ds) ≤ arguments_in_decls ds
  few_decls tree.no_decls = omega arith
  few_decls (tree.decls (tree.arrays kind ns pairs) ds) =
      both (actuals_in_pairs sc pairs) (actuals_in_decls sc ds) (arguments_in_pairs pairs) (arguments_in_decls ds) (few_pairs pairs) (few_decls ds)
  few_decls (tree.decls (tree.simple kind ns) ds) = few_decls ds
  few_decls (tree.decls (tree.files ns) ds) = few_decls ds
  few_decls (tree.decls (tree.events ns) ds) = few_decls ds
  few_decls (tree.decls (tree.tasks ns) ds) = few_decls ds
  few_decls (tree.decls (tree.labels ns) ds) = few_decls ds
  few_decls (tree.decls (tree.forward heading) ds) = few_decls ds
  few_decls (tree.decls (tree.procedure heading s) ds) = few_decls ds

  mutual
    few_stmt : (s : PStmt) → length (actuals_in_stmt sc s) ≤ arguments_in_stmt s
    few_stmt (tree.label n s) = few_stmt s
    few_stmt (tree.assign (tree.subscripted n es) e) = both (actuals_among sc es) (actuals_in sc e) (arguments_among es) (arguments_in e) (few_among es) (few_in e)
    few_stmt (tree.call_of (tree.called n es)) = few_given (wants_of sc n) es
    few_stmt (tree.block (tree.body spot tree.no_decls ss)) = few_stmts ss
    few_stmt (tree.block (tree.body spot (tree.decls d ds) ss)) = omega arith
    few_stmt (tree.if_then c x) = both (actuals_in sc c) (actuals_in_stmt sc x) (arguments_in c) (arguments_in_stmt x) (few_in c) (few_stmt x)
    few_stmt (tree.if_else c x y) =
        three (actuals_in sc c) (actuals_in_stmt sc x) (actuals_in_stmt sc y) (arguments_in c) (arguments_in_stmt x) (arguments_in_stmt y) (few_in c) (few_stmt x) (few_stmt y)
    few_stmt (tree.while c b) = both (actuals_in sc c) (actuals_in_stmt sc b) (arguments_in c) (arguments_in_stmt b) (few_in c) (few_stmt b)
    few_stmt (tree.until b c) = both (actuals_in_stmt sc b) (actuals_in sc c) (arguments_in_stmt b) (arguments_in c) (few_stmt b) (few_in c)
    few_stmt (tree.for v a s l b) =
        four (actuals_in sc a) (actuals_in sc s) (actuals_in sc l) (actuals_in_stmt sc b) (arguments_in a) (arguments_in s) (arguments_in l) (arguments_in_stmt b) (few_in a) (few_in s)
        (few_in l) (few_stmt b)
    few_stmt (tree.thru e b) = both (actuals_in sc e) (actuals_in_stmt sc b) (arguments_in e) (arguments_in_stmt b) (few_in e) (few_stmt b)
    few_stmt (tree.case e ss) = both (actuals_in sc e) (actuals_in_stmts sc ss) (arguments_in e) (arguments_in_stmts ss) (few_in e) (few_stmts ss)
    few_stmt (tree.process (tree.called n es) task) = few_given (wants_of sc n) es
    few_stmt (tree.write n spot phrases es) = few_among es
    few_stmt _ = omega arith

    few_stmts : (ss : PStmts) → length (actuals_in_stmts sc ss) ≤ arguments_in_stmts ss
    few_stmts tree.no_stmts = omega arith
    few_stmts (tree.stmts s ss) = both (actuals_in_stmt sc s) (actuals_in_stmts sc ss) (arguments_in_stmt s) (arguments_in_stmts ss) (few_stmt s) (few_stmts ss)

pub actuals_are_few : ActualsAreFew
actuals_are_few sc b =
    both sc (actuals_in_decls sc b.decls) (actuals_in_stmts sc b.stmts) (arguments_in_decls b.decls) (arguments_in_stmts b.stmts) (few_decls sc b.decls) (few_stmts sc b.stmts)
