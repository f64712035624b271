-- Tokens pay for the code of statements and of what a block begins with, for that of the actuals of their block that have cells, and for the
-- table of labels.
use Rattle.std.proofs.Common.{◌≡◌, ℕ, ◌+◌, ◌*◌, ◌≤◌, ◌&&◌, if◌then◌else◌, Bool, true, false, List, [], ◌∷◌, ◌++◌, length, arith, length-append}
use Rattle.std.proofs.lemmas.List.{length-map}
use Rattle.algol_tree.specs.declared.tree.Named.{Named}
use Rattle.algol_tree.specs.Plain as tree
use Rattle.algol_tree.specs.Plain.{PExpr, PExprs, PPair, PStmt, PStmts, PDecls}
use Rattle.algol_tree.specs.Counts.{expr_tokens, exprs_tokens, pairs_tokens, stmt_tokens, stmts_tokens, decls_tokens}
use Rattle.b67_templates.specs.Cells.{variables, procedures, has_place}
use Rattle.b67_templates.specs.Fitting.{Told}
use Rattle.b67_templates.specs.Labels.{labels_in}
use Rattle.b67_templates.specs.Paying.{modes_of, actual_has_cell, routine_syllables, routines, routines_all, routines_given}
use Rattle.b67_templates.proofs.Paid.{tokens_pay}
use Rattle.b67_emitter.specs.Values.{meanings}
use Rattle.b67_emit_stmt.specs.declared.draft.Known.{Known}
use Rattle.b67_emit_stmt.specs.Actuals.{cells_in_actual, cells_among, cells_given, cells_in_pairs, cells_in_decls, cells_in_stmt, cells_in_stmts}
use Rattle.b67_emit_stmt.specs.Lengths.{expr_syllables, items_syllables, actuals_syllables, routines_syllables, bounds_syllables, decls_syllables, begin_syllables, stmt_syllables, stmts_syllables, celled_in}
use Rattle.b67_emit_stmt.proofs.Variables.{declared}
use Rattle.b67_emit_text.specs.Entries.{DeclaredLabel, entries_in_stmt, entries_in_stmts, entries_of, own_entries}

-- the entries of a block, and those within it
entries_many : (level : ℕ) (ds : PDecls) (ss : PStmts) → length (entries_of level ds ss) ≡ length (labels_in ds) + length (entries_in_stmts level ss)
entries_many level ds ss =
    let one : Named → DeclaredLabel = λ n. record { level = level; name = n; stmts = ss } in
    omega (arith, length-append (own_entries level ss (labels_in ds)) (entries_in_stmts level ss), length-map (labels_in ds) one)

module _ (s : Known) where
  abbrev told : Told
  told = meanings s.names.now

  both : (xs ys : List PExpr) → actuals_syllables s (xs ++ ys) ≡ actuals_syllables s xs + actuals_syllables s ys
  both [] ys = omega arith
  both (x ∷ xs) ys = omega (arith, both xs ys)

  one : (celled : Bool) (e : PExpr) → actuals_syllables s (if celled then e ∷ [] else []) ≡ (if celled then routine_syllables (has_place e) (expr_syllables s e) else 0)
  one true e = omega arith
  one false e = omega arith

  -- ---- expressions

  mutual
    counted : (e : PExpr) → actuals_syllables s (cells_in_actual told e) ≡ routines told e
    counted (tree.number z spot) = omega arith
    counted (tree.truth b spot) = omega arith
    counted (tree.variable (tree.subscripted n es)) = counted_among es
    counted (tree.call (tree.called n es)) = counted_given (modes_of (told.meant n.spot)) es
    counted (tree.tested t es spot) = omega arith
    counted (tree.paren e spot) = counted e
    counted (tree.plus e spot) = counted e
    counted (tree.neg e spot) = counted e
    counted (tree.not e spot) = counted e
    counted (tree.two op x y) = omega (arith, both (cells_in_actual told x) (cells_in_actual told y), counted x, counted y)
    counted (tree.if c x y spot) =
        omega (arith, both (cells_in_actual told c ++ cells_in_actual told x) (cells_in_actual told y), both (cells_in_actual told c) (cells_in_actual told x), counted c, counted x, counted y)

    counted_among : (es : PExprs) → actuals_syllables s (cells_among told es) ≡ routines_all told es
    counted_among tree.none = omega arith
    counted_among (tree.more e es) = omega (arith, both (cells_in_actual told e) (cells_among told es), counted e, counted_among es)

    counted_given : (modes : List Bool) (es : PExprs) → actuals_syllables s (cells_given told modes es) ≡ routines_given told modes es
    counted_given modes tree.none = omega arith
    counted_given [] (tree.more e es) = omega (arith, both (cells_in_actual told e) (cells_given told [] es), counted e, counted_given [] es)
    counted_given (mode ∷ modes) (tree.more e es) =
        let own : List PExpr = if mode && actual_has_cell told e then e ∷ [] else [] in
        omega (arith, both (own ++ cells_in_actual told e) (cells_given told modes es), both own (cells_in_actual told e), one (mode && actual_has_cell told e) e, counted e, counted_given modes es)

  pub expr_pays : (e : PExpr) → 2 * expr_syllables s e + actuals_syllables s (cells_in_actual told e) ≤ 24 * expr_tokens e
  expr_pays e = omega (arith, counted e, tokens_pay told e)

  items_pay : (es : PExprs) → items_syllables s es + actuals_syllables s (cells_among told es) ≤ 24 * exprs_tokens es
  items_pay tree.none = omega arith
  items_pay (tree.more e es) = omega (arith, both (cells_in_actual told e) (cells_among told es), expr_pays e, items_pay es)

  -- ---- what a block begins with

  bounds_pay : (pairs : List PPair) → bounds_syllables s pairs + actuals_syllables s (cells_in_pairs told pairs) ≤ 24 * pairs_tokens pairs
  bounds_pay [] = omega arith
  bounds_pay (p ∷ pairs) = omega (arith, both (cells_in_actual told p.high) (cells_in_pairs told pairs), expr_pays p.high, bounds_pay pairs)

  -- the declaration of a label pays for its entry of the table
  decls_pay : (ds : PDecls) →
      length (variables ds) + 12 * length (procedures ds) + decls_syllables s ds + actuals_syllables s (cells_in_decls told ds) + 3 * length (labels_in ds) ≤ 24 * decls_tokens ds
  decls_pay tree.no_decls = omega arith
  decls_pay (tree.decls (tree.simple kind ns) ds) = omega (arith, declared kind ns ds, decls_pay ds)
  decls_pay (tree.decls (tree.files ns) ds) = omega (arith, decls_pay ds)
  decls_pay (tree.decls (tree.events ns) ds) = omega (arith, decls_pay ds)
  decls_pay (tree.decls (tree.tasks ns) ds) = omega (arith, decls_pay ds)
  decls_pay (tree.decls (tree.labels ns) ds) = omega (arith, length-append ns (labels_in ds), decls_pay ds)
  decls_pay (tree.decls (tree.arrays kind ns pairs) ds) = omega (arith, both (cells_in_pairs told pairs) (cells_in_decls told ds), bounds_pay pairs, decls_pay ds)
  decls_pay (tree.decls (tree.forward h) ds) = omega (arith, decls_pay ds)
  decls_pay (tree.decls (tree.procedure h x) ds) = omega (arith, decls_pay ds)

  -- ---- statements

  mutual
    stmt_pays : (level : ℕ) (x : PStmt) → stmt_syllables s x + actuals_syllables s (cells_in_stmt told x) + 3 * length (entries_in_stmt level x) ≤ 24 * stmt_tokens x
    stmt_pays level tree.empty = omega arith
    stmt_pays level (tree.label n x) = omega (arith, stmt_pays level x)
    stmt_pays level (tree.assign (tree.subscripted n tree.none) e) = omega (arith, expr_pays e)
    stmt_pays level (tree.assign (tree.subscripted n (tree.more i is)) e) =
        omega (arith, both (cells_among told (tree.more i is)) (cells_in_actual told e), expr_pays (tree.variable (tree.subscripted n (tree.more i is))), expr_pays e)
    stmt_pays level (tree.call_of (tree.called n es)) = omega (arith, expr_pays (tree.call (tree.called n es)))
    stmt_pays level (tree.go_to n) = omega arith
    stmt_pays level (tree.block (tree.body spot tree.no_decls ss)) = omega (arith, stmts_pay level ss)
    stmt_pays level (tree.block (tree.body spot (tree.decls d ds) ss)) =
        omega (
          arith,
          both (cells_in_decls told (tree.decls d ds)) (cells_in_stmts told ss),
          decls_pay (tree.decls d ds),
          stmts_pay (level + 1) ss,
          entries_many (level + 1) (tree.decls d ds) ss,
        )
    stmt_pays level (tree.if_then c x) = omega (arith, both (cells_in_actual told c) (cells_in_stmt told x), expr_pays c, stmt_pays level x)
    stmt_pays level (tree.if_else c x y) =
        omega (arith, both (cells_in_actual told c ++ cells_in_stmt told x) (cells_in_stmt told y), both (cells_in_actual told c) (cells_in_stmt told x), expr_pays c, stmt_pays level x, stmt_pays level y, length-append (entries_in_stmt level x) (entries_in_stmt level y))
    stmt_pays level (tree.while c b) = omega (arith, both (cells_in_actual told c) (cells_in_stmt told b), expr_pays c, stmt_pays level b)
    stmt_pays level (tree.until b c) = omega (arith, both (cells_in_stmt told b) (cells_in_actual told c), expr_pays c, stmt_pays level b)
    stmt_pays level (tree.for v a t l b) =
        omega (
          arith,
          both (cells_in_actual told a ++ cells_in_actual told t ++ cells_in_actual told l) (cells_in_stmt told b),
          both (cells_in_actual told a ++ cells_in_actual told t) (cells_in_actual told l),
          both (cells_in_actual told a) (cells_in_actual told t),
          expr_pays a,
          expr_pays t,
          expr_pays l,
          stmt_pays level b,
        )
    stmt_pays level (tree.thru e b) = omega (arith, both (cells_in_actual told e) (cells_in_stmt told b), expr_pays e, stmt_pays level b)
    stmt_pays level (tree.case e ss) = omega (arith, both (cells_in_actual told e) (cells_in_stmts told ss), expr_pays e, stmts_pay level ss)
    stmt_pays level (tree.process (tree.called n es) task) = omega (arith, expr_pays (tree.call (tree.called n es)))
    stmt_pays level (tree.event act e) = omega arith
    stmt_pays level (tree.write n spot phrases es) = omega (arith, items_pay es)

    stmts_pay : (level : ℕ) (xs : PStmts) →
        stmts_syllables s xs + actuals_syllables s (cells_in_stmts told xs) + 3 * length (entries_in_stmts level xs) ≤ 24 * stmts_tokens xs
    stmts_pay level tree.no_stmts = omega arith
    stmts_pay level (tree.stmts x xs) =
        omega (
          arith,
          both (cells_in_stmt told x) (cells_in_stmts told xs),
          stmt_pays level x,
          stmts_pay level xs,
          length-append (entries_in_stmt level x) (entries_in_stmts level xs),
        )

  -- ---- a text up to its end, the code of its actuals and the table of its labels

  pub inside_pays : (level : ℕ) (ds : PDecls) (ss : PStmts) →
      routines_syllables s (celled_in s ds ss) + begin_syllables s (length (variables ds)) ds (celled_in s ds ss) + stmts_syllables s ss + 3 * length (entries_of level ds ss)
      ≤ 24 * (decls_tokens ds + stmts_tokens ss) + 1
  inside_pays level ds ss = omega (arith, both (cells_in_decls told ds) (cells_in_stmts told ss), decls_pay ds, stmts_pay level ss, entries_many level ds ss)
