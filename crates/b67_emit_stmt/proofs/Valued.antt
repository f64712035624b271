-- Each actual of what fits that has a cell has a value, and its code a level.
use Rattle.std.proofs.Common.{◌≡◌, sym, ap, ◌∙◌, subst, arith, ℕ, ℤ, ◌+◌, ◌≤◌, ◌⊎◌, inl, inr, ◌++◌, Bool, true, false, if◌then◌else◌, List, [], ◌∷◌, is_some}
use Rattle.algol_tree.specs.declared.tree.Kind.{Kind}
use Rattle.algol_tree.specs.declared.tree.Kind.TheVariants as types
use Rattle.algol_tree.specs.declared.tree.Named.{Named}
use Rattle.algol_tree.specs.Plain as tree
use Rattle.algol_tree.specs.Plain.{PExpr, PExprs, PPair, PStmt, PStmts, PDecls}
use Rattle.algol_tree.specs.Sorts.{Sort, procedure_in}
use Rattle.algol_tree.specs.Types.{taken_by}
use Rattle.algol_tree.specs.Blocks.{block_numbered}
use Rattle.algol_tree.specs.Cells.{first_spot}
use Rattle.algol_tree.specs.Scopes.{Scopes, use_of}
use Rattle.algol_tree.proofs.Trees.{formal_no_procedure, variable_no_procedure}
use Rattle.algol_meaning.specs.Settle.{block_of_sort, sorts_of}
use Rattle.algol_meaning.specs.Statements.{alone}
use Rattle.b67_ops.specs.declared.TheConstants.{MOST_LEVEL}
use Rattle.b67_templates.specs.Cells as wants
use Rattle.b67_templates.specs.Cells.{Wanted, Actual, parameter_wants, own_actual, actuals_in, actuals_among, actuals_given, actuals_in_pairs, actuals_in_decls, actuals_in_stmt, actuals_in_stmts, actuals_in_block}
use Rattle.b67_templates.specs.Fitting as fitting
use Rattle.b67_templates.specs.Fitting.{Told, ProcedureFits, ExprFits, SubscriptsFit, ActualsFit, NameActualFits, BoundsFit, DeclsFit, LineFits}
use Rattle.b67_emitter.specs.Values.{meanings}
use Rattle.b67_emit_stmt.specs.declared.draft.Known.{Known}
use Rattle.b67_emit_stmt.specs.Actuals.{AreInner, HaveValues, cells_in_block}
use Rattle.b67_emit_stmt.specs.Bodies.{AreActuals}
use Rattle.b67_emit_stmt.specs.Fits.{EmittedStmtFits, EmittedStmtsFit, InsideFits}
use Rattle.b67_emit_stmt.specs.Places.{Place}
use Rattle.b67_emit_stmt.proofs.Celled.{celled_inside}

module _ (sc : Scopes) (told : Told) (inner : AreInner told) (level block : ℕ) where
  abbrev Have : List Actual → Type 0
  Have as' = HaveValues sc told level block as'

  pub have_both : (xs ys : List Actual) → Have xs → Have ys → Have (xs ++ ys)
  have_both [] ys h k = k
  have_both (x ∷ xs) ys h k = (h.0, h.1, have_both xs ys h.2 k)

  -- what is given by name has no cell, or its block's level is not the last
  own_level : (k : Kind) (e : PExpr) → NameActualFits sc told level block k e → (own_actual sc (wants.by_name k) e ≡ []) ⊎ (level + 1 ≤ MOST_LEVEL)
  own_level k e (fitting.refers_to n c is meant_is known v outer) =
      let none = variable_no_procedure ((use_of sc n).sort) v.variable in
      inl (ap (λ (x : PExpr). own_actual sc (wants.by_name k) x) is ∙ ap (λ (p : Bool). if p then record { expr = alone n; kind = k } ∷ [] else []) none)
  own_level k e (fitting.passes_on n c is meant_is known v) =
      let none = formal_no_procedure ((use_of sc n).sort) v.sort_is in
      inl (ap (λ (x : PExpr). own_actual sc (wants.by_name k) x) is ∙ ap (λ (p : Bool). if p then record { expr = alone n; kind = k } ∷ [] else []) none)
  own_level k e (fitting.names c known own) = inr (omega (arith, own.level_is, inner (first_spot e) c known))

  own_if : (procedure : Bool) (a : Actual) → level + 1 ≤ MOST_LEVEL → ExprFits sc told level block a.kind a.expr → Have (if procedure then a ∷ [] else [])
  own_if true a lo f = (f, lo, tt)
  own_if false a lo f = tt

  own_value : (k : Kind) (e : PExpr) → level + 1 ≤ MOST_LEVEL → ExprFits sc told level block k e → Have (own_actual sc (wants.by_name k) e)
  own_value k (tree.variable (tree.subscripted n tree.none)) lo f =
      own_if (is_some (procedure_in ((use_of sc n).sort))) (record { expr = tree.variable (tree.subscripted n tree.none); kind = k }) lo f
  own_value k e lo f = (f, lo, tt)

  own_has : (k : Kind) (e : PExpr) → NameActualFits sc told level block k e → ExprFits sc told level block k e → Have (own_actual sc (wants.by_name k) e)
  own_has k e n f = by (own_level k e n)
    where
      by : (own_actual sc (wants.by_name k) e ≡ []) ⊎ (level + 1 ≤ MOST_LEVEL) → Have (own_actual sc (wants.by_name k) e)
      by (inl none) = subst Have (sym none) tt
      by (inr lo) = own_value k e lo f

  mutual
    pub have_in : (k : Kind) (e : PExpr) → ExprFits sc told level block k e → Have (actuals_in sc e)
    have_in k (tree.number z spot) f = tt
    have_in k (tree.truth b spot) f = tt
    have_in k (tree.variable (tree.subscripted n tree.none)) f = tt
    have_in k (tree.variable (tree.subscripted n (tree.more e es))) f = have_among (f.0).lows (tree.more e es) f.3
    have_in k (tree.paren e spot) f = have_in k e f
    have_in k (tree.plus e spot) f = have_in types.Number e f.1
    have_in k (tree.neg e spot) f = have_in types.Number e f.1
    have_in k (tree.not e spot) f = have_in types.Truth e f.1
    have_in k (tree.two op a b) f = have_both (actuals_in sc a) (actuals_in sc b) (have_in (taken_by op) a f.1) (have_in (taken_by op) b f.2)
    have_in k (tree.if c x y spot) f =
        have_both (actuals_in sc c ++ actuals_in sc x) (actuals_in sc y) (have_both (actuals_in sc c) (actuals_in sc x) (have_in types.Truth c f.0) (have_in k x f.1)) (have_in k y f.2)
    have_in k (tree.call (tree.called n es)) f =
        subst (λ (j : ℕ). Have (actuals_given sc (parameter_wants sc j) es)) (sym (ap block_of_sort ((f.1).procedure).sort_is))
        (have_given (sorts_of ((block_numbered sc.blocks f.0).parameters)) (parameter_wants sc f.0) es f.2)
    have_in k (tree.tested x es spot) f = tt

    have_among : (ls : List ℤ) (es : PExprs) → SubscriptsFit sc told level block ls es → Have (actuals_among sc es)
    have_among (low ∷ []) (tree.more e tree.none) f = have_both (actuals_in sc e) [] (have_in types.Number e f.1) tt
    have_among (low ∷ low' ∷ []) (tree.more e (tree.more e' tree.none)) f =
        have_both (actuals_in sc e) (actuals_among sc (tree.more e' tree.none)) (have_in types.Number e f.1) (have_both (actuals_in sc e') [] (have_in types.Number e' f.3) tt)
    have_among _ _ f = absurd f

    have_given : (ss : List Sort) (ws : List Wanted) (es : PExprs) → ActualsFit sc told level block ss ws es → Have (actuals_given sc ws es)
    have_given [] [] tree.none f = tt
    have_given (s ∷ ss) (wants.value kind ∷ ws) (tree.more e es) f = have_both (actuals_in sc e) (actuals_given sc ws es) (have_in kind e f.1) (have_given ss ws es f.2)
    have_given (s ∷ ss) (wants.array shape ∷ ws) (tree.more (tree.variable (tree.subscripted n tree.none)) es) f = have_given ss ws es f.2
    have_given (s ∷ ss) (wants.by_name kind ∷ ws) (tree.more e es) f =
        have_both (own_actual sc (wants.by_name kind) e ++ actuals_in sc e) (actuals_given sc ws es)
        (have_both (own_actual sc (wants.by_name kind) e) (actuals_in sc e) (own_has kind e f.1 f.2) (have_in kind e f.2)) (have_given ss ws es f.3)
    have_given (s ∷ ss) (wants.event ∷ ws) (tree.more (tree.variable (tree.subscripted n tree.none)) es) f = have_given ss ws es f.2
    have_given _ _ _ f = absurd f

  pub have_called : (n : Named) (es : PExprs) (callee : ℕ) → ProcedureFits sc told level n callee →
      ActualsFit sc told level block (sorts_of ((block_numbered sc.blocks callee).parameters)) (parameter_wants sc callee) es → Have (actuals_given sc (wants.wants_of sc n) es)
  have_called n es callee p f =
      subst (λ (j : ℕ). Have (actuals_given sc (parameter_wants sc j) es)) (sym (ap block_of_sort (p.procedure).sort_is))
      (have_given (sorts_of ((block_numbered sc.blocks callee).parameters)) (parameter_wants sc callee) es f)

  pub have_bounds : (pairs : List PPair) → BoundsFit sc told level block pairs → Have (actuals_in_pairs sc pairs)
  have_bounds [] f = tt
  have_bounds (p ∷ pairs) f = have_both (actuals_in sc p.high) (actuals_in_pairs sc pairs) (have_in types.Number p.high f.1) (have_bounds pairs f.2)

  pub have_decls : (ds : PDecls) → DeclsFit sc told level block ds → Have (actuals_in_decls sc ds)
  have_decls tree.no_decls f = tt
  have_decls (tree.decls (tree.arrays kind ns pairs) ds) f = have_both (actuals_in_pairs sc pairs) (actuals_in_decls sc ds) (have_bounds pairs f.1) (have_decls ds f.2)
  have_decls (tree.decls (tree.events ns) ds) f = have_decls ds f
  have_decls (tree.decls (tree.tasks ns) ds) f = have_decls ds f
  have_decls (tree.decls (tree.simple kind ns) ds) f = have_decls ds f
  have_decls (tree.decls (tree.files ns) ds) f = have_decls ds f
  have_decls (tree.decls (tree.labels ns) ds) f = have_decls ds f
  have_decls (tree.decls (tree.forward heading) ds) f = have_decls ds f
  have_decls (tree.decls (tree.procedure heading s) ds) f = have_decls ds f

  pub have_line : (es : PExprs) → LineFits sc told level block es → Have (actuals_among sc es)
  have_line tree.none f = tt
  have_line (tree.more e es) f = have_both (actuals_in sc e) (actuals_among sc es) (have_in types.Number e f.0) (have_line es f.1)

  pub have_subscripts : (ls : List ℤ) (es : PExprs) → SubscriptsFit sc told level block ls es → Have (actuals_among sc es)
  have_subscripts = have_among

module _ (sc : Place) (s : Known) (inner : AreInner (meanings s.names.now)) where
  abbrev told : Told
  told = meanings s.names.now

  abbrev In : ℕ → List Actual → Type 0
  In level as' = HaveValues sc.scopes told level sc.block as'

  abbrev at : (level : ℕ) (k : Kind) (e : PExpr) → ExprFits sc.scopes told level sc.block k e → In level (actuals_in sc.scopes e)
  at level = have_in sc.scopes told inner level sc.block

  abbrev two : (level : ℕ) (xs ys : List Actual) → In level xs → In level ys → In level (xs ++ ys)
  two level = have_both sc.scopes told inner level sc.block

  abbrev of_expr : PExpr → List Actual
  of_expr = actuals_in sc.scopes

  abbrev of_stmt : PStmt → List Actual
  of_stmt = actuals_in_stmt sc.scopes

  mutual
    have_stmt : (level : ℕ) (x : PStmt) → EmittedStmtFits sc s level x → In level (actuals_in_stmt sc.scopes x)
    have_stmt level tree.empty f = tt
    have_stmt level (tree.assign (tree.subscripted n tree.none) e) f = at level f.0 e f.2
    have_stmt level (tree.assign (tree.subscripted n (tree.more i is)) e) f =
        two level (actuals_among sc.scopes (tree.more i is)) (of_expr e) (have_subscripts sc.scopes told inner level sc.block (f.0).lows (tree.more i is) f.2) (at level (f.0).kind e f.3)
    have_stmt level (tree.call_of (tree.called n es)) f = have_called sc.scopes told inner level sc.block n es f.0 f.1 f.2
    have_stmt level (tree.block (tree.body spot tree.no_decls ss)) f = have_stmts level ss f
    have_stmt level (tree.block (tree.body spot (tree.decls d ds) ss)) f = tt
    have_stmt level (tree.if_then c x) f = two level (of_expr c) (of_stmt x) (at level types.Truth c f.0) (have_stmt level x f.1)
    have_stmt level (tree.if_else c x y) f =
        two level (of_expr c ++ of_stmt x) (of_stmt y) (two level (of_expr c) (of_stmt x) (at level types.Truth c f.0) (have_stmt level x f.1)) (have_stmt level y f.2)
    have_stmt level (tree.while c b) f = two level (of_expr c) (of_stmt b) (at level types.Truth c f.0) (have_stmt level b f.1)
    have_stmt level (tree.until b c) f = two level (of_stmt b) (of_expr c) (have_stmt level b f.0) (at level types.Truth c f.1)
    have_stmt level (tree.for v a t l b) f =
        two level (of_expr a ++ of_expr t ++ of_expr l) (of_stmt b)
        (two level (of_expr a ++ of_expr t) (of_expr l) (two level (of_expr a) (of_expr t) (at level types.Number a f.1) (at level types.Number t f.2)) (at level types.Number l f.3))
        (have_stmt level b f.4)
    have_stmt level (tree.thru e b) f = two level (of_expr e) (of_stmt b) (at level types.Number e f.0) (have_stmt level b f.1)
    have_stmt level (tree.case e ss) f = two level (of_expr e) (actuals_in_stmts sc.scopes ss) (at level types.Number e f.0) (have_stmts level ss f.1)
    have_stmt level (tree.write n spot phrases es) f = have_line sc.scopes told inner level sc.block es f.2
    have_stmt level (tree.label n x) f = have_stmt level x f.1
    have_stmt level (tree.go_to n) f = tt
    have_stmt level (tree.event act e) f = tt
    have_stmt level (tree.process (tree.called n es) task) f = have_called sc.scopes told inner level sc.block n es f.0 f.1 f.2

    have_stmts : (level : ℕ) (ss : PStmts) → EmittedStmtsFit sc s level ss → In level (actuals_in_stmts sc.scopes ss)
    have_stmts level tree.no_stmts f = tt
    have_stmts level (tree.stmts x xs) f = two level (of_stmt x) (actuals_in_stmts sc.scopes xs) (have_stmt level x f.0) (have_stmts level xs f.1)

  -- so it is of a block
  pub have_inside : (level : ℕ) (ds : PDecls) (ss : PStmts) → InsideFits sc s level ds ss → In level (actuals_in_block sc.scopes ds ss)
  have_inside level ds ss f = two level (actuals_in_decls sc.scopes ds) (actuals_in_stmts sc.scopes ss) (have_decls sc.scopes told inner level sc.block ds f.1) (have_stmts level ss f.2)

  -- these are the actuals of it
  pub actuals_inside : (level : ℕ) (ds : PDecls) (ss : PStmts) → InsideFits sc s level ds ss →
      AreActuals sc s level (cells_in_block (meanings s.names.now) ds ss) (actuals_in_block sc.scopes ds ss)
  actuals_inside level ds ss f = record { same = celled_inside sc s level ds ss f; values = have_inside level ds ss f }
