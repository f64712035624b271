-- The actuals of what fits that have cells are those of which what is told of names says so.
use Rattle.std.proofs.Common.{◌≡◌, refl, sym, ap, ◌∙◌, subst, ℕ, ℤ, ◌++◌, not, Bool, true, false, if◌then◌else◌, List, [], ◌∷◌, map, is_some, inl, inr}
use mathlib.Core.List.{map-append}
use Rattle.algol_tree.specs.declared.tree.Kind.{Kind}
use Rattle.algol_tree.specs.declared.tree.Kind.TheVariants as types
use Rattle.algol_tree.specs.declared.tree.Named.{Named}
use Rattle.algol_tree.specs.Plain as tree
use Rattle.algol_tree.specs.Plain.{PExpr, PExprs, PPair, PStmt, PStmts, PDecls}
use Rattle.algol_tree.specs.Sorts.{Sort, procedure_in}
use Rattle.algol_tree.specs.Types.{taken_by}
use Rattle.algol_tree.specs.Blocks.{block_numbered}
use Rattle.algol_tree.specs.Scopes.{Scopes, use_of}
use Rattle.algol_tree.proofs.Trees.{formal_no_procedure, variable_no_procedure}
use Rattle.algol_meaning.specs.Settle.{block_of_sort, sorts_of}
use Rattle.algol_meaning.specs.Statements.{alone}
use Rattle.b67_ops.specs.declared.Couple.{Couple}
use Rattle.b67_templates.specs.Cells as wants
use Rattle.b67_templates.specs.Cells.{Wanted, Actual, parameter_wants, own_actual, actuals_in, actuals_among, actuals_given, actuals_in_pairs, actuals_in_decls, actuals_in_stmt, actuals_in_stmts, actuals_in_block, IsRead, of_variable, of_formal}
use Rattle.b67_templates.specs.Fitting as fitting
use Rattle.b67_templates.specs.Fitting.{Meant, Told, a_variable, a_name, a_procedure, wanted_by_name, ProcedureFits, ExprFits, SubscriptsFit, ActualsFit, NameActualFits, BoundsFit, DeclsFit, LineFits}
use Rattle.b67_templates.specs.Paying.{modes_of, stands}
use Rattle.b67_emitter.specs.Values.{meanings}
use Rattle.b67_emit_stmt.specs.declared.draft.Known.{Known}
use Rattle.b67_emit_stmt.specs.Actuals.{exprs_of, celled, cells_in_actual, cells_among, cells_given, cells_in_pairs, cells_in_decls, cells_in_stmt, cells_in_stmts, cells_in_block}
use Rattle.b67_emit_stmt.specs.Fits.{EmittedStmtFits, EmittedStmtsFit, InsideFits}
use Rattle.b67_emit_stmt.specs.Places.{Place}

both : (xs ys : List Actual) {ps qs : List PExpr} → exprs_of xs ≡ ps → exprs_of ys ≡ qs → exprs_of (xs ++ ys) ≡ ps ++ qs
both xs ys {ps} {qs} p q =
    map-append (λ (a : Actual). a.expr) xs ys ∙ ap (λ (zs : List PExpr). zs ++ exprs_of ys) p ∙ ap (λ (zs : List PExpr). ps ++ zs) q

-- ---- one actual that is given by name

module _ (sc : Scopes) (told : Told) (level block : ℕ) (k : Kind) (n : Named) where
  read_no_procedure : (c : Couple) → IsRead sc level n k c → is_some (procedure_in ((use_of sc n).sort)) ≡ false
  read_no_procedure c (of_variable v) = variable_no_procedure ((use_of sc n).sort) v.variable
  read_no_procedure c (of_formal v) = formal_no_procedure ((use_of sc n).sort) v.sort_is

  no_cell : (procedure : Bool) (a : Actual) → procedure ≡ false → (if procedure then a ∷ [] else []) ≡ a ∷ [] → ⊥
  no_cell true a off is = let clash : true ≡ false = off in cc
  no_cell false a off is = let clash : [] ≡ a ∷ [] = is in cc

  -- what is read stands for itself
  read_stands : (c : Couple) → IsRead sc level n k c → NameActualFits sc told level block k (alone n) → stands (told.meant n.spot) ≡ true
  read_stands c v (fitting.refers_to m d is meant_is known w outer) =
      let same : n ≡ m = cc in ap (λ (x : Named). stands (told.meant x.spot)) same ∙ ap stands meant_is
  read_stands c v (fitting.passes_on m d is meant_is known w) =
      let same : n ≡ m = cc in ap (λ (x : Named). stands (told.meant x.spot)) same ∙ ap stands meant_is
  read_stands c v (fitting.names d known own) =
      absurd (no_cell (is_some (procedure_in ((use_of sc n).sort))) (record { expr = alone n; kind = k }) (read_no_procedure c v) own.own)

  own_as : (procedure stood : Bool) → procedure ≡ not stood →
      exprs_of (if procedure then record { expr = alone n; kind = k } ∷ [] else []) ≡ (if not stood then alone n ∷ [] else [])
  own_as true true is = absurd (let clash : true ≡ false = is in cc)
  own_as true false is = refl
  own_as false true is = refl
  own_as false false is = absurd (let clash : false ≡ true = is in cc)

  alone_celled : NameActualFits sc told level block k (alone n) → ExprFits sc told level block k (alone n) → exprs_of (own_actual sc (wants.by_name k) (alone n)) ≡ celled told true (alone n)
  alone_celled f (inl ((c, known, v), none), unknown, apart) =
      own_as (is_some (procedure_in ((use_of sc n).sort))) (stands (told.meant n.spot)) (read_no_procedure c v ∙ sym (ap (λ (b : Bool). not b) (read_stands c v f)))
  alone_celled f (inr (callee, p, none, is), unknown, apart) =
      own_as (is_some (procedure_in ((use_of sc n).sort))) (stands (told.meant n.spot))
      (ap (λ (x : Sort). is_some (procedure_in x)) p.procedure.sort_is ∙ sym (ap (λ (m : Meant). not (stands m)) p.modes))

module _ (sc : Scopes) (told : Told) (level block : ℕ) where
  name_celled : (k : Kind) (e : PExpr) → NameActualFits sc told level block k e → ExprFits sc told level block k e → exprs_of (own_actual sc (wants.by_name k) e) ≡ celled told true e
  name_celled k (tree.variable (tree.subscripted n tree.none)) f x = alone_celled sc told level block k n f x
  name_celled k e f x = refl

  -- ---- all in an expression

  mutual
    pub celled_in : (k : Kind) (e : PExpr) → ExprFits sc told level block k e → exprs_of (actuals_in sc e) ≡ cells_in_actual told e
    celled_in k (tree.number z spot) f = refl
    celled_in k (tree.truth b spot) f = refl
    celled_in k (tree.variable (tree.subscripted n tree.none)) f = refl
    celled_in k (tree.variable (tree.subscripted n (tree.more e es))) f = celled_among (f.0).lows (tree.more e es) f.3
    celled_in k (tree.paren e spot) f = celled_in k e f
    celled_in k (tree.plus e spot) f = celled_in types.Number e f.1
    celled_in k (tree.neg e spot) f = celled_in types.Number e f.1
    celled_in k (tree.not e spot) f = celled_in types.Truth e f.1
    celled_in k (tree.two op a b) f = both _ _ (celled_in (taken_by op) a f.1) (celled_in (taken_by op) b f.2)
    celled_in k (tree.if c x y spot) f = both _ _ (both _ _ (celled_in types.Truth c f.0) (celled_in k x f.1)) (celled_in k y f.2)
    celled_in k (tree.call (tree.called n es)) f =
        subst (λ (j : ℕ). exprs_of (actuals_given sc (parameter_wants sc j) es) ≡ cells_given told (modes_of (told.meant n.spot)) es) (sym (ap block_of_sort ((f.1).procedure).sort_is))
        (subst (λ (m : Meant). exprs_of (actuals_given sc (parameter_wants sc f.0) es) ≡ cells_given told (modes_of m) es) (sym (f.1).modes)
        (celled_given (sorts_of ((block_numbered sc.blocks f.0).parameters)) (parameter_wants sc f.0) es f.2))
    celled_in k (tree.tested x es spot) f = refl

    celled_among : (ls : List ℤ) (es : PExprs) → SubscriptsFit sc told level block ls es → exprs_of (actuals_among sc es) ≡ cells_among told es
    celled_among (low ∷ []) (tree.more e tree.none) f = both _ _ (celled_in types.Number e f.1) refl
    celled_among (low ∷ low' ∷ []) (tree.more e (tree.more e' tree.none)) f = both _ _ (celled_in types.Number e f.1) (both _ _ (celled_in types.Number e' f.3) refl)
    celled_among _ _ f = absurd f

    celled_given : (ss : List Sort) (ws : List Wanted) (es : PExprs) → ActualsFit sc told level block ss ws es → exprs_of (actuals_given sc ws es) ≡ cells_given told (map wanted_by_name ws) es
    celled_given [] [] tree.none f = refl
    celled_given (s ∷ ss) (wants.value kind ∷ ws) (tree.more e es) f = both _ _ (celled_in kind e f.1) (celled_given ss ws es f.2)
    celled_given (s ∷ ss) (wants.array shape ∷ ws) (tree.more (tree.variable (tree.subscripted n tree.none)) es) f = celled_given ss ws es f.2
    celled_given (s ∷ ss) (wants.by_name kind ∷ ws) (tree.more e es) f = both _ _ (both _ _ (name_celled kind e f.1 f.2) (celled_in kind e f.2)) (celled_given ss ws es f.3)
    celled_given (s ∷ ss) (wants.event ∷ ws) (tree.more (tree.variable (tree.subscripted n tree.none)) es) f = celled_given ss ws es f.2
    celled_given _ _ _ f = absurd f

  pub celled_called : (n : Named) (es : PExprs) (callee : ℕ) → ProcedureFits sc told level n callee →
      ActualsFit sc told level block (sorts_of ((block_numbered sc.blocks callee).parameters)) (parameter_wants sc callee) es →
      exprs_of (actuals_given sc (wants.wants_of sc n) es) ≡ cells_given told (modes_of (told.meant n.spot)) es
  celled_called n es callee p f =
      subst (λ (j : ℕ). exprs_of (actuals_given sc (parameter_wants sc j) es) ≡ cells_given told (modes_of (told.meant n.spot)) es) (sym (ap block_of_sort (p.procedure).sort_is))
      (subst (λ (m : Meant). exprs_of (actuals_given sc (parameter_wants sc callee) es) ≡ cells_given told (modes_of m) es) (sym p.modes)
      (celled_given (sorts_of ((block_numbered sc.blocks callee).parameters)) (parameter_wants sc callee) es f))

  pub celled_bounds : (pairs : List PPair) → BoundsFit sc told level block pairs → exprs_of (actuals_in_pairs sc pairs) ≡ cells_in_pairs told pairs
  celled_bounds [] f = refl
  celled_bounds (p ∷ pairs) f = both _ _ (celled_in types.Number p.high f.1) (celled_bounds pairs f.2)

  pub celled_decls : (ds : PDecls) → DeclsFit sc told level block ds → exprs_of (actuals_in_decls sc ds) ≡ cells_in_decls told ds
  celled_decls tree.no_decls f = refl
  celled_decls (tree.decls (tree.arrays kind ns pairs) ds) f = both _ _ (celled_bounds pairs f.1) (celled_decls ds f.2)
  celled_decls (tree.decls (tree.events ns) ds) f = celled_decls ds f
  celled_decls (tree.decls (tree.tasks ns) ds) f = celled_decls ds f
  celled_decls (tree.decls (tree.simple kind ns) ds) f = celled_decls ds f
  celled_decls (tree.decls (tree.files ns) ds) f = celled_decls ds f
  celled_decls (tree.decls (tree.labels ns) ds) f = celled_decls ds f
  celled_decls (tree.decls (tree.forward heading) ds) f = celled_decls ds f
  celled_decls (tree.decls (tree.procedure heading s) ds) f = celled_decls ds f

  pub celled_line : (es : PExprs) → LineFits sc told level block es → exprs_of (actuals_among sc es) ≡ cells_among told es
  celled_line tree.none f = refl
  celled_line (tree.more e es) f = both _ _ (celled_in types.Number e f.0) (celled_line es f.1)

  pub celled_subscripts : (ls : List ℤ) (es : PExprs) → SubscriptsFit sc told level block ls es → exprs_of (actuals_among sc es) ≡ cells_among told es
  celled_subscripts = celled_among

-- ---- all of a block

module _ (sc : Place) (s : Known) where
  abbrev told : Told
  told = meanings s.names.now

  abbrev at : (level : ℕ) (k : Kind) (e : PExpr) → ExprFits sc.scopes told level sc.block k e → exprs_of (actuals_in sc.scopes e) ≡ cells_in_actual told e
  at level = celled_in sc.scopes told level sc.block

  mutual
    celled_stmt : (level : ℕ) (x : PStmt) → EmittedStmtFits sc s level x → exprs_of (actuals_in_stmt sc.scopes x) ≡ cells_in_stmt told x
    celled_stmt level tree.empty f = refl
    celled_stmt level (tree.assign (tree.subscripted n tree.none) e) f = at level f.0 e f.2
    celled_stmt level (tree.assign (tree.subscripted n (tree.more i is)) e) f =
        both _ _ (celled_subscripts sc.scopes told level sc.block (f.0).lows (tree.more i is) f.2) (at level (f.0).kind e f.3)
    celled_stmt level (tree.call_of (tree.called n es)) f = celled_called sc.scopes told level sc.block n es f.0 f.1 f.2
    celled_stmt level (tree.block (tree.body spot tree.no_decls ss)) f = celled_stmts level ss f
    celled_stmt level (tree.block (tree.body spot (tree.decls d ds) ss)) f = refl
    celled_stmt level (tree.if_then c x) f = both _ _ (at level types.Truth c f.0) (celled_stmt level x f.1)
    celled_stmt level (tree.if_else c x y) f = both _ _ (both _ _ (at level types.Truth c f.0) (celled_stmt level x f.1)) (celled_stmt level y f.2)
    celled_stmt level (tree.while c b) f = both _ _ (at level types.Truth c f.0) (celled_stmt level b f.1)
    celled_stmt level (tree.until b c) f = both _ _ (celled_stmt level b f.0) (at level types.Truth c f.1)
    celled_stmt level (tree.for v a t l b) f =
        both _ _ (both _ _ (both _ _ (at level types.Number a f.1) (at level types.Number t f.2)) (at level types.Number l f.3)) (celled_stmt level b f.4)
    celled_stmt level (tree.thru e b) f = both _ _ (at level types.Number e f.0) (celled_stmt level b f.1)
    celled_stmt level (tree.case e ss) f = both _ _ (at level types.Number e f.0) (celled_stmts level ss f.1)
    celled_stmt level (tree.write n spot phrases es) f = celled_line sc.scopes told level sc.block es f.2
    celled_stmt level (tree.label n x) f = celled_stmt level x f.1
    celled_stmt level (tree.go_to n) f = refl
    celled_stmt level (tree.event act e) f = refl
    celled_stmt level (tree.process (tree.called n es) task) f = celled_called sc.scopes told level sc.block n es f.0 f.1 f.2

    celled_stmts : (level : ℕ) (ss : PStmts) → EmittedStmtsFit sc s level ss → exprs_of (actuals_in_stmts sc.scopes ss) ≡ cells_in_stmts told ss
    celled_stmts level tree.no_stmts f = refl
    celled_stmts level (tree.stmts x xs) f = both _ _ (celled_stmt level x f.0) (celled_stmts level xs f.1)

  pub celled_inside : (level : ℕ) (ds : PDecls) (ss : PStmts) → InsideFits sc s level ds ss → exprs_of (actuals_in_block sc.scopes ds ss) ≡ cells_in_block told ds ss
  celled_inside level ds ss f = both _ _ (celled_decls sc.scopes told level sc.block ds f.1) (celled_stmts level ss f.2)
