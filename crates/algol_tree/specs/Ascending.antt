-- The places in a tree ascend, as they do in a tree that was read from a text: each stands before the next.
use Rattle.std.specs.Prelude.{◌≡◌, true, List, [], ◌∷◌, ◌++◌, map, Option, Some, None}
use Rattle.std.specs.List.{flat_map}
use Rattle.algol_tree.specs.declared.tree.EventName.{EventName}
use Rattle.algol_tree.specs.declared.token.Spot.{Spot}
use Rattle.algol_tree.specs.declared.tree.Named.{Named}
use Rattle.algol_tree.specs.declared.tree.Heading.{Heading}
use Rattle.algol_tree.specs.Plain as tree
use Rattle.algol_tree.specs.Plain.{PExpr, PExprs, PPair, PStmt, PStmts, PDecl, PDecls, PBody, PProgram}
use Rattle.algol_tree.specs.Names.{specified}
use Rattle.algol_tree.specs.Accepted.{is_before}

abbrev pub spots_of_names : List Named → List Spot
spots_of_names ns = map (λ (n : Named). n.spot) ns

-- ---- of an expression: its names, and what else of it has a place

abbrev mutual
  pub spots_of_expr : PExpr → List Spot
  spots_of_expr (tree.number z spot) = spot ∷ []
  spots_of_expr (tree.truth b spot) = spot ∷ []
  spots_of_expr (tree.variable (tree.subscripted n es)) = n.spot ∷ spots_of_exprs es
  spots_of_expr (tree.call (tree.called n es)) = n.spot ∷ spots_of_exprs es
  spots_of_expr (tree.tested test es spot) = spot ∷ map (λ (e : EventName). e.name.spot) es
  spots_of_expr (tree.paren e spot) = spot ∷ spots_of_expr e
  spots_of_expr (tree.plus e spot) = spot ∷ spots_of_expr e
  spots_of_expr (tree.neg e spot) = spot ∷ spots_of_expr e
  spots_of_expr (tree.not e spot) = spot ∷ spots_of_expr e
  spots_of_expr (tree.two op x y) = spots_of_expr x ++ spots_of_expr y
  spots_of_expr (tree.if c x y spot) = spot ∷ (spots_of_expr c ++ spots_of_expr x ++ spots_of_expr y)

  pub spots_of_exprs : PExprs → List Spot
  spots_of_exprs tree.none = []
  spots_of_exprs (tree.more e es) = spots_of_expr e ++ spots_of_exprs es

-- ---- of a body: its BEGIN, its names, and the places of its expressions

abbrev pub spots_of_task : Option Named → List Spot
spots_of_task None = []
spots_of_task (Some n) = n.spot ∷ []

abbrev pub spots_of_heading : Heading → List Spot
spots_of_heading h = h.name.spot ∷ (spots_of_names h.params ++ spots_of_names h.values ++ spots_of_names (specified h))

abbrev pub spots_of_pairs : List PPair → List Spot
spots_of_pairs ps = flat_map (λ (p : PPair). spots_of_expr p.high) ps

abbrev mutual
  pub spots_of_stmt : PStmt → List Spot
  spots_of_stmt tree.empty = []
  spots_of_stmt (tree.label n s) = n.spot ∷ spots_of_stmt s
  spots_of_stmt (tree.assign (tree.subscripted n es) e) = n.spot ∷ (spots_of_exprs es ++ spots_of_expr e)
  spots_of_stmt (tree.call_of (tree.called n es)) = n.spot ∷ spots_of_exprs es
  spots_of_stmt (tree.go_to n) = n.spot ∷ []
  spots_of_stmt (tree.block b) = spots_of_body b
  spots_of_stmt (tree.if_then c x) = spots_of_expr c ++ spots_of_stmt x
  spots_of_stmt (tree.if_else c x y) = spots_of_expr c ++ spots_of_stmt x ++ spots_of_stmt y
  spots_of_stmt (tree.while c b) = spots_of_expr c ++ spots_of_stmt b
  spots_of_stmt (tree.until b c) = spots_of_stmt b ++ spots_of_expr c
  spots_of_stmt (tree.for v x s l b) = v.spot ∷ (spots_of_expr x ++ spots_of_expr s ++ spots_of_expr l ++ spots_of_stmt b)
  spots_of_stmt (tree.thru e b) = spots_of_expr e ++ spots_of_stmt b
  spots_of_stmt (tree.case e ss) = spots_of_expr e ++ spots_of_stmts ss
  spots_of_stmt (tree.process (tree.called n es) task) = n.spot ∷ (spots_of_exprs es ++ spots_of_task task)
  spots_of_stmt (tree.event act e) = e.name.spot ∷ []
  spots_of_stmt (tree.write n spot phrases es) = n.spot ∷ spots_of_exprs es

  pub spots_of_stmts : PStmts → List Spot
  spots_of_stmts tree.no_stmts = []
  spots_of_stmts (tree.stmts s ss) = spots_of_stmt s ++ spots_of_stmts ss

  pub spots_of_decl : PDecl → List Spot
  spots_of_decl (tree.simple kind ns) = spots_of_names ns
  spots_of_decl (tree.files ns) = spots_of_names ns
  spots_of_decl (tree.events ns) = spots_of_names ns
  spots_of_decl (tree.tasks ns) = spots_of_names ns
  spots_of_decl (tree.labels ns) = spots_of_names ns
  spots_of_decl (tree.arrays kind ns ps) = spots_of_names ns ++ spots_of_pairs ps
  spots_of_decl (tree.forward h) = spots_of_heading h
  spots_of_decl (tree.procedure h s) = spots_of_heading h ++ spots_of_stmt s

  pub spots_of_decls : PDecls → List Spot
  spots_of_decls tree.no_decls = []
  spots_of_decls (tree.decls d ds) = spots_of_decl d ++ spots_of_decls ds

  pub spots_of_body : PBody → List Spot
  spots_of_body (tree.body spot ds ss) = spot ∷ (spots_of_decls ds ++ spots_of_stmts ss)

abbrev pub spots_of : PProgram → List Spot
spots_of (tree.program b) = spots_of_body b

-- ---- ascending

abbrev pub IsAhead : Spot → List Spot → Type 0
IsAhead spot [] = Unit {0}
IsAhead spot (next ∷ spots) = is_before spot next ≡ true

abbrev pub Ascends : List Spot → Type 0
Ascends [] = Unit {0}
Ascends (spot ∷ spots) = IsAhead spot spots × Ascends spots

-- The places in this tree are in the order of the text.
abbrev pub IsInOrder : PProgram → Type 0
IsInOrder p = Ascends (spots_of p)
