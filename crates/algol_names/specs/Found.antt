-- The names that a tree uses, in the order of the text. `k` blocks are around each part.
use Rattle.std.specs.Prelude.{ℕ, suc, if◌then◌else◌, true, false, List, [], ◌∷◌, ◌++◌, map, Option, Some, None}
use Rattle.algol_tree.specs.declared.tree.Named.{Named}
use Rattle.algol_tree.specs.declared.tree.EventName.{EventName}
use Rattle.algol_tree.specs.Plain as tree
use Rattle.algol_tree.specs.Plain.{PExpr, PExprs, PPair, PVariable, PCall, PStmt, PStmts, PDecl, PDecls, PBody}
use Rattle.algol_tree.specs.Blocks.{Begin, of_procedure, of_statement}
use Rattle.algol_names.specs.declared.found.Found.{Found}
use Rattle.algol_names.specs.Blocks.{is_block}

abbrev pub at : Named → ℕ → Found
at n k = record { spot = n.spot; around = k; is_left = false }

abbrev pub at_left : Named → ℕ → Found
at_left n k = record { spot = n.spot; around = k; is_left = true }

-- ---- expressions

abbrev pub in_events : List EventName → ℕ → List Found
in_events es k = map (λ (e : EventName). at e.name k) es

abbrev mutual
  pub in_expr : PExpr → ℕ → List Found
  in_expr (tree.number z spot) k = []
  in_expr (tree.truth b spot) k = []
  in_expr (tree.variable (tree.subscripted n es)) k = at n k ∷ in_exprs es k
  in_expr (tree.call (tree.called n es)) k = at n k ∷ in_exprs es k
  in_expr (tree.tested test es spot) k = in_events es k
  in_expr (tree.paren e spot) k = in_expr e k
  in_expr (tree.plus e spot) k = in_expr e k
  in_expr (tree.neg e spot) k = in_expr e k
  in_expr (tree.not e spot) k = in_expr e k
  in_expr (tree.two op x y) k = in_expr x k ++ in_expr y k
  in_expr (tree.if c x y spot) k = in_expr c k ++ (in_expr x k ++ in_expr y k)

  pub in_exprs : PExprs → ℕ → List Found
  in_exprs tree.none k = []
  in_exprs (tree.more e es) k = in_expr e k ++ in_exprs es k

abbrev pub in_pairs : List PPair → ℕ → List Found
in_pairs [] k = []
in_pairs (p ∷ ps) k = in_expr p.high k ++ in_pairs ps k

-- ---- statements that have no statement in them

abbrev pub in_assignment : PVariable → PExpr → ℕ → List Found
in_assignment (tree.subscripted n es) e k = at_left n k ∷ (in_exprs es k ++ in_expr e k)

abbrev pub in_call : PCall → ℕ → List Found
in_call (tree.called n es) k = at n k ∷ in_exprs es k

abbrev pub in_task : Option Named → ℕ → List Found
in_task None k = []
in_task (Some n) k = at n k ∷ []

abbrev pub in_process : PCall → Option Named → ℕ → List Found
in_process (tree.called n es) task k = at n k ∷ (in_task task k ++ in_exprs es k)

abbrev pub in_write : Named → PExprs → ℕ → List Found
in_write n es k = at n k ∷ in_exprs es k

-- what stands before the statement of FOR
abbrev pub in_for : Named → PExpr → PExpr → PExpr → ℕ → List Found
in_for v x s l k = at v k ∷ (in_expr x k ++ (in_expr s k ++ in_expr l k))

-- ---- statements and declarations

-- how many blocks are around what stands in a BEGIN
abbrev pub around_in : PBody → Begin → ℕ → ℕ
around_in b begin k = if is_block b begin then suc k else k

abbrev mutual
  pub in_stmt : PStmt → Begin → ℕ → List Found
  in_stmt tree.empty begin k = []
  in_stmt (tree.label n s) begin k = at n k ∷ in_stmt s of_statement k
  in_stmt (tree.assign v e) begin k = in_assignment v e k
  in_stmt (tree.call_of c) begin k = in_call c k
  in_stmt (tree.go_to n) begin k = at n k ∷ []
  in_stmt (tree.block b) begin k = in_body b (around_in b begin k)
  in_stmt (tree.if_then c x) begin k = in_expr c k ++ in_stmt x of_statement k
  in_stmt (tree.if_else c x y) begin k = in_expr c k ++ (in_stmt x of_statement k ++ in_stmt y of_statement k)
  in_stmt (tree.while c b) begin k = in_expr c k ++ in_stmt b of_statement k
  in_stmt (tree.until b c) begin k = in_stmt b of_statement k ++ in_expr c k
  in_stmt (tree.for v x s l b) begin k = in_for v x s l k ++ in_stmt b of_statement k
  in_stmt (tree.thru e b) begin k = in_expr e k ++ in_stmt b of_statement k
  in_stmt (tree.case e ss) begin k = in_expr e k ++ in_stmts ss k
  in_stmt (tree.process c task) begin k = in_process c task k
  in_stmt (tree.event act e) begin k = at e.name k ∷ []
  in_stmt (tree.write n spot phrases es) begin k = in_write n es k

  pub in_stmts : PStmts → ℕ → List Found
  in_stmts tree.no_stmts k = []
  in_stmts (tree.stmts s ss) k = in_stmt s of_statement k ++ in_stmts ss k

  pub in_decl : PDecl → ℕ → List Found
  in_decl (tree.arrays kind ns pairs) k = in_pairs pairs k
  in_decl (tree.procedure h s) k = in_stmt s of_procedure (suc k)
  in_decl (tree.simple kind ns) k = []
  in_decl (tree.files ns) k = []
  in_decl (tree.events ns) k = []
  in_decl (tree.tasks ns) k = []
  in_decl (tree.labels ns) k = []
  in_decl (tree.forward h) k = []

  pub in_decls : PDecls → ℕ → List Found
  in_decls tree.no_decls k = []
  in_decls (tree.decls d ds) k = in_decl d k ++ in_decls ds k

  pub in_body : PBody → ℕ → List Found
  in_body (tree.body spot ds ss) k = in_decls ds k ++ in_stmts ss k
