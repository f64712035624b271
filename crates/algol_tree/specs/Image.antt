-- The plain tree of a tree.
use Rattle.std.specs.Prelude.{List, [], ◌∷◌, map, Option, Some, None}
use Rattle.std.specs.declared.boxed.Box.{Box}
use Rattle.std.specs.declared.alloc.Global.{Global}
use Rattle.std.specs.Borrow.{Bor}
use Rattle.b67_deeds.specs.declared.EventTest.TheVariants as test
use Rattle.algol_tree.specs.declared.tree.Named.{Named}
use Rattle.algol_tree.specs.Plain as tree
use Rattle.algol_tree.specs.Plain.{PExpr, PVariable, PCall, PExprs, PPair, PStmt, PStmts, PDecl, PDecls, PBody, PProgram}
use Rattle.algol_tree.specs.declared.tree.Expr.{Expr, fold-Expr}
use Rattle.algol_tree.specs.declared.tree.Expr.TheOpen.{Expr-F, Call-F, Variable-F}
use Rattle.algol_tree.specs.declared.tree.Variable.{Variable, fold-Variable}
use Rattle.algol_tree.specs.declared.tree.Call.{Call, fold-Call}
use Rattle.algol_tree.specs.declared.tree.Pair.{Pair}
use Rattle.algol_tree.specs.declared.tree.Stmt.{Stmt, fold-Stmt}
use Rattle.algol_tree.specs.declared.tree.Decl.{Decl, fold-Decl}
use Rattle.algol_tree.specs.declared.tree.Decl.TheOpen.{Decl-F, Stmt-F, Body-F}
use Rattle.algol_tree.specs.declared.tree.Body.{Body, fold-Body}
use Rattle.algol_tree.specs.declared.tree.Program.{Program}

abbrev pub maybe_named : Option (Bor Named) → Option Named
maybe_named None = None
maybe_named (Some n) = Some n.now

abbrev pub listed_exprs : List PExpr → PExprs
listed_exprs [] = tree.none
listed_exprs (e ∷ es) = tree.more e (listed_exprs es)

abbrev pub expr_level : Expr-F PExpr PCall PVariable → PExpr
expr_level (Expr-F.Number z spot) = tree.number z spot
expr_level (Expr-F.Truth b spot) = tree.truth b spot
expr_level (Expr-F.Variable v) = tree.variable v
expr_level (Expr-F.Call c) = tree.call c
expr_level (Expr-F.Happened e spot) = tree.tested test.Happened (e ∷ []) spot
expr_level (Expr-F.Available e spot) = tree.tested test.Available (e ∷ []) spot
expr_level (Expr-F.Fix e spot) = tree.tested test.Fix (e ∷ []) spot
expr_level (Expr-F.WaitAny es spot) = tree.tested test.WaitAny es spot
expr_level (Expr-F.Paren e spot) = tree.paren e.value spot
expr_level (Expr-F.Plus e spot) = tree.plus e.value spot
expr_level (Expr-F.Neg e spot) = tree.neg e.value spot
expr_level (Expr-F.Not e spot) = tree.not e.value spot
expr_level (Expr-F.Two op a b) = tree.two op a.value b.value
expr_level (Expr-F.If c x y spot) = tree.if c.value x.value y.value spot

abbrev pub call_level : Call-F PExpr PCall PVariable → PCall
call_level c = tree.called c.name (listed_exprs c.actuals)

abbrev pub variable_level : Variable-F PExpr PCall PVariable → PVariable
variable_level v = tree.subscripted v.name (listed_exprs v.subs)

abbrev pub expr : Expr → PExpr
expr = fold-Expr PExpr PCall PVariable expr_level call_level variable_level

abbrev pub call : Call → PCall
call = fold-Call PExpr PCall PVariable expr_level call_level variable_level

abbrev pub variable : Variable → PVariable
variable = fold-Variable PExpr PCall PVariable expr_level call_level variable_level

abbrev pub exprs : List Expr → PExprs
exprs es = listed_exprs (map expr es)

abbrev pub pair : Pair → PPair
pair p = record { low = p.low; high = expr p.high }

abbrev pub pairs : List Pair → List PPair
pairs ps = map pair ps

abbrev pub statements_listed : List PStmt → PStmts
statements_listed [] = tree.no_stmts
statements_listed (s ∷ ss) = tree.stmts s (statements_listed ss)

abbrev pub listed_decls : List PDecl → PDecls
listed_decls [] = tree.no_decls
listed_decls (d ∷ ds) = tree.decls d (listed_decls ds)

abbrev pub if_level : PExpr → PStmt → Option (Box PStmt Global) → PStmt
if_level c x None = tree.if_then c x
if_level c x (Some y) = tree.if_else c x y.value

abbrev pub stmt_level : Stmt-F PDecl PStmt PBody → PStmt
stmt_level Stmt-F.Empty = tree.empty
stmt_level (Stmt-F.Label n s) = tree.label n s.value
stmt_level (Stmt-F.Assign v e) = tree.assign (variable v) (expr e)
stmt_level (Stmt-F.Call c) = tree.call_of (call c)
stmt_level (Stmt-F.GoTo n) = tree.go_to n
stmt_level (Stmt-F.Block b) = tree.block b
stmt_level (Stmt-F.If c x y) = if_level (expr c) x.value y
stmt_level (Stmt-F.While c b) = tree.while (expr c) b.value
stmt_level (Stmt-F.Until b c) = tree.until b.value (expr c)
stmt_level (Stmt-F.For v a s l b) = tree.for v (expr a) (expr s) (expr l) b.value
stmt_level (Stmt-F.Thru e b) = tree.thru (expr e) b.value
stmt_level (Stmt-F.Case e ss) = tree.case (expr e) (statements_listed ss)
stmt_level (Stmt-F.Process c task) = tree.process (call c) task
stmt_level (Stmt-F.Event act e) = tree.event act e
stmt_level (Stmt-F.Write n spot phrases es) = tree.write n spot phrases (exprs es)

abbrev pub decl_level : Decl-F PDecl PStmt PBody → PDecl
decl_level (Decl-F.Simple kind ns) = tree.simple kind ns
decl_level (Decl-F.Files ns) = tree.files ns
decl_level (Decl-F.Events ns) = tree.events ns
decl_level (Decl-F.Tasks ns) = tree.tasks ns
decl_level (Decl-F.Labels ns) = tree.labels ns
decl_level (Decl-F.Arrays kind ns ps) = tree.arrays kind ns (pairs ps)
decl_level (Decl-F.Forward h) = tree.forward h
decl_level (Decl-F.Procedure h s) = tree.procedure h s.value

abbrev pub body_level : Body-F PDecl PStmt PBody → PBody
body_level b = tree.body b.spot (listed_decls b.decls) (statements_listed b.stmts)

abbrev pub stmt : Stmt → PStmt
stmt = fold-Stmt PDecl PStmt PBody decl_level stmt_level body_level

abbrev pub decl : Decl → PDecl
decl = fold-Decl PDecl PStmt PBody decl_level stmt_level body_level

abbrev pub body : Body → PBody
body = fold-Body PDecl PStmt PBody decl_level stmt_level body_level

abbrev pub stmts : List Stmt → PStmts
stmts ss = statements_listed (map stmt ss)

abbrev pub decls : List Decl → PDecls
decls ds = listed_decls (map decl ds)

abbrev pub program : Program → PProgram
program p = tree.program (body p.body)

-- an IF with its branches
abbrev pub branched : PExpr → PStmt → Option (Box Stmt Global) → PStmt
branched c x None = tree.if_then c x
branched c x (Some y) = tree.if_else c x (stmt y.value)
