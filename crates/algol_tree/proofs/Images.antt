-- What the image of a tree is, form by form.
use Rattle.std.proofs.Common.{List, None, Option, Some, rules, ◌≡◌}
use Rattle.std.specs.declared.alloc.Global.{Global}
use Rattle.std.specs.declared.boxed.Box.{Box}
use Rattle.algol_tree.specs.Image.{body, branched, call, decl, decls, expr, exprs, stmt, stmts, variable}
use Rattle.algol_tree.specs.Plain as tree
use Rattle.algol_tree.specs.declared.token.Spot.{Spot}
use Rattle.algol_tree.specs.declared.tree.Body as bodies
use Rattle.algol_tree.specs.declared.tree.Body.{Body}
use Rattle.algol_tree.specs.declared.tree.Call as calls
use Rattle.algol_tree.specs.declared.tree.Call.{Call}
use Rattle.algol_tree.specs.declared.tree.Decl as decls'
use Rattle.algol_tree.specs.declared.tree.Decl.TheVariants as declared
use Rattle.algol_tree.specs.declared.tree.EventName.{EventName}
use Rattle.algol_tree.specs.declared.tree.Expr as expressions
use Rattle.algol_tree.specs.declared.tree.Expr.{Expr}
use Rattle.algol_tree.specs.declared.tree.Heading.{Heading}
use Rattle.algol_tree.specs.declared.tree.Kind.{Kind}
use Rattle.algol_tree.specs.declared.tree.Named.{Named}
use Rattle.algol_tree.specs.declared.tree.Op.{Op}
use Rattle.algol_tree.specs.declared.tree.PhraseText.{PhraseText}
use Rattle.algol_tree.specs.declared.tree.Stmt as stmts'
use Rattle.algol_tree.specs.declared.tree.Stmt.{Stmt}
use Rattle.algol_tree.specs.declared.tree.Stmt.TheVariants as shapes
use Rattle.algol_tree.specs.declared.tree.Variable as variables
use Rattle.algol_tree.specs.declared.tree.Variable.{Variable}
use Rattle.b67_deeds.specs.declared.EventAct.{EventAct}

pub body_is : (b : Body) → body b ≡ tree.body b.spot (decls b.decls) (stmts b.stmts)
body_is b = search (rules, bodies.the_lemmas)

pub call_is : (c : Call) → call c ≡ tree.called c.name (exprs c.actuals)
call_is c = search (rules, calls.the_lemmas)

pub variable_is : (v : Variable) → variable v ≡ tree.subscripted v.name (exprs v.subs)
variable_is v = search (rules, variables.the_lemmas)

pub if_else_is : (e : Expr) (x y : Box Stmt Global) → stmt (shapes.If e x (Some y)) ≡ tree.if_else (expr e) (stmt x.value) (stmt y.value)
if_else_is e x y = search (rules, stmts'.the_lemmas)

pub procedure_is : (h : Heading) (s : Box Stmt Global) → decl (declared.Procedure h s) ≡ tree.procedure h (stmt s.value)
procedure_is h s = search (rules, decls'.the_lemmas)

pub block_is : (b : Body) → stmt (shapes.Block b) ≡ tree.block (body b)
block_is b = search (rules, stmts'.the_lemmas)

pub stmt_of_if_then : (e : Expr) (x : Box Stmt Global) → stmt (shapes.If e x None) ≡ tree.if_then (expr e) (stmt x.value)
stmt_of_if_then e x = search (rules, stmts'.the_lemmas)

pub forward_is : (h : Heading) → decl (declared.Forward h) ≡ tree.forward h
forward_is h = search (rules, decls'.the_lemmas)

pub simple_is : (kind : Kind) (ns : List Named) → decl (declared.Simple kind ns) ≡ tree.simple kind ns
simple_is kind ns = search (rules, decls'.the_lemmas)

pub for_is : (v : Named) (a s l : Expr) (x : Box Stmt Global) → stmt (shapes.For v a s l x) ≡ tree.for v (expr a) (expr s) (expr l) (stmt x.value)
for_is v a s l x = search (rules, stmts'.the_lemmas)

pub label_is : (n : Named) (s : Box Stmt Global) → stmt (shapes.Label n s) ≡ tree.label n (stmt s.value)
label_is n s = search (rules, stmts'.the_lemmas)

pub if_image : (c x y : Box Expr Global) (spot : Spot) → expr (expressions.If c x y spot) ≡ tree.if (expr c.value) (expr x.value) (expr y.value) spot
if_image c x y spot = search (rules, expressions.the_lemmas)

pub neg_image : (x : Box Expr Global) (spot : Spot) → expr (expressions.Neg x spot) ≡ tree.neg (expr x.value) spot
neg_image x spot = search (rules, expressions.the_lemmas)

pub not_image : (x : Box Expr Global) (spot : Spot) → expr (expressions.Not x spot) ≡ tree.not (expr x.value) spot
not_image x spot = search (rules, expressions.the_lemmas)

pub paren_image : (x : Box Expr Global) (spot : Spot) → expr (expressions.Paren x spot) ≡ tree.paren (expr x.value) spot
paren_image x spot = search (rules, expressions.the_lemmas)

pub plus_image : (x : Box Expr Global) (spot : Spot) → expr (expressions.Plus x spot) ≡ tree.plus (expr x.value) spot
plus_image x spot = search (rules, expressions.the_lemmas)

pub stmt_of_until : (x : Box Stmt Global) (e : Expr) → stmt (shapes.Until x e) ≡ tree.until (stmt x.value) (expr e)
stmt_of_until x e = search (rules, stmts'.the_lemmas)

pub process_is : (k : Call) (task : Option Named) → stmt (shapes.Process k task) ≡ tree.process (call k) task
process_is k task = search (rules, stmts'.the_lemmas)

pub call_of_is : (k : Call) → stmt (shapes.Call k) ≡ tree.call_of (call k)
call_of_is k = search (rules, stmts'.the_lemmas)

pub event_is : (act : EventAct) (e : EventName) → stmt (shapes.Event act e) ≡ tree.event act e
event_is act e = search (rules, stmts'.the_lemmas)

pub stmt_of_if : (c : Expr) (x : Box Stmt Global) (y : Option (Box Stmt Global)) → stmt (shapes.If c x y) ≡ branched (expr c) (stmt x.value) y
stmt_of_if c x None = search (rules, stmts'.the_lemmas)
stmt_of_if c x (Some y) = search (rules, stmts'.the_lemmas)

pub stmt_of_thru : (e : Expr) (x : Box Stmt Global) → stmt (shapes.Thru e x) ≡ tree.thru (expr e) (stmt x.value)
stmt_of_thru e x = search (rules, stmts'.the_lemmas)

pub stmt_of_while : (e : Expr) (x : Box Stmt Global) → stmt (shapes.While e x) ≡ tree.while (expr e) (stmt x.value)
stmt_of_while e x = search (rules, stmts'.the_lemmas)

pub decl_of_events : (ns : List Named) → decl (declared.Events ns) ≡ tree.events ns
decl_of_events ns = search (rules, decls'.the_lemmas)

pub decl_of_files : (ns : List Named) → decl (declared.Files ns) ≡ tree.files ns
decl_of_files ns = search (rules, decls'.the_lemmas)

pub decl_of_labels : (ns : List Named) → decl (declared.Labels ns) ≡ tree.labels ns
decl_of_labels ns = search (rules, decls'.the_lemmas)

pub decl_of_tasks : (ns : List Named) → decl (declared.Tasks ns) ≡ tree.tasks ns
decl_of_tasks ns = search (rules, decls'.the_lemmas)

pub write_is : (n : Named) (spot : Spot) (ps : List PhraseText) (es : List Expr) → stmt (shapes.Write n spot ps es) ≡ tree.write n spot ps (exprs es)
write_is n spot ps es = search (rules, stmts'.the_lemmas)

pub go_to_is : (n : Named) → stmt (shapes.GoTo n) ≡ tree.go_to n
go_to_is n = search (rules, stmts'.the_lemmas)

pub two_image : (op : Op) (x y : Box Expr Global) → expr (expressions.Two op x y) ≡ tree.two op (expr x.value) (expr y.value)
two_image op x y = search (rules, expressions.the_lemmas)

pub assign_is : (v : Variable) (e : Expr) → stmt (shapes.Assign v e) ≡ tree.assign (variable v) (expr e)
assign_is v e = search (rules, stmts'.the_lemmas)

pub empty_is : stmt shapes.Empty ≡ tree.empty
empty_is = search (rules, stmts'.the_lemmas)
