-- The plain trees of statements, declarations and bodies.
use Rattle.std.proofs.Common.{rules, ◌≡◌, Bool, true, false, List, Option, Some, None, refl, ap, sym, ◌∙◌}
use Rattle.std.specs.declared.boxed.Box.{Box}
use Rattle.std.specs.declared.alloc.Global.{Global}
use Rattle.algol_tree.specs.declared.tree.Body.{Body}
use Rattle.algol_tree.specs.declared.tree.Stmt as statements
use Rattle.algol_tree.specs.declared.tree.Stmt.{Stmt, out-Stmt, roll-Stmt, roll-out-Stmt}
use Rattle.algol_tree.specs.declared.tree.Stmt.TheVariants as forms
use Rattle.algol_tree.specs.declared.tree.Decl as declarations
use Rattle.algol_tree.specs.declared.tree.Decl.{Decl}
use Rattle.algol_tree.specs.declared.tree.Decl.TheVariants as kinds
use Rattle.algol_tree.specs.declared.tree.Heading.{Heading}
use Rattle.algol_tree.specs.declared.tree.Kind.{Kind}
use Rattle.algol_tree.specs.declared.tree.Named.{Named}
use Rattle.algol_tree.specs.declared.tree.Pair.{Pair}
use Rattle.algol_tree.specs.declared.tree.Decl.TheOpen.{Stmt-F}
use Rattle.algol_tree.specs.declared.token.Spot.{Spot}
use Rattle.algol_tree.specs.declared.tree.Call.{Call}
use Rattle.b67_deeds.specs.declared.EventAct.{EventAct}
use Rattle.algol_tree.specs.declared.tree.EventName.{EventName}
use Rattle.algol_tree.specs.declared.tree.Expr.{Expr}
use Rattle.algol_tree.specs.declared.tree.PhraseText.{PhraseText}
use Rattle.algol_tree.specs.declared.tree.Variable.{Variable}
use Rattle.algol_tree.specs.Plain as tree
use Rattle.algol_tree.specs.Plain.{PStmt}
use Rattle.algol_tree.specs.Image.{body, branched, call, decl, expr, exprs, pairs, stmt, stmts, variable}
use Rattle.algol_tree.proofs.Images.{block_is as stmt_block, stmt_of_if}

pub block_is : (s : Stmt) (b : Body) → s ≡ forms.Block b → stmt s ≡ tree.block (body b)
block_is s b h = ap stmt h ∙ stmt_block b

abbrev pub is_block : PStmt → Bool
is_block (tree.block b) = true
is_block _ = false

other_if : (c : Expr) (x : Box Stmt Global) (y : Option (Box Stmt Global)) → is_block (branched (expr c) (stmt x.value) y) ≡ false
other_if c x None = refl
other_if c x (Some y) = refl

-- a statement that is no BEGIN
not_block_at : (x : Stmt-F Decl Stmt Body) → ((b : Body) → roll-Stmt x ≡ forms.Block b → ⊥) → is_block (stmt (roll-Stmt x)) ≡ false
not_block_at Stmt-F.Empty h =
    ap (λ z. is_block (stmt z)) forms.rolls-Empty ∙ (let e : is_block (stmt forms.Empty) ≡ false = search (rules, statements.the_lemmas) in e)
not_block_at (Stmt-F.Label n s) h =
    ap (λ z. is_block (stmt z)) (forms.rolls-Label n s) ∙ (let e : is_block (stmt (forms.Label n s)) ≡ false = search (rules, statements.the_lemmas) in e)
not_block_at (Stmt-F.Assign v e) h =
    ap (λ z. is_block (stmt z)) (forms.rolls-Assign v e) ∙ (let e : is_block (stmt (forms.Assign v e)) ≡ false = search (rules, statements.the_lemmas) in e)
not_block_at (Stmt-F.Call c) h =
    ap (λ z. is_block (stmt z)) (forms.rolls-Call c) ∙ (let e : is_block (stmt (forms.Call c)) ≡ false = search (rules, statements.the_lemmas) in e)
not_block_at (Stmt-F.GoTo n) h =
    ap (λ z. is_block (stmt z)) (forms.rolls-GoTo n) ∙ (let e : is_block (stmt (forms.GoTo n)) ≡ false = search (rules, statements.the_lemmas) in e)
not_block_at (Stmt-F.While c b) h =
    ap (λ z. is_block (stmt z)) (forms.rolls-While c b) ∙ (let e : is_block (stmt (forms.While c b)) ≡ false = search (rules, statements.the_lemmas) in e)
not_block_at (Stmt-F.Until b c) h =
    ap (λ z. is_block (stmt z)) (forms.rolls-Until b c) ∙ (let e : is_block (stmt (forms.Until b c)) ≡ false = search (rules, statements.the_lemmas) in e)
not_block_at (Stmt-F.For v a s l b) h =
    ap (λ z. is_block (stmt z)) (forms.rolls-For v a s l b) ∙ (let e : is_block (stmt (forms.For v a s l b)) ≡ false = search (rules, statements.the_lemmas) in e)
not_block_at (Stmt-F.Thru e b) h =
    ap (λ z. is_block (stmt z)) (forms.rolls-Thru e b) ∙ (let e : is_block (stmt (forms.Thru e b)) ≡ false = search (rules, statements.the_lemmas) in e)
not_block_at (Stmt-F.Case e ss) h =
    ap (λ z. is_block (stmt z)) (forms.rolls-Case e ss) ∙ (let e : is_block (stmt (forms.Case e ss)) ≡ false = search (rules, statements.the_lemmas) in e)
not_block_at (Stmt-F.Process c task) h =
    ap (λ z. is_block (stmt z)) (forms.rolls-Process c task) ∙ (let e : is_block (stmt (forms.Process c task)) ≡ false = search (rules, statements.the_lemmas) in e)
not_block_at (Stmt-F.Event act e) h =
    ap (λ z. is_block (stmt z)) (forms.rolls-Event act e) ∙ (let e : is_block (stmt (forms.Event act e)) ≡ false = search (rules, statements.the_lemmas) in e)
not_block_at (Stmt-F.Write n spot phrases es) h =
    ap (λ z. is_block (stmt z)) (forms.rolls-Write n spot phrases es) ∙ (let e : is_block (stmt (forms.Write n spot phrases es)) ≡ false = search (rules, statements.the_lemmas) in e)
not_block_at (Stmt-F.If c x y) h = ap (λ z. is_block (stmt z)) (forms.rolls-If c x y) ∙ ap is_block (stmt_of_if c x y) ∙ other_if c x y
not_block_at (Stmt-F.Block b) h = absurd (h b (forms.rolls-Block b))

pub not_block_of : (s : Stmt) → ((b : Body) → s ≡ forms.Block b → ⊥) → is_block (stmt s) ≡ false
not_block_of s h =
    ap (λ z. is_block (stmt z)) (sym (roll-out-Stmt s)) ∙ not_block_at (out-Stmt s) (λ b e. h b (sym (roll-out-Stmt s) ∙ e))

-- ---- declarations

pub simple_is : (d : Decl) (kind : Kind) (ns : List Named) → d ≡ kinds.Simple kind ns → decl d ≡ tree.simple kind ns
simple_is d kind ns e = ap decl e ∙ its kind ns
  where
    its : (kind : Kind) (ns : List Named) → decl (kinds.Simple kind ns) ≡ tree.simple kind ns
    its kind ns = search (rules, declarations.the_lemmas)

pub files_is : (d : Decl) (ns : List Named) → d ≡ kinds.Files ns → decl d ≡ tree.files ns
files_is d ns e = ap decl e ∙ its ns
  where
    its : (ns : List Named) → decl (kinds.Files ns) ≡ tree.files ns
    its ns = search (rules, declarations.the_lemmas)

pub events_is : (d : Decl) (ns : List Named) → d ≡ kinds.Events ns → decl d ≡ tree.events ns
events_is d ns e = ap decl e ∙ its ns
  where
    its : (ns : List Named) → decl (kinds.Events ns) ≡ tree.events ns
    its ns = search (rules, declarations.the_lemmas)

pub tasks_is : (d : Decl) (ns : List Named) → d ≡ kinds.Tasks ns → decl d ≡ tree.tasks ns
tasks_is d ns e = ap decl e ∙ its ns
  where
    its : (ns : List Named) → decl (kinds.Tasks ns) ≡ tree.tasks ns
    its ns = search (rules, declarations.the_lemmas)

pub labels_is : (d : Decl) (ns : List Named) → d ≡ kinds.Labels ns → decl d ≡ tree.labels ns
labels_is d ns e = ap decl e ∙ its ns
  where
    its : (ns : List Named) → decl (kinds.Labels ns) ≡ tree.labels ns
    its ns = search (rules, declarations.the_lemmas)

pub arrays_is : (d : Decl) (kind : Kind) (ns : List Named) (ps : List Pair) → d ≡ kinds.Arrays kind ns ps → decl d ≡ tree.arrays kind ns (pairs ps)
arrays_is d kind ns ps e = ap decl e ∙ its kind ns ps
  where
    its : (kind : Kind) (ns : List Named) (ps : List Pair) → decl (kinds.Arrays kind ns ps) ≡ tree.arrays kind ns (pairs ps)
    its kind ns ps = search (rules, declarations.the_lemmas)

pub forward_is : (d : Decl) (h : Heading) → d ≡ kinds.Forward h → decl d ≡ tree.forward h
forward_is d h e = ap decl e ∙ its h
  where
    its : (h : Heading) → decl (kinds.Forward h) ≡ tree.forward h
    its h = search (rules, declarations.the_lemmas)

pub procedure_is : (d : Decl) (h : Heading) (s : Box Stmt Global) → d ≡ kinds.Procedure h s → decl d ≡ tree.procedure h (stmt s.value)
procedure_is d h s e = ap decl e ∙ its h s
  where
    its : (h : Heading) (s : Box Stmt Global) → decl (kinds.Procedure h s) ≡ tree.procedure h (stmt s.value)
    its h s = search (rules, declarations.the_lemmas)

pub procedure_read : (d : Decl) (h : Heading) (s : Box Stmt Global) (y : Stmt) → d ≡ kinds.Procedure h s → y ≡ s.value → decl d ≡ tree.procedure h (stmt y)
procedure_read d h s y same k = procedure_is d h s same ∙ ap (λ (z : Stmt). tree.procedure h (stmt z)) (sym k)

-- ---- statements of each form

pub empty_read : (whole : Stmt) → whole ≡ forms.Empty → stmt whole ≡ tree.empty
empty_read whole same = ap stmt same ∙ its
  where
    its : stmt forms.Empty ≡ tree.empty
    its = search (rules, statements.the_lemmas)

pub label_read : (whole : Stmt) (n : Named) (s : Box Stmt Global) (y : Stmt) → whole ≡ (forms.Label n s) → y ≡ s.value → stmt whole ≡ tree.label n (stmt y)
label_read whole n s y same k = ap stmt same ∙ its n s ∙ ap (λ (z : Stmt). tree.label n (stmt z)) (sym k)
  where
    its : (n : Named) (s : Box Stmt Global) → stmt (forms.Label n s) ≡ tree.label n (stmt s.value)
    its n s = search (rules, statements.the_lemmas)

pub assign_read : (whole : Stmt) (v : Variable) (e : Expr) → whole ≡ (forms.Assign v e) → stmt whole ≡ tree.assign (variable v) (expr e)
assign_read whole v e same = ap stmt same ∙ its v e
  where
    its : (v : Variable) (e : Expr) → stmt (forms.Assign v e) ≡ tree.assign (variable v) (expr e)
    its v e = search (rules, statements.the_lemmas)

pub call_read : (whole : Stmt) (c : Call) → whole ≡ (forms.Call c) → stmt whole ≡ tree.call_of (call c)
call_read whole c same = ap stmt same ∙ its c
  where
    its : (c : Call) → stmt (forms.Call c) ≡ tree.call_of (call c)
    its c = search (rules, statements.the_lemmas)

pub go_to_read : (whole : Stmt) (n : Named) → whole ≡ (forms.GoTo n) → stmt whole ≡ tree.go_to n
go_to_read whole n same = ap stmt same ∙ its n
  where
    its : (n : Named) → stmt (forms.GoTo n) ≡ tree.go_to n
    its n = search (rules, statements.the_lemmas)

pub if_read : (whole : Stmt) (c : Expr) (x : Box Stmt Global) (b : Option (Box Stmt Global)) (y : Stmt) → whole ≡ (forms.If c x b) → y ≡ x.value →
    stmt whole ≡ branched (expr c) (stmt y) b
if_read whole c x b y same k = ap stmt same ∙ stmt_of_if c x b ∙ ap (λ (z : Stmt). branched (expr c) (stmt z) b) (sym k)

pub while_read : (whole : Stmt) (c : Expr) (b : Box Stmt Global) (y : Stmt) → whole ≡ (forms.While c b) → y ≡ b.value → stmt whole ≡ tree.while (expr c) (stmt y)
while_read whole c b y same k = ap stmt same ∙ its c b ∙ ap (λ (z : Stmt). tree.while (expr c) (stmt z)) (sym k)
  where
    its : (c : Expr) (b : Box Stmt Global) → stmt (forms.While c b) ≡ tree.while (expr c) (stmt b.value)
    its c b = search (rules, statements.the_lemmas)

pub until_read : (whole : Stmt) (b : Box Stmt Global) (c : Expr) (y : Stmt) → whole ≡ (forms.Until b c) → y ≡ b.value → stmt whole ≡ tree.until (stmt y) (expr c)
until_read whole b c y same k = ap stmt same ∙ its b c ∙ ap (λ (z : Stmt). tree.until (stmt z) (expr c)) (sym k)
  where
    its : (b : Box Stmt Global) (c : Expr) → stmt (forms.Until b c) ≡ tree.until (stmt b.value) (expr c)
    its b c = search (rules, statements.the_lemmas)

pub for_read : (whole : Stmt) (v : Named) (x s l : Expr) (b : Box Stmt Global) (y : Stmt) → whole ≡ (forms.For v x s l b) → y ≡ b.value → stmt whole ≡ tree.for v (expr x) (expr s) (expr l) (stmt y)
for_read whole v x s l b y same k = ap stmt same ∙ its v x s l b ∙ ap (λ (z : Stmt). tree.for v (expr x) (expr s) (expr l) (stmt z)) (sym k)
  where
    its : (v : Named) (x s l : Expr) (b : Box Stmt Global) → stmt (forms.For v x s l b) ≡ tree.for v (expr x) (expr s) (expr l) (stmt b.value)
    its v x s l b = search (rules, statements.the_lemmas)

pub thru_read : (whole : Stmt) (e : Expr) (b : Box Stmt Global) (y : Stmt) → whole ≡ (forms.Thru e b) → y ≡ b.value → stmt whole ≡ tree.thru (expr e) (stmt y)
thru_read whole e b y same k = ap stmt same ∙ its e b ∙ ap (λ (z : Stmt). tree.thru (expr e) (stmt z)) (sym k)
  where
    its : (e : Expr) (b : Box Stmt Global) → stmt (forms.Thru e b) ≡ tree.thru (expr e) (stmt b.value)
    its e b = search (rules, statements.the_lemmas)

pub case_read : (whole : Stmt) (e : Expr) (ss us : List Stmt) → whole ≡ (forms.Case e ss) → us ≡ ss → stmt whole ≡ tree.case (expr e) (stmts us)
case_read whole e ss us same k = ap stmt same ∙ its e ss ∙ ap (λ (z : List Stmt). tree.case (expr e) (stmts z)) (sym k)
  where
    its : (e : Expr) (ss : List Stmt) → stmt (forms.Case e ss) ≡ tree.case (expr e) (stmts ss)
    its e ss = search (rules, statements.the_lemmas)

pub process_read : (whole : Stmt) (c : Call) (task : Option Named) → whole ≡ (forms.Process c task) → stmt whole ≡ tree.process (call c) task
process_read whole c task same = ap stmt same ∙ its c task
  where
    its : (c : Call) (task : Option Named) → stmt (forms.Process c task) ≡ tree.process (call c) task
    its c task = search (rules, statements.the_lemmas)

pub event_read : (whole : Stmt) (act : EventAct) (e : EventName) → whole ≡ (forms.Event act e) → stmt whole ≡ tree.event act e
event_read whole act e same = ap stmt same ∙ its act e
  where
    its : (act : EventAct) (e : EventName) → stmt (forms.Event act e) ≡ tree.event act e
    its act e = search (rules, statements.the_lemmas)

pub write_read : (whole : Stmt) (n : Named) (spot : Spot) (ps : List PhraseText) (es : List Expr) → whole ≡ (forms.Write n spot ps es) → stmt whole ≡ tree.write n spot ps (exprs es)
write_read whole n spot ps es same = ap stmt same ∙ its n spot ps es
  where
    its : (n : Named) (spot : Spot) (ps : List PhraseText) (es : List Expr) → stmt (forms.Write n spot ps es) ≡ tree.write n spot ps (exprs es)
    its n spot ps es = search (rules, statements.the_lemmas)
