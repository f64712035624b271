-- The uses at the parts of a tree, part by part.
use Rattle.std.proofs.Common.{◌≡◌, Bool, false, List, [], ◌∷◌, ◌++◌, Option, Some, None, refl, ap, sym, ◌∙◌, append_assoc, append-nil}
use Rattle.std.proofs.lemmas.Grind.{flat_map-append}
use Rattle.std.specs.List.{flat_map}
use Rattle.algol_tree.specs.declared.tree.Named.{Named}
use Rattle.b67_deeds.specs.declared.EventAct.{EventAct}
use Rattle.algol_tree.specs.declared.tree.EventName.{EventName}
use Rattle.algol_tree.specs.declared.tree.Op.{Op}
use Rattle.algol_tree.specs.declared.tree.PhraseText.{PhraseText}
use Rattle.algol_tree.specs.declared.token.Spot.{Spot}
use Rattle.algol_tree.specs.Plain as tree
use Rattle.algol_tree.specs.Plain.{PExpr, PExprs, PPair, PStmt, PStmts, PDecl, PDecls, PBody}
use Rattle.algol_tree.specs.Classes as classes
use Rattle.algol_tree.specs.Classes.{Formal, Class}
use Rattle.algol_tree.specs.Blocks.{Block, Begin, of_statement}
use Rattle.algol_tree.specs.Scopes as scoping
use Rattle.algol_tree.specs.Scopes.{uses_at}
use Rattle.algol_tree.specs.Sorts.{Declared}
use Rattle.algol_tree.specs.Surroundings.{Surroundings, formals_at, knowing, knowing_all}
use Rattle.algol_tree.specs.Sites.{Site, sites, inside_list, inside_actuals, sites_in_pairs, here_stmt, inside_stmt, sites_in_stmts, inside_decl, sites_in_decls, sites_in_body, has_decls}

-- ---- the uses at the parts of a tree

abbrev pub expr_uses : PExpr → Surroundings → List scoping.Use
expr_uses e a = flat_map uses_at (sites e a)

abbrev pub list_uses : PExprs → Surroundings → List scoping.Use
list_uses es a = flat_map uses_at (inside_list es a)

abbrev pub pairs_uses : List PPair → Surroundings → List scoping.Use
pairs_uses ps a = flat_map uses_at (sites_in_pairs ps a)

-- a statement, and what is in it
abbrev pub stmt_uses : List Block → PStmt → Begin → Bool → Surroundings → List scoping.Use
stmt_uses blocks s begin listed a = flat_map uses_at (here_stmt s listed a ∷ inside_stmt blocks s begin listed a)

abbrev pub task_uses : Option Named → Surroundings → List scoping.Use
task_uses None a = []
task_uses (Some n) a = scoping.used a n

-- what stands before the statement of FOR
abbrev pub for_uses : Named → PExpr → PExpr → PExpr → Surroundings → List scoping.Use
for_uses v x s l a = scoping.used a v ++ (expr_uses x a ++ (expr_uses s a ++ expr_uses l a))

abbrev pub stmts_uses : List Block → PStmts → Bool → Surroundings → List scoping.Use
stmts_uses blocks ss listed a = flat_map uses_at (sites_in_stmts blocks ss listed a)

abbrev pub body_uses : List Block → PBody → Surroundings → List scoping.Use
body_uses blocks b a = flat_map uses_at (sites_in_body blocks b a)

-- the place is after the declaration, and `first` is known before the declarations of its BEGIN
abbrev pub decl_uses : List Block → PDecl → Surroundings → List Declared → List scoping.Use
decl_uses blocks d a first = flat_map uses_at (inside_decl blocks d a first)

abbrev pub decls_uses : List Block → PDecls → Surroundings → List Declared → List scoping.Use
decls_uses blocks ds a first = flat_map uses_at (sites_in_decls blocks ds a first)

-- ---- expressions

pub variable_uses : (n : Named) (es : PExprs) (a : Surroundings) → expr_uses (tree.variable (tree.subscripted n es)) a ≡ scoping.used a n ++ list_uses es a
variable_uses n es a = ap (λ z. z ++ list_uses es a) (append-nil (scoping.used a n))

abbrev others : List Formal → List Formal
others [] = []
others (f ∷ fs) = fs

bare : (n : Named) (es : PExprs) (c : Class) (v : Bool) (fs : List Formal) (a : Surroundings) →
    let f : Formal = record { class = c; by_value = v } in
    flat_map uses_at (inside_actuals (tree.more (tree.variable (tree.subscripted n tree.none)) es) (f ∷ fs) a)
    ≡ (scoping.used a n ++ []) ++ flat_map uses_at (inside_actuals es fs a)
bare n es (classes.simple kind) v fs a = refl
bare n es _ v fs a = refl

one_by_one : (e : PExpr) (es : PExprs) (fs : List Formal) (a : Surroundings) →
    flat_map uses_at (inside_actuals (tree.more e es) fs a) ≡ expr_uses e a ++ flat_map uses_at (inside_actuals es (others fs) a)
one_by_one (tree.variable (tree.subscripted n tree.none)) es [] a = bare_none n es a
  where
    bare_none : (n : Named) (es : PExprs) (a : Surroundings) →
        flat_map uses_at (inside_actuals (tree.more (tree.variable (tree.subscripted n tree.none)) es) [] a)
        ≡ expr_uses (tree.variable (tree.subscripted n tree.none)) a ++ flat_map uses_at (inside_actuals es [] a)
    bare_none n es a = ap (λ z. z ++ flat_map uses_at (inside_actuals es [] a)) (sym (append-nil (scoping.used a n ++ [])))
one_by_one (tree.variable (tree.subscripted n tree.none)) es (f ∷ fs) a =
    bare n es f.class f.by_value fs a ∙ ap (λ z. z ++ flat_map uses_at (inside_actuals es fs a)) (sym (append-nil (scoping.used a n ++ [])))
one_by_one e es fs a = flat_map-append uses_at (sites e a) (inside_actuals es (others fs) a)

pub actuals_uses : (es : PExprs) (fs : List Formal) (a : Surroundings) → flat_map uses_at (inside_actuals es fs a) ≡ list_uses es a
actuals_uses tree.none fs a = refl
actuals_uses (tree.more e es) fs a =
    one_by_one e es fs a ∙ ap (λ z. expr_uses e a ++ z) (actuals_uses es (others fs) a) ∙ sym (flat_map-append uses_at (sites e a) (inside_list es a))

pub call_uses : (n : Named) (es : PExprs) (a : Surroundings) → expr_uses (tree.call (tree.called n es)) a ≡ scoping.used a n ++ list_uses es a
call_uses n es a =
    ap (λ z. z ++ flat_map uses_at (inside_actuals es (formals_at a n) a)) (append-nil (scoping.used a n))
    ∙ ap (λ z. scoping.used a n ++ z) (actuals_uses es (formals_at a n) a)

pub two_uses : (op : Op) (x y : PExpr) (a : Surroundings) → expr_uses (tree.two op x y) a ≡ expr_uses x a ++ expr_uses y a
two_uses op x y a = flat_map-append uses_at (sites x a) (sites y a)

pub if_uses : (c x y : PExpr) (spot : Spot) (a : Surroundings) → expr_uses (tree.if c x y spot) a ≡ expr_uses c a ++ (expr_uses x a ++ expr_uses y a)
if_uses c x y spot a =
    flat_map-append uses_at (sites c a ++ sites x a) (sites y a) ∙ ap (λ z. z ++ expr_uses y a) (flat_map-append uses_at (sites c a) (sites x a))
    ∙ append_assoc (expr_uses c a) (expr_uses x a) (expr_uses y a)

-- ---- statements

pub label_uses : (blocks : List Block) (n : Named) (s : PStmt) (begin : Begin) (listed : Bool) (a : Surroundings) →
    stmt_uses blocks (tree.label n s) begin listed a ≡ scoping.used a n ++ stmt_uses blocks s of_statement listed a
label_uses blocks n s begin listed a = ap (λ z. z ++ stmt_uses blocks s of_statement listed a) (append-nil (scoping.used a n))

pub assign_uses : (blocks : List Block) (n : Named) (es : PExprs) (e : PExpr) (begin : Begin) (listed : Bool) (a : Surroundings) →
    stmt_uses blocks (tree.assign (tree.subscripted n es) e) begin listed a ≡ scoping.left_uses (scoping.used a n) ++ (list_uses es a ++ expr_uses e a)
assign_uses blocks n es e begin listed a = ap (λ z. scoping.left_uses (scoping.used a n) ++ z) (flat_map-append uses_at (inside_list es a) (sites e a))

pub called_uses : (blocks : List Block) (n : Named) (es : PExprs) (begin : Begin) (listed : Bool) (a : Surroundings) →
    stmt_uses blocks (tree.call_of (tree.called n es)) begin listed a ≡ scoping.used a n ++ list_uses es a
called_uses blocks n es begin listed a =
    ap (λ z. (scoping.used a n ++ []) ++ z) (actuals_uses es (formals_at a n) a) ∙ ap (λ z. z ++ list_uses es a) (append-nil (scoping.used a n))

pub go_to_uses : (blocks : List Block) (n : Named) (begin : Begin) (listed : Bool) (a : Surroundings) → stmt_uses blocks (tree.go_to n) begin listed a ≡ scoping.used a n
go_to_uses blocks n begin listed a = append-nil (scoping.used a n ++ []) ∙ append-nil (scoping.used a n)

pub event_uses : (blocks : List Block) (act : EventAct) (e : EventName) (begin : Begin) (listed : Bool) (a : Surroundings) →
    stmt_uses blocks (tree.event act e) begin listed a ≡ scoping.used a e.name
event_uses blocks act e begin listed a = append-nil (scoping.used a e.name ++ []) ∙ append-nil (scoping.used a e.name)

pub write_uses : (blocks : List Block) (n : Named) (spot : Spot) (phrases : List PhraseText) (es : PExprs) (begin : Begin) (listed : Bool) (a : Surroundings) →
    stmt_uses blocks (tree.write n spot phrases es) begin listed a ≡ scoping.used a n ++ list_uses es a
write_uses blocks n spot phrases es begin listed a = ap (λ z. z ++ list_uses es a) (append-nil (scoping.used a n))

pub process_uses : (blocks : List Block) (n : Named) (es : PExprs) (task : Option Named) (begin : Begin) (listed : Bool) (a : Surroundings) →
    stmt_uses blocks (tree.process (tree.called n es) task) begin listed a ≡ scoping.used a n ++ (task_uses task a ++ list_uses es a)
process_uses blocks n es None begin listed a =
    ap (λ z. (scoping.used a n ++ []) ++ z) (actuals_uses es (formals_at a n) a) ∙ ap (λ z. z ++ list_uses es a) (append-nil (scoping.used a n))
process_uses blocks n es (Some t) begin listed a =
    ap (λ z. (scoping.used a n ++ (scoping.used a t ++ [])) ++ z) (actuals_uses es (formals_at a n) a)
    ∙ ap (λ z. (scoping.used a n ++ z) ++ list_uses es a) (append-nil (scoping.used a t))
    ∙ append_assoc (scoping.used a n) (scoping.used a t) (list_uses es a)

pub then_uses : (blocks : List Block) (c : PExpr) (x : PStmt) (begin : Begin) (listed : Bool) (a : Surroundings) →
    stmt_uses blocks (tree.if_then c x) begin listed a ≡ expr_uses c a ++ stmt_uses blocks x of_statement false a
then_uses blocks c x begin listed a = flat_map-append uses_at (sites c a) (here_stmt x false a ∷ inside_stmt blocks x of_statement false a)

pub else_uses : (blocks : List Block) (c : PExpr) (x y : PStmt) (begin : Begin) (listed : Bool) (a : Surroundings) →
    stmt_uses blocks (tree.if_else c x y) begin listed a ≡ expr_uses c a ++ (stmt_uses blocks x of_statement false a ++ stmt_uses blocks y of_statement false a)
else_uses blocks c x y begin listed a =
    let f : List Site = here_stmt x false a ∷ inside_stmt blocks x of_statement false a in
    let g : List Site = here_stmt y false a ∷ inside_stmt blocks y of_statement false a in
    flat_map-append uses_at (sites c a ++ f) g ∙ ap (λ z. z ++ flat_map uses_at g) (flat_map-append uses_at (sites c a) f)
    ∙ append_assoc (expr_uses c a) (flat_map uses_at f) (flat_map uses_at g)

pub while_uses : (blocks : List Block) (c : PExpr) (x : PStmt) (begin : Begin) (listed : Bool) (a : Surroundings) →
    stmt_uses blocks (tree.while c x) begin listed a ≡ expr_uses c a ++ stmt_uses blocks x of_statement false a
while_uses blocks c x begin listed a = flat_map-append uses_at (sites c a) (here_stmt x false a ∷ inside_stmt blocks x of_statement false a)

pub until_uses : (blocks : List Block) (x : PStmt) (c : PExpr) (begin : Begin) (listed : Bool) (a : Surroundings) →
    stmt_uses blocks (tree.until x c) begin listed a ≡ stmt_uses blocks x of_statement false a ++ expr_uses c a
until_uses blocks x c begin listed a = flat_map-append uses_at (here_stmt x false a ∷ inside_stmt blocks x of_statement false a) (sites c a)

pub thru_uses : (blocks : List Block) (c : PExpr) (x : PStmt) (begin : Begin) (listed : Bool) (a : Surroundings) →
    stmt_uses blocks (tree.thru c x) begin listed a ≡ expr_uses c a ++ stmt_uses blocks x of_statement false a
thru_uses blocks c x begin listed a = flat_map-append uses_at (sites c a) (here_stmt x false a ∷ inside_stmt blocks x of_statement false a)

pub case_uses : (blocks : List Block) (c : PExpr) (ss : PStmts) (begin : Begin) (listed : Bool) (a : Surroundings) →
    stmt_uses blocks (tree.case c ss) begin listed a ≡ expr_uses c a ++ stmts_uses blocks ss false a
case_uses blocks c ss begin listed a = flat_map-append uses_at (sites c a) (sites_in_stmts blocks ss false a)

counted : (v : List scoping.Use) (x s l r : List Site) →
    (v ++ []) ++ flat_map uses_at (((x ++ s) ++ l) ++ r) ≡ (v ++ (flat_map uses_at x ++ (flat_map uses_at s ++ flat_map uses_at l))) ++ flat_map uses_at r
counted v x s l r =
    let fx = flat_map uses_at x in
    let fs = flat_map uses_at s in
    let fl = flat_map uses_at l in
    let fr = flat_map uses_at r in
    ap (λ z. z ++ flat_map uses_at (((x ++ s) ++ l) ++ r)) (append-nil v)
    ∙ ap (λ z. v ++ z)
    (flat_map-append uses_at ((x ++ s) ++ l) r
    ∙ ap (λ z. z ++ fr) (flat_map-append uses_at (x ++ s) l ∙ ap (λ z. z ++ fl) (flat_map-append uses_at x s) ∙ append_assoc fx fs fl))
    ∙ sym (append_assoc v (fx ++ (fs ++ fl)) fr)

pub counting_uses : (blocks : List Block) (v : Named) (x s l : PExpr) (b : PStmt) (begin : Begin) (listed : Bool) (a : Surroundings) →
    stmt_uses blocks (tree.for v x s l b) begin listed a ≡ for_uses v x s l a ++ stmt_uses blocks b of_statement false a
counting_uses blocks v x s l b begin listed a =
    counted (scoping.used a v) (sites x a) (sites s a) (sites l a) (here_stmt b false a ∷ inside_stmt blocks b of_statement false a)

pub more_uses : (blocks : List Block) (s : PStmt) (ss : PStmts) (listed : Bool) (a : Surroundings) →
    stmts_uses blocks (tree.stmts s ss) listed a ≡ stmt_uses blocks s of_statement listed a ++ stmts_uses blocks ss listed a
more_uses blocks s ss listed a =
    flat_map-append uses_at (here_stmt s listed a ∷ inside_stmt blocks s of_statement listed a) (sites_in_stmts blocks ss listed a)

pub whole_uses : (blocks : List Block) (spot : Spot) (ds : PDecls) (ss : PStmts) (a : Surroundings) →
    body_uses blocks (tree.body spot ds ss) a ≡ decls_uses blocks ds a a.known ++ stmts_uses blocks ss (has_decls ds) (knowing_all blocks ds a)
whole_uses blocks spot ds ss a =
    flat_map-append uses_at (sites_in_decls blocks ds a a.known) (sites_in_stmts blocks ss (has_decls ds) (knowing_all blocks ds a))

pub declared_uses : (blocks : List Block) (d : PDecl) (ds : PDecls) (a : Surroundings) (first : List Declared) →
    decls_uses blocks (tree.decls d ds) a first ≡ decl_uses blocks d (knowing blocks d ds a) first ++ decls_uses blocks ds (knowing blocks d ds a) first
declared_uses blocks d ds a first =
    flat_map-append uses_at (inside_decl blocks d (knowing blocks d ds a) first) (sites_in_decls blocks ds (knowing blocks d ds a) first)
