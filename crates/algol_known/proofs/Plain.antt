-- The plain trees of expressions, and which actuals have no cell.
use Rattle.std.proofs.Common.{rules, ◌≡◌, ℕ, Bool, true, false, not, List, [], ◌∷◌, length, Option, Some, None, refl, ap, sym, ◌∙◌, arith, suc}
use Rattle.std.specs.Bool.{◌==◌}
use Rattle.std.specs.declared.boxed.Box.{Box}
use Rattle.std.specs.declared.alloc.Global.{Global}
use Rattle.b67_deeds.specs.declared.EventTest.TheVariants as test
use Rattle.algol_tree.specs.declared.token.Spot.{Spot}
use Rattle.algol_tree.specs.declared.tree.Op.{Op}
use Rattle.algol_tree.specs.declared.tree.EventName.{EventName}
use Rattle.algol_tree.specs.declared.tree.Named.{Named}
use Rattle.algol_tree.specs.Plain as tree
use Rattle.algol_tree.specs.Plain.{PExpr, PExprs}
use Rattle.algol_tree.specs.declared.tree.Expr as exprs_of
use Rattle.algol_tree.specs.declared.tree.Expr.{Expr}
use Rattle.algol_tree.specs.declared.tree.Expr.TheVariants as expression
use Rattle.algol_tree.specs.declared.tree.Variable.{Variable}
use Rattle.algol_tree.specs.Image.{expr, exprs, variable}
use Rattle.algol_tree.specs.Surroundings.{Surroundings, class_of_declared}
use Rattle.algol_tree.specs.Classes as classes
use Rattle.algol_tree.specs.Sorts.{Declared, look_up}
use Rattle.algol_tree.specs.Cells as cells
use Rattle.algol_tree.specs.Cells.{has_cell}
use Rattle.algol_tree.specs.Classes.{Formal}
use Rattle.algol_tree.proofs.Images.{variable_is}
use Rattle.algol_sorts.specs.declared.sort.Sort.{Sort}
use Rattle.algol_sorts.specs.Sorts as sorts
use Rattle.algol_sorts.proofs.Sorts.{parameter_by_name}
use Rattle.algol_known.specs.declared.known.Entry.{Entry}
use Rattle.algol_known.specs.declared.known.Seen.{Seen}
use Rattle.algol_known.specs.declared.around.Around.{Around}
use Rattle.algol_known.specs.declared.around.Procedure.{Procedure}
use Rattle.algol_known.specs.Looking.{looked_up, open_blocks}
use Rattle.algol_known.specs.Seeing.{Sees, NameIsFound, known_is_simple, mode_given, mode_of, name_parameter}

of_variable : (v : Variable) → expr (expression.Variable v) ≡ tree.variable (variable v)
of_variable v = search (rules, exprs_of.the_lemmas)

pub expr_variable : (e : Expr) (v : Variable) → e ≡ expression.Variable v → expr e ≡ tree.variable (tree.subscripted v.name (exprs v.subs))
expr_variable e v h = ap expr h ∙ of_variable v ∙ ap (λ w. tree.variable w) (variable_is v)

pub expr_happened : (e : Expr) (event : EventName) (spot : Spot) → e ≡ expression.Happened event spot → expr e ≡ tree.tested test.Happened (event ∷ []) spot
expr_happened e event spot h = ap expr h ∙ of_happened event spot
  where
    of_happened : (event : EventName) (spot : Spot) → expr (expression.Happened event spot) ≡ tree.tested test.Happened (event ∷ []) spot
    of_happened event spot = search (rules, exprs_of.the_lemmas)

pub expr_available : (e : Expr) (event : EventName) (spot : Spot) → e ≡ expression.Available event spot → expr e ≡ tree.tested test.Available (event ∷ []) spot
expr_available e event spot h = ap expr h ∙ of_available event spot
  where
    of_available : (event : EventName) (spot : Spot) → expr (expression.Available event spot) ≡ tree.tested test.Available (event ∷ []) spot
    of_available event spot = search (rules, exprs_of.the_lemmas)

pub expr_fix : (e : Expr) (event : EventName) (spot : Spot) → e ≡ expression.Fix event spot → expr e ≡ tree.tested test.Fix (event ∷ []) spot
expr_fix e event spot h = ap expr h ∙ of_fix event spot
  where
    of_fix : (event : EventName) (spot : Spot) → expr (expression.Fix event spot) ≡ tree.tested test.Fix (event ∷ []) spot
    of_fix event spot = search (rules, exprs_of.the_lemmas)

pub expr_waited : (e : Expr) (events : List EventName) (spot : Spot) → e ≡ expression.WaitAny events spot → expr e ≡ tree.tested test.WaitAny events spot
expr_waited e events spot h = ap expr h ∙ of_waited events spot
  where
    of_waited : (events : List EventName) (spot : Spot) → expr (expression.WaitAny events spot) ≡ tree.tested test.WaitAny events spot
    of_waited events spot = search (rules, exprs_of.the_lemmas)

pub expr_two : (e : Expr) (op : Op) (a b : Box Expr Global) (x y : Expr) → e ≡ expression.Two op a b → x ≡ a.value → y ≡ b.value →
    expr e ≡ tree.two op (expr x) (expr y)
expr_two e op a b x y h i j =
    ap expr h ∙ of_two op a b ∙ ap (λ z. tree.two op (expr z) (expr b.value)) (sym i) ∙ ap (λ z. tree.two op (expr x) (expr z)) (sym j)
  where
    of_two : (op : Op) (a b : Box Expr Global) → expr (expression.Two op a b) ≡ tree.two op (expr a.value) (expr b.value)
    of_two op a b = search (rules, exprs_of.the_lemmas)

pub expr_if : (e : Expr) (c a b : Box Expr Global) (spot : Spot) (x y z : Expr) → e ≡ expression.If c a b spot → x ≡ c.value → y ≡ a.value →
    z ≡ b.value → expr e ≡ tree.if (expr x) (expr y) (expr z) spot
expr_if e c a b spot x y z h i j l =
    ap expr h ∙ of_if c a b spot ∙ ap (λ w. tree.if (expr w) (expr a.value) (expr b.value) spot) (sym i)
    ∙ ap (λ w. tree.if (expr x) (expr w) (expr b.value) spot) (sym j) ∙ ap (λ w. tree.if (expr x) (expr y) (expr w) spot) (sym l)
  where
    of_if : (c a b : Box Expr Global) (spot : Spot) → expr (expression.If c a b spot) ≡ tree.if (expr c.value) (expr a.value) (expr b.value) spot
    of_if c a b spot = search (rules, exprs_of.the_lemmas)

pub not_empty : (n : ℕ) → (suc n == 0) ≡ true → ⊥
not_empty n h = grind arith

with_subscripts : (n : Named) (es : List Expr) (a : Surroundings) → (length es == 0) ≡ false →
    has_cell (tree.variable (tree.subscripted n (exprs es))) name_parameter a ≡ true
with_subscripts n [] a h = cc
with_subscripts n (x ∷ xs) a h = refl

pub not_plain : (e : Expr) (v : Variable) (items : List Expr) (b : Bool) (a : Surroundings) → e ≡ expression.Variable v → items ≡ v.subs →
    b ≡ (length items == 0) → b ≡ false → has_cell (expr e) name_parameter a ≡ true
not_plain e v items b a h i l f =
    ap (λ x. has_cell x name_parameter a) (expr_variable e v h)
    ∙ with_subscripts v.name v.subs a (ap (λ s. length s == 0) (sym i) ∙ sym l ∙ f)

bare : (n : Named) (es : List Expr) (a : Surroundings) (d : Option Declared) → (length es == 0) ≡ true → look_up a.known n.name ≡ d →
    has_cell (tree.variable (tree.subscripted n (exprs es))) name_parameter a ≡ not (classes.is_simple (class_of_declared d))
bare n [] a d h l = ap (λ z. not (classes.is_simple (class_of_declared z))) l
bare n (x ∷ xs) a d h l = absurd (not_empty (length xs) h)

simple_found : (ps : List Procedure) (f : Option Entry) (d : Option Declared) (e : Entry) → NameIsFound ps f d → f ≡ Some e →
    classes.is_simple (class_of_declared d) ≡ known_is_simple e.class
simple_found ps None None e i h = cc
simple_found ps (Some g) (Some d) e i h = sym i.class.simple ∙ (let same : g ≡ e = cc in ap (λ z. known_is_simple z.class) same)
simple_found ps None (Some d) e i h = absurd i
simple_found ps (Some g) None e i h = absurd i

pub plain_as : (k : Around) (seen : Seen) (e : Expr) (v : Variable) (items : List Expr) (b : Bool) (name : List ℕ) (entry : Entry) (a : Surroundings) →
    e ≡ expression.Variable v → items ≡ v.subs → b ≡ (length items == 0) → b ≡ true → name ≡ v.name.name →
    looked_up (open_blocks k) seen name ≡ Some entry → Sees k seen a →
    has_cell (expr e) name_parameter a ≡ not (known_is_simple entry.class)
plain_as k seen e v items b name entry a h i l f n u s =
    ap (λ x. has_cell x name_parameter a) (expr_variable e v h)
    ∙ bare v.name v.subs a (look_up a.known v.name.name) (ap (λ z. length z == 0) (sym i) ∙ sym l ∙ f) refl
    ∙ ap not
    (simple_found k.procedures.items (looked_up (open_blocks k) seen v.name.name) (look_up a.known v.name.name) entry (s.names v.name.name)
    (ap (λ z. looked_up (open_blocks k) seen z) (sym n) ∙ u))

-- ---- parameters by name

pub none_given : (m : Option Sort) (f : Option Formal) → m ≡ None → m ≡ mode_given f → false ≡ cells.formal_is_by_name f
none_given m None h e = refl
none_given m (Some g) h e = absurd (let clash : None ≡ Some (mode_of g) = sym h ∙ e in cc)

pub some_given : (m : Option Sort) (s : Sort) (f : Option Formal) (b : Bool) → m ≡ Some s → b ≡ sorts.sort_is_by_name s → m ≡ mode_given f → b ≡ cells.formal_is_by_name f
some_given m s None b h k e = absurd (let clash : Some s ≡ None = sym h ∙ e in cc)
some_given m s (Some g) b h k e =
    let both : Some s ≡ Some (mode_of g) = sym h ∙ e in
    let same : s ≡ mode_of g = cc in
    k ∙ ap sorts.sort_is_by_name same ∙ parameter_by_name g.class g.by_value
