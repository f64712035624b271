-- The actuals that have cells, as they are gathered from each form of expression and of statement as it is matched.
use Rattle.std.proofs.Common.{rules, ◌≡◌, ℕ, zero, suc, ◌+◌, ◌<◌, Bool, true, false, List, [], ◌∷◌, ◌++◌, drop, length, get_or, Option, None, slice_get, refl, sym, ap, ◌∙◌, append_assoc, arith}
use Rattle.std.specs.Prelude.{◌==◌, not}
use Rattle.std.specs.declared.boxed.Box.{Box}
use Rattle.std.specs.declared.alloc.Global.{Global}
use Rattle.std.proofs.lemmas.Bool.{ne_eqb}
use Rattle.std.proofs.lemmas.List.{drop_more}
use Rattle.algol_tree.specs.declared.token.Spot.{Spot}
use Rattle.algol_tree.specs.declared.tree.Named.{Named}
use Rattle.algol_tree.specs.declared.tree.Expr.{Expr}
use Rattle.algol_tree.specs.declared.tree.Stmt as stmts'
use Rattle.algol_tree.specs.declared.tree.Stmt.{Stmt}
use Rattle.algol_tree.specs.declared.tree.Stmt.TheVariants as shapes
use Rattle.algol_tree.specs.declared.tree.Variable.{Variable}
use Rattle.algol_tree.specs.declared.tree.Body.{Body}
use Rattle.algol_tree.specs.declared.tree.Decl.{Decl}
use Rattle.algol_tree.specs.declared.tree.Decl.TheVariants as declarations
use Rattle.algol_tree.specs.declared.tree.Kind.{Kind}
use Rattle.algol_tree.specs.declared.tree.Pair.{Pair}
use Rattle.algol_tree.specs.Image.{decl, decls, expr, exprs, pairs, stmt, stmts, variable}
use Rattle.algol_tree.specs.Plain as tree
use Rattle.algol_tree.specs.Plain.{PExpr, PExprs, PStmt, PStmts, PDecl, PDecls}
use Rattle.algol_tree.proofs.Images.{variable_is}
use Rattle.b67_templates.specs.Cells.{has_place}
use Rattle.b67_templates.specs.Fitting.{Told}
use Rattle.b67_templates.specs.Paying.{if_known}
use Rattle.b67_emit_stmt.specs.Actuals.{celled, cells_in_actual, cells_among, cells_given, cells_in_pairs, cells_in_decls, cells_in_stmt}
use Rattle.b67_emit_stmt.proofs.Made.{arrays_are, makes_no, makes_none}
use Rattle.b67_emit_stmt.proofs.Shapes.{assign_as, block_as}

-- ---- first those of one part, and then those of another

pub joined : (old mid new xs ys all : List PExpr) → all ≡ xs ++ ys → mid ≡ old ++ xs → new ≡ mid ++ ys → new ≡ old ++ all
joined old mid new xs ys all are first second = second ∙ ap (λ (l : List PExpr). l ++ ys) first ∙ append_assoc old xs ys ∙ ap (λ (l : List PExpr). old ++ l) (sym are)

-- the same where others are left
pub carried : (old before own after first second left rest all : List PExpr) → left ≡ first ++ second ++ rest → own ≡ before ++ first → after ≡ own ++ second → before ++ left ≡ old ++ all →
    after ++ rest ≡ old ++ all
carried old before own after first second left rest all split one two h =
    ap (λ (l : List PExpr). l ++ rest) two ∙ ap (λ (l : List PExpr). (l ++ second) ++ rest) one ∙ ap (λ (l : List PExpr). l ++ rest) (append_assoc before first second)
    ∙ append_assoc before (first ++ second) rest ∙ ap (λ (l : List PExpr). before ++ l) (sym split) ∙ h

-- one more part of a list
pub next_part : {A : Type 0} (found : List A → List PExpr) (one : A → List PExpr) (each : (x : A) (xs : List A) → found (x ∷ xs) ≡ one x ++ found xs) (xs : List A) (i : ℕ) (x : A)
    (before after old all : List PExpr) → i < length xs → x ≡ get_or xs i x → after ≡ before ++ one x → before ++ found (drop i xs) ≡ old ++ all → after ++ found (drop (i + 1) xs) ≡ old ++ all
next_part {A} found one each xs i x before after old all more is here h =
    let rest = drop (i + 1) xs in
    let split : drop i xs ≡ x ∷ rest = drop_more xs i x more ∙ ap (λ (y : A). y ∷ rest) (sym is) in
    ap (λ (l : List PExpr). l ++ found rest) here ∙ append_assoc before (one x) (found rest) ∙ ap (λ (l : List PExpr). before ++ l) (sym (ap found split ∙ each x rest)) ∙ h

-- ---- forms of expressions

-- ---- forms of statements

pub if_then_as : (p : Stmt) (e : Expr) (b : Box Stmt Global) (o : Option (Box Stmt Global)) (x : Stmt) → p ≡ shapes.If e b o → o ≡ None → x ≡ b.value →
    stmt p ≡ tree.if_then (expr e) (stmt x)
if_then_as p e b o x is none same =
    ap stmt (is ∙ ap (shapes.If e b) none) ∙ own e b ∙ ap (λ (z : Stmt). tree.if_then (expr e) (stmt z)) (sym same)
  where
    own : (e : Expr) (b : Box Stmt Global) → stmt (shapes.If e b None) ≡ tree.if_then (expr e) (stmt b.value)
    own e b = search (rules, stmts'.the_lemmas)

pub while_as : (p : Stmt) (e : Expr) (b : Box Stmt Global) (x : Stmt) → p ≡ shapes.While e b → x ≡ b.value → stmt p ≡ tree.while (expr e) (stmt x)
while_as p e b x is same = ap stmt is ∙ own e b ∙ ap (λ (z : Stmt). tree.while (expr e) (stmt z)) (sym same)
  where
    own : (e : Expr) (b : Box Stmt Global) → stmt (shapes.While e b) ≡ tree.while (expr e) (stmt b.value)
    own e b = search (rules, stmts'.the_lemmas)

pub until_as : (p : Stmt) (b : Box Stmt Global) (e : Expr) (x : Stmt) → p ≡ shapes.Until b e → x ≡ b.value → stmt p ≡ tree.until (stmt x) (expr e)
until_as p b e x is same = ap stmt is ∙ own b e ∙ ap (λ (z : Stmt). tree.until (stmt z) (expr e)) (sym same)
  where
    own : (b : Box Stmt Global) (e : Expr) → stmt (shapes.Until b e) ≡ tree.until (stmt b.value) (expr e)
    own b e = search (rules, stmts'.the_lemmas)

pub thru_as : (p : Stmt) (e : Expr) (b : Box Stmt Global) (x : Stmt) → p ≡ shapes.Thru e b → x ≡ b.value → stmt p ≡ tree.thru (expr e) (stmt x)
thru_as p e b x is same = ap stmt is ∙ own e b ∙ ap (λ (z : Stmt). tree.thru (expr e) (stmt z)) (sym same)
  where
    own : (e : Expr) (b : Box Stmt Global) → stmt (shapes.Thru e b) ≡ tree.thru (expr e) (stmt b.value)
    own e b = search (rules, stmts'.the_lemmas)

pub case_as : (p : Stmt) (e : Expr) (ss xs : List Stmt) → p ≡ shapes.Case e ss → xs ≡ ss → stmt p ≡ tree.case (expr e) (stmts xs)
case_as p e ss xs is same = ap stmt is ∙ own e ss ∙ ap (λ (l : List Stmt). tree.case (expr e) (stmts l)) (sym same)
  where
    own : (e : Expr) (ss : List Stmt) → stmt (shapes.Case e ss) ≡ tree.case (expr e) (stmts ss)
    own e ss = search (rules, stmts'.the_lemmas)

-- ---- the actuals of a call

given_at : (told : Told) (modes : List Bool) (i : ℕ) (e : PExpr) (es : PExprs) →
    cells_given told (drop i modes) (tree.more e es) ≡ celled told (if_known (slice_get modes i)) e ++ cells_in_actual told e ++ cells_given told (drop (suc i) modes) es
given_at told [] zero e es = refl
given_at told [] (suc i) e es = refl
given_at told (mode ∷ modes) zero e es = refl
given_at told (mode ∷ modes) (suc i) e es = given_at told modes i e es

-- the mode of the next is that of its number
pub given_next : (told : Told) (modes : List Bool) (i : ℕ) (e : PExpr) (es : PExprs) →
    cells_given told (drop i modes) (tree.more e es) ≡ celled told (if_known (slice_get modes i)) e ++ cells_in_actual told e ++ cells_given told (drop (i + 1) modes) es
given_next told modes i e es =
    let n : suc i ≡ i + 1 = omega arith in
    given_at told modes i e es ∙ ap (λ (k : ℕ). celled told (if_known (slice_get modes i)) e ++ cells_in_actual told e ++ cells_given told (drop k modes) es) n

-- ---- what is subscripted

pub subscripted : (v : Variable) (empty : Bool) (n : ℕ) → empty ≡ (n == 0) → n ≡ length v.subs → not empty ≡ has_place (tree.variable (variable v))
subscripted v empty n is many = by v.subs (is ∙ ap (λ (k : ℕ). k == 0) many) ∙ sym (ap (λ w. has_place (tree.variable w)) (variable_is v))
  where
    by : (es : List Expr) → empty ≡ (length es == 0) → not empty ≡ has_place (tree.variable (tree.subscripted v.name (exprs es)))
    by [] e = ap not e
    by (x ∷ xs) e = ap not (e ∙ ne_eqb (length (x ∷ xs)) 0 (λ z. omega arith))

-- ---- what each form of statement has

module _ (told : Told) where
  pub assign_cells : (p : Stmt) (v : Variable) (e : Expr) (es : List Expr) → p ≡ shapes.Assign v e → es ≡ v.subs →
      cells_in_stmt told (stmt p) ≡ cells_among told (exprs es) ++ cells_in_actual told (expr e)
  assign_cells p v e es is same =
      ap (cells_in_stmt told) (assign_as p v e is) ∙ ap (λ w. cells_in_stmt told (tree.assign w (expr e))) (variable_is v)
      ∙ ap (λ (l : List Expr). cells_among told (exprs l) ++ cells_in_actual told (expr e)) (sym same)

-- ---- a block that declares something, whose actuals are its own

module _ (told : Told) where
  none_inner : (spot : Spot) (ds : List Decl) (ss : PStmts) → (length ds == 0) ≡ false → cells_in_stmt told (tree.block (tree.body spot (decls ds) ss)) ≡ []
  none_inner spot [] ss some = absurd (let clash : true ≡ false = some in cc)
  none_inner spot (d ∷ ds) ss some = refl

  pub block_cells : (p : Stmt) (b : Body) → p ≡ shapes.Block b → (empty : Bool) (n : ℕ) → empty ≡ (n == 0) → n ≡ length b.decls → empty ≡ false → cells_in_stmt told (stmt p) ≡ []
  block_cells p b is empty n e many off =
      ap (cells_in_stmt told) (block_as p b b.stmts is refl) ∙ none_inner b.spot b.decls (stmts b.stmts) (ap (λ (k : ℕ). k == 0) (sym many) ∙ sym e ∙ off)

  -- ---- declarations

  same_cells : (d : PDecl) (ds : PDecls) → makes_none d ≡ true → cells_in_decls told (tree.decls d ds) ≡ cells_in_decls told ds
  same_cells (tree.simple kind ns) ds none = refl
  same_cells (tree.files ns) ds none = refl
  same_cells (tree.events ns) ds none = refl
  same_cells (tree.tasks ns) ds none = refl
  same_cells (tree.labels ns) ds none = refl
  same_cells (tree.arrays kind ns ps) ds none = cc
  same_cells (tree.forward h) ds none = refl
  same_cells (tree.procedure h x) ds none = refl

  pub decls_other : (d : Decl) (left rest : List Decl) → left ≡ d ∷ rest → ((kind : Kind) (ns : List Named) (ps : List Pair) → d ≡ declarations.Arrays kind ns ps → ⊥) →
      cells_in_decls told (decls left) ≡ cells_in_decls told (decls rest)
  decls_other d left rest is other = ap (λ (l : List Decl). cells_in_decls told (decls l)) is ∙ same_cells (decl d) (decls rest) (makes_no d other)

  pub decls_arrays : (d : Decl) (left rest : List Decl) → left ≡ d ∷ rest → (kind : Kind) (ns : List Named) (ps : List Pair) → d ≡ declarations.Arrays kind ns ps →
      (qs : List Pair) → qs ≡ ps → cells_in_decls told (decls left) ≡ cells_in_pairs told (pairs qs) ++ cells_in_decls told (decls rest)
  decls_arrays d left rest is kind ns ps arrays qs same =
      ap (λ (l : List Decl). cells_in_decls told (decls l)) is ∙ ap (λ (e : PDecl). cells_in_decls told (tree.decls e (decls rest))) (arrays_are d kind ns ps arrays) ∙ ap (λ (l : List Pair). cells_in_pairs told (pairs l) ++ cells_in_decls told (decls rest)) (sym same)
