-- Operators one after another, at the level that was set before all of them.
use Rattle.std.proofs.Common.{◌≡◌, ℕ, ◌≤◌, List, refl, sym, subst, arith}
use Rattle.std.specs.Prelude.{Result, Ok, Err, OnOk}
use Rattle.algol_tree.specs.declared.tree.Kind.{Kind}
use Rattle.algol_tree.specs.declared.tree.Kind.TheVariants as types
use Rattle.algol_tree.specs.declared.tree.Op.TheVariants as operators
use Rattle.algol_tree.specs.declared.tree.Named.{Named}
use Rattle.algol_tree.specs.Plain as tree
use Rattle.algol_tree.specs.Plain.{PExpr}
use Rattle.b67_emit_stmt.specs.Places.{Later, Place, context_in, AssignAt, ExprAt, ReadAt, PlaceAt}
use Rattle.b67_templates.specs.Code.{own, reads}
use Rattle.b67_emit_stmt.specs.declared.draft.Known.{Known}
use Rattle.algol_meaning.specs.Statements.{alone}
use Rattle.b67_ops.specs.declared.Couple.{Couple}
use Rattle.b67_ops.specs.declared.Operator.TheVariants as ops
use Rattle.b67_ops.specs.declared.PlainKind.{PlainKind}
use Rattle.b67_ops.specs.declared.PlainKind.TheVariants as kinds
use Rattle.b67_segment.specs.Operators.{Placed, size}
use Rattle.b67_segment.specs.Building.{Built, level_set}
use Rattle.b67_templates.specs.Fragments.{Has}
use Rattle.b67_templates.specs.Cells.{IsRead}
use Rattle.b67_templates.specs.Emitting.{Emitted}
use Rattle.b67_emit_stmt.specs.Fits.{EmittedExprFits, VariableFits}
use Rattle.b67_emitter.specs.Values.{HasCode, ValueEmitted}
use Rattle.b67_emitter.proofs.Composing.{then, weaker}

-- ---- levels

pub leveled : {b c : Built} (P : ℕ → List Placed → Type 0) (level : ℕ) → level_set b ≡ level → Emitted b c (P (level_set b)) → Emitted b c (P level)
leveled {b} {c} P level e h = let F : ℕ → Type 0 = λ l. Emitted b c (P l) in subst F e h

pub plain_at : {b c : Built} (kind : PlainKind) (level : ℕ) → level_set b ≡ level → Emitted b c (λ qs. Has qs (level_set b) (size b.operators) (ops.Plain kind) (size c.operators)) →
    Emitted b c (λ qs. Has qs level (size b.operators) (ops.Plain kind) (size c.operators))
plain_at {b} {c} kind level e h = leveled (λ l qs. Has qs l (size b.operators) (ops.Plain kind) (size c.operators)) level e h

-- the expression has code at a level that is the same
pub code_at : (s : Known) (level' level : ℕ) (sc : Place) (k : Kind) (e : PExpr) → level' ≡ level → EmittedExprFits sc s level k e → HasCode s.names.now level' e
code_at s level' level sc k e q fit =
    let at_most : level ≤ level' = omega (arith, q) in record { scopes = sc.scopes; own = level; block = sc.block; kind = k; outer = at_most; fits = fit }

pub variable_at : (s : Known) (level' level : ℕ) (sc : Place) (n : Named) → level' ≡ level → VariableFits sc s level n → VariableFits sc s level' n
variable_at s level' level sc n q fit = let F : ℕ → Type 0 = λ l. VariableFits sc s l n in subst F (sym q) fit

pub value_at : (s : Known) (b c : Built) (level : ℕ) (sc : Place) (later : Later) (k : Kind) (e : PExpr) → level_set b ≡ level →
    ValueEmitted s.names.now (level_set b) b c e → EmittedExprFits sc s level k e →
    Emitted b c (λ qs. ExprAt sc later qs level k e (size b.operators) (size c.operators) (size c.operators))
value_at s b c level sc later k e q v fit =
    let F : ℕ → Type 0 = λ l. EmittedExprFits sc s l k e in
    leveled (λ l qs. ExprAt sc later qs l k e (size b.operators) (size c.operators) (size c.operators)) level q
    (v.code sc.scopes (context_in sc later (level_set b)) k (subst F (sym q) fit))

-- ---- parts of statements

pub read_part : (sc : Place) (later : Later) (k : Kind) (n : Named) (c : Couple) (a b : Built) → IsRead sc.scopes (level_set a) n k c →
    Emitted a b (λ qs. Has qs (level_set a) (size a.operators) (ops.Valc c) (size b.operators)) →
    Emitted a b (λ qs. ReadAt sc later qs (level_set a) n k (size a.operators) (size b.operators))
read_part sc later k n c a b v h =
    weaker (λ qs. ReadAt sc later qs (level_set a) n k (size a.operators) (size b.operators)) h (λ qs p. (c, v, p))

module _ (sc : Place) (later : Later) (level : ℕ) where
  pub assign_part : (k : Kind) (n : Named) (e : PExpr) (a b c d : Built) →
      Emitted a b (λ qs. PlaceAt sc later qs level n k (size a.operators) (size b.operators)) →
      Emitted b c (λ qs. ExprAt sc later qs level k e (size b.operators) (size c.operators) (size c.operators)) →
      Emitted c d (λ qs. Has qs level (size c.operators) (ops.Plain kinds.Stod) (size d.operators)) →
      Emitted a d (λ qs. AssignAt sc later qs level n e (size a.operators) (size d.operators))
  assign_part k n e a b c d h i j =
      weaker (λ qs. AssignAt sc later qs level n e (size a.operators) (size d.operators)) (then (then h i) j)
      (λ qs p. (k, size b.operators, size c.operators, p.0.0, p.0.1, p.1))

  pub difference_part : (n : Named) (e : PExpr) (a b c d : Built) →
      Emitted a b (λ qs. ReadAt sc later qs level n types.Number (size a.operators) (size b.operators)) →
      Emitted b c (λ qs. ExprAt sc later qs level types.Number e (size b.operators) (size c.operators) (size c.operators)) →
      Emitted c d (λ qs. Has qs level (size c.operators) (ops.Plain kinds.Subt) (size d.operators)) →
      Emitted a d (λ qs. ExprAt sc later qs level types.Number (tree.two operators.Sub (alone n) e) (size a.operators) (size d.operators) (size d.operators))
  difference_part n e a b c d h i j =
      weaker (λ qs. ExprAt sc later qs level types.Number (tree.two operators.Sub (alone n) e) (size a.operators) (size d.operators) (size d.operators)) (then (then h i) j)
      (λ qs p. (size b.operators, size b.operators, size c.operators, refl, reads p.0.0, refl, p.0.1, p.1))

  pub advance_part : (n : Named) (e : PExpr) (a b c d x y : Built) →
      Emitted a b (λ qs. PlaceAt sc later qs level n types.Number (size a.operators) (size b.operators)) →
      Emitted b c (λ qs. ReadAt sc later qs level n types.Number (size b.operators) (size c.operators)) →
      Emitted c d (λ qs. ExprAt sc later qs level types.Number e (size c.operators) (size d.operators) (size d.operators)) →
      Emitted d x (λ qs. Has qs level (size d.operators) (ops.Plain kinds.Add) (size x.operators)) →
      Emitted x y (λ qs. Has qs level (size x.operators) (ops.Plain kinds.Stod) (size y.operators)) →
      Emitted a y (λ qs. AssignAt sc later qs level n (tree.two operators.Add (alone n) e) (size a.operators) (size y.operators))
  advance_part n e a b c d x y h i j k l =
      weaker (λ qs. AssignAt sc later qs level n (tree.two operators.Add (alone n) e) (size a.operators) (size y.operators))
      (then h (then (then (then i j) k) l))
      (λ qs p.
      (types.Number, size b.operators, size x.operators, p.0, (size c.operators, size c.operators, size d.operators, refl, reads p.1.0.0.0, refl, p.1.0.0.1, p.1.0.1), p.1.1))

-- ---- answers

-- what two facts of a call that went well make
pub on_ok_two : {T E P Q R : Type 0} (r : Result T E) → (P → Q → R) → OnOk r P → OnOk r Q → OnOk r R
on_ok_two (Ok x) f p q = f p q
on_ok_two (Err e) f p q = tt

-- nothing was appended
pub emitted_none : (a : Built) (P : List Placed → Type 0) → ((qs : List Placed) → P qs) → Emitted a a P
emitted_none a P h = record { level = refl; grown = omega arith; kept = λ at level next op lo hi s. s; claimed = λ qs k. h qs }
