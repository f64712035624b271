-- The operator that stands where a process's registers point: a private one, or one that reaches no other's private part.
use Rattle.std.proofs.Common.{◌≡◌, ◌⊎◌, inl, inr, refl, sym, ◌∙◌, subst, ℕ, ◌+◌, Result, Ok}
use Rattle.b67_rows.proofs.Prelude.{Op, Place, Registers, Operator, Code, Image, TableRow, private_part, operator_at, class_by, operator_for, HaveOwnStacks, ReachesNoOther, OperatorReaches}
use Rattle.algol_tree.specs.declared.tree.Op.TheVariants as operators
use Rattle.b67_ops.specs.declared.Operator.TheVariants as ops
use Rattle.b67_table.specs.declared.Class.{Class}
use Rattle.b67_table.specs.declared.Class.TheVariants as classes
use Rattle.b67_table.specs.Rows.{action, row}
use Rattle.b67_table.specs.Sound.{OperatorTouches}
use Rattle.b67_table.specs.Table.{class_at}
use Rattle.b67_table.specs.Touches.{RowTouches}
use Rattle.b67_footprints.proofs.Touching.{operators_touch_what_they_reach}
use Rattle.b67_rows.proofs.Touching.{IsNear, NamesNear, IsNearStack, reaches_no_other, touches_near}

ok_same : {A B : Type 0} {x y : A} {o : Result A B} → o ≡ Ok x → o ≡ Ok y → x ≡ y
ok_same e f = cc

-- ---- the operator that stands there

-- The operator at the pointer of these registers is private, or names near cells in a process that stands so.
pub data StandsNear (code : Code) (p : ℕ) (img : Image) (r : Registers) : Type 0 where
  privately : (op : Operator) (next : ℕ) → operator_at code r ≡ Ok (op, next) → class_at op r.place ≡ classes.Private → StandsNear code p img r
  acting : (op : Operator) (next : ℕ) → operator_at code r ≡ Ok (op, next) → IsNear p img r → NamesNear p img op r → StandsNear code p img r

module _ (code : Code) (p : ℕ) (img : Image) (r : Registers) (own : HaveOwnStacks img) where
  -- one of two classes
  one_class : {B : Type 0} (c : Class) → c ≡ classes.Private → c ≡ classes.Action → B
  one_class c e f = cc

  -- so it reaches no other's private part, where it is an action
  pub near_reaches : StandsNear code p img r → (op : Operator) (next : ℕ) → operator_at code r ≡ Ok (op, next) → class_at op r.place ≡ classes.Action → ReachesNoOther img p op r
  near_reaches (privately o n there private) op next stands acts =
      one_class (class_at op r.place) (subst (λ (f : Operator × ℕ). class_at f.0 r.place ≡ classes.Private) (ok_same there stands) private) acts
  near_reaches (acting o n there near names) op next stands acts =
      subst (λ (f : Operator × ℕ). ReachesNoOther img p f.0 r) (ok_same there stands) (reaches_no_other p img r near o names own)

  -- nor does it touch a stack but the process's own, the system's, those on which somebody depends, and that of a process that it starts
  pub stands_touches : StandsNear code p img r → (x : Place) → (t : OperatorTouches code img p x) → t.registers ≡ r → (IsNearStack p img x.stack ⊎ (x.stack ≡ 0)) ⊎ (x.stack ≡ img.started + 1)
  unfolding class_at
  stands_touches (privately o n there private) x t same =
      inl (inl (inl (by_row (row t.op t.registers.place) (subst (λ (f : Operator × ℕ). class_by (row f.0 t.registers.place) ≡ classes.Private) (ok_same there stands_so) (subst (λ (z : Registers). class_by (row o z.place) ≡ classes.Private) (sym same) private)) t.touches
      ∙ (own p t.registers t.lives).0)))
    where
      stands_so : operator_at code r ≡ Ok (t.op, t.next)
      stands_so = subst (λ (z : Registers). operator_at code z ≡ Ok (t.op, t.next)) same t.stands

      by_row : (w : TableRow) → class_by w ≡ classes.Private → RowTouches w code img p t.registers t.next x → x.stack ≡ t.registers.stack
      by_row (private_part change) e touched = touched.0
      by_row (action program) e touched = cc
  stands_touches (acting o n there near names) x t same = by_reach (operators_touch_what_they_reach code img p x t)
    where
      stands_so : operator_at code r ≡ Ok (t.op, t.next)
      stands_so = subst (λ (z : Registers). operator_at code z ≡ Ok (t.op, t.next)) same t.stands

      by_reach : OperatorReaches img t.op t.registers x ⊎ (x.stack ≡ img.started + 1) → (IsNearStack p img x.stack ⊎ (x.stack ≡ 0)) ⊎ (x.stack ≡ img.started + 1)
      by_reach (inr e) = inr e
      by_reach (inl k) =
          inl (subst (λ (f : Operator × ℕ). (y : Place) → OperatorReaches img f.0 r y → IsNearStack p img y.stack ⊎ (y.stack ≡ 0)) (ok_same there stands_so) (touches_near p img r near o names) x
          (subst (λ (z : Registers). OperatorReaches img t.op z x) same k))

-- the operators of the language are private
pub operator_private : (op : Op) (at : ℕ) → class_at (ops.Plain (operator_for op)) at ≡ classes.Private
unfolding class_at row
operator_private operators.Add at = refl
operator_private operators.Sub at = refl
operator_private operators.Mul at = refl
operator_private operators.Over at = refl
operator_private operators.Div at = refl
operator_private operators.Mod at = refl
operator_private operators.Lss at = refl
operator_private operators.Leq at = refl
operator_private operators.Eql at = refl
operator_private operators.Neq at = refl
operator_private operators.Geq at = refl
operator_private operators.Gtr at = refl
operator_private operators.And at = refl
operator_private operators.Or at = refl
operator_private operators.Imp at = refl
operator_private operators.Eqv at = refl
