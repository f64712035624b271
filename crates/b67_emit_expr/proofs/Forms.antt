-- The code of each form of expression, of the code of its parts.
use Rattle.b67_deeds.specs.declared.EventTest.{EventTest}
use Rattle.b67_deeds.specs.Deeds.{tests}
use Rattle.b67_ops.specs.Intrinsics.{intrinsic_of}
use Rattle.std.proofs.Common.{◌≡◌, ℕ, ℤ, Bool, List, [], ◌∷◌, length, drop, refl, sym, ◌∙◌, subst}
use Rattle.algol_tree.specs.declared.token.Spot.{Spot}
use Rattle.algol_tree.specs.declared.tree.EventName.{EventName}
use Rattle.algol_tree.specs.declared.tree.Kind.TheVariants as types
use Rattle.algol_tree.specs.declared.tree.Op.{Op}
use Rattle.algol_tree.specs.Plain as tree
use Rattle.algol_tree.specs.Plain.{PExpr, PVariable, PCall}
use Rattle.algol_tree.specs.Types.{taken_by}
use Rattle.b67_ops.specs.declared.Operator.TheVariants as ops
use Rattle.b67_ops.specs.declared.PlainKind.{PlainKind}
use Rattle.b67_ops.specs.declared.PlainKind.TheVariants as kinds
use Rattle.b67_ops.specs.declared.BranchKind.TheVariants.{Brfl, Brun}
use Rattle.b67_segment.specs.Operators.{Placed, size}
use Rattle.b67_segment.specs.Building.{Built, level_set}
use Rattle.b67_templates.specs.Fragments.{Has, NumberAt, MovedAt, ReadyAt, BranchAt, operator_for, is_implication, truth_literal}
use Rattle.b67_templates.specs.Code.{ExprAt}
use Rattle.b67_templates.specs.Emitting.{Emitted, EmittedWithExits}
use Rattle.b67_emitter.specs.declared.names.Names.{Names}
use Rattle.b67_emitter.specs.Aiming.{Aimed}
use Rattle.b67_emitter.specs.Values.{ValueEmitted, ValueWithExits, CallEmitted, EventsEmitted}
use Rattle.b67_emitter.proofs.Appends.{same_level}
use Rattle.b67_emitter.proofs.Composing.{weaker, weaker_exits, no_exits, then, then_exits, all_aimed, aimed_later}
use Rattle.b67_emit_expr.specs.Applying.{AppliedEmitted}
use Rattle.b67_emit_expr.specs.Subscripting.{SubscriptEmitted}

module _ (s : Names) where
  -- ---- at which level

  pub value_on : (l m : ℕ) (a b : Built) (e : PExpr) → l ≡ m → ValueEmitted s l a b e → ValueEmitted s m a b e
  value_on l m a b e same h = let V : ℕ → Type 0 = λ n. ValueEmitted s n a b e in subst V same h

  pub with_exits_on : (l m : ℕ) (a b : Built) (xs ys : List ℕ) (e : PExpr) → l ≡ m → ValueWithExits s l a b xs ys e → ValueWithExits s m a b xs ys e
  with_exits_on l m a b xs ys e same h = let V : ℕ → Type 0 = λ n. ValueWithExits s n a b xs ys e in subst V same h

  -- with lists of exits that are these
  pub listed_as : (level : ℕ) (a b : Built) (xs xs' ys ys' : List ℕ) (e : PExpr) → xs ≡ xs' → ys ≡ ys' → ValueWithExits s level a b xs ys e →
      ValueWithExits s level a b xs' ys' e
  listed_as level a b xs xs' ys ys' e p q h =
      let V : List ℕ → Type 0 = λ zs. ValueWithExits s level a b zs ys e in
      let W : List ℕ → Type 0 = λ zs. ValueWithExits s level a b xs' zs e in
      subst W q (subst V p h)

  pub plain_as : (level : ℕ) (a b : Built) (k k' : PlainKind) → k ≡ k' → Emitted a b (λ qs. Has qs level (size a.operators) (ops.Plain k) (size b.operators)) →
      Emitted a b (λ qs. Has qs level (size a.operators) (ops.Plain k') (size b.operators))
  plain_as level a b k k' is h = let K : PlainKind → Type 0 = λ x. Emitted a b (λ qs. Has qs level (size a.operators) (ops.Plain x) (size b.operators)) in subst K is h

  pub plain_on : (l m : ℕ) (a b : Built) (k : PlainKind) → l ≡ m → Emitted a b (λ qs. Has qs l (size a.operators) (ops.Plain k) (size b.operators)) →
      Emitted a b (λ qs. Has qs m (size a.operators) (ops.Plain k) (size b.operators))
  plain_on l m a b k same h = let K : ℕ → Type 0 = λ n. Emitted a b (λ qs. Has qs n (size a.operators) (ops.Plain k) (size b.operators)) in subst K same h

  -- ---- without parts

  pub number_form : (level : ℕ) (a b : Built) (xs : List ℕ) (z : ℤ) (spot : Spot) → Emitted a b (λ qs. NumberAt qs level z (size a.operators) (size b.operators)) →
      ValueWithExits s level a b xs xs (tree.number z spot)
  number_form level a b xs z spot h = record {
    code = λ scopes context kind fits.
        no_exits xs (weaker (λ qs. ExprAt scopes context qs level kind (tree.number z spot) (size a.operators) (size b.operators) (size b.operators)) h (λ qs x. (fits.0, x)));
  }

  pub truth_form : (level : ℕ) (a b : Built) (xs : List ℕ) (t : Bool) (spot : Spot) →
      Emitted a b (λ qs. Has qs level (size a.operators) (ops.Plain (truth_literal t)) (size b.operators)) → ValueWithExits s level a b xs xs (tree.truth t spot)
  truth_form level a b xs t spot h = record {
    code = λ scopes context kind fits.
        no_exits xs (weaker (λ qs. ExprAt scopes context qs level kind (tree.truth t spot) (size a.operators) (size b.operators) (size b.operators)) h (λ qs x. (fits, x)));
  }

  pub tested_form : (level : ℕ) (a b : Built) (xs : List ℕ) (x : EventTest) (es : List EventName) (spot : Spot) → EventsEmitted s level a b (intrinsic_of (tests x)) es →
      ValueWithExits s level a b xs xs (tree.tested x es spot)
  tested_form level a b xs x es spot h = record {
    code = λ scopes context kind fits.
        no_exits xs
        (weaker (λ qs. ExprAt scopes context qs level kind (tree.tested x es spot) (size a.operators) (size b.operators) (size b.operators)) (h.code scopes context fits.2)
        (λ qs k. (fits.0, fits.1, k)));
  }

  -- ---- variables

  -- the subscripts are evaluated first, so no branch leads out
  pub variable_form : (level : ℕ) (a b : Built) (xs : List ℕ) (v : PVariable) → ValueEmitted s level a b (tree.variable v) →
      ValueWithExits s level a b xs xs (tree.variable v)
  variable_form level a b xs (tree.subscripted n tree.none) h = record { code = λ scopes context kind fits. no_exits xs (h.code scopes context kind fits) }
  variable_form level a b xs (tree.subscripted n (tree.more e es)) h = record { code = λ scopes context kind fits. no_exits xs (h.code scopes context kind fits) }

  -- a subscript, moved
  pub moved_form : (a b c : Built) (low : ℤ) (e : PExpr) → ValueEmitted s (level_set a) a b e →
      Emitted b c (λ qs. MovedAt qs (level_set b) low (size b.operators) (size c.operators)) → b.level ≡ a.level → SubscriptEmitted s (level_set a) a c low e
  moved_form a b c low e h k l = record {
    code = λ scopes context fits.
        let K : ℕ → Type 0 = λ n. Emitted b c (λ qs. MovedAt qs n low (size b.operators) (size c.operators)) in
        weaker (λ qs. (m : ℕ) × ExprAt scopes context qs (level_set a) types.Number e (size a.operators) m m × MovedAt qs (level_set a) low m (size c.operators))
        (then (h.code scopes context types.Number fits) (subst K (same_level a b l) k)) (λ qs w. (size b.operators, w.0, w.1));
  }

  -- ---- calls

  pub call_form : (level : ℕ) (a b : Built) (xs : List ℕ) (c : PCall) → CallEmitted s level a b c → ValueWithExits s level a b xs xs (tree.call c)
  call_form level a b xs (tree.called n es) h = record {
    code = λ scopes context kind fits.
        no_exits xs (weaker (λ qs. ExprAt scopes context qs level kind (tree.call (tree.called n es)) (size a.operators) (size b.operators) (size b.operators))
        (h.code scopes context n es fits.0 refl fits.1 fits.2) (λ qs x. (fits.0, x, fits.3)));
  }

  -- ---- with one part

  pub paren_form : (level : ℕ) (a b : Built) (xs ys : List ℕ) (e : PExpr) (spot : Spot) → ValueWithExits s level a b xs ys e →
      ValueWithExits s level a b xs ys (tree.paren e spot)
  paren_form level a b xs ys e spot h = record { code = λ scopes context kind fits. h.code scopes context kind fits }

  pub plus_form : (level : ℕ) (a b : Built) (xs ys : List ℕ) (e : PExpr) (spot : Spot) → ValueWithExits s level a b xs ys e →
      ValueWithExits s level a b xs ys (tree.plus e spot)
  plus_form level a b xs ys e spot h = record {
    code = λ scopes context kind fits.
        weaker_exits (λ qs target. ExprAt scopes context qs level kind (tree.plus e spot) (size a.operators) (size b.operators) target) (h.code scopes context types.Number fits.1)
        (λ qs target behind x. (fits.0, x));
  }

  pub neg_form : (level : ℕ) (a b : Built) (xs : List ℕ) (e : PExpr) (spot : Spot) → AppliedEmitted s level a b kinds.Chsn e →
      ValueWithExits s level a b xs xs (tree.neg e spot)
  neg_form level a b xs e spot h = record {
    code = λ scopes context kind fits.
        no_exits xs (weaker (λ qs. ExprAt scopes context qs level kind (tree.neg e spot) (size a.operators) (size b.operators) (size b.operators))
        (h.code scopes context types.Number fits.1) (λ qs w. (w.0, fits.0, w.1, w.2)));
  }

  pub not_form : (level : ℕ) (a b : Built) (xs : List ℕ) (e : PExpr) (spot : Spot) → AppliedEmitted s level a b kinds.Lnot e →
      ValueWithExits s level a b xs xs (tree.not e spot)
  not_form level a b xs e spot h = record {
    code = λ scopes context kind fits.
        no_exits xs (weaker (λ qs. ExprAt scopes context qs level kind (tree.not e spot) (size a.operators) (size b.operators) (size b.operators))
        (h.code scopes context types.Truth fits.1) (λ qs w. (w.0, fits.0, w.1, w.2)));
  }

  pub applied_form : (a b c : Built) (e : PExpr) (kind : PlainKind) → ValueEmitted s (level_set a) a b e →
      Emitted b c (λ qs. Has qs (level_set b) (size b.operators) (ops.Plain kind) (size c.operators)) → b.level ≡ a.level → AppliedEmitted s (level_set a) a c kind e
  applied_form a b c e kind h k l = record {
    code = λ scopes context of fits.
        let K : ℕ → Type 0 = λ n. Emitted b c (λ qs. Has qs n (size b.operators) (ops.Plain kind) (size c.operators)) in
        weaker (λ qs. (m : ℕ) × ExprAt scopes context qs (level_set a) of e (size a.operators) m m × Has qs (level_set a) m (ops.Plain kind) (size c.operators))
        (then (h.code scopes context of fits) (subst K (same_level a b l) k)) (λ qs w. (size b.operators, w.0, w.1));
  }

  -- ---- whose exits are aimed

  pub exits_aimed : (level : ℕ) (a b c : Built) (xs ys : List ℕ) (first : ℕ) (e : PExpr) → first ≡ length xs → ValueWithExits s level a b xs ys e →
      Aimed (drop first ys) b c → ValueEmitted s level a c e
  exits_aimed level a b c xs ys first e is h d = record {
    code = λ scopes context kind fits.
        let E : ℕ → Type 0 = λ n. Emitted a c (λ qs. ExprAt scopes context qs level kind e (size a.operators) n n) in
        let D : ℕ → Type 0 = λ n. Aimed (drop n ys) b c in
        subst E (sym d.place)
        (all_aimed a b c (λ qs target. ExprAt scopes context qs level kind e (size a.operators) (size b.operators) target) xs ys (h.code scopes context kind fits) (subst D is d));
  }

  -- ---- with two parts

  -- the operands are evaluated first, so no branch leads out
  pub operands_form : (level : ℕ) (a b : Built) (xs : List ℕ) (op : Op) (x y : PExpr) → ValueEmitted s level a b (tree.two op x y) →
      ValueWithExits s level a b xs xs (tree.two op x y)
  operands_form level a b xs op x y h = record { code = λ scopes context kind fits. no_exits xs (h.code scopes context kind fits) }

  pub calculated_form : (a b c d e : Built) (op : Op) (x y : PExpr) → ValueEmitted s (level_set a) a b x →
      Emitted b c (λ qs. ReadyAt qs (level_set b) (is_implication op) (size b.operators) (size c.operators)) → ValueEmitted s (level_set c) c d y →
      Emitted d e (λ qs. Has qs (level_set d) (size d.operators) (ops.Plain (operator_for op)) (size e.operators)) →
      b.level ≡ a.level → d.level ≡ c.level → ValueEmitted s (level_set a) a e (tree.two op x y)
  calculated_form a b c d e op x y h r k o l m = record {
    code = λ scopes context kind fits.
        let R : ℕ → Type 0 = λ n. Emitted b c (λ qs. ReadyAt qs n (is_implication op) (size b.operators) (size c.operators)) in
        let O : ℕ → Type 0 = λ n. Emitted d e (λ qs. Has qs n (size d.operators) (ops.Plain (operator_for op)) (size e.operators)) in
        let at_c : level_set c ≡ level_set a = same_level a c (r.level ∙ l) in
        let at_d : level_set d ≡ level_set a = same_level a d (m ∙ r.level ∙ l) in
        weaker (λ qs. ExprAt scopes context qs (level_set a) kind (tree.two op x y) (size a.operators) (size e.operators) (size e.operators))
        (then (h.code scopes context (taken_by op) fits.1)
        (then (subst R (same_level a b l) r) (then ((value_on (level_set c) (level_set a) c d y at_c k).code scopes context (taken_by op) fits.2) (subst O at_d o))))
        (λ qs w. (size b.operators, size c.operators, size d.operators, fits.0, w.0, w.1.0, w.1.1.0, w.1.1.1));
  }

  -- ---- a conditional expression

  pub chosen_form : (a b c d e f g : Built) (xs ys zs ws : List ℕ) (place : ℕ) (p x y : PExpr) (spot : Spot) → ValueEmitted s (level_set a) a b p →
      EmittedWithExits b c [] (size b.operators ∷ []) (λ qs target. BranchAt qs (level_set b) Brfl (size b.operators) target (size c.operators)) →
      ValueWithExits s (level_set c) c d xs ys x →
      EmittedWithExits d e ys zs (λ qs target. BranchAt qs (level_set d) Brun (size d.operators) target (size e.operators)) →
      place ≡ size b.operators → Aimed (place ∷ []) e f → ValueWithExits s (level_set f) f g zs ws y →
      b.level ≡ a.level → d.level ≡ c.level → ValueWithExits s (level_set a) a g xs ws (tree.if p x y spot)
  chosen_form a b c d e f g xs ys zs ws place p x y spot h r k o is aim m l n = record {
    code = λ scopes context kind fits.
        let R : ℕ → Type 0 = λ i. EmittedWithExits b c [] (size b.operators ∷ []) (λ qs target. BranchAt qs i Brfl (size b.operators) target (size c.operators)) in
        let O : ℕ → Type 0 = λ i. EmittedWithExits d e ys zs (λ qs target. BranchAt qs i Brun (size d.operators) target (size e.operators)) in
        let A : ℕ → Type 0 = λ i. Aimed (i ∷ []) e f in
        let at_c : level_set c ≡ level_set a = same_level a c (r.level ∙ l) in
        let at_d : level_set d ≡ level_set a = same_level a d (n ∙ r.level ∙ l) in
        let at_f : level_set f ≡ level_set a = same_level a f (aim.level ∙ o.level ∙ n ∙ r.level ∙ l) in
        let B : List Placed → ℕ → Type 0 = λ qs target. BranchAt qs (level_set a) Brfl (size b.operators) target (size c.operators) in
        let X : List Placed → ℕ → Type 0 = λ qs target. ExprAt scopes context qs (level_set a) kind x (size c.operators) (size d.operators) target in
        let U : List Placed → ℕ → Type 0 = λ qs target. BranchAt qs (level_set a) Brun (size d.operators) target (size e.operators) in
        let Y : List Placed → ℕ → Type 0 = λ qs target. ExprAt scopes context qs (level_set a) kind y (size f.operators) (size g.operators) target in
        let then_part = then_exits c d e X U xs ys zs ((with_exits_on (level_set c) (level_set a) c d xs ys x at_c k).code scopes context kind fits.1) (subst O at_d o) in
        let skipped = aimed_later b c e f B (λ qs target. X qs target × U qs target) (size b.operators ∷ []) xs zs (subst R (same_level a b l) r) then_part (subst A is aim) in
        let else_part = (with_exits_on (level_set f) (level_set a) f g zs ws y at_f m).code scopes context kind fits.2 in
        let behind = then_exits b f g (λ qs target. B qs (size e.operators) × (X qs target × U qs target)) Y xs zs ws skipped else_part in
        weaker_exits (λ qs target. ExprAt scopes context qs (level_set a) kind (tree.if p x y spot) (size a.operators) (size g.operators) target)
        (then_exits a b g (λ qs target. ExprAt scopes context qs (level_set a) types.Truth p (size a.operators) (size b.operators) (size b.operators))
        (λ qs target. (B qs (size e.operators) × (X qs target × U qs target)) × Y qs target) xs xs ws (no_exits xs (h.code scopes context types.Truth fits.0)) behind)
        (λ qs target past w.
        let Y' : ℕ → Type 0 = λ i. ExprAt scopes context qs (level_set a) kind y i (size g.operators) target in
        (size b.operators, size c.operators, size d.operators, size e.operators, w.0, w.1.0.0, w.1.0.1.0, w.1.0.1.1, subst Y' aim.place w.1.1));
  }
