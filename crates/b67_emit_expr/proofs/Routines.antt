-- The code of actuals: a value that is given back, or the place of an element.
use Rattle.std.proofs.Common.{◌≡◌, ℕ, Bool, true, false, List, [], ◌∷◌, length, ◌<◌, Option, Some, None, refl, sym, ap, ◌∙◌, subst}
use Rattle.algol_tree.specs.declared.tree.Variable.{Variable}
use Rattle.algol_tree.specs.Image.{variable}
use Rattle.algol_tree.specs.Plain as tree
use Rattle.algol_tree.specs.Plain.{PExpr, PVariable}
use Rattle.b67_ops.specs.declared.Operator.TheVariants as ops
use Rattle.b67_ops.specs.declared.PlainKind.TheVariants as kinds
use Rattle.b67_ops.specs.declared.BranchKind.TheVariants.{Brtr}
use Rattle.b67_segment.specs.Operators.{Placed, size}
use Rattle.b67_segment.specs.Building.{Built, level_set}
use Rattle.b67_templates.specs.Contexts as yields
use Rattle.b67_templates.specs.Cells.{has_place}
use Rattle.b67_templates.specs.Fragments.{Has, BranchAt}
use Rattle.b67_templates.specs.Code.{ExprAt, RoutineBy, in_routine}
use Rattle.b67_templates.specs.Emitting.{Emitted, EmittedWithExits, AreExits}
use Rattle.b67_templates.specs.Paying.{routine_code}
use Rattle.b67_emitter.specs.declared.names.Names.{Names}
use Rattle.b67_emitter.specs.Aiming.{Aimed}
use Rattle.b67_emitter.specs.Values.{HasCode, RoutineEmitted, HasReference, element, ReferenceEmitted}
use Rattle.b67_emitter.proofs.Appends.{same_level}
use Rattle.b67_emitter.proofs.Composing.{weaker, no_exits, then, all_aimed, aimed_later}
use Rattle.b67_emit_expr.specs.Applying.{AppliedEmitted}
use Rattle.b67_emit_expr.specs.Placing.{element_place_of, plain_of}
use Rattle.b67_emit_expr.proofs.Elements.{IsElement, is_element, is_alone}
use Rattle.b67_emit_expr.proofs.Calls.{emitted_none}
use Rattle.b67_emit_expr.proofs.Listed.{nowhere, hole_lies}

-- ---- which actuals have a place

place_none : (e : PExpr) → element_place_of e ≡ None → has_place e ≡ false
place_none (tree.variable (tree.subscripted n (tree.more e es))) is =
    let found : PVariable = tree.subscripted n (tree.more e es) in absurd (let clash : Some found ≡ None = is in cc)
place_none e is = refl

place_some : (e : PExpr) (w : PVariable) → element_place_of e ≡ Some w → (e ≡ tree.variable w) × IsElement w
place_some (tree.variable (tree.subscripted n (tree.more e es))) w is =
    let same : tree.subscripted n (tree.more e es) ≡ w = cc in
    let I : PVariable → Type 0 = λ x. IsElement x in
    (ap (λ (x : PVariable). tree.variable x) same, subst I same tt)
place_some e w is = absurd (let clash : None ≡ Some w = is in cc)

module _ (e : PExpr) (found : Option Variable) (is : plain_of found ≡ element_place_of e) where
  pub found_none : found ≡ None → has_place e ≡ false
  found_none none = place_none e (sym is ∙ ap plain_of none)

  found_some : (v : Variable) → found ≡ Some v → (e ≡ tree.variable (variable v)) × IsElement (variable v)
  found_some v some = place_some e (variable v) (sym is ∙ ap plain_of some)

  pub found_is : (v : Variable) → found ≡ Some v → e ≡ tree.variable (variable v)
  found_is v some = let own = found_some v some in own.0

  pub found_element : (v : Variable) → found ≡ Some v → IsElement (variable v)
  found_element v some = let own = found_some v some in own.1

-- .. as it is told by its subscripts
pub alone_placed : (v : Variable) → v.subs ≡ [] → None ≡ element_place_of (tree.variable (variable v))
alone_placed v none = ap (λ (w : PVariable). element_place_of (tree.variable w)) (sym (is_alone v none))

pub subscripts_placed : (v : Variable) → 0 < length v.subs → Some (variable v) ≡ element_place_of (tree.variable (variable v))
subscripts_placed v some = by (variable v) (is_element v some)
  where
    by : (w : PVariable) → IsElement w → Some w ≡ element_place_of (tree.variable w)
    by (tree.subscripted n tree.none) is = absurd is
    by (tree.subscripted n (tree.more e es)) is = refl

element_placed : (w : PVariable) → IsElement w → has_place (tree.variable w) ≡ true
element_placed (tree.subscripted n tree.none) is = absurd is
element_placed (tree.subscripted n (tree.more e es)) is = refl

-- how many syllables its code has
pub value_syllables : (e : PExpr) (n : ℕ) → has_place e ≡ false → routine_code (has_place e) n ≡ routine_code false n
value_syllables e n off = ap (λ (p : Bool). routine_code p n) off

pub placed_syllables : (e : PExpr) (w : PVariable) (n : ℕ) → e ≡ tree.variable w → IsElement w → routine_code (has_place e) n ≡ routine_code true n
placed_syllables e w n is has = ap (λ (p : Bool). routine_code p n) (ap has_place is ∙ element_placed w has)

-- ---- a value

module _ (s : Names) (level : ℕ) (a b : Built) (e : PExpr) where
  pub value_routine : has_place e ≡ false → AppliedEmitted s level a b kinds.Retn e → RoutineEmitted s level a b e
  value_routine off h = record {
    code = λ scopes context kind fits.
        let R : Bool → Type 0 = λ p. Emitted a b (λ qs. RoutineBy scopes context qs level p (record { expr = e; kind = kind }) (size a.operators)) in
        subst R (sym off)
        (weaker (λ qs. RoutineBy scopes context qs level false (record { expr = e; kind = kind }) (size a.operators))
        (h.code scopes (in_routine (yields.value kind) context) kind fits) (λ qs x. (x.0, size b.operators, x.1, x.2)));
  }

-- ---- a place

-- the place has code where the value has
pub element_place : (s : Names) (level : ℕ) (e : PExpr) (w : PVariable) → e ≡ tree.variable w → IsElement w → HasCode s level e → HasReference s level w
element_place s level e w same is h = let H : PExpr → Type 0 = λ x. HasCode s level x in by w is (subst H same h)
  where
    by : (x : PVariable) → IsElement x → HasCode s level (tree.variable x) → HasReference s level x
    by (tree.subscripted n tree.none) is h = absurd is
    by (tree.subscripted n (tree.more i is')) is h = element h.scopes h.own h.block n h.fits.0 (tree.more i is') h.outer refl (h.fits.1, h.fits.3)

-- no branch was aimed
none_aimed : (a : Built) → Aimed [] a a
none_aimed a = record {
  level = refl;
  place = refl;
  leaves = record {
    others = λ at level next op out lo hi st. st;
    aimed = λ at level next old kind among lo hi st. absurd (let clash : false ≡ true = among in cc);
  };
}

-- the branch past the value is there still
pub past_lies : (s : Names) (a b d : Built) (e : PExpr) (place : ℕ) → HasCode s (level_set b) e →
    EmittedWithExits a b [] (size a.operators ∷ []) (λ qs target. BranchAt qs (level_set a) Brtr (size a.operators) target (size b.operators)) →
    AppliedEmitted s (level_set b) b d kinds.Retn e → place ≡ size a.operators → AreExits d.operators (place ∷ []) 0 (size d.operators)
past_lies s a b d e place has branch h is =
    hole_lies a b d d _ _ _ [] [] [] place branch (no_exits [] (h.code has.scopes (nowhere has.own has.block) has.kind has.fits))
    (no_exits [] (emitted_none d (λ qs. Unit {0}) (λ qs. tt))) is

module _ (s : Names) (a b d e f g : Built) (place : ℕ)
    (branch : EmittedWithExits a b [] (size a.operators ∷ []) (λ qs target. BranchAt qs (level_set a) Brtr (size a.operators) target (size b.operators)))
    (is : place ≡ size a.operators) (aim : Aimed (place ∷ []) d e)
    (last : Emitted f g (λ qs. Has qs (level_set f) (size f.operators) (ops.Plain kinds.Retn) (size g.operators)))
    (on_d : d.level ≡ b.level) (on_f : f.level ≡ e.level) where
  at_b : level_set b ≡ level_set a
  at_b = same_level a b branch.level

  at_e : level_set e ≡ level_set a
  at_e = same_level a e (aim.level ∙ on_d ∙ branch.level)

  at_f : level_set f ≡ level_set a
  at_f = same_level a f (on_f ∙ aim.level ∙ on_d ∙ branch.level)

  last_on : Emitted f g (λ qs. Has qs (level_set a) (size f.operators) (ops.Plain kinds.Retn) (size g.operators))
  last_on = let K : ℕ → Type 0 = λ n. Emitted f g (λ qs. Has qs n (size f.operators) (ops.Plain kinds.Retn) (size g.operators)) in subst K at_f last

  -- the branch leads past the value to the place
  past : (V : List Placed → Type 0) → Emitted b d V → Emitted a e (λ qs. BranchAt qs (level_set a) Brtr (size a.operators) (size e.operators) (size b.operators) × V qs)
  past V h =
      let B : List Placed → ℕ → Type 0 = λ qs target. BranchAt qs (level_set a) Brtr (size a.operators) target (size b.operators) in
      let A : ℕ → Type 0 = λ n. Aimed (n ∷ []) d e in
      let E : ℕ → Type 0 = λ n. Emitted a e (λ qs. B qs n × V qs) in
      subst E (sym aim.place)
      (all_aimed a e e (λ qs target. B qs (size d.operators) × V qs) [] []
      (aimed_later a b d e B (λ qs target. V qs) (size a.operators ∷ []) [] [] branch (no_exits [] h) (subst A is aim)) (none_aimed e))

  pub place_routine : (x : PExpr) (w : PVariable) → x ≡ tree.variable w → IsElement w → AppliedEmitted s (level_set b) b d kinds.Retn x → ReferenceEmitted s (level_set e) e f w →
      RoutineEmitted s (level_set a) a g x
  place_routine x w same has h k =
      let R : PExpr → Type 0 = λ y. RoutineEmitted s (level_set a) a g y in
      let V : ℕ → PExpr → Type 0 = λ n y. AppliedEmitted s n b d kinds.Retn y in
      let N : ℕ → Type 0 = λ n. ReferenceEmitted s n e f w in
      subst R (sym same) (by w has (subst (V (level_set a)) same (subst (λ n. V n x) at_b h)) (subst N at_e k))
    where
      by : (w : PVariable) → IsElement w → AppliedEmitted s (level_set a) b d kinds.Retn (tree.variable w) → ReferenceEmitted s (level_set a) e f w → RoutineEmitted s (level_set a) a g (tree.variable w)
      by (tree.subscripted n tree.none) is h k = absurd is
      by (tree.subscripted n (tree.more i is')) is h k = record {
        code = λ scopes context kind fits.
            let x = tree.variable (tree.subscripted n (tree.more i is')) in
            weaker (λ qs. RoutineBy scopes context qs (level_set a) true (record { expr = x; kind = kind }) (size a.operators))
            (then
            (past (λ qs. (m : ℕ) × ExprAt scopes (in_routine (yields.value kind) context) qs (level_set a) kind x (size b.operators) m m × Has qs (level_set a) m (ops.Plain kinds.Retn) (size d.operators))
            (h.code scopes (in_routine (yields.value kind) context) kind fits))
            (then (k.element scopes (in_routine (yields.element kind) context) n fits.0 (tree.more i is') refl (fits.1, fits.3)) last_on))
            (λ qs y. (
              size b.operators,
              size e.operators,
              y.0.1.0,
              size d.operators,
              size f.operators,
              size g.operators,
              y.0.0,
              y.0.1.1,
              y.0.1.2,
              (fits.0, y.1.0.0, y.1.0.1, y.1.0.2, fits.2, y.1.0.3, y.1.0.4),
              y.1.1,
            ));
      }
