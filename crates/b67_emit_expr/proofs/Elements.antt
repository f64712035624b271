-- A variable is an element of an array, which is read or assigned, or a name by itself.
use Rattle.std.proofs.Common.{◌≡◌, ℕ, ◌+◌, ◌<◌, ◌==◌, Bool, true, false, List, [], ◌∷◌, length, refl, sym, ap, ◌∙◌, subst, arith}
use Rattle.algol_tree.specs.declared.tree.Expr.{Expr}
use Rattle.algol_tree.specs.declared.tree.Variable.{Variable}
use Rattle.algol_tree.specs.Image.{exprs, variable}
use Rattle.algol_tree.specs.Plain as tree
use Rattle.algol_tree.specs.Plain.{PVariable}
use Rattle.algol_tree.proofs.Images.{variable_is}
use Rattle.b67_ops.specs.declared.Operator.TheVariants as ops
use Rattle.b67_ops.specs.declared.PlainKind.TheVariants as kinds
use Rattle.b67_segment.specs.Operators.{size}
use Rattle.b67_segment.specs.Building.{Built, level_set}
use Rattle.b67_templates.specs.Paying.{inline}
use Rattle.b67_templates.specs.Code.{ExprAt}
use Rattle.b67_templates.specs.Fragments.{Has}
use Rattle.b67_templates.specs.Emitting.{Emitted}
use Rattle.b67_emitter.specs.declared.names.Names.{Names}
use Rattle.b67_emitter.specs.Values.{meanings, HasCode, ValueEmitted}
use Rattle.b67_emitter.proofs.Appends.{same_level}
use Rattle.b67_emitter.proofs.Composing.{then, weaker}
use Rattle.b67_emit_expr.specs.Naming.{NameHasCode, NameEmitted}
use Rattle.b67_emit_expr.specs.Subscripting.{HasSubscripts, SubscriptsEmitted}

-- ---- which it is

abbrev pub IsElement : PVariable → Type 0
IsElement (tree.subscripted n tree.none) = ⊥
IsElement (tree.subscripted n (tree.more e es)) = Unit {0}

pub is_element : (v : Variable) → 0 < length v.subs → IsElement (variable v)
is_element v some = let I : PVariable → Type 0 = λ w. IsElement w in subst I (sym (variable_is v)) (by v.subs some)
  where
    by : (xs : List Expr) → 0 < length xs → IsElement (tree.subscripted v.name (exprs xs))
    by [] h = absurd (let none : 0 < 0 = h in omega arith)
    by (x ∷ xs) h = tt

pub is_alone : (v : Variable) → v.subs ≡ [] → variable v ≡ tree.subscripted v.name tree.none
is_alone v none = variable_is v ∙ ap (λ (xs : List Expr). tree.subscripted v.name (exprs xs)) none

-- whether a list is empty
pub some_in : (empty : Bool) (n : ℕ) (xs : List Expr) → empty ≡ (n == 0) → n ≡ length xs → empty ≡ false → 0 < length xs
some_in empty n xs is same off = grind (arith)

pub none_in : (empty : Bool) (n : ℕ) (xs : List Expr) → empty ≡ (n == 0) → n ≡ length xs → empty ≡ true → xs ≡ []
none_in empty n [] is same on = refl
none_in empty n (x ∷ xs) is same on = absurd (let few : 1 + length xs ≡ 0 = grind (arith) in omega arith)

-- ---- an element that is read

module _ (s : Names) where
  pub element_has : (level : ℕ) (w : PVariable) → IsElement w → HasCode s level (tree.variable w) → HasSubscripts s level w
  element_has level (tree.subscripted n tree.none) is h = absurd is
  element_has level (tree.subscripted n (tree.more e es)) is h = record {
    scopes = h.scopes;
    own = h.own;
    block = h.block;
    name = n;
    shape = h.fits.0;
    subscripts = tree.more e es;
    variable_is = refl;
    outer = h.outer;
    fits = (h.fits.1, h.fits.3);
  }

  pub element_form : (a b c : Built) (w : PVariable) → IsElement w → b.level ≡ a.level → SubscriptsEmitted s (level_set a) a b w →
      Emitted b c (λ qs. Has qs (level_set b) (size b.operators) (ops.Plain kinds.Nxlv) (size c.operators)) → ValueEmitted s (level_set a) a c (tree.variable w)
  element_form a b c (tree.subscripted n tree.none) is l h k = absurd is
  element_form a b c (tree.subscripted n (tree.more e es)) is l h k = record {
    code = λ scopes context kind fits.
        let K : ℕ → Type 0 = λ i. Emitted b c (λ qs. Has qs i (size b.operators) (ops.Plain kinds.Nxlv) (size c.operators)) in
        weaker (λ qs. ExprAt scopes context qs (level_set a) kind (tree.variable (tree.subscripted n (tree.more e es))) (size a.operators) (size c.operators) (size c.operators))
        (then (h.code scopes context n fits.0 (tree.more e es) refl (fits.1, fits.3)) (subst K (same_level a b l) k))
        (λ qs x. (fits.0, x.0.0, size b.operators, x.0.1, fits.2, x.0.2, x.1));
  }

  -- ---- a name by itself

  pub alone_has : (level : ℕ) (v : Variable) → v.subs ≡ [] → HasCode s level (tree.variable (variable v)) → NameHasCode s level v.name
  alone_has level v none h =
      let H : PVariable → Type 0 = λ w. HasCode s level (tree.variable w) in
      let own : HasCode s level (tree.variable (tree.subscripted v.name tree.none)) = subst H (is_alone v none) h in
      record { scopes = own.scopes; own = own.own; kind = own.kind; outer = own.outer; fits = own.fits.0 }

  pub alone_syllables : (v : Variable) → v.subs ≡ [] → inline (meanings s) (tree.variable (variable v)) ≡ 12
  alone_syllables v none = ap (λ (w : PVariable). inline (meanings s) (tree.variable w)) (is_alone v none)

  pub alone_form : (level : ℕ) (a b : Built) (v : Variable) → v.subs ≡ [] → NameEmitted s level a b v.name → ValueEmitted s level a b (tree.variable (variable v))
  alone_form level a b v none h =
      let V : PVariable → Type 0 = λ w. ValueEmitted s level a b (tree.variable w) in subst V (sym (is_alone v none)) (record { code = λ scopes context kind fits. h.code scopes context kind fits.0 })
