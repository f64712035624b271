-- What an assignment stores through: the place of a name by itself, or the descriptor of an element.
use Rattle.std.proofs.Common.{◌≡◌, ℕ, List, [], refl, sym, ap, ◌∙◌, subst}
use Rattle.algol_tree.specs.declared.tree.Expr.{Expr}
use Rattle.algol_tree.specs.declared.tree.Named.{Named}
use Rattle.algol_tree.specs.declared.tree.Variable.{Variable}
use Rattle.algol_tree.specs.Image.{exprs, variable}
use Rattle.algol_tree.specs.Plain as tree
use Rattle.algol_tree.specs.Plain.{PExprs, PVariable}
use Rattle.algol_tree.specs.Scopes.{Scopes}
use Rattle.algol_paths.specs.Arrays.{Shape}
use Rattle.b67_ops.specs.declared.Couple.{Couple}
use Rattle.b67_ops.specs.declared.Operator.TheVariants as ops
use Rattle.b67_ops.specs.declared.PlainKind.TheVariants as kinds
use Rattle.b67_segment.specs.Operators.{size}
use Rattle.b67_segment.specs.Building.{Built, level_set}
use Rattle.b67_templates.specs.Cells.{IsArray}
use Rattle.b67_templates.specs.Paying.{inline}
use Rattle.b67_templates.specs.Fragments.{Has}
use Rattle.b67_templates.specs.Code.{PlaceAt, SubscriptsAt}
use Rattle.b67_templates.specs.Emitting.{Emitted}
use Rattle.b67_templates.specs.Fitting.{PlaceFits, SubscriptsFit}
use Rattle.b67_emitter.specs.declared.names.Names.{Names}
use Rattle.b67_emitter.specs.Values.{meanings, ElementFits, HasReference, alone, element, ReferenceEmitted, place_syllables}
use Rattle.b67_emitter.proofs.Appends.{same_level}
use Rattle.b67_emitter.proofs.Composing.{then, weaker}
use Rattle.b67_emit_expr.specs.Naming.{NameHasPlace, PlaceEmitted}
use Rattle.b67_emit_expr.specs.Subscripting.{HasSubscripts, SubscriptsEmitted}
use Rattle.b67_emit_expr.proofs.Shapes.{own_name, own_subscripts}
use Rattle.b67_emit_expr.proofs.Subscripts.{none_fits}
use Rattle.b67_emit_expr.proofs.Elements.{IsElement, is_alone}

-- ---- a name by itself

module _ (s : Names) (level block : ℕ) (v : Variable) (none : v.subs ≡ []) where
  -- it is no element
  no_element : (scopes : Scopes) (n : Named) (shape : Shape) (es : PExprs) → variable v ≡ tree.subscripted n es → ElementFits s scopes level block n shape es → ⊥
  no_element scopes n shape es is fits =
      let F : PExprs → Type 0 = λ xs. SubscriptsFit scopes (meanings s) level block shape.lows xs in
      let given : es ≡ tree.none = own_subscripts v n es is ∙ ap (λ (xs : List Expr). exprs xs) none in
      none_fits s scopes level block shape.lows (subst F given fits.1)

module _ (s : Names) (level : ℕ) (v : Variable) (none : v.subs ≡ []) where
  pub has_place_alone : HasReference s level (variable v) → NameHasPlace s level v.name
  has_place_alone (alone scopes own kind n outer is fits) =
      let N : Named → Type 0 = λ m. PlaceFits scopes (meanings s) own kind m in record { scopes = scopes; own = own; kind = kind; outer = outer; fits = subst N (own_name v n tree.none is) fits }
  has_place_alone (element scopes own block n shape es outer is fits) = absurd (no_element s own block v none scopes n shape es is fits)

  pub reference_form : (a b : Built) → PlaceEmitted s level a b v.name → ReferenceEmitted s level a b (variable v)
  reference_form a b h = record {
    alone = λ scopes context kind n is fits.
        let named = own_name v n tree.none is in
        let F : Named → Type 0 = λ m. PlaceFits scopes (meanings s) context.level kind m in
        let E : Named → Type 0 = λ m. Emitted a b (λ qs. PlaceAt scopes context qs level m kind (size a.operators) (size b.operators)) in
        subst E (sym named) (h.code scopes context kind (subst F named fits));
    element = λ scopes context n shape es is fits. absurd (no_element s context.level context.block v none scopes n shape es is fits);
  }

  pub reference_syllables : place_syllables s (variable v) ≡ 3
  reference_syllables = ap (place_syllables s) (is_alone v none)

-- ---- an element

pub element_syllables : (s : Names) (w : PVariable) → IsElement w → place_syllables s w ≡ inline (meanings s) (tree.variable w)
element_syllables s (tree.subscripted n tree.none) is = absurd is
element_syllables s (tree.subscripted n (tree.more e es)) is = refl

module _ (s : Names) (w : PVariable) (is_element : IsElement w) where
  -- it is no name by itself
  not_alone : (n : Named) → w ≡ tree.subscripted n tree.none → ⊥
  not_alone n is = let I : PVariable → Type 0 = λ x. IsElement x in subst I is is_element

  pub has_subscripts : (level : ℕ) → HasReference s level w → HasSubscripts s level w
  has_subscripts level (alone scopes own kind n outer is fits) = absurd (not_alone n is)
  has_subscripts level (element scopes own block n shape es outer is fits) = record {
    scopes = scopes;
    own = own;
    block = block;
    name = n;
    shape = shape;
    subscripts = es;
    variable_is = is;
    outer = outer;
    fits = fits;
  }

  pub indexed_form : (a b c : Built) → b.level ≡ a.level → SubscriptsEmitted s (level_set a) a b w →
      Emitted b c (λ qs. Has qs (level_set b) (size b.operators) (ops.Plain kinds.Indx) (size c.operators)) → ReferenceEmitted s (level_set a) a c w
  indexed_form a b c l h k = record {
    alone = λ scopes context kind n is fits. absurd (not_alone n is);
    element = λ scopes context n shape es is fits.
        let K : ℕ → Type 0 = λ i. Emitted b c (λ qs. Has qs i (size b.operators) (ops.Plain kinds.Indx) (size c.operators)) in
        weaker (λ qs. (couple : Couple) × (m : ℕ) × IsArray scopes context.level n shape couple
        × SubscriptsAt scopes context qs (level_set a) couple shape.lows es (size a.operators) m
        × Has qs (level_set a) m (ops.Plain kinds.Indx) (size c.operators))
        (then (h.code scopes context n shape es is fits) (subst K (same_level a b l) k))
        (λ qs x. (x.0.0, size b.operators, x.0.1, x.0.2, x.1));
  }
