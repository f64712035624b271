-- Exits that were listed, and the branch past the first part of a conditional expression.
use Rattle.std.proofs.Common.{◌≡◌, ℕ, ◌≤◌, List, [], ◌∷◌, None, length, drop, take, sym, ap, ◌∙◌, subst, arith, length-append}
use Rattle.std.proofs.lemmas.List.{drop_at, take_at}
use Rattle.algol_tree.specs.Plain.{PExpr}
use Rattle.b67_ops.specs.declared.Operator.TheVariants.{Branch}
use Rattle.b67_segment.specs.Operators.{Placed, size}
use Rattle.b67_segment.specs.Building.{Built}
use Rattle.b67_templates.specs.Contexts.{nothing, Context}
use Rattle.b67_templates.specs.Code.{ExprAt}
use Rattle.b67_templates.specs.Emitting.{AreExits, EmittedWithExits}
use Rattle.b67_emitter.specs.declared.names.Names.{Names}
use Rattle.b67_emitter.specs.Values.{HasCode, ValueWithExits}
use Rattle.b67_emitter.proofs.Exits.{exits_kept}

-- a context of this level and this block, where any will do
abbrev pub nowhere : ℕ → ℕ → Context
nowhere level block = record { formats = []; segment = 0; block = block; level = level; yields = nothing; labels = λ spot. None }

module _ (s : Names) (level : ℕ) (a b : Built) (xs ys : List ℕ) (e : PExpr) (has : HasCode s level e) (h : ValueWithExits s level a b xs ys e) where
  own : EmittedWithExits a b xs ys (λ qs target. ExprAt has.scopes (nowhere has.own has.block) qs level has.kind e (size a.operators) (size b.operators) target)
  own = h.code has.scopes (nowhere has.own has.block) has.kind has.fits

  pub list_grown : length xs ≤ length ys
  list_grown = omega (arith, ap length own.added, length-append xs own.exits)

  pub exits_lie : (first : ℕ) → first ≡ length xs → AreExits b.operators (drop first ys) 0 (size b.operators)
  exits_lie first is =
      let behind : drop first ys ≡ own.exits = ap (drop first) own.added ∙ drop_at xs own.exits first (sym is) in
      let A : List ℕ → Type 0 = λ es. AreExits b.operators es 0 (size b.operators) in
      subst A (sym behind)
      (exits_kept b.operators b.operators own.exits (size a.operators) (size b.operators) 0 (size b.operators) (omega arith) (omega arith)
      (λ at l next old kind lo hi st. (old, st)) own.are)

  pub exits_back : (first : ℕ) → first ≡ length xs → take first ys ≡ xs
  exits_back first is = ap (take first) own.added ∙ take_at xs own.exits first (sym is)

-- the branch that was appended first is one still
pub hole_lies : (b c d e : Built) (P Q R : List Placed → ℕ → Type 0) (xs ys zs : List ℕ) (place : ℕ) → EmittedWithExits b c [] (size b.operators ∷ []) P →
    EmittedWithExits c d xs ys Q → EmittedWithExits d e ys zs R → place ≡ size b.operators → AreExits e.operators (place ∷ []) 0 (size e.operators)
hole_lies b c d e P Q R xs ys zs place h k o is =
    let A : List ℕ → Type 0 = λ es. AreExits c.operators es (size b.operators) (size c.operators) in
    let one : place ∷ [] ≡ h.exits = ap (λ n. n ∷ []) is ∙ h.added in
    exits_kept c.operators e.operators (place ∷ []) (size b.operators) (size c.operators) 0 (size e.operators) (omega arith) (omega (arith, k.grown, o.grown))
    (λ at l next old kind lo hi st.
    (old, o.kept at l next (Branch kind old) (omega arith) (omega (arith, k.grown)) (k.kept at l next (Branch kind old) (omega arith) hi st)))
    (subst A (sym one) h.are)
