-- Formats and lines.
use Rattle.std.proofs.Common.{◌≡◌, ℕ, ◌+◌, List, [], ◌∷◌, ◌++◌, refl, sym, subst, arith}
use Rattle.algol_tree.specs.declared.tree.PhraseText.{PhraseText}
use Rattle.algol_tree.specs.Image.{expr, exprs}
use Rattle.algol_tree.specs.declared.tree.Expr.{Expr}
use Rattle.algol_tree.specs.declared.tree.Kind.TheVariants as types
use Rattle.b67_emit_stmt.specs.declared.draft.Known.{Known}
use Rattle.b67_emit_stmt.specs.Places.{Later, Place, ExprAt, LineAt}
use Rattle.b67_segment.specs.Operators.{Placed, size}
use Rattle.b67_segment.specs.Building.{Built}
use Rattle.b67_templates.specs.Emitting.{Emitted}
use Rattle.b67_emitter.proofs.Composing.{then, weaker}
use Rattle.b67_segment.specs.declared.code.Phrase.{Phrase}
use Rattle.b67_templates.specs.Code.{AreParts, IsCodePart}
use Rattle.b67_templates.specs.Fitting.{PhraseFits, PhrasesFit}
use Rattle.b67_emit_stmt.specs.Fits.{EmittedExprFits, LineFits}
use Rattle.b67_emit_stmt.specs.Lengths.{expr_syllables, items_syllables}

-- each phrase so far is a part, and then the next is
pub parts_more : (ts : List PhraseText) (ps : List Phrase) (t : PhraseText) (p : Phrase) → AreParts ts ps → IsCodePart t p → AreParts (ts ++ t ∷ []) (ps ++ p ∷ [])
parts_more [] ps t p h k = rw h (p, [], refl, k, refl)
parts_more (x ∷ ts) ps t p h k =
    rw h.2 (h.0, h.1 ++ p ∷ [], refl, h.3, parts_more ts h.1 t p h.4 k)

-- ---- what holds of a list holds of its items

pub phrase_fits : (ts : List PhraseText) (t : PhraseText) (us : List PhraseText) → PhrasesFit (ts ++ t ∷ us) → PhraseFits t
phrase_fits [] t us h = h.0
phrase_fits (x ∷ ts) t us h = phrase_fits ts t us h.1

pub line_fits : (sc : Place) (known : Known) (level : ℕ) (xs : List Expr) (y : Expr) (ys : List Expr) → LineFits sc known level (exprs (xs ++ y ∷ ys)) →
    EmittedExprFits sc known level types.Number (expr y)
line_fits sc known level [] y ys h = h.0
line_fits sc known level (x ∷ xs) y ys h = line_fits sc known level xs y ys h.1

pub line_syllables : (s : Known) (xs : List Expr) (y : Expr) (ys : List Expr) →
    items_syllables s (exprs (xs ++ y ∷ ys)) ≡ items_syllables s (exprs xs) + (12 + expr_syllables s (expr y)) + items_syllables s (exprs ys)
line_syllables s [] y ys = omega arith
line_syllables s (x ∷ xs) y ys = omega (arith, line_syllables s xs y ys)

pub line_append : (sc : Place) (later : Later) (qs : List Placed) (level : ℕ) (xs : List Expr) (y : Expr) (f m t : ℕ) → LineAt sc later qs level (exprs xs) f m →
    ExprAt sc later qs level types.Number (expr y) m t t → LineAt sc later qs level (exprs (xs ++ y ∷ [])) f t
line_append sc later qs level [] y f m t h k =
    let E : ℕ → Type 0 = λ from. ExprAt sc later qs level types.Number (expr y) from t t in (t, subst E (sym h) k, refl)
line_append sc later qs level (x ∷ xs) y f m t h k = (h.0, h.1, line_append sc later qs level xs y h.0 m t h.2 k)

pub line_part : (sc : Place) (later : Later) (level : ℕ) (xs : List Expr) (y : Expr) (zs : List Expr) (a b c : Built) → zs ≡ xs ++ y ∷ [] →
    Emitted a b (λ qs. LineAt sc later qs level (exprs xs) (size a.operators) (size b.operators)) →
    Emitted b c (λ qs. ExprAt sc later qs level types.Number (expr y) (size b.operators) (size c.operators) (size c.operators)) →
    Emitted a c (λ qs. LineAt sc later qs level (exprs zs) (size a.operators) (size c.operators))
line_part sc later level xs y zs a b c e h k =
    let Z : List Expr → Type 0 = λ l. Emitted a c (λ qs. LineAt sc later qs level (exprs l) (size a.operators) (size c.operators)) in
    subst Z (sym e)
    (weaker (λ qs. LineAt sc later qs level (exprs (xs ++ y ∷ [])) (size a.operators) (size c.operators)) (then h k)
    (λ qs p. line_append sc later qs level xs y (size a.operators) (size b.operators) (size c.operators) p.0 p.1))
