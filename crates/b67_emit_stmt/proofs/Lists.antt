-- Statements one after another.
use Rattle.std.proofs.Common.{◌≡◌, ℕ, ◌+◌, ◌<◌, List, [], ◌∷◌, ◌++◌, length, take, drop, get_or, sym, ap, ◌∙◌, subst, arith}
use Rattle.std.proofs.lemmas.List.{take-append-drop, drop_more, take_more}
use Rattle.algol_tree.specs.declared.tree.Stmt.{Stmt}
use Rattle.algol_tree.specs.Image.{stmt, stmts}
use Rattle.b67_emit_stmt.specs.declared.draft.Known.{Known}
use Rattle.b67_emit_stmt.specs.Places.{Later, Place, StmtAt, StmtsAt}
use Rattle.b67_segment.specs.Operators.{Placed}
use Rattle.b67_emit_stmt.specs.Fits.{EmittedStmtFits, EmittedStmtsFit}
use Rattle.b67_emit_stmt.specs.Lengths.{stmt_syllables, stmts_syllables}

-- a list around one of its items
pub around : {X : Type 0} (xs : List X) (i : ℕ) (x : X) → i < length xs → x ≡ get_or xs i x → xs ≡ take i xs ++ x ∷ drop (i + 1) xs
around xs i x h e =
    sym (take-append-drop i xs) ∙ ap (λ l. take i xs ++ l) (drop_more xs i x h ∙ ap (λ y. y ∷ drop (i + 1) xs) (sym e))

pub front_more : {X : Type 0} (xs : List X) (i : ℕ) (x : X) → i < length xs → x ≡ get_or xs i x → take (i + 1) xs ≡ take i xs ++ x ∷ []
front_more xs i x h e = take_more xs i x h ∙ ap (λ y. take i xs ++ y ∷ []) (sym e)

-- ---- lengths

pub syllables_append : (s : Known) (xs : List Stmt) (y : Stmt) (ys : List Stmt) →
    stmts_syllables s (stmts (xs ++ y ∷ ys)) ≡ stmts_syllables s (stmts xs) + (6 + stmt_syllables s (stmt y)) + stmts_syllables s (stmts ys)
syllables_append s [] y ys = omega arith
syllables_append s (x ∷ xs) y ys = omega (arith, syllables_append s xs y ys)

-- ---- fitting

pub fits_append : (sc : Place) (known : Known) (level : ℕ) (xs : List Stmt) (y : Stmt) (ys : List Stmt) → EmittedStmtsFit sc known level (stmts (xs ++ y ∷ ys)) →
    EmittedStmtFits sc known level (stmt y)
fits_append sc known level [] y ys h = h.0
fits_append sc known level (x ∷ xs) y ys h = fits_append sc known level xs y ys h.1

-- ---- code

pub stands_append : (sc : Place) (later : Later) (qs : List Placed) (level : ℕ) (xs : List Stmt) (y : Stmt) (f m t u : ℕ) →
    StmtsAt sc later qs level (stmts xs) f m m → StmtAt sc later qs level (stmt y) m t u → StmtsAt sc later qs level (stmts (xs ++ y ∷ [])) f t u
stands_append sc later qs level [] y f m t u h k =
    let S : ℕ → Type 0 = λ x. StmtAt sc later qs level (stmt y) x t u in subst S (sym h) k
stands_append sc later qs level (x ∷ []) y f m t u h k = (m, h, k)
stands_append sc later qs level (x ∷ x' ∷ xs) y f m t u h k =
    (h.0, h.1, stands_append sc later qs level (x' ∷ xs) y h.0 m t u h.2 k)
