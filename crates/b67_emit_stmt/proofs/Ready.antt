-- What a call needs after others, and what it adds, at the level by which that is known.
use Rattle.std.proofs.Common.{◌≡◌, ℕ, ◌+◌, ◌≤◌, List, sym, subst, arith}
use Rattle.algol_tree.specs.declared.tree.Kind.{Kind}
use Rattle.algol_tree.specs.Plain.{PExpr, PStmt}
use Rattle.b67_emit_stmt.specs.Places.{Later, Place, ExprAt}
use Rattle.b67_emit_stmt.specs.declared.draft.Known.{Known}
use Rattle.b67_ops.specs.declared.BranchKind.{BranchKind}
use Rattle.b67_ops.specs.declared.PlainKind.{PlainKind}
use Rattle.b67_segment.specs.Operators.{Placed, size}
use Rattle.b67_segment.specs.Building.{level_set}
use Rattle.b67_templates.specs.Fragments.{AllAt, BranchAt, TurnAt}
use Rattle.b67_emit_stmt.specs.Lengths.{expr_syllables, stmt_syllables}
use Rattle.b67_templates.specs.Emitting.{Emitted, EmittedWithExits}
use Rattle.b67_emit_stmt.specs.Fits.{EmittedExprFits, EmittedStmtFits}
use Rattle.b67_emitter.specs.Values.{ValueEmitted}
use Rattle.b67_emit_stmt.specs.declared.draft.Draft.{Draft}
use Rattle.b67_emit_stmt.specs.Drafts.{IsReady, HasFew, Emits, draft_noted}
use Rattle.b67_emit_stmt.specs.Emits.{HasFit, EmitsStmt, EmitsBody}
use Rattle.b67_emit_stmt.proofs.Drafts.{at_level, exit_piece, level_after, piece, set_after}
use Rattle.b67_emit_stmt.proofs.Parts.{leveled, value_at}
use Rattle.b67_emit_stmt.proofs.Arms.{Closed, Left, Stands, Turned}

pub ready_after : {n : ℕ} {b : Draft} {P : Later → List Placed → ℕ → Type 0} (s : Known) (a : Draft) (m k : ℕ) → IsReady s a m → Emits n a b P → n + k ≤ m → IsReady s b k
ready_after {n} {b} s a m k r e le = record { set = set_after e r.set; near = r.near; inner = r.inner; many = r.many; segment = r.segment; few = e.few; room = omega (arith, e.short, r.room) }

pub fit_after : {n : ℕ} {a b : Draft} {P : Later → List Placed → ℕ → Type 0} (s : Known) (sc : Place) (x : PStmt) → Emits n a b P →
    EmittedStmtFits sc s (level_set a.out) x → HasFit s b x
fit_after {n} {a} {b} s sc x e fit = let F : ℕ → Type 0 = λ l. EmittedStmtFits sc s l x in (sc, subst F (sym (level_after e)) fit)

pub value_piece : (s : Known) (a b : Draft) (level : ℕ) (sc : Place) (k : Kind) (e : PExpr) → level_set a.out ≡ level → b.exits.items ≡ a.exits.items →
    draft_noted b ≡ draft_noted a → HasFew a → ValueEmitted s.names.now (level_set a.out) a.out b.out e → size b.out.operators ≤ size a.out.operators + expr_syllables s e →
    EmittedExprFits sc s level k e →
    Emits (expr_syllables s e) a b (λ later qs target. ExprAt sc later qs level k e (size a.out.operators) (size b.out.operators) (size b.out.operators))
value_piece s a b level sc k e q es fs few v short fit =
    piece {n = expr_syllables s e} {d = a} {e = b} es fs few (λ later. value_at s a.out b.out level sc later k e q v fit) short

pub branch_piece : (sc : Place) (kind : BranchKind) (a b : Draft) (level : ℕ) → level_set a.out ≡ level → draft_noted b ≡ draft_noted a → HasFew a →
    EmittedWithExits a.out b.out a.exits.items b.exits.items (λ qs target. BranchAt qs (level_set a.out) kind (size a.out.operators) target (size b.out.operators)) →
    size b.out.operators ≡ size a.out.operators + 3 → Emits 3 a b (Left sc level kind a b)
branch_piece sc kind a b level q fs few h wide =
    at_level level (λ l later qs target. BranchAt qs l kind (size a.out.operators) target (size b.out.operators)) q (exit_piece {n = 3} {d = a} {e = b} fs few h (omega (arith, wide)))

pub turn_piece : (sc : Place) (start a b : Draft) (target level : ℕ) → target ≡ size start.out.operators → level_set a.out ≡ level → b.exits.items ≡ a.exits.items →
    draft_noted b ≡ draft_noted a → HasFew a → Emitted a.out b.out (λ qs. TurnAt qs (level_set a.out) (size a.out.operators) target (size b.out.operators)) →
    size b.out.operators ≡ size a.out.operators + 3 → Emits 3 a b (Turned sc level start a b)
turn_piece sc start a b target level t q es fs few h wide =
    let T : ℕ → Type 0 = λ to. Emitted a.out b.out (λ qs. TurnAt qs (level_set a.out) (size a.out.operators) to (size b.out.operators)) in
    piece {n = 3} {d = a} {e = b} es fs few
    (λ later. leveled (λ l qs. TurnAt qs l (size a.out.operators) (size start.out.operators) (size b.out.operators)) level q (subst T t h)) (omega (arith, wide))

pub all_piece : (n : ℕ) (kinds : List PlainKind) (a b : Draft) (level : ℕ) → level_set a.out ≡ level → b.exits.items ≡ a.exits.items → draft_noted b ≡ draft_noted a → HasFew a →
    Emitted a.out b.out (λ qs. AllAt qs (level_set a.out) kinds (size a.out.operators) (size b.out.operators)) → size b.out.operators ≤ size a.out.operators + n →
    Emits n a b (λ later qs target. AllAt qs level kinds (size a.out.operators) (size b.out.operators))
all_piece n kinds a b level q es fs few h wide =
    piece {n = n} {d = a} {e = b} es fs few (λ later. leveled (λ l qs. AllAt qs l kinds (size a.out.operators) (size b.out.operators)) level q h) wide

pub stmt_piece : (s : Known) (sc : Place) (x : PStmt) (a b : Draft) (level : ℕ) → level_set a.out ≡ level → EmitsStmt s a b x → EmittedStmtFits sc s level x →
    Emits (stmt_syllables s x) a b (Stands sc level x a b)
stmt_piece s sc x a b level q h fit =
    let F : ℕ → Type 0 = λ l. EmittedStmtFits sc s l x in at_level level (λ l. Stands sc l x a b) q (h sc (subst F (sym q) fit))

pub body_piece : (s : Known) (sc : Place) (x : PStmt) (a b : Draft) (level : ℕ) → level_set a.out ≡ level → EmitsBody s a b x → EmittedStmtFits sc s level x →
    Emits (stmt_syllables s x) a b (Closed sc level x a b)
body_piece s sc x a b level q h fit =
    let F : ℕ → Type 0 = λ l. EmittedStmtFits sc s l x in at_level level (λ l. Closed sc l x a b) q (h sc (subst F (sym q) fit))
