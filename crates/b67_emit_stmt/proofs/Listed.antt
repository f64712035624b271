-- Statements one after another, as they are emitted: the exits of each but the last go to the next.
use Rattle.std.proofs.Common.{◌≡◌, ℕ, ◌+◌, ◌≤◌, ◌<◌, List, [], length, take, drop, get_or, refl, sym, ap, ◌∙◌, subst, arith}
use Rattle.algol_tree.specs.declared.tree.Stmt.{Stmt}
use Rattle.algol_tree.specs.Image.{stmt, stmts}
use Rattle.b67_emit_stmt.specs.Places.{Later, Place, StmtAt, StmtsAt}
use Rattle.b67_emit_stmt.specs.declared.draft.Known.{Known}
use Rattle.b67_segment.specs.Operators.{Placed, size}
use Rattle.b67_segment.specs.Building.{level_set}
use Rattle.b67_emit_stmt.specs.Lengths.{stmt_syllables, stmts_syllables}
use Rattle.b67_emit_stmt.specs.Fits.{EmittedStmtFits, EmittedStmtsFit}
use Rattle.b67_emitter.specs.Aiming.{Aimed}
use Rattle.b67_emit_stmt.specs.declared.draft.Draft.{Draft}
use Rattle.b67_emit_stmt.specs.Drafts.{Emits, HasFew, IsReady, draft_noted}
use Rattle.b67_emit_stmt.specs.Emits.{EmitsStmt}
use Rattle.b67_emit_stmt.proofs.Drafts.{closed, emits_none, emits_then, emits_weaker, level_after, set_after}
use Rattle.b67_emit_stmt.proofs.Lists.{around, fits_append, front_more, stands_append, syllables_append}
use Rattle.b67_emit_stmt.proofs.Ready.{stmt_piece}

abbrev pub StandTogether : Place → ℕ → List Stmt → Draft → Draft → Later → List Placed → ℕ → Type 0
StandTogether sc level xs a b later qs target = StmtsAt sc later qs level (stmts xs) (size a.out.operators) (size b.out.operators) target

pub together_none : (s : Known) (sc : Place) (level : ℕ) (xs : List Stmt) (a : Draft) → HasFew a → Emits (stmts_syllables s (stmts (take 0 xs))) a a (StandTogether sc level (take 0 xs) a a)
together_none s sc level xs a few = emits_weaker (StandTogether sc level (take 0 xs) a a) (emits_none a few) (omega arith) (λ later qs target hi p. refl)

-- the next statement fits
pub next_fits : (s : Known) (sc : Place) (level : ℕ) (xs : List Stmt) (i : ℕ) (x : Stmt) → i < length xs → x ≡ get_or xs i x → EmittedStmtsFit sc s level (stmts xs) →
    EmittedStmtFits sc s level (stmt x)
next_fits s sc level xs i x h e fit =
    let F : List Stmt → Type 0 = λ l. EmittedStmtsFit sc s level (stmts l) in
    fits_append sc s level (take i xs) x (drop (i + 1) xs) (subst F (around xs i x h e) fit)

-- the syllables before the next statement, its own and those after it are those of the list
pub next_syllables : (s : Known) (xs : List Stmt) (i : ℕ) (x : Stmt) → i < length xs → x ≡ get_or xs i x →
    stmts_syllables s (stmts xs) ≡ stmts_syllables s (stmts (take i xs)) + (6 + stmt_syllables s (stmt x)) + stmts_syllables s (stmts (drop (i + 1) xs))
next_syllables s xs i x h e = ap (λ (l : List Stmt). stmts_syllables s (stmts l)) (around xs i x h e) ∙ syllables_append s (take i xs) x (drop (i + 1) xs)

-- the syllables up to the next statement
pub more_syllables : (s : Known) (xs : List Stmt) (i : ℕ) (x : Stmt) → i < length xs → x ≡ get_or xs i x →
    stmts_syllables s (stmts (take (i + 1) xs)) ≡ stmts_syllables s (stmts (take i xs)) + (6 + stmt_syllables s (stmt x))
more_syllables s xs i x h e =
    omega (arith, ap (λ (l : List Stmt). stmts_syllables s (stmts l)) (front_more xs i x h e), syllables_append s (take i xs) x [])

module _ (s : Known) (sc : Place) (level : ℕ) (xs : List Stmt) (i : ℕ) (x : Stmt) (lo : i < length xs) (is : x ≡ get_or xs i x) (a b d : Draft) (first : ℕ)
    (at : first ≡ length a.exits.items) (h : Emits (stmts_syllables s (stmts (take i xs))) a b (StandTogether sc level (take i xs) a b))
    (aimed : Aimed (drop first b.exits.items) b.out d.out) (es : d.exits.items ≡ take first b.exits.items) (fs : draft_noted d ≡ draft_noted b) where
  -- the exits of those that are done go to the next
  done : Emits (stmts_syllables s (stmts (take i xs))) a d (λ later qs target. StandTogether sc level (take i xs) a b later qs (size b.out.operators))
  done =
      let A : ℕ → Type 0 = λ n. Aimed (drop n b.exits.items) b.out d.out in
      let E : ℕ → Type 0 = λ n. d.exits.items ≡ take n b.exits.items in
      closed h (subst A at aimed) (subst E at es) fs

  pub done_set : d.out.level ≡ a.out.level
  done_set = done.code.level

  pub done_level : level_set d.out ≡ level_set a.out
  done_level = level_after done

  pub next_ready : (m : ℕ) → stmts_syllables s (stmts xs) ≤ m → IsReady s a m → IsReady s d (stmt_syllables s (stmt x))
  next_ready m le r = record {
    set = set_after done r.set;
    near = r.near;
    inner = r.inner;
    many = r.many;
    segment = r.segment;
    few = done.few;
    room = omega (arith, next_syllables s xs i x lo is, done.short, r.room, le);
  }

  pub together_more : (e : Draft) → level_set a.out ≡ level → EmittedStmtFits sc s level (stmt x) → EmitsStmt s d e (stmt x) →
      Emits (stmts_syllables s (stmts (take (i + 1) xs))) a e (StandTogether sc level (take (i + 1) xs) a e)
  together_more e q fit k =
      let S : List Stmt → Later → List Placed → ℕ → Type 0 = λ l later qs target. StandTogether sc level l a e later qs target in
      let more = front_more xs i x lo is in
      let B : Later → List Placed → ℕ → ℕ → Type 0 = λ later qs target from. StmtAt sc later qs level (stmt x) from (size e.out.operators) target in
      emits_weaker (S (take (i + 1) xs)) (emits_then done (stmt_piece s sc (stmt x) d e level (done_level ∙ q) k fit))
      (omega (arith, more_syllables s xs i x lo is))
      (λ later qs target hi p.
      let T : List Stmt → Type 0 = λ l. S l later qs target in
      subst T (sym more)
      (stands_append sc later qs level (take i xs) x (size a.out.operators) (size b.out.operators) (size e.out.operators) target p.0
      (subst (B later qs target) aimed.place p.1)))
