-- A statement whose plain tree is known: what it needs, and what its code is.
use Rattle.std.proofs.Common.{◌≡◌, ℕ, ◌+◌, ◌≤◌, List, [], ◌∷◌, length, refl, sym, ap, ◌∙◌, subst, arith}
use Rattle.std.specs.Prelude.{IsSome, Option}
use Rattle.algol_tree.specs.declared.token.Spot.{Spot}
use Rattle.b67_deeds.specs.declared.EventAct.{EventAct}
use Rattle.algol_tree.specs.declared.tree.EventName.{EventName}
use Rattle.algol_tree.specs.declared.tree.Kind.TheVariants as types
use Rattle.algol_tree.specs.declared.tree.Named.{Named}
use Rattle.algol_tree.specs.declared.tree.Op.TheVariants as operators
use Rattle.algol_tree.specs.declared.tree.PhraseText.{PhraseText}
use Rattle.algol_tree.specs.Plain as tree
use Rattle.algol_tree.specs.Plain.{PCall, PExpr, PExprs, PStmt}
use Rattle.b67_emit_stmt.specs.Places.{Later, Place, AssignAt, CallStmtAt, ExprAt, GoToAt, OnEventsAt, StartAt, StepAt, WriteListAt}
use Rattle.b67_emit_stmt.specs.declared.draft.Known.{Known}
use Rattle.algol_meaning.specs.Statements as meaning
use Rattle.b67_segment.specs.declared.TheConstants.{MOST_SEGMENT_SYLLABLES}
use Rattle.b67_segment.specs.Operators.{Placed, size}
use Rattle.b67_segment.specs.Building.{Built, level_set}
use Rattle.b67_segment.proofs.Cited.{set_after}
use Rattle.b67_emit_stmt.specs.Lengths.{expr_syllables, stmt_syllables, write_syllables}
use Rattle.b67_templates.specs.Emitting.{Emitted}
use Rattle.b67_deeds.specs.Deeds as deeds
use Rattle.b67_ops.specs.Intrinsics.{intrinsic_of}
use Rattle.b67_emit_stmt.specs.Fits.{AssignFits, CallStmtFits, EventFits, EmittedExprFits, LabelFits, ReadFits, StartFits, VariableFits, EmittedStmtFits, WriteFits}
use Rattle.b67_emit_stmt.specs.declared.draft.Draft.{Draft}
use Rattle.b67_emit_stmt.specs.Drafts.{Emits, IsReady, HasFew, draft_noted}
use Rattle.b67_emit_stmt.specs.Emits.{HasFit, EmitsStmt, EmitsThen}
use Rattle.b67_emit_stmt.proofs.Arms.{Stands, if_else_arm}
use Rattle.b67_emit_stmt.proofs.Drafts.{at_level, emits_none, emits_weaker, level_after, piece}
use Rattle.b67_emit_stmt.proofs.Notes.{formats_same}
use Rattle.b67_emit_stmt.proofs.Parts.{leveled}
use Rattle.b67_emit_stmt.proofs.Ready.{stmt_piece}

-- ---- the same tree

pub ready_as : (s : Known) (a : Draft) (p q : PStmt) → p ≡ q → IsReady s a (stmt_syllables s p) → IsReady s a (stmt_syllables s q)
ready_as s a p q is r = let R : PStmt → Type 0 = λ x. IsReady s a (stmt_syllables s x) in subst R is r

pub fit_as : (s : Known) (a : Draft) (p q : PStmt) → p ≡ q → HasFit s a p → HasFit s a q
fit_as s a p q is f = let F : PStmt → Type 0 = λ x. HasFit s a x in subst F is f

pub emits_as : (s : Known) (a b : Draft) (p q : PStmt) → p ≡ q → EmitsStmt s a b q → EmitsStmt s a b p
emits_as s a b p q is e = let E : PStmt → Type 0 = λ x. EmitsStmt s a b x in subst E (sym is) e

-- a call has room where its statement has
pub call_fits : (s : Known) (a : Draft) (p : PStmt) (c : PCall) (n : Named) (es : PExprs) → p ≡ tree.call_of (tree.called n es) → c ≡ tree.called n es → IsReady s a (stmt_syllables s p) →
    size a.out.operators + (expr_syllables s (tree.call c) + 1) ≤ MOST_SEGMENT_SYLLABLES
call_fits s a p c n es is same ready =
    let Z : PCall → Type 0 = λ x. size a.out.operators + (expr_syllables s (tree.call x) + 1) ≤ MOST_SEGMENT_SYLLABLES in
    let there : Z (tree.called n es) = omega (arith, (ready_as s a p (tree.call_of (tree.called n es)) is ready).room) in
    subst Z (sym same) there

pub start_room : (s : Known) (a : Draft) (p : PStmt) (c : PCall) (n : Named) (es : PExprs) (task : Option Named) → p ≡ tree.process (tree.called n es) task → c ≡ tree.called n es →
    IsReady s a (stmt_syllables s p) → size a.out.operators + (expr_syllables s (tree.call c) + 6) ≤ MOST_SEGMENT_SYLLABLES
start_room s a p c n es task is same ready =
    let Z : PCall → Type 0 = λ x. size a.out.operators + (expr_syllables s (tree.call x) + 6) ≤ MOST_SEGMENT_SYLLABLES in
    let there : Z (tree.called n es) = omega (arith, (ready_as s a p (tree.process (tree.called n es) task) is ready).room) in
    subst Z (sym same) there

-- .. and so have GO TO and a statement on an event
pub go_to_room : (s : Known) (a : Draft) (p : PStmt) (n : Named) → p ≡ tree.go_to n → IsReady s a (stmt_syllables s p) → size a.out.operators + 40 ≤ MOST_SEGMENT_SYLLABLES
go_to_room s a p n is ready = omega (arith, (ready_as s a p (tree.go_to n) is ready).room)

pub event_room : (s : Known) (a : Draft) (p : PStmt) (act : EventAct) (e : EventName) → p ≡ tree.event act e → IsReady s a (stmt_syllables s p) →
    size a.out.operators + 6 ≤ MOST_SEGMENT_SYLLABLES
event_room s a p act e is ready = omega (arith, (ready_as s a p (tree.event act e) is ready).room)

-- ---- less room

pub ready_less : (s : Known) (a : Draft) (m k : ℕ) → IsReady s a m → k ≤ m → IsReady s a k
ready_less s a m k r le = record { set = r.set; near = r.near; inner = r.inner; many = r.many; segment = r.segment; few = r.few; room = omega (arith, le, r.room) }

-- what a call needs after code by which nothing is noted
pub ready_behind : (s : Known) (a b : Draft) (m k : ℕ) → IsReady s a m → b.out.level ≡ a.out.level → draft_noted b ≡ draft_noted a →
    size a.out.operators ≤ size b.out.operators → size b.out.operators + k ≤ size a.out.operators + m → IsReady s b k
ready_behind s a b m k r l fs grown le = record {
  set = set_after a.out b.out l r.set;
  near = r.near;
  inner = r.inner;
  many = r.many;
  segment = r.segment;
  few = omega (arith, formats_same fs, r.few, grown);
  room = omega (arith, le, r.room);
}

pub fit_at : (s : Known) (sc : Place) (x : PStmt) (b : Draft) (level : ℕ) → level_set b.out ≡ level → EmittedStmtFits sc s level x → HasFit s b x
fit_at s sc x b level q fit = let F : ℕ → Type 0 = λ l. EmittedStmtFits sc s l x in (sc, subst F (sym q) fit)

-- ---- forms

-- nothing
pub empty_emitted : (s : Known) (a : Draft) → HasFew a → EmitsStmt s a a tree.empty
empty_emitted s a few = λ sc fit. emits_weaker (Stands sc (level_set a.out) tree.empty a a) (emits_none a few) (omega arith) (λ later qs target hi p. refl)

-- ---- levels

-- a level that was set is still set after code that follows other code
pub set_behind : {n : ℕ} {b c : Draft} {P : Later → List Placed → ℕ → Type 0} (a : Built) → Emits n b c P → b.out.level ≡ a.level → IsSome a.level → IsSome c.out.level
set_behind {n} {b} {c} a e l h = set_after a c.out (e.code.level ∙ l) h

-- the same after code that is followed by other code
pub set_ahead : {n : ℕ} {a b : Draft} {P : Later → List Placed → ℕ → Type 0} (d : Built) → Emits n a b P → d.level ≡ b.out.level → IsSome a.out.level → IsSome d.level
set_ahead {n} {a} {b} d e l h = set_after a.out d (l ∙ e.code.level) h

-- ---- parts of FOR

module _ (s : Known) (sc : Place) (level : ℕ) where
  pub assigned : (n : Named) (e : PExpr) (a b : Draft) → level_set a.out ≡ level → b.exits.items ≡ a.exits.items → draft_noted b ≡ draft_noted a → HasFew a →
      ((sc' : Place) (later : Later) → AssignFits sc' s (level_set a.out) n e →
      Emitted a.out b.out (λ qs. AssignAt sc' later qs (level_set a.out) n e (size a.out.operators) (size b.out.operators))) →
      size b.out.operators ≤ size a.out.operators + (4 + expr_syllables s e) → AssignFits sc s level n e →
      Emits (4 + expr_syllables s e) a b (λ later qs target. AssignAt sc later qs level n e (size a.out.operators) (size b.out.operators))
  assigned n e a b q es fs few h short fit =
      let F : ℕ → Type 0 = λ l. AssignFits sc s l n e in
      piece {n = 4 + expr_syllables s e} {d = a} {e = b} es fs few
      (λ later. leveled (λ l qs. AssignAt sc later qs l n e (size a.out.operators) (size b.out.operators)) level q (h sc later (subst F (sym q) fit))) short

  pub compared : (n : Named) (e : PExpr) (a b : Draft) → level_set a.out ≡ level → b.exits.items ≡ a.exits.items → draft_noted b ≡ draft_noted a → HasFew a →
      ((sc' : Place) (later : Later) → ReadFits sc' s (level_set a.out) types.Number n → EmittedExprFits sc' s (level_set a.out) types.Number e →
      Emitted a.out b.out
      (λ qs.
      ExprAt sc' later qs (level_set a.out) types.Number (tree.two operators.Sub (meaning.alone n) e) (size a.out.operators) (size b.out.operators) (size b.out.operators))) →
      size b.out.operators ≤ size a.out.operators + (3 + expr_syllables s e) → ReadFits sc s level types.Number n → EmittedExprFits sc s level types.Number e →
      Emits (3 + expr_syllables s e) a b
      (λ later qs target. ExprAt sc later qs level types.Number (tree.two operators.Sub (meaning.alone n) e) (size a.out.operators) (size b.out.operators) (size b.out.operators))
  compared n e a b q es fs few h short name fit =
      let N : ℕ → Type 0 = λ l. ReadFits sc s l types.Number n in
      let F : ℕ → Type 0 = λ l. EmittedExprFits sc s l types.Number e in
      piece {n = 3 + expr_syllables s e} {d = a} {e = b} es fs few
      (λ later.
      leveled
      (λ l qs. ExprAt sc later qs l types.Number (tree.two operators.Sub (meaning.alone n) e) (size a.out.operators) (size b.out.operators) (size b.out.operators)) level q
      (h sc later (subst N (sym q) name) (subst F (sym q) fit)))
      short

  -- what the difference and the step want, at a level that is the same
  pub compared_fits : (n : Named) (e : PExpr) (level' : ℕ) → level' ≡ level → ReadFits sc s level types.Number n → EmittedExprFits sc s level types.Number e →
      (sc' : Place) × ReadFits sc' s level' types.Number n × EmittedExprFits sc' s level' types.Number e
  compared_fits n e level' q name fit =
      let F : ℕ → Type 0 = λ l. (sc' : Place) × ReadFits sc' s l types.Number n × EmittedExprFits sc' s l types.Number e in subst F (sym q) (sc, name, fit)

  pub stepped_fits : (e : PExpr) (level' : ℕ) → level' ≡ level → EmittedExprFits sc s level types.Number e → (sc' : Place) × EmittedExprFits sc' s level' types.Number e
  stepped_fits e level' q fit =
      let F : ℕ → Type 0 = λ l. (sc' : Place) × EmittedExprFits sc' s l types.Number e in subst F (sym q) (sc, fit)

  pub stepped : (e : PExpr) (a b : Draft) → level_set a.out ≡ level →
      ((sc' : Place) → EmittedExprFits sc' s (level_set a.out) types.Number e →
      Emits (13 + expr_syllables s e) a b (λ later qs target. StepAt sc' later qs (level_set a.out) e (size a.out.operators) target (size b.out.operators))) →
      EmittedExprFits sc s level types.Number e →
      Emits (13 + expr_syllables s e) a b (λ later qs target. StepAt sc later qs level e (size a.out.operators) target (size b.out.operators))
  stepped e a b q h fit =
      let F : ℕ → Type 0 = λ l. EmittedExprFits sc s l types.Number e in
      at_level level (λ l later qs target. StepAt sc later qs l e (size a.out.operators) target (size b.out.operators)) q (h sc (subst F (sym q) fit))

  pub advanced : (n : Named) (e : PExpr) (a b : Draft) → level_set a.out ≡ level → b.exits.items ≡ a.exits.items → draft_noted b ≡ draft_noted a → HasFew a →
      ((sc' : Place) (later : Later) → VariableFits sc' s (level_set a.out) n → EmittedExprFits sc' s (level_set a.out) types.Number e →
      Emitted a.out b.out
      (λ qs. AssignAt sc' later qs (level_set a.out) n (tree.two operators.Add (meaning.alone n) e) (size a.out.operators) (size b.out.operators))) →
      size b.out.operators ≤ size a.out.operators + (7 + expr_syllables s e) → VariableFits sc s level n → EmittedExprFits sc s level types.Number e →
      Emits (7 + expr_syllables s e) a b
      (λ later qs target. AssignAt sc later qs level n (tree.two operators.Add (meaning.alone n) e) (size a.out.operators) (size b.out.operators))
  advanced n e a b q es fs few h short name fit =
      let N : ℕ → Type 0 = λ l. VariableFits sc s l n in
      let F : ℕ → Type 0 = λ l. EmittedExprFits sc s l types.Number e in
      piece {n = 7 + expr_syllables s e} {d = a} {e = b} es fs few
      (λ later.
      leveled (λ l qs. AssignAt sc later qs l n (tree.two operators.Add (meaning.alone n) e) (size a.out.operators) (size b.out.operators)) level q
      (h sc later (subst N (sym q) name) (subst F (sym q) fit)))
      short

-- ---- whole statements

module _ (s : Known) (a b : Draft) (p : PStmt) where
  pub call_emitted : (c : PCall) (n : Named) (es : PExprs) → p ≡ tree.call_of (tree.called n es) → c ≡ tree.called n es → b.exits.items ≡ a.exits.items → draft_noted b ≡ draft_noted a → HasFew a →
      ((sc : Place) (later : Later) → CallStmtFits sc s (level_set a.out) n es →
      Emitted a.out b.out (λ qs. CallStmtAt sc later qs (level_set a.out) n es (size a.out.operators) (size b.out.operators))) →
      size b.out.operators ≤ size a.out.operators + (expr_syllables s (tree.call c) + 1) → EmitsStmt s a b p
  call_emitted c n es is same xs fs few h short = λ sc fit.
      let level = level_set a.out in
      let Z : PCall → Type 0 = λ x. size b.out.operators ≤ size a.out.operators + (expr_syllables s (tree.call x) + 1) in
      let most = expr_syllables s (tree.call (tree.called n es)) + 1 in
      let F : PStmt → Type 0 = λ x. EmittedStmtFits sc s level x in
      let E : PStmt → Type 0 = λ x. Emits (stmt_syllables s x) a b (Stands sc level x a b) in
      let code : Emits most a b (λ later qs target. CallStmtAt sc later qs level n es (size a.out.operators) (size b.out.operators)) =
      piece {n = most} {d = a} {e = b} xs fs few (λ later. h sc later (subst F is fit)) (subst Z same short) in
      subst E (sym is) (emits_weaker (Stands sc level (tree.call_of (tree.called n es)) a b) code (omega arith) (λ later qs target hi x. x))

  pub start_emitted : (c : PCall) (n : Named) (es : PExprs) (task : Option Named) → p ≡ tree.process (tree.called n es) task → c ≡ tree.called n es → b.exits.items ≡ a.exits.items →
      draft_noted b ≡ draft_noted a → HasFew a →
      ((sc : Place) (later : Later) → StartFits sc s (level_set a.out) n es task →
      Emitted a.out b.out (λ qs. StartAt sc later qs (level_set a.out) n es task (size a.out.operators) (size b.out.operators))) →
      size b.out.operators ≤ size a.out.operators + (expr_syllables s (tree.call c) + 6) → EmitsStmt s a b p
  start_emitted c n es task is same xs fs few h short = λ sc fit.
      let level = level_set a.out in
      let Z : PCall → Type 0 = λ x. size b.out.operators ≤ size a.out.operators + (expr_syllables s (tree.call x) + 6) in
      let most = expr_syllables s (tree.call (tree.called n es)) + 6 in
      let F : PStmt → Type 0 = λ x. EmittedStmtFits sc s level x in
      let E : PStmt → Type 0 = λ x. Emits (stmt_syllables s x) a b (Stands sc level x a b) in
      let code : Emits most a b (λ later qs target. StartAt sc later qs level n es task (size a.out.operators) (size b.out.operators)) =
      piece {n = most} {d = a} {e = b} xs fs few (λ later. h sc later (subst F is fit)) (subst Z same short) in
      subst E (sym is) (emits_weaker (Stands sc level (tree.process (tree.called n es) task) a b) code (omega arith) (λ later qs target hi x. x))

  pub go_to_emitted : (n : Named) → p ≡ tree.go_to n → b.exits.items ≡ a.exits.items → draft_noted b ≡ draft_noted a → HasFew a →
      ((sc : Place) (later : Later) → LabelFits sc s (level_set a.out) n →
      Emitted a.out b.out (λ qs. GoToAt sc later qs (level_set a.out) n (size a.out.operators) (size b.out.operators))) → size b.out.operators ≤ size a.out.operators + 40 →
      EmitsStmt s a b p
  go_to_emitted n is xs fs few h short = λ sc fit.
      let level = level_set a.out in
      let F : PStmt → Type 0 = λ x. EmittedStmtFits sc s level x in
      let E : PStmt → Type 0 = λ x. Emits (stmt_syllables s x) a b (Stands sc level x a b) in
      let code : Emits 40 a b (λ later qs target. GoToAt sc later qs level n (size a.out.operators) (size b.out.operators)) =
      piece {n = 40} {d = a} {e = b} xs fs few (λ later. h sc later (subst F is fit)) short in
      subst E (sym is) (emits_weaker (Stands sc level (tree.go_to n) a b) code (omega arith) (λ later qs target hi x. x))

  pub event_emitted : (act : EventAct) (e : EventName) → p ≡ tree.event act e → b.exits.items ≡ a.exits.items → draft_noted b ≡ draft_noted a → HasFew a →
      ((sc : Place) (later : Later) → EventFits sc s (level_set a.out) e.name →
      Emitted a.out b.out (λ qs. OnEventsAt sc later qs (level_set a.out) (intrinsic_of (deeds.acts act)) (e.name ∷ []) (size a.out.operators) (size b.out.operators))) →
      size b.out.operators ≤ size a.out.operators + 6 → EmitsStmt s a b p
  event_emitted act e is xs fs few h short = λ sc fit.
      let level = level_set a.out in
      let F : PStmt → Type 0 = λ x. EmittedStmtFits sc s level x in
      let E : PStmt → Type 0 = λ x. Emits (stmt_syllables s x) a b (Stands sc level x a b) in
      let code : Emits 6 a b (λ later qs target. OnEventsAt sc later qs level (intrinsic_of (deeds.acts act)) (e.name ∷ []) (size a.out.operators) (size b.out.operators)) =
      piece {n = 6} {d = a} {e = b} xs fs few (λ later. h sc later (subst F is fit)) short in
      subst E (sym is) (emits_weaker (Stands sc level (tree.event act e) a b) code (omega arith) (λ later qs target hi x. x))

  pub write_emitted : (n : Named) (spot : Spot) (phrases : List PhraseText) (es : PExprs) → p ≡ tree.write n spot phrases es →
      ((sc : Place) → WriteFits sc s (level_set a.out) phrases es →
      Emits (write_syllables s es) a b (λ later qs target. WriteListAt sc later qs (level_set a.out) phrases es (size a.out.operators) (size b.out.operators))) → EmitsStmt s a b p
  write_emitted n spot phrases es is h = λ sc fit.
      let level = level_set a.out in
      let F : PStmt → Type 0 = λ x. EmittedStmtFits sc s level x in
      let E : PStmt → Type 0 = λ x. Emits (stmt_syllables s x) a b (Stands sc level x a b) in
      subst E (sym is) (emits_weaker (Stands sc level (tree.write n spot phrases es) a b) (h sc (subst F is fit)) (omega arith) (λ later qs target hi x. x))

pub else_emitted : (s : Known) (a b d : Draft) (p : PStmt) (e : PExpr) (x y : PStmt) → p ≡ tree.if_else e x y → EmitsThen s a b e x → EmitsStmt s b d y → EmitsStmt s a d p
else_emitted s a b d p e x y is h k = λ sc fit.
    let level = level_set a.out in
    let F : PStmt → Type 0 = λ z. EmittedStmtFits sc s level z in
    let E : PStmt → Type 0 = λ z. Emits (stmt_syllables s z) a d (Stands sc level z a d) in
    let there = subst F is fit in
    let first = h sc there.0 there.1 in
    subst E (sym is) (if_else_arm sc level s e x y a b d first (stmt_piece s sc y b d level (level_after first) k there.2))
