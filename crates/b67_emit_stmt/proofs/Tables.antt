-- CASE: the call of SELECT, the table, and the statements after it.
use Rattle.std.proofs.Common.{◌≡◌, ℕ, zero, suc, ◌+◌, ◌*◌, ◌-◌, ◌≤◌, ◌<◌, List, [], ◌∷◌, length, take, drop, get_or, pos, refl, sym, ap, ◌∙◌, subst, arith, length-append}
use Rattle.std.proofs.lemmas.List.{length-take-le}
use Rattle.std.specs.Prelude.{IsSome}
use Rattle.algol_tree.specs.declared.tree.Kind.TheVariants as types
use Rattle.algol_tree.specs.declared.tree.Stmt.{Stmt}
use Rattle.algol_tree.specs.Image.{stmt, stmts}
use Rattle.algol_tree.specs.Plain as tree
use Rattle.algol_tree.specs.Plain.{PExpr}
use Rattle.b67_emit_stmt.specs.Places.{Later, Place, CasesAt, ExprAt, CaseTableAt}
use Rattle.b67_emit_stmt.specs.declared.draft.Known.{Known}
use Rattle.b67_ops.specs.declared.Operator.TheVariants as ops
use Rattle.b67_ops.specs.declared.PlainKind.TheVariants as kinds
use Rattle.b67_ops.specs.declared.BranchKind.TheVariants.{Brun}
use Rattle.b67_ops.specs.declared.intrinsic.Intrinsic.TheVariants.{Select}
use Rattle.b67_segment.specs.declared.TheConstants.{MOST_SEGMENT_SYLLABLES}
use Rattle.b67_segment.specs.Operators.{Placed, size}
use Rattle.b67_segment.specs.Building.{Built, level_set}
use Rattle.b67_segment.proofs.Cited.{set_after}
use Rattle.b67_templates.specs.Fragments.{Has, BranchAt, IntrinsicAt, IsWholeNumber, NumberAt, two_bytes}
use Rattle.b67_templates.specs.Code.{stmts_count}
use Rattle.b67_emit_stmt.specs.Lengths.{expr_syllables, stmt_syllables, stmts_syllables}
use Rattle.b67_templates.specs.Emitting.{AreExits, Emitted, EmittedWithExits}
use Rattle.b67_emit_stmt.specs.Fits.{EmittedStmtFits, EmittedStmtsFit}
use Rattle.b67_emitter.specs.Aiming.{Aimed}
use Rattle.b67_emitter.proofs.Composing.{then, weaker}
use Rattle.b67_emitter.proofs.Appends.{same_level}
use Rattle.b67_emit_stmt.specs.declared.draft.Draft.{Draft}
use Rattle.b67_emit_stmt.specs.Drafts.{Emits, HasFew, DraftIsAt, IsReady, DraftNoted, draft_noted}
use Rattle.b67_emit_stmt.specs.Emits.{EmitsStmt, HasFit}
use Rattle.b67_emit_stmt.specs.Cases.{EntriesAt, SelectAt}
use Rattle.b67_emit_stmt.proofs.Arms.{Stands}
use Rattle.b67_emit_stmt.proofs.Cases.{Midcase, entries_more, entries_size, midcase_first, midcase_last, midcase_more}
use Rattle.b67_emit_stmt.proofs.Drafts.{emits_then, emits_weaker}
use Rattle.b67_emit_stmt.proofs.Lists.{around, front_more}
use Rattle.b67_emit_stmt.proofs.Levels.{at_same}
use Rattle.b67_emit_stmt.proofs.Listed.{next_fits, next_syllables}
use Rattle.b67_emit_stmt.proofs.Matched.{fit_at, ready_less, set_behind}
use Rattle.b67_emit_stmt.proofs.Parts.{leveled}
use Rattle.b67_emit_stmt.proofs.Ready.{branch_piece, stmt_piece}

-- ---- how many

pub few_statements : (s : Known) (ss : List Stmt) → 6 * length ss ≤ stmts_syllables s (stmts ss)
few_statements s [] = omega arith
few_statements s (x ∷ xs) = omega (arith, few_statements s xs)

count_is : (ss : List Stmt) → length ss ≡ stmts_count (stmts ss)
count_is [] = refl
count_is (s ∷ ss) = omega (arith, count_is ss)

-- ---- the table, before its branches are aimed

pub entries_next : (level n : ℕ) (a b d : Built) → level_set b ≡ level → Emitted a b (λ qs. EntriesAt qs level n (size a.operators) (size b.operators)) →
    Emitted b d (λ qs. Has qs (level_set b) (size b.operators) (ops.Branch Brun 0) (size d.operators)) → size d.operators ≡ size b.operators + 3 →
    Emitted a d (λ qs. EntriesAt qs level (n + 1) (size a.operators) (size d.operators))
entries_next level n a b d q h k wide =
    let next : suc n ≡ n + 1 = omega arith in
    let H : ℕ → List Placed → Type 0 = λ l qs. Has qs l (size b.operators) (ops.Branch Brun 0) (size d.operators) in
    weaker (λ qs. EntriesAt qs level (n + 1) (size a.operators) (size d.operators)) (then h (leveled H level q k))
    (λ qs p.
    let E : ℕ → Type 0 = λ m. EntriesAt qs level m (size a.operators) (size d.operators) in
    subst E next (entries_more qs level n (size a.operators) (size b.operators) (size d.operators) p.0 p.1 wide))

pub entries_whole : (level n many : ℕ) (a b : Built) → n ≡ many → Emitted a b (λ qs. EntriesAt qs level n (size a.operators) (size b.operators)) →
    Emitted a b (λ qs. EntriesAt qs level many (size a.operators) (size b.operators))
entries_whole level n many a b e h = let E : ℕ → Type 0 = λ m. Emitted a b (λ qs. EntriesAt qs level m (size a.operators) (size b.operators)) in subst E e h

-- ---- the call of SELECT

module _ (sc : Place) (later : Later) (level many : ℕ) (e : PExpr) (a b d x y z : Built) (place : ℕ) where
  pub select_part : place ≡ size z.operators → IsWholeNumber (pos place) → Emitted a b (λ qs. IntrinsicAt qs level Select (size a.operators) (size b.operators)) →
      Emitted b d (λ qs. ExprAt sc later qs level types.Number e (size b.operators) (size d.operators) (size d.operators)) →
      Emitted d x (λ qs. NumberAt qs level (pos many) (size d.operators) (size x.operators)) →
      Emitted x y (λ qs. Has qs level (size x.operators) (ops.Lt16 place) (size y.operators)) →
      Emitted y z (λ qs. Has qs level (size y.operators) (ops.Plain kinds.Entr) (size z.operators)) →
      Emitted a z (λ qs. SelectAt sc later qs level e many (size a.operators) (size z.operators))
  select_part is whole h i j k l =
      weaker (λ qs. SelectAt sc later qs level e many (size a.operators) (size z.operators)) (then (then (then (then h i) j) k) l)
      (λ qs p.
      let N : ℕ → Type 0 = λ n. NumberAt qs level (pos n) (size x.operators) (size y.operators) in
      let number : N place = record { op = ops.Lt16 place; stands = p.0.1; literal = two_bytes place; whole = whole } in
      (size b.operators, size d.operators, p.0.0.0.0, p.0.0.0.1, (size x.operators, size y.operators, p.0.0.1, subst N is number, p.1)))

-- ---- the whole

pub case_arm : (s : Known) (sc : Place) (level : ℕ) (e : PExpr) (ss : List Stmt) (a b d : Draft) →
    Emits (19 + expr_syllables s e) a b (λ later qs target. SelectAt sc later qs level e (length ss) (size a.out.operators) (size b.out.operators)) →
    Emits (stmts_syllables s (stmts ss)) b d (λ later qs target. CasesAt sc later qs level (stmts ss) (size b.out.operators) target) →
    Emits (stmt_syllables s (tree.case e (stmts ss))) a d (Stands sc level (tree.case e (stmts ss)) a d)
case_arm s sc level e ss a b d h i =
    emits_weaker (Stands sc level (tree.case e (stmts ss)) a d) (emits_then h i) (omega arith)
    (λ later qs target hi p.
    let T : ℕ → Type 0 = λ n. CaseTableAt sc later qs level n p.0.1 (size b.out.operators) in
    (p.0.0, p.0.1, size b.out.operators, p.0.2, p.0.3, subst T (count_is ss) p.0.4, p.1))

-- ---- the statements after the table, one after another

-- none is done
pub cases_begun : (s : Known) (sc : Place) (level many : ℕ) (xs : List Stmt) (a t : Draft) → many ≡ length xs → HasFew a → t.exits.items ≡ a.exits.items → draft_noted t ≡ draft_noted a →
    Emitted a.out t.out (λ qs. EntriesAt qs level many (size a.out.operators) (size t.out.operators)) → Midcase s sc level (take 0 xs) (length xs - 0) a t t
cases_begun s sc level many xs a t is few es fs h =
    let M : ℕ → Type 0 = λ n. Midcase s sc level [] n a t t in
    let all : many ≡ length xs - 0 = omega (arith, is) in
    subst M all (midcase_first s sc level many a t few es fs h)

-- all are done
pub cases_ended : (s : Known) (sc : Place) (level : ℕ) (xs : List Stmt) (i : ℕ) (a t b : Draft) → take i xs ≡ xs → length xs ≤ i → Midcase s sc level (take i xs) (length xs - i) a t b →
    Emits (stmts_syllables s (stmts xs)) a b (λ later qs target. CasesAt sc later qs level (stmts xs) (size a.out.operators) target)
cases_ended s sc level xs i a t b all over m =
    let none : length xs - i ≡ zero = omega (arith, over) in
    let L : List Stmt → Type 0 = λ l. Midcase s sc level l (length xs - i) a t b in
    let M : ℕ → Type 0 = λ n. Midcase s sc level xs n a t b in
    let last = subst M none (subst L all m) in
    midcase_last s sc level xs a t b (stmts_syllables s (stmts xs)) last (omega (arith, last.short, last.pending))

module _ (s : Known) (sc : Place) (level : ℕ) (xs : List Stmt) (i : ℕ) (x : Stmt) (lo : i < length xs) (is : x ≡ get_or xs i x) (a t b : Draft) (entry : ℕ)
    (at : entry ≡ size a.out.operators + 3 * i) (m : Midcase s sc level (take i xs) (length xs - i) a t b) where
  left : Midcase s sc level (take i xs) (suc (length xs - (i + 1))) a t b
  left =
      let one : length xs - i ≡ suc (length xs - (i + 1)) = omega (arith, lo) in
      let M : ℕ → Type 0 = λ n. Midcase s sc level (take i xs) n a t b in
      subst M one m

  many_done : length (take i xs) ≡ i
  many_done = length-take-le i xs (omega (arith, lo))

  here : entry ≡ size a.out.operators + 3 * length (take i xs)
  here = omega (arith, at, many_done)

  table_size : size t.out.operators ≡ size a.out.operators + 3 * length xs
  table_size = omega (arith, many_done, lo, entries_size b.out.operators level (length xs - i) (size a.out.operators + 3 * length (take i xs)) (size t.out.operators) m.pending)

  -- the branch to the next statement is there
  pub entry_lies : AreExits b.out.operators (entry ∷ []) 0 (size b.out.operators)
  entry_lies =
      let A : ℕ → Type 0 = λ e. AreExits b.out.operators (e ∷ []) 0 (size b.out.operators) in
      let from = size a.out.operators + 3 * length (take i xs) in
      subst A (sym here)
      ((level, Brun, 0, from + 3, omega arith, omega (arith, table_size, many_done, lo, m.grown), left.pending.0), tt)

  pub entry_below : entry + 3 ≤ size t.out.operators
  entry_below = omega (arith, at, lo, table_size)

  next_ready : (d : Draft) (n : ℕ) → Aimed (entry ∷ []) b.out d.out → draft_noted d ≡ draft_noted b → stmts_syllables s (stmts xs) ≤ n → IsReady s a n →
      IsReady s d (stmt_syllables s (stmt x) + 3)
  next_ready d n aimed fs le r =
      let split : length xs ≡ length (take i xs) + (1 + length (drop (i + 1) xs)) =
      omega (arith, ap (λ (l : List Stmt). length l) (around xs i x lo is), length-append (take i xs) (x ∷ drop (i + 1) xs)) in
      record {
        set = set_after b.out d.out aimed.level (set_after a.out b.out m.level_is r.set);
        near = r.near;
        inner = r.inner;
        many = r.many;
        segment = r.segment;
        few = omega (arith, m.few, ap (λ (n : DraftNoted). length n.formats) fs, aimed.place);
        room = omega (arith, aimed.place, m.short, table_size, split, few_statements s (drop (i + 1) xs), next_syllables s xs i x lo is, le, r.room);
      }

  next_level : (d : Draft) → level_set a.out ≡ level → Aimed (entry ∷ []) b.out d.out → level_set d.out ≡ level
  next_level d q aimed = same_level b.out d.out aimed.level ∙ same_level a.out b.out m.level_is ∙ q

  -- what the next statement needs
  pub stmt_needs : (d : Draft) (n : ℕ) → Aimed (entry ∷ []) b.out d.out → draft_noted d ≡ draft_noted b → stmts_syllables s (stmts xs) ≤ n → IsReady s a n → level_set a.out ≡ level →
      EmittedStmtsFit sc s level (stmts xs) → (own : ℕ) → DraftIsAt own a → IsReady s d (stmt_syllables s (stmt x)) × HasFit s d (stmt x) × DraftIsAt own d
  stmt_needs d n aimed fs le r q fits own at = (
    ready_less s d (stmt_syllables s (stmt x) + 3) (stmt_syllables s (stmt x)) (next_ready d n aimed fs le r) (omega arith),
    fit_at s sc (stmt x) d level (next_level d q aimed) (next_fits s sc level xs i x lo is fits),
    at_same a d (aimed.level ∙ m.level_is) at,
  )

  -- .. and the branch after it
  pub exit_needs : (d : Draft) (n : ℕ) → Aimed (entry ∷ []) b.out d.out → draft_noted d ≡ draft_noted b → stmts_syllables s (stmts xs) ≤ n → IsReady s a n → level_set a.out ≡ level →
      EmittedStmtsFit sc s level (stmts xs) → (e : Draft) → EmitsStmt s d e (stmt x) → IsSome e.out.level × (size e.out.operators + 3 ≤ MOST_SEGMENT_SYLLABLES)
  exit_needs d n aimed fs le r q fits e k =
      let part = stmt_piece s sc (stmt x) d e level (next_level d q aimed) k (next_fits s sc level xs i x lo is fits) in
      (set_behind a.out part (aimed.level ∙ m.level_is) r.set, omega (arith, part.short, (next_ready d n aimed fs le r).room))

  pub cases_more : (d e f : Draft) → level_set a.out ≡ level → Aimed (entry ∷ []) b.out d.out → d.exits.items ≡ b.exits.items → draft_noted d ≡ draft_noted b →
      EmittedStmtFits sc s level (stmt x) → EmitsStmt s d e (stmt x) → draft_noted f ≡ draft_noted e →
      EmittedWithExits e.out f.out e.exits.items f.exits.items (λ qs target. BranchAt qs (level_set e.out) Brun (size e.out.operators) target (size f.out.operators)) →
      size f.out.operators ≡ size e.out.operators + 3 → Midcase s sc level (take (i + 1) xs) (length xs - (i + 1)) a t f
  cases_more d e f q aimed es fs fit k fs' h wide =
      let there : level_set d.out ≡ level = same_level b.out d.out aimed.level ∙ same_level a.out b.out m.level_is ∙ q in
      let part = stmt_piece s sc (stmt x) d e level there k fit in
      let behind : level_set e.out ≡ level = same_level d.out e.out part.code.level ∙ there in
      let M : List Stmt → Type 0 = λ l. Midcase s sc level l (length xs - (i + 1)) a t f in
      subst M (sym (front_more xs i x lo is))
      (midcase_more s sc level (take i xs) (length xs - (i + 1)) a t b d e f x entry (stmt_syllables s (stmt x) + 3) left here aimed es fs
      (emits_then part (branch_piece sc Brun e f level behind fs' part.few h wide)) (omega arith))
