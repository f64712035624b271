-- Code that is added to a draft after other code.
use Rattle.std.proofs.Common.{◌≡◌, ℕ, ◌+◌, ◌≤◌, List, [], length, take, drop, refl, sym, ap, ◌∙◌, subst, arith, length-append}
use Rattle.std.specs.Prelude.{Option, IsSome}
use Rattle.std.proofs.lemmas.List.{append-nil, take_at, drop_at}
use Rattle.b67_ops.specs.declared.Operator.TheVariants.{Branch}
use Rattle.b67_segment.specs.Operators.{Placed, size}
use Rattle.b67_segment.specs.Building.{level_set}
use Rattle.b67_templates.specs.Emitting.{Emitted, EmittedWithExits, AreExits}
use Rattle.b67_emitter.specs.Aiming.{Aimed}
use Rattle.b67_emitter.proofs.Exits.{exits_kept}
use Rattle.b67_emitter.proofs.Composing.{weaker_exits, no_exits, then_exits, all_aimed, aimed_later}
use Rattle.b67_emitter.proofs.Appends.{same_level}
use Rattle.b67_emit_stmt.specs.declared.draft.Draft.{Draft}
use Rattle.b67_emit_stmt.specs.Drafts.{DraftAgrees, HasFew, Emits, draft_noted}
use Rattle.b67_emit_stmt.specs.Places.{Later}
use Rattle.b67_emit_stmt.proofs.Notes.{agrees_front, agrees_same, formats_same, grows_equal, grows_then, listed_equal, unknown}

-- ---- levels

pub level_after : {n : ℕ} {a b : Draft} {P : Later → List Placed → ℕ → Type 0} → Emits n a b P → level_set b.out ≡ level_set a.out
level_after {n} {a} {b} e = same_level a.out b.out e.code.level

pub set_after : {n : ℕ} {a b : Draft} {P : Later → List Placed → ℕ → Type 0} → Emits n a b P → IsSome a.out.level → IsSome b.out.level
set_after {n} {a} {b} e h = let S : Option ℕ → Type 0 = λ o. IsSome o in subst S (sym e.code.level) h

-- a claim of the level that is set, at the level by which it is known
pub at_level : {n : ℕ} {b c : Draft} (level : ℕ) (P : ℕ → Later → List Placed → ℕ → Type 0) → level_set b.out ≡ level → Emits n b c (P (level_set b.out)) → Emits n b c (P level)
at_level {n} {b} {c} level P e h = let F : ℕ → Type 0 = λ l. Emits n b c (P l) in subst F e h

-- ---- pieces

-- code without exits
pub piece : {n : ℕ} {d e : Draft} {P : Later → List Placed → Type 0} → e.exits.items ≡ d.exits.items → draft_noted e ≡ draft_noted d → HasFew d →
    ((later : Later) → Emitted d.out e.out (P later)) → size e.out.operators ≤ size d.out.operators + n → Emits n d e (λ later qs target. P later qs)
piece {n} {d} {e} {P} same fs few h short =
    let first = h unknown in
    let whole : Emitted d.out e.out (λ qs. (later : Later) → DraftAgrees (draft_noted e) later → P later qs) =
    record { level = first.level; grown = first.grown; kept = first.kept; claimed = λ qs k later f. (h later).claimed qs k } in
    let E : List ℕ → Type 0 = λ es. EmittedWithExits d.out e.out d.exits.items es (λ qs target. (later : Later) → DraftAgrees (draft_noted e) later → P later qs) in
    record {
      code = subst E (sym same) (no_exits d.exits.items whole);
      short = short;
      notes = grows_equal fs;
      few = omega (arith, formats_same fs, few, first.grown);
      more = omega (arith, formats_same fs, first.grown);
      listed = listed_equal fs;
    }

-- a branch that leaves early
pub exit_piece : {n : ℕ} {d e : Draft} {P : List Placed → ℕ → Type 0} → draft_noted e ≡ draft_noted d → HasFew d →
    EmittedWithExits d.out e.out d.exits.items e.exits.items P → size e.out.operators ≤ size d.out.operators + n → Emits n d e (λ later qs target. P qs target)
exit_piece {n} {d} {e} {P} fs few h short = record {
  code = weaker_exits (λ qs target. (later : Later) → DraftAgrees (draft_noted e) later → P qs target) h (λ qs target hi p later f. p);
  short = short;
  notes = grows_equal fs;
  few = omega (arith, formats_same fs, few, h.grown);
  more = omega (arith, formats_same fs, h.grown);
  listed = listed_equal fs;
}

-- ---- one after the other

pub emits_then : {m n : ℕ} {a b c : Draft} {P Q : Later → List Placed → ℕ → Type 0} → Emits m a b P → Emits n b c Q →
    Emits (m + n) a c (λ later qs target. P later qs target × Q later qs target)
emits_then {m} {n} {a} {b} {c} {P} {Q} e f =
    let P' : List Placed → ℕ → Type 0 = λ qs target. (later : Later) → DraftAgrees (draft_noted b) later → P later qs target in
    let Q' : List Placed → ℕ → Type 0 = λ qs target. (later : Later) → DraftAgrees (draft_noted c) later → Q later qs target in
    record {
      code =
          weaker_exits (λ qs target. (later : Later) → DraftAgrees (draft_noted c) later → P later qs target × Q later qs target)
          (then_exits a.out b.out c.out P' Q' a.exits.items b.exits.items c.exits.items e.code f.code)
          (λ qs target hi pq later k. (pq.0 later (agrees_front f.notes k), pq.1 later k));
      short = omega (arith, e.short, f.short);
      notes = grows_then e.code.grown e.notes f.notes;
      few = f.few;
      more = omega (arith, e.more, f.more);
      listed = λ l. f.listed (e.listed l);
    }

pub emits_weaker : {m n : ℕ} {a b : Draft} {P : Later → List Placed → ℕ → Type 0} (Q : Later → List Placed → ℕ → Type 0) → Emits m a b P → m ≤ n →
    ((later : Later) (qs : List Placed) (target : ℕ) → size b.out.operators ≤ target → P later qs target → Q later qs target) → Emits n a b Q
emits_weaker {m} {n} {a} {b} {P} Q e le f = record {
  code =
      weaker_exits (λ qs target. (later : Later) → DraftAgrees (draft_noted b) later → Q later qs target) e.code
      (λ qs target hi p later k. f later qs target hi (p later k));
  short = omega (arith, e.short, le);
  notes = e.notes;
  few = e.few;
  more = e.more;
  listed = e.listed;
}

-- nothing was added
pub emits_none : (a : Draft) → HasFew a → Emits 0 a a (λ later qs target. Unit {0})
emits_none a few = record {
  code = record {
    level = refl;
    grown = omega arith;
    kept = λ at level next op lo hi s. s;
    exits = [];
    added = sym (append-nil a.exits.items);
    are = tt;
    claimed = λ qs target hi l later k. tt;
  };
  short = omega arith;
  notes = grows_equal refl;
  few = few;
  more = omega arith;
  listed = λ l. l;
}

-- ---- branches that are aimed

-- the exits that were added go to the place after the code
pub closed : {n : ℕ} {a b c : Draft} {P : Later → List Placed → ℕ → Type 0} → Emits n a b P → Aimed (drop (length a.exits.items) b.exits.items) b.out c.out →
    c.exits.items ≡ take (length a.exits.items) b.exits.items → draft_noted c ≡ draft_noted b →
    Emits n a c (λ later qs target. P later qs (size b.out.operators))
closed {n} {a} {b} {c} {P} e g es fs =
    let P' : List Placed → ℕ → Type 0 = λ qs target. (later : Later) → DraftAgrees (draft_noted b) later → P later qs target in
    let xs = a.exits.items in
    let there : Emitted a.out c.out (λ qs. P' qs (size b.out.operators)) = all_aimed a.out b.out c.out P' xs b.exits.items e.code g in
    let back : c.exits.items ≡ xs = es ∙ ap (take (length xs)) e.code.added ∙ take_at xs e.code.exits (length xs) refl in
    let E : List ℕ → Type 0 = λ ys. EmittedWithExits a.out c.out xs ys (λ qs target. P' qs (size b.out.operators)) in
    record {
      code =
          weaker_exits (λ qs target. (later : Later) → DraftAgrees (draft_noted c) later → P later qs (size b.out.operators))
          (subst E (sym back) (no_exits xs there))
          (λ qs target hi p later k. p later (agrees_same fs k));
      short = omega (arith, e.short, g.place);
      notes = grows_then e.code.grown e.notes (grows_equal {n = size b.out.operators} fs);
      few = omega (arith, e.few, formats_same fs, g.place);
      more = omega (arith, e.more, formats_same fs, g.place);
      listed = λ l. listed_equal fs (e.listed l);
    }

-- branches of code before go to the place after it
pub hole_closed : (m : ℕ) {n : ℕ} {a b c d : Draft} {holes : List ℕ} {P : List Placed → ℕ → Type 0} {Q : Later → List Placed → ℕ → Type 0} →
    EmittedWithExits a.out b.out [] holes P → size b.out.operators ≤ size a.out.operators + m → b.exits.items ≡ a.exits.items → draft_noted b ≡ draft_noted a →
    Emits n b c Q → Aimed holes c.out d.out → d.exits.items ≡ c.exits.items → draft_noted d ≡ draft_noted c →
    Emits (m + n) a d (λ later qs target. P qs (size c.out.operators) × Q later qs target)
hole_closed m {n} {a} {b} {c} {d} {holes} {P} {Q} e wide es fs f g es' fs' =
    let Q' : List Placed → ℕ → Type 0 = λ qs target. (later : Later) → DraftAgrees (draft_noted c) later → Q later qs target in
    let C : List Placed → ℕ → Type 0 = λ qs target. P qs (size c.out.operators) × Q' qs target in
    let X : List ℕ → Type 0 = λ xs. EmittedWithExits a.out d.out xs c.exits.items C in
    let Y : List ℕ → Type 0 = λ ys. EmittedWithExits a.out d.out a.exits.items ys C in
    let there : EmittedWithExits a.out d.out a.exits.items d.exits.items C =
    subst Y (sym es') (subst X es (aimed_later a.out b.out c.out d.out P Q' holes b.exits.items c.exits.items e f.code g)) in
    record {
      code =
          weaker_exits (λ qs target. (later : Later) → DraftAgrees (draft_noted d) later → P qs (size c.out.operators) × Q later qs target) there
          (λ qs target hi p later k. (p.0, p.1 later (agrees_same fs' k)));
      short = omega (arith, wide, f.short, g.place);
      notes = grows_then e.grown (grows_equal {n = size a.out.operators} fs)
          (grows_then f.code.grown f.notes (grows_equal {n = size c.out.operators} fs'));
      few = omega (arith, f.few, formats_same fs', g.place);
      more = omega (arith, f.more, formats_same fs, formats_same fs', g.place, e.grown);
      listed = λ l. listed_equal fs' (f.listed (listed_equal fs l));
    }

-- the exits of code are branches, among those of the whole
pub exits_there : {n : ℕ} {a b : Draft} {P : Later → List Placed → ℕ → Type 0} → Emits n a b P → (length a.exits.items ≤ length b.exits.items)
    × AreExits b.out.operators (drop (length a.exits.items) b.exits.items) 0 (size b.out.operators)
exits_there {n} {a} {b} e =
    let xs = a.exits.items in
    let are : drop (length xs) b.exits.items ≡ e.code.exits = ap (drop (length xs)) e.code.added ∙ drop_at xs e.code.exits (length xs) refl in
    let A : List ℕ → Type 0 = λ es. AreExits b.out.operators es 0 (size b.out.operators) in (
      omega (arith, ap length e.code.added, length-append xs e.code.exits),
      subst A (sym are)
          (exits_kept b.out.operators b.out.operators e.code.exits (size a.out.operators) (size b.out.operators) 0 (size b.out.operators) (omega arith) (omega arith)
          (λ at level next old kind lo hi s. (old, s)) e.code.are),
    )

-- a branch that is to be aimed later stands where it stood
pub hole_there : (holes : List ℕ) (a : Draft) {n : ℕ} {b c : Draft} {P : List Placed → ℕ → Type 0} {Q : Later → List Placed → ℕ → Type 0} →
    EmittedWithExits a.out b.out [] holes P → Emits n b c Q → AreExits c.out.operators holes 0 (size c.out.operators)
hole_there holes a {n} {b} {c} e f =
    let A : List ℕ → Type 0 = λ es. AreExits c.out.operators es 0 (size c.out.operators) in
    subst A (sym e.added)
    (exits_kept b.out.operators c.out.operators e.exits (size a.out.operators) (size b.out.operators) 0 (size c.out.operators) (omega arith) f.code.grown
    (λ at level next old kind lo hi s. (old, f.code.kept at level next (Branch kind old) (omega arith) hi s)) e.are)
