-- Branches that are aimed after a loop's body or after the first part of an IF.
use Rattle.std.proofs.Common.{◌≡◌, ℕ, ◌≤◌, List, [], ◌∷◌, length, take, drop, sym, subst, arith}
use Rattle.algol_tree.specs.Plain.{PStmt}
use Rattle.b67_emit_stmt.specs.Places.{Later, Place, StmtAt}
use Rattle.b67_ops.specs.declared.BranchKind.{BranchKind}
use Rattle.b67_segment.specs.Operators.{Placed, size}
use Rattle.b67_segment.specs.Building.{Built, level_set}
use Rattle.b67_templates.specs.Fragments.{BranchAt}
use Rattle.b67_emit_stmt.specs.Lengths.{stmt_syllables}
use Rattle.b67_templates.specs.Emitting.{AreExits, EmittedWithExits}
use Rattle.b67_emitter.specs.Aiming.{Aimed}
use Rattle.b67_emit_stmt.specs.declared.draft.Draft.{Draft}
use Rattle.b67_emit_stmt.specs.declared.draft.Known.{Known}
use Rattle.b67_emit_stmt.specs.Drafts.{Emits, draft_noted}
use Rattle.b67_emit_stmt.proofs.Arms.{Closed, Stands}
use Rattle.b67_emit_stmt.proofs.Drafts.{closed, emits_weaker, exits_there}

-- the exits of a body go to the place after it
pub body_closed : (s : Known) (sc : Place) (level : ℕ) (x : PStmt) (a b d : Draft) (first : ℕ) → first ≡ length a.exits.items → Emits (stmt_syllables s x) a b (Stands sc level x a b) →
    Aimed (drop first b.exits.items) b.out d.out → d.exits.items ≡ take first b.exits.items → draft_noted d ≡ draft_noted b →
    Emits (stmt_syllables s x) a d (Closed sc level x a d)
body_closed s sc level x a b d first is h aimed es fs =
    let A : ℕ → Type 0 = λ n. Aimed (drop n b.exits.items) b.out d.out in
    let E : ℕ → Type 0 = λ n. d.exits.items ≡ take n b.exits.items in
    let S : Later → List Placed → ℕ → Type 0 = λ later qs at. StmtAt sc later qs level x (size a.out.operators) at at in
    let there = subst A is aimed in
    emits_weaker (Closed sc level x a d) (closed h there (subst E is es) fs) (omega arith)
    (λ later qs target hi p. subst (S later qs) (sym there.place) p)

-- the exits that were added can be aimed
pub exits_lie : {n : ℕ} {P : Later → List Placed → ℕ → Type 0} (a b : Draft) (first : ℕ) → first ≡ length a.exits.items → Emits n a b P →
    (first ≤ length b.exits.items) × AreExits b.out.operators (drop first b.exits.items) 0 (size b.out.operators)
exits_lie {n} {P} a b first is h =
    let lie = exits_there h in
    let A : ℕ → Type 0 = λ k. AreExits b.out.operators (drop k b.exits.items) 0 (size b.out.operators) in (omega (arith, is, lie.0), subst A (sym is) lie.1)

-- a branch that is aimed later, at the level and the place by which they are known
pub hole_as : (kind : BranchKind) (a b : Built) (level place : ℕ) → level_set a ≡ level → place ≡ size a.operators →
    EmittedWithExits a b [] (size a.operators ∷ []) (λ qs target. BranchAt qs (level_set a) kind (size a.operators) target (size b.operators)) →
    EmittedWithExits a b [] (place ∷ []) (λ qs target. BranchAt qs level kind (size a.operators) target (size b.operators))
hole_as kind a b level place q is h =
    let P : ℕ → Type 0 = λ p. EmittedWithExits a b [] (p ∷ []) (λ qs target. BranchAt qs (level_set a) kind (size a.operators) target (size b.operators)) in
    let L : ℕ → Type 0 = λ l. EmittedWithExits a b [] (place ∷ []) (λ qs target. BranchAt qs l kind (size a.operators) target (size b.operators)) in
    subst L q (subst P (sym is) h)
