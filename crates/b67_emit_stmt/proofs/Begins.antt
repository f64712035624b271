-- What a block begins with: its cells, and after them what its declarations make.
use Rattle.std.proofs.Common.{◌≡◌, ℕ, ◌+◌, ◌≤◌, ◌∙◌, List, refl, sym, subst, arith}
use Rattle.std.specs.Prelude.{Result, OnOk}
use Rattle.algol_tree.specs.Plain.{PExpr, PDecls}
use Rattle.b67_segment.specs.Operators.{size}
use Rattle.b67_segment.specs.Building.{Built, level_set}
use Rattle.b67_templates.specs.Emitting.{Emitted}
use Rattle.b67_emit_stmt.specs.declared.draft.Draft.{Draft}
use Rattle.b67_emit_stmt.specs.declared.draft.Known.{Known}
use Rattle.b67_emit_stmt.specs.Bodies.{BeginAt, EmitsBegin, EmitsCells}
use Rattle.b67_emit_stmt.specs.Drafts.{Emits, DraftIsAt}
use Rattle.b67_emit_stmt.specs.Fits.{DeclsFit}
use Rattle.b67_emit_stmt.specs.Lengths.{decls_syllables}
use Rattle.b67_emit_stmt.specs.Places.{Later, Place, DeclsAt}
use Rattle.b67_emit_stmt.specs.Lengths.{decls_syllables}
use Rattle.b67_emit_stmt.proofs.Blocks.{level_at}
use Rattle.b67_emit_stmt.proofs.Drafts.{emits_then, emits_weaker, level_after, piece}
use Rattle.b67_emit_stmt.proofs.Parts.{leveled, on_ok_two}

pub made_behind : (s : Known) (level many : ℕ) (ds : PDecls) (es : List PExpr) (ats : List ℕ) (a b : Draft) → DraftIsAt level a → EmitsCells s level a b many ds es ats → {T E : Type 0} (r : Result T E) (e : Built) →
    OnOk r
    ((sc : Place) (later : Later) → DeclsFit sc s (level_set b.out) ds →
    Emitted b.out e (λ qs. DeclsAt sc later qs (level_set b.out) ds (size b.out.operators) (size e.operators))) →
    OnOk r (size e.operators ≤ size b.out.operators + decls_syllables s ds) → OnOk r (EmitsBegin s level a (record b { out = e }) many ds es ats)
made_behind s level many ds es ats a b at cells {T} {E} r e arrays short =
    let d : Draft = record b { out = e } in
    on_ok_two r
    (λ code wide sc actuals same are numbered fit.
    let front = cells sc actuals same are numbered in
    let q : level_set b.out ≡ level = level_after front ∙ level_at a at in
    let F : ℕ → Type 0 = λ l. DeclsFit sc s l ds in
    let behind : Emits (decls_syllables s ds) b d (λ later qs target. DeclsAt sc later qs level ds (size b.out.operators) (size e.operators)) =
    piece {n = decls_syllables s ds} {d = b} {e = d} refl refl front.few
    (λ later. leveled (λ l qs. DeclsAt sc later qs l ds (size b.out.operators) (size e.operators)) level q (code sc later (subst F (sym q) fit))) wide in
    emits_weaker (λ later qs target. BeginAt sc later qs level many ds actuals ats (size a.out.operators) (size e.operators)) (emits_then front behind) (omega arith)
    (λ later qs target hi p. (size b.out.operators, p.0, p.1)))
    arrays short
