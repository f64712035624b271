-- The level at which code is added: it stays as it is, or is set for a while and set back.
use Rattle.std.proofs.Common.{◌≡◌, ℕ, List, Option, refl, sym, ◌∙◌, subst}
use Rattle.b67_segment.specs.Operators.{Placed}
use Rattle.b67_segment.specs.Building.{Built}
use Rattle.b67_emit_stmt.specs.declared.draft.Draft.{Draft}
use Rattle.b67_emit_stmt.specs.Places.{Later}
use Rattle.b67_emit_stmt.specs.Drafts.{Emits, DraftIsAt}

pub at_same : {level : ℕ} (a b : Draft) → b.out.level ≡ a.out.level → DraftIsAt level a → DraftIsAt level b
at_same a b e h = record { set = e ∙ h.set; outer = h.outer }

pub at_after : {n level : ℕ} {a b : Draft} {P : Later → List Placed → ℕ → Type 0} → Emits n a b P → DraftIsAt level a → DraftIsAt level b
at_after {n} {level} {a} {b} e h = at_same a b e.code.level h

-- code that was added while another level was set
pub set_back : {n : ℕ} {P : Later → List Placed → ℕ → Type 0} (a d : Draft) (inner outer : Built) (level : Option ℕ) → inner ≡ record a.out { level = level } →
    outer ≡ record d.out { level = a.out.level } → Emits n (record a { out = inner }) d P → Emits n a (record d { out = outer }) P
set_back {n} {P} a d inner outer level i o h =
    let I : Built → Type 0 = λ b. Emits n (record a { out = b }) d P in
    let O : Built → Type 0 = λ b. Emits n a (record d { out = b }) P in
    let e : Emits n (record a { out = record a.out { level = level } }) d P = subst I i h in
    let back : Built = record d.out { level = a.out.level } in
    let there : Emits n a (record d { out = back }) P = record {
      code = record {
        level = refl;
        grown = e.code.grown;
        kept = e.code.kept;
        exits = e.code.exits;
        added = e.code.added;
        are = e.code.are;
        claimed = e.code.claimed;
      };
      short = e.short;
      notes = e.notes;
      few = e.few;
      more = e.more;
      listed = e.listed;
    } in
    subst O (sym o) there
