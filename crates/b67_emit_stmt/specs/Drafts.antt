-- What a call that adds code to a draft promises of it.
use Rattle.std.specs.Prelude.{◌≡◌, ℕ, ◌+◌, ◌*◌, ◌<◌, ◌≤◌, ◌^◌, List, [], ◌∷◌, ◌++◌, length, map, Some, IsSome}
use Rattle.std.specs.List.{All, AllByRecursion}
use Rattle.algol_tree.specs.declared.TheConstants.{MOST_PROCEDURES}
use Rattle.algol_tree.specs.declared.token.Spot.{Spot}
use Rattle.algol_tree.specs.declared.tree.PhraseText.{PhraseText}
use Rattle.algol_tree.specs.Plain.{PStmt, PStmts}
use Rattle.b67_emit_stmt.specs.declared.draft.Known.{Known}
use Rattle.b67_ops.specs.declared.TheConstants.{OUTER_LEVEL}
use Rattle.b67_segment.specs.declared.TheConstants.{MOST_SEGMENT_SYLLABLES}
use Rattle.b67_segment.specs.declared.code.Format.{Format}
use Rattle.b67_segment.specs.Operators.{Placed, size}
use Rattle.b67_listing.specs.Listings.{IsPhrase}
use Rattle.b67_templates.specs.Emitting.{EmittedWithExits}
use Rattle.b67_emitter.specs.Values.{AreNear, meanings}
use Rattle.b67_faithful.specs.Lines.{formats_for, stmt_lines, stmts_lines}
use Rattle.b67_emit_stmt.specs.declared.draft.Draft.{Draft}
use Rattle.b67_emit_stmt.specs.declared.draft.Label.{Label}
use Rattle.b67_emit_stmt.specs.Actuals.{AreInner}
use Rattle.b67_emit_stmt.specs.Labels.{label_spots, label_spots_in}
use Rattle.b67_emit_stmt.specs.Places.{Later}

-- ---- what is noted beside the code

-- the formats of lines, and where the statements after labels begin
pub record DraftNoted : Type 0 where
  pub formats : List Format
  pub labels : List Label

abbrev pub draft_noted : Draft → DraftNoted
draft_noted d = record { formats = d.formats.items; labels = d.labels.items }

-- these are the first of those
abbrev pub IsFront : {X : Type 0} → List X → List X → Type 0
IsFront {X} xs ys = (more : List X) × (ys ≡ xs ++ more)

-- more was noted, and the statements after the labels among it begin at this place or after it
pub record NotedGrows (from : ℕ) (before after : DraftNoted) : Type 0 where
  pub formats : IsFront before.formats after.formats
  pub labels : List Label
  pub labels_are : after.labels ≡ before.labels ++ labels
  pub behind : AllByRecursion (λ (l : Label). from ≤ l.place) labels

-- what is known when all code is there agrees with what was noted so far
pub record DraftAgrees (n : DraftNoted) (later : Later) : Type 0 where
  pub formats : IsFront n.formats later.formats
  pub labels : AllByRecursion (λ (l : Label). later.labels l.spot ≡ Some l.place) n.labels

-- ---- code

-- how many formats a program has at most: the line of each has more code than a syllable
abbrev pub most_formats : ℕ
most_formats = MOST_SEGMENT_SYLLABLES * (1 + MOST_PROCEDURES)

abbrev pub HasFew : Draft → Type 0
HasFew d = length d.formats.items ≤ most_formats + size d.out.operators

-- the formats can be listed: their texts can stand between quotes
abbrev pub FormatsCanBeListed : List Format → Type 0
FormatsCanBeListed formats = All (λ (format : Format). All IsPhrase format.phrases) formats

-- The level that is set is this one, which is that of a block.
pub record DraftIsAt (level : ℕ) (d : Draft) : Type 0 where
  pub set : d.out.level ≡ Some level
  pub outer : OUTER_LEVEL ≤ level

-- A level is set, what is known of names can be spelled, the code of actuals has levels, and there is room for so many syllables.
pub record IsReady (s : Known) (d : Draft) (syllables : ℕ) : Type 0 where
  pub set : IsSome d.out.level
  pub near : AreNear s.names.now
  pub inner : AreInner (meanings s.names.now)
  pub many : length s.procedures.now ≤ MOST_PROCEDURES
  pub segment : s.segment < 2 ^ 10
  pub few : HasFew d
  pub room : size d.out.operators + syllables ≤ MOST_SEGMENT_SYLLABLES

-- At most so many syllables were added. The claim holds wherever they are kept, the exits go to that target after them, and what is known
-- later agrees with what was noted. If the formats could be listed before, they can be now.
pub record Emits (most : ℕ) (before after : Draft) (claim : Later → List Placed → ℕ → Type 0) : Type 0 where
  pub code :
      EmittedWithExits before.out after.out before.exits.items after.exits.items
      (λ qs target. (later : Later) → DraftAgrees (draft_noted after) later → claim later qs target)
  pub short : size after.out.operators ≤ size before.out.operators + most
  pub notes : NotedGrows (size before.out.operators) (draft_noted before) (draft_noted after)
  pub few : HasFew after
  -- at most one for each syllable
  pub more : length after.formats.items + size before.out.operators ≤ length before.formats.items + size after.out.operators
  pub listed : FormatsCanBeListed before.formats.items → FormatsCanBeListed after.formats.items

-- ---- exactly what was noted

abbrev pub spots_of : List Label → List Spot
spots_of ls = map (λ (l : Label). l.spot) ls

-- the formats of these lines and the labels that stand at these places were noted, and no other
pub record DraftAdds (before after : DraftNoted) (lines : List (List PhraseText)) (spots : List Spot) : Type 0 where
  pub formats : after.formats ≡ before.formats ++ formats_for lines
  pub labels : spots_of after.labels ≡ spots_of before.labels ++ spots

-- those of a line, of a statement, of statements
abbrev pub AddsLine : Draft → Draft → List PhraseText → Type 0
AddsLine before after phrases = DraftAdds (draft_noted before) (draft_noted after) (phrases ∷ []) []

abbrev pub AddsStmt : Draft → Draft → PStmt → Type 0
AddsStmt before after s = DraftAdds (draft_noted before) (draft_noted after) (stmt_lines s) (label_spots s)

abbrev pub AddsStmts : Draft → Draft → PStmts → Type 0
AddsStmts before after ss = DraftAdds (draft_noted before) (draft_noted after) (stmts_lines ss) (label_spots_in ss)
