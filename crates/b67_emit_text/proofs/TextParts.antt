-- A text where its code is emitted, with its level, its result's cell, its declarations and its statements as they are found.
use Rattle.std.proofs.Common.{◌≡◌, ℕ, ◌+◌, ◌≤◌, Option, List, sym, subst}
use Rattle.algol_tree.specs.Plain.{PDecls, PStmts}
use Rattle.b67_segment.specs.declared.TheConstants.{MOST_SEGMENT_SYLLABLES}
use Rattle.b67_segment.specs.declared.code.Format.{Format}
use Rattle.b67_segment.specs.declared.code.Segment.{Segment}
use Rattle.b67_emit_stmt.specs.declared.draft.Known.{Known}
use Rattle.b67_emit_stmt.specs.Bodies.{HaveInside, IsSmallBlock}
use Rattle.b67_emit_stmt.specs.Lengths.{celled_in}
use Rattle.b67_emit_text.specs.Codes.{CodeIsMade, IsNear, segment_syllables, zeros_for}
use Rattle.b67_emit_text.specs.Segments.{TextCanStand, IsMadeOf, code_syllables, returned_in}
use Rattle.b67_emit_text.specs.Texts.{Text}

module _ (t : Text) (returned : Option ℕ) (level : ℕ) (ds : PDecls) (ss : PStmts) (returned_is : returned ≡ returned_in t) (level_is : level ≡ t.level) (ds_are : ds ≡ t.decls)
    (ss_are : ss ≡ t.stmts) where
  -- what holds of the text's own holds of them
  found : (P : Option ℕ → ℕ → PDecls → PStmts → Type 0) → P (returned_in t) t.level t.decls t.stmts → P returned level ds ss
  found P h =
      subst (λ r. P r level ds ss) (sym returned_is)
      (subst (λ l. P (returned_in t) l ds ss) (sym level_is) (subst (λ xs. P (returned_in t) t.level xs ss) (sym ds_are) (subst (λ ys. P (returned_in t) t.level t.decls ys) (sym ss_are) h)))

  own : (P : Option ℕ → ℕ → PDecls → PStmts → Type 0) → P returned level ds ss → P (returned_in t) t.level t.decls t.stmts
  own P h =
      subst (λ r. P r t.level t.decls t.stmts) returned_is
      (subst (λ l. P returned l t.decls t.stmts) level_is (subst (λ xs. P returned level xs t.stmts) ds_are (subst (λ ys. P returned level ds ys) ss_are h)))

  module _ (s : Known) (can : TextCanStand s t) where
    pub cell_found : IsNear returned
    cell_found = found (λ r l xs ys. IsNear r) can.cell

    pub small_found : IsSmallBlock (zeros_for returned ds) ds (celled_in s ds ss)
    small_found = found (λ r l xs ys. IsSmallBlock (zeros_for r xs) xs (celled_in s xs ys)) can.small

    pub fits_found : HaveInside s level ds ss
    fits_found = found (λ r l xs ys. HaveInside s l xs ys) can.fits

    pub room_found : segment_syllables s level returned ds ss + 5 ≤ MOST_SEGMENT_SYLLABLES
    room_found = found (λ r l xs ys. segment_syllables s l r xs ys + 5 ≤ MOST_SEGMENT_SYLLABLES) can.room

    pub segment_own : (segment : Segment) (formats : List Format) → CodeIsMade s level returned ds ss segment formats → IsMadeOf s t segment formats
    segment_own segment formats made = own (λ r l xs ys. CodeIsMade s l r xs ys segment formats) made

  pub short_own : (s : Known) (n : ℕ) → n ≤ segment_syllables s level returned ds ss + 5 → n ≤ code_syllables s t + 5
  short_own s n le = own (λ r l xs ys. n ≤ segment_syllables s l r xs ys + 5) le
