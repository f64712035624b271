-- What the code of a text needs that has a head.
use Rattle.std.proofs.Common.{arith, ◌≡◌, ◌∙◌, ℕ, ◌+◌, ◌*◌, ◌≤◌, List, [], ◌∷◌, length, map, sym, ap, subst}
use Rattle.std.specs.Prelude.{Option}
use Rattle.std.specs.List.{AllByRecursion}
use Rattle.std.proofs.lemmas.List.{length-map}
use Rattle.algol_tree.specs.Plain.{PDecls, PExpr, PStmts}
use Rattle.b67_ops.specs.declared.TheConstants.{MOST_LEVEL, OUTER_LEVEL}
use Rattle.b67_segment.specs.declared.TheConstants.{MOST_SEGMENT_SYLLABLES}
use Rattle.b67_emit_stmt.specs.declared.draft.Draft.{Draft}
use Rattle.b67_emit_stmt.specs.declared.draft.Known.{Known}
use Rattle.b67_emit_stmt.specs.Bodies.{HaveInside}
use Rattle.b67_emit_stmt.specs.Drafts.{IsReady}
use Rattle.b67_emit_stmt.proofs.Matched.{ready_less}
use Rattle.b67_emit_text.specs.declared.entries.Declared.{Declared}
use Rattle.b67_emit_text.specs.Codes.{segment_syllables, text_syllables}
use Rattle.b67_emit_text.specs.Entries.{AllLow, DeclaredLabel, IsLeveled, entries_of, entry_of}
use Rattle.b67_emit_text.proofs.Entered.{entries_leveled, fit_all_low}

-- as many entries as are gathered
entries_many : (found : List Declared) → length (map entry_of found) ≡ length found
entries_many found = length-map found entry_of

pub none_celled : (found es : List PExpr) → found ≡ es → length found ≡ 0 → es ≡ []
none_celled [] es are none = sym are
none_celled (x ∷ xs) es are none = absurd (omega (arith, none))

module _ (s : Known) (level : ℕ) (returned : Option ℕ) (ds : PDecls) (ss : PStmts) (found : List Declared) (are : map entry_of found ≡ entries_of level ds ss) where
  pub found_many : length found ≡ length (entries_of level ds ss)
  found_many = sym (entries_many found) ∙ ap (λ (l : List DeclaredLabel). length l) are

  -- there is room for the head
  pub head_room : (a : Draft) → IsReady s a (segment_syllables s level returned ds ss) → 3 + 3 * length found ≤ MOST_SEGMENT_SYLLABLES
  head_room a ready = omega (arith, found_many, ready.room)

  pub found_leveled : OUTER_LEVEL ≤ level → level ≤ MOST_LEVEL → AllLow level ss → AllByRecursion IsLeveled (map entry_of found)
  found_leveled outer most low = let L : List DeclaredLabel → Type 0 = λ l. AllByRecursion IsLeveled l in subst L (sym are) (entries_leveled level ds ss outer most low)

  pub head_wide : (n : ℕ) → n ≡ 3 + 3 * length found → n ≡ 3 + 3 * length (map entry_of found)
  head_wide n is = omega (arith, is, entries_many found)

-- what fits is low
pub low_inside : (s : Known) (level : ℕ) (ds : PDecls) (ss : PStmts) → HaveInside s level ds ss → AllLow level ss
low_inside s level ds ss fits = fit_all_low s fits.0 level fits.0.block ss fits.2.2

-- there is room without a head
pub bare_ready : (s : Known) (level : ℕ) (returned : Option ℕ) (ds : PDecls) (ss : PStmts) (a : Draft) → IsReady s a (segment_syllables s level returned ds ss) →
    IsReady s a (text_syllables s returned ds ss)
bare_ready s level returned ds ss a ready = ready_less s a (segment_syllables s level returned ds ss) (text_syllables s returned ds ss) ready (omega arith)
