-- What one line does, whatever lines come after it.
use Rattle.std.proofs.Common.{◌≡◌, ℕ, ◌+◌, ◌≤◌, ◌<◌, Bool, true, false, List, [], ◌∷◌, ◌++◌, length, get_or, drop, Option, Some, None, Result, Ok, refl, sym, ap, ◌∙◌, subst, append_assoc}
use Rattle.std.proofs.lemmas.Bool.{cond-true, cond-false}
use Rattle.std.proofs.lemmas.List.{drop_more}
use Rattle.b67_ops.specs.declared.Operator.{Operator as Op}
use Rattle.b67_segment.specs.declared.TheConstants.{MOST_SEGMENT_SYLLABLES}
use Rattle.b67_segment.specs.declared.code.Segment.{Segment as Made}
use Rattle.b67_segment.specs.Operators.{Placed, size, filled}
use Rattle.b67_segment.specs.Building.{Built}
use Rattle.b67_segment.specs.Syllables.{Spells}
use Rattle.b67_asm_text.specs.declared.item.Written.{Written}
use Rattle.b67_asm_text.specs.declared.item.Reading.{Reading}
use Rattle.b67_asm_text.specs.declared.item.Reading.TheVariants.{Blank, NoItem, Segment, Level, Label, Operator, Format}
use Rattle.b67_asm.specs.declared.label.Standing.{Standing}
use Rattle.b67_asm.specs.declared.refusal.Rule.{Rule}
use Rattle.b67_asm.specs.declared.refusal.Rule.TheVariants.{BadLine, Range}
use Rattle.b67_asm.specs.declared.refusal.NotAssembled.TheVariants.{Refused}
use Rattle.b67_asm.specs.Labels.{place_after}
use Rattle.b67_asm.specs.Rules.{Inside, broken_before, broken_in, first_before, first_in, is_segment, label_broken, line_moved, or_next, resolved}
use Rattle.b67_asm.specs.Assembling.{AreCode, operators_from, segments_from, with_operator}
use Rattle.b67_asm.specs.Steps.{HasBlockLevel, HasTaken, IsBlockLevel, RefusesLine, inside_of}

-- the lines from one on
pub line_at : (lines : List Reading) (at : ℕ) (reading : Reading) → at < length lines → reading ≡ get_or lines at reading → drop at lines ≡ reading ∷ drop (at + 1) lines
line_at lines at reading inside is = drop_more lines at reading inside ∙ ap (λ (r : Reading). r ∷ drop (at + 1) lines) (sym is)

-- a line that is no SEGMENT, before the first one and after it
pub before_skips : (line : ℕ) (reading : Reading) (rest : List Reading) → is_segment reading ≡ false →
    first_before line (reading ∷ rest) ≡ or_next line (broken_before reading) (first_before (line + 1) rest)
before_skips line Blank rest h = refl
before_skips line NoItem rest h = refl
before_skips line Segment rest h = absurd cc
before_skips line (Level level) rest h = refl
before_skips line (Label name) rest h = refl
before_skips line (Operator written) rest h = refl
before_skips line (Format fits) rest h = refl

pub in_skips : (inside : Inside) (line : ℕ) (reading : Reading) (rest : List Reading) → is_segment reading ≡ false →
    first_in inside line (reading ∷ rest) ≡ or_next line (broken_in inside line reading) (first_in (line_moved inside reading) (line + 1) rest)
in_skips inside line Blank rest h = refl
in_skips inside line NoItem rest h = refl
in_skips inside line Segment rest h = absurd cc
in_skips inside line (Level level) rest h = refl
in_skips inside line (Label name) rest h = refl
in_skips inside line (Operator written) rest h = refl
in_skips inside line (Format fits) rest h = refl

pub segments_skip : (line : ℕ) (reading : Reading) (rest : List Reading) → is_segment reading ≡ false → segments_from line (reading ∷ rest) ≡ segments_from (line + 1) rest
segments_skip line Blank rest h = refl
segments_skip line NoItem rest h = refl
segments_skip line Segment rest h = absurd cc
segments_skip line (Level level) rest h = refl
segments_skip line (Label name) rest h = refl
segments_skip line (Operator written) rest h = refl
segments_skip line (Format fits) rest h = refl

pub is_segment_true : (reading : Reading) → is_segment reading ≡ true → reading ≡ Segment
is_segment_true Segment h = refl
is_segment_true Blank h = absurd cc
is_segment_true NoItem h = absurd cc
is_segment_true (Level level) h = absurd cc
is_segment_true (Label name) h = absurd cc
is_segment_true (Operator written) h = absurd cc
is_segment_true (Format fits) h = absurd cc

-- ---- a line is taken, or refused

module _ (labels : List ℕ → Option Standing) (level : ℕ) (old : List Placed) (line : ℕ) (reading : Reading) where
  pub refused_by : (rule : Rule) → is_segment reading ≡ false → broken_in (inside_of labels level old) line reading ≡ Some rule →
      RefusesLine (Refused record { line = line; rule = rule }) labels level old line reading
  refused_by rule h e rest =
      in_skips (inside_of labels level old) line reading rest h
      ∙ ap (λ (b : Option Rule). or_next line b (first_in (line_moved (inside_of labels level old) reading) (line + 1) rest)) e

  pub goes_by : (inside : Inside) → is_segment reading ≡ false → broken_in (inside_of labels level old) line reading ≡ None → line_moved (inside_of labels level old) reading ≡ inside →
      (rest : List Reading) → first_in (inside_of labels level old) line (reading ∷ rest) ≡ first_in inside (line + 1) rest
  goes_by inside h e m rest =
      in_skips (inside_of labels level old) line reading rest h
      ∙ ap (λ (b : Option Rule). or_next line b (first_in (line_moved (inside_of labels level old) reading) (line + 1) rest)) e
      ∙ ap (λ (i : Inside). first_in i (line + 1) rest) m

-- a line that breaks a rule
module _ (labels : List ℕ → Option Standing) (level : ℕ) (old : List Placed) (line : ℕ) (reading : Reading) where
  pub no_item_refused : reading ≡ NoItem → RefusesLine (Refused record { line = line; rule = BadLine }) labels level old line reading
  no_item_refused is =
      subst (λ (r : Reading). RefusesLine (Refused record { line = line; rule = BadLine }) labels level old line r) (sym is)
      (refused_by labels level old line NoItem BadLine refl refl)

  pub format_refused : (fits : Bool) → reading ≡ Format fits → fits ≡ false → RefusesLine (Refused record { line = line; rule = Range }) labels level old line reading
  format_refused fits is wide =
      subst (λ (r : Reading). RefusesLine (Refused record { line = line; rule = Range }) labels level old line r) (sym is)
      (refused_by labels level old line (Format fits) Range refl (cond-false fits None (Some Range) wide))

  pub label_refused : (name : List ℕ) (found : Option Standing) (rule : Rule) → reading ≡ Label name → found ≡ labels name → Some rule ≡ label_broken line found →
      RefusesLine (Refused record { line = line; rule = rule }) labels level old line reading
  label_refused name found rule is f e =
      subst (λ (r : Reading). RefusesLine (Refused record { line = line; rule = rule }) labels level old line r) (sym is)
      (refused_by labels level old line (Label name) rule refl (ap (label_broken line) (sym f) ∙ sym e))

-- a line that is taken
module _ (labels : List ℕ → Option Standing) (level : ℕ) (b : Built) (line : ℕ) (known : b.level ≡ Some level) (block : IsBlockLevel level) (room : size b.operators ≤ MOST_SEGMENT_SYLLABLES) where
  -- it leaves its segment as it is
  stays : (reading : Reading) → is_segment reading ≡ false → broken_in (inside_of labels level b.operators) line reading ≡ None →
      line_moved (inside_of labels level b.operators) reading ≡ inside_of labels level b.operators →
      ((rest : List Reading) → operators_from labels level (reading ∷ rest) ≡ operators_from labels level rest) → HasTaken labels level b b line reading level
  stays reading plain none same adds = record {
    level_is = known;
    block = block;
    room = room;
    takes =
        λ rest. (
          goes_by labels level b.operators line reading (inside_of labels level b.operators) plain none same rest,
          ap (λ (ps : List Placed). b.operators ++ ps) (adds rest),
        );
  }

  pub other_taken : (reading : Reading) → (reading ≡ NoItem → ⊥) → ((next : ℕ) → reading ≡ Level next → ⊥) → ((name : List ℕ) → reading ≡ Label name → ⊥) →
      ((written : Written) → reading ≡ Operator written → ⊥) → ((fits : Bool) → reading ≡ Format fits → ⊥) → is_segment reading ≡ false → HasTaken labels level b b line reading level
  other_taken Blank no_item no_level no_label no_operator no_format plain = stays Blank refl refl refl (λ rest. refl)
  other_taken NoItem no_item no_level no_label no_operator no_format plain = absurd (no_item refl)
  other_taken Segment no_item no_level no_label no_operator no_format plain = absurd cc
  other_taken (Level next) no_item no_level no_label no_operator no_format plain = absurd (no_level next refl)
  other_taken (Label name) no_item no_level no_label no_operator no_format plain = absurd (no_label name refl)
  other_taken (Operator written) no_item no_level no_label no_operator no_format plain = absurd (no_operator written refl)
  other_taken (Format fits) no_item no_level no_label no_operator no_format plain = absurd (no_format fits refl)

  pub format_taken : (reading : Reading) (fits : Bool) → reading ≡ Format fits → fits ≡ true → HasTaken labels level b b line reading level
  format_taken reading fits is within =
      subst (λ (r : Reading). HasTaken labels level b b line r level) (sym is)
      (stays (Format fits) refl (cond-true fits None (Some Range) within) refl (λ rest. refl))

  pub label_taken : (reading : Reading) (name : List ℕ) (found : Option Standing) → reading ≡ Label name → found ≡ labels name → None ≡ label_broken line found →
      HasTaken labels level b b line reading level
  label_taken reading name found is f e =
      subst (λ (r : Reading). HasTaken labels level b b line r level) (sym is)
      (stays (Label name) refl (ap (label_broken line) (sym f) ∙ sym e) refl (λ rest. refl))

  pub level_taken : (reading : Reading) (next : ℕ) (new : Built) → reading ≡ Level next → HasBlockLevel reading → new ≡ record b { level = Some next } →
      HasTaken labels level b new line reading next
  level_taken reading next new is has e =
      subst (λ (r : Reading). HasTaken labels level b new line r next) (sym is)
      (subst (λ (n : Built). HasTaken labels level b n line (Level next) next) (sym e)
      (record {
        level_is = refl;
        block = subst HasBlockLevel is has;
        room = room;
        takes = λ rest. (refl, refl);
      }))

-- ---- an operator is taken

abbrev at_place : (List ℕ → Option Standing) → ℕ → ℕ → Inside
at_place labels level place = record { labels = labels; level = level; place = place }

pub operator_taken : (labels : List ℕ → Option Standing) (level : ℕ) (old new : Built) (line : ℕ) (written : Written) (operator : Op) →
    resolved labels level written ≡ Ok operator → place_after (size old.operators) written ≤ MOST_SEGMENT_SYLLABLES →
    new.operators ≡ old.operators ++ record { level = level; operator = operator } ∷ [] → size new.operators ≡ place_after (size old.operators) written →
    new.level ≡ Some level → IsBlockLevel level → broken_in (inside_of labels level old.operators) line (Operator written) ≡ None →
    HasTaken labels level old new line (Operator written) level
operator_taken labels level old new line written operator r room e place l block none = record {
  level_is = l;
  block = block;
  room = subst (λ (k : ℕ). k ≤ MOST_SEGMENT_SYLLABLES) (sym place) room;
  takes =
      λ rest.
      let p : Placed = record { level = level; operator = operator } in
      let inside : line_moved (inside_of labels level old.operators) (Operator written) ≡ inside_of labels level new.operators =
      ap (at_place labels level) (sym place) in
      let added : operators_from labels level (Operator written ∷ rest) ≡ p ∷ operators_from labels level rest =
      ap (λ (o : Result Op Rule). with_operator level o (operators_from labels level rest)) r in (
        goes_by labels level old.operators line (Operator written) (inside_of labels level new.operators) refl none inside rest,
        ap (λ (ps : List Placed). old.operators ++ ps) added
            ∙ sym (append_assoc old.operators (p ∷ []) (operators_from labels level rest))
            ∙ ap (λ (ps : List Placed). ps ++ operators_from labels level rest) (sym e),
      );
}

-- ---- segments one after another

pub code_more : (operators : List (List Placed)) (segments : List Made) (ps : List Placed) (segment : Made) → AreCode operators segments → Spells (filled ps) segment →
    AreCode (operators ++ ps ∷ []) (segments ++ segment ∷ [])
code_more [] [] ps segment h s = (s, tt)
code_more [] (x ∷ xs) ps segment h s = absurd h
code_more (o ∷ os) [] ps segment h s = absurd h
code_more (o ∷ os) (x ∷ xs) ps segment h s = (h.0, code_more os xs ps segment h.1 s)
