-- Segments from one SEGMENT to the next, and the lines before the first.
use Rattle.std.proofs.Common.{◌≡◌, ℕ, ◌+◌, ◌≤◌, ◌<◌, true, false, List, [], ◌∷◌, ◌++◌, length, get_or, drop, Option, Some, None, refl, sym, ap, ◌∙◌, subst, arith, append_assoc}
use Rattle.std.proofs.Math.Path.{fun_ext}
use Rattle.std.proofs.lemmas.Bool.{cond-true, cond-false}
use Rattle.std.proofs.lemmas.List.{append-nil, drop_more, drop_all}
use Rattle.b67_ops.specs.declared.TheConstants.{OUTER_LEVEL}
use Rattle.b67_segment.specs.declared.TheConstants.{MOST_SEGMENT_SYLLABLES}
use Rattle.b67_segment.specs.declared.code.Segment.{Segment as Made}
use Rattle.b67_segment.specs.Operators.{Placed, filled, size}
use Rattle.b67_segment.specs.Building.{Built}
use Rattle.b67_segment.specs.Syllables.{Spells}
use Rattle.b67_asm_text.specs.declared.item.Reading.{Reading}
use Rattle.b67_asm_text.specs.declared.item.Reading.TheVariants.{Blank, Segment}
use Rattle.b67_asm.specs.declared.label.Standing.{Standing}
use Rattle.b67_asm.specs.declared.refusal.Rule.{Rule}
use Rattle.b67_asm.specs.declared.refusal.Rule.TheVariants.{EmptySegment}
use Rattle.b67_asm.specs.declared.refusal.Refusal.{Refusal}
use Rattle.b67_asm.specs.Labels.{labels_from, label_named}
use Rattle.b67_asm.specs.Rules.{Inside, segment_begun, broken_before, first_before, first_in, is_empty, is_segment, nowhere, or_next}
use Rattle.b67_asm.specs.declared.refusal.NotAssembled.{NotAssembled}
use Rattle.b67_asm.specs.Assembling.{AreCode, IsFirst, operators_from, segments_from}
use Rattle.b67_asm.specs.Steps.{AtSegment, HasPassed, HasRead, HasRest, HasTaken, HasTakenLines, IsBlockLevel, RefusesLine, inside_of}
use Rattle.b67_asm.proofs.Lines.{line_at, before_skips, segments_skip, is_segment_true, code_more}

-- what a refusal is the first of
pub first_as : (e : NotAssembled) {first other : Option Refusal} → first ≡ other → IsFirst e other → IsFirst e first
first_as e same is = subst (IsFirst e) (sym same) is

-- ---- where a SEGMENT stands, or no line is left

module _ (lines : List Reading) (at : ℕ) where
  pub at_segment : (reading : Reading) → at < length lines → reading ≡ get_or lines at reading → is_segment reading ≡ true → AtSegment (drop at lines)
  at_segment reading inside is stops = subst AtSegment (sym (line_at lines at reading inside is)) stops

  pub at_end : length lines ≤ at → AtSegment (drop at lines)
  at_end past = subst AtSegment (sym (drop_all at lines past)) tt

  pub begins_here : at < length lines → AtSegment (drop at lines) → drop at lines ≡ Segment ∷ drop (at + 1) lines
  begins_here inside stops =
      let here = drop_more lines at Blank inside in
      let first : is_segment (get_or lines at Blank) ≡ true = subst AtSegment here stops in
      here ∙ ap (λ (r : Reading). r ∷ drop (at + 1) lines) (is_segment_true (get_or lines at Blank) first)

stop_in : (inside other : Inside) (line : ℕ) (rest : List Reading) → AtSegment rest → first_in inside line rest ≡ first_in other line rest
stop_in inside other line [] stops = refl
stop_in inside other line (reading ∷ rest) stops =
    subst (λ (r : Reading). first_in inside line (r ∷ rest) ≡ first_in other line (r ∷ rest)) (sym (is_segment_true reading stops)) refl

stop_before : (line : ℕ) (rest : List Reading) → AtSegment rest → first_before line rest ≡ first_in nowhere line rest
stop_before line [] stops = refl
stop_before line (reading ∷ rest) stops =
    subst (λ (r : Reading). first_before line (r ∷ rest) ≡ first_in nowhere line (r ∷ rest)) (sym (is_segment_true reading stops)) refl

stop_operators : (labels : List ℕ → Option Standing) (level : ℕ) (rest : List Reading) → AtSegment rest → operators_from labels level rest ≡ []
stop_operators labels level [] stops = refl
stop_operators labels level (reading ∷ rest) stops =
    subst (λ (r : Reading). operators_from labels level (r ∷ rest) ≡ []) (sym (is_segment_true reading stops)) refl

-- ---- the lines before the first SEGMENT

module _ (lines : List Reading) (at : ℕ) (reading : Reading) (inside : at < length lines) (is : reading ≡ get_or lines at reading) (plain : is_segment reading ≡ false) where
  pub head_more : broken_before reading ≡ None → first_before (at + 1) (drop at lines) ≡ first_before (at + 1 + 1) (drop (at + 1) lines)
  head_more none =
      ap (first_before (at + 1)) (line_at lines at reading inside is)
      ∙ before_skips (at + 1) reading (drop (at + 1) lines) plain
      ∙ ap (λ (b : Option Rule). or_next (at + 1) b (first_before (at + 1 + 1) (drop (at + 1) lines))) none

  pub head_broken : (rule : Rule) → broken_before reading ≡ Some rule → first_before (at + 1) (drop at lines) ≡ Some record { line = at + 1; rule = rule }
  head_broken rule some =
      ap (first_before (at + 1)) (line_at lines at reading inside is)
      ∙ before_skips (at + 1) reading (drop (at + 1) lines) plain
      ∙ ap (λ (b : Option Rule). or_next (at + 1) b (first_before (at + 1 + 1) (drop (at + 1) lines))) some

  pub segments_more : segments_from (at + 1) (drop at lines) ≡ segments_from (at + 1 + 1) (drop (at + 1) lines)
  segments_more =
      ap (segments_from (at + 1)) (line_at lines at reading inside is)
      ∙ segments_skip (at + 1) reading (drop (at + 1) lines) plain

pub has_passed : (lines : List Reading) (at : ℕ) → at ≤ length lines → AtSegment (drop at lines) → first_before 1 lines ≡ first_before (at + 1) (drop at lines) →
    segments_from 1 lines ≡ segments_from (at + 1) (drop at lines) → HasPassed lines at
has_passed lines at within stops same segments = record {
  within = within;
  stops = stops;
  same = same ∙ stop_before (at + 1) (drop at lines) stops;
  segments = segments;
}

-- ---- the lines of a segment

-- some lines of a segment were taken, which has these labels, and these operators so far
pub record Along (labels : List ℕ → Option Standing) (lines : List Reading) (from level : ℕ) (b : Built) (next : ℕ) : Type 0 where
  pub later : from ≤ next
  pub within : next ≤ length lines
  pub known : b.level ≡ Some level
  pub block : IsBlockLevel level
  pub room : size b.operators ≤ MOST_SEGMENT_SYLLABLES
  pub same : first_in (inside_of labels OUTER_LEVEL []) (from + 1) (drop from lines) ≡ first_in (inside_of labels level b.operators) (next + 1) (drop next lines)
  pub operators : operators_from labels OUTER_LEVEL (drop from lines) ≡ b.operators ++ operators_from labels level (drop next lines)
  pub segments : segments_from (from + 1) (drop from lines) ≡ segments_from (next + 1) (drop next lines)

pub along_begins : (labels : List ℕ → Option Standing) (lines : List Reading) (from : ℕ) (b : Built) → from ≤ length lines → b.level ≡ Some OUTER_LEVEL → b.operators ≡ [] →
    Along labels lines from OUTER_LEVEL b from
along_begins labels lines from b within known none = record {
  later = omega arith;
  within = within;
  known = known;
  block = (omega arith, omega arith);
  room = subst (λ (ps : List Placed). size ps ≤ MOST_SEGMENT_SYLLABLES) (sym none) (omega arith);
  same = ap (λ (ps : List Placed). first_in (inside_of labels OUTER_LEVEL ps) (from + 1) (drop from lines)) (sym none);
  operators = ap (λ (ps : List Placed). ps ++ operators_from labels OUTER_LEVEL (drop from lines)) (sym none);
  segments = refl;
}

module _ (labels : List ℕ → Option Standing) (lines : List Reading) (from level : ℕ) (b : Built) (next : ℕ) (along : Along labels lines from level b next) where
  pub along_ends : AtSegment (drop next lines) → HasTakenLines labels lines from b next
  along_ends stops = record {
    later = along.later;
    within = along.within;
    stops = stops;
    same = along.same ∙ stop_in (inside_of labels level b.operators) nowhere (next + 1) (drop next lines) stops;
    operators =
        along.operators
        ∙ ap (λ (ps : List Placed). b.operators ++ ps) (stop_operators labels level (drop next lines) stops)
        ∙ append-nil b.operators;
    segments = along.segments;
  }

  pub along_more : (reading : Reading) (new : Built) (after : ℕ) → next < length lines → reading ≡ get_or lines next reading → is_segment reading ≡ false →
      HasTaken labels level b new (next + 1) reading after → Along labels lines from after new (next + 1)
  along_more reading new after inside is plain taken =
      let here = line_at lines next reading inside is in
      let takes = taken.takes (drop (next + 1) lines) in
      record {
        later = omega (arith, along.later);
        within = omega (arith, inside);
        known = taken.level_is;
        block = taken.block;
        room = taken.room;
        same = along.same ∙ ap (first_in (inside_of labels level b.operators) (next + 1)) here ∙ takes.0;
        operators = along.operators ∙ ap (λ (ls : List Reading). b.operators ++ operators_from labels level ls) here ∙ takes.1;
        segments =
            along.segments
            ∙ ap (segments_from (next + 1)) here
            ∙ segments_skip (next + 1) reading (drop (next + 1) lines) plain;
      }

  pub along_refused : (e : NotAssembled) (reading : Reading) → next < length lines → reading ≡ get_or lines next reading → RefusesLine e labels level b.operators (next + 1) reading →
      IsFirst e (first_in (inside_of labels OUTER_LEVEL []) (from + 1) (drop from lines))
  along_refused e reading inside is refuses =
      first_as e
      (along.same ∙ ap (first_in (inside_of labels level b.operators) (next + 1)) (line_at lines next reading inside is))
      (refuses (drop (next + 1) lines))

-- ---- a whole segment

-- the refusal of a SEGMENT without operators
abbrev empty_at : ℕ → Refusal
empty_at line = record { line = line; rule = EmptySegment }

module _ (lines : List Reading) (from : ℕ) (labels : List ℕ → Option Standing) where
  abbrev pub Known : Type 0
  Known = (name : List ℕ) → labels name ≡ label_named (labels_from (from + 1) 0 (drop from lines)) name

  found : Known → label_named (labels_from (from + 1) 0 (drop from lines)) ≡ labels
  found known = fun_ext λ name. sym (known name)

  pub same_begun : Known → is_empty (drop from lines) ≡ false →
      first_in nowhere from (Segment ∷ drop from lines) ≡ first_in (inside_of labels OUTER_LEVEL []) (from + 1) (drop from lines)
  same_begun known some =
      cond-false (is_empty (drop from lines)) (Some (empty_at from)) (first_in (segment_begun (from + 1) (drop from lines)) (from + 1) (drop from lines)) some
      ∙ ap (λ (f : List ℕ → Option Standing). first_in (inside_of f OUTER_LEVEL []) (from + 1) (drop from lines)) (found known)

  pub has_read : (b : Built) (next : ℕ) (segment : Made) → Known → is_empty (drop from lines) ≡ false → HasTakenLines labels lines from b next → Spells (filled b.operators) segment →
      HasRead lines from segment next
  has_read b next segment known some taken spelled = record {
    later = taken.later;
    within = taken.within;
    stops = taken.stops;
    same = same_begun known some ∙ taken.same;
    operators = b.operators;
    are =
        ap (λ (f : List ℕ → Option Standing). operators_from f OUTER_LEVEL (drop from lines) ∷ segments_from (from + 1) (drop from lines)) (found known)
        ∙ ap (λ (ps : List Placed). ps ∷ segments_from (from + 1) (drop from lines)) taken.operators
        ∙ ap (λ (pss : List (List Placed)). b.operators ∷ pss) taken.segments;
    spelled = spelled;
  }

  pub refused_from : (e : NotAssembled) → Known → is_empty (drop from lines) ≡ false → IsFirst e (first_in (inside_of labels OUTER_LEVEL []) (from + 1) (drop from lines)) →
      IsFirst e (first_in nowhere from (Segment ∷ drop from lines))
  refused_from e known some first = first_as e (same_begun known some) first

-- a SEGMENT without operators
pub empty_refused : (lines : List Reading) (from : ℕ) → is_empty (drop from lines) ≡ true →
    first_in nowhere from (Segment ∷ drop from lines) ≡ Some record { line = from; rule = EmptySegment }
empty_refused lines from none =
    cond-true (is_empty (drop from lines)) (Some (empty_at from)) (first_in (segment_begun (from + 1) (drop from lines)) (from + 1) (drop from lines)) none

-- ---- segments one after another

-- the segments that were read, and the lines that are left
pub record SoFar (lines : List Reading) (from at : ℕ) (segments : List Made) : Type 0 where
  pub within : at ≤ length lines
  pub begins : AtSegment (drop at lines)
  pub same : first_in nowhere (from + 1) (drop from lines) ≡ first_in nowhere (at + 1) (drop at lines)
  pub operators : List (List Placed)
  pub parts : segments_from (from + 1) (drop from lines) ≡ operators ++ segments_from (at + 1) (drop at lines)
  pub are : AreCode operators segments

pub none_yet : (lines : List Reading) (from : ℕ) (segments : List Made) → from ≤ length lines → AtSegment (drop from lines) → segments ≡ [] → SoFar lines from from segments
none_yet lines from segments within stops none = record {
  within = within;
  begins = stops;
  same = refl;
  operators = [];
  parts = refl;
  are = subst (AreCode []) (sym none) tt;
}

pub one_more : (lines : List Reading) (from at next : ℕ) (old new : List Made) (segment : Made) → SoFar lines from at old → at < length lines → HasRead lines (at + 1) segment next →
    new ≡ old ++ segment ∷ [] → SoFar lines from next new
one_more lines from at next old new segment so_far inside read e =
    let here = begins_here lines at inside so_far.begins in
    record {
      within = read.within;
      begins = read.stops;
      same = so_far.same ∙ ap (first_in nowhere (at + 1)) here ∙ read.same;
      operators = so_far.operators ++ read.operators ∷ [];
      parts =
          so_far.parts
          ∙ ap (λ (ls : List Reading). so_far.operators ++ segments_from (at + 1) ls) here
          ∙ ap (λ (pss : List (List Placed)). so_far.operators ++ pss) read.are
          ∙ sym (append_assoc so_far.operators (read.operators ∷ []) (segments_from (next + 1) (drop next lines)));
      are = subst (AreCode (so_far.operators ++ read.operators ∷ [])) (sym e) (code_more so_far.operators old read.operators segment so_far.are read.spelled);
    }

pub all_read : (lines : List Reading) (from at : ℕ) (segments : List Made) → SoFar lines from at segments → length lines ≤ at → HasRest lines from segments
all_read lines from at segments so_far past =
    let none = drop_all at lines past in
    record {
      whole = so_far.same ∙ ap (first_in nowhere (at + 1)) none;
      are =
          subst (λ (pss : List (List Placed)). AreCode pss segments)
          (sym (so_far.parts ∙ ap (λ (ls : List Reading). so_far.operators ++ segments_from (at + 1) ls) none ∙ append-nil so_far.operators)) so_far.are;
    }

pub refused_here : (lines : List Reading) (from at : ℕ) (segments : List Made) (e : NotAssembled) → SoFar lines from at segments → at < length lines →
    IsFirst e (first_in nowhere (at + 1) (Segment ∷ drop (at + 1) lines)) → IsFirst e (first_in nowhere (from + 1) (drop from lines))
refused_here lines from at segments e so_far inside first =
    first_as e (so_far.same ∙ ap (first_in nowhere (at + 1)) (begins_here lines at inside so_far.begins)) first
