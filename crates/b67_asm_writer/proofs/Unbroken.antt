-- Lines that are written for operators break no rule, and have these operators.
use Rattle.std.proofs.Common.{◌≡◌, ℕ, ◌+◌, ◌≤◌, ◌^◌, true, false, eqb, List, [], ◌∷◌, ◌++◌, length, map, Option, Some, None, Result, Ok, Err, refl, sym, ap, subst, arith, ◌∙◌, append_assoc, append-nil, length-append}
use Rattle.std.specs.Prelude.{nat_le, nat_lt}
use Rattle.std.specs.List.{flat_map}
use Rattle.std.proofs.lemmas.Bool.{and_from, cond-true, cond-false, cond_both, eqb-true, le-leb, le-ltb, lt-ltb, ne_eqb}
use Rattle.b67_ops.specs.declared.TheConstants.{OUTER_LEVEL}
use Rattle.b67_ops.specs.declared.Couple.{Couple}
use Rattle.b67_ops.specs.declared.Operator.{Operator as Op}
use Rattle.b67_ops.specs.declared.Operator.TheVariants as ops
use Rattle.b67_ops.specs.Spelling.{Fits, CoupleIsSeen, index_bits, spelling}
use Rattle.b67_segment.specs.declared.TheConstants.{MOST_SEGMENT_SYLLABLES}
use Rattle.b67_segment.specs.declared.code.Format.{Format as Form}
use Rattle.b67_segment.specs.Operators as building
use Rattle.b67_listing.specs.Operators.{ListedOperator}
use Rattle.b67_listing_reader.specs.Reading.{AreInOrder, unplaced, width}
use Rattle.b67_listing_reader.proofs.Orders.{order_grows}
use Rattle.b67_asm_text.specs.declared.item.Written.TheVariants.{Whole}
use Rattle.b67_asm_text.specs.declared.item.Reading.{Reading}
use Rattle.b67_asm_text.specs.declared.item.Reading.TheVariants.{Segment, Level, Operator}
use Rattle.b67_asm.specs.declared.label.Standing.{Standing}
use Rattle.b67_asm.specs.declared.refusal.Rule.{Rule}
use Rattle.b67_asm.specs.declared.refusal.Rule.TheVariants.{Range, SegmentTooLong, EmptySegment}
use Rattle.b67_asm.specs.declared.refusal.Refusal.{Refusal}
use Rattle.b67_asm.specs.Labels.{labels_from, label_named, place_after}
use Rattle.b67_asm.specs.Rules.{Inside, segment_begun, first_broken, first_in, fits, is_empty, is_seen, nowhere, operator_broken, or_next, resolved}
use Rattle.b67_asm.specs.Assembling.{operators_from, segments_from, with_operator}
use Rattle.b67_asm.proofs.Widths.{length_spelled}
use Rattle.b67_asm_writer.proofs.Written.{last_from}
use Rattle.b67_asm_writer.proofs.Back.{level_read, read_after, segment_read, tail_read}

-- ---- an operator that fits is resolved

seen_fits : (level : ℕ) (couple : Couple) → CoupleIsSeen level couple → is_seen level couple ≡ true
seen_fits level couple h =
    and_from (nat_le couple.level level) (nat_lt couple.index (2 ^ index_bits level)) (le-leb couple.level level h.level_seen) (lt-ltb couple.index (2 ^ index_bits level) h.index_fits)

can_fit : (level : ℕ) (op : Op) → Fits level op → fits level op ≡ true
can_fit level (ops.Valc couple) h = seen_fits level couple h
can_fit level (ops.Namc couple) h = seen_fits level couple h
can_fit level (ops.Lt8 n) h = lt-ltb n (2 ^ 8) h
can_fit level (ops.Lt16 n) h = lt-ltb n (2 ^ 16) h
can_fit level (ops.Lt48 n) h = lt-ltb n (2 ^ 48) h
can_fit level (ops.Mpcw n) h = lt-ltb n (2 ^ 48) h
can_fit level (ops.Branch kind n) h = lt-ltb n (2 ^ 16) h
can_fit level (ops.Plain kind) h = refl

resolves : (labels : List ℕ → Option Standing) (level : ℕ) (op : Op) → Fits level op → resolved labels level (Whole op) ≡ Ok op
resolves labels level op h = cond-true (fits level op) (Ok op) (Err Range) (can_fit level op h)

-- ---- the lines of a segment

abbrev stands_at : (List ℕ → Option Standing) → ℕ → ℕ → Inside
stands_at labels level place = record { labels = labels; level = level; place = place }

module _ (labels : List ℕ → Option Standing) where
  -- a line of a level says at which level the next operator stands, or there is none, and it is the one before
  level_goes : (before level : ℕ) (rest : List Reading) → operators_from labels before (level_read before level ++ rest) ≡ operators_from labels level rest
  level_goes before level rest =
      cond_both (eqb level before) [] (Level level ∷ []) (λ (ls : List Reading). operators_from labels before (ls ++ rest) ≡ operators_from labels level rest)
      (λ e. ap (λ (k : ℕ). operators_from labels k rest) (sym (eqb-true level before e)))
      (λ e. refl)

  level_passes : (before level place line : ℕ) (rest : List Reading) →
      first_in (stands_at labels before place) line (level_read before level ++ rest) ≡ first_in (stands_at labels level place) (line + length (level_read before level)) rest
  level_passes before level place line rest =
      cond_both (eqb level before) [] (Level level ∷ [])
      (λ (ls : List Reading). first_in (stands_at labels before place) line (ls ++ rest) ≡ first_in (stands_at labels level place) (line + length ls) rest)
      (λ e.
      let same : line ≡ line + 0 = omega arith in
      ap (λ (k : ℕ). first_in (stands_at labels k place) line rest) (sym (eqb-true level before e)) ∙ ap (λ (n : ℕ). first_in (stands_at labels level place) n rest) same)
      (λ e. refl)

  operator_passes : (level place line : ℕ) (op : Op) (rest : List Reading) → resolved labels level (Whole op) ≡ Ok op → place + length (spelling place level op) ≤ MOST_SEGMENT_SYLLABLES →
      first_in (stands_at labels level place) line (Operator (Whole op) ∷ rest) ≡ first_in (stands_at labels level (place + length (spelling place level op))) (line + 1) rest
  operator_passes level place line op rest is room =
      let end = place_after place (Whole op) in
      let wide : place + length (spelling place level op) ≡ end = ap (λ (k : ℕ). place + k) (length_spelled place level op) in
      let within : end ≤ MOST_SEGMENT_SYLLABLES = subst (λ (k : ℕ). k ≤ MOST_SEGMENT_SYLLABLES) wide room in
      let none : operator_broken end (resolved labels level (Whole op)) ≡ None =
      ap (operator_broken end) is ∙ cond-false (nat_lt MOST_SEGMENT_SYLLABLES end) (Some SegmentTooLong) None (le-ltb MOST_SEGMENT_SYLLABLES end within) in
      ap (λ (b : Option Rule). or_next line b (first_in (stands_at labels level end) (line + 1) rest)) none
      ∙ ap (λ (k : ℕ). first_in (stands_at labels level k) (line + 1) rest) (sym wide)

  -- the lines of operators in order have these operators, and then those of the lines after them
  operators_back : (before place : ℕ) (ps : List ListedOperator) (end : ℕ) (rest : List Reading) → AreInOrder place ps end →
      operators_from labels before (read_after before ps ++ rest) ≡ unplaced ps ++ operators_from labels (last_from before ps) rest
  operators_back before place [] end rest order = refl
  operators_back before place (first ∷ more) end rest order =
      let own : Reading = Operator (Whole first.operator) in
      let after = read_after first.level more in
      ap (operators_from labels before) (append_assoc (level_read before first.level) (own ∷ after) rest)
      ∙ level_goes before first.level (own ∷ (after ++ rest))
      ∙ ap (λ (o : Result Op Rule). with_operator first.level o (operators_from labels first.level (after ++ rest))) (resolves labels first.level first.operator order.0.fits)
      ∙ ap (λ (ps : List building.Placed). record { level = first.level; operator = first.operator } ∷ ps) (operators_back first.level (place + width first) more end rest order.1)

  -- and break no rule
  first_back : (before place line : ℕ) (ps : List ListedOperator) (end : ℕ) (rest : List Reading) → AreInOrder place ps end → end ≤ MOST_SEGMENT_SYLLABLES →
      first_in (stands_at labels before place) line (read_after before ps ++ rest) ≡ first_in (stands_at labels (last_from before ps) end) (line + length (read_after before ps)) rest
  first_back before place line [] end rest order room =
      let same : line ≡ line + 0 = omega arith in
      ap (λ (k : ℕ). first_in (stands_at labels before k) line rest) order ∙ ap (λ (n : ℕ). first_in (stands_at labels before end) n rest) same
  first_back before place line (first ∷ more) end rest order room =
      let change = level_read before first.level in
      let own : Reading = Operator (Whole first.operator) in
      let after = read_after first.level more in
      let long = length (spelling place first.level first.operator) in
      let wide : width first ≡ long = ap (λ (k : ℕ). length (spelling k first.level first.operator)) order.0.place_is in
      let next : AreInOrder (place + long) more end = subst (λ (k : ℕ). AreInOrder (place + k) more end) wide order.1 in
      let grows : place + long ≤ end = order_grows (place + long) more end next in
      let lines : line + length change + 1 + length after ≡ line + length (change ++ (own ∷ after)) = omega (arith, length-append change (own ∷ after)) in
      ap (first_in (stands_at labels before place) line) (append_assoc change (own ∷ after) rest)
      ∙ level_passes before first.level place line (own ∷ (after ++ rest))
      ∙ operator_passes first.level place (line + length change) first.operator (after ++ rest) (resolves labels first.level first.operator order.0.fits) (omega (arith, grows, room))
      ∙ first_back first.level (place + long) (line + length change + 1) more end rest next room
      ∙ ap (λ (n : ℕ). first_in (stands_at labels (last_from first.level more) end) n rest) lines

-- ---- a segment

-- operators that fill a segment: there are some, and they end within the longest
pub record Fill (ps : List ListedOperator) : Type 0 where
  pub end : ℕ
  pub order : AreInOrder 0 ps end
  pub some : 1 ≤ length ps
  pub room : end ≤ MOST_SEGMENT_SYLLABLES

abbrev pub AllFill : List (List ListedOperator) → Type 0
AllFill [] = Unit {0}
AllFill (ps ∷ pss) = Fill ps × AllFill pss

-- a level is said before the first operator, whatever level stood there
first_level : (p : ListedOperator) → OUTER_LEVEL ≤ p.level → level_read 0 p.level ≡ Level p.level ∷ []
first_level p least = cond-false (eqb p.level 0) [] (Level p.level ∷ []) (ne_eqb p.level 0 (λ e. omega (arith, e, least)))

abbrev with_first : ListedOperator → List ListedOperator → List Reading → List Reading
with_first p ps rest = Level p.level ∷ Operator (Whole p.operator) ∷ (read_after p.level ps ++ rest)

begins : (p : ListedOperator) (ps : List ListedOperator) (rest : List Reading) → OUTER_LEVEL ≤ p.level → read_after 0 (p ∷ ps) ++ rest ≡ with_first p ps rest
begins p ps rest least = ap (λ (ls : List Reading). (ls ++ (Operator (Whole p.operator) ∷ read_after p.level ps)) ++ rest) (first_level p least)

not_empty_of : (ps : List ListedOperator) (rest : List Reading) (end : ℕ) → AreInOrder 0 ps end → 1 ≤ length ps → is_empty (read_after 0 ps ++ rest) ≡ false
not_empty_of [] rest end order some = absurd (omega arith)
not_empty_of (p ∷ ps) rest end order some = ap is_empty (begins p ps rest order.0.least)

outer_operators_of : (ps : List ListedOperator) (rest : List Reading) (end : ℕ) → AreInOrder 0 ps end → 1 ≤ length ps → (labels : List ℕ → Option Standing) →
    operators_from labels OUTER_LEVEL (read_after 0 ps ++ rest) ≡ operators_from labels 0 (read_after 0 ps ++ rest)
outer_operators_of [] rest end order some labels = absurd (omega arith)
outer_operators_of (p ∷ ps) rest end order some labels =
    let here = begins p ps rest order.0.least in
    ap (operators_from labels OUTER_LEVEL) here ∙ sym (ap (operators_from labels 0) here)

outer_first_of : (ps : List ListedOperator) (rest : List Reading) (end : ℕ) → AreInOrder 0 ps end → 1 ≤ length ps → (labels : List ℕ → Option Standing) (line : ℕ) →
    first_in (stands_at labels OUTER_LEVEL 0) line (read_after 0 ps ++ rest) ≡ first_in (stands_at labels 0 0) line (read_after 0 ps ++ rest)
outer_first_of [] rest end order some labels line = absurd (omega arith)
outer_first_of (p ∷ ps) rest end order some labels line =
    let here = begins p ps rest order.0.least in
    ap (first_in (stands_at labels OUTER_LEVEL 0) line) here ∙ sym (ap (first_in (stands_at labels 0 0) line) here)

module _ (ps : List ListedOperator) (rest : List Reading) (fill : Fill ps) where
  -- it has an operator
  not_empty : is_empty (read_after 0 ps ++ rest) ≡ false
  not_empty = not_empty_of ps rest fill.end fill.order fill.some

  outer_operators : (labels : List ℕ → Option Standing) → operators_from labels OUTER_LEVEL (read_after 0 ps ++ rest) ≡ operators_from labels 0 (read_after 0 ps ++ rest)
  outer_operators labels = outer_operators_of ps rest fill.end fill.order fill.some labels

  outer_first : (labels : List ℕ → Option Standing) (line : ℕ) →
      first_in (stands_at labels OUTER_LEVEL 0) line (read_after 0 ps ++ rest) ≡ first_in (stands_at labels 0 0) line (read_after 0 ps ++ rest)
  outer_first labels line = outer_first_of ps rest fill.end fill.order fill.some labels line

-- the number of a line does not matter for the operators of segments
skip_level : (before level line : ℕ) (rest : List Reading) → segments_from line (level_read before level ++ rest) ≡ segments_from (line + length (level_read before level)) rest
skip_level before level line rest =
    let same : line ≡ line + 0 = omega arith in
    cond_both (eqb level before) [] (Level level ∷ []) (λ (ls : List Reading). segments_from line (ls ++ rest) ≡ segments_from (line + length ls) rest)
    (λ e. ap (λ (n : ℕ). segments_from n rest) same) (λ e. refl)

skip_after : (before line : ℕ) (ps : List ListedOperator) (rest : List Reading) → segments_from line (read_after before ps ++ rest) ≡ segments_from (line + length (read_after before ps)) rest
skip_after before line [] rest = let same : line ≡ line + 0 = omega arith in ap (λ (n : ℕ). segments_from n rest) same
skip_after before line (first ∷ more) rest =
    let change = level_read before first.level in
    let own : Reading = Operator (Whole first.operator) in
    let after = read_after first.level more in
    let lines : line + length change + 1 + length after ≡ line + length (change ++ (own ∷ after)) = omega (arith, length-append change (own ∷ after)) in
    ap (segments_from line) (append_assoc change (own ∷ after) rest)
    ∙ skip_level before first.level line (own ∷ (after ++ rest))
    ∙ skip_after first.level (line + length change + 1) more rest
    ∙ ap (λ (n : ℕ). segments_from n rest) lines

-- ---- segments, and what comes after them

-- lines that end a segment, break no rule and have no segments
record IsTail (tail : List Reading) : Type 0 where
  whole : (inside : Inside) (line : ℕ) → first_in inside line tail ≡ None
  operators : (labels : List ℕ → Option Standing) (level : ℕ) → operators_from labels level tail ≡ []
  segments : (line : ℕ) → segments_from line tail ≡ []

tail_is : (forms : List Form) → IsTail (tail_read forms)
tail_is [] = record { whole = λ inside line. refl; operators = λ labels level. refl; segments = λ line. refl }
tail_is (form ∷ forms) =
    let t = tail_is forms in
    record { whole = λ inside line. t.whole inside (line + 1); operators = λ labels level. t.operators labels level; segments = λ line. t.segments (line + 1) }

-- the lines from a SEGMENT on, or those after the last segment, have no operators of the segment before
ends_segment : (pss : List (List ListedOperator)) (tail : List Reading) → IsTail tail → (labels : List ℕ → Option Standing) (level : ℕ) → operators_from labels level (flat_map segment_read pss ++ tail) ≡ []
ends_segment [] tail t labels level = t.operators labels level
ends_segment (ps ∷ pss) tail t labels level = refl

-- the lines of segments, and what comes after them
abbrev all_read : List (List ListedOperator) → List Reading → List Reading
all_read pss tail = flat_map segment_read pss ++ tail

parted : (ps : List ListedOperator) (pss : List (List ListedOperator)) (tail : List Reading) → all_read (ps ∷ pss) tail ≡ Segment ∷ (read_after 0 ps ++ all_read pss tail)
parted ps pss tail = ap (λ (ls : List Reading). Segment ∷ ls) (append_assoc (read_after 0 ps) (flat_map segment_read pss) tail)

whole_back : (inside : Inside) (line : ℕ) (pss : List (List ListedOperator)) (tail : List Reading) → AllFill pss → IsTail tail → first_in inside line (all_read pss tail) ≡ None
whole_back inside line [] tail fill t = t.whole inside line
whole_back inside line (ps ∷ pss) tail fill t =
    let rest = all_read pss tail in
    let own = read_after 0 ps ++ rest in
    let labels = label_named (labels_from (line + 1) 0 own) in
    let refusal : Refusal = record { line = line; rule = EmptySegment } in
    ap (first_in inside line) (parted ps pss tail)
    ∙ cond-false (is_empty own) (Some refusal) (first_in (segment_begun (line + 1) own) (line + 1) own) (not_empty ps rest fill.0)
    ∙ outer_first ps rest fill.0 labels (line + 1)
    ∙ first_back labels 0 0 (line + 1) ps fill.0.end rest fill.0.order fill.0.room
    ∙ whole_back (stands_at labels (last_from 0 ps) fill.0.end) (line + 1 + length (read_after 0 ps)) pss tail fill.1 t

segments_back : (line : ℕ) (pss : List (List ListedOperator)) (tail : List Reading) → AllFill pss → IsTail tail → segments_from line (all_read pss tail) ≡ map unplaced pss
segments_back line [] tail fill t = t.segments line
segments_back line (ps ∷ pss) tail fill t =
    let rest = all_read pss tail in
    let own = read_after 0 ps ++ rest in
    let labels = label_named (labels_from (line + 1) 0 own) in
    let operators : operators_from labels OUTER_LEVEL own ≡ unplaced ps =
    outer_operators ps rest fill.0 labels
    ∙ operators_back labels 0 0 ps fill.0.end rest fill.0.order
    ∙ ap (λ (us : List building.Placed). unplaced ps ++ us) (ends_segment pss tail t labels (last_from 0 ps))
    ∙ append-nil (unplaced ps) in
    ap (segments_from line) (parted ps pss tail)
    ∙ ap (λ (us : List building.Placed). us ∷ segments_from (line + 1) own) operators
    ∙ ap (λ (uss : List (List building.Placed)). unplaced ps ∷ uss)
    (skip_after 0 (line + 1) ps rest ∙ segments_back (line + 1 + length (read_after 0 ps)) pss tail fill.1 t)

-- ---- the lines of a whole text

pub record IsWhole (pss : List (List ListedOperator)) (lines : List Reading) : Type 0 where
  pub whole : first_broken lines ≡ None
  pub segments : segments_from 1 lines ≡ map unplaced pss

first_segment : (pss : List (List ListedOperator)) (tail : List Reading) → 1 ≤ length pss → AllFill pss → IsTail tail → first_broken (all_read pss tail) ≡ None
first_segment [] tail some fill t = absurd (omega arith)
first_segment (ps ∷ pss) tail some fill t = whole_back nowhere 1 (ps ∷ pss) tail fill t

pub lines_whole : (pss : List (List ListedOperator)) (forms : List Form) → 1 ≤ length pss → AllFill pss → IsWhole pss (flat_map segment_read pss ++ tail_read forms)
lines_whole pss forms some fill = record {
  whole = first_segment pss (tail_read forms) some fill (tail_is forms);
  segments = segments_back 1 pss (tail_read forms) fill (tail_is forms);
}
