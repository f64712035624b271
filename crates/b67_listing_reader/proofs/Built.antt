-- Operators with their places, and as a builder has them.
use Rattle.std.proofs.Common.{◌≡◌, ◌≢◌, ℕ, zero, suc, ◌+◌, ◌≤◌, Bool, true, false, eqb, cond, Option, Some, None, unwrap_or, List, [], ◌∷◌, ◌++◌, length, replicate, refl, sym, ap, subst, arith, ◌∙◌}
use Rattle.std.proofs.lemmas.Bool.{eqb-true, eq-eqb, ne_eqb, cond-true, cond-false}
use Rattle.std.proofs.lemmas.List.{map-append}
use Rattle.b67_ops.specs.declared.TheConstants.{OUTER_LEVEL, MOST_LEVEL}
use Rattle.b67_ops.specs.declared.Operator.TheVariants.{Plain}
use Rattle.b67_ops.specs.declared.PlainKind.TheVariants.{Noop}
use Rattle.b67_ops.specs.Spelling.{spelling}
use Rattle.b67_segment.specs.declared.TheConstants.{MOST_SEGMENT_WORDS}
use Rattle.b67_segment.specs.declared.code.Mark.{Mark}
use Rattle.b67_segment.specs.declared.code.Segment.{Segment}
use Rattle.b67_segment.specs.Operators as building
use Rattle.b67_segment.specs.Building.{Builds}
use Rattle.b67_segment.specs.Syllables.{syllables, Spells}
use Rattle.b67_segment.proofs.Fetches.{length_syllables}
use Rattle.b67_segment.proofs.Parsing.{operators_of_built}
use Rattle.b67_listing.specs.Operators.{ListedOperator}
use Rattle.b67_listing.specs.Listings.{marks_of, IsSegment}
use Rattle.b67_listing_reader.specs.Reading.{width, AreInOrder, unplaced}
use Rattle.b67_listing_reader.proofs.Orders.{spelled, code_text, mark_of, width_some, order_grows, order_append, length_code, fills, filled, noops, noops_order}

-- one without its place
abbrev pub bare : ListedOperator → building.Placed
bare p = record { level = p.level; operator = p.operator }

pub text_is : (at : ℕ) (ps : List ListedOperator) (end : ℕ) → AreInOrder at ps end → building.text at (unplaced ps) ≡ code_text ps
text_is at [] end h = refl
text_is at (p ∷ ps) end h =
    let place = h.0.place_is in
    ap (λ k. spelling k p.level p.operator ++ building.text (k + length (spelling k p.level p.operator)) (unplaced ps)) (sym place)
    ∙ ap (λ k. spelled p ++ building.text (k + width p) (unplaced ps)) place
    ∙ ap (λ t. spelled p ++ t) (text_is (at + width p) ps end h.1)

pub size_is : (ps : List ListedOperator) (end : ℕ) → AreInOrder 0 ps end → building.size (unplaced ps) ≡ end
size_is ps end h = omega (arith, ap length (text_is 0 ps end h), length_code 0 ps end h)

are_fit : (at : ℕ) (ps : List ListedOperator) (end : ℕ) → AreInOrder at ps end → building.AreFit (unplaced ps)
are_fit at [] end h = tt
are_fit at (p ∷ ps) end h = (record { outer = h.0.least; known = h.0.most; fits = h.0.fits }, are_fit (at + width p) ps end h.1)

-- the marks of the two are the same
mark_step : (at before : ℕ) (p : ListedOperator) (rest other : List Mark) (b : Bool) → eqb p.level before ≡ b → p.place ≡ at → rest ≡ other →
    cond (eqb before p.level) rest (record { place = at; level = p.level } ∷ rest) ≡ cond (eqb p.level before) other (mark_of p ∷ other)
mark_step at before p rest other true e place same =
    let levels = eqb-true p.level before e in
    cond-true (eqb before p.level) rest (record { place = at; level = p.level } ∷ rest) (eq-eqb before p.level (sym levels)) ∙ same
    ∙ sym (cond-true (eqb p.level before) other (mark_of p ∷ other) e)
mark_step at before p rest other false e place same =
    let apart : before ≢ p.level = λ is. let both : true ≡ false = sym (eq-eqb p.level before (sym is)) ∙ e in cc in
    cond-false (eqb before p.level) rest (record { place = at; level = p.level } ∷ rest) (ne_eqb before p.level apart)
    ∙ ap (λ k. let m : Mark = record { place = k; level = p.level } in m ∷ rest) (sym place) ∙ ap (λ ms. mark_of p ∷ ms) same
    ∙ sym (cond-false (eqb p.level before) other (mark_of p ∷ other) e)

marks_are : (at before : ℕ) (ps : List ListedOperator) (end : ℕ) → AreInOrder at ps end → building.marks_after at (Some before) (unplaced ps) ≡ marks_of before ps
marks_are at before [] end h = refl
marks_are at before (p ∷ ps) end h =
    mark_step at before p (building.marks_after (at + length (spelling at p.level p.operator)) (Some p.level) (unplaced ps)) (marks_of p.level ps) (eqb p.level before) refl h.0.place_is
    (ap (λ k. building.marks_after (at + length (spelling k p.level p.operator)) (Some p.level) (unplaced ps)) (sym h.0.place_is) ∙ marks_are (at + width p) p.level ps end h.1)

none_before : (at : ℕ) (ps : List ListedOperator) (end : ℕ) → AreInOrder at ps end → building.marks_after at None (unplaced ps) ≡ building.marks_after at (Some 0) (unplaced ps)
none_before at [] end h = refl
none_before at (p ∷ ps) end h =
    let rest = building.marks_after (at + length (spelling at p.level p.operator)) (Some p.level) (unplaced ps) in
    let least = h.0.least in
    sym (cond-false (eqb 0 p.level) rest (record { place = at; level = p.level } ∷ rest) (ne_eqb 0 p.level (λ e. omega arith)))

marked : (ps : List ListedOperator) (end : ℕ) → AreInOrder 0 ps end → building.marks_of (unplaced ps) ≡ marks_of 0 ps
marked ps end h = none_before 0 ps end h ∙ marks_are 0 0 ps end h

-- a segment of operators is built of them
pub builds : (segment : Segment) (ps : List ListedOperator) → IsSegment segment ps → Builds (unplaced ps) (syllables segment.words) segment.marks
builds segment ps is =
    let bytes = syllables segment.words in
    let whole = filled bytes 0 ps is.filled in
    let few = is.few in
    record {
      code = whole.text ∙ sym (text_is 0 ps (length bytes) whole.order);
      marks = is.marked ∙ sym (marked ps (length bytes) whole.order);
      fit = are_fit 0 ps (length bytes) whole.order;
      room = omega (arith, length_syllables segment.words);
    }

-- and what is built of operators is a segment of them
pub built_segment : (segment : Segment) (ps : List ListedOperator) (end : ℕ) → AreInOrder 0 ps end → Spells (unplaced ps) segment → 1 ≤ length segment.words → length segment.words ≤ MOST_SEGMENT_WORDS →
    IsSegment segment ps
built_segment segment ps end h spells some few =
    let bytes = syllables segment.words in
    let text : bytes ≡ code_text ps = spells.code ∙ text_is 0 ps end h in
    let size : end ≡ length bytes = omega (arith, ap length text, length_code 0 ps end h) in
    record {
      some = some;
      few = few;
      words = spells.small;
      filled = fills bytes 0 ps (subst (λ k. AreInOrder 0 ps k) size h) text;
      marked = spells.marks ∙ marked ps end h;
    }

-- the operators of a segment are those that it spells
pub spelled_ones : (segment : Segment) (us : List building.Placed) (ps : List ListedOperator) → Spells us segment → IsSegment segment ps → unplaced ps ≡ us
spelled_ones segment us ps spells is =
    let few = is.few in
    let one : Builds us (syllables segment.words) segment.marks =
    record { code = spells.code; marks = spells.marks; fit = spells.fit; room = omega (arith, length_syllables segment.words) } in
    sym (operators_of_built (builds segment ps is)) ∙ operators_of_built one

-- operators in order that begin with others, but for their places, begin with these
pub record Front (all ps : List ListedOperator) (us : List building.Placed) : Type 0 where
  pub more : List ListedOperator
  pub all_are : all ≡ ps ++ more
  pub more_are : unplaced more ≡ us

pub front_of : (at : ℕ) (all ps : List ListedOperator) (end stop : ℕ) (us : List building.Placed) → AreInOrder at all end → AreInOrder at ps stop → unplaced all ≡ unplaced ps ++ us → Front all ps us
front_of at all [] end stop us h g e = record { more = all; all_are = refl; more_are = e }
front_of at [] (p ∷ ps) end stop us h g e = let f : [] ≡ bare p ∷ (unplaced ps ++ us) = e in cc
front_of at (a ∷ all) (p ∷ ps) end stop us h g e =
    let f : bare a ∷ unplaced all ≡ bare p ∷ (unplaced ps ++ us) = e in
    let heads : bare a ≡ bare p = cc in
    let tails : unplaced all ≡ unplaced ps ++ us = cc in
    let places : a.place ≡ p.place = h.0.place_is ∙ sym g.0.place_is in
    let same : a ≡ p = ap (λ (b : building.Placed). let r : ListedOperator = record { place = a.place; level = b.level; operator = b.operator } in r) heads
    ∙ ap (λ k. let r : ListedOperator = record { place = k; level = p.level; operator = p.operator } in r) places in
    let rest = front_of (at + width a) all ps end stop us h.1 (subst (λ (r : ListedOperator). AreInOrder (at + width r) ps stop) (sym same) g.1) tails in
    record { more = rest.more; all_are = ap (λ r. r ∷ all) same ∙ ap (λ rs. p ∷ rs) rest.all_are; more_are = rest.more_are }

noops_bare : (level count at : ℕ) → unplaced (noops level count at) ≡ replicate count (record { level = level; operator = Plain Noop })
noops_bare level zero at = refl
noops_bare level (suc count) at = ap (λ us. record { level = level; operator = Plain Noop } ∷ us) (noops_bare level count (at + 1))

-- the level of the last operator
record HasLevel (found : Option ℕ) : Type 0 where
  level : ℕ
  is : found ≡ Some level
  least : OUTER_LEVEL ≤ level
  most : level ≤ MOST_LEVEL

last_in : (before at : ℕ) (ps : List ListedOperator) (end : ℕ) → AreInOrder at ps end → OUTER_LEVEL ≤ before → before ≤ MOST_LEVEL → HasLevel (building.last_level (Some before) (unplaced ps))
last_in before at [] end h least most = record { level = before; is = refl; least = least; most = most }
last_in before at (p ∷ ps) end h least most = last_in p.level (at + width p) ps end h.1 h.0.least h.0.most

last_some : (ps : List ListedOperator) (end : ℕ) → AreInOrder 0 ps end → 1 ≤ length ps → HasLevel (building.last_level None (unplaced ps))
last_some [] end h some = absurd (omega arith)
last_some (p ∷ ps) end h some = last_in p.level (0 + width p) ps end h.1 h.0.least h.0.most

-- operators, and the NOOPs that fill the last word
pub record WithNoops (ps : List ListedOperator) (end : ℕ) : Type 0 where
  pub all : List ListedOperator
  pub order : AreInOrder 0 all (end + building.missing end)
  pub all_are : unplaced all ≡ building.filled (unplaced ps)

pub with_noops : (ps : List ListedOperator) (end : ℕ) → AreInOrder 0 ps end → 1 ≤ length ps → WithNoops ps end
with_noops ps end h some =
    let last = last_some ps end h some in
    let count = building.missing end in
    let more = noops last.level count end in
    record {
      all = ps ++ more;
      order = order_append 0 ps end more (end + count) h (noops_order last.level count end last.least last.most);
      all_are = map-append bare ps more ∙ ap (λ us. unplaced ps ++ us) (noops_bare last.level count end
          ∙ ap (λ o. replicate count (record { level = unwrap_or o 0; operator = Plain Noop })) (sym last.is)
          ∙ ap (λ n. replicate (building.missing n) (record { level = unwrap_or (building.last_level None (unplaced ps)) 0; operator = Plain Noop })) (sym (size_is ps end h)));
    }

pub order_some : (ps : List ListedOperator) (end : ℕ) → AreInOrder 0 ps end → 1 ≤ length ps → 1 ≤ end
order_some [] end h some = absurd (omega arith)
order_some (p ∷ ps) end h some =
    let grows = order_grows (0 + width p) ps end h.1 in
    let one = width_some p in
    omega arith
