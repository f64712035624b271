-- The operators of a segment, as far as their lines tell them.
use Rattle.std.proofs.Common.{◌≡◌, ℕ, zero, suc, ◌+◌, ◌-◌, ◌*◌, ◌<◌, ◌≤◌, ⊎_elim, List, [], ◌∷◌, ◌++◌, length, get_or, take, drop, replicate, refl, sym, ap, subst, arith, ◌∙◌, append_assoc, length-append, length-drop}
use Rattle.std.proofs.lemmas.Bool.{cases_lt}
use Rattle.std.proofs.lemmas.List.{append-nil, map-append, take-append-drop, drop-drop, drop_at, take_at, take_all, take-append-le, drop-append-le, drop_more, length-map, length-take}
use Rattle.b67_text.specs.Texts.{PartStands}
use Rattle.b67_segment.specs.declared.code.Segment.{Segment}
use Rattle.b67_segment.specs.Operators as building
use Rattle.b67_segment.specs.Syllables.{syllables}
use Rattle.b67_segment.proofs.Fetches.{length_syllables}
use Rattle.b67_listing.specs.Operators.{ListedOperator, operator_line}
use Rattle.b67_listing.specs.Listings.{IsSegment}
use Rattle.b67_list.proofs.Lists.{empty_if_none}
use Rattle.b67_listing_reader.specs.declared.operators.Told.{Told}
use Rattle.b67_listing_reader.specs.Reading.{OperatorCanStand, width, AreInOrder, IsWordCount, operator_lines, TellsNone, TellsOne, told_at, LinesTell, TellEach, IsNoOperator, TellSoFar, TellsOperators, IsRelisted, ReadsBody, StopsInBody}
use Rattle.b67_listing_reader.proofs.Orders.{code_text, order_push, order_grows, length_code, width_some, filled}
use Rattle.b67_listing_reader.proofs.Built.{bare, size_is, front_of}

tell_push : (lines : List (List ℕ)) (ps : List ListedOperator) (line : List ℕ) (rest : List (List ℕ)) (p : ListedOperator) → TellEach lines ps → drop (length ps) lines ≡ line ∷ rest → TellsOne line p → TellEach lines (ps ++ p ∷ [])
tell_push [] [] line rest p each here one = let f : [] ≡ line ∷ rest = here in cc
tell_push (l ∷ lines) [] line rest p each here one =
    let f : l ∷ lines ≡ line ∷ rest = here in
    let same : line ≡ l = cc in
    (subst (λ x. TellsOne x p) same one, tt)
tell_push [] (q ∷ ps) line rest p each here one = absurd each
tell_push (l ∷ lines) (q ∷ ps) line rest p each here one = (each.0, tell_push lines ps line rest p each.1 here one)

-- one more operator
pub tell_more : (lines : List (List ℕ)) (at most : ℕ) (operators more : List building.Placed) (next : ℕ) (line : List ℕ) (place : ℕ) (told : Told) → TellSoFar lines at most operators next →
    next < length lines → drop next lines ≡ line ∷ drop (next + 1) lines → place ≡ building.size operators → LinesTell line place told → place + told.width ≤ most →
    more ≡ operators ++ record { level = told.level; operator = told.operator } ∷ [] → TellSoFar lines at most more (next + 1)
tell_more lines at most operators more next line place told t inside here place_is tells fits are =
    let p = told_at place told in
    let ps = t.placed in
    let end : t.end ≡ place = sym (size_is ps t.end t.order) ∙ ap building.size (sym t.operators_are) ∙ sym place_is in
    let one = tells.1 in
    let wide = tells.0 in
    let mine : drop (length ps) (drop at lines) ≡ line ∷ drop (next + 1) lines = drop-drop (length ps) at lines ∙ ap (λ k. drop k lines) (sym t.next_is) ∙ here in
    record {
      placed = ps ++ p ∷ [];
      operators_are = are ∙ ap (λ us. us ++ bare p ∷ []) t.operators_are ∙ sym (map-append bare ps (p ∷ []));
      end = t.end + width p;
      order = order_push 0 ps t.end p t.order (subst (λ k. OperatorCanStand k p) (sym end) one.stands);
      within = omega arith;
      told = tell_push (drop at lines) ps line (drop (next + 1) lines) p t.told mine one;
      next_is = omega (arith, t.next_is, length-append ps (p ∷ []));
      inside = omega arith;
    }

-- the line at a place
pub line_at : (lines : List (List ℕ)) (next : ℕ) (line item : List ℕ) → next < length lines → line ≡ item → item ≡ get_or lines next item → drop next lines ≡ line ∷ drop (next + 1) lines
line_at lines next line item inside same is = drop_more lines next item inside ∙ ap (λ l. l ∷ drop (next + 1) lines) (sym is ∙ sym same)

-- a line that tells none, or one that is too wide
pub tells_no_more : (line : List ℕ) (place most : ℕ) → TellsNone line place → IsNoOperator line place most
tells_no_more line place most none p can fits e = none p can e

pub tells_too_much : (line : List ℕ) (place most : ℕ) (told : Told) → LinesTell line place told → (place + told.width ≤ most → ⊥) → IsNoOperator line place most
tells_too_much line place most told tells long p can fits e =
    let same : p ≡ told_at place told = tells.1.only p can e in
    let wide : told.width ≡ width p = tells.0 ∙ ap width (sym same) in
    long (omega arith)

pub tells_all : (lines : List (List ℕ)) (at most : ℕ) (operators : List building.Placed) (next place : ℕ) (line : List ℕ) → TellSoFar lines at most operators next → place ≡ building.size operators →
    drop next lines ≡ line ∷ drop (next + 1) lines → IsNoOperator line place most → TellsOperators lines at most operators next
tells_all lines at most operators next place line t place_is here never =
    let end : t.end ≡ place = sym (size_is t.placed t.end t.order) ∙ ap building.size (sym t.operators_are) ∙ sym place_is in
    record {
      front = t;
      stops = λ other rest e.
          let f : other ∷ rest ≡ line ∷ drop (next + 1) lines = sym e ∙ here in
          let same : other ≡ line = cc in
          subst (λ l. IsNoOperator l t.end most) (sym same) (subst (λ k. IsNoOperator line k most) (sym end) never);
    }

-- an operator in the midst of others
record Mid (ps : List ListedOperator) (count : ℕ) : Type 0 where
  front : List ListedOperator
  one : ListedOperator
  back : List ListedOperator
  are : ps ≡ front ++ one ∷ back
  long : length front ≡ count

mid_of : (ps : List ListedOperator) (count : ℕ) → count < length ps → Mid ps count
mid_of [] count less = absurd (omega arith)
mid_of (p ∷ ps) zero less = record { front = []; one = p; back = ps; are = refl; long = refl }
mid_of (p ∷ ps) (suc count) less =
    let rest = mid_of ps count (omega arith) in
    record { front = p ∷ rest.front; one = rest.one; back = rest.back; are = ap (λ qs. p ∷ qs) rest.are; long = ap suc rest.long }

record Middle (at : ℕ) (front : List ListedOperator) (one : ListedOperator) (end : ℕ) : Type 0 where
  mid : ℕ
  order : AreInOrder at front mid
  can : OperatorCanStand mid one
  within : mid + width one ≤ end

middle : (at : ℕ) (front : List ListedOperator) (one : ListedOperator) (back : List ListedOperator) (end : ℕ) → AreInOrder at (front ++ one ∷ back) end → Middle at front one end
middle at [] one back end h = record { mid = at; order = refl; can = h.0; within = order_grows (at + width one) back end h.1 }
middle at (p ∷ front) one back end h =
    let rest = middle (at + width p) front one back end h.1 in
    record { mid = rest.mid; order = (h.0, rest.order); can = rest.can; within = rest.within }

told_mid : (lines : List (List ℕ)) (front : List ListedOperator) (one : ListedOperator) (back : List ListedOperator) (line : List ℕ) (rest : List (List ℕ)) → TellEach lines (front ++ one ∷ back) → drop (length front) lines ≡ line ∷ rest → TellsOne line one
told_mid [] [] one back line rest each here = absurd each
told_mid (l ∷ lines) [] one back line rest each here =
    let f : l ∷ lines ≡ line ∷ rest = here in
    let same : l ≡ line = cc in
    subst (λ x. TellsOne x one) same each.0
told_mid [] (p ∷ front) one back line rest each here = absurd each
told_mid (l ∷ lines) (p ∷ front) one back line rest each here = told_mid lines front one back line rest each.1 here

-- the lines of the operators before one, among those of all
lines_mid : (front : List ListedOperator) (one : ListedOperator) (back more : List ListedOperator) → operator_lines ((front ++ one ∷ back) ++ more) ≡ operator_lines front ++ operator_line one ∷ operator_lines (back ++ more)
lines_mid front one back more =
    ap operator_lines (append_assoc front (one ∷ back) more) ∙ map-append operator_line front (one ∷ (back ++ more))

-- the first lines from a place on stand there
stand_first : (part lines : List (List ℕ)) (at count : ℕ) → at + count ≤ length lines → take count (drop at lines) ≡ part → PartStands part lines at (at + count)
stand_first part lines at count inside e =
    let whole : take count (drop at lines) ++ drop count (drop at lines) ≡ drop at lines = take-append-drop count (drop at lines) in
    let long : length part + length (drop count (drop at lines)) ≡ length (drop at lines) = sym (length-append part (drop count (drop at lines))) ∙ ap length (ap (λ p. p ++ drop count (drop at lines)) (sym e) ∙ whole) in
    record {
      within = inside;
      next_is = omega (arith, long, length-drop at lines, length-drop count (drop at lines));
      part_is = sym whole ∙ ap (λ p. p ++ drop count (drop at lines)) e ∙ ap (λ ls. part ++ ls) (drop-drop count at lines);
    }

-- some lines from a place on, up to another
record IsPart (part lines : List (List ℕ)) (at next : ℕ) : Type 0 where
  whole : part ++ drop next lines ≡ drop at lines
  long : at + length part ≡ next
  inside : next ≤ length lines

part_of : (part lines : List (List ℕ)) (at next : ℕ) → at ≤ next → next ≤ length lines → part ≡ take (next - at) (drop at lines) → IsPart part lines at next
part_of part lines at next up inside is =
    let sum : at + (next - at) ≡ next = omega arith in
    record {
      whole = ap (λ p. p ++ drop next lines) is ∙ ap (λ k. take (next - at) (drop at lines) ++ drop k lines) (sym sum)
          ∙ ap (λ ls. take (next - at) (drop at lines) ++ ls) (sym (drop-drop (next - at) at lines)) ∙ take-append-drop (next - at) (drop at lines);
      long = omega (arith, ap length is, length-take (next - at) (drop at lines), length-drop at lines);
      inside = inside;
    }

-- the operators of a segment that is listed again begin with those that were told
record Begun (operators : List building.Placed) (all ps : List ListedOperator) : Type 0 where
  more : List ListedOperator
  all_are : all ≡ ps ++ more
  count : length more ≡ building.missing (building.size operators)

length_replicate : {A : Type 0} (count : ℕ) (a : A) → length (replicate count a) ≡ count
length_replicate zero a = refl
length_replicate (suc count) a = ap suc (length_replicate count a)

begun : (lines part : List (List ℕ)) (at most next : ℕ) (operators : List building.Placed) (segment : Segment) (same : ℕ) (f : TellSoFar lines at most operators next) (r : IsRelisted operators part segment same) →
    Begun operators r.all f.placed
begun lines part at most next operators segment same f r =
    let whole = filled (syllables segment.words) 0 r.all r.segment_is.filled in
    let us = drop (length operators) (building.filled operators) in
    let parts : building.filled operators ≡ operators ++ us = ap (λ xs. operators ++ xs) (sym (drop_at operators _ (length operators) refl)) in
    let front = front_of 0 r.all f.placed (length (syllables segment.words)) f.end us whole.order f.order (r.all_are ∙ parts ∙ ap (λ os. os ++ us) f.operators_are) in
    let long : length us ≡ building.missing (building.size operators) = ap length (drop_at operators _ (length operators) refl) ∙ length_replicate (building.missing (building.size operators)) _ in
    record {
      more = front.more;
      all_are = front.all_are;
      count = sym (length-map front.more bare) ∙ ap length front.more_are ∙ long;
    }

-- a segment is read
pub body_read : (lines part : List (List ℕ)) (at words next : ℕ) (operators : List building.Placed) (segment : Segment) (same : ℕ) → TellsOperators lines at (6 * words) operators next →
    IsRelisted operators part segment same → at ≤ next → part ≡ take (next - at) (drop at lines) → building.size operators ≡ 6 * words → (at + same < next → ⊥) → ReadsBody words lines at segment next
body_read lines part at words next operators segment same t r up is full past =
    let f = t.front in
    let ps = f.placed in
    let p = part_of part lines at next up f.inside is in
    let b = begun lines part at (6 * words) next operators segment same f r in
    let none : building.missing (6 * words) ≡ 0 = omega arith in
    let all : r.all ≡ ps = b.all_are ∙ ap (λ m. ps ++ m) (empty_if_none b.more (b.count ∙ ap building.missing full ∙ none)) ∙ append-nil ps in
    let end : f.end ≡ 6 * words = sym (size_is ps f.end f.order) ∙ ap building.size (sym f.operators_are) ∙ full in
    let whole = filled (syllables segment.words) 0 r.all r.segment_is.filled in
    let size : length (syllables segment.words) ≡ f.end =
    omega (arith, length_code 0 r.all (length (syllables segment.words)) whole.order, length_code 0 ps f.end f.order, ap (λ qs. length (code_text qs)) all) in
    let count = next - at in
    let counted : at + count ≡ next = omega arith in
    let many : length (operator_lines ps) ≡ length ps = length-map ps operator_line in
    let lines_are : take count (drop at lines) ≡ operator_lines ps =
    sym is ∙ sym (take_all same part (omega (arith, p.long))) ∙ r.same_are.alike ∙ ap (λ qs. take same (operator_lines qs)) all ∙ take_all same (operator_lines ps) (omega (arith, many, f.next_is)) in
    record {
      operators = ps;
      segment_is = subst (λ qs. IsSegment segment qs) all r.segment_is;
      words_are = omega (arith, size, end, length_syllables segment.words);
      stands = subst (λ k. PartStands (operator_lines ps) lines at k) counted (stand_first (operator_lines ps) lines at count (omega (arith, f.inside)) lines_are);
    }

-- the operators that were told end before it does
stops_behind : (lines : List (List ℕ)) (at words next : ℕ) (operators : List building.Placed) (t : TellsOperators lines at (6 * words) operators next) → PartStands (operator_lines t.front.placed) lines at next →
    t.front.end < 6 * words → StopsInBody words lines at next
stops_behind lines at words next operators t stands left = record {
  operators = t.front.placed;
  end = t.front.end;
  order = t.front.order;
  left = left;
  stands = stands;
  stops = t.stops;
}

-- where no operator is told
pub body_none : (lines : List (List ℕ)) (at words next line : ℕ) (operators : List building.Placed) → TellsOperators lines at (6 * words) operators next → IsWordCount words → next ≡ at → line ≡ at + 1 →
    (1 ≤ line) × StopsInBody words lines at (line - 1)
body_none lines at words next line operators t count same is =
    let f = t.front in
    let none : f.placed ≡ [] = empty_if_none f.placed (omega (arith, f.next_is)) in
    let end : 0 ≡ f.end = subst (λ ps. AreInOrder 0 ps f.end) none f.order in
    let some = count.some in
    let back : next ≡ line - 1 = omega arith in
    let lines_are : [] ≡ operator_lines f.placed = ap operator_lines (sym none) in (
      omega arith,
      subst (λ k. StopsInBody words lines at k) back
          (stops_behind lines at words next operators t (subst (λ ls. PartStands ls lines at next) lines_are record { within = f.inside; next_is = omega arith; part_is = ap (λ k. drop k lines) (sym same) }) (omega arith)),
    )

first_of : (part tail : List (List ℕ)) (same : ℕ) (line : List ℕ) (rest : List (List ℕ)) → same < length part → drop same (part ++ tail) ≡ line ∷ rest → drop same part ≡ line ∷ drop (same + 1) part
first_of part tail same line rest less e =
    let here = drop_more part same [] less in
    let f : get_or part same [] ∷ (drop (same + 1) part ++ tail) ≡ line ∷ rest = ap (λ ls. ls ++ tail) (sym here) ∙ sym (drop-append-le same part tail (omega arith)) ∙ e in
    let one : get_or part same [] ≡ line = cc in
    here ∙ ap (λ l. l ∷ drop (same + 1) part) one

-- the first line that is not that of its operator
stops_within : (lines part : List (List ℕ)) (at words next : ℕ) (operators : List building.Placed) (segment : Segment) (same : ℕ) → TellsOperators lines at (6 * words) operators next →
    IsRelisted operators part segment same → IsPart part lines at next → at + same < next → StopsInBody words lines at (at + same)
stops_within lines part at words next operators segment same t r p less =
    let f = t.front in
    let ps = f.placed in
    let b = begun lines part at (6 * words) next operators segment same f r in
    let m = mid_of ps same (omega (arith, f.next_is)) in
    let s = middle 0 m.front m.one m.back f.end (subst (λ qs. AreInOrder 0 qs f.end) m.are f.order) in
    let after = operator_line m.one ∷ operator_lines (m.back ++ b.more) in
    let all : operator_lines r.all ≡ operator_lines m.front ++ after = ap operator_lines (b.all_are ∙ ap (λ qs. qs ++ b.more) m.are) ∙ lines_mid m.front m.one m.back b.more in
    let long : length (operator_lines m.front) ≡ same = length-map m.front operator_line ∙ m.long in
    let short : same < length part = omega (arith, p.long) in
    let lines_are : take same (drop at lines) ≡ operator_lines m.front =
    ap (take same) (sym p.whole) ∙ take-append-le same part (drop next lines) (omega arith) ∙ r.same_are.alike ∙ ap (take same) all ∙ take_at (operator_lines m.front) after same long in
    let wide = width_some m.one in
    let within = s.within in
    let most = f.within in
    record {
      operators = m.front;
      end = s.mid;
      order = s.order;
      left = omega arith;
      stands = stand_first (operator_lines m.front) lines at same (omega (arith, f.inside)) lines_are;
      stops = λ line rest e q can fits is.
          let here : drop same (drop at lines) ≡ line ∷ rest = drop-drop same at lines ∙ e in
          let one = told_mid (drop at lines) m.front m.one m.back line rest (subst (λ qs. TellEach (drop at lines) qs) m.are f.told) (ap (λ k. drop k (drop at lines)) m.long ∙ here) in
          let mine : q ≡ m.one = one.only q (subst (λ k. OperatorCanStand k q) (sym s.can.place_is) can) is in
          r.same_are.differ line (operator_line m.one) (drop (same + 1) part) (operator_lines (m.back ++ b.more))
          (first_of part (drop next lines) same line rest short (ap (drop same) p.whole ∙ here)) (ap (drop same) all ∙ drop_at (operator_lines m.front) after same long) (is ∙ ap operator_line mine);
    }

-- where the lines agree with those of the operators, which are not whole words yet
stops_full : (lines part : List (List ℕ)) (at words next : ℕ) (operators : List building.Placed) (segment : Segment) (same : ℕ) → TellsOperators lines at (6 * words) operators next →
    IsRelisted operators part segment same → IsPart part lines at next → (at + same < next → ⊥) → (building.size operators ≡ 6 * words → ⊥) → StopsInBody words lines at (at + same)
stops_full lines part at words next operators segment same t r p past left =
    let f = t.front in
    let ps = f.placed in
    let b = begun lines part at (6 * words) next operators segment same f r in
    let inside = r.same_are.within in
    let all_same : at + same ≡ next = omega (arith, p.long) in
    let size = size_is ps f.end f.order ∙ refl in
    let end : building.size operators ≡ f.end = ap building.size f.operators_are ∙ size in
    let within = f.within in
    let less : f.end < 6 * words = ⊎_elim (λ (h : f.end < 6 * words). h) (λ (h : 6 * words ≤ f.end). let whole : f.end ≡ 6 * words = omega arith in absurd (left (end ∙ whole))) (cases_lt f.end (6 * words)) in
    let long : length (operator_lines ps) ≡ same = length-map ps operator_line ∙ omega (arith, f.next_is) in
    let all : operator_lines r.all ≡ operator_lines ps ++ operator_lines b.more = ap operator_lines b.all_are ∙ map-append operator_line ps b.more in
    let lines_are : take same (drop at lines) ≡ operator_lines ps =
    ap (take same) (sym p.whole) ∙ take-append-le same part (drop next lines) inside ∙ r.same_are.alike ∙ ap (take same) all ∙ take_at (operator_lines ps) (operator_lines b.more) same long in
    subst (λ k. StopsInBody words lines at k) (sym all_same)
    (stops_behind lines at words next operators t (subst (λ k. PartStands (operator_lines ps) lines at k) all_same (stand_first (operator_lines ps) lines at same (omega (arith, f.inside)) lines_are)) less)

-- a segment is not read
pub body_stops : (lines part : List (List ℕ)) (at words next line : ℕ) (operators : List building.Placed) (segment : Segment) (same : ℕ) → TellsOperators lines at (6 * words) operators next →
    IsRelisted operators part segment same → at ≤ next → part ≡ take (next - at) (drop at lines) → (building.size operators ≡ 6 * words → at + same < next) → line ≡ at + same + 1 →
    (1 ≤ line) × StopsInBody words lines at (line - 1)
body_stops lines part at words next line operators segment same t r up is short line_is =
    let p = part_of part lines at next up t.front.inside is in
    let back : at + same ≡ line - 1 = omega arith in (
      omega arith,
      subst (λ k. StopsInBody words lines at k) back
          (⊎_elim (λ (h : at + same < next). stops_within lines part at words next operators segment same t r p h)
          (λ (h : next ≤ at + same). stops_full lines part at words next operators segment same t r p (λ less. omega arith) (λ full. let less = short full in omega arith))
          (cases_lt (at + same) next)),
    )
