-- CASE: the choice of a statement.
use Rattle.std.proofs.Common.{◌≡◌, refl, sym, ap, ◌∙◌, subst, ℕ, zero, suc, ◌+◌, ◌*◌, ◌<◌, ◌≤◌, List, [], ◌∷◌, length, Some, None, Ok, Bool, true, false, All, arith, length-append, ℤ, ◌⊎◌, inl, inr}
use Rattle.b67_list.proofs.Numbers.{ltb_less, ltb_not_less}
use Rattle.b67_pictures.proofs.Prelude.{recursion_from_All, pos, slice_get, if◌then◌else◌, ◌&&◌, PProgram, PStmts, Scopes, scopes_of, Ask, selects, Choice, choice, choice_of, goes, fails, done, Value, number, truth, whole_of, Operator, Placed, Spells, Code, Segment, failed, segment_limit, end_of_code, operator_at, stmts_count, HasKind, Texts, AreNumbers, Core, with_core, at_operator, without_call, enter_class, action_not_plain, action_is, fault_not_plain, makes, unmade, wholes_of, IsCall, call, operator_there, AbleActor, actor_of, choice_is, faults_so, faulted, text_in, level_in, TheLaws, Pictures, Does, failed_by}
use Rattle.std.specs.Prelude.{negsuc, int_le, int_lt}
use Rattle.std.specs.List.{AllByRecursion}
use Rattle.std.proofs.lemmas.Int.{ints}
use Rattle.b67_num.specs.declared.FaultKind.TheVariants.{CaseIndex}
use Rattle.algol_tree.specs.declared.tree.Kind.TheVariants as types
use Rattle.algol_tree.specs.Plain as tree
use Rattle.b67_deeds.specs.declared.Letter.TheVariants as act
use Rattle.algol_meaning.specs.Choice.{nth_exists}
use Rattle.b67_ops.specs.declared.Operator.TheVariants as ops
use Rattle.b67_ops.specs.declared.PlainKind.TheVariants as kinds
use Rattle.b67_ops.specs.declared.intrinsic.Intrinsic.TheVariants.{Select}
use Rattle.b67_segment.specs.Operators.{text, StandsAmong}
use Rattle.b67_segment.proofs.Fetches.{length_syllables}
use Rattle.b67_segment.proofs.Texts.{text_append}
use Rattle.b67_table.specs.Effect as effects
use Rattle.b67_table.specs.Intrinsics.{case_in}
use Rattle.b67_table.specs.Outcome as outcomes
use Rattle.b67_table.specs.Table.{table}
use Rattle.b67_rows.proofs.IntrinsicRows.{select_raw, select_faults}
use Rattle.b67_pictures.proofs.InFrame.{does_in_frame}
use Rattle.b67_pictures.proofs.Head.{Head}

-- ---- places of a segment

pub segment_short : (segments : List Segment) (n : ℕ) (segment : Segment) → AllByRecursion (λ (s : Segment). length s.words ≤ segment_limit) segments → slice_get segments n ≡ Some segment → length segment.words ≤ segment_limit
segment_short [] n segment all at = cc
segment_short (s ∷ ss) zero segment all at = subst (λ (o : Segment). length o.words ≤ segment_limit) (same_in s segment at) all.0
  where
    same_in : (x y : Segment) → Some x ≡ Some y → x ≡ y
    same_in x y e = cc
segment_short (s ∷ ss) (suc n) segment all at = segment_short ss n segment all.1 at

-- an operator stands before the end of its segment
pub within_segment : (ps : List Placed) (at level : ℕ) (op : Operator) (next : ℕ) (segment : Segment) → StandsAmong ps at level op next → Spells ps segment → length segment.words ≤ segment_limit → at ≤ end_of_code
within_segment ps at level op next segment stands spells small =
    let long : length (text 0 ps) ≡ length (text 0 stands.before) + length (text (0 + length (text 0 stands.before)) (record { level = level; operator = op } ∷ stands.after)) =
    ap (λ (os : List Placed). length (text 0 os)) stands.parts
    ∙ ap length (text_append 0 stands.before (record { level = level; operator = op } ∷ stands.after))
    ∙ length-append (text 0 stands.before) (text (0 + length (text 0 stands.before)) (record { level = level; operator = op } ∷ stands.after)) in
    let spelled : 6 * length segment.words ≡ length (text 0 ps) = sym (length_syllables segment.words) ∙ ap length spells.code in
    omega (arith, long, spelled, small, stands.at_is)

-- ---- the number of a statement

abbrev within : ℤ → ℕ → Bool
within i n = int_le (pos 0) i && int_lt i (pos n)

first_of_more : (n : ℕ) → within (pos 0) (n + 1) ≡ true
first_of_more n = grind (arith, ints)

later_of_more : (i n : ℕ) → within (pos (suc i)) (n + 1) ≡ within (pos i) n
later_of_more i n = grind (arith, ints)

exists_is : (i : ℤ) (ss : PStmts) → nth_exists i ss ≡ within i (stmts_count ss)
exists_is i tree.no_stmts = refl
exists_is (negsuc n) (tree.stmts s ss) = refl
exists_is (pos zero) (tree.stmts s ss) = first_of_more _ ∙ sym (first_of_more (stmts_count ss))
exists_is (pos (suc i)) (tree.stmts s ss) = later_of_more i _ ∙ exists_is (pos i) ss ∙ sym (later_of_more i (stmts_count ss))

within_low : (i n : ℕ) → i < n → within (pos i) n ≡ true
within_low i n h = grind (arith, ints)

within_high : (i n : ℕ) → n ≤ i → within (pos i) n ≡ false
within_high i n h = grind (arith, ints)

-- a number is that of a statement, or of none, for the source and for the machine
data IsCase (z : ℤ) (ss : PStmts) : Type 0 where
  one_of : (i : ℕ) → z ≡ pos i → i < stmts_count ss → nth_exists z ss ≡ true → case_in z (pos (stmts_count ss)) ≡ Some i → IsCase z ss
  none_of : nth_exists z ss ≡ false → case_in z (pos (stmts_count ss)) ≡ None → IsCase z ss

below_or_not : (i n : ℕ) → (i < n) ⊎ (n ≤ i)
below_or_not i zero = inr (omega arith)
below_or_not zero (suc n) = inl (omega arith)
below_or_not (suc i) (suc n) = later (below_or_not i n)
  where
    later : (i < n) ⊎ (n ≤ i) → (suc i < suc n) ⊎ (suc n ≤ suc i)
    later (inl h) = inl (omega (arith, h))
    later (inr h) = inr (omega (arith, h))

case_of : (z : ℤ) (ss : PStmts) → IsCase z ss
case_of (negsuc k) ss = none_of (exists_is (negsuc k) ss) refl
case_of (pos i) ss = by_order (below_or_not i (stmts_count ss))
  where
    by_order : (i < stmts_count ss) ⊎ (stmts_count ss ≤ i) → IsCase (pos i) ss
    by_order (inl h) =
        one_of i refl h (exists_is (pos i) ss ∙ within_low i (stmts_count ss) h) (ap (λ (b : Bool). if b then Some i else None) (ltb_less i (stmts_count ss) h))
    by_order (inr h) = none_of (exists_is (pos i) ss ∙ within_high i (stmts_count ss) h) (ap (λ (b : Bool). if b then Some i else None) (ltb_not_less i (stmts_count ss) h))

number_is : (v : Value) (z : ℤ) → HasKind types.Number v → whole_of v ≡ z → v ≡ number z
number_is (number y) z fits e = ap number e
number_is (truth b) z fits e = absurd fits

-- ---- the action

module _ (tree : PProgram) (code : Code) (texts : Texts) (laws : TheLaws) (short : All (λ (o : Segment). length o.words ≤ segment_limit) code.segments) (actor : AbleActor tree code texts) where
  open actor use {w, lay, img, p, q, part, outer, core, s}

  module _ (v : Value) (ss : PStmts) (head : Head tree code texts actor (selects v ss)) where
    open head use {asks, action as a, answered}

    abbrev sc : Scopes
    sc = scopes_of tree

    -- the arguments are the number, how many statements there are, and where their table is
    abbrev given : List Value
    given = v ∷ number (pos (stmts_count ss)) ∷ number (pos a.0) ∷ []

    given_fit : AreNumbers given
    given_fit = (a.2.fits, (a.2.many, (a.2.place, tt)))

    there : operator_at code core.registers ≡ Ok (ops.Plain kinds.Entr, a.0)
    there = operator_there sc s.stands.held code (text_in tree texts w part) (level_in tree w part) s.stands.pc s.stands.slots core (ops.Plain kinds.Entr) a.0 s.stands.there a.2.stands

    abbrev Called : Type 0
    Called = IsCall tree code texts (actor_of s) Select given a.1 given_fit a.2.lies

    -- the branch of a statement stands in the segment
    table_within : (i : ℕ) → i < stmts_count ss → a.0 + 3 * i ≤ end_of_code
    table_within i h =
        within_segment (text_in tree texts w part) (a.0 + 3 * i) (level_in tree w part) _ _ s.stands.there.segment (a.3 i h).2.stands s.stands.there.spells
        (segment_short code.segments core.registers.segment s.stands.there.segment (recursion_from_All (λ (o : Segment). length o.words ≤ segment_limit) code.segments short) s.stands.there.there)

    module _ (c : Called) where
      abbrev new : ℕ → Core
      new i = without_call core c.others c.calls.m.df (a.0 + 3 * i)

      goes_to_case : (i : ℕ) → whole_of v ≡ pos i → i < stmts_count ss → nth_exists (whole_of v) ss ≡ true → case_in (whole_of v) (pos (stmts_count ss)) ≡ Some i → Does tree code texts w img p
      goes_to_case i is h exists inside =
          does_in_frame tree code texts laws actor (record {
            unmade = unmade part.rest (ap makes asks);
            answer = done;
            nameless = tt;
            new = new i;
            below = refl;
            frame_is = record { is = refl };
            known = s.stands.held;
            known_are = s.stands.held_are;
            pc = a.0 + 3 * i;
            slots = a.1;
            there = c.after_at (a.0 + 3 * i);
            few = c.few;
            comes = answered done (a.0 + 3 * i) a.1 (i, number_is v (pos i) a.2.fits is, h, refl, refl);
          }) w.output act.Select
          (action_not_plain code (ops.Plain kinds.Entr) (at_operator s.has there)
          (enter_class code (at_operator s.has there) Select c.arguments c.reference c.marked c.others c.calls))
          (select_raw code (at_operator s.has there) Select c.arguments c.reference c.marked c.others c.calls (wholes_of given) c.wholes (whole_of v) (pos (stmts_count ss)) (pos a.0) refl refl
          i a.0 inside refl (table_within i h)
          ∙ ap (λ (o : List (List ℕ)). effects.gives (record (with_core img p (new i)) { output = o })) s.by.output)
          (choice_is sc w p q part outer s.at s.todo
          ∙ ap (λ (k : Ask). choice_of sc w p q part outer k) asks
          ∙ ap (λ (b : Bool). if b then (goes sc w p q part outer act.Select w done) else fails sc w p q part outer CaseIndex) exists)
          (λ t. action_is code (ops.Plain kinds.Entr) (at_operator s.has there) (outcomes.gives (record (with_core img p (new i)) { output = w.output })) t ∙ c.action)

      goes_nowhere : nth_exists (whole_of v) ss ≡ false → case_in (whole_of v) (pos (stmts_count ss)) ≡ None → Does tree code texts w img p
      goes_nowhere exists inside =
          let table_is : table code img p ≡ outcomes.faults CaseIndex =
          faults_so code img p CaseIndex
          (select_faults code (at_operator s.has there) Select c.arguments c.reference c.marked c.others c.calls (wholes_of given) c.wholes (whole_of v) (pos (stmts_count ss)) (pos a.0) refl refl inside) in
          let chosen : choice sc w p ≡ fails sc w p q part outer CaseIndex =
          choice_is sc w p q part outer s.at s.todo
          ∙ ap (λ (k : Ask). choice_of sc w p q part outer k) asks
          ∙ ap (λ (b : Bool). if b then (goes sc w p q part outer act.Select w done) else fails sc w p q part outer CaseIndex) exists in
          failed_by CaseIndex (fault_not_plain code (ops.Plain kinds.Entr) (at_operator s.has there) CaseIndex table_is) table_is
          (action_is code (ops.Plain kinds.Entr) (at_operator s.has there) (outcomes.faults CaseIndex) table_is ∙ ap (λ (o : Choice). Some o.action) (sym chosen))
          (subst (λ (o : Choice). Pictures tree code texts o.world (failed img p CaseIndex)) (sym chosen) (lay, faulted tree code texts w lay img s.by p q s.at s.ok CaseIndex))

      by_case : IsCase (whole_of v) ss → Does tree code texts w img p
      by_case (one_of i is h exists inside) = goes_to_case i is h exists inside
      by_case (none_of exists inside) = goes_nowhere exists inside

    pub selecting : Does tree code texts w img p
    selecting = by_case (call tree code texts (actor_of s) Select given a.1 given_fit a.2.lies) (case_of (whole_of v) ss)
