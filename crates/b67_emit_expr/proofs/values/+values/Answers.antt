use Rattle.std.proofs.Common.{◌≡◌, ℕ, ◌+◌, ◌*◌, ◌≤◌, ◌<◌, Bool, true, false, List, [], ◌∷◌, drop, length, get_or, ℤ, pos, to_z, of_z, w64, option_copied, refl, sym, ap, ◌∙◌, subst, arith}
use Rattle.std.proofs.lemmas.List.{drop_all}
use Rattle.b67_deeds.specs.declared.EventTest.TheVariants as test
use Rattle.std.proofs.lemmas.Result.{on_ok_weaker}
use Rattle.algol_tree.specs.declared.tree.Expr.{Expr}
use Rattle.algol_tree.specs.Counts.{expr_tokens, exprs_tokens}
use Rattle.algol_tree.specs.Image.{expr, exprs, variable, call}
use Rattle.algol_tree.specs.Plain as tree
use Rattle.b67_segment.specs.declared.TheConstants.{MOST_SEGMENT_SYLLABLES}
use Rattle.b67_segment.specs.Operators.{size}
use Rattle.b67_segment.specs.Building.{level_set}
use Rattle.b67_segment.proofs.Cited.{set_after}
use Rattle.b67_templates.specs.Fragments.{IsWholeNumber, MovedAt, operator_for, truth_literal}
use Rattle.b67_templates.specs.Emitting.{Emitted}
use Rattle.b67_templates.specs.Paying.{mode_at, given_syllables, inline, inline_given}
use Rattle.b67_emitter.specs.Values.{meant, meanings, filled_syllables}
use Rattle.b67_emitter.proofs.Appends.{same_level}
use Rattle.b67_emit_expr.proofs.Shapes.{call_long, happened_as, available_as, fix_as, wait_as, number_is, truth_is, paren_as, plus_as, neg_as, not_as, two_as, if_as}
use Rattle.b67_emit_expr.proofs.Couples.{code_on, first_code, second_code, paren_code, plus_code, neg_code, not_code, condition_code, then_code, else_code}
use Rattle.b67_emit_expr.proofs.Forms.{listed_as, plain_as, number_form, truth_form, moved_form, paren_form, plus_form, neg_form, not_form, applied_form, exits_aimed, operands_form, calculated_form, chosen_form}
use Rattle.b67_emit_expr.proofs.Listed.{nowhere, list_grown, exits_lie, exits_back, hole_lies}
use Rattle.b67_emit_expr.proofs.Called.{known_call, seen_call, call_syllables, rest_syllables, call_on, begin_left, next_is, next_tokens, next_syllables, next_wanted, next_one, filled_form, called_form}
use Rattle.b67_emit_expr.proofs.Passed.{wanted_on, actual_on, wanted_as, actual_as, known_passed, known_actual, seen_actual, actual_syllables, passed_form, actual_code, value_form}
use Rattle.b67_emit_expr.proofs.Modes.{own_modes, given_named, given_valued}
use Rattle.b67_emit_expr.proofs.Arms.{on_ok_both, has_as, emitted_as, variable_as, variable_syllables, variable_has, variable_arm, calling_tokens, calling_syllables, call_has, call_arm, tested_syllables, tested_has, tested_arm}
use Rattle.b67_emit_expr.proofs.Subscripts.{first_tokens, both_tokens, first_syllables, both_syllables, subscripts_fewer, read_back, told_list, known_lows, known_element, seen_element, some_subscripts, as_many_lows, own_syllables, first_has, first_back, first_whole, second_has, second_back, second_whole, one_form, two_form}
use Rattle.b67_emit_expr.proofs.Elements.{is_element, some_in, none_in, element_has, element_form, alone_has, alone_syllables, alone_form}
use Rattle.b67_emit_expr.proofs.values.+values.Goals as goal

pub operand-aim_exits-requires-clause-list : goal.operand-aim_exits-requires-clause-list
operand-aim_exits-requires-clause-list t c =
    let is : c.len-first.result ≡ length c.args.exits.now.items = omega (arith, c.len-first.ensures, c.args.exits.now.ok.0) in
    let grown =
    list_grown c.args.names.now (level_set c.args.out.now) c.args.out.now c.value_with_exits.new.out c.args.exits.now.items c.value_with_exits.new.exits.items (expr c.args.e.now) c.requires.code
    c.in_ok-value_with_exits.ensures.code in
    omega arith

pub operand-aim_exits-requires-clause-branches : goal.operand-aim_exits-requires-clause-branches
operand-aim_exits-requires-clause-branches t c =
    let is : c.len-first.result ≡ length c.args.exits.now.items = omega (arith, c.len-first.ensures, c.args.exits.now.ok.0) in
    exits_lie c.args.names.now (level_set c.args.out.now) c.args.out.now c.value_with_exits.new.out c.args.exits.now.items c.value_with_exits.new.exits.items (expr c.args.e.now)
    c.requires.code c.in_ok-value_with_exits.ensures.code c.len-first.result is

pub operand-returns-clause-code : goal.operand-returns-clause-code
operand-returns-clause-code t c =
    let is : c.len-first.result ≡ length c.args.exits.now.items = omega (arith, c.len-first.ensures, c.args.exits.now.ok.0) in
    exits_aimed c.args.names.now (level_set c.args.out.now) c.args.out.now c.value_with_exits.new.out c.aim_exits.new.out c.args.exits.now.items
    c.value_with_exits.new.exits.items c.len-first.result (expr c.args.e.now) is c.in_ok-value_with_exits.ensures.code c.aim_exits.ensures.aimed

pub operand-returns-clause-exits : goal.operand-returns-clause-exits
operand-returns-clause-exits t c =
    let is : c.len-first.result ≡ length c.args.exits.now.items = omega (arith, c.len-first.ensures, c.args.exits.now.ok.0) in
    c.aim_exits.ensures.list
    ∙ exits_back c.args.names.now (level_set c.args.out.now) c.args.out.now c.value_with_exits.new.out c.args.exits.now.items c.value_with_exits.new.exits.items (expr c.args.e.now)
    c.requires.code c.in_ok-value_with_exits.ensures.code c.len-first.result is

pub applied-returns-clause-code : goal.applied-returns-clause-code
applied-returns-clause-code t c =
    on_ok_weaker c.append_plain.result
    (λ h. applied_form c.args.names.now c.args.out.now c.operand.new.out c.append_plain.new.out (expr c.args.e.now) c.args.kind c.in_ok-operand.ensures.code h
    c.in_ok-operand.ensures.level)
    c.append_plain.ensures.code

pub calculated-returns-clause-code : goal.calculated-returns-clause-code
calculated-returns-clause-code t c =
    on_ok_weaker c.append_plain.result
    (λ h. calculated_form c.args.names.now c.args.out.now c.operand.new.out c.append_ready.new.out c.operand-2.new.out c.append_plain.new.out c.args.op
    (expr c.args.a.now) (expr c.args.b.now) c.in_ok-operand.ensures.code c.in_ok-append_ready.ensures.code c.in_ok-operand-2.ensures.code
    (plain_as c.args.names.now (level_set c.operand-2.new.out) c.operand-2.new.out c.append_plain.new.out c.operator_for.result (operator_for c.args.op) c.operator_for.ensures h)
    c.in_ok-operand.ensures.level c.in_ok-operand-2.ensures.level)
    c.append_plain.ensures.code

pub calculated-operand-requires : goal.calculated-operand-requires
calculated-operand-requires t c =
    let s = c.args.names.now in
    let a = c.args.out.now in
    let smaller : 3 * expr_tokens (expr c.args.a.now) + 1 < t = omega (arith, c.decreases) in
    let room : size a.operators + inline (meanings s) (expr c.args.a.now) ≤ MOST_SEGMENT_SYLLABLES = omega (arith, c.requires.room) in
    let code = first_code s (level_set a) c.args.op (expr c.args.a.now) (expr c.args.b.now) c.requires.code in
    (smaller, (c.requires.set, (c.requires.near, (code, room))))

pub calculated-operand-requires-2 : goal.calculated-operand-requires-2
calculated-operand-requires-2 t c =
    let s = c.args.names.now in
    let a = c.args.out.now in
    let b = c.append_ready.new.out in
    let level = c.in_ok-append_ready.ensures.level ∙ c.in_ok-operand.ensures.level in
    let smaller : 3 * expr_tokens (expr c.args.b.now) + 1 < t = omega (arith, c.decreases) in
    let room : size b.operators + inline (meanings s) (expr c.args.b.now) ≤ MOST_SEGMENT_SYLLABLES = omega (arith, c.in_ok-append_ready.ensures.size, c.in_ok-operand.ensures.size, c.requires.room) in
    let code = code_on s (level_set a) (level_set b) (expr c.args.b.now) (same_level a b level)
    (second_code s (level_set a) c.args.op (expr c.args.a.now) (expr c.args.b.now) c.requires.code) in
    (smaller, (set_after a b level c.requires.set, (c.requires.near, (code, room))))

pub given-append_given-requires-clause-code : goal.given-append_given-requires-clause-code
given-append_given-requires-clause-code t c =
    wanted_as c.args.names.now (level_set c.args.out.now) c.args.by_name true (expr c.args.e.now) c.if-by_name.true c.requires.code

pub given-append_given-requires-clause-room : goal.given-append_given-requires-clause-room
given-append_given-requires-clause-room t c =
    omega (arith, given_named c.args.by_name (inline (meanings c.args.names.now) (expr c.args.e.now)) c.if-by_name.true, c.requires.room)

pub given-valued-requires : goal.given-valued-requires
given-valued-requires t c =
    let s = c.args.names.now in
    let smaller : 3 * expr_tokens (expr c.args.e.now) + 2 < t = omega (arith, c.decreases) in
    let room : size c.args.out.now.operators + inline (meanings s) (expr c.args.e.now) ≤ MOST_SEGMENT_SYLLABLES =
    omega (arith, given_valued c.args.by_name (inline (meanings s) (expr c.args.e.now)) c.if-by_name.false, c.requires.room) in
    (smaller, (c.requires.set, (c.requires.near, (wanted_as s (level_set c.args.out.now) c.args.by_name false (expr c.args.e.now) c.if-by_name.false c.requires.code, room))))

pub given-returns-then-by_name-clause-code : goal.given-returns-then-by_name-clause-code
given-returns-then-by_name-clause-code t c =
    on_ok_weaker c.append_given.result
    (actual_as c.args.names.now (level_set c.args.out.now) c.args.out.now c.append_given.new.out c.args.by_name true (expr c.args.e.now) c.if-by_name.true)
    c.append_given.ensures.code

pub given-returns-then-by_name-clause-size : goal.given-returns-then-by_name-clause-size
given-returns-then-by_name-clause-size t c =
    on_ok_weaker c.append_given.result
    (λ wide. omega (arith, given_named c.args.by_name (inline (meanings c.args.names.now) (expr c.args.e.now)) c.if-by_name.true, wide)) c.append_given.ensures.size

pub given-returns-else-by_name-clause-code : goal.given-returns-else-by_name-clause-code
given-returns-else-by_name-clause-code t c =
    on_ok_weaker c.valued.result
    (actual_as c.args.names.now (level_set c.args.out.now) c.args.out.now c.valued.new.out c.args.by_name false (expr c.args.e.now) c.if-by_name.false)
    c.valued.ensures.code

pub given-returns-else-by_name-clause-size : goal.given-returns-else-by_name-clause-size
given-returns-else-by_name-clause-size t c =
    on_ok_weaker c.valued.result
    (λ wide. omega (arith, given_valued c.args.by_name (inline (meanings c.args.names.now) (expr c.args.e.now)) c.if-by_name.false, wide)) c.valued.ensures.size

pub valued-couple_of-requires : goal.valued-couple_of-requires
valued-couple_of-requires t c =
    let is = sym c.passed_alone.ensures ∙ ap option_copied c.in-Some.is in
    known_actual c.args.names.now (level_set c.args.out.now) (expr c.args.e.now) c.in-Some.name.now is c.requires.code

pub valued-is_formal-requires : goal.valued-is_formal-requires
valued-is_formal-requires t c =
    let is = sym c.passed_alone.ensures ∙ ap option_copied c.in-Some.is in
    known_passed c.args.names.now (level_set c.args.out.now) (expr c.args.e.now) c.in-Some.name.now is

pub valued-append_passed-requires-clause-seen : goal.valued-append_passed-requires-clause-seen
valued-append_passed-requires-clause-seen t c =
    let is = sym c.passed_alone.ensures ∙ ap option_copied c.in-Some.is in
    seen_actual c.args.names.now (level_set c.args.out.now) (expr c.args.e.now) c.in-Some.name.now is c.couple_of.result c.requires.near c.couple_of.ensures c.requires.code

pub valued-append_passed-requires-clause-room : goal.valued-append_passed-requires-clause-room
valued-append_passed-requires-clause-room t c =
    let is = sym c.passed_alone.ensures ∙ ap option_copied c.in-Some.is in
    omega (arith, actual_syllables c.args.names.now (level_set c.args.out.now) (expr c.args.e.now) c.in-Some.name.now is, c.requires.room)

pub valued-operand-requires : goal.valued-operand-requires
valued-operand-requires t c =
    let none = sym c.passed_alone.ensures ∙ ap option_copied c.in-None.is in
    let smaller : 3 * expr_tokens (expr c.args.e.now) + 1 < t = omega (arith, c.decreases) in
    (smaller, (c.requires.set, (c.requires.near, (actual_code c.args.names.now (level_set c.args.out.now) (expr c.args.e.now) none c.requires.code, c.requires.room))))

pub valued-returns-in-Some-clause-code : goal.valued-returns-in-Some-clause-code
valued-returns-in-Some-clause-code t c =
    let is = sym c.passed_alone.ensures ∙ ap option_copied c.in-Some.is in
    on_ok_both c.append_passed.result
    (passed_form c.args.names.now (level_set c.args.out.now) (expr c.args.e.now) c.in-Some.name.now is c.args.out.now c.append_passed.new.out c.couple_of.result
    c.is_formal.result c.requires.near c.couple_of.ensures c.is_formal.ensures)
    c.append_passed.ensures.array c.append_passed.ensures.event

pub valued-returns-in-Some-clause-size : goal.valued-returns-in-Some-clause-size
valued-returns-in-Some-clause-size t c =
    let is = sym c.passed_alone.ensures ∙ ap option_copied c.in-Some.is in
    on_ok_weaker c.append_passed.result
    (λ wide. omega (arith, actual_syllables c.args.names.now (level_set c.args.out.now) (expr c.args.e.now) c.in-Some.name.now is, wide)) c.append_passed.ensures.size

pub valued-returns-in-None-clause-code : goal.valued-returns-in-None-clause-code
valued-returns-in-None-clause-code t c =
    let none = sym c.passed_alone.ensures ∙ ap option_copied c.in-None.is in
    on_ok_weaker c.operand.result
    (value_form c.args.names.now (level_set c.args.out.now) (expr c.args.e.now) none c.args.out.now c.operand.new.out) c.operand.ensures.code

pub called-couple_of-requires : goal.called-couple_of-requires
called-couple_of-requires t c = known_call c.args.names.now (level_set c.args.out.now) c.args.c.now c.requires.code

pub called-append_begun-requires-clause-seen : goal.called-append_begun-requires-clause-seen
called-append_begun-requires-clause-seen t c =
    seen_call c.args.names.now (level_set c.args.out.now) c.args.c.now c.requires.code c.couple_of.result c.requires.near c.couple_of.ensures

pub called-append_begun-requires-clause-room : goal.called-append_begun-requires-clause-room
called-append_begun-requires-clause-room t c = omega (arith, call_syllables c.args.names.now c.args.c.now, c.requires.room)

pub filled-actuals-init : goal.filled-actuals-init
filled-actuals-init t c = record {
  level = refl;
  exits = refl;
  few = omega arith;
  short = omega arith;
  code = begin_left c.args.names.now (level_set c.args.out.now) c.args.out.now c.args.out.now c.as_slice-actuals.result.now (own_modes c.args.names.now c.args.c.now.name);
}

pub filled-given-requires : goal.filled-given-requires
filled-given-requires t c =
    let s = c.args.names.now in
    let a = c.args.out.now in
    let b = c.actuals.out in
    let xs = c.as_slice-actuals.result.now in
    let i = c.actuals.number in
    let x = c.index-actuals-number.result in
    let mode = c.takes_name.result in
    let whole : xs ≡ c.args.c.now.actuals = c.as_slice-actuals.ensures.value ∙ c.items.ensures in
    let within : i < length xs = omega (arith, c.actuals-test.true) in
    let next = next_is xs i x within c.index-actuals-number.is in
    let tokens = next_tokens xs i x within c.index-actuals-number.is in
    let long = next_syllables (meanings s) (own_modes s c.args.c.now.name) xs i x within c.index-actuals-number.is in
    let same = ap (λ (l : List Expr). exprs_tokens (exprs l)) whole in
    let all = ap (λ (l : List Expr). inline_given (meanings s) (own_modes s c.args.c.now.name) (exprs l)) whole in
    let taken = ap (λ (m : Bool). given_syllables m (inline (meanings s) (expr x))) c.takes_name.ensures in
    let smaller : 3 * expr_tokens (expr x) + 3 < t = omega (arith, tokens, c.actuals.invariant.few, same, c.decreases) in
    let room : size b.operators + given_syllables mode (inline (meanings s) (expr x)) ≤ MOST_SEGMENT_SYLLABLES =
    omega (arith, long, taken, all, c.actuals.invariant.short, rest_syllables s c.args.c.now, c.requires.room) in
    let code = wanted_on s (level_set a) (level_set b) mode (expr x) (same_level a b c.actuals.invariant.level)
    (wanted_as s (level_set a) (mode_at (meant s c.args.c.now.name.spot) i) mode (expr x) (sym c.takes_name.ensures)
    (next_wanted s (level_set a) a b xs c.args.c.now i x (drop i xs) (drop (i + 1) xs) whole next c.requires.code c.actuals.invariant.code)) in
    (smaller, (set_after a b c.actuals.invariant.level c.requires.set, (c.requires.near, (code, room))))

pub filled-append_plain-requires-clause-room : goal.filled-append_plain-requires-clause-room
filled-append_plain-requires-clause-room t c =
    let s = c.args.names.now in
    let whole : c.as_slice-actuals.result.now ≡ c.args.c.now.actuals = c.as_slice-actuals.ensures.value ∙ c.items.ensures in
    omega (arith, ap (λ (l : List Expr). inline_given (meanings s) (own_modes s c.args.c.now.name) (exprs l)) whole, c.actuals.invariant.short, rest_syllables s c.args.c.now, c.requires.room)

pub filled-actuals-preserved : goal.filled-actuals-preserved
filled-actuals-preserved t c =
    let s = c.args.names.now in
    let a = c.args.out.now in
    let b = c.actuals.out in
    let d = c.given.new.out in
    let xs = c.as_slice-actuals.result.now in
    let i = c.actuals.number in
    let x = c.index-actuals-number.result in
    let modes = own_modes s c.args.c.now.name in
    let within : i < length xs = omega (arith, c.actuals-test.true) in
    let next = next_is xs i x within c.index-actuals-number.is in
    let tokens = next_tokens xs i x within c.index-actuals-number.is in
    let long = next_syllables (meanings s) modes xs i x within c.index-actuals-number.is in
    let taken = ap (λ (m : Bool). given_syllables m (inline (meanings s) (expr x))) c.takes_name.ensures in
    record {
      level = c.in_ok-given.ensures.level ∙ c.actuals.invariant.level;
      exits = ◌∙◌ {A = List ℕ} c.in_ok-given.ensures.exits c.actuals.invariant.exits;
      few = omega (arith, tokens, c.actuals.invariant.few);
      short = omega (arith, long, taken, c.in_ok-given.ensures.size, c.actuals.invariant.short);
      code = next_one s (level_set a) a b xs d modes i x (drop i xs) (drop (i + 1) xs) next
          (actual_as s (level_set a) b d (mode_at (meant s c.args.c.now.name.spot) i) c.takes_name.result (expr x) (sym c.takes_name.ensures)
          (actual_on s (level_set b) (level_set a) b d c.takes_name.result (expr x) (same_level a b c.actuals.invariant.level) c.in_ok-given.ensures.code)) c.actuals.invariant.code;
    }

pub filled-returns-clause-size : goal.filled-returns-clause-size
filled-returns-clause-size t c =
    let s = c.args.names.now in
    let whole : c.as_slice-actuals.result.now ≡ c.args.c.now.actuals = c.as_slice-actuals.ensures.value ∙ c.items.ensures in
    on_ok_weaker c.append_plain.result
    (λ wide. omega (arith, ap (λ (l : List Expr). inline_given (meanings s) (own_modes s c.args.c.now.name) (exprs l)) whole, c.actuals.invariant.short, rest_syllables s c.args.c.now, wide))
    c.append_plain.ensures.size

pub filled-returns-clause-code : goal.filled-returns-clause-code
filled-returns-clause-code t c =
    let xs = c.as_slice-actuals.result.now in
    on_ok_weaker c.append_plain.result
    (filled_form c.args.names.now (level_set c.args.out.now) c.args.out.now c.actuals.out c.append_plain.new.out c.args.c.now c.actuals.number xs (drop c.actuals.number xs)
    (c.as_slice-actuals.ensures.value ∙ c.items.ensures) (drop_all c.actuals.number xs (omega (arith, c.actuals-test.false))) c.actuals.invariant.level refl c.actuals.invariant.code)
    c.append_plain.ensures.code

pub called-filled-requires : goal.called-filled-requires
called-filled-requires t c =
    let s = c.args.names.now in
    let a = c.args.out.now in
    let b = c.append_begun.new.out in
    let k = call c.args.c.now in
    let smaller : 3 * exprs_tokens (exprs c.args.c.now.actuals) + 1 < t = omega (arith, c.decreases) in
    let room : size b.operators + filled_syllables s k ≤ MOST_SEGMENT_SYLLABLES =
    omega (arith, call_syllables s c.args.c.now, rest_syllables s c.args.c.now, c.in_ok-append_begun.ensures.size, c.requires.room) in (
      smaller,
      (
        set_after a b c.in_ok-append_begun.ensures.level c.requires.set,
        (
          c.requires.near,
          (
            call_on s (level_set a) (level_set b) k
                (same_level a b c.in_ok-append_begun.ensures.level) c.requires.code,
            room,
          ),
        ),
      ),
    )

pub called-returns-clause-size : goal.called-returns-clause-size
called-returns-clause-size t c =
    let s = c.args.names.now in
    on_ok_weaker c.filled.result
    (λ wide. omega (arith, call_syllables s c.args.c.now, rest_syllables s c.args.c.now, c.in_ok-append_begun.ensures.size, wide)) c.filled.ensures.size

pub called-returns-clause-code : goal.called-returns-clause-code
called-returns-clause-code t c =
    on_ok_weaker c.filled.result
    (called_form c.args.names.now c.args.out.now c.append_begun.new.out c.filled.new.out c.args.c.now c.couple_of.result c.couple_of.ensures c.in_ok-append_begun.ensures.level
    c.in_ok-append_begun.ensures.code)
    c.filled.ensures.code

pub chosen-aim-requires : goal.chosen-aim-requires
chosen-aim-requires t c =
    let has = code_on c.args.names.now (level_set c.args.out.now) (level_set c.append_branch.new.out) (expr c.args.x.now)
    (same_level c.args.out.now c.append_branch.new.out (c.in_ok-otherwise.ensures.level ∙ c.in_ok-operand.ensures.level)) c.requires.first in
    hole_lies c.operand.new.out c.append_branch.new.out c.value_with_exits.new.out c.append_exit.new.out _ _ _ c.operand.new.exits.items c.value_with_exits.new.exits.items
    c.append_exit.new.exits.items c.in_ok-otherwise.otherwise c.in_ok-otherwise.ensures.code (c.in_ok-value_with_exits.ensures.code.code has.scopes (nowhere has.own has.block) has.kind has.fits)
    c.in_ok-append_exit.ensures.code c.in_ok-otherwise.ensures.place

pub chosen-returns-clause-code : goal.chosen-returns-clause-code
chosen-returns-clause-code t c =
    on_ok_weaker c.value_with_exits-2.result
    (λ h spot. chosen_form c.args.names.now c.args.out.now c.operand.new.out c.append_branch.new.out c.value_with_exits.new.out c.append_exit.new.out c.aim.new.out
    c.value_with_exits-2.new.out c.args.exits.now.items c.value_with_exits.new.exits.items c.append_exit.new.exits.items c.value_with_exits-2.new.exits.items
    c.in_ok-otherwise.otherwise (expr c.args.condition.now) (expr c.args.x.now) (expr c.args.y.now) spot c.in_ok-operand.ensures.code c.in_ok-otherwise.ensures.code
    (listed_as c.args.names.now (level_set c.append_branch.new.out) c.append_branch.new.out c.value_with_exits.new.out c.operand.new.exits.items c.args.exits.now.items
    c.value_with_exits.new.exits.items c.value_with_exits.new.exits.items (expr c.args.x.now) c.in_ok-operand.ensures.exits refl c.in_ok-value_with_exits.ensures.code) c.in_ok-append_exit.ensures.code c.in_ok-otherwise.ensures.place c.aim.ensures h
    c.in_ok-operand.ensures.level c.in_ok-value_with_exits.ensures.level)
    c.value_with_exits-2.ensures.code

pub subscript-returns-clause-code : goal.subscript-returns-clause-code
subscript-returns-clause-code t c =
    let same : to_z w64 (of_z w64 c.args.low) ≡ c.args.low = read_back c.args.low c.requires.whole in
    let M : ℤ → Type 0 = λ z. Emitted c.operand.new.out c.append_moved.new.out
    (λ qs. MovedAt qs (level_set c.operand.new.out) z (size c.operand.new.out.operators) (size c.append_moved.new.out.operators)) in
    on_ok_weaker c.append_moved.result
    (λ h. moved_form c.args.names.now c.args.out.now c.operand.new.out c.append_moved.new.out c.args.low (expr c.args.e.now) c.in_ok-operand.ensures.code (subst M same h)
    c.in_ok-operand.ensures.level)
    c.append_moved.ensures.code

pub subscripts-lows_of-requires : goal.subscripts-lows_of-requires
subscripts-lows_of-requires t c = known_lows c.args.names.now (level_set c.args.out.now) c.args.v.now c.requires.code

pub subscripts-couple_of-requires : goal.subscripts-couple_of-requires
subscripts-couple_of-requires t c = known_element c.args.names.now (level_set c.args.out.now) c.args.v.now c.requires.code

pub subscripts-bounds-subs-0 : goal.subscripts-bounds-subs-0
subscripts-bounds-subs-0 t c =
    let s = c.args.names.now in
    let a = c.args.out.now in
    let v = c.args.v.now in
    let ls = c.as_slice-lows.result.now in
    let bounds = told_list s v.name c.lows_of.result.now ls (c.as_slice-lows.ensures.value ∙ c.items.ensures) c.lows_of.ensures in
    let xs = c.as_slice-subs.result.now in
    let whole : xs ≡ v.subs = c.as_slice-subs.ensures.value ∙ c.items-2.ensures in
    some_subscripts s (level_set a) v c.requires.code ls xs bounds whole

pub subscripts-bounds-lows-0 : goal.subscripts-bounds-lows-0
subscripts-bounds-lows-0 t c =
    let s = c.args.names.now in
    let a = c.args.out.now in
    let v = c.args.v.now in
    let ls = c.as_slice-lows.result.now in
    let bounds = told_list s v.name c.lows_of.result.now ls (c.as_slice-lows.ensures.value ∙ c.items.ensures) c.lows_of.ensures in
    let xs = c.as_slice-subs.result.now in
    let whole : xs ≡ v.subs = c.as_slice-subs.ensures.value ∙ c.items-2.ensures in
    let lt : 0 < length ls = omega (arith, as_many_lows s (level_set a) v c.requires.code ls xs bounds whole, some_subscripts s (level_set a) v c.requires.code ls xs bounds whole) in
    lt

pub subscripts-bounds-lows-1 : goal.subscripts-bounds-lows-1
subscripts-bounds-lows-1 t c =
    let s = c.args.names.now in
    let a = c.args.out.now in
    let v = c.args.v.now in
    let ls = c.as_slice-lows.result.now in
    let bounds = told_list s v.name c.lows_of.result.now ls (c.as_slice-lows.ensures.value ∙ c.items.ensures) c.lows_of.ensures in
    let xs = c.as_slice-subs.result.now in
    let whole : xs ≡ v.subs = c.as_slice-subs.ensures.value ∙ c.items-2.ensures in
    let lt : 1 < length ls = omega (arith, as_many_lows s (level_set a) v c.requires.code ls xs bounds whole, c.if-subs-gt1.true) in
    lt

pub subscripts-subscript-requires : goal.subscripts-subscript-requires
subscripts-subscript-requires t c =
    let s = c.args.names.now in
    let a = c.args.out.now in
    let v = c.args.v.now in
    let ls = c.as_slice-lows.result.now in
    let bounds = told_list s v.name c.lows_of.result.now ls (c.as_slice-lows.ensures.value ∙ c.items.ensures) c.lows_of.ensures in
    let xs = c.as_slice-subs.result.now in
    let whole : xs ≡ v.subs = c.as_slice-subs.ensures.value ∙ c.items-2.ensures in
    let x = c.index-subs-0.result in
    let tokens = first_tokens xs c.index-subs-0.result (some_subscripts s (level_set a) v c.requires.code ls xs bounds whole) c.index-subs-0.is in
    let long = first_syllables (meanings s) xs c.index-subs-0.result (some_subscripts s (level_set a) v c.requires.code ls xs bounds whole) c.index-subs-0.is in
    let all = own_syllables s (level_set a) v c.requires.code ls xs bounds whole in
    let same = ap (λ (l : List Expr). exprs_tokens (exprs l)) whole in
    let smaller : 3 * expr_tokens (expr x) + 2 < t = omega (arith, tokens, same, c.decreases) in
    let room : size a.operators + inline (meanings s) (expr x) + 21 ≤ MOST_SEGMENT_SYLLABLES = omega (arith, long, all, c.requires.room) in
    let has = first_has s (level_set a) v c.requires.code ls xs bounds whole x c.index-subs-0.is in
    let fits = first_whole s (level_set a) v c.requires.code ls xs bounds whole x c.index-subs-0.is in
    (smaller, (c.requires.set, (c.requires.near, (has, (fits, room)))))

pub subscripts-append_reference-requires-clause-seen : goal.subscripts-append_reference-requires-clause-seen
subscripts-append_reference-requires-clause-seen t c =
    seen_element c.args.names.now (level_set c.args.out.now) c.args.v.now c.requires.code (level_set c.subscript.new.out) c.couple_of.result
    (same_level c.args.out.now c.subscript.new.out c.in_ok-subscript.ensures.level) c.requires.near c.couple_of.ensures

pub subscripts-append_reference-requires-clause-room : goal.subscripts-append_reference-requires-clause-room
subscripts-append_reference-requires-clause-room t c =
    let s = c.args.names.now in
    let a = c.args.out.now in
    let v = c.args.v.now in
    let ls = c.as_slice-lows.result.now in
    let bounds = told_list s v.name c.lows_of.result.now ls (c.as_slice-lows.ensures.value ∙ c.items.ensures) c.lows_of.ensures in
    let xs = c.as_slice-subs.result.now in
    let whole : xs ≡ v.subs = c.as_slice-subs.ensures.value ∙ c.items-2.ensures in
    let long = first_syllables (meanings s) xs c.index-subs-0.result (some_subscripts s (level_set a) v c.requires.code ls xs bounds whole) c.index-subs-0.is in
    let all = own_syllables s (level_set a) v c.requires.code ls xs bounds whole in
    omega (arith, long, all, c.in_ok-subscript.ensures.size, c.requires.room)

pub subscripts-append_plain-requires-clause-room : goal.subscripts-append_plain-requires-clause-room
subscripts-append_plain-requires-clause-room t c =
    let s = c.args.names.now in
    let a = c.args.out.now in
    let v = c.args.v.now in
    let ls = c.as_slice-lows.result.now in
    let bounds = told_list s v.name c.lows_of.result.now ls (c.as_slice-lows.ensures.value ∙ c.items.ensures) c.lows_of.ensures in
    let xs = c.as_slice-subs.result.now in
    let whole : xs ≡ v.subs = c.as_slice-subs.ensures.value ∙ c.items-2.ensures in
    let long = first_syllables (meanings s) xs c.index-subs-0.result (some_subscripts s (level_set a) v c.requires.code ls xs bounds whole) c.index-subs-0.is in
    let all = own_syllables s (level_set a) v c.requires.code ls xs bounds whole in
    omega (arith, long, all, c.in_ok-subscript.ensures.size, c.in_ok-append_reference.ensures.size, c.requires.room)

pub subscripts-subscript-requires-then-subs-gt1 : goal.subscripts-subscript-requires-then-subs-gt1
subscripts-subscript-requires-then-subs-gt1 t c =
    let s = c.args.names.now in
    let a = c.args.out.now in
    let v = c.args.v.now in
    let ls = c.as_slice-lows.result.now in
    let bounds = told_list s v.name c.lows_of.result.now ls (c.as_slice-lows.ensures.value ∙ c.items.ensures) c.lows_of.ensures in
    let xs = c.as_slice-subs.result.now in
    let whole : xs ≡ v.subs = c.as_slice-subs.ensures.value ∙ c.items-2.ensures in
    let d = c.append_plain.new.out in
    let y = c.index-subs-1.result in
    let level = c.in_ok-append_plain.ensures.level ∙ c.in_ok-append_reference.ensures.level ∙ c.in_ok-subscript.ensures.level in
    let tokens = both_tokens xs c.index-subs-0.result c.index-subs-1.result c.if-subs-gt1.true c.index-subs-0.is c.index-subs-1.is in
    let long = both_syllables (meanings s) xs c.index-subs-0.result c.index-subs-1.result c.if-subs-gt1.true c.index-subs-0.is c.index-subs-1.is in
    let all = own_syllables s (level_set a) v c.requires.code ls xs bounds whole in
    let same = ap (λ (l : List Expr). exprs_tokens (exprs l)) whole in
    let smaller : 3 * expr_tokens (expr y) + 2 < t = omega (arith, tokens, same, c.decreases) in
    let room : size d.operators + inline (meanings s) (expr y) + 21 ≤ MOST_SEGMENT_SYLLABLES =
    omega (arith, long, all, c.in_ok-subscript.ensures.size, c.in_ok-append_reference.ensures.size, c.in_ok-append_plain.ensures.size, c.requires.room) in
    let has = code_on s (level_set a) (level_set d) (expr y) (same_level a d level)
    (second_has s (level_set a) v c.requires.code ls xs bounds whole y c.if-subs-gt1.true c.index-subs-1.is) in
    let fits = second_whole s (level_set a) v c.requires.code ls xs bounds whole y c.if-subs-gt1.true c.index-subs-1.is in
    (smaller, (set_after a d level c.requires.set, (c.requires.near, (has, (fits, room)))))

pub subscripts-append_plain-requires-then-subs-gt1-clause-room : goal.subscripts-append_plain-requires-then-subs-gt1-clause-room
subscripts-append_plain-requires-then-subs-gt1-clause-room t c =
    let s = c.args.names.now in
    let a = c.args.out.now in
    let v = c.args.v.now in
    let ls = c.as_slice-lows.result.now in
    let bounds = told_list s v.name c.lows_of.result.now ls (c.as_slice-lows.ensures.value ∙ c.items.ensures) c.lows_of.ensures in
    let xs = c.as_slice-subs.result.now in
    let whole : xs ≡ v.subs = c.as_slice-subs.ensures.value ∙ c.items-2.ensures in
    let long = both_syllables (meanings s) xs c.index-subs-0.result c.index-subs-1.result c.if-subs-gt1.true c.index-subs-0.is c.index-subs-1.is in
    let all = own_syllables s (level_set a) v c.requires.code ls xs bounds whole in
    omega
    (arith, long, all, c.in_ok-subscript.ensures.size, c.in_ok-append_reference.ensures.size, c.in_ok-append_plain.ensures.size, c.in_ok-subscript-2.ensures.size, c.requires.room)

pub subscripts-returns-in_ok-append_plain-2-clause-code : goal.subscripts-returns-in_ok-append_plain-2-clause-code
subscripts-returns-in_ok-append_plain-2-clause-code t c =
    let s = c.args.names.now in
    let a = c.args.out.now in
    let v = c.args.v.now in
    let ls = c.as_slice-lows.result.now in
    let bounds = told_list s v.name c.lows_of.result.now ls (c.as_slice-lows.ensures.value ∙ c.items.ensures) c.lows_of.ensures in
    let xs = c.as_slice-subs.result.now in
    let whole : xs ≡ v.subs = c.as_slice-subs.ensures.value ∙ c.items-2.ensures in
    let x = c.index-subs-0.result in
    let y = c.index-subs-1.result in
    two_form s v ls xs c.couple_of.result bounds c.couple_of.ensures whole a c.subscript.new.out c.append_reference.new.out
    (to_z w64 (of_z w64 (get_or ls 0 (pos 0)))) x (first_back s (level_set a) v c.requires.code ls xs bounds whole x c.index-subs-0.is) c.index-subs-0.is
    c.in_ok-subscript.ensures.code c.in_ok-append_reference.ensures.code c.in_ok-subscript.ensures.level c.append_plain.new.out
    c.subscript-then-subs-gt1.new.out c.append_plain-then-subs-gt1.new.out (to_z w64 (of_z w64 (get_or ls 1 (pos 0)))) y
    (second_back s (level_set a) v c.requires.code ls xs bounds whole y c.if-subs-gt1.true c.index-subs-1.is) c.index-subs-1.is
    c.in_ok-append_plain.ensures.code c.in_ok-subscript-2.ensures.code c.in_ok-append_plain-2.ensures.code c.in_ok-append_reference.ensures.level
    c.in_ok-append_plain.ensures.level c.in_ok-subscript-2.ensures.level c.if-subs-gt1.true

pub subscripts-returns-in_ok-append_plain-2-clause-size : goal.subscripts-returns-in_ok-append_plain-2-clause-size
subscripts-returns-in_ok-append_plain-2-clause-size t c =
    let s = c.args.names.now in
    let a = c.args.out.now in
    let v = c.args.v.now in
    let ls = c.as_slice-lows.result.now in
    let bounds = told_list s v.name c.lows_of.result.now ls (c.as_slice-lows.ensures.value ∙ c.items.ensures) c.lows_of.ensures in
    let xs = c.as_slice-subs.result.now in
    let whole : xs ≡ v.subs = c.as_slice-subs.ensures.value ∙ c.items-2.ensures in
    let long = both_syllables (meanings s) xs c.index-subs-0.result c.index-subs-1.result c.if-subs-gt1.true c.index-subs-0.is c.index-subs-1.is in
    let all = own_syllables s (level_set a) v c.requires.code ls xs bounds whole in
    omega (
      arith,
      long,
      all,
      c.in_ok-subscript.ensures.size,
      c.in_ok-append_reference.ensures.size,
      c.in_ok-append_plain.ensures.size,
      c.in_ok-subscript-2.ensures.size,
      c.in_ok-append_plain-2.ensures.size,
    )

pub subscripts-returns-else-subs-gt1-clause-code : goal.subscripts-returns-else-subs-gt1-clause-code
subscripts-returns-else-subs-gt1-clause-code t c =
    let s = c.args.names.now in
    let a = c.args.out.now in
    let v = c.args.v.now in
    let ls = c.as_slice-lows.result.now in
    let bounds = told_list s v.name c.lows_of.result.now ls (c.as_slice-lows.ensures.value ∙ c.items.ensures) c.lows_of.ensures in
    let xs = c.as_slice-subs.result.now in
    let whole : xs ≡ v.subs = c.as_slice-subs.ensures.value ∙ c.items-2.ensures in
    let x = c.index-subs-0.result in
    let few : length xs ≤ 1 = omega (arith, c.if-subs-gt1.false) in
    one_form s v ls xs c.couple_of.result bounds c.couple_of.ensures whole a c.subscript.new.out c.append_reference.new.out
    (to_z w64 (of_z w64 (get_or ls 0 (pos 0)))) x (first_back s (level_set a) v c.requires.code ls xs bounds whole x c.index-subs-0.is) c.index-subs-0.is
    c.in_ok-subscript.ensures.code c.in_ok-append_reference.ensures.code c.in_ok-subscript.ensures.level few

pub subscripts-returns-else-subs-gt1-clause-size : goal.subscripts-returns-else-subs-gt1-clause-size
subscripts-returns-else-subs-gt1-clause-size t c =
    let s = c.args.names.now in
    let a = c.args.out.now in
    let v = c.args.v.now in
    let ls = c.as_slice-lows.result.now in
    let bounds = told_list s v.name c.lows_of.result.now ls (c.as_slice-lows.ensures.value ∙ c.items.ensures) c.lows_of.ensures in
    let xs = c.as_slice-subs.result.now in
    let whole : xs ≡ v.subs = c.as_slice-subs.ensures.value ∙ c.items-2.ensures in
    let long = first_syllables (meanings s) xs c.index-subs-0.result (some_subscripts s (level_set a) v c.requires.code ls xs bounds whole) c.index-subs-0.is in
    let all = own_syllables s (level_set a) v c.requires.code ls xs bounds whole in
    omega (arith, long, all, c.in_ok-subscript.ensures.size, c.in_ok-append_reference.ensures.size)

pub read-subscripts-requires : goal.read-subscripts-requires
read-subscripts-requires t c =
    let v = c.args.v.now in
    let some = some_in c.is_empty.result c.items.result.now.len v.subs c.is_empty.ensures (c.items.result.now.ok.0 ∙ ap length c.items.ensures) c.if-is_empty.false in
    let smaller : 3 * exprs_tokens (exprs v.subs) + 1 < t = omega (arith, c.decreases) in (
      smaller,
      (
        c.requires.set,
        (c.requires.near, (element_has c.args.names.now (level_set c.args.out.now) (variable v) (is_element v some) c.requires.code, c.requires.room)),
      ),
    )

pub read-append_name-requires-clause-code : goal.read-append_name-requires-clause-code
read-append_name-requires-clause-code t c =
    let v = c.args.v.now in
    let none = none_in c.is_empty.result c.items.result.now.len v.subs c.is_empty.ensures (c.items.result.now.ok.0 ∙ ap length c.items.ensures) c.if-is_empty.true in
    alone_has c.args.names.now (level_set c.args.out.now) v none c.requires.code

pub read-returns-then-is_empty-clause-code : goal.read-returns-then-is_empty-clause-code
read-returns-then-is_empty-clause-code t c =
    let v = c.args.v.now in
    let none = none_in c.is_empty.result c.items.result.now.len v.subs c.is_empty.ensures (c.items.result.now.ok.0 ∙ ap length c.items.ensures) c.if-is_empty.true in
    on_ok_weaker c.append_name.result
    (alone_form c.args.names.now (level_set c.args.out.now) c.args.out.now c.append_name.new.out v none) c.append_name.ensures.code

pub read-returns-in_ok-subscripts-clause-code : goal.read-returns-in_ok-subscripts-clause-code
read-returns-in_ok-subscripts-clause-code t c =
    let v = c.args.v.now in
    let some = some_in c.is_empty.result c.items.result.now.len v.subs c.is_empty.ensures (c.items.result.now.ok.0 ∙ ap length c.items.ensures) c.if-is_empty.false in
    on_ok_weaker c.append_plain.result
    (element_form c.args.names.now c.args.out.now c.subscripts.new.out c.append_plain.new.out (variable v) (is_element v some) c.in_ok-subscripts.ensures.level
    c.in_ok-subscripts.ensures.code)
    c.append_plain.ensures.code

pub value_with_exits-read-requires : goal.value_with_exits-read-requires
value_with_exits-read-requires t c =
    let s = c.args.names.now in
    let a = c.args.out.now in
    let v = c.in-Variable.v in
    let tokens = variable_as s (level_set a) c.args.e.now v c.in-Variable.is in
    let smaller : 3 * exprs_tokens (exprs v.subs) + 2 < t = omega (arith, tokens, subscripts_fewer v, c.decreases) in
    let room : size a.operators + inline (meanings s) (tree.variable (variable v)) ≤ MOST_SEGMENT_SYLLABLES = omega (arith, variable_syllables s (level_set a) c.args.e.now v c.in-Variable.is, c.requires.room) in
    (smaller, (c.requires.set, (c.requires.near, (variable_has s (level_set a) c.args.e.now v c.in-Variable.is c.requires.code, room))))

pub value_with_exits-returns-in-Variable-clause-code : goal.value_with_exits-returns-in-Variable-clause-code
value_with_exits-returns-in-Variable-clause-code t c =
    on_ok_both c.read.result
    (λ h same. variable_arm c.args.names.now (level_set c.args.out.now) c.args.e.now c.in-Variable.v c.in-Variable.is c.args.out.now c.read.new.out
    c.args.exits.now.items c.read.new.exits.items same h)
    c.read.ensures.code c.read.ensures.exits

pub value_with_exits-returns-in-Number-clause-code : goal.value_with_exits-returns-in-Number-clause-code
value_with_exits-returns-in-Number-clause-code t c =
    on_ok_weaker c.append_number.result
    (λ h. emitted_as c.args.names.now (level_set c.args.out.now) c.args.out.now c.append_number.new.out c.args.exits.now.items c.args.exits.now.items c.args.e.now
    (tree.number c.in-Number.value c.in-Number.field-1) (ap expr c.in-Number.is ∙ number_is c.in-Number.value c.in-Number.field-1)
    (number_form c.args.names.now (level_set c.args.out.now) c.args.out.now c.append_number.new.out c.args.exits.now.items c.in-Number.value c.in-Number.field-1 h))
    c.append_number.ensures.code

pub value_with_exits-returns-in-Truth-clause-code : goal.value_with_exits-returns-in-Truth-clause-code
value_with_exits-returns-in-Truth-clause-code t c =
    on_ok_weaker c.append_plain.result
    (λ h. emitted_as c.args.names.now (level_set c.args.out.now) c.args.out.now c.append_plain.new.out c.args.exits.now.items c.args.exits.now.items c.args.e.now
    (tree.truth c.in-Truth.value c.in-Truth.field-1) (ap expr c.in-Truth.is ∙ truth_is c.in-Truth.value c.in-Truth.field-1)
    (truth_form c.args.names.now (level_set c.args.out.now) c.args.out.now c.append_plain.new.out c.args.exits.now.items c.in-Truth.value c.in-Truth.field-1
    (plain_as c.args.names.now (level_set c.args.out.now) c.args.out.now c.append_plain.new.out c.truth_literal.result (truth_literal c.in-Truth.value) c.truth_literal.ensures h)))
    c.append_plain.ensures.code

pub value_with_exits-returns-in-Paren-clause-code : goal.value_with_exits-returns-in-Paren-clause-code
value_with_exits-returns-in-Paren-clause-code t c =
    let d = c.deref.result.now in
    on_ok_weaker c.value_with_exits.result
    (λ h. emitted_as c.args.names.now (level_set c.args.out.now) c.args.out.now c.value_with_exits.new.out c.args.exits.now.items
    c.value_with_exits.new.exits.items c.args.e.now (tree.paren (expr d) c.in-Paren.field-1)
    (paren_as c.args.e.now d c.in-Paren.e c.in-Paren.field-1 c.deref.ensures c.in-Paren.is)
    (paren_form c.args.names.now (level_set c.args.out.now) c.args.out.now c.value_with_exits.new.out c.args.exits.now.items
    c.value_with_exits.new.exits.items (expr d) c.in-Paren.field-1 h))
    c.value_with_exits.ensures.code

pub value_with_exits-returns-in-Plus-clause-code : goal.value_with_exits-returns-in-Plus-clause-code
value_with_exits-returns-in-Plus-clause-code t c =
    let d = c.deref-in-Plus.result.now in
    on_ok_weaker c.value_with_exits-in-Plus.result
    (λ h. emitted_as c.args.names.now (level_set c.args.out.now) c.args.out.now c.value_with_exits-in-Plus.new.out c.args.exits.now.items
    c.value_with_exits-in-Plus.new.exits.items c.args.e.now (tree.plus (expr d) c.in-Plus.field-1)
    (plus_as c.args.e.now d c.in-Plus.e c.in-Plus.field-1 c.deref-in-Plus.ensures c.in-Plus.is)
    (plus_form c.args.names.now (level_set c.args.out.now) c.args.out.now c.value_with_exits-in-Plus.new.out c.args.exits.now.items
    c.value_with_exits-in-Plus.new.exits.items (expr d) c.in-Plus.field-1 h))
    c.value_with_exits-in-Plus.ensures.code

pub value_with_exits-returns-in-Neg-clause-code : goal.value_with_exits-returns-in-Neg-clause-code
value_with_exits-returns-in-Neg-clause-code t c =
    let d = c.deref-in-Neg.result.now in
    let xs = c.args.exits.now.items in
    let b = c.applied.new.out in
    let p = tree.neg (expr d) c.in-Neg.field-1 in
    on_ok_both c.applied.result
    (λ h same. emitted_as c.args.names.now (level_set c.args.out.now) c.args.out.now b xs c.applied.new.exits.items c.args.e.now p
    (neg_as c.args.e.now d c.in-Neg.e c.in-Neg.field-1 c.deref-in-Neg.ensures c.in-Neg.is)
    (listed_as c.args.names.now (level_set c.args.out.now) c.args.out.now b xs xs xs c.applied.new.exits.items p refl (sym same)
    (neg_form c.args.names.now (level_set c.args.out.now) c.args.out.now b xs (expr d) c.in-Neg.field-1 h)))
    c.applied.ensures.code c.applied.ensures.exits

pub value_with_exits-returns-in-Not-clause-code : goal.value_with_exits-returns-in-Not-clause-code
value_with_exits-returns-in-Not-clause-code t c =
    let d = c.deref-in-Not.result.now in
    let xs = c.args.exits.now.items in
    let b = c.applied-in-Not.new.out in
    let p = tree.not (expr d) c.in-Not.field-1 in
    on_ok_both c.applied-in-Not.result
    (λ h same. emitted_as c.args.names.now (level_set c.args.out.now) c.args.out.now b xs c.applied-in-Not.new.exits.items c.args.e.now p
    (not_as c.args.e.now d c.in-Not.e c.in-Not.field-1 c.deref-in-Not.ensures c.in-Not.is)
    (listed_as c.args.names.now (level_set c.args.out.now) c.args.out.now b xs xs xs c.applied-in-Not.new.exits.items p refl (sym same)
    (not_form c.args.names.now (level_set c.args.out.now) c.args.out.now b xs (expr d) c.in-Not.field-1 h)))
    c.applied-in-Not.ensures.code c.applied-in-Not.ensures.exits

pub value_with_exits-returns-in-Two-clause-code : goal.value_with_exits-returns-in-Two-clause-code
value_with_exits-returns-in-Two-clause-code t c =
    let x = c.deref-in-Two.result.now in
    let y = c.deref-in-Two-2.result.now in
    let xs = c.args.exits.now.items in
    let b = c.calculated.new.out in
    let p = tree.two c.in-Two.op (expr x) (expr y) in
    on_ok_both c.calculated.result
    (λ h same. emitted_as c.args.names.now (level_set c.args.out.now) c.args.out.now b xs c.calculated.new.exits.items c.args.e.now p
    (two_as c.args.e.now x y c.in-Two.op c.in-Two.a c.in-Two.b c.in-Two.is c.deref-in-Two.ensures c.deref-in-Two-2.ensures)
    (listed_as c.args.names.now (level_set c.args.out.now) c.args.out.now b xs xs xs c.calculated.new.exits.items p refl (sym same)
    (operands_form c.args.names.now (level_set c.args.out.now) c.args.out.now b xs c.in-Two.op (expr x) (expr y) h)))
    c.calculated.ensures.code c.calculated.ensures.exits

pub value_with_exits-returns-in-If-clause-code : goal.value_with_exits-returns-in-If-clause-code
value_with_exits-returns-in-If-clause-code t c =
    let p = c.deref-in-If.result.now in
    let x = c.deref-in-If-2.result.now in
    let y = c.deref-in-If-3.result.now in
    on_ok_weaker c.chosen.result
    (λ h. emitted_as c.args.names.now (level_set c.args.out.now) c.args.out.now c.chosen.new.out c.args.exits.now.items c.chosen.new.exits.items c.args.e.now
    (tree.if (expr p) (expr x) (expr y) c.in-If.field-3)
    (if_as c.args.e.now p x y c.in-If.condition c.in-If.x c.in-If.y c.in-If.field-3 c.in-If.is c.deref-in-If.ensures c.deref-in-If-2.ensures c.deref-in-If-3.ensures)
    (h c.in-If.field-3))
    c.chosen.ensures.code

pub value_with_exits-called-requires : goal.value_with_exits-called-requires
value_with_exits-called-requires t c =
    let d = c.in-Call.c in
    let tokens = calling_tokens c.args.names.now (level_set c.args.out.now) c.args.e.now d c.in-Call.is in
    let smaller : 3 * exprs_tokens (exprs d.actuals) + 2 < t = omega (arith, tokens, call_long d, c.decreases) in
    let s = c.args.names.now in
    let room : size c.args.out.now.operators + inline (meanings s) (tree.call (call d)) ≤ MOST_SEGMENT_SYLLABLES =
    omega (arith, calling_syllables s (level_set c.args.out.now) c.args.e.now d c.in-Call.is, c.requires.room) in
    (smaller, (c.requires.set, (c.requires.near, (call_has c.args.names.now (level_set c.args.out.now) c.args.e.now d c.in-Call.is c.requires.code, room))))

pub value_with_exits-returns-in-Call-clause-code : goal.value_with_exits-returns-in-Call-clause-code
value_with_exits-returns-in-Call-clause-code t c =
    on_ok_both c.called.result
    (λ h same. call_arm c.args.names.now (level_set c.args.out.now) c.args.e.now c.in-Call.c c.in-Call.is c.args.out.now c.called.new.out c.args.exits.now.items
    c.called.new.exits.items same h)
    c.called.ensures.code c.called.ensures.exits

pub value_with_exits-append_on_events-requires-clause-code : goal.value_with_exits-append_on_events-requires-clause-code
value_with_exits-append_on_events-requires-clause-code t c = rw c.from_ref.ensures.value (tested_has c.args.names.now (level_set c.args.out.now) c.args.e.now test.Happened (c.in-Happened.event ∷ []) c.in-Happened.field-1 (happened_as c.args.e.now c.in-Happened.event c.in-Happened.field-1 c.in-Happened.is) c.requires.code)

pub value_with_exits-append_on_events-requires-clause-room : goal.value_with_exits-append_on_events-requires-clause-room
value_with_exits-append_on_events-requires-clause-room t c = omega (arith, tested_syllables c.args.names.now (level_set c.args.out.now) c.args.e.now test.Happened (c.in-Happened.event ∷ []) c.in-Happened.field-1 (happened_as c.args.e.now c.in-Happened.event c.in-Happened.field-1 c.in-Happened.is), ap length c.from_ref.ensures.value, c.requires.room)

pub value_with_exits-returns-in-Happened-clause-code : goal.value_with_exits-returns-in-Happened-clause-code
value_with_exits-returns-in-Happened-clause-code t c =
    on_ok_weaker c.append_on_events.result
    (λ h. tested_arm c.args.names.now (level_set c.args.out.now) c.args.e.now test.Happened (c.in-Happened.event ∷ []) c.in-Happened.field-1 (happened_as c.args.e.now c.in-Happened.event c.in-Happened.field-1 c.in-Happened.is) c.args.out.now c.append_on_events.new.out c.args.exits.now.items (rw c.from_ref.ensures.value at h))
    c.append_on_events.ensures.code

pub value_with_exits-returns-in-Happened-clause-size : goal.value_with_exits-returns-in-Happened-clause-size
value_with_exits-returns-in-Happened-clause-size t c =
    on_ok_weaker c.append_on_events.result (λ wide. omega (arith, tested_syllables c.args.names.now (level_set c.args.out.now) c.args.e.now test.Happened (c.in-Happened.event ∷ []) c.in-Happened.field-1 (happened_as c.args.e.now c.in-Happened.event c.in-Happened.field-1 c.in-Happened.is), ap length c.from_ref.ensures.value, wide)) c.append_on_events.ensures.size

pub value_with_exits-append_on_events-requires-in-Available-clause-code : goal.value_with_exits-append_on_events-requires-in-Available-clause-code
value_with_exits-append_on_events-requires-in-Available-clause-code t c = rw c.from_ref-in-Available.ensures.value (tested_has c.args.names.now (level_set c.args.out.now) c.args.e.now test.Available (c.in-Available.event ∷ []) c.in-Available.field-1 (available_as c.args.e.now c.in-Available.event c.in-Available.field-1 c.in-Available.is) c.requires.code)

pub value_with_exits-append_on_events-requires-in-Available-clause-room : goal.value_with_exits-append_on_events-requires-in-Available-clause-room
value_with_exits-append_on_events-requires-in-Available-clause-room t c = omega (arith, tested_syllables c.args.names.now (level_set c.args.out.now) c.args.e.now test.Available (c.in-Available.event ∷ []) c.in-Available.field-1 (available_as c.args.e.now c.in-Available.event c.in-Available.field-1 c.in-Available.is), ap length c.from_ref-in-Available.ensures.value, c.requires.room)

pub value_with_exits-returns-in-Available-clause-code : goal.value_with_exits-returns-in-Available-clause-code
value_with_exits-returns-in-Available-clause-code t c =
    on_ok_weaker c.append_on_events-in-Available.result
    (λ h. tested_arm c.args.names.now (level_set c.args.out.now) c.args.e.now test.Available (c.in-Available.event ∷ []) c.in-Available.field-1 (available_as c.args.e.now c.in-Available.event c.in-Available.field-1 c.in-Available.is) c.args.out.now c.append_on_events-in-Available.new.out c.args.exits.now.items (rw c.from_ref-in-Available.ensures.value at h))
    c.append_on_events-in-Available.ensures.code

pub value_with_exits-returns-in-Available-clause-size : goal.value_with_exits-returns-in-Available-clause-size
value_with_exits-returns-in-Available-clause-size t c =
    on_ok_weaker c.append_on_events-in-Available.result (λ wide. omega (arith, tested_syllables c.args.names.now (level_set c.args.out.now) c.args.e.now test.Available (c.in-Available.event ∷ []) c.in-Available.field-1 (available_as c.args.e.now c.in-Available.event c.in-Available.field-1 c.in-Available.is), ap length c.from_ref-in-Available.ensures.value, wide)) c.append_on_events-in-Available.ensures.size

pub value_with_exits-append_on_events-requires-in-Fix-clause-code : goal.value_with_exits-append_on_events-requires-in-Fix-clause-code
value_with_exits-append_on_events-requires-in-Fix-clause-code t c = rw c.from_ref-in-Fix.ensures.value (tested_has c.args.names.now (level_set c.args.out.now) c.args.e.now test.Fix (c.in-Fix.event ∷ []) c.in-Fix.field-1 (fix_as c.args.e.now c.in-Fix.event c.in-Fix.field-1 c.in-Fix.is) c.requires.code)

pub value_with_exits-append_on_events-requires-in-Fix-clause-room : goal.value_with_exits-append_on_events-requires-in-Fix-clause-room
value_with_exits-append_on_events-requires-in-Fix-clause-room t c = omega (arith, tested_syllables c.args.names.now (level_set c.args.out.now) c.args.e.now test.Fix (c.in-Fix.event ∷ []) c.in-Fix.field-1 (fix_as c.args.e.now c.in-Fix.event c.in-Fix.field-1 c.in-Fix.is), ap length c.from_ref-in-Fix.ensures.value, c.requires.room)

pub value_with_exits-returns-in-Fix-clause-code : goal.value_with_exits-returns-in-Fix-clause-code
value_with_exits-returns-in-Fix-clause-code t c =
    on_ok_weaker c.append_on_events-in-Fix.result
    (λ h. tested_arm c.args.names.now (level_set c.args.out.now) c.args.e.now test.Fix (c.in-Fix.event ∷ []) c.in-Fix.field-1 (fix_as c.args.e.now c.in-Fix.event c.in-Fix.field-1 c.in-Fix.is) c.args.out.now c.append_on_events-in-Fix.new.out c.args.exits.now.items (rw c.from_ref-in-Fix.ensures.value at h))
    c.append_on_events-in-Fix.ensures.code

pub value_with_exits-returns-in-Fix-clause-size : goal.value_with_exits-returns-in-Fix-clause-size
value_with_exits-returns-in-Fix-clause-size t c =
    on_ok_weaker c.append_on_events-in-Fix.result (λ wide. omega (arith, tested_syllables c.args.names.now (level_set c.args.out.now) c.args.e.now test.Fix (c.in-Fix.event ∷ []) c.in-Fix.field-1 (fix_as c.args.e.now c.in-Fix.event c.in-Fix.field-1 c.in-Fix.is), ap length c.from_ref-in-Fix.ensures.value, wide)) c.append_on_events-in-Fix.ensures.size

pub value_with_exits-append_on_events-requires-in-WaitAny-clause-code : goal.value_with_exits-append_on_events-requires-in-WaitAny-clause-code
value_with_exits-append_on_events-requires-in-WaitAny-clause-code t c = rw (c.deref-in-WaitAny.ensures.value ∙ c.items.ensures) (tested_has c.args.names.now (level_set c.args.out.now) c.args.e.now test.WaitAny c.in-WaitAny.events c.in-WaitAny.field-1 (wait_as c.args.e.now c.in-WaitAny.events c.in-WaitAny.field-1 c.in-WaitAny.is) c.requires.code)

pub value_with_exits-append_on_events-requires-in-WaitAny-clause-room : goal.value_with_exits-append_on_events-requires-in-WaitAny-clause-room
value_with_exits-append_on_events-requires-in-WaitAny-clause-room t c = omega (arith, tested_syllables c.args.names.now (level_set c.args.out.now) c.args.e.now test.WaitAny c.in-WaitAny.events c.in-WaitAny.field-1 (wait_as c.args.e.now c.in-WaitAny.events c.in-WaitAny.field-1 c.in-WaitAny.is), ap length (c.deref-in-WaitAny.ensures.value ∙ c.items.ensures), c.requires.room)

pub value_with_exits-returns-in-WaitAny-clause-code : goal.value_with_exits-returns-in-WaitAny-clause-code
value_with_exits-returns-in-WaitAny-clause-code t c =
    on_ok_weaker c.append_on_events-in-WaitAny.result
    (λ h. tested_arm c.args.names.now (level_set c.args.out.now) c.args.e.now test.WaitAny c.in-WaitAny.events c.in-WaitAny.field-1 (wait_as c.args.e.now c.in-WaitAny.events c.in-WaitAny.field-1 c.in-WaitAny.is) c.args.out.now c.append_on_events-in-WaitAny.new.out c.args.exits.now.items (rw (c.deref-in-WaitAny.ensures.value ∙ c.items.ensures) at h))
    c.append_on_events-in-WaitAny.ensures.code

pub value_with_exits-returns-in-WaitAny-clause-size : goal.value_with_exits-returns-in-WaitAny-clause-size
value_with_exits-returns-in-WaitAny-clause-size t c =
    on_ok_weaker c.append_on_events-in-WaitAny.result (λ wide. omega (arith, tested_syllables c.args.names.now (level_set c.args.out.now) c.args.e.now test.WaitAny c.in-WaitAny.events c.in-WaitAny.field-1 (wait_as c.args.e.now c.in-WaitAny.events c.in-WaitAny.field-1 c.in-WaitAny.is), ap length (c.deref-in-WaitAny.ensures.value ∙ c.items.ensures), wide)) c.append_on_events-in-WaitAny.ensures.size

pub value_with_exits-value_with_exits-requires : goal.value_with_exits-value_with_exits-requires
value_with_exits-value_with_exits-requires t c =
    let s = c.args.names.now in
    let a = c.args.out.now in
    let level = level_set a in
    let d = c.deref.result.now in
    let is = paren_as c.args.e.now d c.in-Paren.e c.in-Paren.field-1 c.deref.ensures c.in-Paren.is in
    let smaller : 3 * expr_tokens (expr d) < t = omega (arith, ap expr_tokens is, c.decreases) in
    let room : size a.operators + inline (meanings s) (expr d) ≤ MOST_SEGMENT_SYLLABLES = omega (arith, ap (inline (meanings s)) is, c.requires.room) in
    let code = paren_code s level (expr d) c.in-Paren.field-1 (has_as s level c.args.e.now (tree.paren (expr d) c.in-Paren.field-1) is c.requires.code) in
    (smaller, (c.requires.set, (c.requires.near, (code, room))))

pub value_with_exits-returns-in-Paren-clause-size : goal.value_with_exits-returns-in-Paren-clause-size
value_with_exits-returns-in-Paren-clause-size t c =
    let d = c.deref.result.now in
    let is = paren_as c.args.e.now d c.in-Paren.e c.in-Paren.field-1 c.deref.ensures c.in-Paren.is in
    on_ok_weaker c.value_with_exits.result (λ wide. omega (arith, ap (inline (meanings c.args.names.now)) is, wide)) c.value_with_exits.ensures.size

pub value_with_exits-value_with_exits-requires-in-Plus : goal.value_with_exits-value_with_exits-requires-in-Plus
value_with_exits-value_with_exits-requires-in-Plus t c =
    let s = c.args.names.now in
    let a = c.args.out.now in
    let level = level_set a in
    let d = c.deref-in-Plus.result.now in
    let is = plus_as c.args.e.now d c.in-Plus.e c.in-Plus.field-1 c.deref-in-Plus.ensures c.in-Plus.is in
    let smaller : 3 * expr_tokens (expr d) < t = omega (arith, ap expr_tokens is, c.decreases) in
    let room : size a.operators + inline (meanings s) (expr d) ≤ MOST_SEGMENT_SYLLABLES = omega (arith, ap (inline (meanings s)) is, c.requires.room) in
    let code = plus_code s level (expr d) c.in-Plus.field-1 (has_as s level c.args.e.now (tree.plus (expr d) c.in-Plus.field-1) is c.requires.code) in
    (smaller, (c.requires.set, (c.requires.near, (code, room))))

pub value_with_exits-returns-in-Plus-clause-size : goal.value_with_exits-returns-in-Plus-clause-size
value_with_exits-returns-in-Plus-clause-size t c =
    let d = c.deref-in-Plus.result.now in
    let is = plus_as c.args.e.now d c.in-Plus.e c.in-Plus.field-1 c.deref-in-Plus.ensures c.in-Plus.is in
    on_ok_weaker c.value_with_exits-in-Plus.result (λ wide. omega (arith, ap (inline (meanings c.args.names.now)) is, wide)) c.value_with_exits-in-Plus.ensures.size

pub value_with_exits-applied-requires : goal.value_with_exits-applied-requires
value_with_exits-applied-requires t c =
    let s = c.args.names.now in
    let a = c.args.out.now in
    let level = level_set a in
    let d = c.deref-in-Neg.result.now in
    let is = neg_as c.args.e.now d c.in-Neg.e c.in-Neg.field-1 c.deref-in-Neg.ensures c.in-Neg.is in
    let smaller : 3 * expr_tokens (expr d) + 2 < t = omega (arith, ap expr_tokens is, c.decreases) in
    let room : size a.operators + inline (meanings s) (expr d) + 1 ≤ MOST_SEGMENT_SYLLABLES = omega (arith, ap (inline (meanings s)) is, c.requires.room) in
    let code = neg_code s level (expr d) c.in-Neg.field-1 (has_as s level c.args.e.now (tree.neg (expr d) c.in-Neg.field-1) is c.requires.code) in
    (smaller, (c.requires.set, (c.requires.near, (code, room))))

pub value_with_exits-returns-in-Neg-clause-size : goal.value_with_exits-returns-in-Neg-clause-size
value_with_exits-returns-in-Neg-clause-size t c =
    let d = c.deref-in-Neg.result.now in
    let is = neg_as c.args.e.now d c.in-Neg.e c.in-Neg.field-1 c.deref-in-Neg.ensures c.in-Neg.is in
    on_ok_weaker c.applied.result (λ wide. omega (arith, ap (inline (meanings c.args.names.now)) is, wide)) c.applied.ensures.size

pub value_with_exits-applied-requires-in-Not : goal.value_with_exits-applied-requires-in-Not
value_with_exits-applied-requires-in-Not t c =
    let s = c.args.names.now in
    let a = c.args.out.now in
    let level = level_set a in
    let d = c.deref-in-Not.result.now in
    let is = not_as c.args.e.now d c.in-Not.e c.in-Not.field-1 c.deref-in-Not.ensures c.in-Not.is in
    let smaller : 3 * expr_tokens (expr d) + 2 < t = omega (arith, ap expr_tokens is, c.decreases) in
    let room : size a.operators + inline (meanings s) (expr d) + 1 ≤ MOST_SEGMENT_SYLLABLES = omega (arith, ap (inline (meanings s)) is, c.requires.room) in
    let code = not_code s level (expr d) c.in-Not.field-1 (has_as s level c.args.e.now (tree.not (expr d) c.in-Not.field-1) is c.requires.code) in
    (smaller, (c.requires.set, (c.requires.near, (code, room))))

pub value_with_exits-returns-in-Not-clause-size : goal.value_with_exits-returns-in-Not-clause-size
value_with_exits-returns-in-Not-clause-size t c =
    let d = c.deref-in-Not.result.now in
    let is = not_as c.args.e.now d c.in-Not.e c.in-Not.field-1 c.deref-in-Not.ensures c.in-Not.is in
    on_ok_weaker c.applied-in-Not.result (λ wide. omega (arith, ap (inline (meanings c.args.names.now)) is, wide)) c.applied-in-Not.ensures.size

pub value_with_exits-calculated-requires : goal.value_with_exits-calculated-requires
value_with_exits-calculated-requires t c =
    let s = c.args.names.now in
    let a = c.args.out.now in
    let level = level_set a in
    let x = c.deref-in-Two.result.now in
    let y = c.deref-in-Two-2.result.now in
    let is = two_as c.args.e.now x y c.in-Two.op c.in-Two.a c.in-Two.b c.in-Two.is c.deref-in-Two.ensures c.deref-in-Two-2.ensures in
    let smaller : 3 * (expr_tokens (expr x) + expr_tokens (expr y)) + 2 < t = omega (arith, ap expr_tokens is, c.decreases) in
    let room : size a.operators + inline (meanings s) (tree.two c.in-Two.op (expr x) (expr y)) ≤ MOST_SEGMENT_SYLLABLES = omega (arith, ap (inline (meanings s)) is, c.requires.room) in
    (smaller, (c.requires.set, (c.requires.near, (has_as s level c.args.e.now (tree.two c.in-Two.op (expr x) (expr y)) is c.requires.code, room))))

pub value_with_exits-returns-in-Two-clause-size : goal.value_with_exits-returns-in-Two-clause-size
value_with_exits-returns-in-Two-clause-size t c =
    let is = two_as c.args.e.now c.deref-in-Two.result.now c.deref-in-Two-2.result.now c.in-Two.op c.in-Two.a c.in-Two.b c.in-Two.is c.deref-in-Two.ensures c.deref-in-Two-2.ensures in
    on_ok_weaker c.calculated.result (λ wide. omega (arith, ap (inline (meanings c.args.names.now)) is, wide)) c.calculated.ensures.size

pub value_with_exits-chosen-requires : goal.value_with_exits-chosen-requires
value_with_exits-chosen-requires t c =
    let s = c.args.names.now in
    let a = c.args.out.now in
    let level = level_set a in
    let p = c.deref-in-If.result.now in
    let x = c.deref-in-If-2.result.now in
    let y = c.deref-in-If-3.result.now in
    let spot = c.in-If.field-3 in
    let is = if_as c.args.e.now p x y c.in-If.condition c.in-If.x c.in-If.y spot c.in-If.is c.deref-in-If.ensures c.deref-in-If-2.ensures c.deref-in-If-3.ensures in
    let smaller : 3 * (expr_tokens (expr p) + expr_tokens (expr x) + expr_tokens (expr y)) + 2 < t = omega (arith, ap expr_tokens is, c.decreases) in
    let room : size a.operators + inline (meanings s) (expr p) + inline (meanings s) (expr x) + inline (meanings s) (expr y) + 6 ≤ MOST_SEGMENT_SYLLABLES =
    omega (arith, ap (inline (meanings s)) is, c.requires.room) in
    let has = has_as s level c.args.e.now (tree.if (expr p) (expr x) (expr y) spot) is c.requires.code in
    let condition = condition_code s level (expr p) (expr x) (expr y) spot has in
    let first = then_code s level (expr p) (expr x) (expr y) spot has in
    let second = else_code s level (expr p) (expr x) (expr y) spot has in
    (smaller, (c.requires.set, (c.requires.near, (condition, (first, (second, room))))))

pub value_with_exits-returns-in-If-clause-size : goal.value_with_exits-returns-in-If-clause-size
value_with_exits-returns-in-If-clause-size t c =
    let p = c.deref-in-If.result.now in
    let x = c.deref-in-If-2.result.now in
    let y = c.deref-in-If-3.result.now in
    let spot = c.in-If.field-3 in
    let is = if_as c.args.e.now p x y c.in-If.condition c.in-If.x c.in-If.y spot c.in-If.is c.deref-in-If.ensures c.deref-in-If-2.ensures c.deref-in-If-3.ensures in
    on_ok_weaker c.chosen.result (λ wide. omega (arith, ap (inline (meanings c.args.names.now)) is, wide)) c.chosen.ensures.size

pub value_with_exits-append_number-requires-clause-room : goal.value_with_exits-append_number-requires-clause-room
value_with_exits-append_number-requires-clause-room t c =
    let is = ap expr c.in-Number.is ∙ number_is c.in-Number.value c.in-Number.field-1 in
    omega (arith, ap (inline (meanings c.args.names.now)) is, c.requires.room)

pub value_with_exits-append_plain-requires-clause-room : goal.value_with_exits-append_plain-requires-clause-room
value_with_exits-append_plain-requires-clause-room t c =
    let is = ap expr c.in-Truth.is ∙ truth_is c.in-Truth.value c.in-Truth.field-1 in
    omega (arith, ap (inline (meanings c.args.names.now)) is, c.requires.room)

pub value_with_exits-returns-in-Number-clause-size : goal.value_with_exits-returns-in-Number-clause-size
value_with_exits-returns-in-Number-clause-size t c =
    let is = ap expr c.in-Number.is ∙ number_is c.in-Number.value c.in-Number.field-1 in
    on_ok_weaker c.append_number.result (λ wide. omega (arith, ap (inline (meanings c.args.names.now)) is, wide)) c.append_number.ensures.size

pub value_with_exits-returns-in-Truth-clause-size : goal.value_with_exits-returns-in-Truth-clause-size
value_with_exits-returns-in-Truth-clause-size t c =
    let is = ap expr c.in-Truth.is ∙ truth_is c.in-Truth.value c.in-Truth.field-1 in
    on_ok_weaker c.append_plain.result (λ wide. omega (arith, ap (inline (meanings c.args.names.now)) is, wide)) c.append_plain.ensures.size

pub value_with_exits-returns-in-Variable-clause-size : goal.value_with_exits-returns-in-Variable-clause-size
value_with_exits-returns-in-Variable-clause-size t c =
    let long = variable_syllables c.args.names.now (level_set c.args.out.now) c.args.e.now c.in-Variable.v c.in-Variable.is in
    on_ok_weaker c.read.result (λ wide. omega (arith, long, wide)) c.read.ensures.size

pub value_with_exits-returns-in-Call-clause-size : goal.value_with_exits-returns-in-Call-clause-size
value_with_exits-returns-in-Call-clause-size t c =
    let long = calling_syllables c.args.names.now (level_set c.args.out.now) c.args.e.now c.in-Call.c c.in-Call.is in
    on_ok_weaker c.called.result (λ wide. omega (arith, long, wide)) c.called.ensures.size

pub value_with_exits-returns-in-Number-clause-level : goal.value_with_exits-returns-in-Number-clause-level
value_with_exits-returns-in-Number-clause-level t c = c.append_number.ensures.level

pub value_with_exits-returns-in-Truth-clause-level : goal.value_with_exits-returns-in-Truth-clause-level
value_with_exits-returns-in-Truth-clause-level t c = c.append_plain.ensures.level

pub value_with_exits-returns-in-Variable-clause-level : goal.value_with_exits-returns-in-Variable-clause-level
value_with_exits-returns-in-Variable-clause-level t c = c.read.ensures.level

pub value_with_exits-returns-in-Paren-clause-level : goal.value_with_exits-returns-in-Paren-clause-level
value_with_exits-returns-in-Paren-clause-level t c = c.value_with_exits.ensures.level

pub value_with_exits-returns-in-Plus-clause-level : goal.value_with_exits-returns-in-Plus-clause-level
value_with_exits-returns-in-Plus-clause-level t c = c.value_with_exits-in-Plus.ensures.level

pub value_with_exits-returns-in-Neg-clause-level : goal.value_with_exits-returns-in-Neg-clause-level
value_with_exits-returns-in-Neg-clause-level t c = c.applied.ensures.level

pub value_with_exits-returns-in-Not-clause-level : goal.value_with_exits-returns-in-Not-clause-level
value_with_exits-returns-in-Not-clause-level t c = c.applied-in-Not.ensures.level

pub value_with_exits-returns-in-Two-clause-level : goal.value_with_exits-returns-in-Two-clause-level
value_with_exits-returns-in-Two-clause-level t c = c.calculated.ensures.level

pub value_with_exits-returns-in-If-clause-level : goal.value_with_exits-returns-in-If-clause-level
value_with_exits-returns-in-If-clause-level t c = c.chosen.ensures.level

pub value_with_exits-returns-in-Call-clause-level : goal.value_with_exits-returns-in-Call-clause-level
value_with_exits-returns-in-Call-clause-level t c = c.called.ensures.level

pub value_with_exits-returns-in-Happened-clause-level : goal.value_with_exits-returns-in-Happened-clause-level
value_with_exits-returns-in-Happened-clause-level t c = c.append_on_events.ensures.level

pub value_with_exits-returns-in-Available-clause-level : goal.value_with_exits-returns-in-Available-clause-level
value_with_exits-returns-in-Available-clause-level t c = c.append_on_events-in-Available.ensures.level

pub value_with_exits-returns-in-Fix-clause-level : goal.value_with_exits-returns-in-Fix-clause-level
value_with_exits-returns-in-Fix-clause-level t c = c.append_on_events-in-Fix.ensures.level

pub value_with_exits-returns-in-WaitAny-clause-level : goal.value_with_exits-returns-in-WaitAny-clause-level
value_with_exits-returns-in-WaitAny-clause-level t c = c.append_on_events-in-WaitAny.ensures.level

pub chosen-operand-requires : goal.chosen-operand-requires
chosen-operand-requires t c =
    let s = c.args.names.now in
    let a = c.args.out.now in
    let smaller : 3 * expr_tokens (expr c.args.condition.now) + 1 < t = omega (arith, c.decreases) in
    let room : size a.operators + inline (meanings s) (expr c.args.condition.now) ≤ MOST_SEGMENT_SYLLABLES = omega (arith, c.requires.room) in
    (smaller, (c.requires.set, (c.requires.near, (c.requires.condition, room))))

pub chosen-append_branch-requires-clause-room : goal.chosen-append_branch-requires-clause-room
chosen-append_branch-requires-clause-room t c =
    omega (arith, c.in_ok-operand.ensures.size, c.requires.room)

pub chosen-value_with_exits-requires : goal.chosen-value_with_exits-requires
chosen-value_with_exits-requires t c =
    let s = c.args.names.now in
    let a = c.args.out.now in
    let b = c.append_branch.new.out in
    let level = c.in_ok-otherwise.ensures.level ∙ c.in_ok-operand.ensures.level in
    let smaller : 3 * expr_tokens (expr c.args.x.now) < t = omega (arith, c.decreases) in
    let room : size b.operators + inline (meanings s) (expr c.args.x.now) ≤ MOST_SEGMENT_SYLLABLES = omega (arith, c.in_ok-otherwise.ensures.size, c.in_ok-operand.ensures.size, c.requires.room) in
    let code = code_on s (level_set a) (level_set b) (expr c.args.x.now) (same_level a b level) c.requires.first in
    (smaller, (set_after a b level c.requires.set, (c.requires.near, (code, room))))

pub chosen-append_exit-requires-clause-room : goal.chosen-append_exit-requires-clause-room
chosen-append_exit-requires-clause-room t c =
    omega (arith, c.in_ok-value_with_exits.ensures.size, c.in_ok-otherwise.ensures.size, c.in_ok-operand.ensures.size, c.requires.room)

pub chosen-value_with_exits-requires-2 : goal.chosen-value_with_exits-requires-2
chosen-value_with_exits-requires-2 t c =
    let s = c.args.names.now in
    let a = c.args.out.now in
    let b = c.aim.new.out in
    let level = c.aim.ensures.level ∙ c.in_ok-append_exit.ensures.level ∙ c.in_ok-value_with_exits.ensures.level ∙ c.in_ok-otherwise.ensures.level ∙ c.in_ok-operand.ensures.level in
    let smaller : 3 * expr_tokens (expr c.args.y.now) < t = omega (arith, c.decreases) in
    let room : size b.operators + inline (meanings s) (expr c.args.y.now) ≤ MOST_SEGMENT_SYLLABLES =
    omega (arith, c.aim.ensures.place, c.in_ok-append_exit.ensures.size, c.in_ok-value_with_exits.ensures.size, c.in_ok-otherwise.ensures.size, c.in_ok-operand.ensures.size, c.requires.room) in
    let code = code_on s (level_set a) (level_set b) (expr c.args.y.now) (same_level a b level) c.requires.second in
    (smaller, (set_after a b level c.requires.set, (c.requires.near, (code, room))))

pub chosen-returns-clause-level : goal.chosen-returns-clause-level
chosen-returns-clause-level t c =
    let level = c.aim.ensures.level ∙ c.in_ok-append_exit.ensures.level ∙ c.in_ok-value_with_exits.ensures.level ∙ c.in_ok-otherwise.ensures.level ∙ c.in_ok-operand.ensures.level in
    on_ok_weaker c.value_with_exits-2.result (λ same. same ∙ level) c.value_with_exits-2.ensures.level

pub chosen-returns-clause-size : goal.chosen-returns-clause-size
chosen-returns-clause-size t c =
    on_ok_weaker c.value_with_exits-2.result
    (λ wide. omega (arith, c.aim.ensures.place, c.in_ok-append_exit.ensures.size, c.in_ok-value_with_exits.ensures.size, c.in_ok-otherwise.ensures.size, c.in_ok-operand.ensures.size, wide))
    c.value_with_exits-2.ensures.size

pub applied-operand-requires : goal.applied-operand-requires
applied-operand-requires t c =
    let smaller : 3 * expr_tokens (expr c.args.e.now) + 1 < t = omega (arith, c.decreases) in
    let room : size c.args.out.now.operators + inline (meanings c.args.names.now) (expr c.args.e.now) ≤ MOST_SEGMENT_SYLLABLES = omega (arith, c.requires.room) in
    (smaller, (c.requires.set, (c.requires.near, (c.requires.code, room))))

pub applied-append_plain-requires-clause-set : goal.applied-append_plain-requires-clause-set
applied-append_plain-requires-clause-set t c = set_after c.args.out.now c.operand.new.out c.in_ok-operand.ensures.level c.requires.set

pub applied-append_plain-requires-clause-room : goal.applied-append_plain-requires-clause-room
applied-append_plain-requires-clause-room t c = omega (arith, c.in_ok-operand.ensures.size, c.requires.room)

pub applied-returns-clause-level : goal.applied-returns-clause-level
applied-returns-clause-level t c = on_ok_weaker c.append_plain.result (λ same. same ∙ c.in_ok-operand.ensures.level) c.append_plain.ensures.level

pub applied-returns-clause-size : goal.applied-returns-clause-size
applied-returns-clause-size t c = on_ok_weaker c.append_plain.result (λ wide. omega (arith, c.in_ok-operand.ensures.size, wide)) c.append_plain.ensures.size

pub applied-returns-clause-exits : goal.applied-returns-clause-exits
applied-returns-clause-exits t c = on_ok_weaker c.append_plain.result (λ done. c.in_ok-operand.ensures.exits) c.append_plain.ensures.level

pub operand-value_with_exits-requires : goal.operand-value_with_exits-requires
operand-value_with_exits-requires t c =
    let smaller : 3 * expr_tokens (expr c.args.e.now) < t = omega (arith, c.decreases) in
    (smaller, (c.requires.set, (c.requires.near, (c.requires.code, c.requires.room))))

pub operand-returns-clause-level : goal.operand-returns-clause-level
operand-returns-clause-level t c = c.aim_exits.ensures.aimed.level ∙ c.in_ok-value_with_exits.ensures.level

pub operand-returns-clause-size : goal.operand-returns-clause-size
operand-returns-clause-size t c = omega (arith, c.aim_exits.ensures.aimed.place, c.in_ok-value_with_exits.ensures.size)

pub calculated-append_ready-requires-clause-set : goal.calculated-append_ready-requires-clause-set
calculated-append_ready-requires-clause-set t c = set_after c.args.out.now c.operand.new.out c.in_ok-operand.ensures.level c.requires.set

pub calculated-append_ready-requires-clause-room : goal.calculated-append_ready-requires-clause-room
calculated-append_ready-requires-clause-room t c = omega (arith, c.in_ok-operand.ensures.size, c.requires.room)

pub calculated-append_plain-requires-clause-set : goal.calculated-append_plain-requires-clause-set
calculated-append_plain-requires-clause-set t c = set_after c.args.out.now c.operand-2.new.out (c.in_ok-operand-2.ensures.level ∙ c.in_ok-append_ready.ensures.level ∙ c.in_ok-operand.ensures.level) c.requires.set

pub calculated-append_plain-requires-clause-room : goal.calculated-append_plain-requires-clause-room
calculated-append_plain-requires-clause-room t c = omega (arith, c.in_ok-operand-2.ensures.size, c.in_ok-append_ready.ensures.size, c.in_ok-operand.ensures.size, c.requires.room)

pub calculated-returns-clause-level : goal.calculated-returns-clause-level
calculated-returns-clause-level t c = on_ok_weaker c.append_plain.result (λ same. same ∙ c.in_ok-operand-2.ensures.level ∙ c.in_ok-append_ready.ensures.level ∙ c.in_ok-operand.ensures.level) c.append_plain.ensures.level

pub calculated-returns-clause-size : goal.calculated-returns-clause-size
calculated-returns-clause-size t c =
    on_ok_weaker c.append_plain.result (λ wide. omega (arith, c.in_ok-operand-2.ensures.size, c.in_ok-append_ready.ensures.size, c.in_ok-operand.ensures.size, wide))
    c.append_plain.ensures.size

pub calculated-returns-clause-exits : goal.calculated-returns-clause-exits
calculated-returns-clause-exits t c = on_ok_weaker c.append_plain.result (λ done. ◌∙◌ {A = List ℕ} c.in_ok-operand-2.ensures.exits c.in_ok-operand.ensures.exits) c.append_plain.ensures.level

pub chosen-append_branch-requires-clause-set : goal.chosen-append_branch-requires-clause-set
chosen-append_branch-requires-clause-set t c = set_after c.args.out.now c.operand.new.out c.in_ok-operand.ensures.level c.requires.set

pub chosen-append_exit-requires-clause-set : goal.chosen-append_exit-requires-clause-set
chosen-append_exit-requires-clause-set t c = set_after c.args.out.now c.value_with_exits.new.out (c.in_ok-value_with_exits.ensures.level ∙ c.in_ok-otherwise.ensures.level ∙ c.in_ok-operand.ensures.level) c.requires.set

pub subscript-operand-requires : goal.subscript-operand-requires
subscript-operand-requires t c =
    let smaller : 3 * expr_tokens (expr c.args.e.now) + 1 < t = omega (arith, c.decreases) in
    let room : size c.args.out.now.operators + inline (meanings c.args.names.now) (expr c.args.e.now) ≤ MOST_SEGMENT_SYLLABLES = omega (arith, c.requires.room) in
    (smaller, (c.requires.set, (c.requires.near, (c.requires.code, room))))

pub subscript-append_moved-requires-clause-set : goal.subscript-append_moved-requires-clause-set
subscript-append_moved-requires-clause-set t c = set_after c.args.out.now c.operand.new.out c.in_ok-operand.ensures.level c.requires.set

pub subscript-append_moved-requires-clause-whole : goal.subscript-append_moved-requires-clause-whole
subscript-append_moved-requires-clause-whole t c =
    let W : ℤ → Type 0 = λ z. IsWholeNumber z in subst W (sym (read_back c.args.low c.requires.whole)) c.requires.whole

pub subscript-append_moved-requires-clause-room : goal.subscript-append_moved-requires-clause-room
subscript-append_moved-requires-clause-room t c = omega (arith, c.in_ok-operand.ensures.size, c.requires.room)

pub subscript-returns-clause-level : goal.subscript-returns-clause-level
subscript-returns-clause-level t c = on_ok_weaker c.append_moved.result (λ same. same ∙ c.in_ok-operand.ensures.level) c.append_moved.ensures.level

pub subscript-returns-clause-size : goal.subscript-returns-clause-size
subscript-returns-clause-size t c = on_ok_weaker c.append_moved.result (λ wide. omega (arith, c.in_ok-operand.ensures.size, wide)) c.append_moved.ensures.size

pub subscript-returns-clause-exits : goal.subscript-returns-clause-exits
subscript-returns-clause-exits t c = on_ok_weaker c.append_moved.result (λ done. c.in_ok-operand.ensures.exits) c.append_moved.ensures.level

pub called-returns-clause-level : goal.called-returns-clause-level
called-returns-clause-level t c = on_ok_weaker c.filled.result (λ same. same ∙ c.in_ok-append_begun.ensures.level) c.filled.ensures.level

pub called-returns-clause-exits : goal.called-returns-clause-exits
called-returns-clause-exits t c = c.filled.ensures.exits

pub filled-append_plain-requires-clause-set : goal.filled-append_plain-requires-clause-set
filled-append_plain-requires-clause-set t c = set_after c.args.out.now c.actuals.out c.actuals.invariant.level c.requires.set

pub filled-returns-clause-level : goal.filled-returns-clause-level
filled-returns-clause-level t c = on_ok_weaker c.append_plain.result (λ same. same ∙ c.actuals.invariant.level) c.append_plain.ensures.level

pub filled-returns-clause-exits : goal.filled-returns-clause-exits
filled-returns-clause-exits t c = on_ok_weaker c.append_plain.result (λ done. c.actuals.invariant.exits) c.append_plain.ensures.level

pub given-returns-then-by_name-clause-level : goal.given-returns-then-by_name-clause-level
given-returns-then-by_name-clause-level t c = c.append_given.ensures.level

pub given-returns-else-by_name-clause-level : goal.given-returns-else-by_name-clause-level
given-returns-else-by_name-clause-level t c = c.valued.ensures.level

pub given-returns-else-by_name-clause-exits : goal.given-returns-else-by_name-clause-exits
given-returns-else-by_name-clause-exits t c = c.valued.ensures.exits

pub given-returns-then-by_name-clause-exits : goal.given-returns-then-by_name-clause-exits
given-returns-then-by_name-clause-exits t c = on_ok_weaker c.append_given.result (λ done. refl) c.append_given.ensures.level

pub valued-returns-in-Some-clause-level : goal.valued-returns-in-Some-clause-level
valued-returns-in-Some-clause-level t c = c.append_passed.ensures.level

pub valued-returns-in-Some-clause-exits : goal.valued-returns-in-Some-clause-exits
valued-returns-in-Some-clause-exits t c = on_ok_weaker c.append_passed.result (λ done. refl) c.append_passed.ensures.level

pub valued-returns-in-None-clause-level : goal.valued-returns-in-None-clause-level
valued-returns-in-None-clause-level t c = c.operand.ensures.level

pub valued-returns-in-None-clause-size : goal.valued-returns-in-None-clause-size
valued-returns-in-None-clause-size t c = c.operand.ensures.size

pub valued-returns-in-None-clause-exits : goal.valued-returns-in-None-clause-exits
valued-returns-in-None-clause-exits t c = c.operand.ensures.exits

pub read-append_name-requires-clause-room : goal.read-append_name-requires-clause-room
read-append_name-requires-clause-room t c =
    let v = c.args.v.now in
    let none = none_in c.is_empty.result c.items.result.now.len v.subs c.is_empty.ensures (c.items.result.now.ok.0 ∙ ap length c.items.ensures) c.if-is_empty.true in
    omega (arith, alone_syllables c.args.names.now v none, c.requires.room)

pub read-returns-then-is_empty-clause-size : goal.read-returns-then-is_empty-clause-size
read-returns-then-is_empty-clause-size t c =
    let v = c.args.v.now in
    let none = none_in c.is_empty.result c.items.result.now.len v.subs c.is_empty.ensures (c.items.result.now.ok.0 ∙ ap length c.items.ensures) c.if-is_empty.true in
    on_ok_weaker c.append_name.result (λ wide. omega (arith, alone_syllables c.args.names.now v none, wide)) c.append_name.ensures.size

pub read-returns-then-is_empty-clause-level : goal.read-returns-then-is_empty-clause-level
read-returns-then-is_empty-clause-level t c = c.append_name.ensures.level

pub read-returns-then-is_empty-clause-exits : goal.read-returns-then-is_empty-clause-exits
read-returns-then-is_empty-clause-exits t c = on_ok_weaker c.append_name.result (λ done. refl) c.append_name.ensures.level

pub read-append_plain-requires-clause-set : goal.read-append_plain-requires-clause-set
read-append_plain-requires-clause-set t c = set_after c.args.out.now c.subscripts.new.out c.in_ok-subscripts.ensures.level c.requires.set

pub read-append_plain-requires-clause-room : goal.read-append_plain-requires-clause-room
read-append_plain-requires-clause-room t c = omega (arith, c.in_ok-subscripts.ensures.size, c.requires.room)

pub read-returns-in_ok-subscripts-clause-level : goal.read-returns-in_ok-subscripts-clause-level
read-returns-in_ok-subscripts-clause-level t c = on_ok_weaker c.append_plain.result (λ same. same ∙ c.in_ok-subscripts.ensures.level) c.append_plain.ensures.level

pub read-returns-in_ok-subscripts-clause-size : goal.read-returns-in_ok-subscripts-clause-size
read-returns-in_ok-subscripts-clause-size t c = on_ok_weaker c.append_plain.result (λ wide. omega (arith, c.in_ok-subscripts.ensures.size, wide)) c.append_plain.ensures.size

pub read-returns-in_ok-subscripts-clause-exits : goal.read-returns-in_ok-subscripts-clause-exits
read-returns-in_ok-subscripts-clause-exits t c = on_ok_weaker c.append_plain.result (λ done. c.in_ok-subscripts.ensures.exits) c.append_plain.ensures.level

pub subscripts-append_reference-requires-clause-set : goal.subscripts-append_reference-requires-clause-set
subscripts-append_reference-requires-clause-set t c = set_after c.args.out.now c.subscript.new.out c.in_ok-subscript.ensures.level c.requires.set

pub subscripts-append_plain-requires-clause-set : goal.subscripts-append_plain-requires-clause-set
subscripts-append_plain-requires-clause-set t c = set_after c.args.out.now c.append_reference.new.out (c.in_ok-append_reference.ensures.level ∙ c.in_ok-subscript.ensures.level) c.requires.set

pub subscripts-append_plain-requires-then-subs-gt1-clause-set : goal.subscripts-append_plain-requires-then-subs-gt1-clause-set
subscripts-append_plain-requires-then-subs-gt1-clause-set t c = set_after c.args.out.now c.subscript-then-subs-gt1.new.out (c.in_ok-subscript-2.ensures.level ∙ c.in_ok-append_plain.ensures.level ∙ c.in_ok-append_reference.ensures.level ∙ c.in_ok-subscript.ensures.level) c.requires.set

pub subscripts-returns-else-subs-gt1-clause-level : goal.subscripts-returns-else-subs-gt1-clause-level
subscripts-returns-else-subs-gt1-clause-level t c = c.in_ok-append_reference.ensures.level ∙ c.in_ok-subscript.ensures.level

pub subscripts-returns-else-subs-gt1-clause-exits : goal.subscripts-returns-else-subs-gt1-clause-exits
subscripts-returns-else-subs-gt1-clause-exits t c = c.in_ok-subscript.ensures.exits

pub subscripts-returns-in_ok-append_plain-2-clause-level : goal.subscripts-returns-in_ok-append_plain-2-clause-level
subscripts-returns-in_ok-append_plain-2-clause-level t c = c.in_ok-append_plain-2.ensures.level ∙ c.in_ok-subscript-2.ensures.level ∙ c.in_ok-append_plain.ensures.level ∙ c.in_ok-append_reference.ensures.level ∙ c.in_ok-subscript.ensures.level

pub subscripts-returns-in_ok-append_plain-2-clause-exits : goal.subscripts-returns-in_ok-append_plain-2-clause-exits
subscripts-returns-in_ok-append_plain-2-clause-exits t c = ◌∙◌ {A = List ℕ} c.in_ok-subscript-2.ensures.exits c.in_ok-subscript.ensures.exits
