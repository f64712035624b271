use Rattle.std.proofs.Common.{◌∙◌, ap, arith, option_copied}
use Rattle.std.proofs.lemmas.Result.{on_ok_weaker}
use Rattle.algol_tree.specs.Image.{expr, variable}
use Rattle.b67_segment.specs.Building.{level_set}
use Rattle.b67_templates.specs.Paying.{inline}
use Rattle.b67_emitter.specs.Values.{meanings}
use Rattle.b67_emitter.proofs.Appends.{same_level}
use Rattle.b67_emit_expr.proofs.Couples.{code_on}
use Rattle.b67_emit_expr.proofs.References.{element_syllables}
use Rattle.b67_emit_expr.proofs.Routines.{found_none, found_is, found_element, value_syllables, placed_syllables, value_routine, element_place, past_lies, place_routine}
use Rattle.b67_emit_expr.proofs.emitter.ExprsExprEmitter.routine.Goals as goal

pub applied-requires-clause-room : goal.applied-requires-clause-room
applied-requires-clause-room c =
    let e = expr c.args.e.now in
    let off = found_none e (option_copied c.place_of.result) c.place_of.ensures (ap option_copied c.in-None.is) in
    omega (arith, value_syllables e (inline (meanings c.args.names.now) e) off, c.requires.room)

pub returns-in-None-clause-code : goal.returns-in-None-clause-code
returns-in-None-clause-code c =
    let e = expr c.args.e.now in
    let off = found_none e (option_copied c.place_of.result) c.place_of.ensures (ap option_copied c.in-None.is) in
    on_ok_weaker c.applied.result (value_routine c.args.names.now (level_set c.args.out.now) c.args.out.now c.applied.new.out e off) c.applied.ensures.code

pub returns-in-None-clause-size : goal.returns-in-None-clause-size
returns-in-None-clause-size c =
    let e = expr c.args.e.now in
    let off = found_none e (option_copied c.place_of.result) c.place_of.ensures (ap option_copied c.in-None.is) in
    on_ok_weaker c.applied.result (λ wide. omega (arith, value_syllables e (inline (meanings c.args.names.now) e) off, wide)) c.applied.ensures.size

pub aim-requires : goal.aim-requires
aim-requires c =
    let s = c.args.names.now in
    let a = c.args.out.now in
    let b = c.append_branch.new.out in
    let e = expr c.args.e.now in
    past_lies s a b c.applied-in-Some.new.out e c.in_ok-to_place-in-Some.to_place
    (code_on s (level_set a) (level_set b) e (same_level a b c.in_ok-to_place-in-Some.ensures.level) c.requires.code)
    c.in_ok-to_place-in-Some.ensures.code c.in_ok-applied-in-Some.ensures.code c.in_ok-to_place-in-Some.ensures.place

pub name-requires-clause-code : goal.name-requires-clause-code
name-requires-clause-code c =
    let s = c.args.names.now in
    let a = c.args.out.now in
    let b = c.aim.new.out in
    let e = expr c.args.e.now in
    let v = c.in-Some.v.now in
    let found = ap option_copied c.in-Some.is in
    let same = found_is e (option_copied c.place_of.result) c.place_of.ensures v found in
    let has = found_element e (option_copied c.place_of.result) c.place_of.ensures v found in
    element_place s (level_set b) e (variable v) same has
    (code_on s (level_set a) (level_set b) e (same_level a b (c.aim.ensures.level ∙ c.in_ok-applied-in-Some.ensures.level ∙ c.in_ok-to_place-in-Some.ensures.level)) c.requires.code)

pub name-requires-clause-room : goal.name-requires-clause-room
name-requires-clause-room c =
    let s = c.args.names.now in
    let e = expr c.args.e.now in
    let v = c.in-Some.v.now in
    let found = ap option_copied c.in-Some.is in
    let same = found_is e (option_copied c.place_of.result) c.place_of.ensures v found in
    let has = found_element e (option_copied c.place_of.result) c.place_of.ensures v found in
    omega (
      arith,
      element_syllables s (variable v) has,
      ap (inline (meanings s)) same,
      placed_syllables e (variable v) (inline (meanings s) e) same has,
      c.aim.ensures.place,
      c.in_ok-applied-in-Some.ensures.size,
      c.in_ok-to_place-in-Some.ensures.size,
      c.requires.room,
    )

pub append_plain-requires-clause-room : goal.append_plain-requires-clause-room
append_plain-requires-clause-room c =
    let s = c.args.names.now in
    let e = expr c.args.e.now in
    let v = c.in-Some.v.now in
    let found = ap option_copied c.in-Some.is in
    let same = found_is e (option_copied c.place_of.result) c.place_of.ensures v found in
    let has = found_element e (option_copied c.place_of.result) c.place_of.ensures v found in
    omega (
      arith,
      element_syllables s (variable v) has,
      ap (inline (meanings s)) same,
      placed_syllables e (variable v) (inline (meanings s) e) same has,
      c.in_ok-name-in-Some.ensures.size,
      c.aim.ensures.place,
      c.in_ok-applied-in-Some.ensures.size,
      c.in_ok-to_place-in-Some.ensures.size,
      c.requires.room,
    )

pub returns-clause-code : goal.returns-clause-code
returns-clause-code c =
    let s = c.args.names.now in
    let e = expr c.args.e.now in
    let v = c.in-Some.v.now in
    let found = ap option_copied c.in-Some.is in
    let same = found_is e (option_copied c.place_of.result) c.place_of.ensures v found in
    let has = found_element e (option_copied c.place_of.result) c.place_of.ensures v found in
    on_ok_weaker c.append_plain.result
    (λ last. place_routine s c.args.out.now c.append_branch.new.out c.applied-in-Some.new.out c.aim.new.out c.name.new.out c.append_plain.new.out
    c.in_ok-to_place-in-Some.to_place c.in_ok-to_place-in-Some.ensures.code c.in_ok-to_place-in-Some.ensures.place c.aim.ensures last
    c.in_ok-applied-in-Some.ensures.level c.in_ok-name-in-Some.ensures.level e (variable v) same has c.in_ok-applied-in-Some.ensures.code c.in_ok-name-in-Some.ensures.code)
    c.append_plain.ensures.code

pub returns-clause-size : goal.returns-clause-size
returns-clause-size c =
    let s = c.args.names.now in
    let e = expr c.args.e.now in
    let v = c.in-Some.v.now in
    let found = ap option_copied c.in-Some.is in
    let same = found_is e (option_copied c.place_of.result) c.place_of.ensures v found in
    let has = found_element e (option_copied c.place_of.result) c.place_of.ensures v found in
    on_ok_weaker c.append_plain.result
    (λ wide. omega (
      arith,
      element_syllables s (variable v) has,
      ap (inline (meanings s)) same,
      placed_syllables e (variable v) (inline (meanings s) e) same has,
      c.in_ok-name-in-Some.ensures.size,
      c.aim.ensures.place,
      c.in_ok-applied-in-Some.ensures.size,
      c.in_ok-to_place-in-Some.ensures.size,
      wide,
    ))
    c.append_plain.ensures.size
