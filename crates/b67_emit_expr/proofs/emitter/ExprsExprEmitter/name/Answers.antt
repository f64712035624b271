use Rattle.std.proofs.Common.{length, ap, ◌∙◌, arith}
use Rattle.std.proofs.lemmas.Result.{on_ok_weaker}
use Rattle.algol_tree.specs.Image.{variable}
use Rattle.b67_segment.specs.Building.{level_set}
use Rattle.b67_emit_expr.proofs.Elements.{is_element, some_in, none_in}
use Rattle.b67_emit_expr.proofs.References.{has_place_alone, reference_form, reference_syllables, element_syllables, has_subscripts, indexed_form}
use Rattle.b67_emit_expr.proofs.emitter.ExprsExprEmitter.name.Goals as goal

pub append_place-requires-clause-code : goal.append_place-requires-clause-code
append_place-requires-clause-code c =
    let v = c.args.v.now in
    let none = none_in c.is_empty.result c.items.result.now.len v.subs c.is_empty.ensures (c.items.result.now.ok.0 ∙ ap length c.items.ensures) c.if-is_empty.true in
    has_place_alone c.args.names.now (level_set c.args.out.now) v none c.requires.code

pub append_place-requires-clause-room : goal.append_place-requires-clause-room
append_place-requires-clause-room c =
    let v = c.args.v.now in
    let none = none_in c.is_empty.result c.items.result.now.len v.subs c.is_empty.ensures (c.items.result.now.ok.0 ∙ ap length c.items.ensures) c.if-is_empty.true in
    omega (arith, reference_syllables c.args.names.now (level_set c.args.out.now) v none, c.requires.room)

pub subscripts-requires-clause-code : goal.subscripts-requires-clause-code
subscripts-requires-clause-code c =
    let v = c.args.v.now in
    let some = some_in c.is_empty.result c.items.result.now.len v.subs c.is_empty.ensures (c.items.result.now.ok.0 ∙ ap length c.items.ensures) c.if-is_empty.false in
    has_subscripts c.args.names.now (variable v) (is_element v some) (level_set c.args.out.now) c.requires.code

pub subscripts-requires-clause-room : goal.subscripts-requires-clause-room
subscripts-requires-clause-room c =
    let v = c.args.v.now in
    let some = some_in c.is_empty.result c.items.result.now.len v.subs c.is_empty.ensures (c.items.result.now.ok.0 ∙ ap length c.items.ensures) c.if-is_empty.false in
    let same = element_syllables c.args.names.now (variable v) (is_element v some) in
    omega (arith, same, c.requires.room)

pub append_plain-requires-clause-room : goal.append_plain-requires-clause-room
append_plain-requires-clause-room c =
    let v = c.args.v.now in
    let some = some_in c.is_empty.result c.items.result.now.len v.subs c.is_empty.ensures (c.items.result.now.ok.0 ∙ ap length c.items.ensures) c.if-is_empty.false in
    let same = element_syllables c.args.names.now (variable v) (is_element v some) in
    omega (arith, same, c.in_ok-subscripts.ensures.size, c.requires.room)

pub returns-then-is_empty-clause-code : goal.returns-then-is_empty-clause-code
returns-then-is_empty-clause-code c =
    let v = c.args.v.now in
    let none = none_in c.is_empty.result c.items.result.now.len v.subs c.is_empty.ensures (c.items.result.now.ok.0 ∙ ap length c.items.ensures) c.if-is_empty.true in
    on_ok_weaker c.append_place.result
    (reference_form c.args.names.now (level_set c.args.out.now) v none c.args.out.now c.append_place.new.out) c.append_place.ensures.code

pub returns-then-is_empty-clause-size : goal.returns-then-is_empty-clause-size
returns-then-is_empty-clause-size c =
    let v = c.args.v.now in
    let none = none_in c.is_empty.result c.items.result.now.len v.subs c.is_empty.ensures (c.items.result.now.ok.0 ∙ ap length c.items.ensures) c.if-is_empty.true in
    on_ok_weaker c.append_place.result (λ wide. omega (arith, reference_syllables c.args.names.now (level_set c.args.out.now) v none, wide)) c.append_place.ensures.size

pub returns-in_ok-subscripts-clause-code : goal.returns-in_ok-subscripts-clause-code
returns-in_ok-subscripts-clause-code c =
    let v = c.args.v.now in
    let some = some_in c.is_empty.result c.items.result.now.len v.subs c.is_empty.ensures (c.items.result.now.ok.0 ∙ ap length c.items.ensures) c.if-is_empty.false in
    on_ok_weaker c.append_plain.result
    (indexed_form c.args.names.now (variable v) (is_element v some) c.args.out.now c.subscripts.new.out c.append_plain.new.out c.in_ok-subscripts.ensures.level
    c.in_ok-subscripts.ensures.code)
    c.append_plain.ensures.code

pub returns-in_ok-subscripts-clause-size : goal.returns-in_ok-subscripts-clause-size
returns-in_ok-subscripts-clause-size c =
    let v = c.args.v.now in
    let some = some_in c.is_empty.result c.items.result.now.len v.subs c.is_empty.ensures (c.items.result.now.ok.0 ∙ ap length c.items.ensures) c.if-is_empty.false in
    let same = element_syllables c.args.names.now (variable v) (is_element v some) in
    on_ok_weaker c.append_plain.result (λ wide. omega (arith, same, c.in_ok-subscripts.ensures.size, wide)) c.append_plain.ensures.size
