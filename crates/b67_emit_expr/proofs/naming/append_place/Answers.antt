use Rattle.std.proofs.Common.{sym, ◌∙◌}
use Rattle.std.proofs.lemmas.Result.{on_ok_weaker}
use Rattle.b67_segment.specs.Building.{level_set}
use Rattle.b67_emit_expr.proofs.Names.{known_left, seen_left, own_place, resolved_place}
use Rattle.b67_emit_expr.proofs.naming.append_place.Goals as goal

pub left_of-requires : goal.left_of-requires
left_of-requires c = known_left c.args.names.now (level_set c.args.out.now) c.args.name.now c.requires.code

pub append_reference-requires-clause-seen : goal.append_reference-requires-clause-seen
append_reference-requires-clause-seen c =
    seen_left c.args.names.now (level_set c.args.out.now) c.args.name.now c.requires.code c.left_of.result c.requires.near c.left_of.ensures

pub returns-then-is_name-clause-code : goal.returns-then-is_name-clause-code
returns-then-is_name-clause-code c =
    on_ok_weaker c.append_plain.result
    (resolved_place c.args.names.now c.args.name.now c.left_of.result c.left_of.ensures c.args.out.now c.append_reference.new.out c.in_ok-append_reference.ensures.code
    (sym c.is_name.ensures ∙ c.if-is_name.true) c.append_plain.new.out c.in_ok-append_reference.ensures.level)
    c.append_plain.ensures.code

pub returns-else-is_name-clause-code : goal.returns-else-is_name-clause-code
returns-else-is_name-clause-code c =
    own_place c.args.names.now c.args.name.now c.left_of.result c.left_of.ensures c.args.out.now c.append_reference.new.out c.in_ok-append_reference.ensures.code
    (sym c.is_name.ensures ∙ c.if-is_name.false)
