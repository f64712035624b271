use Rattle.std.proofs.Common.{sym, ◌∙◌}
use Rattle.std.proofs.lemmas.Result.{on_ok_weaker}
use Rattle.b67_segment.specs.Building.{level_set}
use Rattle.b67_emit_expr.proofs.Couples.{known_name, seen_name}
use Rattle.b67_emit_expr.proofs.Names.{read_name, call_name}
use Rattle.b67_emit_expr.proofs.naming.append_name.Goals as goal

pub couple_of-couple-requires : goal.couple_of-couple-requires
couple_of-couple-requires c = known_name c.args.names.now (level_set c.args.out.now) c.args.name.now c.requires.code

pub append_begun-requires-clause-seen : goal.append_begun-requires-clause-seen
append_begun-requires-clause-seen c =
    seen_name c.args.names.now (level_set c.args.out.now) c.args.name.now c.couple_of-couple.result c.requires.near c.couple_of-couple.ensures c.requires.code

pub append_reading-requires-clause-seen : goal.append_reading-requires-clause-seen
append_reading-requires-clause-seen c =
    seen_name c.args.names.now (level_set c.args.out.now) c.args.name.now c.couple_of-couple.result c.requires.near c.couple_of-couple.ensures c.requires.code

pub returns-in_ok-append_begun-in-Some-clause-code : goal.returns-in_ok-append_begun-in-Some-clause-code
returns-in_ok-append_begun-in-Some-clause-code c =
    on_ok_weaker c.append_plain.result
    (call_name c.args.names.now c.args.name.now c.args.out.now c.append_plain.new.out c.couple_of-couple.result c.couple_of-couple.ensures c.append_begun.new.out
    c.in-Some.field-0 (sym c.result_of.ensures ∙ c.in-Some.is) c.in_ok-append_begun-in-Some.ensures.level c.in_ok-append_begun-in-Some.ensures.code)
    c.append_plain.ensures.code

pub returns-in-None-clause-code : goal.returns-in-None-clause-code
returns-in-None-clause-code c =
    on_ok_weaker c.append_reading.result
    (read_name c.args.names.now c.args.name.now c.args.out.now c.append_reading.new.out c.couple_of-couple.result c.couple_of-couple.ensures (level_set c.args.out.now)
    (sym c.result_of.ensures ∙ c.in-None.is))
    c.append_reading.ensures.code
