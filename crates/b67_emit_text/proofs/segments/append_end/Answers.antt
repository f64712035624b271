use Rattle.std.proofs.lemmas.Result.{on_ok_weaker}
use Rattle.b67_emit_text.proofs.TextEnds.{exit_ends, result_ends, result_seen}
use Rattle.b67_segment.specs.Building.{level_set}
use Rattle.b67_emit_text.proofs.segments.append_end.Goals as goal

pub append_reading-requires-clause-seen : goal.append_reading-requires-clause-seen
append_reading-requires-clause-seen c = result_seen (level_set c.args.out.now) c.args.level c.args.returned c.in-Some.index c.requires.level c.requires.near c.in-Some.is

pub returns-in_ok-append_reading-in-Some-clause-code : goal.returns-in_ok-append_reading-in-Some-clause-code
returns-in_ok-append_reading-in-Some-clause-code c =
    on_ok_weaker c.append_plain-in-Some.result
    (result_ends c.args.returned c.args.level c.in-Some.index c.args.out.now c.append_reading.new.out c.append_plain-in-Some.new.out c.in-Some.is c.requires.level c.in_ok-append_reading-in-Some.ensures.level
    c.in_ok-append_reading-in-Some.ensures.code)
    c.append_plain-in-Some.ensures.code

pub returns-in-None-clause-code : goal.returns-in-None-clause-code
returns-in-None-clause-code c =
    on_ok_weaker c.append_plain.result (exit_ends c.args.returned c.args.level c.args.out.now c.append_plain.new.out c.in-None.is c.requires.level)
    c.append_plain.ensures.code
