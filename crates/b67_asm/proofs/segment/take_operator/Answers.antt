use Rattle.std.proofs.Common.{ap, ◌∙◌}
use Rattle.std.specs.Prelude.{is_some}
use Rattle.b67_asm.specs.Labels.{found_in}
use Rattle.b67_asm.proofs.Taking.{ends_within, operator_fits, operator_goes, operator_refused, operator_room, operator_too_long}
use Rattle.b67_asm.proofs.segment.take_operator.Goals as goal

pub returns-in-Err-clause-refused : goal.returns-in-Err-clause-refused
returns-in-Err-clause-refused c =
    rw c.refused.ensures
    (operator_refused (found_in c.args.labels.now) c.args.level c.args.line c.args.written.now c.args.builder.now.operators c.in-Err.rule c.in-Err.ensures)

pub returns-then-end-gt-MOST_SEGMENT_SYLLABLES-clause-refused : goal.returns-then-end-gt-MOST_SEGMENT_SYLLABLES-clause-refused
returns-then-end-gt-MOST_SEGMENT_SYLLABLES-clause-refused c =
    rw c.refused-then-end-gt-MOST_SEGMENT_SYLLABLES.ensures
    (operator_too_long (found_in c.args.labels.now) c.args.level c.args.line c.args.written.now c.args.builder.now.operators c.in-Ok.operator c.from.result c.place_after-end.result
    c.in-Ok.ensures (c.from.ensures ∙ c.place.ensures) c.place_after-end.ensures.value c.if-end-gt-MOST_SEGMENT_SYLLABLES.true)

pub append-requires-clause-set : goal.append-requires-clause-set
append-requires-clause-set c = ap is_some c.requires.level

pub append-requires-clause-fits : goal.append-requires-clause-fits
append-requires-clause-fits c =
    operator_fits (found_in c.args.labels.now) c.args.level c.args.line c.args.written.now c.args.builder.now c.in-Ok.operator c.in-Ok.ensures c.requires.level

pub append-requires-clause-room : goal.append-requires-clause-room
append-requires-clause-room c =
    operator_room (found_in c.args.labels.now) c.args.level c.args.line c.args.written.now c.args.builder.now c.in-Ok.operator c.in-Ok.ensures c.requires.level
    (ends_within (found_in c.args.labels.now) c.args.level c.args.line c.args.written.now c.args.builder.now.operators c.from.result c.place_after-end.result
    (c.from.ensures ∙ c.place.ensures) c.place_after-end.ensures.value c.if-end-gt-MOST_SEGMENT_SYLLABLES.false)

pub returns-clause-taken : goal.returns-clause-taken
returns-clause-taken c =
    operator_goes (found_in c.args.labels.now) c.args.level c.args.line c.args.written.now c.args.builder.now c.append.new.self c.in-Ok.operator c.in-Ok.ensures
    (ends_within (found_in c.args.labels.now) c.args.level c.args.line c.args.written.now c.args.builder.now.operators c.from.result c.place_after-end.result
    (c.from.ensures ∙ c.place.ensures) c.place_after-end.ensures.value c.if-end-gt-MOST_SEGMENT_SYLLABLES.false) c.requires.level c.requires.block c.in_ok-append.ensures.ok
