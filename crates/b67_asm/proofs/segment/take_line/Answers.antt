use Rattle.std.proofs.Common.{sym, subst, ap, ◌∙◌}
use Rattle.std.specs.Prelude.{IfErr, IfOk}
use Rattle.b67_asm_text.specs.declared.item.Reading.{Reading}
use Rattle.b67_asm.specs.declared.refusal.NotAssembled.{NotAssembled}
use Rattle.b67_asm.specs.Labels.{found_in}
use Rattle.b67_asm.specs.Steps.{HasBlockLevel, HasTaken, IsBlockLevel, RefusesLine}
use Rattle.b67_asm.proofs.Lines.{format_refused, format_taken, label_refused, label_taken, level_taken, no_item_refused, other_taken}
use Rattle.b67_asm.proofs.segment.take_line.Goals as goal

pub returns-in-NoItem-clause-refused : goal.returns-in-NoItem-clause-refused
returns-in-NoItem-clause-refused c =
    rw c.refused.ensures (no_item_refused (found_in c.args.labels.now) c.args.level c.args.builder.now.operators c.args.line c.args.reading.now c.in-NoItem.is)

pub level-requires-clause-outer : goal.level-requires-clause-outer
level-requires-clause-outer c = let block : IsBlockLevel c.in-Level.next = subst HasBlockLevel c.in-Level.is c.requires.known in block.0

pub level-requires-clause-most : goal.level-requires-clause-most
level-requires-clause-most c = let block : IsBlockLevel c.in-Level.next = subst HasBlockLevel c.in-Level.is c.requires.known in block.1

pub returns-in_ok-level-in-Level-clause-taken : goal.returns-in_ok-level-in-Level-clause-taken
returns-in_ok-level-in-Level-clause-taken c =
    level_taken (found_in c.args.labels.now) c.args.level c.args.builder.now c.args.line c.requires.level c.requires.block c.requires.room c.args.reading.now c.in-Level.next
    c.level.new.self c.in-Level.is c.requires.known c.in_ok-level-in-Level.ensures.ok

pub returns-in-Some-clause-refused : goal.returns-in-Some-clause-refused
returns-in-Some-clause-refused c =
    rw c.refused-in-Some.ensures
    (label_refused (found_in c.args.labels.now) c.args.level c.args.builder.now.operators c.args.line c.args.reading.now c.in-Label.name c.found_in.result c.in-Some.rule
    c.in-Label.is (c.found_in.ensures ∙ ap (found_in c.args.labels.now) c.bytes.ensures) c.in-Some.ensures)

pub returns-in-None-clause-taken : goal.returns-in-None-clause-taken
returns-in-None-clause-taken c =
    label_taken (found_in c.args.labels.now) c.args.level c.args.builder.now c.args.line c.requires.level c.requires.block c.requires.room c.args.reading.now c.in-Label.name
    c.found_in.result c.in-Label.is (c.found_in.ensures ∙ ap (found_in c.args.labels.now) c.bytes.ensures) c.in-None.ensures

pub returns-in-Operator-clause-taken : goal.returns-in-Operator-clause-taken
returns-in-Operator-clause-taken c =
    subst (λ (r : Reading). IfOk c.take_operator.result (HasTaken (found_in c.args.labels.now) c.args.level c.args.builder.now c.take_operator.new.builder c.args.line r))
    (sym c.in-Operator.is) c.take_operator.ensures.taken

pub returns-in-Operator-clause-refused : goal.returns-in-Operator-clause-refused
returns-in-Operator-clause-refused c =
    subst (λ (r : Reading). IfErr c.take_operator.result (λ (e : NotAssembled). RefusesLine e (found_in c.args.labels.now) c.args.level c.args.builder.now.operators c.args.line r))
    (sym c.in-Operator.is) c.take_operator.ensures.refused

pub returns-then-fits-clause-taken : goal.returns-then-fits-clause-taken
returns-then-fits-clause-taken c =
    format_taken (found_in c.args.labels.now) c.args.level c.args.builder.now c.args.line c.requires.level c.requires.block c.requires.room c.args.reading.now c.in-Format.fits
    c.in-Format.is c.if-fits.true

pub returns-else-fits-clause-refused : goal.returns-else-fits-clause-refused
returns-else-fits-clause-refused c =
    rw c.refused-else-fits.ensures
    (format_refused (found_in c.args.labels.now) c.args.level c.args.builder.now.operators c.args.line c.args.reading.now c.in-Format.fits c.in-Format.is c.if-fits.false)

pub returns-in_default-clause-taken : goal.returns-in_default-clause-taken
returns-in_default-clause-taken c =
    other_taken (found_in c.args.labels.now) c.args.level c.args.builder.now c.args.line c.requires.level c.requires.block c.requires.room c.args.reading.now
    c.in_default.not-NoItem c.in_default.not-Level c.in_default.not-Label c.in_default.not-Operator c.in_default.not-Format c.requires.inside
