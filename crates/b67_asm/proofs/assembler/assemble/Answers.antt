use Rattle.std.proofs.Common.{◌∙◌}
use Rattle.std.proofs.lemmas.Result.{err_from_is_err_and}
use Rattle.b67_asm.proofs.Writable.{is_writable, short_as}
use Rattle.b67_asm.proofs.Whole.{assembled, few_lines, known_levels, not_assembled}
use Rattle.b67_asm.proofs.assembler.assemble.Goals as goal

pub read_lines-requires-clause-few : goal.read_lines-requires-clause-few
read_lines-requires-clause-few c = few_lines c.args.bytes.now c.as_slice.result.now (c.as_slice.ensures.value ∙ c.in_ok-text.ensures.lines) c.requires

pub read_lines-requires-clause-levels : goal.read_lines-requires-clause-levels
read_lines-requires-clause-levels c = known_levels c.args.bytes.now c.as_slice.result.now (c.as_slice.ensures.value ∙ c.in_ok-text.ensures.lines)

pub returns-in_err-segments-clause-refused : goal.returns-in_err-segments-clause-refused
returns-in_err-segments-clause-refused c =
    let p = err_from_is_err_and c.from_residual-in_err-segments.result c.from_residual-in_err-segments.ensures.1 in
    rw (p.1, p.2)
    (not_assembled c.args.bytes.now c.as_slice.result.now (c.as_slice.ensures.value ∙ c.in_ok-text.ensures.lines) c.in_err-segments.field-0.0 c.in_err-segments.ensures.refused)

pub returns-clause-assembled : goal.returns-clause-assembled
returns-clause-assembled c =
    rw (c.of.ensures, c.of-2.ensures)
    (assembled c.args.bytes.now c.as_slice.result.now (c.as_slice.ensures.value ∙ c.in_ok-text.ensures.lines) c.in_ok-segments.segments.items c.in_ok-text.text.formats.items
    c.in_ok-text.ensures.formats c.in_ok-segments.ensures.read)

pub returns-clause-writable : goal.returns-clause-writable
returns-clause-writable c =
    rw (c.of.ensures, c.of-2.ensures)
    (is_writable c.args.bytes.now _
    (assembled c.args.bytes.now c.as_slice.result.now (c.as_slice.ensures.value ∙ c.in_ok-text.ensures.lines) c.in_ok-segments.segments.items c.in_ok-text.text.formats.items
    c.in_ok-text.ensures.formats c.in_ok-segments.ensures.read))

pub returns-clause-short : goal.returns-clause-short
returns-clause-short c =
    rw c.of.ensures
    (short_as c.args.bytes.now c.in_ok-segments.segments.items c.in_ok-text.text.formats.items
    (assembled c.args.bytes.now c.as_slice.result.now (c.as_slice.ensures.value ∙ c.in_ok-text.ensures.lines) c.in_ok-segments.segments.items c.in_ok-text.text.formats.items
    c.in_ok-text.ensures.formats c.in_ok-segments.ensures.read))
