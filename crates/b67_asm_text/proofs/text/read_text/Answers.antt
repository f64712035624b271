use Rattle.std.proofs.Common.{arith}
use Rattle.b67_asm_text.proofs.Splitting.{records_split, records_last, lines_more, formats_more, lines_all, formats_all}
use Rattle.b67_asm_text.proofs.text.read_text.Goals as goal

pub records-preserved : goal.records-preserved
records-preserved c =
    let split = records_split c.records.rest.now c.split_at.result.0.now c.split_at.result.1.now c.split_at-in-records.result.1.now c.records.length c.records.invariant.place
    c.records-test.true c.split_at.ensures.front c.split_at.ensures.back c.split_at-in-records.ensures.back in
    record {
      lines = lines_more c.records.rest.now c.split_at.result.0.now c.split_at-in-records.result.1.now split c.records.text.lines.items c.read_record.new.text.lines.items _
          c.in_ok-read_record.ensures.lines c.records.invariant.lines;
      formats = formats_more c.records.rest.now c.split_at.result.0.now c.split_at-in-records.result.1.now split c.records.text.formats.items c.read_record.new.text.formats.items _
          c.in_ok-read_record.ensures.formats c.records.invariant.formats;
      place = c.record_length-length-in-records.ensures.value;
    }

pub returns-clause-lines : goal.returns-clause-lines
returns-clause-lines c =
    lines_all c.records.rest.now (records_last c.records.rest.now (omega (arith, c.records-test.false, c.records.invariant.place))) c.records.text.lines.items c.read_record-2.new.text.lines.items _
    c.in_ok-read_record-2.ensures.lines c.records.invariant.lines

pub returns-clause-formats : goal.returns-clause-formats
returns-clause-formats c =
    formats_all c.records.rest.now (records_last c.records.rest.now (omega (arith, c.records-test.false, c.records.invariant.place))) c.records.text.formats.items c.read_record-2.new.text.formats.items _
    c.in_ok-read_record-2.ensures.formats c.records.invariant.formats
