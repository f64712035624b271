use Rattle.std.proofs.Common.{◌≡◌, ◌++◌, length, map}
use Rattle.std.specs.List.{flat_map, position_or_len}
use Rattle.b67_asm_text.specs.Items.{format_of, formats, record_reading, readings}
use Rattle.b67_asm_text.specs.Records.{is_line_feed, records}
use Rattle.b67_asm_text.proofs.text.read_text.Given as goal

abbrev pub invariant-records : goal.invariant-records
invariant-records l = record {
  lines : l.text.lines.items ++ map record_reading (records l.rest) ≡ readings l.fn.bytes;
  formats : l.text.formats.items ++ flat_map format_of (records l.rest) ≡ formats l.fn.bytes;
  place : l.length ≡ position_or_len is_line_feed l.rest;
}

abbrev pub decreases-records : goal.decreases-records
decreases-records l = length l.rest
