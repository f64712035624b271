use Rattle.std.proofs.Common.{take}
use Rattle.b67_asm_writer.specs.Sources.{AddsSegments}
use Rattle.b67_asm_writer.proofs.push_segments.Given as goal

abbrev pub invariant-segments : goal.invariant-segments
invariant-segments l = AddsSegments (take l.segment-index l.segment-items) l.initial.text.items l.text.items
