use Rattle.std.proofs.Common.{◌≡◌, ◌++◌, drop, map}
use Rattle.b67_asm_writer.specs.Sources.{format_source, lines_text}
use Rattle.b67_asm_writer.proofs.push_formats.Given as goal

abbrev pub invariant-formats : goal.invariant-formats
invariant-formats l = l.text.items ++ lines_text (map format_source (drop l.format-index l.format-items)) ≡ l.initial.text.items ++ lines_text (map format_source l.format-items)
