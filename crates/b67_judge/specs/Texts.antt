-- The line of a verdict.
use Rattle.std.specs.Prelude.{ℕ, List, ◌++◌, codes}
use Rattle.std.specs.Fmt.{decimal}
use Rattle.b67_report.specs.Texts.{line_text}
use Rattle.b67_judge.specs.declared.Verdict.{Verdict}
use Rattle.b67_judge.specs.declared.Verdict.TheVariants.{Just, BadEntry, BadLine, BadEnd}

abbrev pub verdict_words : Verdict → List ℕ
verdict_words Just = codes "JUST"
verdict_words (BadEntry entry) = codes "UNJUST ENTRY " ++ decimal entry
verdict_words (BadLine line) = codes "UNJUST LINE " ++ decimal line
verdict_words BadEnd = codes "UNJUST END"

abbrev pub verdict_text : Verdict → List ℕ
verdict_text verdict = line_text (verdict_words verdict)
