-- The end of a machine in the words of a report.
use Rattle.std.specs.Prelude.{Option, Some, None}
use Rattle.b67_machine.specs.declared.reads.End.{End}
use Rattle.b67_report.specs.declared.EndWords.{EndWords}
use Rattle.b67_explain.specs.Telling.{words_of_end}

abbrev pub words_of_ends : Option End → Option EndWords
words_of_ends None = None
words_of_ends (Some end) = Some (words_of_end end)
