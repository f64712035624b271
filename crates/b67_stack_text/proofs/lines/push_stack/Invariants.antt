use Rattle.std.proofs.Common.{◌≡◌, ◌++◌, take, length}
use Rattle.std.specs.Prelude.{codes}
use Rattle.std.specs.List.{flat_map, enumerate_from}
use Rattle.std.specs.Fmt.{decimal}
use Rattle.b67_report.specs.Texts.{line_text}
use Rattle.b67_stack_text.specs.Lines.{word_text}
use Rattle.b67_stack_text.proofs.lines.push_stack.Given as goal

abbrev pub invariant-words : goal.invariant-words
invariant-words l =
    l.text.items
    ≡ (l.fn.text.items ++ line_text (codes "STACK " ++ decimal l.process ++ codes " " ++ decimal (length l.words)))
    ++ flat_map word_text (enumerate_from 0 (take l.at l.words))
