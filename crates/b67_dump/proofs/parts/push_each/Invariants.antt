use Rattle.std.proofs.Common.{◌≡◌, ◌++◌, take}
use Rattle.b67_dump.specs.Cells.{each_text}
use Rattle.b67_dump.proofs.parts.push_each.Given as goal

abbrev pub invariant-processes : goal.invariant-processes
invariant-processes l = l.text.items ≡ l.initial.text.items ++ each_text l.word (take l.process-index l.processes)
