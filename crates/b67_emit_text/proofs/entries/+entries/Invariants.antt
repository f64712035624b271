use Rattle.std.proofs.Common.{◌≡◌, ◌++◌, map, drop}
use Rattle.algol_tree.specs.Image.{stmts}
use Rattle.b67_emit_text.specs.Entries.{AllLow, entries_in_stmts, entry_of}
use Rattle.b67_emit_text.proofs.entries.+entries.Given as goal

-- those within the statements that are done
abbrev pub invariant-within_all-statements : goal.invariant-within_all-statements
invariant-within_all-statements l = record {
  done : map entry_of l.to.items ++ entries_in_stmts l.level (stmts (drop l.s-index l.ss)) ≡ map entry_of l.fn.to.items ++ entries_in_stmts l.level (stmts l.ss);
  left : AllLow l.level (stmts (drop l.s-index l.ss));
}
