use Rattle.std.proofs.Common.{◌≡◌, ◌++◌, drop, map}
use Rattle.algol_tree.specs.Image.{stmts}
use Rattle.b67_emit_text.specs.Entries.{entry_of, own_entries}
use Rattle.b67_emit_text.proofs.entries.add.Given as goal

-- those of the names that are done
abbrev pub invariant-names : goal.invariant-names
invariant-names l =
    map entry_of l.to.items ++ own_entries l.level (stmts l.ss) (drop l.name-index l.ns) ≡ map entry_of l.fn.to.items ++ own_entries l.level (stmts l.ss) l.ns
