use Rattle.std.proofs.Common.{◌≡◌, ◌++◌, drop, map}
use Rattle.algol_tree.specs.Image.{decls, stmts}
use Rattle.b67_templates.specs.Labels.{labels_in}
use Rattle.b67_emit_text.specs.Entries.{entry_of, own_entries}
use Rattle.b67_emit_text.proofs.entries.own.Given as goal

-- those of the declarations that are done
abbrev pub invariant-decls : goal.invariant-decls
invariant-decls l =
    map entry_of l.to.items ++ own_entries l.level (stmts l.ss) (labels_in (decls (drop l.d-index l.ds)))
    ≡ map entry_of l.fn.to.items ++ own_entries l.level (stmts l.ss) (labels_in (decls l.ds))
