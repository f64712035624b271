use Rattle.std.proofs.Common.{◌≡◌, ◌++◌, map, drop}
use Rattle.algol_tree.specs.Image.{decls, stmts}
use Rattle.b67_emit_text.specs.Texts.{HaveLevelsDecls, HaveLevelsStmts, text_of_procedure, texts_in_decls, texts_in_stmts}
use Rattle.b67_emit_text.proofs.texts.+texts.Given as goal

-- the procedures within the statements that are done
abbrev pub invariant-within_all-statements : goal.invariant-within_all-statements
invariant-within_all-statements l = record {
  done : map text_of_procedure l.to.items ++ texts_in_stmts (stmts (drop l.s-index l.ss)) l.level ≡ map text_of_procedure l.fn.to.items ++ texts_in_stmts (stmts l.ss) l.level;
  left : HaveLevelsStmts (stmts (drop l.s-index l.ss)) l.level;
}

-- .. that the declarations which are done declare
abbrev pub invariant-declared_all-decls : goal.invariant-declared_all-decls
invariant-declared_all-decls l = record {
  done : map text_of_procedure l.to.items ++ texts_in_decls (decls (drop l.d-index l.ds)) l.level ≡ map text_of_procedure l.fn.to.items ++ texts_in_decls (decls l.ds) l.level;
  left : HaveLevelsDecls (decls (drop l.d-index l.ds)) l.level;
}
