-- The plain tree of a tree.
pub use Rattle.algol_tree.specs.Image.{maybe_named, listed_exprs, expr_level, call_level, variable_level, expr, call, variable, exprs, pair, pairs, statements_listed, listed_decls, if_level, stmt_level, decl_level, body_level, stmt, decl, body, stmts, decls, program, branched}
