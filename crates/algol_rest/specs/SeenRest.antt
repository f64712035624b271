-- What a part has still to do, and what its head asks for, as the code has them.
use Rattle.std.specs.Prelude.{[], ◌∷◌, map, Option, Some, None}
use Rattle.std.specs.Borrow.{Bor}
use Rattle.b67_deeds.specs.Deeds as deeds
use Rattle.algol_tree.specs.Plain as tree
use Rattle.algol_tree.specs.Plain.{PStmt}
use Rattle.algol_tree.specs.declared.tree.Stmt.{Stmt}
use Rattle.algol_tree.specs.Scopes.{Scopes}
use Rattle.algol_meaning.specs.Rest as plain
use Rattle.algol_meaning.specs.Asks as asks
use Rattle.algol_meaning.specs.SeenTree.{stmt, stmts, body, pairs}
use Rattle.algol_cells.specs.SeenValue.{value}
use Rattle.algol_rest_expr.specs.SeenExpression.{place, all_done, event_names_of}
use Rattle.algol_rest.specs.SeenStatement.{rest_of}
use Rattle.algol_rest.specs.declared.rest.Rest.{Rest}
use Rattle.algol_rest.specs.declared.ask.Ask.{Ask}
use Rattle.algol_rest.specs.declared.ask.Ask.TheVariants as ask

abbrev pub rest : Scopes → Rest → plain.Rest
rest sc r = rest_of sc r.work.value.point.value r.work.value.frames r.work.value.todo

abbrev pub rest_asked : Ask → asks.Ask
rest_asked ask.Nothing = asks.nothing
rest_asked (ask.Reads n) = asks.reads n.now
rest_asked (ask.ReadsElement n ks v) = asks.reads_element n.now ks.now (value v)
rest_asked (ask.Indexes n ks v) = asks.indexes n.now ks.now (value v)
rest_asked (ask.Tests test es) = asks.event_deed (deeds.tests test) (event_names_of es.now)
rest_asked (ask.Fails fault) = asks.fails fault
rest_asked (ask.Enters n gs) = asks.enters n.now (all_done gs.now)
rest_asked (ask.Passes n) = asks.passes n.now
rest_asked (ask.Resolves n) = asks.resolves n.now
rest_asked (ask.ReadsResult name) = asks.reads_result name.now
rest_asked ask.Leaves = asks.leaves plain.done
rest_asked (ask.LeavesWith v) = asks.leaves (plain.value (value v))
rest_asked (ask.LeavesAt p) = asks.leaves (plain.place (place p.now))
rest_asked (ask.Stores p v) = asks.stores (place p.now) (value v)
rest_asked (ask.Selects v ss) = asks.selects (value v) (stmts ss.now)
rest_asked ask.Turns = asks.turns
rest_asked (ask.GoesTo n) = asks.goes_to n.now
rest_asked (ask.EntersBlock b) = asks.enters_block (body b.now)
rest_asked (ask.Starts n gs task) = asks.starts n.now (all_done gs.now) task.now
rest_asked (ask.Acts act n) = asks.event_deed (deeds.acts act) (n.now ∷ [])
rest_asked (ask.Writes phrases vs) = asks.writes phrases.now (map value vs.now)
rest_asked (ask.MakesArrays kind ns ps vs) = asks.makes_arrays kind ns.now (pairs ps.now) (map value vs.now)
rest_asked (ask.MakesEvent n) = asks.makes_event n.now

-- where a CASE has no statement of a number, an empty one stands in
abbrev pub stmt_or_empty : Option (Bor Stmt) → PStmt
stmt_or_empty None = tree.empty
stmt_or_empty (Some s) = stmt s.now
