use Rattle.std.proofs.Common.{is_some, ap, sym, arith, rules}
use Rattle.b67_store.proofs.Lists.{taken_from}
use Rattle.b67_store.proofs.Tables.{has_room, live_within, freed}
use Rattle.b67_store.proofs.row_table.RowTable.close.Goals as goal

pub put-requires : goal.put-requires
put-requires c =
    let here = taken_from c.self.inside.rows.items c.args.row c.in-Some.slot.now c.take.result c.in-Some-take.closed (search rules) (search rules) c.take.ensures.value c.in-Some-take.is in
    has_room _ _ _ c.args.row c.in-Some-take.closed c.self.invariant here

pub invariant_of-self-2 : goal.invariant_of-self-2
invariant_of-self-2 c =
    let here = taken_from c.self.inside.rows.items c.args.row c.in-Some.slot.now c.take.result c.in-Some-take.closed (search rules) (search rules) c.take.ensures.value c.in-Some-take.is in
    let less = live_within _ _ _ c.args.row c.in-Some-take.closed c.self.invariant here in
    rw c.take.ensures.after (freed _ _ _ _ c.args.row _ c.in-Some-take.closed c.self.invariant here c.put.ensures.numbers c.put.ensures.room (omega (arith, less, c.live.ensures)))

pub returns-clause-found : goal.returns-clause-found
returns-clause-found c =
    let here = taken_from c.self.inside.rows.items c.args.row c.in-Some.slot.now c.take.result c.in-Some-take.closed (search rules) (search rules) c.take.ensures.value c.in-Some-take.is in
    rw (← c.self.view_is) (sym (ap is_some here))
