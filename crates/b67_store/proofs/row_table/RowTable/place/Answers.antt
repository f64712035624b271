use Rattle.std.proofs.Common.{rules}
use Rattle.b67_store.proofs.Tables.{placed_again, placed_last}
use Rattle.b67_store.proofs.row_table.RowTable.place.Goals as goal

pub fill-requires : goal.fill-requires
fill-requires c =
    let r = placed_again c.self.inside.rows.items c.args.self.now c.self.inside.free c.take_least.new.self c.self.inside.counted c.in-Some.number c.live-more.result c.args.row c.self.view_is c.self.invariant c.in-Some.ensures.numbers c.in-Some.ensures.least c.in-Some.ensures.room c.live-more.ensures c.requires in
    search (rules, r.0)

pub invariant_of-self : goal.invariant_of-self
invariant_of-self c =
    let r = placed_again c.self.inside.rows.items c.args.self.now c.self.inside.free c.take_least.new.self c.self.inside.counted c.in-Some.number c.live-more.result c.args.row c.self.view_is c.self.invariant c.in-Some.ensures.numbers c.in-Some.ensures.least c.in-Some.ensures.room c.live-more.ensures c.requires in
    rw c.fill.ensures r.4

pub returns-in-Some-clause-number : goal.returns-in-Some-clause-number
returns-in-Some-clause-number c =
    let r = placed_again c.self.inside.rows.items c.args.self.now c.self.inside.free c.take_least.new.self c.self.inside.counted c.in-Some.number c.live-more.result c.args.row c.self.view_is c.self.invariant c.in-Some.ensures.numbers c.in-Some.ensures.least c.in-Some.ensures.room c.live-more.ensures c.requires in
    (r.1, r.2)

pub returns-in-Some-clause-rows : goal.returns-in-Some-clause-rows
returns-in-Some-clause-rows c =
    let r = placed_again c.self.inside.rows.items c.args.self.now c.self.inside.free c.take_least.new.self c.self.inside.counted c.in-Some.number c.live-more.result c.args.row c.self.view_is c.self.invariant c.in-Some.ensures.numbers c.in-Some.ensures.least c.in-Some.ensures.room c.live-more.ensures c.requires in
    rw c.fill.ensures r.3

pub invariant_of-self-2 : goal.invariant_of-self-2
invariant_of-self-2 c =
    let r = placed_last c.self.inside.rows.items c.args.self.now c.self.inside.free c.reserve.new.self c.self.inside.counted c.len-number.result c.live-more.result c.args.row c.self.view_is c.self.invariant c.in_default.ensures.none c.reserve.ensures.numbers (search rules) c.in_ok-reserve.ensures.room c.if-number-eq-MOST_ROWS.false c.live-more.ensures c.requires in
    rw c.in_ok-append.ensures.appended r.2

pub returns-clause-number : goal.returns-clause-number
returns-clause-number c =
    let r = placed_last c.self.inside.rows.items c.args.self.now c.self.inside.free c.reserve.new.self c.self.inside.counted c.len-number.result c.live-more.result c.args.row c.self.view_is c.self.invariant c.in_default.ensures.none c.reserve.ensures.numbers (search rules) c.in_ok-reserve.ensures.room c.if-number-eq-MOST_ROWS.false c.live-more.ensures c.requires in
    (r.0, r.1)
