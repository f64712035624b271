use Rattle.std.proofs.Common.{rules}
use Rattle.b67_flat.proofs.Frees.{taken_again, taken_last}
use Rattle.b67_flat.proofs.row_table.RowTable.open.Goals as goal

pub index_mut-requires : goal.index_mut-requires
index_mut-requires c =
    let r = taken_again c.self.inside.rows.items c.args.self.now c.self.inside.free c.take_least.new.self c.self.inside.counted c.in-Some.number c.live-more.result c.args.row c.self.view_is c.self.invariant c.in-Some.ensures.numbers c.in-Some.ensures.least c.in-Some.ensures.room c.live-more.ensures c.requires in
    search (rules, r.0)

pub invariant_of-self : goal.invariant_of-self
invariant_of-self c =
    let r = taken_again c.self.inside.rows.items c.args.self.now c.self.inside.free c.take_least.new.self c.self.inside.counted c.in-Some.number c.live-more.result c.args.row c.self.view_is c.self.invariant c.in-Some.ensures.numbers c.in-Some.ensures.least c.in-Some.ensures.room c.live-more.ensures c.requires in
    r.3

pub returns-in-Some-clause-number : goal.returns-in-Some-clause-number
returns-in-Some-clause-number c =
    let r = taken_again c.self.inside.rows.items c.args.self.now c.self.inside.free c.take_least.new.self c.self.inside.counted c.in-Some.number c.live-more.result c.args.row c.self.view_is c.self.invariant c.in-Some.ensures.numbers c.in-Some.ensures.least c.in-Some.ensures.room c.live-more.ensures c.requires in
    r.1

pub returns-in-Some-clause-rows : goal.returns-in-Some-clause-rows
returns-in-Some-clause-rows c =
    let r = taken_again c.self.inside.rows.items c.args.self.now c.self.inside.free c.take_least.new.self c.self.inside.counted c.in-Some.number c.live-more.result c.args.row c.self.view_is c.self.invariant c.in-Some.ensures.numbers c.in-Some.ensures.least c.in-Some.ensures.room c.live-more.ensures c.requires in
    r.2

pub invariant_of-self-2 : goal.invariant_of-self-2
invariant_of-self-2 c =
    let r = taken_last c.self.inside.rows.items c.args.self.now c.self.inside.free c.reserve.new.self c.self.inside.counted c.len-number.result c.live-more.result c.args.row c.self.view_is c.self.invariant c.in_default.ensures.none c.reserve.ensures.numbers (search rules) c.in_ok-reserve.ensures.room c.if-number-eq-MOST_ROWS.false c.live-more.ensures c.requires in
    rw c.in_ok-hold_at.ensures r.1

pub returns-clause-number : goal.returns-clause-number
returns-clause-number c =
    let r = taken_last c.self.inside.rows.items c.args.self.now c.self.inside.free c.reserve.new.self c.self.inside.counted c.len-number.result c.live-more.result c.args.row c.self.view_is c.self.invariant c.in_default.ensures.none c.reserve.ensures.numbers (search rules) c.in_ok-reserve.ensures.room c.if-number-eq-MOST_ROWS.false c.live-more.ensures c.requires in
    r.0
