use Rattle.std.proofs.Common.{rules}
use Rattle.b67_flat.proofs.Frees.{least_at_hand, least_at_end}
use Rattle.b67_flat.proofs.row_table.RowTable.next.Goals as goal

pub returns-in-Some : goal.returns-in-Some
returns-in-Some c =
    rw (← c.self.view_is) (least_at_hand c.self.inside.rows.items c.self.inside.free c.self.inside.counted c.in-Some.least c.in-Some.ensures.first.0 c.self.invariant c.in-Some.ensures.first.1 c.in-Some.ensures.least)

pub returns : goal.returns
returns c =
    rw (← c.self.view_is) (least_at_end c.self.inside.rows.items c.self.inside.free c.self.inside.counted c.len-number.result c.self.invariant c.in_default.ensures.none (search rules) c.if-number-eq-MOST_ROWS.false)
