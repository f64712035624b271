use Rattle.std.proofs.Common.{◌≡◌, ◌-◌, ◌∙◌, Some, None, ap, arith, rules}
use Rattle.std.specs.Prelude.{option_map}
use Rattle.std.proofs.lemmas.List.{map-set}
use Rattle.b67_store.specs.Store.{at_number}
use Rattle.b67_store.proofs.Tables.{has_room, live_within, freed}
use Rattle.b67_flat.specs.Flat.{bare, bare_rows}
use Rattle.b67_flat.proofs.Areas.{at_mapped}
use Rattle.b67_flat.proofs.row_table.RowTable.close.Goals as goal

pub overflow_sub-self : goal.overflow_sub-self
overflow_sub-self c =
    let h : at_number c.self.inside.rows.items c.args.row ≡ Some c.in_ok-closed.closed = search rules in
    let here = at_mapped bare c.self.inside.rows.items c.args.row ∙ ap (option_map bare) h in
    omega (arith, live_within (bare_rows c.self.inside.rows.items) c.self.inside.free c.self.inside.counted c.args.row (bare c.in_ok-closed.closed) c.self.invariant here, c.live.ensures)

pub put-requires : goal.put-requires
put-requires c =
    let h : at_number c.self.inside.rows.items c.args.row ≡ Some c.in_ok-closed.closed = search rules in
    has_room (bare_rows c.self.inside.rows.items) c.self.inside.free c.self.inside.counted c.args.row (bare c.in_ok-closed.closed) c.self.invariant (at_mapped bare c.self.inside.rows.items c.args.row ∙ ap (option_map bare) h)

pub invariant_of-self : goal.invariant_of-self
invariant_of-self c =
    let h : at_number c.self.inside.rows.items c.args.row ≡ Some c.in_ok-closed.closed = search rules in
    let here = at_mapped bare c.self.inside.rows.items c.args.row ∙ ap (option_map bare) h in
    let less = live_within (bare_rows c.self.inside.rows.items) c.self.inside.free c.self.inside.counted c.args.row (bare c.in_ok-closed.closed) c.self.invariant here in
    rw (map-set (option_map bare) c.self.inside.rows.items c.args.row None) (freed (bare_rows c.self.inside.rows.items) c.self.inside.free c.put.new.self c.self.inside.counted c.args.row (c.self.inside.counted - c.live.result) (bare c.in_ok-closed.closed) c.self.invariant here c.put.ensures.numbers c.put.ensures.room (omega (arith, less, c.live.ensures)))
