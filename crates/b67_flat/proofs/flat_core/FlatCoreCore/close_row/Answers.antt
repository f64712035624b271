use Rattle.std.proofs.Common.{◌≡◌, Some, is_some, ap, sym, rules}
use Rattle.b67_store.specs.Store.{at_number}
use Rattle.b67_flat.specs.Flat.{span_of_row}
use Rattle.b67_flat.proofs.Holding.{below_within, row_closed}
use Rattle.b67_flat.proofs.Opened.{memory_closed, row_in_closed}
use Rattle.b67_flat.proofs.Stores.{seen_row}
use Rattle.b67_flat.proofs.flat_core.FlatCoreCore.close_row.Goals as goal

pub close-requires-2 : goal.close-requires-2
close-requires-2 c =
    let h : at_number c.self.inside.rows c.args.row ≡ Some c.in-Some.held = search rules in
    below_within c.self.inside.spans (span_of_row c.args.row c.in-Some.held) c.self.invariant.0.0 (c.self.invariant.1.of_rows c.args.row c.in-Some.held h)

pub invariant_of-self-2 : goal.invariant_of-self-2
invariant_of-self-2 c =
    let h : at_number c.self.inside.rows c.args.row ≡ Some c.in-Some.held = search rules in
    rw (c.close-2.ensures, c.in-Some.ensures.rows) (
      memory_closed c.self.inside.words.items c.self.inside.spans c.in-Some.held.place c.self.invariant.0,
      row_closed c.self.inside.spans c.self.inside.rows c.self.invariant.1 c.args.row c.in-Some.held c.self.invariant.0.0 h,
    )

pub returns-clause-found : goal.returns-clause-found
returns-clause-found c =
    let h : at_number c.self.inside.rows c.args.row ≡ Some c.in-Some.held = search rules in
    rw (← c.self.view_is) (sym (ap is_some (seen_row c.self.inside.words.items c.self.inside.rows c.args.row c.in-Some.held h)))

pub returns-clause-rows : goal.returns-clause-rows
returns-clause-rows c = rw (c.in-Some.ensures.rows, ← c.self.view_is) (row_in_closed c.self.inside.words.items c.self.inside.rows c.args.row)
