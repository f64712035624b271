use Rattle.std.proofs.Common.{◌≡◌, ◌+◌, Some, arith, rules}
use Rattle.b67_store.specs.Store.{at_number}
use Rattle.b67_flat.specs.Flat.{memory_of}
use Rattle.b67_flat.proofs.Stores.{row_within, row_written, row_found, memory_written}
use Rattle.b67_flat.proofs.flat_core.FlatCoreCore.write_row.Goals as goal

pub write_at-requires : goal.write_at-requires
write_at-requires c =
    let h : at_number c.self.inside.rows c.args.row ≡ Some c.in-Some.held = search rules in
    omega (arith, c.if-held-at.false, row_within (memory_of c.self.inside.words.items c.self.inside.spans) c.self.inside.rows c.args.row c.in-Some.held c.self.invariant.0 c.self.invariant.1 h)

pub returns-clause-found : goal.returns-clause-found
returns-clause-found c =
    let h : at_number c.self.inside.rows c.args.row ≡ Some c.in-Some.held = search rules in
    rw (← c.self.view_is) (row_found (memory_of c.self.inside.words.items c.self.inside.spans) c.self.inside.rows c.args.row c.args.at c.in-Some.held c.self.invariant.0 c.self.invariant.1 h c.if-held-at.false)

pub returns-clause-rows : goal.returns-clause-rows
returns-clause-rows c =
    let h : at_number c.self.inside.rows c.args.row ≡ Some c.in-Some.held = search rules in
    rw (c.write_at.ensures, ← c.self.view_is) (row_written c.self.inside.words.items c.self.inside.spans c.self.inside.rows c.args.row c.args.at c.in-Some.held c.args.word c.self.invariant.0.0 c.self.invariant.1 h c.if-held-at.false)

pub invariant_of-self : goal.invariant_of-self
invariant_of-self c =
    rw c.write_at.ensures (memory_written (memory_of c.self.inside.words.items c.self.inside.spans) (c.in-Some.held.place + c.args.at) c.args.word c.self.invariant.0, c.self.invariant.1)
