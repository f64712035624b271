use Rattle.std.proofs.Common.{◌≡◌, ◌∙◌, Some, sym, arith, rules}
use Rattle.b67_store.specs.Store.{at_number}
use Rattle.b67_flat.specs.Flat.{memory_of}
use Rattle.b67_flat.proofs.Stores.{row_there, row_within}
use Rattle.b67_flat.proofs.flat_core.FlatCoreCore.read_row.Goals as goal

pub read_at-requires : goal.read_at-requires
read_at-requires c =
    let h : at_number c.self.inside.rows c.args.row ≡ Some c.in_ok-held.held = search rules in
    omega (arith, c.if-held-at.false, row_within (memory_of c.self.inside.words.items c.self.inside.spans) c.self.inside.rows c.args.row c.in_ok-held.held c.self.invariant.0 c.self.invariant.1 h)

pub returns : goal.returns
returns c =
    let h : at_number c.self.inside.rows c.args.row ≡ Some c.in_ok-held.held = search rules in
    let there = row_there c.self.inside.words.items c.self.inside.rows c.args.row c.args.at c.in_ok-held.held h (omega (arith, c.if-held-at.false)) in
    rw (← c.self.view_is) (c.read_at.ensures ∙ sym there)
