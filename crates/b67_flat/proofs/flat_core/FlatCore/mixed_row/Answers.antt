use Rattle.std.proofs.Common.{◌≡◌, Some, arith, rules}
use Rattle.b67_store.specs.Store.{at_number}
use Rattle.b67_flat.specs.Flat.{memory_of}
use Rattle.b67_flat.proofs.Stores.{row_within}
use Rattle.b67_flat.proofs.flat_core.FlatCore.mixed_row.Goals as goal

pub words_from-requires : goal.words_from-requires
words_from-requires c =
    let k = c.self.inside in
    let h : at_number k.rows c.args.number ≡ Some c.in-Some.held = search rules in
    rw (← c.self.view_is) (omega (arith, row_within (memory_of k.words.items k.spans) k.rows c.args.number c.in-Some.held c.self.invariant.0 c.self.invariant.1 h))
