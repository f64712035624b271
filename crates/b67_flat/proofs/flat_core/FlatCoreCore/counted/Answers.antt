use Rattle.std.proofs.Common.{◌∙◌, sym}
use Rattle.b67_flat.specs.Flat.{memory_of}
use Rattle.b67_flat.proofs.Stores.{counted_seen}
use Rattle.b67_flat.proofs.flat_core.FlatCoreCore.counted.Goals as goal

pub returns-clause-value : goal.returns-clause-value
returns-clause-value c =
    rw (← c.self.view_is) (c.counted.ensures.value ∙ sym (counted_seen (memory_of c.self.inside.words.items c.self.inside.spans) c.self.inside.rows c.self.invariant.0 c.self.invariant.1))
