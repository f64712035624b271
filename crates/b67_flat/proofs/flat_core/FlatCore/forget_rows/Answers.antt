use Rattle.std.proofs.Common.{[], refl, sym, ap, ◌∙◌}
use Rattle.b67_store.specs.Store.{at_number}
use Rattle.b67_flat.specs.Flat.{Flat}
use Rattle.b67_flat.proofs.Same.{spans_still}
use Rattle.b67_flat.proofs.flat_core.FlatCore.forget_rows.Goals as goal

pub invariant_of-self : goal.invariant_of-self
invariant_of-self c =
    let k = c.self.inside in
    rw c.clear.ensures (c.self.invariant.0, spans_still k.spans k.rows [] (λ n. sym (ap (λ (v : Flat). at_number v.rows n) c.self.view_is ∙ c.requires n)) c.self.invariant.1)
