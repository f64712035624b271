use Rattle.std.proofs.Common.{◌≡◌, ℕ, arith}
use Rattle.b67_store.specs.Store.{at_number}
use Rattle.b67_flat.proofs.Same.{all_numbers, one_more}
use Rattle.b67_flat.proofs.flat_core.FlatCore.same_stacks.Goals as goal

pub stacks-preserved : goal.stacks-preserved
stacks-preserved c =
    one_more (λ (k : ℕ). at_number c.args.self.now.stacks k ≡ at_number c.args.other.now.stacks k) c.stacks.number c.stacks.invariant (c.same_stack.ensures c.if-not-same_stack.false)

pub returns : goal.returns
returns c = λ h.
    all_numbers c.args.self.now.stacks c.args.other.now.stacks (omega (arith, c.stack_places-places.ensures, c.stack_places.ensures, c.if-places-stack_places.false))
    (λ k p. c.stacks.invariant k (omega (arith, p, c.stack_places-places.ensures, c.stacks-test.false)))
