use Rattle.b67_descriptor.proofs.sizes.size_of.Goals as goal

pub returns-in-Some-clause-sizes : goal.returns-in-Some-clause-sizes
returns-in-Some-clause-sizes c img = rw c.in-Some.ensures (c.size_of_two.ensures.sizes img)
