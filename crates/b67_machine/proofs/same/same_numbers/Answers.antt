use Rattle.std.proofs.lemmas.Bool.Decides.{Decides-eqb}
use Rattle.std.proofs.lemmas.Slice.Eq.{slice_eq-Decides}
use Rattle.b67_machine.proofs.same.same_numbers.Goals as goal

pub returns : goal.returns
returns c = (slice_eq-Decides Decides-eqb c.args.ours.now c.args.theirs.now c.eq.result c.eq.ensures).0
