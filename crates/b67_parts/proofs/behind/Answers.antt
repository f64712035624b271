use Rattle.std.proofs.Common.{Some, None}
use Rattle.std.proofs.lemmas.Bool.Decides.{Decides-eqb}
use Rattle.std.proofs.lemmas.Slice.Eq.{strip_prefix_is}
use Rattle.b67_parts.proofs.behind.Goals as goal
use Rattle.b67_parts.proofs.Marks.{behind_mark}

pub returns-in-Some : goal.returns-in-Some
returns-in-Some c =
    behind_mark c.args.mark.now c.args.bytes.now c.in-Some.rest.now c.behind_end.result
    (strip_prefix_is Decides-eqb c.args.bytes.now c.args.mark.now (Some c.in-Some.rest) c.in-Some.ensures.cases) c.behind_end.ensures

pub returns-in-None : goal.returns-in-None
returns-in-None c = λ text begins. strip_prefix_is Decides-eqb c.args.bytes.now c.args.mark.now None c.in-None.ensures.cases begins.rest begins.are
