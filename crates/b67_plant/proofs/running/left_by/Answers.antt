use Rattle.std.proofs.Common.{sym, ◌∙◌}
use Rattle.b67_plant.proofs.running.left_by.Goals as goal

pub returns : goal.returns
returns g c = record {
  parts = c.into_parts-machine.ensures;
  answered = sym c.answer.ensures.value ∙ c.in-Some.is;
  stands = c.answer.ensures.stands;
}
