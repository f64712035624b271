use Rattle.b67_templates.specs.Fragments.{byte, two_bytes}
use Rattle.b67_emitter.proofs.Appends.{zero_literal, one_literal}
use Rattle.b67_emitter.proofs.numbers.short_literal.Goals as goal

pub returns-in-0-clause-pushes : goal.returns-in-0-clause-pushes
returns-in-0-clause-pushes c = zero_literal c.args.value c.in-0.is

pub returns-in-1-clause-pushes : goal.returns-in-1-clause-pushes
returns-in-1-clause-pushes c = one_literal c.args.value c.in-1.is

pub returns-in-2-to-255-clause-pushes : goal.returns-in-2-to-255-clause-pushes
returns-in-2-to-255-clause-pushes c = byte c.args.value

pub returns-in_default-clause-pushes : goal.returns-in_default-clause-pushes
returns-in_default-clause-pushes c = two_bytes c.args.value
