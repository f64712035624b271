use Rattle.std.specs.Prelude.{option_copied}
use Rattle.algol_sites.proofs.Headed.{forward_noted}
use Rattle.algol_sites.proofs.heading.check_forward.Goals as goal

pub returns : goal.returns
returns c = λ blocks a later b.
    forward_noted blocks a c.args.heading.now (option_copied c.args.body) later c.args.faults.now.first c.check_heading.new.faults.first c.check_body.new.faults.first b
    c.in_ok-check_heading.ensures c.check_body.ensures
