use Rattle.b67_segment.specs.Building.{level_set}
use Rattle.b67_emitter.proofs.Appends.{branch_exit}
use Rattle.b67_emitter.proofs.appending.append_branch.Goals as goal

pub returns-clause-code : goal.returns-clause-code
returns-clause-code c =
    branch_exit c.args.out.now c.append_operator.new.out (level_set c.args.out.now) 0 c.args.kind c.in_ok-append_operator.ensures.size c.in_ok-append_operator.ensures.code
