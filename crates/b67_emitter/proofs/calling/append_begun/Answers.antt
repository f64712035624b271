use Rattle.std.proofs.lemmas.Result.{on_ok_weaker}
use Rattle.b67_emitter.proofs.Calls.{begun_part}
use Rattle.b67_emitter.proofs.calling.append_begun.Goals as goal

pub returns-clause-code : goal.returns-clause-code
returns-clause-code c =
    on_ok_weaker c.append_reference.result
    (begun_part c.args.couple c.args.out.now c.append_plain.new.out c.append_reference.new.out c.in_ok-append_plain.ensures.level
    c.in_ok-append_plain.ensures.code)
    c.append_reference.ensures.code
