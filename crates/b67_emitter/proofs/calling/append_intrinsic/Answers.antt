use Rattle.std.proofs.lemmas.Result.{on_ok_weaker}
use Rattle.b67_segment.specs.Building.{level_set}
use Rattle.b67_emitter.proofs.Calls.{intrinsic_part}
use Rattle.b67_emitter.proofs.Seen.{intrinsic_seen}
use Rattle.b67_emitter.proofs.calling.append_intrinsic.Goals as goal

pub append_reference-requires-clause-seen : goal.append_reference-requires-clause-seen
append_reference-requires-clause-seen c = rw c.couple.ensures (intrinsic_seen (level_set c.append_plain.new.out) c.args.intrinsic)

pub returns-clause-code : goal.returns-clause-code
returns-clause-code c =
    on_ok_weaker c.append_reference.result
    (λ h.
    intrinsic_part c.args.intrinsic c.args.out.now c.append_plain.new.out c.append_reference.new.out c.in_ok-append_plain.ensures.level c.in_ok-append_plain.ensures.code
    (rw c.couple.ensures at h))
    c.append_reference.ensures.code
