use Rattle.std.proofs.Common.{◌≡◌, ◌⊎◌, inl, inr, sym, ap, subst, ◌∙◌, ℕ, List, ◌++◌, arith}
use Rattle.b67_num.specs.declared.FaultKind.{FaultKind}
use Rattle.b67_action.specs.declared.done.Done.{Done}
use Rattle.b67_action.specs.declared.done.Done.TheVariants.{Went, Waits, Ended, Fault}
use Rattle.b67_machine.specs.Stepping.{operators_in}
use Rattle.b67_machine.proofs.Ends.{goes_on}
use Rattle.b67_joining.specs.Joining.{IsQueue, joining}
use Rattle.b67_exec.specs.Turning.{TurnGoes}
use Rattle.b67_exec.proofs.Queues.{queue_some}
use Rattle.b67_exec.proofs.Turning.{acts_of, joins_few, goes_through}
use Rattle.b67_exec.proofs.turns.turn.Goals as goal

pub take_front-process-requires-clause-some : goal.take_front-process-requires-clause-some
take_front-process-requires-clause-some g c =
    queue_some c.args.machine.now.image c.args.ready.now.waiting c.requires.listed c.requires.queue (goes_on c.args.machine.now c.requires.going).end

-- an operator that went on, waits, has ended or is at fault is counted
counted_one : (d : Done) → (d ≡ Went) ⊎ ((d ≡ Waits) ⊎ ((d ≡ Ended) ⊎ ((kind : FaultKind) × (d ≡ Fault kind)))) → operators_in d ≡ 1
counted_one d (inl e) = ap operators_in e
counted_one d (inr (inl e)) = ap operators_in e
counted_one d (inr (inr (inl e))) = ap operators_in e
counted_one d (inr (inr (inr e))) = ap operators_in e.1

pub join_queue-requires : goal.join_queue-requires
join_queue-requires g c =
    let old = c.args.machine.now in
    let p = c.take_front-process.result in
    let others = c.take_front-process.new.ready.waiting in
    let front = c.take_front-process.ensures.front in
    let few = joins_few old c.step.new.self p others c.step.result (acts_of old c.step.new.self p c.step.result c.requires.lacked c.step.ensures.steps)
    (counted_one c.step.result c.in-Went.is) (goes_on old c.requires.going).end (subst (IsQueue old.image) front c.requires.queue) c.requires.listed c.step.ensures.valid in
    record { room = omega (arith, few, c.take_front-process.ensures.room, c.requires.room); few = omega (arith, few) }

pub returns-in-Went : goal.returns-in-Went
returns-in-Went g c =
    let old = c.args.machine.now in
    let new = c.step.new.self in
    let p = c.take_front-process.result in
    let others = c.take_front-process.new.ready.waiting in
    let front = c.take_front-process.ensures.front in
    record {
      turned =
          subst (λ (queue : List ℕ). TurnGoes old queue new c.join_queue.new.ready.waiting) (sym front)
          (goes_through old new p others c.step.result (acts_of old new p c.step.result c.requires.lacked c.step.ensures.steps)
          (counted_one c.step.result c.in-Went.is) (goes_on old c.requires.going).end (subst (IsQueue old.image) front c.requires.queue) c.requires.listed c.step.ensures.valid
          c.join_queue.new.ready.waiting
          (subst (λ (n : ℕ). c.join_queue.new.ready.waiting ≡ others ++ joining n new.image p new.released) c.started-before.ensures
          c.join_queue.ensures.waiting));
      rule = c.join_queue.ensures.rule ∙ c.take_front-process.ensures.rule;
      room = omega (arith, c.join_queue.ensures.room, c.take_front-process.ensures.room);
    }
