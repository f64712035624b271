use Rattle.std.proofs.Common.{arith, rules, ◌≡◌, subst, ℕ, false, List, inl, inr, replicate, append_assoc}
use Rattle.b67_schedule.specs.Schedules.{entries}
use Rattle.b67_machine.specs.Replaying.{ReplaysEntries, is_lacking}
use Rattle.b67_machine.proofs.Agreeing.{noted_length}
use Rattle.b67_midway.proofs.Onward.{no_answer}
use Rattle.b67_midway.proofs.going.go_through.Goals as goal

pub advance-requires-clause-room : goal.advance-requires-clause-room
advance-requires-clause-room g c =
    inl (omega (
      arith,
      c.requires.room,
      noted_length c.args.machine.now.code (entries c.args.done.now.runs) c.args.done.now.letters c.args.spent.now c.args.machine.now c.requires.between,
    ))

pub advance-requires-clause-few : goal.advance-requires-clause-few
advance-requires-clause-few g c = inr c.requires.few

pub unreachable-requires : goal.unreachable-requires
unreachable-requires g c =
    let here : is_lacking c.in-Some.answer ≡ false = search rules in
    no_answer c.args.machine.now.code c.args.budget (entries c.args.done.now.runs) (replicate c.args.times c.args.process) c.requires.goes.0 (entries c.advance.new.done.runs)
    c.advance.new.done.letters c.advance.new.self c.requires.goes.1 c.in-Some.answer
    (λ rest.
    subst (λ (xs : List ℕ). ReplaysEntries c.args.machine.now.code xs c.args.budget (entries c.advance.new.done.runs) c.advance.new.done.letters c.advance.new.self c.in-Some.answer)
    (append_assoc (entries c.args.done.now.runs) (replicate c.args.times c.args.process) rest) (c.in-Some.ensures.entries rest))
    c.in-Some.ensures.agrees here
