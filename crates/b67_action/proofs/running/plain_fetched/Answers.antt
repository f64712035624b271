use Rattle.std.proofs.Common.{length}
use Rattle.b67_private.specs.Parts.{own_next, part_in}
use Rattle.b67_private.proofs.Above.{ready_part}
use Rattle.b67_action.proofs.Lent.{part_is, still_held, plain_keeps, plain_steps, plain_lends}
use Rattle.b67_action.proofs.running.plain_fetched.Goals as goal

pub perform_fetched-requires-clause-ready : goal.perform_fetched-requires-clause-ready
perform_fetched-requires-clause-ready c =
    ready_part (part_in c.args.regs.now c.args.room.now) (part_is c.args.code.now c.requires.lent.0 c.requires.lent.1 c.args.regs.now c.args.room.now c.requires.lent.2)

pub returns : goal.returns
returns c =
    let code = c.args.code.now in
    let r = c.args.regs.now in
    let room = c.args.room.now in
    let q = c.perform_fetched.new.regs in
    let more = c.perform_fetched.new.room in
    let b = c.perform_fetched.result in
    let steps = c.perform_fetched.ensures in
    record {
      steps = λ img p l. plain_steps code img p r room l q more c.perform_fetched.auto.room b steps;
      lends = λ img p l. plain_lends code img p r room l q more b steps;
      held = still_held (length room) (own_next code (part_in r room)) (part_in r room) (part_in q more) b c.requires.room.0 steps;
      keeps = plain_keeps code c.requires.lent.0 c.requires.lent.1 r room c.requires.lent.2 q more b steps;
    }
