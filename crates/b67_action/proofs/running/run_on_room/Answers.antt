use Rattle.std.proofs.Common.{inr, ◌∙◌, arith}
use Rattle.b67_action.specs.Running.{given_back}
use Rattle.b67_action.proofs.Lent.{within_room}
use Rattle.b67_action.proofs.Runs.{come_none, has_run}
use Rattle.b67_action.proofs.running.run_on_room.Goals as goal

pub go_on_room-requires-clause-room : goal.go_on_room-requires-clause-room
go_on_room-requires-clause-room c =
    (omega (arith, within_room c.args.code.now c.requires.lent.0 c.requires.lent.1 c.args.regs.now c.args.room.now c.requires.lent.2, c.requires.room), omega (arith, c.requires.room))

pub returns-clause-ran : goal.returns-clause-ran
returns-clause-ran c = λ img p l.
    let code = c.args.code.now in
    let run = c.go_on_room.ensures.ran img img p l (come_none code p img c.args.letters.now l.valid) in
    has_run code p img c.args.most c.go_on_room.result c.go_on_room.new.letters (given_back c.go_on_room.new.regs c.go_on_room.new.room p img) run.come
    (λ less o. run.stops (inr (c.go_on_room.auto.room ∙ c.requires.room)) less o)
