use denote.Param.Send.{IsSend}
use Rattle.b67_tally.proofs.Sent.{mark_send}
use Rattle.b67_tally.specs.contracts.Mark.{the_row}

pub send : IsSend the_row
send = mark_send
