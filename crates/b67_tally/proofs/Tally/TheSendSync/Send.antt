use denote.Param.Send.{IsSend}
use Rattle.b67_tally.proofs.Sent.{tally_send}
use Rattle.b67_tally.specs.contracts.Tally.{the_row}

pub send : IsSend the_row
send = tally_send
