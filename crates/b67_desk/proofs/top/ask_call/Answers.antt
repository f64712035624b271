use Rattle.b67_desk.proofs.Answering.{in_range, command_asks, usage_asks}
use Rattle.std.proofs.Common.{refl}
use Rattle.b67_desk.proofs.top.ask_call.Goals as goal

pub ask_command-requires : goal.ask_command-requires
ask_command-requires g c = in_range _ c.in-Ok.command c.in-Ok.ensures

pub returns-in-Ok : goal.returns-in-Ok
returns-in-Ok g c = command_asks _ _ c.in-Ok.command _ c.in-Ok.ensures c.ask_command.ensures

pub returns-in-Err : goal.returns-in-Err
returns-in-Err g c = usage_asks _ _ c.in-Err.bad _ (record { left = refl; faults = refl }) c.in-Err.ensures c.refuse_words.ensures
