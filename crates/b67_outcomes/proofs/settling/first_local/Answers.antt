use Rattle.b67_outcomes.proofs.settling.first_local.Goals as goal

pub is_local-requires-clause-room : goal.is_local-requires-clause-room
is_local-requires-clause-room g c = let room = c.requires.room in (room.0, c.processes.invariant.3 room.0 room.1)
