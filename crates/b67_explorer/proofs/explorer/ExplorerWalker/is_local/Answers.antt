use Rattle.b67_explorer.proofs.explorer.ExplorerWalker.is_local.Goals as goal

pub is_own-requires-clause-valid : goal.is_own-requires-clause-valid
is_own-requires-clause-valid g c = c.requires.room.1.valid
