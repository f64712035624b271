use Rattle.std.proofs.Common.{rules}
use Rattle.b67_store.proofs.Rooms.{cut_between}
use Rattle.b67_store.proofs.words.Words.cut.Goals as goal

pub returns : goal.returns
returns c =
    cut_between c.self.inside.room.items c.args.self.now c.self.inside.base c.self.inside.used c.args.count c.self.view_is c.self.invariant.0 (search rules) c.requires
