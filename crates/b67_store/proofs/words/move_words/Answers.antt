use Rattle.std.proofs.Common.{rules}
use Rattle.b67_store.proofs.Rooms.{moved}
use Rattle.b67_store.proofs.words.move_words.Goals as goal

pub returns-then-from-to-clause-words : goal.returns-then-from-to-clause-words
returns-then-from-to-clause-words c =
    moved c.args.room.now.items c.copy_within.new.self.items c.args.from c.args.end c.args.to c.requires.order (search rules) (search rules) c.copy_within.ensures.items
