use Rattle.std.proofs.Common.{ap, sym, ◌∙◌}
use Rattle.b67_io.proofs.Front.{front_given, end_given}
use Rattle.b67_io.proofs.memory.MemorySourceSource.read.Goals as goal

pub returns-clause-given : goal.returns-clause-given
returns-clause-given c =
    let copied = rw (c.split_at.ensures.back, c.deref.ensures.value) at c.copy_front-count.ensures.copied in
    let count = rw (c.split_at.ensures.back, c.deref.ensures.value) at c.copy_front-count.ensures.count in
    let bytes = c.self.inside.bytes.items in
    let piece = c.copy_front-count.new.piece in (
      ap (λ s. s.left) (sym c.self.view_is) ∙ front_given bytes piece c.self.inside.place c.copy_front-count.result copied,
      end_given bytes piece c.self.inside.place c.self.inside.most c.copy_front-count.result count c.self.invariant.1,
    )
