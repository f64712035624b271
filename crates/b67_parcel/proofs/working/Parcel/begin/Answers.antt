use Rattle.std.proofs.Common.{◌∙◌}
use Rattle.b67_parcel.proofs.Stretching.{begun_with, letters_noted}
use Rattle.b67_limits.specs.declared.TheConstants.{MOST_LETTERS}
use Rattle.b67_parcel.proofs.working.Parcel.begin.Goals as goal

pub invariant_of-self : goal.invariant_of-self
invariant_of-self g c = (
  begun_with g.N.Named.code c.args.ahead.now c.process-self-inside.result c.room-self-inside.result c.copy_part.new.into c.copy_part-2.new.into c.no_operators-self-inside.result _
      c.part.ensures.kept c.process-self-inside.ensures c.room-self-inside.ensures.value (c.copy_part.ensures ∙ c.part.ensures.value) c.copy_part-2.ensures c.no_operators-self-inside.ensures
      (letters_noted c.self.inside.letters.items c.room-self-inside.result MOST_LETTERS c.self.invariant.2 c.room-self-inside.ensures.most),
  c.self.invariant.1,
  c.self.invariant.2,
  c.room-self-inside.ensures.most,
)
