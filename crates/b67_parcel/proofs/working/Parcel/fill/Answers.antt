use Rattle.b67_parcel.proofs.Stretching.{filled, letters_noted}
use Rattle.b67_limits.specs.declared.TheConstants.{MOST_LETTERS}
use Rattle.b67_parcel.proofs.working.Parcel.fill.Goals as goal

pub invariant_of-self : goal.invariant_of-self
invariant_of-self g c = (
  filled g.N.Named.code c.args.process c.take_part.new.into c.copy_part.new.into _ c.copy_part.ensures c.take_part.ensures.is_part c.args.room c.no_operators-self-inside.result
      (record { image = c.args.machine.now.image; valid = c.requires.valid; able = c.requires.able; part = c.take_part.ensures.part }) c.take_part.ensures.complete
      (letters_noted c.self.inside.letters.items c.args.room MOST_LETTERS c.self.invariant.2 c.requires.room) c.no_operators-self-inside.ensures,
  c.self.invariant.1,
  c.self.invariant.2,
  c.requires.room,
)
