use Rattle.b67_parcel.proofs.fetching.Ahead.fetch.Goals as goal

pub invariant_of-self : goal.invariant_of-self
invariant_of-self g c = (
  record {
    taken = record { image = c.args.machine.now.image; valid = c.requires.valid; able = c.requires.able; part = c.take_part.ensures.part };
    complete = c.take_part.ensures.complete;
    is_part = c.take_part.ensures.is_part;
  },
  c.requires.room,
)
