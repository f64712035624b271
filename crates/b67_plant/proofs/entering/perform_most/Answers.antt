use Rattle.std.proofs.Common.{List, sym, subst, ◌∙◌, arith}
use Rattle.std.proofs.lemmas.List.{length-take-le}
use Rattle.b67_deeds.specs.declared.Letter.{Letter}
use Rattle.b67_machine.specs.Entries.{PerformsEntries}
use Rattle.b67_parcel.proofs.Stretching.{first_is}
use Rattle.b67_plant.proofs.entering.perform_most.Goals as goal

pub perform_entries-requires-clause-room : goal.perform_entries-requires-clause-room
perform_entries-requires-clause-room g c = omega (arith, length-take-le c.args.most c.args.notes.now c.requires.room, c.requires.some)

pub returns-clause-performs : goal.returns-clause-performs
returns-clause-performs g c =
    subst (λ (ls : List Letter). PerformsEntries c.args.machine.now c.args.process c.args.left c.perform_entries.result ls c.perform_entries.new.self)
    (sym (first_is c.perform_entries.new.letters _ c.args.most (c.perform_entries.ensures.size ∙ length-take-le c.args.most c.args.notes.now c.requires.room)))
    c.perform_entries.ensures.performs
