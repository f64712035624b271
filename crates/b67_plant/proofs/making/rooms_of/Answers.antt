use Rattle.std.proofs.Common.{ℕ, List, [], ◌∷◌, ◌++◌, length, ap, ◌∙◌, arith}
use Rattle.std.proofs.lemmas.List.{length-replicate}
use Rattle.b67_deeds.specs.declared.Letter.{Letter}
use Rattle.b67_deeds.specs.declared.Letter.TheVariants as letters
use Rattle.b67_limits.specs.declared.TheConstants.{MOST_LETTERS}
use Rattle.b67_plant.proofs.making.rooms_of.Goals as goal

pub returns-clause-queue : goal.returns-clause-queue
returns-clause-queue g c = (
  c.put.ensures.waiting ∙ ap (λ (xs : List ℕ). xs ++ 1 ∷ []) c.in_ok-ready.ensures.empty.0,
  c.put.ensures.takes ∙ c.in_ok-ready.ensures.empty.1,
)

pub returns-clause-room : goal.returns-clause-room
returns-clause-room g c = omega (arith, c.in_ok-ready.ensures.room, c.put.ensures.room)

pub returns-clause-out : goal.returns-clause-out
returns-clause-out g c = c.in_ok-vec.ensures.items_if_clones_equal (λ y h. h)

pub returns-clause-schedule : goal.returns-clause-schedule
returns-clause-schedule g c = (c.in_ok-with_room.ensures.empty.0, c.in_ok-with_room.ensures.empty.1, omega (arith, c.in_ok-with_room.ensures.room))

pub returns-clause-notes : goal.returns-clause-notes
returns-clause-notes g c = ap length (c.in_ok-vec-2.ensures.items_if_clones_equal (λ y h. h)) ∙ length-replicate {A = Letter} MOST_LETTERS letters.Read
