-- The numbers of the intrinsics.
use Rattle.std.specs.Prelude.{ℕ, ◌+◌, List, [], ◌∷◌}
use Rattle.b67_deeds.specs.declared.EventAct.TheVariants as act
use Rattle.b67_deeds.specs.declared.EventTest.TheVariants as test
use Rattle.b67_deeds.specs.Deeds.{EventDeed, acts, tests}
use Rattle.b67_ops.specs.contracts.intrinsic.Intrinsic as generated
use Rattle.b67_ops.specs.declared.Couple.{Couple}
use Rattle.b67_ops.specs.declared.intrinsic.Intrinsic.{Intrinsic}
use Rattle.b67_ops.specs.declared.intrinsic.Intrinsic.TheVariants.{GoTo, Select, Arrays, Event, Start, Write, Wait, Cause, Reset, Happened, Procure, Liberate, WaitAny, CauseAndReset, Available, Fix}
use Rattle.b67_ops.specs.declared.intrinsic.TheConstants.{FIRST_INTRINSIC}
use Rattle.b67_ops.specs.Positions.{position}

-- the number of an intrinsic: they are numbered in the order in which they are declared
abbrev pub intrinsic_number_of : Intrinsic → ℕ
intrinsic_number_of intrinsic = FIRST_INTRINSIC + position generated.the_parts (generated.as_values intrinsic)

-- the couple of an intrinsic: level 0 names the stack of the system
abbrev pub couple_of_intrinsic : Intrinsic → Couple
couple_of_intrinsic intrinsic = record { level = 0; index = intrinsic_number_of intrinsic }

-- the intrinsics in the order of their numbers
abbrev pub intrinsics : List Intrinsic
intrinsics = GoTo ∷ Select ∷ Arrays ∷ Event ∷ Start ∷ Write ∷ Wait ∷ Cause ∷ Reset ∷ Happened ∷ Procure ∷ Liberate ∷ WaitAny ∷ CauseAndReset ∷ Available ∷ Fix ∷ []

-- the intrinsic that does what is done with an event, or with several
abbrev pub intrinsic_of : EventDeed → Intrinsic
intrinsic_of (acts act.Cause) = Cause
intrinsic_of (acts act.CauseAndReset) = CauseAndReset
intrinsic_of (acts act.Reset) = Reset
intrinsic_of (acts act.Wait) = Wait
intrinsic_of (acts act.Procure) = Procure
intrinsic_of (acts act.Liberate) = Liberate
intrinsic_of (tests test.Happened) = Happened
intrinsic_of (tests test.Available) = Available
intrinsic_of (tests test.Fix) = Fix
intrinsic_of (tests test.WaitAny) = WaitAny
