-- The intrinsic of each deed has the deed's row.
use Rattle.std.proofs.Common.{◌≡◌, refl, false}
use Rattle.b67_deeds.specs.declared.EventAct.TheVariants as act
use Rattle.b67_deeds.specs.declared.EventTest.TheVariants as test
use Rattle.b67_deeds.specs.Deeds.{EventDeed, acts, tests, is_of_several}
use Rattle.b67_ops.specs.Intrinsics.{intrinsic_of}
use Rattle.b67_table.specs.Arguments.{IntrinsicRow}
use Rattle.b67_table.specs.Intrinsics.{on_event, tell_event, row_of_intrinsic}

-- a statement does it, and a test tells what the event answers; a wait for several has a row of its own
abbrev pub deed_row : EventDeed → IntrinsicRow
deed_row (acts a) = on_event (acts a)
deed_row (tests t) = tell_event t

pub deed_rows : (x : EventDeed) → is_of_several x ≡ false → row_of_intrinsic (intrinsic_of x) ≡ deed_row x
deed_rows (acts act.Cause) e = refl
deed_rows (acts act.CauseAndReset) e = refl
deed_rows (acts act.Reset) e = refl
deed_rows (acts act.Wait) e = refl
deed_rows (acts act.Procure) e = refl
deed_rows (acts act.Liberate) e = refl
deed_rows (tests test.Happened) e = refl
deed_rows (tests test.Available) e = refl
deed_rows (tests test.Fix) e = refl
deed_rows (tests test.WaitAny) e = cc
