-- The intrinsic of each deed has the deed's letter.
use Rattle.std.proofs.Common.{◌≡◌, refl, ℕ, false}
use Rattle.b67_deeds.specs.declared.EventAct.TheVariants as act
use Rattle.b67_deeds.specs.declared.EventTest.TheVariants as test
use Rattle.b67_deeds.specs.Deeds.{EventDeed, acts, tests, is_of_several}
use Rattle.b67_deeds.specs.Deeds as deeds
use Rattle.b67_ops.specs.Intrinsics.{intrinsic_of}
use Rattle.b67_letters.specs.Letters.{letter_of}

-- where it is done with one event, whatever the process's woken number; a wait for several has its letter where the number is 0
pub deed_letters : (woken : ℕ) (x : EventDeed) → is_of_several x ≡ false → letter_of woken (intrinsic_of x) ≡ deeds.letter_of x
deed_letters woken (acts act.Cause) e = refl
deed_letters woken (acts act.CauseAndReset) e = refl
deed_letters woken (acts act.Reset) e = refl
deed_letters woken (acts act.Wait) e = refl
deed_letters woken (acts act.Procure) e = refl
deed_letters woken (acts act.Liberate) e = refl
deed_letters woken (tests test.Happened) e = refl
deed_letters woken (tests test.Available) e = refl
deed_letters woken (tests test.Fix) e = refl
deed_letters woken (tests test.WaitAny) e = cc
