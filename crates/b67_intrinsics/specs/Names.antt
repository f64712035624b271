-- The processes that an intrinsic releases.
use Rattle.std.specs.Prelude.{◌≡◌, ℕ, List, Option, Ok}
use Rattle.b67_word.specs.declared.Place.{Place}
use Rattle.b67_control.specs.declared.Mscw.{Mscw}
use Rattle.b67_control.specs.declared.Registers.{Registers}
use Rattle.b67_deeds.specs.declared.EventAct.TheVariants as act
use Rattle.b67_deeds.specs.Deeds.{EventDeed, acts}
use Rattle.b67_events.specs.Events.{deed_at}
use Rattle.b67_ops.specs.declared.intrinsic.Intrinsic.{Intrinsic}
use Rattle.b67_ops.specs.declared.intrinsic.Intrinsic.TheVariants as names
use Rattle.b67_table.specs.Image.{Image}
use Rattle.b67_intrinsics.specs.Called.{IntrinsicLeads, event_tests_in}

-- the processes that are released by what is done with the event that is the argument, whoever does it
abbrev pub Frees : EventDeed → Image → Option Registers → Mscw → List ℕ → Type 0
Frees x img regs m after = (at : Place) × IntrinsicLeads img (event_tests_in regs m img.stacks) (Ok at) × (after ≡ (deed_at x 0 at img.events).frees)

-- the processes that an intrinsic released, in their order, are those after; where it releases none, they are those before
abbrev pub Releases : Intrinsic → Image → Option Registers → Mscw → List ℕ → List ℕ → Type 0
Releases names.GoTo img regs m before after = after ≡ before
Releases names.Select img regs m before after = after ≡ before
Releases names.Arrays img regs m before after = after ≡ before
Releases names.Event img regs m before after = after ≡ before
Releases names.Start img regs m before after = after ≡ before
Releases names.Write img regs m before after = after ≡ before
Releases names.Wait img regs m before after = after ≡ before
Releases names.Cause img regs m before after = Frees (acts act.Cause) img regs m after
Releases names.Reset img regs m before after = after ≡ before
Releases names.Happened img regs m before after = after ≡ before
Releases names.Procure img regs m before after = after ≡ before
Releases names.Liberate img regs m before after = Frees (acts act.Liberate) img regs m after
Releases names.WaitAny img regs m before after = after ≡ before
Releases names.CauseAndReset img regs m before after = Frees (acts act.CauseAndReset) img regs m after
Releases names.Available img regs m before after = after ≡ before
Releases names.Fix img regs m before after = after ≡ before
