-- What an entry and a leaving come to where the display stays as it is below the level of the frame that is entered or come back to.
use Rattle.std.specs.Prelude.{ℕ}
use Rattle.b67_word.specs.declared.Place.{Place}
use Rattle.b67_control.specs.declared.Registers.{Registers}
use Rattle.b67_control.specs.declared.Pcw.{Pcw}
use Rattle.b67_table.specs.declared.Below.{Below}
use Rattle.b67_table.specs.declared.Entry.{Entry}
use Rattle.b67_table.specs.declared.Leaving.{Leaving}
use Rattle.b67_table.specs.Chains.{place}
use Rattle.b67_display.specs.Shown.{shown_at}

abbrev pub entry_shown : Registers → ℕ → Pcw → Place → Entry
entry_shown r mark pcw home = record { home = home; display = shown_at r.display (place r.stack mark) pcw.level }

abbrev pub leaving_shown : Registers → Below → Leaving
leaving_shown r b = record { below = b; display = shown_at r.display (place r.stack b.frame) b.control.caller_level }
