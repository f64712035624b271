-- What holds of every valid image.
use Rattle.std.specs.Prelude.{List}
use Rattle.b67_events.specs.Events.{Events}
use Rattle.b67_segment.specs.declared.code.Code.{Code}
use Rattle.b67_store.specs.Store.{Stacks, Rows}
use Rattle.b67_table.specs.Valid.{IsValid}
use Rattle.b67_reach.specs.declared.Parts.{Parts}
use Rattle.b67_reach.specs.Images.{image_of}
use Rattle.b67_going.specs.Starts.{HasNext}

-- in every valid image the number of the next process is free
abbrev pub ValidHaveNext : Type 0
ValidHaveNext =
    (code : Code) (stacks : Stacks) (rows : Rows) (kernel : Events) (parts : Parts) → IsValid code (image_of stacks rows kernel parts) → HasNext stacks parts
