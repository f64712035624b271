-- What a write that failed in the middle left after.
use Rattle.std.specs.Prelude.{ℕ, ◌<◌, List, length, take, Option}
use Rattle.std.specs.Io.KnownBytes.{Appends}
use Rattle.b67_io.specs.declared.writing.WriteAll.{WriteAll}
use Rattle.b67_io.specs.declared.writing.WriteAll.TheVariants.{Failed}

-- exactly the first `written` of these bytes, which are not all of them, were appended
abbrev pub WroteFront : Option (List ℕ) → Option (List ℕ) → List ℕ → WriteAll → Type 0
WroteFront old new bytes (Failed written) = (written < length bytes) × Appends old new (take written bytes)
