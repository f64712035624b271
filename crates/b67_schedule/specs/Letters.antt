-- The bytes of letters.
use Rattle.std.specs.Prelude.{ℕ, List, map}
use Rattle.b67_deeds.specs.declared.Letter.{Letter}
use Rattle.b67_deeds.specs.Letters.{byte_of}

abbrev pub bytes_of : List Letter → List ℕ
bytes_of letters = map byte_of letters
