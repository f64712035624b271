-- Letters tell actions apart.
use Rattle.std.specs.Prelude.{◌≡◌}
use Rattle.b67_deeds.specs.declared.Letter.{Letter}
use Rattle.b67_deeds.specs.Letters.{byte_of}
use Rattle.b67_deeds.specs.Deeds.{EventDeed, letter_of}

pub record LettersDiffer : Type 0 where
  pub bytes : (x y : Letter) → byte_of x ≡ byte_of y → x ≡ y
  pub deeds : (x y : EventDeed) → letter_of x ≡ letter_of y → x ≡ y
