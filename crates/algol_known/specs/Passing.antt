-- What is said of names, of which the first counts.
use Rattle.std.specs.Prelude.{Bool, true, false, Option, Some, None}

-- what is said of a name, where more is said of it if it is named
abbrev pub kept : Option Bool → Bool → Bool → Option Bool
kept (Some b) named value = Some b
kept None true value = Some value
kept None false value = None

abbrev pub said : Option Bool → Bool → Bool
said (Some b) other = b
said None other = other
