-- Operators of a run that may come before or after one another.
use Rattle.std.specs.Prelude.{◌≡◌, ◌≢◌, ℕ, true, List}
use Rattle.b67_word.specs.declared.Place.{Place}
use Rattle.b67_control.specs.declared.Registers.{Registers}
use Rattle.b67_segment.specs.declared.code.Code.{Code}
use Rattle.b67_table.specs.Image.{Image}
use Rattle.b67_table.specs.Outcome.{gives}
use Rattle.b67_table.specs.Privacy.{ProcessStands, Commute}
use Rattle.b67_table.specs.Runs.{TableRun}
use Rattle.b67_table.specs.Sound.{Sound, OperatorTouches}
use Rattle.b67_table.specs.Table.{table, plain}
use Rattle.b67_table.specs.Touches.{IsPrivate}
use Rattle.b67_letters.specs.Letters.{letter}
use Rattle.b67_table.specs.Valid.{IsValid}

-- In each valid image to which a run of sound code leads, a plain operator of one process commutes with every operator of another.
abbrev pub PlainOperatorsCommuteInRuns : Type 0
PlainOperatorsCommuteInRuns =
    (code : Code) (schedule tails : List ℕ) (img a : Image) (p q : ℕ) → Sound code → TableRun code schedule tails img → IsValid code img → p ≢ q
    → plain code img q ≡ true → table code img q ≡ gives a → Commute code p q img a

-- An operator that touches no word of another process's private part has the same letter before a plain operator of that one and after it.
abbrev pub LettersStayApart : Type 0
LettersStayApart =
    (code : Code) (p q : ℕ) (r : Registers) (img a : Image) → p ≢ q → ProcessStands img q r → plain code img q ≡ true → table code img q ≡ gives a
    → ((x : Place) → OperatorTouches code img p x → IsPrivate r x → ⊥) → letter code a p ≡ letter code img p
