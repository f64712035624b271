-- The letters of what a machine performs.
use Rattle.std.specs.Prelude.{◌≡◌, ℕ, zero, suc, List, [], ◌∷◌, map, reverse, Option, Some, None}
use Rattle.b67_deeds.specs.declared.Letter.{Letter}
use Rattle.b67_segment.specs.declared.code.Code.{Code}
use Rattle.b67_table.specs.Image.{Image}
use Rattle.b67_table.specs.Runs.{Runs}
use Rattle.b67_letters.specs.Entries.{letters}

-- these are the letters of a run's entries, in order
abbrev pub AreLetters : {code : Code} {history counts : List ℕ} {img : Image} → Runs code history counts img → List Letter → Type 0
AreLetters runs ls = letters runs ≡ map Some (reverse ls)

-- the letter, where there is one, or else that of before
abbrev pub or_before : Option Letter → Option Letter → Option Letter
or_before None before = before
or_before (Some l) before = Some l

-- the letter of the last action after so many operators, one at most, of which the last has this letter, where it is an action
abbrev pub lettered : ℕ → Option Letter → Option Letter → Option Letter
lettered zero found before = before
lettered (suc n) found before = or_before found before

-- the last of these letters, or else that of before
abbrev pub last_or : List Letter → Option Letter → Option Letter
last_or [] before = before
last_or (l ∷ ls) before = last_or ls (Some l)
