-- What the entries of a run do, the newest first.
use Rattle.std.specs.Prelude.{ℕ, List, [], ◌∷◌, Option}
use Rattle.b67_segment.specs.declared.code.Code.{Code}
use Rattle.b67_table.specs.Image.{Image}
use Rattle.b67_table.specs.Runs.{Runs, begin, entry}
use Rattle.b67_deeds.specs.declared.Letter.{Letter}
use Rattle.b67_letters.specs.Letters.{letter}
use Rattle.b67_letters.specs.Releases.{releases, operator_starts}

-- the letter of each entry, by the operator that performed it
abbrev pub letters : {code : Code} {h counts : List ℕ} {img : Image} → Runs code h counts img → List (Option Letter)
letters begin = []
letters {code} (entry {p = p} runs e) = letter code e.quiet p ∷ letters runs

-- whom each entry released, in their order
abbrev pub all_released : {code : Code} {h counts : List ℕ} {img : Image} → Runs code h counts img → List (List ℕ)
all_released begin = []
all_released {code} (entry {p = p} runs e) = releases code e.quiet p ∷ all_released runs

-- whom each entry started
abbrev pub all_started : {code : Code} {h counts : List ℕ} {img : Image} → Runs code h counts img → List (Option ℕ)
all_started begin = []
all_started {code} (entry {p = p} runs e) = operator_starts code e.quiet p ∷ all_started runs
