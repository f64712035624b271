-- The lines of the races of a schedule.
use Rattle.std.specs.Prelude.{ℕ, List, [], ◌++◌, length, codes, Option, Some, None}
use Rattle.std.specs.List.{flat_map}
use Rattle.std.specs.Fmt.{decimal}
use Rattle.b67_report.specs.Texts.{line_text, head_text}
use Rattle.b67_race.specs.Races.{Race}

-- the number of an element
abbrev pub element_words : Option ℕ → List ℕ
element_words None = []
element_words (Some at) = codes "[" ++ decimal at ++ codes "]"

-- the two entries, and the name of the cell
abbrev pub race_text : Race → List ℕ
race_text r = line_text (codes "RACE " ++ decimal r.first ++ codes " " ++ decimal r.second ++ codes " " ++ r.cell.name ++ element_words r.cell.at)

-- a head line with the number of races, and a line for each
abbrev pub races_text : List Race → List ℕ
races_text rs = head_text (codes "RACES ") (length rs) ++ flat_map race_text rs
