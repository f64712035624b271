use Rattle.std.proofs.Common.{◌≡◌, ◌++◌, take, length}
use Rattle.std.specs.Prelude.{codes}
use Rattle.std.specs.List.{flat_map}
use Rattle.b67_report.specs.Texts.{head_text}
use Rattle.b67_races.specs.declared.telling.Race.{Race}
use Rattle.b67_races.specs.Texts.{race_text}
use Rattle.b67_races.specs.Told.{race_of}
use Rattle.b67_races.proofs.texts.races_lines.Given as goal

abbrev pub invariant-races : goal.invariant-races
invariant-races l = l.text.items ≡ head_text (codes "RACES ") (length l.races) ++ flat_map (λ (r : Race). race_text (race_of r)) (take l.race-index l.races)
