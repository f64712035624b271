-- What a run comes to comes of the first image.
use Rattle.std.proofs.Common.{ℕ, List, [], ◌∷◌}
use Rattle.b67_segment.specs.declared.code.Code.{Code}
use Rattle.b67_table.specs.Beginning.{first_image}
use Rattle.b67_table.specs.Image.{Image}
use Rattle.b67_table.specs.Runs.{Runs, begin, entry}
use Rattle.b67_settling.specs.Settling.{Result, ResultIsAt, ImageComesTo, now}
use Rattle.b67_settling.specs.Settling as settling
use Rattle.b67_settling.specs.Laws.{RunsComeTo}

back : (code : Code) (h counts : List ℕ) (a : Image) (o : Result) → Runs code h counts a → (s : List ℕ) → ImageComesTo code o a s → (t : List ℕ) × ImageComesTo code o first_image t
back code h counts a o begin s c = (s, c)
back code h counts a o (entry {h = g} {counts = k} {a = b} {p = p} run e) s c = back code g k b o run (p ∷ s) (settling.entry e c)

pub runs_come_to : RunsComeTo
runs_come_to code h counts a o run at = back code h counts a o run [] (now at)
