-- The text of outcomes.
use Rattle.std.specs.Prelude.{ℕ, Bool, true, false, List, ◌++◌, codes, length}
use Rattle.std.specs.List.{flat_map}
use Rattle.std.specs.Fmt.{decimal}
use Rattle.b67_schedule.specs.declared.reading.Given.{Given}
use Rattle.b67_schedule.specs.declared.reading.Given.TheVariants.{One, Two}
use Rattle.b67_schedule.specs.Schedules.{OldText, ScheduleText}
use Rattle.b67_report.specs.Texts.{line_text, lines_text, end_words}
use Rattle.b67_told.specs.declared.Told.{Told}

abbrev pub given_text : Given → List ℕ
given_text (One old) = OldText old.runs
given_text (Two schedule) = ScheduleText schedule.runs schedule.letters

-- its output, how the run ended, and a schedule
abbrev pub told_text : Told → List ℕ
told_text told = lines_text (codes "OUTPUT ") told.outcome.output ++ line_text (end_words told.outcome.end) ++ given_text told.schedule

abbrev pub told_texts : List Told → List ℕ
told_texts told = flat_map told_text told

abbrev pub cut_words : Bool → List ℕ
cut_words true = codes " CUT\n"
cut_words false = codes " COMPLETE\n"

-- how many outcomes there are, whether that is all of them, and how many states were kept
abbrev pub head_text : ℕ → Bool → ℕ → List ℕ
head_text outcomes cut states = codes "OUTCOMES " ++ decimal outcomes ++ cut_words cut ++ codes "STATES " ++ decimal states ++ codes "\n"

-- the text of outcomes
abbrev pub OutcomesText : List Told → Bool → ℕ → List ℕ
OutcomesText told cut states = head_text (length told) cut states ++ told_texts told
