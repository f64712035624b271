-- A report has no more lines, and its schedule no more entries, than its text has bytes.
use Rattle.std.proofs.Common.{arith, ◌≡◌, sym, ap, ◌∙◌, ℕ, ◌+◌, ◌≤◌, List, [], ◌∷◌, length, take, drop, replicate}
use Rattle.std.specs.Prelude.{codes}
use Rattle.std.specs.List.{flat_map}
use Rattle.std.proofs.lemmas.List.{length-append, length-take-le, length-replicate, take-append-drop, length-map}
use Rattle.b67_deeds.specs.declared.Letter.{Letter}
use Rattle.b67_deeds.specs.Letters.{byte_of}
use Rattle.b67_schedule.specs.declared.Run.{Run}
use Rattle.b67_schedule.specs.Schedules.{entries, letter_line, letter_lines}
use Rattle.b67_report.specs.declared.Report.{Report}
use Rattle.b67_report.specs.Texts.{line_text, ReportText}
use Rattle.b67_report.specs.Reading.{IsReport}

each_has_a_byte : (lines : List (List ℕ)) → length lines ≤ length (flat_map line_text lines)
each_has_a_byte [] = omega arith
each_has_a_byte (line ∷ lines) =
    let rest = each_has_a_byte lines in
    let both = length-append (line_text line) (flat_map line_text lines) in
    let own = length-append line (codes "\n") in
    omega (arith, rest, both, own)

letters_of_line : (process : ℕ) (letters : List Letter) → length letters ≤ length (letter_line process letters)
letters_of_line process letters = simp length-append (omega (arith, length-map letters byte_of))

entries_within : (runs : List Run) (letters : List Letter) → length letters ≡ length (entries runs) → length (entries runs) ≤ length (letter_lines runs letters)
entries_within [] letters e = omega arith
entries_within (run ∷ runs) letters e =
    let all : length (entries (run ∷ runs)) ≡ run.times + length (entries runs) =
    length-append (replicate run.times run.process) (entries runs) ∙ ap (λ (n : ℕ). n + length (entries runs)) (length-replicate run.times run.process) in
    let own : length (take run.times letters) ≡ run.times = length-take-le run.times letters (omega (arith, e, all)) in
    let both : length letters ≡ length (take run.times letters) + length (drop run.times letters) =
    ap length (sym (take-append-drop run.times letters)) ∙ length-append (take run.times letters) (drop run.times letters) in
    let rest = entries_within runs (drop run.times letters) (omega (arith, e, all, own, both)) in
    let line = letters_of_line run.process (take run.times letters) in
    let text = length-append (letter_line run.process (take run.times letters)) (letter_lines runs (drop run.times letters)) in
    omega (arith, all, own, rest, line, text)

pub output_within : (report : Report) → length report.output ≤ length (ReportText report)
output_within report = let each = each_has_a_byte report.output in simp length-append (omega (arith, each))

pub schedule_within : (report : Report) → IsReport report → length (entries report.schedule.runs) ≤ length (ReportText report)
schedule_within report is =
    let each = entries_within report.schedule.runs report.schedule.letters is.schedule.each in simp length-append (omega (arith, each))
