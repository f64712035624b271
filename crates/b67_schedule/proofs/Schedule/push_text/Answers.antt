use Rattle.std.proofs.Common.{◌≡◌, List, ap, sym, ◌∙◌, arith, ℕ, ◌+◌, ◌-◌, ◌++◌, length, get_or, take, drop}
use Rattle.b67_schedule.specs.declared.Run.{Run}
use Rattle.b67_schedule.specs.Schedules.{ScheduleModel, entries, letter_line, letter_lines}
use Rattle.b67_schedule.proofs.Writing.{run_within, entries_next, line_written, joined}
use Rattle.b67_schedule.proofs.Schedule.push_text.Goals as goal

pub overflow_add-after : goal.overflow_add-after
overflow_add-after c =
    let runs : c.deref-run-items.result.now ≡ c.self.inside.runs.items = c.deref-run-items.ensures.value in
    let within = run_within c.deref-run-items.result.now c.lines.run-index record { process = 0; times = 0 } c.lines-test.true in
    let each : length c.self.inside.letters.items ≡ length (entries c.deref-run-items.result.now) = c.self.invariant.each ∙ ap (λ (rs : List Run). length (entries rs)) (sym runs) in
    omega (arith, c.lines.invariant.at, within, each, c.self.inside.letters.ok, c.self.inside.letters.small)

pub lines-preserved : goal.lines-preserved
lines-preserved c =
    let runs : c.deref-run-items.result.now ≡ c.self.inside.runs.items = c.deref-run-items.ensures.value in
    let letters : c.self.inside.letters.items ≡ c.args.self.now.letters = ap (λ (k : ScheduleModel). k.letters) c.self.view_is in
    let run : Run = get_or c.deref-run-items.result.now c.lines.run-index record { process = 0; times = 0 } in
    let each : length c.args.self.now.letters ≡ length (entries c.deref-run-items.result.now) =
    ap length (sym letters) ∙ c.self.invariant.each ∙ ap (λ (rs : List Run). length (entries rs)) (sym runs) in
    let line = line_written c.deref-run-items.result.now c.args.self.now.letters c.lines.run-index c.lines.at record { process = 0; times = 0 } c.lines-test.true each c.lines.invariant.at in
    record {
      at = ap (λ (n : ℕ). n + (get_or c.deref-run-items.result.now c.lines.run-index record { process = 0; times = 0 }).times) c.lines.invariant.at
          ∙ sym (entries_next c.deref-run-items.result.now c.lines.run-index record { process = 0; times = 0 } c.lines-test.true);
      text = joined c.push_line.new.text.items c.lines.text.items c.extend_from_slice.new.self.items
          (letter_lines (take c.lines.run-index c.deref-run-items.result.now) (take c.lines.at c.args.self.now.letters))
          (letter_line run.process (take (c.lines.at + run.times - c.lines.at) (drop c.lines.at c.args.self.now.letters)))
          (letter_lines (take (c.lines.run-index + 1) c.deref-run-items.result.now) (take (c.lines.at + run.times) c.args.self.now.letters))
          (rw (c.deref.ensures.value ∙ letters) at c.in_ok-push_line.ensures) c.lines.invariant.text line;
    }

pub slice_bounds-push_line-end : goal.slice_bounds-push_line-end
slice_bounds-push_line-end c =
    let runs : c.deref-run-items.result.now ≡ c.self.inside.runs.items = c.deref-run-items.ensures.value in
    let within = run_within c.deref-run-items.result.now c.lines.run-index record { process = 0; times = 0 } c.lines-test.true in
    let each : length c.self.inside.letters.items ≡ length (entries c.deref-run-items.result.now) = c.self.invariant.each ∙ ap (λ (rs : List Run). length (entries rs)) (sym runs) in
    omega (arith, c.lines.invariant.at, within, each)
