use Rattle.std.proofs.Common.{◌≡◌, ◌∷◌, [], ◌++◌, ◌+◌, ◌≤◌, ◌∙◌, length, Some, ap, subst, arith, List}
use Rattle.std.proofs.lemmas.Result.{err_from_is_err_and}
use Rattle.std.proofs.lemmas.List.{length_push}
use Rattle.b67_schedule.specs.declared.Run.{Run}
use Rattle.b67_schedule.specs.Schedules.{IsRun, run_line}
use Rattle.b67_schedule.specs.Reading.{process_of}
use Rattle.b67_schedule.proofs.Items.{item_stops, items_more}
use Rattle.b67_schedule.proofs.OldLines.{run_lines}
use Rattle.b67_schedule.proofs.old.read_runs.Goals as goal

pub returns-in_err-run-clause-refused : goal.returns-in_err-run-clause-refused
returns-in_err-run-clause-refused c =
    let p = err_from_is_err_and c.from_residual.result c.from_residual.ensures.1 in
    let i = c.runs.invariant in
    rw (p.1, p.2) (item_stops Run process_of IsRun run_line run_lines c.args.count c.runs.runs.items c.runs.before c.args.bytes.now c.args.at c.runs.next c.in_err-run.field-0.0.byte
    i.follow i.before (omega arith) i.stand c.in_err-run.ensures.refused)

pub runs-preserved : goal.runs-preserved
runs-preserved c =
    let i = c.runs.invariant in
    let read = c.in_ok-run.ensures.read in
    let more = items_more Run process_of IsRun run_line run_lines c.runs.runs.items c.in_ok-run.run' c.runs.before c.args.bytes.now c.args.at c.runs.next c.in_ok-run.after
    i.follow i.before read.0 i.stand read.1 in
    let items : c.push.new.self.items ≡ c.runs.runs.items ++ c.in_ok-run.run' ∷ [] = c.in_ok-push.ensures.items in
    let process : c.from.result ≡ c.in_ok-run.run'.process = c.from.ensures in
    let count : length (c.runs.runs.items ++ c.in_ok-run.run' ∷ []) ≡ length c.runs.runs.items + 1 = length_push c.runs.runs.items c.in_ok-run.run' in
    let few : length c.push.new.self.items ≤ c.args.count = omega (arith, ap length items) in
    rw items record { follow = more.follow; before = ap Some process ∙ more.before; few = subst (λ (rs : List Run). length rs ≤ c.args.count) items few; stand = more.stand }
