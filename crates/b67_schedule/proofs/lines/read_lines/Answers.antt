use Rattle.std.proofs.Common.{◌≡◌, ◌∷◌, [], ◌++◌, ℕ, Some, List, sym, subst, arith}
use Rattle.std.proofs.lemmas.Result.{err_from_is_err_and}
use Rattle.b67_schedule.specs.declared.Run.{Run}
use Rattle.b67_deeds.specs.declared.Letter.{Letter}
use Rattle.b67_schedule.proofs.LinesRead.{LinesRead, line_added, lines_refused}
use Rattle.b67_schedule.proofs.lines.read_lines.Goals as goal

pub returns-in_err-run-clause-refused : goal.returns-in_err-run-clause-refused
returns-in_err-run-clause-refused c =
    let p = err_from_is_err_and c.from_residual.result c.from_residual.ensures.1 in
    rw (p.1, p.2) (lines_refused c.args.bytes.now c.args.at c.lines.next c.lines.before c.lines.runs.items c.lines.letters.items c.args.count c.lines.invariant (omega arith)
    c.in_err-run.field-0.0 c.in_err-run.ensures.refused)

pub lines-preserved : goal.lines-preserved
lines-preserved c =
    let read = c.in_ok-run.ensures.read in
    let items : c.push.new.self.items ≡ c.lines.runs.items ++ c.in_ok-run.run' ∷ [] = c.in_ok-push.ensures.items in
    let process : c.from.result ≡ c.in_ok-run.run'.process = c.from.ensures in
    let more = line_added c.args.bytes.now c.args.at c.lines.next c.lines.before c.lines.runs.items c.lines.letters.items c.args.count c.lines.invariant (omega arith)
    c.in_ok-run.run' c.read_line.new.letters.items c.in_ok-run.after read.0 read.1 read.2 read.3 read.4 in
    subst (λ (n : ℕ). LinesRead c.args.bytes.now c.args.at c.in_ok-run.after (Some n) c.push.new.self.items c.read_line.new.letters.items c.args.count) (sym process)
    (subst (λ (rs : List Run). LinesRead c.args.bytes.now c.args.at c.in_ok-run.after (Some c.in_ok-run.run'.process) rs c.read_line.new.letters.items c.args.count) (sym items) more)
