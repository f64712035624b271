use Rattle.std.proofs.Common.{◌≡◌, ◌<◌, ◌≤◌, ◌^◌, ℕ, All, List, [], ◌∷◌, length, sym, subst, ap, ◌∙◌, arith}
use Rattle.std.proofs.lemmas.List.{length-append}
use Rattle.std.proofs.lemmas.List.Elements.{All-nil, All-push}
use Rattle.b67_machine.specs.Kept.{operators_counted}
use Rattle.b67_report.specs.Reading.{ReportCounts}
use Rattle.b67_explain.specs.Telling.{MachineCounts}
use Rattle.b67_explain.proofs.Counts.{counts_more, no_counts}
use Rattle.b67_explain.proofs.report.operators_of.Goals as goal

pub processes-init : goal.processes-init
processes-init g c =
    let counts = c.args.machine.now.counts in
    record {
      each = ap length c.new-operators.ensures.items;
      are = subst (λ (xs : List ℕ). (p : ℕ) → 1 ≤ p → p ≤ length xs → operators_counted xs p ≡ operators_counted counts p) (sym c.new-operators.ensures.items) (no_counts (operators_counted counts));
      numbers = subst (All (λ (count : ℕ). count < 2 ^ 64)) (sym c.new-operators.ensures.items) (All-nil (λ (count : ℕ). count < 2 ^ 64));
    }

pub processes-preserved : goal.processes-preserved
processes-preserved g c =
    let counts = c.args.machine.now.counts in
    let xs = c.processes.operators.items in
    let is = c.in_ok-push.ensures.items in
    record {
      each = ap length is ∙ omega (arith, length-append xs (c.count.result ∷ []), c.processes.invariant.each);
      are =
          subst (λ (ys : List ℕ). (p : ℕ) → 1 ≤ p → p ≤ length ys → operators_counted ys p ≡ operators_counted counts p) (sym is)
          (counts_more xs c.count.result (operators_counted counts) c.processes.invariant.are (c.count.ensures ∙ ap (operators_counted counts) (omega (arith, c.processes.invariant.each))));
      numbers =
          subst (All (λ (count : ℕ). count < 2 ^ 64)) (sym is)
          (All-push (λ (count : ℕ). count < 2 ^ 64) xs c.count.result c.processes.invariant.numbers (omega arith));
    }

pub returns-clause-counts : goal.returns-clause-counts
returns-clause-counts g c =
    subst (MachineCounts c.args.machine.now) (sym c.of.ensures)
    (record { each = c.processes.invariant.each ∙ omega (arith, c.started-before-end.ensures, c.processes-test.false); are = c.processes.invariant.are })

pub returns-clause-numbers : goal.returns-clause-numbers
returns-clause-numbers g c =
    subst ReportCounts (sym c.of.ensures)
    (record { each = c.processes.invariant.numbers; few = omega (arith, c.processes.invariant.each) })
