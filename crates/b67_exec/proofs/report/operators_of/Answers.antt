use Rattle.std.proofs.Common.{◌≡◌, sym, ap, ◌∙◌, refl, List, [], ◌∷◌, ◌++◌, ◌+◌, ℕ, arith}
use Rattle.b67_machine.specs.Kept.{operators_counted}
use Rattle.b67_exec.specs.Texts.{counts_in}
use Rattle.b67_exec.proofs.Telling.{counts_next}
use Rattle.b67_exec.proofs.report.operators_of.Goals as goal

pub processes-preserved : goal.processes-preserved
processes-preserved g c =
    let counts = c.args.machine.now.counts in
    let next : c.processes.before + 1 ≡ 1 + c.processes.before = omega arith in
    c.in_ok-push.ensures.items
    ∙ ap (λ (xs : List ℕ). xs ++ c.count.result ∷ []) c.processes.invariant
    ∙ ap (λ (x : ℕ). counts_in counts 1 c.processes.before ++ x ∷ []) (c.count.ensures ∙ ap (operators_counted counts) next)
    ∙ sym (counts_next counts 1 c.processes.before (c.processes.before + 1) refl)

pub returns : goal.returns
returns g c =
    let all : c.processes.before ≡ c.args.machine.now.image.started = omega (arith, c.started-before-end.ensures, c.processes-test.false) in
    c.of.ensures ∙ c.processes.invariant ∙ ap (counts_in c.args.machine.now.counts 1) all
