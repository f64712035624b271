use Rattle.std.proofs.Common.{refl, sym, ap, ◌∙◌, ◌||◌, Bool, drop, ◌+◌}
use Rattle.b67_table.specs.declared.ProcessState.TheVariants.{Able}
use Rattle.b67_reach.proofs.Criticals.{some_critical, step, states_end, registers_end}
use Rattle.b67_reach.proofs.critical.is_critical.Goals as goal

pub processes-init : goal.processes-init
processes-init c = record { rest = refl }

pub returns-then-has_critical : goal.returns-then-has_critical
returns-then-has_critical c =
    let i = c.processes.index in
    sym (sym c.processes.invariant.rest
    ∙ step c.args.frame c.args.states.now c.args.regs.now i Able c.index-regs-index.result c.processes-test.true c.if-index-regs.true
    ∙ ap (λ (b : Bool). b || some_critical c.args.frame (drop (i + 1) c.args.states.now) (drop (i + 1) c.args.regs.now)) (sym c.if-has_critical.ensures))

pub processes-preserved : goal.processes-preserved
processes-preserved c =
    let i = c.processes.index in
    record {
      rest = sym (step c.args.frame c.args.states.now c.args.regs.now i Able c.index-regs-index.result c.processes-test.true c.if-index-regs.true
          ∙ ap (λ (b : Bool). b || some_critical c.args.frame (drop (i + 1) c.args.states.now) (drop (i + 1) c.args.regs.now)) (sym c.if-has_critical.ensures))
          ∙ c.processes.invariant.rest;
    }

pub returns-else-index-regs : goal.returns-else-index-regs
returns-else-index-regs c =
    sym (sym c.processes.invariant.rest ∙ registers_end c.args.frame c.args.states.now c.args.regs.now c.processes.index c.if-index-regs.false)

pub returns-after-processes : goal.returns-after-processes
returns-after-processes c =
    sym (sym c.processes.invariant.rest ∙ states_end c.args.frame c.args.states.now c.args.regs.now c.processes.index c.processes-test.false)
