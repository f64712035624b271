use Rattle.std.proofs.Common.{◌≡◌, sym, ap, ◌∙◌, ℕ, ◌+◌, ◌-◌, ◌≤◌, ◌<◌, List, length, slice_get, Ok, Err, arith}
use Rattle.b67_word.specs.Word.{Word}
use Rattle.b67_store.specs.Store.{words_of}
use Rattle.b67_table.specs.Limits.{most_cells}
use Rattle.b67_table.specs.Program.{asked}
use Rattle.b67_table.specs.References.{cell_of}
use Rattle.b67_table.specs.Starting.{starting}
use Rattle.b67_reach.specs.declared.Stop.{Stop}
use Rattle.b67_reach.specs.Answers.{whole_outcome, stopped, outcome_answered}
use Rattle.b67_intrinsics.specs.Called.{arguments}
use Rattle.b67_going.specs.Paths.{some_words}
use Rattle.b67_going.specs.Starts.{procedure_of, given_in}
use Rattle.b67_going.proofs.Started.{given_exit, no_procedure, wrong_task, too_many_given, is_given, sees, arguments_are, arguments_count, parameters_length}
use Rattle.b67_going.proofs.processes.find_given.Goals as goal

pub returns-in_err-procedure-clause-told : goal.returns-in_err-procedure-clause-told
returns-in_err-procedure-clause-told g c = λ img s e.
    let r = c.args.regs.now in
    let st = g.C.Core.stacks c.args.core.now in
    let v = c.argument-reference.result in
    let w = c.argument-event.result in
    let count : c.arguments-count.result ≡ r.s - (r.f + 2) = c.arguments-count.ensures ∙ arguments_count st r c.requires.ready.size c.requires.above in
    let above : r.f + 4 ≤ r.s = omega (arith, count, c.if-count-lt2.false) in
    let ps = some_words st r.stack (r.f + 4) (r.s - (r.f + 4)) in
    let zero : r.f + 2 + 0 ≡ r.f + 2 = omega arith in
    let one : r.f + 2 + 1 ≡ r.f + 3 = omega arith in
    let words = arguments_are img st r v w s above (ap (λ (i : ℕ). slice_get (words_of st r.stack) i) (sym zero) ∙ c.argument-reference.ensures)
    (ap (λ (i : ℕ). slice_get (words_of st r.stack) i) (sym one) ∙ c.argument-event.ensures) in
    given_exit st (asked img (starting r (arguments img.stacks r))) c.from_residual.result c.in_err-procedure.field-0.0 c.from_residual.ensures.1
    (ap (λ (ws : List Word). whole_outcome (asked img (starting r ws))) words
    ∙ no_procedure img r v w ps c.in_err-procedure.field-0.0 (sees img (procedure_of (cell_of r v)) st (Err c.in_err-procedure.field-0.0) s c.in_err-procedure.ensures.value))

pub returns-in_err-task-clause-told : goal.returns-in_err-task-clause-told
returns-in_err-task-clause-told g c = λ img s e.
    let r = c.args.regs.now in
    let st = g.C.Core.stacks c.args.core.now in
    let v = c.argument-reference.result in
    let w = c.argument-event.result in
    let count : c.arguments-count.result ≡ r.s - (r.f + 2) = c.arguments-count.ensures ∙ arguments_count st r c.requires.ready.size c.requires.above in
    let above : r.f + 4 ≤ r.s = omega (arith, count, c.if-count-lt2.false) in
    let ps = some_words st r.stack (r.f + 4) (r.s - (r.f + 4)) in
    let zero : r.f + 2 + 0 ≡ r.f + 2 = omega arith in
    let one : r.f + 2 + 1 ≡ r.f + 3 = omega arith in
    let words = arguments_are img st r v w s above (ap (λ (i : ℕ). slice_get (words_of st r.stack) i) (sym zero) ∙ c.argument-reference.ensures)
    (ap (λ (i : ℕ). slice_get (words_of st r.stack) i) (sym one) ∙ c.argument-event.ensures) in
    given_exit st (asked img (starting r (arguments img.stacks r))) c.from_residual-in_err-task.result c.in_err-task.field-0.0 c.from_residual-in_err-task.ensures.1
    (ap (λ (ws : List Word). whole_outcome (asked img (starting r ws))) words
    ∙ wrong_task img r v w ps (c.in_ok-procedure.procedure, c.in_ok-procedure.home) (sees img (procedure_of (cell_of r v)) st (Ok (c.in_ok-procedure.procedure, c.in_ok-procedure.home)) s c.in_ok-procedure.ensures.value) c.in_err-task.field-0.0 (c.in_err-task.ensures.told img s e))

pub returns-then-count-gt-MOST_CELLS-clause-told : goal.returns-then-count-gt-MOST_CELLS-clause-told
returns-then-count-gt-MOST_CELLS-clause-told g c = λ img s e.
    let r = c.args.regs.now in
    let st = g.C.Core.stacks c.args.core.now in
    let v = c.argument-reference.result in
    let w = c.argument-event.result in
    let count : c.arguments-count.result ≡ r.s - (r.f + 2) = c.arguments-count.ensures ∙ arguments_count st r c.requires.ready.size c.requires.above in
    let above : r.f + 4 ≤ r.s = omega (arith, count, c.if-count-lt2.false) in
    let ps = some_words st r.stack (r.f + 4) (r.s - (r.f + 4)) in
    let zero : r.f + 2 + 0 ≡ r.f + 2 = omega arith in
    let one : r.f + 2 + 1 ≡ r.f + 3 = omega arith in
    let words = arguments_are img st r v w s above (ap (λ (i : ℕ). slice_get (words_of st r.stack) i) (sym zero) ∙ c.argument-reference.ensures)
    (ap (λ (i : ℕ). slice_get (words_of st r.stack) i) (sym one) ∙ c.argument-event.ensures) in
    let many : most_cells < length ps = omega (arith, c.if-count-gt-MOST_CELLS.true, count, parameters_length st r c.requires.ready.size above) in
    ap (λ (ws : List Word). whole_outcome (asked img (starting r ws))) words
    ∙ too_many_given img r v w ps (c.in_ok-procedure.procedure, c.in_ok-procedure.home) (sees img (procedure_of (cell_of r v)) st (Ok (c.in_ok-procedure.procedure, c.in_ok-procedure.home)) s c.in_ok-procedure.ensures.value) c.in_ok-task.task (c.in_ok-task.ensures.told img s e) many
    ∙ ap (λ (z : Stop). stopped z) (sym c.invalid-then-count-gt-MOST_CELLS.ensures)

pub returns-clause-told : goal.returns-clause-told
returns-clause-told g c = λ img s e.
    let r = c.args.regs.now in
    let st = g.C.Core.stacks c.args.core.now in
    let v = c.argument-reference.result in
    let w = c.argument-event.result in
    let count : c.arguments-count.result ≡ r.s - (r.f + 2) = c.arguments-count.ensures ∙ arguments_count st r c.requires.ready.size c.requires.above in
    let above : r.f + 4 ≤ r.s = omega (arith, count, c.if-count-lt2.false) in
    let ps = some_words st r.stack (r.f + 4) (r.s - (r.f + 4)) in
    let zero : r.f + 2 + 0 ≡ r.f + 2 = omega arith in
    let one : r.f + 2 + 1 ≡ r.f + 3 = omega arith in
    let words = arguments_are img st r v w s above (ap (λ (i : ℕ). slice_get (words_of st r.stack) i) (sym zero) ∙ c.argument-reference.ensures)
    (ap (λ (i : ℕ). slice_get (words_of st r.stack) i) (sym one) ∙ c.argument-event.ensures) in
    let few : length ps ≤ most_cells = omega (arith, c.if-count-gt-MOST_CELLS.false, count, parameters_length st r c.requires.ready.size above) in
    let first : r.f + 4 ≡ c.from.result + 4 = ap (λ (i : ℕ). i + 4) (sym c.from.ensures) in
    let rest : r.s - (r.f + 4) ≡ c.arguments-count.result - 2 = omega (arith, count) in
    ap (λ (ws : List Word). whole_outcome (asked img (starting r ws))) words
    ∙ is_given img r v w ps (c.in_ok-procedure.procedure, c.in_ok-procedure.home) (sees img (procedure_of (cell_of r v)) st (Ok (c.in_ok-procedure.procedure, c.in_ok-procedure.home)) s c.in_ok-procedure.ensures.value) c.in_ok-task.task (c.in_ok-task.ensures.told img s e) few
    ∙ ap (λ (i : ℕ). outcome_answered (given_in st (Ok (record { procedure = c.in_ok-procedure.procedure; needs = record { home = c.in_ok-procedure.home; task = c.in_ok-task.task; stack = r.stack; first = i; count = r.s - (r.f + 4) } })))) first
    ∙ ap (λ (i : ℕ). outcome_answered (given_in st (Ok (record { procedure = c.in_ok-procedure.procedure; needs = record { home = c.in_ok-procedure.home; task = c.in_ok-task.task; stack = r.stack; first = c.from.result + 4; count = i } })))) rest
