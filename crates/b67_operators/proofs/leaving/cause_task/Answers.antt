use Rattle.std.proofs.Common.{◌≡◌, sym, ap, ◌∙◌, ℕ, false, List, length, map, Option, arith}
use Rattle.std.proofs.lemmas.List.{length-map}
use Rattle.b67_word.specs.declared.Place.{Place}
use Rattle.b67_events.specs.Events.{is_open, waiters_at, position_number_of, position_of}
use Rattle.b67_table.specs.Writes.{able_again}
use Rattle.b67_reach.specs.Woken.{told_numbers}
use Rattle.b67_reach.proofs.Woken.{positions_told}
use Rattle.b67_operators.specs.Leaves.{task_numbers}
use Rattle.b67_operators.proofs.TaskEvents.{not_caused, nobody_waits, none_told}
use Rattle.b67_operators.proofs.leaving.cause_task.Goals as goal

pub returns-else-is_open-clause-kernel : goal.returns-else-is_open-clause-kernel
returns-else-is_open-clause-kernel c =
    let shut : is_open c.in-Some.event c.args.kernel.now.events ≡ false = sym c.is_open.ensures ∙ c.if-is_open.false in
    sym (not_caused c.args.task c.in-Some.event c.in-Some.is c.args.kernel.now shut)

pub returns-else-is_open-clause-states : goal.returns-else-is_open-clause-states
returns-else-is_open-clause-states c =
    let shut : is_open c.in-Some.event c.args.kernel.now.events ≡ false = sym c.is_open.ensures ∙ c.if-is_open.false in
    sym (ap (λ (ps : List ℕ). able_again ps c.args.states.now.items) (nobody_waits c.args.task c.in-Some.event c.in-Some.is c.args.kernel.now.events shut))

pub returns-else-is_open-clause-numbers : goal.returns-else-is_open-clause-numbers
returns-else-is_open-clause-numbers c =
    let shut : is_open c.in-Some.event c.args.kernel.now.events ≡ false = sym c.is_open.ensures ∙ c.if-is_open.false in
    sym (none_told c.args.task c.in-Some.event c.in-Some.is c.args.kernel.now c.args.numbers.now.items shut)

pub returns-else-is_open-clause-woken : goal.returns-else-is_open-clause-woken
returns-else-is_open-clause-woken c =
    let shut : is_open c.in-Some.event c.args.kernel.now.events ≡ false = sym c.is_open.ensures ∙ c.if-is_open.false in
    c.clear.ensures.items ∙ sym (nobody_waits c.args.task c.in-Some.event c.in-Some.is c.args.kernel.now.events shut)

pub wake_all-requires : goal.wake_all-requires
wake_all-requires c =
    let f : ℕ → ℕ = λ p. position_number_of (position_of c.in-Some.event c.args.kernel.now.lists p) in
    let ps = waiters_at c.in-Some.event c.args.kernel.now.events in
    omega (arith, ap length c.cause.ensures.woken, ap length c.cause.ensures.positions ∙ length-map ps f)

pub returns-then-is_open-clause-numbers : goal.returns-then-is_open-clause-numbers
returns-then-is_open-clause-numbers c =
    let at = c.in-Some.event in
    let k = c.args.kernel.now in
    let ps = waiters_at at k.events in
    let numbers = c.args.numbers.now.items in
    c.wake_all.ensures.numbers
    ∙ ap (λ (z : List ℕ). told_numbers z c.cause.new.woken.positions.items numbers) c.cause.ensures.woken
    ∙ ap (λ (z : List ℕ). told_numbers ps z numbers) c.cause.ensures.positions
    ∙ positions_told at k.lists ps numbers
    ∙ sym (ap (λ (o : Option Place). task_numbers o k numbers) c.in-Some.is)
