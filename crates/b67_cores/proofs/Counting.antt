-- Plain operators, and an action after them, are at most as many as the longest segment has syllables.
use Rattle.std.proofs.Common.{◌≡◌, refl, sym, ap, ◌∙◌, subst, ℕ, ◌+◌, ◌*◌, ◌<◌, ◌≤◌, Bool, length, Option, Some, Result, Ok, Err, cond, arith}
use Rattle.std.specs.Prelude.{slice_get}
use Rattle.b67_list.specs.Numbered.{numbered}
use Rattle.b67_control.specs.declared.Registers.{Registers}
use Rattle.b67_ops.specs.declared.TheConstants.{MOST_LEVEL}
use Rattle.b67_ops.specs.declared.Operator.{Operator}
use Rattle.b67_ops.specs.declared.BadCode.{BadCode}
use Rattle.b67_ops.proofs.Laws.{Stands_within}
use Rattle.b67_segment.specs.declared.code.Code.{Code}
use Rattle.b67_segment.specs.declared.code.Segment.{Segment}
use Rattle.b67_segment.specs.declared.code.Pointer.{Pointer}
use Rattle.b67_segment.specs.Fetching.{StandsIn}
use Rattle.b67_segment.proofs.Fetches.{fetched_ok, length_syllables}
use Rattle.b67_store.specs.Store.{stack_limit}
use Rattle.b67_table.specs.declared.InterruptKind.TheVariants.{BadCode as bad_code}
use Rattle.b67_table.specs.Effect.{interrupts}
use Rattle.b67_table.specs.Outcome.{Outcome, limited}
use Rattle.b67_table.specs.Outcome as outcomes
use Rattle.b67_table.specs.Image.{Image}
use Rattle.b67_table.specs.Table.{table, raw, by_registers, by_operator, operator_at, stack_length}
use Rattle.b67_table.specs.Runs.{Plains, ProcessActs, acts, fails}
use Rattle.b67_cores.specs.Cores.{Core, size, HasCore, CoreStep, CoreSteps, here, onward}
use Rattle.b67_cores.specs.Stretches.{Decided}
use Rattle.b67_cores.proofs.Deciding.{cores_decide}
use Rattle.b67_cores.proofs.Forward.{step_forward, steps_go_forward}
use Rattle.b67_cores.proofs.Performing.{step_keeps, steps_keep, steps_are_performed}

-- ---- the operator of an action

-- an operator stands where the registers point
record HasOperator (code : Code) (r : Registers) : Type 0 where
  pub op : Operator
  pub next : ℕ
  pub stands : operator_at code r ≡ Ok (op, next)

module _ (code : Code) (p : ℕ) (img : Image) (a : Core) (has : HasCore img p a) where
  table_is : table code img p ≡ limited (stack_length p) (by_operator code img p a.registers (operator_at code a.registers))
  unfolding table raw
  table_is =
      ap (λ (b : Bool). limited (stack_length p) (cond b (by_registers code img p (numbered img.regs p)) (interrupts bad_code))) has.live
      ∙ ap (λ (o : Option Registers). limited (stack_length p) (by_registers code img p o)) has.registers

  -- what is no interrupt has one
  operator_there : (outcome : Outcome Image) → table code img p ≡ outcome → (outcomes.interrupts bad_code ≡ outcome → ⊥) → HasOperator code a.registers
  operator_there outcome t not = by_found (operator_at code a.registers) refl (sym table_is ∙ t)
    where
      by_found : (x : Result (Operator × ℕ) BadCode) → operator_at code a.registers ≡ x → limited (stack_length p) (by_operator code img p a.registers x) ≡ outcome → HasOperator code a.registers
      by_found (Ok found) is e = record { op = found.0; next = found.1; stands = is }
      by_found (Err bad) is e = absurd (not e)

  action_there : {b : Image} → ProcessActs code p img b → HasOperator code a.registers
  action_there {b} (acts np t) = operator_there (outcomes.gives b) t (λ e. cc)
  action_there (fails kind t) = operator_there (outcomes.faults kind) t (λ e. cc)

-- ---- how many there are

module _ (code : Code) (most : ℕ) (short : (k : ℕ) (segment : Segment) → slice_get code.segments k ≡ Some segment → 6 * length segment.words ≤ most) where
  -- an operator stands before the end of its segment
  stands_before : (r : Registers) (op : Operator) (next : ℕ) → r.ll ≤ MOST_LEVEL → operator_at code r ≡ Ok (op, next) → r.place < most
  stands_before r op next level e =
      let at : Pointer = record { segment = r.segment; place = r.place } in
      let s : StandsIn code at r.ll op next = (fetched_ok code at r.ll level op next).0 e in
      let within = Stands_within s.stands in
      omega (arith, within.0, within.2, length_syllables s.segment.words, short r.segment s.segment s.there)

  -- the last of these steps is that of an operator
  step_and_more : {bound n : ℕ} {a b c : Core} → a.registers.ll ≤ MOST_LEVEL → CoreStep code a b → CoreSteps code bound n b c → n + 1 + a.registers.place ≤ most
  step_and_more {a = a} level s (here h) = omega (arith, stands_before a.registers s.op s.next level s.stands)
  step_and_more {a = a} {b = b} level s (onward {n = n} h t more) =
      let level_b : b.registers.ll ≤ MOST_LEVEL = omega (arith, level, (step_keeps s).1) in
      omega (arith, step_forward level s, step_and_more level_b t more)

  steps_few : {bound n : ℕ} {a b : Core} → a.registers.ll ≤ MOST_LEVEL → CoreSteps code bound n a b → n ≤ most
  steps_few level (here h) = omega arith
  steps_few level (onward h s more) = omega (arith, step_and_more level s more)

  steps_and_one : {bound n : ℕ} {a b : Core} → a.registers.ll ≤ MOST_LEVEL → CoreSteps code bound n a b → HasOperator code b.registers → n + 1 ≤ most
  steps_and_one {bound} {n} {a} {b} level steps o =
      let level_b : b.registers.ll ≤ MOST_LEVEL = omega (arith, level, (steps_keep steps).1) in
      omega (arith, steps_go_forward code bound n a b level steps, stands_before b.registers o.op o.next level_b o.stands)

  -- so many plain operators, and an action after them
  pub plains_few : (p n : ℕ) (img new : Image) (a : Core) → HasCore img p a → size a ≤ stack_limit → a.registers.ll ≤ MOST_LEVEL → Plains code p img n new →
      (n ≤ most) × ((after : Image) → ProcessActs code p new after → n + 1 ≤ most)
  plains_few p n img new a has small level plains =
      let d : Decided code p img n a new = cores_decide.steps code p n img new a has small plains in
      let done = steps_are_performed code p stack_limit n img a d.core (omega arith) has d.steps in
      let has_new : HasCore new p d.core = subst (λ (i : Image). HasCore i p d.core) (sym d.is) done.has in
      (steps_few level d.steps, λ after x. steps_and_one level d.steps (action_there code p new d.core has_new x))
