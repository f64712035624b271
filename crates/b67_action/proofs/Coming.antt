-- What an operator of a row comes to, by the table.
use Rattle.std.specs.Prelude.{nat_le}
use Rattle.std.proofs.Common.{◌≡◌, refl, sym, ap, subst, ◌∙◌, ℕ, ◌≤◌, Bool, true, false, cond, List, [], ◌∷◌, length, Option, Some, None, Result, Ok, Err, arith}
use Rattle.std.proofs.lemmas.List.{length-append}
use Rattle.b67_list.specs.Numbered.{numbered}
use Rattle.b67_control.specs.declared.Registers.{Registers}
use Rattle.b67_ops.specs.declared.Operator.{Operator}
use Rattle.b67_ops.specs.declared.BadCode.{BadCode}
use Rattle.b67_ops.specs.declared.Operator.TheVariants.{Plain}
use Rattle.b67_ops.specs.declared.PlainKind.TheVariants.{Entr}
use Rattle.b67_segment.specs.declared.code.Code.{Code}
use Rattle.b67_segment.specs.Decoded.{found, if_good}
use Rattle.b67_table.specs.declared.Class.TheVariants.{Private}
use Rattle.b67_table.specs.declared.InterruptKind.TheVariants.{BadCode as bad_code}
use Rattle.b67_table.specs.declared.ProcessState.{ProcessState}
use Rattle.b67_table.specs.declared.ProcessState.TheVariants as states
use Rattle.b67_table.specs.Effect.{Effect, gives, faults, interrupts}
use Rattle.b67_deeds.specs.Deeds.{Next, goes, waits as awaits, procures}
use Rattle.b67_events.specs.Events.{deed_at}
use Rattle.b67_store.specs.Store.{stack_limit}
use Rattle.b67_table.specs.declared.Private.{Private as Part}
use Rattle.b67_table.specs.Image.{Image, private_of, with_private, with_effect, is_able}
use Rattle.b67_table.specs.Outcome.{limited}
use Rattle.b67_table.specs.Outcome as outcomes
use Rattle.b67_table.specs.Private.{floor}
use Rattle.b67_table.specs.Program.{Program, Change, done, look_up, write, changed, asked, does, effect_of}
use Rattle.b67_table.specs.Questions.{told}
use Rattle.b67_table.specs.Rows as rows
use Rattle.b67_table.specs.Rows.{row, private_part, action}
use Rattle.b67_table.specs.Table.{table, raw, operator_at, by_row, by_operator, by_registers, part_by, private_op, class_by, stack_length}
use Rattle.b67_table.specs.Valid.{waits}
use Rattle.b67_table.specs.Writes.{Write, write_made, waiting}
use Rattle.b67_table.specs.Writes as writes
use Rattle.b67_table.proofs.EventKept.{length_states, length_again}
use Rattle.b67_table.proofs.Lists.{numbered_within, numbered_from}
use Rattle.b67_table.proofs.Waking.{able_live}
use Rattle.b67_intrinsics.specs.declared.hindrance.Hindrance.{Hindrance}
use Rattle.b67_intrinsics.specs.declared.hindrance.Hindrance.TheVariants.{Stopped, NoMemory}
use Rattle.b67_reach.specs.declared.Stop.{Stop}
use Rattle.b67_reach.specs.declared.Stop.TheVariants.{Interrupt, Fault, StackLimit}
use Rattle.b67_reach.specs.Answers.{ProgramActs}
use Rattle.b67_private.proofs.Stepping.{fetched_of}
use Rattle.b67_action.specs.declared.rows.Row.{Row}
use Rattle.b67_action.specs.declared.rows.Row.TheVariants as ours
use Rattle.b67_action.specs.Acting.{row_effect, ComesOrNot, CallsMaker}
use Rattle.b67_action.specs.Among.{EffectComes}
use Rattle.b67_action.specs.Done.{went, hindered_by, is_performed, MakesNext, Came}
use Rattle.b67_action.specs.Rows.{IsTableRow}

-- ---- programs and effects

pub comes_by : {A : Type 0} (p : ℕ) (program : Program) (old new : Image) (res : Result A Stop) → ProgramActs p program old new res → EffectComes p (does p program old) old new res
comes_by p program old new res x = record { outcome = x.outcome; stays = x.stays }

-- what was performed, whatever it answers
pub acts_ok : {A : Type 0} (p : ℕ) (program : Program) (old new : Image) (res : Result A Stop) (a : A) → res ≡ Ok a → ProgramActs p program old new res
    → ProgramActs {A = Unit {0}} p program old new (Ok (tt {0}))
acts_ok p program old new (Ok b) a e x = record { outcome = x.outcome; stays = tt }
acts_ok p program old new (Err stop) a e x = cc

pub comes_ok : {A B : Type 0} (p : ℕ) (effect : Effect Image) (old new : Image) (res : Result A Stop) (a : A) (b : B) → res ≡ Ok a → EffectComes p effect old new res
    → EffectComes p effect old new (Ok b)
comes_ok p effect old new (Ok c) a b e x = record { outcome = x.outcome; stays = tt }
comes_ok p effect old new (Err stop) a b e x = cc

pub comes_err : {A B : Type 0} (p : ℕ) (effect : Effect Image) (old new : Image) (res : Result A Stop) (stop : Stop) → res ≡ Err stop → EffectComes p effect old new res
    → EffectComes {A = B} p effect old new (Err stop)
comes_err p effect old new (Ok c) stop e x = cc
comes_err {B = B} p effect old new (Err other) stop e x =
    let same : other ≡ stop = cc in
    subst (λ (s : Stop). EffectComes {A = B} p effect old new (Err s)) same (record { outcome = x.outcome; stays = x.stays })

-- ---- the row of an operator

module _ (code : Code) (img : Image) (p : ℕ) (r : Registers) (op : Operator) (next : ℕ) where
  own_is : (w : rows.TableRow) → class_by w ≡ Private → with_effect img p (floor r) (part_by w next (private_of img r)) ≡ by_row w code img p r next
  own_is (private_part change) e = refl
  own_is (action program) e = cc

  pub effect_is : (w : Row) → IsTableRow (row op r.place) w → row_effect w code op next p (Some r) img ≡ by_row (row op r.place) code img p r next
  unfolding private_op
  effect_is ours.Own e = own_is (row op r.place) e
  effect_is (ours.Words kind) e = sym (ap (λ (w : rows.TableRow). by_row w code img p r next) e)
  effect_is ours.Exit e = sym (ap (λ (w : rows.TableRow). by_row w code img p r next) e)
  effect_is ours.ReturnValue e = sym (ap (λ (w : rows.TableRow). by_row w code img p r next) e)
  effect_is ours.Enter e = sym (ap (λ (w : rows.TableRow). by_row w code img p r next) e)

-- ---- the table

bad_is : (o : Result (Operator × ℕ) BadCode) → if_good o ≡ None → (code : Code) (img : Image) (p : ℕ) (r : Registers) → by_operator code img p r o ≡ interrupts bad_code
bad_is (Ok g) e code img p r = cc
bad_is (Err bad) e code img p r = refl

module _ (code : Code) (img : Image) (p : ℕ) (r : Registers) (able : is_able (numbered img.states p) ≡ true) (has : numbered img.regs p ≡ Some r) where
  raw_is : raw code img p ≡ by_operator code img p r (operator_at code r)
  unfolding raw
  raw_is =
      ap (λ (b : Bool). cond b (by_registers code img p (numbered img.regs p)) (interrupts bad_code)) (able_live (numbered img.states p) able)
      ∙ ap (by_registers code img p) has

  pub operator_is : (f : Operator × ℕ) → found code r.segment r.ll r.place ≡ Some f → operator_at code r ≡ Ok f
  operator_is f e = fetched_of (operator_at code r) f e

  pub table_is : (f : Operator × ℕ) → found code r.segment r.ll r.place ≡ Some f → table code img p ≡ limited (stack_length p) (by_row (row f.0 r.place) code img p r f.1)
  unfolding table
  table_is f e = ap (limited (stack_length p)) (raw_is ∙ ap (by_operator code img p r) (operator_is f e))

  pub table_bad : found code r.segment r.ll r.place ≡ None → table code img p ≡ outcomes.interrupts bad_code
  unfolding table
  table_bad e = ap (limited (stack_length p)) (raw_is ∙ bad_is (operator_at code r) e code img p r)

-- the table by the row that an operator has
module _ (code : Code) (img : Image) (p : ℕ) (r : Registers) (has : numbered img.regs p ≡ Some r) (op : Operator) (next : ℕ) (w : Row) (is : IsTableRow (row op r.place) w) where
  effect_in : row_effect w code op next p (numbered img.regs p) img ≡ by_row (row op r.place) code img p r next
  effect_in = ap (λ (o : Option Registers). row_effect w code op next p o img) has ∙ effect_is code img p r op next w is

  pub table_row : is_able (numbered img.states p) ≡ true → found code r.segment r.ll r.place ≡ Some (op, next)
      → table code img p ≡ limited (stack_length p) (row_effect w code op next p (numbered img.regs p) img)
  table_row able e = table_is code img p r able has (op, next) e ∙ ap (limited (stack_length p)) (sym effect_in)

  pub makes_next : is_able (numbered img.states p) ≡ true → found code r.segment r.ll r.place ≡ Some (op, next) → op ≡ Plain Entr → CallsMaker img.stacks (numbered img.regs p)
      → MakesNext code img p
  makes_next able e enters calls =
      let c = subst (λ (o : Option Registers). CallsMaker img.stacks o) has calls in
      record {
        callee = c.0;
        calls = record {
          regs = r;
          has = has;
          next = next;
          enters = operator_is code img p r able has (op, next) e ∙ ap (λ (o : Operator). Ok (o, next)) enters;
          finds = c.1;
        };
        intrinsic = c.2;
        making = c.3;
      }

-- ---- the answer

module _ (code : Code) (old new : Image) (p : ℕ) (effect : Effect Image) (t : table code old p ≡ limited (stack_length p) effect) where
  pub came_on : (state : ProcessState) → EffectComes {A = Unit {0}} p effect old new (Ok (tt {0})) → numbered new.states p ≡ Some state → Came code old p (went state) new
  came_on states.Able x s = (t ∙ x.outcome, ap is_able s)
  came_on (states.WaitsFor at) x s = (t ∙ x.outcome, ap waits s)
  came_on states.WaitsAny x s = (t ∙ x.outcome, ap waits s)
  came_on (states.Procures at) x s = (t ∙ x.outcome, ap waits s)
  came_on states.Ended x s = (t ∙ x.outcome, s)

  pub came_not : (hindrance : Hindrance) → ComesOrNot p effect old new (Err hindrance) → (hindrance ≡ NoMemory → MakesNext code old p) → Came code old p (hindered_by hindrance) new
  came_not (Stopped (Interrupt kind)) x m = (t ∙ x.outcome, x.stays)
  came_not (Stopped (Fault kind)) x m = (t ∙ x.outcome, x.stays)
  came_not (Stopped StackLimit) x m = (t ∙ x.outcome, x.stays)
  came_not NoMemory x m = (m refl, x)

pub not_performed : (hindrance : Hindrance) → is_performed (hindered_by hindrance) ≡ true → ⊥
not_performed (Stopped (Interrupt kind)) e = cc
not_performed (Stopped (Fault kind)) e = cc
not_performed (Stopped StackLimit) e = cc
not_performed NoMemory e = cc

pub not_done : (hindrance : Hindrance) → is_performed (hindered_by hindrance) ≡ false
not_done (Stopped (Interrupt kind)) = refl
not_done (Stopped (Fault kind)) = refl
not_done (Stopped StackLimit) = refl
not_done NoMemory = refl

pub went_performed : (s : ProcessState) → is_performed (went s) ≡ false → ⊥
went_performed states.Able e = cc
went_performed (states.WaitsFor event) e = cc
went_performed states.WaitsAny e = cc
went_performed (states.Procures event) e = cc
went_performed states.Ended e = cc

-- ---- states are not taken away

grows_by : (p : ℕ) (w : Write) (img : Image) → length img.states ≤ length (write_made p w img).states
grows_by p (writes.save place w) img = omega arith
grows_by p (writes.cut stack n) img = omega arith
grows_by p (writes.push stack w) img = omega arith
grows_by p (writes.registers r) img = omega arith
grows_by p (writes.open_row n count counted) img = omega arith
grows_by p (writes.write_row n at w) img = omega arith
grows_by p (writes.close_row n) img = omega arith
grows_by p (writes.open_event place) img = omega arith
grows_by p (writes.close_events stack at) img = omega arith
grows_by p (writes.event_deed x place) img =
    let d = deed_at x p place img.events in
    omega (arith, length_again d.frees (waiting d.next place p img.states), waiting_grows d.next)
  where
    waiting_grows : (next : Next) → length img.states ≤ length (waiting next place p img.states)
    waiting_grows goes = omega arith
    waiting_grows awaits = omega (arith, length_states img.states p (states.WaitsFor place))
    waiting_grows procures = omega (arith, length_states img.states p (states.Procures place))
grows_by p (writes.wait_any places) img = omega (arith, length_states img.states p states.WaitsAny)
grows_by p writes.go_on img = omega arith
grows_by p (writes.line bytes) img = omega arith
grows_by p (writes.start r words) img = omega (arith, length-append img.states (states.Able ∷ []))
grows_by p (writes.end_process stack) img = omega (arith, length_states img.states p states.Ended)

states_grow : (p : ℕ) (change : Change) (img : Image) → length img.states ≤ length (changed p change img).states
states_grow p done img = omega arith
states_grow p (look_up q more) img = states_grow p (more (told img q)) img
states_grow p (write w next) img = omega (arith, grows_by p w img, states_grow p next (write_made p w img))

effect_grows : (p : ℕ) (img new : Image) (e : Effect Change) → effect_of p img e ≡ gives new → length img.states ≤ length new.states
effect_grows p img new (gives change) e =
    let same : changed p change img ≡ new = cc in subst (λ (z : Image). length img.states ≤ length z.states) same (states_grow p change img)
effect_grows p img new (faults kind) e = cc
effect_grows p img new (interrupts kind) e = cc

own_grows : (p base : ℕ) (img new : Image) (e : Effect Part) → with_effect img p base e ≡ gives new → length img.states ≤ length new.states
own_grows p base img new (gives q) e =
    let same : with_private img p base q ≡ new = cc in subst (λ (z : Image). length img.states ≤ length z.states) same (omega arith)
own_grows p base img new (faults kind) e = cc
own_grows p base img new (interrupts kind) e = cc

row_grows : (w : rows.TableRow) (code : Code) (img new : Image) (p : ℕ) (r : Registers) (next : ℕ) → by_row w code img p r next ≡ gives new → length img.states ≤ length new.states
row_grows (private_part change) code img new p r next e = own_grows p (floor r) img new (change next (private_of img r)) e
row_grows (action program) code img new p r next e = effect_grows p img new (asked img (program code r next)) e

given_by : (p : ℕ) (a new : Image) (b : Bool) → cond b (outcomes.gives a) outcomes.limit ≡ outcomes.gives new → a ≡ new
given_by p a new true e = cc
given_by p a new false e = cc

given_of : (p : ℕ) (e : Effect Image) (new : Image) → limited (stack_length p) e ≡ outcomes.gives new → e ≡ gives new
given_of p (gives a) new e = ap (λ (z : Image). gives z) (given_by p a new (nat_le (stack_length p a) stack_limit) e)
given_of p (faults kind) new e = cc
given_of p (interrupts kind) new e = cc

there : (xs : List ProcessState) (p n : ℕ) (x : ProcessState) → numbered xs p ≡ Some x → length xs ≤ n → (1 ≤ p) × (p ≤ n)
there xs p n x e h = (numbered_from xs p x e, omega (arith, numbered_within xs p x e, h))

able_there : (xs : List ProcessState) (p n : ℕ) (o : Option ProcessState) → numbered xs p ≡ o → is_able o ≡ true → length xs ≤ n → (1 ≤ p) × (p ≤ n)
able_there xs p n None e a h = cc
able_there xs p n (Some x) e a h = there xs p n x e h

state_there : (w : rows.TableRow) (code : Code) (img new : Image) (p : ℕ) (r : Registers) (next : ℕ) → is_able (numbered img.states p) ≡ true
    → EffectComes {A = Unit {0}} p (by_row w code img p r next) img new (Ok (tt {0})) → (1 ≤ p) × (p ≤ length new.states)
state_there w code img new p r next able x =
    able_there img.states p (length new.states) (numbered img.states p) refl able
    (row_grows w code img new p r next (given_of p (by_row w code img p r next) new x.outcome))

-- after an operator the process has a state
pub state_after : (code : Code) (img new : Image) (p : ℕ) (r : Registers) (op : Operator) (next : ℕ) (w : Row) → numbered img.regs p ≡ Some r → IsTableRow (row op r.place) w
    → is_able (numbered img.states p) ≡ true → EffectComes {A = Unit {0}} p (row_effect w code op next p (numbered img.regs p) img) img new (Ok (tt {0}))
    → (1 ≤ p) × (p ≤ length new.states)
state_after code img new p r op next w has is able x =
    state_there (row op r.place) code img new p r next able
    (subst (λ (e : Effect Image). EffectComes {A = Unit {0}} p e img new (Ok (tt {0}))) (effect_in code img p r has op next w is) x)
