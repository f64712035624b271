-- Whom an operator makes able, row by row.
use Rattle.std.proofs.Common.{◌≡◌, refl, sym, ap, subst, ◌∙◌, ℕ, suc, ◌+◌, ◌≤◌, Bool, true, false, cond, List, [], ◌∷◌, Option, Some, None, Ok, arith}
use Rattle.std.specs.Prelude.{nat_eq, ◌==◌}
use Rattle.std.specs.List.{list_any}
use Rattle.std.proofs.Math.Decide.{ℕ_discrete}
use Rattle.b67_list.specs.Numbered.{numbered, set_numbered}
use Rattle.b67_word.specs.declared.Place.{Place}
use Rattle.b67_word.specs.Word.{Word, truth}
use Rattle.b67_control.specs.declared.Registers.{Registers}
use Rattle.b67_control.specs.declared.Mscw.{Mscw}
use Rattle.b67_ops.specs.declared.Operator.{Operator}
use Rattle.b67_ops.specs.declared.intrinsic.Intrinsic.{Intrinsic}
use Rattle.b67_ops.specs.declared.intrinsic.Intrinsic.TheVariants as names
use Rattle.b67_segment.specs.declared.code.Code.{Code}
use Rattle.b67_store.specs.Store.{row_at, closed_at}
use Rattle.b67_deeds.specs.declared.EventAct.TheVariants as act
use Rattle.b67_deeds.specs.declared.EventTest.{EventTest}
use Rattle.b67_deeds.specs.declared.EventTest.TheVariants as test
use Rattle.b67_deeds.specs.Deeds.{EventDeed, Deed, acts, tests}
use Rattle.b67_events.specs.Events.{Event, waiters_at, deed_at, closed_from, list_of}
use Rattle.b67_events.specs.Once.{times_in}
use Rattle.b67_table.specs.declared.Class.TheVariants.{Private}
use Rattle.b67_table.specs.declared.InterruptKind.TheVariants.{BadCode as bad_code}
use Rattle.b67_table.specs.declared.Private.{Private as Part}
use Rattle.b67_table.specs.declared.ProcessState.{ProcessState}
use Rattle.b67_table.specs.declared.ProcessState.TheVariants.{WaitsAny, Ended}
use Rattle.b67_table.specs.Effect.{Effect, gives, faults, interrupts}
use Rattle.b67_table.specs.Image.{Image, with_rows, with_private, with_effect, private_of, is_able}
use Rattle.b67_table.specs.Names.{intrinsic_numbered}
use Rattle.b67_table.specs.Outcome as outcomes
use Rattle.b67_table.specs.Private.{frame, floor}
use Rattle.b67_table.specs.Writes.{write_made, able_again, waiting, states_after}
use Rattle.b67_table.specs.Writes as writes
use Rattle.b67_table.specs.Program.{Change, done, changed, answer, asked, effect_of, registers, close_events, end_process, event_deed, wait_any, go_on, change_start, Program}
use Rattle.b67_table.specs.Linkage.{caused_by, leave_base, leave_other, entry}
use Rattle.b67_table.specs.Arguments.{finished_at}
use Rattle.b67_table.specs.Intrinsics.{gone_on, row_of_intrinsic, intrinsic_row, intrinsic, on_event}
use Rattle.b67_table.specs.Rows as table
use Rattle.b67_table.specs.Rows.{row, private_part, action, exit, return_value, enter}
use Rattle.b67_table.specs.Table.{table as table_gives, raw, by_row, by_operator, by_registers, operator_at, class_by, stack_length}
use Rattle.b67_table.specs.Valid.{IsValid, waits}
use Rattle.b67_table.proofs.Stacks.{get_numbered_other}
use Rattle.b67_table.proofs.Keeping.{Gives}
use Rattle.b67_table.proofs.Limit.{new_of}
use Rattle.b67_table.proofs.EventKept.{awaits_waits, close_events_valid}
use Rattle.b67_table.proofs.Waking.{able_live}
use Rattle.b67_operators.specs.declared.calling.Called.{Called}
use Rattle.b67_operators.specs.Entries.{enter_called}
use Rattle.b67_operators.specs.Leaves.{task_waiters, released as released_by}
use Rattle.b67_intrinsics.specs.Called.{arguments, event_tests, event_tests_in, IntrinsicLeads}
use Rattle.b67_intrinsics.specs.Names.{Releases}
use Rattle.b67_action.specs.declared.done.Done.{Done}
use Rattle.b67_action.specs.declared.done.Done.TheVariants.{Went, Waits, Ended as has_ended, Fault, Interrupt, StackLimit, NoMemory}
use Rattle.b67_action.specs.declared.rows.Row.{Row}
use Rattle.b67_action.specs.declared.rows.Row.TheVariants as ours
use Rattle.b67_action.specs.Able.{one_if, AbleAfter, ActionsMakeAble}
use Rattle.b67_action.specs.Acting.{CallReleases, CalleeReleases, RowReleases, NextReleases}
use Rattle.b67_action.specs.Done.{Came, is_performed}
use Rattle.b67_private.specs.Actions.{words_program}
use Rattle.b67_action.specs.Rows.{IsTableRow}
use Rattle.b67_action.proofs.Able.{waiters_once, freed_wait, freed_once, able_waits, woken_others, woken_own, other_waits, able_by, able_same, able_more}
use Rattle.b67_action.proofs.Calling.{does_called}
use Rattle.b67_letters.proofs.Calm.{Calm, calm_keeps, Each, each_asked, each_as, each_critical, arrays_have, entry_calm, other_calm, return_calm, go_to_calm, select_calm, arrays_row_calm, write_calm, event_calm, each_event, each_tell, each_several, each_start}
use Rattle.b67_action.proofs.CalmWords.{words_calm}

module _ (code : Code) (img : Image) (p : ℕ) (v : IsValid code img) (able : is_able (numbered img.states p) ≡ true) where
  -- after the change these are released
  abbrev A : List ℕ → Change → Type 0
  A released c = AbleAfter img (changed p c img) p released

  each_calm : (t : Program) → Each Calm t → Each (A []) t
  each_calm t k = each_as Calm (A []) (λ c calm. able_same img (changed p c img) p (calm_keeps p c img calm).0 (calm_keeps p c img calm).1) t k

  given : (t : Program) (released : List ℕ) → released ≡ [] → Each (A []) t → Gives (A released) (asked img t)
  given t released e k = subst (λ (l : List ℕ). Gives (A l) (asked img t)) (sym e) (each_asked (A []) img t k)

  new_able : (new : Image) (released : List ℕ) (e : Effect Change) → Gives (A released) e → effect_of p img e ≡ gives new → AbleAfter img new p released
  new_able new released (gives c) k e = let same : changed p c img ≡ new = cc in subst (λ (i : Image). AbleAfter img i p released) same k
  new_able new released (faults kind) k e = cc
  new_able new released (interrupts kind) k e = cc

  -- ---- one write

  -- what is done with an event: the process waits, or it goes on, and those who are released are able
  module _ (x : EventDeed) (at : Place) where
    abbrev d : Deed
    d = deed_at x p at img.events

    abbrev ys : List ProcessState
    ys = waiting d.next at p img.states

    waited : (q : ℕ) → list_any (λ y. q == y) d.frees ≡ true → waits (numbered img.states q) ≡ true
    waited q i = freed_wait img.events img.lists img.states v.events p q at x i

    once : (q : ℕ) → times_in q d.frees ≤ 1
    once q = freed_once img.events img.lists img.states v.events p q at x

    still : (q : ℕ) → list_any (λ y. q == y) d.frees ≡ true → waits (numbered ys q) ≡ true
    still q i = by (ℕ_discrete q p)
      where
        by : Dec (q ≡ p) → waits (numbered ys q) ≡ true
        by (yes h) = absurd (able_waits (numbered img.states p) able (subst (λ (m : ℕ). waits (numbered img.states m) ≡ true) h (waited q i)))
        by (no h) = ap waits (other_waits d.next at img.states p q h) ∙ waited q i

    deed_able : (after : Image) → after.states ≡ states_after d at p img.states → after.started ≡ img.started → AbleAfter img after p d.frees
    deed_able after e n =
        able_by img after p d.frees (able_again d.frees ys) e n
        (λ q h. woken_others ys d.frees still once q ∙ ap (λ (o : Option ProcessState). one_if (is_able o) + times_in q d.frees) (other_waits d.next at img.states p q h))
        (woken_own img.states d.frees waited once p able)

  module _ (r : Registers) (next : ℕ) where
    -- ---- the end of the process

    abbrev closed : List Event
    closed = closed_from r.stack 0 img.events

    -- whatever comes before the change keeps states, number and events
    abbrev Then : List ℕ → Change → Type 0
    Then released c = (i : Image) → (i.states ≡ img.states) × (i.started ≡ img.started) × (i.events ≡ img.events) → AbleAfter img (changed p c i) p released

    task_wait : (o : Option Place) (q : ℕ) → list_any (λ y. q == y) (task_waiters o closed) ≡ true → waits (numbered img.states q) ≡ true
    task_wait None q i = cc
    task_wait (Some task) q i =
        awaits_waits (numbered img.states q) (list_of q img.lists) task ((close_events_valid code img v r.stack 0).events.waiters q task i)

    task_once : (o : Option Place) (q : ℕ) → times_in q (task_waiters o closed) ≤ 1
    task_once None q = omega arith
    task_once (Some task) q = waiters_once q task closed ((close_events_valid code img v r.stack 0).events.once.waiting q)

    ended_able : (o : Option Place) (after : Image) → after.states ≡ set_numbered (able_again (task_waiters o closed) img.states) p Ended → after.started ≡ img.started
        → AbleAfter img after p (task_waiters o closed)
    ended_able o after e n =
        able_by img after p (task_waiters o closed) (set_numbered (able_again (task_waiters o closed) img.states) p Ended) e n
        (λ q h. ap (λ (x : Option ProcessState). one_if (is_able x)) (get_numbered_other (able_again (task_waiters o closed) img.states) p q Ended h)
        ∙ woken_others img.states (task_waiters o closed) (task_wait o) (task_once o) q)
        (woken_own img.states (task_waiters o closed) (task_wait o) (task_once o) p able)

    ends_able : (o : Option Place) → Then (task_waiters o closed) (close_events r.stack 0 (registers (record r { place = next }) (caused_by o (end_process r.stack done))))
    ends_able None i k = ended_able None _ (ap (λ (xs : List ProcessState). set_numbered xs p Ended) k.0) k.1
    ends_able (Some task) i k =
        ended_able (Some task) _
        (ap (λ (es : List Event). set_numbered (able_again (waiters_at task (closed_from r.stack 0 es)) i.states) p Ended) k.2
        ∙ ap (λ (xs : List ProcessState). set_numbered (able_again (waiters_at task closed) xs) p Ended) k.0) k.1

    base_able : (cells : List Word) → Each (A (task_waiters r.task closed)) (leave_base r cells next)
    base_able cells =
        each_critical (A (task_waiters r.task closed)) r.stack (0 ∷ []) _
        (arrays_have (Then (task_waiters r.task closed)) (λ n more k i s. k (with_rows i (closed_at i.rows n)) s) (λ n more k i s. k (row_at i.rows n) i s) cells
        (close_events r.stack 0 (registers (record r { place = next }) (caused_by r.task (end_process r.stack done)))) (ends_able r.task) img (refl, refl, refl))

    exit_able : Each (A (released_by (Some r) img.events [])) (exit r next)
    exit_able = λ cells. by (nat_eq (frame r) 0) cells
      where
        by : (b : Bool) (cells : List Word) → Each (A (cond b (task_waiters r.task closed) [])) (cond b (leave_base r cells next) (leave_other r cells (frame r) []))
        by true cells = base_able cells
        by false cells = each_calm (leave_other r cells (frame r) []) (other_calm r next cells (frame r) [])

    -- ---- intrinsics

    module _ (m : Mscw) where
      abbrev finish : Change
      finish = finished_at r m [] next

      event_able : (x : EventDeed) (at : Place) → A (deed_at x p at img.events).frees (event_deed x at finish)
      event_able x at =
          let e = calm_keeps p finish (write_made p (writes.event_deed x at) img) tt in deed_able x at _ e.0 e.1

      told_able : (x : EventTest) (at : Place) (told : Bool) → A (deed_at (tests x) p at img.events).frees (event_deed (tests x) at (finished_at r m (truth told ∷ []) next))
      told_able x at told =
          let e = calm_keeps p (finished_at r m (truth told ∷ []) next) (write_made p (writes.event_deed (tests x) at) img) tt in deed_able (tests x) at _ e.0 e.1

      -- a process waits for several events, or it goes on
      goes_able : (n : ℕ) → A [] (gone_on r next m n)
      goes_able n = let e = calm_keeps p (gone_on r next m n) img tt in able_same img _ p e.0 e.1

      wakes_able : (n : ℕ) → A [] (go_on (gone_on r next m (suc n)))
      wakes_able n = let e = calm_keeps p (go_on (gone_on r next m (suc n))) img tt in able_same img _ p e.0 e.1

      waits_able : (places : List Place) → A [] (wait_any places done)
      waits_able places =
          able_by img (write_made p (writes.wait_any places) img) p [] (set_numbered img.states p WaitsAny) refl refl
          (λ q h. ap (λ (o : Option ProcessState). one_if (is_able o)) (get_numbered_other img.states p q WaitsAny h) ∙ one_more (one_if (is_able (numbered img.states q)))) refl
        where
          one_more : (n : ℕ) → n ≡ n + 0
          one_more n = omega arith

      start_able : (s : Registers) (ws : List Word) → A [] (change_start s ws finish)
      start_able s ws =
          let e = calm_keeps p finish (write_made p (writes.start s ws) img) tt in able_more code img _ p v able e.0 e.1

      event_is : (x : EventDeed) (ws : List Word) → on_event x code r next m ws ≡ event_tests r m ws (λ (at : Place). answer (event_deed x at finish))
      event_is x [] = refl
      event_is x (w ∷ []) = refl
      event_is x (w ∷ u ∷ ws) = refl

      on_one : (x : EventDeed) (at : Place) (released : List ℕ) → IntrinsicLeads img (event_tests_in (Some r) m img.stacks) (Ok at) → A released (event_deed x at finish)
          → Gives (A released) (asked img (on_event x code r next m (arguments img.stacks r)))
      on_one x at released leads k =
          subst (Gives (A released)) (sym (ap (asked img) (event_is x (arguments img.stacks r)) ∙ leads (λ (y : Place). answer (event_deed x y finish)))) k

      plainly : (name : Intrinsic) (released : List ℕ) → released ≡ [] → Each (A []) (row_of_intrinsic name code r next m (arguments img.stacks r))
          → Gives (A released) (asked img (row_of_intrinsic name code r next m (arguments img.stacks r)))
      plainly name released e k = given (row_of_intrinsic name code r next m (arguments img.stacks r)) released e k

      calmly : (name : Intrinsic) (released : List ℕ) → released ≡ [] → Each Calm (row_of_intrinsic name code r next m (arguments img.stacks r))
          → Gives (A released) (asked img (row_of_intrinsic name code r next m (arguments img.stacks r)))
      calmly name released e k = plainly name released e (each_calm (row_of_intrinsic name code r next m (arguments img.stacks r)) k)

      named_able : (name : Intrinsic) (released : List ℕ) → Releases name img (Some r) m [] released
          → Gives (A released) (asked img (row_of_intrinsic name code r next m (arguments img.stacks r)))
      named_able names.GoTo released e = calmly names.GoTo released e (go_to_calm r next m code (arguments img.stacks r))
      named_able names.Select released e = calmly names.Select released e (select_calm r next m code (arguments img.stacks r))
      named_able names.Arrays released e = calmly names.Arrays released e (arrays_row_calm r next m code (arguments img.stacks r))
      named_able names.Event released e = calmly names.Event released e (event_calm r next m code (arguments img.stacks r))
      named_able names.Start released e = plainly names.Start released e (each_start r next m (A []) start_able code (arguments img.stacks r))
      named_able names.Write released e = calmly names.Write released e (write_calm r next m code (arguments img.stacks r))
      named_able names.Wait released e = plainly names.Wait released e (each_event r next m (A []) (acts act.Wait) (event_able (acts act.Wait)) code (arguments img.stacks r))
      named_able names.Cause released e = on_one (acts act.Cause) e.0 released e.1 (subst (λ (l : List ℕ). A l (event_deed (acts act.Cause) e.0 finish)) (sym e.2) (event_able (acts act.Cause) e.0))
      named_able names.Reset released e = plainly names.Reset released e (each_event r next m (A []) (acts act.Reset) (event_able (acts act.Reset)) code (arguments img.stacks r))
      named_able names.Happened released e = plainly names.Happened released e (each_tell r next m (A []) test.Happened (told_able test.Happened) code (arguments img.stacks r))
      named_able names.Procure released e = plainly names.Procure released e (each_event r next m (A []) (acts act.Procure) (event_able (acts act.Procure)) code (arguments img.stacks r))
      named_able names.Liberate released e = on_one (acts act.Liberate) e.0 released e.1 (subst (λ (l : List ℕ). A l (event_deed (acts act.Liberate) e.0 finish)) (sym e.2) (event_able (acts act.Liberate) e.0))
      named_able names.WaitAny released e = plainly names.WaitAny released e (each_several r next m (A []) goes_able wakes_able waits_able code (arguments img.stacks r))
      named_able names.CauseAndReset released e =
          on_one (acts act.CauseAndReset) e.0 released e.1 (subst (λ (l : List ℕ). A l (event_deed (acts act.CauseAndReset) e.0 finish)) (sym e.2) (event_able (acts act.CauseAndReset) e.0))
      named_able names.Available released e = plainly names.Available released e (each_tell r next m (A []) test.Available (told_able test.Available) code (arguments img.stacks r))
      named_able names.Fix released e = plainly names.Fix released e (each_tell r next m (A []) test.Fix (told_able test.Fix) code (arguments img.stacks r))

      intrinsic_able : (o : Option Intrinsic) (released : List ℕ) → CallReleases o img (Some r) m [] released
          → Gives (A released) (asked img (intrinsic_row o code r next m (arguments img.stacks r)))
      intrinsic_able None released e = tt
      intrinsic_able (Some name) released e = named_able name released e

    callee_able : (c : Called) (released : List ℕ) (b : Bool) → CalleeReleases b c img (Some r) [] released
        → Gives (A released) (asked img (cond b (intrinsic c.pcw.number code r next c.mark) (entry r next c.mark.df c.pcw c.home)))
    callee_able c released true e = intrinsic_able c.mark (intrinsic_numbered c.pcw.number) released e
    callee_able c released false e =
        given (entry r next c.mark.df c.pcw c.home) released e (each_calm (entry r next c.mark.df c.pcw c.home) (entry_calm r next c.mark.df c.pcw c.home))

    -- ---- rows

    part_able : (new : Image) (e : Effect Part) → with_effect img p (floor r) e ≡ gives new → AbleAfter img new p []
    part_able new (gives q) e =
        let same : with_private img p (floor r) q ≡ new = cc in
        subst (λ (i : Image). AbleAfter img i p []) same (able_same img (with_private img p (floor r) q) p refl refl)
    part_able new (faults kind) e = cc
    part_able new (interrupts kind) e = cc

    own_able : (new : Image) (w : table.TableRow) → class_by w ≡ Private → by_row w code img p r next ≡ gives new → AbleAfter img new p []
    own_able new (private_part change) c e = part_able new (change next (private_of img r)) e
    own_able new (action program) c e = cc

    -- an action's program makes the new image
    does_row : (new : Image) (w : table.TableRow) (program : Code → Registers → ℕ → Program) → w ≡ action program → by_row w code img p r next ≡ gives new
        → effect_of p img (asked img (program code r next)) ≡ gives new
    does_row new w program e g = sym (ap (λ (x : table.TableRow). by_row x code img p r next) e) ∙ g

    row_able : (new : Image) (released : List ℕ) (op : Operator) (w : Row) → IsTableRow (row op r.place) w → RowReleases w img (Some r) [] released
        → by_row (row op r.place) code img p r next ≡ gives new → AbleAfter img new p released
    row_able new released op ours.Own is e g = subst (AbleAfter img new p) (sym e) (own_able new (row op r.place) is g)
    row_able new released op (ours.Words kind) is e g =
        new_able new released (asked img (words_program kind r next)) (given (words_program kind r next) released e (each_calm (words_program kind r next) (words_calm r next kind)))
        (does_row new (row op r.place) (λ (k : Code). words_program kind) is g)
    row_able new released op ours.Exit is e g =
        new_able new released (asked img (exit r next))
        (subst (λ (l : List ℕ). Gives (A l) (asked img (exit r next))) (sym e) (each_asked (A (released_by (Some r) img.events [])) img (exit r next) exit_able))
        (does_row new (row op r.place) (λ (k : Code). exit) is g)
    row_able new released op ours.ReturnValue is e g =
        new_able new released (asked img (return_value r next)) (given (return_value r next) released e (each_calm (return_value r next) (return_calm r next)))
        (does_row new (row op r.place) (λ (k : Code). return_value) is g)
    row_able new released op ours.Enter is x g =
        new_able new released (asked img (enter_called code r next x.0)) (callee_able x.0 released x.0.pcw.intrinsic x.2)
        (sym (does_called p code img r next (Some r) refl x.0 x.1) ∙ does_row new (row op r.place) enter is g)

row_is : (code : Code) (img : Image) (p : ℕ) → IsValid code img → is_able (numbered img.states p) ≡ true → (r : Registers) → numbered img.regs p ≡ Some r → (op : Operator) (next : ℕ)
    → operator_at code r ≡ Ok (op, next) → raw code img p ≡ by_row (row op r.place) code img p r next
unfolding raw
row_is code img p v able r has op next stands =
    ap (λ (b : Bool). cond b (by_registers code img p (numbered img.regs p)) (interrupts bad_code)) (able_live (numbered img.states p) able)
    ∙ ap (by_registers code img p) has ∙ ap (by_operator code img p r) stands

pub make_able : ActionsMakeAble
unfolding table_gives
make_able code img new p released v able t n =
    let g = new_of (stack_length p) (raw code img p) new t in
    row_able code img p v able n.regs n.next new released n.op n.row n.is (subst (λ (o : Option Registers). RowReleases n.row img o [] released) n.has n.releases)
    (sym (row_is code img p v able n.regs n.has n.op n.next n.stands) ∙ g.0)

pub came_new : (code : Code) (img new : Image) (p : ℕ) (d : Done) → Came code img p d new → is_performed d ≡ true → table_gives code img p ≡ outcomes.gives new
came_new code img new p Went x e = x.0
came_new code img new p Waits x e = x.0
came_new code img new p has_ended x e = x.0
came_new code img new p (Fault kind) x e = cc
came_new code img new p (Interrupt kind) x e = cc
came_new code img new p StackLimit x e = cc
came_new code img new p NoMemory x e = cc

-- where an operator was performed
pub performed_able : (code : Code) (img new : Image) (p : ℕ) (released : List ℕ) (d : Done) → IsValid code img → is_able (numbered img.states p) ≡ true → Came code img p d new
    → is_performed d ≡ true → NextReleases code img p released → AbleAfter img new p released
performed_able code img new p released d v able x e n = make_able code img new p released v able (came_new code img new p d x e) n
