-- Whom an operator releases is what the table says, row by row.
use Rattle.std.proofs.Common.{◌≡◌, refl, sym, ap, subst, ◌∙◌, ℕ, suc, ◌+◌, Bool, true, false, cond, List, [], ◌∷◌, ◌++◌, append-nil, Option, Some, None, Result, Ok, Err}
use Rattle.std.specs.Prelude.{nat_eq}
use Rattle.b67_list.specs.Numbered.{numbered}
use Rattle.b67_word.specs.declared.Place.{Place}
use Rattle.b67_word.specs.Word.{Word, truth}
use Rattle.b67_control.specs.declared.Registers.{Registers}
use Rattle.b67_control.specs.declared.Mscw.{Mscw}
use Rattle.b67_ops.specs.declared.Operator.{Operator}
use Rattle.b67_ops.specs.declared.BadCode.{BadCode}
use Rattle.b67_ops.specs.declared.intrinsic.Intrinsic.{Intrinsic}
use Rattle.b67_ops.specs.declared.intrinsic.Intrinsic.TheVariants as names
use Rattle.b67_segment.specs.declared.code.Code.{Code}
use Rattle.b67_deeds.specs.declared.EventAct.TheVariants as act
use Rattle.b67_deeds.specs.declared.EventTest.{EventTest}
use Rattle.b67_deeds.specs.declared.EventTest.TheVariants as test
use Rattle.b67_deeds.specs.Events.{EventState}
use Rattle.b67_deeds.specs.Deeds.{EventDeed, acts, tests, deed}
use Rattle.b67_events.specs.Events.{Event, state_at, waiters_at, deed_at, closed_from}
use Rattle.b67_table.specs.declared.Class.TheVariants.{Private}
use Rattle.b67_table.specs.Effect.{Effect, gives, faults, interrupts}
use Rattle.b67_table.specs.Image.{Image, is_live}
use Rattle.b67_table.specs.declared.Cell.{Cell}
use Rattle.b67_table.specs.declared.Reached.{Reached}
use Rattle.b67_table.specs.declared.InterruptKind.{InterruptKind}
use Rattle.b67_table.specs.declared.InterruptKind.TheVariants.{BadCode as bad_code}
use Rattle.b67_table.specs.Chains.{place}
use Rattle.b67_table.specs.Look.{Look, found, at, ◌>->◌, valid, look_seen}
use Rattle.b67_table.specs.References.{cell_of, reached}
use Rattle.b67_control.specs.declared.Pcw.{Pcw}
use Rattle.b67_control.specs.Control.{as_pcw}
use Rattle.b67_table.specs.Names.{intrinsic_numbered}
use Rattle.b67_table.specs.Outcome.{Outcome}
use Rattle.b67_table.specs.Outcome as outcomes
use Rattle.b67_table.specs.Private.{frame}
use Rattle.b67_table.specs.Questions.{told}
use Rattle.b67_table.specs.Questions as questions
use Rattle.b67_table.specs.Writes.{write_made}
use Rattle.b67_table.specs.Writes as writes
use Rattle.b67_table.specs.Program.{Change, done, answer, asked, effect_of, registers, close_events, end_process, event_deed, go_on, Program}
use Rattle.b67_table.specs.Linkage.{caused_by, leave_base, leave_other, entry}
use Rattle.b67_table.specs.Arguments.{finished_at}
use Rattle.b67_table.specs.Intrinsics.{gone_on, row_of_intrinsic, intrinsic_row, intrinsic, on_event, tell_event}
use Rattle.b67_table.specs.Rows as table
use Rattle.b67_table.specs.Rows.{row, private_part, action, exit, return_value, enter, enter_by, marked, level_below}
use Rattle.b67_table.specs.Table.{table as table_gives, raw, stack_length, by_row, by_operator, by_registers, operator_at, class_by}
use Rattle.b67_table.proofs.Limit.{new_of}
use Rattle.b67_table.proofs.Keeping.{Gives}
use Rattle.b67_operators.specs.declared.calling.Called.{Called}
use Rattle.b67_operators.specs.Entries.{procedure_called, called_by, enter_called}
use Rattle.b67_operators.specs.Leaves.{task_waiters, released as released_at}
use Rattle.b67_reach.specs.Answers.{looked}
use Rattle.b67_intrinsics.specs.Called.{arguments, event_tests, event_tests_in, IntrinsicLeads}
use Rattle.b67_intrinsics.specs.Names.{Frees, Releases}
use Rattle.b67_letters.specs.Releases.{change_releases, effect_releases, row_releases, fetched_releases, registers_releases, released_by, releases}
use Rattle.b67_letters.proofs.Calm.{Calm, Each, each_asked, each_as, each_critical, arrays_have, entry_calm, other_calm, return_calm, go_to_calm, select_calm, arrays_row_calm, write_calm, event_calm, each_event, each_tell, each_several, each_start}
use Rattle.b67_letters.proofs.Looks.{then_seen}
use Rattle.b67_letters.proofs.Seen.{gives_seen}
use Rattle.b67_letters.proofs.Mute.{Mute, calm_mute}
use Rattle.b67_action.specs.declared.done.Done.{Done}
use Rattle.b67_action.specs.declared.rows.Row.{Row}
use Rattle.b67_action.specs.declared.rows.Row.TheVariants as ours
use Rattle.b67_action.specs.Acting.{CallReleases, CalleeReleases, RowReleases, NextReleases}
use Rattle.b67_action.specs.Done.{Came, is_performed}
use Rattle.b67_private.specs.Actions.{words_program}
use Rattle.b67_action.specs.Rows.{IsTableRow}
use Rattle.b67_action.proofs.CalmWords.{words_calm}
use Rattle.b67_action.proofs.MakeAble.{came_new}

module _ (code : Code) (img : Image) (p : ℕ) where
  -- the change releases these
  abbrev B : List ℕ → Change → Type 0
  B released c = change_releases p c img ≡ released

  -- a program whose changes release nobody
  mutely : (t : Program) (released : List ℕ) → released ≡ [] → Each (Mute p) t → Gives (B released) (asked img t)
  mutely t released e k =
      each_asked (B released) img t (each_as (Mute p) (B released) (λ c mute. mute img ∙ sym e) t k)

  calmly : (t : Program) (released : List ℕ) → released ≡ [] → Each Calm t → Gives (B released) (asked img t)
  calmly t released e k = mutely t released e (each_as Calm (Mute p) (calm_mute p) t k)

  module _ (r : Registers) (next : ℕ) where
    -- ---- the end of the process

    abbrev closed : List Event
    closed = closed_from r.stack 0 img.events

    -- whatever comes before the change keeps the events
    abbrev Then : List ℕ → Change → Type 0
    Then released c = (i : Image) → i.events ≡ img.events → change_releases p c i ≡ released

    ends_release : (o : Option Place) → Then (task_waiters o closed) (close_events r.stack 0 (registers (record r { place = next }) (caused_by o (end_process r.stack done))))
    ends_release None i e = refl
    ends_release (Some task) i e =
        append-nil (waiters_at task (closed_from r.stack 0 i.events)) ∙ ap (λ (es : List Event). waiters_at task (closed_from r.stack 0 es)) e

    base_releases : (cells : List Word) → Each (B (task_waiters r.task closed)) (leave_base r cells next)
    base_releases cells =
        each_critical (B (task_waiters r.task closed)) r.stack (0 ∷ []) _
        (arrays_have (Then (task_waiters r.task closed)) (λ n more k i e. k (write_made p (writes.close_row n) i) e) (λ n more k i e. k (told i (questions.row n)) i e) cells
        (close_events r.stack 0 (registers (record r { place = next }) (caused_by r.task (end_process r.stack done)))) (ends_release r.task) img refl)

    exit_releases : Each (B (released_at (Some r) img.events [])) (exit r next)
    exit_releases = λ cells. by (nat_eq (frame r) 0) cells
      where
        by : (b : Bool) (cells : List Word) → Each (B (cond b (task_waiters r.task closed) [])) (cond b (leave_base r cells next) (leave_other r cells (frame r) []))
        by true cells = base_releases cells
        by false cells = each_as Calm (B []) (λ c k. calm_mute p c k img) (leave_other r cells (frame r) []) (other_calm r next cells (frame r) [])

    -- ---- intrinsics

    module _ (m : Mscw) where
      abbrev finish : Change
      finish = finished_at r m [] next

      finish_mute : Mute p finish
      finish_mute = calm_mute p finish tt

      event_is : (x : EventDeed) (ws : List Word) → on_event x code r next m ws ≡ event_tests r m ws (λ (at : Place). answer (event_deed x at finish))
      event_is x [] = refl
      event_is x (w ∷ []) = refl
      event_is x (w ∷ u ∷ ws) = refl

      on_one : (x : EventDeed) (event : Place) (released : List ℕ) → IntrinsicLeads img (event_tests_in (Some r) m img.stacks) (Ok event) → B released (event_deed x event finish)
          → Gives (B released) (asked img (on_event x code r next m (arguments img.stacks r)))
      on_one x event released leads k =
          subst (Gives (B released)) (sym (ap (asked img) (event_is x (arguments img.stacks r)) ∙ leads (λ (at : Place). answer (event_deed x at finish)))) k

      freed_are : (x : EventDeed) → ((at : Place) → (deed_at x p at img.events).frees ≡ (deed_at x 0 at img.events).frees) → (released : List ℕ)
          → Frees x img (Some r) m released → Gives (B released) (asked img (on_event x code r next m (arguments img.stacks r)))
      freed_are x whoever released e =
          let ps = (deed_at x p e.0 img.events).frees in
          on_one x e.0 released e.1
          (ap (λ (rest : List ℕ). ps ++ rest) (finish_mute (write_made p (writes.event_deed x e.0) img)) ∙ append-nil ps ∙ whoever e.0 ∙ sym e.2)

      abbrev named : Intrinsic → Program
      named name = row_of_intrinsic name code r next m (arguments img.stacks r)

      -- a test frees nobody
      tells : (x : EventTest) → ((e : EventState) → (deed (tests x) p e).frees ≡ []) → (released : List ℕ) → released ≡ []
          → Gives (B released) (asked img (tell_event x code r next m (arguments img.stacks r)))
      tells x none released e =
          mutely (tell_event x code r next m (arguments img.stacks r)) released e
          (each_tell r next m (Mute p) x (λ at told i.
          ap (λ (ps : List ℕ). ps ++ change_releases p (finished_at r m (truth told ∷ []) next) (write_made p (writes.event_deed (tests x) at) i)) (none (state_at at i.events))
          ∙ calm_mute p (finished_at r m (truth told ∷ []) next) tt (write_made p (writes.event_deed (tests x) at) i)) code (arguments img.stacks r))

      named_releases : (name : Intrinsic) (released : List ℕ) → Releases name img (Some r) m [] released → Gives (B released) (asked img (named name))
      named_releases names.GoTo released e = calmly (named names.GoTo) released e (go_to_calm r next m code (arguments img.stacks r))
      named_releases names.Select released e = calmly (named names.Select) released e (select_calm r next m code (arguments img.stacks r))
      named_releases names.Arrays released e = calmly (named names.Arrays) released e (arrays_row_calm r next m code (arguments img.stacks r))
      named_releases names.Event released e = calmly (named names.Event) released e (event_calm r next m code (arguments img.stacks r))
      named_releases names.Start released e =
          mutely (named names.Start) released e (each_start r next m (Mute p) (λ s ws i. finish_mute (write_made p (writes.start s ws) i)) code (arguments img.stacks r))
      named_releases names.Write released e = calmly (named names.Write) released e (write_calm r next m code (arguments img.stacks r))
      named_releases names.Wait released e =
          mutely (named names.Wait) released e (each_event r next m (Mute p) (acts act.Wait) (λ x i. finish_mute (write_made p (writes.event_deed (acts act.Wait) x) i)) code (arguments img.stacks r))
      named_releases names.Cause released e = freed_are (acts act.Cause) (λ at. refl) released e
      named_releases names.Reset released e =
          mutely (named names.Reset) released e (each_event r next m (Mute p) (acts act.Reset) (λ x i. finish_mute (write_made p (writes.event_deed (acts act.Reset) x) i)) code (arguments img.stacks r))
      named_releases names.Happened released e = tells test.Happened (λ e. refl) released e
      named_releases names.Procure released e =
          mutely (named names.Procure) released e (each_event r next m (Mute p) (acts act.Procure) (λ x i. finish_mute (write_made p (writes.event_deed (acts act.Procure) x) i)) code (arguments img.stacks r))
      named_releases names.Liberate released e = freed_are (acts act.Liberate) (λ at. refl) released e
      named_releases names.WaitAny released e =
          mutely (named names.WaitAny) released e
          (each_several r next m (Mute p) (λ n. calm_mute p (gone_on r next m n) tt) (λ n. calm_mute p (go_on (gone_on r next m (suc n))) tt) (λ places i. refl) code (arguments img.stacks r))
      named_releases names.CauseAndReset released e = freed_are (acts act.CauseAndReset) (λ at. refl) released e
      named_releases names.Available released e = tells test.Available (λ e. refl) released e
      named_releases names.Fix released e = tells test.Fix (λ e. refl) released e

      intrinsic_releases : (o : Option Intrinsic) (released : List ℕ) → CallReleases o img (Some r) m [] released
          → Gives (B released) (asked img (intrinsic_row o code r next m (arguments img.stacks r)))
      intrinsic_releases None released e = tt
      intrinsic_releases (Some name) released e = named_releases name released e

    callee_releases : (c : Called) (released : List ℕ) (b : Bool) → CalleeReleases b c img (Some r) [] released
        → Gives (B released) (asked img (cond b (intrinsic c.pcw.number code r next c.mark) (entry r next c.mark.df c.pcw c.home)))
    callee_releases c released true e = intrinsic_releases c.mark (intrinsic_numbered c.pcw.number) released e
    callee_releases c released false e = calmly (entry r next c.mark.df c.pcw c.home) released e (entry_calm r next c.mark.df c.pcw c.home)

    -- ---- ENTR

    abbrev above_mark : Look Word
    above_mark = at (place r.stack (r.f + 1)) (λ (w : Option Word). valid w)

    -- where all changes of what is called are such, those of ENTR are
    enter_gives : (P : Change → Type 0) → ((c : Called) → look_seen img.stacks (procedure_called r) ≡ Ok c → Gives P (asked img (enter_called code r next c))) → Gives P (asked img (enter code r next))
    enter_gives P k = gives_seen img P (marked r) _ (λ m is. gives_seen img P above_mark _ (λ w there. by_cell m is w there (cell_of r w) refl))
      where
        found_so : (m : Mscw) → look_seen img.stacks (marked r) ≡ Ok m → (w : Word) → look_seen img.stacks above_mark ≡ Ok w → (o : Option Cell) → cell_of r w ≡ o → (c : Called)
            → look_seen img.stacks (called_by r m w o) ≡ Ok c → look_seen img.stacks (procedure_called r) ≡ Ok c
        found_so m is w there o e c found_it =
            then_seen img.stacks (marked r) m (λ (x : Mscw). above_mark >-> (λ (v : Word). called_by r x v (cell_of r v))) is
            ∙ then_seen img.stacks above_mark w (λ (v : Word). called_by r m v (cell_of r v)) there
            ∙ ap (λ (x : Option Cell). look_seen img.stacks (called_by r m w x)) e
            ∙ found_it

        by_cell : (m : Mscw) → look_seen img.stacks (marked r) ≡ Ok m → (w : Word) → look_seen img.stacks above_mark ≡ Ok w → (o : Option Cell) → cell_of r w ≡ o
            → Gives P (asked img (enter_by code r next m w o))
        by_cell m is w there None e =
            gives_seen img P (valid (as_pcw w)) _ (λ pcw v.
            k (record { mark = m; pcw = pcw; home = level_below r pcw.level })
            (found_so m is w there None e (record { mark = m; pcw = pcw; home = level_below r pcw.level })
            (then_seen img.stacks (valid (as_pcw w)) pcw (λ (x : Pcw). found (record { mark = m; pcw = x; home = level_below r x.level })) v)))
        by_cell m is w there (Some c) e =
            gives_seen img P (reached (Some c)) _ (λ u s. gives_seen img P (valid (as_pcw u.word)) _ (λ pcw v.
            k (record { mark = m; pcw = pcw; home = Some u.cell.frame })
            (found_so m is w there (Some c) e (record { mark = m; pcw = pcw; home = Some u.cell.frame })
            (then_seen img.stacks (reached (Some c)) u (λ (y : Reached). valid (as_pcw y.word) >-> (λ (x : Pcw). found (record { mark = m; pcw = x; home = Some y.cell.frame }))) s
            ∙ then_seen img.stacks (valid (as_pcw u.word)) pcw (λ (x : Pcw). found (record { mark = m; pcw = x; home = Some u.cell.frame })) v))))

    same_called : (x : Result Called InterruptKind) (c d : Called) → Ok c ≡ looked x → x ≡ Ok d → c ≡ d
    same_called (Ok a) c d e f = cc
    same_called (Err kind) c d e f = cc

    enter_releases : (released : List ℕ) (c : Called) → Ok c ≡ looked (look_seen img.stacks (procedure_called r)) → CalleeReleases c.pcw.intrinsic c img (Some r) [] released
        → Gives (B released) (asked img (enter code r next))
    enter_releases released c e k =
        enter_gives (B released) (λ d f. subst (λ (x : Called). Gives (B released) (asked img (enter_called code r next x))) (same_called (look_seen img.stacks (procedure_called r)) c d e f)
        (callee_releases c released c.pcw.intrinsic k))

    -- ---- rows

    -- what the row's changes release
    abbrev RowGives : List ℕ → table.TableRow → Type 0
    RowGives released (private_part change) = released ≡ []
    RowGives released (action program) = Gives (B released) (asked img (program code r next))

    own_gives : (released : List ℕ) (w : table.TableRow) → class_by w ≡ Private → released ≡ [] → RowGives released w
    own_gives released (private_part change) c e = e
    own_gives released (action program) c e = cc

    row_gives : (released : List ℕ) (op : Operator) (w : Row) → IsTableRow (row op r.place) w → RowReleases w img (Some r) [] released → RowGives released (row op r.place)
    row_gives released op ours.Own is e = own_gives released (row op r.place) is e
    row_gives released op (ours.Words kind) is e =
        subst (RowGives released) (sym is) (calmly (words_program kind r next) released e (words_calm r next kind))
    row_gives released op ours.Exit is e =
        subst (RowGives released) (sym is)
        (subst (λ (l : List ℕ). Gives (B l) (asked img (exit r next))) (sym e) (each_asked (B (released_at (Some r) img.events [])) img (exit r next) exit_releases))
    row_gives released op ours.ReturnValue is e =
        subst (RowGives released) (sym is) (calmly (return_value r next) released e (return_calm r next))
    row_gives released op ours.Enter is x = subst (RowGives released) (sym is) (enter_releases released x.0 x.1 x.2)

    -- where the row gives an image, these are whom it releases
    row_says : (new : Image) (released : List ℕ) (w : table.TableRow) → RowGives released w → by_row w code img p r next ≡ gives new → row_releases w code img p r next ≡ released
    row_says new released (private_part change) k e = sym k
    row_says new released (action program) k e = by (asked img (program code r next)) k e
      where
        by : (x : Effect Change) → Gives (B released) x → effect_of p img x ≡ gives new → effect_releases p img x ≡ released
        by (gives c) k e = k
        by (faults kind) k e = cc
        by (interrupts kind) k e = cc

  -- ---- the next operator

  -- the row of an operator that gives an image
  row_of : (r : Registers) (new : Image) (o : Result (Operator × ℕ) BadCode) (op : Operator) (next : ℕ) → o ≡ Ok (op, next) → by_operator code img p r o ≡ gives new
      → by_row (row op r.place) code img p r next ≡ gives new
  row_of r new o op next stands e = ap (λ (x : Result (Operator × ℕ) BadCode). by_operator code img p r x) (sym stands) ∙ e

  by_live : (new : Image) (live : Bool) (o : Option Registers) (r : Registers) → o ≡ Some r → cond live (by_registers code img p o) (interrupts bad_code) ≡ gives new
      → by_operator code img p r (operator_at code r) ≡ gives new
  by_live new true o r has e = ap (by_registers code img p) (sym has) ∙ e
  by_live new false o r has e = cc

-- where the table gives a new image, whom the operator releases is what the table says
pub released_is : (code : Code) (img new : Image) (p : ℕ) (released : List ℕ) → table_gives code img p ≡ outcomes.gives new → NextReleases code img p released
    → released ≡ releases code img p
unfolding table_gives raw
released_is code img new p released t n =
    let g = new_of (stack_length p) (raw code img p) new t in
    let given = row_of code img p n.regs new (operator_at code n.regs) n.op n.next n.stands
    (by_live code img p new (is_live (numbered img.states p)) (numbered img.regs p) n.regs n.has g.0) in
    let says = row_says code img p n.regs n.next new released (row n.op n.regs.place)
    (row_gives code img p n.regs n.next released n.op n.row n.is (subst (λ (o : Option Registers). RowReleases n.row img o [] released) n.has n.releases)) given in
    sym (ap (λ (o : Outcome Image). released_by o (registers_releases code img p (numbered img.regs p))) t
    ∙ ap (registers_releases code img p) n.has
    ∙ ap (fetched_releases code img p n.regs) n.stands
    ∙ says)

-- where an operator was performed
pub performed_releases : (code : Code) (img new : Image) (p : ℕ) (released : List ℕ) (d : Done) → Came code img p d new → is_performed d ≡ true → NextReleases code img p released
    → released ≡ releases code img p
performed_releases code img new p released d x e n = released_is code img new p released (came_new code img new p d x e) n
