-- Which operators release nobody.
use Rattle.std.proofs.Common.{◌≡◌, ◌⊎◌, inl, inr, refl, sym, ap, ◌∙◌, ℕ, suc, ◌+◌, Bool, true, false, List, [], ◌∷◌, ◌++◌, Option, Some, None, Result, Ok, Err}
use Rattle.std.specs.Prelude.{if◌then◌else◌, nat_eq, nat_lt}
use Rattle.b67_list.specs.Numbered.{numbered}
use Rattle.b67_word.specs.declared.Place.{Place}
use Rattle.b67_word.specs.Word.{Word, truth}
use Rattle.b67_control.specs.declared.Registers.{Registers}
use Rattle.b67_control.specs.declared.Mscw.{Mscw}
use Rattle.b67_control.specs.declared.Pcw.{Pcw}
use Rattle.b67_control.specs.Control.{as_pcw}
use Rattle.b67_ops.specs.declared.BadCode.{BadCode}
use Rattle.b67_ops.specs.declared.BranchKind.{BranchKind}
use Rattle.b67_ops.specs.declared.Operator.{Operator}
use Rattle.b67_ops.specs.declared.Operator.TheVariants as ops
use Rattle.b67_ops.specs.declared.PlainKind.{PlainKind}
use Rattle.b67_ops.specs.declared.PlainKind.TheVariants as kinds
use Rattle.b67_ops.specs.declared.intrinsic.Intrinsic.{Intrinsic}
use Rattle.b67_ops.specs.declared.intrinsic.Intrinsic.TheVariants as names
use Rattle.b67_segment.specs.declared.code.Code.{Code}
use Rattle.b67_table.specs.declared.Cell.{Cell}
use Rattle.b67_table.specs.declared.Reached.{Reached}
use Rattle.b67_table.specs.Effect.{Effect}
use Rattle.b67_table.specs.Effect as effects
use Rattle.b67_table.specs.Image.{Image, woken_number}
use Rattle.b67_table.specs.Names.{intrinsic_numbered}
use Rattle.b67_table.specs.Outcome.{Outcome, gives, faults, interrupts, limit}
use Rattle.b67_table.specs.Private.{frame}
use Rattle.b67_table.specs.PrivateRows.{branch}
use Rattle.b67_table.specs.Chains.{place}
use Rattle.b67_table.specs.References.{cell_of, reached}
use Rattle.b67_table.specs.Look.{Look, at, valid, look_seen}
use Rattle.b67_table.specs.Questions.{told}
use Rattle.b67_table.specs.Questions as questions
use Rattle.b67_table.specs.Writes.{write_made}
use Rattle.b67_table.specs.Writes as writes
use Rattle.b67_table.specs.Program.{asked, Change, done, look_up, write, registers, close_events, end_process, go_on, Program}
use Rattle.b67_table.specs.Linkage.{entry, caused_by, leave_base, leave_other, frame_cells}
use Rattle.b67_table.specs.Arguments.{finished_at}
use Rattle.b67_table.specs.Intrinsics.{tell_event, gone_on, row_of_intrinsic, intrinsic_row, intrinsic}
use Rattle.b67_table.specs.Arrays.{index_program, index_and_load, index_mother}
use Rattle.b67_table.specs.Rows.{private_part, row, plain_row, acts, branch_turn, value_call, load_value, load_through, evaluate, store, enter_procedure, enter_by, level_below, marked, enter, exit, return_value}
use Rattle.b67_table.specs.Table.{table, operator_at}
use Rattle.b67_table.proofs.Keeping.{Gives}
use Rattle.b67_deeds.specs.declared.EventAct.TheVariants as act
use Rattle.b67_deeds.specs.declared.EventTest.TheVariants as test
use Rattle.b67_deeds.specs.declared.EventTest.{EventTest}
use Rattle.b67_deeds.specs.Events.{EventState}
use Rattle.b67_deeds.specs.Deeds as deeds
use Rattle.b67_events.specs.Events.{state_at}
use Rattle.b67_deeds.specs.declared.Letter.{Letter}
use Rattle.b67_deeds.specs.declared.Letter.TheVariants.{Enter, Leave, End, Cause, CauseAndReset, Liberate}
use Rattle.b67_letters.specs.Letters.{told_by, letter_of, intrinsic_letter, called_letter, called_by, control_called, plain_letter, operator_letter, fetched_letter, registers_letter, letter_by, letter}
use Rattle.b67_letters.specs.Releases.{change_releases, effect_releases, row_releases, fetched_releases, registers_releases, released_by, releases}
use Rattle.b67_letters.specs.Laws.{may_release, FewOperatorsRelease}
use Rattle.b67_letters.proofs.Looks.{then_seen}
use Rattle.b67_letters.proofs.Seen.{gives_seen}
use Rattle.b67_letters.proofs.Calm.{Calm, Each, each_asked, each_as, each_critical, arrays_have, value_calm, load_calm, through_calm, evaluate_calm, store_calm, turn_calm, index_calm, index_and_load_calm, index_mother_calm, entry_calm, other_calm, return_calm, go_to_calm, select_calm, arrays_row_calm, write_calm, event_calm, each_event, each_tell, each_several, each_start}

-- ---- changes

-- a change that releases nobody, in whatever image
abbrev pub Mute : ℕ → Change → Type 0
Mute p c = (img : Image) → change_releases p c img ≡ []

pub calm_mute : (p : ℕ) (c : Change) → Calm c → Mute p c
calm_mute p done k img = refl
calm_mute p (look_up q more) k img = calm_mute p (more (told img q)) (k (told img q)) img
calm_mute p (write (writes.save place w) next) k img = calm_mute p next k (write_made p (writes.save place w) img)
calm_mute p (write (writes.cut stack n) next) k img = calm_mute p next k (write_made p (writes.cut stack n) img)
calm_mute p (write (writes.push stack w) next) k img = calm_mute p next k (write_made p (writes.push stack w) img)
calm_mute p (write (writes.registers r) next) k img = calm_mute p next k (write_made p (writes.registers r) img)
calm_mute p (write (writes.open_row n count counted) next) k img = calm_mute p next k (write_made p (writes.open_row n count counted) img)
calm_mute p (write (writes.write_row n j w) next) k img = calm_mute p next k (write_made p (writes.write_row n j w) img)
calm_mute p (write (writes.close_row n) next) k img = calm_mute p next k (write_made p (writes.close_row n) img)
calm_mute p (write (writes.open_event place) next) k img = calm_mute p next k (write_made p (writes.open_event place) img)
calm_mute p (write (writes.close_events stack j) next) k img = calm_mute p next k (write_made p (writes.close_events stack j) img)
calm_mute p (write (writes.event_deed x place) next) k img = absurd k
calm_mute p (write (writes.wait_any places) next) k img = absurd k
calm_mute p (write writes.go_on next) k img = calm_mute p next k (write_made p writes.go_on img)
calm_mute p (write (writes.line bytes) next) k img = calm_mute p next k (write_made p (writes.line bytes) img)
calm_mute p (write (writes.start r words) next) k img = absurd k
calm_mute p (write (writes.end_process stack) next) k img = absurd k

mute_given : (p : ℕ) (img : Image) (e : Effect Change) → Gives (Mute p) e → effect_releases p img e ≡ []
mute_given p img (effects.gives c) k = k img
mute_given p img (effects.faults kind) k = refl
mute_given p img (effects.interrupts kind) k = refl

each_mute : (p : ℕ) (t : Program) → Each Calm t → Each (Mute p) t
each_mute p t k = each_as Calm (Mute p) (calm_mute p) t k

-- ---- operators

-- an action of this letter releases nobody: it releases none ever, or is the end of a process that has no task
abbrev pub Harmless : Letter → Registers → Type 0
Harmless l r = (may_release l ≡ false) ⊎ ((l ≡ End) × (r.task ≡ None))

harm : {A : Type 0} (l x : Letter) (r : Registers) → may_release x ≡ true → (x ≡ End → r.task ≡ None → A) → Some x ≡ Some l → Harmless l r → A
harm l x r t f e (inl never) =
    let same : x ≡ l = cc in
    let bad : true ≡ false = sym t ∙ ap may_release same ∙ never in cc
harm l x r t f e (inr ends) =
    let same : x ≡ l = cc in f (same ∙ ends.0) ends.1

module _ (code : Code) (img : Image) (p : ℕ) (l : Letter) (r : Registers) (harmless : Harmless l r) (next : ℕ) where
  by_calm : (t : Program) → Each Calm t → effect_releases p img (asked img t) ≡ []
  by_calm t k = mute_given p img (asked img t) (each_asked (Mute p) img t (each_mute p t k))

  -- ---- EXIT

  base_mute : (cells : List Word) → r.task ≡ None → Each (Mute p) (leave_base r cells next)
  base_mute cells idle =
      each_critical (Mute p) r.stack (0 ∷ []) _
      (arrays_have (Mute p) (λ n more j i. j (write_made p (writes.close_row n) i)) (λ n more j i. j (told i (questions.row n)) i) cells
      (close_events r.stack 0 (registers (record r { place = next }) (caused_by r.task (end_process r.stack done))))
      (λ i. ap (λ (t : Option Place). change_releases p (close_events r.stack 0 (registers (record r { place = next }) (caused_by t (end_process r.stack done)))) i) idle))

  exit_mute : (b : Bool) → Some (if b then End else Leave) ≡ Some l
      → Each (Mute p) (frame_cells r (λ (cells : List Word). if b then leave_base r cells next else leave_other r cells (frame r) []))
  exit_mute true e = λ cells. harm l End r refl (λ same idle. base_mute cells idle) e harmless
  exit_mute false e = λ cells. each_mute p (leave_other r cells (frame r) []) (other_calm r next cells (frame r) [])

  -- ---- ENTR

  abbrev woken : ℕ
  woken = woken_number img.numbers r.stack

  module _ (m : Mscw) where
    abbrev finish : Change
    finish = finished_at r m [] next

    calmly : (name : Intrinsic) (ws : List Word) → Each Calm (row_of_intrinsic name code r next m ws) → Each (Mute p) (row_of_intrinsic name code r next m ws)
    calmly name ws k = each_mute p (row_of_intrinsic name code r next m ws) k

    finish_mute : Mute p finish
    finish_mute = calm_mute p finish tt

    -- a test frees nobody
    told_mute : (x : EventTest) → ((e : EventState) → (deeds.deed (deeds.tests x) p e).frees ≡ []) → (ws : List Word) → Each (Mute p) (tell_event x code r next m ws)
    told_mute x none ws =
        each_tell r next m (Mute p) x (λ at told i.
        ap (λ ps. ps ++ change_releases p (finished_at r m (truth told ∷ []) next) (write_made p (writes.event_deed (deeds.tests x) at) i)) (none (state_at at i.events))
        ∙ calm_mute p (finished_at r m (truth told ∷ []) next) tt (write_made p (writes.event_deed (deeds.tests x) at) i))
        code ws

    name_mute : (name : Intrinsic) → Some (letter_of woken name) ≡ Some l → (ws : List Word) → Each (Mute p) (row_of_intrinsic name code r next m ws)
    name_mute names.GoTo e ws = calmly names.GoTo ws (go_to_calm r next m code ws)
    name_mute names.Select e ws = calmly names.Select ws (select_calm r next m code ws)
    name_mute names.Arrays e ws = calmly names.Arrays ws (arrays_row_calm r next m code ws)
    name_mute names.Event e ws = calmly names.Event ws (event_calm r next m code ws)
    name_mute names.Start e ws = each_start r next m (Mute p) (λ s words i. finish_mute (write_made p (writes.start s words) i)) code ws
    name_mute names.Write e ws = calmly names.Write ws (write_calm r next m code ws)
    name_mute names.Wait e ws = each_event r next m (Mute p) (deeds.acts act.Wait) (λ x i. finish_mute (write_made p (writes.event_deed (deeds.acts act.Wait) x) i)) code ws
    name_mute names.Cause e ws = harm l Cause r refl (λ same idle. cc) e harmless
    name_mute names.Reset e ws = each_event r next m (Mute p) (deeds.acts act.Reset) (λ x i. finish_mute (write_made p (writes.event_deed (deeds.acts act.Reset) x) i)) code ws
    name_mute names.Happened e ws = told_mute test.Happened (λ e. refl) ws
    name_mute names.Procure e ws = each_event r next m (Mute p) (deeds.acts act.Procure) (λ x i. finish_mute (write_made p (writes.event_deed (deeds.acts act.Procure) x) i)) code ws
    name_mute names.Liberate e ws = harm l Liberate r refl (λ same idle. cc) e harmless
    name_mute names.WaitAny e ws =
        each_several r next m (Mute p) (λ n. calm_mute p (gone_on r next m n) tt) (λ n. calm_mute p (go_on (gone_on r next m (suc n))) tt) (λ places i. refl) code ws
    name_mute names.CauseAndReset e ws = harm l CauseAndReset r refl (λ same idle. cc) e harmless
    name_mute names.Available e ws = told_mute test.Available (λ e. refl) ws
    name_mute names.Fix e ws = told_mute test.Fix (λ e. refl) ws

    intrinsic_mute : (o : Option Intrinsic) → intrinsic_letter woken o ≡ Some l → (ws : List Word) → Each (Mute p) (intrinsic_row o code r next m ws)
    intrinsic_mute None e ws = tt
    intrinsic_mute (Some name) e ws = name_mute name e ws

    callee_mute : (pcw : Pcw) (home : Option Place) → called_letter img r.stack pcw ≡ Some l → Gives (Mute p) (asked img (enter_procedure code r next m pcw home))
    callee_mute pcw home e = by pcw.intrinsic e
      where
        by : (b : Bool) → (if b then intrinsic_letter woken (intrinsic_numbered pcw.number) else Some Enter) ≡ Some l
            → Gives (Mute p) (asked img (if b then intrinsic pcw.number code r next m else entry r next m.df pcw home))
        by true e = each_asked (Mute p) img (intrinsic pcw.number code r next m) (λ ws. intrinsic_mute (intrinsic_numbered pcw.number) e ws)
        by false e = each_asked (Mute p) img (entry r next m.df pcw home) (each_mute p (entry r next m.df pcw home) (entry_calm r next m.df pcw home))

  abbrev above_mark : Look Word
  above_mark = at (place r.stack (r.f + 1)) (λ (w : Option Word). valid w)

  module _ (e : told_by (called_letter img r.stack) (look_seen img.stacks (control_called r)) ≡ Some l) where
    same : (above : Word) → look_seen img.stacks above_mark ≡ Ok above → (o : Option Cell) → cell_of r above ≡ o → (pcw : Pcw) → look_seen img.stacks (called_by above o) ≡ Ok pcw
        → called_letter img r.stack pcw ≡ Some l
    same above is o c pcw v =
        let here : look_seen img.stacks (control_called r) ≡ Ok pcw =
        then_seen img.stacks above_mark above (λ (a : Word). called_by a (cell_of r a)) is ∙ ap (λ (x : Option Cell). look_seen img.stacks (called_by above x)) c ∙ v in
        sym (ap (told_by (called_letter img r.stack)) here) ∙ e

    by_cell : (m : Mscw) (above : Word) → look_seen img.stacks above_mark ≡ Ok above → (o : Option Cell) → cell_of r above ≡ o → Gives (Mute p) (asked img (enter_by code r next m above o))
    by_cell m above is None c = gives_seen img (Mute p) (valid (as_pcw above)) _ (λ pcw v. callee_mute m pcw (level_below r pcw.level) (same above is None c pcw v))
    by_cell m above is (Some x) c =
        gives_seen img (Mute p) (reached (Some x)) _ (λ v s. gives_seen img (Mute p) (valid (as_pcw v.word)) _ (λ pcw t.
        callee_mute m pcw (Some v.cell.frame)
        (same above is (Some x) c pcw (then_seen img.stacks (reached (Some x)) v (λ (u : Reached). valid (as_pcw u.word)) s ∙ t))))

    enter_mute : Gives (Mute p) (asked img (enter code r next))
    enter_mute = gives_seen img (Mute p) (marked r) _ (λ m s. gives_seen img (Mute p) above_mark _ (λ above is. by_cell m above is (cell_of r above) refl))

  -- ---- all of them

  plain_mute : (kind : PlainKind) → plain_letter kind img r ≡ Some l → row_releases (plain_row kind) code img p r next ≡ []
  plain_mute kinds.Add e = refl
  plain_mute kinds.Subt e = refl
  plain_mute kinds.Mult e = refl
  plain_mute kinds.Divd e = refl
  plain_mute kinds.Idiv e = refl
  plain_mute kinds.Rdiv e = refl
  plain_mute kinds.Less e = refl
  plain_mute kinds.Greq e = refl
  plain_mute kinds.Grtr e = refl
  plain_mute kinds.Lseq e = refl
  plain_mute kinds.Equl e = refl
  plain_mute kinds.Neql e = refl
  plain_mute kinds.Chsn e = refl
  plain_mute kinds.Land e = refl
  plain_mute kinds.Lor e = refl
  plain_mute kinds.Lnot e = refl
  plain_mute kinds.Leqv e = refl
  plain_mute kinds.Exit e = mute_given p img (asked img (exit r next)) (each_asked (Mute p) img (exit r next) (exit_mute (nat_eq (frame r) 0) e))
  plain_mute kinds.Nxln e = by_calm (index_mother r next) (index_mother_calm r next)
  plain_mute kinds.Indx e = by_calm (index_program r next) (index_calm r next)
  plain_mute kinds.Retn e = by_calm (return_value r next) (return_calm r next)
  plain_mute kinds.Entr e = mute_given p img (asked img (enter code r next)) (enter_mute e)
  plain_mute kinds.Eval e = by_calm (evaluate r next) (evaluate_calm r next)
  plain_mute kinds.Nxlv e = by_calm (index_and_load r next) (index_and_load_calm r next)
  plain_mute kinds.Mkst e = refl
  plain_mute kinds.Stff e = refl
  plain_mute kinds.Zero e = refl
  plain_mute kinds.One e = refl
  plain_mute kinds.Push e = refl
  plain_mute kinds.Dlet e = refl
  plain_mute kinds.Exch e = refl
  plain_mute kinds.Dupl e = refl
  plain_mute kinds.Stod e = by_calm (store false r next) (store_calm r next false)
  plain_mute kinds.Ston e = by_calm (store true r next) (store_calm r next true)
  plain_mute kinds.Lodt e = by_calm (load_through r next) (through_calm r next)
  plain_mute kinds.Load e = by_calm (load_value r next) (load_calm r next)
  plain_mute kinds.Noop e = refl

  branch_mute : (kind : BranchKind) (target : ℕ) (b : Bool) → row_releases (if b then private_part (branch kind target) else acts (branch_turn kind target)) code img p r next ≡ []
  branch_mute kind target true = refl
  branch_mute kind target false = by_calm (branch_turn kind target r next) (turn_calm r next kind target)

  pub operator_mute : (op : Operator) → operator_letter op img r ≡ Some l → row_releases (row op r.place) code img p r next ≡ []
  unfolding row
  operator_mute (ops.Valc couple) e = by_calm (value_call couple r next) (value_calm r next couple)
  operator_mute (ops.Namc couple) e = refl
  operator_mute (ops.Lt8 n) e = refl
  operator_mute (ops.Lt16 n) e = refl
  operator_mute (ops.Lt48 n) e = refl
  operator_mute (ops.Mpcw n) e = refl
  operator_mute (ops.Branch kind target) e = branch_mute kind target (nat_lt r.place target)
  operator_mute (ops.Plain kind) e = plain_mute kind e

module _ (code : Code) (img : Image) (p : ℕ) (l : Letter) where
  fetched_mute : (r : Registers) → Harmless l r → (o : Result (Operator × ℕ) BadCode) → fetched_letter img r o ≡ Some l → fetched_releases code img p r o ≡ []
  fetched_mute r h (Err bad) e = refl
  fetched_mute r h (Ok f) e = operator_mute code img p l r h f.1 f.0 e

  registers_mute : (o : Option Registers) → ((r : Registers) → o ≡ Some r → Harmless l r) → registers_letter code img o ≡ Some l → registers_releases code img p o ≡ []
  registers_mute None h e = refl
  registers_mute (Some r) h e = fetched_mute r (h r refl) (operator_at code r) e

  outcome_mute : (t : Outcome Image) (found : Option Letter) (ps : List ℕ) → (found ≡ Some l → ps ≡ []) → letter_by t found ≡ Some l → released_by t ps ≡ []
  outcome_mute (gives new) found ps k e = k e
  outcome_mute (faults kind) found ps k e = refl
  outcome_mute (interrupts kind) found ps k e = refl
  outcome_mute limit found ps k e = refl

  letter_mute : ((r : Registers) → numbered img.regs p ≡ Some r → Harmless l r) → letter code img p ≡ Some l → releases code img p ≡ []
  letter_mute h e =
      outcome_mute (table code img p) (registers_letter code img (numbered img.regs p)) (registers_releases code img p (numbered img.regs p))
      (registers_mute (numbered img.regs p) h) e

idle_there : (o : Option Registers) (r : Registers) → o ≡ Some r → r.task ≡ None → (x : Registers) → o ≡ Some x → x.task ≡ None
idle_there o r has idle x is = let same : r ≡ x = cc in ap (λ (y : Registers). y.task) (sym same) ∙ idle

pub few_operators_release : FewOperatorsRelease
few_operators_release = record {
  others = λ code img p l e never. letter_mute code img p l (λ r has. inl never) e;
  ends = λ code img p r e has idle. letter_mute code img p End (λ x is. inr (refl, idle_there (numbered img.regs p) r has idle x is)) e;
}
