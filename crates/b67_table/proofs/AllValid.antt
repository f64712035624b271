-- Every operator keeps an image valid.
use Rattle.std.proofs.Common.{◌≡◌, refl, sym, ap, subst, ◌∙◌, ℕ, suc, ◌+◌, ◌-◌, ◌<◌, ◌≤◌, ◌^◌, ◌&&◌, Bool, true, false, List, length, take, drop, All, Option, Some, None, Result, Ok, Err, cond, arith}
use Rattle.std.specs.Prelude.{nat_le, nat_lt}
use Rattle.std.proofs.lemmas.Bool.{leb-true, and_parts}
use Rattle.std.proofs.lemmas.List.Elements.{All-take, All-drop}
use Rattle.b67_list.specs.Numbered.{numbered}
use Rattle.b67_num.specs.declared.FaultKind.{FaultKind}
use Rattle.b67_word.specs.declared.Place.{Place}
use Rattle.b67_word.specs.Word.{Word, IsWord}
use Rattle.b67_control.specs.declared.Registers.{Registers}
use Rattle.b67_control.specs.declared.Mscw.{Mscw}
use Rattle.b67_control.specs.declared.Pcw.{Pcw}
use Rattle.b67_control.specs.Control.{as_mscw, as_pcw, Fits_mscw, Fits_pcw}
use Rattle.b67_control.proofs.ControlLaws.{Fits_as_mscw, Fits_as_pcw}
use Rattle.b67_ops.specs.declared.Operator.{Operator}
use Rattle.b67_ops.specs.declared.Operator.TheVariants as ops
use Rattle.b67_ops.specs.declared.PlainKind.{PlainKind}
use Rattle.b67_ops.specs.declared.PlainKind.TheVariants as kinds
use Rattle.b67_ops.specs.declared.BranchKind.{BranchKind}
use Rattle.b67_ops.specs.declared.BadCode.{BadCode}
use Rattle.b67_ops.specs.Spelling.{Fits}
use Rattle.b67_segment.specs.declared.code.Code.{Code}
use Rattle.b67_store.specs.Store.{words_of, word_at, stack_limit, row_limit}
use Rattle.b67_table.specs.declared.Cell.{Cell}
use Rattle.b67_table.specs.declared.InterruptKind.TheVariants.{InvalidOperand, BadCode as bad_code}
use Rattle.b67_ops.specs.declared.intrinsic.Intrinsic.{Intrinsic}
use Rattle.b67_table.specs.Names.{intrinsic_numbered}
use Rattle.b67_ops.specs.declared.intrinsic.Intrinsic.TheVariants as names
use Rattle.b67_table.specs.Effect.{Effect, gives, faults, interrupts}
use Rattle.b67_table.specs.Outcome as outcomes
use Rattle.b67_table.specs.Private.{display_at, floor}
use Rattle.b67_table.specs.Look.{found, at, ◌>->◌, look_seen, valid}
use Rattle.b67_table.specs.Chains.{place}
use Rattle.b67_table.specs.References.{cell_of, reached, invalid}
use Rattle.b67_table.specs.Image.{Image, is_able, is_live}
use Rattle.b67_table.specs.Program.{asked, Change, changed, effect_of}
use Rattle.b67_table.specs.Intrinsics.{row_of_intrinsic, intrinsic_row, intrinsic}
use Rattle.b67_table.specs.PrivateRows.{branch}
use Rattle.b67_table.specs.Rows.{TableRow, private_part, action, row, plain_row, acts, branch_turn, level_below, enter_procedure, enter_by, not_entered, marked, enter}
use Rattle.b67_deeds.specs.declared.EventAct.TheVariants as act
use Rattle.b67_deeds.specs.declared.EventTest.TheVariants as test
use Rattle.b67_deeds.specs.Deeds as deeds
use Rattle.b67_table.specs.Table.{raw, table, class_at, class_by, is_private, private_at, private_in, program_by, operator_at, by_row, by_operator, by_registers, stack_length}
use Rattle.b67_table.specs.Ending.{failed}
use Rattle.b67_table.specs.Valid.{IsHeld, IsProcess, IsValid, OperatorsKeepValid}
use Rattle.b67_table.proofs.Keeping.{Gives}
use Rattle.b67_table.proofs.Finding.{Found, look_then, see_then, gives_by, there_found, found_by, anything_found}
use Rattle.b67_table.proofs.Limit.{new_of}
use Rattle.b67_table.proofs.Wordly.{few_index_bits}
use Rattle.b67_table.proofs.Referring.{IsReached, cell_is, reached_found, seen_held}
use Rattle.b67_table.proofs.OwnValid.{process_stays}
use Rattle.b67_table.proofs.PrivateValid.{Fetched, operator_fits, private_keeps_valid}
use Rattle.b67_table.proofs.Simple.{Ends}
use Rattle.b67_table.proofs.Waking.{able_live}
use Rattle.b67_table.proofs.Evaluating.{turn_kept, value_kept, load_kept, through_kept, evaluate_kept}
use Rattle.b67_table.proofs.Indexing.{index_kept, index_and_load_kept, index_mother_kept, store_kept}
use Rattle.b67_table.proofs.Entries.{entry_kept}
use Rattle.b67_table.proofs.Exits.{exit_kept, return_kept, go_to_kept}
use Rattle.b67_table.proofs.Calls.{select_kept, write_kept, make_event_kept, tell_kept, event_deed_kept, wait_any_kept}
use Rattle.b67_table.proofs.Making.{arrays_kept}
use Rattle.b67_table.proofs.Begun.{start_kept}

module _ (code : Code) (img : Image) (p : ℕ) (r : Registers) (v : IsValid code img) (able : is_able (numbered img.states p) ≡ true)
    (has : numbered img.regs p ≡ Some r) (next : ℕ) (small : next < 2 ^ 16) where
  live : is_live (numbered img.states p) ≡ true
  live = able_live (numbered img.states p) able

  abbrev E : Change → Type 0
  E = Ends code img p

  -- ---- ENTR

  record IsMarked (m : Mscw) : Type 0 where
    fits : Fits_mscw m
    low : floor r ≤ r.f
    high : r.f + 1 < r.s

  with_places : (e : _) → floor r ≤ r.f → r.f + 1 < r.s → Found Fits_mscw e → Found IsMarked e
  with_places (Ok m) l h f = record { fits = f; low = l; high = h }
  with_places (Err kind) l h f = tt

  mark_found : (o : Option Word) → Found Fits_mscw (look_seen img.stacks (valid o >-> (λ (w : Word). valid (as_mscw w) >-> not_entered)))
  mark_found o =
      look_then img.stacks (λ (w : Word). Unit {0}) Fits_mscw (valid o) _ (anything_found (look_seen img.stacks (valid o))) (λ w u.
      look_then img.stacks Fits_mscw Fits_mscw (valid (as_mscw w)) not_entered
      (there_found img.stacks Fits_mscw InvalidOperand (as_mscw w) (λ m e. Fits_as_mscw w e))
      (λ m f. found_by img.stacks Fits_mscw m.entered invalid (found m) (λ b. tt) (λ b. f)))

  marked_found : Found IsMarked (look_seen img.stacks (marked r))
  marked_found =
      found_by img.stacks IsMarked (nat_le (floor r) r.f && nat_lt (r.f + 1) r.s) _ invalid
      (λ b. let t = and_parts (nat_le (floor r) r.f) (nat_lt (r.f + 1) r.s) b in
      with_places _ (leb-true (floor r) r.f t.0) (omega (arith, leb-true (suc (r.f + 1)) r.s t.1)) (mark_found (word_at img.stacks (place r.stack r.f)))) (λ b. tt)

  intrinsic_by : (name : Intrinsic) (m : Mscw) → IsMarked m → (words : List Word) → All IsWord words → Gives E (asked img (row_of_intrinsic name code r next m words))
  intrinsic_by names.GoTo m k words a = go_to_kept code img p r v live has next small m words
  intrinsic_by names.Select m k words a = select_kept code img p r v live has next small m k.low k.high words
  intrinsic_by names.Arrays m k words a = arrays_kept code img p r v live has next small m k.low k.high words
  intrinsic_by names.Event m k words a = make_event_kept code img p r v live has next small m k.low k.high words
  intrinsic_by names.Start m k words a = start_kept code img p r v live has next small m k.low k.high words a
  intrinsic_by names.Write m k words a = write_kept code img p r v live has next small m k.low k.high words
  intrinsic_by names.Wait m k words a = event_deed_kept code img p r v live has next small m k.low k.high able (deeds.acts act.Wait) words
  intrinsic_by names.Cause m k words a = event_deed_kept code img p r v live has next small m k.low k.high able (deeds.acts act.Cause) words
  intrinsic_by names.Reset m k words a = event_deed_kept code img p r v live has next small m k.low k.high able (deeds.acts act.Reset) words
  intrinsic_by names.Happened m k words a = tell_kept code img p r v live has next small m k.low k.high able test.Happened words
  intrinsic_by names.Procure m k words a = event_deed_kept code img p r v live has next small m k.low k.high able (deeds.acts act.Procure) words
  intrinsic_by names.Liberate m k words a = event_deed_kept code img p r v live has next small m k.low k.high able (deeds.acts act.Liberate) words
  intrinsic_by names.WaitAny m k words a = wait_any_kept code img p r v live has next small m k.low k.high able words
  intrinsic_by names.CauseAndReset m k words a = event_deed_kept code img p r v live has next small m k.low k.high able (deeds.acts act.CauseAndReset) words
  intrinsic_by names.Available m k words a = tell_kept code img p r v live has next small m k.low k.high able test.Available words
  intrinsic_by names.Fix m k words a = tell_kept code img p r v live has next small m k.low k.high able test.Fix words

  named_by : (o : Option Intrinsic) (m : Mscw) → IsMarked m → (words : List Word) → All IsWord words → Gives E (asked img (intrinsic_row o code r next m words))
  named_by None m k words a = tt
  named_by (Some name) m k words a = intrinsic_by name m k words a

  intrinsic_kept : (number : ℕ) (m : Mscw) → IsMarked m → Gives E (asked img (intrinsic number code r next m))
  intrinsic_kept number m k =
      named_by (intrinsic_numbered number) m k (take (r.s - (r.f + 2)) (drop (r.f + 2) (words_of img.stacks r.stack)))
      (All-take IsWord (r.s - (r.f + 2)) (drop (r.f + 2) (words_of img.stacks r.stack)) (All-drop IsWord (r.f + 2) (words_of img.stacks r.stack) (v.words r.stack)))

  procedure_kept : (m : Mscw) (pcw : Pcw) (home : Option Place) → IsMarked m → Fits_pcw pcw → ((h : Place) → home ≡ Some h → IsHeld h)
      → Gives E (asked img (enter_procedure code r next m pcw home))
  procedure_kept m pcw home k f held =
      gives_by img E pcw.intrinsic _ _ (λ b. intrinsic_kept pcw.number m k)
      (λ b. entry_kept code img p r v live has next m.df pcw home f k.fits.1.1.0 held k.high)

  below_held : (level : ℕ) (h : Place) → level_below r level ≡ Some h → IsHeld h
  below_held level h e = by_test (nat_le 1 level) e
    where
      by_test : (b : Bool) → cond b (display_at r (level - 1)) None ≡ Some h → IsHeld h
      by_test true i = seen_held code img p r v live has (level - 1) h i
      by_test false i = cc

  entered_by : (m : Mscw) (w : Word) → IsMarked m → (o : Option Cell) → cell_of r w ≡ o → Gives E (asked img (enter_by code r next m w o))
  entered_by m w k None e =
      see_then img Fits_pcw E (valid (as_pcw w)) _ (there_found img.stacks Fits_pcw InvalidOperand (as_pcw w) (λ pcw i. Fits_as_pcw w i)) (λ pcw f.
      procedure_kept m pcw (level_below r pcw.level) k f (below_held pcw.level))
  entered_by m w k (Some c) e =
      see_then img (IsReached code img p r v live has) E (reached (Some c)) _
      (reached_found code img p r v live has (Some c) (λ x i. cell_is code img p r v live has w x (e ∙ i))) (λ x i.
      see_then img Fits_pcw E (valid (as_pcw x.word)) _ (there_found img.stacks Fits_pcw InvalidOperand (as_pcw x.word) (λ pcw j. Fits_as_pcw x.word j)) (λ pcw f.
      procedure_kept m pcw (Some x.cell.frame) k f (λ h j. let same : x.cell.frame ≡ h = cc in subst IsHeld same i.cell.frame)))

  enter_kept : Gives E (asked img (enter code r next))
  enter_kept =
      see_then img IsMarked E (marked r) _ marked_found (λ m k.
      see_then img (λ (w : Word). Unit {0}) E (at (place r.stack (r.f + 1)) (λ (w : Option Word). valid w)) _
      (anything_found (look_seen img.stacks (at (place r.stack (r.f + 1)) (λ (w : Option Word). valid w)))) (λ above u.
      entered_by m above k (cell_of r above) refl))

  -- ---- every operator

  plain_kept : (kind : PlainKind) → Gives E (asked img (program_by (plain_row kind) code r next))
  plain_kept kinds.Add = tt
  plain_kept kinds.Subt = tt
  plain_kept kinds.Mult = tt
  plain_kept kinds.Divd = tt
  plain_kept kinds.Idiv = tt
  plain_kept kinds.Rdiv = tt
  plain_kept kinds.Less = tt
  plain_kept kinds.Greq = tt
  plain_kept kinds.Grtr = tt
  plain_kept kinds.Lseq = tt
  plain_kept kinds.Equl = tt
  plain_kept kinds.Neql = tt
  plain_kept kinds.Chsn = tt
  plain_kept kinds.Land = tt
  plain_kept kinds.Lor = tt
  plain_kept kinds.Lnot = tt
  plain_kept kinds.Leqv = tt
  plain_kept kinds.Exit = exit_kept code img p r v live has next small able
  plain_kept kinds.Nxln = index_mother_kept code img p r v live has next small
  plain_kept kinds.Indx = index_kept code img p r v live has next small
  plain_kept kinds.Retn = return_kept code img p r v live has next small able
  plain_kept kinds.Entr = enter_kept
  plain_kept kinds.Eval = evaluate_kept code img p r v live has next small
  plain_kept kinds.Nxlv = index_and_load_kept code img p r v live has next small
  plain_kept kinds.Mkst = tt
  plain_kept kinds.Stff = tt
  plain_kept kinds.Zero = tt
  plain_kept kinds.One = tt
  plain_kept kinds.Push = tt
  plain_kept kinds.Dlet = tt
  plain_kept kinds.Exch = tt
  plain_kept kinds.Dupl = tt
  plain_kept kinds.Stod = store_kept code p r next small img v live has false
  plain_kept kinds.Ston = store_kept code p r next small img v live has true
  plain_kept kinds.Lodt = through_kept code img p r v live has next small
  plain_kept kinds.Load = load_kept code img p r v live has next small
  plain_kept kinds.Noop = tt

  branch_kept : (b : Bool) (kind : BranchKind) (target : ℕ) → target < 2 ^ 16
      → Gives E (asked img (program_by (cond b (private_part (branch kind target)) (acts (branch_turn kind target))) code r next))
  branch_kept true kind target t = tt
  branch_kept false kind target t = turn_kept code img p r v live has next small kind target t

  op_kept : (op : Operator) → Fits r.ll op → Gives E (asked img (program_by (row op r.place) code r next))
  unfolding row
  op_kept (ops.Valc couple) f = value_kept code img p r v live has next small couple (omega (arith, f.index_fits, few_index_bits r.ll))
  op_kept (ops.Namc couple) f = tt
  op_kept (ops.Lt8 n) f = tt
  op_kept (ops.Lt16 n) f = tt
  op_kept (ops.Lt48 n) f = tt
  op_kept (ops.Mpcw n) f = tt
  op_kept (ops.Branch kind target) f = branch_kept (nat_lt r.place target) kind target f
  op_kept (ops.Plain kind) f = plain_kept kind

-- ---- what the table gives

ends_new : (code : Code) (img new : Image) (p : ℕ) (e : Effect Change) → Gives (Ends code img p) e → effect_of p img e ≡ gives new
    → stack_length p new ≤ stack_limit → length new.rows ≤ row_limit → IsValid code new
unfolding Ends
ends_new code img new p (gives c) k e small few =
    let same : new ≡ changed p c img = cc in
    subst (IsValid code) (sym same)
    (k (subst (λ (i : Image). stack_length p i ≤ stack_limit) same small) (subst (λ (i : Image). length i.rows ≤ row_limit) same few))
ends_new code img new p (faults kind) k e small few = cc
ends_new code img new p (interrupts kind) k e small few = cc

module _ (code : Code) (img new : Image) (p : ℕ) (v : IsValid code img) (able : is_able (numbered img.states p) ≡ true)
    (t : table code img p ≡ outcomes.gives new) (small : stack_length p new ≤ stack_limit) (few : length new.rows ≤ row_limit) where
  lives : is_live (numbered img.states p) ≡ true
  lives = able_live (numbered img.states p) able

  by_rows : (r : Registers) → numbered img.regs p ≡ Some r → (op : Operator) (next : ℕ) → operator_at code r ≡ Ok (op, next) → (w : TableRow) → row op r.place ≡ w
      → by_row w code img p r next ≡ gives new → IsValid code new
  unfolding class_at
  by_rows r has op next s (private_part change) i e =
      private_keeps_valid code img new p v lives
      (ap (private_in code) has ∙ ap (private_at r) s ∙ ap (λ (w : TableRow). is_private (class_by w)) i) t
  by_rows r has op next s (action program) i e =
      let q : IsProcess img p r = v.processes p r lives has in
      let f : Fetched r.ll op next = operator_fits code r (omega (arith, q.display.known)) op next v.segments s in
      ends_new code img new p (asked img (program code r next))
      (subst (λ (w : TableRow). Gives (Ends code img p) (asked img (program_by w code r next))) i (op_kept code img p r v able has next f.bound op f.fits)) e small few

  by_fetch : (r : Registers) → numbered img.regs p ≡ Some r → (f : Result (Operator × ℕ) BadCode) → operator_at code r ≡ f → by_operator code img p r f ≡ gives new
      → IsValid code new
  by_fetch r has (Err x) s e = cc
  by_fetch r has (Ok x) s e = by_rows r has x.0 x.1 s (row x.0 r.place) refl e

  by_process : (o : Option Registers) → numbered img.regs p ≡ o → by_registers code img p o ≡ gives new → IsValid code new
  by_process None has e = cc
  by_process (Some r) has e = by_fetch r has (operator_at code r) refl e

able_kept : (code : Code) (img new : Image) (p : ℕ) → IsValid code img → is_able (numbered img.states p) ≡ true → table code img p ≡ outcomes.gives new
    → length new.rows ≤ row_limit → IsValid code new
unfolding table raw
able_kept code img new p v able t few =
    let g = new_of (stack_length p) (raw code img p) new t in
    by_process code img new p v able t g.1 few (numbered img.regs p) refl
    (sym (ap (λ (b : Bool). cond b (by_registers code img p (numbered img.regs p)) (interrupts bad_code)) (able_live (numbered img.states p) able))
    ∙ g.0)

failed_kept : (code : Code) (img : Image) (p : ℕ) (kind : FaultKind) → IsValid code img → IsValid code (failed img p kind)
unfolding failed
failed_kept code img p kind v = record {
  segments = v.segments;
  words = v.words;
  registers = v.registers;
  states = v.states;
  numbers = v.numbers;
  positions = v.positions;
  some = v.some;
  most = v.most;
  system = v.system;
  stacks = v.stacks;
  processes = λ q r l i. process_stays img (failed img p kind) q r refl (v.processes q r l i);
  earlier = v.earlier;
  rows = record { few = v.rows.few; room = v.rows.room; short = v.rows.short; words = v.rows.words; shallow = v.rows.shallow };
  events = v.events;
}

pub operators_keep_valid : OperatorsKeepValid
operators_keep_valid = record { able = able_kept; private = private_keeps_valid; failed = failed_kept }
