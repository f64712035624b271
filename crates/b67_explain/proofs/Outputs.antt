-- What holds of each line that a format of a code makes holds of each line of the output of a run.
use Rattle.std.proofs.Common.{◌≡◌, refl, subst, sym, ℕ, zero, suc, ◌+◌, ◌-◌, ◌&&◌, Bool, true, false, not, ℤ, pos, List, [], ◌∷◌, ◌++◌, All, take, drop, Option, Some, None, Result, Ok, Err, cond}
use Rattle.std.specs.Prelude.{nat_lt, nat_le, nat_eq, length}
use Rattle.std.proofs.lemmas.List.Elements.{All-nil, All-push}
use Rattle.b67_list.specs.Numbered.{numbered}
use Rattle.b67_word.specs.declared.Place.{Place}
use Rattle.b67_word.specs.Word.{Word, operand, truth}
use Rattle.b67_control.specs.declared.Registers.{Registers}
use Rattle.b67_control.specs.declared.Mscw.{Mscw}
use Rattle.b67_control.specs.declared.Pcw.{Pcw}
use Rattle.b67_control.specs.declared.Descriptor.{Descriptor}
use Rattle.b67_control.specs.Control.{as_descriptor, as_pcw, descriptor_word, event_word}
use Rattle.b67_num.specs.declared.FaultKind.TheVariants.{NotAVariable, CriticalBlockExit, BadGoTo, ProcessLimit}
use Rattle.b67_ops.specs.declared.Couple.{Couple}
use Rattle.b67_ops.specs.declared.Operator.{Operator}
use Rattle.b67_ops.specs.declared.Operator.TheVariants as ops
use Rattle.b67_ops.specs.declared.PlainKind.{PlainKind}
use Rattle.b67_ops.specs.declared.PlainKind.TheVariants as kinds
use Rattle.b67_ops.specs.declared.BranchKind.{BranchKind}
use Rattle.b67_ops.specs.declared.BranchKind.TheVariants.{Brfl, Brtr, Brun}
use Rattle.b67_ops.specs.declared.BadCode.{BadCode}
use Rattle.b67_ops.specs.declared.intrinsic.Intrinsic.{Intrinsic}
use Rattle.b67_ops.specs.declared.intrinsic.Intrinsic.TheVariants as names
use Rattle.b67_segment.specs.declared.code.Code.{Code}
use Rattle.b67_store.specs.Store.{Row, row_words_or, words_of}
use Rattle.b67_deeds.specs.declared.EventAct.TheVariants as act
use Rattle.b67_deeds.specs.declared.EventTest.{EventTest}
use Rattle.b67_deeds.specs.declared.EventTest.TheVariants as test
use Rattle.b67_deeds.specs.Deeds.{EventDeed}
use Rattle.b67_deeds.specs.Deeds as deeds
use Rattle.b67_table.specs.declared.Cell.{Cell}
use Rattle.b67_table.specs.declared.Reached.{Reached}
use Rattle.b67_table.specs.declared.Private.{Private}
use Rattle.b67_table.specs.declared.InterruptKind.TheVariants.{InvalidOperand, BadCode as bad_code}
use Rattle.b67_table.specs.Names.{intrinsic_numbered}
use Rattle.b67_table.specs.Effect.{Effect, gives, faults, interrupts}
use Rattle.b67_table.specs.Outcome as outcomes
use Rattle.b67_table.specs.Private.{frame}
use Rattle.b67_table.specs.Image.{Image, private_of, is_live}
use Rattle.b67_table.specs.Look.{Look, at, ◌>->◌, look_seen, valid}
use Rattle.b67_table.specs.Questions.{told}
use Rattle.b67_table.specs.Questions as questions
use Rattle.b67_table.specs.Writes.{Write, write_made}
use Rattle.b67_table.specs.Writes as writes
use Rattle.b67_table.specs.Program.{Test, answer, fault, asked, ◌>>=◌, see, Change, changed, done, cut, push, registers, row_of, open_row, write_row, close_row, close_events, end_process, line, effect_of, Program}
use Rattle.b67_table.specs.Program.{write as write_on}
use Rattle.b67_table.specs.Moves.{dropped, replaced, pushed}
use Rattle.b67_table.specs.Chains.{place, chain_broken, mark_at, rebuilt}
use Rattle.b67_table.specs.Limits.{most_cells, most_events, most_processes}
use Rattle.b67_table.specs.Linkage.{entering, entered, leaving, registers_left, entry, accidental, control_word, entered_mark, selected, closed_by, rows_closed, array_closed, arrays_closed, frame_left, is_critical, if_not_critical, caused_by, leave_base, leave_other, leave}
use Rattle.b67_table.specs.GoingTo.{Passed, Passing, Target, frames_left, passed_frames, passed_by, target_of, gone_to, go_to}
use Rattle.b67_table.specs.Arrays.{Extents, one, two, array_word, rows_made, array_made, arrays_made, as_indexed, element, subscripted, index_in, index_or_fault, index_program, index_and_load, index_mother, subscripted_element, if_held}
use Rattle.b67_table.specs.Arguments.{if_chained, finished_at, wholes, three, event_of, events_of, no_such}
use Rattle.b67_table.specs.Lines.{line_for}
use Rattle.b67_table.specs.Intrinsics.{case_in, case_place, intrinsic_wanted, extents, gone_to_case, select, arrays, write, make_event, on_event, tell_event, gone_on, gone_or_waiting, woken_or_not, wait_for_any, row_of_intrinsic, intrinsic_row}
use Rattle.b67_table.specs.Starting.{starting, first_display, first_words, process_begun, on_path, frames_with, named_frames, start_process}
use Rattle.b67_table.specs.References.{invalid, cell_place, cell_word, couple_cell, cell_of, named, reached, popped, popped_two, operand_in}
use Rattle.b67_table.specs.Rows.{TableRow, private_part, action, branch_turn, value_pushed, value_or_entry, value_call, loaded, load_value, is_passed, load_through, cell_or_entry, evaluate, after_store, kept_words, store_by, store, level_below, enter_procedure, enter_by, marked, enter, is_result, return_value, acts, plain_row, row}
use Rattle.b67_table.specs.PrivateRows.{branch, is_taken}
use Rattle.b67_table.specs.Table.{raw, table, program_by, by_row, by_operator, by_registers, operator_at, stack_length}
use Rattle.b67_table.specs.Ending.{failed}
use Rattle.b67_table.specs.Beginning.{first_image}
use Rattle.b67_table.specs.Runs.{Plains, stay, go, ProcessActs, Runs, begin, Tails, none, next, TableRun}
use Rattle.b67_table.specs.Runs as runs
use Rattle.b67_table.proofs.Keeping.{Gives, then_gives, anything}
use Rattle.b67_table.proofs.Finding.{look_then, see_then, test_then, gives_by, there_found, anything_found}
use Rattle.b67_table.proofs.Limit.{new_of}

module _ (P : List ℕ → Type 0) where
  -- each line of the output is such a one after the change, where each was before it
  record Adds (change : Change) : Type 0 where
    on : (p : ℕ) (img : Image) → All P img.output → All P ((changed p change img).output)

  -- ---- changes

  -- a write of no line
  still : (w : Write) (rest : Change) → ((p : ℕ) (img : Image) → (write_made p w img).output ≡ img.output) → Adds rest → Adds (write_on w rest)
  still w rest e k = record { on = λ p img h. k.on p (write_made p w img) (subst (All P) (sym (e p img)) h) }

  line_adds : (bytes : List ℕ) (rest : Change) → P bytes → Adds rest → Adds (line bytes rest)
  line_adds bytes rest is k = record { on = λ p img h. k.on p (write_made p (writes.line bytes) img) (All-push P img.output bytes h is) }

  ends : Adds done
  ends = record { on = λ p img h. h }

  set_adds : (s : Registers) → Adds (registers s done)
  set_adds s = still (writes.registers s) done (λ p img. refl) ends

  cut_adds : (stack n : ℕ) (rest : Change) → Adds rest → Adds (cut stack n rest)
  cut_adds stack n rest k = still (writes.cut stack n) rest (λ p img. refl) k

  push_adds : (stack : ℕ) (w : Word) (rest : Change) → Adds rest → Adds (push stack w rest)
  push_adds stack w rest k = still (writes.push stack w) rest (λ p img. refl) k

  pushed_adds : (stack : ℕ) (words : List Word) (rest : Change) → Adds rest → Adds (pushed stack words rest)
  pushed_adds stack [] rest k = k
  pushed_adds stack (w ∷ words) rest k = push_adds stack w (pushed stack words rest) (pushed_adds stack words rest k)

  closed_adds : (o : Option Descriptor) (closes : Descriptor → Change → Change) → ((d : Descriptor) (more : Change) → Adds more → Adds (closes d more)) →
      (rest : Change) → Adds rest → Adds (closed_by o closes rest)
  closed_adds None closes c rest k = k
  closed_adds (Some d) closes c rest k = by d.copy
    where
      by : (b : Bool) → Adds (cond b rest (closes d rest))
      by true = k
      by false = c d rest k

  row_closed_adds : (n : ℕ) (rest : Change) → Adds rest → Adds (close_row n rest)
  row_closed_adds n rest k = still (writes.close_row n) rest (λ p img. refl) k

  rows_closed_adds : (words : List Word) (rest : Change) → Adds rest → Adds (rows_closed words rest)
  rows_closed_adds [] rest k = k
  rows_closed_adds (w ∷ words) rest k =
      closed_adds (as_descriptor w) (λ d more. close_row d.address more) (λ d more j. row_closed_adds d.address more j) (rows_closed words rest) (rows_closed_adds words rest k)

  array_closed_adds : (d : Descriptor) (rest : Change) → Adds rest → Adds (array_closed d rest)
  array_closed_adds d rest k = by d.mother
    where
      all_rows : Adds (row_of d.address (λ (found : Option Row). rows_closed (row_words_or found) (close_row d.address rest)))
      all_rows = record {
        on = λ p img h.
            (rows_closed_adds (row_words_or (told img (questions.row d.address))) (close_row d.address rest) (row_closed_adds d.address rest k)).on p img h;
      }

      by : (b : Bool) → Adds (cond b (row_of d.address (λ (found : Option Row). rows_closed (row_words_or found) (close_row d.address rest))) (close_row d.address rest))
      by true = all_rows
      by false = row_closed_adds d.address rest k

  arrays_closed_adds : (words : List Word) (rest : Change) → Adds rest → Adds (arrays_closed words rest)
  arrays_closed_adds [] rest k = k
  arrays_closed_adds (w ∷ words) rest k = closed_adds (as_descriptor w) array_closed array_closed_adds (arrays_closed words rest) (arrays_closed_adds words rest k)

  frame_left_adds : (stack f : ℕ) (cells : List Word) (rest : Change) → Adds rest → Adds (frame_left stack f cells rest)
  frame_left_adds stack f cells rest k =
      arrays_closed_adds cells (close_events stack f rest) (still (writes.close_events stack f) rest (λ p img. refl) k)

  frames_left_adds : (stack : ℕ) (words : List Word) (fs : List Passed) (rest : Change) → Adds rest → Adds (frames_left stack words fs rest)
  frames_left_adds stack words [] rest k = k
  frames_left_adds stack words (f ∷ fs) rest k =
      frame_left_adds stack f.frame (take f.cells (drop (f.frame + 2) words)) (frames_left stack words fs rest) (frames_left_adds stack words fs rest k)

  caused_adds : (o : Option Place) (rest : Change) → Adds rest → Adds (caused_by o rest)
  caused_adds None rest k = k
  caused_adds (Some task) rest k = still (writes.event_deed (deeds.acts act.Cause) task) rest (λ p img. refl) k

  opened_adds : (count : ℕ) (counts : Bool) (more : ℕ → Change) → ((n : ℕ) → Adds (more n)) → Adds (open_row count counts more)
  opened_adds count counts more k = record {
    on = λ p img h. (k (told img questions.free_row)).on p (write_made p (writes.open_row (told img questions.free_row) count counts) img) h;
  }

  rows_made_adds : (k mother from n : ℕ) (rest : Change) → Adds rest → Adds (rows_made k mother from n rest)
  rows_made_adds zero mother from n rest k = k
  rows_made_adds (suc m) mother from n rest k =
      opened_adds n true (λ (address : ℕ). write_row mother from (array_word false n address) (rows_made m mother (from + 1) n rest)) (λ address.
      still (writes.write_row mother from (array_word false n address)) (rows_made m mother (from + 1) n rest) (λ p img. refl)
      (rows_made_adds m mother (from + 1) n rest k))

  array_made_adds : (e : Extents) (rest : Word → Change) → ((w : Word) → Adds (rest w)) → Adds (array_made e rest)
  array_made_adds (one n) rest k = opened_adds n true (λ (address : ℕ). rest (array_word false n address)) (λ address. k (array_word false n address))
  array_made_adds (two m n) rest k =
      opened_adds m false (λ (address : ℕ). rows_made m address 0 n (rest (array_word true m address))) (λ address.
      rows_made_adds m address 0 n (rest (array_word true m address)) (k (array_word true m address)))

  arrays_made_adds : (k : ℕ) (e : Extents) (made : List Word) (rest : List Word → Change) → ((words : List Word) → Adds (rest words)) → Adds (arrays_made k e made rest)
  arrays_made_adds zero e made rest k = k made
  arrays_made_adds (suc m) e made rest k =
      array_made_adds e (λ (w : Word). arrays_made m e (made ++ w ∷ []) rest) (λ w. arrays_made_adds m e (made ++ w ∷ []) rest k)

  module _ (code : Code) (makes : (zs : List ℤ) (bytes : List ℕ) → line_for code zs ≡ Some bytes → P bytes) (img : Image) (r : Registers) (after : ℕ) where
    abbrev Good : Program → Type 0
    Good program = Gives Adds (asked img program)

    see_any : {A : Type 0} (l : Look A) (f : A → Program) → ((a : A) → Good (f a)) → Good (see l >>= f)
    see_any l f k = see_then img (λ a. Unit {0}) Adds l f (anything_found (look_seen img.stacks l)) (λ a u. k a)

    test_any : {A : Type 0} (t : Test A) (f : A → Program) → ((a : A) → Good (f a)) → Good (t >>= f)
    test_any t f k = test_then img (λ a. Unit {0}) Adds t f (anything (asked img t)) (λ a u. k a)

    replaced_adds : (n : ℕ) (w : Word) → Adds (replaced r after n w)
    replaced_adds n w = cut_adds r.stack (r.s - n) _ (push_adds r.stack w _ (set_adds (record r { s = r.s - n + 1; place = after })))

    -- ---- reading and storing

    dropped_adds : (to : ℕ) → Adds (dropped r to 1)
    dropped_adds to = cut_adds r.stack (r.s - 1) _ (set_adds (record r { s = r.s - 1; place = to }))

    turn_adds : (kind : BranchKind) (target : ℕ) → Good (branch_turn kind target r after)
    turn_adds Brun target = set_adds (record r { place = target })
    turn_adds Brfl target = see_any (popped r >-> operand_in) _ (λ w. dropped_adds (cond (is_taken Brfl w.bits) target after))
    turn_adds Brtr target = see_any (popped r >-> operand_in) _ (λ w. dropped_adds (cond (is_taken Brtr w.bits) target after))

    accidental_adds : (taken : ℕ) (pcw : Pcw) (home : Place) (selector : ℕ) → Good (accidental r after taken pcw home selector)
    accidental_adds taken pcw home selector =
        see_any (entering r after (nat_lt r.f (r.s - taken)) (r.s - taken) pcw (Some home)) _ (λ e.
        cut_adds r.stack (r.s - taken) _ (push_adds r.stack (entered_mark e.home (r.s - taken - r.f)) _ (push_adds r.stack (control_word r after pcw.level) _
        (pushed_adds r.stack (selected pcw.names selector) _
        (set_adds (entered r (r.s - taken + 2 + length (selected pcw.names selector)) (r.s - taken) pcw e 0))))))

    value_pushed_adds : (w : Word) → Good (value_pushed r after w)
    value_pushed_adds w = push_adds r.stack w _ (set_adds (record r { s = r.s + 1; place = after }))

    value_or_entry_adds : (w : Reached) (o : Option Pcw) → Good (value_or_entry r after w o)
    value_or_entry_adds w None = see_any (operand_in w.word) _ (λ v. value_pushed_adds v)
    value_or_entry_adds w (Some pcw) = gives_by img Adds pcw.intrinsic (see invalid) _ (λ b. tt) (λ b. accidental_adds 0 pcw w.cell.frame 0)

    value_adds : (couple : Couple) → Good (value_call couple r after)
    value_adds couple = see_any (reached (couple_cell r couple.level couple.index)) _ (λ w. value_or_entry_adds w (as_pcw w.word))

    replace_operand : (n : ℕ) (w : Word) → Good (see (operand_in w) >>= (λ (x : Word). answer (replaced r after n x)))
    replace_operand n w = see_any (operand_in w) _ (λ v. replaced_adds n v)

    load_adds : Good (load_value r after)
    load_adds = see_any (popped r) _ (λ x. test_any (loaded r x (as_indexed x)) _ (λ w. replace_operand 1 w))

    through_adds : Good (load_through r after)
    through_adds =
        see_any (popped r >-> (λ (x : Word). named (cell_of r x))) _ (λ w. gives_by img Adds (is_passed w.word) _ (see invalid) (λ b. replaced_adds 1 w.word) (λ b. tt))

    cell_or_entry_adds : (w : Reached) (o : Option Pcw) → Good (cell_or_entry r after w o)
    cell_or_entry_adds w (Some pcw) = gives_by img Adds pcw.names _ (fault NotAVariable) (λ b. accidental_adds 1 pcw w.cell.frame 1) (λ b. tt)
    cell_or_entry_adds w None = see_any (operand_in w.word) _ (λ v. replaced_adds 1 (cell_word w.cell))

    evaluate_adds : Good (evaluate r after)
    evaluate_adds = see_any (popped r >-> (λ (x : Word). reached (cell_of r x))) _ (λ w. cell_or_entry_adds w (as_pcw w.word))

    after_adds : (keeps : Bool) (x : Word) → Adds (after_store keeps r after x (registers (record r { s = r.s - 2 + kept_words keeps; place = after }) done))
    after_adds false x = cut_adds r.stack (r.s - 2) _ (set_adds (record r { s = r.s - 2 + 0; place = after }))
    after_adds true x = cut_adds r.stack (r.s - 2) _ (push_adds r.stack x _ (set_adds (record r { s = r.s - 2 + 1; place = after })))

    store_by_adds : (keeps : Bool) (x y : Word) (o : Option Descriptor) → Good (store_by keeps r after x y o)
    store_by_adds keeps x y (Some d) =
        test_any (element d.address d.length) _ (λ old. still (writes.write_row d.address d.length x) _ (λ p img. refl) (after_adds keeps x))
    store_by_adds keeps x y None =
        see_any (named (cell_of r y)) _ (λ w. see_any (operand_in w.word) _ (λ old. still (writes.save (cell_place w.cell) x) _ (λ p img. refl) (after_adds keeps x)))

    store_adds : (keeps : Bool) → Good (store keeps r after)
    store_adds keeps = see_any (popped_two r) _ (λ t. see_any (operand_in t.x) _ (λ x. store_by_adds keeps x t.y (as_indexed t.y)))

    index_adds : Good (index_program r after)
    index_adds =
        see_any (subscripted r false) _ (λ t. test_any (index_or_fault (index_in t.subscript t.array.length)) _ (λ n.
        replaced_adds 2 (descriptor_word (record t.array { copy = true; indexed = true; length = n }))))

    index_and_load_adds : Good (index_and_load r after)
    index_and_load_adds = test_any (subscripted_element r false) _ (λ w. replace_operand 2 w)

    index_mother_adds : Good (index_mother r after)
    index_mother_adds =
        test_any (subscripted_element r true) _ (λ w. see_any (valid (as_descriptor w)) _ (λ d. replaced_adds 2 (descriptor_word (record d { copy = true }))))

    -- ---- entry and leaving

    entry_adds : (df : ℕ) (pcw : Pcw) (home : Option Place) → Good (entry r after df pcw home)
    entry_adds df pcw home =
        see_any (entering r after (nat_le (r.s - (r.f + 2)) most_cells) r.f pcw home) _ (λ e.
        still (writes.save (place r.stack r.f) (entered_mark e.home df)) _ (λ p img. refl)
        (still (writes.save (place r.stack (r.f + 1)) (control_word r after pcw.level)) _ (λ p img. refl)
        (set_adds (entered r r.s r.f pcw e (r.s - (r.f + 2))))))

    not_critical_adds : (stack : ℕ) (frames : List ℕ) (more : Program) → Good more → Good (if_not_critical stack frames more)
    not_critical_adds stack frames more k =
        gives_by img Adds (is_critical stack frames (told img questions.criticals)) (fault CriticalBlockExit) more (λ b. tt) (λ b. k)

    leave_base_adds : (cells : List Word) → Good (leave_base r cells after)
    leave_base_adds cells =
        not_critical_adds r.stack (0 ∷ []) _ (frame_left_adds r.stack 0 cells _ (still (writes.registers (record r { place = after })) _ (λ p img. refl)
        (caused_adds r.task (end_process r.stack done) (still (writes.end_process r.stack) done (λ p img. refl) ends))))

    leave_other_adds : (cells : List Word) (f : ℕ) (words : List Word) → Good (leave_other r cells f words)
    leave_other_adds cells f words =
        see_any (leaving (place r.stack f)) _ (λ l.
        not_critical_adds r.stack (f ∷ []) _ (frame_left_adds r.stack f cells _ (cut_adds r.stack f _ (pushed_adds r.stack words _
        (set_adds (registers_left r (f + length words) f l))))))

    leave_adds : (words : List Word) → Good (leave r after words)
    leave_adds words = gives_by img Adds (nat_eq (frame r) 0) _ _ (λ b. leave_base_adds _) (λ b. leave_other_adds _ (frame r) words)

    return_adds : Good (return_value r after)
    return_adds =
        see_any (popped r) _ (λ x. gives_by img Adds (is_result x && not (nat_eq (frame r) 0)) _ (see invalid) (λ b. leave_adds (x ∷ [])) (λ b. tt))

    -- ---- intrinsics

    module _ (m : Mscw) where
      chained_adds : (more : Program) → Good more → Good (if_chained r m more)
      chained_adds more k = see_any (cond (nat_le m.df r.f) (mark_at (place r.stack (r.f - m.df))) chain_broken) (λ (lower : Mscw). more) (λ lower. k)

      finished_adds : (words : List Word) (pointer : ℕ) → Adds (finished_at r m words pointer)
      finished_adds words pointer =
          cut_adds r.stack r.f _ (pushed_adds r.stack words _ (set_adds (record r { s = r.f + length words; f = r.f - m.df; place = pointer })))

      gone_adds : (t : Target) (passing : Passing) (display : List (Option Place)) (words : List Word) → Adds (gone_to r t passing display words)
      gone_adds t passing display words =
          frames_left_adds r.stack words passing.frames _ (cut_adds r.stack (t.frame.at + 2 + passing.cells) _ (set_adds (record r {
            s = t.frame.at + 2 + passing.cells;
            f = t.frame.at;
            ll = t.level;
            display = display;
            cells = passing.cells;
            segment = t.segment;
            place = t.pointer;
          })))

      go_to_adds : (words : List Word) → Good (go_to code r after m words)
      go_to_adds words =
          see_any (three words) _ (λ z. see_any (target_of r z) _ (λ t. see_any (passed_by r t.frame) _ (λ passing. see_any (rebuilt t.frame t.level) _ (λ display.
          gives_by img Adds (nat_eq t.frame.stack r.stack) _ (fault BadGoTo) (λ b.
          not_critical_adds r.stack (passed_frames passing.frames) _ (gone_adds t passing display _)) (λ b. tt)))))

      case_adds : (o : Option ℕ) → Good (gone_to_case r m o)
      case_adds None = tt
      case_adds (Some to) = finished_adds [] to

      select_adds : (words : List Word) → Good (select code r after m words)
      select_adds words =
          see_any (three words) _ (λ z. see_any (case_place z.third (case_in z.first z.second)) _ (λ to. chained_adds (gone_to_case r m to) (case_adds to)))

      arrays_adds : (words : List Word) → Good (arrays code r after m words)
      arrays_adds words =
          see_any (wholes words >-> intrinsic_wanted) _ (λ w. chained_adds _ (test_any (extents w.bounds) _ (λ e. test_any (if_held w.count e) _ (λ held.
          arrays_made_adds w.count held [] (λ (made : List Word). finished_at r m made after) (λ made. finished_adds made after)))))

      write_adds : (words : List Word) → Good (write code r after m words)
      write_adds words =
          see_then img P Adds (wholes words >-> (λ (zs : List ℤ). valid (line_for code zs))) _
          (look_then img.stacks (λ (zs : List ℤ). Unit {0}) P (wholes words) _ (anything_found (look_seen img.stacks (wholes words)))
          (λ zs u. there_found img.stacks P InvalidOperand (line_for code zs) (makes zs)))
          (λ bytes is. chained_adds _ (line_adds bytes _ is (finished_adds [] after)))

      make_event_adds : (words : List Word) → Good (make_event code r after m words)
      make_event_adds [] =
          chained_adds _ (still (writes.open_event (place r.stack r.f)) _ (λ p img. refl) (finished_adds (event_word (record {}) ∷ []) after))
      make_event_adds (w ∷ words) = tt

      on_event_adds : (x : EventDeed) (words : List Word) → Good (on_event x code r after m words)
      on_event_adds x [] = tt
      on_event_adds x (w ∷ []) =
          test_any (event_of r w) _ (λ c. chained_adds _ (still (writes.event_deed x (cell_place c)) (finished_at r m [] after) (λ p img. refl) (finished_adds [] after)))
      on_event_adds x (w ∷ y ∷ words) = tt

      tell_adds : (x : EventTest) (words : List Word) → Good (tell_event x code r after m words)
      tell_adds x [] = tt
      tell_adds x (w ∷ []) = test_any (event_of r w) _ (λ c. chained_adds _ (still (writes.event_deed (deeds.tests x) (cell_place c)) _ (λ p img. refl)
          (finished_adds (truth (told img (questions.event_answer x (cell_place c))) ∷ []) after)))
      tell_adds x (w ∷ y ∷ words) = tt

      gone_on_adds : (n : ℕ) → Adds (gone_on r after m n)
      gone_on_adds n = finished_adds (operand (pos n) ∷ []) after

      waiting_adds : (places : List Place) (o : Option ℕ) → Good (gone_or_waiting r after m places o)
      waiting_adds places None = still (writes.wait_any places) done (λ p img. refl) ends
      waiting_adds places (Some n) = gone_on_adds n

      woken_adds : (places : List Place) (n : ℕ) → Good (woken_or_not r after m places n)
      woken_adds places zero = waiting_adds places (told img (questions.first_happened places))
      woken_adds places (suc n) = still writes.go_on (gone_on r after m (suc n)) (λ p img. refl) (gone_on_adds (suc n))

      several_adds : (words : List Word) → Good (wait_for_any code r after m words)
      several_adds words =
          gives_by img Adds (nat_le 1 (length words) && nat_le (length words) most_events) _ no_such
          (λ b. test_any (events_of r words) _ (λ places. chained_adds _ (woken_adds places (told img (questions.woken r.stack))))) (λ b. tt)

      start_adds : (words : List Word) → Good (start_process code r after m words)
      start_adds words =
          test_any (starting r words) _ (λ t. chained_adds _ (see_any (first_display (img.started + 1) t) _ (λ display.
          test_any (on_path r.stack (t.home ∷ frames_with t.task (named_frames t.parameters)) (place r.stack (frame r))) _ (λ c.
          gives_by img Adds (nat_lt img.started most_processes) _ (fault ProcessLimit)
          (λ b. still (writes.start (process_begun (img.started + 1) t display c) (first_words t)) _ (λ p img. refl) (finished_adds [] after)) (λ b. tt)))))

      intrinsic_by : (name : Intrinsic) (words : List Word) → Good (row_of_intrinsic name code r after m words)
      intrinsic_by names.GoTo words = go_to_adds words
      intrinsic_by names.Select words = select_adds words
      intrinsic_by names.Arrays words = arrays_adds words
      intrinsic_by names.Event words = make_event_adds words
      intrinsic_by names.Start words = start_adds words
      intrinsic_by names.Write words = write_adds words
      intrinsic_by names.Wait words = on_event_adds (deeds.acts act.Wait) words
      intrinsic_by names.Cause words = on_event_adds (deeds.acts act.Cause) words
      intrinsic_by names.Reset words = on_event_adds (deeds.acts act.Reset) words
      intrinsic_by names.Happened words = tell_adds test.Happened words
      intrinsic_by names.Procure words = on_event_adds (deeds.acts act.Procure) words
      intrinsic_by names.Liberate words = on_event_adds (deeds.acts act.Liberate) words
      intrinsic_by names.WaitAny words = several_adds words
      intrinsic_by names.CauseAndReset words = on_event_adds (deeds.acts act.CauseAndReset) words
      intrinsic_by names.Available words = tell_adds test.Available words
      intrinsic_by names.Fix words = tell_adds test.Fix words

      named_by : (o : Option Intrinsic) (words : List Word) → Good (intrinsic_row o code r after m words)
      named_by None words = tt
      named_by (Some name) words = intrinsic_by name words

      procedure_adds : (pcw : Pcw) (home : Option Place) → Good (enter_procedure code r after m pcw home)
      procedure_adds pcw home =
          gives_by img Adds pcw.intrinsic _ _
          (λ b. named_by (intrinsic_numbered pcw.number) (take (r.s - (r.f + 2)) (drop (r.f + 2) (words_of img.stacks r.stack)))) (λ b. entry_adds m.df pcw home)

      entered_by : (w : Word) (o : Option Cell) → Good (enter_by code r after m w o)
      entered_by w None = see_any (valid (as_pcw w)) _ (λ pcw. procedure_adds pcw (level_below r pcw.level))
      entered_by w (Some c) = see_any (reached (Some c)) _ (λ v. see_any (valid (as_pcw v.word)) _ (λ pcw. procedure_adds pcw (Some v.cell.frame)))

    enter_adds : Good (enter code r after)
    enter_adds =
        see_any (marked r) _ (λ m. see_any (at (place r.stack (r.f + 1)) (λ (w : Option Word). valid w)) _ (λ above. entered_by m above (cell_of r above)))

    -- ---- every operator

    plain_adds : (kind : PlainKind) → Good (program_by (plain_row kind) code r after)
    plain_adds kinds.Exit = leave_adds []
    plain_adds kinds.Nxln = index_mother_adds
    plain_adds kinds.Indx = index_adds
    plain_adds kinds.Retn = return_adds
    plain_adds kinds.Entr = enter_adds
    plain_adds kinds.Eval = evaluate_adds
    plain_adds kinds.Nxlv = index_and_load_adds
    plain_adds kinds.Stod = store_adds false
    plain_adds kinds.Ston = store_adds true
    plain_adds kinds.Lodt = through_adds
    plain_adds kinds.Load = load_adds
    plain_adds kinds.Add = tt
    plain_adds kinds.Subt = tt
    plain_adds kinds.Mult = tt
    plain_adds kinds.Divd = tt
    plain_adds kinds.Idiv = tt
    plain_adds kinds.Rdiv = tt
    plain_adds kinds.Less = tt
    plain_adds kinds.Greq = tt
    plain_adds kinds.Grtr = tt
    plain_adds kinds.Lseq = tt
    plain_adds kinds.Equl = tt
    plain_adds kinds.Neql = tt
    plain_adds kinds.Chsn = tt
    plain_adds kinds.Land = tt
    plain_adds kinds.Lor = tt
    plain_adds kinds.Lnot = tt
    plain_adds kinds.Leqv = tt
    plain_adds kinds.Mkst = tt
    plain_adds kinds.Stff = tt
    plain_adds kinds.Zero = tt
    plain_adds kinds.One = tt
    plain_adds kinds.Push = tt
    plain_adds kinds.Dlet = tt
    plain_adds kinds.Exch = tt
    plain_adds kinds.Dupl = tt
    plain_adds kinds.Noop = tt

    branch_adds : (b : Bool) (kind : BranchKind) (target : ℕ) → Good (program_by (cond b (private_part (branch kind target)) (acts (branch_turn kind target))) code r after)
    branch_adds true kind target = tt
    branch_adds false kind target = turn_adds kind target

    op_adds : (op : Operator) → Good (program_by (row op r.place) code r after)
    unfolding row
    op_adds (ops.Valc couple) = value_adds couple
    op_adds (ops.Namc couple) = tt
    op_adds (ops.Lt8 n) = tt
    op_adds (ops.Lt16 n) = tt
    op_adds (ops.Lt48 n) = tt
    op_adds (ops.Mpcw n) = tt
    op_adds (ops.Branch kind target) = branch_adds (nat_lt r.place target) kind target
    op_adds (ops.Plain kind) = plain_adds kind

  -- ---- what the table gives

  module _ (code : Code) (makes : (zs : List ℤ) (bytes : List ℕ) → line_for code zs ≡ Some bytes → P bytes) where
    abbrev Written : Image → Type 0
    Written img = All P img.output

    gives_on : (p : ℕ) (img : Image) (e : Effect Change) → Gives Adds e → Written img → Gives Written (effect_of p img e)
    gives_on p img (gives c) k h = k.on p img h
    gives_on p img (faults kind) k h = tt
    gives_on p img (interrupts kind) k h = tt

    by_rows : (p : ℕ) (img : Image) (r : Registers) (after : ℕ) (w : TableRow) → Gives Adds (asked img (program_by w code r after)) → Written img →
        Gives Written (by_row w code img p r after)
    by_rows p img r after (private_part change) k h =
        then_gives (λ (part : Private). Unit {0}) Written (change after (private_of img r)) _ (anything (change after (private_of img r))) (λ part u. h)
    by_rows p img r after (action program) k h = gives_on p img (asked img (program code r after)) k h

    by_fetch : (p : ℕ) (img : Image) (r : Registers) (f : Result (Operator × ℕ) BadCode) → Written img → Gives Written (by_operator code img p r f)
    by_fetch p img r (Err x) h = tt
    by_fetch p img r (Ok x) h = by_rows p img r x.1 (row x.0 r.place) (op_adds code makes img r x.1 x.0) h

    by_process : (p : ℕ) (img : Image) (o : Option Registers) → Written img → Gives Written (by_registers code img p o)
    by_process p img None h = tt
    by_process p img (Some r) h = by_fetch p img r (operator_at code r) h

    raw_writes : (p : ℕ) (img : Image) → Written img → Gives Written (raw code img p)
    unfolding raw
    raw_writes p img h = by (is_live (numbered img.states p))
      where
        by : (b : Bool) → Gives Written (cond b (by_registers code img p (numbered img.regs p)) (interrupts bad_code))
        by true = by_process p img (numbered img.regs p) h
        by false = tt

    table_writes : (p : ℕ) (img new : Image) → table code img p ≡ outcomes.gives new → Written img → Written new
    unfolding table
    table_writes p img new t h = subst (Gives Written) ((new_of (stack_length p) (raw code img p) new t).0) (raw_writes p img h)

    -- ---- runs

    plains_write : {p n : ℕ} {a b : Image} → Plains code p a n b → Written a → Written b
    plains_write stay h = h
    plains_write (go is t more) h = plains_write more (table_writes _ _ _ t h)

    acts_write : {p : ℕ} {a b : Image} → ProcessActs code p a b → Written a → Written b
    unfolding failed
    acts_write (runs.acts is t) h = table_writes _ _ _ t h
    acts_write (runs.fails kind t) h = h

    runs_write : {h counts : List ℕ} {img : Image} → Runs code h counts img → Written img
    unfolding first_image
    runs_write begin = All-nil P
    runs_write (runs.entry before e) = acts_write e.action (plains_write e.plains (runs_write before))

    tails_write : {p : ℕ} {a b : Image} {tails : List ℕ} → Tails code p a tails b → Written a → Written b
    tails_write none h = h
    tails_write (next plains more) h = tails_write more (plains_write plains h)

    pub run_writes : {schedule tails : List ℕ} {img : Image} → TableRun code schedule tails img → Written img
    run_writes run = tails_write run.after (runs_write run.runs)
