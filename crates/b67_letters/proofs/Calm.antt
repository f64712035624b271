-- Changes that keep the states of all processes, and the rows that do no others.
use Rattle.std.specs.Prelude.{nat_eq, nat_le, nat_lt}
use Rattle.std.proofs.Common.{◌≡◌, refl, ℕ, zero, suc, ◌+◌, ◌-◌, ◌&&◌, not, Bool, true, false, cond, ℤ, List, [], ◌∷◌, ◌++◌, length, take, drop, Option, Some, None}
use Rattle.b67_num.specs.declared.FaultKind.TheVariants.{CriticalBlockExit, BadGoTo, NotAVariable, ProcessLimit}
use Rattle.b67_word.specs.declared.Place.{Place}
use Rattle.b67_word.specs.Word.{Word, truth}
use Rattle.b67_control.specs.declared.Registers.{Registers}
use Rattle.b67_control.specs.declared.Mscw.{Mscw}
use Rattle.b67_control.specs.declared.Pcw.{Pcw}
use Rattle.b67_control.specs.declared.Descriptor.{Descriptor}
use Rattle.b67_control.specs.Control.{as_pcw, as_descriptor}
use Rattle.b67_ops.specs.declared.BranchKind.{BranchKind}
use Rattle.b67_ops.specs.declared.BranchKind.TheVariants.{Brfl, Brtr, Brun}
use Rattle.b67_ops.specs.declared.Couple.{Couple}
use Rattle.b67_segment.specs.declared.code.Code.{Code}
use Rattle.b67_store.specs.Store.{Row, row_words_or}
use Rattle.b67_deeds.specs.declared.EventTest.{EventTest}
use Rattle.b67_deeds.specs.Deeds.{EventDeed, tests}
use Rattle.b67_table.specs.declared.Reached.{Reached}
use Rattle.b67_table.specs.Limits.{most_cells, most_processes, most_events}
use Rattle.b67_table.specs.Private.{frame}
use Rattle.b67_table.specs.Look.{◌>->◌, valid}
use Rattle.b67_table.specs.Chains.{place, chain_broken, mark_at, rebuilt}
use Rattle.b67_table.specs.References.{cell_place, couple_cell, cell_of, named, reached, popped, popped_two, operand_in, invalid}
use Rattle.b67_table.specs.Image.{Image}
use Rattle.b67_table.specs.Questions.{AnswerTo, told}
use Rattle.b67_table.specs.Questions as questions
use Rattle.b67_table.specs.Writes.{write_made}
use Rattle.b67_table.specs.Writes as writes
use Rattle.b67_table.specs.Program.{Test, answer, interrupt, fault, ask, ◌>>=◌, asked, see, Change, done, look_up, write, changed, registers, row_of, close_row, close_events, event_deed, wait_any, go_on, change_start, Program}
use Rattle.b67_table.specs.Moves.{pushed}
use Rattle.b67_table.specs.Linkage.{entering, selected, entry, accidental, closed_by, rows_closed, array_closed, arrays_closed, is_critical, if_not_critical, leaving, leave_base, leave_other}
use Rattle.b67_table.specs.Arrays.{as_indexed, element, index_in, index_or_fault, subscripted, subscripted_element, index_program, index_and_load, index_mother, Extents, one, two}
use Rattle.b67_table.specs.Arrays.{array_word, rows_made, array_made, arrays_made, if_held}
use Rattle.b67_table.specs.Arguments.{no_such, three, wholes, event_of, events_of, if_chained, finished_at}
use Rattle.b67_table.specs.GoingTo.{Passed, target_of, passed_by, frames_left, passed_frames, go_to}
use Rattle.b67_table.specs.Intrinsics.{case_in, case_place, gone_to_case, select, intrinsic_wanted, extents, arrays, write as write_line, make_event, on_event, tell_event, gone_on, gone_or_waiting, woken_or_not, wait_for_any}
use Rattle.b67_table.specs.Lines.{line_for}
use Rattle.b67_table.specs.Starting.{starting, first_display, named_frames, frames_with, on_path, start_process}
use Rattle.b67_table.specs.Rows.{turn_by, branch_turn, value_or_entry, value_call, loaded, load_value, is_passed, load_through, cell_or_entry, evaluate, after_store, store_by, store, is_result, return_value}
use Rattle.b67_table.proofs.Keeping.{Gives}

-- ---- changes

-- a change that does nothing with events that are open, waits for none, ends no process, and starts none
abbrev pub Calm : Change → Type 0
Calm done = Unit {0}
Calm (look_up q more) = (a : AnswerTo q) → Calm (more a)
Calm (write (writes.save place w) next) = Calm next
Calm (write (writes.cut stack n) next) = Calm next
Calm (write (writes.push stack w) next) = Calm next
Calm (write (writes.registers r) next) = Calm next
Calm (write (writes.open_row n count counted) next) = Calm next
Calm (write (writes.write_row n at w) next) = Calm next
Calm (write (writes.close_row n) next) = Calm next
Calm (write (writes.open_event place) next) = Calm next
Calm (write (writes.close_events stack at) next) = Calm next
Calm (write (writes.event_deed x place) next) = ⊥
Calm (write (writes.wait_any places) next) = ⊥
Calm (write writes.go_on next) = Calm next
Calm (write (writes.line bytes) next) = Calm next
Calm (write (writes.start r words) next) = ⊥
Calm (write (writes.end_process stack) next) = ⊥

pub calm_keeps : (p : ℕ) (c : Change) (img : Image) → Calm c → ((changed p c img).states ≡ img.states) × ((changed p c img).started ≡ img.started)
calm_keeps p done img k = (refl, refl)
calm_keeps p (look_up q more) img k = calm_keeps p (more (told img q)) img (k (told img q))
calm_keeps p (write (writes.save place w) next) img k = calm_keeps p next (write_made p (writes.save place w) img) k
calm_keeps p (write (writes.cut stack n) next) img k = calm_keeps p next (write_made p (writes.cut stack n) img) k
calm_keeps p (write (writes.push stack w) next) img k = calm_keeps p next (write_made p (writes.push stack w) img) k
calm_keeps p (write (writes.registers r) next) img k = calm_keeps p next (write_made p (writes.registers r) img) k
calm_keeps p (write (writes.open_row n count counted) next) img k = calm_keeps p next (write_made p (writes.open_row n count counted) img) k
calm_keeps p (write (writes.write_row n at w) next) img k = calm_keeps p next (write_made p (writes.write_row n at w) img) k
calm_keeps p (write (writes.close_row n) next) img k = calm_keeps p next (write_made p (writes.close_row n) img) k
calm_keeps p (write (writes.open_event place) next) img k = calm_keeps p next (write_made p (writes.open_event place) img) k
calm_keeps p (write (writes.close_events stack at) next) img k = calm_keeps p next (write_made p (writes.close_events stack at) img) k
calm_keeps p (write (writes.event_deed x place) next) img k = absurd k
calm_keeps p (write (writes.wait_any places) next) img k = absurd k
calm_keeps p (write writes.go_on next) img k = calm_keeps p next (write_made p writes.go_on img) k
calm_keeps p (write (writes.line bytes) next) img k = calm_keeps p next (write_made p (writes.line bytes) img) k
calm_keeps p (write (writes.start r words) next) img k = absurd k
calm_keeps p (write (writes.end_process stack) next) img k = absurd k

-- ---- programs

-- each change that a program can come to has the property
abbrev pub Each : (Change → Type 0) → Program → Type 0
Each P (answer c) = P c
Each P (interrupt kind) = Unit {0}
Each P (fault kind) = Unit {0}
Each P (ask q more) = (a : AnswerTo q) → Each P (more a)

pub each_asked : (P : Change → Type 0) (img : Image) (t : Program) → Each P t → Gives P (asked img t)
each_asked P img (answer c) k = k
each_asked P img (interrupt kind) k = tt
each_asked P img (fault kind) k = tt
each_asked P img (ask q more) k = each_asked P img (more (told img q)) (k (told img q))

pub each_as : (P Q : Change → Type 0) → ((c : Change) → P c → Q c) → (t : Program) → Each P t → Each Q t
each_as P Q f (answer c) k = f c k
each_as P Q f (interrupt kind) k = tt
each_as P Q f (fault kind) k = tt
each_as P Q f (ask q more) k = λ a. each_as P Q f (more a) (k a)

pub each_then : {A : Type 0} (P : Change → Type 0) (t : Test A) (f : A → Program) → ((a : A) → Each P (f a)) → Each P (t >>= f)
each_then P (answer a) f k = k a
each_then P (interrupt kind) f k = tt
each_then P (fault kind) f k = tt
each_then P (ask q more) f k = λ a. each_then P (more a) f k

pub each_if : (P : Change → Type 0) (b : Bool) (t u : Program) → Each P t → Each P u → Each P (cond b t u)
each_if P true t u k l = k
each_if P false t u k l = l

pub each_critical : (P : Change → Type 0) (stack : ℕ) (frames : List ℕ) (t : Program) → Each P t → Each P (if_not_critical stack frames t)
each_critical P stack frames t k = λ places. each_if P (is_critical stack frames places) (fault CriticalBlockExit) t tt k

-- ---- the rows of frames

-- a property that closing rows keeps
module _ (C : Change → Type 0) (closes : (n : ℕ) (next : Change) → C next → C (close_row n next))
    (looks : (n : ℕ) (more : Option Row → Change) → ((row : Option Row) → C (more row)) → C (row_of n more)) where
  by_copy : (b : Bool) (next more : Change) → C next → C more → C (cond b next more)
  by_copy true next more k l = k
  by_copy false next more k l = l

  closed_has : (o : Option Descriptor) (close : Descriptor → Change → Change) (next : Change) → ((d : Descriptor) → C (close d next)) → C next → C (closed_by o close next)
  closed_has None close next k l = l
  closed_has (Some d) close next k l = by_copy d.copy next (close d next) l (k d)

  rows_have : (ws : List Word) (next : Change) → C next → C (rows_closed ws next)
  rows_have [] next k = k
  rows_have (w ∷ ws) next k =
      closed_has (as_descriptor w) (λ d more. close_row d.address more) (rows_closed ws next) (λ d. closes d.address (rows_closed ws next) (rows_have ws next k))
      (rows_have ws next k)

  array_has : (d : Descriptor) (next : Change) → C next → C (array_closed d next)
  array_has d next k =
      by_copy d.mother (row_of d.address (λ (row : Option Row). rows_closed (row_words_or row) (close_row d.address next))) (close_row d.address next)
      (looks d.address (λ (row : Option Row). rows_closed (row_words_or row) (close_row d.address next))
      (λ row. rows_have (row_words_or row) (close_row d.address next) (closes d.address next k)))
      (closes d.address next k)

  pub arrays_have : (ws : List Word) (next : Change) → C next → C (arrays_closed ws next)
  arrays_have [] next k = k
  arrays_have (w ∷ ws) next k =
      closed_has (as_descriptor w) array_closed (arrays_closed ws next) (λ d. array_has d (arrays_closed ws next) (arrays_have ws next k)) (arrays_have ws next k)

arrays_calm : (ws : List Word) (next : Change) → Calm next → Calm (arrays_closed ws next)
arrays_calm ws next k = arrays_have Calm (λ n more j. j) (λ n more j. j) ws next k

frames_calm : (stack : ℕ) (ws : List Word) (fs : List Passed) (next : Change) → Calm next → Calm (frames_left stack ws fs next)
frames_calm stack ws [] next k = k
frames_calm stack ws (f ∷ fs) next k =
    arrays_calm (take f.cells (drop (f.frame + 2) ws)) (close_events stack f.frame (frames_left stack ws fs next)) (frames_calm stack ws fs next k)

pushed_calm : (stack : ℕ) (ws : List Word) (s : Registers) → Calm (pushed stack ws (registers s done))
pushed_calm stack [] s = tt
pushed_calm stack (w ∷ ws) s = pushed_calm stack ws s

-- ---- operators on words

module _ (r : Registers) (next : ℕ) where
  accidental_calm : (taken : ℕ) (pcw : Pcw) (home : Place) (selector : ℕ) → Each Calm (accidental r next taken pcw home selector)
  accidental_calm taken pcw home selector =
      each_then Calm (see (entering r next (nat_lt r.f (r.s - taken)) (r.s - taken) pcw (Some home))) _ (λ e. pushed_calm r.stack (selected pcw.names selector) _)

  value_calm_by : (w : Reached) (o : Option Pcw) → Each Calm (value_or_entry r next w o)
  value_calm_by w None = each_then Calm (see (operand_in w.word)) _ (λ v. tt)
  value_calm_by w (Some pcw) = each_if Calm pcw.intrinsic (see invalid) (accidental r next 0 pcw w.cell.frame 0) tt (accidental_calm 0 pcw w.cell.frame 0)

  pub value_calm : (couple : Couple) → Each Calm (value_call couple r next)
  value_calm couple = each_then Calm (see (reached (couple_cell r couple.level couple.index))) _ (λ w. value_calm_by w (as_pcw w.word))

  pub load_calm : Each Calm (load_value r next)
  load_calm =
      each_then Calm (see (popped r)) _ (λ x. each_then Calm (loaded r x (as_indexed x)) _ (λ w. each_then Calm (see (operand_in w)) _ (λ v. tt)))

  pub through_calm : Each Calm (load_through r next)
  through_calm =
      each_then Calm (see (popped r >-> (λ (x : Word). named (cell_of r x)))) _ (λ w. each_if Calm (is_passed w.word) _ (see invalid) tt tt)

  cell_calm : (w : Reached) (o : Option Pcw) → Each Calm (cell_or_entry r next w o)
  cell_calm w None = each_then Calm (see (operand_in w.word)) _ (λ v. tt)
  cell_calm w (Some pcw) = each_if Calm pcw.names (accidental r next 1 pcw w.cell.frame 1) (fault NotAVariable) (accidental_calm 1 pcw w.cell.frame 1) tt

  pub evaluate_calm : Each Calm (evaluate r next)
  evaluate_calm = each_then Calm (see (popped r >-> (λ (x : Word). reached (cell_of r x)))) _ (λ w. cell_calm w (as_pcw w.word))

  after_calm : (keeps : Bool) (x : Word) (s : Registers) → Calm (after_store keeps r next x (registers s done))
  after_calm false x s = tt
  after_calm true x s = tt

  store_calm_by : (keeps : Bool) (x y : Word) (o : Option Descriptor) → Each Calm (store_by keeps r next x y o)
  store_calm_by keeps x y (Some d) = each_then Calm (element d.address d.length) _ (λ old. after_calm keeps x _)
  store_calm_by keeps x y None =
      each_then Calm (see (named (cell_of r y))) _ (λ w. each_then Calm (see (operand_in w.word)) _ (λ old. after_calm keeps x _))

  pub store_calm : (keeps : Bool) → Each Calm (store keeps r next)
  store_calm keeps =
      each_then Calm (see (popped_two r)) _ (λ t. each_then Calm (see (operand_in t.x)) _ (λ x. store_calm_by keeps x t.y (as_indexed t.y)))

  turn_calm_by : (kind : BranchKind) (target : ℕ) → Each Calm (turn_by kind target r next)
  turn_calm_by kind target = each_then Calm (see (popped r >-> operand_in)) _ (λ w. tt)

  pub turn_calm : (kind : BranchKind) (target : ℕ) → Each Calm (branch_turn kind target r next)
  turn_calm Brun target = tt
  turn_calm Brfl target = turn_calm_by Brfl target
  turn_calm Brtr target = turn_calm_by Brtr target

  pub index_calm : Each Calm (index_program r next)
  index_calm =
      each_then Calm (see (subscripted r false)) _ (λ t. each_then Calm (index_or_fault (index_in t.subscript t.array.length)) _ (λ n. tt))

  pub index_and_load_calm : Each Calm (index_and_load r next)
  index_and_load_calm = each_then Calm (subscripted_element r false) _ (λ w. each_then Calm (see (operand_in w)) _ (λ v. tt))

  pub index_mother_calm : Each Calm (index_mother r next)
  index_mother_calm = each_then Calm (subscripted_element r true) _ (λ w. each_then Calm (see (valid (as_descriptor w))) _ (λ d. tt))

  -- ---- frames

  pub entry_calm : (df : ℕ) (pcw : Pcw) (home : Option Place) → Each Calm (entry r next df pcw home)
  entry_calm df pcw home = each_then Calm (see (entering r next (nat_le (r.s - (r.f + 2)) most_cells) r.f pcw home)) _ (λ e. tt)

  pub other_calm : (cells : List Word) (f : ℕ) (ws : List Word) → Each Calm (leave_other r cells f ws)
  other_calm cells f ws =
      each_then Calm (see (leaving (place r.stack f))) _ (λ l.
      each_critical Calm r.stack (f ∷ []) _ (arrays_calm cells _ (pushed_calm r.stack ws _)))

  -- RETN leaves no base frame
  pub return_calm : Each Calm (return_value r next)
  return_calm =
      each_then Calm (see (popped r)) _ (λ x. by (is_result x) (nat_eq (frame r) 0) (λ cells. leave_base r cells next) (λ cells. leave_other r cells (frame r) (x ∷ []))
      (λ cells. other_calm cells (frame r) (x ∷ [])))
    where
      by : (a b : Bool) (base other : List Word → Program) → ((cells : List Word) → Each Calm (other cells))
          → Each Calm (cond (a && not b) (ask (questions.words (place r.stack (frame r + 2)) r.cells) (λ cells. cond b (base cells) (other cells))) (see invalid))
      by true true base other k = tt
      by true false base other k = k
      by false b base other k = tt

  -- ---- intrinsics

  module _ (m : Mscw) where
    each_chained : (P : Change → Type 0) (t : Program) → Each P t → Each P (if_chained r m t)
    each_chained P t k = each_then P (see (cond (nat_le m.df r.f) (mark_at (place r.stack (r.f - m.df))) chain_broken)) _ (λ lower. k)

    pub go_to_calm : (code : Code) (ws : List Word) → Each Calm (go_to code r next m ws)
    go_to_calm code ws =
        each_then Calm (see (three ws)) _ (λ z. each_then Calm (see (target_of r z)) _ (λ t. each_then Calm (see (passed_by r t.frame)) _ (λ q.
        each_then Calm (see (rebuilt t.frame t.level)) _ (λ display.
        each_if Calm (nat_eq t.frame.stack r.stack) _ (fault BadGoTo)
        (each_critical Calm r.stack (passed_frames q.frames) _ (λ stack. frames_calm r.stack stack q.frames _ tt)) tt))))

    case_calm : (o : Option ℕ) → Each Calm (gone_to_case r m o)
    case_calm None = tt
    case_calm (Some to) = tt

    pub select_calm : (code : Code) (ws : List Word) → Each Calm (select code r next m ws)
    select_calm code ws =
        each_then Calm (see (three ws)) _ (λ z. each_then Calm (see (case_place z.third (case_in z.first z.second))) _ (λ to.
        each_chained Calm (gone_to_case r m to) (case_calm to)))

    rows_calm : (k mother at n : ℕ) (more : Change) → Calm more → Calm (rows_made k mother at n more)
    rows_calm zero mother at n more h = h
    rows_calm (suc k) mother at n more h = λ address. rows_calm k mother (at + 1) n more h

    array_calm : (e : Extents) (f : Word → Change) → ((w : Word) → Calm (f w)) → Calm (array_made e f)
    array_calm (one n) f h = λ address. h (array_word false n address)
    array_calm (two k n) f h = λ address. rows_calm k address 0 n (f (array_word true k address)) (h (array_word true k address))

    made_calm : (k : ℕ) (e : Extents) (made : List Word) (f : List Word → Change) → ((ws : List Word) → Calm (f ws)) → Calm (arrays_made k e made f)
    made_calm zero e made f h = h made
    made_calm (suc k) e made f h = array_calm e (λ (w : Word). arrays_made k e (made ++ w ∷ []) f) (λ w. made_calm k e (made ++ w ∷ []) f h)

    pub arrays_row_calm : (code : Code) (ws : List Word) → Each Calm (arrays code r next m ws)
    arrays_row_calm code ws =
        each_then Calm (see (wholes ws >-> intrinsic_wanted)) _ (λ w. each_chained Calm _ (
        each_then Calm (extents w.bounds) _ (λ e. each_then Calm (if_held w.count e) _ (λ held.
        made_calm w.count held [] (λ (made : List Word). finished_at r m made next) (λ made. pushed_calm r.stack made _)))))

    pub write_calm : (code : Code) (ws : List Word) → Each Calm (write_line code r next m ws)
    write_calm code ws =
        each_then Calm (see (wholes ws >-> (λ (zs : List ℤ). valid (line_for code zs)))) _ (λ bytes. each_chained Calm _ tt)

    pub event_calm : (code : Code) (ws : List Word) → Each Calm (make_event code r next m ws)
    event_calm code [] = each_chained Calm _ tt
    event_calm code (w ∷ ws) = tt

    -- a property of each deed that is done with an event
    pub each_event : (P : Change → Type 0) (x : EventDeed) → ((at : Place) → P (event_deed x at (finished_at r m [] next))) → (code : Code) (ws : List Word)
        → Each P (on_event x code r next m ws)
    each_event P x h code [] = tt
    each_event P x h code (w ∷ []) = each_then P (event_of r w) _ (λ c. each_chained P _ (h (cell_place c)))
    each_event P x h code (w ∷ v ∷ ws) = tt

    -- and of each that tells what the event answers
    pub each_tell : (P : Change → Type 0) (x : EventTest) → ((at : Place) (told : Bool) → P (event_deed (tests x) at (finished_at r m (truth told ∷ []) next)))
        → (code : Code) (ws : List Word) → Each P (tell_event x code r next m ws)
    each_tell P x h code [] = tt
    each_tell P x h code (w ∷ []) = each_then P (event_of r w) _ (λ c. each_chained P _ (λ told. h (cell_place c) told))
    each_tell P x h code (w ∷ v ∷ ws) = tt

    -- of what a process does that waits for several events, or goes on
    pub each_several : (P : Change → Type 0) → ((n : ℕ) → P (gone_on r next m n)) → ((n : ℕ) → P (go_on (gone_on r next m (suc n))))
        → ((places : List Place) → P (wait_any places done)) → (code : Code) (ws : List Word) → Each P (wait_for_any code r next m ws)
    each_several P goes wakes waits code ws =
        each_if P (nat_le 1 (length ws) && nat_le (length ws) most_events) _ no_such (each_then P (events_of r ws) _ (λ places. each_chained P _ (λ n. by_number places n))) tt
      where
        by_found : (places : List Place) (o : Option ℕ) → Each P (gone_or_waiting r next m places o)
        by_found places None = waits places
        by_found places (Some n) = goes n

        by_number : (places : List Place) (n : ℕ) → Each P (woken_or_not r next m places n)
        by_number places zero = λ o. by_found places o
        by_number places (suc n) = wakes n

    -- and of each start of a process
    pub each_start : (P : Change → Type 0) → ((s : Registers) (ws : List Word) → P (change_start s ws (finished_at r m [] next))) → (code : Code) (ws : List Word)
        → Each P (start_process code r next m ws)
    each_start P h code ws =
        each_then P (starting r ws) _ (λ t. each_chained P _ (λ n. each_then P (see (first_display (n + 1) t)) _ (λ display.
        each_then P (on_path r.stack (t.home ∷ frames_with t.task (named_frames t.parameters)) (place r.stack (frame r))) _ (λ c.
        each_if P (nat_lt n most_processes) _ (fault ProcessLimit) (h _ _) tt))))
