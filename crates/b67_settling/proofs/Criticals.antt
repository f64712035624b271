-- What an operator leaves of stacks' numbers and critical places in registers; and that of a process which it starts.
use Rattle.std.proofs.Common.{◌≡◌, refl, subst, ◌⊎◌, inl, inr, ℕ, zero, suc, ◌+◌, ◌-◌, ◌≤◌, Bool, true, false, List, [], ◌∷◌, length, take, drop, Option, Some, None, cond, arith}
use Rattle.std.specs.Prelude.{◌&&◌, not, nat_le, nat_lt, nat_eq, ℤ, pos}
use Rattle.b67_word.specs.declared.Place.{Place}
use Rattle.b67_word.specs.Word.{Word, truth, operand}
use Rattle.b67_control.specs.declared.Registers.{Registers}
use Rattle.b67_control.specs.declared.Descriptor.{Descriptor}
use Rattle.b67_control.specs.declared.Mscw.{Mscw}
use Rattle.b67_control.specs.declared.Pcw.{Pcw}
use Rattle.b67_control.specs.Control.{as_pcw, as_descriptor, event_word}
use Rattle.b67_deeds.specs.declared.EventAct.TheVariants as act
use Rattle.b67_deeds.specs.declared.EventTest.{EventTest}
use Rattle.b67_deeds.specs.declared.EventTest.TheVariants as test
use Rattle.b67_deeds.specs.Deeds.{EventDeed}
use Rattle.b67_deeds.specs.Deeds as deeds
use Rattle.b67_ops.specs.declared.BranchKind.{BranchKind}
use Rattle.b67_ops.specs.declared.BranchKind.TheVariants.{Brfl, Brtr, Brun}
use Rattle.b67_ops.specs.declared.Operator.{Operator}
use Rattle.b67_ops.specs.declared.Operator.TheVariants as ops
use Rattle.b67_ops.specs.declared.PlainKind.{PlainKind}
use Rattle.b67_ops.specs.declared.PlainKind.TheVariants as kinds
use Rattle.b67_ops.specs.declared.intrinsic.Intrinsic.{Intrinsic}
use Rattle.b67_ops.specs.declared.intrinsic.Intrinsic.TheVariants as names
use Rattle.b67_segment.specs.declared.code.Code.{Code}
use Rattle.b67_store.specs.Store.{Stacks, Row, row_words_or, word_at}
use Rattle.b67_table.specs.declared.Cell.{Cell}
use Rattle.b67_table.specs.declared.Reached.{Reached}
use Rattle.b67_table.specs.Arguments.{three, wholes, no_such, if_chained, event_of, events_of, finished_at}
use Rattle.b67_num.specs.declared.FaultKind.TheVariants.{NotAVariable, CriticalBlockExit, BadGoTo, ProcessLimit}
use Rattle.b67_ops.specs.declared.Couple.{Couple}
use Rattle.b67_table.specs.Arrays.{Extents, one, two, array_word, rows_made, array_made, arrays_made, as_indexed, element, index_program, index_and_load, index_mother, subscripted, index_or_fault, index_in, subscripted_element, if_held}
use Rattle.b67_table.specs.Chains.{place, below, entered_from, entered_below, frame_below, mark_at, chain_broken, rebuilt}
use Rattle.b67_table.specs.GoingTo.{Passed, frames_left, go_to, target_of, passed_by, passed_frames}
use Rattle.b67_table.specs.Image.{Image, critical_of}
use Rattle.b67_table.specs.Intrinsics.{row_of_intrinsic, intrinsic_row, intrinsic, gone_or_waiting, woken_or_not, on_event, tell_event, make_event, wait_for_any, gone_to_case, select, case_place, case_in, arrays, intrinsic_wanted as wanted, extents}
use Rattle.b67_table.specs.Intrinsics as intrinsics
use Rattle.b67_table.specs.Linkage.{entry, accidental, leave, leave_base, leave_other, frame_left, arrays_closed, array_closed, rows_closed, closed_by, caused_by, selected, is_critical, entering, leaving, if_not_critical}
use Rattle.b67_table.specs.Limits.{most_events, most_processes, most_cells}
use Rattle.b67_table.specs.Lines.{line_for}
use Rattle.b67_table.specs.Look.{Look, found, stops, at, several, ◌>->◌, valid}
use Rattle.b67_table.specs.Moves.{pushed, replaced}
use Rattle.b67_table.specs.References.{cell_place, couple_cell, cell_of, named, reached, popped, popped_two, operand_in, invalid}
use Rattle.b67_table.specs.PrivateRows.{branch}
use Rattle.b67_table.specs.Names.{intrinsic_numbered}
use Rattle.b67_table.specs.Private.{frame}
use Rattle.b67_table.specs.Program.{Test, answer, interrupt, fault, ask, ◌>>=◌, see, Change, done, look_up, write, Program}
use Rattle.b67_table.specs.Questions.{Question, AnswerTo, told}
use Rattle.b67_table.specs.Questions as questions
use Rattle.b67_table.specs.Rows.{private_part, action, row, plain_row, acts, branch_turn, value_call, value_or_entry, evaluate, cell_or_entry, loaded, load_value, is_passed, load_through, stored, store, store_by, level_below, marked, enter, enter_by, enter_procedure, is_result, return_value}
use Rattle.b67_table.specs.Rows as table
use Rattle.b67_table.specs.Starting.{starting, first_display, frames_with, named_frames, is_among, down, on_path, or_none, start_process}
use Rattle.b67_table.specs.Writes.{Write}
use Rattle.b67_table.specs.Writes as writes

-- ---- changes that start nobody

-- registers keep their stack and their critical place
abbrev pub Still : Registers → Write → Type 0
Still r (writes.registers new) = (new.stack ≡ r.stack) × (new.critical ≡ r.critical)
Still r (writes.start new words) = ⊥
Still r _ = Unit {0}

abbrev pub Calm : Registers → Change → Type 0
Calm r done = Unit {0}
Calm r (look_up q more) = (a : AnswerTo q) → Calm r (more a)
Calm r (write w next) = Still r w × Calm r next

-- ---- and one that starts

-- the place lies in this stack, or no higher than a critical place of the same stack
pub data Lies (img : Image) (r : Registers) (c : Place) : Type 0 where
  own_stack : c.stack ≡ r.stack → Lies img r c
  under : (k : ℕ) (f : Place) → critical_of img.regs k ≡ Some f → c.stack ≡ f.stack → c.at ≤ f.at → Lies img r c

abbrev pub Begins : Image → Registers → Change → Type 0
Begins img r (write (writes.start new words) next) =
    (new.stack ≡ img.started + 1) × ((c : Place) → new.critical ≡ Some c → Lies img r c) × Calm r next
Begins img r _ = ⊥

-- ---- tests

abbrev pub Says : {A : Type 0} → Image → (A → Type 0) → Test A → Type 0
Says img P (answer a) = P a
Says img P (interrupt kind) = Unit {0}
Says img P (fault kind) = Unit {0}
Says img P (ask q more) = Says img P (more (told img q))

abbrev pub LookSays : {A : Type 0} → Stacks → (A → Type 0) → Look A → Type 0
LookSays stacks P (found a) = P a
LookSays stacks P (stops kind) = Unit {0}
LookSays stacks P (at here more) = LookSays stacks P (more (word_at stacks here))
LookSays stacks P (several here n more) = (ws : List Word) → LookSays stacks P (more ws)

look_then : {A B : Type 0} (stacks : Stacks) (P : A → Type 0) (Q : B → Type 0) (l : Look A) (f : A → Look B) → LookSays stacks P l → ((a : A) → P a → LookSays stacks Q (f a))
    → LookSays stacks Q (l >-> f)
look_then stacks P Q (found a) f s h = h a s
look_then stacks P Q (stops kind) f s h = tt
look_then stacks P Q (at here more) f s h = look_then stacks P Q (more (word_at stacks here)) f s h
look_then stacks P Q (several here n more) f s h = λ ws. look_then stacks P Q (more ws) f (s ws) h

anything_seen : {A : Type 0} (stacks : Stacks) (l : Look A) → LookSays stacks (λ (a : A). Unit {0}) l
anything_seen stacks (found a) = tt
anything_seen stacks (stops kind) = tt
anything_seen stacks (at here more) = anything_seen stacks (more (word_at stacks here))
anything_seen stacks (several here n more) = λ ws. anything_seen stacks (more ws)

look_if : {A : Type 0} (stacks : Stacks) (P : A → Type 0) (b : Bool) (x y : Look A) → (b ≡ true → LookSays stacks P x) → LookSays stacks P y → LookSays stacks P (cond b x y)
look_if stacks P true x y h k = h refl
look_if stacks P false x y h k = k

module _ (img : Image) where
  says_see : {A : Type 0} (P : A → Type 0) (l : Look A) → LookSays img.stacks P l → Says img P (see l)
  says_see P (found a) s = s
  says_see P (stops kind) s = tt
  says_see P (at here more) s = says_see P (more (word_at img.stacks here)) s
  says_see P (several here n more) s = says_see P (more (told img (questions.words here n))) (s (told img (questions.words here n)))

  then_says : {A B : Type 0} (P : A → Type 0) (Q : B → Type 0) (t : Test A) (f : A → Test B) → Says img P t → ((a : A) → P a → Says img Q (f a)) → Says img Q (t >>= f)
  then_says P Q (answer a) f s h = h a s
  then_says P Q (interrupt kind) f s h = tt
  then_says P Q (fault kind) f s h = tt
  then_says P Q (ask q more) f s h = then_says P Q (more (told img q)) f s h

  says_if : {A : Type 0} (P : A → Type 0) (b : Bool) (x y : Test A) → Says img P x → Says img P y → Says img P (cond b x y)
  says_if P true x y h k = h
  says_if P false x y h k = k

  any : {A : Type 0} (t : Test A) → Says img (λ (a : A). Unit {0}) t
  any (answer a) = tt
  any (interrupt kind) = tt
  any (fault kind) = tt
  any (ask q more) = any (more (told img q))

  -- after any test
  then_any : {A B : Type 0} (Q : B → Type 0) (t : Test A) (f : A → Test B) → ((a : A) → Says img Q (f a)) → Says img Q (t >>= f)
  then_any Q t f h = then_says (λ a. Unit {0}) Q t f (any t) (λ a u. h a)

-- ---- calm changes

module _ (r : Registers) where
  calm_pushed : (stack : ℕ) (words : List Word) (next : Change) → Calm r next → Calm r (pushed stack words next)
  calm_pushed stack [] next h = h
  calm_pushed stack (w ∷ words) next h = (tt, calm_pushed stack words next h)

  calm_finished : (m : Mscw) (words : List Word) (pointer : ℕ) → Calm r (finished_at r m words pointer)
  calm_finished m words pointer = (tt, calm_pushed r.stack words _ ((refl, refl), tt))

  closed_so : (d : Option Descriptor) (closes : Descriptor → Change → Change) (next : Change) → ((x : Descriptor) → Calm r (closes x next)) → Calm r next → Calm r (closed_by d closes next)
  closed_so None closes next h k = k
  closed_so (Some d) closes next h k = by_copy d.copy
    where
      by_copy : (b : Bool) → Calm r (cond b next (closes d next))
      by_copy true = k
      by_copy false = h d

  rows_calm : (words : List Word) (next : Change) → Calm r next → Calm r (rows_closed words next)
  rows_calm [] next h = h
  rows_calm (w ∷ words) next h = closed_so (as_descriptor w) _ (rows_closed words next) (λ x. (tt, rows_calm words next h)) (rows_calm words next h)

  array_calm : (d : Descriptor) (next : Change) → Calm r next → Calm r (array_closed d next)
  array_calm d next h = by_mother d.mother
    where
      by_mother : (b : Bool) → Calm r (cond b (look_up (questions.row d.address) (λ (row : Option Row). rows_closed (row_words_or row) (write (writes.close_row d.address) next)))
          (write (writes.close_row d.address) next))
      by_mother true = λ row. rows_calm (row_words_or row) _ (tt, h)
      by_mother false = (tt, h)

  arrays_calm : (words : List Word) (next : Change) → Calm r next → Calm r (arrays_closed words next)
  arrays_calm [] next h = h
  arrays_calm (w ∷ words) next h =
      closed_so (as_descriptor w) array_closed (arrays_closed words next) (λ x. array_calm x (arrays_closed words next) (arrays_calm words next h)) (arrays_calm words next h)

  frame_calm : (stack f : ℕ) (cells : List Word) (next : Change) → Calm r next → Calm r (frame_left stack f cells next)
  frame_calm stack f cells next h = arrays_calm cells _ (tt, h)

  frames_calm : (stack : ℕ) (words : List Word) (fs : List Passed) (next : Change) → Calm r next → Calm r (frames_left stack words fs next)
  frames_calm stack words [] next h = h
  frames_calm stack words (f ∷ fs) next h = frame_calm stack f.frame (take f.cells (drop (f.frame + 2) words)) _ (frames_calm stack words fs next h)

  caused_calm : (task : Option Place) (next : Change) → Calm r next → Calm r (caused_by task next)
  caused_calm None next h = h
  caused_calm (Some task) next h = (tt, h)

  rows_made_calm : (k mother here n : ℕ) (next : Change) → Calm r next → Calm r (rows_made k mother here n next)
  rows_made_calm zero mother here n next h = h
  rows_made_calm (suc k) mother here n next h = λ address. (tt, (tt, rows_made_calm k mother (here + 1) n next h))

  array_made_calm : (e : Extents) (next : Word → Change) → ((w : Word) → Calm r (next w)) → Calm r (array_made e next)
  array_made_calm (one n) next h = λ address. (tt, h (array_word false n address))
  array_made_calm (two m n) next h = λ address. (tt, rows_made_calm m address 0 n _ (h (array_word true m address)))

  arrays_made_calm : (k : ℕ) (e : Extents) (made : List Word) (next : List Word → Change) → ((ws : List Word) → Calm r (next ws)) → Calm r (arrays_made k e made next)
  arrays_made_calm zero e made next h = h made
  arrays_made_calm (suc k) e made next h = array_made_calm e _ (λ w. arrays_made_calm k e _ next h)

-- ---- rows

module _ (img : Image) (code : Code) (r : Registers) (next : ℕ) where
  -- the change keeps all registers so, or starts a process
  abbrev pub Fine : Change → Type 0
  Fine c = Calm r c ⊎ Begins img r c

  abbrev Keeps : Program → Type 0
  Keeps t = Says img Fine t

  bind : {A : Type 0} (t : Test A) (f : A → Program) → ((a : A) → Keeps (f a)) → Keeps (t >>= f)
  bind t f h = then_any img Fine t f h

  choose : (b : Bool) (x y : Program) → Keeps x → Keeps y → Keeps (cond b x y)
  choose b x y h k = says_if img Fine b x y h k

  abbrev simple : (r.stack ≡ r.stack) × (r.critical ≡ r.critical)
  simple = (refl, refl)

  -- a mark stands below where one is wanted
  chained : (m : Mscw) (t : Program) → Keeps t → Keeps (if_chained r m t)
  chained m t h = bind (see (cond (nat_le m.df r.f) (mark_at (place r.stack (r.f - m.df))) chain_broken)) _ (λ a. h)

  finished : (m : Mscw) (words : List Word) (pointer : ℕ) → Fine (finished_at r m words pointer)
  finished m words pointer = inl (calm_finished r m words pointer)

  -- ---- branches and values

  turn_keeps : (kind : BranchKind) (target : ℕ) → Keeps (branch_turn kind target r next)
  turn_keeps Brun target = inl (simple, tt)
  turn_keeps Brfl target = bind (see (popped r >-> operand_in)) _ (λ w. inl (tt, (simple, tt)))
  turn_keeps Brtr target = bind (see (popped r >-> operand_in)) _ (λ w. inl (tt, (simple, tt)))

  accidental_keeps : (taken : ℕ) (pcw : Pcw) (home : Place) (selector : ℕ) → Keeps (accidental r next taken pcw home selector)
  accidental_keeps taken pcw home selector =
      bind (see (entering r next (nat_lt r.f (r.s - taken)) (r.s - taken) pcw (Some home))) _
      (λ e. inl (tt, (tt, (tt, calm_pushed r r.stack (selected pcw.names selector) _ (simple, tt)))))

  value_keeps : (couple : Couple) → Keeps (value_call couple r next)
  value_keeps couple = bind (see (reached (couple_cell r couple.level couple.index))) _ (λ w. by_entry w (as_pcw w.word))
    where
      by_entry : (w : Reached) (o : Option Pcw) → Keeps (value_or_entry r next w o)
      by_entry w None = bind (see (operand_in w.word)) _ (λ v. inl (tt, (simple, tt)))
      by_entry w (Some pcw) = choose pcw.intrinsic (see invalid) (accidental r next 0 pcw w.cell.frame 0) tt (accidental_keeps 0 pcw w.cell.frame 0)

  evaluate_keeps : Keeps (evaluate r next)
  evaluate_keeps = bind (see (popped r >-> (λ (x : Word). reached (cell_of r x)))) _ (λ w. by_entry w (as_pcw w.word))
    where
      by_entry : (w : Reached) (o : Option Pcw) → Keeps (cell_or_entry r next w o)
      by_entry w None = bind (see (operand_in w.word)) _ (λ v. inl (tt, (tt, (simple, tt))))
      by_entry w (Some pcw) = choose pcw.names (accidental r next 1 pcw w.cell.frame 1) (fault NotAVariable) (accidental_keeps 1 pcw w.cell.frame 1) tt

  load_keeps : Keeps (load_value r next)
  load_keeps =
      bind (see (popped r)) _ (λ x. bind (loaded r x (as_indexed x)) _ (λ w. bind (see (operand_in w)) _ (λ v. inl (tt, (tt, (simple, tt))))))

  through_keeps : Keeps (load_through r next)
  through_keeps =
      bind (see (popped r >-> (λ (x : Word). named (cell_of r x)))) _
      (λ w. choose (is_passed w.word) (answer (replaced r next 1 w.word)) (see invalid) (inl (tt, (tt, (simple, tt)))) tt)

  store_keeps : (keeps : Bool) → Keeps (store keeps r next)
  store_keeps keeps = bind (see (popped_two r)) _ (λ t. bind (see (operand_in t.x)) _ (λ x. by_variable x t.y (as_indexed t.y)))
    where
      by_kept : (k : Bool) (w : Change → Change) (x : Word) → ((c : Change) → Calm r c → Calm r (w c)) → Fine (stored k r next x w)
      by_kept false w x h = inl (h _ (tt, (simple, tt)))
      by_kept true w x h = inl (h _ (tt, (tt, (simple, tt))))

      by_variable : (x y : Word) (o : Option Descriptor) → Keeps (store_by keeps r next x y o)
      by_variable x y (Some d) = bind (element d.address d.length) _ (λ old. by_kept keeps (write (writes.write_row d.address d.length x)) x (λ c k. (tt, k)))
      by_variable x y None =
          bind (see (named (cell_of r y))) _ (λ w. bind (see (operand_in w.word)) _ (λ old. by_kept keeps (write (writes.save (cell_place w.cell) x)) x (λ c k. (tt, k))))

  index_keeps : Keeps (index_program r next)
  index_keeps =
      bind (see (subscripted r false)) _ (λ t. bind (index_or_fault (index_in t.subscript t.array.length)) _ (λ n. inl (tt, (tt, (simple, tt)))))

  index_and_load_keeps : Keeps (index_and_load r next)
  index_and_load_keeps = bind (subscripted_element r false) _ (λ w. bind (see (operand_in w)) _ (λ v. inl (tt, (tt, (simple, tt)))))

  index_mother_keeps : Keeps (index_mother r next)
  index_mother_keeps = bind (subscripted_element r true) _ (λ w. bind (see (valid (as_descriptor w))) _ (λ d. inl (tt, (tt, (simple, tt)))))

  -- ---- leaving

  free_keeps : (stack : ℕ) (frames : List ℕ) (t : Program) → Keeps t → Keeps (if_not_critical stack frames t)
  free_keeps stack frames t h = choose (is_critical stack frames (told img questions.criticals)) (fault CriticalBlockExit) t tt h

  leave_keeps : (words : List Word) → Keeps (leave r next words)
  leave_keeps words = by_frame (told img (questions.words (place r.stack (frame r + 2)) r.cells))
    where
      by_frame : (cells : List Word) → Keeps (cond (nat_eq (frame r) 0) (leave_base r cells next) (leave_other r cells (frame r) words))
      by_frame cells =
          choose (nat_eq (frame r) 0) (leave_base r cells next) (leave_other r cells (frame r) words)
          (free_keeps r.stack (0 ∷ []) _ (inl (frame_calm r r.stack 0 cells _ (simple, caused_calm r r.task _ (tt, tt)))))
          (bind (see (leaving (place r.stack (frame r)))) _
          (λ l. free_keeps r.stack (frame r ∷ []) _ (inl (frame_calm r r.stack (frame r) cells _ (tt, calm_pushed r r.stack words _ (simple, tt))))))

  return_keeps : Keeps (return_value r next)
  return_keeps =
      bind (see (popped r)) _ (λ x. choose (is_result x && not (nat_eq (frame r) 0)) (leave r next (x ∷ [])) (see invalid) (leave_keeps (x ∷ [])) tt)

  -- ---- intrinsics

  module _ (m : Mscw) (words : List Word) where
    go_to_keeps : Keeps (go_to code r next m words)
    go_to_keeps =
        bind (see (three words)) _ (λ z. bind (see (target_of r z)) _ (λ t. bind (see (passed_by r t.frame)) _ (λ p. bind (see (rebuilt t.frame t.level)) _ (λ display.
        choose (nat_eq t.frame.stack r.stack) _ (fault BadGoTo)
        (free_keeps r.stack (passed_frames p.frames) _ (inl (frames_calm r r.stack (told img (questions.words (place r.stack 0) r.s)) p.frames _ (tt, (simple, tt))))) tt))))

    select_keeps : Keeps (select code r next m words)
    select_keeps = bind (see (three words)) _ (λ z. bind (see (case_place z.third (case_in z.first z.second))) _ (λ to. chained m (gone_to_case r m to) (by_case to)))
      where
        by_case : (o : Option ℕ) → Keeps (gone_to_case r m o)
        by_case None = tt
        by_case (Some to) = finished m [] to

    arrays_keeps : Keeps (arrays code r next m words)
    arrays_keeps =
        bind (see (wholes words >-> wanted)) _ (λ w. chained m _ (bind (extents w.bounds) _ (λ e. bind (if_held w.count e) _ (λ held.
        inl (arrays_made_calm r w.count held [] _ (λ made. calm_finished r m made next))))))

    write_keeps : Keeps (intrinsics.write code r next m words)
    write_keeps =
        bind (see (wholes words >-> (λ (zs : List ℤ). valid (line_for code zs)))) _ (λ bytes. chained m _ (inl (tt, calm_finished r m [] next)))

    make_event_keeps : (ws : List Word) → Keeps (make_event code r next m ws)
    make_event_keeps [] = chained m _ (inl (tt, calm_finished r m (event_word (record {}) ∷ []) next))
    make_event_keeps (w ∷ ws) = tt

    on_event_keeps : (x : EventDeed) (ws : List Word) → Keeps (on_event x code r next m ws)
    on_event_keeps x [] = tt
    on_event_keeps x (w ∷ []) = bind (event_of r w) _ (λ c. chained m _ (inl (tt, calm_finished r m [] next)))
    on_event_keeps x (w ∷ v ∷ ws) = tt

    tell_keeps : (x : EventTest) (ws : List Word) → Keeps (tell_event x code r next m ws)
    tell_keeps x [] = tt
    tell_keeps x (w ∷ []) =
        bind (event_of r w) _ (λ c. chained m _ (inl (tt, calm_finished r m (truth (told img (questions.event_answer x (cell_place c))) ∷ []) next)))
    tell_keeps x (w ∷ v ∷ ws) = tt

    wait_any_keeps : Keeps (wait_for_any code r next m words)
    wait_any_keeps =
        choose (nat_le 1 (length words) && nat_le (length words) most_events) _ no_such
        (bind (events_of r words) _ (λ places. chained m _ (by_number places (told img (questions.woken r.stack))))) tt
      where
        by_first : (places : List Place) (o : Option ℕ) → Keeps (gone_or_waiting r next m places o)
        by_first places None = inl (tt, tt)
        by_first places (Some n) = finished m (operand (pos n) ∷ []) next

        by_number : (places : List Place) (n : ℕ) → Keeps (woken_or_not r next m places n)
        by_number places zero = by_first places (told img (questions.first_happened places))
        by_number places (suc n) = inl (tt, calm_finished r m (operand (pos (suc n)) ∷ []) next)

    -- ---- START

    abbrev Low : Place → Type 0
    Low f = Lies img r f

    abbrev AllLow : Option Place → Type 0
    AllLow o = (c : Place) → o ≡ Some c → Lies img r c

    -- a place no higher in the same stack
    lower_lies : (f : Place) (n : ℕ) → n ≤ f.at → Lies img r f → Lies img r (place f.stack n)
    lower_lies f n low (own_stack e) = own_stack e
    lower_lies f n low (under k g is e high) = under k g is e (omega (arith, low, high))

    entered_low : (steps stack here : ℕ) → LookSays img.stacks (λ (n : ℕ). n ≤ here) (entered_from steps stack here)
    entered_low zero stack here = tt
    entered_low (suc steps) stack here =
        look_then img.stacks (λ (x : Mscw). Unit {0}) (λ (n : ℕ). n ≤ here) (mark_at (place stack here)) _ (anything_seen img.stacks (mark_at (place stack here)))
        (λ x u. look_if img.stacks (λ (n : ℕ). n ≤ here) x.entered (found here) _ (λ b. omega arith)
        (look_if img.stacks (λ (n : ℕ). n ≤ here) (nat_le 1 x.df && nat_le x.df here) _ chain_broken
        (λ b. weaker (here - x.df) (entered_from steps stack (here - x.df)) (omega arith) (entered_low steps stack (here - x.df))) tt))
      where
        weaker : (n : ℕ) (l : Look ℕ) → n ≤ here → LookSays img.stacks (λ (k : ℕ). k ≤ n) l → LookSays img.stacks (λ (k : ℕ). k ≤ here) l
        weaker n (found k) e s = omega (arith, e, s)
        weaker n (stops kind) e s = tt
        weaker n (at p more) e s = weaker n (more (word_at img.stacks p)) e s
        weaker n (several p k more) e s = λ ws. weaker n (more ws) e (s ws)

    below_low : (f : Place) → Lies img r f → LookSays img.stacks Low (frame_below f)
    below_low f lies =
        look_then img.stacks (λ (x : Mscw). Unit {0}) Low (mark_at f) _ (anything_seen img.stacks (mark_at f)) (λ x u.
        look_then img.stacks (λ (n : ℕ). n ≤ f.at) Low (below f.at x.df (λ (n : ℕ). entered_below f.stack n)) _
        (look_if img.stacks (λ (n : ℕ). n ≤ f.at) (nat_le 1 x.df && nat_le x.df f.at) _ chain_broken
        (λ b. weaker_so (f.at - x.df) (entered_from (f.at - x.df + 1) f.stack (f.at - x.df)) (omega arith) (entered_low (f.at - x.df + 1) f.stack (f.at - x.df))) tt)
        (λ n low. lower_lies f n low lies))
      where
        weaker_so : (n : ℕ) (l : Look ℕ) → n ≤ f.at → LookSays img.stacks (λ (k : ℕ). k ≤ n) l → LookSays img.stacks (λ (k : ℕ). k ≤ f.at) l
        weaker_so n (found k) e s = omega (arith, e, s)
        weaker_so n (stops kind) e s = tt
        weaker_so n (at p more) e s = weaker_so n (more (word_at img.stacks p)) e s
        weaker_so n (several p k more) e s = λ ws. weaker_so n (more ws) e (s ws)

    down_low : (steps : ℕ) (wanted : List Place) (f : Place) (rest : Test (Option Place)) → Lies img r f → Says img AllLow rest → Says img AllLow (down steps wanted f rest)
    down_low zero wanted f rest lies k = tt
    down_low (suc steps) wanted f rest lies k =
        says_if img AllLow (is_among wanted f) (answer (Some f)) _ (λ c e. let same : f ≡ c = cc in subst (Lies img r) same lies)
        (says_if img AllLow (nat_eq f.at 0) rest _ k
        (then_says img Low AllLow (see (frame_below f)) _ (says_see img Low (frame_below f) (below_low f lies)) (λ lower l. down_low steps wanted lower rest l k)))

    path_low : (stacks : ℕ) (wanted : List Place) (f : Place) → Lies img r f → Says img AllLow (on_path stacks wanted f)
    path_low zero wanted f lies = λ c e. cc
    path_low (suc stacks) wanted f lies = down_low (f.at + 1) wanted f _ lies (by_critical (λ lower k. path_low stacks wanted lower k) (critical_of img.regs f.stack) refl)
      where
        by_critical : ((lower : Place) → Lies img r lower → Says img AllLow (on_path stacks wanted lower)) → (o : Option Place) → critical_of img.regs f.stack ≡ o
            → Says img AllLow (or_none o (λ (lower : Place). on_path stacks wanted lower))
        by_critical on None e = λ c i. cc
        by_critical on (Some lower) e = on lower (under f.stack lower e refl (omega arith))

    start_keeps : Keeps (start_process code r next m words)
    start_keeps =
        bind (starting r words) _ (λ t. chained m _ (bind (see (first_display (img.started + 1) t)) _ (λ display.
        then_says img AllLow Fine (on_path r.stack (t.home ∷ frames_with t.task (named_frames t.parameters)) (place r.stack (frame r))) _
        (path_low r.stack (t.home ∷ frames_with t.task (named_frames t.parameters)) (place r.stack (frame r)) (own_stack refl))
        (λ c low. choose (nat_lt img.started most_processes) _ (fault ProcessLimit) (inr (refl, low, calm_finished r m [] next)) tt))))

    intrinsic_keeps : (name : Intrinsic) → Keeps (row_of_intrinsic name code r next m words)
    intrinsic_keeps names.GoTo = go_to_keeps
    intrinsic_keeps names.Select = select_keeps
    intrinsic_keeps names.Arrays = arrays_keeps
    intrinsic_keeps names.Event = make_event_keeps words
    intrinsic_keeps names.Start = start_keeps
    intrinsic_keeps names.Write = write_keeps
    intrinsic_keeps names.Wait = on_event_keeps (deeds.acts act.Wait) words
    intrinsic_keeps names.Cause = on_event_keeps (deeds.acts act.Cause) words
    intrinsic_keeps names.Reset = on_event_keeps (deeds.acts act.Reset) words
    intrinsic_keeps names.Happened = tell_keeps test.Happened words
    intrinsic_keeps names.Procure = on_event_keeps (deeds.acts act.Procure) words
    intrinsic_keeps names.Liberate = on_event_keeps (deeds.acts act.Liberate) words
    intrinsic_keeps names.WaitAny = wait_any_keeps
    intrinsic_keeps names.CauseAndReset = on_event_keeps (deeds.acts act.CauseAndReset) words
    intrinsic_keeps names.Available = tell_keeps test.Available words
    intrinsic_keeps names.Fix = tell_keeps test.Fix words

    numbered_keeps : (o : Option Intrinsic) → Keeps (intrinsic_row o code r next m words)
    numbered_keeps None = tt
    numbered_keeps (Some name) = intrinsic_keeps name

  -- ---- ENTR

  procedure_keeps : (m : Mscw) (pcw : Pcw) (home : Option Place) → Keeps (enter_procedure code r next m pcw home)
  procedure_keeps m pcw home =
      choose pcw.intrinsic (intrinsic pcw.number code r next m) (entry r next m.df pcw home)
      (numbered_keeps m (told img (questions.words (place r.stack (r.f + 2)) (r.s - (r.f + 2)))) (intrinsic_numbered pcw.number))
      (bind (see (entering r next (nat_le (r.s - (r.f + 2)) most_cells) r.f pcw home)) _ (λ e. inl (tt, (tt, (simple, tt)))))

  enter_keeps : Keeps (enter code r next)
  enter_keeps =
      bind (see (marked r)) _ (λ m. bind (see (at (place r.stack (r.f + 1)) (λ (w : Option Word). valid w))) _ (λ above. by_cell m above (cell_of r above)))
    where
      by_cell : (m : Mscw) (w : Word) (o : Option Cell) → Keeps (enter_by code r next m w o)
      by_cell m w None = bind (see (valid (as_pcw w))) _ (λ pcw. procedure_keeps m pcw (level_below r pcw.level))
      by_cell m w (Some c) = bind (see (reached (Some c))) _ (λ v. bind (see (valid (as_pcw v.word))) _ (λ pcw. procedure_keeps m pcw (Some v.cell.frame)))

  -- ---- all of them

  abbrev pub RowFine : table.TableRow → Type 0
  RowFine (private_part change) = Unit {0}
  RowFine (action program) = Keeps (program code r next)

  plain_fine : (kind : PlainKind) → RowFine (plain_row kind)
  plain_fine kinds.Add = tt
  plain_fine kinds.Subt = tt
  plain_fine kinds.Mult = tt
  plain_fine kinds.Divd = tt
  plain_fine kinds.Idiv = tt
  plain_fine kinds.Rdiv = tt
  plain_fine kinds.Less = tt
  plain_fine kinds.Greq = tt
  plain_fine kinds.Grtr = tt
  plain_fine kinds.Lseq = tt
  plain_fine kinds.Equl = tt
  plain_fine kinds.Neql = tt
  plain_fine kinds.Chsn = tt
  plain_fine kinds.Land = tt
  plain_fine kinds.Lor = tt
  plain_fine kinds.Lnot = tt
  plain_fine kinds.Leqv = tt
  plain_fine kinds.Exit = leave_keeps []
  plain_fine kinds.Nxln = index_mother_keeps
  plain_fine kinds.Indx = index_keeps
  plain_fine kinds.Retn = return_keeps
  plain_fine kinds.Entr = enter_keeps
  plain_fine kinds.Eval = evaluate_keeps
  plain_fine kinds.Nxlv = index_and_load_keeps
  plain_fine kinds.Mkst = tt
  plain_fine kinds.Stff = tt
  plain_fine kinds.Zero = tt
  plain_fine kinds.One = tt
  plain_fine kinds.Push = tt
  plain_fine kinds.Dlet = tt
  plain_fine kinds.Exch = tt
  plain_fine kinds.Dupl = tt
  plain_fine kinds.Stod = store_keeps false
  plain_fine kinds.Ston = store_keeps true
  plain_fine kinds.Lodt = through_keeps
  plain_fine kinds.Load = load_keeps
  plain_fine kinds.Noop = tt

  branch_fine : (b : Bool) (kind : BranchKind) (target : ℕ) → RowFine (cond b (private_part (branch kind target)) (acts (branch_turn kind target)))
  branch_fine true kind target = tt
  branch_fine false kind target = turn_keeps kind target

  pub row_fine : (op : Operator) (here : ℕ) → RowFine (row op here)
  unfolding row
  row_fine (ops.Valc couple) here = value_keeps couple
  row_fine (ops.Namc couple) here = tt
  row_fine (ops.Lt8 n) here = tt
  row_fine (ops.Lt16 n) here = tt
  row_fine (ops.Lt48 n) here = tt
  row_fine (ops.Mpcw n) here = tt
  row_fine (ops.Branch kind target) here = branch_fine (nat_lt here target) kind target
  row_fine (ops.Plain kind) here = plain_fine kind
