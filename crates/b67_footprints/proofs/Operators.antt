-- The rows that read, index, store and leave keep to what they reach.
use Rattle.std.proofs.Common.{◌≡◌, refl, sym, subst, ◌∙◌, inr, ℕ, ◌+◌, ◌-◌, List, [], ◌∷◌, length, Option, Some, None, Bool, true, false, cond, take, drop, ℤ}
use Rattle.std.specs.Prelude.{◌&&◌, not, nat_lt, nat_eq}
use Rattle.b67_word.specs.declared.Place.{Place}
use Rattle.b67_word.specs.Word.{Word, as_whole}
use Rattle.b67_control.specs.declared.Registers.{Registers}
use Rattle.b67_control.specs.declared.Descriptor.{Descriptor}
use Rattle.b67_control.specs.declared.Pcw.{Pcw}
use Rattle.b67_control.specs.Control.{as_pcw, as_descriptor}
use Rattle.b67_ops.specs.declared.BranchKind.{BranchKind}
use Rattle.b67_ops.specs.declared.BranchKind.TheVariants.{Brfl, Brtr, Brun}
use Rattle.b67_ops.specs.declared.Couple.{Couple}
use Rattle.b67_ops.specs.declared.Operator.{Operator}
use Rattle.b67_ops.specs.declared.Operator.TheVariants as ops
use Rattle.b67_store.specs.Store.{Row, row_at, words_of}
use Rattle.b67_table.specs.declared.Cell.{Cell}
use Rattle.b67_table.specs.declared.Reached.{Reached}
use Rattle.b67_table.specs.declared.InterruptKind.TheVariants.{InvalidOperand}
use Rattle.b67_table.specs.Image.{Image}
use Rattle.b67_table.specs.Private.{frame}
use Rattle.b67_table.specs.Chains.{place}
use Rattle.b67_table.specs.Look.{found, ◌>->◌, valid}
use Rattle.b67_table.specs.Questions.{live_criticals}
use Rattle.b67_table.specs.References.{cell_place, couple_cell, cell_of, named, reached, popped, popped_two, operand_in, invalid}
use Rattle.b67_table.specs.Program.{Change, Program, done, registers, row, cut, see, end_process, fault}
use Rattle.b67_table.specs.Moves.{pushed}
use Rattle.b67_table.specs.Writes.{write_made}
use Rattle.b67_table.specs.Writes as writes
use Rattle.b67_table.specs.Linkage.{entering, selected, accidental, is_critical, if_not_critical, leaving, registers_left, leave, leave_base, leave_other, caused_by}
use Rattle.b67_table.specs.Arrays.{is_array_descriptor, array_in, array_by, array_of, indexed_in, as_indexed, index_in, index_or_fault, Subscripted, subscripted, word_in_row, element, if_row, subscripted_element, index_program, index_and_load, index_mother}
use Rattle.b67_table.specs.Rows.{turn_by, branch_turn, operand_pushed, value_or_entry, value_call, loaded, load_value, is_passed, load_through, cell_or_entry, evaluate, after_store, kept_words, store_by, store, is_result, exit, return_value}
use Rattle.b67_footprints.specs.Reaching.{OperatorTakes, OperatorFollows, NamesCell, by_couple, by_word, OperatorLeadsTo, own, home, ReachesRow}
use Rattle.b67_footprints.specs.Keeping.{Stores, TestKeeps, ChangeKeeps, ProgramKeeps}
use Rattle.b67_footprints.proofs.Going.{Any, LookKeeps, look_then, see_then, see_kept, test_then, look_by, test_by, look_there}
use Rattle.b67_footprints.proofs.References.{IsAt, popped_kept, AreTop, two_kept, IsReached, named_kept, reached_kept, operand_kept, valid_kept, IsDescribed, top_described, reached_described}
use Rattle.b67_footprints.proofs.Chains.{entering_kept, leaving_kept}
use Rattle.b67_footprints.proofs.Changes.{Keeps, pushed_kept, replaced_kept, fewer_now, frame_follows, taken_described}

-- an indexed descriptor is a descriptor
pub indexed_is : (w : Word) (d : Descriptor) → as_indexed w ≡ Some d → as_descriptor w ≡ Some d
indexed_is w d e = by_descriptor (as_descriptor w) e
  where
    by_bit : (c : Descriptor) (b : Bool) → cond b (Some c) None ≡ Some d → Some c ≡ Some d
    by_bit c true f = f
    by_bit c false f = cc

    by_descriptor : (o : Option Descriptor) → indexed_in o ≡ Some d → o ≡ Some d
    by_descriptor None f = cc
    by_descriptor (Some c) f = by_bit c c.indexed f

module _ (img : Image) (op : Operator) (r : Registers) (p next : ℕ) where
  abbrev pub Ends : Change → Type 0
  Ends change = ChangeKeeps img op r p change img

  -- ---- branches

  turned_kept : (kind : BranchKind) (target : ℕ) → ProgramKeeps img op r p (turn_by kind target r next)
  turned_kept kind target =
      see_then img op r Any Ends (popped r >-> operand_in) _
      (look_then img op r (IsAt img op r (r.s - 1)) Any (popped r) _ (popped_kept img op r) (λ w i. operand_any w)) (λ w t. (refl, (refl, tt)))
    where
      operand_any : (w : Word) → LookKeeps img op r Any (operand_in w)
      operand_any w = look_by img op r Any (nat_eq w.tag 0) (found w) invalid tt tt

  pub turn_kept : (kind : BranchKind) (target : ℕ) → ProgramKeeps img op r p (branch_turn kind target r next)
  turn_kept Brun target = (refl, tt)
  turn_kept Brfl target = turned_kept Brfl target
  turn_kept Brtr target = turned_kept Brtr target

  -- ---- entries by the way

  pub accidental_kept : (taken : ℕ) (pcw : Pcw) (f : Place) (selector : ℕ) → OperatorLeadsTo img op r f → ProgramKeeps img op r p (accidental r next taken pcw f selector)
  accidental_kept taken pcw f selector i =
      see_then img op r Any Ends (entering r next (nat_lt r.f (r.s - taken)) (r.s - taken) pcw (Some f)) _
      (entering_kept img op r next (nat_lt r.f (r.s - taken)) (r.s - taken) pcw (Some f) (λ h e. let same : f ≡ h = cc in subst (OperatorLeadsTo img op r) same i))
      (λ e t. (refl, (refl, (refl, pushed_kept img op r p (selected pcw.names selector) (registers _ done) (λ now. (refl, tt)) _))))

  -- where a control word was found, its frame is home
  at_home : (v : Reached) (pcw : Pcw) → IsReached img op r v → as_pcw v.word ≡ Some pcw → OperatorLeadsTo img op r v.cell.frame
  at_home v pcw i e = home v.cell v.word pcw i.names i.there e

  -- ---- reading

  operand_pushed_kept : (v : Reached) → ProgramKeeps img op r p (operand_pushed r next v)
  operand_pushed_kept v = see_then img op r (λ (w : Word). v.word.tag ≡ 0) Ends (operand_in v.word) _ (operand_kept img op r v.word) (λ w t. (refl, (refl, tt)))

  value_or_entry_kept : (v : Reached) → IsReached img op r v → (o : Option Pcw) → as_pcw v.word ≡ o → ProgramKeeps img op r p (value_or_entry r next v o)
  value_or_entry_kept v i None e = operand_pushed_kept v
  value_or_entry_kept v i (Some pcw) e =
      test_by img op r Ends pcw.intrinsic (see invalid) (accidental r next 0 pcw v.cell.frame 0) tt (accidental_kept 0 pcw v.cell.frame 0 (at_home v pcw i e))

  pub value_call_kept : (couple : Couple) → op ≡ ops.Valc couple → ProgramKeeps img op r p (value_call couple r next)
  value_call_kept couple is =
      see_then img op r (IsReached img op r) Ends (reached (couple_cell r couple.level couple.index)) _
      (reached_kept img op r (subst OperatorFollows (sym is) tt) (couple_cell r couple.level couple.index) (λ c e. by_couple couple is e)) (λ v i. value_or_entry_kept v i (as_pcw v.word) refl)

  -- ---- elements

  pub element_kept : (n at : ℕ) → ReachesRow img op r n → TestKeeps img op r Any (element n at)
  element_kept n at i =
      (i, see_kept img op r Any (valid (word_in_row (row_at img.rows n) at)) (look_there img op r Any InvalidOperand (word_in_row (row_at img.rows n) at) (λ w e. tt)))

  -- ---- what is named by the word at a place of the own stack

  module _ (n : ℕ) (takes : OperatorTakes op r n) where
    taken_names : (w : Word) → IsAt img op r n w → (c : Cell) → cell_of r w ≡ Some c → NamesCell img op r c
    taken_names w i c e = by_word n w takes i e

    taken_reached : OperatorFollows op → (w : Word) → IsAt img op r n w → LookKeeps img op r (IsReached img op r) (reached (cell_of r w))
    taken_reached follows w i = reached_kept img op r follows (cell_of r w) (taken_names w i)

    taken_named : (w : Word) → IsAt img op r n w → LookKeeps img op r (IsReached img op r) (named (cell_of r w))
    taken_named w i = named_kept img op r (cell_of r w) (taken_names w i)

  -- ---- by the word on top

  module _ (takes : OperatorTakes op r (r.s - 1)) where
    pub load_through_kept : ProgramKeeps img op r p (load_through r next)
    load_through_kept =
        see_then img op r (IsReached img op r) Ends (popped r >-> (λ (x : Word). named (cell_of r x))) _
        (look_then img op r (IsAt img op r (r.s - 1)) (IsReached img op r) (popped r) _ (popped_kept img op r) (λ x i. taken_named (r.s - 1) takes x i)) (λ v k.
        test_by img op r Ends (is_passed v.word) _ (see invalid) (replaced_kept img op r p next 1 v.word img) tt)

  module _ (takes : OperatorTakes op r (r.s - 1)) (follows : OperatorFollows op) where
    loaded_kept : (x : Word) → IsAt img op r (r.s - 1) x → (o : Option Descriptor) → as_indexed x ≡ o → TestKeeps img op r Any (loaded r x o)
    loaded_kept x i (Some d) e = element_kept d.address d.length (top_described img op r (r.s - 1) x i d (indexed_is x d e))
    loaded_kept x i None e =
        see_then img op r (IsReached img op r) Any (reached (cell_of r x)) _ (taken_reached (r.s - 1) takes follows x i) (λ v k. tt)

    pub load_value_kept : ProgramKeeps img op r p (load_value r next)
    load_value_kept =
        see_then img op r (IsAt img op r (r.s - 1)) Ends (popped r) _ (popped_kept img op r) (λ x i.
        test_then img op r Any Ends (loaded r x (as_indexed x)) _ (loaded_kept x i (as_indexed x) refl) (λ w t.
        see_then img op r (λ (v : Word). w.tag ≡ 0) Ends (operand_in w) _ (operand_kept img op r w) (λ v u. replaced_kept img op r p next 1 v img)))

    cell_or_entry_kept : (v : Reached) → IsReached img op r v → (o : Option Pcw) → as_pcw v.word ≡ o → ProgramKeeps img op r p (cell_or_entry r next v o)
    cell_or_entry_kept v i (Some pcw) e =
        test_by img op r Ends pcw.names (accidental r next 1 pcw v.cell.frame 1) (fault _) (accidental_kept 1 pcw v.cell.frame 1 (at_home v pcw i e)) tt
    cell_or_entry_kept v i None e =
        see_then img op r (λ (w : Word). v.word.tag ≡ 0) Ends (operand_in v.word) _ (operand_kept img op r v.word) (λ w t. (refl, (refl, (refl, tt))))

    pub evaluate_kept : ProgramKeeps img op r p (evaluate r next)
    evaluate_kept =
        see_then img op r (IsReached img op r) Ends (popped r >-> (λ (x : Word). reached (cell_of r x))) _
        (look_then img op r (IsAt img op r (r.s - 1)) (IsReached img op r) (popped r) _ (popped_kept img op r) (λ x i. taken_reached (r.s - 1) takes follows x i)) (λ v k.
        cell_or_entry_kept v k (as_pcw v.word) refl)

    -- ---- indexing

    -- the row of the descriptor is reached
    abbrev IsRow : Descriptor → Type 0
    IsRow d = ReachesRow img op r d.address

    array_in_kept : (mother : Bool) (w : Word) (o : Option Descriptor) → as_descriptor w ≡ o → IsDescribed img op r w → LookKeeps img op r IsRow (array_in mother o)
    array_in_kept mother w None e i = tt
    array_in_kept mother w (Some d) e i = look_by img op r IsRow (is_array_descriptor mother d) (found d) invalid (i d e) tt

    array_kept : (mother : Bool) (w : Word) → IsAt img op r (r.s - 1) w → (o : Option Cell) → cell_of r w ≡ o → LookKeeps img op r IsRow (array_by r mother w o)
    array_kept mother w i None e = array_in_kept mother w (as_descriptor w) refl (top_described img op r (r.s - 1) w i)
    array_kept mother w i (Some c) e =
        look_then img op r (IsReached img op r) IsRow (reached (Some c)) _
        (reached_kept img op r follows (Some c) (λ d f. taken_names (r.s - 1) takes w i d (e ∙ f)))
        (λ v k. array_in_kept mother v.word (as_descriptor v.word) refl (reached_described img op r v k))

    abbrev IsSubscripted : Subscripted → Type 0
    IsSubscripted t = ReachesRow img op r t.array.address

    subscripted_kept : (mother : Bool) → LookKeeps img op r IsSubscripted (subscripted r mother)
    subscripted_kept mother =
        look_then img op r (AreTop img op r) IsSubscripted (popped_two r) _ (two_kept img op r) (λ t i.
        look_then img op r (λ (z : ℤ). as_whole t.y ≡ Some z) IsSubscripted (valid (as_whole t.y)) _ (valid_kept img op r (as_whole t.y)) (λ z e.
        look_then img op r IsRow IsSubscripted (array_of r mother t.x) _ (array_kept mother t.x i.x (cell_of r t.x) refl) (λ d k. k)))

    index_or_kept : (o : Option ℕ) → TestKeeps img op r Any (index_or_fault o)
    index_or_kept None = tt
    index_or_kept (Some n) = tt

    pub index_kept : ProgramKeeps img op r p (index_program r next)
    index_kept =
        see_then img op r IsSubscripted Ends (subscripted r false) _ (subscripted_kept false) (λ t k.
        test_then img op r Any Ends (index_or_fault (index_in t.subscript t.array.length)) _ (index_or_kept (index_in t.subscript t.array.length)) (λ n u.
        (refl, (refl, (refl, tt)))))

    row_kept : (o : Option Row) (z : Option ℕ) → TestKeeps img op r Any (if_row o (index_or_fault z))
    row_kept None z = tt
    row_kept (Some x) z = index_or_kept z

    subscripted_element_kept : (mother : Bool) → TestKeeps img op r Any (subscripted_element r mother)
    subscripted_element_kept mother =
        see_then img op r IsSubscripted Any (subscripted r mother) _ (subscripted_kept mother) (λ t k.
        test_then img op r Any Any (row t.array.address (λ (found : Option Row). if_row found (index_or_fault (index_in t.subscript t.array.length)))) _
        (k, row_kept (row_at img.rows t.array.address) (index_in t.subscript t.array.length)) (λ at u. element_kept t.array.address at k))

    pub index_and_load_kept : ProgramKeeps img op r p (index_and_load r next)
    index_and_load_kept =
        test_then img op r Any Ends (subscripted_element r false) _ (subscripted_element_kept false) (λ w t.
        see_then img op r (λ (v : Word). w.tag ≡ 0) Ends (operand_in w) _ (operand_kept img op r w) (λ v u. replaced_kept img op r p next 2 v img))

    pub index_mother_kept : ProgramKeeps img op r p (index_mother r next)
    index_mother_kept =
        test_then img op r Any Ends (subscripted_element r true) _ (subscripted_element_kept true) (λ w t.
        see_then img op r (λ (d : Descriptor). as_descriptor w ≡ Some d) Ends (valid (as_descriptor w)) _ (valid_kept img op r (as_descriptor w)) (λ d u.
        (refl, (refl, (refl, tt)))))

  -- ---- storing

  after_store_kept : (keeps : Bool) (x : Word) (now : Image) →
      ChangeKeeps img op r p (after_store keeps r next x (registers (record r { s = r.s - 2 + kept_words keeps; place = next }) done)) now
  after_store_kept false x now = (refl, (refl, tt))
  after_store_kept true x now = (refl, (refl, (refl, tt)))

  module _ (takes : OperatorTakes op r (r.s - 2)) (stores : Stores op) (keeps : Bool) where
    store_by_kept : (x y : Word) → IsAt img op r (r.s - 2) y → (o : Option Descriptor) → as_indexed y ≡ o → ProgramKeeps img op r p (store_by keeps r next x y o)
    store_by_kept x y i (Some d) e =
        let reaches : ReachesRow img op r d.address = top_described img op r (r.s - 2) y i d (indexed_is y d e) in
        test_then img op r Any Ends (element d.address d.length) _ (element_kept d.address d.length reaches) (λ old t.
        (reaches, after_store_kept keeps x (write_made p (writes.write_row d.address d.length x) img)))
    store_by_kept x y i None e =
        see_then img op r (IsReached img op r) Ends (named (cell_of r y)) _ (taken_named (r.s - 2) takes y i) (λ v k.
        see_then img op r (λ (w : Word). v.word.tag ≡ 0) Ends (operand_in v.word) _ (operand_kept img op r v.word) (λ old t. (
          inr (record { stores = stores; cell = v.cell; names = k.names; lies = refl; word = v.word; there = k.there; operand = t }),
          after_store_kept keeps x (write_made p (writes.save (cell_place v.cell) x) img),
        )))

    pub store_kept : ProgramKeeps img op r p (store keeps r next)
    store_kept =
        see_then img op r (AreTop img op r) Ends (popped_two r) _ (two_kept img op r) (λ t i.
        see_then img op r (λ (w : Word). t.x.tag ≡ 0) Ends (operand_in t.x) _ (operand_kept img op r t.x) (λ x u.
        store_by_kept x t.y i.y (as_indexed t.y) refl))

  -- ---- leaving

  pub not_critical_kept : (frames : List ℕ) (more : Program) → ProgramKeeps img op r p more → ProgramKeeps img op r p (if_not_critical r.stack frames more)
  not_critical_kept frames more k =
      (tt, test_by img op r Ends (is_critical r.stack frames (live_criticals img.states img.regs)) (fault _) more tt k)

  caused_kept : (task : Option Place) → r.task ≡ task → (now : Image) → Keeps img op r p (caused_by task (end_process r.stack done)) now
  caused_kept None e now = (refl, tt)
  caused_kept (Some x) e now = (inr e, (refl, tt))

  base_kept : (n from : ℕ) → ProgramKeeps img op r p (leave_base r (take n (drop from (words_of img.stacks r.stack))) next)
  base_kept n from =
      not_critical_kept (0 ∷ []) _
      (frame_follows img op r p 0 (take n (drop from (words_of img.stacks r.stack)))
      (registers (record r { place = next }) (caused_by r.task (end_process r.stack done))) (taken_described img op r p n from)
      (λ now few. (refl, caused_kept r.task refl (write_made p (writes.registers (record r { place = next })) now))) img (fewer_now img op r p))

  other_kept : (n from f : ℕ) (words : List Word) → ProgramKeeps img op r p (leave_other r (take n (drop from (words_of img.stacks r.stack))) f words)
  other_kept n from f words =
      see_then img op r Any Ends (leaving (place r.stack f)) _ (leaving_kept img op r (place r.stack f) (own refl)) (λ l t.
      not_critical_kept (f ∷ []) _
      (frame_follows img op r p f (take n (drop from (words_of img.stacks r.stack))) (cut r.stack f (pushed r.stack words (registers (registers_left r (f + length words) f l) done)))
      (taken_described img op r p n from)
      (λ now few. (refl, pushed_kept img op r p words (registers (registers_left r (f + length words) f l) done) (λ later. (refl, tt)) (write_made p (writes.cut r.stack f) now)))
      img (fewer_now img op r p)))

  leave_kept : (words : List Word) → ProgramKeeps img op r p (leave r next words)
  leave_kept words =
      (refl, test_by img op r Ends (nat_eq (frame r) 0) _ _ (base_kept r.cells (frame r + 2)) (other_kept r.cells (frame r + 2) (frame r) words))

  pub exit_kept : ProgramKeeps img op r p (exit r next)
  exit_kept = leave_kept []

  pub return_value_kept : ProgramKeeps img op r p (return_value r next)
  return_value_kept =
      see_then img op r (IsAt img op r (r.s - 1)) Ends (popped r) _ (popped_kept img op r) (λ x i.
      test_by img op r Ends (is_result x && not (nat_eq (frame r) 0)) (leave r next (x ∷ [])) (see invalid) (leave_kept (x ∷ [])) tt)
