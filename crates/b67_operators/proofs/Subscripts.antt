-- What is found of arrays and subscripts, step by step.
use Rattle.std.specs.Result.{IsErrAnd}
use Rattle.std.proofs.Common.{◌≡◌, refl, sym, ap, ◌∙◌, ℕ, ℤ, Bool, true, false, cond, Option, Some, None, Result, Ok, Err}
use Rattle.b67_word.specs.Word.{Word, as_whole}
use Rattle.b67_control.specs.declared.Registers.{Registers}
use Rattle.b67_control.specs.declared.Descriptor.{Descriptor}
use Rattle.b67_control.specs.Control.{as_descriptor, descriptor_word}
use Rattle.b67_store.specs.Store.{Stacks, Rows}
use Rattle.b67_table.specs.declared.Cell.{Cell}
use Rattle.b67_table.specs.declared.Reached.{Reached}
use Rattle.b67_table.specs.declared.InterruptKind.{InterruptKind}
use Rattle.b67_table.specs.declared.InterruptKind.TheVariants.{InvalidOperand}
use Rattle.b67_table.specs.Look.{Look, found, stops, ◌>->◌, look_seen, valid}
use Rattle.b67_table.specs.Moves.{replaced}
use Rattle.b67_table.specs.References.{Two, popped_two, cell_of, reached}
use Rattle.b67_table.specs.Program.{Test, Program, answer, see, ◌>>=◌}
use Rattle.b67_table.specs.Arrays.{is_array_descriptor, array_in, array_by, array_of, Subscripted, subscripted, subscripted_element, index_in, index_or_fault, index_program, index_and_load, index_mother}
use Rattle.b67_reach.specs.declared.Stop.{Stop}
use Rattle.b67_reach.specs.declared.Stop.TheVariants.{Interrupt}
use Rattle.b67_reach.specs.Images.{Own}
use Rattle.b67_reach.specs.Answers.{outcome_answered, looked, both, TestTells, ProgramPerforms}
use Rattle.b67_reach.proofs.Looking.{seen_then, after_found, look_then, tells_look, tells_then, tells_stop, tells_exit, performs_then, performs_stop, exits}
use Rattle.b67_operators.specs.Arrays.{as_pair, array_found, subscript_found, test_element_at, copy_replaces}
use Rattle.b67_operators.specs.Stages.{operand_replaces}

two_is : (q : Result Two InterruptKind) (x y : Word) → Ok (x, y) ≡ looked (both q) → q ≡ Ok (record { x = x; y = y })
two_is (Ok t) x y e =
    let p : (x, y) ≡ (t.x, t.y) = cc in ap (λ (q : Word × Word). Ok (record { x = q.0; y = q.1 })) (sym p)
two_is (Err kind) x y e = cc

stopped_by : {A : Type 0} (q : Result A InterruptKind) (stop : Stop) → ◌≡◌ {A = Result A Stop} (Err stop) (looked q) → (kind : InterruptKind) × (q ≡ Err kind) × (stop ≡ Interrupt kind)
stopped_by (Ok a) stop e = cc
stopped_by (Err kind) stop e = (kind, refl, cc)

module _ (st : Stacks) (r : Registers) (mother : Bool) (x y : Word) (z : ℤ) (two : Ok (x, y) ≡ looked (both (look_seen st (popped_two r)))) (z_is : as_whole y ≡ Some z) where
  abbrev with_subscript : Look Subscripted
  with_subscript = array_of r mother x >-> (λ (d : Descriptor). found (record { array = d; subscript = z }))

  first : look_seen st (subscripted r mother) ≡ look_seen st with_subscript
  first =
      seen_then st (popped_two r) (λ (t : Two). valid (as_whole t.y) >-> (λ (s : ℤ). array_of r mother t.x >-> (λ (d : Descriptor). found (record { array = d; subscript = s }))))
      ∙ ap (λ (q : Result Two InterruptKind). after_found q (λ (t : Two). look_seen st (valid (as_whole t.y) >-> (λ (s : ℤ). array_of r mother t.x >-> (λ (d : Descriptor). found (record { array = d; subscript = s })))))) (two_is (look_seen st (popped_two r)) x y two)
      ∙ ap (λ (o : Option ℤ). look_seen st (valid o >-> (λ (s : ℤ). array_of r mother x >-> (λ (d : Descriptor). found (record { array = d; subscript = s }))))) z_is

  pub subscripted_stops : (stop : Stop) → ◌≡◌ {A = Result Descriptor Stop} (Err stop) (looked (look_seen st (array_of r mother x)))
      → Err stop ≡ looked (as_pair (look_seen st (subscripted r mother)))
  subscripted_stops stop e =
      let k = stopped_by (look_seen st (array_of r mother x)) stop e in
      ap (λ (s : Stop). Err s) k.2
      ∙ sym (ap (λ (q : Result Subscripted InterruptKind). looked (as_pair q))
      (first ∙ seen_then st (array_of r mother x) (λ (d : Descriptor). found (record { array = d; subscript = z }))
      ∙ ap (λ (q : Result Descriptor InterruptKind). after_found q (λ (d : Descriptor). Ok (record { array = d; subscript = z }))) k.1))

-- ---- an array that a word is or reaches

array_found_is : (st : Stacks) (mother : Bool) (d : Option Descriptor) → array_found mother d ≡ looked (look_seen st (array_in mother d))
array_found_is st mother None = refl
array_found_is st mother (Some d) = by_test (is_array_descriptor mother d)
  where
    by_test : (b : Bool) → cond b (Ok d) (Err (Interrupt InvalidOperand)) ≡ looked (look_seen st (cond b (found d) (stops InvalidOperand)))
    by_test true = refl
    by_test false = refl

module _ (st : Stacks) (r : Registers) (mother : Bool) (w : Word) where
  abbrev in_word : Reached → Look Descriptor
  in_word v = array_in mother (as_descriptor v.word)

  pub array_is : (res : Result Descriptor Stop) → None ≡ cell_of r w → res ≡ array_found mother (as_descriptor w) → res ≡ looked (look_seen st (array_of r mother w))
  array_is res none e =
      e ∙ array_found_is st mother (as_descriptor w) ∙ ap (λ (o : Option Cell). looked (look_seen st (array_by r mother w o))) none

  pub array_reached : (c : Cell) (v : Reached) (res : Result Descriptor Stop) → Some c ≡ cell_of r w → Ok v ≡ looked (look_seen st (reached (Some c)))
      → res ≡ array_found mother (as_descriptor v.word) → res ≡ looked (look_seen st (array_of r mother w))
  array_reached c v res some e f =
      look_then st (reached (Some c)) in_word v res e (f ∙ array_found_is st mother (as_descriptor v.word))
      ∙ ap (λ (o : Option Cell). looked (look_seen st (array_by r mother w o))) some

  pub array_stops : (c : Cell) (stop : Stop) → Some c ≡ cell_of r w → ◌≡◌ {A = Result Reached Stop} (Err stop) (looked (look_seen st (reached (Some c))))
      → ◌≡◌ {A = Result Descriptor Stop} (Err stop) (looked (look_seen st (array_of r mother w)))
  array_stops c stop some e =
      let k = stopped_by (look_seen st (reached (Some c))) stop e in
      ap (λ (s : Stop). Err s) k.2
      ∙ sym (ap looked (seen_then st (reached (Some c)) in_word ∙ ap (λ (q : Result Reached InterruptKind). after_found q (λ v. look_seen st (in_word v))) k.1))
      ∙ ap (λ (o : Option Cell). looked (look_seen st (array_by r mother w o))) some

-- ---- the element

pair_is : (q : Result Subscripted InterruptKind) (d : Descriptor) (z : ℤ) → Ok (d, z) ≡ looked (as_pair q) → Ok (record { array = d; subscript = z }) ≡ looked q
pair_is (Ok t) d z e =
    let p : (d, z) ≡ (t.array, t.subscript) = cc in ap (λ (q : Descriptor × ℤ). Ok (record { array = q.0; subscript = q.1 })) p
pair_is (Err kind) d z e = cc

pair_stops : (q : Result Subscripted InterruptKind) (stop : Stop) → ◌≡◌ {A = Result (Descriptor × ℤ) Stop} (Err stop) (looked (as_pair q))
    → Err stop ≡ looked q
pair_stops (Ok t) stop e = cc
pair_stops (Err kind) stop e = cc

abbrev at_subscript : Subscripted → Test Word
at_subscript t = test_element_at t.array t.subscript

module _ (st : Stacks) (rows : Rows) (r : Registers) (mother : Bool) (res : Result Word Stop) where
  pub element_found : (d : Descriptor) (z : ℤ) → Ok (d, z) ≡ looked (as_pair (look_seen st (subscripted r mother))) → TestTells (test_element_at d z) st rows res
      → TestTells (subscripted_element r mother) st rows res
  element_found d z e t =
      tells_then (see (subscripted r mother)) at_subscript (record { array = d; subscript = z }) st rows res
      (tells_look (subscripted r mother) st rows (Ok (record { array = d; subscript = z })) (pair_is (look_seen st (subscripted r mother)) d z e)) t

  pub element_stops : (stop : Stop) → ◌≡◌ {A = Result (Descriptor × ℤ) Stop} (Err stop) (looked (as_pair (look_seen st (subscripted r mother))))
      → IsErrAnd res (λ e. e ≡ stop) → TestTells (subscripted_element r mother) st rows res
  element_stops stop e i =
      tells_exit (subscripted_element r mother) st rows res stop i
      (tells_stop (see (subscripted r mother)) at_subscript stop st rows
      (tells_look (subscripted r mother) st rows (Err stop) (pair_stops (look_seen st (subscripted r mother)) stop e)))

module _ (old : Own) (next : ℕ) (res : Result (Unit {0}) Stop) where
  pub load_element : (new : Own) (w : Word) → TestTells (subscripted_element old.regs false) old.stacks old.rows (Ok w)
      → ProgramPerforms (operand_replaces old.regs next 2 w) old new res → ProgramPerforms (index_and_load old.regs next) old new res
  load_element new w t q = performs_then (subscripted_element old.regs false) (operand_replaces old.regs next 2) w old new res t q

  pub load_element_stops : (stop : Stop) → TestTells (subscripted_element old.regs false) old.stacks old.rows (Err stop) → IsErrAnd res (λ e. e ≡ stop)
      → ProgramPerforms (index_and_load old.regs next) old old res
  load_element_stops stop t e =
      exits (index_and_load old.regs next) old old res stop e
      (performs_stop (subscripted_element old.regs false) (operand_replaces old.regs next 2) stop old old t refl)

  pub copy_row : (new : Own) (w : Word) → TestTells (subscripted_element old.regs true) old.stacks old.rows (Ok w)
      → ProgramPerforms (copy_replaces old.regs next w) old new res → ProgramPerforms (index_mother old.regs next) old new res
  copy_row new w t q = performs_then (subscripted_element old.regs true) (copy_replaces old.regs next) w old new res t q

  pub copy_row_stops : (stop : Stop) → TestTells (subscripted_element old.regs true) old.stacks old.rows (Err stop) → IsErrAnd res (λ e. e ≡ stop)
      → ProgramPerforms (index_mother old.regs next) old old res
  copy_row_stops stop t e =
      exits (index_mother old.regs next) old old res stop e
      (performs_stop (subscripted_element old.regs true) (copy_replaces old.regs next) stop old old t refl)

-- ---- the indexed copy

tells_index : (stacks : Stacks) (rows : Rows) (o : Option ℕ) (r : Result ℕ Stop) → r ≡ subscript_found o → TestTells (index_or_fault o) stacks rows r
tells_index stacks rows None r e = record { told = λ img s t. sym (ap outcome_answered e) }
tells_index stacks rows (Some n) r e = record { told = λ img s t. sym (ap outcome_answered e) }

module _ (old : Own) (next : ℕ) (res : Result (Unit {0}) Stop) where
  abbrev pair : Look Subscripted
  pair = subscripted old.regs false

  abbrev copied : Descriptor → ℕ → Program
  copied d n = answer (replaced old.regs next 2 (descriptor_word (record d { copy = true; indexed = true; length = n })))

  abbrev after_pair : Subscripted → Program
  after_pair t = index_or_fault (index_in t.subscript t.array.length) >>= copied t.array

  pub index_stops : (stop : Stop) → ◌≡◌ {A = Result (Descriptor × ℤ) Stop} (Err stop) (looked (as_pair (look_seen old.stacks pair))) → IsErrAnd res (λ e. e ≡ stop)
      → ProgramPerforms (index_program old.regs next) old old res
  index_stops stop e i =
      exits (index_program old.regs next) old old res stop i
      (performs_stop (see pair) after_pair stop old old (tells_look pair old.stacks old.rows (Err stop) (pair_stops (look_seen old.stacks pair) stop e)) refl)

  pub index_is_none : (d : Descriptor) (z k : ℤ) (stop : Stop) → Ok (d, z) ≡ looked (as_pair (look_seen old.stacks pair)) → k ≡ z
      → ◌≡◌ {A = Result ℕ Stop} (Err stop) (subscript_found (index_in k d.length)) → IsErrAnd res (λ e. e ≡ stop) → ProgramPerforms (index_program old.regs next) old old res
  index_is_none d z k stop e same f i =
      exits (index_program old.regs next) old old res stop i
      (performs_then (see pair) after_pair (record { array = d; subscript = z }) old old (Err stop)
      (tells_look pair old.stacks old.rows (Ok (record { array = d; subscript = z })) (pair_is (look_seen old.stacks pair) d z e))
      (performs_stop (index_or_fault (index_in z d.length)) (copied d) stop old old (tells_index old.stacks old.rows (index_in z d.length) (Err stop) (f ∙ ap (λ (x : ℤ). subscript_found (index_in x d.length)) same)) refl))

  pub index_found : (new : Own) (d : Descriptor) (z k : ℤ) (n : ℕ) → Ok (d, z) ≡ looked (as_pair (look_seen old.stacks pair)) → k ≡ z
      → Ok n ≡ subscript_found (index_in k d.length)
      → ProgramPerforms (copied d n) old new res → ProgramPerforms (index_program old.regs next) old new res
  index_found new d z k n e same f q =
      performs_then (see pair) after_pair (record { array = d; subscript = z }) old new res
      (tells_look pair old.stacks old.rows (Ok (record { array = d; subscript = z })) (pair_is (look_seen old.stacks pair) d z e))
      (performs_then (index_or_fault (index_in z d.length)) (copied d) n old new res (tells_index old.stacks old.rows (index_in z d.length) (Ok n) (f ∙ ap (λ (x : ℤ). subscript_found (index_in x d.length)) same)) q)
