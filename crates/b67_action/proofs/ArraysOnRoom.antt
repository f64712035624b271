-- Arrays seen from the lent room of a process's own stack: what programs find there, and what they leave.
use Rattle.std.specs.Prelude.{if◌then◌else◌, slice_get, IfSome}
use Rattle.std.proofs.Common.{◌≡◌, refl, sym, ap, subst, ◌∙◌, ℕ, zero, suc, ◌+◌, ◌-◌, ◌≤◌, ◌==◌, Bool, true, false, ℤ, List, [], ◌∷◌, ◌++◌, take, set, Option, Some, None, Result, Ok, arith}
use Rattle.std.proofs.lemmas.List.{take_more_set}
use Rattle.b67_word.specs.declared.Place.{Place}
use Rattle.b67_word.specs.Word.{Word, as_whole}
use Rattle.b67_control.specs.declared.Registers.{Registers}
use Rattle.b67_control.specs.declared.Irw.{Irw}
use Rattle.b67_control.specs.declared.Sirw.{Sirw}
use Rattle.b67_control.specs.declared.Descriptor.{Descriptor}
use Rattle.b67_control.specs.Kind as kind
use Rattle.b67_control.proofs.ControlLaws.{irw_laws, sirw_laws, descriptor_laws}
use Rattle.b67_control.specs.Control.{as_irw, as_sirw, as_descriptor, descriptor_word}
use Rattle.b67_store.specs.Store.{Stacks, Rows, stack_at, word_at, with_stack, with_push, with_cut}
use Rattle.b67_table.specs.declared.Cell.{Cell}
use Rattle.b67_table.specs.declared.Reached.{Reached}
use Rattle.b67_table.specs.declared.InterruptKind.{InterruptKind}
use Rattle.b67_table.specs.Arrays.{as_indexed, is_array_descriptor, array_in, array_by, array_of, index_in, index_or_fault, subscripted, index_program as index}
use Rattle.b67_table.specs.Chains.{place}
use Rattle.b67_table.specs.Image.{with_registers, with_stacks}
use Rattle.b67_table.specs.Look.{look_seen, found, ◌>->◌, valid}
use Rattle.b67_table.specs.Moves.{replaced}
use Rattle.b67_table.specs.Private.{floor}
use Rattle.b67_table.specs.Program.{answer, see, ◌>>=◌}
use Rattle.b67_table.specs.References.{cell_in, cell_place, couple_cell, irw_or_sirw, reached_in, one_sirw, reached, Two, popped_two, invalid}
use Rattle.b67_reach.specs.Answers.{looked, ProgramPerforms}
use Rattle.b67_reach.specs.Images.{own_of_image}
use Rattle.b67_reach.proofs.Looking.{seen_then, after_found, performs_then, tells_look}
use Rattle.b67_action.specs.OnRoom.{IsRoom, HoldsWord, IsArrayOf, Subscripts, Stores, PerformsOn}
use Rattle.b67_action.proofs.OnRoom.{get_front, own_words, put_twice, words_then, popped_is, answered, put}

-- ---- a descriptor is no reference

irw_apart : kind.descriptor ≡ kind.irw → ⊥
irw_apart e = cc

sirw_apart : kind.descriptor ≡ kind.sirw → ⊥
sirw_apart e = cc

no_irw : (w : Word) (d : Descriptor) → as_descriptor w ≡ Some d → as_irw w ≡ None
no_irw w d e = irw_laws.other w (λ k. irw_apart (sym (descriptor_laws.kind w d e) ∙ k))

no_sirw : (w : Word) (d : Descriptor) → as_descriptor w ≡ Some d → as_sirw w ≡ None
no_sirw w d e = sirw_laws.other w (λ k. sirw_apart (sym (descriptor_laws.kind w d e) ∙ k))

pub if_some_then : {A : Type 0} (P Q : A → Type 0) (o : Option A) → IfSome o P → ((a : A) → P a → Q a) → IfSome o Q
if_some_then P Q None h k = tt
if_some_then P Q (Some a) h k = k a h

array_here : (st : Stacks) (mother : Bool) (w : Word) (d : Descriptor) → as_descriptor w ≡ Some d → is_array_descriptor mother d ≡ true → look_seen st (array_in mother (as_descriptor w)) ≡ Ok d
array_here st mother w d e i =
    ap (λ (o : Option Descriptor). look_seen st (array_in mother o)) e ∙ ap (λ (b : Bool). look_seen st (if b then found d else invalid)) i

-- ---- words of a room

pub front_twice : (ws : List Word) (n k : ℕ) → n ≤ k → take n (take k ws) ≡ take n ws
front_twice ws zero k h = refl
front_twice ws (suc n) zero h = absurd (omega (arith, h))
front_twice [] (suc n) (suc k) h = refl
front_twice (x ∷ ws) (suc n) (suc k) h = ap (λ (z : List Word). x ∷ z) (front_twice ws n k (omega (arith, h)))

-- ---- on a room

module _ (r : Registers) (room : List Word) (is : IsRoom r room) where
  -- the word itself is an array's descriptor
  pub array_itself : (mother : Bool) (w : Word) (d : Descriptor) → as_descriptor w ≡ Some d → is_array_descriptor mother d ≡ true → IsArrayOf r room mother w d
  array_itself mother w d e i = λ st there.
      ap (λ (o : Option Irw). look_seen st (array_by r mother w (irw_or_sirw r o (as_sirw w)))) (no_irw w d e)
      ∙ ap (λ (o : Option Sirw). look_seen st (array_by r mother w (irw_or_sirw r None o))) (no_sirw w d e)
      ∙ array_here st mother w d e i

  module _ (i : Irw) (at : ℕ) (h : HoldsWord r room i.level i.index at) (st : Stacks) (there : stack_at st r.stack ≡ Some (take r.s room)) where
    abbrev cell : Cell
    cell = record { frame = h.frame; index = i.index }

    cell_is : couple_cell r i.level i.index ≡ Some cell
    cell_is = ap (λ (o : Option Place). cell_in o i.index) h.shown

    word_is : word_at st (cell_place cell) ≡ Some h.word
    word_is =
        ap (word_at st) (ap (λ (n : ℕ). place n (h.frame.at + i.index)) h.own ∙ ap (place r.stack) (sym h.here))
        ∙ ap (λ (ws : List Word). slice_get ws at) (own_words r room is st [] there) ∙ get_front room r.s at h.within ∙ h.stands

    abbrev found_there : Reached
    found_there = record { word = h.word; cell = cell }

    reached_is : as_sirw h.word ≡ None → look_seen st (reached (Some cell)) ≡ Ok found_there
    reached_is e =
        ap (λ (o : Option Word). look_seen st (reached_in cell o >-> (λ (w : Reached). one_sirw (as_sirw w.word) w))) word_is
        ∙ ap (λ (o : Option Sirw). look_seen st (one_sirw o found_there)) e

  -- the word names a cell of its own stack, in which an array's descriptor stands
  pub array_named : (mother : Bool) (x w : Word) (d : Descriptor) (i : Irw) (at : ℕ) → as_irw x ≡ Some i → (h : HoldsWord r room i.level i.index at) → w ≡ h.word
      → as_descriptor w ≡ Some d → is_array_descriptor mother d ≡ true → IsArrayOf r room mother x d
  array_named mother x w d i at names h same e a = λ st there.
      let f : as_descriptor h.word ≡ Some d = ap as_descriptor (sym same) ∙ e in
      ap (λ (o : Option Irw). look_seen st (array_by r mother x (irw_or_sirw r o (as_sirw x)))) names
      ∙ ap (λ (c : Option Cell). look_seen st (array_by r mother x c)) (cell_is i at h st there)
      ∙ seen_then st (reached (Some (cell i at h st there))) (λ (v : Reached). array_in mother (as_descriptor v.word))
      ∙ ap (λ (q : Result Reached InterruptKind). after_found q (λ (v : Reached). look_seen st (array_in mother (as_descriptor v.word)))) (reached_is i at h st there (no_sirw h.word d f))
      ∙ array_here st mother h.word d f a

  module _ (mother : Bool) (x y : Word) (enough : floor r + 2 ≤ r.s) (top : slice_get room (r.s - 1) ≡ Some x) (below : slice_get room (r.s - 2) ≡ Some y) (z : ℤ)
      (whole : as_whole y ≡ Some z) (d : Descriptor) (array : IsArrayOf r room mother x d) (n : ℕ) (index : index_in z d.length ≡ Some n) where
    pub subscripts_on : (st : Stacks) → stack_at st r.stack ≡ Some (take r.s room) → Subscripts st r mother d n
    subscripts_on st there = record {
      subscript = z;
      found =
          seen_then st (popped_two r) (λ (t : Two). valid (as_whole t.y) >-> (λ (s : ℤ). array_of r mother t.x >-> (λ (a : Descriptor). found (record { array = a; subscript = s }))))
          ∙ ap (λ (q : Result Two InterruptKind). after_found q (λ (t : Two). look_seen st (valid (as_whole t.y) >-> (λ (s : ℤ). array_of r mother t.x >-> (λ (a : Descriptor). found (record { array = a; subscript = s }))))))
          (popped_is r room is st [] there x y enough top below)
          ∙ ap (λ (o : Option ℤ). look_seen st (valid o >-> (λ (s : ℤ). array_of r mother x >-> (λ (a : Descriptor). found (record { array = a; subscript = s }))))) whole
          ∙ seen_then st (array_of r mother x) (λ (a : Descriptor). found (record { array = a; subscript = z }))
          ∙ ap (λ (q : Result Descriptor InterruptKind). after_found q (λ (a : Descriptor). Ok (record { array = a; subscript = z }))) (array st there);
      index = index;
    }

  pub stores_on : (x y : Word) → floor r + 2 ≤ r.s → slice_get room (r.s - 1) ≡ Some x → slice_get room (r.s - 2) ≡ Some y → (x.tag == 0) ≡ true → (d : Descriptor)
      → as_indexed y ≡ Some d → (st : Stacks) → stack_at st r.stack ≡ Some (take r.s room) → Stores st r x d
  stores_on x y enough top below operand d e st there = record {
    below = y;
    found = popped_is r room is st [] there x y enough top below;
    operand = operand;
    element = e;
  }

  -- ---- a word in place of two

  module _ (w : Word) (next : ℕ) (two : 2 ≤ r.s) where
    abbrev fewer : Registers
    fewer = record r { s = r.s - 1; place = next }

    module _ (st : Stacks) (rows : Rows) (there : stack_at st r.stack ≡ Some (take r.s room)) where
      abbrev left : Stacks
      left = with_stack st r.stack (take (r.s - 1) (set room (r.s - 2) w))

      size_is : r.s - 2 + 1 ≡ r.s - 1
      size_is = omega (arith, two)

      replaced_is : with_push (with_cut st r.stack (r.s - 2)) r.stack w ≡ left
      replaced_is =
          ap (λ (ws : List Word). with_push (with_stack st r.stack (take (r.s - 2) ws)) r.stack w) (own_words r room is st [] there)
          ∙ ap (λ (ws : List Word). with_stack (with_stack st r.stack (take (r.s - 2) (take r.s room))) r.stack (ws ++ w ∷ []))
          (words_then r room is st rows there (take (r.s - 2) (take r.s room)))
          ∙ put_twice r room is st rows there (take (r.s - 2) (take r.s room)) (take (r.s - 2) (take r.s room) ++ w ∷ [])
          ∙ ap (λ (ws : List Word). with_stack st r.stack (ws ++ w ∷ [])) (front_twice room (r.s - 2) r.s (omega arith))
          ∙ ap (λ (ws : List Word). with_stack st r.stack ws) (sym (take_more_set room (r.s - 2) w (omega (arith, two, is.within))))
          ∙ ap (λ (n : ℕ). with_stack st r.stack (take n (set room (r.s - 2) w))) size_is

      pub replaced_on : ProgramPerforms (answer (replaced r next 2 w)) (own_of_image st rows r) (own_of_image left rows fewer) (Ok (tt {0}))
      replaced_on =
          answered r fewer st left rows (omega (arith, is.within, is.size)) (replaced r next 2 w) (λ p img s t has.
          ap (λ (n : ℕ). with_registers (with_stacks img (with_push (with_cut img.stacks r.stack (r.s - 2)) r.stack w)) p (record r { s = n; place = next })) size_is
          ∙ put r fewer st left rows (omega (arith, is.within, is.size)) p img (with_push (with_cut img.stacks r.stack (r.s - 2)) r.stack w)
          (ap (λ (z : Stacks). with_push (with_cut z r.stack (r.s - 2)) r.stack w) s ∙ replaced_is) t)

  -- ---- INDX

  module _ (next : ℕ) (d : Descriptor) (n : ℕ) (k : (st : Stacks) → stack_at st r.stack ≡ Some (take r.s room) → Subscripts st r false d n) where
    abbrev indexed : Word
    indexed = descriptor_word (record d { copy = true; indexed = true; length = n })

    pub index_on : (q : Registers) (more : List Word) → PerformsOn (answer (replaced r next 2 indexed)) r room q more → PerformsOn (index r next) r room q more
    index_on q more x = λ st rows there.
        let s = k st there in
        performs_then (see (subscripted r false)) _ (record { array = d; subscript = s.subscript }) (own_of_image st rows r) (own_of_image (with_stack st q.stack (take q.s more)) rows q) (Ok (tt {0}))
        (tells_look (subscripted r false) st rows (Ok (record { array = d; subscript = s.subscript })) (sym (ap looked s.found)))
        (subst (λ (o : Option ℕ). ProgramPerforms (index_or_fault o >>= (λ (m : ℕ). answer (replaced r next 2 (descriptor_word (record d { copy = true; indexed = true; length = m })))))
        (own_of_image st rows r) (own_of_image (with_stack st q.stack (take q.s more)) rows q) (Ok (tt {0}))) (sym s.index) (x st rows there))
