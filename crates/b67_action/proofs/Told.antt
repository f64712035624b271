-- Elements of arrays that the words on top name: what programs are told of them.
use Rattle.std.specs.Prelude.{slice_get, is_some}
use Rattle.std.proofs.Common.{◌≡◌, refl, sym, ap, subst, ◌∙◌, ℕ, zero, suc, ◌+◌, ◌-◌, ◌≤◌, ◌==◌, Bool, true, false, List, [], ◌∷◌, Option, Some, None, Ok, arith}
use Rattle.b67_list.specs.Numbered.{numbered}
use Rattle.b67_word.specs.Word.{Word}
use Rattle.b67_control.specs.declared.Registers.{Registers}
use Rattle.b67_control.specs.declared.Descriptor.{Descriptor}
use Rattle.b67_control.specs.Control.{as_descriptor, descriptor_word}
use Rattle.b67_store.specs.Store.{Stacks, Row, Rows, row_at, row_words, row_words_or, with_row_word, with_cut, stack_limit}
use Rattle.b67_table.specs.Arrays.{as_indexed, index_in, index_or_fault, if_row, word_in_row, element, Subscripted, subscripted, subscripted_element, index_and_load, index_mother}
use Rattle.b67_table.specs.Effect as effects
use Rattle.b67_table.specs.Image.{Image}
use Rattle.b67_table.specs.Look.{Look, valid}
use Rattle.b67_table.specs.Moves.{replaced}
use Rattle.b67_table.specs.Outcome.{limited}
use Rattle.b67_table.specs.Program.{Change, changed, answer, asked, see, row, write_row, ◌>>=◌}
use Rattle.b67_table.specs.References.{Two, popped_two, operand_in}
use Rattle.b67_table.specs.Rows.{store, store_by, stored}
use Rattle.b67_table.specs.Table.{stack_length, length_in}
use Rattle.b67_table.proofs.Limit.{fits}
use Rattle.b67_table.proofs.Lists.{numbered_set, numbered_within, numbered_from}
use Rattle.b67_deeds.specs.declared.Letter.TheVariants.{ElementStore, Store}
use Rattle.b67_letters.specs.Letters.{told_by, element_or_not, stored_letter}
use Rattle.b67_private.specs.declared.operators.WordsRow.TheVariants as words
use Rattle.b67_private.specs.Lettered.{words_letter}
use Rattle.b67_reach.specs.Answers.{whole_outcome, looked, TestTells, ProgramPerforms}
use Rattle.b67_reach.specs.Images.{Own, own_of_image, with_own}
use Rattle.b67_reach.proofs.Looking.{performs_then, tells_then, tells_look}
use Rattle.b67_action.specs.OnRoom.{Stores, Subscripts}
use Rattle.b67_action.proofs.OnRoom.{operand_found}

none_in : (ws : List Word) (at : ℕ) (w : Word) → ws ≡ [] → slice_get ws at ≡ Some w → ⊥
none_in [] zero w e f = cc
none_in [] (suc at) w e f = cc
none_in (x ∷ ws) at w e f = cc

in_row : (o : Option Row) (at : ℕ) (w : Word) → slice_get (row_words_or o) at ≡ Some w → (row : Row) × (o ≡ Some row) × (slice_get row.words at ≡ Some w)
in_row None at w e = absurd (none_in [] at w refl e)
in_row (Some row) at w e = (row, refl, e)

module _ (st : Stacks) (rows : Rows) (r : Registers) (mother : Bool) (d : Descriptor) (at : ℕ) (s : Subscripts st r mother d at) (w : Word)
    (there : slice_get (row_words rows d.address) at ≡ Some w) where
  abbrev pair : Subscripted
  pair = record { array = d; subscript = s.subscript }

  element_is : TestTells (row d.address (λ (o : Option Row). if_row o (index_or_fault (index_in s.subscript d.length))) >>= (λ (n : ℕ). element d.address n)) st rows (Ok w)
  element_is = record {
    told = λ img e t.
        let k = in_row (row_at rows d.address) at w there in
        let here : row_at img.rows d.address ≡ Some k.0 = ap (λ (z : Rows). row_at z d.address) t ∙ k.1 in
        ap (λ (o : Option Row). whole_outcome (asked img (if_row o (index_or_fault (index_in s.subscript d.length)) >>= (λ (n : ℕ). element d.address n)))) here
        ∙ ap (λ (o : Option ℕ). whole_outcome (asked img (index_or_fault o >>= (λ (n : ℕ). element d.address n)))) s.index
        ∙ ap (λ (o : Option Row). whole_outcome (asked img (see (valid (word_in_row o at))))) here
        ∙ ap (λ (o : Option Word). whole_outcome (asked img (see (valid o)))) k.2;
  }

  element_told : TestTells (subscripted_element r mother) st rows (Ok w)
  element_told =
      tells_then (see (subscripted r mother)) _ pair st rows (Ok w)
      (tells_look (subscripted r mother) st rows (Ok pair) (sym (ap looked s.found))) element_is

module _ (st : Stacks) (rows : Rows) (r : Registers) (next : ℕ) (d : Descriptor) (at : ℕ) (w : Word) (there : slice_get (row_words rows d.address) at ≡ Some w) (new : Own) where
  pub element_loaded : Subscripts st r false d at → (w.tag == 0) ≡ true → ProgramPerforms {A = Unit {0}} (answer (replaced r next 2 w)) (own_of_image st rows r) new (Ok (tt {0}))
      → ProgramPerforms {A = Unit {0}} (index_and_load r next) (own_of_image st rows r) new (Ok (tt {0}))
  element_loaded s operand x =
      performs_then (subscripted_element r false) _ w (own_of_image st rows r) new (Ok (tt {0})) (element_told st rows r false d at s w there)
      (subst (λ (l : Look Word). ProgramPerforms {A = Unit {0}} (see l >>= (λ (v : Word). answer (replaced r next 2 v))) (own_of_image st rows r) new (Ok (tt {0})))
      (sym (operand_found w operand)) x)

  pub row_loaded : (copy : Descriptor) → Subscripts st r true d at → as_descriptor w ≡ Some copy
      → ProgramPerforms {A = Unit {0}} (answer (replaced r next 2 (descriptor_word (record copy { copy = true })))) (own_of_image st rows r) new (Ok (tt {0}))
      → ProgramPerforms {A = Unit {0}} (index_mother r next) (own_of_image st rows r) new (Ok (tt {0}))
  row_loaded copy s e x =
      performs_then (subscripted_element r true) _ w (own_of_image st rows r) new (Ok (tt {0})) (element_told st rows r true d at s w there)
      (subst (λ (o : Option Descriptor). ProgramPerforms {A = Unit {0}} (see (valid o) >>= (λ (c : Descriptor). answer (replaced r next 2 (descriptor_word (record c { copy = true }))))) (own_of_image st rows r)
      new (Ok (tt {0}))) (sym e) x)

-- ---- STOD

-- a change that nothing stops
module _ (old new : Own) (short : new.regs.s ≤ stack_limit) where
  size_is : (p : ℕ) (img : Image) → numbered img.regs p ≡ Some old.regs → stack_length p (with_own new p img) ≡ new.regs.s
  size_is p img has = ap length_in (numbered_set img.regs p new.regs (numbered_from img.regs p old.regs has) (numbered_within img.regs p old.regs has))

  answered_by : (change : Change)
      → ((p : ℕ) (img : Image) → img.stacks ≡ old.stacks → img.rows ≡ old.rows → numbered img.regs p ≡ Some old.regs → changed p change img ≡ with_own new p img)
      → ProgramPerforms {A = Unit {0}} (answer change) old new (Ok (tt {0}))
  answered_by change h = record {
    outcome = λ p img s t has. ap (λ (z : Image). limited (stack_length p) (effects.gives z)) (h p img s t has)
        ∙ fits (stack_length p) (with_own new p img) (omega (arith, size_is p img has, short));
    stays = tt {0};
  }

some_word : (o : Option Word) → is_some o ≡ true → (w : Word) × (o ≡ Some w)
some_word None e = cc
some_word (Some w) e = (w, refl)

module _ (st : Stacks) (rows : Rows) (r : Registers) (next : ℕ) (x : Word) (d : Descriptor) (s : Stores st r x d) (there : is_some (slice_get (row_words rows d.address) d.length) ≡ true)
    (short : r.s ≤ stack_limit) where
  abbrev dropped : Registers
  dropped = record r { s = r.s - 2; place = next }

  abbrev after : Own
  after = own_of_image (with_cut st r.stack (r.s - 2)) (with_row_word rows d.address d.length x) dropped

  -- an element is stored
  pub element_letter : words_letter (words.Store false) st r ≡ Some ElementStore
  element_letter = ap (told_by stored_letter) s.found ∙ ap (λ (o : Option Descriptor). Some (element_or_not ElementStore Store o)) s.element

  read_is : (w : Word) → slice_get (row_words rows d.address) d.length ≡ Some w → TestTells (element d.address d.length) st rows (Ok w)
  read_is w i = record {
    told = λ img e t.
        let k = in_row (row_at rows d.address) d.length w i in
        ap (λ (z : Rows). whole_outcome (asked img (see (valid (word_in_row (row_at z d.address) d.length))))) t
        ∙ ap (λ (o : Option Row). whole_outcome (asked img (see (valid (word_in_row o d.length))))) k.1
        ∙ ap (λ (o : Option Word). whole_outcome (asked img (see (valid o)))) k.2;
  }

  none_more : r.s - 2 + 0 ≡ r.s - 2
  none_more = omega arith

  written : ProgramPerforms {A = Unit {0}} (answer (stored false r next x (write_row d.address d.length x))) (own_of_image st rows r) after (Ok (tt {0}))
  written =
      answered_by (own_of_image st rows r) after (omega (arith, short)) (stored false r next x (write_row d.address d.length x)) (λ p img e t has.
      ap (λ (n : ℕ). with_own (own_of_image (with_cut img.stacks r.stack (r.s - 2)) (with_row_word img.rows d.address d.length x) (record r { s = n; place = next })) p img) none_more
      ∙ ap (λ (z : Stacks). with_own (own_of_image (with_cut z r.stack (r.s - 2)) (with_row_word img.rows d.address d.length x) dropped) p img) e
      ∙ ap (λ (z : Rows). with_own (own_of_image (with_cut st r.stack (r.s - 2)) (with_row_word z d.address d.length x) dropped) p img) t)

  pub element_stored : ProgramPerforms {A = Unit {0}} (store false r next) (own_of_image st rows r) after (Ok (tt {0}))
  element_stored =
      let old = some_word (slice_get (row_words rows d.address) d.length) there in
      performs_then (see (popped_two r)) (λ (t : Two). see (operand_in t.x) >>= (λ (v : Word). store_by false r next v t.y (as_indexed t.y))) (record { x = x; y = s.below }) (own_of_image st rows r)
      after (Ok (tt {0}))
      (tells_look (popped_two r) st rows (Ok (record { x = x; y = s.below })) (sym (ap looked s.found)))
      (subst (λ (l : Look Word). ProgramPerforms {A = Unit {0}} (see l >>= (λ (v : Word). store_by false r next v s.below (as_indexed s.below))) (own_of_image st rows r) after (Ok (tt {0})))
      (sym (operand_found x s.operand))
      (subst (λ (o : Option Descriptor). ProgramPerforms {A = Unit {0}} (store_by false r next x s.below o) (own_of_image st rows r) after (Ok (tt {0}))) (sym s.element)
      (performs_then (element d.address d.length) _ old.0 (own_of_image st rows r) after (Ok (tt {0})) (read_is old.0 old.1) written)))
