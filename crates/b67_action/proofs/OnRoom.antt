-- Actions on the lent room of a process's own stack: what their programs find there, and what they leave.
use Rattle.std.specs.Prelude.{◌==◌, if◌then◌else◌, slice_get}
use Rattle.std.proofs.Common.{◌≡◌, refl, sym, ap, subst, ◌∙◌, ℕ, zero, suc, ◌+◌, ◌-◌, ◌<◌, ◌≤◌, Bool, true, false, List, [], ◌∷◌, ◌++◌, length, take, set, Option, Some, None, Ok, arith}
use Rattle.std.proofs.lemmas.Bool.{eqb-true, le-leb}
use Rattle.std.proofs.lemmas.List.{take_more_set}
use Rattle.b67_list.specs.Numbered.{numbered}
use Rattle.b67_list.proofs.Lists.{set_set_here}
use Rattle.b67_word.specs.declared.Place.{Place}
use Rattle.b67_word.specs.Word.{Word, word}
use Rattle.b67_control.specs.declared.Registers.{Registers}
use Rattle.b67_control.specs.declared.Irw.{Irw}
use Rattle.b67_control.specs.declared.Sirw.{Sirw}
use Rattle.b67_control.specs.declared.Pcw.{Pcw}
use Rattle.b67_control.specs.declared.Descriptor.{Descriptor}
use Rattle.b67_control.specs.Kind as kind
use Rattle.b67_control.proofs.ControlLaws.{irw_laws, descriptor_laws}
use Rattle.b67_control.specs.Control.{as_irw, as_sirw, as_pcw, as_descriptor}
use Rattle.b67_ops.specs.declared.BranchKind.TheVariants.{Brun}
use Rattle.b67_ops.specs.declared.Couple.{Couple}
use Rattle.b67_store.specs.Store.{Stacks, Rows, stack_at, words_of, words_or, word_at, with_stack, with_word, with_push, with_cut, stack_limit}
use Rattle.b67_store.proofs.Cited.{put_there}
use Rattle.b67_table.specs.declared.InterruptKind.TheVariants.{StackUnderflow}
use Rattle.b67_table.specs.declared.Cell.{Cell}
use Rattle.b67_table.specs.declared.Reached.{Reached}
use Rattle.b67_table.specs.Arrays.{as_indexed, indexed_in}
use Rattle.b67_table.specs.Chains.{place}
use Rattle.b67_table.specs.Image.{Image, with_registers, with_stacks}
use Rattle.b67_table.specs.Look.{Look, look_seen, found, stops, ◌>->◌, valid}
use Rattle.b67_table.specs.Effect as effects
use Rattle.b67_table.specs.Outcome.{limited}
use Rattle.b67_table.specs.Private.{floor}
use Rattle.b67_table.specs.Program.{Change, Program, done, answer, changed, registers, push, save, see, ◌>>=◌}
use Rattle.b67_table.specs.References.{cell_in, cell_place, couple_cell, irw_or_sirw, reached_in, named, one_sirw, reached, operand_in, from_top, popped_two, Two, invalid}
use Rattle.b67_table.specs.Rows.{value_call, value_or_entry, value_pushed, store, store_by, stored, branch_turn}
use Rattle.b67_table.specs.Table.{length_in, stack_length}
use Rattle.b67_table.proofs.Limit.{fits}
use Rattle.b67_table.proofs.Lists.{numbered_set, numbered_within, numbered_from}
use Rattle.b67_table.proofs.Stacks.{set_here}
use Rattle.b67_deeds.specs.declared.Letter.TheVariants as letters
use Rattle.b67_letters.specs.Letters.{told_by, entered_or, element_or_not, value_letter, stored_letter}
use Rattle.b67_private.specs.declared.operators.WordsRow.TheVariants as words
use Rattle.b67_private.specs.Lettered.{words_letter}
use Rattle.b67_reach.specs.Answers.{looked, ProgramPerforms}
use Rattle.b67_reach.specs.Images.{own_of_image, with_own}
use Rattle.b67_reach.proofs.Looking.{performs_then, tells_look}
use Rattle.b67_action.specs.OnRoom.{IsRoom, HoldsOperand}

-- ---- words by their tags

no_sirw : (tag bits : ℕ) → (tag == 0) ≡ true → as_sirw (word tag bits) ≡ None
unfolding as_sirw
no_sirw tag bits e = subst (λ (t : ℕ). as_sirw (word t bits) ≡ None) (sym (eqb-true tag 0 e)) refl

no_pcw : (tag bits : ℕ) → (tag == 0) ≡ true → as_pcw (word tag bits) ≡ None
unfolding as_pcw
no_pcw tag bits e = subst (λ (t : ℕ). as_pcw (word t bits) ≡ None) (sym (eqb-true tag 0 e)) refl

-- an IRW is no descriptor
apart : kind.irw ≡ kind.descriptor → ⊥
apart e = cc

no_descriptor : (w : Word) (i : Irw) → as_irw w ≡ Some i → as_descriptor w ≡ None
no_descriptor w i e = descriptor_laws.other w (λ k. apart (sym (irw_laws.kind w i e) ∙ k))

found_by : (w : Word) (b : Bool) → b ≡ true → (if b then found w else invalid) ≡ found w
found_by w true e = refl
found_by w false e = cc

pub operand_found : (w : Word) → (w.tag == 0) ≡ true → operand_in w ≡ found w
operand_found w e = found_by w (w.tag == 0) e

-- ---- words of a room

pub get_front : (ws : List Word) (n at : ℕ) → at < n → slice_get (take n ws) at ≡ slice_get ws at
get_front ws zero at h = absurd (omega (arith, h))
get_front [] (suc n) at h = refl
get_front (w ∷ ws) (suc n) zero h = refl
get_front (w ∷ ws) (suc n) (suc at) h = get_front ws n at (omega (arith, h))

pub held_at : (ws : List Word) (n : ℕ) → n < length ws → (w : Word) × (slice_get ws n ≡ Some w)
held_at [] n h = absurd (omega (arith, h))
held_at (w ∷ ws) zero h = (w, refl)
held_at (w ∷ ws) (suc n) h = held_at ws n (omega (arith, h))

-- a word is set in the first of some words, of which fewer are left
set_front : (ws : List Word) (n k at : ℕ) (w : Word) → n ≤ k → take n (set (take k ws) at w) ≡ take n (set ws at w)
set_front ws zero k at w h = refl
set_front ws (suc n) zero at w h = absurd (omega (arith, h))
set_front [] (suc n) (suc k) at w h = refl
set_front (x ∷ ws) (suc n) (suc k) zero w h = ap (λ (z : List Word). w ∷ z) (front ws n k (omega (arith, h)))
  where
    front : (ws : List Word) (n k : ℕ) → n ≤ k → take n (take k ws) ≡ take n ws
    front ws zero k h = refl
    front ws (suc n) zero h = absurd (omega (arith, h))
    front [] (suc n) (suc k) h = refl
    front (x ∷ ws) (suc n) (suc k) h = ap (λ (z : List Word). x ∷ z) (front ws n k (omega (arith, h)))
set_front (x ∷ ws) (suc n) (suc k) (suc at) w h = ap (λ (z : List Word). x ∷ z) (set_front ws n k at w (omega (arith, h)))

-- ---- a change that nothing stops

module _ (r q : Registers) (st new : Stacks) (rows : Rows) (short : q.s ≤ stack_limit) where
  size_is : (p : ℕ) (img : Image) → numbered img.regs p ≡ Some r → stack_length p (with_own (own_of_image new rows q) p img) ≡ q.s
  size_is p img has = ap length_in (numbered_set img.regs p q (numbered_from img.regs p r has) (numbered_within img.regs p r has))

  fits_in : (p : ℕ) (img : Image) → numbered img.regs p ≡ Some r → stack_length p (with_own (own_of_image new rows q) p img) ≤ stack_limit
  fits_in p img has = omega (arith, size_is p img has, short)

  pub answered : (change : Change)
      → ((p : ℕ) (img : Image) → img.stacks ≡ st → img.rows ≡ rows → numbered img.regs p ≡ Some r → changed p change img ≡ with_own (own_of_image new rows q) p img)
      → ProgramPerforms (answer change) (own_of_image st rows r) (own_of_image new rows q) (Ok (tt {0}))
  answered change h = record {
    outcome = λ p img s t has. ap (λ (z : Image). limited (stack_length p) (effects.gives z)) (h p img s t has) ∙ fits (stack_length p) (with_own (own_of_image new rows q) p img) (fits_in p img has);
    stays = tt {0};
  }

  -- the stacks and the registers, of which the rows stay
  pub put : (p : ℕ) (img : Image) (more : Stacks) → more ≡ new → img.rows ≡ rows → with_registers (with_stacks img more) p q ≡ with_own (own_of_image new rows q) p img
  put p img more s t =
      ap (λ (z : Stacks). with_registers (with_stacks img z) p q) s ∙ ap (λ (z : Rows). with_own (own_of_image new z q) p img) t

-- ---- on a room

module _ (r : Registers) (room : List Word) (is : IsRoom r room) (st : Stacks) (rows : Rows) (there : stack_at st r.stack ≡ Some (take r.s room)) where
  pub own_words : words_of st r.stack ≡ take r.s room
  own_words = ap words_or there

  pub put_twice : (a b : List Word) → with_stack (with_stack st r.stack a) r.stack b ≡ with_stack st r.stack b
  put_twice a b = set_set_here st r.stack (Some a) (Some b)

  pub words_then : (a : List Word) → words_of (with_stack st r.stack a) r.stack ≡ a
  words_then a = ap words_or (set_here st r.stack (take r.s room) a there)

  module _ (level index at : ℕ) (h : HoldsOperand r room level index at) where
    abbrev cell : Cell
    cell = record { frame = h.frame; index = index }

    cell_is : couple_cell r level index ≡ Some cell
    cell_is = ap (λ (o : Option Place). cell_in o index) h.shown

    place_is : cell_place cell ≡ place r.stack at
    place_is = ap (λ (n : ℕ). place n (h.frame.at + index)) h.own ∙ ap (place r.stack) (sym h.here)

    word_is : word_at st (cell_place cell) ≡ Some h.word
    word_is =
        ap (word_at st) place_is ∙ ap (λ (ws : List Word). slice_get ws at) own_words ∙ get_front room r.s at h.within ∙ h.stands

    abbrev found_there : Reached
    found_there = record { word = h.word; cell = cell }

    named_is : look_seen st (named (couple_cell r level index)) ≡ Ok found_there
    named_is = ap (λ (c : Option Cell). look_seen st (named c)) cell_is ∙ ap (λ (o : Option Word). look_seen st (reached_in cell o)) word_is

    reached_is : look_seen st (reached (couple_cell r level index)) ≡ Ok found_there
    reached_is =
        ap (λ (c : Option Cell). look_seen st (reached c)) cell_is
        ∙ ap (λ (o : Option Word). look_seen st (reached_in cell o >-> (λ (w : Reached). one_sirw (as_sirw w.word) w))) word_is
        ∙ ap (λ (o : Option Sirw). look_seen st (one_sirw o found_there)) (no_sirw h.word.tag h.word.bits h.operand)

    -- which is read
    pub value_reads : told_by value_letter (look_seen st (reached (couple_cell r level index))) ≡ Some letters.Read
    value_reads = ap (told_by value_letter) reached_is ∙ ap (λ (o : Option Pcw). Some (entered_or letters.Read o)) (no_pcw h.word.tag h.word.bits h.operand)

  -- ---- VALC

  module _ (couple : Couple) (next at : ℕ) (h : HoldsOperand r room couple.level couple.index at) (w : Word) (same : w ≡ h.word) (less : r.s < length room) where
    abbrev valued : Reached
    valued = record { word = h.word; cell = record { frame = h.frame; index = couple.index } }

    abbrev counted : Registers
    counted = record r { s = r.s + 1; place = next }

    abbrev pushed : Stacks
    pushed = with_stack st r.stack (take (r.s + 1) (set room r.s w))

    push_is : with_push st r.stack h.word ≡ with_stack st r.stack (take (r.s + 1) (set room r.s w))
    push_is =
        ap (λ (ws : List Word). with_stack st r.stack (ws ++ h.word ∷ [])) own_words
        ∙ ap (λ (v : Word). with_stack st r.stack (take r.s room ++ v ∷ [])) (sym same)
        ∙ ap (λ (ws : List Word). with_stack st r.stack ws) (sym (take_more_set room r.s w less))

    pub value_on : ProgramPerforms (value_call couple r next) (own_of_image st rows r) (own_of_image pushed rows counted) (Ok (tt {0}))
    value_on =
        performs_then (see (reached (couple_cell r couple.level couple.index))) (λ (v : Reached). value_or_entry r next v (as_pcw v.word)) valued (own_of_image st rows r)
        (own_of_image pushed rows counted) (Ok (tt {0}))
        (tells_look (reached (couple_cell r couple.level couple.index)) st rows (Ok valued) (sym (ap looked (reached_is couple.level couple.index at h))))
        (subst (λ (o : Option Pcw). ProgramPerforms (value_or_entry r next valued o) (own_of_image st rows r) (own_of_image pushed rows counted) (Ok (tt {0})))
        (sym (no_pcw h.word.tag h.word.bits h.operand))
        (subst (λ (l : Look Word). ProgramPerforms (see l >>= value_pushed r next) (own_of_image st rows r) (own_of_image pushed rows counted) (Ok (tt {0}))) (sym (operand_found h.word h.operand))
        (answered r counted st pushed rows (omega (arith, less, is.size)) (push r.stack h.word (registers counted done)) (λ p img s t has.
        put r counted st pushed rows (omega (arith, less, is.size)) p img (with_push img.stacks r.stack h.word)
        (ap (λ (z : Stacks). with_push z r.stack h.word) s ∙ push_is) t))))

  -- ---- STOD

  module _ (x y : Word) (enough : floor r + 2 ≤ r.s) (top : slice_get room (r.s - 1) ≡ Some x) (below : slice_get room (r.s - 2) ≡ Some y) where
    abbrev two : Two
    two = record { x = x; y = y }

    top_is : word_at st (place r.stack (r.s - 1)) ≡ Some x
    top_is = ap (λ (ws : List Word). slice_get ws (r.s - 1)) own_words ∙ get_front room r.s (r.s - 1) (omega (arith, enough)) ∙ top

    below_is : word_at st (place r.stack (r.s - 2)) ≡ Some y
    below_is = ap (λ (ws : List Word). slice_get ws (r.s - 2)) own_words ∙ get_front room r.s (r.s - 2) (omega (arith, enough)) ∙ below

    pub popped_is : look_seen st (popped_two r) ≡ Ok two
    popped_is =
        ap (λ (b : Bool). look_seen st ((if b then from_top r 0 else stops StackUnderflow) >-> (λ (u : Word). from_top r 1 >-> (λ (v : Word). found (record { x = u; y = v })))))
        (le-leb (floor r + 2) r.s enough)
        ∙ ap (λ (o : Option Word). look_seen st (valid o >-> (λ (u : Word). from_top r 1 >-> (λ (v : Word). found (record { x = u; y = v }))))) top_is
        ∙ ap (λ (o : Option Word). look_seen st (valid o >-> (λ (v : Word). found (record { x = x; y = v })))) below_is

    -- no descriptor is under the operand
    pub reference_stores : (i : Irw) → as_irw y ≡ Some i → words_letter (words.Store false) st r ≡ Some letters.Store
    reference_stores i names =
        ap (told_by stored_letter) popped_is ∙ ap (λ (o : Option Descriptor). Some (element_or_not letters.ElementStore letters.Store (indexed_in o))) (no_descriptor y i names)

    module _ (next at : ℕ) (i : Irw) (h : HoldsOperand r room i.level i.index at) (names : as_irw y ≡ Some i) (operand : (x.tag == 0) ≡ true) where
      abbrev cell_there : Reached
      cell_there = record { word = h.word; cell = record { frame = h.frame; index = i.index } }

      abbrev dropped : Registers
      dropped = record r { s = r.s - 2; place = next }

      abbrev saved : Stacks
      saved = with_stack st r.stack (take (r.s - 2) (set room at x))

      abbrev stores : Reached → Program
      stores w = see (operand_in w.word) >>= (λ (old : Word). answer (stored false r next x (save (cell_place w.cell) x)))

      abbrev front : List Word
      front = set (take r.s room) at x

      short : r.s - 2 ≤ stack_limit
      short = omega (arith, is.within, is.size)

      none_more : r.s - 2 + 0 ≡ r.s - 2
      none_more = omega arith

      save_is : with_cut (with_word st (cell_place cell_there.cell) x) r.stack (r.s - 2) ≡ with_stack st r.stack (take (r.s - 2) (set room at x))
      save_is =
          ap (λ (pl : Place). with_cut (with_word st pl x) r.stack (r.s - 2)) (place_is i.level i.index at h)
          ∙ ap (λ (ws : List Word). with_cut (with_stack st r.stack (set ws at x)) r.stack (r.s - 2)) own_words
          ∙ ap (λ (ws : List Word). with_stack (with_stack st r.stack front) r.stack (take (r.s - 2) ws)) (words_then front)
          ∙ put_twice front (take (r.s - 2) front)
          ∙ ap (λ (ws : List Word). with_stack st r.stack ws) (set_front room (r.s - 2) r.s at x (omega arith))

      cell_stored : ProgramPerforms (stores cell_there) (own_of_image st rows r) (own_of_image saved rows dropped) (Ok (tt {0}))
      cell_stored =
          subst (λ (l : Look Word). ProgramPerforms (see l >>= (λ (old : Word). answer (stored false r next x (save (cell_place cell_there.cell) x)))) (own_of_image st rows r)
          (own_of_image saved rows dropped) (Ok (tt {0})))
          (sym (operand_found h.word h.operand))
          (answered r dropped st saved rows short (stored false r next x (save (cell_place cell_there.cell) x)) (λ p img s t has.
          ap (λ (n : ℕ). with_registers (with_stacks img (with_cut (with_word img.stacks (cell_place cell_there.cell) x) r.stack (r.s - 2))) p (record r { s = n; place = next }))
          none_more
          ∙ put r dropped st saved rows short p img (with_cut (with_word img.stacks (cell_place cell_there.cell) x) r.stack (r.s - 2))
          (ap (λ (z : Stacks). with_cut (with_word z (cell_place cell_there.cell) x) r.stack (r.s - 2)) s ∙ save_is) t))

      word_stored : ProgramPerforms (store_by false r next x y (as_indexed y)) (own_of_image st rows r) (own_of_image saved rows dropped) (Ok (tt {0}))
      word_stored =
          subst (λ (o : Option Descriptor). ProgramPerforms (store_by false r next x y (indexed_in o)) (own_of_image st rows r) (own_of_image saved rows dropped) (Ok (tt {0})))
          (sym (no_descriptor y i names))
          (subst (λ (o : Option Irw). ProgramPerforms (see (named (irw_or_sirw r o (as_sirw y))) >>= stores) (own_of_image st rows r) (own_of_image saved rows dropped) (Ok (tt {0}))) (sym names)
          (performs_then (see (named (couple_cell r i.level i.index))) stores cell_there (own_of_image st rows r) (own_of_image saved rows dropped) (Ok (tt {0}))
          (tells_look (named (couple_cell r i.level i.index)) st rows (Ok cell_there) (sym (ap looked (named_is i.level i.index at h))))
          cell_stored))

      pub store_on : ProgramPerforms (store false r next) (own_of_image st rows r) (own_of_image saved rows dropped) (Ok (tt {0}))
      store_on =
          performs_then (see (popped_two r)) (λ (t : Two). see (operand_in t.x) >>= (λ (v : Word). store_by false r next v t.y (as_indexed t.y))) two (own_of_image st rows r)
          (own_of_image saved rows dropped) (Ok (tt {0}))
          (tells_look (popped_two r) st rows (Ok two) (sym (ap looked popped_is)))
          (subst (λ (l : Look Word). ProgramPerforms (see l >>= (λ (v : Word). store_by false r next v y (as_indexed y))) (own_of_image st rows r) (own_of_image saved rows dropped) (Ok (tt {0})))
          (sym (operand_found x operand)) word_stored)

  -- ---- BRUN

  pub turn_on : (target next : ℕ)
      → ProgramPerforms (branch_turn Brun target r next) (own_of_image st rows r) (own_of_image (with_stack st r.stack (take r.s room)) rows (record r { place = target })) (Ok (tt {0}))
  turn_on target next =
      answered r (record r { place = target }) st (with_stack st r.stack (take r.s room)) rows (omega (arith, is.within, is.size)) (registers (record r { place = target }) done) (λ p img s t has.
      put r (record r { place = target }) st (with_stack st r.stack (take r.s room)) rows (omega (arith, is.within, is.size)) p img img.stacks (s ∙ sym (put_there st r.stack (take r.s room) there)) t)
