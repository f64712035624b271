-- Indexing and storing keep an image valid.
use Rattle.std.proofs.Common.{◌≡◌, refl, subst, ◌∙◌, ℕ, suc, ◌+◌, ◌-◌, ◌<◌, ◌≤◌, ◌^◌, ◌==◌, Bool, true, false, ℤ, pos, negsuc, [], ◌∷◌, Option, Some, None, cond, arith}
use Rattle.std.specs.Prelude.{nat_lt}
use Rattle.std.proofs.lemmas.Bool.{leb-true, eqb-true}
use Rattle.std.proofs.lemmas.List.Elements.{All-nil, All-cons}
use Rattle.b67_list.specs.Numbered.{numbered}
use Rattle.b67_word.specs.Word.{Word, IsWord, as_whole}
use Rattle.b67_control.specs.declared.Registers.{Registers}
use Rattle.b67_control.specs.declared.Descriptor.{Descriptor}
use Rattle.b67_control.specs.Control.{as_descriptor, descriptor_word, Fits_descriptor}
use Rattle.b67_control.proofs.ControlLaws.{Fits_as_descriptor, IsWord_descriptor_word}
use Rattle.b67_segment.specs.declared.code.Code.{Code}
use Rattle.b67_store.specs.Store.{Row, row_at, with_word, with_row_word}
use Rattle.b67_table.specs.declared.Cell.{Cell}
use Rattle.b67_table.specs.declared.Reached.{Reached}
use Rattle.b67_table.specs.declared.InterruptKind.TheVariants.{InvalidOperand}
use Rattle.b67_table.specs.Effect.{Effect, gives, faults, interrupts}
use Rattle.b67_table.specs.Private.{floor}
use Rattle.b67_table.specs.Look.{found, look_seen, valid}
use Rattle.b67_table.specs.References.{cell_place, cell_of, named, reached, popped_two, operand_in, invalid}
use Rattle.b67_table.specs.Image.{Image, with_stacks, with_rows, is_live}
use Rattle.b67_table.specs.Program.{answer, row, asked, see, ◌>>=◌, Change, done, save, registers}
use Rattle.b67_table.specs.Arrays.{is_array_descriptor, array_in, array_by, array_of, as_indexed, index_in, index_or_fault, Subscripted, subscripted, element, if_row, subscripted_element, index_program, index_and_load, index_mother}
use Rattle.b67_table.specs.Rows.{after_store, kept_words, stored, store_by, store}
use Rattle.b67_table.specs.Valid.{IsValid}
use Rattle.b67_table.proofs.Keeping.{Gives}
use Rattle.b67_table.proofs.Finding.{Found, look_then, see_then, test_then, there_found, found_by}
use Rattle.b67_table.proofs.Referring.{cell_is, IsReached, named_found, reached_found, IsTwo, two_found, operand_found}
use Rattle.b67_table.proofs.Simple.{Ends, moved_ends, replaced_ends}
use Rattle.b67_table.proofs.Saving.{save_valid, write_valid, operand_is_no_mother}
use Rattle.b67_table.proofs.Evaluating.{element_kept, replace_operand}

-- what an array and a subscript are
record IsSub (r : Registers) (t : Subscripted) : Type 0 where
  fits : Fits_descriptor t.array
  high : floor r + 2 ≤ r.s

pub index_below : (z : ℤ) (most n : ℕ) → index_in z most ≡ Some n → n < most
index_below (pos k) most n e = by_test (nat_lt k most) refl e
  where
    by_test : (b : Bool) → nat_lt k most ≡ b → cond b (Some k) None ≡ Some n → n < most
    by_test true i e = let same : k ≡ n = cc in subst (λ (m : ℕ). m < most) same (omega (arith, leb-true (suc k) most i))
    by_test false i e = cc
index_below (negsuc k) most n e = cc

module _ (code : Code) (img : Image) (p : ℕ) (r : Registers) (v : IsValid code img) (live : is_live (numbered img.states p) ≡ true)
    (has : numbered img.regs p ≡ Some r) (next : ℕ) (small : next < 2 ^ 16) where
  E : Change → Type 0
  E = Ends code img p

  -- ---- arrays

  array_in_found : (mother : Bool) (w : Word) (o : Option Descriptor) → as_descriptor w ≡ o → Found Fits_descriptor (look_seen img.stacks (array_in mother o))
  array_in_found mother w None e = tt
  array_in_found mother w (Some d) e =
      found_by img.stacks Fits_descriptor (is_array_descriptor mother d) (found d) invalid (λ b. Fits_as_descriptor w e) (λ b. tt)

  array_by_found : (mother : Bool) (w : Word) (o : Option Cell) → cell_of r w ≡ o → Found Fits_descriptor (look_seen img.stacks (array_by r mother w o))
  array_by_found mother w None e = array_in_found mother w (as_descriptor w) refl
  array_by_found mother w (Some c) e =
      look_then img.stacks (IsReached code img p r v live has) Fits_descriptor (reached (Some c)) _
      (reached_found code img p r v live has (Some c) (λ x i. cell_is code img p r v live has w x (e ∙ i)))
      (λ x i. array_in_found mother x.word (as_descriptor x.word) refl)

  whole_found : (w : Word) → Found (λ (z : ℤ). Unit {0}) (look_seen img.stacks (valid (as_whole w)))
  whole_found w = there_found img.stacks (λ (z : ℤ). Unit {0}) InvalidOperand (as_whole w) (λ z e. tt)

  subscripted_found : (mother : Bool) → Found (IsSub r) (look_seen img.stacks (subscripted r mother))
  subscripted_found mother =
      look_then img.stacks (IsTwo code img p r v live has) (IsSub r) (popped_two r) _ (two_found code img p r v live has) (λ t i.
      look_then img.stacks (λ (z : ℤ). Unit {0}) (IsSub r) (valid (as_whole t.y)) _ (whole_found t.y) (λ z u.
      look_then img.stacks Fits_descriptor (IsSub r) (array_of r mother t.x) _ (array_by_found mother t.x (cell_of r t.x) refl) (λ d f.
      record { fits = f; high = i.high })))

  index_given : (o : Option ℕ) (most : ℕ) → ((n : ℕ) → o ≡ Some n → n < most) → Gives (λ (n : ℕ). n < most) (asked img (index_or_fault o))
  index_given None most k = tt
  index_given (Some n) most k = k n refl

  pub index_kept : Gives (Ends code img p) (asked img (index_program r next))
  unfolding E
  index_kept =
      see_then img (IsSub r) E (subscripted r false) _ (subscripted_found false) (λ t i.
      test_then img (λ (n : ℕ). n < t.array.length) E (index_or_fault (index_in t.subscript t.array.length)) _
      (index_given (index_in t.subscript t.array.length) t.array.length (index_below t.subscript t.array.length)) (λ n h.
      replaced_ends code img p r v live has 2 next (descriptor_word (record t.array { copy = true; indexed = true; length = n })) i.high
      (IsWord_descriptor_word (record t.array { copy = true; indexed = true; length = n }) (omega (arith, h, i.fits.0), i.fits.1)) small))

  -- an element, and two words that lie at the floor or above
  Element : Word → Type 0
  Element w = IsWord w × (floor r + 2 ≤ r.s)

  and_high : (e : Effect Word) → floor r + 2 ≤ r.s → Gives IsWord e → Gives Element e
  unfolding Element
  and_high (gives w) h i = (i, h)
  and_high (faults kind) h i = tt
  and_high (interrupts kind) h i = tt

  place_given : (o : Option Row) (z : Option ℕ) → Gives (λ (n : ℕ). Unit {0}) (asked img (if_row o (index_or_fault z)))
  place_given None z = tt
  place_given (Some x) None = tt
  place_given (Some x) (Some n) = tt

  subscripted_given : (mother : Bool) → Gives Element (asked img (subscripted_element r mother))
  unfolding Element
  subscripted_given mother =
      see_then img (IsSub r) Element (subscripted r mother) _ (subscripted_found mother) (λ t i.
      test_then img (λ (n : ℕ). Unit {0}) Element
      (row t.array.address (λ (found : Option Row). if_row found (index_or_fault (index_in t.subscript t.array.length)))) _
      (place_given (row_at img.rows t.array.address) (index_in t.subscript t.array.length)) (λ n u.
      and_high _ i.high (element_kept code img p r v live has next small t.array.address n)))

  pub index_and_load_kept : Gives (Ends code img p) (asked img (index_and_load r next))
  unfolding E Element
  index_and_load_kept =
      test_then img Element E (subscripted_element r false) _ (subscripted_given false) (λ w i.
      replace_operand code img p r v live has next small 2 w i.1 i.0)

  pub index_mother_kept : Gives (Ends code img p) (asked img (index_mother r next))
  unfolding E Element
  index_mother_kept =
      test_then img Element E (subscripted_element r true) _ (subscripted_given true) (λ w i.
      see_then img Fits_descriptor E (valid (as_descriptor w)) _
      (there_found img.stacks Fits_descriptor InvalidOperand (as_descriptor w) (λ d e. Fits_as_descriptor w e)) (λ d f.
      replaced_ends code img p r v live has 2 next (descriptor_word (record d { copy = true })) i.1
      (IsWord_descriptor_word (record d { copy = true }) f) small))

-- ---- storing

module _ (code : Code) (p : ℕ) (r : Registers) (next : ℕ) (small : next < 2 ^ 16) where
  after_kept : (img : Image) → IsValid code img → is_live (numbered img.states p) ≡ true → numbered img.regs p ≡ Some r → (keeps : Bool) (x : Word) → IsWord x
      → floor r + 2 ≤ r.s → Ends code img p (after_store keeps r next x (registers (record r { s = r.s - 2 + kept_words keeps; place = next }) done))
  after_kept img v live has false x i h =
      moved_ends code img p r v live has (r.s - 2) [] (r.s - 2 + 0) r.f next (omega arith) (omega (arith, h)) (All-nil IsWord) (omega arith)
      (v.processes p r live has).mark small
  after_kept img v live has true x i h =
      moved_ends code img p r v live has (r.s - 2) (x ∷ []) (r.s - 2 + 1) r.f next (omega arith) (omega (arith, h)) (All-cons IsWord x [] i (All-nil IsWord)) refl
      (v.processes p r live has).mark small

  module _ (img : Image) (v : IsValid code img) (live : is_live (numbered img.states p) ≡ true) (has : numbered img.regs p ≡ Some r) where
    E2 : Change → Type 0
    E2 = Ends code img p

    store_by_kept : (keeps : Bool) (x y : Word) → IsWord x → x.tag ≡ 0 → floor r + 2 ≤ r.s → (o : Option Descriptor)
        → Gives E2 (asked img (store_by keeps r next x y o))
    unfolding E2 Ends
    store_by_kept keeps x y i t h (Some d) =
        test_then img IsWord E2 (element d.address d.length) _ (element_kept code img p r v live has next small d.address d.length) (λ old j.
        after_kept (with_rows img (with_row_word img.rows d.address d.length x)) (write_valid code img v d.address d.length x i (operand_is_no_mother x t)) live has
        keeps x i h)
    store_by_kept keeps x y i t h None =
        see_then img (IsReached code img p r v live has) E2 (named (cell_of r y)) _
        (named_found code img p r v live has (cell_of r y) (λ c e. cell_is code img p r v live has y c e)) (λ w k.
        gives_by_tag w k)
      where
        gives_by_tag : (w : Reached) → IsReached code img p r v live has w
            → Gives E2 (asked img (see (operand_in w.word) >>= (λ (old : Word). answer (stored keeps r next x (save (cell_place w.cell) x)))))
        gives_by_tag w k =
            see_then img (λ (o : Word). w.word.tag ≡ 0) E2 (operand_in w.word) _
            (found_by img.stacks (λ (o : Word). w.word.tag ≡ 0) (w.word.tag == 0) (found w.word) invalid (λ b. eqb-true w.word.tag 0 b) (λ b. tt))
            (λ old g. after_kept (with_stacks img (with_word img.stacks (cell_place w.cell) x)) (save_valid code img v (cell_place w.cell) w.word x k.there g i) live has
            keeps x i h)

    pub store_kept : (keeps : Bool) → Gives (Ends code img p) (asked img (store keeps r next))
    unfolding E2
    store_kept keeps =
        see_then img (IsTwo code img p r v live has) E2 (popped_two r) _ (two_found code img p r v live has) (λ t i.
        see_then img (λ (o : Word). IsWord o × (o.tag ≡ 0)) E2 (operand_in t.x) _ (operand_found code img p r v live has t.x i.x) (λ x j.
        store_by_kept keeps x t.y j.0 j.1 i.high (as_indexed t.y)))
