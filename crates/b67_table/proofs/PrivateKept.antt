-- What a private operator makes of the private part of a valid image: as long as its stack is not too long, again such a part.
use Rattle.std.proofs.Common.{◌≡◌, refl, subst, ℕ, suc, ◌+◌, ◌-◌, ◌^◌, ◌<◌, ◌≤◌, Bool, true, false, ℤ, List, [], ◌∷◌, length, All, Option, Some, None, Result, Ok, Err, cond, arith}
use Rattle.std.specs.Prelude.{nat_lt, nat_le, nat_eq, unsigned_abs}
use Rattle.std.proofs.lemmas.Bool.{leb-true}
use Rattle.std.proofs.lemmas.List.Elements.{All-cons}
use Rattle.b67_num.specs.declared.NumFault.{NumFault}
use Rattle.b67_num.specs.Whole as num
use Rattle.b67_num.specs.Whole.{negation_of}
use Rattle.b67_num.proofs.WholeLaws.{negation_of_fits}
use Rattle.b67_word.specs.declared.Place.{Place}
use Rattle.b67_word.specs.Word.{Word, IsWord, word, operand, truth, as_whole}
use Rattle.b67_word.proofs.WordLaws.{truth_is_word}
use Rattle.b67_control.specs.declared.Irw.{Irw}
use Rattle.b67_control.specs.declared.Sirw.{Sirw}
use Rattle.b67_control.specs.Control.{as_irw, as_sirw}
use Rattle.b67_control.proofs.ControlLaws.{Fits_as_irw, Fits_as_sirw, IsWord_sirw_word, IsWord_mscw_word}
use Rattle.b67_ops.specs.declared.BranchKind.{BranchKind}
use Rattle.b67_ops.specs.declared.BranchKind.TheVariants.{Brfl, Brtr, Brun}
use Rattle.b67_store.specs.Store.{stack_limit}
use Rattle.b67_table.specs.declared.InterruptKind.TheVariants.{StackUnderflow, InvalidOperand}
use Rattle.b67_table.specs.declared.Private.{Private}
use Rattle.b67_table.specs.Effect.{Effect, gives, interrupts, ◌>>=◌}
use Rattle.b67_table.specs.Limits.{most_cells}
use Rattle.b67_table.specs.Private.{display_at, floor, frame, top, with_words, pop, push, whole_or, whole_of_word, bits_of}
use Rattle.b67_table.specs.PrivateRows.{pointed, onward, wholes, arithmetic, relation, negated, logic, complement, complemented, dropped, exchanged, doubled, stuffed_at, stuffed_or_invalid, stuffed, stuff, open_mark, mark, make_cells, is_taken, by_bit, branch, result_or_fault}
use Rattle.b67_table.specs.Valid.{IsHeld}
use Rattle.b67_table.proofs.Keeping.{Gives, then_gives}
use Rattle.b67_table.proofs.Wordly.{All_tail, All_head, operand_is_word, whole_is_small, tagged_is_word, complement_fits}

-- ---- tests

by_either : {A : Type 0} (P : A → Type 0) (b : Bool) (e f : Effect A) → (b ≡ true → Gives P e) → (b ≡ false → Gives P f) → Gives P (cond b e f)
by_either P true e f p q = p refl
by_either P false e f p q = q refl

-- a private part over so many words, with the registers that no private operator sets
pub record IsPart (base : ℕ) (m : Private) : Type 0 where
  pub size : base + length m.words ≡ m.regs.s
  pub words : All IsWord m.words
  pub seen : (level : ℕ) (f : Place) → display_at m.regs level ≡ Some f → IsHeld f
  pub mark : m.regs.f < 2 ^ 16
  pub cells : m.regs.cells ≤ most_cells
  pub above : floor m.regs ≤ m.regs.s
  pub pointer : m.regs.place < 2 ^ 16

module _ (base : ℕ) where
  -- such a part, unless its stack is too long
  unfoldable pub Left : Private → Type 0
  Left m = m.regs.s ≤ stack_limit → IsPart base m

  -- a word, and such a part
  pub Taken : Word × Private → Type 0
  Taken t = IsWord t.0 × IsPart base t.1

  pub took : (m : Private) (ws : List Word) → m.words ≡ ws → IsPart base m → floor m.regs < m.regs.s
      → Gives Taken (top ws >>= (λ (t : Word × List Word). gives (t.0, with_words m (m.regs.s - 1) t.1)))
  unfolding Taken
  took m [] e k h = tt
  took m (w ∷ ws) e k h =
      let words : All IsWord (w ∷ ws) = subst (All IsWord) e k.words in
      let size : base + length (w ∷ ws) ≡ m.regs.s = subst (λ (us : List Word). base + length us ≡ m.regs.s) e k.size in (
        All_head IsWord w ws words,
        record {
          size = omega (arith, size);
          words = All_tail IsWord w ws words;
          seen = k.seen;
          mark = k.mark;
          cells = k.cells;
          above = omega (arith, h);
          pointer = k.pointer;
        },
      )

  pub popped : (m : Private) → IsPart base m → Gives Taken (pop m)
  popped m k =
      by_either Taken (nat_lt (floor m.regs) m.regs.s) _ (interrupts StackUnderflow)
      (λ b. took m m.words refl k (omega (arith, leb-true (suc (floor m.regs)) m.regs.s b))) (λ b. tt)

  pub pushed : (w : Word) (m : Private) → IsWord w → IsPart base m → IsPart base (push w m)
  pushed w m i k = record {
    size = omega (arith, k.size);
    words = All-cons IsWord w m.words i k.words;
    seen = k.seen;
    mark = k.mark;
    cells = k.cells;
    above = omega (arith, k.above);
    pointer = k.pointer;
  }

  pub given : (m : Private) → IsPart base m → Gives Left (gives m)
  unfolding Left
  given m k small = k

  -- ---- what words are read as

  pub Small : ℤ → Type 0
  Small z = unsigned_abs z ≤ num.most

  pub whole_by : (w : Word) (o : Option ℤ) → as_whole w ≡ o → Gives Small (whole_or o)
  unfolding Small
  whole_by w None e = tt
  whole_by w (Some z) e = whole_is_small w z e

  pub whole_small : (w : Word) → Gives Small (whole_of_word w)
  whole_small w = whole_by w (as_whole w) refl

  pub Bits : ℕ → Type 0
  Bits n = n < 2 ^ 48

  pub bits_small : (w : Word) → IsWord w → Gives Bits (bits_of w)
  unfolding Bits
  bits_small w i = by_either Bits (nat_eq w.tag 0) (gives w.bits) (interrupts InvalidOperand) (λ b. i.bits) (λ b. tt)

  -- ---- rows

  pub wholes_kept : (made : ℤ → ℤ → Effect Word) → ((a b : ℤ) → Gives IsWord (made a b)) → (m : Private) → IsPart base m → Gives Left (wholes made m)
  unfolding Taken Small
  wholes_kept made is m k =
      then_gives Taken Left (pop m) _ (popped m k) (λ x kx. then_gives Taken Left (pop x.1) _ (popped x.1 kx.1) (λ y ky.
      then_gives Small Left (whole_of_word y.0) _ (whole_small y.0) (λ a u. then_gives Small Left (whole_of_word x.0) _ (whole_small x.0) (λ b v.
      then_gives IsWord Left (made a b) _ (is a b) (λ w i. given (push w y.1) (pushed w y.1 i ky.1))))))

  pub made_word : (r : Result ℤ NumFault) → ((z : ℤ) → r ≡ Ok z → unsigned_abs z ≤ num.most)
      → Gives IsWord (result_or_fault r >>= (λ (z : ℤ). gives (operand z)))
  made_word (Ok z) small = operand_is_word z (small z refl)
  made_word (Err fault) small = tt

  pub arithmetic_kept : (op : ℤ → ℤ → Result ℤ NumFault) → ((a b z : ℤ) → op a b ≡ Ok z → unsigned_abs z ≤ num.most) → (m : Private) → IsPart base m
      → Gives Left (arithmetic op m)
  arithmetic_kept op small m k =
      wholes_kept (λ (a b : ℤ). result_or_fault (op a b) >>= (λ (z : ℤ). gives (operand z))) (λ a b. made_word (op a b) (small a b)) m k

  pub relation_kept : (holds : ℤ → ℤ → Bool) (m : Private) → IsPart base m → Gives Left (relation holds m)
  relation_kept holds m k = wholes_kept (λ (a b : ℤ). gives (truth (holds a b))) (λ a b. truth_is_word (holds a b)) m k

  pub negated_kept : (m : Private) → IsPart base m → Gives Left (negated m)
  unfolding Taken Small
  negated_kept m k =
      then_gives Taken Left (pop m) _ (popped m k) (λ x kx. then_gives Small Left (whole_of_word x.0) _ (whole_small x.0) (λ a u.
      given (push (operand (negation_of a)) x.1) (pushed _ x.1 (operand_is_word (negation_of a) (negation_of_fits a u)) kx.1)))

  pub logic_kept : (op : ℕ → ℕ → ℕ) → ((a b : ℕ) → a < 2 ^ 48 → b < 2 ^ 48 → op a b < 2 ^ 48) → (m : Private) → IsPart base m → Gives Left (logic op m)
  unfolding Taken Bits
  logic_kept op fits m k =
      then_gives Taken Left (pop m) _ (popped m k) (λ x kx. then_gives Taken Left (pop x.1) _ (popped x.1 kx.1) (λ y ky.
      then_gives Bits Left (bits_of y.0) _ (bits_small y.0 ky.0) (λ a u. then_gives Bits Left (bits_of x.0) _ (bits_small x.0 kx.0) (λ b v.
      given (push (word 0 (op a b)) y.1) (pushed _ y.1 (tagged_is_word 0 (op a b) (omega arith) (fits a b u v)) ky.1)))))

  pub complemented_kept : (m : Private) → IsPart base m → Gives Left (complemented m)
  unfolding Taken Bits
  complemented_kept m k =
      then_gives Taken Left (pop m) _ (popped m k) (λ x kx. then_gives Bits Left (bits_of x.0) _ (bits_small x.0 kx.0) (λ a u.
      given (push (word 0 (complement a)) x.1) (pushed _ x.1 (tagged_is_word 0 (complement a) (omega arith) (complement_fits a)) kx.1)))

  pub dropped_kept : (m : Private) → IsPart base m → Gives Left (dropped m)
  unfolding Taken
  dropped_kept m k = then_gives Taken Left (pop m) _ (popped m k) (λ x kx. given x.1 kx.1)

  pub exchanged_kept : (m : Private) → IsPart base m → Gives Left (exchanged m)
  unfolding Taken
  exchanged_kept m k =
      then_gives Taken Left (pop m) _ (popped m k) (λ x kx. then_gives Taken Left (pop x.1) _ (popped x.1 kx.1) (λ y ky.
      given (push y.0 (push x.0 y.1)) (pushed y.0 (push x.0 y.1) ky.0 (pushed x.0 y.1 kx.0 ky.1))))

  pub doubled_kept : (m : Private) → IsPart base m → Gives Left (doubled m)
  unfolding Taken
  doubled_kept m k =
      then_gives Taken Left (pop m) _ (popped m k) (λ x kx.
      given (push x.0 (push x.0 x.1)) (pushed x.0 (push x.0 x.1) kx.0 (pushed x.0 x.1 kx.0 kx.1)))

  -- ---- references

  pub irw_stuffed : (index : ℕ) (o : Option Place) → index < 2 ^ 14 → ((f : Place) → o ≡ Some f → IsHeld f) → Gives IsWord (stuffed_at index o)
  irw_stuffed index None h held = tt
  irw_stuffed index (Some f) h held =
      let i : IsHeld f = held f refl in
      IsWord_sirw_word (record { stack = f.stack; displacement = f.at; index = index }) (i.stack, (i.displacement, (h, tt)))

  pub sirw_stays : (w : Word) (o : Option Sirw) → as_sirw w ≡ o → Gives IsWord (stuffed_or_invalid o)
  sirw_stays w None e = tt
  sirw_stays w (Some s) e = IsWord_sirw_word s (Fits_as_sirw w e)

  pub stuffed_is_word : (m : Private) (w : Word) (o : Option Irw) → as_irw w ≡ o → IsPart base m → Gives IsWord (stuffed m w o)
  stuffed_is_word m w (Some i) e k = irw_stuffed i.index (display_at m.regs i.level) (Fits_as_irw w e).1.0 (k.seen i.level)
  stuffed_is_word m w None e k = sirw_stays w (as_sirw w) refl

  pub stuff_kept : (m : Private) → IsPart base m → Gives Left (stuff m)
  unfolding Taken
  stuff_kept m k =
      then_gives Taken Left (pop m) _ (popped m k) (λ x kx.
      then_gives IsWord Left (stuffed m x.0 (as_irw x.0)) _ (stuffed_is_word m x.0 (as_irw x.0) refl k) (λ w i. given (push w x.1) (pushed w x.1 i kx.1)))

  -- ---- marks, cells and the pointer

  pub mark_kept : (m : Private) → IsPart base m → Gives Left (mark m)
  unfolding Left
  mark_kept m k =
      by_either Left (nat_lt m.regs.f m.regs.s) _ (interrupts InvalidOperand)
      (λ b small. record {
        size = omega (arith, k.size);
        words = All-cons IsWord (open_mark (m.regs.s - m.regs.f)) m.words
            (IsWord_mscw_word (record { entered = false; stack = 0; displacement = 0; df = m.regs.s - m.regs.f })
            (omega arith, (omega arith, (omega (arith, small), tt)))) k.words;
        seen = k.seen;
        mark = omega (arith, small);
        cells = k.cells;
        above = omega (arith, k.above);
        pointer = k.pointer;
      }) (λ b. tt)

  pub cells_kept : (m : Private) → IsPart base m → Gives Left (make_cells m)
  unfolding Left
  cells_kept m k =
      by_either Left (nat_le (m.regs.s - (frame m.regs + 2)) most_cells) _ (interrupts InvalidOperand)
      (λ b small. record {
        size = k.size;
        words = k.words;
        seen = k.seen;
        mark = k.mark;
        cells = leb-true (m.regs.s - (frame m.regs + 2)) most_cells b;
        above = omega (arith, k.above);
        pointer = k.pointer;
      }) (λ b. tt)

  pub pointed_kept : (place : ℕ) (m : Private) → place < 2 ^ 16 → IsPart base m → IsPart base (pointed place m)
  pointed_kept place m h k = record {
    size = k.size;
    words = k.words;
    seen = k.seen;
    mark = k.mark;
    cells = k.cells;
    above = k.above;
    pointer = h;
  }

  pub onward_kept : (change : Private → Effect Private) (next : ℕ) (m : Private) → next < 2 ^ 16 → Gives Left (change m) → Gives Left (onward change next m)
  unfolding Left
  onward_kept change next m h k = then_gives Left Left (change m) _ k (λ q kq small. pointed_kept next q h (kq small))

  pub goes_kept : (b : Bool) (target next : ℕ) → target < 2 ^ 16 → next < 2 ^ 16 → cond b target next < 2 ^ 16
  goes_kept true target next t n = t
  goes_kept false target next t n = n

  pub bit_kept : (kind : BranchKind) (target next : ℕ) (m : Private) → target < 2 ^ 16 → next < 2 ^ 16 → IsPart base m → Gives Left (by_bit kind target next m)
  unfolding Taken Bits
  bit_kept kind target next m t n k =
      then_gives Taken Left (pop m) _ (popped m k) (λ x kx. then_gives Bits Left (bits_of x.0) _ (bits_small x.0 kx.0) (λ bits u.
      given _ (pointed_kept (cond (is_taken kind bits) target next) x.1 (goes_kept (is_taken kind bits) target next t n) kx.1)))

  pub branch_kept : (kind : BranchKind) (target next : ℕ) (m : Private) → target < 2 ^ 16 → next < 2 ^ 16 → IsPart base m → Gives Left (branch kind target next m)
  branch_kept Brun target next m t n k = given (pointed target m) (pointed_kept target m t k)
  branch_kept Brfl target next m t n k = bit_kept Brfl target next m t n k
  branch_kept Brtr target next m t n k = bit_kept Brtr target next m t n k

  pub word_kept : (w : Word) (next : ℕ) (m : Private) → IsWord w → next < 2 ^ 16 → IsPart base m → Gives Left (onward (λ (q : Private). gives (push w q)) next m)
  word_kept w next m i h k = onward_kept (λ (q : Private). gives (push w q)) next m h (given (push w m) (pushed w m i k))
