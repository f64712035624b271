-- What operators do to a private part whose topmost words are known.
use Rattle.std.proofs.Common.{◌≡◌, ap, ◌∙◌, ℕ, ◌+◌, ◌-◌, ◌<◌, ℤ, List, ◌∷◌, Some, cond, arith}
use Rattle.std.specs.Prelude.{if◌then◌else◌}
use Rattle.std.proofs.lemmas.Bool.{lt-ltb, eq-eqb}
use Rattle.b67_num.specs.declared.FaultKind.{FaultKind}
use Rattle.b67_num.specs.Whole.{negation_of}
use Rattle.b67_word.specs.Word.{Word, word, operand, as_whole}
use Rattle.b67_word.specs.declared.Place.{Place}
use Rattle.b67_control.specs.declared.Irw.{Irw}
use Rattle.b67_control.specs.declared.Registers.{Registers}
use Rattle.b67_control.specs.Control.{as_irw}
use Rattle.b67_ops.specs.declared.BranchKind.{BranchKind}
use Rattle.b67_table.specs.declared.InterruptKind.TheVariants.{StackUnderflow, InvalidOperand}
use Rattle.b67_table.specs.declared.Private.{Private}
use Rattle.b67_table.specs.Effect.{Effect, gives, faults, interrupts, ◌>>=◌}
use Rattle.b67_table.specs.Private.{display_at, floor, pop, push, whole_or, whole_of_word, bits_of}
use Rattle.b67_table.specs.PrivateRows.{wholes, negated, logic, complement, complemented, dropped, exchanged, doubled, stuffed_at, stuffed, stuff, open_mark, mark, is_taken, by_bit, pointed}
use Rattle.b67_table.specs.References.{cell_word}

-- the part with these registers, but for S, and these words
abbrev pub part : Registers → ℕ → List Word → Private
part r s words = record { regs = record r { s = s }; words = words }

pub then_is : {A B : Type 0} (e : Effect A) (a : A) (f : A → Effect B) → e ≡ gives a → (e >>= f) ≡ f a
then_is e a f i = ap (λ o. o >>= f) i

module _ (r : Registers) where
  pub pop_is : (s : ℕ) (x : Word) (rest : List Word) → floor r < s → pop (part r s (x ∷ rest)) ≡ gives (x, part r (s - 1) rest)
  pop_is s x rest h = ap (λ b. cond b (gives (x, part r (s - 1) rest)) (interrupts StackUnderflow)) (lt-ltb (floor r) s h)

  pub bits_are : (w : Word) → w.tag ≡ 0 → bits_of w ≡ gives w.bits
  bits_are w e = ap (λ b. cond b (gives w.bits) (interrupts InvalidOperand)) (eq-eqb w.tag 0 e)

  -- ---- two words for one

  pub wholes_are : (made : ℤ → ℤ → Effect Word) (s : ℕ) (v w u : Word) (a b : ℤ) (below : List Word) → as_whole v ≡ Some a → as_whole w ≡ Some b → made a b ≡ gives u
      → floor r + 1 < s → wholes made (part r s (w ∷ v ∷ below)) ≡ gives (part r (s - 1 - 1 + 1) (u ∷ below))
  wholes_are made s v w u a b below iv iw is h =
      then_is (pop (part r s (w ∷ v ∷ below))) (w, part r (s - 1) (v ∷ below)) _ (pop_is s w (v ∷ below) (omega arith))
      ∙ then_is (pop (part r (s - 1) (v ∷ below))) (v, part r (s - 1 - 1) below) _ (pop_is (s - 1) v below (omega arith))
      ∙ then_is (whole_of_word v) a _ (ap whole_or iv)
      ∙ then_is (whole_of_word w) b _ (ap whole_or iw)
      ∙ then_is (made a b) u _ is

  pub wholes_fault : (made : ℤ → ℤ → Effect Word) (s : ℕ) (v w : Word) (a b : ℤ) (kind : FaultKind) (below : List Word) → as_whole v ≡ Some a → as_whole w ≡ Some b
      → made a b ≡ faults kind → floor r + 1 < s → wholes made (part r s (w ∷ v ∷ below)) ≡ faults kind
  wholes_fault made s v w a b kind below iv iw is h =
      then_is (pop (part r s (w ∷ v ∷ below))) (w, part r (s - 1) (v ∷ below)) _ (pop_is s w (v ∷ below) (omega arith))
      ∙ then_is (pop (part r (s - 1) (v ∷ below))) (v, part r (s - 1 - 1) below) _ (pop_is (s - 1) v below (omega arith))
      ∙ then_is (whole_of_word v) a _ (ap whole_or iv)
      ∙ then_is (whole_of_word w) b _ (ap whole_or iw)
      ∙ ap (λ (e : Effect Word). e >>= (λ (u : Word). gives (push u (part r (s - 1 - 1) below)))) is

  pub logic_is : (op : ℕ → ℕ → ℕ) (s : ℕ) (v w : Word) (below : List Word) → v.tag ≡ 0 → w.tag ≡ 0 → floor r + 1 < s
      → logic op (part r s (w ∷ v ∷ below)) ≡ gives (part r (s - 1 - 1 + 1) (word 0 (op v.bits w.bits) ∷ below))
  logic_is op s v w below iv iw h =
      then_is (pop (part r s (w ∷ v ∷ below))) (w, part r (s - 1) (v ∷ below)) _ (pop_is s w (v ∷ below) (omega arith))
      ∙ then_is (pop (part r (s - 1) (v ∷ below))) (v, part r (s - 1 - 1) below) _ (pop_is (s - 1) v below (omega arith))
      ∙ then_is (bits_of v) v.bits _ (bits_are v iv)
      ∙ then_is (bits_of w) w.bits _ (bits_are w iw)

  -- ---- one word for one

  pub negated_is : (s : ℕ) (w : Word) (a : ℤ) (below : List Word) → as_whole w ≡ Some a → floor r < s
      → negated (part r s (w ∷ below)) ≡ gives (part r (s - 1 + 1) (operand (negation_of a) ∷ below))
  negated_is s w a below iw h =
      then_is (pop (part r s (w ∷ below))) (w, part r (s - 1) below) _ (pop_is s w below h) ∙ then_is (whole_of_word w) a _ (ap whole_or iw)

  pub complemented_is : (s : ℕ) (w : Word) (below : List Word) → w.tag ≡ 0 → floor r < s
      → complemented (part r s (w ∷ below)) ≡ gives (part r (s - 1 + 1) (word 0 (complement w.bits) ∷ below))
  complemented_is s w below iw h =
      then_is (pop (part r s (w ∷ below))) (w, part r (s - 1) below) _ (pop_is s w below h) ∙ then_is (bits_of w) w.bits _ (bits_are w iw)

  -- ---- words on the stack

  pub dropped_is : (s : ℕ) (w : Word) (below : List Word) → floor r < s → dropped (part r s (w ∷ below)) ≡ gives (part r (s - 1) below)
  dropped_is s w below h = then_is (pop (part r s (w ∷ below))) (w, part r (s - 1) below) _ (pop_is s w below h)

  pub doubled_is : (s : ℕ) (w : Word) (below : List Word) → floor r < s → doubled (part r s (w ∷ below)) ≡ gives (part r (s - 1 + 1 + 1) (w ∷ w ∷ below))
  doubled_is s w below h = then_is (pop (part r s (w ∷ below))) (w, part r (s - 1) below) _ (pop_is s w below h)

  pub exchanged_is : (s : ℕ) (v w : Word) (below : List Word) → floor r + 1 < s
      → exchanged (part r s (w ∷ v ∷ below)) ≡ gives (part r (s - 1 - 1 + 1 + 1) (v ∷ w ∷ below))
  exchanged_is s v w below h =
      then_is (pop (part r s (w ∷ v ∷ below))) (w, part r (s - 1) (v ∷ below)) _ (pop_is s w (v ∷ below) (omega arith))
      ∙ then_is (pop (part r (s - 1) (v ∷ below))) (v, part r (s - 1 - 1) below) _ (pop_is (s - 1) v below (omega arith))

  pub stuffed_is : (s : ℕ) (w : Word) (i : Irw) (home : Place) (below : List Word) → as_irw w ≡ Some i → display_at r i.level ≡ Some home → floor r < s
      → stuff (part r s (w ∷ below)) ≡ gives (part r (s - 1 + 1) (cell_word (record { frame = home; index = i.index }) ∷ below))
  stuffed_is s w i home below iw shown h =
      let rest : Private = part r (s - 1) below in
      then_is (pop (part r s (w ∷ below))) (w, rest) _ (pop_is s w below h)
      ∙ then_is (stuffed rest w (as_irw w)) (cell_word (record { frame = home; index = i.index })) _ (ap (stuffed rest w) iw ∙ ap (stuffed_at i.index) shown)

  -- ---- marks and branches

  pub mark_is : (s : ℕ) (below : List Word) → r.f < s → mark (part r s below) ≡ gives (part (record r { f = s }) (s + 1) (open_mark (s - r.f) ∷ below))
  mark_is s below h =
      ap (λ b. cond b (gives (part (record r { f = s }) (s + 1) (open_mark (s - r.f) ∷ below))) (interrupts InvalidOperand)) (lt-ltb r.f s h)

  pub by_bit_is : (kind : BranchKind) (target next s : ℕ) (w : Word) (below : List Word) → w.tag ≡ 0 → floor r < s
      → by_bit kind target next (part r s (w ∷ below)) ≡ gives (pointed (if is_taken kind w.bits then target else next) (part r (s - 1) below))
  by_bit_is kind target next s w below iw h =
      then_is (pop (part r s (w ∷ below))) (w, part r (s - 1) below) _ (pop_is s w below h) ∙ then_is (bits_of w) w.bits _ (bits_are w iw)
