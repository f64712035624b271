-- A private operator leaves the floor, or raises it.
use Rattle.std.proofs.Common.{◌≡◌, subst, ℕ, ◌+◌, ◌-◌, ◌≤◌, Bool, true, false, cond, ℤ, pos, List, [], ◌∷◌, arith}
use Rattle.std.specs.Prelude.{nat_lt, nat_le, bit_and, bit_or}
use Rattle.b67_num.specs.declared.Calculation.{Calculation}
use Rattle.b67_num.specs.declared.Calculation.TheVariants.{Sum, Difference, Product, WholeQuotient, TruncatedQuotient, Remainder}
use Rattle.b67_num.specs.declared.Relation.{Relation}
use Rattle.b67_num.specs.declared.Relation.TheVariants.{Less, LessOrEqual, Equal, NotEqual, GreaterOrEqual, Greater}
use Rattle.b67_num.specs.Whole.{related, calculated}
use Rattle.b67_word.specs.Word.{Word, word, operand, truth}
use Rattle.b67_control.specs.Control.{as_irw}
use Rattle.b67_ops.specs.declared.BranchKind.{BranchKind}
use Rattle.b67_ops.specs.declared.BranchKind.TheVariants.{Brfl, Brtr, Brun}
use Rattle.b67_ops.specs.declared.Operator.{Operator}
use Rattle.b67_ops.specs.declared.Operator.TheVariants as ops
use Rattle.b67_ops.specs.declared.PlainKind.{PlainKind}
use Rattle.b67_ops.specs.declared.PlainKind.TheVariants as kinds
use Rattle.b67_table.specs.declared.InterruptKind.TheVariants.{StackUnderflow, InvalidOperand}
use Rattle.b67_table.specs.declared.Private.{Private}
use Rattle.b67_table.specs.Effect.{Effect, gives, interrupts, ◌>>=◌}
use Rattle.b67_table.specs.Limits.{most_cells}
use Rattle.b67_table.specs.Private.{floor, frame, top, with_words, pop, push, whole_of_word, bits_of}
use Rattle.b67_table.specs.PrivateRows.{onward, wholes, arithmetic, relation, negated, logic, agreement, complemented, dropped, exchanged, doubled, stuffed, stuff, reference, open_mark, marked_at, mark, make_cells, by_bit, branch}
use Rattle.b67_table.specs.Rows.{private_part, row, plain_row, acts, branch_turn}
use Rattle.b67_table.specs.Table.{part_by, private_op}
use Rattle.b67_table.proofs.Keeping.{Gives, then_gives, anything, by_test}

module _ (n : ℕ) where
  abbrev pub Above : Private → Type 0
  Above q = n ≤ floor q.regs

  abbrev pub Taken : Word × Private → Type 0
  Taken t = n ≤ floor t.1.regs

  top_above : (m : Private) (ws : List Word) → n ≤ floor m.regs → Gives Taken (top ws >>= (λ (t : Word × List Word). gives (t.0, with_words m (m.regs.s - 1) t.1)))
  top_above m [] h = tt
  top_above m (w ∷ ws) h = h

  pop_above : (m : Private) → n ≤ floor m.regs → Gives Taken (pop m)
  pop_above m h = by_test Taken (nat_lt (floor m.regs) m.regs.s) _ (interrupts StackUnderflow) (top_above m m.words h) tt

  pub Rises : (Private → Effect Private) → Type 0
  Rises change = (m : Private) → n ≤ floor m.regs → floor m.regs ≤ m.regs.s → Gives Above (change m)

  onward_rises : (change : Private → Effect Private) (next : ℕ) → Rises change → Rises (onward change next)
  unfolding Rises
  onward_rises change next r m h s = then_gives Above Above (change m) _ (r m h s) (λ q k. k)

  wholes_rises : (made : ℤ → ℤ → Effect Word) → Rises (wholes made)
  unfolding Rises
  wholes_rises made m h s =
      then_gives Taken Above (pop m) _ (pop_above m h) (λ x kx. then_gives Taken Above (pop x.1) _ (pop_above x.1 kx) (λ y ky.
      then_gives (λ (a : ℤ). Unit {0}) Above (whole_of_word y.0) _ (anything (whole_of_word y.0)) (λ a u.
      then_gives (λ (b : ℤ). Unit {0}) Above (whole_of_word x.0) _ (anything (whole_of_word x.0)) (λ b v.
      then_gives (λ (w : Word). Unit {0}) Above (made a b) _ (anything (made a b)) (λ w i. ky)))))

  logic_rises : (op : ℕ → ℕ → ℕ) → Rises (logic op)
  unfolding Rises
  logic_rises op m h s =
      then_gives Taken Above (pop m) _ (pop_above m h) (λ x kx. then_gives Taken Above (pop x.1) _ (pop_above x.1 kx) (λ y ky.
      then_gives (λ (a : ℕ). Unit {0}) Above (bits_of y.0) _ (anything (bits_of y.0)) (λ a u.
      then_gives (λ (b : ℕ). Unit {0}) Above (bits_of x.0) _ (anything (bits_of x.0)) (λ b v. ky))))

  negated_rises : Rises negated
  unfolding Rises
  negated_rises m h s =
      then_gives Taken Above (pop m) _ (pop_above m h) (λ x kx. then_gives (λ (a : ℤ). Unit {0}) Above (whole_of_word x.0) _ (anything (whole_of_word x.0)) (λ a u. kx))

  complemented_rises : Rises complemented
  unfolding Rises
  complemented_rises m h s =
      then_gives Taken Above (pop m) _ (pop_above m h) (λ x kx. then_gives (λ (a : ℕ). Unit {0}) Above (bits_of x.0) _ (anything (bits_of x.0)) (λ a u. kx))

  dropped_rises : Rises dropped
  unfolding Rises
  dropped_rises m h s = then_gives Taken Above (pop m) _ (pop_above m h) (λ x kx. kx)

  exchanged_rises : Rises exchanged
  unfolding Rises
  exchanged_rises m h s =
      then_gives Taken Above (pop m) _ (pop_above m h) (λ x kx. then_gives Taken Above (pop x.1) _ (pop_above x.1 kx) (λ y ky. ky))

  doubled_rises : Rises doubled
  unfolding Rises
  doubled_rises m h s = then_gives Taken Above (pop m) _ (pop_above m h) (λ x kx. kx)

  stuff_rises : Rises stuff
  unfolding Rises
  stuff_rises m h s =
      then_gives Taken Above (pop m) _ (pop_above m h) (λ x kx.
      then_gives (λ (w : Word). Unit {0}) Above (stuffed m x.0 (as_irw x.0)) _ (anything (stuffed m x.0 (as_irw x.0))) (λ w u. kx))

  mark_rises : Rises mark
  unfolding Rises
  mark_rises m h s =
      by_test Above (nat_lt m.regs.f m.regs.s) (gives (marked_at m.regs.s (push (open_mark (m.regs.s - m.regs.f)) m))) (interrupts InvalidOperand) h tt

  cells_rises : Rises make_cells
  unfolding Rises
  cells_rises m h s =
      by_test Above (nat_le (m.regs.s - (frame m.regs + 2)) most_cells) (gives (record m { regs = record m.regs { cells = m.regs.s - (frame m.regs + 2) } }))
      (interrupts InvalidOperand) (omega (arith, h, s)) tt

  nothing_rises : Rises gives
  unfolding Rises
  nothing_rises m h s = h

  bit_rises : (kind : BranchKind) (target next : ℕ) → Rises (by_bit kind target next)
  unfolding Rises
  bit_rises kind target next m h s =
      then_gives Taken Above (pop m) _ (pop_above m h) (λ x kx. then_gives (λ (a : ℕ). Unit {0}) Above (bits_of x.0) _ (anything (bits_of x.0)) (λ a u. kx))

  branch_rises : (kind : BranchKind) (target next : ℕ) → Rises (branch kind target next)
  unfolding Rises
  branch_rises Brun target next m h s = h
  branch_rises Brfl target next m h s = bit_rises Brfl target next m h s
  branch_rises Brtr target next m h s = bit_rises Brtr target next m h s

  arithmetic_rises : (c : Calculation) → Rises (arithmetic (calculated c))
  arithmetic_rises c = wholes_rises _

  relation_rises : (r : Relation) → Rises (relation (related r))
  relation_rises r = wholes_rises (λ (a b : ℤ). gives (truth (related r a b)))

  word_rises : (w : Word) (next : ℕ) → Rises (onward (λ (q : Private). gives (push w q)) next)
  unfolding Rises
  word_rises w next m h s = h

  -- ---- every operator

  plain_rises : (kind : PlainKind) (next : ℕ) → Rises (part_by (plain_row kind) next)
  unfolding Rises
  plain_rises kinds.Add next m h s = onward_rises (arithmetic (calculated Sum)) next (arithmetic_rises Sum) m h s
  plain_rises kinds.Subt next m h s = onward_rises (arithmetic (calculated Difference)) next (arithmetic_rises Difference) m h s
  plain_rises kinds.Mult next m h s = onward_rises (arithmetic (calculated Product)) next (arithmetic_rises Product) m h s
  plain_rises kinds.Divd next m h s = onward_rises (arithmetic (calculated WholeQuotient)) next (arithmetic_rises WholeQuotient) m h s
  plain_rises kinds.Idiv next m h s = onward_rises (arithmetic (calculated TruncatedQuotient)) next (arithmetic_rises TruncatedQuotient) m h s
  plain_rises kinds.Rdiv next m h s = onward_rises (arithmetic (calculated Remainder)) next (arithmetic_rises Remainder) m h s
  plain_rises kinds.Less next m h s = onward_rises (relation (related Less)) next (relation_rises Less) m h s
  plain_rises kinds.Greq next m h s = onward_rises (relation (related GreaterOrEqual)) next (relation_rises GreaterOrEqual) m h s
  plain_rises kinds.Grtr next m h s = onward_rises (relation (related Greater)) next (relation_rises Greater) m h s
  plain_rises kinds.Lseq next m h s = onward_rises (relation (related LessOrEqual)) next (relation_rises LessOrEqual) m h s
  plain_rises kinds.Equl next m h s = onward_rises (relation (related Equal)) next (relation_rises Equal) m h s
  plain_rises kinds.Neql next m h s = onward_rises (relation (related NotEqual)) next (relation_rises NotEqual) m h s
  plain_rises kinds.Chsn next m h s = onward_rises negated next negated_rises m h s
  plain_rises kinds.Land next m h s = onward_rises (logic bit_and) next (logic_rises bit_and) m h s
  plain_rises kinds.Lor next m h s = onward_rises (logic bit_or) next (logic_rises bit_or) m h s
  plain_rises kinds.Lnot next m h s = onward_rises complemented next complemented_rises m h s
  plain_rises kinds.Leqv next m h s = onward_rises (logic agreement) next (logic_rises agreement) m h s
  plain_rises kinds.Exit next m h s = tt
  plain_rises kinds.Nxln next m h s = tt
  plain_rises kinds.Indx next m h s = tt
  plain_rises kinds.Retn next m h s = tt
  plain_rises kinds.Entr next m h s = tt
  plain_rises kinds.Eval next m h s = tt
  plain_rises kinds.Nxlv next m h s = tt
  plain_rises kinds.Mkst next m h s = onward_rises mark next mark_rises m h s
  plain_rises kinds.Stff next m h s = onward_rises stuff next stuff_rises m h s
  plain_rises kinds.Zero next m h s = word_rises (operand (pos 0)) next m h s
  plain_rises kinds.One next m h s = word_rises (operand (pos 1)) next m h s
  plain_rises kinds.Push next m h s = onward_rises make_cells next cells_rises m h s
  plain_rises kinds.Dlet next m h s = onward_rises dropped next dropped_rises m h s
  plain_rises kinds.Exch next m h s = onward_rises exchanged next exchanged_rises m h s
  plain_rises kinds.Dupl next m h s = onward_rises doubled next doubled_rises m h s
  plain_rises kinds.Stod next m h s = tt
  plain_rises kinds.Ston next m h s = tt
  plain_rises kinds.Lodt next m h s = tt
  plain_rises kinds.Load next m h s = tt
  plain_rises kinds.Noop next m h s = onward_rises gives next nothing_rises m h s

  forward_rises : (b : Bool) (kind : BranchKind) (target next : ℕ) → Rises (part_by (cond b (private_part (branch kind target)) (acts (branch_turn kind target))) next)
  unfolding Rises
  forward_rises true kind target next m h s = branch_rises kind target next m h s
  forward_rises false kind target next m h s = tt

  op_rises : (op : Operator) (at next : ℕ) → Rises (part_by (row op at) next)
  unfolding Rises row
  op_rises (ops.Valc couple) at next m h s = tt
  op_rises (ops.Namc couple) at next m h s = word_rises (reference couple) next m h s
  op_rises (ops.Lt8 n) at next m h s = word_rises (operand (pos n)) next m h s
  op_rises (ops.Lt16 n) at next m h s = word_rises (operand (pos n)) next m h s
  op_rises (ops.Lt48 n) at next m h s = word_rises (word 0 n) next m h s
  op_rises (ops.Mpcw n) at next m h s = word_rises (word 7 n) next m h s
  op_rises (ops.Branch kind target) at next m h s = forward_rises (nat_lt at target) kind target next m h s
  op_rises (ops.Plain kind) at next m h s = plain_rises kind next m h s

  pub private_op_rises : (op : Operator) (at next : ℕ) (m q : Private) → n ≤ floor m.regs → floor m.regs ≤ m.regs.s → private_op op at next m ≡ gives q → n ≤ floor q.regs
  unfolding private_op Rises
  private_op_rises op at next m q h s e = subst (Gives Above) e (op_rises op at next m h s)
