-- A private operator leaves the floor no lower than it was and no higher than S, and S the number of the words.
use Rattle.std.proofs.Common.{◌≡◌, refl, subst, ℕ, ◌+◌, ◌-◌, ◌<◌, ◌≤◌, Bool, true, false, ℤ, List, [], ◌∷◌, length, cond, arith}
use Rattle.std.specs.Prelude.{nat_lt, nat_le}
use Rattle.std.proofs.lemmas.Bool.{ltb-true}
use Rattle.b67_word.specs.Word.{Word, operand, truth}
use Rattle.b67_ops.specs.declared.Operator.{Operator}
use Rattle.b67_ops.specs.declared.Operator.TheVariants as ops
use Rattle.b67_ops.specs.declared.PlainKind.{PlainKind}
use Rattle.b67_ops.specs.declared.PlainKind.TheVariants as kinds
use Rattle.b67_ops.specs.declared.BranchKind.{BranchKind}
use Rattle.b67_ops.specs.declared.BranchKind.TheVariants.{Brfl, Brtr, Brun}
use Rattle.b67_control.specs.declared.Registers.{Registers}
use Rattle.b67_control.specs.Control.{as_irw}
use Rattle.b67_num.specs.declared.Relation.TheVariants.{Less, LessOrEqual, Equal, NotEqual, GreaterOrEqual, Greater}
use Rattle.b67_num.specs.Whole.{related, negation_of}
use Rattle.b67_segment.specs.declared.code.Code.{Code}
use Rattle.b67_table.specs.declared.InterruptKind.TheVariants.{StackUnderflow, InvalidOperand}
use Rattle.b67_table.specs.declared.Private.{Private}
use Rattle.b67_table.specs.Effect.{Effect, gives, interrupts, ◌>>=◌}
use Rattle.b67_table.specs.Limits.{most_cells}
use Rattle.b67_table.specs.Private.{floor, frame, top, with_words, pop, push, whole_of_word, bits_of}
use Rattle.b67_table.specs.PrivateRows.{pointed, wholes, relation, negated, logic, complemented, dropped, exchanged, doubled, stuffed, stuff, mark, make_cells, is_taken, by_bit, branch}
use Rattle.b67_table.specs.Program.{Program}
use Rattle.b67_table.specs.Rows.{TableRow, private_part, action, row, plain_row, row_of_own, pushes}
use Rattle.b67_table.specs.Table.{part_by}
use Rattle.b67_table.proofs.Keeping.{Gives, then_gives, anything}

by_either : {A : Type 0} (P : A → Type 0) (b : Bool) (e f : Effect A) → (b ≡ true → Gives P e) → Gives P f → Gives P (cond b e f)
by_either P true e f p q = p refl
by_either P false e f p q = q

module _ (base : ℕ) where
  -- so many words lie below the part, and no fewer below its floor
  pub record Lies (m : Private) : Type 0 where
    pub size : base + length m.words ≡ m.regs.s
    pub above : floor m.regs ≤ m.regs.s
    pub low : base ≤ floor m.regs

  Below : Word × Private → Type 0
  Below t = Lies t.1

  took : (m : Private) (ws : List Word) → m.words ≡ ws → Lies m → floor m.regs < m.regs.s
      → Gives Below (top ws >>= (λ (t : Word × List Word). gives (t.0, with_words m (m.regs.s - 1) t.1)))
  unfolding Below
  took m [] e k h = tt
  took m (w ∷ ws) e k h =
      let size : base + length (w ∷ ws) ≡ m.regs.s = subst (λ (us : List Word). base + length us ≡ m.regs.s) e k.size in
      record { size = omega (arith, size); above = omega (arith, h); low = omega (arith, k.low) }

  popped : (m : Private) → Lies m → Gives Below (pop m)
  popped m k = by_either Below (nat_lt (floor m.regs) m.regs.s) _ (interrupts StackUnderflow) (λ b. took m m.words refl k (ltb-true (floor m.regs) m.regs.s b)) tt

  pushed : (w : Word) (m : Private) → Lies m → Lies (push w m)
  pushed w m k = record { size = omega (arith, k.size); above = omega (arith, k.above); low = omega (arith, k.low) }

  -- a change of a part that leaves it so
  pub Fit : (Private → Effect Private) → Type 0
  Fit change = (m : Private) → Lies m → Gives Lies (change m)

  wholes_fit : (made : ℤ → ℤ → Effect Word) → Fit (wholes made)
  unfolding Fit Below
  wholes_fit made m k =
      then_gives Below Lies (pop m) _ (popped m k) (λ x kx. then_gives Below Lies (pop x.1) _ (popped x.1 kx) (λ y ky.
      then_gives (λ (a : ℤ). Unit {0}) Lies (whole_of_word y.0) _ (anything (whole_of_word y.0)) (λ a u.
      then_gives (λ (b : ℤ). Unit {0}) Lies (whole_of_word x.0) _ (anything (whole_of_word x.0)) (λ b v.
      then_gives (λ (w : Word). Unit {0}) Lies (made a b) _ (anything (made a b)) (λ w t. pushed w y.1 ky)))))

  relation_fits : (holds : ℤ → ℤ → Bool) → Fit (relation holds)
  relation_fits holds = wholes_fit (λ (a b : ℤ). gives (truth (holds a b)))

  negated_fits : Fit negated
  unfolding Fit Below
  negated_fits m k =
      then_gives Below Lies (pop m) _ (popped m k) (λ x kx.
      then_gives (λ (a : ℤ). Unit {0}) Lies (whole_of_word x.0) _ (anything (whole_of_word x.0)) (λ a u. pushed (operand (negation_of a)) x.1 kx))

  logic_fits : (op : ℕ → ℕ → ℕ) → Fit (logic op)
  unfolding Fit Below
  logic_fits op m k =
      then_gives Below Lies (pop m) _ (popped m k) (λ x kx. then_gives Below Lies (pop x.1) _ (popped x.1 kx) (λ y ky.
      then_gives (λ (a : ℕ). Unit {0}) Lies (bits_of y.0) _ (anything (bits_of y.0)) (λ a u.
      then_gives (λ (b : ℕ). Unit {0}) Lies (bits_of x.0) _ (anything (bits_of x.0)) (λ b v. pushed _ y.1 ky))))

  complemented_fits : Fit complemented
  unfolding Fit Below
  complemented_fits m k =
      then_gives Below Lies (pop m) _ (popped m k) (λ x kx.
      then_gives (λ (a : ℕ). Unit {0}) Lies (bits_of x.0) _ (anything (bits_of x.0)) (λ a u. pushed _ x.1 kx))

  dropped_fits : Fit dropped
  unfolding Fit Below
  dropped_fits m k = then_gives Below Lies (pop m) _ (popped m k) (λ x kx. kx)

  exchanged_fits : Fit exchanged
  unfolding Fit Below
  exchanged_fits m k =
      then_gives Below Lies (pop m) _ (popped m k) (λ x kx. then_gives Below Lies (pop x.1) _ (popped x.1 kx) (λ y ky.
      pushed y.0 (push x.0 y.1) (pushed x.0 y.1 ky)))

  doubled_fits : Fit doubled
  unfolding Fit Below
  doubled_fits m k = then_gives Below Lies (pop m) _ (popped m k) (λ x kx. pushed x.0 (push x.0 x.1) (pushed x.0 x.1 kx))

  stuff_fits : Fit stuff
  unfolding Fit Below
  stuff_fits m k =
      then_gives Below Lies (pop m) _ (popped m k) (λ x kx.
      then_gives (λ (w : Word). Unit {0}) Lies (stuffed m x.0 (as_irw x.0)) _ (anything (stuffed m x.0 (as_irw x.0))) (λ w u. pushed w x.1 kx))

  mark_fits : Fit mark
  unfolding Fit
  mark_fits m k =
      by_either Lies (nat_lt m.regs.f m.regs.s) _ (interrupts InvalidOperand)
      (λ b. record { size = omega (arith, k.size); above = omega (arith, k.above); low = omega (arith, k.low) }) tt

  cells_fit : Fit make_cells
  unfolding Fit
  cells_fit m k =
      by_either Lies (nat_le (m.regs.s - (frame m.regs + 2)) most_cells) _ (interrupts InvalidOperand)
      (λ b. record { size = k.size; above = omega (arith, k.above); low = omega (arith, k.low, k.size, k.above) }) tt

  kept_fits : Fit gives
  unfolding Fit
  kept_fits m k = k

  push_fits : (w : Word) → Fit (λ (m : Private). gives (push w m))
  unfolding Fit
  push_fits w m k = pushed w m k

  pointed_lies : (place : ℕ) (m : Private) → Lies m → Lies (pointed place m)
  pointed_lies place m k = record { size = k.size; above = k.above; low = k.low }

  -- ---- rows

  pub RowFits : TableRow → Type 0
  RowFits w = (next : ℕ) (m : Private) → Lies m → Gives Lies (part_by w next m)

  own_fits : (change : Private → Effect Private) → Fit change → RowFits (row_of_own change)
  unfolding RowFits Fit
  own_fits change f next m k = then_gives Lies Lies (change m) _ (f m k) (λ q kq. pointed_lies next q kq)

  acts_fits : (program : Code → Registers → ℕ → Program) → RowFits (action program)
  unfolding RowFits
  acts_fits program next m k = tt

  pushes_fits : (w : Word) → RowFits (pushes w)
  pushes_fits w = own_fits (λ (m : Private). gives (push w m)) (push_fits w)

  bit_fits : (kind : BranchKind) (target next : ℕ) (m : Private) → Lies m → Gives Lies (by_bit kind target next m)
  unfolding Below
  bit_fits kind target next m k =
      then_gives Below Lies (pop m) _ (popped m k) (λ x kx.
      then_gives (λ (n : ℕ). Unit {0}) Lies (bits_of x.0) _ (anything (bits_of x.0)) (λ n u. pointed_lies (cond (is_taken kind n) target next) x.1 kx))

  branch_fits : (kind : BranchKind) (target : ℕ) → RowFits (private_part (branch kind target))
  unfolding RowFits
  branch_fits Brun target next m k = pointed_lies target m k
  branch_fits Brfl target next m k = bit_fits Brfl target next m k
  branch_fits Brtr target next m k = bit_fits Brtr target next m k

  either_fits : (b : Bool) (v w : TableRow) → RowFits v → RowFits w → RowFits (cond b v w)
  either_fits true v w p q = p
  either_fits false v w p q = q

  plain_fits : (kind : PlainKind) → RowFits (plain_row kind)
  plain_fits kinds.Exit = acts_fits _
  plain_fits kinds.Nxln = acts_fits _
  plain_fits kinds.Indx = acts_fits _
  plain_fits kinds.Retn = acts_fits _
  plain_fits kinds.Entr = acts_fits _
  plain_fits kinds.Eval = acts_fits _
  plain_fits kinds.Nxlv = acts_fits _
  plain_fits kinds.Stod = acts_fits _
  plain_fits kinds.Ston = acts_fits _
  plain_fits kinds.Lodt = acts_fits _
  plain_fits kinds.Load = acts_fits _
  plain_fits kinds.Less = own_fits (relation (related Less)) (relation_fits (related Less))
  plain_fits kinds.Greq = own_fits (relation (related GreaterOrEqual)) (relation_fits (related GreaterOrEqual))
  plain_fits kinds.Grtr = own_fits (relation (related Greater)) (relation_fits (related Greater))
  plain_fits kinds.Lseq = own_fits (relation (related LessOrEqual)) (relation_fits (related LessOrEqual))
  plain_fits kinds.Equl = own_fits (relation (related Equal)) (relation_fits (related Equal))
  plain_fits kinds.Neql = own_fits (relation (related NotEqual)) (relation_fits (related NotEqual))
  plain_fits kinds.Chsn = own_fits negated negated_fits
  plain_fits kinds.Land = own_fits _ (logic_fits _)
  plain_fits kinds.Lor = own_fits _ (logic_fits _)
  plain_fits kinds.Lnot = own_fits complemented complemented_fits
  plain_fits kinds.Leqv = own_fits _ (logic_fits _)
  plain_fits kinds.Mkst = own_fits mark mark_fits
  plain_fits kinds.Stff = own_fits stuff stuff_fits
  plain_fits kinds.Zero = pushes_fits _
  plain_fits kinds.One = pushes_fits _
  plain_fits kinds.Push = own_fits make_cells cells_fit
  plain_fits kinds.Dlet = own_fits dropped dropped_fits
  plain_fits kinds.Exch = own_fits exchanged exchanged_fits
  plain_fits kinds.Dupl = own_fits doubled doubled_fits
  plain_fits kinds.Noop = own_fits gives kept_fits
  plain_fits _ = own_fits _ (wholes_fit _)

  pub row_fits : (op : Operator) (place : ℕ) → RowFits (row op place)
  unfolding row
  row_fits (ops.Valc couple) place = acts_fits _
  row_fits (ops.Namc couple) place = pushes_fits _
  row_fits (ops.Lt8 n) place = pushes_fits _
  row_fits (ops.Lt16 n) place = pushes_fits _
  row_fits (ops.Lt48 n) place = pushes_fits _
  row_fits (ops.Mpcw n) place = pushes_fits _
  row_fits (ops.Branch kind target) place = either_fits (nat_lt place target) _ _ (branch_fits kind target) (acts_fits _)
  row_fits (ops.Plain kind) place = plain_fits kind

  pub lies_after : (op : Operator) (place next : ℕ) (m new : Private) → Lies m → part_by (row op place) next m ≡ gives new → Lies new
  unfolding RowFits
  lies_after op place next m new k e = subst (Gives Lies) e (row_fits op place next m k)
