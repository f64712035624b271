-- A private operator sets S, F, cells and the pointer's place, and no other register.
use Rattle.std.proofs.Common.{◌≡◌, refl, subst, ℕ, ◌+◌, ◌-◌, Bool, true, false, ℤ, pos, List, [], ◌∷◌, Result, cond}
use Rattle.std.specs.Prelude.{nat_lt, nat_le, bit_and, bit_or}
use Rattle.b67_num.specs.declared.NumFault.{NumFault}
use Rattle.b67_word.specs.Word.{Word, word, operand, truth}
use Rattle.b67_num.specs.declared.Calculation.TheVariants.{Sum, Difference, Product, WholeQuotient, TruncatedQuotient, Remainder}
use Rattle.b67_num.specs.declared.Relation.TheVariants.{Less, LessOrEqual, Equal, NotEqual, GreaterOrEqual, Greater}
use Rattle.b67_num.specs.Whole.{related, calculated}
use Rattle.b67_control.specs.declared.Registers.{Registers}
use Rattle.b67_ops.specs.declared.BranchKind.{BranchKind}
use Rattle.b67_ops.specs.declared.BranchKind.TheVariants.{Brfl, Brtr, Brun}
use Rattle.b67_ops.specs.declared.Operator.{Operator}
use Rattle.b67_ops.specs.declared.Operator.TheVariants as ops
use Rattle.b67_ops.specs.declared.PlainKind.{PlainKind}
use Rattle.b67_ops.specs.declared.PlainKind.TheVariants as kinds
use Rattle.b67_table.specs.declared.InterruptKind.TheVariants.{StackUnderflow, InvalidOperand}
use Rattle.b67_table.specs.Effect.{Effect, gives, faults, interrupts, ◌>>=◌}
use Rattle.b67_table.specs.declared.Private.{Private}
use Rattle.b67_table.specs.Private.{floor, top, pop, push, whole_of_word, bits_of, frame}
use Rattle.b67_table.specs.Limits.{most_cells}
use Rattle.b67_table.specs.PrivateRows.{onward, wholes, arithmetic, relation, negated, logic, complemented, dropped, exchanged, doubled, stuffed, stuff, mark, make_cells, by_bit, branch, result_or_fault, agreement, reference}
use Rattle.b67_table.specs.Rows.{TableRow, private_part, row, plain_row, acts, branch_turn}
use Rattle.b67_table.specs.Table.{part_by, private_op}
use Rattle.b67_table.specs.Privacy.{RegistersStay}

-- what is given has the property
abbrev pub Gives : {A : Type 0} → (A → Type 0) → Effect A → Type 0
Gives P (gives a) = P a
Gives P (faults kind) = Unit {0}
Gives P (interrupts kind) = Unit {0}

pub then_gives : {A B : Type 0} (P : A → Type 0) (Q : B → Type 0) (e : Effect A) (f : A → Effect B) → Gives P e → ((a : A) → P a → Gives Q (f a)) → Gives Q (e >>= f)
then_gives P Q (gives a) f p k = k a p
then_gives P Q (faults kind) f p k = tt
then_gives P Q (interrupts kind) f p k = tt

pub anything : {A : Type 0} (e : Effect A) → Gives (λ (a : A). Unit {0}) e
anything (gives a) = tt
anything (faults kind) = tt
anything (interrupts kind) = tt

pub by_test : {A : Type 0} (P : A → Type 0) (b : Bool) (e f : Effect A) → Gives P e → Gives P f → Gives P (cond b e f)
by_test P true e f p q = p
by_test P false e f p q = q

module _ (r : Registers) where
  Kept : Private → Type 0
  Kept q = RegistersStay r q.regs

  Below : Word × Private → Type 0
  Below t = RegistersStay r t.1.regs

  pop_by : (p : Private) (ws : List Word) → Kept p
      → Gives Below (top ws >>= (λ (t : Word × List Word). gives (t.0, record { regs = record p.regs { s = p.regs.s - 1 }; words = t.1 })))
  unfolding Kept Below
  pop_by p [] k = tt
  pop_by p (w ∷ ws) k = k

  pop_keeps : (p : Private) → Kept p → Gives Below (pop p)
  pop_keeps p k = by_test Below (nat_lt (floor p.regs) p.regs.s) _ (interrupts StackUnderflow) (pop_by p p.words k) tt

  wholes_keep : (made : ℤ → ℤ → Effect Word) (p : Private) → Kept p → Gives Kept (wholes made p)
  unfolding Kept Below
  wholes_keep made p k =
      then_gives Below Kept (pop p) _ (pop_keeps p k) (λ x kx. then_gives Below Kept (pop x.1) _ (pop_keeps x.1 kx) (λ y ky.
      then_gives (λ (a : ℤ). Unit {0}) Kept (whole_of_word y.0) _ (anything (whole_of_word y.0)) (λ a u.
      then_gives (λ (b : ℤ). Unit {0}) Kept (whole_of_word x.0) _ (anything (whole_of_word x.0)) (λ b v.
      then_gives (λ (w : Word). Unit {0}) Kept (made a b) _ (anything (made a b)) (λ w t. ky)))))

  negated_keeps : (p : Private) → Kept p → Gives Kept (negated p)
  unfolding Kept Below
  negated_keeps p k =
      then_gives Below Kept (pop p) _ (pop_keeps p k) (λ x kx.
      then_gives (λ (a : ℤ). Unit {0}) Kept (whole_of_word x.0) _ (anything (whole_of_word x.0)) (λ a u. kx))

  logic_keeps : (op : ℕ → ℕ → ℕ) (p : Private) → Kept p → Gives Kept (logic op p)
  unfolding Kept Below
  logic_keeps op p k =
      then_gives Below Kept (pop p) _ (pop_keeps p k) (λ x kx. then_gives Below Kept (pop x.1) _ (pop_keeps x.1 kx) (λ y ky.
      then_gives (λ (a : ℕ). Unit {0}) Kept (bits_of y.0) _ (anything (bits_of y.0)) (λ a u.
      then_gives (λ (b : ℕ). Unit {0}) Kept (bits_of x.0) _ (anything (bits_of x.0)) (λ b v. ky))))

  complemented_keeps : (p : Private) → Kept p → Gives Kept (complemented p)
  unfolding Kept Below
  complemented_keeps p k =
      then_gives Below Kept (pop p) _ (pop_keeps p k) (λ x kx.
      then_gives (λ (a : ℕ). Unit {0}) Kept (bits_of x.0) _ (anything (bits_of x.0)) (λ a u. kx))

  dropped_keeps : (p : Private) → Kept p → Gives Kept (dropped p)
  unfolding Kept Below
  dropped_keeps p k = then_gives Below Kept (pop p) _ (pop_keeps p k) (λ x kx. kx)

  exchanged_keeps : (p : Private) → Kept p → Gives Kept (exchanged p)
  unfolding Kept Below
  exchanged_keeps p k =
      then_gives Below Kept (pop p) _ (pop_keeps p k) (λ x kx. then_gives Below Kept (pop x.1) _ (pop_keeps x.1 kx) (λ y ky.
      ky))

  doubled_keeps : (p : Private) → Kept p → Gives Kept (doubled p)
  unfolding Kept Below
  doubled_keeps p k =
      then_gives Below Kept (pop p) _ (pop_keeps p k) (λ x kx. kx)

  stuff_keeps : (p : Private) → Kept p → Gives Kept (stuff p)
  unfolding Kept Below
  stuff_keeps p k =
      then_gives Below Kept (pop p) _ (pop_keeps p k) (λ x kx.
      then_gives (λ (w : Word). Unit {0}) Kept (stuffed p x.0 _) _ (anything (stuffed p x.0 _)) (λ w u. kx))

  mark_keeps : (p : Private) → Kept p → Gives Kept (mark p)
  unfolding Kept
  mark_keeps p k =
      by_test Kept (nat_lt p.regs.f p.regs.s) _ (interrupts InvalidOperand) k tt

  cells_keep : (p : Private) → Kept p → Gives Kept (make_cells p)
  unfolding Kept
  cells_keep p k = by_test Kept (nat_le (p.regs.s - (frame p.regs + 2)) most_cells) _ (interrupts InvalidOperand) k tt

  onward_keeps : (change : Private → Effect Private) (next : ℕ) (p : Private) → Gives Kept (change p) → Gives Kept (onward change next p)
  unfolding Kept
  onward_keeps change next p k = then_gives Kept Kept (change p) _ k (λ q kq. kq)

  arithmetic_row : (op : ℤ → ℤ → Result ℤ NumFault) (next : ℕ) (p : Private) → Kept p → Gives Kept (onward (arithmetic op) next p)
  arithmetic_row op next p k =
      onward_keeps (arithmetic op) next p (wholes_keep (λ (a b : ℤ). result_or_fault (op a b) >>= (λ (z : ℤ). gives (operand z))) p k)

  relation_row : (holds : ℤ → ℤ → Bool) (next : ℕ) (p : Private) → Kept p → Gives Kept (onward (relation holds) next p)
  relation_row holds next p k = onward_keeps (relation holds) next p (wholes_keep (λ (a b : ℤ). gives (truth (holds a b))) p k)

  logic_row : (op : ℕ → ℕ → ℕ) (next : ℕ) (p : Private) → Kept p → Gives Kept (onward (logic op) next p)
  logic_row op next p k = onward_keeps (logic op) next p (logic_keeps op p k)

  push_row : (w : Word) (next : ℕ) (p : Private) → Kept p → Gives Kept (onward (λ (q : Private). gives (push w q)) next p)
  unfolding Kept
  push_row w next p k = onward_keeps (λ (q : Private). gives (push w q)) next p k

  bit_keeps : (kind : BranchKind) (target next : ℕ) (p : Private) → Kept p → Gives Kept (by_bit kind target next p)
  unfolding Kept Below
  bit_keeps kind target next p k =
      then_gives Below Kept (pop p) _ (pop_keeps p k) (λ x kx.
      then_gives (λ (a : ℕ). Unit {0}) Kept (bits_of x.0) _ (anything (bits_of x.0)) (λ a u. kx))

  branch_keeps : (kind : BranchKind) (target next : ℕ) (p : Private) → Kept p → Gives Kept (branch kind target next p)
  unfolding Kept
  branch_keeps Brun target next p k = k
  branch_keeps Brfl target next p k = bit_keeps Brfl target next p k
  branch_keeps Brtr target next p k = bit_keeps Brtr target next p k

  plain_keeps : (kind : PlainKind) (next : ℕ) (p : Private) → Kept p → Gives Kept (part_by (plain_row kind) next p)
  unfolding Kept
  plain_keeps kinds.Add next p k = arithmetic_row (calculated Sum) next p k
  plain_keeps kinds.Subt next p k = arithmetic_row (calculated Difference) next p k
  plain_keeps kinds.Mult next p k = arithmetic_row (calculated Product) next p k
  plain_keeps kinds.Divd next p k = arithmetic_row (calculated WholeQuotient) next p k
  plain_keeps kinds.Idiv next p k = arithmetic_row (calculated TruncatedQuotient) next p k
  plain_keeps kinds.Rdiv next p k = arithmetic_row (calculated Remainder) next p k
  plain_keeps kinds.Less next p k = relation_row (related Less) next p k
  plain_keeps kinds.Greq next p k = relation_row (related GreaterOrEqual) next p k
  plain_keeps kinds.Grtr next p k = relation_row (related Greater) next p k
  plain_keeps kinds.Lseq next p k = relation_row (related LessOrEqual) next p k
  plain_keeps kinds.Equl next p k = relation_row (related Equal) next p k
  plain_keeps kinds.Neql next p k = relation_row (related NotEqual) next p k
  plain_keeps kinds.Chsn next p k = onward_keeps negated next p (negated_keeps p k)
  plain_keeps kinds.Land next p k = logic_row bit_and next p k
  plain_keeps kinds.Lor next p k = logic_row bit_or next p k
  plain_keeps kinds.Lnot next p k = onward_keeps complemented next p (complemented_keeps p k)
  plain_keeps kinds.Leqv next p k = logic_row agreement next p k
  plain_keeps kinds.Exit next p k = tt
  plain_keeps kinds.Nxln next p k = tt
  plain_keeps kinds.Indx next p k = tt
  plain_keeps kinds.Retn next p k = tt
  plain_keeps kinds.Entr next p k = tt
  plain_keeps kinds.Eval next p k = tt
  plain_keeps kinds.Nxlv next p k = tt
  plain_keeps kinds.Mkst next p k = onward_keeps mark next p (mark_keeps p k)
  plain_keeps kinds.Stff next p k = onward_keeps stuff next p (stuff_keeps p k)
  plain_keeps kinds.Zero next p k = push_row (operand (pos 0)) next p k
  plain_keeps kinds.One next p k = push_row (operand (pos 1)) next p k
  plain_keeps kinds.Push next p k = onward_keeps make_cells next p (cells_keep p k)
  plain_keeps kinds.Dlet next p k = onward_keeps dropped next p (dropped_keeps p k)
  plain_keeps kinds.Exch next p k = onward_keeps exchanged next p (exchanged_keeps p k)
  plain_keeps kinds.Dupl next p k = onward_keeps doubled next p (doubled_keeps p k)
  plain_keeps kinds.Stod next p k = tt
  plain_keeps kinds.Ston next p k = tt
  plain_keeps kinds.Lodt next p k = tt
  plain_keeps kinds.Load next p k = tt
  plain_keeps kinds.Noop next p k = onward_keeps gives next p k

  forward_keeps : (b : Bool) (kind : BranchKind) (target next : ℕ) (program : TableRow) (p : Private) → Gives Kept (part_by program next p) → Kept p
      → Gives Kept (part_by (cond b (private_part (branch kind target)) program) next p)
  forward_keeps true kind target next program p e k = branch_keeps kind target next p k
  forward_keeps false kind target next program p e k = e

  op_keeps : (op : Operator) (at next : ℕ) (p : Private) → Kept p → Gives Kept (private_op op at next p)
  unfolding Kept private_op row
  op_keeps (ops.Valc couple) at next p k = tt
  op_keeps (ops.Namc couple) at next p k = push_row (reference couple) next p k
  op_keeps (ops.Lt8 n) at next p k = push_row (operand (pos n)) next p k
  op_keeps (ops.Lt16 n) at next p k = push_row (operand (pos n)) next p k
  op_keeps (ops.Lt48 n) at next p k = push_row (word 0 n) next p k
  op_keeps (ops.Mpcw n) at next p k = push_row (word 7 n) next p k
  op_keeps (ops.Branch kind target) at next p k = forward_keeps (nat_lt at target) kind target next (acts (branch_turn kind target)) p tt k
  op_keeps (ops.Plain kind) at next p k = plain_keeps kind next p k

pub private_keeps : (op : Operator) (at next : ℕ) (p q : Private) → private_op op at next p ≡ gives q → RegistersStay p.regs q.regs
unfolding Kept
private_keeps op at next p q e = subst (λ (f : Effect Private). Gives (Kept p.regs) f) e (op_keeps p.regs op at next p (refl, refl, refl, refl, refl, refl))
