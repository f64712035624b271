-- A private operator does the same where more words lie below those that it takes off, or it misses a word of which its process has one.
use Rattle.std.proofs.Common.{◌≡◌, ◌⊎◌, inl, inr, refl, sym, ap, subst, ◌∙◌, ℕ, suc, ◌+◌, ◌-◌, ◌<◌, ◌≤◌, Bool, true, false, cond, ℤ, pos, List, [], ◌∷◌, ◌++◌, length, Option, Some, None, arith}
use Rattle.std.specs.Prelude.{◌&&◌, nat_lt, nat_le, bit_and, bit_or}
use Rattle.std.proofs.lemmas.Bool.{leb-true, lt-ltb, and_parts, and_from, false_from_ne_true, true≢false}
use Rattle.b67_num.specs.declared.Calculation.{Calculation}
use Rattle.b67_num.specs.declared.Relation.{Relation}
use Rattle.b67_num.specs.declared.Calculation.TheVariants.{Sum, Difference, Product, WholeQuotient, TruncatedQuotient, Remainder}
use Rattle.b67_num.specs.declared.Relation.TheVariants.{Less, LessOrEqual, Equal, NotEqual, GreaterOrEqual, Greater}
use Rattle.b67_num.specs.Whole.{related, calculated}
use Rattle.b67_word.specs.Word.{Word, word, operand, truth}
use Rattle.b67_control.specs.declared.Irw.{Irw}
use Rattle.b67_control.specs.Control.{as_irw}
use Rattle.b67_ops.specs.declared.BranchKind.{BranchKind}
use Rattle.b67_ops.specs.declared.BranchKind.TheVariants.{Brfl, Brtr, Brun}
use Rattle.b67_ops.specs.declared.Operator.{Operator}
use Rattle.b67_ops.specs.declared.Operator.TheVariants as ops
use Rattle.b67_ops.specs.declared.PlainKind.{PlainKind}
use Rattle.b67_ops.specs.declared.PlainKind.TheVariants as kinds
use Rattle.b67_table.specs.declared.InterruptKind.TheVariants.{StackUnderflow, InvalidOperand}
use Rattle.b67_table.specs.declared.Private.{Private}
use Rattle.b67_table.specs.Effect.{Effect, gives, faults, interrupts, ◌>>=◌}
use Rattle.b67_table.specs.Limits.{most_cells}
use Rattle.b67_table.specs.Private.{floor, frame, top, with_words, pop, push, whole_of_word, bits_of}
use Rattle.b67_table.specs.PrivateRows.{pointed, onward, wholes, arithmetic, relation, negated, logic, agreement, complemented, dropped, exchanged, doubled, stuffed, stuff, reference, open_mark, marked_at, mark, make_cells, by_bit, branch}
use Rattle.b67_table.specs.Rows.{private_part, row, plain_row, acts, branch_turn}
use Rattle.b67_table.specs.Table.{part_by, private_op}
use Rattle.b67_table.proofs.Keeping.{Gives}

-- An operator takes two words off at most. Fewer are there, and they do not reach down to the floor: so it may miss one that its process has.
abbrev pub is_short : Private → Bool
is_short p = nat_lt (length p.words) 2 && nat_lt (floor p.regs + length p.words) p.regs.s

-- fewer words than so many are there, and they do not reach down to the floor
abbrev pub Lacks : ℕ → Private → Type 0
Lacks n m = (length m.words < n) × (floor m.regs + length m.words < m.regs.s)

module _ (lower : List Word) where
  abbrev pub deep : Private → Private
  deep m = record m { words = m.words ++ lower }

  abbrev pub deepened : Effect Private → Effect Private
  deepened (gives m) = gives (deep m)
  deepened (faults kind) = faults kind
  deepened (interrupts kind) = interrupts kind

  abbrev pub taken : Effect (Word × Private) → Effect (Word × Private)
  taken (gives t) = gives (t.0, deep t.1)
  taken (faults kind) = faults kind
  taken (interrupts kind) = interrupts kind

  -- what is done with more words below is the same, or a word is missed of which the process has one
  abbrev pub Deepens : ℕ → Private → Effect Private → Effect Private → Type 0
  Deepens n m e f = (e ≡ deepened f) ⊎ ((f ≡ interrupts StackUnderflow) × Lacks n m)

  -- ---- taking a word

  abbrev pub Left : Private → Word × Private → Type 0
  Left m t = Lacks 1 t.1 → Lacks 2 m

  abbrev pub after_top : Private → List Word → Effect (Word × Private)
  after_top m ws = top ws >>= (λ (t : Word × List Word). gives (t.0, with_words m (m.regs.s - 1) t.1))

  abbrev pub Takes : Private → Effect (Word × Private) → Effect (Word × Private) → Type 0
  Takes m e f = (e ≡ taken f) ⊎ ((f ≡ interrupts StackUnderflow) × Lacks 1 m)

  pop_by : (m : Private) (b : Bool) (ws : List Word) → nat_lt (floor m.regs) m.regs.s ≡ b → m.words ≡ ws
      → Takes m (cond b (after_top (deep m) (ws ++ lower)) (interrupts StackUnderflow)) (cond b (after_top m ws) (interrupts StackUnderflow))
  pop_by m true [] h e =
      let none : length m.words ≡ 0 = ap length e in
      inr (refl, (omega (arith, none), omega (arith, none, leb-true (suc (floor m.regs)) m.regs.s h)))
  pop_by m true (w ∷ ws) h e = inl refl
  pop_by m false ws h e = inl refl

  pop_deep : (m : Private) → Takes m (pop (deep m)) (pop m)
  pop_deep m = pop_by m (nat_lt (floor m.regs) m.regs.s) m.words refl refl

  left_by : (m : Private) (b : Bool) (ws : List Word) → nat_lt (floor m.regs) m.regs.s ≡ b → m.words ≡ ws
      → Gives (Left m) (cond b (after_top m ws) (interrupts StackUnderflow))
  left_by m true [] h e = tt
  left_by m true (w ∷ ws) h e = λ l.
      let one : length m.words ≡ suc (length ws) = ap length e in
      (omega (arith, one, l.0), omega (arith, one, leb-true (suc (floor m.regs)) m.regs.s h, l.1))
  left_by m false ws h e = tt

  pop_left : (m : Private) → Gives (Left m) (pop m)
  pop_left m = left_by m (nat_lt (floor m.regs) m.regs.s) m.words refl refl

  -- ---- one after the other

  lacking : (m a : Private) (n k : ℕ) (e f : Effect Private) → (Lacks n a → Lacks k m) → Deepens n a e f → Deepens k m e f
  lacking m a n k e f more (inl same) = inl same
  lacking m a n k e f more (inr l) = inr (l.0, more l.1)

  -- one word is taken at most
  by_one : (m : Private) (e f : Effect Private) → Deepens 1 m e f → Deepens 2 m e f
  by_one m e f d = lacking m m 1 2 e f (λ l. (omega (arith, l.0), l.1)) d

  last_taken : (e : Effect (Word × Private)) (f g : Word × Private → Effect Private) → ((t : Word × Private) → f (t.0, deep t.1) ≡ deepened (g t))
      → (taken e >>= f) ≡ deepened (e >>= g)
  last_taken (gives t) f g h = h t
  last_taken (faults kind) f g h = refl
  last_taken (interrupts kind) f g h = refl

  last_by : (m : Private) (d e : Effect (Word × Private)) (f g : Word × Private → Effect Private) → ((t : Word × Private) → f (t.0, deep t.1) ≡ deepened (g t))
      → Takes m d e → Deepens 1 m (d >>= f) (e >>= g)
  last_by m d e f g h (inl same) = inl (ap (λ (x : Effect (Word × Private)). x >>= f) same ∙ last_taken e f g h)
  last_by m d e f g h (inr l) = inr (ap (λ (x : Effect (Word × Private)). x >>= g) l.0, l.1)

  -- a word is taken, and no other after it
  pop_last : (m : Private) (f g : Word × Private → Effect Private) → ((t : Word × Private) → f (t.0, deep t.1) ≡ deepened (g t))
      → Deepens 1 m (pop (deep m) >>= f) (pop m >>= g)
  pop_last m f g h = last_by m (pop (deep m)) (pop m) f g h (pop_deep m)

  after_taken : (m : Private) (e : Effect (Word × Private)) (f g : Word × Private → Effect Private) → Gives (Left m) e
      → ((t : Word × Private) → Deepens 1 t.1 (f (t.0, deep t.1)) (g t)) → Deepens 2 m (taken e >>= f) (e >>= g)
  after_taken m (gives t) f g k h = lacking m t.1 1 2 (f (t.0, deep t.1)) (g t) k (h t)
  after_taken m (faults kind) f g k h = inl refl
  after_taken m (interrupts kind) f g k h = inl refl

  then_by : (m : Private) (d e : Effect (Word × Private)) (f g : Word × Private → Effect Private) → Gives (Left m) e
      → ((t : Word × Private) → Deepens 1 t.1 (f (t.0, deep t.1)) (g t)) → Takes m d e → Deepens 2 m (d >>= f) (e >>= g)
  then_by m d e f g k h (inl same) = subst (λ (x : Effect (Word × Private)). Deepens 2 m (x >>= f) (e >>= g)) (sym same) (after_taken m e f g k h)
  then_by m d e f g k h (inr l) = inr (ap (λ (x : Effect (Word × Private)). x >>= g) l.0, (omega (arith, l.1.0), l.1.1))

  -- a word is taken, and another at most after it
  pop_then : (m : Private) (f g : Word × Private → Effect Private) → ((t : Word × Private) → Deepens 1 t.1 (f (t.0, deep t.1)) (g t))
      → Deepens 2 m (pop (deep m) >>= f) (pop m >>= g)
  pop_then m f g h = then_by m (pop (deep m)) (pop m) f g (pop_left m) h (pop_deep m)

  value_then : {A : Type 0} (e : Effect A) (f g : A → Effect Private) → ((a : A) → f a ≡ deepened (g a)) → (e >>= f) ≡ deepened (e >>= g)
  value_then (gives a) f g h = h a
  value_then (faults kind) f g h = refl
  value_then (interrupts kind) f g h = refl

  by_test : (b : Bool) (e f : Effect Private) → cond b (deepened e) (deepened f) ≡ deepened (cond b e f)
  by_test true e f = refl
  by_test false e f = refl

  -- ---- rows

  pub Deep : (Private → Effect Private) → Type 0
  Deep change = (m : Private) → Deepens 2 m (change (deep m)) (change m)

  pointed_deep : (next : ℕ) (e : Effect Private) → (deepened e >>= (λ (q : Private). gives (pointed next q))) ≡ deepened (e >>= (λ (q : Private). gives (pointed next q)))
  pointed_deep next (gives m) = refl
  pointed_deep next (faults kind) = refl
  pointed_deep next (interrupts kind) = refl

  onward_by : (next : ℕ) (m : Private) (e f : Effect Private) → Deepens 2 m e f
      → Deepens 2 m (e >>= (λ (q : Private). gives (pointed next q))) (f >>= (λ (q : Private). gives (pointed next q)))
  onward_by next m e f (inl same) = inl (ap (λ (x : Effect Private). x >>= (λ (q : Private). gives (pointed next q))) same ∙ pointed_deep next f)
  onward_by next m e f (inr l) = inr (ap (λ (x : Effect Private). x >>= (λ (q : Private). gives (pointed next q))) l.0, l.1)

  onward_deep : (change : Private → Effect Private) (next : ℕ) → Deep change → Deep (onward change next)
  unfolding Deep
  onward_deep change next h m = onward_by next m (change (deep m)) (change m) (h m)

  wholes_deep : (made : ℤ → ℤ → Effect Word) → Deep (wholes made)
  unfolding Deep
  wholes_deep made m =
      pop_then m _ _ (λ x. pop_last x.1 _ _ (λ y.
      value_then (whole_of_word y.0) _ _ (λ a. value_then (whole_of_word x.0) _ _ (λ b. value_then (made a b) _ _ (λ w. refl)))))

  logic_deep : (op : ℕ → ℕ → ℕ) → Deep (logic op)
  unfolding Deep
  logic_deep op m =
      pop_then m _ _ (λ x. pop_last x.1 _ _ (λ y. value_then (bits_of y.0) _ _ (λ a. value_then (bits_of x.0) _ _ (λ b. refl))))

  negated_deep : Deep negated
  unfolding Deep
  negated_deep m = by_one m (negated (deep m)) (negated m) (pop_last m _ _ (λ x. value_then (whole_of_word x.0) _ _ (λ a. refl)))

  complemented_deep : Deep complemented
  unfolding Deep
  complemented_deep m = by_one m (complemented (deep m)) (complemented m) (pop_last m _ _ (λ x. value_then (bits_of x.0) _ _ (λ a. refl)))

  dropped_deep : Deep dropped
  unfolding Deep
  dropped_deep m = by_one m (dropped (deep m)) (dropped m) (pop_last m _ _ (λ x. refl))

  exchanged_deep : Deep exchanged
  unfolding Deep
  exchanged_deep m = pop_then m _ _ (λ x. pop_last x.1 _ _ (λ y. refl))

  doubled_deep : Deep doubled
  unfolding Deep
  doubled_deep m = by_one m (doubled (deep m)) (doubled m) (pop_last m _ _ (λ x. refl))

  stuffed_same : (m : Private) (w : Word) (o : Option Irw) → stuffed (deep m) w o ≡ stuffed m w o
  stuffed_same m w None = refl
  stuffed_same m w (Some i) = refl

  stuff_deep : Deep stuff
  unfolding Deep
  stuff_deep m =
      by_one m (stuff (deep m)) (stuff m) (pop_last m _ _ (λ x.
      ap (λ (e : Effect Word). e >>= (λ (w : Word). gives (push w (deep x.1)))) (stuffed_same m x.0 (as_irw x.0))
      ∙ value_then (stuffed m x.0 (as_irw x.0)) _ _ (λ w. refl)))

  mark_deep : Deep mark
  unfolding Deep
  mark_deep m = inl (by_test (nat_lt m.regs.f m.regs.s) (gives (marked_at m.regs.s (push (open_mark (m.regs.s - m.regs.f)) m))) (interrupts InvalidOperand))

  cells_deep : Deep make_cells
  unfolding Deep
  cells_deep m =
      inl
      (by_test (nat_le (m.regs.s - (frame m.regs + 2)) most_cells) (gives (record m { regs = record m.regs { cells = m.regs.s - (frame m.regs + 2) } })) (interrupts InvalidOperand))

  nothing_deep : Deep gives
  unfolding Deep
  nothing_deep m = inl refl

  bit_deep : (kind : BranchKind) (target next : ℕ) → Deep (by_bit kind target next)
  unfolding Deep
  bit_deep kind target next m = by_one m (by_bit kind target next (deep m)) (by_bit kind target next m) (pop_last m _ _ (λ x. value_then (bits_of x.0) _ _ (λ bits. refl)))

  branch_deep : (kind : BranchKind) (target next : ℕ) → Deep (branch kind target next)
  unfolding Deep
  branch_deep Brun target next m = inl refl
  branch_deep Brfl target next m = bit_deep Brfl target next m
  branch_deep Brtr target next m = bit_deep Brtr target next m

  arithmetic_deep : (c : Calculation) → Deep (arithmetic (calculated c))
  arithmetic_deep c = wholes_deep _

  relation_deep : (r : Relation) → Deep (relation (related r))
  relation_deep r = wholes_deep (λ (a b : ℤ). gives (truth (related r a b)))

  word_deep : (w : Word) (next : ℕ) → Deep (onward (λ (q : Private). gives (push w q)) next)
  unfolding Deep
  word_deep w next m = inl refl

  -- ---- every operator

  plain_deep : (kind : PlainKind) (next : ℕ) → Deep (part_by (plain_row kind) next)
  unfolding Deep
  plain_deep kinds.Add next m = onward_deep (arithmetic (calculated Sum)) next (arithmetic_deep Sum) m
  plain_deep kinds.Subt next m = onward_deep (arithmetic (calculated Difference)) next (arithmetic_deep Difference) m
  plain_deep kinds.Mult next m = onward_deep (arithmetic (calculated Product)) next (arithmetic_deep Product) m
  plain_deep kinds.Divd next m = onward_deep (arithmetic (calculated WholeQuotient)) next (arithmetic_deep WholeQuotient) m
  plain_deep kinds.Idiv next m = onward_deep (arithmetic (calculated TruncatedQuotient)) next (arithmetic_deep TruncatedQuotient) m
  plain_deep kinds.Rdiv next m = onward_deep (arithmetic (calculated Remainder)) next (arithmetic_deep Remainder) m
  plain_deep kinds.Less next m = onward_deep (relation (related Less)) next (relation_deep Less) m
  plain_deep kinds.Greq next m = onward_deep (relation (related GreaterOrEqual)) next (relation_deep GreaterOrEqual) m
  plain_deep kinds.Grtr next m = onward_deep (relation (related Greater)) next (relation_deep Greater) m
  plain_deep kinds.Lseq next m = onward_deep (relation (related LessOrEqual)) next (relation_deep LessOrEqual) m
  plain_deep kinds.Equl next m = onward_deep (relation (related Equal)) next (relation_deep Equal) m
  plain_deep kinds.Neql next m = onward_deep (relation (related NotEqual)) next (relation_deep NotEqual) m
  plain_deep kinds.Chsn next m = onward_deep negated next negated_deep m
  plain_deep kinds.Land next m = onward_deep (logic bit_and) next (logic_deep bit_and) m
  plain_deep kinds.Lor next m = onward_deep (logic bit_or) next (logic_deep bit_or) m
  plain_deep kinds.Lnot next m = onward_deep complemented next complemented_deep m
  plain_deep kinds.Leqv next m = onward_deep (logic agreement) next (logic_deep agreement) m
  plain_deep kinds.Exit next m = inl refl
  plain_deep kinds.Nxln next m = inl refl
  plain_deep kinds.Indx next m = inl refl
  plain_deep kinds.Retn next m = inl refl
  plain_deep kinds.Entr next m = inl refl
  plain_deep kinds.Eval next m = inl refl
  plain_deep kinds.Nxlv next m = inl refl
  plain_deep kinds.Mkst next m = onward_deep mark next mark_deep m
  plain_deep kinds.Stff next m = onward_deep stuff next stuff_deep m
  plain_deep kinds.Zero next m = word_deep (operand (pos 0)) next m
  plain_deep kinds.One next m = word_deep (operand (pos 1)) next m
  plain_deep kinds.Push next m = onward_deep make_cells next cells_deep m
  plain_deep kinds.Dlet next m = onward_deep dropped next dropped_deep m
  plain_deep kinds.Exch next m = onward_deep exchanged next exchanged_deep m
  plain_deep kinds.Dupl next m = onward_deep doubled next doubled_deep m
  plain_deep kinds.Stod next m = inl refl
  plain_deep kinds.Ston next m = inl refl
  plain_deep kinds.Lodt next m = inl refl
  plain_deep kinds.Load next m = inl refl
  plain_deep kinds.Noop next m = onward_deep gives next nothing_deep m

  forward_deep : (b : Bool) (kind : BranchKind) (target next : ℕ) → Deep (part_by (cond b (private_part (branch kind target)) (acts (branch_turn kind target))) next)
  unfolding Deep
  forward_deep true kind target next m = branch_deep kind target next m
  forward_deep false kind target next m = inl refl

  op_deep : (op : Operator) (at next : ℕ) → Deep (part_by (row op at) next)
  unfolding Deep row
  op_deep (ops.Valc couple) at next m = inl refl
  op_deep (ops.Namc couple) at next m = word_deep (reference couple) next m
  op_deep (ops.Lt8 n) at next m = word_deep (operand (pos n)) next m
  op_deep (ops.Lt16 n) at next m = word_deep (operand (pos n)) next m
  op_deep (ops.Lt48 n) at next m = word_deep (word 0 n) next m
  op_deep (ops.Mpcw n) at next m = word_deep (word 7 n) next m
  op_deep (ops.Branch kind target) at next m = forward_deep (nat_lt at target) kind target next m
  op_deep (ops.Plain kind) at next m = plain_deep kind next m

  pub private_op_deep : (op : Operator) (at next : ℕ) (m : Private) → Deepens 2 m (private_op op at next (deep m)) (private_op op at next m)
  unfolding private_op Deep
  private_op_deep op at next m = op_deep op at next m

-- ---- where no word is missed

short_lacks : (m : Private) → is_short m ≡ true → Lacks 2 m
short_lacks m e =
    let both = and_parts (nat_lt (length m.words) 2) (nat_lt (floor m.regs + length m.words) m.regs.s) e in
    (leb-true (suc (length m.words)) 2 both.0, leb-true (suc (floor m.regs + length m.words)) m.regs.s both.1)

pub lacks_none : (m : Private) → is_short m ≡ false → Lacks 2 m → ⊥
lacks_none m e l =
    true≢false
    (sym (and_from (nat_lt (length m.words) 2) (nat_lt (floor m.regs + length m.words) m.regs.s) (lt-ltb (length m.words) 2 l.0) (lt-ltb (floor m.regs + length m.words) m.regs.s l.1)) ∙ e)

-- two words are enough, or all down to the floor
pub not_short : (m : Private) → (2 ≤ length m.words) ⊎ (m.regs.s ≤ floor m.regs + length m.words) → is_short m ≡ false
not_short m (inl many) = false_from_ne_true (is_short m) (λ e. let l = short_lacks m e in omega (arith, many, l.0))
not_short m (inr all) = false_from_ne_true (is_short m) (λ e. let l = short_lacks m e in omega (arith, all, l.1))

pub whole_is_enough : (m : Private) → floor m.regs + length m.words ≡ m.regs.s → is_short m ≡ false
whole_is_enough m k = not_short m (inr (omega (arith, k)))
