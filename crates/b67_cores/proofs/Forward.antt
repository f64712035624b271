-- Private operators go forward.
use Rattle.std.proofs.Common.{◌≡◌, refl, sym, subst, ℕ, ◌+◌, ◌<◌, ◌≤◌, Bool, true, false, cond, arith}
use Rattle.std.specs.Prelude.{nat_lt, if◌then◌else◌}
use Rattle.std.proofs.lemmas.Bool.{ltb-true}
use Rattle.b67_word.specs.Word.{Word}
use Rattle.b67_control.specs.declared.Registers.{Registers}
use Rattle.b67_ops.specs.declared.TheConstants.{MOST_LEVEL}
use Rattle.b67_ops.specs.declared.Operator.{Operator}
use Rattle.b67_ops.specs.declared.Operator.TheVariants as ops
use Rattle.b67_ops.specs.declared.PlainKind.{PlainKind}
use Rattle.b67_ops.specs.declared.PlainKind.TheVariants as kinds
use Rattle.b67_ops.specs.declared.BranchKind.{BranchKind}
use Rattle.b67_ops.specs.declared.BranchKind.TheVariants.{Brfl, Brtr, Brun}
use Rattle.b67_ops.proofs.Laws.{Stands_within}
use Rattle.b67_segment.specs.declared.code.Code.{Code}
use Rattle.b67_segment.specs.declared.code.Pointer.{Pointer}
use Rattle.b67_segment.proofs.Fetches.{fetched_ok}
use Rattle.b67_table.specs.declared.Private.{Private}
use Rattle.b67_table.specs.Effect.{Effect, gives}
use Rattle.b67_table.specs.Private.{pop, push, bits_of}
use Rattle.b67_table.specs.PrivateRows.{onward, is_taken, by_bit, branch}
use Rattle.b67_table.specs.Program.{Program}
use Rattle.b67_table.specs.Rows.{TableRow, private_part, action, row, plain_row, row_of_own, pushes, acts, branch_turn}
use Rattle.b67_table.specs.Table.{private_op, part_by}
use Rattle.b67_table.proofs.Keeping.{Gives, then_gives, anything}
use Rattle.b67_cores.specs.Cores.{Core, part_of_core, CoreStep, CoreSteps, here, onward as then_on}
use Rattle.b67_cores.specs.Stretches.{StepsGoForward}
use Rattle.b67_cores.proofs.Performing.{step_keeps}

module _ (place : ℕ) where
  -- the pointer is further on
  Behind : Private → Type 0
  Behind q = place < q.regs.place

  own_forward : (change : Private → Effect Private) (next : ℕ) (p : Private) → place < next → Gives Behind (onward change next p)
  unfolding Behind
  own_forward change next p h = then_gives (λ (q : Private). Unit {0}) Behind (change p) _ (anything (change p)) (λ q u. h)

  either_forward : (b : Bool) (m n : ℕ) → place < m → place < n → place < (if b then m else n)
  either_forward true m n h k = h
  either_forward false m n h k = k

  bit_forward : (kind : BranchKind) (target next : ℕ) (p : Private) → place < target → place < next → Gives Behind (by_bit kind target next p)
  unfolding Behind
  bit_forward kind target next p h k =
      then_gives (λ (x : Word × Private). Unit {0}) Behind (pop p) _ (anything (pop p)) (λ x u.
      then_gives (λ (n : ℕ). Unit {0}) Behind (bits_of x.0) _ (anything (bits_of x.0)) (λ n v. either_forward (is_taken kind n) target next h k))

  branch_forward : (kind : BranchKind) (target next : ℕ) (p : Private) → place < target → place < next → Gives Behind (branch kind target next p)
  unfolding Behind
  branch_forward Brun target next p h k = h
  branch_forward Brfl target next p h k = bit_forward Brfl target next p h k
  branch_forward Brtr target next p h k = bit_forward Brtr target next p h k

  -- a row that goes forward, if it is private
  Forward : TableRow → Type 0
  Forward w = (next : ℕ) (p : Private) → place < next → Gives Behind (part_by w next p)

  own_row : (change : Private → Effect Private) → Forward (row_of_own change)
  unfolding Forward
  own_row change next p h = own_forward change next p h

  acts_row : (program : Code → Registers → ℕ → Program) → Forward (action program)
  unfolding Forward
  acts_row program next p h = tt

  literal_row : (w : Word) → Forward (pushes w)
  literal_row w = own_row (λ (p : Private). gives (push w p))

  plain_forward : (kind : PlainKind) → Forward (plain_row kind)
  plain_forward kinds.Exit = acts_row _
  plain_forward kinds.Nxln = acts_row _
  plain_forward kinds.Indx = acts_row _
  plain_forward kinds.Retn = acts_row _
  plain_forward kinds.Entr = acts_row _
  plain_forward kinds.Eval = acts_row _
  plain_forward kinds.Nxlv = acts_row _
  plain_forward kinds.Stod = acts_row _
  plain_forward kinds.Ston = acts_row _
  plain_forward kinds.Lodt = acts_row _
  plain_forward kinds.Load = acts_row _
  plain_forward kinds.Zero = literal_row _
  plain_forward kinds.One = literal_row _
  plain_forward kinds.Noop = own_row gives
  plain_forward _ = own_row _

  turning : (kind : BranchKind) (target : ℕ) (b : Bool) → nat_lt place target ≡ b → Forward (cond b (private_part (branch kind target)) (acts (branch_turn kind target)))
  unfolding Forward
  turning kind target true e next p h = branch_forward kind target next p (ltb-true place target e) h
  turning kind target false e next p h = tt

  row_forward : (op : Operator) → Forward (row op place)
  unfolding row
  row_forward (ops.Valc couple) = acts_row _
  row_forward (ops.Namc couple) = literal_row _
  row_forward (ops.Lt8 n) = literal_row _
  row_forward (ops.Lt16 n) = literal_row _
  row_forward (ops.Lt48 n) = literal_row _
  row_forward (ops.Mpcw n) = literal_row _
  row_forward (ops.Branch kind target) = turning kind target (nat_lt place target) refl
  row_forward (ops.Plain kind) = plain_forward kind

  given_forward : (e : Effect Private) (new : Private) → Gives Behind e → e ≡ gives new → Behind new
  given_forward e new k i = subst (Gives Behind) i k

pub step_forward : {code : Code} {a b : Core} → a.registers.ll ≤ MOST_LEVEL → CoreStep code a b → a.registers.place < b.registers.place
unfolding private_op Forward Behind
step_forward {code} {a} {b} most s =
    let at : Pointer = record { segment = a.registers.segment; place = a.registers.place } in
    let next_on : a.registers.place < s.next = (Stands_within ((fetched_ok code at a.registers.ll most s.op s.next).0 s.stands).stands).0 in
    let on : a.registers.place < s.part.regs.place =
    given_forward a.registers.place (part_by (row s.op a.registers.place) s.next (part_of_core a)) s.part
    (row_forward a.registers.place s.op s.next (part_of_core a) next_on) s.effect in
    subst (λ (r : Registers). a.registers.place < r.place) (sym s.registers) on

forward : {code : Code} {bound n : ℕ} {a b : Core} → a.registers.ll ≤ MOST_LEVEL → CoreSteps code bound n a b → n + a.registers.place ≤ b.registers.place
forward {b = b} most (here h) = omega arith
forward {b = c} most (then_on {n = n} {a = a} {b = b} h s more) =
    let level : b.registers.ll ≡ a.registers.ll = (step_keeps s).1 in
    let rest : n + b.registers.place ≤ c.registers.place = forward (omega (arith, level, most)) more in
    omega (arith, rest, step_forward most s)

pub steps_go_forward : StepsGoForward
steps_go_forward code bound n a b most steps = forward most steps
