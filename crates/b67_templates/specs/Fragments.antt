-- The small pieces of which templates are made, in a segment of these operators, at one level.
use Rattle.std.specs.Prelude.{◌≡◌, ℕ, ◌+◌, ◌/◌, ◌%◌, ◌<◌, ◌≤◌, unsigned_abs, ℤ, pos, neg_ℤ, ◌-ℤ◌, int_le, int_lt, if◌then◌else◌, Bool, true, false, List, [], ◌∷◌, map}
use Rattle.std.specs.Ordering.{int_eq}
use Rattle.b67_limits.specs.declared.TheConstants.{MOST_ELEMENTS}
use Rattle.algol_tree.specs.declared.tree.Op.{Op}
use Rattle.algol_tree.specs.declared.tree.Op.TheVariants as operators
use Rattle.algol_tree.specs.declared.tree.Kind.{Kind}
use Rattle.algol_tree.specs.declared.tree.Kind.TheVariants as types
use Rattle.algol_meaning.specs.Value.{Value, number, truth}
use Rattle.b67_num.specs.Whole.{most}
use Rattle.b67_word.specs.Word.{Word, word, operand}
use Rattle.b67_control.specs.declared.Pcw.{Pcw}
use Rattle.b67_control.specs.Control.{Fits_pcw, pcw_word}
use Rattle.b67_ops.specs.declared.Couple.{Couple}
use Rattle.b67_ops.specs.declared.Operator.{Operator}
use Rattle.b67_ops.specs.declared.Operator.TheVariants as ops
use Rattle.b67_ops.specs.declared.PlainKind.{PlainKind}
use Rattle.b67_ops.specs.declared.PlainKind.TheVariants as kinds
use Rattle.b67_ops.specs.declared.BranchKind.{BranchKind}
use Rattle.b67_ops.specs.declared.BranchKind.TheVariants.{Brun}
use Rattle.b67_ops.specs.declared.intrinsic.Intrinsic.{Intrinsic}
use Rattle.b67_ops.specs.Intrinsics.{couple_of_intrinsic}
use Rattle.b67_segment.specs.Operators.{Placed, StandsAmong}

-- ---- values

abbrev pub IsWholeNumber : ℤ → Type 0
IsWholeNumber z = unsigned_abs z ≤ most

-- the value is of this kind, and a number is a whole one
abbrev pub HasKind : Kind → Value → Type 0
HasKind types.Number (number z) = IsWholeNumber z
HasKind types.Truth (truth b) = Unit {0}
HasKind _ _ = ⊥

-- an operator that pushes this word and does nothing else
pub data IsLiteral : Operator → Word → Type 0 where
  zero_pushed : IsLiteral (ops.Plain kinds.Zero) (operand (pos 0))
  one_pushed : IsLiteral (ops.Plain kinds.One) (operand (pos 1))
  byte : (n : ℕ) → IsLiteral (ops.Lt8 n) (operand (pos n))
  two_bytes : (n : ℕ) → IsLiteral (ops.Lt16 n) (operand (pos n))
  whole_word : (n : ℕ) → IsLiteral (ops.Lt48 n) (word 0 n)

-- ---- the operators of the language

abbrev pub truth_literal : Bool → PlainKind
truth_literal true = kinds.One
truth_literal false = kinds.Zero

-- The operator that the machine has for an operator of the language: of an implication the first operand is inverted before.
abbrev pub operator_for : Op → PlainKind
operator_for operators.Add = kinds.Add
operator_for operators.Sub = kinds.Subt
operator_for operators.Mul = kinds.Mult
operator_for operators.Over = kinds.Divd
operator_for operators.Div = kinds.Idiv
operator_for operators.Mod = kinds.Rdiv
operator_for operators.Lss = kinds.Less
operator_for operators.Leq = kinds.Lseq
operator_for operators.Eql = kinds.Equl
operator_for operators.Neq = kinds.Neql
operator_for operators.Geq = kinds.Greq
operator_for operators.Gtr = kinds.Grtr
operator_for operators.And = kinds.Land
operator_for operators.Or = kinds.Lor
operator_for operators.Imp = kinds.Lor
operator_for operators.Eqv = kinds.Leqv

abbrev pub is_implication : Op → Bool
is_implication operators.Imp = true
is_implication _ = false

-- ---- subscripts

-- Where a lower bound lies: at 0, above it, less than `MOST_ELEMENTS` below it, or further below, where each subscript of a row is below 0.
pub data Low : Type 0 where
  zero : Low
  above : Low
  near : Low
  far : Low

abbrev pub low_of : ℤ → Low
low_of low =
    if int_lt (pos 0) low then above else if int_le (pos 0) low then zero else if int_lt (neg_ℤ (pos MOST_ELEMENTS)) low then near else far

-- A subscript is moved by the lower bound where the result is surely a whole number; otherwise it leaves a number that is in no row, since
-- no row has more than `MOST_ELEMENTS` elements.
abbrev pub moved_by : Low → ℤ → ℤ → ℤ
moved_by zero low i = i
moved_by above low i = if int_le (pos 0) i then i -ℤ low else i
moved_by near low i = if int_le i (pos 4294836225) then i -ℤ low else i
moved_by far low i = if int_lt i (pos 0) then i -ℤ low else neg_ℤ low

abbrev pub moved_number : ℤ → ℤ → ℤ
moved_number low i = moved_by (low_of low) low i

-- ---- code that is entered

-- the control word of code that begins at a place of a segment and runs at a level
abbrev pub code_at : ℕ → ℕ → ℕ → Pcw
code_at segment place level =
    record { intrinsic = false; names = false; segment = segment; psr = place % 6; pir = place / 6; level = level; number = 0 }

-- .. of code that evaluates an actual, which has names where the actual is subscripted: its entry then leaves a selector
abbrev pub routine_at : Bool → ℕ → ℕ → ℕ → Pcw
routine_at names segment place level = record (code_at segment place level) { names = names }

-- the control words of procedures in a block of this level: the code of each begins at the start of its segment and runs one level further in
abbrev pub procedure_controls : ℕ → List ℕ → List Pcw
procedure_controls level segments = map (λ (segment : ℕ). code_at segment 0 (level + 1)) segments

-- ---- operators one after another

module _ (ps : List Placed) (level : ℕ) where
  -- this operator stands there, and the next place is that
  abbrev pub Has : ℕ → Operator → ℕ → Type 0
  Has at op next = StandsAmong ps at level op next

  -- these operators without operands stand from one place to another
  abbrev pub AllAt : List PlainKind → ℕ → ℕ → Type 0
  AllAt [] from to = from ≡ to
  AllAt (kind ∷ more) from to = (m : ℕ) × Has from (ops.Plain kind) m × AllAt more m to

  pub record NumberAt (value : ℤ) (from to : ℕ) : Type 0 where
    pub op : Operator
    pub stands : Has from op to
    pub literal : IsLiteral op (operand value)
    pub whole : IsWholeNumber value

  -- the first operand of an implication is inverted
  abbrev pub ReadyAt : Bool → ℕ → ℕ → Type 0
  ReadyAt true from to = Has from (ops.Plain kinds.Lnot) to
  ReadyAt false from to = from ≡ to

  -- a branch to a place further on
  pub record BranchAt (kind : BranchKind) (from target to : ℕ) : Type 0 where
    pub stands : Has from (ops.Branch kind target) to
    pub forward : from < target

  -- the branch back to the start of a loop
  pub record TurnAt (from target to : ℕ) : Type 0 where
    pub stands : Has from (ops.Branch Brun target) to
    pub back : target ≤ from

  -- from one place branches forward only lead to another
  pub data FragmentGoes : ℕ → ℕ → Type 0 where
    stop : {a : ℕ} → FragmentGoes a a
    over : {a b c : ℕ} (next : ℕ) → BranchAt Brun a b next → FragmentGoes b c → FragmentGoes a c

  -- a mark, and the reference of an intrinsic
  abbrev pub IntrinsicAt : Intrinsic → ℕ → ℕ → Type 0
  IntrinsicAt name from to = (m : ℕ) × Has from (ops.Plain kinds.Mkst) m × Has m (ops.Namc (couple_of_intrinsic name)) to

  -- the references of these cells, one after another
  abbrev pub ReferencesAt : List Couple → ℕ → ℕ → Type 0
  ReferencesAt [] from to = from ≡ to
  ReferencesAt (c ∷ cs) from to = (m : ℕ) × Has from (ops.Namc c) m × ReferencesAt cs m to

  -- a mark, the control word of the code that begins at a place one level further in, and the entry of it
  pub record EntryAt (segment begin from to : ℕ) : Type 0 where
    pub marked : ℕ
    pub named : ℕ
    pub mark : Has from (ops.Plain kinds.Mkst) marked
    pub control : Has marked (ops.Mpcw (pcw_word (code_at segment begin (level + 1))).bits) named
    pub fits : Fits_pcw (code_at segment begin (level + 1))
    pub enter : Has named (ops.Plain kinds.Entr) to

  -- these control words are pushed
  abbrev pub ControlsAt : List Pcw → ℕ → ℕ → Type 0
  ControlsAt [] from to = from ≡ to
  ControlsAt (pcw ∷ pcws) from to = (m : ℕ) × Has from (ops.Mpcw (pcw_word pcw).bits) m × Fits_pcw pcw × ControlsAt pcws m to

  -- A comparison on top, 1 or 0, is multiplied by a number: where the number is 1, nothing has to be done.
  abbrev pub TimesBy : Bool → ℤ → ℕ → ℕ → Type 0
  TimesBy true factor from to = from ≡ to
  TimesBy false factor from to = (m : ℕ) × NumberAt factor from m × Has m (ops.Plain kinds.Mult) to

  abbrev pub TimesAt : ℤ → ℕ → ℕ → Type 0
  TimesAt factor from to = TimesBy (int_eq factor (pos 1)) factor from to

  -- A subscript on top is moved to an index from 0: by the product of the bound with a comparison that says whether it may be.
  abbrev pub MovedBy : Low → ℤ → ℕ → ℕ → Type 0
  MovedBy zero low from to = from ≡ to
  MovedBy above low from to =
      (m : ℕ) × (n : ℕ) × AllAt (kinds.Dupl ∷ kinds.Zero ∷ kinds.Greq ∷ []) from m × TimesAt low m n × Has n (ops.Plain kinds.Subt) to
  -- 4,294,836,225 is the square of 65,535
  MovedBy near low from to =
      (a : ℕ) × (b : ℕ) × (m : ℕ) × (n : ℕ) × Has from (ops.Plain kinds.Dupl) a × Has a (ops.Lt16 65535) b
      × AllAt (kinds.Dupl ∷ kinds.Mult ∷ kinds.Lseq ∷ []) b m × TimesAt (neg_ℤ low) m n × Has n (ops.Plain kinds.Add) to
  MovedBy far low from to =
      (m : ℕ) × (n : ℕ) × AllAt (kinds.Dupl ∷ kinds.Zero ∷ kinds.Less ∷ kinds.Mult ∷ []) from m × NumberAt (neg_ℤ low) m n
      × Has n (ops.Plain kinds.Add) to

  abbrev pub MovedAt : ℤ → ℕ → ℕ → Type 0
  MovedAt low from to = MovedBy (low_of low) low from to
