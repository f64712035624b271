-- The operator table: one row for each operator. A row is a function of the private part of its own process, or a program.
use Rattle.std.specs.Prelude.{ℕ, ◌+◌, ◌-◌, ◌==◌, ◌&&◌, ◌||◌, not, nat_lt, nat_le, nat_eq, if◌then◌else◌, Bool, true, false, pos, [], ◌∷◌, Option, Some, None, is_some, bit_and, bit_or}
use Rattle.b67_num.specs.declared.FaultKind.TheVariants.{NotAVariable}
use Rattle.b67_num.specs.declared.Calculation.TheVariants.{Sum, Difference, Product, WholeQuotient, TruncatedQuotient, Remainder}
use Rattle.b67_num.specs.declared.Relation.TheVariants.{Less, LessOrEqual, Equal, NotEqual, GreaterOrEqual, Greater}
use Rattle.b67_num.specs.Whole.{related, calculated}
use Rattle.b67_word.specs.declared.Place.{Place}
use Rattle.b67_word.specs.Word.{Word, word, operand}
use Rattle.b67_control.specs.declared.Registers.{Registers}
use Rattle.b67_control.specs.declared.Mscw.{Mscw}
use Rattle.b67_control.specs.declared.Pcw.{Pcw}
use Rattle.b67_control.specs.declared.Descriptor.{Descriptor}
use Rattle.b67_control.specs.Control.{as_sirw, as_mscw, as_pcw}
use Rattle.b67_ops.specs.declared.BranchKind.{BranchKind}
use Rattle.b67_ops.specs.declared.BranchKind.TheVariants.{Brfl, Brtr, Brun}
use Rattle.b67_ops.specs.declared.Couple.{Couple}
use Rattle.b67_ops.specs.declared.Operator.{Operator}
use Rattle.b67_ops.specs.declared.Operator.TheVariants as ops
use Rattle.b67_ops.specs.declared.PlainKind.{PlainKind}
use Rattle.b67_ops.specs.declared.PlainKind.TheVariants as kinds
use Rattle.b67_segment.specs.declared.code.Code.{Code}
use Rattle.b67_table.specs.Effect.{Effect, gives}
use Rattle.b67_table.specs.declared.Cell.{Cell}
use Rattle.b67_table.specs.declared.Reached.{Reached}
use Rattle.b67_table.specs.declared.Private.{Private}
use Rattle.b67_table.specs.Private.{push, display_at, floor, frame}
use Rattle.b67_table.specs.PrivateRows.{onward, arithmetic, relation, negated, logic, agreement, complemented, dropped, exchanged, doubled, stuff, reference, mark, make_cells, is_taken, branch}
use Rattle.b67_table.specs.Look.{Look, found, ◌>->◌, at, valid}
use Rattle.b67_table.specs.Chains.{place}
use Rattle.b67_table.specs.References.{cell_place, cell_word, couple_cell, cell_of, named, reached, popped, Two, popped_two, operand_in, invalid}
use Rattle.b67_table.specs.Program.{Test, answer, fault, ◌>>=◌, see, Change, done, save, write_row, push as push_word, cut, registers, Program}
use Rattle.b67_table.specs.Moves.{replaced}
use Rattle.b67_table.specs.Moves as moves
use Rattle.b67_table.specs.Linkage.{entry, accidental, leave}
use Rattle.b67_table.specs.Arrays.{as_indexed, element, index_program, index_and_load, index_mother}
use Rattle.b67_table.specs.Intrinsics.{intrinsic}

pub data TableRow : Type 0 where
  -- given the place after the operator; it sets the pointer itself
  private_part : (ℕ → Private → Effect Private) → TableRow
  -- given the code, the registers, and the place after the operator
  action : (Code → Registers → ℕ → Program) → TableRow

-- ---- branches that do not go forward

abbrev pub turn_by : BranchKind → ℕ → Registers → ℕ → Program
turn_by kind target r next =
    see (popped r >-> operand_in) >>= (λ (w : Word). answer (moves.dropped r (if is_taken kind w.bits then target else next) 1))

abbrev pub branch_turn : BranchKind → ℕ → Registers → ℕ → Program
branch_turn Brun target r next = answer (registers (record r { place = target }) done)
branch_turn Brfl target r next = turn_by Brfl target r next
branch_turn Brtr target r next = turn_by Brtr target r next

-- ---- reading

abbrev pub value_pushed : Registers → ℕ → Word → Program
value_pushed r next w = answer (push_word r.stack w (registers (record r { s = r.s + 1; place = next }) done))

abbrev pub operand_pushed : Registers → ℕ → Reached → Program
operand_pushed r next w = see (operand_in w.word) >>= (λ (v : Word). value_pushed r next v)

-- a procedure is entered with selector 0, and an operand is pushed
abbrev pub value_or_entry : Registers → ℕ → Reached → Option Pcw → Program
value_or_entry r next w None = operand_pushed r next w
value_or_entry r next w (Some pcw) = if pcw.intrinsic then see invalid else accidental r next 0 pcw w.cell.frame 0

abbrev pub value_call : Couple → Registers → ℕ → Program
value_call couple r next = see (reached (couple_cell r couple.level couple.index)) >>= (λ (w : Reached). value_or_entry r next w (as_pcw w.word))

-- the word of an indexed descriptor's element, or what a reference reaches
abbrev pub loaded : Registers → Word → Option Descriptor → Test Word
loaded r x (Some d) = element d.address d.length
loaded r x None = see (reached (cell_of r x)) >>= (λ (w : Reached). answer w.word)

abbrev pub load_value : Registers → ℕ → Program
load_value r next =
    see (popped r) >>= (λ (x : Word). loaded r x (as_indexed x) >>= (λ (w : Word). see (operand_in w) >>= (λ (v : Word). answer (replaced r next 1 v))))

abbrev pub is_passed : Word → Bool
is_passed w = w.tag == 0 || is_some (as_sirw w)

abbrev pub load_through : Registers → ℕ → Program
load_through r next =
    see (popped r >-> (λ (x : Word). named (cell_of r x))) >>= (λ (w : Reached). if is_passed w.word then answer (replaced r next 1 w.word) else see invalid)

-- a procedure with names is entered with selector 1, another is a fault, and of an operand the cell is left
abbrev pub cell_or_entry : Registers → ℕ → Reached → Option Pcw → Program
cell_or_entry r next w (Some pcw) = if pcw.names then accidental r next 1 pcw w.cell.frame 1 else fault NotAVariable
cell_or_entry r next w None = see (operand_in w.word) >>= (λ (v : Word). answer (replaced r next 1 (cell_word w.cell)))

abbrev pub evaluate : Registers → ℕ → Program
evaluate r next =
    see (popped r >-> (λ (x : Word). reached (cell_of r x))) >>= (λ (w : Reached). cell_or_entry r next w (as_pcw w.word))

-- ---- storing

-- how many words stay, and the registers
abbrev pub after_store : Bool → Registers → ℕ → Word → Change → Change
after_store false r next x stored = cut r.stack (r.s - 2) stored
after_store true r next x stored = cut r.stack (r.s - 2) (push_word r.stack x stored)

abbrev pub kept_words : Bool → ℕ
kept_words false = 0
kept_words true = 1

abbrev pub stored : Bool → Registers → ℕ → Word → (Change → Change) → Change
stored keeps r next x writes = writes (after_store keeps r next x (registers (record r { s = r.s - 2 + kept_words keeps; place = next }) done))

abbrev pub store_by : Bool → Registers → ℕ → Word → Word → Option Descriptor → Program
store_by keeps r next x y (Some d) = element d.address d.length >>= (λ (old : Word). answer (stored keeps r next x (write_row d.address d.length x)))
store_by keeps r next x y None =
    see (named (cell_of r y)) >>= (λ (w : Reached). see (operand_in w.word) >>= (λ (old : Word). answer (stored keeps r next x (save (cell_place w.cell) x))))

-- the operand on top is stored where the word under it names an operand, or an element; both are dropped, or the operand stays
abbrev pub store : Bool → Registers → ℕ → Program
store keeps r next =
    see (popped_two r) >>= (λ (t : Two). see (operand_in t.x) >>= (λ (x : Word). store_by keeps r next x t.y (as_indexed t.y)))

-- ---- entry and leaving

-- the procedure above the mark at F, and where it lies
abbrev pub enter_procedure : Code → Registers → ℕ → Mscw → Pcw → Option Place → Program
enter_procedure code r next m pcw home = if pcw.intrinsic then intrinsic pcw.number code r next m else entry r next m.df pcw home

abbrev pub level_below : Registers → ℕ → Option Place
level_below r level = if nat_le 1 level then display_at r (level - 1) else None

abbrev pub enter_by : Code → Registers → ℕ → Mscw → Word → Option Cell → Program
enter_by code r next m w None = see (valid (as_pcw w)) >>= (λ (pcw : Pcw). enter_procedure code r next m pcw (level_below r pcw.level))
enter_by code r next m w (Some c) =
    see (reached (Some c)) >>= (λ (v : Reached). see (valid (as_pcw v.word)) >>= (λ (pcw : Pcw). enter_procedure code r next m pcw (Some v.cell.frame)))

abbrev pub not_entered : Mscw → Look Mscw
not_entered m = if m.entered then invalid else found m

-- the mark at F lies in the private part, is not entered, and has a word above it
abbrev pub marked : Registers → Look Mscw
marked r =
    if nat_le (floor r) r.f && nat_lt (r.f + 1) r.s
    then at (place r.stack r.f) (λ (w : Option Word). valid w >-> (λ (v : Word). valid (as_mscw v) >-> not_entered))
    else invalid

abbrev pub enter : Code → Registers → ℕ → Program
enter code r next =
    see (marked r) >>= (λ (m : Mscw). see (at (place r.stack (r.f + 1)) (λ (w : Option Word). valid w)) >>= (λ (above : Word).
    enter_by code r next m above (cell_of r above)))

abbrev pub exit : Registers → ℕ → Program
exit r next = leave r next []

abbrev pub is_result : Word → Bool
is_result w = w.tag == 0 || is_some (as_sirw w) || is_some (as_indexed w)

abbrev pub return_value : Registers → ℕ → Program
return_value r next =
    see (popped r) >>= (λ (x : Word). if is_result x && not (nat_eq (frame r) 0) then leave r next (x ∷ []) else see invalid)

-- ---- the table

abbrev pub row_of_own : (Private → Effect Private) → TableRow
row_of_own change = private_part (onward change)

-- this word is pushed
abbrev pub pushes : Word → TableRow
pushes w = row_of_own (λ (p : Private). gives (push w p))

abbrev pub acts : (Registers → ℕ → Program) → TableRow
acts program = action (λ (code : Code). program)

abbrev pub plain_row : PlainKind → TableRow
plain_row kinds.Add = row_of_own (arithmetic (calculated Sum))
plain_row kinds.Subt = row_of_own (arithmetic (calculated Difference))
plain_row kinds.Mult = row_of_own (arithmetic (calculated Product))
plain_row kinds.Divd = row_of_own (arithmetic (calculated WholeQuotient))
plain_row kinds.Idiv = row_of_own (arithmetic (calculated TruncatedQuotient))
plain_row kinds.Rdiv = row_of_own (arithmetic (calculated Remainder))
plain_row kinds.Less = row_of_own (relation (related Less))
plain_row kinds.Greq = row_of_own (relation (related GreaterOrEqual))
plain_row kinds.Grtr = row_of_own (relation (related Greater))
plain_row kinds.Lseq = row_of_own (relation (related LessOrEqual))
plain_row kinds.Equl = row_of_own (relation (related Equal))
plain_row kinds.Neql = row_of_own (relation (related NotEqual))
plain_row kinds.Chsn = row_of_own negated
plain_row kinds.Land = row_of_own (logic bit_and)
plain_row kinds.Lor = row_of_own (logic bit_or)
plain_row kinds.Lnot = row_of_own complemented
plain_row kinds.Leqv = row_of_own (logic agreement)
plain_row kinds.Exit = acts exit
plain_row kinds.Nxln = acts index_mother
plain_row kinds.Indx = acts index_program
plain_row kinds.Retn = acts return_value
plain_row kinds.Entr = action enter
plain_row kinds.Eval = acts evaluate
plain_row kinds.Nxlv = acts index_and_load
plain_row kinds.Mkst = row_of_own mark
plain_row kinds.Stff = row_of_own stuff
plain_row kinds.Zero = pushes (operand (pos 0))
plain_row kinds.One = pushes (operand (pos 1))
plain_row kinds.Push = row_of_own make_cells
plain_row kinds.Dlet = row_of_own dropped
plain_row kinds.Exch = row_of_own exchanged
plain_row kinds.Dupl = row_of_own doubled
plain_row kinds.Stod = acts (store false)
plain_row kinds.Ston = acts (store true)
plain_row kinds.Lodt = acts load_through
plain_row kinds.Load = acts load_value
plain_row kinds.Noop = row_of_own gives

-- the row of an operator at its place: a branch is private where it goes forward
unfoldable pub row : Operator → ℕ → TableRow
row (ops.Valc couple) here = acts (value_call couple)
row (ops.Namc couple) here = pushes (reference couple)
row (ops.Lt8 n) here = pushes (operand (pos n))
row (ops.Lt16 n) here = pushes (operand (pos n))
row (ops.Lt48 n) here = pushes (word 0 n)
row (ops.Mpcw n) here = pushes (word 7 n)
row (ops.Branch kind target) here = if nat_lt here target then private_part (branch kind target) else acts (branch_turn kind target)
row (ops.Plain kind) here = plain_row kind
