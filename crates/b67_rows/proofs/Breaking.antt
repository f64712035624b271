-- An operator whose operands have no result.
use Rattle.std.proofs.Common.{◌≡◌, refl, ap, ◌∙◌, ℕ, ◌+◌, ◌-◌, ◌<◌, List, ◌∷◌, length, Some, Result, Ok, Err, arith, ℤ}
use Rattle.b67_rows.proofs.Prelude.{Op, Value, number, truth, Word, Registers, Code, Effect, gives, faults, floor, TableRow, private_part, by_row, HasKind, operator_for, Core, ValueIs}
use Rattle.algol_tree.specs.declared.tree.Op.TheVariants as operators
use Rattle.algol_tree.specs.declared.tree.Kind.TheVariants as types
use Rattle.algol_tree.specs.Types.{taken_by}
use Rattle.algol_meaning.specs.Value as values
use Rattle.algol_meaning.specs.Operators.{result_of, numeric}
use Rattle.b67_num.specs.declared.Calculation.{Calculation}
use Rattle.b67_num.specs.declared.Calculation.TheVariants.{Sum, Difference, Product, WholeQuotient, TruncatedQuotient, Remainder}
use Rattle.b67_num.specs.declared.NumFault.{NumFault}
use Rattle.b67_num.specs.Whole.{calculated, fault_of}
use Rattle.b67_word.specs.Word.{operand, as_whole}
use Rattle.b67_ops.specs.declared.Operator.TheVariants as ops
use Rattle.b67_table.specs.declared.Private.{Private}
use Rattle.b67_table.specs.Effect.{◌>>=◌}
use Rattle.b67_table.specs.Image.{with_effect}
use Rattle.b67_table.specs.Private.{pop, whole_of_word, whole_or}
use Rattle.b67_table.specs.PrivateRows.{arithmetic, onward, pointed, result_or_fault}
use Rattle.b67_table.specs.Rows.{row, plain_row}
use Rattle.b67_table.specs.Table.{raw}
use Rattle.b67_cores.proofs.PartRows.{part, then_is, pop_is}
use Rattle.b67_cores.proofs.Taking.{number_read}
use Rattle.b67_cores.proofs.Performing.{private_is}
use Rattle.b67_rows.proofs.Rows.{raw_is}
use Rattle.b67_rows.proofs.AtOperator.{AtOperator}

made_of : Result ℤ NumFault → Effect Word
made_of r = result_or_fault r >>= (λ (z : ℤ). gives (operand z))

made_faults : (r : Result ℤ NumFault) (f : NumFault) → r ≡ Err f → made_of r ≡ faults (fault_of f)
unfolding made_of
made_faults r f e = ap made_of e

arithmetic_faults : (r : Registers) (c : Calculation) (s : ℕ) (v w : Word) (a b : ℤ) (f : NumFault) (below : List Word) → as_whole v ≡ Some a → as_whole w ≡ Some b → calculated c a b ≡ Err f → floor r + 1 < s →
    arithmetic (calculated c) (part r s (w ∷ v ∷ below)) ≡ faults (fault_of f)
unfolding made_of
arithmetic_faults r c s v w a b f below iv iw e h =
    then_is (pop (part r s (w ∷ v ∷ below))) (w, part r (s - 1) (v ∷ below)) _ (pop_is r s w (v ∷ below) (omega (arith, h)))
    ∙ then_is (pop (part r (s - 1) (v ∷ below))) (v, part r (s - 1 - 1) below) _ (pop_is r (s - 1) v below (omega (arith, h)))
    ∙ then_is (whole_of_word v) a _ (ap whole_or iv)
    ∙ then_is (whole_of_word w) b _ (ap whole_or iw)
    ∙ ap (λ (o : Effect Word). o >>= (λ (u : Word). gives (part r (s - 1 - 1 + 1) (u ∷ below)))) (made_faults (calculated c a b) f e)

numeric_err : (r : Result ℤ NumFault) (f : NumFault) → numeric r ≡ Err f → r ≡ Err f
numeric_err (Ok z) f e = cc
numeric_err (Err g) f e = cc

-- the change of the row is at fault
pub record RowFaults (r : Registers) (op : Op) (s : ℕ) (v w : Word) (f : NumFault) (below : List Word) : Type 0 where
  pub change : Private → Effect Private
  pub is : plain_row (operator_for op) ≡ private_part (onward change)
  pub faulted : change (part r s (w ∷ v ∷ below)) ≡ faults (fault_of f)

module _ (r : Registers) (s : ℕ) (v w : Word) (f : NumFault) (below : List Word) (high : floor r + 1 < s) where
  numbers_fault : (c : Calculation) (x y : Value) → HasKind types.Number x → HasKind types.Number y → ValueIs x v → ValueIs y w → numeric (calculated c (values.whole_of x) (values.whole_of y)) ≡ Err f →
      arithmetic (calculated c) (part r s (w ∷ v ∷ below)) ≡ faults (fault_of f)
  numbers_fault c (number a) (number b) kx ky ix iy e = arithmetic_faults r c s v w a b f below (number_read a v ix) (number_read b w iy) (numeric_err (calculated c a b) f e) high
  numbers_fault c (number a) (truth b) kx ky ix iy e = absurd ky
  numbers_fault c (truth a) y kx ky ix iy e = absurd kx

  pub row_faults : (op : Op) (x y : Value) → HasKind (taken_by op) x → HasKind (taken_by op) y → ValueIs x v → ValueIs y w → result_of op x y ≡ Err f → RowFaults r op s v w f below
  row_faults operators.Add x y kx ky ix iy e = record { change = arithmetic (calculated Sum); is = refl; faulted = numbers_fault Sum x y kx ky ix iy e }
  row_faults operators.Sub x y kx ky ix iy e = record { change = arithmetic (calculated Difference); is = refl; faulted = numbers_fault Difference x y kx ky ix iy e }
  row_faults operators.Mul x y kx ky ix iy e = record { change = arithmetic (calculated Product); is = refl; faulted = numbers_fault Product x y kx ky ix iy e }
  row_faults operators.Over x y kx ky ix iy e = record { change = arithmetic (calculated WholeQuotient); is = refl; faulted = numbers_fault WholeQuotient x y kx ky ix iy e }
  row_faults operators.Div x y kx ky ix iy e = record { change = arithmetic (calculated TruncatedQuotient); is = refl; faulted = numbers_fault TruncatedQuotient x y kx ky ix iy e }
  row_faults operators.Mod x y kx ky ix iy e = record { change = arithmetic (calculated Remainder); is = refl; faulted = numbers_fault Remainder x y kx ky ix iy e }
  row_faults operators.Lss x y kx ky ix iy e = cc
  row_faults operators.Leq x y kx ky ix iy e = cc
  row_faults operators.Eql x y kx ky ix iy e = cc
  row_faults operators.Neq x y kx ky ix iy e = cc
  row_faults operators.Geq x y kx ky ix iy e = cc
  row_faults operators.Gtr x y kx ky ix iy e = cc
  row_faults operators.And x y kx ky ix iy e = cc
  row_faults operators.Or x y kx ky ix iy e = cc
  row_faults operators.Imp x y kx ky ix iy e = cc
  row_faults operators.Eqv x y kx ky ix iy e = cc

-- Two operands on the stack of which the operator has no result.
pub record Breaks (core : Core) (op : Op) : Type 0 where
  pub x : Value
  pub y : Value
  pub v : Word
  pub w : Word
  pub below : List Word
  pub words : core.words ≡ w ∷ v ∷ below
  pub first_kind : HasKind (taken_by op) x
  pub second_kind : HasKind (taken_by op) y
  pub first_is : ValueIs x v
  pub second_is : ValueIs y w
  pub f : NumFault
  pub breaks : result_of op x y ≡ Err f

module _ (code : Code) (op : Op) (here : AtOperator code (ops.Plain (operator_for op))) (broken : Breaks here.core op) where
  open here use {img, p, core, has, next}
  open broken use {x, y, v, w, below, words, first_kind as kx, second_kind as ky, first_is as ix, second_is as iy, f, breaks}

  abbrev r : Registers
  r = core.registers

  high : floor r + 1 < r.s
  high = omega (arith, has.is.top, has.is.bottom, ap length words)

  pub break_raw : raw code img p ≡ faults (fault_of f)
  unfolding row
  break_raw =
      let d : RowFaults r op r.s v w f below = row_faults r r.s v w f below high op x y kx ky ix iy breaks in
      raw_is code (ops.Plain (operator_for op)) here
      ∙ ap (λ (k : TableRow). by_row k code img p r next) d.is
      ∙ ap (λ (q : Private). with_effect img p (floor r) (onward d.change next q)) (private_is img p core has ∙ ap (λ (ws : List Word). record { regs = r; words = ws }) words)
      ∙ ap (λ (e : Effect Private). with_effect img p (floor r) (e >>= (λ (q : Private). gives (pointed next q)))) d.faulted
