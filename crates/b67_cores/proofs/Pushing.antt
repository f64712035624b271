-- What a fragment pushes, and operators without operands one after another.
use Rattle.std.proofs.Common.{◌≡◌, refl, subst, ℕ, ◌+◌, Bool, true, false, ℤ, pos, List, [], ◌∷◌, arith}
use Rattle.algol_tree.specs.declared.tree.Named.{Named}
use Rattle.algol_tree.specs.Scopes.{Scopes}
use Rattle.algol_meaning.specs.Value.{number, truth}
use Rattle.b67_word.specs.Word.{Word}
use Rattle.b67_word.specs.Word as words
use Rattle.b67_control.specs.declared.Pcw.{Pcw}
use Rattle.b67_control.specs.Control.{pcw_word}
use Rattle.b67_ops.specs.declared.Couple.{Couple}
use Rattle.b67_ops.specs.declared.Operator.{Operator}
use Rattle.b67_ops.specs.declared.Operator.TheVariants as ops
use Rattle.b67_ops.specs.declared.PlainKind.{PlainKind}
use Rattle.b67_ops.specs.declared.PlainKind.TheVariants as kinds
use Rattle.b67_ops.specs.declared.intrinsic.Intrinsic.{Intrinsic}
use Rattle.b67_ops.specs.Intrinsics.{couple_of_intrinsic}
use Rattle.b67_segment.specs.Operators.{Placed}
use Rattle.b67_segment.specs.declared.code.Code.{Code}
use Rattle.b67_templates.specs.Contexts.{Context}
use Rattle.b67_table.specs.PrivateRows as rows
use Rattle.b67_table.specs.Rows.{row, pushes}
use Rattle.b67_templates.specs.Fragments.{Has, AllAt, NumberAt, IntrinsicAt, EntryAt, code_at, IsLiteral, zero_pushed, one_pushed, byte, two_bytes, whole_word, truth_literal}
use Rattle.b67_templates.specs.Code.{BegunAt}
use Rattle.b67_standing.specs.Stepping.{Slot, operand, reference, intrinsic, control, mark, SlotsHaveRoom}
use Rattle.b67_cores.specs.Cores.{Core}
use Rattle.b67_cores.specs.Slots.{Known, IsTruth}
use Rattle.b67_cores.proofs.Moving.{Standing, nothing, on}
use Rattle.b67_cores.proofs.Operating.{Goes, pushed, marking}

-- ---- rows

literal_row : {op : Operator} {w : Word} (place : ℕ) → IsLiteral op w → row op place ≡ pushes w
unfolding row
literal_row place zero_pushed = refl
literal_row place one_pushed = refl
literal_row place (byte n) = refl
literal_row place (two_bytes n) = refl
literal_row place (whole_word n) = refl

abbrev literal_word : Bool → Word
literal_word true = words.operand (pos 1)
literal_word false = words.operand (pos 0)

truth_row : (b : Bool) (place : ℕ) → row (ops.Plain (truth_literal b)) place ≡ pushes (literal_word b)
unfolding row
truth_row true place = refl
truth_row false place = refl

literal_is : (b : Bool) → IsTruth b (literal_word b)
unfolding words.operand
literal_is true = record { tag = refl; bits = omega arith; lowest = refl }
literal_is false = record { tag = refl; bits = omega arith; lowest = refl }

-- MPCW has the bits of the control word
control_row : (c : Pcw) (place : ℕ) → row (ops.Mpcw (pcw_word c).bits) place ≡ pushes (pcw_word c)
unfolding row pcw_word
control_row c place = refl

module _ (sc : Scopes) (known : List Known) (context : Context) (code : Code) (ps : List Placed) (level most bound : ℕ) (core : Core) (st : Standing code ps level most bound core) where
  abbrev Gets : ℕ → List Slot → ℕ → List Slot → Type 0
  Gets = Goes sc known code ps level most bound core st

  pub push_number : (from next : ℕ) (z : ℤ) (x : List Slot) → NumberAt ps level z from next → SlotsHaveRoom most x 1 → Gets from x next (operand (number z) ∷ x)
  push_number from next z x at room =
      pushed sc known code ps level most bound core st from next at.op (operand (number z)) x (words.operand z) at.stands (literal_row from at.literal)
      (record { is = refl; whole = at.whole }) refl room

  pub push_truth : (from next : ℕ) (b : Bool) (x : List Slot) → Has ps level from (ops.Plain (truth_literal b)) next → SlotsHaveRoom most x 1
      → Gets from x next (operand (truth b) ∷ x)
  push_truth from next b x at room =
      pushed sc known code ps level most bound core st from next (ops.Plain (truth_literal b)) (operand (truth b)) x (literal_word b) at (truth_row b from)
      (literal_is b) refl room

  -- the reference of a cell, and a control word
  pub reference_at : (from next : ℕ) (c : Couple) (x : List Slot) → Has ps level from (ops.Namc c) next → SlotsHaveRoom most x 1 → Gets from x next (reference c ∷ x)
  unfolding row
  reference_at from next c x at room =
      pushed sc known code ps level most bound core st from next (ops.Namc c) (reference c) x (rows.reference c) at refl refl refl room

  pub control_at : (from next : ℕ) (c : Pcw) (x : List Slot) → Has ps level from (ops.Mpcw (pcw_word c).bits) next → SlotsHaveRoom most x 1 → Gets from x next (control c ∷ x)
  control_at from next c x at room =
      pushed sc known code ps level most bound core st from next (ops.Mpcw (pcw_word c).bits) (control c) x (pcw_word c) at (control_row c from) refl refl room

  -- the start of a call of an intrinsic: a mark and its reference
  pub push_intrinsic : (from next : ℕ) (name : Intrinsic) (x : List Slot) → IntrinsicAt ps level name from next → SlotsHaveRoom most x 2
      → Gets from x next (intrinsic name ∷ mark ∷ x)
  unfolding row
  push_intrinsic from next name x at room =
      on sc known code ps level most bound core st (marking sc known code ps level most bound core st from at.0 x at.1 (omega (arith, room)))
      (pushed sc known code ps level most bound core st at.0 next (ops.Namc (couple_of_intrinsic name)) (intrinsic name) (mark ∷ x)
      (rows.reference (couple_of_intrinsic name)) at.2 refl refl refl (omega (arith, room)))

  -- the start of the entry of a block: a mark and the control word of its code
  pub push_control : (from to begin : ℕ) (x : List Slot) (e : EntryAt ps level context.segment begin from to) → SlotsHaveRoom most x 2
      → Gets from x e.named (control (code_at context.segment begin (level + 1)) ∷ mark ∷ x)
  push_control from to begin x e room =
      on sc known code ps level most bound core st (marking sc known code ps level most bound core st from e.marked x e.mark (omega (arith, room)))
      (control_at e.marked e.named (code_at context.segment begin (level + 1)) (mark ∷ x) e.control (omega (arith, room)))

  -- the start of the call of a procedure: a mark and the reference of its control word
  pub push_procedure : (from next : ℕ) (n : Named) (callee : ℕ) (x : List Slot) (c : BegunAt sc context ps level n callee from next) → SlotsHaveRoom most x 2
      → Gets from x next (reference c.couple ∷ mark ∷ x)
  push_procedure from next n callee x c room =
      on sc known code ps level most bound core st (marking sc known code ps level most bound core st from c.marked x c.mark (omega (arith, room)))
      (reference_at c.marked next c.couple (mark ∷ x) c.reference (omega (arith, room)))

  -- ---- operators without operands

  -- what each of them does to the slots, one after another
  pub data Run : List PlainKind → List Slot → List Slot → Type 0 where
    done : {x : List Slot} → Run [] x x
    next : {kind : PlainKind} {more : List PlainKind} {x y z : List Slot} → ((from to : ℕ) → Has ps level from (ops.Plain kind) to → Gets from x to y)
        → Run more y z → Run (kind ∷ more) x z

  pub run_at : {kinds : List PlainKind} {x y : List Slot} (from to : ℕ) → Run kinds x y → AllAt ps level kinds from to → Gets from x to y
  run_at from to (done {x = x}) e = subst (λ t. Gets from x t x) e (nothing sc known code ps level most bound core st from x)
  run_at from to (next p more) t = on sc known code ps level most bound core st (p from t.0 t.1) (run_at t.0 to more t.2)

  pub zero_at : (x : List Slot) → SlotsHaveRoom most x 1 → (from to : ℕ) → Has ps level from (ops.Plain kinds.Zero) to → Gets from x to (operand (number (pos 0)) ∷ x)
  zero_at x room from to at = push_number from to (pos 0) x (record { op = ops.Plain kinds.Zero; stands = at; literal = zero_pushed; whole = omega arith }) room

  pub one_at : (x : List Slot) → SlotsHaveRoom most x 1 → (from to : ℕ) → Has ps level from (ops.Plain kinds.One) to → Gets from x to (operand (number (pos 1)) ∷ x)
  one_at x room from to at = push_number from to (pos 1) x (record { op = ops.Plain kinds.One; stands = at; literal = one_pushed; whole = omega arith }) room
