-- Private operators that fault.
use Rattle.std.proofs.Common.{◌≡◌, refl, sym, ap, ◌∙◌, ℕ, ◌+◌, ◌<◌, false, ℤ, List, [], ◌∷◌, length, Result, Ok, Err, arith}
use Rattle.std.proofs.lemmas.Bool.{and_right}
use Rattle.algol_tree.specs.declared.tree.Op.{Op}
use Rattle.algol_tree.specs.declared.tree.Op.TheVariants as operators
use Rattle.algol_tree.specs.Types.{taken_by}
use Rattle.algol_tree.specs.Scopes.{Scopes}
use Rattle.b67_num.specs.declared.Calculation.{Calculation}
use Rattle.b67_num.specs.declared.Calculation.TheVariants as calculation
use Rattle.b67_num.specs.declared.FaultKind.{FaultKind}
use Rattle.b67_num.specs.declared.NumFault.{NumFault}
use Rattle.b67_num.specs.Whole.{calculated, fault_of}
use Rattle.algol_meaning.specs.Value.{Value, number, truth}
use Rattle.algol_meaning.specs.Operators.{numeric, result_of}
use Rattle.b67_word.specs.Word.{Word}
use Rattle.b67_word.specs.Word as words
use Rattle.b67_control.specs.declared.Registers.{Registers}
use Rattle.b67_ops.specs.declared.Operator.TheVariants as ops
use Rattle.b67_ops.specs.declared.PlainKind.{PlainKind}
use Rattle.b67_ops.specs.declared.PlainKind.TheVariants as kinds
use Rattle.b67_segment.specs.Operators.{Placed}
use Rattle.b67_segment.specs.declared.code.Code.{Code}
use Rattle.b67_segment.proofs.Among.{fetched_spelled}
use Rattle.b67_segment.specs.Fetching.{fetched}
use Rattle.b67_table.specs.declared.Private.{Private}
use Rattle.b67_table.specs.Effect.{Effect, gives, faults, ◌>>=◌}
use Rattle.b67_table.specs.Outcome.{Outcome, limited}
use Rattle.b67_table.specs.Outcome as outcomes
use Rattle.b67_table.specs.Private.{floor, frame}
use Rattle.b67_table.specs.PrivateRows.{pointed, arithmetic, result_or_fault}
use Rattle.b67_table.specs.Image.{Image, with_effect}
use Rattle.b67_table.specs.Ending.{failed}
use Rattle.b67_table.specs.Rows.{TableRow, row, row_of_own}
use Rattle.b67_table.specs.Table.{table, plain, private_op, part_by, class_at, class_by, private_next, is_new, stack_length}
use Rattle.b67_table.proofs.Privacy.{raw_is}
use Rattle.b67_templates.specs.Fragments.{Has, HasKind, operator_for}
use Rattle.b67_standing.specs.Stepping.{Slot, operand, ready}
use Rattle.b67_cores.specs.Cores.{Core, HasCore, part_of_core, CoreFaults}
use Rattle.b67_cores.specs.Slots.{Known, ValueIs, SlotsAre}
use Rattle.b67_cores.specs.Stretches.{CoreAt, FaultsArePerformed}
use Rattle.b67_cores.proofs.PartRows.{part, wholes_fault}
use Rattle.b67_cores.proofs.Taking.{number_read}
use Rattle.b67_cores.proofs.Performing.{PrivateRow, private_row, private_is}

-- ---- in an image

fault_row : {code : Code} {a : Core} {kind : FaultKind} → (f : CoreFaults code a kind) → PrivateRow (row f.op a.registers.place)
unfolding class_at
fault_row {a = a} f = private_row (row f.op a.registers.place) f.private

module _ (code : Code) (p : ℕ) (img : Image) (a : Core) (kind : FaultKind) (has : HasCore img p a) (f : CoreFaults code a kind) where
  change_faults : (fault_row f).change f.next (part_of_core a) ≡ faults kind
  unfolding private_op
  change_faults = ap (λ (w : TableRow). part_by w f.next (part_of_core a)) (sym (fault_row f).is) ∙ f.effect

  table_faults : table code img p ≡ outcomes.faults kind
  unfolding table
  table_faults =
      ap (limited (stack_length p))
      (raw_is code img p a.registers has.live has.registers
      (record { op = f.op; next = f.next; stands = f.stands; change = (fault_row f).change; is = (fault_row f).is })
      ∙ ap (λ (q : Private). with_effect img p (floor a.registers) ((fault_row f).change f.next q)) (private_is img p a has)
      ∙ ap (with_effect img p (floor a.registers)) change_faults)

  no_plain : plain code img p ≡ false
  unfolding plain
  no_plain = and_right (private_next code img p) (is_new (table code img p)) (ap is_new table_faults)

kept : (p q : ℕ) (img : Image) (a : Core) (kind : FaultKind) → HasCore img q a → HasCore (failed img p kind) q a
unfolding failed
kept p q img a kind has = record { live = has.live; registers = has.registers; own = has.own; stack = has.stack; is = has.is }

pub faults_are_performed : FaultsArePerformed
faults_are_performed = record {
  faulting = λ code p img a kind has f. (table_faults code p img a kind has f, no_plain code p img a kind has f);
  kept = kept;
}

-- ---- operators of the language

-- a plain operator that faults on the words of two values
record Fails (kind : PlainKind) (a b : Value) (fault : FaultKind) : Type 0 where
  pub change : Private → Effect Private
  pub row_is : (place : ℕ) → row (ops.Plain kind) place ≡ row_of_own change
  pub given : (r : Registers) (s : ℕ) (v w : Word) (below : List Word) → ValueIs a v → ValueIs b w → floor r + 1 < s
      → change (part r s (w ∷ v ∷ below)) ≡ faults fault

made_of : Result ℤ NumFault → Effect Word
made_of r = result_or_fault r >>= (λ (z : ℤ). gives (words.operand z))

made_fault : (r : Result ℤ NumFault) (fault : NumFault) → r ≡ Err fault → made_of r ≡ faults (fault_of fault)
unfolding made_of
made_fault r fault e = ap made_of e

calculation_fails : (kind : PlainKind) (c : Calculation) (a b : ℤ) (fault : NumFault) → ((place : ℕ) → row (ops.Plain kind) place ≡ row_of_own (arithmetic (calculated c)))
    → (r : Result ℤ NumFault) → calculated c a b ≡ r → numeric r ≡ Err fault → Fails kind (number a) (number b) (fault_of fault)
unfolding made_of
calculation_fails kind c a b fault is (Ok z) e i = cc
calculation_fails kind c a b fault is (Err other) e i =
    let same : other ≡ fault = cc in
    record {
      change = arithmetic (calculated c);
      row_is = is;
      given = λ r s v w below iv iw h.
          wholes_fault r (λ (m n : ℤ). made_of (calculated c m n)) s v w a b (fault_of fault) below (number_read a v iv) (number_read b w iw)
          (made_fault (calculated c a b) fault (e ∙ ap (λ (x : NumFault). Err x) same)) h;
    }

fails : (op : Op) (v w : Value) (fault : NumFault) → HasKind (taken_by op) v → HasKind (taken_by op) w → result_of op v w ≡ Err fault
    → Fails (operator_for op) (ready op v) w (fault_of fault)
unfolding row
fails operators.Add (number a) (number b) fault hv hw e =
    calculation_fails kinds.Add calculation.Sum a b fault (λ place. refl) (calculated calculation.Sum a b) refl e
fails operators.Add (number a) (truth b) fault hv hw e = absurd hw
fails operators.Add (truth a) w fault hv hw e = absurd hv
fails operators.Sub (number a) (number b) fault hv hw e =
    calculation_fails kinds.Subt calculation.Difference a b fault (λ place. refl) (calculated calculation.Difference a b) refl e
fails operators.Sub (number a) (truth b) fault hv hw e = absurd hw
fails operators.Sub (truth a) w fault hv hw e = absurd hv
fails operators.Mul (number a) (number b) fault hv hw e =
    calculation_fails kinds.Mult calculation.Product a b fault (λ place. refl) (calculated calculation.Product a b) refl e
fails operators.Mul (number a) (truth b) fault hv hw e = absurd hw
fails operators.Mul (truth a) w fault hv hw e = absurd hv
fails operators.Over (number a) (number b) fault hv hw e =
    calculation_fails kinds.Divd calculation.WholeQuotient a b fault (λ place. refl) (calculated calculation.WholeQuotient a b) refl e
fails operators.Over (number a) (truth b) fault hv hw e = absurd hw
fails operators.Over (truth a) w fault hv hw e = absurd hv
fails operators.Div (number a) (number b) fault hv hw e =
    calculation_fails kinds.Idiv calculation.TruncatedQuotient a b fault (λ place. refl) (calculated calculation.TruncatedQuotient a b) refl e
fails operators.Div (number a) (truth b) fault hv hw e = absurd hw
fails operators.Div (truth a) w fault hv hw e = absurd hv
fails operators.Mod (number a) (number b) fault hv hw e =
    calculation_fails kinds.Rdiv calculation.Remainder a b fault (λ place. refl) (calculated calculation.Remainder a b) refl e
fails operators.Mod (number a) (truth b) fault hv hw e = absurd hw
fails operators.Mod (truth a) w fault hv hw e = absurd hv
fails _ v w fault hv hw e = cc

module _ (sc : Scopes) (known : List Known) (code : Code) (ps : List Placed) (level from to : ℕ) (a b : Value) (x : List Slot) (core : Core) (kind : PlainKind) (fault : FaultKind)
    (stands : Has ps level from (ops.Plain kind) to) (f : Fails kind a b fault) (at : CoreAt sc known code ps level from (operand b ∷ operand a ∷ x) core) where
  words_fault : (words : List Word) → SlotsAre sc known level (frame core.registers) (length core.below) (operand b ∷ operand a ∷ x) words
      → core.registers.s ≡ length core.below + length words → f.change (part core.registers core.registers.s words) ≡ faults fault
  words_fault [] are e = absurd are
  words_fault (w ∷ []) are e = absurd are.1
  words_fault (w ∷ v ∷ rest) are e = f.given core.registers core.registers.s v w rest are.1.0 are.0 (omega (arith, at.is.bottom, e))

  core_faults : CoreFaults code core fault
  unfolding class_at private_op
  core_faults = record {
    op = ops.Plain kind;
    next = to;
    stands =
        ap (λ n. fetched code (record { segment = core.registers.segment; place = n }) core.registers.ll) at.place_is
        ∙ ap (λ l. fetched code (record { segment = core.registers.segment; place = from }) l) at.level_is
        ∙ fetched_spelled code core.registers.segment at.there at.spells stands;
    private = ap class_by (f.row_is core.registers.place);
    effect =
        ap (λ (w : TableRow). part_by w to (part_of_core core)) (f.row_is core.registers.place)
        ∙ ap (λ (e : Effect Private). e >>= (λ (q : Private). gives (pointed to q))) (words_fault core.words at.words_are at.is.top);
  }

pub fault_is : (sc : Scopes) (known : List Known) (code : Code) (ps : List Placed) (level from to : ℕ) (op : Op) (v w : Value) (fault : NumFault) (below : List Slot) (core : Core)
    → Has ps level from (ops.Plain (operator_for op)) to → HasKind (taken_by op) v → HasKind (taken_by op) w → result_of op v w ≡ Err fault
    → CoreAt sc known code ps level from (operand w ∷ operand (ready op v) ∷ below) core → CoreFaults code core (fault_of fault)
fault_is sc known code ps level from to op v w fault below core stands hv hw e at =
    core_faults sc known code ps level from to (ready op v) w below core (operator_for op) (fault_of fault) stands (fails op v w fault hv hw e) at
