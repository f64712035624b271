-- Each operator of the language is one operator of the machine, whose effect on words is the operator's result.
use Rattle.std.proofs.Common.{◌≡◌, refl, subst, ℕ, ◌<◌, ◌^◌, Bool, ℤ, Result, Ok, Err}
use Rattle.std.specs.Prelude.{not, ◌&&◌, ◌||◌, bit_and, bit_or}
use Rattle.std.proofs.lemmas.Nat.{xor_lt}
use Rattle.algol_tree.specs.declared.tree.Op.{Op}
use Rattle.algol_tree.specs.declared.tree.Op.TheVariants as operators
use Rattle.algol_tree.specs.Types.{taken_by}
use Rattle.b67_num.specs.declared.Calculation.{Calculation}
use Rattle.b67_num.specs.declared.Calculation.TheVariants as calculation
use Rattle.b67_num.specs.declared.NumFault.{NumFault}
use Rattle.b67_num.specs.declared.Relation.{Relation}
use Rattle.b67_num.specs.declared.Relation.TheVariants as relations
use Rattle.b67_num.specs.Whole.{calculated, related}
use Rattle.algol_meaning.specs.Value.{Value, number, truth}
use Rattle.algol_meaning.specs.Operators.{numeric, logical, same_truth, result_of}
use Rattle.b67_ops.specs.declared.PlainKind.{PlainKind}
use Rattle.b67_ops.specs.declared.PlainKind.TheVariants as kinds
use Rattle.b67_ops.specs.declared.Operator.TheVariants as ops
use Rattle.b67_table.specs.declared.Private.{Private}
use Rattle.b67_table.specs.Effect.{Effect}
use Rattle.b67_table.specs.PrivateRows.{arithmetic, relation, logic, agreement}
use Rattle.b67_table.specs.Rows.{row, row_of_own}
use Rattle.b67_table.proofs.Wordly.{and_fits, or_fits, agreement_fits}
use Rattle.b67_templates.specs.Fragments.{HasKind, operator_for}
use Rattle.b67_standing.specs.Stepping.{ready}
use Rattle.b67_cores.proofs.Bits.{Says, and_says, or_says, agreement_says}
use Rattle.b67_cores.proofs.Taking.{Takes, arithmetic_takes, relation_takes, logic_takes}

-- a plain operator of the machine that takes words of two values and leaves one of a third
pub record Calculates (kind : PlainKind) (a b result : Value) : Type 0 where
  pub change : Private → Effect Private
  pub row_is : (place : ℕ) → row (ops.Plain kind) place ≡ row_of_own change
  pub takes : Takes change a b result

-- ---- results

calculation_at : (kind : PlainKind) (c : Calculation) (a b : ℤ) (x : Value) → ((place : ℕ) → row (ops.Plain kind) place ≡ row_of_own (arithmetic (calculated c)))
    → (r : Result ℤ NumFault) → calculated c a b ≡ r → numeric r ≡ Ok x → Calculates kind (number a) (number b) x
calculation_at kind c a b x is (Ok z) e i =
    let same : number z ≡ x = cc in
    record {
      change = arithmetic (calculated c);
      row_is = is;
      takes = subst (Takes (arithmetic (calculated c)) (number a) (number b)) same (arithmetic_takes c a b z e);
    }
calculation_at kind c a b x is (Err fault) e i = cc

relation_at : (kind : PlainKind) (holds : Relation) (a b : ℤ) (x : Value) → ((place : ℕ) → row (ops.Plain kind) place ≡ row_of_own (relation (related holds)))
    → logical (related holds a b) ≡ Ok x → Calculates kind (number a) (number b) x
relation_at kind holds a b x is i =
    let same : truth (related holds a b) ≡ x = cc in
    record {
      change = relation (related holds);
      row_is = is;
      takes = subst (Takes (relation (related holds)) (number a) (number b)) same (relation_takes holds a b);
    }

logic_at : (kind : PlainKind) (op : ℕ → ℕ → ℕ) (a b c : Bool) (x : Value) → ((place : ℕ) → row (ops.Plain kind) place ≡ row_of_own (logic op))
    → ((m n : ℕ) → m < 2 ^ 48 → n < 2 ^ 48 → (op m n < 2 ^ 48) × (Says a m → Says b n → Says c (op m n))) → logical c ≡ Ok x
    → Calculates kind (truth a) (truth b) x
logic_at kind op a b c x is law i =
    let same : truth c ≡ x = cc in
    record {
      change = logic op;
      row_is = is;
      takes = subst (Takes (logic op) (truth a) (truth b)) same (logic_takes op a b c law);
    }

-- ---- operators

pub calculates : (op : Op) (v w x : Value) → HasKind (taken_by op) v → HasKind (taken_by op) w → result_of op v w ≡ Ok x
    → Calculates (operator_for op) (ready op v) w x
unfolding row
calculates operators.Add (number a) (number b) x hv hw e =
    calculation_at kinds.Add calculation.Sum a b x (λ place. refl) (calculated calculation.Sum a b) refl e
calculates operators.Add (number a) (truth b) x hv hw e = absurd hw
calculates operators.Add (truth a) w x hv hw e = absurd hv
calculates operators.Sub (number a) (number b) x hv hw e =
    calculation_at kinds.Subt calculation.Difference a b x (λ place. refl) (calculated calculation.Difference a b) refl e
calculates operators.Sub (number a) (truth b) x hv hw e = absurd hw
calculates operators.Sub (truth a) w x hv hw e = absurd hv
calculates operators.Mul (number a) (number b) x hv hw e =
    calculation_at kinds.Mult calculation.Product a b x (λ place. refl) (calculated calculation.Product a b) refl e
calculates operators.Mul (number a) (truth b) x hv hw e = absurd hw
calculates operators.Mul (truth a) w x hv hw e = absurd hv
calculates operators.Over (number a) (number b) x hv hw e =
    calculation_at kinds.Divd calculation.WholeQuotient a b x (λ place. refl) (calculated calculation.WholeQuotient a b) refl e
calculates operators.Over (number a) (truth b) x hv hw e = absurd hw
calculates operators.Over (truth a) w x hv hw e = absurd hv
calculates operators.Div (number a) (number b) x hv hw e =
    calculation_at kinds.Idiv calculation.TruncatedQuotient a b x (λ place. refl) (calculated calculation.TruncatedQuotient a b) refl e
calculates operators.Div (number a) (truth b) x hv hw e = absurd hw
calculates operators.Div (truth a) w x hv hw e = absurd hv
calculates operators.Mod (number a) (number b) x hv hw e =
    calculation_at kinds.Rdiv calculation.Remainder a b x (λ place. refl) (calculated calculation.Remainder a b) refl e
calculates operators.Mod (number a) (truth b) x hv hw e = absurd hw
calculates operators.Mod (truth a) w x hv hw e = absurd hv
calculates operators.Lss (number a) (number b) x hv hw e = relation_at kinds.Less relations.Less a b x (λ place. refl) e
calculates operators.Lss (number a) (truth b) x hv hw e = absurd hw
calculates operators.Lss (truth a) w x hv hw e = absurd hv
calculates operators.Leq (number a) (number b) x hv hw e = relation_at kinds.Lseq relations.LessOrEqual a b x (λ place. refl) e
calculates operators.Leq (number a) (truth b) x hv hw e = absurd hw
calculates operators.Leq (truth a) w x hv hw e = absurd hv
calculates operators.Eql (number a) (number b) x hv hw e = relation_at kinds.Equl relations.Equal a b x (λ place. refl) e
calculates operators.Eql (number a) (truth b) x hv hw e = absurd hw
calculates operators.Eql (truth a) w x hv hw e = absurd hv
calculates operators.Neq (number a) (number b) x hv hw e = relation_at kinds.Neql relations.NotEqual a b x (λ place. refl) e
calculates operators.Neq (number a) (truth b) x hv hw e = absurd hw
calculates operators.Neq (truth a) w x hv hw e = absurd hv
calculates operators.Geq (number a) (number b) x hv hw e = relation_at kinds.Greq relations.GreaterOrEqual a b x (λ place. refl) e
calculates operators.Geq (number a) (truth b) x hv hw e = absurd hw
calculates operators.Geq (truth a) w x hv hw e = absurd hv
calculates operators.Gtr (number a) (number b) x hv hw e = relation_at kinds.Grtr relations.Greater a b x (λ place. refl) e
calculates operators.Gtr (number a) (truth b) x hv hw e = absurd hw
calculates operators.Gtr (truth a) w x hv hw e = absurd hv
calculates operators.And (truth a) (truth b) x hv hw e =
    logic_at kinds.Land bit_and a b (a && b) x (λ place. refl) (λ m n h k. (and_fits m n h k, λ i j. and_says a b m n i j)) e
calculates operators.And (truth a) (number b) x hv hw e = absurd hw
calculates operators.And (number a) w x hv hw e = absurd hv
calculates operators.Or (truth a) (truth b) x hv hw e =
    logic_at kinds.Lor bit_or a b (a || b) x (λ place. refl) (λ m n h k. (or_fits m n h k, λ i j. or_says a b m n i j)) e
calculates operators.Or (truth a) (number b) x hv hw e = absurd hw
calculates operators.Or (number a) w x hv hw e = absurd hv
calculates operators.Imp (truth a) (truth b) x hv hw e =
    logic_at kinds.Lor bit_or (not a) b (not a || b) x (λ place. refl) (λ m n h k. (or_fits m n h k, λ i j. or_says (not a) b m n i j)) e
calculates operators.Imp (truth a) (number b) x hv hw e = absurd hw
calculates operators.Imp (number a) w x hv hw e = absurd hv
calculates operators.Eqv (truth a) (truth b) x hv hw e =
    logic_at kinds.Leqv agreement a b (same_truth a b) x (λ place. refl) (λ m n h k. (agreement_fits m n h k, λ i j. agreement_says a b m n (xor_lt 48 m n h k) i j)) e
calculates operators.Eqv (truth a) (number b) x hv hw e = absurd hw
calculates operators.Eqv (number a) w x hv hw e = absurd hv
