-- The tests of THRU and FOR.
use Rattle.std.proofs.Common.{◌≡◌, refl, sym, ap, ◌∙◌, subst, ℕ, Bool, true, false, ℤ, pos, List, [], ◌∷◌, Ok, arith}
use Rattle.std.specs.Prelude.{int_lt, not, ◌-ℤ◌, ◌*ℤ◌, if◌then◌else◌}
use Rattle.algol_tree.specs.Scopes.{Scopes}
use Rattle.algol_meaning.specs.Value.{number, truth}
use Rattle.algol_meaning.specs.Statements.{sign_of, is_past}
use Rattle.b67_num.specs.declared.Calculation.TheVariants.{Difference, Product}
use Rattle.b67_num.specs.declared.Relation.TheVariants.{Less, Greater}
use Rattle.b67_num.specs.Whole.{calculated, related}
use Rattle.b67_ops.specs.declared.Operator.TheVariants as ops
use Rattle.b67_ops.specs.declared.PlainKind.TheVariants as kinds
use Rattle.b67_segment.specs.Operators.{Placed}
use Rattle.b67_segment.specs.declared.code.Code.{Code}
use Rattle.b67_templates.specs.Contexts.{Context}
use Rattle.b67_table.specs.PrivateRows.{arithmetic, relation}
use Rattle.b67_table.specs.Rows.{row}
use Rattle.b67_templates.specs.Fragments.{IsWholeNumber, Has}
use Rattle.b67_templates.specs.Code.{CountAt, PastAt, StepSign, up, down, still, SignedAt}
use Rattle.b67_standing.specs.Stepping.{Slot, operand, SlotsHaveRoom}
use Rattle.b67_cores.specs.Cores.{Core}
use Rattle.b67_cores.specs.Slots.{Known}
use Rattle.b67_cores.proofs.Taking.{one_if, arithmetic_takes, relation_takes, relation_counts}
use Rattle.b67_cores.proofs.Moving.{Standing, on}
use Rattle.b67_cores.proofs.Operating.{Goes, binary, double, exchange, dropping, if_true}
use Rattle.b67_cores.proofs.Pushing.{Run, done, next, run_at, zero_at, one_at}
use Rattle.b67_cores.proofs.Signs.{less_one, counted_down, sign_is, signed, past_is, past_up, past_down, past_still}

abbrev num : ℤ → Slot
num z = operand (number z)

module _ (sc : Scopes) (known : List Known) (context : Context) (code : Code) (ps : List Placed) (level most bound : ℕ) (core : Core) (st : Standing code ps level most bound core) where
  abbrev Gets : ℕ → List Slot → ℕ → List Slot → Type 0
  Gets = Goes sc known code ps level most bound core st

  less_at : (y z : ℤ) (x : List Slot) (from to : ℕ) → Has ps level from (ops.Plain kinds.Less) to
      → Gets from (num z ∷ num y ∷ x) to (operand (truth (related Less y z)) ∷ x)
  unfolding row
  less_at y z x from to at =
      binary sc known code ps level most bound core st from to kinds.Less (relation (related Less)) (number y) (number z) (truth (related Less y z)) x at refl
      (relation_takes Less y z)

  greater_at : (y z : ℤ) (x : List Slot) (from to : ℕ) → Has ps level from (ops.Plain kinds.Grtr) to
      → Gets from (num z ∷ num y ∷ x) to (operand (truth (related Greater y z)) ∷ x)
  unfolding row
  greater_at y z x from to at =
      binary sc known code ps level most bound core st from to kinds.Grtr (relation (related Greater)) (number y) (number z) (truth (related Greater y z)) x at refl
      (relation_takes Greater y z)

  -- what a relation leaves is a number too
  less_counts : (y z : ℤ) (x : List Slot) (from to : ℕ) → Has ps level from (ops.Plain kinds.Less) to
      → Gets from (num z ∷ num y ∷ x) to (num (one_if (related Less y z)) ∷ x)
  unfolding row
  less_counts y z x from to at =
      binary sc known code ps level most bound core st from to kinds.Less (relation (related Less)) (number y) (number z) (number (one_if (related Less y z))) x at refl
      (relation_counts Less y z)

  greater_counts : (y z : ℤ) (x : List Slot) (from to : ℕ) → Has ps level from (ops.Plain kinds.Grtr) to
      → Gets from (num z ∷ num y ∷ x) to (num (one_if (related Greater y z)) ∷ x)
  unfolding row
  greater_counts y z x from to at =
      binary sc known code ps level most bound core st from to kinds.Grtr (relation (related Greater)) (number y) (number z) (number (one_if (related Greater y z))) x at
      refl (relation_counts Greater y z)

  difference_at : (y z d : ℤ) (x : List Slot) → calculated Difference y z ≡ Ok d → (from to : ℕ) → Has ps level from (ops.Plain kinds.Subt) to
      → Gets from (num z ∷ num y ∷ x) to (num d ∷ x)
  unfolding row
  difference_at y z d x e from to at =
      binary sc known code ps level most bound core st from to kinds.Subt (arithmetic (calculated Difference)) (number y) (number z) (number d) x at refl
      (arithmetic_takes Difference y z d e)

  product_at : (y z d : ℤ) (x : List Slot) → calculated Product y z ≡ Ok d → (from to : ℕ) → Has ps level from (ops.Plain kinds.Mult) to
      → Gets from (num z ∷ num y ∷ x) to (num d ∷ x)
  unfolding row
  product_at y z d x e from to at =
      binary sc known code ps level most bound core st from to kinds.Mult (arithmetic (calculated Product)) (number y) (number z) (number d) x at refl
      (arithmetic_takes Product y z d e)

  double_at : (z : ℤ) (x : List Slot) → SlotsHaveRoom most x 2 → (from to : ℕ) → Has ps level from (ops.Plain kinds.Dupl) to → Gets from (num z ∷ x) to (num z ∷ num z ∷ x)
  double_at z x room from to at = double sc known code ps level most bound core st from to (number z) x at room

  exchange_at : (y z : ℤ) (x : List Slot) (from to : ℕ) → Has ps level from (ops.Plain kinds.Exch) to → Gets from (num z ∷ num y ∷ x) to (num y ∷ num z ∷ x)
  exchange_at y z x from to at = exchange sc known code ps level most bound core st from to (number y) (number z) x at

  goes_on : {a b c : ℕ} {x y z : List Slot} → Gets a x b y → Gets b y c z → Gets a x c z
  goes_on f g = on sc known code ps level most bound core st f g

  zero_on : (x : List Slot) → SlotsHaveRoom most x 1 → (from to : ℕ) → Has ps level from (ops.Plain kinds.Zero) to → Gets from x to (num (pos 0) ∷ x)
  zero_on x room from to at = zero_at sc known context code ps level most bound core st x room from to at

  one_on : (x : List Slot) → SlotsHaveRoom most x 1 → (from to : ℕ) → Has ps level from (ops.Plain kinds.One) to → Gets from x to (num (pos 1) ∷ x)
  one_on x room from to at = one_at sc known context code ps level most bound core st x room from to at

  -- ---- THRU

  module _ (from l to : ℕ) (z : ℤ) (x : List Slot) (at : CountAt sc context ps level from l to) (room : SlotsHaveRoom most x 3) where
    -- the count lies there again, and where it is less than 1 it is at l
    count_tested : (b : Bool) → related Less z (pos 1) ≡ b → Gets from (num z ∷ x) (if b then l else at.gone) (num z ∷ x)
    count_tested b e =
        let run : Run sc known context code ps level most bound core st (kinds.Dupl ∷ kinds.One ∷ kinds.Less ∷ []) (num z ∷ x) (operand (truth (related Less z (pos 1))) ∷ num z ∷ x) =
        next (double_at z x (omega (arith, room))) (next (one_on (num z ∷ num z ∷ x) (omega (arith, room))) (next (less_at z (pos 1) (num z ∷ x)) done)) in
        let test : Gets from (num z ∷ x) at.tested (operand (truth (related Less z (pos 1))) ∷ num z ∷ x) =
        run_at sc known context code ps level most bound core st from at.tested run at.test in
        let goes : Gets from (num z ∷ x) (if related Less z (pos 1) then l else at.gone) (num z ∷ x) =
        goes_on test (if_true sc known code ps level most bound core st at.tested l at.gone (related Less z (pos 1)) (num z ∷ x) at.branch) in
        subst (λ c. Gets from (num z ∷ x) (if c then l else at.gone) (num z ∷ x)) e goes

    pub counts_on : IsWholeNumber z → int_lt (pos 0) z ≡ true → Gets from (num z ∷ x) to (num (z -ℤ pos 1) ∷ x)
    counts_on whole some =
        let run : Run sc known context code ps level most bound core st (kinds.One ∷ kinds.Subt ∷ []) (num z ∷ x) (num (z -ℤ pos 1) ∷ x) =
        next (one_on (num z ∷ x) (omega (arith, room))) (next (difference_at z (pos 1) (z -ℤ pos 1) x (counted_down z whole some)) done) in
        let less : Gets at.gone (num z ∷ x) to (num (z -ℤ pos 1) ∷ x) =
        run_at sc known context code ps level most bound core st at.gone to run at.less in
        goes_on (count_tested false (less_one z ∙ ap not some)) less

    pub count_spent : int_lt (pos 0) z ≡ false → Gets from (num z ∷ x) l (num z ∷ x)
    count_spent none = count_tested true (less_one z ∙ ap not none)

  -- ---- FOR

  pub past_tested : (from u to : ℕ) (d z : ℤ) (x : List Slot) → PastAt sc context ps level from u to → IsWholeNumber d → IsWholeNumber z → SlotsHaveRoom most x 4
      → Gets from (num z ∷ num d ∷ x) (if is_past d z then u else to) x
  past_tested from u to d z x at hd hz room =
      let g : ℤ = one_if (related Greater z (pos 0)) in
      let l : ℤ = one_if (related Less z (pos 0)) in
      let run : Run sc known context code ps level most bound core st
      (kinds.Dupl ∷ kinds.Zero ∷ kinds.Grtr ∷ kinds.Exch ∷ kinds.Zero ∷ kinds.Less ∷ kinds.Subt ∷ kinds.Mult ∷ kinds.Zero ∷ kinds.Grtr ∷ [])
      (num z ∷ num d ∷ x) (operand (truth (related Greater (d *ℤ sign_of z) (pos 0))) ∷ x) =
      next (double_at z (num d ∷ x) (omega (arith, room)))
      (next (zero_on (num z ∷ num z ∷ num d ∷ x) (omega (arith, room)))
      (next (greater_counts z (pos 0) (num z ∷ num d ∷ x))
      (next (exchange_at z (one_if (related Greater z (pos 0))) (num d ∷ x))
      (next (zero_on (num z ∷ num g ∷ num d ∷ x) (omega (arith, room)))
      (next (less_counts z (pos 0) (num g ∷ num d ∷ x))
      (next (difference_at g l (sign_of z) (num d ∷ x) (sign_is z))
      (next (product_at d (sign_of z) (d *ℤ sign_of z) x (signed d z hd))
      (next (zero_on (num (d *ℤ sign_of z) ∷ x) (omega (arith, room)))
      (next (greater_at (d *ℤ sign_of z) (pos 0) x) done))))))))) in
      let test : Gets from (num z ∷ num d ∷ x) at.tested (operand (truth (related Greater (d *ℤ sign_of z) (pos 0))) ∷ x) =
      run_at sc known context code ps level most bound core st from at.tested run at.test in
      let goes : Gets from (num z ∷ num d ∷ x) (if related Greater (d *ℤ sign_of z) (pos 0) then u else to) x =
      goes_on test (if_true sc known code ps level most bound core st at.tested u to (related Greater (d *ℤ sign_of z) (pos 0)) x at.branch) in
      subst (λ c. Gets from (num z ∷ num d ∷ x) (if c then u else to) x) (past_is d z) goes

  -- where the step is a literal
  pub sign_tested : (from u to : ℕ) (d : ℤ) {z : ℤ} (x : List Slot) (s : StepSign z) → SignedAt sc context ps level s from u to → SlotsHaveRoom most x 2
      → Gets from (num d ∷ x) (if is_past d z then u else to) x
  sign_tested from u to d x (up {z = z} p) at room =
      let run : Run sc known context code ps level most bound core st (kinds.Zero ∷ kinds.Grtr ∷ []) (num d ∷ x) (operand (truth (related Greater d (pos 0))) ∷ x) =
      next (zero_on (num d ∷ x) (omega (arith, room))) (next (greater_at d (pos 0) x) done) in
      let test : Gets from (num d ∷ x) at.0 (operand (truth (related Greater d (pos 0))) ∷ x) = run_at sc known context code ps level most bound core st from at.0 run at.1 in
      let goes : Gets from (num d ∷ x) (if related Greater d (pos 0) then u else to) x =
      goes_on test (if_true sc known code ps level most bound core st at.0 u to (related Greater d (pos 0)) x at.2) in
      subst (λ c. Gets from (num d ∷ x) (if c then u else to) x) (past_up d z p) goes
  sign_tested from u to d x (down {z = z} p) at room =
      let run : Run sc known context code ps level most bound core st (kinds.Zero ∷ kinds.Less ∷ []) (num d ∷ x) (operand (truth (related Less d (pos 0))) ∷ x) =
      next (zero_on (num d ∷ x) (omega (arith, room))) (next (less_at d (pos 0) x) done) in
      let test : Gets from (num d ∷ x) at.0 (operand (truth (related Less d (pos 0))) ∷ x) = run_at sc known context code ps level most bound core st from at.0 run at.1 in
      let goes : Gets from (num d ∷ x) (if related Less d (pos 0) then u else to) x =
      goes_on test (if_true sc known code ps level most bound core st at.0 u to (related Less d (pos 0)) x at.2) in
      subst (λ c. Gets from (num d ∷ x) (if c then u else to) x) (past_down d z p) goes
  sign_tested from u to d x still at room =
      subst (λ c. Gets from (num d ∷ x) (if c then u else to) x) (sym (past_still d)) (dropping sc known code ps level most bound core st from to (number d) x at)
