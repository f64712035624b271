-- A subscript is moved by a lower bound.
use Rattle.std.proofs.Common.{◌≡◌, refl, sym, subst, ℕ, Bool, true, false, ℤ, pos, int_eq, List, [], ◌∷◌, Ok, arith}
use Rattle.std.specs.Prelude.{neg_ℤ, if◌then◌else◌}
use Rattle.std.proofs.lemmas.Bool.Decides.{Decides-int_eq}
use Rattle.algol_tree.specs.Scopes.{Scopes}
use Rattle.algol_meaning.specs.Value.{number}
use Rattle.b67_num.specs.declared.Calculation.{Calculation}
use Rattle.b67_num.specs.declared.Calculation.TheVariants.{Sum, Difference, Product}
use Rattle.b67_num.specs.declared.Relation.{Relation}
use Rattle.b67_num.specs.declared.Relation.TheVariants.{Less, LessOrEqual, GreaterOrEqual}
use Rattle.b67_num.specs.Whole.{calculated, related}
use Rattle.b67_ops.specs.declared.Operator.TheVariants as ops
use Rattle.b67_ops.specs.declared.PlainKind.{PlainKind}
use Rattle.b67_ops.specs.declared.PlainKind.TheVariants as kinds
use Rattle.b67_segment.specs.Operators.{Placed}
use Rattle.b67_segment.specs.declared.code.Code.{Code}
use Rattle.b67_templates.specs.Contexts.{Context}
use Rattle.b67_table.specs.PrivateRows.{arithmetic, relation}
use Rattle.b67_table.specs.Rows.{row, row_of_own}
use Rattle.b67_templates.specs.Fragments.{IsWholeNumber, Has, AllAt, two_bytes, Low, zero, above, near, far, low_of, moved_by, moved_number, TimesBy, TimesAt, MovedBy, MovedAt}
use Rattle.b67_standing.specs.Stepping.{Slot, operand, SlotsHaveRoom}
use Rattle.b67_cores.specs.Cores.{Core}
use Rattle.b67_cores.specs.Slots.{Known}
use Rattle.b67_cores.proofs.Lows.{bound_product, subscript_product, square, whole_again, above_moved, near_moved, far_moved}
use Rattle.b67_cores.proofs.Taking.{one_if, arithmetic_takes, relation_counts}
use Rattle.b67_cores.proofs.Moving.{Standing, nothing, on}
use Rattle.b67_cores.proofs.Operating.{Goes, binary, double}
use Rattle.b67_cores.proofs.Pushing.{Run, done, next, run_at, push_number, zero_at}

abbrev num : ℤ → Slot
num z = operand (number z)

module _ (sc : Scopes) (known : List Known) (context : Context) (code : Code) (ps : List Placed) (level most bound : ℕ) (core : Core) (st : Standing code ps level most bound core) where
  abbrev Gets : ℕ → List Slot → ℕ → List Slot → Type 0
  Gets = Goes sc known code ps level most bound core st

  abbrev Runs : List PlainKind → List Slot → List Slot → Type 0
  Runs = Run sc known context code ps level most bound core st

  -- a comparison leaves 1 or 0
  compared : (kind : PlainKind) (holds : Relation) → ((place : ℕ) → row (ops.Plain kind) place ≡ row_of_own (relation (related holds))) → (y z : ℤ) (x : List Slot) (from to : ℕ)
      → Has ps level from (ops.Plain kind) to → Gets from (num z ∷ num y ∷ x) to (num (one_if (related holds y z)) ∷ x)
  compared kind holds is y z x from to at =
      binary sc known code ps level most bound core st from to kind (relation (related holds)) (number y) (number z) (number (one_if (related holds y z))) x at
      (is from) (relation_counts holds y z)

  result_at : (kind : PlainKind) (c : Calculation) → ((place : ℕ) → row (ops.Plain kind) place ≡ row_of_own (arithmetic (calculated c))) → (y z d : ℤ) (x : List Slot)
      → calculated c y z ≡ Ok d → (from to : ℕ) → Has ps level from (ops.Plain kind) to → Gets from (num z ∷ num y ∷ x) to (num d ∷ x)
  result_at kind c is y z d x e from to at =
      binary sc known code ps level most bound core st from to kind (arithmetic (calculated c)) (number y) (number z) (number d) x at (is from)
      (arithmetic_takes c y z d e)

  double_at : (z : ℤ) (x : List Slot) → SlotsHaveRoom most x 2 → (from to : ℕ) → Has ps level from (ops.Plain kinds.Dupl) to → Gets from (num z ∷ x) to (num z ∷ num z ∷ x)
  double_at z x room from to at = double sc known code ps level most bound core st from to (number z) x at room

  zero_on : (x : List Slot) → SlotsHaveRoom most x 1 → (from to : ℕ) → Has ps level from (ops.Plain kinds.Zero) to → Gets from x to (num (pos 0) ∷ x)
  zero_on x room from to at = zero_at sc known context code ps level most bound core st x room from to at

  run_on : {kinds : List PlainKind} {x y : List Slot} (from to : ℕ) → Runs kinds x y → AllAt ps level kinds from to → Gets from x to y
  run_on from to run at = run_at sc known context code ps level most bound core st from to run at

  goes_on : {a b c : ℕ} {x y z : List Slot} → Gets a x b y → Gets b y c z → Gets a x c z
  goes_on f g = on sc known code ps level most bound core st f g

  -- a comparison is multiplied by a number
  times_by : (t b : Bool) (factor : ℤ) (x : List Slot) (from to : ℕ) → int_eq factor (pos 1) ≡ t → SlotsHaveRoom most x 2 → TimesBy ps level t factor from to
      → Gets from (num (one_if b) ∷ x) to (num (if b then factor else pos 0) ∷ x)
  unfolding row
  times_by true b factor x from to e room at =
      subst (λ z. Gets from (num (one_if b) ∷ x) to (num (if b then z else pos 0) ∷ x)) (sym ((Decides-int_eq factor (pos 1)).0 e))
      (subst (λ t. Gets from (num (one_if b) ∷ x) t (num (one_if b) ∷ x)) at (nothing sc known code ps level most bound core st from (num (one_if b) ∷ x)))
  times_by false b factor x from to e room at =
      goes_on (push_number sc known context code ps level most bound core st from at.0 factor (num (one_if b) ∷ x) at.1 (omega (arith, room)))
      (result_at kinds.Mult Product (λ place. refl) (one_if b) factor (if b then factor else pos 0) x (bound_product b factor at.1.whole) at.0 to at.2)

  times_at : (b : Bool) (factor : ℤ) (x : List Slot) (from to : ℕ) → SlotsHaveRoom most x 2 → TimesAt ps level factor from to
      → Gets from (num (one_if b) ∷ x) to (num (if b then factor else pos 0) ∷ x)
  times_at b factor x from to room at = times_by (int_eq factor (pos 1)) b factor x from to refl room at

  -- and the number is a whole one
  factor_by : (t : Bool) (factor : ℤ) (from to : ℕ) → int_eq factor (pos 1) ≡ t → TimesBy ps level t factor from to → IsWholeNumber factor
  factor_by true factor from to e at = subst IsWholeNumber (sym ((Decides-int_eq factor (pos 1)).0 e)) (omega arith)
  factor_by false factor from to e at = at.1.whole

  factor_whole : (factor : ℤ) (from to : ℕ) → TimesAt ps level factor from to → IsWholeNumber factor
  factor_whole factor from to at = factor_by (int_eq factor (pos 1)) factor from to refl at

  module _ (low i : ℤ) (x : List Slot) (whole : IsWholeNumber i) (room : SlotsHaveRoom most x 4) where
    from_above : (from to : ℕ) → low_of low ≡ above → MovedBy ps level above low from to → Gets from (num i ∷ x) to (num (moved_by above low i) ∷ x)
    unfolding row related
    from_above from to e at =
        let b : Bool = related GreaterOrEqual i (pos 0) in
        let test : Runs (kinds.Dupl ∷ kinds.Zero ∷ kinds.Greq ∷ []) (num i ∷ x) (num (one_if b) ∷ num i ∷ x) =
        next (double_at i x (omega (arith, room)))
        (next (zero_on (num i ∷ num i ∷ x) (omega (arith, room)))
        (next (compared kinds.Greq GreaterOrEqual (λ place. refl) i (pos 0) (num i ∷ x)) done)) in
        goes_on (run_on from at.0 test at.2)
        (goes_on (times_at b low (num i ∷ x) at.0 at.1 (omega (arith, room)) at.3)
        (result_at kinds.Subt Difference (λ place. refl) i (if b then low else pos 0) (moved_by above low i) x
        (above_moved low i (factor_whole low at.0 at.1 at.3) whole e) at.1 to at.4))

    from_near : (from to : ℕ) → low_of low ≡ near → IsWholeNumber low → MovedBy ps level near low from to → Gets from (num i ∷ x) to (num (moved_by near low i) ∷ x)
    unfolding row related
    from_near from to e small at =
        let b : Bool = related LessOrEqual i (pos 4294836225) in
        let test : Runs (kinds.Dupl ∷ kinds.Mult ∷ kinds.Lseq ∷ []) (num (pos 65535) ∷ num i ∷ num i ∷ x) (num (one_if b) ∷ num i ∷ x) =
        next (double_at (pos 65535) (num i ∷ num i ∷ x) (omega (arith, room)))
        (next (result_at kinds.Mult Product (λ place. refl) (pos 65535) (pos 65535) (pos 4294836225) (num i ∷ num i ∷ x) square)
        (next (compared kinds.Lseq LessOrEqual (λ place. refl) i (pos 4294836225) (num i ∷ x)) done)) in
        goes_on (double_at i x (omega (arith, room)) from at.0 at.4)
        (goes_on (push_number sc known context code ps level most bound core st at.0 at.1 (pos 65535) (num i ∷ num i ∷ x)
        (record { op = ops.Lt16 65535; stands = at.5; literal = two_bytes 65535; whole = omega arith }) (omega (arith, room)))
        (goes_on (run_on at.1 at.2 test at.6)
        (goes_on (times_at b (neg_ℤ low) (num i ∷ x) at.2 at.3 (omega (arith, room)) at.7)
        (result_at kinds.Add Sum (λ place. refl) i (if b then neg_ℤ low else pos 0) (moved_by near low i) x (near_moved low i small whole e) at.3 to at.8))))

    from_far : (from to : ℕ) → low_of low ≡ far → IsWholeNumber low → MovedBy ps level far low from to → Gets from (num i ∷ x) to (num (moved_by far low i) ∷ x)
    unfolding row related
    from_far from to e small at =
        let b : Bool = related Less i (pos 0) in
        let test : Runs (kinds.Dupl ∷ kinds.Zero ∷ kinds.Less ∷ kinds.Mult ∷ []) (num i ∷ x) (num (if b then i else pos 0) ∷ x) =
        next (double_at i x (omega (arith, room)))
        (next (zero_on (num i ∷ num i ∷ x) (omega (arith, room)))
        (next (compared kinds.Less Less (λ place. refl) i (pos 0) (num i ∷ x))
        (next (result_at kinds.Mult Product (λ place. refl) i (one_if b) (if b then i else pos 0) x (subscript_product b i whole)) done))) in
        goes_on (run_on from at.0 test at.2)
        (goes_on (push_number sc known context code ps level most bound core st at.0 at.1 (neg_ℤ low) (num (if b then i else pos 0) ∷ x) at.3 (omega (arith, room)))
        (result_at kinds.Add Sum (λ place. refl) (if b then i else pos 0) (neg_ℤ low) (moved_by far low i) x (far_moved low i small whole e) at.1 to at.4))

    from_bound : (l : Low) (from to : ℕ) → low_of low ≡ l → MovedBy ps level l low from to → Gets from (num i ∷ x) to (num (moved_by l low i) ∷ x)
    from_bound zero from to e at = subst (λ t. Gets from (num i ∷ x) t (num i ∷ x)) at (nothing sc known code ps level most bound core st from (num i ∷ x))
    from_bound above from to e at = from_above from to e at
    from_bound near from to e at = from_near from to e (whole_again low (factor_whole (neg_ℤ low) at.2 at.3 at.7)) at
    from_bound far from to e at = from_far from to e (whole_again low at.3.whole) at

    pub subscript_moved : (from to : ℕ) → MovedAt ps level low from to → Gets from (num i ∷ x) to (num (moved_number low i) ∷ x)
    subscript_moved from to at = from_bound (low_of low) from to refl at
