-- What a call that appends code to a builder promises of it, whatever is appended or aimed elsewhere afterwards.
use Rattle.std.specs.Prelude.{◌≡◌, ℕ, ◌≤◌, List, [], ◌∷◌, ◌++◌, nat_eq, ◌||◌, Bool, true, false}
use Rattle.b67_ops.specs.declared.Operator.{Operator}
use Rattle.b67_ops.specs.declared.Operator.TheVariants.{Branch}
use Rattle.b67_ops.specs.declared.BranchKind.{BranchKind}
use Rattle.b67_segment.specs.Operators.{Placed, StandsAmong, size}
use Rattle.b67_segment.specs.Building.{Built}

-- each operator that stands among the first list from one place to another stands in the second as well
abbrev pub OperatorsStay : ℕ → ℕ → List Placed → List Placed → Type 0
OperatorsStay from to ps qs =
    (at level next : ℕ) (op : Operator) → from ≤ at → next ≤ to → StandsAmong ps at level op next → StandsAmong qs at level op next

-- From the first builder to the second one code was appended, of which the claim holds wherever it is kept.
pub record Emitted (before after : Built) (claim : List Placed → Type 0) : Type 0 where
  pub level : after.level ≡ before.level
  pub grown : size before.operators ≤ size after.operators
  pub kept : OperatorsStay 0 (size before.operators) before.operators after.operators
  pub claimed : (qs : List Placed) → OperatorsStay (size before.operators) (size after.operators) after.operators qs → claim qs

-- ---- code that is left early by branches whose target is set later

abbrev pub number_is_among : List ℕ → ℕ → Bool
number_is_among [] at = false
number_is_among (e ∷ es) at = nat_eq e at || number_is_among es at

-- the same, but that the branches at these places go to that target
pub record Leaves (exits : List ℕ) (target from to : ℕ) (ps qs : List Placed) : Type 0 where
  pub others : (at level next : ℕ) (op : Operator) → number_is_among exits at ≡ false → from ≤ at → next ≤ to → StandsAmong ps at level op next → StandsAmong qs at level op next
  pub aimed : (at level next old : ℕ) (kind : BranchKind) → number_is_among exits at ≡ true → from ≤ at → next ≤ to → StandsAmong ps at level (Branch kind old) next →
      StandsAmong qs at level (Branch kind target) next

-- branches stand at these places, from one place to another
abbrev pub AreExits : List Placed → List ℕ → ℕ → ℕ → Type 0
AreExits ps [] from to = Unit {0}
AreExits ps (e ∷ es) from to =
    ((level : ℕ) × (kind : BranchKind) × (old : ℕ) × (next : ℕ) × (from ≤ e) × (next ≤ to) × StandsAmong ps e level (Branch kind old) next) × AreExits ps es from to

-- The claim holds wherever the code is kept and its exits, which are added to those of before, all go to that target after it.
pub record EmittedWithExits (before after : Built) (exits_before exits_after : List ℕ) (claim : List Placed → ℕ → Type 0) : Type 0 where
  pub level : after.level ≡ before.level
  pub grown : size before.operators ≤ size after.operators
  pub kept : OperatorsStay 0 (size before.operators) before.operators after.operators
  pub exits : List ℕ
  pub added : exits_after ≡ exits_before ++ exits
  pub are : AreExits after.operators exits (size before.operators) (size after.operators)
  pub claimed : (qs : List Placed) (target : ℕ) → size after.operators ≤ target → Leaves exits target (size before.operators) (size after.operators) after.operators qs → claim qs target
