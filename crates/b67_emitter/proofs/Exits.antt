-- Places of branches: which places are among them, and that they stay branches.
use Rattle.std.proofs.Common.{◌≡◌, ℕ, ◌≤◌, ◌<◌, Bool, true, false, List, [], ◌∷◌, ◌++◌, refl, ap, ◌∙◌, arith}
use Rattle.std.specs.Prelude.{nat_eq, ◌||◌}
use Rattle.std.proofs.lemmas.Bool.{ne_eqb}
use Rattle.b67_ops.specs.declared.Operator.{Operator}
use Rattle.b67_ops.specs.declared.Operator.TheVariants.{Branch}
use Rattle.b67_ops.specs.declared.BranchKind.{BranchKind}
use Rattle.b67_ops.proofs.Laws.{length_spelling}
use Rattle.b67_segment.specs.Operators.{Placed, StandsAmong}
use Rattle.b67_templates.specs.Emitting.{number_is_among, AreExits}

-- the place after an operator lies after it
pub next_behind : (ps : List Placed) (at level next : ℕ) (op : Operator) → StandsAmong ps at level op next → at < next
next_behind ps at level next op s = omega (arith, s.next_is, length_spelling at level op)

or_false : (a b : Bool) → a ≡ false → b ≡ false → (a || b) ≡ false
or_false a b p q = cc

or_assoc : (a b c : Bool) → (a || (b || c)) ≡ ((a || b) || c)
or_assoc true b c = refl
or_assoc false b c = refl

pub or_left : (a b : Bool) → b ≡ false → (a || b) ≡ a
or_left true b p = refl
or_left false b p = p

pub is_among_append : (xs ys : List ℕ) (at : ℕ) → number_is_among (xs ++ ys) at ≡ (number_is_among xs at || number_is_among ys at)
is_among_append [] ys at = refl
is_among_append (x ∷ xs) ys at = ap (λ b. nat_eq x at || b) (is_among_append xs ys at) ∙ or_assoc (nat_eq x at) (number_is_among xs at) (number_is_among ys at)

-- branches from one place to another are none before and none after
pub none_before : (ps : List Placed) (es : List ℕ) (from to at : ℕ) → AreExits ps es from to → at < from → number_is_among es at ≡ false
none_before ps [] from to at h lo = refl
none_before ps (e ∷ es) from to at ((level, kind, old, next, low, high, s), h) lo =
    or_false (nat_eq e at) (number_is_among es at) (ne_eqb e at (λ q. omega arith)) (none_before ps es from to at h lo)

pub none_behind : (ps : List Placed) (es : List ℕ) (from to at : ℕ) → AreExits ps es from to → to ≤ at → number_is_among es at ≡ false
none_behind ps [] from to at h hi = refl
none_behind ps (e ∷ es) from to at ((level, kind, old, next, low, high, s), h) hi =
    or_false (nat_eq e at) (number_is_among es at) (ne_eqb e at (λ q. omega (arith, next_behind ps e level next (Branch kind old) s))) (none_behind ps es from to at h hi)

-- branches stay where they are kept, also between places further apart
pub exits_kept : (ps qs : List Placed) (es : List ℕ) (from to from' to' : ℕ) → from' ≤ from → to ≤ to' →
    ((at level next old : ℕ) (kind : BranchKind) → from ≤ at → next ≤ to → StandsAmong ps at level (Branch kind old) next → (target : ℕ) × StandsAmong qs at level (Branch kind target) next) →
    AreExits ps es from to → AreExits qs es from' to'
exits_kept ps qs [] from to from' to' low high keep h = tt
exits_kept ps qs (e ∷ es) from to from' to' low high keep ((level, kind, old, next, lo, hi, s), h) =
    let there = keep e level next old kind lo hi s in
    ((level, kind, there.0, next, omega arith, omega arith, there.1), exits_kept ps qs es from to from' to' low high keep h)

pub exits_append : (ps : List Placed) (xs ys : List ℕ) (from to : ℕ) → AreExits ps xs from to → AreExits ps ys from to → AreExits ps (xs ++ ys) from to
exits_append ps [] ys from to h k = k
exits_append ps (x ∷ xs) ys from to h k = (h.0, exits_append ps xs ys from to h.1 k)
