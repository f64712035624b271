-- Room for entries: what is left of it after some.
use Rattle.std.proofs.Common.{◌≡◌, subst, ℕ, suc, ◌+◌, ◌-◌, ◌<◌, ◌≤◌, arith}
use Rattle.b67_outcomes.specs.declared.found.TheConstants.{MOST_ENTRIES}
use Rattle.b67_outcomes.specs.Entering.{HasRoom}

-- before the first there is all of it
pub begun : (Room : ℕ → Type 0) (n : ℕ) → Room MOST_ENTRIES → HasRoom Room n
begun Room n all = record { left = MOST_ENTRIES; is = all; enough = omega arith }

-- there is as much where more were performed at most
pub after_more : (Room : ℕ → Type 0) (n m : ℕ) → n ≤ m → HasRoom Room n → HasRoom Room m
after_more Room n m order r = let enough = r.enough in record { left = r.left; is = r.is; enough = omega (arith, enough, order) }

-- there is room for a run of entries
pub for_run : (Room : ℕ → Type 0) (n count : ℕ) → n + count ≤ MOST_ENTRIES → HasRoom Room n → (k : ℕ) × Room (count + k)
for_run Room n count few r =
    let enough = r.enough in
    let split : r.left ≡ count + (r.left - count) = omega (arith, enough, few) in
    (r.left - count, subst (λ (k : ℕ). Room k) split r.is)

-- and then for the others
pub after_run : (Room New : ℕ → Type 0) (n count : ℕ) → n + count ≤ MOST_ENTRIES → HasRoom Room n → ((k : ℕ) → Room (count + k) → New k) → HasRoom New (n + count)
after_run Room New n count few r more =
    let enough = r.enough in
    let split : r.left ≡ count + (r.left - count) = omega (arith, enough, few) in
    record { left = r.left - count; is = more (r.left - count) (subst (λ (k : ℕ). Room k) split r.is); enough = omega (arith, enough, few) }

-- there is room for one
pub for_one : (Room : ℕ → Type 0) (n : ℕ) → n < MOST_ENTRIES → HasRoom Room n → (k : ℕ) × Room (suc k)
for_one Room n few r =
    let enough = r.enough in
    let split : r.left ≡ suc (r.left - 1) = omega (arith, enough, few) in
    (r.left - 1, subst (λ (k : ℕ). Room k) split r.is)

pub after_one : (Room New : ℕ → Type 0) (n : ℕ) → n < MOST_ENTRIES → HasRoom Room n → ((k : ℕ) → Room (suc k) → New k) → HasRoom New (n + 1)
after_one Room New n few r more =
    let enough = r.enough in
    let split : r.left ≡ suc (r.left - 1) = omega (arith, enough, few) in
    record { left = r.left - 1; is = more (r.left - 1) (subst (λ (k : ℕ). Room k) split r.is); enough = omega (arith, enough, few) }

-- where nothing was performed there is as much
pub the_same : (Room New : ℕ → Type 0) (n : ℕ) → HasRoom Room n → ((k : ℕ) → Room k → New k) → HasRoom New n
the_same Room New n r more = record { left = r.left; is = more r.left r.is; enough = r.enough }
