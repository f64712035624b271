-- More operators in a tail, and a tail that comes first.
use Rattle.std.proofs.Common.{◌≡◌, sym, subst, ℕ, zero, suc, ◌+◌, List, [], ◌∷◌, arith}
use Rattle.std.proofs.Math.Decide.{ℕ_discrete}
use Rattle.b67_segment.specs.declared.code.Code.{Code}
use Rattle.b67_table.specs.Image.{Image}
use Rattle.b67_table.specs.Runs.{Plains, stay, Tails, none, next}
use Rattle.b67_table.specs.Valid.{IsValid}
use Rattle.b67_action.proofs.Runs.{plains_then}
use Rattle.b67_stands.specs.Tails.{more_at, none_at, at_place}
use Rattle.b67_stands.proofs.Steps.{Same, same_self, same_then}
use Rattle.b67_stands.proofs.Past.{plains_same, none_stays, all_first}

pub tails_same : (code : Code) (s : ℕ) (a b : Image) (tails : List ℕ) → IsValid code a → Tails code s a tails b → Same code a b
tails_same code s a b tails v none = same_self code a v
tails_same code s a b tails v (next {b = c} {tails = ts} one rest) =
    let k = plains_same code s a c _ v one in same_then code a c b k (tails_same code (s + 1) c b ts k.valid rest)

-- the tail of the process, where it is among these, is none
abbrev pub HasNone : ℕ → ℕ → List ℕ → Type 0
HasNone p s tails = (j : ℕ) → s + j ≡ p → at_place tails j ≡ 0

pub has_none_on : (p s t : ℕ) (tails : List ℕ) → HasNone p s (t ∷ tails) → HasNone p (s + 1) tails
has_none_on p s t tails h j e = h (suc j) (omega (arith, e))

module _ (code : Code) (p : ℕ) where
  -- so many operators of p come before the tails of others
  pub record BeforeTails (s : ℕ) (a : Image) (tails : List ℕ) (n : ℕ) (c : Image) : Type 0 where
    pub between : Image
    pub first : Plains code p a n between
    pub rest : Tails code s between tails c

  tail_by : (s : ℕ) (a c d : Image) (m n : ℕ) (ts : List ℕ) → IsValid code a → Plains code s a m d → HasNone p s (m ∷ ts) → BeforeTails (s + 1) d ts n c → Dec (s ≡ p)
      → BeforeTails s a (m ∷ ts) n c
  tail_by s a c d m n ts v one h later (yes e) =
      let nothing : m ≡ 0 = h 0 (omega (arith, e)) in
      let here : d ≡ a = sym (none_stays code s a d m one nothing) in
      record {
        between = later.between;
        first = subst (λ (x : Image). Plains code p x n later.between) here later.first;
        rest = subst (λ (k : ℕ). Tails code s later.between (k ∷ ts) c) (sym nothing) (next stay later.rest);
      }
  tail_by s a c d m n ts v one h later (no g) =
      let k = all_first code p s (λ e. g (sym e)) a d later.between m n v one later.first in
      record { between = k.between; first = k.first; rest = next k.rest later.rest }

  pub before_tails : (s : ℕ) (a b c : Image) (tails : List ℕ) (n : ℕ) → IsValid code a → Tails code s a tails b → HasNone p s tails → Plains code p b n c
      → BeforeTails s a tails n c
  before_tails s a b c tails n v none h more = record { between = c; first = more; rest = none }
  before_tails s a b c tails n v (next {n = m} {b = d} {tails = ts} one rest) h more =
      tail_by s a c d m n ts v one h
      (before_tails (s + 1) d b c ts n (plains_same code s a d m v one).valid rest (has_none_on p s m ts h) more) (ℕ_discrete s p)

one_tail : (code : Code) (s k n : ℕ) (a b : Image) → Plains code (s + k) a n b → Tails code s a (more_at [] k n) b
one_tail code s zero n a b plains = let same : s + 0 ≡ s = omega arith in next (subst (λ (p : ℕ). Plains code p a n b) same plains) none
one_tail code s (suc k) n a b plains =
    let same : s + suc k ≡ s + 1 + k = omega arith in
    next stay (one_tail code (s + 1) k n a b (subst (λ (p : ℕ). Plains code p a n b) same plains))

-- more operators belong to the process's tail
pub tail_grows : (code : Code) (s k n : ℕ) (a b c : Image) (tails : List ℕ) → IsValid code a → Tails code s a tails b → Plains code (s + k) b n c
    → Tails code s a (more_at tails k n) c
tail_grows code s k n a b c tails v none more = one_tail code s k n a c more
tail_grows code s zero n a b c tails v (next {n = m} {b = d} {tails = ts} one rest) more =
    let here : s + 0 ≡ s = omega arith in
    let k = before_tails code s (s + 1) d b c ts n (plains_same code s a d m v one).valid rest (λ j e. absurd (omega (arith, e)))
    (subst (λ (p : ℕ). Plains code p b n c) here more) in
    next (plains_then code s a d k.between m n one k.first) k.rest
tail_grows code s (suc k) n a b c tails v (next {n = m} {b = d} {tails = ts} one rest) more =
    let there : s + suc k ≡ s + 1 + k = omega arith in
    next one (tail_grows code (s + 1) k n d b c ts (plains_same code s a d m v one).valid rest (subst (λ (p : ℕ). Plains code p b n c) there more))

-- the process's tail comes first
pub record TailFirst (code : Code) (s k : ℕ) (a b : Image) (tails : List ℕ) : Type 0 where
  pub between : Image
  pub first : Plains code (s + k) a (at_place tails k) between
  pub rest : Tails code s between (none_at tails k) b

pub tail_first : (code : Code) (s k : ℕ) (a b : Image) (tails : List ℕ) → IsValid code a → Tails code s a tails b → TailFirst code s k a b tails
tail_first code s k a b tails v none = record { between = a; first = stay; rest = none }
tail_first code s zero a b tails v (next {n = m} {b = d} {tails = ts} one rest) =
    let here : s ≡ s + 0 = omega arith in
    record { between = d; first = subst (λ (p : ℕ). Plains code p a m d) here one; rest = next stay rest }
tail_first code s (suc k) a b tails v (next {n = m} {b = d} {tails = ts} one rest) =
    let later = tail_first code (s + 1) k d b ts (plains_same code s a d m v one).valid rest in
    let f = all_first code (s + 1 + k) s (λ e. omega (arith, e)) a d later.between m (at_place ts k) v one later.first in
    let there : s + 1 + k ≡ s + suc k = omega arith in
    record {
      between = f.between;
      first = subst (λ (p : ℕ). Plains code p a (at_place ts k) f.between) there f.first;
      rest = next f.rest later.rest;
    }
