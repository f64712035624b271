-- Many plain operators of two processes.
use Rattle.std.proofs.Common.{◌≡◌, ◌≢◌, refl, ℕ, true, arith}
use Rattle.b67_segment.specs.declared.code.Code.{Code}
use Rattle.b67_table.specs.Image.{Image}
use Rattle.b67_table.specs.Outcome.{gives}
use Rattle.b67_table.specs.Runs.{Plains, stay, go}
use Rattle.b67_table.specs.Table.{table, plain}
use Rattle.b67_table.specs.Valid.{IsValid}
use Rattle.b67_stands.proofs.Steps.{Same, same_self, same_then, one_same, step_first}

pub plains_same : (code : Code) (p : ℕ) (a b : Image) (n : ℕ) → IsValid code a → Plains code p a n b → Same code a b
plains_same code p a b n v stay = same_self code a v
plains_same code p a b n v (go {b = c} e t rest) =
    let one = one_same code p a c v e t in same_then code a c b one (plains_same code p c b _ one.valid rest)

pub none_stays : (code : Code) (p : ℕ) (a b : Image) (n : ℕ) → Plains code p a n b → n ≡ 0 → a ≡ b
none_stays code p a b n stay e = refl
none_stays code p a b n (go {n = l} f t rest) e = absurd (omega (arith, e))

module _ (code : Code) (p q : ℕ) (h : p ≢ q) where
  -- one operator of p comes before many of q
  pub record OneFirst (a c : Image) (m : ℕ) : Type 0 where
    pub between : Image
    pub plain_first : plain code a p ≡ true
    pub first : table code a p ≡ gives between
    pub rest : Plains code q between m c

  one_first : (a b c : Image) (m : ℕ) → IsValid code a → Plains code q a m b → plain code b p ≡ true → table code b p ≡ gives c → OneFirst a c m
  one_first a b c m v stay e t = record { between = c; plain_first = e; first = t; rest = stay }
  one_first a b c m v (go {b = d} {n = l} f u rest) e t =
      let later = one_first d b c l (one_same code q a d v f u).valid rest e t in
      let s = step_first code p q a d later.between h v f u later.plain_first later.first in
      record { between = s.between; plain_first = s.plain_first; first = s.first; rest = go s.plain_then s.then_other later.rest }

  -- and so do many
  pub record AllFirst (a c : Image) (m n : ℕ) : Type 0 where
    pub between : Image
    pub first : Plains code p a n between
    pub rest : Plains code q between m c

  pub all_first : (a b c : Image) (m n : ℕ) → IsValid code a → Plains code q a m b → Plains code p b n c → AllFirst a c m n
  all_first a b c m n v qs stay = record { between = a; first = stay; rest = qs }
  all_first a b c m n v qs (go {b = d} {n = l} e t rest) =
      let one = one_first a b d m v qs e t in
      let more = all_first one.between d c m l (one_same code p a one.between v one.plain_first one.first).valid one.rest rest in
      record { between = more.between; first = go one.plain_first one.first more.first; rest = more.rest }
