-- A machine before its first operator.
use Rattle.std.specs.Prelude.{slice_get, replicate}
use Rattle.std.proofs.Common.{◌≡◌, refl, ℕ, zero, suc, []}
use Rattle.b67_segment.specs.declared.code.Code.{Code}
use Rattle.b67_machine.specs.Kept.{or_none, operators_counted}
use Rattle.b67_machine.specs.Tables.{AreTables}

pub zero_at : (n k : ℕ) → or_none (slice_get (replicate n 0) k) ≡ 0
zero_at zero k = refl
zero_at (suc n) zero = refl
zero_at (suc n) (suc k) = zero_at n k

pub none_counted : (n p : ℕ) → operators_counted (replicate n 0) p ≡ 0
none_counted n zero = refl
none_counted n (suc k) = zero_at n k

pub no_tables : (code : Code) → AreTables code []
no_tables code segment level table e = cc
