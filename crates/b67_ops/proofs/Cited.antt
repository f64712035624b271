-- Facts that several crates cite.
use Rattle.std.proofs.Common.{Ok, Result, ℕ, ◌≡◌}
use Rattle.b67_ops.specs.declared.BadCode.{BadCode}
use Rattle.b67_ops.specs.declared.Operator.{Operator}

pub same_found : (x y : Operator × ℕ) → ◌≡◌ {A = Result (Operator × ℕ) BadCode} (Ok x) (Ok y) → x ≡ y
same_found x y e = cc
