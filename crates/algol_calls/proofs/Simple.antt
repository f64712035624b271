-- A name that a block has from its entry on.
use Rattle.std.proofs.Common.{◌≡◌, ℕ, Bool, true, false, List, refl}
use Rattle.std.specs.Prelude.{if◌then◌else◌}
use Rattle.algol_tree.specs.Blocks.{Block}
use Rattle.algol_calls.specs.Fits.{has_parameter, has_simple}

pub by_first : (b c : Bool) → b ≡ true → (if b then true else c) ≡ true
by_first true c e = refl
by_first false c e = absurd (let clash : false ≡ true = e in cc)

pub parameter_simple : (b : Block) (name : List ℕ) → has_parameter b.parameters name ≡ true → has_simple b name ≡ true
parameter_simple b name e = by_first (has_parameter b.parameters name) _ e
