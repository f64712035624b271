-- What becomes of branches whose target was left open.
use Rattle.std.specs.Prelude.{◌≡◌, ℕ, List}
use Rattle.b67_segment.specs.Operators.{size}
use Rattle.b67_segment.specs.Building.{Built}
use Rattle.b67_templates.specs.Emitting.{Leaves}

-- The branches at these places go to the place where the next operator will stand, and all else is as it was.
pub record Aimed (branches : List ℕ) (before after : Built) : Type 0 where
  pub level : after.level ≡ before.level
  pub place : size after.operators ≡ size before.operators
  pub leaves : Leaves branches (size before.operators) 0 (size before.operators) before.operators after.operators
