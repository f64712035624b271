-- Worlds that are alike but for the cells of the instances that are left.
use Rattle.std.specs.Prelude.{◌≡◌, ℕ, false, List, [], ◌∷◌}
use Rattle.algol_tree.specs.Scopes.{Scopes}
use Rattle.algol_meaning.specs.Value.{Reference}
use Rattle.algol_meaning.specs.Rest.{Place, own, there, element_of}
use Rattle.algol_meaning.specs.World.{Instance, instance_at, Part, World, process_at}
use Rattle.algol_meaning.specs.Asks as asks
use Rattle.algol_meaning.specs.Asks.{Ask, ask}
use Rattle.algol_laws.specs.Reading.{outline, read_cells}

-- An instance, which is x in one world and y in the other: where it is left, it may hold other cells.
pub record IsLean (x y : Instance) : Type 0 where
  pub alike : outline y ≡ outline x
  pub cells : x.left ≡ false → y.cells ≡ x.cells

abbrev pub AreLean : List Instance → List Instance → Type 0
AreLean [] [] = Unit {0}
AreLean [] (y ∷ ys) = ⊥
AreLean (x ∷ xs) [] = ⊥
AreLean (x ∷ xs) (y ∷ ys) = IsLean x y × AreLean xs ys

-- v is w, but for the cells of the instances that are left
pub record Lean (w v : World) : Type 0 where
  pub instances : AreLean w.instances v.instances
  pub processes : v.processes ≡ w.processes
  pub output : v.output ≡ w.output
  pub fault : v.fault ≡ w.fault

-- ---- what is in use

-- none of these cells is of an instance that is left
abbrev pub NoneLeft : World → List Reference → Type 0
NoneLeft w [] = Unit {0}
NoneLeft w (r ∷ rs) = ((instance_at w r.instance).left ≡ false) × NoneLeft w rs

abbrev pub led_by_place : Place → List Reference
led_by_place (own n) = []
led_by_place (there r) = r ∷ []
led_by_place (element_of r ks) = r ∷ []

-- the cell of the place that a store was given
abbrev pub given_by : Ask → List Reference
given_by (asks.stores x v) = led_by_place x
given_by _ = []

abbrev pub given_in : List Part → List Reference
given_in [] = []
given_in (part ∷ outer) = given_by (ask part.rest)

-- The action of the process reads no cell of an instance that is left, and stores none there by a place that it was given.
pub record UsesNoneLeft (sc : Scopes) (w : World) (p : ℕ) : Type 0 where
  pub reads : NoneLeft w (read_cells sc w p)
  pub stores : NoneLeft w (given_in ((process_at w p).todo))
