-- Laws of one change of a cell after another.
use Rattle.std.proofs.Common.{◌≡◌, refl, ℕ, if◌then◌else◌, Bool, true, false, List, [], ◌∷◌, ap, ◌∙◌, Option, Some, None}
use Rattle.b67_list.specs.Numbered.{numbered, set_numbered}
use Rattle.b67_list.proofs.Numbered.{numbered_set, numbered_twice}
use Rattle.algol_tree.specs.Sorts.{same_name}
use Rattle.algol_meaning.specs.Value.{Reference, Cell}
use Rattle.algol_meaning.specs.World.{NamedCell, Instance, or_no_instance, World, cells_with, set_cell}
use Rattle.algol_instances.specs.SeenInstance.{zero_cell}
use Rattle.algol_instances.proofs.Numbering.{set_none}

with_twice : (cs : List NamedCell) (name : List ℕ) (a b : Cell) → cells_with (cells_with cs name a) name b ≡ cells_with cs name b
with_twice [] name a b = refl
with_twice (c ∷ cs) name a b = by (same_name c.name name) refl (with_twice cs name a b)
  where
    by :
        (t : Bool) → same_name c.name name ≡ t → cells_with (cells_with cs name a) name b ≡ cells_with cs name b
        → cells_with (if t then record c { cell = a } ∷ cs else c ∷ cells_with cs name a) name b
        ≡ (if t then record c { cell = b } ∷ cs else c ∷ cells_with cs name b)
    by true e h = rw e refl
    by false e h = rw e (ap (λ (r : _). c ∷ r) h)

module _ (name : List ℕ) (a b : Cell) where
  with_a : Instance → Instance
  with_a x = record x { cells = cells_with x.cells name a }

  with_b : Instance → Instance
  with_b x = record x { cells = cells_with x.cells name b }

  again :
      (is : List Instance) (n : ℕ) (o : Option Instance) → numbered is n ≡ o
      → set_numbered (set_numbered is n (with_a (or_no_instance o))) n (with_b (or_no_instance (numbered (set_numbered is n (with_a (or_no_instance o))) n)))
      ≡ set_numbered is n (with_b (or_no_instance o))
  unfolding with_a with_b
  again is n None e =
      rw (set_none is n (with_a (or_no_instance None)) e) (set_none is n (with_b (or_no_instance (numbered is n))) e)
  again is n (Some y) e =
      rw (numbered_set is n y (with_a y) e)
      (numbered_twice is n (with_a y) (with_b (with_a y))
      ∙ ap (λ (cells : List NamedCell). set_numbered is n (record y { cells = cells })) (with_twice y.cells name a b))

  set_again_at :
      (is : List Instance) (n : ℕ)
      → set_numbered (set_numbered is n (with_a (or_no_instance (numbered is n)))) n
      (with_b (or_no_instance (numbered (set_numbered is n (with_a (or_no_instance (numbered is n)))) n)))
      ≡ set_numbered is n (with_b (or_no_instance (numbered is n)))
  set_again_at is n = again is n (numbered is n) refl

pub set_again : (w : World) (r : Reference) (a b : Cell) → set_cell (set_cell w r a) r b ≡ set_cell w r b
unfolding with_a with_b
set_again w r a b = ap (λ (is : List Instance). record w { instances = is }) (set_again_at r.name a b w.instances r.instance)

-- a cell that was taken out of its place and put there again
pub set_taken :
    (w mid after : World) (r : Reference) (x y : Cell) → mid ≡ set_cell w r zero_cell → after ≡ set_cell mid r x → x ≡ y → after ≡ set_cell w r y
set_taken w mid after r x y e f g =
    f ∙ ap (λ (v : World). set_cell v r x) e ∙ set_again w r zero_cell x ∙ ap (set_cell w r) g

pub ruleset setting = (set_again, set_taken)
