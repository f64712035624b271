-- Where an event of an instance becomes another one, others come to no more of what is made in an instance, and to no less.
use Rattle.std.proofs.Common.{◌≡◌, ◌≢◌, ◌⊎◌, inl, inr, refl, sym, ap, ◌∙◌, subst, ℕ, List, [], ◌∷◌, Some, Bool, true, false}
use Rattle.b67_pictures.proofs.Prelude.{if◌then◌else◌, numbered, EventState, Scopes, same_name, Cell, event, NamedCell, Instance, World, instance_at, cell_in, cells_with, CellLow, CellsLow, InstanceLow, WorldLow, IsLow, some_same, same_or_not, stored_world, changed_at, others_at, same_of, changed}

cells_low : (sc : Scopes) (b i : ℕ) (cells : List NamedCell) (name : List ℕ) (e : EventState) → CellsLow sc b i cells → CellsLow sc b i (cells_with cells name (event e))
cells_low sc b i [] name e low = low
cells_low sc b i (c ∷ cells) name e low = by_name (same_name c.name name) (cells_low sc b i cells name e low.1)
  where
    by_name : (t : Bool) → CellsLow sc b i (cells_with cells name (event e)) → CellsLow sc b i (if t then record c { cell = event e } ∷ cells else c ∷ cells_with cells name (event e))
    by_name true later = (tt, low.1)
    by_name false later = (low.0, later)

cells_were_low : (sc : Scopes) (b i : ℕ) (cells : List NamedCell) (name : List ℕ) (e old : EventState) → cell_in cells name ≡ event old → CellsLow sc b i (cells_with cells name (event e)) → CellsLow sc b i cells
cells_were_low sc b i [] name e old is low = low
cells_were_low sc b i (c ∷ cells) name e old is low = by_name (same_name c.name name) is low (cells_were_low sc b i cells name e old)
  where
    by_name : (t : Bool) → (if t then c.cell else cell_in cells name) ≡ event old → CellsLow sc b i (if t then record c { cell = event e } ∷ cells else c ∷ cells_with cells name (event e)) →
        (cell_in cells name ≡ event old → CellsLow sc b i (cells_with cells name (event e)) → CellsLow sc b i cells) → CellsLow sc b i (c ∷ cells)
    by_name true here low further = (subst (λ (d : Cell). CellLow sc b i d) (sym here) tt, low.1)
    by_name false later low further = (low.0, further later low.1)

-- one instance has other cells
module _ (sc : Scopes) (w w' : World) (processes : w'.processes ≡ w.processes) (j : ℕ) (x y : Instance) (at : numbered w.instances j ≡ Some x) (at_later : numbered w'.instances j ≡ Some y) (parent : y.parent ≡ x.parent) (left : y.left ≡ x.left)
    (others : (k : ℕ) → k ≢ j → numbered w'.instances k ≡ numbered w.instances k) (b i : ℕ) (cells : CellsLow sc b i x.cells → CellsLow sc b i y.cells) where
  world_low : WorldLow sc b i w → WorldLow sc b i w'
  world_low l =
      record {
        instances = λ k z is stands. by_number k z is stands (same_or_not k j);
        parts = λ p q part is among. l.parts p q part (ap (λ qs. numbered qs p) (sym processes) ∙ is) among;
        tasks = λ p q r is task. l.tasks p q r (ap (λ qs. numbered qs p) (sym processes) ∙ is) task;
      }
    where
      by_number : (k : ℕ) (z : Instance) → numbered w'.instances k ≡ Some z → z.left ≡ false → (k ≡ j) ⊎ (k ≢ j) → InstanceLow sc b i z
      by_number k z is stands (inl e) =
          let same : y ≡ z = some_same (sym at_later ∙ ap (λ (n : ℕ). numbered w'.instances n) (sym e) ∙ is) in
          let before : InstanceLow sc b i x = l.instances j x at (sym left ∙ ap (λ (v : Instance). v.left) same ∙ stands) in
          subst (λ (v : Instance). InstanceLow sc b i v) same (record { childless = λ e. before.childless (sym parent ∙ e); cells = cells before.cells })
      by_number k z is stands (inr apart) = l.instances k z (sym (others k apart) ∙ is) stands

module _ (sc : Scopes) (w : World) (j : ℕ) (x : Instance) (at : numbered w.instances j ≡ Some x) (name : List ℕ) (old e : EventState) (is : cell_in x.cells name ≡ event old) where
  abbrev cells' : List NamedCell
  cells' = cells_with x.cells name (event e)

  abbrev w' : World
  w' = stored_world w j x at cells'

  block_same : (i : ℕ) → (instance_at w i).block ≡ (instance_at w' i).block
  block_same i = same_of w j x at cells' (λ (y : Instance). y.block) refl i

  pub event_low : (i : ℕ) → IsLow sc w i → IsLow sc (stored_world w j x at (cells_with x.cells name (event e))) i
  event_low i l =
      subst (λ (b : ℕ). WorldLow sc b i w') (block_same i)
      (world_low sc w w' refl j x (changed w j x at cells') at (changed_at w j x at cells') refl refl (λ k apart. others_at w j x at cells' k apart) ((instance_at w i).block) i
      (cells_low sc ((instance_at w i).block) i x.cells name e) l)

  pub event_was_low : (i : ℕ) → IsLow sc (stored_world w j x at (cells_with x.cells name (event e))) i → IsLow sc w i
  event_was_low i l =
      world_low sc w' w refl j (changed w j x at cells') x (changed_at w j x at cells') at refl refl (λ k apart. sym (others_at w j x at cells' k apart)) ((instance_at w i).block) i
      (cells_were_low sc ((instance_at w i).block) i x.cells name e old is) (subst (λ (b : ℕ). WorldLow sc b i w') (sym (block_same i)) l)
