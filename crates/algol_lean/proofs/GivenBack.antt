-- What an instance gives back that is left is missed by nobody.
use Rattle.std.proofs.Common.{arith, ◌≡◌, refl, sym, ap, ◌∙◌, ℕ, zero, suc, ◌+◌, ◌-◌, ◌<◌, List, [], ◌∷◌, drop, length, Option, Some, None, slice_get, Bool, true, false, if◌then◌else◌}
use Rattle.b67_list.specs.Numbered.{numbered}
use Rattle.b67_list.proofs.Numbered.{numbered_set}
use Rattle.algol_tree.specs.Sorts.{same_name}
use Rattle.algol_tree.proofs.Names.{same_name_itself}
use Rattle.algol_meaning.specs.Value.{Reference, Cell}
use Rattle.algol_meaning.specs.World.{NamedCell, Instance, or_no_instance, instance_at, cells_with, set_cell, World}
use Rattle.algol_instances.specs.Counting.{cell_is_array}
use Rattle.algol_instances.specs.SeenInstance.{zero_cell}
use Rattle.algol_laws.specs.Reading.{Outline}
use Rattle.algol_perform.proofs.Newer.{drop_more, drop_none, below_length}
use Rattle.algol_lean.specs.Lean.{Lean}
use Rattle.algol_lean.specs.Shed.{world_without, without_arrays, shed_of, all_shed}
use Rattle.algol_lean.proofs.Lists.{lean_set_right}
use Rattle.algol_lean.proofs.Changes.{instance_lean}

-- ---- lean worlds

emptied_lean : (w v : World) → Lean w v → (r : Reference) (c : Cell) → (instance_at w r.instance).left ≡ true → Lean w (set_cell v r c)
emptied_lean w v l r c left =
    record {
      instances = lean_set_right w.instances v.instances l.instances r.instance
          (record (instance_at v r.instance) { cells = cells_with ((instance_at v r.instance).cells) r.name c })
          (record { alike = (instance_lean w v l r.instance).alike; cells = λ e. let no : true ≡ false = sym left ∙ e in cc });
      processes = l.processes;
      output = l.output;
      fault = l.fault;
    }

one_lean : (w v : World) → Lean w v → (r : Reference) (b : Bool) → (instance_at w r.instance).left ≡ true → Lean w (world_without v r b)
one_lean w v l r true left = emptied_lean w v l r zero_cell left
one_lean w v l r false left = l

without_lean : (w : World) (i : ℕ) (cells : List NamedCell) (v : World) → Lean w v → (instance_at w i).left ≡ true → Lean w (without_arrays v i cells)
without_lean w i [] v l left = l
without_lean w i (c ∷ cells) v l left =
    let r : Reference = record { instance = i; name = c.name } in
    without_lean w i cells (world_without v r (cell_is_array c.cell)) (one_lean w v l r (cell_is_array c.cell) left) left

shed_lean : (w v : World) → Lean w v → (i : ℕ) → Lean w (shed_of v i)
shed_lean w v l i = by (instance_at v i).left refl
  where
    by : (b : Bool) → (instance_at v i).left ≡ b → Lean w (if b then without_arrays v i ((instance_at v i).cells) else v)
    by true e = without_lean w i ((instance_at v i).cells) v l (sym (ap (λ (o : Outline). o.left) (instance_lean w v l i).alike) ∙ e)
    by false e = l

pub all_shed_lean : (is : List ℕ) (w v : World) → Lean w v → Lean w (all_shed v is)
all_shed_lean [] w v l = l
all_shed_lean (i ∷ is) w v l = all_shed_lean is w (shed_of v i) (shed_lean w v l i)

-- ---- cell by cell

with_drop : (cells : List NamedCell) (k : ℕ) (c : NamedCell) (x : Cell) → Some c ≡ slice_get cells k → drop (suc k) (cells_with cells c.name x) ≡ drop (suc k) cells
with_drop [] zero c x e = cc
with_drop [] (suc k) c x e = cc
with_drop (d ∷ cells) zero c x e =
    let is : c ≡ d = cc in
    let named : same_name d.name c.name ≡ true = ap (λ (n : List ℕ). same_name n c.name) (ap (λ (y : NamedCell). y.name) (sym is)) ∙ same_name_itself c.name in
    ap (λ (b : Bool). drop 1 (if b then record d { cell = x } ∷ cells else d ∷ cells_with cells c.name x)) named
with_drop (d ∷ cells) (suc k) c x e = by (same_name d.name c.name) (with_drop cells k c x e)
  where
    by : (b : Bool) → drop (suc k) (cells_with cells c.name x) ≡ drop (suc k) cells →
        drop (suc (suc k)) (if b then record d { cell = x } ∷ cells else d ∷ cells_with cells c.name x) ≡ drop (suc k) cells
    by true f = refl
    by false f = f

with_length : (cells : List NamedCell) (name : List ℕ) (x : Cell) → length (cells_with cells name x) ≡ length cells
with_length [] name x = refl
with_length (d ∷ cells) name x = by (same_name d.name name) (with_length cells name x)
  where
    by : (b : Bool) → length (cells_with cells name x) ≡ length cells →
        length (if b then record d { cell = x } ∷ cells else d ∷ cells_with cells name x) ≡ suc (length cells)
    by true f = refl
    by false f = ap suc f

abbrev pub cells_of : World → ℕ → List NamedCell
cells_of w i = (instance_at w i).cells

-- the cells after another content of one of them
cells_set : (w : World) (i k : ℕ) (c : NamedCell) (x : Cell) → Some c ≡ slice_get (cells_of w i) k →
    cells_of (set_cell w (record { instance = i; name = c.name }) x) i ≡ cells_with (cells_of w i) c.name x
cells_set w i k c x e = by (numbered w.instances i) refl e
  where
    new : Instance
    new = record (instance_at w i) { cells = cells_with (cells_of w i) c.name x }

    none : (j : ℕ) → Some c ≡ slice_get [] j → ⊥
    none zero f = cc
    none (suc j) f = cc

    by : (o : Option Instance) → numbered w.instances i ≡ o → Some c ≡ slice_get ((or_no_instance o).cells) k →
        cells_of (set_cell w (record { instance = i; name = c.name }) x) i ≡ cells_with (cells_of w i) c.name x
    by (Some y) f g = ap (λ (p : Option Instance). (or_no_instance p).cells) (numbered_set w.instances i y new f)
    by None f g = absurd (none k g)

module _ (w : World) (i k : ℕ) where
  abbrev left_over : World
  left_over = without_arrays w i (drop k (cells_of w i))

  pub shed_none : None ≡ slice_get (cells_of w i) k → w ≡ left_over
  shed_none e = sym (ap (λ (cells : List NamedCell). without_arrays w i cells) (drop_none (cells_of w i) k e))

  module _ (c : NamedCell) (e : Some c ≡ slice_get (cells_of w i) k) where
    abbrev r : Reference
    r = record { instance = i; name = c.name }

    later : (b : Bool) → drop (suc k) (cells_of (world_without w r b) i) ≡ drop (suc k) (cells_of w i)
    later true = ap (λ (cells : List NamedCell). drop (suc k) cells) (cells_set w i k c zero_cell e) ∙ with_drop (cells_of w i) k c zero_cell e
    later false = refl

    as_many : (b : Bool) → length (cells_of (world_without w r b) i) ≡ length (cells_of w i)
    as_many true = ap (λ (cells : List NamedCell). length cells) (cells_set w i k c zero_cell e) ∙ with_length (cells_of w i) c.name zero_cell
    as_many false = refl

    module _ (u : World) (b : Bool) (is : b ≡ cell_is_array c.cell) (next : u ≡ world_without w r b) where
      becomes : u ≡ world_without w r (cell_is_array c.cell)
      becomes = next ∙ ap (λ (x : Bool). world_without w r x) is

      -- the cell after it is the next one
      pub shed_more : without_arrays u i (drop (k + 1) (cells_of u i)) ≡ left_over
      shed_more =
          let one : k + 1 ≡ suc k = omega arith in
          ap (λ (n : ℕ). without_arrays u i (drop n (cells_of u i))) one
          ∙ ap (λ (v : World). without_arrays v i (drop (suc k) (cells_of v i))) becomes
          ∙ ap (λ (cells : List NamedCell). without_arrays (world_without w r (cell_is_array c.cell)) i cells) (later (cell_is_array c.cell))
          ∙ sym (ap (λ (cells : List NamedCell). without_arrays w i cells) (drop_more (cells_of w i) k c e))

      pub shed_smaller : length (cells_of u i) - (k + 1) < length (cells_of w i) - k
      shed_smaller =
          let many : length (cells_of u i) ≡ length (cells_of w i) = ap (λ (v : World). length (cells_of v i)) becomes ∙ as_many (cell_is_array c.cell) in
          let within : k < length (cells_of w i) = below_length (cells_of w i) k c e in
          omega (arith, many, within)

-- an instance that is left
pub shed_is : (w u : World) (i : ℕ) → (instance_at w i).left ≡ true → u ≡ without_arrays w i (cells_of w i) → u ≡ shed_of w i
shed_is w u i left e = e ∙ sym (ap (λ (b : Bool). if b then without_arrays w i (cells_of w i) else w) left)
