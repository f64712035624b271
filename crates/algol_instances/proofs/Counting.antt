-- How many elements live after a change of the instances.
use Rattle.std.proofs.Common.{arith, ◌≡◌, refl, ℕ, zero, suc, ◌+◌, ◌-◌, ◌^◌, min, if◌then◌else◌, Bool, true, false, List, [], ◌∷◌, ◌++◌, map, ap, sym, ◌∙◌, Option, Some, None}
use Rattle.b67_list.specs.Numbered.{numbered, set_numbered}
use Rattle.algol_tree.specs.Sorts.{same_name}
use Rattle.algol_meaning.specs.Value.{Value, Reference, Cell, simple, named, reference, event, array}
use Rattle.algol_meaning.specs.World.{NamedCell, Instance, World, or_no_instance, instance_at, cell_in, cell_at, cells_with, set_cell, add_cells, array_in}
use Rattle.algol_meaning.specs.Instances.{leave}
use Rattle.algol_meaning.specs.Arrays.{with_element, size_of_cell, size_of_cells, size_unless, live_elements}
use Rattle.algol_meaning.proofs.Cited.{elements_behind}
use Rattle.algol_instances.specs.SeenArray.{capped}
use Rattle.algol_instances.specs.SeenInstance.{instance, zero_cell, holding}
use Rattle.algol_instances.specs.Counting.{live_in, cell_is_array, displaced, displaced_at, Adjusts}
use Rattle.algol_instances.specs.declared.instance.Instance as code
use Rattle.algol_instances.proofs.Setting.{set_again}

-- ---- cells

cells_changed :
    (cs : List NamedCell) (name : List ℕ) (cell : Cell)
    → size_of_cells (cells_with cs name cell) + size_of_cell (displaced cs name cell) ≡ size_of_cells cs + size_of_cell cell
cells_changed [] name cell = refl
cells_changed (c ∷ cs) name cell = by (same_name c.name name) (cells_changed cs name cell)
  where
    by :
        (b : Bool) → size_of_cells (cells_with cs name cell) + size_of_cell (displaced cs name cell) ≡ size_of_cells cs + size_of_cell cell
        → size_of_cells (if b then record c { cell = cell } ∷ cs else c ∷ cells_with cs name cell)
        + size_of_cell (if b then c.cell else displaced cs name cell)
        ≡ size_of_cell c.cell + size_of_cells cs + size_of_cell cell
    by true h = omega arith
    by false h = omega arith

pub displaced_zero : (cs : List NamedCell) (name : List ℕ) → displaced cs name zero_cell ≡ cell_in cs name
displaced_zero [] name = refl
displaced_zero (c ∷ cs) name = ap (λ (d : Cell). if same_name c.name name then c.cell else d) (displaced_zero cs name)

pub taken_zero : (w : World) (r : Reference) → displaced_at w r zero_cell ≡ cell_at w r
taken_zero w r = displaced_zero ((instance_at w r.instance).cells) r.name

-- ---- a cell that is taken out of its place

pub taken_cell : (xs : List Instance) (r : Reference) (z cell : Cell) → z ≡ zero_cell → cell ≡ displaced_at (holding xs) r z → cell ≡ cell_at (holding xs) r
taken_cell xs r z cell e d = d ∙ ap (displaced_at (holding xs) r) e ∙ taken_zero (holding xs) r

-- .. and put there again with another value of an element
pub put_again :
    (xs mid after : List Instance) (r : Reference) (z cell x : Cell) (ks : List ℕ) (v : Value) → z ≡ zero_cell
    → mid ≡ (set_cell (holding xs) r z).instances → cell ≡ displaced_at (holding xs) r z → x ≡ array (with_element (array_in cell) ks v)
    → after ≡ (set_cell (holding mid) r x).instances
    → after ≡ (set_cell (holding xs) r (array (with_element (array_in (cell_at (holding xs) r)) ks v))).instances
put_again xs mid after r z cell x ks v e f d g h =
    h
    ∙ ap (λ (is : List Instance). (set_cell (holding is) r x).instances) f
    ∙ ap (λ (w : World). w.instances) (set_again (holding xs) r z x)
    ∙ ap (λ (c : Cell). (set_cell (holding xs) r c).instances)
    (g ∙ ap (λ (c : Cell). array (with_element (array_in c) ks v)) (taken_cell xs r z cell e d))

-- ---- one instance

-- another instance in the place of one
one_changed :
    (xs : List Instance) (n : ℕ) (y : Instance) → (numbered xs n ≡ None → live_in y ≡ 0)
    → live_elements (set_numbered xs n y) + live_in (or_no_instance (numbered xs n)) ≡ live_elements xs + live_in y
one_changed [] zero y e = let h = e refl in omega arith
one_changed (x ∷ xs) zero y e = let h = e refl in omega arith
one_changed [] (suc k) y e = let h = e refl in omega arith
one_changed (x ∷ xs) (suc zero) y e = omega arith
one_changed (x ∷ xs) (suc (suc k)) y e = let h = one_changed xs (suc k) y e in omega arith

-- a change of one instance that leaves it left where it is none
module _ (change : Instance → Instance) (keeps : live_in (change (or_no_instance None)) ≡ 0) where
  none_counts : (o : Option Instance) → o ≡ None → live_in (change (or_no_instance o)) ≡ 0
  none_counts None e = keeps
  none_counts (Some x) e = cc

  pub counts :
      (xs : List Instance) (n : ℕ)
      → live_elements (set_numbered xs n (change (or_no_instance (numbered xs n)))) + live_in (or_no_instance (numbered xs n))
      ≡ live_elements xs + live_in (change (or_no_instance (numbered xs n)))
  counts xs n = one_changed xs n (change (or_no_instance (numbered xs n))) (none_counts (numbered xs n))

pub leaving_counts :
    (xs : List Instance) (n : ℕ)
    → live_elements ((leave (holding xs) (n ∷ [])).instances) + live_in (instance_at (holding xs) n) ≡ live_elements xs
leaving_counts xs n = let h = counts (λ x. record x { left = true }) refl xs n in omega arith

pub adding_counts :
    (xs : List Instance) (n : ℕ) (more : List NamedCell)
    → live_elements ((add_cells (holding xs) n more).instances) ≡ live_elements xs + size_unless ((instance_at (holding xs) n).left) (size_of_cells more)
adding_counts xs n more =
    let x = instance_at (holding xs) n in
    by x.left (live_elements xs) (live_elements ((add_cells (holding xs) n more).instances)) (size_of_cells x.cells)
    (size_of_cells (x.cells ++ more)) (counts (λ y. record y { cells = y.cells ++ more }) refl xs n) (elements_behind x.cells more)
  where
    by :
        (left : Bool) (was now old new : ℕ) → now + size_unless left old ≡ was + size_unless left new → new ≡ old + size_of_cells more
        → now ≡ was + size_unless left (size_of_cells more)
    by true was now old new h j = omega arith
    by false was now old new h j = omega arith

pub setting_counts :
    (xs : List Instance) (r : Reference) (cell : Cell) → (instance_at (holding xs) r.instance).left ≡ false
    → live_elements ((set_cell (holding xs) r cell).instances) + size_of_cell (displaced_at (holding xs) r cell) ≡ live_elements xs + size_of_cell cell
setting_counts xs r cell lives =
    let x = instance_at (holding xs) r.instance in
    by x.left (live_elements xs) (live_elements ((set_cell (holding xs) r cell).instances)) (size_of_cells x.cells)
    (size_of_cells (cells_with x.cells r.name cell)) (size_of_cell (displaced x.cells r.name cell)) (size_of_cell cell) lives
    (counts (λ y. record y { cells = cells_with y.cells r.name cell }) refl xs r.instance) (cells_changed x.cells r.name cell)
  where
    by :
        (left : Bool) (was now old new gone come : ℕ) → left ≡ false → now + size_unless left old ≡ was + size_unless left new → new + gone ≡ old + come
        → now + gone ≡ was + come
    by true was now old new gone come e h j = cc
    by false was now old new gone come e h j = omega arith

pub setting_left_counts :
    (xs : List Instance) (r : Reference) (cell : Cell) → (instance_at (holding xs) r.instance).left ≡ true
    → live_elements ((set_cell (holding xs) r cell).instances) ≡ live_elements xs
setting_left_counts xs r cell left =
    let x = instance_at (holding xs) r.instance in
    by x.left (live_elements xs) (live_elements ((set_cell (holding xs) r cell).instances)) (size_of_cells x.cells)
    (size_of_cells (cells_with x.cells r.name cell)) left (counts (λ y. record y { cells = cells_with y.cells r.name cell }) refl xs r.instance)
  where
    by : (left : Bool) (was now old new : ℕ) → left ≡ true → now + size_unless left old ≡ was + size_unless left new → now ≡ was
    by true was now old new e h = omega arith
    by false was now old new e h = cc

-- a cell that is put in its place again with as many elements
cells_kept :
    (cs : List NamedCell) (name : List ℕ) (cell : Cell) → size_of_cell cell ≡ size_of_cell (cell_in cs name)
    → size_of_cells (cells_with cs name cell) ≡ size_of_cells cs
cells_kept [] name cell e = refl
cells_kept (c ∷ cs) name cell e = by (same_name c.name name) e (cells_kept cs name cell)
  where
    by :
        (b : Bool) → size_of_cell cell ≡ size_of_cell (if b then c.cell else cell_in cs name)
        → (size_of_cell cell ≡ size_of_cell (cell_in cs name) → size_of_cells (cells_with cs name cell) ≡ size_of_cells cs)
        → size_of_cells (if b then record c { cell = cell } ∷ cs else c ∷ cells_with cs name cell) ≡ size_of_cell c.cell + size_of_cells cs
    by true f h = omega arith
    by false f h = let g = h f in omega arith

pub keeping_counts :
    (xs : List Instance) (r : Reference) (cell : Cell) → size_of_cell cell ≡ size_of_cell (cell_at (holding xs) r)
    → live_elements ((set_cell (holding xs) r cell).instances) ≡ live_elements xs
keeping_counts xs r cell e =
    let x = instance_at (holding xs) r.instance in
    by x.left (live_elements xs) (live_elements ((set_cell (holding xs) r cell).instances)) (size_of_cells x.cells)
    (size_of_cells (cells_with x.cells r.name cell)) (counts (λ y. record y { cells = cells_with y.cells r.name cell }) refl xs r.instance)
    (cells_kept x.cells r.name cell e)
  where
    by : (left : Bool) (was now old new : ℕ) → now + size_unless left old ≡ was + size_unless left new → new ≡ old → now ≡ was
    by true was now old new h j = omega arith
    by false was now old new h j = omega arith

same_size :
    (cell : Cell) (ks : List ℕ) (v : Value) → cell_is_array cell ≡ true
    → size_of_cell (array (with_element (array_in cell) ks v)) ≡ size_of_cell cell
same_size (array a) ks v e = refl
same_size (simple u) ks v e = cc
same_size (named n) ks v e = cc
same_size (reference s) ks v e = cc
same_size (event x) ks v e = cc

-- ---- one more instance

more_counts : (xs : List Instance) (x : Instance) → live_elements (xs ++ x ∷ []) ≡ live_elements xs + live_in x
more_counts [] x = omega arith
more_counts (y ∷ xs) x = let h = more_counts xs x in omega arith

pub map_more : (is : List code.Instance) (i : code.Instance) → map instance (is ++ i ∷ []) ≡ map instance is ++ instance i ∷ []
map_more [] i = refl
map_more (j ∷ is) i = ap (λ (xs : List Instance). instance j ∷ xs) (map_more is i)

-- ---- the numbers as the code has them

capped_sum : (lived more all come : ℕ) → lived ≡ capped all → more ≡ capped come → min (lived + more) (2 ^ 64 - 1) ≡ capped (all + come)
capped_sum lived more all come e f = omega arith

pub added_counts :
    (is : List code.Instance) (i : code.Instance) (lived more : ℕ) → lived ≡ capped (live_elements (map instance is)) → more ≡ capped (live_in (instance i))
    → min (lived + more) (2 ^ 64 - 1) ≡ capped (live_elements (map instance (is ++ i ∷ [])))
added_counts is i lived more e f =
    capped_sum lived more (live_elements (map instance is)) (live_in (instance i)) e f
    ∙ ap capped (sym (ap live_elements (map_more is i) ∙ more_counts (map instance is) (instance i)))

pub cells_added :
    (xs after : List Instance) (n : ℕ) (cells : List NamedCell) (lived more : ℕ) → after ≡ (add_cells (holding xs) n cells).instances
    → lived ≡ capped (live_elements xs) → more ≡ capped (size_unless ((instance_at (holding xs) n).left) (size_of_cells cells))
    → min (lived + more) (2 ^ 64 - 1) ≡ capped (live_elements after)
cells_added xs after n cells lived more g e f =
    capped_sum lived more (live_elements xs) (size_unless ((instance_at (holding xs) n).left) (size_of_cells cells)) e f
    ∙ ap capped (sym (ap live_elements g ∙ adding_counts xs n cells))

pub left_counts :
    (xs after : List Instance) (r : Reference) (cell : Cell) (lived : ℕ) → (instance_at (holding xs) r.instance).left ≡ true
    → after ≡ (set_cell (holding xs) r cell).instances → lived ≡ capped (live_elements xs) → lived ≡ capped (live_elements after)
left_counts xs after r cell lived left g e = e ∙ ap capped (sym (ap live_elements g ∙ setting_left_counts xs r cell left))

pub element_counts :
    (xs after : List Instance) (r : Reference) (ks : List ℕ) (v : Value) (lived : ℕ) → cell_is_array (cell_at (holding xs) r) ≡ true
    → after ≡ (set_cell (holding xs) r (array (with_element (array_in (cell_at (holding xs) r)) ks v))).instances
    → lived ≡ capped (live_elements xs) → lived ≡ capped (live_elements after)
element_counts xs after r ks v lived is g e =
    e
    ∙ ap capped (sym (ap live_elements g
    ∙ keeping_counts xs r (array (with_element (array_in (cell_at (holding xs) r)) ks v)) (same_size (cell_at (holding xs) r) ks v is)))

pub set_adjusts :
    (xs after : List Instance) (r : Reference) (cell old : Cell) (lived gone come : ℕ) → (instance_at (holding xs) r.instance).left ≡ false
    → after ≡ (set_cell (holding xs) r cell).instances → old ≡ displaced_at (holding xs) r cell
    → lived ≡ capped (live_elements xs) → gone ≡ capped (size_of_cell old) → come ≡ capped (size_of_cell cell)
    → Adjusts lived gone come (live_elements after)
set_adjusts xs after r cell old lived gone come lives g d e f h =
    record {
      all_lived = live_elements xs;
      all_gone = size_of_cell old;
      all_come = size_of_cell cell;
      lived_is = e;
      gone_is = f;
      come_is = h;
      now_is =
          ap (λ (ys : List Instance). live_elements ys + size_of_cell old) g
          ∙ ap (λ (o : Cell). live_elements ((set_cell (holding xs) r cell).instances) + size_of_cell o) d
          ∙ setting_counts xs r cell lives;
    }

pub leave_adjusts :
    (xs after : List Instance) (n lived gone : ℕ) → after ≡ (leave (holding xs) (n ∷ [])).instances
    → lived ≡ capped (live_elements xs) → gone ≡ capped (live_in (instance_at (holding xs) n)) → Adjusts lived gone 0 (live_elements after)
leave_adjusts xs after n lived gone g e f =
    record {
      all_lived = live_elements xs;
      all_gone = live_in (instance_at (holding xs) n);
      all_come = 0;
      lived_is = e;
      gone_is = f;
      come_is = omega arith;
      now_is =
          let h = ap (λ (ys : List Instance). live_elements ys + live_in (instance_at (holding xs) n)) g ∙ leaving_counts xs n in
          omega arith;
    }
