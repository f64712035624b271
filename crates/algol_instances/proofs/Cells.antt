-- Laws of the cells of an instance, and of a change of one instance.
use Rattle.std.proofs.Common.{arith, ◌≡◌, refl, ℕ, zero, suc, ◌+◌, ◌<◌, if◌then◌else◌, Bool, true, false, List, [], ◌∷◌, length, map, ap, sym, ◌∙◌, Option, Some, None, slice_set, get_or, subst}
use Rattle.algol_tree.specs.Sorts.{same_name}
use Rattle.algol_meaning.specs.Value as plain
use Rattle.algol_meaning.specs.World as world
use Rattle.algol_meaning.specs.World.{cells_with}
use Rattle.algol_cells.specs.SeenCell as seen
use Rattle.algol_cells.specs.declared.cell.Cell.{Cell}
use Rattle.b67_list.specs.Numbered.{numbered, set_numbered}
use Rattle.b67_list.proofs.Numbered.{numbered_same}
use Rattle.algol_instances.specs.SeenInstance.{named_cell, named_cells, instance, place_of_number, cell_place_in, further}
use Rattle.algol_instances.specs.Counting.{displaced}
use Rattle.algol_instances.specs.declared.instance.NamedCell.{NamedCell}
use Rattle.algol_instances.specs.declared.instance.Instance.{Instance}
use Rattle.algol_instances.proofs.Numbering.{get_place, set_place}

-- ---- the place of a name

-- ---- another content

with_none : (cs : List NamedCell) (name : List ℕ) (cell : plain.Cell) → cell_place_in cs name ≡ None → cells_with (named_cells cs) name cell ≡ named_cells cs
with_none [] name cell e = refl
with_none (c ∷ cs) name cell e = by (same_name c.name.now name) e (with_none cs name cell)
  where
    further_none : (o : Option ℕ) → further 1 o ≡ None → o ≡ None
    further_none None p = refl
    further_none (Some j) p = cc

    by :
        (b : Bool) → (if b then Some 0 else further 1 (cell_place_in cs name)) ≡ None
        → (cell_place_in cs name ≡ None → cells_with (named_cells cs) name cell ≡ named_cells cs)
        → (if b then record (named_cell c) { cell = cell } ∷ named_cells cs else named_cell c ∷ cells_with (named_cells cs) name cell)
        ≡ named_cell c ∷ named_cells cs
    by true p g = cc
    by false p g = ap (λ (x : _). named_cell c ∷ x) (g (further_none (cell_place_in cs name) p))

pub with_no_cell :
    (cs : List NamedCell) (name : List ℕ) (cell : plain.Cell) → None ≡ cell_place_in cs name
    → named_cells cs ≡ cells_with (named_cells cs) name cell
with_no_cell cs name cell e = sym (with_none cs name cell (sym e))

with_at :
    (cs : List NamedCell) (name : List ℕ) (k : ℕ) (x : NamedCell) (cell : Cell) → cell_place_in cs name ≡ Some k → x ≡ get_or cs k x
    → map named_cell (slice_set cs k (record x { cell = cell })) ≡ cells_with (named_cells cs) name (seen.cell cell)
with_at [] name k x cell e is = cc
with_at (c ∷ cs) name k x cell e is = by (same_name c.name.now name) k e is (with_at cs name)
  where
    further_some : (o : Option ℕ) (j : ℕ) → further 1 o ≡ Some j → (i : ℕ) × (o ≡ Some i) × (j ≡ suc i)
    further_some None j p = cc
    further_some (Some i) j p = (i, refl, let q : 1 + i ≡ j = cc in omega arith)

    by :
        (b : Bool) (j : ℕ) → (if b then Some 0 else further 1 (cell_place_in cs name)) ≡ Some j → x ≡ get_or (c ∷ cs) j x
        → ((i : ℕ) (y : NamedCell) (d : Cell) → cell_place_in cs name ≡ Some i → y ≡ get_or cs i y
        → map named_cell (slice_set cs i (record y { cell = d })) ≡ cells_with (named_cells cs) name (seen.cell d))
        → map named_cell (slice_set (c ∷ cs) j (record x { cell = cell }))
        ≡ (if b then record (named_cell c) { cell = seen.cell cell } ∷ named_cells cs else named_cell c ∷ cells_with (named_cells cs) name (seen.cell cell))
    by true zero p q g = let r : x ≡ c = q in ap (λ (y : NamedCell). named_cell (record y { cell = cell }) ∷ named_cells cs) r
    by true (suc j) p q g = cc
    by false j p q g = later (further_some (cell_place_in cs name) j p) q g
      where
        later :
            ((i : ℕ) × (cell_place_in cs name ≡ Some i) × (j ≡ suc i)) → x ≡ get_or (c ∷ cs) j x
            → ((i : ℕ) (y : NamedCell) (d : Cell) → cell_place_in cs name ≡ Some i → y ≡ get_or cs i y
            → map named_cell (slice_set cs i (record y { cell = d })) ≡ cells_with (named_cells cs) name (seen.cell d))
            → map named_cell (slice_set (c ∷ cs) j (record x { cell = cell })) ≡ named_cell c ∷ cells_with (named_cells cs) name (seen.cell cell)
        later (i, found, q) is g =
            let here : x ≡ get_or cs i x = subst (λ (n : ℕ). x ≡ get_or (c ∷ cs) n x) q is in
            ap (λ (n : ℕ). map named_cell (slice_set (c ∷ cs) n (record x { cell = cell }))) q
            ∙ ap (λ (y : _). named_cell c ∷ y) (g i x cell found here)

pub with_cell :
    (cs : List NamedCell) (name : List ℕ) (k : ℕ) (x : NamedCell) (cell : Cell) → Some k ≡ cell_place_in cs name → x ≡ get_or cs k x
    → map named_cell (slice_set cs k (record x { cell = cell })) ≡ cells_with (named_cells cs) name (seen.cell cell)
with_cell cs name k x cell e is = with_at cs name k x cell (sym e) is

place_below : (cs : List NamedCell) (name : List ℕ) (k : ℕ) → cell_place_in cs name ≡ Some k → k < length cs
place_below [] name k e = cc
place_below (c ∷ cs) name k e = by (same_name c.name.now name) e (place_below cs name)
  where
    by :
        (b : Bool) → (if b then Some 0 else further 1 (cell_place_in cs name)) ≡ Some k → ((i : ℕ) → cell_place_in cs name ≡ Some i → i < length cs)
        → k < suc (length cs)
    by true p g = let q : 0 ≡ k = cc in omega arith
    by false p g = under (cell_place_in cs name) p g
      where
        under : (o : Option ℕ) → further 1 o ≡ Some k → ((i : ℕ) → o ≡ Some i → i < length cs) → k < suc (length cs)
        under None p g = cc
        under (Some i) p g = let q : 1 + i ≡ k = cc in let r : i < length cs = g i refl in omega arith

pub place_within : (cs : List NamedCell) (name : List ℕ) (k : ℕ) → Some k ≡ cell_place_in cs name → k < length cs
place_within cs name k e = place_below cs name k (sym e)

-- ---- what a cell held before it has another content

displaced_at_place :
    (cs : List NamedCell) (name : List ℕ) (k : ℕ) (x : NamedCell) (cell : plain.Cell) → cell_place_in cs name ≡ Some k → x ≡ get_or cs k x
    → seen.cell x.cell ≡ displaced (named_cells cs) name cell
displaced_at_place [] name k x cell e is = cc
displaced_at_place (c ∷ cs) name k x cell e is = by (same_name c.name.now name) k e is (λ i y. displaced_at_place cs name i y cell)
  where
    by :
        (b : Bool) (j : ℕ) → (if b then Some 0 else further 1 (cell_place_in cs name)) ≡ Some j → x ≡ get_or (c ∷ cs) j x
        → ((i : ℕ) (y : NamedCell) → cell_place_in cs name ≡ Some i → y ≡ get_or cs i y → seen.cell y.cell ≡ displaced (named_cells cs) name cell)
        → seen.cell x.cell ≡ (if b then seen.cell c.cell else displaced (named_cells cs) name cell)
    by true zero p q g = let r : x ≡ c = q in ap (λ (y : NamedCell). seen.cell y.cell) r
    by true (suc j) p q g = cc
    by false j p q g = under (cell_place_in cs name) j p q g
      where
        under :
            (o : Option ℕ) (j : ℕ) → further 1 o ≡ Some j → x ≡ get_or (c ∷ cs) j x
            → ((i : ℕ) (y : NamedCell) → o ≡ Some i → y ≡ get_or cs i y → seen.cell y.cell ≡ displaced (named_cells cs) name cell)
            → seen.cell x.cell ≡ displaced (named_cells cs) name cell
        under None j p q g = cc
        under (Some i) j p q g =
            let r : 1 + i ≡ j = cc in
            let t : suc i ≡ j = omega arith in
            let here : x ≡ get_or cs i x = subst (λ (n : ℕ). x ≡ get_or (c ∷ cs) n x) (sym t) q in g i x refl here

pub displaced_in :
    (cs : List NamedCell) (name : List ℕ) (k : ℕ) (x : NamedCell) (cell : plain.Cell) → Some k ≡ cell_place_in cs name → x ≡ get_or cs k x
    → seen.cell x.cell ≡ displaced (named_cells cs) name cell
displaced_in cs name k x cell e is = displaced_at_place cs name k x cell (sym e) is

no_displaced : (cs : List NamedCell) (name : List ℕ) (cell : plain.Cell) → cell_place_in cs name ≡ None → cell ≡ displaced (named_cells cs) name cell
no_displaced [] name cell e = refl
no_displaced (c ∷ cs) name cell e = by (same_name c.name.now name) e (no_displaced cs name cell)
  where
    further_none : (o : Option ℕ) → further 1 o ≡ None → o ≡ None
    further_none None p = refl
    further_none (Some j) p = cc

    by :
        (b : Bool) → (if b then Some 0 else further 1 (cell_place_in cs name)) ≡ None
        → (cell_place_in cs name ≡ None → cell ≡ displaced (named_cells cs) name cell)
        → cell ≡ (if b then seen.cell c.cell else displaced (named_cells cs) name cell)
    by true p g = cc
    by false p g = g (further_none (cell_place_in cs name) p)

pub displaced_none : (cs : List NamedCell) (name : List ℕ) (cell : plain.Cell) → None ≡ cell_place_in cs name → cell ≡ displaced (named_cells cs) name cell
displaced_none cs name cell e = no_displaced cs name cell (sym e)

-- ---- a change of one instance

pub changed :
    (xs : List Instance) (n k : ℕ) (x y : Instance) (change : world.Instance → world.Instance) → Some k ≡ place_of_number n → k < length xs
    → x ≡ get_or xs k x → instance y ≡ change (instance x)
    → map instance (slice_set xs k y) ≡ set_numbered (map instance xs) n (change (world.or_no_instance (numbered (map instance xs) n)))
changed xs n k x y change e within is c =
    set_place xs instance n k y e
    ∙ ap (set_numbered (map instance xs) n)
    (c ∙ ap (λ (i : _). change (world.or_no_instance i)) (sym (get_place xs instance n k x e within is)))

pub unchanged_at :
    (xs : List Instance) (n k : ℕ) (x y : Instance) → Some k ≡ place_of_number n → k < length xs → x ≡ get_or xs k x → instance y ≡ instance x
    → map instance (slice_set xs k y) ≡ map instance xs
unchanged_at xs n k x y e within is c =
    set_place xs instance n k y e ∙ ap (set_numbered (map instance xs) n) c
    ∙ numbered_same (map instance xs) n (instance x) (get_place xs instance n k x e within is)
