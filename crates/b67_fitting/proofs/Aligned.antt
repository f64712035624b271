-- A cell has the same number by its name among the cells of its block as by its place among those of the text.
use Rattle.std.proofs.Common.{arith, ◌≡◌, inl, inr, ℕ, ◌+◌, Bool, true, false, List, [], ◌∷◌, ◌++◌, length, is_some, slice_get, Option, Some, None, refl, sym, ap, ◌∙◌, subst, add-one, if◌then◌else◌}
use Rattle.std.specs.List.{AllByRecursion}
use Rattle.algol_tree.specs.declared.token.Spot.{Spot}
use Rattle.algol_tree.specs.declared.tree.Kind.{Kind}
use Rattle.algol_tree.specs.declared.tree.Named.{Named}
use Rattle.algol_tree.specs.Ascending.{spots_of_names}
use Rattle.algol_tree.specs.Blocks.{same_spot}
use Rattle.algol_tree.specs.Cells as cells
use Rattle.algol_tree.specs.Cells.{Cell, cells_for, index_from}
use Rattle.algol_tree.specs.Classes as class
use Rattle.algol_tree.specs.Names.{name_is_one_of}
use Rattle.algol_tree.specs.Plain as tree
use Rattle.algol_tree.specs.Plain.{PDecls}
use Rattle.algol_tree.specs.Sorts as sort
use Rattle.algol_tree.specs.Sorts.{same_name, Declared, look_up, declare}
use Rattle.algol_tree.proofs.Spots.{same_spot_is, same_spot_itself}
use Rattle.b67_templates.specs.Cells.{Simple, Wanted, value, of_kind, result_cells_of, procedures, found_from}
use Rattle.b67_fitting.proofs.Apart.{IsIn, each_in, IsApart, Apart}
use Rattle.b67_fitting.proofs.Declaring.{IsOther}
use Rattle.b67_fitting.proofs.Frames.{control_cells, result_cell}

-- ---- numbers

-- By its name and by its place the cell has the same number, from these first ones on. This is what an actual for it has to be.
pub record IsAt (i j : ℕ) (xs : List Simple) (cs : List Cell) (name : List ℕ) (spot : Spot) (wanted : Wanted) : Type 0 where
  pub number : ℕ
  pub cell : Simple
  pub found : found_from i xs name ≡ Some (record { number = number; cell = cell })
  pub wanted_is : cell.wanted ≡ wanted
  pub index : index_from j cs spot ≡ Some (2 + number)

abbrev pub Aligned : List Simple → List Cell → List ℕ → Spot → Wanted → Type 0
Aligned xs cs name spot wanted = (i j : ℕ) → j ≡ 2 + i → IsAt i j xs cs name spot wanted

pub aligned_behind : (block : ℕ) (own : Kind) (ns : List Named) (xs : List Simple) (cs : List Cell) (name : List ℕ) (spot : Spot) (wanted : Wanted) → AllByRecursion (IsOther name) ns →
    AllByRecursion (λ s. IsApart s spot) (spots_of_names ns) → Aligned xs cs name spot wanted → Aligned (of_kind own ns ++ xs) (cells_for block cells.variable ns ++ cs) name spot wanted
aligned_behind block own [] xs cs name spot wanted g h l = l
aligned_behind block own (n ∷ ns) xs cs name spot wanted g h l =
    λ i j e.
    let next : j + 1 ≡ 2 + (i + 1) = omega (arith, e) in
    let more = of_kind own ns ++ xs in
    let later = cells_for block cells.variable ns ++ cs in
    let r = aligned_behind block own ns xs cs name spot wanted g.1 h.1 l (i + 1) (j + 1) next in
    record {
      number = r.number;
      cell = r.cell;
      found = ap (λ (b : Bool). if b then Some (record { number = i; cell = record { name = n.name; wanted = value own } }) else found_from (i + 1) more name) g.0 ∙ r.found;
      wanted_is = r.wanted_is;
      index = ap (λ (b : Bool). if b then Some j else index_from (j + 1) later spot) h.0 ∙ r.index;
    }

-- these cells are of another name, and stand elsewhere
abbrev pub AreOthers : List ℕ → Spot → List Simple → List Cell → Type 0
AreOthers name spot [] [] = Unit {0}
AreOthers name spot (x ∷ xs) (c ∷ cs) = (same_name x.name name ≡ false) × IsApart c.spot spot × AreOthers name spot xs cs
AreOthers name spot _ _ = ⊥

pub aligned_over : (xs ys : List Simple) (cs ds : List Cell) (name : List ℕ) (spot : Spot) (wanted : Wanted) → AreOthers name spot xs cs → Aligned ys ds name spot wanted →
    Aligned (xs ++ ys) (cs ++ ds) name spot wanted
aligned_over [] ys [] ds name spot wanted h l = l
aligned_over (x ∷ xs) ys (c ∷ cs) ds name spot wanted h l =
    λ i j e.
    let next : j + 1 ≡ 2 + (i + 1) = omega (arith, e) in
    let r = aligned_over xs ys cs ds name spot wanted h.2 l (i + 1) (j + 1) next in
    record {
      number = r.number;
      cell = r.cell;
      found = ap (λ (b : Bool). if b then Some (record { number = i; cell = x }) else found_from (i + 1) (xs ++ ys) name) h.0 ∙ r.found;
      wanted_is = r.wanted_is;
      index = ap (λ (b : Bool). if b then Some j else index_from (j + 1) (cs ++ ds) spot) h.1 ∙ r.index;
    }
aligned_over [] ys (c ∷ cs) ds name spot wanted h l = absurd h
aligned_over (x ∷ xs) ys [] ds name spot wanted h l = absurd h

-- more cells after
pub index_on : (cs ds : List Cell) (j : ℕ) (spot : Spot) (i : ℕ) → index_from j cs spot ≡ Some i → index_from j (cs ++ ds) spot ≡ Some i
index_on [] ds j spot i h = absurd (let clash : None ≡ Some i = h in cc)
index_on (c ∷ cs) ds j spot i h = by (same_spot c.spot spot) (index_on cs ds (j + 1) spot i) h
  where
    by : (b : Bool) → (index_from (j + 1) cs spot ≡ Some i → index_from (j + 1) (cs ++ ds) spot ≡ Some i) → (if b then Some j else index_from (j + 1) cs spot) ≡ Some i →
        (if b then Some j else index_from (j + 1) (cs ++ ds) spot) ≡ Some i
    by true later g = g
    by false later g = later g

pub aligned_on : (xs : List Simple) (cs ds : List Cell) (name : List ℕ) (spot : Spot) (wanted : Wanted) → Aligned xs cs name spot wanted → Aligned xs (cs ++ ds) name spot wanted
aligned_on xs cs ds name spot wanted l =
    λ i j e.
    let r = l i j e in
    record { number = r.number; cell = r.cell; found = r.found; wanted_is = r.wanted_is; index = index_on cs ds j spot (2 + r.number) r.index }

-- the result in front, which has another name
pub aligned_result : (o : Option Kind) (own : List ℕ) (block : ℕ) (at : Spot) (xs : List Simple) (cs : List Cell) (name : List ℕ) (spot : Spot) (wanted : Wanted) →
    name_is_one_of (if is_some o then own ∷ [] else []) name ≡ false → IsApart at spot → Aligned xs cs name spot wanted →
    Aligned (result_cells_of o own ++ xs) (result_cell o block at ++ cs) name spot wanted
aligned_result None own block at xs cs name spot wanted h a l = l
aligned_result (Some k) own block at xs cs name spot wanted h a l =
    aligned_over (record { name = own; wanted = value k } ∷ []) xs (record { block = block; spot = at; content = cells.result } ∷ []) cs name spot wanted (another (same_name own name) h, a, tt) l
  where
    another : (b : Bool) → (if b then true else false) ≡ false → b ≡ false
    another true g = absurd (let clash : true ≡ false = g in cc)
    another false g = refl

-- ---- procedures

-- past cells that stand elsewhere
pub index_past : (cs ds : List Cell) (j : ℕ) (spot : Spot) → AllByRecursion (λ (c : Cell). IsApart c.spot spot) cs → index_from j (cs ++ ds) spot ≡ index_from (j + length cs) ds spot
index_past [] ds j spot h = ap (λ (n : ℕ). index_from n ds spot) (let same : j ≡ j + 0 = omega arith in same)
index_past (c ∷ cs) ds j spot h =
    ap (λ (b : Bool). if b then Some j else index_from (j + 1) (cs ++ ds) spot) h.0 ∙ index_past cs ds (j + 1) spot h.1
    ∙ ap (λ (n : ℕ). index_from n ds spot) (let next : j + 1 + length cs ≡ j + length (c ∷ cs) = omega arith in next)

-- of a procedure that is declared there: its number among the procedures, and by its place
pub record IsControl (block : ℕ) (ds : PDecls) (spot : Spot) : Type 0 where
  pub number : ℕ
  pub declared : Named
  pub there : slice_get (procedures ds) number ≡ Some declared
  pub spot_is : declared.spot ≡ spot
  pub index : (j : ℕ) → index_from j (control_cells block ds) spot ≡ Some (j + number)

pub control : (block : ℕ) (ds : PDecls) (spot : Spot) → IsIn spot (spots_of_names (procedures ds)) → IsControl block ds spot
control block tree.no_decls spot i = absurd i
control block (tree.decls (tree.procedure h s) ds) spot i = by (same_spot h.name.spot spot) (control block ds spot) refl i
  where
    more : IsControl block ds spot → same_spot h.name.spot spot ≡ false → IsControl block (tree.decls (tree.procedure h s) ds) spot
    more r e =
        record {
          number = r.number + 1;
          declared = r.declared;
          there = ap (slice_get (h.name ∷ procedures ds)) (add-one r.number) ∙ r.there;
          spot_is = r.spot_is;
          index =
              λ j.
              ap (λ (b : Bool). if b then Some j else index_from (j + 1) (control_cells block ds) spot) e ∙ r.index (j + 1)
              ∙ ap (λ (n : ℕ). Some n) (let same : j + 1 + r.number ≡ j + (r.number + 1) = omega arith in same);
        }

    by : (b : Bool) → (IsIn spot (spots_of_names (procedures ds)) → IsControl block ds spot) → same_spot h.name.spot spot ≡ b → IsIn spot (h.name.spot ∷ spots_of_names (procedures ds)) → IsControl block (tree.decls (tree.procedure h s) ds) spot
    by true later e j =
        record {
          number = 0;
          declared = h.name;
          there = refl;
          spot_is = same_spot_is h.name.spot spot e;
          index =
              λ n.
              ap (λ (b : Bool). if b then Some n else index_from (n + 1) (control_cells block ds) spot) e
              ∙ ap (λ (m : ℕ). Some m) (let same : n ≡ n + 0 = omega arith in same);
        }
    by false later e (inl same) = absurd (let clash : true ≡ false = sym (same_spot_itself spot) ∙ ap (λ (t : Spot). same_spot t spot) same ∙ e in cc)
    by false later e (inr j) = more (later j) e
control block (tree.decls d ds) spot i =
    let r = control block ds spot i in
    record { number = r.number; declared = r.declared; there = r.there; spot_is = r.spot_is; index = r.index }

-- ---- variables

-- a variable that is declared in this block, at this depth
pub record IsVar (block depth : ℕ) (d : Declared) (kind : Kind) : Type 0 where
  pub class_is : d.class ≡ class.simple kind
  pub sort_is : d.sort ≡ sort.variable
  pub block_is : d.block ≡ block
  pub depth_is : d.depth ≡ depth

module _ (block depth : ℕ) where
  pub record IsHit (kind : Kind) (ns : List Named) (xs : List Simple) (cs : List Cell) (name : List ℕ) (d : Declared) : Type 0 where
    pub var : IsVar block depth d kind
    pub inside : IsIn d.spot (spots_of_names ns)
    pub aligned : Aligned (of_kind kind ns ++ xs) (cells_for block cells.variable ns ++ cs) name d.spot (value kind)

  abbrev entry : Kind → Named → Declared
  entry kind n = record { name = n.name; spot = n.spot; block = block; depth = depth; sort = sort.variable; class = class.simple kind }

  first_hit : (kind : Kind) (n : Named) (ns : List Named) (xs : List Simple) (cs : List Cell) (name : List ℕ) → same_name n.name name ≡ true → IsHit kind (n ∷ ns) xs cs name (entry kind n)
  first_hit kind n ns xs cs name h =
      record {
        var = record { class_is = refl; sort_is = refl; block_is = refl; depth_is = refl };
        inside = inl refl;
        aligned =
            λ i j e.
            record {
              number = i;
              cell = record { name = n.name; wanted = value kind };
              found = ap (λ (b : Bool). if b then Some (record { number = i; cell = record { name = n.name; wanted = value kind } }) else found_from (i + 1) (of_kind kind ns ++ xs) name) h;
              wanted_is = refl;
              index = ap (λ (b : Bool). if b then Some j else index_from (j + 1) (cells_for block cells.variable ns ++ cs) n.spot) (same_spot_itself n.spot) ∙ ap Some e;
            };
      }

  later_hit : (kind : Kind) (n : Named) (ns : List Named) (xs : List Simple) (cs : List Cell) (name : List ℕ) (d : Declared) → same_name n.name name ≡ false → IsApart n.spot d.spot →
      IsHit kind ns xs cs name d → IsHit kind (n ∷ ns) xs cs name d
  later_hit kind n ns xs cs name d g h r =
      record {
        var = r.var;
        inside = inr r.inside;
        aligned = aligned_behind block kind (n ∷ []) (of_kind kind ns ++ xs) (cells_for block cells.variable ns ++ cs) name d.spot (value kind) (g, tt) (h, tt) r.aligned;
      }

  hit_by : (b : Bool) (kind : Kind) (n : Named) (ns : List Named) (xs : List Simple) (cs : List Cell) (name : List ℕ) (d : Declared) → Apart (spots_of_names (n ∷ ns)) →
      (look_up (declare block depth sort.variable (class.simple kind) ns) name ≡ Some d → IsHit kind ns xs cs name d) → same_name n.name name ≡ b →
      (if b then Some (entry kind n) else look_up (declare block depth sort.variable (class.simple kind) ns) name) ≡ Some d → IsHit kind (n ∷ ns) xs cs name d
  hit_by true kind n ns xs cs name d p later e g =
      let same : entry kind n ≡ d = cc in
      subst (λ (z : Declared). IsHit kind (n ∷ ns) xs cs name z) same (first_hit kind n ns xs cs name e)
  hit_by false kind n ns xs cs name d p later e g =
      let r = later g in
      later_hit kind n ns xs cs name d e (each_in (IsApart n.spot) d.spot (spots_of_names ns) p.0 r.inside) r

  pub hit : (kind : Kind) (ns : List Named) (xs : List Simple) (cs : List Cell) (name : List ℕ) (d : Declared) → Apart (spots_of_names ns) →
      look_up (declare block depth sort.variable (class.simple kind) ns) name ≡ Some d → IsHit kind ns xs cs name d
  hit kind [] xs cs name d p h = absurd (let clash : None ≡ Some d = h in cc)
  hit kind (n ∷ ns) xs cs name d p h = hit_by (same_name n.name name) kind n ns xs cs name d p (hit kind ns xs cs name d p.1) refl h
