-- Where the arrays, the events and the tasks of a block lie in its frame: after its simple cells, its procedures and its actuals.
use Rattle.std.proofs.Common.{arith, ◌≡◌, ◌⊎◌, inl, inr, ℕ, ◌+◌, Bool, true, false, List, [], ◌∷◌, ◌++◌, length, is_some, Option, Some, None, refl, sym, ap, ◌∙◌, append_assoc, if◌then◌else◌}
use Rattle.std.proofs.lemmas.List.{length-append}
use Rattle.std.specs.List.{AllByRecursion}
use Rattle.algol_tree.specs.declared.token.Spot.{Spot}
use Rattle.algol_tree.specs.declared.tree.Kind.{Kind}
use Rattle.algol_tree.specs.declared.tree.Named.{Named}
use Rattle.algol_tree.specs.Ascending.{spots_of_names, spots_of_pairs, spots_of_decl, spots_of_decls}
use Rattle.algol_tree.specs.Blocks.{Block}
use Rattle.algol_tree.specs.Cells as cells
use Rattle.algol_tree.specs.Cells.{Cell, cells_for, index_from}
use Rattle.algol_tree.specs.Names.{name_is_one_of, result_names_of}
use Rattle.algol_tree.specs.Plain as tree
use Rattle.algol_tree.specs.Plain.{PDecls}
use Rattle.algol_tree.specs.Sorts.{same_name}
use Rattle.algol_paths.specs.Arrays.{Made}
use Rattle.b67_templates.specs.Cells.{Simple, found_from, result_cells_of, procedures, variables, made_of}
use Rattle.b67_list.proofs.Lists.{each_both}
use Rattle.b67_fitting.proofs.Aligned.{index_past, index_on}
use Rattle.b67_fitting.proofs.Apart.{IsIn, in_front, in_back, in_either, IsApart, Apart, apart_back, apart_from}
use Rattle.b67_fitting.proofs.Arrayed.{made_spots, IsMade, from_first}
use Rattle.b67_fitting.proofs.Frames.{named_of, variable_cells, control_cells, made_cells, decl_cells, result_cell}
use Rattle.b67_fitting.proofs.Framing.{cells_apart, variables_far, controls_far, parameters_apart, block, frame, simples, decls_apart, own_apart, result_apart, all_long}
use Rattle.b67_fitting.proofs.Homed.{IsHome}
use Rattle.b67_fitting.proofs.Known.{given_cells, given_places}

-- ---- places

pub made_inside : (ds : PDecls) (s : Spot) → IsIn s (made_spots ds) → IsIn s (spots_of_decls ds)
made_inside tree.no_decls s i = absurd i
made_inside (tree.decls (tree.arrays kind ns pairs) ds) s i = by (in_either s (spots_of_names ns) (made_spots ds) i) (made_inside ds s)
  where
    by : IsIn s (spots_of_names ns) ⊎ IsIn s (made_spots ds) → (IsIn s (made_spots ds) → IsIn s (spots_of_decls ds)) → IsIn s ((spots_of_names ns ++ spots_of_pairs pairs) ++ spots_of_decls ds)
    by (inl j) later = in_front s (spots_of_names ns ++ spots_of_pairs pairs) (spots_of_decls ds) (in_front s (spots_of_names ns) (spots_of_pairs pairs) j)
    by (inr j) later = in_back s (spots_of_names ns ++ spots_of_pairs pairs) (spots_of_decls ds) (later j)
made_inside (tree.decls (tree.events ns) ds) s i = by (in_either s (spots_of_names ns) (made_spots ds) i) (made_inside ds s)
  where
    by : IsIn s (spots_of_names ns) ⊎ IsIn s (made_spots ds) → (IsIn s (made_spots ds) → IsIn s (spots_of_decls ds)) → IsIn s (spots_of_names ns ++ spots_of_decls ds)
    by (inl j) later = in_front s (spots_of_names ns) (spots_of_decls ds) j
    by (inr j) later = in_back s (spots_of_names ns) (spots_of_decls ds) (later j)
made_inside (tree.decls (tree.tasks ns) ds) s i = by (in_either s (spots_of_names ns) (made_spots ds) i) (made_inside ds s)
  where
    by : IsIn s (spots_of_names ns) ⊎ IsIn s (made_spots ds) → (IsIn s (made_spots ds) → IsIn s (spots_of_decls ds)) → IsIn s (spots_of_names ns ++ spots_of_decls ds)
    by (inl j) later = in_front s (spots_of_names ns) (spots_of_decls ds) j
    by (inr j) later = in_back s (spots_of_names ns) (spots_of_decls ds) (later j)
made_inside (tree.decls d ds) s i = in_back s (spots_of_decl d) (spots_of_decls ds) (made_inside ds s i)

-- the variables and the procedures are apart from them
simple_apart : (k : ℕ) (ds : PDecls) (s : Spot) → Apart (spots_of_decls ds) → IsIn s (made_spots ds) → AllByRecursion (λ (c : Cell). IsApart c.spot s) (variable_cells k ds)
simple_apart k tree.no_decls s p i = tt
simple_apart k (tree.decls (tree.simple kind ns) ds) s p i =
    each_both (λ (c : Cell). IsApart c.spot s) (cells_for k cells.variable ns) (variable_cells k ds) (cells_apart k ns s (apart_from (spots_of_names ns) (spots_of_decls ds) s p (made_inside ds s i)))
    (simple_apart k ds s (apart_back (spots_of_names ns) (spots_of_decls ds) p) i)
simple_apart k (tree.decls (tree.arrays kind ns pairs) ds) s p i = by (in_either s (spots_of_names ns) (made_spots ds) i) (simple_apart k ds s (apart_back own (spots_of_decls ds) p))
  where
    own : List Spot
    own = spots_of_names ns ++ spots_of_pairs pairs

    by : IsIn s (spots_of_names ns) ⊎ IsIn s (made_spots ds) → (IsIn s (made_spots ds) → AllByRecursion (λ (c : Cell). IsApart c.spot s) (variable_cells k ds)) →
        AllByRecursion (λ (c : Cell). IsApart c.spot s) (variable_cells k ds)
    by (inl j) later = variables_far k ds s (from_first own (spots_of_decls ds) s p (in_front s (spots_of_names ns) (spots_of_pairs pairs) j))
    by (inr j) later = later j
simple_apart k (tree.decls (tree.events ns) ds) s p i = by (in_either s (spots_of_names ns) (made_spots ds) i) (simple_apart k ds s (apart_back (spots_of_names ns) (spots_of_decls ds) p))
  where
    by : IsIn s (spots_of_names ns) ⊎ IsIn s (made_spots ds) → (IsIn s (made_spots ds) → AllByRecursion (λ (c : Cell). IsApart c.spot s) (variable_cells k ds)) →
        AllByRecursion (λ (c : Cell). IsApart c.spot s) (variable_cells k ds)
    by (inl j) later = variables_far k ds s (from_first (spots_of_names ns) (spots_of_decls ds) s p j)
    by (inr j) later = later j
simple_apart k (tree.decls (tree.tasks ns) ds) s p i = by (in_either s (spots_of_names ns) (made_spots ds) i) (simple_apart k ds s (apart_back (spots_of_names ns) (spots_of_decls ds) p))
  where
    by : IsIn s (spots_of_names ns) ⊎ IsIn s (made_spots ds) → (IsIn s (made_spots ds) → AllByRecursion (λ (c : Cell). IsApart c.spot s) (variable_cells k ds)) →
        AllByRecursion (λ (c : Cell). IsApart c.spot s) (variable_cells k ds)
    by (inl j) later = variables_far k ds s (from_first (spots_of_names ns) (spots_of_decls ds) s p j)
    by (inr j) later = later j
simple_apart k (tree.decls d ds) s p i = simple_apart k ds s (apart_back (spots_of_decl d) (spots_of_decls ds) p) i

controls_apart : (k : ℕ) (ds : PDecls) (s : Spot) → Apart (spots_of_decls ds) → IsIn s (made_spots ds) → AllByRecursion (λ (c : Cell). IsApart c.spot s) (control_cells k ds)
controls_apart k tree.no_decls s p i = tt
controls_apart k (tree.decls (tree.procedure h body) ds) s p i =
    let own = spots_of_decl (tree.procedure h body) in
    ((apart_from own (spots_of_decls ds) s p (made_inside ds s i)).0, controls_apart k ds s (apart_back own (spots_of_decls ds) p) i)
controls_apart k (tree.decls (tree.arrays kind ns pairs) ds) s p i = by (in_either s (spots_of_names ns) (made_spots ds) i) (controls_apart k ds s (apart_back own (spots_of_decls ds) p))
  where
    own : List Spot
    own = spots_of_names ns ++ spots_of_pairs pairs

    by : IsIn s (spots_of_names ns) ⊎ IsIn s (made_spots ds) → (IsIn s (made_spots ds) → AllByRecursion (λ (c : Cell). IsApart c.spot s) (control_cells k ds)) →
        AllByRecursion (λ (c : Cell). IsApart c.spot s) (control_cells k ds)
    by (inl j) later = controls_far k ds s (from_first own (spots_of_decls ds) s p (in_front s (spots_of_names ns) (spots_of_pairs pairs) j))
    by (inr j) later = later j
controls_apart k (tree.decls (tree.events ns) ds) s p i = by (in_either s (spots_of_names ns) (made_spots ds) i) (controls_apart k ds s (apart_back (spots_of_names ns) (spots_of_decls ds) p))
  where
    by : IsIn s (spots_of_names ns) ⊎ IsIn s (made_spots ds) → (IsIn s (made_spots ds) → AllByRecursion (λ (c : Cell). IsApart c.spot s) (control_cells k ds)) →
        AllByRecursion (λ (c : Cell). IsApart c.spot s) (control_cells k ds)
    by (inl j) later = controls_far k ds s (from_first (spots_of_names ns) (spots_of_decls ds) s p j)
    by (inr j) later = later j
controls_apart k (tree.decls (tree.tasks ns) ds) s p i = by (in_either s (spots_of_names ns) (made_spots ds) i) (controls_apart k ds s (apart_back (spots_of_names ns) (spots_of_decls ds) p))
  where
    by : IsIn s (spots_of_names ns) ⊎ IsIn s (made_spots ds) → (IsIn s (made_spots ds) → AllByRecursion (λ (c : Cell). IsApart c.spot s) (control_cells k ds)) →
        AllByRecursion (λ (c : Cell). IsApart c.spot s) (control_cells k ds)
    by (inl j) later = controls_far k ds s (from_first (spots_of_names ns) (spots_of_decls ds) s p j)
    by (inr j) later = later j
controls_apart k (tree.decls d ds) s p i = controls_apart k ds s (apart_back (spots_of_decl d) (spots_of_decls ds) p) i

-- ---- the cell of one

made_among : (k : ℕ) (ns : List Named) (s : Spot) → IsIn s (spots_of_names ns) → IsIn (record { block = k; spot = s; content = cells.made }) (cells_for k cells.made ns)
made_among k [] s i = absurd i
made_among k (n ∷ ns) s (inl e) = inl (ap (λ (z : Spot). record { block = k; spot = z; content = cells.made }) e)
made_among k (n ∷ ns) s (inr i) = inr (made_among k ns s i)

pub made_cell : (k : ℕ) (ds : PDecls) (s : Spot) → IsIn s (made_spots ds) → IsIn (record { block = k; spot = s; content = cells.made }) (decl_cells k ds)
made_cell k tree.no_decls s i = absurd i
made_cell k (tree.decls (tree.simple kind ns) ds) s i = in_back (record { block = k; spot = s; content = cells.made }) (cells_for k cells.variable ns) (decl_cells k ds) (made_cell k ds s i)
made_cell k (tree.decls (tree.arrays kind ns pairs) ds) s i = by (in_either s (spots_of_names ns) (made_spots ds) i) (made_cell k ds s)
  where
    cell : Cell
    cell = record { block = k; spot = s; content = cells.made }

    by : IsIn s (spots_of_names ns) ⊎ IsIn s (made_spots ds) → (IsIn s (made_spots ds) → IsIn cell (decl_cells k ds)) → IsIn cell (cells_for k cells.made ns ++ decl_cells k ds)
    by (inl j) later = in_front cell (cells_for k cells.made ns) (decl_cells k ds) (made_among k ns s j)
    by (inr j) later = in_back cell (cells_for k cells.made ns) (decl_cells k ds) (later j)
made_cell k (tree.decls (tree.events ns) ds) s i = by (in_either s (spots_of_names ns) (made_spots ds) i) (made_cell k ds s)
  where
    cell : Cell
    cell = record { block = k; spot = s; content = cells.made }

    by : IsIn s (spots_of_names ns) ⊎ IsIn s (made_spots ds) → (IsIn s (made_spots ds) → IsIn cell (decl_cells k ds)) → IsIn cell (cells_for k cells.made ns ++ decl_cells k ds)
    by (inl j) later = in_front cell (cells_for k cells.made ns) (decl_cells k ds) (made_among k ns s j)
    by (inr j) later = in_back cell (cells_for k cells.made ns) (decl_cells k ds) (later j)
made_cell k (tree.decls (tree.tasks ns) ds) s i = by (in_either s (spots_of_names ns) (made_spots ds) i) (made_cell k ds s)
  where
    cell : Cell
    cell = record { block = k; spot = s; content = cells.made }

    by : IsIn s (spots_of_names ns) ⊎ IsIn s (made_spots ds) → (IsIn s (made_spots ds) → IsIn cell (decl_cells k ds)) → IsIn cell (cells_for k cells.made ns ++ decl_cells k ds)
    by (inl j) later = in_front cell (cells_for k cells.made ns) (decl_cells k ds) (made_among k ns s j)
    by (inr j) later = in_back cell (cells_for k cells.made ns) (decl_cells k ds) (later j)
made_cell k (tree.decls (tree.procedure h body) ds) s i = inr (made_cell k ds s i)
made_cell k (tree.decls d ds) s i = made_cell k ds s i

-- ---- frames

controls_long : (k : ℕ) (ds : PDecls) → length (control_cells k ds) ≡ length (procedures ds)
controls_long k tree.no_decls = refl
controls_long k (tree.decls (tree.procedure h body) ds) = omega (arith, controls_long k ds)
controls_long k (tree.decls d ds) = controls_long k ds

none_found : (xs : List Simple) (i : ℕ) (name : List ℕ) → AllByRecursion (λ (x : Simple). same_name x.name name ≡ false) xs → found_from i xs name ≡ None
none_found [] i name h = refl
none_found (x ∷ xs) i name h = ap (λ (b : Bool). if b then Some (record { number = i; cell = x }) else found_from (i + 1) xs name) h.0 ∙ none_found xs (i + 1) name h.1

in_parts : (g r v c a m : List Cell) → g ++ (r ++ (v ++ (c ++ (a ++ m)))) ≡ (((g ++ (r ++ v)) ++ c) ++ a) ++ m
in_parts g r v c a m =
    ap (λ z. g ++ z) (sym (append_assoc r v (c ++ (a ++ m)))) ∙ sym (append_assoc g (r ++ v) (c ++ (a ++ m))) ∙ sym (append_assoc (g ++ (r ++ v)) c (a ++ m))
    ∙ sym (append_assoc ((g ++ (r ++ v)) ++ c) a m)

-- the result has another name
result_other : (o : Option Kind) (own name : List ℕ) → name_is_one_of (if is_some o then own ∷ [] else []) name ≡ false → AllByRecursion (λ (x : Simple). same_name x.name name ≡ false) (result_cells_of o own)
result_other None own name h = tt
result_other (Some kind) own name h = (other (same_name own name) h, tt)
  where
    other : (b : Bool) → (if b then true else false) ≡ false → b ≡ false
    other true g = absurd (let clash : true ≡ false = g in cc)
    other false g = refl

-- `acts`: the cells of its actuals
module _ (blocks : List Block) (b : Block) (home : IsHome blocks b) (acts : List Cell) where
  -- no simple cell has the name
  pub no_simple : (name : List ℕ) → name_is_one_of (result_names_of b) name ≡ false → AllByRecursion (λ (x : Simple). same_name x.name name ≡ false) (given_cells blocks b) →
      AllByRecursion (λ (x : Simple). same_name x.name name ≡ false) (variables b.decls) → found_from 0 (simples blocks b home acts) name ≡ None
  no_simple name o g v =
      none_found (simples blocks b home acts) 0 name
      (each_both (λ (x : Simple). same_name x.name name ≡ false) (given_cells blocks b) (result_cells_of b.result b.name ++ variables b.decls) g
      (each_both (λ (x : Simple). same_name x.name name ≡ false) (result_cells_of b.result b.name) (variables b.decls) (result_other b.result b.name name o) v))

  pub made_index : (name : List ℕ) (s : Spot) (made : Made) → AllByRecursion (λ (c : Cell). IsApart c.spot s) acts → IsIn s (made_spots b.decls) →
      (r : IsMade (made_of b.decls) (made_cells (block blocks b home acts) b.decls) name s made) →
      index_from 2 (frame blocks b home acts) s ≡ Some (2 + length (simples blocks b home acts) + length (procedures b.decls) + length acts + r.number)
  made_index name s its own i r =
      let k = block blocks b home acts in
      let given = given_places blocks b in
      let result = result_cell b.result k b.spot in
      let vars = variable_cells k b.decls in
      let controls = control_cells k b.decls in
      let made = made_cells k b.decls in
      let front = ((given ++ (result ++ vars)) ++ controls) ++ acts in
      let among = made_inside b.decls s i in
      let far =
      each_both (λ (c : Cell). IsApart c.spot s) ((given ++ (result ++ vars)) ++ controls) acts
      (each_both (λ (c : Cell). IsApart c.spot s) (given ++ (result ++ vars)) controls
      (each_both (λ (c : Cell). IsApart c.spot s) given (result ++ vars)
      (parameters_apart k (named_of blocks b) s (apart_from (spots_of_names (named_of blocks b)) (spots_of_decls b.decls) s home.apart.1 among))
      (each_both (λ (c : Cell). IsApart c.spot s) result vars (result_apart blocks b home acts b.result s (own_apart blocks b home acts s among)) (simple_apart k b.decls s (decls_apart blocks b home acts) i)))
      (controls_apart k b.decls s (decls_apart blocks b home acts) i))
      own in
      let long : length front ≡ length (simples blocks b home acts) + length (procedures b.decls) + length acts =
      omega (
        arith,
        length-append ((given ++ (result ++ vars)) ++ controls) acts,
        length-append (given ++ (result ++ vars)) controls,
        all_long blocks b home acts,
        controls_long k b.decls,
      ) in
      ap (λ (cs : List Cell). index_from 2 cs s) (in_parts given result vars controls acts made)
      ∙ index_past front made 2 s far ∙ r.index (2 + length front)
      ∙ ap (λ (n : ℕ). Some n)
      (let same : 2 + length front + r.number ≡ 2 + length (simples blocks b home acts) + length (procedures b.decls) + length acts + r.number = omega (arith, long) in same)

  -- an actual lies after the procedures: what stands so far in front of it stands elsewhere
  pub actual_index : (s : Spot) (number : ℕ) → AllByRecursion (λ (c : Cell). IsApart c.spot s) (given_places blocks b) → IsApart b.spot s →
      AllByRecursion (λ (c : Cell). IsApart c.spot s) (variable_cells (block blocks b home acts) b.decls) → AllByRecursion (λ (c : Cell). IsApart c.spot s) (control_cells (block blocks b home acts) b.decls) →
      ((j : ℕ) → index_from j acts s ≡ Some (j + number)) →
      index_from 2 (frame blocks b home acts) s ≡ Some (2 + length (simples blocks b home acts) + length (procedures b.decls) + number)
  actual_index s number far_given far_own far_vars far_controls its =
      let k = block blocks b home acts in
      let given = given_places blocks b in
      let result = result_cell b.result k b.spot in
      let vars = variable_cells k b.decls in
      let controls = control_cells k b.decls in
      let made = made_cells k b.decls in
      let front = (given ++ (result ++ vars)) ++ controls in
      let far =
      each_both (λ (c : Cell). IsApart c.spot s) (given ++ (result ++ vars)) controls
      (each_both (λ (c : Cell). IsApart c.spot s) given (result ++ vars) far_given
      (each_both (λ (c : Cell). IsApart c.spot s) result vars (result_apart blocks b home acts b.result s far_own) far_vars))
      far_controls in
      let long : length front ≡ length (simples blocks b home acts) + length (procedures b.decls) =
      omega (arith, length-append (given ++ (result ++ vars)) controls, all_long blocks b home acts, controls_long k b.decls) in
      ap (λ (cs : List Cell). index_from 2 cs s) (in_parts given result vars controls acts made ∙ append_assoc front acts made)
      ∙ index_past front (acts ++ made) 2 s far ∙ index_on acts made (2 + length front) s (2 + length front + number) (its (2 + length front))
      ∙ ap (λ (n : ℕ). Some n) (let same : 2 + length front + number ≡ 2 + length (simples blocks b home acts) + length (procedures b.decls) + number = omega (arith, long) in same)
