-- Where the variables and the procedures of a block lie in its frame.
use Rattle.std.proofs.Common.{arith, ◌≡◌, ◌⊎◌, inl, inr, ℕ, ◌+◌, Bool, true, false, cond, List, [], ◌∷◌, ◌++◌, filter, length, Option, Some, None, refl, sym, ap, ◌∙◌, subst, append_assoc, if◌then◌else◌}
use Rattle.std.proofs.lemmas.List.{length-append, length-map}
use Rattle.std.specs.List.{AllByRecursion}
use Rattle.algol_tree.specs.declared.token.Spot.{Spot}
use Rattle.algol_tree.specs.declared.tree.Heading.{Heading}
use Rattle.algol_tree.specs.declared.tree.Kind.{Kind}
use Rattle.algol_tree.specs.declared.tree.Named.{Named}
use Rattle.algol_tree.specs.Ascending.{spots_of_names, spots_of_pairs, spots_of_stmt, spots_of_decl, spots_of_decls}
use Rattle.algol_tree.specs.Blocks.{Block, number_at}
use Rattle.algol_tree.specs.Cells as cells
use Rattle.algol_tree.specs.Cells.{Cell, cells_for, index_from}
use Rattle.algol_tree.specs.Names.{name_is_one_of, result_names_of, specified}
use Rattle.algol_tree.specs.Plain as tree
use Rattle.algol_tree.specs.Plain.{PStmt, PDecls}
use Rattle.algol_tree.specs.Scopes.{Use}
use Rattle.algol_tree.specs.Sorts.{same_name}
use Rattle.algol_tree.proofs.Spots.{same_spot_itself}
use Rattle.b67_templates.specs.Cells.{Simple, Wanted, value, Found, found_from, of_kind, variables, result_cells_of, simple_cells, procedures}
use Rattle.b67_list.proofs.Lists.{each_back, each_both, each_front}
use Rattle.b67_fitting.proofs.Aligned.{AreOthers, Aligned, aligned_over, index_on, aligned_on, aligned_result, index_past, IsControl, control}
use Rattle.b67_fitting.proofs.Apart.{IsIn, each_in, in_front, in_back, in_either, IsApart, Apart, apart_sym, apart_back, apart_from}
use Rattle.b67_fitting.proofs.Frames.{named_of, named_long, variable_cells, control_cells, made_cells, decl_cells, result_cell}
use Rattle.b67_fitting.proofs.Homed.{IsHome}
use Rattle.b67_fitting.proofs.Known.{given_cells, given_places, variable_spots, headings}
use Rattle.b67_fitting.proofs.Lists.{each_of}

-- ---- places

-- those of a procedure after its name
abbrev behind_procedure : Heading → PStmt → List Spot
behind_procedure h s = spots_of_names h.params ++ spots_of_names h.values ++ spots_of_names (specified h) ++ spots_of_stmt s

pub variable_among : (ds : PDecls) (s : Spot) → IsIn s (variable_spots ds) → IsIn s (spots_of_decls ds)
variable_among tree.no_decls s i = absurd i
variable_among (tree.decls (tree.simple kind ns) ds) s i = by (in_either s (spots_of_names ns) (variable_spots ds) i) (variable_among ds s)
  where
    by : IsIn s (spots_of_names ns) ⊎ IsIn s (variable_spots ds) → (IsIn s (variable_spots ds) → IsIn s (spots_of_decls ds)) → IsIn s (spots_of_names ns ++ spots_of_decls ds)
    by (inl j) later = in_front s (spots_of_names ns) (spots_of_decls ds) j
    by (inr j) later = in_back s (spots_of_names ns) (spots_of_decls ds) (later j)
variable_among (tree.decls d ds) s i = in_back s (spots_of_decl d) (spots_of_decls ds) (variable_among ds s i)

heading_among : (ds : PDecls) (h : Heading) → IsIn h (headings ds) → IsIn h.name.spot (spots_of_decls ds)
heading_among tree.no_decls h i = absurd i
heading_among (tree.decls (tree.procedure g s) ds) h (inl e) = inl (ap (λ (z : Heading). z.name.spot) e)
heading_among (tree.decls (tree.procedure g s) ds) h (inr i) = in_back h.name.spot (spots_of_decl (tree.procedure g s)) (spots_of_decls ds) (heading_among ds h i)
heading_among (tree.decls d ds) h i = in_back h.name.spot (spots_of_decl d) (spots_of_decls ds) (heading_among ds h i)

heading_named : (ds : PDecls) (h : Heading) → IsIn h (headings ds) → IsIn h.name.spot (spots_of_names (procedures ds))
heading_named tree.no_decls h i = absurd i
heading_named (tree.decls (tree.procedure g s) ds) h (inl e) = inl (ap (λ (z : Heading). z.name.spot) e)
heading_named (tree.decls (tree.procedure g s) ds) h (inr i) = inr (heading_named ds h i)
heading_named (tree.decls d ds) h i = heading_named ds h i

pub cells_apart : (block : ℕ) (ns : List Named) (spot : Spot) → AllByRecursion (λ s. IsApart s spot) (spots_of_names ns) → AllByRecursion (λ (c : Cell). IsApart c.spot spot) (cells_for block cells.variable ns)
cells_apart block [] spot h = tt
cells_apart block (n ∷ ns) spot h = (h.0, cells_apart block ns spot h.1)

-- what is apart from all places of the declarations is apart from their variables
pub variables_far : (block : ℕ) (ds : PDecls) (spot : Spot) → AllByRecursion (λ s. IsApart s spot) (spots_of_decls ds) → AllByRecursion (λ (c : Cell). IsApart c.spot spot) (variable_cells block ds)
variables_far block tree.no_decls spot h = tt
variables_far block (tree.decls (tree.simple kind ns) ds) spot h =
    each_both (λ (c : Cell). IsApart c.spot spot) (cells_for block cells.variable ns) (variable_cells block ds)
    (cells_apart block ns spot (each_front (λ s. IsApart s spot) (spots_of_names ns) (spots_of_decls ds) h))
    (variables_far block ds spot (each_back (λ s. IsApart s spot) (spots_of_names ns) (spots_of_decls ds) h))
variables_far block (tree.decls d ds) spot h = variables_far block ds spot (each_back (λ s. IsApart s spot) (spots_of_decl d) (spots_of_decls ds) h)

-- .. and from their procedures
pub controls_far : (block : ℕ) (ds : PDecls) (spot : Spot) → AllByRecursion (λ s. IsApart s spot) (spots_of_decls ds) → AllByRecursion (λ (c : Cell). IsApart c.spot spot) (control_cells block ds)
controls_far block tree.no_decls spot h = tt
controls_far block (tree.decls (tree.procedure g s) ds) spot h = (h.0, controls_far block ds spot (each_back (λ z. IsApart z spot) (spots_of_decl (tree.procedure g s)) (spots_of_decls ds) h))
controls_far block (tree.decls d ds) spot h = controls_far block ds spot (each_back (λ s. IsApart s spot) (spots_of_decl d) (spots_of_decls ds) h)

-- .. and from their arrays, events and tasks
made_apart : (block : ℕ) (ns : List Named) (spot : Spot) → AllByRecursion (λ s. IsApart s spot) (spots_of_names ns) → AllByRecursion (λ (c : Cell). IsApart c.spot spot) (cells_for block cells.made ns)
made_apart block [] spot h = tt
made_apart block (n ∷ ns) spot h = (h.0, made_apart block ns spot h.1)

made_far : (block : ℕ) (ds : PDecls) (spot : Spot) → AllByRecursion (λ s. IsApart s spot) (spots_of_decls ds) → AllByRecursion (λ (c : Cell). IsApart c.spot spot) (made_cells block ds)
made_far block tree.no_decls spot h = tt
made_far block (tree.decls (tree.arrays kind ns pairs) ds) spot h =
    let own = spots_of_names ns ++ spots_of_pairs pairs in
    each_both (λ (c : Cell). IsApart c.spot spot) (cells_for block cells.made ns) (made_cells block ds)
    (made_apart block ns spot (each_front (λ s. IsApart s spot) (spots_of_names ns) (spots_of_pairs pairs) (each_front (λ s. IsApart s spot) own (spots_of_decls ds) h)))
    (made_far block ds spot (each_back (λ s. IsApart s spot) own (spots_of_decls ds) h))
made_far block (tree.decls (tree.events ns) ds) spot h =
    each_both (λ (c : Cell). IsApart c.spot spot) (cells_for block cells.made ns) (made_cells block ds)
    (made_apart block ns spot (each_front (λ s. IsApart s spot) (spots_of_names ns) (spots_of_decls ds) h))
    (made_far block ds spot (each_back (λ s. IsApart s spot) (spots_of_names ns) (spots_of_decls ds) h))
made_far block (tree.decls (tree.tasks ns) ds) spot h =
    each_both (λ (c : Cell). IsApart c.spot spot) (cells_for block cells.made ns) (made_cells block ds)
    (made_apart block ns spot (each_front (λ s. IsApart s spot) (spots_of_names ns) (spots_of_decls ds) h))
    (made_far block ds spot (each_back (λ s. IsApart s spot) (spots_of_names ns) (spots_of_decls ds) h))
made_far block (tree.decls d ds) spot h = made_far block ds spot (each_back (λ s. IsApart s spot) (spots_of_decl d) (spots_of_decls ds) h)

index_none : (cs : List Cell) (j : ℕ) (spot : Spot) → AllByRecursion (λ (c : Cell). IsApart c.spot spot) cs → index_from j cs spot ≡ None
index_none [] j spot h = refl
index_none (c ∷ cs) j spot h = ap (λ (b : Bool). if b then Some j else index_from (j + 1) cs spot) h.0 ∙ index_none cs (j + 1) spot h.1

-- variables are apart from procedures
variables_apart : (block : ℕ) (ds : PDecls) (h : Heading) → Apart (spots_of_decls ds) → IsIn h (headings ds) → AllByRecursion (λ (c : Cell). IsApart c.spot h.name.spot) (variable_cells block ds)
variables_apart block tree.no_decls h p i = tt
variables_apart block (tree.decls (tree.simple kind ns) ds) h p i =
    each_both (λ (c : Cell). IsApart c.spot h.name.spot) (cells_for block cells.variable ns) (variable_cells block ds)
    (cells_apart block ns h.name.spot (apart_from (spots_of_names ns) (spots_of_decls ds) h.name.spot p (heading_among ds h i)))
    (variables_apart block ds h (apart_back (spots_of_names ns) (spots_of_decls ds) p) i)
variables_apart block (tree.decls (tree.procedure g s) ds) h p (inl e) =
    let far = each_back (IsApart g.name.spot) (behind_procedure g s) (spots_of_decls ds) p.0 in
    variables_far block ds h.name.spot
    (each_of (IsApart g.name.spot) (λ z. IsApart z h.name.spot) (spots_of_decls ds)
    (λ z a. subst (λ (f : Heading). IsApart z f.name.spot) (sym e) (apart_sym g.name.spot z a)) far)
variables_apart block (tree.decls (tree.procedure g s) ds) h p (inr i) = variables_apart block ds h (apart_back (spots_of_decl (tree.procedure g s)) (spots_of_decls ds) p) i
variables_apart block (tree.decls d ds) h p i = variables_apart block ds h (apart_back (spots_of_decl d) (spots_of_decls ds) p) i

-- ---- the cell of a variable

cell_among : (block : ℕ) (ns : List Named) (s : Spot) → IsIn s (spots_of_names ns) → IsIn (record { block = block; spot = s; content = cells.variable }) (cells_for block cells.variable ns)
cell_among block [] s i = absurd i
cell_among block (n ∷ ns) s (inl e) = inl (ap (λ (z : Spot). record { block = block; spot = z; content = cells.variable }) e)
cell_among block (n ∷ ns) s (inr i) = inr (cell_among block ns s i)

pub variable_cell : (block : ℕ) (ds : PDecls) (s : Spot) → IsIn s (variable_spots ds) → IsIn (record { block = block; spot = s; content = cells.variable }) (decl_cells block ds)
variable_cell block tree.no_decls s i = absurd i
variable_cell block (tree.decls (tree.simple kind ns) ds) s i = by (in_either s (spots_of_names ns) (variable_spots ds) i) (variable_cell block ds s)
  where
    cell : Cell
    cell = record { block = block; spot = s; content = cells.variable }

    by : IsIn s (spots_of_names ns) ⊎ IsIn s (variable_spots ds) → (IsIn s (variable_spots ds) → IsIn cell (decl_cells block ds)) → IsIn cell (cells_for block cells.variable ns ++ decl_cells block ds)
    by (inl j) later = in_front cell (cells_for block cells.variable ns) (decl_cells block ds) (cell_among block ns s j)
    by (inr j) later = in_back cell (cells_for block cells.variable ns) (decl_cells block ds) (later j)
variable_cell block (tree.decls (tree.arrays kind ns pairs) ds) s i =
    in_back (record { block = block; spot = s; content = cells.variable }) (cells_for block cells.made ns) (decl_cells block ds) (variable_cell block ds s i)
variable_cell block (tree.decls (tree.events ns) ds) s i =
    in_back (record { block = block; spot = s; content = cells.variable }) (cells_for block cells.made ns) (decl_cells block ds) (variable_cell block ds s i)
variable_cell block (tree.decls (tree.tasks ns) ds) s i =
    in_back (record { block = block; spot = s; content = cells.variable }) (cells_for block cells.made ns) (decl_cells block ds) (variable_cell block ds s i)
variable_cell block (tree.decls (tree.procedure h body) ds) s i = inr (variable_cell block ds s i)
variable_cell block (tree.decls d ds) s i = variable_cell block ds s i

pub in_filter : {X : Type 0} (test : X → Bool) (x : X) (xs : List X) → IsIn x (filter test xs) → IsIn x xs
in_filter test x [] i = i
in_filter test x (y ∷ ys) i = by (test y) (in_filter test x ys) i
  where
    by : (b : Bool) → (IsIn x (filter test ys) → IsIn x ys) → IsIn x (cond b (y ∷ filter test ys) (filter test ys)) → IsIn x (y ∷ ys)
    by true later (inl e) = inl e
    by true later (inr j) = inr (later j)
    by false later j = inr (later j)

-- ---- frames

pub parameters_apart : (block : ℕ) (ns : List Named) (spot : Spot) → AllByRecursion (λ s. IsApart s spot) (spots_of_names ns) → AllByRecursion (λ (c : Cell). IsApart c.spot spot) (cells_for block cells.parameter ns)
parameters_apart block [] spot h = tt
parameters_apart block (n ∷ ns) spot h = (h.0, parameters_apart block ns spot h.1)

found_on : (xs ys : List Simple) (i : ℕ) (name : List ℕ) (f : Found) → found_from i xs name ≡ Some f → found_from i (xs ++ ys) name ≡ Some f
found_on [] ys i name f h = absurd (let clash : None ≡ Some f = h in cc)
found_on (x ∷ xs) ys i name f h = by (same_name x.name name) (found_on xs ys (i + 1) name f) h
  where
    by : (b : Bool) → (found_from (i + 1) xs name ≡ Some f → found_from (i + 1) (xs ++ ys) name ≡ Some f) →
        (if b then Some (record { number = i; cell = x }) else found_from (i + 1) xs name) ≡ Some f → (if b then Some (record { number = i; cell = x }) else found_from (i + 1) (xs ++ ys) name) ≡ Some f
    by true later g = g
    by false later g = later g

-- past cells of other names
found_past : (xs ys : List Simple) (i : ℕ) (name : List ℕ) → AllByRecursion (λ (x : Simple). same_name x.name name ≡ false) xs → found_from i (xs ++ ys) name ≡ found_from (i + length xs) ys name
found_past [] ys i name h = ap (λ (n : ℕ). found_from n ys name) (let same : i ≡ i + 0 = omega arith in same)
found_past (x ∷ xs) ys i name h =
    ap (λ (b : Bool). if b then Some (record { number = i; cell = x }) else found_from (i + 1) (xs ++ ys) name) h.0 ∙ found_past xs ys (i + 1) name h.1
    ∙ ap (λ (n : ℕ). found_from n ys name) (let next : i + 1 + length xs ≡ i + length (x ∷ xs) = omega arith in next)

aligned_front : (xs ys : List Simple) (cs ds : List Cell) (name : List ℕ) (spot : Spot) (wanted : Wanted) → Aligned xs cs name spot wanted → Aligned (xs ++ ys) (cs ++ ds) name spot wanted
aligned_front xs ys cs ds name spot wanted l =
    λ i j e.
    let r = l i j e in
    record {
      number = r.number;
      cell = r.cell;
      found = found_on xs ys i name (record { number = r.number; cell = r.cell }) r.found;
      wanted_is = r.wanted_is;
      index = index_on cs ds j spot (2 + r.number) r.index;
    }

-- `acts`: the cells of its actuals
module _ (blocks : List Block) (b : Block) (home : IsHome blocks b) (acts : List Cell) where
  abbrev pub block : ℕ
  block = number_at blocks b.spot

  -- what lies after the variables
  abbrev others : List Cell
  others = control_cells block b.decls ++ (acts ++ made_cells block b.decls)

  abbrev behind : List Cell
  behind = result_cell b.result block b.spot ++ (variable_cells block b.decls ++ others)

  abbrev pub frame : List Cell
  frame = given_places blocks b ++ behind

  abbrev pub simples : List Simple
  simples = given_cells blocks b ++ (result_cells_of b.result b.name ++ variables b.decls)

  pub simple_is : (uses : List Use) → simple_cells (record { blocks = blocks; uses = uses }) b ≡ simples
  simple_is uses = append_assoc (given_cells blocks b) (result_cells_of b.result b.name) (variables b.decls)

  pub decls_apart : Apart (spots_of_decls b.decls)
  decls_apart = apart_back (spots_of_names (named_of blocks b)) (spots_of_decls b.decls) home.apart.1

  pub own_apart : (spot : Spot) → IsIn spot (spots_of_decls b.decls) → IsApart b.spot spot
  own_apart spot i = each_in (IsApart b.spot) spot (spots_of_names (named_of blocks b) ++ spots_of_decls b.decls) home.apart.0 (in_back spot (spots_of_names (named_of blocks b)) (spots_of_decls b.decls) i)

  -- a variable has one number among all, and so has a parameter
  pub framed : (name : List ℕ) (spot : Spot) (wanted : Wanted) → IsIn spot (variable_spots b.decls) → name_is_one_of (result_names_of b) name ≡ false →
      AreOthers name spot (given_cells blocks b) (given_places blocks b) → Aligned (variables b.decls) (variable_cells block b.decls) name spot wanted → Aligned simples frame name spot wanted
  framed name spot wanted i o past l =
      aligned_over (given_cells blocks b) (result_cells_of b.result b.name ++ variables b.decls) (given_places blocks b) behind name spot wanted past
      (aligned_result b.result b.name block b.spot (variables b.decls) (variable_cells block b.decls ++ others) name spot wanted o
      (own_apart spot (variable_among b.decls spot i))
      (aligned_on (variables b.decls) (variable_cells block b.decls) others name spot wanted l))

  pub framed_parameter : (name : List ℕ) (spot : Spot) (wanted : Wanted) → Aligned (given_cells blocks b) (given_places blocks b) name spot wanted → Aligned simples frame name spot wanted
  framed_parameter name spot wanted l = aligned_front (given_cells blocks b) (result_cells_of b.result b.name ++ variables b.decls) (given_places blocks b) behind name spot wanted l

  pub result_apart : (o : Option Kind) (spot : Spot) → IsApart b.spot spot → AllByRecursion (λ (c : Cell). IsApart c.spot spot) (result_cell o block b.spot)
  result_apart None spot h = tt
  result_apart (Some kind) spot h = (h, tt)

  of_long : (kind : Kind) (ns : List Named) (xs : List Simple) (cs : List Cell) → length cs ≡ length xs → length (cells_for block cells.variable ns ++ cs) ≡ length (of_kind kind ns ++ xs)
  of_long kind [] xs cs h = h
  of_long kind (n ∷ ns) xs cs h = omega (arith, of_long kind ns xs cs h)

  variables_long : (ds : PDecls) → length (variable_cells block ds) ≡ length (variables ds)
  variables_long tree.no_decls = refl
  variables_long (tree.decls (tree.simple kind ns) ds) = of_long kind ns (variables ds) (variable_cells block ds) (variables_long ds)
  variables_long (tree.decls d ds) = variables_long ds

  as_long : (o : Option Kind) (ds : PDecls) → length (result_cell o block b.spot ++ variable_cells block ds) ≡ length (result_cells_of o b.name ++ variables ds)
  as_long None ds = variables_long ds
  as_long (Some kind) ds = omega (arith, variables_long ds)

  given_long : length (given_places blocks b) ≡ length (given_cells blocks b)
  given_long = length-map {B = Cell} (named_of blocks b) (λ (n : Named). record { block = block; spot = n.spot; content = cells.parameter }) ∙ named_long blocks b

  pub all_long : length (given_places blocks b ++ (result_cell b.result block b.spot ++ variable_cells block b.decls)) ≡ length simples
  all_long =
      omega (
        arith,
        length-append (given_places blocks b) (result_cell b.result block b.spot ++ variable_cells block b.decls),
        length-append (given_cells blocks b) (result_cells_of b.result b.name ++ variables b.decls),
        given_long,
        as_long b.result b.decls,
      )

  -- a procedure lies after the simple cells
  pub controlled : (h : Heading) → IsIn h (headings b.decls) → (r : IsControl block b.decls h.name.spot) × (index_from 2 frame h.name.spot ≡ Some (2 + length simples + r.number))
  controlled h i =
      let r = control block b.decls h.name.spot (heading_named b.decls h i) in
      let result = result_cell b.result block b.spot in
      let vars = variable_cells block b.decls in
      let controls = control_cells block b.decls in
      let front = given_places blocks b ++ (result ++ vars) in
      let far =
      each_both (λ (c : Cell). IsApart c.spot h.name.spot) (given_places blocks b) (result ++ vars)
      (parameters_apart block (named_of blocks b) h.name.spot (apart_from (spots_of_names (named_of blocks b)) (spots_of_decls b.decls) h.name.spot home.apart.1 (heading_among b.decls h i)))
      (each_both (λ (c : Cell). IsApart c.spot h.name.spot) result vars
      (result_apart b.result h.name.spot (own_apart h.name.spot (heading_among b.decls h i)))
      (variables_apart block b.decls h decls_apart i)) in (
        r,
        ap (λ (cs : List Cell). index_from 2 cs h.name.spot)
            (ap (λ z. given_places blocks b ++ z) (sym (append_assoc result vars others)) ∙ sym (append_assoc (given_places blocks b) (result ++ vars) others))
            ∙ index_past front others 2 h.name.spot far
            ∙ index_on controls (acts ++ made_cells block b.decls) (2 + length front) h.name.spot (2 + length front + r.number) (r.index (2 + length front))
            ∙ ap (λ (n : ℕ). Some (2 + n + r.number)) all_long,
      )

  own_far : AllByRecursion (λ s. IsApart s b.spot) (spots_of_names (named_of blocks b) ++ spots_of_decls b.decls)
  own_far = each_of (IsApart b.spot) (λ s. IsApart s b.spot) (spots_of_names (named_of blocks b) ++ spots_of_decls b.decls) (λ s a. apart_sym b.spot s a) home.apart.0

  given_far : AllByRecursion (λ (c : Cell). IsApart c.spot b.spot) (given_places blocks b)
  given_far = parameters_apart block (named_of blocks b) b.spot (each_front (λ s. IsApart s b.spot) (spots_of_names (named_of blocks b)) (spots_of_decls b.decls) own_far)

  -- without a result no cell stands at the block's own place, where no actual does
  pub without : AllByRecursion (λ (c : Cell). IsApart c.spot b.spot) acts → b.result ≡ None → index_from 2 frame b.spot ≡ None
  without own e =
      let far = each_back (λ s. IsApart s b.spot) (spots_of_names (named_of blocks b)) (spots_of_decls b.decls) own_far in
      let vars = variable_cells block b.decls in
      ap (λ (o : Option Kind). index_from 2 (given_places blocks b ++ (result_cell o block b.spot ++ (vars ++ others))) b.spot) e
      ∙ index_none (given_places blocks b ++ (vars ++ others)) 2 b.spot
      (each_both (λ (c : Cell). IsApart c.spot b.spot) (given_places blocks b) (vars ++ others) given_far
      (each_both (λ (c : Cell). IsApart c.spot b.spot) vars others (variables_far block b.decls b.spot far)
      (each_both (λ (c : Cell). IsApart c.spot b.spot) (control_cells block b.decls) (acts ++ made_cells block b.decls) (controls_far block b.decls b.spot far)
      (each_both (λ (c : Cell). IsApart c.spot b.spot) acts (made_cells block b.decls) own (made_far block b.decls b.spot far)))))

  -- the result lies after the parameters
  pub result_index : (kind : Kind) → b.result ≡ Some kind → index_from 2 frame b.spot ≡ Some (2 + length (given_cells blocks b))
  result_index kind e =
      let more = variable_cells block b.decls ++ others in
      let place = 2 + length (given_places blocks b) in
      ap (λ (o : Option Kind). index_from 2 (given_places blocks b ++ (result_cell o block b.spot ++ more)) b.spot) e
      ∙ index_past (given_places blocks b) (result_cell (Some kind) block b.spot ++ more) 2 b.spot given_far
      ∙ ap (λ (t : Bool). if t then Some place else index_from (place + 1) more b.spot) (same_spot_itself b.spot)
      ∙ ap (λ (n : ℕ). Some (2 + n)) given_long

  pub result_found : (kind : Kind) (name : List ℕ) → b.result ≡ Some kind → same_name b.name name ≡ true → AllByRecursion (λ (x : Simple). same_name x.name name ≡ false) (given_cells blocks b) →
      found_from 0 simples name ≡ Some (record { number = length (given_cells blocks b); cell = record { name = b.name; wanted = value kind } })
  result_found kind name e s o =
      let place = length (given_cells blocks b) in
      found_past (given_cells blocks b) (result_cells_of b.result b.name ++ variables b.decls) 0 name o
      ∙ ap (λ (n : ℕ). found_from n (result_cells_of b.result b.name ++ variables b.decls) name) (let same : 0 + place ≡ place = omega arith in same)
      ∙ ap (λ (r : Option Kind). found_from place (result_cells_of r b.name ++ variables b.decls) name) e
      ∙ ap (λ (t : Bool). if t then Some (record { number = place; cell = record { name = b.name; wanted = value kind } }) else found_from (place + 1) (variables b.decls) name) s
