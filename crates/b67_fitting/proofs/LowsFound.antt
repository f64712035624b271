-- The lower bounds of an array and of a parameter that stands for one are found by the place of its name: no two of them stand at one
-- place. Where a variable, another parameter or a procedure is declared none are found.
use Rattle.std.proofs.Common.{◌≡◌, ◌⊎◌, inl, inr, ℕ, ◌==◌, Bool, true, false, List, [], ◌∷◌, filter, Option, Some, None, refl, sym, ap, ◌∙◌, subst, if◌then◌else◌}
use Rattle.std.specs.List.{flat_map}
use Rattle.algol_tree.specs.declared.token.Spot.{Spot}
use Rattle.algol_tree.specs.declared.tree.Heading.{Heading}
use Rattle.algol_tree.specs.declared.tree.Kind.{Kind}
use Rattle.algol_tree.specs.declared.tree.Named.{Named}
use Rattle.algol_tree.specs.declared.tree.Spec.{Spec}
use Rattle.algol_tree.specs.Ascending.{spots_of_names}
use Rattle.algol_tree.specs.Blocks.{Block, same_spot, block_numbered, number_at, procedure_block}
use Rattle.algol_tree.specs.Cells as cells
use Rattle.algol_tree.specs.Cells.{Cell, Content, cells_for, cells_at}
use Rattle.algol_tree.specs.Plain as tree
use Rattle.algol_tree.specs.Plain.{PDecls}
use Rattle.algol_tree.specs.Sites.{Site}
use Rattle.algol_tree.specs.Sorts.{Declared}
use Rattle.algol_tree.proofs.Spots.{same_spot_is, same_spot_itself}
use Rattle.algol_paths.specs.Arrays.{Lows, shape_in, stands_among, lows_in_shape, or_lows, lows_among, lows_declared, lows_at}
use Rattle.b67_templates.specs.Cells.{value}
use Rattle.b67_fitting.proofs.Apart.{IsIn, each_in, in_map, in_front, in_back, IsApart}
use Rattle.b67_fitting.proofs.Arrayed.{array_spots, made_spots, array_made, own_lows}
use Rattle.b67_fitting.proofs.Blocked.{block_spots, numbered}
use Rattle.b67_fitting.proofs.Coupled.{given_cell, IsProgram, one_of, acts_of, act_there}
use Rattle.b67_fitting.proofs.Frames.{named_of, result_cell, front_cells, decl_cells, cells_of_block}
use Rattle.b67_fitting.proofs.Framing.{variable_cell, in_filter}
use Rattle.b67_fitting.proofs.FramingArrays.{made_cell}
use Rattle.b67_fitting.proofs.Known.{variable_spots, headings, IsVariableOf, IsParameterOf, IsHeld, IsName, IsOwned}
use Rattle.b67_fitting.proofs.Listed.{has_own_place}
use Rattle.b67_fitting.proofs.Made.{one_there, in_kept}
use Rattle.b67_fitting.proofs.Started.{IsCalleeOf}

-- ---- where lower bounds are declared

stands_at : (ns : List Named) (s : Spot) → stands_among ns s ≡ true → IsIn s (spots_of_names ns)
stands_at [] s h = absurd (let clash : false ≡ true = h in cc)
stands_at (n ∷ ns) s h = by (same_spot n.spot s) refl (stands_at ns s) h
  where
    by : (b : Bool) → same_spot n.spot s ≡ b → (stands_among ns s ≡ true → IsIn s (spots_of_names ns)) → (if b then true else stands_among ns s) ≡ true → IsIn s (n.spot ∷ spots_of_names ns)
    by true e later g = inl (sym (same_spot_is n.spot s e))
    by false e later g = inr (later g)

lows_at_name : (specs : List Spec) (ns : List Named) (s : Spot) (found : Lows) → lows_among specs ns s ≡ Some found → IsIn s (spots_of_names ns)
lows_at_name specs [] s found h = absurd (let clash : None ≡ Some found = h in cc)
lows_at_name specs (n ∷ ns) s found h = by (same_spot n.spot s) refl (lows_at_name specs ns s found) h
  where
    by : (b : Bool) → same_spot n.spot s ≡ b → (lows_among specs ns s ≡ Some found → IsIn s (spots_of_names ns)) → (if b then lows_in_shape (shape_in specs n.name) else lows_among specs ns s) ≡ Some found →
        IsIn s (n.spot ∷ spots_of_names ns)
    by true e later g = inl (sym (same_spot_is n.spot s e))
    by false e later g = inr (later g)

-- an array of these declarations stands there, or a parameter of a procedure
abbrev HasArrayAt : PDecls → Spot → Type 0
HasArrayAt ds s = IsIn s (array_spots ds) ⊎ ((h : Heading) × IsIn h (headings ds) × IsIn s (spots_of_names h.params))

lows_where : (ds : PDecls) (s : Spot) (found : Lows) → lows_declared ds s ≡ Some found → HasArrayAt ds s
lows_where tree.no_decls s found h = absurd (let clash : None ≡ Some found = h in cc)
lows_where (tree.decls (tree.arrays kind ns pairs) ds) s found h = by (stands_among ns s) refl (lows_where ds s found) h
  where
    more : HasArrayAt ds s → HasArrayAt (tree.decls (tree.arrays kind ns pairs) ds) s
    more (inl i) = inl (in_back s (spots_of_names ns) (array_spots ds) i)
    more (inr r) = inr r

    by : (b : Bool) → stands_among ns s ≡ b → (lows_declared ds s ≡ Some found → HasArrayAt ds s) → (if b then own_lows pairs else lows_declared ds s) ≡ Some found →
        HasArrayAt (tree.decls (tree.arrays kind ns pairs) ds) s
    by true e later g = inl (in_front s (spots_of_names ns) (array_spots ds) (stands_at ns s e))
    by false e later g = more (later g)
lows_where (tree.decls (tree.procedure h body) ds) s found e = by (lows_among h.specs h.params s) refl (lows_where ds s found) e
  where
    more : HasArrayAt ds s → HasArrayAt (tree.decls (tree.procedure h body) ds) s
    more (inl i) = inl i
    more (inr r) = inr (r.0, inr r.1, r.2)

    by : (o : Option Lows) → lows_among h.specs h.params s ≡ o → (lows_declared ds s ≡ Some found → HasArrayAt ds s) → or_lows o (lows_declared ds s) ≡ Some found →
        HasArrayAt (tree.decls (tree.procedure h body) ds) s
    by None g later f = more (later f)
    by (Some its) g later f = inr (h, inl refl, lows_at_name h.specs h.params s its g)
lows_where (tree.decls d ds) s found h = lows_where ds s found h

-- ---- all blocks

module _ (blocks : List Block) (all : List Site) (is : IsProgram blocks all) where
  abbrev pub placed : List Cell
  placed = filter (λ (c : Cell). has_own_place c.content) (flat_map (cells_at blocks) all)

  -- a cell of a block is one of the program's
  cell_there : (b : Block) → IsIn b blocks → (c : Cell) → IsIn c (cells_of_block (number_at blocks b.spot) (named_of blocks b) b) → has_own_place c.content ≡ true → IsIn c placed
  cell_there b t c i e =
      let k = number_at blocks b.spot in
      in_kept (λ (z : Cell). has_own_place z.content) c (flat_map (cells_at blocks) all) (in_filter (λ (z : Cell). z.block == k) c (flat_map (cells_at blocks) all) (one_of blocks all is b t c i)) e

  -- that of an actual
  pub act_placed : (b : Block) (c : Cell) → IsIn c (acts_of blocks all is b) → IsIn c placed
  act_placed b c i =
      let at = act_there blocks all is b c i in
      in_kept (λ (z : Cell). has_own_place z.content) c (flat_map (cells_at blocks) all) at.0 (ap has_own_place at.1)

  -- so another cell stands elsewhere
  pub act_elsewhere : (b : Block) (c : Cell) → IsIn c (acts_of blocks all is b) → (d : Cell) → IsIn d placed → (d.content ≡ cells.actual → ⊥) → IsApart d.spot c.spot
  act_elsewhere b c i d j other = by (same_spot d.spot c.spot) refl
    where
      by : (t : Bool) → same_spot d.spot c.spot ≡ t → t ≡ false
      by false e = refl
      by true e =
          let one : d ≡ c = one_there (λ (z : Cell). z.spot) placed d c is.places_apart j (act_placed b c i) (same_spot_is d.spot c.spot e) in
          absurd (other (ap (λ (z : Cell). z.content) one ∙ (act_there blocks all is b c i).1))

  -- the actuals of a block are apart from its variables, its parameters and what it makes
  pub acts_past : (b : Block) → IsIn b blocks → (c : Cell) → IsIn c (acts_of blocks all is b) → (d : Cell) → IsIn d (cells_of_block (number_at blocks b.spot) (named_of blocks b) b) → has_own_place d.content ≡ true →
      (d.content ≡ cells.actual → ⊥) → IsApart d.spot c.spot
  acts_past b t c i d j e other = act_elsewhere b c i d (cell_there b t d j e) other

  -- that of the array, the event or the task that is declared there
  pub made_there : (b : Block) → IsIn b blocks → (s : Spot) → IsIn s (made_spots b.decls) → IsIn (record { block = number_at blocks b.spot; spot = s; content = cells.made }) placed
  made_there b t s i =
      let k = number_at blocks b.spot in
      let c : Cell = record { block = k; spot = s; content = cells.made } in
      cell_there b t c (in_back c (front_cells k (named_of blocks b) b) (decl_cells k b.decls) (made_cell k b.decls s i)) refl

  array_there : (b : Block) → IsIn b blocks → (s : Spot) → IsIn s (array_spots b.decls) → IsIn (record { block = number_at blocks b.spot; spot = s; content = cells.made }) placed
  array_there b t s i = made_there b t s (array_made b.decls s i)

  -- that of the parameter that stands there
  parameter_there : (b : Block) (h : Heading) → IsCalleeOf blocks b h → (s : Spot) → IsIn s (spots_of_names h.params) →
      IsIn (record { block = number_at blocks h.name.spot; spot = s; content = cells.parameter }) placed
  parameter_there b h q s i =
      let p = procedure_block h q.body (b.spot ∷ b.outer) in
      let k = number_at blocks h.name.spot in
      let c : Cell = record { block = k; spot = s; content = cells.parameter } in
      let own : IsIn c (cells_for k cells.parameter (named_of blocks p)) = given_cell k (named_of blocks p) s (subst (λ (ns : List Named). IsIn s (spots_of_names ns)) (sym q.named_are) i) in
      cell_there p q.body_there c (in_front c (front_cells k (named_of blocks p) p) (decl_cells k p.decls) (in_back c (result_cell p.result k p.spot) (cells_for k cells.parameter (named_of blocks p)) own)) refl

  one_cell : (s : Spot) (k m : ℕ) (x y : Content) → IsIn (record { block = k; spot = s; content = x }) placed → IsIn (record { block = m; spot = s; content = y }) placed →
      (k ≡ m) × (x ≡ y)
  one_cell s k m x y i j =
      let mine : Cell = record { block = k; spot = s; content = x } in
      let its : Cell = record { block = m; spot = s; content = y } in
      let one : mine ≡ its = one_there (λ (z : Cell). z.spot) placed mine its is.places_apart i j refl in
      (ap (λ (z : Cell). z.block) one, ap (λ (z : Cell). z.content) one)

  same_number : (b c : Block) → IsIn b blocks → IsIn c blocks → number_at blocks b.spot ≡ number_at blocks c.spot → b ≡ c
  same_number b c t u e = sym (numbered blocks b is.blocks_apart t) ∙ ap (block_numbered blocks) e ∙ numbered blocks c is.blocks_apart u

  -- no two blocks have an array or a parameter at one place
  same_block : (b c : Block) → IsIn b blocks → IsIn c blocks → (s : Spot) → HasArrayAt b.decls s → HasArrayAt c.decls s → b ≡ c
  same_block b c t u s (inl i) (inl j) =
      same_number b c t u (one_cell s (number_at blocks b.spot) (number_at blocks c.spot) cells.made cells.made (array_there b t s i) (array_there c u s j)).0
  same_block b c t u s (inl i) (inr g) =
      let q = (is.homes c u).callees g.0 g.1 in
      let clash : cells.made ≡ cells.parameter =
      (one_cell s (number_at blocks b.spot) (number_at blocks g.0.name.spot) cells.made cells.parameter (array_there b t s i) (parameter_there c g.0 q s g.2)).1 in
      absurd cc
  same_block b c t u s (inr h) (inl j) =
      let q = (is.homes b t).callees h.0 h.1 in
      let clash : cells.parameter ≡ cells.made =
      (one_cell s (number_at blocks h.0.name.spot) (number_at blocks c.spot) cells.parameter cells.made (parameter_there b h.0 q s h.2) (array_there c u s j)).1 in
      absurd cc
  same_block b c t u s (inr h) (inr g) =
      let p = (is.homes b t).callees h.0 h.1 in
      let q = (is.homes c u).callees g.0 g.1 in
      let number : number_at blocks h.0.name.spot ≡ number_at blocks g.0.name.spot =
      (one_cell s (number_at blocks h.0.name.spot) (number_at blocks g.0.name.spot) cells.parameter cells.parameter (parameter_there b h.0 p s h.2) (parameter_there c g.0 q s g.2)).0 in
      let procedures : procedure_block h.0 p.body (b.spot ∷ b.outer) ≡ procedure_block g.0 q.body (c.spot ∷ c.outer) =
      same_number (procedure_block h.0 p.body (b.spot ∷ b.outer)) (procedure_block g.0 q.body (c.spot ∷ c.outer)) p.body_there q.body_there number in
      let outer : b.spot ∷ b.outer ≡ c.spot ∷ c.outer = ap (λ (z : Block). z.outer) procedures in
      let spot : b.spot ≡ c.spot = cc in
      same_number b c t u (ap (number_at blocks) spot)

  -- so the lower bounds that a block declares there are those that are found there
  pub lows_found : (cs : List Block) → ((c : Block) → IsIn c cs → IsIn c blocks) → (b : Block) → IsIn b cs → (s : Spot) (found : Lows) → lows_declared b.decls s ≡ Some found →
      lows_at cs s ≡ Some found
  lows_found [] f b i s found e = absurd i
  lows_found (c ∷ cs) f b i s found e = by (lows_declared c.decls s) refl i (λ j. lows_found cs (λ d m. f d (inr m)) b j s found e)
    where
      by : (o : Option Lows) → lows_declared c.decls s ≡ o → IsIn b (c ∷ cs) → (IsIn b cs → lows_at cs s ≡ Some found) → or_lows o (lows_at cs s) ≡ Some found
      by (Some other) g j later =
          let same : b ≡ c = same_block b c (f b i) (f c (inl refl)) s (lows_where b.decls s found e) (lows_where c.decls s other g) in
          sym g ∙ ap (λ (z : Block). lows_declared z.decls s) (sym same) ∙ e
      by None g (inl same) later =
          let clash : None ≡ Some found = sym g ∙ ap (λ (z : Block). lows_declared z.decls s) (sym same) ∙ e in
          absurd cc
      by None g (inr j) later = later j

  -- ---- where none are found

  lows_none : (cs : List Block) (s : Spot) → ((c : Block) → IsIn c cs → (found : Lows) → lows_declared c.decls s ≡ Some found → ⊥) → lows_at cs s ≡ None
  lows_none [] s f = refl
  lows_none (c ∷ cs) s f = by (lows_declared c.decls s) refl (lows_none cs s (λ d i. f d (inr i)))
    where
      by : (o : Option Lows) → lows_declared c.decls s ≡ o → lows_at cs s ≡ None → or_lows o (lows_at cs s) ≡ None
      by None e later = later
      by (Some found) e later = absurd (f c (inl refl) found e)

  -- the cell of an array or of a parameter stands there
  record HasCellAt (s : Spot) : Type 0 where
    pub number : ℕ
    pub content : Content
    pub there : IsIn (record { block = number; spot = s; content = content }) placed
    pub of_array : (content ≡ cells.made) ⊎ (content ≡ cells.parameter)

  array_cell_at : (c : Block) → IsIn c blocks → (s : Spot) → HasArrayAt c.decls s → HasCellAt s
  array_cell_at c t s (inl i) = record { number = number_at blocks c.spot; content = cells.made; there = array_there c t s i; of_array = inl refl }
  array_cell_at c t s (inr h) =
      record {
        number = number_at blocks h.0.name.spot;
        content = cells.parameter;
        there = parameter_there c h.0 ((is.homes c t).callees h.0 h.1) s h.2;
        of_array = inr refl;
      }

  -- at the place of a variable
  variable_none : (b : Block) → IsIn b blocks → (s : Spot) → IsIn s (variable_spots b.decls) → lows_at blocks s ≡ None
  variable_none b t s i = lows_none blocks s (λ c j found e. never (array_cell_at c j s (lows_where c.decls s found e)))
    where
      k : ℕ
      k = number_at blocks b.spot

      own : IsIn (record { block = k; spot = s; content = cells.variable }) placed
      own =
          let c : Cell = record { block = k; spot = s; content = cells.variable } in
          cell_there b t c (in_back c (front_cells k (named_of blocks b) b) (decl_cells k b.decls) (variable_cell k b.decls s i)) refl

      clashes : (x : Content) → cells.variable ≡ x → (x ≡ cells.made) ⊎ (x ≡ cells.parameter) → ⊥
      clashes x e (inl f) = (let clash : cells.variable ≡ cells.made = e ∙ f in cc)
      clashes x e (inr f) = (let clash : cells.variable ≡ cells.parameter = e ∙ f in cc)

      never : HasCellAt s → ⊥
      never r = clashes r.content (one_cell s k r.number cells.variable r.content own r.there).1 r.of_array

  -- at that of a parameter for which none are declared
  parameter_none : (b : Block) → IsIn b blocks → (h : Heading) → IsIn h (headings b.decls) → (s : Spot) → IsIn s (spots_of_names h.params) → lows_declared b.decls s ≡ None →
      lows_at blocks s ≡ None
  parameter_none b t h m s i none =
      lows_none blocks s
      (λ c j found e.
      let same : b ≡ c = same_block b c t j s (inr (h, m, i)) (lows_where c.decls s found e) in
      let clash : None ≡ Some found = sym none ∙ ap (λ (z : Block). lows_declared z.decls s) same ∙ e in
      cc)

  -- at that of a block
  block_none : (b : Block) → IsIn b blocks → lows_at blocks b.spot ≡ None
  block_none b t = lows_none blocks b.spot (λ c j found e. never (array_cell_at c j b.spot (lows_where c.decls b.spot found e)))
    where
      values : (x : Content) → (x ≡ cells.made) ⊎ (x ≡ cells.parameter) → (x ≡ cells.result → ⊥) × (x ≡ cells.procedure → ⊥)
      values x (inl f) = ((λ e. let clash : cells.made ≡ cells.result = sym f ∙ e in cc), (λ e. let clash : cells.made ≡ cells.procedure = sym f ∙ e in cc))
      values x (inr f) = ((λ e. let clash : cells.parameter ≡ cells.result = sym f ∙ e in cc), (λ e. let clash : cells.parameter ≡ cells.procedure = sym f ∙ e in cc))

      never : HasCellAt b.spot → ⊥
      never r =
          let c : Cell = record { block = r.number; spot = b.spot; content = r.content } in
          let there : IsIn c (flat_map (cells_at blocks) all) = in_filter (λ (z : Cell). has_own_place z.content) c (flat_map (cells_at blocks) all) r.there in
          let far : IsApart b.spot b.spot = each_in (IsApart b.spot) b.spot (block_spots blocks) (is.far c there (values r.content r.of_array)) (in_map (λ (z : Block). z.spot) b blocks t) in
          let clash : true ≡ false = sym (same_spot_itself b.spot) ∙ far in
          cc

  -- ---- names that are no array's

  pub held_none : (depth : ℕ) (name : List ℕ) (d : Declared) (k : Kind) → IsHeld blocks depth name d k → lows_at blocks d.spot ≡ None
  held_none depth name d k h = by h.place
    where
      by : IsVariableOf blocks h.in_block name d k ⊎ IsParameterOf blocks h.in_block name d (value k) → lows_at blocks d.spot ≡ None
      by (inl v) = variable_none h.in_block h.there d.spot v.among
      by (inr v) = parameter_none v.owner v.owner_there v.heading v.heading_there d.spot v.inside v.lows

  pub named_none : (depth : ℕ) (name : List ℕ) (d : Declared) (k : Kind) → IsName blocks depth name d k → lows_at blocks d.spot ≡ None
  named_none depth name d k h =
      let v = h.place in
      parameter_none v.owner v.owner_there v.heading v.heading_there d.spot v.inside v.lows

  pub owned_none : (depth : ℕ) (name : List ℕ) (d : Declared) (g : Heading) → IsOwned blocks depth name d g → lows_at blocks d.spot ≡ None
  owned_none depth name d g h =
      ap (lows_at blocks) h.spot_is ∙ block_none (procedure_block g h.body (h.in_block.spot ∷ h.in_block.outer)) h.body_there
