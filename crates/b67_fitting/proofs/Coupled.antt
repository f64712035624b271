-- Each name that is used as a variable or a procedure has its couple, and its cell has the number that the couple says.
use Rattle.std.proofs.Common.{arith, ◌≡◌, ◌⊎◌, inl, inr, ℕ, ◌+◌, ◌-◌, ◌<◌, ◌≤◌, ◌==◌, ◌||◌, ◌&&◌, not, Bool, true, false, cond, List, [], ◌∷◌, ◌++◌, map, filter, length, slice_get, Option, Some, None, refl, sym, ap, ◌∙◌, subst, is_some}
use Rattle.std.proofs.lemmas.Bool.{eqb-true}
use Rattle.std.proofs.lemmas.List.Elements.{filter-append}
use Rattle.std.specs.List.{flat_map, list_any, AllByRecursion}
use Rattle.algol_tree.specs.declared.token.Spot.{Spot}
use Rattle.algol_tree.specs.declared.tree.Heading.{Heading}
use Rattle.algol_tree.specs.declared.tree.Kind.{Kind}
use Rattle.algol_tree.specs.declared.tree.Named.{Named}
use Rattle.algol_tree.specs.Blocks.{Block, block_numbered, number_at, procedure_block}
use Rattle.algol_tree.specs.Cells as cells
use Rattle.algol_tree.specs.Cells.{Cell, Content, cells_for, cells_at, cells_of, content_number, holding, index_from, layout, level_of, couple_at, couple_in}
use Rattle.algol_tree.specs.Classes as class
use Rattle.algol_tree.specs.Classes.{Class, Formal, is_simple}
use Rattle.algol_tree.specs.Couples.{Known, Located, known_at, known_there, located, declaration_in, couple_of_cells, actual_cells}
use Rattle.algol_tree.specs.Names.{name_is_one_of, result_names_of}
use Rattle.algol_tree.specs.Scopes.{Scopes, Use, uses_at, declared_in, use_of}
use Rattle.algol_tree.specs.Sites.{Site}
use Rattle.algol_tree.specs.Sorts as sort
use Rattle.algol_tree.specs.Sorts.{same_name, Declared, is_variable, is_named_in, formals_of}
use Rattle.algol_tree.specs.Surroundings.{Surroundings}
use Rattle.algol_meaning.specs.Statements.{alone}
use Rattle.algol_paths.specs.Arrays.{lows_at}
use Rattle.b67_ops.specs.declared.Couple.{Couple}
use Rattle.b67_templates.specs.Cells.{Simple, Wanted, value, by_name, parameters_in, parameter_cells, simple_cells, variables, result_cells_of, procedures, found_from, IsVariable, IsFormalName, of_variable, of_formal, IsProcedure}
use Rattle.b67_templates.specs.Fitting as fitting
use Rattle.b67_templates.specs.Fitting.{Told, meant_is_event, a_variable, a_name, a_procedure, meant_is_name, wanted_by_name, couple_on_left, ReadFits, PlaceFits, resolved, NameActualFits, refers_to, passes_on}
use Rattle.b67_list.proofs.Lists.{each_both, each_map}
use Rattle.b67_fitting.specs.Fitted.{spelled, meant_as, target_of}
use Rattle.b67_fitting.specs.Typing.{HeadingSpecified, is_around}
use Rattle.b67_fitting.proofs.Aligned.{IsAt}
use Rattle.b67_fitting.proofs.Apart.{IsIn, each_in, in_each, in_map, in_front, in_back, in_flat, IsApart, Apart}
use Rattle.b67_fitting.proofs.Blocked.{block_spots, numbered, number_none, HasCells}
use Rattle.b67_fitting.proofs.Frames.{plain, named_of, front_cells, variable_cells, control_cells, made_cells, decl_cells, result_cell, cells_of_block, laid_out}
use Rattle.b67_fitting.proofs.Framing.{variable_cell, in_filter, simple_is, framed, framed_parameter, controlled, without, result_index, result_found}
use Rattle.b67_fitting.proofs.Given.{cell_of}
use Rattle.b67_fitting.proofs.Lists.{filter_every}
use Rattle.b67_fitting.proofs.Placed.{CalleeFits}
use Rattle.b67_fitting.proofs.ResultsApart.{result_other}
use Rattle.b67_fitting.proofs.Homed.{IsHome, IsValue}
use Rattle.b67_fitting.proofs.Known.{given_cells, given_places, IsVariableOf, IsParameterOf, IsHeld, IsName, IsOwned, AreAround, Stands}
use Rattle.b67_fitting.proofs.Looked.{use_found, known_found}
use Rattle.b67_fitting.proofs.Made.{places_in}
use Rattle.b67_fitting.proofs.Specified.{IsSpecified, as_value, as_name, as_array, as_event, AreSpecified, specified}
use Rattle.b67_fitting.proofs.Typed.{as_formal}
use Rattle.b67_fitting.proofs.Wanting.{wanted_of, wanted_value, wanted_name, wanted_array, wanted_event}

abbrev pub the_use : Surroundings → Named → Declared → Use
the_use a n d = record { spot = n.spot; block = d.block; up = a.depth - d.depth; sort = d.sort }

-- of the result of the procedure whose block has this number
abbrev pub result_use : Surroundings → Named → Declared → ℕ → Use
result_use a n d callee = record { spot = n.spot; block = callee; up = a.depth - d.depth - 1; sort = sort.variable }

-- the cell of a parameter
pub given_cell : (block : ℕ) (ns : List Named) (s : Spot) → IsIn s (map (λ (n : Named). n.spot) ns) → IsIn (record { block = block; spot = s; content = cells.parameter }) (cells_for block cells.parameter ns)
given_cell block [] s i = absurd i
given_cell block (n ∷ ns) s (inl e) = inl (ap (λ (z : Spot). record { block = block; spot = z; content = cells.parameter }) e)
given_cell block (n ∷ ns) s (inr i) = inr (given_cell block ns s i)

-- these are told of the names of a program with these parts
pub record AreTold (blocks : List Block) (all : List Site) (told : Told) : Type 0 where
  pub couples :
      (spot : Spot) (d : Located) (c : cells.Couple) → declaration_in blocks all spot ≡ Some d → d.couple ≡ Some c → told.couples spot ≡ Some (record { level = c.level; index = c.index })
  pub results : (spot : Spot) (d : Located) → declaration_in blocks all spot ≡ Some d → told.results spot ≡ spelled (couple_in blocks all (number_at blocks d.spot) d.spot)
  pub lows : (spot : Spot) (d : Located) → declaration_in blocks all spot ≡ Some d → told.lows spot ≡ lows_at blocks d.spot
  pub meant : (spot : Spot) (d : Declared) → known_there (flat_map (known_at blocks) all) spot ≡ Some d → told.meant spot ≡ meant_as d.class d.sort
  pub labels :
      (spot : Spot) (d : Declared) → known_there (flat_map (known_at blocks) all) spot ≡ Some d → told.labels spot ≡ target_of (record { blocks = blocks; uses = flat_map uses_at all }) d
  pub actuals :
      (spot : Spot) (c : cells.Couple) → couple_of_cells blocks all (actual_cells blocks all) spot ≡ Some c → told.actuals spot ≡ Some (record { level = c.level; index = c.index })

-- the cells of a heading are of no actual
front_plain : (block : ℕ) (ns : List Named) (b : Block) → plain (front_cells block ns b) ≡ front_cells block ns b
front_plain block ns b =
    filter_every (λ (c : Cell). not (content_number c.content == content_number cells.actual)) (front_cells block ns b)
    (each_both (λ (c : Cell). not (content_number c.content == content_number cells.actual) ≡ true) (result_cell b.result block b.spot) (cells_for block cells.parameter ns) (of_result b.result) (of_names ns))
  where
    of_result : (o : Option Kind) → AllByRecursion (λ (c : Cell). not (content_number c.content == content_number cells.actual) ≡ true) (result_cell o block b.spot)
    of_result None = tt
    of_result (Some kind) = (refl, tt)

    of_names : (ms : List Named) → AllByRecursion (λ (c : Cell). not (content_number c.content == content_number cells.actual) ≡ true) (cells_for block cells.parameter ms)
    of_names [] = tt
    of_names (m ∷ ms) = (refl, of_names ms)

-- what passes a test
pub holds : {X : Type 0} (test : X → Bool) (x : X) (xs : List X) → IsIn x (filter test xs) → test x ≡ true
holds test x [] i = absurd i
holds test x (y ∷ ys) i = by (test y) refl (holds test x ys) i
  where
    by : (b : Bool) → test y ≡ b → (IsIn x (filter test ys) → test x ≡ true) → IsIn x (cond b (y ∷ filter test ys) (filter test ys)) → test x ≡ true
    by true e later (inl same) = ap test same ∙ e
    by true e later (inr j) = later j
    by false e later j = later j

pub of_actual : (c : Cell) → (content_number c.content == content_number cells.actual) ≡ true → c.content ≡ cells.actual
of_actual c = by c.content
  where
    by : (x : Content) → (content_number x == content_number cells.actual) ≡ true → x ≡ cells.actual
    by cells.actual e = refl
    by cells.parameter e = absurd (let clash : false ≡ true = e in cc)
    by cells.result e = absurd (let clash : false ≡ true = e in cc)
    by cells.variable e = absurd (let clash : false ≡ true = e in cc)
    by cells.procedure e = absurd (let clash : false ≡ true = e in cc)
    by cells.made e = absurd (let clash : false ≡ true = e in cc)

-- The parts of a program: what stands in one place stands there only, the cells of each block are those of its heading and its text, and no
-- other cells are there.
pub record IsProgram (blocks : List Block) (all : List Site) : Type 0 where
  pub blocks_apart : Apart (block_spots blocks)
  pub uses_apart : Apart (map (λ (u : Use). u.spot) (flat_map uses_at all))
  pub known_apart : Apart (map (λ (k : Known). k.spot) (flat_map (known_at blocks) all))
  pub own : (b : Block) → IsIn b blocks → HasCells blocks blocks_apart (λ x. Unit {0}) b (cells_of blocks all (number_at blocks b.spot))
  pub none : cells_of blocks all (length blocks) ≡ []
  pub places_apart : Apart (places_in blocks all)
  pub far : (c : Cell) → IsIn c (flat_map (cells_at blocks) all) → IsValue c → AllByRecursion (IsApart c.spot) (block_spots blocks)
  pub homes : (b : Block) → IsIn b blocks → IsHome blocks b

module _ (blocks : List Block) (all : List Site) (is : IsProgram blocks all) where
  abbrev pub scopes : Scopes
  scopes = record { blocks = blocks; uses = flat_map uses_at all }

  pub used_at : (x : Site) → IsIn x all → (u : Use) → IsIn u (uses_at x) → declared_in scopes.uses u.spot ≡ Some u
  used_at x i u j = use_found (flat_map uses_at all) u is.uses_apart (in_flat uses_at x u all i j)

  pub known_at_place : (x : Site) → IsIn x all → (k : Known) → IsIn k (known_at blocks x) → known_there (flat_map (known_at blocks) all) k.spot ≡ Some k.declared
  known_at_place x i k j = known_found (flat_map (known_at blocks) all) k is.known_apart (in_flat (known_at blocks) x k all i j)

  -- ---- couples

  abbrev pub number_of : Block → ℕ
  number_of b = number_at blocks b.spot

  -- those of actuals
  abbrev pub acts_of : Block → List Cell
  acts_of b = holding cells.actual (cells_of blocks all (number_of b))

  abbrev pub frame_of : Block → List Cell
  frame_of b = given_places blocks b ++ (result_cell b.result (number_of b) b.spot ++ (variable_cells (number_of b) b.decls ++ (control_cells (number_of b) b.decls ++ (acts_of b ++ made_cells (number_of b) b.decls))))

  -- .. and the others
  pub plain_is : (b : Block) → IsIn b blocks → plain (cells_of blocks all (number_of b)) ≡ cells_of_block (number_of b) (named_of blocks b) b
  plain_is b t =
      let h = is.own b t in
      let front = front_cells (number_of b) (named_of blocks b) b in
      ap plain h.are ∙ filter-append (λ (c : Cell). not (content_number c.content == content_number cells.actual)) front h.own
      ∙ ap (λ z. z ++ plain h.own) (front_plain (number_of b) (named_of blocks b) b) ∙ ap (λ z. front ++ z) h.text.own_is

  -- a cell of the heading or of a declaration is one of the block's
  pub one_of : (b : Block) → IsIn b blocks → (c : Cell) → IsIn c (cells_of_block (number_of b) (named_of blocks b) b) → IsIn c (cells_of blocks all (number_of b))
  one_of b t c i =
      in_filter (λ (c : Cell). not (content_number c.content == content_number cells.actual)) c (cells_of blocks all (number_of b))
      (subst (λ (z : List Cell). IsIn c z) (sym (plain_is b t)) i)

  abbrev pub simples_of : Block → List Simple
  simples_of b = given_cells blocks b ++ (result_cells_of b.result b.name ++ variables b.decls)

  pub coupled : (b : Block) → IsIn b blocks → (spot : Spot) (i : Option ℕ) → index_from 2 (frame_of b) spot ≡ i → couple_in blocks all (number_of b) spot ≡ couple_at (level_of b) i
  coupled b t spot i e =
      ap (λ (z : Block). couple_at (level_of z) (index_from 2 (layout (cells_of blocks all (number_of b))) spot)) (numbered blocks b is.blocks_apart t)
      ∙ ap (λ (z : List Cell). couple_at (level_of b) (index_from 2 z spot)) (laid_out (number_of b) (named_of blocks b) b (cells_of blocks all (number_of b)) (plain_is b t))
      ∙ ap (couple_at (level_of b)) e

  -- a variable is no result
  no_result : (b : Block) → IsIn b blocks → (spot : Spot) → AllByRecursion (IsApart spot) (block_spots blocks) → couple_in blocks all (number_at blocks spot) spot ≡ None
  no_result b t spot far =
      ap (λ (k : ℕ). couple_in blocks all k spot) (number_none blocks spot far)
      ∙ ap (λ (z : List Cell). couple_at (level_of (block_numbered blocks (length blocks))) (index_from 2 (layout z) spot)) is.none

  value_far : (b : Block) → IsIn b blocks → (c : Cell) → IsIn c (cells_of_block (number_of b) (named_of blocks b) b) → IsValue c → AllByRecursion (IsApart c.spot) (block_spots blocks)
  value_far b t c i v =
      is.far c (in_filter (λ (c : Cell). c.block == number_of b) c (flat_map (cells_at blocks) all) (one_of b t c i)) v

  -- an actual stands where no block does
  pub act_there : (b : Block) → (c : Cell) → IsIn c (acts_of b) → IsIn c (flat_map (cells_at blocks) all) × (c.content ≡ cells.actual)
  act_there b c i = (
    in_filter (λ (c : Cell). c.block == number_of b) c (flat_map (cells_at blocks) all) (in_filter (λ (c : Cell). content_number c.content == content_number cells.actual) c (cells_of blocks all (number_of b)) i),
    of_actual c (holds (λ (c : Cell). content_number c.content == content_number cells.actual) c (cells_of blocks all (number_of b)) i),
  )

  pub act_far : (b : Block) → (c : Cell) → IsIn c (acts_of b) → AllByRecursion (IsApart c.spot) (block_spots blocks)
  act_far b c i =
      let at = act_there b c i in
      is.far c at.0 ((λ e. let clash : cells.actual ≡ cells.result = sym at.1 ∙ e in cc), (λ e. let clash : cells.actual ≡ cells.procedure = sym at.1 ∙ e in cc))

  acts_far : (b : Block) → IsIn b blocks → AllByRecursion (λ (c : Cell). IsApart c.spot b.spot) (acts_of b)
  acts_far b t = in_each (λ (c : Cell). IsApart c.spot b.spot) (acts_of b) (λ c i. each_in (IsApart c.spot) b.spot (block_spots blocks) (act_far b c i) (in_map (λ (z : Block). z.spot) b blocks t))

  place_far : (b : Block) → IsIn b blocks → (name : List ℕ) (d : Declared) (k : Kind) (w : Wanted) → IsVariableOf blocks b name d k ⊎ IsParameterOf blocks b name d w →
      AllByRecursion (IsApart d.spot) (block_spots blocks)
  place_far b t name d k w (inl v) =
      let c : Cell = record { block = number_of b; spot = d.spot; content = cells.variable } in
      value_far b t c (in_back c (front_cells (number_of b) (named_of blocks b) b) (decl_cells (number_of b) b.decls) (variable_cell (number_of b) b.decls d.spot v.among))
      ((λ e. let clash : cells.variable ≡ cells.result = e in cc), (λ e. let clash : cells.variable ≡ cells.procedure = e in cc))
  place_far b t name d k w (inr v) =
      let c : Cell = record { block = number_of b; spot = d.spot; content = cells.parameter } in
      value_far b t c (in_front c (front_cells (number_of b) (named_of blocks b) b) (decl_cells (number_of b) b.decls)
      (in_back c (result_cell b.result (number_of b) b.spot) (given_places blocks b) (given_cell (number_of b) (named_of blocks b) d.spot v.among)))
      ((λ e. let clash : cells.parameter ≡ cells.result = e in cc), (λ e. let clash : cells.parameter ≡ cells.procedure = e in cc))

  -- ---- variables

  module _ (a : Surroundings) (level : ℕ) (at : a.depth + 2 ≡ level) (n : Named) (d : Declared) where
    variable_at : (k : Kind) → use_of scopes n ≡ the_use a n d → (h : IsHeld blocks a.depth n.name d k) →
        (r : IsAt 0 2 (simples_of h.in_block) (frame_of h.in_block) n.name d.spot (value k)) →
        IsVariable scopes level n k (record { level = level_of h.in_block; index = 2 + r.number })
    variable_at k u h r =
        let b = h.in_block in
        let up : length b.outer + 2 + (a.depth - d.depth) ≡ level = omega (arith, at, h.within, h.depth_is) in
        record {
          variable = ap (λ (z : Use). is_variable z.sort) u ∙ ap is_variable h.sort_is;
          found = record { number = r.number; cell = r.cell };
          there =
              ap (λ (z : Use). found_from 0 (simple_cells scopes (block_numbered blocks z.block)) n.name) u
              ∙ ap (λ (z : ℕ). found_from 0 (simple_cells scopes (block_numbered blocks z)) n.name) h.block_is
              ∙ ap (λ (z : Block). found_from 0 (simple_cells scopes z) n.name) (numbered blocks b is.blocks_apart h.there)
              ∙ ap (λ (z : List Simple). found_from 0 z n.name) (simple_is blocks b (is.homes b h.there) (acts_of b) scopes.uses) ∙ r.found;
          wanted_is = r.wanted_is;
          level_is = ap (λ (z : Use). length b.outer + 2 + z.up) u ∙ up;
          index_is = refl;
        }

    -- the same number by the name and by the place, among all cells of the block
    at_both : (k : Kind) → (h : IsHeld blocks a.depth n.name d k) →
        IsAt 0 2 (simples_of h.in_block) (frame_of h.in_block) n.name d.spot (value k)
    at_both k h = by h.place
      where
        b : Block
        b = h.in_block

        by : IsVariableOf blocks b n.name d k ⊎ IsParameterOf blocks b n.name d (value k) → IsAt 0 2 (simples_of b) (frame_of b) n.name d.spot (value k)
        by (inl v) =
            let other : name_is_one_of (result_names_of b) n.name ≡ false =
            subst (λ (z : Block). name_is_one_of (result_names_of z) n.name ≡ false) (ap (block_numbered blocks) h.block_is ∙ numbered blocks b is.blocks_apart h.there) v.other in
            framed blocks b (is.homes b h.there) (acts_of b) n.name d.spot (value k) v.among other v.past v.aligned 0 2 refl
        by (inr v) = framed_parameter blocks b (is.homes b h.there) (acts_of b) n.name d.spot (value k) v.aligned 0 2 refl

    -- ---- procedures

    abbrev callee_of : Heading → ℕ
    callee_of g = number_at blocks g.name.spot

    abbrev control_couple : (g : Heading) → IsOwned blocks a.depth n.name d g → Couple
    control_couple g h =
        record {
          level = level_of h.in_block;
          index = 2 + length (simples_of h.in_block) + (controlled blocks h.in_block (is.homes h.in_block h.there) (acts_of h.in_block) g h.among).0.number;
        }

    procedure_at : (g : Heading) → use_of scopes n ≡ the_use a n d → (h : IsOwned blocks a.depth n.name d g) → IsProcedure scopes level n (callee_of g) (control_couple g h)
    procedure_at g u h =
        let b = h.in_block in
        let r = (controlled blocks b (is.homes b h.there) (acts_of b) g h.among).0 in
        let up : length b.outer + 2 + (a.depth - d.depth) ≡ level = omega (arith, at, h.within, h.depth_is) in
        let block_is : block_numbered blocks ((use_of scopes n).block) ≡ b =
        ap (λ (z : Use). block_numbered blocks z.block) u ∙ ap (block_numbered blocks) h.block_is ∙ numbered blocks b is.blocks_apart h.there in
        record {
          sort_is = ap (λ (z : Use). z.sort) u ∙ h.sort_is;
          number = r.number;
          declared = r.declared;
          there = ap (λ (z : Block). slice_get (procedures z.decls) r.number) block_is ∙ r.there;
          callee_is = ap (number_at blocks) r.spot_is;
          level_is = ap (λ (z : Use). length b.outer + 2 + z.up) u ∙ up;
          index_is = ap (λ (z : List Simple). 2 + length z + r.number) (sym (ap (simple_cells scopes) block_is ∙ simple_is blocks b (is.homes b h.there) (acts_of b) scopes.uses));
        }

    -- ---- results

    result_at : (k : Kind) (g : Heading) → use_of scopes n ≡ result_use a n d (callee_of g) → (h : IsOwned blocks a.depth n.name d g) → g.kind ≡ Some k → d.depth < a.depth →
        IsVariable scopes level n k (record { level = level_of (procedure_block g h.body (h.in_block.spot ∷ h.in_block.outer)); index = 2 + length (given_cells blocks (procedure_block g h.body (h.in_block.spot ∷ h.in_block.outer))) })
    result_at k g u h e deep =
        let b = h.in_block in
        let c = procedure_block g h.body (b.spot ∷ b.outer) in
        let up : length (b.spot ∷ b.outer) + 2 + (a.depth - d.depth - 1) ≡ level = omega (arith, at, h.depth_is, deep) in
        record {
          variable = ap (λ (z : Use). is_variable z.sort) u;
          found = record { number = length (given_cells blocks c); cell = record { name = g.name.name; wanted = value k } };
          there =
              ap (λ (z : Use). found_from 0 (simple_cells scopes (block_numbered blocks z.block)) n.name) u
              ∙ ap (λ (z : Block). found_from 0 (simple_cells scopes z) n.name) (numbered blocks c is.blocks_apart h.body_there)
              ∙ ap (λ (z : List Simple). found_from 0 z n.name) (simple_is blocks c (is.homes c h.body_there) (acts_of c) scopes.uses)
              ∙ result_found blocks c (is.homes c h.body_there) (acts_of c) k n.name e h.named
              (subst (λ (xs : List Simple). AllByRecursion (λ (x : Simple). same_name x.name n.name ≡ false) xs) (sym h.cells_are) (each_map (λ (x : Simple). same_name x.name n.name ≡ false) (cell_of g) g.params (result_other g k n.name e h.named h.once)));
          wanted_is = refl;
          level_is = ap (λ (z : Use). length (b.spot ∷ b.outer) + 2 + z.up) u ∙ up;
          index_is = refl;
        }

    result_couple : (k : Kind) (g : Heading) → (h : IsOwned blocks a.depth n.name d g) → g.kind ≡ Some k →
        couple_in blocks all (number_at blocks d.spot) d.spot ≡ Some (record { level = level_of (procedure_block g h.body (h.in_block.spot ∷ h.in_block.outer)); index = 2 + length (given_cells blocks (procedure_block g h.body (h.in_block.spot ∷ h.in_block.outer))) })
    result_couple k g h e =
        let b = h.in_block in
        let c = procedure_block g h.body (b.spot ∷ b.outer) in
        ap (λ (s : Spot). couple_in blocks all (number_at blocks s) s) h.spot_is
        ∙ coupled c h.body_there g.name.spot (Some (2 + length (given_cells blocks c))) (result_index blocks c (is.homes c h.body_there) (acts_of c) k e)

    -- an untyped procedure has none
    no_couple : (g : Heading) → (h : IsOwned blocks a.depth n.name d g) → g.kind ≡ None → couple_in blocks all (number_at blocks d.spot) d.spot ≡ None
    no_couple g h e =
        let c = procedure_block g h.body (h.in_block.spot ∷ h.in_block.outer) in
        ap (λ (s : Spot). couple_in blocks all (number_at blocks s) s) h.spot_is
        ∙ coupled c h.body_there g.name.spot None (without blocks c (is.homes c h.body_there) (acts_of c) (acts_far c h.body_there) e)

  -- ---- inside a procedure

  around_less : (spots : List Spot) (m : ℕ) → AreAround blocks spots → list_any (λ (i : ℕ). i == m) (map (number_at blocks) spots) ≡ true →
      (b : Block) × IsIn b blocks × (number_of b ≡ m) × (length b.outer < length spots)
  around_less [] m r h = absurd (let clash : false ≡ true = h in cc)
  around_less (s ∷ spots) m r h = by (number_at blocks s == m) refl h (around_less spots m r.1)
    where
      by : (t : Bool) → (number_at blocks s == m) ≡ t → (t || list_any (λ (i : ℕ). i == m) (map (number_at blocks) spots)) ≡ true →
          (list_any (λ (i : ℕ). i == m) (map (number_at blocks) spots) ≡ true → (b : Block) × IsIn b blocks × (number_of b ≡ m) × (length b.outer < length spots)) →
          (b : Block) × IsIn b blocks × (number_of b ≡ m) × (length b.outer < length (s ∷ spots))
      by true e g later =
          let b = r.0.0 in
          let short : length b.outer < length (s ∷ spots) = omega (arith, ap length r.0.3) in
          (b, r.0.1, ap (number_at blocks) r.0.2 ∙ eqb-true (number_at blocks s) m e, short)
      by false e g later =
          let q = later g in
          let short : length q.0.outer < length (s ∷ spots) = omega (arith, q.3) in
          (q.0, q.1, q.2, short)

  pub inside_deep : (b : Block) (a : Surroundings) → Stands blocks b a → (h : Heading) (c : Block) → IsIn c blocks → c.spot ≡ h.name.spot → is_around blocks h a ≡ true → length c.outer ≤ a.depth
  inside_deep b a s h c t e g =
      let here : block_numbered blocks a.block ≡ b = ap (block_numbered blocks) s.block_is ∙ numbered blocks b is.blocks_apart s.there in
      let any : list_any (λ (i : ℕ). i == number_at blocks h.name.spot) (map (number_at blocks) (b.spot ∷ b.outer)) ≡ true =
      subst (λ (k : ℕ). list_any (λ (i : ℕ). i == number_at blocks h.name.spot) (k ∷ map (number_at blocks) b.outer) ≡ true) s.block_is
      (subst (λ (z : Block). list_any (λ (i : ℕ). i == number_at blocks h.name.spot) (a.block ∷ map (number_at blocks) z.outer) ≡ true) here g) in
      let r = around_less (b.spot ∷ b.outer) (number_at blocks h.name.spot) ((b, s.there, refl, refl), s.outer) any in
      let same : r.0 ≡ c =
      sym (numbered blocks r.0 is.blocks_apart r.1) ∙ ap (block_numbered blocks) (r.2 ∙ ap (number_at blocks) (sym e)) ∙ numbered blocks c is.blocks_apart t in
      omega (arith, r.3, ap (λ (z : Block). length z.outer) same, s.depth_is)

  -- ---- names fit

  -- a simple variable or parameter is read, is assigned, and is given for a parameter by name, and is known to be no event
  pub record IsPlaceOf (told : Told) (level : ℕ) (k : Kind) (n : Named) : Type 0 where
    pub reads : ReadFits scopes told level k n
    pub place : PlaceFits scopes told level k n
    pub given : (block : ℕ) → NameActualFits scopes told level block k (alone n)
    pub no_event : meant_is_event (told.meant n.spot) ≡ false

  -- which parameters are by name
  modes_in : (g : Heading) (ns : List Named) → AreSpecified g ns → map (λ (f : Formal). cells.formal_is_by_name (Some f)) (map (as_formal g) ns) ≡ map wanted_by_name (map (λ (z : Simple). z.wanted) (map (cell_of g) ns))
  modes_in g [] v = refl
  modes_in g (n ∷ ns) v = ap (λ b. b ∷ map (λ (f : Formal). cells.formal_is_by_name (Some f)) (map (as_formal g) ns)) (one v.0) ∙ ap (λ z. wanted_by_name (wanted_of g n) ∷ z) (modes_in g ns v.1)
    where
      one : IsSpecified g n → cells.formal_is_by_name (Some (as_formal g n)) ≡ wanted_by_name (wanted_of g n)
      one (as_value kind c v s) = ap (λ (z : Class). is_simple z && not (is_named_in g.values n.name)) c ∙ ap not v ∙ sym (ap wanted_by_name (wanted_value g n kind c v))
      one (as_name kind c v s) = ap (λ (z : Class). is_simple z && not (is_named_in g.values n.name)) c ∙ ap not v ∙ sym (ap wanted_by_name (wanted_name g n kind c v))
      one (as_array shape c e s) = ap (λ (z : Class). is_simple z && not (is_named_in g.values n.name)) c ∙ sym (ap wanted_by_name (wanted_array g n shape c e))
      one (as_event c e s) = ap (λ (z : Class). is_simple z && not (is_named_in g.values n.name)) c ∙ sym (ap wanted_by_name (wanted_event g n c))

  modes_of : (g : Heading) → HeadingSpecified g → map (λ (f : Formal). cells.formal_is_by_name (Some f)) (formals_of g) ≡ map wanted_by_name (map (λ (z : Simple). z.wanted) (parameters_in g))
  modes_of g b = modes_in g g.params (specified g b)

  module _ (told : Told) (are : AreTold blocks all told) (a : Surroundings) (level : ℕ) (at : a.depth + 2 ≡ level) (n : Named) (d : Declared) (is_known : known_there (flat_map (known_at blocks) all) n.spot ≡ Some d) where
    result_is : (o : Option cells.Couple) → couple_in blocks all (number_at blocks d.spot) d.spot ≡ o → told.results n.spot ≡ spelled o
    result_is o e = are.results n.spot _ (ap (located blocks all) is_known) ∙ ap spelled e

    pub own_couple : (b : Block) → IsIn b blocks → d.block ≡ number_of b → (i : ℕ) →
        index_from 2 (frame_of b) d.spot ≡ Some i →
        couple_in blocks all d.block d.spot ≡ Some (record { level = level_of b; index = i })
    own_couple b t e i f = ap (λ (z : ℕ). couple_in blocks all z d.spot) e ∙ coupled b t d.spot (Some i) f

    pub variable_fits : (k : Kind) → use_of scopes n ≡ the_use a n d → IsHeld blocks a.depth n.name d k → IsPlaceOf told level k n
    variable_fits k u h =
        let b = h.in_block in
        let r = at_both a level at n d k h in
        let c : cells.Couple = record { level = level_of b; index = 2 + r.number } in
        let own : couple_in blocks all d.block d.spot ≡ Some c = own_couple b h.there h.block_is (2 + r.number) r.index in
        let far = place_far b h.there n.name d k (value k) h.place in
        let none : told.results n.spot ≡ None = result_is None (no_result b h.there d.spot far) in
        let mine : told.couples n.spot ≡ Some (record { level = c.level; index = c.index }) = are.couples n.spot _ c (ap (located blocks all) is_known) own in
        let v = variable_at a level at n d k u h r in
        let meant : told.meant n.spot ≡ a_variable = are.meant n.spot d is_known ∙ ap (λ (z : Class). meant_as z d.sort) h.class_is ∙ ap (meant_as (class.simple k)) h.sort_is in
        record {
          reads = ((record { level = c.level; index = c.index }, mine, of_variable v), none);
          place = fitting.own (record { level = c.level; index = c.index }, ap (λ (o : Option Couple). couple_on_left o (told.couples n.spot)) none ∙ mine, v) (ap meant_is_name meant);
          given = λ block. refers_to n (record { level = c.level; index = c.index }) refl meant mine v (let low : 2 ≤ length b.outer + 2 = omega arith in low);
          no_event = ap meant_is_event meant;
        }

    -- a parameter by name
    pub name_fits : (k : Kind) → use_of scopes n ≡ the_use a n d → IsName blocks a.depth n.name d k → IsPlaceOf told level k n
    name_fits k u h =
        let b = h.in_block in
        let r : IsAt 0 2 (simples_of b) (frame_of b) n.name d.spot (by_name k) =
        framed_parameter blocks b (is.homes b h.there) (acts_of b) n.name d.spot (by_name k) h.place.aligned 0 2 refl in
        let c : cells.Couple = record { level = level_of b; index = 2 + r.number } in
        let own : couple_in blocks all d.block d.spot ≡ Some c = own_couple b h.there h.block_is (2 + r.number) r.index in
        let far = place_far b h.there n.name d k (by_name k) (inr h.place) in
        let none : told.results n.spot ≡ None = result_is None (no_result b h.there d.spot far) in
        let mine : told.couples n.spot ≡ Some (record { level = c.level; index = c.index }) = are.couples n.spot _ c (ap (located blocks all) is_known) own in
        let meant : told.meant n.spot ≡ a_name = are.meant n.spot d is_known ∙ ap (λ (z : Class). meant_as z d.sort) h.class_is ∙ ap (meant_as (class.simple k)) h.sort_is in
        let up : length b.outer + 2 + (a.depth - d.depth) ≡ level = omega (arith, at, h.within, h.depth_is) in
        let v : IsFormalName scopes level n k (record { level = c.level; index = c.index }) =
        record {
          sort_is = ap (λ (z : Use). z.sort) u ∙ h.sort_is;
          found = record { number = r.number; cell = r.cell };
          there =
              ap (λ (z : Use). found_from 0 (simple_cells scopes (block_numbered blocks z.block)) n.name) u
              ∙ ap (λ (z : ℕ). found_from 0 (simple_cells scopes (block_numbered blocks z)) n.name) h.block_is
              ∙ ap (λ (z : Block). found_from 0 (simple_cells scopes z) n.name) (numbered blocks b is.blocks_apart h.there)
              ∙ ap (λ (z : List Simple). found_from 0 z n.name) (simple_is blocks b (is.homes b h.there) (acts_of b) scopes.uses) ∙ r.found;
          wanted_is = r.wanted_is;
          level_is = ap (λ (z : Use). length b.outer + 2 + z.up) u ∙ up;
          index_is = refl;
        } in
        record {
          reads = ((record { level = c.level; index = c.index }, mine, of_formal v), none);
          place = resolved (record { level = c.level; index = c.index }) (ap (λ (o : Option Couple). couple_on_left o (told.couples n.spot)) none ∙ mine) (ap meant_is_name meant) v;
          given = λ block. passes_on n (record { level = c.level; index = c.index }) refl meant mine v;
          no_event = ap meant_is_event meant;
        }

    pub procedure_fits : (g : Heading) → use_of scopes n ≡ the_use a n d → IsOwned blocks a.depth n.name d g →
        CalleeFits scopes told level n g
    procedure_fits g u h =
        let b = h.in_block in
        let r = controlled blocks b (is.homes b h.there) (acts_of b) g h.among in
        let c : cells.Couple = record { level = level_of b; index = 2 + length (simples_of b) + r.0.number } in
        let own : couple_in blocks all d.block d.spot ≡ Some c =
        own_couple b h.there h.block_is c.index (ap (λ (s : Spot). index_from 2 (frame_of b) s) h.spot_is ∙ r.1) in
        let block_is : block_numbered blocks (number_at blocks g.name.spot) ≡ procedure_block g h.body (b.spot ∷ b.outer) =
        numbered blocks (procedure_block g h.body (b.spot ∷ b.outer)) is.blocks_apart h.body_there in
        let kind_is : (block_numbered blocks (number_at blocks g.name.spot)).result ≡ g.kind = ap (λ (z : Block). z.result) block_is in
        let cells_are : parameter_cells scopes (block_numbered blocks (number_at blocks g.name.spot)) ≡ parameters_in g = ap (λ (z : Block). parameter_cells scopes z) block_is ∙ h.cells_are in
        record {
          callee = number_at blocks g.name.spot;
          fits = record {
            couple = control_couple a level at n d g h;
            known_is = are.couples n.spot _ c (ap (located blocks all) is_known) own;
            procedure = procedure_at a level at n d g u h;
            typed = is_typed g.kind refl ∙ sym (ap (λ (o : Option Kind). is_some o) kind_is);
            modes =
                are.meant n.spot d is_known ∙ ap (λ (z : Class). meant_as z d.sort) h.class_is
                ∙ ap a_procedure (modes_of g h.built ∙ sym (ap (λ (cs : List Simple). map wanted_by_name (map (λ (z : Simple). z.wanted) cs)) cells_are));
          };
          result_is = kind_is;
          parameters_are = ap (λ (z : Block). z.parameters) block_is;
          cells_are = cells_are;
        }
      where
        is_typed : (o : Option Kind) → g.kind ≡ o → is_some (told.results n.spot) ≡ is_some o
        is_typed None e = ap (λ (o : Option Couple). is_some o) (result_is None (no_couple a level at n d g h e))
        is_typed (Some k) e = ap (λ (o : Option Couple). is_some o) (result_is _ (result_couple a level at n d k g h e))

    pub result_fits : (k : Kind) (g : Heading) → use_of scopes n ≡ result_use a n d (number_at blocks g.name.spot) → IsOwned blocks a.depth n.name d g → g.kind ≡ Some k → d.depth < a.depth →
        PlaceFits scopes told level k n
    result_fits k g u h e deep =
        let b = h.in_block in
        let c : cells.Couple = record { level = level_of (procedure_block g h.body (b.spot ∷ b.outer)); index = 2 + length (given_cells blocks (procedure_block g h.body (b.spot ∷ b.outer))) } in
        let found : told.results n.spot ≡ Some (record { level = c.level; index = c.index }) = result_is (Some c) (result_couple a level at n d k g h e) in
        fitting.own (record { level = c.level; index = c.index }, ap (λ (o : Option Couple). couple_on_left o (told.couples n.spot)) found, result_at a level at n d k g u h e deep)
        (ap meant_is_name (are.meant n.spot d is_known ∙ ap (λ (z : Class). meant_as z d.sort) h.class_is))
