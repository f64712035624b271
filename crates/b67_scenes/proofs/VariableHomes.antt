-- Where a process finds the variable to whose cell a reference leads: in the frame of an instance in reach, in whatever stack.
use Rattle.std.proofs.Common.{◌≡◌, sym, ap, ◌∙◌, subst, ℕ, ◌+◌, List, ◌∷◌, length, Some, arith, ◌<◌}
use Rattle.b67_list.proofs.Lists.{get_front, get_within}
use Rattle.b67_scenes.proofs.Prelude.{slice_get, block_numbered, PProgram, Scopes, scopes_of, Kind, Value, Reference, simple, NamedCell, Instance, instance_at, or_no_instance, cell_at, cell_in, Word, Code, word_at, place, Simple, Found, found_from, simple_cells, Wanted, HasKind, Texts, ValueIs, as_many_values, cell_front, Holds_value, value_of_cell, CellIs, IsInReach, Framed}
use Rattle.b67_templates.specs.Cells as wants
use Rattle.b67_frames.proofs.Variables.{Cell_of, variable_cell}
use Rattle.b67_scenes.proofs.Scene.{Actor}
use Rattle.b67_scenes.proofs.Sights.{Seen, seen, cell_below, cell_lies as seen_word}

module _ (tree : PProgram) (code : Code) (texts : Texts) (actor : Actor tree code texts) where
  open actor use {w, lay, img, part, outer}

  abbrev sc : Scopes
  sc = scopes_of tree

  abbrev SeenThere : ℕ → Type 0
  SeenThere i = Seen tree code texts actor i

  -- the cell is the first of that name in its block, holds a value, and has the value's word, which lies below the floor of its process
  pub record VariableHome (r : Reference) (kind : Kind) (found : Found) : Type 0 where
    pub seen_there : Seen tree code texts actor r.instance
    pub instance_is : instance_at w r.instance ≡ seen_there.found.lies.owned.framed.instance
    pub there : found_from 0 (simple_cells sc (block_numbered sc.blocks seen_there.found.lies.owned.framed.instance.block)) r.name ≡ Some found
    pub wanted_is : found.cell.wanted ≡ wants.value kind
    pub number : ℕ
    pub number_is : found.number ≡ number
    pub value : Value
    pub cell_is : cell_at w r ≡ simple value
    pub fits : HasKind kind value
    pub word : Word
    pub word_is : ValueIs value word
    pub value_lies : slice_get seen_there.found.lies.owned.framed.values number ≡ Some word
    pub cell_lies : slice_get seen_there.found.lies.frame.cells number ≡ Some word
    pub below : length seen_there.found.lies.frame.lower + (2 + number) < length seen_there.found.core.below
    pub word_lies : word_at img.stacks (place seen_there.found.number (length seen_there.found.lies.frame.lower + (2 + number))) ≡ Some word

  module _ (r : Reference) (kind : Kind) (found : Found)
      (there : found_from 0 (simple_cells sc (block_numbered sc.blocks ((instance_at w r.instance).block))) r.name ≡ Some found) (wanted_is : found.cell.wanted ≡ wants.value kind) where
    module _ (h : SeenThere r.instance) where
      abbrev framed_there : Framed sc w lay h.found.number h.found.lies.part.instance h.found.lies.outer (length h.found.lies.frame.lower) h.found.lies.frame.mark h.found.lies.frame.control h.found.lies.frame.cells
      framed_there = h.found.lies.owned.framed

      abbrev here : Instance
      here = framed_there.instance

      instance_here : instance_at w r.instance ≡ here
      instance_here = ap (instance_at w) (sym h.found.lies.instance_is) ∙ ap or_no_instance framed_there.is

      abbrev ss : List Simple
      ss = simple_cells sc (block_numbered sc.blocks here.block)

      there_here : found_from 0 ss r.name ≡ Some found
      there_here = ap (λ (x : Instance). found_from 0 (simple_cells sc (block_numbered sc.blocks x.block)) r.name) (sym instance_here) ∙ there

      abbrev first_cells : List NamedCell
      first_cells = framed_there.simple

      c : Cell_of found 0 r.name first_cells framed_there.values
      c = variable_cell ss first_cells framed_there.values 0 r.name found framed_there.simple_are there_here

      held : Holds_value kind (cell_in first_cells r.name) c.word
      held = value_of_cell kind (cell_in first_cells r.name) c.word (subst (λ (o : Wanted). CellIs o (cell_in first_cells r.name) c.word) wanted_is c.is)

      -- it lies before the arrays
      cell_here : cell_in here.cells r.name ≡ cell_in first_cells r.name
      cell_here =
          ap (λ (cells : List NamedCell). cell_in cells r.name) framed_there.has
          ∙ cell_front ss first_cells framed_there.arrays framed_there.values 0 r.name found framed_there.simple_are there_here

      -- the values lie before the control words
      cells_lie : slice_get h.found.lies.frame.cells c.far ≡ Some c.word
      cells_lie = ap (λ (ws : List Word). slice_get ws c.far) framed_there.cells_is ∙ get_front framed_there.values _ c.far c.word c.lies

      low : length h.found.lies.frame.lower + (2 + c.far) < length h.found.core.below
      low =
          cell_below tree code texts actor r.instance h c.far (get_within h.found.lies.frame.cells c.far c.word cells_lie)
          (omega (
            arith,
            get_within framed_there.values c.far c.word c.lies,
            as_many_values ss first_cells framed_there.values framed_there.simple_are,
            ap (λ (x : Instance). length (simple_cells sc (block_numbered sc.blocks x.block))) instance_here,
          ))

      home_there : VariableHome r kind found
      home_there =
          record {
            seen_there = h;
            instance_is = instance_here;
            there = there_here;
            wanted_is = wanted_is;
            number = c.far;
            number_is = omega (arith, c.number);
            value = held.value;
            cell_is = ap (λ (x : Instance). cell_in x.cells r.name) instance_here ∙ cell_here ∙ held.is;
            fits = held.kind;
            word = c.word;
            word_is = held.word;
            value_lies = c.lies;
            cell_lies = cells_lie;
            below = low;
            word_lies = seen_word tree code texts actor r.instance h c.far c.word cells_lie low;
          }

    pub variable_home : IsInReach w (part ∷ outer) r.instance → VariableHome r kind found
    variable_home path = home_there (seen tree code texts actor r.instance path)
