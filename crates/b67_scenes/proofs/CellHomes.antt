-- Where a process finds the cell of a parameter that stands for something else: in a frame that its display names.
use Rattle.std.proofs.Common.{◌≡◌, sym, ap, ◌∙◌, subst, ℕ, suc, ◌+◌, ◌<◌, ◌^◌, List, [], ◌∷◌, length, Option, Some, Bool, true, false, arith}
use Rattle.b67_list.proofs.Lists.{get_front, get_within}
use Rattle.b67_scenes.proofs.Prelude.{if◌then◌else◌, slice_get, numbered, block_numbered, level_of, PProgram, Scopes, scopes_of, use_of, same_name, Named, Reference, Cell, reference, NamedCell, Instance, instance_at, or_no_instance, ancestor, cell_at, cell_in, BlockIsSeen, IsStanding, Word, Place, Couple, Code, word_at, place, display_at, Simple, Found, Wanted, simple_cells, found_from, AreNested, Texts, some_same, NearCell, cell_front, Denotes, named_from, CellsAre, IsInReach, Refers, Framed}
use Rattle.b67_frames.proofs.Knowing.{denotes_so}
use Rattle.b67_scenes.proofs.Finding.{frame_near, place_near}
use Rattle.b67_scenes.proofs.Led.{named_parent, named_reached, named_seen, named_shown, IsLed, cell_reached, cell_led}
use Rattle.b67_scenes.proofs.Sights.{Seen, cell_below, cell_lies as seen_word}
use Rattle.b67_scenes.proofs.Scene.{Actor}
use Rattle.b67_scenes.proofs.Staying.{names_in}

-- ---- the first cell of a name

record FirstCell (ss : List Simple) (cells : List NamedCell) (from : ℕ) (name : List ℕ) (f : Found) : Type 0 where
  far : ℕ
  number : f.number ≡ from + far
  lies : slice_get ss far ≡ Some f.cell
  is : (c : NamedCell) → slice_get cells far ≡ Some c → cell_in cells name ≡ c.cell

first_cell : (ss : List Simple) (cells : List NamedCell) (words : List Word) (from : ℕ) (name : List ℕ) (f : Found) → CellsAre ss cells words → found_from from ss name ≡ Some f → FirstCell ss cells from name f
first_cell [] cells words from name f are e = cc
first_cell (s ∷ ss) [] words from name f are e = absurd are
first_cell (s ∷ ss) (c ∷ cells) [] from name f are e = absurd are
first_cell (s ∷ ss) (c ∷ cells) (w ∷ words) from name f are e =
    by_name (first_cell ss cells words (from + 1) name f are.2) (same_name s.name name) e (ap (λ (n : List ℕ). same_name n name) are.0)
  where
    by_name : (found_from (from + 1) ss name ≡ Some f → FirstCell ss cells (from + 1) name f) → (b : Bool) →
        (if b then Some (record { number = from; cell = s }) else found_from (from + 1) ss name) ≡ Some f → same_name c.name name ≡ b → FirstCell (s ∷ ss) (c ∷ cells) from name f
    by_name rest true h same =
        let is_f : record { number = from; cell = s } ≡ f = cc in
        record {
          far = 0;
          number = ap (λ (x : Found). x.number) (sym is_f) ∙ omega arith;
          lies = ap (λ (x : Found). Some x.cell) is_f;
          is = λ d there. ap (λ (b : Bool). if b then c.cell else cell_in cells name) same ∙ ap (λ (x : NamedCell). x.cell) (some_same there);
        }
    by_name rest false h same =
        let later : FirstCell ss cells (from + 1) name f = rest h in
        record {
          far = suc later.far;
          number = later.number ∙ omega arith;
          lies = later.lies;
          is = λ d there. ap (λ (b : Bool). if b then c.cell else cell_in cells name) same ∙ later.is d there;
        }

-- ---- the parameter's cell

module _ (tree : PProgram) (code : Code) (texts : Texts) (nested : AreNested (scopes_of tree)) (actor : Actor tree code texts) where
  open actor use {w, lay, img, p, part, outer, core, s}

  abbrev sc : Scopes
  sc = scopes_of tree

  abbrev level : ℕ
  level = names_in tree w part

  -- what a name means there, where it is no reference
  abbrev named : Named → Reference
  named n = named_from sc w lay part.instance n

  -- The cell that a name means, of which that is wanted; its word, which the couple names, stands for what it has.
  pub record CellHome (n : Named) (wanted : Wanted) (couple : Couple) : Type 0 where
    pub cell : Cell
    pub cell_is : cell_at w (named n) ≡ cell
    pub word : Word
    pub denotes : Denotes sc w lay (IsInReach w (part ∷ outer)) wanted cell word
    -- a reference in it leads to what the process may look at
    pub leads : (r : Reference) → cell ≡ reference r → IsLed tree code texts actor r
    pub at : Place
    pub near : NearCell p img (record { frame = at; index = couple.index })
    pub shown : display_at core.registers couple.level ≡ Some at
    pub lies : word_at img.stacks (place at.stack (at.at + couple.index)) ≡ Some word
    pub fits : (couple.level < 32) × (couple.index < 2 ^ 14)

  -- The couple names the cell of a parameter that refers.
  pub record NamesCell : Type 0 where
    pub name : Named
    pub wanted : Wanted
    pub couple : Couple
    pub found : Found
    pub refers : Refers wanted
    pub is_seen : BlockIsSeen sc ((instance_at w part.instance).block) name
    pub named_there : found_from 0 (simple_cells sc (block_numbered sc.blocks ((use_of sc name).block))) name.name ≡ Some found
    pub wanted_is : found.cell.wanted ≡ wanted
    pub level_is : couple.level + (use_of sc name).up ≡ level
    pub index_is : couple.index ≡ 2 + found.number

  module _ (names_it : NamesCell) where
    open names_it use {name as n, wanted, couple, found, refers, is_seen, named_there, wanted_is, level_is, index_is}

    abbrev home_at : ℕ
    home_at = ancestor w ((use_of sc n).up) part.instance

    reached : IsInReach w (part ∷ outer) home_at
    reached = named_reached tree code texts actor n is_seen

    module _ (h : Seen tree code texts actor home_at) where
      abbrev framed_there : Framed sc w lay h.found.number h.found.lies.part.instance h.found.lies.outer (length h.found.lies.frame.lower) h.found.lies.frame.mark h.found.lies.frame.control h.found.lies.frame.cells
      framed_there = h.found.lies.owned.framed

      abbrev here : Instance
      here = framed_there.instance

      is_here : numbered w.instances home_at ≡ Some here
      is_here = ap (numbered w.instances) (sym h.found.lies.instance_is) ∙ framed_there.is

      instance_here : instance_at w home_at ≡ here
      instance_here = ap or_no_instance is_here

      block_here : here.block ≡ (use_of sc n).block
      block_here = sym (ap (λ (x : Instance). x.block) instance_here) ∙ (named_parent tree code texts actor n is_seen).block

      abbrev ss : List Simple
      ss = simple_cells sc (block_numbered sc.blocks here.block)

      there : found_from 0 ss n.name ≡ Some found
      there = ap (λ (k : ℕ). found_from 0 (simple_cells sc (block_numbered sc.blocks k)) n.name) block_here ∙ named_there

      c : FirstCell ss framed_there.simple 0 n.name found
      c = first_cell ss framed_there.simple framed_there.values 0 n.name found framed_there.simple_are there

      abbrev Denoting : Type 0
      Denoting =
          (d : NamedCell) × (word : Word) × (slice_get framed_there.simple c.far ≡ Some d) × (slice_get framed_there.values c.far ≡ Some word)
          × Denotes sc w lay (IsStanding w) found.cell.wanted d.cell word

      g : Denoting
      g = framed_there.formals c.far found.cell c.lies (subst (λ (o : Wanted). Refers o) (sym wanted_is) refers)

      among : slice_get here.cells c.far ≡ Some g.0
      among = ap (λ (cells : List NamedCell). slice_get cells c.far) framed_there.has ∙ get_front framed_there.simple framed_there.arrays c.far g.0 g.2

      -- what it leads to is in reach, as the instance is
      denotes_here : Denotes sc w lay (IsInReach w (part ∷ outer)) wanted g.0.cell g.1
      denotes_here =
          denotes_so sc w lay (IsStanding w) (IsInReach w (part ∷ outer)) wanted g.0.cell g.1
          (λ j inside st. cell_reached tree code texts actor home_at reached c.far here g.0 is_here framed_there.stands among j inside)
          (subst (λ (o : Wanted). Denotes sc w lay (IsStanding w) o g.0.cell g.1) wanted_is g.4)

      -- the cell lies before the arrays
      cell_here : cell_at w (named n) ≡ g.0.cell
      cell_here =
          ap (λ (x : Instance). cell_in x.cells n.name) instance_here
          ∙ ap (λ (cells : List NamedCell). cell_in cells n.name) framed_there.has
          ∙ cell_front ss framed_there.simple framed_there.arrays framed_there.values 0 n.name found framed_there.simple_are there
          ∙ c.is g.0 g.2

      far_is : couple.index ≡ 2 + c.far
      far_is = omega (arith, index_is, c.number)

      -- the values lie before the control words
      cells_lie : slice_get h.found.lies.frame.cells c.far ≡ Some g.1
      cells_lie = ap (λ (ws : List Word). slice_get ws c.far) framed_there.cells_is ∙ get_front framed_there.values _ c.far g.1 g.3

      low : length h.found.lies.frame.lower + (2 + c.far) < length h.found.core.below
      low =
          cell_below tree code texts actor home_at h c.far (get_within h.found.lies.frame.cells c.far g.1 cells_lie)
          (omega (arith, get_within ss c.far found.cell c.lies, ap (λ (x : Instance). length (simple_cells sc (block_numbered sc.blocks x.block))) instance_here))

      couple_fits : (couple.level < 32) × (couple.index < 2 ^ 14)
      couple_fits =
          let own : Instance = s.stands.frame.instance in
          let same : level ≡ level_of (block_numbered sc.blocks own.block) = ap (λ (o : Option Instance). level_of (block_numbered sc.blocks (or_no_instance o).block)) s.stands.frame.is in (
            omega (arith, level_is, same, (nested.each own.block s.stands.frame.known).low),
            omega (arith, far_is, (nested.each here.block framed_there.known).few, get_within ss c.far found.cell c.lies),
          )

      home_there : CellHome n wanted couple
      home_there =
          record {
            cell = g.0.cell;
            cell_is = cell_here;
            word = g.1;
            denotes = denotes_here;
            leads = cell_led tree code texts actor home_at reached c.far here g.0 is_here framed_there.stands among;
            at = place h.found.number (length h.found.lies.frame.lower);
            near = (
              frame_near tree code texts w lay img home_at h.found p h.near,
              place_near tree code texts w lay img home_at h.found p (length h.found.lies.frame.lower + couple.index) h.near (omega (arith, low, far_is)),
            );
            shown = named_shown tree code texts actor n is_seen couple.level level_is h;
            lies =
                ap (λ (k : ℕ). word_at img.stacks (place h.found.number (length h.found.lies.frame.lower + k))) far_is
                ∙ seen_word tree code texts actor home_at h c.far g.1 cells_lie low;
            fits = couple_fits;
          }

    pub cell_home : CellHome n wanted couple
    cell_home = home_there (named_seen tree code texts actor n is_seen)
