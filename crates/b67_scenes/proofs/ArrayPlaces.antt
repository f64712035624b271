-- Where the descriptor of an array lies: in the frame of the instance that has made it. A reference to its cell is read back.
use Rattle.std.proofs.Common.{◌≡◌, refl, sym, ap, ◌∙◌, subst, ℕ, ◌+◌, ◌<◌, ◌≤◌, ◌^◌, List, ◌++◌, length, Some, None, arith}
use Rattle.b67_list.proofs.Lists.{get_within}
use Rattle.b67_scenes.proofs.Prelude.{slice_get, map, numbered, block_numbered, PProgram, Scopes, scopes_of, Bounds, ArrayCell, array, NamedCell, Instance, instance_at, or_no_instance, cell_in, DeclaredArray, numbered_small, Word, Place, as_sirw, Code, stack_limit, word_at, place, most_processes, cell_word, found_from, simple_cells, made_base, made_of, AreNested, Texts, NearCell, block_few, controls_many, low_number, OwnCells, framed_cells, OwnArray, known_array, Allotted, DescriptorIs, AreSized, HasArray, IsArrayOf, block_controls, Framed}
use Rattle.algol_paths.specs.Arrays.{lows_of}
use Rattle.b67_control.proofs.ControlLaws.{sirw_laws}
use Rattle.b67_table.specs.declared.Cell.{Cell}
use Rattle.b67_frames.proofs.OwnCells.{descriptor_lies}
use Rattle.b67_scenes.proofs.Finding.{found_laid, frame_near, place_near}
use Rattle.b67_scenes.proofs.Led.{IsLed, led_below}
use Rattle.b67_scenes.proofs.MadeNames.{no_simple}
use Rattle.b67_scenes.proofs.Scene.{Actor}
use Rattle.b67_scenes.proofs.Sights.{Seen, seen, cell_lies}

-- a reference to a cell is read back
pub cell_read : (c : Cell) → c.frame.stack < 2 ^ 10 → c.frame.at < 2 ^ 16 → c.index < 2 ^ 14 →
    as_sirw (cell_word c) ≡ Some (record { stack = c.frame.stack; displacement = c.frame.at; index = c.index })
cell_read c few low near = sirw_laws.back (record { stack = c.frame.stack; displacement = c.frame.at; index = c.index }) (few, (low, (near, tt)))

module _ (tree : PProgram) (code : Code) (texts : Texts) (actor : Actor tree code texts) where
  open actor use {w, lay, img, p, s}

  abbrev sc : Scopes
  sc = scopes_of tree

  -- the index of the cell of an array of an instance, by its number among the declared ones
  abbrev pub array_index : ℕ → ℕ → ℕ
  array_index i number =
      made_base sc (block_numbered sc.blocks ((instance_at w i).block)) + number

  -- the descriptor of an array, and where the frame lies in which it lies, below the floor of its process
  pub record ArrayPlace (i : ℕ) (name : List ℕ) (declared : DeclaredArray) (cell : ArrayCell) (a : Allotted) (of : IsArrayOf sc w lay i name declared cell a) : Type 0 where
    pub word : Word
    pub at : Place
    pub lows : map (λ (b : Bounds). b.low) cell.bounds ≡ lows_of declared.pairs
    pub sized : AreSized cell.bounds
    pub descriptor : DescriptorIs cell.bounds a word
    pub has : HasArray sc w lay i of.number declared cell a
    pub laid : numbered lay.places i ≡ Some at
    pub few : at.stack ≤ most_processes
    pub low : at.at < stack_limit
    pub known : (instance_at w i).block < length sc.blocks
    pub near : NearCell p img (record { frame = at; index = array_index i of.number })
    pub lies : word_at img.stacks (place at.stack (at.at + array_index i of.number)) ≡ Some word

  module _ (j : ℕ) (h : Seen tree code texts actor j) where
    abbrev framed_there : Framed sc w lay h.found.number h.found.lies.part.instance h.found.lies.outer (length h.found.lies.frame.lower) h.found.lies.frame.mark h.found.lies.frame.control h.found.lies.frame.cells
    framed_there = h.found.lies.owned.framed

    abbrev i : ℕ
    i = h.found.lies.part.instance

    abbrev here : Instance
    here = framed_there.instance

    here_is : here ≡ instance_at w i
    here_is = sym (ap or_no_instance framed_there.is)

    abbrev own : OwnCells sc w lay i here
    own = framed_cells sc w lay framed_there

    -- the descriptor among the cells of the frame
    record ArrayWord (k : ℕ) (name : List ℕ) (declared : DeclaredArray) (cell : ArrayCell) (a : Allotted) (of : IsArrayOf sc w lay k name declared cell a) : Type 0 where
      word : Word
      far : ℕ
      lows : map (λ (b : Bounds). b.low) cell.bounds ≡ lows_of declared.pairs
      sized : AreSized cell.bounds
      descriptor : DescriptorIs cell.bounds a word
      has : HasArray sc w lay k of.number declared cell a
      known : (instance_at w k).block < length sc.blocks
      far_is : 2 + far ≡ array_index k of.number
      lies : slice_get h.found.lies.frame.cells far ≡ Some word
      apart : found_from 0 (simple_cells sc (block_numbered sc.blocks ((instance_at w k).block))) name ≡ None

    module _ (name : List ℕ) (declared : DeclaredArray) (cell : ArrayCell) (a : Allotted) (of : IsArrayOf sc w lay i name declared cell a) where
      abbrev Known_there : Type 0
      Known_there = (found : OwnArray sc w lay i here own name of.number declared) × (found.cell ≡ cell) × (found.allotted ≡ a)

      found : Known_there
      found = known_array sc w lay i here own name declared cell a of

      abbrev far : ℕ
      far = length (simple_cells sc (block_numbered sc.blocks here.block)) + length (block_controls sc here.block framed_there.ats) + of.number

      has_here : cell_in (framed_there.simple ++ framed_there.arrays) name ≡ array cell
      has_here = ap (λ (cells : List NamedCell). cell_in cells name) (sym framed_there.has) ∙ ap (λ (x : Instance). cell_in x.cells name) here_is ∙ of.is

      there : ArrayWord i name declared cell a of
      there =
          record {
            word = found.0.word;
            far = far;
            lows = subst (λ (c : ArrayCell). map (λ (b : Bounds). b.low) c.bounds ≡ lows_of declared.pairs) found.1 found.0.lows;
            sized = subst (λ (c : ArrayCell). AreSized c.bounds) found.1 found.0.sized;
            descriptor =
                subst (λ (b : Allotted). DescriptorIs cell.bounds b found.0.word) found.2
                (subst (λ (c : ArrayCell). DescriptorIs c.bounds found.0.allotted found.0.word) found.1 found.0.descriptor);
            has =
                subst (λ (b : Allotted). HasArray sc w lay i of.number declared cell b) found.2
                (subst (λ (c : ArrayCell). HasArray sc w lay i of.number declared c found.0.allotted) found.1 found.0.has);
            known = subst (λ (x : Instance). x.block < length sc.blocks) here_is framed_there.known;
            far_is =
                omega (
                  arith,
                  ap (λ (x : Instance). made_base sc (block_numbered sc.blocks x.block)) here_is,
                  controls_many sc here.block framed_there.ats framed_there.each_has_place,
                );
            lies =
                ap (λ (ws : List Word). slice_get ws far) framed_there.cells_is
                ∙ descriptor_lies sc w lay i here own name of.number declared found.0 (block_controls sc here.block framed_there.ats);
            apart =
                ap (λ (x : Instance). found_from 0 (simple_cells sc (block_numbered sc.blocks x.block)) name) (sym here_is)
                ∙ no_simple (simple_cells sc (block_numbered sc.blocks here.block)) framed_there.simple framed_there.values framed_there.arrays name (array cell) framed_there.simple_are has_here refl;
          }

    word_there : (name : List ℕ) (declared : DeclaredArray) (cell : ArrayCell) (a : Allotted) (of : IsArrayOf sc w lay j name declared cell a) → ArrayWord j name declared cell a of
    word_there = subst (λ (k : ℕ). (name : List ℕ) (declared : DeclaredArray) (cell : ArrayCell) (a : Allotted) (of : IsArrayOf sc w lay k name declared cell a) → ArrayWord k name declared cell a of) h.found.lies.instance_is there

    module _ (nested : AreNested (scopes_of tree)) (name : List ℕ) (led : IsLed tree code texts actor (record { instance = j; name = name })) (declared : DeclaredArray) (cell : ArrayCell) (a : Allotted)
        (of : IsArrayOf sc w lay j name declared cell a) where
      x : ArrayWord j name declared cell a of
      x = word_there name declared cell a of

      below : length h.found.lies.frame.lower + (2 + x.far) < length h.found.core.below
      below =
          led_below tree code texts actor nested (record { instance = j; name = name }) led h x.apart x.far
          (get_within h.found.lies.frame.cells x.far x.word x.lies)

      place_seen : ArrayPlace j name declared cell a of
      place_seen =
          record {
            word = x.word;
            at = place h.found.number (length h.found.lies.frame.lower);
            lows = x.lows;
            sized = x.sized;
            descriptor = x.descriptor;
            has = x.has;
            laid = found_laid tree code texts w lay img j h.found;
            few = omega (arith, numbered_small w.processes h.found.number h.found.process h.found.is, s.by.few);
            low = omega (arith, below, h.found.small);
            known = x.known;
            near = (
              frame_near tree code texts w lay img j h.found p h.near,
              place_near tree code texts w lay img j h.found p (length h.found.lies.frame.lower + array_index j of.number) h.near (omega (arith, below, x.far_is)),
            );
            lies =
                ap (λ (n : ℕ). word_at img.stacks (place h.found.number (length h.found.lies.frame.lower + n))) (sym x.far_is)
                ∙ cell_lies tree code texts actor j h x.far x.word x.lies below;
          }

  pub array_place : AreNested (scopes_of tree) → (i : ℕ) (name : List ℕ) → IsLed tree code texts actor (record { instance = i; name = name }) → (declared : DeclaredArray) (cell : ArrayCell) (a : Allotted)
      (of : IsArrayOf sc w lay i name declared cell a) → ArrayPlace i name declared cell a of
  array_place nested i name led declared cell a of = place_seen i (seen tree code texts actor i led.reached) nested name led declared cell a of

  module _ (nested : AreNested sc) (i : ℕ) (name : List ℕ) (declared : DeclaredArray) (cell : ArrayCell) (a : Allotted) (of : IsArrayOf sc w lay i name declared cell a)
      (h : ArrayPlace i name declared cell a of) where
    -- the reference to its cell is read back
    pub place_read : as_sirw (cell_word (record { frame = h.at; index = array_index i of.number })) ≡ Some (record { stack = h.at.stack; displacement = h.at.at; index = array_index i of.number })
    place_read =
        cell_read (record { frame = h.at; index = array_index i of.number }) (omega (arith, h.few)) (omega (arith, h.low))
        (omega (
          arith,
          block_few sc nested ((instance_at w i).block) h.known,
          low_number 0 (made_of ((block_numbered sc.blocks ((instance_at w i).block)).decls)) name of.number declared of.found,
        ))
