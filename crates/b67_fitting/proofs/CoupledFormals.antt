-- Each name of a parameter that stands for an array has the couple of the parameter's cell and the lower bounds of its specification.
use Rattle.std.proofs.Common.{arith, ◌≡◌, ℕ, ◌+◌, ◌-◌, true, List, length, Some, refl, sym, ap, ◌∙◌}
use Rattle.std.specs.List.{flat_map}
use Rattle.algol_tree.specs.declared.tree.Named.{Named}
use Rattle.algol_tree.specs.Blocks.{Block, block_numbered}
use Rattle.algol_tree.specs.Cells as cells
use Rattle.algol_tree.specs.Cells.{level_of, couple_in}
use Rattle.algol_tree.specs.Couples.{known_at, known_there, located}
use Rattle.algol_tree.specs.Scopes.{Use, use_of}
use Rattle.algol_tree.specs.Sites.{Site}
use Rattle.algol_tree.specs.Sorts.{Sort, Declared, is_formal}
use Rattle.algol_tree.specs.Surroundings.{Surroundings}
use Rattle.algol_paths.specs.Arrays.{Shape}
use Rattle.b67_templates.specs.Cells.{Simple, array, formal, simple_cells, found_from}
use Rattle.b67_templates.specs.Fitting.{Told}
use Rattle.b67_fitting.proofs.Aligned.{IsAt}
use Rattle.b67_fitting.proofs.Blocked.{numbered}
use Rattle.b67_fitting.proofs.Coupled.{the_use, AreTold, IsProgram, scopes, simples_of, acts_of, frame_of, own_couple}
use Rattle.b67_fitting.proofs.Framing.{simple_is, framed_parameter}
use Rattle.b67_fitting.proofs.Known.{IsFormal}
use Rattle.b67_fitting.proofs.LowsFound.{lows_found}
use Rattle.b67_fitting.proofs.Placed.{RowFits}

module _ (blocks : List Block) (all : List Site) (is : IsProgram blocks all) (told : Told) (are : AreTold blocks all told) (a : Surroundings) (level : ℕ) (at : a.depth + 2 ≡ level) (n : Named) (d : Declared) (is_known : known_there (flat_map (known_at blocks) all) n.spot ≡ Some d) where
  pub formal_fits : (shape : Shape) → use_of (scopes blocks all is) n ≡ the_use a n d → IsFormal blocks a.depth n.name d shape →
      RowFits (scopes blocks all is) told level n shape.kind (length shape.lows)
  formal_fits shape u h =
      let b = h.in_block in
      let sc = scopes blocks all is in
      let home = is.homes b h.there in
      let r : IsAt 0 2 (simples_of blocks all is b) (frame_of blocks all is b) n.name d.spot (array shape) = framed_parameter blocks b home (acts_of blocks all is b) n.name d.spot (array shape) h.place.aligned 0 2 refl in
      let c : cells.Couple = record { level = level_of b; index = 2 + r.number } in
      let own : couple_in blocks all d.block d.spot ≡ Some c =
      own_couple blocks all is told are a level at n d is_known b h.there h.block_is c.index r.index in
      let up : length b.outer + 2 + (a.depth - d.depth) ≡ level = omega (arith, at, h.within, h.depth_is) in
      record {
        shape = shape;
        fits = record {
          couple = record { level = c.level; index = c.index };
          known_is = are.couples n.spot _ c (ap (located blocks all) is_known) own;
          array = formal (record {
            sort_is = ap (λ (z : Use). z.sort) u ∙ h.sort_is;
            found = record { number = r.number; cell = r.cell };
            there =
                ap (λ (z : Use). found_from 0 (simple_cells sc (block_numbered blocks z.block)) n.name) u
                ∙ ap (λ (z : ℕ). found_from 0 (simple_cells sc (block_numbered blocks z)) n.name) h.block_is
                ∙ ap (λ (z : Block). found_from 0 (simple_cells sc z) n.name) (numbered blocks b is.blocks_apart h.there)
                ∙ ap (λ (z : List Simple). found_from 0 z n.name) (simple_is blocks b home (acts_of blocks all is b) sc.uses) ∙ r.found;
            wanted_is = r.wanted_is;
            level_is = ap (λ (z : Use). length b.outer + 2 + z.up) u ∙ up;
            index_is = refl;
          });
          lows_are =
              are.lows n.spot _ (ap (located blocks all) is_known)
              ∙ lows_found blocks all is blocks (λ c i. i) h.place.owner h.place.owner_there d.spot (record { list = shape.lows; formal = true }) h.place.lows
              ∙ ap (λ (s : Sort). Some (record { list = shape.lows; formal = is_formal s })) (sym (ap (λ (z : Use). z.sort) u ∙ h.sort_is));
        };
        kind_is = refl;
        rank_is = refl;
        dimensions = h.dimensions;
      }
