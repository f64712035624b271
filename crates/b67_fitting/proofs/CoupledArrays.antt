-- Each name of what a block makes has its couple, and that of an array the lower bounds of its declaration.
use Rattle.std.proofs.Common.{arith, ◌≡◌, ℕ, ◌+◌, ◌-◌, ◌≤◌, false, List, length, Some, refl, sym, ap, ◌∙◌, subst}
use Rattle.std.proofs.lemmas.List.{length-map}
use Rattle.std.specs.List.{flat_map, AllByRecursion}
use Rattle.algol_tree.specs.declared.token.Spot.{Spot}
use Rattle.algol_tree.specs.declared.tree.Kind.{Kind}
use Rattle.algol_tree.specs.declared.tree.Named.{Named}
use Rattle.algol_tree.specs.Blocks.{Block, block_numbered, number_at}
use Rattle.algol_tree.specs.Cells as cells
use Rattle.algol_tree.specs.Cells.{Cell, level_of, couple_in}
use Rattle.algol_tree.specs.Couples.{known_at, known_there, located}
use Rattle.algol_tree.specs.Names.{name_is_one_of, result_names_of}
use Rattle.algol_tree.specs.Plain.{PPair}
use Rattle.algol_tree.specs.Scopes.{Use, use_of}
use Rattle.algol_tree.specs.Sites.{Site}
use Rattle.algol_tree.specs.Sorts.{same_name, Sort, Declared, is_formal}
use Rattle.algol_tree.specs.Surroundings.{Surroundings}
use Rattle.algol_paths.specs.Arrays.{shape_of, lows_of, Made, an_array}
use Rattle.b67_ops.specs.declared.Couple.{Couple}
use Rattle.b67_templates.specs.Cells.{Simple, IsMadeThere, declared, made_of, made_from, simple_cells, variables, procedures, found_from, actuals_of}
use Rattle.b67_templates.specs.Fitting.{Told}
use Rattle.b67_fitting.proofs.Apart.{IsIn, in_each, IsApart, apart_sym}
use Rattle.b67_fitting.proofs.Arrayed.{made_spots, IsMade}
use Rattle.b67_fitting.proofs.Blocked.{numbered}
use Rattle.b67_fitting.proofs.Coupled.{the_use, AreTold, IsProgram, scopes, simples_of, acts_of, own_couple}
use Rattle.b67_fitting.proofs.Frames.{made_cells}
use Rattle.b67_fitting.proofs.Framing.{simple_is}
use Rattle.b67_fitting.proofs.FramingArrays.{made_index, no_simple}
use Rattle.b67_fitting.proofs.Known.{given_cells, IsRowed}
use Rattle.b67_fitting.proofs.LowsFound.{lows_found, made_there, act_elsewhere}
use Rattle.b67_fitting.proofs.Placed.{RowFits}
use Rattle.b67_fitting.proofs.TypedBounds.{dimensions_of}

-- a block has as many actuals with cells as cells of actuals
abbrev pub HaveActs : (blocks : List Block) (all : List Site) → IsProgram blocks all → Type 0
HaveActs blocks all is = (b : Block) → IsIn b blocks → length (acts_of blocks all is b) ≡ length (actuals_of (scopes blocks all is) b)

module _ (blocks : List Block) (all : List Site) (is : IsProgram blocks all) where
  -- they stand apart from an array, an event or a task of the block
  acts_far_made : (b : Block) → IsIn b blocks → (s : Spot) → IsIn s (made_spots b.decls) → AllByRecursion (λ (c : Cell). IsApart c.spot s) (acts_of blocks all is b)
  acts_far_made b t s i =
      in_each (λ (c : Cell). IsApart c.spot s) (acts_of blocks all is b)
      (λ c j.
      apart_sym s c.spot
      (act_elsewhere blocks all is b c j (record { block = number_at blocks b.spot; spot = s; content = cells.made }) (made_there blocks all is b t s i)
      (λ e. let clash : cells.made ≡ cells.actual = e in cc)))

  module _ (many : HaveActs blocks all is) (told : Told) (are : AreTold blocks all told) (a : Surroundings) (level : ℕ) (at : a.depth + 2 ≡ level) (n : Named) (d : Declared) (is_known : known_there (flat_map (known_at blocks) all) n.spot ≡ Some d) where
    -- what the block makes of that name has its couple
    pub record IsCoupled (made : Made) : Type 0 where
      pub couple : Couple
      pub known_is : told.couples n.spot ≡ Some couple
      pub there : IsMadeThere (scopes blocks all is) level n made couple

    pub made_fits : (b : Block) → IsIn b blocks → d.block ≡ number_at blocks b.spot → d.depth ≡ length b.outer → d.depth ≤ a.depth → IsIn d.spot (made_spots b.decls) → (made : Made) →
        IsMade (made_of b.decls) (made_cells (number_at blocks b.spot) b.decls) n.name d.spot made → name_is_one_of (result_names_of (block_numbered blocks d.block)) n.name ≡ false →
        AllByRecursion (λ (x : Simple). same_name x.name n.name ≡ false) (given_cells blocks b) → AllByRecursion (λ (x : Simple). same_name x.name n.name ≡ false) (variables b.decls) →
        use_of (scopes blocks all is) n ≡ the_use a n d → IsCoupled made
    made_fits b t i depth_is within among made r o past simple u =
        let sc = scopes blocks all is in
        let home = is.homes b t in
        let acts = acts_of blocks all is b in
        let c : cells.Couple = record { level = level_of b; index = 2 + length (simples_of blocks all is b) + length (procedures b.decls) + length acts + r.number } in
        let index = made_index blocks b home acts n.name d.spot made (acts_far_made b t d.spot among) among r in
        let own : couple_in blocks all d.block d.spot ≡ Some c =
        own_couple blocks all is told are a level at n d is_known b t i c.index index in
        let block_is : block_numbered blocks ((use_of sc n).block) ≡ b =
        ap (λ (z : Use). block_numbered blocks z.block) u ∙ ap (block_numbered blocks) i ∙ numbered blocks b is.blocks_apart t in
        let up : length b.outer + 2 + (a.depth - d.depth) ≡ level = omega (arith, at, within, depth_is) in
        let other : name_is_one_of (result_names_of b) n.name ≡ false =
        subst (λ (z : Block). name_is_one_of (result_names_of z) n.name ≡ false) (ap (block_numbered blocks) i ∙ numbered blocks b is.blocks_apart t) o in
        let cells_are : simple_cells sc (block_numbered blocks ((use_of sc n).block)) ≡ simples_of blocks all is b = ap (simple_cells sc) block_is ∙ simple_is blocks b home acts sc.uses in
        record {
          couple = record { level = c.level; index = c.index };
          known_is = are.couples n.spot _ c (ap (located blocks all) is_known) own;
          there = record {
            number = r.number;
            there =
                ap (λ (z : Block). made_from 0 (made_of z.decls) n.name) block_is ∙ r.found 0
                ∙ ap (λ (m : ℕ). Some (record { number = m; made = made })) (let same : 0 + r.number ≡ r.number = omega arith in same);
            apart = ap (λ (z : List Simple). found_from 0 z n.name) cells_are ∙ no_simple blocks b home acts n.name other past simple;
            outer = (let low : 2 ≤ length b.outer + 2 = omega arith in low);
            level_is = ap (λ (z : Use). length b.outer + 2 + z.up) u ∙ up;
            index_is =
                ap (λ (z : List Simple). 2 + length z + length (procedures b.decls) + length acts + r.number) (sym cells_are)
                ∙ ap (λ (z : Block). 2 + length (simple_cells sc (block_numbered blocks ((use_of sc n).block))) + length (procedures z.decls) + length acts + r.number) (sym block_is)
                ∙ ap
                (λ (m : ℕ).
                2 + length (simple_cells sc (block_numbered blocks ((use_of sc n).block))) + length (procedures (block_numbered blocks ((use_of sc n).block)).decls) + m + r.number)
                (many b t ∙ ap (λ (z : Block). length (actuals_of sc z)) (sym block_is));
          };
        }

    pub row_fits : (k : Kind) (rank : ℕ) → use_of (scopes blocks all is) n ≡ the_use a n d → IsRowed blocks a.depth n.name d k rank → RowFits (scopes blocks all is) told level n k rank
    row_fits k rank u h =
        let r = made_fits h.in_block h.there h.block_is h.depth_is h.within h.among (an_array h.array) h.arrayed h.other h.past h.simple u in
        record {
          shape = shape_of h.array;
          fits = record {
            couple = r.couple;
            known_is = r.known_is;
            array = declared h.array refl (record { sort_is = ap (λ (z : Use). z.sort) u ∙ h.sort_is; made = r.there });
            lows_are =
                are.lows n.spot _ (ap (located blocks all) is_known)
                ∙ lows_found blocks all is blocks (λ c i. i) h.in_block h.there d.spot (record { list = lows_of h.array.pairs; formal = false }) h.lows
                ∙ ap (λ (s : Sort). Some (record { list = lows_of h.array.pairs; formal = is_formal s })) (sym (ap (λ (z : Use). z.sort) u ∙ h.sort_is));
          };
          kind_is = h.kind_is;
          rank_is = length-map h.array.pairs (λ (p : PPair). p.low) ∙ h.rank_is;
          dimensions = dimensions_of h.array.pairs h.dimensions h.whole;
        }
