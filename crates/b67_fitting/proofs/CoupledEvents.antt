-- Each name of an event has its couple, and of each label it is known where it leads.
use Rattle.std.proofs.Common.{arith, ◌≡◌, inl, inr, ℕ, ◌+◌, ◌-◌, ◌≤◌, Bool, true, false, List, [], ◌∷◌, length, Option, Some, None, refl, sym, ap, ◌∙◌, if◌then◌else◌}
use Rattle.std.specs.List.{flat_map}
use Rattle.algol_tree.specs.declared.tree.Named.{Named}
use Rattle.algol_tree.specs.Blocks.{Block, block_numbered}
use Rattle.algol_tree.specs.Cells as cells
use Rattle.algol_tree.specs.Cells.{level_of, level_at, couple_in}
use Rattle.algol_tree.specs.Classes as class
use Rattle.algol_tree.specs.Classes.{Class, is_label}
use Rattle.algol_tree.specs.Couples.{known_at, known_there, located}
use Rattle.algol_tree.specs.Scopes.{Use, use_of}
use Rattle.algol_tree.specs.Sites.{Site}
use Rattle.algol_tree.specs.Sorts as sort
use Rattle.algol_tree.specs.Sorts.{Sort, Declared, same_name}
use Rattle.algol_tree.specs.Surroundings.{Surroundings}
use Rattle.algol_tree.proofs.Names.{same_name_itself}
use Rattle.algol_paths.specs.Arrays.{an_event}
use Rattle.algol_paths.specs.Segments.{segment_of}
use Rattle.b67_templates.specs.Cells.{Simple, event, simple_cells, found_from}
use Rattle.b67_templates.specs.Labels.{labels_in, labels_before, label_from, label_number, table_place}
use Rattle.b67_templates.specs.Fitting as fitting
use Rattle.b67_templates.specs.Fitting.{Target, Told, EventFits, its_own, its_actual, LabelFits, TaskFits}
use Rattle.b67_fitting.specs.Fitted.{meant_as, target_numbered}
use Rattle.b67_fitting.specs.Typing.{IsEventful}
use Rattle.b67_fitting.proofs.Aligned.{IsAt}
use Rattle.b67_fitting.proofs.Apart.{IsIn}
use Rattle.b67_fitting.proofs.Blocked.{numbered}
use Rattle.b67_fitting.proofs.Coupled.{the_use, AreTold, IsProgram, scopes, simples_of, acts_of, frame_of, own_couple}
use Rattle.b67_fitting.proofs.CoupledArrays.{HaveActs, made_fits}
use Rattle.b67_fitting.proofs.Framing.{simple_is, framed_parameter}
use Rattle.b67_fitting.proofs.Known as known
use Rattle.b67_fitting.proofs.Known.{IsEvented, IsLabelled}

-- a label has a number by its name
label_among : (k : ℕ) (ns : List Named) (one : Named) (name : List ℕ) → IsIn one ns → one.name ≡ name → (number : ℕ) × (label_from k ns name ≡ Some number)
label_among k [] one name i e = absurd i
label_among k (n ∷ ns) one name i e = by (same_name n.name name) refl i (λ j. label_among (k + 1) ns one name j e)
  where
    by : (b : Bool) → same_name n.name name ≡ b → IsIn one (n ∷ ns) → (IsIn one ns → (number : ℕ) × (label_from (k + 1) ns name ≡ Some number)) →
        (number : ℕ) × ((if b then Some k else label_from (k + 1) ns name) ≡ Some number)
    by true g j later = (k, refl)
    by false g (inl same) later =
        let clash : true ≡ false = sym (same_name_itself name) ∙ ap (λ (z : List ℕ). same_name z name) (sym e ∙ ap (λ (z : Named). z.name) same) ∙ g in
        absurd cc
    by false g (inr j) later = later j

-- what a block declares as an event or a task is known to be an event, and no parameter
own_event : (c : Class) (s : Sort) → IsEventful c → s ≡ sort.event → meant_as c s ≡ fitting.an_event false
own_event c s (inl e) f = ap (λ (z : Class). meant_as z s) e ∙ ap (meant_as class.event) f
own_event c s (inr e) f = ap (λ (z : Class). meant_as z s) e

module _ (blocks : List Block) (all : List Site) (is : IsProgram blocks all) (told : Told) (are : AreTold blocks all told) (a : Surroundings) (level : ℕ) (at : a.depth + 2 ≡ level) (n : Named) (d : Declared) (is_known : known_there (flat_map (known_at blocks) all) n.spot ≡ Some d) where
  -- an event or a task that a block declares
  pub task_fits : HaveActs blocks all is → use_of (scopes blocks all is) n ≡ the_use a n d → IsEvented blocks a.depth n.name d → TaskFits (scopes blocks all is) told level (Some n)
  task_fits many u h =
      let r = made_fits blocks all is many told are a level at n d is_known h.in_block h.there h.block_is h.depth_is h.within h.among (an_event n.name) h.made h.other h.past h.simple u in
      (r.couple, r.known_is, are.meant n.spot d is_known ∙ own_event d.class d.sort h.class_is h.sort_is, record { sort_is = ap (λ (z : Use). z.sort) u ∙ h.sort_is; made = r.there })

  pub event_fits : HaveActs blocks all is → use_of (scopes blocks all is) n ≡ the_use a n d → IsEvented blocks a.depth n.name d → EventFits (scopes blocks all is) told level n
  event_fits many u h = let f = task_fits many u h in its_own f.0 f.1 f.2 f.3

  -- a parameter that stands for an event
  pub formal_event_fits : use_of (scopes blocks all is) n ≡ the_use a n d → known.IsFormalEvent blocks a.depth n.name d → EventFits (scopes blocks all is) told level n
  formal_event_fits u h =
      let b = h.in_block in
      let sc = scopes blocks all is in
      let home = is.homes b h.there in
      let r : IsAt 0 2 (simples_of blocks all is b) (frame_of blocks all is b) n.name d.spot event = framed_parameter blocks b home (acts_of blocks all is b) n.name d.spot event h.place.aligned 0 2 refl in
      let c : cells.Couple = record { level = level_of b; index = 2 + r.number } in
      let own : couple_in blocks all d.block d.spot ≡ Some c =
      own_couple blocks all is told are a level at n d is_known b h.there h.block_is c.index r.index in
      let up : length b.outer + 2 + (a.depth - d.depth) ≡ level = omega (arith, at, h.within, h.depth_is) in
      its_actual (record { level = c.level; index = c.index }) (are.couples n.spot _ c (ap (located blocks all) is_known) own)
      (are.meant n.spot d is_known ∙ ap (λ (z : Class). meant_as z d.sort) h.class_is ∙ ap (meant_as class.event) h.sort_is)
      (record {
        sort_is = ap (λ (z : Use). z.sort) u ∙ h.sort_is;
        found = record { number = r.number; cell = r.cell };
        there =
            ap (λ (z : Use). found_from 0 (simple_cells sc (block_numbered blocks z.block)) n.name) u
            ∙ ap (λ (z : ℕ). found_from 0 (simple_cells sc (block_numbered blocks z)) n.name) h.block_is
            ∙ ap (λ (z : Block). found_from 0 (simple_cells sc z) n.name) (numbered blocks b is.blocks_apart h.there)
            ∙ ap (λ (z : List Simple). found_from 0 z n.name) (simple_is blocks b home (acts_of blocks all is b) sc.uses) ∙ r.found;
        wanted_is = r.wanted_is;
        level_is = ap (λ (z : Use). length b.outer + 2 + z.up) u ∙ up;
        index_is = refl;
      })

  -- a label leads to the place of its branch in the table of its segment, at the level of its block
  pub label_fits : use_of (scopes blocks all is) n ≡ the_use a n d → IsLabelled blocks a.depth n.name d → LabelFits (scopes blocks all is) told level n
  label_fits u h =
      let b = h.in_block in
      let sc = scopes blocks all is in
      let block_is : block_numbered blocks d.block ≡ b = ap (block_numbered blocks) h.block_is ∙ numbered blocks b is.blocks_apart h.there in
      let first = labels_before sc (segment_of blocks d.block) d.block in
      let r = label_among first (labels_in b.decls) h.one n.name h.among h.one_name in
      let number_is : label_number sc d.block n.name ≡ Some r.0 = ap (λ (z : Block). label_from first (labels_in z.decls) n.name) block_is ∙ r.1 in
      let target : Target = record { level = level_at d.depth; segment = segment_of blocks d.block; entry = table_place r.0 } in
      let level_is : level_at d.depth + (a.depth - d.depth) ≡ level = omega (arith, at, h.within) in (
        target,
        are.labels n.spot d is_known
            ∙ ap (λ (z : Class). if is_label z then target_numbered (level_at d.depth) (segment_of blocks d.block) (label_number sc d.block d.name) else None) h.class_is
            ∙ ap (λ (z : List ℕ). target_numbered (level_at d.depth) (segment_of blocks d.block) (label_number sc d.block z)) h.name_is
            ∙ ap (λ (o : Option ℕ). target_numbered (level_at d.depth) (segment_of blocks d.block) o) number_is,
        record {
          sort_is = ap (λ (z : Use). z.sort) u ∙ h.sort_is;
          number = r.0;
          there = ap (λ (z : Use). label_number sc z.block n.name) u ∙ number_is;
          outer = (let low : 2 ≤ d.depth + 2 = omega arith in low);
          level_is = ap (λ (z : Use). level_at d.depth + z.up) u ∙ level_is;
          segment_is = ap (λ (z : Use). segment_of blocks z.block) (sym u);
          entry_is = refl;
        },
      )
