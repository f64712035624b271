-- Where a process that stands at its action is led by names and by cells: the frames that its display names, and what it may look at there.
use Rattle.std.proofs.Common.{◌≡◌, inl, refl, sym, ap, ◌∙◌, subst, ℕ, zero, suc, ◌+◌, ◌-◌, ◌<◌, ◌≤◌, Bool, true, false, List, [], ◌∷◌, length, Some, None, arith}
use Rattle.b67_list.proofs.Lists.{get_within}
use Rattle.b67_list.proofs.Numbers.{none_some}
use Rattle.b67_scenes.proofs.Prelude.{slice_get, numbered, block_numbered, around, PProgram, Scopes, scopes_of, use_of, Named, is_evaluation, Reference, Cell, reference, NamedCell, Instance, instance_at, or_no_instance, ancestor, BlockIsSeen, IsSeenAround, InRest, has_simple, home_forth, top_stands, IsLow, IsInSkeleton, IsStanding, IsOwn, IsWholeInstance, IsAmongParts, IsNoBlock, referred_in_cells, newest_own, OUTER_LEVEL, Code, place, display_at, found_from, simple_cells, AreNested, Texts, some_same, length_around, HasFacts, facts_of, IsParent, named_from, IsInReach, ArePlaced}
use Rattle.algol_meaning.specs.Critical.{referred_in}
use Rattle.algol_standing.specs.Worlds.{parent_in, home_of}
use Rattle.algol_standing.specs.Lows.{CellLow, CellsLow}
use Rattle.algol_standing.proofs.Seen.{part_stands, home_path, in_back}
use Rattle.b67_rows.proofs.Parents.{ancestor_up}
use Rattle.b67_frames.proofs.Facts.{referred_there}
use Rattle.b67_frames.proofs.StaticParents.{parents}
use Rattle.b67_scenes.proofs.Finding.{found_laid}
use Rattle.b67_scenes.proofs.Paths.{path_stands, path_further, up_path}
use Rattle.b67_scenes.proofs.Scene.{Actor}
use Rattle.b67_scenes.proofs.Sights.{Seen, seen, made_below}
use Rattle.b67_scenes.proofs.SimpleNames.{simple_found}
use Rattle.b67_scenes.proofs.Staying.{names_in}
use Rattle.b67_scenes.proofs.Worlds.{placed_of}

-- of all cells each one is low
low_there : (sc : Scopes) (b i : ℕ) (cells : List NamedCell) (k : ℕ) (c : NamedCell) → CellsLow sc b i cells → slice_get cells k ≡ Some c → CellLow sc b i c.cell
low_there sc b i [] k c are e = none_some e
low_there sc b i (d ∷ cells) zero c are e = subst (λ (x : NamedCell). CellLow sc b i x.cell) (some_same e) are.0
low_there sc b i (d ∷ cells) (suc k) c are e = low_there sc b i cells k c are.1 e

module _ (tree : PProgram) (code : Code) (texts : Texts) (actor : Actor tree code texts) where
  open actor use {w, lay, img, p, q, part, outer, core, s}

  abbrev sc : Scopes
  sc = scopes_of tree

  abbrev block : ℕ
  block = (instance_at w part.instance).block

  abbrev level : ℕ
  level = names_in tree w part

  pub scene_facts : HasFacts w
  scene_facts = facts_of (scopes_of tree) w s.ok

  pub scene_placed : ArePlaced (scopes_of tree) w lay
  scene_placed = placed_of tree code texts w lay img s.by s.ok

  -- what is in reach stands
  pub reached_stands : (i : ℕ) → IsInReach w (part ∷ outer) i → IsStanding w i
  reached_stands i path = path_stands sc w s.ok (newest_own (part ∷ outer)) i (top_stands sc IsWholeInstance w s.ok.sound p q part outer s.at s.todo) path

  pub part_there : IsStanding w part.instance
  part_there = part_stands (scopes_of tree) IsWholeInstance w s.ok.sound p q part outer s.at s.todo

  -- ---- names

  module _ (n : Named) (is_seen : BlockIsSeen (scopes_of tree) ((instance_at w part.instance).block) n) where
    abbrev up : ℕ
    up = (use_of sc n).up

    abbrev home : ℕ
    home = ancestor w up part.instance

    -- the instance that holds what a name means is in reach, and so its frame is seen
    pub named_reached : IsInReach w (part ∷ outer) (ancestor w ((use_of (scopes_of tree) n).up) part.instance)
    named_reached = home_path sc IsWholeInstance w s.ok.sound p q part outer s.at s.todo n is_seen

    pub named_seen : Seen tree code texts actor (ancestor w ((use_of (scopes_of tree) n).up) part.instance)
    named_seen = seen tree code texts actor home named_reached

    pub named_parent : IsParent (scopes_of tree) w lay part.instance ((use_of (scopes_of tree) n).up) ((use_of (scopes_of tree) n).block)
    named_parent = parents sc w lay scene_placed part.instance part_there up ((use_of sc n).block) is_seen

    low : up + OUTER_LEVEL ≤ level
    low = omega (arith, length_around sc.blocks block, get_within (block ∷ around sc.blocks block) up ((use_of sc n).block) is_seen)

    -- the display has its place at the level of its block, and names its frame
    pub named_at : (at : ℕ) → at + (use_of (scopes_of tree) n).up ≡ names_in tree w part → display_at core.registers at ≡ numbered lay.places (ancestor w ((use_of (scopes_of tree) n).up) part.instance)
    named_at at level_is =
        let far : at ≡ level - up = omega (arith, level_is) in
        ap (λ (k : ℕ). display_at core.registers k) far ∙ s.stands.chained up low

    pub named_shown : (at : ℕ) → at + (use_of (scopes_of tree) n).up ≡ names_in tree w part → (h : Seen tree code texts actor (ancestor w ((use_of (scopes_of tree) n).up) part.instance)) →
        display_at core.registers at ≡ Some (place h.found.number (length h.found.lies.frame.lower))
    named_shown at level_is h = named_at at level_is ∙ found_laid tree code texts w lay img home h.found

  -- ---- cells that are made

  -- It leads to an instance in reach; where another process is making cells of that, to one that is there from its entry on.
  pub record IsLed (r : Reference) : Type 0 where
    pub reached : IsInReach w (part ∷ outer) r.instance
    pub within : (IsOwn (part ∷ outer) r.instance → ⊥) → IsLow (scopes_of tree) w r.instance → has_simple (block_numbered (scopes_of tree).blocks ((instance_at w r.instance).block)) r.name ≡ true

  -- so does a reference that a cell of an instance in reach has, and an actual's
  module _ (j : ℕ) (path : IsInReach w (part ∷ outer) j) (k : ℕ) (x : Instance) (c : NamedCell) (is : numbered w.instances j ≡ Some x) (stands : x.left ≡ false) (there : slice_get x.cells k ≡ Some c) where
    pub cell_reached : (i : ℕ) → IsInSkeleton (referred_in c.cell) i → IsInReach w (part ∷ outer) i
    cell_reached i inside =
        path_further sc w s.ok (newest_own (part ∷ outer)) j i path
        (s.ok.sound.skeleton_ok.refers j (home_of x) i (reached_stands j path) (home_forth w j x is) (in_back (parent_in x.parent) (referred_in_cells x.cells) i (referred_there x.cells k c i there inside)))

    pub cell_within : (i : ℕ) → IsLow (scopes_of tree) w i → CellLow (scopes_of tree) ((instance_at w i).block) i c.cell
    cell_within i is_low = low_there (scopes_of tree) ((instance_at w i).block) i x.cells k c (is_low.instances j x is stands).cells there

    pub cell_led : (r : Reference) → c.cell ≡ reference r → IsLed r
    cell_led r same =
        record {
          reached = cell_reached r.instance (subst (λ (d : Cell). IsInSkeleton (referred_in d) r.instance) (sym same) (inl refl));
          within = λ other is_low. subst (λ (d : Cell). CellLow sc ((instance_at w r.instance).block) r.instance d) same (cell_within r.instance is_low) refl;
        }

  -- So does the name of what a block declares, where an evaluation that keeps to what is around its block keeps to what other instances have.
  module _ (n : Named) (is_seen : BlockIsSeen (scopes_of tree) ((instance_at w part.instance).block) n)
      (keeps : InRest (IsSeenAround (scopes_of tree) ((instance_at w part.instance).block)) IsNoBlock (IsSeenAround (scopes_of tree) ((instance_at w part.instance).block)) part.rest → 1 ≤ (use_of (scopes_of tree) n).up) where
    -- none that is declared is one that another process is making
    not_low : (far : ℕ) → far ≡ (use_of sc n).up → (IsOwn (part ∷ outer) (ancestor w far part.instance) → ⊥) → IsLow sc w (ancestor w far part.instance) → IsStanding w (ancestor w far part.instance) → ⊥
    not_low zero e other is_low st = by_purpose (is_evaluation part.purpose) refl
      where
        by_purpose : (b : Bool) → is_evaluation part.purpose ≡ b → ⊥
        by_purpose false owns = other (inl (owns, refl))
        by_purpose true evaluates =
            absurd (omega (arith, e, keeps ((is_low.parts p q part s.at (subst (λ ps. IsAmongParts ps part) (sym s.todo) (inl refl))).narrow evaluates refl)))
    not_low (suc far) e other is_low st = by_instance (scene_facts.there (ancestor w far part.instance) lower)
      where
        lower : IsStanding w (ancestor w far part.instance)
        lower = path_stands sc w s.ok part.instance (ancestor w far part.instance) part_there (up_path sc w s.ok part.instance far part_there (omega (arith, e, low n is_seen)))

        by_instance : (x : Instance) × (numbered w.instances (ancestor w far part.instance) ≡ Some x) × (x.left ≡ false) → ⊥
        by_instance x =
            (is_low.instances (ancestor w far part.instance) x.0 x.1 x.2).childless
            (ap (λ o. (or_no_instance o).parent) (sym x.1) ∙ sym (ancestor_up w far part.instance))

    pub declared_led : IsLed (named_from (scopes_of tree) w lay part.instance n)
    declared_led =
        record {
          reached = named_reached n is_seen;
          within = λ other is_low. absurd (not_low ((use_of sc n).up) refl other is_low (reached_stands (ancestor w ((use_of sc n).up) part.instance) (named_reached n is_seen)));
        }

  -- the cell of an array or event to which it leads lies below the floor
  pub led_below : AreNested (scopes_of tree) → (r : Reference) → IsLed r → (h : Seen tree code texts actor r.instance) →
      found_from 0 (simple_cells (scopes_of tree) (block_numbered (scopes_of tree).blocks ((instance_at w r.instance).block))) r.name ≡ None →
      (n : ℕ) → n < length h.found.lies.frame.cells → length h.found.lies.frame.lower + (2 + n) < length h.found.core.below
  led_below nested r led h apart n within = made_below tree code texts actor r.instance h n within no_low
    where
      known : (instance_at w r.instance).block < length sc.blocks
      known =
          subst (λ (x : Instance). x.block < length sc.blocks)
          (sym (ap (instance_at w) (sym h.found.lies.instance_is) ∙ ap or_no_instance h.found.lies.owned.framed.is)) h.found.lies.owned.framed.known

      no_low : (IsOwn (part ∷ outer) r.instance → ⊥) → IsLow sc w r.instance → ⊥
      no_low other is_low =
          let f = simple_found r.name sc (block_numbered sc.blocks ((instance_at w r.instance).block)) (nested.each ((instance_at w r.instance).block) known).parameters (led.within other is_low) in
          none_some (sym apart ∙ f.1)
