-- Where a process finds an array: its descriptor lies in the frame of an instance in reach. A name that a block declares means one that is made;
-- that of a parameter leads to one.
use Rattle.std.proofs.Common.{◌≡◌, ◌⊎◌, inl, inr, refl, sym, ap, ◌∙◌, subst, ℕ, ◌+◌, ◌<◌, ◌≤◌, ◌^◌, List, ◌∷◌, length, Option, Some, true, false, arith}
use Rattle.b67_scenes.proofs.Prelude.{length-map, block_numbered, level_of, PProgram, PBody, Scopes, scopes_of, use_of, Sort, Named, ask, Reference, Bounds, ArrayCell, Cell, Instance, instance_at, or_no_instance, ancestor, by_cell, followed, DeclaredArray, BlockIsSeen, IsSeenAround, IsInner, InRest, IsNoBlock, Word, Place, as_sirw, Sirw, Couple, Code, word_at, place, display_at, cell_place, sirw_cell, simple_cells, made_base, found_from, IsFormalArray, made_of, made_from, AreNested, Texts, some_same, ArraySeen, NearCell, block_few, low_number, up_complete, OwnCells, framed_cells, OwnArray, none_later, IsParent, CountsBy, Allotted, DescriptorIs, AreSized, HasArray, IsArrayOf, named_from, IsComplete, IsInReach, Framed}
use Rattle.algol_tree.specs.Sorts.{is_variable, is_formal}
use Rattle.algol_paths.specs.Arrays.{an_array, Shape, shape_of}
use Rattle.b67_templates.specs.Cells.{IsDeclaredArray, IsArray, declared, formal}
use Rattle.b67_rows.proofs.AskedElements.{array_asked, array_seen}
use Rattle.b67_frames.proofs.OwnCells.{all_made, own_array}
use Rattle.b67_frames.proofs.Subscripts.{by_own, by_others}
use Rattle.b67_scenes.proofs.ArrayPlaces.{array_index, ArrayPlace, array_place}
use Rattle.b67_scenes.proofs.FormalHomes.{FormalHome, formal_home}
use Rattle.b67_scenes.proofs.Led.{IsLed, declared_led, named_parent, named_seen, named_at}
use Rattle.b67_scenes.proofs.Narrowing.{made_or_around}
use Rattle.b67_scenes.proofs.Scene.{Actor}
use Rattle.b67_scenes.proofs.Sights.{Seen}
use Rattle.b67_scenes.proofs.Staying.{names_in}

module _ (tree : PProgram) (code : Code) (texts : Texts) (nested : AreNested (scopes_of tree)) (actor : Actor tree code texts) where
  open actor use {w, lay, img, p, part, outer, core, s}

  abbrev sc : Scopes
  sc = scopes_of tree

  abbrev level : ℕ
  level = names_in tree w part

  abbrev block : ℕ
  block = (instance_at w part.instance).block

  abbrev named : Named → Reference
  named n = named_from sc w lay part.instance n

  -- the cell that a couple names has this word, or a reference to the cell that has it
  pub data Reaches (couple : Couple) (word : Word) : Type 0 where
    directly : (home : Place) → display_at core.registers couple.level ≡ Some home → NearCell p img (record { frame = home; index = couple.index }) →
        word_at img.stacks (place home.stack (home.at + couple.index)) ≡ Some word → Reaches couple word
    by_reference : (home : Place) (first : Word) (r : Sirw) → display_at core.registers couple.level ≡ Some home → NearCell p img (record { frame = home; index = couple.index }) →
        word_at img.stacks (place home.stack (home.at + couple.index)) ≡ Some first → as_sirw first ≡ Some r → NearCell p img (sirw_cell r) →
        word_at img.stacks (cell_place (sirw_cell r)) ≡ Some word → Reaches couple word

  -- The array to whose cell this reference leads: its instance, which is in reach, its cell, its rows, and the word of its descriptor. A name of this sort means it there, which counts by that shape; so does that couple.
  pub record ArrayHome (sort : Sort) (home : Reference) (shape : Shape) (couple : Couple) : Type 0 where
    pub own : IsInReach w (part ∷ outer) home.instance
    pub array : DeclaredArray
    pub kind_is : array.kind ≡ shape.kind
    pub cell : ArrayCell
    pub allotted : Allotted
    pub word : Word
    pub of : IsArrayOf sc w lay home.instance home.name array cell allotted
    pub has : HasArray sc w lay home.instance of.number array cell allotted
    pub counts : CountsBy sort cell.bounds shape.lows
    pub sized : AreSized cell.bounds
    pub descriptor : DescriptorIs cell.bounds allotted word
    pub reaches : Reaches couple word
    pub fits : (couple.level < 32) × (couple.index < 2 ^ 14)

  -- what a name leads to
  abbrev pub MeantArray : Named → Shape → Couple → Type 0
  MeantArray n shape couple = ArrayHome ((use_of sc n).sort) (followed w (named_from sc w lay part.instance n)) shape couple

  abbrev IsSeenThere : Named → Type 0
  IsSeenThere n = ArraySeen (BlockIsSeen sc block) n (IsInner sc block) (IsSeenAround sc block) (λ (around_it : IsSeenAround sc block n). around_it.0) part.rest

  -- ---- a declared array

  module _ (n : Named) (d : DeclaredArray) (couple : Couple) (is_seen : IsSeenThere n) (made : IsComplete (scopes_of tree) w lay part.instance ⊎ IsSeenAround (scopes_of tree) block n)
      (keeps : InRest (IsSeenAround (scopes_of tree) block) IsNoBlock (IsSeenAround (scopes_of tree) block) part.rest → IsSeenAround (scopes_of tree) block n) (v : IsDeclaredArray sc level n d couple) where
    abbrev up : ℕ
    up = (use_of sc n).up

    abbrev home : ℕ
    home = ancestor w up part.instance

    -- the name of a declared array in a bound is one of a block around
    in_bound : (1 ≤ up) ⊎ (is_variable ((use_of sc n).sort) ≡ true) ⊎ (is_formal ((use_of sc n).sort) ≡ true) → 1 ≤ up
    in_bound (inl far) = far
    in_bound (inr (inl is)) = absurd (let clash : false ≡ true = sym (ap is_variable v.sort_is) ∙ is in cc)
    in_bound (inr (inr is)) = absurd (let clash : false ≡ true = sym (ap is_formal v.sort_is) ∙ is in cc)

    far_or_made : IsComplete sc w lay part.instance ⊎ IsSeenAround sc block n → IsComplete sc w lay part.instance ⊎ (1 ≤ up)
    far_or_made (inl whole) = inl whole
    far_or_made (inr around_it) = inr (in_bound around_it.1)

    parent : IsParent sc w lay part.instance up ((use_of sc n).block)
    parent = named_parent tree code texts actor n is_seen.seen

    led : IsLed tree code texts actor (named n)
    led = declared_led tree code texts actor n is_seen.seen (λ text. in_bound (keeps text).1)

    module _ (l : Seen tree code texts actor home) where
      abbrev framed_there : Framed sc w lay l.found.number l.found.lies.part.instance l.found.lies.outer (length l.found.lies.frame.lower) l.found.lies.frame.mark l.found.lies.frame.control l.found.lies.frame.cells
      framed_there = l.found.lies.owned.framed

      abbrev i : ℕ
      i = l.found.lies.part.instance

      abbrev here : Instance
      here = framed_there.instance

      block_here : here.block ≡ (use_of sc n).block
      block_here = sym (ap (λ (x : Instance). x.block) (ap (instance_at w) (sym l.found.lies.instance_is) ∙ ap or_no_instance framed_there.is)) ∙ parent.block

      complete : IsComplete sc w lay i
      complete = subst (λ (j : ℕ). IsComplete sc w lay j) (sym l.found.lies.instance_is) (up_complete sc w lay part.instance up (far_or_made made) parent.complete)

      abbrev own : OwnCells sc w lay i here
      own = framed_cells sc w lay framed_there

      there : made_from 0 (made_of (block_numbered sc.blocks here.block).decls) n.name ≡ Some (record { number = v.made.number; made = an_array d })
      there = ap (λ (j : ℕ). made_from 0 (made_of (block_numbered sc.blocks j).decls) n.name) block_here ∙ v.made.there

      found : OwnArray sc w lay i here own n.name v.made.number d
      found =
          own_array sc w lay i here own n.name v.made.number d there
          (all_made sc w lay i here own n.name v.made.number d there (none_later sc w lay i here own complete))
          (ap (λ (j : ℕ). found_from 0 (simple_cells sc (block_numbered sc.blocks j)) n.name) block_here ∙ v.made.apart)

      of_there : IsArrayOf sc w lay home n.name d found.cell found.allotted
      of_there = subst (λ (j : ℕ). IsArrayOf sc w lay j n.name d found.cell found.allotted) l.found.lies.instance_is found.of

      h : ArrayPlace tree code texts actor home n.name d found.cell found.allotted of_there
      h = array_place tree code texts actor nested home n.name led d found.cell found.allotted of_there

      number_is : v.made.number ≡ of_there.number
      number_is =
          let same : record { number = v.made.number; made = an_array d } ≡ record { number = of_there.number; made = an_array d } =
          some_same (sym v.made.there ∙ ap (λ (j : ℕ). made_from 0 (made_of (block_numbered sc.blocks j).decls) n.name) (sym parent.block) ∙ of_there.found) in
          ap (λ f. f.number) same

      index_is : couple.index ≡ array_index tree code texts actor home of_there.number
      index_is = omega (arith, v.made.index_is, number_is, ap (λ (j : ℕ). made_base sc (block_numbered sc.blocks j)) parent.block)

      -- a reference can hold its couple
      couple_fits : (couple.level < 32) × (couple.index < 2 ^ 14)
      couple_fits =
          let first : Instance = s.stands.frame.instance in
          let same : level ≡ level_of (block_numbered sc.blocks first.block) = ap (λ (o : Option Instance). level_of (block_numbered sc.blocks (or_no_instance o).block)) s.stands.frame.is in (
            omega (arith, v.made.level_is, same, (nested.each first.block s.stands.frame.known).low),
            omega (
              arith,
              v.made.index_is,
              block_few sc nested ((use_of sc n).block) (subst (λ (j : ℕ). j < length sc.blocks) block_here framed_there.known),
              low_number 0 (made_of ((block_numbered sc.blocks ((use_of sc n).block)).decls)) n.name v.made.number d v.made.there,
            ),
          )

      home_there : ArrayHome ((use_of sc n).sort) (named n) (shape_of d) couple
      home_there =
          record {
            own = led.reached;
            array = d;
            kind_is = refl;
            cell = found.cell;
            allotted = found.allotted;
            word = h.word;
            of = of_there;
            has = h.has;
            counts = by_own v.sort_is h.lows;
            sized = h.sized;
            descriptor = h.descriptor;
            reaches =
                directly h.at (named_at tree code texts actor n is_seen.seen couple.level v.made.level_is ∙ h.laid)
                (subst (λ (k : ℕ). NearCell p img (record { frame = h.at; index = k })) (sym index_is) h.near)
                (ap (λ (k : ℕ). word_at img.stacks (place (h.at).stack ((h.at).at + k))) index_is ∙ h.lies);
            fits = couple_fits;
          }

    declared_home : ArrayHome ((use_of sc n).sort) (named n) (shape_of d) couple
    declared_home = home_there (named_seen tree code texts actor n is_seen.seen)

  -- ---- an array that a parameter stands for

  module _ (n : Named) (shape : Shape) (couple : Couple) (is_seen : IsSeenThere n) (v : IsFormalArray sc level n shape couple) where
    f : FormalHome tree code texts nested actor n shape couple
    f = formal_home tree code texts nested actor n shape couple is_seen.seen v

    abbrev leads_to : Sirw
    leads_to = record { stack = (f.target.at).stack; displacement = (f.target.at).at; index = array_index tree code texts actor f.r.instance f.leads.array.number }

    formal_array_home : ArrayHome ((use_of sc n).sort) f.r shape couple
    formal_array_home =
        record {
          own = f.leads.own;
          array = f.leads.declared;
          kind_is = f.leads.agrees.0;
          cell = f.leads.cell;
          allotted = f.leads.allotted;
          word = f.target.word;
          of = f.leads.array;
          has = f.target.has;
          counts =
              by_others v.sort_is
              (sym (length-map f.leads.cell.bounds (λ (b : Bounds). b.low)) ∙ ap (λ (lows : List _). length lows) f.target.lows ∙ f.leads.agrees.1);
          sized = f.target.sized;
          descriptor = f.target.descriptor;
          reaches = by_reference f.home.at f.home.word leads_to f.home.shown f.home.near f.home.lies f.reads f.target.near f.target.lies;
          fits = f.home.fits;
        }

  -- ---- the one or the other

  module _ (n : Named) (shape : Shape) (couple : Couple) (asks : array_asked (ask part.rest) ≡ Some n) where
    is_seen : IsSeenThere n
    is_seen = array_seen (BlockIsSeen sc block) n (IsInner sc block) (IsSeenAround sc block) (λ (around_it : IsSeenAround sc block n). around_it.0) part.rest asks s.stands.frame.text

    keeps_around : InRest (IsSeenAround (scopes_of tree) block) IsNoBlock (IsSeenAround (scopes_of tree) block) part.rest → IsSeenAround (scopes_of tree) block n
    keeps_around text = (array_seen (IsSeenAround sc block) n IsNoBlock (IsSeenAround sc block) (λ (seen : IsSeenAround sc block n). seen) part.rest asks text).seen

    -- all is made there, or the array is one around
    made_there_or_around : IsComplete sc w lay part.instance ⊎ IsSeenAround sc block n
    made_there_or_around =
        made_or_around tree code texts actor is_seen.made
        (λ text. (array_seen (IsSeenAround sc block) n (λ (b : PBody). ⊥) (IsSeenAround sc block) (λ (seen : IsSeenAround sc block n). seen) part.rest asks text).seen)

    pub array_home : IsArray sc level n shape couple → MeantArray n shape couple
    array_home (declared d is v) =
        let h : ArrayHome ((use_of sc n).sort) (named n) (shape_of d) couple = declared_home n d couple is_seen made_there_or_around keeps_around v in
        subst (λ (t : Shape). MeantArray n t couple) (sym is)
        (subst (λ (r : Reference). ArrayHome ((use_of sc n).sort) r (shape_of d) couple) (sym (ap (λ (c : Cell). by_cell c (named n)) h.of.is)) h)
    array_home (formal v) =
        subst (λ (r : Reference). ArrayHome ((use_of sc n).sort) r shape couple)
        (sym (ap (λ (c : Cell). by_cell c (named n)) ((f n shape couple is_seen v).cell_is))) (formal_array_home n shape couple is_seen v)
