-- Where a process finds an event: its word lies in the frame of one of its parts. A name that a block declares means one that is made; that of
-- a parameter leads to one.
use Rattle.std.proofs.Common.{◌≡◌, ◌⊎◌, inl, inr, refl, sym, ap, ◌∙◌, subst, ℕ, ◌+◌, ◌<◌, ◌≤◌, ◌^◌, List, ◌∷◌, length, Option, Some, arith, None}
use Rattle.b67_list.proofs.Lists.{get_within}
use Rattle.b67_scenes.proofs.Prelude.{slice_get, block_numbered, level_of, PProgram, PBody, Scopes, scopes_of, use_of, Named, ask, Reference, Cell, event, reference, NamedCell, Instance, instance_at, or_no_instance, ancestor, cell_in, cell_at, by_cell, followed, BlockIsSeen, IsSeenAround, IsInner, InRest, numbered_small, IsNoBlock, Word, as_irw, as_sirw, event_word, Registers, Couple, Code, word_at, place, Image, display_at, cell_place, cell_word, simple_cells, made_base, found_from, made_of, made_from, AreNested, Texts, some_same, IsAsked, ArraySeen, NearCell, block_few, controls_many, FindsEvent, directly, by_reference, up_complete, OwnCells, framed_cells, none_later, OwnEvent, IsParent, Denotes, named_from, HasEvent, IsComplete, IsInReach, Framed, block_controls, IsEventAt}
use Rattle.algol_paths.specs.Arrays.{an_event}
use Rattle.b67_table.specs.declared.Cell.{Cell as MachineCell}
use Rattle.b67_templates.specs.Cells as wants
use Rattle.b67_templates.specs.Cells.{IsDeclaredEvent, IsFormalEvent, IsEvent, declared_event, formal_event}
use Rattle.b67_rows.proofs.AskedElements.{asked_seen}
use Rattle.b67_frames.specs.Arrays.{LeadsToEvent, IsEventOf}
use Rattle.b67_scenes.proofs.Finding.{found_laid, frame_near, place_near}
use Rattle.b67_scenes.proofs.Led.{IsLed, declared_led, led_below, named_parent, named_seen, named_shown}
use Rattle.b67_scenes.proofs.MadeNames.{no_simple}
use Rattle.b67_scenes.proofs.Sights.{Seen, seen, cell_lies}
use Rattle.b67_frames.proofs.MadeArrays.{low_made}
use Rattle.b67_frames.proofs.NamedEvents.{far_event}
use Rattle.b67_frames.proofs.OwnEvents.{own_event, known_event, event_lies}
use Rattle.b67_scenes.proofs.ArrayPlaces.{cell_read}
use Rattle.b67_scenes.proofs.CellHomes.{CellHome, cell_home}
use Rattle.b67_scenes.proofs.Narrowing.{made_or_around}
use Rattle.b67_scenes.proofs.Scene.{Actor}
use Rattle.b67_scenes.proofs.Staying.{names_in}

-- the cells on the way to an event are near
abbrev pub IsNearWay : (p : ℕ) (img : Image) (r : Registers) {word : Word} {c : MachineCell} → FindsEvent img p r word c → Type 0
IsNearWay p img r {word} {c} (directly level names shown there) = NearCell p img c
IsNearWay p img r {word} {c} (by_reference level index home first names shown lies refers there) = NearCell p img (record { frame = home; index = index }) × NearCell p img c

module _ (tree : PProgram) (code : Code) (texts : Texts) (nested : AreNested (scopes_of tree)) (actor : Actor tree code texts) where
  open actor use {w, lay, img, p, part, outer, core, s}

  abbrev sc : Scopes
  sc = scopes_of tree

  abbrev level : ℕ
  level = names_in tree w part

  abbrev block : ℕ
  block = (instance_at w part.instance).block

  abbrev LiesThere : ℕ → Type 0
  LiesThere i = Seen tree code texts actor i

  -- the cell of the event with this number of an instance whose frame is seen
  abbrev pub cell_there : {i : ℕ} → Seen tree code texts actor i → ℕ → MachineCell
  cell_there l number = record { frame = place l.found.number (length l.found.lies.frame.lower); index = made_base sc (block_numbered sc.blocks l.found.lies.owned.framed.instance.block) + number }

  -- the cells of the instance
  abbrev pub own_there : {i : ℕ} (l : Seen tree code texts actor i) → OwnCells (scopes_of tree) w lay l.found.lies.part.instance l.found.lies.owned.framed.instance
  own_there l = framed_cells sc w lay l.found.lies.owned.framed

  -- The event to whose cell this reference leads: its instance, which is in reach, its number there and its cell. Whatever word has this couple
  -- reaches the cell.
  pub record EventHome (home : Reference) (couple : Couple) : Type 0 where
    pub own : IsInReach w (part ∷ outer) home.instance
    pub lies : Seen tree code texts actor home.instance
    pub number : ℕ
    pub found : OwnEvent (scopes_of tree) w lay lies.found.lies.part.instance lies.found.lies.owned.framed.instance (own_there lies) home.name number
    pub reaches : (word : Word) → as_irw word ≡ Some (record { level = couple.level; index = couple.index }) → FindsEvent img p core.registers word (cell_there lies number)
    pub near : (word : Word) (reads : as_irw word ≡ Some (record { level = couple.level; index = couple.index })) → IsNearWay p img core.registers (reaches word reads)
    pub fits : (couple.level < 32) × (couple.index < 2 ^ 14)
    -- it is the event at the place of that cell
    pub lies_at : IsEventAt (scopes_of tree) w lay home (cell_place (cell_there lies number))

  module _ (r : Reference) (led : IsLed tree code texts actor r) (l : LiesThere r.instance) (number : ℕ)
      (found : OwnEvent sc w lay l.found.lies.part.instance l.found.lies.owned.framed.instance (own_there l) r.name number)
      (there : made_from 0 (made_of (block_numbered sc.blocks l.found.lies.owned.framed.instance.block).decls) r.name ≡ Some (record { number = number; made = an_event r.name })) where
    abbrev framed : Framed sc w lay l.found.number l.found.lies.part.instance l.found.lies.outer (length l.found.lies.frame.lower) l.found.lies.frame.mark l.found.lies.frame.control l.found.lies.frame.cells
    framed = l.found.lies.owned.framed

    here_is : instance_at w r.instance ≡ framed.instance
    here_is = ap (instance_at w) (sym l.found.lies.instance_is) ∙ ap or_no_instance framed.is

    abbrev far : ℕ
    far = length (simple_cells sc (block_numbered sc.blocks framed.instance.block)) + length (block_controls sc framed.instance.block framed.ats) + number

    cells_lie : slice_get l.found.lies.frame.cells far ≡ Some (event_word (record {}))
    cells_lie =
        ap (λ (ws : List Word). slice_get ws far) framed.cells_is
        ∙ event_lies sc w lay l.found.lies.part.instance framed.instance (own_there l) r.name number found (block_controls sc framed.instance.block framed.ats)

    index_is : 2 + far ≡ made_base sc (block_numbered sc.blocks framed.instance.block) + number
    index_is = omega (arith, controls_many sc framed.instance.block framed.ats framed.each_has_place)

    base_is : made_base sc (block_numbered sc.blocks ((instance_at w r.instance).block)) ≡ made_base sc (block_numbered sc.blocks framed.instance.block)
    base_is = ap (λ (x : Instance). made_base sc (block_numbered sc.blocks x.block)) here_is

    apart : found_from 0 (simple_cells sc (block_numbered sc.blocks ((instance_at w r.instance).block))) r.name ≡ None
    apart =
        ap (λ (x : Instance). found_from 0 (simple_cells sc (block_numbered sc.blocks x.block)) r.name) here_is
        ∙ no_simple (simple_cells sc (block_numbered sc.blocks framed.instance.block)) framed.simple framed.values framed.arrays r.name (event found.cell) framed.simple_are
        (ap (λ (cells : List NamedCell). cell_in cells r.name) (sym framed.has) ∙ found.means) refl

    below : length l.found.lies.frame.lower + (2 + far) < length l.found.core.below
    below =
        led_below tree code texts actor nested r led l apart far (get_within l.found.lies.frame.cells far (event_word (record {})) cells_lie)

    -- its word lies in the stack, below the floor
    pub word_there : word_at img.stacks (cell_place (cell_there l number)) ≡ Some (event_word (record {}))
    word_there =
        ap (λ (n : ℕ). word_at img.stacks (place l.found.number (length l.found.lies.frame.lower + n))) (sym index_is)
        ∙ cell_lies tree code texts actor r.instance l far (event_word (record {})) cells_lie below

    pub near_there : NearCell p img (cell_there l number)
    near_there = (
      frame_near tree code texts w lay img r.instance l.found p l.near,
      place_near tree code texts w lay img r.instance l.found p (length l.found.lies.frame.lower + (made_base sc (block_numbered sc.blocks framed.instance.block) + number)) l.near (omega (arith, below, index_is)),
    )

    -- it is the event at that place
    pub is_there : IsEventAt (scopes_of tree) w lay r (cell_place (cell_there l number))
    is_there =
        record {
          made = record {
            number = number;
            found = ap (λ (x : Instance). made_from 0 (made_of (block_numbered sc.blocks x.block).decls) r.name) here_is ∙ there;
            cell = found.cell;
            is = ap (λ (x : Instance). cell_in x.cells r.name) here_is ∙ found.means;
          };
          frame = place l.found.number (length l.found.lies.frame.lower);
          laid = found_laid tree code texts w lay img r.instance l.found;
          at_is = ap (λ (n : ℕ). place l.found.number (length l.found.lies.frame.lower + (n + number))) (sym base_is);
        }

    -- a reference can hold its place
    cell_small : (number < length (made_of (block_numbered sc.blocks framed.instance.block).decls)) →
        as_sirw (cell_word (cell_there l number)) ≡ Some (record { stack = l.found.number; displacement = length l.found.lies.frame.lower; index = (cell_there l number).index })
    cell_small low =
        cell_read (cell_there l number) (omega (arith, numbered_small w.processes l.found.number l.found.process l.found.is, s.by.few)) (omega (arith, below, l.found.small))
        (omega (arith, block_few sc nested framed.instance.block framed.known, low))

  -- the world has it there, so it is open
  pub has_there : {i : ℕ} (l : Seen tree code texts actor i) (name : List ℕ) (number : ℕ)
      (found : OwnEvent (scopes_of tree) w lay l.found.lies.part.instance l.found.lies.owned.framed.instance (own_there l) name number) →
      HasEvent (scopes_of tree) w lay l.found.lies.part.instance number found.cell (cell_place (cell_there l number))
  has_there l name number found =
      record {
        instance = l.found.lies.owned.framed.instance;
        is = l.found.lies.owned.framed.is;
        stands = l.found.lies.owned.framed.stands;
        name = name;
        declares = found.declares;
        has = found.has;
        frame = place l.found.number (length l.found.lies.frame.lower);
        laid = l.found.lies.owned.framed.laid;
        at_is = refl;
      }

  -- ---- a declared event

  pub record DirectEvent (couple : Couple) : Type 0 where
    pub cell : MachineCell
    pub index_is : couple.index ≡ cell.index
    pub shown : display_at core.registers couple.level ≡ Some cell.frame
    pub lies : word_at img.stacks (cell_place cell) ≡ Some (event_word (record {}))
    pub near : NearCell p img cell
    pub fits : (couple.level < 32) × (couple.index < 2 ^ 14)

  module _ (n : Named) (couple : Couple) (is_seen : BlockIsSeen (scopes_of tree) ((instance_at w part.instance).block) n)
      (made : IsComplete (scopes_of tree) w lay part.instance ⊎ IsSeenAround (scopes_of tree) ((instance_at w part.instance).block) n)
      (keeps : InRest (IsSeenAround (scopes_of tree) ((instance_at w part.instance).block)) IsNoBlock (IsSeenAround (scopes_of tree) ((instance_at w part.instance).block)) part.rest →
      IsSeenAround (scopes_of tree) ((instance_at w part.instance).block) n) (v : IsDeclaredEvent (scopes_of tree) (names_in tree w part) n couple) where
    abbrev up : ℕ
    up = (use_of sc n).up

    abbrev home_at : ℕ
    home_at = ancestor w up part.instance

    far_or_made : IsComplete sc w lay part.instance ⊎ IsSeenAround sc block n → IsComplete sc w lay part.instance ⊎ (1 ≤ up)
    far_or_made (inl whole) = inl whole
    far_or_made (inr around_it) = inr (far_event sc level n couple v around_it.1)

    parent : IsParent sc w lay part.instance up ((use_of sc n).block)
    parent = named_parent tree code texts actor n is_seen

    led : IsLed tree code texts actor (named_from sc w lay part.instance n)
    led = declared_led tree code texts actor n is_seen (λ text. far_event sc level n couple v (keeps text).1)

    module _ (l : LiesThere home_at) where
      abbrev framed_there : Framed sc w lay l.found.number l.found.lies.part.instance l.found.lies.outer (length l.found.lies.frame.lower) l.found.lies.frame.mark l.found.lies.frame.control l.found.lies.frame.cells
      framed_there = l.found.lies.owned.framed

      abbrev i : ℕ
      i = l.found.lies.part.instance

      abbrev here : Instance
      here = framed_there.instance

      block_here : here.block ≡ (use_of sc n).block
      block_here = sym (ap (λ (x : Instance). x.block) (ap (instance_at w) (sym l.found.lies.instance_is) ∙ ap or_no_instance framed_there.is)) ∙ parent.block

      complete : IsComplete sc w lay i
      complete = subst (λ (j : ℕ). IsComplete sc w lay j) (sym l.found.lies.instance_is) (up_complete sc w lay part.instance up (far_or_made made) parent.complete)

      there : made_from 0 (made_of (block_numbered sc.blocks here.block).decls) n.name ≡ Some (record { number = v.made.number; made = an_event n.name })
      there = ap (λ (j : ℕ). made_from 0 (made_of (block_numbered sc.blocks j).decls) n.name) block_here ∙ v.made.there

      found : OwnEvent sc w lay i here (own_there l) n.name v.made.number
      found =
          own_event sc w lay i here (own_there l) n.name v.made.number there (none_later sc w lay i here (own_there l) complete)
          (ap (λ (j : ℕ). found_from 0 (simple_cells sc (block_numbered sc.blocks j)) n.name) block_here ∙ v.made.apart)

      index_here : couple.index ≡ (cell_there l v.made.number).index
      index_here = omega (arith, v.made.index_is, ap (λ (j : ℕ). made_base sc (block_numbered sc.blocks j)) block_here)

      -- a reference can hold its couple
      couple_fits : (couple.level < 32) × (couple.index < 2 ^ 14)
      couple_fits =
          let first : Instance = s.stands.frame.instance in
          let same : level ≡ level_of (block_numbered sc.blocks first.block) = ap (λ (o : Option Instance). level_of (block_numbered sc.blocks (or_no_instance o).block)) s.stands.frame.is in (
            omega (arith, v.made.level_is, same, (nested.each first.block s.stands.frame.known).low),
            omega (arith, index_here, block_few sc nested here.block framed_there.known, low_made 0 (made_of (block_numbered sc.blocks here.block).decls) n.name v.made.number (an_event n.name) there),
          )

      pub home_there : EventHome (named_from (scopes_of tree) w lay part.instance n) couple
      home_there =
          record {
            own = led.reached;
            lies = l;
            number = v.made.number;
            found = found;
            reaches = λ word reads.
                directly couple.level (reads ∙ ap (λ (k : ℕ). Some (record { level = couple.level; index = k })) index_here)
                (named_shown tree code texts actor n is_seen couple.level v.made.level_is l) (word_there (named_from sc w lay part.instance n) led l v.made.number found there);
            near = λ word reads. near_there (named_from sc w lay part.instance n) led l v.made.number found there;
            fits = couple_fits;
            lies_at = is_there (named_from sc w lay part.instance n) led l v.made.number found there;
          }

    pub declared_home : EventHome (named_from (scopes_of tree) w lay part.instance n) couple
    declared_home = home_there (named_seen tree code texts actor n is_seen)

    -- its number is that of the declaration
    pub declared_number : declared_home.number ≡ v.made.number
    unfolding declared_home home_there
    declared_number = refl

    direct_there : (l : LiesThere home_at) → DirectEvent couple
    direct_there l =
        record {
          cell = cell_there l v.made.number;
          index_is = index_here l;
          shown = named_shown tree code texts actor n is_seen couple.level v.made.level_is l;
          lies = word_there (named_from sc w lay part.instance n) led l v.made.number (found l) (there l);
          near = near_there (named_from sc w lay part.instance n) led l v.made.number (found l) (there l);
          fits = couple_fits l;
        }

    -- its cell, which the couple names
    pub direct_event : DirectEvent couple
    direct_event = direct_there (named_seen tree code texts actor n is_seen)

  -- ---- an event to which a word leads

  module _ (r : Reference) (word : Word) (leads : LeadsToEvent (scopes_of tree) w lay (IsInReach w (part ∷ outer)) r word) (l : LiesThere r.instance) where
    abbrev of_here : IsEventOf sc w lay l.found.lies.part.instance r.name
    of_here =
        record {
          number = leads.made.number;
          found = ap (λ (k : ℕ). made_from 0 (made_of (block_numbered sc.blocks ((instance_at w k).block)).decls) r.name) l.found.lies.instance_is ∙ leads.made.found;
          cell = leads.made.cell;
          is = ap (λ (k : ℕ). cell_in ((instance_at w k).cells) r.name) l.found.lies.instance_is ∙ leads.made.is;
        }

    pub found_formal : OwnEvent (scopes_of tree) w lay l.found.lies.part.instance l.found.lies.owned.framed.instance (own_there l) r.name leads.made.number
    found_formal = known_event sc w lay l.found.lies.part.instance l.found.lies.owned.framed.instance (own_there l) r.name of_here

    frame_is : leads.frame ≡ place l.found.number (length l.found.lies.frame.lower)
    frame_is = some_same (sym leads.laid ∙ found_laid tree code texts w lay img r.instance l.found)

    here_now : instance_at w r.instance ≡ l.found.lies.owned.framed.instance
    here_now = ap (instance_at w) (sym l.found.lies.instance_is) ∙ ap or_no_instance l.found.lies.owned.framed.is

    pub there_now : made_from 0 (made_of (block_numbered (scopes_of tree).blocks l.found.lies.owned.framed.instance.block).decls) r.name ≡ Some (record { number = leads.made.number; made = an_event r.name })
    there_now = ap (λ (x : Instance). made_from 0 (made_of (block_numbered sc.blocks x.block).decls) r.name) (sym here_now) ∙ leads.made.found

    -- the word is read as a reference to its cell
    pub refers_there : IsLed tree code texts actor r →
        as_sirw word ≡ Some (record { stack = l.found.number; displacement = length l.found.lies.frame.lower; index = (cell_there l leads.made.number).index })
    refers_there led =
        ap as_sirw
        (leads.word_is
        ∙ ap (λ (x : Instance). cell_word (record { frame = leads.frame; index = made_base sc (block_numbered sc.blocks x.block) + leads.made.number })) here_now
        ∙ ap (λ f. cell_word (record { frame = f; index = made_base sc (block_numbered sc.blocks l.found.lies.owned.framed.instance.block) + leads.made.number })) frame_is)
        ∙ cell_small r led l leads.made.number found_formal there_now (get_within (made_of (block_numbered sc.blocks l.found.lies.owned.framed.instance.block).decls) leads.made.number (an_event r.name) found_formal.declares)

  -- ---- an event that a parameter stands for

  -- the parameter's cell has a reference to an event, which is read as such
  pub record FormalEvent (n : Named) (couple : Couple) : Type 0 where
    pub r : Reference
    pub cell_is : cell_at w (named_from (scopes_of tree) w lay part.instance n) ≡ reference r
    pub home : CellHome tree code texts nested actor n wants.event couple
    pub leads : LeadsToEvent (scopes_of tree) w lay (IsInReach w (part ∷ outer)) r home.word
    pub led : IsLed tree code texts actor r
    pub lies : Seen tree code texts actor r.instance
    pub found : OwnEvent (scopes_of tree) w lay lies.found.lies.part.instance lies.found.lies.owned.framed.instance (own_there lies) r.name leads.made.number
    pub declared_there : made_from 0 (made_of (block_numbered (scopes_of tree).blocks lies.found.lies.owned.framed.instance.block).decls) r.name ≡ Some (record { number = leads.made.number; made = an_event r.name })
    pub refers : as_sirw home.word ≡ Some (record { stack = lies.found.number; displacement = length lies.found.lies.frame.lower; index = (cell_there lies leads.made.number).index })

  module _ (n : Named) (couple : Couple) (is_seen : BlockIsSeen sc block n) (v : IsFormalEvent sc level n couple) where
    h : CellHome tree code texts nested actor n wants.event couple
    h = cell_home tree code texts nested actor (record {
      name = n;
      wanted = wants.event;
      couple = couple;
      found = v.found;
      refers = tt;
      is_seen = is_seen;
      named_there = v.there;
      wanted_is = v.wanted_is;
      level_is = v.level_is;
      index_is = v.index_is;
    })

    module _ (r : Reference) (same : h.cell ≡ reference r) (leads : LeadsToEvent sc w lay (IsInReach w (part ∷ outer)) r h.word) (l : LiesThere r.instance) where
      formal_there : FormalEvent n couple
      formal_there =
          record {
            r = r;
            cell_is = h.cell_is ∙ same;
            home = h;
            leads = leads;
            led = h.leads r same;
            lies = l;
            found = found_formal r h.word leads l;
            declared_there = there_now r h.word leads l;
            refers = refers_there r h.word leads l (h.leads r same);
          }

    pub formal_event_there : FormalEvent n couple
    formal_event_there = by_cell h.cell refl h.denotes
      where
        by_cell : (c : Cell) → h.cell ≡ c → Denotes sc w lay (IsInReach w (part ∷ outer)) wants.event c h.word → FormalEvent n couple
        by_cell (reference r) is leads = formal_there r is leads (seen tree code texts actor r.instance leads.own)
        by_cell _ is leads = absurd leads

    formal_home : (f : FormalEvent n couple) → EventHome f.r couple
    formal_home f =
        record {
          own = f.leads.own;
          lies = f.lies;
          number = f.leads.made.number;
          found = f.found;
          reaches = λ word reads.
              by_reference couple.level couple.index f.home.at f.home.word reads f.home.shown f.home.lies f.refers (word_there f.r f.led f.lies f.leads.made.number f.found f.declared_there);
          near = λ word reads. (f.home.near, near_there f.r f.led f.lies f.leads.made.number f.found f.declared_there);
          fits = f.home.fits;
          lies_at = is_there f.r f.led f.lies f.leads.made.number f.found f.declared_there;
        }

  -- ---- the one or the other

  module _ (n : Named) (couple : Couple) (asks : IsAsked (ask part.rest) n) where
    is_seen : ArraySeen (BlockIsSeen sc block) n (IsInner sc block) (IsSeenAround sc block) (λ (around_it : IsSeenAround sc block n). around_it.0) part.rest
    is_seen = asked_seen (BlockIsSeen sc block) n (IsInner sc block) (IsSeenAround sc block) (λ (around_it : IsSeenAround sc block n). around_it.0) part.rest asks s.stands.frame.text

    keeps_around : InRest (IsSeenAround sc block) IsNoBlock (IsSeenAround sc block) part.rest → IsSeenAround sc block n
    keeps_around text = (asked_seen (IsSeenAround sc block) n IsNoBlock (IsSeenAround sc block) (λ (seen : IsSeenAround sc block n). seen) part.rest asks text).seen

    made_there_or_around : IsComplete sc w lay part.instance ⊎ IsSeenAround sc block n
    made_there_or_around =
        made_or_around tree code texts actor is_seen.made
        (λ text. (asked_seen (IsSeenAround sc block) n (λ (b : PBody). ⊥) (IsSeenAround sc block) (λ (seen : IsSeenAround sc block n). seen) part.rest asks text).seen)

    pub event_home : IsEvent (scopes_of tree) (names_in tree w part) n couple → EventHome (followed w (named_from (scopes_of tree) w lay part.instance n)) couple
    event_home (declared_event v) =
        let h : EventHome (named_from sc w lay part.instance n) couple = declared_home n couple is_seen.seen made_there_or_around keeps_around v in
        let means : cell_at w (named_from sc w lay part.instance n) ≡ event h.found.cell =
        ap (λ (j : ℕ). cell_in ((instance_at w j).cells) n.name) (sym h.lies.found.lies.instance_is)
        ∙ ap (λ (o : Option Instance). cell_in ((or_no_instance o).cells) n.name) h.lies.found.lies.owned.framed.is
        ∙ h.found.means in
        subst (λ (r : Reference). EventHome r couple) (sym (ap (λ (c : Cell). by_cell c (named_from sc w lay part.instance n)) means)) h
    event_home (formal_event v) =
        let f : FormalEvent n couple = formal_event_there n couple is_seen.seen v in
        subst (λ (r : Reference). EventHome r couple) (sym (ap (λ (c : Cell). by_cell c (named_from sc w lay part.instance n)) f.cell_is)) (formal_home n couple is_seen.seen v f)
