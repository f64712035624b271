-- Where GO TO leads: the frame of the label's instance, and from the branch for the label on where the machine stands for the statements after it.
use Rattle.std.proofs.Common.{◌≡◌, refl, sym, ap, ◌∙◌, subst, ℕ, ◌+◌, ◌-◌, ◌<◌, ◌≤◌, false, inl, List, [], ◌∷◌, length, Some, arith}
use Rattle.b67_pictures.proofs.Prelude.{recursion_from_All, All, reverse, numbered, Block, block_numbered, around, level_of, PProgram, Scopes, scopes_of, use_of, Named, goes_to, ask, is_evaluation, settle_items, items_from, Instance, instance_at, or_no_instance, ancestor, BlockIsSeen, IsSeenAround, IsInner, segment_of, IsStanding, IsOwn, OUTER_LEVEL, Code, Segment, place, segment_limit, end_of_code, display_at, stmts_depth, HasNames, LiesNested, Texts, context_of, ActionAt, ComesTo, segment_low, HasText, HaveTexts, FramesClose, complete_of, begins_core, owned_frame, asks_as_own, up_complete, IsParent, most_around, IsComplete, ItemsStand, Owned, Found, Way, named_parent, named_seen, named_shown, scene_placed, part_there, Actor, Seen, weight_of, text_in, level_in, context_in, most_in, names_in}
use Rattle.b67_standing.specs.Laws.{JumpsStand}
use Rattle.b67_table.specs.Limits.{segment_numbers}
use Rattle.b67_templates.specs.Labels.{label_number, table_place, LabelAt}
use Rattle.b67_templates.specs.Programs.{text_of}
use Rattle.b67_standing.specs.Standing.{GoesToAt}
use Rattle.b67_cores.specs.Cores.{stack_of}
use Rattle.b67_frames.proofs.AskedJumps.{goes_seen, goes_unmade}
use Rattle.b67_frames.proofs.LabelRoom.{label_room}
use Rattle.b67_frames.proofs.Levels.{level_up}
use Rattle.b67_scenes.proofs.JumpCut.{way}
use Rattle.b67_pictures.proofs.Selecting.{segment_short, within_segment}

-- in the table of each segment stand the branches for its labels
abbrev pub LabelsStand : PProgram → Code → Texts → Type 0
LabelsStand tree code texts =
    (j number : ℕ) (name : List ℕ) → j < length (scopes_of tree).blocks → label_number (scopes_of tree) j name ≡ Some number →
    LabelAt (scopes_of tree) (context_of code texts (scopes_of tree) j) (text_of texts (scopes_of tree) j) (level_of (block_numbered (scopes_of tree).blocks j)) (block_numbered (scopes_of tree).blocks j)
    name number

-- What a jump needs of the program: its blocks lie in one another, its names are told apart, its texts and labels stand in its code,
-- whose segments are short; and what is known of jumps and of the frames that are closed.
pub record LeadsJumps (tree : PProgram) (code : Code) (texts : Texts) : Type 0 where
  pub lies : LiesNested tree
  pub named : HasNames tree
  pub stand : HaveTexts tree code texts
  pub labels : LabelsStand tree code texts
  pub short : All (λ (segment : Segment). length segment.words ≤ segment_limit) code.segments
  pub jump : JumpsStand
  pub closing : FramesClose

module _ (tree : PProgram) (code : Code) (texts : Texts) (needs : LeadsJumps tree code texts) (actor : Actor tree code texts) where
  open needs use {lies, named, stand, labels, short, jump, closing}
  open actor use {w, lay, img, p, q, part, outer, core, s}

  module _ (n : Named) (asks : ask part.rest ≡ goes_to n)
      (a : ActionAt (scopes_of tree) (context_in tree code texts w part s.stands.frame.gives) (text_in tree texts w part) (level_in tree w part) (most_in tree w part) (goes_to n) s.stands.pc s.stands.slots) where
    abbrev sc : Scopes
    sc = scopes_of tree

    abbrev block : ℕ
    block = (instance_at w part.instance).block

    abbrev names : ℕ
    names = names_in tree w part

    abbrev up : ℕ
    up = (use_of sc n).up

    abbrev u : ℕ
    u = (use_of sc n).block

    -- the label's instance, and its block
    abbrev pub i : ℕ
    i = ancestor w ((use_of (scopes_of tree) n).up) part.instance

    abbrev pub j : ℕ
    j = (instance_at w (ancestor w ((use_of (scopes_of tree) n).up) part.instance)).block

    abbrev b : Block
    b = block_numbered sc.blocks j

    abbrev pub told : GoesToAt sc (context_in tree code texts w part s.stands.frame.gives) (text_in tree texts w part) (level_in tree w part) (most_in tree w part) n s.stands.pc a.0 s.stands.slots a.1
    told = a.2

    -- ---- the instance

    seen_there : BlockIsSeen sc block n
    seen_there = goes_seen (BlockIsSeen sc block) (IsInner sc block) (IsSeenAround sc block) n part.rest asks s.stands.frame.text

    pub own_part : is_evaluation part.purpose ≡ false
    own_part = asks_as_own tree code texts w lay p part outer core.below s.stands.frame (goes_to n) asks (λ e. e)

    parent : IsParent sc w lay part.instance up u
    parent = named_parent tree code texts actor n seen_there

    pub label_stands : IsStanding w (ancestor w ((use_of (scopes_of tree) n).up) part.instance)
    label_stands = parent.stands

    -- its frame, in whatever stack
    pub label_seen : Seen tree code texts actor (ancestor w ((use_of (scopes_of tree) n).up) part.instance)
    label_seen = named_seen tree code texts actor n seen_there

    abbrev found : Found tree code texts w lay img (ancestor w ((use_of (scopes_of tree) n).up) part.instance)
    found = label_seen.found

    abbrev own_frame : Owned tree code texts w lay p part outer (length s.stands.frame.lower) s.stands.frame.mark s.stands.frame.control s.stands.frame.cells
    own_frame = owned_frame tree code texts w lay p part outer core.below s.stands.frame own_part

    -- it has made all: it is the part's own, which goes to a label, or lies around
    pub complete : IsComplete (scopes_of tree) w lay (ancestor w ((use_of (scopes_of tree) n).up) part.instance)
    complete =
        up_complete sc w lay part.instance up
        (inl (complete_of sc w lay p part.instance outer (length s.stands.frame.lower) s.stands.frame.mark s.stands.frame.control s.stands.frame.cells own_frame.framed
        (own_frame.making ∙ goes_unmade n part.rest asks)))
        parent.complete

    instance_found : found.lies.owned.framed.instance ≡ instance_at w (ancestor w ((use_of (scopes_of tree) n).up) part.instance)
    instance_found = sym (ap or_no_instance found.lies.owned.framed.is) ∙ ap (instance_at w) found.lies.instance_is

    pub known : (instance_at w (ancestor w ((use_of (scopes_of tree) n).up) part.instance)).block < length (scopes_of tree).blocks
    known = subst (λ (x : Instance). x.block < length sc.blocks) instance_found found.lies.owned.framed.known

    -- ---- its level

    pub level_told : told.target + up ≡ names
    level_told = told.label.level_is

    high : up + OUTER_LEVEL ≤ names
    high = omega (arith, level_told, told.label.outer)

    pub level_there : told.target ≡ level_of (block_numbered (scopes_of tree).blocks ((instance_at w (ancestor w ((use_of (scopes_of tree) n).up) part.instance)).block))
    level_there =
        omega (
          arith,
          level_told,
          level_up sc w lay (scene_placed tree code texts actor) up part.instance (part_there tree code texts actor) high,
        )

    pub shown_at : display_at core.registers told.target ≡ Some (place label_seen.found.number (length label_seen.found.lies.frame.lower))
    shown_at = named_shown tree code texts actor n seen_there told.target level_told label_seen

    -- ---- the branch for the label

    pub segment_there : told.segment ≡ segment_of (scopes_of tree).blocks ((instance_at w (ancestor w ((use_of (scopes_of tree) n).up) part.instance)).block)
    segment_there = told.label.segment_is ∙ ap (segment_of sc.blocks) (sym parent.block)

    pub segment_small : told.segment ≤ segment_numbers - 1
    segment_small = omega (arith, segment_there, segment_low sc.blocks (j ∷ around sc.blocks j) 1023 lies.nested.procedures_few)

    label_there : LabelAt sc (context_of code texts sc j) (texts.placed (segment_of sc.blocks j)) (level_of b) b n.name told.label.number
    label_there = labels j told.label.number n.name known (ap (λ (k : ℕ). label_number sc k n.name) parent.block ∙ told.label.there)

    text : HasText code texts (segment_of sc.blocks j)
    text = stand j

    pub pointer_small : told.entry ≤ end_of_code
    pointer_small =
        let within : table_place told.label.number ≤ end_of_code =
        within_segment (texts.placed (segment_of sc.blocks j)) (table_place told.label.number) (level_of b) _ _ text.segment label_there.branch.stands text.spells
        (segment_short code.segments (segment_of sc.blocks j) text.segment (recursion_from_All (λ (o : Segment). length o.words ≤ segment_limit) code.segments short) text.there) in
        omega (arith, told.label.entry_is, within)

    -- ---- where it is one of the process's own

    module _ (own : IsOwn (part ∷ outer) (ancestor w ((use_of (scopes_of tree) n).up) part.instance)) where
      -- ---- its frame

      pub way_there : Way tree code texts closing w lay p (ancestor w ((use_of (scopes_of tree) n).up) part.instance) img.stacks (stack_of core) part outer core.below s.stands.frame
      way_there =
          way tree code texts closing w lay p i img.stacks (stack_of core) outer part core.below s.stands.frame s.around own (begins_core img p core s.has) (omega (arith, s.small)) (reverse core.words) refl
          (omega (arith, s.room, s.light, weight_of tree w p q (part ∷ outer) s.at s.todo))

      abbrev pub at : ℕ
      at = length way_there.frame.lower

      abbrev pub owned : Owned tree code texts w lay p way_there.target way_there.parts (length way_there.frame.lower) way_there.frame.mark way_there.frame.control way_there.frame.cells
      owned = owned_frame tree code texts w lay p way_there.target way_there.parts way_there.front way_there.frame way_there.owns

      pub instance_there : owned.framed.instance ≡ instance_at w (ancestor w ((use_of (scopes_of tree) n).up) part.instance)
      instance_there = sym (ap or_no_instance owned.framed.is) ∙ ap (instance_at w) way_there.instance_is

      laid_there : numbered lay.places i ≡ Some (place p at)
      laid_there = ap (numbered lay.places) (sym way_there.instance_is) ∙ owned.framed.laid

      level_back : told.target ≡ names - up
      level_back = omega (arith, level_told)

      pub shown_there : display_at core.registers told.target ≡ Some (place p (length way_there.frame.lower))
      shown_there = ap (display_at core.registers) level_back ∙ s.stands.chained up high ∙ laid_there

      -- ---- the statements after it

      items_there : ItemsStand tree code texts j
      items_there = subst (λ (x : Instance). ItemsStand tree code texts x.block) instance_there owned.items

      room : stmts_depth b.stmts + 1 ≤ most_around tree j
      room = label_room tree named lies.nested j known n.name label_there.label label_there.stands

      pub comes_there : ComesTo (scopes_of tree) (context_of code texts (scopes_of tree) j) (texts.placed (segment_of (scopes_of tree).blocks j)) (level_of (block_numbered (scopes_of tree).blocks j)) (most_around tree j)
          (settle_items (scopes_of tree) (items_from (block_numbered (scopes_of tree).blocks j) n.name)) told.entry []
      comes_there =
          subst (λ (k : ℕ). ComesTo sc (context_of code texts sc j) (texts.placed (segment_of sc.blocks j)) (level_of b) (most_around tree j) (settle_items sc (items_from b n.name)) k []) (sym told.label.entry_is)
          (jump sc (context_of code texts sc j) (texts.placed (segment_of sc.blocks j)) (level_of b) (most_around tree j) b n.name told.label.number items_there.0 items_there.1 label_there (omega (arith, room)) (omega (arith, room)))
