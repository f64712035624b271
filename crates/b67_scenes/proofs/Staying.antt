-- What a change of the world leaves of the parts of a process: their static parents, their frames, and where they stand.
use Rattle.std.proofs.Common.{◌≡◌, inl, inr, refl, sym, ap, ◌∙◌, subst, ℕ, ◌+◌, ◌*◌, ◌<◌, ◌≤◌, List, [], ◌∷◌, length, Option, Some, Bool, arith, length-append}
use Rattle.b67_scenes.proofs.Prelude.{if◌then◌else◌, block_numbered, level_of, PProgram, Scopes, scopes_of, is_evaluation, Instance, Part, World, instance_at, or_no_instance, segment_of, IsStanding, Word, Place, place_at, Placed, Code, place, in_routine, Yields, Context, Texts, context_of, StandsFor, Core, Known, CoreAt, part_weight, parts_weight, tokens_around, StayBelow, same_block, weight_stays, around_stays, Layout, AreKnown, most_around, IsInReach, IsChained, Shape, of_own, of_lent, Frame, FrameStands, Around, Frames, run_level, innermost_most}
use Rattle.b67_frames.proofs.Lying.{here_still, known_after, Stayed, frame_stays, IsOfPart}
use Rattle.b67_scenes.proofs.Ancestors.{AreLaid, same_place}

-- the operators of the segment in which the text of a part stands, the level of its names, and that at which its code runs
abbrev pub text_in : PProgram → Texts → World → Part → List Placed
text_in tree texts w part = texts.placed (segment_of (scopes_of tree).blocks ((instance_at w part.instance).block))

abbrev pub names_in : PProgram → World → Part → ℕ
names_in tree w part = level_of (block_numbered (scopes_of tree).blocks ((instance_at w part.instance).block))

abbrev pub level_in : PProgram → World → Part → ℕ
level_in tree w part = run_level (is_evaluation part.purpose) (names_in tree w part)

-- what surrounds what it has to do, where it gives this when it leaves
abbrev pub context_in : PProgram → Code → Texts → World → Part → Yields → Context
context_in tree code texts w part gives = in_routine gives (context_of code texts (scopes_of tree) ((instance_at w part.instance).block))

-- how many words may lie above the cells of its frame
abbrev pub most_in : PProgram → World → Part → ℕ
most_in tree w part = most_around tree ((instance_at w part.instance).block)

-- ---- weights

-- an instance that is of the block of which it was, with as many cells
pub record IsAsHeavy (w w' : World) (i : ℕ) : Type 0 where
  pub block : (instance_at w' i).block ≡ (instance_at w i).block
  pub cells : length ((instance_at w' i).cells) ≡ length ((instance_at w i).cells)

pub same_weight : (tree : PProgram) (w w' : World) (parts : List Part) → ((i : ℕ) → IsOfPart parts i → IsAsHeavy w w' i) → parts_weight tree w' parts ≡ parts_weight tree w parts
same_weight tree w w' [] each = refl
same_weight tree w w' (part ∷ parts) each =
    let x : IsAsHeavy w w' part.instance = each part.instance (inl refl) in
    ap (λ (n : ℕ). 8 + (if is_evaluation part.purpose then 0 else n) + 4 * tokens_around tree ((instance_at w' part.instance).block) + parts_weight tree w' parts) x.cells
    ∙ ap (λ (j : ℕ). 8 + (if is_evaluation part.purpose then 0 else length ((instance_at w part.instance).cells)) + 4 * tokens_around tree j + parts_weight tree w' parts) x.block
    ∙ ap (λ (n : ℕ). 8 + (if is_evaluation part.purpose then 0 else length ((instance_at w part.instance).cells)) + 4 * tokens_around tree ((instance_at w part.instance).block) + n)
    (same_weight tree w w' parts (λ i own. each i (inr own)))

-- ---- frames

-- the parts around, below a frame of the same words
pub around_at : (tree : PProgram) (code : Code) (texts : Texts) (w : World) (lay : Layout) (p : ℕ) (parts : List Part) (l l' : List Word) (m m' c c' : Word) (wanted : Yields) → l ≡ l' → m ≡ m' → c ≡ c' →
    Around tree code texts w lay p parts l m c wanted → Around tree code texts w lay p parts l' m' c' wanted
around_at tree code texts w lay p parts l l' m m' c c' wanted el em ec a =
    subst (λ (x : List Word). Around tree code texts w lay p parts x m' c' wanted) el
    (subst (λ (x : Word). Around tree code texts w lay p parts l x c' wanted) em
    (subst (λ (x : Word). Around tree code texts w lay p parts l m x wanted) ec a))

-- the mark of a frame lies below its words
pub frame_low : (tree : PProgram) (code : Code) (texts : Texts) (w : World) (lay : Layout) (p : ℕ) (part : Part) (outer : List Part) (words : List Word) →
    (f : Frame tree code texts w lay p part outer words) → length f.lower + 2 + length f.cells ≡ length words
frame_low tree code texts w lay p part outer words f =
    omega (arith, ap length f.words_are, length-append f.lower (f.mark ∷ f.control ∷ f.cells))

module _ (tree : PProgram) (code : Code) (texts : Texts) (w w' : World) (lay lay' : Layout) (p limit : ℕ) (stay : StayBelow (scopes_of tree) w w' lay lay' p limit) where
  abbrev sc : Scopes
  sc = scopes_of tree

  -- the frame of a part whose mark lies below, with the parts around
  pub record FrameStill (part : Part) (outer : List Part) (words : List Word) (cells : List Word) (gives : Yields) : Type 0 where
    pub frame : Frame tree code texts w' lay' p part outer words
    pub around : Around tree code texts w' lay' p outer frame.lower frame.mark frame.control frame.gives
    pub cells_are : frame.cells ≡ cells
    pub gives_are : frame.gives ≡ gives

  pub frame_still : (part : Part) (outer : List Part) (words : List Word) (f : Frame tree code texts w lay p part outer words) →
      Around tree code texts w lay p outer f.lower f.mark f.control f.gives → length f.lower < limit → FrameStill part outer words f.cells f.gives
  frame_still part outer words f a low =
      let t : Stayed tree code texts w w' lay lay' p limit stay part outer words f = frame_stays tree code texts w w' lay lay' p limit stay part outer words f a low in
      record {
        frame = t.frame;
        around = subst (λ (y : Yields). Around tree code texts w' lay' p outer t.frame.lower t.frame.mark t.frame.control y) (sym t.gives)
            (around_at tree code texts w' lay' p outer f.lower t.frame.lower f.mark t.frame.mark f.control t.frame.control f.gives (sym t.lower) (sym t.mark) (sym t.control)
            (around_stays tree code texts w w' lay lay' p limit stay outer f.lower f.mark f.control f.gives (omega (arith, low)) a));
        cells_are = t.cells;
        gives_are = t.gives;
      }

  -- it lies as high
  pub still_low : (part : Part) (outer : List Part) (words : List Word) (f : Frame tree code texts w lay p part outer words) (t : FrameStill part outer words f.cells f.gives) → length t.frame.lower ≡ length f.lower
  still_low part outer words f t =
      omega (arith, frame_low tree code texts w' lay' p part outer words t.frame, frame_low tree code texts w lay p part outer words f, ap length t.cells_are)

  -- the innermost part weighs what it weighed
  part_weighs : (part : Part) (outer : List Part) (words : List Word) (f : Frame tree code texts w lay p part outer words) → Around tree code texts w lay p outer f.lower f.mark f.control f.gives → length f.lower < limit →
      part_weight tree w' part ≡ part_weight tree w part
  part_weighs part outer words f a low = by_shape f.shape
    where
      same : (instance_at w' part.instance).block ≡ (instance_at w part.instance).block
      same = same_block tree code texts w w' lay lay' p limit stay part outer words f a low

      by_shape : Shape tree code texts w lay p part outer (length f.lower) f.mark f.control f.cells f.home f.gives → part_weight tree w' part ≡ part_weight tree w part
      by_shape (of_own o is) =
          ap (λ (x : Instance). 8 + (if is_evaluation part.purpose then 0 else length x.cells) + 4 * tokens_around tree x.block)
          (ap or_no_instance (stay.instances part.instance (length f.lower) o.framed.instance o.framed.is o.framed.own o.framed.laid low ∙ sym o.framed.is))
      by_shape (of_lent l) =
          ap (λ (b : Bool). 8 + (if b then 0 else length ((instance_at w' part.instance).cells)) + 4 * tokens_around tree ((instance_at w' part.instance).block)) l.evaluates
          ∙ ap (λ (j : ℕ). 8 + 0 + 4 * tokens_around tree j) same
          ∙ ap (λ (b : Bool). 8 + (if b then 0 else length ((instance_at w part.instance).cells)) + 4 * tokens_around tree ((instance_at w part.instance).block)) (sym l.evaluates)

  module _ (laid : AreLaid w lay) (part : Part) (outer : List Part) (core : Core) (s : FrameStands tree code texts w lay p part outer core)
      (a : Around tree code texts w lay p outer s.frame.lower s.frame.mark s.frame.control s.frame.gives) (low : length core.below ≤ limit) where
    abbrev i : ℕ
    i = part.instance

    frame_below : length s.frame.lower < limit
    frame_below = omega (arith, low, frame_low tree code texts w lay p part outer core.below s.frame)

    -- the instance of the innermost part stands before and after
    pub part_still : IsStanding w part.instance × IsStanding w' part.instance
    part_still = here_still tree code texts w w' lay lay' p limit stay part outer core.below s.frame a frame_below

    -- its static parents are the same, and so is where the display has their frames
    pub chained_stays : (display : List (Option Place)) → IsChained (scopes_of tree) w lay part.instance (names_in tree w part) display → IsChained (scopes_of tree) w' lay' part.instance (names_in tree w part) display
    chained_stays display chained up h = chained up h ∙ sym (same_place sc w w' lay lay' stay.on laid i part_still up)

    -- the parts weigh what they weighed
    pub parts_weigh : parts_weight tree w' (part ∷ outer) ≡ parts_weight tree w (part ∷ outer)
    parts_weigh =
        ap (λ (n : ℕ). n + parts_weight tree w' outer) (part_weighs part outer core.below s.frame a frame_below)
        ∙ ap (λ (n : ℕ). part_weight tree w part + n)
        (sym (weight_stays tree code texts w w' lay lay' p limit stay outer s.frame.lower s.frame.mark s.frame.control s.frame.gives (omega (arith, frame_below)) a))

    still : FrameStill part outer core.below s.frame.cells s.frame.gives
    still = frame_still part outer core.below s.frame a frame_below

    -- what is known of descriptors and references holds as it did
    pub known_stays : (known : List Known) → AreKnown (scopes_of tree) w lay (IsInReach w (part ∷ outer)) part.instance known → AreKnown (scopes_of tree) w' lay' (IsInReach w' (part ∷ outer)) part.instance known
    known_stays = known_after tree code texts w w' lay lay' p limit stay part outer core.below s.frame a frame_below

    -- the part is of the same block
    pub block_stays : (instance_at w part.instance).block ≡ (instance_at w' part.instance).block
    block_stays = sym (same_block tree code texts w w' lay lay' p limit stay part outer core.below s.frame a frame_below)

    chained_now : IsChained sc w' lay' i (names_in tree w' part) core.registers.display
    chained_now = subst (λ (j : ℕ). IsChained sc w' lay' i (level_of (block_numbered sc.blocks j)) core.registers.display) block_stays (chained_stays core.registers.display s.chained)

    -- the display names it at the level at which the code of the part runs
    pub top_stays : (t : FrameStill part outer core.below s.frame.cells s.frame.gives) → place_at core.registers.display (level_in tree w' part) ≡ Some (place p (length t.frame.lower))
    top_stays t =
        ap (λ (j : ℕ). place_at core.registers.display (run_level (is_evaluation part.purpose) (level_of (block_numbered sc.blocks j)))) (sym block_stays)
        ∙ s.top
        ∙ ap (λ (n : ℕ). Some (place p n)) (sym (still_low part outer core.below s.frame t))

    pub part_stays : Frames tree code texts w' lay' p (part ∷ outer) core
    part_stays = (
      record {
        frame = still.frame;
        counted = s.counted ∙ sym (ap length still.cells_are);
        chained = chained_now;
        top = top_stays still;
        segment_is = s.segment_is ∙ ap (λ (j : ℕ). segment_of sc.blocks j) block_stays;
        asks = s.asks;
        pc = s.pc;
        slots = s.slots;
        stands = subst (λ (y : Yields). StandsFor sc (context_in tree code texts w' part y) (text_in tree texts w' part) (level_in tree w' part) (most_in tree w' part) part.rest s.pc s.slots) (sym still.gives_are)
            (subst (λ (j : ℕ). StandsFor sc (in_routine s.frame.gives (context_of code texts sc j)) (texts.placed (segment_of sc.blocks j)) (run_level (is_evaluation part.purpose) (level_of (block_numbered sc.blocks j))) (most_around tree j) part.rest s.pc s.slots) block_stays
            s.stands);
        held = s.held;
        held_are = known_stays s.held s.held_are;
        there = subst (λ (j : ℕ). CoreAt sc s.held code (texts.placed (segment_of sc.blocks j)) (run_level (is_evaluation part.purpose) (level_of (block_numbered sc.blocks j))) s.pc s.slots core) block_stays s.there;
        few = subst (λ (j : ℕ). length s.slots ≤ most_around tree j) block_stays s.few;
      },
      still.around,
    )

  module _ (laid : AreLaid w lay) where
    -- all parts of a process
    pub frames_stay : (parts : List Part) (core : Core) → length core.below ≤ limit → Frames tree code texts w lay p parts core → Frames tree code texts w' lay' p parts core
    frames_stay [] core low f = absurd f
    frames_stay (part ∷ outer) core low f = part_stays laid part outer core f.0 f.1 low

    pub frames_weigh : (parts : List Part) (core : Core) → length core.below ≤ limit → Frames tree code texts w lay p parts core → parts_weight tree w' parts ≡ parts_weight tree w parts
    frames_weigh [] core low f = absurd f
    frames_weigh (part ∷ outer) core low f = parts_weigh laid part outer core f.0 f.1 low

    -- the innermost part has as much room
    pub frames_most : (parts : List Part) (core : Core) → length core.below ≤ limit → Frames tree code texts w lay p parts core → innermost_most tree w' parts ≡ innermost_most tree w parts
    frames_most [] core low f = absurd f
    frames_most (part ∷ outer) core low f = ap (most_around tree) (sym (block_stays laid part outer core f.0 f.1 low))
