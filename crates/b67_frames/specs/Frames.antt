-- The frames of a process: how the words of its stack stand for the parts that it has still to do.
use Rattle.std.specs.Prelude.{◌≡◌, ◌⊎◌, ℕ, zero, suc, ◌+◌, ◌-◌, ◌*◌, ◌<◌, ◌≤◌, true, false, List, [], ◌∷◌, ◌++◌, length, reverse, Option, Some, None, slice_get, Bool}
use Rattle.b67_list.specs.Numbered.{numbered}
use Rattle.algol_tree.specs.Blocks.{Block, block_numbered, around}
use Rattle.algol_tree.specs.Cells.{level_of}
use Rattle.algol_tree.specs.Plain.{PProgram, PBody}
use Rattle.algol_tree.specs.Scopes.{Scopes, scopes_of}
use Rattle.algol_meaning.specs.Value as meant
use Rattle.algol_meaning.specs.Value.{Cell, simple, reference}
use Rattle.algol_meaning.specs.World.{NamedCell, Instance, Part, World, instance_at, ancestor}
use Rattle.algol_meaning.specs.Rest.{Answer}
use Rattle.algol_meaning.specs.Asks.{nothing, ask, resume}
use Rattle.algol_meaning.specs.Critical.{is_evaluation}
use Rattle.algol_meaning.specs.Statements.{items_of}
use Rattle.algol_paths.specs.Arrays.{Made, all_to_make}
use Rattle.algol_paths.specs.Blocks.{IsSeenAround}
use Rattle.algol_paths.specs.Laws.{KeepsToText}
use Rattle.algol_paths.specs.Segments.{segment_of}
use Rattle.algol_paths.specs.Texts.{InRest}
use Rattle.algol_standing.specs.Worlds.{IsStanding, IsOnPath, newest_own}
use Rattle.b67_word.specs.declared.Place.{Place}
use Rattle.b67_word.specs.Word.{Word}
use Rattle.b67_control.specs.declared.Pcw.{Pcw}
use Rattle.b67_control.specs.declared.Rcw.{Rcw}
use Rattle.b67_control.specs.Control.{Fits_pcw, as_mscw, as_rcw, as_descriptor}
use Rattle.b67_control.specs.Display.{place_at}
use Rattle.b67_ops.specs.declared.TheConstants.{OUTER_LEVEL}
use Rattle.b67_segment.specs.Operators.{Placed}
use Rattle.b67_segment.specs.declared.code.Code.{Code}
use Rattle.b67_table.specs.Chains.{place}
use Rattle.b67_table.specs.Linkage.{code_place}
use Rattle.b67_templates.specs.Contexts as yielding
use Rattle.b67_templates.specs.Contexts.{Yields, yields_of, Context}
use Rattle.b67_templates.specs.Fragments.{HasKind}
use Rattle.b67_templates.specs.Programs.{Texts, text_of, context_of}
use Rattle.b67_templates.specs.Cells as wants
use Rattle.b67_templates.specs.Cells.{Simple, Wanted, simple_cells, procedures, actuals_of, made_of}
use Rattle.b67_templates.specs.Code.{RoutinesAt, KAt, control_pcws, in_routine}
use Rattle.b67_standing.specs.Stepping.{Slot}
use Rattle.b67_standing.specs.Standing.{Gives, pushed, StandsFor, ComesTo}
use Rattle.b67_cores.specs.Cores.{Core}
use Rattle.b67_cores.specs.Slots.{ValueIs, Known, newest, SlotsAre}
use Rattle.b67_cores.specs.Stretches.{CoreAt, control_words}
use Rattle.b67_faithful.specs.Weight.{tokens_around, parts_weight}
use Rattle.b67_frames.specs.Arrays.{Layout, AreMade, Denotes, AreKnown}
use Rattle.b67_frames.specs.Lent.{Lent}

-- ---- cells

-- the word of a cell of which that is wanted: of a variable its value, which has the kind of its declaration; of a parameter that stands for an
-- array, for an event, for a variable or for an actual a reference, which describes no row
abbrev pub CellIs : Wanted → Cell → Word → Type 0
CellIs (wants.value k) (simple v) w = HasKind k v × ValueIs v w
CellIs (wants.array shape) (reference r) w = as_descriptor w ≡ None
CellIs wants.event (reference r) w = as_descriptor w ≡ None
CellIs (wants.by_name kind) (reference r) w = as_descriptor w ≡ None
CellIs (wants.by_name kind) (meant.named a) w = as_descriptor w ≡ None
CellIs _ _ w = ⊥

-- a cell of which that is wanted stands for something else
abbrev pub Refers : Wanted → Type 0
Refers (wants.value k) = ⊥
Refers _ = Unit {0}

-- the words of an instance's cells, in the order of its block
abbrev pub CellsAre : List Simple → List NamedCell → List Word → Type 0
CellsAre [] [] [] = Unit {0}
CellsAre (s ∷ ss) (c ∷ cells) (w ∷ words) = (c.name ≡ s.name) × CellIs s.wanted c.cell w × CellsAre ss cells words
CellsAre _ _ _ = ⊥

-- the control words among the cells of the block with this number: of its procedures, and of its actuals, whose code stands at these places
abbrev pub block_controls : Scopes → ℕ → List ℕ → List Pcw
block_controls sc j ats =
    control_pcws sc (segment_of sc.blocks j) (level_of (block_numbered sc.blocks j)) (block_numbered sc.blocks j).decls (actuals_of sc (block_numbered sc.blocks j)) ats

-- how many they are
abbrev pub controls_count : Scopes → ℕ → ℕ
controls_count sc j = length (procedures (block_numbered sc.blocks j).decls) + length (actuals_of sc (block_numbered sc.blocks j))

-- how many words may lie above the cells of a block's frame: four for each token of the segment, but for the control words among the cells
abbrev pub most_around : PProgram → ℕ → ℕ
most_around tree j = 4 * tokens_around tree j - controls_count (scopes_of tree) j

-- the level at which the code of a part runs, of which the names have this level: that of an actual runs one level further in
abbrev pub run_level : Bool → ℕ → ℕ
run_level true level = level + 1
run_level false level = level

-- What these parts can come to lies on the path from the newest instance that is one of theirs.
abbrev pub IsInReach : World → List Part → ℕ → Type 0
IsInReach w parts i = IsOnPath w (newest_own parts) i

module _ (sc : Scopes) (w : World) (lay : Layout) where
  -- the block of an instance
  abbrev pub block_at : ℕ → Block
  block_at i = block_numbered sc.blocks ((instance_at w i).block)

  -- The display names the frames of the instance and of its static parents, each at the level of its block.
  abbrev pub IsChained : ℕ → ℕ → List (Option Place) → Type 0
  IsChained i level display = (up : ℕ) → up + OUTER_LEVEL ≤ level → place_at display (level - up) ≡ numbered lay.places (ancestor w up i)

  -- where the static link of a frame leads: to the frame of the instance's parent, that of an outermost one to the system's stack
  abbrev pub home_of : ℕ → Option Place
  home_of zero = Some (place 0 0)
  home_of (suc i) = numbered lay.places (suc i)

  -- the instance has made all that its block declares
  abbrev pub IsComplete : ℕ → Type 0
  IsComplete i = length ((instance_at w i).cells) ≡ length (simple_cells sc (block_at i)) + length (made_of (block_at i).decls)

  -- An evaluation in an instance that has not made all keeps to what is around the block of that, and enters no block.
  abbrev pub IsNarrow : Part → Type 0
  IsNarrow part =
      is_evaluation part.purpose ≡ true → IsComplete part.instance
      ⊎ InRest (IsSeenAround sc ((instance_at w part.instance).block)) (λ (b : PBody). ⊥) (IsSeenAround sc ((instance_at w part.instance).block)) part.rest

  -- An instance of an outermost block has no parent. That of another block has one that stands, of the block around it, and that has made all
  -- that its block declares.
  pub data FrameIsPlaced (x : Instance) : Type 0 where
    outermost : x.parent ≡ 0 → around sc.blocks x.block ≡ [] → FrameIsPlaced x
    inside : IsStanding w x.parent → around sc.blocks x.block ≡ (instance_at w x.parent).block ∷ around sc.blocks ((instance_at w x.parent).block) → IsComplete x.parent → FrameIsPlaced x

  -- so are the instances that stand
  abbrev pub ArePlaced : Type 0
  ArePlaced = (i : ℕ) → IsStanding w i → FrameIsPlaced (instance_at w i)

  -- The frame of an instance of process p, so high in its stack: its mark and its control word, which are read as such, and these words for its
  -- cells.
  pub record Framed (p i : ℕ) (outer : List Part) (at : ℕ) (mark control : Word) (cells : List Word) : Type 0 where
    pub instance : Instance
    pub is : numbered w.instances i ≡ Some instance
    pub own : instance.process ≡ p
    pub known : instance.block < length sc.blocks
    pub stands : instance.left ≡ false
    pub laid : numbered lay.places i ≡ Some (place p at)
    pub simple : List NamedCell
    pub values : List Word
    pub simple_are : CellsAre (simple_cells sc (block_numbered sc.blocks instance.block)) simple values
    -- each parameter that stands for something leads to it, in an instance that stands
    pub formals : (k : ℕ) (s : Simple) → slice_get (simple_cells sc (block_numbered sc.blocks instance.block)) k ≡ Some s → Refers s.wanted →
        (c : NamedCell) × (word : Word) × (slice_get simple k ≡ Some c) × (slice_get values k ≡ Some word) × Denotes sc w lay (IsStanding w) s.wanted c.cell word
    -- after them lie the control words of the block's procedures and of its actuals, whose code stands at these places, and then the
    -- descriptors of the arrays that are made, and the words of the events that are
    pub ats : List ℕ
    pub each_has_place : length ats ≡ length (actuals_of sc (block_numbered sc.blocks instance.block))
    pub arrays : List NamedCell
    pub declared : List Made
    pub later : List Made
    pub order : made_of (block_numbered sc.blocks instance.block).decls ≡ declared ++ later
    pub descriptors : List Word
    pub made : AreMade declared arrays (lay.rows i) descriptors
    pub has : instance.cells ≡ simple ++ arrays
    pub cells_is : cells ≡ values ++ (control_words (block_controls sc instance.block ats) ++ descriptors)
    pub home : Place
    pub linked : home_of instance.parent ≡ Some home
    pub df : ℕ
    pub mark_is : as_mscw mark ≡ Some (record { entered = true; stack = home.stack; displacement = home.at; df = df })
    pub back : Rcw
    pub control_is : as_rcw control ≡ Some back
    pub level_is : back.own_level ≡ level_of (block_numbered sc.blocks instance.block)

-- each control word can hold where its code stands
abbrev pub AllFit : List Pcw → Type 0
AllFit [] = Unit {0}
AllFit (c ∷ cs) = Fits_pcw c × AllFit cs

-- the code of the actuals of the block with this number stands at these places, and the block's control words can hold where their code stands
abbrev pub RoutinesStand : PProgram → Code → Texts → ℕ → List ℕ → Type 0
RoutinesStand tree code texts j ats =
    RoutinesAt (scopes_of tree) (context_of code texts (scopes_of tree) j) (text_of texts (scopes_of tree) j) (level_of (block_numbered (scopes_of tree).blocks j) + 1)
    (actuals_of (scopes_of tree) (block_numbered (scopes_of tree).blocks j)) ats
    × AllFit (block_controls (scopes_of tree) j ats)

-- what the block with this number has to do stands from some place on
abbrev pub ItemsStand : PProgram → Code → Texts → ℕ → Type 0
ItemsStand tree code texts j =
    (start : ℕ)
    × KAt (scopes_of tree) (context_of code texts (scopes_of tree) j) (text_of texts (scopes_of tree) j) (level_of (block_numbered (scopes_of tree).blocks j))
    (items_of (block_numbered (scopes_of tree).blocks j)) start

module _ (tree : PProgram) (code : Code) (texts : Texts) (w : World) (lay : Layout) (p : ℕ) where
  -- the number of a part's block, and the segment in which its text stands
  abbrev pub block_of_part : Part → ℕ
  block_of_part part = (instance_at w part.instance).block

  abbrev pub segment_at : Part → ℕ
  segment_at part = segment_of (scopes_of tree).blocks (block_of_part part)

  abbrev pub text_of_part : Part → List Placed
  text_of_part part = texts.placed (segment_at part)

  -- what surrounds it, where it gives this when it leaves
  abbrev pub context_at : Part → Yields → Context
  context_at part gives = in_routine gives (context_of code texts (scopes_of tree) (block_of_part part))

  -- how many words may lie above the cells of its frame
  abbrev pub most_of : Part → ℕ
  most_of part = most_around tree (block_of_part part)

  -- the level of its names, and that at which its code runs
  abbrev pub names_at : Part → ℕ
  names_at part = level_of (block_at (scopes_of tree) w lay part.instance)

  abbrev pub level_of_part : Part → ℕ
  level_of_part part = run_level (is_evaluation part.purpose) (names_at part)

  -- The frame is that of the part's own instance, which holds the cells of its block.
  pub record Owned (part : Part) (outer : List Part) (at : ℕ) (mark control : Word) (cells : List Word) : Type 0 where
    pub owns : is_evaluation part.purpose ≡ false
    pub framed : Framed (scopes_of tree) w lay p part.instance outer at mark control cells
    pub routines : RoutinesStand tree code texts framed.instance.block framed.ats
    pub items : ItemsStand tree code texts framed.instance.block
    -- what it has still to make is what its instance has not made
    pub making : framed.later ≡ all_to_make part.rest

  -- Whose frame it is, and what the part gives when it leaves: of an own instance the result of its block. Or it is lent to the evaluation
  -- of an actual, whose instance lies in reach of the parts around; its mark leads there, to home.
  pub data Shape (part : Part) (outer : List Part) (at : ℕ) (mark control : Word) (cells : List Word) (home : Place) (gives : Yields) : Type 0 where
    of_own : (o : Owned part outer at mark control cells) → gives ≡ yields_of (block_numbered (scopes_of tree).blocks o.framed.instance.block).result → Shape part outer at mark control cells home gives
    of_lent : Lent lay (IsInReach w outer) part cells home gives → Shape part outer at mark control cells home gives

  -- These words of a stack, the bottom first, end with the frame of a part: a mark and a control word, which are read as such, and these words
  -- for cells. What the part has still to do keeps to the text of its block.
  pub record Frame (part : Part) (outer : List Part) (words : List Word) : Type 0 where
    pub lower : List Word
    pub mark : Word
    pub control : Word
    pub cells : List Word
    pub words_are : words ≡ lower ++ mark ∷ control ∷ cells
    pub instance : Instance
    pub is : numbered w.instances part.instance ≡ Some instance
    pub known : instance.block < length (scopes_of tree).blocks
    pub home : Place
    pub df : ℕ
    pub mark_is : as_mscw mark ≡ Some (record { entered = true; stack = home.stack; displacement = home.at; df = df })
    pub back : Rcw
    pub control_is : as_rcw control ≡ Some back
    pub level_is : back.own_level ≡ run_level (is_evaluation part.purpose) (level_of (block_numbered (scopes_of tree).blocks instance.block))
    pub text : KeepsToText (scopes_of tree) (block_of_part part) part.rest
    pub gives : Yields
    pub shape : Shape part outer (length lower) mark control cells home gives

  -- The innermost part: the core is at the place, and has the words, where the machine stands for what the part has still to do.
  pub record FrameStands (part : Part) (outer : List Part) (core : Core) : Type 0 where
    pub frame : Frame part outer core.below
    pub counted : core.registers.cells ≡ length frame.cells
    pub chained : IsChained (scopes_of tree) w lay part.instance (names_at part) core.registers.display
    -- at the level at which its code runs the display names its own frame
    pub top : place_at core.registers.display (level_of_part part) ≡ Some (place p (length frame.lower))
    pub segment_is : core.registers.segment ≡ segment_at part
    pub asks : ask part.rest ≡ nothing → ⊥
    pub pc : ℕ
    pub slots : List Slot
    pub held : List Known
    pub held_are : AreKnown (scopes_of tree) w lay (IsInReach w (part ∷ outer)) part.instance held
    pub stands : StandsFor (scopes_of tree) (context_at part frame.gives) (text_of_part part) (level_of_part part) (most_of part) part.rest pc slots
    pub there : CoreAt (scopes_of tree) held code (text_of_part part) (level_of_part part) pc slots core
    pub few : length slots ≤ most_of part

  -- A part around, which waits for the one inside it. Once that has left with what is wanted of it, it goes on. The mark and the control word of the frame above lead back: the mark to the newest
  -- mark below, the control word to the place where it goes on.
  pub record Waits (part : Part) (outer : List Part) (lower : List Word) (mark control : Word) (wanted : Yields) : Type 0 where
    pub below : List Word
    pub words : List Word
    pub lower_is : lower ≡ below ++ reverse words
    pub frame : Frame part outer below
    pub waits : ask part.rest ≡ nothing
    pub pc : ℕ
    pub slots : List Slot
    pub returns : (a : Answer) → Gives wanted a →
        ComesTo (scopes_of tree) (context_at part frame.gives) (text_of_part part) (level_of_part part) (most_of part) (resume (scopes_of tree) part.rest a) pc (pushed wanted a slots)
    pub few : length slots + 1 ≤ most_of part
    pub held : List Known
    pub held_are : AreKnown (scopes_of tree) w lay (IsInReach w (part ∷ outer)) part.instance held
    pub words_are : SlotsAre (scopes_of tree) held (level_of_part part) (length frame.lower) (length below) slots words
    pub home : Place
    pub df : ℕ
    pub mark_is : as_mscw mark ≡ Some (record { entered = true; stack = home.stack; displacement = home.at; df = df })
    pub far : df + newest (length frame.lower) (length below) slots ≡ length lower
    pub back : Rcw
    pub control_is : as_rcw control ≡ Some back
    pub segment_is : back.segment ≡ segment_at part
    pub place_is : code_place back.psr back.pir ≡ pc
    pub level_is : back.caller_level ≡ level_of_part part
    pub cells_are : back.caller_cells ≡ length frame.cells
    pub light : length below + most_of part + 3 ≤ parts_weight tree w (part ∷ outer)

  -- The parts around, the innermost first, whose frames lie in these words, below a frame of this mark and this control word, of whose part
  -- that is wanted.
  abbrev pub Around : List Part → List Word → Word → Word → Yields → Type 0
  Around [] lower mark control wanted = (lower ≡ []) × (wanted ≡ yielding.nothing)
  Around (part ∷ outer) lower mark control wanted =
      (s : Waits part outer lower mark control wanted) × Around outer s.frame.lower s.frame.mark s.frame.control s.frame.gives

  -- the parts of a process, the innermost first
  abbrev pub Frames : List Part → Core → Type 0
  Frames [] core = ⊥
  Frames (part ∷ outer) core = (s : FrameStands part outer core) × Around outer s.frame.lower s.frame.mark s.frame.control s.frame.gives
