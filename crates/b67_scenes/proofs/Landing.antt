-- A process that has a core at a place from which private operators lead to where the machine stands for what its parts have still to do.
use Rattle.std.proofs.Common.{◌≡◌, sym, ap, ◌∙◌, subst, ℕ, ◌+◌, ◌≤◌, List, ◌∷◌, ◌++◌, length, Some, arith}
use Rattle.b67_scenes.proofs.Prelude.{PProgram, Scopes, scopes_of, Process, Part, World, instance_at, segment_of, place_at, Registers, Placed, Code, stack_limit, place, Image, frame, Texts, ComesTo, Slot, slots_length, Core, size, HasCore, CoreSteps, Known, CoreAt, FragmentsArePerformed, weight, Layout, AreKnown, IsInReach, IsChained, Frame, Around, Frames, CriticalIs, TaskIs, innermost_most, Living, CoreReaches, ReachesFor}
use Rattle.b67_scenes.proofs.Paths.{CanClimb}
use Rattle.b67_cores.specs.Cores.{here}
use Rattle.b67_cores.specs.Stretches.{Arrives}
use Rattle.b67_cores.proofs.Moving.{steps_on}
use Rattle.b67_scenes.specs.Reaches as reaching
use Rattle.b67_scenes.proofs.Ancestors.{AreLaid}
use Rattle.b67_scenes.proofs.Staying.{text_in, level_in, context_in, most_in, names_in}
use Rattle.b67_scenes.proofs.Stuffed.{known_both, sees, stuffed_known}

-- a core at a place is there, after no step, where its stack has the room of the bound
pub steps_none : (sc : Scopes) (known : List Known) (code : Code) (ps : List Placed) (level most bound pc : ℕ) (slots : List Slot) (core : Core) → CoreAt sc known code ps level pc slots core → length slots ≤ most → length core.below + most ≤ bound →
    CoreSteps code bound 0 core core
steps_none sc known code ps level most bound pc slots core at few room =
    here (omega (arith, slots_length sc known level (frame core.registers) (length core.below) slots core.words at.words_are, few, room))

module _ (tree : PProgram) (code : Code) (texts : Texts) (w : World) (lay : Layout) (img : Image) where
  -- The process has the core `first`, from which private operators lead to `core`. That has the frame of the innermost part, and stands at
  -- a place from where the machine comes to where it stands for what the part has still to do.
  pub record Landed (p : ℕ) (q : Process) (part : Part) (outer : List Part) (bound : ℕ) (first core : Core) : Type 0 where
    pub todo : q.todo ≡ part ∷ outer
    pub has : HasCore img p first
    pub critical : CriticalIs lay q.critical first.registers.critical
    pub task : TaskIs (scopes_of tree) w lay q.task first.registers.task
    pub sees : place_at first.registers.display 0 ≡ Some (place 0 0)
    pub small : size first ≤ stack_limit
    pub begun : ℕ
    pub begins : CoreSteps code bound begun first core
    pub frame : Frame tree code texts w lay p part outer core.below
    pub around : Around tree code texts w lay p outer frame.lower frame.mark frame.control frame.gives
    pub counted : core.registers.cells ≡ length frame.cells
    pub chained : IsChained (scopes_of tree) w lay part.instance (names_in tree w part) core.registers.display
    pub top : place_at core.registers.display (level_in tree w part) ≡ Some (place p (length frame.lower))
    pub segment_is : core.registers.segment ≡ segment_of (scopes_of tree).blocks ((instance_at w part.instance).block)
    pub pc : ℕ
    pub slots : List Slot
    pub known : List Known
    pub known_are : AreKnown (scopes_of tree) w lay (IsInReach w (part ∷ outer)) part.instance known
    pub at : CoreAt (scopes_of tree) known code (text_in tree texts w part) (level_in tree w part) pc slots core
    pub held : length slots ≤ most_in tree w part
    pub comes : ComesTo (scopes_of tree) (context_in tree code texts w part frame.gives) (text_in tree texts w part) (level_in tree w part) (most_in tree w part) part.rest pc slots
    pub reaches : CoreReaches (scopes_of tree) w lay p part first core
    pub room : length core.below + most_in tree w part ≤ bound
    pub light : bound + 3 ≤ weight tree w p

  -- what others may look at does not change where no cell is added
  reach_moved : (p : ℕ) (part : Part) (first core moved : Core) → moved.below ≡ core.below → CoreReaches (scopes_of tree) w lay p part first core → CoreReaches (scopes_of tree) w lay p part first moved
  reach_moved p part first core moved same (reaching.all as_long) = reaching.all (as_long ∙ ap length (sym same))
  reach_moved p part first core moved same (reaching.low at owns laid enough is_low) = reaching.low at owns laid enough is_low
  reach_moved p part first core moved same (reaching.none_yet at owns laid enough free) = reaching.none_yet at owns laid enough free

  -- so it lives, where names lead somewhere, and who stands has a place
  pub living_of : CanClimb (scopes_of tree) w → AreLaid w lay → FragmentsArePerformed → (p : ℕ) (q : Process) (part : Part) (outer : List Part) (bound : ℕ) (first core : Core) → Landed p q part outer bound first core → Living tree code texts w lay img p q
  living_of climb laid fragments p q part outer bound first core l =
      let a : Arrives (scopes_of tree) l.known (context_in tree code texts w part l.frame.gives) code (text_in tree texts w part) (level_in tree w part) (most_in tree w part) bound l.comes.at l.comes.with_slots core =
      fragments.leads (scopes_of tree) l.known (context_in tree code texts w part l.frame.gives) code (text_in tree texts w part) (level_in tree w part) (most_in tree w part) bound l.pc l.comes.at l.slots l.comes.with_slots core l.comes.leads l.at
      (sees tree code texts w climb lay laid p (record { part = part; outer = outer; words = core.below; frame = l.frame; around = l.around; core = core; chained = l.chained })) l.held l.room in
      let chained_there : IsChained (scopes_of tree) w lay part.instance (names_in tree w part) a.core.registers.display =
      subst (λ d. IsChained (scopes_of tree) w lay part.instance (names_in tree w part) d) (sym (ap (λ (r : Registers). r.display) a.moved.registers)) l.chained in
      let stands : Frames tree code texts w lay p (part ∷ outer) a.core = (
        record {
          frame = record {
            lower = l.frame.lower;
            mark = l.frame.mark;
            control = l.frame.control;
            cells = l.frame.cells;
            words_are = a.moved.below ∙ l.frame.words_are;
            instance = l.frame.instance;
            is = l.frame.is;
            known = l.frame.known;
            home = l.frame.home;
            df = l.frame.df;
            mark_is = l.frame.mark_is;
            back = l.frame.back;
            control_is = l.frame.control_is;
            level_is = l.frame.level_is;
            text = l.frame.text;
            gives = l.frame.gives;
            shape = l.frame.shape;
          };
          counted = ap (λ (r : Registers). r.cells) a.moved.registers ∙ l.counted;
          chained = chained_there;
          top = ap (λ (r : Registers). place_at r.display (level_in tree w part)) a.moved.registers ∙ l.top;
          segment_is = ap (λ (r : Registers). r.segment) a.moved.registers ∙ l.segment_is;
          asks = l.comes.asks;
          pc = l.comes.at;
          slots = l.comes.with_slots;
          held = a.added ++ l.known;
          held_are = known_both (scopes_of tree) w lay (IsInReach w (part ∷ outer)) part.instance a.added l.known
              (stuffed_known tree code texts w climb lay laid p (record { part = part; outer = outer; words = core.below; frame = l.frame; around = l.around; core = core; chained = l.chained }) a.added a.added_are) l.known_are;
          stands = l.comes.stands;
          there = a.at;
          few = a.room;
        },
        l.around,
      ) in
      record {
        core = first;
        has = l.has;
        critical = l.critical;
        task = l.task;
        sees = l.sees;
        small = l.small;
        settled = a.core;
        bound = bound;
        count = l.begun + a.count;
        steps = steps_on l.begins a.steps;
        frames = subst (λ t. Frames tree code texts w lay p t a.core) (sym l.todo) stands;
        reaches = subst (λ t. ReachesFor (scopes_of tree) w lay p t first a.core) (sym l.todo) (reach_moved p part first core a.core a.moved.below l.reaches);
        room = omega (arith, l.room, ap length a.moved.below, ap (innermost_most tree w) l.todo);
        light = l.light;
      }
