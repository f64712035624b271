-- GO TO: all frames above that of the label's instance are left, and its part goes on with the statements from the label on.
use Rattle.std.proofs.Common.{◌≡◌, ◌≢◌, ◌⊎◌, refl, sym, ap, ◌∙◌, subst, ℕ, ◌+◌, ◌≤◌, Bool, true, false, List, [], ◌∷◌, length, length-append, Option, Some, None, arith, Ok, ◌<◌}
use Rattle.b67_list.proofs.Numbered.{numbered_set}
use Rattle.b67_list.proofs.Numbers.{number_told}
use Rattle.b67_pictures.proofs.Prelude.{if◌then◌else◌, ◌==◌, pos, slice_get, numbered, set_numbered, block_numbered, level_of, PProgram, Scopes, scopes_of, use_of, Named, Ask, goes_to, ask, Choice, choice, choice_of, gone_to, fails, is_evaluation, own_instances, leave, cut_at, settle_items, items_from, Value, number, Instance, Process, Part, World, instance_at, or_no_instance, with_process, ancestor, KeepsToText, RestsKeepToTheirText, JumpsKeepToTheirText, segment_of, IsStanding, IsOwn, Place, place_at, GoTo, Code, stack_limit, place, rebuilt, Image, is_critical, look_seen, frame, display_at, at_or, Change, live_criticals, operator_at, simple_cells, made_of, in_routine, Yields, yields_of, Texts, context_of, ActionAt, AreNumbers, ComesTo, Core, size, IsCore, HasCore, with_core, CoreAt, FragmentsArePerformed, length_set_numbered, weight, at_operator, has_now, others_have, system_stays, shown, shown_top, rebuilt_seen, enter_class, IsSameBut, action_not_plain, action_is, HasText, arrays_unchanged, IsElsewhere, HasFacts, facts_of, Hangs, hangs, KeepsArrays, Linked, Begins_with, begins_core, begins_front, StayBelow, part_stands, owned_frame, frame_gives, runs_at, StandOn, framed_cells, EventsAre, IsChained, most_around, IsComplete, Frame, Owned, of_own, run_level, all_laid, IsCall, call, operator_there, Way, AreAlike, steps_none, living_of, frame_is, AbleActor, actor_of, choice_is, gives_within, goes_on, weight_of, text_in, level_in, context_in, most_in, names_in, frame_low, FrameStill, frame_still, still_low, same_weight, task_stays, state_stays, held_of, Living, Pictures, PicturesBy, Does, gave}
use Rattle.b67_num.specs.declared.FaultKind.TheVariants as fault
use Rattle.b67_deeds.specs.declared.Letter.TheVariants as act
use Rattle.algol_meaning.specs.Choice.{gone}
use Rattle.algol_meaning.specs.Critical.{some_depends_on_any}
use Rattle.algol_meaning.specs.Instances.{Cut}
use Rattle.b67_ops.specs.declared.Operator.TheVariants as ops
use Rattle.b67_ops.specs.declared.PlainKind.TheVariants as kinds
use Rattle.b67_table.specs.GoingTo.{passing, frames_left, passed_frames}
use Rattle.b67_table.specs.Outcome as outcomes
use Rattle.b67_table.specs.Program.{changed}
use Rattle.b67_table.specs.Table.{table}
use Rattle.b67_cores.specs.Cores.{stack_of}
use Rattle.b67_rows.proofs.Displays.{IsEntered}
use Rattle.b67_frames.proofs.JumpClosing.{events_left, AreClosed, image_left}
use Rattle.b67_frames.proofs.JumpRow.{jumped, Jumps, after_jump, jump_raw, jump_blocked, JumpsIn}
use Rattle.b67_frames.proofs.OwnCells.{none_later}
use Rattle.b67_scenes.specs.Reaches as reaching
use Rattle.b67_scenes.proofs.JumpCut.{LieStill}
use Rattle.b67_scenes.proofs.JumpEvents.{events_jump, fewer_left}
use Rattle.b67_scenes.proofs.JumpWorld.{leave_processes, leave_output, leave_fault, leave_many, leave_same, same_up, leave_below, leave_events, leave_alike}
use Rattle.b67_scenes.proofs.PassedCriticals.{passed_agree}
use Rattle.b67_pictures.proofs.Alone.{IsAfter, AreAsDependent, dependent_but, after_choice, stands_on, leaves_alone}
use Rattle.b67_pictures.proofs.LeftInstances.{keeps_left}
use Rattle.b67_pictures.proofs.ParentPlaces.{standing_linked}
use Rattle.b67_pictures.proofs.Blocked.{faulting}
use Rattle.b67_pictures.proofs.JumpPlaces as places
use Rattle.b67_pictures.proofs.JumpPlaces.{way_there, comes_there, LeadsJumps}

module _ (tree : PProgram) (code : Code) (texts : Texts) (needs : LeadsJumps tree code texts) (fragments : FragmentsArePerformed) (keeps : RestsKeepToTheirText) (jumps_keep : JumpsKeepToTheirText)
    (actor : AbleActor tree code texts) where
  open needs use {lies, stand, closing}
  open actor use {w, lay, img, p, q, part, outer, core, s, able_is, able_p}

  module _ (n : Named) (asks : ask part.rest ≡ goes_to n)
      (a : ActionAt (scopes_of tree) (context_in tree code texts w part s.stands.frame.gives) (text_in tree texts w part) (level_in tree w part) (most_in tree w part) (goes_to n) s.stands.pc s.stands.slots)
      (own : IsOwn (part ∷ outer) (ancestor w ((use_of (scopes_of tree) n).up) part.instance)) where
    abbrev sc : Scopes
    sc = scopes_of tree

    -- the label's instance, and its block
    abbrev i : ℕ
    i = places.i tree code texts needs (actor_of s) n asks a

    abbrev j : ℕ
    j = (instance_at w i).block

    -- ---- the way down

    abbrev down : Way tree code texts closing w lay p i img.stacks (stack_of core) part outer core.below s.stands.frame
    down = way_there tree code texts needs (actor_of s) n asks a own

    abbrev target : Part
    target = down.target

    abbrev at : ℕ
    at = length down.frame.lower

    abbrev left : List ℕ
    left = own_instances down.above

    low : at + 2 + length down.frame.cells ≡ length down.front
    low = frame_low tree code texts w lay p target down.parts down.front down.frame

    front_low : length down.front ≤ length core.below
    front_low = omega (arith, ap length down.words_are, length-append down.front down.rest)

    frame_there : frame core.registers ≡ length s.stands.frame.lower
    frame_there = frame_is tree code texts (actor_of s)

    nothing_left : LieStill w w lay p (length core.below)
    nothing_left = record { instances = λ k at x there mine laid under. there; same = λ k. record { block = refl; parent = refl; cells = refl }; processes = refl }

    frame_under : length s.stands.frame.lower < length core.below
    frame_under = omega (arith, frame_low tree code texts w lay p part outer core.below s.stands.frame)

    abbrev closed : AreClosed sc lay p (stack_of core) w img left down.passed
    closed = down.closes w (length core.below) nothing_left frame_under img s.by.arrays

    -- ---- its display

    begins_there : Begins_with img.stacks p down.front
    begins_there = begins_front img.stacks p down.front down.rest (subst (Begins_with img.stacks p) down.words_are (begins_core img p core s.has))

    facts : HasFacts w
    facts = facts_of sc w s.ok

    linked_there : Linked sc w lay img.stacks target.instance
    linked_there = standing_linked tree code texts w lay img s.by s.ok target.instance (part_stands tree code texts w lay p facts target down.parts down.front down.frame down.around)

    hung : Hangs tree code texts w lay p img.stacks target down.parts down.front down.frame begins_there linked_there
    hung = hangs tree code texts w lay p img.stacks target down.parts down.front down.frame begins_there linked_there

    abbrev display : List (Option Place)
    display = shown (place p at) hung.more

    abbrev told_level : ℕ
    told_level = a.2.target

    level_there : told_level ≡ level_of (block_numbered sc.blocks j)
    level_there = places.level_there tree code texts needs (actor_of s) n asks a

    names_there : names_in tree w target ≡ level_of (block_numbered sc.blocks j)
    names_there = ap (λ (k : ℕ). level_of (block_numbered sc.blocks ((instance_at w k).block))) down.instance_is

    deep : told_level ≡ length hung.more + 2
    deep = level_there ∙ sym names_there ∙ runs_at target (names_in tree w target) down.owns ∙ hung.level_is

    rebuilt_there : look_seen img.stacks (rebuilt (place p at) told_level) ≡ Ok display
    rebuilt_there =
        rebuilt_seen (place p at) hung.home hung.more told_level
        (subst (λ (l : ℕ). IsEntered img.stacks (place p at) hung.home l) (sym deep) hung.entered) hung.links deep

    top_there : place_at display told_level ≡ Some (place p at)
    top_there = ap (place_at display) deep ∙ shown_top (place p at) hung.more

    -- ---- the row

    abbrev given : List Value
    given = number (pos a.2.target) ∷ number (pos a.2.segment) ∷ number (pos a.2.entry) ∷ []

    given_fit : AreNumbers given
    given_fit = (a.2.level_whole, (a.2.segment_whole, (a.2.entry_whole, tt)))

    enters : operator_at code core.registers ≡ Ok (ops.Plain kinds.Entr, a.0)
    enters = operator_there sc s.stands.held code (text_in tree texts w part) (level_in tree w part) s.stands.pc s.stands.slots core (ops.Plain kinds.Entr) a.0 s.stands.there a.2.stands

    c : IsCall tree code texts (actor_of s) GoTo given a.1 given_fit a.2.lies
    c = call tree code texts (actor_of s) GoTo given a.1 given_fit a.2.lies

    low_level : 2 ≤ told_level
    low_level = omega (arith, deep)

    high_level : told_level ≤ core.registers.ll
    high_level =
        omega (
          arith,
          s.stands.there.level_is,
          runs_at part (names_in tree w part) (places.own_part tree code texts needs (actor_of s) n asks a),
          places.level_told tree code texts needs (actor_of s) n asks a,
        )

    -- the process's own stack has its number
    here : (X : ℕ → Type 0) → X p → X core.registers.stack
    here X x = subst X (sym s.has.own) x

    passes_there : look_seen img.stacks (passing (frame core.registers + 1) p at (record { frame = frame core.registers; cells = core.registers.cells })) ≡ Ok (record { frames = down.passed; cells = length down.frame.cells })
    passes_there =
        ap (λ (f : ℕ). look_seen img.stacks (passing (frame core.registers + 1) p at (record { frame = f; cells = core.registers.cells }))) frame_there
        ∙ ap (λ (k : ℕ). look_seen img.stacks (passing (frame core.registers + 1) p at (record { frame = length s.stands.frame.lower; cells = k }))) s.stands.counted
        ∙ down.passes (frame core.registers + 1) (omega (arith, frame_there))

    abbrev jumps : Jumps img core down.front down.rest at (length down.frame.cells) a.2.target a.2.segment a.2.entry display down.passed
    jumps =
        record {
          below_is = down.words_are;
          long = low;
          low = low_level;
          high = high_level;
          shown = here (λ (k : ℕ). display_at core.registers told_level ≡ Some (place k at))
              (places.shown_there tree code texts needs (actor_of s) n asks a own);
          segment_small = places.segment_small tree code texts needs (actor_of s) n asks a;
          pointer_small = places.pointer_small tree code texts needs (actor_of s) n asks a;
          passes = here
              (λ (k : ℕ). look_seen img.stacks (passing (frame core.registers + 1) k at (record { frame = frame core.registers; cells = core.registers.cells })) ≡ Ok (record { frames = down.passed; cells = length down.frame.cells }))
              passes_there;
          shows = here (λ (k : ℕ). look_seen img.stacks (rebuilt (place k at) told_level) ≡ Ok display) rebuilt_there;
          rows = closed.rows;
          closed = here (λ (k : ℕ). (m : ℕ) (next : Change) → changed m (frames_left k (stack_of core) down.passed next) img ≡ changed m next (image_left img closed.rows k down.passed)) closed.changes;
        }

    -- ---- the world

    abbrev target' : Part
    target' = record target { rest = settle_items sc (items_from (block_numbered sc.blocks j) n.name) }

    abbrev q' : Process
    q' = record q { todo = target' ∷ down.parts }

    abbrev w' : World
    w' = with_process (leave w left) p q'

    same_there : (k : ℕ) → IsSameBut (instance_at w' k) (instance_at w k)
    same_there k = let x : IsSameBut (instance_at (leave w left) k) (instance_at w k) = leave_same left w k in record { block = x.block; parent = x.parent; cells = x.cells }

    at_now : numbered w'.processes p ≡ Some q'
    at_now = ap (λ (qs : List Process). numbered (set_numbered qs p q') p) (leave_processes left w) ∙ numbered_set w.processes p q q' s.at

    -- the block of the label's part
    block_now : j ≡ (instance_at w' target.instance).block
    block_now = ap (λ (k : ℕ). (instance_at w k).block) (sym down.instance_is) ∙ sym (same_there target.instance).block

    -- ---- the core

    abbrev new : Core
    new = jumped core down.front at (length down.frame.cells) a.2.target a.2.segment a.2.entry display

    frame_now : frame new.registers ≡ at
    frame_now = ap at_or top_there

    new_is : IsCore new
    new_is = record { bottom = omega (arith, frame_now, low); top = omega (arith, low) }

    abbrev jump_found : JumpsIn img core c.arguments
    jump_found = record {
      front = down.front;
      rest = down.rest;
      height = at;
      cells = length down.frame.cells;
      level = a.2.target;
      segment = a.2.segment;
      pointer = a.2.entry;
      display = display;
      passed = down.passed;
      jumps = jumps;
      whole = c.wholes;
    }

    abbrev now : Image
    now =
        after_jump code (at_operator s.has enters) c.arguments c.reference c.marked c.others c.calls jump_found

    has_here : HasCore now p new
    has_here =
        let h : HasCore (with_core img p new) p new = has_now img p core new s.has refl new_is in
        record { live = h.live; registers = h.registers; own = h.own; stack = h.stack; is = h.is }

    others : (m : ℕ) (other : Core) → m ≢ p → HasCore img m other → HasCore now m other
    others m other apart has =
        let h : HasCore (with_core img p new) m other = others_have img p core new s.has refl m other apart has in
        record { live = h.live; registers = h.registers; own = h.own; stack = h.stack; is = h.is }

    text : HasText code texts (segment_of sc.blocks j)
    text = stand j

    segment_there : a.2.segment ≡ segment_of sc.blocks j
    segment_there = places.segment_there tree code texts needs (actor_of s) n asks a

    core_at : CoreAt sc [] code (texts.placed (segment_of sc.blocks j)) (level_of (block_numbered sc.blocks j)) a.2.entry [] new
    core_at =
        record {
          segment = text.segment;
          there = ap (slice_get code.segments) segment_there ∙ text.there;
          spells = text.spells;
          level_is = level_there;
          place_is = refl;
          is = new_is;
          mark_is = sym frame_now;
          words_are = tt;
        }

    as_many : length lay.places ≡ length w'.instances
    as_many = s.by.laid ∙ sym (leave_many left w)

    dependent : AreAsDependent w.processes w'.processes
    dependent = subst (λ (qs : List Process). AreAsDependent w.processes (set_numbered qs p q')) (sym (leave_processes left w)) (dependent_but w.processes p q q' s.at refl (λ alive. alive))

    keeps_all : (k : ℕ) → IsStanding w k → IsStanding w' k → KeepsArrays sc w w' lay lay k
    keeps_all k st later = keeps_left sc w w' lay k (same_there k)

    smaller : size new ≤ stack_limit
    smaller = omega (arith, front_low, s.small)

    module _ (after_it : IsAfter (scopes_of tree) w w' p) where
      on : StandOn sc w w' lay lay
      on = stands_on sc w w' lay lay p facts after_it keeps_all (λ k f there. there)

      stay : StayBelow sc w w' lay lay p (length down.front)
      stay = leave_below w lay p (length down.front) sc left down.high q' on

      alike : (m : ℕ) → m ≢ p → AreAlike sc w w' lay lay m
      alike m other =
          leave_alike w lay p (length down.front) sc left down.high q' m other (leaves_alone sc w w' lay lay p facts after_it keeps_all (λ k f there. there) (all_laid w lay facts s.by.laid) dependent m other)

      -- ---- the frame

      still : FrameStill tree code texts w w' lay lay p (length down.front) stay target down.parts down.front down.frame.cells down.frame.gives
      still = frame_still tree code texts w w' lay lay p (length down.front) stay target down.parts down.front down.frame down.around (omega (arith, low))

      abbrev owned : Owned tree code texts w' lay p target down.parts (length still.frame.lower) still.frame.mark still.frame.control still.frame.cells
      owned = owned_frame tree code texts w' lay p target down.parts down.front still.frame down.owns

      -- nothing is still to be made there
      complete : IsComplete sc w' lay target.instance
      complete =
          ap length (same_there target.instance).cells
          ∙ subst (λ (k : ℕ). IsComplete sc w lay k) (sym down.instance_is) (places.complete tree code texts needs (actor_of s) n asks a)
          ∙ ap (λ (k : ℕ). length (simple_cells sc (block_numbered sc.blocks k)) + length (made_of (block_numbered sc.blocks k).decls)) (sym (same_there target.instance).block)

      none_made : owned.framed.later ≡ []
      none_made = none_later sc w' lay target.instance owned.framed.instance (framed_cells sc w' lay owned.framed) complete

      known : j < length sc.blocks
      known = places.known tree code texts needs (actor_of s) n asks a

      gives_there : still.frame.gives ≡ yields_of (block_numbered sc.blocks ((instance_at w' target.instance).block)).result
      gives_there = frame_gives tree code texts w' lay p target down.parts down.front still.frame down.owns

      keeps_there : KeepsToText sc j target'.rest
      keeps_there = keeps.settled sc j (items_from (block_numbered sc.blocks j) n.name) (jumps_keep.text sc j (block_numbered sc.blocks j) n.name (lies.nested.each j known).items)

      abbrev frame_now' : Frame tree code texts w' lay p target' down.parts down.front
      frame_now' =
          record {
            lower = still.frame.lower;
            mark = still.frame.mark;
            control = still.frame.control;
            cells = still.frame.cells;
            words_are = still.frame.words_are;
            instance = still.frame.instance;
            is = still.frame.is;
            known = still.frame.known;
            home = still.frame.home;
            df = still.frame.df;
            mark_is = still.frame.mark_is;
            back = still.frame.back;
            control_is = still.frame.control_is;
            level_is = still.frame.level_is;
            gives = still.frame.gives;
            text = subst (λ (k : ℕ). KeepsToText sc k target'.rest) block_now keeps_there;
            shape = of_own (record {
              owns = down.owns;
              framed = owned.framed;
              routines = owned.routines;
              items = owned.items;
              making = none_made ∙ sym (jumps_keep.none sc j (block_numbered sc.blocks j) n.name (lies.nested.each j known).items);
            })
                (gives_there ∙ ap (λ (x : Instance). yields_of (block_numbered sc.blocks x.block).result) (ap or_no_instance owned.framed.is));
          }

      -- ---- it goes on

      abbrev bound' : ℕ
      bound' = length down.front + most_in tree w target

      chained_now : IsChained sc w' lay target.instance (names_in tree w' target') display
      chained_now =
          subst (λ (k : ℕ). IsChained sc w' lay target.instance (level_of (block_numbered sc.blocks k)) display) (sym (same_there target.instance).block)
          (λ up h. hung.chained up h ∙ ap (λ (k : ℕ). numbered lay.places k) (sym (same_up w left p q' up target.instance)))

      level_now : told_level ≡ level_in tree w' target'
      level_now =
          level_there
          ∙ ap (λ (k : ℕ). level_of (block_numbered sc.blocks k)) block_now
          ∙ runs_at target (names_in tree w' target) down.owns

      top_now : place_at display (level_in tree w' target') ≡ Some (place p (length still.frame.lower))
      top_now =
          ap (place_at display) (sym level_now)
          ∙ top_there
          ∙ ap (λ (k : ℕ). Some (place p k)) (sym (still_low tree code texts w w' lay lay p (length down.front) stay target down.parts down.front down.frame still))

      abbrev ComesAt : Yields → ℕ → Bool → Type 0
      ComesAt y k evaluates =
          ComesTo sc (in_routine y (context_of code texts sc k)) (texts.placed (segment_of sc.blocks k)) (run_level evaluates (level_of (block_numbered sc.blocks k))) (most_around tree k) target'.rest a.2.entry []

      comes_now : ComesAt still.frame.gives ((instance_at w' target.instance).block) (is_evaluation target.purpose)
      comes_now =
          subst (λ (y : Yields). ComesAt y ((instance_at w' target.instance).block) (is_evaluation target.purpose)) (sym gives_there)
          (subst (λ (k : ℕ). ComesAt (yields_of (block_numbered sc.blocks k).result) k (is_evaluation target.purpose)) block_now
          (subst (λ (t : Bool). ComesAt (yields_of (block_numbered sc.blocks j).result) j t) (sym down.owns)
          (comes_there tree code texts needs (actor_of s) n asks a own)))

      light' : bound' + 3 ≤ weight tree w' p
      light' =
          subst (λ (k : ℕ). bound' + 3 ≤ k)
          (sym (same_weight tree w w' (target ∷ down.parts) (λ k own. record { block = (same_there k).block; cells = ap length (same_there k).cells }))
          ∙ sym (weight_of tree w' p q' (target' ∷ down.parts) at_now refl)) down.light

      most_there : most_in tree w target ≡ most_around tree j
      most_there = ap (λ (k : ℕ). most_around tree ((instance_at w k).block)) down.instance_is

      living_now : Living tree code texts w' lay now p q'
      living_now =
          living_of tree code texts w' lay now after_it.climb (all_laid w' lay after_it.climb.facts as_many) fragments p q' target' down.parts bound' new new (record {
            todo = refl;
            has = has_here;
            critical = s.critical;
            task = task_stays sc w w' lay lay (leave_events w lay p (length down.front) left q') (λ k f laid. laid) q.task core.registers.task s.task;
            sees = refl;
            small = smaller;
            begun = 0;
            begins = steps_none sc [] code (texts.placed (segment_of sc.blocks j)) (level_of (block_numbered sc.blocks j)) (most_in tree w target) bound' a.2.entry [] new core_at (omega arith) (omega arith);
            frame = frame_now';
            around = still.around;
            counted = sym (ap length still.cells_are);
            chained = chained_now;
            top = top_now;
            segment_is = segment_there ∙ ap (segment_of sc.blocks) block_now;
            pc = a.2.entry;
            slots = [];
            known = [];
            known_are = tt;
            at = subst (λ (k : ℕ). CoreAt sc [] code (texts.placed (segment_of sc.blocks k)) (run_level (is_evaluation target.purpose) (level_of (block_numbered sc.blocks k))) a.2.entry [] new) block_now
                (subst (λ (t : Bool). CoreAt sc [] code (texts.placed (segment_of sc.blocks j)) (run_level t (level_of (block_numbered sc.blocks j))) a.2.entry [] new) (sym down.owns) core_at);
            held = omega arith;
            comes = comes_now;
            reaches = reaching.all refl;
            room = subst (λ (k : ℕ). length down.front + most_around tree k ≤ bound') block_now (omega (arith, most_there));
            light = light';
          })

      -- ---- the picture

      -- the events of what is left are closed, and no others
      events_now : EventsAre sc w' lay now.events
      events_now =
          subst (λ (k : ℕ). EventsAre sc w' lay (events_left k down.passed img.events)) (sym s.has.own)
          (events_jump tree code texts closing w lay p i img.stacks (stack_of core) part outer core.below s.stands.frame down q'
          (λ k x there stands. subst (λ (ps : List Part). IsOwn ps k ⊎ IsElsewhere lay p k) s.todo (held_of tree code texts w lay img s.by s.ok p q s.at k x there stands)) img.events s.by.events)

      pictured : PicturesBy tree code texts w' lay now
      pictured =
          goes_on tree code texts w lay img s.by p q s.at w' lay now q' (ap (λ (qs : List Process). set_numbered qs p q') (leave_processes left w)) able_is as_many
          (arrays_unchanged sc (leave w left) w' lay closed.rows refl closed.are) events_now refl refl refl refl (λ m there listed. fewer_left core.registers.stack down.passed img.events m there listed) alike
          (s.by.output ∙ sym (leave_output left w)) (leave_fault left w) refl refl (length_set_numbered img.regs p new.registers) refl (system_stays img p core new s.has refl q w s.at)
          (state_stays sc w w' lay lay (leave_events w lay p (length down.front) left q') (λ k f laid. laid) q.state (numbered img.states p) able_p) others living_now

    -- the label's instance stands in the process's own stack
    own_there : ((instance_at w i).process == p) ≡ true
    own_there =
        number_told ((instance_at w i).process) p
        (ap (λ (x : Instance). x.process) (sym (places.instance_there tree code texts needs (actor_of s) n asks a own))
        ∙ (places.owned tree code texts needs (actor_of s) n asks a own).framed.own)

    -- whether a process depends on an instance that is left
    abbrev tested : Bool → Choice
    tested b = if b then fails sc w p q part outer fault.CriticalBlockExit else gone sc w p q part outer left (block_numbered sc.blocks j) n (target ∷ down.parts)

    chosen : choice sc w p ≡ tested (some_depends_on_any w.processes left)
    chosen =
        choice_is sc w p q part outer s.at s.todo
        ∙ ap (λ (k : Ask). choice_of sc w p q part outer k) asks
        ∙ ap (λ (t : Bool). if t then gone_to sc w p q part outer n i (cut_at [] (part ∷ outer) i) else fails sc w p q part outer fault.BadGoTo) own_there
        ∙ ap (λ (k : Cut). gone_to sc w p q part outer n i k) (down.cut_is [])

    -- the machine tests the same of the frames
    critical_there : is_critical core.registers.stack (passed_frames down.passed) (live_criticals img.states img.regs) ≡ some_depends_on_any w.processes left
    critical_there =
        ap (λ (k : ℕ). is_critical k (passed_frames down.passed) (live_criticals img.states img.regs)) s.has.own
        ∙ passed_agree tree code texts w lay img s.by s.ok p q s.at part outer s.todo core.below s.stands.frame s.around (length s.stands.frame.lower) down.above down.passed down.are_passed

    -- one does: nothing is left
    blocked : some_depends_on_any w.processes left ≡ true → Does tree code texts w img p
    blocked depends =
        faulting tree code texts (actor_of s) fault.CriticalBlockExit (chosen ∙ ap tested depends) (ops.Plain kinds.Entr) a.0 enters
        (jump_blocked code (at_operator s.has enters) c.arguments c.reference c.marked c.others c.calls jump_found
        (critical_there ∙ depends))

    -- none does
    jumps_there : some_depends_on_any w.processes left ≡ false → Does tree code texts w img p
    jumps_there free =
        gave now
        (action_not_plain code (ops.Plain kinds.Entr) (at_operator s.has enters) (enter_class code (at_operator s.has enters) GoTo c.arguments c.reference c.marked c.others c.calls))
        table_is
        (action_is code (ops.Plain kinds.Entr) (at_operator s.has enters) (outcomes.gives now) table_is ∙ c.action ∙ ap (λ (k : Choice). Some k.action) (sym chosen_so))
        (λ may. subst (λ (k : Choice). Pictures tree code texts k.world now) (sym chosen_so) (lay, pictured (after_choice sc w w' p q facts may s.at (ap (λ (k : Choice). k.world) chosen_so))))
      where
        chosen_so : choice sc w p ≡ record { action = act.GoTo; world = w'; released = []; started = None }
        chosen_so = chosen ∙ ap tested free

        table_is : table code img p ≡ outcomes.gives now
        table_is =
            gives_within code img now p new.registers
            (jump_raw code (at_operator s.has enters) c.arguments c.reference c.marked c.others c.calls jump_found
            (critical_there ∙ free))
            has_here.registers (omega (arith, low, smaller))

    pub jumping_here : Does tree code texts w img p
    jumping_here = by_case (some_depends_on_any w.processes left) refl
      where
        by_case : (b : Bool) → some_depends_on_any w.processes left ≡ b → Does tree code texts w img p
        by_case true depends = blocked depends
        by_case false free = jumps_there free
