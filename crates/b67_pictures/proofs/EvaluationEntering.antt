-- An evaluation is entered: a part that evaluates an actual has a frame without cells above the words of the part around, which waits. No instance is made.
use Rattle.std.proofs.Common.{◌≡◌, ◌⊎◌, inl, inr, refl, sym, ap, ◌∙◌, subst, ℕ, zero, suc, ◌+◌, ◌-◌, ◌*◌, ◌≤◌, ◌<◌, List, [], ◌∷◌, length, Some, Bool, true, false, arith, None}
use Rattle.b67_list.proofs.Numbered.{numbered_set}
use Rattle.b67_pictures.proofs.Prelude.{if◌then◌else◌, slice_get, numbered, Enter, block_numbered, level_of, PProgram, Scopes, scopes_of, nothing, ask, resume, Choice, choice, is_evaluation, Rest, Answer, Instance, Process, Part, Purpose, World, instance_at, or_no_instance, ancestor, with_process, all_to_make, all_left_to_make, KeepsToText, segment_of, newest_own, Word, Place, place_at, Placed, Code, stack_limit, place, entered_mark, control_word, frame, plain, letter, has_place, in_routine, Yields, depth, LiesNested, Texts, context_of, Gives, pushed, selected, ComesTo, Slot, slots_length, Core, size, IsCore, HasCore, with_core, newest, SlotsAre, CoreAt, length_set_numbered, IsShortSegment, tokens_around, part_weight, weight, parts_weight, has_now, others_have, system_stays, shown, lower_of, most_or_more, HaveTexts, arrays_unchanged, events_unchanged, HasFacts, facts_of, keeps_same, Linked, StayBelow, top_still, StandOn, frame_resumed, AreKnown, IsInReach, most_around, run_level, IsChained, Frame, Waits, Around, of_lent, Lent, AreLaid, all_laid, Found, found_laid, alike_by, steps_none, living_of, AbleActor, actor_of, gives_within, limit_beyond, goes_on, weight_of, text_in, level_in, context_in, most_in, FrameStill, frame_still, still_low, parts_weigh, known_stays, task_stays, state_stays, events_same, TheLaws, Living, Pictures, PicturesBy, Does, gave, stopped}
use Rattle.algol_tree.specs.Plain as forms
use Rattle.algol_tree.specs.Plain.{PExpr}
use Rattle.algol_meaning.specs.Rest.{entered}
use Rattle.b67_control.specs.declared.Rcw.{Rcw}
use Rattle.b67_control.specs.Control.{as_mscw, as_rcw}
use Rattle.b67_table.specs.Effect as effects
use Rattle.b67_table.specs.Outcome as outcomes
use Rattle.b67_table.specs.Table.{table, raw}
use Rattle.b67_rows.proofs.Displays.{shown_below}
use Rattle.b67_frames.specs.Lent.{IsAsked, IsOfExpression}
use Rattle.b67_frames.proofs.Onward.{StandsStill, path_still}
use Rattle.b67_scenes.specs.Reaches as reaching
use Rattle.b67_scenes.proofs.ActualEntries as entries
use Rattle.b67_scenes.proofs.Ancestors.{same_place}
use Rattle.b67_pictures.proofs.Alone.{IsAfter, after_choice, dependent_but, stands_on, leaves_alone}
use Rattle.b67_pictures.proofs.FrameEntering.{around_of}
use Rattle.b67_scenes.proofs.ActualEntries.{ActualEntry}

-- a selector is one word, or none
one_selector : (b selector : Bool) → length (selected b selector) ≤ 1
one_selector true selector = omega arith
one_selector false selector = omega arith

-- the code of the actual has room for it
pub selected_few : (e : PExpr) (selector : Bool) → length (selected (has_place e) selector) ≤ depth e
selected_few (forms.number z spot) selector = omega arith
selected_few (forms.truth b spot) selector = omega arith
selected_few (forms.variable (forms.subscripted n forms.none)) selector = omega arith
selected_few (forms.variable (forms.subscripted n (forms.more e es))) selector = omega arith
selected_few (forms.call c) selector = omega arith
selected_few (forms.tested test e spot) selector = omega arith
selected_few (forms.paren e spot) selector = omega arith
selected_few (forms.plus e spot) selector = omega arith
selected_few (forms.neg e spot) selector = omega arith
selected_few (forms.not e spot) selector = omega arith
selected_few (forms.two op x y) selector = omega arith
selected_few (forms.if c x y spot) selector = omega arith

-- the part that evaluates an actual, and the world in which that is to be done
abbrev pub evaluation_of : ℕ → Purpose → Rest → Part
evaluation_of i purpose rest = record { instance = i; purpose = purpose; rest = rest }

abbrev pub evaluating_world : Scopes → World → ℕ → Process → Part → List Part → Part → World
evaluating_world sc w p q part outer inner = with_process w p (record q { todo = inner ∷ around_of sc part ∷ outer })

module _ (tree : PProgram) (code : Code) (texts : Texts) (w : World) where
  -- From the start of the actual's code, with this selector, the machine comes to where it stands for what the evaluation has to do, which
  -- gives what is asked for by this purpose.
  pub record Evaluation (i : ℕ) (e : PExpr) (at : ℕ) (purpose : Purpose) (gives : Yields) (selector : Bool) (rest : Rest) : Type 0 where
    pub evaluates : is_evaluation purpose ≡ true
    pub asked : IsAsked purpose gives
    pub text : KeepsToText (scopes_of tree) ((instance_at w i).block) rest
    pub expression : IsOfExpression rest
    pub room : depth e ≤ most_around tree ((instance_at w i).block)
    pub comes : ComesTo (scopes_of tree) (in_routine gives (context_of code texts (scopes_of tree) ((instance_at w i).block))) (texts.placed (segment_of (scopes_of tree).blocks ((instance_at w i).block)))
        (level_of (block_numbered (scopes_of tree).blocks ((instance_at w i).block)) + 1) (most_around tree ((instance_at w i).block)) rest at (selected (has_place e) selector)

module _ (tree : PProgram) (code : Code) (texts : Texts) (nested : LiesNested tree) (short : IsShortSegment tree code) (stand : HaveTexts tree code texts) (laws : TheLaws) (actor : AbleActor tree code texts) where
  open laws use {fragments, keeps, order}
  open actor use {w, lay, img, p, q, part, outer, core, s, able_is, able_p}

  abbrev sc : Scopes
  sc = scopes_of tree

  -- after the entry the part around goes on, once this was given, and has room for it
  pub record Awaits (next : ℕ) (waiting : List Slot) (gives : Yields) : Type 0 where
    pub unmade : all_left_to_make part.rest ≡ all_to_make part.rest
    pub waits : ask (resume sc part.rest entered) ≡ nothing
    pub returns : (a : Answer) → Gives gives a →
        ComesTo sc (context_in tree code texts w part s.stands.frame.gives) (text_in tree texts w part) (level_in tree w part) (most_in tree w part) (resume sc (resume sc part.rest entered) a) next (pushed gives a waiting)
    pub few : length waiting + 1 ≤ most_in tree w part

  -- The actual that is entered, what it has to do, and where the part around goes on after it.
  pub record EntersActual : Type 0 where
    pub entry : ActualEntry tree code texts nested short stand (actor_of s)
    pub purpose : Purpose
    pub gives : Yields
    pub selector : Bool
    pub rest : Rest
    pub evaluation : Evaluation tree code texts w entry.instance entry.actual entry.home.at purpose gives selector rest
    pub behind : Awaits entry.next entry.waiting gives

  module _ (enters : EntersActual) where
    open enters use {entry, purpose, gives, selector, rest, evaluation, behind}
    open entry use {next, more, waiting, takes as t, instance as i, actual as e, denotes as is, home as h}

    -- the block in whose text the actual stands, the level of its names, and that at which its code runs
    abbrev block : ℕ
    block = (instance_at w i).block

    abbrev names : ℕ
    names = level_of (block_numbered sc.blocks block)

    abbrev inner_level : ℕ
    inner_level = names + 1

    abbrev ps : List Placed
    ps = texts.placed (segment_of sc.blocks block)

    -- ---- the world

    abbrev inner : Part
    inner = evaluation_of i purpose rest

    abbrev part' : Part
    part' = around_of sc part

    abbrev q' : Process
    q' = record q { todo = inner ∷ part' ∷ outer }

    abbrev w' : World
    w' = evaluating_world sc w p q part outer inner

    own_low : length s.stands.frame.lower + 2 + length s.stands.frame.cells ≡ length core.below
    own_low = entries.own_low tree code texts nested short stand (actor_of s) entry

    -- where the instance's frame lies
    abbrev found_there : Found tree code texts w lay img i
    found_there = h.seen_there.found

    facts : HasFacts w
    facts = facts_of sc w s.ok

    -- ---- the core in the frame

    abbrev at : ℕ
    at = length (lower_of core more)

    abbrev df : ℕ
    df = at - core.registers.f

    abbrev home : Place
    home = place h.seen_there.found.number (length h.seen_there.found.lies.frame.lower)

    abbrev l : Linked sc w lay img.stacks i
    l = entries.l tree code texts nested short stand (actor_of s) entry

    abbrev frames : List Place
    frames = home ∷ l.more

    abbrev lower : List Word
    lower = lower_of core more

    abbrev mark : Word
    mark = entered_mark home df

    abbrev control : Word
    control = control_word core.registers next inner_level

    abbrev pub new : Core
    new = entries.new tree code texts nested short stand (actor_of s) entry selector

    new_core : IsCore new
    new_core = entries.new_core tree code texts nested short stand (actor_of s) entry selector

    core_at : CoreAt sc [] code ps inner_level h.at (selected (has_place e) selector) new
    core_at = entries.core_at tree code texts nested short stand (actor_of s) entry selector

    new_long : length new.below ≡ at + 2
    new_long = entries.new_long tree code texts nested short stand (actor_of s) entry selector

    at_is : at ≡ length core.below + length waiting
    at_is =
        omega (
          arith,
          entries.at_is tree code texts nested short stand (actor_of s) entry,
          entries.as_many tree code texts nested short stand (actor_of s) entry,
        )

    level_is : inner_level ≡ length frames + 2
    level_is = entries.level_is tree code texts nested short stand (actor_of s) entry

    abbrev bound' : ℕ
    bound' = at + 2 + most_around tree block

    room_there : length new.below + most_around tree block ≤ bound'
    room_there = omega (arith, new_long)

    few_there : length (selected (has_place e) selector) ≤ most_around tree block
    few_there = omega (arith, selected_few e selector, evaluation.room)

    -- how many words its stack has
    pub top_is : new.registers.s ≡ at + 2 + length (selected (has_place e) selector)
    top_is =
        omega (
          arith,
          new_core.top,
          new_long,
          slots_length sc [] inner_level (frame new.registers) (length new.below) (selected (has_place e) selector) new.words core_at.words_are,
        )

    has_here : HasCore (with_core img p new) p new
    has_here = has_now img p core new s.has refl new_core

    -- ---- the world after it

    module _ (after_it : IsAfter sc w w' p) where
      abbrev limit : ℕ
      limit = length core.below

      own_below : length s.stands.frame.lower < limit
      own_below = omega (arith, own_low)

      on : StandOn sc w w' lay lay
      on = stands_on sc w w' lay lay p facts after_it (λ j st later. keeps_same sc w w' lay lay j refl refl) (λ j g there. there)

      stay : StayBelow sc w w' lay lay p limit
      stay = record { on = on; instances = λ k f x there own laid low. there; rows = λ k f x there own laid low. refl }

      all_low : length core.below ≤ limit
      all_low = omega arith

      laid_all : AreLaid w lay
      laid_all = all_laid w lay facts s.by.laid

      still : FrameStill tree code texts w w' lay lay p limit stay part outer core.below s.stands.frame.cells s.stands.frame.gives
      still = frame_still tree code texts w w' lay lay p limit stay part outer core.below s.stands.frame s.around own_below

      same_lower : length s.stands.frame.lower ≡ length still.frame.lower
      same_lower = sym (still_low tree code texts w w' lay lay p limit stay part outer core.below s.stands.frame still)

      -- what is in reach stands before and after, and stays in reach
      top_there : StandsStill sc w w' lay lay (newest_own (part ∷ outer))
      top_there = top_still tree code texts w w' lay lay p limit stay part outer core.below s.stands.frame s.around own_below

      still_there : StandsStill sc w w' lay lay i
      still_there = path_still sc w w' lay lay on (newest_own (part ∷ outer)) i top_there is.own

      still_reached : IsInReach w' (part' ∷ outer) i
      still_reached = after_it.paths (newest_own (part ∷ outer)) i top_there.0 top_there.1 is.own

      -- ---- weights

      weight_before : weight tree w p ≡ parts_weight tree w' (part' ∷ outer)
      weight_before = weight_of tree w p q (part ∷ outer) s.at s.todo ∙ sym (parts_weigh tree code texts w w' lay lay p limit stay laid_all part outer core s.stands s.around all_low)

      inner_weight : part_weight tree w' inner ≡ 8 + 4 * tokens_around tree block
      inner_weight = ap (λ (b : Bool). 8 + (if b then 0 else length ((instance_at w i).cells)) + 4 * tokens_around tree block) evaluation.evaluates ∙ omega arith

      light' : bound' + 3 ≤ weight tree w' p
      light' =
          omega (
            arith,
            weight_of tree w' p q' (inner ∷ part' ∷ outer) (numbered_set w.processes p q q' s.at) refl,
            inner_weight,
            weight_before,
            s.light,
            s.room,
            behind.few,
            at_is,
          )

      -- ---- its display

      -- the frames down the links are those of the instance and of its static parents
      each_frame : (up : ℕ) → up < length frames → slice_get frames up ≡ numbered lay.places (ancestor w up i)
      each_frame zero low = sym (found_laid tree code texts w lay img i found_there)
      each_frame (suc up) low = l.each up (omega (arith, low))

      chained_now : IsChained sc w' lay i names (shown (place p at) frames)
      chained_now up low =
          shown_below (place p at) frames up (names - up) (omega (arith, level_is, low)) (omega (arith, low))
          ∙ each_frame up (omega (arith, level_is, low))
          ∙ sym (same_place sc w w' lay lay on laid_all i still_there up)

      -- ---- its frame, where the stack is no longer than a stack may be

      module _ (small : size new ≤ stack_limit) where
        low_at : at < stack_limit
        low_at = omega (arith, small, new_long)

        there : numbered w.instances i ≡ Some (instance_at w i)
        there =
            let here : numbered w.instances i ≡ Some found_there.lies.owned.framed.instance = ap (numbered w.instances) (sym found_there.lies.instance_is) ∙ found_there.lies.owned.framed.is in
            here ∙ ap (λ (x : Instance). Some x) (sym (ap or_no_instance here))

        known_block : block < length sc.blocks
        known_block =
            let here : numbered w.instances i ≡ Some found_there.lies.owned.framed.instance = ap (numbered w.instances) (sym found_there.lies.instance_is) ∙ found_there.lies.owned.framed.is in
            subst (λ (x : Instance). x.block < length sc.blocks) (sym (ap or_no_instance here)) found_there.lies.owned.framed.known

        mark_reads : as_mscw mark ≡ Some (record { entered = true; stack = found_there.number; displacement = length found_there.lies.frame.lower; df = df })
        mark_reads = entries.mark_reads tree code texts nested short stand (actor_of s) entry low_at

        abbrev back : Rcw
        back = entries.back tree code texts nested short stand (actor_of s) entry

        control_reads : as_rcw control ≡ Some back
        control_reads = entries.control_reads tree code texts nested short stand (actor_of s) entry

        lent : Lent lay (IsInReach w' (part' ∷ outer)) inner [] home gives
        lent =
            record {
              evaluates = evaluation.evaluates;
              asked = evaluation.asked;
              expression = evaluation.expression;
              stands = still_reached;
              none = refl;
              linked = found_laid tree code texts w lay img i found_there;
            }

        abbrev frame_in : Frame tree code texts w' lay p inner (part' ∷ outer) new.below
        frame_in =
            record {
              lower = lower;
              mark = mark;
              control = control;
              cells = [];
              words_are = refl;
              instance = instance_at w i;
              is = there;
              known = known_block;
              home = home;
              df = df;
              mark_is = mark_reads;
              back = back;
              control_is = control_reads;
              level_is = sym (ap (λ (b : Bool). run_level b names) evaluation.evaluates);
              text = evaluation.text;
              gives = gives;
              shape = of_lent lent;
            }

        abbrev frame_around : Frame tree code texts w' lay p part' outer core.below
        frame_around = frame_resumed tree code texts w' lay p keeps order part outer core.below core.below still.frame refl behind.unmade entered tt

        -- ---- what waits

        returns_now : (a : Answer) → Gives gives a →
            ComesTo sc (context_in tree code texts w' part' still.frame.gives) (text_in tree texts w' part') (level_in tree w' part') (most_in tree w' part') (resume sc part'.rest a) next (pushed gives a waiting)
        returns_now =
            subst (λ (y : Yields). (a : Answer) → Gives gives a →
            ComesTo sc (context_in tree code texts w part y) (text_in tree texts w part) (level_in tree w part) (most_in tree w part) (resume sc part'.rest a) next (pushed gives a waiting)) (sym still.gives_are) behind.returns

        words_now : SlotsAre sc s.stands.held (level_in tree w' part') (length still.frame.lower) (length core.below) waiting more
        words_now =
            subst (λ (k : ℕ). SlotsAre sc s.stands.held (level_in tree w part) k (length core.below) waiting more)
            (entries.own_is tree code texts nested short stand (actor_of s) entry ∙ same_lower) t.are

        known_now : AreKnown sc w' lay (IsInReach w' (part' ∷ outer)) part.instance s.stands.held
        known_now = known_stays tree code texts w w' lay lay p limit stay laid_all part outer core s.stands s.around all_low s.stands.held s.stands.held_are

        abbrev waits_now : Waits tree code texts w' lay p part' outer lower mark control gives
        waits_now =
            record {
              below = core.below;
              words = more;
              lower_is = refl;
              frame = frame_around;
              waits = behind.waits;
              pc = next;
              slots = waiting;
              returns = returns_now;
              few = behind.few;
              held = s.stands.held;
              held_are = known_now;
              words_are = words_now;
              home = home;
              df = df;
              mark_is = mark_reads;
              far = ap (λ (k : ℕ). df + newest k (length core.below) waiting) (sym same_lower) ∙ entries.far tree code texts nested short stand (actor_of s) entry;
              back = back;
              control_is = control_reads;
              segment_is = s.stands.segment_is;
              place_is = omega arith;
              level_is = s.stands.there.level_is;
              cells_are = s.stands.counted ∙ sym (ap length still.cells_are);
              light = omega (arith, s.room, s.light, weight_before);
            }

        around_inner : Around tree code texts w' lay p (part' ∷ outer) lower mark control gives
        around_inner = (waits_now, still.around)

        -- ---- the evaluation goes on

        living_now : Living tree code texts w' lay (with_core img p new) p q'
        living_now =
            living_of tree code texts w' lay (with_core img p new) after_it.climb (all_laid w' lay after_it.climb.facts s.by.laid) fragments p q' inner (part' ∷ outer) bound' new new (record {
              todo = refl;
              has = has_here;
              critical = s.critical;
              task = task_stays sc w w' lay lay (λ j. events_same w w' j refl) (λ j f laid. laid) q.task core.registers.task s.task;
              sees = refl;
              small = small;
              begun = 0;
              begins = steps_none sc [] code ps inner_level (most_around tree block) bound' h.at (selected (has_place e) selector) new core_at few_there room_there;
              frame = frame_in;
              around = around_inner;
              counted = refl;
              chained = chained_now;
              top = ap (λ (x : Bool). place_at (shown (place p at) frames) (run_level x names)) evaluation.evaluates
                  ∙ entries.shown_here tree code texts nested short stand (actor_of s) entry;
              segment_is = refl;
              pc = h.at;
              slots = selected (has_place e) selector;
              known = [];
              known_are = tt;
              at = subst (λ (x : Bool). CoreAt sc [] code ps (run_level x names) h.at (selected (has_place e) selector) new) (sym evaluation.evaluates) core_at;
              held = few_there;
              comes = subst (λ (x : Bool). ComesTo sc (in_routine gives (context_of code texts sc block)) ps (run_level x names) (most_around tree block) rest h.at (selected (has_place e) selector)) (sym evaluation.evaluates)
                  evaluation.comes;
              reaches = reaching.all refl;
              room = room_there;
              light = light';
            })

        pub pictured : PicturesBy tree code texts w' lay (with_core img p new)
        pictured =
            goes_on tree code texts w lay img s.by p q s.at w' lay (with_core img p new) q' refl able_is s.by.laid (arrays_unchanged sc w w' lay img.rows refl s.by.arrays)
            (events_unchanged sc w w' lay img.events refl s.by.events) refl refl refl refl (λ m there listed. listed) (λ r other. alike_by sc w w' lay r (leaves_alone sc w w' lay lay p facts after_it (λ j st later. keeps_same sc w w' lay lay j refl refl) (λ j g there. there) laid_all (dependent_but w.processes p q q' s.at refl (λ e. e)) r other) refl) s.by.output refl refl refl (length_set_numbered img.regs p new.registers) refl (system_stays img p core new s.has refl q w s.at)
            (state_stays sc w w' lay lay (λ j. events_same w w' j refl) (λ j f laid. laid) q.state (numbered img.states p) able_p) (others_have img p core new s.has refl) living_now

    -- where the operator enters the code of the actual, and the choice is the entry, the operator does it
    pub entering_evaluation : plain code img p ≡ false → raw code img p ≡ effects.gives (with_core img p new) → choice sc w p ≡ record { action = Enter; world = w'; released = []; started = None } →
        (table code img p ≡ outcomes.gives (with_core img p new) → letter code img p ≡ Some Enter) → Does tree code texts w img p
    entering_evaluation not_plain raw_is chosen acts = by_size (most_or_more new.registers.s stack_limit)
      where
        by_size : (new.registers.s ≤ stack_limit) ⊎ (stack_limit < new.registers.s) → Does tree code texts w img p
        by_size (inl small) =
            let table_is : table code img p ≡ outcomes.gives (with_core img p new) = gives_within code img (with_core img p new) p new.registers raw_is has_here.registers small in
            gave (with_core img p new) not_plain table_is (acts table_is ∙ ap (λ (x : Choice). Some x.action) (sym chosen))
            (λ may. subst (λ (x : Choice). Pictures tree code texts x.world (with_core img p new)) (sym chosen) (lay, pictured (after_choice sc w w' p q facts may s.at (ap (λ (x : Choice). x.world) chosen)) (omega (arith, small, new_core.top))))
        by_size (inr long) =
            stopped not_plain (limit_beyond code img (with_core img p new) p new.registers raw_is has_here.registers long) (omega (arith, long, top_is, one_selector (has_place e) selector, at_is, behind.few, s.room, s.light))
