-- The frame of an evaluation is left: no instance is left, no row is closed, and the part around goes on with the value, or with the place.
use Rattle.std.proofs.Common.{◌≡◌, ◌≢◌, inl, inr, refl, sym, ap, ◌∙◌, subst, ℕ, zero, suc, List, [], ◌∷◌, length, Option, Some, None, Bool, true, false, Ok, arith, ◌⊎◌, ◌++◌}
use Rattle.b67_list.proofs.Numbered.{numbered_set}
use Rattle.b67_list.proofs.Truths.{true_false}
use Rattle.b67_pictures.proofs.Prelude.{list_any, if◌then◌else◌, is_some, ◌||◌, ◌==◌, reverse, numbered, EventState, Leave, PProgram, Scopes, scopes_of, Kind, Ask, leaves, ask, Choice, choice, choice_of, left_with, left_or_ended, fails, some_depends, Answer, value, Value, Process, Part, lives, World, with_process, instance_at, ancestor, IsStanding, IsOnPath, IsOwn, newest_own, Word, Place, as_sirw, Descriptor, Sirw, Code, Rows, one_event, same_place, is_from, as_indexed, place, gives, Image, with_rows, arrays_closed, is_critical, frame, Change, live_criticals, is_result, plain, operator_at, Below, letter, Yields, AreNested, Texts, ActionAt, Gives, PlaceIsFound, held_at, operand, descriptor, Core, IsCore, HasCore, Known, length_set_numbered, at_operator, system_stays, Leaves, after, outer_is, left_has, left_others, operand_given, return_raw, return_class, return_action, action_not_plain, Top, top_slot, HaveTexts, value_tag, arrays_unchanged, IsElsewhere, event_outside, HasFacts, facts_of, KeepsArrays, known_is, keeps_same, StayBelow, Layout, ArraysAre, AreKnown, HeldIs, EventsAre, HasEvent, IsInReach, Waits, Lent, all_laid, element_home, operator_there, AreAlike, alike_by, names_variable, Actor, actor_of, InnerActor, choice_is, gives_within, goes_on, text_in, level_in, context_in, most_in, state_stays, events_same, TheLaws, fewer_closed, held_of, Living, Pictures, PicturesBy, StateIs, Does, gave, leaves_here}
use Rattle.b67_num.specs.declared.FaultKind.TheVariants as fault
use Rattle.algol_meaning.specs.Rest as rests
use Rattle.b67_ops.specs.declared.Operator.TheVariants as ops
use Rattle.b67_ops.specs.declared.PlainKind.TheVariants as kinds
use Rattle.b67_scenes.proofs.Dependents.{evaluations_are_free}
use Rattle.b67_pictures.proofs.Blocked.{or_false}
use Rattle.b67_table.specs.Outcome as outcomes
use Rattle.b67_table.specs.Program.{changed}
use Rattle.b67_table.specs.Table.{raw, table}
use Rattle.b67_frames.proofs.Knowing.{known_of}
use Rattle.b67_pictures.proofs.Alone.{IsAfter, dependent_but, after_choice, stands_on, leaves_alone}
use Rattle.b67_pictures.proofs.LeavingWords as leaving
use Rattle.b67_pictures.proofs.LeavingWords.{IsGiven, value_given, place_given, known_given, leaves_so, rows_are, low, shown_home}
use Rattle.b67_pictures.proofs.PartAround as around
use Rattle.b67_pictures.proofs.PartAround.{smaller, living_now, GivesBack}
use Rattle.b67_events.specs.Events.{event_at}
use Rattle.b67_frames.proofs.EventsKept.{events_by}

-- ---- the word of a place

-- a reference that is read alike everywhere may be given back, and so may the descriptor of an element
reference_given : (x : Word) (y : Sirw) → as_sirw x ≡ Some y → is_result x ≡ true
reference_given x y reads = ap (λ (o : Option Sirw). x.tag == 0 || is_some o || is_some (as_indexed x)) reads ∙ either (x.tag == 0)
  where
    either : (b : Bool) → (b || true || is_some (as_indexed x)) ≡ true
    either true = refl
    either false = refl

element_given : (x : Word) (d : Descriptor) → as_indexed x ≡ Some d → is_result x ≡ true
element_given x d reads = ap (λ (o : Option Descriptor). x.tag == 0 || is_some (as_sirw x) || is_some o) reads ∙ either (x.tag == 0) (is_some (as_sirw x))
  where
    either : (b c : Bool) → (b || c || true) ≡ true
    either true c = refl
    either false true = refl
    either false false = refl

module _ (tree : PProgram) (code : Code) (texts : Texts) (nested : AreNested (scopes_of tree)) (actor : Actor tree code texts) where
  open actor use {w, lay, part, outer}

  -- the word of a place that was found may be given back
  pub place_word_given : (x : rests.Place) (kind : Kind) (word : Word) → PlaceIsFound x → HeldIs (scopes_of tree) w lay (IsInReach w (part ∷ outer)) part.instance (held_at x kind) word → is_result word ≡ true
  place_word_given (rests.own n) kind word found h = absurd found
  place_word_given (rests.there r) kind word found h = reference_given word _ (names_variable tree code texts nested actor r kind word h).reads
  place_word_given (rests.element_of r ks) kind word found h = element_given word _ (element_home tree code texts actor r ks kind word h).reads

-- what it stands for does not depend on the part
place_moved : (sc : Scopes) (w : World) (lay : Layout) (Stand : ℕ → Type 0) (i j : ℕ) (x : rests.Place) (kind : Kind) (word : Word) → PlaceIsFound x → HeldIs sc w lay Stand i (held_at x kind) word →
    HeldIs sc w lay Stand j (held_at x kind) word
place_moved sc w lay Stand i j (rests.own n) kind word found h = absurd found
place_moved sc w lay Stand i j (rests.there r) kind word found h = h
place_moved sc w lay Stand i j (rests.element_of r ks) kind word found h = h

-- ---- the frame is left

module _ (tree : PProgram) (code : Code) (texts : Texts) (stand : HaveTexts tree code texts) (laws : TheLaws) (actor : InnerActor tree code texts) where
  open actor use {w, lay, img, p, q, part, next, parts, core, s}

  module _ (able_is : lives q.state ≡ true) (able_p : StateIs (scopes_of tree) w lay q.state (numbered img.states p))
      (lent : Lent lay (IsInReach w (next ∷ parts)) part s.stands.frame.cells s.stands.frame.home s.stands.frame.gives) where
    abbrev sc : Scopes
    sc = scopes_of tree

    abbrev u : Waits tree code texts w lay p next parts s.stands.frame.lower s.stands.frame.mark s.stands.frame.control s.stands.frame.gives
    u = s.around.0

    abbrev f : ℕ
    f = length s.stands.frame.lower

    abbrev b : Below
    b = leaving.b tree code texts actor

    abbrev display : List (Option Place)
    display = leaving.display tree code texts actor

    -- no process depends on the frame of an evaluation
    frame_free : is_critical core.registers.stack (length (s.around.0.below ++ reverse s.around.0.words) ∷ []) (live_criticals img.states img.regs) ≡ false
    frame_free =
        ap (λ (n : ℕ). is_critical n (length (u.below ++ reverse u.words) ∷ []) (live_criticals img.states img.regs)) s.has.own
        ∙ ap (λ (ws : List Word). is_critical p (length ws ∷ []) (live_criticals img.states img.regs)) (sym u.lower_is)
        ∙ or_false (list_any (same_place (place p (length s.stands.frame.lower))) (live_criticals img.states img.regs))
        ∙ evaluations_are_free tree code texts w lay img s.by s.ok p q s.at part (next ∷ parts) s.todo core.below s.stands.frame s.around lent.evaluates

    -- it has no cells, so no rows are closed
    pub none_closed : (m : ℕ) (change : Change) → changed m (arrays_closed s.stands.frame.cells change) img ≡ changed m change (with_rows img img.rows)
    none_closed m change = ap (λ (cells : List Word). changed m (arrays_closed cells change) img) lent.none

    abbrev pub e : Leaves img core u.below u.words s.stands.frame.mark s.stands.frame.control s.stands.frame.cells b display
    e = leaves_so tree code texts actor img.rows none_closed

    module _ (given_back : GivesBack tree code texts actor) where
      open given_back use {answer as r, given}

      abbrev q' : Process
      q' = around.q' tree code texts stand laws actor given_back

      abbrev new : Core
      new = around.new tree code texts stand laws actor given_back

      -- the world but for the parts
      abbrev w' : World
      w' = with_process w p q'

      facts : HasFacts w
      facts = facts_of sc w s.ok

      abbrev IsLater : Type 0
      IsLater = IsAfter sc w w' p

      keeps_all : (j : ℕ) → IsStanding w j → IsStanding w' j → KeepsArrays sc w w' lay lay j
      keeps_all j st later = keeps_same sc w w' lay lay j refl refl

      alike : IsLater → (m : ℕ) → m ≢ p → AreAlike sc w w' lay lay m
      alike after_it m other =
          alike_by sc w w' lay m (leaves_alone sc w w' lay lay p facts after_it keeps_all (λ j x there. there) (all_laid w lay facts s.by.laid) (dependent_but w.processes p q q' s.at refl (λ alive. alive)) m other) refl

      stay : IsLater → StayBelow sc w w' lay lay p f
      stay after_it =
          record {
            on = stands_on sc w w' lay lay p facts after_it keeps_all (λ j x there. there);
            instances = λ j at x there own laid low. there;
            rows = λ j at x there own laid low. refl;
          }

      same_up : (up j : ℕ) → ancestor w' up j ≡ ancestor w up j
      same_up zero j = refl
      same_up (suc up) j = same_up up ((instance_at w j).parent)

      module _ (over : ℕ) where
        is_core : IsCore new
        is_core =
            outer_is code img p core s.has over (leaves_here e) given
            (shown_home tree code texts actor ∙ ap (λ (n : ℕ). Some (place n (length u.frame.lower))) (sym s.has.own))
            (omega (arith, low tree code texts actor, u.cells_are))

        abbrev pub now : Image
        now = after code img p core s.has over (leaves_here e) given

        has_here : HasCore now p new
        has_here = left_has code img p core s.has over (leaves_here e) given is_core

        others : (m : ℕ) (other : Core) → m ≢ p → HasCore img m other → HasCore now m other
        others = left_others code img p core s.has over (leaves_here e) given

        here : IsLater → Living tree code texts w' lay now p q'
        here after_it =
            living_now tree code texts stand laws actor given_back (record {
              world = w';
              climb = after_it.climb;
              as_many = s.by.laid;
              at_now = numbered_set w.processes p q q' s.at;
              stay = stay after_it;
              same_now = λ j. record { block = refl; parent = refl; cells = refl };
              same_up = same_up;
              now = now;
              has_here = has_here;
            })

        -- the frame has no cells, so no event lies there
        events_now : EventsAre sc w' lay now.events
        events_now =
            events_by sc w w' lay lay before img.events now.events
            (λ j number e at h.
            one_event.closed_there core.registers.stack (length (s.around.0.below ++ reverse s.around.0.words)) at img.events
            ∙ ap (λ (t : Bool). if t then None else event_at at img.events) (outside j number e at (before j number e at h)))
            s.by.events
          where
            before : (j number : ℕ) (e : EventState) (at : Place) → HasEvent sc w' lay j number e at → HasEvent sc w lay j number e at
            before j number e at h =
                record {
                  instance = h.instance;
                  is = h.is;
                  stands = h.stands;
                  name = h.name;
                  declares = h.declares;
                  has = h.has;
                  frame = h.frame;
                  laid = h.laid;
                  at_is = h.at_is;
                }

            without : (j : ℕ) → IsOwn (part ∷ next ∷ parts) j → IsOwn (next ∷ parts) j
            without j (inl own) = true_false lent.evaluates own.0
            without j (inr own) = own

            in_outer : (j : ℕ) → IsOwn (part ∷ next ∷ parts) j ⊎ IsElsewhere lay p j → IsOwn (next ∷ parts) j ⊎ IsElsewhere lay p j
            in_outer j (inl own) = inl (without j own)
            in_outer j (inr elsewhere) = inr elsewhere

            outside : (j number : ℕ) (e : EventState) (at : Place) → HasEvent sc w lay j number e at → is_from core.registers.stack (length (s.around.0.below ++ reverse s.around.0.words)) at ≡ false
            outside j number e at h =
                ap (λ (n : ℕ). is_from n (length (s.around.0.below ++ reverse s.around.0.words)) at) s.has.own
                ∙ ap (λ (ws : List Word). is_from p (length ws) at) (sym s.around.0.lower_is)
                ∙ event_outside tree code texts w lay p (next ∷ parts) s.stands.frame.lower s.stands.frame.mark s.stands.frame.control s.stands.frame.gives s.around j
                (in_outer j (subst (λ (ps : List Part). IsOwn ps j ⊎ IsElsewhere lay p j) s.todo (held_of tree code texts w lay img s.by s.ok p q s.at j h.instance h.is h.stands))) number e at h

        pictured : IsLater → PicturesBy tree code texts w' lay now
        pictured after_it =
            goes_on tree code texts w lay img s.by p q s.at w' lay now q' refl able_is s.by.laid
            (subst (λ (rows : Rows). ArraysAre sc w' lay rows) (sym (rows_are tree code texts actor img.rows none_closed)) (arrays_unchanged sc w w' lay img.rows refl s.by.arrays))
            events_now refl refl refl refl (λ m there listed. fewer_closed core.registers.stack (length (s.around.0.below ++ reverse s.around.0.words)) img.events m there listed) (alike after_it) s.by.output refl refl refl (length_set_numbered img.regs p new.registers) refl (system_stays img p core new s.has refl q w s.at)
            (state_stays sc w w' lay lay (λ j. events_same w w' j refl) (λ j f laid. laid) q.state (numbered img.states p) able_p) others (here after_it)

        chosen : ask part.rest ≡ leaves r → choice sc w p ≡ record { action = Leave; world = w'; released = []; started = None }
        chosen asks =
            choice_is sc w p q part (next ∷ parts) s.at s.todo
            ∙ ap (λ (k : Ask). choice_of sc w p q part (next ∷ parts) k) asks
            ∙ ap
            (λ (t : Bool). if t then left_with sc w p q part (next ∷ parts) w r (next ∷ parts) else if some_depends w.processes part.instance then fails sc w p q part (next ∷ parts) fault.CriticalBlockExit
            else left_or_ended sc w p q part (next ∷ parts) r (next ∷ parts)) lent.evaluates

        -- an operator that leaves the frame with that does it
        leaving_evaluation : ask part.rest ≡ leaves r → raw code img p ≡ gives now → plain code img p ≡ false → (table code img p ≡ outcomes.gives now → letter code img p ≡ Some Leave) → Does tree code texts w img p
        leaving_evaluation asks raw_is not_plain acts =
            gave now not_plain table_is (acts table_is ∙ ap (λ (c : Choice). Some c.action) (sym (chosen asks)))
            (λ may. subst (λ (c : Choice). Pictures tree code texts c.world now) (sym (chosen asks)) (lay, pictured (after_choice sc w w' p q facts may s.at (ap (λ (c : Choice). c.world) (chosen asks)))))
          where
            table_is : table code img p ≡ outcomes.gives now
            table_is =
                gives_within code img now p new.registers raw_is has_here.registers
                (omega (arith, has_here.is.top, smaller tree code texts stand laws actor given_back))

    -- ---- by RETN

    module _ (r : Answer) (asks : ask part.rest ≡ leaves r) (over : ℕ) (returns : operator_at code core.registers ≡ Ok (ops.Plain kinds.Retn, over)) (x : Word) (rest : List Word) (on_top : core.words ≡ x ∷ rest) (result : is_result x ≡ true)
        (g : IsGiven s.stands.frame.gives r (Some x)) (gives_it : Gives s.stands.frame.gives r)
        (known_there : AreKnown (scopes_of tree) w lay (IsInReach w (next ∷ parts)) next.instance (known_given s.stands.frame.gives r (Some x))) where
      returned : Does tree code texts w img p
      returned =
          leaving_evaluation (record { answer = r; given = Some x; is_given = g; gives_it = gives_it; known_there = known_there }) over asks
          (return_raw code (at_operator s.has returns) (leaves_here e) x rest on_top result
          frame_free)
          (action_not_plain code (ops.Plain kinds.Retn) (at_operator s.has returns)
          (return_class code (at_operator s.has returns) (leaves_here e) x rest on_top result))
          (return_action code (at_operator s.has returns) (leaves_here e) x rest on_top result)

    -- with a value
    module _ (v : Value) (asks : ask part.rest ≡ leaves (value v))
        (a : ActionAt (scopes_of tree) (context_in tree code texts w part s.stands.frame.gives) (text_in tree texts w part) (level_in tree w part) (most_in tree w part) (leaves (value v)) s.stands.pc s.stands.slots) where
      value_on_top : Top sc s.stands.held (level_in tree w part) (frame core.registers) (length core.below) (operand v) [] core.words
      value_on_top = top_slot sc s.stands.held (level_in tree w part) (frame core.registers) (length core.below) s.stands.slots (operand v) [] core.words s.stands.there.words_are a.5

      pub left_value : Does tree code texts w img p
      left_value =
          returned (value v) asks a.1
          (operator_there sc s.stands.held code (text_in tree texts w part) (level_in tree w part) s.stands.pc s.stands.slots core (ops.Plain kinds.Retn) a.1 s.stands.there a.4)
          value_on_top.word value_on_top.words_below value_on_top.is (operand_given value_on_top.word (value_tag v value_on_top.word value_on_top.slot_is))
          (subst (λ (y : Yields). IsGiven y (value v) (Some value_on_top.word)) (sym a.2) (value_given a.0 v value_on_top.word value_on_top.slot_is))
          (subst (λ (y : Yields). Gives y (value v)) (sym a.2) a.3)
          (subst (λ (y : Yields). AreKnown sc w lay (IsInReach w (next ∷ parts)) next.instance (known_given y (value v) (Some value_on_top.word))) (sym a.2) tt)

    -- with a place
    module _ (nested : AreNested (scopes_of tree)) (x : rests.Place) (asks : ask part.rest ≡ leaves (rests.place x))
        (a : ActionAt (scopes_of tree) (context_in tree code texts w part s.stands.frame.gives) (text_in tree texts w part) (level_in tree w part) (most_in tree w part) (leaves (rests.place x)) s.stands.pc s.stands.slots) where
      place_on_top : Top sc s.stands.held (level_in tree w part) (frame core.registers) (length core.below) (descriptor (held_at x a.0)) [] core.words
      place_on_top = top_slot sc s.stands.held (level_in tree w part) (frame core.registers) (length core.below) s.stands.slots (descriptor (held_at x a.0)) [] core.words s.stands.there.words_are a.5

      here_is : HeldIs sc w lay (IsInReach w (part ∷ next ∷ parts)) part.instance (held_at x a.0) place_on_top.word
      here_is = known_is sc w lay (IsInReach w (part ∷ next ∷ parts)) part.instance s.stands.held s.stands.held_are (held_at x a.0) place_on_top.word place_on_top.slot_is

      -- what stands for something, stands for what is in reach of a part around
      around_reached : (j : ℕ) → IsInReach w (part ∷ next ∷ parts) j → IsInReach w (next ∷ parts) j
      around_reached j path = subst (λ (b : Bool). IsOnPath w (if b then newest_own (next ∷ parts) else part.instance) j) lent.evaluates path

      abbrev one : Known
      one = record { held = held_at x a.0; word = place_on_top.word }

      around_is : HeldIs sc w lay (IsInReach w (next ∷ parts)) part.instance (held_at x a.0) place_on_top.word
      around_is = (known_of sc w w lay (IsInReach w (part ∷ next ∷ parts)) (IsInReach w (next ∷ parts)) refl around_reached part.instance (one ∷ []) (here_is, tt)).0

      pub left_place : Does tree code texts w img p
      left_place =
          returned (rests.place x) asks a.1
          (operator_there sc s.stands.held code (text_in tree texts w part) (level_in tree w part) s.stands.pc s.stands.slots core (ops.Plain kinds.Retn) a.1 s.stands.there a.4)
          place_on_top.word place_on_top.words_below place_on_top.is
          (place_word_given tree code texts nested (actor_of s) x a.0 place_on_top.word a.3 here_is)
          (subst (λ (y : Yields). IsGiven y (rests.place x) (Some place_on_top.word)) (sym a.2) (place_given a.0 x place_on_top.word a.3))
          (subst (λ (y : Yields). Gives y (rests.place x)) (sym a.2) a.3)
          (subst (λ (y : Yields). AreKnown sc w lay (IsInReach w (next ∷ parts)) next.instance (known_given y (rests.place x) (Some place_on_top.word))) (sym a.2)
          (place_moved sc w lay (IsInReach w (next ∷ parts)) part.instance next.instance x a.0 place_on_top.word a.3 around_is, tt))
