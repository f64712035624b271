-- What is done with one event: how it changes, who waits then, who is released, and what is told. One lemma for all deeds, by their table.
use Rattle.std.proofs.Common.{◌≡◌, ◌≢◌, ◌⊎◌, inl, inr, refl, sym, ap, ◌∙◌, subst, ℕ, ◌≤◌, List, [], ◌∷◌, length, Option, Some, None, Bool, true, false, Ok, arith}
use Rattle.b67_list.proofs.Numbered.{numbered_set}
use Rattle.b67_list.proofs.Truths.{true_false}
use Rattle.b67_pictures.proofs.Prelude.{option_map, if◌then◌else◌, numbered, set_numbered, EventDeed, Deed, deed, after_change, EventState, IsListed, Letter, PProgram, Scopes, scopes_of, Named, Ask, ask, resume, Choice, choice, choice_of, goes, wakes_or_waits, event_at, set_event, list_in, all_withdrawn, Answer, done, value, Reference, event, truth, Process, Part, State, waits_for, procures, is_able, lives, World, event_in, cell_at, cells_with, followed, process_at, with_process, set_all_able, instance_at, BlockIsSeen, InAnswer, IsStanding, WaitersAreListed, IsOwn, Word, Place, Registers, Intrinsic, Placed, Code, stack_limit, same_place_true, same_place_self, is_open, event_changed, with_state, Event, list_of, Image, woken_number, Outcome, cell_place, plain, operator_at, AwaitsAt, able_again, told_positions, ProcessState, WaitsFor, Procures, letter, registers_releases, released_by, releases, AreNested, Texts, ActsAt, ComesTo, ActsOnAt, Slot, operand, Core, size, with_core, CoreAt, length_set_numbered, some_same, IsAsked, at_operator, registers_now, without_call, enter_class, numbered_other, same_or_not, action_not_plain, action_is, makes, unmade, facts_of, HasFacts, named_from, event_there, cell_there, LivesIn, lives_waiting, operator_there, idle_list, idle_nowhere, reached_stands, AbleActor, actor_of, state_there, choice_is, gives_within, process_is, text_in, level_in, context_in, most_in, stored_world, event_stays, TheLaws, IsEventAt, Pictures, PicturesBy, StateIs, AreAwaiting, ListIs, MayAct, Does, gave}
use Rattle.b67_deeds.specs.Deeds.{Next}
use Rattle.b67_deeds.specs.Deeds as deeds
use Rattle.b67_deeds.proofs.Lists.{Lists, deed_lists, waiting_frees_nobody}
use Rattle.algol_meaning.specs.Asks as asked_for
use Rattle.algol_meaning.specs.Choice as choices
use Rattle.algol_meaning.specs.Choice.{deed_does as does, did, all_followed, does_with_first}
use Rattle.algol_standing.proofs.Awaiting.{awaits_procures}
use Rattle.b67_events.specs.Events as kernel
use Rattle.b67_ops.specs.declared.Operator.TheVariants as ops
use Rattle.b67_ops.specs.declared.PlainKind.TheVariants as kinds
use Rattle.b67_table.specs.declared.Cell.{Cell as MachineCell}
use Rattle.b67_table.specs.Effect as effects
use Rattle.b67_table.specs.Image.{with_states}
use Rattle.b67_table.proofs.Deeds.{deed_rows}
use Rattle.b67_table.specs.Outcome as outcomes
use Rattle.b67_table.specs.Table.{table, raw}
use Rattle.b67_table.specs.Writes.{with_deed}
use Rattle.b67_table.specs.Intrinsics.{row_of_intrinsic}
use Rattle.b67_ops.specs.Intrinsics.{intrinsic_of}
use Rattle.b67_letters.proofs.Deeds.{deed_letters}
use Rattle.b67_frames.proofs.EventRows.{acted_releases, acted_raw, told_core, told_raw, told_releases}
use Rattle.b67_scenes.proofs.Freeing.{all_freed, freed_beside, AreUnlisted}
use Rattle.b67_pictures.proofs.Alone.{IsAfter, after_choice}
use Rattle.b67_pictures.proofs.Deeds.{Tells, acts_tell, nothing_told, told_by_test, unchanged_goes, waiting_tells, Frees, whom_frees, waiting_not_able}
use Rattle.b67_pictures.proofs.OnEvents.{OnEvent, on_event as on_event_there, open_as, is_open_there, world_has}
use Rattle.b67_pictures.proofs.EventChanging.{instance_there, event_world, event_pictured}
use Rattle.b67_pictures.proofs.InFrame.{does_in_frame, SameFrame}
use Rattle.b67_pictures.proofs.SameShape.{IsSameShape, shape_back, after_shape, freed_shape, event_moves, states_self, stays_shape}
use Rattle.b67_pictures.proofs.EventMoving.{IsOwned}
use Rattle.b67_pictures.proofs.Walking.{changed_there}
use Rattle.b67_pictures.proofs.Waiters.{owned_standing, WaitsHere, waits_here, procures_unlisted}
use Rattle.b67_pictures.proofs.LettingGo.{HaveEvents, events_have, same_events, list_events, Waiter, IsWaiter, all_owned, let_go_all, let_go_beside, let_go_is, let_go_all_shape, all_gone}
use Rattle.b67_standing.proofs.OnEvents.{acts_on_one}
use Rattle.b67_cores.proofs.Bits.{truth_is_truth}

-- the answer that a deed gives, and the slot that it leaves
abbrev pub answer_of : Option Bool → Answer
answer_of None = done
answer_of (Some b) = value (truth b)

abbrev pub slots_of : Option Bool → List Slot → List Slot
slots_of None below = below
slots_of (Some b) below = operand (truth b) ∷ below

-- an event with which a process does something, whatever that is
module _ (tree : PProgram) (code : Code) (texts : Texts) (nested : AreNested (scopes_of tree)) (laws : TheLaws) (actor : AbleActor tree code texts) where
  open actor use {w, lay, img, p, q, part, outer, bound, core, s, able_is, able_p}

  -- The head asks for a deed on one event, and what it tells leads on.
  pub record ActsOnEvent : Type 0 where
    pub deed_done : EventDeed
    pub one : deeds.is_of_several deed_done ≡ false
    pub name : Named
    pub asks : ask part.rest ≡ asked_for.event_deed deed_done (name ∷ [])
    pub next : ℕ
    pub below : List Slot
    pub acts_at : ActsOnAt (scopes_of tree) (context_in tree code texts w part s.stands.frame.gives) (text_in tree texts w part) (level_in tree w part) (most_in tree w part) deed_done (name ∷ []) s.stands.pc next s.stands.slots below
    pub comes_to : (told : Option Bool) → Tells deed_done told → ComesTo (scopes_of tree) (context_in tree code texts w part s.stands.frame.gives) (text_in tree texts w part) (level_in tree w part) (most_in tree w part) (resume (scopes_of tree) part.rest (answer_of told)) next (slots_of told below)

  module _ (acts : ActsOnEvent) where
    open acts use {deed_done as x, one, name as n, asks, next, below, acts_at, comes_to}

    abbrev sc : Scopes
    sc = scopes_of tree

    abbrev level : ℕ
    level = level_in tree w part

    abbrev text : List Placed
    text = text_in tree texts w part

    abbrev name : Intrinsic
    name = intrinsic_of x

    abbrev r : Reference
    r = followed w (named_from sc w lay part.instance n)

    -- it does its action, and releases whom that releases
    pub record IsActed : Type 0 where
      pub does : Does tree code texts w img p
      pub frees : releases code img p ≡ (choice (scopes_of tree) w p).released

    pub there : operator_at code core.registers ≡ Ok (ops.Plain kinds.Entr, next)
    there = operator_there sc s.stands.held code text level s.stands.pc s.stands.slots core (ops.Plain kinds.Entr) next s.stands.there acts_at.stands

    pub acts_one : ActsAt sc (context_in tree code texts w part s.stands.frame.gives) text level (most_in tree w part) name n s.stands.pc next s.stands.slots below
    acts_one = acts_on_one sc (context_in tree code texts w part s.stands.frame.gives) text level (most_in tree w part) x n s.stands.pc next s.stands.slots below acts_at

    pub is_asked : IsAsked (ask part.rest) n
    is_asked = subst (λ (k : Ask). IsAsked k n) (sym asks) (inl refl)

    abbrev IsOn : Type 0
    IsOn = OnEvent tree code texts nested (actor_of s) name n is_asked next below acts_one

    module _ (o : IsOn) where
      abbrev e : EventState
      e = o.home.found.cell

      abbrev cell : MachineCell
      cell = cell_there tree code texts nested (actor_of s) o.home.lies o.home.number

      abbrev at : Place
      at = cell_place cell

      pub there_open : is_open (cell_place cell) img.events ≡ true
      there_open = is_open_there tree code texts nested (actor_of s) name n is_asked next below acts_one o

      -- what the image has there
      has_there : kernel.event_at at img.events ≡ Some (event_there at e)
      has_there = open_as tree code texts nested (actor_of s) name n is_asked next below acts_one o

      -- and the world
      means : cell_at w r ≡ event e
      means = world_has tree code texts nested (actor_of s) name n is_asked next below acts_one o

      event_is : event_at w r ≡ e
      event_is = ap event_in means

      above : CoreAt sc s.stands.held code text level next below (without_call core o.call.others o.call.calls.m.df next)
      above = o.call.after_at next

      not_plain : plain code img p ≡ false
      not_plain = action_not_plain code (ops.Plain kinds.Entr) (at_operator s.has there) (enter_class code (at_operator s.has there) name (o.word ∷ []) o.call.reference o.call.marked o.call.others o.call.calls)

      -- ---- the core after it, with what is told

      abbrev with_told : Bool → Core
      with_told b = told_core code (at_operator s.has there) name o.word o.call.reference o.call.marked o.call.others o.call.calls cell (o.home.reaches o.word o.reads) there_open b

      abbrev pub words_of : Option Bool → List Word
      words_of None = o.call.others
      words_of (Some b) = (with_told b).words

      abbrev pub registers_of : Option Bool → Registers
      registers_of None = (without_call core o.call.others o.call.calls.m.df next).registers
      registers_of (Some b) = (with_told b).registers

      abbrev core_of : Option Bool → Core
      core_of told = record { below = core.below; words = words_of told; registers = registers_of told }

      core_at : (told : Option Bool) → CoreAt sc s.stands.held code text level next (slots_of told below) (core_of told)
      core_at None = above
      core_at (Some b) =
          record {
            segment = s.stands.there.segment;
            there = s.stands.there.there;
            spells = s.stands.there.spells;
            level_is = s.stands.there.level_is;
            place_is = refl;
            is = record { bottom = s.has.is.bottom; top = omega (arith, above.is.top) };
            mark_is = above.mark_is;
            words_are = (truth_is_truth b, above.words_are);
          }

      core_frame : (told : Option Bool) → SameFrame core.registers (core_of told).registers
      core_frame None = record { is = refl }
      core_frame (Some b) = record { is = refl }

      few : (told : Option Bool) → length (slots_of told below) ≤ most_in tree w part
      few None = o.call.few
      few (Some b) = omega (arith, ap length acts_one.lies, s.stands.few)

      smaller : (told : Option Bool) → size (core_of told) ≤ stack_limit
      smaller None = omega (arith, above.is.top, o.call.calls.called.mark_at, s.has.is.top, ap length o.call.calls.called.words, s.small)
      smaller (Some b) = omega (arith, above.is.top, o.call.calls.called.mark_at, s.has.is.top, ap length o.call.calls.called.words, s.small)

      core_registers : (told : Option Bool) → numbered (with_core img p (core_of told)).regs p ≡ Some (core_of told).registers
      core_registers None = registers_now img p core (core_of None) s.has refl
      core_registers (Some b) = registers_now img p core (core_of (Some b)) s.has refl

      nameless : (told : Option Bool) → InAnswer (BlockIsSeen (scopes_of tree) ((instance_at w part.instance).block)) (answer_of told)
      nameless None = tt
      nameless (Some b) = tt

      core_short : (told : Option Bool) → (core_of told).registers.s ≤ stack_limit
      core_short told = omega (arith, smaller told, (core_at told).is.top)

      -- ---- the deed

      abbrev d : Deed
      d = deed x p e

      chosen_as : choice sc w p ≡ did sc w p q part outer x r d d.next
      chosen_as =
          choice_is sc w p q part outer s.at s.todo
          ∙ ap (λ (k : Ask). choice_of sc w p q part outer k) asks
          ∙ ap (λ (b : Bool). if b then wakes_or_waits sc w p q part outer q.woken (all_followed sc w p q part outer (n ∷ [])) else (does_with_first sc w p q part outer x (n ∷ []))) one
          ∙ ap (λ (z : EventState). does sc w p q part outer x r (deed x p z)) event_is

      state_there_is : kernel.state_at at img.events ≡ e
      state_there_is = ap kernel.state_of has_there

      abbrev IsRow : EventDeed → Type 0
      IsRow y = raw code img p ≡ effects.gives (with_deed (deed y p e) at p (with_core img p (core_of (deed y p e).answer)))

      row_by : (y : EventDeed) → deeds.is_of_several y ≡ false → row_of_intrinsic name ≡ row_of_intrinsic (intrinsic_of y) → IsRow y
      row_by (deeds.acts y) one_y same =
          acted_raw code (at_operator s.has there) name o.word o.call.reference o.call.marked o.call.others o.call.calls cell (o.home.reaches o.word o.reads) there_open (deeds.acts y) (same ∙ deed_rows (deeds.acts y) one_y)
          ∙ ap (λ (z : EventState). effects.gives (with_deed (deed (deeds.acts y) p z) at p (with_core img p (core_of None)))) state_there_is
          ∙ ap (λ (told : Option Bool). effects.gives (with_deed (deed (deeds.acts y) p e) at p (with_core img p (core_of told)))) (sym (nothing_told (deeds.acts y) p e tt))
      row_by (deeds.tests y) one_y same =
          told_raw code (at_operator s.has there) name o.word o.call.reference o.call.marked o.call.others o.call.calls cell (o.home.reaches o.word o.reads) there_open y (same ∙ deed_rows (deeds.tests y) one_y)
          ∙ ap (λ (z : EventState). effects.gives (with_deed (deed (deeds.tests y) p z) at p (with_core img p (core_of (Some (deeds.answers y z)))))) state_there_is
          ∙ ap (λ (told : Option Bool). effects.gives (with_deed (deed (deeds.tests y) p e) at p (with_core img p (core_of told)))) (sym (told_by_test y p e one_y))

      row : IsRow x
      row = row_by x one refl

      letter_is : (after : Image) → table code img p ≡ outcomes.gives after → letter code img p ≡ Some (deeds.letter_of x)
      letter_is after t =
          action_is code (ops.Plain kinds.Entr) (at_operator s.has there) (outcomes.gives after) t ∙ o.call.action
          ∙ ap (λ (l : Letter). Some l) (deed_letters (woken_number img.numbers core.registers.stack) x one)

      abbrev gone_on : Option Bool → State → Process
      gone_on told state = record q { todo = record part { rest = resume sc part.rest (answer_of told) } ∷ outer; state = state }

      -- whom it releases
      row_frees : (y : EventDeed) → deeds.is_of_several y ≡ false → row_of_intrinsic name ≡ row_of_intrinsic (intrinsic_of y) → registers_releases code img p (numbered img.regs p) ≡ (deed y p (kernel.state_at at img.events)).frees
      row_frees (deeds.acts y) one_y same =
          acted_releases code (at_operator s.has there) name o.word o.call.reference o.call.marked o.call.others o.call.calls cell (o.home.reaches o.word o.reads) there_open (deeds.acts y) (same ∙ deed_rows (deeds.acts y) one_y)
      row_frees (deeds.tests y) one_y same =
          told_releases code (at_operator s.has there) name o.word o.call.reference o.call.marked o.call.others o.call.calls cell (o.home.reaches o.word o.reads) there_open y (same ∙ deed_rows (deeds.tests y) one_y)

      frees_so : (after : Image) → table code img p ≡ outcomes.gives after → releases code img p ≡ d.frees
      frees_so after table_is =
          ap (λ (t : Outcome Image). released_by t (registers_releases code img p (numbered img.regs p))) table_is
          ∙ row_frees x one refl
          ∙ ap (λ (z : EventState). (deed x p z).frees) state_there_is

      -- ---- who stands in the lists

      standing : IsStanding w r.instance
      standing = reached_stands tree code texts (actor_of s) r.instance o.home.own

      listed : WaitersAreListed w r e
      listed = s.ok.sound.listed r e standing means

      -- who waits for it
      waiter : (k : ℕ) → IsListed e.waiters k → WaitsHere tree code texts w lay img s.by s.ok r at k
      waiter k m = waits_here tree code texts w lay img s.by s.ok r at o.home.lies_at k (listed.waiters k m)

      waiter_apart : is_able ((process_at w p).state) ≡ true → IsListed e.waiters p → ⊥
      waiter_apart able_now m = true_false able_now (waiting_not_able ((process_at w p).state) r (listed.waiters p m))

      procurer_apart : is_able ((process_at w p).state) ≡ true → IsListed e.procurers p → ⊥
      procurer_apart able_now m = true_false able_now (ap is_able (listed.procurers p m))

      -- who waits for it in the image
      waiters_are : kernel.waiters_at at img.events ≡ e.waiters
      waiters_are = ap (λ (z : EventState). z.waiters) state_there_is

      -- ---- an event that changes

      -- The event changes, and so does the state of the process.
      pub record EventChanges : Type 0 where
        pub told : Option Bool
        pub tells : Tells x told
        pub change : EventState → EventState
        pub state : State
        pub lives_now : lives state ≡ true
        pub list_now : is_able ((process_at w p).state) ≡ true → list_in state ≡ list_in q.state
        pub states : List ProcessState
        pub many_states : length states ≡ length img.states
        pub state_is : StateIs (scopes_of tree) w lay state (numbered states p)
        pub states_are : (m : ℕ) → m ≢ p → numbered states m ≡ numbered img.states m
        pub joins : is_able ((process_at w p).state) ≡ true → (k : ℕ) → IsListed (change e).waiters k → IsListed e.waiters k ⊎ ((p ≡ k) × AwaitsAt (numbered states p) (list_of p img.lists) at)

      module _ (changes : EventChanges) where
        open changes use {told, tells, change, state, lives_now, list_now, states, many_states, state_is, states_are, joins}

        abbrev later : EventState
        later = change e

        abbrev pub changed_first : Image
        changed_first = record (with_core img p (core_of told)) { events = event_changed at (with_state change) img.events; states = states }

        -- before the others are released
        abbrev pub before : World
        before = with_process (set_event w r later) p (gone_on told state)

        -- nobody else waits for more
        awaiting : is_able ((process_at w p).state) ≡ true → AreAwaiting (record img { events = event_changed at (with_state change) img.events; states = states })
        awaiting able_now m to m_listed = by_place (kernel.same_place at to) refl (subst (λ (z : Option Event). IsListed (kernel.state_of z).waiters m) (changed_there at to change img.events) m_listed)
          where
            nowhere : (z : Place) → IsListed (kernel.waiters_at z img.events) p → ⊥
            nowhere = idle_nowhere tree code texts w lay img s.by p able_now

            as_before : (z : Place) → IsListed (kernel.waiters_at z img.events) m → AwaitsAt (numbered states m) (list_of m img.lists) z
            as_before z l =
                subst (λ (y : Option ProcessState). AwaitsAt y (list_of m img.lists) z) (sym (states_are m (λ (same : m ≡ p). nowhere z (subst (λ (k : ℕ). IsListed (kernel.waiters_at z img.events) k) same l))))
                (s.by.waits.awaiting m z l)

            here : IsListed e.waiters m ⊎ ((p ≡ m) × AwaitsAt (numbered states p) (list_of p img.lists) at) → AwaitsAt (numbered states m) (list_of m img.lists) at
            here (inl l) = as_before at (subst (λ (ks : List ℕ). IsListed ks m) (sym waiters_are) l)
            here (inr l) = subst (λ (k : ℕ). AwaitsAt (numbered states k) (list_of k img.lists) at) l.0 l.1

            by_place : (b : Bool) → kernel.same_place at to ≡ b → IsListed (kernel.state_of (if b then option_map (with_state change) (kernel.event_at to img.events) else kernel.event_at to img.events)).waiters m →
                AwaitsAt (numbered states m) (list_of m img.lists) to
            by_place true same l =
                let to_is : at ≡ to = same_place_true at to same in
                subst (λ (z : Place). AwaitsAt (numbered states m) (list_of m img.lists) z) to_is
                (here (joins able_now m (subst (λ (z : Option Event). IsListed (kernel.state_of (option_map (with_state change) z)).waiters m) (ap (λ (z : Place). kernel.event_at z img.events) (sym to_is) ∙ has_there) l)))
            by_place false same l = as_before to l

        before_is : is_able ((process_at w p).state) ≡ true → IsAfter sc w before p → PicturesBy tree code texts before lay changed_first
        before_is able_now after_before =
            subst (λ (u : World). PicturesBy tree code texts (with_process u p (gone_on told state)) lay changed_first) (sym world_is)
            (event_pictured tree code texts nested laws (actor_of s) able_is (record {
              unmade = unmade part.rest (ap makes asks);
              answer = answer_of told;
              nameless = nameless told;
              words = words_of told;
              registers = registers_of told;
              frame_is = core_frame told;
              pc = next;
              slots = slots_of told below;
              few = few told;
              there = core_at told;
              comes = comes_to told tells;
            }) (record {
              r = r;
              seen = o.home.lies;
              number = o.home.number;
              found = o.home.found;
              later = later;
              change = with_state change;
              stays = λ z. refl;
              becomes = refl;
            }) (record { state = state; lives_now = lives_now; states = states; many_states = many_states; state_is = state_is; states_are = states_are; list_same = list_now able_now })
            (smaller told) (awaiting able_now) (subst (λ (u : World). IsAfter sc w (with_process u p (gone_on told state)) p) world_is after_before))
          where
            world_is : set_event w r later ≡ stored_world w r.instance o.home.lies.found.lies.owned.framed.instance (instance_there tree code texts (actor_of s) r o.home.lies)
                (cells_with o.home.lies.found.lies.owned.framed.instance.cells r.name (event later))
            world_is = event_world tree code texts (actor_of s) r o.home.lies later

        -- what is changed has the shape of what was there
        change_there : IsSameShape w (set_event w r later)
        change_there = record { instances = event_moves w r e later means; processes = states_self w.processes }

        lies_then : IsEventAt sc before lay r at
        lies_then = event_stays sc w before lay lay (λ j z e_name is. stays_shape w (set_event w r later) change_there j z e_name is) (λ j f laid. laid) r at o.home.lies_at

        owned_then : (i : ℕ) → IsOwned w i → IsOwned before i
        owned_then i h = by_number (same_or_not p h.number)
          where
            by_number : (p ≡ h.number) ⊎ (p ≢ h.number) → IsOwned before i
            by_number (inl same) =
                let is_q : q ≡ h.process = some_same (sym s.at ∙ ap (λ (k : ℕ). numbered w.processes k) same ∙ h.is) in
                record {
                  number = p;
                  process = gone_on told state;
                  is = numbered_set w.processes p q (gone_on told state) s.at;
                  alive = lives_now;
                  own = subst (λ (ps : List Part). IsOwn ps i) s.todo (subst (λ (z : Process). IsOwn z.todo i) (sym is_q) h.own);
                }
            by_number (inr other) = record { number = h.number; process = h.process; is = numbered_other w.processes p h.number (gone_on told state) other ∙ h.is; alive = h.alive; own = h.own }

        -- where the world after it has the same shape, and its image pictures it
        module _ (final : World) (after : Image) (row_is : raw code img p ≡ effects.gives after) (registers_are : numbered after.regs p ≡ Some (core_of told).registers) (world : (choice sc w p).world ≡ final)
            (action : (choice sc w p).action ≡ deeds.letter_of x) (released_is : (choice sc w p).released ≡ d.frees) (shape : is_able ((process_at w p).state) ≡ true → IsSameShape before final)
            (finish : is_able ((process_at w p).state) ≡ true → HasFacts before → PicturesBy tree code texts before lay changed_first → PicturesBy tree code texts final lay after) where
          table_is : table code img p ≡ outcomes.gives after
          table_is = gives_within code img after p (core_of told).registers row_is registers_are (core_short told)

          after_before : MayAct sc w p → IsAfter sc w before p
          after_before may = after_shape sc w final before p (after_choice sc w final p q (facts_of sc w s.ok) may s.at world) (shape_back before final (shape may.able))

          pub event_acts : IsActed
          event_acts =
              record {
                does = gave after not_plain table_is (letter_is after table_is ∙ ap (λ (l : Letter). Some l) (sym action))
                    (λ may. subst (λ (u : World). Pictures tree code texts u after) (sym world) (lay, finish may.able (after_before may).climb.facts (before_is may.able (after_before may))));
                frees = frees_so after table_is ∙ sym released_is;
              }

        -- ---- whom it frees

        -- all who waited for it, and they wait for no other event either ..
        module _ (none_waits : (change e).waiters ≡ []) where
          waits_then : is_able ((process_at w p).state) ≡ true → (k : ℕ) → IsListed e.waiters k → IsWaiter tree code texts lay before changed_first k
          waits_then able_now k m =
              let h : WaitsHere tree code texts w lay img s.by s.ok r at k = waiter k m in
              let other : p ≢ k = λ (same : p ≡ k). waiter_apart able_now (subst (IsListed e.waiters) (sym same) m) in
              record {
                process = h.process;
                is = numbered_other w.processes p k (gone_on told state) other ∙ h.is;
                alive = h.alive;
                owned = all_owned w before owned_then (list_in (h.process).state) h.owned;
                within = λ to listed_to. by_place h to (kernel.same_place at to) refl (subst (λ (z : Option Event). IsListed (kernel.state_of z).waiters k) (changed_there at to change img.events) listed_to);
              }
            where
              by_place : WaitsHere tree code texts w lay img s.by s.ok r at k → (to : Place) (b : Bool) → kernel.same_place at to ≡ b →
                  IsListed (kernel.state_of (if b then option_map (with_state change) (kernel.event_at to img.events) else kernel.event_at to img.events)).waiters k → kernel.event_is_among (list_of k img.lists) to ≡ true
              by_place h to true same l =
                  let to_is : at ≡ to = same_place_true at to same in
                  let gone : IsListed (change e).waiters k = subst (λ (z : Option Event). IsListed (kernel.state_of (option_map (with_state change) z)).waiters k) (ap (λ (z : Place). kernel.event_at z img.events) (sym to_is) ∙ has_there) l in
                  absurd (subst (λ (ks : List ℕ). IsListed ks k) none_waits gone)
              by_place h to false same l = h.within to (λ (z : to ≡ at). let clash : false ≡ true = sym same ∙ same_place_self at to (sym z) in cc) l

          waiters_then : is_able ((process_at w p).state) ≡ true → (k : ℕ) → IsListed e.waiters k → Waiter before k
          waiters_then able_now k m =
              let h : IsWaiter tree code texts lay before changed_first k = waits_then able_now k m in
              let list : HaveEvents w (list_in (h.process).state) =
              list_events sc w lay (list_in (h.process).state) (list_of k img.lists)
              (subst (λ (z : Process). ListIs sc w lay (list_in z.state) (list_of k img.lists)) (process_is w k h.process (sym (numbered_other w.processes p k (gone_on told state) (λ (same : p ≡ k). waiter_apart able_now (subst (IsListed e.waiters) (sym same) m))) ∙ h.is))
              (s.by.waits.lists k)) in
              record {
                process = h.process;
                is = h.is;
                alive = h.alive;
                events = same_events (set_event w r later) before refl (list_in (h.process).state) (events_have w (set_event w r later) change_there (list_in (h.process).state) list);
              }

          all_let_go : raw code img p ≡ effects.gives (record changed_first {
            events = kernel.withdrawn e.waiters (event_changed at (with_state change) img.events);
            lists = kernel.unlisted e.waiters img.lists;
            states = able_again e.waiters states;
            numbers = told_positions at img.lists e.waiters img.numbers;
          }) → (choice sc w p).world ≡ with_process (set_all_able (all_withdrawn (set_event w r later) r e.waiters) e.waiters) p (gone_on told state) →
              (choice sc w p).action ≡ deeds.letter_of x → (choice sc w p).released ≡ d.frees → IsActed
          all_let_go row_is world action released_is =
              event_acts final after row_is (core_registers told) world action released_is (λ able_now. subst (λ (u : World). IsSameShape before u) (final_is able_now) (let_go_all_shape e.waiters before r listed.once_waiting (waiters_then able_now)))
              (λ able_now facts by.
              subst (λ (u : World). PicturesBy tree code texts u lay after) (final_is able_now)
              (all_gone tree code texts lay e.waiters before changed_first by facts r at lies_then (owned_then r.instance (owned_standing tree code texts w lay img s.by s.ok r.instance standing)) listed.once_waiting (waits_then able_now) img.lists
              (λ k m. refl)))
            where
              final : World
              final = with_process (set_all_able (all_withdrawn (set_event w r later) r e.waiters) e.waiters) p (gone_on told state)

              after : Image
              after =
                  record changed_first {
                    events = kernel.withdrawn e.waiters (event_changed at (with_state change) img.events);
                    lists = kernel.unlisted e.waiters img.lists;
                    states = able_again e.waiters states;
                    numbers = told_positions at img.lists e.waiters img.numbers;
                  }

              final_is : is_able ((process_at w p).state) ≡ true → let_go_all before r e.waiters ≡ final
              final_is able_now =
                  let_go_beside e.waiters (set_event w r later) r p (gone_on told state) (waiter_apart able_now)
                  ∙ ap (λ (u : World). with_process u p (gone_on told state)) (sym (let_go_is e.waiters (set_event w r later) r listed.once_waiting))

        -- .. or some who waited to procure it
        module _ (fs : List ℕ) (procured : (k : ℕ) → IsListed fs k → IsListed e.procurers k) where
          apart : is_able ((process_at w p).state) ≡ true → IsListed fs p → ⊥
          apart able_now m = procurer_apart able_now (procured p m)

          alive_then : is_able ((process_at w p).state) ≡ true → (k : ℕ) → IsListed fs k → LivesIn before k
          alive_then able_now k m =
              let h : LivesIn w k = lives_waiting w k (procures r) (listed.procurers k (procured k m)) refl in
              record { process = h.process; is = numbered_other w.processes p k (gone_on told state) (λ (same : p ≡ k). apart able_now (subst (IsListed fs) (sym same) m)) ∙ h.is; alive = h.alive }

          unlisted_then : is_able ((process_at w p).state) ≡ true → AreUnlisted tree code texts lay before changed_first fs
          unlisted_then able_now k m = (nowhere, u.1)
            where
              u : ((to : Place) → IsListed (kernel.waiters_at to img.events) k → ⊥) × (list_of k img.lists ≡ [])
              u = procures_unlisted tree code texts w lay img s.by s.ok k r (listed.procurers k (procured k m))

              here : IsListed e.waiters k ⊎ ((p ≡ k) × AwaitsAt (numbered states p) (list_of p img.lists) at) → ⊥
              here (inl l) = u.0 at (subst (λ (ks : List ℕ). IsListed ks k) (sym waiters_are) l)
              here (inr l) = apart able_now (subst (IsListed fs) (sym l.0) m)

              by_place : (to : Place) (b : Bool) → kernel.same_place at to ≡ b → IsListed (kernel.state_of (if b then option_map (with_state change) (kernel.event_at to img.events) else kernel.event_at to img.events)).waiters k → ⊥
              by_place to true same l =
                  let to_is : at ≡ to = same_place_true at to same in
                  here (joins able_now k (subst (λ (z : Option Event). IsListed (kernel.state_of (option_map (with_state change) z)).waiters k) (ap (λ (z : Place). kernel.event_at z img.events) (sym to_is) ∙ has_there) l))
              by_place to false same l = u.0 to l

              nowhere : (to : Place) → IsListed (kernel.waiters_at to (event_changed at (with_state change) img.events)) k → ⊥
              nowhere to l = by_place to (kernel.same_place at to) refl (subst (λ (z : Option Event). IsListed (kernel.state_of z).waiters k) (changed_there at to change img.events) l)

          some_freed : raw code img p ≡ effects.gives (with_states changed_first (able_again fs states)) → (choice sc w p).world ≡ with_process (set_all_able (set_event w r later) fs) p (gone_on told state) →
              (choice sc w p).action ≡ deeds.letter_of x → (choice sc w p).released ≡ d.frees → IsActed
          some_freed row_is world action released_is =
              event_acts (with_process (set_all_able (set_event w r later) fs) p (gone_on told state)) (with_states changed_first (able_again fs states)) row_is (core_registers told) world action released_is
              (λ able_now. subst (λ (u : World). IsSameShape before u) (freed_beside fs (set_event w r later) p (gone_on told state) (apart able_now)) (shape_back (set_all_able before fs) before (freed_shape fs before (alive_then able_now))))
              (λ able_now facts by.
              subst (λ (u : World). PicturesBy tree code texts u lay (with_states changed_first (able_again fs states))) (freed_beside fs (set_event w r later) p (gone_on told state) (apart able_now))
              (all_freed tree code texts lay fs before changed_first facts by (alive_then able_now) (unlisted_then able_now)))

        -- by whom it frees
        abbrev released_image : List ℕ → List ℕ → Image
        released_image fs ws =
            record changed_first {
              events = kernel.withdrawn ws (event_changed at (with_state change) img.events);
              lists = kernel.unlisted ws img.lists;
              states = able_again fs states;
              numbers = told_positions at img.lists ws img.numbers;
            }

        abbrev released_world : List ℕ → List ℕ → World
        released_world fs ws = with_process (set_all_able (all_withdrawn (set_event w r later) r ws) fs) p (gone_on told state)

        by_frees : (m : Next) (fs ws : List ℕ) → Frees e (record { change = Some change; next = m; answer = told; frees = fs; withdraws = ws }) → raw code img p ≡ effects.gives (released_image fs ws) →
            (choice sc w p).world ≡ released_world fs ws → (choice sc w p).action ≡ deeds.letter_of x → (choice sc w p).released ≡ d.frees → IsActed
        by_frees m fs ws (inl f) row_is world action released_is =
            all_let_go f.2 (row_is ∙ ap (λ (ks : List ℕ). effects.gives (released_image ks ws)) f.0 ∙ ap (λ (ks : List ℕ). effects.gives (released_image e.waiters ks)) f.1)
            (world ∙ ap (λ (ks : List ℕ). released_world ks ws) f.0 ∙ ap (λ (ks : List ℕ). released_world e.waiters ks) f.1) action released_is
        by_frees m fs ws (inr f) row_is world action released_is =
            some_freed fs f.1 (row_is ∙ ap (λ (ks : List ℕ). effects.gives (released_image fs ks)) f.0) (world ∙ ap (λ (ks : List ℕ). released_world fs ks) f.0) action released_is

      -- ---- nothing changes

      same_acts : (told : Option Bool) → Tells x told → raw code img p ≡ effects.gives (with_core img p (core_of told)) → choice sc w p ≡ goes sc w p q part outer (deeds.letter_of x) w (answer_of told) → d.frees ≡ [] → IsActed
      same_acts told tells row_is chosen none =
          let same_row : raw code img p ≡ effects.gives (record (with_core img p (core_of told)) { output = w.output }) = row_is ∙ ap (λ (y : List (List ℕ)). effects.gives (record (with_core img p (core_of told)) { output = y })) s.by.output in
          record {
            does = does_in_frame tree code texts laws actor (record {
              unmade = unmade part.rest (ap makes asks);
              answer = answer_of told;
              nameless = nameless told;
              new = core_of told;
              below = refl;
              frame_is = core_frame told;
              known = s.stands.held;
              known_are = s.stands.held_are;
              pc = next;
              slots = slots_of told below;
              there = core_at told;
              few = few told;
              comes = comes_to told tells;
            }) w.output (deeds.letter_of x) not_plain same_row chosen (λ t. letter_is (record (with_core img p (core_of told)) { output = w.output }) t);
            frees = frees_so (record (with_core img p (core_of told)) { output = w.output })
                (gives_within code img (record (with_core img p (core_of told)) { output = w.output }) p (core_of told).registers same_row (core_registers told) (core_short told))
                ∙ none ∙ sym (ap (λ (c : Choice). c.released) chosen);
          }

      -- ---- by how the event changes and what becomes of the process

      -- its own state is another one
      abbrev own_state : ProcessState → List ProcessState
      own_state state = set_numbered img.states p state

      own_there : (state : ProcessState) → numbered (own_state state) p ≡ Some state
      own_there state = let old = state_there (numbered img.states p) s.has.live in numbered_set img.states p old.0 state old.1

      own_only : (state : ProcessState) (m : ℕ) → m ≢ p → numbered (own_state state) m ≡ numbered img.states m
      own_only state m other = numbered_other img.states p m state (λ same. other (sym same))

      abbrev of_parts : Option (EventState → EventState) → Next → Option Bool → List ℕ → List ℕ → Deed
      of_parts c m told fs ws = record { change = c; next = m; answer = told; frees = fs; withdraws = ws }

      idle_state : is_able ((process_at w p).state) ≡ true → list_in q.state ≡ []
      idle_state able_now = ap (λ (z : Process). list_in z.state) (sym (process_is w p q s.at)) ∙ idle_list tree code texts w lay img s.by p able_now

      told_same : (told : Option Bool) → choices.told_answer sc w p q part outer told ≡ answer_of told
      told_same None = refl
      told_same (Some b) = refl

      -- nobody stands in both lists of the event
      lists_apart : (k : ℕ) → IsListed e.waiters k → IsListed e.procurers k → ⊥
      lists_apart k m l = awaits_procures ((process_at w k).state) r r (listed.waiters k m) (listed.procurers k l)

      lists_so : is_able ((process_at w p).state) ≡ true → Lists p e d
      lists_so able_now = deed_lists p e listed.once listed.once_waiting lists_apart (procurer_apart able_now) (waiter_apart able_now) x

      module _ (c : Option (EventState → EventState)) (m : Next) (told : Option Bool) (fs ws : List ℕ) (parts : d ≡ of_parts c m told fs ws) where
        row_parts : raw code img p ≡ effects.gives (with_deed (of_parts c m told fs ws) at p (with_core img p (core_of told)))
        row_parts = row ∙ ap (λ (z : Deed). effects.gives (with_deed z at p (with_core img p (core_of z.answer)))) parts

        chosen_parts : choice sc w p ≡ did sc w p q part outer x r (of_parts c m told fs ws) m
        chosen_parts = chosen_as ∙ ap (λ (z : Deed). did sc w p q part outer x r z z.next) parts

        frees_parts : Frees e (of_parts c m told fs ws)
        frees_parts = subst (λ (z : Deed). Frees e z) parts (whom_frees x p e)

        tells_parts : Tells x told
        tells_parts = subst (λ (b : Option Bool). Tells x b) (ap (λ (z : Deed). z.answer) parts) (acts_tell x p e one)

        frees_are : fs ≡ d.frees
        frees_are = sym (ap (λ (z : Deed). z.frees) parts)

        -- who waits frees nobody
        nobody : (m ≡ deeds.goes → ⊥) → [] ≡ d.frees
        nobody other = sym (waiting_frees_nobody x p e (λ f. other (sym (ap (λ (z : Deed). z.next) parts) ∙ f)))

        joins_parts : (change : EventState → EventState) → c ≡ Some change → is_able ((process_at w p).state) ≡ true → (k : ℕ) → IsListed (change e).waiters k → IsListed e.waiters k ⊎ ((m ≡ deeds.waits) × (p ≡ k))
        joins_parts change is able_now k l =
            by ((lists_so able_now).waiters k (subst (λ (z : Option (EventState → EventState)). IsListed (after_change z e).waiters k) (sym (ap (λ (z : Deed). z.change) parts ∙ is)) l))
          where
            by : (IsListed e.waiters k × (IsListed d.frees k → ⊥)) ⊎ ((d.next ≡ deeds.waits) × (p ≡ k)) → IsListed e.waiters k ⊎ ((m ≡ deeds.waits) × (p ≡ k))
            by (inl n) = inl n.0
            by (inr n) = inr (sym (ap (λ (z : Deed). z.next) parts) ∙ n.0, n.1)

      by_parts : (c : Option (EventState → EventState)) (m : Next) (told : Option Bool) (fs ws : List ℕ) → d ≡ of_parts c m told fs ws → IsActed
      by_parts None m told fs ws parts =
          let same = unchanged_goes x p e one (ap (λ (z : Deed). z.change) parts) in
          let plain_parts : d ≡ of_parts None deeds.goes told [] [] =
          parts ∙ ap (λ (k : Next). of_parts None k told fs ws) (sym (ap (λ (z : Deed). z.next) parts) ∙ same.0)
          ∙ ap (λ (ys : List ℕ). of_parts None deeds.goes told ys ws) (sym (ap (λ (z : Deed). z.frees) parts) ∙ same.1)
          ∙ ap (λ (ys : List ℕ). of_parts None deeds.goes told [] ys) (sym (ap (λ (z : Deed). z.withdraws) parts) ∙ same.2) in
          same_acts told (tells_parts None m told fs ws parts) (row_parts None deeds.goes told [] [] plain_parts)
          (chosen_parts None deeds.goes told [] [] plain_parts ∙ ap (λ (z : Answer). goes sc w p q part outer (deeds.letter_of x) w z) (told_same told)) same.1
      by_parts (Some change) deeds.goes told fs ws parts =
          let chosen = chosen_parts (Some change) deeds.goes told fs ws parts in
          by_frees (record {
            told = told;
            tells = tells_parts (Some change) deeds.goes told fs ws parts;
            change = change;
            state = q.state;
            lives_now = able_is;
            list_now = λ able_now. refl;
            states = img.states;
            many_states = refl;
            state_is = able_p;
            states_are = λ k other. refl;
            joins = λ able_now k l. goes_joins k (joins_parts (Some change) deeds.goes told fs ws parts change refl able_now k l);
          }) deeds.goes fs ws (frees_parts (Some change) deeds.goes told fs ws parts)
          (row_parts (Some change) deeds.goes told fs ws parts)
          (ap (λ (k : Choice). k.world) chosen
          ∙ ap (λ (z : Answer). with_process (set_all_able (all_withdrawn (set_event w r (change (event_at w r))) r ws) fs) p (record q { todo = record part { rest = resume sc part.rest z } ∷ outer })) (told_same told)
          ∙ ap (λ (z : EventState). with_process (set_all_able (all_withdrawn (set_event w r (change z)) r ws) fs) p (gone_on told q.state)) event_is)
          (ap (λ (k : Choice). k.action) chosen) (ap (λ (k : Choice). k.released) chosen ∙ frees_are (Some change) deeds.goes told fs ws parts)
        where
          goes_joins : (k : ℕ) → IsListed e.waiters k ⊎ ((deeds.goes ≡ deeds.waits) × (p ≡ k)) → IsListed e.waiters k ⊎ ((p ≡ k) × AwaitsAt (numbered img.states p) (list_of p img.lists) at)
          goes_joins k (inl l) = inl l
          goes_joins k (inr l) = let no : deeds.goes ≡ deeds.waits = l.0 in cc
      by_parts (Some change) deeds.waits told fs ws parts =
          let quiet : told ≡ None = sym (ap (λ (z : Deed). z.answer) parts) ∙ waiting_tells x p e (λ f. let no : deeds.waits ≡ deeds.goes = sym (ap (λ (z : Deed). z.next) parts) ∙ f in cc) in
          let so : d ≡ of_parts (Some change) deeds.waits None fs ws = parts ∙ ap (λ (b : Option Bool). of_parts (Some change) deeds.waits b fs ws) quiet in
          let chosen = chosen_parts (Some change) deeds.waits None fs ws so in
          by_frees (record {
            told = None;
            tells = tells_parts (Some change) deeds.waits None fs ws so;
            change = change;
            state = waits_for r;
            lives_now = refl;
            list_now = λ able_now. sym (idle_state able_now);
            states = own_state (WaitsFor at);
            many_states = length_set_numbered img.states p (WaitsFor at);
            state_is = subst (λ (y : Option ProcessState). StateIs sc w lay (waits_for r) y) (sym (own_there (WaitsFor at))) o.home.lies_at;
            states_are = own_only (WaitsFor at);
            joins = λ able_now k l. waits_joins k (joins_parts (Some change) deeds.waits None fs ws so change refl able_now k l);
          }) deeds.waits fs ws (frees_parts (Some change) deeds.waits None fs ws so)
          (row_parts (Some change) deeds.waits None fs ws so)
          (ap (λ (k : Choice). k.world) chosen ∙ ap (λ (z : EventState). with_process (set_all_able (all_withdrawn (set_event w r (change z)) r ws) fs) p (gone_on None (waits_for r))) event_is)
          (ap (λ (k : Choice). k.action) chosen) (ap (λ (k : Choice). k.released) chosen ∙ nobody (Some change) deeds.waits None fs ws so (λ f. cc))
        where
          waits_joins : (k : ℕ) → IsListed e.waiters k ⊎ ((deeds.waits ≡ deeds.waits) × (p ≡ k)) → IsListed e.waiters k ⊎ ((p ≡ k) × AwaitsAt (numbered (own_state (WaitsFor at)) p) (list_of p img.lists) at)
          waits_joins k (inl l) = inl l
          waits_joins k (inr l) = inr (l.1, subst (λ (y : Option ProcessState). AwaitsAt y (list_of p img.lists) at) (sym (own_there (WaitsFor at))) refl)
      by_parts (Some change) deeds.procures told fs ws parts =
          let quiet : told ≡ None = sym (ap (λ (z : Deed). z.answer) parts) ∙ waiting_tells x p e (λ f. let no : deeds.procures ≡ deeds.goes = sym (ap (λ (z : Deed). z.next) parts) ∙ f in cc) in
          let so : d ≡ of_parts (Some change) deeds.procures None fs ws = parts ∙ ap (λ (b : Option Bool). of_parts (Some change) deeds.procures b fs ws) quiet in
          let chosen = chosen_parts (Some change) deeds.procures None fs ws so in
          by_frees (record {
            told = None;
            tells = tells_parts (Some change) deeds.procures None fs ws so;
            change = change;
            state = procures r;
            lives_now = refl;
            list_now = λ able_now. sym (idle_state able_now);
            states = own_state (Procures at);
            many_states = length_set_numbered img.states p (Procures at);
            state_is = subst (λ (y : Option ProcessState). StateIs sc w lay (procures r) y) (sym (own_there (Procures at))) o.home.lies_at;
            states_are = own_only (Procures at);
            joins = λ able_now k l. procures_joins k (joins_parts (Some change) deeds.procures None fs ws so change refl able_now k l);
          }) deeds.procures fs ws (frees_parts (Some change) deeds.procures None fs ws so)
          (row_parts (Some change) deeds.procures None fs ws so)
          (ap (λ (k : Choice). k.world) chosen ∙ ap (λ (z : EventState). with_process (set_all_able (all_withdrawn (set_event w r (change z)) r ws) fs) p (gone_on None (procures r))) event_is)
          (ap (λ (k : Choice). k.action) chosen) (ap (λ (k : Choice). k.released) chosen ∙ nobody (Some change) deeds.procures None fs ws so (λ f. cc))
        where
          procures_joins : (k : ℕ) → IsListed e.waiters k ⊎ ((deeds.procures ≡ deeds.waits) × (p ≡ k)) → IsListed e.waiters k ⊎ ((p ≡ k) × AwaitsAt (numbered (own_state (Procures at)) p) (list_of p img.lists) at)
          procures_joins k (inl l) = inl l
          procures_joins k (inr l) = let no : deeds.procures ≡ deeds.waits = l.0 in cc

      acts_so : IsActed
      acts_so = by_parts d.change d.next d.answer d.frees d.withdraws refl

    pub acting_event : IsActed
    acting_event = acts_so (on_event_there tree code texts nested (actor_of s) name n is_asked next below acts_one)
