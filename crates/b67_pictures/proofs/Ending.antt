-- The end of a process: its last part is left; where it has no task, nothing else changes.
use Rattle.std.proofs.Common.{◌≡◌, ◌≢◌, refl, sym, ap, ◌∙◌, subst, ℕ, zero, suc, ◌≤◌, List, [], ◌∷◌, ◌++◌, length, Option, Some, None, Bool, true, Ok, arith, false, ◌⊎◌, inl, inr}
use Rattle.b67_list.proofs.Numbered.{numbered_set}
use Rattle.b67_list.proofs.Numbers.{none_some}
use Rattle.b67_pictures.proofs.Prelude.{if◌then◌else◌, numbered, IsListed, End, PProgram, Scopes, scopes_of, Ask, leaves, ask, Choice, choice, choice_of, left_with, left_or_ended, ended_releasing, fails, some_depends, is_evaluation, caused_by_end, list_in, leave, done, Reference, Instance, Process, Part, ended, World, instance_at, with_instance, with_process, is_able, process_at, IsOwn, Word, Place, Registers, OUTER_LEVEL, Code, Stacks, stack_at, stack_limit, is_from, closed_from, waiters_at, Image, is_live, is_critical, frame, live_criticals, operator_at, ProcessState, Ended, Texts, ActionAt, Core, HasCore, length_set_numbered, at_operator, numbered_other, IsSameBut, same_but, action_not_plain, arrays_unchanged, IsClosed, FramesClose, events_left, events_unchanged, IsElsewhere, event_outside, ended_at, exit_class, exit_action, HasFacts, facts_of, owned_frame, ArraysAre, EventsAre, Owned, AreLaid, all_laid, operator_there, idle_list, idle_nowhere, LeavesAlone, AreAlike, alike_but, frame_is, actor_of, OutmostActor, state_there, choice_is, comes_to, gives_within, process_is, text_in, level_in, context_in, most_in, EventsStay, awaiting_beside, fewer_closed, waits_still, held_of, TaskIs, Pictures, dead, PicturesBy, WaitsAre, Does, gave}
use Rattle.b67_num.specs.declared.FaultKind.TheVariants as fault
use Rattle.b67_ops.specs.declared.Operator.TheVariants as ops
use Rattle.b67_ops.specs.declared.PlainKind.TheVariants as kinds
use Rattle.b67_templates.specs.Contexts as yielding
use Rattle.b67_store.specs.Store.{closed_at}
use Rattle.b67_table.specs.Outcome as outcomes
use Rattle.b67_table.specs.Table.{table}
use Rattle.b67_frames.proofs.ExitRow.{exit_raw}
use Rattle.b67_pictures.proofs.Alone.{IsAfter, AreAsDependent, dependent_but, after_choice, leaves_alone}
use Rattle.b67_pictures.proofs.LeftInstances.{keeps_left}
use Rattle.b67_scenes.proofs.Tasks as tasks
use Rattle.b67_pictures.proofs.Blocked.{critical_frame}
use Rattle.b67_table.specs.Beginning.{base_mark}
use Rattle.b67_table.specs.Linkage.{base_control}

-- a stack that is closed is no other one
closed_other : (stacks : Stacks) (n m : ℕ) → n ≢ m → stack_at (closed_at stacks n) m ≡ stack_at stacks m
closed_other [] n m apart = refl
closed_other (z ∷ zs) zero zero apart = absurd (apart refl)
closed_other (z ∷ zs) zero (suc m) apart = refl
closed_other (z ∷ zs) (suc n) zero apart = refl
closed_other (z ∷ zs) (suc n) (suc m) apart = closed_other zs n m (λ e. apart (ap suc e))

module _ (tree : PProgram) (code : Code) (texts : Texts) (closing : FramesClose) (actor : OutmostActor tree code texts) where
  open actor use {w, lay, img, p, q, part, core, s}

  module _ (owns : is_evaluation part.purpose ≡ false) where
    abbrev sc : Scopes
    sc = scopes_of tree

    abbrev i : ℕ
    i = part.instance

    -- the part has its frame's instance for its own
    abbrev pub own_frame : Owned tree code texts w lay p part [] (length s.stands.frame.lower) s.stands.frame.mark s.stands.frame.control s.stands.frame.cells
    own_frame = owned_frame tree code texts w lay p part [] core.below s.stands.frame owns

    abbrev left_instance : Instance
    left_instance = record (instance_at w part.instance) { left = true }

    -- the process that has ended
    abbrev pub q' : Process
    q' = record q { todo = []; state = ended }

    -- ---- the world

    -- in which the instance is left
    abbrev pub left_world : World
    left_world = with_instance w part.instance (record (instance_at w part.instance) { left = true })

    abbrev w' : World
    w' = with_process left_world p q'

    pub same_but_left : (j : ℕ) → IsSameBut (instance_at (with_process (with_instance w part.instance (record (instance_at w part.instance) { left = true })) p (record q { todo = []; state = ended })) j) (instance_at w j)
    same_but_left j = let b = same_but w p q' i own_frame.framed.instance own_frame.framed.is j in record { block = b.block; parent = b.parent; cells = b.cells }

    pub events_stay : EventsStay w (with_process (with_instance w part.instance (record (instance_at w part.instance) { left = true })) p (record q { todo = []; state = ended }))
    events_stay = tasks.events_left w w' same_but_left

    facts : HasFacts w
    facts = facts_of sc w s.ok

    pub laid_before : AreLaid w lay
    laid_before = all_laid w lay facts s.by.laid

    -- who does not live depends on nothing
    pub dependent : AreAsDependent w.processes (with_process (with_instance w part.instance (record (instance_at w part.instance) { left = true })) p (record q { todo = []; state = ended })).processes
    dependent = dependent_but w.processes p q q' s.at refl (λ alive. cc)

    abbrev IsLater : Type 0
    IsLater = IsAfter sc w w' p

    -- each other process has what it had, where it is left alone
    pub alike_if : (r : ℕ) → r ≢ p → LeavesAlone (scopes_of tree) w (with_process (with_instance w part.instance (record (instance_at w part.instance) { left = true })) p (record q { todo = []; state = ended })) lay lay r →
        AreAlike (scopes_of tree) w (with_process (with_instance w part.instance (record (instance_at w part.instance) { left = true })) p (record q { todo = []; state = ended })) lay lay r
    alike_if r other alone =
        alike_but sc w w' lay r i own_frame.framed.instance left_instance alone own_frame.framed.is (λ (e : r ≡ own_frame.framed.instance.process). other (e ∙ own_frame.framed.own)) refl events_stay

    alike : IsLater → (r : ℕ) → r ≢ p → AreAlike sc w w' lay lay r
    alike after_it r other =
        alike_if r other (leaves_alone sc w w' lay lay p facts after_it (λ j st later. keeps_left sc w w' lay j (same_but_left j)) (λ j x there. there) laid_before dependent r other)

    module _ (asks : ask part.rest ≡ leaves done) where
      -- where no process depends on the instance, its task's event is caused
      pub chosen_by : some_depends w.processes part.instance ≡ false → choice (scopes_of tree) w p ≡ ended_releasing (scopes_of tree) w p q part [] (caused_by_end (leave w (part.instance ∷ [])) p q.task)
      chosen_by free =
          choice_is sc w p q part [] s.at s.todo
          ∙ ap (λ (k : Ask). choice_of sc w p q part [] k) asks
          ∙ ap (λ (b : Bool). if b then left_with sc w p q part [] w done [] else if some_depends w.processes i then fails sc w p q part [] fault.CriticalBlockExit else left_or_ended sc w p q part [] done [])
          own_frame.owns
          ∙ ap (λ (b : Bool). if b then fails sc w p q part [] fault.CriticalBlockExit else left_or_ended sc w p q part [] done []) free

      -- ---- the image

      module _ (a : ActionAt sc (context_in tree code texts w part s.stands.frame.gives) (text_in tree texts w part) (level_in tree w part) (most_in tree w part) (leaves done) s.stands.pc s.stands.slots) where
        pub there : operator_at code core.registers ≡ Ok (ops.Plain kinds.Exit, a.0)
        there = operator_there sc s.stands.held code (text_in tree texts w part) (level_in tree w part) s.stands.pc s.stands.slots core (ops.Plain kinds.Exit) a.0 s.stands.there a.2

        abbrev pub left : Registers
        left = record core.registers { place = a.0 }

        -- the arrays of the instance are closed
        pub shut : IsClosed (scopes_of tree) w lay img part.instance s.stands.frame.cells
        shut = closing sc w lay img s.by.arrays p i [] (length s.stands.frame.lower) s.stands.frame.mark s.stands.frame.control s.stands.frame.cells own_frame.framed

        abbrev pub after : Image
        after = ended_at img shut.rows p left

        -- the frame is the base frame
        pub below_is : core.below ≡ s.stands.frame.mark ∷ s.stands.frame.control ∷ s.stands.frame.cells
        below_is = s.stands.frame.words_are ∙ ap (λ (ws : List Word). ws ++ s.stands.frame.mark ∷ s.stands.frame.control ∷ s.stands.frame.cells) s.around.0

        pub base : frame core.registers ≡ 0
        base = frame_is tree code texts (actor_of s) ∙ ap length s.around.0

        -- it lives, so it has a state
        pub state_now : (state : ProcessState) × (numbered img.states p ≡ Some state)
        state_now = state_there (numbered img.states p) s.has.live

        -- the others
        not_system : core.registers.stack ≢ 0
        not_system e = none_some (ap (λ (n : ℕ). numbered w.processes n) (sym e ∙ s.has.own) ∙ s.at)

        pub system_stays : stack_at (closed_at img.stacks core.registers.stack) 0 ≡ stack_at img.stacks 0
        system_stays = closed_other img.stacks core.registers.stack 0 not_system

        pub others : (r : ℕ) (other : Core) → r ≢ p → HasCore img r other → HasCore after r other
        others r other apart h =
            record {
              live = ap is_live (numbered_other img.states p r Ended (λ e. apart (sym e))) ∙ h.live;
              registers = numbered_other img.regs p r left (λ e. apart (sym e)) ∙ h.registers;
              own = h.own;
              stack = closed_other img.stacks core.registers.stack other.registers.stack (λ e. apart (sym h.own ∙ sym e ∙ s.has.own)) ∙ h.stack;
              is = h.is;
            }

        -- the events of the instance are closed: those of all others lie in other stacks
        pub events_left_world : EventsAre (scopes_of tree) (with_instance w part.instance (record (instance_at w part.instance) { left = true })) lay (closed_from core.registers.stack 0 img.events)
        events_left_world =
            events_left sc w left_world lay i own_frame.framed.instance left_instance own_frame.framed.is refl refl core.registers.stack 0 img.events
            (λ j number e at other h.
            ap (λ (n : ℕ). is_from n 0 at) s.has.own
            ∙ event_outside tree code texts w lay p [] [] base_mark (base_control OUTER_LEVEL) yielding.nothing (refl, refl) j
            (elsewhere j other (subst (λ (ps : List Part). IsOwn ps j ⊎ IsElsewhere lay p j) s.todo (held_of tree code texts w lay img s.by s.ok p q s.at j h.instance h.is h.stands))) number e at h) s.by.events
          where
            none : (j : ℕ) → i ≢ j → IsOwn (part ∷ []) j → IsOwn [] j
            none j other (inl own) = absurd (other own.1)
            none j other (inr own) = own

            elsewhere : (j : ℕ) → i ≢ j → IsOwn (part ∷ []) j ⊎ IsElsewhere lay p j → IsOwn [] j ⊎ IsElsewhere lay p j
            elsewhere j other (inl own) = inl (none j other own)
            elsewhere j other (inr far) = inr far

        pub arrays_left_world : ArraysAre (scopes_of tree) (with_instance w part.instance (record (instance_at w part.instance) { left = true })) lay shut.rows
        arrays_left_world = arrays_unchanged sc (leave w (i ∷ [])) left_world lay shut.rows refl shut.are

        pub fits : left.s ≤ stack_limit
        fits = omega (arith, s.has.is.top, s.small)

        -- the machine tests whether a process depends on the base frame
        pub free_there : some_depends w.processes part.instance ≡ false → is_critical core.registers.stack (0 ∷ []) (live_criticals img.states img.regs) ≡ false
        free_there free =
            ap (λ (n : ℕ). is_critical core.registers.stack (n ∷ []) (live_criticals img.states img.regs)) (sym (ap length s.around.0))
            ∙ critical_frame tree code texts (actor_of s) owns
            ∙ free

        -- ---- without a task

        module _ (free : some_depends w.processes part.instance ≡ false) (without_task : q.task ≡ None) where
          chosen : choice sc w p ≡ record { action = End; world = w'; released = []; started = None }
          chosen = chosen_by free ∙ ap (λ (t : Option Reference). ended_releasing sc w p q part [] (caused_by_end (leave w (i ∷ [])) p t)) without_task

          -- nobody waits for others, and it waited for none
          waits_now : is_able ((process_at w p).state) ≡ true → WaitsAre sc w' lay after
          waits_now able_now =
              let nobody : (at : Place) → IsListed (waiters_at at img.events) p → ⊥ = idle_nowhere tree code texts w lay img s.by p able_now in
              waits_still sc w w' lay lay events_stay (λ j f there_is. there_is) img after s.by.waits p q q' s.at refl
              (sym (sym (ap (λ (x : Process). list_in x.state) (process_is w p q s.at)) ∙ idle_list tree code texts w lay img s.by p able_now)) refl refl refl
              (awaiting_beside img after s.by.waits.awaiting p (λ at listed. absurd (nobody at (fewer_closed core.registers.stack 0 img.events p at listed))) (λ r at other listed. fewer_closed core.registers.stack 0 img.events r at listed)
              (λ r other. numbered_other img.states p r Ended (λ e. other (sym e))) (λ r other. refl))

          pictured : is_able ((process_at w p).state) ≡ true → IsLater → PicturesBy tree code texts w' lay after
          pictured able_now after_it =
              comes_to tree code texts w lay img s.by p q s.at w' lay after q' refl (s.by.laid ∙ sym (length_set_numbered w.instances i left_instance)) (arrays_unchanged sc left_world w' lay shut.rows refl arrays_left_world)
              (events_unchanged sc left_world w' lay after.events refl events_left_world) (waits_now able_now) (alike after_it) s.by.output refl refl refl (length_set_numbered img.regs p left)
              (length_set_numbered img.states p Ended) (λ r other. numbered_other img.states p r Ended (λ e. other (sym e))) system_stays others
              (dead refl (numbered_set img.states p state_now.0 Ended state_now.1))

          idle : core.registers.task ≡ None
          idle = subst (λ (t : Option Reference). TaskIs sc w lay t core.registers.task) without_task s.task

          critical_free : is_critical core.registers.stack (0 ∷ []) (live_criticals img.states img.regs) ≡ false
          critical_free = free_there free

          table_is : table code img p ≡ outcomes.gives after
          table_is =
              gives_within code img after p left
              (exit_raw code (at_operator s.has there) s.stands.frame.mark s.stands.frame.control s.stands.frame.cells below_is s.stands.counted base shut.rows shut.changes critical_free idle)
              (numbered_set img.regs p core.registers left s.has.registers) fits

          pub ending_alone : Does tree code texts w img p
          ending_alone =
              gave after
              (action_not_plain code (ops.Plain kinds.Exit) (at_operator s.has there)
              (exit_class code (at_operator s.has there) s.stands.frame.mark s.stands.frame.control s.stands.frame.cells below_is s.stands.counted base shut.rows shut.changes critical_free))
              table_is
              (exit_action code (at_operator s.has there) s.stands.frame.mark s.stands.frame.control s.stands.frame.cells below_is s.stands.counted base shut.rows shut.changes critical_free after table_is
              ∙ ap (λ (c : Choice). Some c.action) (sym chosen))
              (λ may. subst (λ (c : Choice). Pictures tree code texts c.world after) (sym chosen) (lay, pictured may.able (after_choice sc w w' p q facts may s.at (ap (λ (c : Choice). c.world) chosen))))
