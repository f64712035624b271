-- The end of a process that has a task: its last part is left, the event of its task is caused, and who waits for that is able again.
use Rattle.algol_standing.proofs.Pairs.{stack_back}
use Rattle.b67_list.proofs.Numbered.{numbered_same, numbered_set}
use Rattle.b67_list.proofs.Truths.{true_false}
use Rattle.b67_pictures.proofs.Deeds.{waiting_not_able}
use Rattle.std.proofs.Common.{◌≡◌, ◌≢◌, ◌⊎◌, inl, inr, refl, sym, ap, ◌∙◌, subst, ℕ, ◌+◌, List, [], ◌∷◌, length, Option, Some, None, true, false, arith, Bool}
use Rattle.b67_pictures.proofs.Prelude.{option_map, if◌then◌else◌, numbered, set_numbered, EventState, caused, IsListed, End, block_numbered, PProgram, Scopes, scopes_of, leaves, ask, Choice, choice, ended_releasing, some_depends, is_evaluation, own_instances, event_at, set_event, caused_by_end, list_in, all_withdrawn, leave, done, Reference, event, NamedCell, Instance, Process, Part, is_able, lives, World, instance_at, or_no_instance, process_at, with_process, cell_in, cell_at, event_in, cells_with, set_all_able, stack_forth, IsInSkeleton, Stack, WaitersAreListed, IsOwn, IsStanding, IsOnPath, referred_in_cells, newest_own, stack_of, Place, Code, same_place_true, same_place_self, Event, waiters_at, closed_from, event_changed, with_state, list_of, place, Image, is_critical, Outcome, live_criticals, able_again, told_positions, ProcessState, Ended, registers_releases, released_by, releases, made_base, Texts, ActionAt, Core, HasCore, length_set_numbered, some_same, at_operator, same_or_not, numbered_other, IsSameBut, action_not_plain, arrays_unchanged, FramesClose, events_unchanged, exit_class, exit_action, HasFacts, facts_of, StandOn, OwnCells, framed_cells, OwnEvent, known_event, event_there, EventsAre, AreLaid, all_laid, Found, found_laid, find, numbered_swap, idle_list, idle_nowhere, LeavesAlone, alike_but, OutmostActor, process_is, gives_within, text_in, level_in, context_in, most_in, stored_world, others_at, same_of, stored_on, changed, CellStore, others_stored, EventsStay, event_stays, waits_still, awaiting_beside, fewer_closed, own_listed, IsEventAt, Pictured, dead, Pictures, PicturesBy, ListIs, WaitsAre, MayAct, Does, gave}
use Rattle.algol_standing.specs.Skeleton as skeletons
use Rattle.b67_events.specs.Events as kernel
use Rattle.b67_ops.specs.declared.Operator.TheVariants as ops
use Rattle.b67_ops.specs.declared.PlainKind.TheVariants as kinds
use Rattle.b67_table.specs.Outcome as outcomes
use Rattle.b67_table.specs.Table.{table}
use Rattle.b67_scenes.proofs.EventThere as there
use Rattle.b67_scenes.proofs.Freeing.{able_beside}
use Rattle.b67_scenes.proofs.Kept.{pictured_alike}
use Rattle.b67_scenes.proofs.Stage.{comes_by}
use Rattle.b67_scenes.proofs.TaskStanding.{TaskStands, task_stands}
use Rattle.b67_scenes.proofs.Tasks as tasks
use Rattle.b67_pictures.proofs.Alone as alone
use Rattle.b67_pictures.proofs.Alone.{IsAfter, free_still}
use Rattle.b67_pictures.proofs.Changing.{refers_fewer}
use Rattle.b67_pictures.proofs.EventLow.{event_low, event_was_low}
use Rattle.b67_pictures.proofs.LeftInstances.{keeps_left}
use Rattle.b67_pictures.proofs.Ending as ending
use Rattle.b67_pictures.proofs.EndReleases.{caused_at, caused_raw, end_releases, ExitsLast}
use Rattle.b67_pictures.proofs.EventMoving.{IsOwned}
use Rattle.b67_pictures.proofs.Walking.{changed_there}
use Rattle.b67_pictures.proofs.SameShape.{IsSameShape, shape_back, after_shape, event_moves, states_self, stays_shape}
use Rattle.b67_pictures.proofs.Waiters.{among_each, owner_lives, owned_standing, WaitsHere, waits_here}
use Rattle.b67_pictures.proofs.LettingGo.{stay_events, list_events, Waiter, IsWaiter, let_go_all, let_go_beside, let_go_is, let_go_all_shape, all_gone}

-- ---- lists

module _ (tree : PProgram) (code : Code) (texts : Texts) (closing : FramesClose) (actor : OutmostActor tree code texts) where
  open actor use {w, lay, img, p, q, part, core, s}

  -- The outermost part has nothing more to do, no process depends on it, and it has a task, whose event lies there.
  pub record EndsWithTask : Type 0 where
    pub owns : is_evaluation part.purpose ≡ false
    pub alive : lives q.state ≡ true
    pub free : some_depends w.processes part.instance ≡ false
    pub reference : Reference
    pub has_task : q.task ≡ Some reference
    pub task : Place
    pub tasked : core.registers.task ≡ Some task
    pub event_there : IsEventAt (scopes_of tree) w lay reference task
    pub asks : ask part.rest ≡ leaves done
    pub action : ActionAt (scopes_of tree) (context_in tree code texts w part s.stands.frame.gives) (text_in tree texts w part) (level_in tree w part) (most_in tree w part) (leaves done) s.stands.pc s.stands.slots

  module _ (ends_so : EndsWithTask) where
    open ends_so use {owns, alive, free, reference as r, has_task, task, tasked, event_there as e, asks, action as a}

    abbrev sc : Scopes
    sc = scopes_of tree

    abbrev i : ℕ
    i = part.instance

    -- the instance of the event
    abbrev j : ℕ
    j = r.instance

    abbrev q' : Process
    q' = ending.q' tree code texts closing actor owns

    -- the world in which the last instance is left, and the image in which the process has ended
    abbrev v : World
    v = ending.left_world tree code texts closing actor owns

    abbrev before : Image
    before = ending.after tree code texts closing actor owns asks a

    same : (k : ℕ) → IsSameBut (instance_at v k) (instance_at w k)
    same = ending.same_but_left tree code texts closing actor owns

    -- ---- where the event is

    t : TaskStands sc w s.ok q r
    t = task_stands sc w s.ok p q s.at alive r has_task

    h : Found tree code texts w lay img j
    h = find tree code texts w lay img s.by s.ok j t.stands

    abbrev high : ℕ
    high = length h.lies.frame.lower

    abbrev x : Instance
    x = h.lies.owned.framed.instance

    own_before : OwnCells sc w lay j x
    own_before = subst (λ (k : ℕ). OwnCells sc w lay k x) h.lies.instance_is (framed_cells sc w lay h.lies.owned.framed)

    -- it is older than the instance that is left
    apart : i ≢ j
    apart e = absurd (omega (arith, t.older i (subst (λ (ps : List Part). IsOwn ps i) (sym s.todo) (inl (owns, refl))), e))

    left_there : numbered w.instances i ≡ Some (ending.own_frame tree code texts closing actor owns).framed.instance
    left_there = (ending.own_frame tree code texts closing actor owns).framed.is

    x_is : numbered v.instances j ≡ Some x
    x_is = numbered_other w.instances i j (record (instance_at w i) { left = true }) apart ∙ own_before.is

    here : instance_at v j ≡ x
    here = ap or_no_instance x_is

    laid : numbered lay.places j ≡ Some (place h.number high)
    laid = found_laid tree code texts w lay img j h

    abbrev own_cells : OwnCells sc v lay j x
    own_cells =
        record {
          is = x_is;
          stands = own_before.stands;
          simple = own_before.simple;
          values = own_before.values;
          simple_are = own_before.simple_are;
          arrays = own_before.arrays;
          declared = own_before.declared;
          later = own_before.later;
          order = own_before.order;
          descriptors = own_before.descriptors;
          made = own_before.made;
          has = own_before.has;
        }

    abbrev number : ℕ
    number = e.made.number

    found_before : OwnEvent sc w lay j x own_before r.name e.made.number
    found_before = known_event sc w lay j x own_before r.name e.made

    abbrev found : OwnEvent sc v lay j x own_cells r.name e.made.number
    found =
        record {
          cell = found_before.cell;
          lies = found_before.lies;
          there = found_before.there;
          changed = found_before.changed;
          behind = found_before.behind;
          changed_behind = found_before.changed_behind;
          means = found_before.means;
          declares = found_before.declares;
          has = found_before.has;
        }

    -- at the place of the task
    abbrev at : Place
    at = place h.number (high + (made_base sc (block_numbered sc.blocks x.block) + number))

    task_is : task ≡ at
    task_is =
        e.at_is
        ∙ ap (λ (f : Place). place f.stack (f.at + (made_base sc (block_numbered sc.blocks ((instance_at w j).block)) + number))) (some_same (sym e.laid ∙ laid))
        ∙ ap (λ (b : ℕ). place h.number (high + (made_base sc (block_numbered sc.blocks b) + number))) (sym (same j).block ∙ ap (λ (z : Instance). z.block) here)

    -- ---- the event

    abbrev c : EventState
    c = found.cell

    abbrev later : EventState
    later = caused c

    means : cell_at v r ≡ event c
    means = ap (λ (z : Instance). cell_in z.cells r.name) here ∙ found.means

    event_is : event_at v r ≡ c
    event_is = ap event_in means

    abbrev open_events : List Event
    open_events = closed_from core.registers.stack 0 img.events

    open_before : EventsAre sc v lay open_events
    open_before = ending.events_left_world tree code texts closing actor owns asks a

    open_as : kernel.event_at task open_events ≡ Some (event_there at c)
    open_as =
        ap (λ (y : Place). kernel.event_at y open_events) task_is
        ∙ open_before.are_open j number c at (there.has_event sc v lay j x own_cells r.name e.made.number found later (place h.number high) laid)

    waiters_there : waiters_at task open_events ≡ c.waiters
    waiters_there = ap (λ (z : Option Event). (kernel.state_of z).waiters) open_as

    -- ---- who waits for it

    listed : WaitersAreListed w r c
    listed = s.ok.sound.listed r c t.stands (ap (λ (cells : List NamedCell). cell_in cells r.name) (sym (same j).cells) ∙ means)

    waiter_apart : is_able ((process_at w p).state) ≡ true → IsListed c.waiters p → ⊥
    waiter_apart able_now is = true_false able_now (waiting_not_able ((process_at w p).state) r (listed.waiters p is))

    -- ---- the world

    abbrev stored : World
    stored = stored_world v j x own_cells.is (cells_with x.cells r.name (event later))

    abbrev w' : World
    w' = with_process stored p q'

    world_is : set_event v r later ≡ stored
    world_is = there.event_world sc v lay j x own_cells r.name e.made.number found later

    abbrev choice_by : EventState → Choice
    choice_by y = ended_releasing sc w p q part [] (record { world = set_all_able (all_withdrawn (set_event v r (caused y)) r y.waiters) y.waiters; processes = y.waiters })

    chosen : choice sc w p ≡ record { action = End; world = with_process (set_all_able (all_withdrawn (set_event v r later) r c.waiters) c.waiters) p q'; released = c.waiters; started = None }
    chosen =
        ending.chosen_by tree code texts closing actor owns asks free
        ∙ ap (λ (o : Option Reference). ended_releasing sc w p q part [] (caused_by_end (leave w (i ∷ [])) p o)) has_task
        ∙ ap choice_by event_is

    -- ---- the picture before they are released

    abbrev now : Image
    now = record before { events = event_changed at (with_state caused) open_events }

    same_core : (m : ℕ) (k : Core) → HasCore before m k → HasCore now m k
    same_core m k has = record { live = has.live; registers = has.registers; own = has.own; stack = has.stack; is = has.is }

    -- first the event becomes the other one
    abbrev u : World
    u = stored_world w j x own_before.is (cells_with x.cells r.name (event later))

    facts : HasFacts w
    facts = facts_of sc w s.ok

    laid_before : AreLaid w lay
    laid_before = all_laid w lay facts s.by.laid

    fewer : (k : ℕ) → IsInSkeleton (referred_in_cells (cells_with x.cells r.name (event later))) k → IsInSkeleton (referred_in_cells x.cells) k
    fewer = refers_fewer x.cells r.name (event later) refl

    abbrev store : CellStore tree w lay h.number
    store = record {
      i = j;
      x = x;
      at = own_before.is;
      with_cells = cells_with x.cells r.name (event later);
      high = high;
      laid = laid;
      far = 0;
      up = high + 2 + 0;
      place_is = refl;
      word = None;
      many = there.as_many sc w lay j x own_before r.name e.made.number found_before later;
      short = λ set. absurd set;
      keeps = there.event_keeps sc w lay j x own_before r.name e.made.number found_before later;
      facts = facts;
      fewer = fewer;
      changes = there.cells_changed sc w lay j x own_before r.name e.made.number found_before later;
    }

    on_first : StandOn sc w u lay lay
    on_first =
        stored_on tree code texts w lay h.number store

    alone_first : (m : ℕ) → LeavesAlone sc w u lay lay m
    alone_first m =
        record {
          laid = laid_before;
          on = on_first;
          depends = λ k o older is newest none. none;
          lows = λ k y is mine stands low. event_low sc w j x own_before.is r.name found_before.cell later found_before.means k low;
        }

    same_process : with_process u p q ≡ u
    same_process = ap (λ (qs : List Process). record u { processes = qs }) (numbered_same w.processes p q s.at)

    pictured_first : (m : ℕ) (o : Process) → m ≢ p → numbered w.processes m ≡ Some o → Pictured tree code texts w lay img m o → Pictured tree code texts u lay img m o
    pictured_first m o other there_is pictured =
        subst (λ (z : World). Pictured tree code texts z lay img m o) same_process
        (others_stored tree code texts w lay h.number store p q
        (λ k apart_k. subst (λ (z : World). LeavesAlone sc w z lay lay k) (sym same_process) (alone_first k)) img img (mine_there ∙ h.lies.owned.framed.own)
        (λ y y_is. subst (λ (z : Process). IsOwn z.todo j) (some_same (sym h.is ∙ y_is)) (subst (λ (ps : List Part). IsOwn ps j) (sym h.todo) h.own)) (λ k has set. absurd set)
        (λ k has. has) (λ n k far apart_n has. has) (λ k apart_k. refl) m o other there_is (ap (λ (qs : List Process). numbered qs m) (numbered_same w.processes p q s.at) ∙ there_is) pictured)
      where
        mine_there : x.process ≡ x.process
        mine_there = refl

    -- then the last instance is left, and the process has ended
    same_instances : w'.instances ≡ set_numbered u.instances i (record (instance_at w i) { left = true })
    same_instances = numbered_swap w.instances i j (record (instance_at w i) { left = true }) (changed w j x own_before.is (cells_with x.cells r.name (event later))) apart

    left_in_u : numbered u.instances i ≡ Some (ending.own_frame tree code texts closing actor owns).framed.instance
    left_in_u = others_at w j x own_before.is (cells_with x.cells r.name (event later)) i apart ∙ left_there

    same_then : (k : ℕ) → IsSameBut (instance_at w' k) (instance_at u k)
    same_then k = by_number (same_or_not k i)
      where
        gone_there : instance_at w i ≡ instance_at u i
        gone_there = ap or_no_instance (sym (others_at w j x own_before.is (cells_with x.cells r.name (event later)) i apart))

        left_now : instance_at w' i ≡ record (instance_at w i) { left = true }
        left_now = ap (λ (xs : List Instance). or_no_instance (numbered xs i)) same_instances ∙ ap or_no_instance (numbered_set u.instances i (ending.own_frame tree code texts closing actor owns).framed.instance (record (instance_at w i) { left = true }) left_in_u)

        by_number : (k ≡ i) ⊎ (k ≢ i) → IsSameBut (instance_at w' k) (instance_at u k)
        by_number (inl same_k) =
            subst (λ (m : ℕ). IsSameBut (instance_at w' m) (instance_at u m)) (sym same_k)
            (record {
              block = ap (λ (z : Instance). z.block) left_now ∙ ap (λ (z : Instance). z.block) gone_there;
              parent = ap (λ (z : Instance). z.parent) left_now ∙ ap (λ (z : Instance). z.parent) gone_there;
              cells = ap (λ (z : Instance). z.cells) left_now ∙ ap (λ (z : Instance). z.cells) gone_there;
            })
        by_number (inr other_k) =
            let still : instance_at w' k ≡ instance_at u k =
            ap (λ (xs : List Instance). or_no_instance (numbered xs k)) same_instances
            ∙ ap or_no_instance (numbered_other u.instances i k (record (instance_at w i) { left = true }) (λ same_k. other_k (sym same_k))) in
            record { block = ap (λ (z : Instance). z.block) still; parent = ap (λ (z : Instance). z.parent) still; cells = ap (λ (z : Instance). z.cells) still }

    -- the same instances stand as before the event became another one, and the same paths lead from them
    stood : (k : ℕ) → IsStanding u k → IsStanding w k
    stood k st = record { number = st.number; stack = st.stack; is = st.is; inside = st.inside }

    path_was : (k m : ℕ) → IsOnPath u k m → IsOnPath w k m
    path_was k m skeletons.here = skeletons.here
    path_was k m (skeletons.down {b = l} n path) = skeletons.down (record { number = n.number; stack = n.stack; is = n.is; next = n.next }) (path_was l m path)

    -- who waits then waited before, for another event
    waited_before : (m : ℕ) (to : Place) → IsListed (waiters_at to now.events) m → IsListed (waiters_at to img.events) m × (to ≢ task)
    waited_before m to m_listed = by_place (kernel.same_place at to) refl (subst (λ (z : Option Event). IsListed (kernel.state_of z).waiters m) (changed_there at to caused open_events) m_listed)
      where
        by_place : (b : Bool) → kernel.same_place at to ≡ b → IsListed (kernel.state_of (if b then option_map (with_state caused) (kernel.event_at to open_events) else kernel.event_at to open_events)).waiters m →
            IsListed (waiters_at to img.events) m × (to ≢ task)
        by_place true same_at l =
            let to_is : task ≡ to = task_is ∙ same_place_true at to same_at in
            absurd (subst (λ (z : Option Event). IsListed (kernel.state_of (option_map (with_state caused) z)).waiters m) (ap (λ (z : Place). kernel.event_at z open_events) (sym to_is) ∙ open_as) l)
        by_place false other l = (
          fewer_closed core.registers.stack 0 img.events m to l,
          λ (z : to ≡ task). let clash : false ≡ true = sym other ∙ same_place_self at to (sym (z ∙ task_is)) in cc,
        )

    abbrev stopped : World
    stopped = with_process v p q'

    stay_first : EventsStay w stopped
    stay_first = ending.events_stay tree code texts closing actor owns

    caused_shape : IsSameShape stopped (with_process (set_event v r later) p q')
    caused_shape = record { instances = event_moves v r c later means; processes = states_self (set_numbered v.processes p q') }

    stay_then : EventsStay w (with_process (set_event v r later) p q')
    stay_then k name z z_is =
        let one = stay_first k name z z_is in
        let two = stays_shape stopped (with_process (set_event v r later) p q') caused_shape k name one.1.0 one.1.1 in
        (two.0 ∙ one.0, two.1)

    waits_now : is_able ((process_at w p).state) ≡ true → WaitsAre sc w' lay now
    waits_now able_now =
        subst (λ (z : World). WaitsAre sc (with_process z p q') lay now) world_is
        (waits_still sc w (with_process (set_event v r later) p q') lay lay stay_then (λ k f there_is. there_is) img now s.by.waits p q q' s.at refl
        (sym idle_so) refl refl refl
        (awaiting_beside img now s.by.waits.awaiting p (λ to m_listed. absurd (idle_nowhere tree code texts w lay img s.by p able_now to (waited_before p to m_listed).0)) (λ m to other m_listed. (waited_before m to m_listed).0)
        (λ m other. numbered_other img.states p m Ended (λ same_p. other (sym same_p))) (λ m other. refl)))
      where
        idle_so : list_in q.state ≡ []
        idle_so = ap (λ (z : Process). list_in z.state) (sym (process_is w p q s.at)) ∙ idle_list tree code texts w lay img s.by p able_now

    module _ (after_it : IsAfter sc w w' p) where
      on_then : StandOn sc u w' lay lay
      on_then =
          record {
            before = on_first.after;
            after = after_it.climb.facts;
            keeps = λ k st later. keeps_left sc u w' lay k (same_then k);
            places = λ k f there_is. there_is;
            paths = λ k m st later path. after_it.paths k m (stood k st) later (path_was k m path);
          }

      alone_then : (m : ℕ) → m ≢ p → LeavesAlone sc u w' lay lay m
      alone_then m other =
          record {
            laid = λ k st. laid_before k (stood k st);
            on = on_then;
            depends = λ k o older is newest none. free_still w.processes w'.processes k (ending.dependent tree code texts closing actor owns) none;
            lows = λ k y is mine stands low.
                after_it.lows k (stood k (on_first.after.stands k y is stands))
                (λ same_p. other (sym mine ∙ ap (λ (z : Instance). z.process) (sym (ap or_no_instance is)) ∙ sym (same_of w j x own_before.is (cells_with x.cells r.name (event later)) (λ (z : Instance). z.process) refl k) ∙ same_p))
                (event_was_low sc w j x own_before.is r.name found_before.cell later found_before.means k low);
          }

      others_now : (m : ℕ) (o : Process) → m ≢ p → numbered w.processes m ≡ Some o → numbered w'.processes m ≡ Some o → Pictured tree code texts w lay img m o → Pictured tree code texts w' lay now m o
      others_now m o other there_is now_is pictured =
          pictured_alike tree code texts u w' lay lay m
          (alike_but sc u w' lay m i (ending.own_frame tree code texts closing actor owns).framed.instance (record (instance_at w i) { left = true }) (alone_then m other) left_in_u
          (λ (same_m : m ≡ (ending.own_frame tree code texts closing actor owns).framed.instance.process). other (same_m ∙ (ending.own_frame tree code texts closing actor owns).framed.own)) same_instances (tasks.events_left u w' same_then)) img now o there_is
          (process_is w' m o now_is) (numbered_other img.states p m Ended (λ (same_p : p ≡ m). other (sym same_p)))
          (λ k has. same_core m k (ending.others tree code texts closing actor owns asks a m k other has)) (pictured_first m o other there_is pictured)

      pictured_now : is_able ((process_at w p).state) ≡ true → PicturesBy tree code texts w' lay now
      pictured_now able_now =
          comes_by tree code texts w lay img s.by p q s.at w' lay now q' refl
          (s.by.laid ∙ sym (length_set_numbered w.instances i _) ∙ sym (length_set_numbered v.instances j (changed v j x own_cells.is (cells_with x.cells r.name (event later)))))
          (arrays_unchanged sc stored w' lay before.rows refl
          (there.arrays_after sc v lay j x own_cells r.name e.made.number found later before.rows (ending.arrays_left_world tree code texts closing actor owns asks a)))
          (events_unchanged sc stored w' lay now.events refl
          (there.events_after sc v lay j x own_cells r.name e.made.number found later (place h.number high) laid (with_state caused) (λ z. refl) refl open_events open_before))
          (waits_now able_now) s.by.output refl refl refl (length_set_numbered img.regs p _) (length_set_numbered img.states p Ended) (ending.system_stays tree code texts closing actor owns asks a) others_now
          (dead refl (numbered_set img.states p (ending.state_now tree code texts closing actor owns asks a).0 Ended (ending.state_now tree code texts closing actor owns asks a).1))

      pictured_caused : is_able ((process_at w p).state) ≡ true → PicturesBy tree code texts (with_process (set_event v r later) p q') lay now
      pictured_caused able_now = subst (λ (u : World). PicturesBy tree code texts (with_process u p q') lay now) (sym world_is) (pictured_now able_now)

    -- ---- who is released

    waiter : (k : ℕ) → IsListed c.waiters k → WaitsHere tree code texts w lay img s.by s.ok r task k
    waiter k m = waits_here tree code texts w lay img s.by s.ok r task e k (listed.waiters k m)

    abbrev caused_world : World
    caused_world = with_process (set_event v r later) p q'

    still_there : (IsListed c.waiters p → ⊥) → (k : ℕ) → IsListed c.waiters k → (o : Process) → numbered w.processes k ≡ Some o → numbered caused_world.processes k ≡ Some o
    still_there none k m o is = numbered_other w.processes p k q' (λ (same_p : p ≡ k). none (subst (IsListed c.waiters) (sym same_p) m)) ∙ is

    waiters_then : (IsListed c.waiters p → ⊥) → (k : ℕ) → IsListed c.waiters k → Waiter caused_world k
    waiters_then none k m =
        let o : WaitsHere tree code texts w lay img s.by s.ok r task k = waiter k m in
        record {
          process = o.process;
          is = still_there none k m o.process o.is;
          alive = o.alive;
          events = stay_events w caused_world stay_then (list_in (o.process).state)
              (list_events sc w lay (list_in (o.process).state) (list_of k img.lists) (subst (λ (z : Process). ListIs sc w lay (list_in z.state) (list_of k img.lists)) (process_is w k o.process o.is) (s.by.waits.lists k)));
        }

    shape_then : (IsListed c.waiters p → ⊥) → IsSameShape caused_world (let_go_all caused_world r c.waiters)
    shape_then none = let_go_all_shape c.waiters caused_world r listed.once_waiting (waiters_then none)

    -- what stands then is owned by another process that lives
    owned_then : (k : ℕ) → IsStanding caused_world k → IsOwned caused_world k
    owned_then k st = by (stack_back caused_world st.number st.stack st.is)
      where
        by_process : (y : Process) → numbered caused_world.processes st.number ≡ Some y → IsInSkeleton (own_instances y.todo) k → (p ≡ st.number) ⊎ (p ≢ st.number) → IsOwned caused_world k
        by_process y is inside (inl same_p) =
            let ended_one : q' ≡ y = some_same (sym (numbered_set w.processes p q q' s.at) ∙ ap (λ (n : ℕ). numbered caused_world.processes n) same_p ∙ is) in
            absurd (subst (λ (z : Process). IsInSkeleton (own_instances z.todo) k) (sym ended_one) inside)
        by_process y is inside (inr other) =
            let before_is : numbered w.processes st.number ≡ Some y = sym (numbered_other w.processes p st.number q' other) ∙ is in
            record { number = st.number; process = y; is = is; alive = owner_lives tree code texts w lay img s.by s.ok st.number y before_is k inside; own = own_listed y.todo k inside }

        by : ((st.stack.own ≡ []) × (st.stack.evaluations ≡ []) × (st.stack.live ≡ false)) ⊎ ((y : Process) × (numbered caused_world.processes st.number ≡ Some y) × (st.stack ≡ stack_of y)) → IsOwned caused_world k
        by (inl f) = absurd (subst (λ (ks : List ℕ). IsInSkeleton ks k) f.0 st.inside)
        by (inr f) = by_process f.0 f.1 (subst (λ (z : Stack). IsInSkeleton z.own k) f.2 st.inside) (same_or_not p st.number)

    waits_then : (IsListed c.waiters p → ⊥) → IsAfter sc w caused_world p → (k : ℕ) → IsListed c.waiters k → IsWaiter tree code texts lay caused_world now k
    waits_then none after_it k m =
        let o : WaitsHere tree code texts w lay img s.by s.ok r task k = waiter k m in
        let top : ℕ = newest_own (o.process).todo in
        let stands_before : IsStanding w top = record { number = k; stack = stack_of o.process; is = stack_forth w k o.process o.is; inside = o.inside } in
        let stands_now : IsStanding caused_world top = record { number = k; stack = stack_of o.process; is = stack_forth caused_world k o.process (still_there none k m o.process o.is); inside = o.inside } in
        record {
          process = o.process;
          is = still_there none k m o.process o.is;
          alive = o.alive;
          owned = among_each caused_world (list_in (o.process).state) (list_in (o.process).state) (λ z among. among)
              (λ z among. owned_then z.instance (after_it.climb.facts.on_path top z.instance stands_now (after_it.paths top z.instance stands_before stands_now (o.paths z among))));
          within = λ to m_listed. let was = waited_before k to m_listed in o.within to was.1 was.0;
        }

    lies_then : IsEventAt sc caused_world lay r task
    lies_then = event_stays sc w caused_world lay lay stay_then (λ k f there_is. there_is) r task e

    task_owned : IsOwned caused_world r.instance
    task_owned = by_number (owned_standing tree code texts w lay img s.by s.ok j t.stands)
      where
        by_number : IsOwned w j → IsOwned caused_world j
        by_number o =
            record {
              number = o.number;
              process = o.process;
              is = numbered_other w.processes p o.number q' (λ (same_p : p ≡ o.number). absurd (omega (arith, t.older j (subst (λ (z : Process). IsOwn z.todo j) (some_same (sym o.is ∙ ap (numbered w.processes) (sym same_p) ∙ s.at)) o.own)))) ∙ o.is;
              alive = o.alive;
              own = o.own;
            }

    -- ---- and after

    critical_free : is_critical core.registers.stack (0 ∷ []) (live_criticals img.states img.regs) ≡ false
    critical_free = ending.free_there tree code texts closing actor owns asks a free

    abbrev exits : ExitsLast img core
    exits = record {
      mark = s.stands.frame.mark;
      control = s.stands.frame.control;
      cells = s.stands.frame.cells;
      below = ending.below_is tree code texts closing actor owns asks a;
      counted = s.stands.counted;
      base = ending.base tree code texts closing actor owns asks a;
      rows = (ending.shut tree code texts closing actor owns asks a).rows;
      closed = (ending.shut tree code texts closing actor owns asks a).changes;
      free = critical_free;
      task = task;
      tasked = tasked;
    }

    abbrev after : Image
    after =
        caused_at code (at_operator s.has (ending.there tree code texts closing actor owns asks a)) exits

    abbrev image_by : Place → List ℕ → List ProcessState → Image
    image_by y ws states =
        record before {
          events = kernel.withdrawn ws (event_changed y (with_state caused) open_events);
          lists = kernel.unlisted ws img.lists;
          states = states;
          numbers = told_positions task img.lists ws img.numbers;
        }

    -- the machine releases them before it ends the process
    after_is : (IsListed c.waiters p → ⊥) → image_by at c.waiters (able_again c.waiters now.states) ≡ after
    after_is none =
        ap (image_by at c.waiters) (able_beside c.waiters p Ended img.states none)
        ∙ ap (λ (ws : List ℕ). image_by at ws (set_numbered (able_again ws img.states) p Ended)) (sym waiters_there)
        ∙ ap (λ (y : Place). image_by y (waiters_at task open_events) (set_numbered (able_again (waiters_at task open_events) img.states) p Ended)) (sym task_is)

    abbrev final : World
    final = with_process (set_all_able (all_withdrawn (set_event v r later) r c.waiters) c.waiters) p q'

    final_is : (IsListed c.waiters p → ⊥) → let_go_all caused_world r c.waiters ≡ final
    final_is none =
        let_go_beside c.waiters (set_event v r later) r p q' none ∙ ap (λ (z : World). with_process z p q') (sym (let_go_is c.waiters (set_event v r later) r listed.once_waiting))

    after_caused : MayAct sc w p → IsAfter sc w caused_world p
    after_caused may =
        after_shape sc w final caused_world p (alone.after_choice sc w final p q facts may s.at (ap (λ (y : Choice). y.world) chosen))
        (shape_back caused_world final (subst (λ (z : World). IsSameShape caused_world z) (final_is (waiter_apart may.able)) (shape_then (waiter_apart may.able))))

    after_so : MayAct sc w p → IsAfter sc w w' p
    after_so may = subst (λ (z : World). IsAfter sc w (with_process z p q') p) world_is (after_caused may)

    pictured : MayAct sc w p → PicturesBy tree code texts final lay after
    pictured may =
        subst (λ (z : World). PicturesBy tree code texts z lay after) (final_is (waiter_apart may.able))
        (subst (λ (z : Image). PicturesBy tree code texts (let_go_all caused_world r c.waiters) lay z) (after_is (waiter_apart may.able))
        (all_gone tree code texts lay c.waiters caused_world now (pictured_caused (after_so may) may.able) (after_caused may).climb.facts r task lies_then task_owned listed.once_waiting (waits_then (waiter_apart may.able) (after_caused may))
        img.lists (λ k m. refl)))

    table_is : table code img p ≡ outcomes.gives after
    table_is =
        gives_within code img after p (record core.registers { place = a.0 })
        (caused_raw code (at_operator s.has (ending.there tree code texts closing actor owns asks a)) exits)
        (numbered_set img.regs p core.registers (record core.registers { place = a.0 }) s.has.registers) (ending.fits tree code texts closing actor owns asks a)

    pub ending_with_task : Does tree code texts w img p
    ending_with_task =
        gave after
        (action_not_plain code (ops.Plain kinds.Exit) (at_operator s.has (ending.there tree code texts closing actor owns asks a))
        (exit_class code (at_operator s.has (ending.there tree code texts closing actor owns asks a)) s.stands.frame.mark s.stands.frame.control s.stands.frame.cells
        (ending.below_is tree code texts closing actor owns asks a) s.stands.counted (ending.base tree code texts closing actor owns asks a)
        (ending.shut tree code texts closing actor owns asks a).rows (ending.shut tree code texts closing actor owns asks a).changes critical_free))
        table_is
        (exit_action code (at_operator s.has (ending.there tree code texts closing actor owns asks a)) s.stands.frame.mark s.stands.frame.control s.stands.frame.cells
        (ending.below_is tree code texts closing actor owns asks a) s.stands.counted (ending.base tree code texts closing actor owns asks a)
        (ending.shut tree code texts closing actor owns asks a).rows (ending.shut tree code texts closing actor owns asks a).changes critical_free after table_is
        ∙ ap (λ (y : Choice). Some y.action) (sym chosen))
        (λ may. subst (λ (y : Choice). Pictures tree code texts y.world after) (sym chosen) (lay, pictured may))

    -- it releases whom the source does
    pub end_frees : releases code img p ≡ (choice (scopes_of tree) w p).released
    end_frees =
        ap (λ (o : Outcome Image). released_by o (registers_releases code img p (numbered img.regs p))) table_is
        ∙ end_releases code (at_operator s.has (ending.there tree code texts closing actor owns asks a)) exits
        ∙ waiters_there
        ∙ sym (ap (λ (y : Choice). y.released) chosen)
