-- The picture with a process more, which begins with an instance of its own: the process that has started it goes on, and all others are pictured as
-- they were.
use Rattle.std.proofs.Common.{◌≡◌, ◌≢◌, ◌⊎◌, inl, inr, refl, sym, ap, ◌∙◌, subst, ℕ, ◌+◌, ◌<◌, ◌≤◌, List, [], ◌∷◌, ◌++◌, length, Option, Some, None, true, arith, length-append}
use Rattle.b67_list.proofs.Numbered.{numbered_set}
use Rattle.b67_scenes.proofs.Prelude.{numbered, set_numbered, IsListed, PProgram, Scopes, scopes_of, list_in, Instance, Process, able, lives, World, no_process, or_no_process, process_at, Word, Place as MachinePlace, Registers, Code, stack_at, Event, waiters_at, list_of, numbered_within, place, Image, woken_number, most_processes, AwaitsAt, ProcessState, Able, Texts, Core, HasCore, length_set_numbered, some_same, same_or_not, numbered_other, rows_but, rows_other, Layout, ArraysAre, EventsAre, Living, Pictured, living, PicturesBy, StateIs, AreAwaiting, WaitsAre}
use Rattle.b67_rows.proofs.Begun.{with_process, numbered_else, begun_state, others_stay, other_state, system_kept}
use Rattle.b67_rows.proofs.Growing.{numbered_last, numbered_before, numbered_earlier}
use Rattle.b67_scenes.proofs.Kept.{LeavesAlone, AreAlike, pictured_alike}
use Rattle.b67_scenes.proofs.Tasks.{state_stays, events_before}
use Rattle.b67_scenes.proofs.Waiting.{number_by, no_number, number_is, waits_kept, awaiting_beside}
use Rattle.b67_scenes.proofs.Stage.{process_is}

-- the world with an instance and a process more, where the one that starts it goes on
abbrev pub started_world : World → ℕ → Process → Instance → Process → World
started_world w p q made new = record w { instances = w.instances ++ made ∷ []; processes = set_numbered w.processes p q ++ new ∷ [] }

-- the instance has its frame at the bottom of the new stack, and has no rows
abbrev pub started_layout : World → Layout → Layout
started_layout w lay = record { places = lay.places ++ place (length w.processes + 1) 0 ∷ []; rows = rows_but lay.rows (length w.instances + 1) [] }

-- what was there keeps its rows
pub rows_before : (w : World) (lay : Layout) (i : ℕ) (x : Instance) → numbered w.instances i ≡ Some x → rows_but lay.rows (length w.instances + 1) [] i ≡ lay.rows i
rows_before w lay i x e =
    rows_other lay.rows (length w.instances + 1) [] i (λ (same : i ≡ length w.instances + 1). let low : i ≤ length w.instances = numbered_within w.instances i x e in omega (arith, same, low))

-- the instances of others are the same
pub others_alike : (sc : Scopes) (w : World) (lay : Layout) (p : ℕ) (q : Process) (made : Instance) (new : Process) (k : ℕ) → LeavesAlone sc w (started_world w p q made new) lay (started_layout w lay) k →
    AreAlike sc w (started_world w p q made new) lay (started_layout w lay) k
others_alike sc w lay p q made new k alone =
    record {
      alone = alone;
      own = λ i x e own. numbered_before w.instances (made ∷ []) i x e;
      rows = λ i x e own. rows_before w lay i x e;
      events = events_before w (started_world w p q made new) (λ i x e. numbered_before w.instances (made ∷ []) i x e);
    }

-- there is nothing past the end
past_end : {A : Type 0} (xs : List A) (n : ℕ) → n ≡ length xs + 1 → numbered xs n ≡ None
past_end {A} xs n newest = found (numbered xs n) refl
  where
    found : (o : Option A) → numbered xs n ≡ o → numbered xs n ≡ None
    found None e = e
    found (Some x) e = let low : n ≤ length xs = numbered_within xs n x e in absurd (omega (arith, newest, low))

-- In the image in which the one has gone on, all else is as it was, and each process has its registers.
pub record HasGoneOn (w : World) (img onward : Image) (p : ℕ) : Type 0 where
  pub output : onward.output ≡ w.output
  pub fault : onward.fault ≡ img.fault
  pub started : onward.started ≡ img.started
  pub states : onward.states ≡ img.states
  pub events : onward.events ≡ img.events
  pub lists : onward.lists ≡ img.lists
  pub numbers : onward.numbers ≡ img.numbers
  pub system : stack_at onward.stacks 0 ≡ stack_at img.stacks 0
  pub many : length onward.regs ≡ length onward.states
  pub others : (k : ℕ) (core : Core) → k ≢ p → HasCore img k core → HasCore onward k core

-- Process p goes on, and one is new: its first instance, its stack and its registers.
pub record Starts (w : World) (p : ℕ) : Type 0 where
  pub q : Process
  pub onward_process : Process
  pub at : numbered w.processes p ≡ Some q
  pub made : Instance
  pub new : Process
  pub onward : Image
  pub registers : Registers
  pub words : List Word
  pub number : registers.stack ≡ length w.processes + 1
  pub room : length w.processes < most_processes

module _ (tree : PProgram) (code : Code) (texts : Texts) (w : World) (lay : Layout) (img : Image) (by : PicturesBy tree code texts w lay img) (p : ℕ) (starts : Starts w p) where
  open starts use {q, onward_process as q', at, made, new, onward, registers as r, words, number, room}

  abbrev w' : World
  w' = started_world w p q' made new

  abbrev lay' : Layout
  lay' = started_layout w lay

  abbrev img' : Image
  img' = with_process onward r words

  module _ (gone : HasGoneOn w img onward p) where
    as_many : length (set_numbered w.processes p q') ≡ length w.processes
    as_many = length_set_numbered w.processes p q'

    states_many : length onward.states ≡ length w.processes
    states_many = ap length gone.states ∙ by.states

    next : r.stack ≡ length onward.states + 1
    next = omega (arith, number, states_many)

    new_state : numbered img'.states (length w.processes + 1) ≡ Some Able
    new_state = ap (λ (n : ℕ). numbered img'.states n) (sym number) ∙ begun_state onward r words next gone.many

    same_state : (k : ℕ) → k ≢ length w.processes + 1 → numbered img'.states k ≡ numbered img.states k
    same_state k old =
        other_state onward r words next gone.many k (λ same. old (same ∙ number)) ∙ ap (λ (ss : List ProcessState). numbered ss k) gone.states

    -- the new one is able, and both live in the image in which it was begun
    pub starts_by : new.state ≡ able → new.woken ≡ 0 → list_in q'.state ≡ list_in q.state → q'.woken ≡ q.woken → lives q'.state ≡ true → StateIs (scopes_of tree) w lay q'.state (numbered img.states p) → ((k : ℕ) → k ≢ p → LeavesAlone (scopes_of tree) w (started_world w p q' made new) lay (started_layout w lay) k) →
        ArraysAre (scopes_of tree) (started_world w p q' made new) (started_layout w lay) onward.rows → EventsAre (scopes_of tree) (started_world w p q' made new) (started_layout w lay) onward.events →
        Living tree code texts (started_world w p q' made new) (started_layout w lay) (with_process onward r words) p q' →
        Living tree code texts (started_world w p q' made new) (started_layout w lay) (with_process onward r words) (length w.processes + 1) new →
        PicturesBy tree code texts (started_world w p q' made new) (started_layout w lay) (with_process onward r words)
    starts_by able_is fresh list number_same alive state_is alone arrays events starter begun =
        record {
          laid = omega (arith, length-append lay.places (place (length w.processes + 1) 0 ∷ []), length-append w.instances (made ∷ []), by.laid);
          arrays = arrays;
          events = events;
          waits = waits_started;
          output = gone.output;
          fault = gone.fault ∙ by.fault;
          started = omega (arith, gone.started, by.started, as_many, length-append (set_numbered w.processes p q') (new ∷ []));
          counted = omega (arith, gone.many, states_many, gone.started, by.started, length-append onward.regs (r ∷ []));
          few = omega (arith, as_many, length-append (set_numbered w.processes p q') (new ∷ []), room);
          states = omega (arith, states_many, as_many, length-append onward.states (Able ∷ []), length-append (set_numbered w.processes p q') (new ∷ []));
          system = system_kept onward r words next gone.many ∙ gone.system ∙ by.system;
          each = λ k o e. by_number k o e (same_or_not k (length w.processes + 1)) (same_or_not k p);
        }
      where
        last : ℕ
        last = length w.processes + 1

        -- who is not the new one
        as_then : (k : ℕ) → k ≢ last → numbered w'.processes k ≡ numbered (set_numbered w.processes p q') k
        as_then k old = numbered_else (set_numbered w.processes p q') new k (λ (e : k ≡ length (set_numbered w.processes p q') + 1). old (omega (arith, e, as_many)))

        same_by : (k : ℕ) (now before : Process) → process_at w' k ≡ now → process_at w k ≡ before → list_in now.state ≡ list_in before.state → now.woken ≡ before.woken → (list_in ((process_at w' k).state) ≡ list_in ((process_at w k).state)) × ((process_at w' k).woken ≡ (process_at w k).woken)
        same_by k now before is was lists_so number_so = (
          ap (λ (x : Process). list_in x.state) is ∙ lists_so ∙ ap (λ (x : Process). list_in x.state) (sym was),
          ap (λ (x : Process). x.woken) is ∙ number_so ∙ ap (λ (x : Process). x.woken) (sym was),
        )

        same_waits : (k : ℕ) → (k ≡ last) ⊎ (k ≢ last) → (list_in ((process_at w' k).state) ≡ list_in ((process_at w k).state)) × ((process_at w' k).woken ≡ (process_at w k).woken)
        same_waits k (inl newest) =
            same_by k new no_process (ap or_no_process (numbered_last (set_numbered w.processes p q') new k (omega (arith, newest, as_many)))) (ap or_no_process (past_end w.processes k newest)) (ap list_in able_is) fresh
        same_waits k (inr old) = by_starter (same_or_not k p)
          where
            by_starter : (k ≡ p) ⊎ (k ≢ p) → (list_in ((process_at w' k).state) ≡ list_in ((process_at w k).state)) × ((process_at w' k).woken ≡ (process_at w k).woken)
            by_starter (inl mine) =
                same_by k q' q (ap or_no_process (as_then k old ∙ ap (λ (n : ℕ). numbered (set_numbered w.processes p q') n) mine ∙ numbered_set w.processes p q q' at))
                (ap or_no_process (ap (λ (n : ℕ). numbered w.processes n) mine ∙ at)) list number_same
            by_starter (inr other) =
                same_by k (process_at w k) (process_at w k) (ap or_no_process (as_then k old ∙ numbered_other w.processes p k q' (λ (e : p ≡ k). other (sym e)))) refl refl refl

        same_number : (k : ℕ) → (k ≡ last) ⊎ (k ≢ last) → woken_number (onward.numbers ++ 0 ∷ []) k ≡ woken_number img.numbers k
        same_number k (inl newest) =
            number_is (onward.numbers ++ 0 ∷ []) k 0 (numbered_last onward.numbers 0 k (omega (arith, newest, ap length gone.numbers, by.waits.numbers)))
            ∙ sym (no_number img.numbers k (past_end img.numbers k (omega (arith, newest, by.waits.numbers))))
        same_number k (inr old) =
            number_by (onward.numbers ++ 0 ∷ []) onward.numbers k (numbered_else onward.numbers 0 k (λ (e : k ≡ length onward.numbers + 1). old (omega (arith, e, ap length gone.numbers, by.waits.numbers))))
            ∙ ap (λ (ns : List ℕ). woken_number ns k) gone.numbers

        awaiting_started : AreAwaiting img'
        awaiting_started =
            awaiting_beside img img' by.waits.awaiting last
            (λ there listed.
            absurd (subst (λ (o : Option ProcessState). AwaitsAt o (list_of last img.lists) there) (past_end img.states last (omega (arith, by.states)))
            (by.waits.awaiting last there (subst (λ (es : List Event). IsListed (waiters_at there es) last) gone.events listed))))
            (λ k there old listed. subst (λ (es : List Event). IsListed (waiters_at there es) k) gone.events listed) same_state (λ k old. ap (λ (ls : List (List MachinePlace)). list_of k ls) gone.lists)

        waits_started : WaitsAre (scopes_of tree) w' lay' img'
        waits_started =
            waits_kept (scopes_of tree) w w' lay lay' (events_before w w' (λ i x e. numbered_before w.instances (made ∷ []) i x e)) (λ i f e. numbered_before lay.places (place (length w.processes + 1) 0 ∷ []) i f e) img img' by.waits
            (omega (arith, length-append onward.numbers (0 ∷ []), ap length gone.numbers, by.waits.numbers, as_many, length-append (set_numbered w.processes p q') (new ∷ []))) (λ k. same_waits k (same_or_not k last)) gone.lists
            (λ k. same_number k (same_or_not k last)) awaiting_started

        old_p : p ≢ length w.processes + 1
        old_p same = let low : p ≤ length w.processes = numbered_within w.processes p q at in omega (arith, same, low)

        pictured_new : Pictured tree code texts w' lay' img' (length w.processes + 1) new
        pictured_new = living (ap lives able_is) (subst (λ (s : Option ProcessState). StateIs (scopes_of tree) w' lay' new.state s) (sym new_state) (subst (λ s. StateIs (scopes_of tree) w' lay' s (Some Able)) (sym able_is) tt)) begun

        pictured_starter : Pictured tree code texts w' lay' img' p q'
        pictured_starter = living alive
            (subst (λ (s : Option ProcessState). StateIs (scopes_of tree) w' lay' q'.state s) (sym (same_state p old_p))
            (state_stays (scopes_of tree) w w' lay lay' (events_before w w' (λ i x e. numbered_before w.instances (made ∷ []) i x e))
            (λ i f e. numbered_before lay.places (place (length w.processes + 1) 0 ∷ []) i f e) q'.state (numbered img.states p) state_is)) starter

        by_number : (k : ℕ) (o : Process) → numbered w'.processes k ≡ Some o → (k ≡ length w.processes + 1) ⊎ (k ≢ length w.processes + 1) → (k ≡ p) ⊎ (k ≢ p) → Pictured tree code texts w' lay' img' k o
        by_number k o e (inl last) mine =
            let is : new ≡ o = some_same (sym (numbered_last (set_numbered w.processes p q') new k (omega (arith, last, as_many))) ∙ e) in
            subst (λ (x : Process). Pictured tree code texts w' lay' img' k x) is (subst (λ (n : ℕ). Pictured tree code texts w' lay' img' n new) (sym last) pictured_new)
        by_number k o e (inr old) (inl mine) =
            let there : numbered (set_numbered w.processes p q') k ≡ Some o = numbered_earlier (set_numbered w.processes p q') new k o (λ same. old (omega (arith, same, as_many))) e in
            let is : q' ≡ o = some_same (sym (numbered_set w.processes p q q' at) ∙ ap (λ (n : ℕ). numbered (set_numbered w.processes p q') n) (sym mine) ∙ there) in
            subst (λ (x : Process). Pictured tree code texts w' lay' img' k x) is (subst (λ (n : ℕ). Pictured tree code texts w' lay' img' n q') (sym mine) pictured_starter)
        by_number k o e (inr old) (inr other) =
            let there : numbered (set_numbered w.processes p q') k ≡ Some o = numbered_earlier (set_numbered w.processes p q') new k o (λ same. old (omega (arith, same, as_many))) e in
            let before : numbered w.processes k ≡ Some o = sym (numbered_other w.processes p k q' (λ (same : p ≡ k). other (sym same))) ∙ there in
            pictured_alike tree code texts w w' lay lay' k (others_alike (scopes_of tree) w lay p q' made new k (alone k other)) img img' o before (process_is w' k o e) (same_state k old)
            (λ core has. others_stay onward r words next gone.many k core (gone.others k core other has)) (by.each k o before)
