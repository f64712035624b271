-- What a process does with an event is what the table of deeds says.
use Rattle.std.proofs.Common.{◌≡◌, refl, ℕ, not, if◌then◌else◌, Bool, true, false, List, [], ◌∷◌, ap, sym, ◌∙◌, Option, Some, None}
use Rattle.b67_list.specs.Numbered.{numbered}
use Rattle.b67_deeds.specs.Deeds as deeds
use Rattle.b67_deeds.specs.Deeds.{EventDeed, Deed, deed, acts, tests, letter_of}
use Rattle.b67_deeds.specs.Events.{joined, taken, queued}
use Rattle.b67_deeds.specs.declared.EventAct.TheVariants as act
use Rattle.b67_deeds.specs.declared.EventTest.TheVariants as test
use Rattle.b67_deeds.specs.declared.Letter.TheVariants as actions
use Rattle.algol_tree.specs.Scopes.{Scopes}
use Rattle.algol_meaning.specs.Value.{Reference, truth}
use Rattle.algol_meaning.specs.World as world
use Rattle.algol_meaning.specs.World.{World, Part, Process, process_at, or_no_process, with_process}
use Rattle.algol_meaning.specs.Rest.{done, value}
use Rattle.algol_meaning.specs.Events.{event_at, released, change_event}
use Rattle.algol_world.specs.Going.{action_chosen, going, resumed, stopping, releasing, letting_go, done_with, does_of, does_by}
use Rattle.algol_world.specs.Leaving.{is_nil}
use Rattle.algol_world.proofs.Releasing.{released_stays}

-- a process with parts is one of the world's
pub one_of_these : (o : Option Process) → is_nil ((or_no_process o).todo) ≡ false → o ≡ Some (or_no_process o)
one_of_these None has = cc
one_of_these (Some q) has = refl

module _ (sc : Scopes) (w : World) (p : ℕ) (able : (process_at w p).state ≡ world.able) (has : is_nil ((process_at w p).todo) ≡ false) where
  -- who is able stays as it is where a deed is done
  stays : (r : Reference) (d : Deed) → process_at ((released w r d).world) p ≡ process_at w p
  stays r d = ap or_no_process (released_stays w r d p (process_at w p) (one_of_these (numbered w.processes p) has) able)

  goes_on :
      (x : EventDeed) (r : Reference) (d : Deed) → d.next ≡ deeds.goes → d.answer ≡ None
      → releasing sc (letter_of x) ((released w r d).world) p d.frees ≡ does_of sc w p (process_at w p) ((process_at w p).todo) x r d
  goes_on x r d n a =
      ap
      (λ (q : Process). record {
        action = letter_of x;
        world = with_process ((released w r d).world) p (record q { todo = resumed sc q.todo done });
        released = d.frees;
        started = None;
      })
      (stays r d)
      ∙ under ((process_at w p).todo) has
    where
      under :
          (parts : List Part) → is_nil parts ≡ false
          → record {
            action = letter_of x;
            world = with_process ((released w r d).world) p (record (process_at w p) { todo = resumed sc parts done });
            released = d.frees;
            started = None;
          }
          ≡ does_of sc w p (process_at w p) parts x r d
      under [] h = cc
      under (part ∷ outer) h = rw (n, a) refl

  -- .. told so
  goes_told :
      (x : EventDeed) (r : Reference) (d : Deed) (b : Bool) → d.next ≡ deeds.goes → d.answer ≡ Some b → d.frees ≡ []
      → action_chosen (letter_of x) (going sc ((released w r d).world) p (value (truth b))) ≡ does_of sc w p (process_at w p) ((process_at w p).todo) x r d
  goes_told x r d b n a f =
      ap
      (λ (q : Process). action_chosen (letter_of x) (with_process ((released w r d).world) p (record q { todo = resumed sc q.todo (value (truth b)) })))
      (stays r d)
      ∙ under ((process_at w p).todo) has
    where
      under :
          (parts : List Part) → is_nil parts ≡ false
          → action_chosen (letter_of x) (with_process ((released w r d).world) p (record (process_at w p) { todo = resumed sc parts (value (truth b)) }))
          ≡ does_of sc w p (process_at w p) parts x r d
      under [] h = cc
      under (part ∷ outer) h =
          rw (n, a)
          (ap
          (λ (ps : List ℕ). record (action_chosen (letter_of x) (with_process ((released w r d).world) p (record (process_at w p) { todo = resumed sc (part ∷ outer) (value (truth b)) }))) { released = ps })
          (sym f))

  -- it waits, for the event to happen or to procure it
  stops_there :
      (x : EventDeed) (r : Reference) (d : Deed) (s : world.State)
      → action_chosen (letter_of x) (stopping sc ((released w r d).world) p s)
      ≡ action_chosen (letter_of x) (with_process ((released w r d).world) p (record (process_at w p) { todo = resumed sc ((process_at w p).todo) done; state = s }))
  stops_there x r d s =
      ap
      (λ (q : Process). action_chosen (letter_of x) (with_process ((released w r d).world) p (record q { todo = resumed sc q.todo done; state = s })))
      (stays r d)

  waits :
      (x : EventDeed) (r : Reference) (d : Deed) → d.next ≡ deeds.waits
      → action_chosen (letter_of x) (stopping sc ((released w r d).world) p (world.waits_for r)) ≡ does_of sc w p (process_at w p) ((process_at w p).todo) x r d
  waits x r d n = stops_there x r d (world.waits_for r) ∙ under ((process_at w p).todo) has
    where
      under :
          (parts : List Part) → is_nil parts ≡ false
          → action_chosen (letter_of x) (with_process ((released w r d).world) p (record (process_at w p) { todo = resumed sc parts done; state = world.waits_for r }))
          ≡ does_of sc w p (process_at w p) parts x r d
      under [] h = cc
      under (part ∷ outer) h = rw n refl

  procures :
      (x : EventDeed) (r : Reference) (d : Deed) → d.next ≡ deeds.procures
      → action_chosen (letter_of x) (stopping sc ((released w r d).world) p (world.procures r)) ≡ does_of sc w p (process_at w p) ((process_at w p).todo) x r d
  procures x r d n = stops_there x r d (world.procures r) ∙ under ((process_at w p).todo) has
    where
      under :
          (parts : List Part) → is_nil parts ≡ false
          → action_chosen (letter_of x) (with_process ((released w r d).world) p (record (process_at w p) { todo = resumed sc parts done; state = world.procures r }))
          ≡ does_of sc w p (process_at w p) parts x r d
      under [] h = cc
      under (part ∷ outer) h = rw n refl

  -- ---- row by row

  pub wait_ends : (r : Reference) → (event_at w r).happened ≡ true → releasing sc actions.Wait w p [] ≡ does_by sc w p (acts act.Wait) r
  wait_ends r h =
      ap (λ (b : Bool). releasing sc actions.Wait (change_event w r (if b then None else Some (joined p))) p []) (sym h)
      ∙ goes_on (acts act.Wait) r (deed (acts act.Wait) p (event_at w r)) (ap (λ (b : Bool). if b then deeds.goes else deeds.waits) h) refl

  pub wait_begins :
      (r : Reference) → (event_at w r).happened ≡ false
      → action_chosen actions.Wait (stopping sc (change_event w r (Some (joined p))) p (world.waits_for r)) ≡ does_by sc w p (acts act.Wait) r
  wait_begins r h =
      ap (λ (b : Bool). action_chosen actions.Wait (stopping sc (change_event w r (if b then None else Some (joined p))) p (world.waits_for r))) (sym h)
      ∙ waits (acts act.Wait) r (deed (acts act.Wait) p (event_at w r)) (ap (λ (b : Bool). if b then deeds.goes else deeds.waits) h)

  pub procures_it :
      (r : Reference) → (event_at w r).available ≡ true
      → releasing sc actions.Procure (change_event w r (Some taken)) p [] ≡ does_by sc w p (acts act.Procure) r
  procures_it r h =
      ap (λ (b : Bool). releasing sc actions.Procure (change_event w r (Some (if b then taken else queued p))) p []) (sym h)
      ∙ goes_on (acts act.Procure) r (deed (acts act.Procure) p (event_at w r)) (ap (λ (b : Bool). if b then deeds.goes else deeds.procures) h) refl

  pub waits_to_procure :
      (r : Reference) → (event_at w r).available ≡ false
      → action_chosen actions.Procure (stopping sc (change_event w r (Some (queued p))) p (world.procures r)) ≡ does_by sc w p (acts act.Procure) r
  waits_to_procure r h =
      ap (λ (b : Bool). action_chosen actions.Procure (stopping sc (change_event w r (Some (if b then taken else queued p))) p (world.procures r))) (sym h)
      ∙ procures (acts act.Procure) r (deed (acts act.Procure) p (event_at w r)) (ap (λ (b : Bool). if b then deeds.goes else deeds.procures) h)

  pub fixes :
      (r : Reference) → (event_at w r).available ≡ true
      → action_chosen actions.Fix (going sc (change_event w r (Some taken)) p (value (truth false))) ≡ does_by sc w p (tests test.Fix) r
  fixes r h =
      ap (λ (b : Bool). action_chosen actions.Fix (going sc (change_event w r (if b then Some taken else None)) p (value (truth false)))) (sym h)
      ∙ goes_told (tests test.Fix) r (deed (tests test.Fix) p (event_at w r)) false refl (ap (λ (b : Bool). Some (not b)) h) refl

  pub finds_it_taken :
      (r : Reference) → (event_at w r).available ≡ false → action_chosen actions.Fix (going sc w p (value (truth true))) ≡ does_by sc w p (tests test.Fix) r
  finds_it_taken r h =
      ap (λ (b : Bool). action_chosen actions.Fix (going sc (change_event w r (if b then Some taken else None)) p (value (truth true)))) (sym h)
      ∙ goes_told (tests test.Fix) r (deed (tests test.Fix) p (event_at w r)) true refl (ap (λ (b : Bool). Some (not b)) h) refl

  pub causes : (r : Reference) → releasing sc actions.Cause ((letting_go w r true).world) p ((letting_go w r true).processes) ≡ does_by sc w p (acts act.Cause) r
  causes r = goes_on (acts act.Cause) r (deed (acts act.Cause) p (event_at w r)) refl refl

  pub causes_and_resets :
      (r : Reference)
      → releasing sc actions.CauseAndReset ((letting_go w r false).world) p ((letting_go w r false).processes) ≡ does_by sc w p (acts act.CauseAndReset) r
  causes_and_resets r = goes_on (acts act.CauseAndReset) r (deed (acts act.CauseAndReset) p (event_at w r)) refl refl

  pub resets : (r : Reference) → releasing sc actions.Reset ((done_with w p (acts act.Reset) r).world) p [] ≡ does_by sc w p (acts act.Reset) r
  resets r = goes_on (acts act.Reset) r (deed (acts act.Reset) p (event_at w r)) refl refl

  pub liberates :
      (r : Reference)
      → releasing sc actions.Liberate ((done_with w p (acts act.Liberate) r).world) p ((done_with w p (acts act.Liberate) r).processes)
      ≡ does_by sc w p (acts act.Liberate) r
  liberates r = goes_on (acts act.Liberate) r (deed (acts act.Liberate) p (event_at w r)) refl refl

pub ruleset deed_laws = (wait_ends, wait_begins, procures_it, waits_to_procure, fixes, finds_it_taken, causes, causes_and_resets, resets, liberates)
