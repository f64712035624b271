-- Where a process stands at its action, its operator is that action, and releases whom that releases.
use Rattle.b67_deeds.specs.Deeds as deeds
use Rattle.std.proofs.Common.{◌≡◌, refl, sym, ◌∙◌, subst, ℕ, List, [], ◌∷◌, Option, Some, None, true}
use Rattle.b67_pictures.proofs.Prelude.{EventAct, PProgram, scopes_of, Named, Ask, nothing, reads, reads_element, indexes, enters, passes, resolves, reads_result, leaves, stores, selects, turns, goes_to, enters_block, starts, writes, makes_arrays, makes_event, ask, event_deed, Choice, choice, choice_of, Answer, Reference, Process, Part, lives, World, Code, Image, releases, LiesNested, Texts, RestsGoOn, CodeGoesOn, Core, ReleasesNone, Layout, Scene, AbleActor, OutmostActor, actor_of, outmost_actor, choice_is, text_in, level_in, context_in, most_in, TheLaws, TaskIs, Does}
use Rattle.algol_meaning.specs.Asks.{fails}
use Rattle.b67_faithful.proofs.Choices.{NoEvent, NoTask, frees}
use Rattle.b67_pictures.proofs.Dispatching.{OthersAreDone, scene_does}
use Rattle.b67_pictures.proofs.Evaluating.{ActualsAreEntered}
use Rattle.b67_pictures.proofs.Quiet.{Settled}
use Rattle.b67_pictures.proofs.Releasing.{IsReleased, none_released}
use Rattle.b67_pictures.proofs.Head.{At, AnswersAfter}

-- the head asks for an action on an event, that the part be left, or for none of both
data IsOfEvent (task : Option Reference) (outer : List Part) (k : Ask) : Type 0 where
  of_event : (x : EventAct) (ns : List Named) → k ≡ event_deed (deeds.acts x) ns → IsOfEvent task outer k
  of_leaving : (r : Answer) → k ≡ leaves r → IsOfEvent task outer k
  of_none : NoEvent k → NoTask task outer k → IsOfEvent task outer k

event_or_not : (task : Option Reference) (outer : List Part) (k : Ask) → IsOfEvent task outer k
event_or_not task outer (event_deed (deeds.acts x) ns) = of_event x ns refl
event_or_not task outer (reads n) = of_none tt tt
event_or_not task outer (fails f) = of_none tt tt
event_or_not task outer (stores x v) = of_none tt tt
event_or_not task outer turns = of_none tt tt
event_or_not task outer (writes phrases vs) = of_none tt tt
event_or_not task outer (selects v ss) = of_none tt tt
event_or_not task outer (leaves r) = of_leaving r refl
event_or_not task outer nothing = of_none tt tt
event_or_not task outer (reads_element n ks v) = of_none tt tt
event_or_not task outer (indexes n ks v) = of_none tt tt
event_or_not task outer (event_deed (deeds.tests x) ns) = of_none tt tt
event_or_not task outer (enters n gs) = of_none tt tt
event_or_not task outer (passes n) = of_none tt tt
event_or_not task outer (resolves n) = of_none tt tt
event_or_not task outer (reads_result name) = of_none tt tt
event_or_not task outer (goes_to n) = of_none tt tt
event_or_not task outer (enters_block b) = of_none tt tt
event_or_not task outer (starts n gs t) = of_none tt tt
event_or_not task outer (makes_arrays kind ns pairs vs) = of_none tt tt
event_or_not task outer (makes_event n) = of_none tt tt

-- each operator of an action on an event releases whom that releases
abbrev pub AreFreed : PProgram → Code → Texts → Type 0
AreFreed tree code texts =
    (x : EventAct) (ns : List Named) (actor : AbleActor tree code texts) → ask actor.part.rest ≡ event_deed (deeds.acts x) ns → (a : At tree code texts (actor_of actor.s) (event_deed (deeds.acts x) ns)) →
    AnswersAfter tree code texts (actor_of actor.s) (event_deed (deeds.acts x) ns) a → releases code actor.img actor.p ≡ (choice (scopes_of tree) actor.w actor.p).released

-- so does the end of each process that has a task
abbrev pub EndsAreFreed : PProgram → Code → Texts → Type 0
EndsAreFreed tree code texts =
    (actor : OutmostActor tree code texts) → lives actor.q.state ≡ true → (task : Reference) → actor.q.task ≡ Some task → (r : Answer) → ask actor.part.rest ≡ leaves r →
    At tree code texts (actor_of actor.s) (leaves r) → IsReleased tree code actor.w actor.img actor.p

module _ (tree : PProgram) (code : Code) (texts : Texts) (w : World) (lay : Layout) (img : Image) (p : ℕ) (q : Process) (part : Part) (bound : ℕ) (core : Core) (does : Does tree code texts w img p) where
  -- whoever does not act on an event, and does not end a process that has a task, releases nobody
  calmly : (outer : List Part) (s : Scene tree code texts w lay img p q part outer bound core) (k : Ask) → ask part.rest ≡ k → NoEvent k → NoTask q.task outer k → IsReleased tree code w img p
  calmly outer s k e calm idle =
      none_released tree code texts w img p core.registers s.has.registers q.task
      (λ (none : q.task ≡ None). subst (λ (t : Option Reference). TaskIs (scopes_of tree) w lay t core.registers.task) none s.task)
      (subst (λ (c : Choice). ReleasesNone q.task c) (sym (choice_is (scopes_of tree) w p q part outer s.at s.todo))
      (subst (λ (y : Ask). ReleasesNone q.task (choice_of (scopes_of tree) w p q part outer y)) (sym e) (frees (scopes_of tree) w p q part outer k calm idle))) does

  leaving_frees : EndsAreFreed tree code texts → lives q.state ≡ true → (outer : List Part) (s : Scene tree code texts w lay img p q part outer bound core) (r : Answer) → ask part.rest ≡ leaves r →
      At tree code texts (actor_of s) (leaves r) → IsReleased tree code w img p
  leaving_frees ends alive (next ∷ parts) s r e a = calmly (next ∷ parts) s (leaves r) e tt (λ (clash : next ∷ parts ≡ []). cc)
  leaving_frees ends alive [] s r e a = by_task q.task refl
    where
      by_task : (t : Option Reference) → q.task ≡ t → IsReleased tree code w img p
      by_task None none = calmly [] s (leaves r) e tt (λ last. none)
      by_task (Some task) has = ends (outmost_actor s) alive task has r e a

module _ (tree : PProgram) (code : Code) (texts : Texts) (lies : LiesNested tree) (actuals : ActualsAreEntered tree code texts) (laws : TheLaws) (rests : RestsGoOn) (others : OthersAreDone tree code texts)
    (freed : AreFreed tree code texts) (ends : EndsAreFreed tree code texts) (actor : AbleActor tree code texts) where
  open actor use {w, lay, img, p, q, part, outer, bound, core, s, able_is, able_p}

  abbrev IsThere : Ask → Type 0
  IsThere k = (a : At tree code texts (actor_of s) k) → AnswersAfter tree code texts (actor_of s) k a → IsReleased tree code w img p

  done_there : Does tree code texts w img p
  done_there = scene_does tree code texts lies actuals laws rests others actor

  by_ask : (k : Ask) → ask part.rest ≡ k → IsOfEvent q.task outer k → IsThere k
  by_ask k e (of_event x ns is) =
      subst IsThere (sym is) (λ a answered no_limit. freed x ns actor (e ∙ is) a answered)
  by_ask k e (of_leaving r is) = subst IsThere (sym is) (λ a answered. leaving_frees tree code texts w lay img p q part bound core done_there ends able_is outer s r (e ∙ is) a)
  by_ask k e (of_none calm idle) = λ a answered. calmly tree code texts w lay img p q part bound core done_there outer s k e calm idle

  pub scene_settled : Settled tree code texts w img p
  scene_settled =
      let on : CodeGoesOn (scopes_of tree) (context_in tree code texts w part s.stands.frame.gives) (text_in tree texts w part) (level_in tree w part) (most_in tree w part) part.rest s.stands.pc s.stands.slots =
      rests (scopes_of tree) (context_in tree code texts w part s.stands.frame.gives) (text_in tree texts w part) (level_in tree w part) (most_in tree w part) part.rest s.stands.pc s.stands.slots s.stands.stands s.stands.asks in
      record {
        does = done_there;
        released = by_ask (ask part.rest) refl (event_or_not q.task outer (ask part.rest)) on.action on.answered;
      }
