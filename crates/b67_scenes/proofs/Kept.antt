-- What an action of one process leaves of the picture of another.
use Rattle.std.proofs.Common.{◌≡◌, ◌≢◌, Bool, refl, sym, ap, ◌∙◌, subst, ℕ, suc, ◌+◌, ◌≤◌, false, List, [], ◌∷◌, length, Option, Some, arith}
use Rattle.b67_scenes.proofs.Prelude.{if◌then◌else◌, numbered, set_numbered, block_numbered, PProgram, Scopes, scopes_of, is_evaluation, own_instances, some_depends, Instance, Part, Process, World, instance_at, or_no_instance, process_at, or_no_process, State, IsLow, Word, Code, place, Image, ProcessState, made_base, Texts, Core, HasCore, some_same, weight, parts_weight, numbered_other, StayBelow, owned_frame, same_block, StandOn, Layout, Owned, Frame, Around, Frames, Living, Pictured, living, dead, CoreReaches, ReachesFor, StateIs}
use Rattle.b67_scenes.specs.Reaches as reaching
use Rattle.b67_scenes.proofs.Ancestors.{AreLaid}
use Rattle.b67_scenes.proofs.Staying.{frames_stay, frames_weigh, frames_most}
use Rattle.b67_scenes.proofs.Tasks.{EventsStay, critical_stays, task_stays, state_stays, events_same}

-- a process lives in another image as well, in whatever state it lives, where it has its core there
pub living_there : (tree : PProgram) (code : Code) (texts : Texts) (w : World) (lay : Layout) (img img' : Image) (p : ℕ) (q : Process) (state : State) (woken : ℕ) (l : Living tree code texts w lay img p q) → HasCore img' p l.core →
    Living tree code texts w lay img' p (record q { state = state; woken = woken })
living_there tree code texts w lay img img' p q state woken l has =
    record {
      core = l.core;
      has = has;
      critical = l.critical;
      task = l.task;
      sees = l.sees;
      small = l.small;
      settled = l.settled;
      bound = l.bound;
      count = l.count;
      steps = l.steps;
      frames = l.frames;
      reaches = l.reaches;
      room = l.room;
      light = l.light;
    }

-- What a change of a world leaves to process r: what stands before and after it, stands on; where no process that lives depends on its newest instance, none does after it; and of its
-- instances nobody has come to what is made in those that are low.
pub record LeavesAlone (sc : Scopes) (w w' : World) (lay lay' : Layout) (r : ℕ) : Type 0 where
  pub laid : AreLaid w lay
  pub on : StandOn sc w w' lay lay'
  pub depends : (i : ℕ) (q : Process) (older : List ℕ) → numbered w.processes r ≡ Some q → own_instances q.todo ≡ i ∷ older → some_depends w.processes i ≡ false → some_depends w'.processes i ≡ false
  pub lows : (i : ℕ) (x : Instance) → numbered w.instances i ≡ Some x → x.process ≡ r → x.left ≡ false → IsLow sc w i → IsLow sc w' i

-- The instances of the process are the same in both worlds, too, with the rows of their arrays, and events stay events.
pub record AreAlike (sc : Scopes) (w w' : World) (lay lay' : Layout) (r : ℕ) : Type 0 where
  pub alone : LeavesAlone sc w w' lay lay' r
  pub own : (i : ℕ) (x : Instance) → numbered w.instances i ≡ Some x → x.process ≡ r → numbered w'.instances i ≡ Some x
  pub rows : (i : ℕ) (x : Instance) → numbered w.instances i ≡ Some x → x.process ≡ r → lay'.rows i ≡ lay.rows i
  pub events : EventsStay w w'

-- where no instance is changed, all are the same
pub alike_by : (sc : Scopes) (w w' : World) (lay : Layout) (r : ℕ) → LeavesAlone sc w w' lay lay r → w'.instances ≡ w.instances → AreAlike sc w w' lay lay r
alike_by sc w w' lay r alone same =
    record {
      alone = alone;
      own = λ i x e own. ap (λ (xs : List Instance). numbered xs i) same ∙ e;
      rows = λ i x e own. refl;
      events = λ i. events_same w w' i (ap (λ (xs : List Instance). or_no_instance (numbered xs i)) same);
    }

-- where an instance of one process is changed, those of the others are the same
pub alike_but : (sc : Scopes) (w w' : World) (lay : Layout) (r i : ℕ) (x y : Instance) → LeavesAlone sc w w' lay lay r → numbered w.instances i ≡ Some x → r ≢ x.process → w'.instances ≡ set_numbered w.instances i y →
    EventsStay w w' → AreAlike sc w w' lay lay r
alike_but sc w w' lay r i x y alone there other same events =
    record {
      alone = alone;
      own = λ j z e own.
          ap (λ (xs : List Instance). numbered xs j) same
          ∙ numbered_other w.instances i j y
          (λ (k : i ≡ j). other (sym own ∙ ap (λ (v : Instance). v.process) (some_same (sym e ∙ ap (numbered w.instances) (sym k) ∙ there))))
          ∙ e;
      rows = λ j z e own. refl;
      events = events;
    }

module _ (tree : PProgram) (code : Code) (texts : Texts) (w w' : World) (lay lay' : Layout) (r : ℕ) (alone : LeavesAlone (scopes_of tree) w w' lay lay' r) where
  abbrev sc : Scopes
  sc = scopes_of tree

  -- others may look at what they might, where the process has as many words below its floor
  module _ (q : Process) (is : numbered w.processes r ≡ Some q) (part : Part) (outer : List Part) (todo : q.todo ≡ part ∷ outer) (now settled now' settled' : Core) (f : Frame tree code texts w lay r part outer settled.below) (as_far : length now'.below ≡ length now.below)
      (as_long : length settled'.below ≡ length settled.below) (same : (instance_at w part.instance).block ≡ (instance_at w' part.instance).block) where
    abbrev OwnedThere : Type 0
    OwnedThere = Owned tree code texts w lay r part outer (length f.lower) f.mark f.control f.cells

    own_there : is_evaluation part.purpose ≡ false → OwnedThere
    own_there = owned_frame tree code texts w lay r part outer settled.below f

    pub reach_alone : CoreReaches (scopes_of tree) w lay r part now settled → CoreReaches (scopes_of tree) w' lay' r part now' settled'
    reach_alone (reaching.all there) = reaching.all (as_far ∙ there ∙ sym as_long)
    reach_alone (reaching.low at owns laid enough is_low) =
        let o : OwnedThere = own_there owns in
        let cells : at + made_base sc (block_numbered sc.blocks ((instance_at w' part.instance).block)) ≤ length now.below =
        subst (λ (j : ℕ). at + made_base sc (block_numbered sc.blocks j) ≤ length now.below) same enough in
        reaching.low at owns (alone.on.places part.instance (place r at) laid) (omega (arith, cells, as_far)) (alone.lows part.instance o.framed.instance o.framed.is o.framed.own o.framed.stands is_low)
    reach_alone (reaching.none_yet at owns laid enough free) =
        let newest : own_instances q.todo ≡ part.instance ∷ own_instances outer =
        ap own_instances todo ∙ ap (λ (b : Bool). if b then own_instances outer else part.instance ∷ own_instances outer) owns in
        reaching.none_yet at owns (alone.on.places part.instance (place r at) laid) (omega (arith, enough, as_far)) (alone.depends part.instance q (own_instances outer) is newest free)

module _ (tree : PProgram) (code : Code) (texts : Texts) (w w' : World) (lay lay' : Layout) (r : ℕ) (alike : AreAlike (scopes_of tree) w w' lay lay' r) where
  -- so low that it is below any limit
  pub stay_below : (limit : ℕ) → StayBelow (scopes_of tree) w w' lay lay' r limit
  stay_below limit = record { on = alike.alone.on; instances = λ i at x e own laid low. alike.own i x e own; rows = λ i at x e own laid low. alike.rows i x e own }

  block_alike : (part : Part) (outer : List Part) (words : List Word) (f : Frame tree code texts w lay r part outer words) → Around tree code texts w lay r outer f.lower f.mark f.control f.gives →
      (instance_at w part.instance).block ≡ (instance_at w' part.instance).block
  block_alike part outer words f a = sym (same_block tree code texts w w' lay lay' r (suc (length f.lower)) (stay_below (suc (length f.lower))) part outer words f a (omega arith))

  -- others may look at what they might
  reaches_alike : (q : Process) → numbered w.processes r ≡ Some q → (parts : List Part) → q.todo ≡ parts → (now settled : Core) → Frames tree code texts w lay r parts settled → ReachesFor (scopes_of tree) w lay r parts now settled → ReachesFor (scopes_of tree) w' lay' r parts now settled
  reaches_alike q is [] todo now settled f reaches = absurd f
  reaches_alike q is (part ∷ outer) todo now settled f reaches =
      reach_alone tree code texts w w' lay lay' r alike.alone q is part outer todo now settled now settled f.0.frame refl refl (block_alike part outer settled.below f.0.frame f.1) reaches

  -- so it lives as it did
  pub living_alike : (img img' : Image) (q : Process) → numbered w.processes r ≡ Some q → (process_at w' r).todo ≡ q.todo → ((core : Core) → HasCore img r core → HasCore img' r core) → Living tree code texts w lay img r q →
      Living tree code texts w' lay' img' r q
  living_alike img img' q is at' keeps l =
      let low : length l.settled.below ≤ length l.settled.below = omega arith in
      let same : weight tree w r ≡ weight tree w' r =
      ap (λ (o : Option Process). parts_weight tree w (or_no_process o).todo) is
      ∙ sym (frames_weigh tree code texts w w' lay lay' r (length l.settled.below) (stay_below (length l.settled.below)) alike.alone.laid q.todo l.settled low l.frames)
      ∙ ap (parts_weight tree w') (sym at') in
      record {
        core = l.core;
        has = keeps l.core l.has;
        critical = critical_stays lay lay' alike.alone.on.places q.critical l.core.registers.critical l.critical;
        task = task_stays (scopes_of tree) w w' lay lay' alike.events alike.alone.on.places q.task l.core.registers.task l.task;
        sees = l.sees;
        small = l.small;
        settled = l.settled;
        bound = l.bound;
        count = l.count;
        steps = l.steps;
        frames = frames_stay tree code texts w w' lay lay' r (length l.settled.below) (stay_below (length l.settled.below)) alike.alone.laid q.todo l.settled low l.frames;
        reaches = reaches_alike q is q.todo refl l.core l.settled l.frames l.reaches;
        room = omega (arith, l.room, frames_most tree code texts w w' lay lay' r (length l.settled.below) (stay_below (length l.settled.below)) alike.alone.laid q.todo l.settled low l.frames);
        light = subst (λ (n : ℕ). l.bound + 3 ≤ n) same l.light;
      }

  pub pictured_alike : (img img' : Image) (q : Process) → numbered w.processes r ≡ Some q → process_at w' r ≡ q → numbered img'.states r ≡ numbered img.states r →
      ((core : Core) → HasCore img r core → HasCore img' r core) → Pictured tree code texts w lay img r q → Pictured tree code texts w' lay' img' r q
  pictured_alike img img' q is at' states keeps (dead e s) = dead e (states ∙ s)
  pictured_alike img img' q is at' states keeps (living a s l) =
      living a
      (subst (λ (o : Option ProcessState). StateIs (scopes_of tree) w' lay' q.state o) (sym states)
      (state_stays (scopes_of tree) w w' lay lay' alike.events alike.alone.on.places q.state (numbered img.states r) s))
      (living_alike img img' q is (ap (λ (o : Process). o.todo) at') keeps l)
