-- Who waits for an event: it lives, its events stand, and it stands among those who wait for them only.
use Rattle.std.proofs.Common.{◌≡◌, ◌≢◌, refl, sym, ap, ◌∙◌, subst, ℕ, List, [], ◌∷◌, Option, Some, Bool, true}
use Rattle.b67_list.proofs.Truths.{true_false}
use Rattle.b67_pictures.proofs.Prelude.{◌||◌, numbered, IsListed, PProgram, Scopes, scopes_of, own_instances, list_in, same_reference, Reference, Part, Process, State, able, waits_for, waits_any, procures, ended, lives, World, process_at, stack_forth, IsOk, IsInSkeleton, IsStanding, IsWholeInstance, Awaits, stack_of, skeleton, newest_own, IsOnPath, Place, Code, waiters_at, event_is_among, list_of, Image, AwaitsAt, ProcessState, WaitsFor, WaitsAny, Procures, Texts, Layout, LivesIn, lives_waiting, process_is, own_listed, IsEventAt, Pictured, living, dead, PicturesBy, StateIs}
use Rattle.algol_meaning.specs.Events.{reference_is_among}
use Rattle.algol_standing.specs.Worlds.{IsAwaited, HasHead}
use Rattle.algol_standing.proofs.Awaiting.{awaits_lives}
use Rattle.algol_standing.proofs.EventCells.{same_self, among_first}
use Rattle.algol_standing.proofs.Fine.{newest_stands, newest_inside}
use Rattle.algol_standing.proofs.Standing.{stands_path}
use Rattle.b67_scenes.proofs.Worlds.{IsInStack, in_stack}
use Rattle.b67_scenes.proofs.Waiting.{none_listed}
use Rattle.b67_rows.proofs.PassRow.{or_true}
use Rattle.b67_pictures.proofs.EventMoving.{IsOwned}
use Rattle.b67_pictures.proofs.SameEvents.{AllOwned, one_place}

among_later : (r : Reference) (rs : List Reference) (s : Reference) → reference_is_among rs s ≡ true → reference_is_among (r ∷ rs) s ≡ true
among_later r rs s e = ap (λ (b : Bool). same_reference r s || b) e ∙ or_true (same_reference r s)

-- each of these is among them
pub among_each : (w : World) (rs all : List Reference) → ((r : Reference) → reference_is_among rs r ≡ true → reference_is_among all r ≡ true) → ((r : Reference) → reference_is_among all r ≡ true → IsOwned w r.instance) → AllOwned w rs
among_each w [] all within owned = tt
among_each w (r ∷ rs) all within owned = (
  owned r (within r (among_first r rs r (same_self r))),
  among_each w rs all (λ s among. within s (among_later r rs s among)) owned,
)

module _ (tree : PProgram) (code : Code) (texts : Texts) (w : World) (lay : Layout) (img : Image) (by : PicturesBy tree code texts w lay img) (ok : IsOk (scopes_of tree) IsWholeInstance w) where
  abbrev sc : Scopes
  sc = scopes_of tree

  -- who has an instance of its own lives
  pub owner_lives : (n : ℕ) (y : Process) → numbered w.processes n ≡ Some y → (i : ℕ) → IsInSkeleton (own_instances y.todo) i → lives y.state ≡ true
  owner_lives n y is i inside = by_picture (by.each n y is)
    where
      by_picture : Pictured tree code texts w lay img n y → lives y.state ≡ true
      by_picture (living alive s l) = alive
      by_picture (dead ended_is s) =
          absurd (subst (λ (is : List ℕ). IsInSkeleton is i) (ok.sound.skeleton_ok.ended n (stack_of y) (stack_forth w n y is) (ap (λ (x : State). lives x) ended_is)) inside)

  -- what stands is owned by a process that lives
  pub owned_standing : (i : ℕ) → IsStanding w i → IsOwned w i
  owned_standing i st =
      let h : IsInStack tree code texts w lay img by ok i = in_stack tree code texts w lay img by ok i st in
      record { number = h.number; process = h.process; is = h.is; alive = owner_lives h.number h.process h.is i h.inside; own = own_listed h.process.todo i h.inside }

  -- what a process that lives waits for stands
  pub awaited_stands : (k : ℕ) (q : Process) → numbered w.processes k ≡ Some q → lives q.state ≡ true → (r : Reference) → IsAwaited q.state r → IsStanding w r.instance
  awaited_stands k q is alive r awaited =
      let head : HasHead q.todo = (ok.sound.processes k q is).heads alive in
      stands_path (skeleton w) ok.sound.skeleton_ok _ r.instance
      (subst (λ (ps : List Part). IsStanding w (newest_own ps)) (sym head.is) (newest_stands w ok.sound.skeleton_ok k q head.part head.outer is head.is))
      ((ok.sound.processes k q is).awaited r awaited)

  -- a process that waits for the event at a place
  pub record WaitsHere (r : Reference) (at : Place) (k : ℕ) : Type 0 where
    pub process : Process
    pub is : numbered w.processes k ≡ Some process
    pub alive : lives process.state ≡ true
    pub owned : AllOwned w (list_in process.state)
    -- what it waits for lies on its path
    pub inside : IsInSkeleton (own_instances process.todo) (newest_own process.todo)
    pub paths : (s : Reference) → reference_is_among (list_in process.state) s ≡ true → IsOnPath w (newest_own process.todo) s.instance
    pub within : (to : Place) → to ≢ at → IsListed (waiters_at to img.events) k → event_is_among (list_of k img.lists) to ≡ true

  module _ (r : Reference) (at : Place) (lies : IsEventAt (scopes_of tree) w lay r at) where
    -- whatever waits for it in the world
    pub waits_here : (k : ℕ) → Awaits ((process_at w k).state) r → WaitsHere r at k
    waits_here k awaits =
        record {
          process = h.process;
          is = h.is;
          alive = h.alive;
          owned = among_each w (list_in (h.process).state) (list_in (h.process).state) (λ s among. among) (λ s among. owned_standing s.instance (awaited_stands k h.process h.is h.alive s (in_list (h.process).state s among)));
          inside = subst (λ (ps : List Part). IsInSkeleton (own_instances ps) (newest_own ps)) (sym head.is) (newest_inside w ok.sound.skeleton_ok k h.process head.part head.outer h.is head.is);
          paths = λ s among. (ok.sound.processes k h.process h.is).awaited s (in_list (h.process).state s among);
          within = λ to other listed. by_state (h.process).state (numbered img.states k) state_of_it (state_is (by.each k h.process h.is)) to other (by.waits.awaiting k to listed);
        }
      where
        h : LivesIn w k
        h = lives_waiting w k ((process_at w k).state) refl (awaits_lives ((process_at w k).state) r awaits)

        head : HasHead (h.process).todo
        head = (ok.sound.processes k h.process h.is).heads h.alive

        state_of_it : Awaits (h.process).state r
        state_of_it = subst (λ (q : Process). Awaits q.state r) (process_is w k h.process h.is) awaits

        in_list : (x : State) (s : Reference) → reference_is_among (list_in x) s ≡ true → IsAwaited x s
        in_list (waits_any rs) s e = e
        in_list (waits_for t) s e = cc
        in_list (procures t) s e = cc
        in_list able s e = cc
        in_list ended s e = cc

        state_is : Pictured tree code texts w lay img k h.process → StateIs sc w lay (h.process).state (numbered img.states k)
        state_is (living alive s l) = s
        state_is (dead ended_is s) = true_false h.alive (ap lives ended_is)

        by_state : (x : State) (o : Option ProcessState) → Awaits x r → StateIs sc w lay x o → (to : Place) → to ≢ at → AwaitsAt o (list_of k img.lists) to → event_is_among (list_of k img.lists) to ≡ true
        by_state (waits_any rs) (Some WaitsAny) a is to other there = there
        by_state (waits_for s) (Some (WaitsFor here)) a is to other there =
            absurd (other (sym there ∙ one_place sc w lay r here at (subst (λ (x : Reference). IsEventAt sc w lay x here) a is) lies))
        by_state (waits_any rs) _ a is to other there = absurd is
        by_state (waits_for s) _ a is to other there = absurd is
        by_state able o a is to other there = absurd a
        by_state (procures s) o a is to other there = absurd a
        by_state ended o a is to other there = absurd a

  -- who waits to procure an event waits for none to happen
  pub procures_unlisted : (k : ℕ) (r : Reference) → (process_at w k).state ≡ procures r → ((to : Place) → IsListed (waiters_at to img.events) k → ⊥) × (list_of k img.lists ≡ [])
  procures_unlisted k r procuring = (
    (λ to listed. by_state (h.process).state (numbered img.states k) state_of_it (state_is (by.each k h.process h.is)) to (by.waits.awaiting k to listed)),
    none_listed sc w lay (list_in ((process_at w k).state)) (list_of k img.lists) (ap list_in procuring) (by.waits.lists k),
  )
    where
      h : LivesIn w k
      h = lives_waiting w k (procures r) procuring refl

      state_of_it : (h.process).state ≡ procures r
      state_of_it = ap (λ (q : Process). q.state) (sym (process_is w k h.process h.is)) ∙ procuring

      state_is : Pictured tree code texts w lay img k h.process → StateIs sc w lay (h.process).state (numbered img.states k)
      state_is (living alive s l) = s
      state_is (dead ended_is s) = true_false h.alive (ap lives ended_is)

      by_state : (x : State) (o : Option ProcessState) → x ≡ procures r → StateIs sc w lay x o → (to : Place) → AwaitsAt o (list_of k img.lists) to → ⊥
      by_state (procures s) (Some (Procures here)) a is to there = there
      by_state (procures s) _ a is to there = absurd is
      by_state (waits_any rs) o a is to there = cc
      by_state (waits_for s) o a is to there = cc
      by_state able o a is to there = cc
      by_state ended o a is to there = cc
