-- A world in which only the state and the woken number of a process are others, and it lives as well: it leaves all processes alone.
use Rattle.std.proofs.Common.{◌≡◌, ◌≢◌, ◌⊎◌, inl, inr, refl, sym, ap, ◌∙◌, subst, ℕ, zero, suc, List, [], ◌∷◌, Some, None, Bool, true, false}
use Rattle.b67_list.proofs.Numbered.{numbered_set}
use Rattle.b67_scenes.proofs.Prelude.{◌&&◌, ◌||◌, slice_get, slice_set, map, numbered, set_numbered, Scopes, is_this, some_depends, Part, Process, State, lives, World, instance_at, with_process, Stack, Skeleton, OnPath, IsAmongParts, IsStanding, IsOnPath, stack_of, skeleton, some_same, same_or_not, numbered_other, HasFacts, IsStandingOrNone, keeps_same, Layout}
use Rattle.algol_standing.specs.Skeleton.{SkeletonStands}
use Rattle.algol_standing.specs.Lows.{WorldLow}
use Rattle.b67_scenes.proofs.Ancestors.{AreLaid}
use Rattle.b67_scenes.proofs.Kept.{LeavesAlone}

-- what is the same of another item is the same of all
map_set : {A B : Type 0} (f : A → B) (xs : List A) (k : ℕ) (x y : A) → slice_get xs k ≡ Some x → f y ≡ f x → map f (slice_set xs k y) ≡ map f xs
map_set f [] k x y is same = refl
map_set f (z ∷ zs) zero x y is same = ap (λ b. b ∷ map f zs) (same ∙ ap f (sym (some_same is)))
map_set f (z ∷ zs) (suc k) x y is same = ap (λ bs. f z ∷ bs) (map_set f zs k x y is same)

module _ (w : World) (m : ℕ) (o : Process) (at : numbered w.processes m ≡ Some o) (state : State) (woken : ℕ) (alive : lives o.state ≡ true) (stays : lives state ≡ true) where
  abbrev o' : Process
  o' = record o { state = state; woken = woken }

  abbrev w' : World
  w' = with_process w m o'

  same_lives : lives state ≡ lives o.state
  same_lives = stays ∙ sym alive

  stack_same : stack_of o' ≡ stack_of o
  stack_same = ap (λ (b : Bool). record (stack_of o) { live = b }) same_lives

  stacks_same : map stack_of w'.processes ≡ map stack_of w.processes
  stacks_same = by_number m at
    where
      by_number : (k : ℕ) → numbered w.processes k ≡ Some o → map stack_of (set_numbered w.processes k o') ≡ map stack_of w.processes
      by_number zero is = refl
      by_number (suc k) is = map_set stack_of w.processes k o o' is stack_same

  skeleton_same : skeleton w' ≡ skeleton w
  skeleton_same = ap (λ (ss : List Stack). record (skeleton w) { stacks = record { own = []; evaluations = []; critical = None; live = false } ∷ ss }) stacks_same

  stand_before : (j : ℕ) → IsStanding w' j → IsStanding w j
  stand_before j st = subst (λ (s : Skeleton). SkeletonStands s j) skeleton_same st

  stand_later : (j : ℕ) → IsStanding w j → IsStanding w' j
  stand_later j st = subst (λ (s : Skeleton). SkeletonStands s j) (sym skeleton_same) st

  path_before : (a b : ℕ) → IsOnPath w' a b → IsOnPath w a b
  path_before a b path = subst (λ (s : Skeleton). OnPath s a b) skeleton_same path

  path_later : (a b : ℕ) → IsOnPath w a b → IsOnPath w' a b
  path_later a b path = subst (λ (s : Skeleton). OnPath s a b) (sym skeleton_same) path

  -- as many depend on each instance
  depends_same : (qs : List Process) (k : ℕ) (i : ℕ) → slice_get qs k ≡ Some o → some_depends (slice_set qs k o') i ≡ some_depends qs i
  depends_same [] k i is = refl
  depends_same (q ∷ qs) zero i is =
      ap (λ (b : Bool). (b && is_this o.critical i) || some_depends qs i) same_lives ∙ ap (λ (x : Process). (lives x.state && is_this x.critical i) || some_depends qs i) (sym (some_same is))
  depends_same (q ∷ qs) (suc k) i is = ap (λ (b : Bool). (lives q.state && is_this q.critical i) || b) (depends_same qs k i is)

  depends_still : (k : ℕ) → numbered w.processes k ≡ Some o → (i : ℕ) → some_depends (set_numbered w.processes k o') i ≡ some_depends w.processes i
  depends_still zero is i = refl
  depends_still (suc k) is i = depends_same w.processes k i is

  -- each process has what it has still to do, and its task
  record WasThere (k : ℕ) (q : Process) : Type 0 where
    before : Process
    is : numbered w.processes k ≡ Some before
    todo : before.todo ≡ q.todo
    task : before.task ≡ q.task

  was_there : (k : ℕ) (q : Process) → numbered w'.processes k ≡ Some q → WasThere k q
  was_there k q is = by_number (same_or_not m k)
    where
      by_number : (m ≡ k) ⊎ (m ≢ k) → WasThere k q
      by_number (inl same) =
          let here : o' ≡ q = some_same (sym (numbered_set w.processes m o o' at) ∙ ap (λ (n : ℕ). numbered w'.processes n) same ∙ is) in
          record { before = o; is = ap (λ (n : ℕ). numbered w.processes n) (sym same) ∙ at; todo = ap (λ (x : Process). x.todo) here; task = ap (λ (x : Process). x.task) here }
      by_number (inr other) = record { before = q; is = sym (numbered_other w.processes m k o' other) ∙ is; todo = refl; task = refl }

  module _ (sc : Scopes) (lay : Layout) (facts : HasFacts w) (laid : AreLaid w lay) where
    facts_later : HasFacts w'
    facts_later =
        record {
          nobody = λ st. facts.nobody (stand_before 0 st);
          there = λ j st. facts.there j (stand_before j st);
          stands = λ j x is stands. stand_later j (facts.stands j x is stands);
          parents = λ j st. later (facts.parents j (stand_before j st));
          cells = λ j r st inside. stand_later r (facts.cells j r (stand_before j st) inside);
          on_path = λ a b st path. stand_later b (facts.on_path a b (stand_before a st) (path_before a b path));
        }
      where
        later : {n : ℕ} → IsStandingOrNone w n → IsStandingOrNone w' n
        later {n} (inl none) = inl none
        later {n} (inr st) = inr (stand_later n st)

    low_world : (b i : ℕ) → WorldLow sc b i w → WorldLow sc b i w'
    low_world b i l =
        record {
          instances = l.instances;
          parts = λ k q part is among. let o : WasThere k q = was_there k q is in l.parts k o.before part o.is (subst (λ (ps : List Part). IsAmongParts ps part) (sym o.todo) among);
          tasks = λ k q r is task. let o : WasThere k q = was_there k q is in l.tasks k o.before r o.is (o.task ∙ task);
        }

    pub alone_still : (r : ℕ) → LeavesAlone sc w (with_process w m (record o { state = state; woken = woken })) lay lay r
    alone_still r =
        record {
          laid = laid;
          on = record {
            before = facts;
            after = facts_later;
            keeps = λ j st later. keeps_same sc w w' lay lay j refl refl;
            places = λ j f is. is;
            paths = λ a b st later path. path_later a b path;
          };
          depends = λ i q older is newest free. depends_still m at i ∙ free;
          lows = λ i x is own stands l. low_world ((instance_at w i).block) i l;
        }
