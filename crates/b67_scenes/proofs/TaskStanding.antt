-- The event of a process's task is in an instance that stands, and is older than all of the process's own.
use Rattle.std.proofs.Common.{◌≡◌, inl, inr, refl, sym, ◌∙◌, subst, ℕ, zero, suc, ◌<◌, ◌≤◌, Bool, true, false, List, [], ◌∷◌, Option, Some, arith}
use Rattle.b67_list.proofs.Numbers.{none_some}
use Rattle.b67_scenes.proofs.Prelude.{slice_get, numbered, Scopes, own_instances, Reference, Process, lives, World, map_back, stack_forth, IsOk, Stack, Home, IsInSkeleton, NextIn, SkeletonNext, here, down, IsOwn, IsStanding, IsOnPath, IsWholeInstance, skeleton, stack_of, some_same}
use Rattle.algol_standing.specs.Skeleton.{Owned}
use Rattle.algol_standing.proofs.Laws.{paths_stand}
use Rattle.b67_scenes.proofs.Worlds.{own_listed}

-- in a stack, or from its base to its critical instance, what lies below is older
next_older : (homes : List Home) (p : ℕ) (c : Option ℕ) (xs : List ℕ) (a b : ℕ) → Owned homes p xs → ((x : ℕ) → IsInSkeleton xs x → (d : ℕ) → c ≡ Some d → d < x) → NextIn c xs a b → b < a
next_older homes p c [] a b owned older n = absurd n
next_older homes p c (x ∷ []) a b owned older n = subst (λ (k : ℕ). b < k) n.0 (older x (inl refl) b n.1)
next_older homes p c (x ∷ y ∷ r) a b owned older (inl n) = subst (λ (k : ℕ). b < k) n.0 (subst (λ (k : ℕ). k < x) n.1 (owned.3 y (inl refl)))
next_older homes p c (x ∷ y ∷ r) a b owned older (inr n) = next_older homes p c (y ∷ r) a b owned.4 (λ z inside. older z (inr inside)) n

-- a list in which one stands is not empty
not_empty : {A : Type 0} (c : Option ℕ) (xs : List ℕ) (a b : ℕ) → NextIn c xs a b → xs ≡ [] → A
not_empty c [] a b n none = absurd n
not_empty c (x ∷ xs) a b n none = cc

module _ (sc : Scopes) (w : World) (ok : IsOk sc IsWholeInstance w) where
  step_older : (a b : ℕ) → SkeletonNext (skeleton w) a b → b < a
  step_older a b n = by_number n.number n.is
    where
      by_process : (k : ℕ) (q : Process) → numbered w.processes k ≡ Some q → n.stack ≡ stack_of q → b < a
      by_process k q is same = by_live (lives q.state) refl
        where
          next : NextIn q.critical (own_instances q.todo) a b
          next = subst (λ (s : Stack). NextIn s.critical s.own a b) same n.next

          by_live : (t : Bool) → lives q.state ≡ t → b < a
          by_live true alive =
              next_older (skeleton w).homes k q.critical (own_instances q.todo) a b (ok.sound.skeleton_ok.owned k (stack_of q) (stack_forth w k q is))
              (λ x inside d depends. ok.sound.older k d q is alive depends x (own_listed q.todo x inside)) next
          by_live false gone =
              not_empty q.critical (own_instances q.todo) a b next (ok.sound.skeleton_ok.ended k (stack_of q) (stack_forth w k q is) gone)

      by_number : (k : ℕ) → slice_get (skeleton w).stacks k ≡ Some n.stack → b < a
      by_number zero e = absurd (subst (λ (s : Stack). NextIn s.critical s.own a b) (sym (some_same e)) n.next)
      by_number (suc k) e = let back = map_back stack_of w.processes k n.stack e in by_process (suc k) back.0 back.1 back.2

  path_older : (a b : ℕ) → IsOnPath w a b → b ≤ a
  path_older a b (here) = omega arith
  path_older a b (down {b = c} n rest) = omega (arith, step_older a c n, path_older c b rest)

  -- the instance of a task's event
  pub record TaskStands (q : Process) (r : Reference) : Type 0 where
    pub stands : IsStanding w r.instance
    pub older : (i : ℕ) → IsOwn q.todo i → r.instance < i

  pub task_stands : (p : ℕ) (q : Process) → numbered w.processes p ≡ Some q → lives q.state ≡ true → (r : Reference) → q.task ≡ Some r → TaskStands q r
  task_stands zero q is alive r has = none_some is
  task_stands (suc zero) q is alive r has = none_some (sym (ok.sound.first q is).1 ∙ has)
  task_stands (suc (suc k)) q is alive r has =
      let depends : (c : ℕ) × (q.critical ≡ Some c) = ok.sound.later k q is in
      let path : IsOnPath w depends.0 r.instance = ok.sound.tasks (suc (suc k)) depends.0 q r is alive depends.1 has in
      let critical : IsStanding w depends.0 = ok.sound.skeleton_ok.holds (suc (suc k)) (stack_of q) depends.0 (stack_forth w (suc (suc k)) q is) alive depends.1 in
      record {
        stands = paths_stand.stands (skeleton w) depends.0 r.instance ok.sound.skeleton_ok critical path;
        older = λ i own. omega (arith, path_older depends.0 r.instance path, ok.sound.older (suc (suc k)) depends.0 q is alive depends.1 i own);
      }
