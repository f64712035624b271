-- The critical instance that PROCESS finds is the first on the starter's path of what the new process refers to, and all of that lies there.
use Rattle.std.proofs.Common.{◌≡◌, ◌⊎◌, ℕ, List, [], ◌∷◌, Option, Some, None, true, refl, sym, ap, subst}
use Rattle.b67_list.specs.Numbered.{numbered}
use Rattle.algol_tree.specs.declared.tree.Named.{Named}
use Rattle.algol_tree.specs.Scopes.{Scopes}
use Rattle.algol_meaning.specs.Rest.{Given}
use Rattle.algol_meaning.specs.World.{instance_at, Part, Process, lives, World}
use Rattle.algol_meaning.specs.Critical.{own_instances, newest_first, first_on_path, referred_by, referred_by_task}
use Rattle.algol_meaning.specs.Asks as asks
use Rattle.algol_meaning.specs.Asks.{ask}
use Rattle.algol_meaning.specs.Choice.{home, given_cells, task_of}
use Rattle.algol_paths.specs.Blocks.{BlockIsSeen, IsSeenAround, IsInner}
use Rattle.algol_paths.specs.Texts.{InName, InGivens}
use Rattle.algol_standing.specs.Skeleton.{IsInSkeleton, FirstOf}
use Rattle.algol_standing.specs.Worlds.{held_in_givens, newest_own, skeleton, IsOnPath, IsNoBlock, IsWholeInstance, IsSound}
use Rattle.algol_standing.specs.Laws.{referred_by_start, StartsLieOnPaths}
use Rattle.algol_standing.proofs.Firsts.{there_is}
use Rattle.algol_standing.proofs.Holding.{AreAll}
use Rattle.algol_standing.proofs.Seen.{CellOk, all_refs, in_either, part_ok, held_ok, home_path, top_inside}
use Rattle.algol_standing.proofs.Asking.{Sees, AskHolds, rest_sees, rest_asks}
use Rattle.algol_standing.proofs.Entering.{own_head}
use Rattle.algol_standing.proofs.Given.{narrow_here, cells_held}
use Rattle.algol_standing.proofs.PathFirst.{first_found}

module _ (sc : Scopes) (w : World) (ok : IsSound sc IsWholeInstance w) (p : ℕ) (q : Process) (part : Part) (outer : List Part) (is : numbered w.processes p ≡ Some q)
    (todo : q.todo ≡ part ∷ outer) where
  abbrev top : ℕ
  top = newest_own (part ∷ outer)

  abbrev j : ℕ
  j = (instance_at w part.instance).block

  -- of instances of which one lies on the path the walk finds the first
  pub first_is : lives q.state ≡ true → (wanted : List ℕ) (x : ℕ) → IsInSkeleton wanted x → IsOnPath w top x →
      FirstOf (skeleton w) wanted top (first_on_path w (newest_first 1 w.instances []) p wanted)
  first_is live wanted x n l = subst (λ i. FirstOf (skeleton w) wanted top i) (sym (by (own_head (part ∷ outer)) (top_inside sc IsWholeInstance w ok p q part outer is todo))) first.1
    where
      first : (d : ℕ) × FirstOf (skeleton w) wanted top d
      first = there_is (skeleton w) ok.skeleton_ok wanted top x n l

      same : newest_own q.todo ≡ top
      same = ap newest_own todo

      by : (own_instances (part ∷ outer) ≡ []) ⊎ ((r : List ℕ) × (own_instances (part ∷ outer) ≡ top ∷ r)) → IsInSkeleton (own_instances (part ∷ outer)) top →
          first_on_path w (newest_first 1 w.instances []) p wanted ≡ first.0
      by (◌⊎◌.inl e) m = absurd (subst (λ xs. IsInSkeleton xs top) e m)
      by (◌⊎◌.inr e) m =
          first_found sc w ok wanted p q e.0 first.0 is live (subst (λ ps. own_instances ps ≡ newest_own ps ∷ e.0) (sym todo) e.1)
          (subst (λ i. FirstOf (skeleton w) wanted i first.0) (sym same) first.1)

  pub task_path : (o : Option Named) → InName (BlockIsSeen sc j) o → (x : ℕ) → IsInSkeleton (referred_by_task (task_of sc w p q part outer o)) x → IsOnPath w top x
  task_path None i x m = absurd m
  task_path (Some t) i x (◌⊎◌.inl f) = subst (λ k. IsOnPath w top k) f (home_path sc IsWholeInstance w ok p q part outer is todo t i)
  task_path (Some t) i x (◌⊎◌.inr m) = absurd m

  module _ (n : Named) (gs : List Given) (task : Option Named) (e : ask part.rest ≡ asks.starts n gs task) where
    seen : Sees (BlockIsSeen sc j) (IsInner sc j) (asks.starts n gs task)
    seen =
        subst (λ y. Sees (BlockIsSeen sc j) (IsInner sc j) y) e
        (rest_sees (BlockIsSeen sc j) (IsInner sc j) (IsSeenAround sc j) (λ n s. s.0) part.rest (part_ok sc IsWholeInstance w ok p q part outer is todo).text)

    narrow : IsWholeInstance w part.instance ⊎ InGivens (IsSeenAround sc j) gs
    narrow = by (subst (λ y. IsWholeInstance w part.instance ⊎ Sees (IsSeenAround sc j) IsNoBlock y) e (narrow_here sc w ok p q part outer is todo))
      where
        by : IsWholeInstance w part.instance ⊎ Sees (IsSeenAround sc j) IsNoBlock (asks.starts n gs task) → IsWholeInstance w part.instance ⊎ InGivens (IsSeenAround sc j) gs
        by (◌⊎◌.inl f) = ◌⊎◌.inl f
        by (◌⊎◌.inr f) = ◌⊎◌.inr f.1

    held : AreAll (CellOk sc IsWholeInstance w ok top) (held_in_givens gs)
    held =
        subst (λ y. AskHolds (CellOk sc IsWholeInstance w ok top) y) e
        (rest_asks (CellOk sc IsWholeInstance w ok top) part.rest (held_ok sc IsWholeInstance w ok p q part outer is todo))

    cells : AreAll (CellOk sc IsWholeInstance w ok top) (given_cells sc w p q part outer gs)
    cells = cells_held sc w ok p q part outer is todo gs seen.1 narrow held

    pub start_refers : (i : ℕ) → IsInSkeleton (referred_by_start sc w p q part outer n gs task) i → IsOnPath w top i
    start_refers i (◌⊎◌.inl f) = subst (λ k. IsOnPath w top k) f (home_path sc IsWholeInstance w ok p q part outer is todo n seen.0)
    start_refers i (◌⊎◌.inr m) = by (in_either (referred_by (given_cells sc w p q part outer gs)) (referred_by_task (task_of sc w p q part outer task)) i m)
      where
        by : IsInSkeleton (referred_by (given_cells sc w p q part outer gs)) i ⊎ IsInSkeleton (referred_by_task (task_of sc w p q part outer task)) i → IsOnPath w top i
        by (◌⊎◌.inl k) = all_refs sc IsWholeInstance w ok top (given_cells sc w p q part outer gs) cells i k
        by (◌⊎◌.inr k) = task_path task seen.2 i k

pub starts_lie_on_paths : StartsLieOnPaths
starts_lie_on_paths sc w p q part outer n gs task ok is todo live e =
    let on_path = start_refers sc w ok.sound p q part outer is todo n gs task e in
    let parent = home sc w p q part outer n in
    record {
      refers = on_path;
      first = first_is sc w ok.sound p q part outer is todo live (referred_by_start sc w p q part outer n gs task) parent (◌⊎◌.inl refl) (on_path parent (◌⊎◌.inl refl));
    }
