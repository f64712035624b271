-- A world in which one process has acted and has the instances that it had; instances stay as they are but for cells, and other processes but for
-- states.
use Rattle.std.proofs.Common.{◌≡◌, ◌⊎◌, ℕ, List, [], Some, false, refl, sym, ◌∙◌, subst}
use Rattle.b67_list.specs.Numbered.{numbered}
use Rattle.algol_tree.specs.Scopes.{Scopes}
use Rattle.algol_meaning.specs.Value.{Reference, event}
use Rattle.b67_deeds.specs.Events.{EventState}
use Rattle.algol_meaning.specs.World.{cell_at, Part, Process, World}
use Rattle.algol_meaning.specs.Critical.{is_evaluation, own_instances}
use Rattle.algol_paths.specs.Arrays.{all_to_make}
use Rattle.algol_standing.specs.Skeleton.{Evaluation, IsEvaluated, IsInSkeleton}
use Rattle.algol_standing.specs.Worlds.{held_by, stack_of, IsStanding, IsOnPath, IsAmongParts, WaitersAreListed, IsWholeInstance, ProcessOk, IsSound}
use Rattle.algol_standing.proofs.Pairs.{AllPairs, numbered_back, numbered_forth, pairs_map, stack_forth}
use Rattle.algol_standing.proofs.Alike.{InstanceAlike, ProcessAlike, alike_ok}
use Rattle.algol_standing.proofs.Unmoved.{Unmoved, unmoved_alike, unmoved_ok}

-- among these parts is one of the same instance, which is its own, and which has nothing to make
pub record IsStillMade (parts : List Part) (x : Part) : Type 0 where
  pub part : Part
  pub among : IsAmongParts parts part
  pub owns : is_evaluation part.purpose ≡ false
  pub instance_is : part.instance ≡ x.instance
  pub made : all_to_make part.rest ≡ []

-- all that had nothing to make still have
abbrev pub AreStillMade : List Part → List Part → Type 0
AreStillMade before after = (x : Part) → IsAmongParts before x → is_evaluation x.purpose ≡ false → all_to_make x.rest ≡ [] → IsStillMade after x

pub still_self : (parts : List Part) (x : Part) → IsAmongParts parts x → is_evaluation x.purpose ≡ false → all_to_make x.rest ≡ [] → IsStillMade parts x
still_self parts x n o m = record { part = x; among = n; owns = o; instance_is = refl; made = m }

module _ (sc : Scopes) (w : World) (ok : IsSound sc IsWholeInstance w) (p : ℕ) (q : Process) (is : numbered w.processes p ≡ Some q) (after : Process) (alike : ProcessAlike q after)
    (okay : ProcessOk sc IsWholeInstance w after)
    (held : (e : Evaluation) → IsEvaluated (held_by after.todo) e → IsInSkeleton (own_instances after.todo) e.over × IsOnPath w e.over e.within)
    (still : AreStillMade q.todo after.todo) where
  -- each process is the one that acts, or it does not move
  abbrev pub Moved : Process → Process → Type 0
  Moved x y = ((x ≡ q) × (y ≡ after)) ⊎ Unmoved x y

  moved_alike : (x y : Process) → Moved x y → ProcessAlike x y
  moved_alike x y (◌⊎◌.inr f) = unmoved_alike x y f
  moved_alike x y (◌⊎◌.inl f) = subst (λ z. ProcessAlike x z) (sym f.1) (subst (λ z. ProcessAlike z after) (sym f.0) alike)

  module _ (v : World) (instances : AllPairs InstanceAlike w.instances v.instances) (processes : AllPairs Moved w.processes v.processes) where
    kept : (i : ℕ) → IsWholeInstance w i → IsWholeInstance v i
    kept i h = by (numbered_forth Moved w.processes v.processes h.number h.process processes h.is)
      where
        here : (y : Process) → numbered v.processes h.number ≡ Some y → y ≡ after → IsStillMade after.todo h.part → IsWholeInstance v i
        here y e g m =
            record {
              number = h.number;
              process = y;
              part = m.part;
              is = e;
              among = subst (λ (z : Process). IsAmongParts z.todo m.part) (sym g) m.among;
              owns = m.owns;
              instance_is = m.instance_is ∙ h.instance_is;
              made = m.made;
            }

        which : (y : Process) → numbered v.processes h.number ≡ Some y → Moved h.process y → IsWholeInstance v i
        which y e (◌⊎◌.inl f) = here y e f.1 (still h.part (subst (λ (z : Process). IsAmongParts z.todo h.part) f.0 h.among) h.owns h.made)
        which y e (◌⊎◌.inr f) =
            record {
              number = h.number;
              process = y;
              part = h.part;
              is = e;
              among = subst (λ ps. IsAmongParts ps h.part) (sym f.todo) h.among;
              owns = h.owns;
              instance_is = h.instance_is;
              made = h.made;
            }

        by : (y : Process) × (numbered v.processes h.number ≡ Some y) × Moved h.process y → IsWholeInstance v i
        by m = which m.0 m.1 m.2

    each : (k : ℕ) (y : Process) → numbered v.processes k ≡ Some y → ProcessOk sc IsWholeInstance w y
    each k y e = by (numbered_back Moved w.processes v.processes k y processes e)
      where
        which : (x : Process) → numbered w.processes k ≡ Some x → Moved x y → ProcessOk sc IsWholeInstance w y
        which x g (◌⊎◌.inl f) = subst (λ z. ProcessOk sc IsWholeInstance w z) (sym f.1) okay
        which x g (◌⊎◌.inr f) = unmoved_ok sc IsWholeInstance w x y f (ok.processes k x g)

        by : (x : Process) × (numbered w.processes k ≡ Some x) × Moved x y → ProcessOk sc IsWholeInstance w y
        by m = which m.0 m.1 m.2

    holds : (k : ℕ) (y : Process) (e : Evaluation) → numbered v.processes k ≡ Some y → IsEvaluated (held_by y.todo) e → IsInSkeleton (own_instances y.todo) e.over × IsOnPath w e.over e.within
    holds k y e g n = by (numbered_back Moved w.processes v.processes k y processes g)
      where
        before : (x : Process) → numbered w.processes k ≡ Some x → IsEvaluated (held_by x.todo) e → IsInSkeleton (own_instances x.todo) e.over × IsOnPath w e.over e.within
        before x h m = ok.skeleton_ok.evaluates k (stack_of x) e (stack_forth w k x h) m

        which : (x : Process) → numbered w.processes k ≡ Some x → Moved x y → IsInSkeleton (own_instances y.todo) e.over × IsOnPath w e.over e.within
        which x h (◌⊎◌.inl f) =
            subst (λ (z : Process). IsInSkeleton (own_instances z.todo) e.over × IsOnPath w e.over e.within) (sym f.1)
            (held e (subst (λ (z : Process). IsEvaluated (held_by z.todo) e) f.1 n))
        which x h (◌⊎◌.inr f) =
            subst (λ ps. IsInSkeleton (own_instances ps) e.over × IsOnPath w e.over e.within) (sym f.todo) (before x h (subst (λ ps. IsEvaluated (held_by ps) e) f.todo n))

        by : (x : Process) × (numbered w.processes k ≡ Some x) × Moved x y → IsInSkeleton (own_instances y.todo) e.over × IsOnPath w e.over e.within
        by m = which m.0 m.1 m.2

    pub acted_ok : ((r : Reference) (e : EventState) → IsStanding w r.instance → cell_at v r ≡ event e → WaitersAreListed v r e) → IsSound sc IsWholeInstance v
    acted_ok listed =
        alike_ok w v instances (pairs_map Moved ProcessAlike moved_alike w.processes v.processes processes) sc IsWholeInstance kept ok each holds listed
