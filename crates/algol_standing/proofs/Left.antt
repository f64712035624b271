-- Nothing that an instance in use refers to is left.
use Rattle.std.proofs.Common.{◌≡◌, ◌⊎◌, ℕ, zero, suc, ◌≤◌, List, ◌∷◌, ◌++◌, Some, true, false, refl, sym, ap, ◌∙◌, subst, arith}
use Rattle.b67_list.specs.Numbered.{numbered}
use Rattle.b67_list.proofs.Numbers.{none_some}
use Rattle.algol_tree.specs.Scopes.{Scopes}
use Rattle.algol_meaning.specs.Value.{Reference}
use Rattle.algol_meaning.specs.World.{Instance, instance_at, Process, lives, World}
use Rattle.algol_standing.specs.Skeleton.{Evaluation, IsEvaluated, IsInSkeleton}
use Rattle.algol_standing.specs.Worlds.{parent_in, referred_in_cells, home_of, newest_own, held_by, stack_of, skeleton, IsStanding, IsWholeInstance, IsSound}
use Rattle.algol_standing.specs.Laws.{WhatIsReferredToStands, ReferencesLieOnPaths}
use Rattle.algol_standing.proofs.Standing.{stands_path}
use Rattle.algol_standing.proofs.Pairs.{stack_forth, home_forth}
use Rattle.algol_standing.proofs.Seen.{in_back, there, instance_is}
use Rattle.algol_standing.proofs.Fine.{held_at, part_stands_in}

module _ (sc : Scopes) (Whole : World → ℕ → Type 0) (w : World) (ok : IsSound sc Whole w) where
  in_use : (i : ℕ) → IsStanding w i → (instance_at w i).left ≡ false
  in_use i st = let x = there sc Whole w ok i st in ap (λ (y : Instance). y.left) (instance_is sc Whole w ok i x.0 x.1) ∙ (ok.instances i x.0 x.1).left.1 st

  refers : (i r : ℕ) (x : Instance) → numbered w.instances i ≡ Some x → x.left ≡ false → IsInSkeleton (home_of x).refs r → (instance_at w r).left ≡ false
  refers i r x e f n =
      let st = (ok.instances i x e).left.0 f in
      in_use r (stands_path (skeleton w) ok.skeleton_ok i r st (ok.skeleton_ok.refers i (home_of x) r st (home_forth w i x e) n))

  is_parent : (j : ℕ) (is : List ℕ) → 1 ≤ j → IsInSkeleton (parent_in j ++ is) j
  is_parent zero is h = absurd (omega (arith, h))
  is_parent (suc j) is h = ◌⊎◌.inl refl

  critical : (p c : ℕ) (q : Process) → numbered w.processes p ≡ Some q → lives q.state ≡ true → q.critical ≡ Some c → IsStanding w c
  critical p c q e live f = ok.skeleton_ok.holds p (stack_of q) c (stack_forth w p q e) live f

  pub task : (p : ℕ) (q : Process) (r : Reference) → numbered w.processes p ≡ Some q → lives q.state ≡ true → q.task ≡ Some r → IsStanding w r.instance
  task zero q r e live f = none_some e
  task (suc zero) q r e live f = none_some (sym (ok.first q e).1 ∙ f)
  task (suc (suc p)) q r e live f =
      let c = ok.later p q e in
      stands_path (skeleton w) ok.skeleton_ok c.0 r.instance (critical (suc (suc p)) c.0 q e live c.1) (ok.tasks (suc (suc p)) c.0 q r e live c.1 f)

pub what_is_referred_to_stands : WhatIsReferredToStands
what_is_referred_to_stands sc w ok =
    record {
      parents = λ i x e f h. refers sc IsWholeInstance w ok.sound i x.parent x e f (is_parent sc IsWholeInstance w ok.sound x.parent (referred_in_cells x.cells) h);
      cells = λ i r x e f n. refers sc IsWholeInstance w ok.sound i r x e f (in_back (parent_in x.parent) (referred_in_cells x.cells) r n);
      criticals = λ p c q e live f. in_use sc IsWholeInstance w ok.sound c (critical sc IsWholeInstance w ok.sound p c q e live f);
      tasks = λ p q r e live f. in_use sc IsWholeInstance w ok.sound r.instance (task sc IsWholeInstance w ok.sound p q r e live f);
      parts = λ p q x i e n m. in_use sc IsWholeInstance w ok.sound i (part_stands_in w ok.sound.skeleton_ok p q x i e n m);
    }

pub references_lie_on_paths : ReferencesLieOnPaths
references_lie_on_paths sc w ok =
    record {
      instances = λ i r x e f n. ok.sound.skeleton_ok.refers i (home_of x) r ((ok.sound.instances i x e).left.0 f) (home_forth w i x e) n;
      parts =
          λ p q newer older x i e f m.
          let held : Evaluation = record { over = newest_own (x ∷ older); within = i } in
          ok.sound.skeleton_ok.evaluates p (stack_of q) held (stack_forth w p q e) (subst (λ ps. IsEvaluated (held_by ps) held) (sym f) (held_at newer x older i m));
      tasks = λ p c q r e live f g. ok.sound.tasks p c q r e live f g;
    }
