-- A process leaves the newest instances of its stack, and goes on with the parts below, or ends.
use Rattle.std.proofs.Common.{◌≡◌, ◌⊎◌, ℕ, zero, suc, ◌<◌, ◌≤◌, List, [], ◌∷◌, ◌++◌, length, Some, Bool, true, false, refl, sym, ap, ◌∙◌, subst, arith}
use Rattle.std.specs.Prelude.{slice_get, ◌&&◌}
use Rattle.b67_limits.specs.declared.TheConstants.{MOST_EVENTS}
use Rattle.b67_list.specs.Numbered.{numbered, set_numbered}
use Rattle.b67_list.proofs.Numbered.{numbered_set}
use Rattle.b67_list.proofs.Numbers.{number_itself}
use Rattle.b67_list.proofs.Truths.{or_left, or_right}
use Rattle.algol_tree.specs.Scopes.{Scopes}
use Rattle.algol_meaning.specs.Value.{Reference}
use Rattle.algol_meaning.specs.World.{Instance, instance_at, cell_in, cell_at, Part, Process, State, able, lives, with_process, World}
use Rattle.algol_meaning.specs.Critical.{is_this, some_depends, some_depends_on_any, is_evaluation, own_instances}
use Rattle.algol_meaning.specs.Instances.{leave}
use Rattle.algol_meaning.proofs.Cited.{leave_processes}
use Rattle.algol_laws.proofs.Cells.{numbered_other}
use Rattle.algol_paths.specs.Arrays.{all_to_make}
use Rattle.algol_standing.specs.Skeleton.{Stack, Skeleton, IsInSkeleton, SkeletonStands, OnPath, SkeletonOk, AreFree}
use Rattle.algol_standing.specs.Worlds.{held_by, stack_of, skeleton, IsStanding, IsOnPath, IsOwn, IsAmongParts, IsAwaited, HasHead, IsWholeInstance, ProcessOk, InstanceOk, IsSound}
use Rattle.algol_standing.proofs.Lists.{some_same, same_or_other}
use Rattle.algol_standing.proofs.Pairs.{stack_forth, stack_back}
use Rattle.algol_standing.proofs.Changed.{listed_still}
use Rattle.algol_standing.proofs.Fine.{Fine, part_stands_in}
use Rattle.algol_standing.proofs.Unmoved.{unmoved_self}
use Rattle.algol_standing.proofs.Acted.{IsStillMade}
use Rattle.algol_standing.proofs.Carried.{part_kept, unmoved_kept, tasks_kept, instance_kept}
use Rattle.algol_standing.proofs.Dropped.{dropped, dropped_stood, dropped_stands, dropped_ok, dropped_path, ended_ok, ended_path}
use Rattle.algol_standing.proofs.PathOrder.{and_true}
use Rattle.algol_standing.proofs.Awaiting.{no_list}
use Rattle.algol_standing.proofs.Stacks.{numbered_cases, skeleton_with, leave_homes, leave_length, leave_same, IsLeftAs, leave_back}

-- ---- no live process depends on them

depends : (qs : List Process) (k i : ℕ) (y : Process) → slice_get qs k ≡ Some y → lives y.state ≡ true → y.critical ≡ Some i → some_depends qs i ≡ true
depends [] k i y e l c = cc
depends (q ∷ qs) zero i y e l c =
    let same : q ≡ y = cc in
    or_left (lives q.state && is_this q.critical i) (some_depends qs i)
    (and_true (lives q.state) (is_this q.critical i) (ap (λ (z : Process). lives z.state) same ∙ l)
    (ap (λ (z : Process). is_this z.critical i) same ∙ (ap (λ o. is_this o i) c ∙ number_itself i)))
depends (q ∷ qs) (suc k) i y e l c = or_right (lives q.state && is_this q.critical i) (some_depends qs i) (depends qs k i y e l c)

depends_on_one : (qs : List Process) (is : List ℕ) (i : ℕ) → IsInSkeleton is i → some_depends qs i ≡ true → some_depends_on_any qs is ≡ true
depends_on_one qs [] i n e = absurd n
depends_on_one qs (j ∷ is) i (◌⊎◌.inl f) e = or_left (some_depends qs j) (some_depends_on_any qs is) (ap (λ k. some_depends qs k) f ∙ e)
depends_on_one qs (j ∷ is) i (◌⊎◌.inr n) e = or_right (some_depends qs j) (some_depends_on_any qs is) (depends_on_one qs is i n e)

both_false : {A : Type 0} (b : Bool) → b ≡ true → b ≡ false → A
both_false b e f = let no : true ≡ false = sym e ∙ f in cc

pub free_of : (w : World) (is : List ℕ) → some_depends_on_any w.processes is ≡ false → AreFree (skeleton w) is
free_of w is none i n k y e live c = by (stack_back w k y e)
  where
    at : (k : ℕ) (x : Process) → numbered w.processes k ≡ Some x → lives x.state ≡ true → x.critical ≡ Some i → ⊥
    at zero x f l d = cc
    at (suc j) x f l d = both_false (some_depends_on_any w.processes is) (depends_on_one w.processes is i n (depends w.processes j i x f l d)) none

    by : ((y.own ≡ []) × (y.evaluations ≡ []) × (y.live ≡ false)) ⊎ ((x : Process) × (numbered w.processes k ≡ Some x) × (y ≡ stack_of x)) → ⊥
    by (◌⊎◌.inl f) = both_false y.live live f.2
    by (◌⊎◌.inr f) = at k f.0 f.1 (ap (λ (z : Stack). z.live) (sym f.2) ∙ live) (ap (λ (z : Stack). z.critical) (sym f.2) ∙ c)

-- how a process goes on once it left these: it lives, or they were one, and its last
abbrev pub GoesOrEnds : List ℕ → List Part → State → Type 0
GoesOrEnds newer parts s = (lives s ≡ true) ⊎ ((i : ℕ) × (newer ≡ i ∷ []) × (own_instances parts ≡ []) × (lives s ≡ false))

module _ (sc : Scopes) (w : World) (ok : IsSound sc IsWholeInstance w) (p : ℕ) (q : Process) (is : numbered w.processes p ≡ Some q) (able_is : q.state ≡ able) (newer : List ℕ) (parts : List Part) (s : State)
    (own_is : own_instances q.todo ≡ newer ++ own_instances parts) (fine : Fine sc w parts) (heads : lives s ≡ true → HasHead parts) (awaits_none : (r : Reference) → IsAwaited s r → ⊥)
    (owned : (i : ℕ) → IsOwn parts i → IsOwn q.todo i)
    (still : (x : Part) → IsAmongParts q.todo x → is_evaluation x.purpose ≡ false → all_to_make x.rest ≡ [] → IsInSkeleton newer x.instance ⊎ IsStillMade parts x)
    (none : some_depends_on_any w.processes newer ≡ false) (how : GoesOrEnds newer parts s) where
  abbrev pub goer : Process
  goer = record q { todo = parts; state = s }

  abbrev pub left_world : World
  left_world = with_process (leave w newer) p goer

  live : lives q.state ≡ true
  live = ap lives able_is

  at : slice_get (skeleton w).stacks p ≡ Some (stack_of q)
  at = stack_forth w p q is

  abbrev t : Skeleton
  t = dropped (skeleton w) ok.skeleton_ok p (stack_of q) at newer (own_instances parts) own_is (held_by parts) (lives s)

  processes_are : left_world.processes ≡ set_numbered w.processes p goer
  processes_are = ap (λ ps. set_numbered ps p goer) (leave_processes w newer)

  skeleton_is : skeleton left_world ≡ t
  skeleton_is = skeleton_with w left_world p q goer is processes_are (leave_homes w newer)

  t_ok : SkeletonOk t
  t_ok = by how
    where
      by : GoesOrEnds newer parts s → SkeletonOk t
      by (◌⊎◌.inl f) = dropped_ok (skeleton w) ok.skeleton_ok p (stack_of q) at newer (own_instances parts) own_is (held_by parts) (lives s) (free_of w newer none) fine.holds live f
      by (◌⊎◌.inr f) =
          ended_ok (skeleton w) ok.skeleton_ok p (stack_of q) at newer (own_instances parts) own_is (held_by parts) (lives s) (free_of w newer none) fine.holds f.0 f.1 f.2 f.3

  t_path : (a b : ℕ) → IsOnPath w a b → (IsInSkeleton newer a → ⊥) → OnPath t a b
  t_path a b l out = by how
    where
      by : GoesOrEnds newer parts s → OnPath t a b
      by (◌⊎◌.inl f) =
          dropped_path (skeleton w) ok.skeleton_ok p (stack_of q) at newer (own_instances parts) own_is (held_by parts) (lives s) (free_of w newer none) fine.holds live f a b l out
      by (◌⊎◌.inr f) =
          ended_path (skeleton w) ok.skeleton_ok p (stack_of q) at newer (own_instances parts) own_is (held_by parts) (lives s) (free_of w newer none) fine.holds f.0 f.1 f.2 f.3 a b l out

  after : SkeletonOk (skeleton left_world)
  after = subst (λ (z : Skeleton). SkeletonOk z) (sym skeleton_is) t_ok

  pub stood : (i : ℕ) → IsStanding left_world i → IsStanding w i × (IsInSkeleton newer i → ⊥)
  stood i st = dropped_stood (skeleton w) ok.skeleton_ok p (stack_of q) at newer (own_instances parts) own_is (held_by parts) (lives s) i (subst (λ (z : Skeleton). SkeletonStands z i) skeleton_is st)

  stands_on : (i : ℕ) → IsStanding w i → (IsInSkeleton newer i → ⊥) → IsStanding left_world i
  stands_on i st out =
      subst (λ (z : Skeleton). SkeletonStands z i) (sym skeleton_is)
      (dropped_stands (skeleton w) ok.skeleton_ok p (stack_of q) at newer (own_instances parts) own_is (held_by parts) (lives s) i st out)

  paths : (a b : ℕ) → IsStanding w a → IsStanding left_world a → IsOnPath w a b → IsOnPath left_world a b
  paths a b st_w st_v l = subst (λ (z : Skeleton). OnPath z a b) (sym skeleton_is) (t_path a b l (stood a st_v).1)

  blocks : (i : ℕ) → i < length (skeleton w).homes → (instance_at left_world i).block ≡ (instance_at w i).block
  blocks i h = leave_same (λ (x : Instance). x.block) (λ x. refl) w newer i

  then_at : numbered left_world.processes p ≡ Some goer
  then_at = ap (λ ps. numbered ps p) processes_are ∙ numbered_set w.processes p q goer is

  -- another process is what it was
  other_at : (k : ℕ) → (p ≡ k → ⊥) → numbered left_world.processes k ≡ numbered w.processes k
  other_at k out = ap (λ ps. numbered ps k) processes_are ∙ numbered_other w.processes p k goer out

  whole : (i : ℕ) → IsStanding left_world i → IsWholeInstance w i → IsWholeInstance left_world i
  whole i st h = by (same_or_other p h.number)
    where
      acting : IsInSkeleton newer h.part.instance ⊎ IsStillMade parts h.part → IsWholeInstance left_world i
      acting (◌⊎◌.inl n) = absurd ((stood i st).1 (subst (λ j. IsInSkeleton newer j) h.instance_is n))
      acting (◌⊎◌.inr m) =
          record {
            number = p;
            process = goer;
            part = m.part;
            is = then_at;
            among = m.among;
            owns = m.owns;
            instance_is = m.instance_is ∙ h.instance_is;
            made = m.made;
          }

      by : (p ≡ h.number) ⊎ (p ≡ h.number → ⊥) → IsWholeInstance left_world i
      by (◌⊎◌.inl f) =
          let same : h.process ≡ q = some_same h.is (ap (λ k. numbered w.processes k) (sym f) ∙ is) in
          acting (still h.part (subst (λ (z : Process). IsAmongParts z.todo h.part) same h.among) h.owns h.made)
      by (◌⊎◌.inr f) =
          record {
            number = h.number;
            process = h.process;
            part = h.part;
            is = other_at h.number f ∙ h.is;
            among = h.among;
            owns = h.owns;
            instance_is = h.instance_is;
            made = h.made;
          }

  -- ---- each process was one

  was : (k : ℕ) (y : Process) → numbered left_world.processes k ≡ Some y →
      ((p ≡ k) × (y ≡ goer)) ⊎ ((p ≡ k → ⊥) × (numbered w.processes k ≡ Some y))
  was k y e = by (numbered_cases w.processes p k goer y (ap (λ ps. numbered ps k) (sym processes_are) ∙ e))
    where
      by : ((p ≡ k) × (y ≡ goer) × (x : Process) × (numbered w.processes k ≡ Some x)) ⊎ ((p ≡ k → ⊥) × (numbered w.processes k ≡ Some y)) →
          ((p ≡ k) × (y ≡ goer)) ⊎ ((p ≡ k → ⊥) × (numbered w.processes k ≡ Some y))
      by (◌⊎◌.inl f) = ◌⊎◌.inl (f.0, f.1)
      by (◌⊎◌.inr f) = ◌⊎◌.inr f

  -- .. with the same critical instance and task
  record WasAs (k : ℕ) (y : Process) : Type 0 where
    before : Process
    at_k : numbered w.processes k ≡ Some before
    critical : y.critical ≡ before.critical
    task : y.task ≡ before.task
    lived : lives y.state ≡ true → lives before.state ≡ true
    owns : (i : ℕ) → IsOwn y.todo i → IsOwn before.todo i

  was_as : (k : ℕ) (y : Process) → numbered left_world.processes k ≡ Some y → WasAs k y
  was_as k y e = by (was k y e)
    where
      acting : p ≡ k → WasAs k goer
      acting f =
          record {
            before = q;
            at_k = ap (λ j. numbered w.processes j) (sym f) ∙ is;
            critical = refl;
            task = refl;
            lived = λ l. live;
            owns = owned;
          }

      by : ((p ≡ k) × (y ≡ goer)) ⊎ ((p ≡ k → ⊥) × (numbered w.processes k ≡ Some y)) → WasAs k y
      by (◌⊎◌.inl f) = subst (λ z. WasAs k z) (sym f.1) (acting f.0)
      by (◌⊎◌.inr f) = record { before = y; at_k = f.1; critical = refl; task = refl; lived = λ l. l; owns = λ i n. n }

  then_ok : ProcessOk sc IsWholeInstance left_world goer
  then_ok =
      record {
        parts = λ x n. part_kept sc w left_world ok after paths blocks whole x
            (λ i m. let st = part_stands_in left_world after p goer x i then_at n m in ((stood i st).0, st)) (fine.each x n);
        heads = heads;
        gives = fine.given;
        awaited = λ r n. absurd (awaits_none r n);
        few = (((ok.processes p q is).few).0, subst (λ rs. length rs ≤ MOST_EVENTS) (sym (no_list s awaits_none)) (omega (arith)));
      }

  process_then : (k : ℕ) (y : Process) → numbered left_world.processes k ≡ Some y → ProcessOk sc IsWholeInstance left_world y
  process_then k y e = by (was k y e)
    where
      by : ((p ≡ k) × (y ≡ goer)) ⊎ ((p ≡ k → ⊥) × (numbered w.processes k ≡ Some y)) → ProcessOk sc IsWholeInstance left_world y
      by (◌⊎◌.inl f) = subst (λ z. ProcessOk sc IsWholeInstance left_world z) (sym f.1) then_ok
      by (◌⊎◌.inr f) = unmoved_kept sc w left_world ok after paths blocks whole k y y f.1 e (unmoved_self y)

  instance_then : (i : ℕ) (y : Instance) → numbered left_world.instances i ≡ Some y → InstanceOk sc IsWholeInstance left_world i y
  instance_then i y e = by (leave_back w newer i y e)
    where
      by : (x : Instance) × (numbered w.instances i ≡ Some x) × IsLeftAs newer i x y → InstanceOk sc IsWholeInstance left_world i y
      by m = instance_kept sc w left_world ok after paths blocks whole i m.0 y m.1 m.2.block m.2.parent m.2.cells (stands_then m.2.left, stood_then m.2.left) (λ st. (stood i st).0)
        where
          old : InstanceOk sc IsWholeInstance w i m.0
          old = ok.instances i m.0 m.1

          stands_then : (IsInSkeleton newer i × (y.left ≡ true)) ⊎ ((IsInSkeleton newer i → ⊥) × (y.left ≡ (m.0).left)) → y.left ≡ false → IsStanding left_world i
          stands_then (◌⊎◌.inl f) g = both_false y.left f.1 g
          stands_then (◌⊎◌.inr f) g = stands_on i (old.left.0 (sym f.1 ∙ g)) f.0

          stood_then : (IsInSkeleton newer i × (y.left ≡ true)) ⊎ ((IsInSkeleton newer i → ⊥) × (y.left ≡ (m.0).left)) → IsStanding left_world i → y.left ≡ false
          stood_then (◌⊎◌.inl f) st = absurd ((stood i st).1 f.0)
          stood_then (◌⊎◌.inr f) st = f.1 ∙ old.left.1 (stood i st).0

  cells_same : (r : Reference) → cell_at left_world r ≡ cell_at w r
  cells_same r = leave_same (λ (x : Instance). cell_in x.cells r.name) (λ x. refl) w newer r.instance

  pub left_ok : IsSound sc IsWholeInstance left_world
  left_ok =
      record {
        skeleton_ok = after;
        instances = instance_then;
        processes = process_then;
        older = λ k c y e l cr i n. let m = was_as k y e in ok.older k c m.before m.at_k (m.lived l) (sym m.critical ∙ cr) i (m.owns i n);
        first = λ y e. let m = was_as 1 y e in let f = ok.first m.before m.at_k in (m.critical ∙ f.0, m.task ∙ f.1);
        later = λ k y e. let m = was_as (suc (suc k)) y e in let f = ok.later k m.before m.at_k in (f.0, m.critical ∙ f.1);
        criticals = λ k c y e cr. let m = was_as k y e in subst (λ l. c ≤ l) (sym (leave_length w newer)) (ok.criticals k c m.before m.at_k (sym m.critical ∙ cr));
        earlier = λ k c y e cr.
            let m = was_as k y e in
            subst (λ j. j < k) (sym (leave_same (λ (x : Instance). x.process) (λ x. refl) w newer c)) (ok.earlier k c m.before m.at_k (sym m.critical ∙ cr));
        tasks = λ k c y r e l cr g.
            let m = was_as k y e in
            tasks_kept sc w left_world ok after paths blocks whole k c m.before y r m.at_k e m.critical m.task (m.lived l) l cr g;
        listed = λ r e st f. listed_still w left_world p q goer is able_is processes_are r e (ok.listed r e (stood r.instance st).0 (sym (cells_same r) ∙ f));
      }
