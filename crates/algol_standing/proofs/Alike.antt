-- Worlds that differ only in what cells hold, in what parts have still to do and in states: what stands is the same.
use Rattle.std.proofs.Common.{◌≡◌, ◌⊎◌, ℕ, zero, suc, ◌<◌, ◌≤◌, List, [], ◌∷◌, length, Some, false, refl, sym, ap, ◌∙◌, subst}
use Rattle.std.specs.Prelude.{slice_get}
use Rattle.b67_list.specs.Numbered.{numbered}
use Rattle.b67_list.proofs.Lists.{length_map}
use Rattle.algol_tree.specs.Blocks.{around}
use Rattle.algol_tree.specs.Scopes.{Scopes}
use Rattle.algol_meaning.specs.Value.{Reference, NameCell, event}
use Rattle.b67_deeds.specs.Events.{EventState}
use Rattle.algol_meaning.specs.World.{Instance, or_no_instance, Part, Process, lives, World, instance_at, cell_at}
use Rattle.algol_meaning.specs.Critical.{own_instances}
use Rattle.algol_paths.specs.Blocks.{BlockIsSeen, IsSeenAround}
use Rattle.algol_paths.specs.Texts.{InExpr, InRest}
use Rattle.algol_paths.specs.Laws.{KeepsToText}
use Rattle.algol_standing.specs.Skeleton.{Evaluation, IsEvaluated, Stack, Home, IsInSkeleton, NextIn, Owned, SkeletonOk}
use Rattle.algol_standing.specs.Worlds.{home_of, held_by, stack_of, skeleton, IsStanding, IsOnPath, IsOwn, PartIsPlaced, outermost, inside, WaitersAreListed, IsNameAmong, IsNoBlock, KeepsActual, PartOk, ProcessOk, InstanceOk, IsSound}
use Rattle.algol_standing.proofs.Growth.{Grows, stands_up, path_up}
use Rattle.algol_standing.proofs.Pairs.{map_back, map_forth, AllPairs, numbered_back, numbered_forth, pairs_length, stack_back}

-- An instance, which was x, is y: it refers to nothing more, and keeps no other actual.
pub record InstanceAlike (x y : Instance) : Type 0 where
  pub block : y.block ≡ x.block
  pub parent : y.parent ≡ x.parent
  pub process : y.process ≡ x.process
  pub left : y.left ≡ x.left
  pub refs : (r : ℕ) → IsInSkeleton (home_of y).refs r → IsInSkeleton (home_of x).refs r
  pub names : (n : NameCell) → IsNameAmong y.cells n → IsNameAmong x.cells n

-- A process, which was x, is y: it has the same instances.
pub record ProcessAlike (x y : Process) : Type 0 where
  pub own : own_instances y.todo ≡ own_instances x.todo
  pub owned : (i : ℕ) → IsOwn y.todo i → IsOwn x.todo i
  pub critical : y.critical ≡ x.critical
  pub task : y.task ≡ x.task
  pub lives : lives y.state ≡ lives x.state

pub instance_self : (x : Instance) → InstanceAlike x x
instance_self x = record { block = refl; parent = refl; process = refl; left = refl; refs = λ r n. n; names = λ n m. m }

pub instance_then : (x y z : Instance) → InstanceAlike x y → InstanceAlike y z → InstanceAlike x z
instance_then x y z f g =
    record {
      block = g.block ∙ f.block;
      parent = g.parent ∙ f.parent;
      process = g.process ∙ f.process;
      left = g.left ∙ f.left;
      refs = λ r n. f.refs r (g.refs r n);
      names = λ n m. f.names n (g.names n m);
    }

pub process_self : (x : Process) → ProcessAlike x x
process_self x = record { own = refl; owned = λ i n. n; critical = refl; task = refl; lives = refl }

-- each process of w has one in v with the same instances
abbrev HasAlike : World → World → Type 0
HasAlike w v =
    (k : ℕ) (x : Process) → numbered w.processes k ≡ Some x →
    (y : Process) × (numbered v.processes k ≡ Some y) × (own_instances y.todo ≡ own_instances x.todo) × (y.critical ≡ x.critical)

grown_by : (w v : World) → HasAlike w v → Grows (skeleton w) (skeleton v)
grown_by w v f zero z e = record { stack = z; is = e; inside = λ b n. n; next = λ a b n. n }
grown_by w v f (suc k) z e =
    let m = map_back stack_of w.processes k z e in
    let n = f (suc k) m.0 m.1 in
    record {
      stack = stack_of n.0;
      is = map_forth stack_of v.processes k n.0 n.1;
      inside = λ b i. subst (λ o. IsInSkeleton o b) (sym n.2) (subst (λ (s : Stack). IsInSkeleton s.own b) m.2 i);
      next = λ a b i.
          subst (λ c. NextIn c (own_instances (n.0).todo) a b) (sym n.3)
          (subst (λ o. NextIn (m.0).critical o a b) (sym n.2) (subst (λ (s : Stack). NextIn s.critical s.own a b) m.2 i));
    }

module _ (w v : World) (instances : AllPairs InstanceAlike w.instances v.instances) (processes : AllPairs ProcessAlike w.processes v.processes) where
  grows : Grows (skeleton w) (skeleton v)
  grows = grown_by w v (λ k x e. let m = numbered_forth ProcessAlike w.processes v.processes k x processes e in (m.0, m.1, m.2.own, m.2.critical))

  shrinks : Grows (skeleton v) (skeleton w)
  shrinks = grown_by v w (λ k y e. let m = numbered_back ProcessAlike w.processes v.processes k y processes e in (m.0, m.1, sym m.2.own, sym m.2.critical))

  pub stands_on : (i : ℕ) → IsStanding w i → IsStanding v i
  stands_on i st = stands_up (skeleton w) (skeleton v) grows i st

  pub stood : (i : ℕ) → IsStanding v i → IsStanding w i
  stood i st = stands_up (skeleton v) (skeleton w) shrinks i st

  pub path_on : (a b : ℕ) → IsOnPath w a b → IsOnPath v a b
  path_on a b l = path_up (skeleton w) (skeleton v) grows a b l

  -- what is the same of instances that are alike
  module _ {A : Type 0} (g : Instance → A) (same : (x y : Instance) → InstanceAlike x y → g y ≡ g x) where
    all_same : (xs ys : List Instance) (k : ℕ) → AllPairs InstanceAlike xs ys → g (or_no_instance (slice_get ys k)) ≡ g (or_no_instance (slice_get xs k))
    all_same [] [] k m = refl
    all_same [] (y ∷ ys) k m = absurd m
    all_same (x ∷ xs) [] k m = absurd m
    all_same (x ∷ xs) (y ∷ ys) zero m = same x y m.0
    all_same (x ∷ xs) (y ∷ ys) (suc k) m = all_same xs ys k m.1

    each_same : (i : ℕ) → g (instance_at v i) ≡ g (instance_at w i)
    each_same zero = refl
    each_same (suc k) = all_same w.instances v.instances k instances

  pub block_same : (i : ℕ) → (instance_at v i).block ≡ (instance_at w i).block
  block_same = each_same (λ (x : Instance). x.block) (λ x y f. f.block)

  pub process_same : (i : ℕ) → (instance_at v i).process ≡ (instance_at w i).process
  process_same = each_same (λ (x : Instance). x.process) (λ x y f. f.process)

  -- ---- the skeleton

  owned_too : (p : ℕ) (own : List ℕ) → Owned (skeleton w).homes p own → Owned (skeleton v).homes p own
  owned_too p [] o = tt
  owned_too p (x ∷ xs) o = let h = home_too x o.0 o.1 in (h.0, h.1, h.2 ∙ o.2, o.3, owned_too p xs o.4)
    where
      home_too : (i : ℕ) (h : Home) → slice_get (skeleton w).homes i ≡ Some h → (g : Home) × (slice_get (skeleton v).homes i ≡ Some g) × (g.process ≡ h.process)
      home_too zero h e = (h, e, refl)
      home_too (suc k) h e =
          let m = map_back home_of w.instances k h e in
          let n = numbered_forth InstanceAlike w.instances v.instances (suc k) m.0 instances m.1 in
          (home_of n.0, map_forth home_of v.instances k n.0 n.1, n.2.process ∙ ap (λ (g : Home). g.process) (sym m.2))

  -- what an instance refers to, it referred to
  referred : (i : ℕ) (h : Home) (r : ℕ) → slice_get (skeleton v).homes i ≡ Some h → IsInSkeleton h.refs r → (g : Home) × (slice_get (skeleton w).homes i ≡ Some g) × IsInSkeleton g.refs r
  referred zero h r e n = (h, e, n)
  referred (suc k) h r e n =
      let m = map_back home_of v.instances k h e in
      let o = numbered_back InstanceAlike w.instances v.instances (suc k) m.0 instances m.1 in
      (home_of o.0, map_forth home_of w.instances k o.0 o.1, o.2.refs r (subst (λ (g : Home). IsInSkeleton g.refs r) m.2 n))

  same_length : length (skeleton v).homes ≡ length (skeleton w).homes
  same_length = ap suc (length_map home_of v.instances ∙ pairs_length InstanceAlike w.instances v.instances instances ∙ sym (length_map home_of w.instances))

  -- what parts hold lies on the path
  abbrev pub HoldsOnPath : Type 0
  HoldsOnPath =
      (k : ℕ) (q : Process) (e : Evaluation) → numbered v.processes k ≡ Some q → IsEvaluated (held_by q.todo) e → IsInSkeleton (own_instances q.todo) e.over × IsOnPath w e.over e.within

  -- each stack was one, with the same instances
  was : (k : ℕ) (z : Stack) → slice_get (skeleton v).stacks k ≡ Some z → (s : Stack) × (slice_get (skeleton w).stacks k ≡ Some s) × (z.own ≡ s.own) × (z.critical ≡ s.critical) × (z.live ≡ s.live)
  was zero z e = (z, e, refl, refl, refl)
  was (suc k) z e =
      let m = map_back stack_of v.processes k z e in
      let n = numbered_back ProcessAlike w.processes v.processes (suc k) m.0 processes m.1 in (
        stack_of n.0,
        map_forth stack_of w.processes k n.0 n.1,
        ap (λ (s : Stack). s.own) m.2 ∙ n.2.own,
        ap (λ (s : Stack). s.critical) m.2 ∙ n.2.critical,
        ap (λ (s : Stack). s.live) m.2 ∙ n.2.lives,
      )

  skeleton_alike : SkeletonOk (skeleton w) → HoldsOnPath → SkeletonOk (skeleton v)
  skeleton_alike ok held =
      record {
        owned = λ k z e. let s = was k z e in owned_too k z.own (subst (λ o. Owned (skeleton w).homes k o) (sym s.2) (ok.owned k s.0 s.1));
        ended = λ k z e dead. let s = was k z e in s.2 ∙ ok.ended k s.0 s.1 (sym s.4 ∙ dead);
        known = λ i h r e n. let g = referred i h r e n in subst (λ l. r < l) (sym same_length) (ok.known i g.0 r g.1 g.2);
        refers = λ i h r st e n. let g = referred i h r e n in path_on i r (ok.refers i g.0 r (stood i st) g.1 g.2);
        evaluates = evaluates;
        holds = λ k z c e live cr. let s = was k z e in stands_on c (ok.holds k s.0 c s.1 (sym s.4 ∙ live) (sym s.3 ∙ cr));
      }
    where
      evaluates : (k : ℕ) (z : Stack) (e : Evaluation) → slice_get (skeleton v).stacks k ≡ Some z → IsEvaluated z.evaluations e → IsInSkeleton z.own e.over × IsOnPath v e.over e.within
      evaluates k z e g n = by (stack_back v k z g)
        where
          by : ((z.own ≡ []) × (z.evaluations ≡ []) × (z.live ≡ false)) ⊎ ((q : Process) × (numbered v.processes k ≡ Some q) × (z ≡ stack_of q)) →
              IsInSkeleton z.own e.over × IsOnPath v e.over e.within
          by (◌⊎◌.inl f) = absurd (subst (λ es. IsEvaluated es e) f.1 n)
          by (◌⊎◌.inr f) =
              let o = held k f.0 e f.1 (subst (λ (s : Stack). IsEvaluated s.evaluations e) f.2 n) in
              (subst (λ (s : Stack). IsInSkeleton s.own e.over) (sym f.2) o.0, path_on e.over e.within o.1)

  -- ---- texts, places in texts, actuals

  module _ (sc : Scopes) (Whole : World → ℕ → Type 0) (kept : (i : ℕ) → Whole w i → Whole v i) where
    actual_too : (n : NameCell) → KeepsActual sc Whole w n → KeepsActual sc Whole v n
    actual_too n k =
        record {
          seen = subst (λ j. InExpr (BlockIsSeen sc j) n.actual) (sym (block_same n.instance)) k.seen;
          narrow = by k.narrow;
        }
      where
        by : Whole w n.instance ⊎ InExpr (IsSeenAround sc ((instance_at w n.instance).block)) n.actual →
            Whole v n.instance ⊎ InExpr (IsSeenAround sc ((instance_at v n.instance).block)) n.actual
        by (◌⊎◌.inl f) = ◌⊎◌.inl (kept n.instance f)
        by (◌⊎◌.inr f) = ◌⊎◌.inr (subst (λ j. InExpr (IsSeenAround sc j) n.actual) (sym (block_same n.instance)) f)

    part_too : (x : Part) → PartOk sc Whole w x → PartOk sc Whole v x
    part_too x k =
        record {
          text = subst (λ j. KeepsToText sc j x.rest) (sym (block_same x.instance)) k.text;
          narrow = λ e. by (k.narrow e);
          names = λ n m. actual_too n (k.names n m);
        }
      where
        by : Whole w x.instance ⊎ InRest (IsSeenAround sc ((instance_at w x.instance).block)) IsNoBlock (IsSeenAround sc ((instance_at w x.instance).block)) x.rest →
            Whole v x.instance ⊎ InRest (IsSeenAround sc ((instance_at v x.instance).block)) IsNoBlock (IsSeenAround sc ((instance_at v x.instance).block)) x.rest
        by (◌⊎◌.inl f) = ◌⊎◌.inl (kept x.instance f)
        by (◌⊎◌.inr f) = ◌⊎◌.inr (subst (λ j. InRest (IsSeenAround sc j) IsNoBlock (IsSeenAround sc j) x.rest) (sym (block_same x.instance)) f)

    process_too : (q : Process) → ProcessOk sc Whole w q → ProcessOk sc Whole v q
    process_too q k =
        record {
          parts = λ x n. part_too x (k.parts x n);
          heads = k.heads;
          gives = k.gives;
          awaited = λ r n. path_on _ r.instance (k.awaited r n);
          few = k.few;
        }

    placed_too : (x y : Instance) → InstanceAlike x y → PartIsPlaced sc w x → PartIsPlaced sc v y
    placed_too x y f (outermost e a) = outermost (f.parent ∙ e) (ap (λ j. around sc.blocks j) f.block ∙ a)
    placed_too x y f (inside e a) = inside (subst (λ p. 1 ≤ p) (sym f.parent) e) (ap (λ j. around sc.blocks j) f.block ∙ a ∙ sym outer)
      where
        same : (instance_at v y.parent).block ≡ (instance_at w x.parent).block
        same = block_same y.parent ∙ ap (λ p. (instance_at w p).block) f.parent

        outer : (instance_at v y.parent).block ∷ around sc.blocks ((instance_at v y.parent).block) ≡ (instance_at w x.parent).block ∷ around sc.blocks ((instance_at w x.parent).block)
        outer = ap (λ j. j ∷ around sc.blocks j) same

    instance_too : (i : ℕ) (x y : Instance) → InstanceAlike x y → InstanceOk sc Whole w i x → InstanceOk sc Whole v i y
    instance_too i x y f k =
        record {
          left = (λ e. stands_on i (k.left.0 (sym f.left ∙ e)), λ st. f.left ∙ k.left.1 (stood i st));
          known = subst (λ j. j < length sc.blocks) (sym f.block) k.known;
          placed = placed_too x y f k.placed;
          whole = λ st e. subst (λ p. Whole v p) (sym f.parent) (kept x.parent (k.whole (stood i st) (subst (λ p. 1 ≤ p) f.parent e)));
          actuals = λ n st m. actual_too n (k.actuals n (stood i st) (f.names n m));
        }

    pub alike_ok : IsSound sc Whole w → ((k : ℕ) (q : Process) → numbered v.processes k ≡ Some q → ProcessOk sc Whole w q) → HoldsOnPath →
        ((r : Reference) (e : EventState) → IsStanding w r.instance → cell_at v r ≡ event e → WaitersAreListed v r e) → IsSound sc Whole v
    alike_ok ok each held listed =
        record {
          skeleton_ok = skeleton_alike ok.skeleton_ok held;
          instances = λ i y e.
              let m = numbered_back InstanceAlike w.instances v.instances i y instances e in
              instance_too i m.0 y m.2 (ok.instances i m.0 m.1);
          processes = λ k q e. process_too q (each k q e);
          older = λ k c q e live cr i n.
              let m = numbered_back ProcessAlike w.processes v.processes k q processes e in
              ok.older k c m.0 m.1 (sym m.2.lives ∙ live) (sym m.2.critical ∙ cr) i (m.2.owned i n);
          first = λ q e.
              let m = numbered_back ProcessAlike w.processes v.processes 1 q processes e in
              let f = ok.first m.0 m.1 in
              (m.2.critical ∙ f.0, m.2.task ∙ f.1);
          later = λ k q e.
              let m = numbered_back ProcessAlike w.processes v.processes (suc (suc k)) q processes e in
              let f = ok.later k m.0 m.1 in
              (f.0, m.2.critical ∙ f.1);
          criticals = λ k c q e cr.
              let m = numbered_back ProcessAlike w.processes v.processes k q processes e in
              subst (λ l. c ≤ l) (sym (pairs_length InstanceAlike w.instances v.instances instances)) (ok.criticals k c m.0 m.1 (sym m.2.critical ∙ cr));
          earlier = λ k c q e cr.
              let m = numbered_back ProcessAlike w.processes v.processes k q processes e in
              subst (λ j. j < k) (sym (process_same c)) (ok.earlier k c m.0 m.1 (sym m.2.critical ∙ cr));
          tasks = λ k c q r e live cr t.
              let m = numbered_back ProcessAlike w.processes v.processes k q processes e in
              path_on c r.instance (ok.tasks k c m.0 r m.1 (sym m.2.lives ∙ live) (sym m.2.critical ∙ cr) (sym m.2.task ∙ t));
          listed = λ r e st c. listed r e (stood r.instance st) c;
        }
