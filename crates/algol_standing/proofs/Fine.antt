-- Parts, the innermost first, that keep to their texts and hold only what lies on their path.
use Rattle.std.proofs.Common.{◌≡◌, ◌⊎◌, ℕ, zero, suc, List, [], ◌∷◌, ◌++◌, Some, Bool, true, false, refl, sym, ap, ◌∙◌, subst}
use Rattle.std.specs.Prelude.{slice_get, if◌then◌else◌}
use Rattle.b67_list.specs.Numbered.{numbered}
use Rattle.b67_list.proofs.Numbers.{none_some}
use Rattle.algol_tree.specs.Scopes.{Scopes}
use Rattle.algol_meaning.specs.World.{Part, Process, World}
use Rattle.algol_meaning.specs.Critical.{is_evaluation, own_instances, referred_by}
use Rattle.algol_standing.specs.Skeleton.{Evaluation, IsEvaluated, Home, IsInSkeleton, SkeletonOk}
use Rattle.algol_standing.specs.Worlds.{held_in_rest, newest_own, held_by, stack_of, skeleton, IsStanding, IsOnPath, IsAmongParts, PartsAreGiven, IsWholeInstance, PartOk, IsSound}
use Rattle.algol_standing.proofs.Lists.{some_same}
use Rattle.algol_standing.proofs.Standing.{stands_path, home_stands}
use Rattle.algol_standing.proofs.Pairs.{stack_forth}
use Rattle.algol_standing.proofs.Seen.{evaluated_front, evaluated_back, evaluated_either}

-- ---- above which instance parts hold what they hold

pub own_up : (part : Part) (parts : List Part) (i : ℕ) → IsInSkeleton (own_instances parts) i → IsInSkeleton (own_instances (part ∷ parts)) i
own_up part parts i n = by (is_evaluation part.purpose)
  where
    by : (b : Bool) → IsInSkeleton (if b then own_instances parts else part.instance ∷ own_instances parts) i
    by true = n
    by false = ◌⊎◌.inr n

newest_in : (parts : List Part) → IsInSkeleton (own_instances parts) (newest_own parts) ⊎ (newest_own parts ≡ 0)
newest_in [] = ◌⊎◌.inr refl
newest_in (part ∷ parts) = by (is_evaluation part.purpose) (newest_in parts)
  where
    by : (b : Bool) → IsInSkeleton (own_instances parts) (newest_own parts) ⊎ (newest_own parts ≡ 0) →
        IsInSkeleton (if b then own_instances parts else part.instance ∷ own_instances parts) (if b then newest_own parts else part.instance)
        ⊎ ((if b then newest_own parts else part.instance) ≡ 0)
    by true m = m
    by false m = ◌⊎◌.inl (◌⊎◌.inl refl)

held_over : (parts : List Part) (e : Evaluation) → IsEvaluated (held_by parts) e → IsInSkeleton (own_instances parts) e.over ⊎ (e.over ≡ 0)
held_over [] e n = absurd n
held_over (part ∷ parts) e n =
    by (evaluated_either (newest_own (part ∷ parts)) (part.instance ∷ referred_by (held_in_rest part.rest)) (held_by parts) e n) (λ m. held_over parts e m)
  where
    further : IsInSkeleton (own_instances parts) e.over ⊎ (e.over ≡ 0) → IsInSkeleton (own_instances (part ∷ parts)) e.over ⊎ (e.over ≡ 0)
    further (◌⊎◌.inl m) = ◌⊎◌.inl (own_up part parts e.over m)
    further (◌⊎◌.inr m) = ◌⊎◌.inr m

    by : ((e.over ≡ newest_own (part ∷ parts)) × IsInSkeleton (part.instance ∷ referred_by (held_in_rest part.rest)) e.within) ⊎ IsEvaluated (held_by parts) e →
        (IsEvaluated (held_by parts) e → IsInSkeleton (own_instances parts) e.over ⊎ (e.over ≡ 0)) → IsInSkeleton (own_instances (part ∷ parts)) e.over ⊎ (e.over ≡ 0)
    by (◌⊎◌.inl f) g = subst (λ i. IsInSkeleton (own_instances (part ∷ parts)) i ⊎ (i ≡ 0)) (sym f.0) (newest_in (part ∷ parts))
    by (◌⊎◌.inr m) g = further (g m)

-- a part's own instance and what it holds
pub held_among : (parts : List Part) (x : Part) (i : ℕ) → IsAmongParts parts x → IsInSkeleton (x.instance ∷ referred_by (held_in_rest x.rest)) i →
    (top : ℕ) × IsEvaluated (held_by parts) (record { over = top; within = i })
held_among [] x i n m = absurd n
held_among (y ∷ parts) x i (◌⊎◌.inl e) m = (
  newest_own (y ∷ parts),
  evaluated_front (newest_own (y ∷ parts)) (y.instance ∷ referred_by (held_in_rest y.rest)) (held_by parts) i
      (subst (λ (z : Part). IsInSkeleton (z.instance ∷ referred_by (held_in_rest z.rest)) i) (sym e) m),
)
held_among (y ∷ parts) x i (◌⊎◌.inr n) m =
    let o = held_among parts x i n m in
    (o.0, evaluated_back (newest_own (y ∷ parts)) (y.instance ∷ referred_by (held_in_rest y.rest)) (held_by parts) (record { over = o.0; within = i }) o.1)

-- .. above the newest instance at the part or below it
pub held_at : (newer : List Part) (x : Part) (older : List Part) (i : ℕ) → IsInSkeleton (x.instance ∷ referred_by (held_in_rest x.rest)) i →
    IsEvaluated (held_by (newer ++ x ∷ older)) (record { over = newest_own (x ∷ older); within = i })
held_at [] x older i m = evaluated_front (newest_own (x ∷ older)) (x.instance ∷ referred_by (held_in_rest x.rest)) (held_by older) i m
held_at (y ∷ newer) x older i m =
    evaluated_back (newest_own (y ∷ (newer ++ x ∷ older))) (y.instance ∷ referred_by (held_in_rest y.rest)) (held_by (newer ++ x ∷ older))
    (record { over = newest_own (x ∷ older); within = i }) (held_at newer x older i m)

-- ---- what stands, by the skeleton

module _ (w : World) (ok : SkeletonOk (skeleton w)) where
  own_some : (p : ℕ) (q : Process) → numbered w.processes p ≡ Some q → IsInSkeleton (own_instances q.todo) 0 → ⊥
  own_some p q e n = by (home_stands (skeleton w) ok 0 (record { number = p; stack = stack_of q; is = stack_forth w p q e; inside = n })) e
    where
      nobody : Home
      nobody = record { refs = []; process = 0 }

      none : (k : ℕ) → k ≡ 0 → numbered w.processes k ≡ Some q → ⊥
      none zero f g = none_some g
      none (suc k) f g = let no : suc k ≡ 0 = f in cc

      by : (h : Home) × (slice_get (skeleton w).homes 0 ≡ Some h) × (h.process ≡ p) → numbered w.processes p ≡ Some q → ⊥
      by h g =
          let one : nobody ≡ h.0 = some_same refl h.1 in
          none p (sym h.2 ∙ ap (λ (x : Home). x.process) (sym one)) g

  pub part_stands_in : (p : ℕ) (q : Process) (x : Part) (i : ℕ) → numbered w.processes p ≡ Some q → IsAmongParts q.todo x → IsInSkeleton (x.instance ∷ referred_by (held_in_rest x.rest)) i →
      IsStanding w i
  part_stands_in p q x i e n m =
      let o = held_among q.todo x i n m in
      let f = ok.evaluates p (stack_of q) (record { over = o.0; within = i }) (stack_forth w p q e) o.1 in
      stands_path (skeleton w) ok o.0 i (record { number = p; stack = stack_of q; is = stack_forth w p q e; inside = f.0 }) f.1

  -- the newest instance of a process with parts
  pub newest_inside : (p : ℕ) (q : Process) (part : Part) (outer : List Part) → numbered w.processes p ≡ Some q → q.todo ≡ part ∷ outer →
      IsInSkeleton (own_instances (part ∷ outer)) (newest_own (part ∷ outer))
  newest_inside p q part outer e todo =
      let top = newest_own (part ∷ outer) in
      let n : IsEvaluated (held_by (part ∷ outer)) (record { over = top; within = part.instance }) =
      evaluated_front top (part.instance ∷ referred_by (held_in_rest part.rest)) (held_by outer) part.instance (◌⊎◌.inl refl) in
      subst (λ ps. IsInSkeleton (own_instances ps) top) todo
      (ok.evaluates p (stack_of q) (record { over = top; within = part.instance }) (stack_forth w p q e) (subst (λ ps. IsEvaluated (held_by ps) (record { over = top; within = part.instance })) (sym todo) n)).0

  pub newest_stands : (p : ℕ) (q : Process) (part : Part) (outer : List Part) → numbered w.processes p ≡ Some q → q.todo ≡ part ∷ outer → IsStanding w (newest_own (part ∷ outer))
  newest_stands p q part outer e todo =
      record {
        number = p;
        stack = stack_of q;
        is = stack_forth w p q e;
        inside = subst (λ ps. IsInSkeleton (own_instances ps) (newest_own (part ∷ outer))) (sym todo) (newest_inside p q part outer e todo);
      }

-- ---- fine parts

module _ (sc : Scopes) (w : World) where
  pub record Fine (parts : List Part) : Type 0 where
    pub each : (x : Part) → IsAmongParts parts x → PartOk sc IsWholeInstance w x
    pub given : PartsAreGiven parts
    pub holds : (e : Evaluation) → IsEvaluated (held_by parts) e → IsInSkeleton (own_instances parts) e.over × IsOnPath w e.over e.within
    pub some : IsInSkeleton (own_instances parts) 0 → ⊥

  given_tail : (part : Part) (outer : List Part) → PartsAreGiven (part ∷ outer) → PartsAreGiven outer
  given_tail part [] g = tt
  given_tail part (next ∷ parts) g = g.2

  pub fine_tail : (part : Part) (outer : List Part) → Fine (part ∷ outer) → Fine outer
  fine_tail part outer f =
      record {
        each = λ x n. f.each x (◌⊎◌.inr n);
        given = given_tail part outer f.given;
        holds = holds;
        some = λ n. f.some (own_up part outer 0 n);
      }
    where
      holds : (e : Evaluation) → IsEvaluated (held_by outer) e → IsInSkeleton (own_instances outer) e.over × IsOnPath w e.over e.within
      holds e n = (over (held_over outer e n), before.1)
        where
          before : IsInSkeleton (own_instances (part ∷ outer)) e.over × IsOnPath w e.over e.within
          before = f.holds e (evaluated_back (newest_own (part ∷ outer)) (part.instance ∷ referred_by (held_in_rest part.rest)) (held_by outer) e n)

          over : IsInSkeleton (own_instances outer) e.over ⊎ (e.over ≡ 0) → IsInSkeleton (own_instances outer) e.over
          over (◌⊎◌.inl m) = m
          over (◌⊎◌.inr z) = absurd (f.some (subst (λ i. IsInSkeleton (own_instances (part ∷ outer)) i) z before.0))

  pub fine_back : (newer parts : List Part) → Fine (newer ++ parts) → Fine parts
  fine_back [] parts f = f
  fine_back (x ∷ newer) parts f = fine_back newer parts (fine_tail x (newer ++ parts) f)

  pub fine_of : IsSound sc IsWholeInstance w → (p : ℕ) (q : Process) → numbered w.processes p ≡ Some q → Fine q.todo
  fine_of ok p q e =
      record {
        each = (ok.processes p q e).parts;
        given = (ok.processes p q e).gives;
        holds = λ x n. ok.skeleton_ok.evaluates p (stack_of q) x (stack_forth w p q e) n;
        some = own_some w ok.skeleton_ok p q e;
      }
