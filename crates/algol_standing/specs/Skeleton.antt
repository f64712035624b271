-- The skeleton of a world: the stacks of instance numbers, the evaluations of actuals, the critical instances, and what each instance
-- refers to: its parent, the instances of its references and of its names.
use Rattle.std.specs.Prelude.{◌≡◌, ◌⊎◌, ℕ, ◌<◌, Bool, true, false, List, [], ◌∷◌, ◌++◌, length, Option, Some, slice_get, slice_set}

-- an actual of the instance `within`, evaluated directly above the instance `over`; it has no instance of its own
pub record Evaluation : Type 0 where
  pub over : ℕ
  pub within : ℕ

-- a process's instances and evaluations, the innermost first
pub record Stack : Type 0 where
  pub own : List ℕ
  pub evaluations : List Evaluation
  pub critical : Option ℕ
  pub live : Bool

pub record Home : Type 0 where
  pub refs : List ℕ
  pub process : ℕ

pub record Skeleton : Type 0 where
  pub stacks : List Stack
  pub homes : List Home

abbrev pub IsInSkeleton : List ℕ → ℕ → Type 0
IsInSkeleton [] a = ⊥
IsInSkeleton (x ∷ xs) a = (x ≡ a) ⊎ IsInSkeleton xs a

abbrev pub IsEvaluated : List Evaluation → Evaluation → Type 0
IsEvaluated [] e = ⊥
IsEvaluated (x ∷ xs) e = (x ≡ e) ⊎ IsEvaluated xs e

-- b lies directly below a: in the same stack, or a is the base and b the critical instance
abbrev pub NextIn : Option ℕ → List ℕ → ℕ → ℕ → Type 0
NextIn c [] a b = ⊥
NextIn c (x ∷ []) a b = (x ≡ a) × (c ≡ Some b)
NextIn c (x ∷ y ∷ r) a b = ((x ≡ a) × (y ≡ b)) ⊎ NextIn c (y ∷ r) a b

abbrev pub Owned : List Home → ℕ → List ℕ → Type 0
Owned homes p [] = Unit {0}
Owned homes p (x ∷ xs) = (h : Home) × (slice_get homes x ≡ Some h) × (h.process ≡ p) × ((b : ℕ) → IsInSkeleton xs b → b < x) × Owned homes p xs

module _ (s : Skeleton) where
  pub record SkeletonStands (a : ℕ) : Type 0 where
    pub number : ℕ
    pub stack : Stack
    pub is : slice_get s.stacks number ≡ Some stack
    pub inside : IsInSkeleton stack.own a

  pub record SkeletonNext (a b : ℕ) : Type 0 where
    pub number : ℕ
    pub stack : Stack
    pub is : slice_get s.stacks number ≡ Some stack
    pub next : NextIn stack.critical stack.own a b

  pub data OnPath : ℕ → ℕ → Type 0 where
    here : {a : ℕ} → OnPath a a
    down : {a b c : ℕ} → SkeletonNext a b → OnPath b c → OnPath a c

  -- the first on the path from a of these instances
  pub data FirstOf (refs : List ℕ) : ℕ → ℕ → Type 0 where
    this : {a : ℕ} → IsInSkeleton refs a → FirstOf refs a a
    further : {a b c : ℕ} → (IsInSkeleton refs a → ⊥) → SkeletonNext a b → FirstOf refs b c → FirstOf refs a c

  pub record SkeletonOk : Type 0 where
    pub owned : (p : ℕ) (q : Stack) → slice_get s.stacks p ≡ Some q → Owned s.homes p q.own
    pub ended : (p : ℕ) (q : Stack) → slice_get s.stacks p ≡ Some q → q.live ≡ false → q.own ≡ []
    pub known : (a : ℕ) (h : Home) (r : ℕ) → slice_get s.homes a ≡ Some h → IsInSkeleton h.refs r → r < length s.homes
    pub refers : (a : ℕ) (h : Home) (r : ℕ) → SkeletonStands a → slice_get s.homes a ≡ Some h → IsInSkeleton h.refs r → OnPath a r
    pub evaluates : (p : ℕ) (q : Stack) (e : Evaluation) → slice_get s.stacks p ≡ Some q → IsEvaluated q.evaluations e → IsInSkeleton q.own e.over × OnPath e.over e.within
    pub holds : (p : ℕ) (q : Stack) (c : ℕ) → slice_get s.stacks p ≡ Some q → q.live ≡ true → q.critical ≡ Some c → SkeletonStands c

-- ---- what GO TO asks of those that it leaves

-- no live process has one of these for its critical instance
abbrev pub AreFree : Skeleton → List ℕ → Type 0
AreFree s is = (i : ℕ) → IsInSkeleton is i → (k : ℕ) (y : Stack) → slice_get s.stacks k ≡ Some y → y.live ≡ true → y.critical ≡ Some i → ⊥

-- nothing is held above one of these
abbrev pub AreIdle : List Evaluation → List ℕ → Type 0
AreIdle es is = (i : ℕ) → IsInSkeleton is i → (e : Evaluation) → IsEvaluated es e → i ≡ e.over → ⊥

-- ---- changes

abbrev pub entered_skeleton : Skeleton → ℕ → Stack → List ℕ → Skeleton
entered_skeleton s p q refs = record { stacks = slice_set s.stacks p (record q { own = length s.homes ∷ q.own }); homes = s.homes ++ record { refs = refs; process = p } ∷ [] }

abbrev pub started : Skeleton → List ℕ → ℕ → Skeleton
started s refs c =
    record {
      stacks = s.stacks ++ record { own = length s.homes ∷ []; evaluations = []; critical = Some c; live = true } ∷ [];
      homes = s.homes ++ record { refs = refs; process = length s.stacks } ∷ [];
    }

abbrev pub skeleton_left : Skeleton → ℕ → Stack → List ℕ → Bool → Skeleton
skeleton_left s p q rest live = record s { stacks = slice_set s.stacks p (record q { own = rest; live = live }) }

abbrev pub evaluating : Skeleton → ℕ → Stack → Evaluation → Skeleton
evaluating s p q e = record s { stacks = slice_set s.stacks p (record q { evaluations = e ∷ q.evaluations }) }

abbrev pub evaluated : Skeleton → ℕ → Stack → List Evaluation → Skeleton
evaluated s p q rest = record s { stacks = slice_set s.stacks p (record q { evaluations = rest }) }
