-- The laws of skeletons and of worlds: each change that an action makes keeps them, and what is referred to stands.
use Rattle.std.specs.Prelude.{◌≡◌, ℕ, ◌≤◌, Bool, true, false, List, [], ◌∷◌, ◌++◌, Option, Some, slice_get}
use Rattle.b67_list.specs.Numbered.{numbered}
use Rattle.algol_tree.specs.declared.tree.Named.{Named}
use Rattle.algol_tree.specs.Plain.{PProgram}
use Rattle.algol_tree.specs.Scopes.{Scopes, scopes_of}
use Rattle.algol_meaning.specs.Value.{Reference}
use Rattle.algol_meaning.specs.Rest.{Given}
use Rattle.algol_meaning.specs.World.{Instance, instance_at, Part, Process, lives, World}
use Rattle.algol_meaning.specs.Critical.{some_depends, own_instances, newest_first, first_on_path, referred_by, referred_by_task}
use Rattle.algol_meaning.specs.Asks.{starts, ask}
use Rattle.algol_meaning.specs.Choice.{choice, home, given_cells, task_of}
use Rattle.algol_meaning.specs.Run.{start, may_go}
use Rattle.algol_calls.specs.Texts.{AreTexts, HasOuterBlock}
use Rattle.algol_standing.specs.Worlds.{referred_in_cells, home_of, held_in_rest, newest_own, skeleton, IsStanding, IsOnPath, IsAmongParts, IsWholeInstance}
use Rattle.algol_standing.specs.Lows.{IsLow, IsMaking}
use Rattle.algol_standing.specs.Fitting.{IsOk}
use Rattle.algol_standing.specs.Skeleton.{Evaluation, IsEvaluated, Stack, Skeleton, IsInSkeleton, SkeletonStands, OnPath, FirstOf, SkeletonOk, AreFree, AreIdle, entered_skeleton, started, skeleton_left, evaluated}

-- all of these lie on the path from that instance
abbrev pub AllOnPath : Skeleton → ℕ → List ℕ → Type 0
AllOnPath s i refs = (x : ℕ) → IsInSkeleton refs x → OnPath s i x

pub record SkeletonsAreKept : Type 0 where
  -- by a new instance on top of a stack, which refers to what lies on the path from the top
  pub enters : (s : Skeleton) (p : ℕ) (q : Stack) (i : ℕ) (r refs : List ℕ) → SkeletonOk s → slice_get s.stacks p ≡ Some q → q.own ≡ i ∷ r → AllOnPath s i refs →
      SkeletonOk (entered_skeleton s p q refs)
  -- by a new stack, whose critical instance is the first on its starter's path of those that its base refers to
  pub starts : (s : Skeleton) (i c : ℕ) (refs : List ℕ) → SkeletonOk s → SkeletonStands s i → FirstOf s refs i c → AllOnPath s i refs → SkeletonOk (started s refs c)
  -- by the leaving of the newest instance of a stack, which no live process depends on and above which nothing is held
  pub leaves : (s : Skeleton) (p : ℕ) (q : Stack) (i : ℕ) (r : List ℕ) (live : Bool) → SkeletonOk s → slice_get s.stacks p ≡ Some q → q.own ≡ i ∷ r → AreFree s (i ∷ []) →
      AreIdle q.evaluations (i ∷ []) → (live ≡ false → r ≡ []) → (live ≡ true → q.live ≡ true) → SkeletonOk (skeleton_left s p q r live)
  -- by other evaluations in a stack, each above one of its instances and within one on the path from there
  pub evaluates : (s : Skeleton) (p : ℕ) (q : Stack) (es : List Evaluation) → SkeletonOk s → slice_get s.stacks p ≡ Some q →
      ((e : Evaluation) → IsEvaluated es e → IsInSkeleton q.own e.over × OnPath s e.over e.within) → SkeletonOk (evaluated s p q es)
  -- by a GO TO, which leaves the newest instances of a stack
  pub goes : (s : Skeleton) (p : ℕ) (q : Stack) (newer rest : List ℕ) → SkeletonOk s → slice_get s.stacks p ≡ Some q → q.own ≡ newer ++ rest → q.live ≡ true → AreFree s newer →
      AreIdle q.evaluations newer → SkeletonOk (skeleton_left s p q rest true)

pub record PathsStand : Type 0 where
  -- what lies on the path of a standing instance stands
  pub stands : (s : Skeleton) (a b : ℕ) → SkeletonOk s → SkeletonStands s a → OnPath s a b → SkeletonStands s b
  -- where one of these lies on the path from i, there is a first, and all of them that lie on the path from i lie on the path from that
  pub first : (s : Skeleton) (refs : List ℕ) (i x : ℕ) → SkeletonOk s → IsInSkeleton refs x → OnPath s i x → (c : ℕ) × FirstOf s refs i c
  pub leads : (s : Skeleton) (refs : List ℕ) (i c x : ℕ) → SkeletonOk s → FirstOf s refs i c → IsInSkeleton refs x → OnPath s i x → OnPath s c x

-- Nothing that is in use names an instance that was left.
pub record NoneIsLeft (w : World) : Type 0 where
  -- the parent of an instance
  pub parents : (i : ℕ) (x : Instance) → numbered w.instances i ≡ Some x → x.left ≡ false → 1 ≤ x.parent → (instance_at w x.parent).left ≡ false
  -- the instances of its References and Names
  pub cells : (i r : ℕ) (x : Instance) → numbered w.instances i ≡ Some x → x.left ≡ false → IsInSkeleton (referred_in_cells x.cells) r → (instance_at w r).left ≡ false
  -- the critical instance and the task of a live process
  pub criticals : (p c : ℕ) (q : Process) → numbered w.processes p ≡ Some q → lives q.state ≡ true → q.critical ≡ Some c → (instance_at w c).left ≡ false
  pub tasks : (p : ℕ) (q : Process) (r : Reference) → numbered w.processes p ≡ Some q → lives q.state ≡ true → q.task ≡ Some r →
      (instance_at w r.instance).left ≡ false
  -- the instance of a part, and those of the places and cells that it holds
  pub parts : (p : ℕ) (q : Process) (x : Part) (i : ℕ) → numbered w.processes p ≡ Some q → IsAmongParts q.todo x →
      IsInSkeleton (x.instance ∷ referred_by (held_in_rest x.rest)) i → (instance_at w i).left ≡ false

abbrev pub WhatIsReferredToStands : Type 0
WhatIsReferredToStands = (sc : Scopes) (w : World) → IsOk sc IsWholeInstance w → NoneIsLeft w

-- All that is referred to lies on the path from what refers to it.
pub record AllLieOnPaths (w : World) : Type 0 where
  -- by an instance: its parent, and the instances of its References and Names
  pub instances : (i r : ℕ) (x : Instance) → numbered w.instances i ≡ Some x → x.left ≡ false → IsInSkeleton (home_of x).refs r → IsOnPath w i r
  -- by an open part: its instance, and those of the places and cells that it holds, from the newest instance of its process at the part or below it
  pub parts : (p : ℕ) (q : Process) (newer older : List Part) (x : Part) (i : ℕ) → numbered w.processes p ≡ Some q → q.todo ≡ newer ++ x ∷ older →
      IsInSkeleton (x.instance ∷ referred_by (held_in_rest x.rest)) i → IsInSkeleton (own_instances q.todo) (newest_own (x ∷ older)) × IsOnPath w (newest_own (x ∷ older)) i
  -- by a live process: its task, from its critical instance
  pub tasks : (p c : ℕ) (q : Process) (r : Reference) → numbered w.processes p ≡ Some q → lives q.state ≡ true → q.critical ≡ Some c → q.task ≡ Some r →
      IsOnPath w c r.instance

abbrev pub ReferencesLieOnPaths : Type 0
ReferencesLieOnPaths = (sc : Scopes) (w : World) → IsOk sc IsWholeInstance w → AllLieOnPaths w

-- Only what stands on the instance refers to it: the instance itself, the parts above it and what they hold.
pub record IsUnseen (w : World) (x : ℕ) : Type 0 where
  pub paths : (i : ℕ) → IsOnPath w i x → i ≡ x
  pub instances : (i : ℕ) (y : Instance) → numbered w.instances i ≡ Some y → y.left ≡ false → IsInSkeleton (home_of y).refs x → i ≡ x
  pub parts : (p : ℕ) (q : Process) (newer older : List Part) (y : Part) → numbered w.processes p ≡ Some q → q.todo ≡ newer ++ y ∷ older →
      IsInSkeleton (y.instance ∷ referred_by (held_in_rest y.rest)) x → newest_own (y ∷ older) ≡ x
  pub tasks : (p : ℕ) (q : Process) (r : Reference) → numbered w.processes p ≡ Some q → lives q.state ≡ true → q.task ≡ Some r → r.instance ≡ x → ⊥

-- So it is with the newest instance of a stack on which no live process depends.
abbrev pub NewestIsUnseen : Type 0
NewestIsUnseen =
    (sc : Scopes) (w : World) (p : ℕ) (q : Process) (x : ℕ) (older : List ℕ) → IsOk sc IsWholeInstance w → numbered w.processes p ≡ Some q → own_instances q.todo ≡ x ∷ older →
    some_depends w.processes x ≡ false → IsUnseen w x

-- ---- what an instance has still to make

-- An action of another process brings nobody to it.
abbrev pub OthersKeepLow : Type 0
OthersKeepLow =
    (sc : Scopes) (w : World) (p i : ℕ) → AreTexts sc → IsOk sc IsWholeInstance w → may_go w p ≡ true → IsStanding w i → ((instance_at w i).process ≡ p → ⊥) → IsLow sc w i →
    IsLow sc (choice sc w p).world i

-- Where an instance has something to make, nobody comes to that before the next action, and nobody does after it, though it were the last that it makes.
abbrev pub MakingIsLow : Type 0
MakingIsLow = (sc : Scopes) (w : World) (p i : ℕ) → AreTexts sc → IsOk sc IsWholeInstance w → may_go w p ≡ true → IsMaking w i → IsLow sc (choice sc w p).world i

-- ---- PROCESS

-- the instances to which the process refers that this part would start: that in which its procedure is declared, those of the References and
-- Names that it is given, and that of its task
abbrev pub referred_by_start : Scopes → World → ℕ → Process → Part → List Part → Named → List Given → Option Named → List ℕ
referred_by_start sc w p q part outer n gs task =
    home sc w p q part outer n ∷ referred_by (given_cells sc w p q part outer gs) ++ referred_by_task (task_of sc w p q part outer task)

-- All of them lie on the starter's path, and the critical instance that the process gets is the first of them there.
pub record StartsOnPath (sc : Scopes) (w : World) (p : ℕ) (q : Process) (part : Part) (outer : List Part) (n : Named) (gs : List Given) (task : Option Named) : Type 0 where
  pub refers : (i : ℕ) → IsInSkeleton (referred_by_start sc w p q part outer n gs task) i → IsOnPath w (newest_own (part ∷ outer)) i
  pub first : FirstOf (skeleton w) (referred_by_start sc w p q part outer n gs task) (newest_own (part ∷ outer))
      (first_on_path w (newest_first 1 w.instances []) p (referred_by_start sc w p q part outer n gs task))

abbrev pub StartsLieOnPaths : Type 0
StartsLieOnPaths =
    (sc : Scopes) (w : World) (p : ℕ) (q : Process) (part : Part) (outer : List Part) (n : Named) (gs : List Given) (task : Option Named) → IsOk sc IsWholeInstance w →
    numbered w.processes p ≡ Some q → q.todo ≡ part ∷ outer → lives q.state ≡ true → ask part.rest ≡ starts n gs task → StartsOnPath sc w p q part outer n gs task

-- ---- actions

-- An action keeps what worlds are, whichever it is and of whichever process.
abbrev pub ChoicesKeepWorlds : Type 0
ChoicesKeepWorlds = (sc : Scopes) (w : World) (p : ℕ) → AreTexts sc → IsOk sc IsWholeInstance w → may_go w p ≡ true → IsOk sc IsWholeInstance ((choice sc w p).world)

abbrev pub FirstWorldStands : Type 0
FirstWorldStands = (sc : Scopes) → HasOuterBlock sc → IsOk sc IsWholeInstance (start sc)

-- ---- accepted sources

-- The world is as worlds are: nothing that is in use names an instance that was left, and all that is referred to lies on its path.
pub record WorldStands (p : PProgram) (w : World) : Type 0 where
  pub ok : IsOk (scopes_of p) IsWholeInstance w
  pub none_left : NoneIsLeft w
  pub on_paths : AllLieOnPaths w
