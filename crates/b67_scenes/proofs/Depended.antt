-- On whose stacks somebody depends: what lies on the path from an instance lies in the same stack, or in one in which some process has its critical place.
use Rattle.std.proofs.Common.{◌≡◌, ◌⊎◌, inl, inr, sym, ap, ◌∙◌, subst, ℕ, ◌≤◌, List, [], ◌∷◌, Option, Some, None, false}
use Rattle.b67_scenes.proofs.Prelude.{slice_get, numbered, PProgram, scopes_of, Instance, Process, State, World, lives, stack_forth, home_forth, stack_back, parent_path, IsOk, Stack, Home, IsInSkeleton, NextIn, SkeletonNext, IsStanding, IsOnPath, stack_of, skeleton, IsWholeInstance, Place, Code, Image, Texts, some_same, NearFrame, IsNearStack, facts_of, Layout, CriticalIs, Living, Pictured, living, dead, PicturesBy}
use Rattle.algol_standing.specs.Skeleton as skeletons
use Rattle.algol_standing.specs.Skeleton.{Owned}
use Rattle.algol_standing.specs.Worlds.{home_of}
use Rattle.b67_rows.proofs.Touching.{IsDependedOn}
use Rattle.b67_scenes.proofs.Finding.{Found, found_laid, found_process, find, standing_near}
use Rattle.b67_scenes.proofs.Paths.{path_stands}

-- what lies directly below one of a stack lies in it, or is its critical instance
next_cases : (crit : Option ℕ) (own : List ℕ) (a b : ℕ) → NextIn crit own a b → IsInSkeleton own a × (IsInSkeleton own b ⊎ (crit ≡ Some b))
next_cases crit [] a b n = absurd n
next_cases crit (x ∷ []) a b n = (inl n.0, inr n.1)
next_cases crit (x ∷ y ∷ r) a b (inl n) = (inl n.0, inl (inr (inl n.1)))
next_cases crit (x ∷ y ∷ r) a b (inr n) = later (next_cases crit (y ∷ r) a b n)
  where
    later : IsInSkeleton (y ∷ r) a × (IsInSkeleton (y ∷ r) b ⊎ (crit ≡ Some b)) → IsInSkeleton (x ∷ y ∷ r) a × (IsInSkeleton (x ∷ y ∷ r) b ⊎ (crit ≡ Some b))
    later m = (inr m.0, below m.1)
      where
        below : IsInSkeleton (y ∷ r) b ⊎ (crit ≡ Some b) → IsInSkeleton (x ∷ y ∷ r) b ⊎ (crit ≡ Some b)
        below (inl i) = inl (inr i)
        below (inr e) = inr e

owned_in : (homes : List Home) (n : ℕ) (xs : List ℕ) (a : ℕ) → Owned homes n xs → IsInSkeleton xs a → (h : Home) × (slice_get homes a ≡ Some h) × (h.process ≡ n)
owned_in homes n [] a o inside = absurd inside
owned_in homes n (x ∷ xs) a o (inl same) = (o.0, ap (slice_get homes) (sym same) ∙ o.1, o.2)
owned_in homes n (x ∷ xs) a o (inr later) = owned_in homes n xs a o.4 later

module _ (tree : PProgram) (code : Code) (texts : Texts) (w : World) (lay : Layout) (img : Image) (by : PicturesBy tree code texts w lay img) (ok : IsOk (scopes_of tree) IsWholeInstance w) where
  there : (i : ℕ) (f : Found tree code texts w lay img i) → numbered w.instances i ≡ Some f.lies.owned.framed.instance
  there i f = ap (λ (j : ℕ). numbered w.instances j) (sym f.lies.instance_is) ∙ f.lies.owned.framed.is

  -- it is found in the stack of that number
  pub number_is : (a k : ℕ) (z : Stack) → slice_get (skeleton w).stacks k ≡ Some z → IsInSkeleton z.own a → (f : Found tree code texts w lay img a) → f.number ≡ k
  number_is a k z e inside f =
      let o = owned_in (skeleton w).homes k z.own a (ok.sound.skeleton_ok.owned k z e) inside in
      let same : home_of f.lies.owned.framed.instance ≡ o.0 = some_same (sym (home_forth w a f.lies.owned.framed.instance (there a f)) ∙ o.1) in
      sym (found_process tree code texts w lay img a f f.lies.owned.framed.instance (there a f)) ∙ ap (λ (h : Home). h.process) same ∙ o.2

  number_one : (a : ℕ) (f g : Found tree code texts w lay img a) → f.number ≡ g.number
  number_one a f g =
      sym (found_process tree code texts w lay img a f f.lies.owned.framed.instance (there a f)) ∙ found_process tree code texts w lay img a g f.lies.owned.framed.instance (there a f)

  -- somebody depends on the stack of a critical instance
  critical_depends : (k : ℕ) (z : Stack) → slice_get (skeleton w).stacks k ≡ Some z → (a : ℕ) → IsInSkeleton z.own a → (b : ℕ) → z.critical ≡ Some b → (f : Found tree code texts w lay img b) → IsDependedOn img f.number
  critical_depends k z e a inside b crit f = by_stack (stack_back w k z e)
    where
      by_critical : (o : Process) (l : Living tree code texts w lay img k o) → (c : Option ℕ) → c ≡ Some b → CriticalIs lay c l.core.registers.critical → IsDependedOn img f.number
      by_critical o l None i told = absurd (no_number b i)
        where
          no_number : (n : ℕ) → None ≡ Some n → ⊥
          no_number n j = cc
      by_critical o l (Some c) i told =
          let same : c ≡ b = some_same i in
          record {
            by = k;
            registers = l.core.registers;
            frame = told.0;
            has = l.has.registers;
            critical = told.1;
            lies = ap (λ (g : Place). g.stack) (some_same (sym told.2 ∙ ap (λ (j : ℕ). numbered lay.places j) same ∙ found_laid tree code texts w lay img b f));
          }

      by_picture : (o : Process) → z ≡ stack_of o → numbered w.processes k ≡ Some o → Pictured tree code texts w lay img k o → IsDependedOn img f.number
      by_picture o same is (living alive s l) = by_critical o l o.critical (ap (λ (x : Stack). x.critical) (sym same) ∙ crit) l.critical
      by_picture o same is (dead ended_is s) =
          absurd (subst (λ (is : List ℕ). IsInSkeleton is a)
          (ok.sound.skeleton_ok.ended k (stack_of o) (stack_forth w k o is) (ap (λ (x : State). lives x) ended_is)) (subst (λ (x : Stack). IsInSkeleton x.own a) same inside))

      by_stack : ((z.own ≡ []) × (z.evaluations ≡ []) × (z.live ≡ false)) ⊎ ((q : Process) × (numbered w.processes k ≡ Some q) × (z ≡ stack_of q)) → IsDependedOn img f.number
      by_stack (inl none) = absurd (subst (λ (is : List ℕ). IsInSkeleton is a) none.0 inside)
      by_stack (inr t) = by_picture t.0 t.2 t.1 (by.each k t.0 t.1)

  -- one step down
  step_near : (p a b : ℕ) → SkeletonNext (skeleton w) a b → (f : Found tree code texts w lay img a) (g : Found tree code texts w lay img b) → IsNearStack p img f.number → IsNearStack p img g.number
  step_near p a b n f g near = by_case (next_cases n.stack.critical n.stack.own a b n.next)
    where
      by_case : IsInSkeleton n.stack.own a × (IsInSkeleton n.stack.own b ⊎ (n.stack.critical ≡ Some b)) → IsNearStack p img g.number
      by_case c = by_below c.0 c.1
        where
          by_below : IsInSkeleton n.stack.own a → IsInSkeleton n.stack.own b ⊎ (n.stack.critical ≡ Some b) → IsNearStack p img g.number
          by_below above (inl inside) =
              subst (λ (k : ℕ). IsNearStack p img k) (number_is a n.number n.stack n.is above f ∙ sym (number_is b n.number n.stack n.is inside g)) near
          by_below above (inr crit) = inr (critical_depends n.number n.stack n.is a above b crit g)

  -- and so along a path
  pub path_near : (p a b : ℕ) → IsOnPath w a b → IsStanding w a → (f : Found tree code texts w lay img a) → IsNearStack p img f.number → (g : Found tree code texts w lay img b) → IsNearStack p img g.number
  path_near p a b skeletons.here st f near g = subst (λ (k : ℕ). IsNearStack p img k) (number_one a f g) near
  path_near p a b (skeletons.down {b = c} n rest) st f near g =
      let st_c : IsStanding w c = path_stands (scopes_of tree) w ok a c st (skeletons.down n skeletons.here) in
      let h : Found tree code texts w lay img c = find tree code texts w lay img by ok c st_c in
      path_near p c b rest st_c h (step_near p a c n f h near) g

  -- ---- what marks of a process lead to

  module _ (p q : ℕ) (near : IsNearStack p img q) where
    pub record Has (i : ℕ) : Type 0 where
      pub stands : IsStanding w i
      pub is_near : IsNearStack p img (find tree code texts w lay img by ok i stands).number

    pub own_has : (j : ℕ) (x : Instance) → numbered w.instances j ≡ Some x → x.process ≡ q → x.left ≡ false → Has j
    own_has j x is own stays =
        let st : IsStanding w j = (facts_of (scopes_of tree) w ok).stands j x is stays in
        record {
          stands = st;
          is_near = subst (λ (k : ℕ). IsNearStack p img k) (sym own ∙ found_process tree code texts w lay img j (find tree code texts w lay img by ok j st) x is) near;
        }

    pub path_has : (a b : ℕ) → Has a → IsOnPath w a b → Has b
    path_has a b h path =
        let st : IsStanding w b = path_stands (scopes_of tree) w ok a b h.stands path in
        record {
          stands = st;
          is_near = path_near p a b path h.stands (find tree code texts w lay img by ok a h.stands) h.is_near (find tree code texts w lay img by ok b st);
        }

    pub up_path : (j : ℕ) (x : Instance) → numbered w.instances j ≡ Some x → x.left ≡ false → 1 ≤ x.parent → IsOnPath w j x.parent
    up_path j x is stays some = parent_path (scopes_of tree) IsWholeInstance w ok.sound j x ((facts_of (scopes_of tree) w ok).stands j x is stays) is some

    pub frames_near : (i : ℕ) (g : Place) → Has i → numbered lay.places i ≡ Some g → NearFrame p img g
    frames_near i g h laid = standing_near tree code texts w lay img by ok p i h.stands h.is_near g laid
