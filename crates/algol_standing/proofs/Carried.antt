-- A world whose stacks have changed: what holds of the instances, parts and processes that stand in it as before.
use Rattle.std.proofs.Common.{◌≡◌, ◌⊎◌, ℕ, ◌<◌, ◌≤◌, List, [], ◌∷◌, length, Some, true, false, refl, sym, ap, ◌∙◌, subst}
use Rattle.std.specs.Prelude.{◌↔◌}
use Rattle.b67_list.specs.Numbered.{numbered}
use Rattle.algol_tree.specs.Blocks.{around}
use Rattle.algol_tree.specs.Scopes.{Scopes}
use Rattle.algol_meaning.specs.Value.{Reference, NameCell, Cell, simple, event, array, named, reference}
use Rattle.algol_meaning.specs.World.{NamedCell, Instance, instance_at, Part, Process, State, able, waits_for, procures, waits_any, ended, lives, World}
use Rattle.algol_meaning.specs.Critical.{referred_in, referred_by}
use Rattle.algol_paths.specs.Blocks.{BlockIsSeen, IsSeenAround}
use Rattle.algol_paths.specs.Texts.{InExpr, InRest}
use Rattle.algol_paths.specs.Laws.{KeepsToText}
use Rattle.algol_standing.specs.Skeleton.{IsInSkeleton, SkeletonOk}
use Rattle.algol_standing.specs.Worlds.{parent_in, referred_in_cells, home_of, held_in_rest, newest_own, stack_of, skeleton, IsStanding, IsOnPath, IsAmongParts, PartIsPlaced, outermost, inside, IsAwaited, IsNameIn, IsNameAmong, IsNameHeld, IsNoBlock, HasHead, IsWholeInstance, KeepsActual, PartOk, ProcessOk, InstanceOk, IsSound}
use Rattle.algol_standing.proofs.Standing.{stands_path, stands_small}
use Rattle.algol_standing.proofs.Pairs.{home_forth, stack_forth}
use Rattle.algol_standing.proofs.Seen.{in_front, in_back, parent_among}
use Rattle.algol_standing.proofs.Fine.{part_stands_in, newest_stands}
use Rattle.algol_standing.proofs.Unmoved.{Unmoved, unmoved_ok}

-- ---- a name refers to its instance

name_in : (c : Cell) (n : NameCell) → IsNameIn c n → IsInSkeleton (referred_in c) n.instance
name_in (named m) n e = ◌⊎◌.inl (ap (λ (k : NameCell). k.instance) e)
name_in (simple v) n e = absurd e
name_in (event d) n e = absurd e
name_in (array a) n e = absurd e
name_in (reference r) n e = absurd e

pub name_among : (cells : List NamedCell) (n : NameCell) → IsNameAmong cells n → IsInSkeleton (referred_in_cells cells) n.instance
name_among [] n m = absurd m
name_among (c ∷ cells) n (◌⊎◌.inl m) = in_front (referred_in c.cell) (referred_in_cells cells) n.instance (name_in c.cell n m)
name_among (c ∷ cells) n (◌⊎◌.inr m) = in_back (referred_in c.cell) (referred_in_cells cells) n.instance (name_among cells n m)

pub name_held : (cells : List Cell) (n : NameCell) → IsNameHeld cells n → IsInSkeleton (referred_by cells) n.instance
name_held [] n m = absurd m
name_held (c ∷ cells) n (◌⊎◌.inl m) = in_front (referred_in c) (referred_by cells) n.instance (name_in c n m)
name_held (c ∷ cells) n (◌⊎◌.inr m) = in_back (referred_in c) (referred_by cells) n.instance (name_held cells n m)

awaited_lives : (s : State) (r : Reference) → IsAwaited s r → lives s ≡ true
awaited_lives able r n = absurd n
awaited_lives (waits_for t) r n = refl
awaited_lives (procures t) r n = refl
awaited_lives (waits_any rs) r n = refl
awaited_lives ended r n = absurd n

module _ (sc : Scopes) (w v : World) (ok : IsSound sc IsWholeInstance w) (after : SkeletonOk (skeleton v))
    (paths : (a b : ℕ) → IsStanding w a → IsStanding v a → IsOnPath w a b → IsOnPath v a b)
    (blocks : (i : ℕ) → i < length (skeleton w).homes → (instance_at v i).block ≡ (instance_at w i).block) (whole : (i : ℕ) → IsStanding v i → IsWholeInstance w i → IsWholeInstance v i) where
  abbrev pub InBoth : ℕ → Type 0
  InBoth i = IsStanding w i × IsStanding v i

  pub block_kept : (i : ℕ) → IsStanding w i → (instance_at v i).block ≡ (instance_at w i).block
  block_kept i st = blocks i (stands_small (skeleton w) ok.skeleton_ok i st)

  -- ---- actuals and parts

  pub actual_kept : (n : NameCell) → InBoth n.instance → KeepsActual sc IsWholeInstance w n → KeepsActual sc IsWholeInstance v n
  actual_kept n b k =
      record {
        seen = subst (λ j. InExpr (BlockIsSeen sc j) n.actual) (sym (block_kept n.instance b.0)) k.seen;
        narrow = by k.narrow;
      }
    where
      by : IsWholeInstance w n.instance ⊎ InExpr (IsSeenAround sc ((instance_at w n.instance).block)) n.actual →
          IsWholeInstance v n.instance ⊎ InExpr (IsSeenAround sc ((instance_at v n.instance).block)) n.actual
      by (◌⊎◌.inl f) = ◌⊎◌.inl (whole n.instance b.1 f)
      by (◌⊎◌.inr f) = ◌⊎◌.inr (subst (λ j. InExpr (IsSeenAround sc j) n.actual) (sym (block_kept n.instance b.0)) f)

  pub part_kept : (x : Part) → ((i : ℕ) → IsInSkeleton (x.instance ∷ referred_by (held_in_rest x.rest)) i → InBoth i) → PartOk sc IsWholeInstance w x → PartOk sc IsWholeInstance v x
  part_kept x b k =
      record {
        text = subst (λ j. KeepsToText sc j x.rest) (sym same) k.text;
        narrow = λ e. by (k.narrow e);
        names = λ n m. actual_kept n (b n.instance (◌⊎◌.inr (name_held (held_in_rest x.rest) n m))) (k.names n m);
      }
    where
      here : InBoth x.instance
      here = b x.instance (◌⊎◌.inl refl)

      same : (instance_at v x.instance).block ≡ (instance_at w x.instance).block
      same = block_kept x.instance here.0

      by : IsWholeInstance w x.instance ⊎ InRest (IsSeenAround sc ((instance_at w x.instance).block)) IsNoBlock (IsSeenAround sc ((instance_at w x.instance).block)) x.rest →
          IsWholeInstance v x.instance ⊎ InRest (IsSeenAround sc ((instance_at v x.instance).block)) IsNoBlock (IsSeenAround sc ((instance_at v x.instance).block)) x.rest
      by (◌⊎◌.inl f) = ◌⊎◌.inl (whole x.instance here.1 f)
      by (◌⊎◌.inr f) = ◌⊎◌.inr (subst (λ j. InRest (IsSeenAround sc j) IsNoBlock (IsSeenAround sc j) x.rest) (sym same) f)

  -- ---- processes

  pub unmoved_kept : (k : ℕ) (x y : Process) → numbered w.processes k ≡ Some x → numbered v.processes k ≡ Some y → Unmoved x y → ProcessOk sc IsWholeInstance v y
  unmoved_kept k x y e g f =
      record {
        parts = λ part n. part_kept part (λ i m. both part n i m) (before.parts part n);
        heads = before.heads;
        gives = before.gives;
        awaited = λ r n. awaited r n (before.heads (awaited_lives y.state r n));
        few = before.few;
      }
    where
      before : ProcessOk sc IsWholeInstance w y
      before = unmoved_ok sc IsWholeInstance w x y f (ok.processes k x e)

      both : (part : Part) → IsAmongParts y.todo part → (i : ℕ) → IsInSkeleton (part.instance ∷ referred_by (held_in_rest part.rest)) i → InBoth i
      both part n i m = (part_stands_in w ok.skeleton_ok k x part i e (subst (λ ps. IsAmongParts ps part) f.todo n) m, part_stands_in v after k y part i g n m)

      awaited : (r : Reference) → IsAwaited y.state r → HasHead y.todo → IsOnPath v (newest_own y.todo) r.instance
      awaited r n head =
          let st_w : IsStanding w (newest_own y.todo) =
          subst (λ ps. IsStanding w (newest_own ps)) (sym head.is) (newest_stands w ok.skeleton_ok k x head.part head.outer e (sym f.todo ∙ head.is)) in
          let st_v : IsStanding v (newest_own y.todo) = subst (λ ps. IsStanding v (newest_own ps)) (sym head.is) (newest_stands v after k y head.part head.outer g head.is) in
          paths (newest_own y.todo) r.instance st_w st_v (before.awaited r n)

  -- the process was x and has its critical instance and its task
  pub tasks_kept : (k c : ℕ) (x y : Process) (r : Reference) → numbered w.processes k ≡ Some x → numbered v.processes k ≡ Some y → y.critical ≡ x.critical → y.task ≡ x.task →
      lives x.state ≡ true → lives y.state ≡ true → y.critical ≡ Some c → y.task ≡ Some r → IsOnPath v c r.instance
  tasks_kept k c x y r e g f h live_x live_y cr t =
      paths c r.instance (ok.skeleton_ok.holds k (stack_of x) c (stack_forth w k x e) live_x (sym f ∙ cr)) (after.holds k (stack_of y) c (stack_forth v k y g) live_y cr)
      (ok.tasks k c x r e live_x (sym f ∙ cr) (sym h ∙ t))

  -- ---- instances

  pub instance_kept : (i : ℕ) (x y : Instance) → numbered w.instances i ≡ Some x → y.block ≡ x.block → y.parent ≡ x.parent → y.cells ≡ x.cells →
      ((y.left ≡ false) ↔ IsStanding v i) → (IsStanding v i → IsStanding w i) → InstanceOk sc IsWholeInstance v i y
  instance_kept i x y e block_is parent_is cells_are left_is stood =
      record {
        left = left_is;
        known = subst (λ j. j < length sc.blocks) (sym block_is) old.known;
        placed = placed old.placed;
        whole = λ st h.
            let g : 1 ≤ x.parent = subst (λ j. 1 ≤ j) parent_is h in
            subst (λ j. IsWholeInstance v j) (sym parent_is) (whole x.parent (leads st x.parent (parent_among sc IsWholeInstance w ok x.parent (referred_in_cells x.cells) g)).1 (old.whole (stood st) g));
        actuals = λ n st m.
            let named_here : IsNameAmong x.cells n = subst (λ cs. IsNameAmong cs n) cells_are m in
            let at = in_back (parent_in x.parent) (referred_in_cells x.cells) n.instance (name_among x.cells n named_here) in
            actual_kept n (leads st n.instance at) (old.actuals n (stood st) named_here);
      }
    where
      old : InstanceOk sc IsWholeInstance w i x
      old = ok.instances i x e

      -- what it refers to stands in both
      leads : IsStanding v i → (r : ℕ) → IsInSkeleton (home_of x).refs r → InBoth r
      leads st r n =
          let path = ok.skeleton_ok.refers i (home_of x) r (stood st) (home_forth w i x e) n in
          (stands_path (skeleton w) ok.skeleton_ok i r (stood st) path, stands_path (skeleton v) after i r st (paths i r (stood st) st path))

      placed : PartIsPlaced sc w x → PartIsPlaced sc v y
      placed (outermost g a) = outermost (parent_is ∙ g) (ap (λ j. around sc.blocks j) block_is ∙ a)
      placed (inside g a) = inside (subst (λ j. 1 ≤ j) (sym parent_is) g) (ap (λ j. around sc.blocks j) block_is ∙ (a ∙ sym outer))
        where
          small : x.parent < length (skeleton w).homes
          small = ok.skeleton_ok.known i (home_of x) x.parent (home_forth w i x e) (parent_among sc IsWholeInstance w ok x.parent (referred_in_cells x.cells) g)

          same : (instance_at v y.parent).block ≡ (instance_at w x.parent).block
          same = ap (λ j. (instance_at v j).block) parent_is ∙ blocks x.parent small

          outer : (instance_at v y.parent).block ∷ around sc.blocks ((instance_at v y.parent).block) ≡ (instance_at w x.parent).block ∷ around sc.blocks ((instance_at w x.parent).block)
          outer = ap (λ j. j ∷ around sc.blocks j) same
