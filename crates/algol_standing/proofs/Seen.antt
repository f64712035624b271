-- What a part names and what it holds lies on the path from the newest instance of its stack.
use Rattle.std.proofs.Common.{◌≡◌, ◌⊎◌, ℕ, zero, suc, ◌≤◌, List, [], ◌∷◌, ◌++◌, map, Some, Bool, true, false, refl, sym, ap, ◌∙◌, subst, arith}
use Rattle.std.specs.Prelude.{slice_get, if◌then◌else◌}
use Rattle.b67_list.specs.Numbered.{numbered}
use Rattle.b67_list.proofs.Numbers.{none_some}
use Rattle.algol_tree.specs.declared.tree.Named.{Named}
use Rattle.algol_tree.specs.Blocks.{around}
use Rattle.algol_tree.specs.Sorts.{same_name}
use Rattle.algol_tree.specs.Scopes.{Scopes, use_of}
use Rattle.algol_meaning.specs.Value.{NameCell, Cell}
use Rattle.algol_meaning.specs.World.{NamedCell, Instance, or_no_instance, instance_at, ancestor, cell_in, cell_at, Part, Process, World}
use Rattle.algol_meaning.specs.Critical.{own_instances, referred_in, referred_by}
use Rattle.algol_paths.specs.Blocks.{BlockIsSeen}
use Rattle.algol_standing.specs.Skeleton.{Evaluation, IsEvaluated, Home, IsInSkeleton, here}
use Rattle.algol_standing.specs.Worlds.{parent_in, referred_in_cells, home_of, held_in_rest, newest_own, held_by, stack_of, skeleton, IsStanding, IsOnPath, IsAmongParts, PartIsPlaced, outermost, inside, IsNameIn, IsNameAmong, IsNameHeld, KeepsActual, PartOk, IsSound}
use Rattle.algol_standing.proofs.Lists.{some_same}
use Rattle.algol_standing.proofs.Standing.{stands_path, path_on, home_stands}
use Rattle.algol_standing.proofs.Holding.{AreAll}
use Rattle.algol_standing.proofs.Pairs.{map_back, home_forth, stack_forth, stack_back}

-- ---- lists of instances

pub in_front : (xs ys : List ℕ) (i : ℕ) → IsInSkeleton xs i → IsInSkeleton (xs ++ ys) i
in_front [] ys i n = absurd n
in_front (x ∷ xs) ys i (◌⊎◌.inl e) = ◌⊎◌.inl e
in_front (x ∷ xs) ys i (◌⊎◌.inr n) = ◌⊎◌.inr (in_front xs ys i n)

pub in_back : (xs ys : List ℕ) (i : ℕ) → IsInSkeleton ys i → IsInSkeleton (xs ++ ys) i
in_back [] ys i n = n
in_back (x ∷ xs) ys i n = ◌⊎◌.inr (in_back xs ys i n)

pub in_either : (xs ys : List ℕ) (i : ℕ) → IsInSkeleton (xs ++ ys) i → IsInSkeleton xs i ⊎ IsInSkeleton ys i
in_either [] ys i n = ◌⊎◌.inr n
in_either (x ∷ xs) ys i (◌⊎◌.inl e) = ◌⊎◌.inl (◌⊎◌.inl e)
in_either (x ∷ xs) ys i (◌⊎◌.inr n) = by (in_either xs ys i n)
  where
    by : IsInSkeleton xs i ⊎ IsInSkeleton ys i → IsInSkeleton (x ∷ xs) i ⊎ IsInSkeleton ys i
    by (◌⊎◌.inl m) = ◌⊎◌.inl (◌⊎◌.inr m)
    by (◌⊎◌.inr m) = ◌⊎◌.inr m

-- ---- evaluations of parts

abbrev pub above : ℕ → List ℕ → List Evaluation
above top is = map (λ (i : ℕ). record { over = top; within = i }) is

pub evaluated_front : (top : ℕ) (is : List ℕ) (es : List Evaluation) (i : ℕ) → IsInSkeleton is i → IsEvaluated (above top is ++ es) (record { over = top; within = i })
evaluated_front top [] es i n = absurd n
evaluated_front top (j ∷ is) es i (◌⊎◌.inl e) = ◌⊎◌.inl (ap (λ (k : ℕ). record { over = top; within = k }) e)
evaluated_front top (j ∷ is) es i (◌⊎◌.inr n) = ◌⊎◌.inr (evaluated_front top is es i n)

pub evaluated_back : (top : ℕ) (is : List ℕ) (es : List Evaluation) (e : Evaluation) → IsEvaluated es e → IsEvaluated (above top is ++ es) e
evaluated_back top [] es e n = n
evaluated_back top (j ∷ is) es e n = ◌⊎◌.inr (evaluated_back top is es e n)

pub evaluated_either : (top : ℕ) (is : List ℕ) (es : List Evaluation) (e : Evaluation) → IsEvaluated (above top is ++ es) e → ((e.over ≡ top) × IsInSkeleton is e.within) ⊎ IsEvaluated es e
evaluated_either top [] es e n = ◌⊎◌.inr n
evaluated_either top (j ∷ is) es e (◌⊎◌.inl f) = ◌⊎◌.inl (ap (λ (x : Evaluation). x.over) (sym f), ◌⊎◌.inl (ap (λ (x : Evaluation). x.within) f))
evaluated_either top (j ∷ is) es e (◌⊎◌.inr n) = by (evaluated_either top is es e n)
  where
    by : ((e.over ≡ top) × IsInSkeleton is e.within) ⊎ IsEvaluated es e → ((e.over ≡ top) × IsInSkeleton (j ∷ is) e.within) ⊎ IsEvaluated es e
    by (◌⊎◌.inl f) = ◌⊎◌.inl (f.0, ◌⊎◌.inr f.1)
    by (◌⊎◌.inr f) = ◌⊎◌.inr f

-- ---- cells

-- a cell that is read is one of the instance, or a value
pub read_refs : (cells : List NamedCell) (name : List ℕ) (i : ℕ) → IsInSkeleton (referred_in (cell_in cells name)) i → IsInSkeleton (referred_in_cells cells) i
read_refs [] name i n = absurd n
read_refs (c ∷ cells) name i n = by (same_name c.name name) (λ m. read_refs cells name i m) n
  where
    by : (b : Bool) → (IsInSkeleton (referred_in (cell_in cells name)) i → IsInSkeleton (referred_in_cells cells) i) → IsInSkeleton (referred_in (if b then c.cell else cell_in cells name)) i →
        IsInSkeleton (referred_in c.cell ++ referred_in_cells cells) i
    by true f m = in_front (referred_in c.cell) (referred_in_cells cells) i m
    by false f m = in_back (referred_in c.cell) (referred_in_cells cells) i (f m)

pub read_names : (cells : List NamedCell) (name : List ℕ) (m : NameCell) → IsNameIn (cell_in cells name) m → IsNameAmong cells m
read_names [] name m n = absurd n
read_names (c ∷ cells) name m n = by (same_name c.name name) (λ k. read_names cells name m k) n
  where
    by : (b : Bool) → (IsNameIn (cell_in cells name) m → IsNameAmong cells m) → IsNameIn (if b then c.cell else cell_in cells name) m → IsNameAmong (c ∷ cells) m
    by true f k = ◌⊎◌.inl k
    by false f k = ◌⊎◌.inr (f k)

module _ (sc : Scopes) (Whole : World → ℕ → Type 0) (w : World) (ok : IsSound sc Whole w) where
  -- what is held above an instance: what it refers to lies on the path, and the actuals of its names stand in their texts
  abbrev pub CellOk : ℕ → Cell → Type 0
  CellOk top c = ((i : ℕ) → IsInSkeleton (referred_in c) i → IsOnPath w top i) × ((m : NameCell) → IsNameIn c m → KeepsActual sc Whole w m)

  pub all_by : (top : ℕ) (cells : List Cell) → ((i : ℕ) → IsInSkeleton (referred_by cells) i → IsOnPath w top i) → ((m : NameCell) → IsNameHeld cells m → KeepsActual sc Whole w m) →
      AreAll (CellOk top) cells
  all_by top [] f g = tt
  all_by top (c ∷ cells) f g = (
    (λ i n. f i (in_front (referred_in c) (referred_by cells) i n), λ m n. g m (◌⊎◌.inl n)),
    all_by top cells (λ i n. f i (in_back (referred_in c) (referred_by cells) i n)) (λ m n. g m (◌⊎◌.inr n)),
  )

  pub all_refs : (top : ℕ) (cells : List Cell) → AreAll (CellOk top) cells → (i : ℕ) → IsInSkeleton (referred_by cells) i → IsOnPath w top i
  all_refs top [] f i n = absurd n
  all_refs top (c ∷ cells) f i n = by (λ m. all_refs top cells f.1 i m) (in_either (referred_in c) (referred_by cells) i n)
    where
      by : (IsInSkeleton (referred_by cells) i → IsOnPath w top i) → IsInSkeleton (referred_in c) i ⊎ IsInSkeleton (referred_by cells) i → IsOnPath w top i
      by g (◌⊎◌.inl m) = f.0.0 i m
      by g (◌⊎◌.inr m) = g m

  pub all_names : (top : ℕ) (cells : List Cell) → AreAll (CellOk top) cells → (m : NameCell) → IsNameHeld cells m → KeepsActual sc Whole w m
  all_names top [] f m n = absurd n
  all_names top (c ∷ cells) f m (◌⊎◌.inl n) = f.0.1 m n
  all_names top (c ∷ cells) f m (◌⊎◌.inr n) = all_names top cells f.1 m n

  -- ---- instances

  -- an instance that stands is there
  pub there : (i : ℕ) → IsStanding w i → (x : Instance) × (numbered w.instances i ≡ Some x)
  there zero st = nowhere (home_stands (skeleton w) ok.skeleton_ok 0 st) (stack_back w st.number st.stack st.is)
    where
      nowhere : (h : Home) × (slice_get (skeleton w).homes 0 ≡ Some h) × (h.process ≡ st.number) →
          ((st.stack.own ≡ []) × (st.stack.evaluations ≡ []) × (st.stack.live ≡ false)) ⊎ ((q : Process) × (numbered w.processes st.number ≡ Some q) × (st.stack ≡ stack_of q)) →
          (x : Instance) × (numbered w.instances 0 ≡ Some x)
      nowhere h (◌⊎◌.inl f) = absurd (subst (λ o. IsInSkeleton o 0) f.0 st.inside)
      nowhere h (◌⊎◌.inr f) =
          let none : record { refs = []; process = 0 } ≡ h.0 = some_same refl h.1 in
          let number : st.number ≡ 0 = sym h.2 ∙ ap (λ (g : Home). g.process) (sym none) in
          none_some (ap (λ k. numbered w.processes k) (sym number) ∙ f.1)
  there (suc k) st =
      let h = home_stands (skeleton w) ok.skeleton_ok (suc k) st in
      let m = map_back home_of w.instances k h.0 h.1 in
      (m.0, m.1)

  pub instance_is : (i : ℕ) (x : Instance) → numbered w.instances i ≡ Some x → instance_at w i ≡ x
  instance_is i x e = ap or_no_instance e

  pub parent_among : (j : ℕ) (is : List ℕ) → 1 ≤ j → IsInSkeleton (parent_in j ++ is) j
  parent_among zero is h = absurd (omega (arith, h))
  parent_among (suc j) is h = ◌⊎◌.inl refl

  pub parent_path : (i : ℕ) (x : Instance) → IsStanding w i → numbered w.instances i ≡ Some x → 1 ≤ x.parent → IsOnPath w i x.parent
  parent_path i x st e h = ok.skeleton_ok.refers i (home_of x) x.parent st (home_forth w i x e) (parent_among x.parent (referred_in_cells x.cells) h)

  -- the instance so many static parents up, where the blocks around reach so far
  pub ancestors : (up i b : ℕ) → IsStanding w i → slice_get ((instance_at w i).block ∷ around sc.blocks ((instance_at w i).block)) up ≡ Some b →
      IsOnPath w i (ancestor w up i) × ((instance_at w (ancestor w up i)).block ≡ b)
  ancestors zero i b st e = (here, cc)
  ancestors (suc up) i b st e =
      let x = there i st in
      let same : instance_at w i ≡ x.0 = instance_is i x.0 x.1 in
      by x.0 x.1 same (λ j s f. ancestors up j b s f) (ok.instances i x.0 x.1).placed (ap (λ (y : Instance). slice_get (around sc.blocks y.block) up) (sym same) ∙ e)
    where
      by : (x : Instance) → numbered w.instances i ≡ Some x → instance_at w i ≡ x →
          ((j : ℕ) → IsStanding w j → slice_get ((instance_at w j).block ∷ around sc.blocks ((instance_at w j).block)) up ≡ Some b →
          IsOnPath w j (ancestor w up j) × ((instance_at w (ancestor w up j)).block ≡ b)) → PartIsPlaced sc w x → slice_get (around sc.blocks x.block) up ≡ Some b →
          IsOnPath w i (ancestor w (suc up) i) × ((instance_at w (ancestor w (suc up) i)).block ≡ b)
      by x e same more_up (outermost g a) f = none_some (ap (λ js. slice_get js up) (sym a) ∙ f)
      by x e same more_up (inside g a) f =
          let path : IsOnPath w i x.parent = parent_path i x st e g in
          let more = more_up x.parent (stands_path (skeleton w) ok.skeleton_ok i x.parent st path) (ap (λ js. slice_get js up) (sym a) ∙ f) in
          let all : IsOnPath w i (ancestor w up x.parent) = path_on (skeleton w) ok.skeleton_ok i x.parent (ancestor w up x.parent) path more.0 in
          subst (λ (y : Instance). IsOnPath w i (ancestor w up y.parent) × ((instance_at w (ancestor w up y.parent)).block ≡ b)) (sym same) (all, more.1)

  -- a cell of an instance that stands
  pub cell_ok : (i : ℕ) (name : List ℕ) → IsStanding w i → CellOk i (cell_at w (record { instance = i; name = name }))
  cell_ok i name st =
      let x = there i st in
      let same : instance_at w i ≡ x.0 = instance_is i x.0 x.1 in
      subst (λ (y : Instance). CellOk i (cell_in y.cells name)) (sym same) (
        λ j n. ok.skeleton_ok.refers i (home_of x.0) j st (home_forth w i x.0 x.1) (in_back (parent_in (x.0).parent) (referred_in_cells (x.0).cells) j (read_refs (x.0).cells name j n)),
        λ m n. (ok.instances i x.0 x.1).actuals m st (read_names (x.0).cells name m n),
      )

  pub cell_further : (top i : ℕ) (c : Cell) → IsOnPath w top i → CellOk i c → CellOk top c
  cell_further top i c l k = (λ j n. path_on (skeleton w) ok.skeleton_ok top i j l (k.0 j n), k.1)

  -- ---- the innermost part of a process

  module _ (p : ℕ) (q : Process) (part : Part) (outer : List Part) (is : numbered w.processes p ≡ Some q) (todo : q.todo ≡ part ∷ outer) where
    abbrev pub top : ℕ
    top = newest_own (part ∷ outer)

    pub holds : (e : Evaluation) → IsEvaluated (held_by (part ∷ outer)) e → IsInSkeleton (own_instances (part ∷ outer)) e.over × IsOnPath w e.over e.within
    holds e n =
        let o = ok.skeleton_ok.evaluates p (stack_of q) e (stack_forth w p q is) (subst (λ ps. IsEvaluated (held_by ps) e) (sym todo) n) in
        (subst (λ ps. IsInSkeleton (own_instances ps) e.over) todo o.0, o.1)

    pub top_inside : IsInSkeleton (own_instances (part ∷ outer)) top
    top_inside = (holds (record { over = top; within = part.instance })
        (evaluated_front top (part.instance ∷ referred_by (held_in_rest part.rest)) (held_by outer) part.instance (◌⊎◌.inl refl))).0

    pub part_path : IsOnPath w top part.instance
    part_path = (holds (record { over = top; within = part.instance })
        (evaluated_front top (part.instance ∷ referred_by (held_in_rest part.rest)) (held_by outer) part.instance (◌⊎◌.inl refl))).1

    pub top_stands : IsStanding w top
    top_stands = record { number = p; stack = stack_of q; is = stack_forth w p q is; inside = subst (λ ps. IsInSkeleton (own_instances ps) top) (sym todo) top_inside }

    pub part_stands : IsStanding w part.instance
    part_stands = stands_path (skeleton w) ok.skeleton_ok top part.instance top_stands part_path

    pub part_ok : PartOk sc Whole w part
    part_ok = (ok.processes p q is).parts part (subst (λ ps. IsAmongParts ps part) (sym todo) (◌⊎◌.inl refl))

    pub held_ok : AreAll (CellOk top) (held_in_rest part.rest)
    held_ok =
        all_by top (held_in_rest part.rest)
        (λ i n. (holds (record { over = top; within = i }) (evaluated_front top (part.instance ∷ referred_by (held_in_rest part.rest)) (held_by outer) i (◌⊎◌.inr n))).1)
        (λ m n. part_ok.names m n)

    -- the instance that holds what a name means, and its cell there
    pub home_path : (n : Named) → BlockIsSeen sc ((instance_at w part.instance).block) n → IsOnPath w top (ancestor w ((use_of sc n).up) part.instance)
    home_path n s =
        path_on (skeleton w) ok.skeleton_ok top part.instance (ancestor w ((use_of sc n).up) part.instance) part_path
        (ancestors ((use_of sc n).up) part.instance ((use_of sc n).block) part_stands s).0

    pub cell_here : (n : Named) → BlockIsSeen sc ((instance_at w part.instance).block) n →
        CellOk top (cell_at w (record { instance = ancestor w ((use_of sc n).up) part.instance; name = n.name }))
    cell_here n s =
        let i = ancestor w ((use_of sc n).up) part.instance in
        cell_further top i (cell_at w (record { instance = i; name = n.name })) (home_path n s)
        (cell_ok i n.name (stands_path (skeleton w) ok.skeleton_ok top i top_stands (home_path n s)))
