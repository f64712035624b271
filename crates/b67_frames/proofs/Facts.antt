-- What is taken of a world that is as worlds are: what stands, and that what is referred to stands.
use Rattle.std.proofs.Common.{◌≡◌, ◌⊎◌, inl, inr, refl, sym, ap, subst, ℕ, zero, suc, List, [], ◌∷◌, Some, false, arith}
use Rattle.b67_frames.proofs.Prelude.{slice_get, numbered, Scopes, referred_in, NamedCell, Instance, World, instance_at, or_no_instance, below_in, IsInSkeleton, here, down, IsStanding, IsOnPath, skeleton}
use Rattle.algol_standing.specs.Skeleton.{Skeleton, SkeletonStands, OnPath}
use Rattle.algol_standing.specs.Worlds.{IsWholeInstance, referred_in_cells, parent_in, home_of}
use Rattle.algol_standing.specs.Fitting.{IsOk}
use Rattle.algol_standing.proofs.Pairs.{home_forth}
use Rattle.algol_standing.proofs.Seen.{in_front, in_back, there as there_is, parent_path}
use Rattle.algol_standing.proofs.Standing.{stands_path}

-- an instance that stands, or none
abbrev pub IsStandingOrNone : World → ℕ → Type 0
IsStandingOrNone w i = (i ≡ 0) ⊎ IsStanding w i

-- An instance stands exactly where it is not left. The parent of one that stands, and what its cells refer to, stand, and so does what lies on
-- the path from it.
pub record HasFacts (w : World) : Type 0 where
  pub nobody : IsStanding w 0 → ⊥
  pub there : (i : ℕ) → IsStanding w i → (x : Instance) × (numbered w.instances i ≡ Some x) × (x.left ≡ false)
  pub stands : (i : ℕ) (x : Instance) → numbered w.instances i ≡ Some x → x.left ≡ false → IsStanding w i
  pub parents : (i : ℕ) → IsStanding w i → IsStandingOrNone w ((instance_at w i).parent)
  pub cells : (i r : ℕ) → IsStanding w i → IsInSkeleton (referred_in_cells ((instance_at w i).cells)) r → IsStanding w r
  pub on_path : (a b : ℕ) → IsStanding w a → IsOnPath w a b → IsStanding w b

-- ---- worlds that are as worlds are have them

module _ (sc : Scopes) (w : World) (ok : IsOk sc IsWholeInstance w) where
  -- it is there, and not left
  inhabited : (i : ℕ) → IsStanding w i → (x : Instance) × (numbered w.instances i ≡ Some x) × (x.left ≡ false)
  inhabited i st =
      let x = there_is sc IsWholeInstance w ok.sound i st in
      (x.0, x.1, (ok.sound.instances i x.0 x.1).left.1 st)

  -- no instance has the number 0
  nothing_there : IsStanding w 0 → ⊥
  nothing_there st =
      let x = inhabited 0 st in
      let e : numbered w.instances 0 ≡ Some x.0 = x.1 in cc

  parent_stands : (i : ℕ) → IsStanding w i → IsStandingOrNone w ((instance_at w i).parent)
  parent_stands i st =
      let x = inhabited i st in
      subst (λ (y : Instance). IsStandingOrNone w y.parent) (sym (ap or_no_instance x.1)) (by_number (x.0).parent refl)
    where
      by_number : (n : ℕ) → n ≡ ((inhabited i st).0).parent → IsStandingOrNone w n
      by_number zero e = inl refl
      by_number (suc n) e =
          let x = inhabited i st in
          inr (stands_path (skeleton w) ok.sound.skeleton_ok i (suc n) st
          (subst (λ (k : ℕ). IsOnPath w i k) (sym e) (parent_path sc IsWholeInstance w ok.sound i x.0 st x.1 (omega (arith, e)))))

  referred_stands : (i r : ℕ) → IsStanding w i → IsInSkeleton (referred_in_cells ((instance_at w i).cells)) r → IsStanding w r
  referred_stands i r st inside =
      let x = inhabited i st in
      let there : IsInSkeleton (referred_in_cells (x.0).cells) r = subst (λ (y : Instance). IsInSkeleton (referred_in_cells y.cells) r) (ap or_no_instance x.1) inside in
      stands_path (skeleton w) ok.sound.skeleton_ok i r st
      (ok.sound.skeleton_ok.refers i (home_of x.0) r st (home_forth w i x.0 x.1) (in_back (parent_in (x.0).parent) (referred_in_cells (x.0).cells) r there))

  pub facts_of : HasFacts w
  facts_of =
      record {
        nobody = nothing_there;
        there = inhabited;
        stands = λ i x e f. (ok.sound.instances i x e).left.0 f;
        parents = parent_stands;
        cells = referred_stands;
        on_path = λ a b st path. stands_path (skeleton w) ok.sound.skeleton_ok a b st path;
      }

-- ---- what a cell refers to

-- is referred to by the cells among which it is
pub referred_there : (cells : List NamedCell) (k : ℕ) (c : NamedCell) (r : ℕ) → slice_get cells k ≡ Some c → IsInSkeleton (referred_in c.cell) r → IsInSkeleton (referred_in_cells cells) r
referred_there [] k c r e inside = cc
referred_there (d ∷ cells) zero c r e inside =
    let same : d ≡ c = cc in
    in_front (referred_in d.cell) (referred_in_cells cells) r (subst (λ (x : NamedCell). IsInSkeleton (referred_in x.cell) r) (sym same) inside)
referred_there (d ∷ cells) (suc k) c r e inside = in_back (referred_in d.cell) (referred_in_cells cells) r (referred_there cells k c r e inside)

-- a cell of an instance that stands, by its place
pub cell_refers : (w : World) → HasFacts w → (i : ℕ) (x : Instance) → numbered w.instances i ≡ Some x → x.left ≡ false → (k : ℕ) (c : NamedCell) → slice_get x.cells k ≡ Some c →
    (r : ℕ) → IsInSkeleton (referred_in c.cell) r → IsStanding w r
cell_refers w facts i x is stands k c e r inside =
    facts.cells i r (facts.stands i x is stands)
    (subst (λ (y : Instance). IsInSkeleton (referred_in_cells y.cells) r) (sym (ap or_no_instance is)) (referred_there x.cells k c r e inside))

-- ---- paths

-- from where nobody stands a path leads nowhere else
pub leads_nowhere : (s : Skeleton) (a b : ℕ) → (SkeletonStands s a → ⊥) → OnPath s a b → a ≡ b
leads_nowhere s a b nobody here = refl
leads_nowhere s a b nobody (down {b = c} n path) =
    absurd (nobody (record { number = n.number; stack = n.stack; is = n.is; inside = below_in n.stack.critical n.stack.own a c n.next }))
