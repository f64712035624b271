-- Branches that are aimed one after another.
use Rattle.std.proofs.Common.{◌≡◌, ℕ, ◌+◌, ◌≤◌, ◌<◌, eqb, Bool, true, false, List, [], ◌∷◌, ◌++◌, length, take, drop, get_or, refl, sym, ap, ◌∙◌, subst, inl, inr, arith, length-append}
use Rattle.std.specs.Prelude.{◌||◌}
use Rattle.std.proofs.lemmas.Bool.{eqb-true, eqb-false, cases_Bool, cond-true, cond-false}
use Rattle.std.proofs.lemmas.List.{drop_more, take_more}
use Rattle.b67_ops.specs.declared.Operator.TheVariants.{Branch}
use Rattle.b67_ops.specs.declared.BranchKind.{BranchKind}
use Rattle.b67_ops.specs.Spelling.{spelling}
use Rattle.b67_segment.specs.Operators.{Placed, StandsAmong, width, text, size, aimed, aimed_from}
use Rattle.b67_segment.specs.Building.{Built}
use Rattle.b67_segment.proofs.Among.{StandsAmong_aimed, StandsAmong_branch, aimed_width}
use Rattle.b67_templates.specs.Emitting.{number_is_among, Leaves, AreExits}
use Rattle.b67_emitter.proofs.Exits.{is_among_append, exits_kept}

-- ---- one branch

-- code is as long, wherever its branches go
pub length_aimed : (from place target : ℕ) (ps : List Placed) → length (text from (aimed_from from place target ps)) ≡ length (text from ps)
length_aimed from place target [] = refl
length_aimed from place target (p ∷ ps) =
    let wide = aimed_width from p.level target p.operator in
    let changed : Placed = record { level = p.level; operator = aimed target p.operator } in
    let next = from + width from p in
    elim (cases_Bool (eqb from place)) [
      | inl here ↦
          ap (λ qs. length (text from qs)) (cond-true (eqb from place) (changed ∷ ps) (p ∷ aimed_from next place target ps) here)
          ∙ omega (
            arith,
            wide,
            length-append (spelling from p.level (aimed target p.operator)) (text (from + width from changed) ps),
            length-append (spelling from p.level p.operator) (text next ps),
            ap (λ n. length (text (from + n) ps)) wide,
          )
      | inr other ↦
          ap (λ qs. length (text from qs)) (cond-false (eqb from place) (changed ∷ ps) (p ∷ aimed_from next place target ps) other)
          ∙ omega (
            arith,
            length_aimed next place target ps,
            length-append (spelling from p.level p.operator) (text next (aimed_from next place target ps)),
            length-append (spelling from p.level p.operator) (text next ps),
          )
    ]

-- what is none of one, and none of the next
or_none : (a b : Bool) → (a || (b || false)) ≡ false → (a ≡ false) × (b ≡ false)
or_none true b h = cc
or_none false true h = cc
or_none false false h = (refl, refl)

or_last : (a b : Bool) → (a || (b || false)) ≡ true → b ≡ false → a ≡ true
or_last true b h k = refl
or_last false true h k = cc
or_last false false h k = cc

-- a branch stays one
still_branch : (ps : List Placed) (branch target at level next old : ℕ) (kind : BranchKind) → StandsAmong ps at level (Branch kind old) next →
    (place : ℕ) × StandsAmong (aimed_from 0 branch target ps) at level (Branch kind place) next
still_branch ps branch target at level next old kind s =
    elim (cases_Bool (eqb at branch)) [
      | inl same ↦
          (target, subst (λ b. StandsAmong (aimed_from 0 b target ps) at level (Branch kind target) next) (eqb-true at branch same) (StandsAmong_branch target s))
      | inr other ↦ (old, StandsAmong_aimed branch target (eqb-false at branch other) s)
    ]

module _ (ps qs : List Placed) (done : List ℕ) (x target from to : ℕ) (l : Leaves done target from to ps qs) where
  -- what stands at the place of one of them is a branch still
  branch_there : (at level next old : ℕ) (kind : BranchKind) → from ≤ at → next ≤ to → StandsAmong ps at level (Branch kind old) next →
      (place : ℕ) × StandsAmong qs at level (Branch kind place) next
  branch_there at level next old kind lo hi s =
      elim (cases_Bool (number_is_among done at)) [
        | inl among ↦ (target, l.aimed at level next old kind among lo hi s)
        | inr out ↦ (old, l.others at level next (Branch kind old) out lo hi s)
      ]

  aimed_there : (at level next old : ℕ) (kind : BranchKind) → number_is_among (done ++ x ∷ []) at ≡ true → from ≤ at → next ≤ to →
      StandsAmong ps at level (Branch kind old) next → StandsAmong (aimed_from 0 x target qs) at level (Branch kind target) next
  aimed_there at level next old kind among lo hi s =
      elim (cases_Bool (eqb x at)) [
        | inl same ↦
            subst (λ b. StandsAmong (aimed_from 0 b target qs) at level (Branch kind target) next) (sym (eqb-true x at same))
            (StandsAmong_branch target (branch_there at level next old kind lo hi s).1)
        | inr other ↦
            StandsAmong_aimed x target (λ q. eqb-false x at other (sym q))
            (l.aimed at level next old kind (or_last (number_is_among done at) (eqb x at) (sym (is_among_append done (x ∷ []) at) ∙ among) other) lo hi s)
      ]

  leaves_more : Leaves (done ++ x ∷ []) target from to ps (aimed_from 0 x target qs)
  leaves_more = record {
    others = λ at level next op out lo hi s.
        let none = or_none (number_is_among done at) (eqb x at) (sym (is_among_append done (x ∷ []) at) ∙ out) in
        StandsAmong_aimed x target (λ q. eqb-false x at none.1 (sym q)) (l.others at level next op none.0 lo hi s);
    aimed = aimed_there;
  }

-- ---- one after another

-- Some of the branches go to the place after the code, and the others are branches still.
pub record Midway (done left : List ℕ) (before now : Built) : Type 0 where
  pub level : now.level ≡ before.level
  pub place : size now.operators ≡ size before.operators
  pub leaves : Leaves done (size before.operators) 0 (size before.operators) before.operators now.operators
  pub branches : AreExits now.operators left 0 (size before.operators)

midway_next : (done left : List ℕ) (x : ℕ) (b n : Built) → Midway done (x ∷ left) b n →
    Midway (done ++ x ∷ []) left b (record n { operators = aimed_from 0 x (size b.operators) n.operators })
midway_next done left x b n m = record {
  level = m.level;
  place = length_aimed 0 x (size b.operators) n.operators ∙ m.place;
  leaves = leaves_more b.operators n.operators done x (size b.operators) 0 (size b.operators) m.leaves;
  branches = exits_kept n.operators (aimed_from 0 x (size b.operators) n.operators) left 0 (size b.operators) 0 (size b.operators) (omega arith) (omega arith)
      (λ at level next old kind lo hi s. still_branch n.operators x (size b.operators) at level next old kind s) m.branches.1;
}

module _ (xs : List ℕ) (i x : ℕ) (b n : Built) (within : i < length xs) (is : x ≡ get_or xs i 0) (m : Midway (take i xs) (drop i xs) b n) where
  left_are : drop i xs ≡ x ∷ drop (i + 1) xs
  left_are = drop_more xs i 0 within ∙ ap (λ y. y ∷ drop (i + 1) xs) (sym is)

  split : Midway (take i xs) (x ∷ drop (i + 1) xs) b n
  split = let M : List ℕ → Type 0 = λ ys. Midway (take i xs) ys b n in subst M left_are m

  -- one more of them is aimed
  pub midway_more : (c : Built) (target : ℕ) → target ≡ size b.operators → c ≡ record n { operators = aimed_from 0 x target n.operators } →
      Midway (take (i + 1) xs) (drop (i + 1) xs) b c
  midway_more c target t e =
      let M : List ℕ → Type 0 = λ ys. Midway ys (drop (i + 1) xs) b (record n { operators = aimed_from 0 x (size b.operators) n.operators }) in
      let N : Built → Type 0 = λ d. Midway (take (i + 1) xs) (drop (i + 1) xs) b d in
      subst N (ap (λ y. record n { operators = aimed_from 0 x y n.operators }) (sym t) ∙ sym e)
      (subst M (ap (λ y. take i xs ++ y ∷ []) is ∙ sym (take_more xs i 0 within)) (midway_next (take i xs) (drop (i + 1) xs) x b n split))
