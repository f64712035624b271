-- Code after code, and code whose branches are aimed: what was promised of the parts holds of the whole.
use Rattle.std.proofs.Common.{◌≡◌, ℕ, ◌≤◌, List, [], ◌++◌, length, drop, refl, sym, ap, ◌∙◌, subst, arith, append_assoc}
use Rattle.std.proofs.lemmas.List.{append-nil, drop_at}
use Rattle.b67_ops.specs.declared.Operator.TheVariants.{Branch}
use Rattle.b67_segment.specs.Operators.{Placed, size}
use Rattle.b67_segment.specs.Building.{Built}
use Rattle.b67_templates.specs.Emitting.{Emitted, number_is_among, Leaves, AreExits, EmittedWithExits}
use Rattle.b67_list.proofs.Truths.{or_second}
use Rattle.b67_emitter.specs.Aiming.{Aimed}
use Rattle.b67_emitter.proofs.Exits.{next_behind, is_among_append, or_left, none_before, none_behind, exits_kept, exits_append}

-- ---- the same code with a weaker claim

pub weaker : {a b : Built} {P : List Placed → Type 0} (Q : List Placed → Type 0) → Emitted a b P → ((qs : List Placed) → P qs → Q qs) → Emitted a b Q
weaker {a} {b} Q e f = record { level = e.level; grown = e.grown; kept = e.kept; claimed = λ qs k. f qs (e.claimed qs k) }

pub weaker_exits : {a b : Built} {xs ys : List ℕ} {P : List Placed → ℕ → Type 0} (Q : List Placed → ℕ → Type 0) → EmittedWithExits a b xs ys P →
    ((qs : List Placed) (target : ℕ) → size b.operators ≤ target → P qs target → Q qs target) → EmittedWithExits a b xs ys Q
weaker_exits {a} {b} Q e f = record {
  level = e.level;
  grown = e.grown;
  kept = e.kept;
  exits = e.exits;
  added = e.added;
  are = e.are;
  claimed = λ qs target h l. f qs target h (e.claimed qs target h l);
}

-- code without exits
pub no_exits : {a b : Built} {P : List Placed → Type 0} (xs : List ℕ) → Emitted a b P → EmittedWithExits a b xs xs (λ qs target. P qs)
no_exits {a} {b} xs e = record {
  level = e.level;
  grown = e.grown;
  kept = e.kept;
  exits = [];
  added = sym (append-nil xs);
  are = tt;
  claimed = λ qs target h l. e.claimed qs (λ at level next op lo hi s. l.others at level next op refl lo hi s);
}

-- ---- one after the other

pub then : {a b c : Built} {P Q : List Placed → Type 0} → Emitted a b P → Emitted b c Q → Emitted a c (λ qs. P qs × Q qs)
then {a} {b} {c} e f = record {
  level = f.level ∙ e.level;
  grown = omega (arith, e.grown, f.grown);
  kept = λ at level next op lo hi s. f.kept at level next op lo (omega (arith, e.grown)) (e.kept at level next op lo hi s);
  claimed = λ qs k. (
    e.claimed qs (λ at level next op lo hi s. k at level next op lo (omega (arith, f.grown)) (f.kept at level next op (omega arith) hi s)),
    f.claimed qs (λ at level next op lo hi s. k at level next op (omega (arith, e.grown)) hi s),
  );
}

module _ (a b c : Built) (P Q : List Placed → ℕ → Type 0) (xs ys zs : List ℕ) (e : EmittedWithExits a b xs ys P) (f : EmittedWithExits b c ys zs Q) where
  first_leaves : (qs : List Placed) (target : ℕ) → Leaves (e.exits ++ f.exits) target (size a.operators) (size c.operators) c.operators qs →
      Leaves e.exits target (size a.operators) (size b.operators) b.operators qs
  first_leaves qs target l = record {
    others = λ at level next op out lo hi s.
        let behind = next_behind b.operators at level next op s in
        l.others at level next op
        (is_among_append e.exits f.exits at ∙ or_left (number_is_among e.exits at) (number_is_among f.exits at) (none_before c.operators f.exits (size b.operators) (size c.operators) at f.are (omega arith)) ∙ out)
        lo (omega (arith, f.grown)) (f.kept at level next op (omega arith) hi s);
    aimed = λ at level next old kind among lo hi s.
        let behind = next_behind b.operators at level next (Branch kind old) s in
        l.aimed at level next old kind
        (is_among_append e.exits f.exits at ∙ or_left (number_is_among e.exits at) (number_is_among f.exits at) (none_before c.operators f.exits (size b.operators) (size c.operators) at f.are (omega arith)) ∙ among)
        lo (omega (arith, f.grown)) (f.kept at level next (Branch kind old) (omega arith) hi s);
  }

  second_leaves : (qs : List Placed) (target : ℕ) → Leaves (e.exits ++ f.exits) target (size a.operators) (size c.operators) c.operators qs →
      Leaves f.exits target (size b.operators) (size c.operators) c.operators qs
  second_leaves qs target l = record {
    others = λ at level next op out lo hi s.
        l.others at level next op
        (is_among_append e.exits f.exits at ∙ or_second (number_is_among e.exits at) (number_is_among f.exits at) (none_behind b.operators e.exits (size a.operators) (size b.operators) at e.are lo) ∙ out)
        (omega (arith, e.grown)) hi s;
    aimed = λ at level next old kind among lo hi s.
        l.aimed at level next old kind
        (is_among_append e.exits f.exits at ∙ or_second (number_is_among e.exits at) (number_is_among f.exits at) (none_behind b.operators e.exits (size a.operators) (size b.operators) at e.are lo) ∙ among)
        (omega (arith, e.grown)) hi s;
  }

  pub then_exits : EmittedWithExits a c xs zs (λ qs target. P qs target × Q qs target)
  then_exits = record {
    level = f.level ∙ e.level;
    grown = omega (arith, e.grown, f.grown);
    kept = λ at level next op lo hi s. f.kept at level next op lo (omega (arith, e.grown)) (e.kept at level next op lo hi s);
    exits = e.exits ++ f.exits;
    added = f.added ∙ ap (λ l. l ++ f.exits) e.added ∙ append_assoc xs e.exits f.exits;
    are = exits_append c.operators e.exits f.exits (size a.operators) (size c.operators)
        (exits_kept b.operators c.operators e.exits (size a.operators) (size b.operators) (size a.operators) (size c.operators) (omega arith) f.grown
        (λ at level next old kind lo hi s. (old, f.kept at level next (Branch kind old) (omega arith) hi s)) e.are)
        (exits_kept c.operators c.operators f.exits (size b.operators) (size c.operators) (size a.operators) (size c.operators) e.grown (omega arith)
        (λ at level next old kind lo hi s. (old, s)) f.are);
    claimed = λ qs target h l. (
      e.claimed qs target (omega (arith, f.grown)) (first_leaves qs target l),
      f.claimed qs target h (second_leaves qs target l),
    );
  }

-- ---- branches that are aimed

-- the exits all go to the place after the code
module _ (a b c : Built) (P : List Placed → ℕ → Type 0) (xs ys : List ℕ) (e : EmittedWithExits a b xs ys P) (d : Aimed (drop (length xs) ys) b c) where
  exits_are : drop (length xs) ys ≡ e.exits
  exits_are = ap (drop (length xs)) e.added ∙ drop_at xs e.exits (length xs) refl

  leaves : Leaves e.exits (size b.operators) 0 (size b.operators) b.operators c.operators
  leaves = let L : List ℕ → Type 0 = λ es. Leaves es (size b.operators) 0 (size b.operators) b.operators c.operators in subst L exits_are d.leaves

  pub all_aimed : Emitted a c (λ qs. P qs (size b.operators))
  all_aimed = record {
    level = d.level ∙ e.level;
    grown = omega (arith, e.grown, d.place);
    kept = λ at level next op lo hi s.
        let behind = next_behind a.operators at level next op s in
        leaves.others at level next op (none_before b.operators e.exits (size a.operators) (size b.operators) at e.are (omega arith)) lo (omega (arith, e.grown))
        (e.kept at level next op lo hi s);
    claimed = λ qs k. e.claimed qs (size b.operators) (omega arith) (record {
      others = λ at level next op out lo hi s. k at level next op lo (omega (arith, d.place)) (leaves.others at level next op out (omega arith) hi s);
      aimed = λ at level next old kind among lo hi s. k at level next (Branch kind (size b.operators)) lo (omega (arith, d.place)) (leaves.aimed at level next old kind among (omega arith) hi s);
    });
  }

-- branches of the first code go to the place after the second
module _ (a b c d : Built) (P Q : List Placed → ℕ → Type 0) (holes xs ys : List ℕ) (e : EmittedWithExits a b [] holes P) (f : EmittedWithExits b c xs ys Q) (g : Aimed holes c d) where
  holes_are : AreExits b.operators holes (size a.operators) (size b.operators)
  holes_are = let A : List ℕ → Type 0 = λ es. AreExits b.operators es (size a.operators) (size b.operators) in subst A (sym e.added) e.are

  hole_leaves : (qs : List Placed) (target : ℕ) → Leaves f.exits target (size a.operators) (size d.operators) d.operators qs →
      Leaves e.exits (size c.operators) (size a.operators) (size b.operators) b.operators qs
  hole_leaves qs target l = record {
    others = λ at level next op out lo hi s.
        let behind = next_behind b.operators at level next op s in
        l.others at level next op (none_before c.operators f.exits (size b.operators) (size c.operators) at f.are (omega arith)) lo (omega (arith, f.grown, g.place))
        (g.leaves.others at level next op (ap (λ es. number_is_among es at) e.added ∙ out) (omega arith) (omega (arith, f.grown)) (f.kept at level next op (omega arith) hi s));
    aimed = λ at level next old kind among lo hi s.
        let behind = next_behind b.operators at level next (Branch kind old) s in
        l.others at level next (Branch kind (size c.operators)) (none_before c.operators f.exits (size b.operators) (size c.operators) at f.are (omega arith)) lo
        (omega (arith, f.grown, g.place))
        (g.leaves.aimed at level next old kind (ap (λ es. number_is_among es at) e.added ∙ among) (omega arith) (omega (arith, f.grown)) (f.kept at level next (Branch kind old) (omega arith) hi s));
  }

  later_leaves : (qs : List Placed) (target : ℕ) → Leaves f.exits target (size a.operators) (size d.operators) d.operators qs →
      Leaves f.exits target (size b.operators) (size c.operators) c.operators qs
  later_leaves qs target l = record {
    others = λ at level next op out lo hi s. l.others at level next op out (omega (arith, e.grown)) (omega (arith, g.place))
        (g.leaves.others at level next op (none_behind b.operators holes (size a.operators) (size b.operators) at holes_are lo) (omega arith) hi s);
    aimed = λ at level next old kind among lo hi s. l.aimed at level next old kind among (omega (arith, e.grown)) (omega (arith, g.place))
        (g.leaves.others at level next (Branch kind old) (none_behind b.operators holes (size a.operators) (size b.operators) at holes_are lo) (omega arith) hi s);
  }

  pub aimed_later : EmittedWithExits a d xs ys (λ qs target. P qs (size c.operators) × Q qs target)
  aimed_later = record {
    level = g.level ∙ f.level ∙ e.level;
    grown = omega (arith, e.grown, f.grown, g.place);
    kept = λ at level next op lo hi s.
        let behind = next_behind a.operators at level next op s in
        g.leaves.others at level next op (none_before b.operators holes (size a.operators) (size b.operators) at holes_are (omega arith)) lo (omega (arith, e.grown, f.grown))
        (f.kept at level next op lo (omega (arith, e.grown)) (e.kept at level next op lo hi s));
    exits = f.exits;
    added = f.added;
    are = exits_kept c.operators d.operators f.exits (size b.operators) (size c.operators) (size a.operators) (size d.operators) e.grown (omega (arith, g.place))
        (λ at level next old kind lo hi s.
        (old, g.leaves.others at level next (Branch kind old) (none_behind b.operators holes (size a.operators) (size b.operators) at holes_are lo) (omega arith) hi s)) f.are;
    claimed = λ qs target h l. (
      e.claimed qs (size c.operators) f.grown (hole_leaves qs target l),
      f.claimed qs target (omega (arith, g.place)) (later_leaves qs target l),
    );
  }
