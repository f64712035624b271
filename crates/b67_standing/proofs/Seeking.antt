-- Where the machine stands for an expression in a subscript: what comes of it may lie where the expression itself is to lie.
use Rattle.std.proofs.Common.{ℕ, ℤ, List, [], ◌∷◌}
use Rattle.algol_tree.specs.declared.tree.Kind.TheVariants as types
use Rattle.algol_tree.specs.declared.tree.Named.{Named}
use Rattle.algol_tree.specs.Plain as tree
use Rattle.algol_tree.specs.Plain.{PExpr, PExprs}
use Rattle.algol_tree.specs.Scopes.{Scopes}
use Rattle.algol_meaning.specs.Rest.{Hole, Half}
use Rattle.b67_ops.specs.declared.Couple.{Couple}
use Rattle.b67_segment.specs.Operators.{Placed}
use Rattle.b67_templates.specs.Contexts.{Context}
use Rattle.b67_standing.specs.Stepping.{row, Slot, descriptor}
use Rattle.b67_standing.specs.Standing.{Seeks, Holds, Shows}

module _ (sc : Scopes) (context : Context) (ps : List Placed) (level most : ℕ) where
  -- this half of an expression is in a subscript
  abbrev pub Seeking : Half → ℕ → List Slot → Named → Couple → List ℤ → List ℕ → PExprs → List Slot → ℕ → Type 0
  Seeking x pc slots n c lows ks es below to =
      Seeks sc context ps level most (λ over m. Shows sc context ps level most types.Number x pc slots over m) n c lows ks es below to

  -- where the value of the subscript is to lie, and from which place on, whatever part of it stands there
  pub record Sought (h : Hole) (pc : ℕ) (slots : List Slot) (n : Named) (c : Couple) (lows : List ℤ) (ks : List ℕ) (es : PExprs) (below : List Slot) (to : ℕ) : Type 0 where
    pub over : List Slot
    pub at : ℕ
    pub holds : Holds sc context ps level most types.Number h pc slots over at
    pub back : (x : Half) (place : ℕ) (left : List Slot) → Shows sc context ps level most types.Number x place left over at → Seeking x place left n c lows ks es below to

  pub sought_in : (h : Hole) (pc : ℕ) (slots : List Slot) (n : Named) (c : Couple) (lows : List ℤ) (ks : List ℕ) (es : PExprs) (below : List Slot) (to : ℕ) →
      Seeks sc context ps level most (λ over m. Holds sc context ps level most types.Number h pc slots over m) n c lows ks es below to → Sought h pc slots n c lows ks es below to
  sought_in h pc slots n c (low ∷ []) [] tree.none below to s =
      record { over = below; at = s.0; holds = s.2; back = λ x place left shows. (s.0, s.1, shows, s.3, s.4, s.5) }
  sought_in h pc slots n c (low ∷ low' ∷ []) [] (tree.more e tree.none) below to s =
      record { over = below; at = s.0; holds = s.4; back = λ x place left shows. (s.0, s.1, s.2, s.3, shows, s.5, s.6, s.7, s.8, s.9) }
  sought_in h pc slots n c (low ∷ low' ∷ []) (k ∷ []) tree.none below to s =
      record { over = descriptor (row n (k ∷ [])) ∷ below; at = s.0; holds = s.2; back = λ x place left shows. (s.0, s.1, shows, s.3, s.4, s.5) }
  sought_in h pc slots n c _ _ _ below to s = absurd s

  -- no array has three dimensions
  pub no_third : (holds : List Slot → ℕ → Type 0) (n : Named) (c : Couple) (lows : List ℤ) (ks : List ℕ) (e e' : PExpr) (es : PExprs) (below : List Slot) (to : ℕ) →
      Seeks sc context ps level most holds n c lows ks (tree.more e (tree.more e' es)) below to → ⊥
  no_third holds n c [] ks e e' es below to s = s
  no_third holds n c (low ∷ []) [] e e' es below to s = s
  no_third holds n c (low ∷ []) (k ∷ ks) e e' es below to s = s
  no_third holds n c (low ∷ low' ∷ []) [] e e' es below to s = s
  no_third holds n c (low ∷ low' ∷ []) (k ∷ []) e e' es below to s = s
  no_third holds n c (low ∷ low' ∷ []) (k ∷ k' ∷ ks) e e' es below to s = s
  no_third holds n c (low ∷ low' ∷ third ∷ lows) ks e e' es below to s = s
