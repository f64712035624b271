-- The operands of a level, one after another.
use Rattle.std.proofs.Common.{◌≡◌, ◌≤◌, ℕ, List, [], ◌∷◌, length, Some, None, refl, sym, ap, arith}
use Rattle.algol_tree.specs.Ended.{EndsOnce}
use Rattle.algol_tree.specs.Operators.{operand, operator}
use Rattle.algol_tree.specs.Due.{one, part, more_of}
use Rattle.algol_tree.specs.Found.{ReaderFinds, Extends, Fails}
use Rattle.algol_tree.specs.Plain.{PExpr, two}
use Rattle.algol_tree.specs.declared.token.Token.{Token}
use Rattle.algol_tree.specs.declared.level.Level.{Level}
use Rattle.algol_tree.specs.declared.tree.Op.{Op}
use Rattle.algol_tree.specs.declared.refusal.Refusal.{Refusal}
use Rattle.algol_expr.proofs.Chain.{Reaches, via, making, turning, failing}
use Rattle.algol_expr.proofs.Starts.{more_on, more_over}

-- Reading on from `tokens` after the expression `first` is reading on from `rest` after the expression `left`.
pub record ReadsOn (l : Level) (d : ℕ) (first : PExpr) (tokens : List Token) (left : PExpr) (rest : List Token) : Type 0 where
  pub run : Reaches (more_of l d ∷ []) (one first ∷ []) tokens (more_of l d ∷ []) (one left ∷ []) rest
  pub ended : EndsOnce rest
  pub no_longer : length rest ≤ length tokens

pub operands_begin : (l : Level) (d : ℕ) (first : PExpr) (tokens : List Token) → EndsOnce tokens → ReadsOn l d first tokens first tokens
operands_begin l d first tokens ended = record { run = record { run = λ due vs. refl }; ended = ended; no_longer = omega arith }

module _ (l : Level) (d : ℕ) (first left : PExpr) (tokens rest : List Token) (t : Token) (ts : List Token) where
  pub operands_go_on : (op : Op) (right new : PExpr) (after : List Token) → ReadsOn l d first tokens left rest → rest ≡ t ∷ ts → operator l t.kind ≡ Some op →
      ReaderFinds (part (operand l) d) ts (one right) after → new ≡ two op left right → ReadsOn l d first tokens new after
  operands_go_on op right new after g at is f e = record {
    run = making (via (turning g.run (more_on l d rest t ts op [] at is)) f) (λ vs. ap (λ (x : PExpr). one x ∷ vs) (sym e));
    ended = f.behind.ended;
    no_longer = omega (arith, f.behind.shorter, g.no_longer, ap length at);
  }

  pub operands_fail : (op : Op) (left_over : ℕ) (e : Refusal) → ReadsOn l d first tokens left rest → rest ≡ t ∷ ts → operator l t.kind ≡ Some op →
      Fails (part (operand l) d ∷ []) [] ts left_over e → Fails (more_of l d ∷ []) (one first ∷ []) tokens left_over e
  operands_fail op left_over e g at is f = failing (turning g.run (more_on l d rest t ts op [] at is)) f

  -- no operator follows
  pub operands_done : ReadsOn l d first tokens left rest → rest ≡ t ∷ ts → operator l t.kind ≡ None → Extends (more_of l d) tokens (one first) (one left) rest
  operands_done g at is = record {
    run = λ due vs. (turning g.run (more_over l d rest t ts [] at is)).run due vs;
    ended = g.ended;
    no_longer = g.no_longer;
  }
