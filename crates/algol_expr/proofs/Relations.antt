-- A relation, after its first sum.
use Rattle.std.proofs.Common.{◌≡◌, ℕ, List, [], ◌∷◌, length, Some, None, sym, ap, arith}
use Rattle.algol_tree.specs.Ended.{EndsOnce}
use Rattle.algol_tree.specs.Operators.{level, relop}
use Rattle.algol_tree.specs.Due.{Value, Due, one, part, relation}
use Rattle.algol_tree.specs.Found.{ReaderFinds, Extends, Fails}
use Rattle.algol_tree.specs.Plain.{PExpr, two}
use Rattle.algol_tree.specs.declared.token.Token.{Token}
use Rattle.algol_tree.specs.declared.level.Level.TheVariants as levels
use Rattle.algol_tree.specs.declared.tree.Op.{Op}
use Rattle.algol_tree.specs.declared.refusal.Refusal.{Refusal}
use Rattle.algol_expr.proofs.Chain.{Reaches, via, making, failing}
use Rattle.algol_expr.proofs.Starts.{relation_on, relation_over}

-- with a value that stands before
after_value : {from ds : List Due} {tokens rest : List Token} (v : Value) → Reaches from [] tokens ds [] rest → Reaches from (v ∷ []) tokens ds (v ∷ []) rest
after_value v r = record { run = λ due vs. r.run due (v ∷ vs) }

module _ (d : ℕ) (left : PExpr) (tokens : List Token) (t : Token) (ts : List Token) (is : tokens ≡ t ∷ ts) where
  pub relation_found : (op : Op) (right new : PExpr) (rest : List Token) → relop t.kind ≡ Some op → ReaderFinds (part (level levels.Sum) d) ts (one right) rest → new ≡ two op left right →
      Extends (relation d) tokens (one left) (one new) rest
  relation_found op right new rest e f is_new = record {
    run = λ due vs. (making {xs = one new ∷ []} (via (after_value (one left) (relation_on d tokens t ts op is e)) f) (λ vs. ap (λ (x : PExpr). one x ∷ vs) (sym is_new))).run due vs;
    ended = f.behind.ended;
    no_longer = omega (arith, f.behind.shorter, ap length is);
  }

  pub relation_fails : (op : Op) (at_ : ℕ) (r : Refusal) → relop t.kind ≡ Some op → Fails (part (level levels.Sum) d ∷ []) [] ts at_ r →
      Fails (relation d ∷ []) (one left ∷ []) tokens at_ r
  relation_fails op at_ r e f = failing (after_value (one left) (relation_on d tokens t ts op is e)) f

  pub no_relation : relop t.kind ≡ None → EndsOnce tokens → Extends (relation d) tokens (one left) (one left) tokens
  no_relation e ended = record {
    run = λ due vs. (after_value (one left) (relation_over d tokens t ts is e)).run due vs;
    ended = ended;
    no_longer = omega arith;
  }
