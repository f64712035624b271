-- What is appended to a builder is code of it.
use Rattle.std.proofs.Common.{◌≡◌, ℕ, ◌+◌, ◌<◌, true, false, List, [], ◌∷◌, ◌++◌, length, take, get_or, ℤ, pos, refl, sym, ap, ◌∙◌, subst, arith, length-append}
use Rattle.std.proofs.lemmas.Bool.{eq-eqb}
use Rattle.std.proofs.lemmas.List.{take_more}
use Rattle.std.specs.Prelude.{◌||◌, unwrap_or}
use Rattle.b67_ops.specs.declared.Operator.{Operator}
use Rattle.b67_ops.specs.declared.Operator.TheVariants as ops
use Rattle.b67_ops.specs.declared.PlainKind.{PlainKind}
use Rattle.b67_ops.specs.declared.PlainKind.TheVariants as kinds
use Rattle.b67_ops.specs.declared.BranchKind.{BranchKind}
use Rattle.b67_ops.specs.Spelling.{spelling}
use Rattle.b67_word.specs.Word.{operand}
use Rattle.b67_segment.specs.Operators.{Placed, size}
use Rattle.b67_segment.specs.Building.{Built, level_set, appended}
use Rattle.b67_segment.proofs.Among.{StandsAmong_appended, StandsAmong_kept, size_append}
use Rattle.b67_templates.specs.Fragments as literals
use Rattle.b67_templates.specs.Fragments.{Has, AllAt, NumberAt, BranchAt, TurnAt, IsLiteral, IsWholeNumber}
use Rattle.b67_templates.specs.Emitting.{Emitted, number_is_among, EmittedWithExits}
use Rattle.b67_emitter.proofs.Composing.{weaker, then}

module _ (b : Built) (op : Operator) where
  size_is : size (appended b op).operators ≡ size b.operators + length (spelling (size b.operators) (level_set b) op)
  size_is = size_append b.operators (record { level = level_set b; operator = op })

  pub emitted : Emitted b (appended b op) (λ qs. Has qs (level_set b) (size b.operators) op (size (appended b op).operators))
  emitted = record {
    level = refl;
    grown = omega (arith, size_is);
    kept = λ at level next other lo hi s. StandsAmong_kept (record { level = level_set b; operator = op } ∷ []) s;
    claimed = λ qs k. k (size b.operators) (level_set b) (size (appended b op).operators) op (omega arith) (omega arith) (StandsAmong_appended b.operators (level_set b) op);
  }

  pub emitted_as : (n : Built) → n ≡ appended b op → Emitted b n (λ qs. Has qs (level_set b) (size b.operators) op (size n.operators))
  emitted_as n e = let E : Built → Type 0 = λ m. Emitted b m (λ qs. Has qs (level_set b) (size b.operators) op (size m.operators)) in subst E (sym e) emitted

  pub size_as : (n : Built) → n ≡ appended b op → size n.operators ≡ size b.operators + length (spelling (size b.operators) (level_set b) op)
  size_as n e = ap (λ m. size m.operators) e ∙ size_is

-- ---- levels

pub same_level : (a b : Built) → b.level ≡ a.level → level_set b ≡ level_set a
same_level a b e = ap (λ o. unwrap_or o 0) e

-- ---- operators without operands

-- From the first builder to the second these operators were appended.
pub record Several (kinds : List PlainKind) (before after : Built) : Type 0 where
  pub code : Emitted before after (λ qs. AllAt qs (level_set before) kinds (size before.operators) (size after.operators))
  pub level : after.level ≡ before.level
  pub wide : size after.operators ≡ size before.operators + length kinds

pub several_first : (b : Built) → Several [] b b
several_first b = record {
  code = record { level = refl; grown = omega arith; kept = λ at level next op lo hi s. s; claimed = λ qs k. refl };
  level = refl;
  wide = omega arith;
}

all_append : (qs : List Placed) (level : ℕ) (ks : List PlainKind) (k : PlainKind) (from middle to : ℕ) → AllAt qs level ks from middle →
    Has qs level middle (ops.Plain k) to → AllAt qs level (ks ++ k ∷ []) from to
all_append qs level [] k from middle to e h = let H : ℕ → Type 0 = λ f. Has qs level f (ops.Plain k) to in (to, subst H (sym e) h, refl)
all_append qs level (x ∷ ks) k from middle to (m, here, rest) h = (m, here, all_append qs level ks k m middle to rest h)

-- one more of them
several_next : (ks : List PlainKind) (k : PlainKind) (a b c : Built) → Several ks a b →
    Emitted b c (λ qs. Has qs (level_set b) (size b.operators) (ops.Plain k) (size c.operators)) → c.level ≡ b.level → size c.operators ≡ size b.operators + 1 →
    Several (ks ++ k ∷ []) a c
several_next ks k a b c s e l w =
    let E : ℕ → Type 0 = λ n. Emitted b c (λ qs. Has qs n (size b.operators) (ops.Plain k) (size c.operators)) in
    record {
      code = weaker (λ qs. AllAt qs (level_set a) (ks ++ k ∷ []) (size a.operators) (size c.operators)) (then s.code (subst E (same_level a b s.level) e))
          (λ qs both. all_append qs (level_set a) ks k (size a.operators) (size b.operators) (size c.operators) both.0 both.1);
      level = l ∙ s.level;
      wide = omega (arith, s.wide, length-append ks (k ∷ []));
    }

pub several_more : (kinds : List PlainKind) (i : ℕ) (d : PlainKind) (a b c : Built) → i < length kinds → Several (take i kinds) a b →
    Emitted b c (λ qs. Has qs (level_set b) (size b.operators) (ops.Plain (get_or kinds i d)) (size c.operators)) → c.level ≡ b.level →
    size c.operators ≡ size b.operators + 1 → Several (take (i + 1) kinds) a c
several_more kinds i d a b c within s e l w =
    let S : List PlainKind → Type 0 = λ ks. Several ks a c in
    subst S (sym (take_more kinds i d within)) (several_next (take i kinds) (get_or kinds i d) a b c s e l w)

-- ---- numbers

pub whole_literal : (z : ℤ) (n : ℕ) → n ≡ (operand z).bits → IsLiteral (ops.Lt48 n) (operand z)
unfolding operand
whole_literal z n e = subst (λ m. IsLiteral (ops.Lt48 m) (operand z)) (sym e) (literals.whole_word (operand z).bits)

pub zero_literal : (n : ℕ) → n ≡ 0 → IsLiteral (ops.Plain kinds.Zero) (operand (pos n))
zero_literal n e = subst (λ m. IsLiteral (ops.Plain kinds.Zero) (operand (pos m))) (sym e) literals.zero_pushed

pub one_literal : (n : ℕ) → n ≡ 1 → IsLiteral (ops.Plain kinds.One) (operand (pos n))
one_literal n e = subst (λ m. IsLiteral (ops.Plain kinds.One) (operand (pos m))) (sym e) literals.one_pushed

pub number_code : (b n : Built) (level : ℕ) (op : Operator) (z : ℤ) → IsLiteral op (operand z) → IsWholeNumber z →
    Emitted b n (λ qs. Has qs level (size b.operators) op (size n.operators)) → Emitted b n (λ qs. NumberAt qs level z (size b.operators) (size n.operators))
number_code b n level op z l w e = weaker (λ qs. NumberAt qs level z (size b.operators) (size n.operators)) e
    (λ qs h. record { op = op; stands = h; literal = l; whole = w })

-- ---- branches

pub among_itself : (n : ℕ) → number_is_among (n ∷ []) n ≡ true
among_itself n = ap (λ t. t || false) (eq-eqb n n refl)

-- a branch is an exit, wherever it goes until it is aimed
pub branch_exit : (b n : Built) (level old : ℕ) (kind : BranchKind) → size n.operators ≡ size b.operators + 3 →
    Emitted b n (λ qs. Has qs level (size b.operators) (ops.Branch kind old) (size n.operators)) →
    EmittedWithExits b n [] (size b.operators ∷ []) (λ qs target. BranchAt qs level kind (size b.operators) target (size n.operators))
branch_exit b n level old kind wide e =
    let here : Has n.operators level (size b.operators) (ops.Branch kind old) (size n.operators) = e.claimed n.operators (λ at l next op lo hi s. s) in
    record {
      level = e.level;
      grown = e.grown;
      kept = e.kept;
      exits = size b.operators ∷ [];
      added = refl;
      are = ((level, kind, old, size n.operators, omega arith, omega arith, here), tt);
      claimed = λ qs target h l. record {
        stands = l.aimed (size b.operators) level (size n.operators) old kind (among_itself (size b.operators)) (omega arith) (omega arith) here;
        forward = omega (arith, wide);
      };
    }

pub ruleset appending = (emitted_as, size_as)
