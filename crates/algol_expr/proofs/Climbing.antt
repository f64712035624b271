-- An expression, step by step from what it begins with.
use Rattle.std.proofs.Common.{◌≡◌, ◌≤◌, ◌<◌, ◌+◌, ℕ, suc, Bool, true, false, List, [], ◌∷◌, ◌++◌, length, map, drop, get_or, drop-cons, refl, sym, subst, ap, ◌∙◌, arith}
use Rattle.std.proofs.lemmas.List.{drop_all}
use Rattle.algol_tree.specs.Tokens.{is_word}
use Rattle.algol_tree.specs.Operators.{Part, level, not_part, primary}
use Rattle.algol_tree.specs.Due.{Value, Due, one, part, more_of}
use Rattle.algol_tree.specs.DueExpr.{is_sign}
use Rattle.algol_tree.specs.Reading.{read}
use Rattle.algol_tree.specs.Found.{IsRest, ReaderFinds, Extends, Fails}
use Rattle.algol_tree.specs.Plain.{PExpr}
use Rattle.algol_tree.specs.declared.token.Token.{Token}
use Rattle.algol_tree.specs.declared.token.TokenKind.{TokenKind}
use Rattle.algol_tree.specs.declared.token.Reserved.TheVariants as reserved
use Rattle.algol_tree.specs.declared.level.Level.TheVariants as levels
use Rattle.algol_tree.specs.declared.refusal.Refusal.{Refusal}
use Rattle.algol_expr.specs.declared.step.Start.{Start}
use Rattle.algol_expr.specs.declared.step.Start.TheVariants.{Not, Sign, Primary}
use Rattle.algol_expr.specs.declared.step.Step.{Step}
use Rattle.algol_expr.specs.declared.step.Step.TheVariants.{Operators, Relation}
use Rattle.algol_expr.specs.Steps.{not_or, sign_or_primary, start_of, steps, part_of_step, due_of, begins_with, leaves, ExprBegins}
use Rattle.algol_expr.proofs.Chain.{Reaches, starting, turning, extending, failing, failing_on, done}
use Rattle.algol_expr.proofs.Starts.{level_starts, not_is, rel_starts}

-- what is due of these steps
abbrev pub dues : ℕ → List Step → List Due
dues d ss = map (λ (s : Step). due_of d s) ss

-- the steps over the beginning, without that which the beginning leaves
abbrev over : Start → Step → List Step
over Primary last = steps Primary last
over Sign last = drop 2 (steps Primary last)
over Not last = drop 3 (steps Primary last)

-- which token each begins with

not_sign : (b : Bool) → Not ≡ sign_or_primary b → ⊥
not_sign true e = cc
not_sign false e = cc

sign_not : (a b : Bool) → Sign ≡ not_or a (sign_or_primary b) → a ≡ false
sign_not true b e = cc
sign_not false b e = refl

primary_then : (b : Bool) → Primary ≡ sign_or_primary b → b ≡ false
primary_then true e = cc
primary_then false e = refl

primary_not : (a b : Bool) → Primary ≡ not_or a (sign_or_primary b) → a ≡ false
primary_not true b e = cc
primary_not false b e = refl

primary_there : (a b : Bool) → Primary ≡ not_or a (sign_or_primary b) → b ≡ false
primary_there true b e = cc
primary_there false b e = primary_then b e

-- what is due first of a part

module _ (d : ℕ) (tokens : List Token) (t : Token) (ts : List Token) (is : tokens ≡ t ∷ ts) where
  abbrev From : Part → Part → List Step → Type 0
  From p q ss = Reaches (part p d ∷ []) [] tokens (part q d ∷ dues d ss) [] tokens

  and_not : From (level levels.And) not_part (Operators levels.And ∷ [])
  and_not = level_starts levels.And d tokens t ts is refl

  or_not : From (level levels.Or) not_part (Operators levels.And ∷ Operators levels.Or ∷ [])
  or_not = turning (level_starts levels.Or d tokens t ts is refl) and_not

  imp_not : From (level levels.Imp) not_part (Operators levels.And ∷ Operators levels.Or ∷ Operators levels.Imp ∷ [])
  imp_not = turning (level_starts levels.Imp d tokens t ts is refl) or_not

  eqv_not : From (level levels.Eqv) not_part (Operators levels.And ∷ Operators levels.Or ∷ Operators levels.Imp ∷ Operators levels.Eqv ∷ [])
  eqv_not = turning (level_starts levels.Eqv d tokens t ts is refl) imp_not

  not_sum : is_word reserved.Not t.kind ≡ false → From not_part (level levels.Sum) (Relation ∷ [])
  not_sum e = turning (not_is d tokens t ts is e) (rel_starts d tokens)

  term_primary : From (level levels.Term) primary (Operators levels.Term ∷ [])
  term_primary = level_starts levels.Term d tokens t ts is refl

  sum_primary : is_sign t.kind ≡ false → From (level levels.Sum) primary (Operators levels.Term ∷ Operators levels.Sum ∷ [])
  sum_primary e = turning (level_starts levels.Sum d tokens t ts is e) term_primary

  -- a sum with its sign, and a primary, under a part that may begin with NOT
  signed_under : (p : Part) (ss : List Step) → From p not_part ss → is_word reserved.Not t.kind ≡ false → From p (level levels.Sum) (Relation ∷ ss)
  signed_under p ss r e = turning r (not_sum e)

  primary_under : (p : Part) (ss : List Step) → From p not_part ss → is_word reserved.Not t.kind ≡ false → is_sign t.kind ≡ false →
      From p primary (Operators levels.Term ∷ Operators levels.Sum ∷ Relation ∷ ss)
  primary_under p ss r e f = turning (signed_under p ss r e) (sum_primary f)

  abbrev Opens : Step → Start → Type 0
  Opens last start = From (part_of_step last) (begins_with start) (over start last)

  opens : (last : Step) (start : Start) → start ≡ start_of last t.kind → Opens last start
  opens (Operators levels.Term) Primary e = term_primary
  opens (Operators levels.Term) Not e = cc
  opens (Operators levels.Term) Sign e = cc
  opens (Operators levels.Sum) Not e = absurd (not_sign (is_sign t.kind) e)
  opens (Operators levels.Sum) Sign e = starting (part (level levels.Sum) d) tokens
  opens (Operators levels.Sum) Primary e = sum_primary (primary_then (is_sign t.kind) e)
  opens Relation Not e = starting (part not_part d) tokens
  opens Relation Sign e = not_sum (sign_not (is_word reserved.Not t.kind) (is_sign t.kind) e)
  opens Relation Primary e = primary_under not_part [] (starting (part not_part d) tokens) (primary_not (is_word reserved.Not t.kind) (is_sign t.kind) e) (primary_there (is_word reserved.Not t.kind) (is_sign t.kind) e)
  opens (Operators levels.And) Not e = and_not
  opens (Operators levels.And) Sign e = signed_under (level levels.And) (Operators levels.And ∷ []) and_not (sign_not (is_word reserved.Not t.kind) (is_sign t.kind) e)
  opens (Operators levels.And) Primary e = primary_under (level levels.And) (Operators levels.And ∷ []) and_not (primary_not (is_word reserved.Not t.kind) (is_sign t.kind) e) (primary_there (is_word reserved.Not t.kind) (is_sign t.kind) e)
  opens (Operators levels.Or) Not e = or_not
  opens (Operators levels.Or) Sign e = signed_under (level levels.Or) (Operators levels.And ∷ Operators levels.Or ∷ []) or_not (sign_not (is_word reserved.Not t.kind) (is_sign t.kind) e)
  opens (Operators levels.Or) Primary e = primary_under (level levels.Or) (Operators levels.And ∷ Operators levels.Or ∷ []) or_not (primary_not (is_word reserved.Not t.kind) (is_sign t.kind) e) (primary_there (is_word reserved.Not t.kind) (is_sign t.kind) e)
  opens (Operators levels.Imp) Not e = imp_not
  opens (Operators levels.Imp) Sign e = signed_under (level levels.Imp) (Operators levels.And ∷ Operators levels.Or ∷ Operators levels.Imp ∷ []) imp_not (sign_not (is_word reserved.Not t.kind) (is_sign t.kind) e)
  opens (Operators levels.Imp) Primary e = primary_under (level levels.Imp) (Operators levels.And ∷ Operators levels.Or ∷ Operators levels.Imp ∷ []) imp_not (primary_not (is_word reserved.Not t.kind) (is_sign t.kind) e) (primary_there (is_word reserved.Not t.kind) (is_sign t.kind) e)
  opens (Operators levels.Eqv) Not e = eqv_not
  opens (Operators levels.Eqv) Sign e = signed_under (level levels.Eqv) (Operators levels.And ∷ Operators levels.Or ∷ Operators levels.Imp ∷ Operators levels.Eqv ∷ []) eqv_not (sign_not (is_word reserved.Not t.kind) (is_sign t.kind) e)
  opens (Operators levels.Eqv) Primary e = primary_under (level levels.Eqv) (Operators levels.And ∷ Operators levels.Or ∷ Operators levels.Imp ∷ Operators levels.Eqv ∷ []) eqv_not (primary_not (is_word reserved.Not t.kind) (is_sign t.kind) e) (primary_there (is_word reserved.Not t.kind) (is_sign t.kind) e)

-- what the beginning leaves, and the steps over it, are the steps from it
left_over : (start : Start) (d : ℕ) (last : Step) (due : List Due) (k : TokenKind) → start ≡ start_of last k → leaves start d ++ (dues d (over start last) ++ due) ≡ dues d (steps start last) ++ due
left_over Primary d last due k e = refl
left_over Sign d (Operators levels.Term) due k e = cc
left_over Sign d (Operators levels.Sum) due k e = refl
left_over Sign d Relation due k e = refl
left_over Sign d (Operators levels.And) due k e = refl
left_over Sign d (Operators levels.Or) due k e = refl
left_over Sign d (Operators levels.Imp) due k e = refl
left_over Sign d (Operators levels.Eqv) due k e = refl
left_over Not d (Operators levels.Term) due k e = refl
left_over Not d (Operators levels.Sum) due k e = refl
left_over Not d Relation due k e = refl
left_over Not d (Operators levels.And) due k e = refl
left_over Not d (Operators levels.Or) due k e = refl
left_over Not d (Operators levels.Imp) due k e = refl
left_over Not d (Operators levels.Eqv) due k e = refl

-- Reading up to the step `last` from `tokens` is reading on from `rest`, after the expression `left`, through the steps `above`.
pub record Climbs (last : Step) (d : ℕ) (tokens : List Token) (above : List Step) (left : PExpr) (rest : List Token) : Type 0 where
  pub run : Reaches (part (part_of_step last) d ∷ []) [] tokens (dues d above) (one left ∷ []) rest
  pub behind : IsRest tokens rest

pub steps_begin : (last : Step) (d : ℕ) (tokens : List Token) (t : Token) (ts : List Token) (start : Start) (items : List Step) (left : PExpr) (rest : List Token) →
    tokens ≡ t ∷ ts → start ≡ start_of last t.kind → items ≡ steps start last → ExprBegins start d tokens (one left) rest → Climbs last d tokens items left rest
steps_begin last d tokens t ts start items left rest is e at b = subst (λ (x : List Step). Climbs last d tokens x left rest) (sym at) (record {
  run = record {
    run = λ due vs. (opens d tokens t ts is last start e).run due vs ∙ b.run (dues d (over start last) ++ due) vs
        ∙ ap (λ x. read 0 rest x (one left ∷ vs)) (left_over start d last due t.kind e);
  };
  behind = b.behind;
})

pub steps_fail_first : (last : Step) (d : ℕ) (tokens : List Token) (t : Token) (ts : List Token) (start : Start) (at_ : ℕ) (r : Refusal) →
    tokens ≡ t ∷ ts → start ≡ start_of last t.kind → Fails (part (begins_with start) d ∷ []) [] tokens at_ r → Fails (part (part_of_step last) d ∷ []) [] tokens at_ r
steps_fail_first last d tokens t ts start at_ r is e f = failing (opens d tokens t ts is last start e) f

-- the step at this place is the next of them
split : (items : List Step) (i : ℕ) (m other : Step) → i < length items → m ≡ get_or items i other → drop i items ≡ m ∷ drop (i + 1) items
split items i m other h e =
    let next : suc i ≡ i + 1 = omega arith in
    drop-cons items i other h ∙ ap (λ (x : Step). x ∷ drop (suc i) items) (sym e) ∙ ap (λ (n : ℕ). m ∷ drop n items) next

module _ (last : Step) (d : ℕ) (tokens rest : List Token) (items : List Step) (i : ℕ) (m other : Step) (left : PExpr) where
  next_due : i < length items → m ≡ get_or items i other → Climbs last d tokens (drop i items) left rest →
      Reaches (part (part_of_step last) d ∷ []) [] tokens (due_of d m ∷ dues d (drop (i + 1) items)) (one left ∷ []) rest
  next_due h e g = subst (λ (x : List Step). Reaches (part (part_of_step last) d ∷ []) [] tokens (dues d x) (one left ∷ []) rest) (split items i m other h e) g.run

  pub steps_go_on : (whole : PExpr) (after : List Token) → i < length items → m ≡ get_or items i other → Climbs last d tokens (drop i items) left rest →
      Extends (due_of d m) rest (one left) (one whole) after → Climbs last d tokens (drop (i + 1) items) whole after
  steps_go_on whole after h e g f = record {
    run = extending (next_due h e g) f;
    behind = record { ended = f.ended; shorter = omega (arith, f.no_longer, g.behind.shorter) };
  }

  pub steps_fail : (at_ : ℕ) (r : Refusal) → i < length items → m ≡ get_or items i other → Climbs last d tokens (drop i items) left rest →
      Fails (due_of d m ∷ []) (one left ∷ []) rest at_ r → Fails (part (part_of_step last) d ∷ []) [] tokens at_ r
  steps_fail at_ r h e g f = failing_on (next_due h e g) f

pub steps_done : (last : Step) (d : ℕ) (tokens rest : List Token) (items : List Step) (i : ℕ) (left : PExpr) → length items ≤ i →
    Climbs last d tokens (drop i items) left rest → ReaderFinds (part (part_of_step last) d) tokens (one left) rest
steps_done last d tokens rest items i left h g =
    done (subst (λ (x : List Step). Reaches (part (part_of_step last) d ∷ []) [] tokens (dues d x) (one left ∷ []) rest) (drop_all i items h) g.run) refl g.behind

-- each beginning by itself

pub begins_so : (start s : Start) (d : ℕ) (tokens us : List Token) (v : Value) (rest : List Token) → start ≡ s → tokens ≡ us → ExprBegins s d us v rest → ExprBegins start d tokens v rest
begins_so start s d tokens us v rest e is b = subst (λ (x : Start). ExprBegins x d tokens v rest) (sym e) (subst (λ (x : List Token). ExprBegins s d x v rest) (sym is) b)

pub fails_so : (start s : Start) (d : ℕ) (tokens us : List Token) (at_ : ℕ) (r : Refusal) → start ≡ s → tokens ≡ us → Fails (part (begins_with s) d ∷ []) [] us at_ r →
    Fails (part (begins_with start) d ∷ []) [] tokens at_ r
fails_so start s d tokens us at_ r e is f = subst (λ (x : Start). Fails (part (begins_with x) d ∷ []) [] tokens at_ r) (sym e) (subst (λ (x : List Token). Fails (part (begins_with s) d ∷ []) [] x at_ r) (sym is) f)

-- the operand of a NOT, or a primary
pub begins_not : (d : ℕ) (tokens : List Token) (v : Value) (rest : List Token) → ReaderFinds (part not_part d) tokens v rest → ExprBegins Not d tokens v rest
begins_not d tokens v rest f = record { run = λ due vs. f.run due vs; behind = f.behind }

pub begins_primary : (d : ℕ) (tokens : List Token) (v : Value) (rest : List Token) → ReaderFinds (part primary d) tokens v rest → ExprBegins Primary d tokens v rest
begins_primary d tokens v rest f = record { run = λ due vs. f.run due vs; behind = f.behind }

-- a first operand with its sign
pub begins_signed : (d : ℕ) (tokens : List Token) (v w : Value) (rest : List Token) → Reaches (part (level levels.Sum) d ∷ []) [] tokens (more_of levels.Sum d ∷ []) (v ∷ []) rest →
    w ≡ v → IsRest tokens rest → ExprBegins Sign d tokens w rest
begins_signed d tokens v w rest r is b = subst (λ (x : Value). ExprBegins Sign d tokens x rest) (sym is) (record { run = λ due vs. r.run due vs; behind = b })
