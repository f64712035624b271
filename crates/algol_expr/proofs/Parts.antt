-- How the parts of an expression begin.
use Rattle.std.proofs.Common.{◌≡◌, ℕ, Bool, true, false, List, [], ◌∷◌, Some, None, refl, ap, ◌∙◌}
use Rattle.b67_deeds.specs.declared.EventTest.{EventTest}
use Rattle.b67_deeds.specs.declared.EventTest.TheVariants as test
use Rattle.algol_tree.specs.Expressions.{test_of}
use Rattle.algol_tree.specs.declared.token.Spot.{Spot}
use Rattle.algol_tree.specs.declared.token.Token.{Token}
use Rattle.algol_tree.specs.declared.token.TokenKind.{TokenKind}
use Rattle.algol_tree.specs.declared.token.TokenKind.TheVariants as kinds
use Rattle.algol_tree.specs.declared.token.Reserved.TheVariants as reserved
use Rattle.algol_tree.specs.declared.token.Symbol.TheVariants as symbols
use Rattle.algol_tree.specs.declared.level.Level.{Level}
use Rattle.algol_tree.specs.declared.level.Level.TheVariants as levels
use Rattle.algol_tree.specs.Tokens.{is_word}
use Rattle.algol_tree.specs.Operators.{Part, expr, level, not_part, rel, primary, operand, operator}
use Rattle.algol_tree.specs.Due.{Value, Due, make, part, more_of, relation, plain, nests, takes, skips, refuses, followed, either, optional}
use Rattle.algol_tree.specs.DueExpr.{is_sign, signs, signed, turn_primary, turn_term, turn_sum, turn_rel, turn_not, turn_and, turn_or, turn_imp, turn_eqv, on_with, of_one}
use Rattle.algol_tree.specs.Reading.{reading_turn, outside, to, cut_off, reading, read}
use Rattle.algol_expr.proofs.Reading.{Takes, taken, refused_, followed_takes, either_takes, read_followed, read_at, Leads}
use Rattle.algol_expr.proofs.Turns.{word_from, refused_none, skips_step, skips_end, read_nothing}
use Rattle.algol_expr.proofs.Ends.{operator_end}

-- no part can be left out

pub primary_takes : (d : ℕ) (spot : Spot) (k : TokenKind) → Takes (turn_primary d spot k)
primary_takes d spot (kinds.Number value) = taken plain _
primary_takes d spot (kinds.Word reserved.True) = taken plain _
primary_takes d spot (kinds.Word reserved.False) = taken plain _
primary_takes d spot (kinds.Word reserved.Happened) = taken plain _
primary_takes d spot (kinds.Word reserved.Available) = taken plain _
primary_takes d spot (kinds.Word reserved.Fix) = taken plain _
primary_takes d spot (kinds.Word reserved.Wait) = taken plain _
primary_takes d spot (kinds.Name name) = taken plain _
primary_takes d spot (kinds.Symbol symbols.OpenRound) = taken (nests d) _
primary_takes d spot k = refused_

pub term_takes : (d : ℕ) (spot : Spot) (k : TokenKind) → Takes (turn_term d spot k)
term_takes d spot k = followed_takes (turn_primary d spot k) (more_of levels.Term d ∷ []) (primary_takes d spot k)

pub sum_takes : (d : ℕ) (spot : Spot) (k : TokenKind) → Takes (turn_sum d spot k)
sum_takes d spot k = either_takes (is_sign k) _ _ (taken plain _) (followed_takes (turn_term d spot k) (more_of levels.Sum d ∷ []) (term_takes d spot k))

pub rel_takes : (d : ℕ) (spot : Spot) (k : TokenKind) → Takes (turn_rel d spot k)
rel_takes d spot k = followed_takes (turn_sum d spot k) (relation d ∷ []) (sum_takes d spot k)

pub not_takes : (d : ℕ) (spot : Spot) (k : TokenKind) → Takes (turn_not d spot k)
not_takes d spot k = either_takes (is_word reserved.Not k) _ _ (taken (nests d) _) (rel_takes d spot k)

pub and_takes : (d : ℕ) (spot : Spot) (k : TokenKind) → Takes (turn_and d spot k)
and_takes d spot k = followed_takes (turn_not d spot k) (more_of levels.And d ∷ []) (not_takes d spot k)

pub or_takes : (d : ℕ) (spot : Spot) (k : TokenKind) → Takes (turn_or d spot k)
or_takes d spot k = followed_takes (turn_and d spot k) (more_of levels.Or d ∷ []) (and_takes d spot k)

pub imp_takes : (d : ℕ) (spot : Spot) (k : TokenKind) → Takes (turn_imp d spot k)
imp_takes d spot k = followed_takes (turn_or d spot k) (more_of levels.Imp d ∷ []) (or_takes d spot k)

pub eqv_takes : (d : ℕ) (spot : Spot) (k : TokenKind) → Takes (turn_eqv d spot k)
eqv_takes d spot k = followed_takes (turn_imp d spot k) (more_of levels.Eqv d ∷ []) (imp_takes d spot k)

-- what is due after a word that asks something of one event
pub test_turn : (d : ℕ) (spot : Spot) (k : TokenKind) (x : EventTest) → test_of k ≡ Some x → turn_primary d spot k ≡ takes plain (of_one x d spot)
test_turn d spot (kinds.Word reserved.Happened) x e = let same : test.Happened ≡ x = cc in ap (λ x. takes plain (of_one x d spot)) same
test_turn d spot (kinds.Word reserved.Available) x e = let same : test.Available ≡ x = cc in ap (λ x. takes plain (of_one x d spot)) same
test_turn d spot (kinds.Word reserved.Fix) x e = let same : test.Fix ≡ x = cc in ap (λ x. takes plain (of_one x d spot)) same
test_turn d spot k x e = cc

-- a sign, NOT or IF begins no smaller part

pub if_refuses : (d : ℕ) (spot : Spot) (k : TokenKind) → is_word reserved.If k ≡ true → turn_eqv d spot k ≡ refuses
if_refuses d spot k e = ap (turn_eqv d spot) (word_from k reserved.If e)

pub not_refuses : (d : ℕ) (spot : Spot) (k : TokenKind) → is_word reserved.Not k ≡ true → turn_rel d spot k ≡ refuses
not_refuses d spot k e = ap (turn_rel d spot) (word_from k reserved.Not e)

pub sign_refuses : (d : ℕ) (spot : Spot) (k : TokenKind) → is_sign k ≡ true → turn_term d spot k ≡ refuses
sign_refuses d spot (kinds.Symbol symbols.Plus) e = refl
sign_refuses d spot (kinds.Symbol symbols.Minus) e = refl
sign_refuses d spot k e = cc

-- so where a part is read, the test for that token is false
pub tested : (free : ℕ) (b : Bool) (t : Token) (ts rest : List Token) (s : Due) (v : Value) → (b ≡ true → reading_turn s t.spot t.kind ≡ refuses) →
    Leads free s (t ∷ ts) v rest → b ≡ false
tested free true t ts rest s v r e = absurd (refused_none free t ts rest s [] [] (v ∷ []) (r refl) (e [] [] ∙ read_nothing free rest (v ∷ [])))
tested free false t ts rest s v r e = refl

-- how parts begin with parts

pub expr_at : (free d : ℕ) (t : Token) (ts : List Token) (due : List Due) (vs : List Value) → is_word reserved.If t.kind ≡ false →
    read free (t ∷ ts) (part expr d ∷ due) vs ≡ read free (t ∷ ts) (part (level levels.Eqv) d ∷ due) vs
unfolding reading
expr_at free d t ts due vs e = rw e refl

pub not_at : (free d : ℕ) (t : Token) (ts : List Token) (due : List Due) (vs : List Value) → is_word reserved.Not t.kind ≡ false →
    read free (t ∷ ts) (part not_part d ∷ due) vs ≡ read free (t ∷ ts) (part rel d ∷ due) vs
unfolding reading
not_at free d t ts due vs e = rw e refl

pub rel_at : (free d : ℕ) (ts : List Token) (due : List Due) (vs : List Value) →
    read free ts (part rel d ∷ due) vs ≡ read free ts (part (level levels.Sum) d ∷ relation d ∷ due) vs
rel_at free d ts due vs = read_followed free outside (part rel d) (part (level levels.Sum) d) (relation d ∷ []) due ts vs (sum_takes d) (λ spot k. refl)

pub level_at : (free : ℕ) (l : Level) (d : ℕ) (t : Token) (ts : List Token) (due : List Due) (vs : List Value) → signs l t.kind ≡ false →
    read free (t ∷ ts) (part (level l) d ∷ due) vs ≡ read free (t ∷ ts) (part (operand l) d ∷ more_of l d ∷ due) vs
level_at free levels.Eqv d t ts due vs e = read_followed free outside (part (level levels.Eqv) d) (part (level levels.Imp) d) (more_of levels.Eqv d ∷ []) due (t ∷ ts) vs (imp_takes d) (λ spot k. refl)
level_at free levels.Imp d t ts due vs e = read_followed free outside (part (level levels.Imp) d) (part (level levels.Or) d) (more_of levels.Imp d ∷ []) due (t ∷ ts) vs (or_takes d) (λ spot k. refl)
level_at free levels.Or d t ts due vs e = read_followed free outside (part (level levels.Or) d) (part (level levels.And) d) (more_of levels.Or d ∷ []) due (t ∷ ts) vs (and_takes d) (λ spot k. refl)
level_at free levels.And d t ts due vs e = read_followed free outside (part (level levels.And) d) (part not_part d) (more_of levels.And d ∷ []) due (t ∷ ts) vs (not_takes d) (λ spot k. refl)
level_at free levels.Term d t ts due vs e = read_followed free outside (part (level levels.Term) d) (part primary d) (more_of levels.Term d ∷ []) due (t ∷ ts) vs (primary_takes d) (λ spot k. refl)
level_at free levels.Sum d t ts due vs e = read_at free outside (part (level levels.Sum) d) (part (level levels.Term) d) (more_of levels.Sum d ∷ []) due t ts vs (term_takes d t.spot t.kind)
    (ap (λ b. either b (takes plain (part (level levels.Term) d ∷ make (signed t.kind t.spot) ∷ more_of levels.Sum d ∷ []))
    (followed (turn_term d t.spot t.kind) (more_of levels.Sum d ∷ []))) e)

-- what is read as the first part of a level has no sign
pub signless : (free : ℕ) (l : Level) (d : ℕ) (t : Token) (ts rest : List Token) (v : Value) → Leads free (part (operand l) d) (t ∷ ts) v rest → signs l t.kind ≡ false
signless free levels.Eqv d t ts rest v e = refl
signless free levels.Imp d t ts rest v e = refl
signless free levels.Or d t ts rest v e = refl
signless free levels.And d t ts rest v e = refl
signless free levels.Term d t ts rest v e = refl
signless free levels.Sum d t ts rest v e = tested free (is_sign t.kind) t ts rest (part (level levels.Term) d) v (sign_refuses d t.spot t.kind) e

-- no part is read where there is nothing
pub none_empty : (free : ℕ) (p : Part) (d : ℕ) (v : Value) (rest : List Token) → Leads free (part p d) [] v rest → ⊥
unfolding reading
none_empty free expr d v rest e = let no : cut_off ≡ to rest (v ∷ []) = e [] [] ∙ read_nothing free rest (v ∷ []) in cc
none_empty free (level levels.Eqv) d v rest e = let no : cut_off ≡ to rest (v ∷ []) = e [] [] ∙ read_nothing free rest (v ∷ []) in cc
none_empty free (level levels.Imp) d v rest e = let no : cut_off ≡ to rest (v ∷ []) = e [] [] ∙ read_nothing free rest (v ∷ []) in cc
none_empty free (level levels.Or) d v rest e = let no : cut_off ≡ to rest (v ∷ []) = e [] [] ∙ read_nothing free rest (v ∷ []) in cc
none_empty free (level levels.And) d v rest e = let no : cut_off ≡ to rest (v ∷ []) = e [] [] ∙ read_nothing free rest (v ∷ []) in cc
none_empty free (level levels.Sum) d v rest e = let no : cut_off ≡ to rest (v ∷ []) = e [] [] ∙ read_nothing free rest (v ∷ []) in cc
none_empty free (level levels.Term) d v rest e = let no : cut_off ≡ to rest (v ∷ []) = e [] [] ∙ read_nothing free rest (v ∷ []) in cc
none_empty free not_part d v rest e = let no : cut_off ≡ to rest (v ∷ []) = e [] [] ∙ read_nothing free rest (v ∷ []) in cc
none_empty free rel d v rest e = let no : cut_off ≡ to rest (v ∷ []) = e [] [] ∙ read_nothing free rest (v ∷ []) in cc
none_empty free primary d v rest e = let no : cut_off ≡ to rest (v ∷ []) = e [] [] ∙ read_nothing free rest (v ∷ []) in cc

-- what is optional is left out

pub more_over : (free : ℕ) (l : Level) (d : ℕ) (t : Token) (rest : List Token) (due : List Due) (vs : List Value) → operator l t.kind ≡ None →
    read free (t ∷ rest) (more_of l d ∷ due) vs ≡ read free (t ∷ rest) due vs
more_over free l d t rest due vs e = skips_step free t rest (more_of l d) due vs (ap (λ o. optional o (on_with l d) skips) e)

pub more_end : (free : ℕ) (l : Level) (d : ℕ) (due : List Due) (vs : List Value) → read free [] (more_of l d ∷ due) vs ≡ read free [] due vs
more_end free l d due vs = skips_end free (more_of l d) due vs (ap (λ o. optional o (on_with l d) skips) (operator_end l))
