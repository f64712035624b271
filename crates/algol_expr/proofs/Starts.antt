-- The first token of each production, and what is due after it.
use Rattle.std.proofs.Common.{◌≡◌, ◌≤◌, ◌<◌, ◌+◌, ℕ, Bool, true, false, List, [], ◌∷◌, ◌++◌, Some, None, length, codes as codes_of, refl, sym, subst, ap, ap₂, ◌∙◌}
use Rattle.b67_deeds.specs.declared.EventTest.{EventTest}
use Rattle.b67_deeds.specs.declared.EventTest.TheVariants as test
use Rattle.b67_deeds.specs.Deeds.{tests, is_of_several}
use Rattle.algol_tree.specs.Expressions.{test_of}
use Rattle.algol_tree.specs.declared.token.Spot.{Spot}
use Rattle.algol_tree.specs.declared.token.TokenKind.{TokenKind}
use Rattle.algol_tree.specs.declared.token.Token.{Token}
use Rattle.algol_expr.proofs.Turns.{symbol_from, word_from}
use Rattle.algol_expr.proofs.Taken.{fails_at}
use Rattle.algol_tree.specs.declared.token.TokenKind.TheVariants as kinds
use Rattle.algol_tree.specs.declared.token.Reserved.TheVariants as reserved
use Rattle.algol_tree.specs.declared.token.Symbol.TheVariants as symbols
use Rattle.algol_tree.specs.declared.refusal.Code.TheVariants as codes
use Rattle.algol_tree.specs.declared.TheConstants.{MOST_NESTING}
use Rattle.algol_tree.specs.declared.refusal.Refusal.{Refusal}
use Rattle.algol_tree.specs.declared.refusal.Refusal.TheVariants.{At}
use Rattle.algol_tree.specs.declared.tree.Named.{Named}
use Rattle.algol_tree.specs.declared.tree.Op.{Op}
use Rattle.algol_tree.specs.Plain as trees
use Rattle.algol_tree.specs.declared.level.Level.{Level}
use Rattle.algol_tree.specs.declared.level.Level.TheVariants as levels
use Rattle.algol_tree.specs.Tokens.{is_word, is_symbol, name_in}
use Rattle.algol_tree.specs.Operators.{expr, level, not_part, rel, primary, operand, operator, relop}
use Rattle.algol_tree.specs.Due.{Value, one, many, event_named, value_put, Due, make, word, symbol, spelled, part, more_of, relation, behind_name, opening, event, behind_event, plain, nests, Turn, takes, makes, skips, refuses, followed, either, optional}
use Rattle.algol_tree.specs.DueExpr.{is_sign, signs, signed, negated, grouped, op_joined, expr_chosen, element, applied, literal, turn_primary, turn_term, turn_rel, turn_eqv, on_with, related, list_in, exprs_in, of_one, of_several, turn_event}
use Rattle.algol_tree.specs.Found.{Fails}
use Rattle.algol_expr.proofs.Parts.{test_turn, expr_at, not_at, rel_at, level_at}
use Rattle.algol_expr.proofs.Chain.{Reaches, takes_first, opens_first, too_deep, skips_first, puts_first, making, from_tokens, fails_from}

-- what IF makes due, where i levels are open after it
abbrev after_if : ℕ → Token → List Due
after_if i t = part expr i ∷ word reserved.Then ∷ part (level levels.Eqv) i ∷ word reserved.Else ∷ part expr i ∷ make (expr_chosen t.spot) ∷ []

pub if_starts : (d i : ℕ) (t : Token) (ts : List Token) → is_word reserved.If t.kind ≡ true → d < MOST_NESTING → i ≡ d + 1 →
    Reaches (part expr d ∷ []) [] (t ∷ ts) (after_if i t) [] ts
if_starts d i t ts e o is = subst (λ i. Reaches (part expr d ∷ []) [] (t ∷ ts) (after_if i t) [] ts) (sym is)
    (opens_first d t ts (part expr d) (after_if (d + 1) t) (ap (λ b. either b (takes (nests d) (after_if (d + 1) t)) (turn_eqv d t.spot t.kind)) e) o)

pub if_too_deep : (d : ℕ) (t : Token) (ts : List Token) (left : ℕ) (e : Refusal) → is_word reserved.If t.kind ≡ true → MOST_NESTING ≤ d → left ≡ length (t ∷ ts) → e ≡ At t.spot codes.TooDeep →
    Fails (part expr d ∷ []) [] (t ∷ ts) left e
if_too_deep d t ts left e w o l r = too_deep d t ts (part expr d) (after_if (d + 1) t) left e (ap (λ b. either b (takes (nests d) (after_if (d + 1) t)) (turn_eqv d t.spot t.kind)) w) o l r

pub expr_is : (d : ℕ) (tokens : List Token) (t : Token) (ts : List Token) → tokens ≡ t ∷ ts → is_word reserved.If t.kind ≡ false →
    Reaches (part expr d ∷ []) [] tokens (part (level levels.Eqv) d ∷ []) [] tokens
expr_is d tokens t ts is e = subst (λ x. Reaches (part expr d ∷ []) [] x (part (level levels.Eqv) d ∷ []) [] x) (sym is)
    (record { run = λ due vs. expr_at 0 d t ts due vs e })

pub not_starts : (d i : ℕ) (t : Token) (ts : List Token) → is_word reserved.Not t.kind ≡ true → d < MOST_NESTING → i ≡ d + 1 →
    Reaches (part not_part d ∷ []) [] (t ∷ ts) (part not_part i ∷ make (negated t.spot) ∷ []) [] ts
not_starts d i t ts e o is = subst (λ i. Reaches (part not_part d ∷ []) [] (t ∷ ts) (part not_part i ∷ make (negated t.spot) ∷ []) [] ts) (sym is)
    (opens_first d t ts (part not_part d) (part not_part (d + 1) ∷ make (negated t.spot) ∷ [])
    (ap (λ b. either b (takes (nests d) (part not_part (d + 1) ∷ make (negated t.spot) ∷ [])) (turn_rel d t.spot t.kind)) e) o)

pub not_too_deep : (d : ℕ) (t : Token) (ts : List Token) (left : ℕ) (e : Refusal) → is_word reserved.Not t.kind ≡ true → MOST_NESTING ≤ d → left ≡ length (t ∷ ts) → e ≡ At t.spot codes.TooDeep →
    Fails (part not_part d ∷ []) [] (t ∷ ts) left e
not_too_deep d t ts left e w o l r = too_deep d t ts (part not_part d) (part not_part (d + 1) ∷ make (negated t.spot) ∷ []) left e
    (ap (λ b. either b (takes (nests d) (part not_part (d + 1) ∷ make (negated t.spot) ∷ [])) (turn_rel d t.spot t.kind)) w) o l r

pub not_is : (d : ℕ) (tokens : List Token) (t : Token) (ts : List Token) → tokens ≡ t ∷ ts → is_word reserved.Not t.kind ≡ false →
    Reaches (part not_part d ∷ []) [] tokens (part rel d ∷ []) [] tokens
not_is d tokens t ts is e = subst (λ x. Reaches (part not_part d ∷ []) [] x (part rel d ∷ []) [] x) (sym is)
    (record { run = λ due vs. not_at 0 d t ts due vs e })

pub rel_starts : (d : ℕ) (tokens : List Token) → Reaches (part rel d ∷ []) [] tokens (part (level levels.Sum) d ∷ relation d ∷ []) [] tokens
rel_starts d tokens = record { run = λ due vs. rel_at 0 d tokens due vs }

pub relation_on : (d : ℕ) (tokens : List Token) (t : Token) (ts : List Token) (op : Op) → tokens ≡ t ∷ ts → relop t.kind ≡ Some op →
    Reaches (relation d ∷ []) [] tokens (part (level levels.Sum) d ∷ make (op_joined op) ∷ []) [] ts
relation_on d tokens t ts op is e = subst (λ x. Reaches (relation d ∷ []) [] x (related d op) [] ts) (sym is)
    (takes_first t ts (relation d) (related d op) (ap (λ o. optional o (related d) skips) e))

pub relation_over : (d : ℕ) (tokens : List Token) (t : Token) (ts : List Token) → tokens ≡ t ∷ ts → relop t.kind ≡ None →
    Reaches (relation d ∷ []) [] tokens [] [] tokens
relation_over d tokens t ts is e = subst (λ x. Reaches (relation d ∷ []) [] x [] [] x) (sym is)
    (skips_first t ts (relation d) (ap (λ o. optional o (related d) skips) e))

pub level_starts : (l : Level) (d : ℕ) (tokens : List Token) (t : Token) (ts : List Token) → tokens ≡ t ∷ ts → signs l t.kind ≡ false →
    Reaches (part (level l) d ∷ []) [] tokens (part (operand l) d ∷ more_of l d ∷ []) [] tokens
level_starts l d tokens t ts is e = subst (λ x. Reaches (part (level l) d ∷ []) [] x (part (operand l) d ∷ more_of l d ∷ []) [] x) (sym is)
    (record { run = λ due vs. level_at 0 l d t ts due vs e })

sum_starts : (d : ℕ) (tokens : List Token) (t : Token) (ts : List Token) → tokens ≡ t ∷ ts → is_sign t.kind ≡ true →
    Reaches (part (level levels.Sum) d ∷ []) [] tokens (part (level levels.Term) d ∷ make (signed t.kind t.spot) ∷ more_of levels.Sum d ∷ []) [] ts
sum_starts d tokens t ts is e =
    subst (λ x. Reaches (part (level levels.Sum) d ∷ []) [] x (part (level levels.Term) d ∷ make (signed t.kind t.spot) ∷ more_of levels.Sum d ∷ []) [] ts) (sym is)
    (takes_first t ts (part (level levels.Sum) d) (part (level levels.Term) d ∷ make (signed t.kind t.spot) ∷ more_of levels.Sum d ∷ [])
    (ap (λ b. either b (takes plain (part (level levels.Term) d ∷ make (signed t.kind t.spot) ∷ more_of levels.Sum d ∷ []))
    (followed (turn_term d t.spot t.kind) (more_of levels.Sum d ∷ []))) e))

pub sign_starts : (l : Level) (d : ℕ) (tokens : List Token) (t : Token) (ts : List Token) → tokens ≡ t ∷ ts → signs l t.kind ≡ true →
    Reaches (part (level l) d ∷ []) [] tokens (part (operand l) d ∷ make (signed t.kind t.spot) ∷ more_of l d ∷ []) [] ts
sign_starts levels.Sum d tokens t ts is e = sum_starts d tokens t ts is e
sign_starts l d tokens t ts is e = cc

-- with the values that stand before
pub more_on : (l : Level) (d : ℕ) (tokens : List Token) (t : Token) (ts : List Token) (op : Op) (us : List Value) → tokens ≡ t ∷ ts → operator l t.kind ≡ Some op →
    Reaches (more_of l d ∷ []) us tokens (part (operand l) d ∷ make (op_joined op) ∷ more_of l d ∷ []) us ts
more_on l d tokens t ts op us is e = subst (λ x. Reaches (more_of l d ∷ []) us x (on_with l d op) us ts) (sym is)
    (record { run = λ due vs. (takes_first t ts (more_of l d) (on_with l d op) (ap (λ o. optional o (on_with l d) skips) e)).run due (us ++ vs) })

pub more_over : (l : Level) (d : ℕ) (tokens : List Token) (t : Token) (ts : List Token) (us : List Value) → tokens ≡ t ∷ ts → operator l t.kind ≡ None →
    Reaches (more_of l d ∷ []) us tokens [] us tokens
more_over l d tokens t ts us is e = subst (λ x. Reaches (more_of l d ∷ []) us x [] us x) (sym is)
    (record { run = λ due vs. (skips_first t ts (more_of l d) (ap (λ o. optional o (on_with l d) skips) e)).run due (us ++ vs) })

-- a token that is a primary

literal_turn : (d : ℕ) (spot : Spot) (k : TokenKind) (e : trees.PExpr) → literal spot k ≡ Some e → turn_primary d spot k ≡ takes plain (make (value_put (one e)) ∷ [])
literal_turn d spot (kinds.Number value) e p = let same : trees.number value spot ≡ e = cc in ap (λ e. takes plain (make (value_put (one e)) ∷ [])) same
literal_turn d spot (kinds.Word reserved.True) e p = let same : trees.truth true spot ≡ e = cc in ap (λ e. takes plain (make (value_put (one e)) ∷ [])) same
literal_turn d spot (kinds.Word reserved.False) e p = let same : trees.truth false spot ≡ e = cc in ap (λ e. takes plain (make (value_put (one e)) ∷ [])) same
literal_turn d spot k e p = cc

pub literal_is : (d : ℕ) (tokens : List Token) (t : Token) (ts : List Token) (e : trees.PExpr) → tokens ≡ t ∷ ts → literal t.spot t.kind ≡ Some e →
    Reaches (part primary d ∷ []) [] tokens [] (one e ∷ []) ts
literal_is d tokens t ts e is p = subst (λ x. Reaches (part primary d ∷ []) [] x [] (one e ∷ []) ts) (sym is)
    (making (takes_first t ts (part primary d) (make (value_put (one e)) ∷ []) (literal_turn d t.spot t.kind e p)) (λ vs. refl))

pub not_end_literal : (spot : Spot) (k : TokenKind) (e : trees.PExpr) → literal spot k ≡ Some e → k ≡ kinds.End → ⊥
not_end_literal spot k e p q = let no : None ≡ Some e = sym (ap (literal spot) q) ∙ p in cc

pub name_is : (k : TokenKind) (name : List ℕ) → name_in k ≡ Some name → k ≡ kinds.Name name
name_is (kinds.Name n) name e = let same : n ≡ name = cc in ap kinds.Name same
name_is k name e = cc

pub name_starts : (d : ℕ) (tokens : List Token) (t : Token) (ts : List Token) (n : Named) (name : List ℕ) → tokens ≡ t ∷ ts → name_in t.kind ≡ Some name →
    (n.name ≡ name) × (n.spot ≡ t.spot) → Reaches (part primary d ∷ []) [] tokens (behind_name n d ∷ []) [] ts
name_starts d tokens t ts n name is e same = subst (λ x. Reaches (part primary d ∷ []) [] x (behind_name n d ∷ []) [] ts) (sym is)
    (takes_first t ts (part primary d) (behind_name n d ∷ []) (ap (turn_primary d t.spot) (name_is t.kind name e ∙ ap kinds.Name (sym same.0))
    ∙ ap (λ spot. takes plain (behind_name (record { name = n.name; spot = spot }) d ∷ [])) (sym same.1)))

primary_refuses : (d : ℕ) (spot : Spot) (k : TokenKind) → literal spot k ≡ None → name_in k ≡ None → test_of k ≡ None → is_word reserved.Wait k ≡ false →
    is_symbol symbols.OpenRound k ≡ false → turn_primary d spot k ≡ refuses
primary_refuses d spot (kinds.Number value) a b h w c = cc
primary_refuses d spot (kinds.Word reserved.True) a b h w c = cc
primary_refuses d spot (kinds.Word reserved.False) a b h w c = cc
primary_refuses d spot (kinds.Word reserved.Happened) a b h w c = cc
primary_refuses d spot (kinds.Word reserved.Available) a b h w c = cc
primary_refuses d spot (kinds.Word reserved.Fix) a b h w c = cc
primary_refuses d spot (kinds.Word reserved.Wait) a b h w c = cc
primary_refuses d spot (kinds.Name name) a b h w c = cc
primary_refuses d spot (kinds.Symbol symbols.OpenRound) a b h w c = cc
primary_refuses d spot k a b h w c = refl

pub primary_fails : (d : ℕ) (tokens : List Token) (t : Token) (ts : List Token) (left : ℕ) (e : Refusal) → tokens ≡ t ∷ ts → literal t.spot t.kind ≡ None → name_in t.kind ≡ None →
    test_of t.kind ≡ None → is_word reserved.Wait t.kind ≡ false → is_symbol symbols.OpenRound t.kind ≡ false → left ≡ length (t ∷ ts) → e ≡ At t.spot codes.Unexpected → Fails (part primary d ∷ []) [] tokens left e
primary_fails d tokens t ts left e is a b h w c l r = fails_at tokens t ts (part primary d) left e is (primary_refuses d t.spot t.kind a b h w c) l r

-- a word that asks something of one event, and what is due after it
pub asked_starts : (d : ℕ) (t : Token) (ts : List Token) (x : EventTest) → test_of t.kind ≡ Some x → Reaches (part primary d ∷ []) [] (t ∷ ts) (of_one x d t.spot) [] ts
asked_starts d t ts x e = takes_first t ts (part primary d) (of_one x d t.spot) (test_turn d t.spot t.kind x e)

-- it asks it of one only
pub asks_one : (k : TokenKind) (x : EventTest) → test_of k ≡ Some x → is_of_several (tests x) ≡ false
asks_one (kinds.Word reserved.Happened) x e = let same : test.Happened ≡ x = cc in ap (λ x. is_of_several (tests x)) (sym same)
asks_one (kinds.Word reserved.Available) x e = let same : test.Available ≡ x = cc in ap (λ x. is_of_several (tests x)) (sym same)
asks_one (kinds.Word reserved.Fix) x e = let same : test.Fix ≡ x = cc in ap (λ x. is_of_several (tests x)) (sym same)
asks_one k x e = cc

-- WAIT, and what is due after it
pub waited_starts : (d : ℕ) (t : Token) (ts : List Token) → is_word reserved.Wait t.kind ≡ true → Reaches (part primary d ∷ []) [] (t ∷ ts) (of_several d t.spot) [] ts
waited_starts d t ts e = takes_first t ts (part primary d) (of_several d t.spot) (ap (turn_primary d t.spot) (word_from t.kind reserved.Wait e))

pub event_starts : (tokens : List Token) (t : Token) (ts : List Token) (n : Named) (name : List ℕ) → tokens ≡ t ∷ ts → name_in t.kind ≡ Some name →
    (n.name ≡ name) × (n.spot ≡ t.spot) → Reaches (event ∷ []) [] tokens (behind_event n ∷ []) [] ts
event_starts tokens t ts n name is e same = subst (λ x. Reaches (event ∷ []) [] x (behind_event n ∷ []) [] ts) (sym is)
    (takes_first t ts event (behind_event n ∷ []) (ap (turn_event t.spot) (name_is t.kind name e ∙ ap kinds.Name (sym same.0))
    ∙ ap (λ spot. takes plain (behind_event (record { name = n.name; spot = spot }) ∷ [])) (sym same.1)))

event_refuses : (spot : Spot) (k : TokenKind) → name_in k ≡ None → turn_event spot k ≡ refuses
event_refuses spot (kinds.Name name) e = cc
event_refuses spot k e = refl

pub event_fails : (tokens : List Token) (t : Token) (ts : List Token) (left : ℕ) (e : Refusal) → tokens ≡ t ∷ ts → name_in t.kind ≡ None →
    left ≡ length (t ∷ ts) → e ≡ At t.spot codes.Unexpected → Fails (event ∷ []) [] tokens left e
event_fails tokens t ts left e is a l r = fails_at tokens t ts event left e is (event_refuses t.spot t.kind a) l r

-- after an event's name

event_turn : Named → Bool → Turn
event_turn n b = either b (takes plain (spelled (codes_of "EXCEPTIONEVENT") ∷ make (value_put (event_named (record { name = n; task = true }))) ∷ []))
    (makes (value_put (event_named (record { name = n; task = false }))))

pub period_starts : (n : Named) (tokens : List Token) (t : Token) (ts : List Token) → tokens ≡ t ∷ ts → is_symbol symbols.Period t.kind ≡ true →
    Reaches (behind_event n ∷ []) [] tokens (spelled (codes_of "EXCEPTIONEVENT") ∷ make (value_put (event_named (record { name = n; task = true }))) ∷ []) [] ts
unfolding event_turn
period_starts n tokens t ts is e = from_tokens is (takes_first t ts (behind_event n) _ (ap (event_turn n) e))

pub event_alone : (n : Named) (tokens : List Token) (t : Token) (ts : List Token) → tokens ≡ t ∷ ts → is_symbol symbols.Period t.kind ≡ false →
    Reaches (behind_event n ∷ []) [] tokens [] (event_named (record { name = n; task = false }) ∷ []) tokens
unfolding event_turn
event_alone n tokens t ts is e = subst (λ x. Reaches (behind_event n ∷ []) [] x [] (event_named (record { name = n; task = false }) ∷ []) x) (sym is)
    (making (puts_first t ts (behind_event n) (value_put (event_named (record { name = n; task = false }))) (ap (event_turn n) e)) (λ vs. refl))

abbrev after_open : ℕ → Token → List Due
after_open i t = part expr i ∷ symbol symbols.CloseRound ∷ make (grouped t.spot) ∷ []

pub group_starts : (d i : ℕ) (t : Token) (ts : List Token) → is_symbol symbols.OpenRound t.kind ≡ true → d < MOST_NESTING → i ≡ d + 1 →
    Reaches (part primary d ∷ []) [] (t ∷ ts) (after_open i t) [] ts
group_starts d i t ts e o is = subst (λ i. Reaches (part primary d ∷ []) [] (t ∷ ts) (after_open i t) [] ts) (sym is)
    (opens_first d t ts (part primary d) (after_open (d + 1) t) (ap (turn_primary d t.spot) (symbol_from t.kind symbols.OpenRound e)) o)

pub group_too_deep : (d : ℕ) (t : Token) (ts : List Token) (left : ℕ) (e : Refusal) → is_symbol symbols.OpenRound t.kind ≡ true → MOST_NESTING ≤ d → left ≡ length (t ∷ ts) → e ≡ At t.spot codes.TooDeep →
    Fails (part primary d ∷ []) [] (t ∷ ts) left e
group_too_deep d t ts left e k o l r = too_deep d t ts (part primary d) (after_open (d + 1) t) left e (ap (turn_primary d t.spot) (symbol_from t.kind symbols.OpenRound k)) o l r

-- after a name

abbrev pub behind_turn : Bool → Bool → Named → ℕ → Turn
behind_turn square round n d = either square (takes (nests d) (exprs_in d symbols.CloseSquare (element n)))
    (either round (takes (nests d) (exprs_in d symbols.CloseRound (applied n))) (makes (value_put (one (trees.variable (trees.subscripted n trees.none))))))

pub square_starts : (n : Named) (d i : ℕ) (tokens : List Token) (t : Token) (ts : List Token) → tokens ≡ t ∷ ts → is_symbol symbols.OpenSquare t.kind ≡ true →
    d < MOST_NESTING → i ≡ d + 1 → Reaches (behind_name n d ∷ []) [] tokens (list_in i symbols.CloseSquare ++ make (element n) ∷ []) (many trees.none ∷ []) ts
square_starts n d i tokens t ts at e o is =
    subst (λ i. Reaches (behind_name n d ∷ []) [] tokens (list_in i symbols.CloseSquare ++ make (element n) ∷ []) (many trees.none ∷ []) ts) (sym is)
    (from_tokens at (making (opens_first d t ts (behind_name n d) (exprs_in d symbols.CloseSquare (element n))
    (ap (λ b. behind_turn b (is_symbol symbols.OpenRound t.kind) n d) e) o) (λ vs. refl)))

pub round_starts : (n : Named) (d i : ℕ) (tokens : List Token) (t : Token) (ts : List Token) → tokens ≡ t ∷ ts → is_symbol symbols.OpenSquare t.kind ≡ false →
    is_symbol symbols.OpenRound t.kind ≡ true →
    d < MOST_NESTING → i ≡ d + 1 → Reaches (behind_name n d ∷ []) [] tokens (list_in i symbols.CloseRound ++ make (applied n) ∷ []) (many trees.none ∷ []) ts
round_starts n d i tokens t ts at f e o is =
    subst (λ i. Reaches (behind_name n d ∷ []) [] tokens (list_in i symbols.CloseRound ++ make (applied n) ∷ []) (many trees.none ∷ []) ts) (sym is)
    (from_tokens at (making (opens_first d t ts (behind_name n d) (exprs_in d symbols.CloseRound (applied n))
    (ap₂ (λ a b. behind_turn a b n d) f e) o) (λ vs. refl)))

pub square_too_deep : (n : Named) (d : ℕ) (tokens : List Token) (t : Token) (ts : List Token) (left : ℕ) (e : Refusal) → tokens ≡ t ∷ ts →
    is_symbol symbols.OpenSquare t.kind ≡ true → MOST_NESTING ≤ d → left ≡ length (t ∷ ts) → e ≡ At t.spot codes.TooDeep → Fails (behind_name n d ∷ []) [] tokens left e
square_too_deep n d tokens t ts left e at s o l r = fails_from at (too_deep d t ts (behind_name n d) (exprs_in d symbols.CloseSquare (element n)) left e
    (ap (λ b. behind_turn b (is_symbol symbols.OpenRound t.kind) n d) s) o l r)

pub round_too_deep : (n : Named) (d : ℕ) (tokens : List Token) (t : Token) (ts : List Token) (left : ℕ) (e : Refusal) → tokens ≡ t ∷ ts →
    is_symbol symbols.OpenSquare t.kind ≡ false → is_symbol symbols.OpenRound t.kind ≡ true → MOST_NESTING ≤ d → left ≡ length (t ∷ ts) → e ≡ At t.spot codes.TooDeep → Fails (behind_name n d ∷ []) [] tokens left e
round_too_deep n d tokens t ts left e at f s o l r = fails_from at (too_deep d t ts (behind_name n d) (exprs_in d symbols.CloseRound (applied n)) left e
    (ap₂ (λ a b. behind_turn a b n d) f s) o l r)

pub name_alone : (n : Named) (d : ℕ) (tokens : List Token) (t : Token) (ts : List Token) → tokens ≡ t ∷ ts → is_symbol symbols.OpenSquare t.kind ≡ false →
    is_symbol symbols.OpenRound t.kind ≡ false → Reaches (behind_name n d ∷ []) [] tokens [] (one (trees.variable (trees.subscripted n trees.none)) ∷ []) tokens
name_alone n d tokens t ts at f e = subst (λ x. Reaches (behind_name n d ∷ []) [] x [] (one (trees.variable (trees.subscripted n trees.none)) ∷ []) x) (sym at)
    (making (puts_first t ts (behind_name n d) (value_put (one (trees.variable (trees.subscripted n trees.none)))) (ap₂ (λ a b. behind_turn a b n d) f e)) (λ vs. refl))
