-- What is due of an expression has a text.
use Rattle.std.proofs.Common.{◌≤◌, ℕ, false, None, List, [], ◌∷◌, ◌++◌, length, length-append, pos, refl, inr, arith}
use Rattle.algol_tree.specs.declared.token.Token.{Token}
use Rattle.algol_tree.specs.declared.token.TokenKind.{TokenKind}
use Rattle.algol_tree.specs.declared.token.TokenKind.TheVariants as kinds
use Rattle.algol_tree.specs.declared.level.Level.{Level}
use Rattle.algol_tree.specs.declared.level.Level.TheVariants as levels
use Rattle.algol_tree.specs.Plain as trees
use Rattle.algol_tree.specs.Plain.{PExpr, none}
use Rattle.algol_tree.specs.Expressions as grammar
use Rattle.algol_tree.specs.Operators.{Part, expr, level, not_part, rel, primary, operand}
use Rattle.algol_tree.specs.Expressions.{IsExprPart}
use Rattle.algol_tree.specs.Due.{Value, one, event_named, Due, make, word, symbol, spelled, part, more_of, relation, behind_name, exprs_more, opening, event, events_more, behind_event}
use Rattle.algol_tree.specs.Reading.{nowhere}
use Rattle.algol_expr.proofs.Inner.{IsInner, Inners}
use Rattle.algol_expr.proofs.Sound.{IsDue, IsAll, nil, cons, leave_more, leave_relation, leave_name, leave_exprs, leave_events, leave_behind_event, single, opened, event_is, it, makes_it, left_out}

one_token : TokenKind → Token
one_token k = record { kind = k; spot = nowhere; from = 0; to = 0 }

one_tree : PExpr
one_tree = trees.number (pos 1) nowhere

-- the text 1 is a part of each kind
Ones : ℕ → ℕ → Part → Type 0
Ones free d p = (rest : List Token) → IsExprPart free p d (one_token (kinds.Number (pos 1)) ∷ rest) one_tree rest

one_chain : (free d : ℕ) (l : Level) → Ones free d (operand l) → Ones free d (level l)
unfolding Ones
one_chain free d l x rest = grammar.chain l d one_tree one_tree _ rest rest (x rest) (grammar.last l d one_tree rest)

one_primary : (free d : ℕ) → Ones free d primary
unfolding Ones one_tree one_token
one_primary free d rest = grammar.literal (one_token (kinds.Number (pos 1))) d (pos 1) rest refl

one_rel : (free d : ℕ) → Ones free d (level levels.Sum) → Ones free d rel
unfolding Ones
one_rel free d x rest = grammar.alone d one_tree _ rest (x rest)

one_not : (free d : ℕ) → Ones free d rel → Ones free d not_part
unfolding Ones
one_not free d x rest = grammar.affirmation d one_tree _ rest (x rest)

one_expr : (free d : ℕ) → Ones free d (level levels.Eqv) → Ones free d expr
unfolding Ones
one_expr free d x rest = grammar.unconditional d one_tree _ rest (x rest)

one_term : (free d : ℕ) → Ones free d (level levels.Term)
one_term free d = one_chain free d levels.Term (one_primary free d)

one_sum : (free d : ℕ) → Ones free d (level levels.Sum)
one_sum free d = one_chain free d levels.Sum (one_term free d)

one_and : (free d : ℕ) → Ones free d (level levels.And)
one_and free d = one_chain free d levels.And (one_not free d (one_rel free d (one_sum free d)))

one_or : (free d : ℕ) → Ones free d (level levels.Or)
one_or free d = one_chain free d levels.Or (one_and free d)

one_imp : (free d : ℕ) → Ones free d (level levels.Imp)
one_imp free d = one_chain free d levels.Imp (one_or free d)

one_eqv : (free d : ℕ) → Ones free d (level levels.Eqv)
one_eqv free d = one_chain free d levels.Eqv (one_imp free d)

one_part : (free d : ℕ) (p : Part) → Ones free d p
one_part free d expr = one_expr free d (one_eqv free d)
one_part free d (level levels.Eqv) = one_eqv free d
one_part free d (level levels.Imp) = one_imp free d
one_part free d (level levels.Or) = one_or free d
one_part free d (level levels.And) = one_and free d
one_part free d (level levels.Sum) = one_sum free d
one_part free d (level levels.Term) = one_term free d
one_part free d not_part = one_not free d (one_rel free d (one_sum free d))
one_part free d rel = one_rel free d (one_sum free d)
one_part free d primary = one_primary free d

-- what the shortest text makes
shortest : Due → List Value → List Value
shortest (make m) vs = m vs
shortest (part p d) vs = one one_tree ∷ vs
shortest (behind_name n d) vs = one (trees.variable (trees.subscripted n none)) ∷ vs
shortest event vs = event_named (record { name = record { name = []; spot = nowhere }; task = false }) ∷ vs
shortest (behind_event n) vs = event_named (record { name = n; task = false }) ∷ vs
shortest s vs = vs

-- the shortest text of what is due
text_of : Due → List Token
text_of (word w) = one_token (kinds.Word w) ∷ []
text_of (symbol s) = one_token (kinds.Symbol s) ∷ []
text_of (spelled n) = one_token (kinds.Name n) ∷ []
text_of (part p d) = one_token (kinds.Number (pos 1)) ∷ []
text_of (opening s d) = one_token (kinds.Symbol s) ∷ []
text_of event = one_token (kinds.Name []) ∷ []
text_of s = []

pub text : List Due → List Token
text [] = []
text (s ∷ due) = text_of s ++ text due

-- the limits are not kept by it
sample : (free : ℕ) (s : Due) (vs : List Value) (rest : List Token) → IsInner s → length (text_of s ++ rest) ≤ free → IsDue free s vs (text_of s ++ rest) (shortest s vs) rest
unfolding shortest Ones one_token text_of
sample free (make m) vs rest i le = makes_it
sample free (word w) vs rest i le = single (one_token (kinds.Word w)) rest refl
sample free (symbol s) vs rest i le = single (one_token (kinds.Symbol s)) rest refl
sample free (spelled n) vs rest i le = single (one_token (kinds.Name n)) rest refl
sample free (part p d) vs rest i le = it one_tree rest (one_part free d p rest)
sample free (more_of l d) vs rest i le = leave_more free l d None vs vs rest rest left_out
sample free (relation d) vs rest i le = leave_relation free d None vs vs rest rest left_out
sample free (behind_name n d) vs rest i le = leave_name free n d false false vs _ rest rest makes_it
sample free (exprs_more d) vs rest i le = leave_exprs free d false vs vs rest rest left_out
sample free (opening s d) vs rest i le = opened (one_token (kinds.Symbol s)) rest refl (inr le)
sample free event vs rest i le = event_is _ rest (grammar.declared (one_token (kinds.Name [])) _ rest (record { name = refl; place = refl }))
sample free events_more vs rest i le = leave_events free false vs vs rest rest left_out
sample free (behind_event n) vs rest i le = leave_behind_event free n false vs _ rest rest makes_it
sample free s vs rest i le = absurd i

-- whatever is due has a text
pub complete : (free : ℕ) (due : List Due) (vs : List Value) → Inners due → length (text due) ≤ free → (ws : List Value) × IsAll free due vs (text due) ws []
unfolding text
complete free [] vs i le = (vs, nil vs [])
complete free (s ∷ due) vs i le =
    let shorter : length (text due) ≤ free = grind (arith, length-append) in
    let r = complete free due (shortest s vs) i.1 shorter in
    (r.0, cons s due vs (shortest s vs) r.0 (text_of s ++ text due) (text due) [] (sample free s vs (text due) i.0 le) r.1)
