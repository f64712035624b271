-- The grammar of expressions: tokens and the expression that they read as. `IsPart free p d from e rest`: the tokens `from` begin
-- with those of the part p, which read as e where d levels are open, and `rest` is what follows. There is one case for each
-- form of a production. The limits are kept by all tokens but the last `free` ones; with 0 they are kept by all.
use Rattle.std.specs.Prelude.{◌≡◌, ◌⊎◌, ◌<◌, ◌≤◌, ◌+◌, ℕ, ℤ, true, false, List, ◌∷◌, length, Some, None, codes, [], Option}
use Rattle.b67_deeds.specs.declared.EventTest.{EventTest}
use Rattle.b67_deeds.specs.declared.EventTest.TheVariants as test
use Rattle.algol_tree.specs.declared.TheConstants.{MOST_NESTING, MOST_EXPRESSION_TOKENS}
use Rattle.algol_tree.specs.declared.level.Level.{Level}
use Rattle.algol_tree.specs.declared.level.Level.TheVariants as levels
use Rattle.algol_tree.specs.declared.token.Token.{Token}
use Rattle.algol_tree.specs.declared.token.TokenKind.{TokenKind}
use Rattle.algol_tree.specs.declared.token.TokenKind.TheVariants as kinds
use Rattle.algol_tree.specs.declared.token.Reserved.TheVariants as reserved
use Rattle.algol_tree.specs.declared.token.Symbol.TheVariants as symbols
use Rattle.algol_tree.specs.declared.tree.Named.{Named}
use Rattle.algol_tree.specs.declared.tree.EventName.{EventName}
use Rattle.algol_tree.specs.declared.tree.Op.{Op}
use Rattle.algol_tree.specs.Plain.{PExpr, number, truth, variable, call, tested, paren, plus, neg, not, two, if, subscripted, called, PExprs, none, more}
use Rattle.algol_tree.specs.Tokens.{IsWord, IsSymbol, IsName, IsSpelled}
use Rattle.algol_tree.specs.Operators.{Part, expr, level, not_part, rel, primary, operand, operator, relop}

-- The first token of `from` opens a level where d are open.
abbrev pub TokenOpens : ℕ → ℕ → List Token → Type 0
TokenOpens free d from = (d < MOST_NESTING) ⊎ (length from ≤ free)

-- event = name [ "." EXCEPTIONEVENT ]
pub data IsEvent : List Token → EventName → List Token → Type 0 where
  declared : (t : Token) (n : Named) (rest : List Token) → IsName n t → IsEvent (t ∷ rest) (record { name = n; task = false }) rest
  of_task : (t u v : Token) (n : Named) (rest : List Token) →
      IsName n t → IsSymbol symbols.Period u → IsSpelled (codes "EXCEPTIONEVENT") v → IsEvent (t ∷ u ∷ v ∷ rest) (record { name = n; task = true }) rest

-- event { "," event }
pub data IsEvents : List Token → List EventName → List Token → Type 0 where
  last : (e : EventName) (from rest : List Token) → IsEvent from e rest → IsEvents from (e ∷ []) rest
  comma : (t : Token) (e : EventName) (es : List EventName) (from after rest : List Token) →
      IsEvent from e (t ∷ after) → IsSymbol symbols.Comma t → IsEvents after es rest → IsEvents from (e ∷ es) rest

-- what is asked of one event
abbrev pub test_of : TokenKind → Option EventTest
test_of (kinds.Word reserved.Happened) = Some test.Happened
test_of (kinds.Word reserved.Available) = Some test.Available
test_of (kinds.Word reserved.Fix) = Some test.Fix
test_of k = None

mutual
  pub data IsExprPart (free : ℕ) : Part → ℕ → List Token → PExpr → List Token → Type 0 where
    -- expr = IF expr THEN eqv ELSE expr | eqv
    conditional : (t u v : Token) (d : ℕ) (c a b : PExpr) (from yes otherwise rest : List Token) →
        IsWord reserved.If t → TokenOpens free d (t ∷ from) → IsExprPart free expr (d + 1) from c (u ∷ yes) →
        IsWord reserved.Then u → IsExprPart free (level levels.Eqv) (d + 1) yes a (v ∷ otherwise) →
        IsWord reserved.Else v → IsExprPart free expr (d + 1) otherwise b rest →
        IsExprPart free expr d (t ∷ from) (if c a b t.spot) rest
    unconditional : (d : ℕ) (e : PExpr) (from rest : List Token) → IsExprPart free (level levels.Eqv) d from e rest → IsExprPart free expr d from e rest
    -- a level = operand { operator operand }
    chain : (l : Level) (d : ℕ) (first e : PExpr) (from after rest : List Token) →
        IsExprPart free (operand l) d from first after → IsMore free l d first after e rest → IsExprPart free (level l) d from e rest
    -- sum = ( "+" | "-" ) term { ( "+" | "-" ) term }
    positive : (t : Token) (d : ℕ) (first e : PExpr) (from after rest : List Token) →
        IsSymbol symbols.Plus t → IsExprPart free (level levels.Term) d from first after → IsMore free levels.Sum d (plus first t.spot) after e rest →
        IsExprPart free (level levels.Sum) d (t ∷ from) e rest
    negative : (t : Token) (d : ℕ) (first e : PExpr) (from after rest : List Token) →
        IsSymbol symbols.Minus t → IsExprPart free (level levels.Term) d from first after → IsMore free levels.Sum d (neg first t.spot) after e rest →
        IsExprPart free (level levels.Sum) d (t ∷ from) e rest
    -- not = NOT not | rel
    negation : (t : Token) (d : ℕ) (e : PExpr) (from rest : List Token) →
        IsWord reserved.Not t → TokenOpens free d (t ∷ from) → IsExprPart free not_part (d + 1) from e rest →
        IsExprPart free not_part d (t ∷ from) (not e t.spot) rest
    affirmation : (d : ℕ) (e : PExpr) (from rest : List Token) → IsExprPart free rel d from e rest → IsExprPart free not_part d from e rest
    -- rel = sum [ relop sum ]
    alone : (d : ℕ) (e : PExpr) (from rest : List Token) → IsExprPart free (level levels.Sum) d from e rest → IsExprPart free rel d from e rest
    relation : (t : Token) (op : Op) (d : ℕ) (a b : PExpr) (from after rest : List Token) →
        IsExprPart free (level levels.Sum) d from a (t ∷ after) → relop t.kind ≡ Some op → IsExprPart free (level levels.Sum) d after b rest →
        IsExprPart free rel d from (two op a b) rest
    -- primary = number | TRUE | FALSE | variable | name "(" expr { "," expr } ")" | ( HAPPENED | AVAILABLE | FIX ) "(" event ")" |
    -- WAIT "(" event { "," event } ")" | "(" expr ")"
    literal : (t : Token) (d : ℕ) (value : ℤ) (rest : List Token) → t.kind ≡ kinds.Number value → IsExprPart free primary d (t ∷ rest) (number value t.spot) rest
    yes : (t : Token) (d : ℕ) (rest : List Token) → IsWord reserved.True t → IsExprPart free primary d (t ∷ rest) (truth true t.spot) rest
    no_ : (t : Token) (d : ℕ) (rest : List Token) → IsWord reserved.False t → IsExprPart free primary d (t ∷ rest) (truth false t.spot) rest
    simple : (t : Token) (n : Named) (d : ℕ) (rest : List Token) → IsName n t → IsExprPart free primary d (t ∷ rest) (variable (subscripted n none)) rest
    element : (t u v : Token) (n : Named) (d : ℕ) (es : PExprs) (from rest : List Token) →
        IsName n t → IsSymbol symbols.OpenSquare u → TokenOpens free d (u ∷ from) → IsExprs free (d + 1) from es (v ∷ rest) → IsSymbol symbols.CloseSquare v →
        IsExprPart free primary d (t ∷ u ∷ from) (variable (subscripted n es)) rest
    called_with : (t u v : Token) (n : Named) (d : ℕ) (es : PExprs) (from rest : List Token) →
        IsName n t → IsSymbol symbols.OpenRound u → TokenOpens free d (u ∷ from) → IsExprs free (d + 1) from es (v ∷ rest) → IsSymbol symbols.CloseRound v →
        IsExprPart free primary d (t ∷ u ∷ from) (call (called n es)) rest
    asked : (t u v : Token) (test : EventTest) (d : ℕ) (event : EventName) (from rest : List Token) →
        test_of t.kind ≡ Some test → IsSymbol symbols.OpenRound u → TokenOpens free d (u ∷ from) → IsEvent from event (v ∷ rest) → IsSymbol symbols.CloseRound v →
        IsExprPart free primary d (t ∷ u ∷ from) (tested test (event ∷ []) t.spot) rest
    waited : (t u v : Token) (d : ℕ) (events : List EventName) (from rest : List Token) →
        IsWord reserved.Wait t → IsSymbol symbols.OpenRound u → TokenOpens free d (u ∷ from) → IsEvents from events (v ∷ rest) → IsSymbol symbols.CloseRound v →
        IsExprPart free primary d (t ∷ u ∷ from) (tested test.WaitAny events t.spot) rest
    grouped : (t u : Token) (d : ℕ) (e : PExpr) (from rest : List Token) →
        IsSymbol symbols.OpenRound t → TokenOpens free d (t ∷ from) → IsExprPart free expr (d + 1) from e (u ∷ rest) → IsSymbol symbols.CloseRound u →
        IsExprPart free primary d (t ∷ from) (paren e t.spot) rest

  -- { operator operand }, after the expression `left`: each operator takes all that stands to its left
  pub data IsMore (free : ℕ) : Level → ℕ → PExpr → List Token → PExpr → List Token → Type 0 where
    last : (l : Level) (d : ℕ) (left : PExpr) (rest : List Token) → IsMore free l d left rest left rest
    on : (t : Token) (l : Level) (op : Op) (d : ℕ) (left right e : PExpr) (from after rest : List Token) →
        operator l t.kind ≡ Some op → IsExprPart free (operand l) d from right after → IsMore free l d (two op left right) after e rest →
        IsMore free l d left (t ∷ from) e rest

  -- expr { "," expr }
  pub data IsExprs (free : ℕ) : ℕ → List Token → PExprs → List Token → Type 0 where
    one : (d : ℕ) (e : PExpr) (from rest : List Token) → IsExprPart free expr d from e rest → IsExprs free d from (more e none) rest
    comma : (t : Token) (d : ℕ) (e : PExpr) (es : PExprs) (from after rest : List Token) →
        IsExprPart free expr d from e (t ∷ after) → IsSymbol symbols.Comma t → IsExprs free d after es rest → IsExprs free d from (more e es) rest

-- Of the tokens from `from` up to `rest`, which are one expression, no more than the limit stand before the last `free` ones.
abbrev pub IsShortExpression : ℕ → List Token → List Token → Type 0
IsShortExpression free from rest = (length from ≤ length rest + MOST_EXPRESSION_TOKENS) ⊎ (length from ≤ free + MOST_EXPRESSION_TOKENS)

-- an expression that stands in no other
pub record IsWholeExpression (free d : ℕ) (from : List Token) (e : PExpr) (rest : List Token) : Type 0 where
  pub reads : IsExprPart free expr d from e rest
  pub short : IsShortExpression free from rest
