-- What a token is to a part of an expression that is due.
use Rattle.std.specs.Prelude.{◌+◌, ℕ, Bool, true, false, ◌||◌, List, [], ◌∷◌, ◌++◌, Option, Some, None, codes}
use Rattle.b67_deeds.specs.declared.EventTest.{EventTest}
use Rattle.b67_deeds.specs.declared.EventTest.TheVariants as test
use Rattle.algol_tree.specs.declared.level.Level.{Level}
use Rattle.algol_tree.specs.declared.level.Level.TheVariants as levels
use Rattle.algol_tree.specs.declared.token.Spot.{Spot}
use Rattle.algol_tree.specs.declared.token.TokenKind.{TokenKind}
use Rattle.algol_tree.specs.declared.token.TokenKind.TheVariants as kinds
use Rattle.algol_tree.specs.declared.token.Reserved.TheVariants as reserved
use Rattle.algol_tree.specs.declared.token.Symbol.{Symbol}
use Rattle.algol_tree.specs.declared.token.Symbol.TheVariants as symbols
use Rattle.algol_tree.specs.declared.tree.Named.{Named}
use Rattle.algol_tree.specs.declared.tree.Op.{Op}
use Rattle.algol_tree.specs.Plain as trees
use Rattle.algol_tree.specs.Plain.{PExpr, PExprs, subscripted, called, none, more}
use Rattle.algol_tree.specs.Tokens.{is_word, is_symbol}
use Rattle.algol_tree.specs.Operators.{Part, expr, level, not_part, rel, primary, operand}
use Rattle.algol_tree.specs.Due.{one, many, event_named, event_names, Make, value_put, Due, make, word, symbol, spelled, part, more_of, relation, behind_name, exprs_more, opening, event, events_more, behind_event, whole_ends, Turn, takes, makes, skips, refuses, plain, nests, followed, begins, either}

abbrev pub is_sign : TokenKind → Bool
is_sign k = is_symbol symbols.Plus k || is_symbol symbols.Minus k

-- a level may begin with this token as a sign
abbrev pub signs : Level → TokenKind → Bool
signs levels.Sum k = is_sign k
signs l k = false

-- es, and e after them
abbrev pub behind : PExprs → PExpr → PExprs
behind none e = more e none
behind (more x es) e = more x (behind es e)

-- es, and those after them
abbrev pub all_of : PExprs → PExprs → PExprs
all_of none fs = fs
all_of (more e es) fs = more e (all_of es fs)

abbrev pub token_sign_of : TokenKind → PExpr → Spot → PExpr
token_sign_of (kinds.Symbol symbols.Minus) e spot = trees.neg e spot
token_sign_of k e spot = trees.plus e spot

-- how values are made into one

abbrev pub signed : TokenKind → Spot → Make
signed k spot (one e ∷ vs) = one (token_sign_of k e spot) ∷ vs
signed k spot vs = vs

abbrev pub negated : Spot → Make
negated spot (one e ∷ vs) = one (trees.not e spot) ∷ vs
negated spot vs = vs

abbrev pub grouped : Spot → Make
grouped spot (one e ∷ vs) = one (trees.paren e spot) ∷ vs
grouped spot vs = vs

abbrev pub op_joined : Op → Make
op_joined op (one b ∷ one a ∷ vs) = one (trees.two op a b) ∷ vs
op_joined op vs = vs

abbrev pub expr_chosen : Spot → Make
expr_chosen spot (one b ∷ one a ∷ one c ∷ vs) = one (trees.if c a b spot) ∷ vs
expr_chosen spot vs = vs

abbrev pub list_made : Make
list_made (one e ∷ many es ∷ vs) = many (behind es e) ∷ vs
list_made vs = vs

abbrev pub element : Named → Make
element n (many es ∷ vs) = one (trees.variable (subscripted n es)) ∷ vs
element n vs = vs

abbrev pub applied : Named → Make
applied n (many es ∷ vs) = one (trees.call (called n es)) ∷ vs
applied n vs = vs

abbrev pub test_asked : EventTest → Spot → Make
test_asked test spot (event_named e ∷ vs) = one (trees.tested test (e ∷ []) spot) ∷ vs
test_asked test spot vs = vs

abbrev pub event_added : Make
event_added (event_named e ∷ event_names es ∷ vs) = event_names (es ++ e ∷ []) ∷ vs
event_added vs = vs

abbrev pub waited : Spot → Make
waited spot (event_names es ∷ vs) = one (trees.tested test.WaitAny es spot) ∷ vs
waited spot vs = vs

-- number | TRUE | FALSE
abbrev pub literal : Spot → TokenKind → Option PExpr
literal spot (kinds.Number value) = Some (trees.number value spot)
literal spot (kinds.Word reserved.True) = Some (trees.truth true spot)
literal spot (kinds.Word reserved.False) = Some (trees.truth false spot)
literal spot k = None

-- event = name [ "." EXCEPTIONEVENT ]

abbrev pub turn_event : Spot → TokenKind → Turn
turn_event spot (kinds.Name name) = takes plain (behind_event (record { name = name; spot = spot }) ∷ [])
turn_event spot k = refuses

abbrev pub turn_behind_event : Named → TokenKind → Turn
turn_behind_event n k = either (is_symbol symbols.Period k) (takes plain (spelled (codes "EXCEPTIONEVENT") ∷ make (value_put (event_named (record { name = n; task = true }))) ∷ []))
    (makes (value_put (event_named (record { name = n; task = false }))))

-- "(" event ")", of which that is asked
abbrev pub of_one : EventTest → ℕ → Spot → List Due
of_one test d spot = opening symbols.OpenRound d ∷ event ∷ symbol symbols.CloseRound ∷ make (test_asked test spot) ∷ []

-- "(" event { "," event } ")", for which a process waits
abbrev pub of_several : ℕ → Spot → List Due
of_several d spot =
    opening symbols.OpenRound d ∷ make (value_put (event_names [])) ∷ event ∷ make event_added ∷ events_more ∷ symbol symbols.CloseRound ∷ make (waited spot) ∷ []

-- what stands after commas
abbrev pub turn_events_more : TokenKind → Turn
turn_events_more k = either (is_symbol symbols.Comma k) (takes plain (event ∷ make event_added ∷ events_more ∷ [])) skips

-- the turn of a part at a token of that place and kind

abbrev pub turn_primary : ℕ → Spot → TokenKind → Turn
turn_primary d spot (kinds.Number value) = takes plain (make (value_put (one (trees.number value spot))) ∷ [])
turn_primary d spot (kinds.Word reserved.True) = takes plain (make (value_put (one (trees.truth true spot))) ∷ [])
turn_primary d spot (kinds.Word reserved.False) = takes plain (make (value_put (one (trees.truth false spot))) ∷ [])
turn_primary d spot (kinds.Word reserved.Happened) = takes plain (of_one test.Happened d spot)
turn_primary d spot (kinds.Word reserved.Available) = takes plain (of_one test.Available d spot)
turn_primary d spot (kinds.Word reserved.Fix) = takes plain (of_one test.Fix d spot)
turn_primary d spot (kinds.Word reserved.Wait) = takes plain (of_several d spot)
turn_primary d spot (kinds.Name name) = takes plain (behind_name (record { name = name; spot = spot }) d ∷ [])
turn_primary d spot (kinds.Symbol symbols.OpenRound) = takes (nests d) (part expr (d + 1) ∷ symbol symbols.CloseRound ∷ make (grouped spot) ∷ [])
turn_primary d spot k = refuses

abbrev pub turn_term : ℕ → Spot → TokenKind → Turn
turn_term d spot k = followed (turn_primary d spot k) (more_of levels.Term d ∷ [])

abbrev pub turn_sum : ℕ → Spot → TokenKind → Turn
turn_sum d spot k = either (is_sign k) (takes plain (part (level levels.Term) d ∷ make (signed k spot) ∷ more_of levels.Sum d ∷ []))
    (followed (turn_term d spot k) (more_of levels.Sum d ∷ []))

abbrev pub turn_rel : ℕ → Spot → TokenKind → Turn
turn_rel d spot k = followed (turn_sum d spot k) (relation d ∷ [])

abbrev pub turn_not : ℕ → Spot → TokenKind → Turn
turn_not d spot k = either (is_word reserved.Not k) (takes (nests d) (part not_part (d + 1) ∷ make (negated spot) ∷ [])) (turn_rel d spot k)

abbrev pub turn_and : ℕ → Spot → TokenKind → Turn
turn_and d spot k = followed (turn_not d spot k) (more_of levels.And d ∷ [])

abbrev pub turn_or : ℕ → Spot → TokenKind → Turn
turn_or d spot k = followed (turn_and d spot k) (more_of levels.Or d ∷ [])

abbrev pub turn_imp : ℕ → Spot → TokenKind → Turn
turn_imp d spot k = followed (turn_or d spot k) (more_of levels.Imp d ∷ [])

abbrev pub turn_eqv : ℕ → Spot → TokenKind → Turn
turn_eqv d spot k = followed (turn_imp d spot k) (more_of levels.Eqv d ∷ [])

abbrev pub turn_expr : ℕ → Spot → TokenKind → Turn
turn_expr d spot k = either (is_word reserved.If k)
    (takes (nests d) (part expr (d + 1) ∷ word reserved.Then ∷ part (level levels.Eqv) (d + 1) ∷ word reserved.Else ∷ part expr (d + 1) ∷ make (expr_chosen spot) ∷ []))
    (turn_eqv d spot k)

abbrev pub turn_part : Part → ℕ → Spot → TokenKind → Turn
turn_part expr d spot k = turn_expr d spot k
turn_part (level levels.Eqv) d spot k = turn_eqv d spot k
turn_part (level levels.Imp) d spot k = turn_imp d spot k
turn_part (level levels.Or) d spot k = turn_or d spot k
turn_part (level levels.And) d spot k = turn_and d spot k
turn_part (level levels.Sum) d spot k = turn_sum d spot k
turn_part (level levels.Term) d spot k = turn_term d spot k
turn_part not_part d spot k = turn_not d spot k
turn_part rel d spot k = turn_rel d spot k
turn_part primary d spot k = turn_primary d spot k

abbrev pub turn_whole : ℕ → Spot → TokenKind → Turn
turn_whole d spot k = begins (followed (turn_expr d spot k) (whole_ends ∷ []))

-- { operator operand }
abbrev pub on_with : Level → ℕ → Op → List Due
on_with l d op = part (operand l) d ∷ make (op_joined op) ∷ more_of l d ∷ []

-- [ relop sum ]
abbrev pub related : ℕ → Op → List Due
related d op = part (level levels.Sum) d ∷ make (op_joined op) ∷ []

-- expr { "," expr } and the symbol that closes them, after a list with nothing in it yet
abbrev pub list_in : ℕ → Symbol → List Due
list_in d closing = part expr d ∷ make list_made ∷ exprs_more d ∷ symbol closing ∷ []

-- the same, made into one so
abbrev pub exprs_in : ℕ → Symbol → Make → List Due
exprs_in d closing m = make (value_put (many none)) ∷ part expr (d + 1) ∷ make list_made ∷ exprs_more (d + 1) ∷ symbol closing ∷ make m ∷ []

abbrev pub turn_behind_name : Named → ℕ → TokenKind → Turn
turn_behind_name n d k = either (is_symbol symbols.OpenSquare k) (takes (nests d) (exprs_in d symbols.CloseSquare (element n)))
    (either (is_symbol symbols.OpenRound k) (takes (nests d) (exprs_in d symbols.CloseRound (applied n)))
    (makes (value_put (one (trees.variable (subscripted n none))))))

-- the turn of what stands after commas
abbrev pub turn_exprs_more : ℕ → TokenKind → Turn
turn_exprs_more d k = either (is_symbol symbols.Comma k) (takes plain (part expr d ∷ make list_made ∷ exprs_more d ∷ [])) skips
