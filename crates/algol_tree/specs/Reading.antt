-- How tokens are read against what is due.
use Rattle.std.specs.Prelude.{◌+◌, ℕ, nat_lt, nat_le, Bool, true, false, ◌&&◌, List, [], ◌∷◌, ◌++◌, length}
use Rattle.algol_tree.specs.declared.TheConstants.{MOST_NESTING, MOST_EXPRESSION_TOKENS}
use Rattle.algol_tree.specs.declared.token.Spot.{Spot}
use Rattle.algol_tree.specs.declared.token.Token.{Token}
use Rattle.algol_tree.specs.declared.token.TokenKind.{TokenKind}
use Rattle.algol_tree.specs.declared.token.TokenKind.TheVariants as kinds
use Rattle.algol_tree.specs.declared.refusal.Code.{Code}
use Rattle.algol_tree.specs.declared.refusal.Code.TheVariants as codes
use Rattle.algol_tree.specs.Tokens.{is_word, is_symbol, is_spelled}
use Rattle.algol_tree.specs.Operators.{operator, relop}
use Rattle.algol_tree.specs.Due as due
use Rattle.algol_tree.specs.Due.{Value, Make, Due, make, word, symbol, spelled, part, more_of, relation, behind_name, exprs_more, opening, whole, whole_ends, named, statement, Limit, plain, nests, label, begun, Turn, takes, makes, skips, closes, refuses, either, optional}
use Rattle.algol_tree.specs.DueExpr.{turn_part, turn_whole, on_with, related, turn_behind_name, turn_exprs_more, turn_event, turn_behind_event, turn_events_more}
use Rattle.algol_tree.specs.DueDecl.{turn_named, turn_names_more, turn_printer_part, turn_files_more, turn_literal, turn_negated, turn_lows_more, turn_values_part, turn_spec, turn_spec_typed, turn_specs_more, turn_behind_procedure}
use Rattle.algol_tree.specs.DueStmt.{turn_wholes_more, turn_actuals_part, turn_items_part, turn_pairs_more, turn_segments_more, turn_task_part, turn_to_part, turn_angle, turn_phrase, turn_phrases_more, turn_statement, turn_behind_start, turn_else_part, turn_stmts_more, turn_typed, turn_declarations, turn_procedure_body, turn_program}

abbrev pub reading_turn : Due → Spot → TokenKind → Turn
reading_turn (make m) spot k = makes m
reading_turn (word w) spot k = either (is_word w k) (takes plain []) refuses
reading_turn (symbol s) spot k = either (is_symbol s k) (takes plain []) refuses
reading_turn (spelled name) spot k = either (is_spelled name k) (takes plain []) refuses
reading_turn (part p d) spot k = turn_part p d spot k
reading_turn (more_of l d) spot k = optional (operator l k) (on_with l d) skips
reading_turn (relation d) spot k = optional (relop k) (related d) skips
reading_turn (behind_name n d) spot k = turn_behind_name n d k
reading_turn (exprs_more d) spot k = turn_exprs_more d k
reading_turn (opening s d) spot k = either (is_symbol s k) (takes (nests d) []) refuses
reading_turn due.event spot k = turn_event spot k
reading_turn due.events_more spot k = turn_events_more k
reading_turn (due.behind_event n) spot k = turn_behind_event n k
reading_turn (whole d) spot k = turn_whole d spot k
reading_turn whole_ends spot k = closes
reading_turn named spot k = turn_named spot k
reading_turn due.names_more spot k = turn_names_more k
reading_turn due.printer_part spot k = turn_printer_part k
reading_turn due.files_more spot k = turn_files_more k
reading_turn due.literal spot k = turn_literal k
reading_turn due.number_negated spot k = turn_negated k
reading_turn due.lows_more spot k = turn_lows_more k
reading_turn due.values_part spot k = turn_values_part k
reading_turn due.spec spot k = turn_spec k refuses
reading_turn (due.spec_typed kind) spot k = turn_spec_typed kind spot k
reading_turn due.specs_more spot k = turn_specs_more k
reading_turn (due.behind_procedure kind) spot k = turn_behind_procedure kind k
reading_turn due.wholes_more spot k = turn_wholes_more k
reading_turn due.actuals_part spot k = turn_actuals_part k
reading_turn due.items_part spot k = turn_items_part k
reading_turn due.pairs_more spot k = turn_pairs_more k
reading_turn (due.segments_more kind) spot k = turn_segments_more kind k
reading_turn due.task_part spot k = turn_task_part k
reading_turn due.to_part spot k = turn_to_part k
reading_turn due.angle spot k = turn_angle spot k
reading_turn due.phrase spot k = turn_phrase k
reading_turn due.phrases_more spot k = turn_phrases_more k
reading_turn (statement d) spot k = turn_statement d spot k
reading_turn (due.behind_start n d) spot k = turn_behind_start n d k
reading_turn (due.else_part d) spot k = turn_else_part d k
reading_turn (due.stmts_more d) spot k = turn_stmts_more d k
reading_turn (due.declarations d) spot k = turn_declarations d k
reading_turn (due.typed kind d) spot k = turn_typed kind d spot k
reading_turn (due.procedure_body d) spot k = turn_procedure_body d spot k
reading_turn due.program spot k = turn_program spot k

-- so many tokens of the expression that stands in no other are read, or none is being read
pub data Count : Type 0 where
  outside : Count
  inside : ℕ → Count

abbrev pub full : Count → Bool
full outside = false
full (inside c) = nat_le MOST_EXPRESSION_TOKENS c

abbrev pub limit_counted : Limit → Count → Count
limit_counted (begun l) c = inside 1
limit_counted l outside = outside
limit_counted l (inside c) = inside (c + 1)

-- whether a token, and the one before it, have to keep the limits
pub record Judged : Type 0 where
  pub here : Bool
  pub before : Bool

-- a token opens a level too much
abbrev pub limit_broken : Limit → Judged → Bool
limit_broken plain j = false
limit_broken (nests d) j = nat_le MOST_NESTING d && j.here
limit_broken (label d spot) j = nat_le MOST_NESTING d && j.before
limit_broken (begun l) j = limit_broken l j

-- the place of the token that opens the level
abbrev pub broken_at : Limit → Spot → Spot
broken_at (label d before) spot = before
broken_at (begun l) spot = broken_at l spot
broken_at l spot = spot

-- what is due after a token, or why there is nothing
pub data ReadingStep : Type 0 where
  goes : Count → List Due → List Value → ReadingStep
  over : Count → List Value → ReadingStep  -- the token belongs to nothing that is due, and nothing has to come
  stops : Spot → Code → ReadingStep

abbrev pub unless : Bool → Spot → ReadingStep → ReadingStep
unless true spot x = stops spot codes.TooDeep
unless false spot x = x

abbrev pub stepped : Judged → Count → Spot → Turn → List Due → List Value → (Count → List Value → ReadingStep) → ReadingStep
stepped j c spot (takes l ds) due vs on = unless (full c && j.here) spot (unless (limit_broken l j) (broken_at l spot) (goes (limit_counted l c) (ds ++ due) vs))
stepped j c spot (makes m) due vs on = on c (m vs)
stepped j c spot skips due vs on = on c vs
stepped j c spot closes due vs on = on outside vs
stepped j c spot refuses due vs on = stops spot codes.Unexpected

abbrev pub step : Judged → List Due → Spot → TokenKind → Count → List Value → ReadingStep
step j [] spot k c vs = over c vs
step j (s ∷ due) spot k c vs = stepped j c spot (reading_turn s spot k) due vs (step j due spot k)

-- What reading what is due comes to: the tokens after it and the values; or the place and the reason of a refusal, and how many
-- tokens are left from the one that showed it on
pub data Reading : Type 0 where
  to : List Token → List Value → Reading
  refused : ℕ → Spot → Code → Reading
  cut_off : Reading

abbrev pub read_on : ReadingStep → Token → List Token → (Count → List Due → List Value → Reading) → Reading
read_on (goes c ds vs) t ts go = go c ds vs
read_on (over c vs) t ts go = to (t ∷ ts) vs
read_on (stops spot code) t ts go = refused (length (t ∷ ts)) spot code

-- where the tokens end, only what is optional may be due
abbrev pub read_end : ReadingStep → Reading
read_end (goes c ds vs) = cut_off
read_end (over c vs) = to [] vs
read_end (stops spot code) = cut_off

-- the first of these tokens, and the one before it, are not of the last `free` ones
abbrev pub judged : ℕ → List Token → Judged
judged free ts = record { here = nat_lt free (length ts); before = nat_lt free (length ts + 1) }

abbrev pub unjudged : Judged
unjudged = record { here = false; before = false }

abbrev pub nowhere : Spot
nowhere = record { line = 0; column = 0 }

unfoldable pub reading : ℕ → List Token → Count → List Due → List Value → Reading
reading free [] c due vs = read_end (step unjudged due nowhere kinds.End c vs)
reading free (t ∷ ts) c due vs = read_on (step (judged free (t ∷ ts)) due t.spot t.kind c vs) t ts (reading free ts)

-- where no expression is being read
abbrev pub read : ℕ → List Token → List Due → List Value → Reading
read free ts due vs = reading free ts outside due vs
