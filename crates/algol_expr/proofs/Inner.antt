-- What is due of an expression turns into what is due of it: no expression that stands in no other begins or ends within.
use Rattle.std.proofs.Common.{ℕ, Bool, true, false, List, [], ◌∷◌, ◌++◌, Option, Some, None}
use Rattle.algol_tree.specs.declared.token.Spot.{Spot}
use Rattle.algol_tree.specs.declared.token.TokenKind.{TokenKind}
use Rattle.algol_tree.specs.declared.token.TokenKind.TheVariants as kinds
use Rattle.algol_tree.specs.declared.token.Reserved.TheVariants as reserved
use Rattle.algol_tree.specs.declared.token.Symbol.TheVariants as symbols
use Rattle.algol_tree.specs.declared.level.Level.TheVariants as levels
use Rattle.algol_tree.specs.declared.tree.Op.{Op}
use Rattle.algol_tree.specs.Tokens.{is_word, is_symbol, is_spelled}
use Rattle.algol_tree.specs.Operators.{Part, expr, level, not_part, rel, primary, operator, relop}
use Rattle.algol_tree.specs.Due.{Due, make, word, symbol, spelled, part, more_of, relation, behind_name, exprs_more, opening, event, events_more, behind_event, plain, nests, Turn, takes, skips, closes, refuses, followed, either, optional}
use Rattle.algol_tree.specs.DueExpr.{is_sign, turn_event, turn_primary, turn_term, turn_sum, turn_rel, turn_not, turn_and, turn_or, turn_imp, turn_eqv, turn_expr, turn_part, on_with, related}
use Rattle.algol_tree.specs.Reading.{reading_turn}

-- it is of an expression
abbrev pub IsInner : Due → Type 0
IsInner (make m) = Unit {0}
IsInner (word w) = Unit {0}
IsInner (symbol s) = Unit {0}
IsInner (spelled n) = Unit {0}
IsInner (part p d) = Unit {0}
IsInner (more_of l d) = Unit {0}
IsInner (relation d) = Unit {0}
IsInner (behind_name n d) = Unit {0}
IsInner (exprs_more d) = Unit {0}
IsInner (opening s d) = Unit {0}
IsInner event = Unit {0}
IsInner events_more = Unit {0}
IsInner (behind_event n) = Unit {0}
IsInner s = ⊥

abbrev pub Inners : List Due → Type 0
Inners [] = Unit {0}
Inners (s ∷ due) = IsInner s × Inners due

pub inners_append : (a b : List Due) → Inners a → Inners b → Inners (a ++ b)
inners_append [] b x y = y
inners_append (s ∷ a) b x y = (x.0, inners_append a b x.1 y)

-- a turn within an expression
abbrev pub Stays : Turn → Type 0
Stays (takes plain ds) = Inners ds
Stays (takes (nests d) ds) = Inners ds
Stays (takes l ds) = ⊥
Stays closes = ⊥
Stays x = Unit {0}

followed_stays : (x : Turn) (more : List Due) → Stays x → Inners more → Stays (followed x more)
followed_stays (takes plain ds) more x y = inners_append ds more x y
followed_stays (takes (nests d) ds) more x y = inners_append ds more x y
followed_stays (takes l ds) more x y = absurd x
followed_stays closes more x y = absurd x
followed_stays x more y z = tt

either_stays : (b : Bool) (x y : Turn) → Stays x → Stays y → Stays (either b x y)
either_stays true x y p q = p
either_stays false x y p q = q

primary_stays : (d : ℕ) (spot : Spot) (k : TokenKind) → Stays (turn_primary d spot k)
primary_stays d spot (kinds.Number value) = (tt, tt)
primary_stays d spot (kinds.Word reserved.True) = (tt, tt)
primary_stays d spot (kinds.Word reserved.False) = (tt, tt)
primary_stays d spot (kinds.Word reserved.Happened) = (tt, (tt, (tt, (tt, tt))))
primary_stays d spot (kinds.Word reserved.Available) = (tt, (tt, (tt, (tt, tt))))
primary_stays d spot (kinds.Word reserved.Fix) = (tt, (tt, (tt, (tt, tt))))
primary_stays d spot (kinds.Word reserved.Wait) = (tt, (tt, (tt, (tt, (tt, (tt, (tt, tt)))))))
primary_stays d spot (kinds.Name name) = (tt, tt)
primary_stays d spot (kinds.Symbol symbols.OpenRound) = (tt, (tt, (tt, tt)))
primary_stays d spot k = tt

module _ (d : ℕ) (spot : Spot) (k : TokenKind) where
  term_stays : Stays (turn_term d spot k)
  term_stays = followed_stays (turn_primary d spot k) (more_of levels.Term d ∷ []) (primary_stays d spot k) (tt, tt)

  sum_stays : Stays (turn_sum d spot k)
  sum_stays = either_stays (is_sign k) _ _ (tt, (tt, (tt, tt))) (followed_stays (turn_term d spot k) (more_of levels.Sum d ∷ []) term_stays (tt, tt))

  rel_stays : Stays (turn_rel d spot k)
  rel_stays = followed_stays (turn_sum d spot k) (relation d ∷ []) sum_stays (tt, tt)

  not_stays : Stays (turn_not d spot k)
  not_stays = either_stays (is_word reserved.Not k) _ _ (tt, (tt, tt)) rel_stays

  and_stays : Stays (turn_and d spot k)
  and_stays = followed_stays (turn_not d spot k) (more_of levels.And d ∷ []) not_stays (tt, tt)

  or_stays : Stays (turn_or d spot k)
  or_stays = followed_stays (turn_and d spot k) (more_of levels.Or d ∷ []) and_stays (tt, tt)

  imp_stays : Stays (turn_imp d spot k)
  imp_stays = followed_stays (turn_or d spot k) (more_of levels.Imp d ∷ []) or_stays (tt, tt)

  eqv_stays : Stays (turn_eqv d spot k)
  eqv_stays = followed_stays (turn_imp d spot k) (more_of levels.Eqv d ∷ []) imp_stays (tt, tt)

  expr_stays : Stays (turn_expr d spot k)
  expr_stays = either_stays (is_word reserved.If k) _ _ (tt, (tt, (tt, (tt, (tt, (tt, tt)))))) eqv_stays

part_stays : (p : Part) (d : ℕ) (spot : Spot) (k : TokenKind) → Stays (turn_part p d spot k)
part_stays expr d spot k = expr_stays d spot k
part_stays (level levels.Eqv) d spot k = eqv_stays d spot k
part_stays (level levels.Imp) d spot k = imp_stays d spot k
part_stays (level levels.Or) d spot k = or_stays d spot k
part_stays (level levels.And) d spot k = and_stays d spot k
part_stays (level levels.Sum) d spot k = sum_stays d spot k
part_stays (level levels.Term) d spot k = term_stays d spot k
part_stays not_part d spot k = not_stays d spot k
part_stays rel d spot k = rel_stays d spot k
part_stays primary d spot k = primary_stays d spot k

optional_stays : (o : Option Op) (f : Op → List Due) → ((op : Op) → Inners (f op)) → Stays (optional o f skips)
optional_stays (Some op) f i = i op
optional_stays None f i = tt

event_stays : (spot : Spot) (k : TokenKind) → Stays (turn_event spot k)
event_stays spot (kinds.Name name) = (tt, tt)
event_stays spot k = tt

pub inner_stays : (s : Due) (spot : Spot) (k : TokenKind) → IsInner s → Stays (reading_turn s spot k)
inner_stays (make m) spot k i = tt
inner_stays (word w) spot k i = either_stays (is_word w k) (takes plain []) refuses tt tt
inner_stays (symbol s) spot k i = either_stays (is_symbol s k) (takes plain []) refuses tt tt
inner_stays (spelled n) spot k i = either_stays (is_spelled n k) (takes plain []) refuses tt tt
inner_stays (part p d) spot k i = part_stays p d spot k
inner_stays (more_of l d) spot k i = optional_stays (operator l k) (on_with l d) (λ op. (tt, (tt, (tt, tt))))
inner_stays (relation d) spot k i = optional_stays (relop k) (related d) (λ op. (tt, (tt, tt)))
inner_stays (behind_name n d) spot k i = either_stays (is_symbol symbols.OpenSquare k) _ _ (tt, (tt, (tt, (tt, (tt, (tt, tt))))))
    (either_stays (is_symbol symbols.OpenRound k) _ _ (tt, (tt, (tt, (tt, (tt, (tt, tt)))))) tt)
inner_stays (exprs_more d) spot k i = either_stays (is_symbol symbols.Comma k) _ _ (tt, (tt, (tt, tt))) tt
inner_stays (opening s d) spot k i = either_stays (is_symbol s k) (takes (nests d) []) refuses tt tt
inner_stays event spot k i = event_stays spot k
inner_stays events_more spot k i = either_stays (is_symbol symbols.Comma k) _ _ (tt, (tt, (tt, tt))) tt
inner_stays (behind_event n) spot k i = either_stays (is_symbol symbols.Period k) _ _ (tt, (tt, tt)) tt
inner_stays s spot k i = absurd i
