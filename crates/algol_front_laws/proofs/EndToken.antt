-- No part of a program that is due begins with the end of the text.
use Rattle.std.proofs.Common.{ℕ, List, [], ◌∷◌}
use Rattle.algol_tree.specs.declared.token.Spot.{Spot}
use Rattle.algol_tree.specs.declared.token.TokenKind.TheVariants as kinds
use Rattle.algol_tree.specs.declared.level.Level.{Level}
use Rattle.algol_tree.specs.declared.level.Level.TheVariants as levels
use Rattle.algol_tree.specs.Operators.{Part, expr, level, not_part, rel, primary}
use Rattle.algol_tree.specs.Due.{Value, Due, make, word, symbol, spelled, part, more_of, relation, behind_name, exprs_more, opening, event, events_more, behind_event, whole, whole_ends, named, names_more, printer_part, files_more, literal, number_negated, lows_more, values_part, spec, spec_typed, specs_more, behind_procedure, wholes_more, actuals_part, items_part, pairs_more, segments_more, task_part, to_part, angle, phrase, phrases_more, statement, behind_start, else_part, stmts_more, declarations, typed, procedure_body, program, Turn, takes, makes, skips, closes, refuses}
use Rattle.algol_tree.specs.Reading.{reading_turn, Count, outside, Judged, ReadingStep, goes, stepped, step}

abbrev TakesNone : Turn → Type 0
TakesNone (takes l ds) = ⊥
TakesNone x = Unit {0}

part_takes_none : (p : Part) (d : ℕ) (spot : Spot) → TakesNone (reading_turn (part p d) spot kinds.End)
part_takes_none expr d spot = tt
part_takes_none (level levels.Eqv) d spot = tt
part_takes_none (level levels.Imp) d spot = tt
part_takes_none (level levels.Or) d spot = tt
part_takes_none (level levels.And) d spot = tt
part_takes_none (level levels.Sum) d spot = tt
part_takes_none (level levels.Term) d spot = tt
part_takes_none not_part d spot = tt
part_takes_none rel d spot = tt
part_takes_none primary d spot = tt

more_takes_none : (l : Level) (d : ℕ) (spot : Spot) → TakesNone (reading_turn (more_of l d) spot kinds.End)
more_takes_none levels.Eqv d spot = tt
more_takes_none levels.Imp d spot = tt
more_takes_none levels.Or d spot = tt
more_takes_none levels.And d spot = tt
more_takes_none levels.Sum d spot = tt
more_takes_none levels.Term d spot = tt

takes_none : (s : Due) (spot : Spot) → TakesNone (reading_turn s spot kinds.End)
takes_none (make m) spot = tt
takes_none (word w) spot = tt
takes_none (symbol s) spot = tt
takes_none (spelled n) spot = tt
takes_none (part p d) spot = part_takes_none p d spot
takes_none (more_of l d) spot = more_takes_none l d spot
takes_none (relation d) spot = tt
takes_none (behind_name n d) spot = tt
takes_none (exprs_more d) spot = tt
takes_none events_more spot = tt
takes_none (opening s d) spot = tt
takes_none event spot = tt
takes_none (behind_event n) spot = tt
takes_none (whole d) spot = tt
takes_none whole_ends spot = tt
takes_none named spot = tt
takes_none names_more spot = tt
takes_none printer_part spot = tt
takes_none files_more spot = tt
takes_none literal spot = tt
takes_none number_negated spot = tt
takes_none lows_more spot = tt
takes_none values_part spot = tt
takes_none spec spot = tt
takes_none (spec_typed kind) spot = tt
takes_none specs_more spot = tt
takes_none (behind_procedure kind) spot = tt
takes_none wholes_more spot = tt
takes_none actuals_part spot = tt
takes_none items_part spot = tt
takes_none pairs_more spot = tt
takes_none (segments_more kind) spot = tt
takes_none task_part spot = tt
takes_none to_part spot = tt
takes_none angle spot = tt
takes_none phrase spot = tt
takes_none phrases_more spot = tt
takes_none (statement d) spot = tt
takes_none (behind_start n d) spot = tt
takes_none (else_part d) spot = tt
takes_none (stmts_more d) spot = tt
takes_none (declarations d) spot = tt
takes_none (typed kind d) spot = tt
takes_none (procedure_body d) spot = tt
takes_none program spot = tt

-- so no step goes over it
abbrev pub Halts : ReadingStep → Type 0
Halts (goes c ds vs) = ⊥
Halts x = Unit {0}

pub end_halts : (j : Judged) (due : List Due) (spot : Spot) (c : Count) (vs : List Value) → Halts (step j due spot kinds.End c vs)
end_halts j [] spot c vs = tt
end_halts j (s ∷ due) spot c vs = by_turn (reading_turn s spot kinds.End) (takes_none s spot) (λ c vs. end_halts j due spot c vs)
  where
    by_turn : (x : Turn) → TakesNone x → ((c : Count) (vs : List Value) → Halts (step j due spot kinds.End c vs)) →
        Halts (stepped j c spot x due vs (step j due spot kinds.End))
    by_turn (takes l ds) h more = absurd h
    by_turn (makes m) h more = more c (m vs)
    by_turn skips h more = more c vs
    by_turn closes h more = more outside vs
    by_turn refuses h more = tt
