-- A name with the brackets after it: where expressions stand between them, as `exprs_tokens` counts these with a comma each, it is
-- one less.
use Rattle.std.specs.Prelude.{ℕ, ◌+◌, List, [], ◌∷◌}
use Rattle.algol_tree.specs.declared.tree.EventName.{EventName}
use Rattle.algol_tree.specs.Plain.{PExprs, none, more}
use Rattle.algol_tree.specs.Counts.{event_tokens}

abbrev pub levels_opened : PExprs → ℕ
levels_opened none = 1
levels_opened (more e es) = 2

-- events, each with the comma before it
abbrev pub further_events : List EventName → ℕ
further_events [] = 0
further_events (e ∷ es) = 1 + event_tokens e + further_events es
