-- Declarations by the places of names, line by line and column by column.
use Rattle.std.specs.Prelude.{ℕ, ◌≤◌, List, [], length, Option, Some, None, slice_get}
use Rattle.std.specs.declared.alloc.Global.{Global}
use Rattle.std.specs.declared.vec.Vec.{Vec}
use Rattle.b67_list.specs.Numbered.{numbered}
use Rattle.algol_tree.specs.declared.token.Spot.{Spot}
use Rattle.algol_frames.specs.declared.by_line.ByLine.{ByLine}
use Rattle.algol_frames.specs.declared.scopes.Declared.{Declared}

abbrev pub line_items : Option (Vec ℕ Global) → List ℕ
line_items None = []
line_items (Some line) = line.items

abbrev pub number_or_zero : Option ℕ → ℕ
number_or_zero None = 0
number_or_zero (Some number) = number

-- what the line has in this column, 0 where it has none
abbrev pub number_in_column : List ℕ → ℕ → ℕ
number_in_column line column = number_or_zero (slice_get line column)

abbrev pub number_at_place : List (Vec ℕ Global) → Spot → ℕ
number_at_place lines spot = number_in_column (line_items (slice_get lines spot.line)) spot.column

-- the declaration with the number that stands there; declarations have numbers from 1 on
abbrev pub placed_in : ByLine → Spot → Option Declared
placed_in table spot = numbered table.declared.items (number_at_place table.lines.items spot)

-- Each number that stands somewhere is that of a declaration, or 0.
abbrev pub AreOfDeclared : ByLine → Type 0
AreOfDeclared table = (spot : Spot) → number_at_place table.lines.items spot ≤ length table.declared.items
