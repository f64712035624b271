-- What a builder holds: the operators appended so far, each with its level, and the level that was set.
use Rattle.std.specs.Prelude.{◌*◌, ◌≡◌, ◌≢◌, ℕ, ◌<◌, zero, suc, ◌+◌, ◌≤◌, nat_eq, Option, Some, None, unwrap_or, Result, Ok, Err, List, [], ◌∷◌, ◌++◌, length, take, drop, if◌then◌else◌}
use Rattle.std.specs.Option.{ForSome}
use Rattle.std.specs.Int.{w16, to_be_bytes}
use Rattle.b67_segment.specs.declared.TheConstants.{MOST_SEGMENT_WORDS}
use Rattle.b67_ops.specs.declared.TheConstants.{OUTER_LEVEL, MOST_LEVEL}
use Rattle.b67_ops.specs.declared.Operator.{Operator}
use Rattle.b67_ops.specs.declared.Operator.TheVariants.{Branch}
use Rattle.b67_ops.specs.declared.BranchKind.{BranchKind}
use Rattle.b67_ops.specs.declared.BadCode.{BadCode}
use Rattle.b67_ops.specs.Spelling.{filling}
use Rattle.b67_ops.specs.Decoding.{front}
use Rattle.b67_segment.specs.declared.code.Mark.{Mark}
use Rattle.b67_segment.specs.Operators.{Placed, text, is_level, marks_of, AreFit, StandsAmong}

pub record Built : Type 0 where
  pub operators : List Placed
  pub level : Option ℕ

-- the level that was set last
abbrev pub level_set : Built → ℕ
level_set b = unwrap_or b.level 0

-- one more operator, at the level that was set
abbrev pub appended : Built → Operator → Built
appended b op = record b { operators = b.operators ++ record { level = level_set b; operator = op } ∷ [] }

-- the level at a place after operators of this level, and the marks that are left there
abbrev pub marked_level_at : ℕ → ℕ → List Mark → ℕ
marked_level_at at level [] = level
marked_level_at at level (m ∷ ms) = if nat_eq m.place at then m.level else level

abbrev pub marks_left : ℕ → List Mark → List Mark
marks_left at [] = []
marks_left at (m ∷ ms) = if nat_eq m.place at then ms else (m ∷ ms)

abbrev pub with_first : ℕ → Result (Operator × ℕ) BadCode → (ℕ → List Placed) → List Placed
with_first level (Ok found) rest = record { level = level; operator = found.0 } ∷ rest found.1
with_first level (Err e) rest = []

-- the operators, at most so many, that syllables spell from this place on, at this level or those that marks tell
unfoldable pub operators_from : ℕ → ℕ → ℕ → List Mark → List ℕ → List Placed
operators_from zero at level ms bytes = []
operators_from (suc most) at level ms bytes =
    let here = marked_level_at at level ms in
    with_first here (front (filling at) here bytes)
    (λ count. operators_from most (at + count) here (marks_left at ms) (drop count bytes))

-- the operators of syllables and marks
unfoldable pub operators_of : List ℕ → List Mark → List Placed
operators_of bytes ms = operators_from (length bytes) 0 0 ms bytes

-- these are the syllables and the marks of operators that fit
pub record Builds (ps : List Placed) (bytes : List ℕ) (ms : List Mark) : Type 0 where
  pub code : bytes ≡ text 0 ps
  pub marks : ms ≡ marks_of ps
  pub fit : AreFit ps
  pub room : length bytes ≤ 6 * MOST_SEGMENT_WORDS

-- the level that marks leave, after this one
abbrev pub level_marked : Option ℕ → List Mark → Option ℕ
level_marked before [] = before
level_marked before (m ∷ ms) = level_marked (Some m.level) ms

-- marks after one more operator at this place and level
abbrev pub marks_with : List Mark → ℕ → ℕ → List Mark
marks_with ms at level = if is_level (level_marked None ms) level then ms else (ms ++ record { place = at; level = level } ∷ [])

-- what a builder keeps: its syllables and marks are those of operators, and there is room for the next mark
pub record IsBuilt (bytes : List ℕ) (ms : List Mark) (level : Option ℕ) (room : ℕ) : Type 0 where
  pub builds : Builds (operators_of bytes ms) bytes ms
  pub known : ForSome level (λ l. (OUTER_LEVEL ≤ l) × (l ≤ MOST_LEVEL))
  pub marking : level_marked None ms ≢ level → 0 < room

-- a branch stands at this place
pub record IsBranchAt (ps : List Placed) (at : ℕ) : Type 0 where
  pub level : ℕ
  pub kind : BranchKind
  pub old : ℕ
  pub next : ℕ
  pub stands : StandsAmong ps at level (Branch kind old) next

-- code with the target of the branch at a place changed
abbrev pub spliced : List ℕ → ℕ → ℕ → List ℕ
spliced bytes at target = take (at + 1) bytes ++ to_be_bytes w16 target ++ drop (at + 3) bytes
