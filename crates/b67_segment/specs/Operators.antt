-- Operators that stand one after another, each at a level: their syllables, their marks, and which stands where.
use Rattle.std.specs.Prelude.{◌≡◌, ℕ, ◌+◌, ◌-◌, ◌%◌, ◌≤◌, nat_eq, Bool, false, Option, Some, None, unwrap_or, List, [], ◌∷◌, ◌++◌, length, replicate, if◌then◌else◌}
use Rattle.b67_ops.specs.declared.TheConstants.{OUTER_LEVEL, MOST_LEVEL}
use Rattle.b67_ops.specs.declared.Operator.{Operator}
use Rattle.b67_ops.specs.declared.Operator.TheVariants.{Valc, Namc, Lt8, Lt16, Lt48, Mpcw, Branch, Plain}
use Rattle.b67_ops.specs.declared.PlainKind.TheVariants.{Noop}
use Rattle.b67_ops.specs.declared.table.OperatorKind.TheVariants as kinds
use Rattle.b67_ops.specs.Codes.{code_of}
use Rattle.b67_ops.specs.Spelling.{spelling, Fits}
use Rattle.b67_segment.specs.declared.code.Mark.{Mark}

-- an operator, and the level at which it stands
pub record Placed : Type 0 where
  pub level : ℕ
  pub operator : Operator

-- how many syllables it takes at a place
abbrev pub width : ℕ → Placed → ℕ
width at p = length (spelling at p.level p.operator)

-- the syllables of operators that stand one after another from this place on
abbrev pub text : ℕ → List Placed → List ℕ
text at [] = []
text at (p ∷ ps) = spelling at p.level p.operator ++ text (at + width at p) ps

-- how many syllables they are from the segment's start, and so the place after them
abbrev pub size : List Placed → ℕ
size ps = length (text 0 ps)

abbrev pub is_level : Option ℕ → ℕ → Bool
is_level None level = false
is_level (Some before) level = nat_eq before level

-- the marks of operators from this place on, after one of this level: one at each operator whose level differs from the one before
abbrev pub marks_after : ℕ → Option ℕ → List Placed → List Mark
marks_after at before [] = []
marks_after at before (p ∷ ps) =
    let rest = marks_after (at + width at p) (Some p.level) ps in
    if is_level before p.level then rest else (record { place = at; level = p.level } ∷ rest)

-- the marks of a segment's operators
abbrev pub marks_of : List Placed → List Mark
marks_of ps = marks_after 0 None ps

-- an operator fits the level at which it stands, which is that of a block
pub record IsFit (p : Placed) : Type 0 where
  pub outer : OUTER_LEVEL ≤ p.level
  pub known : p.level ≤ MOST_LEVEL
  pub fits : Fits p.level p.operator

abbrev pub AreFit : List Placed → Type 0
AreFit [] = Unit {0}
AreFit (p ∷ ps) = IsFit p × AreFit ps

-- among these operators, this one stands at this place and level, and next is the place after it
pub record StandsAmong (ps : List Placed) (at level : ℕ) (op : Operator) (next : ℕ) : Type 0 where
  pub before : List Placed
  pub after : List Placed
  pub parts : ps ≡ before ++ record { level = level; operator = op } ∷ after
  pub at_is : at ≡ size before
  pub next_is : next ≡ at + length (spelling at level op)

-- a branch goes to this place instead
abbrev pub aimed : ℕ → Operator → Operator
aimed target (Valc couple) = Valc couple
aimed target (Namc couple) = Namc couple
aimed target (Lt8 n) = Lt8 n
aimed target (Lt16 n) = Lt16 n
aimed target (Lt48 n) = Lt48 n
aimed target (Mpcw n) = Mpcw n
aimed target (Branch kind old) = Branch kind target
aimed target (Plain kind) = Plain kind

-- the same operators, but a branch at this place goes to that target
abbrev pub aimed_from : ℕ → ℕ → ℕ → List Placed → List Placed
aimed_from at place target [] = []
aimed_from at place target (p ∷ ps) =
    if nat_eq at place then (record { level = p.level; operator = aimed target p.operator } ∷ ps)
    else (p ∷ aimed_from (at + width at p) place target ps)

-- the level of the last operator, or the one before all of them
abbrev pub last_level : Option ℕ → List Placed → Option ℕ
last_level before [] = before
last_level before (p ∷ ps) = last_level (Some p.level) ps

-- how many syllables are missing to a whole word
abbrev pub missing : ℕ → ℕ
missing count = (6 - count % 6) % 6

-- the syllable that fills the last word: NOOP
abbrev pub filler : ℕ
filler = code_of (kinds.Plain Noop)

-- the operators of a segment: those that were appended, and as many NOOPs as fill the last word
abbrev pub filled : List Placed → List Placed
filled ps = ps ++ replicate (missing (size ps)) (record { level = unwrap_or (last_level None ps) 0; operator = Plain Noop })
