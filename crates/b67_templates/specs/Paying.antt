-- How many syllables the code of an expression has where it stands, and how many that of the actuals in it which have cells: so the two together
-- are paid by the tokens, although an actual with subscripts has its code twice.
use Rattle.std.specs.Prelude.{ℕ, ◌+◌, ◌*◌, ◌≤◌, ◌&&◌, not, if◌then◌else◌, Bool, true, false, List, [], ◌∷◌, length, Option, Some, None, slice_get}
use Rattle.algol_tree.specs.Plain as tree
use Rattle.algol_tree.specs.Plain.{PExpr, PExprs}
use Rattle.algol_tree.specs.Counts.{expr_tokens}
use Rattle.b67_templates.specs.Cells.{has_place}
use Rattle.b67_templates.specs.Fitting.{Meant, a_variable, a_name, a_procedure, Told}

-- of each parameter of a procedure, whether it is by name
abbrev pub modes_of : Meant → List Bool
modes_of (a_procedure modes) = modes
modes_of _ = []

abbrev pub if_known : Option Bool → Bool
if_known None = false
if_known (Some mode) = mode

-- the parameter with this number is by name
abbrev pub mode_at : Meant → ℕ → Bool
mode_at m number = if_known (slice_get (modes_of m) number)

-- a name of that stands for itself where it is given for a parameter by name
abbrev pub stands : Meant → Bool
stands a_variable = true
stands a_name = true
stands _ = false

-- the code of an actual with its RETN, where it is subscripted that of its place, too
abbrev pub routine_code : Bool → ℕ → ℕ
routine_code true inline = 2 * inline + 5
routine_code false inline = inline + 1

-- .. and the control word
abbrev pub routine_syllables : Bool → ℕ → ℕ
routine_syllables place inline = 12 + routine_code place inline

-- what is given for a parameter, by name or not
abbrev pub given_syllables : Bool → ℕ → ℕ
given_syllables true inline = 3
given_syllables false inline = inline

module _ (told : Told) where
  -- what is given for a parameter by name has a cell, unless it is a variable or a parameter by itself
  abbrev pub actual_has_cell : PExpr → Bool
  actual_has_cell (tree.variable (tree.subscripted n tree.none)) = not (stands (told.meant n.spot))
  actual_has_cell e = true

  abbrev pub own_routine : Bool → PExpr → ℕ → ℕ
  own_routine mode e inline = if mode && actual_has_cell e then routine_syllables (has_place e) inline else 0

  abbrev mutual
    pub inline : PExpr → ℕ
    inline (tree.variable (tree.subscripted n (tree.more e es))) = 36 + inline e + inline_all es
    inline (tree.call (tree.called n es)) = 12 + inline_given (modes_of (told.meant n.spot)) es
    inline (tree.tested t es spot) = 4 + 2 * length es
    inline (tree.paren e spot) = inline e
    inline (tree.plus e spot) = inline e
    inline (tree.neg e spot) = 12 + inline e
    inline (tree.not e spot) = 12 + inline e
    inline (tree.two op x y) = 12 + inline x + inline y
    inline (tree.if c x y spot) = 12 + inline c + inline x + inline y
    inline _ = 12

    pub inline_all : PExprs → ℕ
    inline_all tree.none = 0
    inline_all (tree.more e es) = 12 + inline e + inline_all es

    pub inline_given : List Bool → PExprs → ℕ
    inline_given modes tree.none = 0
    inline_given [] (tree.more e es) = inline e + inline_given [] es
    inline_given (mode ∷ modes) (tree.more e es) = given_syllables mode (inline e) + inline_given modes es

  abbrev mutual
    pub routines : PExpr → ℕ
    routines (tree.variable (tree.subscripted n es)) = routines_all es
    routines (tree.call (tree.called n es)) = routines_given (modes_of (told.meant n.spot)) es
    routines (tree.paren e spot) = routines e
    routines (tree.plus e spot) = routines e
    routines (tree.neg e spot) = routines e
    routines (tree.not e spot) = routines e
    routines (tree.two op x y) = routines x + routines y
    routines (tree.if c x y spot) = routines c + routines x + routines y
    routines _ = 0

    pub routines_all : PExprs → ℕ
    routines_all tree.none = 0
    routines_all (tree.more e es) = routines e + routines_all es

    pub routines_given : List Bool → PExprs → ℕ
    routines_given modes tree.none = 0
    routines_given [] (tree.more e es) = routines e + routines_given [] es
    routines_given (mode ∷ modes) (tree.more e es) = own_routine mode e (inline e) + routines e + routines_given modes es

-- the tokens of an expression pay for its code in place twice, as where it is the step of a FOR, and for that of its actuals once
abbrev pub TokensPay : Type 0
TokensPay = (told : Told) (e : PExpr) → 2 * inline told e + routines told e ≤ 24 * expr_tokens e
