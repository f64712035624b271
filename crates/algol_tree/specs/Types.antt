-- The types of expressions. Each expression has one type, found from below; where a name is not what stands there, there is none.
use Rattle.std.specs.Prelude.{Option, Some, None}
use Rattle.b67_deeds.specs.declared.EventTest.{EventTest}
use Rattle.b67_deeds.specs.declared.EventTest.TheVariants as test
use Rattle.algol_tree.specs.declared.tree.Kind.{Kind}
use Rattle.algol_tree.specs.declared.tree.Kind.TheVariants as types
use Rattle.algol_tree.specs.declared.tree.Op.{Op}
use Rattle.algol_tree.specs.declared.tree.Op.TheVariants as ops
use Rattle.algol_tree.specs.Plain as tree
use Rattle.algol_tree.specs.Plain.{PExpr}
use Rattle.algol_tree.specs.Classes as class
use Rattle.algol_tree.specs.Classes.{Class}
use Rattle.algol_tree.specs.Surroundings.{Surroundings, class_of}

-- the type of what an operator gives
abbrev pub given_by : Op → Kind
given_by ops.Add = types.Number
given_by ops.Sub = types.Number
given_by ops.Mul = types.Number
given_by ops.Over = types.Number
given_by ops.Div = types.Number
given_by ops.Mod = types.Number
given_by _ = types.Truth

-- the type of its operands: relations compare numbers, EQV compares truth values
abbrev pub taken_by : Op → Kind
taken_by ops.And = types.Truth
taken_by ops.Or = types.Truth
taken_by ops.Imp = types.Truth
taken_by ops.Eqv = types.Truth
taken_by _ = types.Number

-- a name that is read: a simple variable or parameter, or a typed procedure, which is called
abbrev pub read_type : Class → Option Kind
read_type (class.simple kind) = Some kind
read_type (class.procedure h) = h.kind
read_type _ = None

abbrev pub element_type : Class → Option Kind
element_type (class.array kind subscripts) = Some kind
element_type _ = None

-- the result of a call
abbrev pub result_type : Class → Option Kind
result_type (class.procedure h) = h.kind
result_type _ = None

-- which of several events it is, is a number
abbrev pub told_by : EventTest → Kind
told_by test.Happened = types.Truth
told_by test.Available = types.Truth
told_by test.Fix = types.Truth
told_by test.WaitAny = types.Number

abbrev pub type_of : PExpr → Surroundings → Option Kind
type_of (tree.number z spot) a = Some types.Number
type_of (tree.truth b spot) a = Some types.Truth
type_of (tree.variable (tree.subscripted n tree.none)) a = read_type (class_of a n)
type_of (tree.variable (tree.subscripted n (tree.more e es))) a = element_type (class_of a n)
type_of (tree.call (tree.called n es)) a = result_type (class_of a n)
type_of (tree.tested test es spot) a = Some (told_by test)
type_of (tree.paren e spot) a = type_of e a
type_of (tree.plus e spot) a = Some types.Number
type_of (tree.neg e spot) a = Some types.Number
type_of (tree.not e spot) a = Some types.Truth
type_of (tree.two op x y) a = Some (given_by op)
type_of (tree.if c x y spot) a = type_of x a
