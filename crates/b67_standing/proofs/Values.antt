-- The kinds of values: what an operator gives, what an implication takes, a literal.
use Rattle.std.proofs.Common.{◌≡◌, refl, ap, subst, ℕ, arith, Bool, true, List, [], ◌∷◌, ◌++◌, Option, Some, None}
use Rattle.std.proofs.lemmas.Int.{ints}
use Rattle.std.specs.Prelude.{ℤ, pos, ◌-ℤ◌, int_lt, if◌then◌else◌, is_some, Result, Ok, Err}
use Rattle.algol_tree.specs.declared.tree.Op.{Op}
use Rattle.algol_tree.specs.declared.tree.Op.TheVariants as operators
use Rattle.algol_tree.specs.declared.tree.Kind.{Kind}
use Rattle.algol_tree.specs.declared.tree.Kind.TheVariants as types
use Rattle.algol_tree.specs.declared.tree.Named.{Named}
use Rattle.algol_tree.specs.Plain as tree
use Rattle.algol_tree.specs.Plain.{PExpr, PExprs, name_alone}
use Rattle.algol_tree.specs.Sorts.{Sort, is_formal, is_variable, is_by_name, procedure_in}
use Rattle.algol_tree.specs.Sorts as sorts
use Rattle.algol_tree.specs.Scopes.{Scopes}
use Rattle.algol_tree.specs.Types.{given_by, taken_by}
use Rattle.b67_num.specs.declared.NumFault.{NumFault}
use Rattle.b67_num.specs.declared.Calculation.TheVariants as calculation
use Rattle.b67_num.specs.Whole.{calculated, negation_of}
use Rattle.b67_num.proofs.WholeLaws.{calculated_fits, negation_of_fits}
use Rattle.algol_meaning.specs.Value.{Value, number, truth, whole_of}
use Rattle.algol_meaning.specs.Operators.{numeric, logical, result_of}
use Rattle.algol_meaning.specs.Rest.{own, Given, refers, names, val, busy, read, enter, HalfGiven, resolve, at, aims}
use Rattle.algol_meaning.specs.Settle.{named_of, alone_of, left_alone_of, sort_at, other_of, settle}
use Rattle.b67_templates.specs.Fragments.{IsWholeNumber, HasKind, is_implication}
use Rattle.b67_templates.specs.Cells.{by_name, Actual, own_actual}
use Rattle.b67_templates.specs.Code.{literal_of}

-- what has the kind of numbers is one
pub number_is : (v : Value) → HasKind types.Number v → v ≡ number (whole_of v)
number_is (number z) h = refl
number_is (truth b) h = absurd h

pub number_whole : (v : Value) → HasKind types.Number v → IsWholeNumber (whole_of v)
number_whole (number z) h = h
number_whole (truth b) h = absurd h

ok_is : (r : Result Value NumFault) {a b : Value} → r ≡ Ok a → r ≡ Ok b → a ≡ b
ok_is r e f = cc

numeric_whole : (r : Result ℤ NumFault) (x : Value) → ((z : ℤ) → r ≡ Ok z → IsWholeNumber z) → numeric r ≡ Ok x → HasKind types.Number x
numeric_whole (Ok z) x h e = subst (HasKind types.Number) (ok_is (numeric (Ok z)) refl e) (h z refl)
numeric_whole (Err fault) x h e = cc

logical_kind : (b : Bool) (x : Value) → logical b ≡ Ok x → HasKind types.Truth x
logical_kind b x e = subst (HasKind types.Truth) (ok_is (logical b) refl e) tt

-- the result of an operator is of its kind
pub result_kind : (op : Op) (v w x : Value) → result_of op v w ≡ Ok x → HasKind (given_by op) x
result_kind operators.Add v w x e = numeric_whole (calculated calculation.Sum (whole_of v) (whole_of w)) x (calculated_fits calculation.Sum (whole_of v) (whole_of w)) e
result_kind operators.Sub v w x e = numeric_whole (calculated calculation.Difference (whole_of v) (whole_of w)) x (calculated_fits calculation.Difference (whole_of v) (whole_of w)) e
result_kind operators.Mul v w x e = numeric_whole (calculated calculation.Product (whole_of v) (whole_of w)) x (calculated_fits calculation.Product (whole_of v) (whole_of w)) e
result_kind operators.Over v w x e = numeric_whole (calculated calculation.WholeQuotient (whole_of v) (whole_of w)) x (calculated_fits calculation.WholeQuotient (whole_of v) (whole_of w)) e
result_kind operators.Div v w x e = numeric_whole (calculated calculation.TruncatedQuotient (whole_of v) (whole_of w)) x (calculated_fits calculation.TruncatedQuotient (whole_of v) (whole_of w)) e
result_kind operators.Mod v w x e = numeric_whole (calculated calculation.Remainder (whole_of v) (whole_of w)) x (calculated_fits calculation.Remainder (whole_of v) (whole_of w)) e
result_kind operators.Lss v w x e = logical_kind _ x e
result_kind operators.Leq v w x e = logical_kind _ x e
result_kind operators.Eql v w x e = logical_kind _ x e
result_kind operators.Neq v w x e = logical_kind _ x e
result_kind operators.Geq v w x e = logical_kind _ x e
result_kind operators.Gtr v w x e = logical_kind _ x e
result_kind operators.And v w x e = logical_kind _ x e
result_kind operators.Or v w x e = logical_kind _ x e
result_kind operators.Imp v w x e = logical_kind _ x e
result_kind operators.Eqv v w x e = logical_kind _ x e

pub negation_whole : (z : ℤ) → IsWholeNumber z → IsWholeNumber (negation_of z)
negation_whole z h = negation_of_fits z h

-- a count that is above 0 is whole without one turn too
pub less_whole : (z : ℤ) → IsWholeNumber z → int_lt (pos 0) z ≡ true → IsWholeNumber (z -ℤ pos 1)
less_whole z h e = omega (arith, ints)

pub implication_takes : (op : Op) → is_implication op ≡ true → taken_by op ≡ types.Truth
implication_takes operators.Imp e = refl
implication_takes _ e = cc

-- a variable has no action but its reading, a procedure none but its entry, and a variable's name by itself is a place
pub variable_reads : (s : Sort) (n : Named) → is_variable s ≡ true → named_of (procedure_in s) n ≡ busy (read n)
variable_reads sorts.variable n e = refl
variable_reads _ n e = cc

pub procedure_enters : (s : Sort) (n : Named) (callee : ℕ) → s ≡ sorts.procedure callee → named_of (procedure_in s) n ≡ busy (enter n [])
procedure_enters s n callee e = ap (λ t. named_of (procedure_in t) n) e

pub formal_reads : (s : Sort) (n : Named) → s ≡ sorts.by_name → named_of (procedure_in s) n ≡ busy (read n)
formal_reads s n e = ap (λ t. named_of (procedure_in t) n) e

pub variable_place : (s : Sort) (n : Named) → is_variable s ≡ true → left_alone_of (is_by_name s) n ≡ at (own n)
variable_place sorts.variable n e = refl
variable_place _ n e = cc

-- a parameter's is resolved
pub formal_resolves : (s : Sort) (n : Named) → s ≡ sorts.by_name → left_alone_of (is_by_name s) n ≡ aims (resolve n)
formal_resolves s n e = ap (λ t. left_alone_of (is_by_name t) n) e

-- as an actual that is not by value a variable's name stands for the variable, and what has a cell for that
pub variable_refers : (s : Sort) (gs : List Given) (n : Named) (more : List Sort) (es : PExprs) (go_on : List Given → HalfGiven) → is_variable s ≡ true →
    alone_of (procedure_in s) (is_formal s) gs n more es go_on ≡ go_on (gs ++ refers n ∷ [])
variable_refers sorts.variable gs n more es go_on e = refl
variable_refers _ gs n more es go_on e = cc

some_procedure : (o : Option ℕ) (formal : Bool) (gs : List Given) (n : Named) (more : List Sort) (es : PExprs) (go_on : List Given → HalfGiven) (a : Actual) →
    (if is_some o then a ∷ [] else []) ≡ a ∷ [] → alone_of o formal gs n more es go_on ≡ go_on (gs ++ names (tree.variable (tree.subscripted n tree.none)) ∷ [])
some_procedure (Some block) formal gs n more es go_on a e = refl
some_procedure None formal gs n more es go_on a e = cc

pub own_names : (sc : Scopes) (e : PExpr) (kind : Kind) (gs : List Given) (more : List Sort) (es : PExprs) (go_on : List Given → HalfGiven) →
    own_actual sc (by_name kind) e ≡ record { expr = e; kind = kind } ∷ [] → other_of sc (name_alone e) e gs more es go_on ≡ go_on (gs ++ names e ∷ [])
own_names sc (tree.variable (tree.subscripted n tree.none)) kind gs more es go_on has =
    some_procedure (procedure_in (sort_at sc n)) (is_formal (sort_at sc n)) gs n more es go_on (record { expr = tree.variable (tree.subscripted n tree.none); kind = kind }) has
own_names sc _ kind gs more es go_on has = refl

some_is : {a b : ℤ} → Some a ≡ Some b → a ≡ b
some_is e = cc

-- a literal settles to its number
pub literal_settles : (sc : Scopes) (e : PExpr) (z : ℤ) → literal_of e ≡ Some z → settle sc e ≡ val (number z)
literal_settles sc (tree.number y spot) z h = ap (λ z. val (number z)) (some_is h)
literal_settles sc (tree.neg (tree.number y spot) sign) z h = ap (λ z. val (number z)) (some_is h)
literal_settles sc _ z h = cc
