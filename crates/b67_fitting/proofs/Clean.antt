-- Parts of a tree at which no rule is broken, where the names that are known are specified.
use Rattle.std.proofs.Common.{◌≡◌, ◌⊎◌, inl, inr, ℕ, ◌==◌, ◌&&◌, not, Bool, true, false, List, [], ◌∷◌, ◌++◌, length, is_some, Option, Some, None, refl, ap, ◌∙◌, subst, if◌then◌else◌}
use Rattle.std.proofs.lemmas.Bool.{eqb-true}
use Rattle.std.specs.List.{AllByRecursion}
use Rattle.algol_tree.specs.declared.token.Spot.{Spot}
use Rattle.algol_tree.specs.declared.tree.Kind.{Kind}
use Rattle.algol_tree.specs.declared.tree.Kind.TheVariants as types
use Rattle.algol_tree.specs.declared.tree.Named.{Named}
use Rattle.algol_tree.specs.declared.tree.Heading.{Heading}
use Rattle.algol_tree.specs.Blocks.{Block}
use Rattle.algol_tree.specs.Cells.{first_spot}
use Rattle.algol_tree.specs.Checks.{wrong_types, not_assignable, is_function}
use Rattle.algol_tree.specs.Classes as class
use Rattle.algol_tree.specs.Classes.{Class, same_kind, is_task, is_event, is_label, is_array, is_procedure, is_unspecified}
use Rattle.algol_tree.specs.Counted.{wrong_counts, bad_lists, wide_lines}
use Rattle.algol_tree.specs.Names.{if_so, unknown_names, declared_twice}
use Rattle.algol_tree.specs.Plain as tree
use Rattle.algol_tree.specs.Plain.{PExpr, PExprs}
use Rattle.algol_tree.specs.Sites.{Site}
use Rattle.algol_tree.specs.Sorts.{Declared, look_up}
use Rattle.algol_tree.specs.Surroundings.{Surroundings, class_of, class_of_declared, declared_as}
use Rattle.algol_tree.specs.Types.{read_type, type_of}
use Rattle.b67_list.proofs.Lists.{append_none_left, empty_if_none}
use Rattle.b67_fitting.specs.Typing.{HeadingSpecified, IsEventful}

pub record IsClean (blocks : List Block) (x : Site) : Type 0 where
  pub known : unknown_names x ≡ []
  pub once : declared_twice blocks x ≡ []
  pub typed : wrong_types blocks x ≡ []
  pub assigned : not_assignable blocks x ≡ []
  pub counted : wrong_counts x ≡ []
  pub lined : bad_lists x ≡ []
  pub narrow : wide_lines x ≡ []

abbrev pub AreClean : List Block → List Site → Type 0
AreClean blocks xs = AllByRecursion (IsClean blocks) xs

-- what a name is
pub data IsPlain : Class → Type 0 where
  simple : (kind : Kind) → IsPlain (class.simple kind)
  array : (kind : Kind) (rank : ℕ) → IsPlain (class.array kind rank)
  file : IsPlain class.file
  label : IsPlain class.label
  event : IsPlain class.event
  task : IsPlain class.task
  procedure : (h : Heading) → HeadingSpecified h → IsPlain (class.procedure h)

pub record KnowsPlain (a : Surroundings) : Type 0 where
  pub each : (name : List ℕ) (d : Declared) → look_up a.known name ≡ Some d → IsPlain d.class

-- ---- names

class_from : (a : Surroundings) → KnowsPlain a → (n : Named) (o : Option Declared) → look_up a.known n.name ≡ o → if_so (not (is_some o)) n.spot ≡ [] → IsPlain (class_of_declared o)
class_from a k n None e h = absurd (let clash : n.spot ∷ [] ≡ [] = h in cc)
class_from a k n (Some d) e h = k.each n.name d e

pub plain_name : (a : Surroundings) → KnowsPlain a → (n : Named) → if_so (not (is_some (declared_as a n))) n.spot ≡ [] → IsPlain (class_of a n)
plain_name a k n h = class_from a k n (declared_as a n) refl h

-- the name of a use only, or of the first of a part
pub plain_first : (a : Surroundings) → KnowsPlain a → (n : Named) (more : List Spot) → if_so (not (is_some (declared_as a n))) n.spot ++ more ≡ [] → IsPlain (class_of a n)
plain_first a k n more h = plain_name a k n (append_none_left (if_so (not (is_some (declared_as a n))) n.spot) more h)

abbrev pub misnamed : (Class → Bool) → Class → Spot → List Spot
misnamed test c spot = if_so (not (test c) && not (is_unspecified c)) spot

-- a name that stands for a label is one
pub label_of : (c : Class) (spot : Spot) → IsPlain c → misnamed is_label c spot ≡ [] → c ≡ class.label
label_of c spot label h = refl
label_of c spot (simple kind) h = absurd (let clash : spot ∷ [] ≡ [] = h in cc)
label_of c spot (array kind rank) h = absurd (let clash : spot ∷ [] ≡ [] = h in cc)
label_of c spot file h = absurd (let clash : spot ∷ [] ≡ [] = h in cc)
label_of c spot event h = absurd (let clash : spot ∷ [] ≡ [] = h in cc)
label_of c spot task h = absurd (let clash : spot ∷ [] ≡ [] = h in cc)
label_of c spot (procedure g b) h = absurd (let clash : spot ∷ [] ≡ [] = h in cc)

pub event_alone : (c : Class) (spot : Spot) → IsPlain c → misnamed is_event c spot ≡ [] → c ≡ class.event
event_alone c spot event h = refl
event_alone c spot (simple kind) h = absurd (let clash : spot ∷ [] ≡ [] = h in cc)
event_alone c spot (array kind rank) h = absurd (let clash : spot ∷ [] ≡ [] = h in cc)
event_alone c spot file h = absurd (let clash : spot ∷ [] ≡ [] = h in cc)
event_alone c spot label h = absurd (let clash : spot ∷ [] ≡ [] = h in cc)
event_alone c spot task h = absurd (let clash : spot ∷ [] ≡ [] = h in cc)
event_alone c spot (procedure g b) h = absurd (let clash : spot ∷ [] ≡ [] = h in cc)

pub task_alone : (c : Class) (spot : Spot) → IsPlain c → misnamed is_task c spot ≡ [] → c ≡ class.task
task_alone c spot task h = refl
task_alone c spot (simple kind) h = absurd (let clash : spot ∷ [] ≡ [] = h in cc)
task_alone c spot (array kind rank) h = absurd (let clash : spot ∷ [] ≡ [] = h in cc)
task_alone c spot file h = absurd (let clash : spot ∷ [] ≡ [] = h in cc)
task_alone c spot label h = absurd (let clash : spot ∷ [] ≡ [] = h in cc)
task_alone c spot event h = absurd (let clash : spot ∷ [] ≡ [] = h in cc)
task_alone c spot (procedure g b) h = absurd (let clash : spot ∷ [] ≡ [] = h in cc)

pub eventful_of : (task : Bool) (c : Class) (spot : Spot) → IsPlain c → (if task then misnamed is_task c spot else misnamed is_event c spot) ≡ [] → IsEventful c
eventful_of true c spot p h = inr (task_alone c spot p h)
eventful_of false c spot p h = inl (event_alone c spot p h)

-- a name that is read is a simple variable or a typed procedure
abbrev pub IsRead : Class → Kind → Type 0
IsRead c k = (c ≡ class.simple k) ⊎ ((h : Heading) × (c ≡ class.procedure h) × (h.kind ≡ Some k))

some_kind : (o : Option Kind) (spot : Spot) → if_so (not (is_some o) && true) spot ≡ [] → (k : Kind) × (o ≡ Some k)
some_kind None spot h = absurd (let clash : spot ∷ [] ≡ [] = h in cc)
some_kind (Some k) spot h = (k, refl)

pub read_kind : (c : Class) (spot : Spot) → IsPlain c → misnamed (λ d. is_some (read_type d)) c spot ≡ [] → (k : Kind) × IsRead c k
read_kind c spot (simple kind) h = (kind, inl refl)
read_kind c spot (array kind rank) h = absurd (let clash : spot ∷ [] ≡ [] = h in cc)
read_kind c spot file h = absurd (let clash : spot ∷ [] ≡ [] = h in cc)
read_kind c spot label h = absurd (let clash : spot ∷ [] ≡ [] = h in cc)
read_kind c spot event h = absurd (let clash : spot ∷ [] ≡ [] = h in cc)
read_kind c spot task h = absurd (let clash : spot ∷ [] ≡ [] = h in cc)
read_kind c spot (procedure g e) h =
    let r = some_kind g.kind spot h in
    (r.0, inr (g, refl, r.1))

pub read_as : (c : Class) (k : Kind) → IsRead c k → read_type c ≡ Some k
read_as c k (inl e) = ap read_type e
read_as c k (inr p) = ap read_type p.1 ∙ p.2

-- a procedure that is called has as many actuals as parameters
abbrev pub takes_others : Class → ℕ → Bool
takes_others (class.procedure h) count = not (length h.params == count)
takes_others _ count = false

pub as_many : (c : Class) (h : Heading) (count : ℕ) (spot : Spot) → c ≡ class.procedure h → if_so (takes_others c count) spot ≡ [] → length h.params ≡ count
as_many c h count spot e g = by (length h.params == count) refl (subst (λ (d : Class). if_so (takes_others d count) spot ≡ []) e g)
  where
    by : (b : Bool) → (length h.params == count) ≡ b → if_so (not b) spot ≡ [] → length h.params ≡ count
    by true f k = eqb-true (length h.params) count f
    by false f k = absurd (let clash : spot ∷ [] ≡ [] = k in cc)

-- .. also a typed one whose name is read
pub none_taken : (c : Class) (h : Heading) (k : Kind) (spot : Spot) → c ≡ class.procedure h → h.kind ≡ Some k → if_so (is_function c && takes_others c 0) spot ≡ [] → h.params ≡ []
none_taken c h k spot e f g =
    let typed : if_so (is_some h.kind && takes_others (class.procedure h) 0) spot ≡ [] = subst (λ (d : Class). if_so (is_function d && takes_others d 0) spot ≡ []) e g in
    empty_if_none h.params (as_many (class.procedure h) h 0 spot refl (subst (λ (o : Option Kind). if_so (is_some o && takes_others (class.procedure h) 0) spot ≡ []) f typed))

-- the name of a typed procedure
pub record IsTyped (c : Class) : Type 0 where
  pub heading : Heading
  pub class_is : c ≡ class.procedure heading
  pub built : HeadingSpecified heading
  pub kind : Kind
  pub kind_is : heading.kind ≡ Some kind

pub function_of : (c : Class) (spot : Spot) → IsPlain c → misnamed is_function c spot ≡ [] → IsTyped c
function_of c spot (simple kind) h = absurd (let clash : spot ∷ [] ≡ [] = h in cc)
function_of c spot (array kind rank) h = absurd (let clash : spot ∷ [] ≡ [] = h in cc)
function_of c spot file h = absurd (let clash : spot ∷ [] ≡ [] = h in cc)
function_of c spot label h = absurd (let clash : spot ∷ [] ≡ [] = h in cc)
function_of c spot event h = absurd (let clash : spot ∷ [] ≡ [] = h in cc)
function_of c spot task h = absurd (let clash : spot ∷ [] ≡ [] = h in cc)
function_of c spot (procedure g b) h =
    let r = some_kind g.kind spot h in
    record { heading = g; class_is = refl; built = b; kind = r.0; kind_is = r.1 }

-- a name that is called is that of a procedure
pub call_of : (c : Class) (spot : Spot) → IsPlain c → misnamed is_procedure c spot ≡ [] → (h : Heading) × (c ≡ class.procedure h) × HeadingSpecified h
call_of c spot (simple kind) h = absurd (let clash : spot ∷ [] ≡ [] = h in cc)
call_of c spot (array kind rank) h = absurd (let clash : spot ∷ [] ≡ [] = h in cc)
call_of c spot file h = absurd (let clash : spot ∷ [] ≡ [] = h in cc)
call_of c spot label h = absurd (let clash : spot ∷ [] ≡ [] = h in cc)
call_of c spot event h = absurd (let clash : spot ∷ [] ≡ [] = h in cc)
call_of c spot task h = absurd (let clash : spot ∷ [] ≡ [] = h in cc)
call_of c spot (procedure g e) h = (g, refl, e)

-- one that is started is that of a procedure without a result
abbrev pub is_untyped : Class → Bool
is_untyped c = is_procedure c && not (is_some (read_type c))

no_kind : (o : Option Kind) (spot : Spot) → if_so (not (true && not (is_some o)) && true) spot ≡ [] → o ≡ None
no_kind None spot h = refl
no_kind (Some k) spot h = absurd (let clash : spot ∷ [] ≡ [] = h in cc)

-- the name of such a procedure
pub record IsUntyped (c : Class) : Type 0 where
  pub heading : Heading
  pub class_is : c ≡ class.procedure heading
  pub built : HeadingSpecified heading
  pub kind_is : heading.kind ≡ None

pub untyped_of : (c : Class) (spot : Spot) → IsPlain c → misnamed is_untyped c spot ≡ [] → IsUntyped c
untyped_of c spot (simple kind) h = absurd (let clash : spot ∷ [] ≡ [] = h in cc)
untyped_of c spot (array kind rank) h = absurd (let clash : spot ∷ [] ≡ [] = h in cc)
untyped_of c spot file h = absurd (let clash : spot ∷ [] ≡ [] = h in cc)
untyped_of c spot label h = absurd (let clash : spot ∷ [] ≡ [] = h in cc)
untyped_of c spot event h = absurd (let clash : spot ∷ [] ≡ [] = h in cc)
untyped_of c spot task h = absurd (let clash : spot ∷ [] ≡ [] = h in cc)
untyped_of c spot (procedure g b) h = record { heading = g; class_is = refl; built = b; kind_is = no_kind g.kind spot h }

-- a name with subscripts is that of an array, which has as many of them as it has bounds
pub array_of : (c : Class) (spot : Spot) → IsPlain c → misnamed is_array c spot ≡ [] → (k : Kind) × (rank : ℕ) × (c ≡ class.array k rank)
array_of c spot (simple kind) h = absurd (let clash : spot ∷ [] ≡ [] = h in cc)
array_of c spot (array kind rank) h = (kind, rank, refl)
array_of c spot file h = absurd (let clash : spot ∷ [] ≡ [] = h in cc)
array_of c spot label h = absurd (let clash : spot ∷ [] ≡ [] = h in cc)
array_of c spot event h = absurd (let clash : spot ∷ [] ≡ [] = h in cc)
array_of c spot task h = absurd (let clash : spot ∷ [] ≡ [] = h in cc)
array_of c spot (procedure g b) h = absurd (let clash : spot ∷ [] ≡ [] = h in cc)

abbrev pub has_others : Class → ℕ → Bool
has_others (class.array kind rank) count = not (rank == count)
has_others _ count = false

same_count : (b : Bool) (m n : ℕ) (spot : Spot) → (m == n) ≡ b → if_so (not b) spot ≡ [] → m ≡ n
same_count true m n spot e h = eqb-true m n e
same_count false m n spot e h = absurd (let clash : spot ∷ [] ≡ [] = h in cc)

pub subscripts_as_many : (c : Class) (k : Kind) (rank count : ℕ) (spot : Spot) → c ≡ class.array k rank → if_so (has_others c count) spot ≡ [] → c ≡ class.array k count
subscripts_as_many c k rank count spot e h =
    let same : rank ≡ count = same_count (rank == count) rank count spot refl (subst (λ (d : Class). if_so (has_others d count) spot ≡ []) e h) in
    e ∙ ap (class.array k) same

-- ---- kinds

abbrev pub differs : Kind → Option Kind → Bool
differs k None = false
differs k (Some m) = not (same_kind k m)

abbrev pub wrong : Kind → PExpr → Surroundings → List Spot
wrong k e a = if_so (differs k (type_of e a)) (first_spot e)

abbrev pub wrong_for : Option Kind → PExpr → Surroundings → List Spot
wrong_for None e a = []
wrong_for (Some k) e a = wrong k e a

abbrev pub wrong_list : Kind → PExprs → Surroundings → List Spot
wrong_list k tree.none a = []
wrong_list k (tree.more e es) a = wrong k e a ++ wrong_list k es a

same_kinds : (m k : Kind) (spot : Spot) → if_so (not (same_kind m k)) spot ≡ [] → k ≡ m
same_kinds types.Number types.Number spot h = refl
same_kinds types.Truth types.Truth spot h = refl
same_kinds types.Number types.Truth spot h = absurd (let clash : spot ∷ [] ≡ [] = h in cc)
same_kinds types.Truth types.Number spot h = absurd (let clash : spot ∷ [] ≡ [] = h in cc)

pub kind_wanted : (m k : Kind) (e : PExpr) (a : Surroundings) → type_of e a ≡ Some k → wrong m e a ≡ [] → k ≡ m
kind_wanted m k e a t h = same_kinds m k (first_spot e) (subst (λ (z : Option Kind). if_so (differs m z) (first_spot e) ≡ []) t h)

pub wrong_if : (k : Kind) (o : Option Kind) (e : PExpr) (a : Surroundings) → o ≡ Some k → wrong_for o e a ≡ [] → wrong k e a ≡ []
wrong_if k o e a t h = subst (λ (z : Option Kind). wrong_for z e a ≡ []) t h
