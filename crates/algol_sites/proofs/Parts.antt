-- What the rules say of each form of expression, as the walk notes it.
use Rattle.std.proofs.Common.{rules, ◌≡◌, ℕ, ◌+◌, Bool, true, false, List, [], ◌∷◌, ◌++◌, length, Option, Some, None, refl, ap, sym, ◌∙◌, arith, append-nil}
use Rattle.std.proofs.lemmas.List.{map-append}
use Rattle.std.specs.Prelude.{◌&&◌, if◌then◌else◌, not}
use Rattle.std.specs.List.{flat_map}
use Rattle.algol_tree.specs.declared.token.Spot.{Spot}
use Rattle.algol_tree.specs.declared.refusal.Fault.{Fault}
use Rattle.algol_tree.specs.declared.refusal.Code.TheVariants as codes
use Rattle.algol_tree.specs.declared.tree.Named.{Named}
use Rattle.algol_tree.specs.declared.tree.EventName.{EventName}
use Rattle.algol_tree.specs.declared.tree.Kind.{Kind}
use Rattle.algol_tree.specs.declared.tree.Kind.TheVariants as kinds
use Rattle.algol_tree.specs.declared.tree.Op.{Op}
use Rattle.std.specs.declared.boxed.Box.{Box}
use Rattle.std.specs.declared.alloc.Global.{Global}
use Rattle.algol_tree.specs.declared.tree.Expr.{Expr}
use Rattle.algol_tree.specs.declared.tree.Expr as expressions
use Rattle.algol_tree.specs.declared.tree.Variable.{Variable}
use Rattle.algol_tree.specs.declared.tree.Call.{Call}
use Rattle.algol_tree.specs.declared.tree.Call as calls
use Rattle.algol_tree.specs.Plain as tree
use Rattle.algol_tree.specs.Plain.{PExpr, PExprs}
use Rattle.algol_tree.specs.Image.{expr, exprs, variable}
use Rattle.algol_tree.specs.Classes.{Class, is_array, is_event, is_task, is_unspecified}
use Rattle.algol_tree.specs.Cells.{first_spot}
use Rattle.algol_tree.specs.Types.{type_of, taken_by}
use Rattle.algol_tree.specs.Names.{if_so}
use Rattle.algol_tree.specs.Surroundings.{Surroundings, class_of, formals_at}
use Rattle.algol_tree.specs.Sites as site
use Rattle.algol_tree.specs.Accepted.{noted_all}
use Rattle.algol_tree.proofs.Images.{if_image, two_image, variable_is}
use Rattle.algol_rules.proofs.Order.{noted_all_append}
use Rattle.algol_sites.specs.declared.wanted.Wanted.TheVariants as wanted
use Rattle.algol_sites.specs.Noting.{rule_broken, broken_if, noted_in, mistyped, mistyped_for, mistyped_list, differs}
use Rattle.algol_sites.specs.Wanting.{event_wanted, is_met, unfit, unfit_event, unfit_events}
use Rattle.algol_sites.specs.Expressing.{miscounted_subscripts, noted_name, noted_element, noted_here, noted_call}
use Rattle.algol_sites.proofs.Notes.{noted_along_append}

-- ---- lists of expressions

abbrev pub wrong_numbers : PExprs → Surroundings → List Spot
wrong_numbers tree.none a = []
wrong_numbers (tree.more e es) a = if_so (differs kinds.Number (type_of e a)) (first_spot e) ++ wrong_numbers es a

pub mistyped_list_is : (es : PExprs) (a : Surroundings) → rule_broken codes.WrongType (wrong_numbers es a) ≡ mistyped_list es a
mistyped_list_is tree.none a = refl
mistyped_list_is (tree.more e es) a =
    map-append (λ (spot : Spot). record { spot = spot; code = codes.WrongType }) (if_so (differs kinds.Number (type_of e a)) (first_spot e)) (wrong_numbers es a)
    ∙ ap (λ fs. mistyped kinds.Number e a ++ fs) (mistyped_list_is es a)

abbrev pub count_of : PExprs → ℕ
count_of tree.none = 0
count_of (tree.more e es) = 1 + count_of es

pub counted : (es : List Expr) → count_of (exprs es) ≡ length es
counted [] = refl
counted (e ∷ es) = ap (λ n. 1 + n) (counted es) ∙ omega arith

-- ---- variables

element_noted : (first : Option Fault) (n : Named) (es : PExprs) (a : Surroundings) →
    noted_all first (rule_broken codes.WrongType (if_so (not (is_array (class_of a n)) && not (is_unspecified (class_of a n))) n.spot ++ wrong_numbers es a)) ≡
    noted_all (noted_all first (unfit wanted.Array codes.WrongType n a)) (mistyped_list es a)
element_noted first n es a =
    ap (noted_all first) (map-append (λ (spot : Spot). record { spot = spot; code = codes.WrongType }) (if_so (not (is_array (class_of a n)) && not (is_unspecified (class_of a n))) n.spot) (wrong_numbers es a))
    ∙ noted_all_append first (unfit wanted.Array codes.WrongType n a) (rule_broken codes.WrongType (wrong_numbers es a))
    ∙ ap (noted_all (noted_all first (unfit wanted.Array codes.WrongType n a))) (mistyped_list_is es a)

pub here_element : (first : Option Fault) (n : Named) (e : PExpr) (es : PExprs) (a : Surroundings) →
    noted_here first (tree.variable (tree.subscripted n (tree.more e es))) a ≡ noted_element first n (tree.more e es) (count_of (tree.more e es)) a
here_element first n e es a =
    ap (λ (f : Option Fault). noted_all f (miscounted_subscripts n (count_of (tree.more e es)) a)) (element_noted first n (tree.more e es) a)

pub reading_none : (first : Option Fault) (v : Variable) (a : Surroundings) → v.subs ≡ [] →
    noted_here first (tree.variable (variable v)) a ≡ noted_name first v.name a
reading_none first v a e =
    ap (λ x. noted_here first (tree.variable x) a) (variable_is v) ∙ ap (λ es. noted_here first (tree.variable (tree.subscripted v.name (exprs es))) a) e

pub reading_some : (first : Option Fault) (v : Variable) (a : Surroundings) (e : Expr) (es : List Expr) → v.subs ≡ e ∷ es →
    noted_here first (tree.variable (variable v)) a ≡ noted_element first v.name (exprs v.subs) (length v.subs) a
reading_some first v a e es p =
    ap (λ x. noted_here first (tree.variable x) a) (variable_is v)
    ∙ ap (λ es. noted_here first (tree.variable (tree.subscripted v.name (exprs es))) a) p
    ∙ here_element first v.name (expr e) (exprs es) a
    ∙ ap (λ n. noted_element first v.name (exprs (e ∷ es)) n a) (counted (e ∷ es))
    ∙ ap (λ es. noted_element first v.name (exprs es) (length es) a) (sym p)

pub some_read : (first g : Option Fault) (v : Variable) (a : Surroundings) (xs ys : List Expr) (e : Expr) (es : List Expr) → xs ≡ e ∷ es → xs ≡ v.subs → ys ≡ v.subs →
    g ≡ noted_element first v.name (exprs ys) (length ys) a → g ≡ noted_here first (tree.variable (variable v)) a
some_read first g v a xs ys e es p q r h =
    h ∙ ap (λ zs. noted_element first v.name (exprs zs) (length zs) a) r ∙ sym (reading_some first v a e es (sym q ∙ p))

-- ---- expressions

pub call_image : (c : Call) → expr (expressions.Call c) ≡ tree.call (tree.called c.name (exprs c.actuals))
call_image c = search (rules, expressions.the_lemmas, calls.the_lemmas)

pub broken_pair : (first : Option Fault) (xs ys : List Spot) →
    noted_all first (rule_broken codes.WrongType (xs ++ ys)) ≡ noted_all (noted_all first (rule_broken codes.WrongType xs)) (rule_broken codes.WrongType ys)
broken_pair first xs ys =
    ap (noted_all first) (map-append (λ (spot : Spot). record { spot = spot; code = codes.WrongType }) xs ys)
    ∙ noted_all_append first (rule_broken codes.WrongType xs) (rule_broken codes.WrongType ys)

abbrev pub differing : Kind → PExpr → Surroundings → List Spot
differing k e a = if_so (differs k (type_of e a)) (first_spot e)

abbrev pub differing_for : Option Kind → PExpr → Surroundings → List Spot
differing_for None e a = []
differing_for (Some k) e a = differing k e a

pub differing_noted : (k : Option Kind) (e : PExpr) (a : Surroundings) → rule_broken codes.WrongType (differing_for k e a) ≡ mistyped_for k e a
differing_noted None e a = refl
differing_noted (Some k) e a = refl

pub call_noted : (e : Expr) (c : Call) (a : Surroundings) (f g h : Option Fault) → e ≡ expressions.Call c →
    g ≡ noted_call f wanted.Function c.name (length c.actuals) a → h ≡ noted_in g (site.inside_actuals (exprs c.actuals) (formals_at a c.name) a) →
    h ≡ noted_in f (site.sites (expr e) a)
call_noted e c a f g h is p q =
    q ∙ ap (λ o. noted_in o (site.inside_actuals (exprs c.actuals) (formals_at a c.name) a)) (p ∙ ap (λ n. noted_call f wanted.Function c.name n a) (sym (counted c.actuals)))
    ∙ sym (ap (λ x. noted_in f (site.sites x a)) (ap expr is ∙ call_image c))

pub two_noted : (e : Expr) (op : Op) (x y : Box Expr Global) (a : Surroundings) (f0 f1 f2 f3 f4 : Option Fault) → e ≡ expressions.Two op x y →
    f1 ≡ noted_all f0 (mistyped (taken_by op) (expr x.value) a) → f2 ≡ noted_all f1 (mistyped (taken_by op) (expr y.value) a) →
    f3 ≡ noted_in f2 (site.sites (expr x.value) a) → f4 ≡ noted_in f3 (site.sites (expr y.value) a) → f4 ≡ noted_in f0 (site.sites (expr e) a)
two_noted e op x y a f0 f1 f2 f3 f4 is p q r s =
    s ∙ ap (λ o. noted_in o (site.sites (expr y.value) a)) (r ∙ ap (λ o. noted_in o (site.sites (expr x.value) a)) (q
    ∙ ap (λ o. noted_all o (mistyped (taken_by op) (expr y.value) a)) p
    ∙ sym (broken_pair f0 (differing (taken_by op) (expr x.value) a) (differing (taken_by op) (expr y.value) a))))
    ∙ sym (noted_along_append [] (noted_here f0 (tree.two op (expr x.value) (expr y.value)) a) (site.sites (expr x.value) a) (site.sites (expr y.value) a))
    ∙ sym (ap (λ z. noted_in f0 (site.sites z a)) (ap expr is ∙ two_image op x y))

pub if_noted : (e : Expr) (c x y : Box Expr Global) (spot : Spot) (a : Surroundings) (f0 f1 f2 f3 f4 f5 : Option Fault) → e ≡ expressions.If c x y spot →
    f1 ≡ noted_all f0 (mistyped kinds.Truth (expr c.value) a) → f2 ≡ noted_all f1 (mistyped_for (type_of (expr x.value) a) (expr y.value) a) →
    f3 ≡ noted_in f2 (site.sites (expr c.value) a) → f4 ≡ noted_in f3 (site.sites (expr x.value) a) → f5 ≡ noted_in f4 (site.sites (expr y.value) a) →
    f5 ≡ noted_in f0 (site.sites (expr e) a)
if_noted e c x y spot a f0 f1 f2 f3 f4 f5 is p q r s u =
    u ∙ ap (λ o. noted_in o (site.sites (expr y.value) a)) (s ∙ ap (λ o. noted_in o (site.sites (expr x.value) a)) (r ∙ ap (λ o. noted_in o (site.sites (expr c.value) a)) (q
    ∙ ap (λ o. noted_all o (mistyped_for (type_of (expr x.value) a) (expr y.value) a)) p
    ∙ ap (noted_all (noted_all f0 (mistyped kinds.Truth (expr c.value) a))) (sym (differing_noted (type_of (expr x.value) a) (expr y.value) a))
    ∙ sym (broken_pair f0 (differing kinds.Truth (expr c.value) a) (differing_for (type_of (expr x.value) a) (expr y.value) a)))))
    ∙ ap (λ o. noted_in o (site.sites (expr y.value) a)) (sym (noted_along_append [] (noted_here f0 (tree.if (expr c.value) (expr x.value) (expr y.value) spot) a) (site.sites (expr c.value) a) (site.sites (expr x.value) a)))
    ∙ sym (noted_along_append [] (noted_here f0 (tree.if (expr c.value) (expr x.value) (expr y.value) spot) a) (site.sites (expr c.value) a ++ site.sites (expr x.value) a) (site.sites (expr y.value) a))
    ∙ sym (ap (λ z. noted_in f0 (site.sites z a)) (ap expr is ∙ if_image c x y spot))

pub event_told : (t : Bool) (n : Named) (c : Class) →
    rule_broken codes.WrongType (if t then if_so (not (is_task c) && not (is_unspecified c)) n.spot else if_so (not (is_event c) && not (is_unspecified c)) n.spot) ≡
    broken_if codes.WrongType (not (is_met (event_wanted t) c) && not (is_unspecified c)) n.spot
event_told true n c = refl
event_told false n c = refl

-- .. and where it is the only one of a list
pub only_event_told : (t : Bool) (n : Named) (c : Class) →
    rule_broken codes.WrongType ((if t then if_so (not (is_task c) && not (is_unspecified c)) n.spot else if_so (not (is_event c) && not (is_unspecified c)) n.spot) ++ []) ≡
    broken_if codes.WrongType (not (is_met (event_wanted t) c) && not (is_unspecified c)) n.spot
only_event_told t n c = ap (rule_broken codes.WrongType) (append-nil _) ∙ event_told t n c

-- .. and of each one of a list
abbrev misnamed : EventName → Surroundings → List Spot
misnamed e a =
    if e.task then if_so (not (is_task (class_of a e.name)) && not (is_unspecified (class_of a e.name))) e.name.spot
    else if_so (not (is_event (class_of a e.name)) && not (is_unspecified (class_of a e.name))) e.name.spot

pub events_told : (es : List EventName) (a : Surroundings) → rule_broken codes.WrongType (flat_map (λ (e : EventName). misnamed e a) es) ≡ unfit_events es a
events_told [] a = refl
events_told (e ∷ es) a =
    map-append _ (misnamed e a) (flat_map (λ (x : EventName). misnamed x a) es)
    ∙ ap (λ xs. xs ++ rule_broken codes.WrongType (flat_map (λ (x : EventName). misnamed x a) es)) (event_told e.task e.name (class_of a e.name))
    ∙ ap (λ ys. unfit_event e a ++ ys) (events_told es a)

-- ---- the same for what is equal

pub wanted_as : (k l : Kind) (e d : Expr) (f g : Option Fault) (a : Surroundings) → k ≡ l → e ≡ d → g ≡ noted_all f (mistyped k (expr e) a) →
    g ≡ noted_all f (mistyped l (expr d) a)
wanted_as k l e d f g a p q h = h ∙ ap (λ x. noted_all f (mistyped x (expr e) a)) p ∙ ap (λ x. noted_all f (mistyped l (expr x) a)) q

pub wanted_for_as : (k l : Option Kind) (e d : Expr) (f g : Option Fault) (a : Surroundings) → k ≡ l → e ≡ d → g ≡ noted_all f (mistyped_for k (expr e) a) →
    g ≡ noted_all f (mistyped_for l (expr d) a)
wanted_for_as k l e d f g a p q h = h ∙ ap (λ x. noted_all f (mistyped_for x (expr e) a)) p ∙ ap (λ x. noted_all f (mistyped_for l (expr x) a)) q

pub through_as : (e d : Expr) (f g : Option Fault) (a : Surroundings) → e ≡ d → g ≡ noted_in f (site.sites (expr e) a) → g ≡ noted_in f (site.sites (expr d) a)
through_as e d f g a q h = h ∙ ap (λ x. noted_in f (site.sites (expr x) a)) q

pub typed_as : (k : Option Kind) (e d : Expr) (a : Surroundings) → e ≡ d → k ≡ type_of (expr e) a → k ≡ type_of (expr d) a
typed_as k e d a q h = h ∙ ap (λ x. type_of (expr x) a) q
