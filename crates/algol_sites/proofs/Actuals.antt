-- Expressions in lists, and actuals with their parameters, as the walk notes them.
use Rattle.std.proofs.Common.{◌≡◌, ℕ, ◌+◌, ◌<◌, ◌≤◌, Bool, true, false, List, [], ◌∷◌, map, length, drop, get_or, Option, Some, None, refl, ap, sym, ◌∙◌, arith, subst, zero, suc}
use Rattle.std.specs.Prelude.{◌==◌, ◌&&◌, not, if◌then◌else◌, slice_get, is_some}
use Rattle.algol_tree.specs.declared.token.Spot.{Spot}
use Rattle.algol_tree.specs.declared.refusal.Code.TheVariants as codes
use Rattle.algol_tree.specs.declared.refusal.Fault.{Fault}
use Rattle.algol_tree.specs.declared.tree.Kind.{Kind}
use Rattle.algol_tree.specs.declared.tree.Kind.TheVariants as kinds
use Rattle.algol_tree.specs.declared.tree.Named.{Named}
use Rattle.algol_tree.specs.declared.tree.Expr.{Expr}
use Rattle.algol_tree.specs.Plain as tree
use Rattle.algol_tree.specs.Plain.{PExpr, PExprs, name_alone}
use Rattle.algol_tree.specs.Image.{expr, exprs}
use Rattle.algol_tree.specs.Accepted.{fault_noted, noted_all}
use Rattle.algol_tree.specs.Cells.{first_spot}
use Rattle.algol_tree.specs.Classes as rules'
use Rattle.algol_tree.specs.Classes.{Class, is_event, is_unspecified, same_kind}
use Rattle.algol_tree.specs.Names.{if_so}
use Rattle.algol_tree.specs.Surroundings.{Surroundings, class_of}
use Rattle.algol_tree.specs.Sites as site
use Rattle.algol_tree.specs.Sites.{sites, inside_expr, inside_list, inside_actuals, here, actual_part, actual_part_by, name_part, wants_value, first_formal, other_formals}
use Rattle.algol_tree.proofs.Alone.{named_alone}
use Rattle.algol_sorts.specs.declared.sort.Sort.{Sort}
use Rattle.algol_sorts.specs.declared.sort.Sort.TheVariants as sorts
use Rattle.algol_frames.specs.declared.scopes.Scopes.{Scopes}
use Rattle.algol_rules.proofs.Order.{noted_all_append}
use Rattle.b67_list.proofs.Lists.{drop_past, drop_read}
use Rattle.algol_sites.specs.declared.wanted.Wanted.{Wanted}
use Rattle.algol_sites.specs.declared.wanted.Wanted.TheVariants as wanted
use Rattle.algol_sites.specs.Seen.{classes_of, formal_as, formal_for, value_of}
use Rattle.algol_sites.specs.Seeing.{TellsEach, TellsIn}
use Rattle.algol_sites.specs.Noting.{rule_broken, broken_if, mistyped, mistyped_for, mistyped_list, noted_at, noted_in}
use Rattle.algol_sites.specs.Wanting.{is_met, unfit}
use Rattle.algol_sites.specs.Expressing.{is_alone, misplaced, misplaced_by, misplaced_if, noted_actual, reference_of}
use Rattle.algol_sites.proofs.Notes.{noted_along_append}

-- one more expression of a list
pub list_step : (es : List Expr) (i : ℕ) (e : Expr) (a : Surroundings) (f g : Option Fault) → i < length es → e ≡ get_or es i e →
    g ≡ noted_in f (sites (expr e) a) → noted_in g (inside_list (exprs (drop (i + 1) es)) a) ≡ noted_in f (inside_list (exprs (drop i es)) a)
list_step es i e a f g h p q =
    ap (λ o. noted_in o (inside_list (exprs (drop (i + 1) es)) a)) q
    ∙ sym (noted_along_append [] f (sites (expr e) a) (inside_list (exprs (drop (i + 1) es)) a))
    ∙ sym (ap (λ xs. noted_in f (inside_list (exprs xs) a)) (drop_read es i e h p))

-- ---- whether a parameter is by value makes no difference

abbrev after : Option Fault → PExpr → Option rules'.Formal → Surroundings → Option Fault
after h e f a =
    noted_at [] (noted_at [] h (record { part = site.actual e f; around = a })) (record { part = actual_part e f; around = a })

abbrev of_class : rules'.Class → Option rules'.Formal
of_class c = Some (record { class = c; by_value = false })

part_alike : (o : Option Named) (e : PExpr) (f : rules'.Formal) → actual_part_by o e (Some f) ≡ actual_part_by o e (of_class f.class)
part_alike (Some n) e f = refl
part_alike None e f = refl

after_alike : (h : Option Fault) (e : PExpr) (f : rules'.Formal) (a : Surroundings) → after h e (Some f) a ≡ after h e (of_class f.class) a
after_alike h e f a =
    ap (λ p. noted_at [] (noted_at [] h (record { part = site.actual e (of_class f.class); around = a })) (record { part = p; around = a })) (part_alike (name_alone e) e f)

pub alike : (es : PExprs) (fs gs : List rules'.Formal) (a : Surroundings) (h : Option Fault) → classes_of fs ≡ classes_of gs →
    noted_in h (inside_actuals es fs a) ≡ noted_in h (inside_actuals es gs a)
alike tree.none fs gs a h p = refl
alike (tree.more e es) [] [] a h p = refl
alike (tree.more e es) [] (g ∷ gs) a h p = cc
alike (tree.more e es) (f ∷ fs) [] a h p = cc
alike (tree.more e es) (f ∷ fs) (g ∷ gs) a h p =
    let head : f.class ≡ g.class = cc in
    let tail : classes_of fs ≡ classes_of gs = cc in
    noted_along_append [] (after h e (Some f) a) (inside_expr e a) (inside_actuals es fs a)
    ∙ alike es fs gs a (noted_in (after h e (Some f) a) (inside_expr e a)) tail
    ∙ ap (λ o. noted_in (noted_in o (inside_expr e a)) (inside_actuals es gs a))
    (after_alike h e f a ∙ ap (λ c. after h e (of_class c) a) head ∙ sym (after_alike h e g a))
    ∙ sym (noted_along_append [] (after h e (Some g) a) (inside_expr e a) (inside_actuals es gs a))

-- ---- one more actual

first_at : (gs : List Sort) (i : ℕ) → first_formal (drop i (map formal_as gs)) ≡ formal_for (slice_get gs i)
first_at [] zero = refl
first_at [] (suc i) = refl
first_at (g ∷ gs) zero = refl
first_at (g ∷ gs) (suc i) = first_at gs i

others_at : (fs : List rules'.Formal) (i : ℕ) → other_formals (drop i fs) ≡ drop (suc i) fs
others_at [] zero = refl
others_at [] (suc i) = refl
others_at (f ∷ fs) zero = refl
others_at (f ∷ fs) (suc i) = others_at fs i

name_noted : (n : Named) (o : Option Sort) (h : Option Fault) (a : Surroundings) →
    noted_at [] h (record { part = name_part n (wants_value (formal_for o)); around = a }) ≡
    (if not (is_some (value_of o)) then h else noted_at [] h (here (tree.variable (tree.subscripted n tree.none)) a))
name_noted n None h a = refl
name_noted n (Some (sorts.Variable k)) h a = refl
name_noted n (Some (sorts.ByName k)) h a = refl
name_noted n (Some (sorts.Array k c)) h a = refl
name_noted n (Some (sorts.FormalArray k c)) h a = refl
name_noted n (Some sorts.Event) h a = refl
name_noted n (Some sorts.Task) h a = refl
name_noted n (Some sorts.FormalEvent) h a = refl
name_noted n (Some sorts.Label) h a = refl
name_noted n (Some sorts.File) h a = refl
name_noted n (Some (sorts.Procedure k)) h a = refl
name_noted n (Some sorts.Unspecified) h a = refl

part_noted : (m : Option Named) (e : PExpr) (o : Option Sort) (h : Option Fault) (a : Surroundings) → name_alone e ≡ m →
    noted_in (noted_at [] h (record { part = actual_part_by m e (formal_for o); around = a })) (inside_expr e a) ≡
    (if is_some m && not (is_some (value_of o)) then h else noted_in h (sites e a))
part_noted (Some n) e o h a is =
    let P : PExpr → Type 0 =
    λ x. noted_in (noted_at [] h (record { part = name_part n (wants_value (formal_for o)); around = a })) (inside_expr x a) ≡
    (if not (is_some (value_of o)) then h else noted_in h (sites x a)) in
    subst P (sym (named_alone e n is)) (name_noted n o h a)
part_noted None e o h a is = refl

one_more : (e : PExpr) (es : PExprs) (fs : List rules'.Formal) (o : Option Sort) (h : Option Fault) (a : Surroundings) → first_formal fs ≡ formal_for o →
    noted_in h (inside_actuals (tree.more e es) fs a) ≡
    noted_in (if is_alone e o then noted_actual h e o a else noted_in (noted_actual h e o a) (sites e a)) (inside_actuals es (other_formals fs) a)
one_more e es fs o h a p =
    noted_along_append [] (after h e (first_formal fs) a) (inside_expr e a) (inside_actuals es (other_formals fs) a)
    ∙ ap (λ f. noted_in (noted_in (after h e f a) (inside_expr e a)) (inside_actuals es (other_formals fs) a)) p
    ∙ ap (λ f. noted_in f (inside_actuals es (other_formals fs) a)) (part_noted (name_alone e) e o (noted_actual h e o a) a refl)

pub actual_step : (es : List Expr) (i : ℕ) (e : Expr) (gs : List Sort) (o : Option Sort) (a : Surroundings) (f g : Option Fault) →
    i < length es → e ≡ get_or es i e → o ≡ slice_get gs i →
    g ≡ (if is_alone (expr e) o then noted_actual f (expr e) o a else noted_in (noted_actual f (expr e) o a) (sites (expr e) a)) →
    noted_in g (inside_actuals (exprs (drop (i + 1) es)) (drop (i + 1) (map formal_as gs)) a) ≡
    noted_in f (inside_actuals (exprs (drop i es)) (drop i (map formal_as gs)) a)
actual_step es i e gs o a f g h p q r =
    let next : suc i ≡ i + 1 = omega arith in
    ap (λ x. noted_in x (inside_actuals (exprs (drop (i + 1) es)) (drop (i + 1) (map formal_as gs)) a)) r
    ∙ ap (λ fs. noted_in (if is_alone (expr e) o then noted_actual f (expr e) o a else noted_in (noted_actual f (expr e) o a) (sites (expr e) a))
    (inside_actuals (exprs (drop (i + 1) es)) fs a)) (sym (others_at (map formal_as gs) i ∙ ap (λ n. drop n (map formal_as gs)) next))
    ∙ sym (one_more (expr e) (exprs (drop (i + 1) es)) (drop i (map formal_as gs)) o f a (first_at gs i ∙ ap formal_for (sym q)))
    ∙ sym (ap (λ xs. noted_in f (inside_actuals (exprs xs) (drop i (map formal_as gs)) a)) (drop_read es i e h p))

-- the two ways on
pub valued : (b : Bool) (h v : Option Fault) → b ≡ false → v ≡ (if b then h else v)
valued b h v p = ap (λ c. if c then h else v) (sym p)

pub alone : (b : Bool) (h v : Option Fault) → b ≡ true → h ≡ (if b then h else v)
alone b h v p = ap (λ c. if c then h else v) (sym p)

-- ---- after the last

pub none_left : (es : List Expr) (i : ℕ) (fs : List rules'.Formal) (a : Surroundings) (f : Option Fault) → length es ≤ i →
    f ≡ noted_in f (inside_actuals (exprs (drop i es)) fs a)
none_left es i fs a f h = sym (ap (λ xs. noted_in f (inside_actuals (exprs xs) fs a)) (drop_past es i h))

-- ---- what an actual breaks for its parameter

abbrev is_such_array : Kind → ℕ → Class → Bool
is_such_array k subscripts (rules'.array m count) = same_kind k m && (count == subscripts)
is_such_array k subscripts _ = false

abbrev wrong_reference_by : Option Named → (Class → Bool) → PExpr → Surroundings → List Spot
wrong_reference_by (Some n) test e a = if_so (not (test (class_of a n)) && not (is_unspecified (class_of a n))) n.spot
wrong_reference_by None test e a = first_spot e ∷ []

misplaced_same : (o : Option Named) (w : Wanted) (test : Class → Bool) (e : PExpr) (f : Option Fault) (a : Surroundings) → ((c : Class) → is_met w c ≡ test c) →
    noted_all f (misplaced_by o w e a) ≡ noted_all f (rule_broken codes.WrongType (wrong_reference_by o test e a))
misplaced_same (Some n) w test e f a h =
    ap (λ b. noted_all f (broken_if codes.WrongType (not b && not (is_unspecified (class_of a n))) n.spot)) (h (class_of a n))
misplaced_same None w test e f a h = refl

array_wanted : (k : Kind) (n : ℕ) (e : PExpr) (f : Option Fault) (a : Surroundings) → noted_all f (misplaced (wanted.SuchArray k n) e a) ≡
    noted_at [] f (record { part = site.actual e (Some (record { class = rules'.array k n; by_value = false })); around = a })
array_wanted k n e f a = misplaced_same (name_alone e) (wanted.SuchArray k n) (is_such_array k n) e f a (λ c. refl)

event_wanted : (e : PExpr) (f : Option Fault) (a : Surroundings) → noted_all f (misplaced wanted.Event e a) ≡
    noted_at [] f (record { part = site.actual e (Some (record { class = rules'.event; by_value = false })); around = a })
event_wanted e f a = misplaced_same (name_alone e) wanted.Event is_event e f a (λ c. refl)

wanted_by : (e : PExpr) (o : Option Sort) (f : Option Fault) (a : Surroundings) →
    noted_all (noted_all f (mistyped_for (value_of o) e a)) (misplaced_if (reference_of o) e a) ≡ noted_actual f e o a
wanted_by e None f a = refl
wanted_by e (Some (sorts.Variable k)) f a = refl
wanted_by e (Some (sorts.ByName k)) f a = refl
wanted_by e (Some (sorts.Array k n)) f a = array_wanted k n e f a
wanted_by e (Some (sorts.FormalArray k n)) f a = array_wanted k n e f a
wanted_by e (Some sorts.Event) f a = event_wanted e f a
wanted_by e (Some sorts.Task) f a = refl
wanted_by e (Some sorts.FormalEvent) f a = event_wanted e f a
wanted_by e (Some sorts.Label) f a = refl
wanted_by e (Some sorts.File) f a = refl
wanted_by e (Some (sorts.Procedure k)) f a = refl
wanted_by e (Some sorts.Unspecified) f a = refl

pub actual_wanted : (e : PExpr) (o : Option Sort) (a : Surroundings) (f g h : Option Fault) → g ≡ noted_all f (mistyped_for (value_of o) e a) →
    h ≡ noted_all g (misplaced_if (reference_of o) e a) → h ≡ noted_actual f e o a
actual_wanted e o a f g h p q = q ∙ ap (λ x. noted_all x (misplaced_if (reference_of o) e a)) p ∙ wanted_by e o f a

-- ---- elements of a list

pub each_split : (s : Scopes) (a : Surroundings) (es : List Expr) (i : ℕ) (e : Expr) → i < length es → e ≡ get_or es i e → TellsEach s a (exprs (drop i es)) →
    TellsIn s a (expr e) × TellsEach s a (exprs (drop (i + 1) es))
each_split s a es i e h p t = let P : List Expr → Type 0 = λ xs. TellsEach s a (exprs xs) in subst P (drop_read es i e h p) t

pub list_end : (es : List Expr) (i : ℕ) (a : Surroundings) (f g : Option Fault) → drop i es ≡ [] →
    noted_in f (inside_list (exprs (drop i es)) a) ≡ g → f ≡ g
list_end es i a f g e h = sym (ap (λ xs. noted_in f (inside_list (exprs xs) a)) e) ∙ h

pub numbers_step : (es : List Expr) (i : ℕ) (e : Expr) (a : Surroundings) (f g : Option Fault) → i < length es → e ≡ get_or es i e →
    g ≡ noted_all f (mistyped kinds.Number (expr e) a) →
    noted_all g (mistyped_list (exprs (drop (i + 1) es)) a) ≡ noted_all f (mistyped_list (exprs (drop i es)) a)
numbers_step es i e a f g h p q =
    ap (λ o. noted_all o (mistyped_list (exprs (drop (i + 1) es)) a)) q
    ∙ sym (noted_all_append f (mistyped kinds.Number (expr e) a) (mistyped_list (exprs (drop (i + 1) es)) a))
    ∙ sym (ap (λ xs. noted_all f (mistyped_list (exprs xs) a)) (drop_read es i e h p))

pub numbers_end : (es : List Expr) (i : ℕ) (a : Surroundings) (f g : Option Fault) → drop i es ≡ [] →
    noted_all f (mistyped_list (exprs (drop i es)) a) ≡ g → f ≡ g
numbers_end es i a f g e h = sym (ap (λ xs. noted_all f (mistyped_list (exprs xs) a)) e) ∙ h

pub misplaced_none : (w : Wanted) (e : PExpr) (a : Surroundings) (f g : Option Fault) (spot : Spot) → name_alone e ≡ None → spot ≡ first_spot e →
    g ≡ fault_noted f (record { spot = spot; code = codes.WrongType }) → g ≡ noted_all f (misplaced w e a)
misplaced_none w e a f g spot n p q =
    q ∙ ap (λ x. fault_noted f (record { spot = x; code = codes.WrongType })) p ∙ ap (λ o. noted_all f (misplaced_by o w e a)) (sym n)

pub misplaced_some : (w : Wanted) (e : PExpr) (a : Surroundings) (n : Named) → name_alone e ≡ Some n → misplaced w e a ≡ unfit w codes.WrongType n a
misplaced_some w e a n is = ap (λ o. misplaced_by o w e a) is

-- ---- the same elements, in other words

pub each_as : (s : Scopes) (a : Surroundings) (xs ys : List Expr) → xs ≡ ys → TellsEach s a (exprs ys) → TellsEach s a (exprs xs)
each_as s a xs ys e t = let P : List Expr → Type 0 = λ zs. TellsEach s a (exprs zs) in subst P (sym e) t

pub none_in : (xs ys : List Expr) → xs ≡ ys → length xs ≡ 0 → ys ≡ []
none_in [] ys e h = sym e
none_in (x ∷ xs) ys e h = absurd (omega (arith, h))
