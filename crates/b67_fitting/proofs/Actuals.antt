-- The actual of an array parameter at which no rule is broken: the name by itself of an array with such elements and as many bounds. That of an
-- event parameter: the name by itself of an event.
use Rattle.std.proofs.Common.{◌≡◌, ℕ, ◌==◌, ◌&&◌, not, Bool, true, false, List, [], ◌∷◌, Some, refl, sym, ap, ◌∙◌, subst}
use Rattle.std.proofs.lemmas.Bool.{eqb-true}
use Rattle.algol_tree.specs.declared.token.Spot.{Spot}
use Rattle.algol_tree.specs.declared.tree.Kind.{Kind}
use Rattle.algol_tree.specs.declared.tree.Kind.TheVariants as types
use Rattle.algol_tree.specs.declared.tree.Named.{Named}
use Rattle.algol_tree.specs.Blocks.{Block}
use Rattle.algol_tree.specs.Cells.{first_spot}
use Rattle.algol_tree.specs.Checks.{wrong_actual}
use Rattle.algol_tree.specs.Classes as class
use Rattle.algol_tree.specs.Classes.{Class, Formal, same_kind}
use Rattle.algol_tree.specs.Names.{if_so}
use Rattle.algol_tree.specs.Plain as tree
use Rattle.algol_tree.specs.Plain.{PExpr}
use Rattle.algol_tree.specs.Sites.{is_of_value, name_part, actual_part}
use Rattle.algol_tree.specs.Surroundings.{Surroundings, class_of}
use Rattle.b67_fitting.specs.Typing.{IsArrayActual, IsEventActual}
use Rattle.b67_fitting.proofs.Clean.{IsClean, IsPlain, simple, array, file, label, event, task, procedure, KnowsPlain, plain_first, misnamed, event_alone}

-- ---- arrays of which a parameter can be one

abbrev such_array : Kind → ℕ → Class → Bool
such_array k subscripts (class.array m count) = same_kind k m && (count == subscripts)
such_array k subscripts _ = false

same_kinds : (k m : Kind) → same_kind k m ≡ true → m ≡ k
same_kinds types.Number types.Number h = refl
same_kinds types.Truth types.Truth h = refl
same_kinds types.Number types.Truth h = absurd (let clash : false ≡ true = h in cc)
same_kinds types.Truth types.Number h = absurd (let clash : false ≡ true = h in cc)

such_class : (k : Kind) (rank : ℕ) (c : Class) (spot : Spot) → IsPlain c → misnamed (such_array k rank) c spot ≡ [] → c ≡ class.array k rank
such_class k rank c spot (simple kind) h = absurd (let clash : spot ∷ [] ≡ [] = h in cc)
such_class k rank c spot (array m count) h = by (same_kind k m) (count == rank) refl refl h
  where
    by : (s t : Bool) → same_kind k m ≡ s → (count == rank) ≡ t → if_so (not (s && t) && true) spot ≡ [] → class.array m count ≡ class.array k rank
    by true true e f g = ap (λ (z : Kind). class.array z count) (same_kinds k m e) ∙ ap (class.array k) (eqb-true count rank f)
    by true false e f g = absurd (let clash : spot ∷ [] ≡ [] = g in cc)
    by false t e f g = absurd (let clash : spot ∷ [] ≡ [] = g in cc)
such_class k rank c spot file h = absurd (let clash : spot ∷ [] ≡ [] = h in cc)
such_class k rank c spot label h = absurd (let clash : spot ∷ [] ≡ [] = h in cc)
such_class k rank c spot event h = absurd (let clash : spot ∷ [] ≡ [] = h in cc)
such_class k rank c spot task h = absurd (let clash : spot ∷ [] ≡ [] = h in cc)
such_class k rank c spot (procedure g b) h = absurd (let clash : spot ∷ [] ≡ [] = h in cc)

-- ---- actuals

module _ (blocks : List Block) (a : Surroundings) (plain : KnowsPlain a) (k : Kind) (rank : ℕ) (v : Bool) where
  abbrev wanted : Formal
  wanted = record { class = class.array k rank; by_value = v }

  one_actual : (e : PExpr) → wrong_actual (Some wanted) e a ≡ [] → IsClean blocks (record { part = actual_part e (Some wanted); around = a }) → IsArrayActual a wanted e
  one_actual (tree.variable (tree.subscripted n tree.none)) w own = (k, rank, refl, such_class k rank (class_of a n) n.spot (plain_first a plain n [] own.known) w)
  one_actual (tree.variable (tree.subscripted n (tree.more e es))) w own = absurd (let clash : n.spot ∷ [] ≡ [] = w in cc)
  one_actual e w own = absurd (let clash : first_spot e ∷ [] ≡ [] = w in cc)

pub array_actual : (blocks : List Block) (a : Surroundings) → KnowsPlain a → (f : Formal) (k : Kind) (rank : ℕ) → f.class ≡ class.array k rank → (e : PExpr) → wrong_actual (Some f) e a ≡ [] →
    IsClean blocks (record { part = actual_part e (Some f); around = a }) → IsArrayActual a f e
array_actual blocks a plain f k rank is e w own =
    subst (λ (c : Class). IsArrayActual a (record { class = c; by_value = f.by_value }) e) (sym is)
    (one_actual blocks a plain k rank f.by_value e
    (subst (λ (c : Class). wrong_actual (Some (record { class = c; by_value = f.by_value })) e a ≡ []) is w)
    (subst (λ (c : Class). IsClean blocks (record { part = actual_part e (Some (record { class = c; by_value = f.by_value })); around = a })) is own))

-- no value is wanted of it
pub name_alone : (n : Named) (f : Formal) (k : Kind) (rank : ℕ) → f.class ≡ class.array k rank → name_part n (is_of_value f.class) ≡ name_part n false
name_alone n f k rank is = ap (λ (c : Class). name_part n (is_of_value c)) is

-- ---- events

module _ (blocks : List Block) (a : Surroundings) (plain : KnowsPlain a) (v : Bool) where
  abbrev wanted_event : Formal
  wanted_event = record { class = class.event; by_value = v }

  one_event : (e : PExpr) → wrong_actual (Some wanted_event) e a ≡ [] → IsClean blocks (record { part = actual_part e (Some wanted_event); around = a }) → IsEventActual a wanted_event e
  one_event (tree.variable (tree.subscripted n tree.none)) w own = (refl, event_alone (class_of a n) n.spot (plain_first a plain n [] own.known) w)
  one_event (tree.variable (tree.subscripted n (tree.more e es))) w own = absurd (let clash : n.spot ∷ [] ≡ [] = w in cc)
  one_event e w own = absurd (let clash : first_spot e ∷ [] ≡ [] = w in cc)

pub event_actual : (blocks : List Block) (a : Surroundings) → KnowsPlain a → (f : Formal) → f.class ≡ class.event → (e : PExpr) → wrong_actual (Some f) e a ≡ [] →
    IsClean blocks (record { part = actual_part e (Some f); around = a }) → IsEventActual a f e
event_actual blocks a plain f is e w own =
    subst (λ (c : Class). IsEventActual a (record { class = c; by_value = f.by_value }) e) (sym is)
    (one_event blocks a plain f.by_value e
    (subst (λ (c : Class). wrong_actual (Some (record { class = c; by_value = f.by_value })) e a ≡ []) is w)
    (subst (λ (c : Class). IsClean blocks (record { part = actual_part e (Some (record { class = c; by_value = f.by_value })); around = a })) is own))

pub event_name : (n : Named) (f : Formal) → f.class ≡ class.event → name_part n (is_of_value f.class) ≡ name_part n false
event_name n f is = ap (λ (c : Class). name_part n (is_of_value c)) is
