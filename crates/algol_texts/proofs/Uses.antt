-- What a name that is used means: it is seen from there, and what it is declared as tells what it can be used for.
use Rattle.std.proofs.Common.{◌≡◌, ◌⊎◌, inl, inr, ℕ, ◌-◌, ◌<◌, ◌&&◌, not, Bool, true, false, List, [], ◌∷◌, length, is_some, Option, Some, None, refl, sym, ap, ◌∙◌, subst, slice_get}
use Rattle.algol_tree.specs.declared.token.Spot.{Spot}
use Rattle.algol_tree.specs.declared.tree.Heading.{Heading}
use Rattle.algol_tree.specs.declared.tree.Named.{Named}
use Rattle.algol_tree.specs.Blocks.{Block, block_numbered, number_at, around}
use Rattle.algol_tree.specs.Classes as class
use Rattle.algol_tree.specs.Classes.{Class, is_simple, is_array, is_event, is_task, is_label, is_procedure, is_unspecified}
use Rattle.algol_tree.specs.Names.{if_so}
use Rattle.algol_tree.specs.Scopes.{Scopes, Use, use_of}
use Rattle.algol_tree.specs.Sorts as sort
use Rattle.algol_tree.specs.Sorts.{Sort, is_formal, is_by_name, is_variable, procedure_in, Declared, parameters_of}
use Rattle.algol_tree.specs.Surroundings.{Surroundings, class_of_declared, class_of}
use Rattle.algol_tree.specs.Types.{read_type}
use Rattle.algol_tree.proofs.Trees.{use_is}
use Rattle.algol_meaning.specs.Settle.{sorts_of, block_of_sort, sort_at}
use Rattle.algol_paths.specs.Blocks.{BlockIsSeen}
use Rattle.algol_calls.specs.Fits as fits
use Rattle.algol_calls.specs.Fits.{parameter_sort, has_simple, own_sort, NameIsTold, NameLeads, sorts_wanted, AloneFits, IsNameOfIt}
use Rattle.algol_front_laws.specs.Declarations.{EachOnce}
use Rattle.algol_front_laws.specs.Uses.{use_by_name}
use Rattle.algol_told.proofs.Lists.{of_contained, false_not_true}
use Rattle.b67_list.proofs.Lists.{each_at}
use Rattle.algol_texts.proofs.Parameters.{IsSame, same_sort}
use Rattle.algol_texts.proofs.Good.{IsUse, IsUsed, test_holds}
use Rattle.algol_texts.proofs.Callees.{AreSpecified, parameters_at, IsCallee}
use Rattle.algol_texts.proofs.Around.{Means, a_variable, a_name, an_array, a_formal_array, an_event, a_task, a_formal_event, a_label, a_procedure, IsKnown, HasAll, IsAround, IsFound, found_there}

-- ---- by class

-- what is no procedure and stands for no expression
abbrev pub IsOther : Sort → Type 0
IsOther s = (procedure_in s ≡ None) × (is_by_name s ≡ false)

module _ (blocks : List Block) (block : ℕ) (name : List ℕ) where
  pub record IsProcedure (s : Sort) (c : Class) : Type 0 where
    pub heading : Heading
    pub callee : IsCallee blocks block heading
    pub named : heading.name.name ≡ name
    pub sort_is : s ≡ sort.procedure (number_at blocks heading.name.spot)
    pub class_is : c ≡ class.procedure heading

  pub specified_class : (s : Sort) (c : Class) → Means blocks block name s c → is_unspecified c ≡ false
  specified_class s c (a_variable kind) = refl
  specified_class s c m = refl

  pub array_other : (s : Sort) (c : Class) → Means blocks block name s c → is_array c ≡ true → IsOther s
  array_other s c (an_array kind count) e = (refl, refl)
  array_other s c (a_formal_array lows kind) e = (refl, refl)
  array_other s c m e = absurd (false_not_true e)

  pub event_other : (s : Sort) (c : Class) → Means blocks block name s c → is_event c ≡ true → IsOther s
  event_other s c an_event e = (refl, refl)
  event_other s c a_formal_event e = (refl, refl)
  event_other s c m e = absurd (false_not_true e)

  pub task_other : (s : Sort) (c : Class) → Means blocks block name s c → is_task c ≡ true → IsOther s × (is_formal s ≡ false)
  task_other s c a_task e = ((refl, refl), refl)
  task_other s c m e = absurd (false_not_true e)

  pub label_is : (s : Sort) (c : Class) → Means blocks block name s c → is_label c ≡ true → s ≡ sort.label
  label_is s c a_label e = refl
  label_is s c m e = absurd (false_not_true e)

  -- of a variable only one by name stands for something else
  pub simple_left : (s : Sort) (c : Class) → Means blocks block name s c → is_simple c ≡ true → (procedure_in s ≡ None) × (is_formal s ≡ is_by_name s)
  simple_left s c (a_variable kind) e = (refl, refl)
  simple_left s c (a_name kind) e = (refl, refl)
  simple_left s c m e = absurd (false_not_true e)

  pub procedure_is : (s : Sort) (c : Class) → Means blocks block name s c → is_procedure c ≡ true → IsProcedure s c
  procedure_is s c (a_procedure h callee named) e = record { heading = h; callee = callee; named = named; sort_is = refl; class_is = refl }
  procedure_is s c m e = absurd (false_not_true e)

  -- what is read is a variable or is called
  pub read_is : (s : Sort) (c : Class) → Means blocks block name s c → is_some (read_type c) ≡ true → (is_simple c ≡ true) ⊎ (is_procedure c ≡ true)
  read_is s c (a_variable kind) e = inl refl
  read_is s c (a_name kind) e = inl refl
  read_is s c (a_procedure h callee named) e = inr refl
  read_is s c m e = absurd (false_not_true e)

-- ---- names by their uses

pub told_as : (sc : Scopes) (n : Named) (u : Use) → use_of sc n ≡ u → IsSame (parameter_sort (parameters_at sc.blocks u.block) n.name) u.sort →
    (is_variable u.sort ≡ true → has_simple (block_numbered sc.blocks u.block) n.name ≡ true) → NameIsTold sc n
told_as sc n u e h v =
    let own : own_sort sc n ≡ parameter_sort (parameters_at sc.blocks u.block) n.name = ap (λ (v : Use). parameter_sort (parameters_at sc.blocks v.block) n.name) e in
    let now : u.sort ≡ sort_at sc n = ap (λ (v : Use). v.sort) (sym e) in
    record {
      formal = ap is_formal own ∙ h.formal ∙ ap is_formal now;
      by_name = ap is_by_name own ∙ h.by_name ∙ ap is_by_name now;
      variable = λ f. subst (λ (x : Use). has_simple (block_numbered sc.blocks x.block) n.name ≡ true) (sym e) (v (ap is_variable now ∙ f));
    }

pub seen_as : (sc : Scopes) (j : ℕ) (n : Named) (u : Use) → use_of sc n ≡ u → slice_get (j ∷ around sc.blocks j) u.up ≡ Some u.block → BlockIsSeen sc j n
seen_as sc j n u e f = subst (λ (v : Use). slice_get (j ∷ around sc.blocks j) v.up ≡ Some v.block) (sym e) f

-- The name is that of a procedure with this heading.
pub record Calls (sc : Scopes) (a : Surroundings) (n : Named) : Type 0 where
  pub heading : Heading
  pub class_is : class_of a n ≡ class.procedure heading
  pub callee : fits.IsCallee sc n
  pub called : procedure_in (sort_at sc n) ≡ Some (number_at sc.blocks heading.name.spot)
  pub wanted_are : sorts_wanted sc n ≡ sorts_of (parameters_of heading)
  pub specified : AreSpecified heading heading.params

module _ (sc : Scopes) (j : ℕ) (outer : List Spot) (a : Surroundings) (r : IsAround sc.blocks j outer a) where
  module _ (as_used : Declared → Use) (n : Named) (u : IsUse sc as_used a n) where
    pub its_found : IsFound a.known n.name u.declared
    its_found = found_there a.known n.name u.declared u.found

    pub its_known : IsKnown sc.blocks j a.depth u.declared
    its_known = of_contained (IsKnown sc.blocks j a.depth) a.known u.declared r.known its_found.there

    pub its_class : class_of a n ≡ u.declared.class
    its_class = ap class_of_declared u.found

    -- a rule of names that is not broken
    pub name_right : (test : Class → Bool) → if_so (not (test (class_of a n)) && not (is_unspecified (class_of a n))) n.spot ≡ [] → test u.declared.class ≡ true
    name_right test h =
        ap test (sym its_class)
        ∙ test_holds (test (class_of a n)) (is_unspecified (class_of a n)) n.spot
        (ap is_unspecified its_class ∙ specified_class sc.blocks u.declared.block u.declared.name u.declared.sort u.declared.class its_known.means) h

  -- as what it is declared as
  module _ (once : EachOnce a) (n : Named) (u : IsUsed sc a n) where
    abbrev d : Declared
    d = u.declared

    its : IsKnown sc.blocks j a.depth d
    its = its_known (use_by_name a n) n u

    used_as : use_of sc n ≡ use_by_name a n d
    used_as = use_is sc n (use_by_name a n d) u.used

    sorted : sort_at sc n ≡ d.sort
    sorted = ap (λ (v : Use). v.sort) used_as

    pub seen : BlockIsSeen sc j n
    seen = seen_as sc j n (use_by_name a n d) used_as its.found

    pub told : NameIsTold sc n
    told =
        let there = its_found (use_by_name a n) n u in
        let whole : HasAll sc.blocks a.known d.block = each_at (HasAll sc.blocks a.known) (j ∷ around sc.blocks j) (a.depth - d.depth) d.block r.whole its.found in
        let same : IsSame (parameter_sort (parameters_at sc.blocks d.block) d.name) d.sort =
        same_sort a.known d (λ e t b m. once d e there.there t b m) (parameters_at sc.blocks d.block) whole its.formal in
        told_as sc n (use_by_name a n d) used_as (subst (λ (name : List ℕ). IsSame (parameter_sort (parameters_at sc.blocks d.block) name) d.sort) there.named same)
        (λ e. subst (λ (name : List ℕ). has_simple (block_numbered sc.blocks d.block) name ≡ true) there.named (its.variable e))

    pub leads : IsOther d.sort → NameLeads sc n
    leads o = record { told = told; not_by_name = ap is_by_name sorted ∙ o.1 }

    pub labelled : d.sort ≡ sort.label → fits.IsLabel sc n
    labelled e = sorted ∙ e

    pub name_of_it : IsOther d.sort → IsNameOfIt sc (Some n)
    name_of_it o = (ap procedure_in sorted ∙ o.0, ap is_by_name sorted ∙ o.1)

    pub alone_told : procedure_in d.sort ≡ None → AloneFits sc (procedure_in (sort_at sc n)) n
    alone_told e = subst (λ (o : Option ℕ). AloneFits sc o n) (sym (ap procedure_in sorted ∙ e)) told

    pub settled : is_formal d.sort ≡ false → fits.IsSettled sc n
    settled e = record { told = told; no_formal = ap is_formal sorted ∙ e }

    pub left_alone : is_formal d.sort ≡ is_by_name d.sort → NameIsTold sc n × (is_formal (sort_at sc n) ≡ is_by_name (sort_at sc n))
    left_alone e = (told, ap is_formal sorted ∙ e ∙ ap is_by_name (sym sorted))

    pub calls : is_procedure d.class ≡ true → Calls sc a n
    calls e =
        let p = procedure_is sc.blocks d.block d.name d.sort d.class its.means e in
        let sort_then : sort_at sc n ≡ sort.procedure (number_at sc.blocks p.heading.name.spot) = sorted ∙ p.sort_is in
        record {
          heading = p.heading;
          class_is = its_class (use_by_name a n) n u ∙ p.class_is;
          callee =
              record {
                known = subst (λ (s : Sort). block_of_sort s < length sc.blocks) (sym sort_then) p.callee.some;
                around_is =
                    ap (λ (s : Sort). around sc.blocks (block_of_sort s)) sort_then ∙ p.callee.around_is
                    ∙ ap (λ (v : Use). v.block ∷ around sc.blocks v.block) (sym used_as);
                no_variable = ap is_variable sort_then;
                no_formal = ap is_formal sort_then;
              };
          called = ap procedure_in sort_then;
          wanted_are = ap (λ (s : Sort). sorts_of (parameters_at sc.blocks (block_of_sort s))) sort_then ∙ ap sorts_of p.callee.parameters_are;
          specified = p.callee.specified;
        }
