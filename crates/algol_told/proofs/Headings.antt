-- Each procedure that is known at a place is declared where its heading has its name.
use Rattle.std.proofs.Common.{◌≡◌, ℕ, ◌+◌, Bool, true, false, List, [], ◌∷◌, length, ap}
use Rattle.std.specs.Prelude.{if◌then◌else◌}
use Rattle.std.specs.List.{AllByRecursion}
use Rattle.algol_tree.specs.declared.tree.Named.{Named}
use Rattle.algol_tree.specs.declared.tree.Heading.{Heading}
use Rattle.algol_tree.specs.declared.tree.Spec.{Spec}
use Rattle.algol_tree.specs.declared.tree.Spec.TheVariants as specs
use Rattle.algol_tree.specs.Plain as tree
use Rattle.algol_tree.specs.Plain.{PDecl, PDecls}
use Rattle.algol_tree.specs.Classes as class
use Rattle.algol_tree.specs.Classes.{Class}
use Rattle.algol_tree.specs.Sorts as sort
use Rattle.algol_tree.specs.Sorts.{Declared, Sort, class_by, class_in, declare, declared_parameters, specified_by}
use Rattle.algol_tree.specs.Blocks.{Block, number_at}
use Rattle.algol_tree.specs.Surroundings.{Surroundings, announced, declare_procedure, inside_procedure, knowing, made_known}
use Rattle.algol_told.proofs.Lists.{all_append}

abbrev pub IsAtHeading : Declared → Type 0
IsAtHeading d = (h : Heading) → d.class ≡ class.procedure h → d.spot ≡ h.name.spot

abbrev IsNone : Class → Type 0
IsNone c = (h : Heading) → c ≡ class.procedure h → ⊥

-- ---- what is no procedure

declare_none : (block depth : ℕ) (s : Sort) (c : Class) (ns : List Named) → IsNone c → AllByRecursion IsAtHeading (declare block depth s c ns)
declare_none block depth s c [] none = tt
declare_none block depth s c (n ∷ ns) none = (λ h e. absurd (none h e), declare_none block depth s c ns none)

by_none : (s : Spec) → IsNone (class_by s)
by_none (specs.Simple kind ns) h e = absurd (let clash : class.simple kind ≡ class.procedure h = e in cc)
by_none (specs.Events ns) h e = absurd (let clash : class.event ≡ class.procedure h = e in cc)
by_none (specs.Arrays kind ns lows) h e = absurd (let clash : class.array kind (length lows) ≡ class.procedure h = e in cc)

in_none : (ss : List Spec) (name : List ℕ) → IsNone (class_in ss name)
in_none [] name = λ h e. absurd (let clash : class.unknown ≡ class.procedure h = e in cc)
in_none (s ∷ ss) name = decide (specified_by s name) (in_none ss name)
  where
    decide : (b : Bool) → IsNone (class_in ss name) → IsNone (if b then class_by s else class_in ss name)
    decide true rest = by_none s
    decide false rest = rest

parameters_none : (block depth : ℕ) (g : Heading) (ns : List Named) → AllByRecursion IsAtHeading (declared_parameters block depth (record g { params = ns }))
parameters_none block depth g [] = tt
parameters_none block depth g (n ∷ ns) = (λ h e. absurd (in_none g.specs n.name h e), parameters_none block depth g ns)

-- ---- procedures

module _ (blocks : List Block) where
  abbrev pub AllAtHeadings : Surroundings → Type 0
  AllAtHeadings a = AllByRecursion IsAtHeading a.known

  procedure_at : (g : Heading) (a : Surroundings) → AllByRecursion IsAtHeading (declare_procedure blocks g a)
  procedure_at g a = (λ h e. (let same : g ≡ h = cc in ap (λ (x : Heading). x.name.spot) same), tt)

  made_at : (d : PDecl) (ds : PDecls) (a : Surroundings) → AllByRecursion IsAtHeading (made_known blocks d ds a)
  made_at (tree.simple kind ns) ds a = declare_none a.block a.depth sort.variable (class.simple kind) ns (by_none (specs.Simple kind ns))
  made_at (tree.files ns) ds a = declare_none a.block a.depth sort.file class.file ns (λ h e. absurd (let clash : class.file ≡ class.procedure h = e in cc))
  made_at (tree.events ns) ds a = declare_none a.block a.depth sort.event class.event ns (by_none (specs.Events ns))
  made_at (tree.tasks ns) ds a = declare_none a.block a.depth sort.event class.task ns (λ h e. absurd (let clash : class.task ≡ class.procedure h = e in cc))
  made_at (tree.labels ns) ds a = declare_none a.block a.depth sort.label class.label ns (λ h e. absurd (let clash : class.label ≡ class.procedure h = e in cc))
  made_at (tree.arrays kind ns pairs) ds a =
      declare_none a.block a.depth sort.array (class.array kind (length pairs)) ns
      (λ h e. absurd (let clash : class.array kind (length pairs) ≡ class.procedure h = e in cc))
  made_at (tree.forward g) ds a = procedure_at (announced g ds) a
  made_at (tree.procedure g s) ds a = procedure_at g a

  pub knows_at : (d : PDecl) (ds : PDecls) (a : Surroundings) → AllAtHeadings a → AllAtHeadings (knowing blocks d ds a)
  knows_at d ds a h = all_append IsAtHeading (made_known blocks d ds a) a.known (made_at d ds a) h

  pub enters_at : (g : Heading) (a : Surroundings) → AllAtHeadings a → AllAtHeadings (inside_procedure blocks g a)
  enters_at g a h =
      all_append IsAtHeading (declared_parameters (number_at blocks g.name.spot) (a.depth + 1) g) a.known
      (parameters_none (number_at blocks g.name.spot) (a.depth + 1) g g.params) h
