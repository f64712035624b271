-- What a name is declared as is clear from what the scopes tell of it, with the lower bounds of arrays.
use Rattle.std.proofs.Common.{◌≡◌, ℕ, ◌+◌, Bool, true, false, List, [], ◌∷◌, length, Option, Some, None, refl, ap, ◌∙◌, if◌then◌else◌}
use Rattle.std.specs.List.{AllByRecursion}
use Rattle.algol_tree.specs.declared.token.Spot.{Spot}
use Rattle.algol_tree.specs.declared.tree.Named.{Named}
use Rattle.algol_tree.specs.declared.tree.Heading.{Heading}
use Rattle.algol_tree.specs.declared.tree.Spec.{Spec}
use Rattle.algol_tree.specs.declared.tree.Spec.TheVariants as specs
use Rattle.algol_tree.specs.Plain as tree
use Rattle.algol_tree.specs.Plain.{PDecl, PDecls, PStmt}
use Rattle.algol_tree.specs.Blocks.{Block, number_at}
use Rattle.algol_tree.specs.Classes as class
use Rattle.algol_tree.specs.Classes.{Class}
use Rattle.algol_tree.specs.Sorts as sort
use Rattle.algol_tree.specs.Sorts.{Declared, Sort, class_in, declare, declared_parameters, is_named_in, simple_sort, sort_in}
use Rattle.algol_tree.specs.Surroundings.{Surroundings, inside_procedure, knowing, knowing_all, made_known}
use Rattle.algol_sorts.specs.Sorts.{sort_by, sort_of}
use Rattle.algol_told.proofs.Lists.{all_append}
use Rattle.algol_paths.specs.Arrays.{Lows, lows_in_shape, shape_in}
use Rattle.algol_lows.proofs.Formals.{FormalsFound}
use Rattle.algol_cells.specs.SeenScope.{sort_as}
use Rattle.algol_names.specs.Kept.{lows_listed}

-- a parameter
parameter_clear : (ss : List Spec) (value : Bool) (name : List ℕ) (block : ℕ) →
    sort_as (sort_by (class_in ss name) (sort_in ss value name)) (lows_listed (lows_in_shape (shape_in ss name))) block ≡ sort_in ss value name
parameter_clear [] value name block = refl
parameter_clear (specs.Simple kind ns ∷ ss) value name block = decide (is_named_in ns name) value (parameter_clear ss value name block)
  where
    decide : (b v : Bool) → sort_as (sort_by (class_in ss name) (sort_in ss v name)) (lows_listed (lows_in_shape (shape_in ss name))) block ≡ sort_in ss v name →
        sort_as (sort_by (if b then class.simple kind else class_in ss name) (if b then simple_sort v else sort_in ss v name)) (lows_listed (lows_in_shape (if b then None else shape_in ss name))) block
        ≡ (if b then simple_sort v else sort_in ss v name)
    decide true true h = refl
    decide true false h = refl
    decide false v h = h
parameter_clear (specs.Events ns ∷ ss) value name block = decide (is_named_in ns name) (parameter_clear ss value name block)
  where
    decide : (b : Bool) → sort_as (sort_by (class_in ss name) (sort_in ss value name)) (lows_listed (lows_in_shape (shape_in ss name))) block ≡ sort_in ss value name →
        sort_as (sort_by (if b then class.event else class_in ss name) (if b then sort.formal_event else sort_in ss value name)) (lows_listed (lows_in_shape (if b then None else shape_in ss name))) block
        ≡ (if b then sort.formal_event else sort_in ss value name)
    decide true h = refl
    decide false h = h
parameter_clear (specs.Arrays kind ns lows ∷ ss) value name block = decide (is_named_in ns name) (parameter_clear ss value name block)
  where
    decide : (b : Bool) → sort_as (sort_by (class_in ss name) (sort_in ss value name)) (lows_listed (lows_in_shape (shape_in ss name))) block ≡ sort_in ss value name →
        sort_as (sort_by (if b then class.array kind (length lows) else class_in ss name) (if b then sort.formal_array lows else sort_in ss value name))
        (lows_listed (lows_in_shape (if b then Some (record { kind = kind; lows = lows }) else shape_in ss name))) block
        ≡ (if b then sort.formal_array lows else sort_in ss value name)
    decide true h = refl
    decide false h = h

-- `lows`: the lower bounds by the places of declarations
module _ (lows : Spot → Option Lows) (blocks : List Block) where
  abbrev pub IsClear : Declared → Type 0
  IsClear d = sort_as (sort_of d) (lows_listed (lows d.spot)) (number_at blocks d.spot) ≡ d.sort

  abbrev pub AllClear : Surroundings → Type 0
  AllClear a = AllByRecursion IsClear a.known

  declare_clear : (block depth : ℕ) (s : Sort) (c : Class) (ns : List Named) → ((spot : Spot) → sort_as (sort_by c s) (lows_listed (lows spot)) (number_at blocks spot) ≡ s) →
      AllByRecursion IsClear (declare block depth s c ns)
  declare_clear block depth s c [] e = tt
  declare_clear block depth s c (n ∷ ns) e = (e n.spot, declare_clear block depth s c ns e)

  made_clear : (d : PDecl) (ds : PDecls) (a : Surroundings) → AllByRecursion IsClear (made_known blocks d ds a)
  made_clear (tree.simple kind ns) ds a = declare_clear a.block a.depth sort.variable (class.simple kind) ns (λ spot. refl)
  made_clear (tree.files ns) ds a = declare_clear a.block a.depth sort.file class.file ns (λ spot. refl)
  made_clear (tree.events ns) ds a = declare_clear a.block a.depth sort.event class.event ns (λ spot. refl)
  made_clear (tree.tasks ns) ds a = declare_clear a.block a.depth sort.event class.task ns (λ spot. refl)
  made_clear (tree.labels ns) ds a = declare_clear a.block a.depth sort.label class.label ns (λ spot. refl)
  made_clear (tree.arrays kind ns pairs) ds a = declare_clear a.block a.depth sort.array (class.array kind (length pairs)) ns (λ spot. refl)
  made_clear (tree.forward h) ds a = (refl, tt)
  made_clear (tree.procedure h s) ds a = (refl, tt)

  pub knowing_clear : (d : PDecl) (ds : PDecls) (a : Surroundings) → AllClear a → AllClear (knowing blocks d ds a)
  knowing_clear d ds a h = all_append IsClear (made_known blocks d ds a) a.known (made_clear d ds a) h

  pub all_clear : (ds : PDecls) (a : Surroundings) → AllClear a → AllClear (knowing_all blocks ds a)
  all_clear tree.no_decls a h = h
  all_clear (tree.decls d ds) a h = all_clear ds (knowing blocks d ds a) (knowing_clear d ds a h)

  parameters_clear : (block depth : ℕ) (h : Heading) (ns : List Named) → AllByRecursion (λ (n : Named). lows n.spot ≡ lows_in_shape (shape_in h.specs n.name)) ns →
      AllByRecursion IsClear (declared_parameters block depth (record h { params = ns }))
  parameters_clear block depth h [] f = tt
  parameters_clear block depth h (n ∷ ns) f = (
    ap (λ (o : Option Lows). sort_as (sort_by (class_in h.specs n.name) (sort_in h.specs (is_named_in h.values n.name) n.name)) (lows_listed o) (number_at blocks n.spot)) f.0
        ∙ parameter_clear h.specs (is_named_in h.values n.name) n.name (number_at blocks n.spot),
    parameters_clear block depth h ns f.1,
  )

  pub inside_clear : (h : Heading) (s : PStmt) (later : PDecls) (a : Surroundings) → FormalsFound lows (tree.procedure h s) later → AllClear a → AllClear (inside_procedure blocks h a)
  inside_clear h s later a f k =
      all_append IsClear (declared_parameters (number_at blocks h.name.spot) (a.depth + 1) h) a.known
      (parameters_clear (number_at blocks h.name.spot) (a.depth + 1) h h.params f) k
