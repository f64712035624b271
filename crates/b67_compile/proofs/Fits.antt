-- A declared event is one by its sort: no other parameter has its class.
use Rattle.std.proofs.Common.{◌≡◌, ℕ, ◌+◌, Bool, true, false, List, [], ◌∷◌, map, length, Some, refl, if◌then◌else◌}
use Rattle.std.specs.List.{flat_map, AllByRecursion}
use Rattle.algol_tree.specs.declared.token.Spot.{Spot}
use Rattle.algol_tree.specs.declared.tree.Heading.{Heading}
use Rattle.algol_tree.specs.declared.tree.Named.{Named}
use Rattle.algol_tree.specs.declared.tree.Spec.{Spec}
use Rattle.algol_tree.specs.declared.tree.Spec.TheVariants as spec
use Rattle.algol_tree.specs.Accepted.{sites_of}
use Rattle.algol_tree.specs.Blocks.{Block, blocks_of_program, number_at}
use Rattle.algol_tree.specs.Classes as class
use Rattle.algol_tree.specs.Classes.{Class, Formal}
use Rattle.algol_tree.specs.Couples.{known_at, known_there}
use Rattle.algol_tree.specs.Plain as tree
use Rattle.algol_tree.specs.Plain.{PExpr, PExprs, PPair, PStmt, PStmts, PDecl, PDecls, PProgram}
use Rattle.algol_tree.specs.Sites as site
use Rattle.algol_tree.specs.Sites.{Part, Site, actual_part, first_formal, other_formals, name_part, wants_value, sites, inside_expr, inside_list, inside_actuals, sites_in_pairs, here_stmt, has_decls, inside_stmt, sites_in_stmts, inside_decl, sites_in_decls}
use Rattle.algol_tree.specs.Sorts as sort
use Rattle.algol_tree.specs.Sorts.{Declared, Sort, specified_by, class_by, class_in, sort_in, is_named_in, declare, declared_parameters}
use Rattle.algol_tree.specs.Surroundings.{Surroundings, made_known, knowing, inside_procedure}
use Rattle.algol_told.proofs.Lists.{all_append}
use Rattle.algol_told.proofs.Walk.{all_hold}
use Rattle.b67_compile.proofs.Everywhere.{All, everywhere}

abbrev pub fits : Class → Sort → Bool
fits class.event sort.by_name = false
fits class.event (sort.formal_array lows) = false
fits c s = true

abbrev pub IsFit : Declared → Type 0
IsFit d = fits d.class d.sort ≡ true

declared_fit : (block depth : ℕ) (s : Sort) (c : Class) (ns : List Named) → fits c s ≡ true → AllByRecursion IsFit (declare block depth s c ns)
declared_fit block depth s c [] h = tt
declared_fit block depth s c (n ∷ ns) h = (h, declared_fit block depth s c ns h)

specified_fit : (s : Spec) (by_value : Bool) → fits (class_by s) (sort.sort_by s by_value) ≡ true
specified_fit (spec.Simple kind ns) by_value = refl
specified_fit (spec.Events ns) by_value = refl
specified_fit (spec.Arrays kind ns lows) by_value = refl

parameter_fit : (specs : List Spec) (by_value : Bool) (name : List ℕ) → fits (class_in specs name) (sort_in specs by_value name) ≡ true
parameter_fit [] by_value name = refl
parameter_fit (s ∷ specs) by_value name = by (specified_by s name) (parameter_fit specs by_value name)
  where
    by : (b : Bool) → fits (class_in specs name) (sort_in specs by_value name) ≡ true →
        fits (if b then class_by s else class_in specs name) (if b then sort.sort_by s by_value else sort_in specs by_value name) ≡ true
    by true later = specified_fit s by_value
    by false later = later

parameters_fit : (block depth : ℕ) (h : Heading) (ns : List Named) →
    AllByRecursion IsFit (map (λ (n : Named). record { name = n.name; spot = n.spot; block = block; depth = depth; sort = sort_in h.specs (is_named_in h.values n.name) n.name; class = class_in h.specs n.name }) ns)
parameters_fit block depth h [] = tt
parameters_fit block depth h (n ∷ ns) = (parameter_fit h.specs (is_named_in h.values n.name) n.name, parameters_fit block depth h ns)

module _ (blocks : List Block) where
  made_fit : (d : PDecl) (ds : PDecls) (a : Surroundings) → AllByRecursion IsFit (made_known blocks d ds a)
  made_fit (tree.labels ns) ds a = declared_fit a.block a.depth sort.label class.label ns refl
  made_fit (tree.simple kind ns) ds a = declared_fit a.block a.depth sort.variable (class.simple kind) ns refl
  made_fit (tree.files ns) ds a = declared_fit a.block a.depth sort.file class.file ns refl
  made_fit (tree.events ns) ds a = declared_fit a.block a.depth sort.event class.event ns refl
  made_fit (tree.tasks ns) ds a = declared_fit a.block a.depth sort.event class.task ns refl
  made_fit (tree.arrays kind ns pairs) ds a = declared_fit a.block a.depth sort.array (class.array kind (length pairs)) ns refl
  made_fit (tree.forward g) ds a = (refl, tt)
  made_fit (tree.procedure g s) ds a = (refl, tt)

  -- nothing is asked of a site
  abbrev Passes : Site → Type 0
  Passes x = Unit {0}

  all_pass : (xs : List Site) → AllByRecursion Passes xs
  all_pass [] = tt
  all_pass (x ∷ xs) = (tt, all_pass xs)

  begins : (spot : Spot) (a : Surroundings) → All blocks IsFit a → All blocks IsFit (record { block = number_at blocks spot; depth = a.depth + 1; known = a.known })
  begins spot a h = h

  knows : (d : PDecl) (ds : PDecls) (a : Surroundings) (begun : List Declared) → All blocks IsFit a → AllByRecursion Passes (sites_in_decls blocks (tree.decls d ds) a begun) →
      All blocks IsFit (knowing blocks d ds a)
  knows d ds a begun h p = all_append IsFit (made_known blocks d ds a) a.known (made_fit d ds a) h

  enters : (h : Heading) (s : PStmt) (ds : PDecls) (a : Surroundings) → All blocks IsFit (knowing blocks (tree.procedure h s) ds a) →
      Passes (record { part = site.declaration (tree.procedure h s) ds; around = a }) → All blocks IsFit (inside_procedure blocks h (knowing blocks (tree.procedure h s) ds a))
  enters h s ds a k p =
      let n : Surroundings = knowing blocks (tree.procedure h s) ds a in
      all_append IsFit (declared_parameters (number_at blocks h.name.spot) (n.depth + 1) h) n.known (parameters_fit (number_at blocks h.name.spot) (n.depth + 1) h h.params) k

pub fit_known : (p : PProgram) (spot : Spot) (d : Declared) → known_there (flat_map (known_at (blocks_of_program p)) (sites_of p)) spot ≡ Some d → IsFit d
fit_known p spot d known =
    let blocks = blocks_of_program p in
    let hold = all_hold blocks (All blocks IsFit) (Passes blocks) (begins blocks) (knows blocks) (enters blocks) p tt (all_pass blocks (sites_of p)) in
    everywhere blocks IsFit (sites_of p) hold spot d known
