-- What holds of each declaration where it is known holds of what each name means that stands in a text.
use Rattle.std.proofs.Common.{◌≡◌, Bool, true, false, List, [], ◌∷◌, ◌++◌, Option, Some, None, refl, subst, if◌then◌else◌}
use Rattle.std.specs.List.{flat_map, AllByRecursion}
use Rattle.algol_tree.specs.declared.token.Spot.{Spot}
use Rattle.algol_tree.specs.declared.tree.Heading.{Heading}
use Rattle.algol_tree.specs.declared.tree.Named.{Named}
use Rattle.algol_tree.specs.Blocks.{Block, same_spot}
use Rattle.algol_tree.specs.Couples.{Known, known_at, known_by, known_in_decl, known_in_heading, known_names, known_there}
use Rattle.algol_tree.specs.Names.{specified}
use Rattle.algol_tree.specs.Plain as tree
use Rattle.algol_tree.specs.Plain.{PExpr, PExprs, PPair, PStmt, PStmts, PDecl, PDecls, PProgram}
use Rattle.algol_tree.specs.Scopes.{names_in}
use Rattle.algol_tree.specs.Sites as site
use Rattle.algol_tree.specs.Sites.{Part, Site, actual_part, first_formal, other_formals, name_part, wants_value, sites, inside_expr, inside_list, inside_actuals, sites_in_pairs, here_stmt, has_decls, inside_stmt, sites_in_stmts, inside_decl, sites_in_decls}
use Rattle.algol_tree.specs.Sorts.{Declared}
use Rattle.algol_tree.specs.Surroundings.{Surroundings, declared_as, knowing, inside_procedure}
use Rattle.algol_tree.proofs.Trees.{found_known}
use Rattle.algol_told.proofs.Lists.{all_append, all_weaker, of_each}
use Rattle.algol_told.proofs.Walk.{Behind, HoldsAt}

module _ (blocks : List Block) (Q : Declared → Type 0) where
  abbrev pub All : Surroundings → Type 0
  All a = AllByRecursion Q a.known

  abbrev IsRight : Known → Type 0
  IsRight k = Q k.declared

  right_one : (a : Surroundings) (n : Named) → All a → (o : Option Declared) → declared_as a n ≡ o → AllByRecursion IsRight (known_by n.spot o)
  right_one a n h None e = tt
  right_one a n h (Some d) e = (found_known Q a.known n.name d h e, tt)

  right_names : (a : Surroundings) (ns : List Named) → All a → AllByRecursion IsRight (known_names a ns)
  right_names a [] h = tt
  right_names a (n ∷ ns) h = all_append IsRight (known_by n.spot (declared_as a n)) (known_names a ns) (right_one a n h (declared_as a n) refl) (right_names a ns h)

  right_heading : (g : Heading) (a : Surroundings) → All a → AllByRecursion IsRight (known_in_heading g a)
  right_heading g a h =
      all_append IsRight (known_names a g.params ++ known_names a g.values) (known_names a (specified g))
      (all_append IsRight (known_names a g.params) (known_names a g.values) (right_names a g.params h) (right_names a g.values h)) (right_names a (specified g) h)

  right_decl : (d : PDecl) (later : PDecls) (a : Surroundings) → Behind blocks All (site.declaration d later) a → AllByRecursion IsRight (known_in_decl blocks d (knowing blocks d later a))
  right_decl (tree.simple kind ns) later a h = right_names (knowing blocks (tree.simple kind ns) later a) ns h
  right_decl (tree.files ns) later a h = right_names (knowing blocks (tree.files ns) later a) ns h
  right_decl (tree.events ns) later a h = right_names (knowing blocks (tree.events ns) later a) ns h
  right_decl (tree.tasks ns) later a h = right_names (knowing blocks (tree.tasks ns) later a) ns h
  right_decl (tree.labels ns) later a h = right_names (knowing blocks (tree.labels ns) later a) ns h
  right_decl (tree.arrays kind ns pairs) later a h = right_names (knowing blocks (tree.arrays kind ns pairs) later a) ns h
  right_decl (tree.forward g) later a h = right_names (knowing blocks (tree.forward g) later a) (g.name ∷ []) h
  right_decl (tree.procedure g s) later a h =
      let n : Surroundings = knowing blocks (tree.procedure g s) later a in
      let i : Surroundings = inside_procedure blocks g n in
      all_append IsRight (known_names n (g.name ∷ [])) (known_in_heading g i) (right_names n (g.name ∷ []) h.0) (right_heading g i h.1)

  right_part : (x : Part) (a : Surroundings) → All a → Behind blocks All x a → AllByRecursion IsRight (known_at blocks (record { part = x; around = a }))
  right_part (site.declaration d later) a h b = right_decl d later a b
  right_part (site.name n) a h b = right_names a (names_in (site.name n)) h
  right_part (site.expression e) a h b = right_names a (names_in (site.expression e)) h
  right_part (site.actual e f) a h b = right_names a (names_in (site.actual e f)) h
  right_part (site.bound e) a h b = right_names a (names_in (site.bound e)) h
  right_part (site.statement s listed) a h b = right_names a (names_in (site.statement s listed)) h

  right_found : (ks : List Known) (spot : Spot) (d : Declared) → AllByRecursion IsRight ks → known_there ks spot ≡ Some d → Q d
  right_found [] spot d h e = absurd (let clash : None ≡ Some d = e in cc)
  right_found (k ∷ ks) spot d h e = decide (same_spot k.spot spot) e (λ q. right_found ks spot d h.1 q)
    where
      decide : (b : Bool) → (if b then Some k.declared else known_there ks spot) ≡ Some d → (known_there ks spot ≡ Some d → Q d) → Q d
      decide true q later = let same : k.declared ≡ d = cc in subst Q same h.0
      decide false q later = later q

  pub everywhere : (places : List Site) → AllByRecursion (HoldsAt blocks All) places → (spot : Spot) (d : Declared) → known_there (flat_map (known_at blocks) places) spot ≡ Some d → Q d
  everywhere places hold spot d known =
      right_found (flat_map (known_at blocks) places) spot d
      (of_each IsRight (known_at blocks) places
      (all_weaker (HoldsAt blocks All) (λ (x : Site). AllByRecursion IsRight (known_at blocks x)) (λ x h. right_part x.part x.around h.around h.behind) places hold)) known
