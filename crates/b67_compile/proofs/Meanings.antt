-- What the names of a tree tell of what they are is what their declarations say.
use Rattle.std.proofs.Common.{◌≡◌, Bool, true, false, List, [], ◌∷◌, ◌++◌, map, Option, Some, None, refl, ap, ◌∙◌, subst, if◌then◌else◌}
use Rattle.std.specs.List.{AllByRecursion}
use Rattle.algol_tree.specs.declared.token.Spot.{Spot}
use Rattle.algol_tree.specs.declared.tree.Heading.{Heading}
use Rattle.algol_tree.specs.declared.tree.Named.{Named}
use Rattle.algol_tree.specs.Ascending.{IsInOrder}
use Rattle.algol_tree.specs.Accepted.{sites_of}
use Rattle.algol_tree.specs.Blocks.{Block, blocks_of_program, same_spot}
use Rattle.algol_tree.specs.Cells as cells
use Rattle.algol_tree.specs.Classes as class
use Rattle.algol_tree.specs.Classes.{Class, Formal}
use Rattle.algol_tree.specs.Couples.{Known, known_at, known_by, known_in_decl, known_in_heading, known_names, known_there}
use Rattle.algol_tree.specs.Couples as there
use Rattle.algol_tree.specs.Names.{specified}
use Rattle.algol_tree.specs.Plain as tree
use Rattle.algol_tree.specs.Plain.{PDecl, PDecls, PProgram}
use Rattle.algol_tree.specs.Scopes.{names_in}
use Rattle.algol_tree.specs.Sites as site
use Rattle.algol_tree.specs.Sites.{Part, Site}
use Rattle.algol_tree.specs.Sorts as sort
use Rattle.algol_tree.specs.Sorts.{Declared, Sort, formals_of}
use Rattle.algol_tree.specs.Surroundings.{Surroundings, declared_as, inside_procedure, knowing}
use Rattle.algol_tree.proofs.Trees.{found_known}
use Rattle.algol_sorts.specs.declared.sort.Sort as laid
use Rattle.algol_sorts.specs.declared.sort.Sort.TheVariants as sorts
use Rattle.algol_sorts.specs.Sorts.{sort_is_by_name, parameter_of, sort_by, sort_of}
use Rattle.algol_sorts.proofs.Sorts.{parameter_by_name}
use Rattle.algol_frames.specs.declared.scopes.Declared as found
use Rattle.algol_scope.specs.Resolved.{AreOf, Meaning, couple, declaration_of, located, meaning, parameters_of}
use Rattle.algol_told.proofs.Held as held
use Rattle.algol_told.proofs.Held.{AllHeld, IsHeld}
use Rattle.algol_told.proofs.Lists.{all_append, all_weaker, of_each}
use Rattle.algol_told.proofs.Places.{declared_there, names_known}
use Rattle.algol_told.proofs.Told.{all_pass, meaning_there, parameters_of_known}
use Rattle.algol_told.proofs.Walk.{Behind, HoldsAt, all_hold}
use Rattle.b67_templates.specs.Fitting.{a_procedure}
use Rattle.b67_emitter.specs.declared.names.Names.{Names}
use Rattle.b67_emitter.specs.Values.{meant, meant_declared, meant_sorted}
use Rattle.b67_fitting.specs.Fitted.{AreMeant, declared_at, meant_as}
use Rattle.b67_compile.proofs.Fits.{fits, fit_known}

-- ---- by what a name is declared as

modes : (fs : List Formal) → map sort_is_by_name (map parameter_of fs) ≡ map (λ (f : Formal). cells.formal_is_by_name (Some f)) fs
modes [] = refl
modes (f ∷ fs) =
    ap (λ (b : Bool). b ∷ map sort_is_by_name (map parameter_of fs)) (parameter_by_name f.class f.by_value) ∙ ap (λ (l : List Bool). cells.formal_is_by_name (Some f) ∷ l) (modes fs)

sorted : (ps : Option (List laid.Sort)) (c : Class) (s : Sort) → ((h : Heading) → c ≡ class.procedure h → ps ≡ Some (map parameter_of (formals_of h))) → fits c s ≡ true →
    meant_sorted ps (sort_by c s) ≡ meant_as c s
sorted ps (class.simple kind) sort.by_name f fit = refl
sorted ps (class.simple kind) s f fit = refl
sorted ps (class.array kind subscripts) (sort.formal_array lows) f fit = refl
sorted ps (class.array kind subscripts) s f fit = refl
sorted ps class.event sort.formal_event f fit = refl
sorted ps class.event sort.by_name f fit = absurd (let clash : false ≡ true = fit in cc)
sorted ps class.event (sort.formal_array lows) f fit = absurd (let clash : false ≡ true = fit in cc)
sorted ps class.event s f fit = refl
sorted ps class.task s f fit = refl
sorted ps class.label s f fit = refl
sorted ps class.file s f fit = refl
sorted ps class.unknown s f fit = refl
sorted ps (class.procedure h) s f fit =
    ap (λ (o : Option (List laid.Sort)). meant_sorted o (sorts.Procedure h.kind)) (f h refl) ∙ ap (λ (l : List Bool). a_procedure l) (modes (formals_of h))

-- ---- what is known of each name that stands in the text

module _ (blocks : List Block) (all : List Known) where
  abbrev Held : Known → Type 0
  Held k = IsHeld blocks all k.declared

  held_one : (a : Surroundings) (n : Named) → AllHeld blocks all a → (o : Option Declared) → declared_as a n ≡ o → AllByRecursion Held (known_by n.spot o)
  held_one a n h None e = tt
  held_one a n h (Some d) e = (found_known (IsHeld blocks all) a.known n.name d h e, tt)

  held_names : (a : Surroundings) (ns : List Named) → AllHeld blocks all a → AllByRecursion Held (known_names a ns)
  held_names a [] h = tt
  held_names a (n ∷ ns) h = all_append Held (known_by n.spot (declared_as a n)) (known_names a ns) (held_one a n h (declared_as a n) refl) (held_names a ns h)

  held_heading : (g : Heading) (a : Surroundings) → AllHeld blocks all a → AllByRecursion Held (known_in_heading g a)
  held_heading g a h =
      all_append Held (known_names a g.params ++ known_names a g.values) (known_names a (specified g))
      (all_append Held (known_names a g.params) (known_names a g.values) (held_names a g.params h) (held_names a g.values h)) (held_names a (specified g) h)

  held_decl : (d : PDecl) (later : PDecls) (a : Surroundings) → Behind blocks (AllHeld blocks all) (site.declaration d later) a →
      AllByRecursion Held (known_in_decl blocks d (knowing blocks d later a))
  held_decl (tree.simple kind ns) later a h = held_names (knowing blocks (tree.simple kind ns) later a) ns h
  held_decl (tree.files ns) later a h = held_names (knowing blocks (tree.files ns) later a) ns h
  held_decl (tree.events ns) later a h = held_names (knowing blocks (tree.events ns) later a) ns h
  held_decl (tree.tasks ns) later a h = held_names (knowing blocks (tree.tasks ns) later a) ns h
  held_decl (tree.labels ns) later a h = held_names (knowing blocks (tree.labels ns) later a) ns h
  held_decl (tree.arrays kind ns pairs) later a h = held_names (knowing blocks (tree.arrays kind ns pairs) later a) ns h
  held_decl (tree.forward g) later a h = held_names (knowing blocks (tree.forward g) later a) (g.name ∷ []) h
  held_decl (tree.procedure g s) later a h =
      let n : Surroundings = knowing blocks (tree.procedure g s) later a in
      let i : Surroundings = inside_procedure blocks g n in
      all_append Held (known_names n (g.name ∷ [])) (known_in_heading g i) (held_names n (g.name ∷ []) h.0) (held_heading g i h.1)

  held_part : (x : Part) (a : Surroundings) → AllHeld blocks all a → Behind blocks (AllHeld blocks all) x a →
      AllByRecursion Held (known_at blocks (record { part = x; around = a }))
  held_part (site.declaration d later) a h b = held_decl d later a b
  held_part (site.name n) a h b = held_names a (names_in (site.name n)) h
  held_part (site.expression e) a h b = held_names a (names_in (site.expression e)) h
  held_part (site.actual e f) a h b = held_names a (names_in (site.actual e f)) h
  held_part (site.bound e) a h b = held_names a (names_in (site.bound e)) h
  held_part (site.statement s listed) a h b = held_names a (names_in (site.statement s listed)) h

  pub held_found : (ks : List Known) (spot : Spot) (d : Declared) → AllByRecursion Held ks → known_there ks spot ≡ Some d → IsHeld blocks all d
  held_found [] spot d h e = absurd (let clash : None ≡ Some d = e in cc)
  held_found (k ∷ ks) spot d h e = decide (same_spot k.spot spot) e (λ q. held_found ks spot d h.1 q)
    where
      decide : (b : Bool) → (if b then Some k.declared else known_there ks spot) ≡ Some d → (known_there ks spot ≡ Some d → IsHeld blocks all d) → IsHeld blocks all d
      decide true q later = let same : k.declared ≡ d = cc in subst (IsHeld blocks all) same h.0
      decide false q later = later q

-- ---- a program

pub known_from : (p : PProgram) (spot : Spot) (d : Declared) → declared_at p spot ≡ Some d → known_there (names_known p) spot ≡ Some d
unfolding declared_at
known_from p spot d h = h

module _ (p : PProgram) (names : Names) (order : IsInOrder p) (are : AreOf p names.scopes.now) where
  abbrev blocks : List Block
  blocks = blocks_of_program p

  abbrev all : List Known
  all = names_known p

  pub all_held : AllByRecursion (Held blocks all) all
  all_held =
      let pass = all_pass p order names.scopes.now are in
      let holds =
      all_hold blocks (AllHeld blocks all) (held.Passes blocks all) (held.begins blocks all) (held.knows blocks all) (held.enters blocks all) p tt pass in
      of_each (Held blocks all) (known_at blocks) (sites_of p)
      (all_weaker (HoldsAt blocks (AllHeld blocks all)) (λ (x : Site). AllByRecursion (Held blocks all) (known_at blocks x)) (λ x h. held_part blocks all x.part x.around h.around h.behind)
      (sites_of p) holds)

  pub meant_known : AreMeant p (meant names)
  meant_known spot d h = by (declaration_of names.scopes.now spot) (are.declarations spot ∙ declared_there p spot d known) (are.meanings spot ∙ meaning_there p spot d known)
    where
      known : known_there all spot ≡ Some d
      known = known_from p spot d h

      spot_of : (x : found.Declared) → located (Some x) ≡ there.located blocks (sites_of p) (Some d) → x.spot ≡ d.spot
      spot_of x l =
          let both : record { spot = x.spot; level = x.level; couple = couple x.couple }
          ≡ record { spot = d.spot; level = cells.level_at d.depth; couple = cells.couple_in blocks (sites_of p) d.block d.spot } = cc in
          ap (λ (z : there.Located). z.spot) both

      by : (o : Option found.Declared) → located o ≡ there.located blocks (sites_of p) (Some d) → meaning o ≡ Some (record { block = d.block; sort = sort_of d }) →
          meant_declared names.scopes.now o ≡ meant_as d.class d.sort
      by None l m = absurd (let clash : None ≡ Some (record { block = d.block; sort = sort_of d }) = m in cc)
      by (Some x) l m =
          let means : record { block = x.block; sort = x.sort } ≡ record { block = d.block; sort = sort_of d } = cc in
          let same : x.sort ≡ sort_of d = ap (λ (z : Meaning). z.sort) means in
          let at : x.spot ≡ d.spot = spot_of x l in
          let own : known_there all d.spot ≡ Some d = held_found blocks all all spot d all_held known in
          let given : (g : Heading) → d.class ≡ class.procedure g → parameters_of names.scopes.now x.spot ≡ Some (map parameter_of (formals_of g)) =
          λ g c. ap (λ (z : Spot). parameters_of names.scopes.now z) at ∙ are.parameters d.spot ∙ parameters_of_known p d g own c in
          ap (λ (z : laid.Sort). meant_sorted (parameters_of names.scopes.now x.spot) z) same
          ∙ sorted (parameters_of names.scopes.now x.spot) d.class d.sort given (fit_known p spot d known)
