-- What the scopes of an accepted source hold under the place of a use is its declaration.
use Rattle.std.proofs.Common.{◌≡◌, inl, Bool, List, [], ◌∷◌, ◌++◌, map, Option, Some, None, refl, sym, subst, ap, ◌∙◌}
use Rattle.std.proofs.lemmas.List.{map-append}
use Rattle.std.specs.Prelude.{if◌then◌else◌}
use Rattle.std.specs.List.{AllByRecursion, flat_map}
use Rattle.algol_tree.specs.declared.token.Spot.{Spot}
use Rattle.algol_tree.specs.declared.tree.Named.{Named}
use Rattle.algol_tree.specs.declared.tree.Heading.{Heading}
use Rattle.algol_tree.specs.Plain as tree
use Rattle.algol_tree.specs.Plain.{PDecl, PDecls, PProgram}
use Rattle.algol_tree.specs.Sorts.{Declared}
use Rattle.algol_tree.specs.Blocks.{Block, blocks_of_program}
use Rattle.algol_tree.specs.Surroundings.{Surroundings, declared_as, inside_procedure, knowing}
use Rattle.algol_tree.specs.Sites as site
use Rattle.algol_tree.specs.Sites.{Part, Site}
use Rattle.algol_tree.specs.Scopes.{names_in}
use Rattle.algol_tree.specs.Names.{specified}
use Rattle.algol_tree.specs.Couples.{Known, declaration_at, known_at, known_by, known_in_decl, known_in_heading, known_in_part, known_names, known_there, located}
use Rattle.algol_tree.specs.Accepted.{sites_of}
use Rattle.algol_tree.specs.Ascending.{IsInOrder, spots_of_heading, spots_of_names}
use Rattle.algol_tree.proofs.Spots.{same_spot_itself}
use Rattle.algol_told.proofs.Lists.{all_right}
use Rattle.algol_told.proofs.Spots.{AreApart, AreSome, IsApart, some_apart, some_both}
use Rattle.algol_told.proofs.Apart.{names_apart, spots_at, spots_in_decl, spots_in_part}

abbrev spots : List Known → List Spot
spots ks = map (λ (k : Known). k.spot) ks

-- ---- what is known is under the places of names

both : (ks ls : List Known) (us vs : List Spot) → AreSome (spots ks) us → AreSome (spots ls) vs → AreSome (spots (ks ++ ls)) (us ++ vs)
both ks ls us vs h k =
    let P : List Spot → Type 0 = λ zs. AreSome zs (us ++ vs) in
    subst P (sym (map-append (λ (k : Known). k.spot) ks ls)) (some_both (spots ks) us (spots ls) vs h k)

of_name : (spot : Spot) (o : Option Declared) → AreSome (spots (known_by spot o)) (spot ∷ [])
of_name spot None = tt
of_name spot (Some d) = inl (refl, tt)

of_names : (a : Surroundings) (ns : List Named) → AreSome (spots (known_names a ns)) (spots_of_names ns)
of_names a [] = tt
of_names a (n ∷ ns) =
    both (known_by n.spot (declared_as a n)) (known_names a ns) (n.spot ∷ []) (spots_of_names ns) (of_name n.spot (declared_as a n)) (of_names a ns)

of_heading : (h : Heading) (a i : Surroundings) → AreSome (spots (known_names a (h.name ∷ []) ++ known_in_heading h i)) (spots_of_heading h)
of_heading h a i =
    both (known_names a (h.name ∷ [])) (known_in_heading h i) (h.name.spot ∷ [])
    ((spots_of_names h.params ++ spots_of_names h.values) ++ spots_of_names (specified h)) (of_names a (h.name ∷ []))
    (both (known_names i h.params ++ known_names i h.values) (known_names i (specified h)) (spots_of_names h.params ++ spots_of_names h.values)
    (spots_of_names (specified h))
    (both (known_names i h.params) (known_names i h.values) (spots_of_names h.params) (spots_of_names h.values) (of_names i h.params) (of_names i h.values))
    (of_names i (specified h)))

module _ (blocks : List Block) where
  of_decl : (d : PDecl) (a : Surroundings) → AreSome (spots (known_in_decl blocks d a)) (spots_in_decl d)
  of_decl (tree.simple kind ns) a = of_names a ns
  of_decl (tree.files ns) a = of_names a ns
  of_decl (tree.events ns) a = of_names a ns
  of_decl (tree.tasks ns) a = of_names a ns
  of_decl (tree.labels ns) a = of_names a ns
  of_decl (tree.arrays kind ns pairs) a = of_names a ns
  of_decl (tree.forward h) a = of_names a (h.name ∷ [])
  of_decl (tree.procedure h s) a = of_heading h a (inside_procedure blocks h a)

  of_part : (p : Part) (a : Surroundings) → AreSome (spots (known_in_part blocks p a)) (spots_in_part p)
  of_part (site.name n) a = of_names a (names_in (site.name n))
  of_part (site.expression e) a = of_names a (names_in (site.expression e))
  of_part (site.actual e f) a = tt
  of_part (site.bound e) a = tt
  of_part (site.statement s listed) a = of_names a (names_in (site.statement s listed))
  of_part (site.declaration d later) a = of_decl d (knowing blocks d later a)

  of_sites : (xs : List Site) → AreSome (spots (flat_map (known_at blocks) xs)) (flat_map spots_at xs)
  of_sites [] = tt
  of_sites (x ∷ xs) = both (known_at blocks x) (flat_map (known_at blocks) xs) (spots_at x) (flat_map spots_at xs) (of_part x.part x.around) (of_sites xs)

-- ---- what is found under a place

abbrev pub IsThere : List Known → Known → Type 0
IsThere ks k = known_there ks k.spot ≡ Some k.declared

there_first : (k : Known) (ks : List Known) → IsThere (k ∷ ks) k
there_first k ks = ap (λ (b : Bool). if b then Some k.declared else known_there ks k.spot) (same_spot_itself k.spot)

there_later : (k : Known) (ks ls : List Known) → AllByRecursion (IsApart k.spot) (spots ls) → AllByRecursion (IsThere ks) ls → AllByRecursion (IsThere (k ∷ ks)) ls
there_later k ks [] h t = tt
there_later k ks (l ∷ ls) h t =
    (ap (λ (b : Bool). if b then Some k.declared else known_there ks l.spot) h.0 ∙ t.0, there_later k ks ls h.1 t.1)

pub all_there : (ks : List Known) → AreApart (spots ks) → AllByRecursion (IsThere ks) ks
all_there [] h = tt
all_there (k ∷ ks) h = (there_first k ks, there_later k ks ks h.0 (all_there ks h.1))

module _ (P : Known → Type 0) where
  abbrev pub IsSo : Surroundings → Named → Type 0
  IsSo a n = (d : Declared) → declared_as a n ≡ Some d → P (record { spot = n.spot; declared = d })

  name_so : (a : Surroundings) (n : Named) (rest : List Known) → AllByRecursion P (known_by n.spot (declared_as a n) ++ rest) → IsSo a n
  name_so a n rest h d e =
      let Q : Option Declared → Type 0 = λ o. AllByRecursion P (known_by n.spot o ++ rest) in
      let k : AllByRecursion P (known_by n.spot (Some d) ++ rest) = subst Q e h in k.0

  pub names_so : (a : Surroundings) (ns : List Named) → AllByRecursion P (known_names a ns) → AllByRecursion (IsSo a) ns
  names_so a [] h = tt
  names_so a (n ∷ ns) h = (name_so a n (known_names a ns) h, names_so a ns (all_right P (known_by n.spot (declared_as a n)) (known_names a ns) h))

-- the names that stand in the text, each with its declaration
abbrev pub names_known : PProgram → List Known
names_known p = flat_map (known_at (blocks_of_program p)) (sites_of p)

-- in a tree in order a place tells the name that stands there
pub each_there : (p : PProgram) → IsInOrder p → AllByRecursion (IsThere (names_known p)) (names_known p)
each_there p o =
    let blocks = blocks_of_program p in
    all_there (names_known p)
    (some_apart (spots (names_known p)) (flat_map spots_at (sites_of p)) (of_sites blocks (sites_of p)) (names_apart p blocks o))

pub declared_there : (p : PProgram) (spot : Spot) (d : Declared) → known_there (names_known p) spot ≡ Some d →
    declaration_at p spot ≡ located (blocks_of_program p) (sites_of p) (Some d)
unfolding declaration_at
declared_there p spot d h = ap (located (blocks_of_program p) (sites_of p)) h
