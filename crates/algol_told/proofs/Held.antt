-- In an accepted tree a place tells the declaration that stands there: it is the same wherever it is known.
use Rattle.std.proofs.Common.{◌≡◌, ℕ, ◌+◌, Bool, true, false, List, [], ◌∷◌, ◌++◌, map, Option, Some, None, refl, sym, subst, ap, ◌∙◌}
use Rattle.std.specs.Prelude.{if◌then◌else◌, is_some, not}
use Rattle.std.specs.List.{AllByRecursion}
use Rattle.algol_tree.specs.declared.token.Spot.{Spot}
use Rattle.algol_tree.specs.declared.tree.Named.{Named}
use Rattle.algol_tree.specs.declared.tree.Heading.{Heading}
use Rattle.algol_tree.specs.Plain as tree
use Rattle.algol_tree.specs.Plain.{PDecl, PDecls, PStmt}
use Rattle.algol_tree.specs.Classes as class
use Rattle.algol_tree.specs.Classes.{Class}
use Rattle.algol_tree.specs.Sorts as sort
use Rattle.algol_tree.specs.Sorts.{Declared, Sort, class_in, declare, declared_parameters, is_named_in, look_up, same_name, sort_in}
use Rattle.algol_tree.specs.Blocks.{Block, block_numbered, number_at}
use Rattle.algol_tree.specs.Surroundings.{Surroundings, announced, body_of, declared_as, heading_or, inside_procedure, knowing, made_known}
use Rattle.algol_tree.specs.Sites as site
use Rattle.algol_tree.specs.Sites.{Site, inside_decl, sites_in_decls}
use Rattle.algol_tree.specs.Couples.{Known, known_at, known_in_heading, known_names, known_there}
use Rattle.algol_tree.specs.Names.{declared_twice, if_so, is_announced_by, name_is_one_of, names_here, repeated, result_names, result_names_of, specified, twice_here, twice_in_heading, unknown_in_heading, unknown_names}
use Rattle.algol_tree.proofs.Names.{same_name_itself}
use Rattle.b67_list.proofs.Lists.{append_none_left, append_none_right, each_map}
use Rattle.algol_told.proofs.Lists.{all_append, all_both, all_left, all_right, false_not_true}
use Rattle.algol_told.proofs.Known.{nor_first, unseen}
use Rattle.algol_told.proofs.Unbroken.{not_unknown}
use Rattle.algol_told.proofs.Places.{IsSo, IsThere, names_so}

-- `all`: the names that stand in the text, each with its declaration
module _ (blocks : List Block) (all : List Known) where
  abbrev pub IsHeld : Declared → Type 0
  IsHeld d = known_there all d.spot ≡ Some d

  pub record Passes (x : Site) : Type 0 where
    pub its_names : AllByRecursion (IsThere all) (known_at blocks x)
    pub once : declared_twice blocks x ≡ []
    pub known : unknown_names x ≡ []

  -- ---- names that are declared together

  module _ (f : Named → Declared) (name-of : (n : Named) → (f n).name ≡ n.name) (spot-of : (n : Named) → (f n).spot ≡ n.spot) where
    -- each is the first of its name
    first_found : (ds : List Declared) (seen : List (List ℕ)) (ns : List Named) → repeated seen ns ≡ [] →
        AllByRecursion (λ (n : Named). look_up (map f ns ++ ds) n.name ≡ Some (f n)) ns
    first_found ds seen [] r = tt
    first_found ds seen (n ∷ ns) r =
        let rest : repeated (n.name ∷ seen) ns ≡ [] = append_none_right (if_so (name_is_one_of seen n.name) n.spot) (repeated (n.name ∷ seen) ns) r in (
          ap (λ (name : List ℕ). if same_name name n.name then Some (f n) else look_up (map f ns ++ ds) n.name) (name-of n)
              ∙ ap (λ (b : Bool). if b then Some (f n) else look_up (map f ns ++ ds) n.name) (same_name_itself n.name),
          all_both (λ (m : Named). name_is_one_of (n.name ∷ seen) m.name ≡ false) (λ (m : Named). look_up (map f ns ++ ds) m.name ≡ Some (f m))
              (λ (m : Named). look_up (f n ∷ (map f ns ++ ds)) m.name ≡ Some (f m))
              (λ m u e.
              ap (λ (name : List ℕ). if same_name name m.name then Some (f n) else look_up (map f ns ++ ds) m.name) (name-of n)
              ∙ ap (λ (b : Bool). if b then Some (f n) else look_up (map f ns ++ ds) m.name) (nor_first (same_name n.name m.name) (name_is_one_of seen m.name) u) ∙ e)
              ns (unseen (n.name ∷ seen) ns rest) (first_found ds (n.name ∷ seen) ns rest),
        )

    held : (block depth : ℕ) (ds : List Declared) (seen : List (List ℕ)) (ns : List Named) → repeated seen ns ≡ [] →
        AllByRecursion (IsThere all) (known_names (record { block = block; depth = depth; known = map f ns ++ ds }) ns) → AllByRecursion IsHeld (map f ns)
    held block depth ds seen ns r k =
        let a : Surroundings = record { block = block; depth = depth; known = map f ns ++ ds } in
        each_map IsHeld f ns
        (all_both (λ (n : Named). look_up (map f ns ++ ds) n.name ≡ Some (f n)) (IsSo (IsThere all) a) (λ (n : Named). IsHeld (f n))
        (λ n found there. ap (known_there all) (spot-of n) ∙ there (f n) found) ns (first_found ds seen ns r) (names_so (IsThere all) a ns k))

  declared_held : (s : Sort) (c : Class) (ns : List Named) (a : Surroundings) → twice_here blocks a ns ≡ [] →
      AllByRecursion (IsThere all) (known_names (record a { known = declare a.block a.depth s c ns ++ a.known }) ns) →
      AllByRecursion IsHeld (declare a.block a.depth s c ns)
  declared_held s c ns a r k =
      let f : Named → Declared = λ (n : Named). record { name = n.name; spot = n.spot; block = a.block; depth = a.depth; sort = s; class = c } in
      held f (λ n. refl) (λ n. refl) a.block a.depth a.known (result_names_of (block_numbered blocks a.block) ++ names_here a) ns r k

  -- ---- procedures

  abbrev procedure_of : Heading → Surroundings → Declared
  procedure_of h a =
      record { name = h.name.name; spot = h.name.spot; block = a.block; depth = a.depth; sort = sort.procedure (number_at blocks h.name.spot); class = class.procedure h }

  procedure_held : (h : Heading) (a : Surroundings) (rest : List Known) →
      AllByRecursion (IsThere all) (known_names (record a { known = procedure_of h a ∷ a.known }) (h.name ∷ []) ++ rest) → IsHeld (procedure_of h a)
  procedure_held h a rest k =
      let b : Surroundings = record a { known = procedure_of h a ∷ a.known } in
      (names_so (IsThere all) b (h.name ∷ []) (all_left (IsThere all) (known_names b (h.name ∷ [])) rest k)).0 (procedure_of h a)
      (ap (λ (t : Bool). if t then Some (procedure_of h a) else look_up a.known h.name.name) (same_name_itself h.name.name))

  -- the declarations after this one
  behind : (d : PDecl) (ds : PDecls) (a : Surroundings) (begun : List Declared) → AllByRecursion Passes (sites_in_decls blocks (tree.decls d ds) a begun) →
      AllByRecursion Passes (sites_in_decls blocks ds (knowing blocks d ds a) begun)
  behind d ds a begun p = all_right Passes (inside_decl blocks d (knowing blocks d ds a) begun) (sites_in_decls blocks ds (knowing blocks d ds a) begun) p.1

  body_held : (name : List ℕ) (ds : PDecls) (a : Surroundings) (begun : List Declared) (g : Heading) → body_of name ds ≡ Some g →
      AllByRecursion Passes (sites_in_decls blocks ds a begun) → IsHeld (procedure_of g a)
  body_held name tree.no_decls a begun g h p = absurd (let clash : None ≡ Some g = h in cc)
  body_held name (tree.decls (tree.procedure k s) ds) a begun g h p =
      decide (same_name k.name.name name) h
      (λ q. body_held name ds (knowing blocks (tree.procedure k s) ds a) begun g q (behind (tree.procedure k s) ds a begun p))
    where
      decide : (b : Bool) → (if b then Some k else body_of name ds) ≡ Some g → (body_of name ds ≡ Some g → IsHeld (procedure_of g a)) → IsHeld (procedure_of g a)
      decide true q on =
          let same : k ≡ g = cc in
          let P : Heading → Type 0 = λ x. IsHeld (procedure_of x a) in
          let n : Surroundings = knowing blocks (tree.procedure k s) ds a in
          subst P same (procedure_held k a (known_in_heading k (inside_procedure blocks k n)) p.0.its_names)
      decide false q on = on q
  body_held name (tree.decls (tree.simple kind ns) ds) a begun g h p =
      body_held name ds (knowing blocks (tree.simple kind ns) ds a) begun g h (behind (tree.simple kind ns) ds a begun p)
  body_held name (tree.decls (tree.files ns) ds) a begun g h p = body_held name ds (knowing blocks (tree.files ns) ds a) begun g h (behind (tree.files ns) ds a begun p)
  body_held name (tree.decls (tree.events ns) ds) a begun g h p = body_held name ds (knowing blocks (tree.events ns) ds a) begun g h (behind (tree.events ns) ds a begun p)
  body_held name (tree.decls (tree.tasks ns) ds) a begun g h p = body_held name ds (knowing blocks (tree.tasks ns) ds a) begun g h (behind (tree.tasks ns) ds a begun p)
  body_held name (tree.decls (tree.labels ns) ds) a begun g h p = body_held name ds (knowing blocks (tree.labels ns) ds a) begun g h (behind (tree.labels ns) ds a begun p)
  body_held name (tree.decls (tree.arrays kind ns ps) ds) a begun g h p =
      body_held name ds (knowing blocks (tree.arrays kind ns ps) ds a) begun g h (behind (tree.arrays kind ns ps) ds a begun p)
  body_held name (tree.decls (tree.forward k) ds) a begun g h p = body_held name ds (knowing blocks (tree.forward k) ds a) begun g h (behind (tree.forward k) ds a begun p)

  forward_held : (h : Heading) (ds : PDecls) (a : Surroundings) (begun : List Declared) →
      AllByRecursion Passes (sites_in_decls blocks (tree.decls (tree.forward h) ds) a begun) → IsHeld (procedure_of (announced h ds) a)
  forward_held h ds a begun p = decide (body_of h.name.name ds) refl
    where
      there : is_some (body_of h.name.name ds) ≡ true
      there =
          not_unknown (is_some (body_of h.name.name ds)) h.name.spot
          (append_none_left (if_so (not (is_some (body_of h.name.name ds))) h.name.spot) (unknown_in_heading h) p.0.known)

      decide : (o : Option Heading) → body_of h.name.name ds ≡ o → IsHeld (procedure_of (heading_or h o) a)
      decide None e = absurd (false_not_true (sym (ap (λ (o : Option Heading). is_some o) e) ∙ there))
      decide (Some g) e = body_held h.name.name ds (knowing blocks (tree.forward h) ds a) begun g e (behind (tree.forward h) ds a begun p)

  -- ---- at the sites of a tree

  abbrev pub AllHeld : Surroundings → Type 0
  AllHeld a = AllByRecursion IsHeld a.known

  made_held : (d : PDecl) (ds : PDecls) (a : Surroundings) (begun : List Declared) → AllByRecursion Passes (sites_in_decls blocks (tree.decls d ds) a begun) →
      AllByRecursion IsHeld (made_known blocks d ds a)
  made_held (tree.simple kind ns) ds a begun p = declared_held _ _ ns a p.0.once p.0.its_names
  made_held (tree.files ns) ds a begun p = declared_held _ _ ns a p.0.once p.0.its_names
  made_held (tree.events ns) ds a begun p = declared_held _ _ ns a p.0.once p.0.its_names
  made_held (tree.tasks ns) ds a begun p = declared_held _ _ ns a p.0.once p.0.its_names
  made_held (tree.labels ns) ds a begun p = declared_held _ _ ns a p.0.once p.0.its_names
  made_held (tree.arrays kind ns pairs) ds a begun p = declared_held _ _ ns a p.0.once p.0.its_names
  made_held (tree.forward h) ds a begun p = (forward_held h ds a begun p, tt)
  made_held (tree.procedure h s) ds a begun p =
      (procedure_held h a (known_in_heading h (inside_procedure blocks h (knowing blocks (tree.procedure h s) ds a))) p.0.its_names, tt)

  pub begins : (spot : Spot) (a : Surroundings) → AllHeld a → AllHeld (record { block = number_at blocks spot; depth = a.depth + 1; known = a.known })
  begins spot a h = h

  pub knows : (d : PDecl) (ds : PDecls) (a : Surroundings) (begun : List Declared) → AllHeld a → AllByRecursion Passes (sites_in_decls blocks (tree.decls d ds) a begun) →
      AllHeld (knowing blocks d ds a)
  knows d ds a begun h p = all_append IsHeld (made_known blocks d ds a) a.known (made_held d ds a begun p) h

  pub enters : (h : Heading) (s : PStmt) (ds : PDecls) (a : Surroundings) → AllHeld (knowing blocks (tree.procedure h s) ds a) →
      Passes (record { part = site.declaration (tree.procedure h s) ds; around = a }) → AllHeld (inside_procedure blocks h (knowing blocks (tree.procedure h s) ds a))
  enters h s ds a k p =
      let n : Surroundings = knowing blocks (tree.procedure h s) ds a in
      let i : Surroundings = inside_procedure blocks h n in
      let number : ℕ = number_at blocks h.name.spot in
      let f : Named → Declared =
      λ (n : Named).
      record {
        name = n.name;
        spot = n.spot;
        block = number;
        depth = a.depth + 1;
        sort = sort_in h.specs (is_named_in h.values n.name) n.name;
        class = class_in h.specs n.name;
      } in
      let twice =
      append_none_right (if is_announced_by a.block h (declared_as a h.name) then [] else twice_here blocks a (h.name ∷ [])) (twice_in_heading h) p.once in
      let its = all_right (IsThere all) (known_names n (h.name ∷ [])) (known_in_heading h i) p.its_names in
      let named = all_left (IsThere all) (known_names i h.params ++ known_names i h.values) (known_names i (specified h)) its in
      all_append IsHeld (declared_parameters number (a.depth + 1) h) n.known
      (held f (λ n. refl) (λ n. refl) number (a.depth + 1) n.known (result_names h) h.params
      (append_none_left (repeated (result_names h) h.params) (repeated [] (specified h)) twice)
      (all_left (IsThere all) (known_names i h.params) (known_names i h.values) named)) k
