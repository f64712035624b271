-- Each name of an accepted tree means one declaration.
use Rattle.std.proofs.Common.{◌≡◌, ℕ, ◌+◌, ◌≤◌, Bool, true, false, List, [], ◌∷◌, ◌++◌, map, Some, refl, ap, ◌∙◌, arith}
use Rattle.std.specs.Prelude.{if◌then◌else◌, length, not, is_some}
use Rattle.std.specs.List.{AllByRecursion}
use Rattle.algol_tree.specs.declared.tree.Named.{Named}
use Rattle.algol_tree.specs.declared.tree.Heading.{Heading}
use Rattle.algol_tree.specs.Plain as tree
use Rattle.algol_tree.specs.Plain.{PDecl, PDecls, PProgram}
use Rattle.algol_tree.specs.Classes as class
use Rattle.algol_tree.specs.Classes.{Class}
use Rattle.algol_tree.specs.Sorts as sort
use Rattle.algol_tree.specs.Sorts.{Declared, Sort, class_in, declare, is_named_in, look_up, same_name, sort_in}
use Rattle.algol_tree.specs.Blocks.{blocks_of_program, number_at}
use Rattle.algol_tree.specs.Surroundings.{Surroundings, announced, declare_procedure, declared_as, inside_procedure, knowing}
use Rattle.algol_tree.specs.Sites as site
use Rattle.algol_tree.specs.Sites.{Part, Site}
use Rattle.algol_tree.specs.Scopes.{names_in}
use Rattle.algol_tree.specs.Couples.{known_in_heading, known_in_part, known_names, known_there}
use Rattle.algol_tree.specs.Names.{if_so, is_no_parameter, places_if, specified, unknown_in_heading, unknown_in_part}
use Rattle.algol_tree.specs.Accepted.{scope_faults, sites_of}
use Rattle.algol_tree.specs.Ascending.{IsInOrder}
use Rattle.algol_tree.proofs.Names.{same_name_itself}
use Rattle.b67_list.proofs.Lists.{append_none_left, append_none_right}
use Rattle.algol_front_laws.specs.Couples.{cells_in_tree}
use Rattle.algol_front_laws.specs.Declarations.{EachHasOne, HasOne, NameAt, names_at, names_from, names_in_part, names_of_program}
use Rattle.algol_told.proofs.Lists.{all_append, all_both, all_left, all_right, all_weaker, of_contained, of_each}
use Rattle.algol_told.proofs.Known.{Finds, finds}
use Rattle.algol_told.proofs.Walk.{Behind, HoldsAt}
use Rattle.algol_front_laws.proofs.Tidy.{announced_named}
use Rattle.algol_told.proofs.Unbroken.{not_unknown}
use Rattle.algol_front_laws.proofs.Cells.{HasCell}
use Rattle.algol_front_laws.proofs.Couples.{coupled}
use Rattle.algol_told.proofs.Places.{IsSo, IsThere, declared_there, names_so, names_known}
use Rattle.algol_front_laws.proofs.Ready.{PassesIn, ReadyIn, all_pass, all_ready, one_there}

-- ---- one declaration

-- what stands in no block further in, and in the same block at the same place
abbrev IsNoOther : List ℕ → Declared → Declared → Type 0
IsNoOther name d e = e.name ≡ name → (e.depth ≤ d.depth) × (e.depth ≡ d.depth → (e.block ≡ d.block) × (e.spot ≡ d.spot))

module _ (p : PProgram) where
  -- the declaration that is found under the place of a name
  abbrev IsFound : Surroundings → Named → Type 0
  IsFound a n = IsSo (IsThere (names_known p)) a n

  abbrev AreFound : Surroundings → List Named → Type 0
  AreFound a ns = AllByRecursion (IsFound a) ns

  abbrev AreKnown : Surroundings → List Named → Type 0
  AreKnown a ns = AllByRecursion (λ (n : Named). is_some (declared_as a n) ≡ true) ns

  -- the name means one declaration, which is found under its place
  pub record IsOne (a : Surroundings) (n : Named) : Type 0 where
    pub one : HasOne p a n
    pub there : known_there (names_known p) n.spot ≡ Some one.declared

  one_of : (a : Surroundings) (n : Named) → ReadyIn p a → Finds a.known n.name → IsFound a n → IsOne a n
  one_of a n r f k =
      let d : Declared = f.declared in
      let one : HasOne p a n =
      record {
        declared = d;
        found = f.found;
        means =
            record {
              known = f.known;
              named = f.named;
              innermost = λ other c same. (of_contained (IsNoOther n.name d) a.known other f.others c same).0;
            };
        only =
            λ other m.
            let there = of_contained (IsNoOther n.name d) a.known other f.others m.known m.named in
            let back : d.depth ≤ other.depth = m.innermost d f.known f.named in
            let low : other.depth ≤ d.depth = there.0 in
            one_there p a r other d m.known f.known (there.1 (omega (arith, back, low))).1;
        held = declared_there p n.spot d (k d f.found);
        couple =
            λ takes.
            let its = of_contained (HasCell (blocks_of_program p) (cells_in_tree p)) a.known d r.cells f.known takes in
            coupled (blocks_of_program p) (sites_of p) (record { block = d.block; spot = d.spot; content = its.0 }) its.1;
      } in
      record { one = one; there = k d f.found }

  abbrev HaveOne : List NameAt → Type 0
  HaveOne ns = AllByRecursion (λ (n : NameAt). IsOne n.around n.name) ns

  names_have_one : (a : Surroundings) → ReadyIn p a → (ns : List Named) → AreKnown a ns → AreFound a ns → HaveOne (names_from a ns)
  names_have_one a r [] h k = tt
  names_have_one a r (n ∷ ns) h k = (one_of a n r (finds a.known n.name r.tidy.tidied h.0) k.0, names_have_one a r ns h.1 k.1)

  -- ---- names that are known

  -- as the rule of unknown names has it
  by_rule : (a : Surroundings) (ns : List Named) → places_if (λ (n : Named). not (is_some (declared_as a n))) ns ≡ [] → AreKnown a ns
  by_rule a [] h = tt
  by_rule a (n ∷ ns) h =
      let here = if_so (not (is_some (declared_as a n))) n.spot in
      let rest = places_if (λ (n : Named). not (is_some (declared_as a n))) ns in
      (not_unknown (is_some (declared_as a n)) n.spot (append_none_left here rest h), by_rule a ns (append_none_right here rest h))

  -- as one of those that are declared together
  known_among : (f : Named → Declared) → ((n : Named) → (f n).name ≡ n.name) → (ms : List Named) (ds : List Declared) (name : List ℕ) → is_named_in ms name ≡ true →
      is_some (look_up (map f ms ++ ds) name) ≡ true
  known_among f e [] ds name h = absurd (let clash : false ≡ true = h in cc)
  known_among f e (m ∷ ms) ds name h =
      ap (λ (n : List ℕ). is_some (if same_name n name then Some (f m) else look_up (map f ms ++ ds) name)) (e m)
      ∙ decide (same_name m.name name) h (λ k. known_among f e ms ds name k)
    where
      decide : (b : Bool) → (if b then true else is_named_in ms name) ≡ true → (is_named_in ms name ≡ true → is_some (look_up (map f ms ++ ds) name) ≡ true) →
          is_some (if b then Some (f m) else look_up (map f ms ++ ds) name) ≡ true
      decide true k on = refl
      decide false k on = on k

  -- each name of a list is named in it
  named_later : (m : Named) (ms : List Named) (name : List ℕ) → is_named_in ms name ≡ true → is_named_in (m ∷ ms) name ≡ true
  named_later m ms name h = decide (same_name m.name name)
    where
      decide : (b : Bool) → (if b then true else is_named_in ms name) ≡ true
      decide true = refl
      decide false = h

  named_itself : (ms : List Named) → AllByRecursion (λ (n : Named). is_named_in ms n.name ≡ true) ms
  named_itself [] = tt
  named_itself (m ∷ ms) = (
    ap (λ (b : Bool). if b then true else is_named_in ms m.name) (same_name_itself m.name),
    all_weaker (λ (n : Named). is_named_in ms n.name ≡ true) (λ (n : Named). is_named_in (m ∷ ms) n.name ≡ true) (λ n h. named_later m ms n.name h) ms (named_itself ms),
  )

  no_others : (h : Heading) (ns : List Named) → places_if (is_no_parameter h) ns ≡ [] → AllByRecursion (λ (n : Named). is_named_in h.params n.name ≡ true) ns
  no_others h [] e = tt
  no_others h (n ∷ ns) e =
      let here = if_so (is_no_parameter h n) n.spot in
      let rest = places_if (is_no_parameter h) ns in
      (not_unknown (is_named_in h.params n.name) n.spot (append_none_left here rest e), no_others h ns (append_none_right here rest e))

  -- ---- the names of declarations

  abbrev behind : (Named → Declared) → ℕ → ℕ → List Named → List Declared → Surroundings
  behind f block depth ms ds = record { block = block; depth = depth; known = map f ms ++ ds }

  module _ (f : Named → Declared) (name-of : (n : Named) → (f n).name ≡ n.name) (block depth : ℕ) (ms : List Named) (ds : List Declared)
      (r : ReadyIn p (behind f block depth ms ds))
    where
      -- names that are declared there
      among_have_one : (ns : List Named) → AllByRecursion (λ (n : Named). is_named_in ms n.name ≡ true) ns →
          AllByRecursion (IsThere (names_known p)) (known_names (behind f block depth ms ds) ns) → HaveOne (names_from (behind f block depth ms ds) ns)
      among_have_one ns h k =
          names_have_one (behind f block depth ms ds) r ns
          (all_weaker (λ (n : Named). is_named_in ms n.name ≡ true) (λ (n : Named). is_some (declared_as (behind f block depth ms ds) n) ≡ true)
          (λ n i. known_among f name-of ms ds n.name i) ns h) (names_so (IsThere (names_known p)) (behind f block depth ms ds) ns k)

      own_have_one : AllByRecursion (IsThere (names_known p)) (known_names (behind f block depth ms ds) ms) → HaveOne (names_from (behind f block depth ms ds) ms)
      own_have_one k = among_have_one ms (named_itself ms) k

  abbrev declaring : Surroundings → Sort → Class → Named → Declared
  declaring a s c n = record { name = n.name; spot = n.spot; block = a.block; depth = a.depth; sort = s; class = c }

  -- names of one sort that are declared together
  together : (s : Sort) (c : Class) (ns : List Named) (a : Surroundings) → ReadyIn p (record a { known = declare a.block a.depth s c ns ++ a.known }) →
      AllByRecursion (IsThere (names_known p)) (known_names (record a { known = declare a.block a.depth s c ns ++ a.known }) ns) →
      HaveOne (names_from (record a { known = declare a.block a.depth s c ns ++ a.known }) ns)
  together s c ns a r k = own_have_one (declaring a s c) (λ n. refl) a.block a.depth ns a.known r k

  -- the procedure of a FORWARD
  of_forward : (h g : Heading) (a : Surroundings) → g.name.name ≡ h.name.name →
      ReadyIn p (record a { known = declare_procedure (blocks_of_program p) g a ++ a.known }) →
      AllByRecursion (IsThere (names_known p)) (known_names (record a { known = declare_procedure (blocks_of_program p) g a ++ a.known }) (h.name ∷ [])) →
      HaveOne (names_from (record a { known = declare_procedure (blocks_of_program p) g a ++ a.known }) (h.name ∷ []))
  of_forward h g a e r k =
      let named : is_named_in (g.name ∷ []) h.name.name ≡ true =
      ap (λ (n : List ℕ). if same_name n h.name.name then true else false) e ∙ ap (λ (b : Bool). if b then true else false) (same_name_itself h.name.name) in
      among_have_one (declaring a (sort.procedure (number_at (blocks_of_program p) g.name.spot)) (class.procedure g)) (λ n. refl) a.block a.depth (g.name ∷ []) a.known r
      (h.name ∷ []) (named, tt) k

  -- the names of a heading, inside its procedure
  of_heading : (h : Heading) (b : Surroundings) → ReadyIn p (inside_procedure (blocks_of_program p) h b) → unknown_in_heading h ≡ [] →
      AllByRecursion (IsThere (names_known p)) (known_in_heading h (inside_procedure (blocks_of_program p) h b)) →
      HaveOne (names_from (inside_procedure (blocks_of_program p) h b) (h.params ++ h.values ++ specified h))
  of_heading h b r u k =
      let i : Surroundings = inside_procedure (blocks_of_program p) h b in
      let number : ℕ = number_at (blocks_of_program p) h.name.spot in
      let f : Named → Declared =
      λ (n : Named).
      record {
        name = n.name;
        spot = n.spot;
        block = number;
        depth = b.depth + 1;
        sort = sort_in h.specs (is_named_in h.values n.name) n.name;
        class = class_in h.specs n.name;
      } in
      let values = places_if (is_no_parameter h) h.values in
      let specs = places_if (is_no_parameter h) (specified h) in
      let known = all_left (IsThere (names_known p)) (known_names i h.params ++ known_names i h.values) (known_names i (specified h)) k in
      let found : AreFound i (h.params ++ h.values ++ specified h) =
      all_append (IsFound i) (h.params ++ h.values) (specified h)
      (all_append (IsFound i) h.params h.values
      (names_so (IsThere (names_known p)) i h.params (all_left (IsThere (names_known p)) (known_names i h.params) (known_names i h.values) known))
      (names_so (IsThere (names_known p)) i h.values (all_right (IsThere (names_known p)) (known_names i h.params) (known_names i h.values) known)))
      (names_so (IsThere (names_known p)) i (specified h)
      (all_right (IsThere (names_known p)) (known_names i h.params ++ known_names i h.values) (known_names i (specified h)) k)) in
      let among =
      all_append (λ (n : Named). is_named_in h.params n.name ≡ true) (h.params ++ h.values) (specified h)
      (all_append (λ (n : Named). is_named_in h.params n.name ≡ true) h.params h.values (named_itself h.params) (no_others h h.values (append_none_left values specs u)))
      (no_others h (specified h) (append_none_right values specs u)) in
      names_have_one i r (h.params ++ h.values ++ specified h)
      (all_weaker (λ (n : Named). is_named_in h.params n.name ≡ true) (λ (n : Named). is_some (declared_as i n) ≡ true)
      (λ n m. known_among f (λ n. refl) h.params b.known n.name m) (h.params ++ h.values ++ specified h) among) found

  of_decl : (d : PDecl) (later : PDecls) (a : Surroundings) → Behind (blocks_of_program p) (ReadyIn p) (site.declaration d later) a →
      unknown_in_part (site.declaration d later) a ≡ [] →
      AllByRecursion (IsThere (names_known p)) (known_in_part (blocks_of_program p) (site.declaration d later) a) →
      HaveOne (names_in_part (blocks_of_program p) (site.declaration d later) a)
  of_decl (tree.simple kind ns) later a r u k = together sort.variable (class.simple kind) ns a r k
  of_decl (tree.files ns) later a r u k = together sort.file class.file ns a r k
  of_decl (tree.events ns) later a r u k = together sort.event class.event ns a r k
  of_decl (tree.tasks ns) later a r u k = together sort.event class.task ns a r k
  of_decl (tree.labels ns) later a r u k = together sort.label class.label ns a r k
  of_decl (tree.arrays kind ns pairs) later a r u k = together sort.array (class.array kind (length pairs)) ns a r k
  of_decl (tree.forward h) later a r u k = of_forward h (announced h later) a (announced_named h later) r k
  of_decl (tree.procedure h s) later a r u k =
      let b : Surroundings = knowing (blocks_of_program p) (tree.procedure h s) later a in
      let i : Surroundings = inside_procedure (blocks_of_program p) h b in
      all_append (λ (n : NameAt). IsOne n.around n.name) (names_from b (h.name ∷ [])) (names_from i (h.params ++ h.values ++ specified h))
      (of_forward h h a refl r.0 (all_left (IsThere (names_known p)) (known_names b (h.name ∷ [])) (known_in_heading h i) k))
      (of_heading h b r.1 u (all_right (IsThere (names_known p)) (known_names b (h.name ∷ [])) (known_in_heading h i) k))

  -- ---- the whole tree

  in_use : (a : Surroundings) → ReadyIn p a → (ns : List Named) → places_if (λ (n : Named). not (is_some (declared_as a n))) ns ≡ [] →
      AllByRecursion (IsThere (names_known p)) (known_names a ns) → HaveOne (names_from a ns)
  in_use a r ns u k = names_have_one a r ns (by_rule a ns u) (names_so (IsThere (names_known p)) a ns k)

  of_part : (part : Part) (a : Surroundings) → ReadyIn p a → Behind (blocks_of_program p) (ReadyIn p) part a → unknown_in_part part a ≡ [] →
      AllByRecursion (IsThere (names_known p)) (known_in_part (blocks_of_program p) part a) → HaveOne (names_in_part (blocks_of_program p) part a)
  of_part (site.name n) a r b u k = in_use a r (names_in (site.name n)) u k
  of_part (site.expression e) a r b u k = in_use a r (names_in (site.expression e)) u k
  of_part (site.actual e f) a r b u k = tt
  of_part (site.bound e) a r b u k = tt
  of_part (site.statement s listed) a r b u k = in_use a r (names_in (site.statement s listed)) u k
  of_part (site.declaration d later) a r b u k = of_decl d later a b u k

  pub each_is_one : scope_faults p ≡ [] → IsInOrder p → AllByRecursion (λ (n : NameAt). IsOne n.around n.name) (names_of_program p)
  each_is_one h o =
      let blocks = blocks_of_program p in
      of_each (λ (n : NameAt). IsOne n.around n.name) (names_at blocks) (sites_of p)
      (all_both (HoldsAt blocks (ReadyIn p)) (PassesIn p) (λ (x : Site). HaveOne (names_at blocks x))
      (λ x r q. of_part x.part x.around r.around r.behind q.known q.its_names) (sites_of p) (all_ready p h o) (all_pass p h o))

  pub each_has_one : scope_faults p ≡ [] → IsInOrder p → EachHasOne p
  each_has_one h o =
      all_weaker (λ (n : NameAt). IsOne n.around n.name) (λ (n : NameAt). HasOne p n.around n.name) (λ n w. w.one) (names_of_program p) (each_is_one h o)
