-- The scopes tell of the names at each part of a tree what these are declared as there.
use Rattle.std.proofs.Common.{◌≡◌, ℕ, ◌+◌, ◌<◌, Bool, true, false, List, [], ◌∷◌, map, length, Option, Some, None, refl, ap, ◌∙◌, arith}
use Rattle.std.specs.Prelude.{if◌then◌else◌, is_some, not}
use Rattle.std.specs.List.{AllByRecursion}
use Rattle.std.specs.Option.{option_or}
use Rattle.algol_tree.specs.declared.token.Spot.{Spot}
use Rattle.algol_tree.specs.declared.tree.Named.{Named}
use Rattle.algol_tree.specs.declared.tree.Heading.{Heading}
use Rattle.algol_tree.specs.Plain as tree
use Rattle.algol_tree.specs.Plain.{PDecl, PDecls, PProgram, PStmt}
use Rattle.algol_tree.specs.Classes as class
use Rattle.algol_tree.specs.Sorts.{Declared, formals_of}
use Rattle.algol_tree.specs.Blocks.{Block, blocks_of_program, number_at, same_spot}
use Rattle.algol_tree.specs.Surroundings.{Surroundings, declared_as, inside_procedure, knowing}
use Rattle.algol_tree.specs.Sites as site
use Rattle.algol_tree.specs.Sites.{Part, Site, sites_in_decls}
use Rattle.algol_tree.specs.Scopes.{names_in}
use Rattle.algol_tree.specs.Cells.{couple_in, level_at}
use Rattle.algol_tree.specs.Couples.{Known, Located, known_at, known_there}
use Rattle.algol_tree.specs.Names.{declared_twice, if_so, places_if, unknown_in_part, unknown_names}
use Rattle.algol_tree.specs.Accepted.{sites_of}
use Rattle.algol_tree.specs.Ascending.{IsInOrder}
use Rattle.algol_tree.proofs.Trees.{found_known}
use Rattle.algol_sorts.specs.Sorts.{parameter_of, sort_of}
use Rattle.algol_frames.specs.declared.scopes.Declared as found
use Rattle.algol_frames.specs.declared.scopes.Scopes.{Scopes}
use Rattle.algol_scope.specs.Noting.{parameters_by, parameters_here}
use Rattle.algol_scope.specs.Resolved.{AreOf, Meaning, couple, declaration_of, located, meaning, meaning_at, meant, number_among, parameters_among, parameters_at}
use Rattle.b67_list.proofs.Lists.{append_none_left, append_none_right}
use Rattle.algol_told.specs.Telling.{EachPartIsTold, ScopesTell, TellsAt}
use Rattle.algol_told.proofs.Lists.{all_both, each_of, none_of}
use Rattle.algol_told.proofs.Walk.{HoldsAt, all_hold}
use Rattle.algol_told.proofs.Places.{IsSo, IsThere, declared_there, each_there, names_so, names_known}
use Rattle.algol_told.proofs.Held as held
use Rattle.algol_told.proofs.Held.{AllHeld, IsHeld}
use Rattle.algol_told.proofs.Headings.{AllAtHeadings, IsAtHeading, enters_at, knows_at}
use Rattle.algol_told.proofs.Unbroken.{named, not_unknown}

-- ---- what holds of all that are known holds of what is found

-- ---- parameters

pub parameters_there : (ks : List Known) (spot : Spot) (d : Declared) (h : Heading) → known_there ks spot ≡ Some d → d.spot ≡ spot → d.class ≡ class.procedure h →
    parameters_among ks spot ≡ Some (map parameter_of (formals_of h))
parameters_there [] spot d h e s c = absurd (let clash : None ≡ Some d = e in cc)
parameters_there (k ∷ ks) spot d h e s c = decide (same_spot k.spot spot) refl e (λ q. parameters_there ks spot d h q s c)
  where
    decide : (b : Bool) → same_spot k.spot spot ≡ b → (if b then Some k.declared else known_there ks spot) ≡ Some d →
        (known_there ks spot ≡ Some d → parameters_among ks spot ≡ Some (map parameter_of (formals_of h))) →
        option_or (if b then parameters_here k.spot k.declared else None) (parameters_among ks spot) ≡ Some (map parameter_of (formals_of h))
    decide false t q on = on q
    decide true t q on =
        let same : k.declared ≡ d = cc in
        let there : same_spot k.spot k.declared.spot ≡ true = ap (λ (x : Declared). same_spot k.spot x.spot) same ∙ ap (same_spot k.spot) s ∙ t in
        let here : parameters_here k.spot k.declared ≡ Some (map parameter_of (formals_of h)) =
        ap (λ b. if b then parameters_by k.declared.class else None) there ∙ ap (λ (x : Declared). parameters_by x.class) same ∙ ap parameters_by c in
        ap (λ o. option_or o (parameters_among ks spot)) here

-- ---- the number of a block

pub number_there : (n : ℕ) (bs : List Block) (spot : Spot) → number_at bs spot < length bs → number_among n bs spot ≡ Some (n + number_at bs spot)
number_there n [] spot h = absurd (omega (arith, h))
number_there n (b ∷ bs) spot h = decide (same_spot b.spot spot) h (number_there (n + 1) bs spot)
  where
    decide : (t : Bool) → (if t then 0 else number_at bs spot + 1) < length (b ∷ bs) →
        (number_at bs spot < length bs → number_among (n + 1) bs spot ≡ Some (n + 1 + number_at bs spot)) →
        option_or (if t then Some n else None) (number_among (n + 1) bs spot) ≡ Some (n + (if t then 0 else number_at bs spot + 1))
    decide true k on = (let none : n ≡ n + 0 = omega arith in ap (λ z. Some z) none)
    decide false k on =
        let less : number_at bs spot < length bs = omega (arith, k) in
        let next : n + 1 + number_at bs spot ≡ n + (number_at bs spot + 1) = omega arith in
        on less ∙ ap (λ z. Some z) next

-- ---- one name

pub meaning_there : (p : PProgram) (spot : Spot) (d : Declared) → known_there (names_known p) spot ≡ Some d →
    meaning_at p spot ≡ Some (record { block = d.block; sort = sort_of d })
unfolding meaning_at
meaning_there p spot d h = ap meant h

pub parameters_of_known : (p : PProgram) (d : Declared) (h : Heading) → known_there (names_known p) d.spot ≡ Some d → d.class ≡ class.procedure h →
    parameters_at p d.spot ≡ Some (map parameter_of (formals_of h))
unfolding parameters_at
parameters_of_known p d h e c = parameters_there (names_known p) d.spot d h e refl c

-- what a walk carries along
pub record Carries (p : PProgram) (a : Surroundings) : Type 0 where
  pub held : AllHeld (blocks_of_program p) (names_known p) a
  pub headings : AllAtHeadings (blocks_of_program p) a

module _ (p : PProgram) (s : Scopes) (are : AreOf p s) where
  tells_found : (a : Surroundings) (n : Named) (d : Declared) → Carries p a → declared_as a n ≡ Some d → known_there (names_known p) n.spot ≡ Some d →
      (o : Option found.Declared) → declaration_of s n.spot ≡ o →
      located o ≡
      Some
      (record { spot = d.spot; level = level_at d.depth; couple = couple_in (blocks_of_program p) (sites_of p) d.block d.spot }) →
      meaning o ≡ Some (record { block = d.block; sort = sort_of d }) → ScopesTell s a n
  tells_found a n d k f t None e l m = absurd (let clash : None ≡ Some (record { block = d.block; sort = sort_of d }) = m in cc)
  tells_found a n d k f t (Some x) e l m =
      let placed : record { spot = x.spot; level = x.level; couple = couple x.couple } ≡
      record { spot = d.spot; level = level_at d.depth; couple = couple_in (blocks_of_program p) (sites_of p) d.block d.spot } = cc in
      let means : record { block = x.block; sort = x.sort } ≡ record { block = d.block; sort = sort_of d } = cc in
      let there : known_there (names_known p) d.spot ≡ Some d = found_known (IsHeld (blocks_of_program p) (names_known p)) a.known n.name d k.held f in
      record {
        declared = d;
        found = f;
        told = x;
        answers = e;
        spot = ap (λ (z : Located). z.spot) placed;
        block = ap (λ (z : Meaning). z.block) means;
        level = ap (λ (z : Located). z.level) placed;
        sort = ap (λ (z : Meaning). z.sort) means;
        heading =
            λ h c.
            record {
              spot = found_known IsAtHeading a.known n.name d k.headings f h c;
              parameters = are.parameters d.spot ∙ parameters_of_known p d h there c;
            };
      }

  tells_one : (a : Surroundings) (n : Named) → Carries p a → is_some (declared_as a n) ≡ true → IsSo (IsThere (names_known p)) a n → ScopesTell s a n
  tells_one a n k h so = decide (declared_as a n) refl h
    where
      decide : (o : Option Declared) → declared_as a n ≡ o → is_some o ≡ true → ScopesTell s a n
      decide None e q = absurd (let clash : false ≡ true = q in cc)
      decide (Some d) e q =
          tells_found a n d k e (so d e) (declaration_of s n.spot) refl (are.declarations n.spot ∙ declared_there p n.spot d (so d e))
          (are.meanings n.spot ∙ meaning_there p n.spot d (so d e))

  tells_names : (a : Surroundings) (ns : List Named) → Carries p a → places_if (λ (n : Named). not (is_some (declared_as a n))) ns ≡ [] →
      AllByRecursion (IsSo (IsThere (names_known p)) a) ns → AllByRecursion (ScopesTell s a) ns
  tells_names a [] k h so = tt
  tells_names a (n ∷ ns) k h so =
      let here = if_so (not (is_some (declared_as a n))) n.spot in
      let rest = places_if (λ (n : Named). not (is_some (declared_as a n))) ns in (
        tells_one a n k (not_unknown (is_some (declared_as a n)) n.spot (append_none_left here rest h)) so.0,
        tells_names a ns k (append_none_right here rest h) so.1,
      )

  -- ---- one part

  tells_part : (x : Part) (a : Surroundings) → Carries p a → unknown_in_part x a ≡ [] →
      AllByRecursion (IsThere (names_known p)) (known_at (blocks_of_program p) (record { part = x; around = a })) → TellsAt s (record { part = x; around = a })
  tells_part (site.name n) a k u t = tells_names a (names_in (site.name n)) k u (names_so (IsThere (names_known p)) a (names_in (site.name n)) t)
  tells_part (site.expression e) a k u t =
      tells_names a (names_in (site.expression e)) k u (names_so (IsThere (names_known p)) a (names_in (site.expression e)) t)
  tells_part (site.actual e f) a k u t = tt
  tells_part (site.bound e) a k u t = tt
  tells_part (site.statement q listed) a k u t =
      tells_names a (names_in (site.statement q listed)) k u (names_so (IsThere (names_known p)) a (names_in (site.statement q listed)) t)
  tells_part (site.declaration d later) a k u t = tt

-- ---- all parts

module _ (p : PProgram) where
  abbrev pub Passes : Site → Type 0
  Passes x = held.Passes (blocks_of_program p) (names_known p) x

  begins : (spot : Spot) (a : Surroundings) → Carries p a → Carries p (record { block = number_at (blocks_of_program p) spot; depth = a.depth + 1; known = a.known })
  begins spot a k = record { held = k.held; headings = k.headings }

  knows : (d : PDecl) (ds : PDecls) (a : Surroundings) (begun : List Declared) → Carries p a →
      AllByRecursion Passes (sites_in_decls (blocks_of_program p) (tree.decls d ds) a begun) → Carries p (knowing (blocks_of_program p) d ds a)
  knows d ds a begun k o =
      record {
        held = held.knows (blocks_of_program p) (names_known p) d ds a begun k.held o;
        headings = knows_at (blocks_of_program p) d ds a k.headings;
      }

  enters : (h : Heading) (s : PStmt) (ds : PDecls) (a : Surroundings) → Carries p (knowing (blocks_of_program p) (tree.procedure h s) ds a) →
      Passes (record { part = site.declaration (tree.procedure h s) ds; around = a }) →
      Carries p (inside_procedure (blocks_of_program p) h (knowing (blocks_of_program p) (tree.procedure h s) ds a))
  enters h s ds a k o =
      record {
        held = held.enters (blocks_of_program p) (names_known p) h s ds a k.held o;
        headings = enters_at (blocks_of_program p) h (knowing (blocks_of_program p) (tree.procedure h s) ds a) k.headings;
      }

  pub all_pass : IsInOrder p → (s : Scopes) → AreOf p s → AllByRecursion Passes (sites_of p)
  all_pass o s are =
      let blocks = blocks_of_program p in
      let n = named p are.unbroken in
      all_both (λ (x : Site). (AllByRecursion (IsThere (names_known p)) (known_at blocks x))) (λ (x : Site). (unknown_names x ≡ []) × (declared_twice blocks x ≡ [])) Passes
      (λ x i r. record { its_names = i; once = r.1; known = r.0 }) (sites_of p) (each_of (IsThere (names_known p)) (known_at blocks) (sites_of p) (each_there p o))
      (all_both (λ (x : Site). unknown_names x ≡ []) (λ (x : Site). declared_twice blocks x ≡ []) (λ (x : Site). (unknown_names x ≡ []) × (declared_twice blocks x ≡ [])) (λ x u d. (u, d)) (sites_of p)
      (none_of unknown_names (sites_of p) n.known) (none_of (declared_twice blocks) (sites_of p) n.once))

pub each_part_is_told : EachPartIsTold
each_part_is_told p s order are =
    let pass = all_pass p order s are in
    all_both (HoldsAt (blocks_of_program p) (Carries p)) (Passes p) (TellsAt s)
    (λ x k q. tells_part p s are x.part x.around k.around q.known q.its_names) (sites_of p)
    (all_hold (blocks_of_program p) (Carries p) (Passes p) (begins p) (knows p) (enters p) p (record { held = tt; headings = tt }) pass) pass
