-- The scopes tell of the parameters of each procedure what these are declared as.
use Rattle.std.proofs.Common.{◌≡◌, ℕ, ◌+◌, Bool, true, false, List, [], ◌∷◌, ◌++◌, map, Option, Some, None, refl, sym, ap, ◌∙◌}
use Rattle.std.specs.Prelude.{if◌then◌else◌}
use Rattle.std.specs.List.{AllByRecursion}
use Rattle.algol_tree.specs.declared.token.Spot.{Spot}
use Rattle.algol_tree.specs.declared.tree.Named.{Named}
use Rattle.algol_tree.specs.declared.tree.Heading.{Heading}
use Rattle.algol_tree.specs.Plain as tree
use Rattle.algol_tree.specs.Plain.{PDecl, PDecls, PProgram, PStmt}
use Rattle.algol_tree.specs.Sorts.{Declared, class_in, is_named_in, look_up, same_name, sort_in}
use Rattle.algol_tree.specs.Blocks.{blocks_of_program, number_at}
use Rattle.algol_tree.specs.Surroundings.{Surroundings, declared_as, inside_procedure, knowing}
use Rattle.algol_tree.specs.Sites as site
use Rattle.algol_tree.specs.Sites.{Part}
use Rattle.algol_tree.specs.Cells.{couple_in, level_at}
use Rattle.algol_tree.specs.Couples.{Located, known_in_heading, known_names, known_there}
use Rattle.algol_tree.specs.Names.{if_so, is_announced_by, is_no_parameter, places_if, repeated, result_names, specified, twice_here, twice_in_heading}
use Rattle.algol_tree.specs.Accepted.{sites_of}
use Rattle.algol_tree.proofs.Names.{same_name_is, same_name_itself}
use Rattle.algol_sorts.specs.Sorts.{parameter_by, sort_of}
use Rattle.algol_sorts.proofs.Sorts.{parameter_declared}
use Rattle.algol_frames.specs.declared.scopes.Declared as laid
use Rattle.algol_frames.specs.declared.scopes.Scopes.{Scopes}
use Rattle.algol_scope.specs.Resolved.{AreOf, Meaning, couple, declaration_of, located, meaning}
use Rattle.b67_list.proofs.Lists.{append_none_left, append_none_right}
use Rattle.b67_list.proofs.Truths.{either_so}
use Rattle.algol_told.specs.Parameters.{HasAt, ParametersAreTold, PartHas, TellsDecl, TellsParameter, TellsParameters, parameter_place_in}
use Rattle.algol_told.proofs.Lists.{all_both, all_left, all_right, all_weaker, none_of}
use Rattle.algol_told.proofs.Places.{IsSo, IsThere, declared_there, names_so, names_known}
use Rattle.algol_told.proofs.Told.{Passes, all_pass, meaning_there}
use Rattle.algol_told.proofs.Unbroken.{not_unknown}

-- ---- the first parameter of a name

module _ (h : Heading) (block depth : ℕ) (ds : List Declared) where
  abbrev parameter : Named → Declared
  parameter n =
      record { name = n.name; spot = n.spot; block = block; depth = depth; sort = sort_in h.specs (is_named_in h.values n.name) n.name; class = class_in h.specs n.name }

  record IsFirst (ps : List Named) (name : List ℕ) : Type 0 where
    pub first : Named
    pub place : parameter_place_in ps name ≡ Some first.spot
    pub called : first.name ≡ name
    pub found : look_up (map parameter ps ++ ds) name ≡ Some (parameter first)

  first_of : (ps : List Named) (name : List ℕ) → is_named_in ps name ≡ true → IsFirst ps name
  first_of [] name e = absurd (let clash : false ≡ true = e in cc)
  first_of (p ∷ ps) name e = decide (same_name p.name name) refl e (first_of ps name)
    where
      decide : (b : Bool) → same_name p.name name ≡ b → (if b then true else is_named_in ps name) ≡ true → (is_named_in ps name ≡ true → IsFirst ps name) → IsFirst (p ∷ ps) name
      decide true t q on =
          record {
            first = p;
            place = ap (λ (c : Bool). if c then Some p.spot else parameter_place_in ps name) t;
            called = same_name_is p.name name t;
            found = ap (λ (c : Bool). if c then Some (parameter p) else look_up (map parameter ps ++ ds) name) t;
          }
      decide false t q on =
          let r = on q in
          record {
            first = r.first;
            place = ap (λ (c : Bool). if c then Some p.spot else parameter_place_in ps name) t ∙ r.place;
            called = r.called;
            found = ap (λ (c : Bool). if c then Some (parameter p) else look_up (map parameter ps ++ ds) name) t ∙ r.found;
          }

-- each parameter is among them
pub each_is_named : (ps : List Named) → AllByRecursion (λ (n : Named). is_named_in ps n.name ≡ true) ps
each_is_named [] = tt
each_is_named (p ∷ ps) = (
  ap (λ (b : Bool). if b then true else is_named_in ps p.name) (same_name_itself p.name),
  all_weaker (λ (n : Named). is_named_in ps n.name ≡ true) (λ (n : Named). is_named_in (p ∷ ps) n.name ≡ true)
      (λ n e. either_so (same_name p.name n.name) (is_named_in ps n.name) e) ps (each_is_named ps),
)

-- names that are all parameters'
all_named : (h : Heading) (ns : List Named) → places_if (is_no_parameter h) ns ≡ [] → AllByRecursion (λ (n : Named). is_named_in h.params n.name ≡ true) ns
all_named h ns e =
    all_weaker (λ (m : Named). if_so (is_no_parameter h m) m.spot ≡ []) (λ (m : Named). is_named_in h.params m.name ≡ true)
    (λ m k. not_unknown (is_named_in h.params m.name) m.spot k) ns (none_of (λ (m : Named). if_so (is_no_parameter h m) m.spot) ns e)

-- ---- what the scopes hold under a place

record HasTold (s : Scopes) (spot : Spot) (d : Declared) : Type 0 where
  pub told : laid.Declared
  pub answers : declaration_of s spot ≡ Some told
  pub place : told.spot ≡ d.spot
  pub sort : told.sort ≡ sort_of d

module _ (p : PProgram) (s : Scopes) (are : AreOf p s) where
  told_by : (spot : Spot) (d : Declared) (o : Option laid.Declared) → declaration_of s spot ≡ o →
      located o ≡ Some (record { spot = d.spot; level = level_at d.depth; couple = couple_in (blocks_of_program p) (sites_of p) d.block d.spot }) →
      meaning o ≡ Some (record { block = d.block; sort = sort_of d }) → HasTold s spot d
  told_by spot d None e l m = absurd (let clash : None ≡ Some (record { block = d.block; sort = sort_of d }) = m in cc)
  told_by spot d (Some x) e l m =
      let placed : record { spot = x.spot; level = x.level; couple = couple x.couple } ≡
      record { spot = d.spot; level = level_at d.depth; couple = couple_in (blocks_of_program p) (sites_of p) d.block d.spot } = cc in
      let means : record { block = x.block; sort = x.sort } ≡ record { block = d.block; sort = sort_of d } = cc in
      record { told = x; answers = e; place = ap (λ (z : Located). z.spot) placed; sort = ap (λ (z : Meaning). z.sort) means }

  told_there : (spot : Spot) (d : Declared) → known_there (names_known p) spot ≡ Some d → HasTold s spot d
  told_there spot d h =
      told_by spot d (declaration_of s spot) refl (are.declarations spot ∙ declared_there p spot d h) (are.meanings spot ∙ meaning_there p spot d h)

  -- a name that is a parameter's, in the procedure
  abbrev IsSoIn : Heading → Surroundings → Named → Type 0
  IsSoIn h a n = IsSo (IsThere (names_known p)) (inside_procedure (blocks_of_program p) h a) n

  tells_one : (h : Heading) (a : Surroundings) (n : Named) → is_named_in h.params n.name ≡ true → IsSoIn h a n → TellsParameter s h n
  tells_one h a n e so =
      let block = number_at (blocks_of_program p) h.name.spot in
      let f = first_of h block (a.depth + 1) a.known h.params n.name e in
      let d = parameter h block (a.depth + 1) a.known f.first in
      let t = told_there n.spot d (so d f.found) in
      record {
        told = t.told;
        answers = t.answers;
        place = f.place ∙ ap (λ (z : Spot). Some z) (sym t.place);
        sort = t.sort ∙ sym (parameter_declared h.specs (is_named_in h.values f.first.name) f.first.name)
            ∙ ap (λ (name : List ℕ). parameter_by (class_in h.specs name) (is_named_in h.values name)) f.called;
      }

  tells_all : (h : Heading) (a : Surroundings) (ns : List Named) → AllByRecursion (λ (n : Named). is_named_in h.params n.name ≡ true) ns → AllByRecursion (IsSoIn h a) ns →
      AllByRecursion (TellsParameter s h) ns
  tells_all h a ns e so = all_both (λ (n : Named). is_named_in h.params n.name ≡ true) (IsSoIn h a) (TellsParameter s h) (tells_one h a) ns e so

  -- ---- at the declaration of the procedure

  tells_heading : (h : Heading) (b : PStmt) (later : PDecls) (a : Surroundings) → Passes p (record { part = site.declaration (tree.procedure h b) later; around = a }) → TellsParameters s h
  tells_heading h b later a k =
      let blocks = blocks_of_program p in
      let There = IsThere (names_known p) in
      let n : Surroundings = knowing blocks (tree.procedure h b) later a in
      let i : Surroundings = inside_procedure blocks h n in
      let its = all_right There (known_names n (h.name ∷ [])) (known_in_heading h i) k.its_names in
      let front = all_left There (known_names i h.params ++ known_names i h.values) (known_names i (specified h)) its in
      let twice : twice_in_heading h ≡ [] =
      append_none_right (if is_announced_by a.block h (declared_as a h.name) then [] else twice_here blocks a (h.name ∷ [])) (twice_in_heading h) k.once in
      record {
        parameters = tells_all h n h.params (each_is_named h.params) (names_so There i h.params (all_left There (known_names i h.params) (known_names i h.values) front));
        valued =
            tells_all h n h.values (all_named h h.values (append_none_left (places_if (is_no_parameter h) h.values) (places_if (is_no_parameter h) (specified h)) k.known))
            (names_so There i h.values (all_right There (known_names i h.params) (known_names i h.values) front));
        mentioned =
            tells_all h n (specified h) (all_named h (specified h) (append_none_right (places_if (is_no_parameter h) h.values) (places_if (is_no_parameter h) (specified h)) k.known))
            (names_so There i (specified h) (all_right There (known_names i h.params ++ known_names i h.values) (known_names i (specified h)) its));
        once = append_none_left (repeated (result_names h) h.params) (repeated [] (specified h)) twice;
        mentioned_once = append_none_right (repeated (result_names h) h.params) (repeated [] (specified h)) twice;
      }

  tells_decl : (d : PDecl) (later : PDecls) (a : Surroundings) → Passes p (record { part = site.declaration d later; around = a }) → TellsDecl s d later
  tells_decl (tree.procedure h b) later a k = tells_heading h b later a k
  tells_decl d later a k = tt

  tells_part : (x : Part) (a : Surroundings) → Passes p (record { part = x; around = a }) → PartHas (TellsDecl s) x
  tells_part (site.declaration d later) a k = tells_decl d later a k
  tells_part x a k = tt

pub parameters_are_told : ParametersAreTold
parameters_are_told p s order are =
    all_weaker (Passes p) (HasAt (TellsDecl s)) (λ x k. tells_part p s are x.part x.around k) (sites_of p) (all_pass p order s are)
