-- The walk over a whole program finds its first fault, exactly where there is one.
use Rattle.std.proofs.Common.{◌≡◌, ◌+◌, List, [], ◌∷◌, ◌++◌, map, reverse, Option, Some, None, refl, ap, sym, ◌∙◌, subst}
use Rattle.std.specs.Prelude.{Result, Err, IfOk, if◌then◌else◌}
use Rattle.std.specs.List.{flat_map}
use Rattle.algol_tree.specs.declared.token.Spot.{Spot}
use Rattle.algol_tree.specs.declared.tree.Body.{Body}
use Rattle.algol_tree.specs.declared.refusal.Code.{Code}
use Rattle.algol_tree.specs.declared.refusal.Fault.{Fault}
use Rattle.algol_tree.specs.declared.refusal.Refusal.{Refusal}
use Rattle.algol_tree.specs.declared.refusal.Refusal.TheVariants as refusals
use Rattle.algol_tree.specs.Plain as tree
use Rattle.algol_tree.specs.Plain.{PBody, PDecls, PProgram, PStmts}
use Rattle.algol_tree.specs.Image.{body, decls, stmts}
use Rattle.algol_tree.specs.Blocks.{Block, blocks_in_body, blocks_of_program, number_at, outer_block}
use Rattle.algol_tree.specs.Surroundings.{Surroundings, outermost}
use Rattle.algol_tree.specs.Sites.{sites_in_body}
use Rattle.algol_tree.specs.Ascending.{IsInOrder}
use Rattle.algol_tree.specs.Accepted.{check_faults, first_fault, noted_all}
use Rattle.algol_tree.proofs.Images.{body_is}
use Rattle.algol_tree.proofs.Spots.{same_spot_itself}
use Rattle.algol_rules.specs.Refusing.{refusing}
use Rattle.algol_rules.proofs.Order.{first_none}
use Rattle.algol_frames.specs.declared.scopes.Scopes.{Scopes}
use Rattle.algol_scope.specs.Resolved.{AreOf, number_of_block}
use Rattle.algol_told.proofs.Told.{each_part_is_told}
use Rattle.algol_sites.specs.declared.label.Standing.{Standing}
use Rattle.algol_sites.specs.Labelling.{bad_in, labels_at, standing_as, standings_at}
use Rattle.algol_sites.specs.Noting.{noted_along}
use Rattle.algol_sites.specs.Placing.{AreFound, BlockIsFound, SiteIsPlaced, BlockNumbers, outer_of}
use Rattle.algol_sites.proofs.Checked.{checked}
use Rattle.algol_check.specs.declared.checker.Checker.{Checker}
use Rattle.algol_check.specs.Walking.{PlaceIsAt, WalksBody}
use Rattle.algol_check.proofs.Ordered.{stand_apart}
use Rattle.algol_check.proofs.Walked.{found_alike}

-- nothing was noted
pub record IsFresh (c : Checker) (begin : Spot) : Type 0 where
  pub block : c.place.block ≡ begin
  pub around : c.place.around.items ≡ []
  pub placed : (blocks : List Block) (b : Block) (a : Surroundings) → BlockIsFound blocks b → b.spot ≡ begin → b.outer ≡ [] → a.block ≡ number_at blocks begin → SiteIsPlaced blocks c.place a
  pub labels : c.labels.items ≡ []
  pub standings : c.standings.items ≡ []
  pub faults : c.faults.first ≡ None

numbers : (p : PProgram) (scopes : Scopes) → AreOf p scopes → BlockNumbers scopes (blocks_of_program p)
unfolding number_of_block
numbers p scopes are = are.numbers

fresh_outer : (c : Checker) (spot : Spot) → IsFresh c spot → outer_of c.place ≡ spot ∷ []
fresh_outer c spot h =
    ap (λ (ss : List Spot). c.place.block ∷ reverse ss) h.around ∙ ap (λ (s : Spot). s ∷ []) h.block

plain_first : (scopes : Scopes) (spot : Spot) (ds : PDecls) (ss : PStmts) (c d : Checker) (g : Option Fault) → IsInOrder (tree.program (tree.body spot ds ss)) →
    AreOf (tree.program (tree.body spot ds ss)) scopes → IsFresh c spot → WalksBody scopes c d (tree.body spot ds ss) →
    g ≡ noted_all d.faults.first (bad_in d.standings.items d.labels.items) → g ≡ first_fault (check_faults (tree.program (tree.body spot ds ss)))
unfolding blocks_of_program
plain_first scopes spot ds ss c d g order are fresh w q =
    let b = tree.body spot ds ss in
    let p = tree.program b in
    let blocks = outer_block b ∷ blocks_in_body b (spot ∷ []) in
    let found : AreFound blocks blocks = stand_apart p order in
    let number : 0 ≡ number_at blocks spot = sym (ap (λ same. if same then 0 else number_at (blocks_in_body b (spot ∷ [])) spot + 1) (same_spot_itself spot)) in
    let at : PlaceIsAt scopes blocks c.place outermost =
    record { placed = fresh.placed blocks (outer_block b) outermost found.0 refl refl number; numbers = numbers p scopes are } in
    let n = w.notes blocks outermost at (each_part_is_told p scopes order are)
    (found_alike blocks (blocks_in_body b (spot ∷ [])) (blocks_in_body b (outer_of c.place)) (ap (blocks_in_body b) (sym (fresh_outer c spot fresh))) found.1) in
    let parts = sites_in_body blocks b outermost in
    checked p d.faults.first g d.standings.items d.labels.items (n.faults ∙ ap (λ f. noted_along blocks f parts) fresh.faults)
    (n.standings ∙ ap (λ (xs : List Standing). map standing_as xs ++ flat_map standings_at parts) fresh.standings)
    (n.labels ∙ ap (λ (ls : List Spot). ls ++ flat_map labels_at parts) fresh.labels) q

pub first_found : (scopes : Scopes) (b : Body) (c d : Checker) (g : Option Fault) → IsInOrder (tree.program (body b)) → AreOf (tree.program (body b)) scopes →
    IsFresh c b.spot → WalksBody scopes c d (body b) → g ≡ noted_all d.faults.first (bad_in d.standings.items d.labels.items) →
    g ≡ first_fault (check_faults (tree.program (body b)))
first_found scopes b c d g order are fresh w q =
    let P : PBody → Type 0 = λ x. IsInOrder (tree.program x) in
    let Q : PBody → Type 0 = λ x. WalksBody scopes c d x in
    let R : PBody → Type 0 = λ x. AreOf (tree.program x) scopes in
    plain_first scopes b.spot (decls b.decls) (stmts b.stmts) c d g (subst P (body_is b) order) (subst R (body_is b) are) fresh (subst Q (body_is b) w) q
    ∙ sym (ap (λ (x : PBody). first_fault (check_faults (tree.program x))) (body_is b))

-- ---- the answer

abbrev refused_at : Refusal → Result (Unit {0}) Refusal
refused_at r = Err r

fault_of : (f : Fault) (spot : Spot) (code : Code) → f.spot ≡ spot → f.code ≡ code → f ≡ record { spot = spot; code = code }
fault_of f spot code e k = ap (λ (s : Spot). record { spot = s; code = f.code }) e ∙ ap (λ (x : Code). record { spot = spot; code = x }) k

refused_by : (o : Option Fault) (spot : Spot) (code : Code) → refusing o ≡ refused_at (refusals.At spot code) → o ≡ Some (record { spot = spot; code = code })
refused_by None spot code e = cc
refused_by (Some f) spot code e =
    let place : f.spot ≡ spot = cc in
    let rule : f.code ≡ code = cc in
    ap Some (fault_of f spot code place rule)

pub refused_first : (p : PProgram) (o : Option Fault) (r : Result (Unit {0}) Refusal) (spot : Spot) (code : Code) → o ≡ first_fault (check_faults p) → r ≡ refusing o →
    r ≡ refused_at (refusals.At spot code) → first_fault (check_faults p) ≡ Some (record { spot = spot; code = code })
refused_first p o r spot code e q h = sym e ∙ refused_by o spot code (sym q ∙ h)

passed_by : (fs : List Fault) (o : Option Fault) → o ≡ first_fault fs → IfOk (refusing o) (λ x. fs ≡ [])
passed_by fs None e = first_none fs (sym e)
passed_by fs (Some f) e = tt

pub passed_none : (p : PProgram) (o : Option Fault) (r : Result (Unit {0}) Refusal) → o ≡ first_fault (check_faults p) → r ≡ refusing o → IfOk r (λ x. check_faults p ≡ [])
passed_none p o r e q =
    let P : Result (Unit {0}) Refusal → Type 0 = λ y. IfOk y (λ x. check_faults p ≡ []) in subst P (sym q) (passed_by (check_faults p) o e)
