-- Laws of what a head asks for.
use Rattle.std.proofs.Common.{◌≡◌, refl, List, ◌∙◌}
use Rattle.algol_tree.specs.Plain as tree
use Rattle.algol_tree.specs.Plain.{PStmt}
use Rattle.algol_tree.specs.Scopes.{Scopes}
use Rattle.algol_tree.specs.declared.tree.Named.{Named}
use Rattle.algol_meaning.specs.Value as plain
use Rattle.algol_meaning.specs.Rest.{Hole, Actuals, Aim, Item, busy, wants, aims}
use Rattle.algol_meaning.specs.Asks.{ask, ask_hole, ask_actuals, ask_aim}
use Rattle.algol_cells.specs.SeenValue.{value}
use Rattle.algol_rest_expr.specs.SeenExpression.{hole, wrap}
use Rattle.algol_rest.specs.SeenStatement.{role_at, sought_at, tested, stepped_by, held}
use Rattle.algol_rest_expr.proofs.Frames.{ask_wrap}
use Rattle.algol_rest_expr.specs.declared.part.Head.{Head}
use Rattle.algol_rest_expr.specs.declared.part.Frame.{Frame}
use Rattle.algol_rest.specs.declared.statement.Role.{Role}
use Rattle.algol_rest.specs.declared.statement.Role.TheVariants as role
use Rattle.algol_rest.specs.declared.statement.Sought.{Sought}
use Rattle.algol_rest.specs.declared.statement.Sought.TheVariants as sought
use Rattle.algol_rest.specs.declared.statement.Within.{Within}
use Rattle.algol_rest.specs.declared.statement.Within.TheVariants as within

pub ask_role : (r : Role) (n : Named) (x : Actuals) (k : List Item) → ask (role_at r n (wants x) k) ≡ ask_actuals x
ask_role role.Calls n x k = refl
ask_role (role.Starts task) n x k = refl

module _ (sc : Scopes) where
  pub ask_sought : (s : Sought) (a : Aim) (k : List Item) → ask (sought_at sc s (aims a) k) ≡ ask_aim a
  ask_sought (sought.Aiming r) a k = refl
  ask_sought sought.Locating a k = refl

  pub ask_tested : (s : PStmt) (h : Hole) (k : List Item) → ask (tested sc s (busy h) k) ≡ ask_hole h
  ask_tested tree.empty h k = refl
  ask_tested (tree.label n s) h k = refl
  ask_tested (tree.assign v e) h k = refl
  ask_tested (tree.call_of c) h k = refl
  ask_tested (tree.go_to n) h k = refl
  ask_tested (tree.block b) h k = refl
  ask_tested (tree.if_then c x) h k = refl
  ask_tested (tree.if_else c x y) h k = refl
  ask_tested (tree.while c b) h k = refl
  ask_tested (tree.until b c) h k = refl
  ask_tested (tree.for v e s l b) h k = refl
  ask_tested (tree.thru e b) h k = refl
  ask_tested (tree.case e ss) h k = refl
  ask_tested (tree.process c task) h k = refl
  ask_tested (tree.event act e) h k = refl
  ask_tested (tree.write n spot phrases es) h k = refl

  pub ask_stepped : (d : plain.Value) (s : PStmt) (h : Hole) (k : List Item) → ask (stepped_by sc d s (busy h) k) ≡ ask_hole h
  ask_stepped d tree.empty h k = refl
  ask_stepped d (tree.label n s) h k = refl
  ask_stepped d (tree.assign v e) h k = refl
  ask_stepped d (tree.call_of c) h k = refl
  ask_stepped d (tree.go_to n) h k = refl
  ask_stepped d (tree.block b) h k = refl
  ask_stepped d (tree.if_then c x) h k = refl
  ask_stepped d (tree.if_else c x y) h k = refl
  ask_stepped d (tree.while c b) h k = refl
  ask_stepped d (tree.until b c) h k = refl
  ask_stepped d (tree.for v e s l b) h k = refl
  ask_stepped d (tree.thru e b) h k = refl
  ask_stepped d (tree.case e ss) h k = refl
  ask_stepped d (tree.process c task) h k = refl
  ask_stepped d (tree.event act e) h k = refl
  ask_stepped d (tree.write n spot phrases es) h k = refl

  pub ask_held : (w : Within) (h : Hole) (k : List Item) → ask (held sc w (busy h) k) ≡ ask_hole h
  ask_held within.Evaluating h k = refl
  ask_held (within.Storing p) h k = refl
  ask_held (within.Testing s) h k = ask_tested _ h k
  ask_held (within.Stepping d s) h k = ask_stepped (value d) _ h k
  ask_held (within.Supplying r n gs es) h k = ask_role r _ _ k
  ask_held (within.Subscripting s n ks es) h k = ask_sought s _ k
  ask_held (within.Writing phrases vs es) h k = refl
  ask_held (within.Bounding kind ns ps vs more) h k = refl

  pub ask_in :
      (h : Head) (w : Within) (fs : List Frame) (k : List Item)
      → ask (held sc w (busy (wrap sc fs (hole sc h))) k) ≡ ask_hole (hole sc h)
  ask_in h w fs k = ask_held w (wrap sc fs (hole sc h)) k ∙ ask_wrap sc fs (hole sc h)

pub ruleset ask_laws = (ask_role, ask_sought, ask_in)
