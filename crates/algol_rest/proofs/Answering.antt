-- Laws of what a part has still to do once its head has an answer.
use Rattle.std.proofs.Common.{◌≡◌, refl, ℕ, zero, suc, List, [], ◌∷◌, ap, ◌∙◌, sym, Option, Some, None, slice_get, slice_index_or, is_some, nat_lt, length, IfSome}
use Rattle.std.specs.Borrow.{Bor}
use Rattle.std.proofs.lemmas.Option.{slice_get_read, slice_get_past}
use Rattle.std.proofs.lemmas.Bool.{ltb-true, ltb-false}
use Rattle.algol_tree.specs.Plain as tree
use Rattle.algol_tree.specs.Plain.{PStmt}
use Rattle.algol_tree.specs.Scopes.{Scopes}
use Rattle.algol_tree.specs.declared.tree.Named.{Named}
use Rattle.algol_tree.specs.declared.tree.Stmt.{Stmt}
use Rattle.algol_meaning.specs.Value as plain
use Rattle.algol_meaning.specs.Rest.{Hole, Half, Actuals, Aim, Item, Answer, busy, wants, aims}
use Rattle.algol_meaning.specs.Settle.{answer_put, put_actuals, put_place}
use Rattle.algol_meaning.specs.Statements.{settle_items}
use Rattle.algol_meaning.specs.Asks.{resume, nth_stmt}
use Rattle.algol_meaning.specs.SeenTree.{stmt, stmts}
use Rattle.algol_cells.specs.SeenValue.{value}
use Rattle.algol_rest_expr.specs.SeenExpression.{hole, wrap, refilled}
use Rattle.algol_rest.specs.SeenRest.{stmt_or_empty}
use Rattle.algol_rest.specs.SeenStatement.{role_at, sought_at, deed_at, last_at, tested, stepped_by, held}
use Rattle.algol_rest_expr.proofs.Frames.{put_wrap}
use Rattle.algol_rest_expr.specs.declared.part.Head.{Head}
use Rattle.algol_rest_expr.specs.declared.part.Frame.{Frame}
use Rattle.algol_rest.specs.declared.statement.Role.{Role}
use Rattle.algol_rest.specs.declared.statement.Role.TheVariants as role
use Rattle.algol_rest.specs.declared.statement.Sought.{Sought}
use Rattle.algol_rest.specs.declared.statement.Sought.TheVariants as sought
use Rattle.algol_rest.specs.declared.statement.Deed.{Deed}
use Rattle.algol_rest.specs.declared.statement.Deed.TheVariants as deed
use Rattle.algol_rest.specs.declared.statement.Last.{Last}
use Rattle.algol_rest.specs.declared.statement.Last.TheVariants as last
use Rattle.algol_rest.specs.declared.statement.Within.{Within}
use Rattle.algol_rest.specs.declared.statement.Within.TheVariants as within

-- the statement of a CASE with that number
pub nth_there : (ss : List Stmt) (i : ℕ) (s : Stmt) → slice_get ss i ≡ Some s → stmt s ≡ nth_stmt (stmts ss) i
nth_there [] zero s e = cc
nth_there [] (suc i) s e = cc
nth_there (x ∷ ss) zero s e = let q : s ≡ x = cc in ap stmt q
nth_there (x ∷ ss) (suc i) s e = nth_there ss i s e

pub nth_past : (ss : List Stmt) (i : ℕ) → slice_get ss i ≡ None → tree.empty ≡ nth_stmt (stmts ss) i
nth_past [] zero e = refl
nth_past [] (suc i) e = refl
nth_past (x ∷ ss) zero e = cc
nth_past (x ∷ ss) (suc i) e = nth_past ss i e

pub nth_got :
    (ss : List Stmt) (i : ℕ) (r : Option (Bor Stmt)) → is_some r ≡ nat_lt i (length ss)
    → IfSome r (λ x. x.now ≡ slice_index_or ss i x.now) → stmt_or_empty r ≡ nth_stmt (stmts ss) i
nth_got ss i None b p = nth_past ss i (slice_get_past ss i (ltb-false i (length ss) (sym b)))
nth_got ss i (Some x) b p = nth_there ss i x.now (slice_get_read ss (length ss) i x.now refl (ltb-true i (length ss) (sym b)) p)

module _ (sc : Scopes) where
  pub resume_role :
      (r : Role) (n : Named) (x : Actuals) (k : List Item) (a : Answer)
      → resume sc (role_at r n (wants x) k) a ≡ role_at r n (put_actuals sc x a) k
  resume_role role.Calls n x k a = refl
  resume_role (role.Starts task) n x k a = refl

  pub resume_sought :
      (s : Sought) (x : Aim) (k : List Item) (a : Answer)
      → resume sc (sought_at sc s (aims x) k) a ≡ sought_at sc s (put_place sc x a) k
  resume_sought (sought.Aiming r) x k a = refl
  resume_sought sought.Locating x k a = refl

  pub resume_deed : (d : Deed) (k : List Item) (a : Answer) → resume sc (deed_at d k) a ≡ settle_items sc k
  resume_deed (deed.Store p v) k a = refl
  resume_deed deed.Turn k a = refl
  resume_deed (deed.Start n gs task) k a = refl
  resume_deed (deed.Event act n) k a = refl
  resume_deed (deed.Line phrases vs) k a = refl
  resume_deed (deed.Arrays kind ns ps vs) k a = refl
  resume_deed (deed.MakeEvent n) k a = refl
  resume_deed deed.Within k a = refl
  resume_deed deed.Dropping k a = refl

  pub resume_last : (l : Last) (a : Answer) → resume sc (last_at l) a ≡ last_at l
  resume_last last.Over a = refl
  resume_last (last.Giving v) a = refl
  resume_last (last.GivingPlace p) a = refl
  resume_last (last.Going n) a = refl

  pub resume_tested :
      (s : PStmt) (h : Hole) (k : List Item) (a : Answer)
      → resume sc (tested sc s (busy h) k) a ≡ tested sc s (answer_put sc h a) k
  resume_tested tree.empty h k a = refl
  resume_tested (tree.label n s) h k a = refl
  resume_tested (tree.assign v e) h k a = refl
  resume_tested (tree.call_of c) h k a = refl
  resume_tested (tree.go_to n) h k a = refl
  resume_tested (tree.block b) h k a = refl
  resume_tested (tree.if_then c x) h k a = refl
  resume_tested (tree.if_else c x y) h k a = refl
  resume_tested (tree.while c b) h k a = refl
  resume_tested (tree.until b c) h k a = refl
  resume_tested (tree.for v e s l b) h k a = refl
  resume_tested (tree.thru e b) h k a = refl
  resume_tested (tree.case e ss) h k a = refl
  resume_tested (tree.process c task) h k a = refl
  resume_tested (tree.event act e) h k a = refl
  resume_tested (tree.write n spot phrases es) h k a = refl

  pub resume_stepped :
      (d : plain.Value) (s : PStmt) (h : Hole) (k : List Item) (a : Answer)
      → resume sc (stepped_by sc d s (busy h) k) a ≡ stepped_by sc d s (answer_put sc h a) k
  resume_stepped d tree.empty h k a = refl
  resume_stepped d (tree.label n s) h k a = refl
  resume_stepped d (tree.assign v e) h k a = refl
  resume_stepped d (tree.call_of c) h k a = refl
  resume_stepped d (tree.go_to n) h k a = refl
  resume_stepped d (tree.block b) h k a = refl
  resume_stepped d (tree.if_then c x) h k a = refl
  resume_stepped d (tree.if_else c x y) h k a = refl
  resume_stepped d (tree.while c b) h k a = refl
  resume_stepped d (tree.until b c) h k a = refl
  resume_stepped d (tree.for v e s l b) h k a = refl
  resume_stepped d (tree.thru e b) h k a = refl
  resume_stepped d (tree.case e ss) h k a = refl
  resume_stepped d (tree.process c task) h k a = refl
  resume_stepped d (tree.event act e) h k a = refl
  resume_stepped d (tree.write n spot phrases es) h k a = refl

  pub resume_held :
      (w : Within) (h : Hole) (k : List Item) (a : Answer) → resume sc (held sc w (busy h) k) a ≡ held sc w (answer_put sc h a) k
  resume_held within.Evaluating h k a = refl
  resume_held (within.Storing p) h k a = refl
  resume_held (within.Testing s) h k a = resume_tested _ h k a
  resume_held (within.Stepping d s) h k a = resume_stepped (value d) _ h k a
  resume_held (within.Supplying r n gs es) h k a = resume_role r _ _ k a
  resume_held (within.Subscripting s n ks es) h k a = resume_sought s _ k a
  resume_held (within.Writing phrases vs es) h k a = refl
  resume_held (within.Bounding kind ns ps vs more) h k a = refl

  pub resume_in :
      (h : Head) (w : Within) (fs : List Frame) (k : List Item) (a : Answer)
      → resume sc (held sc w (busy (wrap sc fs (hole sc h))) k) a ≡ held sc w (refilled sc fs (answer_put sc (hole sc h) a)) k
  resume_in h w fs k a =
      resume_held w (wrap sc fs (hole sc h)) k a ∙ ap (λ (x : Half). held sc w x k) (put_wrap sc fs (hole sc h) a)

pub ruleset resume_laws = (resume_role, resume_sought, resume_deed, resume_last, resume_in)
