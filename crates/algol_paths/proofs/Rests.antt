-- What a part has still to do keeps to the text of its block, whatever its head has answered.
use Rattle.std.proofs.Common.{ℕ, zero, suc, Bool, true, false, List}
use Rattle.std.specs.Prelude.{nat_abs}
use Rattle.algol_tree.specs.declared.tree.Named.{Named}
use Rattle.algol_tree.specs.Plain as tree
use Rattle.algol_tree.specs.Plain.{PStmts, PBody}
use Rattle.algol_tree.specs.Scopes.{Scopes}
use Rattle.algol_meaning.specs.Value.{whole_of}
use Rattle.algol_meaning.specs.Rest.{Half, val, busy, HalfPlace, at, aims, Item, Rest, over, reading, giving, giving_place, store, select, turning, going, entering_block, entering, starting, acting, line, arrays, event, within, dropping, evaluating, locating, aiming, storing, choosing, looping, checking, counting, differing, stepping, selecting, calling, preparing, writing, bounding, Answer, entered}
use Rattle.algol_meaning.specs.Settle.{is_typed, settle, half_of, answer_put, put_actuals, put_place}
use Rattle.algol_meaning.specs.Statements.{settle_line, settle_bounds, settle_stmt, run_and, turn_and, counted_body, settle_items}
use Rattle.algol_meaning.specs.Asks.{evaluated_of, located_of, nth_stmt, inside_or_after, asks_called, resume}
use Rattle.algol_paths.specs.Blocks.{BlockIsSeen, IsSeenAround, IsInner}
use Rattle.algol_paths.specs.Texts.{InAnswer, InStmt, InStmts, InItems, InRest}
use Rattle.algol_paths.specs.Laws.{RestsKeepToTheirText}
use Rattle.algol_paths.proofs.Expressions.{InHalf, InHalfPlace, half_in, settle_in, put_in, put_actuals_in, put_place_in}
use Rattle.algol_paths.proofs.Statements.{assigned_keeps, aimed_keeps, chosen_keeps, looped_keeps, checked_keeps, counted_keeps, selected_keeps, called_keeps, prepared_keeps, item_keeps, bound_keeps, line_keeps, bounds_keep, stmt_keeps, counted_body_keeps, tested_keeps, differed_keeps, settled_keeps, declared_keeps}

module _ (P : Named → Type 0) (Q : PBody → Type 0) (R : Named → Type 0) where
  evaluated_keeps : (x : Half) → InHalf P x → InRest P Q R (evaluated_of x)
  evaluated_keeps (val v) i = tt
  evaluated_keeps (busy h) i = i

  located_keeps : (x : HalfPlace) → InHalfPlace P x → InRest P Q R (located_of x)
  located_keeps (at p) i = i
  located_keeps (aims x) i = i

  nth_keeps : (ss : PStmts) (n : ℕ) → InStmts P Q ss → InStmt P Q (nth_stmt ss n)
  nth_keeps tree.no_stmts n i = tt
  nth_keeps (tree.stmts s ss) zero i = i.0
  nth_keeps (tree.stmts s ss) (suc n) i = nth_keeps ss n i.1

  module _ (sc : Scopes) where
    inside_keeps : (a : Answer) (k : List Item) → InItems P Q k → InRest P Q R (inside_or_after sc a k)
    inside_keeps entered k j = j
    inside_keeps _ k j = settled_keeps P Q R sc k j

    entered_keeps : (typed : Bool) (a : Answer) (k : List Item) → InItems P Q k → InRest P Q R (asks_called sc typed a k)
    entered_keeps true entered k j = j
    entered_keeps false entered k j = j
    entered_keeps typed _ k j = settled_keeps P Q R sc k j

    pub resumed_keeps : (r : Rest) (a : Answer) → InRest P Q R r → InAnswer P a → InRest P Q R (resume sc r a)
    resumed_keeps over a i j = tt
    resumed_keeps (reading name) a i j = evaluated_keeps (half_of a) (half_in P a)
    resumed_keeps (giving v) a i j = tt
    resumed_keeps (giving_place p) a i j = i
    resumed_keeps (store p v k) a i j = settled_keeps P Q R sc k i.1
    resumed_keeps (select v ss k) a i j =
        stmt_keeps P Q R sc (nth_stmt ss (nat_abs (whole_of v))) k (settle_items sc k) (nth_keeps ss (nat_abs (whole_of v)) i.0) i.1 (settled_keeps P Q R sc k i.1)
    resumed_keeps (turning k) a i j = settled_keeps P Q R sc k i
    resumed_keeps (going n) a i j = i
    resumed_keeps (entering_block (tree.body spot ds ss) k) a i j = inside_keeps a k i.1
    resumed_keeps (entering n gs k) a i j = entered_keeps (is_typed sc n) a k i.2
    resumed_keeps (starting n gs task k) a i j = settled_keeps P Q R sc k i.3
    resumed_keeps (acting act n k) a i j = settled_keeps P Q R sc k i.1
    resumed_keeps (line phrases vs k) a i j = settled_keeps P Q R sc k i
    resumed_keeps (arrays kind ns pairs vs k) a i j = declared_keeps P Q R sc k i
    resumed_keeps (event n k) a i j = declared_keeps P Q R sc k i
    resumed_keeps (within k) a i j = settled_keeps P Q R sc k i
    resumed_keeps (dropping k) a i j = settled_keeps P Q R sc k i
    resumed_keeps (evaluating h) a i j = evaluated_keeps (answer_put sc h a) (put_in P sc h a i)
    resumed_keeps (locating x) a i j = located_keeps (put_place sc x a) (put_place_in P sc x a i j)
    resumed_keeps (aiming x e k) a i j = aimed_keeps P Q R (put_place sc x a) e (settle sc e) k (put_place_in P sc x a i.0 j) i.1 (settle_in P sc e i.1) i.2
    resumed_keeps (storing p h k) a i j = assigned_keeps P Q R p (answer_put sc h a) k i.0 (put_in P sc h a i.1) i.2
    resumed_keeps (choosing h x y k) a i j =
        let r = settle_items sc k in
        let s = settled_keeps P Q R sc k i.3 in
        chosen_keeps P Q R (answer_put sc h a) x y k (settle_stmt sc x k r) (settle_stmt sc y k r) (put_in P sc h a i.0) i.1 i.2 i.3
        (stmt_keeps P Q R sc x k r i.1 i.3 s) (stmt_keeps P Q R sc y k r i.2 i.3 s)
    resumed_keeps (looping h c b k) a i j =
        let next = turning (run_and (tree.while c b) k) in
        looped_keeps P Q R (answer_put sc h a) c b k (settle_stmt sc b (turn_and (tree.while c b) k) next) (settle_items sc k) (put_in P sc h a i.0) i.1 i.2 i.3
        (stmt_keeps P Q R sc b (turn_and (tree.while c b) k) next i.2 (tt, ((i.1, i.2), i.3)) ((i.1, i.2), i.3)) (settled_keeps P Q R sc k i.3)
    resumed_keeps (checking h b c k) a i j =
        checked_keeps P Q R (answer_put sc h a) b c k (settle_items sc k) (put_in P sc h a i.0) i.1 i.2 i.3 (settled_keeps P Q R sc k i.3)
    resumed_keeps (counting h b k) a i j =
        counted_keeps P Q R (answer_put sc h a) b k (counted_body sc b k) (settle_items sc k) (put_in P sc h a i.0) i.1 i.2 (counted_body_keeps P Q R sc b k i.1 i.2)
        (settled_keeps P Q R sc k i.2)
    resumed_keeps (differing h loop k) a i j =
        differed_keeps P Q R sc (answer_put sc h a) loop k (settle_items sc k) (put_in P sc h a i.0) i.1 i.2 (settled_keeps P Q R sc k i.2)
    resumed_keeps (stepping d h loop k) a i j =
        tested_keeps P Q R sc d (answer_put sc h a) loop k (settle_items sc k) (put_in P sc h a i.0) i.1 i.2 (settled_keeps P Q R sc k i.2)
    resumed_keeps (selecting h ss k) a i j = selected_keeps P Q R (answer_put sc h a) ss k (put_in P sc h a i.0) i.1 i.2
    resumed_keeps (calling n x k) a i j = called_keeps P Q R n (put_actuals sc x a) k i.0 (put_actuals_in P sc x a i.1) i.2
    resumed_keeps (preparing n x task k) a i j = prepared_keeps P Q R n (put_actuals sc x a) task k i.0 (put_actuals_in P sc x a i.1) i.2 i.3
    resumed_keeps (writing phrases vs h es k) a i j =
        item_keeps P Q R phrases vs (answer_put sc h a) es k (settle_line sc es phrases k) (put_in P sc h a i.0) i.1 i.2 (λ ws. line_keeps P Q R sc es phrases k ws i.1 i.2)
    resumed_keeps (bounding kind ns pairs vs h ps k) a i j =
        bound_keeps P Q R kind ns pairs vs (answer_put sc h a) ps k (settle_bounds sc ps kind ns pairs k) (put_in R sc h a i.0) i.1 i.2
        (λ ws. bounds_keep P Q R sc ps kind ns pairs k ws i.1 i.2)

-- ---- the law

pub rests_keep_to_their_text : RestsKeepToTheirText
rests_keep_to_their_text = record {
  settled = λ sc j k i. declared_keeps (BlockIsSeen sc j) (IsInner sc j) (IsSeenAround sc j) sc k i;
  resumed = λ sc j r a i l. resumed_keeps (BlockIsSeen sc j) (IsInner sc j) (IsSeenAround sc j) sc r a i l;
}
