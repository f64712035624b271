-- The silent steps of statements. `k` is what comes after a statement, and `r` is that after the silent steps. Each loop unfolds at
-- most to its next turn.
use Rattle.std.specs.Prelude.{ℕ, if◌then◌else◌, ℤ, pos, ◌-ℤ◌, ◌*ℤ◌, int_lt, Bool, true, false, List, [], ◌∷◌, ◌++◌, map, Option, Some, None}
use Rattle.algol_tree.specs.declared.tree.Op.TheVariants as operators
use Rattle.algol_tree.specs.declared.tree.Kind.{Kind}
use Rattle.algol_tree.specs.declared.tree.Named.{Named}
use Rattle.algol_tree.specs.declared.tree.PhraseText.{PhraseText}
use Rattle.algol_tree.specs.Plain as tree
use Rattle.algol_tree.specs.Plain.{PExpr, PExprs, PPair, PStmt, PStmts, PDecl, PDecls, PBody}
use Rattle.algol_meaning.specs.Value.{Value, whole_of, truth_of}
use Rattle.algol_tree.specs.Sorts.{same_name}
use Rattle.algol_tree.specs.Blocks.{Block}
use Rattle.algol_tree.specs.Scopes.{Scopes}
use Rattle.algol_meaning.specs.Rest.{Place, Half, val, busy, HalfGiven, given, wants, HalfPlace, at, aims, Loop, Item, run, turn, count, check, test, result, make_arrays, make_event, Rest, over, reading, store, select, turning, going, entering_block, entering, starting, acting, line, arrays, event, aiming, storing, choosing, looping, checking, counting, differing, stepping, selecting, calling, preparing, writing, bounding}
use Rattle.algol_meaning.specs.Settle.{sorts_of, callee, settle, settle_actuals, settle_place}

abbrev pub items : PStmts → List Item → List Item
items tree.no_stmts k = k
items (tree.stmts s ss) k = run s ∷ items ss k

-- the statement comes first; a turn and then the statement
abbrev pub run_and : PStmt → List Item → List Item
run_and s k = run s ∷ k

abbrev pub turn_and : PStmt → List Item → List Item
turn_and s k = turn ∷ run s ∷ k

abbrev pub assigned_of : Place → Half → List Item → Rest
assigned_of p (val v) k = store p v k
assigned_of p (busy h) k = storing p h k

-- `settled` is the right side after the silent steps
abbrev pub aimed_at : HalfPlace → PExpr → Half → List Item → Rest
aimed_at (at p) e settled k = assigned_of p settled k
aimed_at (aims a) e settled k = aiming a e k

-- the last arguments are the two statements after the silent steps
abbrev pub chosen_of : Half → PStmt → PStmt → List Item → Rest → Rest → Rest
chosen_of (val v) x y k settled_x settled_y = if truth_of v then settled_x else settled_y
chosen_of (busy h) x y k settled_x settled_y = choosing h x y k

abbrev pub looped_of : Half → PExpr → PStmt → List Item → Rest → Rest → Rest
looped_of (val v) c b k body r = if truth_of v then body else r
looped_of (busy h) c b k body r = looping h c b k

abbrev pub checked_of : Half → PStmt → PExpr → List Item → Rest → Rest
checked_of (val v) b c k r = if truth_of v then r else turning (run_and (tree.until b c) k)
checked_of (busy h) b c k r = checking h b c k

-- the body stands there where the number is at least 1
abbrev pub repeated_of : ℤ → (ℤ → Rest) → Rest → Rest
repeated_of n body r = if int_lt (pos 0) n then body n else r

abbrev pub counted_of : Half → PStmt → List Item → (ℤ → Rest) → Rest → Rest
counted_of (val v) b k body r = repeated_of (whole_of v) body r
counted_of (busy h) b k body r = counting h b k

-- what comes after the body of THRU n
abbrev pub after_count : ℤ → PStmt → List Item → List Item
after_count n b k = count (n -ℤ pos 1) b ∷ k

abbrev pub selected_of : Half → PStmts → List Item → Rest
selected_of (val v) ss k = select v ss k
selected_of (busy h) ss k = selecting h ss k

abbrev pub statement_called_of : Named → HalfGiven → List Item → Rest
statement_called_of n (given gs) k = entering n gs k
statement_called_of n (wants x) k = calling n x k

abbrev pub prepared_of : Named → HalfGiven → Option Named → List Item → Rest
prepared_of n (given gs) task k = starting n gs task k
prepared_of n (wants x) task k = preparing n x task k

-- an item of a line; `go_on` is what becomes of the line once the item has a value
abbrev pub item_of : List PhraseText → List Value → Half → PExprs → List Item → (List Value → Rest) → Rest
item_of phrases vs (val v) es k go_on = go_on (vs ++ v ∷ [])
item_of phrases vs (busy h) es k go_on = writing phrases vs h es k

abbrev pub bound_of : Kind → List Named → List PPair → List Value → Half → List PPair → List Item → (List Value → Rest) → Rest
bound_of kind ns pairs vs (val v) ps k go_on = go_on (vs ++ v ∷ [])
bound_of kind ns pairs vs (busy h) ps k go_on = bounding kind ns pairs vs h ps k

abbrev pub begun_of : PBody → List Item → Rest → Rest
begun_of (tree.body spot tree.no_decls ss) k settled = settled
begun_of (tree.body spot (tree.decls d ds) ss) k settled = entering_block (tree.body spot (tree.decls d ds) ss) k

abbrev pub sign_of : ℤ → ℤ
sign_of z = if int_lt z (pos 0) then pos 0 -ℤ pos 1 else if int_lt (pos 0) z then pos 1 else pos 0

-- the product of the difference with the step's sign is above 0
abbrev pub is_past : ℤ → ℤ → Bool
is_past difference step = int_lt (pos 0) (difference *ℤ sign_of step)

-- a name by itself
abbrev pub alone : Named → PExpr
alone n = tree.variable (tree.subscripted n tree.none)

abbrev pub difference_in : Loop → PExpr
difference_in loop = tree.two operators.Sub (alone loop.control) loop.last

-- what follows the body
abbrev pub stepped : Loop → PStmt
stepped loop = tree.assign (tree.subscripted loop.control tree.none) (tree.two operators.Add (alone loop.control) loop.step)

module _ (sc : Scopes) where
  abbrev pub assignment : Named → PExpr → List Item → Rest
  assignment n e k = aimed_at (settle_place sc (tree.subscripted n tree.none)) e (settle sc e) k

  -- the items of a line from left to right, and then the line
  abbrev pub settle_line : PExprs → List PhraseText → List Item → List Value → Rest
  settle_line tree.none phrases k vs = line phrases vs k
  settle_line (tree.more e es) phrases k vs = item_of phrases vs (settle sc e) es k (settle_line es phrases k)

  -- upper bounds from left to right, and then the arrays
  abbrev pub settle_bounds : List PPair → Kind → List Named → List PPair → List Item → List Value → Rest
  settle_bounds [] kind ns pairs k vs = arrays kind ns pairs vs k
  settle_bounds (p ∷ ps) kind ns pairs k vs = bound_of kind ns pairs vs (settle sc p.high) ps k (settle_bounds ps kind ns pairs k)

  abbrev mutual
    pub settle_stmt : PStmt → List Item → Rest → Rest
    settle_stmt tree.empty k r = r
    settle_stmt (tree.label n s) k r = settle_stmt s k r
    settle_stmt (tree.assign v e) k r = aimed_at (settle_place sc v) e (settle sc e) k
    settle_stmt (tree.call_of (tree.called n es)) k r =
        statement_called_of n (settle_actuals sc es (sorts_of (callee sc n).parameters) []) k
    settle_stmt (tree.go_to n) k r = going n
    settle_stmt (tree.block b) k r = begun_of b k (settle_body b k r)
    settle_stmt (tree.if_then c x) k r =
        chosen_of (settle sc c) x tree.empty k (settle_stmt x k r) r
    settle_stmt (tree.if_else c x y) k r =
        chosen_of (settle sc c) x y k (settle_stmt x k r) (settle_stmt y k r)
    settle_stmt (tree.while c b) k r =
        looped_of (settle sc c) c b k (settle_stmt b (turn_and (tree.while c b) k) (turning (run_and (tree.while c b) k))) r
    settle_stmt (tree.until b c) k r =
        settle_stmt b (check b c ∷ k) (checked_of (settle sc c) b c k r)
    settle_stmt (tree.for v a s l b) k r =
        assignment v a (test (record { control = v; step = s; last = l; body = b }) ∷ k)
    settle_stmt (tree.thru e b) k r =
        counted_of (settle sc e) b k (λ n. settle_stmt b (turn ∷ after_count n b k) (turning (after_count n b k))) r
    settle_stmt (tree.case e ss) k r = selected_of (settle sc e) ss k
    settle_stmt (tree.process (tree.called n es) task) k r =
        prepared_of n (settle_actuals sc es (sorts_of (callee sc n).parameters) []) task k
    settle_stmt (tree.event act e) k r = acting act e.name k
    settle_stmt (tree.write n spot phrases es) k r = settle_line es phrases k []

    pub settle_stmts : PStmts → List Item → Rest → Rest
    settle_stmts tree.no_stmts k r = r
    settle_stmts (tree.stmts s ss) k r = settle_stmt s (items ss k) (settle_stmts ss k r)

    pub settle_body : PBody → List Item → Rest → Rest
    settle_body (tree.body spot ds ss) k r = settle_stmts ss k r

  -- the body of THRU n, and what comes after it
  abbrev pub counted_body : PStmt → List Item → ℤ → Rest
  counted_body b k n = settle_stmt b (turn ∷ after_count n b k) (turning (after_count n b k))

  -- ---- the test of FOR

  abbrev pub again : Loop → List Item → Rest
  again loop k =
      settle_stmt loop.body (run (stepped loop) ∷ turn ∷ test loop ∷ k)
      (settle_stmt (stepped loop) (turn ∷ test loop ∷ k) (turning (test loop ∷ k)))

  abbrev pub tested_of : Value → Half → Loop → List Item → Rest → Rest
  tested_of difference (val v) loop k r = if is_past (whole_of difference) (whole_of v) then r else (again loop k)
  tested_of difference (busy h) loop k r = stepping difference h loop k

  abbrev pub differed_of : Half → Loop → List Item → Rest → Rest
  differed_of (val v) loop k r = tested_of v (settle sc loop.step) loop k r
  differed_of (busy h) loop k r = differing h loop k

  abbrev pub settle_items : List Item → Rest
  settle_items [] = over
  settle_items (run s ∷ k) = settle_stmt s k (settle_items k)
  settle_items (turn ∷ k) = turning k
  settle_items (count n b ∷ k) = repeated_of n (counted_body b k) (settle_items k)
  settle_items (check b c ∷ k) = checked_of (settle sc c) b c k (settle_items k)
  settle_items (test loop ∷ k) = differed_of (settle sc (difference_in loop)) loop k (settle_items k)
  settle_items (result name ∷ k) = reading name
  settle_items (make_arrays kind ns ps ∷ k) = settle_bounds ps kind ns ps k []
  settle_items (make_event n ∷ k) = event n k

-- ---- the items of a block

abbrev pub event_items : List Named → List Item
event_items ns = map make_event ns

-- the declarations that are actions
abbrev pub decl_items : PDecl → List Item
decl_items (tree.arrays kind ns ps) = make_arrays kind ns ps ∷ []
decl_items (tree.events ns) = event_items ns
decl_items (tree.tasks ns) = event_items ns
decl_items _ = []

abbrev pub decls_items : PDecls → List Item
decls_items tree.no_decls = []
decls_items (tree.decls d ds) = decl_items d ++ decls_items ds

-- a typed procedure ends with its result
abbrev pub ending : Block → List Item
ending b = ending_of b.result
  where
    ending_of : Option Kind → List Item
    ending_of None = []
    ending_of (Some kind) = result b.name ∷ []

abbrev pub items_of : Block → List Item
items_of b = decls_items b.decls ++ items b.stmts (ending b)

-- the label stands before this statement
abbrev pub is_labelled : PStmt → List ℕ → Bool
is_labelled (tree.label n s) name = if same_name n.name name then true else is_labelled s name
is_labelled _ name = false

-- a block's list from the label on
abbrev pub stmts_from : PStmts → List ℕ → PStmts
stmts_from tree.no_stmts name = tree.no_stmts
stmts_from (tree.stmts s ss) name = if is_labelled s name then tree.stmts s ss else stmts_from ss name

abbrev pub items_from : Block → List ℕ → List Item
items_from b name = items (stmts_from b.stmts name) (ending b)
