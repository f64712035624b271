-- The table of silent steps: what stands at the head becomes, without an action.
use Rattle.std.specs.Prelude.{◌≡◌, ℕ, None, ℤ, pos, ◌-ℤ◌, int_lt, not, Bool, true, false, List, [], ◌∷◌, ◌++◌, Ok, Err}
use Rattle.algol_tree.specs.declared.token.Spot.{Spot}
use Rattle.algol_tree.specs.declared.tree.Op.{Op}
use Rattle.algol_tree.specs.declared.tree.Named.{Named}
use Rattle.algol_tree.specs.Plain as tree
use Rattle.algol_tree.specs.Plain.{PExpr, PExprs, PStmt, PStmts, name_alone}
use Rattle.algol_meaning.specs.Value.{Value, number, truth, whole_of, truth_of}
use Rattle.algol_tree.specs.Sorts as sort
use Rattle.algol_tree.specs.Sorts.{is_by_name}
use Rattle.b67_num.specs.Whole.{negation_of}
use Rattle.b67_num.specs.declared.NumFault.{NumFault}
use Rattle.algol_tree.specs.Scopes.{Scopes}
use Rattle.algol_meaning.specs.Rest.{own, Given, valued, refers, names, broken, val, busy, at, Loop, Item, run, turn, count, check, test}
use Rattle.algol_meaning.specs.Operators.{result_of}
use Rattle.algol_meaning.specs.Settle.{sort_at, settle, settle_actuals, settle_place}
use Rattle.algol_meaning.specs.Statements.{items, is_past, difference_in, stepped, settle_stmts, settle_items}

pub record SilentSteps (sc : Scopes) : Type 0 where
  -- literals, parentheses, a leading plus
  pub number_row : (z : ℤ) (spot : Spot) → settle sc (tree.number z spot) ≡ val (number z)
  pub truth_row : (b : Bool) (spot : Spot) → settle sc (tree.truth b spot) ≡ val (truth b)
  pub paren_row : (e : PExpr) (spot : Spot) → settle sc (tree.paren e spot) ≡ settle sc e
  pub plus_row : (e : PExpr) (spot : Spot) → settle sc (tree.plus e spot) ≡ settle sc e
  -- an operator whose operands are values: its result, or where it has none the head is the operator, with its fault
  pub two_row : (op : Op) (a b : PExpr) (v w x : Value) → settle sc a ≡ val v → settle sc b ≡ val w → result_of op v w ≡ Ok x → settle sc (tree.two op a b) ≡ val x
  pub fault_row : (op : Op) (a b : PExpr) (v w : Value) (f : NumFault) → settle sc a ≡ val v → settle sc b ≡ val w → result_of op v w ≡ Err f →
      settle sc (tree.two op a b) ≡ busy (broken op v w f)
  pub neg_row : (e : PExpr) (spot : Spot) (v : Value) → settle sc e ≡ val v → settle sc (tree.neg e spot) ≡ val (number (negation_of (whole_of v)))
  pub not_row : (e : PExpr) (spot : Spot) (v : Value) → settle sc e ≡ val v → settle sc (tree.not e spot) ≡ val (truth (not (truth_of v)))
  -- IF with a value
  pub if_row : (c x y : PExpr) (spot : Spot) → settle sc c ≡ val (truth true) → settle sc (tree.if c x y spot) ≡ settle sc x
  pub else_row : (c x y : PExpr) (spot : Spot) → settle sc c ≡ val (truth false) → settle sc (tree.if c x y spot) ≡ settle sc y
  pub then_statement_row : (c : PExpr) (x y : PStmt) (k : List Item) → settle sc c ≡ val (truth true) → settle_items sc (run (tree.if_else c x y) ∷ k) ≡ settle_items sc (run x ∷ k)
  pub else_statement_row : (c : PExpr) (x y : PStmt) (k : List Item) → settle sc c ≡ val (truth false) → settle_items sc (run (tree.if_else c x y) ∷ k) ≡ settle_items sc (run y ∷ k)
  pub then_alone_row : (c : PExpr) (x : PStmt) (k : List Item) → settle sc c ≡ val (truth true) → settle_items sc (run (tree.if_then c x) ∷ k) ≡ settle_items sc (run x ∷ k)
  pub no_else_row : (c : PExpr) (x : PStmt) (k : List Item) → settle sc c ≡ val (truth false) → settle_items sc (run (tree.if_then c x) ∷ k) ≡ settle_items sc k
  -- a list of statements is its statements one after another
  pub list_row : (ss : PStmts) (k : List Item) → settle_stmts sc ss k (settle_items sc k) ≡ settle_items sc (items ss k)
  -- compounds, empty statements, labels
  pub compound_row : (spot : Spot) (ss : PStmts) (k : List Item) → settle_items sc (run (tree.block (tree.body spot tree.no_decls ss)) ∷ k) ≡ settle_items sc (items ss k)
  pub empty_row : (k : List Item) → settle_items sc (run tree.empty ∷ k) ≡ settle_items sc k
  pub label_row : (n : Named) (s : PStmt) (k : List Item) → settle_items sc (run (tree.label n s) ∷ k) ≡ settle_items sc (run s ∷ k)
  -- a variable on the left that is no name parameter and has no subscripts
  pub left_row : (n : Named) → is_by_name (sort_at sc n) ≡ false → settle_place sc (tree.subscripted n tree.none) ≡ at (own n)
  -- an actual that is a variable, an array or an event is a Reference, any other a Name; one by value is its value
  pub reference_row : (n : Named) (sorts : List sort.Sort) (es : PExprs) (gs : List Given) → sort_at sc n ≡ sort.variable →
      settle_actuals sc (tree.more (tree.variable (tree.subscripted n tree.none)) es) (sort.by_name ∷ sorts) gs ≡ settle_actuals sc es sorts (gs ++ refers n ∷ [])
  pub name_row : (e : PExpr) (sorts : List sort.Sort) (es : PExprs) (gs : List Given) → name_alone e ≡ None →
      settle_actuals sc (tree.more e es) (sort.by_name ∷ sorts) gs ≡ settle_actuals sc es sorts (gs ++ names e ∷ [])
  pub call_name_row : (n : Named) (block : ℕ) (sorts : List sort.Sort) (es : PExprs) (gs : List Given) → sort_at sc n ≡ sort.procedure block →
      settle_actuals sc (tree.more (tree.variable (tree.subscripted n tree.none)) es) (sort.by_name ∷ sorts) gs
      ≡ settle_actuals sc es sorts (gs ++ names (tree.variable (tree.subscripted n tree.none)) ∷ [])
  pub array_row : (n : Named) (lows : List ℤ) (sorts : List sort.Sort) (es : PExprs) (gs : List Given) → sort_at sc n ≡ sort.array →
      settle_actuals sc (tree.more (tree.variable (tree.subscripted n tree.none)) es) (sort.formal_array lows ∷ sorts) gs ≡ settle_actuals sc es sorts (gs ++ refers n ∷ [])
  pub event_row : (n : Named) (sorts : List sort.Sort) (es : PExprs) (gs : List Given) → sort_at sc n ≡ sort.event →
      settle_actuals sc (tree.more (tree.variable (tree.subscripted n tree.none)) es) (sort.formal_event ∷ sorts) gs ≡ settle_actuals sc es sorts (gs ++ refers n ∷ [])
  pub value_row : (e : PExpr) (v : Value) (sorts : List sort.Sort) (es : PExprs) (gs : List Given) → settle sc e ≡ val v →
      settle_actuals sc (tree.more e es) (sort.variable ∷ sorts) gs ≡ settle_actuals sc es sorts (gs ++ valued v ∷ [])
  -- WHILE
  pub while_row : (c : PExpr) (b : PStmt) (k : List Item) → settle sc c ≡ val (truth true) → settle_items sc (run (tree.while c b) ∷ k) ≡ settle_items sc (run b ∷ turn ∷ run (tree.while c b) ∷ k)
  pub while_end_row : (c : PExpr) (b : PStmt) (k : List Item) → settle sc c ≡ val (truth false) → settle_items sc (run (tree.while c b) ∷ k) ≡ settle_items sc k
  -- DO .. UNTIL
  pub until_row : (b : PStmt) (c : PExpr) (k : List Item) → settle_items sc (run (tree.until b c) ∷ k) ≡ settle_items sc (run b ∷ check b c ∷ k)
  pub check_row : (b : PStmt) (c : PExpr) (k : List Item) → settle sc c ≡ val (truth false) → settle_items sc (check b c ∷ k) ≡ settle_items sc (turn ∷ run (tree.until b c) ∷ k)
  pub check_end_row : (b : PStmt) (c : PExpr) (k : List Item) → settle sc c ≡ val (truth true) → settle_items sc (check b c ∷ k) ≡ settle_items sc k
  -- THRU
  pub thru_row : (e : PExpr) (v : Value) (b : PStmt) (k : List Item) → settle sc e ≡ val v → settle_items sc (run (tree.thru e b) ∷ k) ≡ settle_items sc (count (whole_of v) b ∷ k)
  pub count_row : (n : ℤ) (b : PStmt) (k : List Item) → int_lt (pos 0) n ≡ true → settle_items sc (count n b ∷ k) ≡ settle_items sc (run b ∷ turn ∷ count (n -ℤ pos 1) b ∷ k)
  pub count_end_row : (n : ℤ) (b : PStmt) (k : List Item) → int_lt (pos 0) n ≡ false → settle_items sc (count n b ∷ k) ≡ settle_items sc k
  -- FOR: the difference is evaluated before the step
  pub for_row : (v : Named) (a s l : PExpr) (b : PStmt) (k : List Item) →
      settle_items sc (run (tree.for v a s l b) ∷ k)
      ≡ settle_items sc (run (tree.assign (tree.subscripted v tree.none) a) ∷ test (record { control = v; step = s; last = l; body = b }) ∷ k)
  pub test_row : (loop : Loop) (d s : Value) (k : List Item) → settle sc (difference_in loop) ≡ val d → settle sc loop.step ≡ val s → is_past (whole_of d) (whole_of s) ≡ false →
      settle_items sc (test loop ∷ k) ≡ settle_items sc (run loop.body ∷ run (stepped loop) ∷ turn ∷ test loop ∷ k)
  pub test_end_row : (loop : Loop) (d s : Value) (k : List Item) → settle sc (difference_in loop) ≡ val d → settle sc loop.step ≡ val s → is_past (whole_of d) (whole_of s) ≡ true →
      settle_items sc (test loop ∷ k) ≡ settle_items sc k

abbrev pub SilentStepsAreTabled : Type 0
SilentStepsAreTabled = (sc : Scopes) → SilentSteps sc
