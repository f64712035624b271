-- The table of silent steps, row by row.
use Rattle.std.specs.Prelude.{◌≡◌, refl, ℕ, None, ℤ, pos, ◌-ℤ◌, int_lt, not, Bool, true, false, List, [], ◌∷◌, ◌++◌, Ok, Err}
use Rattle.std.proofs.Common.{ap}
use Rattle.algol_tree.specs.declared.token.Spot.{Spot}
use Rattle.algol_tree.specs.declared.tree.Op.{Op}
use Rattle.algol_tree.specs.declared.tree.Named.{Named}
use Rattle.algol_tree.specs.Plain as tree
use Rattle.algol_tree.specs.Plain.{PExpr, PExprs, PStmt, PStmts, name_alone}
use Rattle.algol_meaning.specs.Value.{Value, number, truth, whole_of, truth_of}
use Rattle.algol_tree.specs.Sorts as sort
use Rattle.algol_tree.specs.Sorts.{is_by_name}
use Rattle.b67_num.specs.Whole.{negation_of}
use Rattle.b67_num.specs.declared.NumFault.{NumFault}
use Rattle.algol_tree.specs.Scopes.{Scopes}
use Rattle.algol_meaning.specs.Rest.{own, Given, valued, refers, names, broken, Half, val, busy, at, Loop, Item, run, turn, count, check, test, Rest}
use Rattle.algol_meaning.specs.Operators.{result_of}
use Rattle.algol_meaning.specs.Settle.{sort_at, settle, settle_actuals, settle_place}
use Rattle.algol_meaning.specs.Statements.{items, is_past, difference_in, stepped, tested_of, again, settle_stmt, settle_stmts, settle_items}
use Rattle.algol_laws.specs.Quiet.{SilentStepsAreTabled}

module _ (sc : Scopes) where
  -- ---- literals, parentheses, a leading plus
  pub quiet_number : (z : ℤ) (spot : Spot) → settle sc (tree.number z spot) ≡ val (number z)
  quiet_number z spot = refl

  pub quiet_truth : (b : Bool) (spot : Spot) → settle sc (tree.truth b spot) ≡ val (truth b)
  quiet_truth b spot = refl

  pub quiet_paren : (e : PExpr) (spot : Spot) → settle sc (tree.paren e spot) ≡ settle sc e
  quiet_paren e spot = refl

  pub quiet_plus : (e : PExpr) (spot : Spot) → settle sc (tree.plus e spot) ≡ settle sc e
  quiet_plus e spot = refl

  -- ---- an operator whose operands are values, where it has a result
  pub quiet_two : (op : Op) (a b : PExpr) (v w x : Value) → settle sc a ≡ val v → settle sc b ≡ val w → result_of op v w ≡ Ok x → settle sc (tree.two op a b) ≡ val x
  quiet_two op a b v w x p q r = rw (p, q, r) refl

  pub quiet_fault : (op : Op) (a b : PExpr) (v w : Value) (f : NumFault) → settle sc a ≡ val v → settle sc b ≡ val w → result_of op v w ≡ Err f →
      settle sc (tree.two op a b) ≡ busy (broken op v w f)
  quiet_fault op a b v w f p q r = rw (p, q, r) refl

  pub quiet_neg : (e : PExpr) (spot : Spot) (v : Value) → settle sc e ≡ val v → settle sc (tree.neg e spot) ≡ val (number (negation_of (whole_of v)))
  quiet_neg e spot v p = rw p refl

  pub quiet_not : (e : PExpr) (spot : Spot) (v : Value) → settle sc e ≡ val v → settle sc (tree.not e spot) ≡ val (truth (not (truth_of v)))
  quiet_not e spot v p = rw p refl

  -- ---- IF with a value
  pub quiet_if : (c x y : PExpr) (spot : Spot) → settle sc c ≡ val (truth true) → settle sc (tree.if c x y spot) ≡ settle sc x
  quiet_if c x y spot p = rw p refl

  pub quiet_else : (c x y : PExpr) (spot : Spot) → settle sc c ≡ val (truth false) → settle sc (tree.if c x y spot) ≡ settle sc y
  quiet_else c x y spot p = rw p refl

  pub quiet_then_statement : (c : PExpr) (x y : PStmt) (k : List Item) → settle sc c ≡ val (truth true) → settle_items sc (run (tree.if_else c x y) ∷ k) ≡ settle_items sc (run x ∷ k)
  quiet_then_statement c x y k p = rw p refl

  pub quiet_else_statement : (c : PExpr) (x y : PStmt) (k : List Item) → settle sc c ≡ val (truth false) → settle_items sc (run (tree.if_else c x y) ∷ k) ≡ settle_items sc (run y ∷ k)
  quiet_else_statement c x y k p = rw p refl

  pub quiet_then_alone : (c : PExpr) (x : PStmt) (k : List Item) → settle sc c ≡ val (truth true) → settle_items sc (run (tree.if_then c x) ∷ k) ≡ settle_items sc (run x ∷ k)
  quiet_then_alone c x k p = rw p refl

  pub quiet_no_else : (c : PExpr) (x : PStmt) (k : List Item) → settle sc c ≡ val (truth false) → settle_items sc (run (tree.if_then c x) ∷ k) ≡ settle_items sc k
  quiet_no_else c x k p = rw p refl

  -- ---- compounds, empty statements, labels
  pub quiet_list : (ss : PStmts) (k : List Item) → settle_stmts sc ss k (settle_items sc k) ≡ settle_items sc (items ss k)
  quiet_list tree.no_stmts k = refl
  quiet_list (tree.stmts s ss) k = ap (settle_stmt sc s (items ss k)) (quiet_list ss k)

  pub quiet_compound : (spot : Spot) (ss : PStmts) (k : List Item) → settle_items sc (run (tree.block (tree.body spot tree.no_decls ss)) ∷ k) ≡ settle_items sc (items ss k)
  quiet_compound spot ss k = quiet_list ss k

  pub quiet_empty : (k : List Item) → settle_items sc (run tree.empty ∷ k) ≡ settle_items sc k
  quiet_empty k = refl

  pub quiet_label : (n : Named) (s : PStmt) (k : List Item) → settle_items sc (run (tree.label n s) ∷ k) ≡ settle_items sc (run s ∷ k)
  quiet_label n s k = refl

  -- ---- a variable on the left that is no name parameter and has no subscripts
  pub quiet_left : (n : Named) → is_by_name (sort_at sc n) ≡ false → settle_place sc (tree.subscripted n tree.none) ≡ at (own n)
  quiet_left n p = rw p refl

  -- ---- actuals
  pub quiet_reference : (n : Named) (sorts : List sort.Sort) (es : PExprs) (gs : List Given) → sort_at sc n ≡ sort.variable →
      settle_actuals sc (tree.more (tree.variable (tree.subscripted n tree.none)) es) (sort.by_name ∷ sorts) gs ≡ settle_actuals sc es sorts (gs ++ refers n ∷ [])
  quiet_reference n sorts es gs p = rw p refl

  pub quiet_name : (e : PExpr) (sorts : List sort.Sort) (es : PExprs) (gs : List Given) → name_alone e ≡ None →
      settle_actuals sc (tree.more e es) (sort.by_name ∷ sorts) gs ≡ settle_actuals sc es sorts (gs ++ names e ∷ [])
  quiet_name e sorts es gs p = rw p refl

  pub quiet_call_name : (n : Named) (block : ℕ) (sorts : List sort.Sort) (es : PExprs) (gs : List Given) → sort_at sc n ≡ sort.procedure block →
      settle_actuals sc (tree.more (tree.variable (tree.subscripted n tree.none)) es) (sort.by_name ∷ sorts) gs
      ≡ settle_actuals sc es sorts (gs ++ names (tree.variable (tree.subscripted n tree.none)) ∷ [])
  quiet_call_name n block sorts es gs p = rw p refl

  pub quiet_array : (n : Named) (lows : List ℤ) (sorts : List sort.Sort) (es : PExprs) (gs : List Given) → sort_at sc n ≡ sort.array →
      settle_actuals sc (tree.more (tree.variable (tree.subscripted n tree.none)) es) (sort.formal_array lows ∷ sorts) gs ≡ settle_actuals sc es sorts (gs ++ refers n ∷ [])
  quiet_array n lows sorts es gs p = rw p refl

  pub quiet_event : (n : Named) (sorts : List sort.Sort) (es : PExprs) (gs : List Given) → sort_at sc n ≡ sort.event →
      settle_actuals sc (tree.more (tree.variable (tree.subscripted n tree.none)) es) (sort.formal_event ∷ sorts) gs ≡ settle_actuals sc es sorts (gs ++ refers n ∷ [])
  quiet_event n sorts es gs p = rw p refl

  pub quiet_value : (e : PExpr) (v : Value) (sorts : List sort.Sort) (es : PExprs) (gs : List Given) → settle sc e ≡ val v →
      settle_actuals sc (tree.more e es) (sort.variable ∷ sorts) gs ≡ settle_actuals sc es sorts (gs ++ valued v ∷ [])
  quiet_value e v sorts es gs p = rw p refl

  -- ---- WHILE
  pub quiet_while : (c : PExpr) (b : PStmt) (k : List Item) → settle sc c ≡ val (truth true) → settle_items sc (run (tree.while c b) ∷ k) ≡ settle_items sc (run b ∷ turn ∷ run (tree.while c b) ∷ k)
  quiet_while c b k p = rw p refl

  pub quiet_while_end : (c : PExpr) (b : PStmt) (k : List Item) → settle sc c ≡ val (truth false) → settle_items sc (run (tree.while c b) ∷ k) ≡ settle_items sc k
  quiet_while_end c b k p = rw p refl

  -- ---- DO .. UNTIL
  pub quiet_until : (b : PStmt) (c : PExpr) (k : List Item) → settle_items sc (run (tree.until b c) ∷ k) ≡ settle_items sc (run b ∷ check b c ∷ k)
  quiet_until b c k = refl

  pub quiet_check : (b : PStmt) (c : PExpr) (k : List Item) → settle sc c ≡ val (truth false) → settle_items sc (check b c ∷ k) ≡ settle_items sc (turn ∷ run (tree.until b c) ∷ k)
  quiet_check b c k p = rw p refl

  pub quiet_check_end : (b : PStmt) (c : PExpr) (k : List Item) → settle sc c ≡ val (truth true) → settle_items sc (check b c ∷ k) ≡ settle_items sc k
  quiet_check_end b c k p = rw p refl

  -- ---- THRU
  pub quiet_thru : (e : PExpr) (v : Value) (b : PStmt) (k : List Item) → settle sc e ≡ val v → settle_items sc (run (tree.thru e b) ∷ k) ≡ settle_items sc (count (whole_of v) b ∷ k)
  quiet_thru e v b k p = rw p refl

  pub quiet_count : (n : ℤ) (b : PStmt) (k : List Item) → int_lt (pos 0) n ≡ true → settle_items sc (count n b ∷ k) ≡ settle_items sc (run b ∷ turn ∷ count (n -ℤ pos 1) b ∷ k)
  quiet_count n b k p = rw p refl

  pub quiet_count_end : (n : ℤ) (b : PStmt) (k : List Item) → int_lt (pos 0) n ≡ false → settle_items sc (count n b ∷ k) ≡ settle_items sc k
  quiet_count_end n b k p = rw p refl

  -- ---- FOR
  pub quiet_for : (v : Named) (a s l : PExpr) (b : PStmt) (k : List Item) →
      settle_items sc (run (tree.for v a s l b) ∷ k)
      ≡ settle_items sc (run (tree.assign (tree.subscripted v tree.none) a) ∷ test (record { control = v; step = s; last = l; body = b }) ∷ k)
  quiet_for v a s l b k = refl

  tested : (d : Value) (h : Half) (s : Value) (loop : Loop) (k : List Item) (r : Rest) → h ≡ val s → is_past (whole_of d) (whole_of s) ≡ false → tested_of sc d h loop k r ≡ again sc loop k
  tested d h s loop k r p q = rw (p, q) refl

  tested_end : (d : Value) (h : Half) (s : Value) (loop : Loop) (k : List Item) (r : Rest) → h ≡ val s → is_past (whole_of d) (whole_of s) ≡ true → tested_of sc d h loop k r ≡ r
  tested_end d h s loop k r p q = rw (p, q) refl

  pub quiet_test : (loop : Loop) (d s : Value) (k : List Item) → settle sc (difference_in loop) ≡ val d → settle sc loop.step ≡ val s → is_past (whole_of d) (whole_of s) ≡ false →
      settle_items sc (test loop ∷ k) ≡ settle_items sc (run loop.body ∷ run (stepped loop) ∷ turn ∷ test loop ∷ k)
  quiet_test loop d s k p q r = rw p (tested d (settle sc loop.step) s loop k (settle_items sc k) q r)

  pub quiet_test_end : (loop : Loop) (d s : Value) (k : List Item) → settle sc (difference_in loop) ≡ val d → settle sc loop.step ≡ val s → is_past (whole_of d) (whole_of s) ≡ true →
      settle_items sc (test loop ∷ k) ≡ settle_items sc k
  quiet_test_end loop d s k p q r = rw p (tested_end d (settle sc loop.step) s loop k (settle_items sc k) q r)

pub tabled : SilentStepsAreTabled
tabled sc =
    record {
      number_row = quiet_number sc;
      truth_row = quiet_truth sc;
      paren_row = quiet_paren sc;
      plus_row = quiet_plus sc;
      two_row = quiet_two sc;
      fault_row = quiet_fault sc;
      neg_row = quiet_neg sc;
      not_row = quiet_not sc;
      if_row = quiet_if sc;
      else_row = quiet_else sc;
      then_statement_row = quiet_then_statement sc;
      else_statement_row = quiet_else_statement sc;
      then_alone_row = quiet_then_alone sc;
      no_else_row = quiet_no_else sc;
      list_row = quiet_list sc;
      compound_row = quiet_compound sc;
      empty_row = quiet_empty sc;
      label_row = quiet_label sc;
      left_row = quiet_left sc;
      reference_row = quiet_reference sc;
      name_row = quiet_name sc;
      call_name_row = quiet_call_name sc;
      array_row = quiet_array sc;
      event_row = quiet_event sc;
      value_row = quiet_value sc;
      while_row = quiet_while sc;
      while_end_row = quiet_while_end sc;
      until_row = quiet_until sc;
      check_row = quiet_check sc;
      check_end_row = quiet_check_end sc;
      thru_row = quiet_thru sc;
      count_row = quiet_count sc;
      count_end_row = quiet_count_end sc;
      for_row = quiet_for sc;
      test_row = quiet_test sc;
      test_end_row = quiet_test_end sc;
    }
