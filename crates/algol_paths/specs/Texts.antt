-- What holds of each name that a text uses itself, of each block that stands in it, and of each name in the bounds of its arrays. What
-- stands in such a block is text of its own.
use Rattle.std.specs.Prelude.{List, [], ◌∷◌, Option, Some, None, map}
use Rattle.std.specs.List.{AllByRecursion}
use Rattle.algol_tree.specs.declared.tree.Named.{Named}
use Rattle.algol_tree.specs.declared.tree.EventName.{EventName}
use Rattle.algol_tree.specs.Plain as tree
use Rattle.algol_tree.specs.Plain.{PExpr, PExprs, PPair, PStmt, PStmts, PBody}
use Rattle.algol_meaning.specs.Rest.{Place, own, Given, refers, names, Hole, read, element, index, tests, broken, enter, inside, subscript, argument, left, right, negated, inverted, condition, Actuals, pass, in_value, Aim, resolve, place_index, inside_place, place_subscript, Loop, Item, run, turn, count, check, test, result, make_arrays, make_event, Rest, over, reading, giving, giving_place, store, select, turning, going, entering_block, entering, starting, acting, line, arrays, event, within, dropping, evaluating, locating, aiming, storing, choosing, looping, checking, counting, differing, stepping, selecting, calling, preparing, writing, bounding, Answer, place}

module _ (P : Named → Type 0) where
  abbrev mutual
    pub InExpr : PExpr → Type 0
    InExpr (tree.variable (tree.subscripted n es)) = P n × InExprs es
    InExpr (tree.call (tree.called n es)) = P n × InExprs es
    InExpr (tree.tested which es spot) = AllByRecursion P (map (λ (e : EventName). e.name) es)
    InExpr (tree.paren e spot) = InExpr e
    InExpr (tree.plus e spot) = InExpr e
    InExpr (tree.neg e spot) = InExpr e
    InExpr (tree.not e spot) = InExpr e
    InExpr (tree.two op x y) = InExpr x × InExpr y
    InExpr (tree.if c x y spot) = InExpr c × InExpr x × InExpr y
    InExpr _ = Unit {0}

    pub InExprs : PExprs → Type 0
    InExprs tree.none = Unit {0}
    InExprs (tree.more e es) = InExpr e × InExprs es

  abbrev pub InPairs : List PPair → Type 0
  InPairs [] = Unit {0}
  InPairs (p ∷ ps) = InExpr p.high × InPairs ps

  abbrev pub InName : Option Named → Type 0
  InName None = Unit {0}
  InName (Some n) = P n

  -- ---- what is evaluated up to its head

  abbrev pub InPlace : Place → Type 0
  InPlace (own n) = P n
  InPlace _ = Unit {0}

  abbrev pub InGivens : List Given → Type 0
  InGivens [] = Unit {0}
  InGivens (refers n ∷ gs) = P n × InGivens gs
  InGivens (names e ∷ gs) = InExpr e × InGivens gs
  InGivens (_ ∷ gs) = InGivens gs

  abbrev mutual
    pub InHole : Hole → Type 0
    InHole (read n) = P n
    InHole (element n ks v) = P n
    InHole (index n ks v e es) = P n × InExpr e × InExprs es
    InHole (tests which ns) = AllByRecursion P ns
    InHole (broken op v w fault) = Unit {0}
    InHole (enter n gs) = P n × InGivens gs
    InHole inside = Unit {0}
    InHole (subscript n ks h es) = P n × InHole h × InExprs es
    InHole (argument n x) = P n × InActuals x
    InHole (left op h b) = InHole h × InExpr b
    InHole (right op v h) = InHole h
    InHole (negated h) = InHole h
    InHole (inverted h) = InHole h
    InHole (condition h x y) = InHole h × InExpr x × InExpr y

    pub InActuals : Actuals → Type 0
    InActuals (pass gs n sorts es) = InGivens gs × P n × InExprs es
    InActuals (in_value gs h sorts es) = InGivens gs × InHole h × InExprs es

  abbrev pub InAim : Aim → Type 0
  InAim (resolve n) = P n
  InAim (place_index n ks v es) = P n × InExprs es
  InAim inside_place = Unit {0}
  InAim (place_subscript n ks h es) = P n × InHole h × InExprs es

  -- an answer; only one that is a variable of the part itself has a name
  abbrev pub InAnswer : Answer → Type 0
  InAnswer (place p) = InPlace p
  InAnswer _ = Unit {0}

module _ (P : Named → Type 0) (Q : PBody → Type 0) where
  abbrev mutual
    pub InStmt : PStmt → Type 0
    InStmt (tree.label n s) = InStmt s
    InStmt (tree.assign (tree.subscripted n es) e) = P n × InExprs P es × InExpr P e
    InStmt (tree.call_of (tree.called n es)) = P n × InExprs P es
    InStmt (tree.go_to n) = P n
    InStmt (tree.block (tree.body spot tree.no_decls ss)) = InStmts ss
    InStmt (tree.block (tree.body spot (tree.decls d ds) ss)) = Q (tree.body spot (tree.decls d ds) ss)
    InStmt (tree.if_then c x) = InExpr P c × InStmt x
    InStmt (tree.if_else c x y) = InExpr P c × InStmt x × InStmt y
    InStmt (tree.while c b) = InExpr P c × InStmt b
    InStmt (tree.until b c) = InStmt b × InExpr P c
    InStmt (tree.for v a s l b) = P v × InExpr P a × InExpr P s × InExpr P l × InStmt b
    InStmt (tree.thru e b) = InExpr P e × InStmt b
    InStmt (tree.case e ss) = InExpr P e × InStmts ss
    InStmt (tree.process (tree.called n es) task) = P n × InExprs P es × InName P task
    InStmt (tree.event act e) = P e.name
    InStmt (tree.write n spot phrases es) = InExprs P es
    InStmt _ = Unit {0}

    pub InStmts : PStmts → Type 0
    InStmts tree.no_stmts = Unit {0}
    InStmts (tree.stmts s ss) = InStmt s × InStmts ss

  abbrev pub InLoop : Loop → Type 0
  InLoop loop = P loop.control × InExpr P loop.step × InExpr P loop.last × InStmt loop.body

  -- ---- what is still to be done

  -- what is made by actions comes first
  abbrev pub InItem : Item → Type 0
  InItem (run s) = InStmt s
  InItem turn = Unit {0}
  InItem (count n b) = InStmt b
  InItem (check b c) = InStmt b × InExpr P c
  InItem (test loop) = InLoop loop
  InItem (result name) = Unit {0}
  InItem (make_arrays kind ns pairs) = ⊥
  InItem (make_event n) = ⊥

  abbrev pub InItems : List Item → Type 0
  InItems [] = Unit {0}
  InItems (item ∷ k) = InItem item × InItems k

-- .. where of names in bounds R holds
module _ (P : Named → Type 0) (Q : PBody → Type 0) (R : Named → Type 0) where
  -- the items of a block
  abbrev pub InDeclared : List Item → Type 0
  InDeclared (make_arrays kind ns pairs ∷ k) = InPairs R pairs × InDeclared k
  InDeclared (make_event n ∷ k) = InDeclared k
  InDeclared k = InItems P Q k

  abbrev pub InRest : Rest → Type 0
  InRest over = Unit {0}
  InRest (reading name) = Unit {0}
  InRest (giving v) = Unit {0}
  InRest (giving_place p) = InPlace P p
  InRest (store p v k) = InPlace P p × InItems P Q k
  InRest (select v ss k) = InStmts P Q ss × InItems P Q k
  InRest (turning k) = InItems P Q k
  InRest (going n) = P n
  InRest (entering_block (tree.body spot ds ss) k) = Q (tree.body spot ds ss) × InItems P Q k
  InRest (entering n gs k) = P n × InGivens P gs × InItems P Q k
  InRest (starting n gs task k) = P n × InGivens P gs × InName P task × InItems P Q k
  InRest (acting act n k) = P n × InItems P Q k
  InRest (line phrases vs k) = InItems P Q k
  InRest (arrays kind ns pairs vs k) = InDeclared k
  InRest (event n k) = InDeclared k
  InRest (within k) = InItems P Q k
  InRest (dropping k) = InItems P Q k
  InRest (evaluating h) = InHole P h
  InRest (locating x) = InAim P x
  InRest (aiming x e k) = InAim P x × InExpr P e × InItems P Q k
  InRest (storing p h k) = InPlace P p × InHole P h × InItems P Q k
  InRest (choosing h x y k) = InHole P h × InStmt P Q x × InStmt P Q y × InItems P Q k
  InRest (looping h c b k) = InHole P h × InExpr P c × InStmt P Q b × InItems P Q k
  InRest (checking h b c k) = InHole P h × InStmt P Q b × InExpr P c × InItems P Q k
  InRest (counting h b k) = InHole P h × InStmt P Q b × InItems P Q k
  InRest (differing h loop k) = InHole P h × InLoop P Q loop × InItems P Q k
  InRest (stepping d h loop k) = InHole P h × InLoop P Q loop × InItems P Q k
  InRest (selecting h ss k) = InHole P h × InStmts P Q ss × InItems P Q k
  InRest (calling n x k) = P n × InActuals P x × InItems P Q k
  InRest (preparing n x task k) = P n × InActuals P x × InName P task × InItems P Q k
  InRest (writing phrases vs h es k) = InHole P h × InExprs P es × InItems P Q k
  InRest (bounding kind ns pairs vs h ps k) = InHole R h × InPairs R ps × InDeclared k
