-- What a text calls and gives: each call names a procedure and has an actual that fits for each parameter, and what is stored to, acted on
-- and referred to is no cell that a parameter has of its own to lead elsewhere.
use Rattle.std.specs.Prelude.{◌≡◌, ℕ, ◌<◌, ◌≤◌, if◌then◌else◌, Bool, true, false, List, [], ◌∷◌, length, map, Option, Some, None}
use Rattle.b67_limits.specs.declared.TheConstants.{MOST_EVENTS}
use Rattle.algol_tree.specs.declared.tree.Kind.{Kind}
use Rattle.algol_tree.specs.declared.tree.Named.{Named}
use Rattle.algol_tree.specs.declared.tree.EventName.{EventName}
use Rattle.algol_tree.specs.Plain as tree
use Rattle.algol_tree.specs.Plain.{PExpr, PExprs, PPair, PStmt, PStmts, PDecls, name_alone}
use Rattle.algol_tree.specs.Blocks.{Block, block_numbered, around}
use Rattle.algol_tree.specs.Sorts.{Sort, variable, label, is_formal, is_by_name, is_variable, procedure_in, Parameter, same_name, is_named_in}
use Rattle.algol_tree.specs.Scopes.{Scopes, use_of}
use Rattle.algol_meaning.specs.Value.{Cell, named, reference}
use Rattle.algol_meaning.specs.Rest.{Place, own, Given, valued, passed, refers, names, Hole, read, element, index, tests, enter, subscript, argument, left, right, negated, inverted, condition, Actuals, pass, in_value, Aim, resolve, place_index, inside_place, place_subscript, Loop, Item, run, turn, count, check, test, result, make_arrays, make_event, Rest, over, reading, giving, giving_place, store, select, turning, going, entering_block, entering, starting, acting, line, arrays, event, within, dropping, evaluating, locating, aiming, storing, choosing, looping, checking, counting, differing, stepping, selecting, calling, preparing, writing, bounding, Answer, cell, place}
use Rattle.algol_meaning.specs.Settle.{sorts_of, block_of_sort, callee, sort_at}
use Rattle.algol_meaning.specs.Statements.{alone, items_of}
use Rattle.std.specs.List.{AllByRecursion}
use Rattle.algol_meaning.specs.Asks as asks
use Rattle.algol_meaning.specs.Asks.{Ask}

-- ---- cells of parameters

-- the cell leads elsewhere: it is a Reference or, of a parameter by name, a Name
abbrev pub IsLink : (by_name : Bool) → Cell → Type 0
IsLink by_name (reference r) = Unit {0}
IsLink by_name (named n) = by_name ≡ true
IsLink by_name _ = ⊥

-- the own cell of a parameter of this sort: where that stands for something else, the cell leads there
abbrev pub CellFits : Sort → Cell → Type 0
CellFits s c = is_formal s ≡ true → IsLink (is_by_name s) c

-- the sort of the first parameter with this name; that of a variable where there is none
abbrev pub parameter_sort : List Parameter → List ℕ → Sort
parameter_sort [] name = variable
parameter_sort (p ∷ ps) name = if same_name p.name name then p.sort else parameter_sort ps name

-- ---- the cells that a block has from its entry on

abbrev pub has_parameter : List Parameter → List ℕ → Bool
has_parameter [] name = false
has_parameter (p ∷ ps) name = if same_name p.name name then true else has_parameter ps name

abbrev pub has_result : Option Kind → List ℕ → List ℕ → Bool
has_result None result_name name = false
has_result (Some kind) result_name name = same_name result_name name

-- a simple variable of these declarations
abbrev pub has_variable : PDecls → List ℕ → Bool
has_variable tree.no_decls name = false
has_variable (tree.decls (tree.simple kind ns) ds) name = if is_named_in ns name then true else has_variable ds name
has_variable (tree.decls d ds) name = has_variable ds name

-- a parameter, the result or a simple variable of the block has this name: no action makes it
abbrev pub has_simple : Block → List ℕ → Bool
has_simple b name = if has_parameter b.parameters name then true else if has_result b.result b.name name then true else has_variable b.decls name

abbrev pub IsByValue : Sort → Type 0
IsByValue s = is_formal s ≡ false

-- F holds of the first of these, and the others are those after it
abbrev pub NextThen : (Sort → Type 0) → List Sort → List Sort → Type 0
NextThen F after [] = ⊥
NextThen F after (s ∷ sorts) = F s × (sorts ≡ after)

-- as many events as something can be done with at once
abbrev pub AreFew : List Named → Type 0
AreFew ns = (1 ≤ length ns) × (length ns ≤ MOST_EVENTS)

module _ (sc : Scopes) where
  -- ---- names

  -- the sort of the name as that of a parameter of the block that declares it
  abbrev pub own_sort : Named → Sort
  own_sort n = parameter_sort ((block_numbered sc.blocks ((use_of sc n).block)).parameters) n.name

  -- the name stands for something else as that parameter does
  pub record NameIsTold (n : Named) : Type 0 where
    pub formal : is_formal (own_sort n) ≡ is_formal (sort_at sc n)
    pub by_name : is_by_name (own_sort n) ≡ is_by_name (sort_at sc n)
    -- a variable has its cell from the entry of its block on
    pub variable : is_variable (sort_at sc n) ≡ true → has_simple (block_numbered sc.blocks ((use_of sc n).block)) n.name ≡ true

  -- .. and it stands for nothing else
  pub record IsSettled (n : Named) : Type 0 where
    pub told : NameIsTold n
    pub no_formal : is_formal (sort_at sc n) ≡ false

  -- .. and it stands for no expression
  pub record NameLeads (n : Named) : Type 0 where
    pub told : NameIsTold n
    pub not_by_name : is_by_name (sort_at sc n) ≡ false

  -- the name is a label
  abbrev pub IsLabel : Named → Type 0
  IsLabel n = sort_at sc n ≡ label

  -- the name is that of a procedure, whose block stands in the text of the block that declares it
  pub record IsCallee (n : Named) : Type 0 where
    pub known : block_of_sort (sort_at sc n) < length sc.blocks
    pub around_is : around sc.blocks (block_of_sort (sort_at sc n)) ≡ (use_of sc n).block ∷ around sc.blocks ((use_of sc n).block)
    pub no_variable : is_variable (sort_at sc n) ≡ false
    pub no_formal : is_formal (sort_at sc n) ≡ false

  -- the sorts of the parameters of what is called
  abbrev pub sorts_wanted : Named → List Sort
  sorts_wanted n = sorts_of ((callee sc n).parameters)

  -- a procedure's name by itself is a call without actuals
  abbrev pub AloneFits : Option ℕ → Named → Type 0
  AloneFits (Some block) n = IsCallee n × (sorts_wanted n ≡ [])
  AloneFits None n = NameIsTold n

  -- the name of something that is no procedure and stands for no expression
  abbrev pub IsNameOfIt : Option Named → Type 0
  IsNameOfIt None = ⊥
  IsNameOfIt (Some n) = (procedure_in (sort_at sc n) ≡ None) × (is_by_name (sort_at sc n) ≡ false)

  -- for a parameter that stands for an event or an array there is the name of one
  abbrev pub ParameterStandsFor : Sort → PExpr → Type 0
  ParameterStandsFor s e = is_formal s ≡ true → is_by_name s ≡ false → IsNameOfIt (name_alone e)

  -- ---- expressions

  abbrev mutual
    pub CalledExprFits : PExpr → Type 0
    CalledExprFits (tree.variable (tree.subscripted n tree.none)) = AloneFits (procedure_in (sort_at sc n)) n
    CalledExprFits (tree.variable (tree.subscripted n (tree.more e es))) = NameLeads n × CalledExprFits e × ExprsFit es
    CalledExprFits (tree.call (tree.called n es)) = IsCallee n × ActualsFit es (sorts_wanted n)
    CalledExprFits (tree.tested x es spot) = AllByRecursion NameLeads (map (λ (e : EventName). e.name) es) × AreFew (map (λ (e : EventName). e.name) es)
    CalledExprFits (tree.paren e spot) = CalledExprFits e
    CalledExprFits (tree.plus e spot) = CalledExprFits e
    CalledExprFits (tree.neg e spot) = CalledExprFits e
    CalledExprFits (tree.not e spot) = CalledExprFits e
    CalledExprFits (tree.two op x y) = CalledExprFits x × CalledExprFits y
    CalledExprFits (tree.if c x y spot) = CalledExprFits c × CalledExprFits x × CalledExprFits y
    CalledExprFits _ = Unit {0}

    pub ExprsFit : PExprs → Type 0
    ExprsFit tree.none = Unit {0}
    ExprsFit (tree.more e es) = CalledExprFits e × ExprsFit es

    -- there is one for each parameter
    pub ActualsFit : PExprs → List Sort → Type 0
    ActualsFit tree.none [] = Unit {0}
    ActualsFit tree.none (s ∷ sorts) = ⊥
    ActualsFit (tree.more e es) [] = ⊥
    ActualsFit (tree.more e es) (s ∷ sorts) = ParameterStandsFor s e × CalledExprFits e × ActualsFit es sorts

  abbrev pub PairsFit : List PPair → Type 0
  PairsFit [] = Unit {0}
  PairsFit (p ∷ ps) = CalledExprFits p.high × PairsFit ps

  -- ---- what is given

  -- by itself
  abbrev pub GivenRight : Given → Type 0
  GivenRight (valued v) = Unit {0}
  GivenRight (passed c) = IsLink true c
  GivenRight (refers n) = IsSettled n
  GivenRight (names e) = CalledExprFits e

  -- the cell that is given leads elsewhere
  abbrev pub GivenLinks : (by_name : Bool) → Given → Type 0
  GivenLinks by_name (valued v) = ⊥
  GivenLinks by_name (passed c) = IsLink by_name c
  GivenLinks by_name (refers n) = Unit {0}
  GivenLinks by_name (names e) = by_name ≡ true

  abbrev pub GivenFits : Sort → Given → Type 0
  GivenFits s g = GivenRight g × (is_formal s ≡ true → GivenLinks (is_by_name s) g)

  -- these are given for the first of the sorts, and X holds of the sorts after them
  abbrev pub GivenThen : (List Sort → Type 0) → List Given → List Sort → Type 0
  GivenThen X [] sorts = X sorts
  GivenThen X (g ∷ gs) [] = ⊥
  GivenThen X (g ∷ gs) (s ∷ sorts) = GivenFits s g × GivenThen X gs sorts

  -- there is one for each
  abbrev pub GivensFit : List Given → List Sort → Type 0
  GivensFit gs sorts = GivenThen (λ after. after ≡ []) gs sorts

  -- the parameter's own cell is passed on for one of this sort
  pub record PassFits (n : Named) (s : Sort) : Type 0 where
    pub told : NameIsTold n
    pub formal : is_formal (sort_at sc n) ≡ true
    pub links : is_formal s ≡ true → is_by_name s ≡ false → is_by_name (sort_at sc n) ≡ false

  -- ---- what is evaluated up to its head

  abbrev mutual
    pub HoleFits : Hole → Type 0
    HoleFits (read n) = NameIsTold n
    HoleFits (element n ks v) = NameLeads n
    HoleFits (index n ks v e es) = NameLeads n × CalledExprFits e × ExprsFit es
    HoleFits (tests x ns) = AllByRecursion NameLeads ns × AreFew ns
    HoleFits (enter n gs) = IsCallee n × GivensFit gs (sorts_wanted n)
    HoleFits (subscript n ks h es) = NameLeads n × HoleFits h × ExprsFit es
    HoleFits (argument n x) = IsCallee n × ActualsLeft x (sorts_wanted n)
    HoleFits (left op h b) = HoleFits h × CalledExprFits b
    HoleFits (right op v h) = HoleFits h
    HoleFits (negated h) = HoleFits h
    HoleFits (inverted h) = HoleFits h
    HoleFits (condition h x y) = HoleFits h × CalledExprFits x × CalledExprFits y
    HoleFits _ = Unit {0}

    -- those that are given fit, and those after the head
    pub ActualsLeft : Actuals → List Sort → Type 0
    ActualsLeft (pass gs n sorts es) all = GivenThen (NextThen (PassFits n) sorts) gs all × ActualsFit es sorts
    ActualsLeft (in_value gs h sorts es) all = GivenThen (NextThen IsByValue sorts) gs all × HoleFits h × ActualsFit es sorts

  abbrev pub CalledPlaceFits : Place → Type 0
  CalledPlaceFits (own n) = IsSettled n
  CalledPlaceFits _ = Unit {0}

  abbrev pub AimFits : Aim → Type 0
  AimFits (resolve n) = NameIsTold n × (is_by_name (sort_at sc n) ≡ true)
  AimFits (place_index n ks v es) = NameLeads n × ExprsFit es
  AimFits inside_place = Unit {0}
  AimFits (place_subscript n ks h es) = NameLeads n × HoleFits h × ExprsFit es

  -- ---- statements

  -- a left side; by itself only the name of a parameter by name stands for something else
  abbrev pub LeftFits : Named → PExprs → Type 0
  LeftFits n tree.none = NameIsTold n × (is_formal (sort_at sc n) ≡ is_by_name (sort_at sc n))
  LeftFits n (tree.more e es) = NameLeads n × CalledExprFits e × ExprsFit es

  abbrev pub ControlFits : Named → Type 0
  ControlFits v = LeftFits v tree.none × CalledExprFits (alone v)

  abbrev pub TaskFits : Option Named → Type 0
  TaskFits None = Unit {0}
  TaskFits (Some n) = IsSettled n

  abbrev mutual
    pub CalledStmtFits : PStmt → Type 0
    CalledStmtFits (tree.label n s) = CalledStmtFits s
    CalledStmtFits (tree.assign (tree.subscripted n es) e) = LeftFits n es × CalledExprFits e
    CalledStmtFits (tree.call_of (tree.called n es)) = IsCallee n × ActualsFit es (sorts_wanted n)
    CalledStmtFits (tree.block (tree.body spot tree.no_decls ss)) = CalledStmtsFit ss
    CalledStmtFits (tree.if_then c x) = CalledExprFits c × CalledStmtFits x
    CalledStmtFits (tree.if_else c x y) = CalledExprFits c × CalledStmtFits x × CalledStmtFits y
    CalledStmtFits (tree.while c b) = CalledExprFits c × CalledStmtFits b
    CalledStmtFits (tree.until b c) = CalledStmtFits b × CalledExprFits c
    CalledStmtFits (tree.for v a s l b) = ControlFits v × CalledExprFits a × CalledExprFits s × CalledExprFits l × CalledStmtFits b
    CalledStmtFits (tree.thru e b) = CalledExprFits e × CalledStmtFits b
    CalledStmtFits (tree.case e ss) = CalledExprFits e × CalledStmtsFit ss
    CalledStmtFits (tree.process (tree.called n es) task) = IsCallee n × ActualsFit es (sorts_wanted n) × TaskFits task
    CalledStmtFits (tree.go_to n) = IsLabel n
    CalledStmtFits (tree.event act e) = NameLeads e.name
    CalledStmtFits (tree.write n spot phrases es) = ExprsFit es
    CalledStmtFits _ = Unit {0}

    pub CalledStmtsFit : PStmts → Type 0
    CalledStmtsFit tree.no_stmts = Unit {0}
    CalledStmtsFit (tree.stmts s ss) = CalledStmtFits s × CalledStmtsFit ss

  abbrev pub LoopFits : Loop → Type 0
  LoopFits loop = ControlFits loop.control × CalledExprFits loop.step × CalledExprFits loop.last × CalledStmtFits loop.body

  -- ---- what is still to be done

  abbrev pub ItemFits : Item → Type 0
  ItemFits (run s) = CalledStmtFits s
  ItemFits turn = Unit {0}
  ItemFits (count n b) = CalledStmtFits b
  ItemFits (check b c) = CalledStmtFits b × CalledExprFits c
  ItemFits (test loop) = LoopFits loop
  ItemFits (result name) = Unit {0}
  ItemFits (make_arrays kind ns pairs) = PairsFit pairs
  ItemFits (make_event n) = Unit {0}

  abbrev pub ItemsFit : List Item → Type 0
  ItemsFit [] = Unit {0}
  ItemsFit (item ∷ k) = ItemFits item × ItemsFit k

  abbrev pub RestFits : Rest → Type 0
  RestFits over = Unit {0}
  RestFits (reading name) = Unit {0}
  RestFits (giving v) = Unit {0}
  RestFits (giving_place p) = CalledPlaceFits p
  RestFits (store p v k) = CalledPlaceFits p × ItemsFit k
  RestFits (select v ss k) = CalledStmtsFit ss × ItemsFit k
  RestFits (turning k) = ItemsFit k
  RestFits (going n) = IsLabel n
  RestFits (entering_block b k) = ItemsFit k
  RestFits (entering n gs k) = IsCallee n × GivensFit gs (sorts_wanted n) × ItemsFit k
  RestFits (starting n gs task k) = IsCallee n × GivensFit gs (sorts_wanted n) × TaskFits task × ItemsFit k
  RestFits (acting act n k) = NameLeads n × ItemsFit k
  RestFits (line phrases vs k) = ItemsFit k
  RestFits (arrays kind ns pairs vs k) = ItemsFit k
  RestFits (event n k) = ItemsFit k
  RestFits (within k) = ItemsFit k
  RestFits (dropping k) = ItemsFit k
  RestFits (evaluating h) = HoleFits h
  RestFits (locating x) = AimFits x
  RestFits (aiming x e k) = AimFits x × CalledExprFits e × ItemsFit k
  RestFits (storing p h k) = CalledPlaceFits p × HoleFits h × ItemsFit k
  RestFits (choosing h x y k) = HoleFits h × CalledStmtFits x × CalledStmtFits y × ItemsFit k
  RestFits (looping h c b k) = HoleFits h × CalledExprFits c × CalledStmtFits b × ItemsFit k
  RestFits (checking h b c k) = HoleFits h × CalledStmtFits b × CalledExprFits c × ItemsFit k
  RestFits (counting h b k) = HoleFits h × CalledStmtFits b × ItemsFit k
  RestFits (differing h loop k) = HoleFits h × LoopFits loop × ItemsFit k
  RestFits (stepping d h loop k) = HoleFits h × LoopFits loop × ItemsFit k
  RestFits (selecting h ss k) = HoleFits h × CalledStmtsFit ss × ItemsFit k
  RestFits (calling n x k) = IsCallee n × ActualsLeft x (sorts_wanted n) × ItemsFit k
  RestFits (preparing n x task k) = IsCallee n × ActualsLeft x (sorts_wanted n) × TaskFits task × ItemsFit k
  RestFits (writing phrases vs h es k) = HoleFits h × ExprsFit es × ItemsFit k
  RestFits (bounding kind ns pairs vs h ps k) = HoleFits h × PairsFit ps × ItemsFit k

  -- in the text of each block
  abbrev pub CallsFitInTexts : Type 0
  CallsFitInTexts = (j : ℕ) → j < length sc.blocks → ItemsFit (items_of (block_numbered sc.blocks j))

  -- ---- what a head asks for, and what answers it

  abbrev pub AskFits : Ask → Type 0
  AskFits (asks.enters n gs) = IsCallee n × GivensFit gs (sorts_wanted n)
  AskFits (asks.starts n gs task) = IsCallee n × GivensFit gs (sorts_wanted n) × TaskFits task
  AskFits (asks.reads n) = NameIsTold n
  AskFits (asks.reads_element n ks v) = NameLeads n
  AskFits (asks.indexes n ks v) = NameLeads n
  AskFits (asks.passes n) = NameIsTold n × (is_formal (sort_at sc n) ≡ true)
  AskFits (asks.resolves n) = NameIsTold n × (is_by_name (sort_at sc n) ≡ true)
  AskFits (asks.stores p v) = CalledPlaceFits p
  AskFits (asks.goes_to n) = IsLabel n
  AskFits (asks.event_deed x ns) = AllByRecursion NameLeads ns × AreFew ns
  AskFits (asks.leaves (place p)) = CalledPlaceFits p
  AskFits _ = Unit {0}

  -- a Pass is answered by a cell that leads where the parameter does
  abbrev pub AnswerFits : Ask → Answer → Type 0
  AnswerFits (asks.passes n) (cell c) = IsLink (is_by_name (sort_at sc n)) c
  AnswerFits (asks.passes n) _ = ⊥
  AnswerFits _ (place p) = CalledPlaceFits p
  AnswerFits _ _ = Unit {0}
