-- The laws of where the machine stands: for every list of operators, every level and every number of words that there may be.
use Rattle.std.specs.Prelude.{◌≡◌, ℕ, ◌+◌, ◌<◌, ◌≤◌, true, false, List, [], ◌++◌, length}
use Rattle.algol_tree.specs.Blocks.{Block}
use Rattle.algol_tree.specs.Scopes.{Scopes}
use Rattle.algol_meaning.specs.Rest.{Item, Rest, Answer}
use Rattle.algol_tree.specs.Plain.{PDecls, PStmts}
use Rattle.algol_meaning.specs.Statements.{settle_items, items, decls_items, items_of, items_from}
use Rattle.algol_meaning.specs.Settle.{settle, settle_actual_place}
use Rattle.algol_meaning.specs.Asks.{Ask, nothing, ask, evaluated_of, located_of}
use Rattle.b67_segment.specs.Operators.{Placed}
use Rattle.b67_templates.specs.Contexts as yielding
use Rattle.b67_templates.specs.Contexts.{Context}
use Rattle.b67_ops.specs.declared.Operator.TheVariants as ops
use Rattle.b67_ops.specs.declared.PlainKind.TheVariants as kinds
use Rattle.b67_templates.specs.Fragments.{Has}
use Rattle.b67_templates.specs.Cells.{Actual, has_place}
use Rattle.b67_templates.specs.Labels.{table_place, LabelAt}
use Rattle.b67_templates.specs.Code.{DeclsAt, StmtsAt, KAt, in_routine, RoutineAt}
use Rattle.b67_templates.specs.Depths.{depth, decls_depth, stmts_depth}
use Rattle.b67_standing.specs.Stepping.{Slot, FragmentStep, StepsLead}
use Rattle.b67_standing.specs.Standing.{pend, selected, SlotsFollow, StandsFor, ComesTo, ActionAt, Acted, CodeGoesOn}

-- from where the items stand the machine comes to where it stands for them after the silent steps
abbrev pub ItemsStand : Type 0
ItemsStand =
    (sc : Scopes) (context : Context) (ps : List Placed) (level most : ℕ) (k : List Item) (pc : ℕ) →
    SlotsFollow sc context ps level most k pc → ComesTo sc context ps level most (settle_items sc k) pc (pend k)

-- so it does from the start of what a block has to do, with nothing above the floor
abbrev pub BlocksStart : Type 0
BlocksStart =
    (sc : Scopes) (context : Context) (ps : List Placed) (level most : ℕ) (b : Block) (pc : ℕ) →
    KAt sc context ps level (items_of b) pc → decls_depth b.decls + stmts_depth b.stmts ≤ most → 1 ≤ most → ComesTo sc context ps level most (settle_items sc (items_of b)) pc []

-- so it does from the arrays and the statements of an inner block, after which its EXIT stands
abbrev pub InnerBlocksStart : Type 0
InnerBlocksStart =
    (sc : Scopes) (context : Context) (ps : List Placed) (level most : ℕ) (ds : PDecls) (ss : PStmts) (pc from end over : ℕ) →
    DeclsAt sc context ps level ds pc from → StmtsAt sc context ps level ss from end end → context.yields ≡ yielding.nothing →
    Has ps level end (ops.Plain kinds.Exit) over → decls_depth ds + stmts_depth ss ≤ most →
    ComesTo sc context ps level most (settle_items sc (decls_items ds ++ items ss [])) pc []

-- so it does from the start of an actual's code, with the selector where it may give a place: for its value, and for that place
abbrev pub RoutinesGiveValues : Type 0
RoutinesGiveValues =
    (sc : Scopes) (context : Context) (ps : List Placed) (level most : ℕ) (a : Actual) (at : ℕ) → RoutineAt sc context ps level a at → depth a.expr ≤ most →
    ComesTo sc (in_routine (yielding.value a.kind) context) ps level most (evaluated_of (settle sc a.expr)) at (selected (has_place a.expr) false)

abbrev pub RoutinesGivePlaces : Type 0
RoutinesGivePlaces =
    (sc : Scopes) (context : Context) (ps : List Placed) (level most : ℕ) (a : Actual) (at : ℕ) → RoutineAt sc context ps level a at → depth a.expr ≤ most →
    has_place a.expr ≡ true →
    ComesTo sc (in_routine (yielding.element a.kind) context) ps level most (located_of (settle_actual_place sc a.expr)) at (selected true true)

-- what an inner block's code says is what is said of a block's: the items of the block stand there
abbrev pub InnerBlocksFollow : Type 0
InnerBlocksFollow =
    (sc : Scopes) (context : Context) (ps : List Placed) (level : ℕ) (ds : PDecls) (ss : PStmts) (pc from end over : ℕ) →
    DeclsAt sc context ps level ds pc from → StmtsAt sc context ps level ss from end end → context.yields ≡ yielding.nothing →
    Has ps level end (ops.Plain kinds.Exit) over → KAt sc context ps level (decls_items ds ++ items ss []) pc

-- from the branch for a label of a block, whose code stands anywhere, with nothing above the floor, to where it stands for the statements
-- from the label on
abbrev pub JumpsStand : Type 0
JumpsStand =
    (sc : Scopes) (context : Context) (ps : List Placed) (level most : ℕ) (b : Block) (name : List ℕ) (number pc : ℕ) →
    KAt sc context ps level (items_of b) pc → LabelAt sc context ps level b name number → stmts_depth b.stmts ≤ most → 1 ≤ most →
    ComesTo sc context ps level most (settle_items sc (items_from b name)) (table_place number) []

-- wherever the machine stands for a rest whose head asks for an action, that stands there, and from where it leaves the machine it goes on
abbrev pub RestsGoOn : Type 0
RestsGoOn =
    (sc : Scopes) (context : Context) (ps : List Placed) (level most : ℕ) (r : Rest) (pc : ℕ) (slots : List Slot) →
    StandsFor sc context ps level most r pc slots → (ask r ≡ nothing → ⊥) → CodeGoesOn sc context ps level most r pc slots

-- ---- room

-- what waits has room
abbrev pub CountsHaveRoom : Type 0
CountsHaveRoom =
    (sc : Scopes) (context : Context) (ps : List Placed) (level most : ℕ) (k : List Item) (pc : ℕ) → SlotsFollow sc context ps level most k pc → length (pend k) ≤ most

-- private operators leave no more words than there may be
abbrev pub LeadsHaveRoom : Type 0
LeadsHaveRoom =
    (sc : Scopes) (context : Context) (ps : List Placed) (level most a b : ℕ) (x y : List Slot) →
    StepsLead sc context ps level most a x b y → length x ≤ most → length y ≤ most

-- nor do actions
abbrev pub ActionsHaveRoom : Type 0
ActionsHaveRoom =
    (sc : Scopes) (context : Context) (ps : List Placed) (level most : ℕ) (q : Ask) (pc : ℕ) (slots : List Slot) (action : ActionAt sc context ps level most q pc slots)
    (a : Answer) (at : ℕ) (after : List Slot) → Acted sc context ps level most q pc slots action a at after → length slots ≤ most → length after ≤ most

-- ---- branches

-- private operators lead forward
abbrev pub StepsGoForward : Type 0
StepsGoForward =
    (sc : Scopes) (context : Context) (ps : List Placed) (level most a b : ℕ) (x y : List Slot) → FragmentStep sc context ps level most a x b y → a < b
