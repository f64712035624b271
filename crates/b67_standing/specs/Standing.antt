-- Where the machine stands for what a part has still to do: the place of the code, and what lies above the floor there.
use Rattle.std.specs.Prelude.{◌≡◌, ℕ, ◌+◌, ◌*◌, ◌<◌, ◌≤◌, ℤ, pos, Bool, true, false, List, [], ◌∷◌, ◌++◌, length, Option, Some, None, Err}
use Rattle.algol_tree.specs.declared.tree.Op.{Op}
use Rattle.algol_tree.specs.declared.tree.Kind.{Kind}
use Rattle.algol_tree.specs.declared.tree.Kind.TheVariants as types
use Rattle.algol_tree.specs.declared.tree.Named.{Named}
use Rattle.algol_tree.specs.declared.tree.PhraseText.{PhraseText}
use Rattle.algol_tree.specs.Plain as tree
use Rattle.algol_tree.specs.Plain.{PExpr, PExprs, PPair, PStmt, PStmts, PDecls}
use Rattle.algol_tree.specs.Types.{given_by, taken_by, told_by}
use Rattle.algol_tree.specs.declared.token.Spot.{Spot}
use Rattle.algol_tree.specs.Blocks.{block_numbered, number_at}
use Rattle.algol_tree.specs.Scopes.{Scopes}
use Rattle.b67_num.specs.declared.NumFault.{NumFault}
use Rattle.algol_meaning.specs.Value as cells
use Rattle.algol_meaning.specs.Value.{Value, number, truth, Cell}
use Rattle.algol_meaning.specs.Operators.{result_of}
use Rattle.algol_meaning.specs.Rest.{Place, own, there, element_of, Hole, read, element, index, subscript, tests, broken, left, right, negated, inverted, condition, Half, val, busy, Aim, resolve, place_index, place_subscript, Loop, Item, count, Rest, over, store, select, turning, going, starting, acting, line, arrays, event, bounding, aiming, storing, choosing, looping, checking, counting, differing, stepping, selecting, writing, calling, preparing, Given, valued, passed, refers, names, argument, Actuals, pass, in_value, enter, entering_block, entering, reading, giving, giving_place, evaluating, locating, Answer, done, value, cell, place, entered}
use Rattle.algol_meaning.specs.Statements.{difference_in, stepped}
use Rattle.algol_meaning.specs.Asks.{Ask, nothing, reads, reads_element, indexes, resolves, passes, event_deed, makes_arrays, makes_event, goes_to, starts, reads_result, fails, enters, leaves, stores, selects, turns, writes, enters_block, ask, resume}
use Rattle.algol_paths.specs.Arrays.{DeclaredArray, Shape, shape_of}
use Rattle.b67_control.specs.Control.{Fits_pcw}
use Rattle.b67_ops.specs.declared.Couple.{Couple}
use Rattle.b67_ops.specs.declared.TheConstants.{OUTER_LEVEL}
use Rattle.b67_ops.specs.declared.Operator.TheVariants as ops
use Rattle.b67_ops.specs.declared.PlainKind.TheVariants as kinds
use Rattle.b67_ops.specs.declared.BranchKind.TheVariants.{Brfl, Brtr, Brun}
use Rattle.b67_ops.specs.declared.intrinsic.Intrinsic.TheVariants.{Write, Select, Arrays, Event, Start, GoTo}
use Rattle.b67_segment.specs.Operators.{Placed}
use Rattle.b67_templates.specs.Contexts as yielding
use Rattle.b67_templates.specs.Contexts.{Yields, yields_of, Context}
use Rattle.b67_templates.specs.Fragments.{IsWholeNumber, HasKind, Has, moved_number, MovedAt, ReadyAt, BranchAt, TurnAt, FragmentGoes, code_at, operator_for, is_implication}
use Rattle.b67_templates.specs.Cells as wants
use Rattle.b67_templates.specs.Cells.{Wanted, parameter_wants, ShapeAgrees, procedures, IsVariable, IsFormalName, IsProcedure, IsDeclaredArray, IsFormalArray, IsArray, IsDeclaredEvent, IsFormalEvent, AreEvents, IsOwnActual}
use Rattle.b67_templates.specs.Events.{AreSoMany}
use Rattle.b67_templates.specs.Labels.{IsLabel}
use Rattle.b67_deeds.specs.Deeds as deeds
use Rattle.b67_deeds.specs.Deeds.{EventDeed}
use Rattle.b67_ops.specs.Intrinsics.{intrinsic_of}
use Rattle.b67_templates.specs.Code.{FormatIs, DroppedAt, ResultAt, AreDimensions, HasNoCounts, in_block, ReadAt, ExprAt, SecondAt, ActualsAt, BoundsAt, LineAt, TableAt, PastAt, StepAt, StmtAt, CasesAt, InnerAt, ThruAt, KAt, exprs_count, stmts_count}
use Rattle.b67_templates.specs.Arguments.{arguments_in_decls, arguments_in_stmts}
use Rattle.b67_templates.specs.Depths.{depth, line_depth, bounds_depth, decls_depth, loop_depth, stmt_depth, stmts_depth, AreShallow}
use Rattle.b67_standing.specs.Stepping.{row, element as element_held, variable as variable_held, cell_named, actual as actual_held, passed as passed_held, PlaceIsFound, held_at, Slot, operand, reference, intrinsic, control, descriptor, mark, ready, SlotsHaveRoom, StepsLead}

-- the counts that lie there while these items wait
abbrev pub pend : List Item → List Slot
pend [] = []
pend (count n b ∷ k) = operand (number n) ∷ pend k
pend (_ ∷ k) = pend k

-- each of them is a whole number
abbrev pub ItemsAreCounts : List Item → Type 0
ItemsAreCounts [] = Unit {0}
ItemsAreCounts (count n b ∷ k) = IsWholeNumber n × ItemsAreCounts k
ItemsAreCounts (_ ∷ k) = ItemsAreCounts k

-- these values, the last on top
abbrev pub operands : List Value → List Slot → List Slot
operands [] below = below
operands (v ∷ vs) below = operands vs (operand v ∷ below)

abbrev pub AreNumbers : List Value → Type 0
AreNumbers [] = Unit {0}
AreNumbers (v ∷ vs) = HasKind types.Number v × AreNumbers vs

-- the word of an actual that is done, where this is wanted of it
abbrev pub given_slot : Wanted → Given → Slot
given_slot wanted (valued v) = operand v
given_slot wanted (refers n) = descriptor (cell_named n)
given_slot wanted (passed c) = descriptor (passed_held wanted c)
given_slot (wants.by_name kind) (names e) = descriptor (actual_held e kind)
given_slot _ _ = mark

-- those of these actuals, the last on top
abbrev pub given_slots : List Wanted → List Given → List Slot → List Slot
given_slots (w ∷ wanted) (g ∷ gs) below = given_slots wanted gs (given_slot w g ∷ below)
given_slots _ _ below = below

-- the references of these cells, the last on top
abbrev pub references : List Couple → List Slot → List Slot
references [] below = below
references (c ∷ cs) below = references cs (reference c ∷ below)

-- the start of a call: a mark, the reference of the procedure's control word
abbrev pub call_begun : Couple → List Slot → List Slot
call_begun couple below = reference couple ∷ mark ∷ below

-- .. of a PROCESS: a mark, the references of the intrinsic and of the procedure's control word, the task
abbrev pub start_begun : Couple → Slot → List Slot → List Slot
start_begun couple task below = task ∷ reference couple ∷ intrinsic Start ∷ mark ∷ below

-- a part that leaves gives what is wanted of it: a value of that kind, a place that it found, or nothing
abbrev pub Gives : Yields → Answer → Type 0
Gives yielding.nothing done = Unit {0}
Gives (yielding.value kind) (value v) = HasKind kind v
Gives (yielding.element kind) (place p) = PlaceIsFound p
Gives _ _ = ⊥

-- the value lies on top, or the word of the place
abbrev pub pushed : Yields → Answer → List Slot → List Slot
pushed yielding.nothing a slots = slots
pushed (yielding.value kind) (value v) slots = operand v ∷ slots
pushed (yielding.element kind) (place p) slots = descriptor (held_at p kind) ∷ slots
pushed _ _ slots = slots

-- at the start of an actual's code: the selector, which says whether a place is asked for, where the code may give one
abbrev pub selected : Bool → Bool → List Slot
selected true selector = operand (truth selector) ∷ []
selected false selector = []

-- the start of a line: a mark, the reference of the intrinsic, the number of the format
abbrev pub line_begun : ℕ → List Slot → List Slot
line_begun format below = operand (number (pos format)) ∷ intrinsic Write ∷ mark ∷ below

-- ---- arrays

-- the start of the making of so many arrays: a mark, the reference of the intrinsic, their number
abbrev pub arrays_begun : ℕ → List Slot → List Slot
arrays_begun many below = operand (number (pos many)) ∷ intrinsic Arrays ∷ mark ∷ below

-- the lower bounds and the values of the upper ones, the last on top
abbrev pub extents : List PPair → List Value → List Slot → List Slot
extents (p ∷ pairs) (v ∷ vs) below = extents pairs vs (operand v ∷ operand (number p.low) ∷ below)
extents _ _ below = below

abbrev pub AreWholeLows : List PPair → Type 0
AreWholeLows [] = Unit {0}
AreWholeLows (p ∷ pairs) = IsWholeNumber p.low × AreWholeLows pairs

-- the last subscript, after these, moved by its lower bound: it lies under the reference of the array, or the descriptor of its row
abbrev pub IsLastSubscript : Named → Couple → List ℤ → List ℕ → ℤ → List Slot → List Slot → Type 0
IsLastSubscript n c (low ∷ []) [] i slots below = slots ≡ reference c ∷ operand (number (moved_number low i)) ∷ below
IsLastSubscript n c (low ∷ low' ∷ []) (k ∷ []) i slots below = slots ≡ descriptor (row n (k ∷ [])) ∷ operand (number (moved_number low' i)) ∷ below
IsLastSubscript n c _ _ i slots below = ⊥

-- a subscript after the others
abbrev pub IsNext : List ℕ → List ℕ → Type 0
IsNext ks more = (k : ℕ) × (more ≡ ks ++ k ∷ [])

-- what the cell of a parameter has may be passed where this is wanted
abbrev pub IsPassed : Wanted → Cell → Type 0
IsPassed (wants.array shape) (cells.reference r) = Unit {0}
IsPassed (wants.by_name kind) (cells.reference r) = Unit {0}
IsPassed (wants.by_name kind) (cells.named a) = Unit {0}
IsPassed wants.event (cells.reference r) = Unit {0}
IsPassed _ _ = ⊥

-- At the text of this context the slot is that of a task: the reference of its event's cell, or 0 where there is none.
abbrev pub IsTask : Scopes → Context → Option Named → Slot → Type 0
IsTask sc context None slot = slot ≡ operand (number (pos 0))
IsTask sc context (Some n) slot = (c : Couple) × IsDeclaredEvent sc context.level n c × (slot ≡ reference c)

-- At the text of this context the actual is what is wanted: a value of that kind; an array, and a declared one agrees with the shape; an event; a
-- variable of that kind, or an actual that has a cell.
abbrev pub ActualIsGiven : Scopes → Context → Given → Wanted → Type 0
ActualIsGiven sc context (valued v) (wants.value kind) = HasKind kind v
ActualIsGiven sc context (refers n) (wants.array shape) = (d : DeclaredArray) × (c : Couple) × IsDeclaredArray sc context.level n d c × ShapeAgrees shape (shape_of d)
ActualIsGiven sc context (refers n) wants.event = (c : Couple) × IsDeclaredEvent sc context.level n c
ActualIsGiven sc context (refers n) (wants.by_name kind) = (c : Couple) × IsVariable sc context.level n kind c × (OUTER_LEVEL ≤ c.level)
ActualIsGiven sc context (names e) (wants.by_name kind) = (c : Couple) × IsOwnActual sc context.block context.level e kind c
ActualIsGiven sc context (passed c) wanted = IsPassed wanted c
ActualIsGiven sc context _ _ = ⊥

-- .. each of them
abbrev pub ActualsAreGiven : Scopes → Context → List Wanted → List Given → Type 0
ActualsAreGiven sc context [] [] = Unit {0}
ActualsAreGiven sc context (w ∷ wanted) (g ∷ gs) = ActualIsGiven sc context g w × ActualsAreGiven sc context wanted gs
ActualsAreGiven sc context _ _ = ⊥

module _ (sc : Scopes) (context : Context) (ps : List Placed) (level most : ℕ) where
  -- what is still to be done stands from there on, no item of it needs more words than there may be, and its counts are whole
  pub record SlotsFollow (k : List Item) (pc : ℕ) : Type 0 where
    pub at : KAt sc context ps level k pc
    pub shallow : AreShallow most k
    pub counts : ItemsAreCounts k

  -- ---- operators that are actions, and what they find there; the operator after them stands at the place `next`

  -- the value, of the kind of the variable, lies on its reference
  pub record StoreAt (n : Named) (v : Value) (pc next : ℕ) (slots below : List Slot) : Type 0 where
    pub kind : Kind
    pub couple : Couple
    pub variable : IsVariable sc context.level n kind couple
    pub fits : HasKind kind v
    pub lies : slots ≡ operand v ∷ reference couple ∷ below
    pub stands : Has ps level pc (ops.Plain kinds.Stod) next

  -- the operands of this operator have no result
  pub record BreaksAt (op : Op) (v w : Value) (fault : NumFault) (pc next : ℕ) (slots below : List Slot) : Type 0 where
    pub first_fits : HasKind (taken_by op) v
    pub second_fits : HasKind (taken_by op) w
    pub breaks : result_of op v w ≡ Err fault
    pub lies : slots ≡ operand w ∷ operand (ready op v) ∷ below
    pub stands : Has ps level pc (ops.Plain (operator_for op)) next

  -- the number of a statement of CASE, how many there are, and their table, which begins after the entry
  pub record SelectAt (v : Value) (ss : PStmts) (pc table : ℕ) (slots below : List Slot) : Type 0 where
    pub fits : HasKind types.Number v
    pub many : IsWholeNumber (pos (stmts_count ss))
    pub place : IsWholeNumber (pos table)
    pub lies : slots ≡ operand (number (pos table)) ∷ operand (number (pos (stmts_count ss))) ∷ operand v ∷ intrinsic Select ∷ mark ∷ below
    pub stands : Has ps level pc (ops.Plain kinds.Entr) table

  -- the format has as many numbers as there are items
  pub record WriteStandsAt (phrases : List PhraseText) (vs : List Value) (pc next : ℕ) (slots below : List Slot) : Type 0 where
    pub format : ℕ
    pub is : FormatIs sc context ps level format phrases (length vs)
    pub whole : IsWholeNumber (pos format)
    pub fits : AreNumbers vs
    pub lies : slots ≡ operands vs (line_begun format below)
    pub stands : Has ps level pc (ops.Plain kinds.Entr) next

  -- The control word of a block's code lies on a mark. The code runs one level further in, and needs no more words, with
  -- the control words of its procedures and of its actuals, than there may be.
  pub record EntersAt (spot : Spot) (ds : PDecls) (ss : PStmts) (pc next : ℕ) (slots below : List Slot) : Type 0 where
    pub begin : ℕ
    pub fits : Fits_pcw (code_at context.segment begin (level + 1))
    pub code : InnerAt sc (in_block (number_at sc.blocks spot) context) ps (level + 1) ds ss begin
    pub shallow : length (procedures ds) + arguments_in_decls ds + arguments_in_stmts ss + decls_depth ds + stmts_depth ss ≤ most
    pub lies : slots ≡ control (code_at context.segment begin (level + 1)) ∷ mark ∷ below
    pub stands : Has ps level pc (ops.Plain kinds.Entr) next

  -- the actuals lie on the reference of a procedure's control word, and that on a mark
  pub record CallsAt (n : Named) (gs : List Given) (callee pc next : ℕ) (slots below : List Slot) : Type 0 where
    pub couple : Couple
    pub procedure : IsProcedure sc context.level n callee couple
    pub fit : ActualsAreGiven sc context (parameter_wants sc callee) gs
    pub lies : slots ≡ given_slots (parameter_wants sc callee) gs (call_begun couple below)
    pub stands : Has ps level pc (ops.Plain kinds.Entr) next

  -- The actuals lie on the task, that on the reference of a procedure's control word, and that on the reference of the intrinsic and a mark. The
  -- procedure has no result.
  pub record StartsAt (n : Named) (gs : List Given) (task : Option Named) (callee pc next : ℕ) (slots below : List Slot) : Type 0 where
    pub couple : Couple
    pub procedure : IsProcedure sc context.level n callee couple
    pub untyped : (block_numbered sc.blocks callee).result ≡ None
    pub tasked : Slot
    pub task_is : IsTask sc context task tasked
    pub fit : ActualsAreGiven sc context (parameter_wants sc callee) gs
    pub lies : slots ≡ given_slots (parameter_wants sc callee) gs (start_begun couple tasked below)
    pub stands : Has ps level pc (ops.Plain kinds.Entr) next

  -- the couple is that of a parameter's cell, and what that has is passed where this is wanted
  pub data Passable (n : Named) (couple : Couple) : Wanted → Type 0 where
    array_passed : (shape actual : Shape) → IsFormalArray sc context.level n actual couple → ShapeAgrees shape actual → Passable n couple (wants.array shape)
    name_passed : (kind : Kind) → IsFormalName sc context.level n kind couple → Passable n couple (wants.by_name kind)
    event_passed : IsFormalEvent sc context.level n couple → Passable n couple wants.event

  -- what LODT finds: the reference to the parameter's cell
  pub record PassesAt (n : Named) (wanted : Wanted) (pc next : ℕ) (slots below : List Slot) : Type 0 where
    pub couple : Couple
    pub passable : Passable n couple wanted
    pub lies : slots ≡ reference couple ∷ below
    pub stands : Has ps level pc (ops.Plain kinds.Lodt) next

  -- .. EVAL, of a parameter by name
  pub record ResolvesAt (n : Named) (kind : Kind) (pc next : ℕ) (slots below : List Slot) : Type 0 where
    pub couple : Couple
    pub is_formal : IsFormalName sc context.level n kind couple
    pub lies : slots ≡ reference couple ∷ below
    pub stands : Has ps level pc (ops.Plain kinds.Eval) next

  -- ---- events and labels

  -- the references of the cells of as many events as this may be done with, or of the parameters that stand for them, lie on that of its
  -- intrinsic, and that on a mark
  pub record ActsOnAt (x : EventDeed) (ns : List Named) (pc next : ℕ) (slots below : List Slot) : Type 0 where
    pub many : AreSoMany x ns
    pub couples : List Couple
    pub are_events : AreEvents sc context.level ns couples
    pub lies : slots ≡ references couples (intrinsic (intrinsic_of x) ∷ mark ∷ below)
    pub stands : Has ps level pc (ops.Plain kinds.Entr) next

  -- the reference of an intrinsic lies on a mark, with nothing below: after the entry PUSH makes a cell of the event's word
  pub record MakesEventAt (pc next : ℕ) (slots : List Slot) : Type 0 where
    pub lies : slots ≡ intrinsic Event ∷ mark ∷ []
    pub made : ℕ
    pub stands : Has ps level pc (ops.Plain kinds.Entr) made
    pub push : Has ps level made (ops.Plain kinds.Push) next

  -- the level of a label's block, the segment of its text, and the place of the label's branch there
  pub record GoesToAt (n : Named) (pc next : ℕ) (slots below : List Slot) : Type 0 where
    pub target : ℕ
    pub segment : ℕ
    pub entry : ℕ
    pub label : IsLabel sc context.level n target segment entry
    pub level_whole : IsWholeNumber (pos target)
    pub segment_whole : IsWholeNumber (pos segment)
    pub entry_whole : IsWholeNumber (pos entry)
    pub lies : slots ≡ operand (number (pos entry)) ∷ operand (number (pos segment)) ∷ operand (number (pos target)) ∷ intrinsic GoTo ∷ mark ∷ below
    pub stands : Has ps level pc (ops.Plain kinds.Entr) next

  -- ---- subscripts

  -- what NXLV finds
  pub record ElementReadAt (n : Named) (ks : List ℕ) (v : Value) (pc next : ℕ) (slots below : List Slot) : Type 0 where
    pub array : Shape
    pub couple : Couple
    pub subscript : ℤ
    pub is_array : IsArray sc context.level n array couple
    pub is : v ≡ number subscript
    pub whole : IsWholeNumber subscript
    pub lies : IsLastSubscript n couple array.lows ks subscript slots below
    pub stands : Has ps level pc (ops.Plain kinds.Nxlv) next

  -- .. INDX
  pub record ElementIndexAt (n : Named) (ks : List ℕ) (v : Value) (kind : Kind) (pc next : ℕ) (slots below : List Slot) : Type 0 where
    pub array : Shape
    pub couple : Couple
    pub subscript : ℤ
    pub is_array : IsArray sc context.level n array couple
    pub kind_is : array.kind ≡ kind
    pub is : v ≡ number subscript
    pub whole : IsWholeNumber subscript
    pub lies : IsLastSubscript n couple array.lows ks subscript slots below
    pub stands : Has ps level pc (ops.Plain kinds.Indx) next

  -- .. NXLN, which is for the first of two subscripts
  pub record RowIndexAt (n : Named) (ks : List ℕ) (v : Value) (low second : ℤ) (pc next : ℕ) (slots below : List Slot) : Type 0 where
    pub array : Shape
    pub couple : Couple
    pub subscript : ℤ
    pub is_array : IsArray sc context.level n array couple
    pub lows_are : array.lows ≡ low ∷ second ∷ []
    pub first : ks ≡ []
    pub is : v ≡ number subscript
    pub whole : IsWholeNumber subscript
    pub lies : slots ≡ reference couple ∷ operand (number (moved_number low subscript)) ∷ below
    pub stands : Has ps level pc (ops.Plain kinds.Nxln) next

  -- an index leads to a row, or to an element
  pub data IndexesAt (n : Named) (ks : List ℕ) (v : Value) (pc : ℕ) (slots : List Slot) : Type 0 where
    of_row : (low second : ℤ) (next : ℕ) (below : List Slot) → RowIndexAt n ks v low second pc next slots below → IndexesAt n ks v pc slots
    of_element : (kind : Kind) (next : ℕ) (below : List Slot) → ElementIndexAt n ks v kind pc next slots below → IndexesAt n ks v pc slots

  -- The head is in a subscript, after these, before those; `holds` is where its value is to lie, and from which place on. At the place `to`
  -- the last subscript is moved.
  abbrev pub Seeks : (List Slot → ℕ → Type 0) → Named → Couple → List ℤ → List ℕ → PExprs → List Slot → ℕ → Type 0
  Seeks holds n c (low ∷ []) [] tree.none below to =
      (a : ℕ) × (b : ℕ) × holds below a × MovedAt ps level low a b × Has ps level b (ops.Namc c) to × SlotsHaveRoom most below 5
  Seeks holds n c (low ∷ low' ∷ []) [] (tree.more e tree.none) below to =
      (a : ℕ) × (b : ℕ) × (q : ℕ) × (r : ℕ) × holds below a × MovedAt ps level low a b × Has ps level b (ops.Namc c) q
      × Has ps level q (ops.Plain kinds.Nxln) r × SecondAt sc context ps level low' e r to × SlotsHaveRoom most below (5 + depth e)
  Seeks holds n c (low ∷ low' ∷ []) (k ∷ []) tree.none below to =
      (a : ℕ) × (b : ℕ) × holds (descriptor (row n (k ∷ [])) ∷ below) a × MovedAt ps level low' a b × Has ps level b (ops.Plain kinds.Exch) to
      × SlotsHaveRoom most below 5
  Seeks holds n c _ _ _ below to = ⊥

  -- ---- expressions

  -- Here the machine stands for an expression that is evaluated up to its head. Its value, of that kind, is to lie on `below` at the
  -- place `to`, or at one from which branches lead there.
  abbrev mutual
    pub Holds : Kind → Hole → ℕ → List Slot → List Slot → ℕ → Type 0
    Holds k (read n) pc slots below to =
        (next : ℕ) × ReadAt sc context ps level n k pc next × (slots ≡ below) × SlotsHaveRoom most below 1 × FragmentGoes ps level next to
    Holds k (enter n gs) pc slots below to =
        (callee : ℕ) × (next : ℕ) × CallsAt n gs callee pc next slots below × ((block_numbered sc.blocks callee).result ≡ Some k) × SlotsHaveRoom most below 2 × FragmentGoes ps level next to
    Holds k (tests x ns) pc slots below to =
        (next : ℕ) × (k ≡ told_by x) × ActsOnAt (deeds.tests x) ns pc next slots below × FragmentGoes ps level next to
    Holds k (broken op v w fault) pc slots below to = (next : ℕ) × (k ≡ given_by op) × BreaksAt op v w fault pc next slots below
    Holds k (left op h b) pc slots below to =
        (m : ℕ) × (r : ℕ) × (n : ℕ) × (next : ℕ) × (k ≡ given_by op) × Holds (taken_by op) h pc slots below m × ReadyAt ps level (is_implication op) m r
        × ExprAt sc context ps level (taken_by op) b r n n × SlotsHaveRoom most below (1 + depth b) × Has ps level n (ops.Plain (operator_for op)) next
        × FragmentGoes ps level next to
    Holds k (right op v h) pc slots below to =
        (n : ℕ) × (next : ℕ) × (k ≡ given_by op) × HasKind (taken_by op) v × Holds (taken_by op) h pc slots (operand (ready op v) ∷ below) n
        × Has ps level n (ops.Plain (operator_for op)) next × FragmentGoes ps level next to
    Holds k (negated h) pc slots below to =
        (m : ℕ) × (next : ℕ) × (k ≡ types.Number) × Holds types.Number h pc slots below m × Has ps level m (ops.Plain kinds.Chsn) next × FragmentGoes ps level next to
    Holds k (inverted h) pc slots below to =
        (m : ℕ) × (next : ℕ) × (k ≡ types.Truth) × Holds types.Truth h pc slots below m × Has ps level m (ops.Plain kinds.Lnot) next × FragmentGoes ps level next to
    Holds k (condition h x y) pc slots below to =
        (m : ℕ) × (m' : ℕ) × (n : ℕ) × (n' : ℕ) × (t : ℕ) × (u : ℕ) × Holds types.Truth h pc slots below m × BranchAt ps level Brfl m n' m'
        × ExprAt sc context ps level k x m' n u × BranchAt ps level Brun n u n' × ExprAt sc context ps level k y n' t u × FragmentGoes ps level t u × FragmentGoes ps level u to
        × SlotsHaveRoom most below (depth x + depth y)
    Holds k (element n ks v) pc slots below to =
        (next : ℕ) × (r : ElementReadAt n ks v pc next slots below) × (r.array.kind ≡ k) × SlotsHaveRoom most below 2 × FragmentGoes ps level next to
    -- the head is the first of two subscripts
    Holds k (index n ks v e tree.none) pc slots below to =
        (low : ℤ) × (second : ℤ) × (q : ℕ) × (t : ℕ) × (next : ℕ) × (r : RowIndexAt n ks v low second pc q slots below) × (r.array.kind ≡ k)
        × SecondAt sc context ps level second e q t × Has ps level t (ops.Plain kinds.Nxlv) next × SlotsHaveRoom most below (5 + depth e) × FragmentGoes ps level next to
    Holds k (subscript n ks h es) pc slots below to =
        (a : Shape) × (c : Couple) × (t : ℕ) × (next : ℕ) × IsArray sc context.level n a c × (a.kind ≡ k)
        × Seeks (λ over m. Holds types.Number h pc slots over m) n c a.lows ks es below t × Has ps level t (ops.Plain kinds.Nxlv) next × FragmentGoes ps level next to
    Holds k (argument n x) pc slots below to =
        (callee : ℕ) × (couple : Couple) × (filled : ℕ) × (next : ℕ) × ((block_numbered sc.blocks callee).result ≡ Some k)
        × IsProcedure sc context.level n callee couple × Fills (parameter_wants sc callee) x pc slots (call_begun couple below) filled
        × Has ps level filled (ops.Plain kinds.Entr) next × FragmentGoes ps level next to
    Holds k _ pc slots below to = ⊥

    -- .. for actuals, of which these are wanted: those before the head lie on the start of the call or of the PROCESS
    pub Fills : List Wanted → Actuals → ℕ → List Slot → List Slot → ℕ → Type 0
    Fills all (in_value gs h sorts es) pc slots begun filled =
        (before : List Wanted) × (kind : Kind) × (after : List Wanted) × (m : ℕ) × (all ≡ before ++ wants.value kind ∷ after) × ActualsAreGiven sc context before gs
        × Holds kind h pc slots (given_slots before gs begun) m × ActualsAt sc context ps level sorts after es m filled
        × SlotsHaveRoom most begun (length gs + 1 + line_depth es)
    -- the head is the passing of what a parameter's cell has
    Fills all (pass gs p sorts es) pc slots begun filled =
        (before : List Wanted) × (wanted : Wanted) × (after : List Wanted) × (m : ℕ) × (all ≡ before ++ wanted ∷ after) × ActualsAreGiven sc context before gs
        × PassesAt p wanted pc m slots (given_slots before gs begun) × ActualsAt sc context ps level sorts after es m filled
        × SlotsHaveRoom most begun (length gs + 1 + line_depth es)

  -- the same of an expression after the silent steps: its value lies there already, or it has a head
  abbrev pub Shows : Kind → Half → ℕ → List Slot → List Slot → ℕ → Type 0
  Shows k (val v) pc slots below to = FragmentGoes ps level pc to × (slots ≡ operand v ∷ below) × HasKind k v
  Shows k (busy h) pc slots below to = Holds k h pc slots below to

  -- the same of a left side: the word of a place of that kind is to lie on `below`, at the place `to`
  abbrev pub Aims : Kind → Aim → ℕ → List Slot → List Slot → ℕ → Type 0
  Aims k (resolve n) pc slots below to = ResolvesAt n k pc to slots below
  Aims k (place_index n ks v tree.none) pc slots below to = ElementIndexAt n ks v k pc to slots below
  Aims k (place_index n ks v (tree.more e tree.none)) pc slots below to =
      (low : ℤ) × (second : ℤ) × (q : ℕ) × (t : ℕ) × (r : RowIndexAt n ks v low second pc q slots below) × (r.array.kind ≡ k) × SecondAt sc context ps level second e q t
      × Has ps level t (ops.Plain kinds.Indx) to × SlotsHaveRoom most below (5 + depth e)
  Aims k (place_subscript n ks h es) pc slots below to =
      (a : Shape) × (c : Couple) × (t : ℕ) × IsArray sc context.level n a c × (a.kind ≡ k)
      × Seeks (λ over m. Holds types.Number h pc slots over m) n c a.lows ks es below t × Has ps level t (ops.Plain kinds.Indx) to
  Aims k _ pc slots below to = ⊥

  -- ---- statements

  -- the value of that kind lies on the word of a place that was found
  pub record FoundStoreAt (p : Place) (v : Value) (pc next : ℕ) (slots below : List Slot) : Type 0 where
    pub kind : Kind
    pub fits : HasKind kind v
    pub lies : slots ≡ operand v ∷ descriptor (held_at p kind) ∷ below
    pub stands : Has ps level pc (ops.Plain kinds.Stod) next

  -- The bounds lie on the number of arrays, with nothing below: after the entry PUSH makes cells of the descriptors. There is one at least,
  -- and no more than there may be words.
  pub record MakesAt (ns : List Named) (pairs : List PPair) (vs : List Value) (pc next : ℕ) (slots : List Slot) : Type 0 where
    pub dimensions : AreDimensions pairs
    pub many : IsWholeNumber (pos (length ns))
    pub lows : AreWholeLows pairs
    pub highs : AreNumbers vs
    pub each : length vs ≡ length pairs
    pub lies : slots ≡ extents pairs vs (arrays_begun (length ns) [])
    pub made : ℕ
    pub stands : Has ps level pc (ops.Plain kinds.Entr) made
    pub push : Has ps level made (ops.Plain kinds.Push) next
    pub some : 1 ≤ length ns
    pub room : length ns ≤ most

  -- WHILE, whose test begins at f and ends at m
  abbrev pub WhileAt : PExpr → PStmt → ℕ → ℕ → ℕ → ℕ → Type 0
  WhileAt c b f m t u =
      (m' : ℕ) × (n : ℕ) × ExprAt sc context ps level types.Truth c f m m × BranchAt ps level Brfl m u m' × StmtAt sc context ps level b m' n n × TurnAt ps level n f t

  -- FOR after its test, which begins at q: the body, the step, the turn
  abbrev pub RoundAt : Loop → ℕ → ℕ → ℕ → Type 0
  RoundAt loop q n t =
      (w : ℕ) × (x : ℕ) × StmtAt sc context ps level loop.body n w w × StmtAt sc context ps level (stepped loop) w x x × TurnAt ps level x q t

  -- Here the machine stands for what a part has still to do, up to its head. What comes after the head stands where the code leads.
  abbrev pub StandsFor : Rest → ℕ → List Slot → Type 0
  StandsFor over pc slots =
      (next : ℕ) × (context.yields ≡ yielding.nothing) × Has ps level pc (ops.Plain kinds.Exit) next × (slots ≡ [])
  StandsFor (store (own n) v k) pc slots = (next : ℕ) × StoreAt n v pc next slots (pend k) × SlotsFollow k next
  StandsFor (select v ss k) pc slots =
      (table : ℕ) × (u : ℕ) × SelectAt v ss pc table slots (pend k) × CasesAt sc context ps level ss table u × SlotsFollow k u × SlotsHaveRoom most (pend k) (stmts_depth ss)
  StandsFor (turning k) pc slots = (l : ℕ) × (next : ℕ) × TurnAt ps level pc l next × (slots ≡ pend k) × SlotsFollow k l
  -- all that lies below is dropped
  StandsFor (going n) pc slots = (next : ℕ) × (below : List Slot) × GoesToAt n pc next slots below
  StandsFor (acting act n k) pc slots = (next : ℕ) × ActsOnAt (deeds.acts act) (n ∷ []) pc next slots (pend k) × SlotsFollow k next
  StandsFor (line phrases vs k) pc slots = (next : ℕ) × WriteStandsAt phrases vs pc next slots (pend k) × SlotsFollow k next
  StandsFor (entering_block (tree.body spot ds ss) k) pc slots = (next : ℕ) × EntersAt spot ds ss pc next slots (pend k) × SlotsFollow k next
  StandsFor (entering n gs k) pc slots =
      (callee : ℕ) × (next : ℕ) × (u : ℕ) × CallsAt n gs callee pc next slots (pend k) × DroppedAt sc context ps level (block_numbered sc.blocks callee).result next u × SlotsFollow k u
      × SlotsHaveRoom most (pend k) 2
  StandsFor (calling n x k) pc slots =
      (callee : ℕ) × (couple : Couple) × (filled : ℕ) × (next : ℕ) × (u : ℕ) × IsProcedure sc context.level n callee couple
      × Fills (parameter_wants sc callee) x pc slots (call_begun couple (pend k)) filled × Has ps level filled (ops.Plain kinds.Entr) next
      × DroppedAt sc context ps level (block_numbered sc.blocks callee).result next u × SlotsFollow k u × SlotsHaveRoom most (pend k) 2
  StandsFor (starting n gs task k) pc slots = (callee : ℕ) × (next : ℕ) × StartsAt n gs task callee pc next slots (pend k) × SlotsFollow k next
  StandsFor (preparing n x task k) pc slots =
      (callee : ℕ) × (couple : Couple) × (tasked : Slot) × (filled : ℕ) × (next : ℕ) × IsProcedure sc context.level n callee couple
      × ((block_numbered sc.blocks callee).result ≡ None) × IsTask sc context task tasked
      × Fills (parameter_wants sc callee) x pc slots (start_begun couple tasked (pend k)) filled × Has ps level filled (ops.Plain kinds.Entr) next × SlotsFollow k next
  StandsFor (store (there r) v k) pc slots = (next : ℕ) × FoundStoreAt (there r) v pc next slots (pend k) × SlotsFollow k next
  StandsFor (store (element_of r ks) v k) pc slots = (next : ℕ) × FoundStoreAt (element_of r ks) v pc next slots (pend k) × SlotsFollow k next
  StandsFor (storing (there r) h k) pc slots =
      (kind : Kind) × (m : ℕ) × (next : ℕ) × Holds kind h pc slots (descriptor (held_at (there r) kind) ∷ pend k) m × Has ps level m (ops.Plain kinds.Stod) next
      × SlotsFollow k next
  StandsFor (storing (element_of r ks) h k) pc slots =
      (kind : Kind) × (m : ℕ) × (next : ℕ) × Holds kind h pc slots (descriptor (held_at (element_of r ks) kind) ∷ pend k) m × Has ps level m (ops.Plain kinds.Stod) next
      × SlotsFollow k next
  StandsFor (aiming x e k) pc slots =
      (kind : Kind) × (m : ℕ) × (r : ℕ) × (next : ℕ) × Aims kind x pc slots (pend k) m × ExprAt sc context ps level kind e m r r × Has ps level r (ops.Plain kinds.Stod) next
      × SlotsFollow k next × SlotsHaveRoom most (pend k) (1 + depth e)
  StandsFor (arrays kind ns pairs vs k) pc slots = (next : ℕ) × MakesAt ns pairs vs pc next slots × HasNoCounts k × SlotsFollow k next
  StandsFor (event n k) pc slots = (next : ℕ) × MakesEventAt pc next slots × HasNoCounts k × SlotsFollow k next
  -- vs are the values of the upper bounds before the head, and those before it are these
  StandsFor (bounding kind ns pairs vs h later k) pc slots =
      (before : List PPair) × (p : PPair) × (m : ℕ) × (b : ℕ) × (made : ℕ) × (next : ℕ) × (pairs ≡ before ++ p ∷ later) × (length vs ≡ length before)
      × AreDimensions pairs × IsWholeNumber (pos (length ns)) × AreWholeLows pairs × AreNumbers vs
      × Holds types.Number h pc slots (operand (number p.low) ∷ extents before vs (arrays_begun (length ns) [])) m × BoundsAt sc context ps level later m b
      × Has ps level b (ops.Plain kinds.Entr) made × Has ps level made (ops.Plain kinds.Push) next × HasNoCounts k × SlotsFollow k next
      × SlotsHaveRoom most [] (3 + 2 * length vs + 2 + bounds_depth later + length ns) × (1 ≤ length ns)
  -- the result of the procedure is read, and given back
  StandsFor (reading name) pc slots = ResultAt sc context ps level name pc × (slots ≡ []) × (1 ≤ most)
  StandsFor (giving v) pc slots =
      (kind : Kind) × (over : ℕ) × (context.yields ≡ yielding.value kind) × HasKind kind v × Has ps level pc (ops.Plain kinds.Retn) over
      × (slots ≡ operand v ∷ [])
  -- the value of an actual is given, or its place
  StandsFor (evaluating h) pc slots =
      (kind : Kind) × (m : ℕ) × (over : ℕ) × (context.yields ≡ yielding.value kind) × Holds kind h pc slots [] m × Has ps level m (ops.Plain kinds.Retn) over
  StandsFor (locating x) pc slots =
      (kind : Kind) × (m : ℕ) × (over : ℕ) × (context.yields ≡ yielding.element kind) × Aims kind x pc slots [] m × Has ps level m (ops.Plain kinds.Retn) over
  StandsFor (giving_place p) pc slots =
      (kind : Kind) × (over : ℕ) × (context.yields ≡ yielding.element kind) × PlaceIsFound p × Has ps level pc (ops.Plain kinds.Retn) over
      × (slots ≡ descriptor (held_at p kind) ∷ [])
  StandsFor (storing (own n) h k) pc slots =
      (kind : Kind) × (c : Couple) × (m : ℕ) × (next : ℕ) × IsVariable sc context.level n kind c × Holds kind h pc slots (reference c ∷ pend k) m
      × Has ps level m (ops.Plain kinds.Stod) next × SlotsFollow k next
  StandsFor (choosing h x y k) pc slots =
      (m : ℕ) × (m' : ℕ) × (n : ℕ) × (f : ℕ) × (t : ℕ) × (u : ℕ) × Holds types.Truth h pc slots (pend k) m × BranchAt ps level Brfl m f m'
      × StmtAt sc context ps level x m' n u × FragmentGoes ps level n u × StmtAt sc context ps level y f t u × FragmentGoes ps level t u × SlotsFollow k u
      × SlotsHaveRoom most (pend k) (stmt_depth x + stmt_depth y)
  StandsFor (looping h c b k) pc slots =
      (f : ℕ) × (m : ℕ) × (t : ℕ) × (u : ℕ) × Holds types.Truth h pc slots (pend k) m × WhileAt c b f m t u × FragmentGoes ps level t u × SlotsFollow k u
      × SlotsHaveRoom most (pend k) (depth c + stmt_depth b)
  StandsFor (checking h b c k) pc slots =
      (f : ℕ) × (q : ℕ) × (m : ℕ) × (m' : ℕ) × (t : ℕ) × (u : ℕ) × Holds types.Truth h pc slots (pend k) m × StmtAt sc context ps level b f q q
      × ExprAt sc context ps level types.Truth c q m m × BranchAt ps level Brtr m u m' × TurnAt ps level m' f t × FragmentGoes ps level t u × SlotsFollow k u
      × SlotsHaveRoom most (pend k) (stmt_depth b + depth c)
  StandsFor (counting h b k) pc slots =
      (q : ℕ) × (t : ℕ) × (u : ℕ) × Holds types.Number h pc slots (pend k) q × ThruAt sc context ps level b q t × FragmentGoes ps level t u × SlotsFollow k u
      × SlotsHaveRoom most (pend k) (3 + stmt_depth b)
  StandsFor (differing h loop k) pc slots =
      (q : ℕ) × (m : ℕ) × (n : ℕ) × (t : ℕ) × (u : ℕ) × Holds types.Number h pc slots (pend k) m
      × ExprAt sc context ps level types.Number (difference_in loop) q m m × StepAt sc context ps level loop.step m u n × RoundAt loop q n t × SlotsFollow k u
      × SlotsHaveRoom most (pend k) (loop_depth loop.step loop.last + stmt_depth loop.body)
  -- the difference lies below; a step that is a literal has no head
  StandsFor (stepping d h loop k) pc slots =
      (q : ℕ) × (m : ℕ) × (m' : ℕ) × (n : ℕ) × (t : ℕ) × (u : ℕ) × HasKind types.Number d × Holds types.Number h pc slots (operand d ∷ pend k) m'
      × ExprAt sc context ps level types.Number (difference_in loop) q m m × ExprAt sc context ps level types.Number loop.step m m' m'
      × PastAt sc context ps level m' u n × RoundAt loop q n t × SlotsFollow k u
      × SlotsHaveRoom most (pend k) (loop_depth loop.step loop.last + stmt_depth loop.body)
  StandsFor (selecting h ss k) pc slots =
      (m : ℕ) × (table : ℕ) × (u : ℕ) × Holds types.Number h pc slots (intrinsic Select ∷ mark ∷ pend k) m
      × TableAt sc context ps level (stmts_count ss) m table × CasesAt sc context ps level ss table u × SlotsFollow k u
      × SlotsHaveRoom most (pend k) (5 + stmts_depth ss)
  -- vs are the items before the head, es those after it
  StandsFor (writing phrases vs h es k) pc slots =
      (format : ℕ) × (m : ℕ) × (n : ℕ) × (next : ℕ) × FormatIs sc context ps level format phrases (length vs + 1 + exprs_count es) × IsWholeNumber (pos format)
      × AreNumbers vs × Holds types.Number h pc slots (operands vs (line_begun format (pend k))) m × LineAt sc context ps level es m n
      × Has ps level n (ops.Plain kinds.Entr) next × SlotsFollow k next × SlotsHaveRoom most (pend k) (3 + length vs + 1 + line_depth es)
  StandsFor _ pc slots = ⊥

  -- from this place private operators lead to where the machine stands for this rest, whose head asks for an action
  pub record ComesTo (r : Rest) (pc : ℕ) (slots : List Slot) : Type 0 where
    pub at : ℕ
    pub with_slots : List Slot
    pub leads : StepsLead sc context ps level most pc slots at with_slots
    pub stands : StandsFor r at with_slots
    pub asks : ask r ≡ nothing → ⊥

  -- ---- the action of the head

  -- the operator that does what the head asks for stands there, with what it takes
  abbrev pub ActionAt : Ask → ℕ → List Slot → Type 0
  ActionAt (reads n) pc slots = (kind : Kind) × (next : ℕ) × ReadAt sc context ps level n kind pc next × SlotsHaveRoom most slots 1
  ActionAt (reads_element n ks v) pc slots = (next : ℕ) × (below : List Slot) × ElementReadAt n ks v pc next slots below
  ActionAt (indexes n ks v) pc slots = IndexesAt n ks v pc slots
  ActionAt (resolves n) pc slots = (kind : Kind) × (next : ℕ) × (below : List Slot) × ResolvesAt n kind pc next slots below
  ActionAt (stores (there r) v) pc slots = (next : ℕ) × (below : List Slot) × FoundStoreAt (there r) v pc next slots below
  ActionAt (stores (element_of r ks) v) pc slots = (next : ℕ) × (below : List Slot) × FoundStoreAt (element_of r ks) v pc next slots below
  ActionAt (makes_arrays kind ns pairs vs) pc slots = (next : ℕ) × MakesAt ns pairs vs pc next slots
  ActionAt (makes_event n) pc slots = (next : ℕ) × MakesEventAt pc next slots
  ActionAt (event_deed x ns) pc slots = (next : ℕ) × (below : List Slot) × ActsOnAt x ns pc next slots below
  ActionAt (goes_to n) pc slots = (next : ℕ) × (below : List Slot) × GoesToAt n pc next slots below
  ActionAt (passes n) pc slots = (wanted : Wanted) × (next : ℕ) × (below : List Slot) × PassesAt n wanted pc next slots below
  ActionAt (fails fault) pc slots =
      (op : Op) × (v : Value) × (w : Value) × (next : ℕ) × (below : List Slot) × BreaksAt op v w fault pc next slots below
  ActionAt (leaves done) pc slots =
      (next : ℕ) × (context.yields ≡ yielding.nothing) × Has ps level pc (ops.Plain kinds.Exit) next × (slots ≡ [])
  ActionAt (leaves (value v)) pc slots =
      (kind : Kind) × (over : ℕ) × (context.yields ≡ yielding.value kind) × HasKind kind v × Has ps level pc (ops.Plain kinds.Retn) over
      × (slots ≡ operand v ∷ [])
  ActionAt (leaves (place p)) pc slots =
      (kind : Kind) × (over : ℕ) × (context.yields ≡ yielding.element kind) × PlaceIsFound p × Has ps level pc (ops.Plain kinds.Retn) over
      × (slots ≡ descriptor (held_at p kind) ∷ [])
  ActionAt (reads_result name) pc slots = ResultAt sc context ps level name pc × (slots ≡ []) × (1 ≤ most)
  ActionAt (enters n gs) pc slots = (callee : ℕ) × (next : ℕ) × (below : List Slot) × CallsAt n gs callee pc next slots below
  ActionAt (starts n gs task) pc slots = (callee : ℕ) × (next : ℕ) × (below : List Slot) × StartsAt n gs task callee pc next slots below
  ActionAt (stores (own n) v) pc slots = (next : ℕ) × (below : List Slot) × StoreAt n v pc next slots below
  -- for each number of a statement a branch stands in the table
  ActionAt (selects v ss) pc slots =
      (table : ℕ) × (below : List Slot) × SelectAt v ss pc table slots below
      × ((i : ℕ) → i < stmts_count ss → (target : ℕ) × (next : ℕ) × BranchAt ps level Brun (table + 3 * i) target next)
  ActionAt turns pc slots = (l : ℕ) × (next : ℕ) × TurnAt ps level pc l next
  ActionAt (writes phrases vs) pc slots = (next : ℕ) × (below : List Slot) × WriteStandsAt phrases vs pc next slots below
  ActionAt (enters_block (tree.body spot ds ss)) pc slots = (next : ℕ) × (below : List Slot) × EntersAt spot ds ss pc next slots below
  ActionAt _ pc slots = ⊥

  -- where an action with this answer leaves the machine, and what then lies there; after a fault and an end nothing goes on, nor does it after
  -- GO TO, since the label's statement follows from what its block is
  abbrev pub Acted : (q : Ask) (pc : ℕ) (slots : List Slot) → ActionAt q pc slots → Answer → ℕ → List Slot → Type 0
  Acted (reads n) pc slots a (value v) at after = (at ≡ a.1) × (after ≡ operand v ∷ slots) × HasKind a.0 v
  Acted (reads_result name) pc slots a (value v) at after = (at ≡ a.0.valued) × (after ≡ operand v ∷ slots) × HasKind a.0.kind v
  Acted (stores (own n) v) pc slots a done at after = (at ≡ a.0) × (after ≡ a.1)
  Acted (selects v ss) pc slots a done at after =
      (i : ℕ) × (v ≡ number (pos i)) × (i < stmts_count ss) × (at ≡ a.0 + 3 * i) × (after ≡ a.1)
  Acted (reads_element n ks v) pc slots a (value w) at after = (at ≡ a.0) × (after ≡ operand w ∷ a.1) × HasKind a.2.array.kind w
  Acted (indexes n ks v) pc slots (of_row low second next below a) (place (element_of r more)) at after =
      (at ≡ next) × (after ≡ descriptor (row n more) ∷ below) × IsNext ks more
  Acted (indexes n ks v) pc slots (of_element kind next below a) (place (element_of r more)) at after =
      (at ≡ next) × (after ≡ descriptor (element_held r more kind) ∷ below) × IsNext ks more
  Acted (resolves n) pc slots a (place (there r)) at after = (at ≡ a.1) × (after ≡ descriptor (variable_held r a.0) ∷ a.2)
  Acted (stores (there r) v) pc slots a done at after = (at ≡ a.0) × (after ≡ a.1)
  Acted (stores (element_of r ks) v) pc slots a done at after = (at ≡ a.0) × (after ≡ a.1)
  Acted (makes_arrays kind ns pairs vs) pc slots a done at after = (at ≡ a.0) × (after ≡ [])
  Acted (makes_event n) pc slots a done at after = (at ≡ a.0) × (after ≡ [])
  -- a test leaves what it tells; a process that waits for several events stands where it stood, until that tells it which of them it was
  Acted (event_deed (deeds.tests x) ns) pc slots a (value v) at after = (at ≡ a.0) × (after ≡ operand v ∷ a.1) × HasKind (told_by x) v
  Acted (event_deed (deeds.acts act) ns) pc slots a done at after = (at ≡ a.0) × (after ≡ a.1)
  Acted (starts n gs task) pc slots a done at after = (at ≡ a.1) × (after ≡ a.2)
  Acted (passes n) pc slots a (cell c) at after = (at ≡ a.1) × (after ≡ descriptor (passed_held a.0 c) ∷ a.2) × IsPassed a.0 c
  Acted turns pc slots a done at after = (at ≡ a.0) × (after ≡ slots)
  Acted (writes phrases vs) pc slots a done at after = (at ≡ a.0) × (after ≡ a.1)
  Acted _ pc slots a _ at after = ⊥

  -- where the machine goes on after the entry of a part inside, what lies there, and what is wanted of it
  abbrev pub Entered : (q : Ask) (pc : ℕ) (slots : List Slot) → ActionAt q pc slots → ℕ → List Slot → Yields → Type 0
  Entered (enters_block (tree.body spot ds ss)) pc slots a at after wanted = (at ≡ a.0) × (after ≡ a.1) × (wanted ≡ yielding.nothing)
  Entered (reads n) pc slots a at after wanted = (at ≡ a.1) × (after ≡ slots) × (wanted ≡ yielding.value a.0)
  Entered (resolves n) pc slots a at after wanted = (at ≡ a.1) × (after ≡ a.2) × (wanted ≡ yielding.element a.0)
  Entered (enters n gs) pc slots a at after wanted = (at ≡ a.1) × (after ≡ a.2) × (wanted ≡ yields_of (block_numbered sc.blocks a.0).result)
  Entered _ pc slots a at after wanted = ⊥

  -- The head's action stands at this place. Whatever it answers, the machine then comes to where it stands for what is left. Where a part
  -- inside was entered, it does so after the entry once that has left with what is wanted of it.
  pub record CodeGoesOn (r : Rest) (pc : ℕ) (slots : List Slot) : Type 0 where
    pub action : ActionAt (ask r) pc slots
    pub answered : (a : Answer) (at : ℕ) (after : List Slot) → Acted (ask r) pc slots action a at after → ComesTo (resume sc r a) at after
    pub waits : (at : ℕ) (after : List Slot) (wanted : Yields) → Entered (ask r) pc slots action at after wanted → ask (resume sc r entered) ≡ nothing
    pub returns : (at : ℕ) (after : List Slot) (wanted : Yields) → Entered (ask r) pc slots action at after wanted → (a : Answer) → Gives wanted a →
        ComesTo (resume sc (resume sc r entered) a) at (pushed wanted a after)
