-- Which trees have code: each part has the kind that its place wants, each name is a variable, an event or a procedure whose couple is known, or
-- a label of which is known where it leads, and of a format no word is wider than a line, and each text can stand between quotes.
use Rattle.std.specs.Prelude.{◌≡◌, ◌⊎◌, ℕ, ◌+◌, ◌≤◌, ℤ, not, Bool, true, false, IsTrue, Option, Some, None, is_some, List, [], ◌∷◌, length, map}
use Rattle.std.specs.List.{All}
use Rattle.algol_tree.specs.declared.token.Spot.{Spot}
use Rattle.algol_tree.specs.declared.tree.Kind.{Kind}
use Rattle.algol_tree.specs.declared.tree.Kind.TheVariants as types
use Rattle.std.specs.List.{AllByRecursion}
use Rattle.algol_tree.specs.declared.tree.Named.{Named}
use Rattle.algol_tree.specs.declared.tree.PhraseText.{PhraseText}
use Rattle.algol_tree.specs.declared.tree.PhraseText.TheVariants as phrase
use Rattle.algol_tree.specs.declared.TheConstants.{MOST_BLOCK_CELLS, MOST_LINE_WIDTH}
use Rattle.algol_tree.specs.Lexes.{is_printable, is_quote}
use Rattle.algol_tree.specs.Spelling.{value_of}
use Rattle.algol_tree.specs.Plain as tree
use Rattle.algol_tree.specs.Plain.{PExpr, PExprs, PPair, PStmt, PStmts, PDecls}
use Rattle.algol_tree.specs.Types.{given_by, taken_by, told_by}
use Rattle.algol_tree.specs.Sorts.{Sort, is_variable, is_formal}
use Rattle.algol_tree.specs.Blocks.{block_numbered, number_at}
use Rattle.algol_tree.specs.Cells.{first_spot}
use Rattle.algol_tree.specs.Scopes.{Scopes, use_of}
use Rattle.algol_meaning.specs.Settle.{sorts_of}
use Rattle.algol_meaning.specs.Statements.{alone}
use Rattle.b67_ops.specs.declared.Couple.{Couple}
use Rattle.b67_ops.specs.declared.TheConstants.{MOST_LEVEL, OUTER_LEVEL}
use Rattle.b67_segment.specs.declared.code.Phrase.{Phrase}
use Rattle.b67_templates.specs.Fragments.{IsWholeNumber}
use Rattle.algol_paths.specs.Arrays.{Shape, Lows}
use Rattle.b67_templates.specs.Cells as wants
use Rattle.b67_templates.specs.Cells.{Wanted, parameter_wants, ShapeAgrees, variables, procedures, actuals_in_block, made_of, IsVariable, IsFormalName, IsRead, IsProcedure, IsArray, IsDeclaredEvent, IsFormalEvent, IsOwnActual}
use Rattle.b67_templates.specs.Labels.{IsLabel}
use Rattle.b67_deeds.specs.Deeds as deeds
use Rattle.b67_templates.specs.Events.{names_of, AreSoMany}
use Rattle.b67_templates.specs.Code.{AreParts, AreDimensions, numbers_in, exprs_count}

-- each byte of the text is printable and no quote
abbrev pub IsPlainText : List ℕ → Type 0
IsPlainText bytes = All (λ (b : ℕ). IsTrue (is_printable b) × IsTrue (not (is_quote b))) bytes

-- a word's number is of columns, no more than a line has
abbrev pub IsNarrowWord : List ℕ → Type 0
IsNarrowWord [] = Unit {0}
IsNarrowWord (letter ∷ digits) = value_of digits ≤ MOST_LINE_WIDTH

abbrev pub PhraseFits : PhraseText → Type 0
PhraseFits (phrase.Text bytes) = IsPlainText bytes
PhraseFits (phrase.Word word) = IsNarrowWord word

abbrev pub PhrasesFit : List PhraseText → Type 0
PhrasesFit [] = Unit {0}
PhrasesFit (p ∷ ps) = PhraseFits p × PhrasesFit ps

-- the couple of a name on the left: that of the result, where the name means a typed procedure, and its own otherwise
abbrev pub couple_on_left : Option Couple → Option Couple → Option Couple
couple_on_left None own = own
couple_on_left (Some c) own = Some c

-- what a name is: a variable, a parameter by name, a procedure, some of whose parameters are by name, an event, which may be a parameter's, or
-- something else
pub data Meant : Type 0 where
  a_variable : Meant
  a_name : Meant
  a_procedure : List Bool → Meant
  an_event : Bool → Meant
  another : Meant

abbrev pub meant_is_event : Meant → Bool
meant_is_event (an_event formal) = true
meant_is_event _ = false

abbrev pub meant_is_name : Meant → Bool
meant_is_name a_name = true
meant_is_name _ = false

-- this is wanted by name
abbrev pub wanted_by_name : Wanted → Bool
wanted_by_name (wants.by_name kind) = true
wanted_by_name _ = false

-- where GO TO leads: the level of a label's block, the segment of its text, and the place of the label's branch in the table there
pub record Target : Type 0 where
  pub level : ℕ
  pub segment : ℕ
  pub entry : ℕ

-- What is told of the names of a program, by their places in the text: their couples, those of the results of the typed procedures that they
-- mean, the lower bounds of the arrays and whether they are parameters, what they are, and where the labels lead; and the couples of the
-- actuals that have cells, by the places where they begin.
pub record Told : Type 0 where
  pub couples : Spot → Option Couple
  pub results : Spot → Option Couple
  pub lows : Spot → Option Lows
  pub meant : Spot → Meant
  pub labels : Spot → Option Target
  pub actuals : Spot → Option Couple

-- the couple on the left of the name that stands there
abbrev pub on_left : Told → Spot → Option Couple
on_left told spot = couple_on_left (told.results spot) (told.couples spot)

module _ (sc : Scopes) (told : Told) (level : ℕ) where
  -- a variable or a parameter by name that is read
  abbrev pub ReadFits : Kind → Named → Type 0
  ReadFits k n = ((c : Couple) × (told.couples n.spot ≡ Some c) × IsRead sc level n k c) × (told.results n.spot ≡ None)

  -- a variable or a result that is assigned
  abbrev pub LeftFits : Kind → Named → Type 0
  LeftFits k n = (c : Couple) × (on_left told n.spot ≡ Some c) × IsVariable sc level n k c

  -- .. or a parameter by name
  pub data PlaceFits (k : Kind) (n : Named) : Type 0 where
    own : LeftFits k n → meant_is_name (told.meant n.spot) ≡ false → PlaceFits k n
    resolved : (c : Couple) → on_left told n.spot ≡ Some c → meant_is_name (told.meant n.spot) ≡ true → IsFormalName sc level n k c → PlaceFits k n

  -- The name of a procedure, and the couple of its control word; it is known whether the procedure is typed, and which of its parameters are
  -- by name.
  pub record ProcedureFits (n : Named) (callee : ℕ) : Type 0 where
    pub couple : Couple
    pub known_is : told.couples n.spot ≡ Some couple
    pub procedure : IsProcedure sc level n callee couple
    pub typed : is_some (told.results n.spot) ≡ is_some ((block_numbered sc.blocks callee).result)
    pub modes : told.meant n.spot ≡ a_procedure (map wanted_by_name (parameter_wants sc callee))

  -- .. of a typed one
  abbrev pub CallFits : Kind → Named → Type 0
  CallFits k n =
      (callee : ℕ) × ProcedureFits n callee × (parameter_wants sc callee ≡ []) × ((block_numbered sc.blocks callee).result ≡ Some k)

  -- the name of an array, and the couple of its cell; its lower bounds are known, and whether it is a parameter
  pub record ArrayFits (n : Named) (shape : Shape) : Type 0 where
    pub couple : Couple
    pub known_is : told.couples n.spot ≡ Some couple
    pub array : IsArray sc level n shape couple
    pub lows_are : told.lows n.spot ≡ Some (record { list = shape.lows; formal = is_formal ((use_of sc n).sort) })

  -- the name of an event, and the couple of its cell; it is known whether it is a parameter
  pub data EventFits (n : Named) : Type 0 where
    its_own : (c : Couple) → told.couples n.spot ≡ Some c → told.meant n.spot ≡ an_event false → IsDeclaredEvent sc level n c → EventFits n
    its_actual : (c : Couple) → told.couples n.spot ≡ Some c → told.meant n.spot ≡ an_event true → IsFormalEvent sc level n c → EventFits n

  -- the name of a label, and where it leads
  abbrev pub LabelFits : Named → Type 0
  LabelFits n = (t : Target) × (told.labels n.spot ≡ Some t) × IsLabel sc level n t.level t.segment t.entry

  -- the task of a process, where it has one: the name of an event that a block declares, and the couple of its cell
  abbrev pub TaskFits : Option Named → Type 0
  TaskFits None = Unit {0}
  TaskFits (Some n) = (c : Couple) × (told.couples n.spot ≡ Some c) × (told.meant n.spot ≡ an_event false) × IsDeclaredEvent sc level n c

  -- in the text of the block with this number
  module _ (block : ℕ) where
    -- what is given for a parameter by name: a variable, another such parameter, or an actual that has a cell
    pub data NameActualFits (k : Kind) (e : PExpr) : Type 0 where
      refers_to :
          (n : Named) (c : Couple) → e ≡ alone n → told.meant n.spot ≡ a_variable → told.couples n.spot ≡ Some c → IsVariable sc level n k c → OUTER_LEVEL ≤ c.level →
          NameActualFits k e
      passes_on : (n : Named) (c : Couple) → e ≡ alone n → told.meant n.spot ≡ a_name → told.couples n.spot ≡ Some c → IsFormalName sc level n k c → NameActualFits k e
      names : (c : Couple) → told.actuals (first_spot e) ≡ Some c → IsOwnActual sc block level e k c → NameActualFits k e

    abbrev mutual
      pub ExprFits : Kind → PExpr → Type 0
      ExprFits k (tree.number z spot) = (k ≡ types.Number) × IsWholeNumber z
      ExprFits k (tree.truth b spot) = k ≡ types.Truth
      ExprFits k (tree.variable (tree.subscripted n tree.none)) = (ReadFits k n ⊎ CallFits k n) × (told.lows n.spot ≡ None) × (meant_is_event (told.meant n.spot) ≡ false)
      ExprFits k (tree.variable (tree.subscripted n (tree.more e es))) =
          (a : Shape) × ArrayFits n a × (a.kind ≡ k) × SubscriptsFit a.lows (tree.more e es)
      ExprFits k (tree.paren e spot) = ExprFits k e
      ExprFits k (tree.plus e spot) = (k ≡ types.Number) × ExprFits types.Number e
      ExprFits k (tree.neg e spot) = (k ≡ types.Number) × ExprFits types.Number e
      ExprFits k (tree.not e spot) = (k ≡ types.Truth) × ExprFits types.Truth e
      ExprFits k (tree.two op a b) = (k ≡ given_by op) × ExprFits (taken_by op) a × ExprFits (taken_by op) b
      ExprFits k (tree.if c x y spot) = ExprFits types.Truth c × ExprFits k x × ExprFits k y
      ExprFits k (tree.call (tree.called n es)) =
          (callee : ℕ) × ProcedureFits n callee × ActualsFit (sorts_of ((block_numbered sc.blocks callee).parameters)) (parameter_wants sc callee) es × ((block_numbered sc.blocks callee).result ≡ Some k)
      ExprFits k (tree.tested x es spot) = (k ≡ told_by x) × AreSoMany (deeds.tests x) (names_of es) × AllByRecursion EventFits (names_of es)

      -- a subscript for each of these lower bounds
      pub SubscriptsFit : List ℤ → PExprs → Type 0
      SubscriptsFit (low ∷ []) (tree.more e tree.none) = IsWholeNumber low × ExprFits types.Number e
      SubscriptsFit (low ∷ low' ∷ []) (tree.more e (tree.more e' tree.none)) =
          IsWholeNumber low × ExprFits types.Number e × IsWholeNumber low' × ExprFits types.Number e'
      SubscriptsFit _ _ = ⊥

      -- actuals for parameters of these sorts, of which this is wanted: values, names of arrays and of events, and what is given by name, which
      -- has a value too
      pub ActualsFit : List Sort → List Wanted → PExprs → Type 0
      ActualsFit [] [] tree.none = Unit {0}
      ActualsFit (sort ∷ sorts) (wants.value kind ∷ wanted) (tree.more e es) = (is_variable sort ≡ true) × ExprFits kind e × ActualsFit sorts wanted es
      ActualsFit (sort ∷ sorts) (wants.array shape ∷ wanted) (tree.more (tree.variable (tree.subscripted n tree.none)) es) =
          (is_variable sort ≡ false) × ((a : Shape) × ArrayFits n a × ShapeAgrees shape a) × ActualsFit sorts wanted es
      ActualsFit (sort ∷ sorts) (wants.by_name kind ∷ wanted) (tree.more e es) =
          (is_variable sort ≡ false) × NameActualFits kind e × ExprFits kind e × ActualsFit sorts wanted es
      ActualsFit (sort ∷ sorts) (wants.event ∷ wanted) (tree.more (tree.variable (tree.subscripted n tree.none)) es) =
          (is_variable sort ≡ false) × EventFits n × ActualsFit sorts wanted es
      ActualsFit _ _ _ = ⊥

    -- the call that a statement makes
    abbrev pub CallStmtFits : Named → PExprs → Type 0
    CallStmtFits n es = (callee : ℕ) × ProcedureFits n callee × ActualsFit (sorts_of ((block_numbered sc.blocks callee).parameters)) (parameter_wants sc callee) es

    -- the start of a process, whose procedure has no result
    abbrev pub StartFits : Named → PExprs → Option Named → Type 0
    StartFits n es task =
        (callee : ℕ) × ProcedureFits n callee × ActualsFit (sorts_of ((block_numbered sc.blocks callee).parameters)) (parameter_wants sc callee) es
        × ((block_numbered sc.blocks callee).result ≡ None) × TaskFits task

    abbrev pub AssignFits : Named → PExpr → Type 0
    AssignFits n e = (k : Kind) × PlaceFits k n × ExprFits k e

    abbrev pub ElementAssignFits : Named → PExprs → PExpr → Type 0
    ElementAssignFits n es e = (a : Shape) × ArrayFits n a × SubscriptsFit a.lows es × ExprFits a.kind e

    abbrev pub BoundsFit : List PPair → Type 0
    BoundsFit [] = Unit {0}
    BoundsFit (p ∷ pairs) = IsWholeNumber p.low × ExprFits types.Number p.high × BoundsFit pairs

    -- the arrays of declarations, each of which has a name; events and tasks need nothing
    abbrev pub DeclsFit : PDecls → Type 0
    DeclsFit tree.no_decls = Unit {0}
    DeclsFit (tree.decls (tree.arrays kind ns pairs) ds) = AreDimensions pairs × BoundsFit pairs × DeclsFit ds × (1 ≤ length ns)
    DeclsFit (tree.decls d ds) = DeclsFit ds

    abbrev pub LineFits : PExprs → Type 0
    LineFits tree.none = Unit {0}
    LineFits (tree.more e es) = ExprFits types.Number e × LineFits es

    -- the phrases fit, and there are as many items as they have numbers
    abbrev pub WriteFits : List PhraseText → PExprs → Type 0
    WriteFits phrases es = PhrasesFit phrases × ((parts : List Phrase) → AreParts phrases parts → numbers_in parts ≡ exprs_count es) × LineFits es

-- An inner block has a level that the machine has, and no more variables, procedures, actuals that have cells, arrays, events and tasks than a
-- block may have cells.
abbrev pub BlockFits : Scopes → ℕ → PDecls → PStmts → Type 0
BlockFits sc level ds ss =
    (level + 1 ≤ MOST_LEVEL) × (length (variables ds) + length (procedures ds) + length (actuals_in_block sc ds ss) + length (made_of ds) ≤ MOST_BLOCK_CELLS)

module _ (sc : Scopes) (told : Told) where
  abbrev mutual
    -- a statement in the text of the block with this number, of this level
    pub StmtFits : ℕ → ℕ → PStmt → Type 0
    StmtFits level block tree.empty = Unit {0}
    StmtFits level block (tree.assign (tree.subscripted n tree.none) e) = AssignFits sc told level block n e
    StmtFits level block (tree.assign (tree.subscripted n (tree.more i is)) e) = ElementAssignFits sc told level block n (tree.more i is) e
    StmtFits level block (tree.call_of (tree.called n es)) = CallStmtFits sc told level block n es
    StmtFits level block (tree.block (tree.body spot tree.no_decls ss)) = StmtsFit level block ss
    StmtFits level block (tree.block (tree.body spot (tree.decls d ds) ss)) =
        BlockFits sc level (tree.decls d ds) ss × DeclsFit sc told (level + 1) (number_at sc.blocks spot) (tree.decls d ds) × StmtsFit (level + 1) (number_at sc.blocks spot) ss
    StmtFits level block (tree.if_then c x) = ExprFits sc told level block types.Truth c × StmtFits level block x
    StmtFits level block (tree.if_else c x y) = ExprFits sc told level block types.Truth c × StmtFits level block x × StmtFits level block y
    StmtFits level block (tree.while c b) = ExprFits sc told level block types.Truth c × StmtFits level block b
    StmtFits level block (tree.until b c) = StmtFits level block b × ExprFits sc told level block types.Truth c
    -- the control variable is read, and it is assigned
    StmtFits level block (tree.for v a s l b) =
        ReadFits sc told level types.Number v × PlaceFits sc told level types.Number v × ExprFits sc told level block types.Number a × ExprFits sc told level block types.Number s
        × ExprFits sc told level block types.Number l × StmtFits level block b
    StmtFits level block (tree.thru e b) = ExprFits sc told level block types.Number e × StmtFits level block b
    StmtFits level block (tree.case e ss) = ExprFits sc told level block types.Number e × StmtsFit level block ss
    StmtFits level block (tree.write n spot phrases es) = WriteFits sc told level block phrases es
    StmtFits level block (tree.label n s) = LabelFits sc told level n × StmtFits level block s
    StmtFits level block (tree.go_to n) = LabelFits sc told level n
    StmtFits level block (tree.event act e) = EventFits sc told level e.name
    StmtFits level block (tree.process (tree.called n es) task) = StartFits sc told level block n es task

    pub StmtsFit : ℕ → ℕ → PStmts → Type 0
    StmtsFit level block tree.no_stmts = Unit {0}
    StmtsFit level block (tree.stmts s ss) = StmtFits level block s × StmtsFit level block ss
