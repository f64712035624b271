-- Where the code of each construct stands: from one place to the place after it. What is left early goes on at a third place, to which
-- branches lead from the place after the code; so a branch never leads to a branch.
use Rattle.std.specs.Prelude.{◌≡◌, ℕ, zero, suc, ◌+◌, ◌≤◌, ℤ, pos, neg_ℤ, int_lt, ◌==◌, if◌then◌else◌, Bool, true, false, List, [], ◌∷◌, ◌++◌, length, replicate, Option, Some, None, slice_get}
use Rattle.algol_tree.specs.declared.tree.Op.TheVariants as operators
use Rattle.algol_tree.specs.declared.tree.Kind.{Kind}
use Rattle.algol_tree.specs.declared.tree.Kind.TheVariants as types
use Rattle.algol_tree.specs.declared.tree.Named.{Named}
use Rattle.b67_deeds.specs.Deeds as deeds
use Rattle.b67_ops.specs.Intrinsics.{intrinsic_of}
use Rattle.algol_tree.specs.declared.tree.PhraseText.{PhraseText}
use Rattle.algol_tree.specs.declared.tree.PhraseText.TheVariants as phrase
use Rattle.algol_tree.specs.Plain as tree
use Rattle.algol_tree.specs.Plain.{PExpr, PExprs, PPair, PStmt, PStmts, PDecls}
use Rattle.algol_tree.specs.Spelling.{value_of}
use Rattle.algol_tree.specs.Types.{given_by, taken_by, told_by}
use Rattle.algol_tree.specs.Sorts.{Sort, is_variable}
use Rattle.algol_tree.specs.Blocks.{block_numbered, number_at}
use Rattle.algol_tree.specs.Scopes.{Scopes}
use Rattle.algol_meaning.specs.Rest.{Loop, Item, run, turn, count, check, test, result, make_arrays, make_event}
use Rattle.algol_meaning.specs.Settle.{sorts_of}
use Rattle.algol_meaning.specs.Statements.{difference_in, stepped, alone}
use Rattle.b67_control.specs.declared.Pcw.{Pcw}
use Rattle.b67_ops.specs.declared.Couple.{Couple}
use Rattle.b67_ops.specs.declared.TheConstants.{OUTER_LEVEL}
use Rattle.b67_ops.specs.declared.Operator.TheVariants as ops
use Rattle.b67_ops.specs.declared.PlainKind.TheVariants as kinds
use Rattle.b67_ops.specs.declared.BranchKind.TheVariants.{Brfl, Brtr, Brun}
use Rattle.b67_ops.specs.declared.intrinsic.Intrinsic.TheVariants.{Write, Select, Arrays, Start}
use Rattle.b67_segment.specs.Operators.{Placed}
use Rattle.b67_segment.specs.declared.code.Phrase.{Phrase}
use Rattle.b67_segment.specs.declared.code.Phrase.TheVariants as parts
use Rattle.b67_templates.specs.Contexts.{Yields, nothing, value, element, Context}
use Rattle.b67_templates.specs.Fragments.{Has, AllAt, ControlsAt, NumberAt, MovedAt, ReadyAt, BranchAt, TurnAt, FragmentGoes, IntrinsicAt, EntryAt, operator_for, is_implication, truth_literal, procedure_controls, routine_at}
use Rattle.algol_paths.specs.Arrays.{DeclaredArray, Shape, shape_of}
use Rattle.b67_templates.specs.Cells as wants
use Rattle.b67_templates.specs.Cells.{parameter_cells, Wanted, ShapeAgrees, parameter_wants, variables, control_segments, Actual, actuals_in_block, has_place, IsVariable, IsFormalName, IsRead, IsProcedure, IsDeclaredArray, IsFormalArray, IsArray, IsOwnActual}
use Rattle.b67_templates.specs.Labels.{GoToAt}
use Rattle.b67_templates.specs.Events.{names_of, AreSoMany, OnEventsAt, EventActualAt, EventMadeAt, EventsMadeAt, TaskAt}

-- ---- context

-- Iw is a number in w columns, Xw are w blanks
abbrev pub word_part : List ℕ → Phrase
word_part [] = parts.Blanks 0
word_part (first ∷ digits) = if first == 73 then parts.Number (value_of digits) else parts.Blanks (value_of digits)

pub data IsCodePart : PhraseText → Phrase → Type 0 where
  text : (bytes : List ℕ) → IsCodePart (phrase.Text bytes) (parts.Text bytes)
  word : (letters : List ℕ) → IsCodePart (phrase.Word letters) (word_part letters)

abbrev pub AreParts : List PhraseText → List Phrase → Type 0
AreParts [] parts = parts ≡ []
AreParts (t ∷ ts) parts = (p : Phrase) × (more : List Phrase) × (parts ≡ p ∷ more) × IsCodePart t p × AreParts ts more

-- how many numbers a format has
abbrev pub numbers_in : List Phrase → ℕ
numbers_in [] = 0
numbers_in (parts.Number width ∷ ps) = numbers_in ps + 1
numbers_in (parts.Text bytes ∷ ps) = numbers_in ps
numbers_in (parts.Blanks n ∷ ps) = numbers_in ps

abbrev pub exprs_count : PExprs → ℕ
exprs_count tree.none = 0
exprs_count (tree.more e es) = exprs_count es + 1

-- an array has one dimension or two
abbrev pub AreDimensions : List PPair → Type 0
AreDimensions (p ∷ []) = Unit {0}
AreDimensions (p ∷ q ∷ []) = Unit {0}
AreDimensions _ = ⊥

-- nothing of a THRU is among what comes after
abbrev pub HasNoCounts : List Item → Type 0
HasNoCounts [] = Unit {0}
HasNoCounts (count n b ∷ k) = ⊥
HasNoCounts (_ ∷ k) = HasNoCounts k

abbrev pub stmts_count : PStmts → ℕ
stmts_count tree.no_stmts = 0
stmts_count (tree.stmts s ss) = stmts_count ss + 1

-- a number, or one after a sign
abbrev pub literal_of : PExpr → Option ℤ
literal_of (tree.number z spot) = Some z
literal_of (tree.neg (tree.number z spot) sign) = Some (neg_ℤ z)
literal_of _ = None

-- what compares the difference with 0, where the step is a number of that sign: past an upper or a lower limit
pub data StepSign : ℤ → Type 0 where
  up : {z : ℤ} → int_lt (pos 0) z ≡ true → StepSign z
  down : {z : ℤ} → int_lt z (pos 0) ≡ true → StepSign z
  still : StepSign (pos 0)

module _ (sc : Scopes) (context : Context) (ps : List Placed) (level : ℕ) where
  -- the format of this number has these parts, and so many numbers
  pub record FormatIs (format : ℕ) (phrases : List PhraseText) (items : ℕ) : Type 0 where
    pub list : List Phrase
    pub is : slice_get context.formats format ≡ Some (record { phrases = list })
    pub parts : AreParts phrases list
    pub numbers : numbers_in list ≡ items

  abbrev pub ReadAt : Named → Kind → ℕ → ℕ → Type 0
  ReadAt n kind from to = (c : Couple) × IsRead sc context.level n kind c × Has ps level from (ops.Valc c) to

  abbrev pub ReferenceAt : Named → Kind → ℕ → ℕ → Type 0
  ReferenceAt n kind from to = (c : Couple) × IsVariable sc context.level n kind c × Has ps level from (ops.Namc c) to

  -- what an assignment to a name by itself stores through: the reference of a variable, or what EVAL makes of that of a parameter by name
  pub data PlaceAt (n : Named) (kind : Kind) (from to : ℕ) : Type 0 where
    own : ReferenceAt n kind from to → PlaceAt n kind from to
    resolved : (c : Couple) (m : ℕ) → IsFormalName sc context.level n kind c → Has ps level from (ops.Namc c) m → Has ps level m (ops.Plain kinds.Eval) to →
        PlaceAt n kind from to

  -- ---- calls

  -- a mark, the reference of the procedure's control word
  pub record BegunAt (n : Named) (callee f t : ℕ) : Type 0 where
    pub couple : Couple
    pub procedure : IsProcedure sc context.level n callee couple
    pub marked : ℕ
    pub mark : Has ps level f (ops.Plain kinds.Mkst) marked
    pub reference : Has ps level marked (ops.Namc couple) t

  -- this beginning, the actuals, the entry
  abbrev pub CallAt : Named → ℕ → (ℕ → ℕ → Type 0) → ℕ → ℕ → Type 0
  CallAt n callee actuals f t = (begun : ℕ) × (filled : ℕ) × BegunAt n callee f begun × actuals begun filled × Has ps level filled (ops.Plain kinds.Entr) t

  -- no actuals
  abbrev pub without_actuals : ℕ → ℕ → Type 0
  without_actuals f t = f ≡ t

  -- The actual of an array parameter: of a declared array the reference to its cell, wherever it is read; of an array parameter the
  -- reference that its cell has.
  pub data ArrayActualAt (shape : Shape) (n : Named) (f t : ℕ) : Type 0 where
    refers : (d : DeclaredArray) (c : Couple) (m : ℕ) → IsDeclaredArray sc context.level n d c → ShapeAgrees shape (shape_of d) → Has ps level f (ops.Namc c) m → Has ps level m (ops.Plain kinds.Stff) t →
        ArrayActualAt shape n f t
    passes : (a : Shape) (c : Couple) (m : ℕ) → IsFormalArray sc context.level n a c → ShapeAgrees shape a → Has ps level f (ops.Namc c) m → Has ps level m (ops.Plain kinds.Lodt) t →
        ArrayActualAt shape n f t

  -- The actual of a parameter by name: a variable's reference, which is read alike everywhere; what the cell of another such parameter has;
  -- or the reference to the cell of the control word of its code.
  pub data NameActualAt (kind : Kind) (e : PExpr) (f t : ℕ) : Type 0 where
    refers_to : (n : Named) (c : Couple) (m : ℕ) → e ≡ alone n → IsVariable sc context.level n kind c → OUTER_LEVEL ≤ c.level → Has ps level f (ops.Namc c) m →
        Has ps level m (ops.Plain kinds.Stff) t → NameActualAt kind e f t
    passes_on : (n : Named) (c : Couple) (m : ℕ) → e ≡ alone n → IsFormalName sc context.level n kind c → Has ps level f (ops.Namc c) m →
        Has ps level m (ops.Plain kinds.Lodt) t → NameActualAt kind e f t
    names : (c : Couple) (m : ℕ) → IsOwnActual sc context.block context.level e kind c → Has ps level f (ops.Namc c) m → Has ps level m (ops.Plain kinds.Stff) t →
        NameActualAt kind e f t

  -- a name by itself in an expression: a variable or a parameter is read, a typed procedure is called
  pub data NameAt (k : Kind) (n : Named) (f t : ℕ) : Type 0 where
    reads : ReadAt n k f t → NameAt k n f t
    calls : (callee : ℕ) → CallAt n callee without_actuals f t → parameter_wants sc callee ≡ [] → (block_numbered sc.blocks callee).result ≡ Some k → NameAt k n f t

  -- the result of a call that a statement makes is dropped
  abbrev pub DroppedAt : Option Kind → ℕ → ℕ → Type 0
  DroppedAt None f t = f ≡ t
  DroppedAt (Some k) f t = Has ps level f (ops.Plain kinds.Dlet) t

  -- ---- expressions: the value stands at the place after the code, or where that leads

  abbrev mutual
    pub ExprAt : Kind → PExpr → ℕ → ℕ → ℕ → Type 0
    ExprAt k (tree.number z spot) f t u = (k ≡ types.Number) × NumberAt ps level z f t
    ExprAt k (tree.truth b spot) f t u = (k ≡ types.Truth) × Has ps level f (ops.Plain (truth_literal b)) t
    ExprAt k (tree.variable (tree.subscripted n tree.none)) f t u = NameAt k n f t
    ExprAt k (tree.paren e spot) f t u = ExprAt k e f t u
    ExprAt k (tree.plus e spot) f t u = (k ≡ types.Number) × ExprAt types.Number e f t u
    ExprAt k (tree.neg e spot) f t u = (m : ℕ) × (k ≡ types.Number) × ExprAt types.Number e f m m × Has ps level m (ops.Plain kinds.Chsn) t
    ExprAt k (tree.not e spot) f t u = (m : ℕ) × (k ≡ types.Truth) × ExprAt types.Truth e f m m × Has ps level m (ops.Plain kinds.Lnot) t
    ExprAt k (tree.two op a b) f t u =
        (m : ℕ) × (r : ℕ) × (n : ℕ) × (k ≡ given_by op) × ExprAt (taken_by op) a f m m × ReadyAt ps level (is_implication op) m r × ExprAt (taken_by op) b r n n
        × Has ps level n (ops.Plain (operator_for op)) t
    ExprAt k (tree.if c x y spot) f t u =
        (m : ℕ) × (m' : ℕ) × (n : ℕ) × (n' : ℕ) × ExprAt types.Truth c f m m × BranchAt ps level Brfl m n' m' × ExprAt k x m' n u × BranchAt ps level Brun n u n'
        × ExprAt k y n' t u
    ExprAt k (tree.variable (tree.subscripted n (tree.more e es))) f t u =
        (a : Shape) × (c : Couple) × (m : ℕ) × IsArray sc context.level n a c × (a.kind ≡ k) × SubscriptsAt c a.lows (tree.more e es) f m
        × Has ps level m (ops.Plain kinds.Nxlv) t
    ExprAt k (tree.call (tree.called n es)) f t u =
        (callee : ℕ) × CallAt n callee (ActualsAt (sorts_of ((block_numbered sc.blocks callee).parameters)) (parameter_wants sc callee) es) f t × ((block_numbered sc.blocks callee).result ≡ Some k)
    ExprAt k (tree.tested x es spot) f t u =
        (k ≡ told_by x) × AreSoMany (deeds.tests x) (names_of es) × OnEventsAt sc context ps level (intrinsic_of (deeds.tests x)) (names_of es) f t

    -- The last subscript, moved by its lower bound, lies under the reference of the array, or under the descriptor of its row, once the
    -- first subscript has led to that.
    pub SubscriptsAt : Couple → List ℤ → PExprs → ℕ → ℕ → Type 0
    SubscriptsAt c (low ∷ []) (tree.more e tree.none) f t =
        (m : ℕ) × (n : ℕ) × ExprAt types.Number e f m m × MovedAt ps level low m n × Has ps level n (ops.Namc c) t
    SubscriptsAt c (low ∷ low' ∷ []) (tree.more e (tree.more e' tree.none)) f t =
        (m : ℕ) × (n : ℕ) × (q : ℕ) × (r : ℕ) × ExprAt types.Number e f m m × MovedAt ps level low m n × Has ps level n (ops.Namc c) q
        × Has ps level q (ops.Plain kinds.Nxln) r
        × ((x : ℕ) × (y : ℕ) × ExprAt types.Number e' r x x × MovedAt ps level low' x y × Has ps level y (ops.Plain kinds.Exch) t)
    SubscriptsAt c _ _ f t = ⊥

    -- actuals for parameters of these sorts, of which this is wanted: values, names of arrays and of events, and what is given by name
    pub ActualsAt : List Sort → List Wanted → PExprs → ℕ → ℕ → Type 0
    ActualsAt [] [] tree.none f t = f ≡ t
    ActualsAt (sort ∷ sorts) (wants.value kind ∷ wanted) (tree.more e es) f t =
        (m : ℕ) × (is_variable sort ≡ true) × ExprAt kind e f m m × ActualsAt sorts wanted es m t
    ActualsAt (sort ∷ sorts) (wants.array shape ∷ wanted) (tree.more (tree.variable (tree.subscripted n tree.none)) es) f t =
        (m : ℕ) × (is_variable sort ≡ false) × ArrayActualAt shape n f m × ActualsAt sorts wanted es m t
    ActualsAt (sort ∷ sorts) (wants.by_name kind ∷ wanted) (tree.more e es) f t =
        (m : ℕ) × (is_variable sort ≡ false) × NameActualAt kind e f m × ActualsAt sorts wanted es m t
    ActualsAt (sort ∷ sorts) (wants.event ∷ wanted) (tree.more (tree.variable (tree.subscripted n tree.none)) es) f t =
        (m : ℕ) × (is_variable sort ≡ false) × EventActualAt sc context ps level n f m × ActualsAt sorts wanted es m t
    ActualsAt _ _ _ f t = ⊥

  -- the second subscript, where the descriptor of the row lies below it
  abbrev pub SecondAt : ℤ → PExpr → ℕ → ℕ → Type 0
  SecondAt low e f t = (m : ℕ) × (n : ℕ) × ExprAt types.Number e f m m × MovedAt ps level low m n × Has ps level n (ops.Plain kinds.Exch) t

  abbrev pub CallStmtAt : Named → PExprs → ℕ → ℕ → Type 0
  CallStmtAt n es f t =
      (callee : ℕ) × (m : ℕ) × CallAt n callee (ActualsAt (sorts_of ((block_numbered sc.blocks callee).parameters)) (parameter_wants sc callee) es) f m × DroppedAt (block_numbered sc.blocks callee).result m t

  -- the start of a PROCESS: a mark, the references of the intrinsic and of the control word of a procedure that has no result, the task
  pub record PreparedAt (n : Named) (task : Option Named) (callee f t : ℕ) : Type 0 where
    pub couple : Couple
    pub procedure : IsProcedure sc context.level n callee couple
    pub untyped : (block_numbered sc.blocks callee).result ≡ None
    pub named : ℕ
    pub referred : ℕ
    pub intrinsic : IntrinsicAt ps level Start f named
    pub reference : Has ps level named (ops.Namc couple) referred
    pub tasked : TaskAt sc context ps level task referred t

  -- this start, the actuals, the entry
  abbrev pub StartAt : Named → PExprs → Option Named → ℕ → ℕ → Type 0
  StartAt n es task f t =
      (callee : ℕ) × (begun : ℕ) × (filled : ℕ) × PreparedAt n task callee f begun
      × ActualsAt (sorts_of ((block_numbered sc.blocks callee).parameters)) (parameter_wants sc callee) es begun filled × Has ps level filled (ops.Plain kinds.Entr) t

  -- ---- statements: what comes next stands at the place after the code, or where that leads

  -- the word of the left side's place, the value, the store
  abbrev pub AssignAt : Named → PExpr → ℕ → ℕ → Type 0
  AssignAt n e f t =
      (k : Kind) × (m : ℕ) × (r : ℕ) × PlaceAt n k f m × ExprAt k e m r r × Has ps level r (ops.Plain kinds.Stod) t

  -- the descriptor of the element, the value, the store
  abbrev pub ElementAssignAt : Named → PExprs → PExpr → ℕ → ℕ → Type 0
  ElementAssignAt n es e f t =
      (a : Shape) × (c : Couple) × (m : ℕ) × (q : ℕ) × (r : ℕ) × IsArray sc context.level n a c × SubscriptsAt c a.lows es f m
      × Has ps level m (ops.Plain kinds.Indx) q × ExprAt a.kind e q r r × Has ps level r (ops.Plain kinds.Stod) t

  -- the descriptor of an element
  abbrev pub ElementAt : Kind → PExpr → ℕ → ℕ → Type 0
  ElementAt k (tree.variable (tree.subscripted n (tree.more i is))) f t =
      (a : Shape) × (c : Couple) × (m : ℕ) × IsArray sc context.level n a c × (a.kind ≡ k) × SubscriptsAt c a.lows (tree.more i is) f m
      × Has ps level m (ops.Plain kinds.Indx) t
  ElementAt k _ f t = ⊥

  -- lower bounds as they stand, and the values of upper bounds
  abbrev pub BoundsAt : List PPair → ℕ → ℕ → Type 0
  BoundsAt [] f t = f ≡ t
  BoundsAt (p ∷ pairs) f t = (m : ℕ) × (n : ℕ) × NumberAt ps level p.low f m × ExprAt types.Number p.high m n n × BoundsAt pairs n t

  -- so many arrays are made, one at least: a mark, the reference of the intrinsic, their number, the bounds, the entry, and PUSH, which
  -- makes cells of the descriptors
  pub record ArraysAt (many : ℕ) (pairs : List PPair) (f t : ℕ) : Type 0 where
    pub dimensions : AreDimensions pairs
    pub named : ℕ
    pub numbered : ℕ
    pub bounded : ℕ
    pub made : ℕ
    pub intrinsic : IntrinsicAt ps level Arrays f named
    pub number : NumberAt ps level (pos many) named numbered
    pub bounds : BoundsAt pairs numbered bounded
    pub enter : Has ps level bounded (ops.Plain kinds.Entr) made
    pub push : Has ps level made (ops.Plain kinds.Push) t
    pub some : 1 ≤ many

  -- the arrays, the events and the tasks of declarations, in their order
  abbrev pub DeclsAt : PDecls → ℕ → ℕ → Type 0
  DeclsAt tree.no_decls f t = f ≡ t
  DeclsAt (tree.decls (tree.arrays kind ns pairs) ds) f t = (m : ℕ) × ArraysAt (length ns) pairs f m × DeclsAt ds m t
  DeclsAt (tree.decls (tree.events ns) ds) f t = (m : ℕ) × EventsMadeAt sc context ps level ns f m × DeclsAt ds m t
  DeclsAt (tree.decls (tree.tasks ns) ds) f t = (m : ℕ) × EventsMadeAt sc context ps level ns f m × DeclsAt ds m t
  DeclsAt (tree.decls d ds) f t = DeclsAt ds f t

  -- items of a line
  abbrev pub LineAt : PExprs → ℕ → ℕ → Type 0
  LineAt tree.none f t = f ≡ t
  LineAt (tree.more e es) f t = (m : ℕ) × ExprAt types.Number e f m m × LineAt es m t

  -- a mark, the reference of the intrinsic, the format's number, the items, the entry
  pub record WriteAt (phrases : List PhraseText) (es : PExprs) (f t : ℕ) : Type 0 where
    pub format : ℕ
    pub is : FormatIs format phrases (exprs_count es)
    pub named : ℕ
    pub numbered : ℕ
    pub valued : ℕ
    pub intrinsic : IntrinsicAt ps level Write f named
    pub number : NumberAt ps level (pos format) named numbered
    pub items : LineAt es numbered valued
    pub enter : Has ps level valued (ops.Plain kinds.Entr) t

  -- CASE after its number: how many statements there are, the place of their table, the entry, after which the table begins
  abbrev pub TableAt : ℕ → ℕ → ℕ → Type 0
  TableAt many from table =
      (b : ℕ) × (c : ℕ) × NumberAt ps level (pos many) from b × NumberAt ps level (pos table) b c × Has ps level c (ops.Plain kinds.Entr) table

  -- THRU: at q the count lies on top. One less than it lies there while the body runs; without a turn left it is dropped at l.
  pub record CountAt (q l to : ℕ) : Type 0 where
    pub tested : ℕ
    pub gone : ℕ
    pub test : AllAt ps level (kinds.Dupl ∷ kinds.One ∷ kinds.Less ∷ []) q tested
    pub branch : BranchAt ps level Brtr tested l gone
    pub less : AllAt ps level (kinds.One ∷ kinds.Subt ∷ []) gone to

  -- FOR: the sign of the step on top times the difference below it is compared with 0
  pub record PastAt (f u to : ℕ) : Type 0 where
    pub tested : ℕ
    pub test :
        AllAt ps level
        (kinds.Dupl ∷ kinds.Zero ∷ kinds.Grtr ∷ kinds.Exch ∷ kinds.Zero ∷ kinds.Less ∷ kinds.Subt ∷ kinds.Mult ∷ kinds.Zero ∷ kinds.Grtr ∷ [])
        f tested
    pub branch : BranchAt ps level Brtr tested u to

  -- where the step is a literal its sign is known: the difference is compared with 0, or dropped
  abbrev pub SignedAt : {z : ℤ} → StepSign z → ℕ → ℕ → ℕ → Type 0
  SignedAt (up p) f u to = (m : ℕ) × AllAt ps level (kinds.Zero ∷ kinds.Grtr ∷ []) f m × BranchAt ps level Brtr m u to
  SignedAt (down p) f u to = (m : ℕ) × AllAt ps level (kinds.Zero ∷ kinds.Less ∷ []) f m × BranchAt ps level Brtr m u to
  SignedAt still f u to = Has ps level f (ops.Plain kinds.Dlet) to

  -- what follows the difference in the test of FOR: the step and its sign, or the sign of a literal
  pub data StepAt (step : PExpr) (f u to : ℕ) : Type 0 where
    any : (m : ℕ) → ExprAt types.Number step f m m → PastAt m u to → StepAt step f u to
    literal : (z : ℤ) → literal_of step ≡ Some z → (s : StepSign z) → SignedAt s f u to → StepAt step f u to

  -- the test of DO .. UNTIL at q, with the body from f on
  abbrev pub UntilAt : PExpr → ℕ → ℕ → ℕ → ℕ → Type 0
  UntilAt c f q t u = (m : ℕ) × (m' : ℕ) × ExprAt types.Truth c q m m × BranchAt ps level Brtr m u m' × TurnAt ps level m' f t

  -- cells are made of what was pushed, where that is anything
  abbrev pub MadeAt : ℕ → ℕ → ℕ → Type 0
  MadeAt zero f t = f ≡ t
  MadeAt (suc n) f t = Has ps level f (ops.Plain kinds.Push) t

  -- a zero for each of so many, these control words, and their making into cells
  abbrev pub CellsAt : ℕ → List Pcw → ℕ → ℕ → Type 0
  CellsAt many controls f t =
      (m : ℕ) × (n : ℕ) × AllAt ps level (replicate many kinds.Zero) f m × ControlsAt ps level controls m n × MadeAt (many + length controls) n t

  -- the result of a procedure of that name is read, and given back
  pub record ResultAt (name : List ℕ) (f : ℕ) : Type 0 where
    pub kind : Kind
    pub is : context.yields ≡ value kind
    pub named : (block_numbered sc.blocks context.block).name ≡ name
    pub couple : Couple
    pub level_is : couple.level ≡ level
    pub index_is : couple.index ≡ 2 + length (parameter_cells sc (block_numbered sc.blocks context.block))
    pub valued : ℕ
    pub over : ℕ
    pub read : Has ps level f (ops.Valc couple) valued
    pub back : Has ps level valued (ops.Plain kinds.Retn) over

-- the context of a block of this number within another one, in the same segment
abbrev pub in_block : ℕ → Context → Context
in_block block context = record context { block = block; level = context.level + 1; yields = nothing }

-- .. of the code of an actual there, which gives this
abbrev pub in_routine : Yields → Context → Context
in_routine yields context = record context { yields = yields }

module _ (sc : Scopes) (context : Context) (ps : List Placed) (level : ℕ) where
  -- The code of an actual gives its value; where it is subscripted, a selector lies on the stack, and where that asks for it, the code gives the
  -- place of its element.
  abbrev pub RoutineBy : Bool → Actual → ℕ → Type 0
  RoutineBy false a at = (r : ℕ) × (o : ℕ) × ExprAt sc (in_routine (value a.kind) context) ps level a.kind a.expr at r r × Has ps level r (ops.Plain kinds.Retn) o
  RoutineBy true a at =
      (m : ℕ) × (p : ℕ) × (r : ℕ) × (v : ℕ) × (q : ℕ) × (o : ℕ) × BranchAt ps level Brtr at p m
      × ExprAt sc (in_routine (value a.kind) context) ps level a.kind a.expr m r r × Has ps level r (ops.Plain kinds.Retn) v
      × ElementAt sc (in_routine (element a.kind) context) ps level a.kind a.expr p q × Has ps level q (ops.Plain kinds.Retn) o

  abbrev pub RoutineAt : Actual → ℕ → Type 0
  RoutineAt a at = RoutineBy (has_place a.expr) a at

  -- the code of each of these actuals stands at its place
  abbrev pub RoutinesAt : List Actual → List ℕ → Type 0
  RoutinesAt [] ats = ats ≡ []
  RoutinesAt (a ∷ actuals) ats = (at : ℕ) × (more : List ℕ) × (ats ≡ at ∷ more) × RoutineAt a at × RoutinesAt actuals more

-- the control words of actuals in a block of this level, whose code stands at these places of this segment and runs one level further in
abbrev pub routine_controls : ℕ → ℕ → List Actual → List ℕ → List Pcw
routine_controls segment level (a ∷ actuals) (at ∷ ats) = routine_at (has_place a.expr) segment at (level + 1) ∷ routine_controls segment level actuals ats
routine_controls segment level _ _ = []

-- the control words with which a block of this level in this segment begins: those of the procedures that it declares, and those of its
-- actuals, whose code stands at these places
abbrev pub control_pcws : Scopes → ℕ → ℕ → PDecls → List Actual → List ℕ → List Pcw
control_pcws sc segment level ds actuals ats = procedure_controls level (control_segments sc ds) ++ routine_controls segment level actuals ats

module _ (sc : Scopes) where
  abbrev mutual
    pub StmtAt : Context → List Placed → ℕ → PStmt → ℕ → ℕ → ℕ → Type 0
    StmtAt context ps level tree.empty f t u = f ≡ t
    StmtAt context ps level (tree.assign (tree.subscripted n tree.none) e) f t u = AssignAt sc context ps level n e f t
    StmtAt context ps level (tree.assign (tree.subscripted n (tree.more i is)) e) f t u = ElementAssignAt sc context ps level n (tree.more i is) e f t
    StmtAt context ps level (tree.call_of (tree.called n es)) f t u = CallStmtAt sc context ps level n es f t
    StmtAt context ps level (tree.block (tree.body spot tree.no_decls ss)) f t u = StmtsAt context ps level ss f t u
    -- the code of an inner block, `InnerAt`, stands before its entry
    StmtAt context ps level (tree.block (tree.body spot (tree.decls d ds) ss)) f t u =
        (o : ℕ) × (at : ℕ) × FragmentGoes ps level f o
        × ((ats : List ℕ) × (b : ℕ) × (d' : ℕ) × (e : ℕ) × (v : ℕ)
        × RoutinesAt sc (in_block (number_at sc.blocks spot) context) ps (level + 1 + 1) (actuals_in_block sc (tree.decls d ds) ss) ats
        × CellsAt sc (in_block (number_at sc.blocks spot) context) ps (level + 1) (length (variables (tree.decls d ds)))
        (control_pcws sc context.segment (level + 1) (tree.decls d ds) (actuals_in_block sc (tree.decls d ds) ss) ats) at b
        × DeclsAt sc (in_block (number_at sc.blocks spot) context) ps (level + 1) (tree.decls d ds) b d'
        × StmtsAt (in_block (number_at sc.blocks spot) context) ps (level + 1) ss d' e e
        × Has ps (level + 1) e (ops.Plain kinds.Exit) v)
        × EntryAt ps level context.segment at o t
    StmtAt context ps level (tree.if_then c x) f t u =
        (m : ℕ) × (m' : ℕ) × ExprAt sc context ps level types.Truth c f m m × BranchAt ps level Brfl m u m' × StmtAt context ps level x m' t u
    StmtAt context ps level (tree.if_else c x y) f t u =
        (m : ℕ) × (m' : ℕ) × (n : ℕ) × (n' : ℕ) × ExprAt sc context ps level types.Truth c f m m × BranchAt ps level Brfl m n' m' × StmtAt context ps level x m' n u × BranchAt ps level Brun n u n'
        × StmtAt context ps level y n' t u
    StmtAt context ps level (tree.while c b) f t u =
        (m : ℕ) × (m' : ℕ) × (n : ℕ) × ExprAt sc context ps level types.Truth c f m m × BranchAt ps level Brfl m u m' × StmtAt context ps level b m' n n × TurnAt ps level n f t
    StmtAt context ps level (tree.until b c) f t u = (q : ℕ) × StmtAt context ps level b f q q × UntilAt sc context ps level c f q t u
    StmtAt context ps level (tree.for v a s l b) f t u =
        (q : ℕ) × (m : ℕ) × (n : ℕ) × (w : ℕ) × (x : ℕ) × AssignAt sc context ps level v a f q × ExprAt sc context ps level types.Number (tree.two operators.Sub (alone v) l) q m m × StepAt sc context ps level s m u n
        × StmtAt context ps level b n w w × AssignAt sc context ps level v (tree.two operators.Add (alone v) s) w x × TurnAt ps level x q t
    StmtAt context ps level (tree.thru e b) f t u =
        (q : ℕ) × (l : ℕ) × (q' : ℕ) × (m : ℕ) × ExprAt sc context ps level types.Number e f q q × CountAt sc context ps level q l q' × StmtAt context ps level b q' m m × TurnAt ps level m q l
        × Has ps level l (ops.Plain kinds.Dlet) t
    StmtAt context ps level (tree.case e ss) f t u =
        (a : ℕ) × (m : ℕ) × (table : ℕ) × IntrinsicAt ps level Select f a × ExprAt sc context ps level types.Number e a m m × TableAt sc context ps level (stmts_count ss) m table × CasesAt context ps level ss table u
    StmtAt context ps level (tree.write n spot phrases es) f t u = WriteAt sc context ps level phrases es f t
    StmtAt context ps level (tree.label n s) f t u = (context.labels n.spot ≡ Some f) × StmtAt context ps level s f t u
    StmtAt context ps level (tree.go_to n) f t u = GoToAt sc context ps level n f t
    StmtAt context ps level (tree.event act e) f t u = OnEventsAt sc context ps level (intrinsic_of (deeds.acts act)) (e.name ∷ []) f t
    StmtAt context ps level (tree.process (tree.called n es) task) f t u = StartAt sc context ps level n es task f t

    pub StmtsAt : Context → List Placed → ℕ → PStmts → ℕ → ℕ → ℕ → Type 0
    StmtsAt context ps level tree.no_stmts f t u = f ≡ t
    StmtsAt context ps level (tree.stmts s tree.no_stmts) f t u = StmtAt context ps level s f t u
    StmtsAt context ps level (tree.stmts s (tree.stmts s' ss)) f t u = (m : ℕ) × StmtAt context ps level s f m m × StmtsAt context ps level (tree.stmts s' ss) m t u

    -- each entry of the table is a branch to its statement
    pub CasesAt : Context → List Placed → ℕ → PStmts → ℕ → ℕ → Type 0
    CasesAt context ps level tree.no_stmts entry u = Unit {0}
    CasesAt context ps level (tree.stmts s ss) entry u =
        (p : ℕ) × (x : ℕ) × BranchAt ps level Brun entry p (entry + 3) × StmtAt context ps level s p x u × FragmentGoes ps level x u × CasesAt context ps level ss (entry + 3) u

  -- the cells of an inner block, its arrays and events, its statements, EXIT, and somewhere the code of its actuals; the context is that of
  -- the block
  abbrev pub InnerAt : Context → List Placed → ℕ → PDecls → PStmts → ℕ → Type 0
  InnerAt context ps level ds ss at =
      (ats : List ℕ) × (b : ℕ) × (d : ℕ) × (e : ℕ) × (v : ℕ) × RoutinesAt sc context ps (level + 1) (actuals_in_block sc ds ss) ats
      × CellsAt sc context ps level (length (variables ds)) (control_pcws sc context.segment level ds (actuals_in_block sc ds ss) ats) at b
      × DeclsAt sc context ps level ds b d × StmtsAt context ps level ss d e e × Has ps level e (ops.Plain kinds.Exit) v

module _ (sc : Scopes) (context : Context) (ps : List Placed) (level : ℕ) where
  -- FOR from its test on
  abbrev pub LoopAt : Loop → ℕ → ℕ → ℕ → Type 0
  LoopAt loop q t u =
      (m : ℕ) × (n : ℕ) × (w : ℕ) × (x : ℕ) × ExprAt sc context ps level types.Number (difference_in loop) q m m × StepAt sc context ps level loop.step m u n × StmtAt sc context ps level loop.body n w w
      × StmtAt sc context ps level (stepped loop) w x x × TurnAt ps level x q t

  -- THRU from its count on
  abbrev pub ThruAt : PStmt → ℕ → ℕ → Type 0
  ThruAt b q t =
      (l : ℕ) × (q' : ℕ) × (m : ℕ) × CountAt sc context ps level q l q' × StmtAt sc context ps level b q' m m × TurnAt ps level m q l × Has ps level l (ops.Plain kinds.Dlet) t

  -- ---- what is still to be done; a text that gives nothing ends with EXIT

  abbrev pub KAt : List Item → ℕ → Type 0
  KAt [] pc = (q : ℕ) × (to : ℕ) × (context.yields ≡ nothing) × FragmentGoes ps level pc q × Has ps level q (ops.Plain kinds.Exit) to
  KAt (run s ∷ k) pc = (q : ℕ) × (t : ℕ) × (u : ℕ) × FragmentGoes ps level pc q × StmtAt sc context ps level s q t u × FragmentGoes ps level t u × KAt k u
  KAt (turn ∷ k) pc = (q : ℕ) × (l : ℕ) × (to : ℕ) × FragmentGoes ps level pc q × TurnAt ps level q l to × KAt k l
  KAt (count n b ∷ k) pc = (q : ℕ) × (t : ℕ) × (u : ℕ) × FragmentGoes ps level pc q × ThruAt b q t × FragmentGoes ps level t u × KAt k u
  KAt (check b c ∷ k) pc =
      (q : ℕ) × (f : ℕ) × (t : ℕ) × (u : ℕ) × FragmentGoes ps level pc q × StmtAt sc context ps level b f q q × UntilAt sc context ps level c f q t u × FragmentGoes ps level t u × KAt k u
  KAt (test loop ∷ k) pc = (q : ℕ) × (t : ℕ) × (u : ℕ) × FragmentGoes ps level pc q × LoopAt loop q t u × KAt k u
  -- the result comes last
  KAt (result name ∷ []) pc = (q : ℕ) × FragmentGoes ps level pc q × ResultAt sc context ps level name q
  KAt (result name ∷ item ∷ k) pc = ⊥
  -- what is pushed before becomes cells as well, so nothing may lie there
  KAt (make_arrays kind ns pairs ∷ k) pc =
      (q : ℕ) × (t : ℕ) × FragmentGoes ps level pc q × ArraysAt sc context ps level (length ns) pairs q t × HasNoCounts k × KAt k t
  KAt (make_event n ∷ k) pc = (q : ℕ) × (t : ℕ) × FragmentGoes ps level pc q × EventMadeAt sc context ps level q t × HasNoCounts k × KAt k t
