-- Stretches of private operators: what they do in an image, and what they do in a frame whose words are slots.
use Rattle.std.specs.Prelude.{◌≡◌, ◌≢◌, ◌↔◌, ℕ, ◌+◌, ◌<◌, ◌≤◌, true, false, pos, List, [], ◌∷◌, ◌++◌, length, map, reverse, replicate, Some, IsSome, Err, slice_get}
use Rattle.b67_list.specs.Numbered.{numbered}
use Rattle.algol_tree.specs.declared.tree.Op.{Op}
use Rattle.algol_tree.specs.Scopes.{Scopes}
use Rattle.algol_tree.specs.Types.{taken_by}
use Rattle.b67_num.specs.declared.FaultKind.{FaultKind}
use Rattle.b67_num.specs.declared.NumFault.{NumFault}
use Rattle.b67_num.specs.Whole.{fault_of}
use Rattle.algol_meaning.specs.Value.{Value}
use Rattle.algol_meaning.specs.Operators.{result_of}
use Rattle.b67_word.specs.declared.Place.{Place}
use Rattle.b67_control.specs.declared.Registers.{Registers}
use Rattle.b67_control.specs.declared.Pcw.{Pcw}
use Rattle.b67_control.specs.Display.{place_at}
use Rattle.b67_control.specs.Control.{pcw_word}
use Rattle.b67_word.specs.Word.{Word}
use Rattle.b67_word.specs.Word as words
use Rattle.b67_ops.specs.declared.Couple.{Couple}
use Rattle.b67_ops.specs.declared.TheConstants.{MOST_LEVEL, OUTER_LEVEL}
use Rattle.b67_ops.specs.declared.Operator.TheVariants as ops
use Rattle.b67_ops.specs.declared.PlainKind.TheVariants as kinds
use Rattle.b67_segment.specs.Operators.{Placed}
use Rattle.b67_segment.specs.Syllables.{Spells}
use Rattle.b67_segment.specs.declared.code.Code.{Code}
use Rattle.b67_templates.specs.Contexts.{Context}
use Rattle.b67_segment.specs.declared.code.Segment.{Segment}
use Rattle.b67_store.specs.Store.{stack_at, stack_limit}
use Rattle.b67_table.specs.Limits.{most_cells}
use Rattle.b67_table.specs.Private.{frame}
use Rattle.b67_table.specs.Image.{Image, is_live}
use Rattle.b67_table.specs.References.{cell_word}
use Rattle.b67_table.specs.Outcome as outcomes
use Rattle.b67_table.specs.Table.{table, plain}
use Rattle.b67_table.specs.Ending.{failed}
use Rattle.b67_table.specs.Privacy.{RegistersStay}
use Rattle.b67_table.specs.Runs.{Plains}
use Rattle.b67_table.specs.Valid.{IsValid}
use Rattle.b67_templates.specs.Fragments.{Has, HasKind, FragmentGoes, operator_for}
use Rattle.b67_templates.specs.Code.{CellsAt}
use Rattle.b67_standing.specs.Stepping.{HeldWord, Stuffable, Slot, operand, ready, FragmentStep, StepsLead}
use Rattle.b67_cores.specs.Cores.{Core, size, IsCore, over, HasCore, with_core, CoreFaults, CoreStep, CoreSteps}
use Rattle.b67_cores.specs.Slots.{Known, newest, SlotsAre}

-- ---- in an image

-- A process performed so many plain operators, and has this core: every other process has the core that it had, and no public part of the
-- image is another.
pub record Performed (code : Code) (p : ℕ) (img : Image) (n : ℕ) (a b : Core) : Type 0 where
  pub plains : Plains code p img n (with_core img p b)
  pub has : HasCore (with_core img p b) p b
  pub kept : RegistersStay a.registers b.registers
  pub stacks : (m : ℕ) → m ≢ p → stack_at (with_core img p b).stacks m ≡ stack_at img.stacks m
  pub registers : (q : ℕ) → q ≢ p → numbered (with_core img p b).regs q ≡ numbered img.regs q
  pub others : (q : ℕ) (core : Core) → q ≢ p → HasCore img q core ↔ HasCore (with_core img p b) q core

-- steps of its core are performed by the process in every image in which it has the first core
abbrev pub StepsArePerformed : Type 0
StepsArePerformed =
    (code : Code) (p bound n : ℕ) (img : Image) (a b : Core) → bound ≤ stack_limit → HasCore img p a → CoreSteps code bound n a b → Performed code p img n a b

-- a step to more words than a stack may have is no plain operator: it comes to the stack limit
abbrev pub StepsComeToLimit : Type 0
StepsComeToLimit =
    (code : Code) (p : ℕ) (img : Image) (a b : Core) → HasCore img p a → CoreStep code a b → stack_limit < size b →
    (table code img p ≡ outcomes.limit) × (plain code img p ≡ false)

-- a private operator that faults
pub record FaultsArePerformed : Type 0 where
  -- is a fault of the process in every image in which it has that core, and no plain operator
  pub faulting : (code : Code) (p : ℕ) (img : Image) (a : Core) (kind : FaultKind) → HasCore img p a → CoreFaults code a kind
      → (table code img p ≡ outcomes.faults kind) × (plain code img p ≡ false)
  -- and the image that keeps a fault has the cores that there were
  pub kept : (p q : ℕ) (img : Image) (a : Core) (kind : FaultKind) → HasCore img q a → HasCore (failed img p kind) q a

-- the steps of a core that plain operators in an image are
pub record Decided (code : Code) (p : ℕ) (img : Image) (n : ℕ) (a : Core) (new : Image) : Type 0 where
  pub core : Core
  pub steps : CoreSteps code stack_limit n a core
  pub is : new ≡ with_core img p core

-- The words below the floor stay, with those that PUSH adds to them; over any others, as many, the steps are the same.
pub record Above (code : Code) (bound n : ℕ) (a b : Core) : Type 0 where
  pub cells : List Word
  pub below : b.below ≡ a.below ++ cells
  pub same : (lower : List Word) → length lower ≡ length a.below → CoreSteps code bound n (over lower a) (over (lower ++ cells) b)

-- what another process does to the words below a floor does not matter to private operators
abbrev pub StepsStayAbove : Type 0
StepsStayAbove = (code : Code) (bound n : ℕ) (a b : Core) → IsCore a → CoreSteps code bound n a b → Above code bound n a b

-- what a process performed in one image it performs in another
pub record Repeated (code : Code) (p n : ℕ) (x new y : Image) : Type 0 where
  pub core : Core
  pub is : new ≡ with_core x p core
  pub plains : Plains code p y n (with_core y p core)

pub record HasOne (img : Image) (p : ℕ) (r : Registers) : Type 0 where
  pub core : Core
  pub has : HasCore img p core
  pub registers : core.registers ≡ r

-- private operators go forward
abbrev pub StepsGoForward : Type 0
StepsGoForward =
    (code : Code) (bound n : ℕ) (a b : Core) → a.registers.ll ≤ MOST_LEVEL → CoreSteps code bound n a b → n + a.registers.place ≤ b.registers.place

-- What a process performs is a fact of its core only.
pub record CoresDecide : Type 0 where
  -- plain operators of a process are steps of its core, and leave all else of the image
  pub steps : (code : Code) (p n : ℕ) (img new : Image) (a : Core) → HasCore img p a → size a ≤ stack_limit → Plains code p img n new → Decided code p img n a new
  -- so a process with one core in two images performs the same in both
  pub same : (code : Code) (p n : ℕ) (x new y : Image) (a : Core) → HasCore x p a → HasCore y p a → size a ≤ stack_limit → Plains code p x n new
      → Repeated code p n x new y
  -- of steps from one core the fewer lead to a core from which the rest lead on
  pub first : (code : Code) (bound limit n k : ℕ) (a b c : Core) → CoreSteps code bound n a b → CoreSteps code limit (n + k) a c → CoreSteps code limit k b c

-- each process of a valid image that lives has a core, with its registers
abbrev pub ValidImagesHaveCores : Type 0
ValidImagesHaveCores =
    (code : Code) (img : Image) (p : ℕ) (r : Registers) → IsValid code img → is_live (numbered img.states p) ≡ true → numbered img.regs p ≡ Some r → HasOne img p r

-- ---- in a frame

-- the core is at a place of these operators, at their level, and its words are these slots
pub record CoreAt (sc : Scopes) (known : List Known) (code : Code) (ps : List Placed) (level place : ℕ) (slots : List Slot) (core : Core) : Type 0 where
  pub segment : Segment
  pub there : slice_get code.segments core.registers.segment ≡ Some segment
  pub spells : Spells ps segment
  pub level_is : core.registers.ll ≡ level
  pub place_is : core.registers.place ≡ place
  pub is : IsCore core
  pub mark_is : core.registers.f ≡ newest (frame core.registers) (length core.below) slots
  pub words_are : SlotsAre sc known level (frame core.registers) (length core.below) slots core.words

-- the core is another one in the words above the floor and in S, F and the place of the pointer only
pub record IsMoved (a b : Core) : Type 0 where
  pub below : b.below ≡ a.below
  pub registers : b.registers ≡ record a.registers { s = b.registers.s; f = b.registers.f; place = b.registers.place }

-- the display names a frame at each level from the outer block's to this one
abbrev pub Sees : ℕ → Core → Type 0
Sees level core = (l : ℕ) → OUTER_LEVEL ≤ l → l ≤ level → IsSome (place_at core.registers.display l)

-- a reference to a cell that STFF makes, in a frame that the display names
pub record IsStuffed (sc : Scopes) (context : Context) (core : Core) (x : Known) : Type 0 where
  pub held : HeldWord
  pub couple : Couple
  pub frame : Place
  pub held_is : x.held ≡ held
  pub stuffable : Stuffable sc context held couple
  pub shown : place_at core.registers.display couple.level ≡ Some frame
  pub word_is : x.word ≡ cell_word (record { frame = frame; index = couple.index })

abbrev pub AreStuffed : Scopes → Context → Core → List Known → Type 0
AreStuffed sc context core [] = Unit {0}
AreStuffed sc context core (x ∷ known) = IsStuffed sc context core x × AreStuffed sc context core known

-- Private operators lead from the core to one at that place with those slots, at most as many as there are syllables between. More words
-- may be known then: references that STFF made.
pub record Arrives (sc : Scopes) (known : List Known) (context : Context) (code : Code) (ps : List Placed) (level most bound place : ℕ) (slots : List Slot) (a : Core) : Type 0 where
  pub count : ℕ
  pub core : Core
  pub steps : CoreSteps code bound count a core
  pub added : List Known
  pub added_are : AreStuffed sc context a added
  pub at : CoreAt sc (added ++ known) code ps level place slots core
  pub moved : IsMoved a core
  pub room : length slots ≤ most
  pub few : count + a.registers.place ≤ place

-- What a fragment of private operators does by the meaning of its words the machine does, in each core that stands so: where most slots
-- lie above the floor, its stack has the most words of the bound.
pub record FragmentsArePerformed : Type 0 where
  pub step : (sc : Scopes) (known : List Known) (context : Context) (code : Code) (ps : List Placed) (level most bound from to : ℕ) (x y : List Slot) (core : Core)
      → FragmentStep sc context ps level most from x to y → CoreAt sc known code ps level from x core → Sees context.level core → length x ≤ most → length core.below + most ≤ bound
      → Arrives sc known context code ps level most bound to y core
  pub leads : (sc : Scopes) (known : List Known) (context : Context) (code : Code) (ps : List Placed) (level most bound from to : ℕ) (x y : List Slot) (core : Core)
      → StepsLead sc context ps level most from x to y → CoreAt sc known code ps level from x core → Sees context.level core → length x ≤ most → length core.below + most ≤ bound
      → Arrives sc known context code ps level most bound to y core
  -- an operator of the language without a result is a fault
  pub fault : (sc : Scopes) (known : List Known) (code : Code) (ps : List Placed) (level from to : ℕ) (op : Op) (v w : Value) (fault : NumFault) (below : List Slot) (core : Core)
      → Has ps level from (ops.Plain (operator_for op)) to → HasKind (taken_by op) v → HasKind (taken_by op) w → result_of op v w ≡ Err fault
      → CoreAt sc known code ps level from (operand w ∷ operand (ready op v) ∷ below) core → CoreFaults code core (fault_of fault)

-- ---- the start of a block

abbrev pub control_words : List Pcw → List Word
control_words controls = map (λ (pcw : Pcw). pcw_word pcw) controls

-- Private operators lead to a core with so many cells more that are 0, and those of these control words, and no words above the floor.
pub record CoreBegins (sc : Scopes) (known : List Known) (code : Code) (ps : List Placed) (level bound many : ℕ) (controls : List Pcw) (place : ℕ) (a : Core) : Type 0 where
  pub count : ℕ
  pub core : Core
  pub steps : CoreSteps code bound count a core
  pub below : core.below ≡ a.below ++ (replicate many (words.operand (pos 0)) ++ control_words controls)
  pub registers : core.registers ≡ record a.registers { s = size core; f = frame a.registers; cells = a.registers.cells + (many + length controls); place = place }
  pub at : CoreAt sc known code ps level place [] core
  pub few : count + a.registers.place ≤ place

-- so do branches to them, the zeros of a block's variables, its control words, and PUSH, where the frame has room for the cells
abbrev pub BlocksBegin : Type 0
BlocksBegin =
    (sc : Scopes) (known : List Known) (context : Context) (code : Code) (ps : List Placed) (level bound many : ℕ) (controls : List Pcw) (from begin to : ℕ) (core : Core)
    → FragmentGoes ps level from begin → CellsAt sc context ps level many controls begin to → CoreAt sc known code ps level from [] core
    → core.registers.cells + (many + length controls) ≤ most_cells → length core.below + (many + length controls) ≤ bound
    → CoreBegins sc known code ps level bound many controls to core

-- ---- cells that are made later

-- the core is at a place of these operators, at their level
pub record CoreIsAt (code : Code) (ps : List Placed) (level place : ℕ) (core : Core) : Type 0 where
  pub segment : Segment
  pub there : slice_get code.segments core.registers.segment ≡ Some segment
  pub spells : Spells ps segment
  pub level_is : core.registers.ll ≡ level
  pub place_is : core.registers.place ≡ place
  pub is : IsCore core

-- One private operator leads to a core whose cells are those that there were, and all words above them.
pub record Becomes (sc : Scopes) (known : List Known) (code : Code) (ps : List Placed) (level bound place : ℕ) (a : Core) : Type 0 where
  pub core : Core
  pub steps : CoreSteps code bound 1 a core
  pub below : core.below ≡ a.below ++ reverse a.words
  pub registers : core.registers ≡ record a.registers { s = size core; f = frame a.registers; cells = a.registers.cells + length a.words; place = place }
  pub at : CoreAt sc known code ps level place [] core

-- so does PUSH where no mark lies above the cells, and the frame has room for them
abbrev pub CellsAreMade : Type 0
CellsAreMade =
    (sc : Scopes) (known : List Known) (code : Code) (ps : List Placed) (level bound from to : ℕ) (core : Core)
    → Has ps level from (ops.Plain kinds.Push) to → CoreIsAt code ps level from core → core.registers.f ≡ frame core.registers
    → core.registers.cells + length core.words ≤ most_cells → size core ≤ bound → Becomes sc known code ps level bound to core
