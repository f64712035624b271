-- What holds of every operator of every code, in every image.
use Rattle.std.specs.Prelude.{◌≡◌, ◌≢◌, ◌⊎◌, ℕ, ◌+◌, ◌≤◌, List, [], ◌∷◌, length, Some, Ok}
use Rattle.std.specs.Option.{option_map}
use Rattle.b67_list.specs.Numbered.{numbered}
use Rattle.b67_word.specs.declared.Place.{Place}
use Rattle.b67_control.specs.declared.Registers.{Registers}
use Rattle.b67_ops.specs.declared.Operator.{Operator}
use Rattle.b67_segment.specs.declared.code.Code.{Code}
use Rattle.b67_store.specs.Store.{word_at, row_at}
use Rattle.b67_deeds.specs.Events.{EventState, left_by}
use Rattle.b67_deeds.specs.Listed.{IsListed}
use Rattle.b67_events.specs.Events.{event_at, with_state}
use Rattle.b67_table.specs.declared.Cell.{Cell}
use Rattle.b67_table.specs.declared.ProcessState.TheVariants.{Able}
use Rattle.b67_table.specs.declared.Class.TheVariants.{Action}
use Rattle.b67_table.specs.Chains.{place}
use Rattle.b67_table.specs.References.{cell_place}
use Rattle.b67_table.specs.Effect.{gives}
use Rattle.b67_table.specs.Image.{Image, private_of}
use Rattle.b67_table.specs.Privacy.{ProcessStands}
use Rattle.b67_table.specs.Rows.{row}
use Rattle.b67_table.specs.Table.{raw, operator_at, class_at}
use Rattle.b67_table.specs.Touches.{IsPrivate}
use Rattle.b67_table.specs.Sound.{Lives, OperatorTouches}
use Rattle.b67_table.specs.Valid.{IsValid}
use Rattle.b67_footprints.specs.Reaching.{NamesCell, OperatorLeadsTo, OperatorReaches, ReachesRow, ReachesEvent}
use Rattle.b67_footprints.specs.Keeping.{NamesOperand, RowKeeps}

-- an operator asks and writes only what it may
abbrev pub OperatorsKeep : Type 0
OperatorsKeep = (code : Code) (img : Image) (p : ℕ) (r : Registers) (op : Operator) (here next : ℕ) → RowKeeps (row op here) code img op p r next

-- each word that it reads or writes it reaches, or it is one of the stack of the process that it starts
abbrev pub OperatorsTouchWhatTheyReach : Type 0
OperatorsTouchWhatTheyReach =
    (code : Code) (img : Image) (p : ℕ) (x : Place) (t : OperatorTouches code img p x) → OperatorReaches img t.op t.registers x ⊎ (x.stack ≡ img.started + 1)

-- ---- what is another's

-- the place is in the private part of no process but p
abbrev pub IsOfNoOther : Image → ℕ → Place → Type 0
IsOfNoOther img p x = (q : ℕ) (o : Registers) → Lives img q o → IsPrivate o x → p ≡ q

-- each process that lives has the stack of its number, and is one of those that were started
abbrev pub HaveOwnStacks : Image → Type 0
HaveOwnStacks img = (p : ℕ) (r : Registers) → Lives img p r → (r.stack ≡ p) × (p ≤ img.started)

-- so it is in each valid image
abbrev pub ValidHaveOwnStacks : Type 0
ValidHaveOwnStacks = (code : Code) (img : Image) → IsValid code img → HaveOwnStacks img

-- No cell that the operator names, and no mark to which it is led, with the place above it, is in the private part of a process but p.
pub record ReachesNoOther (img : Image) (p : ℕ) (op : Operator) (r : Registers) : Type 0 where
  pub cells : (c : Cell) → NamesCell img op r c → IsOfNoOther img p (cell_place c)
  pub marks : (f : Place) → OperatorLeadsTo img op r f → IsOfNoOther img p f × IsOfNoOther img p (place f.stack (f.at + 1))

-- So it is with the process's next operator, where it is an action: where references, the display and links lead to cells and frames below floors.
abbrev pub LeadsBelow : Code → Image → ℕ → Type 0
LeadsBelow code img p =
    (r : Registers) (op : Operator) (next : ℕ) → Lives img p r → operator_at code r ≡ Ok (op, next) → class_at op r.place ≡ Action → ReachesNoOther img p op r

-- then the process's next operator neither reads nor writes a word in the private part of another
abbrev pub OthersStayPrivate : Type 0
OthersStayPrivate =
    (code : Code) (img : Image) (p : ℕ) (x : Place) → HaveOwnStacks img → LeadsBelow code img p → OperatorTouches code img p x → IsOfNoOther img p x

-- and leaves its private part and its registers as they are: what it writes into that stack lies below the floor
abbrev pub PrivatePartsStay : Type 0
PrivatePartsStay =
    (code : Code) (img new : Image) (p q : ℕ) (o : Registers) → HaveOwnStacks img → LeadsBelow code img p → p ≢ q → ProcessStands img q o
    → raw code img p ≡ gives new → ProcessStands new q o × (private_of new o ≡ private_of img o)

-- ---- what is not reached

-- some processes do not wait for the event to happen any more
abbrev pub all_left_by : List ℕ → EventState → EventState
all_left_by [] e = e
all_left_by (p ∷ ps) e = all_left_by ps (left_by p e)

-- The event at a place is as it was, but that processes may have left it; each of them, of all that there have been but p, is able then.
pub record LeavesEvent (img new : Image) (p : ℕ) (x : Place) : Type 0 where
  pub left : List ℕ
  pub is : event_at x new.events ≡ option_map (with_state (all_left_by left)) (event_at x img.events)
  pub able : (k : ℕ) → IsListed left k → k ≢ p → 1 ≤ k → k ≤ length img.states → numbered new.states k ≡ Some Able

-- All that an operator leaves as it is, beside its own stack and the stack of the process that it starts: words but, where it
-- stores, for operands in cells that it names, rows and events that it does not reach, and the registers of others. Another
-- process that has been started is in the state in which it was, or it is able.
pub record LeavesTheRest (img new : Image) (p : ℕ) (op : Operator) (r : Registers) : Type 0 where
  pub words : (x : Place) → x.stack ≢ r.stack → x.stack ≢ img.started + 1 → (NamesOperand img op r x → ⊥) → word_at new.stacks x ≡ word_at img.stacks x
  pub rows : (n : ℕ) → (ReachesRow img op r n → ⊥) → row_at new.rows n ≡ row_at img.rows n
  pub events : (x : Place) → x.stack ≢ r.stack → (ReachesEvent img op r x → ⊥) → LeavesEvent img new p x
  pub registers : (q : ℕ) → q ≢ p → q ≤ length img.regs → numbered new.regs q ≡ numbered img.regs q
  pub states : (q : ℕ) → q ≢ p → q ≤ length img.states → (numbered new.states q ≡ numbered img.states q) ⊎ (numbered new.states q ≡ Some Able)

abbrev pub OperatorsLeaveTheRest : Type 0
OperatorsLeaveTheRest =
    (code : Code) (img new : Image) (p : ℕ) (r : Registers) (op : Operator) (next : ℕ) → Lives img p r → operator_at code r ≡ Ok (op, next) → raw code img p ≡ gives new
    → LeavesTheRest img new p op r
