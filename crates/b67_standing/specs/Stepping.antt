-- What private operators do to the words above the floor of a frame, by what those words mean.
use Rattle.std.specs.Prelude.{◌≡◌, ℕ, ◌+◌, ◌<◌, ◌≤◌, not, ℤ, pos, ◌-ℤ◌, int_lt, if◌then◌else◌, Bool, true, false, List, ◌∷◌, length, Ok}
use Rattle.algol_tree.specs.declared.tree.Op.{Op}
use Rattle.algol_tree.specs.declared.tree.Kind.{Kind}
use Rattle.algol_tree.specs.declared.tree.Named.{Named}
use Rattle.algol_tree.specs.Plain.{PExpr}
use Rattle.algol_tree.specs.Types.{taken_by}
use Rattle.algol_tree.specs.Scopes.{Scopes}
use Rattle.b67_num.specs.Whole.{negation_of}
use Rattle.algol_meaning.specs.Value.{Value, number, truth, truth_of, Reference, Cell}
use Rattle.algol_meaning.specs.Rest as places
use Rattle.algol_meaning.specs.Rest.{Place}
use Rattle.algol_paths.specs.Arrays.{DeclaredArray}
use Rattle.algol_meaning.specs.Operators.{result_of}
use Rattle.algol_meaning.specs.Statements.{is_past}
use Rattle.b67_ops.specs.declared.Couple.{Couple}
use Rattle.b67_ops.specs.declared.TheConstants.{OUTER_LEVEL}
use Rattle.b67_ops.specs.declared.Operator.TheVariants as ops
use Rattle.b67_ops.specs.declared.PlainKind.TheVariants as kinds
use Rattle.b67_ops.specs.declared.BranchKind.TheVariants.{Brfl, Brtr, Brun}
use Rattle.b67_control.specs.declared.Pcw.{Pcw}
use Rattle.b67_ops.specs.declared.intrinsic.Intrinsic.{Intrinsic}
use Rattle.b67_segment.specs.Operators.{Placed}
use Rattle.b67_templates.specs.Contexts.{Context}
use Rattle.b67_templates.specs.Fragments.{IsWholeNumber, HasKind, Has, NumberAt, moved_number, MovedAt, BranchAt, IntrinsicAt, EntryAt, code_at, operator_for, is_implication, truth_literal}
use Rattle.b67_templates.specs.Cells.{Wanted, IsVariable, IsDeclaredArray, IsDeclaredEvent, IsOwnActual}
use Rattle.b67_templates.specs.Code.{BegunAt, CountAt, PastAt, StepSign, SignedAt}

-- What a word on the stack stands for, where that is known of the world: the copy of a row's descriptor, of the array that a name means
-- here; that of an element of this kind; the reference of a variable of this kind, as EVAL leaves it; the reference to the cell that a name
-- means here, or to that of an actual of this kind that stands here, as STFF makes it; what the cell of a parameter of which that is wanted
-- has, as LODT copies it.
pub data HeldWord : Type 0 where
  row : Named → List ℕ → HeldWord
  element : Reference → List ℕ → Kind → HeldWord
  variable : Reference → Kind → HeldWord
  cell_named : Named → HeldWord
  actual : PExpr → Kind → HeldWord
  passed : Wanted → Cell → HeldWord

-- a place that an action found: not a variable that the part names
abbrev pub PlaceIsFound : Place → Type 0
PlaceIsFound (places.own n) = ⊥
PlaceIsFound _ = Unit {0}

-- what the word of such a place stands for
abbrev pub held_at : Place → Kind → HeldWord
held_at (places.own n) kind = cell_named n
held_at (places.there r) kind = variable r kind
held_at (places.element_of r ks) kind = element r ks kind

-- a word above the floor
pub data Slot : Type 0 where
  operand : Value → Slot
  reference : Couple → Slot  -- of a cell
  intrinsic : Intrinsic → Slot  -- of an intrinsic
  control : Pcw → Slot  -- of code that is entered
  descriptor : HeldWord → Slot  -- a descriptor, or a reference that is read alike everywhere
  mark : Slot  -- one that is not entered

-- At the text of this context the couple is that of a cell to which STFF makes a reference that is read alike everywhere, which stands for this.
pub data Stuffable (sc : Scopes) (context : Context) : HeldWord → Couple → Type 0 where
  of_array : (n : Named) (d : DeclaredArray) (c : Couple) → IsDeclaredArray sc context.level n d c → Stuffable sc context (cell_named n) c
  of_variable : (n : Named) (k : Kind) (c : Couple) → IsVariable sc context.level n k c → OUTER_LEVEL ≤ c.level → Stuffable sc context (cell_named n) c
  of_event : (n : Named) (c : Couple) → IsDeclaredEvent sc context.level n c → Stuffable sc context (cell_named n) c
  of_actual : (e : PExpr) (k : Kind) (c : Couple) → IsOwnActual sc context.block context.level e k c → Stuffable sc context (actual e k) c

-- the first operand of an operator as its code has it: of an implication it is inverted
abbrev pub ready : Op → Value → Value
ready op v = if is_implication op then truth (not (truth_of v)) else v

-- at most so many words may lie there
abbrev pub SlotsHaveRoom : ℕ → List Slot → ℕ → Type 0
SlotsHaveRoom most below wanted = length below + wanted ≤ most

module _ (sc : Scopes) (context : Context) (ps : List Placed) (level most : ℕ) where
  -- a fragment of private operators, and what lies there before and after it, the top first
  pub data FragmentStep : ℕ → List Slot → ℕ → List Slot → Type 0 where
    push_number : {pc next : ℕ} {below : List Slot} (z : ℤ) → NumberAt ps level z pc next → SlotsHaveRoom most below 1 → FragmentStep pc below next (operand (number z) ∷ below)
    push_truth : {pc next : ℕ} {below : List Slot} (b : Bool) → Has ps level pc (ops.Plain (truth_literal b)) next → SlotsHaveRoom most below 1 → FragmentStep pc below next (operand (truth b) ∷ below)
    push_reference : {pc next : ℕ} {below : List Slot} (c : Couple) → Has ps level pc (ops.Namc c) next → SlotsHaveRoom most below 1 → FragmentStep pc below next (reference c ∷ below)
    -- one that NAMC before it pushed becomes one that is read alike everywhere
    stuff : {from pc next : ℕ} {below : List Slot} (held : HeldWord) (c : Couple) → Stuffable sc context held c → Has ps level from (ops.Namc c) pc →
        Has ps level pc (ops.Plain kinds.Stff) next → FragmentStep pc (reference c ∷ below) next (descriptor held ∷ below)
    -- a subscript is moved by a lower bound, which takes code where that is not 0
    move : {pc next : ℕ} {below : List Slot} (low i : ℤ) → MovedAt ps level low pc next → IsWholeNumber i → SlotsHaveRoom most below 4 → pc < next →
        FragmentStep pc (operand (number i) ∷ below) next (operand (number (moved_number low i)) ∷ below)
    -- .. and the descriptor of its row comes on top
    exchange : {pc next : ℕ} {below : List Slot} (v : Value) (h : HeldWord) → Has ps level pc (ops.Plain kinds.Exch) next → FragmentStep pc (operand v ∷ descriptor h ∷ below) next (descriptor h ∷ operand v ∷ below)
    calculate : {pc next : ℕ} {below : List Slot} (op : Op) (v w x : Value) → Has ps level pc (ops.Plain (operator_for op)) next → HasKind (taken_by op) v → HasKind (taken_by op) w →
        result_of op v w ≡ Ok x → FragmentStep pc (operand w ∷ operand (ready op v) ∷ below) next (operand x ∷ below)
    negate : {pc next : ℕ} {below : List Slot} (z : ℤ) → Has ps level pc (ops.Plain kinds.Chsn) next → IsWholeNumber z →
        FragmentStep pc (operand (number z) ∷ below) next (operand (number (negation_of z)) ∷ below)
    invert : {pc next : ℕ} {below : List Slot} (b : Bool) → Has ps level pc (ops.Plain kinds.Lnot) next → FragmentStep pc (operand (truth b) ∷ below) next (operand (truth (not b)) ∷ below)
    -- branches by a truth value
    false_stays : {pc target next : ℕ} {below : List Slot} → BranchAt ps level Brfl pc target next → FragmentStep pc (operand (truth true) ∷ below) next below
    false_goes : {pc target next : ℕ} {below : List Slot} → BranchAt ps level Brfl pc target next → FragmentStep pc (operand (truth false) ∷ below) target below
    true_stays : {pc target next : ℕ} {below : List Slot} → BranchAt ps level Brtr pc target next → FragmentStep pc (operand (truth false) ∷ below) next below
    true_goes : {pc target next : ℕ} {below : List Slot} → BranchAt ps level Brtr pc target next → FragmentStep pc (operand (truth true) ∷ below) target below
    go : {pc target next : ℕ} {below : List Slot} → BranchAt ps level Brun pc target next → FragmentStep pc below target below
    -- the start of a call of an intrinsic
    call : {pc next : ℕ} {below : List Slot} (name : Intrinsic) → IntrinsicAt ps level name pc next → SlotsHaveRoom most below 2 → FragmentStep pc below next (intrinsic name ∷ mark ∷ below)
    -- the start of the entry of a block
    announce : {pc to : ℕ} {below : List Slot} (begin : ℕ) → (e : EntryAt ps level context.segment begin pc to) → SlotsHaveRoom most below 2 →
        FragmentStep pc below e.named (control (code_at context.segment begin (level + 1)) ∷ mark ∷ below)
    -- the start of the call of a procedure
    summon : {pc next : ℕ} {below : List Slot} (n : Named) (callee : ℕ) → (c : BegunAt sc context ps level n callee pc next) → SlotsHaveRoom most below 2 →
        FragmentStep pc below next (reference c.couple ∷ mark ∷ below)
    drop : {pc next : ℕ} {below : List Slot} (v : Value) → Has ps level pc (ops.Plain kinds.Dlet) next → FragmentStep pc (operand v ∷ below) next below
    -- THRU: one less, or none left
    counts : {pc l next : ℕ} {below : List Slot} (z : ℤ) → CountAt sc context ps level pc l next → IsWholeNumber z → int_lt (pos 0) z ≡ true → SlotsHaveRoom most below 3 →
        FragmentStep pc (operand (number z) ∷ below) next (operand (number (z -ℤ pos 1)) ∷ below)
    spent : {pc l next : ℕ} {below : List Slot} (z : ℤ) → CountAt sc context ps level pc l next → IsWholeNumber z → int_lt (pos 0) z ≡ false → SlotsHaveRoom most below 3 →
        FragmentStep pc (operand (number z) ∷ below) l (operand (number z) ∷ below)
    -- FOR: not yet past its limit, or past it
    within : {pc u next : ℕ} {below : List Slot} (d z : ℤ) → PastAt sc context ps level pc u next → IsWholeNumber d → IsWholeNumber z → is_past d z ≡ false → SlotsHaveRoom most below 4 →
        FragmentStep pc (operand (number z) ∷ operand (number d) ∷ below) next below
    past : {pc u next : ℕ} {below : List Slot} (d z : ℤ) → PastAt sc context ps level pc u next → IsWholeNumber d → IsWholeNumber z → is_past d z ≡ true → SlotsHaveRoom most below 4 →
        FragmentStep pc (operand (number z) ∷ operand (number d) ∷ below) u below
    within_literal : {pc next : ℕ} {below : List Slot} (u : ℕ) (d z : ℤ) (s : StepSign z) → SignedAt sc context ps level s pc u next → IsWholeNumber d → is_past d z ≡ false → SlotsHaveRoom most below 2 →
        FragmentStep pc (operand (number d) ∷ below) next below
    past_literal : {pc u : ℕ} {below : List Slot} (next : ℕ) (d z : ℤ) (s : StepSign z) → SignedAt sc context ps level s pc u next → IsWholeNumber d → is_past d z ≡ true → SlotsHaveRoom most below 2 →
        FragmentStep pc (operand (number d) ∷ below) u below

  -- such fragments one after another
  pub data StepsLead : ℕ → List Slot → ℕ → List Slot → Type 0 where
    there : {pc : ℕ} {slots : List Slot} → StepsLead pc slots pc slots
    first : {a b c : ℕ} {x y z : List Slot} → FragmentStep a x b y → StepsLead b y c z → StepsLead a x c z
