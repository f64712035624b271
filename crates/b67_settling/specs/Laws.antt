-- What holds of local entries.
use Rattle.std.specs.Prelude.{◌≡◌, ◌≢◌, ℕ, ◌≤◌, true, List, length, Some, None}
use Rattle.b67_list.specs.Numbered.{numbered}
use Rattle.b67_control.specs.declared.Registers.{Registers}
use Rattle.b67_segment.specs.declared.code.Code.{Code}
use Rattle.b67_store.specs.Store.{words_of}
use Rattle.b67_table.specs.declared.Private.{Private}
use Rattle.b67_table.specs.Beginning.{first_image}
use Rattle.b67_table.specs.Ending.{ImageEnd, image_end, may_act}
use Rattle.b67_table.specs.Image.{Image, private_of}
use Rattle.b67_table.specs.Outcome.{gives, limit}
use Rattle.b67_table.specs.Private.{floor}
use Rattle.b67_table.specs.Runs.{Plains, Runs, RunEntry, TableRun}
use Rattle.b67_table.specs.Sound.{Sound, Lives}
use Rattle.b67_table.specs.Table.{table, length_in}
use Rattle.b67_table.specs.Valid.{IsValid}
use Rattle.b67_private.specs.Parts.{PlainParts}
use Rattle.b67_settling.specs.Local.{NobodyDepends, StacksStayOwn, IsLocal, IsOwnEntry, Turns, ReadsCell, StoresCell}
use Rattle.b67_settling.specs.Settling.{Settles, Result, ResultIsAt, ImageComesTo}

-- ---- one local entry

-- p's entry leads to b, and q's to c. q may have its entry after p's too, and p its own after q's, which is local there and leads to the same image; or
-- q's entry ends the run, in the same way and with the same output before p's and after it.
pub data PassesLocally (code : Code) (p q : ℕ) (b c : Image) : Type 0 where
  both : {d : Image} {n m : ℕ} → RunEntry code q b m d → RunEntry code p c n d → IsLocal code c p → PassesLocally code p q b c
  ends : {d : Image} {m : ℕ} {e : ImageEnd} → RunEntry code q b m d → image_end c ≡ Some e → image_end d ≡ Some e → d.output ≡ c.output → PassesLocally code p q b c

-- q comes to the stack limit after p's entry as before it, with as many words on its stack
pub record StopsThere (code : Code) (q : ℕ) (quiet b : Image) : Type 0 where
  pub may : may_act b q ≡ true
  pub count : ℕ
  pub later : Image
  pub plains : Plains code q b count later
  pub at_limit : table code later q ≡ limit
  pub words : length_in (numbered later.regs q) ≡ length_in (numbered quiet.regs q)

-- In each image to which a run of sound code leads:
pub record LocalEntriesPass : Type 0 where
  -- a local entry ends no run, and writes no line
  pub goes_on : (code : Code) (a b : Image) (p n : ℕ) → IsLocal code a p → RunEntry code p a n b → (image_end b ≡ None) × (b.output ≡ a.output)
  pub entries : (code : Code) (h counts : List ℕ) (a b c : Image) (p q n m : ℕ) → Sound code → Runs code h counts a → IsLocal code a p → p ≢ q
      → RunEntry code p a n b → RunEntry code q a m c → PassesLocally code p q b c
  pub stops : (code : Code) (h counts : List ℕ) (a b quiet : Image) (p q n m : ℕ) → Sound code → Runs code h counts a → IsLocal code a p → p ≢ q
      → RunEntry code p a n b → may_act a q ≡ true → Plains code q a m quiet → table code quiet q ≡ limit → StopsThere code q quiet b

-- ---- which entries are local

-- those in valid images whose actions ask and write only above the floor
abbrev pub OwnEntriesAreLocal : Type 0
OwnEntriesAreLocal = (code : Code) (a : Image) (p : ℕ) (r : Registers) → IsOwnEntry code a p r (floor r) → IsLocal code a p

-- where stacks stay own, those of a process on whose stack nobody depends, whose actions ask and write only that stack
abbrev pub StackEntriesAreLocal : Type 0
StackEntriesAreLocal =
    (code : Code) (a : Image) (p : ℕ) (r : Registers) → StacksStayOwn code → NobodyDepends a r.stack → IsOwnEntry code a p r 0 → IsLocal code a p

-- where, besides, the process's private part comes by plain operators to the reading of a cell there, or to a store
abbrev pub CellsAreLocal : (Code → Image → Registers → Private → Type 0) → Type 0
CellsAreLocal Accesses =
    (code : Code) (a : Image) (p n : ℕ) (r : Registers) (part : Private) → IsValid code a → may_act a p ≡ true → numbered a.regs p ≡ Some r
    → StacksStayOwn code → NobodyDepends a r.stack → PlainParts code (private_of a r) n part → Accesses code a r part → IsLocal code a p

abbrev pub ReadsAreLocal : Type 0
ReadsAreLocal = CellsAreLocal ReadsCell

abbrev pub StoresAreLocal : Type 0
StoresAreLocal = CellsAreLocal StoresCell

-- where a process's private part comes by plain operators to a branch that does not go forward
abbrev pub TurnsAreLocal : Type 0
TurnsAreLocal =
    (code : Code) (a : Image) (p n : ℕ) (r : Registers) (part : Private) → IsValid code a → may_act a p ≡ true → numbered a.regs p ≡ Some r
    → PlainParts code (private_of a r) n part → Turns code part → IsLocal code a p

-- ---- stacks that stay own

-- The process has these registers still, and its stack the words that it had, and still nobody depends on that.
pub record LeavesStack (p : ℕ) (r : Registers) (old new : Image) : Type 0 where
  pub registers : numbered new.regs p ≡ Some r
  pub words : words_of new.stacks r.stack ≡ words_of old.stacks r.stack
  pub nobody : NobodyDepends new r.stack

-- In each valid image to which a run leads, of a code whose stacks stay own, every operator of another leaves so a process on whose stack nobody depends.
abbrev pub OthersLeaveStacks : Type 0
OthersLeaveStacks =
    (code : Code) (schedule tails : List ℕ) (a b : Image) (p q : ℕ) (r : Registers) → StacksStayOwn code → TableRun code schedule tails a → IsValid code a
    → Lives a p r → NobodyDepends a r.stack → q ≢ p → table code a q ≡ gives b → LeavesStack p r a b

-- ---- many entries

-- What comes of an image comes of the one to which it settles, by no more entries.
abbrev pub Settled : Type 0
Settled =
    (code : Code) (h counts l s : List ℕ) (a b : Image) (o : Result) → Sound code → Runs code h counts a → Settles code a l b → ImageComesTo code o a s
    → (t : List ℕ) × (length t ≤ length s) × ImageComesTo code o b t

-- What a run comes to comes of the first image.
abbrev pub RunsComeTo : Type 0
RunsComeTo =
    (code : Code) (h counts : List ℕ) (a : Image) (o : Result) → Runs code h counts a → ResultIsAt code a o → (s : List ℕ) × ImageComesTo code o first_image s

-- the image settles to a kept one
pub record SettlesToKept (code : Code) (Kept : Image → Type 0) (a : Image) : Type 0 where
  pub local : List ℕ
  pub image : Image
  pub settles : Settles code a local image
  pub kept : Kept image

-- the result is that of a kept image
pub record IsOfKept (code : Code) (Kept : Image → Type 0) (o : Result) : Type 0 where
  pub image : Image
  pub kept : Kept image
  pub at : ResultIsAt code image o

-- Where each entry of a kept image leads to one that settles to a kept one, all that comes of a kept image is that of a kept image.
abbrev pub KeptAreEnough : Type 1
KeptAreEnough =
    (code : Code) (Kept : Image → Type 0) → Sound code → ((a : Image) → Kept a → (h counts : List ℕ) × Runs code h counts a)
    → ((a b : Image) (p n : ℕ) → Kept a → RunEntry code p a n b → SettlesToKept code Kept b)
    → (a : Image) (o : Result) (s : List ℕ) → Kept a → ImageComesTo code o a s → IsOfKept code Kept o
