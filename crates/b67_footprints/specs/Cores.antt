-- What an operator leaves of the cores of other processes.
use Rattle.std.specs.Prelude.{◌≡◌, ◌≢◌, ℕ, ◌<◌, List, length, Some, Ok, slice_set}
use Rattle.b67_word.specs.declared.Place.{Place}
use Rattle.b67_word.specs.Word.{Word}
use Rattle.b67_control.specs.declared.Registers.{Registers}
use Rattle.b67_ops.specs.declared.Operator.{Operator}
use Rattle.b67_segment.specs.declared.code.Code.{Code}
use Rattle.b67_store.specs.Store.{word_at}
use Rattle.b67_table.specs.Chains.{place}
use Rattle.b67_table.specs.Effect.{gives}
use Rattle.b67_table.specs.Image.{Image}
use Rattle.b67_table.specs.Sound.{Lives}
use Rattle.b67_table.specs.Table.{raw, operator_at}
use Rattle.b67_cores.specs.Cores.{Core, over, HasCore}
use Rattle.b67_footprints.specs.Keeping.{NamesOperand}
use Rattle.b67_footprints.specs.Laws.{HaveOwnStacks, LeadsBelow}

-- where names lead below floors, what the process's next operator does to another's core it does to words below the floor
abbrev pub CoresStayAbove : Type 0
CoresStayAbove =
    (code : Code) (img new : Image) (p q : ℕ) (core : Core) → HaveOwnStacks img → LeadsBelow code img p → p ≢ q → HasCore img q core → raw code img p ≡ gives new
    → (lower : List Word) × HasCore new q (over lower core)

-- it leaves the core as it is, where it stores into no cell of that stack
abbrev pub CoresStay : Type 0
CoresStay =
    (code : Code) (img new : Image) (p q : ℕ) (core : Core) (r : Registers) (op : Operator) (next : ℕ) → HaveOwnStacks img → LeadsBelow code img p → p ≢ q → HasCore img q core
    → Lives img p r → operator_at code r ≡ Ok (op, next) → ((x : Place) → x.stack ≡ q → NamesOperand img op r x → ⊥) → raw code img p ≡ gives new → HasCore new q core

-- where it stores at one place of it only, below the floor, it leaves the core with the word that lies there then
abbrev pub CoresHoldStores : Type 0
CoresHoldStores =
    (code : Code) (img new : Image) (p q : ℕ) (core : Core) (r : Registers) (op : Operator) (next : ℕ) → HaveOwnStacks img → LeadsBelow code img p → p ≢ q → HasCore img q core
    → Lives img p r → operator_at code r ≡ Ok (op, next) → (at : ℕ) (w : Word) → ((x : Place) → x.stack ≡ q → NamesOperand img op r x → x.at ≡ at) → at < length core.below
    → word_at new.stacks (place q at) ≡ Some w → raw code img p ≡ gives new → HasCore new q (over (slice_set core.below at w) core)
