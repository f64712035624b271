-- Some rows at work: a code of one segment, and what its first operators come to on the first image.
use Rattle.std.specs.Prelude.{◌≡◌, ℕ, zero, suc, true, List, [], ◌∷◌, Some}
use Rattle.b67_list.specs.Numbered.{numbered}
use Rattle.b67_num.specs.declared.FaultKind.TheVariants.{DivideByZero}
use Rattle.b67_control.specs.Control.{event_word}
use Rattle.b67_segment.specs.declared.code.Code.{Code}
use Rattle.b67_store.specs.Store.{word_at}
use Rattle.b67_events.specs.Events.{is_open}
use Rattle.b67_table.specs.declared.InterruptKind.TheVariants.{InvalidOperand, StackUnderflow}
use Rattle.b67_table.specs.declared.ProcessState.TheVariants.{Ended}
use Rattle.b67_table.specs.Outcome.{Outcome, gives, faults, interrupts, limit}
use Rattle.b67_table.specs.Chains.{place}
use Rattle.b67_table.specs.Image.{Image}
use Rattle.b67_table.specs.Table.{table}
use Rattle.b67_table.specs.Beginning.{first_image}

-- a code of one segment of these words
abbrev pub segment_of : List ℕ → Code
segment_of words = record { segments = record { words = words; marks = [] } ∷ []; formats = [] }

abbrev pub and_then : Outcome Image → (Image → Outcome Image) → Outcome Image
and_then (gives img) next = next img
and_then (faults kind) next = faults kind
and_then (interrupts kind) next = interrupts kind
and_then limit next = limit

-- what so many operators of process 1 come to, one after another
abbrev pub steps : Code → ℕ → Image → Outcome Image
steps code zero img = gives img
steps code (suc n) img = and_then (table code img 1) (λ (next : Image). steps code n next)

-- what process 1's first operators come to
abbrev pub ran : List ℕ → ℕ → Outcome Image
ran words n = steps (segment_of words) n first_image

pub record RowsAtWork : Type 0 where
  -- EXIT of the base frame ends the process
  pub exit : (img : Image) × (ran (0xa3fefefefefe ∷ []) 1 ≡ gives img) × (numbered img.states 1 ≡ Some Ended)
  -- ADD finds no word in the private part
  pub add : ran (0x80fefefefefe ∷ []) 1 ≡ interrupts StackUnderflow
  -- MPCW, LT8 1, ADD: a procedure's word is no whole number
  pub add_word : ran (0xbf0000000000 ∷ 0 ∷ 0xb20180fefefe ∷ []) 3 ≡ interrupts InvalidOperand
  -- ONE, ZERO, DIVD
  pub divide : ran (0xb1b084fefefe ∷ []) 3 ≡ faults DivideByZero
  -- MKST, NAMC 0,5, ENTR: the intrinsic leaves an event word where the mark stood, and opens an event there
  pub event : (img : Image) × (ran (0xae4005abfefe ∷ []) 3 ≡ gives img) × (word_at img.stacks (place 1 2) ≡ Some (event_word (record {})))
      × (is_open (place 1 2) img.events ≡ true)
