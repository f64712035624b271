-- A flat memory: which words each row has, and which span.
use Rattle.std.specs.Prelude.{◌≡◌, ℕ, ◌+◌, ◌≤◌, ◌++◌, List, length, map, take, drop, replicate, pos, Option, Some, None, option_map}
use Rattle.b67_word.specs.Word.{Word, operand}
use Rattle.b67_store.specs.Store.{at_number, Stacks, Row, Rows, zero_row, live_words}
use Rattle.b67_flat.specs.declared.Span.{Span}
use Rattle.b67_flat.specs.declared.row_table.HeldRow.{HeldRow}
use Rattle.b67_flat.specs.declared.memory.TheConstants.{MOST_WORDS}
use Rattle.b67_flat.specs.Spans.{Ascend, end_after, IsOneOf}

-- the words and the spans
pub record Memory : Type 0 where
  pub words : List Word
  pub spans : List Span

abbrev pub memory_of : List Word → List Span → Memory
memory_of words spans = record { words = words; spans = spans }

-- the spans stand in order within the words, of which at most so many belong to them
abbrev pub IsMemory : Memory → Type 0
IsMemory memory = Ascend 0 memory.spans × (end_after 0 memory.spans ≤ length memory.words) × (end_after 0 memory.spans ≤ MOST_WORDS)

-- words with so many operands 0 after them
abbrev pub lengthened : List Word → ℕ → List Word
lengthened words count = words ++ replicate count (operand (pos 0))

-- words with others in their place from one on
abbrev pub pasted : List Word → ℕ → List Word → List Word
pasted words place others = take place words ++ (others ++ drop (place + length others) words)

-- words with operands 0 at so many places from one on
abbrev pub zeroed : List Word → ℕ → ℕ → List Word
zeroed words place count = pasted words place (replicate count (operand (pos 0)))

-- so many words from a place on
abbrev pub words_at : List Word → ℕ → ℕ → List Word
words_at words place count = take count (drop place words)

-- ---- what the rows have

abbrev pub row_in : List Word → HeldRow → Row
row_in words held = record { words = words_at words held.place held.length; counted = held.counted }

abbrev pub rows_in : List Word → List (Option HeldRow) → Rows
rows_in words rows = map (option_map (row_in words)) rows

-- the rows with operands 0 for words, of which as many count
abbrev pub bare : HeldRow → Row
bare held = zero_row held.length held.counted

abbrev pub bare_rows : List (Option HeldRow) → Rows
bare_rows rows = map (option_map bare) rows

-- how many of a row's words count
abbrev pub live_in : Option HeldRow → ℕ
live_in held = live_words (option_map bare held)

-- ---- their spans

abbrev pub span_of_row : ℕ → HeldRow → Span
span_of_row number held = record { place = held.place; length = held.length; row = number }

-- the span of the row that is open at a number
abbrev pub IsHeld : List (Option HeldRow) → ℕ → Span → Type 0
IsHeld rows number span = (held : HeldRow) × (at_number rows number ≡ Some held) × (span ≡ span_of_row number held)

-- there is one span for each open row, and no other
pub record AreSpans (spans : List Span) (rows : List (Option HeldRow)) : Type 0 where
  pub of_rows : (number : ℕ) (held : HeldRow) → at_number rows number ≡ Some held → IsOneOf (span_of_row number held) spans
  pub no_other : (span : Span) → IsOneOf span spans → IsHeld rows span.row span

-- ---- what a flat core holds

pub record Flat : Type 0 where
  pub memory : Memory
  pub stacks : Stacks
  pub rows : List (Option HeldRow)

abbrev pub rows_of : Flat → Rows
rows_of core = rows_in core.memory.words core.rows

-- the place at which the span of a row begins
abbrev pub place_of_row : Option HeldRow → ℕ
place_of_row None = 0
place_of_row (Some held) = held.place
