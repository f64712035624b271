-- What a core holds: stacks and rows as lists by their numbers from 0, with none where a number is not open. A stack's bottom stands first.
use Rattle.std.specs.Prelude.{◌≡◌, ℕ, zero, suc, ◌+◌, ◌≤◌, ◌&&◌, nat_lt, Bool, true, false, List, [], ◌∷◌, ◌++◌, length, take, drop, replicate, Option, Some, None, IsSome, slice_get, slice_set, pos, if◌then◌else◌}
use Rattle.std.specs.List.{sum_by}
use Rattle.b67_store.specs.declared.TheConstants.{MOST_STACK_WORDS, MOST_COUNTED_WORDS, MOST_ROWS}
use Rattle.b67_word.specs.declared.Place.{Place}
use Rattle.b67_word.specs.Word.{Word, operand}
use Rattle.b67_store.specs.declared.PushFault.{PushFault}
use Rattle.b67_store.specs.declared.PushFault.TheVariants as push
use Rattle.b67_store.specs.declared.OpenFault.{OpenFault}
use Rattle.b67_store.specs.declared.OpenFault.TheVariants as open_fault
use Rattle.b67_store.specs.declared.RowFault.{RowFault}
use Rattle.b67_store.specs.declared.RowFault.TheVariants as row_fault

-- ---- lists by number

-- what is open at a number
abbrev pub opened : {X : Type 0} → Option (Option X) → Option X
opened None = None
opened (Some x) = x

abbrev pub at_number : {X : Type 0} → List (Option X) → ℕ → Option X
at_number xs n = opened (slice_get xs n)

-- the list with x open at a number; where the list is shorter, none stands between
abbrev pub opened_at : {X : Type 0} → List (Option X) → ℕ → X → List (Option X)
opened_at [] zero x = Some x ∷ []
opened_at [] (suc n) x = None ∷ opened_at [] n x
opened_at (y ∷ ys) zero x = Some x ∷ ys
opened_at (y ∷ ys) (suc n) x = y ∷ opened_at ys n x

-- the list with none at a number
abbrev pub closed_at : {X : Type 0} → List (Option X) → ℕ → List (Option X)
closed_at xs n = slice_set xs n None

-- the least number that is not open
abbrev pub least_free : {X : Type 0} → List (Option X) → ℕ
least_free [] = 0
least_free (None ∷ xs) = 0
least_free (Some x ∷ xs) = suc (least_free xs)

-- ---- stacks

-- the most words that a stack has
abbrev pub stack_limit : ℕ
stack_limit = MOST_STACK_WORDS

abbrev pub Stacks : Type 0
Stacks = List (Option (List Word))

-- the words of a stack that is open
abbrev pub stack_at : Stacks → ℕ → Option (List Word)
stack_at stacks n = at_number stacks n

abbrev pub words_or : Option (List Word) → List Word
words_or None = []
words_or (Some words) = words

-- the words of a stack, none where it is not open
abbrev pub words_of : Stacks → ℕ → List Word
words_of stacks n = words_or (stack_at stacks n)

-- the word at a place
abbrev pub word_at : Stacks → Place → Option Word
word_at stacks place = slice_get (words_of stacks place.stack) place.at

-- the stacks with these words in one that is open
abbrev pub with_stack : Stacks → ℕ → List Word → Stacks
with_stack stacks n words = slice_set stacks n (Some words)

-- the stacks with another word at a place
abbrev pub with_word : Stacks → Place → Word → Stacks
with_word stacks place word = with_stack stacks place.stack (slice_set (words_of stacks place.stack) place.at word)

-- the stacks with a word more on one
abbrev pub with_push : Stacks → ℕ → Word → Stacks
with_push stacks n word = with_stack stacks n (words_of stacks n ++ word ∷ [])

-- the stacks with at most this many words on one
abbrev pub with_cut : Stacks → ℕ → ℕ → Stacks
with_cut stacks n count = with_stack stacks n (take count (words_of stacks n))

-- why a push fails: there is no such stack, or it is full
abbrev pub SlotFails : Option (List Word) → PushFault → Type 0
SlotFails stack push.NoSuchPlace = stack ≡ None
SlotFails stack push.StackLimit = IsSome stack × (length (words_or stack) ≡ stack_limit)

abbrev pub PushFails : Stacks → ℕ → PushFault → Type 0
PushFails stacks n fault = SlotFails (stack_at stacks n) fault

-- why a stack does not open: it is open, or there is no memory
abbrev pub OpenFails : Stacks → ℕ → OpenFault → Type 0
OpenFails stacks n open_fault.InUse = IsSome (stack_at stacks n)
OpenFails stacks n open_fault.NoMemory = stack_at stacks n ≡ None

-- room of a stack: the words that it holds, and whatever stands above them, at least so many words in all
pub record IsRoom (held : List Word) (least : ℕ) (room : List Word) : Type 0 where
  pub long : least ≤ length room
  pub within : length held ≤ length room
  pub size : length room ≤ stack_limit
  pub words : take (length held) room ≡ held

-- what is left in a room: these words, cut to its length or filled up from it
abbrev pub left_in : List Word → List Word → List Word
left_in room words = take (length room) (words ++ drop (length words) room)

-- ---- rows

-- the most words of all counted rows
abbrev pub count_limit : ℕ
count_limit = MOST_COUNTED_WORDS

-- rows have numbers below this one
abbrev pub row_limit : ℕ
row_limit = MOST_ROWS

-- a row of an array: its words, and whether they count as live elements
pub record Row : Type 0 where
  pub words : List Word
  pub counted : Bool

abbrev pub Rows : Type 0
Rows = List (Option Row)

-- a row that is open
abbrev pub row_at : Rows → ℕ → Option Row
row_at rows n = at_number rows n

abbrev pub row_words_or : Option Row → List Word
row_words_or None = []
row_words_or (Some row) = row.words

-- the words of a row, none where it is not open
abbrev pub row_words : Rows → ℕ → List Word
row_words rows n = row_words_or (row_at rows n)

-- the row with another word at a place of it
abbrev pub row_with : Option Row → ℕ → Word → Option Row
row_with None at word = None
row_with (Some row) at word = Some (record row { words = slice_set row.words at word })

-- the rows with another word at a place of one
abbrev pub with_row_word : Rows → ℕ → ℕ → Word → Rows
with_row_word rows n at word = slice_set rows n (row_with (row_at rows n) at word)

-- a row of operands 0
abbrev pub zero_row : ℕ → Bool → Row
zero_row count counted = record { words = replicate count (operand (pos 0)); counted = counted }

-- how many of a row's words count
abbrev pub live_words : Option Row → ℕ
live_words None = 0
live_words (Some row) = if row.counted then length row.words else 0

-- the number of words in all counted rows
abbrev pub counted_words : Rows → ℕ
counted_words rows = sum_by live_words rows

-- whether the counted words and a counted request exceed the limit
abbrev pub exceeds : Rows → ℕ → Bool → Bool
exceeds rows count counted = counted && nat_lt count_limit (counted_words rows + count)

-- why a row does not open: its words would be too many, or there is no memory or no number
abbrev pub RowFails : Rows → ℕ → Bool → RowFault → Type 0
RowFails rows count counted row_fault.CoreFull = exceeds rows count counted ≡ true
RowFails rows count counted row_fault.NoMemory = exceeds rows count counted ≡ false

-- ---- what a core holds

pub record Held : Type 0 where
  pub stacks : Stacks
  pub rows : Rows
