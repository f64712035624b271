-- What a record is.
use Rattle.std.specs.Prelude.{ℕ, ◌-◌, ◌&&◌, nat_le, if◌then◌else◌, List, [], ◌∷◌, map, length, take, drop, codes, Option, Some, None}
use Rattle.std.specs.List.{flat_map}
use Rattle.std.specs.Str.{bytes_eq}
use Rattle.b67_ops.specs.declared.TheConstants.{OUTER_LEVEL, MOST_LEVEL}
use Rattle.b67_ops.specs.declared.Operator.TheVariants as ops
use Rattle.b67_ops.specs.declared.table.OperatorKind.{OperatorKind}
use Rattle.b67_ops.specs.declared.table.OperatorKind.TheVariants as kinds
use Rattle.b67_segment.specs.declared.code.Phrase.{Phrase}
use Rattle.b67_segment.specs.declared.code.Format.{Format as Form}
use Rattle.b67_asm_text.specs.declared.item.Written.{Written}
use Rattle.b67_asm_text.specs.declared.item.Written.TheVariants.{Whole}
use Rattle.b67_asm_text.specs.declared.item.Reading.{Reading}
use Rattle.b67_asm_text.specs.declared.item.Reading.TheVariants.{Blank, NoItem, Segment, Level, Label, Operator, Format}
use Rattle.b67_asm_text.specs.Records.{after_word, code_part, first_word, records, unblanked}
use Rattle.b67_asm_text.specs.Numbers.{number_in}
use Rattle.b67_asm_text.specs.Names.{can_name}
use Rattle.b67_asm_text.specs.Mnemonics.{kind_named}
use Rattle.b67_asm_text.specs.Operands.{written_in}
use Rattle.b67_asm_text.specs.Phrases.{are_in_range, phrases_in}

-- a word but for its last byte, and that byte
abbrev pub front : List ℕ → List ℕ
front word = take (length word - 1) word

abbrev pub last : List ℕ → List ℕ
last word = drop (length word - 1) word

-- the name before a colon
abbrev pub label_in : List ℕ → Option (List ℕ)
label_in word = if bytes_eq (last word) (codes ":") && can_name (front word) then Some (front word) else None

-- an operator without an operand
abbrev pub plain_item : Option OperatorKind → Reading
plain_item (Some (kinds.Plain kind)) = Operator (Whole (ops.Plain kind))
plain_item _ = NoItem

abbrev pub labelled : Option (List ℕ) → List ℕ → Reading
labelled (Some name) word = Label name
labelled None word = plain_item (kind_named word)

-- the item of one word
unfoldable pub alone : List ℕ → Reading
alone word = if bytes_eq word (codes "SEGMENT") then Segment else labelled (label_in word) word

-- a level, from the outer block's to the deepest
abbrev pub level_item : Option ℕ → Reading
level_item None = NoItem
level_item (Some level) = if nat_le OUTER_LEVEL level && nat_le level MOST_LEVEL then Level level else NoItem

abbrev pub written_item : Option Written → Reading
written_item None = NoItem
written_item (Some written) = Operator written

-- an operator with an operand
abbrev pub operator_item : Option OperatorKind → List ℕ → Reading
operator_item None operand = NoItem
operator_item (Some kind) operand = written_item (written_in kind operand)

-- the item of a word and its operand
unfoldable pub with_operand : List ℕ → List ℕ → Reading
with_operand word operand = if bytes_eq word (codes "LEVEL") then level_item (number_in operand) else operator_item (kind_named word) operand

-- the item of a word, its operand and what stands after it
abbrev pub item_of : List ℕ → List ℕ → List ℕ → Reading
item_of word [] more = alone word
item_of word (byte ∷ operand) [] = with_operand word (byte ∷ operand)
item_of word (byte ∷ operand) (other ∷ more) = NoItem

abbrev pub item_in : List ℕ → Reading
item_in text = item_of (first_word text) (first_word (after_word text)) (unblanked (after_word (after_word text)))

-- phrases of a format, or else an item of words
abbrev pub format_or : Option (List Phrase) → List ℕ → Reading
format_or (Some phrases) text = Format (are_in_range phrases)
format_or None text = item_in text

abbrev pub reading_of : List ℕ → Reading
reading_of [] = Blank
reading_of (byte ∷ text) = format_or (phrases_in (byte ∷ text)) (byte ∷ text)

-- what a record is
unfoldable pub record_reading : List ℕ → Reading
record_reading bytes = reading_of (unblanked (code_part bytes))

-- the format that a record is, if it is one
abbrev pub format_from : Option (List Phrase) → List Form
format_from None = []
format_from (Some phrases) = record { phrases = phrases } ∷ []

unfoldable pub format_of : List ℕ → List Form
format_of bytes = format_from (phrases_in (unblanked (code_part bytes)))

-- what the records of a text are, in their order, and its formats
abbrev pub readings : List ℕ → List Reading
readings bytes = map record_reading (records bytes)

abbrev pub formats : List ℕ → List Form
formats bytes = flat_map format_of (records bytes)
