-- The levels that lines have are those of blocks; and how many lines a text has.
use Rattle.std.proofs.Common.{◌≡◌, ℕ, zero, suc, ◌+◌, ◌-◌, ◌<◌, ◌≤◌, ◌^◌, List, [], ◌∷◌, length, get_or, map, Option, Some, None, refl, sym, subst, arith}
use Rattle.std.specs.Prelude.{◌&&◌, codes, nat_le}
use Rattle.std.specs.Str.{bytes_eq}
use Rattle.std.specs.List.{onto_first}
use Rattle.std.proofs.lemmas.Bool.{and_parts, cond_both, leb-true}
use Rattle.std.proofs.lemmas.List.{length-map}
use Rattle.b67_ops.specs.declared.table.OperatorKind.{OperatorKind}
use Rattle.b67_ops.specs.declared.table.OperatorKind.TheVariants as kinds
use Rattle.b67_segment.specs.declared.code.Phrase.{Phrase}
use Rattle.b67_asm_text.specs.declared.item.Written.{Written}
use Rattle.b67_ops.specs.declared.TheConstants.{OUTER_LEVEL, MOST_LEVEL}
use Rattle.b67_asm_text.specs.declared.item.Reading.{Reading}
use Rattle.b67_asm_text.specs.declared.item.Reading.TheVariants.{NoItem, Segment, Level}
use Rattle.b67_asm_text.specs.Records.{after_word, code_part, first_word, is_line_feed, records, unblanked}
use Rattle.b67_asm_text.specs.Mnemonics.{kind_named}
use Rattle.b67_asm_text.specs.Numbers.{number_in}
use Rattle.b67_asm_text.specs.Operands.{written_in}
use Rattle.b67_asm_text.specs.Phrases.{phrases_in}
use Rattle.b67_asm_text.specs.Items.{alone, format_or, item_of, label_in, labelled, level_item, operator_item, plain_item, record_reading, reading_of, readings, with_operand, written_item}
use Rattle.b67_asm.specs.Steps.{HasBlockLevel, HaveBlockLevels}

level_has : (number : Option ℕ) → HasBlockLevel (level_item number)
level_has None = tt
level_has (Some level) =
    cond_both (nat_le OUTER_LEVEL level && nat_le level MOST_LEVEL) (Level level) NoItem HasBlockLevel
    (λ e. let p = and_parts (nat_le OUTER_LEVEL level) (nat_le level MOST_LEVEL) e in (leb-true OUTER_LEVEL level p.0, leb-true level MOST_LEVEL p.1))
    (λ e. tt)

plain_has : (kind : Option OperatorKind) → HasBlockLevel (plain_item kind)
plain_has None = tt
plain_has (Some kinds.Valc) = tt
plain_has (Some kinds.Namc) = tt
plain_has (Some kinds.Lt8) = tt
plain_has (Some kinds.Lt16) = tt
plain_has (Some kinds.Lt48) = tt
plain_has (Some kinds.Mpcw) = tt
plain_has (Some (kinds.Branch kind)) = tt
plain_has (Some (kinds.Plain kind)) = tt

labelled_has : (name : Option (List ℕ)) (word : List ℕ) → HasBlockLevel (labelled name word)
labelled_has (Some name) word = tt
labelled_has None word = plain_has (kind_named word)

alone_has : (word : List ℕ) → HasBlockLevel (alone word)
unfolding alone
alone_has word = cond_both (bytes_eq word (codes "SEGMENT")) Segment (labelled (label_in word) word) HasBlockLevel (λ e. tt) (λ e. labelled_has (label_in word) word)

written_has : (written : Option Written) → HasBlockLevel (written_item written)
written_has None = tt
written_has (Some written) = tt

operator_has : (kind : Option OperatorKind) (operand : List ℕ) → HasBlockLevel (operator_item kind operand)
operator_has None operand = tt
operator_has (Some kind) operand = written_has (written_in kind operand)

operand_has : (word operand : List ℕ) → HasBlockLevel (with_operand word operand)
unfolding with_operand
operand_has word operand =
    cond_both (bytes_eq word (codes "LEVEL")) (level_item (number_in operand)) (operator_item (kind_named word) operand) HasBlockLevel
    (λ e. level_has (number_in operand))
    (λ e. operator_has (kind_named word) operand)

item_has : (word operand more : List ℕ) → HasBlockLevel (item_of word operand more)
item_has word [] more = alone_has word
item_has word (byte ∷ operand) [] = operand_has word (byte ∷ operand)
item_has word (byte ∷ operand) (other ∷ more) = tt

format_has : (phrases : Option (List Phrase)) (text : List ℕ) → HasBlockLevel (format_or phrases text)
format_has (Some phrases) text = tt
format_has None text = item_has (first_word text) (first_word (after_word text)) (unblanked (after_word (after_word text)))

text_has : (text : List ℕ) → HasBlockLevel (reading_of text)
text_has [] = tt
text_has (byte ∷ text) = format_has (phrases_in (byte ∷ text)) (byte ∷ text)

reading_has : (bytes : List ℕ) → HasBlockLevel (record_reading bytes)
unfolding record_reading
reading_has bytes = text_has (unblanked (code_part bytes))

all_have : (lines : List (List ℕ)) → HaveBlockLevels (map record_reading lines)
all_have [] = tt
all_have (line ∷ lines) = (reading_has line, all_have lines)

pub levels_known : (bytes : List ℕ) → HaveBlockLevels (readings bytes)
levels_known bytes = all_have (records bytes)

-- ---- how many lines

begun_more : (x : ℕ) (parts : List (List ℕ)) → 1 ≤ length parts → length (onto_first x parts) ≡ length parts
begun_more x [] h = absurd (omega arith)
begun_more x (part ∷ parts) h = refl

some_few : (bytes : List ℕ) → (1 ≤ length (records bytes)) × (length (records bytes) ≤ length bytes + 1)
some_few [] = (omega arith, omega arith)
some_few (x ∷ xs) =
    let h = some_few xs in
    let same = begun_more x (records xs) h.0 in
    cond_both (is_line_feed x) ([] ∷ records xs) (onto_first x (records xs)) (λ (parts : List (List ℕ)). (1 ≤ length parts) × (length parts ≤ length (x ∷ xs) + 1))
    (λ e. (omega (arith, h.0, h.1), omega (arith, h.0, h.1)))
    (λ e. (omega (arith, h.0, same), omega (arith, h.1, same)))

pub lines_few : (bytes : List ℕ) → length bytes < 2 ^ 32 - 1 → length (readings bytes) < 2 ^ 32
lines_few bytes few = omega (arith, length-map (records bytes) record_reading, (some_few bytes).1, few)

-- the level of one of the lines
pub level_at : (lines : List Reading) (at : ℕ) (line : Reading) → HaveBlockLevels lines → at < length lines → line ≡ get_or lines at line → HasBlockLevel line
level_at [] at line h l e = absurd (omega arith)
level_at (x ∷ xs) zero line h l e = subst HasBlockLevel (sym e) h.0
level_at (x ∷ xs) (suc at) line h l e = level_at xs at line h.1 (omega arith) e
