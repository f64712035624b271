-- The phrases of a format as the program has them, and what is noted of their line.
use Rattle.std.specs.Prelude.{ℕ, ◌-◌, ◌^◌, ◌==◌, ◌||◌, min, if◌then◌else◌, nat_lt, not, Bool, true, false, List, Option, Some, None}
use Rattle.std.specs.List.{list_any}
use Rattle.algol_tree.specs.declared.TheConstants.{MOST_LINE_WIDTH}
use Rattle.algol_tree.specs.declared.token.Spot.{Spot}
use Rattle.algol_tree.specs.declared.refusal.Code.TheVariants as codes
use Rattle.algol_tree.specs.declared.refusal.Fault.{Fault}
use Rattle.algol_tree.specs.declared.tree.PhraseText.{PhraseText}
use Rattle.algol_tree.specs.Accepted.{noted_all}
use Rattle.algol_tree.specs.Spelling.{is_number, value_of}
use Rattle.algol_tree.specs.Phrases as rules
use Rattle.algol_sites.specs.declared.line.Phrase.{Phrase}
use Rattle.algol_sites.specs.declared.line.Phrase.TheVariants as phrase
use Rattle.algol_sites.specs.Noting.{broken_if}

-- as far as a machine word goes
abbrev pub capped : ℕ → ℕ
capped n = min n (2 ^ 64 - 1)

abbrev pub line_number_in : List ℕ → Option ℕ
line_number_in digits = if is_number digits then Some (capped (value_of digits)) else None

abbrev pub phrase_seen : rules.Phrase → Phrase
phrase_seen (rules.text w) = phrase.Text (capped w)
phrase_seen (rules.blanks w) = phrase.Blanks (capped w)
phrase_seen (rules.item w) = phrase.Item (capped w)
phrase_seen rules.no_phrase = phrase.NoPhrase

-- a letter before a number
abbrev pub lettered : ℕ → ℕ → Phrase
lettered letter w =
    if nat_lt 0 w then (if letter == 73 then phrase.Item w else if letter == 88 then phrase.Blanks w else phrase.NoPhrase) else phrase.NoPhrase

abbrev pub columns_seen : Phrase → ℕ
columns_seen (phrase.Text w) = w
columns_seen (phrase.Blanks w) = w
columns_seen (phrase.Item w) = w
columns_seen phrase.NoPhrase = 0

abbrev pub items_seen : Phrase → ℕ
items_seen (phrase.Item w) = 1
items_seen _ = 0

abbrev pub is_none_seen : Phrase → Bool
is_none_seen phrase.NoPhrase = true
is_none_seen _ = false

abbrev pub items_in : rules.Phrase → ℕ
items_in (rules.item w) = 1
items_in _ = 0

abbrev pub any_bad : List PhraseText → Bool
any_bad ps = list_any (λ (p : PhraseText). rules.is_no_phrase (rules.phrase_of p)) ps

-- the phrases and so many items are no line
abbrev pub is_bad : List PhraseText → ℕ → Bool
is_bad ps items = any_bad ps || not (rules.items_of ps == items)

abbrev pub noted_line : Option Fault → List PhraseText → ℕ → Spot → Option Fault
noted_line first ps items spot =
    noted_all (noted_all first (broken_if codes.WriteList (is_bad ps items) spot))
    (broken_if codes.LineTooWide (nat_lt MOST_LINE_WIDTH (rules.columns_of ps)) spot)
