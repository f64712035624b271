-- The grammar of the command words, and which word of a list is the first that breaks it. A word is the list of its bytes.
use Rattle.std.specs.Prelude.{◌≡◌, ◌⊎◌, ℕ, ◌+◌, ◌≤◌, List, [], ◌∷◌, ◌++◌, length, take, codes, slice_get, Option, Some, None, Result, Ok, Err}
use Rattle.std.specs.Fmt.{decimal}
use Rattle.b67_limits.specs.declared.TheConstants.{MOST_BUDGET, MOST_PROCESSORS}
use Rattle.b67_words.specs.declared.TheConstants.{MOST_SEED, MOST_TRIAL, MOST_ENTRIES, MOST_STATES}
use Rattle.b67_words.specs.declared.Rule.{Rule}
use Rattle.b67_words.specs.declared.Rule.TheVariants.{Fifo, Lifo, Seed}
use Rattle.b67_words.specs.declared.Words.{Words}
use Rattle.b67_words.specs.declared.Task.TheVariants as tasks
use Rattle.b67_words.specs.declared.Task.TheVariants.{Run, Check, Replay, Judge, Race, Dump, Console, Outcomes}
use Rattle.b67_words.specs.declared.Words.TheVariants.{OnSource, Exec, Trial}
use Rattle.b67_words.specs.declared.UsageKind.{UsageKind}
use Rattle.b67_words.specs.declared.UsageKind.TheVariants.{Missing, Unknown, BadNumber, BadRule, Extra}
use Rattle.b67_words.specs.declared.BadWords.{BadWords}
use Rattle.b67_words.specs.declared.BadWords.TheVariants.{Usage}

-- the word is that number, from 1 to the given one: decimal, without sign and leading zeros
pub record IsWordNumber (most : ℕ) (word : List ℕ) (number : ℕ) : Type 0 where
  pub written : word ≡ decimal number
  pub least : 1 ≤ number
  pub greatest : number ≤ most

-- the word is that number, from 0 to the given one: decimal, without sign and leading zeros
pub record IsFromZero (most : ℕ) (word : List ℕ) (number : ℕ) : Type 0 where
  pub written : word ≡ decimal number
  pub greatest : number ≤ most

-- the words of the rules of dispatch
pub data IsRule : List ℕ → Rule → Type 0 where
  fifo : IsRule (codes "--rule=fifo") Fifo
  lifo : IsRule (codes "--rule=lifo") Lifo
  seed : (numeral : List ℕ) (n : ℕ) → IsFromZero MOST_SEED numeral n → IsRule (codes "--rule=seed:" ++ numeral) (Seed n)

-- the words after the budget of a run, and the rule that they name: where there is none, it is first in, first out
abbrev pub NameRule : List (List ℕ) → Rule → Type 0
NameRule [] rule = rule ≡ Fifo
NameRule (word ∷ []) rule = IsRule word rule
NameRule (word ∷ other ∷ rest) rule = ⊥

-- The commands: the words of each, and what they mean.
pub data IsCommand : List (List ℕ) → Words → Type 0 where
  run : (processors budget : List ℕ) (last : List (List ℕ)) (p b : ℕ) (rule : Rule) → IsWordNumber MOST_PROCESSORS processors p → IsWordNumber MOST_BUDGET budget b →
      NameRule last rule → IsCommand (codes "run" ∷ processors ∷ budget ∷ last) (OnSource (Run p b rule))
  check : IsCommand (codes "check" ∷ []) (OnSource Check)
  list : IsCommand (codes "list" ∷ []) (OnSource tasks.List)
  replay : (budget : List ℕ) (b : ℕ) → IsWordNumber MOST_BUDGET budget b → IsCommand (codes "replay" ∷ budget ∷ []) (OnSource (Replay b))
  judge : IsCommand (codes "judge" ∷ []) (OnSource Judge)
  race : IsCommand (codes "race" ∷ []) (OnSource Race)
  dump : (number : List ℕ) (k : ℕ) → IsFromZero MOST_ENTRIES number k → IsCommand (codes "dump" ∷ number ∷ []) (OnSource (Dump k))
  console : IsCommand (codes "console" ∷ []) (OnSource Console)
  outcomes : (number : List ℕ) (n : ℕ) → IsWordNumber MOST_STATES number n → IsCommand (codes "outcomes" ∷ number ∷ []) (OnSource (Outcomes n))
  exec : (budget : List ℕ) (b : ℕ) → IsWordNumber MOST_BUDGET budget b → IsCommand (codes "exec" ∷ budget ∷ []) (Exec b)
  trial : (number : List ℕ) (n : ℕ) → IsFromZero MOST_TRIAL number n → IsCommand (codes "trial" ∷ number ∷ []) (Trial n)

-- some command begins with these words
abbrev pub BeginCommand : List (List ℕ) → Type 0
BeginCommand words = (rest : List (List ℕ)) × (meaning : Words) × IsCommand (words ++ rest) meaning

-- the words are that command, and no word may follow them
pub record IsWholeCommand (words : List (List ℕ)) (meaning : Words) : Type 0 where
  pub is : IsCommand words meaning
  pub last : (word : List ℕ) → BeginCommand (words ++ word ∷ []) → ⊥

-- so many of the words are that command, and no word may follow them
pub record BeginWhole (words : List (List ℕ)) (count : ℕ) (meaning : Words) : Type 0 where
  pub given : count ≤ length words
  pub whole : IsWholeCommand (take count words) meaning

-- what is wrong with a word after these, if it is wrong: what should stand there
pub data Wants : List (List ℕ) → UsageKind → Type 0 where
  command : Wants [] Unknown
  numeral : (words : List (List ℕ)) (word : List ℕ) (n : ℕ) → IsWordNumber MOST_BUDGET word n → BeginCommand (words ++ word ∷ []) →
      Wants words BadNumber
  named : (words : List (List ℕ)) (word : List ℕ) (rule : Rule) → IsRule word rule → BeginCommand (words ++ word ∷ []) → Wants words BadRule
  nothing : (words : List (List ℕ)) → BeginCommand words → ((word : List ℕ) → BeginCommand (words ++ word ∷ []) → ⊥) → Wants words Extra

-- the first word that breaks the grammar is the one with this number, counted from 1, and this is wrong with it
pub data Breaks : List (List ℕ) → ℕ → UsageKind → Type 0 where
  missing : (words : List (List ℕ)) → BeginCommand words → ((meaning : Words) → IsCommand words meaning → ⊥) →
      Breaks words (length words + 1) Missing
  wrong : (before : List (List ℕ)) (word : List ℕ) (after : List (List ℕ)) (kind : UsageKind) →
      BeginCommand before → (BeginCommand (before ++ word ∷ []) → ⊥) → Wants before kind →
      Breaks (before ++ word ∷ after) (length before + 1) kind

-- the words are that command, or break the grammar so
pub data WordsMean : List (List ℕ) → Result Words BadWords → Type 0 where
  meant : (words : List (List ℕ)) (meaning : Words) → IsCommand words meaning → WordsMean words (Ok meaning)
  broken : (words : List (List ℕ)) (number : ℕ) (kind : UsageKind) → Breaks words number kind →
      WordsMean words (Err (Usage number kind))

-- the text is that number, or none
abbrev pub IsNumberOrNone : ℕ → List ℕ → Option ℕ → Type 0
IsNumberOrNone most text (Some n) = IsWordNumber most text n
IsNumberOrNone most text None = (n : ℕ) → IsWordNumber most text n → ⊥

-- the text is that number from 0 on, or none
abbrev pub IsFromZeroOrNone : ℕ → List ℕ → Option ℕ → Type 0
IsFromZeroOrNone most text (Some n) = IsFromZero most text n
IsFromZeroOrNone most text None = (n : ℕ) → IsFromZero most text n → ⊥

-- reading a number that is to be such a one as the word after so many others
abbrev pub NumberStandsAt : (List ℕ → ℕ → Type 0) → List (List ℕ) → ℕ → Result ℕ BadWords → Type 0
NumberStandsAt Is words before (Ok n) = (word : List ℕ) × (slice_get words before ≡ Some word) × Is word n
NumberStandsAt Is words before (Err (Usage k Missing)) = (k ≡ before + 1) × (length words ≤ before)
NumberStandsAt Is words before (Err (Usage k BadNumber)) =
    (k ≡ before + 1) × (word : List ℕ) × (slice_get words before ≡ Some word) × ((n : ℕ) → Is word n → ⊥)
NumberStandsAt Is words before _ = ⊥

-- the text names that rule, or none
abbrev pub IsRuleOrNone : List ℕ → Option Rule → Type 0
IsRuleOrNone text (Some rule) = IsRule text rule
IsRuleOrNone text None = (rule : Rule) → IsRule text rule → ⊥

-- reading a rule as the word after three others
abbrev pub RuleStandsAt : List (List ℕ) → Result Rule BadWords → Type 0
RuleStandsAt words (Ok rule) =
    ((length words ≤ 3) × (rule ≡ Fifo)) ⊎ ((word : List ℕ) × (slice_get words 3 ≡ Some word) × IsRule word rule)
RuleStandsAt words (Err (Usage k BadRule)) =
    (k ≡ 4) × (word : List ℕ) × (slice_get words 3 ≡ Some word) × IsRuleOrNone word None
RuleStandsAt words _ = ⊥
