-- The lines of commands, and the texts that begin with them.
use Rattle.std.proofs.Common.{◌≡◌, ◌≢◌, refl, sym, ap, ◌∙◌, subst, ℕ, ◌+◌, ◌^◌, ◌<◌, ◌≤◌, List, [], ◌∷◌, ◌++◌, length, Some, Result, Ok, Err, IsUtf8, decimal, arith}
use Rattle.std.proofs.lemmas.List.{length-append, append_cancel_left}
use Rattle.std.proofs.lemmas.Str.{IsUtf8-from_ascii}
use Rattle.std.proofs.lemmas.Fmt.{IsAscii-decimal, parse-decimal}
use Rattle.std.specs.Str.Parse.{ParsesUnsigned}
use Rattle.b67_commands.specs.declared.command.TheConstants.{MOST_COMMANDS, MOST_NUMBER}
use Rattle.b67_commands.specs.declared.command.Command.{Command}
use Rattle.b67_commands.specs.Commands.{IsNumbered, IsCommand, IsFirstLine, Begin, none, next, MayStandNext}

-- ---- numbers

-- what stands after the word is the numeral
numeral_is : (word line numeral : List ℕ) (n : ℕ) → line ≡ word ++ numeral → IsNumbered word line n → numeral ≡ decimal n
numeral_is word line numeral n e numbered = append_cancel_left word numeral (decimal n) (sym e ∙ numbered.line_is)

small : (word line : List ℕ) (n : ℕ) → IsNumbered word line n → n < 2 ^ 32
small word line n numbered = omega (arith, numbered.greatest)

-- what is no text is no number
pub no_text_no_number : (word line numeral : List ℕ) → line ≡ word ++ numeral → (IsUtf8 numeral → ⊥) → (n : ℕ) → IsNumbered word line n → ⊥
no_text_no_number word line numeral e lacks n numbered =
    let less : n < 2 ^ 64 = omega (arith, numbered.greatest) in
    lacks (subst IsUtf8 (sym (numeral_is word line numeral n e numbered)) (IsUtf8-from_ascii (decimal n) (IsAscii-decimal n less)))

-- what is parsed is the number, where there is one
parsed_is : {E : Type 0} (word line numeral : List ℕ) (r : Result ℕ E) (n : ℕ) → line ≡ word ++ numeral → ParsesUnsigned 32 10 numeral r → IsNumbered word line n → r ≡ Ok n
parsed_is word line numeral r n e parses numbered =
    let less : n < 2 ^ 64 = omega (arith, numbered.greatest) in
    parse-decimal 32 n numeral r (small word line n numbered) less (numeral_is word line numeral n e numbered) parses

pub not_parsed_no_number : {E : Type 0} (word line numeral : List ℕ) (r : Result ℕ E) (bad : E) → line ≡ word ++ numeral → ParsesUnsigned 32 10 numeral r → r ≡ Err bad → (n : ℕ)
    → IsNumbered word line n → ⊥
not_parsed_no_number word line numeral r bad e parses is n numbered = let good : r ≡ Ok n = parsed_is word line numeral r n e parses numbered in cc

same_number : {E : Type 0} (word line numeral : List ℕ) (r : Result ℕ E) (number : ℕ) → line ≡ word ++ numeral → ParsesUnsigned 32 10 numeral r → r ≡ Ok number → (n : ℕ)
    → IsNumbered word line n → number ≡ n
same_number word line numeral r number e parses is n numbered = let good : r ≡ Ok n = parsed_is word line numeral r n e parses numbered in cc

pub too_great_no_number : {E : Type 0} (word line numeral : List ℕ) (r : Result ℕ E) (number : ℕ) → line ≡ word ++ numeral → ParsesUnsigned 32 10 numeral r → r ≡ Ok number
    → MOST_NUMBER < number → (n : ℕ) → IsNumbered word line n → ⊥
too_great_no_number word line numeral r number e parses is great n numbered =
    let same : number ≡ n = same_number word line numeral r number e parses is n numbered in omega (arith, same, great, numbered.greatest)

pub other_no_number : {E : Type 0} (word line numeral : List ℕ) (r : Result ℕ E) (number : ℕ) → line ≡ word ++ numeral → ParsesUnsigned 32 10 numeral r → r ≡ Ok number
    → numeral ≢ decimal number → (n : ℕ) → IsNumbered word line n → ⊥
other_no_number word line numeral r number e parses is other n numbered =
    other (numeral_is word line numeral n e numbered ∙ ap decimal (sym (same_number word line numeral r number e parses is n numbered)))

pub number_so : (word line numeral : List ℕ) (number : ℕ) → line ≡ word ++ numeral → numeral ≡ decimal number → number ≤ MOST_NUMBER → IsNumbered word line number
number_so word line numeral number e is few = record { line_is = e ∙ ap (λ (ds : List ℕ). word ++ ds) is; greatest = few }

-- ---- names

-- ---- commands

-- ---- lines

-- ---- texts

-- one command more
begin_more : (text left line rest : List ℕ) (before : List Command) (command : Command) → Begin text before left → IsFirstLine left line rest → IsCommand line command
    → Begin text (before ++ command ∷ []) rest
begin_more text _ line rest _ command none first is = next first is none
begin_more text left line rest _ command (next {left = m} {commands = cs} f i b) first is = next f i (begin_more m left line rest cs command b first is)

-- so far the lines of the text are these commands
pub record Stands (text : List ℕ) (commands : List Command) (rest : List ℕ) : Type 0 where
  pub begin : Begin text commands rest
  pub few : length commands ≤ MOST_COMMANDS

pub stands_first : (text : List ℕ) (commands : List Command) → commands ≡ [] → Stands text commands text
stands_first text commands e =
    subst (λ (cs : List Command). Stands text cs text) (sym e) (record { begin = none; few = omega arith })

pub stands_more : (text left line rest : List ℕ) (before after : List Command) (command : Command) → Stands text before left → IsFirstLine left line rest
    → MayStandNext line (length before) (Some command) → after ≡ before ++ command ∷ [] → Stands text after rest
stands_more text left line rest before after command s first may e =
    subst (λ (cs : List Command). Stands text cs rest) (sym e) (
    record {
      begin = begin_more text left line rest before command s.begin first may.1;
      few =
          let sum : length (before ++ command ∷ []) ≡ length before + length (command ∷ []) = length-append before (command ∷ []) in
          let one : length (command ∷ []) ≡ 1 = refl in omega (arith, sum, one, may.0);
    }
    )
