-- A list of words has one meaning.
use Rattle.std.proofs.Common.{◌≡◌, ℕ, ◌+◌, ◌^◌, ◌<◌, ◌≤◌, List, [], ◌∷◌, ◌++◌, length, get_or, Result, Ok, Err, refl, sym, ap, ◌∙◌, subst, arith}
use Rattle.std.specs.Prelude.{codes}
use Rattle.std.proofs.lemmas.List.{append_assoc, append-nil}
use Rattle.std.proofs.lemmas.Fmt.{decimal_injective}
use Rattle.b67_limits.specs.declared.TheConstants.{MOST_BUDGET, MOST_PROCESSORS}
use Rattle.b67_words.specs.declared.Rule.{Rule}
use Rattle.b67_words.specs.declared.Words.{Words}
use Rattle.b67_words.specs.declared.Task.TheVariants.{Run}
use Rattle.b67_words.specs.declared.Words.TheVariants.{OnSource}
use Rattle.b67_words.specs.declared.UsageKind.{UsageKind}
use Rattle.b67_words.specs.declared.UsageKind.TheVariants.{Missing, Unknown, BadNumber, BadRule, Extra}
use Rattle.b67_words.specs.declared.BadWords.{BadWords}
use Rattle.b67_words.specs.declared.BadWords.TheVariants.{Usage}
use Rattle.b67_words.specs.Grammar.{IsWordNumber, IsFromZero, IsRule, NameRule, IsCommand, BeginCommand, Wants, command, numeral, named as rule_named, nothing, Breaks, missing, wrong, WordsMean, meant, broken}
use Rattle.b67_words.proofs.Commands.{IsAlone, IsBudgeted, IsNumbered, Form, a_run, a_budget, a_from_zero, a_word, form_of, alone_letter, budget_letter, number_letter, run_not_alone, budget_not_alone, budget_not_run, number_not_run, number_not_budgeted, number_not_alone, number_small, budget_small, same_budgeted, same_numbered, same_alone, begin_check, rule_first, same_name}
use Rattle.b67_words.proofs.Reading.{begins}
use Rattle.b67_words.proofs.Numbers.{first_digit, digit_first}

-- ---- a command has one meaning

same_number : (most greatest : ℕ) (word : List ℕ) (n k : ℕ) → most < 2 ^ 64 → greatest < 2 ^ 64 → IsWordNumber most word n → IsWordNumber greatest word k → n ≡ k
same_number most greatest word n k small little a b = decimal_injective n k (omega (arith, a.greatest)) (omega (arith, b.greatest)) (sym a.written ∙ b.written)

same_from_zero : (most greatest : ℕ) (word : List ℕ) (n k : ℕ) → most < 2 ^ 64 → greatest < 2 ^ 64 → IsFromZero most word n → IsFromZero greatest word k → n ≡ k
same_from_zero most greatest word n k small little a b = decimal_injective n k (omega (arith, a.greatest)) (omega (arith, b.greatest)) (sym a.written ∙ b.written)

same_form : (words : List (List ℕ)) (a b : Words) → Form words a → Form words b → a ≡ b
same_form words a b (a_run processors budget last p n rule e f s u m) (a_run others other more q k by also g t v l) =
    let same = sym e ∙ also in
    let first : others ≡ processors = cc in
    let second : other ≡ budget = cc in
    let third : more ≡ last = cc in
    let one : p ≡ q = same_number MOST_PROCESSORS MOST_PROCESSORS processors p q (omega arith) (omega arith) f (subst (λ w. IsWordNumber MOST_PROCESSORS w q) first g) in
    let two : n ≡ k = same_number MOST_BUDGET MOST_BUDGET budget n k (omega arith) (omega arith) s (subst (λ w. IsWordNumber MOST_BUDGET w k) second t) in
    let named : rule ≡ by = same_name last rule by u (subst (λ (ws : List (List ℕ)). NameRule ws by) third v) in
    m ∙ ap (λ x. OnSource (Run x n rule)) one ∙ ap (λ x. OnSource (Run q x rule)) two ∙ ap (λ (x : Rule). OnSource (Run q k x)) named ∙ sym l
same_form words a b (a_run processors budget last p n rule e f s u m) (a_budget name other most k also t is) =
    let same = sym e ∙ also in budget_not_run name most k b is (let word : name ≡ codes "run" = cc in word)
same_form words a b (a_run processors budget last p n rule e f s u m) (a_from_zero name number most k also g is) =
    let same = sym e ∙ also in number_not_run name most k b is (let word : name ≡ codes "run" = cc in word)
same_form words a b (a_run processors budget last p n rule e f s u m) (a_word name also is) =
    let same = sym e ∙ also in run_not_alone name b is (let word : name ≡ codes "run" = cc in word)
same_form words a b (a_budget name budget most n e s is) (a_run others other more q k by also g t v l) =
    let same = sym e ∙ also in budget_not_run name most n a is (let word : name ≡ codes "run" = cc in word)
same_form words a b (a_budget name budget most n e s is) (a_budget word other greatest k also t too) =
    let same = sym e ∙ also in
    let first : other ≡ budget = cc in
    let named : word ≡ name = cc in
    let of_name = subst (λ w. IsBudgeted w greatest k b) named too in
    let one : n ≡ k = same_number most greatest budget n k (budget_small name most n a is) (budget_small name greatest k b of_name) s (subst (λ w. IsWordNumber greatest w k) first t) in
    same_budgeted name most greatest n k a b one is of_name
same_form words a b (a_budget name budget most n e s is) (a_from_zero other number greatest k also t too) =
    let same = sym e ∙ also in
    let named : other ≡ name = cc in
    number_not_budgeted name most n greatest k a b is (subst (λ w. IsNumbered w greatest k b) named too)
same_form words a b (a_budget name budget most n e s is) (a_word other also too) =
    let same = sym e ∙ also in
    let named : other ≡ name = cc in
    budget_not_alone name most n a b is (subst (λ w. IsAlone w b) named too)
same_form words a b (a_from_zero name number most n e f is) (a_run others other more q k by also g t v l) =
    let same = sym e ∙ also in number_not_run name most n a is (let word : name ≡ codes "run" = cc in word)
same_form words a b (a_from_zero name number most n e f is) (a_budget other budget greatest k also t too) =
    let same = sym e ∙ also in
    let named : name ≡ other = cc in
    number_not_budgeted other greatest k most n b a too (subst (λ w. IsNumbered w most n a) named is)
same_form words a b (a_from_zero name number most n e f is) (a_from_zero other digits greatest k also g too) =
    let same = sym e ∙ also in
    let named : other ≡ name = cc in
    let word : digits ≡ number = cc in
    let of_name = subst (λ w. IsNumbered w greatest k b) named too in
    let one : n ≡ k = same_from_zero most greatest number n k (number_small name most n a is) (number_small name greatest k b of_name) f (subst (λ w. IsFromZero greatest w k) word g) in
    same_numbered name most greatest n k a b one is of_name
same_form words a b (a_from_zero name number most n e f is) (a_word other also too) =
    let same = sym e ∙ also in
    let named : other ≡ name = cc in
    number_not_alone name most n a b is (subst (λ w. IsAlone w b) named too)
same_form words a b (a_word name e is) (a_run others other more q k by also g t v l) =
    let same = sym e ∙ also in run_not_alone name a is (let word : name ≡ codes "run" = cc in word)
same_form words a b (a_word name e is) (a_budget other budget most k also t too) =
    let same = sym e ∙ also in
    let named : name ≡ other = cc in
    budget_not_alone other most k b a too (subst (λ w. IsAlone w a) named is)
same_form words a b (a_word name e is) (a_from_zero other number most k also g too) =
    let same = sym e ∙ also in
    let named : name ≡ other = cc in
    number_not_alone other most k b a too (subst (λ w. IsAlone w a) named is)
same_form words a b (a_word name e is) (a_word other also too) =
    let same = sym e ∙ also in let named : other ≡ name = cc in same_alone name a b is (subst (λ w. IsAlone w b) named too)

same_command : (words : List (List ℕ)) (a b : Words) → IsCommand words a → IsCommand words b → a ≡ b
same_command words a b is also = same_form words a b (form_of words a is) (form_of words b also)

-- a number is no name of a command
number_form : {B : Type 0} (word : List ℕ) (rest : List (List ℕ)) (meaning : Words) → get_or word 0 0 ≤ 57 → Form (word ∷ rest) meaning → B
number_form word rest meaning low (a_run processors budget last p b rule e f s n m) =
    let same : word ≡ codes "run" = cc in
    let high : get_or word 0 0 ≡ 114 = rw same refl in
    absurd (omega arith)
number_form word rest meaning low (a_budget name budget most b e s is) =
    let same : word ≡ name = cc in
    let first : get_or word 0 0 ≡ get_or name 0 0 = ap (λ (w : List ℕ). get_or w 0 0) same in
    let high = budget_letter name most b meaning is in
    absurd (omega arith)
number_form word rest meaning low (a_from_zero name number most n e f is) =
    let same : word ≡ name = cc in
    let first : get_or word 0 0 ≡ get_or name 0 0 = ap (λ (w : List ℕ). get_or w 0 0) same in
    let high = number_letter name most n meaning is in
    absurd (omega arith)
number_form word rest meaning low (a_word name e is) =
    let same : word ≡ name = cc in
    let first : get_or word 0 0 ≡ get_or name 0 0 = ap (λ (w : List ℕ). get_or w 0 0) same in
    let high = alone_letter name meaning is in
    absurd (omega arith)

no_number_first : {B : Type 0} (word : List ℕ) (n : ℕ) → IsWordNumber MOST_BUDGET word n → BeginCommand (word ∷ []) → B
no_number_first word n is (rest, m, begins) = number_form word rest m (first_digit MOST_BUDGET word n (omega arith) is).1 (form_of (word ∷ rest) m begins)

-- ---- a rule stands after three words, and a number never does

-- a number is no rule
no_rule : {B : Type 0} (most : ℕ) (word : List ℕ) (n : ℕ) (rule : Rule) → most < 2 ^ 64 → IsWordNumber most word n → IsRule word rule → B
no_rule most word n rule small is also = absurd (omega (arith, rule_first word rule also, (first_digit most word n small is).0))

no_rule_from_zero : {B : Type 0} (most : ℕ) (word : List ℕ) (n : ℕ) (rule : Rule) → most < 2 ^ 64 → IsFromZero most word n → IsRule word rule → B
no_rule_from_zero most word n rule small is also = absurd (omega (arith, rule_first word rule also, digit_first most word n small is))

none_after : (word : List ℕ) (more : List (List ℕ)) (next : List ℕ) (rest : List (List ℕ)) (rule : Rule) → NameRule (word ∷ (more ++ next ∷ rest)) rule → ⊥
none_after word [] next rest rule is = is
none_after word (other ∷ more) next rest rule is = is

rule_place : (words : List (List ℕ)) (word : List ℕ) (rest : List (List ℕ)) (meaning : Words) (rule : Rule) → IsRule word rule → Form (words ++ word ∷ rest) meaning
    → length words ≡ 3
rule_place [] word rest meaning rule is form = number_form word rest meaning (omega (arith, rule_first word rule is)) form
rule_place (a ∷ []) word rest meaning rule is (a_run processors budget last p b by e f s n m) =
    let same : processors ≡ word = cc in no_rule MOST_PROCESSORS word p rule (omega arith) (subst (λ w. IsWordNumber MOST_PROCESSORS w p) same f) is
rule_place (a ∷ []) word rest meaning rule is (a_budget name budget most b e s also) =
    let same : budget ≡ word = cc in no_rule most word b rule (budget_small name most b meaning also) (subst (λ w. IsWordNumber most w b) same s) is
rule_place (a ∷ []) word rest meaning rule is (a_from_zero name number most n e f also) =
    let same : number ≡ word = cc in no_rule_from_zero most word n rule (number_small name most n meaning also) (subst (λ w. IsFromZero most w n) same f) is
rule_place (a ∷ []) word rest meaning rule is (a_word name e also) = cc
rule_place (a ∷ c ∷ []) word rest meaning rule is (a_run processors budget last p b by e f s n m) =
    let same : budget ≡ word = cc in no_rule MOST_BUDGET word b rule (omega arith) (subst (λ w. IsWordNumber MOST_BUDGET w b) same s) is
rule_place (a ∷ c ∷ []) word rest meaning rule is (a_budget name budget most b e s also) = cc
rule_place (a ∷ c ∷ []) word rest meaning rule is (a_from_zero name number most n e f also) = cc
rule_place (a ∷ c ∷ []) word rest meaning rule is (a_word name e also) = cc
rule_place (a ∷ c ∷ d ∷ []) word rest meaning rule is form = refl
rule_place (a ∷ c ∷ d ∷ x ∷ more) word rest meaning rule is (a_run processors budget last p b by e f s n m) =
    let same : last ≡ x ∷ (more ++ word ∷ rest) = cc in absurd (none_after x more word rest by (subst (λ (ws : List (List ℕ)). NameRule ws by) same n))
rule_place (a ∷ c ∷ d ∷ x ∷ more) word rest meaning rule is (a_budget name budget most b e s also) = cc
rule_place (a ∷ c ∷ d ∷ x ∷ more) word rest meaning rule is (a_from_zero name number most n e f also) = cc
rule_place (a ∷ c ∷ d ∷ x ∷ more) word rest meaning rule is (a_word name e also) = cc

named_fourth : {B : Type 0} (word : List ℕ) (rest : List (List ℕ)) (n : ℕ) (by : Rule) → IsWordNumber MOST_BUDGET word n → NameRule (word ∷ rest) by → B
named_fourth word [] n by is also = no_rule MOST_BUDGET word n by (omega arith) is also
named_fourth word (other ∷ rest) n by is also = absurd also

number_not_fourth : {B : Type 0} (words : List (List ℕ)) (word : List ℕ) (rest : List (List ℕ)) (meaning : Words) (n : ℕ) → IsWordNumber MOST_BUDGET word n → length words ≡ 3
    → Form (words ++ word ∷ rest) meaning → B
number_not_fourth [] word rest meaning n is three form = absurd (omega (arith, three))
number_not_fourth (a ∷ []) word rest meaning n is three form = absurd (omega (arith, three))
number_not_fourth (a ∷ c ∷ []) word rest meaning n is three form = absurd (omega (arith, three))
number_not_fourth (a ∷ c ∷ d ∷ []) word rest meaning n is three (a_run processors budget last p b by e f s u m) =
    let same : last ≡ word ∷ rest = cc in named_fourth word rest n by is (subst (λ (ws : List (List ℕ)). NameRule ws by) same u)
number_not_fourth (a ∷ c ∷ d ∷ []) word rest meaning n is three (a_budget name budget most b e s also) = cc
number_not_fourth (a ∷ c ∷ d ∷ []) word rest meaning n is three (a_from_zero name number most k e f also) = cc
number_not_fourth (a ∷ c ∷ d ∷ []) word rest meaning n is three (a_word name e also) = cc
number_not_fourth (a ∷ c ∷ d ∷ x ∷ more) word rest meaning n is three form = absurd (omega (arith, three))

-- the form of a command that begins with words and one more
form_from : (words : List (List ℕ)) (word : List ℕ) (rest : List (List ℕ)) (meaning : Words) → IsCommand ((words ++ word ∷ []) ++ rest) meaning → Form (words ++ word ∷ rest) meaning
form_from words word rest meaning is = form_of (words ++ word ∷ rest) meaning (subst (λ ws. IsCommand ws meaning) (append_assoc words (word ∷ []) rest) is)

rule_fourth : (words : List (List ℕ)) (word : List ℕ) (rule : Rule) → IsRule word rule → BeginCommand (words ++ word ∷ []) → length words ≡ 3
rule_fourth words word rule is (rest, m, begins) = rule_place words word rest m rule is (form_from words word rest m begins)

number_or_rule : {B : Type 0} (words : List (List ℕ)) (word : List ℕ) (n : ℕ) (other : List ℕ) (rule : Rule) → IsWordNumber MOST_BUDGET word n → BeginCommand (words ++ word ∷ [])
    → IsRule other rule → BeginCommand (words ++ other ∷ []) → B
number_or_rule words word n other rule is (rest, m, begins) also then =
    number_not_fourth words word rest m n is (rule_fourth words other rule also then) (form_from words word rest m begins)

-- ---- two ways to cut a list at a word

data Cuts (before : List (List ℕ)) (word : List ℕ) (others : List (List ℕ)) (other : List ℕ) : Type 0 where
  together : before ≡ others → Cuts before word others other
  earlier : (more : List (List ℕ)) → others ≡ (before ++ word ∷ []) ++ more → Cuts before word others other
  later : (more : List (List ℕ)) → before ≡ (others ++ other ∷ []) ++ more → Cuts before word others other

cuts_after : (x : List ℕ) (before others : List (List ℕ)) (word other : List ℕ) → Cuts before word others other → Cuts (x ∷ before) word (x ∷ others) other
cuts_after x before others word other (together e) = together (ap (λ ws. x ∷ ws) e)
cuts_after x before others word other (earlier more e) = earlier more (ap (λ ws. x ∷ ws) e)
cuts_after x before others word other (later more e) = later more (ap (λ ws. x ∷ ws) e)

cuts : (before : List (List ℕ)) (word : List ℕ) (after others : List (List ℕ)) (other : List ℕ) (rest : List (List ℕ)) →
    before ++ word ∷ after ≡ others ++ other ∷ rest → Cuts before word others other
cuts [] word after [] other rest e = together refl
cuts [] word after (x ∷ others) other rest e = let same : x ≡ word = cc in earlier others (ap (λ w. w ∷ others) same)
cuts (x ∷ before) word after [] other rest e = let same : x ≡ other = cc in later before (ap (λ w. w ∷ before) same)
cuts (x ∷ before) word after (y ∷ others) other rest e =
    let same : x ≡ y = cc in
    let tails : before ++ word ∷ after ≡ others ++ other ∷ rest = cc in
    subst (λ z. Cuts (x ∷ before) word (z ∷ others) other) same (cuts_after x before others word other (cuts before word after others other rest tails))

-- ---- what breaks the grammar, case by case

data Wanted (words : List (List ℕ)) : UsageKind → Type 0 where
  a_command : words ≡ [] → Wanted words Unknown
  a_number : (word : List ℕ) (n : ℕ) → IsWordNumber MOST_BUDGET word n → BeginCommand (words ++ word ∷ []) → Wanted words BadNumber
  a_rule : (word : List ℕ) (rule : Rule) → IsRule word rule → BeginCommand (words ++ word ∷ []) → Wanted words BadRule
  no_word : ((word : List ℕ) → BeginCommand (words ++ word ∷ []) → ⊥) → Wanted words Extra

wanted : (words : List (List ℕ)) (kind : UsageKind) → Wants words kind → Wanted words kind
wanted _ _ command = a_command refl
wanted _ _ (numeral words word n is starts) = a_number word n is starts
wanted _ _ (rule_named words word rule is starts) = a_rule word rule is starts
wanted _ _ (nothing words starts none) = no_word none

rule_or_command : {B : Type 0} (words : List (List ℕ)) (word : List ℕ) (rule : Rule) → words ≡ [] → IsRule word rule → BeginCommand (words ++ word ∷ []) → B
rule_or_command words word rule e is starts = absurd (omega (arith, rule_fourth words word rule is starts, ap length e))

number_or_command : {B : Type 0} (words : List (List ℕ)) (word : List ℕ) (n : ℕ) → words ≡ [] → IsWordNumber MOST_BUDGET word n → BeginCommand (words ++ word ∷ []) → B
number_or_command words word n e is starts = no_number_first word n is (subst (λ ws. BeginCommand (ws ++ word ∷ [])) e starts)

command_or_none : {B : Type 0} (words : List (List ℕ)) → words ≡ [] → ((word : List ℕ) → BeginCommand (words ++ word ∷ []) → ⊥) → B
command_or_none words e none = absurd (none (codes "check") (subst (λ ws. BeginCommand (ws ++ codes "check" ∷ [])) (sym e) begin_check))

same_want : (words : List (List ℕ)) (a b : UsageKind) → Wanted words a → Wanted words b → a ≡ b
same_want words _ _ (a_command e) (a_command f) = refl
same_want words _ _ (a_command e) (a_number word n is starts) = number_or_command words word n e is starts
same_want words _ _ (a_command e) (no_word none) = command_or_none words e none
same_want words _ _ (a_number word n is starts) (a_command e) = number_or_command words word n e is starts
same_want words _ _ (a_number word n is starts) (a_number other k also then) = refl
same_want words _ _ (a_number word n is starts) (no_word none) = absurd (none word starts)
same_want words _ _ (a_command e) (a_rule word rule is starts) = rule_or_command words word rule e is starts
same_want words _ _ (a_number word n is starts) (a_rule other rule also then) = number_or_rule words word n other rule is starts also then
same_want words _ _ (a_rule word rule is starts) (a_command e) = rule_or_command words word rule e is starts
same_want words _ _ (a_rule word rule is starts) (a_number other n also then) = number_or_rule words other n word rule also then is starts
same_want words _ _ (a_rule word rule is starts) (a_rule other by also then) = refl
same_want words _ _ (a_rule word rule is starts) (no_word none) = absurd (none word starts)
same_want words _ _ (no_word none) (a_rule word rule is starts) = absurd (none word starts)
same_want words _ _ (no_word none) (a_command e) = command_or_none words e none
same_want words _ _ (no_word none) (a_number word n is starts) = absurd (none word starts)
same_want words _ _ (no_word none) (no_word also) = refl

data Broken (words : List (List ℕ)) (number : ℕ) (kind : UsageKind) : Type 0 where
  ends : BeginCommand words → ((meaning : Words) → IsCommand words meaning → ⊥) → number ≡ length words + 1 → kind ≡ Missing → Broken words number kind
  stops : (before : List (List ℕ)) (word : List ℕ) (after : List (List ℕ)) → words ≡ before ++ word ∷ after → number ≡ length before + 1 →
      BeginCommand before → (BeginCommand (before ++ word ∷ []) → ⊥) → Wants before kind → Broken words number kind

breaks : (words : List (List ℕ)) (number : ℕ) (kind : UsageKind) → Breaks words number kind → Broken words number kind
breaks _ _ _ (missing words starts none) = ends starts none refl refl
breaks _ _ _ (wrong before word after kind starts none wants) = stops before word after refl refl starts none wants

-- words that begin a command have no word that stops it
no_stop : {B : Type 0} (words before : List (List ℕ)) (word : List ℕ) (after : List (List ℕ)) → BeginCommand words → words ≡ before ++ word ∷ after →
    (BeginCommand (before ++ word ∷ []) → ⊥) → B
no_stop words before word after starts e none =
    absurd (none (begins (before ++ word ∷ []) after (subst BeginCommand (e ∙ sym (append_assoc before (word ∷ []) after)) starts)))

same_stop : (before others : List (List ℕ)) (word other : List ℕ) → Cuts before word others other →
    BeginCommand before → (BeginCommand (before ++ word ∷ []) → ⊥) → BeginCommand others → (BeginCommand (others ++ other ∷ []) → ⊥) → before ≡ others
same_stop before others word other (together e) starts none also_starts also_none = e
same_stop before others word other (earlier more e) starts none also_starts also_none = absurd (none (begins (before ++ word ∷ []) more (subst BeginCommand e also_starts)))
same_stop before others word other (later more e) starts none also_starts also_none = absurd (also_none (begins (others ++ other ∷ []) more (subst BeginCommand e starts)))

same_break : (words : List (List ℕ)) (n k : ℕ) (a b : UsageKind) → Broken words n a → Broken words k b → Usage n a ≡ Usage k b
same_break words n k a b (ends starts none e f) (ends also_starts also_none g h) = ap (λ (i : ℕ). Usage i a) (e ∙ sym g) ∙ ap (λ (x : UsageKind). Usage k x) (f ∙ sym h)
same_break words n k a b (ends starts none e f) (stops before word after is at begin end wants) = no_stop words before word after starts is end
same_break words n k a b (stops before word after is at begin end wants) (ends starts none e f) = no_stop words before word after starts is end
same_break words n k a b (stops before word after is at begin end wants) (stops others other rest also_is also_at also_begin also_end also_wants) =
    let one = same_stop before others word other (cuts before word after others other rest (sym is ∙ also_is)) begin end also_begin also_end in
    let place : n ≡ k = at ∙ ap (λ (ws : List (List ℕ)). length ws + 1) one ∙ sym also_at in
    let kind : a ≡ b = same_want others a b (subst (λ ws. Wanted ws a) one (wanted before a wants)) (wanted others b also_wants) in
    ap (λ (i : ℕ). Usage i a) place ∙ ap (λ (x : UsageKind). Usage k x) kind

no_break : {B : Type 0} (words : List (List ℕ)) (meaning : Words) (n : ℕ) (kind : UsageKind) → IsCommand words meaning → Broken words n kind → B
no_break words meaning n kind is (ends starts none e f) = absurd (none meaning is)
no_break words meaning n kind is (stops before word after e at begin end wants) =
    no_stop words before word after ([], meaning, subst (λ ws. IsCommand ws meaning) (sym (append-nil words)) is) e end

-- ---- the law

data Meaning (words : List (List ℕ)) : Result Words BadWords → Type 0 where
  means : (meaning : Words) → IsCommand words meaning → Meaning words (Ok meaning)
  breaks_at : (n : ℕ) (kind : UsageKind) → Broken words n kind → Meaning words (Err (Usage n kind))

meaning_of : (words : List (List ℕ)) (r : Result Words BadWords) → WordsMean words r → Meaning words r
meaning_of _ _ (meant words meaning is) = means meaning is
meaning_of _ _ (broken words n kind is) = breaks_at n kind (breaks words n kind is)

same_meaning : (words : List (List ℕ)) (a b : Result Words BadWords) → Meaning words a → Meaning words b → a ≡ b
same_meaning words _ _ (means m is) (means k also) = ap Ok (same_command words m k is also)
same_meaning words _ _ (means m is) (breaks_at n kind wrong_at) = no_break words m n kind is wrong_at
same_meaning words _ _ (breaks_at n kind wrong_at) (means m is) = no_break words m n kind is wrong_at
same_meaning words _ _ (breaks_at n a one) (breaks_at k b other) = ap Err (same_break words n k a b one other)

pub one_meaning : (words : List (List ℕ)) (a b : Result Words BadWords) → WordsMean words a → WordsMean words b → a ≡ b
one_meaning words a b is also = same_meaning words a b (meaning_of words a is) (meaning_of words b also)
