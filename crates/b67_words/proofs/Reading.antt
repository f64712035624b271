-- Words that are read one by one, and the first that breaks the grammar.
use Rattle.std.proofs.Common.{◌≡◌, ◌≢◌, inl, inr, ℕ, ◌+◌, ◌≤◌, ◌<◌, List, [], ◌∷◌, ◌++◌, length, take, drop, map, Some, None, Ok, Err, refl, sym, ap, ◌∙◌, subst, arith}
use Rattle.std.specs.Prelude.{slice_get, codes}
use Rattle.std.proofs.lemmas.List.{append_assoc, append-nil, length-append, take-append-drop, length-take-le}
use Rattle.std.proofs.lemmas.Option.{get_or_from_slice_get, slice_get_within}
use Rattle.std.proofs.Math.Seq.{get_or-append_seam, take-append_seam, take-length}
use Rattle.b67_limits.specs.declared.TheConstants.{MOST_BUDGET, MOST_PROCESSORS}
use Rattle.b67_words.specs.declared.TheConstants.{MOST_TRIAL, MOST_ENTRIES, MOST_STATES}
use Rattle.b67_words.specs.declared.Rule.{Rule}
use Rattle.b67_words.specs.declared.Rule.TheVariants.{Fifo}
use Rattle.b67_words.specs.declared.Words.{Words}
use Rattle.b67_words.specs.declared.Task.TheVariants as tasks
use Rattle.b67_words.specs.declared.Task.TheVariants.{Run, Check, Replay, Judge, Race, Dump, Console, Outcomes}
use Rattle.b67_words.specs.declared.Words.TheVariants.{OnSource, Exec, Trial}
use Rattle.b67_words.specs.declared.BadWords.{BadWords}
use Rattle.b67_words.specs.declared.BadWords.TheVariants.{Usage}
use Rattle.b67_words.specs.declared.UsageKind.TheVariants.{Missing, Unknown, BadNumber, BadRule, Extra}
use Rattle.b67_words.specs.Grammar.{IsWordNumber, IsFromZero, IsRule, fifo, NameRule, IsCommand, run, replay, dump, outcomes, exec, trial, BeginCommand, IsWholeCommand, BeginWhole, command, numeral, named as rule_named, nothing, missing, wrong, WordsMean, meant, broken, NumberStandsAt, IsRuleOrNone, RuleStandsAt}
use Rattle.b67_words.proofs.Commands.{Form, a_run, a_budget, a_from_zero, a_word, IsAlone, is_check, is_list, is_judge, is_race, is_console, IsBudgeted, is_replay, is_exec, is_outcomes, IsNumbered, is_trial, is_dump, form_of, begin_nothing, begin_run, one, one_from_zero, after_run, after_name, after_numbered, whole_run, whole_budget, whole_number, whole_check, whole_list, whole_judge, whole_race, whole_console}

-- the words begin with these
abbrev pub GoOn : List (List ℕ) → List (List ℕ) → Type 0
GoOn front words = (rest : List (List ℕ)) × (words ≡ front ++ rest)

pub begins : (front more : List (List ℕ)) → BeginCommand (front ++ more) → BeginCommand front
begins front more (rest, m, is) = (more ++ rest, m, subst (λ ws. IsCommand ws m) (append_assoc front more rest) is)

-- ---- a number that has to follow

-- a number that is such a one has to follow the words
pub record Awaits (front : List (List ℕ)) (Is : List ℕ → ℕ → Type 0) : Type 0 where
  pub unfinished : (meaning : Words) → IsCommand front meaning → ⊥
  pub begun : BeginCommand (front ++ codes "1" ∷ [])
  pub only : (word : List ℕ) → BeginCommand (front ++ word ∷ []) → (n : ℕ) × Is word n

number_missing : (front rest : List (List ℕ)) (Is : List ℕ → ℕ → Type 0) → Awaits front Is → length (front ++ rest) ≤ length front →
    WordsMean (front ++ rest) (Err (Usage (length front + 1) Missing))
number_missing front [] Is awaits short =
    subst (λ ws. WordsMean ws (Err (Usage (length front + 1) Missing))) (sym (append-nil front))
    (broken front (length front + 1) Missing (missing front (begins front (codes "1" ∷ []) awaits.begun) awaits.unfinished))
number_missing front (word ∷ rest) Is awaits short = let sum = length-append front (word ∷ rest) in absurd (omega arith)

number_bad : (front rest : List (List ℕ)) (Is : List ℕ → ℕ → Type 0) (word : List ℕ) → Awaits front Is → slice_get (front ++ rest) (length front) ≡ Some word →
    ((n : ℕ) → Is word n → ⊥) → WordsMean (front ++ rest) (Err (Usage (length front + 1) BadNumber))
number_bad front [] Is word awaits at bad =
    let within = slice_get_within (front ++ []) (length front) word at in let sum = length-append front [] in absurd (omega arith)
number_bad front (other ∷ rest) Is word awaits at bad =
    let same : other ≡ word = sym (get_or-append_seam front other rest []) ∙ get_or_from_slice_get (front ++ other ∷ rest) (length front) word [] at in
    broken (front ++ other ∷ rest) (length front + 1) BadNumber
    (wrong front other rest BadNumber (begins front (codes "1" ∷ []) awaits.begun)
    (λ begun. let is = awaits.only other begun in bad is.0 (subst (λ w. Is w is.0) same is.1))
    (numeral front (codes "1") 1 (one MOST_BUDGET (omega arith)) awaits.begun))

broken_after : (front rest : List (List ℕ)) (Is : List ℕ → ℕ → Type 0) (bad : BadWords) → Awaits front Is → NumberStandsAt Is (front ++ rest) (length front) (Err bad) →
    WordsMean (front ++ rest) (Err bad)
broken_after front rest Is (Usage k Missing) awaits n = rw (n.0) (number_missing front rest Is awaits n.1)
broken_after front rest Is (Usage k BadNumber) awaits n = rw (n.0) (number_bad front rest Is n.1 awaits n.2 n.3)
broken_after front rest Is (Usage k Unknown) awaits n = absurd n
broken_after front rest Is (Usage k BadRule) awaits n = absurd n
broken_after front rest Is (Usage k Extra) awaits n = absurd n

-- where no number stands after the words, they break the grammar there
pub number_broken : (front words : List (List ℕ)) (Is : List ℕ → ℕ → Type 0) (bad : BadWords) → Awaits front Is → GoOn front words →
    NumberStandsAt Is words (length front) (Err bad) → WordsMean words (Err bad)
number_broken front words Is bad awaits (rest, e) n =
    subst (λ ws. WordsMean ws (Err bad)) (sym e) (broken_after front rest Is bad awaits (subst (λ ws. NumberStandsAt Is ws (length front) (Err bad)) e n))

-- the number that stands after the words, and that they go on with it
pub record ReadNumber (front words : List (List ℕ)) (Is : List ℕ → ℕ → Type 0) (n : ℕ) : Type 0 where
  pub word : List ℕ
  pub is : Is word n
  pub on : GoOn (front ++ word ∷ []) words

read_after : (front rest : List (List ℕ)) (Is : List ℕ → ℕ → Type 0) (n : ℕ) → NumberStandsAt Is (front ++ rest) (length front) (Ok n) → ReadNumber front (front ++ rest) Is n
read_after front [] Is n (word, at, is) =
    let within = slice_get_within (front ++ []) (length front) word at in let sum = length-append front [] in absurd (omega arith)
read_after front (other ∷ rest) Is n (word, at, is) =
    let same : word ≡ other = sym (get_or_from_slice_get (front ++ other ∷ rest) (length front) word [] at) ∙ get_or-append_seam front other rest [] in
    record { word = other; is = subst (λ w. Is w n) same is; on = (rest, sym (append_assoc front (other ∷ []) rest)) }

pub number_read : (front words : List (List ℕ)) (Is : List ℕ → ℕ → Type 0) (n : ℕ) → GoOn front words → NumberStandsAt Is words (length front) (Ok n) → ReadNumber front words Is n
number_read front words Is n (rest, e) is =
    subst (λ ws. ReadNumber front ws Is n) (sym e) (read_after front rest Is n (subst (λ ws. NumberStandsAt Is ws (length front) (Ok n)) e is))

-- ---- the commands

awaits_processors : Awaits (codes "run" ∷ []) (IsWordNumber MOST_PROCESSORS)
awaits_processors = record {
  unfinished = λ m is. let e = (after_run [] m is).are in cc;
  begun = begin_run (codes "1") 1 (one MOST_PROCESSORS (omega arith));
  only = λ word (more, m, is). let words = after_run (word ∷ more) m is in let e = words.are in let same : words.processors ≡ word = cc in
      (words.p, subst (λ w. IsWordNumber MOST_PROCESSORS w words.p) same words.first);
}

awaits_budget : (processors : List ℕ) (p : ℕ) → IsWordNumber MOST_PROCESSORS processors p → Awaits (codes "run" ∷ processors ∷ []) (IsWordNumber MOST_BUDGET)
awaits_budget processors p f = record {
  unfinished = λ m is. let e = (after_run (processors ∷ []) m is).are in cc;
  begun = ([], OnSource (Run p 1 Fifo), run processors (codes "1") [] p 1 Fifo f (one MOST_BUDGET (omega arith)) refl);
  only = λ word (more, m, is). let words = after_run (processors ∷ word ∷ more) m is in let e = words.are in let same : words.budget ≡ word = cc in
      (words.b, subst (λ w. IsWordNumber MOST_BUDGET w words.b) same words.second);
}

-- the words go on from their first
starts : (word : List ℕ) (words : List (List ℕ)) → slice_get words 0 ≡ Some word → GoOn (word ∷ []) words
starts word [] h = let e : None ≡ Some word = h in cc
starts word (first ∷ rest) h = let e : first ≡ word = cc in (rest, ap (λ w. w ∷ rest) e)

pub run_first_broken : (words : List (List ℕ)) (bad : BadWords) → slice_get words 0 ≡ Some (codes "run") → NumberStandsAt (IsWordNumber MOST_PROCESSORS) words 1 (Err bad) →
    WordsMean words (Err bad)
run_first_broken words bad h n = number_broken (codes "run" ∷ []) words (IsWordNumber MOST_PROCESSORS) bad awaits_processors (starts (codes "run") words h) n

pub run_second_broken : (words : List (List ℕ)) (p : ℕ) (bad : BadWords) → slice_get words 0 ≡ Some (codes "run") → NumberStandsAt (IsWordNumber MOST_PROCESSORS) words 1 (Ok p) →
    NumberStandsAt (IsWordNumber MOST_BUDGET) words 2 (Err bad) → WordsMean words (Err bad)
run_second_broken words p bad h f n =
    let first = number_read (codes "run" ∷ []) words (IsWordNumber MOST_PROCESSORS) p (starts (codes "run") words h) f in
    number_broken (codes "run" ∷ first.word ∷ []) words (IsWordNumber MOST_BUDGET) bad (awaits_budget first.word p first.is) first.on n

begin_whole : (front words : List (List ℕ)) (meaning : Words) → GoOn front words → IsWholeCommand front meaning → BeginWhole words (length front) meaning
begin_whole front words meaning (rest, e) is =
    let sum = length-append front rest in
    subst (λ ws. BeginWhole ws (length front) meaning) (sym e)
    record { given = omega arith; whole = subst (λ ws. IsWholeCommand ws meaning) (sym (take-append_seam front rest)) is }

-- a command of a name and a number from 1 on
module _ (name : List ℕ) (most : ℕ) (some : 1 ≤ most) (meaning : ℕ → Words) (named : (b : ℕ) → IsBudgeted name most b (meaning b))
    (command_of : (budget : List ℕ) (b : ℕ) → IsWordNumber most budget b → IsCommand (name ∷ budget ∷ []) (meaning b)) where
  awaits_name : Awaits (name ∷ []) (IsWordNumber most)
  awaits_name = record {
    unfinished = λ m is. let e = (after_name name most 1 (meaning 1) (named 1) [] m is).are in cc;
    begun = ([], meaning 1, command_of (codes "1") 1 (one most some));
    only = λ word (more, m, is). let words = after_name name most 1 (meaning 1) (named 1) (word ∷ more) m is in let e = words.are in let same : words.budget ≡ word = cc in
        (words.b, subst (λ w. IsWordNumber most w words.b) same words.first);
  }

  budget_broken : (words : List (List ℕ)) (bad : BadWords) → slice_get words 0 ≡ Some name → NumberStandsAt (IsWordNumber most) words 1 (Err bad) → WordsMean words (Err bad)
  budget_broken words bad h n = number_broken (name ∷ []) words (IsWordNumber most) bad awaits_name (starts name words h) n

  begin_budget_whole : (words : List (List ℕ)) (b : ℕ) → slice_get words 0 ≡ Some name → NumberStandsAt (IsWordNumber most) words 1 (Ok b) → BeginWhole words 2 (meaning b)
  begin_budget_whole words b h f =
      let first = number_read (name ∷ []) words (IsWordNumber most) b (starts name words h) f in
      begin_whole (name ∷ first.word ∷ []) words (meaning b) first.on
      (whole_budget name first.word most b (meaning b) (named b) (command_of first.word b first.is))

pub replay_broken : (words : List (List ℕ)) (bad : BadWords) → slice_get words 0 ≡ Some (codes "replay") → NumberStandsAt (IsWordNumber MOST_BUDGET) words 1 (Err bad) →
    WordsMean words (Err bad)
replay_broken = budget_broken (codes "replay") MOST_BUDGET (omega arith) (λ b. OnSource (Replay b)) (λ b. is_replay refl refl refl) replay

pub exec_broken : (words : List (List ℕ)) (bad : BadWords) → slice_get words 0 ≡ Some (codes "exec") → NumberStandsAt (IsWordNumber MOST_BUDGET) words 1 (Err bad) →
    WordsMean words (Err bad)
exec_broken = budget_broken (codes "exec") MOST_BUDGET (omega arith) (λ b. Exec b) (λ b. is_exec refl refl refl) exec

pub outcomes_broken : (words : List (List ℕ)) (bad : BadWords) → slice_get words 0 ≡ Some (codes "outcomes") → NumberStandsAt (IsWordNumber MOST_STATES) words 1 (Err bad) →
    WordsMean words (Err bad)
outcomes_broken = budget_broken (codes "outcomes") MOST_STATES (omega arith) (λ n. OnSource (Outcomes n)) (λ n. is_outcomes refl refl refl) outcomes

pub begin_replay_whole : (words : List (List ℕ)) (b : ℕ) → slice_get words 0 ≡ Some (codes "replay") → NumberStandsAt (IsWordNumber MOST_BUDGET) words 1 (Ok b) →
    BeginWhole words 2 (OnSource (Replay b))
begin_replay_whole = begin_budget_whole (codes "replay") MOST_BUDGET (omega arith) (λ b. OnSource (Replay b)) (λ b. is_replay refl refl refl) replay

pub begin_exec_whole : (words : List (List ℕ)) (b : ℕ) → slice_get words 0 ≡ Some (codes "exec") → NumberStandsAt (IsWordNumber MOST_BUDGET) words 1 (Ok b) →
    BeginWhole words 2 (Exec b)
begin_exec_whole = begin_budget_whole (codes "exec") MOST_BUDGET (omega arith) (λ b. Exec b) (λ b. is_exec refl refl refl) exec

pub begin_outcomes_whole : (words : List (List ℕ)) (n : ℕ) → slice_get words 0 ≡ Some (codes "outcomes") → NumberStandsAt (IsWordNumber MOST_STATES) words 1 (Ok n) →
    BeginWhole words 2 (OnSource (Outcomes n))
begin_outcomes_whole = begin_budget_whole (codes "outcomes") MOST_STATES (omega arith) (λ n. OnSource (Outcomes n)) (λ n. is_outcomes refl refl refl) outcomes

-- a command of a name and a number from 0 on
module _ (name : List ℕ) (most : ℕ) (some : 1 ≤ most) (meaning : ℕ → Words) (named : (n : ℕ) → IsNumbered name most n (meaning n))
    (command_of : (number : List ℕ) (n : ℕ) → IsFromZero most number n → IsCommand (name ∷ number ∷ []) (meaning n)) where
  awaits_number : Awaits (name ∷ []) (IsFromZero most)
  awaits_number = record {
    unfinished = λ m is. let e = (after_numbered name most 1 (meaning 1) (named 1) [] m is).are in cc;
    begun = ([], meaning 1, command_of (codes "1") 1 (one_from_zero most some));
    only = λ word (more, m, is). let words = after_numbered name most 1 (meaning 1) (named 1) (word ∷ more) m is in let e = words.are in let same : words.number ≡ word = cc in
        (words.n, subst (λ w. IsFromZero most w words.n) same words.first);
  }

  from_zero_broken : (words : List (List ℕ)) (bad : BadWords) → slice_get words 0 ≡ Some name → NumberStandsAt (IsFromZero most) words 1 (Err bad) → WordsMean words (Err bad)
  from_zero_broken words bad h n = number_broken (name ∷ []) words (IsFromZero most) bad awaits_number (starts name words h) n

  begin_from_zero_whole : (words : List (List ℕ)) (n : ℕ) → slice_get words 0 ≡ Some name → NumberStandsAt (IsFromZero most) words 1 (Ok n) → BeginWhole words 2 (meaning n)
  begin_from_zero_whole words n h f =
      let first = number_read (name ∷ []) words (IsFromZero most) n (starts name words h) f in
      begin_whole (name ∷ first.word ∷ []) words (meaning n) first.on
      (whole_number name first.word most n (meaning n) (named n) (command_of first.word n first.is))

pub trial_broken : (words : List (List ℕ)) (bad : BadWords) → slice_get words 0 ≡ Some (codes "trial") → NumberStandsAt (IsFromZero MOST_TRIAL) words 1 (Err bad) →
    WordsMean words (Err bad)
trial_broken = from_zero_broken (codes "trial") MOST_TRIAL (omega arith) (λ n. Trial n) (λ n. is_trial refl refl refl) trial

pub dump_broken : (words : List (List ℕ)) (bad : BadWords) → slice_get words 0 ≡ Some (codes "dump") → NumberStandsAt (IsFromZero MOST_ENTRIES) words 1 (Err bad) →
    WordsMean words (Err bad)
dump_broken = from_zero_broken (codes "dump") MOST_ENTRIES (omega arith) (λ n. OnSource (Dump n)) (λ n. is_dump refl refl refl) dump

pub begin_trial_whole : (words : List (List ℕ)) (n : ℕ) → slice_get words 0 ≡ Some (codes "trial") → NumberStandsAt (IsFromZero MOST_TRIAL) words 1 (Ok n) →
    BeginWhole words 2 (Trial n)
begin_trial_whole = begin_from_zero_whole (codes "trial") MOST_TRIAL (omega arith) (λ n. Trial n) (λ n. is_trial refl refl refl) trial

pub begin_dump_whole : (words : List (List ℕ)) (n : ℕ) → slice_get words 0 ≡ Some (codes "dump") → NumberStandsAt (IsFromZero MOST_ENTRIES) words 1 (Ok n) →
    BeginWhole words 2 (OnSource (Dump n))
begin_dump_whole = begin_from_zero_whole (codes "dump") MOST_ENTRIES (omega arith) (λ n. OnSource (Dump n)) (λ n. is_dump refl refl refl) dump

pub begin_check_whole : (words : List (List ℕ)) → slice_get words 0 ≡ Some (codes "check") → BeginWhole words 1 (OnSource Check)
begin_check_whole words h = begin_whole (codes "check" ∷ []) words (OnSource Check) (starts (codes "check") words h) whole_check

pub begin_list_whole : (words : List (List ℕ)) → slice_get words 0 ≡ Some (codes "list") → BeginWhole words 1 (OnSource tasks.List)
begin_list_whole words h = begin_whole (codes "list" ∷ []) words (OnSource tasks.List) (starts (codes "list") words h) whole_list

pub begin_judge_whole : (words : List (List ℕ)) → slice_get words 0 ≡ Some (codes "judge") → BeginWhole words 1 (OnSource Judge)
begin_judge_whole words h = begin_whole (codes "judge" ∷ []) words (OnSource Judge) (starts (codes "judge") words h) whole_judge

pub begin_race_whole : (words : List (List ℕ)) → slice_get words 0 ≡ Some (codes "race") → BeginWhole words 1 (OnSource Race)
begin_race_whole words h = begin_whole (codes "race" ∷ []) words (OnSource Race) (starts (codes "race") words h) whole_race

pub begin_console_whole : (words : List (List ℕ)) → slice_get words 0 ≡ Some (codes "console") → BeginWhole words 1 (OnSource Console)
begin_console_whole words h = begin_whole (codes "console" ∷ []) words (OnSource Console) (starts (codes "console") words h) whole_console

-- ---- after a whole command

extra_after : (front after : List (List ℕ)) (count : ℕ) (meaning : Words) → IsWholeCommand front meaning → length front ≡ count → count < length (front ++ after) →
    WordsMean (front ++ after) (Err (Usage (count + 1) Extra))
extra_after front [] count meaning is e more = let sum = length-append front [] in absurd (omega arith)
extra_after front (word ∷ rest) count meaning is e more =
    let begun : BeginCommand front = ([], meaning, subst (λ ws. IsCommand ws meaning) (sym (append-nil front)) is.is) in
    subst (λ k. WordsMean (front ++ word ∷ rest) (Err (Usage (k + 1) Extra))) e
    (broken (front ++ word ∷ rest) (length front + 1) Extra (wrong front word rest Extra begun (is.last word) (nothing front begun is.last)))

pub extra : (words : List (List ℕ)) (count : ℕ) (meaning : Words) → IsWholeCommand (take count words) meaning → count < length words →
    WordsMean words (Err (Usage (count + 1) Extra))
extra words count meaning is more =
    let all = take-append-drop count words in
    let longer : count < length (take count words ++ drop count words) = subst (λ ws. count < length ws) (sym all) more in
    subst (λ ws. WordsMean ws (Err (Usage (count + 1) Extra))) all
    (extra_after (take count words) (drop count words) count meaning is (length-take-le count words (omega arith)) longer)

pub exact : (words : List (List ℕ)) (count : ℕ) (meaning : Words) → IsWholeCommand (take count words) meaning → count ≡ length words → WordsMean words (Ok meaning)
exact words count meaning is e =
    let whole : take count words ≡ words = rw e (take-length words) in meant words meaning (subst (λ ws. IsCommand ws meaning) whole is.is)

-- ---- the rule that may follow the budget of a run

module _ (processors budget : List ℕ) (p b : ℕ) (f : IsWordNumber MOST_PROCESSORS processors p) (s : IsWordNumber MOST_BUDGET budget b) where
  -- the words of a run that go on so
  abbrev run_with : List (List ℕ) → List (List ℕ)
  run_with rest = codes "run" ∷ processors ∷ budget ∷ rest

  meant_by : (rest : List (List ℕ)) (rule : Rule) → RuleStandsAt (run_with rest) (Ok rule) → length (run_with rest) ≤ 4 → WordsMean (run_with rest) (Ok (OnSource (Run p b rule)))
  meant_by [] rule (inl k) short = meant (run_with []) (OnSource (Run p b rule)) (run processors budget [] p b rule f s k.1)
  meant_by [] rule (inr k) short = let no : None ≡ Some k.0 = k.1 in cc
  meant_by (word ∷ []) rule (inl k) short = absurd (omega (arith, k.0))
  meant_by (word ∷ []) rule (inr k) short =
      let e : Some word ≡ Some k.0 = k.1 in
      let same : k.0 ≡ word = cc in
      meant (run_with (word ∷ [])) (OnSource (Run p b rule)) (run processors budget (word ∷ []) p b rule f s (subst (λ (w : List ℕ). IsRule w rule) same k.2))
  meant_by (word ∷ other ∷ rest) rule k short = absurd (omega (arith, short))

  extra_by : (rest : List (List ℕ)) (rule : Rule) → RuleStandsAt (run_with rest) (Ok rule) → 4 < length (run_with rest) → WordsMean (run_with rest) (Err (Usage 5 Extra))
  extra_by [] rule k long = absurd (omega (arith, long))
  extra_by (word ∷ []) rule k long = absurd (omega (arith, long))
  extra_by (word ∷ other ∷ rest) rule (inl k) long = absurd (omega (arith, k.0))
  extra_by (word ∷ other ∷ rest) rule (inr k) long =
      let e : Some word ≡ Some k.0 = k.1 in
      let same : k.0 ≡ word = cc in
      extra (run_with (word ∷ other ∷ rest)) 4 (OnSource (Run p b rule)) (whole_run processors budget word p b rule f s (subst (λ (w : List ℕ). IsRule w rule) same k.2)) long

  begun : BeginCommand (run_with [])
  begun = ([], OnSource (Run p b Fifo), run processors budget [] p b Fifo f s refl)

  -- a word that may follow names a rule
  only_rule : (word : List ℕ) (more : List (List ℕ)) (rule : Rule) → NameRule (word ∷ more) rule → IsRule word rule
  only_rule word [] rule is = is
  only_rule word (other ∷ more) rule is = absurd is

  none_by : (word : List ℕ) → IsRuleOrNone word None → BeginCommand (run_with (word ∷ [])) → ⊥
  none_by word none (more, m, is) =
      let after = after_run (processors ∷ budget ∷ word ∷ more) m is in
      let e = after.are in
      let same : after.last ≡ word ∷ more = cc in
      none after.rule (only_rule word more after.rule (subst (λ (ws : List (List ℕ)). NameRule ws after.rule) same after.named))

  rule_bad : (word : List ℕ) (after : List (List ℕ)) → IsRuleOrNone word None → WordsMean (run_with (word ∷ after)) (Err (Usage 4 BadRule))
  rule_bad word after none =
      broken (run_with (word ∷ after)) 4 BadRule
      (wrong (run_with []) word after BadRule begun (none_by word none)
      (rule_named (run_with []) (codes "--rule=fifo") Fifo fifo ([], OnSource (Run p b Fifo), run processors budget (codes "--rule=fifo" ∷ []) p b Fifo f s fifo)))

  broken_by : (rest : List (List ℕ)) (bad : BadWords) → RuleStandsAt (run_with rest) (Err bad) → WordsMean (run_with rest) (Err bad)
  broken_by [] (Usage k BadRule) n = let no : None ≡ Some n.1 = n.2 in cc
  broken_by (word ∷ after) (Usage k BadRule) n =
      let e : Some word ≡ Some n.1 = n.2 in
      let same : n.1 ≡ word = cc in
      subst (λ (i : ℕ). WordsMean (run_with (word ∷ after)) (Err (Usage i BadRule))) (sym n.0)
      (rule_bad word after (subst (λ (w : List ℕ). IsRuleOrNone w None) same n.3))
  broken_by rest (Usage k Missing) n = absurd n
  broken_by rest (Usage k Unknown) n = absurd n
  broken_by rest (Usage k BadNumber) n = absurd n
  broken_by rest (Usage k Extra) n = absurd n

-- what is read of a run, word by word
module _ (words : List (List ℕ)) (p b : ℕ) (h : slice_get words 0 ≡ Some (codes "run")) (f : NumberStandsAt (IsWordNumber MOST_PROCESSORS) words 1 (Ok p))
    (s : NumberStandsAt (IsWordNumber MOST_BUDGET) words 2 (Ok b)) where
  first : ReadNumber (codes "run" ∷ []) words (IsWordNumber MOST_PROCESSORS) p
  first = number_read (codes "run" ∷ []) words (IsWordNumber MOST_PROCESSORS) p (starts (codes "run") words h) f

  second : ReadNumber (codes "run" ∷ first.word ∷ []) words (IsWordNumber MOST_BUDGET) b
  second = number_read (codes "run" ∷ first.word ∷ []) words (IsWordNumber MOST_BUDGET) b first.on s

  are : words ≡ codes "run" ∷ first.word ∷ second.word ∷ second.on.0
  are = second.on.1

  pub run_meant : (rule : Rule) → RuleStandsAt words (Ok rule) → length words ≤ 4 → WordsMean words (Ok (OnSource (Run p b rule)))
  run_meant rule k short =
      subst (λ (ws : List (List ℕ)). WordsMean ws (Ok (OnSource (Run p b rule)))) (sym are)
      (meant_by first.word second.word p b first.is second.is second.on.0 rule (subst (λ (ws : List (List ℕ)). RuleStandsAt ws (Ok rule)) are k)
      (subst (λ (ws : List (List ℕ)). length ws ≤ 4) are short))

  pub run_extra : (rule : Rule) → RuleStandsAt words (Ok rule) → 4 < length words → WordsMean words (Err (Usage 5 Extra))
  run_extra rule k long =
      subst (λ (ws : List (List ℕ)). WordsMean ws (Err (Usage 5 Extra))) (sym are)
      (extra_by first.word second.word p b first.is second.is second.on.0 rule (subst (λ (ws : List (List ℕ)). RuleStandsAt ws (Ok rule)) are k)
      (subst (λ (ws : List (List ℕ)). 4 < length ws) are long))

  pub run_rule_broken : (bad : BadWords) → RuleStandsAt words (Err bad) → WordsMean words (Err bad)
  run_rule_broken bad k =
      subst (λ (ws : List (List ℕ)). WordsMean ws (Err bad)) (sym are)
      (broken_by first.word second.word p b first.is second.is second.on.0 bad (subst (λ (ws : List (List ℕ)). RuleStandsAt ws (Err bad)) are k))

-- ---- the first word

-- the word is no name of a command
pub record NamesNone (word : List ℕ) : Type 0 where
  pub not_run : word ≢ codes "run"
  pub not_check : word ≢ codes "check"
  pub not_list : word ≢ codes "list"
  pub not_replay : word ≢ codes "replay"
  pub not_judge : word ≢ codes "judge"
  pub not_race : word ≢ codes "race"
  pub not_dump : word ≢ codes "dump"
  pub not_console : word ≢ codes "console"
  pub not_outcomes : word ≢ codes "outcomes"
  pub not_exec : word ≢ codes "exec"
  pub not_trial : word ≢ codes "trial"

not_alone : (word : List ℕ) (meaning : Words) → NamesNone word → IsAlone word meaning → ⊥
not_alone word meaning none (is_check e m) = none.not_check e
not_alone word meaning none (is_list e m) = none.not_list e
not_alone word meaning none (is_judge e m) = none.not_judge e
not_alone word meaning none (is_race e m) = none.not_race e
not_alone word meaning none (is_console e m) = none.not_console e

not_budgeted : (word : List ℕ) (most b : ℕ) (meaning : Words) → NamesNone word → IsBudgeted word most b meaning → ⊥
not_budgeted word most b meaning none (is_replay e f m) = none.not_replay e
not_budgeted word most b meaning none (is_exec e f m) = none.not_exec e
not_budgeted word most b meaning none (is_outcomes e f m) = none.not_outcomes e

not_numbered : (word : List ℕ) (most n : ℕ) (meaning : Words) → NamesNone word → IsNumbered word most n meaning → ⊥
not_numbered word most n meaning none (is_trial e f m) = none.not_trial e
not_numbered word most n meaning none (is_dump e f m) = none.not_dump e

no_command : (word : List ℕ) (rest : List (List ℕ)) (meaning : Words) → NamesNone word → Form (word ∷ rest) meaning → ⊥
no_command word rest meaning none (a_run processors budget last p b rule e f s n m) = none.not_run cc
no_command word rest meaning none (a_budget name budget most b e s is) =
    let same : name ≡ word = cc in not_budgeted word most b meaning none (subst (λ w. IsBudgeted w most b meaning) same is)
no_command word rest meaning none (a_from_zero name number most n e f is) =
    let same : name ≡ word = cc in not_numbered word most n meaning none (subst (λ w. IsNumbered w most n meaning) same is)
no_command word rest meaning none (a_word name e is) = let same : name ≡ word = cc in not_alone word meaning none (subst (λ w. IsAlone w meaning) same is)

unknown_given : (word : List ℕ) (rest : List (List ℕ)) → NamesNone word → WordsMean (word ∷ rest) (Err (Usage 1 Unknown))
unknown_given word rest none =
    broken (word ∷ rest) 1 Unknown (wrong [] word rest Unknown begin_nothing (λ (more, m, is). no_command word more m none (form_of (word ∷ more) m is)) command)

no_words : (meaning : Words) → Form [] meaning → ⊥
no_words meaning (a_run processors budget last p b rule e f s n m) = cc
no_words meaning (a_budget name budget most b e s is) = cc
no_words meaning (a_from_zero name number most n e f is) = cc
no_words meaning (a_word name e is) = cc

none_given : WordsMean [] (Err (Usage 1 Missing))
none_given = broken [] 1 Missing (missing [] begin_nothing (λ m is. no_words m (form_of [] m is)))

-- the same of the first word of texts that are seen as their bytes
pub none_given_of : {X : Type 0} (f : X → List ℕ) (xs : List X) → slice_get xs 0 ≡ None → WordsMean (map f xs) (Err (Usage 1 Missing))
none_given_of f [] h = none_given
none_given_of f (x ∷ xs) h = let e : Some x ≡ None = h in cc

pub unknown_given_of : {X : Type 0} (f : X → List ℕ) (xs : List X) (x : X) → slice_get xs 0 ≡ Some x → NamesNone (f x) → WordsMean (map f xs) (Err (Usage 1 Unknown))
unknown_given_of f [] x h none = let e : None ≡ Some x = h in cc
unknown_given_of f (y ∷ ys) x h none = let e : x ≡ y = cc in unknown_given (f y) (map f ys) (subst (λ z. NamesNone (f z)) e none)

-- the name of a command that the first is
pub named : {X : Type 0} (f : X → List ℕ) (xs : List X) (x : X) (name : List ℕ) → slice_get xs 0 ≡ Some x → f x ≡ name → slice_get (map f xs) 0 ≡ Some name
named f [] x name h is = let e : None ≡ Some x = h in cc
named f (y ∷ ys) x name h is = let e : y ≡ x = cc in let same : f y ≡ name = ap f e ∙ is in ap Some same
