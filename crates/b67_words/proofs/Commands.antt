-- The commands by their words, and how their words can begin.
use Rattle.std.proofs.Common.{◌≡◌, ◌≢◌, ◌⊎◌, inl, inr, ℕ, ◌+◌, ◌^◌, ◌<◌, ◌≤◌, List, [], ◌∷◌, ◌++◌, length, drop, get_or, refl, sym, ap, subst, ◌∙◌, arith}
use Rattle.std.specs.Prelude.{codes}
use Rattle.std.proofs.lemmas.Fmt.{decimal_digit, decimal_injective}
use Rattle.b67_limits.specs.declared.TheConstants.{MOST_BUDGET, MOST_PROCESSORS}
use Rattle.b67_words.specs.declared.TheConstants.{MOST_SEED, MOST_TRIAL, MOST_ENTRIES, MOST_STATES}
use Rattle.b67_words.specs.declared.Rule.{Rule}
use Rattle.b67_words.specs.declared.Rule.TheVariants.{Fifo, Lifo, Seed}
use Rattle.b67_words.specs.declared.Words.{Words}
use Rattle.b67_words.specs.declared.Task.TheVariants as tasks
use Rattle.b67_words.specs.declared.Task.TheVariants.{Run, Check, Replay, Judge, Race, Dump, Console, Outcomes}
use Rattle.b67_words.specs.declared.Words.TheVariants.{OnSource, Exec, Trial}
use Rattle.b67_words.specs.Grammar.{IsWordNumber, IsFromZero, IsRule, fifo, lifo, seed, NameRule, IsCommand, run, check, list, replay, judge, race, dump, console, outcomes, exec, trial, BeginCommand, IsWholeCommand}

-- the word is a command by itself, which means this
pub data IsAlone (name : List ℕ) (meaning : Words) : Type 0 where
  is_check : name ≡ codes "check" → meaning ≡ OnSource Check → IsAlone name meaning
  is_list : name ≡ codes "list" → meaning ≡ OnSource tasks.List → IsAlone name meaning
  is_judge : name ≡ codes "judge" → meaning ≡ OnSource Judge → IsAlone name meaning
  is_race : name ≡ codes "race" → meaning ≡ OnSource Race → IsAlone name meaning
  is_console : name ≡ codes "console" → meaning ≡ OnSource Console → IsAlone name meaning

-- the word with a number after it, from 1 to the greatest, is a command, which means this
pub data IsBudgeted (name : List ℕ) (most b : ℕ) (meaning : Words) : Type 0 where
  is_replay : name ≡ codes "replay" → most ≡ MOST_BUDGET → meaning ≡ OnSource (Replay b) → IsBudgeted name most b meaning
  is_exec : name ≡ codes "exec" → most ≡ MOST_BUDGET → meaning ≡ Exec b → IsBudgeted name most b meaning
  is_outcomes : name ≡ codes "outcomes" → most ≡ MOST_STATES → meaning ≡ OnSource (Outcomes b) → IsBudgeted name most b meaning

-- the word with a number after it, from 0 to the greatest, is a command, which means this
pub data IsNumbered (name : List ℕ) (most n : ℕ) (meaning : Words) : Type 0 where
  is_trial : name ≡ codes "trial" → most ≡ MOST_TRIAL → meaning ≡ Trial n → IsNumbered name most n meaning
  is_dump : name ≡ codes "dump" → most ≡ MOST_ENTRIES → meaning ≡ OnSource (Dump n) → IsNumbered name most n meaning

-- the words of a command, and what they mean
pub data Form (words : List (List ℕ)) (meaning : Words) : Type 0 where
  a_run : (processors budget : List ℕ) (last : List (List ℕ)) (p b : ℕ) (rule : Rule) → words ≡ codes "run" ∷ processors ∷ budget ∷ last →
      IsWordNumber MOST_PROCESSORS processors p → IsWordNumber MOST_BUDGET budget b → NameRule last rule → meaning ≡ OnSource (Run p b rule) → Form words meaning
  a_budget : (name budget : List ℕ) (most b : ℕ) → words ≡ name ∷ budget ∷ [] → IsWordNumber most budget b → IsBudgeted name most b meaning → Form words meaning
  a_from_zero : (name number : List ℕ) (most n : ℕ) → words ≡ name ∷ number ∷ [] → IsFromZero most number n → IsNumbered name most n meaning → Form words meaning
  a_word : (name : List ℕ) → words ≡ name ∷ [] → IsAlone name meaning → Form words meaning

pub form_of : (words : List (List ℕ)) (meaning : Words) → IsCommand words meaning → Form words meaning
form_of _ _ (run processors budget last p b rule f s n) = a_run processors budget last p b rule refl f s n refl
form_of _ _ check = a_word (codes "check") refl (is_check refl refl)
form_of _ _ list = a_word (codes "list") refl (is_list refl refl)
form_of _ _ judge = a_word (codes "judge") refl (is_judge refl refl)
form_of _ _ race = a_word (codes "race") refl (is_race refl refl)
form_of _ _ console = a_word (codes "console") refl (is_console refl refl)
form_of _ _ (replay budget b s) = a_budget (codes "replay") budget MOST_BUDGET b refl s (is_replay refl refl refl)
form_of _ _ (trial number n is) = a_from_zero (codes "trial") number MOST_TRIAL n refl is (is_trial refl refl refl)
form_of _ _ (dump number n is) = a_from_zero (codes "dump") number MOST_ENTRIES n refl is (is_dump refl refl refl)
form_of _ _ (exec budget b s) = a_budget (codes "exec") budget MOST_BUDGET b refl s (is_exec refl refl refl)
form_of _ _ (outcomes number n s) = a_budget (codes "outcomes") number MOST_STATES n refl s (is_outcomes refl refl refl)

-- ---- the names of the commands are told apart by their first two letters

-- the sum of the first two letters of a name
abbrev weight : List ℕ → ℕ
weight name = get_or name 0 0 + get_or name 1 0

weigh : (name other : List ℕ) (n : ℕ) → name ≡ other → weight other ≡ n → weight name ≡ n
weigh name other n e f = ap weight e ∙ f

apart : {B : Type 0} (name : List ℕ) (n k : ℕ) → weight name ≡ n → weight name ≡ k → n ≢ k → B
apart name n k e f h = absurd (h (sym e ∙ f))

-- a letter of a name
letter : (name other : List ℕ) (i n : ℕ) → name ≡ other → get_or other i 0 ≡ n → get_or name i 0 ≡ n
letter name other i n e f = ap (λ (w : List ℕ). get_or w i 0) e ∙ f

-- the word is none of those that are a command by themselves, by its first two letters
record NotAlone (n : ℕ) : Type 0 where
  check : 203 ≢ n
  list : 213 ≢ n
  judge : 223 ≢ n
  race : 211 ≢ n
  console : 210 ≢ n

alone_apart : {B : Type 0} (name : List ℕ) (meaning : Words) (n : ℕ) → IsAlone name meaning → weight name ≡ n → NotAlone n → B
alone_apart name meaning n (is_check e m) w not = apart name 203 n (weigh name (codes "check") 203 e refl) w not.check
alone_apart name meaning n (is_list e m) w not = apart name 213 n (weigh name (codes "list") 213 e refl) w not.list
alone_apart name meaning n (is_judge e m) w not = apart name 223 n (weigh name (codes "judge") 223 e refl) w not.judge
alone_apart name meaning n (is_race e m) w not = apart name 211 n (weigh name (codes "race") 211 e refl) w not.race
alone_apart name meaning n (is_console e m) w not = apart name 210 n (weigh name (codes "console") 210 e refl) w not.console

budget_weight : (name : List ℕ) (most b : ℕ) (meaning : Words) → IsBudgeted name most b meaning → (weight name ≡ 215) ⊎ ((weight name ≡ 221) ⊎ (weight name ≡ 228))
budget_weight name most b meaning (is_replay e f m) = inl (weigh name (codes "replay") 215 e refl)
budget_weight name most b meaning (is_exec e f m) = inr (inl (weigh name (codes "exec") 221 e refl))
budget_weight name most b meaning (is_outcomes e f m) = inr (inr (weigh name (codes "outcomes") 228 e refl))

pub alone_letter : (name : List ℕ) (meaning : Words) → IsAlone name meaning → 99 ≤ get_or name 0 0
alone_letter name meaning (is_check e m) = let first = letter name (codes "check") 0 99 e refl in omega (arith, first)
alone_letter name meaning (is_list e m) = let first = letter name (codes "list") 0 108 e refl in omega (arith, first)
alone_letter name meaning (is_judge e m) = let first = letter name (codes "judge") 0 106 e refl in omega (arith, first)
alone_letter name meaning (is_race e m) = let first = letter name (codes "race") 0 114 e refl in omega (arith, first)
alone_letter name meaning (is_console e m) = let first = letter name (codes "console") 0 99 e refl in omega (arith, first)

pub budget_letter : (name : List ℕ) (most b : ℕ) (meaning : Words) → IsBudgeted name most b meaning → 101 ≤ get_or name 0 0
budget_letter name most b meaning (is_replay e f m) = let first = letter name (codes "replay") 0 114 e refl in omega (arith, first)
budget_letter name most b meaning (is_exec e f m) = let first = letter name (codes "exec") 0 101 e refl in omega (arith, first)
budget_letter name most b meaning (is_outcomes e f m) = let first = letter name (codes "outcomes") 0 111 e refl in omega (arith, first)

pub run_not_alone : {B : Type 0} (name : List ℕ) (meaning : Words) → IsAlone name meaning → name ≡ codes "run" → B
run_not_alone name meaning is e = alone_apart name meaning 231 is (weigh name (codes "run") 231 e refl)
    (record { check = λ p. omega arith; list = λ p. omega arith; judge = λ p. omega arith; race = λ p. omega arith; console = λ p. omega arith })

pub budget_not_alone : {B : Type 0} (name : List ℕ) (most b : ℕ) (one other : Words) → IsBudgeted name most b one → IsAlone name other → B
budget_not_alone {B = B} name most b one other is also = by (budget_weight name most b one is)
  where
    by : (weight name ≡ 215) ⊎ ((weight name ≡ 221) ⊎ (weight name ≡ 228)) → B
    by (inl w) = alone_apart name other 215 also w
        (record { check = λ p. omega arith; list = λ p. omega arith; judge = λ p. omega arith; race = λ p. omega arith; console = λ p. omega arith })
    by (inr (inl w)) = alone_apart name other 221 also w
        (record { check = λ p. omega arith; list = λ p. omega arith; judge = λ p. omega arith; race = λ p. omega arith; console = λ p. omega arith })
    by (inr (inr w)) = alone_apart name other 228 also w
        (record { check = λ p. omega arith; list = λ p. omega arith; judge = λ p. omega arith; race = λ p. omega arith; console = λ p. omega arith })

-- the name of a command that a number from 1 on follows has another weight
record NotBudgeted (n : ℕ) : Type 0 where
  replay : 215 ≢ n
  exec : 221 ≢ n
  outcomes : 228 ≢ n

budget_apart : {B : Type 0} (name : List ℕ) (most b : ℕ) (meaning : Words) (n : ℕ) → IsBudgeted name most b meaning → weight name ≡ n → NotBudgeted n → B
budget_apart {B = B} name most b meaning n is w not = by (budget_weight name most b meaning is)
  where
    by : (weight name ≡ 215) ⊎ ((weight name ≡ 221) ⊎ (weight name ≡ 228)) → B
    by (inl v) = apart name 215 n v w not.replay
    by (inr (inl v)) = apart name 221 n v w not.exec
    by (inr (inr v)) = apart name 228 n v w not.outcomes

pub budget_not_run : {B : Type 0} (name : List ℕ) (most b : ℕ) (meaning : Words) → IsBudgeted name most b meaning → name ≡ codes "run" → B
budget_not_run name most b meaning is e = budget_apart name most b meaning 231 is (weigh name (codes "run") 231 e refl)
    (record { replay = λ p. omega arith; exec = λ p. omega arith; outcomes = λ p. omega arith })

-- the greatest number after such a name is from 1 to below what a word of 64 bits holds, and there is one for each name
pub budget_small : (name : List ℕ) (most b : ℕ) (meaning : Words) → IsBudgeted name most b meaning → most < 2 ^ 64
budget_small name most b meaning (is_replay e f m) = rw f (omega arith)
budget_small name most b meaning (is_exec e f m) = rw f (omega arith)
budget_small name most b meaning (is_outcomes e f m) = rw f (omega arith)

replay_or_exec : {B : Type 0} (name : List ℕ) → name ≡ codes "replay" → name ≡ codes "exec" → B
replay_or_exec name e f = apart name 215 221 (weigh name (codes "replay") 215 e refl) (weigh name (codes "exec") 221 f refl) (λ p. omega arith)

replay_or_outcomes : {B : Type 0} (name : List ℕ) → name ≡ codes "replay" → name ≡ codes "outcomes" → B
replay_or_outcomes name e f = apart name 215 228 (weigh name (codes "replay") 215 e refl) (weigh name (codes "outcomes") 228 f refl) (λ p. omega arith)

exec_or_outcomes : {B : Type 0} (name : List ℕ) → name ≡ codes "exec" → name ≡ codes "outcomes" → B
exec_or_outcomes name e f = apart name 221 228 (weigh name (codes "exec") 221 e refl) (weigh name (codes "outcomes") 228 f refl) (λ p. omega arith)

pub same_budget : (name : List ℕ) (most greatest b k : ℕ) (one other : Words) → IsBudgeted name most b one → IsBudgeted name greatest k other → most ≡ greatest
same_budget name most greatest b k one other (is_replay e f m) (is_replay g h n) = f ∙ sym h
same_budget name most greatest b k one other (is_replay e f m) (is_exec g h n) = replay_or_exec name e g
same_budget name most greatest b k one other (is_replay e f m) (is_outcomes g h n) = replay_or_outcomes name e g
same_budget name most greatest b k one other (is_exec e f m) (is_replay g h n) = replay_or_exec name g e
same_budget name most greatest b k one other (is_exec e f m) (is_exec g h n) = f ∙ sym h
same_budget name most greatest b k one other (is_exec e f m) (is_outcomes g h n) = exec_or_outcomes name e g
same_budget name most greatest b k one other (is_outcomes e f m) (is_replay g h n) = replay_or_outcomes name g e
same_budget name most greatest b k one other (is_outcomes e f m) (is_exec g h n) = exec_or_outcomes name g e
same_budget name most greatest b k one other (is_outcomes e f m) (is_outcomes g h n) = f ∙ sym h

-- the name of a command that a number follows is none of the others
number_weight : (name : List ℕ) (most n : ℕ) (meaning : Words) → IsNumbered name most n meaning → (weight name ≡ 230) ⊎ (weight name ≡ 217)
number_weight name most n meaning (is_trial e f m) = inl (weigh name (codes "trial") 230 e refl)
number_weight name most n meaning (is_dump e f m) = inr (weigh name (codes "dump") 217 e refl)

pub number_letter : (name : List ℕ) (most n : ℕ) (meaning : Words) → IsNumbered name most n meaning → 100 ≤ get_or name 0 0
number_letter name most n meaning (is_trial e f m) = let first = letter name (codes "trial") 0 116 e refl in omega (arith, first)
number_letter name most n meaning (is_dump e f m) = let first = letter name (codes "dump") 0 100 e refl in omega (arith, first)

pub number_not_run : {B : Type 0} (name : List ℕ) (most n : ℕ) (meaning : Words) → IsNumbered name most n meaning → name ≡ codes "run" → B
number_not_run {B = B} name most n meaning is e = by (number_weight name most n meaning is)
  where
    by : (weight name ≡ 230) ⊎ (weight name ≡ 217) → B
    by (inl v) = apart name 230 231 v (weigh name (codes "run") 231 e refl) (λ p. omega arith)
    by (inr v) = apart name 217 231 v (weigh name (codes "run") 231 e refl) (λ p. omega arith)

pub number_not_budgeted : {B : Type 0} (name : List ℕ) (greatest b most n : ℕ) (one other : Words) → IsBudgeted name greatest b one → IsNumbered name most n other → B
number_not_budgeted {B = B} name greatest b most n one other is also = by (number_weight name most n other also)
  where
    by : (weight name ≡ 230) ⊎ (weight name ≡ 217) → B
    by (inl v) = budget_apart name greatest b one 230 is v (record { replay = λ p. omega arith; exec = λ p. omega arith; outcomes = λ p. omega arith })
    by (inr v) = budget_apart name greatest b one 217 is v (record { replay = λ p. omega arith; exec = λ p. omega arith; outcomes = λ p. omega arith })

pub number_not_alone : {B : Type 0} (name : List ℕ) (most n : ℕ) (one other : Words) → IsNumbered name most n one → IsAlone name other → B
number_not_alone {B = B} name most n one other is also = by (number_weight name most n one is)
  where
    by : (weight name ≡ 230) ⊎ (weight name ≡ 217) → B
    by (inl v) = alone_apart name other 230 also v
        (record { check = λ p. omega arith; list = λ p. omega arith; judge = λ p. omega arith; race = λ p. omega arith; console = λ p. omega arith })
    by (inr v) = alone_apart name other 217 also v
        (record { check = λ p. omega arith; list = λ p. omega arith; judge = λ p. omega arith; race = λ p. omega arith; console = λ p. omega arith })

-- the greatest number after such a name is below what a word of 64 bits holds, and there is one for each name
pub number_small : (name : List ℕ) (most n : ℕ) (meaning : Words) → IsNumbered name most n meaning → most < 2 ^ 64
number_small name most n meaning (is_trial e f m) = rw f (omega arith)
number_small name most n meaning (is_dump e f m) = rw f (omega arith)

trial_or_dump : {B : Type 0} (name : List ℕ) → name ≡ codes "trial" → name ≡ codes "dump" → B
trial_or_dump name e f = apart name 230 217 (weigh name (codes "trial") 230 e refl) (weigh name (codes "dump") 217 f refl) (λ p. omega arith)

pub same_greatest : (name : List ℕ) (most greatest n k : ℕ) (one other : Words) → IsNumbered name most n one → IsNumbered name greatest k other → most ≡ greatest
same_greatest name most greatest n k one other (is_trial e f m) (is_trial g h l) = f ∙ sym h
same_greatest name most greatest n k one other (is_trial e f m) (is_dump g h l) = trial_or_dump name e g
same_greatest name most greatest n k one other (is_dump e f m) (is_trial g h l) = trial_or_dump name g e
same_greatest name most greatest n k one other (is_dump e f m) (is_dump g h l) = f ∙ sym h

pub same_numbered : (name : List ℕ) (most greatest n k : ℕ) (one other : Words) → n ≡ k → IsNumbered name most n one → IsNumbered name greatest k other → one ≡ other
same_numbered name most greatest n k one other same (is_trial e f m) (is_trial g h l) = m ∙ ap (λ (x : ℕ). Trial x) same ∙ sym l
same_numbered name most greatest n k one other same (is_trial e f m) (is_dump g h l) = trial_or_dump name e g
same_numbered name most greatest n k one other same (is_dump e f m) (is_trial g h l) = trial_or_dump name g e
same_numbered name most greatest n k one other same (is_dump e f m) (is_dump g h l) = m ∙ ap (λ (x : ℕ). OnSource (Dump x)) same ∙ sym l

pub same_budgeted : (name : List ℕ) (most greatest b k : ℕ) (one other : Words) → b ≡ k → IsBudgeted name most b one → IsBudgeted name greatest k other → one ≡ other
same_budgeted name most greatest b k one other same (is_replay e f m) (is_replay g h n) = m ∙ ap (λ (x : ℕ). OnSource (Replay x)) same ∙ sym n
same_budgeted name most greatest b k one other same (is_replay e f m) (is_exec g h n) = replay_or_exec name e g
same_budgeted name most greatest b k one other same (is_replay e f m) (is_outcomes g h n) = replay_or_outcomes name e g
same_budgeted name most greatest b k one other same (is_exec e f m) (is_replay g h n) = replay_or_exec name g e
same_budgeted name most greatest b k one other same (is_exec e f m) (is_exec g h n) = m ∙ ap (λ (x : ℕ). Exec x) same ∙ sym n
same_budgeted name most greatest b k one other same (is_exec e f m) (is_outcomes g h n) = exec_or_outcomes name e g
same_budgeted name most greatest b k one other same (is_outcomes e f m) (is_replay g h n) = replay_or_outcomes name g e
same_budgeted name most greatest b k one other same (is_outcomes e f m) (is_exec g h n) = exec_or_outcomes name g e
same_budgeted name most greatest b k one other same (is_outcomes e f m) (is_outcomes g h n) = m ∙ ap (λ (x : ℕ). OnSource (Outcomes x)) same ∙ sym n

-- a word that is a command by itself means one
pub same_alone : (name : List ℕ) (one other : Words) → IsAlone name one → IsAlone name other → one ≡ other
same_alone name one other (is_check e m) (is_check f n) = m ∙ sym n
same_alone name one other (is_list e m) (is_list f n) = m ∙ sym n
same_alone name one other (is_judge e m) (is_judge f n) = m ∙ sym n
same_alone name one other (is_race e m) (is_race f n) = m ∙ sym n
same_alone name one other (is_check e m) (is_list f n) = apart name 203 213 (weigh name (codes "check") 203 e refl) (weigh name (codes "list") 213 f refl) (λ p. omega arith)
same_alone name one other (is_check e m) (is_judge f n) = apart name 203 223 (weigh name (codes "check") 203 e refl) (weigh name (codes "judge") 223 f refl) (λ p. omega arith)
same_alone name one other (is_check e m) (is_race f n) = apart name 203 211 (weigh name (codes "check") 203 e refl) (weigh name (codes "race") 211 f refl) (λ p. omega arith)
same_alone name one other (is_list e m) (is_check f n) = apart name 213 203 (weigh name (codes "list") 213 e refl) (weigh name (codes "check") 203 f refl) (λ p. omega arith)
same_alone name one other (is_list e m) (is_judge f n) = apart name 213 223 (weigh name (codes "list") 213 e refl) (weigh name (codes "judge") 223 f refl) (λ p. omega arith)
same_alone name one other (is_list e m) (is_race f n) = apart name 213 211 (weigh name (codes "list") 213 e refl) (weigh name (codes "race") 211 f refl) (λ p. omega arith)
same_alone name one other (is_judge e m) (is_check f n) = apart name 223 203 (weigh name (codes "judge") 223 e refl) (weigh name (codes "check") 203 f refl) (λ p. omega arith)
same_alone name one other (is_judge e m) (is_list f n) = apart name 223 213 (weigh name (codes "judge") 223 e refl) (weigh name (codes "list") 213 f refl) (λ p. omega arith)
same_alone name one other (is_judge e m) (is_race f n) = apart name 223 211 (weigh name (codes "judge") 223 e refl) (weigh name (codes "race") 211 f refl) (λ p. omega arith)
same_alone name one other (is_race e m) (is_check f n) = apart name 211 203 (weigh name (codes "race") 211 e refl) (weigh name (codes "check") 203 f refl) (λ p. omega arith)
same_alone name one other (is_race e m) (is_list f n) = apart name 211 213 (weigh name (codes "race") 211 e refl) (weigh name (codes "list") 213 f refl) (λ p. omega arith)
same_alone name one other (is_race e m) (is_judge f n) = apart name 211 223 (weigh name (codes "race") 211 e refl) (weigh name (codes "judge") 223 f refl) (λ p. omega arith)
same_alone name one other (is_console e m) (is_console f n) = m ∙ sym n
same_alone name one other (is_check e m) (is_console f n) = apart name 203 210 (weigh name (codes "check") 203 e refl) (weigh name (codes "console") 210 f refl) (λ p. omega arith)
same_alone name one other (is_console e m) (is_check f n) = apart name 210 203 (weigh name (codes "console") 210 e refl) (weigh name (codes "check") 203 f refl) (λ p. omega arith)
same_alone name one other (is_list e m) (is_console f n) = apart name 213 210 (weigh name (codes "list") 213 e refl) (weigh name (codes "console") 210 f refl) (λ p. omega arith)
same_alone name one other (is_console e m) (is_list f n) = apart name 210 213 (weigh name (codes "console") 210 e refl) (weigh name (codes "list") 213 f refl) (λ p. omega arith)
same_alone name one other (is_judge e m) (is_console f n) = apart name 223 210 (weigh name (codes "judge") 223 e refl) (weigh name (codes "console") 210 f refl) (λ p. omega arith)
same_alone name one other (is_console e m) (is_judge f n) = apart name 210 223 (weigh name (codes "console") 210 e refl) (weigh name (codes "judge") 223 f refl) (λ p. omega arith)
same_alone name one other (is_race e m) (is_console f n) = apart name 211 210 (weigh name (codes "race") 211 e refl) (weigh name (codes "console") 210 f refl) (λ p. omega arith)
same_alone name one other (is_console e m) (is_race f n) = apart name 210 211 (weigh name (codes "console") 210 e refl) (weigh name (codes "race") 211 f refl) (λ p. omega arith)

-- ---- what follows the name of a command

-- the words after `run`
pub record AfterRun (rest : List (List ℕ)) : Type 0 where
  pub processors : List ℕ
  pub budget : List ℕ
  pub last : List (List ℕ)
  pub p : ℕ
  pub b : ℕ
  pub rule : Rule
  pub are : rest ≡ processors ∷ budget ∷ last
  pub first : IsWordNumber MOST_PROCESSORS processors p
  pub second : IsWordNumber MOST_BUDGET budget b
  pub named : NameRule last rule

run_form : (rest : List (List ℕ)) (meaning : Words) → Form (codes "run" ∷ rest) meaning → AfterRun rest
run_form rest meaning (a_run processors budget last p b rule e f s n m) =
    record { processors = processors; budget = budget; last = last; p = p; b = b; rule = rule; are = cc; first = f; second = s; named = n }
run_form rest meaning (a_budget name budget most b e s is) = budget_not_run name most b meaning is (let same : name ≡ codes "run" = cc in same)
run_form rest meaning (a_from_zero name number most n e f is) = number_not_run name most n meaning is (let same : name ≡ codes "run" = cc in same)
run_form rest meaning (a_word name e is) = run_not_alone name meaning is (let same : name ≡ codes "run" = cc in same)

pub after_run : (rest : List (List ℕ)) (meaning : Words) → IsCommand (codes "run" ∷ rest) meaning → AfterRun rest
after_run rest meaning is = run_form rest meaning (form_of (codes "run" ∷ rest) meaning is)

-- the word after a name that a number from 1 on follows
pub record AfterName (most : ℕ) (rest : List (List ℕ)) : Type 0 where
  pub budget : List ℕ
  pub b : ℕ
  pub are : rest ≡ budget ∷ []
  pub first : IsWordNumber most budget b

budget_form : (name : List ℕ) (most k : ℕ) (one : Words) → IsBudgeted name most k one → (rest : List (List ℕ)) (meaning : Words) → Form (name ∷ rest) meaning → AfterName most rest
budget_form name most k one is rest meaning (a_run processors budget last p b rule e f s n m) = budget_not_run name most k one is (let same : name ≡ codes "run" = cc in same)
budget_form name most k one is rest meaning (a_budget other budget greatest b e s also) =
    let named : other ≡ name = cc in
    let same : greatest ≡ most = sym (same_budget name most greatest k b one meaning is (subst (λ w. IsBudgeted w greatest b meaning) named also)) in
    record { budget = budget; b = b; are = cc; first = subst (λ m. IsWordNumber m budget b) same s }
budget_form name most k one is rest meaning (a_from_zero other number greatest n e f also) =
    let same : other ≡ name = cc in number_not_budgeted name most k greatest n one meaning is (subst (λ w. IsNumbered w greatest n meaning) same also)
budget_form name most k one is rest meaning (a_word other e also) =
    let same : other ≡ name = cc in budget_not_alone name most k one meaning is (subst (λ w. IsAlone w meaning) same also)

pub after_name : (name : List ℕ) (most k : ℕ) (one : Words) → IsBudgeted name most k one → (rest : List (List ℕ)) (meaning : Words) → IsCommand (name ∷ rest) meaning →
    AfterName most rest
after_name name most k one is rest meaning also = budget_form name most k one is rest meaning (form_of (name ∷ rest) meaning also)

-- the word after a name that a number follows
pub record AfterNumbered (most : ℕ) (rest : List (List ℕ)) : Type 0 where
  pub number : List ℕ
  pub n : ℕ
  pub are : rest ≡ number ∷ []
  pub first : IsFromZero most number n

number_form : (name : List ℕ) (most k : ℕ) (one : Words) → IsNumbered name most k one → (rest : List (List ℕ)) (meaning : Words) → Form (name ∷ rest) meaning → AfterNumbered most rest
number_form name most k one is rest meaning (a_run processors budget last p b rule e f s n m) = number_not_run name most k one is (let same : name ≡ codes "run" = cc in same)
number_form name most k one is rest meaning (a_budget other budget greatest b e s also) =
    let same : other ≡ name = cc in number_not_budgeted name greatest b most k meaning one (subst (λ w. IsBudgeted w greatest b meaning) same also) is
number_form name most k one is rest meaning (a_from_zero other number greatest n e first also) =
    let named : other ≡ name = cc in
    let same : greatest ≡ most = sym (same_greatest name most greatest k n one meaning is (subst (λ w. IsNumbered w greatest n meaning) named also)) in
    record { number = number; n = n; are = cc; first = subst (λ m. IsFromZero m number n) same first }
number_form name most k one is rest meaning (a_word other e also) =
    let same : other ≡ name = cc in number_not_alone name most k one meaning is (subst (λ w. IsAlone w meaning) same also)

pub after_numbered : (name : List ℕ) (most k : ℕ) (one : Words) → IsNumbered name most k one → (rest : List (List ℕ)) (meaning : Words) → IsCommand (name ∷ rest) meaning →
    AfterNumbered most rest
after_numbered name most k one is rest meaning also = number_form name most k one is rest meaning (form_of (name ∷ rest) meaning also)

-- no word follows a command that is one word
alone_form : (name word : List ℕ) (rest : List (List ℕ)) (one meaning : Words) → IsAlone name one → Form (name ∷ word ∷ rest) meaning → ⊥
alone_form name word rest one meaning is (a_run processors budget last p b rule e f s n m) = run_not_alone name one is cc
alone_form name word rest one meaning is (a_budget other budget most b e s also) =
    let same : other ≡ name = cc in budget_not_alone name most b meaning one (subst (λ w. IsBudgeted w most b meaning) same also) is
alone_form name word rest one meaning is (a_from_zero other number most n e f also) =
    let same : other ≡ name = cc in number_not_alone name most n meaning one (subst (λ w. IsNumbered w most n meaning) same also) is
alone_form name word rest one meaning is (a_word other e also) = cc

-- ---- how the words of a command can begin

-- 1 is a number up to any other
pub one : (most : ℕ) → 1 ≤ most → IsWordNumber most (codes "1") 1
one most p = record { written = sym (decimal_digit 1 (omega arith)); least = omega arith; greatest = p }

pub begin_nothing : BeginCommand []
begin_nothing = (codes "check" ∷ [], OnSource Check, check)

pub begin_check : BeginCommand (codes "check" ∷ [])
begin_check = ([], OnSource Check, check)

pub begin_run : (processors : List ℕ) (p : ℕ) → IsWordNumber MOST_PROCESSORS processors p → BeginCommand (codes "run" ∷ processors ∷ [])
begin_run processors p is = (codes "1" ∷ [], OnSource (Run p 1 Fifo), run processors (codes "1") [] p 1 Fifo is (one MOST_BUDGET (omega arith)) refl)

-- so is 1 from 0 on
pub one_from_zero : (most : ℕ) → 1 ≤ most → IsFromZero most (codes "1") 1
one_from_zero most p = record { written = sym (decimal_digit 1 (omega arith)); greatest = p }

-- ---- whole commands

pub whole_alone : (name : List ℕ) (meaning : Words) → IsCommand (name ∷ []) meaning → IsAlone name meaning → IsWholeCommand (name ∷ []) meaning
whole_alone name meaning is alone =
    record { is = is; last = λ word (more, m, also). alone_form name word more meaning m alone (form_of (name ∷ word ∷ more) m also) }

pub whole_check : IsWholeCommand (codes "check" ∷ []) (OnSource Check)
whole_check = whole_alone (codes "check") (OnSource Check) check (is_check refl refl)

pub whole_list : IsWholeCommand (codes "list" ∷ []) (OnSource tasks.List)
whole_list = whole_alone (codes "list") (OnSource tasks.List) list (is_list refl refl)

pub whole_judge : IsWholeCommand (codes "judge" ∷ []) (OnSource Judge)
whole_judge = whole_alone (codes "judge") (OnSource Judge) judge (is_judge refl refl)

pub whole_race : IsWholeCommand (codes "race" ∷ []) (OnSource Race)
whole_race = whole_alone (codes "race") (OnSource Race) race (is_race refl refl)

pub whole_console : IsWholeCommand (codes "console" ∷ []) (OnSource Console)
whole_console = whole_alone (codes "console") (OnSource Console) console (is_console refl refl)

pub whole_run : (processors budget word : List ℕ) (p b : ℕ) (rule : Rule) → IsWordNumber MOST_PROCESSORS processors p → IsWordNumber MOST_BUDGET budget b → IsRule word rule →
    IsWholeCommand (codes "run" ∷ processors ∷ budget ∷ word ∷ []) (OnSource (Run p b rule))
whole_run processors budget word p b rule f s n = record {
  is = run processors budget (word ∷ []) p b rule f s n;
  last = λ next (more, m, also).
      let after = after_run (processors ∷ budget ∷ word ∷ next ∷ more) m also in
      let e = after.are in
      let same : after.last ≡ word ∷ next ∷ more = cc in
      subst (λ (ws : List (List ℕ)). NameRule ws after.rule) same after.named;
}

pub whole_budget : (name budget : List ℕ) (most b : ℕ) (meaning : Words) → IsBudgeted name most b meaning → IsCommand (name ∷ budget ∷ []) meaning → IsWholeCommand (name ∷ budget ∷ []) meaning
whole_budget name budget most b meaning budgeted is =
    record { is = is; last = λ word (more, m, also). let e = (after_name name most b meaning budgeted (budget ∷ word ∷ more) m also).are in cc }

pub whole_number : (name number : List ℕ) (most n : ℕ) (meaning : Words) → IsNumbered name most n meaning → IsCommand (name ∷ number ∷ []) meaning → IsWholeCommand (name ∷ number ∷ []) meaning
whole_number name number most n meaning numbered is =
    record { is = is; last = λ word (more, m, also). let e = (after_numbered name most n meaning numbered (number ∷ word ∷ more) m also).are in cc }

-- ---- the rules of dispatch are told apart by a letter

-- the word of a rule, and which it is
data RuleForm (word : List ℕ) (rule : Rule) : Type 0 where
  a_fifo : word ≡ codes "--rule=fifo" → rule ≡ Fifo → RuleForm word rule
  a_lifo : word ≡ codes "--rule=lifo" → rule ≡ Lifo → RuleForm word rule
  a_seed : (numeral : List ℕ) (n : ℕ) → word ≡ codes "--rule=seed:" ++ numeral → IsFromZero MOST_SEED numeral n → rule ≡ Seed n → RuleForm word rule

rule_form : (word : List ℕ) (rule : Rule) → IsRule word rule → RuleForm word rule
rule_form _ _ fifo = a_fifo refl refl
rule_form _ _ lifo = a_lifo refl refl
rule_form _ _ (seed numeral n is) = a_seed numeral n refl is refl

first_by : (word : List ℕ) (rule : Rule) → RuleForm word rule → get_or word 0 0 ≡ 45
first_by word rule (a_fifo e m) = letter word (codes "--rule=fifo") 0 45 e refl
first_by word rule (a_lifo e m) = letter word (codes "--rule=lifo") 0 45 e refl
first_by word rule (a_seed numeral n e is m) = letter word (codes "--rule=seed:" ++ numeral) 0 45 e refl

-- the word of a rule begins with a hyphen
pub rule_first : (word : List ℕ) (rule : Rule) → IsRule word rule → get_or word 0 0 ≡ 45
rule_first word rule is = first_by word rule (rule_form word rule is)

letters_apart : {B : Type 0} (n a b : ℕ) → n ≡ a → n ≡ b → a ≢ b → B
letters_apart n a b e f h = absurd (h (sym e ∙ f))

same_form_of : (word : List ℕ) (a b : Rule) → RuleForm word a → RuleForm word b → a ≡ b
same_form_of word a b (a_fifo e m) (a_fifo f n) = m ∙ sym n
same_form_of word a b (a_fifo e m) (a_lifo f n) =
    letters_apart (get_or word 7 0) 102 108 (letter word (codes "--rule=fifo") 7 102 e refl) (letter word (codes "--rule=lifo") 7 108 f refl) (λ p. omega arith)
same_form_of word a b (a_fifo e m) (a_seed numeral k f is n) =
    letters_apart (get_or word 7 0) 102 115 (letter word (codes "--rule=fifo") 7 102 e refl) (letter word (codes "--rule=seed:" ++ numeral) 7 115 f refl) (λ p. omega arith)
same_form_of word a b (a_lifo e m) (a_fifo f n) =
    letters_apart (get_or word 7 0) 108 102 (letter word (codes "--rule=lifo") 7 108 e refl) (letter word (codes "--rule=fifo") 7 102 f refl) (λ p. omega arith)
same_form_of word a b (a_lifo e m) (a_lifo f n) = m ∙ sym n
same_form_of word a b (a_lifo e m) (a_seed numeral k f is n) =
    letters_apart (get_or word 7 0) 108 115 (letter word (codes "--rule=lifo") 7 108 e refl) (letter word (codes "--rule=seed:" ++ numeral) 7 115 f refl) (λ p. omega arith)
same_form_of word a b (a_seed numeral k e is m) (a_fifo f n) =
    letters_apart (get_or word 7 0) 115 102 (letter word (codes "--rule=seed:" ++ numeral) 7 115 e refl) (letter word (codes "--rule=fifo") 7 102 f refl) (λ p. omega arith)
same_form_of word a b (a_seed numeral k e is m) (a_lifo f n) =
    letters_apart (get_or word 7 0) 115 108 (letter word (codes "--rule=seed:" ++ numeral) 7 115 e refl) (letter word (codes "--rule=lifo") 7 108 f refl) (λ p. omega arith)
same_form_of word a b (a_seed numeral k e is m) (a_seed other j f also n) =
    let same : numeral ≡ other = ap (drop 12) (sym e ∙ f) in
    let one : k ≡ j = decimal_injective k j (omega (arith, is.greatest)) (omega (arith, also.greatest)) (sym is.written ∙ same ∙ also.written) in
    m ∙ ap (λ (x : ℕ). Seed x) one ∙ sym n

-- a word names one rule
pub same_rule : (word : List ℕ) (a b : Rule) → IsRule word a → IsRule word b → a ≡ b
same_rule word a b is also = same_form_of word a b (rule_form word a is) (rule_form word b also)

pub same_name : (last : List (List ℕ)) (a b : Rule) → NameRule last a → NameRule last b → a ≡ b
same_name [] a b is also = is ∙ sym also
same_name (word ∷ []) a b is also = same_rule word a b is also
same_name (word ∷ other ∷ rest) a b is also = absurd is

-- what is no other rule is that of a number
seed_by : (word : List ℕ) (rule : Rule) → word ≢ codes "--rule=fifo" → word ≢ codes "--rule=lifo" → RuleForm word rule
    → (numeral : List ℕ) × (n : ℕ) × (word ≡ codes "--rule=seed:" ++ numeral) × IsFromZero MOST_SEED numeral n
seed_by word rule f l (a_fifo e m) = absurd (f e)
seed_by word rule f l (a_lifo e m) = absurd (l e)
seed_by word rule f l (a_seed numeral n e is m) = (numeral, n, e, is)

-- a text that begins as the rule of a number does names one where its rest is one, and else names none
pub seed_read : (text numeral : List ℕ) (k : ℕ) → k ≡ length (codes "--rule=seed:") → text ≡ codes "--rule=seed:" ++ drop k text → numeral ≡ drop k text → (n : ℕ)
    → IsFromZero MOST_SEED numeral n → IsRule text (Seed n)
seed_read text numeral k e split rest n is =
    subst (λ (w : List ℕ). IsRule w (Seed n)) (sym (split ∙ ap (λ (w : List ℕ). codes "--rule=seed:" ++ w) (sym rest))) (seed numeral n is)

pub no_seed_read : (text numeral : List ℕ) (k : ℕ) → k ≡ length (codes "--rule=seed:") → text ≡ codes "--rule=seed:" ++ drop k text → numeral ≡ drop k text
    → text ≢ codes "--rule=fifo" → text ≢ codes "--rule=lifo" → ((n : ℕ) → IsFromZero MOST_SEED numeral n → ⊥) → (rule : Rule) → IsRule text rule → ⊥
no_seed_read text numeral k e split rest f l none rule is =
    let s = seed_by text rule f l (rule_form text rule is) in
    let whole : text ≡ codes "--rule=seed:" ++ numeral = split ∙ ap (λ (w : List ℕ). codes "--rule=seed:" ++ w) (sym rest) in
    let same : s.0 ≡ numeral = ap (drop 12) (sym s.2 ∙ whole) in
    none s.1 (subst (λ (w : List ℕ). IsFromZero MOST_SEED w s.1) same s.3)

pub no_rule_read : (text : List ℕ) → ((rest : List ℕ) → drop 0 text ≢ codes "--rule=seed:" ++ rest) → text ≢ codes "--rule=fifo" → text ≢ codes "--rule=lifo"
    → (rule : Rule) → IsRule text rule → ⊥
no_rule_read text lacks f l rule is = let s = seed_by text rule f l (rule_form text rule is) in lacks s.0 s.2
