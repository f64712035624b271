-- How runs go on.
use Rattle.std.specs.Prelude.{◌≡◌, ℕ, ◌+◌, true, List, [], ◌∷◌, ◌++◌}
use Rattle.b67_letters.specs.Entries.{letters}
use Rattle.b67_letters.specs.Letters.{letter}
use Rattle.b67_list.specs.Numbered.{numbered}
use Rattle.b67_segment.specs.declared.code.Code.{Code}
use Rattle.b67_table.specs.Ending.{may_act}
use Rattle.b67_table.specs.Image.{Image, is_live}
use Rattle.b67_table.specs.Runs.{Plains, ProcessActs, TableRun}
use Rattle.b67_table.specs.Sound.{Sound}
use Rattle.b67_table.specs.Valid.{IsValid}
use Rattle.b67_stands.specs.Tails.{with_more, tails_without, tail_of}

-- A run that leads to this image, from a valid image before its tails.
pub record Leads (code : Code) (schedule tails : List ℕ) (image : Image) : Type 0 where
  pub run : TableRun code schedule tails image
  pub valid : IsValid code run.before_tails

-- the same entries, with as many operators each, and the same letters
pub record SameEntries {code : Code} {schedule tails more : List ℕ} {a b : Image} (one : Leads code schedule tails a) (other : Leads code schedule more b) : Type 0 where
  pub history : other.run.history ≡ one.run.history
  pub counts : other.run.counts ≡ one.run.counts
  pub letters : letters other.run.runs ≡ letters one.run.runs

-- with one more, whose own operator is the process's next one in this image
pub record OneMore {code : Code} {before after tails left : List ℕ} {a b : Image} (p n : ℕ) (quiet : Image) (one : Leads code before tails a) (other : Leads code after left b) : Type 0 where
  pub history : other.run.history ≡ p ∷ one.run.history
  pub counts : other.run.counts ≡ n ∷ one.run.counts
  pub letters : letters other.run.runs ≡ letter code quiet p ∷ letters one.run.runs

-- the run with more in a tail
pub record LeadsOn (code : Code) (schedule tails : List ℕ) (a : Image) (leads : Leads code schedule tails a) (p n : ℕ) (b : Image) : Type 0 where
  pub on : Leads code schedule (with_more tails p n) b
  pub same : SameEntries leads on

abbrev pub RunsTakeOperators : Type 0
RunsTakeOperators =
    (code : Code) (schedule tails : List ℕ) (a b : Image) (p n : ℕ) (leads : Leads code schedule tails a) → is_live (numbered a.states p) ≡ true → Plains code p a n b
    → LeadsOn code schedule tails a leads p n b

-- the run with an entry more
pub record LeadsTo (code : Code) (schedule tails : List ℕ) (a : Image) (leads : Leads code schedule tails a) (p n : ℕ) (quiet b : Image) : Type 0 where
  pub to : Leads code (schedule ++ p ∷ []) (tails_without tails p) b
  pub more : OneMore p (tail_of tails p + n + 1) quiet leads to

abbrev pub RunsTakeEntries : Type 0
RunsTakeEntries =
    (code : Code) (schedule tails : List ℕ) (a quiet b : Image) (p n : ℕ) (leads : Leads code schedule tails a) → Sound code → may_act a p ≡ true → Plains code p a n quiet
    → ProcessActs code p quiet b → IsValid code b → LeadsTo code schedule tails a leads p n quiet b
