-- Which entries of a schedule are ordered.
use Rattle.std.specs.Prelude.{◌≡◌, ◌⊎◌, ℕ, ◌<◌, ◌≤◌, true, List}
use Rattle.b67_race.specs.Entries.{Signal, goes_by, sets, takes, frees, CellName, Done, touches, IsNumberedEntry}

-- Entry k is the last one before entry j that did this with an event.
pub record IsLastSignal (ds : List Done) (s : Signal) (k j : ℕ) : Type 0 where
  pub before : k < j
  pub done : Done
  pub is : IsNumberedEntry ds k done
  pub did : done.signal ≡ s
  pub last : (i : ℕ) (d : Done) → IsNumberedEntry ds i d → d.signal ≡ s → i < j → i ≤ k

-- Entry k is directly before entry j: both are of one process, or k starts or releases the process of j; or j goes on by an event, and k is
-- the last one before it that set that event happened; or j takes an event, and k is the last one before it that found that event not available
-- and left it available.
pub data Directly (ds : List Done) (k j : ℕ) : Type 0 where
  by_process : (d e : Done) → IsNumberedEntry ds k d → IsNumberedEntry ds j e → k < j → touches d e.process ≡ true → Directly ds k j
  by_cause : (e : Done) (c : CellName) → IsNumberedEntry ds j e → e.signal ≡ goes_by c → IsLastSignal ds (sets c) k j → Directly ds k j
  by_liberate : (e : Done) (c : CellName) → IsNumberedEntry ds j e → e.signal ≡ takes c → IsLastSignal ds (frees c) k j → Directly ds k j

-- by chains
pub data Ordered (ds : List Done) : ℕ → ℕ → Type 0 where
  one : {k j : ℕ} → Directly ds k j → Ordered ds k j
  chain : {k j : ℕ} (i : ℕ) → Ordered ds k i → Directly ds i j → Ordered ds k j

-- that entry, or one that is ordered before it
abbrev pub UpTo : List Done → ℕ → ℕ → Type 0
UpTo ds k j = (k ≡ j) ⊎ Ordered ds k j
