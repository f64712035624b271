-- The histories of the states that a search keeps: how each goes on from another, and that they differ.
use Rattle.std.specs.Prelude.{◌≡◌, ℕ, zero, suc, ◌<◌, ◌≤◌, List, ◌∷◌, ◌++◌, length, reverse, Some, slice_get}
use Rattle.b67_segment.specs.declared.code.Code.{Code}
use Rattle.b67_table.specs.Image.{Image}
use Rattle.b67_table.specs.Beginning.{first_image}
use Rattle.b67_table.specs.Runs.{RunEntry}
use Rattle.b67_outcomes.specs.declared.found.Step.{Step}
use Rattle.b67_outcomes.specs.declared.found.State.{State}
use Rattle.b67_outcomes.specs.declared.found.Found.{Found}
use Rattle.b67_outcomes.specs.Entering.{HistoryLeadsTo}
use Rattle.b67_outcomes.specs.Settling.{ImageSettles}
use Rattle.b67_outcomes.specs.Finding.{History, IsAfter, AreOnce, AreGrowing, AreBelow, HoldsState}

-- ---- what is kept at once

-- nothing is kept: some state is kept already, or there is no room for one
pub record IsSame (most : ℕ) (old new : Found) : Type 0 where
  pub steps : new.steps.items ≡ old.steps.items
  pub states : new.states.items ≡ old.states.items
  pub some : 1 ≤ most → 1 ≤ length old.states.items

-- no step is after a state of a greater number
abbrev pub AreOpen : Found → ℕ → Type 0
AreOpen found number = (k : ℕ) (s : State) → slice_get found.states.items k ≡ Some s → number < s.number → AreBelow found.steps.items s.number 0

-- and those after the history of this number are of processes below this one
pub record IsReady (found : Found) (number p : ℕ) : Type 0 where
  pub below : AreBelow found.steps.items number p
  pub others : AreOpen found number

-- no step is after a state from this place on
abbrev pub AreNotExpanded : Found → ℕ → Type 0
AreNotExpanded found done = (k : ℕ) (s : State) → done ≤ k → slice_get found.states.items k ≡ Some s → AreBelow found.steps.items s.number 0

module _ (code : Code) (Local : Image → ℕ → Type 0) where
  -- the history is that of entries that can be performed at once
  pub record IsBegun (history : List ℕ) : Type 0 where
    pub image : Image
    pub leads : HistoryLeadsTo code history image
    pub settles : ImageSettles code Local first_image history image

  -- the history goes on from another by an entry of a process, and after it by entries that can be performed at once
  pub record GoesOn (before history : List ℕ) : Type 0 where
    pub process : ℕ
    pub settled : List ℕ
    pub is : history ≡ settled ++ process ∷ before
    pub there : Image
    pub enters : HistoryLeadsTo code (process ∷ before) there
    pub image : Image
    pub leads : HistoryLeadsTo code history image
    pub settles : ImageSettles code Local there settled image

  -- the state is kept to which a path leads that goes on from this one, where the image is this, by entries that can be performed at once
  pub record IsHeld (old : Found) (number : ℕ) (path : List ℕ) (img : Image) (new : Found) : Type 0 where
    pub settled : List ℕ
    pub at : ℕ
    pub held : HoldsState old number (path ++ settled) at new
    pub image : Image
    pub after : IsAfter code old.steps.items number (path ++ settled) image
    pub settles : ImageSettles code Local img (reverse settled) image

  -- ---- histories

  -- the first is begun, and another goes on from one before it
  abbrev pub IsNext : List (List ℕ) → ℕ → List ℕ → Type 0
  IsNext histories zero h = IsBegun h
  IsNext histories (suc k) h = (j : ℕ) × (g : List ℕ) × (j ≤ k) × (slice_get histories j ≡ Some g) × GoesOn g h

  -- so it is with each, and no two of them are the same
  pub record AreKept (histories : List (List ℕ)) : Type 0 where
    pub some : 1 ≤ length histories
    pub each : (k : ℕ) (h : List ℕ) → slice_get histories k ≡ Some h → IsNext histories k h
    pub different : (j k : ℕ) (h : List ℕ) → slice_get histories j ≡ Some h → slice_get histories k ≡ Some h → j ≡ k

  -- by entries that can be performed at once the image leads to that of one of these histories
  pub record SettlesAmong (histories : List (List ℕ)) (img : Image) : Type 0 where
    pub settled : List ℕ
    pub image : Image
    pub settles : ImageSettles code Local img settled image
    pub place : ℕ
    pub history : List ℕ
    pub there : slice_get histories place ≡ Some history
    pub leads : HistoryLeadsTo code history image

  -- so it is with the first image, and with each to which an entry leads after one of these histories
  pub record AreClosed (histories : List (List ℕ)) : Type 0 where
    pub first : SettlesAmong histories first_image
    pub each : (k p n : ℕ) (h : List ℕ) (a b : Image) → slice_get histories k ≡ Some h → HistoryLeadsTo code h a → RunEntry code p a n b → SettlesAmong histories b

  -- ---- states

  -- the history of the first state is begun, and that of another goes on from that of one before it
  abbrev pub IsStateNext : List Step → List State → ℕ → State → Type 0
  IsStateNext steps states zero s = (h : List ℕ) × History steps s.number h × IsBegun h
  IsStateNext steps states (suc k) s =
      (j : ℕ) × (t : State) × (g : List ℕ) × (h : List ℕ) × (j ≤ k) × (slice_get states j ≡ Some t) × History steps t.number g × History steps s.number h
      × GoesOn g h

  -- so it is with each; no step is kept twice, and the numbers of the states grow
  pub record IsTree (found : Found) : Type 0 where
    pub once : AreOnce found.steps.items
    pub growing : AreGrowing found.states.items
    pub each : (k : ℕ) (s : State) → slice_get found.states.items k ≡ Some s → IsStateNext found.steps.items found.states.items k s
