-- What an operator of one process makes of another's state: who is able stays able, and who lives lives on.
use Rattle.std.proofs.Common.{◌≡◌, ◌≢◌, sym, ap, ◌∙◌, ℕ, zero, suc, Bool, true, List, [], ◌∷◌, ◌++◌, set, Option, Some}
use Rattle.std.specs.Prelude.{slice_get}
use Rattle.b67_list.specs.Numbered.{numbered, set_numbered}
use Rattle.b67_word.specs.declared.Place.{Place}
use Rattle.b67_deeds.specs.Deeds.{Next, goes, waits, procures}
use Rattle.b67_events.specs.Events.{deed_at}
use Rattle.b67_table.specs.declared.ProcessState.{ProcessState}
use Rattle.b67_table.specs.declared.ProcessState.TheVariants.{Able, WaitsFor, WaitsAny, Procures, Ended}
use Rattle.b67_table.specs.Image.{Image}
use Rattle.b67_table.specs.Questions.{told}
use Rattle.b67_table.specs.Writes.{Write, write_made, able_again, waiting}
use Rattle.b67_table.specs.Writes as writes
use Rattle.b67_table.specs.Program.{Change, done, look_up, write, changed}
use Rattle.b67_table.proofs.Stacks.{get_numbered_other}

-- a test that each able process passes
module _ (test : Option ProcessState → Bool) (passes : test (Some Able) ≡ true) where
  set_able : (xs : List ProcessState) (n k : ℕ) → test (slice_get xs k) ≡ true → test (slice_get (set xs n Able) k) ≡ true
  set_able [] n k h = h
  set_able (x ∷ xs) zero zero h = passes
  set_able (x ∷ xs) zero (suc k) h = h
  set_able (x ∷ xs) (suc n) zero h = h
  set_able (x ∷ xs) (suc n) (suc k) h = set_able xs n k h

  one_more : (xs : List ProcessState) (k : ℕ) → test (slice_get xs k) ≡ true → test (slice_get (xs ++ Able ∷ []) k) ≡ true
  one_more [] zero h = passes
  one_more [] (suc k) h = h
  one_more (x ∷ xs) zero h = h
  one_more (x ∷ xs) (suc k) h = one_more xs k h

  able_set : (xs : List ProcessState) (p q : ℕ) → test (numbered xs q) ≡ true → test (numbered (set_numbered xs p Able) q) ≡ true
  able_set xs zero q h = h
  able_set xs (suc n) zero h = h
  able_set xs (suc n) (suc k) h = set_able xs n k h

  able_more : (xs : List ProcessState) (q : ℕ) → test (numbered xs q) ≡ true → test (numbered (xs ++ Able ∷ []) q) ≡ true
  able_more xs zero h = h
  able_more xs (suc k) h = one_more xs k h

  pub able_all : (ps : List ℕ) (xs : List ProcessState) (q : ℕ) → test (numbered xs q) ≡ true → test (numbered (able_again ps xs) q) ≡ true
  able_all [] xs q h = h
  able_all (p ∷ ps) xs q h = able_all ps (set_numbered xs p Able) q (able_set xs p q h)

  other_set : (xs : List ProcessState) (p q : ℕ) (s : ProcessState) → p ≢ q → test (numbered xs q) ≡ true → test (numbered (set_numbered xs p s) q) ≡ true
  other_set xs p q s n h = ap test (get_numbered_other xs p q s (λ e. n (sym e))) ∙ h

  other_waits : (next : Next) (place : Place) (xs : List ProcessState) (p q : ℕ) → p ≢ q → test (numbered xs q) ≡ true
      → test (numbered (waiting next place p xs) q) ≡ true
  other_waits goes place xs p q n h = h
  other_waits waits place xs p q n h = other_set xs p q (WaitsFor place) n h
  other_waits procures place xs p q n h = other_set xs p q (Procures place) n h

  written_passes : (p q : ℕ) (w : Write) (img : Image) → p ≢ q → test (numbered img.states q) ≡ true → test (numbered (write_made p w img).states q) ≡ true
  written_passes p q (writes.save place w) img n h = h
  written_passes p q (writes.cut stack count) img n h = h
  written_passes p q (writes.push stack w) img n h = h
  written_passes p q (writes.registers r) img n h = h
  written_passes p q (writes.open_row m count counted) img n h = h
  written_passes p q (writes.write_row m at w) img n h = h
  written_passes p q (writes.close_row m) img n h = h
  written_passes p q (writes.open_event place) img n h = h
  written_passes p q (writes.close_events stack at) img n h = h
  written_passes p q (writes.event_deed x place) img n h =
      let d = deed_at x p place img.events in able_all d.frees (waiting d.next place p img.states) q (other_waits d.next place img.states p q n h)
  written_passes p q (writes.wait_any places) img n h = other_set img.states p q WaitsAny n h
  written_passes p q writes.go_on img n h = h
  written_passes p q (writes.line bytes) img n h = h
  written_passes p q (writes.start r words) img n h = able_more img.states q h
  written_passes p q (writes.end_process stack) img n h = other_set img.states p q Ended n h

  pub changed_passes : (p q : ℕ) (c : Change) (img : Image) → p ≢ q → test (numbered img.states q) ≡ true → test (numbered (changed p c img).states q) ≡ true
  changed_passes p q done img n h = h
  changed_passes p q (look_up a more) img n h = changed_passes p q (more (told img a)) img n h
  changed_passes p q (write w next) img n h = changed_passes p q next (write_made p w img) n (written_passes p q w img n h)
