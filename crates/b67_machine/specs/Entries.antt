-- Entries of one process, one after another.
use Rattle.std.specs.Prelude.{◌≡◌, ℕ, ◌+◌, ◌-◌, ◌<◌, ◌≤◌, true, false, List, [], ◌∷◌, ◌++◌, length, take, slice_get, Some, None, IfSome}
use Rattle.b67_deeds.specs.declared.Letter.{Letter}
use Rattle.b67_table.specs.Valid.{IsValid}
use Rattle.b67_action.specs.declared.done.Done.TheVariants.{Went}
use Rattle.b67_action.specs.Able.{able_in, AbleAfter}
use Rattle.b67_machine.specs.declared.entries.Entered.{Entered}
use Rattle.b67_machine.specs.Kept.{MachineModel}
use Rattle.b67_machine.specs.Reads.{machine_end}
use Rattle.b67_machine.specs.Stepping.{operators_in, MachinePerforms}

-- nobody was released, nobody was started, and no fault came
pub record IsCalm (old new : MachineModel) : Type 0 where
  pub states : new.image.states ≡ old.image.states
  pub started : new.image.started ≡ old.image.started
  pub fault : new.image.fault ≡ old.image.fault
  pub released : new.released ≡ []

-- an entry that went on, and whose action, of this letter, released nobody and started nobody
pub record EntryPasses (old : MachineModel) (p most plain : ℕ) (l : Letter) (new : MachineModel) : Type 0 where
  pub performs : MachinePerforms old p most (record { plain = plain; done = Some Went }) new
  pub letter : new.letter ≡ Some l
  -- the process is able still
  pub still : able_in new.image p ≡ true
  pub started : new.image.started ≡ old.image.started
  pub released : new.released ≡ []
  pub able : AbleAfter old.image new.image p new.released
  pub ends : machine_end new ≡ None
  pub lacked : new.lacked ≡ false
  pub valid : IsValid new.code new.image

-- such entries with these letters follow one another, of so many operators in all
pub data EntriesFollow (p most : ℕ) : MachineModel → List Letter → ℕ → MachineModel → Type 0 where
  stay : {a : MachineModel} → EntriesFollow p most a [] 0 a
  go : {a b c : MachineModel} {ls : List Letter} {l : Letter} {m k : ℕ} → EntriesFollow p most a ls m b → EntryPasses b p (most - m) k l c
      → EntriesFollow p most a (ls ++ l ∷ []) (m + (k + 1)) c

-- Such entries, fewer than letters can be noted, and then one more, for which operators are left. Their letters are noted first, and then that of
-- the last one, where its action was performed.
pub record PerformsEntries (old : MachineModel) (p most : ℕ) (entered : Entered) (noted : List Letter) (new : MachineModel) : Type 0 where
  pub between : MachineModel
  pub few : entered.entries < length noted
  pub enters : EntriesFollow p most old (take entered.entries noted) entered.operators between
  pub within : entered.operators ≤ most
  pub less : 1 ≤ most → entered.operators < most
  pub performs : MachinePerforms between p (most - entered.operators) entered.last new
  pub able : IfSome entered.last.done (λ done. operators_in done ≡ 1 → AbleAfter between.image new.image p new.released)
  pub last : IfSome entered.last.done (λ done. operators_in done ≡ 1 → slice_get noted entered.entries ≡ new.letter)
