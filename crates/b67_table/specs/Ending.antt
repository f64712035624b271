-- How a run ends, read on its image.
use Rattle.std.specs.Prelude.{ℕ, ◌&&◌, not, if◌then◌else◌, Bool, true, false, List, [], ◌∷◌, Option, Some, None}
use Rattle.b67_list.specs.Numbered.{numbered}
use Rattle.b67_num.specs.declared.FaultKind.{FaultKind}
use Rattle.b67_table.specs.declared.ProcessState.{ProcessState}
use Rattle.b67_table.specs.declared.ProcessState.TheVariants.{Able, Ended}
use Rattle.b67_table.specs.Image.{Image, Failure, is_able}

pub data ImageEnd : Type 0 where
  finished : ImageEnd
  faulted : FaultKind → ℕ → ImageEnd
  all_waiting : ImageEnd

abbrev pub has_ended : Option ProcessState → Bool
has_ended (Some Ended) = true
has_ended _ = false

abbrev pub some_able : List ProcessState → Bool
some_able [] = false
some_able (Able ∷ states) = true
some_able (_ ∷ states) = some_able states

abbrev pub some_lives : List ProcessState → Bool
some_lives [] = false
some_lives (Ended ∷ states) = some_lives states
some_lives (_ ∷ states) = true

abbrev pub image_end_by : Option Failure → List ProcessState → Option ImageEnd
image_end_by (Some f) states = Some (faulted f.kind f.process)
image_end_by None states = if some_lives states && not (some_able states) then Some all_waiting else None

-- the first that holds: process 1 has ended; a fault is kept; a process lives and none is able
unfoldable pub image_end : Image → Option ImageEnd
image_end img = if has_ended (numbered img.states 1) then Some finished else image_end_by img.fault img.states

abbrev pub goes_on : Option ImageEnd → Bool → Bool
goes_on None able_now = able_now
goes_on (Some e) able_now = false

-- the process is able and the image has no end
unfoldable pub may_act : Image → ℕ → Bool
may_act img p = goes_on (image_end img) (is_able (numbered img.states p))

-- the fault is kept
unfoldable pub failed : Image → ℕ → FaultKind → Image
failed img p kind = record img { fault = Some (record { kind = kind; process = p }) }
