-- The intrinsics: what each does where its procedure word is entered, with a mark at F and its arguments above it.
use Rattle.std.specs.Prelude.{ℕ, zero, suc, ◌+◌, ◌-◌, ◌*◌, ◌&&◌, nat_lt, nat_le, Bool, if◌then◌else◌, ℤ, pos, negsuc, ◌+ℤ◌, List, [], ◌∷◌, length, Option, Some, None}
use Rattle.b67_num.specs.declared.FaultKind.TheVariants.{CaseIndex}
use Rattle.b67_word.specs.declared.Place.{Place}
use Rattle.b67_word.specs.Word.{Word, operand, truth}
use Rattle.b67_control.specs.declared.Registers.{Registers}
use Rattle.b67_control.specs.declared.Mscw.{Mscw}
use Rattle.b67_control.specs.Control.{event_word}
use Rattle.b67_deeds.specs.declared.EventAct.TheVariants as act
use Rattle.b67_deeds.specs.declared.EventTest.{EventTest}
use Rattle.b67_deeds.specs.declared.EventTest.TheVariants as test
use Rattle.b67_deeds.specs.Deeds.{EventDeed, acts, tests}
use Rattle.b67_segment.specs.declared.code.Code.{Code}
use Rattle.b67_table.specs.declared.Cell.{Cell}
use Rattle.b67_ops.specs.declared.intrinsic.Intrinsic.{Intrinsic}
use Rattle.b67_table.specs.Names.{intrinsic_numbered}
use Rattle.b67_ops.specs.declared.intrinsic.Intrinsic.TheVariants as names
use Rattle.b67_table.specs.Limits.{end_of_code, most_arrays, most_events}
use Rattle.b67_table.specs.Look.{Look, found, ◌>->◌, valid}
use Rattle.b67_table.specs.Chains.{place}
use Rattle.b67_table.specs.References.{cell_place, invalid}
use Rattle.b67_table.specs.Program.{Test, answer, fault, loads, event_answer, test_first_happened, woken, ◌>>=◌, see, Change, done, open_event, event_deed, wait_any, go_on, line, Program}
use Rattle.b67_table.specs.Arrays.{Extents, one, two, extent, if_small, if_held, arrays_made}
use Rattle.b67_table.specs.Arguments.{IntrinsicRow, no_such, Three, three, wholes, argument_number_in, event_of, events_of, if_chained, finished_at}
use Rattle.b67_table.specs.Lines.{line_for}
use Rattle.b67_table.specs.GoingTo.{go_to}
use Rattle.b67_table.specs.Starting.{start_process}

-- ---- SELECT

abbrev pub not_negative : ℤ → Option ℕ
not_negative (pos n) = Some n
not_negative (negsuc n) = None

-- the index, where it is from 0 to one below the count
abbrev pub case_in : ℤ → ℤ → Option ℕ
case_in (negsuc n) count = None
case_in (pos n) (negsuc k) = None
case_in (pos n) (pos k) = if nat_lt n k then Some n else None

-- where the place for an index lies, and none where there is no such case
abbrev pub case_place : ℤ → Option ℕ → Look (Option ℕ)
case_place first None = found None
case_place first (Some n) = valid (argument_number_in (first +ℤ pos (3 * n)) end_of_code) >-> (λ (to : ℕ). found (Some to))

abbrev pub gone_to_case : Registers → Mscw → Option ℕ → Program
gone_to_case r m None = fault CaseIndex
gone_to_case r m (Some to) = answer (finished_at r m [] to)

abbrev pub select : IntrinsicRow
select code r next m words =
    see (three words) >>= (λ (z : Three). see (case_place z.third (case_in z.first z.second)) >>= (λ (to : Option ℕ).
    if_chained r m (gone_to_case r m to)))

-- ---- ARRAYS

-- how many arrays, and their bounds in pairs
pub record Wanted : Type 0 where
  pub count : ℕ
  pub bounds : List ℤ

abbrev pub count_in : ℤ → Option ℕ
count_in (pos n) = if nat_le 1 n && nat_le n most_arrays then Some n else None
count_in (negsuc n) = None

abbrev pub wanted_with : ℤ → List ℤ → Look Wanted
wanted_with k bounds = valid (count_in k) >-> (λ (n : ℕ). found (record { count = n; bounds = bounds }))

abbrev pub intrinsic_wanted : List ℤ → Look Wanted
intrinsic_wanted (k ∷ low ∷ high ∷ []) = wanted_with k (low ∷ high ∷ [])
intrinsic_wanted (k ∷ low ∷ high ∷ low2 ∷ high2 ∷ []) = wanted_with k (low ∷ high ∷ low2 ∷ high2 ∷ [])
intrinsic_wanted zs = invalid

abbrev pub extents : List ℤ → Test Extents
extents (low ∷ high ∷ []) = extent low high >>= (λ (n : ℕ). if_small (one n))
extents (low ∷ high ∷ low2 ∷ high2 ∷ []) = extent low high >>= (λ (m : ℕ). extent low2 high2 >>= (λ (n : ℕ). if_small (two m n)))
extents zs = no_such

abbrev pub arrays : IntrinsicRow
arrays code r next m words =
    see (wholes words >-> intrinsic_wanted) >>= (λ (w : Wanted). if_chained r m
    (extents w.bounds >>= (λ (e : Extents). if_held w.count e >>= (λ (held : Extents).
    answer (arrays_made w.count held [] (λ (made : List Word). finished_at r m made next))))))

-- ---- WRITE

abbrev pub write : IntrinsicRow
write code r next m words =
    see (wholes words >-> (λ (zs : List ℤ). valid (line_for code zs))) >>= (λ (bytes : List ℕ).
    if_chained r m (answer (line bytes (finished_at r m [] next))))

-- ---- events

abbrev pub make_event : IntrinsicRow
make_event code r next m [] = if_chained r m (answer (open_event (place r.stack r.f) (finished_at r m (event_word (record {}) ∷ []) next)))
make_event code r next m (w ∷ words) = no_such

-- a deed that is done with the one event that is the argument
abbrev pub on_event : EventDeed → IntrinsicRow
on_event x code r next m (w ∷ []) =
    event_of r w >>= (λ (c : Cell). if_chained r m (answer (event_deed x (cell_place c) (finished_at r m [] next))))
on_event x code r next m [] = no_such
on_event x code r next m (w ∷ v ∷ words) = no_such

-- what the one event that is the argument answers; asking it is a deed as well
abbrev pub tell_event : EventTest → IntrinsicRow
tell_event x code r next m (w ∷ []) =
    event_of r w >>= (λ (c : Cell). if_chained r m (event_answer x (cell_place c) (λ (told : Bool).
    answer (event_deed (tests x) (cell_place c) (finished_at r m (truth told ∷ []) next)))))
tell_event x code r next m [] = no_such
tell_event x code r next m (w ∷ v ∷ words) = no_such

-- ---- several events

-- the process goes on with a position
abbrev pub gone_on : Registers → ℕ → Mscw → ℕ → Change
gone_on r next m n = finished_at r m (operand (pos n) ∷ []) next

-- where none of the events lets it go on it waits, and this operator is its next one again
abbrev pub gone_or_waiting : Registers → ℕ → Mscw → List Place → Option ℕ → Program
gone_or_waiting r next m places None = answer (wait_any places done)
gone_or_waiting r next m places (Some n) = answer (gone_on r next m n)

-- a process that was released goes on with its woken number, whatever the events are now
abbrev pub woken_or_not : Registers → ℕ → Mscw → List Place → ℕ → Program
woken_or_not r next m places zero = test_first_happened places (gone_or_waiting r next m places)
woken_or_not r next m places (suc n) = answer (go_on (gone_on r next m (suc n)))

abbrev pub if_several : {A : Type 0} → List Word → Test A → Test A
if_several words more = if nat_le 1 (length words) && nat_le (length words) most_events then more else no_such

abbrev pub wait_for_any : IntrinsicRow
wait_for_any code r next m words =
    if_several words (events_of r words >>= (λ (places : List Place). if_chained r m (woken r.stack (woken_or_not r next m places))))

-- ---- all of them

abbrev pub row_of_intrinsic : Intrinsic → IntrinsicRow
row_of_intrinsic names.GoTo = go_to
row_of_intrinsic names.Select = select
row_of_intrinsic names.Arrays = arrays
row_of_intrinsic names.Event = make_event
row_of_intrinsic names.Start = start_process
row_of_intrinsic names.Write = write
row_of_intrinsic names.Wait = on_event (acts act.Wait)
row_of_intrinsic names.Cause = on_event (acts act.Cause)
row_of_intrinsic names.Reset = on_event (acts act.Reset)
row_of_intrinsic names.Happened = tell_event test.Happened
row_of_intrinsic names.Procure = on_event (acts act.Procure)
row_of_intrinsic names.Liberate = on_event (acts act.Liberate)
row_of_intrinsic names.WaitAny = wait_for_any
row_of_intrinsic names.CauseAndReset = on_event (acts act.CauseAndReset)
row_of_intrinsic names.Available = tell_event test.Available
row_of_intrinsic names.Fix = tell_event test.Fix

-- a number of which there is no intrinsic is no operand of the entry
abbrev pub intrinsic_row : Option Intrinsic → IntrinsicRow
intrinsic_row None code r next m words = no_such
intrinsic_row (Some name) code r next m words = row_of_intrinsic name code r next m words

-- the intrinsic of a number; its arguments stand above the procedure's word
abbrev pub intrinsic : ℕ → Code → Registers → ℕ → Mscw → Program
intrinsic number code r next m =
    loads (place r.stack (r.f + 2)) (r.s - (r.f + 2)) (λ (words : List Word). intrinsic_row (intrinsic_numbered number) code r next m words)
