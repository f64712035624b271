-- Which images are valid, whatever code is run: what the first image has and every operator keeps, and what the machine rests on.
use Rattle.std.specs.Prelude.{◌≡◌, ℕ, ◌+◌, ◌-◌, ◌<◌, ◌≤◌, ◌^◌, ◌==◌, not, Bool, true, false, List, ◌∷◌, ◌++◌, length, replicate, All, map, Option, Some, None, is_some}
use Rattle.std.specs.List.{list_any}
use Rattle.std.specs.Option.{ForSome}
use Rattle.b67_list.specs.Numbered.{numbered}
use Rattle.b67_num.specs.declared.FaultKind.{FaultKind}
use Rattle.b67_word.specs.declared.Place.{Place}
use Rattle.b67_word.specs.Word.{Word, IsWord}
use Rattle.b67_control.specs.declared.Registers.{Registers}
use Rattle.b67_control.specs.declared.Mscw.{Mscw}
use Rattle.b67_control.specs.declared.Rcw.{Rcw}
use Rattle.b67_control.specs.declared.Descriptor.{Descriptor}
use Rattle.b67_control.specs.Control.{as_mscw, as_rcw, as_descriptor}
use Rattle.b67_control.specs.Display.{levels}
use Rattle.b67_segment.specs.declared.code.Segment.{Segment}
use Rattle.b67_segment.specs.declared.code.Code.{Code}
use Rattle.b67_store.specs.Store.{stack_at, words_of, word_at, row_words, counted_words, count_limit, row_limit, stack_limit}
use Rattle.b67_events.specs.Events.{Event, waiters_at, procurers_at, event_is_among, list_of, is_listed}
use Rattle.b67_events.specs.Laws.{EventsAreApart}
use Rattle.b67_events.specs.Once.{EachOnce}
use Rattle.b67_table.specs.declared.ProcessState.{ProcessState}
use Rattle.b67_table.specs.declared.ProcessState.TheVariants.{Able, WaitsFor, WaitsAny, Procures, Ended}
use Rattle.b67_table.specs.Private.{display_at, floor}
use Rattle.b67_table.specs.Limits.{segment_limit, segment_numbers, most_cells, most_processes, most_events}
use Rattle.b67_table.specs.Look.{read_as}
use Rattle.b67_table.specs.Chains.{place}
use Rattle.b67_table.specs.Image.{Image, is_able, is_live}
use Rattle.b67_table.specs.Ending.{failed}
use Rattle.b67_table.specs.Outcome.{gives}
use Rattle.b67_table.specs.Table.{table, private_next}
use Rattle.b67_table.specs.Privacy.{ProcessStands}
use Rattle.b67_table.specs.Beginning.{system_stack, first_image}

-- ---- frames

-- a place that a reference and a mark can hold
pub record IsHeld (f : Place) : Type 0 where
  pub stack : f.stack < 2 ^ 10
  pub displacement : f.at < 2 ^ 16

-- a display at this level: stack 0, nothing, a place for each level from 2 on, and nothing above
pub record IsDisplay (level : ℕ) (display : List (Option Place)) : Type 0 where
  pub frames : List Place
  pub some : 1 ≤ length frames
  pub each : length frames + 1 ≡ level
  pub known : level < levels
  pub held : All IsHeld frames
  pub is : display ≡ Some (place 0 0) ∷ None ∷ map (λ (f : Place). Some f) frames ++ replicate (levels - (level + 1)) None

-- an entered mark stands at the place, and a control word above it
pub record IsFrame (img : Image) (f : Place) : Type 0 where
  pub mark : Mscw
  pub marked : read_as as_mscw (word_at img.stacks f) ≡ Some mark
  pub entered : mark.entered ≡ true
  pub control : Rcw
  pub controlled : read_as as_rcw (word_at img.stacks (place f.stack (f.at + 1))) ≡ Some control

-- ---- a live process

-- Of its frame this says that it is one, and that its floor is no higher than S. It does not say that F is below S or names a mark,
-- that the frame is the one that was entered last, or that what a link or a critical place names is still a frame: words that are
-- moved and copied break each of these.
pub record IsProcess (img : Image) (p : ℕ) (r : Registers) : Type 0 where
  pub stack : r.stack ≡ p
  pub size : r.s ≡ length (words_of img.stacks p)
  pub room : r.s ≤ stack_limit
  pub display : IsDisplay r.ll r.display
  pub frame : ℕ
  pub own : display_at r r.ll ≡ Some (place p frame)
  pub is_frame : IsFrame img (place p frame)
  pub above : floor r ≤ r.s
  pub mark : r.f < 2 ^ 16
  pub cells : r.cells ≤ most_cells
  pub segment : r.segment < segment_numbers
  pub pointer : r.place < 2 ^ 16

-- ---- rows

-- no word of a row describes a mother, so that rows are closed at two depths
abbrev pub is_no_mother : Option Descriptor → Bool
is_no_mother None = true
is_no_mother (Some d) = not d.mother

pub record AreRows (img : Image) : Type 0 where
  pub few : length img.rows ≤ row_limit
  pub room : counted_words img.rows ≤ count_limit
  pub short : (n : ℕ) → length (row_words img.rows n) ≤ count_limit
  pub words : (n : ℕ) → All IsWord (row_words img.rows n)
  pub shallow : (n : ℕ) → All (λ (w : Word). is_no_mother (as_descriptor w) ≡ true) (row_words img.rows n)

-- ---- waiting

abbrev pub waits : Option ProcessState → Bool
waits (Some (WaitsFor place)) = true
waits (Some WaitsAny) = true
waits (Some (Procures place)) = true
waits (Some Able) = false
waits (Some Ended) = false
waits None = false

-- a process in this state, with these places where it waits for several events, waits for the event at a place to happen
abbrev pub AwaitsAt : Option ProcessState → List Place → Place → Type 0
AwaitsAt (Some (WaitsFor place)) places at = place ≡ at
AwaitsAt (Some WaitsAny) places at = event_is_among places at ≡ true
AwaitsAt _ places at = ⊥

-- the events that are open, the places of those for which processes wait, and the processes' states
pub record AreEvents (es : List Event) (lists : List (List Place)) (states : List ProcessState) : Type 0 where
  pub apart : EventsAreApart es
  pub once : EachOnce es
  -- who stands in a list of an event waits for it; who waits need not stand in one, since an event may be closed or opened anew
  pub waiters : (p : ℕ) (at : Place) → list_any (λ q. p == q) (waiters_at at es) ≡ true → AwaitsAt (numbered states p) (list_of p lists) at
  pub procurers : (p : ℕ) (at : Place) → list_any (λ q. p == q) (procurers_at at es) ≡ true → numbered states p ≡ Some (Procures at)
  -- who has a list of places waits for several events, and for no more than a process can
  pub listed : (p : ℕ) → is_listed p lists ≡ true → numbered states p ≡ Some WaitsAny
  pub short : (p : ℕ) → length (list_of p lists) ≤ most_events

-- ---- images

pub record IsValid (code : Code) (img : Image) : Type 0 where
  pub segments : All (λ (s : Segment). length s.words ≤ segment_limit) code.segments
  pub words : (n : ℕ) → All IsWord (words_of img.stacks n)
  pub registers : length img.regs ≡ img.started
  pub states : length img.states ≡ img.started
  pub numbers : length img.numbers ≡ img.started
  -- a woken number is a position
  pub positions : All (λ (n : ℕ). n ≤ most_events) img.numbers
  pub some : 1 ≤ img.started
  pub most : img.started ≤ most_processes
  pub system : stack_at img.stacks 0 ≡ Some system_stack
  -- a stack is open while its process lives, and there are no others
  pub stacks : (p : ℕ) → 1 ≤ p → is_some (stack_at img.stacks p) ≡ is_live (numbered img.states p)
  pub processes : (p : ℕ) (r : Registers) → is_live (numbered img.states p) ≡ true → numbered img.regs p ≡ Some r → IsProcess img p r
  -- the critical place of a process, also of one that has ended, lies in the stack of a process that was started before it
  pub earlier : (p : ℕ) (r : Registers) → numbered img.regs p ≡ Some r → ForSome r.critical (λ (c : Place). c.stack < p)
  pub rows : AreRows img
  pub events : AreEvents img.events img.lists img.states

-- the first image of a code whose segments have at most 8,192 words is valid
abbrev pub FirstIsValid : Type 0
FirstIsValid = (code : Code) → All (λ (s : Segment). length s.words ≤ segment_limit) code.segments → IsValid code first_image

-- each live process of a valid image stands
abbrev pub ValidStands : Type 0
ValidStands =
    (code : Code) (img : Image) (p : ℕ) (r : Registers) → IsValid code img → is_live (numbered img.states p) ≡ true → numbered img.regs p ≡ Some r → ProcessStands img p r

-- What operators make of a valid image is valid. Rows have numbers that a descriptor can hold: where none of those is free the store
-- lacks memory, so of an image with more rows nothing is said.
pub record OperatorsKeepValid : Type 0 where
  -- every operator of a process that is able
  pub able : (code : Code) (img new : Image) (p : ℕ) → IsValid code img → is_able (numbered img.states p) ≡ true → table code img p ≡ gives new
      → length new.rows ≤ row_limit → IsValid code new
  -- every private operator of a process that lives, also of one that waits
  pub private : (code : Code) (img new : Image) (p : ℕ) → IsValid code img → is_live (numbered img.states p) ≡ true → private_next code img p ≡ true
      → table code img p ≡ gives new → IsValid code new
  -- and so is the image that keeps a fault
  pub failed : (code : Code) (img : Image) (p : ℕ) (kind : FaultKind) → IsValid code img → IsValid code (failed img p kind)
