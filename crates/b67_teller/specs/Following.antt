-- How a machine that follows a schedule ends, and what outcomes states and stack limits have.
use Rattle.std.specs.Prelude.{◌≡◌, ◌⊎◌, ℕ, ◌+◌, ◌≤◌, true, false, List, [], ◌∷◌, ◌++◌, reverse, sum, Option, Some, None}
use Rattle.b67_limits.specs.declared.TheConstants.{MOST_BUDGET}
use Rattle.b67_list.specs.Numbered.{numbered}
use Rattle.b67_segment.specs.declared.code.Code.{Code}
use Rattle.b67_table.specs.Image.{Image}
use Rattle.b67_table.specs.Ending.{ImageEnd, image_end, may_act}
use Rattle.b67_table.specs.Ending as machine
use Rattle.b67_table.specs.Table.{length_in}
use Rattle.b67_table.specs.Runs.{Plains, Runs}
use Rattle.b67_report.specs.declared.EndWords.{EndWords}
use Rattle.b67_report.specs.declared.EndWords.TheVariants as ends
use Rattle.b67_told.specs.declared.Outcome.{Outcome}
use Rattle.b67_outcomes.specs.Entering.{Stops, HistoryLeadsTo}

-- an outcome is the run's own end, or the stack limit
abbrev pub IsOutcomeEnd : EndWords → Type 0
IsOutcomeEnd ends.Finished = Unit {0}
IsOutcomeEnd (ends.Fault kind process) = Unit {0}
IsOutcomeEnd ends.AllWaiting = Unit {0}
IsOutcomeEnd ends.BudgetSpent = ⊥
IsOutcomeEnd (ends.StackLimit process words) = Unit {0}
IsOutcomeEnd ends.ScheduleEnded = ⊥
IsOutcomeEnd (ends.Illegal entry) = ⊥
IsOutcomeEnd (ends.Differs entry) = ⊥

-- ---- the outcomes of images

abbrev pub image_words : ImageEnd → EndWords
image_words machine.finished = ends.Finished
image_words (machine.faulted kind p) = ends.Fault kind p
image_words machine.all_waiting = ends.AllWaiting

abbrev pub words_of_image : Option ImageEnd → Option EndWords
words_of_image None = None
words_of_image (Some e) = Some (image_words e)

-- how the run ended, where the image has an end
abbrev pub end_words_in : Image → Option EndWords
end_words_in img = words_of_image (image_end img)

-- the outcome of an image with this end
abbrev pub ended_outcome : Image → ImageEnd → Outcome
ended_outcome img e = record { output = img.output; end = image_words e }

-- the outcome of a process that comes to the stack limit in an image, after its plain operators
abbrev pub stopped_outcome : Image → ℕ → Image → Outcome
stopped_outcome img p quiet = record { output = img.output; end = ends.StackLimit p (length_in (numbered quiet.regs p)) }

-- ---- following a schedule

-- so many plain operators of the process of the next entry
abbrev pub NextGoes : Code → List ℕ → Image → ℕ → Type 0
NextGoes code [] img n = n ≡ 0
NextGoes code (p ∷ left) img n = (quiet : Image) × Plains code p img n quiet

-- the first entries of the schedule and plain operators of the next one are as many operators as a replay may have, or more
pub record IsLong (code : Code) (schedule : List ℕ) : Type 0 where
  pub done : List ℕ
  pub left : List ℕ
  pub split : schedule ≡ done ++ left
  pub counts : List ℕ
  pub image : Image
  pub run : Runs code (reverse done) counts image
  pub tail : ℕ
  pub goes : NextGoes code left image tail
  pub long : MOST_BUDGET ≤ sum counts + tail

-- the next entry is of this process, which comes to the stack limit in it, on a stack of so many words
abbrev pub NextStops : Code → List ℕ → Image → ℕ → ℕ → Type 0
NextStops code [] img p words = ⊥
NextStops code (q ∷ left) img p words = (q ≡ p) × (quiet : Image) × Stops code p img quiet × (words ≡ length_in (numbered quiet.regs p))

-- the process of the next entry may not act
abbrev pub NextIsIllegal : List ℕ → Image → Type 0
NextIsIllegal [] img = ⊥
NextIsIllegal (q ∷ left) img = may_act img q ≡ false

-- why it ended so, where these entries of the schedule are left after this image
abbrev pub EndsBy : Code → List ℕ → List ℕ → Image → EndWords → Type 0
EndsBy code schedule left img ends.Finished = (left ≡ []) × (image_end img ≡ Some machine.finished)
EndsBy code schedule left img (ends.Fault kind process) = (left ≡ []) × (image_end img ≡ Some (machine.faulted kind process))
EndsBy code schedule left img ends.AllWaiting = (left ≡ []) × (image_end img ≡ Some machine.all_waiting)
EndsBy code schedule left img ends.BudgetSpent = IsLong code schedule
EndsBy code schedule left img (ends.StackLimit process words) = NextStops code left img process words
EndsBy code schedule left img ends.ScheduleEnded = (left ≡ []) × (image_end img ≡ None)
EndsBy code schedule left img (ends.Illegal entry) = NextIsIllegal left img
EndsBy code schedule left img (ends.Differs entry) = ⊥

-- The entries of a schedule were performed up to some place, with this output, and that is why no more were.
pub record Followed (code : Code) (schedule : List ℕ) (o : Outcome) : Type 0 where
  pub done : List ℕ
  pub left : List ℕ
  pub split : schedule ≡ done ++ left
  pub image : Image
  pub leads : HistoryLeadsTo code (reverse done) image
  pub output : o.output ≡ image.output
  pub ends_by : EndsBy code schedule left image o.end

-- who follows the schedule comes to this outcome, or spends the budget
abbrev pub FollowsOnly : Code → List ℕ → Outcome → Type 0
FollowsOnly code schedule o =
    (found : Outcome) → Followed code schedule found → (found ≡ o) ⊎ ((found.end ≡ ends.BudgetSpent) × IsLong code schedule)

-- ---- the outcome of a schedule

-- its entries lead to an image that has an end
pub record EndsAs (code : Code) (schedule : List ℕ) (o : Outcome) : Type 0 where
  pub history : List ℕ
  pub order : schedule ≡ reverse history
  pub image : Image
  pub leads : HistoryLeadsTo code history image
  pub end : ImageEnd
  pub ended : image_end image ≡ Some end
  pub is : o ≡ ended_outcome image end

-- its last entry comes to the stack limit
pub record StopsAs (code : Code) (schedule : List ℕ) (o : Outcome) : Type 0 where
  pub process : ℕ
  pub history : List ℕ
  pub order : schedule ≡ reverse (process ∷ history)
  pub image : Image
  pub leads : HistoryLeadsTo code history image
  pub may : may_act image process ≡ true
  pub quiet : Image
  pub stops : Stops code process image quiet
  pub is : o ≡ stopped_outcome image process quiet

abbrev pub HasOutcome : Code → List ℕ → Outcome → Type 0
HasOutcome code schedule o = EndsAs code schedule o ⊎ StopsAs code schedule o
