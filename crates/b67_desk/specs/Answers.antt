-- What the desk answers: the text that it writes and the status that it gives, for which words and which bytes.
use Rattle.std.specs.Prelude.{◌≡◌, ◌≢◌, ◌⊎◌, ℕ, ◌<◌, ◌≤◌, List, ◌∷◌, ◌++◌, length, codes, Option, Some, None, IfSome, Ok, Err, take}
use Rattle.std.specs.Fmt.{decimal}
use Rattle.std.specs.Io.KnownBytes.{Appends, IsAtEnd}
use Rattle.algol_tree.specs.declared.TheConstants.{MOST_SOURCE_BYTES}
use Rattle.algol_tree.specs.declared.token.Spot.{Spot}
use Rattle.algol_tree.specs.declared.refusal.Code.{Code as SourceCode}
use Rattle.algol_tree.specs.Codes.{rule_letter, rule_number}
use Rattle.algol_tree.specs.Plain.{PProgram}
use Rattle.algol_tree.specs.First.{Source, First}
use Rattle.b67_io.specs.Faults.{Rose}
use Rattle.b67_limits.specs.declared.TheConstants.{MOST_BUDGET}
use Rattle.b67_words.specs.declared.Rule.{Rule}
use Rattle.b67_words.specs.declared.Rule.TheVariants as rules
use Rattle.b67_words.specs.declared.Task.TheVariants.{Run, Check, Replay, Judge, Race, Dump, Console, Outcomes}
use Rattle.b67_words.specs.declared.Task.TheVariants.{List as ListCode}
use Rattle.b67_words.specs.declared.Words.{Words}
use Rattle.b67_words.specs.declared.Words.TheVariants.{OnSource, Exec, Trial}
use Rattle.b67_words.specs.declared.BadWords.TheVariants as bad
use Rattle.b67_words.specs.declared.UsageKind.{UsageKind}
use Rattle.b67_words.specs.declared.UsageKind.TheVariants as kinds
use Rattle.b67_words.specs.Grammar.{WordsMean}
use Rattle.b67_text.specs.Texts.{IsRefused}
use Rattle.b67_ready.specs.declared.order.Order.{Order}
use Rattle.b67_ready.specs.declared.order.Order.TheVariants as orders
use Rattle.b67_ready.specs.Orders.{order_place_of}
use Rattle.b67_schedule.specs.declared.reading.Given.{Given}
use Rattle.b67_schedule.specs.Giving.{IsTextOf}
use Rattle.b67_schedule.specs.Reading.{IsGivenText}
use Rattle.b67_report.specs.declared.Report.{Report}
use Rattle.b67_report.specs.Texts.{ReportText, line_text, head_text, lines_text, end_words}
use Rattle.b67_listing.specs.Listings.{ListingText}
use Rattle.b67_segment.specs.declared.code.Code.{Code}
use Rattle.b67_faithful.specs.Faithful.{Faithful}
use Rattle.b67_parts.specs.declared.TheConstants.{MOST_INPUT_BYTES}
use Rattle.b67_parts.specs.Parts.{Parts}
use Rattle.b67_make.specs.Made.{made}
use Rattle.b67_explain.specs.Explaining.{ExplainsRun, ExplainsReplay}
use Rattle.b67_explain.specs.Alone.{ExplainsAlone}
use Rattle.b67_explain.specs.Shared.{ExplainsShared}
use Rattle.b67_asm.specs.declared.refusal.Refusal.{Refusal}
use Rattle.b67_asm.specs.Codes.{rule_number_of}
use Rattle.b67_asm.specs.Assembling.{Assembles, IsRefusedText}
use Rattle.b67_exec.specs.Turns.{exec_run}
use Rattle.b67_exec.specs.Texts.{exec_text}
use Rattle.b67_desk.specs.declared.status.Code.{Code as RefusalCode}
use Rattle.b67_desk.specs.declared.status.Code.TheVariants.{OfSource, OfText}
use Rattle.b67_desk.specs.declared.status.Status.{Status}
use Rattle.b67_desk.specs.declared.status.Status.TheVariants as status
use Rattle.b67_desk.specs.Ends.{status_of, status_by}
use Rattle.b67_desk.specs.Consoling.{InTwo, OrBadConsole, Consoled}
use Rattle.b67_desk.specs.Exploring.{Explores}
use Rattle.b67_desk.specs.Judging.{OrBadReport, OrUnjust, SaysJust, TellsRaces}
use Rattle.b67_desk.specs.Showing.{Dumped}

-- ---- texts

abbrev pub usage_words : UsageKind → List ℕ
usage_words kinds.Missing = codes "MISSING"
usage_words kinds.Unknown = codes "UNKNOWN"
usage_words kinds.BadNumber = codes "BAD NUMBER"
usage_words kinds.BadRule = codes "BAD RULE"
usage_words kinds.Extra = codes "EXTRA"

abbrev pub usage_text : ℕ → UsageKind → List ℕ
usage_text word kind = line_text (codes "USAGE " ++ decimal word ++ codes " " ++ usage_words kind)

-- the letter and the number of a refusal
abbrev pub code_words : RefusalCode → List ℕ
code_words (OfSource code) = rule_letter code ∷ decimal (rule_number code)
code_words (OfText rule) = codes "A" ++ decimal (rule_number_of rule)

abbrev pub refused_text : Spot → RefusalCode → List ℕ
refused_text place code = line_text (codes "REFUSED " ++ code_words code ++ codes " " ++ decimal place.line ++ codes ":" ++ decimal place.column)

abbrev pub too_long_text : List ℕ
too_long_text = line_text (codes "TOO LONG")

abbrev pub bad_schedule_text : ℕ → List ℕ
bad_schedule_text byte = line_text (codes "BAD SCHEDULE " ++ decimal byte)

abbrev pub accepted_text : List ℕ
accepted_text = line_text (codes "ACCEPTED")

abbrev pub listing_text : List (List ℕ) → List ℕ
listing_text lines = lines_text (codes "LISTING ") lines

-- of a trial: how many bytes its source has, the output of its run, and how that ended
abbrev pub trial_text : ℕ → Report → List ℕ
trial_text bytes report = head_text (codes "SOURCE ") bytes ++ lines_text (codes "OUTPUT ") report.output ++ line_text (end_words report.end)

-- ---- the inputs of the commands

-- how the input of a command is divided, and how many bytes it may have: the record that stands between a source and the text after it,
-- where it has both, and the most bytes
pub record Form : Type 0 where
  pub mark : Option (List ℕ)
  pub most : ℕ

-- that of an input which has a text after a source
abbrev pub with_text : List ℕ → Form
with_text mark = record { mark = Some mark; most = MOST_INPUT_BYTES }

abbrev pub form_of : Words → Form
form_of (OnSource (Replay budget)) = with_text (codes "%%SCHEDULE")
form_of (OnSource Judge) = with_text (codes "%%REPORT")
form_of (OnSource Race) = with_text (codes "%%REPORT")
form_of (OnSource (Dump entries)) = with_text (codes "%%SCHEDULE")
form_of (OnSource Console) = with_text (codes "%%SCHEDULE")
form_of command = record { mark = None; most = MOST_SOURCE_BYTES }

-- the source in the bytes that are read, and the text after it: where there is a mark those of the two parts, else all is the source
abbrev pub DividedBy : Option (List ℕ) → List ℕ → List ℕ → Option (List ℕ) → Type 0
DividedBy None bytes source text = (source ≡ bytes) × (text ≡ None)
DividedBy (Some mark) bytes source text = Parts mark bytes source text

-- those of the bytes that are read under that command
abbrev pub IsDivided : Words → List ℕ → List ℕ → Option (List ℕ) → Type 0
IsDivided command = DividedBy (form_of command).mark

-- how many bytes are read under that command
abbrev pub most_bytes : Words → ℕ
most_bytes command = (form_of command).most

-- ---- a source

-- what a source that is checked is answered by: it is said to be accepted
abbrev pub SaysAccepted : List ℕ → Status → Type 0
SaysAccepted text s = (text ≡ accepted_text) × (s ≡ status.Finished)

-- the rule of a queue that is named
abbrev pub order_of : Rule → Order
order_of rules.Fifo = orders.Fifo
order_of rules.Lifo = orders.Lifo
order_of (rules.Seed n) = orders.Seed n

-- By how many processors the work of a run on so many is done.
abbrev pub Workers : Type 0
Workers = ℕ → ℕ

-- by all of them, which share it
abbrev pub by_all : Workers
by_all processors = processors

-- by the first of them, which is the caller
abbrev pub by_one : Workers
by_one processors = 1

-- The report explains a run of this source under the rule. Where one processor did all the work, it explains too whose each action is: that
-- of the turns of the source. Where processors shared it, each of their takes was at the place that the rule picks, and the acts are those
-- that each of them made.
pub record ExplainsBy (workers processors budget : ℕ) (rule : Rule) (tree : PProgram) (report : Report) : Type 0 where
  pub explains : ExplainsRun tree processors budget report
  pub alone : workers ≡ 1 → ExplainsAlone tree (order_place_of (order_of rule)) processors budget report
  pub shared : workers ≢ 1 → ExplainsShared tree (order_place_of (order_of rule)) processors budget report

-- `run`: a report that explains it
pub data DeskRuns (by : Workers) (processors budget : ℕ) (rule : Rule) (tree : PProgram) : List ℕ → Status → Type 0 where
  ran : (report : Report) → ExplainsBy (by processors) processors budget rule tree report →
      DeskRuns by processors budget rule tree (ReportText report) (status_of report.end)

-- `list`: the listing of a code that does what the source does for every list of choices
pub data Lists (tree : PProgram) : List ℕ → Status → Type 0 where
  listed : (code : Code) (lines : List (List ℕ)) → Faithful tree code → ListingText code lines → Lists tree (listing_text lines) status.Finished

-- the first place at which a schedule text is bad; where the input has none, that is said at the input's end
abbrev pub IsBadSchedule : Option (List ℕ) → ℕ → ℕ → Type 0
IsBadSchedule None input byte = byte ≡ input
IsBadSchedule (Some text) input byte = IsRefused IsGivenText text byte

-- what a text tells of a schedule
abbrev pub ScheduleIsGiven : Option (List ℕ) → Given → Type 0
ScheduleIsGiven None given = ⊥
ScheduleIsGiven (Some text) given = IsTextOf given text

-- What a schedule text is answered by: a refusal exactly where it is bad, else what answers that which it tells.
pub data OrBadSchedule (schedule : Option (List ℕ)) (input : ℕ) (AnswersIts : Given → List ℕ → Status → Type 0) : List ℕ → Status → Type 0 where
  bad_schedule : (byte : ℕ) → IsBadSchedule schedule input byte → OrBadSchedule schedule input AnswersIts (bad_schedule_text byte) (status.BadSchedule byte)
  followed : (given : Given) (text : List ℕ) (s : Status) → ScheduleIsGiven schedule given → AnswersIts given text s → OrBadSchedule schedule input AnswersIts text s

-- `replay`: a report that explains a run that follows what is given
pub data Replays (budget : ℕ) (tree : PProgram) (given : Given) : List ℕ → Status → Type 0 where
  replayed : (report : Report) → ExplainsReplay tree given budget report → Replays budget tree given (ReportText report) (status_of report.end)

-- `trial`: the output and the end of a report that explains a run of the source by one processor, first in, first out, under the greatest
-- budget. Its listing, its counts and its schedule, which is that of the source's own turns, are not printed.
pub data Tries (bytes : ℕ) (tree : PProgram) : List ℕ → Status → Type 0 where
  tried : (report : Report) → ExplainsAlone tree (order_place_of orders.Fifo) 1 MOST_BUDGET report → Tries bytes tree (trial_text bytes report) (status_of report.end)

-- what a source with this tree is answered by under that command, with the text beside it and the bytes of both
abbrev pub AnswersTree : Workers → Words → Option (List ℕ) → ℕ → PProgram → List ℕ → Status → Type 0
AnswersTree by (OnSource (Run processors budget rule)) beside input tree = DeskRuns by processors budget rule tree
AnswersTree by (OnSource Check) beside input tree = SaysAccepted
AnswersTree by (OnSource ListCode) beside input tree = Lists tree
AnswersTree by (OnSource (Replay budget)) beside input tree = OrBadSchedule beside input (Replays budget tree)
AnswersTree by (OnSource Judge) beside input tree = OrBadReport beside input (λ report. OrUnjust tree report SaysJust)
AnswersTree by (OnSource Race) beside input tree = OrBadReport beside input (λ report. OrUnjust tree report (TellsRaces tree report))
AnswersTree by (OnSource (Dump entries)) beside input tree = OrBadSchedule beside input (Dumped entries tree)
AnswersTree by (OnSource Console) beside input tree = InTwo beside (λ schedule commands. OrBadSchedule schedule input (λ given. OrBadConsole commands (Consoled tree given)))
AnswersTree by (OnSource (Outcomes n)) beside input tree = Explores n tree
AnswersTree by (Trial n) beside input tree = Tries input tree
AnswersTree by (Exec budget) beside input tree = λ text s. ⊥

-- The bytes are a source with this tree, and with no other.
pub record IsSourceOf (bytes : List ℕ) (tree : PProgram) : Type 0 where
  pub source : Source bytes tree
  pub only : (other : PProgram) → Source bytes other → other ≡ tree

-- The bytes are no source, and this is the first place that breaks a rule, and the rule.
pub record IsRefusedAt (bytes : List ℕ) (place : Spot) (code : SourceCode) : Type 0 where
  pub first : First bytes place code
  pub none : (tree : PProgram) → Source bytes tree → ⊥

-- What these bytes are answered by: a refusal exactly where they are no source, else what answers the source.
pub data RefusedOr (bytes : List ℕ) (AnswersIts : PProgram → List ℕ → Status → Type 0) : List ℕ → Status → Type 0 where
  refused : (place : Spot) (code : SourceCode) → IsRefusedAt bytes place code →
      RefusedOr bytes AnswersIts (refused_text place (OfSource code)) (status.Refused place (OfSource code))
  accepted : (tree : PProgram) (text : List ℕ) (s : Status) → IsSourceOf bytes tree → AnswersIts tree text s → RefusedOr bytes AnswersIts text s

-- what these bytes are answered by under that command: too long exactly where the source in them has more than 262,144 bytes
pub data AnswersBytes (by : Workers) (command : Words) (bytes : List ℕ) : List ℕ → Status → Type 0 where
  long_part : (source : List ℕ) (schedule : Option (List ℕ)) → IsDivided command bytes source schedule → MOST_SOURCE_BYTES < length source →
      AnswersBytes by command bytes too_long_text status.TooLong
  divided : (source : List ℕ) (schedule : Option (List ℕ)) (text : List ℕ) (s : Status) → IsDivided command bytes source schedule →
      length source ≤ MOST_SOURCE_BYTES → RefusedOr source (AnswersTree by command schedule (length bytes)) text s → AnswersBytes by command bytes text s

-- ---- a text of code

-- the start of a line
abbrev pub line_start : ℕ → Spot
line_start line = record { line = line; column = 1 }

-- `exec`: a refusal exactly where the text has no code, at the first line that breaks a rule; else the text of the run of its code by
-- turns under that budget.
pub data Execs (budget : ℕ) (bytes : List ℕ) : List ℕ → Status → Type 0 where
  unassembled : (refusal : Refusal) → IsRefusedText bytes refusal →
      Execs budget bytes (refused_text (line_start refusal.line) (OfText refusal.rule)) (status.Refused (line_start refusal.line) (OfText refusal.rule))
  executed : (code : Code) → Assembles bytes code → Execs budget bytes (exec_text code budget) (status_by (exec_run code budget).why)

-- the commands that read their input: all but `trial`
abbrev pub ReadsInput : Words → Type 0
ReadsInput (Trial n) = ⊥
ReadsInput command = Unit {0}

-- what the bytes that are read under a command are answered by
abbrev pub AnswersInput : Workers → Words → List ℕ → List ℕ → Status → Type 0
AnswersInput by (Exec budget) bytes = Execs budget bytes
AnswersInput by command bytes = AnswersBytes by command bytes

-- What a source is answered by under that command, from the bytes that it has left, before and after, where it tells them: too long
-- exactly where more than 262,144 are left, or 16,777,216 where a text stands after the source; else it is read to its end, and its bytes are all that it had left.
pub data AnswersSource (by : Workers) (command : Words) (left left_after : Option (List ℕ)) : List ℕ → Status → Type 0 where
  too_long : IfSome left (λ bytes. most_bytes command < length bytes) → AnswersSource by command left left_after too_long_text status.TooLong
  read : (bytes text : List ℕ) (s : Status) → length bytes ≤ most_bytes command → IfSome left (λ all. bytes ≡ all) → IsAtEnd left_after →
      AnswersInput by command bytes text s → AnswersSource by command left left_after text s

-- ---- a call

-- what a call found and left of its source: the bytes that it has left, where it tells them, and the count of its faults
pub record Reading : Type 0 where
  pub left : Option (List ℕ)
  pub left_after : Option (List ℕ)
  pub faults : ℕ
  pub faults_after : ℕ

-- of a source before and after, by what it tells of its bytes and its faults
abbrev pub source_reading : {S : Type 0} → (S → Option (List ℕ)) → (S → ℕ) → S → S → Reading
source_reading left faults before after = record { left = left before; left_after = left after; faults = faults before; faults_after = faults after }

-- nothing is read
pub record Untouched (r : Reading) : Type 0 where
  pub left : r.left_after ≡ r.left
  pub faults : r.faults_after ≡ r.faults

-- What a command is answered by. Under `trial` nothing is read, and its source is the one that is made from its number: a refusal exactly where
-- that is none, else the output and the end of its run. Under every other command the source is read.
abbrev pub AnswersCommand : Workers → Words → Reading → List ℕ → Status → Type 0
AnswersCommand by (Trial n) r text s = Untouched r × AnswersBytes by (Trial n) (made n) text s
AnswersCommand by command r text s = AnswersSource by command r.left r.left_after text s

-- The text and the status that answer the words and the source, where nothing hinders it: a usage refusal exactly where the words
-- break the grammar, and then nothing is read.
pub data Answers (by : Workers) (words : List (List ℕ)) (r : Reading) : List ℕ → Status → Type 0 where
  usage : (word : ℕ) (kind : UsageKind) → WordsMean words (Err (bad.Usage word kind)) → Untouched r → Answers by words r (usage_text word kind) (status.Usage word kind)
  answered : (command : Words) (text : List ℕ) (s : Status) → WordsMean words (Ok command) → AnswersCommand by command r text s → Answers by words r text s

-- the words are a command that reads its input
pub record AskForInput (words : List (List ℕ)) : Type 0 where
  pub command : Words
  pub means : WordsMean words (Ok command)
  pub reads : ReadsInput command

-- nothing is read but where the words ask for it
abbrev pub ReadsIfAsked : List (List ℕ) → Reading → Type 0
ReadsIfAsked words r = AskForInput words ⊎ Untouched r

-- the source failed, which the words ask for: its count rose
pub record Unreadable (words : List (List ℕ)) (r : Reading) : Type 0 where
  pub asked : AskForInput words
  pub rose : Rose r.faults r.faults_after

-- what a call found and left of its sink
pub record Writing : Type 0 where
  pub written : Option (List ℕ)
  pub written_after : Option (List ℕ)
  pub faults : ℕ
  pub faults_after : ℕ

-- of a sink before and after, by what it tells of what it got and of its faults
abbrev pub writing : {K : Type 0} → (K → Option (List ℕ)) → (K → ℕ) → K → K → Writing
writing written faults before after = record { written = written before; written_after = written after; faults = faults before; faults_after = faults after }

-- The sink was not called: nothing was written, and its count is as it was.
pub record Unwritten (w : Writing) : Type 0 where
  pub written : w.written_after ≡ w.written
  pub faults : w.faults_after ≡ w.faults

-- How a call ended. Want of memory is free, and then the sink was not called, and nothing was read but where the words ask for it; a fault of
-- reading or writing comes only where that count rose; what was written when the sink failed is a front of a text that answers the call.
pub data HasAnswer (by : Workers) (words : List (List ℕ)) (r : Reading) (w : Writing) : Status → Type 0 where
  told : (text : List ℕ) (s : Status) → Answers by words r text s → Appends w.written w.written_after text → HasAnswer by words r w s
  write_fault : (text : List ℕ) (instead_of : Status) (count : ℕ) → Answers by words r text instead_of → count < length text →
      Appends w.written w.written_after (take count text) → Rose w.faults w.faults_after → HasAnswer by words r w status.WriteFault
  read_fault : Unreadable words r → Unwritten w → HasAnswer by words r w status.ReadFault
  no_memory : ReadsIfAsked words r → Unwritten w → HasAnswer by words r w status.NoMemory
