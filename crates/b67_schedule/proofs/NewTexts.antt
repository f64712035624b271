-- The text of version 2 whole: that it is one schedule's, and where it stops.
use Rattle.std.proofs.Common.{◌≡◌, ◌≢◌, ℕ, ◌+◌, ◌-◌, ◌<◌, ◌≤◌, zero, suc, Option, None, Some, List, [], ◌∷◌, ◌++◌, length, take, drop, map, replicate, codes, refl, sym, ap, subst, arith, ◌∙◌}
use Rattle.std.specs.List.{All, flat_map}
use Rattle.std.proofs.lemmas.List.{append-nil, length-append, length-replicate, length-take-le, length-map, take-append-drop}
use Rattle.std.proofs.Math.Seq.{take-append_seam, drop-append_seam}
use Rattle.b67_text.specs.Texts.{IsRefused, StopsAt, PartStands, AreApart}
use Rattle.b67_text.specs.Numerals.{NumberIsIn, IsField}
use Rattle.b67_text.proofs.Fronts.{IsWord}
use Rattle.b67_text.proofs.Parts.{first_stops, refused_where_it_stops, refused_behind}
use Rattle.b67_schedule.specs.declared.Run.{Run}
use Rattle.b67_deeds.specs.declared.Letter.{Letter}
use Rattle.b67_schedule.specs.declared.refusal.ReadSchedule.{ReadSchedule}
use Rattle.b67_schedule.specs.declared.refusal.ReadSchedule.TheVariants.{Bad, NoMemory}
use Rattle.b67_schedule.specs.Schedules.{most_in_schedule, entries, IsRun, AreRuns, IsSchedule, letter_lines, ScheduleText}
use Rattle.b67_schedule.specs.Reading.{IsScheduleText, numbers_of_schedule, Follow, Lettered, IsLettered, process_in, letters_in, run_in, line_in, Stand, AreLetterLines, ScheduleRefuses, RefusesAt}
use Rattle.b67_schedule.proofs.OldLines.{line_end}
use Rattle.b67_schedule.proofs.OldTexts.{runs_follow, follow_runs}
use Rattle.b67_schedule.proofs.LetterLines.{letter_lines_are}
use Rattle.b67_schedule.proofs.Wholes.{count_part, IsWhole}
use Rattle.b67_schedule.proofs.Wholes as wholes

-- ---- runs with their letters

-- each run with its letters
abbrev pub items_of : List Run → List Letter → List Lettered
items_of [] letters = []
items_of (run ∷ runs) letters = record { process = run.process; letters = take run.times letters } ∷ items_of runs (drop run.times letters)

pub lines_of_items : (runs : List Run) (letters : List Letter) → letter_lines runs letters ≡ flat_map line_in (items_of runs letters)
lines_of_items [] letters = refl
lines_of_items (run ∷ runs) letters =
    ap (λ (t : List ℕ). line_in (record { process = run.process; letters = take run.times letters }) ++ t) (lines_of_items runs (drop run.times letters))

length_items : (runs : List Run) (letters : List Letter) → length (items_of runs letters) ≡ length runs
length_items [] letters = refl
length_items (run ∷ runs) letters = let rest = length_items runs (drop run.times letters) in omega arith

-- a run has its times, and the others have the rest
record Shared (run : Run) (runs : List Run) (letters : List Letter) : Type 0 where
  pub own : length (take run.times letters) ≡ run.times
  pub rest : length (drop run.times letters) ≡ length (entries runs)

shared : (run : Run) (runs : List Run) (letters : List Letter) → length letters ≡ length (entries (run ∷ runs)) → Shared run runs letters
shared run runs letters e =
    let all : length (entries (run ∷ runs)) ≡ run.times + length (entries runs) =
    length-append (replicate run.times run.process) (entries runs) ∙ ap (λ (n : ℕ). n + length (entries runs)) (length-replicate run.times run.process) in
    let own : length (take run.times letters) ≡ run.times = length-take-le run.times letters (omega (arith, e, all)) in
    let both : length letters ≡ length (take run.times letters) + length (drop run.times letters) =
    ap length (sym (take-append-drop run.times letters)) ∙ length-append (take run.times letters) (drop run.times letters) in
    record { own = own; rest = omega (arith, e, all, own, both) }

pub runs_back : (runs : List Run) (letters : List Letter) → length letters ≡ length (entries runs) → map run_in (items_of runs letters) ≡ runs
runs_back [] letters e = refl
runs_back (run ∷ runs) letters e =
    let s = shared run runs letters e in
    ap (λ (n : ℕ). record { process = run.process; times = n } ∷ map run_in (items_of runs (drop run.times letters))) s.own
    ∙ ap (λ (rs : List Run). run ∷ rs) (runs_back runs (drop run.times letters) s.rest)

pub nothing : (xs : List Letter) → length xs ≡ 0 → xs ≡ []
nothing [] e = refl
nothing (x ∷ xs) e = absurd (omega (arith, e))

pub letters_back : (runs : List Run) (letters : List Letter) → length letters ≡ length (entries runs) → flat_map letters_in (items_of runs letters) ≡ letters
letters_back [] letters e = sym (nothing letters (omega (arith, e)))
letters_back (run ∷ runs) letters e =
    let s = shared run runs letters e in
    ap (λ (ls : List Letter). take run.times letters ++ ls) (letters_back runs (drop run.times letters) s.rest) ∙ take-append-drop run.times letters

stand_by : (before : Option ℕ) (runs : List Run) (letters : List Letter) → Follow before runs → length letters ≡ length (entries runs) → Stand before (items_of runs letters)
stand_by before [] letters follow e = tt
stand_by before (run ∷ runs) letters follow e =
    let s = shared run runs letters e in
    let is = follow.0.is in (
      record {
        is = record {
          process_least = is.process_least;
          process_greatest = is.process_greatest;
          some = omega (arith, s.own, is.times_least);
          few = omega (arith, s.own, is.times_greatest);
        };
        other = follow.0.other;
      },
      stand_by (Some run.process) runs (drop run.times letters) follow.1 s.rest,
    )

pub follow_by : (before : Option ℕ) (items : List Lettered) → Stand before items → Follow before (map run_in items)
follow_by before [] stand = tt
follow_by before (item ∷ items) stand =
    let is = stand.0.is in (
      record {
        is = record { process_least = is.process_least; process_greatest = is.process_greatest; times_least = is.some; times_greatest = is.few };
        other = stand.0.other;
      },
      follow_by (Some item.process) items stand.1,
    )

pub each_by : (items : List Lettered) → length (flat_map letters_in items) ≡ length (entries (map run_in items))
each_by [] = refl
each_by (item ∷ items) =
    length-append item.letters (flat_map letters_in items) ∙ ap (λ (n : ℕ). length item.letters + n) (each_by items)
    ∙ ap (λ (n : ℕ). n + length (entries (map run_in items))) (sym (length-replicate (length item.letters) item.process))
    ∙ sym (length-append (replicate (length item.letters) item.process) (entries (map run_in items)))

pub lines_by : (items : List Lettered) → letter_lines (map run_in items) (flat_map letters_in items) ≡ flat_map line_in items
lines_by [] = refl
lines_by (item ∷ items) =
    let rest : List Letter = flat_map letters_in items in
    ap (λ (ls : List Letter). line_in (record { process = item.process; letters = ls }) ++ letter_lines (map run_in items) (drop (length item.letters) (item.letters ++ rest)))
    (take-append_seam item.letters rest)
    ∙ ap (λ (ls : List Letter). line_in item ++ letter_lines (map run_in items) ls) (drop-append_seam item.letters rest)
    ∙ ap (λ (t : List ℕ). line_in item ++ t) (lines_by items)

pub schedule_by : (items : List Lettered) → Stand None items → length items ≤ most_in_schedule → IsSchedule (map run_in items) (flat_map letters_in items)
schedule_by items stand few = record {
  runs_are = follow_runs (map run_in items) (follow_by None items stand) (omega (arith, few, length-map items run_in));
  each = each_by items;
}

-- ---- the whole text

abbrev pub head : List ℕ
head = codes "SCHEDULE 2 "

abbrev W : List ℕ → Type 0
W text = IsWhole Lettered process_in IsLettered line_in letter_lines_are head text

abbrev Whole : List Lettered → List ℕ
Whole items = head ++ (count_part (length items) ++ flat_map line_in items)

text_by : (items : List Lettered) → ScheduleText (map run_in items) (flat_map letters_in items) ≡ Whole items
text_by items =
    ap (λ (n : ℕ). head ++ (count_part n ++ letter_lines (map run_in items) (flat_map letters_in items))) (length-map items run_in)
    ∙ ap (λ (t : List ℕ). head ++ (count_part (length items) ++ t)) (lines_by items)

text_of : (runs : List Run) (letters : List Letter) → ScheduleText runs letters ≡ Whole (items_of runs letters)
text_of runs letters =
    ap (λ (n : ℕ). head ++ (count_part n ++ letter_lines runs letters)) (sym (length_items runs letters))
    ∙ ap (λ (t : List ℕ). head ++ (count_part (length (items_of runs letters)) ++ t)) (lines_of_items runs letters)

to : (text : List ℕ) → W text → IsScheduleText text
to text is = record {
  runs = map run_in is.items;
  letters = flat_map letters_in is.items;
  schedule = schedule_by is.items is.follow is.few;
  text_is = is.text_is ∙ sym (text_by is.items);
}

from : (text : List ℕ) → IsScheduleText text → W text
from text is = record {
  items = items_of is.runs is.letters;
  follow = stand_by None is.runs is.letters (runs_follow is.runs is.schedule.runs_are) is.schedule.each;
  few = omega (arith, is.schedule.runs_are.few, length_items is.runs is.letters);
  text_is = is.text_is ∙ text_of is.runs is.letters;
}

new_stops : (bytes : List ℕ) (at end : ℕ) → StopsAt (λ text. W text) bytes at end → StopsAt IsScheduleText bytes at end
new_stops bytes at end stop =
    first_stops (λ text. W text) IsScheduleText bytes at end stop (λ text is. record { part = text; rest = []; is_part = from text is; text_is = sym (append-nil text) })
    (λ part is. ([], subst IsScheduleText (sym (append-nil part)) (to part is)))

pub head_stops : (bytes : List ℕ) (at end : ℕ) → StopsAt (IsWord head) bytes at end → StopsAt IsScheduleText bytes at end
head_stops bytes at end stop = new_stops bytes at end (wholes.head_stops Lettered process_in IsLettered line_in letter_lines_are head bytes at end stop)

pub count_stops : (bytes : List ℕ) (at mid end : ℕ) → PartStands head bytes at mid → StopsAt (IsField (numbers_of_schedule 0 None) line_end) bytes mid end → StopsAt IsScheduleText bytes at end
count_stops bytes at mid end st stop = new_stops bytes at end (wholes.count_stops Lettered process_in IsLettered line_in letter_lines_are head bytes at mid end st stop)

lines_stop : (count : ℕ) (bytes : List ℕ) (at behind mid end : ℕ) → NumberIsIn (numbers_of_schedule 0 None) count → PartStands head bytes at behind → PartStands (count_part count) bytes behind mid →
    StopsAt (AreLetterLines None count) bytes mid end → StopsAt IsScheduleText bytes at end
lines_stop count bytes at behind mid end is st field stop =
    new_stops bytes at end (wholes.lines_stop Lettered process_in IsLettered line_in letter_lines_are head count bytes at behind mid end is st field stop)

pub lines_refused : (e : ReadSchedule) (count : ℕ) (bytes : List ℕ) (at behind mid : ℕ) → NumberIsIn (numbers_of_schedule 0 None) count → PartStands head bytes at behind → PartStands (count_part count) bytes behind mid →
    RefusesAt e (AreLetterLines None count) bytes mid → RefusesAt e IsScheduleText bytes at
lines_refused (Bad bad) count bytes at behind mid is st field stop = lines_stop count bytes at behind mid bad.byte is st field stop
lines_refused NoMemory count bytes at behind mid is st field stop = tt

-- a schedule is read
pub record WholeRead (runs : List Run) (letters : List Letter) (bytes : List ℕ) (at next : ℕ) : Type 0 where
  pub schedule : IsSchedule runs letters
  pub stand : PartStands (ScheduleText runs letters) bytes at next

pub whole_read : (items : List Lettered) (runs : List Run) (letters : List Letter) (count : ℕ) (bytes : List ℕ) (at behind mid next : ℕ) → Stand None items → length items ≡ count →
    runs ≡ map run_in items → letters ≡ flat_map letters_in items → NumberIsIn (numbers_of_schedule 0 None) count → PartStands head bytes at behind → PartStands (count_part count) bytes behind mid →
    PartStands (flat_map line_in items) bytes mid next → WholeRead runs letters bytes at next
whole_read items runs letters count bytes at behind mid next stand long r l is st field lines =
    subst (λ (rs : List Run). WholeRead rs letters bytes at next) (sym r)
    (subst (λ (ls : List Letter). WholeRead (map run_in items) ls bytes at next) (sym l)
    (record {
      schedule = schedule_by items stand (omega (arith, long, is.most));
      stand = subst (λ (t : List ℕ). PartStands t bytes at next) (sym (text_by items))
          (wholes.whole_stands Lettered process_in IsLettered line_in letter_lines_are head items count bytes at behind mid next long st field lines);
    }))

pub record SameSchedules (runs others : List Run) (letters more : List Letter) : Type 0 where
  pub runs_are : runs ≡ others
  pub letters_are : letters ≡ more

pub one_text : (runs others : List Run) (letters more : List Letter) (a b : List ℕ) → IsSchedule runs letters → IsSchedule others more →
    ScheduleText runs letters ++ a ≡ ScheduleText others more ++ b → SameSchedules runs others letters more
unfolding from
one_text runs others letters more a b p q e =
    let f = from (ScheduleText runs letters) (record { runs = runs; letters = letters; schedule = p; text_is = refl }) in
    let g = from (ScheduleText others more) (record { runs = others; letters = more; schedule = q; text_is = refl }) in
    let same : items_of runs letters ≡ items_of others more =
    wholes.one_whole Lettered process_in IsLettered line_in letter_lines_are head (items_of runs letters) (items_of others more) a b f.follow g.follow f.few g.few
    (ap (λ (t : List ℕ). t ++ a) (sym (text_of runs letters)) ∙ e ∙ ap (λ (t : List ℕ). t ++ b) (text_of others more)) in
    record {
      runs_are = sym (runs_back runs letters p.each) ∙ ap (λ (items : List Lettered). map run_in items) same ∙ runs_back others more q.each;
      letters_are = sym (letters_back runs letters p.each) ∙ ap (λ (items : List Lettered). flat_map letters_in items) same ∙ letters_back others more q.each;
    }

pub schedules_apart : AreApart IsScheduleText
schedules_apart part other a b p q e =
    wholes.wholes_apart Lettered process_in IsLettered line_in letter_lines_are head part other a b (from part p) (from other q) e

pub schedule_refused : (e : ReadSchedule) (bytes : List ℕ) → RefusesAt e IsScheduleText bytes 0 → ScheduleRefuses IsScheduleText e bytes
schedule_refused (Bad bad) bytes stop = refused_where_it_stops IsScheduleText bytes bad.byte stop
schedule_refused NoMemory bytes stop = tt

pub behind_refused : (runs : List Run) (letters : List Letter) (bytes : List ℕ) (next : ℕ) → IsSchedule runs letters → PartStands (ScheduleText runs letters) bytes 0 next → next < length bytes →
    IsRefused IsScheduleText bytes next
behind_refused runs letters bytes next is st more =
    refused_behind IsScheduleText (ScheduleText runs letters) bytes next schedules_apart (record { runs = runs; letters = letters; schedule = is; text_is = refl }) st more
