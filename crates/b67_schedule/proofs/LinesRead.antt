-- Lines of version 2 that are read, one after another.
use Rattle.std.proofs.Common.{◌≡◌, ℕ, ◌+◌, ◌<◌, ◌≤◌, Option, None, Some, List, [], ◌∷◌, ◌++◌, length, map, sym, ap, subst, arith, ◌∙◌}
use Rattle.std.specs.List.{flat_map}
use Rattle.std.proofs.lemmas.List.{append-nil, length-append, length-map, map-append}
use Rattle.std.proofs.lemmas.List.Concat.{flat_map-append}
use Rattle.b67_text.specs.Texts.{StopsAt, PartStands}
use Rattle.b67_schedule.specs.declared.Run.{Run}
use Rattle.b67_deeds.specs.declared.Letter.{Letter}
use Rattle.b67_schedule.specs.declared.refusal.ReadSchedule.{ReadSchedule}
use Rattle.b67_schedule.specs.declared.refusal.ReadSchedule.TheVariants.{Bad, NoMemory}
use Rattle.b67_schedule.specs.Lines.{last_process}
use Rattle.b67_schedule.specs.Reading.{Lettered, IsLettered, process_in, letters_in, run_in, line_in, EntryCanStand, IsLetterLine, Stand, AreLetterLines, RefusesAt}
use Rattle.b67_schedule.proofs.Items.{item_stops, items_more}
use Rattle.b67_schedule.proofs.LetterLines.{letter_lines_are}

-- so many lines stand from a place on to the next
pub record LinesRead (bytes : List ℕ) (at next : ℕ) (before : Option ℕ) (runs : List Run) (letters : List Letter) (count : ℕ) : Type 0 where
  pub items : List Lettered
  pub stand : Stand None items
  pub before_is : before ≡ last_process Lettered process_in IsLettered None items
  pub runs_are : runs ≡ map run_in items
  pub letters_are : letters ≡ flat_map letters_in items
  pub few : length runs ≤ count
  pub lines : PartStands (flat_map line_in items) bytes at next

module _ (bytes : List ℕ) (at next : ℕ) (before : Option ℕ) (runs : List Run) (letters : List Letter) (count : ℕ) (r : LinesRead bytes at next before runs letters count)
    (few : length runs < count) where
  long : length r.items ≡ length runs
  long = sym (length-map r.items run_in) ∙ ap length (sym r.runs_are)

  pub line_added : (run : Run) (more : List Letter) (behind : ℕ) (item : Lettered) → EntryCanStand before item → run ≡ run_in item → more ≡ letters ++ item.letters →
      PartStands (line_in item) bytes next behind → LinesRead bytes at behind (Some run.process) (runs ++ run ∷ []) more count
  line_added run more behind item can is ls st =
      let m = items_more Lettered process_in IsLettered line_in letter_lines_are r.items item before bytes at next behind r.stand r.before_is can r.lines st in
      record {
        items = r.items ++ item ∷ [];
        stand = m.follow;
        before_is = ap (λ (x : Run). Some x.process) is ∙ m.before;
        runs_are = ap (λ (rs : List Run). rs ++ run ∷ []) r.runs_are ∙ ap (λ (x : Run). map run_in r.items ++ x ∷ []) is ∙ sym (map-append run_in r.items (item ∷ []));
        letters_are = ls ∙ ap (λ (xs : List Letter). xs ++ item.letters) r.letters_are
            ∙ ap (λ (xs : List Letter). flat_map letters_in r.items ++ xs) (sym (append-nil item.letters)) ∙ sym (flat_map-append letters_in r.items (item ∷ []));
        few = omega (arith, few, length-append runs (run ∷ []));
        lines = m.stand;
      }

  pub lines_refused : (e : ReadSchedule) → RefusesAt e (IsLetterLine before) bytes next → RefusesAt e (AreLetterLines None count) bytes at
  lines_refused (Bad bad) stop =
      item_stops Lettered process_in IsLettered line_in letter_lines_are count r.items before bytes at next bad.byte r.stand r.before_is (omega (arith, few, long)) r.lines stop
  lines_refused NoMemory stop = tt
