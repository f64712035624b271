-- The lines of version 2, and where they stop.
use Rattle.std.proofs.Common.{◌≡◌, ℕ, ◌^◌, ◌<◌, ◌≤◌, zero, suc, Option, None, Some, List, [], ◌∷◌, ◌++◌, length, drop, refl, sym, ap, subst, arith, ◌∙◌, append_assoc, codes}
use Rattle.std.specs.Prelude.{slice_get}
use Rattle.std.specs.Fmt.{decimal}
use Rattle.b67_text.specs.Texts.{Begins, StopsAt, PartStands, AreApart, HasByte}
use Rattle.b67_text.specs.Numerals.{IsDigit, NumberIsIn, IsField}
use Rattle.b67_text.proofs.Fronts.{fields_alike, Ends, stops_at, byte_at}
use Rattle.b67_text.proofs.Parts.{first_stops, Leads, second_stops, stands_on}
use Rattle.b67_deeds.specs.declared.Letter.{Letter}
use Rattle.b67_deeds.specs.declared.Letter.TheVariants.{Read}
use Rattle.b67_schedule.specs.declared.refusal.ReadSchedule.{ReadSchedule}
use Rattle.b67_schedule.specs.declared.refusal.ReadSchedule.TheVariants.{Bad, NoMemory}
use Rattle.b67_deeds.specs.Letters.{byte_of}
use Rattle.b67_schedule.specs.Letters.{bytes_of}
use Rattle.b67_schedule.specs.Schedules.{most_in_schedule}
use Rattle.b67_schedule.specs.Reading.{numbers_of_schedule, Lettered, IsLettered, process_in, line_in, EntryCanStand, IsLetterLine, AreLetters, AreMost, RefusesAt}
use Rattle.b67_schedule.proofs.Items.{Alike, HaveLines, none_some}
use Rattle.b67_schedule.proofs.Letters.{SameLetters, same_letters, Ahead, at_end, goes_on, ahead, not_ended}

abbrev pub blank : ℕ
blank = 32

blank_ends : IsDigit blank → ⊥
blank_ends d = omega (arith, d.0)

-- ---- letters

letters_apart : AreApart AreLetters
letters_apart part other a b p q e =
    let same = same_letters p.letters q.letters a b
    (sym (append_assoc (bytes_of p.letters) (10 ∷ []) a) ∙ ap (λ (t : List ℕ). t ++ a) (sym p.text_is) ∙ e ∙ ap (λ (t : List ℕ). t ++ b) q.text_is
    ∙ append_assoc (bytes_of q.letters) (10 ∷ []) b) in
    p.text_is ∙ ap (λ (ls : List Letter). bytes_of ls ++ 10 ∷ []) same.letters_are ∙ sym q.text_is

letters_begin : (letters : List Letter) → length letters ≤ most_in_schedule → Begins AreLetters (bytes_of letters)
letters_begin [] few = (byte_of Read ∷ 10 ∷ [], record { letters = Read ∷ []; some = omega arith; few = omega arith; text_is = refl })
letters_begin (l ∷ letters) few = (10 ∷ [], record { letters = l ∷ letters; some = omega arith; few = few; text_is = refl })

module _ (bytes : List ℕ) (at next times : ℕ) (before after : List Letter) (m : AreMost bytes at before after times next) where
  dead_by : (byte : ℕ) (more : List ℕ) → drop next bytes ≡ byte ∷ more → (1 ≤ times → HasByte 10 bytes next → ⊥)
      → (is : List Letter) → 1 ≤ length is → length is ≤ most_in_schedule → Ahead is m.letters byte → ⊥
  dead_by byte more e no_end is some few (at_end same end) =
      let there : slice_get bytes next ≡ Some byte = byte_at bytes next byte more e in
      no_end (omega (arith, some, ap length same, m.times_are)) (there ∙ ap Some end)
  dead_by byte more e no_end is some few (goes_on letter here less) =
      let there : slice_get bytes next ≡ Some byte = byte_at bytes next byte more e in
      m.longest letter (there ∙ ap Some (sym here)) (omega (arith, less, few))

  pub letters_stop : (1 ≤ times → HasByte 10 bytes next → ⊥) → StopsAt AreLetters bytes at next
  letters_stop no_end =
      stops_at AreLetters (bytes_of m.letters) bytes at next letters_apart m.stand
      (record {
        begins = letters_begin m.letters m.few;
        not_yet = λ is. not_ended is.letters m.letters is.text_is;
        dead = λ byte more e b.
            let is = b.1 in
            dead_by byte more e no_end is.letters is.some is.few
            (ahead is.letters m.letters byte b.0 (sym is.text_is ∙ append_assoc (bytes_of m.letters) (byte ∷ []) b.0));
      })

-- ---- lines

small : (item : Lettered) → IsLettered item → item.process < 2 ^ 64
small item is = omega (arith, is.process_greatest)

-- the two parts of a line
abbrev pub process_part : ℕ → List ℕ
process_part n = decimal n ++ blank ∷ []

abbrev pub letters_part : List Letter → List ℕ
letters_part letters = bytes_of letters ++ 10 ∷ []

line_parts : (item : Lettered) → line_in item ≡ process_part item.process ++ letters_part item.letters
line_parts item = append_assoc (process_part item.process) (bytes_of item.letters) (10 ∷ [])

line_on : (item : Lettered) (rest : List ℕ) → line_in item ++ rest ≡ decimal item.process ++ blank ∷ (bytes_of item.letters ++ 10 ∷ rest)
line_on item rest =
    append_assoc (process_part item.process ++ bytes_of item.letters) (10 ∷ []) rest
    ∙ append_assoc (process_part item.process) (bytes_of item.letters) (10 ∷ rest)
    ∙ append_assoc (decimal item.process) (blank ∷ []) (bytes_of item.letters ++ 10 ∷ rest)

lines_alike : (item other : Lettered) (a b : List ℕ) → IsLettered item → IsLettered other → line_in item ++ a ≡ line_in other ++ b → Alike item other a b
lines_alike item other a b p q e =
    let first = fields_alike item.process other.process blank (bytes_of item.letters ++ 10 ∷ a) (bytes_of other.letters ++ 10 ∷ b) (small item p) (small other q) blank_ends
    (sym (line_on item a) ∙ e ∙ line_on other b) in
    let second = same_letters item.letters other.letters a b first.rests in
    record {
      items = ap (λ (n : ℕ). record { process = n; letters = item.letters }) first.numbers
          ∙ ap (λ (ls : List Letter). record { process = other.process; letters = ls }) second.letters_are;
      rests = second.rests;
    }

-- lettered actions have lines
pub letter_lines_are : HaveLines Lettered process_in IsLettered line_in
letter_lines_are = record {
  alike = lines_alike;
  some = λ n. record { process = n; letters = Read ∷ [] };
  some_is = λ n least few. record { process_least = least; process_greatest = omega (arith, few); some = omega arith; few = omega arith };
  some_process = λ n. refl;
}

process_of_item : (before : Option ℕ) (item : Lettered) → EntryCanStand before item → NumberIsIn (numbers_of_schedule 1 before) item.process
process_of_item before item is = record { fits = small item is.is; least = is.is.process_least; most = is.is.process_greatest; other = is.other }

stands_by : (before : Option ℕ) (n : ℕ) (letters : List Letter) → NumberIsIn (numbers_of_schedule 1 before) n → 1 ≤ length letters → length letters ≤ most_in_schedule
    → EntryCanStand before record { process = n; letters = letters }
stands_by before n letters p some few = record { is = record { process_least = p.least; process_greatest = p.most; some = some; few = few }; other = p.other }

pub process_stops : (before : Option ℕ) (bytes : List ℕ) (at end : ℕ) → StopsAt (IsField (numbers_of_schedule 1 before) blank) bytes at end → StopsAt (IsLetterLine before) bytes at end
process_stops before bytes at end stop =
    first_stops (IsField (numbers_of_schedule 1 before) blank) (IsLetterLine before) bytes at end stop
    (λ text is. record {
      part = process_part is.item.process;
      rest = letters_part is.item.letters;
      is_part = record { number = is.item.process; is_in = process_of_item before is.item is.follows; text_is = refl };
      text_is = is.text_is ∙ line_parts is.item;
    })
    (λ part is.
    let item : Lettered = record { process = is.number; letters = Read ∷ [] } in (
      letters_part (Read ∷ []),
      record {
        item = item;
        follows = stands_by before is.number (Read ∷ []) is.is_in (omega arith) (omega arith);
        text_is = ap (λ (p : List ℕ). p ++ letters_part (Read ∷ [])) is.text_is ∙ sym (line_parts item);
      },
    ))

letters_lead : (before : Option ℕ) (n : ℕ) → NumberIsIn (numbers_of_schedule 1 before) n → Leads (IsLetterLine before) AreLetters (process_part n)
letters_lead before n is_in = record {
  goes_on = λ text after items is e.
      let alike = fields_alike is.item.process n blank (letters_part is.item.letters ++ after) items (small is.item is.follows.is) is_in.fits blank_ends
      (sym (append_assoc (decimal is.item.process) (blank ∷ []) (letters_part is.item.letters ++ after)) ∙ sym (append_assoc (process_part is.item.process) (letters_part is.item.letters) after)
      ∙ ap (λ (t : List ℕ). t ++ after) (sym (is.text_is ∙ line_parts is.item)) ∙ e ∙ append_assoc (decimal n) (blank ∷ []) items) in
      record {
        rest = letters_part is.item.letters;
        is_rest = record { letters = is.item.letters; some = is.follows.is.some; few = is.follows.is.few; text_is = refl };
        text_is = is.text_is ∙ line_parts is.item ∙ ap (λ (m : ℕ). process_part m ++ letters_part is.item.letters) alike.numbers;
      };
  joins = λ rest is.
      let item : Lettered = record { process = n; letters = is.letters } in
      record {
        item = item;
        follows = stands_by before n is.letters is_in is.some is.few;
        text_is = ap (λ (r : List ℕ). process_part n ++ r) is.text_is ∙ sym (line_parts item);
      };
}

pub line_stops : (before : Option ℕ) (bytes : List ℕ) (at mid end n : ℕ) → NumberIsIn (numbers_of_schedule 1 before) n → PartStands (process_part n) bytes at mid →
    StopsAt AreLetters bytes mid end → StopsAt (IsLetterLine before) bytes at end
line_stops before bytes at mid end n is_in st stop =
    second_stops (IsLetterLine before) AreLetters (process_part n) bytes at mid end (letters_lead before n is_in) st stop

-- a line is read
pub record LineRead (before : Option ℕ) (n : ℕ) (letters : List Letter) (bytes : List ℕ) (at next : ℕ) : Type 0 where
  pub can : EntryCanStand before record { process = n; letters = letters }
  pub stand : PartStands (line_in record { process = n; letters = letters }) bytes at next

pub line_read : (before : Option ℕ) (n : ℕ) (letters : List Letter) (bytes : List ℕ) (at mid next : ℕ) → NumberIsIn (numbers_of_schedule 1 before) n → PartStands (process_part n) bytes at mid →
    1 ≤ length letters → length letters ≤ most_in_schedule → PartStands (letters_part letters) bytes mid next → LineRead before n letters bytes at next
line_read before n letters bytes at mid next is_in st some few more = record {
  can = stands_by before n letters is_in some few;
  stand = subst (λ (t : List ℕ). PartStands t bytes at next) (sym (line_parts record { process = n; letters = letters }))
      (stands_on (process_part n) (letters_part letters) bytes at mid next st more);
}

-- so many letters stand from a place on to the next, and are added to those before
pub record SoFar (bytes : List ℕ) (at : ℕ) (before after : List Letter) (times next : ℕ) : Type 0 where
  pub letters : List Letter
  pub added : after ≡ before ++ letters
  pub times_are : times ≡ length letters
  pub few : length letters ≤ most_in_schedule
  pub stand : PartStands (bytes_of letters) bytes at next

pub line_refused : (e : ReadSchedule) (before : Option ℕ) (bytes : List ℕ) (at mid n : ℕ) → NumberIsIn (numbers_of_schedule 1 before) n → PartStands (process_part n) bytes at mid →
    RefusesAt e AreLetters bytes mid → RefusesAt e (IsLetterLine before) bytes at
line_refused (Bad bad) before bytes at mid n is_in st stop = line_stops before bytes at mid bad.byte n is_in st stop
line_refused NoMemory before bytes at mid n is_in st stop = tt
