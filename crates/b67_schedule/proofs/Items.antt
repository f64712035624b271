-- Lines of items that are read one after another, and where they stop.
use Rattle.std.proofs.Common.{◌≡◌, ◌≢◌, ℕ, ◌-◌, ◌<◌, ◌≤◌, zero, suc, Option, None, Some, List, [], ◌∷◌, ◌++◌, length, refl, sym, ap, subst, arith, ◌∙◌, append_assoc}
use Rattle.std.specs.List.{flat_map}
use Rattle.std.proofs.lemmas.List.{append-nil, length-append}
use Rattle.std.proofs.lemmas.List.Concat.{flat_map-append}
use Rattle.b67_text.specs.Texts.{StopsAt, PartStands}
use Rattle.b67_text.specs.Numerals.{NumberIsIn}
use Rattle.b67_text.proofs.Parts.{Parted, first_stops, Leads, second_stops, stands_on}
use Rattle.b67_list.proofs.Numbers.{one_target}
use Rattle.b67_schedule.specs.Lines.{CanFollow, Follow, last_process, IsLine, AreLines}
use Rattle.b67_schedule.specs.Reading.{numbers_of_schedule}

pub none_some : (n : ℕ) → None ≢ Some n
none_some n e = cc

-- ---- processes

-- some process other than this
abbrev pub other_than : ℕ → ℕ
other_than zero = 1
other_than (suc zero) = 2
other_than (suc (suc n)) = 1

pub record IsOther (n m : ℕ) : Type 0 where
  pub least : 1 ≤ m
  pub greatest : m ≤ 2
  pub apart : n ≢ m

pub other_is : (n : ℕ) → IsOther n (other_than n)
other_is zero = record { least = omega arith; greatest = omega arith; apart = λ e. omega arith }
other_is (suc zero) = record { least = omega arith; greatest = omega arith; apart = λ e. omega arith }
other_is (suc (suc n)) = record { least = omega arith; greatest = omega arith; apart = λ e. omega arith }

other_in : (before : ℕ) → NumberIsIn (numbers_of_schedule 1 (Some before)) (other_than before)
other_in before =
    let is = other_is before in
    record { fits = omega (arith, is.greatest); least = is.least; most = omega (arith, is.greatest); other = λ e. is.apart (one_target before (other_than before) e) }

pub one_in : NumberIsIn (numbers_of_schedule 1 None) 1
one_in = record { fits = omega arith; least = omega arith; most = omega arith; other = none_some 1 }

-- a process may stand there
pub some_number : (before : Option ℕ) → (n : ℕ) × NumberIsIn (numbers_of_schedule 1 before) n
some_number None = (1, one_in)
some_number (Some before) = (other_than before, other_in before)

-- ---- items

-- two items
pub record Alike {L : Type 0} (item other : L) (a b : List ℕ) : Type 0 where
  pub items : item ≡ other
  pub rests : a ≡ b

-- two lines that begin one text are of one item, and there is an item of each of two processes
pub record HaveLines (L : Type 0) (process : L → ℕ) (Is : L → Type 0) (line : L → List ℕ) : Type 0 where
  pub alike : (item other : L) (a b : List ℕ) → Is item → Is other → line item ++ a ≡ line other ++ b → Alike item other a b
  pub some : ℕ → L
  pub some_is : (n : ℕ) → 1 ≤ n → n ≤ 2 → Is (some n)
  pub some_process : (n : ℕ) → process (some n) ≡ n

module _ (L : Type 0) (process : L → ℕ) (Is : L → Type 0) (line : L → List ℕ) (have : HaveLines L process Is line) where
  abbrev pub Fs : Option ℕ → List L → Type 0
  Fs before items = Follow L process Is before items

  abbrev pub Last : Option ℕ → List L → Option ℕ
  Last before items = last_process L process Is before items

  abbrev pub Lines : Option ℕ → ℕ → List ℕ → Type 0
  Lines before count text = AreLines L process Is line before count text

  abbrev pub One : Option ℕ → List ℕ → Type 0
  One before text = IsLine L process Is line before text

  -- items after items
  pub follow_on : (before : Option ℕ) (front rest : List L) → Fs before front → Fs (Last before front) rest → Fs before (front ++ rest)
  follow_on before [] rest a b = b
  follow_on before (item ∷ front) rest a b = (a.0, follow_on (Some (process item)) front rest a.1 b)

  follow_behind : (before : Option ℕ) (front rest : List L) → Fs before (front ++ rest) → Fs (Last before front) rest
  follow_behind before [] rest a = a
  follow_behind before (item ∷ front) rest a = follow_behind (Some (process item)) front rest a.1

  last_more : (before : Option ℕ) (front : List L) (item : L) → Last before (front ++ item ∷ []) ≡ Some (process item)
  last_more before [] item = refl
  last_more before (first ∷ front) item = last_more (Some (process first)) front item

  pub weaken : (items : List L) (n : ℕ) → Fs (Some n) items → Fs None items
  weaken [] n follow = tt
  weaken (item ∷ items) n follow = (record { is = follow.0.is; other = none_some (process item) }, follow.1)

  -- items whose lines begin a text that begins with the lines of others begin with those, where there are as many
  pub record BeginsWith (front items : List L) : Type 0 where
    pub more : List L
    pub items_are : items ≡ front ++ more

  pub items_ahead : (front items : List L) (before other : Option ℕ) (after rest : List ℕ) → Fs before front → Fs other items → length front ≤ length items →
      flat_map line items ++ after ≡ flat_map line front ++ rest → BeginsWith front items
  items_ahead [] items before other after rest p q long e = record { more = items; items_are = refl }
  items_ahead (first ∷ front) [] before other after rest p q long e = absurd (omega arith)
  items_ahead (first ∷ front) (item ∷ items) before other after rest p q long e =
      let alike = have.alike item first (flat_map line items ++ after) (flat_map line front ++ rest) q.0.is p.0.is
      (sym (append_assoc (line item) (flat_map line items) after) ∙ e ∙ append_assoc (line first) (flat_map line front) rest) in
      let more = items_ahead front items (Some (process first)) (Some (process item)) after rest p.1 q.1 (omega arith) alike.rests in
      record { more = more.more; items_are = ap (λ (r : L). r ∷ items) alike.items ∙ ap (λ (rs : List L). first ∷ rs) more.items_are }

  -- items of two processes in turn, so many
  abbrev pub in_turn : ℕ → ℕ → List L
  in_turn before zero = []
  in_turn before (suc count) = have.some (other_than before) ∷ in_turn (other_than before) count

  pub in_turn_follow : (before count : ℕ) → Fs (Some before) (in_turn before count)
  in_turn_follow before zero = tt
  in_turn_follow before (suc count) =
      let is = other_is before in
      let here : process (have.some (other_than before)) ≡ other_than before = have.some_process (other_than before) in (
        record {
          is = have.some_is (other_than before) is.least is.greatest;
          other = λ e. is.apart (one_target before (process (have.some (other_than before))) e ∙ here);
        },
        subst (λ (n : ℕ). Fs (Some n) (in_turn (other_than before) count)) (sym here) (in_turn_follow (other_than before) count),
      )

  pub in_turn_count : (before count : ℕ) → length (in_turn before count) ≡ count
  in_turn_count before zero = refl
  in_turn_count before (suc count) = let rest = in_turn_count (other_than before) count in omega arith

  lines_begin : (before : Option ℕ) (count : ℕ) (text : List ℕ) (items : List L) → Fs before items → length items ≡ suc count → text ≡ flat_map line items → Parted (One before) text
  lines_begin before count text [] follow long e = absurd (omega arith)
  lines_begin before count text (item ∷ items) follow long e =
      record { part = line item; rest = flat_map line items; is_part = record { item = item; follows = follow.0; text_is = refl }; text_is = e }

  stops_first : (before : Option ℕ) (count : ℕ) (bytes : List ℕ) (at end : ℕ) → StopsAt (One before) bytes at end → StopsAt (Lines before (suc count)) bytes at end
  stops_first before count bytes at end stop =
      first_stops (One before) (Lines before (suc count)) bytes at end stop (λ text is. lines_begin before count text is.items is.follow is.count_is is.text_is)
      (λ part is.
      let items : List L = is.item ∷ in_turn (process is.item) count in
      let rest : List ℕ = flat_map line (in_turn (process is.item) count) in (
        rest,
        record {
          items = items;
          follow = (is.follows, in_turn_follow (process is.item) count);
          count_is = (let n = in_turn_count (process is.item) count in omega arith);
          text_is = ap (λ (p : List ℕ). p ++ rest) is.text_is;
        },
      ))

  lead : (count : ℕ) (front : List L) → Fs None front → length front ≤ count → Leads (Lines None count) (Lines (Last None front) (count - length front)) (flat_map line front)
  lead count front follow few = record {
    goes_on = λ text after rest is e.
        let ahead = items_ahead front is.items None None after rest follow is.follow (omega (arith, is.count_is)) (ap (λ (t : List ℕ). t ++ after) (sym is.text_is) ∙ e) in
        record {
          rest = flat_map line ahead.more;
          is_rest = record {
            items = ahead.more;
            follow = follow_behind None front ahead.more (subst (Fs None) ahead.items_are is.follow);
            count_is = omega (arith, ap length ahead.items_are, length-append front ahead.more, is.count_is);
            text_is = refl;
          };
          text_is = is.text_is ∙ ap (flat_map line) ahead.items_are ∙ flat_map-append line front ahead.more;
        };
    joins = λ rest is. record {
      items = front ++ is.items;
      follow = follow_on None front is.items follow is.follow;
      count_is = omega (arith, length-append front is.items, is.count_is);
      text_is = ap (λ (r : List ℕ). flat_map line front ++ r) is.text_is ∙ sym (flat_map-append line front is.items);
    };
  }

  -- where the next line stops, the lines stop
  pub item_stops : (count : ℕ) (front : List L) (before : Option ℕ) (bytes : List ℕ) (at mid end : ℕ) → Fs None front → before ≡ Last None front → length front < count →
      PartStands (flat_map line front) bytes at mid → StopsAt (One before) bytes mid end → StopsAt (Lines None count) bytes at end
  item_stops count front before bytes at mid end follow is_last few st stop =
      let one_more : suc (count - length front - 1) ≡ count - length front = omega arith in
      let behind = stops_first (Last None front) (count - length front - 1) bytes mid end (subst (λ (o : Option ℕ). StopsAt (One o) bytes mid end) is_last stop) in
      second_stops (Lines None count) (Lines (Last None front) (count - length front)) (flat_map line front) bytes at mid end (lead count front follow (omega arith)) st
      (subst (λ (n : ℕ). StopsAt (Lines (Last None front) n) bytes mid end) one_more behind)

  -- one more item is read
  pub record More (front : List L) (item : L) (bytes : List ℕ) (at next : ℕ) : Type 0 where
    pub follow : Fs None (front ++ item ∷ [])
    pub before : Some (process item) ≡ Last None (front ++ item ∷ [])
    pub stand : PartStands (flat_map line (front ++ item ∷ [])) bytes at next

  pub items_more : (front : List L) (item : L) (before : Option ℕ) (bytes : List ℕ) (at mid next : ℕ) → Fs None front → before ≡ Last None front → CanFollow L process Is before item →
      PartStands (flat_map line front) bytes at mid → PartStands (line item) bytes mid next → More front item bytes at next
  items_more front item before bytes at mid next follow is_last can st one = record {
    follow = follow_on None front (item ∷ []) follow (subst (λ (o : Option ℕ). CanFollow L process Is o item) is_last can, tt);
    before = sym (last_more None front item);
    stand = subst (λ (t : List ℕ). PartStands t bytes at next)
        (ap (λ (l : List ℕ). flat_map line front ++ l) (sym (append-nil (line item))) ∙ sym (flat_map-append line front (item ∷ [])))
        (stands_on (flat_map line front) (line item) bytes at mid next st one);
  }

  -- two lists of as many items of which one begins the other are one
  no_more : (items others more : List L) → items ≡ others ++ more → length items ≡ length others → items ≡ others
  no_more items others more e long =
      let none : more ≡ [] = nothing more (omega (arith, ap length e, length-append others more)) in
      e ∙ ap (λ (m : List L). others ++ m) none ∙ append-nil others
    where
      nothing : (xs : List L) → length xs ≡ 0 → xs ≡ []
      nothing [] z = refl
      nothing (x ∷ xs) z = absurd (omega (arith, z))

  pub same_items : (items others : List L) (a b : List ℕ) → Fs None items → Fs None others → length items ≡ length others →
      flat_map line items ++ a ≡ flat_map line others ++ b → items ≡ others
  same_items items others a b p q long e =
      let ahead = items_ahead others items None None a b q p (omega (arith, long)) e in
      no_more items others ahead.more ahead.items_are long
