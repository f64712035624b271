-- Texts of a head, the number of their lines, and the lines.
use Rattle.std.proofs.Common.{◌≡◌, ℕ, ◌^◌, ◌<◌, ◌≤◌, Option, None, List, [], ◌∷◌, ◌++◌, length, refl, sym, ap, subst, arith, ◌∙◌, append_assoc}
use Rattle.std.specs.List.{flat_map}
use Rattle.std.specs.Fmt.{decimal}
use Rattle.std.proofs.lemmas.List.{append-nil, append_cancel_left}
use Rattle.b67_text.specs.Texts.{StopsAt, PartStands, AreApart}
use Rattle.b67_text.specs.Numerals.{NumberIsIn, IsField}
use Rattle.b67_text.proofs.Fronts.{FieldsAlike, fields_alike, IsWord}
use Rattle.b67_text.proofs.Parts.{first_stops, Leads, second_stops, stands_on}
use Rattle.b67_schedule.specs.Lines.{Follow, AreLines}
use Rattle.b67_schedule.specs.Schedules.{most_in_schedule}
use Rattle.b67_schedule.specs.Reading.{numbers_of_schedule}
use Rattle.b67_schedule.proofs.Items.{none_some, HaveLines, weaken, in_turn, in_turn_follow, in_turn_count, same_items}
use Rattle.b67_schedule.proofs.OldLines.{line_end, line_ends}

abbrev pub count_part : ℕ → List ℕ
count_part n = decimal n ++ line_end ∷ []

count_in : (n : ℕ) → n ≤ most_in_schedule → NumberIsIn (numbers_of_schedule 0 None) n
count_in n few = record { fits = omega arith; least = omega arith; most = few; other = none_some n }

module _ (L : Type 0) (process : L → ℕ) (Is : L → Type 0) (line : L → List ℕ) (have : HaveLines L process Is line) (head : List ℕ) where
  abbrev pub Whole : List L → List ℕ
  Whole items = head ++ (count_part (length items) ++ flat_map line items)

  pub record IsWhole (text : List ℕ) : Type 0 where
    pub items : List L
    pub follow : Follow L process Is None items
    pub few : length items ≤ most_in_schedule
    pub text_is : text ≡ Whole items

  abbrev Lines : ℕ → List ℕ → Type 0
  Lines count text = AreLines L process Is line None count text

  turns : ℕ → List L
  turns count = in_turn L process Is line have 1 count

  turns_follow : (count : ℕ) → Follow L process Is None (turns count)
  unfolding turns
  turns_follow count = weaken L process Is line have (in_turn L process Is line have 1 count) 1 (in_turn_follow L process Is line have 1 count)

  turns_count : (count : ℕ) → length (turns count) ≡ count
  unfolding turns
  turns_count count = in_turn_count L process Is line have 1 count

  -- after the head stand the count and the lines
  record IsBehindHead (text : List ℕ) : Type 0 where
    pub items : List L
    pub follow : Follow L process Is None items
    pub few : length items ≤ most_in_schedule
    pub text_is : text ≡ count_part (length items) ++ flat_map line items

  pub head_stops : (bytes : List ℕ) (at end : ℕ) → StopsAt (IsWord head) bytes at end → StopsAt IsWhole bytes at end
  head_stops bytes at end stop =
      first_stops (IsWord head) IsWhole bytes at end stop
      (λ text is. record { part = head; rest = count_part (length is.items) ++ flat_map line is.items; is_part = refl; text_is = is.text_is })
      (λ part is. (
        count_part 0,
        record {
          items = [];
          follow = tt;
          few = omega arith;
          text_is = ap (λ (p : List ℕ). p ++ count_part 0) is ∙ ap (λ (r : List ℕ). head ++ r) (sym (append-nil (count_part 0)));
        },
      ))

  count_stops_first : (bytes : List ℕ) (at end : ℕ) → StopsAt (IsField (numbers_of_schedule 0 None) line_end) bytes at end → StopsAt IsBehindHead bytes at end
  count_stops_first bytes at end stop =
      first_stops (IsField (numbers_of_schedule 0 None) line_end) IsBehindHead bytes at end stop
      (λ text is. record {
        part = count_part (length is.items);
        rest = flat_map line is.items;
        is_part = record { number = length is.items; is_in = count_in (length is.items) is.few; text_is = refl };
        text_is = is.text_is;
      })
      (λ part is.
      let items : List L = turns is.number in
      let count : is.number ≡ length items = sym (turns_count is.number) in (
        flat_map line items,
        record {
          items = items;
          follow = turns_follow is.number;
          few = omega (arith, count, is.is_in.most);
          text_is = ap (λ (p : List ℕ). p ++ flat_map line items) (is.text_is ∙ ap count_part count);
        },
      ))

  head_leads : Leads IsWhole IsBehindHead head
  head_leads = record {
    goes_on = λ text after rest is e. record {
      rest = count_part (length is.items) ++ flat_map line is.items;
      is_rest = record { items = is.items; follow = is.follow; few = is.few; text_is = refl };
      text_is = is.text_is;
    };
    joins = λ rest is. record { items = is.items; follow = is.follow; few = is.few; text_is = ap (λ (r : List ℕ). head ++ r) is.text_is };
  }

  pub count_stops : (bytes : List ℕ) (at mid end : ℕ) → PartStands head bytes at mid → StopsAt (IsField (numbers_of_schedule 0 None) line_end) bytes mid end → StopsAt IsWhole bytes at end
  count_stops bytes at mid end st stop =
      second_stops IsWhole IsBehindHead head bytes at mid end head_leads st (count_stops_first bytes mid end stop)

  -- texts that go on alike are of as many lines
  counts_alike : (items : List L) (count : ℕ) (after rest : List ℕ) → length items ≤ most_in_schedule → count ≤ most_in_schedule → Whole items ++ after ≡ (head ++ count_part count) ++ rest →
      FieldsAlike (length items) count (flat_map line items ++ after) rest
  counts_alike items count after rest is few e =
      fields_alike (length items) count line_end (flat_map line items ++ after) rest (omega (arith, is)) (omega (arith, few)) line_ends
      (sym (append_assoc (decimal (length items)) (line_end ∷ []) (flat_map line items ++ after)) ∙ sym (append_assoc (count_part (length items)) (flat_map line items) after)
      ∙ append_cancel_left head ((count_part (length items) ++ flat_map line items) ++ after) (count_part count ++ rest)
      (sym (append_assoc head (count_part (length items) ++ flat_map line items) after) ∙ e ∙ append_assoc head (count_part count) rest)
      ∙ append_assoc (decimal count) (line_end ∷ []) rest)

  lead_whole : (count : ℕ) → count ≤ most_in_schedule → Leads IsWhole (Lines count) (head ++ count_part count)
  lead_whole count few = record {
    goes_on = λ text after rest is e.
        let alike = counts_alike is.items count after rest is.few few (ap (λ (t : List ℕ). t ++ after) (sym is.text_is) ∙ e) in
        record {
          rest = flat_map line is.items;
          is_rest = record { items = is.items; follow = is.follow; count_is = alike.numbers; text_is = refl };
          text_is = is.text_is ∙ ap (λ (n : ℕ). head ++ (count_part n ++ flat_map line is.items)) alike.numbers
              ∙ sym (append_assoc head (count_part count) (flat_map line is.items));
        };
    joins = λ rest is. record {
      items = is.items;
      follow = is.follow;
      few = omega (arith, is.count_is, few);
      text_is = ap (λ (r : List ℕ). (head ++ count_part count) ++ r) is.text_is ∙ append_assoc head (count_part count) (flat_map line is.items)
          ∙ ap (λ (n : ℕ). head ++ (count_part n ++ flat_map line is.items)) (sym is.count_is);
    };
  }

  pub lines_stop : (count : ℕ) (bytes : List ℕ) (at behind mid end : ℕ) → NumberIsIn (numbers_of_schedule 0 None) count → PartStands head bytes at behind → PartStands (count_part count) bytes behind mid →
      StopsAt (Lines count) bytes mid end → StopsAt IsWhole bytes at end
  lines_stop count bytes at behind mid end is st field stop =
      second_stops IsWhole (Lines count) (head ++ count_part count) bytes at mid end (lead_whole count is.most)
      (stands_on head (count_part count) bytes at behind mid st field) stop

  pub whole_stands : (items : List L) (count : ℕ) (bytes : List ℕ) (at behind mid next : ℕ) → length items ≡ count → PartStands head bytes at behind → PartStands (count_part count) bytes behind mid →
      PartStands (flat_map line items) bytes mid next → PartStands (Whole items) bytes at next
  whole_stands items count bytes at behind mid next long st field lines =
      subst (λ (t : List ℕ). PartStands t bytes at next)
      (append_assoc head (count_part count) (flat_map line items) ∙ ap (λ (n : ℕ). head ++ (count_part n ++ flat_map line items)) (sym long))
      (stands_on (head ++ count_part count) (flat_map line items) bytes at mid next (stands_on head (count_part count) bytes at behind mid st field) lines)

  -- two whole texts that begin one list are of the same items
  pub one_whole : (items others : List L) (a b : List ℕ) → Follow L process Is None items → Follow L process Is None others → length items ≤ most_in_schedule → length others ≤ most_in_schedule →
      Whole items ++ a ≡ Whole others ++ b → items ≡ others
  one_whole items others a b p q few many e =
      let alike = counts_alike items (length others) a (flat_map line others ++ b) few many
      (e ∙ ap (λ (t : List ℕ). t ++ b) (sym (append_assoc head (count_part (length others)) (flat_map line others)))
      ∙ append_assoc (head ++ count_part (length others)) (flat_map line others) b) in
      same_items L process Is line have items others a b p q alike.numbers alike.rests

  pub wholes_apart : AreApart IsWhole
  wholes_apart part other a b p q e =
      p.text_is ∙ ap Whole (one_whole p.items q.items a b p.follow q.follow p.few q.few (ap (λ (t : List ℕ). t ++ a) (sym p.text_is) ∙ e ∙ ap (λ (t : List ℕ). t ++ b) q.text_is))
      ∙ sym q.text_is
