-- How texts are made of parts: where a part stops, the text does.
use Rattle.std.proofs.Common.{◌≡◌, ℕ, ◌+◌, ◌-◌, ◌<◌, ◌≤◌, List, [], ◌∷◌, ◌++◌, length, take, drop, sym, ap, subst, arith, ◌∙◌, ⊎_elim, append_assoc}
use Rattle.std.specs.Prelude.{◌⊎◌}
use Rattle.std.proofs.lemmas.List.{append-nil, length-append, length-take-le, take_at, take-append-drop, append_cancel_left}
use Rattle.std.proofs.lemmas.Bool.{cases_lt}
use Rattle.b67_list.proofs.Lists.{take_append_ge}
use Rattle.b67_text.specs.Texts.{Begins, IsLongest, HasNone, IsRefused, StopsAt, PartStands, AreApart}
use Rattle.b67_text.proofs.Decimals.{Longer, Shorter, compare_fronts}

-- a text begins with a part of this kind
pub record Parted (Part : List ℕ → Type 0) (text : List ℕ) : Type 0 where
  pub part : List ℕ
  pub rest : List ℕ
  pub is_part : Part part
  pub text_is : text ≡ part ++ rest

first_reach : (Part Is : List ℕ → Type 0) (items : List ℕ) (count : ℕ) → HasNone Part items count →
    ((text : List ℕ) → Is text → Parted Part text) → ((part : List ℕ) → Part part → Begins Is part) → IsLongest Is items count
first_reach Part Is items count stop splits goes_on =
    let whole = stop.reach.begins in
    let more = goes_on (take count items ++ whole.0) whole.1 in
    record {
      within = stop.reach.within;
      begins = (whole.0 ++ more.0, subst Is (append_assoc (take count items) whole.0 more.0) more.1);
      longest = λ k inside b.
          let split = splits (take k items ++ b.0) b.1 in
          ⊎_elim (λ (h : Longer (take k items) split.part b.0 split.rest).
          absurd (stop.none split.part (h.more ++ drop k items) split.is_part
          (sym (append_assoc split.part h.more (drop k items)) ∙ ap (λ t. t ++ drop k items) (sym h.longer) ∙ take-append-drop k items)))
          (λ (h : Shorter (take k items) split.part b.0 split.rest).
          stop.reach.longest k inside (h.head ∷ h.more, subst Part h.shorter split.is_part)) (compare_fronts (take k items) split.part b.0 split.rest split.text_is);
    }

first_none : (Part Is : List ℕ → Type 0) (items : List ℕ) (count : ℕ) → HasNone Part items count →
    ((text : List ℕ) → Is text → Parted Part text) → (text after : List ℕ) → Is text → text ++ after ≡ items → ⊥
first_none Part Is items count stop splits text after is e =
    let split = splits text is in
    stop.none split.part (split.rest ++ after) split.is_part (sym (append_assoc split.part split.rest after) ∙ ap (λ t. t ++ after) (sym split.text_is) ∙ e)

-- where the first part stops, the text stops
pub first_stops : (Part Is : List ℕ → Type 0) (bytes : List ℕ) (at end : ℕ) → StopsAt Part bytes at end →
    ((text : List ℕ) → Is text → Parted Part text) → ((part : List ℕ) → Part part → Begins Is part) → StopsAt Is bytes at end
first_stops Part Is bytes at end stop splits goes_on = record {
  behind = stop.behind;
  none = record {
    none = λ text after is e. first_none Part Is (drop at bytes) (end - at) stop.none splits text after is e;
    reach = first_reach Part Is (drop at bytes) (end - at) stop.none splits goes_on;
  };
}

-- a text that begins with these items goes on with one of those
pub record GoesOnWith (Rest : List ℕ → Type 0) (front text : List ℕ) : Type 0 where
  pub rest : List ℕ
  pub is_rest : Rest rest
  pub text_is : text ≡ front ++ rest

-- what may stand after the items that begin a text
pub record Leads (Is Rest : List ℕ → Type 0) (front : List ℕ) : Type 0 where
  pub goes_on : (text after items : List ℕ) → Is text → text ++ after ≡ front ++ items → GoesOnWith Rest front text
  pub joins : (rest : List ℕ) → Rest rest → Is (front ++ rest)

second_longest : (Is Rest : List ℕ → Type 0) (front items : List ℕ) (count : ℕ) → Leads Is Rest front → HasNone Rest items count →
    (j : ℕ) → j ≤ length items → Begins Is (front ++ take j items) → j ≤ count
second_longest Is Rest front items count leads stop j inside b =
    let text : List ℕ = (front ++ take j items) ++ b.0 in
    let on = leads.goes_on text [] (take j items ++ b.0) b.1 (append-nil text ∙ append_assoc front (take j items) b.0) in
    let same : on.rest ≡ take j items ++ b.0 = append_cancel_left front on.rest (take j items ++ b.0) (sym on.text_is ∙ append_assoc front (take j items) b.0) in
    stop.reach.longest j inside (b.0, subst Rest same on.is_rest)

second_none : (Is Rest : List ℕ → Type 0) (front items : List ℕ) (count : ℕ) → Leads Is Rest front → HasNone Rest items count → HasNone Is (front ++ items) (length front + count)
second_none Is Rest front items count leads stop = record {
  none = λ text after is e.
      let on = leads.goes_on text after items is e in
      stop.none on.rest after on.is_rest (append_cancel_left front (on.rest ++ after) items (sym (append_assoc front on.rest after) ∙ ap (λ t. t ++ after) (sym on.text_is) ∙ e));
  reach = record {
    within = omega (arith, length-append front items, stop.reach.within);
    begins =
        let whole = stop.reach.begins in
        let same : front ++ (take count items ++ whole.0) ≡ take (length front + count) (front ++ items) ++ whole.0 =
        sym (append_assoc front (take count items) whole.0)
        ∙ ap (λ t. t ++ whole.0) (sym (take_append_ge front items (length front + count) (omega arith) ∙ ap (λ n. front ++ take n items) (omega arith))) in
        (whole.0, subst Is same (leads.joins (take count items ++ whole.0) whole.1));
    longest = λ k inside b.
        ⊎_elim (λ (past : length front < k).
        let long : length (front ++ items) ≡ length front + length items = length-append front items in
        let below : k - length front ≤ count = second_longest Is Rest front items count leads stop (k - length front) (omega arith) (subst (Begins Is) (take_append_ge front items k (omega arith)) b) in
        omega arith)
        (λ (fine : k ≤ length front). omega arith) (cases_lt (length front) k);
  };
}

-- where what stands after the front stops, the text stops
pub second_stops : (Is Rest : List ℕ → Type 0) (front bytes : List ℕ) (at mid end : ℕ) → Leads Is Rest front → PartStands front bytes at mid → StopsAt Rest bytes mid end → StopsAt Is bytes at end
second_stops Is Rest front bytes at mid end leads st stop =
    let count : length front + (end - mid) ≡ end - at = omega (arith, st.next_is, stop.behind) in
    record {
      behind = omega (arith, st.next_is, stop.behind);
      none = subst (λ n. HasNone Is (drop at bytes) n) count
          (subst (λ xs. HasNone Is xs (length front + (end - mid))) (sym st.part_is) (second_none Is Rest front (drop mid bytes) (end - mid) leads stop.none));
    }

-- one part after another
pub stands_on : (part more bytes : List ℕ) (at mid next : ℕ) → PartStands part bytes at mid → PartStands more bytes mid next → PartStands (part ++ more) bytes at next
stands_on part more bytes at mid next first second = record {
  within = second.within;
  next_is = omega (arith, first.next_is, second.next_is, length-append part more);
  part_is = first.part_is ∙ ap (λ r. part ++ r) second.part_is ∙ sym (append_assoc part more (drop next bytes));
}

-- bytes in which a text stops are refused there
pub refused_where_it_stops : (Is : List ℕ → Type 0) (bytes : List ℕ) (end : ℕ) → StopsAt Is bytes 0 end → IsRefused Is bytes end
refused_where_it_stops Is bytes end stop =
    let same : end - 0 ≡ end = omega arith in
    let none : HasNone Is bytes end = subst (λ n. HasNone Is bytes n) same stop.none in
    record { none = λ is. none.none bytes [] is (append-nil bytes); reach = none.reach }

-- bytes that go on after a text are refused where they do
pub refused_behind : (Is : List ℕ → Type 0) (text bytes : List ℕ) (next : ℕ) → AreApart Is → Is text → PartStands text bytes 0 next → next < length bytes → IsRefused Is bytes next
refused_behind Is text bytes next apart is st more =
    let whole : bytes ≡ text ++ drop next bytes = st.part_is in
    let count : next ≡ length text = omega (arith, st.next_is) in
    let front : take next bytes ≡ text = ap (take next) whole ∙ take_at text (drop next bytes) next (sym count) in
    record {
      none = λ all. let same : bytes ≡ text = apart bytes text [] (drop next bytes) all is (append-nil bytes ∙ whole) in omega (arith, ap length same);
      reach = record {
        within = st.within;
        begins = ([], subst Is (sym front ∙ sym (append-nil (take next bytes))) is);
        longest = λ k inside b.
            ⊎_elim (λ (past : next < k).
            let longer : take k bytes ≡ text ++ take (k - length text) (drop next bytes) = ap (take k) whole ∙ take_append_ge text (drop next bytes) k (omega arith) in
            let e : (take k bytes ++ b.0) ++ [] ≡ text ++ (take (k - length text) (drop next bytes) ++ b.0) =
            append-nil (take k bytes ++ b.0) ∙ ap (λ t. t ++ b.0) longer ∙ append_assoc text (take (k - length text) (drop next bytes)) b.0 in
            let same : take k bytes ++ b.0 ≡ text = apart (take k bytes ++ b.0) text [] (take (k - length text) (drop next bytes) ++ b.0) b.1 is e in
            omega (arith, ap length same, length-append (take k bytes) b.0, length-take-le k bytes inside))
            (λ (fine : k ≤ next). fine) (cases_lt next k);
      };
    }

-- one of two kinds
abbrev pub Either : (List ℕ → Type 0) → (List ℕ → Type 0) → List ℕ → Type 0
Either One Other text = One text ⊎ Other text
