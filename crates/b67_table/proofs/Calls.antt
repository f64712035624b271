-- Intrinsics that neither make arrays nor start a process keep an image valid.
use Rattle.std.proofs.Common.{◌≡◌, refl, ap, subst, ◌∙◌, ℕ, zero, suc, ◌+◌, ◌-◌, ◌*◌, ◌+ℤ◌, ◌<◌, ◌≤◌, ◌^◌, true, ℤ, pos, List, [], ◌∷◌, ◌++◌, length, All, Option, Some, None, cond, arith}
use Rattle.std.specs.Prelude.{nat_le, ◌&&◌}
use Rattle.std.proofs.lemmas.Bool.{leb-true}
use Rattle.std.proofs.lemmas.List.Elements.{All-nil, All-cons}
use Rattle.b67_list.specs.Numbered.{numbered}
use Rattle.b67_word.specs.declared.Place.{Place}
use Rattle.b67_word.specs.Word.{Word, IsWord, operand, truth}
use Rattle.b67_word.proofs.WordLaws.{operand_word_is, truth_is_word}
use Rattle.b67_control.specs.declared.Registers.{Registers}
use Rattle.b67_control.specs.declared.Mscw.{Mscw}
use Rattle.b67_control.specs.Control.{event_word}
use Rattle.b67_control.proofs.ControlLaws.{IsWord_event_word}
use Rattle.b67_segment.specs.declared.code.Code.{Code}
use Rattle.b67_deeds.specs.declared.EventTest.{EventTest}
use Rattle.b67_deeds.specs.declared.EventTest.TheVariants as test
use Rattle.b67_deeds.specs.Deeds.{EventDeed, tests, answers}
use Rattle.b67_events.specs.Events.{state_at, first_event_happened}
use Rattle.b67_table.specs.declared.Cell.{Cell}
use Rattle.b67_table.specs.declared.InterruptKind.TheVariants.{InvalidOperand}
use Rattle.b67_table.specs.Limits.{end_of_code, most_events}
use Rattle.b67_table.specs.Private.{floor}
use Rattle.b67_table.specs.Look.{◌>->◌, look_seen, valid}
use Rattle.b67_table.specs.Chains.{place, chain_broken, mark_at}
use Rattle.b67_table.specs.References.{cell_place}
use Rattle.b67_table.specs.Image.{Image, woken_number, is_able, is_live}
use Rattle.b67_table.specs.Writes.{write_made}
use Rattle.b67_table.specs.Writes as writes
use Rattle.b67_table.specs.Program.{asked, Change, Program}
use Rattle.b67_table.specs.Arguments.{Three, three, no_such, wholes, argument_number_in, event_of, events_of, if_chained, finished_at}
use Rattle.b67_table.specs.Intrinsics.{case_in, case_place, gone_to_case, select, write, make_event, on_event, tell_event, gone_or_waiting, woken_or_not, wait_for_any}
use Rattle.b67_table.specs.Lines.{line_for}
use Rattle.b67_table.specs.Valid.{IsValid}
use Rattle.b67_table.proofs.Keeping.{Gives, anything}
use Rattle.b67_table.proofs.Finding.{Found, look_then, see_then, test_then, gives_by, there_found, anything_found}
use Rattle.b67_table.proofs.OwnValid.{process_stays}
use Rattle.b67_table.proofs.Simple.{Ends, finished_ends}
use Rattle.b67_table.proofs.EventKept.{open_event_valid}
use Rattle.b67_table.proofs.Waking.{event_deed_valid, event_deed_live}
use Rattle.b67_table.proofs.Withdrawing.{first_within}
use Rattle.b67_table.proofs.Several.{wait_any_valid, go_on_valid, small_number}
use Rattle.b67_table.proofs.FirstValid.{both}
use Rattle.b67_table.proofs.Exits.{number_by}

pub output_valid : (code : Code) (img : Image) (lines : List (List ℕ)) → IsValid code img → IsValid code (record img { output = lines })
output_valid code img lines v = record {
  segments = v.segments;
  words = v.words;
  registers = v.registers;
  states = v.states;
  numbers = v.numbers;
  positions = v.positions;
  some = v.some;
  most = v.most;
  system = v.system;
  stacks = v.stacks;
  processes = λ q r l i. process_stays img (record img { output = lines }) q r refl (v.processes q r l i);
  earlier = v.earlier;
  rows = record { few = v.rows.few; room = v.rows.room; short = v.rows.short; words = v.rows.words; shallow = v.rows.shallow };
  events = v.events;
}

module _ (code : Code) (img : Image) (p : ℕ) (r : Registers) (v : IsValid code img) (live : is_live (numbered img.states p) ≡ true)
    (has : numbered img.regs p ≡ Some r) (next : ℕ) (small : next < 2 ^ 16) (m : Mscw) (low : floor r ≤ r.f) (high : r.f + 1 < r.s) where
  E : Change → Type 0
  E = Ends code img p

  pub chained_kept : (more : Program) → Gives (Ends code img p) (asked img more) → Gives (Ends code img p) (asked img (if_chained r m more))
  chained_kept more k =
      see_then img (λ (lower : Mscw). Unit {0}) (Ends code img p) (cond (nat_le m.df r.f) (mark_at (place r.stack (r.f - m.df))) chain_broken) (λ (lower : Mscw). more)
      (anything_found (look_seen img.stacks (cond (nat_le m.df r.f) (mark_at (place r.stack (r.f - m.df))) chain_broken))) (λ lower u. k)

  finish : (words : List Word) → All IsWord words → E (finished_at r m words next)
  unfolding E
  finish words are = finished_ends code img p r v live has m words next low (omega (arith, high)) are small

  -- the places that SELECT goes to
  At : Option ℕ → Type 0
  At o = (n : ℕ) → o ≡ Some n → n ≤ end_of_code

  no_place : At None
  unfolding At
  no_place n e = cc

  same_place : (to : ℕ) → to ≤ end_of_code → At (Some to)
  unfolding At
  same_place to h n e = let same : to ≡ n = cc in subst (λ (x : ℕ). x ≤ end_of_code) same h

  case_found : (first : ℤ) (o : Option ℕ) → Found At (look_seen img.stacks (case_place first o))
  unfolding At
  case_found first None = no_place
  case_found first (Some k) =
      look_then img.stacks (λ (n : ℕ). n ≤ end_of_code) At (valid (argument_number_in (first +ℤ pos (3 * k)) end_of_code)) _
      (there_found img.stacks (λ (n : ℕ). n ≤ end_of_code) InvalidOperand (argument_number_in (first +ℤ pos (3 * k)) end_of_code)
      (number_by code img p r v live has next small (first +ℤ pos (3 * k)) end_of_code)) (λ to h. same_place to h)

  case_kept : (o : Option ℕ) → At o → Gives E (asked img (gone_to_case r m o))
  unfolding E At
  case_kept None k = tt
  case_kept (Some to) k = finished_ends code img p r v live has m [] to low (omega (arith, high)) (All-nil IsWord) (omega (arith, k to refl))

  pub select_kept : (words : List Word) → Gives (Ends code img p) (asked img (select code r next m words))
  unfolding E At
  select_kept words =
      see_then img (λ (t : Three). Unit {0}) E (three words) _ (anything_found (look_seen img.stacks (three words))) (λ z u.
      see_then img At E (case_place z.third (case_in z.first z.second)) _ (case_found z.third (case_in z.first z.second)) (λ to k.
      chained_kept (gone_to_case r m to) (case_kept to k)))

  pub write_kept : (words : List Word) → Gives (Ends code img p) (asked img (write code r next m words))
  unfolding E Ends
  write_kept words =
      see_then img (λ (bytes : List ℕ). Unit {0}) (Ends code img p) (wholes words >-> (λ (zs : List ℤ). valid (line_for code zs))) _
      (anything_found (look_seen img.stacks (wholes words >-> (λ (zs : List ℤ). valid (line_for code zs))))) (λ bytes u.
      chained_kept _ (finished_ends code (record img { output = img.output ++ bytes ∷ [] }) p r (output_valid code img (img.output ++ bytes ∷ []) v) live has m [] next low
      (omega (arith, high)) (All-nil IsWord) small))

  pub make_event_kept : (words : List Word) → Gives (Ends code img p) (asked img (make_event code r next m words))
  unfolding Ends
  make_event_kept [] =
      chained_kept _ (finished_ends code (write_made p (writes.open_event (place r.stack r.f)) img) p r (open_event_valid code img v (place r.stack r.f)) live has m
      (event_word (record {}) ∷ []) next low (omega (arith, high)) (All-cons IsWord (event_word (record {})) [] (IsWord_event_word (record {}) tt) (All-nil IsWord)) small)
  make_event_kept (w ∷ words) = tt

  pub tell_kept : is_able (numbered img.states p) ≡ true → (x : EventTest) (words : List Word) → Gives (Ends code img p) (asked img (tell_event x code r next m words))
  unfolding Ends
  tell_kept able x [] = tt
  tell_kept able x (w ∷ []) =
      test_then img (λ (c : Cell). Unit {0}) (Ends code img p) (event_of r w) _ (anything (asked img (event_of r w))) (λ c u.
      let told = answers x (state_at (cell_place c) img.events) in
      chained_kept _ (finished_ends code (write_made p (writes.event_deed (tests x) (cell_place c)) img) p r (event_deed_valid code img v p able (tests x) (cell_place c))
      (event_deed_live code img v p able (tests x) (cell_place c) p ∙ live) has m (truth told ∷ []) next low (omega (arith, high))
      (All-cons IsWord (truth told) [] (truth_is_word told) (All-nil IsWord)) small))
  tell_kept able x (w ∷ v ∷ words) = tt

  -- what is done with one event
  pub event_deed_kept : is_able (numbered img.states p) ≡ true → (x : EventDeed) (words : List Word) → Gives (Ends code img p) (asked img (on_event x code r next m words))
  unfolding Ends
  event_deed_kept able x [] = tt
  event_deed_kept able x (w ∷ []) =
      test_then img (λ (c : Cell). Unit {0}) (Ends code img p) (event_of r w) _ (anything (asked img (event_of r w))) (λ c u.
      chained_kept _ (finished_ends code (write_made p (writes.event_deed x (cell_place c)) img) p r (event_deed_valid code img v p able x (cell_place c))
      (event_deed_live code img v p able x (cell_place c) p ∙ live) has m [] next low (omega (arith, high)) (All-nil IsWord) small))
  event_deed_kept able x (w ∷ y ∷ words) = tt

  -- ---- several events

  events_found : (words : List Word) → Gives (λ (places : List Place). length places ≡ length words) (asked img (events_of r words))
  events_found [] = refl
  events_found (w ∷ words) =
      test_then img (λ (c : Cell). Unit {0}) (λ (places : List Place). length places ≡ suc (length words)) (event_of r w) _ (anything (asked img (event_of r w))) (λ c u.
      test_then img (λ (places : List Place). length places ≡ length words) (λ (places : List Place). length places ≡ suc (length words)) (events_of r words) _
      (events_found words) (λ places n. ap suc n))

  position : (n : ℕ) → n ≤ most_events → All IsWord (operand (pos n) ∷ [])
  position n h = All-cons IsWord (operand (pos n)) [] (operand_word_is (pos n) (omega (arith, h))) (All-nil IsWord)

  module _ (able : is_able (numbered img.states p) ≡ true) (places : List Place) (few : length places ≤ most_events) where
    by_first : (o : Option ℕ) → ((n : ℕ) → o ≡ Some n → n ≤ most_events) → Gives (Ends code img p) (asked img (gone_or_waiting r next m places o))
    unfolding E Ends
    by_first None k = λ short rows. wait_any_valid code img v p able places few
    by_first (Some n) k = finish (operand (pos n) ∷ []) (position n (k n refl))

    by_number : (n : ℕ) → n ≤ most_events → Gives (Ends code img p) (asked img (woken_or_not r next m places n))
    unfolding Ends
    by_number zero h =
        by_first (first_event_happened places img.events) (λ n e.
        let within = first_within (λ at. answers test.WaitAny (state_at at img.events)) 1 places n e in omega (arith, within, few))
    by_number (suc n) h =
        finished_ends code (write_made p writes.go_on img) p r (go_on_valid code img v p) live has m (operand (pos (suc n)) ∷ []) next low (omega (arith, high))
        (position (suc n) h) small

  pub wait_any_kept : is_able (numbered img.states p) ≡ true → (words : List Word) → Gives (Ends code img p) (asked img (wait_for_any code r next m words))
  wait_any_kept able words =
      gives_by img (Ends code img p) (nat_le 1 (length words) && nat_le (length words) most_events) _ no_such (λ b.
      test_then img (λ (places : List Place). length places ≡ length words) (Ends code img p) (events_of r words) _ (events_found words) (λ places n.
      let most = leb-true (length words) most_events (both (nat_le 1 (length words)) (nat_le (length words) most_events) b).1 in
      chained_kept _ (by_number able places (omega (arith, n, most)) (woken_number img.numbers r.stack) (small_number img.numbers r.stack v.positions))))
      (λ b. tt)
