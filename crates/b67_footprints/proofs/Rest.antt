-- What an operator does not reach it leaves as it is.
use Rattle.std.proofs.Common.{◌≡◌, ◌≢◌, ◌⊎◌, inl, inr, refl, sym, ap, subst, ◌∙◌, ℕ, zero, suc, ◌+◌, ◌≤◌, Bool, List, [], ◌∷◌, ◌++◌, length, set, Option, Some, None, Result, Ok, cond, arith, length-append, true, false}
use Rattle.std.specs.Prelude.{slice_get, nat_le, if◌then◌else◌, ◌&&◌, ◌||◌, ◌==◌, map}
use Rattle.std.specs.Option.{option_map}
use Rattle.std.proofs.Math.Decide.{ℕ_discrete}
use Rattle.b67_list.specs.Numbered.{numbered, set_numbered}
use Rattle.b67_list.proofs.Lists.{get_set_other}
use Rattle.b67_list.proofs.Numbers.{same_number}
use Rattle.b67_deeds.specs.declared.EventAct.TheVariants as act
use Rattle.b67_deeds.specs.declared.EventTest.TheVariants as test
use Rattle.b67_deeds.specs.Deeds.{EventDeed, acts, tests, Next, goes, waits, procures, deed}
use Rattle.b67_deeds.specs.Events.{EventState, joined, left_by}
use Rattle.b67_deeds.specs.Listed.{IsListed}
use Rattle.b67_events.specs.Events.{Event, event_at, state_at, same_place, is_from, event_is_among, joined_all, withdrawn, changed_by, with_state, deed_at}
use Rattle.b67_events.proofs.EventLaws.{one_event}
use Rattle.b67_events.proofs.Listed.{same_place_true}
use Rattle.b67_word.specs.declared.Place.{Place}
use Rattle.b67_word.specs.Word.{Word}
use Rattle.b67_control.specs.declared.Registers.{Registers}
use Rattle.b67_ops.specs.declared.Operator.{Operator}
use Rattle.b67_ops.specs.declared.BadCode.{BadCode}
use Rattle.b67_segment.specs.declared.code.Code.{Code}
use Rattle.b67_store.specs.Store.{Stacks, words_or, words_of, word_at, with_word, row_at, row_with, zero_row}
use Rattle.b67_store.proofs.StoreLaws.{opened_others, changed_others}
use Rattle.b67_table.specs.declared.InterruptKind.TheVariants.{BadCode as bad_code}
use Rattle.b67_table.specs.declared.Private.{Private}
use Rattle.b67_table.specs.declared.ProcessState.{ProcessState}
use Rattle.b67_table.specs.declared.ProcessState.TheVariants.{Able, Ended, WaitsFor, WaitsAny, Procures}
use Rattle.b67_table.specs.Effect.{Effect, gives, faults, interrupts}
use Rattle.b67_table.specs.Private.{floor}
use Rattle.b67_table.specs.Chains.{place}
use Rattle.b67_table.specs.Image.{Image, private_of, with_private}
use Rattle.b67_table.specs.Questions.{told}
use Rattle.b67_table.specs.Writes.{Write, write_made, able_again, waiting, states_after}
use Rattle.b67_table.specs.Writes as writes
use Rattle.b67_table.specs.Program.{Change, done, look_up, write, Program, asked, changed, effect_of, does}
use Rattle.b67_table.specs.Rows.{TableRow, private_part, action, row}
use Rattle.b67_table.specs.Table.{raw, operator_at, by_row, by_operator, by_registers}
use Rattle.b67_table.specs.Sound.{Lives}
use Rattle.b67_table.proofs.Keeping.{Gives}
use Rattle.b67_table.proofs.Privacy.{part_keeps, put_by}
use Rattle.b67_table.proofs.Withdrawing.{mapped_at}
use Rattle.b67_table.proofs.Stacks.{get_numbered_other, get_numbered_append}
use Rattle.b67_table.proofs.EventKept.{length_states}
use Rattle.b67_table.proofs.OwnValid.{length_numbered}
use Rattle.b67_table.proofs.Several.{event_place}
use Rattle.b67_footprints.specs.Reaching.{ReachesRow, ReachesEvent, free}
use Rattle.b67_footprints.specs.Keeping.{ReachesAll, MayWrite, NamesOperand, ChangeKeeps, ProgramKeeps, RowKeeps}
use Rattle.b67_footprints.specs.Laws.{all_left_by, LeavesEvent, LeavesTheRest, OperatorsLeaveTheRest}
use Rattle.b67_footprints.proofs.Every.{operators_keep}
use Rattle.b67_footprints.proofs.Touching.{keeps_gives}

-- ---- one word of a stack is another

word_beside : (st : Stacks) (n at k : ℕ) (w : Word) → k ≢ at → slice_get (words_of (set st n (Some (set (words_of st n) at w))) n) k ≡ slice_get (words_of st n) k
word_beside [] n at k w h = refl
word_beside (y ∷ st) zero at k w h = get_set_other (words_or y) at k w h
word_beside (y ∷ st) (suc n) at k w h = word_beside st n at k w h

place_same : (x y : Place) → x.stack ≡ y.stack → x.at ≡ y.at → x ≡ y
place_same x y e f = ap (λ (n : ℕ). place n x.at) e ∙ ap (λ (n : ℕ). place y.stack n) f

saved_beside : (st : Stacks) (x y : Place) (w : Word) → x ≢ y → word_at (with_word st y w) x ≡ word_at st x
saved_beside st x y w h = by_stack (ℕ_discrete x.stack y.stack)
  where
    by_stack : Dec (x.stack ≡ y.stack) → word_at (with_word st y w) x ≡ word_at st x
    by_stack (no other) = ap (λ (o : Option (List Word)). slice_get (words_or o) x.at) (changed_others st y.stack x.stack _ other)
    by_stack (yes e) =
        ap (λ (n : ℕ). slice_get (words_of (with_word st y w) n) x.at) e
        ∙ word_beside st y.stack y.at x.at w (λ f. h (place_same x y e f))
        ∙ ap (λ (n : ℕ). slice_get (words_of st n) x.at) (sym e)

module _ (img : Image) (op : Operator) (r : Registers) (p : ℕ) where
  -- ---- words

  module _ (x : Place) (away : x.stack ≢ r.stack) (old : x.stack ≢ img.started + 1) (no_operand : NamesOperand img op r x → ⊥) where
    -- in another stack
    elsewhere : (st : Stacks) (n : ℕ) (o : Option (List Word)) → x.stack ≢ n → word_at (set st n o) x ≡ word_at st x
    elsewhere st n o h = ap (λ (c : Option (List Word)). slice_get (words_or c) x.at) (changed_others st n x.stack o h)

    not_own : (n : ℕ) → n ≡ r.stack → x.stack ≢ n
    not_own n k e = away (e ∙ k)

    save_word : (now : Image) (y : Place) (w : Word) → (y.stack ≡ r.stack) ⊎ NamesOperand img op r y → word_at (with_word now.stacks y w) x ≡ word_at now.stacks x
    save_word now y w (inl k) = elsewhere now.stacks y.stack _ (not_own y.stack k)
    save_word now y w (inr k) = saved_beside now.stacks x y w (λ e. no_operand (subst (NamesOperand img op r) (sym e) k))

    written_word : (w : Write) (now : Image) → MayWrite img op r w → word_at (write_made p w now).stacks x ≡ word_at now.stacks x
    written_word (writes.save y w) now k = save_word now y w k
    written_word (writes.cut stack n) now k = elsewhere now.stacks stack _ (not_own stack k)
    written_word (writes.push stack w) now k = elsewhere now.stacks stack _ (not_own stack k)
    written_word (writes.registers q) now k = refl
    written_word (writes.open_row n count counted) now k = refl
    written_word (writes.write_row n at w) now k = refl
    written_word (writes.close_row n) now k = refl
    written_word (writes.open_event y) now k = refl
    written_word (writes.close_events stack at) now k = refl
    written_word (writes.event_deed d y) now k = refl
    written_word (writes.wait_any places) now k = refl
    written_word writes.go_on now k = refl
    written_word (writes.line bytes) now k = refl
    written_word (writes.start q words) now k =
        ap (λ (c : Option (List Word)). slice_get (words_or c) x.at) (opened_others now.stacks q.stack x.stack words (λ e. old (e ∙ k)))
    written_word (writes.end_process stack) now k = elsewhere now.stacks stack None (not_own stack k)

    pub changed_word : (c : Change) (now : Image) → ChangeKeeps img op r p c now → word_at (changed p c now).stacks x ≡ word_at now.stacks x
    changed_word done now k = refl
    changed_word (look_up q more) now k = changed_word (more (told now q)) now k.1
    changed_word (write w next) now k = changed_word next (write_made p w now) k.1 ∙ written_word w now k.0

  -- ---- rows

  module _ (n : ℕ) (unreached : ReachesRow img op r n → ⊥) where
    not_reached : (m : ℕ) → ReachesRow img op r m → n ≢ m
    not_reached m k e = unreached (subst (ReachesRow img op r) (sym e) k)

    written_row : (w : Write) (now : Image) → MayWrite img op r w → row_at (write_made p w now).rows n ≡ row_at now.rows n
    written_row (writes.save y w) now k = refl
    written_row (writes.cut stack m) now k = refl
    written_row (writes.push stack w) now k = refl
    written_row (writes.registers q) now k = refl
    written_row (writes.open_row m count counted) now k = opened_others now.rows m n (zero_row count counted) (not_reached m (free k))
    written_row (writes.write_row m at w) now k = changed_others now.rows m n (row_with (row_at now.rows m) at w) (not_reached m k)
    written_row (writes.close_row m) now k = changed_others now.rows m n None (not_reached m k)
    written_row (writes.open_event y) now k = refl
    written_row (writes.close_events stack at) now k = refl
    written_row (writes.event_deed d y) now k = refl
    written_row (writes.wait_any places) now k = refl
    written_row writes.go_on now k = refl
    written_row (writes.line bytes) now k = refl
    written_row (writes.start q words) now k = refl
    written_row (writes.end_process stack) now k = refl

    pub changed_row : (c : Change) (now : Image) → ChangeKeeps img op r p c now → row_at (changed p c now).rows n ≡ row_at now.rows n
    changed_row done now k = refl
    changed_row (look_up q more) now k = changed_row (more (told now q)) now k.1
    changed_row (write w next) now k = changed_row next (write_made p w now) k.1 ∙ written_row w now k.0

-- ---- states

module _ (p q : ℕ) (other : q ≢ p) where
  -- as it was, or able; and its number is still among those that there have been
  abbrev StaysOrAble : List ProcessState → List ProcessState → Type 0
  StaysOrAble ss ts = ((numbered ts q ≡ numbered ss q) ⊎ (numbered ts q ≡ Some Able)) × (q ≤ length ts)

  stays_then : (ss ts us : List ProcessState) → StaysOrAble ss ts → StaysOrAble ts us → StaysOrAble ss us
  stays_then ss ts us (inl e, l) (inl f, m) = (inl (f ∙ e), m)
  stays_then ss ts us (inr e, l) (inl f, m) = (inr (f ∙ e), m)
  stays_then ss ts us (_, l) (inr f, m) = (inr f, m)

  one_able : (k : ℕ) (ss : List ProcessState) → q ≤ length ss → StaysOrAble ss (set_numbered ss k Able)
  one_able k ss h = by (ℕ_discrete q k)
    where
      there : (ss : List ProcessState) (k : ℕ) → k ≤ length ss → (numbered (set_numbered ss k Able) k ≡ numbered ss k) ⊎ (numbered (set_numbered ss k Able) k ≡ Some Able)
      there ss zero l = inl refl
      there [] (suc k) l = inl refl
      there (x ∷ ss) (suc zero) l = inr refl
      there (x ∷ ss) (suc (suc k)) l = there ss (suc k) (omega (arith, l))

      by : Dec (q ≡ k) → StaysOrAble ss (set_numbered ss k Able)
      by (yes e) =
          (subst (λ (j : ℕ). (numbered (set_numbered ss j Able) q ≡ numbered ss q) ⊎ (numbered (set_numbered ss j Able) q ≡ Some Able)) e (there ss q h), omega (arith, h, length_states ss k Able))
      by (no apart) = (inl (get_numbered_other ss k q Able apart), omega (arith, h, length_states ss k Able))

  all_able : (ps : List ℕ) (ss : List ProcessState) → q ≤ length ss → StaysOrAble ss (able_again ps ss)
  all_able [] ss h = (inl refl, h)
  all_able (k ∷ ps) ss h =
      let one = one_able k ss h in
      stays_then ss (set_numbered ss k Able) (able_again ps (set_numbered ss k Able)) one (all_able ps (set_numbered ss k Able) one.1)

module _ (p q : ℕ) (other : q ≢ p) where
  waiting_stays : (n : Next) (y : Place) (ss : List ProcessState) → q ≤ length ss → StaysOrAble p q other ss (waiting n y p ss)
  waiting_stays goes y ss h = (inl refl, h)
  waiting_stays waits y ss h = (inl (get_numbered_other ss p q (WaitsFor y) other), omega (arith, h, length_states ss p (WaitsFor y)))
  waiting_stays procures y ss h = (inl (get_numbered_other ss p q (Procures y) other), omega (arith, h, length_states ss p (Procures y)))

  written_states : (w : Write) (now : Image) → q ≤ length now.states → StaysOrAble p q other now.states (write_made p w now).states
  written_states (writes.save y w) now h = (inl refl, h)
  written_states (writes.cut stack n) now h = (inl refl, h)
  written_states (writes.push stack w) now h = (inl refl, h)
  written_states (writes.registers r) now h = (inl refl, h)
  written_states (writes.open_row n count counted) now h = (inl refl, h)
  written_states (writes.write_row n at w) now h = (inl refl, h)
  written_states (writes.close_row n) now h = (inl refl, h)
  written_states (writes.open_event y) now h = (inl refl, h)
  written_states (writes.close_events stack at) now h = (inl refl, h)
  written_states (writes.event_deed d y) now h =
      let done_so = deed_at d p y now.events in
      let first = waiting_stays done_so.next y now.states h in
      stays_then p q other now.states (waiting done_so.next y p now.states) (states_after done_so y p now.states) first
      (all_able p q other done_so.frees (waiting done_so.next y p now.states) first.1)
  written_states (writes.wait_any places) now h = (inl (get_numbered_other now.states p q WaitsAny other), omega (arith, h, length_states now.states p WaitsAny))
  written_states writes.go_on now h = (inl refl, h)
  written_states (writes.line bytes) now h = (inl refl, h)
  written_states (writes.start r words) now h = (inl (get_numbered_append now.states (Able ∷ []) q h), omega (arith, h, length-append now.states (Able ∷ [])))
  written_states (writes.end_process stack) now h = (inl (get_numbered_other now.states p q Ended other), omega (arith, h, length_states now.states p Ended))

  changed_all : (c : Change) (now : Image) → q ≤ length now.states → StaysOrAble p q other now.states (changed p c now).states
  changed_all done now h = (inl refl, h)
  changed_all (look_up s more) now h = changed_all (more (told now s)) now h
  changed_all (write w next) now h =
      let k = written_states w now h in stays_then p q other now.states (write_made p w now).states (changed p next (write_made p w now)).states k (changed_all next (write_made p w now) k.1)

  pub changed_states : (c : Change) (now : Image) → q ≤ length now.states →
      (numbered (changed p c now).states q ≡ numbered now.states q) ⊎ (numbered (changed p c now).states q ≡ Some Able)
  changed_states c now h = (changed_all c now h).0

-- ---- who leaves an event

nobody_left : (o : Option Event) → option_map (with_state (all_left_by [])) o ≡ o
nobody_left None = refl
nobody_left (Some e) = refl

left_after : (xs ys : List ℕ) (e : EventState) → all_left_by ys (all_left_by xs e) ≡ all_left_by (xs ++ ys) e
left_after [] ys e = refl
left_after (x ∷ xs) ys e = left_after xs ys (left_by x e)

both_left : (xs ys : List ℕ) (o : Option Event) →
    option_map (with_state (all_left_by ys)) (option_map (with_state (all_left_by xs)) o) ≡ option_map (with_state (all_left_by (xs ++ ys))) o
both_left xs ys None = refl
both_left xs ys (Some e) = ap (λ (s : EventState). Some (record e { state = s })) (left_after xs ys e.state)

one_left : (x : ℕ) (xs : List ℕ) (o : Option Event) →
    option_map (with_state (all_left_by xs)) (option_map (with_state (left_by x)) o) ≡ option_map (with_state (all_left_by (x ∷ xs))) o
one_left x xs None = refl
one_left x xs (Some e) = refl

withdrawn_event : (x : Place) (ps : List ℕ) (es : List Event) → event_at x (withdrawn ps es) ≡ option_map (with_state (all_left_by ps)) (event_at x es)
withdrawn_event x [] es = sym (nobody_left (event_at x es))
withdrawn_event x (p ∷ ps) es =
    withdrawn_event x ps (map (with_state (left_by p)) es)
    ∙ ap (option_map (with_state (all_left_by ps))) (mapped_at (with_state (left_by p)) (λ e. refl) x es)
    ∙ one_left p ps (event_at x es)

listed_part : (xs ys : List ℕ) (k : ℕ) → IsListed (xs ++ ys) k → IsListed xs k ⊎ IsListed ys k
listed_part [] ys k i = inr i
listed_part (x ∷ xs) ys k (inl e) = inl (inl e)
listed_part (x ∷ xs) ys k (inr i) = elim (listed_part xs ys k i) [ inl j ↦ inl (inr j) | inr j ↦ inr j ]

-- whom a deed withdraws it frees
withdrawn_freed : (x : EventDeed) (p : ℕ) (e : EventState) (k : ℕ) → IsListed (deed x p e).withdraws k → IsListed (deed x p e).frees k
withdrawn_freed (acts act.Cause) p e k i = i
withdrawn_freed (acts act.CauseAndReset) p e k i = i
withdrawn_freed (acts act.Reset) p e k i = i
withdrawn_freed (acts act.Wait) p e k i = i
withdrawn_freed (acts act.Procure) p e k i = i
withdrawn_freed (acts act.Liberate) p e k i = absurd i
withdrawn_freed (tests test.Happened) p e k i = i
withdrawn_freed (tests test.Available) p e k i = i
withdrawn_freed (tests test.Fix) p e k i = i
withdrawn_freed (tests test.WaitAny) p e k i = i

set_here : (ss : List ProcessState) (k : ℕ) (s : ProcessState) → 1 ≤ k → k ≤ length ss → numbered (set_numbered ss k s) k ≡ Some s
set_here ss zero s low h = absurd (omega (arith, low))
set_here [] (suc k) s low h = absurd (omega (arith, h))
set_here (x ∷ ss) (suc zero) s low h = refl
set_here (x ∷ ss) (suc (suc k)) s low h = set_here ss (suc k) s (omega arith) (omega (arith, h))

-- who is freed is able
module _ (p q : ℕ) (other : q ≢ p) where
  able_listed : (ps : List ℕ) (ss : List ProcessState) → IsListed ps q → 1 ≤ q → q ≤ length ss → numbered (able_again ps ss) q ≡ Some Able
  able_listed [] ss i low h = absurd i
  able_listed (k ∷ ps) ss (inl e) low h =
      by (all_able p q other ps (set_numbered ss k Able) (omega (arith, h, length_states ss k Able)))
    where
      here : numbered (set_numbered ss k Able) q ≡ Some Able
      here = subst (λ (j : ℕ). numbered (set_numbered ss j Able) q ≡ Some Able) (sym e) (set_here ss q Able low h)

      by : StaysOrAble p q other (set_numbered ss k Able) (able_again ps (set_numbered ss k Able)) → numbered (able_again ps (set_numbered ss k Able)) q ≡ Some Able
      by (inl f, l) = f ∙ here
      by (inr f, l) = f
  able_listed (k ∷ ps) ss (inr i) low h = able_listed ps (set_numbered ss k Able) i low (omega (arith, h, length_states ss k Able))

-- ---- events

module _ (img : Image) (op : Operator) (r : Registers) (p : ℕ) (x : Place) (away : x.stack ≢ r.stack) (unreached : ReachesEvent img op r x → ⊥) where
  not_there : (y : Place) → y.stack ≡ r.stack → x ≢ y
  not_there y k e = away (ap (λ (z : Place). z.stack) e ∙ k)

  not_here : (y : Place) → ReachesEvent img op r y → x ≢ y
  not_here y k e = unreached (subst (ReachesEvent img op r) (sym e) k)

  -- from another stack nothing is closed
  away_from : (stack low : ℕ) → stack ≡ r.stack → is_from stack low x ≡ false
  away_from stack low k = by (x.stack == stack) refl
    where
      by : (b : Bool) → (x.stack == stack) ≡ b → (b && nat_le low x.at) ≡ false
      by true e = absurd (away (same_number x.stack stack e ∙ k))
      by false e = refl

  changed_event : (change : Option (EventState → EventState)) (y : Place) (es : List Event) → x ≢ y → event_at x (changed_by change y es) ≡ event_at x es
  changed_event None y es other = refl
  changed_event (Some change) y es other = one_event.elsewhere y x (with_state change) (λ e. refl) other es

  -- a wait for several events that it reaches changes none else
  not_among : (places : List Place) → ReachesAll img op r places → event_is_among places x ≡ false
  not_among [] k = refl
  not_among (y ∷ places) k = by (not_among places k.1) (same_place y x) refl
    where
      by : event_is_among places x ≡ false → (b : Bool) → same_place y x ≡ b → (b || event_is_among places x) ≡ false
      by rest true e = absurd (not_here y k.0 (sym (same_place_true y x e)))
      by rest false e = rest

  joined_event : (places : List Place) (es : List Event) → ReachesAll img op r places → event_at x (joined_all places p es) ≡ event_at x es
  joined_event places es k = mapped_at join stays x es ∙ by (event_at x es) refl
    where
      join : Event → Event
      join e = if event_is_among places e.place then with_state (joined p) e else e

      stays : (e : Event) → (join e).place ≡ e.place
      stays e = by_test (event_is_among places e.place)
        where
          by_test : (b : Bool) → (if b then with_state (joined p) e else e).place ≡ e.place
          by_test true = refl
          by_test false = refl

      by : (o : Option Event) → event_at x es ≡ o → option_map join o ≡ o
      by None e = refl
      by (Some f) e = ap (λ (b : Bool). Some (if b then with_state (joined p) f else f)) (ap (event_is_among places) (event_place x es f e) ∙ not_among places k)

  -- one write

  stays_so : (now after : Image) → event_at x after.events ≡ event_at x now.events → LeavesEvent now after p x
  stays_so now after e = record { left = []; is = e ∙ sym (nobody_left (event_at x now.events)); able = λ k i other low h. absurd i }

  written_event : (w : Write) (now : Image) → MayWrite img op r w → LeavesEvent now (write_made p w now) p x
  written_event (writes.save y w) now k = stays_so now (write_made p (writes.save y w) now) refl
  written_event (writes.cut stack n) now k = stays_so now (write_made p (writes.cut stack n) now) refl
  written_event (writes.push stack w) now k = stays_so now (write_made p (writes.push stack w) now) refl
  written_event (writes.registers q) now k = stays_so now (write_made p (writes.registers q) now) refl
  written_event (writes.open_row n count counted) now k = stays_so now (write_made p (writes.open_row n count counted) now) refl
  written_event (writes.write_row n at w) now k = stays_so now (write_made p (writes.write_row n at w) now) refl
  written_event (writes.close_row n) now k = stays_so now (write_made p (writes.close_row n) now) refl
  written_event (writes.open_event y) now k = stays_so now (write_made p (writes.open_event y) now) (one_event.opened_elsewhere y x (not_there y k) now.events)
  written_event (writes.close_events stack at) now k =
      stays_so now (write_made p (writes.close_events stack at) now)
      (one_event.closed_there stack at x now.events ∙ ap (λ (b : Bool). if b then None else event_at x now.events) (away_from stack at k))
  written_event (writes.event_deed d y) now k =
      let done_so = deed_at d p y now.events in
      record {
        left = done_so.withdraws;
        is =
            withdrawn_event x done_so.withdraws (changed_by done_so.change y now.events)
            ∙ ap (option_map (with_state (all_left_by done_so.withdraws))) (changed_event done_so.change y now.events (not_here y k));
        able = λ j i other low h.
            able_listed p j other done_so.frees (waiting done_so.next y p now.states) (withdrawn_freed d p (state_at y now.events) j i) low (waiting_stays p j other done_so.next y now.states h).1;
      }
  written_event (writes.wait_any places) now k = stays_so now (write_made p (writes.wait_any places) now) (joined_event places now.events k)
  written_event writes.go_on now k = stays_so now (write_made p writes.go_on now) refl
  written_event (writes.line bytes) now k = stays_so now (write_made p (writes.line bytes) now) refl
  written_event (writes.start q words) now k = stays_so now (write_made p (writes.start q words) now) refl
  written_event (writes.end_process stack) now k = stays_so now (write_made p (writes.end_process stack) now) refl

  -- one after the other
  then_left : (c : Change) (now mid : Image) → LeavesEvent now mid p x → ((j : ℕ) → j ≢ p → j ≤ length now.states → j ≤ length mid.states) → LeavesEvent mid (changed p c mid) p x
      → LeavesEvent now (changed p c mid) p x
  then_left c now mid here many later =
      record {
        left = here.left ++ later.left;
        is = later.is ∙ ap (option_map (with_state (all_left_by later.left))) here.is ∙ both_left here.left later.left (event_at x now.events);
        able = λ j i other low h. by_part j other low h (listed_part here.left later.left j i);
      }
    where
      by_part : (j : ℕ) → j ≢ p → 1 ≤ j → j ≤ length now.states → IsListed here.left j ⊎ IsListed later.left j → numbered (changed p c mid).states j ≡ Some Able
      by_part j other low h (inl i) = elim (changed_states p j other c mid (many j other h)) [ inl e ↦ e ∙ here.able j i other low h | inr e ↦ e ]
      by_part j other low h (inr i) = later.able j i other low (many j other h)

  pub changed_events : (c : Change) (now : Image) → ChangeKeeps img op r p c now → LeavesEvent now (changed p c now) p x
  changed_events done now k = stays_so now now refl
  changed_events (look_up q more) now k = changed_events (more (told now q)) now k.1
  changed_events (write w next) now k = then_left next now (write_made p w now) (written_event w now k.0) (λ j other h. (written_states p j other w now h).1) (changed_events next (write_made p w now) k.1)

-- ---- registers

module _ (p q : ℕ) (other : q ≢ p) where
  -- the registers of another are as they were, and its number is still among those that there have been
  written_registers : (w : Write) (now : Image) → q ≤ length now.regs → (numbered (write_made p w now).regs q ≡ numbered now.regs q) × (q ≤ length (write_made p w now).regs)
  written_registers (writes.save y w) now h = (refl, h)
  written_registers (writes.cut stack n) now h = (refl, h)
  written_registers (writes.push stack w) now h = (refl, h)
  written_registers (writes.registers r) now h = (get_numbered_other now.regs p q r other, omega (arith, h, length_numbered now.regs p r))
  written_registers (writes.open_row n count counted) now h = (refl, h)
  written_registers (writes.write_row n at w) now h = (refl, h)
  written_registers (writes.close_row n) now h = (refl, h)
  written_registers (writes.open_event y) now h = (refl, h)
  written_registers (writes.close_events stack at) now h = (refl, h)
  written_registers (writes.event_deed d y) now h = (refl, h)
  written_registers (writes.wait_any places) now h = (refl, h)
  written_registers writes.go_on now h = (refl, h)
  written_registers (writes.line bytes) now h = (refl, h)
  written_registers (writes.start r words) now h = (get_numbered_append now.regs (r ∷ []) q h, omega (arith, h, length-append now.regs (r ∷ [])))
  written_registers (writes.end_process stack) now h = (refl, h)

  pub changed_registers : (c : Change) (now : Image) → q ≤ length now.regs → numbered (changed p c now).regs q ≡ numbered now.regs q
  changed_registers done now h = refl
  changed_registers (look_up s more) now h = changed_registers (more (told now s)) now h
  changed_registers (write w next) now h =
      let k = written_registers w now h in changed_registers next (write_made p w now) k.1 ∙ k.0

-- ---- operators

module _ (img new : Image) (p : ℕ) (op : Operator) (r : Registers) where
  change_rest : (c : Change) → ChangeKeeps img op r p c img → LeavesTheRest img (changed p c img) p op r
  change_rest c k = record {
    words = λ x away old no_operand. changed_word img op r p x away old no_operand c img k;
    rows = λ n unreached. changed_row img op r p n unreached c img k;
    events = λ x away unreached. changed_events img op r p x away unreached c img k;
    registers = λ q other h. changed_registers p q other c img h;
    states = λ q other h. changed_states p q other c img h;
  }

  effect_rest : (e : Effect Change) → Gives (λ (change : Change). ChangeKeeps img op r p change img) e → effect_of p img e ≡ gives new → LeavesTheRest img new p op r
  effect_rest (gives c) k e = let same : changed p c img ≡ new = cc in subst (λ (i : Image). LeavesTheRest img i p op r) same (change_rest c k)
  effect_rest (faults kind) k e = cc
  effect_rest (interrupts kind) k e = cc

  program_rest : (program : Program) → ProgramKeeps img op r p program → does p program img ≡ gives new → LeavesTheRest img new p op r
  program_rest program k e =
      effect_rest (asked img program) (keeps_gives img op r (λ (change : Change). ChangeKeeps img op r p change img) program k) e

  private_rest : (base : ℕ) (part : Private) → part.regs.stack ≡ r.stack → LeavesTheRest img (with_private img p base part) p op r
  private_rest base part own = record {
    words = λ x away old no_operand. ap (λ (o : Option (List Word)). slice_get (words_or o) x.at) (changed_others img.stacks part.regs.stack x.stack _ (λ e. away (e ∙ own)));
    rows = λ n unreached. refl;
    events = λ x away unreached. record { left = []; is = sym (nobody_left (event_at x img.events)); able = λ k i other low h. absurd i };
    registers = λ q other h. get_numbered_other img.regs p q part.regs other;
    states = λ q other h. inl refl;
  }

by_rows : (code : Code) (img new : Image) (p : ℕ) (op : Operator) (r : Registers) (next : ℕ) → operator_at code r ≡ Ok (op, next) → (w : TableRow) → row op r.place ≡ w
    → RowKeeps w code img op p r next → by_row w code img p r next ≡ gives new → LeavesTheRest img new p op r
by_rows code img new p op r next stands (private_part change) is k e =
    let t = put_by img new p (floor r) (change next (private_of img r)) e in
    subst (λ (i : Image). LeavesTheRest img i p op r) (sym t.is)
    (private_rest img new p op r (floor r) t.part
    (part_keeps code r (record { op = op; next = next; stands = stands; change = change; is = is }) (private_of img r) t.part t.given).0)
by_rows code img new p op r next stands (action program) is k e = program_rest img new p op r (program code r next) k e

raw_row : (code : Code) (img : Image) (p : ℕ) (op : Operator) (r : Registers) (next : ℕ) → Lives img p r → operator_at code r ≡ Ok (op, next)
    → raw code img p ≡ by_row (row op r.place) code img p r next
unfolding raw
raw_row code img p op r next lives stands =
    ap (λ (b : Bool). cond b (by_registers code img p (numbered img.regs p)) (interrupts bad_code)) lives.live
    ∙ ap (λ (o : Option Registers). by_registers code img p o) lives.is
    ∙ ap (λ (o : Result (Operator × ℕ) BadCode). by_operator code img p r o) stands

pub operators_leave_the_rest : OperatorsLeaveTheRest
operators_leave_the_rest code img new p r op next lives stands e =
    by_rows code img new p op r next stands (row op r.place) refl (operators_keep code img p r op r.place next) (sym (raw_row code img p op r next lives stands) ∙ e)
