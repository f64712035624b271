-- A wait for several events: the process goes on by the first that has happened, or waits for all of them; and a process that was released goes on by
-- its woken number.
use Rattle.std.proofs.Common.{◌≡◌, refl, sym, ap, ◌∙◌, subst, ℕ, zero, suc, ◌+◌, ◌<◌, ◌≤◌, pos, List, [], ◌∷◌, length, Option, Some, None, Bool, true, false, Ok, arith, lit≤}
use Rattle.b67_list.proofs.Numbered.{numbered_set}
use Rattle.b67_pictures.proofs.Prelude.{if◌then◌else◌, map, reverse, numbered, set_numbered, Letter, PProgram, Scopes, scopes_of, Named, Ask, event_deed, ask, resume, Choice, choice, choice_of, wakes_or_waits, value, number, Reference, Process, World, followed, Word, Place, Couple, Placed, Code, Image, woken_number, frame, cell_place, plain, operator_at, ProcessState, letter, letter_of, AreNested, Texts, ActsOnAt, ComesTo, Slot, operand, intrinsic, mark, Core, with_core, SlotsAre, CoreAt, length_set_numbered, some_same, IsAsked, at_operator, enter_class, without_call, numbered_other, action_not_plain, action_is, makes, unmade, facts_of, named_from, IsEntered, entered_with, operator_there, idle_nowhere, AbleActor, actor_of, state_there, process_is, choice_is, gives_within, text_in, level_in, context_in, most_in, TheLaws, number_is, number_by, Pictures, Does, gave}
use Rattle.std.proofs.lemmas.List.{length-map}
use Rattle.b67_limits.specs.declared.TheConstants.{MOST_EVENTS}
use Rattle.b67_num.specs.Whole.{most}
use Rattle.b67_deeds.specs.declared.EventTest.TheVariants as test
use Rattle.b67_deeds.specs.declared.Letter.TheVariants.{WaitAny as waits_letter, Woke}
use Rattle.b67_deeds.specs.Deeds as deeds
use Rattle.algol_meaning.specs.Choice.{waits_for_any}
use Rattle.algol_meaning.specs.Events as meant
use Rattle.b67_events.specs.Events as kernel
use Rattle.b67_ops.specs.declared.Operator.TheVariants as ops
use Rattle.b67_ops.specs.declared.PlainKind.TheVariants as kinds
use Rattle.b67_ops.specs.declared.intrinsic.Intrinsic.TheVariants.{WaitAny}
use Rattle.b67_table.specs.declared.ProcessState.TheVariants as image_states
use Rattle.b67_table.specs.Effect as effects
use Rattle.b67_table.specs.Outcome as outcomes
use Rattle.b67_table.specs.PrivateRows as rows
use Rattle.b67_table.specs.Table.{table}
use Rattle.b67_templates.specs.Fragments.{IsWholeNumber}
use Rattle.b67_standing.specs.Standing.{references}
use Rattle.b67_standing.proofs.OnEvents.{couples_length, acted_on_length}
use Rattle.b67_frames.proofs.SeveralRows.{number_core, woken_raw, gone_raw, waiting_raw}
use Rattle.b67_scenes.proofs.SeveralHomes.{Referred, referred, all_targets, OnSeveral, on_several}
use Rattle.b67_pictures.proofs.InFrame.{does_in_frame, does_numbered}
use Rattle.b67_pictures.proofs.JoiningEvents.{joined_pictured}
use Rattle.b67_pictures.proofs.LettingGo.{there_too}
use Rattle.b67_pictures.proofs.SameEvents.{AllOwned}
use Rattle.b67_pictures.proofs.SeveralEvents.{all_standing, first_there}

-- the first of some events is one of them
first_few : (passes : Reference → Bool) (k n : ℕ) (rs : List Reference) → meant.first_that passes k rs ≡ Some n → n < k + length rs
first_few passes k n [] e = cc
first_few passes k n (r ∷ rs) e = by_test (passes r) e (first_few passes (k + 1) n rs)
  where
    by_test : (b : Bool) → (if b then Some k else meant.first_that passes (k + 1) rs) ≡ Some n → (meant.first_that passes (k + 1) rs ≡ Some n → n < k + 1 + length rs) → n < k + length (r ∷ rs)
    by_test true here rest = let same : k ≡ n = some_same here in omega (arith, same)
    by_test false there rest = omega (arith, rest there)

pub few_whole : (n : ℕ) → n ≤ MOST_EVENTS → IsWholeNumber (pos n)
few_whole n few = let eight : MOST_EVENTS ≤ most = lit≤ tt in omega (arith, few, eight)

module _ (tree : PProgram) (code : Code) (texts : Texts) (nested : AreNested (scopes_of tree)) (laws : TheLaws) (actor : AbleActor tree code texts) where
  open actor use {w, lay, img, p, q, part, outer, core, s, able_is}

  module _ (ns : List Named)
      (asks : ask part.rest ≡ event_deed (deeds.tests test.WaitAny) ns) (next : ℕ) (below : List Slot)
      (acts_at : ActsOnAt (scopes_of tree) (context_in tree code texts w part s.stands.frame.gives) (text_in tree texts w part) (level_in tree w part) (most_in tree w part) (deeds.tests test.WaitAny) ns s.stands.pc next s.stands.slots below)
      (comes : (n : ℕ) → n ≤ MOST_EVENTS → ComesTo (scopes_of tree) (context_in tree code texts w part s.stands.frame.gives) (text_in tree texts w part) (level_in tree w part) (most_in tree w part) (resume (scopes_of tree) part.rest (value (number (pos n)))) next
      (operand (number (pos n)) ∷ below)) where
    abbrev sc : Scopes
    sc = scopes_of tree

    abbrev level : ℕ
    level = level_in tree w part

    abbrev text : List Placed
    text = text_in tree texts w part

    abbrev cs : List Couple
    cs = acts_at.couples

    abbrev words : List Word
    words = map rows.reference cs

    there : operator_at code core.registers ≡ Ok (ops.Plain kinds.Entr, next)
    there = operator_there sc s.stands.held code text level s.stands.pc s.stands.slots core (ops.Plain kinds.Entr) next s.stands.there acts_at.stands

    on : OnSeveral tree code texts nested (actor_of s) ns cs
    on = on_several tree code texts nested (actor_of s) ns cs (λ n is. subst (λ (k : Ask). IsAsked k n) (sym asks) is) acts_at.are_events

    owned : AllOwned w (all_targets tree code texts nested (actor_of s) ns)
    owned = all_standing tree code texts w lay img s.by s.ok (all_targets tree code texts nested (actor_of s) ns) on.stand

    abbrev rs : List Reference
    rs = all_targets tree code texts nested (actor_of s) ns

    abbrev ats : List Place
    ats = map cell_place on.cells

    -- ---- the call

    g : Referred sc s.stands.held level (frame core.registers) (length core.below) cs (intrinsic WaitAny ∷ mark ∷ below) core.words
    g =
        referred sc s.stands.held level (frame core.registers) (length core.below) cs (intrinsic WaitAny ∷ mark ∷ below) core.words
        (subst (λ (l : List Slot). SlotsAre sc s.stands.held level (frame core.registers) (length core.below) l core.words) acts_at.lies s.stands.there.words_are)

    call : IsEntered tree code texts (actor_of s) WaitAny (references cs (intrinsic WaitAny ∷ mark ∷ below)) below acts_at.lies (reverse words)
    call =
        subst (λ (ws : List Word). IsEntered tree code texts (actor_of s) WaitAny (references cs (intrinsic WaitAny ∷ mark ∷ below)) below acts_at.lies ws) g.words_are
        (entered_with tree code texts (actor_of s) WaitAny (references cs (intrinsic WaitAny ∷ mark ∷ below)) below acts_at.lies g.lying)

    as_many : length words ≡ length ns
    as_many = length-map cs rows.reference ∙ couples_length sc _ ns cs acts_at.are_events

    some : 1 ≤ length words
    some = omega (arith, as_many, (acts_at.many).0)

    few : length words ≤ MOST_EVENTS
    few = omega (arith, as_many, (acts_at.many).1)

    not_plain : plain code img p ≡ false
    not_plain = action_not_plain code (ops.Plain kinds.Entr) (at_operator s.has there) (enter_class code (at_operator s.has there) WaitAny (reverse words) call.reference call.marked call.others call.calls)

    -- ---- the number with which it goes on

    abbrev core_of : ℕ → Core
    core_of n = number_core code (at_operator s.has there) words call.reference call.marked call.others call.calls on.cells on.reach some few n

    above : CoreAt sc s.stands.held code text level next below (without_call core call.others call.calls.m.df next)
    above = call.after_at next

    core_at : (n : ℕ) → n ≤ MOST_EVENTS → CoreAt sc s.stands.held code text level next (operand (number (pos n)) ∷ below) (core_of n)
    core_at n small =
        record {
          segment = s.stands.there.segment;
          there = s.stands.there.there;
          spells = s.stands.there.spells;
          level_is = s.stands.there.level_is;
          place_is = refl;
          is = record { bottom = s.has.is.bottom; top = omega (arith, above.is.top) };
          mark_is = above.mark_is;
          words_are = (record { is = refl; whole = few_whole n small }, above.words_are);
        }

    few_slots : (n : ℕ) → length (operand (number (pos n)) ∷ below) ≤ most_in tree w part
    few_slots n = omega (arith, acted_on_length sc _ text level (most_in tree w part) (deeds.tests test.WaitAny) ns s.stands.pc next s.stands.slots below acts_at, s.stands.few)

    number_is_q : woken_number img.numbers core.registers.stack ≡ q.woken
    number_is_q = ap (λ (n : ℕ). woken_number img.numbers n) s.has.own ∙ s.by.waits.woken p ∙ ap (λ (z : Process). z.woken) (process_is w p q s.at)

    letter_is : (after : Image) (l : Letter) → (k : ℕ) → q.woken ≡ k → letter_of k WaitAny ≡ l → table code img p ≡ outcomes.gives after → letter code img p ≡ Some l
    letter_is after l k woken is t =
        action_is code (ops.Plain kinds.Entr) (at_operator s.has there) (outcomes.gives after) t ∙ call.action
        ∙ ap (λ (n : ℕ). Some (letter_of n WaitAny)) (number_is_q ∙ woken) ∙ ap (λ (x : Letter). Some x) is

    chosen_by : (k : ℕ) → q.woken ≡ k → choice sc w p ≡ wakes_or_waits sc w p q part outer k rs
    chosen_by k woken =
        choice_is sc w p q part outer s.at s.todo
        ∙ ap (λ (x : Ask). choice_of sc w p q part outer x) asks
        ∙ ap (λ (n : ℕ). wakes_or_waits sc w p q part outer n rs) woken

    -- ---- it was released

    module _ (n : ℕ) (woken : q.woken ≡ suc n) where
      small : suc n ≤ MOST_EVENTS
      small = omega (arith, woken, ((s.ok.sound.processes p q s.at).few).0)

      abbrev numbers : List ℕ
      numbers = set_numbered img.numbers p 0

      has_number : (x : ℕ) × (numbered img.numbers p ≡ Some x)
      has_number = there_too w.processes img.numbers p q s.by.waits.numbers s.at

      goes_woken : Does tree code texts w img p
      goes_woken =
          does_numbered tree code texts laws actor (record {
            unmade = unmade part.rest (ap makes asks);
            answer = value (number (pos (suc n)));
            nameless = tt;
            new = core_of (suc n);
            below = refl;
            frame_is = record { is = refl };
            known = s.stands.held;
            known_are = s.stands.held_are;
            pc = next;
            slots = operand (number (pos (suc n))) ∷ below;
            there = core_at (suc n) small;
            few = few_slots (suc n);
            comes = comes (suc n) small;
          }) w.output 0 numbers (length_set_numbered img.numbers p 0) (number_is numbers p 0 (numbered_set img.numbers p has_number.0 0 has_number.1))
          (λ r other. number_by numbers img.numbers r (numbered_other img.numbers p r 0 (λ e. other (sym e)))) Woke not_plain
          (woken_raw code (at_operator s.has there) words call.reference call.marked call.others call.calls on.cells on.reach some few n (number_is_q ∙ woken)
          ∙ ap (λ (o : List (List ℕ)). effects.gives (record (with_core img p (core_of (suc n))) { output = o; numbers = numbers })) s.by.output)
          (chosen_by (suc n) woken) (λ t. letter_is (record (with_core img p (core_of (suc n))) { output = w.output; numbers = numbers }) Woke (suc n) woken refl t)

    -- ---- it was not

    module _ (woken : q.woken ≡ 0) where
      -- an event has happened
      goes_first : (n : ℕ) → kernel.first_event_happened ats img.events ≡ Some n → Does tree code texts w img p
      goes_first n found =
          does_in_frame tree code texts laws actor (record {
            unmade = unmade part.rest (ap makes asks);
            answer = value (number (pos n));
            nameless = tt;
            new = core_of n;
            below = refl;
            frame_is = record { is = refl };
            known = s.stands.held;
            known_are = s.stands.held_are;
            pc = next;
            slots = operand (number (pos n)) ∷ below;
            there = core_at n small;
            few = few_slots n;
            comes = comes n small;
          }) w.output waits_letter not_plain
          (gone_raw code (at_operator s.has there) words call.reference call.marked call.others call.calls on.cells on.reach some few n (number_is_q ∙ woken) found
          ∙ ap (λ (o : List (List ℕ)). effects.gives (record (with_core img p (core_of n)) { output = o })) s.by.output)
          (chosen_by 0 woken ∙ ap (λ (o : Option ℕ). waits_for_any sc w p q part outer rs o) found_there) (λ t. letter_is (record (with_core img p (core_of n)) { output = w.output }) waits_letter 0 woken refl t)
        where
          found_there : meant.first_happened w rs ≡ Some n
          found_there = sym (first_there tree code texts w lay img s.by (facts_of sc w s.ok) 1 rs ats on.list_is owned) ∙ found

          small : n ≤ MOST_EVENTS
          small = omega (arith, first_few (λ (r : Reference). deeds.answers test.WaitAny (meant.event_at w r)) 1 n rs found_there, length-map ns (λ (n : Named). followed w (named_from (scopes_of tree) w lay part.instance n)), (acts_at.many).1)

      -- none has
      waits_now : kernel.first_event_happened ats img.events ≡ None → Does tree code texts w img p
      waits_now found =
          gave after not_plain table_is (letter_is after waits_letter 0 woken refl table_is ∙ ap (λ (c : Choice). Some c.action) (sym chosen))
          (λ may. subst (λ (u : World). Pictures tree code texts u after) (sym (ap (λ (c : Choice). c.world) chosen)) (
            lay,
            joined_pictured tree code texts lay (record {
              w = w;
              img = img;
              by = s.by;
              facts = facts_of sc w s.ok;
              p = p;
              q = q;
              is = s.at;
              alive = able_is;
              nowhere = idle_nowhere tree code texts w lay img s.by p may.able;
              machine_state = state_now.0;
              there = state_now.1;
              events_named = rs;
              places = ats;
              list = on.list_is;
              owned = owned;
            }),
          ))
        where
          after : Image
          after = record img { events = kernel.joined_all ats p img.events; lists = kernel.with_list img.lists p ats; states = set_numbered img.states p image_states.WaitsAny }

          state_now : (state : ProcessState) × (numbered img.states p ≡ Some state)
          state_now = state_there (numbered img.states p) s.has.live

          table_is : table code img p ≡ outcomes.gives after
          table_is =
              gives_within code img after p core.registers
              (waiting_raw code (at_operator s.has there) words call.reference call.marked call.others call.calls on.cells on.reach some few (number_is_q ∙ woken) found) s.has.registers (omega (arith, s.small, s.has.is.top))

          chosen : choice sc w p ≡ waits_for_any sc w p q part outer rs None
          chosen = chosen_by 0 woken ∙ ap (λ (o : Option ℕ). waits_for_any sc w p q part outer rs o) (sym (first_there tree code texts w lay img s.by (facts_of sc w s.ok) 1 rs ats on.list_is owned) ∙ found)

      goes_or_waits : (o : Option ℕ) → kernel.first_event_happened ats img.events ≡ o → Does tree code texts w img p
      goes_or_waits (Some n) found = goes_first n found
      goes_or_waits None found = waits_now found

    by_woken : (k : ℕ) → q.woken ≡ k → Does tree code texts w img p
    by_woken zero woken = goes_or_waits woken (kernel.first_event_happened ats img.events) refl
    by_woken (suc n) woken = goes_woken n woken

    pub waiting_for_any : Does tree code texts w img p
    waiting_for_any = by_woken q.woken refl
