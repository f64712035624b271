use Rattle.std.specs.Prelude.{slice_set}
use Rattle.std.proofs.Common.{◌≡◌, refl, sym, ap, subst, ◌∙◌, ℕ, ◌+◌, ◌-◌, ◌≤◌, ◌<◌, true, false, List, [], ◌++◌, length, take, get_or, None, arith}
use Rattle.std.proofs.lemmas.List.{length-take-le, with_items_is}
use Rattle.b67_deeds.specs.declared.Letter.{Letter}
use Rattle.b67_schedule.specs.Schedules.{ScheduleModel}
use Rattle.b67_ready.specs.Ready.{counted_times}
use Rattle.b67_joining.specs.Joining.{joining}
use Rattle.b67_processors.specs.Acts.{IsActed}
use Rattle.b67_plant.specs.Calls.{answer_to}
use Rattle.b67_machine.specs.Stepping.{MachinePerforms}
use Rattle.b67_stands.specs.Running.{Running, answer_of}
use Rattle.b67_stands.specs.Placing.{holder_of}
use Rattle.b67_stands.specs.Stands.{Stands}
use Rattle.b67_stands.specs.Calls.{done_is_action, ActsOnce}
use Rattle.b67_stands.specs.Turns.{StandsOut, ActsMany}
use Rattle.b67_stands.proofs.Ends.{goes_on}
use Rattle.b67_stands.proofs.Acting.{Given, stands_after}
use Rattle.b67_stands.proofs.Turns.{turned, Grown}
use Rattle.b67_plant.proofs.Lacking.{lacked_after, went_on}
use Rattle.b67_plant.proofs.Entered.{budget_is, counted_spent, letters_entries, once, given, entered, entered_once, entered_is, queue_fits}
use Rattle.b67_plant.proofs.Many.{one_picked, same_queue, counts_none, counts_one, number, less, operators_few, entries_few, started_same, spent_few, acts_on, stands_then, last_performs, entries_then, grown_by, letter_noted, first_few, first_within}
use Rattle.b67_plant.proofs.Plant.enter_many.Goals as goal

pub perform_most-entered-requires-clause-room : goal.perform_most-entered-requires-clause-room
perform_most-entered-requires-clause-room g c = omega (arith, c.requires.few, ap length c.deref_mut.ensures.value, c.self.invariant.7)

pub slice_bounds-push_many-end : goal.slice_bounds-push_many-end
slice_bounds-push_many-end g c =
    let notes : List Letter = c.perform_most-entered.new.notes in
    let whole = with_items_is c.self.inside.notes notes (c.perform_most-entered.ensures.size ∙ c.deref_mut.ensures.len) in
    sym (length-take-le c.perform_most-entered.result.entries c.deref.result.now
    (omega (arith, c.perform_most-entered.ensures.performs.few, first_within notes c.args.most, ap length (c.deref.ensures.value ∙ whole))))

pub index-requires : goal.index-requires
index-requires g c =
    let notes : List Letter = c.perform_most-entered.new.notes in
    omega (arith, c.perform_most-entered.ensures.performs.few, first_within notes c.args.most, c.perform_most-entered.ensures.size, c.deref_mut.ensures.len)

pub perform_most-entered-requires-clause-count : goal.perform_most-entered-requires-clause-count
perform_most-entered-requires-clause-count g c =
    let old : Running = record {
      machine = c.self.inside.machine;
      waiting = c.self.inside.ready.waiting;
      takes = c.self.inside.ready.takes;
      out = c.self.inside.out.items;
      schedule = c.self.inside.schedule;
      spent = c.self.inside.spent;
      acts = c.self.inside.acts.total;
      leaves = c.self.inside.leaves.total;
    } in
    let i = c.self.invariant in
    let going : answer_of g.N.Named.budget old ≡ None = subst (λ (s : Running). answer_of g.N.Named.budget s ≡ None) (sym c.self.view_is) c.requires.going in
    let held : 1 ≤ holder_of c.self.inside.out.items c.args.process = subst (λ (s : Running). 1 ≤ holder_of s.out c.args.process) (sym c.self.view_is) c.requires.out in
    let less = (goes_on g.N.Named.budget old going).less in
    let mine = counted_spent g.N.Named.code g.N.Named.budget old c.args.process i.0 in
    omega (arith, mine, less, i.2, i.3, budget_is)

pub push_many-requires-clause-room : goal.push_many-requires-clause-room
push_many-requires-clause-room g c =
    let old : Running = record {
      machine = c.self.inside.machine;
      waiting = c.self.inside.ready.waiting;
      takes = c.self.inside.ready.takes;
      out = c.self.inside.out.items;
      schedule = c.self.inside.schedule;
      spent = c.self.inside.spent;
      acts = c.self.inside.acts.total;
      leaves = c.self.inside.leaves.total;
    } in
    let i = c.self.invariant in
    let going : answer_of g.N.Named.budget old ≡ None = subst (λ (s : Running). answer_of g.N.Named.budget s ≡ None) (sym c.self.view_is) c.requires.going in
    let held : 1 ≤ holder_of c.self.inside.out.items c.args.process = subst (λ (s : Running). 1 ≤ holder_of s.out c.args.process) (sym c.self.view_is) c.requires.out in
    let notes : List Letter = c.perform_most-entered.new.notes in
    let most = c.args.most in
    let part : List Letter = take most notes in
    let alone : 1 < length part → c.self.inside.ready.waiting ≡ [] =
    λ h. subst (λ (s : Running). s.waiting ≡ []) (sym c.self.view_is)
    (c.requires.alone (omega (arith, h, first_few notes most))) in
    let first = one_picked g.P.Rule.pick g.N.Named.pick c.self.inside.ready.rule g.met.P.Rule.within i.4 in
    omega (arith, entries_few g.N.Named.code g.N.Named.budget g.N.Named.pick old c.args.process part c.self.inside.budget c.perform_most-entered.result c.perform_most-entered.new.machine i.1 i.0 going held alone i.2 i.3 first c.perform_most-entered.ensures.performs, operators_few g.N.Named.code g.N.Named.budget g.N.Named.pick old c.args.process part c.self.inside.budget c.perform_most-entered.result c.perform_most-entered.new.machine i.1 i.0 going held alone i.2 i.3 first c.perform_most-entered.ensures.performs, letters_entries g.N.Named.code g.N.Named.budget old i.0, first_few c.deref.result.now c.perform_most-entered.result.entries, spent_few g.N.Named.code g.N.Named.budget g.N.Named.pick old c.args.process part c.self.inside.budget c.perform_most-entered.result c.perform_most-entered.new.machine i.1 i.0 going held alone i.2 i.3 first c.perform_most-entered.ensures.performs, less g.N.Named.code g.N.Named.budget g.N.Named.pick old c.args.process part c.self.inside.budget c.perform_most-entered.result c.perform_most-entered.new.machine i.1 i.0 going held alone i.2 i.3 first c.perform_most-entered.ensures.performs, i.6)

pub push_many-requires-clause-least : goal.push_many-requires-clause-least
push_many-requires-clause-least g c =
    let old : Running = record {
      machine = c.self.inside.machine;
      waiting = c.self.inside.ready.waiting;
      takes = c.self.inside.ready.takes;
      out = c.self.inside.out.items;
      schedule = c.self.inside.schedule;
      spent = c.self.inside.spent;
      acts = c.self.inside.acts.total;
      leaves = c.self.inside.leaves.total;
    } in
    let i = c.self.invariant in
    let going : answer_of g.N.Named.budget old ≡ None = subst (λ (s : Running). answer_of g.N.Named.budget s ≡ None) (sym c.self.view_is) c.requires.going in
    let held : 1 ≤ holder_of c.self.inside.out.items c.args.process = subst (λ (s : Running). 1 ≤ holder_of s.out c.args.process) (sym c.self.view_is) c.requires.out in
    let notes : List Letter = c.perform_most-entered.new.notes in
    let most = c.args.most in
    let part : List Letter = take most notes in
    let alone : 1 < length part → c.self.inside.ready.waiting ≡ [] =
    λ h. subst (λ (s : Running). s.waiting ≡ []) (sym c.self.view_is)
    (c.requires.alone (omega (arith, h, first_few notes most))) in
    let first = one_picked g.P.Rule.pick g.N.Named.pick c.self.inside.ready.rule g.met.P.Rule.within i.4 in
    (number g.N.Named.code g.N.Named.budget g.N.Named.pick old c.args.process part c.self.inside.budget c.perform_most-entered.result c.perform_most-entered.new.machine i.1 i.0 going held alone i.2 i.3 first c.perform_most-entered.ensures.performs).0

pub push_many-requires-clause-greatest : goal.push_many-requires-clause-greatest
push_many-requires-clause-greatest g c =
    let old : Running = record {
      machine = c.self.inside.machine;
      waiting = c.self.inside.ready.waiting;
      takes = c.self.inside.ready.takes;
      out = c.self.inside.out.items;
      schedule = c.self.inside.schedule;
      spent = c.self.inside.spent;
      acts = c.self.inside.acts.total;
      leaves = c.self.inside.leaves.total;
    } in
    let i = c.self.invariant in
    let going : answer_of g.N.Named.budget old ≡ None = subst (λ (s : Running). answer_of g.N.Named.budget s ≡ None) (sym c.self.view_is) c.requires.going in
    let held : 1 ≤ holder_of c.self.inside.out.items c.args.process = subst (λ (s : Running). 1 ≤ holder_of s.out c.args.process) (sym c.self.view_is) c.requires.out in
    let notes : List Letter = c.perform_most-entered.new.notes in
    let most = c.args.most in
    let part : List Letter = take most notes in
    let alone : 1 < length part → c.self.inside.ready.waiting ≡ [] =
    λ h. subst (λ (s : Running). s.waiting ≡ []) (sym c.self.view_is)
    (c.requires.alone (omega (arith, h, first_few notes most))) in
    let first = one_picked g.P.Rule.pick g.N.Named.pick c.self.inside.ready.rule g.met.P.Rule.within i.4 in
    let n = number g.N.Named.code g.N.Named.budget g.N.Named.pick old c.args.process part c.self.inside.budget c.perform_most-entered.result c.perform_most-entered.new.machine i.1 i.0 going held alone i.2 i.3 first c.perform_most-entered.ensures.performs in
    omega (arith, n.1)

pub push_many-requires-clause-actions : goal.push_many-requires-clause-actions
push_many-requires-clause-actions g c =
    let old : Running = record {
      machine = c.self.inside.machine;
      waiting = c.self.inside.ready.waiting;
      takes = c.self.inside.ready.takes;
      out = c.self.inside.out.items;
      schedule = c.self.inside.schedule;
      spent = c.self.inside.spent;
      acts = c.self.inside.acts.total;
      leaves = c.self.inside.leaves.total;
    } in
    let i = c.self.invariant in
    let going : answer_of g.N.Named.budget old ≡ None = subst (λ (s : Running). answer_of g.N.Named.budget s ≡ None) (sym c.self.view_is) c.requires.going in
    let held : 1 ≤ holder_of c.self.inside.out.items c.args.process = subst (λ (s : Running). 1 ≤ holder_of s.out c.args.process) (sym c.self.view_is) c.requires.out in
    let notes : List Letter = c.perform_most-entered.new.notes in
    let most = c.args.most in
    let part : List Letter = take most notes in
    let alone : 1 < length part → c.self.inside.ready.waiting ≡ [] =
    λ h. subst (λ (s : Running). s.waiting ≡ []) (sym c.self.view_is)
    (c.requires.alone (omega (arith, h, first_few notes most))) in
    let first = one_picked g.P.Rule.pick g.N.Named.pick c.self.inside.ready.rule g.met.P.Rule.within i.4 in
    omega (arith, letters_entries g.N.Named.code g.N.Named.budget old i.0, first_few c.deref.result.now c.perform_most-entered.result.entries, less g.N.Named.code g.N.Named.budget g.N.Named.pick old c.args.process part c.self.inside.budget c.perform_most-entered.result c.perform_most-entered.new.machine i.1 i.0 going held alone i.2 i.3 first c.perform_most-entered.ensures.performs, spent_few g.N.Named.code g.N.Named.budget g.N.Named.pick old c.args.process part c.self.inside.budget c.perform_most-entered.result c.perform_most-entered.new.machine i.1 i.0 going held alone i.2 i.3 first c.perform_most-entered.ensures.performs, entries_few g.N.Named.code g.N.Named.budget g.N.Named.pick old c.args.process part c.self.inside.budget c.perform_most-entered.result c.perform_most-entered.new.machine i.1 i.0 going held alone i.2 i.3 first c.perform_most-entered.ensures.performs, operators_few g.N.Named.code g.N.Named.budget g.N.Named.pick old c.args.process part c.self.inside.budget c.perform_most-entered.result c.perform_most-entered.new.machine i.1 i.0 going held alone i.2 i.3 first c.perform_most-entered.ensures.performs, i.3, budget_is)

pub take_again-requires : goal.take_again-requires
take_again-requires g c =
    let old : Running = record {
      machine = c.self.inside.machine;
      waiting = c.self.inside.ready.waiting;
      takes = c.self.inside.ready.takes;
      out = c.self.inside.out.items;
      schedule = c.self.inside.schedule;
      spent = c.self.inside.spent;
      acts = c.self.inside.acts.total;
      leaves = c.self.inside.leaves.total;
    } in
    let i = c.self.invariant in
    let going : answer_of g.N.Named.budget old ≡ None = subst (λ (s : Running). answer_of g.N.Named.budget s ≡ None) (sym c.self.view_is) c.requires.going in
    let held : 1 ≤ holder_of c.self.inside.out.items c.args.process = subst (λ (s : Running). 1 ≤ holder_of s.out c.args.process) (sym c.self.view_is) c.requires.out in
    let notes : List Letter = c.perform_most-entered.new.notes in
    let most = c.args.most in
    let part : List Letter = take most notes in
    let alone : 1 < length part → c.self.inside.ready.waiting ≡ [] =
    λ h. subst (λ (s : Running). s.waiting ≡ []) (sym c.self.view_is)
    (c.requires.alone (omega (arith, h, first_few notes most))) in
    let first = one_picked g.P.Rule.pick g.N.Named.pick c.self.inside.ready.rule g.met.P.Rule.within i.4 in
    λ some. alone (omega (arith, some, c.perform_most-entered.ensures.performs.few))

pub overflow_add-seat : goal.overflow_add-seat
overflow_add-seat g c =
    let old : Running = record {
      machine = c.self.inside.machine;
      waiting = c.self.inside.ready.waiting;
      takes = c.self.inside.ready.takes;
      out = c.self.inside.out.items;
      schedule = c.self.inside.schedule;
      spent = c.self.inside.spent;
      acts = c.self.inside.acts.total;
      leaves = c.self.inside.leaves.total;
    } in
    let i = c.self.invariant in
    let going : answer_of g.N.Named.budget old ≡ None = subst (λ (s : Running). answer_of g.N.Named.budget s ≡ None) (sym c.self.view_is) c.requires.going in
    let held : 1 ≤ holder_of c.self.inside.out.items c.args.process = subst (λ (s : Running). 1 ≤ holder_of s.out c.args.process) (sym c.self.view_is) c.requires.out in
    let notes : List Letter = c.perform_most-entered.new.notes in
    let most = c.args.most in
    let part : List Letter = take most notes in
    let alone : 1 < length part → c.self.inside.ready.waiting ≡ [] =
    λ h. subst (λ (s : Running). s.waiting ≡ []) (sym c.self.view_is)
    (c.requires.alone (omega (arith, h, first_few notes most))) in
    let first = one_picked g.P.Rule.pick g.N.Named.pick c.self.inside.ready.rule g.met.P.Rule.within i.4 in
    omega (arith, c.args.seat.now.counted, c.audit.ensures.bound, i.0.acts, spent_few g.N.Named.code g.N.Named.budget g.N.Named.pick old c.args.process part c.self.inside.budget c.perform_most-entered.result c.perform_most-entered.new.machine i.1 i.0 going held alone i.2 i.3 first c.perform_most-entered.ensures.performs, entries_few g.N.Named.code g.N.Named.budget g.N.Named.pick old c.args.process part c.self.inside.budget c.perform_most-entered.result c.perform_most-entered.new.machine i.1 i.0 going held alone i.2 i.3 first c.perform_most-entered.ensures.performs, operators_few g.N.Named.code g.N.Named.budget g.N.Named.pick old c.args.process part c.self.inside.budget c.perform_most-entered.result c.perform_most-entered.new.machine i.1 i.0 going held alone i.2 i.3 first c.perform_most-entered.ensures.performs, i.3, budget_is)

pub invariant_of-self : goal.invariant_of-self
invariant_of-self g c =
    let old : Running = record {
      machine = c.self.inside.machine;
      waiting = c.self.inside.ready.waiting;
      takes = c.self.inside.ready.takes;
      out = c.self.inside.out.items;
      schedule = c.self.inside.schedule;
      spent = c.self.inside.spent;
      acts = c.self.inside.acts.total;
      leaves = c.self.inside.leaves.total;
    } in
    let i = c.self.invariant in
    let going : answer_of g.N.Named.budget old ≡ None = subst (λ (s : Running). answer_of g.N.Named.budget s ≡ None) (sym c.self.view_is) c.requires.going in
    let held : 1 ≤ holder_of c.self.inside.out.items c.args.process = subst (λ (s : Running). 1 ≤ holder_of s.out c.args.process) (sym c.self.view_is) c.requires.out in
    let notes : List Letter = c.perform_most-entered.new.notes in
    let most = c.args.most in
    let part : List Letter = take most notes in
    let alone : 1 < length part → c.self.inside.ready.waiting ≡ [] =
    λ h. subst (λ (s : Running). s.waiting ≡ []) (sym c.self.view_is)
    (c.requires.alone (omega (arith, h, first_few notes most))) in
    let first = one_picked g.P.Rule.pick g.N.Named.pick c.self.inside.ready.rule g.met.P.Rule.within i.4 in
    let s : ScheduleModel = c.push_many.new.self in
    let whole = with_items_is c.self.inside.notes notes (c.perform_most-entered.ensures.size ∙ c.deref_mut.ensures.len) in
    let grown : Grown c.self.inside.schedule c.args.process (take c.perform_most-entered.result.entries part) s =
    grown_by c.self.inside.schedule s c.args.process c.deref.result.now notes most c.perform_most-entered.result.entries (c.deref.ensures.value ∙ whole)
    c.perform_most-entered.ensures.performs.few c.push_many.ensures.added c.push_many.ensures.letters c.push_many.ensures.none in
    let mid : Running = turned old c.perform_most-entered.result.entries c.perform_most-entered.result.operators c.perform_most-entered.ensures.performs.between s in
    let st : StandsOut g.N.Named.code g.N.Named.budget c.args.process mid = stands_then g.N.Named.code g.N.Named.budget g.N.Named.pick old c.args.process part c.self.inside.budget c.perform_most-entered.result c.perform_most-entered.new.machine i.1 i.0 going held alone i.2 i.3 first c.perform_most-entered.ensures.performs s grown in
    let performs : MachinePerforms c.perform_most-entered.ensures.performs.between c.args.process (c.self.inside.budget - mid.spent) c.perform_most-entered.result.last c.perform_most-entered.new.machine = last_performs g.N.Named.code g.N.Named.budget g.N.Named.pick old c.args.process part c.self.inside.budget c.perform_most-entered.result c.perform_most-entered.new.machine i.1 i.0 going held alone i.2 i.3 first c.perform_most-entered.ensures.performs s grown in
    let same = same_queue c.self.inside.ready c.take_again.new.self (counted_times c.perform_most-entered.result.entries c.self.inside.ready.takes) c.take_again.ensures.counted in
    let kept = same.waiting in
    let takes = same.takes in
    let none : done_is_action c.perform_most-entered.result.last.done ≡ false = sym c.is_action.ensures ∙ c.if-not-is_action.true in
    let new : Running = record mid { machine = c.perform_most-entered.new.machine; spent = mid.spent + c.perform_most-entered.result.last.plain } in
    let acts : ActsOnce g.N.Named.budget mid c.args.process c.perform_most-entered.result.last new =
    once g.N.Named.budget mid c.args.process c.perform_most-entered.result.last new c.self.inside.budget i.2 performs false none
    (omega arith) (record { schedule = refl; out = refl; waiting = refl; acts = refl }) refl refl in
    let written : Running = record {
      machine = c.perform_most-entered.new.machine;
      waiting = c.take_again.new.self.waiting;
      takes = c.take_again.new.self.takes;
      out = c.self.inside.out.items;
      schedule = s;
      spent = c.self.inside.spent + c.perform_most-entered.result.operators + c.perform_most-entered.result.last.plain;
      acts = c.add.new.self.total;
      leaves = c.self.inside.leaves.total;
    } in
    let same_acts : c.add.new.self.total ≡ mid.acts = omega (arith, c.add.ensures.total, c.audit.ensures.total, c.from.ensures) in
    let is : written ≡ new =
    ap (λ (k : ℕ). record written { acts = k }) same_acts ∙ ap (λ (ws : List ℕ). record new { waiting = ws; takes = c.take_again.new.self.takes }) kept
    ∙ ap (λ (k : ℕ). record new { takes = k }) takes in
    let x : Given g.N.Named.code g.N.Named.budget mid c.args.process c.perform_most-entered.result.last new =
    given g.N.Named.code g.N.Named.budget mid c.args.process c.perform_most-entered.result.last new i.1 st.stands st.going st.out c.perform_most-entered.ensures.valid acts in (
      subst (Stands g.N.Named.code g.N.Named.budget) (sym is)
          (stands_after g.N.Named.code g.N.Named.budget mid c.args.process c.perform_most-entered.result.last new x),
      i.1,
      i.2,
      i.3,
      λ k takes. ap (λ r. g.P.Rule.pick r k takes) same.rule ∙ i.4 k takes,
      omega (arith, i.5, same.room),
      omega (arith, i.6, c.push_many.ensures.room),
      omega (arith, ap length whole, c.perform_most-entered.ensures.size, ap length c.deref_mut.ensures.value, i.7),
      c.lacks-self-inside.ensures ∙ sym (lacked_after mid.machine c.perform_most-entered.new.machine c.args.process (c.self.inside.budget - mid.spent) c.perform_most-entered.result.last (goes_on g.N.Named.budget mid st.going).lacked performs),
      i.9,
      λ on. went_on mid.machine c.perform_most-entered.new.machine c.args.process (c.self.inside.budget - mid.spent) c.perform_most-entered.result.last (goes_on g.N.Named.budget mid st.going).lacked performs (goes_on g.N.Named.budget mid st.going).end (c.went-self-inside.ensures on),
    )

pub returns-then-not-is_action-clause-acts : goal.returns-then-not-is_action-clause-acts
returns-then-not-is_action-clause-acts g c =
    let old : Running = record {
      machine = c.self.inside.machine;
      waiting = c.self.inside.ready.waiting;
      takes = c.self.inside.ready.takes;
      out = c.self.inside.out.items;
      schedule = c.self.inside.schedule;
      spent = c.self.inside.spent;
      acts = c.self.inside.acts.total;
      leaves = c.self.inside.leaves.total;
    } in
    let i = c.self.invariant in
    let going : answer_of g.N.Named.budget old ≡ None = subst (λ (s : Running). answer_of g.N.Named.budget s ≡ None) (sym c.self.view_is) c.requires.going in
    let held : 1 ≤ holder_of c.self.inside.out.items c.args.process = subst (λ (s : Running). 1 ≤ holder_of s.out c.args.process) (sym c.self.view_is) c.requires.out in
    let notes : List Letter = c.perform_most-entered.new.notes in
    let most = c.args.most in
    let part : List Letter = take most notes in
    let alone : 1 < length part → c.self.inside.ready.waiting ≡ [] =
    λ h. subst (λ (s : Running). s.waiting ≡ []) (sym c.self.view_is)
    (c.requires.alone (omega (arith, h, first_few notes most))) in
    let first = one_picked g.P.Rule.pick g.N.Named.pick c.self.inside.ready.rule g.met.P.Rule.within i.4 in
    let s : ScheduleModel = c.push_many.new.self in
    let whole = with_items_is c.self.inside.notes notes (c.perform_most-entered.ensures.size ∙ c.deref_mut.ensures.len) in
    let grown : Grown c.self.inside.schedule c.args.process (take c.perform_most-entered.result.entries part) s =
    grown_by c.self.inside.schedule s c.args.process c.deref.result.now notes most c.perform_most-entered.result.entries (c.deref.ensures.value ∙ whole)
    c.perform_most-entered.ensures.performs.few c.push_many.ensures.added c.push_many.ensures.letters c.push_many.ensures.none in
    let mid : Running = turned old c.perform_most-entered.result.entries c.perform_most-entered.result.operators c.perform_most-entered.ensures.performs.between s in
    let st : StandsOut g.N.Named.code g.N.Named.budget c.args.process mid = stands_then g.N.Named.code g.N.Named.budget g.N.Named.pick old c.args.process part c.self.inside.budget c.perform_most-entered.result c.perform_most-entered.new.machine i.1 i.0 going held alone i.2 i.3 first c.perform_most-entered.ensures.performs s grown in
    let performs : MachinePerforms c.perform_most-entered.ensures.performs.between c.args.process (c.self.inside.budget - mid.spent) c.perform_most-entered.result.last c.perform_most-entered.new.machine = last_performs g.N.Named.code g.N.Named.budget g.N.Named.pick old c.args.process part c.self.inside.budget c.perform_most-entered.result c.perform_most-entered.new.machine i.1 i.0 going held alone i.2 i.3 first c.perform_most-entered.ensures.performs s grown in
    let same = same_queue c.self.inside.ready c.take_again.new.self (counted_times c.perform_most-entered.result.entries c.self.inside.ready.takes) c.take_again.ensures.counted in
    let kept = same.waiting in
    let takes = same.takes in
    let none : done_is_action c.perform_most-entered.result.last.done ≡ false = sym c.is_action.ensures ∙ c.if-not-is_action.true in
    let new : Running = record mid { machine = c.perform_most-entered.new.machine; spent = mid.spent + c.perform_most-entered.result.last.plain } in
    let acts : ActsOnce g.N.Named.budget mid c.args.process c.perform_most-entered.result.last new =
    once g.N.Named.budget mid c.args.process c.perform_most-entered.result.last new c.self.inside.budget i.2 performs false none
    (omega arith) (record { schedule = refl; out = refl; waiting = refl; acts = refl }) refl refl in
    let written : Running = record {
      machine = c.perform_most-entered.new.machine;
      waiting = c.take_again.new.self.waiting;
      takes = c.take_again.new.self.takes;
      out = c.self.inside.out.items;
      schedule = s;
      spent = c.self.inside.spent + c.perform_most-entered.result.operators + c.perform_most-entered.result.last.plain;
      acts = c.add.new.self.total;
      leaves = c.self.inside.leaves.total;
    } in
    let same_acts : c.add.new.self.total ≡ mid.acts = omega (arith, c.add.ensures.total, c.audit.ensures.total, c.from.ensures) in
    let is : written ≡ new =
    ap (λ (k : ℕ). record written { acts = k }) same_acts ∙ ap (λ (ws : List ℕ). record new { waiting = ws; takes = c.take_again.new.self.takes }) kept
    ∙ ap (λ (k : ℕ). record new { takes = k }) takes in (
      c.perform_most-entered.result.last,
      subst (λ (z : Running). ActsMany g.N.Named.pick g.N.Named.budget z c.args.process c.perform_most-entered.result.entries c.perform_most-entered.result.last written) c.self.view_is (record {
        between = mid;
        acts = acts_on g.N.Named.code g.N.Named.budget g.N.Named.pick old c.args.process part c.self.inside.budget c.perform_most-entered.result c.perform_most-entered.new.machine i.1 i.0 going held alone i.2 i.3 first c.perform_most-entered.ensures.performs s grown;
        last = subst (ActsOnce g.N.Named.budget mid c.args.process c.perform_most-entered.result.last) (sym is) acts;
      }),
      c.answer_to-answer.ensures,
    )

pub returns-then-not-is_action-clause-one : goal.returns-then-not-is_action-clause-one
returns-then-not-is_action-clause-one g c =
    λ one. omega (arith, c.perform_most-entered.ensures.performs.few, first_few c.perform_most-entered.new.notes c.args.most, one)

pub returns-clause-one : goal.returns-clause-one
returns-clause-one g c = λ one. omega (arith, c.perform_most-entered.ensures.performs.few, first_few c.perform_most-entered.new.notes c.args.most, one)

pub returns-then-not-is_action-clause-count : goal.returns-then-not-is_action-clause-count
returns-then-not-is_action-clause-count g c =
    let none : done_is_action c.perform_most-entered.result.last.done ≡ false = sym c.is_action.ensures ∙ c.if-not-is_action.true in
    subst (λ a. IsActed a (c.args.seat.now.count + c.perform_most-entered.result.entries) (c.args.seat.now.count + c.from-2.result)) (sym c.answer_to-answer.ensures)
    (subst (λ (k : ℕ). IsActed (answer_to c.perform_most-entered.result.last.done) (c.args.seat.now.count + c.perform_most-entered.result.entries) (c.args.seat.now.count + k)) (sym c.from-2.ensures)
    (counts_none c.perform_most-entered.result.last.done (c.args.seat.now.count + c.perform_most-entered.result.entries) none))

pub push-requires-clause-room : goal.push-requires-clause-room
push-requires-clause-room g c =
    let old : Running = record {
      machine = c.self.inside.machine;
      waiting = c.self.inside.ready.waiting;
      takes = c.self.inside.ready.takes;
      out = c.self.inside.out.items;
      schedule = c.self.inside.schedule;
      spent = c.self.inside.spent;
      acts = c.self.inside.acts.total;
      leaves = c.self.inside.leaves.total;
    } in
    let i = c.self.invariant in
    let going : answer_of g.N.Named.budget old ≡ None = subst (λ (s : Running). answer_of g.N.Named.budget s ≡ None) (sym c.self.view_is) c.requires.going in
    let held : 1 ≤ holder_of c.self.inside.out.items c.args.process = subst (λ (s : Running). 1 ≤ holder_of s.out c.args.process) (sym c.self.view_is) c.requires.out in
    let notes : List Letter = c.perform_most-entered.new.notes in
    let most = c.args.most in
    let part : List Letter = take most notes in
    let alone : 1 < length part → c.self.inside.ready.waiting ≡ [] =
    λ h. subst (λ (s : Running). s.waiting ≡ []) (sym c.self.view_is)
    (c.requires.alone (omega (arith, h, first_few notes most))) in
    let first = one_picked g.P.Rule.pick g.N.Named.pick c.self.inside.ready.rule g.met.P.Rule.within i.4 in
    let s : ScheduleModel = c.push_many.new.self in
    let whole = with_items_is c.self.inside.notes notes (c.perform_most-entered.ensures.size ∙ c.deref_mut.ensures.len) in
    let grown : Grown c.self.inside.schedule c.args.process (take c.perform_most-entered.result.entries part) s =
    grown_by c.self.inside.schedule s c.args.process c.deref.result.now notes most c.perform_most-entered.result.entries (c.deref.ensures.value ∙ whole)
    c.perform_most-entered.ensures.performs.few c.push_many.ensures.added c.push_many.ensures.letters c.push_many.ensures.none in
    let mid : Running = turned old c.perform_most-entered.result.entries c.perform_most-entered.result.operators c.perform_most-entered.ensures.performs.between s in
    let st : StandsOut g.N.Named.code g.N.Named.budget c.args.process mid = stands_then g.N.Named.code g.N.Named.budget g.N.Named.pick old c.args.process part c.self.inside.budget c.perform_most-entered.result c.perform_most-entered.new.machine i.1 i.0 going held alone i.2 i.3 first c.perform_most-entered.ensures.performs s grown in
    let performs : MachinePerforms c.perform_most-entered.ensures.performs.between c.args.process (c.self.inside.budget - mid.spent) c.perform_most-entered.result.last c.perform_most-entered.new.machine = last_performs g.N.Named.code g.N.Named.budget g.N.Named.pick old c.args.process part c.self.inside.budget c.perform_most-entered.result c.perform_most-entered.new.machine i.1 i.0 going held alone i.2 i.3 first c.perform_most-entered.ensures.performs s grown in
    let same = same_queue c.self.inside.ready c.take_again.new.self (counted_times c.perform_most-entered.result.entries c.self.inside.ready.takes) c.take_again.ensures.counted in
    let kept = same.waiting in
    let takes = same.takes in
    omega (arith, letters_entries g.N.Named.code g.N.Named.budget mid st.stands, entries_then g.N.Named.code g.N.Named.budget g.N.Named.pick old c.args.process part c.self.inside.budget c.perform_most-entered.result c.perform_most-entered.new.machine i.1 i.0 going held alone i.2 i.3 first c.perform_most-entered.ensures.performs s grown, operators_few g.N.Named.code g.N.Named.budget g.N.Named.pick old c.args.process part c.self.inside.budget c.perform_most-entered.result c.perform_most-entered.new.machine i.1 i.0 going held alone i.2 i.3 first c.perform_most-entered.ensures.performs, less g.N.Named.code g.N.Named.budget g.N.Named.pick old c.args.process part c.self.inside.budget c.perform_most-entered.result c.perform_most-entered.new.machine i.1 i.0 going held alone i.2 i.3 first c.perform_most-entered.ensures.performs, i.6, c.push_many.ensures.room)

pub push-requires-clause-greatest : goal.push-requires-clause-greatest
push-requires-clause-greatest g c =
    let old : Running = record {
      machine = c.self.inside.machine;
      waiting = c.self.inside.ready.waiting;
      takes = c.self.inside.ready.takes;
      out = c.self.inside.out.items;
      schedule = c.self.inside.schedule;
      spent = c.self.inside.spent;
      acts = c.self.inside.acts.total;
      leaves = c.self.inside.leaves.total;
    } in
    let i = c.self.invariant in
    let going : answer_of g.N.Named.budget old ≡ None = subst (λ (s : Running). answer_of g.N.Named.budget s ≡ None) (sym c.self.view_is) c.requires.going in
    let held : 1 ≤ holder_of c.self.inside.out.items c.args.process = subst (λ (s : Running). 1 ≤ holder_of s.out c.args.process) (sym c.self.view_is) c.requires.out in
    let notes : List Letter = c.perform_most-entered.new.notes in
    let most = c.args.most in
    let part : List Letter = take most notes in
    let alone : 1 < length part → c.self.inside.ready.waiting ≡ [] =
    λ h. subst (λ (s : Running). s.waiting ≡ []) (sym c.self.view_is)
    (c.requires.alone (omega (arith, h, first_few notes most))) in
    let first = one_picked g.P.Rule.pick g.N.Named.pick c.self.inside.ready.rule g.met.P.Rule.within i.4 in
    let n = number g.N.Named.code g.N.Named.budget g.N.Named.pick old c.args.process part c.self.inside.budget c.perform_most-entered.result c.perform_most-entered.new.machine i.1 i.0 going held alone i.2 i.3 first c.perform_most-entered.ensures.performs in
    omega (arith, n.1)

pub push-requires-clause-least : goal.push-requires-clause-least
push-requires-clause-least g c =
    let old : Running = record {
      machine = c.self.inside.machine;
      waiting = c.self.inside.ready.waiting;
      takes = c.self.inside.ready.takes;
      out = c.self.inside.out.items;
      schedule = c.self.inside.schedule;
      spent = c.self.inside.spent;
      acts = c.self.inside.acts.total;
      leaves = c.self.inside.leaves.total;
    } in
    let i = c.self.invariant in
    let going : answer_of g.N.Named.budget old ≡ None = subst (λ (s : Running). answer_of g.N.Named.budget s ≡ None) (sym c.self.view_is) c.requires.going in
    let held : 1 ≤ holder_of c.self.inside.out.items c.args.process = subst (λ (s : Running). 1 ≤ holder_of s.out c.args.process) (sym c.self.view_is) c.requires.out in
    let notes : List Letter = c.perform_most-entered.new.notes in
    let most = c.args.most in
    let part : List Letter = take most notes in
    let alone : 1 < length part → c.self.inside.ready.waiting ≡ [] =
    λ h. subst (λ (s : Running). s.waiting ≡ []) (sym c.self.view_is)
    (c.requires.alone (omega (arith, h, first_few notes most))) in
    let first = one_picked g.P.Rule.pick g.N.Named.pick c.self.inside.ready.rule g.met.P.Rule.within i.4 in
    (number g.N.Named.code g.N.Named.budget g.N.Named.pick old c.args.process part c.self.inside.budget c.perform_most-entered.result c.perform_most-entered.new.machine i.1 i.0 going held alone i.2 i.3 first c.perform_most-entered.ensures.performs).0

pub push-requires-clause-actions : goal.push-requires-clause-actions
push-requires-clause-actions g c =
    let old : Running = record {
      machine = c.self.inside.machine;
      waiting = c.self.inside.ready.waiting;
      takes = c.self.inside.ready.takes;
      out = c.self.inside.out.items;
      schedule = c.self.inside.schedule;
      spent = c.self.inside.spent;
      acts = c.self.inside.acts.total;
      leaves = c.self.inside.leaves.total;
    } in
    let i = c.self.invariant in
    let going : answer_of g.N.Named.budget old ≡ None = subst (λ (s : Running). answer_of g.N.Named.budget s ≡ None) (sym c.self.view_is) c.requires.going in
    let held : 1 ≤ holder_of c.self.inside.out.items c.args.process = subst (λ (s : Running). 1 ≤ holder_of s.out c.args.process) (sym c.self.view_is) c.requires.out in
    let notes : List Letter = c.perform_most-entered.new.notes in
    let most = c.args.most in
    let part : List Letter = take most notes in
    let alone : 1 < length part → c.self.inside.ready.waiting ≡ [] =
    λ h. subst (λ (s : Running). s.waiting ≡ []) (sym c.self.view_is)
    (c.requires.alone (omega (arith, h, first_few notes most))) in
    let first = one_picked g.P.Rule.pick g.N.Named.pick c.self.inside.ready.rule g.met.P.Rule.within i.4 in
    let s : ScheduleModel = c.push_many.new.self in
    let whole = with_items_is c.self.inside.notes notes (c.perform_most-entered.ensures.size ∙ c.deref_mut.ensures.len) in
    let grown : Grown c.self.inside.schedule c.args.process (take c.perform_most-entered.result.entries part) s =
    grown_by c.self.inside.schedule s c.args.process c.deref.result.now notes most c.perform_most-entered.result.entries (c.deref.ensures.value ∙ whole)
    c.perform_most-entered.ensures.performs.few c.push_many.ensures.added c.push_many.ensures.letters c.push_many.ensures.none in
    let mid : Running = turned old c.perform_most-entered.result.entries c.perform_most-entered.result.operators c.perform_most-entered.ensures.performs.between s in
    let st : StandsOut g.N.Named.code g.N.Named.budget c.args.process mid = stands_then g.N.Named.code g.N.Named.budget g.N.Named.pick old c.args.process part c.self.inside.budget c.perform_most-entered.result c.perform_most-entered.new.machine i.1 i.0 going held alone i.2 i.3 first c.perform_most-entered.ensures.performs s grown in
    let performs : MachinePerforms c.perform_most-entered.ensures.performs.between c.args.process (c.self.inside.budget - mid.spent) c.perform_most-entered.result.last c.perform_most-entered.new.machine = last_performs g.N.Named.code g.N.Named.budget g.N.Named.pick old c.args.process part c.self.inside.budget c.perform_most-entered.result c.perform_most-entered.new.machine i.1 i.0 going held alone i.2 i.3 first c.perform_most-entered.ensures.performs s grown in
    let same = same_queue c.self.inside.ready c.take_again.new.self (counted_times c.perform_most-entered.result.entries c.self.inside.ready.takes) c.take_again.ensures.counted in
    let kept = same.waiting in
    let takes = same.takes in
    omega (arith, letters_entries g.N.Named.code g.N.Named.budget mid st.stands, entries_then g.N.Named.code g.N.Named.budget g.N.Named.pick old c.args.process part c.self.inside.budget c.perform_most-entered.result c.perform_most-entered.new.machine i.1 i.0 going held alone i.2 i.3 first c.perform_most-entered.ensures.performs s grown, operators_few g.N.Named.code g.N.Named.budget g.N.Named.pick old c.args.process part c.self.inside.budget c.perform_most-entered.result c.perform_most-entered.new.machine i.1 i.0 going held alone i.2 i.3 first c.perform_most-entered.ensures.performs, less g.N.Named.code g.N.Named.budget g.N.Named.pick old c.args.process part c.self.inside.budget c.perform_most-entered.result c.perform_most-entered.new.machine i.1 i.0 going held alone i.2 i.3 first c.perform_most-entered.ensures.performs, i.3, budget_is)

pub index_mut-requires : goal.index_mut-requires
index_mut-requires g c =
    let old : Running = record {
      machine = c.self.inside.machine;
      waiting = c.self.inside.ready.waiting;
      takes = c.self.inside.ready.takes;
      out = c.self.inside.out.items;
      schedule = c.self.inside.schedule;
      spent = c.self.inside.spent;
      acts = c.self.inside.acts.total;
      leaves = c.self.inside.leaves.total;
    } in
    let i = c.self.invariant in
    let going : answer_of g.N.Named.budget old ≡ None = subst (λ (s : Running). answer_of g.N.Named.budget s ≡ None) (sym c.self.view_is) c.requires.going in
    let held : 1 ≤ holder_of c.self.inside.out.items c.args.process = subst (λ (s : Running). 1 ≤ holder_of s.out c.args.process) (sym c.self.view_is) c.requires.out in
    let notes : List Letter = c.perform_most-entered.new.notes in
    let most = c.args.most in
    let part : List Letter = take most notes in
    let alone : 1 < length part → c.self.inside.ready.waiting ≡ [] =
    λ h. subst (λ (s : Running). s.waiting ≡ []) (sym c.self.view_is)
    (c.requires.alone (omega (arith, h, first_few notes most))) in
    let first = one_picked g.P.Rule.pick g.N.Named.pick c.self.inside.ready.rule g.met.P.Rule.within i.4 in
    let n = number g.N.Named.code g.N.Named.budget g.N.Named.pick old c.args.process part c.self.inside.budget c.perform_most-entered.result c.perform_most-entered.new.machine i.1 i.0 going held alone i.2 i.3 first c.perform_most-entered.ensures.performs in
    omega (arith, n.0, n.1, i.0.holders)

pub join_queue-requires-clause-room : goal.join_queue-requires-clause-room
join_queue-requires-clause-room g c =
    let old : Running = record {
      machine = c.self.inside.machine;
      waiting = c.self.inside.ready.waiting;
      takes = c.self.inside.ready.takes;
      out = c.self.inside.out.items;
      schedule = c.self.inside.schedule;
      spent = c.self.inside.spent;
      acts = c.self.inside.acts.total;
      leaves = c.self.inside.leaves.total;
    } in
    let i = c.self.invariant in
    let going : answer_of g.N.Named.budget old ≡ None = subst (λ (s : Running). answer_of g.N.Named.budget s ≡ None) (sym c.self.view_is) c.requires.going in
    let held : 1 ≤ holder_of c.self.inside.out.items c.args.process = subst (λ (s : Running). 1 ≤ holder_of s.out c.args.process) (sym c.self.view_is) c.requires.out in
    let notes : List Letter = c.perform_most-entered.new.notes in
    let most = c.args.most in
    let part : List Letter = take most notes in
    let alone : 1 < length part → c.self.inside.ready.waiting ≡ [] =
    λ h. subst (λ (s : Running). s.waiting ≡ []) (sym c.self.view_is)
    (c.requires.alone (omega (arith, h, first_few notes most))) in
    let first = one_picked g.P.Rule.pick g.N.Named.pick c.self.inside.ready.rule g.met.P.Rule.within i.4 in
    let s : ScheduleModel = c.push_many.new.self in
    let whole = with_items_is c.self.inside.notes notes (c.perform_most-entered.ensures.size ∙ c.deref_mut.ensures.len) in
    let grown : Grown c.self.inside.schedule c.args.process (take c.perform_most-entered.result.entries part) s =
    grown_by c.self.inside.schedule s c.args.process c.deref.result.now notes most c.perform_most-entered.result.entries (c.deref.ensures.value ∙ whole)
    c.perform_most-entered.ensures.performs.few c.push_many.ensures.added c.push_many.ensures.letters c.push_many.ensures.none in
    let mid : Running = turned old c.perform_most-entered.result.entries c.perform_most-entered.result.operators c.perform_most-entered.ensures.performs.between s in
    let st : StandsOut g.N.Named.code g.N.Named.budget c.args.process mid = stands_then g.N.Named.code g.N.Named.budget g.N.Named.pick old c.args.process part c.self.inside.budget c.perform_most-entered.result c.perform_most-entered.new.machine i.1 i.0 going held alone i.2 i.3 first c.perform_most-entered.ensures.performs s grown in
    let performs : MachinePerforms c.perform_most-entered.ensures.performs.between c.args.process (c.self.inside.budget - mid.spent) c.perform_most-entered.result.last c.perform_most-entered.new.machine = last_performs g.N.Named.code g.N.Named.budget g.N.Named.pick old c.args.process part c.self.inside.budget c.perform_most-entered.result c.perform_most-entered.new.machine i.1 i.0 going held alone i.2 i.3 first c.perform_most-entered.ensures.performs s grown in
    let same = same_queue c.self.inside.ready c.take_again.new.self (counted_times c.perform_most-entered.result.entries c.self.inside.ready.takes) c.take_again.ensures.counted in
    let kept = same.waiting in
    let takes = same.takes in
    let done : done_is_action c.perform_most-entered.result.last.done ≡ true = sym c.is_action.ensures ∙ c.if-not-is_action.false in
    let new : Running = entered mid c.args.process c.perform_most-entered.result.last c.perform_most-entered.new.machine c.push.new.self (mid.acts + 1) in
    let acts : ActsOnce g.N.Named.budget mid c.args.process c.perform_most-entered.result.last new =
    entered_once g.N.Named.budget mid c.args.process c.perform_most-entered.result.last c.perform_most-entered.new.machine c.push.new.self (mid.acts + 1)
    c.self.inside.budget i.2 performs done c.push.ensures.added
    (letter_noted c.perform_most-entered.result.last.done done s.letters notes most c.perform_most-entered.result.entries c.index.result.now c.perform_most-entered.new.machine.letter
    c.push.new.self.letters c.perform_most-entered.ensures.performs.few (c.index.ensures ∙ ap (λ (ls : List Letter). get_or ls c.perform_most-entered.result.entries c.index.result.now) whole)
    c.perform_most-entered.ensures.performs.last c.push.ensures.letters) refl in
    let x : Given g.N.Named.code g.N.Named.budget mid c.args.process c.perform_most-entered.result.last new =
    given g.N.Named.code g.N.Named.budget mid c.args.process c.perform_most-entered.result.last new i.1 st.stands st.going st.out c.perform_most-entered.ensures.valid acts in
    let most = queue_fits g.N.Named.code g.N.Named.budget mid c.args.process c.perform_most-entered.result.last c.perform_most-entered.new.machine c.push.new.self (mid.acts + 1) x done in
    omega (arith, most, i.5, ap length kept, same.room)

pub join_queue-requires-clause-few : goal.join_queue-requires-clause-few
join_queue-requires-clause-few g c =
    let old : Running = record {
      machine = c.self.inside.machine;
      waiting = c.self.inside.ready.waiting;
      takes = c.self.inside.ready.takes;
      out = c.self.inside.out.items;
      schedule = c.self.inside.schedule;
      spent = c.self.inside.spent;
      acts = c.self.inside.acts.total;
      leaves = c.self.inside.leaves.total;
    } in
    let i = c.self.invariant in
    let going : answer_of g.N.Named.budget old ≡ None = subst (λ (s : Running). answer_of g.N.Named.budget s ≡ None) (sym c.self.view_is) c.requires.going in
    let held : 1 ≤ holder_of c.self.inside.out.items c.args.process = subst (λ (s : Running). 1 ≤ holder_of s.out c.args.process) (sym c.self.view_is) c.requires.out in
    let notes : List Letter = c.perform_most-entered.new.notes in
    let most = c.args.most in
    let part : List Letter = take most notes in
    let alone : 1 < length part → c.self.inside.ready.waiting ≡ [] =
    λ h. subst (λ (s : Running). s.waiting ≡ []) (sym c.self.view_is)
    (c.requires.alone (omega (arith, h, first_few notes most))) in
    let first = one_picked g.P.Rule.pick g.N.Named.pick c.self.inside.ready.rule g.met.P.Rule.within i.4 in
    let s : ScheduleModel = c.push_many.new.self in
    let whole = with_items_is c.self.inside.notes notes (c.perform_most-entered.ensures.size ∙ c.deref_mut.ensures.len) in
    let grown : Grown c.self.inside.schedule c.args.process (take c.perform_most-entered.result.entries part) s =
    grown_by c.self.inside.schedule s c.args.process c.deref.result.now notes most c.perform_most-entered.result.entries (c.deref.ensures.value ∙ whole)
    c.perform_most-entered.ensures.performs.few c.push_many.ensures.added c.push_many.ensures.letters c.push_many.ensures.none in
    let mid : Running = turned old c.perform_most-entered.result.entries c.perform_most-entered.result.operators c.perform_most-entered.ensures.performs.between s in
    let st : StandsOut g.N.Named.code g.N.Named.budget c.args.process mid = stands_then g.N.Named.code g.N.Named.budget g.N.Named.pick old c.args.process part c.self.inside.budget c.perform_most-entered.result c.perform_most-entered.new.machine i.1 i.0 going held alone i.2 i.3 first c.perform_most-entered.ensures.performs s grown in
    let performs : MachinePerforms c.perform_most-entered.ensures.performs.between c.args.process (c.self.inside.budget - mid.spent) c.perform_most-entered.result.last c.perform_most-entered.new.machine = last_performs g.N.Named.code g.N.Named.budget g.N.Named.pick old c.args.process part c.self.inside.budget c.perform_most-entered.result c.perform_most-entered.new.machine i.1 i.0 going held alone i.2 i.3 first c.perform_most-entered.ensures.performs s grown in
    let same = same_queue c.self.inside.ready c.take_again.new.self (counted_times c.perform_most-entered.result.entries c.self.inside.ready.takes) c.take_again.ensures.counted in
    let kept = same.waiting in
    let takes = same.takes in
    let done : done_is_action c.perform_most-entered.result.last.done ≡ true = sym c.is_action.ensures ∙ c.if-not-is_action.false in
    let new : Running = entered mid c.args.process c.perform_most-entered.result.last c.perform_most-entered.new.machine c.push.new.self (mid.acts + 1) in
    let acts : ActsOnce g.N.Named.budget mid c.args.process c.perform_most-entered.result.last new =
    entered_once g.N.Named.budget mid c.args.process c.perform_most-entered.result.last c.perform_most-entered.new.machine c.push.new.self (mid.acts + 1)
    c.self.inside.budget i.2 performs done c.push.ensures.added
    (letter_noted c.perform_most-entered.result.last.done done s.letters notes most c.perform_most-entered.result.entries c.index.result.now c.perform_most-entered.new.machine.letter
    c.push.new.self.letters c.perform_most-entered.ensures.performs.few (c.index.ensures ∙ ap (λ (ls : List Letter). get_or ls c.perform_most-entered.result.entries c.index.result.now) whole)
    c.perform_most-entered.ensures.performs.last c.push.ensures.letters) refl in
    let x : Given g.N.Named.code g.N.Named.budget mid c.args.process c.perform_most-entered.result.last new =
    given g.N.Named.code g.N.Named.budget mid c.args.process c.perform_most-entered.result.last new i.1 st.stands st.going st.out c.perform_most-entered.ensures.valid acts in
    let most = queue_fits g.N.Named.code g.N.Named.budget mid c.args.process c.perform_most-entered.result.last c.perform_most-entered.new.machine c.push.new.self (mid.acts + 1) x done in
    omega (arith, most, ap length kept)

pub overflow_add-seat-2 : goal.overflow_add-seat-2
overflow_add-seat-2 g c =
    let old : Running = record {
      machine = c.self.inside.machine;
      waiting = c.self.inside.ready.waiting;
      takes = c.self.inside.ready.takes;
      out = c.self.inside.out.items;
      schedule = c.self.inside.schedule;
      spent = c.self.inside.spent;
      acts = c.self.inside.acts.total;
      leaves = c.self.inside.leaves.total;
    } in
    let i = c.self.invariant in
    let going : answer_of g.N.Named.budget old ≡ None = subst (λ (s : Running). answer_of g.N.Named.budget s ≡ None) (sym c.self.view_is) c.requires.going in
    let held : 1 ≤ holder_of c.self.inside.out.items c.args.process = subst (λ (s : Running). 1 ≤ holder_of s.out c.args.process) (sym c.self.view_is) c.requires.out in
    let notes : List Letter = c.perform_most-entered.new.notes in
    let most = c.args.most in
    let part : List Letter = take most notes in
    let alone : 1 < length part → c.self.inside.ready.waiting ≡ [] =
    λ h. subst (λ (s : Running). s.waiting ≡ []) (sym c.self.view_is)
    (c.requires.alone (omega (arith, h, first_few notes most))) in
    let first = one_picked g.P.Rule.pick g.N.Named.pick c.self.inside.ready.rule g.met.P.Rule.within i.4 in
    let s : ScheduleModel = c.push_many.new.self in
    let whole = with_items_is c.self.inside.notes notes (c.perform_most-entered.ensures.size ∙ c.deref_mut.ensures.len) in
    let grown : Grown c.self.inside.schedule c.args.process (take c.perform_most-entered.result.entries part) s =
    grown_by c.self.inside.schedule s c.args.process c.deref.result.now notes most c.perform_most-entered.result.entries (c.deref.ensures.value ∙ whole)
    c.perform_most-entered.ensures.performs.few c.push_many.ensures.added c.push_many.ensures.letters c.push_many.ensures.none in
    let mid : Running = turned old c.perform_most-entered.result.entries c.perform_most-entered.result.operators c.perform_most-entered.ensures.performs.between s in
    let st : StandsOut g.N.Named.code g.N.Named.budget c.args.process mid = stands_then g.N.Named.code g.N.Named.budget g.N.Named.pick old c.args.process part c.self.inside.budget c.perform_most-entered.result c.perform_most-entered.new.machine i.1 i.0 going held alone i.2 i.3 first c.perform_most-entered.ensures.performs s grown in
    let performs : MachinePerforms c.perform_most-entered.ensures.performs.between c.args.process (c.self.inside.budget - mid.spent) c.perform_most-entered.result.last c.perform_most-entered.new.machine = last_performs g.N.Named.code g.N.Named.budget g.N.Named.pick old c.args.process part c.self.inside.budget c.perform_most-entered.result c.perform_most-entered.new.machine i.1 i.0 going held alone i.2 i.3 first c.perform_most-entered.ensures.performs s grown in
    let same = same_queue c.self.inside.ready c.take_again.new.self (counted_times c.perform_most-entered.result.entries c.self.inside.ready.takes) c.take_again.ensures.counted in
    let kept = same.waiting in
    let takes = same.takes in
    omega (arith, c.args.seat.now.counted, c.audit.ensures.bound, i.0.acts, spent_few g.N.Named.code g.N.Named.budget g.N.Named.pick old c.args.process part c.self.inside.budget c.perform_most-entered.result c.perform_most-entered.new.machine i.1 i.0 going held alone i.2 i.3 first c.perform_most-entered.ensures.performs, entries_few g.N.Named.code g.N.Named.budget g.N.Named.pick old c.args.process part c.self.inside.budget c.perform_most-entered.result c.perform_most-entered.new.machine i.1 i.0 going held alone i.2 i.3 first c.perform_most-entered.ensures.performs, operators_few g.N.Named.code g.N.Named.budget g.N.Named.pick old c.args.process part c.self.inside.budget c.perform_most-entered.result c.perform_most-entered.new.machine i.1 i.0 going held alone i.2 i.3 first c.perform_most-entered.ensures.performs, i.3, budget_is, c.from.ensures)

pub invariant_of-self-2 : goal.invariant_of-self-2
invariant_of-self-2 g c =
    let old : Running = record {
      machine = c.self.inside.machine;
      waiting = c.self.inside.ready.waiting;
      takes = c.self.inside.ready.takes;
      out = c.self.inside.out.items;
      schedule = c.self.inside.schedule;
      spent = c.self.inside.spent;
      acts = c.self.inside.acts.total;
      leaves = c.self.inside.leaves.total;
    } in
    let i = c.self.invariant in
    let going : answer_of g.N.Named.budget old ≡ None = subst (λ (s : Running). answer_of g.N.Named.budget s ≡ None) (sym c.self.view_is) c.requires.going in
    let held : 1 ≤ holder_of c.self.inside.out.items c.args.process = subst (λ (s : Running). 1 ≤ holder_of s.out c.args.process) (sym c.self.view_is) c.requires.out in
    let notes : List Letter = c.perform_most-entered.new.notes in
    let most = c.args.most in
    let part : List Letter = take most notes in
    let alone : 1 < length part → c.self.inside.ready.waiting ≡ [] =
    λ h. subst (λ (s : Running). s.waiting ≡ []) (sym c.self.view_is)
    (c.requires.alone (omega (arith, h, first_few notes most))) in
    let first = one_picked g.P.Rule.pick g.N.Named.pick c.self.inside.ready.rule g.met.P.Rule.within i.4 in
    let s : ScheduleModel = c.push_many.new.self in
    let whole = with_items_is c.self.inside.notes notes (c.perform_most-entered.ensures.size ∙ c.deref_mut.ensures.len) in
    let grown : Grown c.self.inside.schedule c.args.process (take c.perform_most-entered.result.entries part) s =
    grown_by c.self.inside.schedule s c.args.process c.deref.result.now notes most c.perform_most-entered.result.entries (c.deref.ensures.value ∙ whole)
    c.perform_most-entered.ensures.performs.few c.push_many.ensures.added c.push_many.ensures.letters c.push_many.ensures.none in
    let mid : Running = turned old c.perform_most-entered.result.entries c.perform_most-entered.result.operators c.perform_most-entered.ensures.performs.between s in
    let st : StandsOut g.N.Named.code g.N.Named.budget c.args.process mid = stands_then g.N.Named.code g.N.Named.budget g.N.Named.pick old c.args.process part c.self.inside.budget c.perform_most-entered.result c.perform_most-entered.new.machine i.1 i.0 going held alone i.2 i.3 first c.perform_most-entered.ensures.performs s grown in
    let performs : MachinePerforms c.perform_most-entered.ensures.performs.between c.args.process (c.self.inside.budget - mid.spent) c.perform_most-entered.result.last c.perform_most-entered.new.machine = last_performs g.N.Named.code g.N.Named.budget g.N.Named.pick old c.args.process part c.self.inside.budget c.perform_most-entered.result c.perform_most-entered.new.machine i.1 i.0 going held alone i.2 i.3 first c.perform_most-entered.ensures.performs s grown in
    let same = same_queue c.self.inside.ready c.take_again.new.self (counted_times c.perform_most-entered.result.entries c.self.inside.ready.takes) c.take_again.ensures.counted in
    let kept = same.waiting in
    let takes = same.takes in
    let done : done_is_action c.perform_most-entered.result.last.done ≡ true = sym c.is_action.ensures ∙ c.if-not-is_action.false in
    let new : Running = entered mid c.args.process c.perform_most-entered.result.last c.perform_most-entered.new.machine c.push.new.self (mid.acts + 1) in
    let acts : ActsOnce g.N.Named.budget mid c.args.process c.perform_most-entered.result.last new =
    entered_once g.N.Named.budget mid c.args.process c.perform_most-entered.result.last c.perform_most-entered.new.machine c.push.new.self (mid.acts + 1)
    c.self.inside.budget i.2 performs done c.push.ensures.added
    (letter_noted c.perform_most-entered.result.last.done done s.letters notes most c.perform_most-entered.result.entries c.index.result.now c.perform_most-entered.new.machine.letter
    c.push.new.self.letters c.perform_most-entered.ensures.performs.few (c.index.ensures ∙ ap (λ (ls : List Letter). get_or ls c.perform_most-entered.result.entries c.index.result.now) whole)
    c.perform_most-entered.ensures.performs.last c.push.ensures.letters) refl in
    let x : Given g.N.Named.code g.N.Named.budget mid c.args.process c.perform_most-entered.result.last new =
    given g.N.Named.code g.N.Named.budget mid c.args.process c.perform_most-entered.result.last new i.1 st.stands st.going st.out c.perform_most-entered.ensures.valid acts in
    let n = number g.N.Named.code g.N.Named.budget g.N.Named.pick old c.args.process part c.self.inside.budget c.perform_most-entered.result c.perform_most-entered.new.machine i.1 i.0 going held alone i.2 i.3 first c.perform_most-entered.ensures.performs in
    let out = slice_set c.self.inside.out.items (c.args.process - 1) 0 in
    let written : Running = record {
      machine = c.perform_most-entered.new.machine;
      waiting = c.join_queue.new.ready.waiting;
      takes = c.join_queue.new.ready.takes;
      out = out;
      schedule = c.push.new.self;
      spent = c.self.inside.spent + c.perform_most-entered.result.operators + c.perform_most-entered.result.last.plain + 1;
      acts = c.add-2.new.self.total;
      leaves = c.self.inside.leaves.total;
    } in
    let same_acts : c.add-2.new.self.total ≡ mid.acts + 1 = omega (arith, c.add-2.ensures.total, c.add.ensures.total, c.audit.ensures.total, c.from.ensures) in
    let started : c.started-before.result ≡ mid.machine.image.started = c.started-before.ensures ∙ sym (started_same g.N.Named.code g.N.Named.budget g.N.Named.pick old c.args.process part c.self.inside.budget c.perform_most-entered.result c.perform_most-entered.new.machine i.1 i.0 going held alone i.2 i.3 first c.perform_most-entered.ensures.performs) in
    let is : written ≡ new =
    ap (λ (k : ℕ). record written { acts = k }) same_acts
    ∙ entered_is mid c.args.process c.perform_most-entered.result.last c.perform_most-entered.new.machine c.push.new.self (mid.acts + 1) c.started-before.result
    c.join_queue.new.ready.takes c.self.inside.leaves.total c.join_queue.new.ready.waiting out n.0 started
    (c.join_queue.ensures.waiting ∙ ap (λ (ws : List ℕ). ws ++ joining c.started-before.result c.perform_most-entered.new.machine.image c.args.process c.perform_most-entered.new.machine.released) kept) refl
    (c.join_queue.ensures.takes ∙ takes) refl in (
      subst (Stands g.N.Named.code g.N.Named.budget) (sym is)
          (stands_after g.N.Named.code g.N.Named.budget mid c.args.process c.perform_most-entered.result.last new x),
      i.1,
      i.2,
      i.3,
      λ k takes. ap (λ r. g.P.Rule.pick r k takes) c.join_queue.ensures.rule ∙ ap (λ r. g.P.Rule.pick r k takes) same.rule ∙ i.4 k takes,
      omega (arith, i.5, same.room, c.join_queue.ensures.room),
      omega (arith, i.6, c.push_many.ensures.room, c.push.ensures.room),
      omega (arith, ap length whole, c.perform_most-entered.ensures.size, ap length c.deref_mut.ensures.value, i.7),
      c.lacks-self-inside.ensures ∙ sym (lacked_after mid.machine c.perform_most-entered.new.machine c.args.process (c.self.inside.budget - mid.spent) c.perform_most-entered.result.last (goes_on g.N.Named.budget mid st.going).lacked performs),
      i.9,
      λ on. went_on mid.machine c.perform_most-entered.new.machine c.args.process (c.self.inside.budget - mid.spent) c.perform_most-entered.result.last (goes_on g.N.Named.budget mid st.going).lacked performs (goes_on g.N.Named.budget mid st.going).end (c.went-self-inside.ensures on),
    )

pub returns-clause-acts : goal.returns-clause-acts
returns-clause-acts g c =
    let old : Running = record {
      machine = c.self.inside.machine;
      waiting = c.self.inside.ready.waiting;
      takes = c.self.inside.ready.takes;
      out = c.self.inside.out.items;
      schedule = c.self.inside.schedule;
      spent = c.self.inside.spent;
      acts = c.self.inside.acts.total;
      leaves = c.self.inside.leaves.total;
    } in
    let i = c.self.invariant in
    let going : answer_of g.N.Named.budget old ≡ None = subst (λ (s : Running). answer_of g.N.Named.budget s ≡ None) (sym c.self.view_is) c.requires.going in
    let held : 1 ≤ holder_of c.self.inside.out.items c.args.process = subst (λ (s : Running). 1 ≤ holder_of s.out c.args.process) (sym c.self.view_is) c.requires.out in
    let notes : List Letter = c.perform_most-entered.new.notes in
    let most = c.args.most in
    let part : List Letter = take most notes in
    let alone : 1 < length part → c.self.inside.ready.waiting ≡ [] =
    λ h. subst (λ (s : Running). s.waiting ≡ []) (sym c.self.view_is)
    (c.requires.alone (omega (arith, h, first_few notes most))) in
    let first = one_picked g.P.Rule.pick g.N.Named.pick c.self.inside.ready.rule g.met.P.Rule.within i.4 in
    let s : ScheduleModel = c.push_many.new.self in
    let whole = with_items_is c.self.inside.notes notes (c.perform_most-entered.ensures.size ∙ c.deref_mut.ensures.len) in
    let grown : Grown c.self.inside.schedule c.args.process (take c.perform_most-entered.result.entries part) s =
    grown_by c.self.inside.schedule s c.args.process c.deref.result.now notes most c.perform_most-entered.result.entries (c.deref.ensures.value ∙ whole)
    c.perform_most-entered.ensures.performs.few c.push_many.ensures.added c.push_many.ensures.letters c.push_many.ensures.none in
    let mid : Running = turned old c.perform_most-entered.result.entries c.perform_most-entered.result.operators c.perform_most-entered.ensures.performs.between s in
    let st : StandsOut g.N.Named.code g.N.Named.budget c.args.process mid = stands_then g.N.Named.code g.N.Named.budget g.N.Named.pick old c.args.process part c.self.inside.budget c.perform_most-entered.result c.perform_most-entered.new.machine i.1 i.0 going held alone i.2 i.3 first c.perform_most-entered.ensures.performs s grown in
    let performs : MachinePerforms c.perform_most-entered.ensures.performs.between c.args.process (c.self.inside.budget - mid.spent) c.perform_most-entered.result.last c.perform_most-entered.new.machine = last_performs g.N.Named.code g.N.Named.budget g.N.Named.pick old c.args.process part c.self.inside.budget c.perform_most-entered.result c.perform_most-entered.new.machine i.1 i.0 going held alone i.2 i.3 first c.perform_most-entered.ensures.performs s grown in
    let same = same_queue c.self.inside.ready c.take_again.new.self (counted_times c.perform_most-entered.result.entries c.self.inside.ready.takes) c.take_again.ensures.counted in
    let kept = same.waiting in
    let takes = same.takes in
    let done : done_is_action c.perform_most-entered.result.last.done ≡ true = sym c.is_action.ensures ∙ c.if-not-is_action.false in
    let new : Running = entered mid c.args.process c.perform_most-entered.result.last c.perform_most-entered.new.machine c.push.new.self (mid.acts + 1) in
    let acts : ActsOnce g.N.Named.budget mid c.args.process c.perform_most-entered.result.last new =
    entered_once g.N.Named.budget mid c.args.process c.perform_most-entered.result.last c.perform_most-entered.new.machine c.push.new.self (mid.acts + 1)
    c.self.inside.budget i.2 performs done c.push.ensures.added
    (letter_noted c.perform_most-entered.result.last.done done s.letters notes most c.perform_most-entered.result.entries c.index.result.now c.perform_most-entered.new.machine.letter
    c.push.new.self.letters c.perform_most-entered.ensures.performs.few (c.index.ensures ∙ ap (λ (ls : List Letter). get_or ls c.perform_most-entered.result.entries c.index.result.now) whole)
    c.perform_most-entered.ensures.performs.last c.push.ensures.letters) refl in
    let x : Given g.N.Named.code g.N.Named.budget mid c.args.process c.perform_most-entered.result.last new =
    given g.N.Named.code g.N.Named.budget mid c.args.process c.perform_most-entered.result.last new i.1 st.stands st.going st.out c.perform_most-entered.ensures.valid acts in
    let n = number g.N.Named.code g.N.Named.budget g.N.Named.pick old c.args.process part c.self.inside.budget c.perform_most-entered.result c.perform_most-entered.new.machine i.1 i.0 going held alone i.2 i.3 first c.perform_most-entered.ensures.performs in
    let out = slice_set c.self.inside.out.items (c.args.process - 1) 0 in
    let written : Running = record {
      machine = c.perform_most-entered.new.machine;
      waiting = c.join_queue.new.ready.waiting;
      takes = c.join_queue.new.ready.takes;
      out = out;
      schedule = c.push.new.self;
      spent = c.self.inside.spent + c.perform_most-entered.result.operators + c.perform_most-entered.result.last.plain + 1;
      acts = c.add-2.new.self.total;
      leaves = c.self.inside.leaves.total;
    } in
    let same_acts : c.add-2.new.self.total ≡ mid.acts + 1 = omega (arith, c.add-2.ensures.total, c.add.ensures.total, c.audit.ensures.total, c.from.ensures) in
    let started : c.started-before.result ≡ mid.machine.image.started = c.started-before.ensures ∙ sym (started_same g.N.Named.code g.N.Named.budget g.N.Named.pick old c.args.process part c.self.inside.budget c.perform_most-entered.result c.perform_most-entered.new.machine i.1 i.0 going held alone i.2 i.3 first c.perform_most-entered.ensures.performs) in
    let is : written ≡ new =
    ap (λ (k : ℕ). record written { acts = k }) same_acts
    ∙ entered_is mid c.args.process c.perform_most-entered.result.last c.perform_most-entered.new.machine c.push.new.self (mid.acts + 1) c.started-before.result
    c.join_queue.new.ready.takes c.self.inside.leaves.total c.join_queue.new.ready.waiting out n.0 started
    (c.join_queue.ensures.waiting ∙ ap (λ (ws : List ℕ). ws ++ joining c.started-before.result c.perform_most-entered.new.machine.image c.args.process c.perform_most-entered.new.machine.released) kept) refl
    (c.join_queue.ensures.takes ∙ takes) refl in (
      c.perform_most-entered.result.last,
      subst (λ (z : Running). ActsMany g.N.Named.pick g.N.Named.budget z c.args.process c.perform_most-entered.result.entries c.perform_most-entered.result.last written) c.self.view_is (record {
        between = mid;
        acts = acts_on g.N.Named.code g.N.Named.budget g.N.Named.pick old c.args.process part c.self.inside.budget c.perform_most-entered.result c.perform_most-entered.new.machine i.1 i.0 going held alone i.2 i.3 first c.perform_most-entered.ensures.performs s grown;
        last = subst (ActsOnce g.N.Named.budget mid c.args.process c.perform_most-entered.result.last) (sym is) acts;
      }),
      c.answer_to-answer.ensures,
    )

pub returns-clause-count : goal.returns-clause-count
returns-clause-count g c =
    let done : done_is_action c.perform_most-entered.result.last.done ≡ true = sym c.is_action.ensures ∙ c.if-not-is_action.false in
    subst (λ a. IsActed a (c.args.seat.now.count + c.perform_most-entered.result.entries) (c.args.seat.now.count + c.from-2.result + 1)) (sym c.answer_to-answer.ensures)
    (subst (λ (k : ℕ). IsActed (answer_to c.perform_most-entered.result.last.done) (c.args.seat.now.count + c.perform_most-entered.result.entries) (c.args.seat.now.count + k + 1)) (sym c.from-2.ensures)
    (counts_one c.perform_most-entered.result.last.done (c.args.seat.now.count + c.perform_most-entered.result.entries) done))

pub returns-then-not-is_action-clause-fits : goal.returns-then-not-is_action-clause-fits
returns-then-not-is_action-clause-fits g c =
    let old : Running = record {
      machine = c.self.inside.machine;
      waiting = c.self.inside.ready.waiting;
      takes = c.self.inside.ready.takes;
      out = c.self.inside.out.items;
      schedule = c.self.inside.schedule;
      spent = c.self.inside.spent;
      acts = c.self.inside.acts.total;
      leaves = c.self.inside.leaves.total;
    } in
    let i = c.self.invariant in
    let going : answer_of g.N.Named.budget old ≡ None = subst (λ (s : Running). answer_of g.N.Named.budget s ≡ None) (sym c.self.view_is) c.requires.going in
    let held : 1 ≤ holder_of c.self.inside.out.items c.args.process = subst (λ (s : Running). 1 ≤ holder_of s.out c.args.process) (sym c.self.view_is) c.requires.out in
    let notes : List Letter = c.perform_most-entered.new.notes in
    let most = c.args.most in
    let part : List Letter = take most notes in
    let alone : 1 < length part → c.self.inside.ready.waiting ≡ [] =
    λ h. subst (λ (s : Running). s.waiting ≡ []) (sym c.self.view_is)
    (c.requires.alone (omega (arith, h, first_few notes most))) in
    let first = one_picked g.P.Rule.pick g.N.Named.pick c.self.inside.ready.rule g.met.P.Rule.within i.4 in
    omega (arith, c.args.seat.now.counted, c.audit.ensures.bound, i.0.acts, spent_few g.N.Named.code g.N.Named.budget g.N.Named.pick old c.args.process part c.self.inside.budget c.perform_most-entered.result c.perform_most-entered.new.machine i.1 i.0 going held alone i.2 i.3 first c.perform_most-entered.ensures.performs, entries_few g.N.Named.code g.N.Named.budget g.N.Named.pick old c.args.process part c.self.inside.budget c.perform_most-entered.result c.perform_most-entered.new.machine i.1 i.0 going held alone i.2 i.3 first c.perform_most-entered.ensures.performs, operators_few g.N.Named.code g.N.Named.budget g.N.Named.pick old c.args.process part c.self.inside.budget c.perform_most-entered.result c.perform_most-entered.new.machine i.1 i.0 going held alone i.2 i.3 first c.perform_most-entered.ensures.performs, i.3, budget_is, c.from.ensures)

pub returns-clause-fits : goal.returns-clause-fits
returns-clause-fits g c =
    let old : Running = record {
      machine = c.self.inside.machine;
      waiting = c.self.inside.ready.waiting;
      takes = c.self.inside.ready.takes;
      out = c.self.inside.out.items;
      schedule = c.self.inside.schedule;
      spent = c.self.inside.spent;
      acts = c.self.inside.acts.total;
      leaves = c.self.inside.leaves.total;
    } in
    let i = c.self.invariant in
    let going : answer_of g.N.Named.budget old ≡ None = subst (λ (s : Running). answer_of g.N.Named.budget s ≡ None) (sym c.self.view_is) c.requires.going in
    let held : 1 ≤ holder_of c.self.inside.out.items c.args.process = subst (λ (s : Running). 1 ≤ holder_of s.out c.args.process) (sym c.self.view_is) c.requires.out in
    let notes : List Letter = c.perform_most-entered.new.notes in
    let most = c.args.most in
    let part : List Letter = take most notes in
    let alone : 1 < length part → c.self.inside.ready.waiting ≡ [] =
    λ h. subst (λ (s : Running). s.waiting ≡ []) (sym c.self.view_is)
    (c.requires.alone (omega (arith, h, first_few notes most))) in
    let first = one_picked g.P.Rule.pick g.N.Named.pick c.self.inside.ready.rule g.met.P.Rule.within i.4 in
    omega (arith, c.args.seat.now.counted, c.audit.ensures.bound, i.0.acts, spent_few g.N.Named.code g.N.Named.budget g.N.Named.pick old c.args.process part c.self.inside.budget c.perform_most-entered.result c.perform_most-entered.new.machine i.1 i.0 going held alone i.2 i.3 first c.perform_most-entered.ensures.performs, entries_few g.N.Named.code g.N.Named.budget g.N.Named.pick old c.args.process part c.self.inside.budget c.perform_most-entered.result c.perform_most-entered.new.machine i.1 i.0 going held alone i.2 i.3 first c.perform_most-entered.ensures.performs, operators_few g.N.Named.code g.N.Named.budget g.N.Named.pick old c.args.process part c.self.inside.budget c.perform_most-entered.result c.perform_most-entered.new.machine i.1 i.0 going held alone i.2 i.3 first c.perform_most-entered.ensures.performs, i.3, budget_is, c.from.ensures)
