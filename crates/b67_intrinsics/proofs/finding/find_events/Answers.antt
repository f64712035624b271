use Rattle.std.proofs.Common.{◌≡◌, ◌+◌, ◌∷◌, [], ◌&&◌, nat_le, true, false, sym, ap, subst, ◌∙◌, ℕ, List, All, length, take, Ok, Err, arith}
use Rattle.std.proofs.lemmas.List.{length-set}
use Rattle.std.proofs.lemmas.List.Elements.{All-nil, All-cons, All-append}
use Rattle.b67_word.specs.declared.Place.{Place}
use Rattle.b67_store.specs.Store.{Stacks}
use Rattle.b67_events.specs.Events.{is_open}
use Rattle.b67_table.specs.Limits.{most_events}
use Rattle.b67_table.specs.Look.{look_seen}
use Rattle.b67_reach.specs.declared.Stop.{Stop}
use Rattle.b67_reach.specs.Answers.{looked}
use Rattle.b67_intrinsics.specs.Called.{IntrinsicLeads, arguments, mark_below, several_tests}
use Rattle.b67_intrinsics.proofs.ManyEvents.{AreFound, found_first, found_next, put_after, within_most, not_several, one_stops, chain_stops, all_found, leads_exit}
use Rattle.b67_intrinsics.proofs.finding.find_events.Goals as goal

pub finding-init : goal.finding-init
finding-init g c =
    record {
      size = c.requires.room;
      found = λ img s e. found_first img c.args.regs.now (arguments (g.C.Core.stacks c.args.core.now) c.args.regs.now);
      there = All-nil (λ (place : Place). is_open place c.args.kernel.now.events ≡ true);
    }

pub finding-preserved : goal.finding-preserved
finding-preserved g c =
    let r = c.args.regs.now in
    let words = arguments (g.C.Core.stacks c.args.core.now) r in
    let n = c.finding.n in
    let places = c.finding.places in
    let at = c.in_ok-place.place in
    let few = within_most c.arguments-count.result (sym c.is_several.ensures ∙ c.if-not-is_several.false) in
    let put = put_after places n at (omega (arith, few.1, c.finding-test.true, c.finding.invariant.size)) in
    record {
      size = length-set places n at ∙ c.finding.invariant.size;
      found = λ img s e.
          subst (λ (ps : List Place). AreFound img r words ps (n + 1)) (sym put)
          (found_next img r words (take n places) n at (c.finding.invariant.found img s e) (c.in_ok-place.ensures.told img s e));
      there = subst (All (λ (place : Place). is_open place c.args.kernel.now.events ≡ true)) (sym put)
          (All-append (λ (place : Place). is_open place c.args.kernel.now.events ≡ true) (take n places) (at ∷ []) c.finding.invariant.there
          (All-cons (λ (place : Place). is_open place c.args.kernel.now.events ≡ true) at [] c.in_ok-place.ensures.there
          (All-nil (λ (place : Place). is_open place c.args.kernel.now.events ≡ true))));
    }

pub returns-then-not-is_several-clause-leads : goal.returns-then-not-is_several-clause-leads
returns-then-not-is_several-clause-leads g c = λ img s e.
    let r = c.args.regs.now in
    let m = c.args.mark.now in
    let test : nat_le 1 (length (arguments img.stacks r)) && nat_le (length (arguments img.stacks r)) most_events ≡ false =
    ap (λ (n : ℕ). nat_le 1 n && nat_le n most_events) (ap (λ (st : Stacks). length (arguments st r)) s ∙ sym c.arguments-count.ensures)
    ∙ sym c.is_several.ensures ∙ c.if-not-is_several.true in
    subst (λ (k : Stop). IntrinsicLeads {A = List Place} img (several_tests r m (arguments img.stacks r)) (Err k)) (sym c.invalid.ensures)
    (not_several img r m (arguments img.stacks r) test)

pub returns-in_err-place-clause-leads : goal.returns-in_err-place-clause-leads
returns-in_err-place-clause-leads g c = λ img s e.
    let r = c.args.regs.now in
    let m = c.args.mark.now in
    let words = arguments (g.C.Core.stacks c.args.core.now) r in
    let some : nat_le 1 (length words) && nat_le (length words) most_events ≡ true =
    ap (λ (n : ℕ). nat_le 1 n && nat_le n most_events) (sym c.arguments-count.ensures) ∙ sym c.is_several.ensures ∙ c.if-not-is_several.false in
    let stop = c.in_err-place.field-0.0 in
    leads_exit img (several_tests r m (arguments img.stacks r)) c.from_residual.result c.finding.places stop c.from_residual.ensures.1
    (subst (λ (st : Stacks). IntrinsicLeads {A = List Place} img (several_tests r m (arguments st r)) (Err stop)) (sym s)
    (one_stops img r m words some (take c.finding.n c.finding.places) c.finding.n (c.finding.invariant.found img s e) stop (c.in_err-place.ensures.told img s e)))

pub returns-in_err-chained-clause-leads : goal.returns-in_err-chained-clause-leads
returns-in_err-chained-clause-leads g c = λ img s e.
    let r = c.args.regs.now in
    let m = c.args.mark.now in
    let words = arguments (g.C.Core.stacks c.args.core.now) r in
    let some : nat_le 1 (length words) && nat_le (length words) most_events ≡ true =
    ap (λ (n : ℕ). nat_le 1 n && nat_le n most_events) (sym c.arguments-count.ensures) ∙ sym c.is_several.ensures ∙ c.if-not-is_several.false in
    let stop = c.in_err-chained.field-0.0 in
    leads_exit img (several_tests r m (arguments img.stacks r)) c.from_residual-in_err-chained.result c.finding.places stop c.from_residual-in_err-chained.ensures.1
    (subst (λ (st : Stacks). IntrinsicLeads {A = List Place} img (several_tests r m (arguments st r)) (Err stop)) (sym s)
    (chain_stops img r m words some (take c.finding.n c.finding.places) c.finding.n (c.finding.invariant.found img s e)
    (omega (arith, c.finding-test.false, c.arguments-count.ensures)) stop
    (c.in_err-chained.ensures.value ∙ ap (λ (st : Stacks). looked (look_seen st (mark_below r m))) (sym s))))

pub returns-clause-leads : goal.returns-clause-leads
returns-clause-leads g c = λ img s e.
    let r = c.args.regs.now in
    let m = c.args.mark.now in
    let words = arguments (g.C.Core.stacks c.args.core.now) r in
    let some : nat_le 1 (length words) && nat_le (length words) most_events ≡ true =
    ap (λ (n : ℕ). nat_le 1 n && nat_le n most_events) (sym c.arguments-count.ensures) ∙ sym c.is_several.ensures ∙ c.if-not-is_several.false in
    let n = c.finding.n in
    let all : n ≡ c.arguments-count.result = omega (arith, c.finding-test.false, c.finding.auto) in
    subst (λ (st : Stacks). IntrinsicLeads img (several_tests r m (arguments st r)) (Ok (take c.arguments-count.result c.finding.places))) (sym s)
    (subst (λ (k : ℕ). IntrinsicLeads img (several_tests r m words) (Ok (take k c.finding.places))) all
    (all_found img r m words some (take n c.finding.places) n (c.finding.invariant.found img s e) (omega (arith, c.finding-test.false, c.arguments-count.ensures))
    c.in_ok-chained.field-0 (c.in_ok-chained.ensures.value ∙ ap (λ (st : Stacks). looked (look_seen st (mark_below r m))) (sym s))))

pub returns-clause-there : goal.returns-clause-there
returns-clause-there g c =
    let all : c.finding.n ≡ c.arguments-count.result = omega (arith, c.finding-test.false, c.finding.auto) in
    subst (λ (k : ℕ). All (λ (place : Place). is_open place c.args.kernel.now.events ≡ true) (take k c.finding.places)) all c.finding.invariant.there

pub returns-clause-few : goal.returns-clause-few
returns-clause-few g c = within_most c.arguments-count.result (sym c.is_several.ensures ∙ c.if-not-is_several.false)
