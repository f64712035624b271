use Rattle.std.proofs.Common.{◌≡◌, ℕ, ◌<◌, eqb, Bool, true, false, ◌++◌, length, take, drop, refl, sym, ap, ◌∙◌, subst, arith}
use Rattle.std.proofs.lemmas.Bool.{and_parts}
use Rattle.std.proofs.lemmas.List.{take-append-drop}
use Rattle.b67_word.specs.declared.Place.{Place}
use Rattle.b67_events.specs.Kept.{stands_in, is_same, without_first, rank_of, rank_at, below, AreInOrder}
use Rattle.b67_events.specs.declared.Queue.TheVariants.{Waiters}
use Rattle.b67_events.specs.declared.Waiting.{Waiting}
use Rattle.b67_events.proofs.Joined.{one}
use Rattle.b67_events.proofs.Order.{rank_by_stand, first_from, none_from, none_first}
use Rattle.b67_events.proofs.queues.leave.Goals as goal

-- who is the same has the rank of the list
ranked : (p : ℕ) (at : Place) (w : Waiting) → is_same (one p at) w ≡ true → rank_of w ≡ rank_at Waiters at
ranked p at w h = rank_by_stand Waiters at w (and_parts (eqb p w.process) (stands_in Waiters at w) h).1

pub leaving-init : goal.leaving-init
leaving-init c =
    let ws = c.args.waiting.now.items in
    let at = c.args.at in
    let p = c.args.process in
    let r = rank_at Waiters at in
    let u : Waiting → Bool = is_same (one p at) in
    let place : c.below-from.result ≡ below r ws = c.below-from.ensures ∙ ap (λ n. below n ws) c.rank_at.ensures in
    record {
      same = refl;
      from = omega (arith, place);
      rest = first_from u r (ranked p at) ws ∙ ap (λ i. take i ws ++ without_first u (drop i ws)) (sym place);
    }

pub returns-then-not-is_in-clause-rest : goal.returns-then-not-is_in-clause-rest
returns-then-not-is_in-clause-rest c =
    let vs = c.leaving.waiting.items in
    let at = c.args.at in
    let p = c.args.process in
    let r = rank_at Waiters at in
    let u : Waiting → Bool = is_same (one p at) in
    let i = c.leaving.index in
    let inv = c.leaving.invariant in
    let order : AreInOrder vs = subst AreInOrder (sym inv.same) c.requires in
    let short : i < length vs = omega (arith, ap length inv.same, c.leaving-test.true, c.len-index-end.ensures, c.args.waiting.now.ok) in
    let out : stands_in Waiters at c.index.result.now ≡ false = sym c.is_in.ensures ∙ c.if-not-is_in.true in
    let none = none_first u r (ranked p at) (drop i vs) (none_from Waiters at i vs c.index.result.now (omega (arith, c.well_formed)) order inv.from short c.index.ensures out) in
    sym (inv.rest ∙ ap (λ ys. take i vs ++ ys) none ∙ take-append-drop i vs) ∙ ap (without_first u) inv.same
