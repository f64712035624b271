-- A turn of one processor on a plant: a take, and the act of who was taken.
use Rattle.std.proofs.Common.{◌≡◌, ◌≢◌, refl, ap, subst, ◌∙◌, ℕ, ◌+◌, ◌-◌, ◌≤◌, ◌<◌, Bool, true, false, [], Option, Some, None, arith}
use Rattle.b67_segment.specs.declared.code.Code.{Code}
use Rattle.b67_limits.specs.declared.TheConstants.{MOST_BUDGET}
use Rattle.b67_table.specs.Sound.{Sound}
use Rattle.b67_action.specs.Able.{one_if}
use Rattle.b67_machine.specs.declared.entry.Performed.{Performed}
use Rattle.b67_machine.specs.declared.replay.Replayed.{Replayed}
use Rattle.b67_stands.specs.Running.{Running, answer_of}
use Rattle.b67_stands.specs.Placing.{holder_of}
use Rattle.b67_stands.specs.Picked.{Pick}
use Rattle.b67_stands.specs.Stands.{Stands}
use Rattle.b67_stands.specs.Calls.{TakesOne, done_is_action, ActsOnce}
use Rattle.b67_stands.specs.Alone.{ByOne, KeepsByOne}
use Rattle.b67_stands.specs.Turns.{ActsOn, ActsMany, TakenByOne}
use Rattle.b67_stands.proofs.Alone.{turns_keep_by_one}
use Rattle.b67_stands.proofs.Turns.{turns_keep_on}
use Rattle.b67_stands.proofs.Ends.{goes_on}
use Rattle.b67_plant.specs.Calls.{Picks}

-- how many operators are left of the budget, none where the run has ended
abbrev pub left_by : Option Replayed → ℕ → ℕ → ℕ
left_by None budget spent = budget - spent
left_by (Some answer) budget spent = 0

abbrev pub left_of : ℕ → Running → ℕ
left_of budget s = left_by (answer_of budget s) budget s.spent

left_going : (o : Option Replayed) (budget spent : ℕ) → o ≡ None → left_by o budget spent ≡ budget - spent
left_going None budget spent e = refl
left_going (Some a) budget spent e = cc

-- it is less than what was left, where the run has ended or operators were performed
less_by : (o : Option Replayed) (budget spent old : ℕ) → old < budget → (o ≡ None → old < spent) → left_by o budget spent < budget - old
less_by None budget spent old less more = omega (arith, less, more refl)
less_by (Some a) budget spent old less more = omega (arith, less)

-- where somebody waits somebody is picked
pub nobody_picked : (pick : Pick) (me : ℕ) (old : Running) (o : Option ℕ) (new : Running) → old.waiting ≢ [] → o ≡ None → Picks pick me old o new → ⊥
nobody_picked pick me old None new some e k = some k.0
nobody_picked pick me old (Some p) new some e k = cc

module _ (code : Code) (budget : ℕ) (pick : Pick) (old between : Running) (p : ℕ) (sound : Sound code) (small : budget ≤ MOST_BUDGET)
    (stands : Stands code budget old) (one : ByOne code budget pick old) (going : answer_of budget old ≡ None)
    (takes_one : TakesOne pick 1 old p between) where
  module _ (new : Running) (once : (performed : Performed) × ActsOnce budget between p performed new) where
    keeps : KeepsByOne code budget pick once.0 new
    keeps = turns_keep_by_one.turn code budget pick old between new 1 p once.0 sound small stands one going takes_one once.1

    pub turn_by_one : ByOne code budget pick new
    turn_by_one = keeps.by_one

    spent_more : (b : Bool) → done_is_action once.0.done ≡ b → answer_of budget new ≡ None → old.spent < new.spent
    spent_more false e none = absurd (keeps.ended e none)
    spent_more true e none =
        let same : between.spent ≡ old.spent = ap (λ (s : Running). s.spent) takes_one.new_is in
        let one_more : new.spent ≡ between.spent + once.0.plain + 1 = once.1.spent ∙ ap (λ (x : Bool). between.spent + once.0.plain + one_if x) e in
        omega (arith, same, one_more)

    pub turn_less : left_of budget new < left_of budget old
    turn_less =
        let was : left_of budget old ≡ budget - old.spent = left_going (answer_of budget old) budget old.spent going in
        let less = less_by (answer_of budget new) budget new.spent old.spent (goes_on budget old going).less (spent_more (done_is_action once.0.done) refl) in
        omega (arith, was, less)

-- many turns of one process
module _ (code : Code) (budget : ℕ) (pick : Pick) (old taken : Running) (p : ℕ) (sound : Sound code) (small : budget ≤ MOST_BUDGET)
    (stands : Stands code budget old) (one : ByOne code budget pick old) (going : answer_of budget old ≡ None)
    (takes_one : TakesOne pick 1 old p taken) (mine : holder_of taken.out p ≡ 1) (turns : ℕ) (performed : Performed) (new : Running) (many : ActsMany pick budget taken p turns performed new) where
  begun : TakenByOne code budget pick 1 p taken
  begun = record { before = old; stands = stands; by_one = one; going = going; takes = takes_one }

  by_first : ActsOn pick budget 1 p taken turns many.between
  by_first = subst (λ (me : ℕ). ActsOn pick budget me p taken turns many.between) mine many.acts

  last : TakenByOne code budget pick 1 p many.between
  last = turns_keep_on.by_one code budget pick 1 p turns taken many.between sound small (omega arith) begun by_first

  pub turns_by_one : ByOne code budget pick new
  turns_by_one =
      turn_by_one code budget pick last.before many.between p sound small last.stands last.by_one last.going last.takes new (performed, many.last)

  pub turns_less : left_of budget new < left_of budget old
  turns_less =
      let less = turn_less code budget pick last.before many.between p sound small last.stands last.by_one last.going last.takes new (performed, many.last) in
      let was : left_of budget old ≡ budget - old.spent = left_going (answer_of budget old) budget old.spent going in
      let then_was : left_of budget last.before ≡ budget - last.before.spent = left_going (answer_of budget last.before) budget last.before.spent last.going in
      let same : taken.spent ≡ old.spent = ap (λ (s : Running). s.spent) takes_one.new_is in
      let same_last : many.between.spent ≡ last.before.spent = ap (λ (s : Running). s.spent) last.takes.new_is in
      let more = turns_keep_on.spent budget pick 1 p turns taken many.between by_first in
      omega (arith, less, was, then_was, same, same_last, more)
