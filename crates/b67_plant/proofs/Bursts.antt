-- Entries of a process one after another, by processors that share a plant.
use Rattle.std.proofs.Common.{◌≡◌, ◌≢◌, ◌⊎◌, inl, inr, refl, sym, ap, subst, ◌∙◌, ℕ, zero, suc, ◌+◌, ◌≤◌, Bool, true, false, List, [], ◌∷◌, length, Some, None, arith}
use Rattle.std.specs.Prelude.{slice_get, slice_set}
use Rattle.std.proofs.Math.Decide.{ℕ_discrete}
use Rattle.b67_list.specs.Numbered.{set_numbered}
use Rattle.b67_segment.specs.declared.code.Code.{Code}
use Rattle.b67_table.specs.Limits.{most_processes}
use Rattle.b67_table.specs.Sound.{Sound}
use Rattle.b67_action.specs.Able.{one_if, able_in}
use Rattle.b67_joining.proofs.Times.{one_at_most}
use Rattle.b67_machine.specs.declared.entry.Performed.{Performed}
use Rattle.b67_machine.specs.Kept.{or_none}
use Rattle.b67_processors.specs.declared.Acted.{Acted}
use Rattle.b67_stands.specs.Running.{Running, answer_of}
use Rattle.b67_stands.specs.Picked.{Pick}
use Rattle.b67_stands.specs.Placing.{holder_of}
use Rattle.b67_stands.specs.Stands.{Stands}
use Rattle.b67_stands.specs.Calls.{TakesOne, done_is_action, Records}
use Rattle.b67_stands.specs.Turns.{ActsOn, ActsAgain, stay, go, ActsMany, StandsOut}
use Rattle.b67_stands.specs.Shared.{Shared, begin, take as takes, land as lands, run as runs, act as acts_once, leave as leaves, IsFree, with_acts}
use Rattle.b67_stands.proofs.Firsts.{none_out}
use Rattle.b67_stands.proofs.Places.{got_times, some_is, holder_own, holder_other}
use Rattle.b67_stands.proofs.Taking.{taken_number}
use Rattle.b67_stands.proofs.Acting.{acts_keep}
use Rattle.b67_stands.proofs.Turns.{stands_on, stands_taken}
use Rattle.b67_plant.specs.Calls.{ActsThen, acts_in}
use Rattle.b67_plant.proofs.Entered.{held_number}
use Rattle.b67_plant.proofs.Made.{no_acts, refused_none, action_counts, counted_action}
use Rattle.b67_plant.proofs.Sharing.{as_it_was}

-- ---- numbers

-- acts of a processor twice are those of both together
acts_twice : (acts : List ℕ) (me n m : ℕ) → with_acts (with_acts acts me n) me m ≡ with_acts acts me (n + m)
acts_twice acts zero n m = refl
acts_twice acts (suc k) n m = at acts k
  where
    at : (xs : List ℕ) (k : ℕ)
        → slice_set (slice_set xs k (or_none (slice_get xs k) + n)) k (or_none (slice_get (slice_set xs k (or_none (slice_get xs k) + n)) k) + m)
        ≡ slice_set xs k (or_none (slice_get xs k) + (n + m))
    at [] k = refl
    at (x ∷ xs) zero = let same : x + n + m ≡ x + (n + m) = omega arith in ap (λ (y : ℕ). y ∷ xs) same
    at (x ∷ xs) (suc k) = ap (λ (ys : List ℕ). x ∷ ys) (at xs k)

-- ---- who is out with a processor

-- a number that was set is that, or there is no such place
set_either : (out : List ℕ) (r v : ℕ) → (holder_of (set_numbered out r v) r ≡ v) ⊎ (holder_of (set_numbered out r v) r ≡ holder_of out r)
set_either out zero v = inr refl
set_either [] (suc k) v = inr refl
set_either (x ∷ out) (suc zero) v = inl refl
set_either (x ∷ out) (suc (suc k)) v = set_either out (suc k) v

-- who is out with another processor than the one that was set was so before
kept_holder : (out : List ℕ) (r v x me : ℕ) → v ≢ me → holder_of (set_numbered out r v) x ≡ me → holder_of out x ≡ me
kept_holder out r v x me other e = by (ℕ_discrete x r)
  where
    own : (holder_of (set_numbered out r v) r ≡ v) ⊎ (holder_of (set_numbered out r v) r ≡ holder_of out r) → x ≡ r → holder_of out x ≡ me
    own (inl f) is = absurd (other (sym f ∙ sym (ap (holder_of (set_numbered out r v)) is) ∙ e))
    own (inr f) is = ap (holder_of out) is ∙ sym f ∙ sym (ap (holder_of (set_numbered out r v)) is) ∙ e

    by : Dec (x ≡ r) → holder_of out x ≡ me
    by (yes is) = own (set_either out r v) is
    by (no h) = sym (holder_other out r x v h) ∙ e

-- who is out with a processor with which nobody was is the one that was taken
taken_is : (out : List ℕ) (r me x : ℕ) → ((q : ℕ) → holder_of out q ≢ me) → holder_of (set_numbered out r me) x ≡ me → x ≡ r
taken_is out r me x free e = by (ℕ_discrete x r)
  where
    by : Dec (x ≡ r) → x ≡ r
    by (yes is) = is
    by (no h) = absurd (free x (sym (holder_other out r x me h) ∙ e))

-- an act leaves nobody out who was not
acted_holder : (b : Bool) (old : Running) (r : ℕ) (new : Running) → Records b old r new → (x me : ℕ) → 1 ≤ me → holder_of new.out x ≡ me → holder_of old.out x ≡ me
acted_holder true old r new k x me one e =
    kept_holder old.out r 0 x me (λ z. omega (arith, z, one)) (sym (ap (λ (out : List ℕ). holder_of out x) k.out) ∙ e)
acted_holder false old r new k x me one e = sym (ap (λ (out : List ℕ). holder_of out x) k.out) ∙ e

-- where its process is no more out with it, an action was performed
is_acted : (b : Bool) (old : Running) (p : ℕ) (new : Running) → Records b old p new → (me : ℕ) → holder_of old.out p ≡ me → holder_of new.out p ≢ me → b ≡ true
is_acted true old p new k me mine gone = refl
is_acted false old p new k me mine gone = absurd (gone (ap (λ (out : List ℕ). holder_of out p) k.out ∙ mine))

-- and then it is out with nobody
is_back : (b : Bool) (old : Running) (p : ℕ) (new : Running) → b ≡ true → Records b old p new → 1 ≤ p → p ≤ length old.out → holder_of new.out p ≡ 0
is_back true old p new e k one within = ap (λ (out : List ℕ). holder_of out p) k.out ∙ holder_own old.out p 0 one within
is_back false old p new e k one within = cc

module _ (code : Code) (budget : ℕ) (pick : Pick) (processors : ℕ) where
  -- at most one process is out with a processor
  pub only_out : (acts : List ℕ) (s : Running) → Shared code budget pick processors acts s → (me p q : ℕ) → 1 ≤ me → holder_of s.out p ≡ me → holder_of s.out q ≡ me → p ≡ q
  only_out acts s (begin first) me p q one e f = absurd (omega (arith, one, e, ap (λ (out : List ℕ). holder_of out p) first.out ∙ none_out most_processes p))
  only_out acts s (takes {old = old} by r shared going some most free t) me p q one e f = with (only_out acts old shared me p q one) (ℕ_discrete by me)
    where
      at : (x : ℕ) → holder_of s.out x ≡ me → holder_of (set_numbered old.out r by) x ≡ me
      at x h = sym (ap (λ (y : Running). holder_of y.out x) t.new_is) ∙ h

      with : (holder_of old.out p ≡ me → holder_of old.out q ≡ me → p ≡ q) → Dec (by ≡ me) → p ≡ q
      with before (yes same) =
          let mine : (x : ℕ) → holder_of s.out x ≡ me → x ≡ r = λ x h. taken_is old.out r by x free (at x h ∙ sym same) in
          mine p e ∙ sym (mine q f)
      with before (no other) = before (kept_holder old.out r by p me other (at p e)) (kept_holder old.out r by q me other (at q f))
  only_out acts s (lands {old = old} r n shared going out l) me p q one e f =
      let at : (x : ℕ) → holder_of s.out x ≡ me → holder_of old.out x ≡ me = λ x h. sym (ap (λ (y : Running). holder_of y.out x) l.new_is) ∙ h in
      only_out acts old shared me p q one (at p e) (at q f)
  only_out acts s (runs {acts = before} {old = old} by r letters operators shared going some most mine k) me p q one e f =
      let at : (x : ℕ) → holder_of s.out x ≡ me → holder_of old.out x ≡ me = λ x h. sym (ap (λ (y : Running). holder_of y.out x) k.new_is) ∙ h in
      only_out before old shared me p q one (at p e) (at q f)
  only_out acts s (acts_once {acts = before} {old = old} by r performed shared going some most mine a) me p q one e f =
      only_out before old shared me p q one (acted_holder (done_is_action performed.done) old r s a.records p me one e) (acted_holder (done_is_action performed.done) old r s a.records q me one f)
  only_out acts s (leaves {old = old} shared ended l) me p q one e f =
      let at : (x : ℕ) → holder_of s.out x ≡ me → holder_of old.out x ≡ me = λ x h. sym (ap (λ (y : Running). holder_of y.out x) l) ∙ h in
      only_out acts old shared me p q one (at p e) (at q f)

  -- so where its process is out with it no more, nobody is
  frees : (acts : List ℕ) (old : Running) → Shared code budget pick processors acts old → (me p : ℕ) → 1 ≤ me → holder_of old.out p ≡ me → (b : Bool) (new : Running)
      → Records b old p new → holder_of new.out p ≢ me → IsFree me new
  frees acts old shared me p one mine b new k gone q e =
      let same = only_out acts old shared me p q one mine (acted_holder b old p new k q me one e) in
      gone (ap (holder_of new.out) same ∙ e)

  -- who waits is not out
  waits_free : (s : Running) (p me : ℕ) → Stands code budget s → answer_of budget s ≡ None → 1 ≤ me → (k : ℕ) → slice_get s.waiting k ≡ Some p → holder_of s.out p ≢ me
  waits_free s p me stands going one k picked e =
      let held = some_is (holder_of s.out p) (omega (arith, e, one)) in
      omega (arith, held, got_times s.waiting k p picked, stands.placed going p, one_at_most (able_in s.machine.image p))

  module _ (sound : Sound code) (me p : ℕ) (one : 1 ≤ me) (most : me ≤ processors) where
    -- one turn more
    again : (n : ℕ) (acts : List ℕ) (b c : Running) → StandsOut code budget p b → holder_of b.out p ≡ me → Shared code budget pick processors (with_acts acts me n) b
        → ActsAgain pick budget me p b c → Shared code budget pick processors (with_acts acts me (suc n)) c × (holder_of c.out p ≡ me)
    again n acts b c out mine shared more =
        let acted : Running = more.acted in
        let stands : Stands code budget acted = acts_keep code budget b acted p more.performed sound out.stands out.going out.out more.valid more.acts in
        let gone : holder_of acted.out p ≢ me = waits_free acted p me stands more.going one (pick (length acted.waiting) acted.takes) more.takes.picked in
        let done : done_is_action more.performed.done ≡ true = is_acted (done_is_action more.performed.done) b p acted more.acts.records me mine gone in
        let counted : n + one_if (done_is_action more.performed.done) ≡ suc n = omega (arith, ap one_if done) in
        let free : IsFree me acted = frees (with_acts acts me n) b shared me p one mine (done_is_action more.performed.done) acted more.acts.records gone in
        let number = taken_number code budget acted stands (pick (length acted.waiting) acted.takes) p more.going more.takes.picked in (
          subst (λ (xs : List ℕ). Shared code budget pick processors xs c)
              (acts_twice acts me n (one_if (done_is_action more.performed.done)) ∙ ap (with_acts acts me) counted)
              (takes me p (acts_once me p more.performed shared out.going one most mine more.acts) more.going one most free more.takes),
          ap (λ (s : Running). holder_of s.out p) more.takes.new_is ∙ holder_own acted.out p me number.0 (omega (arith, number.1, stands.holders)),
        )

    -- so many of them
    pub turns_on : (n : ℕ) (acts : List ℕ) (a b : Running) → StandsOut code budget p a → holder_of a.out p ≡ me → Shared code budget pick processors acts a
        → ActsOn pick budget me p a n b → Shared code budget pick processors (with_acts acts me n) b × (holder_of b.out p ≡ me)
    turns_on n acts a b out mine shared stay = (subst (λ (xs : List ℕ). Shared code budget pick processors xs a) (sym (no_acts acts me)) shared, mine)
    turns_on n acts a c out mine shared (go {b = b} {n = k} on more) =
        let before = turns_on k acts a b out mine shared on in
        again k acts b c (stands_on code budget pick me p k a b sound one out on) before.1 before.0 more

    module _ (turns : ℕ) (acts : List ℕ) (old : Running) (performed : Performed) (new : Running) (out : StandsOut code budget p old) (mine : holder_of old.out p ≡ me)
        (shared : Shared code budget pick processors acts old) (many : ActsMany pick budget old p turns performed new) where
      on : ActsOn pick budget me p old turns many.between
      on = subst (λ (m : ℕ). ActsOn pick budget m p old turns many.between) mine many.acts

      before : Shared code budget pick processors (with_acts acts me turns) many.between × (holder_of many.between.out p ≡ me)
      before = turns_on turns acts old many.between out mine shared on

      then : StandsOut code budget p many.between
      then = stands_on code budget pick me p turns old many.between sound one out on

      pub many_on : Shared code budget pick processors (with_acts acts me (turns + one_if (done_is_action performed.done))) new
      many_on =
          subst (λ (xs : List ℕ). Shared code budget pick processors xs new) (acts_twice acts me turns (one_if (done_is_action performed.done)))
          (acts_once me p performed before.0 then.going one most before.1 many.last)

      -- and where an action was performed last, nobody is out with the processor
      pub free_then : 1 ≤ p → p ≤ most_processes → done_is_action performed.done ≡ true → IsFree me new
      free_then some within done =
          let back = is_back (done_is_action performed.done) many.between p new done many.last.records some (omega (arith, within, then.stands.holders)) in
          frees (with_acts acts me turns) many.between before.0 me p one before.1 (done_is_action performed.done) new many.last.records (λ e. omega (arith, back, e, one))

  -- ---- the calls

  -- no act is counted, and all is as it was
  none_made : (acts : List ℕ) (old new : Running) → Shared code budget pick processors acts old → (me n : ℕ) → n ≡ 0 → new ≡ old → Shared code budget pick processors (with_acts acts me n) new
  none_made acts old new shared me n none same =
      subst (λ (xs : List ℕ). Shared code budget pick processors xs new) (sym (no_acts acts me) ∙ ap (with_acts acts me) (sym none))
      (as_it_was code budget pick processors acts old new shared same)

  -- an act, with the turns before it
  pub acted_then : (acts : List ℕ) (old new : Running) → Sound code → Stands code budget old → Shared code budget pick processors acts old → (me p : ℕ) (answer : Acted) (turns : ℕ) → 1 ≤ me
      → me ≤ processors → ActsThen pick budget me p old answer turns new → Shared code budget pick processors (with_acts acts me (turns + acts_in answer)) new
  acted_then acts old new sound stands shared me p answer turns one most (inl t) =
      none_made acts old new shared me (turns + acts_in answer) (omega (arith, t.2, refused_none (answer_of budget old) answer t.0)) t.1
  acted_then acts old new sound stands shared me p answer turns one most (inr (inl (going, other, same, e, none))) =
      none_made acts old new shared me (turns + acts_in answer) (omega (arith, none, ap acts_in e)) same
  acted_then acts old new sound stands shared me p answer turns one most (inr (inr (going, mine, (performed, many, e)))) =
      subst (λ (n : ℕ). Shared code budget pick processors (with_acts acts me (turns + n)) new) (sym (ap acts_in e ∙ action_counts performed.done))
      (many_on sound me p one most turns acts old performed new (record { stands = stands; going = going; out = omega (arith, mine, one) }) mine shared many)

  -- and where it is counted, nobody is out with the processor after it
  pub acted_frees : (acts : List ℕ) (old new : Running) → Sound code → Stands code budget old → Shared code budget pick processors acts old → (me p : ℕ) (answer : Acted) (turns : ℕ) → 1 ≤ me
      → me ≤ processors → ActsThen pick budget me p old answer turns new → 1 ≤ acts_in answer → IsFree me new
  acted_frees acts old new sound stands shared me p answer turns one most (inl t) some = absurd (omega (arith, some, refused_none (answer_of budget old) answer t.0))
  acted_frees acts old new sound stands shared me p answer turns one most (inr (inl (going, other, same, e, none))) some = absurd (omega (arith, some, ap acts_in e))
  acted_frees acts old new sound stands shared me p answer turns one most (inr (inr (going, mine, (performed, many, e)))) some =
      let held : 1 ≤ holder_of old.out p = omega (arith, mine, one) in
      let number = held_number code budget old p stands going held in
      free_then sound me p one most turns acts old performed new (record { stands = stands; going = going; out = held }) mine shared many number.0 number.1
      (counted_action performed.done answer e some)

  -- a turn more: a take by a processor with which nobody is out, and acts
  module _ (acts : List ℕ) (old taken new : Running) (sound : Sound code) (stands : Stands code budget old) (shared : Shared code budget pick processors acts old) (me p : ℕ) (one : 1 ≤ me)
      (most : me ≤ processors) (going : answer_of budget old ≡ None) (free : IsFree me old) (takes_one : TakesOne pick me old p taken) (mine : holder_of taken.out p ≡ me) (turns : ℕ)
      (performed : Performed) (many : ActsMany pick budget taken p turns performed new) where
    is_out : StandsOut code budget p taken
    is_out = stands_taken code budget pick old taken me p one stands going takes_one

    share_taken : Shared code budget pick processors acts taken
    share_taken = takes me p shared going one most free takes_one

    pub turn_on : Shared code budget pick processors (with_acts acts me (turns + one_if (done_is_action performed.done))) new
    turn_on = many_on sound me p one most turns acts taken performed new is_out mine share_taken many

    pub turn_frees : done_is_action performed.done ≡ true → IsFree me new
    turn_frees =
        let number = taken_number code budget old stands (pick (length old.waiting) old.takes) p going takes_one.picked in
        free_then sound me p one most turns acts taken performed new is_out mine share_taken many number.0 number.1
