-- How many acts each of the processors that share a plant made.
use Rattle.std.proofs.Common.{◌≡◌, refl, sym, ap, subst, ◌∙◌, ℕ, zero, suc, ◌+◌, ◌<◌, ◌≤◌, Bool, true, false, Option, Some, None, List, [], ◌∷◌, length, map, All, arith}
use Rattle.std.specs.Prelude.{slice_get, slice_set, sum}
use Rattle.std.specs.List.{sum_by}
use Rattle.std.proofs.lemmas.List.{length-replicate, length-map}
use Rattle.std.proofs.lemmas.List.Elements.{All-map}
use Rattle.std.proofs.lemmas.List.Folds.{sum_by-replicate}
use Rattle.std.proofs.lemmas.List.Sums.{sum_by-cons, sum-map}
use Rattle.b67_segment.specs.declared.code.Code.{Code}
use Rattle.b67_action.specs.declared.done.Done.{Done}
use Rattle.b67_action.specs.declared.done.Done.TheVariants as dones
use Rattle.b67_action.specs.Able.{one_if}
use Rattle.b67_machine.specs.Kept.{or_none, operators_counted}
use Rattle.b67_machine.specs.declared.replay.Replayed.{Replayed}
use Rattle.b67_machine.specs.declared.replay.Replayed.TheVariants.{Ended, Ran, Illegal, BudgetSpent, NoMemory, Differs}
use Rattle.b67_processors.specs.declared.Acted.{Acted}
use Rattle.b67_processors.specs.declared.Acted.TheVariants as acted
use Rattle.b67_stands.specs.Running.{Running}
use Rattle.b67_stands.specs.Picked.{Pick}
use Rattle.b67_stands.specs.Calls.{done_is_action, Records}
use Rattle.b67_stands.specs.Shared.{Shared, begin, take as takes, land as lands, run as runs, act as acts_once, leave as leaves, with_acts, ByProcessors}
use Rattle.b67_table.proofs.Withdrawing.{length_set}
use Rattle.b67_plant.specs.Calls.{answer_to, acts_in, refusal}

-- ---- numbers

-- none more
pub no_acts : (acts : List ℕ) (me : ℕ) → with_acts acts me 0 ≡ acts
no_acts acts zero = refl
no_acts acts (suc k) = at acts k
  where
    at : (xs : List ℕ) (k : ℕ) → slice_set xs k (or_none (slice_get xs k) + 0) ≡ xs
    at [] k = refl
    at (x ∷ xs) zero = let same : x + 0 ≡ x = omega arith in ap (λ (y : ℕ). y ∷ xs) same
    at (x ∷ xs) (suc k) = ap (λ (ys : List ℕ). x ∷ ys) (at xs k)

sum_more : (acts : List ℕ) (me n : ℕ) → 1 ≤ me → me ≤ length acts → sum (with_acts acts me n) ≡ sum acts + n
sum_more acts zero n one most = absurd (omega (arith, one))
sum_more acts (suc k) n one most = at acts k (omega (arith, most))
  where
    at : (xs : List ℕ) (k : ℕ) → k < length xs → sum (slice_set xs k (or_none (slice_get xs k) + n)) ≡ sum xs + n
    at [] k h = absurd (omega (arith, h))
    at (x ∷ xs) zero h = omega (arith, sum_by-cons (λ (y : ℕ). y) (x + n) xs, sum_by-cons (λ (y : ℕ). y) x xs)
    at (x ∷ xs) (suc k) h =
        let rest = at xs k (omega (arith, h)) in
        omega (arith, rest, sum_by-cons (λ (y : ℕ). y) x (slice_set xs k (or_none (slice_get xs k) + n)), sum_by-cons (λ (y : ℕ). y) x xs)

-- an act raises the number at the place of the processor's seat
pub raised : (acts : List ℕ) (place number me n : ℕ) → place + 1 ≡ me → slice_get acts place ≡ Some number → slice_set acts place (number + n) ≡ with_acts acts me n
raised acts place number me n is found =
    let next : suc place ≡ me = omega (arith, is) in
    ap (λ (o : Option ℕ). slice_set acts place (or_none o + n)) (sym found) ∙ ap (λ (m : ℕ). with_acts acts m n) next

-- ---- what an answer counts

-- where the run has ended, none
pub refused_none : (o : Option Replayed) (answer : Acted) → refusal o ≡ Some answer → acts_in answer ≡ 0
refused_none None answer e = cc
refused_none (Some NoMemory) answer e = let is : answer ≡ acted.NoMemory = cc in ap acts_in is
refused_none (Some Ended) answer e = let is : answer ≡ acted.Over = cc in ap acts_in is
refused_none (Some Ran) answer e = let is : answer ≡ acted.Over = cc in ap acts_in is
refused_none (Some BudgetSpent) answer e = let is : answer ≡ acted.Over = cc in ap acts_in is
refused_none (Some (Illegal entry)) answer e = let is : answer ≡ acted.Over = cc in ap acts_in is
refused_none (Some (Differs entry)) answer e = let is : answer ≡ acted.Over = cc in ap acts_in is

-- else one exactly where an action was performed
pub action_counts : (done : Option Done) → acts_in (answer_to done) ≡ one_if (done_is_action done)
action_counts None = refl
action_counts (Some dones.Went) = refl
action_counts (Some dones.Waits) = refl
action_counts (Some dones.Ended) = refl
action_counts (Some (dones.Fault kind)) = refl
action_counts (Some (dones.Interrupt kind)) = refl
action_counts (Some dones.StackLimit) = refl
action_counts (Some dones.NoMemory) = refl

-- where an act was counted, an action was performed
pub counted_action : (done : Option Done) (answer : Acted) → answer ≡ answer_to done → 1 ≤ acts_in answer → done_is_action done ≡ true
counted_action done answer e some = by (done_is_action done) refl
  where
    by : (b : Bool) → done_is_action done ≡ b → b ≡ true
    by true same = refl
    by false same = absurd (omega (arith, some, ap acts_in e ∙ action_counts done ∙ ap one_if same))

-- ---- of a plant that is shared

-- the book of acts after an act
book : (x : Bool) (old : Running) (p : ℕ) (new : Running) → Records x old p new → new.acts ≡ old.acts + one_if x
book true old p new r = r.acts
book false old p new r = omega (arith, r.acts)

module _ (code : Code) (budget : ℕ) (pick : Pick) (processors : ℕ) where
  -- there is one number for each processor
  pub each_made : (acts : List ℕ) (s : Running) → Shared code budget pick processors acts s → length acts ≡ processors
  each_made acts s (begin first) = length-replicate processors 0
  each_made acts s (takes {old = old} me p shared going one most free t) = each_made acts old shared
  each_made acts s (lands {old = old} p n shared going out l) = each_made acts old shared
  each_made acts s (runs {acts = before} {old = old} me p letters operators shared going one most mine r) =
      length_set before me (operators_counted before me + length letters) ∙ each_made before old shared
  each_made acts s (acts_once {acts = before} {old = old} me p performed shared going one most mine a) =
      length_set before me (operators_counted before me + one_if (done_is_action performed.done)) ∙ each_made before old shared
  each_made acts s (leaves {old = old} shared ended l) = each_made acts old shared

  -- and together they are the book of acts
  pub all_made : (acts : List ℕ) (s : Running) → Shared code budget pick processors acts s → sum acts ≡ s.acts
  all_made acts s (begin first) = omega (arith, sum_by-replicate (λ (y : ℕ). y) processors 0, first.acts)
  all_made acts s (takes {old = old} me p shared going one most free t) = all_made acts old shared ∙ sym (ap (λ (r : Running). r.acts) t.new_is)
  all_made acts s (lands {old = old} p n shared going out l) = all_made acts old shared ∙ sym (ap (λ (r : Running). r.acts) l.new_is)
  all_made acts s (runs {acts = before} {old = old} me p letters operators shared going one most mine r) =
      let more = sum_more before me (length letters) one (omega (arith, most, each_made before old shared)) in
      omega (arith, more, all_made before old shared, ap (λ (x : Running). x.acts) r.new_is)
  all_made acts s (acts_once {acts = before} {old = old} me p performed shared going one most mine a) =
      let more = sum_more before me (one_if (done_is_action performed.done)) one (omega (arith, most, each_made before old shared)) in
      let then = book (done_is_action performed.done) old p s a.records in
      omega (arith, more, all_made before old shared, then)
  all_made acts s (leaves {old = old} shared ended l) = all_made acts old shared ∙ sym (ap (λ (r : Running). r.acts) l)

  -- and where each has left, so are the books
  pub by_processors : {X : Type 0} (left : X → ℕ) (xs : List X) (acts : List ℕ) (s : Running) → Shared code budget pick processors acts s → length xs ≡ processors
      → All (λ x. 0 < left x) xs → sum_by left xs ≡ s.leaves → ByProcessors processors s acts
  by_processors left xs acts s shared each all book = record {
    each = each_made acts s shared;
    acts_book = all_made acts s shared;
    leaves = map left xs;
    each_left = length-map xs left ∙ each;
    left = All-map (λ (n : ℕ). 1 ≤ n) left xs (λ k d inside. omega (arith, all k d inside));
    leaves_book = sum-map left xs ∙ book;
  }

-- so it is of the numbers that the seats have
pub shared_as : (code : Code) (budget : ℕ) (pick : Pick) (named processors : ℕ) (made noted : List ℕ) (s t : Running) → processors ≡ named → noted ≡ made → t ≡ s
    → Shared code budget pick named made s → Shared code budget pick processors noted t
shared_as code budget pick named processors made noted s t same is still shared =
    subst (Shared code budget pick processors noted) (sym still)
    (subst (λ (acts : List ℕ). Shared code budget pick processors acts s) (sym is) (subst (λ (n : ℕ). Shared code budget pick n made s) (sym same) shared))
