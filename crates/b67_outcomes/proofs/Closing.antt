-- Where each process is followed from each state, every run comes to the end of one.
use Rattle.std.proofs.Common.{◌≡◌, refl, sym, ap, subst, ◌∙◌, ℕ, zero, suc, ◌+◌, ◌<◌, ◌≤◌, true, false, true≢false, List, [], ◌∷◌, length, Some, arith, below_more, ◌++◌, inl, inr}
use Rattle.std.specs.Prelude.{◌⊎◌, slice_get}
use Rattle.std.proofs.lemmas.Bool.{cases_lt}
use Rattle.std.proofs.lemmas.Option.{none-some, same_Some, slice_get_within}
use Rattle.b67_segment.specs.declared.code.Code.{Code}
use Rattle.b67_table.specs.Image.{Image}
use Rattle.b67_table.specs.Beginning.{first_image}
use Rattle.b67_table.specs.Ending.{may_act}
use Rattle.b67_table.specs.Table.{stack_length}
use Rattle.b67_table.specs.Runs.{Runs}
use Rattle.b67_outcomes.specs.declared.found.Step.{Step}
use Rattle.b67_outcomes.specs.declared.found.State.{State}
use Rattle.b67_outcomes.specs.declared.found.Limit.{Limit}
use Rattle.b67_outcomes.specs.declared.found.Found.{Found}
use Rattle.b67_outcomes.specs.declared.found.TheConstants.{MOST_KEPT}
use Rattle.b67_outcomes.specs.Entering.{HistoryLeadsTo}
use Rattle.b67_outcomes.specs.Settling.{Last, ended, stopped, LastComes, at_end, at_limit, after, LocalsPass}
use Rattle.b67_outcomes.specs.Finding.{History, first, IsLed, IsKept, IsEndKept, IsStopKept, IsSearched, FoundGrows, IsArrived, IsFollowed, IsExpanded, IsClosed, AreNoted, AreAll}
use Rattle.b67_outcomes.proofs.Determined.{led_one}
use Rattle.b67_outcomes.proofs.Histories.{history_one, led_none, led_more}
use Rattle.b67_outcomes.proofs.Keeping.{followed_stays, expanded_stays}
use Rattle.b67_outcomes.proofs.Passing.{settled, from_first}

-- ---- each process

module _ (code : Code) (Local : Image → ℕ → Type 0) where
  -- those before the next one are followed
  pub followed_next : (old new : Found) (number : ℕ) (h : List ℕ) (process : ℕ) → FoundGrows old new
      → ((p : ℕ) → 1 ≤ p → p < process → IsFollowed code Local old number h p) → IsFollowed code Local new number h process
      → (p : ℕ) → 1 ≤ p → p < process + 1 → IsFollowed code Local new number h p
  followed_next old new number h process g before this p least below =
      below_more (λ (q : ℕ). 1 ≤ q → IsFollowed code Local new number h q) process
      (λ (q : ℕ) (lt : q < process) (one : 1 ≤ q). followed_stays code Local old new number h q g (before q one lt)) (λ (one : 1 ≤ process). this) p
      below least

  -- and so all, where those after them may not act
  pub expanded_by : (found : Found) (number : ℕ) (h : List ℕ) (here : Image) (processes process : ℕ) → History found.steps.items number h
      → HistoryLeadsTo code h here → ((p : ℕ) → may_act here p ≡ true → (1 ≤ p) × (p ≤ processes)) → processes < process
      → ((p : ℕ) → 1 ≤ p → p < process → IsFollowed code Local found number h p) → IsExpanded code Local found number
  expanded_by found number h here processes process is l all past each =
      record {
        history = h;
        is = is;
        each = λ p.
            record {
              entries = λ whole a b n m e.
                  let one = all p (subst (λ (x : Image). may_act x p ≡ true) (led_one code h a here m l) e.may) in
                  let f = each p one.0 (omega (arith, one.1, past)) in f.entries whole a b n m e;
              stops = λ a quiet m may s.
                  let one = all p (subst (λ (x : Image). may_act x p ≡ true) (led_one code h a here m l) may) in
                  let f = each p one.0 (omega (arith, one.1, past)) in f.stops a quiet m may s;
            };
      }

-- ---- each state

-- those before this place are expanded
abbrev pub AreExpanded : Code → (Image → ℕ → Type 0) → Found → ℕ → Type 0
AreExpanded code Local found done = (k : ℕ) (s : State) → k < done → slice_get found.states.items k ≡ Some s → IsExpanded code Local found s.number

grown_back : {X : Type 0} (xs more : List X) (k : ℕ) (x : X) → k < length xs → slice_get (xs ++ more) k ≡ Some x → slice_get xs k ≡ Some x
grown_back [] more k x below e = absurd (omega (arith, below))
grown_back (y ∷ xs) more zero x below e = e
grown_back (y ∷ xs) more (suc k) x below e = grown_back xs more k x (omega (arith, below)) e

-- and the next one
pub expanded_next : (code : Code) (Local : Image → ℕ → Type 0) (old new : Found) (done : ℕ) (this : State) → FoundGrows old new → slice_get old.states.items done ≡ Some this
    → AreExpanded code Local old done → IsExpanded code Local new this.number → AreExpanded code Local new (done + 1)
expanded_next code Local old new done this g there before here k s below is = by (cases_lt k done)
  where
    was : k ≤ done → slice_get old.states.items k ≡ Some s
    was within =
        let length_is = slice_get_within old.states.items done this there in
        grown_back old.states.items g.more_states k s (omega (arith, within, length_is)) (ap (λ (z : List State). slice_get z k) (sym g.states) ∙ is)

    by : (k < done) ⊎ (done ≤ k) → IsExpanded code Local new s.number
    by (inl less) = expanded_stays code Local old new s.number g (before k s less (was (omega (arith, less))))
    by (inr more) =
        let same : done ≡ k = omega (arith, more, below) in
        let one : this ≡ s = same_Some this s (sym there ∙ ap (λ (i : ℕ). slice_get old.states.items i) same ∙ was (omega (arith, below))) in
        subst (λ (x : State). IsExpanded code Local new x.number) one here

-- ---- nothing was found yet

first_led : (code : Code) (steps : List Step) (k : ℕ) → steps ≡ [] → k ≤ length steps → IsLed code steps k
first_led code steps k none within =
    let zero_is : k ≡ 0 = omega (arith, within, ap (λ (z : List Step). length z) none) in
    subst (λ (n : ℕ). IsLed code steps n) (sym zero_is) (record { history = []; image = _; is = first; leads = led_none code })

pub begun_searched : (code : Code) (most : ℕ) (found : Found) → most ≤ MOST_KEPT → found.steps.items ≡ [] → found.states.items ≡ []
    → found.limits.items ≡ [] → found.cut ≡ false → IsSearched code most found
begun_searched code most found most_few steps states limits cut =
    record {
      led = λ k within. first_led code found.steps.items k steps within;
      states = λ k s e. absurd (none-some s (sym (ap (λ (z : List State). slice_get z k) states) ∙ e));
      stops = λ k l e. absurd (none-some l (sym (ap (λ (z : List Limit). slice_get z k) limits) ∙ e));
      after = λ k l e. absurd (none-some l (sym (ap (λ (z : List Limit). slice_get z k) limits) ∙ e));
      short = omega (arith, ap (λ (z : List Step). length z) steps);
      few = omega (arith, ap (λ (z : List State). length z) states);
      most_few = most_few;
      cause = λ e. absurd (true≢false (sym e ∙ cut));
    }

-- ---- the stack limits

pub all_noted : (code : Code) (Local : Image → ℕ → Type 0) (found : Found)
    → ((k : ℕ) (s : State) → slice_get found.states.items k ≡ Some s → IsExpanded code Local found s.number) → AreNoted code found
all_noted code Local found all k p s h img quiet there is leads may stops =
    let x = all k s there in
    let f = x.each p in
    f.stops img quiet (subst (λ (g : List ℕ). HistoryLeadsTo code g img) (history_one found.steps.items s.number h x.history is x.is) leads) may stops

-- ---- each entry

-- the search has come to where each entry leads
pub closed : (code : Code) (Local : Image → ℕ → Type 0) (found : Found) → found.cut ≡ false → IsArrived code Local found first_image
    → ((k : ℕ) (s : State) → slice_get found.states.items k ≡ Some s → IsExpanded code Local found s.number) → IsClosed code Local found
closed code Local found whole x all =
    record {
      first = x;
      each = λ k p n s h a b there is leads e.
          let y = all k s there in
          let f = y.each p in
          f.entries whole a b n (subst (λ (g : List ℕ). HistoryLeadsTo code g a) (history_one found.steps.items s.number h y.history is y.is) leads) e;
    }

-- ---- all

module _ (code : Code) (Local : Image → ℕ → Type 0) (laws : LocalsPass code Local) (found : Found) (whole : found.cut ≡ false)
    (all : (k : ℕ) (s : State) → slice_get found.states.items k ≡ Some s → IsExpanded code Local found s.number) where
  -- the last is that of a state
  IsLastKept : List (List ℕ) → Last → Type 0
  IsLastKept output (ended e) = IsEndKept code found output e
  IsLastKept output (stopped p words) = IsStopKept code found output p words

  -- the process is followed from the history of a state
  of_state : (img : Image) (k : IsKept code found.steps.items found.states.items img) (p : ℕ) → IsFollowed code Local found k.number k.history p
  of_state img k p =
      let x = all k.state.0 k.state.1 k.state.2 in
      let is = subst (λ (n : ℕ). History found.steps.items n x.history) k.state.3 x.is in
      subst (λ (h : List ℕ). IsFollowed code Local found k.number h p) (history_one found.steps.items k.number x.history k.history is k.is)
      (subst (λ (n : ℕ). IsFollowed code Local found n x.history p) k.state.3 (x.each p))

  comes_kept : (most k : ℕ) → k ≤ most → (a : Image) (output : List (List ℕ)) (last : Last) → IsKept code found.steps.items found.states.items a
      → LastComes code a k output last → IsLastKept output last
  unfolding IsLastKept
  comes_kept most k few a output last kept (at_end is) = record { image = a; kept = kept; output_is = refl; ends = is }
  comes_kept most k few a output last kept (at_limit {quiet = quiet} {p = p} may s) =
      let f = of_state a kept p in
      record { image = a; quiet = quiet; kept = kept; output_is = refl; stops = s; words_are = refl; noted = f.stops a quiet kept.leads may s }
  comes_kept zero k few a output last kept (after e more) = absurd (omega (arith, few))
  comes_kept (suc most) k few a output last kept (after {b = b} {p = p} {n = n} {k = j} e more) =
      let f = of_state a kept p in
      let x = f.entries whole a b n kept.leads e in
      let sooner = settled code Local laws b x.image x.settled j output last (p ∷ kept.history, led_more code kept.history p a b n kept.leads e) x.settles more in
      let less = sooner.less in
      comes_kept most sooner.count (omega (arith, less, few)) x.image output last x.kept sooner.comes

  from_runs : IsArrived code Local found first_image → (h counts : List ℕ) (img : Image) (output : List (List ℕ)) (last : Last) → Runs code h counts img
      → LastComes code img 0 output last → IsLastKept output last
  from_runs x h counts img output last r c =
      let all_of = from_first code h counts img 0 output last r c in
      let sooner = settled code Local laws first_image x.image x.settled all_of.0 output last ([], led_none code) x.settles all_of.1 in
      comes_kept sooner.count sooner.count (omega arith) x.image output last x.kept sooner.comes

  pub closure : IsArrived code Local found first_image → AreAll code found
  unfolding IsLastKept
  closure x =
      record {
        ends = λ h counts img e r is. from_runs x h counts img img.output (ended e) r (at_end is);
        stops = λ h counts img quiet p r may s. from_runs x h counts img img.output (stopped p (stack_length p quiet)) r (at_limit may s);
      }
