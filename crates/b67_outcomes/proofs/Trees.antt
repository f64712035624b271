-- What is kept stays a tree of states, each of another history.
use Rattle.std.proofs.Common.{◌≡◌, refl, sym, ap, subst, ◌∙◌, ℕ, zero, suc, ◌+◌, ◌<◌, ◌≤◌, List, [], ◌∷◌, ◌++◌, length, map, reverse, append_assoc, append-nil, Some, arith, inl, inr}
use Rattle.std.specs.Prelude.{◌⊎◌, slice_get}
use Rattle.std.proofs.lemmas.Bool.{cases_lt}
use Rattle.std.proofs.lemmas.List.{length-append, reverse-append}
use Rattle.std.proofs.lemmas.Option.{slice_get_within, same_Some, none-some}
use Rattle.b67_segment.specs.declared.code.Code.{Code}
use Rattle.b67_table.specs.Image.{Image}
use Rattle.b67_table.specs.Beginning.{first_image}
use Rattle.b67_table.specs.Runs.{RunEntry}
use Rattle.b67_list.proofs.Lists.{get_front, slice_either}
use Rattle.b67_outcomes.specs.declared.found.Step.{Step}
use Rattle.b67_outcomes.specs.declared.found.State.{State}
use Rattle.b67_outcomes.specs.declared.found.Found.{Found}
use Rattle.b67_outcomes.specs.Entering.{HistoryLeadsTo}
use Rattle.b67_outcomes.specs.Finding.{History, NumberIsAt, IsState, AreOnce, AreGrowing, AreBelow, before_of, IsKept, IsSearched, FoundGrows}
use Rattle.b67_outcomes.specs.Kept.{IsSame, AreOpen, IsReady, AreNotExpanded, IsBegun, GoesOn, IsHeld, IsStateNext, IsTree}
use Rattle.b67_outcomes.proofs.Histories.{history_one, history_stays, history_within, no_steps, led_more}
use Rattle.b67_outcomes.proofs.Apart.{led_earlier, none_after, below_more, others_stay, own_next, once_more}

-- ---- lists

only_one : {X : Type 0} (x y : X) (k : ℕ) → slice_get (x ∷ []) k ≡ Some y → (k ≡ 0) × (x ≡ y)
only_one x y zero e = (refl, same_Some x y e)
only_one x y (suc k) e = absurd (none-some y e)

-- the last of a list, or one of the others
pub last_or_old : {X : Type 0} (xs : List X) (x y : X) (k : ℕ) → slice_get (xs ++ x ∷ []) k ≡ Some y → (slice_get xs k ≡ Some y) ⊎ ((k ≡ length xs) × (x ≡ y))
last_or_old xs x y k e = by (slice_either xs (x ∷ []) k y e)
  where
    by : (slice_get xs k ≡ Some y) ⊎ ((j : ℕ) × (k ≡ length xs + j) × (slice_get (x ∷ []) j ≡ Some y)) → (slice_get xs k ≡ Some y) ⊎ ((k ≡ length xs) × (x ≡ y))
    by (inl old) = inl old
    by (inr new) = let one = only_one x y new.0 new.2 in let at = new.1 in let zero_is = one.0 in inr (omega (arith, at, zero_is), one.1)

-- ---- the path of a state

-- the first step of a path is its first entry
first_entry : (path : List ℕ) (p : ℕ) (rest : List ℕ) (more : List Step) (s : Step) → map (λ (x : Step). x.process) more ≡ path → path ≡ p ∷ rest
    → slice_get more 0 ≡ Some s → s.process ≡ p
first_entry path p rest [] s e f there = absurd (none-some s there)
first_entry path p rest (t ∷ more) s e f there = ap (λ (x : Step). x.process) (sym (same_Some t s there)) ∙ head_is (t.process ∷ map (λ (x : Step). x.process) more) (e ∙ f)
  where
    head_or : List ℕ → ℕ
    head_or [] = p
    head_or (x ∷ xs) = x

    head_is : (xs : List ℕ) → xs ≡ p ∷ rest → head_or xs ≡ p
    head_is xs g = ap head_or g

-- a path with an entry has a step
some_step : (path : List ℕ) (p : ℕ) (rest : List ℕ) (more : List Step) → map (λ (x : Step). x.process) more ≡ path → path ≡ p ∷ rest → 1 ≤ length more
some_step path p rest [] e f = absurd (omega (arith, ap (λ (z : List ℕ). length z) (e ∙ f)))
some_step path p rest (t ∷ more) e f = omega arith

-- a path that is not empty ends where the steps do
at_end : (number old at : ℕ) (more : List Step) → at ≡ before_of number old (length more) → 1 ≤ length more → at ≡ old + length more
at_end number old at [] e some = absurd (omega (arith, some))
at_end number old at (s ∷ more) e some = e

-- and so does one that goes on from the beginning
at_first : (number old at : ℕ) (more : List Step) → at ≡ before_of number old (length more) → number ≡ old → at ≡ old + length more
at_first number old at [] e same = omega (arith, e, same)
at_first number old at (s ∷ more) e same = e

-- ---- nothing is kept

module _ (code : Code) (Local : Image → ℕ → Type 0) (old new : Found) (number p : ℕ) (steps : new.steps.items ≡ old.steps.items)
    (states : new.states.items ≡ old.states.items) (x : IsTree code Local old × IsReady old number p) where
  tree_same : IsTree code Local new
  tree_same =
      record {
        once = subst (λ (z : List Step). AreOnce z) (sym steps) x.0.once;
        growing = subst (λ (z : List State). AreGrowing z) (sym states) x.0.growing;
        each = λ k s there.
            subst (λ (z : List Step). IsStateNext code Local z new.states.items k s) (sym steps)
            (subst (λ (z : List State). IsStateNext code Local old.steps.items z k s) (sym states)
            (x.0.each k s (sym (ap (λ (z : List State). slice_get z k) states) ∙ there)));
      }

  open_same : AreOpen new number
  open_same k s there past =
      subst (λ (z : List Step). AreBelow z s.number 0) (sym steps) (x.1.others k s (sym (ap (λ (z : List State). slice_get z k) states) ∙ there) past)

  pub kept_same : (q : ℕ) → p ≤ q → IsTree code Local new × IsReady new number q
  kept_same q order = (
    tree_same,
    record {
      below = subst (λ (z : List Step). AreBelow z number q) (sym steps) (below_more old.steps.items number p q order x.1.below);
      others = open_same;
    },
  )

  pub kept_open : IsTree code Local new × AreOpen new number
  kept_open = (tree_same, open_same)

-- ---- a state is kept

state_next_stays : (code : Code) (Local : Image → ℕ → Type 0) (xs more : List Step) (states new : List State) (k : ℕ) (s : State)
    → IsStateNext code Local xs states k s → IsStateNext code Local (xs ++ more) (states ++ new) k s
state_next_stays code Local xs more states new zero s x = (x.0, history_stays xs more s.number x.0 x.1, x.2)
state_next_stays code Local xs more states new (suc k) s (j, t, g, h, order, there, before, is, goes) =
    (j, t, g, h, order, get_front states new j t there, history_stays xs more t.number g before, history_stays xs more s.number h is, goes)

-- a later one goes on from one before it
later_next : (code : Code) (Local : Image → ℕ → Type 0) (steps : List Step) (states : List State) (k j : ℕ) (s t : State) (g h : List ℕ) → j < k
    → slice_get states j ≡ Some t → History steps t.number g → History steps s.number h → GoesOn code Local g h → IsStateNext code Local steps states k s
later_next code Local steps states zero j s t g h less there before is goes = absurd (omega (arith, less))
later_next code Local steps states (suc k) j s t g h less there before is goes = (j, t, g, h, omega (arith, less), there, before, is, goes)

first_next : (code : Code) (Local : Image → ℕ → Type 0) (steps : List Step) (states : List State) (k : ℕ) (s : State) (h : List ℕ) → k ≡ 0
    → History steps s.number h → IsBegun code Local h → IsStateNext code Local steps states k s
first_next code Local steps states zero s h e is begun = (h, is, begun)
first_next code Local steps states (suc k) s h e is begun = absurd (omega (arith, e))

-- The state is kept to which an entry of a process leads after a state, and entries that can be performed at once.
module _ (code : Code) (Local : Image → ℕ → Type 0) (most number p : ℕ) (there : Image) (old new : Found) (before : IsSearched code most old)
    (after : IsSearched code most new) (x : IsHeld code Local old number (p ∷ []) there new) (within : number ≤ length old.steps.items) where
  longer : length new.steps.items ≡ length old.steps.items + length x.held.path_held.more
  longer = ap (λ (z : List Step). length z) x.held.path_held.steps ∙ length-append old.steps.items x.held.path_held.more

  some : 1 ≤ length x.held.path_held.more
  some = some_step ((p ∷ []) ++ x.settled) p x.settled x.held.path_held.more x.held.path_held.entries refl

  -- its number is that of the last step
  last : x.held.state.number ≡ length old.steps.items + length x.held.path_held.more
  last = x.held.number_is ∙ at_end number (length old.steps.items) x.at x.held.path_held.more x.held.path_held.at_is some

  -- it is the last state, or the other was kept before
  either : (k : ℕ) (s : State) → slice_get new.states.items k ≡ Some s
      → (slice_get old.states.items k ≡ Some s) ⊎ ((k ≡ length old.states.items) × (x.held.state ≡ s))
  either k s is = last_or_old old.states.items x.held.state s k (sym (ap (λ (z : List State). slice_get z k) x.held.states) ∙ is)

  first_is : (s : Step) → slice_get x.held.path_held.more 0 ≡ Some s → s.process ≡ p
  first_is s is = first_entry ((p ∷ []) ++ x.settled) p x.settled x.held.path_held.more s x.held.path_held.entries refl is

  open_held : AreOpen old number → AreOpen new number
  open_held opened k s is past = by (either k s is)
    where
      by : (slice_get old.states.items k ≡ Some s) ⊎ ((k ≡ length old.states.items) × (x.held.state ≡ s)) → AreBelow new.steps.items s.number 0
      by (inl was) =
          subst (λ (z : List Step). AreBelow z s.number 0) (sym x.held.path_held.steps)
          (others_stay old.steps.items x.held.path_held.more number x.held.path_held.chained within s.number 0 (before.states k s was)
          (λ e. absurd (omega (arith, e, past))) (opened k s was past))
      by (inr one) =
          subst (λ (z : State). AreBelow new.steps.items z.number 0) one.1
          (none_after new.steps.items x.held.state.number 0 (led_earlier code new.steps.items after.led) (omega (arith, longer, last)))

  ready_held : IsReady old number p → IsReady new number (p + 1)
  ready_held r =
      record {
        below = subst (λ (z : List Step). AreBelow z number (p + 1)) (sym x.held.path_held.steps)
            (own_next old.steps.items x.held.path_held.more number x.held.path_held.chained within p
            (λ s is. let e = first_is s is in omega (arith, e)) r.below);
        others = open_held r.others;
      }

  once_held : AreOnce old.steps.items → AreBelow old.steps.items number p → AreOnce new.steps.items
  once_held once below =
      subst (λ (z : List Step). AreOnce z) (sym x.held.path_held.steps)
      (once_more old.steps.items x.held.path_held.more number x.held.path_held.chained within (led_earlier code old.steps.items before.led) once
      (λ s is. subst (λ (q : ℕ). AreBelow old.steps.items number q) (sym (first_is s is)) below))

  growing_held : AreGrowing old.states.items → AreGrowing new.states.items
  growing_held growing j k s t less at is = by (either j s at) (either k t is)
    where
      by : (slice_get old.states.items j ≡ Some s) ⊎ ((j ≡ length old.states.items) × (x.held.state ≡ s))
          → (slice_get old.states.items k ≡ Some t) ⊎ ((k ≡ length old.states.items) × (x.held.state ≡ t)) → s.number < t.number
      by (inl a) (inl b) = growing j k s t less a b
      by (inl a) (inr b) =
          let in_old = before.states j s a in
          subst (λ (z : State). s.number < z.number) b.1 (omega (arith, in_old, last, some))
      by (inr a) (inl b) = let in_old = slice_get_within old.states.items k t b in let j_is = a.0 in absurd (omega (arith, less, in_old, j_is))
      by (inr a) (inr b) = let j_is = a.0 in let k_is = b.0 in absurd (omega (arith, less, j_is, k_is))

  -- the history of the state goes on from that before it
  goes_on : (here : Image) (n : ℕ) (g : List ℕ) → History old.steps.items number g → HistoryLeadsTo code g here → RunEntry code p here n there
      → GoesOn code Local g (reverse ((p ∷ []) ++ x.settled) ++ g)
  goes_on here n g is leads e =
      record {
        process = p;
        settled = reverse x.settled;
        is = ap (λ (z : List ℕ). z ++ g) (reverse-append (p ∷ []) x.settled) ∙ append_assoc (reverse x.settled) (p ∷ []) g;
        there = there;
        enters = led_more code g p here there n leads e;
        image = x.image;
        leads = subst (λ (z : List ℕ). HistoryLeadsTo code (reverse ((p ∷ []) ++ x.settled) ++ z) x.image)
            (history_one old.steps.items number x.after.history g x.after.is is) x.after.leads;
        settles = x.settles;
      }

  tree_held : (here : Image) (n : ℕ) → IsTree code Local old → IsState old.states.items number → IsReady old number p → NumberIsAt code old.steps.items number here
      → RunEntry code p here n there → IsTree code Local new
  tree_held here n tree state ready at e =
      record {
        once = once_held tree.once ready.below;
        growing = growing_held tree.growing;
        each = λ k s is. by k s (either k s is);
      }
    where
      -- the state before it
      from : History old.steps.items state.1.number at.history
      from = subst (λ (m : ℕ). History old.steps.items m at.history) (sym state.3) at.is

      by : (k : ℕ) (s : State) → (slice_get old.states.items k ≡ Some s) ⊎ ((k ≡ length old.states.items) × (x.held.state ≡ s))
          → IsStateNext code Local new.steps.items new.states.items k s
      by k s (inl was) =
          subst (λ (z : List Step). IsStateNext code Local z new.states.items k s) (sym x.held.path_held.steps)
          (subst (λ (z : List State). IsStateNext code Local (old.steps.items ++ x.held.path_held.more) z k s) (sym x.held.states)
          (state_next_stays code Local old.steps.items x.held.path_held.more old.states.items (x.held.state ∷ []) k s (tree.each k s was)))
      by k s (inr one) =
          let last_place = one.0 in
          let sooner = slice_get_within old.states.items state.0 state.1 state.2 in
          later_next code Local new.steps.items new.states.items k state.0 s state.1 at.history (reverse ((p ∷ []) ++ x.settled) ++ at.history)
          (omega (arith, last_place, sooner))
          (ap (λ (z : List State). slice_get z state.0) x.held.states ∙ get_front old.states.items (x.held.state ∷ []) state.0 state.1 state.2)
          (subst (λ (z : List Step). History z state.1.number at.history) (sym x.held.path_held.steps)
          (history_stays old.steps.items x.held.path_held.more state.1.number at.history from))
          (subst (λ (m : ℕ). History new.steps.items m (reverse ((p ∷ []) ++ x.settled) ++ at.history)) (sym x.held.number_is ∙ ap (λ (z : State). z.number) one.1)
          (x.held.path_held.is at.history at.is))
          (goes_on here n at.history at.is at.leads e)

  pub kept_held : (here : Image) (n : ℕ) → IsTree code Local old × IsReady old number p → IsState old.states.items number → NumberIsAt code old.steps.items number here
      → RunEntry code p here n there → IsTree code Local new × IsReady new number (p + 1)
  kept_held here n both state at e = (tree_held here n both.0 state both.1 at e, ready_held both.1)

-- ---- an entry of a process

-- what is kept is a tree still, and the steps after the state are of processes up to this one
pub kept_next : (code : Code) (Local : Image → ℕ → Type 0) (most number p n : ℕ) (path : List ℕ) (here there : Image) (old new : Found) → IsSearched code most old
    → IsSearched code most new → IsTree code Local old × IsReady old number p → IsState old.states.items number → NumberIsAt code old.steps.items number here
    → RunEntry code p here n there → path ≡ p ∷ [] → IsSame most old new ⊎ IsHeld code Local old number path there new
    → IsTree code Local new × IsReady new number (p + 1)
kept_next code Local most number p n path here there old new before after both state at e path_is (inl same) =
    kept_same code Local old new number p same.steps same.states both (p + 1) (omega arith)
kept_next code Local most number p n path here there old new before after both state at e path_is (inr held) =
    kept_held code Local most number p there old new before after (subst (λ (z : List ℕ). IsHeld code Local old number z there new) path_is held)
    (history_within old.steps.items number at.history at.is) here n both state at e

-- ---- the first state

-- The state is kept to which entries lead from the beginning that can be performed at once.
module _ (code : Code) (Local : Image → ℕ → Type 0) (most : ℕ) (old new : Found) (none : old.steps.items ≡ []) (no_state : old.states.items ≡ [])
    (after : IsSearched code most new) (x : IsHeld code Local old 0 [] first_image new) where
  size_none : length old.steps.items ≡ 0
  size_none = ap (λ (z : List Step). length z) none

  states_are : new.states.items ≡ x.held.state ∷ []
  states_are = x.held.states ∙ ap (λ (z : List State). z ++ x.held.state ∷ []) no_state

  steps_are : new.steps.items ≡ x.held.path_held.more
  steps_are = x.held.path_held.steps ∙ ap (λ (z : List Step). z ++ x.held.path_held.more) none

  one_state : (k : ℕ) (s : State) → slice_get new.states.items k ≡ Some s → (k ≡ 0) × (x.held.state ≡ s)
  one_state k s is = only_one x.held.state s k (sym (ap (λ (z : List State). slice_get z k) states_are) ∙ is)

  begun_some : 1 ≤ length new.states.items
  begun_some = let e = ap (λ (z : List State). length z) states_are in omega (arith, e)

  begun_open : AreNotExpanded new 0
  begun_open k s least is =
      let at = at_first 0 (length old.steps.items) x.at x.held.path_held.more x.held.path_held.at_is (omega (arith, size_none)) in
      let all = ap (λ (z : List Step). length z) steps_are in
      let number_is = x.held.number_is in
      subst (λ (z : State). AreBelow new.steps.items z.number 0) (one_state k s is).1
      (none_after new.steps.items x.held.state.number 0 (led_earlier code new.steps.items after.led) (omega (arith, at, all, number_is, size_none)))

  -- nothing was performed before
  from_none : reverse x.settled ++ x.after.history ≡ reverse x.settled
  from_none = ap (λ (z : List ℕ). reverse x.settled ++ z) (no_steps old.steps.items x.after.history x.after.is) ∙ append-nil (reverse x.settled)

  begun_tree : IsTree code Local new
  begun_tree =
      record {
        once = subst (λ (z : List Step). AreOnce z) (sym x.held.path_held.steps)
            (once_more old.steps.items x.held.path_held.more 0 x.held.path_held.chained (omega arith)
            (λ k s is. absurd (none-some s (sym (ap (λ (z : List Step). slice_get z k) none) ∙ is)))
            (λ j k s is. absurd (none-some s (sym (ap (λ (z : List Step). slice_get z j) none) ∙ is)))
            (λ s is k t there. absurd (none-some t (sym (ap (λ (z : List Step). slice_get z k) none) ∙ there))));
        growing = λ j k s t less at is.
            let a = (one_state j s at).0 in let b = (one_state k t is).0 in absurd (omega (arith, less, a, b));
        each = λ k s is.
            first_next code Local new.steps.items new.states.items k s (reverse x.settled) (one_state k s is).0
            (subst (λ (m : ℕ). History new.steps.items m (reverse x.settled)) (sym x.held.number_is ∙ ap (λ (z : State). z.number) (one_state k s is).1)
            (subst (λ (z : List ℕ). History new.steps.items x.at z) from_none (x.held.path_held.is x.after.history x.after.is)))
            (record { image = x.image; leads = subst (λ (z : List ℕ). HistoryLeadsTo code z x.image) from_none x.after.leads; settles = x.settles });
      }

-- the first state is kept
pub first_kept : (code : Code) (Local : Image → ℕ → Type 0) (most : ℕ) (path : List ℕ) (img : Image) (old new : Found) → 1 ≤ most → old.steps.items ≡ []
    → old.states.items ≡ [] → IsSearched code most new → path ≡ [] → img ≡ first_image → IsSame most old new ⊎ IsHeld code Local old 0 path img new
    → IsTree code Local new × AreNotExpanded new 0 × (1 ≤ length new.states.items)
first_kept code Local most path img old new one steps states after path_is img_is (inl same) =
    let some = same.some one in let none = ap (λ (z : List State). length z) states in absurd (omega (arith, some, none))
first_kept code Local most path img old new one steps states after path_is img_is (inr held) =
    let x =
    subst (λ (z : List ℕ). IsHeld code Local old 0 z first_image new) path_is
    (subst (λ (z : Image). IsHeld code Local old 0 path z new) img_is held) in (
      begun_tree code Local most old new steps states after x,
      begun_open code Local most old new steps states after x,
      begun_some code Local most old new steps states after x,
    )

-- ---- what is expanded next

-- before a state is expanded
pub ready_next : (code : Code) (Local : Image → ℕ → Type 0) (found : Found) (done : ℕ) (s : State) → IsTree code Local found → AreNotExpanded found done
    → slice_get found.states.items done ≡ Some s → IsReady found s.number 0
ready_next code Local found done s tree not is = record { below = not done s (omega arith) is; others = λ k t there past. not k t (later k t there past) there }
  where
    later : (k : ℕ) (t : State) → slice_get found.states.items k ≡ Some t → s.number < t.number → done ≤ k
    later k t there past = by (cases_lt k done)
      where
        by : (k < done) ⊎ (done ≤ k) → done ≤ k
        by (inl less) = let grows = tree.growing k done t s less there is in absurd (omega (arith, grows, past))
        by (inr more) = more

-- and after that
pub expanded_open : (code : Code) (Local : Image → ℕ → Type 0) (old new : Found) (done : ℕ) (s : State) → FoundGrows old new → IsTree code Local new
    → AreOpen new s.number → slice_get old.states.items done ≡ Some s → AreNotExpanded new (done + 1)
expanded_open code Local old new done s g tree opened is k t later there =
    let stays_there = ap (λ (z : List State). slice_get z done) g.states ∙ get_front old.states.items g.more_states done s is in
    opened k t there (tree.growing done k s t (omega (arith, later)) stays_there there)

pub some_stay : (old new : Found) → FoundGrows old new → 1 ≤ length old.states.items → 1 ≤ length new.states.items
some_stay old new g some =
    let e = ap (λ (z : List State). length z) g.states ∙ length-append old.states.items g.more_states in omega (arith, e, some)

-- a state stays one
pub state_stays : (old new : Found) (number : ℕ) → FoundGrows old new → IsState old.states.items number → IsState new.states.items number
state_stays old new number g x =
    (x.0, x.1, ap (λ (z : List State). slice_get z x.0) g.states ∙ get_front old.states.items g.more_states x.0 x.1 x.2, x.3)

-- where an image is kept, some state is
pub kept_some : (code : Code) (steps : List Step) (states all : List State) (img : Image) → states ≡ all → IsKept code steps states img → 1 ≤ length all
kept_some code steps states all img same x =
    let within = slice_get_within states x.state.0 x.state.1 x.state.2 in
    let size = ap (λ (z : List State). length z) same in
    omega (arith, within, size)
