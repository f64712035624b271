-- The states of a search have as many histories, which differ.
use Rattle.std.proofs.Common.{◌≡◌, refl, subst, ℕ, zero, suc, ◌≤◌, List, [], ◌∷◌, length, Some, arith, inl, inr}
use Rattle.std.specs.Prelude.{slice_get}
use Rattle.std.proofs.lemmas.Option.{same_Some, none-some}
use Rattle.b67_segment.specs.declared.code.Code.{Code}
use Rattle.b67_table.specs.Image.{Image}
use Rattle.b67_table.specs.Beginning.{first_image}
use Rattle.b67_outcomes.specs.declared.found.Step.{Step}
use Rattle.b67_outcomes.specs.declared.found.State.{State}
use Rattle.b67_outcomes.specs.declared.found.Found.{Found}
use Rattle.b67_outcomes.specs.Settling.{CanSettle, ImageSettles, rest, settle}
use Rattle.b67_outcomes.specs.Entering.{HistoryLeadsTo}
use Rattle.b67_outcomes.specs.Finding.{History, AreLed, AreStates, IsArrived, IsClosed}
use Rattle.b67_outcomes.specs.Kept.{IsNext, AreKept, SettlesAmong, AreClosed, IsStateNext, IsTree, GoesOn, IsBegun}
use Rattle.b67_outcomes.proofs.Histories.{history_one}
use Rattle.b67_outcomes.proofs.Apart.{number_one, state_one}

-- the history at a place is that of the state there
pub record IsHistoryOf (steps : List Step) (states : List State) (histories : List (List ℕ)) : Type 0 where
  pub size : length histories ≡ length states
  pub state : (k : ℕ) (h : List ℕ) → slice_get histories k ≡ Some h → (s : State) × (slice_get states k ≡ Some s) × History steps s.number h
  pub history : (k : ℕ) (s : State) → slice_get states k ≡ Some s → (h : List ℕ) × (slice_get histories k ≡ Some h) × History steps s.number h

with_first : (steps : List Step) (s : State) (states : List State) (h : List ℕ) (histories : List (List ℕ)) → History steps s.number h
    → IsHistoryOf steps states histories → IsHistoryOf steps (s ∷ states) (h ∷ histories)
with_first steps s states h histories is x =
    record { size = let same = x.size in omega (arith, same); state = λ k g e. state k g e; history = λ k t e. history k t e }
  where
    state : (k : ℕ) (g : List ℕ) → slice_get (h ∷ histories) k ≡ Some g → (t : State) × (slice_get (s ∷ states) k ≡ Some t) × History steps t.number g
    state zero g e = (s, refl, subst (λ (z : List ℕ). History steps s.number z) (same_Some h g e) is)
    state (suc k) g e = x.state k g e

    history : (k : ℕ) (t : State) → slice_get (s ∷ states) k ≡ Some t → (g : List ℕ) × (slice_get (h ∷ histories) k ≡ Some g) × History steps t.number g
    history zero t e = (h, refl, subst (λ (z : State). History steps z.number h) (same_Some s t e) is)
    history (suc k) t e = x.history k t e

pub histories_of : (code : Code) (steps : List Step) (states : List State) → AreLed code steps → AreStates steps states
    → (histories : List (List ℕ)) × IsHistoryOf steps states histories
histories_of code steps [] led are =
    ([], record { size = refl; state = λ k h e. absurd (none-some h e); history = λ k s e. absurd (none-some s e) })
histories_of code steps (s ∷ states) led are =
    let x = led s.number (are 0 s refl) in
    let rest = histories_of code steps states led (λ k t e. are (suc k) t e) in
    (x.history ∷ rest.0, with_first steps s states x.history rest.0 x.is rest.1)

module _ (code : Code) (Local : Image → ℕ → Type 0) (found : Found) (histories : List (List ℕ))
    (x : IsHistoryOf found.steps.items found.states.items histories) (tree : IsTree code Local found) where
  next : (k : ℕ) (s : State) (h : List ℕ) → History found.steps.items s.number h → IsStateNext code Local found.steps.items found.states.items k s
      → IsNext code Local histories k h
  next zero s h is (g, also, begun) =
      subst (λ (z : List ℕ). IsBegun code Local z) (history_one found.steps.items s.number g h also is) begun
  next (suc k) s h is (j, t, g, f, order, there, before, also, goes) =
      let own = x.history j t there in (
        j,
        own.0,
        order,
        own.1,
        subst (λ (z : List ℕ). GoesOn code Local own.0 z) (history_one found.steps.items s.number f h also is)
            (subst (λ (z : List ℕ). GoesOn code Local z f) (history_one found.steps.items t.number g own.0 before own.2) goes),
      )

  pub are_kept : 1 ≤ length found.states.items → AreKept code Local histories
  are_kept some =
      record {
        some = let same = x.size in omega (arith, same, some);
        each = λ k h e. let s = x.state k h e in next k s.0 h s.2 (tree.each k s.0 s.1);
        different = λ j k h at there.
            let s = x.state j h at in
            let t = x.state k h there in
            state_one found.states.items tree.growing j k s.0 t.0 s.1 t.1 (number_one found.steps.items tree.once s.0.number t.0.number h h s.2 t.2 refl);
      }

-- where the search has come to the end of each entry, so have these
module _ (code : Code) (Local : Image → ℕ → Type 0) (found : Found) (histories : List (List ℕ))
    (x : IsHistoryOf found.steps.items found.states.items histories) (all : IsClosed code Local found) where
  among : (img : Image) → IsArrived code Local found img → SettlesAmong code Local histories img
  among img a =
      let own = x.history a.kept.state.0 a.kept.state.1 a.kept.state.2 in
      let is = subst (λ (n : ℕ). History found.steps.items n own.0) a.kept.state.3 own.2 in
      record {
        settled = a.settled;
        image = a.image;
        settles = a.settles;
        place = a.kept.state.0;
        history = own.0;
        there = own.1;
        leads = subst (λ (h : List ℕ). HistoryLeadsTo code h a.image) (history_one found.steps.items a.kept.number a.kept.history own.0 a.kept.is is) a.kept.leads;
      }

  pub are_closed : AreClosed code Local histories
  are_closed =
      record {
        first = among first_image all.first;
        each = λ k p n h a b there leads e. let s = x.state k h there in among b (all.each k p n s.0 h a b s.1 s.2 leads e);
      }

-- ---- which entries can be performed at once

module _ (code : Code) (Local Also : Image → ℕ → Type 0) (more : (img : Image) (p : ℕ) → Local img p → Also img p) where
  can_settle : (img : Image) (p : ℕ) → CanSettle Local img p → CanSettle Also img p
  can_settle img p (inl only) = inl only
  can_settle img p (inr local) = inr (local.0, more img p local.1)

  settles_so : (a b : Image) (h : List ℕ) → ImageSettles code Local a h b → ImageSettles code Also a h b
  settles_so a b h rest = rest
  settles_so a b h (settle {b = x} {p = p} {settled = g} s can e) = settle (settles_so a x g s) (can_settle x p can) e

  begun_so : (h : List ℕ) → IsBegun code Local h → IsBegun code Also h
  begun_so h x = record { image = x.image; leads = x.leads; settles = settles_so first_image x.image h x.settles }

  goes_so : (g h : List ℕ) → GoesOn code Local g h → GoesOn code Also g h
  goes_so g h x =
      record {
        process = x.process;
        settled = x.settled;
        is = x.is;
        there = x.there;
        enters = x.enters;
        image = x.image;
        leads = x.leads;
        settles = settles_so x.there x.image x.settled x.settles;
      }

  next_so : (histories : List (List ℕ)) (k : ℕ) (h : List ℕ) → IsNext code Local histories k h → IsNext code Also histories k h
  next_so histories zero h begun = begun_so h begun
  next_so histories (suc k) h (j, g, order, there, goes) = (j, g, order, there, goes_so g h goes)

  among_so : (histories : List (List ℕ)) (img : Image) → SettlesAmong code Local histories img → SettlesAmong code Also histories img
  among_so histories img x =
      record {
        settled = x.settled;
        image = x.image;
        settles = settles_so img x.image x.settled x.settles;
        place = x.place;
        history = x.history;
        there = x.there;
        leads = x.leads;
      }

  pub closed_so : (histories : List (List ℕ)) → AreClosed code Local histories → AreClosed code Also histories
  closed_so histories x =
      record { first = among_so histories first_image x.first; each = λ k p n h a b there leads e. among_so histories b (x.each k p n h a b there leads e) }

  pub kept_so : (histories : List (List ℕ)) → AreKept code Local histories → AreKept code Also histories
  kept_so histories x = record { some = x.some; each = λ k h e. next_so histories k h (x.each k h e); different = x.different }
