-- From the states of a search to their histories, and to what is told of them.
use Rattle.std.proofs.Common.{◌≡◌, sym, ap, subst, ◌∙◌, ℕ, List, ◌∷◌, reverse, Some}
use Rattle.std.specs.Prelude.{slice_get}
use Rattle.std.specs.List.{All}
use Rattle.std.proofs.lemmas.List.{reverse-reverse}
use Rattle.std.proofs.lemmas.Option.{slice_get-get_or, slice_get_within}
use Rattle.b67_segment.specs.declared.code.Code.{Code}
use Rattle.b67_outcomes.specs.declared.found.Found.{Found}
use Rattle.b67_outcomes.specs.Entering.{Stops}
use Rattle.b67_outcomes.specs.Finding.{History, AreNoted}
use Rattle.b67_outcomes.proofs.Apart.{same_tail}
use Rattle.b67_outcomes.proofs.Kept.{IsHistoryOf}
use Rattle.b67_told.specs.declared.Outcome.{Outcome}
use Rattle.b67_told.specs.declared.Told.{Told}
use Rattle.b67_told.specs.Telling.{OutcomeIsTold}
use Rattle.b67_teller.specs.Following.{EndsAs, StopsAs, stopped_outcome}
use Rattle.b67_teller.specs.Books.{AreTold}
use Rattle.b67_outcomes_all.specs.Outcomes.{IsHistoryTold}

turned : (g h : List ℕ) → reverse g ≡ reverse h → g ≡ h
turned g h e = sym (reverse-reverse g) ∙ ap reverse e ∙ reverse-reverse h

module _ (code : Code) (found : Found) (told : List Told) (histories : List (List ℕ)) (x : IsHistoryOf found.steps.items found.states.items histories)
    (are : AreTold code found told) (noted : AreNoted code found) where
  ended : (k : ℕ) (h : List ℕ) (o : Outcome) → slice_get histories k ≡ Some h → EndsAs code (reverse h) o → OutcomeIsTold told o
  ended k h o there e =
      let s = x.state k h there in
      let is = subst (λ (z : List ℕ). History found.steps.items s.0.number z) (turned h e.history e.order) s.2 in
      subst (λ (z : Outcome). OutcomeIsTold told z) (sym e.is) (are.ended k s.0 s.1 e.history e.image e.end is e.leads e.ended)

  stopped : (k : ℕ) (h : List ℕ) (p : ℕ) (o : Outcome) → slice_get histories k ≡ Some h → StopsAs code (reverse (p ∷ h)) o → OutcomeIsTold told o
  stopped k h p o there e =
      let s = x.state k h there in
      let same = turned (p ∷ h) (e.process ∷ e.history) e.order in
      let is = subst (λ (z : List ℕ). History found.steps.items s.0.number z) (same_tail p e.process h e.history same) s.2 in
      let n = noted k e.process s.0 e.history e.image e.quiet s.1 is e.leads e.may e.stops in
      let limit =
      are.stopped n.0 n.1 (slice_get_within found.limits.items n.0 n.1 n.2) n.2 e.history e.image e.quiet
      (subst (λ (m : ℕ). History found.steps.items m e.history) (sym n.3) is) e.leads (subst (λ (q : ℕ). Stops code q e.image e.quiet) (sym n.4) e.stops) in
      subst (λ (z : Outcome). OutcomeIsTold told z) (sym e.is) (subst (λ (q : ℕ). OutcomeIsTold told (stopped_outcome e.image q e.quiet)) n.4 limit)

  -- what comes of each is told
  pub histories_told : All (IsHistoryTold code told) histories
  histories_told k d within =
      record {
        ended = λ o e. ended k _ o (slice_get-get_or histories k d within) e;
        stopped = λ p o e. stopped k _ p o (slice_get-get_or histories k d within) e;
      }
