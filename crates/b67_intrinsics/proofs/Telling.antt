-- What is told of the event that is an intrinsic's argument.
use Rattle.std.specs.Result.{IsErrAnd}
use Rattle.std.proofs.Common.{◌≡◌, refl, sym, ap, subst, ◌∙◌, List, [], ◌∷◌, Result, Ok, Err}
use Rattle.b67_word.specs.declared.Place.{Place}
use Rattle.b67_word.specs.Word.{Word}
use Rattle.b67_control.specs.declared.Mscw.{Mscw}
use Rattle.b67_control.specs.declared.Registers.{Registers}
use Rattle.b67_table.specs.declared.Cell.{Cell}
use Rattle.b67_table.specs.declared.Reached.{Reached}
use Rattle.b67_table.specs.Arguments.{event_of, if_chained}
use Rattle.b67_table.specs.Image.{Image}
use Rattle.b67_table.specs.Look.{look_seen}
use Rattle.b67_table.specs.Program.{asked, see}
use Rattle.b67_table.specs.References.{reached, cell_place, cell_of}
use Rattle.b67_reach.specs.declared.Stop.{Stop}
use Rattle.b67_reach.specs.Answers.{looked, whole_outcome, stopped, outcome_answered}
use Rattle.b67_reach.proofs.Looking.{asked_on, tells_look, acts_then, acts_stop}
use Rattle.b67_intrinsics.specs.Called.{arguments, only, mark_below, event_tests, IntrinsicLeads}

-- ---- the tests of an intrinsic on an event

only_is : (words : List Word) (w : Word) → Ok w ≡ only words → words ≡ w ∷ []
only_is [] w e = cc
only_is (v ∷ []) w e = let p : v ≡ w = cc in ap (λ (x : Word). x ∷ []) p
only_is (v ∷ u ∷ words) w e = cc

module _ (img : Image) (r : Registers) (m : Mscw) (w : Word) (is : Ok w ≡ only (arguments img.stacks r)) where
  in_words : (res : Result Place Stop) → IntrinsicLeads img (event_tests r m (w ∷ [])) res → IntrinsicLeads img (event_tests r m (arguments img.stacks r)) res
  in_words res x =
      subst (λ (words : List Word). IntrinsicLeads img (event_tests r m words) res) (sym (only_is (arguments img.stacks r) w is)) x

  pub no_event : (res : Result Place Stop) (stop : Stop) → whole_outcome (asked img (event_of r w)) ≡ stopped stop → IsErrAnd res (λ e. e ≡ stop)
      → IntrinsicLeads img (event_tests r m (arguments img.stacks r)) res
  no_event (Ok place) stop e i = absurd i
  no_event (Err other) stop e i =
      in_words (Err other) (λ p next. acts_stop p (event_of r w) (λ (c : Cell). if_chained r m (next (cell_place c))) other img img (e ∙ ap (λ (s : Stop). stopped s) (sym i)) refl)

  module _ (c : Cell) (e : whole_outcome (asked img (event_of r w)) ≡ outcome_answered (Ok c)) where
    pub no_lower : (res : Result Place Stop) (stop : Stop) → ◌≡◌ {A = Result Mscw Stop} (Err stop) (looked (look_seen img.stacks (mark_below r m))) → IsErrAnd res (λ e. e ≡ stop)
        → IntrinsicLeads img (event_tests r m (arguments img.stacks r)) res
    no_lower (Ok place) stop f i = absurd i
    no_lower (Err other) stop f i =
        in_words (Err other) (λ p next. acts_then p (event_of r w) (λ (c : Cell). if_chained r m (next (cell_place c))) c img img (Err other) e
        (acts_stop p (see (mark_below r m)) (λ (lower : Mscw). next (cell_place c)) other img img
        ((tells_look (mark_below r m) img.stacks img.rows (Err other) (ap (λ (s : Stop). Err s) i ∙ f)).told img refl refl) refl))

    pub event_found : (lower : Mscw) → Ok lower ≡ looked (look_seen img.stacks (mark_below r m)) → IntrinsicLeads img (event_tests r m (arguments img.stacks r)) (Ok (cell_place c))
    event_found lower f =
        in_words (Ok (cell_place c)) (λ next. asked_on img (event_of r w) (λ (c : Cell). if_chained r m (next (cell_place c))) c e
        ∙ asked_on img (see (mark_below r m)) (λ (lower : Mscw). next (cell_place c)) lower ((tells_look (mark_below r m) img.stacks img.rows (Ok lower) f).told img refl refl))
