-- Several events are told in the image as in the world.
use Rattle.std.proofs.Common.{◌≡◌, refl, sym, ap, ◌∙◌, ℕ, ◌+◌, List, [], ◌∷◌, Option, Some, Bool}
use Rattle.b67_pictures.proofs.Prelude.{if◌then◌else◌, answers, EventState, PProgram, scopes_of, event_at, Reference, World, event_in, IsOk, IsWholeInstance, Place, Code, Event, Image, Texts, HasFacts, Layout, PicturesBy, ListIs}
use Rattle.b67_deeds.specs.declared.EventTest.TheVariants as test
use Rattle.algol_meaning.specs.Events as meant
use Rattle.b67_events.specs.Events as kernel
use Rattle.b67_scenes.proofs.SeveralHomes.{AllStanding}
use Rattle.b67_pictures.proofs.EventMoving.{means_here, open_here}
use Rattle.b67_pictures.proofs.SameEvents.{AllOwned}
use Rattle.b67_pictures.proofs.Waiters.{owned_standing}

-- what stands is owned by processes that live
module _ (tree : PProgram) (code : Code) (texts : Texts) (w : World) (lay : Layout) (img : Image) (by : PicturesBy tree code texts w lay img) (ok : IsOk (scopes_of tree) IsWholeInstance w) where
  pub all_standing : (rs : List Reference) → AllStanding w rs → AllOwned w rs
  all_standing [] stand = tt
  all_standing (r ∷ rs) stand = (owned_standing tree code texts w lay img by ok r.instance stand.0, all_standing rs stand.1)

module _ (tree : PProgram) (code : Code) (texts : Texts) (w : World) (lay : Layout) (img : Image) (by : PicturesBy tree code texts w lay img) (facts : HasFacts w) where
  -- the first that has happened is the same in both
  pub first_there : (n : ℕ) (rs : List Reference) (ats : List Place) → ListIs (scopes_of tree) w lay rs ats → AllOwned w rs →
      kernel.first_that (λ (at : Place). answers test.WaitAny (kernel.state_at at img.events)) n ats ≡ meant.first_that (λ (r : Reference). answers test.WaitAny (event_at w r)) n rs
  first_there n [] [] is owned = refl
  first_there n [] (at ∷ ats) is owned = absurd is
  first_there n (r ∷ rs) [] is owned = absurd is
  first_there n (r ∷ rs) (at ∷ ats) is owned =
      ap (λ (b : Bool). if b then Some n else kernel.first_that (λ (x : Place). answers test.WaitAny (kernel.state_at x img.events)) (n + 1) ats) same
      ∙ ap (λ (o : Option ℕ). if answers test.WaitAny (event_at w r) then Some n else o) (first_there (n + 1) rs ats is.1 owned.1)
    where
      same : answers test.WaitAny (kernel.state_at at img.events) ≡ answers test.WaitAny (event_at w r)
      same =
          ap (λ (x : Option Event). answers test.WaitAny (kernel.state_of x)) (open_here tree code texts w lay img by facts r at is.0 owned.0)
          ∙ ap (λ (e : EventState). answers test.WaitAny e) (sym (ap event_in (means_here tree code texts w lay img by facts r at is.0 owned.0)))
