-- Each world that a run of an accepted source comes to is as worlds are.
use Rattle.std.proofs.Common.{◌≡◌, ℕ, Bool, true, false, List, [], ◌∷◌, Some, None, refl, subst, if◌then◌else◌}
use Rattle.algol_tree.specs.Plain.{PProgram}
use Rattle.algol_tree.specs.Scopes.{Scopes, scopes_of}
use Rattle.algol_meaning.specs.World.{World}
use Rattle.algol_meaning.specs.Choice.{choice}
use Rattle.algol_meaning.specs.Run.{start, may_go, after_entry, run_from, run}
use Rattle.algol_laws.proofs.Growing.{none_left}
use Rattle.algol_calls.specs.Texts.{AreTexts}
use Rattle.algol_calls.specs.Texts.{HasTexts}
use Rattle.algol_texts.proofs.Programs.{texts_of_accepted_fit, texts_of_sources_fit}
use Rattle.algol_standing.specs.Worlds.{IsWholeInstance}
use Rattle.algol_standing.specs.Fitting.{IsOk}
use Rattle.algol_standing.specs.Laws.{WorldStands}
use Rattle.algol_texts.specs.Laws.{WorldsOfAcceptedStand, WorldsOfSourcesStand}
use Rattle.algol_standing.proofs.Left.{what_is_referred_to_stands, references_lie_on_paths}
use Rattle.algol_standing.proofs.Worlds.{first_world_stands, choices_keep_worlds}

run_stands : (sc : Scopes) (h : List ℕ) (w after : World) → AreTexts sc → IsOk sc IsWholeInstance w → run_from sc h (Some w) ≡ Some after → IsOk sc IsWholeInstance after
unfolding after_entry
run_stands sc [] w after t ok e = let same : w ≡ after = cc in subst (λ (v : World). IsOk sc IsWholeInstance v) same ok
run_stands sc (p ∷ h) w after t ok e = by (may_go w p) refl e (λ k f. run_stands sc h ((choice sc w p).world) after t k f)
  where
    by : (b : Bool) → may_go w p ≡ b → run_from sc h (if b then Some ((choice sc w p).world) else None) ≡ Some after →
        (IsOk sc IsWholeInstance ((choice sc w p).world) → run_from sc h (Some ((choice sc w p).world)) ≡ Some after → IsOk sc IsWholeInstance after) → IsOk sc IsWholeInstance after
    by true goes f later = later (choices_keep_worlds sc w p t ok goes) f
    by false goes f later = absurd (none_left sc h after f)

world_stands : (p : PProgram) (h : List ℕ) (w : World) → HasTexts p → run p h ≡ Some w → WorldStands p w
unfolding run
world_stands p h w its e =
    let sc = scopes_of p in
    let ok : IsOk sc IsWholeInstance w = run_stands sc h (start sc) w its.texts (first_world_stands sc its.outer) e in
    record { ok = ok; none_left = what_is_referred_to_stands sc w ok; on_paths = references_lie_on_paths sc w ok }

pub worlds_of_accepted_stand : WorldsOfAcceptedStand
worlds_of_accepted_stand p h w accepted order e = world_stands p h w (texts_of_accepted_fit p accepted order) e

pub worlds_of_sources_stand : WorldsOfSourcesStand
worlds_of_sources_stand bytes p h w s e = world_stands p h w (texts_of_sources_fit bytes p s) e
