-- What is done with events keeps the picture, in each scene whose head asks for it.
use Rattle.std.proofs.Common.{◌≡◌, refl, pos, [], ◌∷◌, List, Option, Some, None, Bool, false}
use Rattle.b67_pictures.proofs.Prelude.{EventDeed, is_of_several, EventAct, EventTest, PProgram, scopes_of, Named, makes_event, event_deed, ask, resume, choice, done, value, number, truth, Code, releases, HasKind, AreNested, Texts, ComesTo, operand, CellsAreMade, AbleActor, actor_of, text_in, level_in, context_in, most_in, TheLaws, Does}
use Rattle.b67_deeds.specs.declared.EventTest.TheVariants as test
use Rattle.b67_deeds.specs.Deeds as deeds
use Rattle.algol_tree.specs.Types as types
use Rattle.b67_standing.proofs.OnEvents.{nobody_named, one_named}
use Rattle.b67_pictures.proofs.ActingEvents.{acting_event, answer_of, slots_of}
use Rattle.b67_pictures.proofs.Dispatching.{IsDone}
use Rattle.b67_pictures.proofs.MakingEvents.{making_event}
use Rattle.b67_pictures.proofs.SeveralActions.{waiting_for_any, few_whole}
use Rattle.b67_pictures.proofs.Settling.{AreFreed}
use Rattle.b67_pictures.proofs.Deeds.{Tells}
use Rattle.b67_pictures.proofs.Head.{At, AnswersAfter, Head}

module _ (tree : PProgram) (code : Code) (texts : Texts) (nested : AreNested (scopes_of tree)) (laws : TheLaws) where
  pub event_made_done : CellsAreMade → (n : Named) → IsDone tree code texts (makes_event n)
  event_made_done cells_made n actor h = making_event tree code texts nested laws cells_made actor n h

  -- what a test of one event leaves is a truth value
  one_kind : (x : EventTest) → is_of_several (deeds.tests x) ≡ false → (b : Bool) → HasKind (types.told_by x) (truth b)
  one_kind test.Happened one b = tt
  one_kind test.Available one b = tt
  one_kind test.Fix one b = tt
  one_kind test.WaitAny one b = cc

  module _ (actor : AbleActor tree code texts) where
    open actor use {w, img, p, part, s}

    tested_done : (x : EventTest) → is_of_several (deeds.tests x) ≡ false → (ns : List Named) → Head tree code texts actor (event_deed (deeds.tests x) ns) → Does tree code texts w img p
    tested_done x one [] h =
        absurd (nobody_named (scopes_of tree) (context_in tree code texts w part s.stands.frame.gives) (text_in tree texts w part) (level_in tree w part) (most_in tree w part) (deeds.tests x) s.stands.pc h.action.0 s.stands.slots h.action.1 h.action.2)
    tested_done x one (n ∷ m ∷ ns) h =
        absurd (one_named (scopes_of tree) (context_in tree code texts w part s.stands.frame.gives) (text_in tree texts w part) (level_in tree w part) (most_in tree w part) (deeds.tests x) n m ns s.stands.pc h.action.0 s.stands.slots h.action.1 one h.action.2)
    tested_done x one (n ∷ []) h =
        (acting_event tree code texts nested laws actor (record { deed_done = deeds.tests x; one = one; name = n; asks = h.asks; next = h.action.0; below = h.action.1; acts_at = h.action.2; comes_to = comes })).does
      where
        comes : (told : Option Bool) → Tells (deeds.tests x) told →
            ComesTo (scopes_of tree) (context_in tree code texts w part s.stands.frame.gives) (text_in tree texts w part) (level_in tree w part) (most_in tree w part) (resume (scopes_of tree) part.rest (answer_of told)) h.action.0 (slots_of told h.action.1)
        comes None tells = absurd tells
        comes (Some b) tells = h.answered (value (truth b)) h.action.0 (operand (truth b) ∷ h.action.1) (refl, refl, one_kind x one b)

    -- a statement on an event
    acted : (x : EventAct) (ns : List Named) → ask part.rest ≡ event_deed (deeds.acts x) ns → (a : At tree code texts (actor_of s) (event_deed (deeds.acts x) ns)) →
        AnswersAfter tree code texts (actor_of s) (event_deed (deeds.acts x) ns) a → Does tree code texts w img p × (releases code img p ≡ (choice (scopes_of tree) w p).released)
    acted x [] asks a answered =
        absurd (nobody_named (scopes_of tree) (context_in tree code texts w part s.stands.frame.gives) (text_in tree texts w part) (level_in tree w part) (most_in tree w part) (deeds.acts x) s.stands.pc a.0 s.stands.slots a.1 a.2)
    acted x (n ∷ m ∷ ns) asks a answered =
        absurd (one_named (scopes_of tree) (context_in tree code texts w part s.stands.frame.gives) (text_in tree texts w part) (level_in tree w part) (most_in tree w part) (deeds.acts x) n m ns s.stands.pc a.0 s.stands.slots a.1 refl a.2)
    acted x (n ∷ []) asks a answered =
        let d = acting_event tree code texts nested laws actor (record { deed_done = deeds.acts x; one = refl; name = n; asks = asks; next = a.0; below = a.1; acts_at = a.2; comes_to = comes }) in
        (d.does, d.frees)
      where
        comes : (told : Option Bool) → Tells (deeds.acts x) told →
            ComesTo (scopes_of tree) (context_in tree code texts w part s.stands.frame.gives) (text_in tree texts w part) (level_in tree w part) (most_in tree w part) (resume (scopes_of tree) part.rest (answer_of told)) a.0 (slots_of told a.1)
        comes None tells = answered done a.0 a.1 (refl, refl)
        comes (Some b) tells = absurd tells

  pub event_deed_done : (x : EventDeed) (ns : List Named) → IsDone tree code texts (event_deed x ns)
  event_deed_done (deeds.acts x) ns actor h = (acted actor x ns h.asks h.action h.answered).0
  event_deed_done (deeds.tests test.Happened) ns actor h = tested_done actor test.Happened refl ns h
  event_deed_done (deeds.tests test.Available) ns actor h = tested_done actor test.Available refl ns h
  event_deed_done (deeds.tests test.Fix) ns actor h = tested_done actor test.Fix refl ns h
  event_deed_done (deeds.tests test.WaitAny) ns actor h =
      waiting_for_any tree code texts nested laws actor ns h.asks h.action.0 h.action.1 h.action.2
      (λ n few. h.answered (value (number (pos n))) h.action.0 (operand (number (pos n)) ∷ h.action.1) (refl, refl, few_whole n few))

  pub event_freed_done : AreFreed tree code texts
  event_freed_done x ns actor asks a answered = (acted actor x ns asks a answered).1
