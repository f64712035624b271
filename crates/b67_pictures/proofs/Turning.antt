-- The turn of a loop, and the choice of a case.
use Rattle.std.proofs.Common.{◌≡◌, refl, ap, ◌∙◌, ℕ, ◌≤◌, List, Ok, arith}
use Rattle.b67_pictures.proofs.Prelude.{PProgram, Scopes, scopes_of, Ask, turns, choice_of, done, Brun, Code, operator_at, Texts, Core, with_core, CoreAt, at_operator, action_not_plain, action_is, makes, unmade, operator_there, AbleActor, choice_is, text_in, level_in, TheLaws, Does}
use Rattle.b67_deeds.specs.declared.Letter.TheVariants.{Turn}
use Rattle.b67_ops.specs.declared.Operator.TheVariants as ops
use Rattle.b67_table.specs.Effect as effects
use Rattle.b67_table.specs.Outcome as outcomes
use Rattle.b67_rows.proofs.TurnRow.{at_place, turns_back, turn_raw, turn_class}
use Rattle.b67_pictures.proofs.InFrame.{does_in_frame}
use Rattle.b67_pictures.proofs.Head.{Head}

module _ (tree : PProgram) (code : Code) (texts : Texts) (laws : TheLaws) (actor : AbleActor tree code texts) where
  open actor use {w, img, p, q, part, outer, core, s}

  abbrev sc : Scopes
  sc = scopes_of tree

  module _ (head : Head tree code texts actor turns) where
    open head use {asks, action as a, answered}

    there : operator_at code core.registers ≡ Ok (ops.Branch Brun a.0, a.1)
    there = operator_there sc s.stands.held code (text_in tree texts w part) (level_in tree w part) s.stands.pc s.stands.slots core (ops.Branch Brun a.0) a.1 s.stands.there a.2.stands

    abbrev new : Core
    new = at_place core a.0

    back : a.0 ≤ core.registers.place
    back = omega (arith, a.2.back, s.stands.there.place_is)

    core_at : CoreAt sc s.stands.held code (text_in tree texts w part) (level_in tree w part) a.0 s.stands.slots new
    core_at =
        record {
          segment = s.stands.there.segment;
          there = s.stands.there.there;
          spells = s.stands.there.spells;
          level_is = s.stands.there.level_is;
          place_is = refl;
          is = record { bottom = s.has.is.bottom; top = s.has.is.top };
          mark_is = s.stands.there.mark_is;
          words_are = s.stands.there.words_are;
        }

    pub turning : Does tree code texts w img p
    turning =
        does_in_frame tree code texts laws actor (record {
          unmade = unmade part.rest (ap makes asks);
          answer = done;
          nameless = tt;
          new = new;
          below = refl;
          frame_is = record { is = refl };
          known = s.stands.held;
          known_are = s.stands.held_are;
          pc = a.0;
          slots = s.stands.slots;
          there = core_at;
          few = s.stands.few;
          comes = answered done a.0 s.stands.slots (refl, refl);
        }) w.output Turn
        (action_not_plain code (ops.Branch Brun a.0) (at_operator s.has there) (turn_class code a.0 (at_operator s.has there) back))
        (turn_raw code a.0 (at_operator s.has there) back ∙ ap (λ (o : List (List ℕ)). effects.gives (record (with_core img p new) { output = o })) s.by.output)
        (choice_is sc w p q part outer s.at s.todo ∙ ap (λ (k : Ask). choice_of sc w p q part outer k) asks)
        (λ t. action_is code (ops.Branch Brun a.0) (at_operator s.has there) (outcomes.gives (record (with_core img p new) { output = w.output })) t
        ∙ (turns_back code a.0 (at_operator s.has there) back))
