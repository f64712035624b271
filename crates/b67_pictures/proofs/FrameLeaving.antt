-- The frame of a block or of a procedure is left: it goes, and the part around goes on, with what is given.
use Rattle.std.proofs.Common.{◌≡◌, ◌≢◌, refl, sym, ap, ◌∙◌, subst, ℕ, ◌<◌, List, [], ◌∷◌, length, Option, Some, None, Bool, false, arith, true, ◌⊎◌, inl, inr, ◌++◌}
use Rattle.b67_list.proofs.Numbered.{numbered_set}
use Rattle.b67_pictures.proofs.Prelude.{if◌then◌else◌, reverse, numbered, Leave, PProgram, Scopes, scopes_of, Ask, leaves, ask, Choice, choice, choice_of, left_with, left_or_ended, fails, some_depends, is_evaluation, leave, Process, Part, lives, World, instance_at, IsStanding, IsOwn, Word, Place, Code, Rows, is_from, place, gives, Image, plain, Below, letter, Texts, Core, IsCore, HasCore, length_set_numbered, some_same, system_stays, Leaves, after, outer_is, left_has, left_others, IsSameBut, same_but, HaveTexts, arrays_unchanged, IsClosed, FramesClose, events_left, IsElsewhere, event_outside, HasFacts, facts_of, KeepsArrays, StayBelow, owned_frame, ArraysAre, EventsAre, Waits, Owned, all_laid, AreAlike, alike_but, InnerActor, choice_is, gives_within, goes_on, TheLaws, fewer_closed, held_of, Living, Pictures, PicturesBy, StateIs, Does, gave, leaves_here}
use Rattle.b67_num.specs.declared.FaultKind.TheVariants as fault
use Rattle.b67_table.specs.Outcome as outcomes
use Rattle.b67_table.specs.Table.{raw, table}
use Rattle.b67_rows.proofs.Parting.{parted, same_ancestors, others_stay}
use Rattle.b67_scenes.proofs.Tasks as tasks
use Rattle.b67_pictures.proofs.Alone.{IsAfter, dependent_but, after_choice, stands_on, leaves_alone}
use Rattle.b67_pictures.proofs.LeftInstances.{keeps_left}
use Rattle.b67_pictures.proofs.LeavingWords as leaving
use Rattle.b67_pictures.proofs.LeavingWords.{leaves_so, rows_are, low, shown_home}
use Rattle.b67_pictures.proofs.PartAround as around
use Rattle.b67_pictures.proofs.PartAround.{smaller, living_now, GivesBack}

module _ (tree : PProgram) (code : Code) (texts : Texts) (stand : HaveTexts tree code texts) (laws : TheLaws) (closing : FramesClose) (actor : InnerActor tree code texts) where
  open actor use {w, lay, img, p, q, part, next, parts, core, s}

  module _ (able_is : lives q.state ≡ true) (able_p : StateIs (scopes_of tree) w lay q.state (numbered img.states p)) (owns : is_evaluation part.purpose ≡ false) where
    abbrev sc : Scopes
    sc = scopes_of tree

    abbrev i : ℕ
    i = part.instance

    -- the part has the frame's instance for its own
    abbrev own_frame : Owned tree code texts w lay p part (next ∷ parts) (length s.stands.frame.lower) s.stands.frame.mark s.stands.frame.control s.stands.frame.cells
    own_frame = owned_frame tree code texts w lay p part (next ∷ parts) core.below s.stands.frame owns

    abbrev u : Waits tree code texts w lay p next parts s.stands.frame.lower s.stands.frame.mark s.stands.frame.control s.stands.frame.gives
    u = s.around.0

    abbrev f : ℕ
    f = length s.stands.frame.lower

    abbrev b : Below
    b = leaving.b tree code texts actor

    abbrev display : List (Option Place)
    display = leaving.display tree code texts actor

    -- the arrays of the instance are closed
    pub shut : IsClosed sc w lay img i s.stands.frame.cells
    shut = closing sc w lay img s.by.arrays p i (next ∷ parts) f s.stands.frame.mark s.stands.frame.control s.stands.frame.cells own_frame.framed

    abbrev pub e : Leaves img core u.below u.words s.stands.frame.mark s.stands.frame.control s.stands.frame.cells b display
    e = leaves_so tree code texts actor shut.rows shut.changes

    own_is : numbered w.instances i ≡ Some own_frame.framed.instance
    own_is = own_frame.framed.is

    module _ (given_back : GivesBack tree code texts actor) where
      open given_back use {answer as r, given}

      abbrev q' : Process
      q' = around.q' tree code texts stand laws actor given_back

      abbrev new : Core
      new = around.new tree code texts stand laws actor given_back

      -- ---- the world

      abbrev w' : World
      w' = parted w p q' i own_frame.framed.instance own_is

      as_many : length lay.places ≡ length w'.instances
      as_many = s.by.laid ∙ sym (length_set_numbered w.instances i (record (instance_at w i) { left = true }))

      facts : HasFacts w
      facts = facts_of sc w s.ok

      same_now : (j : ℕ) → IsSameBut (instance_at w' j) (instance_at w j)
      same_now j = same_but w p q' i own_frame.framed.instance own_is j

      abbrev IsLater : Type 0
      IsLater = IsAfter sc w w' p

      keeps_all : (j : ℕ) → IsStanding w j → IsStanding w' j → KeepsArrays sc w w' lay lay j
      keeps_all j st later = keeps_left sc w w' lay j (same_now j)

      alike : IsLater → (m : ℕ) → m ≢ p → AreAlike sc w w' lay lay m
      alike after_it m other =
          alike_but sc w w' lay m i own_frame.framed.instance (record (instance_at w i) { left = true })
          (leaves_alone sc w w' lay lay p facts after_it keeps_all (λ j x there. there) (all_laid w lay facts s.by.laid) (dependent_but w.processes p q q' s.at refl (λ alive. alive)) m other) own_is
          (λ (x : m ≡ own_frame.framed.instance.process). other (x ∙ own_frame.framed.own)) refl (tasks.events_left w w' same_now)

      stay : IsLater → StayBelow sc w w' lay lay p f
      stay after_it =
          record {
            on = stands_on sc w w' lay lay p facts after_it keeps_all (λ j x there. there);
            instances = λ j at x there own laid under. others_stay w p q' i own_frame.framed.instance own_is j (λ (same : i ≡ j). lower j at laid under same) ∙ there;
            rows = λ j at x there own laid under. refl;
          }
        where
          lower : (j at : ℕ) → numbered lay.places j ≡ Some (place p at) → at < f → i ≡ j → ⊥
          lower j at laid under same =
              let k : f ≡ at = ap (λ (x : Place). x.at) (some_same (sym own_frame.framed.laid ∙ ap (numbered lay.places) same ∙ laid)) in
              absurd (omega (arith, k, under))

      -- ---- the image

      module _ (over : ℕ) where
        is_core : IsCore new
        is_core =
            outer_is code img p core s.has over (leaves_here e) given
            (shown_home tree code texts actor ∙ ap (λ (n : ℕ). Some (place n (length u.frame.lower))) (sym s.has.own))
            (omega (arith, low tree code texts actor, u.cells_are))

        abbrev pub now : Image
        now = after code img p core s.has over (leaves_here e) given

        has_here : HasCore now p new
        has_here = left_has code img p core s.has over (leaves_here e) given is_core

        others : (m : ℕ) (other : Core) → m ≢ p → HasCore img m other → HasCore now m other
        others = left_others code img p core s.has over (leaves_here e) given

        here : IsLater → Living tree code texts w' lay now p q'
        here after_it =
            living_now tree code texts stand laws actor given_back (record {
              world = w';
              climb = after_it.climb;
              as_many = as_many;
              at_now = numbered_set w.processes p q q' s.at;
              stay = stay after_it;
              same_now = same_now;
              same_up = λ up j. same_ancestors w p q' i own_frame.framed.instance own_is up j;
              now = now;
              has_here = has_here;
            })

        -- the events of the instance are closed, and no others
        events_now : EventsAre sc w' lay now.events
        events_now =
            events_left sc w w' lay i own_frame.framed.instance (record (instance_at w i) { left = true }) own_is refl refl core.registers.stack (length (u.below ++ reverse u.words)) img.events
            (λ j number e at other h.
            ap (λ (n : ℕ). is_from n (length (u.below ++ reverse u.words)) at) s.has.own
            ∙ ap (λ (ws : List Word). is_from p (length ws) at) (sym u.lower_is)
            ∙ event_outside tree code texts w lay p (next ∷ parts) s.stands.frame.lower s.stands.frame.mark s.stands.frame.control s.stands.frame.gives s.around j
            (in_outer j other (subst (λ (ps : List Part). IsOwn ps j ⊎ IsElsewhere lay p j) s.todo (held_of tree code texts w lay img s.by s.ok p q s.at j h.instance h.is h.stands))) number e at h) s.by.events
          where
            without : (j : ℕ) → i ≢ j → IsOwn (part ∷ next ∷ parts) j → IsOwn (next ∷ parts) j
            without j other (inl own) = absurd (other own.1)
            without j other (inr own) = own

            in_outer : (j : ℕ) → i ≢ j → IsOwn (part ∷ next ∷ parts) j ⊎ IsElsewhere lay p j → IsOwn (next ∷ parts) j ⊎ IsElsewhere lay p j
            in_outer j other (inl own) = inl (without j other own)
            in_outer j other (inr elsewhere) = inr elsewhere

        pictured : IsLater → PicturesBy tree code texts w' lay now
        pictured after_it =
            goes_on tree code texts w lay img s.by p q s.at w' lay now q' refl able_is as_many
            (subst (λ (rows : Rows). ArraysAre sc w' lay rows) (sym (rows_are tree code texts actor shut.rows shut.changes)) (arrays_unchanged sc (leave w (i ∷ [])) w' lay shut.rows refl shut.are)) events_now refl refl refl refl (λ m there listed. fewer_closed core.registers.stack (length (u.below ++ reverse u.words)) img.events m there listed) (alike after_it)
            s.by.output refl refl refl (length_set_numbered img.regs p new.registers) refl (system_stays img p core new s.has refl q w s.at)
            (tasks.state_stays sc w w' lay lay (tasks.events_left w w' same_now) (λ j f laid. laid) q.state (numbered img.states p) able_p) others (here after_it)

        chosen : some_depends w.processes i ≡ false → ask part.rest ≡ leaves r → choice sc w p ≡ record { action = Leave; world = w'; released = []; started = None }
        chosen free asks =
            choice_is sc w p q part (next ∷ parts) s.at s.todo
            ∙ ap (λ (k : Ask). choice_of sc w p q part (next ∷ parts) k) asks
            ∙ ap
            (λ (t : Bool). if t then left_with sc w p q part (next ∷ parts) w r (next ∷ parts) else if some_depends w.processes i then fails sc w p q part (next ∷ parts) fault.CriticalBlockExit
            else left_or_ended sc w p q part (next ∷ parts) r (next ∷ parts)) owns
            ∙ ap (λ (t : Bool). if t then fails sc w p q part (next ∷ parts) fault.CriticalBlockExit else left_or_ended sc w p q part (next ∷ parts) r (next ∷ parts)) free

        -- an operator that leaves the frame with that does it, where no process depends on the instance
        pub leaving_frame : some_depends w.processes i ≡ false → ask part.rest ≡ leaves r → raw code img p ≡ gives now → plain code img p ≡ false → (table code img p ≡ outcomes.gives now → letter code img p ≡ Some Leave) → Does tree code texts w img p
        leaving_frame free asks raw_is not_plain acts =
            gave now not_plain table_is (acts table_is ∙ ap (λ (c : Choice). Some c.action) (sym (chosen free asks)))
            (λ may. subst (λ (c : Choice). Pictures tree code texts c.world now) (sym (chosen free asks))
            (lay, pictured (after_choice sc w w' p q facts may s.at (ap (λ (c : Choice). c.world) (chosen free asks)))))
          where
            table_is : table code img p ≡ outcomes.gives now
            table_is =
                gives_within code img now p new.registers raw_is has_here.registers
                (omega (arith, has_here.is.top, smaller tree code texts stand laws actor given_back))
