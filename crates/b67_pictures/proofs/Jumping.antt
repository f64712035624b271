-- GO TO a label, to the frame of its instance in whatever stack: in that of another process it is the source's fault.
use Rattle.std.proofs.Common.{◌≡◌, ◌≢◌, ◌⊎◌, inl, inr, sym, ap, ◌∙◌, subst, ℕ, ◌+◌, Bool, false, List, [], ◌∷◌, length, Option, Some, arith, Ok}
use Rattle.b67_pictures.proofs.Prelude.{nat_tests, if◌then◌else◌, ◌==◌, pos, PProgram, Scopes, scopes_of, Named, Ask, goes_to, ask, choice, choice_of, gone_to, fails, cut_at, Value, number, Instance, instance_at, or_no_instance, RestsKeepToTheirText, JumpsKeepToTheirText, Place, GoTo, Code, place, operator_at, Texts, ActionAt, AreNumbers, FragmentsArePerformed, at_operator, shown, rebuilt_seen, same_or_not, Linked, runs_at, IsCall, call, Found, operator_there, AbleActor, actor_of, found_own, choice_is, text_in, level_in, context_in, most_in, names_in, Does}
use Rattle.b67_num.specs.declared.FaultKind.TheVariants as fault
use Rattle.b67_ops.specs.declared.Operator.TheVariants as ops
use Rattle.b67_ops.specs.declared.PlainKind.TheVariants as kinds
use Rattle.b67_rows.proofs.Displays.{IsEntered}
use Rattle.b67_frames.proofs.BadJumpRow.{JumpsAway, jump_bad}
use Rattle.b67_pictures.proofs.ParentPlaces.{standing_linked, found_linked}
use Rattle.b67_pictures.proofs.Blocked.{faulting}
use Rattle.b67_pictures.proofs.JumpPlaces as places
use Rattle.b67_pictures.proofs.JumpPlaces.{LeadsJumps}
use Rattle.b67_pictures.proofs.JumpingHere.{jumping_here}

module _ (tree : PProgram) (code : Code) (texts : Texts) (needs : LeadsJumps tree code texts) (fragments : FragmentsArePerformed) (keeps : RestsKeepToTheirText) (jumps_keep : JumpsKeepToTheirText)
    (actor : AbleActor tree code texts) where
  open actor use {w, lay, img, p, q, part, outer, core, s}

  module _ (n : Named) (asks : ask part.rest ≡ goes_to n)
      (a : ActionAt (scopes_of tree) (context_in tree code texts w part s.stands.frame.gives) (text_in tree texts w part) (level_in tree w part) (most_in tree w part) (goes_to n) s.stands.pc s.stands.slots) where
    abbrev sc : Scopes
    sc = scopes_of tree

    -- the label's instance, and where its frame lies
    abbrev i : ℕ
    i = places.i tree code texts needs (actor_of s) n asks a

    abbrev found : Found tree code texts w lay img i
    found = (places.label_seen tree code texts needs (actor_of s) n asks a).found

    linked_there : Linked sc w lay img.stacks i
    linked_there = standing_linked tree code texts w lay img s.by s.ok i (places.label_stands tree code texts needs (actor_of s) n asks a)

    -- of another process
    module _ (other : found.number ≢ p) where
      abbrev given : List Value
      given = number (pos a.2.target) ∷ number (pos a.2.segment) ∷ number (pos a.2.entry) ∷ []

      given_fit : AreNumbers given
      given_fit = (a.2.level_whole, (a.2.segment_whole, (a.2.entry_whole, tt)))

      enters : operator_at code core.registers ≡ Ok (ops.Plain kinds.Entr, a.0)
      enters = operator_there sc s.stands.held code (text_in tree texts w part) (level_in tree w part) s.stands.pc s.stands.slots core (ops.Plain kinds.Entr) a.0 s.stands.there a.2.stands

      c : IsCall tree code texts (actor_of s) GoTo given a.1 given_fit a.2.lies
      c = call tree code texts (actor_of s) GoTo given a.1 given_fit a.2.lies

      deep : a.2.target ≡ length linked_there.more + 2
      deep = places.level_there tree code texts needs (actor_of s) n asks a ∙ linked_there.level_is

      linked_at : linked_there.at ≡ place found.number (length found.lies.frame.lower)
      linked_at = found_linked tree code texts w lay img s.by s.ok i (places.label_stands tree code texts needs (actor_of s) n asks a) linked_there found

      abbrev display : List (Option Place)
      display = shown linked_there.at linked_there.more

      away : JumpsAway img core linked_there.at a.2.target a.2.segment a.2.entry display
      away =
          record {
            low = omega (arith, deep);
            high = omega (
              arith,
              s.stands.there.level_is,
              runs_at part (names_in tree w part) (places.own_part tree code texts needs (actor_of s) n asks a),
              places.level_told tree code texts needs (actor_of s) n asks a,
            );
            shown = places.shown_at tree code texts needs (actor_of s) n asks a ∙ ap (λ (g : Place). Some g) (sym linked_at);
            away = λ (e : (linked_there.at).stack ≡ core.registers.stack). other (sym (ap (λ (g : Place). g.stack) linked_at) ∙ e ∙ s.has.own);
            segment_small = places.segment_small tree code texts needs (actor_of s) n asks a;
            pointer_small = places.pointer_small tree code texts needs (actor_of s) n asks a;
            shows = rebuilt_seen linked_there.at linked_there.home linked_there.more a.2.target (subst (λ (l : ℕ). IsEntered img.stacks linked_there.at linked_there.home l) (sym deep) linked_there.entered) linked_there.links deep;
          }

      not_here : (m : ℕ) → m ≢ p → (m == p) ≡ false
      not_here m apart = grind (arith, nat_tests)

      process_there : (instance_at w i).process ≡ found.number
      process_there =
          ap (λ (x : Instance). x.process) (ap (instance_at w) (sym found.lies.instance_is) ∙ ap or_no_instance found.lies.owned.framed.is) ∙ found.lies.owned.framed.own

      chosen : choice sc w p ≡ fails sc w p q part outer fault.BadGoTo
      chosen =
          choice_is sc w p q part outer s.at s.todo
          ∙ ap (λ (k : Ask). choice_of sc w p q part outer k) asks
          ∙ ap (λ (t : Bool). if t then gone_to sc w p q part outer n i (cut_at [] (part ∷ outer) i) else fails sc w p q part outer fault.BadGoTo)
          (not_here ((instance_at w i).process) (λ e. other (sym process_there ∙ e)))

      jumping_away : Does tree code texts w img p
      jumping_away =
          faulting tree code texts (actor_of s) fault.BadGoTo chosen (ops.Plain kinds.Entr) a.0 enters
          (jump_bad code (at_operator s.has enters) c.arguments c.reference c.marked c.others c.calls linked_there.at a.2.target a.2.segment a.2.entry display away c.wholes)

    pub jumping : Does tree code texts w img p
    jumping = by_number (same_or_not found.number p)
      where
        by_number : (found.number ≡ p) ⊎ (found.number ≢ p) → Does tree code texts w img p
        by_number (inl here) =
            jumping_here tree code texts needs fragments keeps jumps_keep actor n asks a
            (found_own tree code texts (actor_of s) i found here)
        by_number (inr other) = jumping_away other
