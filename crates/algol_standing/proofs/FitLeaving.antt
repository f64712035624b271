-- Parts that are left, processes that end, and GO TO: calls stay fitting.
use Rattle.std.proofs.Common.{◌≡◌, ◌⊎◌, ℕ, ◌<◌, List, [], ◌∷◌, ◌++◌, length, Option, Some, None, Bool, true, false, refl, sym, ap, ◌∙◌, subst}
use Rattle.std.specs.Prelude.{if◌then◌else◌, ◌==◌}
use Rattle.b67_list.specs.Numbered.{numbered}
use Rattle.b67_num.specs.declared.FaultKind.TheVariants as fault
use Rattle.algol_tree.specs.declared.tree.Named.{Named}
use Rattle.algol_tree.specs.Blocks.{Block, block_numbered}
use Rattle.algol_tree.specs.Scopes.{Scopes}
use Rattle.algol_meaning.specs.Value.{Reference}
use Rattle.b67_deeds.specs.declared.EventAct.TheVariants as act
use Rattle.b67_deeds.specs.Deeds.{acts, deed}
use Rattle.algol_meaning.specs.Rest.{Answer, done, value, cell, place, entered}
use Rattle.algol_meaning.specs.Statements.{items_from, settle_items}
use Rattle.algol_meaning.specs.World.{Instance, instance_at, Part, Process, able, ended, lives, with_process, World}
use Rattle.algol_meaning.specs.Critical.{some_depends, some_depends_on_any, is_evaluation, own_instances}
use Rattle.algol_meaning.specs.Instances.{leave, Cut, cut_at}
use Rattle.algol_meaning.specs.Events.{event_at, released, caused_by_end}
use Rattle.algol_meaning.specs.Asks as asks
use Rattle.algol_meaning.specs.Asks.{nothing, ask, resume}
use Rattle.algol_meaning.specs.Choice.{fails, left_with, ended_releasing, left_or_ended, left_choice, gone, goes_to}
use Rattle.algol_calls.specs.Fits.{CallsFitInTexts, AskFits, AnswerFits}
use Rattle.algol_calls.proofs.Statements.{settled_fits}
use Rattle.algol_calls.proofs.Rests.{labelled_fits}
use Rattle.algol_standing.specs.Worlds.{held_in_rest, held_in_answer, IsAmongParts, HasHead, IsWholeInstance, IsSound}
use Rattle.algol_standing.specs.Fitting.{IsPlainAt, LeadsRight, AllLeadRight, PartFits, WorldFits}
use Rattle.algol_standing.proofs.Holding.{IsForeign, items_hold}
use Rattle.algol_standing.proofs.Fine.{Fine, fine_of, fine_tail, part_stands_in}
use Rattle.algol_standing.proofs.Seen.{there, instance_is}
use Rattle.algol_standing.proofs.Lists.{false_true}
use Rattle.algol_standing.proofs.LeavesWith.{leaves_foreign, leaves_held}
use Rattle.algol_standing.proofs.Resumed.{others_wait, no_own}
use Rattle.algol_standing.proofs.Jumping.{cut_all, cut_target, target_is}
use Rattle.algol_standing.proofs.FitWorlds.{Extends, extends_self, extends_then, all_right, right_all, plain_too, part_too, process_fits, leave_fits}
use Rattle.algol_standing.proofs.FitReleasing.{deed_fits}
use Rattle.algol_standing.proofs.FitActing.{simple_right, goes_on_fits, each_fits, here_fits, asked, parts_fit, outer_fits, fails_fit}

-- what a part leaves with fits where another waits
waiting : (sc : Scopes) (a : Answer) → AskFits sc (asks.leaves a) → AnswerFits sc nothing a
waiting sc (place p) f = f
waiting sc done f = tt
waiting sc (value v) f = tt
waiting sc (cell c) f = tt
waiting sc entered f = tt

module _ (sc : Scopes) (texts : CallsFitInTexts sc) (w : World) (ok : IsSound sc IsWholeInstance w) (fits : WorldFits sc w) (p : ℕ) (q : Process) (part : Part) (outer : List Part)
    (is : numbered w.processes p ≡ Some q) (todo : q.todo ≡ part ∷ outer) (able_is : q.state ≡ able) where
  fine : Fine sc w (part ∷ outer)
  fine = subst (λ ps. Fine sc w ps) todo (fine_of sc w ok p q is)

  head : HasHead q.todo
  head = (ok.processes p q is).heads (ap lives able_is)

  -- ---- leaving

  module _ (a : Answer) (asks_it : ask part.rest ≡ asks.leaves a) where
    foreign : IsForeign a
    foreign = leaves_foreign (is_evaluation part.purpose) part.rest a asks_it (no_own part outer fine.given)

    brings : AllLeadRight sc w (held_in_answer a)
    brings =
        all_right sc w (held_in_answer a)
        (leaves_held (LeadsRight sc w) part.rest a asks_it (right_all sc w (held_in_rest part.rest) (here_fits sc w ok fits p q part outer is todo).holds))

    fit : AnswerFits sc nothing a
    fit = waiting sc a (asked sc w ok fits p q part outer is todo (asks.leaves a) asks_it)

    next_fits : (next : Part) (parts : List Part) → outer ≡ next ∷ parts → PartFits sc w (record next { rest = resume sc next.rest a })
    next_fits next parts below =
        goes_on_fits sc w next a (each_fits sc w ok fits p q part outer is todo next (subst (λ ps. IsAmongParts (part ∷ ps) next) (sym below) (◌⊎◌.inr (◌⊎◌.inl refl))))
        (no_own next parts (fine_tail sc w part (next ∷ parts) (subst (λ ps. Fine sc w (part ∷ ps)) below fine)).given)
        (subst (λ x. AnswerFits sc x a) (sym (others_wait q part outer head todo next (subst (λ ps. IsAmongParts ps next) (sym below) (◌⊎◌.inl refl)))) fit) brings foreign

    left_with_fits : (v : World) → Extends w v → WorldFits sc v → (parts : List Part) → outer ≡ parts → WorldFits sc (left_with sc w p q part outer v a parts).world
    left_with_fits v more h [] below = h
    left_with_fits v more h (next ∷ parts) below =
        process_fits sc v p (record q { todo = record next { rest = resume sc next.rest a } ∷ parts }) h
        (parts_fit sc w ok fits p q part outer is todo v more (record next { rest = resume sc next.rest a } ∷ parts) each q.state (λ r f. f))
      where
        each : (x : Part) → IsAmongParts (record next { rest = resume sc next.rest a } ∷ parts) x → PartFits sc v x
        each x (◌⊎◌.inl f) = subst (λ z. PartFits sc v z) f (part_too sc w v more (record next { rest = resume sc next.rest a }) (next_fits next parts below))
        each x (◌⊎◌.inr n) = outer_fits sc w ok fits p q part outer is todo v more x (subst (λ ps. IsAmongParts ps x) (sym below) (◌⊎◌.inr n))

    abbrev without : World
    without = leave w (part.instance ∷ [])

    gone_fits : WorldFits sc without × Extends w without
    gone_fits = leave_fits sc (part.instance ∷ []) w fits

    -- the process ends
    ends_fits : (v : World) → Extends w v → WorldFits sc v → WorldFits sc (with_process v p (record q { todo = []; state = ended }))
    ends_fits v more h =
        process_fits sc v p (record q { todo = []; state = ended }) h (parts_fit sc w ok fits p q part outer is todo v more [] (λ x n. absurd n) ended (λ r f. false_true f))

    ended_by : (o : Option Reference) → q.task ≡ o → WorldFits sc (ended_releasing sc w p q part outer (caused_by_end without p o)).world
    ended_by None e = ends_fits without gone_fits.1 gone_fits.0
    ended_by (Some r) e =
        let plain : IsPlainAt sc without r = plain_too sc w without gone_fits.1 r ((fits.processes p q is).task r e) in
        let d = deed (acts act.Cause) p (event_at without r) in
        let x = deed_fits sc without r d gone_fits.0 plain in
        ends_fits (released without r d).world (extends_then w without (released without r d).world gone_fits.1 x.1) x.0

    left_or_ended_fits : (parts : List Part) → outer ≡ parts → WorldFits sc (left_or_ended sc w p q part outer a parts).world
    left_or_ended_fits [] below = ended_by q.task refl
    left_or_ended_fits (next ∷ parts) below = left_with_fits without gone_fits.1 gone_fits.0 (next ∷ parts) below

    pub leaves_fit : WorldFits sc (left_choice sc w p q part outer a).world
    leaves_fit = by (is_evaluation part.purpose) (some_depends w.processes part.instance)
      where
        by : (b c : Bool) →
            WorldFits sc (if b then left_with sc w p q part outer w a outer else if c then fails sc w p q part outer fault.CriticalBlockExit else left_or_ended sc w p q part outer a outer).world
        by true c = left_with_fits w (extends_self w w refl) fits outer refl
        by false true = fails_fit sc w ok fits p q part outer is todo fault.CriticalBlockExit
        by false false = left_or_ended_fits outer refl

  -- ---- GO TO

  module _ (n : Named) (i : ℕ) where
    module _ (newer : List Part) (target : Part) (parts : List Part) (all_is : part ∷ outer ≡ newer ++ target ∷ parts) (at_i : target.instance ≡ i) where
      abbrev v : World
      v = leave w (own_instances newer)

      away : WorldFits sc v × Extends w v
      away = leave_fits sc (own_instances newer) w fits

      abbrev b : Block
      b = block_numbered sc.blocks ((instance_at w i).block)

      abbrev there_on : Part
      there_on = record target { rest = settle_items sc (items_from b n.name) }

      among : (xs : List Part) (x : Part) → IsAmongParts (target ∷ parts) x → IsAmongParts (xs ++ target ∷ parts) x
      among [] x m = m
      among (y ∷ xs) x m = ◌⊎◌.inr (among xs x m)

      in_all : (x : Part) → IsAmongParts (target ∷ parts) x → IsAmongParts (part ∷ outer) x
      in_all x m = subst (λ ps. IsAmongParts ps x) (sym all_is) (among newer x m)

      known : (instance_at w i).block < length sc.blocks
      known =
          let st = part_stands_in w ok.skeleton_ok p q target target.instance is (subst (λ ps. IsAmongParts ps target) (sym todo) (in_all target (◌⊎◌.inl refl))) (◌⊎◌.inl refl) in
          let x = there sc IsWholeInstance w ok target.instance st in
          subst (λ k. (instance_at w k).block < length sc.blocks) at_i
          (subst (λ (y : Instance). y.block < length sc.blocks) (sym (instance_is sc IsWholeInstance w ok target.instance x.0 x.1)) ((ok.instances target.instance x.0 x.1).known))

      there_fits : PartFits sc v there_on
      there_fits =
          record {
            rest = settled_fits sc (items_from b n.name) (labelled_fits sc b n.name (texts ((instance_at w i).block) known));
            holds = all_right sc v (held_in_rest (settle_items sc (items_from b n.name))) (items_hold (LeadsRight sc v) (simple_right sc v) false sc (items_from b n.name)).0;
          }

      each : (x : Part) → IsAmongParts (there_on ∷ parts) x → PartFits sc v x
      each x (◌⊎◌.inl f) = subst (λ z. PartFits sc v z) f there_fits
      each x (◌⊎◌.inr m) = part_too sc w v away.1 x (each_fits sc w ok fits p q part outer is todo x (in_all x (◌⊎◌.inr m)))

      target_fits : WorldFits sc (gone sc w p q part outer (own_instances newer) b n (target ∷ parts)).world
      target_fits =
          process_fits sc v p (record q { todo = there_on ∷ parts }) away.0 (parts_fit sc w ok fits p q part outer is todo v away.1 (there_on ∷ parts) each q.state (λ r f. f))

    abbrev cut : Cut
    cut = cut_at [] (part ∷ outer) i

    by_parts : (parts : List Part) → cut.from ≡ parts →
        WorldFits sc (gone sc w p q part outer (own_instances cut.newer) (block_numbered sc.blocks ((instance_at w i).block)) n parts).world
    by_parts [] e = fits
    by_parts (target ∷ parts) e =
        target_fits cut.newer target parts (cut_all [] (part ∷ outer) i ∙ ap (λ ps. cut.newer ++ ps) e) (target_is target i (cut_target [] (part ∷ outer) i target parts e)).1

    pub jump_fits : WorldFits sc (goes_to sc w p q part outer n i).world
    jump_fits = by ((instance_at w i).process == p) (some_depends_on_any w.processes (own_instances cut.newer))
      where
        by : (b c : Bool) →
            WorldFits sc
            (if b then
            if c then fails sc w p q part outer fault.CriticalBlockExit
            else gone sc w p q part outer (own_instances cut.newer) (block_numbered sc.blocks ((instance_at w i).block)) n cut.from
            else fails sc w p q part outer fault.BadGoTo).world
        by false c = fails_fit sc w ok fits p q part outer is todo fault.BadGoTo
        by true true = fails_fit sc w ok fits p q part outer is todo fault.CriticalBlockExit
        by true false = by_parts cut.from refl
