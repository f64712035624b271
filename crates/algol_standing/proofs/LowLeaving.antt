-- Parts that are left, processes that end, and GO TO: nobody comes to more of an instance.
use Rattle.std.proofs.Common.{◌≡◌, ◌⊎◌, ℕ, ◌<◌, List, [], ◌∷◌, ◌++◌, length, Option, Some, None, Bool, true, false, refl, sym, ap, ◌∙◌, subst}
use Rattle.std.specs.Prelude.{if◌then◌else◌, ◌==◌}
use Rattle.b67_list.specs.Numbered.{numbered}
use Rattle.b67_num.specs.declared.FaultKind.TheVariants as fault
use Rattle.algol_tree.specs.declared.tree.Named.{Named}
use Rattle.algol_tree.specs.Blocks.{Block, block_numbered}
use Rattle.algol_tree.specs.Scopes.{Scopes}
use Rattle.algol_meaning.specs.Value.{Reference}
use Rattle.b67_deeds.specs.declared.EventAct.TheVariants as act
use Rattle.b67_deeds.specs.Deeds.{Deed, acts, deed}
use Rattle.algol_meaning.specs.Rest.{Answer}
use Rattle.algol_meaning.specs.Statements.{items_from, settle_items}
use Rattle.algol_meaning.specs.World.{Instance, instance_at, Part, Process, ended, with_process, World}
use Rattle.algol_meaning.specs.Critical.{some_depends, some_depends_on_any, is_evaluation, own_instances}
use Rattle.algol_meaning.specs.Instances.{leave, Cut, cut_at}
use Rattle.algol_meaning.specs.Events.{event_at, change_event, all_withdrawn, released, caused_by_end}
use Rattle.algol_meaning.specs.Asks as asks
use Rattle.algol_meaning.specs.Asks.{ask, resume}
use Rattle.algol_meaning.specs.Choice.{fails, left_with, ended_releasing, left_or_ended, left_choice, gone, goes_to}
use Rattle.algol_paths.proofs.Jumps.{jumps_keep_to_their_text}
use Rattle.algol_standing.specs.Worlds.{held_in_rest, held_in_answer, IsAmongParts, PartsAreGiven, IsWholeInstance, IsSound}
use Rattle.algol_calls.specs.Texts.{KeepToTexts}
use Rattle.algol_standing.proofs.Lists.{false_true}
use Rattle.algol_standing.proofs.Holding.{AreAll, IsForeign, items_hold}
use Rattle.algol_standing.proofs.Fine.{part_stands_in}
use Rattle.algol_standing.proofs.Seen.{there, instance_is}
use Rattle.algol_standing.proofs.LeavesWith.{leaves_foreign, leaves_held}
use Rattle.algol_standing.proofs.Resumed.{no_own}
use Rattle.algol_standing.proofs.Jumping.{cut_all, cut_target, target_is}
use Rattle.algol_standing.proofs.LowWorlds.{Low, plain_low, low_all, all_low, GoesLow, LowIf, PartsLow, process_low, able_low, changed_low, withdrawn_low, leave_low}
use Rattle.algol_standing.proofs.LowNames.{Near}
use Rattle.algol_standing.proofs.LowActing.{old_part, given, task_low, goes_on_low, fails_low}

module _ (sc : Scopes) (texts : KeepToTexts sc) (w : World) (ok : IsSound sc IsWholeInstance w) (p : ℕ) (q : Process) (part : Part) (outer : List Part)
    (is : numbered w.processes p ≡ Some q) (todo : q.todo ≡ part ∷ outer) (b i : ℕ) (X : Type 0) (h : Near sc b i X w part) where
  pub deed_low : (v : World) (r : Reference) (d : Deed) → LowIf sc b i X v → LowIf sc b i X (released v r d).world
  deed_low v r d l =
      able_low sc b i X d.frees (all_withdrawn (change_event v r d.change) r d.withdraws)
      (withdrawn_low sc b i X d.withdraws (change_event v r d.change) r (changed_low sc b i X v r d.change l))

  -- ---- leaving

  module _ (a : Answer) (asks_it : ask part.rest ≡ asks.leaves a) where
    foreign : IsForeign a
    foreign = leaves_foreign (is_evaluation part.purpose) part.rest a asks_it (no_own part outer (given sc w ok p q part outer is todo b i X h))

    brings : AreAll (Low sc b i X) (held_in_answer a)
    brings =
        leaves_held (Low sc b i X) part.rest a asks_it
        (all_low sc b i X (held_in_rest part.rest) (λ t. ((old_part sc w ok p q part outer is todo b i X h part (◌⊎◌.inl refl)).low t).holds))

    given_below : (next : Part) (parts : List Part) → PartsAreGiven (part ∷ next ∷ parts) → PartsAreGiven (next ∷ parts)
    given_below next parts g = g.2

    next_low : (next : Part) (parts : List Part) → outer ≡ next ∷ parts → GoesLow sc b i X (record next { rest = resume sc next.rest a })
    next_low next parts below =
        goes_on_low sc w ok p q part outer is todo b i X h next (subst (λ ps. IsAmongParts (part ∷ ps) next) (sym below) (◌⊎◌.inr (◌⊎◌.inl refl)))
        (no_own next parts (given_below next parts (subst (λ ps. PartsAreGiven (part ∷ ps)) below (given sc w ok p q part outer is todo b i X h)))) a brings foreign

    left_with_low : (v : World) → LowIf sc b i X v → (parts : List Part) → outer ≡ parts → LowIf sc b i X (left_with sc w p q part outer v a parts).world
    left_with_low v l [] below = l
    left_with_low v l (next ∷ parts) below =
        process_low sc b i X v p (record q { todo = record next { rest = resume sc next.rest a } ∷ parts }) l each (task_low sc w ok p q part outer is todo b i X h)
      where
        each : PartsLow sc b i X (record next { rest = resume sc next.rest a } ∷ parts)
        each x (◌⊎◌.inl f) = subst (λ z. GoesLow sc b i X z) f (next_low next parts below)
        each x (◌⊎◌.inr n) = old_part sc w ok p q part outer is todo b i X h x (◌⊎◌.inr (subst (λ ps. IsAmongParts ps x) (sym below) (◌⊎◌.inr n)))

    abbrev without : World
    without = leave w (part.instance ∷ [])

    gone_low : LowIf sc b i X without
    gone_low = leave_low sc b i X (part.instance ∷ []) w h.low

    -- the process ends
    ends_low : (v : World) → LowIf sc b i X v → LowIf sc b i X (with_process v p (record q { todo = []; state = ended }))
    ends_low v l = process_low sc b i X v p (record q { todo = []; state = ended }) l (λ x n. absurd n) (task_low sc w ok p q part outer is todo b i X h)

    ended_by : (o : Option Reference) → LowIf sc b i X (ended_releasing sc w p q part outer (caused_by_end without p o)).world
    ended_by None = ends_low without gone_low
    ended_by (Some r) =
        let d = deed (acts act.Cause) p (event_at without r) in ends_low (released without r d).world (deed_low without r d gone_low)

    left_or_ended_low : (parts : List Part) → outer ≡ parts → LowIf sc b i X (left_or_ended sc w p q part outer a parts).world
    left_or_ended_low [] below = ended_by q.task
    left_or_ended_low (next ∷ parts) below = left_with_low without gone_low (next ∷ parts) below

    pub leaves_low : LowIf sc b i X (left_choice sc w p q part outer a).world
    leaves_low = by (is_evaluation part.purpose) (some_depends w.processes part.instance)
      where
        by : (s d : Bool) →
            LowIf sc b i X
            (if s then left_with sc w p q part outer w a outer else if d then fails sc w p q part outer fault.CriticalBlockExit else left_or_ended sc w p q part outer a outer).world
        by true d = left_with_low w h.low outer refl
        by false true = fails_low sc w ok p q part outer is todo b i X h fault.CriticalBlockExit
        by false false = left_or_ended_low outer refl

  -- ---- GO TO

  module _ (n : Named) (k : ℕ) where
    module _ (newer : List Part) (target : Part) (parts : List Part) (all_is : part ∷ outer ≡ newer ++ target ∷ parts) (target_owns : is_evaluation target.purpose ≡ false)
        (at_k : target.instance ≡ k) where
      abbrev label_block : Block
      label_block = block_numbered sc.blocks ((instance_at w k).block)

      abbrev there_on : Part
      there_on = record target { rest = settle_items sc (items_from label_block n.name) }

      among : (xs : List Part) (x : Part) → IsAmongParts (target ∷ parts) x → IsAmongParts (xs ++ target ∷ parts) x
      among [] x m = m
      among (y ∷ xs) x m = ◌⊎◌.inr (among xs x m)

      in_all : (x : Part) → IsAmongParts (target ∷ parts) x → IsAmongParts (part ∷ outer) x
      in_all x m = subst (λ ps. IsAmongParts ps x) (sym all_is) (among newer x m)

      known : (instance_at w k).block < length sc.blocks
      known =
          let st = part_stands_in w ok.skeleton_ok p q target target.instance is (subst (λ ps. IsAmongParts ps target) (sym todo) (in_all target (◌⊎◌.inl refl))) (◌⊎◌.inl refl) in
          let x = there sc IsWholeInstance w ok target.instance st in
          subst (λ m. (instance_at w m).block < length sc.blocks) at_k
          (subst (λ (y : Instance). y.block < length sc.blocks) (sym (instance_is sc IsWholeInstance w ok target.instance x.0 x.1)) ((ok.instances target.instance x.0 x.1).known))

      there_low : GoesLow sc b i X there_on
      there_low =
          record {
            low = λ t.
                record {
                  holds = low_all sc b i X (held_in_rest (settle_items sc (items_from label_block n.name)))
                      (items_hold (Low sc b i X) (plain_low sc b i X) false sc (items_from label_block n.name)).0 t;
                  narrow = λ e f. false_true (sym target_owns ∙ e);
                };
            makes = λ o f m. absurd (m (jumps_keep_to_their_text.none sc ((instance_at w k).block) label_block n.name (texts ((instance_at w k).block) known)));
          }

      target_low : LowIf sc b i X (gone sc w p q part outer (own_instances newer) label_block n (target ∷ parts)).world
      target_low =
          process_low sc b i X (leave w (own_instances newer)) p (record q { todo = there_on ∷ parts }) (leave_low sc b i X (own_instances newer) w h.low) each
          (task_low sc w ok p q part outer is todo b i X h)
        where
          each : PartsLow sc b i X (there_on ∷ parts)
          each x (◌⊎◌.inl f) = subst (λ z. GoesLow sc b i X z) f there_low
          each x (◌⊎◌.inr m) = old_part sc w ok p q part outer is todo b i X h x (in_all x (◌⊎◌.inr m))

    abbrev cut : Cut
    cut = cut_at [] (part ∷ outer) k

    by_parts : (parts : List Part) → cut.from ≡ parts → LowIf sc b i X (gone sc w p q part outer (own_instances cut.newer) (block_numbered sc.blocks ((instance_at w k).block)) n parts).world
    by_parts [] e = h.low
    by_parts (target ∷ parts) e =
        let its = target_is target k (cut_target [] (part ∷ outer) k target parts e) in
        target_low cut.newer target parts (cut_all [] (part ∷ outer) k ∙ ap (λ ps. cut.newer ++ ps) e) its.0 its.1

    pub jump_low : LowIf sc b i X (goes_to sc w p q part outer n k).world
    jump_low = by ((instance_at w k).process == p) (some_depends_on_any w.processes (own_instances cut.newer))
      where
        by : (s d : Bool) →
            LowIf sc b i X
            (if s then
            if d then fails sc w p q part outer fault.CriticalBlockExit
            else gone sc w p q part outer (own_instances cut.newer) (block_numbered sc.blocks ((instance_at w k).block)) n cut.from
            else fails sc w p q part outer fault.BadGoTo).world
        by false d = fails_low sc w ok p q part outer is todo b i X h fault.BadGoTo
        by true true = fails_low sc w ok p q part outer is todo b i X h fault.CriticalBlockExit
        by true false = by_parts cut.from refl
