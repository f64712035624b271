-- The leaving of a part keeps what worlds are: of an evaluation, of an instance, and of a process's last one, which ends it.
use Rattle.std.proofs.Common.{◌≡◌, ◌⊎◌, ℕ, List, [], ◌∷◌, ◌++◌, Option, Some, None, Bool, true, false, refl, sym, ap, ◌∙◌, subst}
use Rattle.std.specs.Prelude.{if◌then◌else◌, ◌||◌}
use Rattle.b67_list.specs.Numbered.{numbered}
use Rattle.b67_list.proofs.Numbered.{numbered_set}
use Rattle.b67_num.specs.declared.FaultKind.TheVariants as fault
use Rattle.algol_tree.specs.Scopes.{Scopes}
use Rattle.algol_meaning.specs.Value.{Reference, event}
use Rattle.b67_deeds.specs.declared.EventAct.TheVariants as act
use Rattle.b67_deeds.specs.Events.{EventState}
use Rattle.b67_deeds.specs.Deeds as deeds
use Rattle.b67_deeds.specs.Deeds.{Deed, deed, after_change}
use Rattle.b67_deeds.specs.Listed.{IsListed}
use Rattle.algol_meaning.specs.Rest.{Answer}
use Rattle.algol_meaning.specs.World.{Instance, cell_in, cell_at, Part, Process, able, ended, lives, with_process, process_at, set_all_able, World}
use Rattle.algol_meaning.specs.Critical.{some_depends, some_depends_on_any, is_evaluation, own_instances}
use Rattle.algol_meaning.specs.Instances.{leave}
use Rattle.algol_meaning.specs.Events.{event_at, change_event, all_withdrawn, caused_by_end}
use Rattle.algol_meaning.specs.Asks as asks
use Rattle.algol_meaning.specs.Asks.{Ask, ask_hole, ask_actuals, ask_aim, ask, resume}
use Rattle.algol_meaning.specs.Choice.{fails, left_with, ended_releasing, left_or_ended, left_choice}
use Rattle.algol_laws.proofs.Heads.{resume_acts}
use Rattle.algol_paths.specs.Arrays.{all_to_make}
use Rattle.algol_standing.specs.Skeleton.{IsInSkeleton}
use Rattle.algol_standing.specs.Worlds.{held_in_answer, newest_own, stack_of, IsStanding, IsOwn, IsAmongParts, Awaits, WaitersAreListed, IsAwaited, GivesNoOwn, HasHead, IsWholeInstance, IsSound}
use Rattle.algol_standing.proofs.Lists.{false_true}
use Rattle.algol_standing.proofs.Holding.{AreAll, IsForeign}
use Rattle.algol_standing.proofs.Pairs.{AllPairs, pairs_map, pairs_set_both, stack_forth}
use Rattle.algol_standing.proofs.Alike.{InstanceAlike, process_self}
use Rattle.algol_standing.proofs.Seen.{CellOk}
use Rattle.algol_standing.proofs.Fine.{Fine, fine_of, fine_tail}
use Rattle.algol_standing.proofs.Unmoved.{Unmoved, unmoved_self}
use Rattle.algol_standing.proofs.Acted.{IsStillMade, still_self, acted_ok}
use Rattle.algol_standing.proofs.Resumed.{others_wait, no_own, fine_holds, answered, answered_fine, answered_still}
use Rattle.algol_standing.proofs.Awaiting.{awaits_procures}
use Rattle.algol_standing.proofs.Listed.{now_listed, WaitsAt, happened, still_procures, listed_then}
use Rattle.algol_standing.proofs.Events.{changed_unmoved, released_instances}
use Rattle.algol_standing.proofs.Quiet.{same_ok}
use Rattle.algol_standing.proofs.Acting.{acting}
use Rattle.algol_standing.proofs.Left.{task}
use Rattle.algol_standing.proofs.Stacks.{leave_same}
use Rattle.algol_standing.proofs.LeavesWith.{leaves_foreign, leaves_held, leaves_answer, leaves_place, leaves_nothing, waits}
use Rattle.algol_standing.proofs.Leaving.{stood, left_ok}

module _ (sc : Scopes) (w : World) (ok : IsSound sc IsWholeInstance w) (p : ℕ) (q : Process) (part : Part) (outer : List Part) (is : numbered w.processes p ≡ Some q) (todo : q.todo ≡ part ∷ outer)
    (able_is : q.state ≡ able) (a : Answer) (asks_it : ask part.rest ≡ asks.leaves a) where
  fine : Fine sc w (part ∷ outer)
  fine = subst (λ ps. Fine sc w ps) todo (fine_of sc w ok p q is)

  head : HasHead q.todo
  head = (ok.processes p q is).heads (ap lives able_is)

  not_awaited : (r : Reference) → IsAwaited q.state r → ⊥
  not_awaited r n = subst (λ s. IsAwaited s r) able_is n

  foreign : IsForeign a
  foreign = leaves_foreign (is_evaluation part.purpose) part.rest a asks_it (no_own part outer fine.given)

  -- ---- the part below goes on

  module _ (next : Part) (parts : List Part) (below : outer ≡ next ∷ parts) (newer : List ℕ) (own_is : own_instances (part ∷ next ∷ parts) ≡ newer ++ own_instances (next ∷ parts))
      (out : is_evaluation part.purpose ≡ false → IsInSkeleton newer part.instance) (none : some_depends_on_any w.processes newer ≡ false)
      (brings : AreAll (CellOk sc IsWholeInstance w ok (newest_own (next ∷ parts))) (held_in_answer a)) where
    both : q.todo ≡ part ∷ next ∷ parts
    both = todo ∙ ap (λ ps. part ∷ ps) below

    fine_here : Fine sc w (part ∷ next ∷ parts)
    fine_here = subst (λ ps. Fine sc w (part ∷ ps)) below fine

    fine_next : Fine sc w (next ∷ parts)
    fine_next = fine_tail sc w part (next ∷ parts) fine_here

    waits_now : (x : Part) → IsAmongParts (next ∷ parts) x → ask x.rest ≡ asks.nothing
    waits_now = others_wait q part (next ∷ parts) head both

    acts : ask (resume sc next.rest a) ≡ asks.nothing → ⊥
    acts =
        acting (ask (resume sc next.rest a))
        (resume_acts sc next.rest a (leaves_answer part.rest a asks_it)
        (λ f. leaves_place part.rest a asks_it ((fine_here.given).1 (waits next.rest f (waits_now next (◌⊎◌.inl refl))))))

    head_then : HasHead (answered sc w ok next parts fine_next a foreign brings ∷ parts)
    head_then =
        record {
          part = answered sc w ok next parts fine_next a foreign brings;
          outer = parts;
          is = refl;
          acts = acts;
          wait = λ x n. waits_now x (◌⊎◌.inr n);
        }

    still_then : (x : Part) → IsAmongParts q.todo x → is_evaluation x.purpose ≡ false → all_to_make x.rest ≡ [] →
        IsInSkeleton newer x.instance ⊎ IsStillMade (answered sc w ok next parts fine_next a foreign brings ∷ parts) x
    still_then x n o m = by (subst (λ ps. IsAmongParts ps x) both n)
      where
        by : IsAmongParts (part ∷ next ∷ parts) x → IsInSkeleton newer x.instance ⊎ IsStillMade (answered sc w ok next parts fine_next a foreign brings ∷ parts) x
        by (◌⊎◌.inl f) = ◌⊎◌.inl (subst (λ (y : Part). IsInSkeleton newer y.instance) f (out (ap (λ (y : Part). is_evaluation y.purpose) f ∙ o)))
        by (◌⊎◌.inr k) = ◌⊎◌.inr (answered_still sc w ok next parts fine_next a foreign brings x k o m)

    owned : (i : ℕ) → IsOwn (answered sc w ok next parts fine_next a foreign brings ∷ parts) i → IsOwn q.todo i
    owned i n = subst (λ ps. IsOwn ps i) (sym both) (◌⊎◌.inr (same n))
      where
        same : IsOwn (answered sc w ok next parts fine_next a foreign brings ∷ parts) i → IsOwn (next ∷ parts) i
        same m = m

    goes_on : IsSound sc IsWholeInstance (left_with sc w p q part outer (leave w newer) a (next ∷ parts)).world
    goes_on =
        left_ok sc w ok p q is able_is newer (answered sc w ok next parts fine_next a foreign brings ∷ parts) q.state (ap own_instances both ∙ own_is)
        (answered_fine sc w ok next parts fine_next a foreign brings) (λ l. head_then) not_awaited owned still_then none (◌⊎◌.inl (ap lives able_is))

  -- ---- an evaluation

  evaluation_left : is_evaluation part.purpose ≡ true → (parts : List Part) → outer ≡ parts → IsSound sc IsWholeInstance (left_with sc w p q part outer w a parts).world
  evaluation_left e [] below = ok
  evaluation_left e (next ∷ parts) below = goes_on next parts below [] (ap (λ b. if b then own_instances (next ∷ parts) else part.instance ∷ own_instances (next ∷ parts)) e) out refl brings
    where
      out : is_evaluation part.purpose ≡ false → IsInSkeleton [] part.instance
      out f = false_true (sym f ∙ e)

      top_same : newest_own (part ∷ outer) ≡ newest_own (next ∷ parts)
      top_same = ap (λ b. if b then newest_own outer else part.instance) e ∙ ap newest_own below

      brings : AreAll (CellOk sc IsWholeInstance w ok (newest_own (next ∷ parts))) (held_in_answer a)
      brings =
          subst (λ i. AreAll (CellOk sc IsWholeInstance w ok i) (held_in_answer a)) top_same
          (leaves_held (CellOk sc IsWholeInstance w ok (newest_own (part ∷ outer))) part.rest a asks_it (fine_holds sc w ok part outer fine))

  -- ---- an instance

  module _ (owns : is_evaluation part.purpose ≡ false) (free : some_depends w.processes part.instance ≡ false) where
    own_first : (parts : List Part) → own_instances (part ∷ parts) ≡ part.instance ∷ own_instances parts
    own_first parts = ap (λ b. if b then own_instances parts else part.instance ∷ own_instances parts) owns

    none : some_depends_on_any w.processes (part.instance ∷ []) ≡ false
    none = ap (λ b. b || false) free

    instance_left : (next : Part) (parts : List Part) → outer ≡ next ∷ parts → IsSound sc IsWholeInstance (left_with sc w p q part outer (leave w (part.instance ∷ [])) a (next ∷ parts)).world
    instance_left next parts below =
        goes_on next parts below (part.instance ∷ []) (own_first (next ∷ parts)) (λ e. ◌⊎◌.inl refl) none
        (leaves_nothing (CellOk sc IsWholeInstance w ok (newest_own (next ∷ parts))) part.rest a asks_it
        (subst (λ b. GivesNoOwn b part.rest) owns (no_own part outer fine.given)))

    -- ---- the last one

    module _ (last : outer ≡ []) where
      only : q.todo ≡ part ∷ []
      only = todo ∙ ap (λ ps. part ∷ ps) last

      abbrev before : World
      before = leave w (part.instance ∷ [])

      abbrev over : Process
      over = record q { todo = []; state = ended }

      abbrev closed : World
      closed = with_process before p over

      none_fine : Fine sc w []
      none_fine = record { each = λ x n. absurd n; given = tt; holds = λ e n. absurd n; some = λ n. n }

      dead : lives ended ≡ true → HasHead []
      dead e = false_true e

      never : (r : Reference) → IsAwaited ended r → ⊥
      never r n = n

      all_left : (x : Part) → IsAmongParts q.todo x → is_evaluation x.purpose ≡ false → all_to_make x.rest ≡ [] → IsInSkeleton (part.instance ∷ []) x.instance ⊎ IsStillMade [] x
      all_left x n o m = by (subst (λ ps. IsAmongParts ps x) only n)
        where
          by : IsAmongParts (part ∷ []) x → IsInSkeleton (part.instance ∷ []) x.instance ⊎ IsStillMade [] x
          by (◌⊎◌.inl f) = ◌⊎◌.inl (◌⊎◌.inl (ap (λ (y : Part). y.instance) f))
          by (◌⊎◌.inr k) = absurd k

      owned_none : (i : ℕ) → IsOwn [] i → IsOwn q.todo i
      owned_none i n = absurd n

      own_only : own_instances q.todo ≡ (part.instance ∷ []) ++ own_instances []
      own_only = ap own_instances only ∙ own_first []

      closed_ok : IsSound sc IsWholeInstance closed
      closed_ok =
          left_ok sc w ok p q is able_is (part.instance ∷ []) [] ended own_only none_fine dead never owned_none all_left none (◌⊎◌.inr (part.instance, refl, refl, refl))

      closed_stood : (i : ℕ) → IsStanding closed i → IsStanding w i
      closed_stood i st =
          (stood sc w ok p q is able_is (part.instance ∷ []) [] ended own_only none_fine dead never owned_none all_left none (◌⊎◌.inr (part.instance, refl, refl, refl)) i st).0

      cells_same : (r : Reference) → cell_at before r ≡ cell_at w r
      cells_same r = leave_same (λ (x : Instance). cell_in x.cells r.name) (λ x. refl) w (part.instance ∷ []) r.instance

      listed_before : (r : Reference) (e : EventState) → IsStanding w r.instance → cell_at before r ≡ event e → WaitersAreListed before r e
      listed_before r e st f =
          let l = ok.listed r e st (sym (cells_same r) ∙ f) in
          record { waiters = l.waiters; procurers = l.procurers; once = l.once; once_waiting = l.once_waiting }

      -- its task's event is caused
      module _ (r : Reference) (task_is : q.task ≡ Some r) where
        stands : IsStanding w r.instance
        stands = task sc IsWholeInstance w ok p q r is (ap lives able_is) task_is

        listed_now : WaitersAreListed before r (event_at before r)
        listed_now = now_listed before r (λ e f. listed_before r e stands f)

        abbrev d : Deed
        d = deed (deeds.acts act.Cause) p (event_at before r)

        free_now : (k : ℕ) → IsListed d.frees k → WaitsAt before r k
        free_now k n = ◌⊎◌.inl (listed_now.waiters k n)

        also : (k : ℕ) → IsListed d.frees k → Awaits ((process_at before k).state) r → IsListed d.withdraws k
        also k n a = n

        abbrev v : World
        v = happened before p q over is able_is r d.change d.withdraws d.frees free_now also

        instances : AllPairs InstanceAlike closed.instances v.instances
        instances = released_instances before r d

        processes : AllPairs Unmoved closed.processes v.processes
        processes =
            pairs_set_both Unmoved before.processes (set_all_able (all_withdrawn (change_event before r d.change) r d.withdraws) d.frees).processes p over (unmoved_self over) (changed_unmoved before r d free_now)

        here : WaitersAreListed v r (after_change d.change (event_at before r))
        here =
            record {
              waiters = λ k n. absurd n;
              procurers = λ k n.
                  still_procures before p q over is able_is r d.change d.withdraws d.frees free_now also k r (listed_now.procurers k n)
                  (λ m. awaits_procures ((process_at before k).state) r r (listed_now.waiters k m) (listed_now.procurers k n));
              once = listed_now.once;
              once_waiting = tt;
            }

        at_p : numbered closed.processes p ≡ Some over
        at_p = numbered_set before.processes p q over is

        task_caused : IsSound sc IsWholeInstance v
        task_caused =
            acted_ok sc closed closed_ok p over at_p over (process_self over) (closed_ok.processes p over at_p)
            (λ e n. closed_ok.skeleton_ok.evaluates p (stack_of over) e (stack_forth closed p over at_p) n) (still_self []) v instances
            (pairs_map Unmoved (λ x z. ((x ≡ over) × (z ≡ over)) ⊎ Unmoved x z) (λ x z f. ◌⊎◌.inr f) closed.processes v.processes processes)
            (λ s e st f. listed_then before p q over is able_is r d.change d.withdraws d.frees free_now also here s e (λ d g. listed_before s d (closed_stood s.instance st) g) f)

      ends : (o : Option Reference) → q.task ≡ o → IsSound sc IsWholeInstance (ended_releasing sc w p q part outer (caused_by_end before p o)).world
      ends None e = closed_ok
      ends (Some r) e = task_caused r e

    by_parts : (parts : List Part) → outer ≡ parts → IsSound sc IsWholeInstance (left_or_ended sc w p q part outer a parts).world
    by_parts [] last = ends last q.task refl
    by_parts (next ∷ parts) below = instance_left next parts below

  pub left_keeps : IsSound sc IsWholeInstance (left_choice sc w p q part outer a).world
  left_keeps = by (is_evaluation part.purpose) refl
    where
      owns_it : is_evaluation part.purpose ≡ false → (b : Bool) → some_depends w.processes part.instance ≡ b →
          IsSound sc IsWholeInstance (if b then fails sc w p q part outer fault.CriticalBlockExit else left_or_ended sc w p q part outer a outer).world
      owns_it o true f = same_ok sc w (fails sc w p q part outer fault.CriticalBlockExit).world ok refl refl
      owns_it o false f = by_parts o f outer refl

      by : (b : Bool) → is_evaluation part.purpose ≡ b →
          IsSound sc IsWholeInstance
          (if b then left_with sc w p q part outer w a outer
          else if some_depends w.processes part.instance then fails sc w p q part outer fault.CriticalBlockExit
          else left_or_ended sc w p q part outer a outer).world
      by true e = evaluation_left e outer refl
      by false e = owns_it e (some_depends w.processes part.instance) refl
