-- A process that waits for several events keeps what worlds are: it stands where it stood, in the list of each of them.
use Rattle.std.proofs.Common.{◌≡◌, ◌⊎◌, ℕ, ◌≤◌, List, [], ◌∷◌, length, Some, true, refl, sym, ap, ◌∙◌, subst}
use Rattle.b67_limits.specs.declared.TheConstants.{MOST_EVENTS}
use Rattle.b67_list.specs.Numbered.{numbered, set_numbered}
use Rattle.b67_list.proofs.Numbered.{numbered_set}
use Rattle.b67_deeds.specs.Events.{EventState, joined}
use Rattle.b67_deeds.specs.Listed.{IsListed}
use Rattle.b67_deeds.proofs.Lists.{listed_either, once_more}
use Rattle.algol_tree.specs.Scopes.{Scopes}
use Rattle.algol_meaning.specs.Value.{Reference, event}
use Rattle.algol_meaning.specs.World.{Part, Process, able, waits_any, lives, or_no_process, process_at, with_process, cell_at, World}
use Rattle.algol_meaning.specs.Events.{event_at, reference_is_among, joined_all}
use Rattle.algol_meaning.proofs.Cited.{joined_processes}
use Rattle.algol_standing.specs.Worlds.{newest_own, stack_of, IsStanding, IsOnPath, Awaits, WaitersAreListed, IsWholeInstance, ProcessOk, IsSound}
use Rattle.algol_standing.proofs.Lists.{some_same}
use Rattle.algol_standing.proofs.Pairs.{AllPairs, pairs_self, pairs_then_set, stack_forth}
use Rattle.algol_standing.proofs.Alike.{ProcessAlike}
use Rattle.algol_standing.proofs.Unmoved.{Unmoved, unmoved_self}
use Rattle.algol_standing.proofs.Acted.{Moved, still_self, acted_ok}
use Rattle.algol_standing.proofs.Awaiting.{awaits_able}
use Rattle.algol_standing.proofs.Changed.{listed_still}
use Rattle.algol_standing.proofs.Joined.{joined_back, joined_instances}
use Rattle.algol_standing.proofs.Listed.{now_listed}

module _ (sc : Scopes) (w : World) (ok : IsSound sc IsWholeInstance w) (p : ℕ) (q : Process) (part : Part) (outer : List Part) (is : numbered w.processes p ≡ Some q)
    (todo : q.todo ≡ part ∷ outer) (able_is : q.state ≡ able) (rs : List Reference)
    (paths : (r : Reference) → reference_is_among rs r ≡ true → IsOnPath w (newest_own (part ∷ outer)) r.instance) (few : length rs ≤ MOST_EVENTS) where
  abbrev waiter : Process
  waiter = record q { state = waits_any rs }

  abbrev v : World
  v = with_process (joined_all w p [] rs) p waiter

  old : ProcessOk sc IsWholeInstance w q
  old = ok.processes p q is

  alike : ProcessAlike q waiter
  alike = record { own = refl; owned = λ i n. n; critical = refl; task = refl; lives = sym (ap lives able_is) }

  waiter_ok : ProcessOk sc IsWholeInstance w waiter
  waiter_ok =
      record {
        parts = old.parts;
        heads = λ l. old.heads (ap lives able_is);
        gives = old.gives;
        awaited = λ r n. subst (λ ps. IsOnPath w (newest_own ps) r.instance) (sym todo) (paths r n);
        few = (old.few.0, few);
      }

  abbrev MovedHere : Process → Process → Type 0
  MovedHere = Moved sc w ok p q is waiter alike waiter_ok (λ e n. ok.skeleton_ok.evaluates p (stack_of q) e (stack_forth w p q is) n) (still_self q.todo)

  processes : AllPairs MovedHere w.processes v.processes
  processes =
      subst (λ qs. AllPairs MovedHere w.processes (set_numbered qs p waiter)) (sym (joined_processes w p [] rs))
      (pairs_then_set Unmoved MovedHere (λ x y f. ◌⊎◌.inr f) w.processes w.processes p waiter (pairs_self Unmoved unmoved_self w.processes)
      (λ x f. ◌⊎◌.inl (some_same f is, refl)))

  state_now : (process_at v p).state ≡ waits_any rs
  state_now =
      ap (λ qs. (or_no_process (numbered (set_numbered qs p waiter) p)).state) (joined_processes w p [] rs)
      ∙ ap (λ o. (or_no_process o).state) (numbered_set w.processes p q waiter is)

  able_at : (process_at w p).state ≡ able
  able_at = ap (λ o. (or_no_process o).state) is ∙ able_is

  still : (r : Reference) (e : EventState) → WaitersAreListed w r e → WaitersAreListed v r e
  still r e l = listed_still w v p q waiter is able_is (ap (λ qs. set_numbered qs p waiter) (joined_processes w p [] rs)) r e l

  listed_joined : (r : Reference) → reference_is_among rs r ≡ true → WaitersAreListed w r (event_at w r) → WaitersAreListed v r (joined p (event_at w r))
  listed_joined r m l =
      let t = still r (event_at w r) l in
      record {
        waiters = λ k n. by k (listed_either (event_at w r).waiters p k n);
        procurers = t.procurers;
        once = t.once;
        once_waiting = once_more (event_at w r).waiters p l.once_waiting (λ n. awaits_able ((process_at w p).state) r (l.waiters p n) able_at);
      }
    where
      here : Awaits ((process_at v p).state) r
      here = subst (λ s. Awaits s r) (sym state_now) m

      by : (k : ℕ) → IsListed (event_at w r).waiters k ⊎ (p ≡ k) → Awaits ((process_at v k).state) r
      by k (◌⊎◌.inl n) = (still r (event_at w r) l).waiters k n
      by k (◌⊎◌.inr f) = subst (λ j. Awaits ((process_at v j).state) r) f here

  listed : (r : Reference) (e : EventState) → IsStanding w r.instance → cell_at v r ≡ event e → WaitersAreListed v r e
  listed r e st f = by (joined_back p w [] rs r e f)
    where
      by : ((reference_is_among rs r ≡ true) × (e ≡ joined p (event_at w r))) ⊎ (cell_at w r ≡ event e) → WaitersAreListed v r e
      by (◌⊎◌.inl g) = subst (λ d. WaitersAreListed v r d) (sym g.1) (listed_joined r g.0 (now_listed w r (λ d h. ok.listed r d st h)))
      by (◌⊎◌.inr g) = still r e (ok.listed r e st g)

  pub waits_ok : IsSound sc IsWholeInstance v
  waits_ok =
      acted_ok sc w ok p q is waiter alike waiter_ok (λ e n. ok.skeleton_ok.evaluates p (stack_of q) e (stack_forth w p q is) n) (still_self q.todo) v
      (joined_instances p w [] rs) processes listed
