-- A new process, whose base is a new instance, keeps what worlds are.
use Rattle.std.proofs.Common.{◌≡◌, ◌⊎◌, ℕ, zero, suc, ◌<◌, ◌≤◌, List, [], ◌∷◌, length, Option, Some, None, true, false, refl, sym, ap, ◌∙◌, subst, arith, length-append}
use Rattle.b67_list.specs.Numbered.{numbered}
use Rattle.algol_tree.specs.Blocks.{block_numbered, around}
use Rattle.algol_tree.specs.Scopes.{Scopes}
use Rattle.algol_meaning.specs.Value.{Reference, Cell, event}
use Rattle.b67_deeds.specs.Events.{EventState}
use Rattle.algol_meaning.specs.Rest.{Item}
use Rattle.algol_meaning.specs.World.{Instance, or_no_instance, instance_at, cell_in, cell_at, Part, Process, State, able, procures, ended, or_no_process, process_at, lives, World}
use Rattle.algol_meaning.specs.Critical.{referred_by, referred_by_task}
use Rattle.algol_paths.specs.Blocks.{BlockIsSeen, IsSeenAround, IsInner}
use Rattle.algol_paths.specs.Laws.{KeepsToText}
use Rattle.algol_paths.proofs.Statements.{declared_keeps}
use Rattle.algol_standing.specs.Skeleton.{IsInSkeleton, SkeletonOk}
use Rattle.algol_standing.specs.Worlds.{held_in_rest, newest_own, stack_of, skeleton, IsStanding, IsOnPath, IsOwn, IsAmongParts, inside, Awaits, WaitersAreListed, IsWholeInstance, PartOk, ProcessOk, InstanceOk, IsSound}
use Rattle.algol_calls.specs.Texts.{KeepToTexts}
use Rattle.algol_standing.proofs.Calls.{IsNoEvent}
use Rattle.algol_standing.proofs.Awaiting.{awaits_ended}
use Rattle.algol_standing.proofs.Lists.{false_true}
use Rattle.algol_standing.proofs.Standing.{stands_path, stands_small}
use Rattle.algol_standing.proofs.Holding.{AreAll, items_hold}
use Rattle.algol_standing.proofs.Seen.{CellOk, all_refs, all_names, in_back}
use Rattle.algol_standing.proofs.Stacks.{numbered_last, numbered_small}
use Rattle.algol_standing.proofs.Unmoved.{unmoved_self}
use Rattle.algol_standing.proofs.Changed.{IsPlain}
use Rattle.algol_standing.proofs.Fresh.{simple_plain, fresh_names, fresh_no_event, plain_names}
use Rattle.algol_standing.proofs.Acting.{first_acts}
use Rattle.algol_standing.proofs.Pairs.{stack_back}
use Rattle.algol_standing.proofs.PathFirst.{home_process}
use Rattle.algol_standing.proofs.Carried.{name_held, actual_kept, unmoved_kept, tasks_kept, instance_kept}
use Rattle.algol_standing.proofs.Started as stacked

ended_procures : {A : Type 0} (r : Reference) → ended ≡ procures r → A
ended_procures r e = cc

pub some_inner : {a b : ℕ} → Some a ≡ Some b → a ≡ b
some_inner e = cc

module _ (sc : Scopes) (texts : KeepToTexts sc) (w : World) (ok : IsSound sc IsWholeInstance w) (p : ℕ) (q : Process) (part : Part) (outer : List Part) (is : numbered w.processes p ≡ Some q)
    (todo : q.todo ≡ part ∷ outer) (able_is : q.state ≡ able) (j parent : ℕ) (cells : List Cell) (task : Option Reference) (known : j < length sc.blocks)
    (around_is : around sc.blocks j ≡ (instance_at w parent).block ∷ around sc.blocks ((instance_at w parent).block)) (parent_some : 1 ≤ parent)
    (parent_path : IsOnPath w (newest_own (part ∷ outer)) parent) (parent_whole : IsWholeInstance w parent) (cells_held : AreAll (CellOk sc IsWholeInstance w ok (newest_own (part ∷ outer))) cells)
    (no_events : AreAll IsNoEvent cells) (task_path : (x : ℕ) → IsInSkeleton (referred_by_task task) x → IsOnPath w (newest_own (part ∷ outer)) x) where
  abbrev top : ℕ
  top = stacked.top sc texts w ok p q part outer is todo able_is j parent cells task known around_is parent_some parent_path parent_whole cells_held no_events task_path

  abbrev wanted : List ℕ
  wanted = stacked.wanted sc texts w ok p q part outer is todo able_is j parent cells task known around_is parent_some parent_path parent_whole cells_held no_events task_path

  abbrev critical : ℕ
  critical = stacked.critical sc texts w ok p q part outer is todo able_is j parent cells task known around_is parent_some parent_path parent_whole cells_held no_events task_path

  abbrev items : List Item
  items = stacked.items sc texts w ok p q part outer is todo able_is j parent cells task known around_is parent_some parent_path parent_whole cells_held no_events task_path

  abbrev number : ℕ
  number = stacked.number sc texts w ok p q part outer is todo able_is j parent cells task known around_is parent_some parent_path parent_whole cells_held no_events task_path

  abbrev new : Instance
  new = stacked.new sc texts w ok p q part outer is todo able_is j parent cells task known around_is parent_some parent_path parent_whole cells_held no_events task_path

  abbrev inner : Part
  inner = stacked.inner sc texts w ok p q part outer is todo able_is j parent cells task known around_is parent_some parent_path parent_whole cells_held no_events task_path

  abbrev starter : Process
  starter = stacked.starter sc texts w ok p q part outer is todo able_is j parent cells task known around_is parent_some parent_path parent_whole cells_held no_events task_path

  abbrev v : World
  v = stacked.v sc texts w ok p q part outer is todo able_is j parent cells task known around_is parent_some parent_path parent_whole cells_held no_events task_path

  number_is : number ≡ length (skeleton w).homes
  number_is = stacked.number_is sc texts w ok p q part outer is todo able_is j parent cells task known around_is parent_some parent_path parent_whole cells_held no_events task_path

  number_next : number ≡ suc (length w.instances)
  number_next = stacked.number_next sc texts w ok p q part outer is todo able_is j parent cells task known around_is parent_some parent_path parent_whole cells_held no_events task_path

  top_here : IsStanding w top
  top_here = stacked.top_here sc texts w ok p q part outer is todo able_is j parent cells task known around_is parent_some parent_path parent_whole cells_held no_events task_path

  critical_stands : IsStanding w critical
  critical_stands = stacked.critical_stands sc texts w ok p q part outer is todo able_is j parent cells task known around_is parent_some parent_path parent_whole cells_held no_events task_path

  leads : (x : ℕ) → IsInSkeleton wanted x → IsOnPath w top x → IsOnPath w critical x
  leads = stacked.leads sc texts w ok p q part outer is todo able_is j parent cells task known around_is parent_some parent_path parent_whole cells_held no_events task_path

  v_ok : SkeletonOk (skeleton v)
  v_ok = stacked.v_ok sc texts w ok p q part outer is todo able_is j parent cells task known around_is parent_some parent_path parent_whole cells_held no_events task_path

  paths : (a b : ℕ) → IsStanding w a → IsStanding v a → IsOnPath w a b → IsOnPath v a b
  paths = stacked.paths sc texts w ok p q part outer is todo able_is j parent cells task known around_is parent_some parent_path parent_whole cells_held no_events task_path

  stands_on : (i : ℕ) → IsStanding w i → IsStanding v i
  stands_on = stacked.stands_on sc texts w ok p q part outer is todo able_is j parent cells task known around_is parent_some parent_path parent_whole cells_held no_events task_path

  new_at : numbered v.instances number ≡ Some new
  new_at = stacked.new_at sc texts w ok p q part outer is todo able_is j parent cells task known around_is parent_some parent_path parent_whole cells_held no_events task_path

  old_at : (i : ℕ) → i ≤ length w.instances → instance_at v i ≡ instance_at w i
  old_at = stacked.old_at sc texts w ok p q part outer is todo able_is j parent cells task known around_is parent_some parent_path parent_whole cells_held no_events task_path

  process_before : (k : ℕ) (y : Process) → numbered w.processes k ≡ Some y → numbered v.processes k ≡ Some y
  process_before = stacked.process_before sc texts w ok p q part outer is todo able_is j parent cells task known around_is parent_some parent_path parent_whole cells_held no_events task_path

  new_stands : IsStanding v number
  new_stands = stacked.new_stands sc texts w ok p q part outer is todo able_is j parent cells task known around_is parent_some parent_path parent_whole cells_held no_events task_path

  stood : (i : ℕ) → IsStanding v i → IsStanding w i ⊎ (i ≡ number)
  stood = stacked.stood sc texts w ok p q part outer is todo able_is j parent cells task known around_is parent_some parent_path parent_whole cells_held no_events task_path

  blocks : (i : ℕ) → i < length (skeleton w).homes → (instance_at v i).block ≡ (instance_at w i).block
  blocks = stacked.blocks sc texts w ok p q part outer is todo able_is j parent cells task known around_is parent_some parent_path parent_whole cells_held no_events task_path

  whole : (i : ℕ) → IsStanding v i → IsWholeInstance w i → IsWholeInstance v i
  whole = stacked.whole sc texts w ok p q part outer is todo able_is j parent cells task known around_is parent_some parent_path parent_whole cells_held no_events task_path

  -- ---- processes

  inner_ok : PartOk sc IsWholeInstance v inner
  inner_ok =
      record {
        text = subst (λ k. KeepsToText sc k inner.rest) (sym block_is) (declared_keeps (BlockIsSeen sc j) (IsInner sc j) (IsSeenAround sc j) sc items (texts j known));
        narrow = λ e. false_true e;
        names = λ m n. absurd (plain_names (held_in_rest inner.rest) m (items_hold IsPlain simple_plain false sc items).0 n);
      }
    where
      block_is : (instance_at v number).block ≡ j
      block_is = ap (λ o. (or_no_instance o).block) new_at

  starter_ok : ProcessOk sc IsWholeInstance v starter
  starter_ok =
      record {
        parts = parts;
        heads = λ l. record { part = inner; outer = []; is = refl; acts = first_acts sc items; wait = λ x n. absurd n };
        gives = (items_hold IsPlain simple_plain false sc items).1;
        awaited = λ t n. absurd n;
        few = (omega (arith), omega (arith));
      }
    where
      parts : (x : Part) → IsAmongParts (inner ∷ []) x → PartOk sc IsWholeInstance v x
      parts x (◌⊎◌.inl e) = subst (λ y. PartOk sc IsWholeInstance v y) e inner_ok
      parts x (◌⊎◌.inr n) = absurd n

  process_then : (k : ℕ) (y : Process) → numbered v.processes k ≡ Some y → ProcessOk sc IsWholeInstance v y
  process_then k y e = by (numbered_last w.processes starter k y e)
    where
      by : (numbered w.processes k ≡ Some y) ⊎ ((k ≡ suc (length w.processes)) × (y ≡ starter)) → ProcessOk sc IsWholeInstance v y
      by (◌⊎◌.inl f) = unmoved_kept sc w v ok v_ok paths blocks whole k y y f e (unmoved_self y)
      by (◌⊎◌.inr f) = subst (λ z. ProcessOk sc IsWholeInstance v z) (sym f.1) starter_ok

  older_then : (k c : ℕ) (y : Process) → numbered v.processes k ≡ Some y → lives y.state ≡ true → y.critical ≡ Some c → (i : ℕ) → IsOwn y.todo i → c < i
  older_then k c y e live cr i n = by (numbered_last w.processes starter k y e)
    where
      base_only : Some critical ≡ Some c → IsOwn (inner ∷ []) i → c < i
      base_only f (◌⊎◌.inl m) =
          let small = stands_small (skeleton w) ok.skeleton_ok critical critical_stands in
          let same : critical ≡ c = some_inner f in
          let at : number ≡ i = m.1 in
          let here_is = number_is in
          omega (arith, small, same, at, here_is)
      base_only f (◌⊎◌.inr m) = absurd m

      by : (numbered w.processes k ≡ Some y) ⊎ ((k ≡ suc (length w.processes)) × (y ≡ starter)) → c < i
      by (◌⊎◌.inl f) = ok.older k c y f live cr i n
      by (◌⊎◌.inr f) = base_only (ap (λ (z : Process). z.critical) (sym f.1) ∙ cr) (subst (λ (z : Process). IsOwn z.todo i) f.1 n)

  first_then : (y : Process) → numbered v.processes 1 ≡ Some y → (y.critical ≡ None) × (y.task ≡ None)
  first_then y e = by (numbered_last w.processes starter 1 y e)
    where
      some_process : (k : ℕ) → numbered w.processes k ≡ Some q → k ≤ length w.processes → 1 ≤ length w.processes
      some_process zero f h = cc
      some_process (suc k) f h = omega (arith, h)

      by : (numbered w.processes 1 ≡ Some y) ⊎ ((1 ≡ suc (length w.processes)) × (y ≡ starter)) → (y.critical ≡ None) × (y.task ≡ None)
      by (◌⊎◌.inl f) = ok.first y f
      by (◌⊎◌.inr f) = absurd (let h = some_process p is (numbered_small w.processes p q is) in let g = f.0 in omega (arith, h, g))

  later_then : (k : ℕ) (y : Process) → numbered v.processes (suc (suc k)) ≡ Some y → (c : ℕ) × (y.critical ≡ Some c)
  later_then k y e = by (numbered_last w.processes starter (suc (suc k)) y e)
    where
      by : (numbered w.processes (suc (suc k)) ≡ Some y) ⊎ ((suc (suc k) ≡ suc (length w.processes)) × (y ≡ starter)) → (c : ℕ) × (y.critical ≡ Some c)
      by (◌⊎◌.inl f) = ok.later k y f
      by (◌⊎◌.inr f) = (critical, ap (λ (z : Process). z.critical) f.1)

  -- the critical instance is there, and its process is
  critical_small : critical ≤ length w.instances
  critical_small = let small = stands_small (skeleton w) ok.skeleton_ok critical critical_stands in let n = number_is in omega (arith, small, n)

  critical_process : (instance_at w critical).process ≤ length w.processes
  critical_process = subst (λ k. k ≤ length w.processes) (sym (home_process sc w ok critical critical_stands)) (by (stack_back w critical_stands.number critical_stands.stack critical_stands.is))
    where
      by : ((critical_stands.stack.own ≡ []) × (critical_stands.stack.evaluations ≡ []) × (critical_stands.stack.live ≡ false)) ⊎
          ((y : Process) × (numbered w.processes critical_stands.number ≡ Some y) × (critical_stands.stack ≡ stack_of y)) → critical_stands.number ≤ length w.processes
      by (◌⊎◌.inl f) = absurd (subst (λ xs. IsInSkeleton xs critical) f.0 critical_stands.inside)
      by (◌⊎◌.inr f) = numbered_small w.processes critical_stands.number f.0 f.1

  criticals_then : (k c : ℕ) (y : Process) → numbered v.processes k ≡ Some y → y.critical ≡ Some c → c ≤ length w.instances
  criticals_then k c y e cr = by (numbered_last w.processes starter k y e)
    where
      by : (numbered w.processes k ≡ Some y) ⊎ ((k ≡ suc (length w.processes)) × (y ≡ starter)) → c ≤ length w.instances
      by (◌⊎◌.inl f) = ok.criticals k c y f cr
      by (◌⊎◌.inr f) = subst (λ i. i ≤ length w.instances) (some_inner (ap (λ (z : Process). z.critical) (sym f.1) ∙ cr)) critical_small

  earlier_then : (k c : ℕ) (y : Process) → numbered v.processes k ≡ Some y → y.critical ≡ Some c → (instance_at v c).process < k
  earlier_then k c y e cr =
      subst (λ (x : Instance). x.process < k) (sym (old_at c (criticals_then k c y e cr))) (by (numbered_last w.processes starter k y e))
    where
      by : (numbered w.processes k ≡ Some y) ⊎ ((k ≡ suc (length w.processes)) × (y ≡ starter)) → (instance_at w c).process < k
      by (◌⊎◌.inl f) = ok.earlier k c y f cr
      by (◌⊎◌.inr f) =
          subst (λ i. (instance_at w i).process < k) (some_inner (ap (λ (z : Process). z.critical) (sym f.1) ∙ cr))
          (let h = critical_process in let at = f.0 in omega (arith, h, at))

  tasks_then : (k c : ℕ) (y : Process) (r : Reference) → numbered v.processes k ≡ Some y → lives y.state ≡ true → y.critical ≡ Some c → y.task ≡ Some r → IsOnPath v c r.instance
  tasks_then k c y r e live cr t = by (numbered_last w.processes starter k y e)
    where
      of_task : (o : Option Reference) → o ≡ Some r → IsInSkeleton (referred_by_task o) r.instance
      of_task None f = cc
      of_task (Some s) f = ◌⊎◌.inl (ap (λ (x : Reference). x.instance) (same f))
        where
          same : Some s ≡ Some r → s ≡ r
          same g = cc

      of_starter : Some critical ≡ Some c → task ≡ Some r → IsOnPath v c r.instance
      of_starter f g =
          let n = of_task task g in
          subst (λ i. IsOnPath v i r.instance) (some_inner f)
          (paths critical r.instance critical_stands (stands_on critical critical_stands)
          (leads r.instance (in_back (parent ∷ referred_by cells) (referred_by_task task) r.instance n) (task_path r.instance n)))

      by : (numbered w.processes k ≡ Some y) ⊎ ((k ≡ suc (length w.processes)) × (y ≡ starter)) → IsOnPath v c r.instance
      by (◌⊎◌.inl f) = tasks_kept sc w v ok v_ok paths blocks whole k c y y r f e refl refl live live cr t
      by (◌⊎◌.inr f) = of_starter (ap (λ (z : Process). z.critical) (sym f.1) ∙ cr) (ap (λ (z : Process). z.task) (sym f.1) ∙ t)

  -- ---- instances

  parent_stands : IsStanding w parent
  parent_stands = stands_path (skeleton w) ok.skeleton_ok top parent top_here parent_path

  new_ok : InstanceOk sc IsWholeInstance v number new
  new_ok =
      record {
        left = (λ e. new_stands, λ st. refl);
        known = known;
        placed = inside parent_some (around_is ∙ sym (ap (λ k. k ∷ around sc.blocks k) (blocks parent (stands_small (skeleton w) ok.skeleton_ok parent parent_stands))));
        whole = λ st h. whole parent (stands_on parent parent_stands) parent_whole;
        actuals = λ m st n.
            let k = fresh_names (block_numbered sc.blocks j) cells m n in
            let s = stands_path (skeleton w) ok.skeleton_ok top m.instance top_here (all_refs sc IsWholeInstance w ok top cells cells_held m.instance (name_held cells m k)) in
            actual_kept sc w v ok v_ok paths blocks whole m (s, stands_on m.instance s) (all_names sc IsWholeInstance w ok top cells cells_held m k);
      }

  instance_then : (i : ℕ) (y : Instance) → numbered v.instances i ≡ Some y → InstanceOk sc IsWholeInstance v i y
  instance_then i y e = by (numbered_last w.instances new i y e)
    where
      old : numbered w.instances i ≡ Some y → InstanceOk sc IsWholeInstance v i y
      old f =
          instance_kept sc w v ok v_ok paths blocks whole i y y f refl refl refl
          (λ g. stands_on i ((ok.instances i y f).left.0 g), λ st. (ok.instances i y f).left.1 (still st)) still
        where
          still : IsStanding v i → IsStanding w i
          still st = which (stood i st)
            where
              which : IsStanding w i ⊎ (i ≡ number) → IsStanding w i
              which (◌⊎◌.inl s) = s
              which (◌⊎◌.inr g) = absurd (let h = numbered_small w.instances i y f in omega (arith, g, h))

      by : (numbered w.instances i ≡ Some y) ⊎ ((i ≡ suc (length w.instances)) × (y ≡ new)) → InstanceOk sc IsWholeInstance v i y
      by (◌⊎◌.inl f) = old f
      by (◌⊎◌.inr f) = subst (λ k. InstanceOk sc IsWholeInstance v k y) (number_next ∙ sym f.0) (subst (λ z. InstanceOk sc IsWholeInstance v number z) (sym f.1) new_ok)

  -- ---- events

  state_before : (k : ℕ) (s : State) → (process_at w k).state ≡ s → (ended ≡ s → ⊥) → (process_at v k).state ≡ s
  state_before k s e other = by (numbered w.processes k) refl
    where
      by : (o : Option Process) → numbered w.processes k ≡ o → (process_at v k).state ≡ s
      by None f = absurd (other (ap (λ o. (or_no_process o).state) (sym f) ∙ e))
      by (Some y) f = ap (λ o. (or_no_process o).state) (process_before k y f ∙ sym f) ∙ e

  listed_before : (r : Reference) (e : EventState) → WaitersAreListed w r e → WaitersAreListed v r e
  listed_before r e l =
      record {
        waiters = λ k n.
            subst (λ t. Awaits t r) (sym (state_before k ((process_at w k).state) refl (λ f. awaits_ended ((process_at w k).state) r (l.waiters k n) (sym f)))) (l.waiters k n);
        procurers = λ k n. state_before k (procures r) (l.procurers k n) (λ f. ended_procures r f);
        once = l.once;
        once_waiting = l.once_waiting;
      }

  listed_then : (r : Reference) (e : EventState) → IsStanding v r.instance → cell_at v r ≡ event e → WaitersAreListed v r e
  listed_then r e st f = by (stood r.instance st)
    where
      by : IsStanding w r.instance ⊎ (r.instance ≡ number) → WaitersAreListed v r e
      by (◌⊎◌.inl s) =
          let small = stands_small (skeleton w) ok.skeleton_ok r.instance s in
          let same = old_at r.instance (let n = number_is in omega (arith, small, n)) in
          listed_before r e (ok.listed r e s (ap (λ (x : Instance). cell_in x.cells r.name) (sym same) ∙ f))
      by (◌⊎◌.inr g) =
          absurd (fresh_no_event (block_numbered sc.blocks j) cells no_events r.name e
          (ap (λ o. cell_in ((or_no_instance o).cells) r.name) (sym new_at) ∙ (ap (λ i. cell_in ((instance_at v i).cells) r.name) (sym g) ∙ f)))

  pub started_ok : IsSound sc IsWholeInstance v
  started_ok =
      record {
        skeleton_ok = v_ok;
        instances = instance_then;
        processes = process_then;
        older = older_then;
        first = first_then;
        later = later_then;
        criticals = λ k c y e cr. let h = criticals_then k c y e cr in let more = length-append w.instances (new ∷ []) in omega (arith, h, more);
        earlier = earlier_then;
        tasks = tasks_then;
        listed = listed_then;
      }

  pub starter_before : numbered v.processes p ≡ Some q
  starter_before = process_before p q is
