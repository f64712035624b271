-- The Enter of a block or of a procedure keeps what worlds are.
use Rattle.std.proofs.Common.{◌≡◌, ◌⊎◌, ℕ, suc, ◌<◌, ◌≤◌, List, [], ◌∷◌, length, Some, true, false, refl, sym, ap, ◌∙◌, subst, arith, length-append}
use Rattle.std.specs.Prelude.{slice_get}
use Rattle.b67_list.specs.Numbered.{numbered}
use Rattle.algol_tree.specs.Blocks.{block_numbered, around}
use Rattle.algol_tree.specs.Scopes.{Scopes}
use Rattle.algol_meaning.specs.Value.{Reference, Cell, event}
use Rattle.b67_deeds.specs.Events.{EventState}
use Rattle.algol_meaning.specs.Rest.{Item}
use Rattle.algol_meaning.specs.World.{Instance, or_no_instance, instance_at, cell_in, cell_at, Purpose, Part, Process, able, lives, World}
use Rattle.algol_meaning.specs.Critical.{is_evaluation, own_instances, referred_by}
use Rattle.algol_meaning.specs.Asks.{ask, nothing}
use Rattle.algol_meaning.specs.Choice.{opens, with_new_instance}
use Rattle.algol_laws.proofs.Standing.{opens_plain}
use Rattle.algol_paths.specs.Blocks.{BlockIsSeen, IsSeenAround, IsInner}
use Rattle.algol_paths.specs.Laws.{KeepsToText}
use Rattle.algol_paths.proofs.Statements.{declared_keeps}
use Rattle.algol_standing.specs.Skeleton.{IsInSkeleton, SkeletonOk}
use Rattle.algol_standing.specs.Worlds.{held_in_rest, newest_own, stack_of, skeleton, IsStanding, IsOnPath, IsOwn, IsAmongParts, IsAwaited, inside, WaitersAreListed, GivesNoOwn, IsWholeInstance, PartOk, ProcessOk, InstanceOk, IsSound}
use Rattle.algol_calls.specs.Texts.{KeepToTexts}
use Rattle.algol_standing.proofs.Calls.{IsNoEvent}
use Rattle.algol_standing.proofs.Lists.{false_true}
use Rattle.algol_standing.proofs.Standing.{stands_path, stands_small}
use Rattle.algol_standing.proofs.Holding.{AreAll, items_hold}
use Rattle.algol_standing.proofs.Seen.{CellOk, all_refs, all_names, top_stands}
use Rattle.algol_standing.proofs.Stacks.{numbered_cases, numbered_last, numbered_small}
use Rattle.algol_standing.proofs.Fine.{Fine, held_among, part_stands_in}
use Rattle.algol_standing.proofs.Unmoved.{unmoved_self}
use Rattle.algol_standing.proofs.Resumed.{others_wait}
use Rattle.algol_standing.proofs.Changed.{IsPlain, listed_still}
use Rattle.algol_standing.proofs.Fresh.{simple_plain, fresh_names, fresh_no_event, plain_names}
use Rattle.algol_standing.proofs.Acting.{first_acts}
use Rattle.algol_standing.proofs.Inside.{Opens, opened_waits}
use Rattle.algol_standing.proofs.Carried.{name_held, part_kept, actual_kept, unmoved_kept, tasks_kept, instance_kept}
use Rattle.algol_standing.proofs.Evaluating.{no_place_awaited}
use Rattle.algol_standing.proofs.Entering as stacked

module _ (sc : Scopes) (texts : KeepToTexts sc) (w : World) (ok : IsSound sc IsWholeInstance w) (p : ℕ) (q : Process) (part : Part) (outer : List Part) (is : numbered w.processes p ≡ Some q)
    (todo : q.todo ≡ part ∷ outer) (able_is : q.state ≡ able) (j parent : ℕ) (cells : List Cell) (purpose : Purpose) (owns : is_evaluation purpose ≡ false) (known : j < length sc.blocks)
    (around_is : around sc.blocks j ≡ (instance_at w parent).block ∷ around sc.blocks ((instance_at w parent).block)) (parent_some : 1 ≤ parent)
    (parent_path : IsOnPath w (newest_own (part ∷ outer)) parent) (parent_whole : IsWholeInstance w parent) (cells_held : AreAll (CellOk sc IsWholeInstance w ok (newest_own (part ∷ outer))) cells)
    (no_events : AreAll IsNoEvent cells) (opens_it : Opens (ask part.rest)) (plainly : opens_plain (ask part.rest) ≡ true) where
  abbrev around_it : Part
  around_it = stacked.around_it sc texts w ok p q part outer is todo able_is j parent cells purpose owns known around_is parent_some parent_path parent_whole cells_held no_events opens_it plainly

  fine_around : Fine sc w (around_it ∷ outer)
  fine_around = stacked.fine_around sc texts w ok p q part outer is todo able_is j parent cells purpose owns known around_is parent_some parent_path parent_whole cells_held no_events opens_it plainly

  abbrev top : ℕ
  top = stacked.top sc texts w ok p q part outer is todo able_is j parent cells purpose owns known around_is parent_some parent_path parent_whole cells_held no_events opens_it plainly

  abbrev items : List Item
  items = stacked.items sc texts w ok p q part outer is todo able_is j parent cells purpose owns known around_is parent_some parent_path parent_whole cells_held no_events opens_it plainly

  abbrev new : Instance
  new = stacked.new sc texts w ok p q part outer is todo able_is j parent cells purpose owns known around_is parent_some parent_path parent_whole cells_held no_events opens_it plainly

  abbrev inner : Part
  inner = stacked.inner sc texts w ok p q part outer is todo able_is j parent cells purpose owns known around_is parent_some parent_path parent_whole cells_held no_events opens_it plainly

  abbrev number : ℕ
  number = stacked.number sc texts w ok p q part outer is todo able_is j parent cells purpose owns known around_is parent_some parent_path parent_whole cells_held no_events opens_it plainly

  abbrev after : Process
  after = stacked.after sc texts w ok p q part outer is todo able_is j parent cells purpose owns known around_is parent_some parent_path parent_whole cells_held no_events opens_it plainly

  abbrev v : World
  v = stacked.v sc texts w ok p q part outer is todo able_is j parent cells purpose owns known around_is parent_some parent_path parent_whole cells_held no_events opens_it plainly

  number_is : number ≡ length (skeleton w).homes
  number_is = stacked.number_is sc texts w ok p q part outer is todo able_is j parent cells purpose owns known around_is parent_some parent_path parent_whole cells_held no_events opens_it plainly

  number_next : number ≡ suc (length w.instances)
  number_next = stacked.number_next sc texts w ok p q part outer is todo able_is j parent cells purpose owns known around_is parent_some parent_path parent_whole cells_held no_events opens_it plainly

  at : slice_get (skeleton w).stacks p ≡ Some (stack_of q)
  at = stacked.at sc texts w ok p q part outer is todo able_is j parent cells purpose owns known around_is parent_some parent_path parent_whole cells_held no_events opens_it plainly

  v_ok : SkeletonOk (skeleton v)
  v_ok = stacked.v_ok sc texts w ok p q part outer is todo able_is j parent cells purpose owns known around_is parent_some parent_path parent_whole cells_held no_events opens_it plainly

  paths : (a b : ℕ) → IsStanding w a → IsStanding v a → IsOnPath w a b → IsOnPath v a b
  paths = stacked.paths sc texts w ok p q part outer is todo able_is j parent cells purpose owns known around_is parent_some parent_path parent_whole cells_held no_events opens_it plainly

  stands_on : (i : ℕ) → IsStanding w i → IsStanding v i
  stands_on = stacked.stands_on sc texts w ok p q part outer is todo able_is j parent cells purpose owns known around_is parent_some parent_path parent_whole cells_held no_events opens_it plainly

  new_stands : IsStanding v number
  new_stands = stacked.new_stands sc texts w ok p q part outer is todo able_is j parent cells purpose owns known around_is parent_some parent_path parent_whole cells_held no_events opens_it plainly

  stood : (i : ℕ) → IsStanding v i → IsStanding w i ⊎ (i ≡ number)
  stood = stacked.stood sc texts w ok p q part outer is todo able_is j parent cells purpose owns known around_is parent_some parent_path parent_whole cells_held no_events opens_it plainly

  old_at : (i : ℕ) → i ≤ length w.instances → instance_at v i ≡ instance_at w i
  old_at = stacked.old_at sc texts w ok p q part outer is todo able_is j parent cells purpose owns known around_is parent_some parent_path parent_whole cells_held no_events opens_it plainly

  new_at : numbered v.instances number ≡ Some new
  new_at = stacked.new_at sc texts w ok p q part outer is todo able_is j parent cells purpose owns known around_is parent_some parent_path parent_whole cells_held no_events opens_it plainly

  blocks : (i : ℕ) → i < length (skeleton w).homes → (instance_at v i).block ≡ (instance_at w i).block
  blocks = stacked.blocks sc texts w ok p q part outer is todo able_is j parent cells purpose owns known around_is parent_some parent_path parent_whole cells_held no_events opens_it plainly

  after_at : numbered v.processes p ≡ Some after
  after_at = stacked.after_at sc texts w ok p q part outer is todo able_is j parent cells purpose owns known around_is parent_some parent_path parent_whole cells_held no_events opens_it plainly

  whole : (i : ℕ) → IsStanding v i → IsWholeInstance w i → IsWholeInstance v i
  whole = stacked.whole sc texts w ok p q part outer is todo able_is j parent cells purpose owns known around_is parent_some parent_path parent_whole cells_held no_events opens_it plainly

  -- ---- parts and processes

  inner_ok : PartOk sc IsWholeInstance v inner
  inner_ok =
      record {
        text = subst (λ k. KeepsToText sc k inner.rest) (sym block_is) (declared_keeps (BlockIsSeen sc j) (IsInner sc j) (IsSeenAround sc j) sc items (texts j known));
        narrow = λ e. false_true (sym owns ∙ e);
        names = λ m n. absurd (plain_names (held_in_rest inner.rest) m (items_hold IsPlain simple_plain false sc items).0 n);
      }
    where
      block_is : (instance_at v number).block ≡ j
      block_is = ap (λ o. (or_no_instance o).block) new_at

  parts_then : (x : Part) → IsAmongParts (inner ∷ around_it ∷ outer) x → PartOk sc IsWholeInstance v x
  parts_then x (◌⊎◌.inl e) = subst (λ y. PartOk sc IsWholeInstance v y) e inner_ok
  parts_then x (◌⊎◌.inr n) = part_kept sc w v ok v_ok paths blocks whole x (λ i m. (in_w i m, part_stands_in v v_ok p after x i after_at (◌⊎◌.inr n) m)) (fine_around.each x n)
    where
      in_w : (i : ℕ) → IsInSkeleton (x.instance ∷ referred_by (held_in_rest x.rest)) i → IsStanding w i
      in_w i m =
          let o = held_among (around_it ∷ outer) x i n m in
          let f = fine_around.holds (record { over = o.0; within = i }) o.1 in
          stands_path (skeleton w) ok.skeleton_ok o.0 i
          (record { number = p; stack = stack_of q; is = at; inside = subst (λ ps. IsInSkeleton (own_instances ps) o.0) (sym todo) (same o.0 f.0) }) f.1
        where
          same : (k : ℕ) → IsInSkeleton (own_instances (around_it ∷ outer)) k → IsInSkeleton (own_instances (part ∷ outer)) k
          same k l = l

  wait : (x : Part) → IsAmongParts (around_it ∷ outer) x → ask x.rest ≡ nothing
  wait x (◌⊎◌.inl e) = subst (λ (y : Part). ask y.rest ≡ nothing) e (opened_waits sc part.rest opens_it)
  wait x (◌⊎◌.inr n) = others_wait q part outer ((ok.processes p q is).heads (ap lives able_is)) todo x n

  after_ok : ProcessOk sc IsWholeInstance v after
  after_ok =
      record {
        parts = parts_then;
        heads = λ l. record { part = inner; outer = around_it ∷ outer; is = refl; acts = first_acts sc items; wait = wait };
        gives = (
          subst (λ b. GivesNoOwn b inner.rest) (sym owns) (items_hold IsPlain simple_plain false sc items).1,
          λ f. absurd (no_place_awaited sc part.rest plainly f),
          fine_around.given,
        );
        awaited = λ t n. absurd (not_awaited t n);
        few = (ok.processes p q is).few;
      }
    where
      not_awaited : (t : Reference) → IsAwaited q.state t → ⊥
      not_awaited t n = subst (λ s. IsAwaited s t) able_is n

  was : (k : ℕ) (y : Process) → numbered v.processes k ≡ Some y → ((p ≡ k) × (y ≡ after)) ⊎ (numbered w.processes k ≡ Some y)
  was k y e = by (numbered_cases w.processes p k after y e)
    where
      by : ((p ≡ k) × (y ≡ after) × (x : Process) × (numbered w.processes k ≡ Some x)) ⊎ ((p ≡ k → ⊥) × (numbered w.processes k ≡ Some y)) →
          ((p ≡ k) × (y ≡ after)) ⊎ (numbered w.processes k ≡ Some y)
      by (◌⊎◌.inl f) = ◌⊎◌.inl (f.0, f.1)
      by (◌⊎◌.inr f) = ◌⊎◌.inr f.1

  process_then : (k : ℕ) (y : Process) → numbered v.processes k ≡ Some y → ProcessOk sc IsWholeInstance v y
  process_then k y e = by (was k y e)
    where
      by : ((p ≡ k) × (y ≡ after)) ⊎ (numbered w.processes k ≡ Some y) → ProcessOk sc IsWholeInstance v y
      by (◌⊎◌.inl f) = subst (λ z. ProcessOk sc IsWholeInstance v z) (sym f.1) after_ok
      by (◌⊎◌.inr f) = unmoved_kept sc w v ok v_ok paths blocks whole k y y f e (unmoved_self y)

  -- each process has the critical instance and the task that it had
  record WasAs (k : ℕ) (y : Process) : Type 0 where
    before : Process
    at_k : numbered w.processes k ≡ Some before
    critical : y.critical ≡ before.critical
    task : y.task ≡ before.task
    lived : lives y.state ≡ true → lives before.state ≡ true

  was_as : (k : ℕ) (y : Process) → numbered v.processes k ≡ Some y → WasAs k y
  was_as k y e = by (was k y e)
    where
      acting_one : p ≡ k → WasAs k after
      acting_one f = record { before = q; at_k = ap (λ i. numbered w.processes i) (sym f) ∙ is; critical = refl; task = refl; lived = λ l. l }

      by : ((p ≡ k) × (y ≡ after)) ⊎ (numbered w.processes k ≡ Some y) → WasAs k y
      by (◌⊎◌.inl f) = subst (λ z. WasAs k z) (sym f.1) (acting_one f.0)
      by (◌⊎◌.inr f) = record { before = y; at_k = f; critical = refl; task = refl; lived = λ l. l }

  older_then : (k c : ℕ) (y : Process) → numbered v.processes k ≡ Some y → lives y.state ≡ true → y.critical ≡ Some c → (i : ℕ) → IsOwn y.todo i → c < i
  older_then k c y e live cr i n = by (was k y e)
    where
      newest : numbered w.processes p ≡ Some q → q.critical ≡ Some c → IsOwn (inner ∷ around_it ∷ outer) i → c < i
      newest f g (◌⊎◌.inl m) =
          let st = ok.skeleton_ok.holds p (stack_of q) c at (ap lives able_is) g in
          subst (λ x. c < x) (sym number_is ∙ m.1) (stands_small (skeleton w) ok.skeleton_ok c st)
      newest f g (◌⊎◌.inr m) = ok.older p c q f (ap lives able_is) g i (subst (λ ps. IsOwn ps i) (sym todo) (same m))
        where
          same : IsOwn (around_it ∷ outer) i → IsOwn (part ∷ outer) i
          same l = l

      by : ((p ≡ k) × (y ≡ after)) ⊎ (numbered w.processes k ≡ Some y) → c < i
      by (◌⊎◌.inl f) = newest is (ap (λ (z : Process). z.critical) (sym f.1) ∙ cr) (subst (λ (z : Process). IsOwn z.todo i) f.1 n)
      by (◌⊎◌.inr f) = ok.older k c y f live cr i n

  was_there : (k c : ℕ) (y : Process) → numbered v.processes k ≡ Some y → y.critical ≡ Some c → c ≤ length w.instances
  was_there k c y e cr = let m = was_as k y e in ok.criticals k c m.before m.at_k (sym m.critical ∙ cr)

  -- ---- instances

  parent_stands : IsStanding w parent
  parent_stands = stands_path (skeleton w) ok.skeleton_ok top parent (top_stands sc IsWholeInstance w ok p q part outer is todo) parent_path

  held_stands : (i : ℕ) → IsInSkeleton (referred_by cells) i → IsStanding w i
  held_stands i m = stands_path (skeleton w) ok.skeleton_ok top i (top_stands sc IsWholeInstance w ok p q part outer is todo) (all_refs sc IsWholeInstance w ok top cells cells_held i m)

  new_ok : InstanceOk sc IsWholeInstance v number new
  new_ok =
      record {
        left = (λ e. new_stands, λ st. refl);
        known = known;
        placed = inside parent_some (around_is ∙ sym (ap (λ k. k ∷ around sc.blocks k) (blocks parent (stands_small (skeleton w) ok.skeleton_ok parent parent_stands))));
        whole = λ st h. whole parent (stands_on parent parent_stands) parent_whole;
        actuals = λ m st n.
            let k = fresh_names (block_numbered sc.blocks j) cells m n in
            let s = held_stands m.instance (name_held cells m k) in
            actual_kept sc w v ok v_ok paths blocks whole m (s, stands_on m.instance s) (all_names sc IsWholeInstance w ok top cells cells_held m k);
      }

  instance_then : (i : ℕ) (y : Instance) → numbered v.instances i ≡ Some y → InstanceOk sc IsWholeInstance v i y
  instance_then i y e = by (numbered_last w.instances new i y e)
    where
      old : numbered w.instances i ≡ Some y → InstanceOk sc IsWholeInstance v i y
      old f =
          instance_kept sc w v ok v_ok paths blocks whole i y y f refl refl refl
          (λ g. stands_on i ((ok.instances i y f).left.0 g), λ st. (ok.instances i y f).left.1 (still st)) still
        where
          still : IsStanding v i → IsStanding w i
          still st = which (stood i st)
            where
              which : IsStanding w i ⊎ (i ≡ number) → IsStanding w i
              which (◌⊎◌.inl s) = s
              which (◌⊎◌.inr g) = absurd (let h = numbered_small w.instances i y f in omega (arith, g, h))

      by : (numbered w.instances i ≡ Some y) ⊎ ((i ≡ suc (length w.instances)) × (y ≡ new)) → InstanceOk sc IsWholeInstance v i y
      by (◌⊎◌.inl f) = old f
      by (◌⊎◌.inr f) = subst (λ k. InstanceOk sc IsWholeInstance v k y) (number_next ∙ sym f.0) (subst (λ z. InstanceOk sc IsWholeInstance v number z) (sym f.1) new_ok)

  listed_then : (r : Reference) (e : EventState) → IsStanding v r.instance → cell_at v r ≡ event e → WaitersAreListed v r e
  listed_then r e st f = by (stood r.instance st)
    where
      by : IsStanding w r.instance ⊎ (r.instance ≡ number) → WaitersAreListed v r e
      by (◌⊎◌.inl s) =
          let small = stands_small (skeleton w) ok.skeleton_ok r.instance s in
          let same = old_at r.instance (let n = number_is in omega (arith, small, n)) in
          listed_still w v p q after is able_is refl r e (ok.listed r e s (ap (λ (x : Instance). cell_in x.cells r.name) (sym same) ∙ f))
      by (◌⊎◌.inr g) =
          absurd (fresh_no_event (block_numbered sc.blocks j) cells no_events r.name e
          (ap (λ o. cell_in ((or_no_instance o).cells) r.name) (sym new_at) ∙ (ap (λ i. cell_in ((instance_at v i).cells) r.name) (sym g) ∙ f)))

  pub entered_ok : IsSound sc IsWholeInstance (opens sc w p q part outer (with_new_instance sc w p q part outer j parent p cells) inner).world
  entered_ok =
      record {
        skeleton_ok = v_ok;
        instances = instance_then;
        processes = process_then;
        older = older_then;
        first = λ y e. let m = was_as 1 y e in let f = ok.first m.before m.at_k in (m.critical ∙ f.0, m.task ∙ f.1);
        later = λ k y e. let m = was_as (suc (suc k)) y e in let f = ok.later k m.before m.at_k in (f.0, m.critical ∙ f.1);
        criticals = λ k c y e cr. let h = was_there k c y e cr in let more = length-append w.instances (new ∷ []) in omega (arith, h, more);
        earlier = λ k c y e cr.
            let m = was_as k y e in
            subst (λ (x : Instance). x.process < k) (sym (old_at c (was_there k c y e cr))) (ok.earlier k c m.before m.at_k (sym m.critical ∙ cr));
        tasks = λ k c y r e l cr g.
            let m = was_as k y e in
            tasks_kept sc w v ok v_ok paths blocks whole k c m.before y r m.at_k e m.critical m.task (m.lived l) l cr g;
        listed = listed_then;
      }
