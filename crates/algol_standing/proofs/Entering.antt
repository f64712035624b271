-- The Enter of a block or of a procedure: a new instance stands on top of its process's stack.
use Rattle.std.proofs.Common.{◌≡◌, ◌⊎◌, ℕ, suc, ◌+◌, ◌<◌, ◌≤◌, List, [], ◌∷◌, length, map, Some, Bool, true, false, refl, sym, ap, ◌∙◌, subst, arith}
use Rattle.std.specs.Prelude.{slice_get, slice_set, if◌then◌else◌}
use Rattle.b67_list.specs.Numbered.{numbered}
use Rattle.b67_list.proofs.Lists.{length_map, set_set_here}
use Rattle.b67_list.proofs.Numbered.{numbered_set}
use Rattle.algol_tree.specs.Blocks.{block_numbered, around}
use Rattle.algol_tree.specs.Scopes.{Scopes}
use Rattle.algol_meaning.specs.Value.{Cell}
use Rattle.algol_meaning.specs.Rest.{Item, entered}
use Rattle.algol_meaning.specs.Statements.{items_of}
use Rattle.algol_meaning.specs.World.{Instance, or_no_instance, instance_at, Purpose, Part, Process, able, lives, with_process, World}
use Rattle.algol_meaning.specs.Critical.{is_evaluation, own_instances, referred_by}
use Rattle.algol_meaning.specs.Instances.{fresh_cells}
use Rattle.algol_meaning.specs.Asks.{ask}
use Rattle.algol_meaning.specs.Choice.{with_new_instance, new_part}
use Rattle.algol_laws.proofs.Cells.{numbered_other}
use Rattle.algol_laws.proofs.Standing.{opens_plain}
use Rattle.algol_standing.specs.Skeleton.{Evaluation, IsEvaluated, Stack, Skeleton, IsInSkeleton, SkeletonStands, OnPath, here, SkeletonOk, entered_skeleton, evaluated}
use Rattle.algol_standing.specs.Worlds.{parent_in, referred_in_cells, home_of, held_in_rest, newest_own, held_by, stack_of, skeleton, IsStanding, IsOnPath, IsAmongParts, IsWholeInstance, IsSound}
use Rattle.algol_calls.specs.Texts.{KeepToTexts}
use Rattle.algol_standing.proofs.Calls.{IsNoEvent}
use Rattle.algol_standing.proofs.Lists.{get_set, some_same, same_or_other}
use Rattle.algol_standing.proofs.Standing.{set_cases}
use Rattle.algol_standing.proofs.Growth.{stands_up, path_up, enter_ok, enter_grows}
use Rattle.algol_standing.proofs.Firsts.{evaluations_ok, evaluations_grow}
use Rattle.algol_standing.proofs.Holding.{AreAll, items_hold}
use Rattle.algol_standing.proofs.Pairs.{stack_forth}
use Rattle.algol_standing.proofs.Seen.{CellOk, all_refs, in_either, evaluated_either, top_inside}
use Rattle.algol_standing.proofs.Stacks.{skeleton_entered, numbered_front, numbered_new}
use Rattle.algol_standing.proofs.Fine.{Fine, fine_of}
use Rattle.algol_standing.proofs.Resumed.{answered, answered_fine, answered_still}
use Rattle.algol_standing.proofs.Changed.{IsPlain}
use Rattle.algol_standing.proofs.Fresh.{simple_plain, fresh_refs, parent_only, plain_refs}
use Rattle.algol_standing.proofs.Inside.{Opens}

-- the instances of parts begin with the newest
pub own_head : (parts : List Part) → (own_instances parts ≡ []) ⊎ ((r : List ℕ) × (own_instances parts ≡ newest_own parts ∷ r))
own_head [] = ◌⊎◌.inl refl
own_head (part ∷ parts) = by (is_evaluation part.purpose) (own_head parts)
  where
    by : (b : Bool) → (own_instances parts ≡ []) ⊎ ((r : List ℕ) × (own_instances parts ≡ newest_own parts ∷ r)) →
        ((if b then own_instances parts else part.instance ∷ own_instances parts) ≡ [])
        ⊎ ((r : List ℕ) × ((if b then own_instances parts else part.instance ∷ own_instances parts) ≡ (if b then newest_own parts else part.instance) ∷ r))
    by true m = m
    by false m = ◌⊎◌.inr (own_instances parts, refl)

-- the block, the parent, the cells and the purpose of what is entered
module _ (sc : Scopes) (texts : KeepToTexts sc) (w : World) (ok : IsSound sc IsWholeInstance w) (p : ℕ) (q : Process) (part : Part) (outer : List Part) (is : numbered w.processes p ≡ Some q)
    (todo : q.todo ≡ part ∷ outer) (able_is : q.state ≡ able) (j parent : ℕ) (cells : List Cell) (purpose : Purpose) (owns : is_evaluation purpose ≡ false) (known : j < length sc.blocks)
    (around_is : around sc.blocks j ≡ (instance_at w parent).block ∷ around sc.blocks ((instance_at w parent).block)) (parent_some : 1 ≤ parent)
    (parent_path : IsOnPath w (newest_own (part ∷ outer)) parent) (parent_whole : IsWholeInstance w parent) (cells_held : AreAll (CellOk sc IsWholeInstance w ok (newest_own (part ∷ outer))) cells)
    (no_events : AreAll IsNoEvent cells) (opens_it : Opens (ask part.rest)) (plainly : opens_plain (ask part.rest) ≡ true) where
  pub fine : Fine sc w (part ∷ outer)
  fine = subst (λ ps. Fine sc w ps) todo (fine_of sc w ok p q is)

  abbrev pub around_it : Part
  around_it = answered sc w ok part outer fine entered tt tt

  pub fine_around : Fine sc w (around_it ∷ outer)
  fine_around = answered_fine sc w ok part outer fine entered tt tt

  abbrev pub top : ℕ
  top = newest_own (part ∷ outer)

  abbrev pub items : List Item
  items = items_of (block_numbered sc.blocks j)

  abbrev pub new : Instance
  new = record { block = j; parent = parent; process = p; cells = fresh_cells (block_numbered sc.blocks j) cells; left = false }

  abbrev pub inner : Part
  inner = new_part sc w p q part outer j purpose

  abbrev pub number : ℕ
  number = length w.instances + 1

  abbrev pub after : Process
  after = record q { todo = inner ∷ around_it ∷ outer }

  abbrev pub v : World
  v = with_process (with_new_instance sc w p q part outer j parent p cells) p after

  pub number_is : number ≡ length (skeleton w).homes
  number_is = let m : length (map home_of w.instances) ≡ length w.instances = length_map home_of w.instances in omega (arith, m)

  pub number_next : number ≡ suc (length w.instances)
  number_next = omega arith

  -- ---- the skeleton

  abbrev refs : List ℕ
  refs = (home_of new).refs

  refs_on_path : (x : ℕ) → IsInSkeleton refs x → IsOnPath w top x
  refs_on_path x n = by (in_either (parent_in parent) (referred_in_cells new.cells) x n)
    where
      by : IsInSkeleton (parent_in parent) x ⊎ IsInSkeleton (referred_in_cells new.cells) x → IsOnPath w top x
      by (◌⊎◌.inl m) = subst (λ i. IsOnPath w top i) (parent_only parent x m) parent_path
      by (◌⊎◌.inr m) = all_refs sc IsWholeInstance w ok top cells cells_held x (fresh_refs (block_numbered sc.blocks j) cells x m)

  pub at : slice_get (skeleton w).stacks p ≡ Some (stack_of q)
  at = stack_forth w p q is

  stack_head : (r : List ℕ) × ((stack_of q).own ≡ top ∷ r)
  stack_head = by (own_head (part ∷ outer)) (top_inside sc IsWholeInstance w ok p q part outer is todo)
    where
      by : (own_instances (part ∷ outer) ≡ []) ⊎ ((r : List ℕ) × (own_instances (part ∷ outer) ≡ top ∷ r)) → IsInSkeleton (own_instances (part ∷ outer)) top → (r : List ℕ) × (own_instances q.todo ≡ top ∷ r)
      by (◌⊎◌.inl e) n = absurd (subst (λ xs. IsInSkeleton xs top) e n)
      by (◌⊎◌.inr e) n = (e.0, ap own_instances todo ∙ e.1)

  abbrev s1 : Skeleton
  s1 = entered_skeleton (skeleton w) p (stack_of q) refs

  s1_ok : SkeletonOk s1
  s1_ok = enter_ok (skeleton w) ok.skeleton_ok p (stack_of q) top stack_head.0 at stack_head.1 refs refs_on_path

  s1_path : (a b : ℕ) → IsOnPath w a b → OnPath s1 a b
  s1_path a b l = path_up (skeleton w) s1 (enter_grows (skeleton w) ok.skeleton_ok p (stack_of q) top stack_head.0 at stack_head.1 refs refs_on_path) a b l

  abbrev grown : Stack
  grown = record (stack_of q) { own = length (skeleton w).homes ∷ own_instances q.todo }

  grown_at : slice_get s1.stacks p ≡ Some grown
  grown_at = get_set (skeleton w).stacks p grown (stack_of q) at

  abbrev held : List Evaluation
  held = held_by (inner ∷ around_it ∷ outer)

  newest_is : newest_own (inner ∷ around_it ∷ outer) ≡ number
  newest_is = ap (λ b. if b then newest_own (around_it ∷ outer) else number) owns

  held_on_path : (e : Evaluation) → IsEvaluated held e → IsInSkeleton grown.own e.over × OnPath s1 e.over e.within
  held_on_path e n = by (evaluated_either (newest_own (inner ∷ around_it ∷ outer)) (number ∷ referred_by (held_in_rest inner.rest)) (held_by (around_it ∷ outer)) e n)
    where
      path : e.over ≡ number → IsInSkeleton (number ∷ referred_by (held_in_rest inner.rest)) e.within → OnPath s1 e.over e.within
      path f (◌⊎◌.inl g) = subst (λ i. OnPath s1 e.over i) (f ∙ g) here
      path f (◌⊎◌.inr m) = absurd (plain_refs (held_in_rest inner.rest) e.within (items_hold IsPlain simple_plain false sc items).0 m)

      by : ((e.over ≡ newest_own (inner ∷ around_it ∷ outer)) × IsInSkeleton (number ∷ referred_by (held_in_rest inner.rest)) e.within) ⊎ IsEvaluated (held_by (around_it ∷ outer)) e →
          IsInSkeleton grown.own e.over × OnPath s1 e.over e.within
      by (◌⊎◌.inl f) = (◌⊎◌.inl (sym (f.0 ∙ (newest_is ∙ number_is))), path (f.0 ∙ newest_is) f.1)
      by (◌⊎◌.inr m) =
          let o = fine_around.holds e m in
          (◌⊎◌.inr (subst (λ ps. IsInSkeleton (own_instances ps) e.over) (sym todo) (same o.0)), s1_path e.over e.within o.1)
        where
          same : IsInSkeleton (own_instances (around_it ∷ outer)) e.over → IsInSkeleton (own_instances (part ∷ outer)) e.over
          same k = k

  abbrev s2 : Skeleton
  s2 = evaluated s1 p grown held

  s2_ok : SkeletonOk s2
  s2_ok = evaluations_ok s1 s1_ok p grown grown_at held held_on_path

  own_is : own_instances (inner ∷ around_it ∷ outer) ≡ length (skeleton w).homes ∷ own_instances q.todo
  own_is =
      ap (λ b. if b then own_instances (around_it ∷ outer) else number ∷ own_instances (around_it ∷ outer)) owns
      ∙ (ap (λ n. n ∷ own_instances (part ∷ outer)) number_is ∙ ap (λ ps. length (skeleton w).homes ∷ own_instances ps) (sym todo))

  skeleton_is : skeleton v ≡ s2
  skeleton_is =
      skeleton_entered w v p q after new is refl refl
      ∙ (ap (λ (o : List ℕ). record { stacks = slice_set (skeleton w).stacks p (record { own = o; evaluations = held; critical = q.critical; live = lives q.state }); homes = s1.homes }) own_is
      ∙ ap (λ (ss : List Stack). record { stacks = ss; homes = s1.homes })
      (sym (set_set_here (skeleton w).stacks p grown (record { own = length (skeleton w).homes ∷ own_instances q.todo; evaluations = held; critical = q.critical; live = lives q.state }))))

  pub v_ok : SkeletonOk (skeleton v)
  v_ok = subst (λ (z : Skeleton). SkeletonOk z) (sym skeleton_is) s2_ok

  pub paths : (a b : ℕ) → IsStanding w a → IsStanding v a → IsOnPath w a b → IsOnPath v a b
  paths a b st_w st_v l =
      subst (λ (z : Skeleton). OnPath z a b) (sym skeleton_is) (path_up s1 s2 (evaluations_grow s1 s1_ok p grown grown_at held held_on_path) a b (s1_path a b l))

  pub stands_on : (i : ℕ) → IsStanding w i → IsStanding v i
  stands_on i st =
      subst (λ (z : Skeleton). SkeletonStands z i) (sym skeleton_is)
      (stands_up s1 s2 (evaluations_grow s1 s1_ok p grown grown_at held held_on_path) i
      (stands_up (skeleton w) s1 (enter_grows (skeleton w) ok.skeleton_ok p (stack_of q) top stack_head.0 at stack_head.1 refs refs_on_path) i st))

  pub new_stands : IsStanding v number
  new_stands =
      subst (λ (z : Skeleton). SkeletonStands z number) (sym skeleton_is)
      (record { number = p; stack = record grown { evaluations = held }; is = get_set s1.stacks p (record grown { evaluations = held }) grown grown_at; inside = ◌⊎◌.inl (sym number_is) })

  pub stood : (i : ℕ) → IsStanding v i → IsStanding w i ⊎ (i ≡ number)
  stood i st = before (subst (λ (z : Skeleton). SkeletonStands z i) skeleton_is st)
    where
      in_grown : IsInSkeleton grown.own i → IsStanding w i ⊎ (i ≡ number)
      in_grown (◌⊎◌.inl e) = ◌⊎◌.inr (sym e ∙ sym number_is)
      in_grown (◌⊎◌.inr n) = ◌⊎◌.inl (record { number = p; stack = stack_of q; is = at; inside = n })

      in_s1 : (k : ℕ) (z : Stack) → IsInSkeleton z.own i → ((k ≡ p) × (z ≡ grown)) ⊎ ((p ≡ k → ⊥) × (slice_get (skeleton w).stacks k ≡ Some z)) → IsStanding w i ⊎ (i ≡ number)
      in_s1 k z n (◌⊎◌.inl f) = in_grown (subst (λ (y : Stack). IsInSkeleton y.own i) f.1 n)
      in_s1 k z n (◌⊎◌.inr f) = ◌⊎◌.inl (record { number = k; stack = z; is = f.1; inside = n })

      before : SkeletonStands s2 i → IsStanding w i ⊎ (i ≡ number)
      before x = by (set_cases s1.stacks p x.number (record grown { evaluations = held }) x.stack x.is)
        where
          by : ((x.number ≡ p) × (x.stack ≡ record grown { evaluations = held })) ⊎ ((p ≡ x.number → ⊥) × (slice_get s1.stacks x.number ≡ Some x.stack)) → IsStanding w i ⊎ (i ≡ number)
          by (◌⊎◌.inl f) = in_grown (subst (λ (y : Stack). IsInSkeleton y.own i) f.1 x.inside)
          by (◌⊎◌.inr f) = in_s1 x.number x.stack x.inside (set_cases (skeleton w).stacks p x.number grown x.stack f.1)

  pub old_at : (i : ℕ) → i ≤ length w.instances → instance_at v i ≡ instance_at w i
  old_at i h = ap or_no_instance (numbered_front w.instances new i h)

  pub new_at : numbered v.instances number ≡ Some new
  new_at = ap (λ i. numbered v.instances i) number_next ∙ numbered_new w.instances new

  pub blocks : (i : ℕ) → i < length (skeleton w).homes → (instance_at v i).block ≡ (instance_at w i).block
  blocks i h = ap (λ (x : Instance). x.block) (old_at i (let n = number_is in omega (arith, h, n)))

  pub after_at : numbered v.processes p ≡ Some after
  after_at = numbered_set w.processes p q after is

  pub whole : (i : ℕ) → IsStanding v i → IsWholeInstance w i → IsWholeInstance v i
  whole i st h = by (same_or_other p h.number)
    where
      by : (p ≡ h.number) ⊎ (p ≡ h.number → ⊥) → IsWholeInstance v i
      by (◌⊎◌.inl f) =
          let same : h.process ≡ q = some_same h.is (ap (λ k. numbered w.processes k) (sym f) ∙ is) in
          let m = answered_still sc w ok part outer fine entered tt tt h.part (subst (λ ps. IsAmongParts ps h.part) todo (subst (λ (z : Process). IsAmongParts z.todo h.part) same h.among)) h.owns h.made in
          record {
            number = p;
            process = after;
            part = m.part;
            is = after_at;
            among = ◌⊎◌.inr m.among;
            owns = m.owns;
            instance_is = m.instance_is ∙ h.instance_is;
            made = m.made;
          }
      by (◌⊎◌.inr f) =
          record {
            number = h.number;
            process = h.process;
            part = h.part;
            is = numbered_other w.processes p h.number after f ∙ h.is;
            among = h.among;
            owns = h.owns;
            instance_is = h.instance_is;
            made = h.made;
          }
