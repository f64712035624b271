-- A new instance stands as the base of a new stack.
use Rattle.std.proofs.Common.{◌≡◌, ◌⊎◌, ℕ, suc, ◌+◌, ◌<◌, ◌≤◌, List, [], ◌∷◌, ◌++◌, length, map, Option, Some, true, false, refl, sym, ap, ◌∙◌, subst, arith}
use Rattle.std.specs.Prelude.{slice_get, slice_set}
use Rattle.b67_list.specs.Numbered.{numbered}
use Rattle.b67_list.proofs.Lists.{length_map}
use Rattle.algol_tree.specs.Blocks.{block_numbered, around}
use Rattle.algol_tree.specs.Scopes.{Scopes}
use Rattle.algol_meaning.specs.Value.{Reference, Cell}
use Rattle.algol_meaning.specs.Rest.{Item}
use Rattle.algol_meaning.specs.Statements.{items_of}
use Rattle.algol_meaning.specs.World.{Instance, or_no_instance, instance_at, started, Part, Process, able, lives, World}
use Rattle.algol_meaning.specs.Critical.{own_instances, newest_first, first_on_path, referred_by, referred_by_task}
use Rattle.algol_meaning.specs.Instances.{fresh_cells}
use Rattle.algol_meaning.specs.Choice.{with_new_instance, new_part, with_started, next_process}
use Rattle.algol_standing.specs.Skeleton.{Evaluation, IsEvaluated, Stack, Skeleton, IsInSkeleton, SkeletonStands, OnPath, here, FirstOf, SkeletonOk, started as with_base, evaluated}
use Rattle.algol_standing.specs.Worlds.{parent_in, referred_in_cells, home_of, held_in_rest, newest_own, held_by, stack_of, skeleton, IsStanding, IsOnPath, IsWholeInstance, IsSound}
use Rattle.algol_calls.specs.Texts.{KeepToTexts}
use Rattle.algol_standing.proofs.Calls.{IsNoEvent}
use Rattle.algol_standing.proofs.Lists.{get_seam}
use Rattle.algol_standing.proofs.Standing.{stands_path}
use Rattle.algol_standing.proofs.Growth.{stands_up, path_up, start_ok, start_grows}
use Rattle.algol_standing.proofs.Firsts.{path_first, from_first, evaluations_ok, evaluations_grow}
use Rattle.algol_standing.proofs.Holding.{AreAll, items_hold}
use Rattle.algol_standing.proofs.Pairs.{stack_forth, stack_back}
use Rattle.algol_standing.proofs.Seen.{CellOk, all_refs, in_front, in_either, evaluated_either, top_stands}
use Rattle.algol_standing.proofs.Stacks.{skeleton_started, numbered_front, numbered_new, numbered_last, numbered_small}
use Rattle.algol_standing.proofs.Changed.{IsPlain}
use Rattle.algol_standing.proofs.Fresh.{simple_plain, fresh_refs, parent_only, plain_refs}
use Rattle.algol_standing.proofs.Criticals.{first_is}

set_last : {A : Type 0} (xs : List A) (y z : A) → slice_set (xs ++ y ∷ []) (length xs) z ≡ xs ++ z ∷ []
set_last [] y z = refl
set_last (x ∷ xs) y z = ap (λ ys. x ∷ ys) (set_last xs y z)

module _ (sc : Scopes) (texts : KeepToTexts sc) (w : World) (ok : IsSound sc IsWholeInstance w) (p : ℕ) (q : Process) (part : Part) (outer : List Part) (is : numbered w.processes p ≡ Some q)
    (todo : q.todo ≡ part ∷ outer) (able_is : q.state ≡ able) (j parent : ℕ) (cells : List Cell) (task : Option Reference) (known : j < length sc.blocks)
    (around_is : around sc.blocks j ≡ (instance_at w parent).block ∷ around sc.blocks ((instance_at w parent).block)) (parent_some : 1 ≤ parent)
    (parent_path : IsOnPath w (newest_own (part ∷ outer)) parent) (parent_whole : IsWholeInstance w parent) (cells_held : AreAll (CellOk sc IsWholeInstance w ok (newest_own (part ∷ outer))) cells)
    (no_events : AreAll IsNoEvent cells) (task_path : (x : ℕ) → IsInSkeleton (referred_by_task task) x → IsOnPath w (newest_own (part ∷ outer)) x) where
  abbrev pub top : ℕ
  top = newest_own (part ∷ outer)

  abbrev pub wanted : List ℕ
  wanted = parent ∷ referred_by cells ++ referred_by_task task

  abbrev pub critical : ℕ
  critical = first_on_path w (newest_first 1 w.instances []) p wanted

  abbrev pub items : List Item
  items = items_of (block_numbered sc.blocks j)

  abbrev pub number : ℕ
  number = length w.instances + 1

  abbrev pub new : Instance
  new = record { block = j; parent = parent; process = next_process sc w p q part outer; cells = fresh_cells (block_numbered sc.blocks j) cells; left = false }

  abbrev pub inner : Part
  inner = new_part sc w p q part outer j started

  abbrev pub starter : Process
  starter = record { todo = inner ∷ []; critical = Some critical; task = task; state = able; woken = 0 }

  abbrev pub v : World
  v = with_started sc w p q part outer (with_new_instance sc w p q part outer j parent (next_process sc w p q part outer) cells) j cells task parent

  pub number_is : number ≡ length (skeleton w).homes
  number_is = let m : length (map home_of w.instances) ≡ length w.instances = length_map home_of w.instances in omega (arith, m)

  pub number_next : number ≡ suc (length w.instances)
  number_next = omega arith

  process_is : next_process sc w p q part outer ≡ length (skeleton w).stacks
  process_is = let m : length (map stack_of w.processes) ≡ length w.processes = length_map stack_of w.processes in omega (arith, m)

  pub process_next : next_process sc w p q part outer ≡ suc (length w.processes)
  process_next = omega arith

  -- ---- the critical instance

  pub top_here : IsStanding w top
  top_here = top_stands sc IsWholeInstance w ok p q part outer is todo

  first : FirstOf (skeleton w) wanted top critical
  first = first_is sc w ok p q part outer is todo (ap lives able_is) wanted parent (◌⊎◌.inl refl) parent_path

  critical_path : IsOnPath w top critical
  critical_path = path_first (skeleton w) ok.skeleton_ok wanted top critical first

  pub critical_stands : IsStanding w critical
  critical_stands = stands_path (skeleton w) ok.skeleton_ok top critical top_here critical_path

  pub leads : (x : ℕ) → IsInSkeleton wanted x → IsOnPath w top x → IsOnPath w critical x
  leads x n l = from_first (skeleton w) ok.skeleton_ok wanted top critical first x n l

  abbrev refs : List ℕ
  refs = (home_of new).refs

  refs_on_path : (x : ℕ) → IsInSkeleton refs x → IsOnPath w critical x
  refs_on_path x n = by (in_either (parent_in parent) (referred_in_cells new.cells) x n)
    where
      by : IsInSkeleton (parent_in parent) x ⊎ IsInSkeleton (referred_in_cells new.cells) x → IsOnPath w critical x
      by (◌⊎◌.inl m) = leads x (◌⊎◌.inl (parent_only parent x m)) (subst (λ i. IsOnPath w top i) (parent_only parent x m) parent_path)
      by (◌⊎◌.inr m) =
          let k = fresh_refs (block_numbered sc.blocks j) cells x m in
          leads x (◌⊎◌.inr (in_front (referred_by cells) (referred_by_task task) x k)) (all_refs sc IsWholeInstance w ok top cells cells_held x k)

  -- ---- the skeleton

  abbrev base : Stack
  base = record { own = length (skeleton w).homes ∷ []; evaluations = []; critical = Some critical; live = true }

  abbrev s1 : Skeleton
  s1 = with_base (skeleton w) refs critical

  s1_ok : SkeletonOk s1
  s1_ok = start_ok (skeleton w) ok.skeleton_ok critical refs critical_stands refs_on_path

  base_at : slice_get s1.stacks (length (skeleton w).stacks) ≡ Some base
  base_at = get_seam (skeleton w).stacks base []

  abbrev held : List Evaluation
  held = held_by (inner ∷ [])

  held_on_path : (e : Evaluation) → IsEvaluated held e → IsInSkeleton base.own e.over × OnPath s1 e.over e.within
  held_on_path e n = by (evaluated_either number (number ∷ referred_by (held_in_rest inner.rest)) [] e n)
    where
      path : e.over ≡ number → IsInSkeleton (number ∷ referred_by (held_in_rest inner.rest)) e.within → OnPath s1 e.over e.within
      path f (◌⊎◌.inl g) = subst (λ i. OnPath s1 e.over i) (f ∙ g) here
      path f (◌⊎◌.inr m) = absurd (plain_refs (held_in_rest inner.rest) e.within (items_hold IsPlain simple_plain false sc items).0 m)

      by : ((e.over ≡ number) × IsInSkeleton (number ∷ referred_by (held_in_rest inner.rest)) e.within) ⊎ IsEvaluated [] e → IsInSkeleton base.own e.over × OnPath s1 e.over e.within
      by (◌⊎◌.inl f) = (◌⊎◌.inl (sym (f.0 ∙ number_is)), path f.0 f.1)
      by (◌⊎◌.inr m) = absurd m

  abbrev s2 : Skeleton
  s2 = evaluated s1 (length (skeleton w).stacks) base held

  s2_ok : SkeletonOk s2
  s2_ok = evaluations_ok s1 s1_ok (length (skeleton w).stacks) base base_at held held_on_path

  skeleton_is : skeleton v ≡ s2
  skeleton_is =
      skeleton_started w v starter new refl refl
      ∙ (ap (λ (n : ℕ). record { stacks = (skeleton w).stacks ++ record { own = n ∷ []; evaluations = held; critical = Some critical; live = true } ∷ []; homes = (skeleton w).homes ++ home_of new ∷ [] }) number_is
      ∙ (ap (λ (n : ℕ). record { stacks = (skeleton w).stacks ++ record base { evaluations = held } ∷ []; homes = (skeleton w).homes ++ record { refs = refs; process = n } ∷ [] }) process_is
      ∙ ap (λ (ss : List Stack). record { stacks = ss; homes = s1.homes }) (sym (set_last (skeleton w).stacks base (record base { evaluations = held })))))

  pub v_ok : SkeletonOk (skeleton v)
  v_ok = subst (λ (z : Skeleton). SkeletonOk z) (sym skeleton_is) s2_ok

  pub paths : (a b : ℕ) → IsStanding w a → IsStanding v a → IsOnPath w a b → IsOnPath v a b
  paths a b st_w st_v l =
      subst (λ (z : Skeleton). OnPath z a b) (sym skeleton_is)
      (path_up s1 s2 (evaluations_grow s1 s1_ok (length (skeleton w).stacks) base base_at held held_on_path) a b
      (path_up (skeleton w) s1 (start_grows (skeleton w) ok.skeleton_ok critical refs critical_stands refs_on_path) a b l))

  pub stands_on : (i : ℕ) → IsStanding w i → IsStanding v i
  stands_on i st =
      subst (λ (z : Skeleton). SkeletonStands z i) (sym skeleton_is)
      (stands_up s1 s2 (evaluations_grow s1 s1_ok (length (skeleton w).stacks) base base_at held held_on_path) i
      (stands_up (skeleton w) s1 (start_grows (skeleton w) ok.skeleton_ok critical refs critical_stands refs_on_path) i st))

  pub new_at : numbered v.instances number ≡ Some new
  new_at = ap (λ i. numbered v.instances i) number_next ∙ numbered_new w.instances new

  starter_at : numbered v.processes (next_process sc w p q part outer) ≡ Some starter
  starter_at = ap (λ i. numbered v.processes i) process_next ∙ numbered_new w.processes starter

  pub old_at : (i : ℕ) → i ≤ length w.instances → instance_at v i ≡ instance_at w i
  old_at i h = ap or_no_instance (numbered_front w.instances new i h)

  pub process_before : (k : ℕ) (y : Process) → numbered w.processes k ≡ Some y → numbered v.processes k ≡ Some y
  process_before k y e = numbered_front w.processes starter k (numbered_small w.processes k y e) ∙ e

  pub new_stands : IsStanding v number
  new_stands = record { number = next_process sc w p q part outer; stack = stack_of starter; is = stack_forth v (next_process sc w p q part outer) starter starter_at; inside = ◌⊎◌.inl refl }

  pub stood : (i : ℕ) → IsStanding v i → IsStanding w i ⊎ (i ≡ number)
  stood i st = by (stack_back v st.number st.stack st.is)
    where
      in_base : IsInSkeleton (number ∷ []) i → IsStanding w i ⊎ (i ≡ number)
      in_base (◌⊎◌.inl e) = ◌⊎◌.inr (sym e)
      in_base (◌⊎◌.inr n) = absurd n

      which : (y : Process) → IsInSkeleton (own_instances y.todo) i → (numbered w.processes st.number ≡ Some y) ⊎ ((st.number ≡ suc (length w.processes)) × (y ≡ starter)) → IsStanding w i ⊎ (i ≡ number)
      which y n (◌⊎◌.inl f) = ◌⊎◌.inl (record { number = st.number; stack = stack_of y; is = stack_forth w st.number y f; inside = n })
      which y n (◌⊎◌.inr f) = in_base (subst (λ (z : Process). IsInSkeleton (own_instances z.todo) i) f.1 n)

      by : ((st.stack.own ≡ []) × (st.stack.evaluations ≡ []) × (st.stack.live ≡ false)) ⊎ ((y : Process) × (numbered v.processes st.number ≡ Some y) × (st.stack ≡ stack_of y)) →
          IsStanding w i ⊎ (i ≡ number)
      by (◌⊎◌.inl f) = absurd (subst (λ xs. IsInSkeleton xs i) f.0 st.inside)
      by (◌⊎◌.inr f) = which f.0 (subst (λ (z : Stack). IsInSkeleton z.own i) f.2 st.inside) (numbered_last w.processes starter st.number f.0 f.1)

  pub blocks : (i : ℕ) → i < length (skeleton w).homes → (instance_at v i).block ≡ (instance_at w i).block
  blocks i h = ap (λ (x : Instance). x.block) (old_at i (let n = number_is in omega (arith, h, n)))

  pub whole : (i : ℕ) → IsStanding v i → IsWholeInstance w i → IsWholeInstance v i
  whole i st h =
      record {
        number = h.number;
        process = h.process;
        part = h.part;
        is = process_before h.number h.process h.is;
        among = h.among;
        owns = h.owns;
        instance_is = h.instance_is;
        made = h.made;
      }
