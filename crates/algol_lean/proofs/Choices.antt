-- An action that uses no cell of an instance that is left leads to instances that are alike again, and so to worlds that are.
use Rattle.std.proofs.Common.{◌≡◌, refl, sym, ap, ◌∙◌, subst, ℕ, zero, suc, ◌+◌, List, [], ◌∷◌, ◌++◌, Option, Some, None, Bool, true, false, length}
use Rattle.std.specs.Prelude.{if◌then◌else◌, ◌*◌, ◌==◌, nat_lt}
use Rattle.algol_tree.specs.declared.tree.Kind.{Kind}
use Rattle.algol_tree.specs.declared.tree.Named.{Named}
use Rattle.algol_tree.specs.Plain.{PStmts}
use Rattle.b67_deeds.specs.declared.EventAct.TheVariants as act
use Rattle.b67_deeds.specs.declared.EventTest.TheVariants as test
use Rattle.b67_deeds.specs.declared.Letter.TheVariants as actions
use Rattle.b67_deeds.specs.Deeds as deeds
use Rattle.b67_deeds.specs.Deeds.{EventDeed, Deed, Next, answers, deed}
use Rattle.b67_deeds.specs.Events.{fresh_state}
use Rattle.b67_num.specs.declared.FaultKind.TheVariants as fault
use Rattle.algol_tree.specs.Blocks.{Block, spot_of, block_numbered, number_at}
use Rattle.algol_tree.specs.Scopes.{Scopes, use_of}
use Rattle.algol_meaning.specs.declared.TheConstants.{MOST_STARTED, MOST_ELEMENTS}
use Rattle.algol_meaning.specs.Value.{Value, simple, whole_of, Reference, Bounds, ArrayCell, Cell, event, array, named, reference}
use Rattle.algol_meaning.specs.Rest.{Place, own, there, element_of, Given, valued, passed, refers, names, Answer, done}
use Rattle.algol_meaning.specs.Settle.{block_of_sort, settle_actual_place}
use Rattle.algol_meaning.specs.World.{Instance, name_place, Part, Process, World, instance_at, cell_at, set_cell, add_cells, by_cell, followed, array_in, event_in, process_at}
use Rattle.algol_meaning.specs.Critical.{some_depends, some_depends_on_any, is_evaluation, own_instances}
use Rattle.algol_meaning.specs.Arrays.{subscript_place, with_element, elements_of, new_arrays, has_wrong_size, has_no_room, bounds_of}
use Rattle.algol_meaning.specs.Events.{event_at, first_that, first_happened, released, caused_by_end}
use Rattle.algol_meaning.specs.Instances.{fresh_cells, leave, Cut, cut_at}
use Rattle.algol_meaning.specs.Asks as asks
use Rattle.algol_meaning.specs.Asks.{Ask, ask, located_of}
use Rattle.algol_meaning.specs.Choice as choices
use Rattle.algol_meaning.specs.Choice.{Choice, choice, choice_in, choice_of, goes, fails, opens, home, here, is_subscripted, given_cell, given_cells, task_of, with_new_instance, nth_exists}
use Rattle.algol_laws.specs.Kept.{if_any}
use Rattle.algol_laws.specs.Reading.{Outline, Told, told_choice, with_cells_of, read_by_leaving, read_by_first, all_led_to, read_by_several, read_by_deed, read_by, read_in, read_cells, SameCells}
use Rattle.algol_laws.proofs.Bared.{ancestor_alike, cell_left}
use Rattle.algol_laws.proofs.Reading.{each_reads}
use Rattle.algol_lean.specs.Lean.{AreLean, Lean, NoneLeft, UsesNoneLeft}
use Rattle.algol_lean.specs.Laws.{GoesAlike}
use Rattle.algol_lean.proofs.Lists.{lean_self, lean_added, outlines_lean, live_lean}
use Rattle.algol_lean.proofs.Changes.{bare_lean, instance_lean, cell_lean, set_lean, add_lean, leave_lean, released_lean, joined_lean}

-- the worlds after it have instances that are alike
abbrev AfterLean : Choice → Choice → Type 0
AfterLean c d = AreLean c.world.instances d.world.instances

either : (b : Bool) (c d e f : Choice) → AfterLean c d → AfterLean e f → AfterLean (if b then c else e) (if b then d else f)
either true c d e f g h = g
either false c d e f g h = h

module _ (sc : Scopes) (w : World) (xs : List Instance) (p : ℕ) (q : Process) (part : Part) (outer : List Part) (l : AreLean w.instances xs) where
  abbrev pub v : World
  v = with_cells_of w xs

  lean : Lean w v
  lean = record { instances = l; processes = refl; output = refl; fault = refl }

  -- ---- names

  home_same : (n : Named) → home sc v p q part outer n ≡ home sc w p q part outer n
  home_same n = ancestor_alike w v (bare_lean w v lean) ((use_of sc n).up) part.instance

  pub here_same : (n : Named) → here sc v p q part outer n ≡ here sc w p q part outer n
  here_same n = ap (λ (i : ℕ). named_in i) (home_same n)
    where
      named_in : ℕ → Reference
      named_in i = record { instance = i; name = n.name }

  pub led_same : (n : Named) → cell_at v (here sc w p q part outer n) ≡ cell_at w (here sc w p q part outer n) →
      followed v (here sc v p q part outer n) ≡ followed w (here sc w p q part outer n)
  led_same n e = ap (λ (r : Reference). followed v r) (here_same n) ∙ ap (λ (c : Cell). by_cell c (here sc w p q part outer n)) e

  -- ---- actions that change no instance

  unchanged : (c d : Choice) → c.world.instances ≡ w.instances → d.world.instances ≡ xs → AfterLean c d
  unchanged c d e f = subst (λ (is : List Instance). AreLean is d.world.instances) (sym e) (subst (λ (is : List Instance). AreLean w.instances is) (sym f) l)

  module _ (u : World) where
    read_leaves : (c : Cell) → (choices.read_of sc u p q part outer c).world.instances ≡ u.instances
    read_leaves (simple x) = refl
    read_leaves (event x) = refl
    read_leaves (array x) = refl
    read_leaves (named c) = refl
    read_leaves (reference r) = refl

    resolved_leaves : (n : Named) (c : Cell) → (choices.resolved_of sc u p q part outer n c).world.instances ≡ u.instances
    resolved_leaves n (simple x) = refl
    resolved_leaves n (event x) = refl
    resolved_leaves n (array x) = refl
    resolved_leaves n (named c) = by (is_subscripted c.actual)
      where
        by : (b : Bool) → (if b then opens sc u p q part outer u (record { instance = c.instance; purpose = name_place; rest = located_of (settle_actual_place sc c.actual) })
            else fails sc u p q part outer fault.NotAVariable).world.instances ≡ u.instances
        by true = refl
        by false = refl
    resolved_leaves n (reference r) = refl

    indexed_leaves : (r : Reference) (ks : List ℕ) (o : Option ℕ) → (choices.indexed_at sc u p q part outer r ks o).world.instances ≡ u.instances
    indexed_leaves r ks None = refl
    indexed_leaves r ks (Some k) = refl

    element_leaves : (a : ArrayCell) (ks : List ℕ) (o : Option ℕ) → (choices.element_read_at sc u p q part outer a ks o).world.instances ≡ u.instances
    element_leaves a ks None = refl
    element_leaves a ks (Some k) = refl

    selected_leaves : (x : Value) (ss : PStmts) → (choice_of sc u p q part outer (asks.selects x ss)).world.instances ≡ u.instances
    selected_leaves x ss = by (nth_exists (whole_of x) ss)
      where
        by : (b : Bool) → (if b then goes sc u p q part outer actions.Select u done else fails sc u p q part outer fault.CaseIndex).world.instances ≡ u.instances
        by true = refl
        by false = refl

  -- ---- entering

  given_same : (g : Given) → given_cell sc v p q part outer g ≡ given_cell sc w p q part outer g
  given_same (valued x) = refl
  given_same (passed c) = refl
  given_same (refers n) = ap (λ (r : Reference). reference r) (here_same n)
  given_same (names e) = refl

  all_given_same : (gs : List Given) → given_cells sc v p q part outer gs ≡ given_cells sc w p q part outer gs
  all_given_same [] = refl
  all_given_same (g ∷ gs) =
      ap (λ (c : Cell). c ∷ given_cells sc v p q part outer gs) (given_same g)
      ∙ ap (λ (cs : List Cell). given_cell sc w p q part outer g ∷ cs) (all_given_same gs)

  new_lean : (j i k process : ℕ) (cells others : List Cell) → k ≡ i → others ≡ cells →
      AreLean (with_new_instance sc w p q part outer j i process cells).instances (with_new_instance sc v p q part outer j k process others).instances
  new_lean j i k process cells others e f =
      subst (λ (m : ℕ). AreLean (w.instances ++ made i cells ∷ []) (xs ++ made m others ∷ [])) (sym e)
      (subst (λ (cs : List Cell). AreLean (w.instances ++ made i cells ∷ []) (xs ++ made i cs ∷ [])) (sym f)
      (lean_added w.instances xs l (made i cells) (made i cells) (lean_self (made i cells))))
    where
      made : ℕ → List Cell → Instance
      made m cs = record { block = j; parent = m; process = process; cells = fresh_cells (block_numbered sc.blocks j) cs; left = false }

  -- ---- leaving

  left_with_lean : (a b : World) (x : Answer) (parts : List Part) → AreLean a.instances b.instances →
      AfterLean (choices.left_with sc w p q part outer a x parts) (choices.left_with sc v p q part outer b x parts)
  left_with_lean a b x [] m = m
  left_with_lean a b x (next ∷ parts) m = m

  by_end_lean : (a b : World) (task : Option Reference) → Lean a b → SameCells a b (if_any task) →
      AreLean (caused_by_end a p task).world.instances (caused_by_end b p task).world.instances
  by_end_lean a b None m cells = m.instances
  by_end_lean a b (Some r) m cells =
      subst (λ (c : Cell). AreLean (caused_by_end a p (Some r)).world.instances (released b r (deed (deeds.acts act.Cause) p (event_in c))).world.instances) (sym cells.0)
      (released_lean a b m r (deed (deeds.acts act.Cause) p (event_at a r))).instances

  task_same : (is : List ℕ) (task : Option Reference) → SameCells w v (if_any task) → SameCells (leave w is) (leave v is) (if_any task)
  task_same is None cells = cells
  task_same is (Some r) cells = (cell_left is v r ∙ cells.0 ∙ sym (cell_left is w r), cells.1)

  left_or_ended_lean : (x : Answer) (parts : List Part) → SameCells w v (read_by_leaving sc w p q part outer parts) →
      AfterLean (choices.left_or_ended sc w p q part outer x parts) (choices.left_or_ended sc v p q part outer x parts)
  left_or_ended_lean x [] cells =
      by_end_lean (leave w (part.instance ∷ [])) (leave v (part.instance ∷ [])) q.task (leave_lean (part.instance ∷ []) w v lean)
      (task_same (part.instance ∷ []) q.task cells)
  left_or_ended_lean x (next ∷ parts) cells =
      left_with_lean (leave w (part.instance ∷ [])) (leave v (part.instance ∷ [])) x (next ∷ parts) (leave_lean (part.instance ∷ []) w v lean).instances

  left_lean : (x : Answer) → SameCells w v (read_by_leaving sc w p q part outer outer) → AfterLean (choices.left_choice sc w p q part outer x) (choices.left_choice sc v p q part outer x)
  left_lean x cells =
      either (is_evaluation part.purpose) (choices.left_with sc w p q part outer w x outer) (choices.left_with sc v p q part outer v x outer)
      (if some_depends w.processes part.instance then fails sc w p q part outer fault.CriticalBlockExit else choices.left_or_ended sc w p q part outer x outer)
      (if some_depends w.processes part.instance then fails sc v p q part outer fault.CriticalBlockExit else choices.left_or_ended sc v p q part outer x outer)
      (left_with_lean w v x outer l)
      (either (some_depends w.processes part.instance) (fails sc w p q part outer fault.CriticalBlockExit) (fails sc v p q part outer fault.CriticalBlockExit)
      (choices.left_or_ended sc w p q part outer x outer) (choices.left_or_ended sc v p q part outer x outer) l (left_or_ended_lean x outer cells))

  -- ---- GO TO

  gone_lean : (newer : List ℕ) (b c : Block) (n : Named) (parts : List Part) → AfterLean (choices.gone sc w p q part outer newer b n parts) (choices.gone sc v p q part outer newer c n parts)
  gone_lean newer b c n [] = l
  gone_lean newer b c n (target ∷ parts) = (leave_lean newer w v lean).instances

  gone_to_lean : (n : Named) (i : ℕ) (cut : Cut) → AfterLean (choices.gone_to sc w p q part outer n i cut) (choices.gone_to sc v p q part outer n i cut)
  gone_to_lean n i cut =
      let b = block_numbered sc.blocks ((instance_at w i).block) in
      let c = block_numbered sc.blocks ((instance_at v i).block) in
      either (some_depends_on_any w.processes (own_instances cut.newer)) (fails sc w p q part outer fault.CriticalBlockExit) (fails sc v p q part outer fault.CriticalBlockExit)
      (choices.gone sc w p q part outer (own_instances cut.newer) b n cut.from) (choices.gone sc v p q part outer (own_instances cut.newer) c n cut.from)
      l (gone_lean (own_instances cut.newer) b c n cut.from)

  goes_to_lean : (n : Named) (i k : ℕ) → k ≡ i → AfterLean (choices.goes_to sc w p q part outer n i) (choices.goes_to sc v p q part outer n k)
  goes_to_lean n i k e =
      subst (λ (m : ℕ). AfterLean (choices.goes_to sc w p q part outer n i) (choices.goes_to sc v p q part outer n m)) (sym e)
      (subst
      (λ (o : Outline). AfterLean (choices.goes_to sc w p q part outer n i)
      (if o.process == p then choices.gone_to sc v p q part outer n i (cut_at [] (part ∷ outer) i) else fails sc v p q part outer fault.BadGoTo))
      (sym (instance_lean w v lean i).alike)
      (either ((instance_at w i).process == p) (choices.gone_to sc w p q part outer n i (cut_at [] (part ∷ outer) i))
      (choices.gone_to sc v p q part outer n i (cut_at [] (part ∷ outer) i)) (fails sc w p q part outer fault.BadGoTo) (fails sc v p q part outer fault.BadGoTo)
      (gone_to_lean n i (cut_at [] (part ∷ outer) i)) l))

  -- ---- processes

  starts_lean : (j : ℕ) (n : Named) (gs : List Given) (t u : Option Reference) →
      AfterLean (choices.starts sc w p q part outer j (home sc w p q part outer n) (given_cells sc w p q part outer gs) t)
      (choices.starts sc v p q part outer j (home sc v p q part outer n) (given_cells sc v p q part outer gs) u)
  starts_lean j n gs t u =
      new_lean j (home sc w p q part outer n) (home sc v p q part outer n) (length w.processes + 1) (given_cells sc w p q part outer gs) (given_cells sc v p q part outer gs)
      (home_same n) (all_given_same gs)

  -- ---- events

  did_lean : (x : EventDeed) (r : Reference) (d : Deed) (next : Next) → AfterLean (choices.did sc w p q part outer x r d next) (choices.did sc v p q part outer x r d next)
  did_lean x r d deeds.goes = (released_lean w v lean r d).instances
  did_lean x r d deeds.waits = (released_lean w v lean r d).instances
  did_lean x r d deeds.procures = (released_lean w v lean r d).instances

  first_lean : (x : EventDeed) (ns : List Named) → SameCells w v (read_by_first sc w p q part outer ns) →
      AfterLean (choices.does_with_first sc w p q part outer x ns) (choices.does_with_first sc v p q part outer x ns)
  first_lean x [] cells = l
  first_lean x (n ∷ ns) cells =
      subst (λ (s : Reference). AfterLean ours (choices.deed_does sc v p q part outer x s (deed x p (event_at v s)))) (sym (led_same n cells.0))
      (subst (λ (c : Cell). AfterLean ours (choices.deed_does sc v p q part outer x r (deed x p (event_in c)))) (sym cells.1.0)
      (did_lean x r (deed x p (event_at w r)) (deed x p (event_at w r)).next))
    where
      r : Reference
      r = followed w (here sc w p q part outer n)

      ours : Choice
      ours = choices.deed_does sc w p q part outer x r (deed x p (event_at w r))

  pub all_same : (ns : List Named) → SameCells w v (all_led_to sc w p q part outer ns) → choices.all_followed sc v p q part outer ns ≡ choices.all_followed sc w p q part outer ns
  all_same [] cells = refl
  all_same (n ∷ ns) cells =
      ap (λ (r : Reference). r ∷ choices.all_followed sc v p q part outer ns) (led_same n cells.0)
      ∙ ap (λ (rs : List Reference). followed w (here sc w p q part outer n) ∷ rs) (all_same ns cells.1.1)

  happened_same : (k : ℕ) (ns : List Named) → SameCells w v (all_led_to sc w p q part outer ns) →
      first_that (λ r. answers test.WaitAny (event_at v r)) k (choices.all_followed sc w p q part outer ns)
      ≡ first_that (λ r. answers test.WaitAny (event_at w r)) k (choices.all_followed sc w p q part outer ns)
  happened_same k [] cells = refl
  happened_same k (n ∷ ns) cells =
      ap (λ (c : Cell). if answers test.WaitAny (event_in c) then Some k
      else first_that (λ r. answers test.WaitAny (event_at v r)) (k + 1) (choices.all_followed sc w p q part outer ns)) cells.1.0
      ∙ ap (λ (o : Option ℕ). if answers test.WaitAny (event_at w (followed w (here sc w p q part outer n))) then Some k else o)
      (happened_same (k + 1) ns cells.1.1)

  any_lean : (rs : List Reference) (o : Option ℕ) → AfterLean (choices.waits_for_any sc w p q part outer rs o) (choices.waits_for_any sc v p q part outer rs o)
  any_lean rs None = (joined_lean p [] rs w v lean).instances
  any_lean rs (Some k) = l

  several_lean : (woken : ℕ) (ns : List Named) → SameCells w v (read_by_several sc w p q part outer woken ns) →
      AfterLean (choices.wakes_or_waits sc w p q part outer woken (choices.all_followed sc w p q part outer ns))
      (choices.wakes_or_waits sc v p q part outer woken (choices.all_followed sc v p q part outer ns))
  several_lean zero ns cells =
      subst (λ (rs : List Reference). AfterLean ours (choices.waits_for_any sc v p q part outer rs (first_happened v rs))) (sym (all_same ns cells))
      (subst (λ (o : Option ℕ). AfterLean ours (choices.waits_for_any sc v p q part outer all o)) (sym (happened_same 1 ns cells)) (any_lean all (first_happened w all)))
    where
      all : List Reference
      all = choices.all_followed sc w p q part outer ns

      ours : Choice
      ours = choices.waits_for_any sc w p q part outer all (first_happened w all)
  several_lean (suc k) ns cells = l

  deed_lean : (x : EventDeed) (ns : List Named) → SameCells w v (read_by_deed sc w p q part outer x ns) →
      AfterLean (choices.does_with sc w p q part outer x ns) (choices.does_with sc v p q part outer x ns)
  deed_lean x ns = by (deeds.is_of_several x)
    where
      by : (b : Bool) → SameCells w v (if b then read_by_several sc w p q part outer q.woken ns else read_by_first sc w p q part outer ns) →
          AfterLean
          (if b then choices.wakes_or_waits sc w p q part outer q.woken (choices.all_followed sc w p q part outer ns) else (choices.does_with_first sc w p q part outer x ns))
          (if b then choices.wakes_or_waits sc v p q part outer q.woken (choices.all_followed sc v p q part outer ns) else (choices.does_with_first sc v p q part outer x ns))
      by true cells = several_lean q.woken ns cells
      by false cells = first_lean x ns cells

  -- ---- arrays

  arrays_lean : (kind : Kind) (ns : List Named) (bs : List Bounds) → AfterLean (choices.made_arrays sc w p q part outer kind ns bs) (choices.made_arrays sc v p q part outer kind ns bs)
  arrays_lean kind ns bs =
      either (has_wrong_size bs) (fails sc w p q part outer fault.ArraySize) (fails sc v p q part outer fault.ArraySize)
      (if has_no_room w bs ns then fails sc w p q part outer fault.CoreFull else ours) (if has_no_room v bs ns then fails sc v p q part outer fault.CoreFull else theirs) l
      (subst
      (λ (n : ℕ). AfterLean (if has_no_room w bs ns then fails sc w p q part outer fault.CoreFull else ours)
      (if nat_lt MOST_ELEMENTS (n + elements_of bs * length ns) then fails sc v p q part outer fault.CoreFull else theirs)) (sym (live_lean w.instances xs l))
      (either (has_no_room w bs ns) (fails sc w p q part outer fault.CoreFull) (fails sc v p q part outer fault.CoreFull) ours theirs l
      (add_lean w v lean part.instance (new_arrays kind bs ns)).instances))
    where
      ours : Choice
      ours = goes sc w p q part outer actions.MakeArrays (add_cells w part.instance (new_arrays kind bs ns)) done

      theirs : Choice
      theirs = goes sc v p q part outer actions.MakeArrays (add_cells v part.instance (new_arrays kind bs ns)) done

  -- ---- stores

  stored_lean : (x : Place) (y : Value) → AfterLean (choices.stored sc w p q part outer x y) (choices.stored sc v p q part outer x y)
  stored_lean (own n) y =
      subst (λ (r : Reference). AreLean (set_cell w (here sc w p q part outer n) (simple y)).instances (set_cell v r (simple y)).instances) (sym (here_same n))
      (set_lean w v lean (here sc w p q part outer n) (simple y) (simple y) (λ e. refl)).instances
  stored_lean (there r) y = (set_lean w v lean r (simple y) (simple y) (λ e. refl)).instances
  stored_lean (element_of r ks) y =
      (set_lean w v lean r (array (with_element (array_in (cell_at w r)) ks y)) (array (with_element (array_in (cell_at v r)) ks y))
      (λ e. ap (λ (c : Cell). array (with_element (array_in c) ks y)) (cell_lean w v lean r e))).instances

  -- ---- all

  choice_lean : (a : Ask) → SameCells w v (read_by sc w p q part outer a) → AfterLean (choice_of sc w p q part outer a) (choice_of sc v p q part outer a)
  choice_lean asks.nothing cells = l
  choice_lean (asks.reads n) cells =
      let c = cell_at w (here sc w p q part outer n) in
      let d = cell_at v (here sc v p q part outer n) in
      unchanged (choices.read_of sc w p q part outer c) (choices.read_of sc v p q part outer d) (read_leaves w c) (read_leaves v d)
  choice_lean (asks.reads_element n ks x) cells =
      let a = array_in (cell_at w (followed w (here sc w p q part outer n))) in
      let b = array_in (cell_at v (followed v (here sc v p q part outer n))) in
      let j = subscript_place ((use_of sc n).sort) a ks (whole_of x) in
      let k = subscript_place ((use_of sc n).sort) b ks (whole_of x) in
      unchanged (choices.element_read_at sc w p q part outer a ks j) (choices.element_read_at sc v p q part outer b ks k) (element_leaves w a ks j) (element_leaves v b ks k)
  choice_lean (asks.indexes n ks x) cells =
      let r = followed w (here sc w p q part outer n) in
      let s = followed v (here sc v p q part outer n) in
      let j = subscript_place ((use_of sc n).sort) (array_in (cell_at w r)) ks (whole_of x) in
      let k = subscript_place ((use_of sc n).sort) (array_in (cell_at v s)) ks (whole_of x) in
      unchanged (choices.indexed_at sc w p q part outer r ks j) (choices.indexed_at sc v p q part outer s ks k) (indexed_leaves w r ks j) (indexed_leaves v s ks k)
  choice_lean (asks.fails f) cells = l
  choice_lean (asks.enters n gs) cells =
      new_lean (block_of_sort ((use_of sc n).sort)) (home sc w p q part outer n) (home sc v p q part outer n) p (given_cells sc w p q part outer gs)
      (given_cells sc v p q part outer gs) (home_same n) (all_given_same gs)
  choice_lean (asks.passes n) cells = l
  choice_lean (asks.resolves n) cells =
      let c = cell_at w (here sc w p q part outer n) in
      let d = cell_at v (here sc v p q part outer n) in
      unchanged (choices.resolved_of sc w p q part outer n c) (choices.resolved_of sc v p q part outer n d) (resolved_leaves w n c) (resolved_leaves v n d)
  choice_lean (asks.reads_result name) cells = l
  choice_lean (asks.leaves a) cells = left_lean a cells
  choice_lean (asks.stores x y) cells = stored_lean x y
  choice_lean (asks.selects x ss) cells =
      unchanged (choice_of sc w p q part outer (asks.selects x ss)) (choice_of sc v p q part outer (asks.selects x ss)) (selected_leaves w x ss) (selected_leaves v x ss)
  choice_lean asks.turns cells = l
  choice_lean (asks.goes_to n) cells = goes_to_lean n (home sc w p q part outer n) (home sc v p q part outer n) (home_same n)
  choice_lean (asks.enters_block b) cells = new_lean (number_at sc.blocks (spot_of b)) part.instance part.instance p [] [] refl refl
  choice_lean (asks.starts n gs task) cells =
      either (nat_lt MOST_STARTED (length w.processes)) (fails sc w p q part outer fault.ProcessLimit) (fails sc v p q part outer fault.ProcessLimit)
      (choices.starts sc w p q part outer (block_of_sort ((use_of sc n).sort)) (home sc w p q part outer n) (given_cells sc w p q part outer gs) (task_of sc w p q part outer task))
      (choices.starts sc v p q part outer (block_of_sort ((use_of sc n).sort)) (home sc v p q part outer n) (given_cells sc v p q part outer gs) (task_of sc v p q part outer task))
      l (starts_lean (block_of_sort ((use_of sc n).sort)) n gs (task_of sc w p q part outer task) (task_of sc v p q part outer task))
  choice_lean (asks.event_deed x ns) cells = deed_lean x ns cells
  choice_lean (asks.writes phrases vs) cells = l
  choice_lean (asks.makes_arrays kind ns pairs vs) cells = arrays_lean kind ns (bounds_of pairs vs)
  choice_lean (asks.makes_event n) cells = (add_lean w v lean part.instance (record { name = n.name; cell = event fresh_state } ∷ [])).instances

-- ---- by process

pub same_cells : (w : World) (xs : List Instance) → AreLean w.instances xs → (rs : List Reference) → NoneLeft w rs → SameCells w (with_cells_of w xs) rs
same_cells w xs l [] n = tt
same_cells w xs l (r ∷ rs) n =
    (cell_lean w (with_cells_of w xs) (record { instances = l; processes = refl; output = refl; fault = refl }) r n.0, same_cells w xs l rs n.1)

choice_in_lean : (sc : Scopes) (w : World) (xs : List Instance) (p : ℕ) (q : Process) (parts : List Part) → AreLean w.instances xs →
    SameCells w (with_cells_of w xs) (read_in sc w p q parts) → AfterLean (choice_in sc w p q parts) (choice_in sc (with_cells_of w xs) p q parts)
choice_in_lean sc w xs p q [] l cells = l
choice_in_lean sc w xs p q (part ∷ outer) l cells = choice_lean sc w xs p q part outer l (ask part.rest) cells

instances_after : (sc : Scopes) (w : World) (xs : List Instance) (p : ℕ) → AreLean w.instances xs → SameCells w (with_cells_of w xs) (read_cells sc w p) →
    AfterLean (choice sc w p) (choice sc (with_cells_of w xs) p)
unfolding choice read_cells
instances_after sc w xs p l cells = choice_in_lean sc w xs p (process_at w p) (process_at w p).todo l cells

pub goes_with : (sc : Scopes) (w : World) (xs : List Instance) (p : ℕ) → AreLean w.instances xs → UsesNoneLeft sc w p → GoesAlike (choice sc w p) (choice sc (with_cells_of w xs) p)
goes_with sc w xs p l uses =
    record {
      action = ap (λ (t : Told). t.action) same;
      released = ap (λ (t : Told). t.released) same;
      started = ap (λ (t : Told). t.started) same;
      world = record {
        instances = instances_after sc w xs p l cells;
        processes = ap (λ (t : Told). t.after.processes) same;
        output = ap (λ (t : Told). t.after.output) same;
        fault = ap (λ (t : Told). t.after.fault) same;
      };
    }
  where
    cells : SameCells w (with_cells_of w xs) (read_cells sc w p)
    cells = same_cells w xs l (read_cells sc w p) uses.reads

    same : told_choice (choice sc (with_cells_of w xs) p) ≡ told_choice (choice sc w p)
    same = each_reads sc w xs p (outlines_lean w.instances xs l) (live_lean w.instances xs l) cells

-- a lean world is w with other instances
pub lean_is : (w v : World) → Lean w v → v ≡ with_cells_of w v.instances
lean_is w v l i = record { instances = v.instances; processes = l.processes i; output = l.output i; fault = l.fault i }

pub goes_alike : (sc : Scopes) (w v : World) (p : ℕ) → Lean w v → UsesNoneLeft sc w p → GoesAlike (choice sc w p) (choice sc v p)
goes_alike sc w v p l uses = subst (λ (u : World). GoesAlike (choice sc w p) (choice sc u p)) (sym (lean_is w v l)) (goes_with sc w v.instances p l.instances uses)
