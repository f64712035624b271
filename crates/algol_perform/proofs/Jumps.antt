-- What GO TO and the making of an event make of a world, as the definitions choose it.
use Rattle.std.proofs.Common.{◌≡◌, refl, ℕ, ◌==◌, true, false, List, [], ◌∷◌, length, take, drop, ap, sym, ◌∙◌, Option, Some, None, slice_get}
use Rattle.b67_num.specs.declared.FaultKind.TheVariants as fault
use Rattle.b67_list.specs.Numbered.{numbered}
use Rattle.algol_tree.specs.Blocks.{block_numbered}
use Rattle.algol_tree.specs.Scopes.{Scopes}
use Rattle.algol_tree.specs.declared.tree.Named.{Named}
use Rattle.algol_meaning.specs.Value.{event}
use Rattle.algol_meaning.specs.World as world
use Rattle.algol_meaning.specs.World.{World, Part, Process, process_at, instance_at, with_process, add_cells}
use Rattle.algol_meaning.specs.Rest as rest
use Rattle.algol_meaning.specs.Rest.{Rest}
use Rattle.algol_meaning.specs.Statements.{settle_items, items_from}
use Rattle.b67_deeds.specs.declared.Letter.TheVariants as actions
use Rattle.algol_meaning.specs.Critical.{some_depends_on_any, own_instances}
use Rattle.algol_meaning.specs.Instances.{leave}
use Rattle.algol_meaning.proofs.Cited.{leave_processes}
use Rattle.b67_deeds.specs.Events.{fresh_state}
use Rattle.algol_world.specs.Going.{action_chosen, going, resumed}
use Rattle.algol_world.specs.Leaving.{is_nil, is_nothing, failing}
use Rattle.algol_perform.specs.Going.{instance_in, owned, AreLeft, redirected, going_back, going_by, going_to, making, making_by}
use Rattle.algol_perform.proofs.Newer.{owned_left, drop_more, drop_none}

module _ (sc : Scopes) (w : World) (p : ℕ) (n : Named) (i : ℕ) where
  bad : (q : Process) (parts : List Part) → is_nil parts ≡ false → ((instance_at w i).process == p) ≡ false
      → action_chosen actions.Fault (failing w p fault.BadGoTo) ≡ going_by sc w p q parts n i
  bad q [] has e = cc
  bad q (part ∷ outer) has e = rw e refl

  pub goes_nowhere :
      is_nil ((process_at w p).todo) ≡ false → ((instance_at w i).process == p) ≡ false
      → action_chosen actions.Fault (failing w p fault.BadGoTo) ≡ going_to sc w p n i
  goes_nowhere has e = bad (process_at w p) ((process_at w p).todo) has e

  stopped :
      (q : Process) (parts : List Part) (left : List (Option ℕ)) → is_nil parts ≡ false → ((instance_at w i).process == p) ≡ true
      → AreLeft left parts i → some_depends_on_any w.processes (owned left) ≡ true
      → action_chosen actions.Fault (failing w p fault.CriticalBlockExit) ≡ going_by sc w p q parts n i
  stopped q [] left has e cut d = cc
  stopped q (part ∷ outer) left has e cut d =
      let same = owned_left left (take (length left) (part ∷ outer)) cut.1 in
      let depends : some_depends_on_any w.processes (own_instances (take (length left) (part ∷ outer))) ≡ true =
      ap (some_depends_on_any w.processes) (sym same) ∙ d in
      rw (e, cut.0, depends) refl

  pub goes_past_critical :
      (left : List (Option ℕ)) → is_nil ((process_at w p).todo) ≡ false → ((instance_at w i).process == p) ≡ true
      → AreLeft left ((process_at w p).todo) i → some_depends_on_any w.processes (owned left) ≡ true
      → action_chosen actions.Fault (failing w p fault.CriticalBlockExit) ≡ going_to sc w p n i
  goes_past_critical left has e cut d = stopped (process_at w p) ((process_at w p).todo) left has e cut d

  module _ (left : List (Option ℕ)) (e : ((instance_at w i).process == p) ≡ true) (d : some_depends_on_any w.processes (owned left) ≡ false) where
    stays_put :
        (q : Process) (parts : List Part) → is_nil parts ≡ false → AreLeft left parts i → None ≡ slice_get parts (length left)
        → action_chosen actions.GoTo w ≡ going_by sc w p q parts n i
    stays_put q [] has cut s = cc
    stays_put q (part ∷ outer) has cut s =
        let same = owned_left left (take (length left) (part ∷ outer)) cut.1 in
        let depends : some_depends_on_any w.processes (own_instances (take (length left) (part ∷ outer))) ≡ false =
        ap (some_depends_on_any w.processes) (sym same) ∙ d in
        rw (e, cut.0, depends, drop_none (part ∷ outer) (length left) s) refl

    pub goes_to_nothing :
        is_nil ((process_at w p).todo) ≡ false → AreLeft left ((process_at w p).todo) i
        → is_nothing (slice_get ((process_at w p).todo) (length left)) ≡ true → action_chosen actions.GoTo w ≡ going_to sc w p n i
    goes_to_nothing has cut s = by (slice_get ((process_at w p).todo) (length left)) refl s
      where
        by :
            (o : Option Part) → slice_get ((process_at w p).todo) (length left) ≡ o → is_nothing o ≡ true
            → action_chosen actions.GoTo w ≡ going_to sc w p n i
        by None e s = stays_put (process_at w p) ((process_at w p).todo) has cut (sym e)
        by (Some x) e s = cc

    jumped :
        (q : Process) (parts : List Part) (x : Part) → is_nil parts ≡ false → AreLeft left parts i → Some x ≡ slice_get parts (length left)
        → action_chosen
        actions.GoTo
        (with_process (leave w (owned left)) p
        (record q {
          todo = redirected (drop (length left) parts) (settle_items sc (items_from (block_numbered sc.blocks ((instance_at w i).block)) n.name));
        }))
        ≡ going_by sc w p q parts n i
    jumped q [] x has cut s = cc
    jumped q (part ∷ outer) x has cut s =
        let same = owned_left left (take (length left) (part ∷ outer)) cut.1 in
        let depends : some_depends_on_any w.processes (own_instances (take (length left) (part ∷ outer))) ≡ false =
        ap (some_depends_on_any w.processes) (sym same) ∙ d in
        rw (e, cut.0, depends, same, drop_more (part ∷ outer) (length left) x s) refl

    goes_back_to :
        (x : Part) → is_nil ((process_at w p).todo) ≡ false → AreLeft left ((process_at w p).todo) i
        → Some x ≡ slice_get ((process_at w p).todo) (length left)
        → action_chosen
        actions.GoTo
        (going_back (leave w (owned left)) p (length left) (settle_items sc (items_from (block_numbered sc.blocks ((instance_at w i).block)) n.name)))
        ≡ going_to sc w p n i
    goes_back_to x has cut s =
        ap
        (λ (qs : List Process). action_chosen
        actions.GoTo
        (with_process (leave w (owned left)) p
        (record (world.or_no_process (numbered qs p)) {
          todo =
              redirected
              (drop (length left) (world.or_no_process (numbered qs p)).todo)
              (settle_items sc (items_from (block_numbered sc.blocks ((instance_at w i).block)) n.name));
        })))
        (leave_processes w (owned left))
        ∙ jumped (process_at w p) ((process_at w p).todo) x has cut s

    pub goes_back :
        is_nil ((process_at w p).todo) ≡ false → AreLeft left ((process_at w p).todo) i
        → is_nothing (slice_get ((process_at w p).todo) (length left)) ≡ false
        → action_chosen
        actions.GoTo
        (going_back (leave w (owned left)) p (length left) (settle_items sc (items_from (block_numbered sc.blocks ((instance_at w i).block)) n.name)))
        ≡ going_to sc w p n i
    goes_back has cut s = by (slice_get ((process_at w p).todo) (length left)) refl s
      where
        by :
            (o : Option Part) → slice_get ((process_at w p).todo) (length left) ≡ o → is_nothing o ≡ false
            → action_chosen
            actions.GoTo
            (going_back (leave w (owned left)) p (length left) (settle_items sc (items_from (block_numbered sc.blocks ((instance_at w i).block)) n.name)))
            ≡ going_to sc w p n i
        by None e s = cc
        by (Some x) e s = goes_back_to x has cut (sym e)

pub ruleset jump_laws = goes_nowhere

-- ---- events

module _ (sc : Scopes) (w : World) (p : ℕ) (n : Named) where
  pub makes :
      is_nil ((process_at w p).todo) ≡ false
      → action_chosen actions.MakeEvent (going sc (add_cells w (instance_in ((process_at w p).todo)) (record { name = n.name; cell = event fresh_state } ∷ [])) p rest.done)
      ≡ making sc w p n
  makes has = under ((process_at w p).todo) has
    where
      under :
          (parts : List Part) → is_nil parts ≡ false
          → action_chosen
          actions.MakeEvent
          (with_process (add_cells w (instance_in parts) (record { name = n.name; cell = event fresh_state } ∷ [])) p
          (record (process_at w p) { todo = resumed sc parts rest.done }))
          ≡ making_by sc w p (process_at w p) parts n
      under [] h = cc
      under (part ∷ outer) h = refl

pub ruleset event_laws = makes
