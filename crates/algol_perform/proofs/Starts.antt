-- What the start of a process makes of a world, as the definitions choose it.
use Rattle.std.proofs.Common.{◌≡◌, refl, ℕ, zero, suc, ◌+◌, false, List, [], ◌∷◌, ◌++◌, length, map, ap, ◌∙◌, Option, Some}
use Rattle.std.specs.declared.vec.Vec.{Vec}
use Rattle.std.specs.declared.alloc.Global.{Global}
use Rattle.b67_list.specs.Numbered.{numbered}
use Rattle.algol_tree.specs.Scopes.{Scopes}
use Rattle.algol_meaning.specs.World as world
use Rattle.algol_meaning.specs.World.{World, Part, Process, process_at, or_no_process, with_process}
use Rattle.algol_meaning.specs.Rest as rest
use Rattle.b67_deeds.specs.declared.Letter.TheVariants as actions
use Rattle.algol_meaning.specs.Critical.{newest_first, first_on_path, referred_by, referred_by_task}
use Rattle.algol_cells.specs.SeenCell as seen
use Rattle.algol_cells.specs.declared.cell.Cell.{Cell}
use Rattle.algol_cells.specs.declared.cell.Reference.{Reference}
use Rattle.algol_world.specs.SeenWorld as views
use Rattle.algol_world.specs.Going.{going, resumed}
use Rattle.algol_world.specs.Leaving.{is_nil}
use Rattle.algol_effect.specs.declared.effect.Effect.TheVariants as effects
use Rattle.algol_perform.specs.Making.{with_instance_of, part_of_purpose, with_process_of}
use Rattle.algol_perform.specs.Performing.{performed, performed_by}
use Rattle.algol_world.proofs.Deeds.{one_of_these}

one_more : {A : Type 0} (xs : List A) (n : ℕ) (x y : A) → numbered xs n ≡ Some x → numbered (xs ++ y ∷ []) n ≡ Some x
one_more xs zero x y e = cc
one_more [] (suc k) x y e = cc
one_more (z ∷ xs) (suc zero) x y e = e
one_more (z ∷ xs) (suc (suc k)) x y e = one_more xs (suc k) x y e

module _ (sc : Scopes) (w : World) (p : ℕ) where
  -- the instance on which the new process depends
  abbrev critical_for : ℕ → List Cell → Option Reference → ℕ
  critical_for parent cells task =
      first_on_path w (newest_first 1 w.instances []) p (parent ∷ referred_by (map seen.cell cells) ++ referred_by_task (views.task task))

  abbrev grown : ℕ → ℕ → List Cell → Option Reference → World
  grown j parent cells task =
      with_process_of (with_instance_of sc w j parent (length w.processes + 1) (map seen.cell cells)) (part_of_purpose sc w j world.started)
      (Some (critical_for parent cells task)) (views.task task)

  stays :
      (j parent : ℕ) (cells : List Cell) (task : Option Reference) → is_nil ((process_at w p).todo) ≡ false
      → process_at (grown j parent cells task) p ≡ process_at w p
  stays j parent cells task has =
      ap or_no_process (one_more w.processes p (process_at w p) _ (one_of_these (numbered w.processes p) has))

  pub starts :
      (j parent : ℕ) (cells : Vec Cell Global) (task : Option Reference) → is_nil ((process_at w p).todo) ≡ false
      → record {
        action = actions.Start;
        world =
            going
            sc
            (with_process_of (with_instance_of sc w j parent (length w.processes + 1) (map seen.cell cells.items)) (part_of_purpose sc w j world.started)
            (Some
            (first_on_path w (newest_first 1 w.instances []) p (parent ∷ referred_by (map seen.cell cells.items) ++ referred_by_task (views.task task))))
            (views.task task))
            p
            rest.done;
        released = [];
        started = Some (length w.processes + 1);
      }
      ≡ performed sc w p (effects.Starts j parent cells task)
  starts j parent cells task has =
      ap
      (λ (q : Process). record {
        action = actions.Start;
        world = with_process (grown j parent cells.items task) p (record q { todo = resumed sc q.todo rest.done });
        released = [];
        started = Some (length w.processes + 1);
      })
      (stays j parent cells.items task has)
      ∙ under ((process_at w p).todo) has
    where
      under :
          (parts : List Part) → is_nil parts ≡ false
          → record {
            action = actions.Start;
            world = with_process (grown j parent cells.items task) p (record (process_at w p) { todo = resumed sc parts rest.done });
            released = [];
            started = Some (length w.processes + 1);
          }
          ≡ performed_by sc w p (process_at w p) parts (effects.Starts j parent cells task)
      under [] h = cc
      under (part ∷ outer) h = refl

  abbrev pub started_world : ℕ → ℕ → Vec Cell Global → Option Reference → ℕ → ℕ → World
  started_world j parent cells task n critical =
      going
      sc
      (with_process_of (with_instance_of sc w j parent (n + 1) (map seen.cell cells.items)) (part_of_purpose sc w j world.started) (Some critical)
      (views.task task))
      p
      rest.done

  -- the same, by what the code knows of each part
  pub starts_so :
      (j parent count critical : ℕ) (cells : Vec Cell Global) (task : Option Reference) (after : World) (released : List ℕ)
      → is_nil ((process_at w p).todo) ≡ false
      → after
      ≡ going
      sc
      (with_process_of (with_instance_of sc w j parent (count + 1) (map seen.cell cells.items)) (part_of_purpose sc w j world.started) (Some critical)
      (views.task task))
      p
      rest.done
      → released ≡ [] → count ≡ length w.processes
      → critical
      ≡ first_on_path w (newest_first 1 w.instances []) p (parent ∷ referred_by (map seen.cell cells.items) ++ referred_by_task (views.task task))
      → record { action = actions.Start; world = after; released = released; started = Some (count + 1) }
      ≡ performed sc w p (effects.Starts j parent cells task)
  starts_so j parent count critical cells task after released has went none same is =
      ap (λ (v : World). record { action = actions.Start; world = v; released = released; started = Some (count + 1) }) went
      ∙ ap (λ (rs : List ℕ). record { action = actions.Start; world = started_world j parent cells task count critical; released = rs; started = Some (count + 1) }) none
      ∙ ap (λ (n : ℕ). record { action = actions.Start; world = started_world j parent cells task n critical; released = []; started = Some (n + 1) }) same
      ∙ ap
      (λ (k : ℕ). record { action = actions.Start; world = started_world j parent cells task (length w.processes) k; released = []; started = Some (length w.processes + 1) })
      is
      ∙ starts j parent cells task has
