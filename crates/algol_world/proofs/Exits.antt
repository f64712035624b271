-- What the leaving of a part makes of a world is what the definitions choose.
use Rattle.std.proofs.Common.{◌≡◌, refl, ℕ, Bool, true, false, List, [], ◌∷◌, ap, sym, ◌∙◌, Option, Some, None}
use Rattle.b67_num.specs.declared.FaultKind.TheVariants as fault
use Rattle.b67_list.specs.Numbered.{numbered}
use Rattle.b67_list.proofs.Numbered.{numbered_same}
use Rattle.algol_tree.specs.Scopes.{Scopes}
use Rattle.algol_meaning.specs.World as world
use Rattle.algol_meaning.specs.World.{World, Part, Process, or_no_process, with_process}
use Rattle.algol_meaning.specs.Rest.{Answer}
use Rattle.b67_deeds.specs.declared.Letter.TheVariants as actions
use Rattle.algol_meaning.specs.Critical.{is_evaluation, some_depends}
use Rattle.algol_meaning.specs.Events.{caused_by_end}
use Rattle.algol_meaning.specs.Instances.{leave}
use Rattle.algol_world.specs.Going.{action_chosen}
use Rattle.algol_world.specs.Leaving.{left_todo, leaving_with, ending, failing, innermost_of, ended_by, leaves_of, leaves_by}
use Rattle.algol_world.specs.declared.exiting.Innermost.{Innermost}
use Rattle.algol_world.proofs.Releasing.{caused_stays}

abbrev pub evaluates_in : Option Innermost → Bool
evaluates_in None = false
evaluates_in (Some x) = x.evaluates

abbrev pub alone_in : Option Innermost → Bool
alone_in None = false
alone_in (Some x) = x.alone

abbrev pub instance_in : Option Innermost → ℕ
instance_in None = 0
instance_in (Some x) = x.instance

module _ (sc : Scopes) (w : World) (p : ℕ) (a : Answer) (x : Innermost) where
  evaluating_at :
      (o : Option Process) → numbered w.processes p ≡ o → Some x ≡ innermost_of ((or_no_process o).todo) → x.evaluates ≡ true
      → action_chosen actions.Leave (with_process w p (record (or_no_process o) { todo = left_todo sc (or_no_process o).todo a }))
      ≡ leaves_of sc w p (or_no_process o) ((or_no_process o).todo) a
  evaluating_at None e s t = cc
  evaluating_at (Some q) e s t = under q.todo refl s
    where
      under :
          (parts : List Part) → q.todo ≡ parts → Some x ≡ innermost_of parts
          → action_chosen actions.Leave (with_process w p (record q { todo = left_todo sc parts a })) ≡ leaves_of sc w p q parts a
      under [] d s = cc
      under (part ∷ []) d s =
          let ev : is_evaluation part.purpose ≡ true = sym (ap evaluates_in s) ∙ t in
          let same : record q { todo = part ∷ [] } ≡ q = ap (λ (parts : List Part). record q { todo = parts }) (sym d) in
          let at : numbered w.processes p ≡ Some (record q { todo = part ∷ [] }) = e ∙ ap Some (sym same) in
          rw ev (ap (λ (qs : List Process). action_chosen actions.Leave (record w { processes = qs })) (numbered_same w.processes p (record q { todo = part ∷ [] }) at))
      under (part ∷ next ∷ parts) d s = let ev : is_evaluation part.purpose ≡ true = sym (ap evaluates_in s) ∙ t in rw ev refl

  depending_at :
      (q : Process) (parts : List Part) → Some x ≡ innermost_of parts → x.evaluates ≡ false → some_depends w.processes x.instance ≡ true
      → action_chosen actions.Fault (failing w p fault.CriticalBlockExit) ≡ leaves_of sc w p q parts a
  depending_at q [] s t d = cc
  depending_at q (part ∷ outer) s t d =
      let ev : is_evaluation part.purpose ≡ false = sym (ap evaluates_in s) ∙ t in
      let dep : some_depends w.processes part.instance ≡ true = ap (some_depends w.processes) (sym (ap instance_in s)) ∙ d in
      rw (ev, dep) refl

  -- the last part ends, and with it the process
  ending_at :
      (o : Option Process) → numbered w.processes p ≡ o → (or_no_process o).state ≡ world.able → Some x ≡ innermost_of ((or_no_process o).todo)
      → x.evaluates ≡ false → some_depends w.processes x.instance ≡ false → x.alone ≡ true
      → record {
        action = actions.End;
        world = ending ((caused_by_end (leave w (x.instance ∷ [])) p (or_no_process o).task).world) p;
        released = (caused_by_end (leave w (x.instance ∷ [])) p (or_no_process o).task).processes;
        started = None;
      }
      ≡ leaves_of sc w p (or_no_process o) ((or_no_process o).todo) a
  ending_at None e able s t d l = cc
  ending_at (Some q) e able s t d l = under q.todo s
    where
      under :
          (parts : List Part) → Some x ≡ innermost_of parts
          → record {
            action = actions.End;
            world = ending ((caused_by_end (leave w (x.instance ∷ [])) p q.task).world) p;
            released = (caused_by_end (leave w (x.instance ∷ [])) p q.task).processes;
            started = None;
          }
          ≡ leaves_of sc w p q parts a
      under [] s = cc
      under (part ∷ []) s =
          let ev : is_evaluation part.purpose ≡ false = sym (ap evaluates_in s) ∙ t in
          let at : part.instance ≡ x.instance = sym (ap instance_in s) in
          let dep : some_depends w.processes part.instance ≡ false = ap (some_depends w.processes) at ∙ d in
          let stays = caused_stays (leave w (part.instance ∷ [])) p p q q.task e able in
          rw (ev, dep, ← at)
          (ap
          (λ (o : Option Process). record {
            action = actions.End;
            world =
                with_process ((caused_by_end (leave w (part.instance ∷ [])) p q.task).world) p (record (or_no_process o) { todo = []; state = world.ended });
            released = (caused_by_end (leave w (part.instance ∷ [])) p q.task).processes;
            started = None;
          })
          stays)
      under (part ∷ next ∷ parts) s = let no : false ≡ true = sym (ap alone_in s) ∙ l in cc

  -- the next part goes on
  leaving_at :
      (o : Option Process) → numbered w.processes p ≡ o → Some x ≡ innermost_of ((or_no_process o).todo) → x.evaluates ≡ false
      → some_depends w.processes x.instance ≡ false → x.alone ≡ false
      → action_chosen
      actions.Leave
      (with_process (leave w (x.instance ∷ [])) p (record (or_no_process o) { todo = left_todo sc (or_no_process o).todo a }))
      ≡ leaves_of sc w p (or_no_process o) ((or_no_process o).todo) a
  leaving_at None e s t d l = cc
  leaving_at (Some q) e s t d l = under q.todo s
    where
      under :
          (parts : List Part) → Some x ≡ innermost_of parts
          → action_chosen actions.Leave (with_process (leave w (x.instance ∷ [])) p (record q { todo = left_todo sc parts a })) ≡ leaves_of sc w p q parts a
      under [] s = cc
      under (part ∷ []) s = let no : true ≡ false = sym (ap alone_in s) ∙ l in cc
      under (part ∷ next ∷ parts) s =
          let ev : is_evaluation part.purpose ≡ false = sym (ap evaluates_in s) ∙ t in
          let at : part.instance ≡ x.instance = sym (ap instance_in s) in
          let dep : some_depends w.processes part.instance ≡ false = ap (some_depends w.processes) at ∙ d in
          rw (ev, dep, ← at) refl

  pub leaves_evaluation :
      Some x ≡ innermost_of ((world.process_at w p).todo) → x.evaluates ≡ true → action_chosen actions.Leave (leaving_with sc w p a) ≡ leaves_by sc w p a
  leaves_evaluation s t = evaluating_at (numbered w.processes p) refl s t

  pub leaves_critical :
      Some x ≡ innermost_of ((world.process_at w p).todo) → x.evaluates ≡ false → some_depends w.processes x.instance ≡ true
      → action_chosen actions.Fault (failing w p fault.CriticalBlockExit) ≡ leaves_by sc w p a
  leaves_critical s t d = depending_at (world.process_at w p) ((world.process_at w p).todo) s t d

  pub leaves_last :
      (world.process_at w p).state ≡ world.able → Some x ≡ innermost_of ((world.process_at w p).todo) → x.evaluates ≡ false
      → some_depends w.processes x.instance ≡ false → x.alone ≡ true → ended_by w p x.instance ≡ leaves_by sc w p a
  leaves_last able s t d l = ending_at (numbered w.processes p) refl able s t d l

  pub leaves_further :
      Some x ≡ innermost_of ((world.process_at w p).todo) → x.evaluates ≡ false → some_depends w.processes x.instance ≡ false → x.alone ≡ false
      → action_chosen actions.Leave (leaving_with sc (leave w (x.instance ∷ [])) p a) ≡ leaves_by sc w p a
  leaves_further s t d l = leaving_at (numbered w.processes p) refl s t d l

pub leaves_none : (sc : Scopes) (w : World) (p : ℕ) (a : Answer) → None ≡ innermost_of ((world.process_at w p).todo) → action_chosen actions.Fault w ≡ leaves_by sc w p a
leaves_none sc w p a s = under ((world.process_at w p).todo) s
  where
    under : (parts : List Part) → None ≡ innermost_of parts → action_chosen actions.Fault w ≡ leaves_of sc w p (world.process_at w p) parts a
    under [] s = refl
    under (part ∷ outer) s = cc

pub ruleset exits = (leaves_none, leaves_evaluation, leaves_critical, leaves_last, leaves_further)
