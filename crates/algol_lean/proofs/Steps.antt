-- A step of a world that runs beside another one is a step of that.
use Rattle.std.proofs.Common.{◌≡◌, refl, sym, ap, ◌∙◌, subst, ℕ, List, [], ◌∷◌, Option, Some, None, Bool, true, false}
use Rattle.std.specs.Prelude.{Result, Ok, Err, IfOk}
use Rattle.algol_tree.specs.Plain.{PProgram}
use Rattle.algol_tree.specs.Scopes.{Scopes, scopes_of}
use Rattle.algol_meaning.specs.World.{World, process_at}
use Rattle.algol_meaning.specs.Choice.{Choice, choice}
use Rattle.algol_meaning.specs.Run.{End, start, end_of, may_go, run_from}
use Rattle.algol_meaning.proofs.Cited.{entry_after}
use Rattle.algol_front.proofs.Ordered.{IsSource}
use Rattle.algol_world.specs.SeenActed.{acted_choice}
use Rattle.algol_world.specs.declared.acted.Acted.{Acted}
use Rattle.algol_run.specs.Stepping.{ended, not_able, went, chosen_by, step_by, step_of, told_step, is_going, is_kept}
use Rattle.algol_run.specs.declared.stepping.Stepped.{Stepped}
use Rattle.algol_run.specs.declared.stepping.Stepped.TheVariants as stepped
use Rattle.algol_seen.specs.Seen.{ProcessIsSeen}
use Rattle.algol_seen.specs.declared.seen.Seen.{Seen}
use Rattle.algol_lean.specs.Lean.{Lean, UsesNoneLeft}
use Rattle.algol_lean.specs.Beside.{KeepsInUse, RunsBeside, StepsBeside, SeenBeside}
use Rattle.algol_lean.specs.Laws.{GoesAlike}
use Rattle.algol_lean.specs.Shed.{all_shed, leaving_in, StepsShedding, SeenShedding}
use Rattle.algol_lean.proofs.Changes.{world_self}
use Rattle.algol_lean.proofs.Choices.{goes_alike}
use Rattle.algol_lean.proofs.Doing.{ends_lean, may_lean, done_lean}
use Rattle.algol_lean.proofs.InUse.{source_keeps_in_use}
use Rattle.algol_lean.proofs.GivenBack.{all_shed_lean}

-- the world in which a run of a source begins runs beside itself
pub source_beside : (tree : PProgram) → IsSource tree → RunsBeside (scopes_of tree) (start (scopes_of tree)) (start (scopes_of tree))
source_beside tree is = record { lean = world_self (start (scopes_of tree)); in_use = source_keeps_in_use tree is }

-- ---- what stays in use

in_use_after : (sc : Scopes) (w : World) (p : ℕ) → may_go w p ≡ true → KeepsInUse sc w → KeepsInUse sc ((choice sc w p).world)
in_use_after sc w p may keeps h after k e goes =
    keeps (p ∷ h) after k (ap (λ (o : Option World). run_from sc h o) (entry_after sc w p may) ∙ e) goes

uses_now : (sc : Scopes) (w : World) (p : ℕ) → KeepsInUse sc w → may_go w p ≡ true → UsesNoneLeft sc w p
uses_now sc w p keeps goes = keeps [] w p refl goes

-- ---- what is told of a step

told_same : (a : Acted) (u : World) (c d : Choice) → acted_choice a u ≡ d → GoesAlike c d → acted_choice a c.world ≡ c
told_same a u c d e g i =
    record {
      action = (ap (λ (x : Choice). x.action) e ∙ g.action) i;
      world = c.world;
      released = (ap (λ (x : Choice). x.released) e ∙ g.released) i;
      started = (ap (λ (x : Choice). x.started) e ∙ g.started) i;
    }

module _ (c d : Choice) (g : GoesAlike c d) (u : World) where
  same_end : end_of d.world ≡ end_of c.world
  same_end = ends_lean c.world d.world g.world

  -- the same is told of the other step
  pub told_alike : (s : Stepped) → told_step s u ≡ chosen_by (end_of d.world) d → (told_step s c.world ≡ chosen_by (end_of c.world) c) × (u ≡ d.world)
  told_alike stepped.NotAble e = by (end_of d.world) e
    where
      by : (o : Option End) → not_able ≡ chosen_by o d → (not_able ≡ chosen_by (end_of c.world) c) × (u ≡ d.world)
      by None f = cc
      by (Some x) f = cc
  told_alike (stepped.Went a) e = by (end_of d.world) refl e
    where
      by : (o : Option End) → end_of d.world ≡ o → went (acted_choice a u) ≡ chosen_by o d → (went (acted_choice a c.world) ≡ chosen_by (end_of c.world) c) × (u ≡ d.world)
      by None k f =
          let is : acted_choice a u ≡ d = cc in
          let none : end_of c.world ≡ None = sym same_end ∙ k in
          (ap went (told_same a u c d is g) ∙ sym (ap (λ (o : Option End). chosen_by o c) none), ap (λ (x : Choice). x.world) is)
      by (Some x) k f = cc
  told_alike (stepped.Ended a) e = by (end_of d.world) refl e
    where
      by : (o : Option End) → end_of d.world ≡ o → ended (acted_choice a u) ≡ chosen_by o d → (ended (acted_choice a c.world) ≡ chosen_by (end_of c.world) c) × (u ≡ d.world)
      by None k f = cc
      by (Some x) k f =
          let is : acted_choice a u ≡ d = cc in
          let some : end_of c.world ≡ Some x = sym same_end ∙ k in
          (ap ended (told_same a u c d is g) ∙ sym (ap (λ (o : Option End). chosen_by o c) some), ap (λ (y : Choice). y.world) is)

told_nothing : (s : Stepped) (u w : World) → told_step s u ≡ not_able → (told_step s w ≡ not_able) × (is_going s ≡ false)
told_nothing stepped.NotAble u w e = (refl, refl)
told_nothing (stepped.Went a) u w e = cc
told_nothing (stepped.Ended a) u w e = cc

-- ---- steps

module _ (sc : Scopes) (w v after : World) (p : ℕ) (b : RunsBeside sc w v) where
  abbrev c : Choice
  c = choice sc w p

  abbrev d : Choice
  d = choice sc v p

  abbrev leaving : List ℕ
  leaving = leaving_in sc v (process_at v p).todo

  alike : may_go w p ≡ true → GoesAlike c d
  alike may = goes_alike sc w v p b.lean (uses_now sc w p b.in_use may)

  beside_still : (u : World) → u ≡ v → after ≡ all_shed u leaving → RunsBeside sc w after
  beside_still u e shed =
      record {
        lean = subst (λ (x : World). Lean w x) (sym (shed ∙ ap (λ (x : World). all_shed x leaving) e)) (all_shed_lean leaving w v b.lean);
        in_use = b.in_use;
      }

  beside_then : (may : may_go w p ≡ true) (u : World) → u ≡ d.world → after ≡ all_shed u leaving → RunsBeside sc c.world after
  beside_then may u e shed =
      record {
        lean = subst (λ (x : World). Lean c.world x) (sym (shed ∙ ap (λ (x : World). all_shed x leaving) e)) (all_shed_lean leaving c.world d.world (alike may).world);
        in_use = in_use_after sc w p may b.in_use;
      }

  pub steps_beside : (s : Stepped) → StepsShedding sc v p after s → StepsBeside sc w p after s
  steps_beside s t = by (may_go w p) refl (ap (λ (m : Bool). step_by m d) (may_lean w v p b.lean))
    where
      by : (m : Bool) → may_go w p ≡ m → step_of sc v p ≡ step_by m d → StepsBeside sc w p after s
      by false may e =
          let none = told_nothing s t.went w (t.step ∙ e) in
          record {
            after = w;
            step = none.0 ∙ sym (ap (λ (m : Bool). step_by m c) may);
            still = λ f. refl;
            beside = beside_still t.went (t.still none.1) t.shed;
          }
      by true may e =
          let same = told_alike c d (alike may) t.went s (t.step ∙ e) in
          record {
            after = c.world;
            step = same.0 ∙ sym (ap (λ (m : Bool). step_by m c) may);
            still = λ f. absurd (goes s f same.0);
            beside = beside_then may t.went same.1 t.shed;
          }
        where
          goes : (x : Stepped) → is_going x ≡ false → told_step x c.world ≡ chosen_by (end_of c.world) c → ⊥
          goes stepped.NotAble f g = by_end (end_of c.world) g
            where
              by_end : (o : Option End) → not_able ≡ chosen_by o c → ⊥
              by_end None h = cc
              by_end (Some x) h = cc
          goes (stepped.Went a) f g = cc
          goes (stepped.Ended a) f g = cc

  pub seen_beside : (o : Option Seen) → SeenShedding sc v p after o → SeenBeside sc w p after o
  seen_beside None t = record { after = w; step = (sym (may_lean w v p b.lean) ∙ t.step.0, refl); beside = beside_still t.went t.step.1 t.shed }
  seen_beside (Some s) t =
      let is : ProcessIsSeen sc v p t.went s = t.step in
      let may : may_go w p ≡ true = sym (may_lean w v p b.lean) ∙ is.may in
      record {
        after = c.world;
        step = record {
          may = may;
          world = refl;
          done = is.done ∙ done_lean sc w v p b.lean (uses_now sc w p b.in_use may);
          letter = is.letter ∙ (alike may).action;
          ended = is.ended ∙ ap (λ (u : World). is_kept (end_of u)) is.world ∙ ap (λ (o : Option End). is_kept o) (ends_lean c.world d.world (alike may).world);
        };
        beside = beside_then may t.went is.world t.shed;
      }

-- ---- where memory does not lack

pub all_steps_beside : {E : Type 0} (sc : Scopes) (v after : World) (p : ℕ) (r : Result Stepped E) → IfOk r (StepsShedding sc v p after) →
    IfOk r (λ s. (w : World) → RunsBeside sc w v → StepsBeside sc w p after s)
all_steps_beside sc v after p (Ok s) t = λ w b. steps_beside sc w v after p b s t
all_steps_beside sc v after p (Err e) t = tt

pub all_seen_beside : {E : Type 0} (sc : Scopes) (v after : World) (p : ℕ) (r : Result (Option Seen) E) → IfOk r (SeenShedding sc v p after) →
    IfOk r (λ s. (w : World) → RunsBeside sc w v → SeenBeside sc w p after s)
all_seen_beside sc v after p (Ok o) t = λ w b. seen_beside sc w v after p b o t
all_seen_beside sc v after p (Err e) t = tt
