-- The innermost part goes on: what it has still to do fits, and so do a part that comes to be inside it and the world.
use Rattle.std.proofs.Common.{◌≡◌, ◌⊎◌, ℕ, List, ◌∷◌, Some, Bool, true, false, refl, sym, ap, ◌∙◌, subst}
use Rattle.std.specs.Prelude.{if◌then◌else◌}
use Rattle.b67_list.specs.Numbered.{numbered}
use Rattle.b67_num.specs.declared.FaultKind.{FaultKind}
use Rattle.algol_tree.specs.Scopes.{Scopes}
use Rattle.algol_meaning.specs.Value.{Value, Reference, simple}
use Rattle.algol_meaning.specs.Rest.{Answer, entered}
use Rattle.algol_meaning.specs.World.{Part, Process, State, with_process, World}
use Rattle.algol_meaning.specs.Events.{reference_is_among, list_in}
use Rattle.algol_meaning.specs.Critical.{is_evaluation}
use Rattle.algol_meaning.specs.Asks.{Ask, ask, resume}
use Rattle.algol_meaning.specs.Choice.{Choice, fails, opens}
use Rattle.algol_calls.specs.Fits.{AskFits, AnswerFits}
use Rattle.algol_calls.proofs.Rests.{resumed_fits, rest_asks}
use Rattle.algol_standing.specs.Worlds.{held_in_rest, held_in_answer, IsAmongParts, GivesNoOwn, IsWholeInstance, IsSound}
use Rattle.algol_standing.specs.Fitting.{LeadsRight, AllLeadRight, PartFits, ProcessFits, WorldFits}
use Rattle.algol_standing.proofs.Holding.{IsForeign, resumed_holds}
use Rattle.algol_standing.proofs.Fine.{Fine, fine_of}
use Rattle.algol_standing.proofs.Resumed.{no_own}
use Rattle.algol_standing.proofs.FitWorlds.{Extends, extends_self, all_right, right_all, plain_too, part_too, instance_too, same_processes, process_fits}

pub simple_right : (sc : Scopes) (w : World) (v : Value) → LeadsRight sc w (simple v)
simple_right sc w v = tt

-- nothing of instances and processes changes
pub same_fits : (sc : Scopes) (w v : World) → WorldFits sc w → v.instances ≡ w.instances → v.processes ≡ w.processes → WorldFits sc v
same_fits sc w v fits e f =
    same_processes sc w v (extends_self w v e) fits f (λ i y g. instance_too sc w v (extends_self w v e) y (fits.instances i y (ap (λ xs. numbered xs i) (sym e) ∙ g)))

-- a part goes on with an answer
pub goes_on_fits : (sc : Scopes) (w : World) (x : Part) (a : Answer) → PartFits sc w x → GivesNoOwn (is_evaluation x.purpose) x.rest → AnswerFits sc (ask x.rest) a →
    AllLeadRight sc w (held_in_answer a) → IsForeign a → PartFits sc w (record x { rest = resume sc x.rest a })
goes_on_fits sc w x a h own fit brings foreign =
    record {
      rest = resumed_fits sc x.rest a h.rest fit;
      holds = all_right sc w (held_in_rest (resume sc x.rest a))
          (resumed_holds (LeadsRight sc w) (simple_right sc w) (is_evaluation x.purpose) sc x.rest a (right_all sc w (held_in_rest x.rest) h.holds, own)
          (right_all sc w (held_in_answer a) brings) foreign).0;
    }

module _ (sc : Scopes) (w : World) (ok : IsSound sc IsWholeInstance w) (fits : WorldFits sc w) (p : ℕ) (q : Process) (part : Part) (outer : List Part) (is : numbered w.processes p ≡ Some q)
    (todo : q.todo ≡ part ∷ outer) where
  pub each_fits : (x : Part) → IsAmongParts (part ∷ outer) x → PartFits sc w x
  each_fits x n = (fits.processes p q is).parts x (subst (λ ps. IsAmongParts ps x) (sym todo) n)

  pub here_fits : PartFits sc w part
  here_fits = each_fits part (◌⊎◌.inl refl)

  pub asked : (x : Ask) → ask part.rest ≡ x → AskFits sc x
  asked x e = subst (λ y. AskFits sc y) e (rest_asks sc part.rest here_fits.rest)

  fine : Fine sc w (part ∷ outer)
  fine = subst (λ ps. Fine sc w ps) todo (fine_of sc w ok p q is)

  -- in this state it has no other events in its list
  abbrev pub NoOthers : State → Type 0
  NoOthers s = (r : Reference) → reference_is_among (list_in s) r ≡ true → reference_is_among (list_in q.state) r ≡ true

  -- the process has these parts in a world with more instances
  pub parts_fit : (v : World) → Extends w v → (parts : List Part) → ((x : Part) → IsAmongParts parts x → PartFits sc v x) → (s : State) → NoOthers s →
      ProcessFits sc v (record q { todo = parts; state = s })
  parts_fit v more parts f s none =
      record {
        parts = f;
        task = λ r e. plain_too sc w v more r ((fits.processes p q is).task r e);
        waits = λ r e. plain_too sc w v more r ((fits.processes p q is).waits r (none r e));
      }

  pub outer_fits : (v : World) → Extends w v → (x : Part) → IsAmongParts outer x → PartFits sc v x
  outer_fits v more x n = part_too sc w v more x (each_fits x (◌⊎◌.inr n))

  module _ (x : Ask) (e : ask part.rest ≡ x) (a : Answer) (fit : AnswerFits sc x a) (brings : AllLeadRight sc w (held_in_answer a)) (foreign : IsForeign a) where
    pub answered_fits : PartFits sc w (record part { rest = resume sc part.rest a })
    answered_fits = goes_on_fits sc w part a here_fits (no_own part outer fine.given) (subst (λ y. AnswerFits sc y a) (sym e) fit) brings foreign

    pub answered_process : ProcessFits sc w (record q { todo = record part { rest = resume sc part.rest a } ∷ outer })
    answered_process = parts_fit w (extends_self w w refl) (record part { rest = resume sc part.rest a } ∷ outer) each q.state (λ r f. f)
      where
        each : (y : Part) → IsAmongParts (record part { rest = resume sc part.rest a } ∷ outer) y → PartFits sc w y
        each y (◌⊎◌.inl f) = subst (λ z. PartFits sc w z) f answered_fits
        each y (◌⊎◌.inr n) = each_fits y (◌⊎◌.inr n)

    -- the part goes on in this world
    pub goes_fits : (v : World) → Extends w v → WorldFits sc v → (s : State) → NoOthers s →
        WorldFits sc (with_process v p (record q { todo = record part { rest = resume sc part.rest a } ∷ outer; state = s }))
    goes_fits v more h s none =
        process_fits sc v p (record q { todo = record part { rest = resume sc part.rest a } ∷ outer; state = s }) h
        (parts_fit v more (record part { rest = resume sc part.rest a } ∷ outer) each s none)
      where
        each : (y : Part) → IsAmongParts (record part { rest = resume sc part.rest a } ∷ outer) y → PartFits sc v y
        each y (◌⊎◌.inl f) = subst (λ z. PartFits sc v z) f (part_too sc w v more (record part { rest = resume sc part.rest a }) answered_fits)
        each y (◌⊎◌.inr n) = outer_fits v more y n

    pub stays_fits : WorldFits sc (with_process w p (record q { todo = record part { rest = resume sc part.rest a } ∷ outer }))
    stays_fits = goes_fits w (extends_self w w refl) fits q.state (λ r f. f)

  -- a part comes to be inside
  module _ (x : Ask) (e : ask part.rest ≡ x) (fit : AnswerFits sc x entered) (v : World) (more : Extends w v) (h : WorldFits sc v) (inner : Part) (inner_fits : PartFits sc v inner) where
    pub opens_fits : WorldFits sc (opens sc w p q part outer v inner).world
    opens_fits =
        process_fits sc v p (record q { todo = inner ∷ record part { rest = resume sc part.rest entered } ∷ outer }) h
        (parts_fit v more (inner ∷ record part { rest = resume sc part.rest entered } ∷ outer) each q.state (λ r f. f))
      where
        each : (y : Part) → IsAmongParts (inner ∷ record part { rest = resume sc part.rest entered } ∷ outer) y → PartFits sc v y
        each y (◌⊎◌.inl f) = subst (λ z. PartFits sc v z) f inner_fits
        each y (◌⊎◌.inr (◌⊎◌.inl f)) =
            subst (λ z. PartFits sc v z) f (part_too sc w v more (record part { rest = resume sc part.rest entered }) (answered_fits x e entered fit tt tt))
        each y (◌⊎◌.inr (◌⊎◌.inr n)) = outer_fits v more y n

  -- ---- choices

  abbrev pub KeepsFit : Choice → Type 0
  KeepsFit c = WorldFits sc c.world

  pub either_fit : (b : Bool) (c d : Choice) → KeepsFit c → KeepsFit d → KeepsFit (if b then c else d)
  either_fit true c d f g = f
  either_fit false c d f g = g

  pub fails_fit : (k : FaultKind) → KeepsFit (fails sc w p q part outer k)
  fails_fit k = same_fits sc w (fails sc w p q part outer k).world fits refl refl
