-- The innermost part goes on: nobody comes to more of an instance by what it has still to do, nor by a part that comes to be inside it.
use Rattle.std.proofs.Common.{◌≡◌, ◌⊎◌, ℕ, List, [], ◌∷◌, Some, Bool, true, false, refl, sym, ◌∙◌, subst}
use Rattle.std.specs.Prelude.{if◌then◌else◌}
use Rattle.b67_list.specs.Numbered.{numbered}
use Rattle.b67_num.specs.declared.FaultKind.{FaultKind}
use Rattle.algol_tree.specs.Scopes.{Scopes}
use Rattle.algol_meaning.specs.Rest.{Answer, entered}
use Rattle.algol_meaning.specs.World.{instance_at, Part, Process, State, with_process, World}
use Rattle.algol_meaning.specs.Critical.{is_evaluation}
use Rattle.algol_meaning.specs.Asks.{resume}
use Rattle.algol_meaning.specs.Choice.{Choice, fails, opens}
use Rattle.algol_paths.specs.Blocks.{IsSeenAround}
use Rattle.algol_paths.specs.Arrays.{all_to_make}
use Rattle.algol_paths.proofs.Rests.{resumed_keeps}
use Rattle.algol_paths.proofs.Making.{all_is_made_in_order}
use Rattle.algol_standing.specs.Worlds.{held_in_rest, held_in_answer, IsAmongParts, IsNoBlock, GivesNoOwn, PartsAreGiven, IsWholeInstance, IsSound}
use Rattle.algol_standing.proofs.Holding.{AreAll, IsForeign, resumed_holds}
use Rattle.algol_standing.proofs.Resumed.{answer_in, nothing_left, no_own}
use Rattle.algol_standing.proofs.LowWorlds.{Low, plain_low, low_all, all_low, GoesLow, LowIf, TaskLow, PartsLow, same_low, process_low}
use Rattle.algol_standing.proofs.LowNames.{Near}

module _ (sc : Scopes) (w : World) (ok : IsSound sc IsWholeInstance w) (p : ℕ) (q : Process) (part : Part) (outer : List Part) (is : numbered w.processes p ≡ Some q)
    (todo : q.todo ≡ part ∷ outer) (b i : ℕ) (X : Type 0) (h : Near sc b i X w part) where
  in_all : (y : Part) → IsAmongParts (part ∷ outer) y → IsAmongParts q.todo y
  in_all y n = subst (λ ps. IsAmongParts ps y) (sym todo) n

  pub old_part : (y : Part) → IsAmongParts (part ∷ outer) y → GoesLow sc b i X y
  old_part y n = h.low.parts p q y is (in_all y n)

  pub given : PartsAreGiven (part ∷ outer)
  given = subst (λ ps. PartsAreGiven ps) todo (ok.processes p q is).gives

  pub task_low : TaskLow sc b i X q
  task_low r e = h.low.tasks p q r is e

  -- a part goes on with an answer
  pub goes_on_low : (y : Part) → IsAmongParts (part ∷ outer) y → GivesNoOwn (is_evaluation y.purpose) y.rest → (a : Answer) → AreAll (Low sc b i X) (held_in_answer a) → IsForeign a →
      GoesLow sc b i X (record y { rest = resume sc y.rest a })
  goes_on_low y n own a brings foreign =
      record {
        low = λ t.
            record {
              holds = low_all sc b i X (held_in_rest (resume sc y.rest a))
                  (resumed_holds (Low sc b i X) (plain_low sc b i X) (is_evaluation y.purpose) sc y.rest a (all_low sc b i X (held_in_rest y.rest) (λ u. ((old_part y n).low u).holds), own) brings
                  foreign).0
                  t;
              narrow = λ e f.
                  resumed_keeps (IsSeenAround sc b) IsNoBlock (IsSeenAround sc b) sc y.rest a (((old_part y n).low t).narrow e f) (answer_in (IsSeenAround sc b) a foreign);
            };
        makes = λ o f m. (old_part y n).makes o f (λ g. m (made g));
      }
    where
      made : all_to_make y.rest ≡ [] → all_to_make (resume sc y.rest a) ≡ []
      made g =
          all_is_made_in_order.resumed sc ((instance_at w y.instance).block) y.rest a ((ok.processes p q is).parts y (in_all y n)).text ∙ nothing_left y.rest g

  module _ (a : Answer) (brings : AreAll (Low sc b i X) (held_in_answer a)) (foreign : IsForeign a) where
    pub answered_low : GoesLow sc b i X (record part { rest = resume sc part.rest a })
    answered_low = goes_on_low part (◌⊎◌.inl refl) (no_own part outer given) a brings foreign

    -- in this world
    each : PartsLow sc b i X (record part { rest = resume sc part.rest a } ∷ outer)
    each y (◌⊎◌.inl f) = subst (λ z. GoesLow sc b i X z) f answered_low
    each y (◌⊎◌.inr n) = old_part y (◌⊎◌.inr n)

    pub goes_low : (v : World) → LowIf sc b i X v → (s : State) →
        LowIf sc b i X (with_process v p (record q { todo = record part { rest = resume sc part.rest a } ∷ outer; state = s }))
    goes_low v l s = process_low sc b i X v p (record q { todo = record part { rest = resume sc part.rest a } ∷ outer; state = s }) l each task_low

    -- .. and has no woken number then
    pub woken_low : LowIf sc b i X (with_process w p (record q { todo = record part { rest = resume sc part.rest a } ∷ outer; woken = 0 }))
    woken_low = process_low sc b i X w p (record q { todo = record part { rest = resume sc part.rest a } ∷ outer; woken = 0 }) h.low each task_low

    pub stays_low : LowIf sc b i X (with_process w p (record q { todo = record part { rest = resume sc part.rest a } ∷ outer }))
    stays_low = goes_low w h.low q.state

  -- a part comes to be inside
  pub opens_low : (v : World) → LowIf sc b i X v → (inner : Part) → GoesLow sc b i X inner → LowIf sc b i X (opens sc w p q part outer v inner).world
  opens_low v l inner inner_low = process_low sc b i X v p (record q { todo = inner ∷ record part { rest = resume sc part.rest entered } ∷ outer }) l each task_low
    where
      each : PartsLow sc b i X (inner ∷ record part { rest = resume sc part.rest entered } ∷ outer)
      each y (◌⊎◌.inl f) = subst (λ z. GoesLow sc b i X z) f inner_low
      each y (◌⊎◌.inr (◌⊎◌.inl f)) = subst (λ z. GoesLow sc b i X z) f (answered_low entered tt tt)
      each y (◌⊎◌.inr (◌⊎◌.inr n)) = old_part y (◌⊎◌.inr n)

  -- ---- choices

  abbrev pub KeepsLow : Choice → Type 0
  KeepsLow c = LowIf sc b i X c.world

  pub either_low : (t : Bool) (c d : Choice) → KeepsLow c → KeepsLow d → KeepsLow (if t then c else d)
  either_low true c d f g = f
  either_low false c d f g = g

  pub fails_low : (k : FaultKind) → KeepsLow (fails sc w p q part outer k)
  fails_low k = same_low sc b i X w (fails sc w p q part outer k).world refl refl h.low
