-- The printed end of a run is that of the source, and what is left of the given schedule is what it says.
use Rattle.std.proofs.Common.{◌≡◌, ◌⊎◌, inl, inr, ℕ, ◌<◌, ◌≤◌, Bool, List, [], ◌∷◌, length, Option, Some, None, refl, sym, ap, ◌∙◌, subst, arith}
use Rattle.std.specs.Prelude.{◌≢◌}
use Rattle.algol_tree.specs.Plain.{PProgram}
use Rattle.algol_meaning.specs.World.{World, process_at}
use Rattle.algol_meaning.specs.World.{is_able as meaning_able}
use Rattle.algol_meaning.specs.Run.{end_of, may_go}
use Rattle.algol_meaning.specs.Run as meaning
use Rattle.b67_report.specs.declared.EndWords.{EndWords}
use Rattle.b67_segment.specs.declared.code.Code.{Code}
use Rattle.b67_table.specs.Image.{Image}
use Rattle.b67_table.specs.Ending.{ImageEnd, image_end, goes_on, may_act}
use Rattle.b67_table.specs.Ending as machine
use Rattle.b67_table.proofs.Cited.{may_parts}
use Rattle.b67_faithful.specs.Agreement.{end_as, Shows, Fits}
use Rattle.b67_machine.specs.declared.replay.Replayed.{Replayed}
use Rattle.b67_machine.specs.declared.replay.Replayed.TheVariants.{Ended, Ran, Illegal, BudgetSpent, NoMemory, Differs}
use Rattle.b67_machine.specs.Kept.{MachineModel}
use Rattle.b67_machine.specs.Reads.{machine_end, machine_end_by, end_shown, limit_end}
use Rattle.b67_machine.specs.Replaying.{ReplayAnswers, MayGo, ReplayAtLimit, IsIllegal}
use Rattle.b67_explain.specs.Explaining.{EndIs, ScheduleIsLeft, IsTail, NextIsIllegal, NextGoes}
use Rattle.b67_explain.specs.Telling.{words_of_end, EndTells}

pub going : (e : Option ImageEnd) (able_now : Bool) → meaning.goes_on (end_as e) able_now ≡ goes_on e able_now
going None able_now = refl
going (Some machine.finished) able_now = refl
going (Some (machine.faulted kind p)) able_now = refl
going (Some machine.all_waiting) able_now = refl

-- a process may go on in the world where it may act in the image
pub may_both : (code : Code) (w : World) (img : Image) (p : ℕ) → Shows code w img → may_go w p ≡ may_act img p
unfolding may_go may_act
may_both code w img p shows =
    ap (λ e. meaning.goes_on e (meaning_able ((process_at w p).state))) shows.ends
    ∙ going (image_end img) (meaning_able ((process_at w p).state))
    ∙ ap (goes_on (image_end img)) (shows.able p)

module _ (tree : PProgram) (code : Code) (w : World) (img : Image) (shows : Shows code w img) (fits : Fits tree code w img) where
  none_there : image_end img ≡ None → end_of w ≡ None
  none_there e = shows.ends ∙ ap end_as e

  some_there : image_end img ≢ None → end_of w ≢ None
  some_there h e = by (image_end img) refl
    where
      by : (o : Option ImageEnd) → image_end img ≡ o → ⊥
      by None is = h is
      by (Some machine.finished) is = let f : None ≡ Some meaning.finished = sym e ∙ shows.ends ∙ ap end_as is in cc
      by (Some (machine.faulted kind p)) is = let f : None ≡ Some (meaning.fault kind p) = sym e ∙ shows.ends ∙ ap end_as is in cc
      by (Some machine.all_waiting) is = let f : None ≡ Some meaning.all_waiting = sym e ∙ shows.ends ∙ ap end_as is in cc

  -- the image's end
  end_there : (budget operators : ℕ) (e : ImageEnd) → operators ≤ budget → image_end img ≡ Some e →
      EndIs tree code w img budget operators (words_of_end (end_shown e))
  end_there budget operators machine.finished within is = (shows.ends ∙ ap end_as is, within)
  end_there budget operators (machine.faulted kind p) within is = (shows.ends ∙ ap end_as is, within)
  end_there budget operators machine.all_waiting within is = (shows.ends ∙ ap end_as is, within)

  left_there : (performed : ℕ) (e : ImageEnd) (left : List ℕ) → left ≡ [] → ScheduleIsLeft w performed (words_of_end (end_shown e)) left
  left_there performed machine.finished left is = is
  left_there performed (machine.faulted kind p) left is = is
  left_there performed machine.all_waiting left is = is

  tail_there : (e : ImageEnd) (tail : ℕ) → tail ≡ 0 → IsTail (words_of_end (end_shown e)) tail
  tail_there machine.finished tail is = is
  tail_there (machine.faulted kind p) tail is = is
  tail_there machine.all_waiting tail is = is

  illegal_there : (left : List ℕ) → IsIllegal left img → NextIsIllegal w left
  illegal_there [] h = h
  illegal_there (p ∷ left) h = may_both code w img p shows ∙ h

  -- the process of the next entry may go on in the world where it may act in the image
  pub going_there : (left : List ℕ) → MayGo left img → NextGoes w left
  going_there [] h = h
  going_there (p ∷ left) h = may_both code w img p shows ∙ h

  -- what is said of the end, of what is left, and of the tail
  pub record Said (budget operators performed : ℕ) (left : List ℕ) (tail : ℕ) (end : EndWords) : Type 0 where
    pub ended : EndIs tree code w img budget operators end
    pub leaves : ScheduleIsLeft w performed end left
    pub alone : IsTail end tail

  -- the machine is at the end of the image
  at_end : (m : MachineModel) (budget operators performed : ℕ) (left : List ℕ) (tail : ℕ) (end : EndWords) (e : ImageEnd) → operators ≤ budget → m.image ≡ img → image_end img ≡ Some e →
      tail ≡ 0 → left ≡ [] → EndTells Ended (machine_end m) end → Said budget operators performed left tail end
  at_end m budget operators performed left tail end e within same is none no_more tells =
      let there : machine_end m ≡ Some (end_shown e) = ap (λ o. machine_end_by o m) (ap image_end same ∙ is) in
      let said : end ≡ words_of_end (end_shown e) = subst (λ o. EndTells Ended o end) there tells in
      subst (λ (x : EndWords). Said budget operators performed left tail x) (sym said)
      (record { ended = end_there budget operators e within is; leaves = left_there performed e left no_more; alone = tail_there e tail none })

  -- the machine is at the stack limit
  at_limit : (m : MachineModel) (budget operators performed : ℕ) (left : List ℕ) (tail : ℕ) (end : EndWords) → m.image ≡ img → operators < budget → MayGo left img →
      ReplayAtLimit code left img m.limit → EndTells Ended (machine_end m) end → Said budget operators performed left tail end
  at_limit m budget operators performed [] tail end same less goes at tells = absurd goes
  at_limit m budget operators performed (p ∷ left) tail end same less goes at tells =
      let none = (may_parts img p goes).0 in
      let there : machine_end m ≡ limit_end (Some p) img.regs =
      ap (λ o. machine_end_by o m) (ap image_end same ∙ none) ∙ ap (λ o. limit_end o m.image.regs) at.1 ∙ ap (λ (i : Image). limit_end (Some p) i.regs) same in
      let said = subst (λ o. EndTells Ended o end) there tells in
      subst (λ (x : EndWords). Said budget operators performed (p ∷ left) tail x) (sym said)
      (record { ended = (none_there none, less, record { goes = may_both code w img p shows ∙ goes; next = at.0; has = refl; heavy = fits.heavy p at.0 }); leaves = refl; alone = tt })

  module _ (m : MachineModel) (budget operators performed : ℕ) (done left : List ℕ) (tail : ℕ) (end : EndWords) (same : m.image ≡ img) (within : operators ≤ budget) where
    by_end : (o : Option ImageEnd) → image_end img ≡ o → image_end img ≢ None → tail ≡ 0 → left ≡ [] → EndTells Ended (machine_end m) end →
        Said budget operators performed left tail end
    by_end None is some none no_more tells = absurd (some is)
    by_end (Some e) is some none no_more tells = at_end m budget operators performed left tail end e within same is none no_more tells

    pub said_of : (answer : Replayed) → performed ≡ length done → ReplayAnswers code budget operators done left tail img m answer → EndTells answer (machine_end m) end →
        Said budget operators performed left tail end
    said_of Ended count (inl a) tells = by_end (image_end img) refl a.2 a.0 a.1 tells
    said_of Ended count (inr a) tells = at_limit m budget operators performed left tail end same a.0 a.1 a.2 tells
    said_of Ran count a tells =
        subst (λ (x : EndWords). Said budget operators performed left tail x) (sym tells)
        (record { ended = (none_there a.2, a.3); leaves = a.1; alone = a.0 })
    said_of (Illegal number) count a tells =
        subst (λ (x : EndWords). Said budget operators performed left tail x) (sym tells)
        (record { ended = illegal a.3; leaves = (omega (arith, a.1, count), illegal_there left a.2); alone = a.0 })
      where
        illegal : (image_end img ≢ None) ⊎ (operators < budget) → ((end_of w ≢ None) × (operators ≤ budget)) ⊎ (operators < budget)
        illegal (inl some) = inl (some_there some, within)
        illegal (inr less) = inr less
    said_of BudgetSpent count a tells =
        subst (λ (x : EndWords). Said budget operators performed left tail x) (sym tells)
        (record { ended = (none_there a.0, omega (arith, a.1)); leaves = tt; alone = tt })
    said_of NoMemory count a tells = absurd tells
    said_of (Differs number) count a tells =
        subst (λ (x : EndWords). Said budget operators performed left tail x) (sym tells)
        (record { ended = within; leaves = omega (arith, a.1, count); alone = a.0 })
