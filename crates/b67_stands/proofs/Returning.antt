-- A plant stands after a process has gone back to the queue, and how a landing leaves the end.
use Rattle.std.specs.Prelude.{nat_le}
use Rattle.std.proofs.Common.{◌≡◌, ◌≢◌, refl, sym, ap, subst, ◌∙◌, ℕ, ◌+◌, ◌≤◌, Bool, false, List, [], ◌∷◌, ◌++◌, length, Option, None, arith}
use Rattle.std.proofs.Math.Decide.{ℕ_discrete}
use Rattle.b67_list.specs.Numbered.{set_numbered}
use Rattle.b67_segment.specs.declared.code.Code.{Code}
use Rattle.b67_table.specs.Image.{Image}
use Rattle.b67_table.proofs.Withdrawing.{length_set}
use Rattle.b67_action.specs.Able.{number_times, one_if, able_in}
use Rattle.b67_joining.proofs.Times.{here, elsewhere, times_both}
use Rattle.b67_machine.specs.Kept.{MachineModel}
use Rattle.b67_machine.specs.Reads.{machine_end}
use Rattle.b67_machine.specs.declared.reads.End.{End}
use Rattle.b67_machine.proofs.Ends.{same_end, no_end}
use Rattle.b67_machine.proofs.Ends as machine
use Rattle.b67_stands.specs.Running.{Running, spends, answer_by, answer_of}
use Rattle.b67_stands.specs.Placing.{some_holder, holder_of, IsOut, ProcessesPlaced}
use Rattle.b67_stands.specs.Stands.{Stands}
use Rattle.b67_stands.specs.Calls.{LandsOnce, GoesBack}
use Rattle.b67_stands.proofs.Ends.{goes_on}
use Rattle.b67_stands.proofs.Places.{some_is, holder_own, holder_other, held_able}
use Rattle.b67_stands.proofs.Taking.{number_of}

-- ---- where processes are

module _ (image : Image) (waiting out : List ℕ) (p : ℕ) (placed : ProcessesPlaced image waiting out) (one : 1 ≤ p) (within : p ≤ length out) (held : IsOut out p) where
  own : number_times p (waiting ++ p ∷ []) + some_holder (holder_of (set_numbered out p 0) p) ≡ one_if (able_in image p)
  own =
      let was = some_is (holder_of out p) held in
      let none : some_holder (holder_of (set_numbered out p 0) p) ≡ 0 = ap some_holder (holder_own out p 0 one within) in
      let once = here p p refl in
      omega (arith, times_both p waiting (p ∷ []), was, none, once, placed p)

  other : (q : ℕ) → q ≢ p → number_times q (waiting ++ p ∷ []) + some_holder (holder_of (set_numbered out p 0) q) ≡ one_if (able_in image q)
  other q h =
      let same : some_holder (holder_of (set_numbered out p 0) q) ≡ some_holder (holder_of out q) = ap some_holder (holder_other out p q 0 h) in
      let none = elsewhere q p h in
      omega (arith, times_both q waiting (p ∷ []), same, none, placed q)

  placed_back : ProcessesPlaced image (waiting ++ p ∷ []) (set_numbered out p 0)
  placed_back q = by (ℕ_discrete q p)
    where
      by : Dec (q ≡ p) → number_times q (waiting ++ p ∷ []) + some_holder (holder_of (set_numbered out p 0) q) ≡ one_if (able_in image q)
      by (yes e) =
          subst (λ (i : ℕ). number_times i (waiting ++ p ∷ []) + some_holder (holder_of (set_numbered out p 0) i) ≡ one_if (able_in image i)) (sym e) own
      by (no h) = other q h

-- ---- a way back

stands_back : (code : Code) (budget : ℕ) (old : Running) (p : ℕ) → Stands code budget old → answer_of budget old ≡ None → IsOut old.out p
    → Stands code budget (record old { waiting = old.waiting ++ p ∷ []; out = set_numbered old.out p 0 })
stands_back code budget old p s going held =
    let number = number_of code old.machine.image p s.valid (held_able old.machine.image old.waiting old.out p (s.placed going) held) in
    record {
      same = s.same;
      valid = s.valid;
      tails = s.tails;
      image = s.image;
      leads = s.leads;
      letters = s.letters;
      shows = s.shows;
      counts = s.counts;
      few = s.few;
      able = s.able;
      spends = s.spends;
      below = s.below;
      within = s.within;
      limit = s.limit;
      lacking = s.lacking;
      placed = λ e. placed_back old.machine.image old.waiting old.out p (s.placed e) number.0 (omega (arith, number.1, s.holders)) held;
      holders = length_set old.out p 0 ∙ s.holders;
      acts = s.acts;
      left = s.left;
    }

pub back_keeps : (code : Code) (budget : ℕ) (old new : Running) (p : ℕ) → Stands code budget old → answer_of budget old ≡ None → IsOut old.out p → GoesBack old p new
    → Stands code budget new
back_keeps code budget old new p s going held e = subst (Stands code budget) (sym e) (stands_back code budget old p s going held)

-- ---- the end after a landing

answered : (x : Bool) (o : Option End) (b : Bool) → x ≡ false → o ≡ None → answer_by x o b ≡ spends b
answered x o b e f = ap (λ (y : Bool). answer_by y o b) e ∙ ap (λ (y : Option End). answer_by false y b) f

pub lands_to : (budget : ℕ) (old new : Running) (p n : ℕ) → answer_of budget old ≡ None → LandsOnce old p n new → answer_of budget new ≡ spends (nat_le budget new.spent)
lands_to budget old new p n going l =
    let on = goes_on budget old going in
    let was = machine.goes_on old.machine on.end in
    answered new.machine.lacked (machine_end new.machine) (nat_le budget new.spent) (ap (λ (k : MachineModel). k.lacked) l.machine.others ∙ on.lacked)
    (no_end new.machine (same_end old.machine.image new.machine.image l.machine.states l.machine.fault ∙ was.end) (ap (λ (k : MachineModel). k.limit) l.machine.others ∙ on.limit))
