-- A landing, by what the machine and the dispatcher leave.
use Rattle.std.specs.Prelude.{slice_set, IfSome}
use Rattle.std.proofs.Common.{◌≡◌, ◌≢◌, ◌⊎◌, inl, inr, refl, sym, ap, subst, ◌∙◌, ℕ, zero, suc, ◌+◌, ◌-◌, ◌<◌, ◌≤◌, ◌^◌, true, List, [], ◌∷◌, ◌++◌, length, Option, Some, None, arith}
use Rattle.b67_list.specs.Numbered.{numbered}
use Rattle.b67_word.specs.Word.{Word}
use Rattle.b67_control.specs.declared.Registers.{Registers}
use Rattle.b67_segment.specs.declared.code.Code.{Code}
use Rattle.b67_limits.specs.declared.TheConstants.{MOST_BUDGET, MOST_STRETCH}
use Rattle.b67_table.specs.declared.Private.{Private}
use Rattle.b67_table.specs.Image.{Image, is_live}
use Rattle.b67_table.specs.Limits.{most_processes}
use Rattle.b67_table.specs.Private.{floor}
use Rattle.b67_table.specs.Privacy.{RegistersStay}
use Rattle.b67_table.proofs.Waking.{able_live}
use Rattle.b67_private.specs.Parts.{PlainParts}
use Rattle.b67_action.specs.declared.running.Ran.{Ran}
use Rattle.b67_machine.specs.Kept.{MachineModel, operators_counted}
use Rattle.b67_machine.specs.Stepping.{MachineGoes}
use Rattle.b67_ready.specs.Ready.{Ready, ReadyPuts}
use Rattle.b67_stands.specs.Running.{Running, answer_of}
use Rattle.b67_stands.specs.Placing.{IsOut}
use Rattle.b67_stands.specs.Stands.{Stands}
use Rattle.b67_stands.specs.Calls.{LandsOnce, GoesBack}
use Rattle.b67_stands.proofs.Ends.{goes_on}
use Rattle.b67_stands.proofs.Landing.{lands_keep}
use Rattle.b67_stands.proofs.Places.{held_able}
use Rattle.b67_stands.proofs.Returning.{back_keeps, lands_to}
use Rattle.b67_stands.proofs.Staying.{runs_go_on}
use Rattle.b67_stands.proofs.Taking.{waiting_few}
use Rattle.b67_plant.proofs.Entered.{budget_is, counted_spent, held_number}
use Rattle.b67_plant.proofs.Handing.{set_is}
use Rattle.b67_machine.specs.Parts.{private_part, kept_from, bottom, Compared}
use Rattle.b67_parcel.specs.Parcels.{Stretch, part_for, IsComplete, IsPlain, IsRun, Performs, IsStretch, StartsAs}
use Rattle.b67_parcel.proofs.Stretching.{plain_of}
use Rattle.b67_plant.specs.Calls.{entries_in, PutsRun, IsVain, PutsParcel, LandsWell}

pub most_is : most_processes ≡ 256
most_is = refl

module _ (code : Code) (budget : ℕ) (old : Running) (p : ℕ) (stands : Stands code budget old) (going : answer_of budget old ≡ None) (held : IsOut old.out p) where
  -- ---- back to the queue

  pub number : (1 ≤ p) × (p ≤ most_processes)
  number = held_number code budget old p stands going held

  pub few_wait : length old.waiting ≤ most_processes
  few_wait = waiting_few code old.machine.image old.waiting old.out stands.valid (stands.placed going)

  module _ {P : Type 0} (ready after : Ready P) (waits : old.waiting ≡ ready.waiting) (taken_so : old.takes ≡ ready.takes) (puts : ReadyPuts ready p after) where
    pub goes_back : (out : List ℕ) → out ≡ slice_set old.out (p - 1) 0 → GoesBack old p (record old { waiting = after.waiting; takes = after.takes; out = out })
    goes_back out e =
        ap (λ (w : List ℕ). record old { waiting = w; takes = after.takes; out = out }) (puts.waiting ∙ ap (λ (w : List ℕ). w ++ p ∷ []) (sym waits))
        ∙ ap (λ (n : ℕ). record old { waiting = old.waiting ++ p ∷ []; takes = n; out = out }) (puts.takes ∙ sym taken_so)
        ∙ ap (λ (o : List ℕ). record old { waiting = old.waiting ++ p ∷ []; out = o }) (e ∙ set_is old.out p 0 number.0)

    pub still_stands : (out : List ℕ) → out ≡ slice_set old.out (p - 1) 0 → Stands code budget (record old { waiting = after.waiting; takes = after.takes; out = out })
    still_stands out e =
        back_keeps code budget old (record old { waiting = after.waiting; takes = after.takes; out = out }) p stands going held (goes_back out e)

  -- ---- onto the machine

  pub lives : is_live (numbered old.machine.image.states p) ≡ true
  lives =
      able_live (numbered old.machine.image.states p) (held_able old.machine.image old.waiting old.out p (stands.placed going) held)

  -- its count has room
  pub few_counted : (n b : ℕ) → n ≤ MOST_STRETCH → b ≡ budget → b ≤ MOST_BUDGET → operators_counted old.machine.counts p + n < 2 ^ 64
  few_counted n b few e small =
      omega (arith, counted_spent code budget old p stands, (goes_on budget old going).less, few, e, small, budget_is)

  module _ (m : MachineModel) (n : ℕ) (few : n ≤ MOST_STRETCH) (goes : MachineGoes old.machine p n m) where
    pub lands_once : LandsOnce old p n (record old { machine = m; spent = old.spent + n })
    lands_once = record { machine = goes; new_is = refl }

    pub landed_stands : Stands code budget (record old { machine = m; spent = old.spent + n })
    landed_stands =
        lands_keep code budget old (record old { machine = m; spent = old.spent + n }) p n stands going held (omega (arith, few, (goes_on budget old going).less)) lands_once

    pub still_lacks : m.lacked ≡ old.machine.lacked
    still_lacks = ap (λ (k : MachineModel). k.lacked) goes.others

-- ---- of a parcel

-- where it starts

part_private : (n : ℕ) (img : Image) (p : ℕ) (start : Private) → n ≡ 0 → part_for n img p ≡ Some start → private_part img p ≡ Some start
part_private zero img p start e has = has
part_private (suc n) img p start e has = cc

pub words_within : (n : ℕ) (start : Private) → IsComplete n start → length start.words ≤ start.regs.s
words_within zero start complete = omega (arith, complete)
words_within (suc n) start complete = omega (arith, complete)

pub compared : (n : ℕ) (img : Image) (p : ℕ) (start : Private) (result : Option (ℕ × Word × Word)) → IsComplete n start
    → ((from : Registers → ℕ) → from start.regs + length start.words ≡ start.regs.s → (kept : Private) × (kept_from from img (numbered img.regs p) ≡ Some kept) × Compared kept start result)
    → (kept : Private) × (part_for n img p ≡ Some kept) × Compared kept start result
compared zero img p start result complete h = h floor complete
compared (suc n) img p start result complete h = h bottom (omega (arith, complete))

-- of a private part

pub private_performs : (code : Code) (s : Stretch) → s.room ≡ 0 → IsStretch code s → IsPlain code s
private_performs code s none is = plain_of s.room code s none is.performed

pub count_is : (code : Code) (s : Stretch) (n : ℕ) → IsPlain code s → n ≡ s.ran.operators + s.ran.plain → n ≡ s.ran.plain
count_is code s n is e = omega (arith, e, ap (λ (r : Ran). r.operators) is.only)

pub plains : (code : Code) (m : MachineModel) (s : Stretch) (p n : ℕ) (end : Private) → m.code ≡ code → s.room ≡ 0 → IsPlain code s → StartsAs m.image s → p ≡ s.process → n ≡ s.ran.plain
    → end ≡ s.end → IfSome (private_part m.image p) (λ kept. PlainParts m.code kept n end × RegistersStay kept.regs end.regs)
plains code m s p n end same none is starts e f g =
    let there : private_part m.image p ≡ Some s.start = ap (private_part m.image) e ∙ part_private s.room m.image s.process s.start none starts in
    let performed : PlainParts m.code s.start n end =
    subst (λ (c : Code). PlainParts c s.start n end) (sym same)
    (subst (λ (k : ℕ). PlainParts code s.start k end) (sym f) (subst (λ (x : Private). PlainParts code s.start s.ran.plain x) (sym g) is.performed)) in
    let keeps : RegistersStay s.start.regs end.regs = subst (λ (x : Private). RegistersStay s.start.regs x.regs) (sym g) is.keeps in
    subst (λ (o : Option Private). IfSome o (λ kept. PlainParts m.code kept n end × RegistersStay kept.regs end.regs)) (sym there) (performed, keeps)

puts_plain : (n budget : ℕ) (s : Stretch) (old new : Running) → n ≡ 0 → LandsOnce old s.process s.ran.plain new → PutsParcel n budget s old new
puts_plain zero budget s old new e l = l
puts_plain (suc n) budget s old new e l = cc

pub lands_as : (budget : ℕ) (s : Stretch) (old new : Running) (p n : ℕ) → answer_of budget old ≡ None → s.room ≡ 0 → StartsAs old.machine.image s → p ≡ s.process → n ≡ s.ran.plain
    → LandsOnce old p n new → LandsWell budget s old new
lands_as budget s old new p n going none starts e f l = record {
  starts = starts;
  puts = puts_plain s.room budget s old new none (subst (λ (q : ℕ). LandsOnce old q s.ran.plain new) e (subst (λ (k : ℕ). LandsOnce old p k new) f l));
  then = lands_to budget old new p n going l;
}

-- of a whole stack

puts_whole : (n budget : ℕ) (s : Stretch) (old new : Running) → 1 ≤ n → PutsRun budget s old new ⊎ (IsVain budget s old × (new ≡ old)) → PutsParcel n budget s old new
puts_whole zero budget s old new some p = absurd (omega (arith, some))
puts_whole (suc n) budget s old new some p = p

pub lands_run : (budget : ℕ) (s : Stretch) (old new : Running) → answer_of budget old ≡ None → 1 ≤ s.room → StartsAs old.machine.image s → PutsRun budget s old new → LandsWell budget s old new
lands_run budget s old new going some starts puts = record {
  starts = starts;
  puts = puts_whole s.room budget s old new some (inl puts);
  then =
      lands_to budget puts.between new s.process s.ran.plain (runs_go_on budget old puts.between s.process (entries_in s) s.ran.operators going puts.runs) puts.lands;
}

pub at_least : (n m : ℕ) → n ≢ 0 → n ≡ m → 1 ≤ m
at_least zero m h e = absurd (h refl)
at_least (suc k) m h e = omega (arith, e)

-- a parcel on which something was performed was worked
pub is_run : (n : ℕ) (code : Code) (s : Stretch) (count : ℕ) → 1 ≤ n → Performs n code s → count ≡ s.ran.operators + s.ran.plain → count ≢ 0 → IsRun code s
is_run zero code s count some is e more = absurd (omega (arith, some))
is_run (suc n) code s count some (inr is) e more = is
is_run (suc n) code s count some (inl is) e more =
    absurd (more (omega (arith, e, ap (λ (r : Ran). r.operators) is.none, ap (λ (r : Ran). r.plain) is.none)))
