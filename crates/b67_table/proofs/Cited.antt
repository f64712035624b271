-- Facts that several crates cite.
use Rattle.std.proofs.Common.{Bool, List, None, Option, Some, [], ap, arith, false, length, refl, suc, sym, true, true≢false, zero, ℕ, ◌+◌, ◌∙◌, ◌≡◌, ◌≤◌}
use Rattle.std.proofs.lemmas.List.Sums.{sum_by-cons}
use Rattle.std.specs.Prelude.{sum}
use Rattle.b67_control.specs.declared.Registers.{Registers}
use Rattle.b67_list.specs.Numbered.{numbered}
use Rattle.b67_num.specs.declared.FaultKind.{FaultKind}
use Rattle.b67_segment.specs.declared.code.Code.{Code}
use Rattle.b67_table.specs.Ending as ending
use Rattle.b67_table.specs.Ending.{ImageEnd, failed, goes_on, image_end, may_act}
use Rattle.b67_table.specs.Image.{Image, is_able}
use Rattle.b67_table.specs.Outcome as outcomes
use Rattle.b67_table.specs.Outcome.{Outcome, faults, gives, limit}
use Rattle.b67_table.specs.Privacy.{RegistersStay}
use Rattle.b67_table.specs.Runs.{Runs, Tails, begin, entry}

-- a process that may act is able
pub may_able : (img : Image) (p : ℕ) → may_act img p ≡ true → is_able (numbered img.states p) ≡ true
unfolding may_act
may_able img p e = by (image_end img) e
  where
    by : (o : Option ImageEnd) → goes_on o (is_able (numbered img.states p)) ≡ true → is_able (numbered img.states p) ≡ true
    by None f = f
    by (Some x) f = absurd (true≢false (sym f))

pub gives_same : (x y : Image) → outcomes.gives x ≡ outcomes.gives y → x ≡ y
gives_same x y e = cc

-- a process that may act has a number
pub number_there : (img : Image) (p : ℕ) → may_act img p ≡ true → 1 ≤ p
unfolding may_act
number_there img zero e = absurd (true≢false (sym e ∙ never (image_end img)))
  where
    never : (o : Option ImageEnd) → goes_on o false ≡ false
    never None = refl
    never (Some x) = refl
number_there img (suc p) e = omega arith

pub keeps_both : (q r s : Registers) → RegistersStay q r → RegistersStay r s → RegistersStay q s
keeps_both q r s h k = (k.0 ∙ h.0, k.1 ∙ h.1, k.2 ∙ h.2, k.3 ∙ h.3, k.4 ∙ h.4, k.5 ∙ h.5)

-- each entry has an operator at least
pub history_within : (code : Code) (h numbers : List ℕ) (img : Image) → Runs code h numbers img → length h ≤ sum numbers
history_within code h numbers img begin = omega arith
history_within code h numbers img (entry {h = g} {counts = ns} {a = a} {n = n} before e) =
    omega (arith, history_within code g ns a before, sum_by-cons (λ (x : ℕ). x) (n + 1) ns)

pub differ_fault : (x : Image) (k : FaultKind) (A : Type 0) → gives x ≡ faults k → A
differ_fault x k A e = cc

pub kept_kind : (a : Image) (p : ℕ) (o : Outcome Image) (k l : FaultKind) → o ≡ faults k → o ≡ faults l → failed a p k ≡ failed a p l
kept_kind a p o k l e f = let same : k ≡ l = cc in ap (failed a p) same

pub may_by : (img : Image) (p : ℕ) → image_end img ≡ None → is_able (numbered img.states p) ≡ true → may_act img p ≡ true
unfolding may_act
may_by img p e able = ap (λ (o : Option ImageEnd). ending.goes_on o (is_able (numbered img.states p))) e ∙ able

pub may_parts : (img : Image) (p : ℕ) → may_act img p ≡ true → (image_end img ≡ None) × (is_able (numbered img.states p) ≡ true)
unfolding may_act
may_parts img p e = by_end (image_end img) (is_able (numbered img.states p)) e
  where
    by_end : (o : Option ImageEnd) (b : Bool) → goes_on o b ≡ true → (o ≡ None) × (b ≡ true)
    by_end None b i = (refl, i)
    by_end (Some x) b i = cc

pub some_same : (x y : Registers) → Some x ≡ Some y → x ≡ y
some_same x y e = cc

pub no_tails : (code : Code) (k : ℕ) (a b : Image) → Tails code k a [] b → a ≡ b
no_tails code k a b Tails.none = refl

pub differ_limit : (x : Image) (A : Type 0) → gives x ≡ limit → A
differ_limit x A e = cc

pub fault_limit : (o : Outcome Image) (k : FaultKind) (A : Type 0) → o ≡ faults k → o ≡ limit → A
fault_limit o k A e f = cc
