-- A plant before its first take stands.
use Rattle.std.specs.Prelude.{map, replicate, reverse}
use Rattle.std.proofs.Common.{◌≡◌, inl, refl, sym, ap, subst, ◌∙◌, true≢false, ℕ, zero, suc, List, [], ◌∷◌, length, Some, None, arith}
use Rattle.std.proofs.lemmas.List.{length-replicate}
use Rattle.b67_deeds.specs.declared.Letter.{Letter}
use Rattle.b67_schedule.specs.Schedules.{entries}
use Rattle.b67_segment.specs.declared.code.Code.{Code}
use Rattle.b67_table.specs.Beginning.{first_image}
use Rattle.b67_table.specs.Image.{Image}
use Rattle.b67_table.specs.Limits.{most_processes}
use Rattle.b67_table.specs.Runs.{begin, none}
use Rattle.b67_table.specs.Valid.{IsValid}
use Rattle.b67_action.specs.Able.{number_times}
use Rattle.b67_machine.proofs.Begun.{zero_at}
use Rattle.b67_stands.specs.Tails.{tail_of}
use Rattle.b67_joining.proofs.Joining.{first_queue}
use Rattle.b67_stands.specs.Running.{Running}
use Rattle.b67_stands.specs.Placing.{some_holder, holder_of, ProcessesPlaced}
use Rattle.b67_stands.specs.Stands.{Stands}
use Rattle.b67_stands.specs.Calls.{IsFirst}
use Rattle.b67_stands.proofs.Showing.{shows_by}

no_tail : (q : ℕ) → tail_of [] q ≡ 0
no_tail zero = refl
no_tail (suc k) = refl

pub none_out : (n p : ℕ) → holder_of (replicate n 0) p ≡ 0
none_out n zero = refl
none_out n (suc k) = zero_at n k

first_placed : (image : Image) (waiting out : List ℕ) → image ≡ first_image → waiting ≡ 1 ∷ [] → out ≡ replicate most_processes 0 → ProcessesPlaced image waiting out
first_placed image waiting out e w o q =
    let nobody : some_holder (holder_of out q) ≡ 0 = ap some_holder (ap (λ (xs : List ℕ). holder_of xs q) o ∙ none_out most_processes q) in
    let waits : number_times q waiting ≡ number_times q (1 ∷ []) = ap (number_times q) w in
    omega (arith, first_queue image e q, nobody, waits)

pub first_stands : (code : Code) (budget : ℕ) (s : Running) → IsValid code first_image → IsFirst code s → Stands code budget s
first_stands code budget s valid first = record {
  same = first.same;
  valid = subst (IsValid code) (sym first.fresh.image) valid;
  tails = [];
  image = first_image;
  leads = record {
    run = record { history = []; counts = []; before_tails = first_image; order = ap entries first.schedule; runs = begin; after = none };
    valid = valid;
  };
  letters = sym (ap (λ (ls : List Letter). map Some (reverse ls)) first.letters);
  shows = shows_by s.machine.lacked first_image s.machine.image first.fresh.lacked first.fresh.image;
  counts = λ q. omega (arith, first.fresh.counts q, no_tail q);
  few = omega arith;
  able = λ q. inl (no_tail q);
  spends = first.spent;
  below = omega (arith, first.spent);
  within = λ h. omega (arith, first.spent);
  limit = λ p h. let no : None ≡ Some p = sym first.fresh.limit ∙ h in cc;
  lacking = λ h. absurd (true≢false (sym h ∙ first.fresh.lacked));
  placed = λ e. first_placed s.machine.image s.waiting s.out first.fresh.image first.waiting first.out;
  holders = ap length first.out ∙ length-replicate {A = ℕ} most_processes 0;
  acts = first.acts ∙ sym (ap (λ r. length (entries r)) first.schedule);
  left = λ h. absurd (h first.leaves);
}
