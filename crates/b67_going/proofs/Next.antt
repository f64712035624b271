-- The number of the next process of a valid image is free.
use Rattle.std.proofs.Common.{◌≡◌, refl, sym, ap, ◌∙◌, ℕ, zero, suc, ◌+◌, ◌≤◌, List, [], ◌∷◌, length, None, slice_get, arith}
use Rattle.b67_list.specs.Numbered.{numbered}
use Rattle.b67_list.proofs.Answered.{none_there}
use Rattle.b67_table.specs.declared.ProcessState.{ProcessState}
use Rattle.b67_table.specs.Image.{is_live}
use Rattle.b67_going.specs.Laws.{ValidHaveNext}

past : (xs : List ProcessState) (k : ℕ) → length xs ≤ k → slice_get xs k ≡ None
past [] zero h = refl
past [] (suc k) h = refl
past (x ∷ xs) zero h = absurd (omega (arith, h))
past (x ∷ xs) (suc k) h = past xs k (omega (arith, h))

not_yet : (xs : List ProcessState) (n : ℕ) → length xs ≡ n → numbered xs (n + 1) ≡ None
not_yet xs n e =
    let one : n + 1 ≡ suc n = omega arith in ap (λ (i : ℕ). numbered xs i) one ∙ past xs n (omega (arith, e))

pub valid_have_next : ValidHaveNext
valid_have_next code stacks rows kernel parts v = record {
  free = none_there _ (v.stacks (parts.started + 1) (omega arith) ∙ ap is_live (not_yet parts.states.items parts.started v.states));
  each = v.registers ∙ sym v.states;
  numbers = v.registers ∙ sym v.numbers;
  most = v.most;
}
