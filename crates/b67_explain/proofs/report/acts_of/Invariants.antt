use Rattle.std.proofs.Common.{◌≡◌, ◌-◌, ◌<◌, ◌≤◌, ◌^◌, ℕ, All, ◌∷◌, length, replicate}
use Rattle.std.specs.Prelude.{sum}
use Rattle.b67_explain.proofs.report.acts_of.Given as goal

abbrev pub invariant-others : goal.invariant-others
invariant-others l = record {
  some : 1 ≤ l.counter;
  first : l.acts.items ≡ l.count ∷ replicate (l.counter - 1) 0;
  processors : length l.acts.items ≡ l.counter;
  sum : sum l.acts.items ≡ l.count;
  numbers : All (λ (count : ℕ). count < 2 ^ 64) l.acts.items;
}
