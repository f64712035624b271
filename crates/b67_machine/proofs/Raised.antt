-- More operators of one process.
use Rattle.std.proofs.Common.{◌≡◌, sym, ap, subst, ◌∙◌, ℕ, zero, suc, ◌+◌, ◌-◌, ◌≤◌, List, length, get_or, set, arith}
use Rattle.std.proofs.lemmas.Option.{slice_get-get_or}
use Rattle.b67_list.specs.Numbered.{set_numbered}
use Rattle.b67_table.proofs.Lists.{numbered_set}
use Rattle.b67_table.proofs.Stacks.{get_numbered_other}
use Rattle.b67_machine.specs.Kept.{or_none, operators_counted, Counts}

raised : (xs : List ℕ) (p n : ℕ) → 1 ≤ p → p ≤ length xs → Counts xs p n (set_numbered xs p (operators_counted xs p + n))
raised xs p n one most = record {
  own = ap or_none (numbered_set xs p (operators_counted xs p + n) one most);
  others = λ q h. ap or_none (get_numbered_other xs p q (operators_counted xs p + n) h);
}

pub raised_at : (xs : List ℕ) (p n d : ℕ) → 1 ≤ p → p ≤ length xs → d ≡ get_or xs (p - 1) d → Counts xs p n (set xs (p - 1) (d + n))
raised_at xs zero n d one most e = absurd (omega (arith, one))
raised_at xs (suc k) n d one most e =
    let k_is : suc k - 1 ≡ k = omega arith in
    let here : operators_counted xs (suc k) ≡ d = ap or_none (slice_get-get_or xs k d (omega (arith, most))) ∙ sym (e ∙ ap (λ (j : ℕ). get_or xs j d) k_is) in
    subst (λ (j : ℕ). Counts xs (suc k) n (set xs j (d + n))) (sym k_is)
    (subst (λ (w : ℕ). Counts xs (suc k) n (set xs k (w + n))) here (raised xs (suc k) n one most))
