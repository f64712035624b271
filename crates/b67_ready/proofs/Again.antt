-- A process that is put where nobody waits is the one that the rule picks.
use Rattle.std.specs.Prelude.{slice_get, remove, nat_le, if◌then◌else◌, min}
use Rattle.std.proofs.Common.{◌≡◌, refl, sym, ap, ◌∙◌, ℕ, zero, suc, ◌+◌, ◌<◌, ◌≤◌, Bool, true, false, List, [], ◌∷◌, ◌++◌, Some, arith}
use Rattle.std.proofs.lemmas.Bool.{leb-true, leb-false}
use Rattle.b67_ready.specs.Ready.{Ready, ReadyPuts, ReadyTakes, TakesAgain, stay, again, most_takes, counted_on, counted_times}

module _ {P : Type 0} (pick : P → ℕ → ℕ → ℕ) (within : (rule : P) (length takes : ℕ) → 0 < length → pick rule length takes < length) (p : ℕ) where
  puts : (a : Ready P) → a.waiting ≡ [] → ReadyPuts a p (record a { waiting = p ∷ [] })
  puts a none = record { rule = refl; waiting = ap (λ (ws : List ℕ). ws ++ p ∷ []) (sym none); takes = refl; room = omega arith }

  takes : (a : Ready P) → a.waiting ≡ [] → ReadyTakes pick (record a { waiting = p ∷ [] }) (record a { takes = counted_on a.takes }) (Some p)
  takes a none =
      let first : pick a.rule 1 a.takes ≡ 0 = let less = within a.rule 1 a.takes (omega arith) in omega (arith, less) in (
        ap (slice_get (p ∷ [])) first,
        ap (λ (ws : List ℕ). record a { waiting = ws; takes = counted_on a.takes }) (none ∙ sym (ap (remove (p ∷ [])) first)),
      )

  pub taken_again : (times : ℕ) (a : Ready P) → (0 < times → a.waiting ≡ []) → TakesAgain pick p a times (record a { takes = counted_times times a.takes })
  taken_again zero a none = stay
  taken_again (suc times) a none =
      let before : Ready P = record a { takes = counted_times times a.takes } in
      let nobody : a.waiting ≡ [] = none (omega arith) in
      again (taken_again times a (λ h. nobody)) (puts before nobody) (takes before nobody)

-- ---- as it is counted

once : (b : Bool) (n : ℕ) → nat_le most_takes n ≡ b → n ≤ most_takes → (if b then n else n + 1) ≡ min (n + 1) most_takes
once true n e h = omega (arith, leb-true most_takes n e, h)
once false n e h = omega (arith, leb-false most_takes n e)

pub counted_most : (times n : ℕ) → n ≤ most_takes → counted_times times n ≡ min (n + times) most_takes
counted_most zero n h = omega (arith, h)
counted_most (suc times) n h =
    let before = counted_most times n h in
    let one = once (nat_le most_takes (counted_times times n)) (counted_times times n) refl (omega (arith, before)) in
    omega (arith, one, before)
