-- Which actuals are given by name, as the parameters that are left say one after another.
use Rattle.std.proofs.Common.{◌≡◌, ℕ, zero, suc, ◌+◌, Bool, true, false, List, [], ◌∷◌, Some, drop, refl, ap, ◌∙◌, arith}
use Rattle.std.specs.Prelude.{slice_get}
use Rattle.algol_tree.specs.Plain as tree
use Rattle.algol_tree.specs.Plain.{PExpr, PExprs}
use Rattle.algol_tree.specs.declared.tree.Named.{Named}
use Rattle.b67_templates.specs.Fitting.{Told}
use Rattle.b67_templates.specs.Paying.{modes_of, if_known, given_syllables, inline, inline_given}
use Rattle.b67_emitter.specs.declared.names.Names.{Names}
use Rattle.b67_emitter.specs.Values.{meant}

-- of each parameter of the procedure that the name means, whether it is by name
abbrev pub own_modes : Names → Named → List Bool
own_modes s n = modes_of (meant s n.spot)

pub next_mode : (modes : List Bool) (i : ℕ) (m : Bool) (rest : List Bool) → drop i modes ≡ m ∷ rest → slice_get modes i ≡ Some m
next_mode [] zero m rest is = absurd (let clash : [] ≡ m ∷ rest = is in cc)
next_mode [] (suc i) m rest is = absurd (let clash : [] ≡ m ∷ rest = is in cc)
next_mode (x ∷ xs) zero m rest is = let same : x ≡ m = cc in ap (λ (y : Bool). Some y) same
next_mode (x ∷ xs) (suc i) m rest is = next_mode xs i m rest is

pub modes_after : (modes : List Bool) (i : ℕ) (m : Bool) (rest : List Bool) → drop i modes ≡ m ∷ rest → drop (i + 1) modes ≡ rest
modes_after [] zero m rest is = absurd (let clash : [] ≡ m ∷ rest = is in cc)
modes_after [] (suc i) m rest is = absurd (let clash : [] ≡ m ∷ rest = is in cc)
modes_after (x ∷ xs) zero m rest is = let same : xs ≡ rest = cc in same
modes_after (x ∷ xs) (suc i) m rest is = let on : suc i + 1 ≡ suc (i + 1) = omega arith in ap (λ (n : ℕ). drop n (x ∷ xs)) on ∙ modes_after xs i m rest is

-- what the next of the actuals takes, and those after it
pub next_given : (told : Told) (modes : List Bool) (i : ℕ) (e : PExpr) (es : PExprs) →
    inline_given told (drop i modes) (tree.more e es) ≡ given_syllables (if_known (slice_get modes i)) (inline told e) + inline_given told (drop (i + 1) modes) es
next_given told [] zero e es = refl
next_given told [] (suc i) e es = let on : suc (i + 1) ≡ suc i + 1 = omega arith in ap (λ (n : ℕ). inline told e + inline_given told (drop n []) es) on
next_given told (m ∷ ms) zero e es = refl
next_given told (m ∷ ms) (suc i) e es =
    let on : suc (i + 1) ≡ suc i + 1 = omega arith in
    next_given told ms i e es ∙ ap (λ (n : ℕ). given_syllables (if_known (slice_get ms i)) (inline told e) + inline_given told (drop n (m ∷ ms)) es) on

-- an actual that is not given by name has its value's code
pub given_valued : (mode : Bool) (n : ℕ) → mode ≡ false → given_syllables mode n ≡ n
given_valued mode n off = ap (λ (m : Bool). given_syllables m n) off

pub given_named : (mode : Bool) (n : ℕ) → mode ≡ true → given_syllables mode n ≡ 3
given_named mode n on = ap (λ (m : Bool). given_syllables m n) on
