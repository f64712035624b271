use Rattle.std.proofs.Common.{ap, sym, refl, subst, ℕ, List, Option, Some, None}
use Rattle.std.specs.Prelude.{option_copied}
use Rattle.b67_desk.specs.Consoling.{TextsAreApart}
use Rattle.b67_desk.proofs.consoling.apart.Goals as goal

pub returns-in-Some : goal.returns-in-Some
returns-in-Some c =
    subst (λ (o : Option (List ℕ)). TextsAreApart o (Some c.divided.result.0.now) (option_copied c.divided.result.1)) (sym (ap option_copied c.in-Some.is)) c.divided.ensures

pub returns-in-None : goal.returns-in-None
returns-in-None c = subst (λ (o : Option (List ℕ)). TextsAreApart o None None) (sym (ap option_copied c.in-None.is)) (refl, refl)
