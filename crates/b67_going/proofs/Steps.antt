-- The way down a stack from a frame to a wanted one, step by step.
use Rattle.std.proofs.Common.{◌≡◌, ◌≢◌, refl, sym, ap, ◌∙◌, ℕ, suc, ◌-◌, ◌<◌, ◌≤◌, Bool, true, false, List, Option, Some, None, Result, Ok, Err, cond, arith}
use Rattle.std.specs.Prelude.{nat_eq}
use Rattle.std.proofs.lemmas.Bool.{eq-eqb, ne_eqb}
use Rattle.b67_word.specs.declared.Place.{Place}
use Rattle.b67_control.specs.declared.Mscw.{Mscw}
use Rattle.b67_store.specs.Store.{Stacks}
use Rattle.b67_table.specs.declared.InterruptKind.{InterruptKind}
use Rattle.b67_table.specs.declared.InterruptKind.TheVariants.{BrokenChain}
use Rattle.b67_table.specs.Look.{Look, found, look_seen, ◌>->◌}
use Rattle.b67_table.specs.Chains.{place, below, mark_at, entered_below, frame_below}
use Rattle.b67_table.specs.Starting.{is_among}
use Rattle.b67_reach.proofs.Looking.{seen_then, after_found}
use Rattle.b67_linkage.proofs.Downwards.{goes_down, stands_still, goes_out}
use Rattle.b67_reach.specs.declared.Stop.{Stop}
use Rattle.b67_reach.specs.declared.Stop.TheVariants.{Interrupt}
use Rattle.b67_reach.specs.Answers.{looked}
use Rattle.b67_going.specs.Paths.{met}

-- ---- the frame below

abbrev lower_frame : Place → Result ℕ InterruptKind → Result Place InterruptKind
lower_frame f r = after_found r (λ (lower : ℕ). Ok (place f.stack lower))

abbrev from_mark : Place → Mscw → Look Place
from_mark f m = below f.at m.df (λ (lower : ℕ). entered_below f.stack lower) >-> (λ (lower : ℕ). found (place f.stack lower))

below_mark : (st : Stacks) (f : Place) (m : Mscw) → look_seen st (mark_at f) ≡ Ok m
    → look_seen st (frame_below f) ≡ lower_frame f (look_seen st (below f.at m.df (λ (lower : ℕ). entered_below f.stack lower)))
below_mark st f m marked =
    seen_then st (mark_at f) (λ (k : Mscw). from_mark f k)
    ∙ ap (λ (x : Result Mscw InterruptKind). after_found x (λ (k : Mscw). look_seen st (from_mark f k))) marked
    ∙ seen_then st (below f.at m.df (λ (lower : ℕ). entered_below f.stack lower)) (λ (lower : ℕ). found (place f.stack lower))

-- no mark stands there
pub no_mark : (st : Stacks) (f : Place) (kind : InterruptKind) → look_seen st (mark_at f) ≡ Err kind → look_seen st (frame_below f) ≡ Err kind
no_mark st f kind e =
    seen_then st (mark_at f) (λ (k : Mscw). from_mark f k)
    ∙ ap (λ (x : Result Mscw InterruptKind). after_found x (λ (k : Mscw). look_seen st (from_mark f k))) e

pub mark_stays : (st : Stacks) (f : Place) (m : Mscw) → look_seen st (mark_at f) ≡ Ok m → m.df ≡ 0 → look_seen st (frame_below f) ≡ Err BrokenChain
mark_stays st f m marked e =
    below_mark st f m marked ∙ ap (λ (r : Result ℕ InterruptKind). lower_frame f r) (stands_still st f.at m.df (λ (lower : ℕ). entered_below f.stack lower) e)

pub mark_leaves : (st : Stacks) (f : Place) (m : Mscw) → look_seen st (mark_at f) ≡ Ok m → f.at < m.df → look_seen st (frame_below f) ≡ Err BrokenChain
mark_leaves st f m marked h =
    below_mark st f m marked ∙ ap (λ (r : Result ℕ InterruptKind). lower_frame f r) (goes_out st f.at m.df (λ (lower : ℕ). entered_below f.stack lower) h)

pub mark_leads : (st : Stacks) (f : Place) (m : Mscw) (r : Result ℕ InterruptKind) → look_seen st (mark_at f) ≡ Ok m → 1 ≤ m.df → m.df ≤ f.at
    → look_seen st (entered_below f.stack (f.at - m.df)) ≡ r → look_seen st (frame_below f) ≡ lower_frame f r
mark_leads st f m r marked low high e =
    below_mark st f m marked
    ∙ ap (λ (r : Result ℕ InterruptKind). lower_frame f r) (goes_down st f.at m.df (λ (lower : ℕ). entered_below f.stack lower) low high ∙ e)

-- an interrupt that a call answers
pub refusal : {A : Type 0} (stop : Stop) (r : Result A InterruptKind) (kind : InterruptKind) → stop ≡ Interrupt kind → r ≡ Err kind
    → ◌≡◌ {A = Result A Stop} (Err stop) (looked r)
refusal {A = A} stop r kind e f = ap (λ (s : Stop). err s) e ∙ sym (ap looked f)
  where
    err : Stop → Result A Stop
    err s = Err s

-- ---- down to a wanted frame

module _ (st : Stacks) (wanted : List Place) (f : Place) where
  abbrev onward : ℕ → Look (Option Place)
  onward n = frame_below f >-> (λ (lower : Place). met n wanted lower)

  one_less : (steps : ℕ) → 0 < steps → steps ≡ suc (steps - 1)
  one_less steps h = omega (arith, h)

  here_is : (steps : ℕ) (b c : Bool) → 0 < steps → is_among wanted f ≡ b → nat_eq f.at 0 ≡ c
      → look_seen st (met steps wanted f) ≡ look_seen st (cond b (found (Some f)) (cond c (found None) (onward (steps - 1))))
  here_is steps b c h e g =
      ap (λ (n : ℕ). look_seen st (met n wanted f)) (one_less steps h)
      ∙ ap (λ (x : Bool). look_seen st (cond x (found (Some f)) (cond (nat_eq f.at 0) (found None) (onward (steps - 1))))) e
      ∙ ap (λ (x : Bool). look_seen st (cond b (found (Some f)) (cond x (found None) (onward (steps - 1))))) g

  pub met_here : (steps : ℕ) → 0 < steps → is_among wanted f ≡ true → look_seen st (met steps wanted f) ≡ Ok (Some f)
  met_here steps h e = here_is steps true (nat_eq f.at 0) h e refl

  pub met_nowhere : (steps : ℕ) → 0 < steps → is_among wanted f ≡ false → f.at ≡ 0 → look_seen st (met steps wanted f) ≡ Ok None
  met_nowhere steps h e g = here_is steps false true h e (eq-eqb f.at 0 g)

  pub met_below : (steps : ℕ) (r : Result Place InterruptKind) → 0 < steps → is_among wanted f ≡ false → f.at ≢ 0 → look_seen st (frame_below f) ≡ r
      → look_seen st (met steps wanted f) ≡ after_found r (λ (lower : Place). look_seen st (met (steps - 1) wanted lower))
  met_below steps r h e g k =
      here_is steps false false h e (ne_eqb f.at 0 g)
      ∙ seen_then st (frame_below f) (λ (lower : Place). met (steps - 1) wanted lower)
      ∙ ap (λ (x : Result Place InterruptKind). after_found x (λ (lower : Place). look_seen st (met (steps - 1) wanted lower))) k

pub no_steps : (st : Stacks) (wanted : List Place) (f : Place) (steps : ℕ) → steps ≡ 0 → look_seen st (met steps wanted f) ≡ Err BrokenChain
no_steps st wanted f steps e = ap (λ (n : ℕ). look_seen st (met n wanted f)) e

pub met_stops : (st : Stacks) (wanted : List Place) (f : Place) (steps : ℕ) (stop : Stop) → 0 < steps → is_among wanted f ≡ false → f.at ≢ 0
    → ◌≡◌ {A = Result Place Stop} (Err stop) (looked (look_seen st (frame_below f))) → ◌≡◌ {A = Result (Option Place) Stop} (Err stop) (looked (look_seen st (met steps wanted f)))
met_stops st wanted f steps stop h e g k =
    stops_by (look_seen st (frame_below f)) k ∙ sym (ap looked (met_below st wanted f steps (look_seen st (frame_below f)) h e g refl))
  where
    stops_by : (r : Result Place InterruptKind) → ◌≡◌ {A = Result Place Stop} (Err stop) (looked r)
        → ◌≡◌ {A = Result (Option Place) Stop} (Err stop) (looked (after_found r (λ (lower : Place). look_seen st (met (steps - 1) wanted lower))))
    stops_by (Ok a) e = cc
    stops_by (Err kind) e = cc
