-- The path of a starter, one stack after another.
use Rattle.std.proofs.Common.{◌≡◌, refl, sym, ap, ◌∙◌, ℕ, zero, suc, ◌+◌, ◌-◌, ◌<◌, Bool, true, false, List, Option, Some, None, Result, Ok, Err, cond, arith}
use Rattle.std.specs.Prelude.{nat_eq}
use Rattle.b67_word.specs.declared.Place.{Place}
use Rattle.b67_control.specs.declared.Registers.{Registers}
use Rattle.b67_store.specs.Store.{Stacks}
use Rattle.b67_table.specs.declared.InterruptKind.{InterruptKind}
use Rattle.b67_table.specs.Effect.{Effect}
use Rattle.b67_table.specs.Effect as effects
use Rattle.b67_table.specs.Image.{Image, critical_of}
use Rattle.b67_table.specs.Look.{found, look_seen, ◌>->◌}
use Rattle.b67_table.specs.Chains.{frame_below}
use Rattle.b67_table.specs.Program.{Test, answer, asked, see, ◌>>=◌, critical}
use Rattle.b67_table.specs.Starting.{is_among, down, on_path, or_none}
use Rattle.b67_reach.specs.declared.Stop.{Stop}
use Rattle.b67_reach.specs.Answers.{whole_outcome, outcome_answered, looked}
use Rattle.b67_reach.proofs.Looking.{seen_then, after_found, asked_then, asked_look, after_test, as_effect, looked_ok}
use Rattle.b67_going.specs.Paths.{met, TestLeads}

-- every image with these stacks and registers answers both tests alike
pub record SameTest {A : Type 0} (t u : Test A) (stacks : Stacks) (regs : List Registers) : Type 0 where
  pub same : (img : Image) → img.stacks ≡ stacks → img.regs ≡ regs → asked img t ≡ asked img u

-- ---- down one stack

abbrev or_rest : Image → Result (Option Place) InterruptKind → Test (Option Place) → Effect (Option Place)
or_rest img (Ok None) rest = asked img rest
or_rest img (Ok (Some f)) rest = effects.gives (Some f)
or_rest img (Err kind) rest = effects.interrupts kind

module _ (img : Image) (wanted : List Place) (rest : Test (Option Place)) where
  one_frame : (steps : ℕ) (f : Place)
      → ((p : Place) → asked img (down steps wanted p rest) ≡ or_rest img (look_seen img.stacks (met steps wanted p)) rest)
      → asked img (down (suc steps) wanted f rest) ≡ or_rest img (look_seen img.stacks (met (suc steps) wanted f)) rest
  one_frame steps f again = cases (is_among wanted f) (nat_eq f.at 0)
    where
      lower : (r : Result Place InterruptKind) → after_test img (as_effect r) (λ (p : Place). down steps wanted p rest)
          ≡ or_rest img (after_found r (λ (p : Place). look_seen img.stacks (met steps wanted p))) rest
      lower (Ok p) = again p
      lower (Err kind) = refl

      cases : (b c : Bool)
          → asked img (cond b (answer (Some f)) (cond c rest (see (frame_below f) >>= (λ (p : Place). down steps wanted p rest))))
          ≡ or_rest img (look_seen img.stacks (cond b (found (Some f)) (cond c (found None) (frame_below f >-> (λ (p : Place). met steps wanted p))))) rest
      cases true c = refl
      cases false true = refl
      cases false false =
          asked_then img (see (frame_below f)) (λ (p : Place). down steps wanted p rest)
          ∙ ap (λ (e : Effect Place). after_test img e (λ (p : Place). down steps wanted p rest)) (asked_look img (frame_below f))
          ∙ lower (look_seen img.stacks (frame_below f))
          ∙ sym (ap (λ (r : Result (Option Place) InterruptKind). or_rest img r rest) (seen_then img.stacks (frame_below f) (λ (p : Place). met steps wanted p)))

  down_is_met : (steps : ℕ) (f : Place) → asked img (down steps wanted f rest) ≡ or_rest img (look_seen img.stacks (met steps wanted f)) rest
  down_is_met zero f = refl
  down_is_met (suc steps) f = one_frame steps f (λ (p : Place). down_is_met steps p)

-- ---- over stacks

module _ (st : Stacks) (regs : List Registers) (wanted : List Place) (f : Place) where
  abbrev further : ℕ → Test (Option Place)
  further n = critical f.stack (λ (c : Option Place). or_none c (λ (lower : Place). on_path n wanted lower))

  one_stack : (stacks : ℕ) (r : Result (Option Place) InterruptKind) (img : Image) → 0 < stacks → look_seen st (met (f.at + 1) wanted f) ≡ r → img.stacks ≡ st
      → asked img (on_path stacks wanted f) ≡ or_rest img r (further (stacks - 1))
  one_stack stacks r img h e s =
      let n_is : stacks ≡ suc (stacks - 1) = omega (arith, h) in
      ap (λ (n : ℕ). asked img (on_path n wanted f)) n_is
      ∙ down_is_met img wanted (further (stacks - 1)) (f.at + 1) f
      ∙ ap (λ (q : Result (Option Place) InterruptKind). or_rest img q (further (stacks - 1))) (ap (λ (z : Stacks). look_seen z (met (f.at + 1) wanted f)) s ∙ e)

  stop_of : (r : Result (Option Place) InterruptKind) (stop : Stop) (img : Image) (rest : Test (Option Place)) → ◌≡◌ {A = Result (Option Place) Stop} (Err stop) (looked r)
      → whole_outcome (or_rest img r rest) ≡ outcome_answered {A = Option Place} (Err stop)
  stop_of (Ok a) stop img rest e = cc
  stop_of (Err kind) stop img rest e = sym (ap outcome_answered e)

  -- the way down a stack is broken
  pub leads_out : (stacks : ℕ) (stop : Stop) → 0 < stacks → ◌≡◌ {A = Result (Option Place) Stop} (Err stop) (looked (look_seen st (met (f.at + 1) wanted f)))
      → TestLeads (on_path stacks wanted f) st regs (Err stop)
  leads_out stacks stop h e = record {
    told = λ img s t. ap whole_outcome (one_stack stacks (look_seen st (met (f.at + 1) wanted f)) img h refl s)
        ∙ stop_of (look_seen st (met (f.at + 1) wanted f)) stop img (further (stacks - 1)) e;
  }

  -- the frame is met
  pub leads_to : (stacks : ℕ) (p : Place) → 0 < stacks → Ok (Some p) ≡ looked (look_seen st (met (f.at + 1) wanted f)) → TestLeads (on_path stacks wanted f) st regs (Ok (Some p))
  leads_to stacks p h e = record {
    told = λ img s t. ap whole_outcome (one_stack stacks (Ok (Some p)) img h (looked_ok (look_seen st (met (f.at + 1) wanted f)) (Some p) e) s);
  }

  after_stack : (stacks : ℕ) (c : Option Place) (img : Image) → 0 < stacks → Ok None ≡ looked (look_seen st (met (f.at + 1) wanted f)) → critical_of regs f.stack ≡ c
      → img.stacks ≡ st → img.regs ≡ regs → asked img (on_path stacks wanted f) ≡ asked img (or_none c (λ (lower : Place). on_path (stacks - 1) wanted lower))
  after_stack stacks c img h e g s t =
      one_stack stacks (Ok None) img h (looked_ok (look_seen st (met (f.at + 1) wanted f)) None e) s
      ∙ ap (λ (q : Option Place). asked img (or_none q (λ (lower : Place). on_path (stacks - 1) wanted lower))) (ap (λ (z : List Registers). critical_of z f.stack) t ∙ g)

  -- the process of the stack has no critical place
  pub leads_nowhere : (stacks : ℕ) → 0 < stacks → Ok None ≡ looked (look_seen st (met (f.at + 1) wanted f)) → critical_of regs f.stack ≡ None
      → TestLeads (on_path stacks wanted f) st regs (Ok None)
  leads_nowhere stacks h e g = record { told = λ img s t. ap whole_outcome (after_stack stacks None img h e g s t) }

  pub leads_on : (stacks : ℕ) (lower : Place) → 0 < stacks → Ok None ≡ looked (look_seen st (met (f.at + 1) wanted f)) → critical_of regs f.stack ≡ Some lower
      → SameTest (on_path stacks wanted f) (on_path (stacks - 1) wanted lower) st regs
  leads_on stacks lower h e g = record { same = λ img s t. after_stack stacks (Some lower) img h e g s t }

pub no_stacks : (st : Stacks) (regs : List Registers) (wanted : List Place) (f : Place) (stacks : ℕ) → stacks ≡ 0 → TestLeads (on_path stacks wanted f) st regs (Ok None)
no_stacks st regs wanted f stacks e = record { told = λ img s t. ap (λ (n : ℕ). whole_outcome (asked img (on_path n wanted f))) e }

pub same_lead : {A : Type 0} (t u : Test A) (st : Stacks) (regs : List Registers) (a : Result A Stop) → SameTest t u st regs → TestLeads u st regs a → TestLeads t st regs a
same_lead t u st regs a x y = record { told = λ img s r. ap whole_outcome (x.same img s r) ∙ y.told img s r }

pub same_then : {A : Type 0} (t u v : Test A) (st : Stacks) (regs : List Registers) → SameTest t u st regs → SameTest u v st regs → SameTest t v st regs
same_then t u v st regs x y = record { same = λ img s r. x.same img s r ∙ y.same img s r }

pub same_first : {A : Type 0} (t : Test A) (st : Stacks) (regs : List Registers) → SameTest t t st regs
same_first t st regs = record { same = λ img s r. refl }
