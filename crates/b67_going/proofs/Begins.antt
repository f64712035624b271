-- With what a new process begins, test by test.
use Rattle.std.proofs.Common.{◌≡◌, refl, sym, ap, ◌∙◌, ◌∷◌, ℕ, ◌+◌, ◌<◌, ◌≤◌, nat_lt, Bool, true, false, List, Option, Result, Ok, Err, cond, arith}
use Rattle.std.proofs.lemmas.Bool.Decides.{nat_tests}
use Rattle.b67_control.specs.declared.Registers.{Registers}
use Rattle.b67_store.specs.Store.{Stacks}
use Rattle.b67_word.specs.declared.Place.{Place}
use Rattle.b67_num.specs.declared.FaultKind.TheVariants.{ProcessLimit}
use Rattle.b67_table.specs.Chains.{place}
use Rattle.b67_table.specs.Limits.{most_processes}
use Rattle.b67_table.specs.Private.{frame}
use Rattle.b67_table.specs.Starting.{Starting, first_display, on_path, frames_with, named_frames, process_begun}
use Rattle.b67_table.specs.Image.{Image}
use Rattle.b67_table.specs.Look.{Look, look_seen}
use Rattle.b67_table.specs.Program.{Test, answer, fault, asked, see, ◌>>=◌}
use Rattle.b67_reach.specs.declared.Stop.{Stop}
use Rattle.b67_reach.specs.declared.Stop.TheVariants.{Fault}
use Rattle.b67_reach.specs.Answers.{whole_outcome, outcome_answered, looked}
use Rattle.b67_reach.proofs.Looking.{asked_on, asked_then, tells_look, stops_test}
use Rattle.b67_going.specs.Paths.{TestLeads}
use Rattle.b67_going.specs.Starts.{started_first_registers, if_number}

pub leads_then : {A B : Type 0} (t : Test A) (next : A → Test B) (a : A) (st : Stacks) (regs : List Registers) (r : Result B Stop)
    → TestLeads t st regs (Ok a) → TestLeads (next a) st regs r → TestLeads (t >>= next) st regs r
leads_then t next a st regs r x y = record { told = λ img e f. ap whole_outcome (asked_on img t next a (x.told img e f)) ∙ y.told img e f }

pub leads_stop : {A B : Type 0} (t : Test A) (next : A → Test B) (stop : Stop) (st : Stacks) (regs : List Registers)
    → TestLeads t st regs (Err stop) → TestLeads (t >>= next) st regs (Err stop)
leads_stop t next stop st regs x = record {
  told = λ img e f. ap whole_outcome (asked_then img t next) ∙ stops_test img (asked img t) next stop (x.told img e f);
}

pub leads_look : {A : Type 0} (l : Look A) (st : Stacks) (regs : List Registers) (r : Result A Stop) → r ≡ looked (look_seen st l) → TestLeads (see l) st regs r
leads_look l st regs r e = record { told = λ img s t. (tells_look l st img.rows r e).told img s refl }

abbrev ok : Registers → Result Registers Stop
ok y = Ok y

module _ (st : Stacks) (all : List Registers) (r : Registers) (n : ℕ) (t : Starting) where
  abbrev path : Test (Option Place)
  path = on_path r.stack (t.home ∷ frames_with t.task (named_frames t.parameters)) (place r.stack (frame r))

  abbrev from_path : List (Option Place) → Option Place → Test Registers
  from_path display c = if_number n (process_begun (n + 1) t display c)

  abbrev from_display : List (Option Place) → Test Registers
  from_display display = path >>= (λ (c : Option Place). from_path display c)

  pub no_display : (stop : Stop) → ◌≡◌ {A = Result (List (Option Place)) Stop} (Err stop) (looked (look_seen st (first_display (n + 1) t)))
      → TestLeads (started_first_registers r n t) st all (Err stop)
  no_display stop e =
      leads_stop (see (first_display (n + 1) t)) (λ (display : List (Option Place)). from_display display) stop st all
      (leads_look (first_display (n + 1) t) st all (Err stop) e)

  with_display : (display : List (Option Place)) (a : Result Registers Stop) → Ok display ≡ looked (look_seen st (first_display (n + 1) t)) → TestLeads (from_display display) st all a
      → TestLeads (started_first_registers r n t) st all a
  with_display display a e x =
      leads_then (see (first_display (n + 1) t)) (λ (d : List (Option Place)). from_display d) display st all a
      (leads_look (first_display (n + 1) t) st all (Ok display) e) x

  pub no_path : (display : List (Option Place)) (stop : Stop) → Ok display ≡ looked (look_seen st (first_display (n + 1) t)) → TestLeads path st all (Err stop)
      → TestLeads (started_first_registers r n t) st all (Err stop)
  no_path display stop e x =
      with_display display (Err stop) e (leads_stop path (λ (c : Option Place). from_path display c) stop st all x)

  numbered_so : (b : Bool) (q : Registers) → nat_lt n most_processes ≡ b → (img : Image) → asked img (if_number n q) ≡ asked img (cond b (answer q) (fault ProcessLimit))
  numbered_so b q e img = ap (λ (x : Bool). asked img (cond x (answer q) (fault ProcessLimit))) e

  pub too_many : (display : List (Option Place)) (c : Option Place) → Ok display ≡ looked (look_seen st (first_display (n + 1) t)) → TestLeads path st all (Ok c)
      → most_processes ≤ n → TestLeads (started_first_registers r n t) st all (Err (Fault ProcessLimit))
  too_many display c e x h =
      with_display display (Err (Fault ProcessLimit)) e
      (leads_then path (λ (c : Option Place). from_path display c) c st all (Err (Fault ProcessLimit)) x
      (record { told = λ img s u. ap whole_outcome (numbered_so false (process_begun (n + 1) t display c) (grind (arith, nat_tests, h)) img) }))

  pub begins : (display : List (Option Place)) (c : Option Place) (q : Registers) → Ok display ≡ looked (look_seen st (first_display (n + 1) t)) → TestLeads path st all (Ok c)
      → n < most_processes → q ≡ process_begun (n + 1) t display c → TestLeads (started_first_registers r n t) st all (Ok q)
  begins display c q e x h g =
      with_display display (Ok q) e
      (leads_then path (λ (c : Option Place). from_path display c) c st all (Ok q) x
      (record {
        told = λ img s u. ap whole_outcome (numbered_so true (process_begun (n + 1) t display c) (grind (arith, nat_tests, h)) img)
            ∙ ap (λ (y : Registers). outcome_answered (ok y)) (sym g);
      }))
