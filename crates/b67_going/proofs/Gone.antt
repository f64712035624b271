-- GOTO, test by test, and what leaving the frames above the target comes to.
use Rattle.std.specs.Result.{IsErrAnd}
use Rattle.std.proofs.Common.{◌≡◌, refl, sym, ap, subst, ◌∙◌, ℕ, zero, suc, ◌+◌, ◌-◌, ◌≤◌, nat_le, nat_lt, Bool, true, false, List, [], Option, Result, Ok, Err, cond, arith}
use Rattle.std.specs.Prelude.{nat_eq}
use Rattle.std.proofs.lemmas.Bool.Decides.{nat_tests}
use Rattle.std.proofs.lemmas.Bool.{eq-eqb, ne_eqb}
use Rattle.b67_num.specs.declared.FaultKind.TheVariants.{BadGoTo, CriticalBlockExit}
use Rattle.b67_word.specs.declared.Place.{Place}
use Rattle.b67_control.specs.declared.Mscw.{Mscw}
use Rattle.b67_control.specs.declared.Rcw.{Rcw}
use Rattle.b67_control.specs.declared.Registers.{Registers}
use Rattle.b67_events.specs.Events.{Event}
use Rattle.b67_store.specs.Store.{Stacks}
use Rattle.b67_table.specs.declared.Below.{Below}
use Rattle.b67_table.specs.declared.InterruptKind.{InterruptKind}
use Rattle.b67_table.specs.Chains.{place, chain_broken, rebuilt, left_to, mark_at, control_at, entered_below, if_apart}
use Rattle.b67_table.specs.Effect.{Effect}
use Rattle.b67_table.specs.GoingTo.{Passed, Passing, passing, passed_by, passed_frames, target_of, frames_left, gone_to, if_same_stack, go_to}
use Rattle.b67_table.specs.GoingTo as going
use Rattle.b67_table.specs.Image.{Image}
use Rattle.b67_table.specs.Linkage.{is_critical, if_not_critical}
use Rattle.b67_table.specs.Look.{Look, found, look_seen, ◌>->◌}
use Rattle.b67_table.specs.Outcome.{limited}
use Rattle.b67_table.specs.Private.{frame}
use Rattle.b67_table.specs.Program.{fault, asked, see, ◌>>=◌, Change, Program, effect_of}
use Rattle.b67_table.specs.Questions.{live_criticals}
use Rattle.b67_table.specs.Table.{stack_length}
use Rattle.b67_linkage.specs.Leaving.{Cutting, cutting, down_to, target_cells}
use Rattle.b67_reach.specs.declared.Stop.{Stop}
use Rattle.b67_reach.specs.declared.Stop.TheVariants.{Fault}
use Rattle.b67_reach.specs.Answers.{whole_outcome, outcome_answered, looked, ProgramActs}
use Rattle.b67_reach.proofs.Looking.{seen_then, after_found, asked_on, acts_then, acts_stop}
use Rattle.b67_going.specs.Leaves.{leaves_critical, without_events}
use Rattle.b67_going.specs.Targets.{route, Routes}
use Rattle.b67_going.proofs.Started.{sees}

-- ---- what is found along a look

abbrev okay : {A : Type 0} → A → Result A InterruptKind
okay a = Ok a

module _ (st : Stacks) where
  pub through : {A B : Type 0} (P : B → Type 0) (l : Look A) (k : A → Look B) → ((a : A) → look_seen st l ≡ Ok a → (b : B) → look_seen st (k a) ≡ Ok b → P b)
      → (b : B) → look_seen st (l >-> k) ≡ Ok b → P b
  through P l k h b e = by (look_seen st l) refl (sym (seen_then st l k) ∙ e)
    where
      by : (y : Result _ InterruptKind) → look_seen st l ≡ y → after_found y (λ a. look_seen st (k a)) ≡ Ok b → P b
      by (Ok a) f e = h a f b e
      by (Err kind) f e = absurd cc

  -- the cells of the frame below end at the frame that is left, or below
  abbrev Apart : ℕ → Below → Type 0
  Apart left b = b.frame + 2 + b.control.caller_cells ≤ left

  last_apart : (left : ℕ) (x b : Below) → look_seen st (if_apart left x) ≡ Ok b → Apart left b
  last_apart left x b e = by (nat_le (x.frame + 2 + x.control.caller_cells) left) refl e
    where
      by : (t : Bool) → nat_le (x.frame + 2 + x.control.caller_cells) left ≡ t → look_seen st (cond t (found x) chain_broken) ≡ Ok b → Apart left b
      by true f e = let is : x ≡ b = cc in subst (Apart left) is (grind (arith, nat_tests, f))
      by false f e = absurd cc

  apart : (f : Place) (b : Below) → look_seen st (left_to f) ≡ Ok b → Apart f.at b
  apart f b e =
      through (Apart f.at) (mark_at f)
      (λ (m : Mscw). control_at f >-> (λ (c : Rcw). cond (nat_le m.df f.at) (entered_below f.stack (f.at - m.df)) chain_broken >-> (λ (lower : ℕ). control_at (place f.stack lower) >-> (λ (u : Rcw).
      if_apart f.at (record { mark = f.at - m.df; frame = lower; control = c })))))
      (λ m i. through (Apart f.at) (control_at f)
      (λ (c : Rcw). cond (nat_le m.df f.at) (entered_below f.stack (f.at - m.df)) chain_broken >-> (λ (lower : ℕ). control_at (place f.stack lower) >-> (λ (u : Rcw).
      if_apart f.at (record { mark = f.at - m.df; frame = lower; control = c }))))
      (λ c j. through (Apart f.at) (cond (nat_le m.df f.at) (entered_below f.stack (f.at - m.df)) chain_broken)
      (λ (lower : ℕ). control_at (place f.stack lower) >-> (λ (u : Rcw). if_apart f.at (record { mark = f.at - m.df; frame = lower; control = c })))
      (λ lower k. through (Apart f.at) (control_at (place f.stack lower)) (λ (u : Rcw). if_apart f.at (record { mark = f.at - m.df; frame = lower; control = c }))
      (λ u l b e. last_apart f.at (record { mark = f.at - m.df; frame = lower; control = c }) b e)))) b e

  -- the target's cells end no higher than those of the frame where the way begins
  abbrev Lower : ℕ → Passed → Passing → Type 0
  Lower target here p = target + 2 + p.cells ≤ here.frame + 2 + here.cells

  abbrev further : ℕ → ℕ → ℕ → Passed → Below → Look Passing
  further steps stack target here b =
      passing steps stack target (record { frame = b.frame; cells = b.control.caller_cells }) >-> (λ (q : Passing). found (going.passing_after here q))

  lower_end : (steps stack target : ℕ) (here : Passed) (p : Passing) → look_seen st (passing steps stack target here) ≡ Ok p → Lower target here p
  lower_end zero stack target here p e = absurd cc
  lower_end (suc steps) stack target here p e =
      by (λ below q j. lower_end steps stack target below q j) (nat_eq here.frame target) (nat_lt here.frame target) refl e
    where
      by : ((below : Passed) (q : Passing) → look_seen st (passing steps stack target below) ≡ Ok q → Lower target below q) → (b c : Bool) → nat_eq here.frame target ≡ b
          → look_seen st (cond b (found (record { frames = []; cells = here.cells })) (cond c chain_broken (left_to (place stack here.frame) >-> further steps stack target here))) ≡ Ok p → Lower target here p
      by lower true c f e =
          let is : record { frames = []; cells = here.cells } ≡ p = cc in
          let at : here.frame ≡ target = grind (arith, nat_tests, f) in subst (Lower target here) is (omega (arith, at))
      by lower false true f e = absurd cc
      by lower false false f e =
          through (Lower target here) (left_to (place stack here.frame)) (further steps stack target here)
          (λ b i. through (Lower target here) (passing steps stack target (record { frame = b.frame; cells = b.control.caller_cells })) (λ (q : Passing). found (going.passing_after here q))
          (λ q j p e. let is : going.passing_after here q ≡ p = cc in
          subst (Lower target here) is (omega (arith, apart (place stack here.frame) b i, lower (record { frame = b.frame; cells = b.control.caller_cells }) q j)))) p e

  -- ---- the parts of what is found on the way

  pub cut_of : (r : Registers) (f : Place) (level : ℕ) (q : Passing) (d : List (Option Place)) → look_seen st (passed_by r f) ≡ Ok q → look_seen st (rebuilt f level) ≡ Ok d
      → look_seen st (cutting r f level) ≡ Ok (record { passing = q; display = d })
  cut_of r f level q d e g =
      seen_then st (passed_by r f) (λ (p : Passing). rebuilt f level >-> (λ (display : List (Option Place)). found (record { passing = p; display = display })))
      ∙ ap (λ (y : Result Passing InterruptKind). after_found y (λ (p : Passing). look_seen st (rebuilt f level >-> (λ (display : List (Option Place)). found (record { passing = p; display = display }))))) e
      ∙ seen_then st (rebuilt f level) (λ (display : List (Option Place)). found (record { passing = q; display = display }))
      ∙ ap (λ (y : Result (List (Option Place)) InterruptKind). after_found y (λ (display : List (Option Place)). okay (record { passing = q; display = display }))) g

  pub passing_of : (r : Registers) (f : Place) (level : ℕ) (c : Cutting) → look_seen st (cutting r f level) ≡ Ok c → look_seen st (passed_by r f) ≡ Ok c.passing
  passing_of r f level c e =
      through (λ (c : Cutting). look_seen st (passed_by r f) ≡ Ok c.passing) (passed_by r f)
      (λ (p : Passing). rebuilt f level >-> (λ (display : List (Option Place)). found (record { passing = p; display = display })))
      (λ p i. through (λ (c : Cutting). look_seen st (passed_by r f) ≡ Ok c.passing) (rebuilt f level) (λ (display : List (Option Place)). found (record { passing = p; display = display }))
      (λ d j c e. let is : record { passing = p; display = d } ≡ c = cc in subst (λ (c : Cutting). look_seen st (passed_by r f) ≡ Ok c.passing) is i)) c e

  -- on the way to a frame of the process's own stack
  in_own : (r : Registers) (f : Place) → f.stack ≡ r.stack → look_seen st (passed_by r f) ≡ look_seen st (down_to (place r.stack (frame r)) r.cells f.at)
  in_own r f e =
      ap (λ (b : Bool). look_seen st (cond b (down_to (place r.stack (frame r)) r.cells f.at) (found (record { frames = []; cells = 0 })))) (eq-eqb f.stack r.stack e)

  pub own_passing : (r : Registers) (f : Place) (level : ℕ) (c : Cutting) → f.stack ≡ r.stack → look_seen st (cutting r f level) ≡ Ok c
      → look_seen st (down_to (place r.stack (frame r)) r.cells f.at) ≡ Ok c.passing
  own_passing r f level c e g = sym (in_own r f e) ∙ passing_of r f level c g

  pub ends_lower : (r : Registers) (f : Place) (q : Passing) → f.stack ≡ r.stack → look_seen st (passed_by r f) ≡ Ok q → f.at + 2 + q.cells ≤ frame r + 2 + r.cells
  ends_lower r f q e g =
      lower_end (frame r + 1) r.stack f.at (record { frame = frame r; cells = r.cells }) q (sym (in_own r f e) ∙ g)

  pub cells_found : (from : Place) (cells target : ℕ) (q : Passing) → look_seen st (down_to from cells target) ≡ Ok q → look_seen st (target_cells from cells target) ≡ Ok q.cells
  cells_found from cells target q e =
      seen_then st (down_to from cells target) (λ (p : Passing). found p.cells) ∙ ap (λ (y : Result Passing InterruptKind). after_found y (λ (p : Passing). okay p.cells)) e

  pub events_found : (from : Place) (cells target : ℕ) (q : Passing) (events less : List Event) → look_seen st (down_to from cells target) ≡ Ok q
      → look_seen st (down_to from cells target >-> (λ (p : Passing). found (without_events from.stack p.frames events))) ≡ Ok less
      → without_events from.stack q.frames events ≡ less
  events_found from cells target q events less e f =
      let both : okay (without_events from.stack q.frames events) ≡ Ok less =
      sym (seen_then st (down_to from cells target) (λ (p : Passing). found (without_events from.stack p.frames events))
      ∙ ap (λ (y : Result Passing InterruptKind). after_found y (λ (p : Passing). okay (without_events from.stack p.frames events))) e) ∙ f in
      cc

-- ---- the tests of the way

-- the frames above the target are found, and whether one of them is critical
pub record IsPassed (st : Stacks) (places : List Place) (r : Registers) (f : Place) (b : Bool) : Type 0 where
  pub passing : Passing
  pub is : look_seen st (passed_by r f) ≡ Ok passing
  pub critical : is_critical r.stack (passed_frames passing.frames) places ≡ b

module _ (st : Stacks) (places : List Place) (r : Registers) (f : Place) where
  abbrev critical_in : Passing → Result Bool InterruptKind
  critical_in p = Ok (is_critical r.stack (passed_frames p.frames) places)

  as_passed : look_seen st (leaves_critical places r f) ≡ after_found (look_seen st (passed_by r f)) critical_in
  as_passed = seen_then st (passed_by r f) (λ (p : Passing). found (is_critical r.stack (passed_frames p.frames) places))

  pub is_passed : (b : Bool) → Ok b ≡ looked (look_seen st (leaves_critical places r f)) → IsPassed st places r f b
  is_passed b e = by (look_seen st (passed_by r f)) refl (e ∙ ap looked as_passed)
    where
      by : (y : Result Passing InterruptKind) → look_seen st (passed_by r f) ≡ y → Ok b ≡ looked (after_found y critical_in) → IsPassed st places r f b
      by (Ok p) g e = record { passing = p; is = g; critical = let is : b ≡ is_critical r.stack (passed_frames p.frames) places = cc in sym is }
      by (Err kind) g e = absurd cc

  pub is_broken : (stop : Stop) → ◌≡◌ {A = Result Bool Stop} (Err stop) (looked (look_seen st (leaves_critical places r f))) → ◌≡◌ {A = Result Passing Stop} (Err stop) (looked (look_seen st (passed_by r f)))
  is_broken stop e = by (look_seen st (passed_by r f)) (e ∙ ap looked as_passed)
    where
      by : (y : Result Passing InterruptKind) → ◌≡◌ {A = Result Bool Stop} (Err stop) (looked (after_found y critical_in)) → ◌≡◌ {A = Result Passing Stop} (Err stop) (looked y)
      by (Ok p) e = cc
      by (Err kind) e = cc

module _ (img : Image) (r : Registers) (t : going.Target) (p : ℕ) (next : Passing → List (Option Place) → Program) where
  abbrev may_stop : Passing → List (Option Place) → Program
  may_stop q d = if_same_stack r t.frame (if_not_critical r.stack (passed_frames q.frames) (next q d))

  abbrev with_passing : Passing → Program
  with_passing q = see (rebuilt t.frame t.level) >>= (λ (d : List (Option Place)). may_stop q d)

  pub way_broken : (stop : Stop) → ◌≡◌ {A = Result Passing Stop} (Err stop) (looked (look_seen img.stacks (passed_by r t.frame))) → ProgramActs {A = Unit {0}} p (route r t next) img img (Err stop)
  way_broken stop e = acts_stop p (see (passed_by r t.frame)) with_passing stop img img (sees img (passed_by r t.frame) img.stacks (Err stop) refl e) refl

  module _ (q : Passing) (e : look_seen img.stacks (passed_by r t.frame) ≡ Ok q) where
    passed : whole_outcome (asked img (see (passed_by r t.frame))) ≡ outcome_answered (Ok q)
    passed = sees img (passed_by r t.frame) img.stacks (Ok q) refl (sym (ap looked e))

    pub display_broken : (stop : Stop) → ◌≡◌ {A = Result (List (Option Place)) Stop} (Err stop) (looked (look_seen img.stacks (rebuilt t.frame t.level)))
        → ProgramActs {A = Unit {0}} p (route r t next) img img (Err stop)
    display_broken stop f =
        acts_then p (see (passed_by r t.frame)) with_passing q img img (Err stop) passed
        (acts_stop p (see (rebuilt t.frame t.level)) (λ (d : List (Option Place)). may_stop q d) stop img img (sees img (rebuilt t.frame t.level) img.stacks (Err stop) refl f) refl)

    module _ (d : List (Option Place)) (f : look_seen img.stacks (rebuilt t.frame t.level) ≡ Ok d) where
      here : asked img (route r t next) ≡ asked img (may_stop q d)
      here =
          asked_on img (see (passed_by r t.frame)) with_passing q passed
          ∙ asked_on img (see (rebuilt t.frame t.level)) (λ (d : List (Option Place)). may_stop q d) d
          (sees img (rebuilt t.frame t.level) img.stacks (Ok d) refl (sym (ap looked f)))

      abbrev places : List Place
      places = live_criticals img.states img.regs

      by_tests : (b c : Bool) → nat_eq t.frame.stack r.stack ≡ b → is_critical r.stack (passed_frames q.frames) places ≡ c
          → asked img (route r t next) ≡ asked img (cond b (cond c (fault CriticalBlockExit) (next q d)) (fault BadGoTo))
      by_tests b c g h =
          here
          ∙ ap (λ (x : Bool). asked img (cond x (if_not_critical r.stack (passed_frames q.frames) (next q d)) (fault BadGoTo))) g
          ∙ critical_by b c h
        where
          critical_by : (b c : Bool) → is_critical r.stack (passed_frames q.frames) places ≡ c
              → asked img (cond b (if_not_critical r.stack (passed_frames q.frames) (next q d)) (fault BadGoTo)) ≡ asked img (cond b (cond c (fault CriticalBlockExit) (next q d)) (fault BadGoTo))
          critical_by true c h = ap (λ (x : Bool). asked img (cond x (fault CriticalBlockExit) (next q d))) h
          critical_by false c h = refl

      pub other_stack : (t.frame.stack ≡ r.stack → ⊥) → ProgramActs {A = Unit {0}} p (route r t next) img img (Err (Fault BadGoTo))
      other_stack h = record {
        outcome = ap (λ (e : Effect Change). limited (stack_length p) (effect_of p img e))
            (by_tests false (is_critical r.stack (passed_frames q.frames) places) (ne_eqb t.frame.stack r.stack h) refl);
        stays = refl;
      }

      pub critical_left : t.frame.stack ≡ r.stack → is_critical r.stack (passed_frames q.frames) places ≡ true → ProgramActs {A = Unit {0}} p (route r t next) img img (Err (Fault CriticalBlockExit))
      critical_left h k = record {
        outcome = ap (λ (e : Effect Change). limited (stack_length p) (effect_of p img e)) (by_tests true true (eq-eqb t.frame.stack r.stack h) k);
        stays = refl;
      }

      pub way_open : t.frame.stack ≡ r.stack → is_critical r.stack (passed_frames q.frames) places ≡ false → asked img (route r t next) ≡ asked img (next q d)
      way_open h k = by_tests true false (eq-eqb t.frame.stack r.stack h) k

pub routes_exit : {A : Type 0} (r : Registers) (t : going.Target) (img : Image) (res : Result A Stop) (stop : Stop) → IsErrAnd res (λ s. s ≡ stop)
    → ((p : ℕ) (next : Passing → List (Option Place) → Program) → ProgramActs {A = A} p (route r t next) img img (Err stop)) → Routes r t img res
routes_exit r t img (Ok a) stop i x = absurd i
routes_exit {A = A} r t img (Err other) stop i x = λ p next. subst (λ (s : Stop). ProgramActs {A = A} p (route r t next) img img (Err s)) (sym i) (x p next)

pub same_cutting : (c k : Cutting) → okay c ≡ Ok k → c ≡ k
same_cutting c k e = cc
