-- The tests of WRITE.
use Rattle.std.specs.Result.{IsErrAnd}
use Rattle.std.proofs.Common.{◌≡◌, refl, sym, ap, subst, ◌∙◌, ℕ, ℤ, List, [], Option, Some, None, Result, Ok, Err}
use Rattle.b67_word.specs.Word.{Word}
use Rattle.b67_control.specs.declared.Mscw.{Mscw}
use Rattle.b67_control.specs.declared.Registers.{Registers}
use Rattle.b67_segment.specs.declared.code.Code.{Code}
use Rattle.b67_store.specs.Store.{Stacks}
use Rattle.b67_table.specs.declared.InterruptKind.TheVariants.{InvalidOperand}
use Rattle.b67_table.specs.Arguments.{finished_at, no_such, wholes_in, wholes}
use Rattle.b67_table.specs.Image.{Image}
use Rattle.b67_table.specs.Intrinsics.{write}
use Rattle.b67_table.specs.Lines.{line_for}
use Rattle.b67_table.specs.Look.{Look, look_seen, valid, ◌>->◌}
use Rattle.b67_table.specs.Program.{Program, answer, asked, line, see, ◌>>=◌}
use Rattle.b67_table.specs.Writes as writes
use Rattle.b67_table.specs.Writes.{write_made}
use Rattle.b67_reach.specs.declared.Stop.{Stop}
use Rattle.b67_reach.specs.declared.Stop.TheVariants.{Interrupt}
use Rattle.b67_reach.specs.Answers.{ProgramActs, outcome_answered, looked, whole_outcome}
use Rattle.b67_intrinsics.specs.declared.hindrance.Hindrance.{Hindrance}
use Rattle.b67_intrinsics.specs.declared.hindrance.Hindrance.TheVariants.{Stopped, NoMemory}
use Rattle.b67_intrinsics.specs.Called.{called_in, finished_in, mark_below, IntrinsicLeads, MayLead, WholesFail}
use Rattle.b67_intrinsics.specs.Lines.{line_in, LineGiven, line_tests, line_tests_in}
use Rattle.b67_intrinsics.proofs.Trying.{leads_then, leads_not, told_look}

-- ---- the line that is found

abbrev pub or_invalid : {A : Type 0} → Option A → Result A Stop
or_invalid None = Err (Interrupt InvalidOperand)
or_invalid (Some a) = Ok a

pub seen_valid : {A : Type 0} (st : Stacks) (o : Option A) → looked (look_seen st (valid o)) ≡ or_invalid o
seen_valid st None = refl
seen_valid st (Some a) = refl

abbrev look_line : Code → List Word → Look (List ℕ)
look_line code words = wholes words >-> (λ (numbers : List ℤ). valid (line_for code numbers))

seen_line : (st : Stacks) (code : Code) (words : List Word) → looked (look_seen st (look_line code words)) ≡ or_invalid (line_in code (wholes_in words))
seen_line st code words = by (wholes_in words)
  where
    by : (o : Option (List ℤ)) → looked (look_seen st (valid o >-> (λ (numbers : List ℤ). valid (line_for code numbers)))) ≡ or_invalid (line_in code o)
    by None = refl
    by (Some numbers) = seen_valid st (line_for code numbers)

module _ (img : Image) (code : Code) (r : Registers) (m : Mscw) (words : List Word) where
  abbrev chain : List ℕ → (List ℕ → Program) → Program
  chain bytes next = see (mark_below r m) >>= (λ (lower : Mscw). next bytes)

  pub no_line : (stop : Stop) → stop ≡ Interrupt InvalidOperand → line_in code (wholes_in words) ≡ None → IntrinsicLeads {A = List ℕ} img (line_tests code r m words) (Err stop)
  no_line stop e n =
      leads_not img (see (look_line code words)) chain stop
      (told_look img (look_line code words) (Err stop) (ap Err e ∙ sym (seen_line img.stacks code words ∙ ap or_invalid n)))

  module _ (bytes : List ℕ) (e : line_in code (wholes_in words) ≡ Some bytes) where
    found : whole_outcome (asked img (see (look_line code words))) ≡ outcome_answered (Ok bytes)
    found = told_look img (look_line code words) (Ok bytes) (sym (seen_line img.stacks code words ∙ ap or_invalid e))

    pub line_unchained : (stop : Stop) → ◌≡◌ {A = Result Mscw Stop} (Err stop) (looked (look_seen img.stacks (mark_below r m))) → IntrinsicLeads {A = List ℕ} img (line_tests code r m words) (Err stop)
    line_unchained stop f =
        leads_then img (see (look_line code words)) chain bytes (Err stop) found
        (leads_not img (see (mark_below r m)) (λ (lower : Mscw) (next : List ℕ → Program). next bytes) stop (told_look img (mark_below r m) (Err stop) f))

    pub line_chained : (lower : Mscw) → Ok lower ≡ looked (look_seen img.stacks (mark_below r m)) → IntrinsicLeads img (line_tests code r m words) (Ok bytes)
    line_chained lower f =
        leads_then img (see (look_line code words)) chain bytes (Ok bytes) found
        (leads_then img (see (mark_below r m)) (λ (lower : Mscw) (next : List ℕ → Program). next bytes) lower (Ok bytes) (told_look img (mark_below r m) (Ok lower) f) (λ next. refl))

  -- the exit where no line is given
  pub line_exit : (res : Result (List ℕ) Hindrance) (h : Hindrance) → LineGiven code words (Err h) → IsErrAnd res (λ e. e ≡ h) → MayLead img (line_tests code r m words) res
  line_exit (Ok a) h given e = absurd e
  line_exit (Err i) h given e = subst (λ (k : Hindrance). MayLead {A = List ℕ} img (line_tests code r m words) (Err k)) (sym e) (by h given)
    where
      by : (h : Hindrance) → LineGiven code words (Err h) → MayLead {A = List ℕ} img (line_tests code r m words) (Err h)
      by (Stopped stop) given = no_line stop given.0 given.1
      by NoMemory given = tt

-- the exit of a question mark
pub may_exit : {A : Type 0} (img : Image) (tests : (A → Program) → Program) (res : Result A Hindrance) (stop : Stop) → IsErrAnd res (λ h. h ≡ Stopped stop)
    → IntrinsicLeads {A = A} img tests (Err stop) → MayLead img tests res
may_exit img tests (Ok a) stop e x = absurd e
may_exit {A = A} img tests (Err h) stop e x = subst (λ (k : Hindrance). MayLead {A = A} img tests (Err k)) (sym e) x

-- ---- the line that is given

pub given_exit : (code : Code) (words : List Word) (res : Result (List ℕ) Hindrance) (h : Hindrance) → WholesFail words h → IsErrAnd res (λ e. e ≡ h) → LineGiven code words res
given_exit code words (Ok a) h fail e = absurd e
given_exit code words (Err i) h fail e = subst (λ (k : Hindrance). LineGiven code words (Err k)) (sym e) (by h fail)
  where
    by : (h : Hindrance) → WholesFail words h → LineGiven code words (Err h)
    by (Stopped stop) fail = (fail.0, ap (line_in code) fail.1)
    by NoMemory fail = tt

-- ---- and then the end

abbrev pub adding : Option Registers → Mscw → ℕ → List ℕ → Program
adding None m next bytes = no_such
adding (Some r) m next bytes = answer (line bytes (finished_at r m [] next))

pub write_is : (img : Image) (code : Code) (next : ℕ) (m : Mscw) (regs : Option Registers)
    → asked img (called_in write code regs next m) ≡ asked img (line_tests_in code regs m img.stacks (adding regs m next))
write_is img code next m None = refl
write_is img code next m (Some r) = refl

pub added_then : (p : ℕ) (img new : Image) (m : Mscw) (next : ℕ) (bytes : List ℕ) (regs : Option Registers)
    → ProgramActs {A = Unit {0}} p (finished_in regs m [] next) (write_made p (writes.line bytes) img) new (Ok tt)
    → ProgramActs {A = Unit {0}} p (adding regs m next bytes) img new (Ok tt)
added_then p img new m next bytes None q = record { outcome = q.outcome; stays = tt }
added_then p img new m next bytes (Some r) q = record { outcome = q.outcome; stays = tt }
