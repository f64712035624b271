-- What answers a text of code.
use Rattle.std.proofs.Common.{◌≡◌, ℕ, List, Result, Ok, Err, ap, subst, sym, ◌∙◌}
use Rattle.std.specs.Prelude.{IfOk}
use Rattle.std.specs.declared.alloc.AllocError.{AllocError}
use Rattle.b67_asm.specs.declared.refusal.Refusal.{Refusal}
use Rattle.b67_asm.specs.Assembling.{Assembles, IsRefusedText}
use Rattle.b67_asm.proofs.One.{one_code, not_both, one_refusal}
use Rattle.b67_segment.specs.declared.code.Code.{Code}
use Rattle.b67_exec.specs.declared.Stopped.{Stopped}
use Rattle.b67_exec.specs.Turns.{exec_run}
use Rattle.b67_exec.specs.Texts.{exec_text}
use Rattle.b67_desk.specs.declared.status.Code.TheVariants.{OfText}
use Rattle.b67_desk.specs.declared.status.Status.{Status}
use Rattle.b67_desk.specs.declared.status.Status.TheVariants as status
use Rattle.b67_desk.specs.declared.asking.Answer.{Answer}
use Rattle.b67_desk.specs.Answers.{refused_text, line_start, Execs, unassembled, executed}
use Rattle.b67_desk.specs.Calls.{IsRefusal}
use Rattle.b67_desk.specs.Ends.{status_by}

pub refused_so : (budget : ℕ) (bytes : List ℕ) (refusal : Refusal) (result : Result Answer AllocError) → IsRefusedText bytes refusal
    → IfOk result (IsRefusal (line_start refusal.line) (OfText refusal.rule)) → IfOk result (λ a. Execs budget bytes a.text.items a.status)
refused_so budget bytes refusal (Ok a) at is =
    subst (λ (t : List ℕ). Execs budget bytes t a.status) (sym is.text)
    (subst (λ (s : Status). Execs budget bytes (refused_text (line_start refusal.line) (OfText refusal.rule)) s) (sym is.status) (unassembled refusal at))
refused_so budget bytes refusal (Err e) at is = is

pub told_so : (budget : ℕ) (bytes : List ℕ) (code : Code) (text : List ℕ) (why : Stopped) (s : Status) → Assembles bytes code → text ≡ exec_text code budget
    → why ≡ (exec_run code budget).why → s ≡ status_by why → Execs budget bytes text s
told_so budget bytes code text why s are text_is why_is s_is =
    subst (λ (t : List ℕ). Execs budget bytes t s) (sym text_is)
    (subst (λ (z : Status). Execs budget bytes (exec_text code budget) z) (sym (s_is ∙ ap status_by why_is)) (executed code are))

pub one_answer : (budget : ℕ) (bytes one other : List ℕ) (s t : Status) → Execs budget bytes one s → Execs budget bytes other t → (one ≡ other) × (s ≡ t)
one_answer budget bytes _ _ _ _ (unassembled refusal is) (unassembled other also) =
    let same : refusal ≡ other = one_refusal bytes refusal other is also in
    (ap (λ (r : Refusal). refused_text (line_start r.line) (OfText r.rule)) same, ap (λ (r : Refusal). status.Refused (line_start r.line) (OfText r.rule)) same)
one_answer budget bytes _ _ _ _ (unassembled refusal is) (executed code are) = absurd (not_both bytes code refusal are is)
one_answer budget bytes _ _ _ _ (executed code are) (unassembled refusal is) = absurd (not_both bytes code refusal are is)
one_answer budget bytes _ _ _ _ (executed code are) (executed other also) =
    let same : code ≡ other = one_code bytes code other are also in
    (ap (λ (k : Code). exec_text k budget) same, ap (λ (k : Code). status_by (exec_run k budget).why) same)
