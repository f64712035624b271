-- What an operator comes to, on an image that keeps no fault.
use Rattle.std.proofs.Common.{◌≡◌, refl, sym, ap, subst, ◌∙◌, ℕ, Bool, true, false, List, [], Option, Some, None, arith}
use Rattle.std.specs.Prelude.{if◌then◌else◌, nat_lt}
use Rattle.std.proofs.lemmas.Bool.Decides.{nat_tests}
use Rattle.b67_segment.specs.declared.code.Code.{Code}
use Rattle.b67_table.specs.Image.{Image, Failure as Fault}
use Rattle.b67_table.specs.Ending.{failed}
use Rattle.b67_table.specs.Valid.{IsValid}
use Rattle.b67_table.proofs.AllValid.{operators_keep_valid}
use Rattle.b67_action.specs.declared.done.Done.{Done}
use Rattle.b67_action.specs.declared.done.Done.TheVariants.{Went, Waits, Ended, Fault as at_fault, Interrupt, StackLimit, NoMemory}
use Rattle.b67_action.specs.Able.{AbleAfter}
use Rattle.b67_letters.specs.Releases.{releases, started_between, started_by}
use Rattle.b67_action.specs.Done.{Came, is_performed}
use Rattle.b67_action.proofs.Able.{able_same}
use Rattle.b67_letters.specs.Letters.{letter}
use Rattle.b67_machine.specs.Letters.{lettered}
use Rattle.b67_machine.specs.Kept.{MachineModel, Counts}
use Rattle.b67_machine.specs.declared.Failure.{Failure}
use Rattle.b67_machine.specs.Machines.{failure, with_failure}
use Rattle.b67_machine.specs.Stepping.{image_after, failure_of, operators_in, limit_of, lacks, released_where, started_where, MachineActs}

pub none_kept : (f : Option Failure) → failure f ≡ None → f ≡ None
none_kept None e = refl
none_kept (Some f) e = cc

pub without : (img : Image) → img.fault ≡ None → with_failure img None ≡ img
without img e = ap (λ (o : Option Fault). record img { fault = o }) (sym e)

pub kept_after : (p : ℕ) (done : Done) (img : Image) → img.fault ≡ None → with_failure img (failure_of p done) ≡ image_after p done img
unfolding failed
kept_after p Went img e = without img e
kept_after p Waits img e = without img e
kept_after p Ended img e = without img e
kept_after p (at_fault kind) img e = refl
kept_after p (Interrupt kind) img e = without img e
kept_after p StackLimit img e = without img e
kept_after p NoMemory img e = without img e

failed_is : (img : Image) (f : Failure) → failed img f.process f.kind ≡ with_failure img (Some f)
unfolding failed
failed_is img f = refl

pub valid_with : (code : Code) (img : Image) (f : Option Failure) → img.fault ≡ None → IsValid code img → IsValid code (with_failure img f)
valid_with code img None e v = subst (IsValid code) (sym (without img e)) v
valid_with code img (Some f) e v = subst (IsValid code) (failed_is img f) (operators_keep_valid.failed code img f.process f.kind v)

pub released_so : (b : Bool) (code : Code) (img : Image) (p : ℕ) (before after : List ℕ) → (b ≡ true → before ≡ releases code img p) → (b ≡ true → after ≡ before)
    → (b ≡ false → after ≡ []) → after ≡ released_where b code img p
released_so true code img p before after n s z = s refl ∙ n refl
released_so false code img p before after n s z = z refl

none_started : (before after : ℕ) → after ≡ before → started_between before after ≡ None
none_started before after e = ap (started_between before) e ∙ ap (λ (b : Bool). if b then Some before else None) (not_less before)
  where
    not_less : (n : ℕ) → nat_lt n n ≡ false
    not_less n = grind (arith, nat_tests)

-- whom the operator has started, by what it came to
started_so : (code : Code) (old acted new : Image) (p : ℕ) (done : Done) → Came code old p done acted → new ≡ image_after p done acted
    → started_between old.started new.started ≡ started_where (is_performed done) code old p
unfolding failed
started_so code old acted new p Went x i = ap (λ (z : Image). started_between old.started z.started) i ∙ sym (ap (started_by old) x.0)
started_so code old acted new p Waits x i = ap (λ (z : Image). started_between old.started z.started) i ∙ sym (ap (started_by old) x.0)
started_so code old acted new p Ended x i = ap (λ (z : Image). started_between old.started z.started) i ∙ sym (ap (started_by old) x.0)
started_so code old acted new p (at_fault kind) x i = none_started old.started new.started (ap (λ (z : Image). z.started) i ∙ ap (λ (z : Image). z.started) x.1)
started_so code old acted new p (Interrupt kind) x i = none_started old.started new.started (ap (λ (z : Image). z.started) i ∙ ap (λ (z : Image). z.started) x.1)
started_so code old acted new p StackLimit x i = none_started old.started new.started (ap (λ (z : Image). z.started) i ∙ ap (λ (z : Image). z.started) x.1)
started_so code old acted new p NoMemory x i = none_started old.started new.started (ap (λ (z : Image). z.started) i ∙ ap (λ (z : Image). z.started) x.1.others)

-- who is able where the action was performed, and where a fault is kept
able_with : (code : Code) (old acted new : Image) (p : ℕ) (done : Done) (released : List ℕ) → Came code old p done acted → new ≡ image_after p done acted
    → released ≡ released_where (is_performed done) code old p → (is_performed done ≡ true → AbleAfter old acted p released) → operators_in done ≡ 1 → AbleAfter old new p released
unfolding failed
able_with code old acted new p Went released x i r k e = subst (λ (z : Image). AbleAfter old z p released) (sym i) (k refl)
able_with code old acted new p Waits released x i r k e = subst (λ (z : Image). AbleAfter old z p released) (sym i) (k refl)
able_with code old acted new p Ended released x i r k e = subst (λ (z : Image). AbleAfter old z p released) (sym i) (k refl)
able_with code old acted new p (at_fault kind) released x i r k e =
    subst (AbleAfter old new p) (sym r)
    (able_same old new p (ap (λ (z : Image). z.states) i ∙ ap (λ (z : Image). z.states) x.1) (ap (λ (z : Image). z.started) i ∙ ap (λ (z : Image). z.started) x.1))
able_with code old acted new p (Interrupt kind) released x i r k e = cc
able_with code old acted new p StackLimit released x i r k e = cc
able_with code old acted new p NoMemory released x i r k e = cc

-- what is kept of an operator, and the image that its action left
pub acts_by : (old new : MachineModel) (code : Code) (img acted : Image) (p : ℕ) (done : Done) → old.code ≡ code → old.image ≡ img → acted.fault ≡ None → Came code img p done acted
    → new.image ≡ with_failure acted (failure_of p done) → Counts old.counts p (operators_in done) new.counts → new.released ≡ released_where (is_performed done) code img p
    → (is_performed done ≡ true → AbleAfter img acted p new.released) → new.limit ≡ limit_of p done → new.lacked ≡ lacks done
    → new.letter ≡ lettered (operators_in done) (letter code img p) old.letter → new.code ≡ code → MachineActs old p done new
acts_by old new code img acted p done c i f came image counts released able limit lacked named same = record {
  acted = acted;
  came = subst (λ (k : Code). Came k old.image p done acted) (sym c) (subst (λ (x : Image). Came code x p done acted) (sym i) came);
  image = image ∙ kept_after p done acted f;
  counts = counts;
  released = subst (λ (k : Code). new.released ≡ released_where (is_performed done) k old.image p) (sym c)
      (subst (λ (x : Image). new.released ≡ released_where (is_performed done) code x p) (sym i) released);
  started = subst (λ (k : Code). started_between old.image.started new.image.started ≡ started_where (is_performed done) k old.image p) (sym c)
      (subst (λ (x : Image). started_between x.started new.image.started ≡ started_where (is_performed done) code x p) (sym i)
      (started_so code img acted new.image p done came (image ∙ kept_after p done acted f)));
  able = λ e. subst (λ (x : Image). AbleAfter x new.image p new.released) (sym i)
      (able_with code img acted new.image p done new.released came (image ∙ kept_after p done acted f) released able e);
  limit = limit;
  lacked = lacked;
  letter_is = subst (λ (k : Code). new.letter ≡ lettered (operators_in done) (letter k old.image p) old.letter) (sym c)
      (subst (λ (x : Image). new.letter ≡ lettered (operators_in done) (letter code x p) old.letter) (sym i) named);
  code = same ∙ sym c;
}
