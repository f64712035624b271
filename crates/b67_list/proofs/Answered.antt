-- Options and results.
use Rattle.std.proofs.Common.{IfErr, None, Option, Some, false, is_some, refl, subst, sym, ℕ, ◌≡◌}
use Rattle.std.specs.Prelude.{Err, Ok, OnOk, Result}
use Rattle.std.specs.Result.{IsErrAnd}

pub none_there : {X : Type 0} (o : Option X) → is_some o ≡ false → o ≡ None
none_there None e = refl
none_there (Some x) e = cc

pub on_ok : {A E : Type 0} (r : Result A E) {P Q : Type 0} → (P → Q) → OnOk r P → OnOk r Q
on_ok (Ok x) f h = f h
on_ok (Err e) f h = tt

-- the error of a `?` is the callee's
pub if_err_left : {T E : Type 0} (r : Result T E) (P : E → Type 0) (e : E) → IsErrAnd r (λ x. x ≡ e) → P e → IfErr r P
if_err_left (Ok x) P e p h = absurd p
if_err_left (Err y) P e p h = subst P (sym p) h

-- what is nothing else is none
pub no_limit : (o : Option ℕ) → ((x : ℕ) → o ≡ Some x → ⊥) → o ≡ None
no_limit None other = refl
no_limit (Some x) other = absurd (other x refl)

pub when_ok : {A B : Type 0} (res : Result A B) (X : Type 0) → X → OnOk res X
when_ok (Ok a) X x = x
when_ok (Err b) X x = tt
