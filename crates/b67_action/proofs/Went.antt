-- What is answered with a letter, where something was done.
use Rattle.std.specs.Prelude.{if◌then◌else◌, IfSome, IfOk, OnErr, is_ok}
use Rattle.std.specs.Result.{result_ok}
use Rattle.std.proofs.Common.{◌≡◌, refl, sym, subst, ◌∙◌, Bool, true, false, Option, Some, None, Result, Ok, Err}
use Rattle.b67_deeds.specs.declared.Letter.{Letter}

pub went_so : (b : Bool) (l : Letter) (P : Letter → Type 0) (o : Option Letter) → o ≡ (if b then Some l else None) → (b ≡ true → P l) → IfSome o P
went_so true l P o e h = subst (λ (z : Option Letter). IfSome z P) (sym e) (h refl)
went_so false l P o e h = subst (λ (z : Option Letter). IfSome z P) (sym e) tt

-- and nothing was done where none is answered
pub none_went : (b : Bool) (l : Letter) (o : Option Letter) → o ≡ (if b then Some l else None) → o ≡ None → b ≡ false
none_went true l o e n = cc
none_went false l o e n = refl

-- a letter or none
pub named_or : {P : Type 0} (o : Option Letter) → ((l : Letter) → o ≡ Some l → P) → (o ≡ None → P) → P
named_or (Some l) h k = h l refl
named_or None h k = k refl

-- what holds of each letter that is answered
pub of_named : (P : Letter → Type 0) (o : Option Letter) → ((l : Letter) → o ≡ Some l → P l) → IfSome o P
of_named P (Some l) h = h l refl
of_named P None h = tt

-- ---- answers of which an error is left out

of_ok : {A B : Type 0} (r : Result A B) (P : A → Type 0) → ((a : A) → r ≡ Ok a → P a) → IfSome (result_ok r) P
of_ok (Ok a) P h = h a refl
of_ok (Err b) P h = tt

not_ok : {A B : Type 0} (r : Result A B) → result_ok r ≡ None → is_ok r ≡ false
not_ok (Ok a) e = cc
not_ok (Err b) e = refl

module _ {A B : Type 0} (r : Result A B) (o : Option A) (is : o ≡ result_ok r) where
  pub ok_so : (P : A → Type 0) → ((a : A) → r ≡ Ok a → P a) → IfSome o P
  ok_so P h = subst (λ (z : Option A). IfSome z P) (sym is) (of_ok r P h)

  pub none_ok : o ≡ None → is_ok r ≡ false
  none_ok n = not_ok r (sym is ∙ n)

-- what holds of an answer
pub ok_is : {A B : Type 0} (P : A → Type 0) (r : Result A B) (a : A) → r ≡ Ok a → IfOk r P → P a
ok_is {A = A} {B = B} P r a e x = subst (λ (z : Result A B). IfOk z P) e x

pub ok_map : {A B : Type 0} (P Q : A → Type 0) (r : Result A B) → ((a : A) → P a → Q a) → IfOk r P → IfOk r Q
ok_map P Q (Ok a) h x = h a x
ok_map P Q (Err b) h x = tt

pub on_err : {A B P : Type 0} (r : Result A B) → is_ok r ≡ false → OnErr r P → P
on_err (Ok a) e x = cc
on_err (Err b) e x = x

pub some_map : {A : Type 0} (P Q : A → Type 0) (o : Option A) → ((a : A) → P a → Q a) → IfSome o P → IfSome o Q
some_map P Q (Some a) h x = h a x
some_map P Q None h x = tt

pub each_some : {A : Type 0} (o : Option A) (P : A → Type 0) → ((a : A) → P a) → IfSome o P
each_some (Some a) P h = h a
each_some None P h = tt
