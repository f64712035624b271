-- What two equations of one value say of each other.
use Rattle.std.proofs.Common.{◌≡◌, Some}
use Rattle.b67_num.specs.declared.FaultKind.{FaultKind}
use Rattle.b67_table.specs.Outcome.{Outcome, gives, faults}

pub some_same : {A : Type 0} {x y : A} → Some x ≡ Some y → x ≡ y
some_same e = cc

pub gives_same : {A : Type 0} {a b : A} {e : Outcome A} → e ≡ gives a → e ≡ gives b → a ≡ b
gives_same x y = cc

pub faults_same : {A : Type 0} {j k : FaultKind} {e : Outcome A} → e ≡ faults j → e ≡ faults k → j ≡ k
faults_same x y = cc

pub gives_faults : {A B : Type 0} {a : A} {kind : FaultKind} {e : Outcome A} → e ≡ gives a → e ≡ faults kind → B
gives_faults x y = cc
