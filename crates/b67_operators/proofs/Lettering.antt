-- Letters by what was found.
use Rattle.std.specs.Prelude.{IfOk}
use Rattle.std.proofs.Common.{◌≡◌, refl, sym, ap, subst, ◌∙◌, Option, Some, None, Result, Ok, Err}
use Rattle.b67_word.specs.Word.{Word}
use Rattle.b67_table.specs.declared.InterruptKind.{InterruptKind}
use Rattle.b67_table.specs.References.{Two}
use Rattle.b67_deeds.specs.declared.Letter.{Letter}
use Rattle.b67_letters.specs.Letters.{told_by}
use Rattle.b67_reach.specs.declared.Stop.{Stop}
use Rattle.b67_table.specs.Program.{Program}
use Rattle.b67_reach.specs.Images.{Own}
use Rattle.b67_reach.specs.Answers.{looked, both, ProgramPerforms}

module _ {A : Type 0} (k : A → Option Letter) where
  pub told_ok : (x : Result A InterruptKind) (a : A) → Ok a ≡ looked x → told_by k x ≡ k a
  told_ok (Ok b) a e = let same : b ≡ a = cc in ap k same
  told_ok (Err kind) a e = cc

  pub told_err : (x : Result A InterruptKind) (stop : Stop) → Err stop ≡ looked x → told_by k x ≡ None
  told_err (Ok b) stop e = cc
  told_err (Err kind) stop e = refl

  -- what is answered after it has the letter of what was found
  pub told_on : (x : Result A InterruptKind) (a : A) → Ok a ≡ looked x → (r : Result Letter Stop) → IfOk r (λ l. k a ≡ Some l) → IfOk r (λ l. told_by k x ≡ Some l)
  told_on x a e (Ok l) h = told_ok x a e ∙ h
  told_on x a e (Err stop) h = tt

abbrev pub two_of : Word × Word → Two
two_of p = record { x = p.0; y = p.1 }

module _ (k : Two → Option Letter) where
  pub told_two : (x : Result Two InterruptKind) (a b : Word) → Ok (a, b) ≡ looked (both x) → told_by k x ≡ k (two_of (a, b))
  told_two (Ok t) a b e =
      let same : (t.x, t.y) ≡ (a, b) = cc in
      ap (λ (p : Word × Word). k (two_of p)) same
  told_two (Err kind) a b e = cc

  pub told_two_err : (x : Result Two InterruptKind) (stop : Stop) → Err stop ≡ looked (both x) → told_by k x ≡ None
  told_two_err (Ok t) stop e = cc
  told_two_err (Err kind) stop e = refl

  pub told_two_on : (x : Result Two InterruptKind) (a b : Word) → Ok (a, b) ≡ looked (both x) → (r : Result Letter Stop) → IfOk r (λ l. k (two_of (a, b)) ≡ Some l)
      → IfOk r (λ l. told_by k x ≡ Some l)
  told_two_on x a b e (Ok l) h = told_two x a b e ∙ h
  told_two_on x a b e (Err stop) h = tt

-- an answer that has this letter, where the letter is known
pub lettered_as : (r : Result Letter Stop) (named : Letter) (o : Option Letter) → o ≡ Some named → IfOk r (λ l. l ≡ named) → IfOk r (λ l. o ≡ Some l)
lettered_as (Ok l) named o e h = e ∙ ap (λ (x : Letter). Some x) (sym h)
lettered_as (Err stop) named o e h = tt

-- ---- an answer that gets a letter

module _ {A B : Type 0} (program : Program) (old new : Own) where
  pub performs_ok : (x : Result A Stop) (a : A) (b : B) → x ≡ Ok a → ProgramPerforms program old new x → ProgramPerforms program old new (Ok b)
  performs_ok (Ok c) a b e p = record { outcome = p.outcome; stays = tt }
  performs_ok (Err stop) a b e p = cc

  pub performs_err : (x : Result A Stop) (stop : Stop) → x ≡ Err stop → ProgramPerforms program old new x → ProgramPerforms {A = B} program old new (Err stop)
  performs_err (Ok c) stop e p = cc
  performs_err (Err other) stop e p =
      let same : other ≡ stop = cc in
      subst (λ (s : Stop). ProgramPerforms {A = B} program old new (Err s)) same (record { outcome = p.outcome; stays = p.stays })
