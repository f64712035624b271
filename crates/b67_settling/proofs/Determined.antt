-- What an entry leads to is determined.
use Rattle.std.specs.Prelude.{◌&&◌}
use Rattle.std.proofs.Common.{◌≡◌, refl, sym, ap, subst, ◌∙◌, ℕ, Bool, false, true≢false}
use Rattle.b67_segment.specs.declared.code.Code.{Code}
use Rattle.b67_table.specs.Image.{Image}
use Rattle.b67_table.specs.Outcome.{limit}
use Rattle.b67_table.specs.Table.{table, plain, private_next, is_new}
use Rattle.b67_table.specs.Runs.{Plains, stay, go, ProcessActs, acts, fails, RunEntry}
use Rattle.b67_table.proofs.Cited.{differ_fault, differ_limit, fault_limit, gives_same, kept_kind}
use Rattle.b67_list.proofs.Truths.{and_false}

-- where the table gives no new image the operator is not plain
pub no_plain : (code : Code) (img : Image) (p : ℕ) → is_new (table code img p) ≡ false → plain code img p ≡ false
unfolding plain
no_plain code img p e = ap (λ (x : Bool). private_next code img p && x) e ∙ and_false (private_next code img p)

at_limit : (code : Code) (img : Image) (p : ℕ) → table code img p ≡ limit → plain code img p ≡ false
at_limit code img p e = no_plain code img p (ap is_new e)

stuck : (code : Code) (p : ℕ) (a b : Image) → ProcessActs code p a b → plain code a p ≡ false
stuck code p a b (acts e t) = e
stuck code p a b (fails kind t) = no_plain code a p (ap is_new t)

plains_one : (code : Code) (p : ℕ) (a b c : Image) (n m : ℕ) → Plains code p a n b → plain code b p ≡ false → Plains code p a m c → plain code c p ≡ false → b ≡ c
plains_one code p a b c n m stay e stay f = refl
plains_one code p a b c n m stay e (go h t rest) f = absurd (true≢false (sym h ∙ e))
plains_one code p a b c n m (go h t rest) e stay f = absurd (true≢false (sym h ∙ f))
plains_one code p a b c n m (go {b = x} {n = k} h t rest) e (go {b = y} {n = l} i u more) f =
    plains_one code p x b c k l rest e (subst (λ (z : Image). Plains code p z l c) (gives_same y x (sym u ∙ t)) more) f

acts_one : (code : Code) (p : ℕ) (a b c : Image) → ProcessActs code p a b → ProcessActs code p a c → b ≡ c
acts_one code p a b c (acts e t) (acts f u) = gives_same b c (sym t ∙ u)
acts_one code p a b c (acts e t) (fails kind u) = differ_fault b kind _ (sym t ∙ u)
acts_one code p a b c (fails kind t) (acts f u) = differ_fault c kind _ (sym u ∙ t)
acts_one code p a b c (fails k t) (fails l u) = kept_kind a p (table code a p) k l t u

pub entry_one : (code : Code) (p : ℕ) (a b c : Image) (n m : ℕ) → RunEntry code p a n b → RunEntry code p a m c → b ≡ c
entry_one code p a b c n m x y =
    let same = plains_one code p a x.quiet y.quiet n m x.plains (stuck code p x.quiet b x.action) y.plains (stuck code p y.quiet c y.action) in
    acts_one code p x.quiet b c x.action (subst (λ (z : Image). ProcessActs code p z c) (sym same) y.action)

acts_not_limit : (code : Code) (p : ℕ) (a b : Image) (A : Type 0) → ProcessActs code p a b → table code a p ≡ limit → A
acts_not_limit code p a b A (acts e t) l = differ_limit b A (sym t ∙ l)
acts_not_limit code p a b A (fails kind t) l = fault_limit (table code a p) kind A t l

-- a process that comes to the limit has no entry
pub no_entry : (code : Code) (p : ℕ) (a quiet c : Image) (n m : ℕ) (A : Type 0) → Plains code p a n quiet → table code quiet p ≡ limit → RunEntry code p a m c → A
no_entry code p a quiet c n m A plains l x =
    let same = plains_one code p a quiet x.quiet n m plains (at_limit code quiet p l) x.plains (stuck code p x.quiet c x.action) in
    acts_not_limit code p x.quiet c A x.action (subst (λ (z : Image). table code z p ≡ limit) same l)
