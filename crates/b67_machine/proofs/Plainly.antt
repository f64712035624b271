-- What plain operators of a process leave as it is.
use Rattle.std.proofs.Common.{◌≡◌, refl, ap, ◌∙◌, ℕ, zero, suc, ◌-◌, ◌<◌, ◌≤◌, true, List, length, get_or, Option, Some, None, IsSome, arith}
use Rattle.std.proofs.lemmas.Option.{get_or_from_slice_get, slice_get_read}
use Rattle.b67_list.specs.Numbered.{numbered}
use Rattle.b67_control.specs.declared.Registers.{Registers}
use Rattle.b67_segment.specs.declared.code.Code.{Code}
use Rattle.b67_table.specs.declared.ProcessState.{ProcessState}
use Rattle.b67_table.specs.declared.ProcessState.TheVariants as states
use Rattle.b67_table.specs.Image.{Image, is_live}
use Rattle.b67_table.specs.Outcome.{gives}
use Rattle.b67_table.specs.Runs.{Plains, stay, go}
use Rattle.b67_table.specs.Table.{table, plain}
use Rattle.b67_table.specs.Valid.{IsValid}
use Rattle.b67_table.proofs.AllValid.{operators_keep_valid}
use Rattle.b67_table.proofs.FirstValid.{valid_stands}
use Rattle.b67_table.proofs.Limit.{limit_comes_last}
use Rattle.b67_table.proofs.Lists.{numbered_from, numbered_within}
use Rattle.b67_table.proofs.Privacy.{private_is_private}
use Rattle.b67_action.proofs.Lent.{private_of_plain}
use Rattle.b67_action.proofs.Ready.{there}

some_of : {A : Type 0} (o : Option A) → IsSome o → (x : A) × (o ≡ Some x)
some_of None e = cc
some_of (Some x) e = (x, refl)

pub record Keeps (code : Code) (a b : Image) : Type 0 where
  pub valid : IsValid code b
  pub states : b.states ≡ a.states
  pub started : b.started ≡ a.started
  pub fault : b.fault ≡ a.fault

number_of : (xs : List ProcessState) (p : ℕ) (o : Option ProcessState) → numbered xs p ≡ o → is_live o ≡ true → (1 ≤ p) × (p ≤ length xs)
number_of xs p None e l = cc
number_of xs p (Some x) e l = (numbered_from xs p x e, numbered_within xs p x e)

-- the registers of a process that lives
pub live_there : (code : Code) (img : Image) (p : ℕ) → IsValid code img → is_live (numbered img.states p) ≡ true → (r : Registers) × (numbered img.regs p ≡ Some r)
live_there code img p v live =
    let n = number_of img.states p (numbered img.states p) refl live in
    some_of (numbered img.regs p) (there img.regs p n.0 (omega (arith, n.1, v.states, v.registers)))

one_keeps : (code : Code) (p : ℕ) (a b : Image) → IsValid code a → is_live (numbered a.states p) ≡ true → plain code a p ≡ true → table code a p ≡ gives b → Keeps code a b
one_keeps code p a b v live e t =
    let here = live_there code a p v live in
    let next = private_of_plain code a p e in
    let same = private_is_private.leaves code p here.0 a b (valid_stands code a p here.0 v live here.1) next ((limit_comes_last.new code a b p).0 t).0 in
    record { valid = operators_keep_valid.private code a b p v live next t; states = same.states; started = same.started; fault = same.fault }

pub plains_keep : (code : Code) (p : ℕ) (a b : Image) (n : ℕ) → IsValid code a → is_live (numbered a.states p) ≡ true → Plains code p a n b → Keeps code a b
plains_keep code p a b n v live stay = record { valid = v; states = refl; started = refl; fault = refl }
plains_keep code p a b n v live (go {b = c} e t rest) =
    let one = one_keeps code p a c v live e t in
    let more = plains_keep code p c b _ one.valid (ap (λ (ss : List ProcessState). is_live (numbered ss p)) one.states ∙ live) rest in
    record { valid = more.valid; states = more.states ∙ one.states; started = more.started ∙ one.started; fault = more.fault ∙ one.fault }

-- the registers at a process's place are the process's
pub own_is : (all : List Registers) (p : ℕ) (r q : Registers) → numbered all p ≡ Some r → q ≡ get_or all (p - 1) q → q ≡ r
own_is all zero r q e f = cc
own_is all (suc k) r q e f =
    let k_is : suc k - 1 ≡ k = omega arith in f ∙ ap (λ (n : ℕ). get_or all n q) k_is ∙ get_or_from_slice_get all k r q e

-- the item that was found at the place of a number
pub numbered_at : {X : Type 0} (xs : List X) (p : ℕ) (x : X) → 1 ≤ p → p - 1 < length xs → x ≡ get_or xs (p - 1) x → numbered xs p ≡ Some x
numbered_at xs zero x o h e = absurd (omega (arith, o))
numbered_at xs (suc k) x o h e =
    let k_is : suc k - 1 ≡ k = omega arith in slice_get_read xs (length xs) k x refl (omega (arith, h)) (e ∙ ap (λ (n : ℕ). get_or xs n x) k_is)
