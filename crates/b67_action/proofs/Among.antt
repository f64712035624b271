-- What one process performs, among others.
use Rattle.std.proofs.Common.{◌≡◌, sym, ap, subst, ◌∙◌, ℕ, ◌-◌, List, get_or, set, Option, Some, Result, Ok, Err, OnErr}
use Rattle.b67_list.specs.Numbered.{numbered, set_numbered}
use Rattle.b67_list.proofs.Numbered.{numbered_same}
use Rattle.b67_control.specs.declared.Registers.{Registers}
use Rattle.b67_ops.specs.declared.Operator.{Operator}
use Rattle.b67_store.specs.Store.{Stacks, Rows}
use Rattle.b67_table.specs.Image.{Image}
use Rattle.b67_table.specs.Program.{Program}
use Rattle.b67_operators.specs.Leaves.{IsLinkedIn}
use Rattle.b67_operators.proofs.Leaves.{here, set_here, in_process}
use Rattle.b67_reach.specs.declared.Stop.{Stop}
use Rattle.b67_reach.specs.Answers.{outcome_after, ProgramPerforms, ProgramActs}
use Rattle.b67_reach.specs.Images.{Own, own_of_image, with_own}
use Rattle.b67_reach.proofs.Looking.{acts_by}
use Rattle.b67_action.specs.Among.{with_all, ActsIn, EffectComes}
use Rattle.b67_action.specs.Own.{own_effect, DoesOwn, DoesOwnIn}

module _ (st : Stacks) (rows : Rows) (all : List Registers) (p : ℕ) (r : Registers) (linked : IsLinkedIn st rows (numbered all p)) (index : r ≡ get_or all (p - 1) r) where
  pub has : numbered all p ≡ Some r
  has = (here st rows all p r linked index).0

  set_is : (q : Registers) → set all (p - 1) q ≡ set_numbered all p q
  set_is q = set_here all p q (here st rows all p r linked index).1

  module _ (img : Image) (s : img.stacks ≡ st) (t : img.rows ≡ rows) (u : img.regs ≡ all) where
    has_in : numbered img.regs p ≡ Some r
    has_in = ap (λ (rs : List Registers). numbered rs p) u ∙ has

    same_in : with_own (own_of_image st rows r) p img ≡ img
    same_in =
        ap (λ (z : Stacks). with_own (own_of_image z rows r) p img) (sym s) ∙ ap (λ (z : Rows). with_own (own_of_image img.stacks z r) p img) (sym t)
        ∙ ap (λ (rs : List Registers). record img { regs = rs }) (numbered_same img.regs p r has_in)

    new_in : (stacks : Stacks) (more : Rows) (q : Registers) → with_own (own_of_image stacks more q) p img ≡ with_all stacks more (set all (p - 1) q) img
    new_in stacks more q =
        ap (λ (rs : List Registers). with_all stacks more (set_numbered rs p q) img) u ∙ ap (λ (rs : List Registers). with_all stacks more rs img) (sym (set_is q))

  pub acts_in : {A : Type 0} (program : Registers → ℕ → Program) (next : ℕ) (stacks : Stacks) (more : Rows) (q : Registers) (res : Result A Stop)
      → ProgramPerforms (program r next) (own_of_image st rows r) (own_of_image stacks more q) res → ActsIn program next st rows all p stacks more (set all (p - 1) q) res
  acts_in program next stacks more q res x = λ img s t u.
      in_process p program (numbered all p) r next img (with_all stacks more (set all (p - 1) q) img) res has
      (subst (λ (z : Image). ProgramActs p (program r next) img z res) (new_in img s t u stacks more q)
      (acts_by p (program r next) (own_of_image st rows r) (own_of_image stacks more q) img res s t (has_in img s t u) x (same_in img s t u)))

  stays_in : {A : Type 0} (img : Image) (stacks : Stacks) (more : Rows) (q : Registers) (res : Result A Stop) → img.stacks ≡ st → img.rows ≡ rows → img.regs ≡ all
      → OnErr res (own_of_image stacks more q ≡ own_of_image st rows r) → OnErr res (with_all stacks more (set all (p - 1) q) img ≡ img)
  stays_in img stacks more q (Ok a) s t u e = tt
  stays_in img stacks more q (Err stop) s t u e = sym (new_in img s t u stacks more q) ∙ ap (λ (o : Own). with_own o p img) e ∙ same_in img s t u

  pub does_in : {A : Type 0} (op : Operator) (next : ℕ) (stacks : Stacks) (more : Rows) (q : Registers) (res : Result A Stop)
      → DoesOwn op next (own_of_image st rows r) (own_of_image stacks more q) res → DoesOwnIn op next st rows all p stacks more (set all (p - 1) q) res
  does_in op next stacks more q res x = λ img s t u.
      subst (λ (o : Option Registers). EffectComes p (own_effect op next p o img) img (with_all stacks more (set all (p - 1) q) img) res) (sym has)
      (record {
        outcome = x.outcome p img s t (has_in img s t u) ∙ ap (λ (z : Image). outcome_after z res) (new_in img s t u stacks more q);
        stays = stays_in img stacks more q res s t u x.stays;
      })
