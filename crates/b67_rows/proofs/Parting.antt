-- The world in which an instance is left: all else of it is the same.
use Rattle.std.proofs.Common.{◌≡◌, ◌≢◌, ◌⊎◌, inl, inr, refl, sym, ap, ◌∙◌, ℕ, zero, suc, Option, Some, true}
use Rattle.b67_list.proofs.Numbered.{numbered_set}
use Rattle.b67_rows.proofs.Prelude.{numbered, Process, World, instance_at, ancestor}
use Rattle.algol_meaning.specs.World.{Instance, or_no_instance, with_instance, with_process}
use Rattle.b67_rows.proofs.Numbers.{same_or_not, numbered_other}

-- what becomes of an instance when one is left
pub record IsSameBut (x y : Instance) : Type 0 where
  pub block : x.block ≡ y.block
  pub parent : x.parent ≡ y.parent
  pub cells : x.cells ≡ y.cells

module _ (w : World) (p : ℕ) (q' : Process) (i : ℕ) (x : Instance) (is : numbered w.instances i ≡ Some x) where
  abbrev pub parted : World
  parted = with_process (with_instance w i (record (instance_at w i) { left = true })) p q'

  here_now : numbered parted.instances i ≡ Some (record (instance_at w i) { left = true })
  here_now = numbered_set w.instances i x (record (instance_at w i) { left = true }) is

  pub same_but : (j : ℕ) → IsSameBut (instance_at parted j) (instance_at w j)
  same_but j = by_number (same_or_not i j)
    where
      by_number : (i ≡ j) ⊎ (i ≢ j) → IsSameBut (instance_at parted j) (instance_at w j)
      by_number (inl same) =
          record {
            block = ap (λ (n : ℕ). (instance_at parted n).block) (sym same) ∙ ap (λ (o : Option Instance). (or_no_instance o).block) here_now ∙ ap (λ (n : ℕ). (instance_at w n).block) same;
            parent = ap (λ (n : ℕ). (instance_at parted n).parent) (sym same) ∙ ap (λ (o : Option Instance). (or_no_instance o).parent) here_now ∙ ap (λ (n : ℕ). (instance_at w n).parent) same;
            cells = ap (λ (n : ℕ). (instance_at parted n).cells) (sym same) ∙ ap (λ (o : Option Instance). (or_no_instance o).cells) here_now ∙ ap (λ (n : ℕ). (instance_at w n).cells) same;
          }
      by_number (inr apart) =
          let o : numbered parted.instances j ≡ numbered w.instances j = numbered_other w.instances i j (record (instance_at w i) { left = true }) apart in
          record {
            block = ap (λ (z : Option Instance). (or_no_instance z).block) o;
            parent = ap (λ (z : Option Instance). (or_no_instance z).parent) o;
            cells = ap (λ (z : Option Instance). (or_no_instance z).cells) o;
          }

  pub same_ancestors : (up j : ℕ) → ancestor parted up j ≡ ancestor w up j
  same_ancestors zero j = refl
  same_ancestors (suc up) j = ap (λ (n : ℕ). ancestor parted up n) (same_but j).parent ∙ same_ancestors up ((instance_at w j).parent)

  pub others_stay : (j : ℕ) → i ≢ j → numbered parted.instances j ≡ numbered w.instances j
  others_stay j apart = numbered_other w.instances i j (record (instance_at w i) { left = true }) apart
