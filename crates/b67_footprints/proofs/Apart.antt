-- Where references lead below floors, what is private to others stays so.
use Rattle.std.proofs.Common.{◌≡◌, ◌⊎◌, inl, inr, refl, sym, ap, ◌∙◌, ℕ, ◌+◌, arith}
use Rattle.b67_word.specs.declared.Place.{Place}
use Rattle.b67_control.specs.declared.Registers.{Registers}
use Rattle.b67_ops.specs.declared.Operator.{Operator}
use Rattle.b67_segment.specs.declared.code.Code.{Code}
use Rattle.b67_table.specs.declared.Class.TheVariants.{Action}
use Rattle.b67_table.specs.Image.{Image, private_of}
use Rattle.b67_table.specs.Program.{Program}
use Rattle.b67_table.specs.Rows.{TableRow, private_part, action, row}
use Rattle.b67_table.specs.Sound.{Lives, OperatorTouches}
use Rattle.b67_table.specs.Table.{class_at, class_by}
use Rattle.b67_table.specs.Touches.{RowTouches}
use Rattle.b67_table.proofs.Beside.{Touch, raw_apart}
use Rattle.b67_table.proofs.Lists.{numbered_within}
use Rattle.b67_footprints.specs.Reaching.{OperatorReaches}
use Rattle.b67_footprints.specs.Laws.{IsOfNoOther, HaveOwnStacks, ValidHaveOwnStacks, ReachesNoOther, LeadsBelow, OthersStayPrivate, PrivatePartsStay}
use Rattle.b67_footprints.proofs.Touching.{operators_touch_what_they_reach}
use Rattle.b67_footprints.proofs.Within.{AreReached, reached_are}

pub valid_images_have_own_stacks : ValidHaveOwnStacks
valid_images_have_own_stacks code img valid p r lives =
    ((valid.processes p r lives.live lives.is).stack, omega (arith, numbered_within img.regs p r lives.is, valid.registers))

acts_by : (op : Operator) (at : ℕ) (program : Code → Registers → ℕ → Program) → row op at ≡ action program → class_at op at ≡ Action
unfolding class_at
acts_by op at program e = ap class_by e

module _ (code : Code) (img : Image) (p : ℕ) (own : HaveOwnStacks img) where
  -- a word of the own stack
  own_of_no_other : (r : Registers) → Lives img p r → (x : Place) → x.stack ≡ r.stack → IsOfNoOther img p x
  own_of_no_other r lives x e q o there private = sym (own p r lives).0 ∙ sym e ∙ private.0 ∙ (own q o there).0

  -- a word of a process that is not there yet
  new_of_no_other : (x : Place) → x.stack ≡ img.started + 1 → IsOfNoOther img p x
  new_of_no_other x e q o there private =
      let number : x.stack ≡ q = private.0 ∙ (own q o there).0 in
      absurd (omega (arith, number, e, (own q o there).1))

  others_private : LeadsBelow code img p → (x : Place) → OperatorTouches code img p x → IsOfNoOther img p x
  others_private below x t = by_row (row t.op t.registers.place) refl t.touches
    where
      of_action : ReachesNoOther img p t.op t.registers → IsOfNoOther img p x
      of_action reaches = by_reach (operators_touch_what_they_reach code img p x t)
        where
          are : AreReached img t.op t.registers (IsOfNoOther img p)
          are = record { own = own_of_no_other t.registers t.lives; cell = reaches.cells; mark = reaches.marks }

          by_reach : OperatorReaches img t.op t.registers x ⊎ (x.stack ≡ img.started + 1) → IsOfNoOther img p x
          by_reach (inl k) = reached_are img t.op t.registers (IsOfNoOther img p) are k
          by_reach (inr e) = new_of_no_other x e

      by_row : (w : TableRow) → row t.op t.registers.place ≡ w → RowTouches w code img p t.registers t.next x → IsOfNoOther img p x
      by_row (private_part f) e touches = own_of_no_other t.registers t.lives x touches.0
      by_row (action program) e touches =
          of_action (below t.registers t.op t.next t.lives t.stands (acts_by t.op t.registers.place program e))

pub others_stay_private : OthersStayPrivate
others_stay_private code img p x own below t = others_private code img p own below x t

pub private_parts_stay : PrivatePartsStay
unfolding Touch
private_parts_stay code img new p q o own below other stands given =
    let after =
    (raw_apart code p q o (private_of img o) img other stands (refl, refl, refl, refl, refl, refl)
    (λ x t private. other (others_stay_private code img p x own below t q o (record { live = stands.live; is = stands.has }) private))).after new given in
    (after.stands, after.same)
