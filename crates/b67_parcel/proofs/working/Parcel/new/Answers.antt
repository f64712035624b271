use Rattle.std.proofs.Common.{length, ap, ◌∙◌, arith, refl}
use Rattle.std.proofs.lemmas.List.{length-replicate}
use Rattle.b67_deeds.specs.declared.Letter.{Letter}
use Rattle.b67_deeds.specs.declared.Letter.TheVariants as letters
use Rattle.b67_limits.specs.declared.TheConstants.{MOST_LETTERS}
use Rattle.b67_parcel.proofs.Stretching.{begun, no_tables}
use Rattle.b67_parcel.proofs.working.Parcel.new.Goals as goal

pub invariant_of-result : goal.invariant_of-result
invariant_of-result g c = (
  begun g.N.Named.code c.in_ok-start.start c.in_ok-end.end c.no_operators.result _ (c.first_image_is_valid.ensures g.N.Named.code c.requires) c.in_ok-start.ensures
      c.in_ok-end.ensures c.no_operators.ensures refl,
  no_tables g.N.Named.code c.new.result.items c.new.ensures.items,
  ap length (c.in_ok-letters.ensures.items_if_clones_equal (λ y h. h)) ∙ length-replicate {A = Letter} MOST_LETTERS letters.Read,
  omega arith,
)
