-- What the text of a block gives tells the block's result.
use Rattle.std.proofs.Common.{◌≡◌, Option, Some, None, ap}
use Rattle.b67_rows.proofs.Prelude.{Kind}
use Rattle.b67_templates.specs.Contexts.{nothing, value, element, yields_of}

pub result_given : (o : Option Kind) (kind : Kind) → yields_of o ≡ value kind → o ≡ Some kind
result_given (Some k) kind e = (let same : k ≡ kind = cc in ap Some same)
result_given None kind e = absurd (let clash : nothing ≡ value kind = e in cc)

-- what gives nothing gives no value
pub no_value : {X : Type 0} (kind : Kind) → nothing ≡ value kind → X
no_value kind e = absurd (let clash : nothing ≡ value kind = e in cc)

-- a block gives no place
pub no_element : {X : Type 0} (o : Option Kind) (kind : Kind) → yields_of o ≡ element kind → X
no_element None kind e = absurd (let clash : nothing ≡ element kind = e in cc)
no_element (Some own) kind e = absurd (let clash : value own ≡ element kind = e in cc)
