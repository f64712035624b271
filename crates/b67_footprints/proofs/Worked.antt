-- An example in which a name leads into the private part of another process.
use Rattle.std.proofs.Common.{inl, refl, arith}
use Rattle.b67_table.specs.Chains.{place}
use Rattle.b67_table.specs.Rows.{row}
use Rattle.b67_footprints.specs.Worked.{NamesMayLeadAbove}

pub names_may_lead_above : NamesMayLeadAbove
unfolding row
names_may_lead_above code = (place 1 2, inl (inl refl), (refl, omega arith))
