-- Which intrinsic has a number: each stands at its number in stack 0.
use Rattle.std.specs.Prelude.{ℕ, ◌-◌, nat_le, if◌then◌else◌, Option, None, slice_get}
use Rattle.b67_ops.specs.declared.intrinsic.Intrinsic.{Intrinsic}
use Rattle.b67_ops.specs.declared.intrinsic.TheConstants.{FIRST_INTRINSIC}
use Rattle.b67_ops.specs.Intrinsics.{intrinsics}

-- the intrinsic of a number, where there is one
abbrev pub intrinsic_numbered : ℕ → Option Intrinsic
intrinsic_numbered n = if nat_le FIRST_INTRINSIC n then slice_get intrinsics (n - FIRST_INTRINSIC) else None
