use Rattle.std.proofs.Common.{◌≡◌, ◌/◌, length, ap, arith, rules}
use Rattle.std.specs.List.{insert}
use Rattle.b67_flat.specs.Widest.{AreWidest}
use Rattle.b67_flat.proofs.Bounds.{kept_put}
use Rattle.b67_flat.proofs.Fits.{count_le_end}
use Rattle.b67_flat.proofs.spans.Spans.insert.Goals as goal

pub renew-requires-clause-kept : goal.renew-requires-clause-kept
renew-requires-clause-kept c = λ k d h.
    let i : c.insert.new.self.items ≡ insert c.self.inside.spans.items c.args.at c.args.span = search rules in
    let a : AreWidest c.self.inside.spans.items c.cover.new.self = λ j. omega (arith, c.self.invariant.2 j, c.cover.ensures.same (j / 64)) in
    rw i (kept_put c.self.inside.spans.items c.cover.new.self c.args.at k c.args.span a (omega (arith, c.requires.there, ap length c.self.view_is)) (rw c.self.view_is c.requires.ascending) d h)

pub cover-requires-clause-within : goal.cover-requires-clause-within
cover-requires-clause-within c =
    omega (arith, count_le_end 0 c.self.inside.spans.items c.self.invariant.0, c.self.invariant.1, c.reserve.ensures.len, c.len.ensures, c.self.inside.spans.ok)
