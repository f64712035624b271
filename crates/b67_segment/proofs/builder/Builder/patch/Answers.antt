use Rattle.std.proofs.Common.{rules, ◌-◌, ◌^◌, ◌<◌, vec_len, vec_capacity, arith, ap}
use Rattle.b67_segment.specs.Building.{IsBranchAt, Builds, operators_of}
use Rattle.b67_segment.specs.Operators.{aimed_from}
use Rattle.b67_segment.proofs.Parsing.{operators_of_built}
use Rattle.b67_segment.proofs.Builds.{IsBuilt_from}
use Rattle.b67_segment.proofs.Aiming.{Builds_aimed, branch_within}
use Rattle.b67_segment.proofs.builder.Builder.patch.Goals as goal
use Rattle.b67_segment.proofs.builder.Builder.patch.Goals.{After-aim}

pub aim-requires : goal.aim-requires
aim-requires c =
    let fields = c.self.inside in
    let here : IsBranchAt (operators_of fields.syllables.items fields.marks.items) c.args.branch = rw (← c.self.view_is) at c.requires in
    omega (arith, c.from.ensures, branch_within c.args.branch here c.self.invariant.builds)

-- what is built afterwards
aimed_builds : (c : After-aim) → Builds (aimed_from 0 c.args.branch c.args.target (operators_of c.self.inside.syllables.items c.self.inside.marks.items))
    c.aim.new.code.items c.self.inside.marks.items
aimed_builds c =
    let fields = c.self.inside in
    let here : IsBranchAt (operators_of fields.syllables.items fields.marks.items) c.args.branch = rw (← c.self.view_is) at c.requires in
    let fits : c.args.target < 2 ^ 16 = search rules in
    rw (c.aim.ensures, c.from.ensures) (Builds_aimed c.args.branch c.args.target fits here c.self.invariant.builds)

pub invariant_of-self : goal.invariant_of-self
invariant_of-self c =
    let fields = c.self.inside in
    IsBuilt_from fields.level (vec_capacity fields.marks - vec_len fields.marks) (aimed_builds c) c.self.invariant.known c.self.invariant.marking

pub returns : goal.returns
returns c =
    let fields = c.self.inside in
    rw (← c.self.view_is) (ap (λ qs. record { operators = qs; level = fields.level }) (operators_of_built (aimed_builds c)))
