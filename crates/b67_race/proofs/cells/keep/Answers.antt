use Rattle.std.proofs.Common.{rules, arith, ◌≡◌, ap, ◌∙◌, subst, ◌<◌, ◌≤◌, ◌==◌, true, false, [], ◌∷◌, ◌++◌, length, get_or}
use Rattle.b67_race.specs.Watching.{read_noted}
use Rattle.b67_race.specs.declared.cells.Past.{Past}
use Rattle.b67_race.proofs.Rivals.{others_more, noted_there, noted_last}
use Rattle.b67_race.proofs.cells.keep.Goals as goal

pub returns-then-index-now : goal.returns-then-index-now
returns-then-index-now c =
    let less : c.seeking.at < length c.seeking.reads.items = search rules in
    let is : c.index.result.now ≡ get_or c.seeking.reads.items c.seeking.at c.index.result.now = search rules in
    let same : (c.index.result.now.process == c.args.now.process) ≡ true = grind (arith, c.if-index-now.true) in
    noted_there c.args.now c.seeking.reads.items c.seeking.at c.index.result.now less (subst (λ (z : Past). (z.process == c.args.now.process) ≡ true) is same) c.seeking.invariant.1
    ∙ ap (λ v. read_noted c.args.now v.items) c.seeking.invariant.2

pub seeking-preserved : goal.seeking-preserved
seeking-preserved c =
    let less : c.seeking.at < length c.seeking.reads.items = search rules in
    let is : c.index.result.now ≡ get_or c.seeking.reads.items c.seeking.at c.index.result.now = search rules in
    let other : (c.index.result.now.process == c.args.now.process) ≡ false = grind (arith, c.if-index-now.false) in (
      omega (arith, less),
      others_more c.args.now c.seeking.reads.items c.seeking.at c.index.result.now less (subst (λ (z : Past). (z.process == c.args.now.process) ≡ false) is other) c.seeking.invariant.1,
      c.seeking.invariant.2,
    )

pub returns : goal.returns
returns c =
    let most : length c.seeking.reads.items ≤ c.seeking.at = search rules in
    let pushed : c.push.new.self.items ≡ c.seeking.reads.items ++ c.args.now ∷ [] = search rules in
    pushed ∙ noted_last c.args.now c.seeking.reads.items c.seeking.at most c.seeking.invariant.1 ∙ ap (λ v. read_noted c.args.now v.items) c.seeking.invariant.2
