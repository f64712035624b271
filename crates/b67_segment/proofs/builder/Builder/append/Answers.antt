use Rattle.std.proofs.Common.{◌*◌, rules, ◌+◌, ◌-◌, ◌≤◌, Some, length, vec_len, vec_capacity}
use Rattle.b67_segment.specs.declared.TheConstants.{MOST_SEGMENT_WORDS}
use Rattle.b67_ops.specs.Spelling.{spelling, Fits}
use Rattle.b67_segment.specs.Building.{Built, IsBuilt, operators_of}
use Rattle.b67_segment.proofs.Builds.{append_keeps, append_adds, appended_seen}
use Rattle.b67_segment.proofs.builder.Builder.append.Goals as goal

pub invariant_of-self : goal.invariant_of-self
invariant_of-self c =
    let fields = c.self.inside in
    let bytes = fields.syllables.items in
    let ms = fields.marks.items in
    let room = vec_capacity fields.marks - vec_len fields.marks in
    let level = c.unwrap.result in
    let new = c.append_to.new in
    let built : IsBuilt bytes ms (Some level) room = rw c.unwrap.ensures at c.self.invariant in
    let fits : Fits level c.args.op.now = search rules in
    let short : length bytes + length (spelling (length bytes) level c.args.op.now) ≤ 6 * MOST_SEGMENT_WORDS = search rules in
    rw c.unwrap.ensures
    (append_keeps bytes ms room level c.args.op.now built fits short new.syllables.items new.marks.items (vec_capacity new.marks - vec_len new.marks)
    c.append_to.result c.append_to.ensures.ok c.append_to.ensures.marks c.append_to.ensures.err)

pub returns-clause-ok : goal.returns-clause-ok
returns-clause-ok c =
    let fields = c.self.inside in
    let bytes = fields.syllables.items in
    let ms = fields.marks.items in
    let room = vec_capacity fields.marks - vec_len fields.marks in
    let level = c.unwrap.result in
    let new = c.append_to.new in
    let built : IsBuilt bytes ms (Some level) room = rw c.unwrap.ensures at c.self.invariant in
    let fits : Fits level c.args.op.now = search rules in
    let short : length bytes + length (spelling (length bytes) level c.args.op.now) ≤ 6 * MOST_SEGMENT_WORDS = search rules in
    let added = append_adds bytes ms room level c.args.op.now built fits short new.syllables.items new.marks.items
    c.append_to.result c.append_to.ensures.ok c.append_to.ensures.marks in
    let before : Built = record { operators = operators_of bytes ms; level = Some level } in
    rw (← c.self.view_is, c.unwrap.ensures)
    (appended_seen before (operators_of new.syllables.items new.marks.items) c.args.op.now c.append_to.result added)
