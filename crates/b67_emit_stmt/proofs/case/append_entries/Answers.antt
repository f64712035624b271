use Rattle.std.proofs.Common.{◌≡◌, ◌+◌, ◌∙◌, length, refl, arith}
use Rattle.b67_ops.specs.declared.Operator.TheVariants as ops
use Rattle.b67_ops.specs.declared.BranchKind.TheVariants.{Brun}
use Rattle.b67_ops.specs.Spelling.{spelling}
use Rattle.b67_segment.specs.Operators.{size}
use Rattle.b67_segment.specs.Building.{level_set}
use Rattle.b67_segment.proofs.Cited.{set_after}
use Rattle.b67_emitter.proofs.Appends.{same_level}
use Rattle.b67_emit_stmt.specs.Cases.{EntriesAt}
use Rattle.b67_emit_stmt.proofs.Parts.{emitted_none}
use Rattle.b67_emit_stmt.proofs.Tables.{entries_next, entries_whole}
use Rattle.b67_emit_stmt.proofs.case.append_entries.Goals as goal

pub entries-init : goal.entries-init
entries-init c =
    let a = c.args.out.now in
    record {
      within = omega arith;
      level = refl;
      wide = omega arith;
      code = emitted_none a (λ qs. EntriesAt qs (level_set a) 0 (size a.operators) (size a.operators)) (λ qs. refl);
    }

pub append_operator-requires-clause-set : goal.append_operator-requires-clause-set
append_operator-requires-clause-set c = set_after c.args.out.now c.entries.out c.entries.invariant.level c.requires.set

pub append_operator-requires-clause-room : goal.append_operator-requires-clause-room
append_operator-requires-clause-room c =
    let b = c.entries.out in
    let three : length (spelling (size b.operators) (level_set b) (ops.Branch Brun 0)) ≡ 3 = refl in
    omega (arith, three, c.entries-test.true, c.entries.invariant.wide, c.requires.room)

pub entries-preserved : goal.entries-preserved
entries-preserved c =
    let a = c.args.out.now in
    let b = c.entries.out in
    let d = c.append_operator.new.out in
    let three : length (spelling (size b.operators) (level_set b) (ops.Branch Brun 0)) ≡ 3 = refl in
    let wide : size d.operators ≡ size b.operators + 3 = omega (arith, three, c.in_ok-append_operator.ensures.size) in
    record {
      within = omega (arith, c.entries-test.true);
      level = c.in_ok-append_operator.ensures.level ∙ c.entries.invariant.level;
      wide = omega (arith, wide, c.entries.invariant.wide);
      code = entries_next (level_set a) c.entries.counter a b d (same_level a b c.entries.invariant.level) c.entries.invariant.code c.in_ok-append_operator.ensures.code wide;
    }

pub returns-clause-code : goal.returns-clause-code
returns-clause-code c =
    let all : c.entries.counter ≡ c.args.many = omega (arith, c.entries-test.false, c.entries.invariant.within) in
    entries_whole (level_set c.args.out.now) c.entries.counter c.args.many c.args.out.now c.entries.out all c.entries.invariant.code

pub returns-clause-size : goal.returns-clause-size
returns-clause-size c = omega (arith, c.entries-test.false, c.entries.invariant.within, c.entries.invariant.wide)
