use Rattle.std.proofs.lemmas.Result.{on_ok_weaker}
use Rattle.algol_tree.specs.Image.{expr}
use Rattle.b67_segment.specs.Building.{level_set}
use Rattle.b67_emitter.proofs.Appends.{same_level}
use Rattle.b67_emit_expr.specs.Passing.{reaching}
use Rattle.b67_emit_expr.proofs.Forms.{plain_as, plain_on}
use Rattle.b67_emit_expr.proofs.Givens.{known_named, seen_named, named_form}
use Rattle.b67_emit_expr.proofs.by_name.append_given.Goals as goal

pub given_of-loads-requires : goal.given_of-loads-requires
given_of-loads-requires c = known_named c.args.names.now (level_set c.args.out.now) (expr c.args.e.now) c.requires.code

pub append_reference-requires-clause-seen : goal.append_reference-requires-clause-seen
append_reference-requires-clause-seen c =
    seen_named c.args.names.now (level_set c.args.out.now) (expr c.args.e.now) c.requires.code c.given_of-loads.result c.requires.near c.given_of-loads.ensures

pub returns-clause-code : goal.returns-clause-code
returns-clause-code c =
    let s = c.args.names.now in
    let a = c.args.out.now in
    let b = c.append_reference.new.out in
    let d = c.append_plain.new.out in
    on_ok_weaker c.append_plain.result
    (λ h. named_form s (level_set a) (expr c.args.e.now) c.given_of-loads.result c.given_of-loads.ensures a b d c.in_ok-append_reference.ensures.code
    (plain_on s (level_set b) (level_set a) b d (reaching c.given_of-loads.result.loads) (same_level a b c.in_ok-append_reference.ensures.level)
    (plain_as s (level_set b) b d c.reaching.result (reaching c.given_of-loads.result.loads) c.reaching.ensures h)))
    c.append_plain.ensures.code
