use Rattle.std.proofs.Common.{◌≡◌, ◌∙◌, Some, ap, arith}
use Rattle.std.specs.Prelude.{if◌then◌else◌, slice_get}
use Rattle.std.specs.Vec.{vec_len}
use Rattle.std.proofs.lemmas.Option.{slice_get_read}
use Rattle.algol_tree.specs.Blocks.{same_spot}
use Rattle.b67_list.proofs.Answered.{on_ok}
use Rattle.algol_frames.proofs.ByLine.{line_changed}
use Rattle.algol_frames.proofs.by_line.put_at.Goals as goal

pub returns : goal.returns
returns c =
    let there : slice_get c.reach.new.lines.items c.args.spot.line ≡ Some c.index_mut.result.now =
    slice_get_read c.reach.new.lines.items (vec_len c.reach.new.lines) c.args.spot.line c.index_mut.result.now (omega (arith, c.reach.new.lines.ok)) (omega (arith, c.in_ok-reach.ensures.line)) c.index_mut.ensures.value in
    on_ok c.put_in.result (λ h q.
    line_changed c.reach.new.lines.items c.index_mut.result.now c.put_in.new.line c.args.spot q c.args.number there (h q.column)
    ∙ ap (λ x. if same_spot c.args.spot q then c.args.number else x) (c.in_ok-reach.ensures.same q)) c.put_in.ensures
