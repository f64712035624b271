use Rattle.std.proofs.Common.{sym, ◌∙◌}
use Rattle.std.proofs.lemmas.Result.{on_ok_weaker}
use Rattle.b67_segment.specs.Building.{level_set}
use Rattle.b67_templates.specs.Fitting.{on_left}
use Rattle.b67_emitter.specs.Values.{meanings}
use Rattle.b67_emit_stmt.proofs.Names.{left_near, name_seen, place_read}
use Rattle.b67_emit_stmt.proofs.Stored.{own_place, resolved_place}
use Rattle.b67_emit_stmt.proofs.draft.StmtEmitter.reference.Goals as goal

pub append_reference-requires-clause-seen : goal.append_reference-requires-clause-seen
append_reference-requires-clause-seen g c =
    let s = c.args.self.now.known.now.names.now in
    let fits = c.requires.fits in
    name_seen fits.0.scopes (on_left (meanings s)) (level_set c.args.out.now) fits.1 c.args.v.now c.left_of.result
    (place_read fits.0.scopes (meanings s) (level_set c.args.out.now) fits.1 c.args.v.now fits.2) c.left_of.ensures
    (left_near s c.args.v.now c.left_of.result c.requires.near c.left_of.ensures)

pub returns-then-is_name-clause-code : goal.returns-then-is_name-clause-code
returns-then-is_name-clause-code g c =
    on_ok_weaker c.append_plain.result
    (λ h sc k later. resolved_place c.args.self.now.known.now c.args.v.now c.left_of.result c.left_of.ensures c.args.out.now c.append_reference.new.out
    c.in_ok-append_reference.ensures.code sc k later (sym c.is_name.ensures ∙ c.if-is_name.true) c.append_plain.new.out c.in_ok-append_reference.ensures.level h)
    c.append_plain.ensures.code

pub returns-else-is_name-clause-code : goal.returns-else-is_name-clause-code
returns-else-is_name-clause-code g c sc k later =
    own_place c.args.self.now.known.now c.args.v.now c.left_of.result c.left_of.ensures c.args.out.now c.append_reference.new.out c.in_ok-append_reference.ensures.code
    sc k later (sym c.is_name.ensures ∙ c.if-is_name.false)
