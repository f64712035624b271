use Rattle.std.proofs.Common.{◌+◌, ◌≤◌, ◌∙◌, subst, length, sym}
use Rattle.algol_tree.specs.declared.TheConstants.{MOST_PROCEDURES}
use Rattle.algol_tree.specs.Image as plain
use Rattle.algol_tree.specs.Plain as tree
use Rattle.algol_tree.specs.Plain.{PBody}
use Rattle.algol_tree.specs.Scopes.{scopes_of}
use Rattle.algol_tree.proofs.Images.{body_is}
use Rattle.b67_ops.specs.declared.TheConstants.{OUTER_LEVEL}
use Rattle.b67_segment.specs.declared.code.Code.{Code}
use Rattle.b67_emit_text.specs.Programs.{AreDue, AreShort, Coded}
use Rattle.b67_emit_text.specs.Targets.{AreSmall}
use Rattle.b67_emit_text.specs.Texts.{HaveLevelsBody, StandOnce, texts}
use Rattle.b67_faithful.specs.Faithful.{IsShortSegment}
use Rattle.b67_compile.proofs.LabelsOnce.{labels_once}
use Rattle.b67_compile.proofs.Premises.{given, few, due, inner, near}
use Rattle.b67_compile.proofs.Shape.{parts_of, texts_leveled, texts_few, texts_small}
use Rattle.b67_compile.proofs.Standing.{listable_code, program_at, short_code}
use Rattle.b67_compile.proofs.compiler.code_of.Goals as goal

pub targets_of-requires-clause-levels : goal.targets_of-requires-clause-levels
targets_of-requires-clause-levels g c =
    let b = c.args.program.now.body in
    let r = c.requires in
    subst (λ (z : PBody). HaveLevelsBody z OUTER_LEVEL) (sym (body_is b)) (texts_leveled b.spot (plain.decls b.decls) (plain.stmts b.stmts) (parts_of b r.accepted r.order r.named))

pub targets_of-requires-clause-many : goal.targets_of-requires-clause-many
targets_of-requires-clause-many g c =
    let b = c.args.program.now.body in
    let r = c.requires in
    subst (λ (z : PBody). length (texts z) ≤ 1 + MOST_PROCEDURES) (sym (body_is b)) (texts_few b.spot (plain.decls b.decls) (plain.stmts b.stmts) (parts_of b r.accepted r.order r.named))

pub targets_of-requires-clause-small : goal.targets_of-requires-clause-small
targets_of-requires-clause-small g c =
    let b = c.args.program.now.body in
    let r = c.requires in
    subst (λ (z : PBody). AreSmall (texts z)) (sym (body_is b)) (texts_small b.spot (plain.decls b.decls) (plain.stmts b.stmts) (parts_of b r.accepted r.order r.named))

pub emit_program-requires-clause-once : goal.emit_program-requires-clause-once
emit_program-requires-clause-once g c =
    let b = c.args.program.now.body in
    let r = c.requires in
    subst (λ (z : PBody). StandOnce (texts z)) (sym (body_is b)) (labels_once b.spot (plain.decls b.decls) (plain.stmts b.stmts) (parts_of b r.accepted r.order r.named).order)

pub emit_program-requires-clause-near : goal.emit_program-requires-clause-near
emit_program-requires-clause-near g c =
    let b = c.args.program.now.body in
    let s = c.args.scopes.now in
    let n = c.new-names.result in
    let r = c.requires in
    near b.spot (plain.decls b.decls) (plain.stmts b.stmts) n
    (given b s c.in_ok-lows.lows n c.new-names.ensures.scopes c.new-names.ensures.lows r.resolved c.in_ok-lows.ensures r.accepted r.order r.whole r.texts r.named c.in_ok-labels.labels c.new-names.ensures.labels c.in_ok-labels.ensures)

pub emit_program-requires-clause-inner : goal.emit_program-requires-clause-inner
emit_program-requires-clause-inner g c =
    let b = c.args.program.now.body in
    let s = c.args.scopes.now in
    let n = c.new-names.result in
    let r = c.requires in
    inner b.spot (plain.decls b.decls) (plain.stmts b.stmts) n
    (given b s c.in_ok-lows.lows n c.new-names.ensures.scopes c.new-names.ensures.lows r.resolved c.in_ok-lows.ensures r.accepted r.order r.whole r.texts r.named c.in_ok-labels.labels c.new-names.ensures.labels c.in_ok-labels.ensures)

pub emit_program-requires-clause-few : goal.emit_program-requires-clause-few
emit_program-requires-clause-few g c =
    let b = c.args.program.now.body in
    let s = c.args.scopes.now in
    let n = c.new-names.result in
    let r = c.requires in
    subst (λ (z : PBody). length (texts z) ≤ 1 + MOST_PROCEDURES) (sym (body_is b))
    (few b.spot (plain.decls b.decls) (plain.stmts b.stmts) n
    (given b s c.in_ok-lows.lows n c.new-names.ensures.scopes c.new-names.ensures.lows r.resolved c.in_ok-lows.ensures r.accepted r.order r.whole r.texts r.named c.in_ok-labels.labels c.new-names.ensures.labels c.in_ok-labels.ensures))

pub emit_program-requires-clause-due : goal.emit_program-requires-clause-due
emit_program-requires-clause-due g c =
    let b = c.args.program.now.body in
    let s = c.args.scopes.now in
    let n = c.new-names.result in
    let r = c.requires in
    let ds = plain.decls b.decls in
    let ss = plain.stmts b.stmts in
    let sc = scopes_of (tree.program (tree.body b.spot ds ss)) in
    let has = given b s c.in_ok-lows.lows n c.new-names.ensures.scopes c.new-names.ensures.lows r.resolved c.in_ok-lows.ensures r.accepted r.order r.whole r.texts r.named c.in_ok-labels.labels c.new-names.ensures.labels c.in_ok-labels.ensures in
    (sc, subst (λ (z : PBody). AreDue sc n (texts z)) (sym (body_is b)) (due b.spot ds ss n has))

pub returns-clause-code : goal.returns-clause-code
returns-clause-code g c =
    let b = c.args.program.now.body in
    let s = c.args.scopes.now in
    let n = c.new-names.result in
    let r = c.requires in
    let ds = plain.decls b.decls in
    let ss = plain.stmts b.stmts in
    let has = given b s c.in_ok-lows.lows n c.new-names.ensures.scopes c.new-names.ensures.lows r.resolved c.in_ok-lows.ensures r.accepted r.order r.whole r.texts r.named c.in_ok-labels.labels c.new-names.ensures.labels c.in_ok-labels.ensures in
    let sc = scopes_of (tree.program (tree.body b.spot ds ss)) in
    let segments = c.in_ok-segments.segments.items in
    let formats = c.in_ok-segments.formats.items in
    let texts_due = subst (λ (z : PBody). AreDue sc n (texts z)) (sym (body_is b)) (due b.spot ds ss n has) in
    let coded = subst (λ (z : PBody). Coded sc formats segments (texts z)) (body_is b) (c.in_ok-segments.ensures.code sc texts_due) in
    rw (c.of.ensures, c.of-2.ensures, body_is b) (program_at b.spot ds ss n has segments formats coded)

pub returns-clause-formats : goal.returns-clause-formats
returns-clause-formats g c = c.of-2.ensures ∙ c.in_ok-segments.ensures.lines

pub returns-clause-short : goal.returns-clause-short
returns-clause-short g c =
    let b = c.args.program.now.body in
    let s = c.args.scopes.now in
    let n = c.new-names.result in
    let r = c.requires in
    let ds = plain.decls b.decls in
    let ss = plain.stmts b.stmts in
    let has = given b s c.in_ok-lows.lows n c.new-names.ensures.scopes c.new-names.ensures.lows r.resolved c.in_ok-lows.ensures r.accepted r.order r.whole r.texts r.named c.in_ok-labels.labels c.new-names.ensures.labels c.in_ok-labels.ensures in
    let sc = scopes_of (tree.program (tree.body b.spot ds ss)) in
    let segments = c.in_ok-segments.segments.items in
    let formats = c.in_ok-segments.formats.items in
    let texts_due = subst (λ (z : PBody). AreDue sc n (texts z)) (sym (body_is b)) (due b.spot ds ss n has) in
    let coded = subst (λ (z : PBody). Coded sc formats segments (texts z)) (body_is b) (c.in_ok-segments.ensures.code sc texts_due) in
    let short = subst (λ (z : PBody). AreShort segments (texts z)) (body_is b) c.in_ok-segments.ensures.short in
    let code : Code = record { segments = segments; formats = formats } in
    rw c.of.ensures (subst (λ (z : PBody). IsShortSegment (tree.program z) code) (sym (body_is b)) (short_code b.spot ds ss n has segments formats coded.many short))

pub returns-clause-listable : goal.returns-clause-listable
returns-clause-listable g c =
    let b = c.args.program.now.body in
    let s = c.args.scopes.now in
    let n = c.new-names.result in
    let r = c.requires in
    let ds = plain.decls b.decls in
    let ss = plain.stmts b.stmts in
    let has = given b s c.in_ok-lows.lows n c.new-names.ensures.scopes c.new-names.ensures.lows r.resolved c.in_ok-lows.ensures r.accepted r.order r.whole r.texts r.named c.in_ok-labels.labels c.new-names.ensures.labels c.in_ok-labels.ensures in
    let sc = scopes_of (tree.program (tree.body b.spot ds ss)) in
    let segments = c.in_ok-segments.segments.items in
    let formats = c.in_ok-segments.formats.items in
    let texts_due = subst (λ (z : PBody). AreDue sc n (texts z)) (sym (body_is b)) (due b.spot ds ss n has) in
    let coded = subst (λ (z : PBody). Coded sc formats segments (texts z)) (body_is b) (c.in_ok-segments.ensures.code sc texts_due) in
    let short = subst (λ (z : PBody). AreShort segments (texts z)) (body_is b) c.in_ok-segments.ensures.short in
    rw (c.of.ensures, c.of-2.ensures) (listable_code b.spot ds ss n has segments formats coded short c.in_ok-segments.ensures.formats)
