use Rattle.std.proofs.Common.{◌+◌, drop, take, subst}
use Rattle.b67_templates.specs.Fitting.{PhrasesFit}
use Rattle.b67_emit_stmt.proofs.Lines.{phrase_fits, parts_more}
use Rattle.b67_emit_stmt.proofs.Lists.{around, front_more}
use Rattle.b67_emit_stmt.proofs.line.format_of.Goals as goal

pub phrase_of-requires : goal.phrase_of-requires
phrase_of-requires c =
    let ts = c.args.texts.now in
    let i = c.texts.text-index in
    let t = c.text-item.result in
    phrase_fits (take i ts) t (drop (i + 1) ts) (subst PhrasesFit (around ts i t c.texts-test.true c.text-item.is) c.requires)

pub texts-preserved : goal.texts-preserved
texts-preserved c =
    let ts = c.args.texts.now in
    let i = c.texts.text-index in
    let t = c.text-item.result in
    rw (front_more ts i t c.texts-test.true c.text-item.is, c.in_ok-push.ensures.items)
    (parts_more (take i ts) c.texts.phrases.items t c.in_ok-phrase_of.field-0 c.texts.invariant c.in_ok-phrase_of.ensures)
