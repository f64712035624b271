use Rattle.std.proofs.Common.{◌≡◌, ◌∙◌, ℕ, ℤ, pos, [], ◌∷◌, ◌++◌, length, refl, sym, ap, subst, arith}
use Rattle.std.proofs.lemmas.Int.{ints}
use Rattle.std.proofs.lemmas.List.{append-nil}
use Rattle.algol_tree.specs.Image.{exprs}
use Rattle.b67_ops.specs.declared.PlainKind.TheVariants as kinds
use Rattle.b67_segment.specs.Operators.{size}
use Rattle.b67_segment.specs.Building.{level_set}
use Rattle.b67_segment.proofs.Cited.{set_after}
use Rattle.b67_emitter.proofs.Appends.{same_level}
use Rattle.b67_emit_stmt.specs.Places.{LineAt}
use Rattle.b67_emit_stmt.specs.Fits.{LineFits}
use Rattle.b67_templates.specs.Fragments.{NumberAt}
use Rattle.b67_templates.specs.Emitting.{Emitted}
use Rattle.b67_emit_stmt.specs.declared.draft.Draft.{Draft}
use Rattle.b67_emit_stmt.specs.Drafts.{spots_of}
use Rattle.b67_emit_stmt.specs.Lengths.{write_syllables}
use Rattle.b67_emit_stmt.proofs.Added.{format_is}
use Rattle.b67_emit_stmt.proofs.Notes.{unknown}
use Rattle.b67_emit_stmt.proofs.Parts.{leveled, plain_at}
use Rattle.b67_emit_stmt.proofs.Writing.{write_part}
use Rattle.b67_emit_stmt.proofs.draft.StmtEmitter.write.Goals as goal

pub returns-clause-code : goal.returns-clause-code
returns-clause-code g c =
    let s = c.args.self.now.known.now in
    let es = exprs c.args.items.now in
    let a = c.args.to.now in
    let b : Draft = record a { out = c.append_intrinsic.new.out } in
    let d : Draft = record a { out = c.append_number.new.out } in
    let e : Draft = record a { out = c.items.new.out } in
    let f : Draft = record a { out = c.append_plain.new.out; formats = c.push.new.self } in
    let level = level_set a.out in
    let q = same_level a.out b.out c.in_ok-append_intrinsic.ensures.code.level in
    let r = same_level b.out d.out c.in_ok-append_number.ensures.level ∙ q in
    let t = same_level d.out e.out c.in_ok-items.ensures.level ∙ r in
    let number : c.fitting.result ≡ pos (length a.formats.items) =
    omega (arith, ints, c.fitting.ensures, c.len-number.ensures, c.requires.ready.few, c.requires.ready.room) in
    λ sc fit.
    let N : ℤ → Type 0 = λ z. Emitted b.out d.out (λ qs. NumberAt qs level z (size b.out.operators) (size d.out.operators)) in
    let F : ℕ → Type 0 = λ l. LineFits sc s l es in
    write_part sc level c.args.phrases.now es a b d e f c.in_ok-format.format (write_syllables c.args.self.now.known.now es) refl c.in_ok-push.ensures.items refl c.requires.ready.few
    (omega (arith, c.in_ok-append_intrinsic.ensures.size, (c.in_ok-append_number.ensures.code).grown, (c.in_ok-items.ensures.code sc unknown (subst F (sym r) fit.2)).grown, c.in_ok-append_plain.ensures.size))
    (omega (arith, c.in_ok-append_intrinsic.ensures.size, c.in_ok-append_number.ensures.size, c.in_ok-items.ensures.size, c.in_ok-append_plain.ensures.size))
    c.in_ok-format.ensures fit.0 (fit.1 c.in_ok-format.format.phrases c.in_ok-format.ensures) c.in_ok-append_intrinsic.ensures.code
    (subst N number (leveled (λ l qs. NumberAt qs l c.fitting.result (size b.out.operators) (size d.out.operators)) level q c.in_ok-append_number.ensures.code))
    (λ later. leveled (λ l qs. LineAt sc later qs l es (size d.out.operators) (size e.out.operators)) level r (c.in_ok-items.ensures.code sc later (subst F (sym r) fit.2)))
    (plain_at kinds.Entr level t c.in_ok-append_plain.ensures.code)

pub returns-clause-lines : goal.returns-clause-lines
returns-clause-lines g c =
    let a = c.args.to.now in
    record {
      formats = c.in_ok-push.ensures.items ∙ ap (λ f. a.formats.items ++ f ∷ []) (format_is c.args.phrases.now c.in_ok-format.format c.in_ok-format.ensures);
      labels = sym (append-nil (spots_of a.labels.items));
    }

pub items-requires : goal.items-requires
items-requires g c =
    let a = c.args.to.now.out in
    let b = c.append_intrinsic.new.out in
    let d = c.append_number.new.out in
    let sc = c.requires.fits.0 in
    let first = c.in_ok-append_intrinsic.ensures.code.level in
    let second = c.in_ok-append_number.ensures.level in
    let F : ℕ → Type 0 = λ l. LineFits sc c.args.self.now.known.now l (exprs c.args.items.now) in
    record {
      set = set_after a d (second ∙ first) c.requires.ready.set;
      near = c.requires.ready.near;
      fits = (sc, subst F (sym (same_level b d second ∙ same_level a b first)) c.requires.fits.1.2);
      room = omega (arith, c.in_ok-append_number.ensures.size, c.in_ok-append_intrinsic.ensures.size, c.requires.ready.room);
    }
