use Rattle.std.proofs.Common.{◌+◌, ◌∙◌, ap, arith}
use Rattle.std.specs.Prelude.{length}
use Rattle.std.proofs.lemmas.List.{length-set}
use Rattle.b67_flat.specs.Widest.{AreWidest}
use Rattle.b67_flat.proofs.Bounds.{narrowed, chunks_passed, chunk_walked, fit_here, fit_none}
use Rattle.b67_flat.proofs.spans.fit_among.Goals as goal

pub chunks-init : goal.chunks-init
chunks-init c =
    let same = c.first_wide-chunk.ensures.same in
    let known : AreWidest c.args.spans.now.items c.first_wide-chunk.new.self = rw same c.requires.widest in (
      c.first_wide-chunk.ensures.within,
      known,
      ap length same,
      λ k p. chunks_passed c.args.spans.now.items c.first_wide-chunk.new.self c.args.count 0 c.first_wide-chunk.result k known (λ j q r. c.first_wide-chunk.ensures.narrow j r) (λ j q. absurd (omega (arith, q))) p,
    )

pub chunks-preserved : goal.chunks-preserved
chunks-preserved c =
    let there = c.chunks-test.true in
    let size = ap length c.narrow.ensures ∙ length-set c.chunks.widest c.chunks.chunk c.widest_from-width.result in
    let known : AreWidest c.args.spans.now.items c.narrow.new.self =
    rw c.narrow.ensures (narrowed c.args.spans.now.items c.chunks.widest c.chunks.chunk c.widest_from-width.result c.chunks.invariant.1 (omega (arith, there, c.len.ensures, c.chunks.invariant.2, c.requires.all)) c.widest_from-width.ensures) in (
      c.next_wide-chunk.ensures.within,
      known,
      size ∙ c.chunks.invariant.2,
      λ k p. chunks_passed c.args.spans.now.items c.narrow.new.self c.args.count (c.chunks.chunk + 1) c.next_wide-chunk.result k known c.next_wide-chunk.ensures.narrow (λ j q. chunk_walked c.args.spans.now.items c.args.count c.chunks.chunk j c.chunks.invariant.3 c.in_default.ensures.none q) p,
    )

pub returns-in-Some-clause-at : goal.returns-in-Some-clause-at
returns-in-Some-clause-at c =
    fit_here c.args.spans.now.items c.args.count c.chunks.chunk c.in-Some.at c.requires.ascending c.chunks.invariant.3 c.in-Some.ensures.before (omega (arith, c.in-Some.ensures.fits.0, c.args.spans.now.ok)) c.in-Some.ensures.fits.1

pub returns-clause-at : goal.returns-clause-at
returns-clause-at c =
    fit_none c.args.spans.now.items c.args.count c.chunks.chunk c.len-2.result c.requires.ascending c.chunks.invariant.3 (omega (arith, c.len-2.ensures, c.args.spans.now.ok)) (omega (arith, c.chunks-test.false, c.len.ensures, c.len-2.ensures))
