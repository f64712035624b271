use Rattle.std.proofs.Common.{take, arith}
use Rattle.std.proofs.lemmas.List.{length-take}
use Rattle.b67_list.proofs.Numbers.{later_still}
use Rattle.b67_io.proofs.Known.{Consumes_next, all_taken, more_left, takes_between, takes_front}
use Rattle.b67_io.proofs.reading.read_all.Goals as goal

pub returns-then-most-len-clause-taken : goal.returns-then-most-len-clause-taken
returns-then-most-len-clause-taken g c =
    let piece = c.in_ok-count.ensures.within in
    λ _. takes_between _ _ _ _ _ c.reading.bytes.items (take c.in_ok-count.count c.read.new.piece) c.reading.invariant.taken c.in_ok-count.ensures.given.0 (omega (arith, c.reading.bytes.ok.0, piece.0, piece.1)) (omega (arith, c.reading.bytes.ok.0, piece.0, piece.1))

pub returns-then-most-len-clause-front : goal.returns-then-most-len-clause-front
returns-then-most-len-clause-front g c = takes_front _ _ _ c.reading.bytes.items (take c.in_ok-count.count c.read.new.piece) c.reading.invariant.taken c.in_ok-count.ensures.given.0

pub returns-in_err-extend_from_slice-clause-front : goal.returns-in_err-extend_from_slice-clause-front
returns-in_err-extend_from_slice-clause-front g c = takes_front _ _ _ c.reading.bytes.items (take c.in_ok-count.count c.read.new.piece) c.reading.invariant.taken c.in_ok-count.ensures.given.0

pub returns-then-count-eq0-clause-front : goal.returns-then-count-eq0-clause-front
returns-then-count-eq0-clause-front g c = takes_front _ _ _ c.reading.bytes.items (take c.in_ok-count.count c.read.new.piece) c.reading.invariant.taken c.in_ok-count.ensures.given.0

pub returns-then-count-eq0-clause-all : goal.returns-then-count-eq0-clause-all
returns-then-count-eq0-clause-all g c =
    all_taken _ _ _ c.reading.bytes.items (take c.in_ok-count.count c.read.new.piece) c.read.new.piece c.in_ok-count.count c.reading.invariant.taken c.in_ok-count.ensures.given.0 c.in_ok-count.ensures.end (omega arith) c.if-count-eq0.true

pub returns-then-most-len-clause-too_long : goal.returns-then-most-len-clause-too_long
returns-then-most-len-clause-too_long g c =
    λ _. more_left _ _ _ _ c.reading.bytes.items (take c.in_ok-count.count c.read.new.piece) c.reading.invariant.taken c.in_ok-count.ensures.given.0 (omega (arith, c.reading.bytes.ok.0, c.in_ok-count.ensures.within.0, c.in_ok-count.ensures.within.1))

pub reading-preserved : goal.reading-preserved
reading-preserved g c =
    record {
      within = omega (arith, c.in_ok-extend_from_slice.ensures.len, c.if-most-len.false, c.reading.invariant.within, length-take c.in_ok-count.count c.read.new.piece, c.in_ok-count.ensures.within.0, c.in_ok-count.ensures.within.1);
      taken = Consumes_next _ _ _ c.reading.bytes.items (take c.in_ok-count.count c.read.new.piece) c.extend_from_slice.new.self.items c.in_ok-extend_from_slice.ensures.items c.reading.invariant.taken c.in_ok-count.ensures.given.0;
      later = later_still _ _ _ c.reading.invariant.later c.in_ok-count.ensures.cause.later;
    }
