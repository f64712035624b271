use Rattle.std.proofs.Common.{◌+◌, ◌≤◌, length, refl, ap, arith}
use Rattle.std.specs.Prelude.{is_some}
use Rattle.b67_ops.specs.declared.TheConstants.{MOST_LEVEL}
use Rattle.b67_segment.specs.Building.{Built, level_set}
use Rattle.b67_segment.specs.Operators.{size}
use Rattle.b67_emit_stmt.proofs.Coded.{some_emitted, some_inner, some_of}
use Rattle.b67_emit_stmt.proofs.draft.StmtEmitter.routines.Goals as goal

pub level-requires-clause-most : goal.level-requires-clause-most
level-requires-clause-most g c =
    let xs = c.args.actuals.now in
    some_inner c.args.self.now.known.now c.args.self.now.level xs c.requires.fits.0 c.requires.fits.1 c.requires.fits.2
    (some_of c.is_empty.result (length xs) c.is_empty.ensures c.if-is_empty.false)

pub overflow_add-self : goal.overflow_add-self
overflow_add-self g c =
    let xs = c.args.actuals.now in
    let inner : c.args.self.now.level + 1 ≤ MOST_LEVEL =
    some_inner c.args.self.now.known.now c.args.self.now.level xs c.requires.fits.0 c.requires.fits.1 c.requires.fits.2
    (some_of c.is_empty.result (length xs) c.is_empty.ensures c.if-is_empty.false) in
    omega (arith, inner)

pub level-requires-2-clause-most : goal.level-requires-2-clause-most
level-requires-2-clause-most g c =
    let xs = c.args.actuals.now in
    let inner : c.args.self.now.level + 1 ≤ MOST_LEVEL =
    some_inner c.args.self.now.known.now c.args.self.now.level xs c.requires.fits.0 c.requires.fits.1 c.requires.fits.2
    (some_of c.is_empty.result (length xs) c.is_empty.ensures c.if-is_empty.false) in
    omega (arith, inner)

pub returns-clause-code : goal.returns-clause-code
returns-clause-code g c =
    some_emitted c.args.self.now.known.now c.args.self.now.level c.args.actuals.now c.args.to.now c.level.new.self c.codes.new.out c.level-2.new.self c.in_ok-places.places.items c.requires.level
    c.in_ok-level.ensures.ok c.requires.ready.few c.in_ok-places.ensures.code c.in_ok-places.ensures.size c.in_ok-level-2.ensures.ok

pub codes-requires : goal.codes-requires
codes-requires g c =
    let set = c.in_ok-level.ensures.ok in
    record {
      set = ap (λ (b : Built). is_some b.level) set;
      near = c.requires.ready.near;
      room = omega (arith, ap (λ (b : Built). size b.operators) set, c.requires.ready.room);
      inner = omega (arith, ap (λ (b : Built). level_set b) set);
      fits = c.requires.fits;
    }

pub returns-clause-places : goal.returns-clause-places
returns-clause-places g c = c.in_ok-places.ensures.places

pub returns-clause-many : goal.returns-clause-many
returns-clause-many g c = c.in_ok-places.ensures.many

pub returns-clause-exits : goal.returns-clause-exits
returns-clause-exits g c = refl

pub returns-clause-notes : goal.returns-clause-notes
returns-clause-notes g c = refl
