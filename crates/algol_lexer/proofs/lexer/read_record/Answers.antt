use Rattle.std.proofs.Common.{◌≡◌, ◌+◌, ◌<◌, ◌≤◌, length, drop, ap, subst, arith, length-append}
use Rattle.algol_tree.specs.Lexes.{TokenStands, Piece, Wrong, token_at, Fails}
use Rattle.algol_tree.specs.Records.{columns, spot_in}
use Rattle.algol_tree.specs.declared.TheConstants.{MOST_RECORD_BYTES}
use Rattle.algol_tree.specs.declared.refusal.Code.TheVariants.{LineTooLong}
use Rattle.algol_tree.specs.declared.refusal.Code.{Code}
use Rattle.algol_tree.specs.declared.token.Spot.{Spot}
use Rattle.algol_lexer.specs.Records.{record_of}
use Rattle.algol_lexer.specs.Shown.{mode_of, front_shown}
use Rattle.algol_lexer.proofs.LexOnly.{stands_fits}
use Rattle.algol_lexer.proofs.LexReach.{reaches_start, reaches_more, reaches_long, reaches_wrong, stands_there, length_token_at}
use Rattle.algol_lexer.proofs.lexer.read_record.Goals as goal

-- before the first column
pub reading-init : goal.reading-init
reading-init c = record { reached = reaches_start (record_of c.args.card.now) (mode_of c.args.mode) c.args.tokens.now.items; within = omega arith; many = omega arith }

-- over a piece
pub put-requires : goal.put-requires
put-requires c =
    let fits : (0 < c.in-Piece.size) × (c.in-Piece.size ≤ length c.split_at.result.1.now) = stands_fits (subst (λ f. TokenStands (mode_of c.reading.mode) c.split_at.result.1.now (front_shown f)) c.in-Piece.is c.in_ok-size.ensures) in
    omega (arith, fits.0, fits.1, c.split_at.ensures.back_len, c.columns-columns.ensures.within, c.requires.room)

pub overflow_add-at : goal.overflow_add-at
overflow_add-at c =
    let fits : (0 < c.in-Piece.size) × (c.in-Piece.size ≤ length c.split_at.result.1.now) = stands_fits (subst (λ f. TokenStands (mode_of c.reading.mode) c.split_at.result.1.now (front_shown f)) c.in-Piece.is c.in_ok-size.ensures) in
    omega (arith, fits.0, fits.1, c.split_at.ensures.back_len, c.columns-columns.ensures.within, c.requires.room)

pub reading-smaller : goal.reading-smaller
reading-smaller c =
    let fits : (0 < c.in-Piece.size) × (c.in-Piece.size ≤ length c.split_at.result.1.now) = stands_fits (subst (λ f. TokenStands (mode_of c.reading.mode) c.split_at.result.1.now (front_shown f)) c.in-Piece.is c.in_ok-size.ensures) in
    omega (arith, fits.0, fits.1, c.split_at.ensures.back_len)

pub reading-preserved : goal.reading-preserved
reading-preserved c =
    let st : TokenStands (mode_of c.reading.mode) (drop c.reading.at (columns (record_of c.args.card.now))) (Piece c.in-Piece.size c.in-Piece.kind (mode_of c.in-Piece.next)) = stands_there c.reading.at c.in_ok-size.ensures (ap front_shown c.in-Piece.is) c.split_at.ensures.back c.columns-columns.ensures.value in
    let fits : (0 < c.in-Piece.size) × (c.in-Piece.size ≤ length c.split_at.result.1.now) = stands_fits (subst (λ f. TokenStands (mode_of c.reading.mode) c.split_at.result.1.now (front_shown f)) c.in-Piece.is c.in_ok-size.ensures) in
    let new = c.in_ok-put-in-Piece.ensures in
    record {
      reached = reaches_more c.reading.invariant.reached st new;
      within = omega (arith, fits.0, fits.1, c.split_at.ensures.back_len);
      many = omega (arith, fits.0, ap length new, length-append c.reading.tokens.items (token_at (record_of c.args.card.now) c.reading.at c.in-Piece.size c.in-Piece.kind), length_token_at (record_of c.args.card.now) c.reading.at c.in-Piece.size c.in-Piece.kind, c.reading.invariant.many);
    }

-- what cannot be read
pub overflow_add-at-in-Wrong : goal.overflow_add-at-in-Wrong
overflow_add-at-in-Wrong c =
    let fits : c.in-Wrong.skipped < length c.split_at.result.1.now = stands_fits (subst (λ f. TokenStands (mode_of c.reading.mode) c.split_at.result.1.now (front_shown f)) c.in-Wrong.is c.in_ok-size.ensures) in
    omega (arith, fits, c.split_at.ensures.back_len, c.columns-columns.ensures.within, c.requires.room)

pub spot-requires : goal.spot-requires
spot-requires c =
    let fits : c.in-Wrong.skipped < length c.split_at.result.1.now = stands_fits (subst (λ f. TokenStands (mode_of c.reading.mode) c.split_at.result.1.now (front_shown f)) c.in-Wrong.is c.in_ok-size.ensures) in
    omega (arith, fits, c.split_at.ensures.back_len, c.columns-columns.ensures.within, c.requires.room)

pub returns-in-Wrong-clause-refused : goal.returns-in-Wrong-clause-refused
returns-in-Wrong-clause-refused c =
    let st : TokenStands (mode_of c.reading.mode) (drop c.reading.at (columns (record_of c.args.card.now))) (Wrong c.in-Wrong.skipped c.in-Wrong.code) = stands_there c.reading.at c.in_ok-size.ensures (ap front_shown c.in-Wrong.is) c.split_at.ensures.back c.columns-columns.ensures.value in
    let fails : Fails (record_of c.args.card.now) (mode_of c.args.mode) (spot_in (record_of c.args.card.now) (c.reading.at + c.in-Wrong.skipped)) c.in-Wrong.code = reaches_wrong c.reading.invariant.reached st in
    λ spot code e.
    let spots : spot_in (record_of c.args.card.now) (c.reading.at + c.in-Wrong.skipped) ≡ spot = let here = c.spot.ensures in cc in
    let codes_are : c.in-Wrong.code ≡ code = cc in
    subst (λ (k : Code). Fails (record_of c.args.card.now) (mode_of c.args.mode) spot k) codes_are (subst (λ (s : Spot). Fails (record_of c.args.card.now) (mode_of c.args.mode) s c.in-Wrong.code) spots fails)

-- the byte after the last column of a card
pub returns-then-card-gt-MOST_RECORD_BYTES-clause-refused :
    goal.returns-then-card-gt-MOST_RECORD_BYTES-clause-refused
returns-then-card-gt-MOST_RECORD_BYTES-clause-refused c =
    let size = ap length c.columns-columns.ensures.value in
    let whole : c.reading.at ≡ length (columns (record_of c.args.card.now)) = omega (arith, size, c.reading-test.false, c.reading.invariant.within) in
    let fails : Fails (record_of c.args.card.now) (mode_of c.args.mode) (spot_in (record_of c.args.card.now) MOST_RECORD_BYTES) LineTooLong = reaches_long c.reading.invariant.reached whole c.if-card-gt-MOST_RECORD_BYTES.true in
    λ spot code e.
    let spots : spot_in (record_of c.args.card.now) MOST_RECORD_BYTES ≡ spot = let here = c.spot-then-card-gt-MOST_RECORD_BYTES.ensures in cc in
    let codes_are : LineTooLong ≡ code = cc in
    subst (λ (k : Code). Fails (record_of c.args.card.now) (mode_of c.args.mode) spot k) codes_are (subst (λ (s : Spot). Fails (record_of c.args.card.now) (mode_of c.args.mode) s LineTooLong) spots fails)

-- after the last column
pub returns-clause-many : goal.returns-clause-many
returns-clause-many c = omega (arith, c.reading.invariant.many, c.reading.invariant.within, c.columns-columns.ensures.within)
