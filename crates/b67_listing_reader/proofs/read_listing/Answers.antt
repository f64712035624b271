use Rattle.std.proofs.lemmas.Result.{err_from_is_err_and}
use Rattle.b67_listing_reader.proofs.Ahead.{one_code}
use Rattle.b67_listing_reader.proofs.WholeListing.{formats_refused, code_read, not_refused}
use Rattle.b67_listing_reader.proofs.read_listing.Goals as goal

pub returns-in_err-segments-clause-again : goal.returns-in_err-segments-clause-again
returns-in_err-segments-clause-again c code is listed =
    let p = err_from_is_err_and c.from_residual.result c.from_residual.ensures.1 in
    rw (p.1, p.2) (not_refused c.in_err-segments.field-0.0 code c.args.lines.now c.in_err-segments.ensures.refused is listed)

pub returns-in_err-formats-clause-again : goal.returns-in_err-formats-clause-again
returns-in_err-formats-clause-again c code is listed =
    let p = err_from_is_err_and c.from_residual-in_err-formats.result c.from_residual-in_err-formats.ensures.1 in
    let e = c.in_err-formats.field-0.0 in
    rw (p.1, p.2) (not_refused e code c.args.lines.now
    (formats_refused e c.in_ok-segments.segments.items c.args.lines.now c.in_ok-segments.at c.in_ok-segments.ensures.read c.in_err-formats.ensures.refused) is listed)

pub returns-in_err-formats-clause-refused : goal.returns-in_err-formats-clause-refused
returns-in_err-formats-clause-refused c =
    let p = err_from_is_err_and c.from_residual-in_err-formats.result c.from_residual-in_err-formats.ensures.1 in
    rw (p.1, p.2) (formats_refused c.in_err-formats.field-0.0 c.in_ok-segments.segments.items c.args.lines.now c.in_ok-segments.at c.in_ok-segments.ensures.read c.in_err-formats.ensures.refused)

pub returns-clause-read : goal.returns-clause-read
returns-clause-read c =
    code_read c.in_ok-segments.segments.items c.of.result c.in_ok-formats.formats.items c.of-2.result c.args.lines.now c.in_ok-segments.at c.of.ensures c.of-2.ensures
    c.in_ok-segments.ensures.read c.in_ok-formats.ensures.read

pub returns-clause-again : goal.returns-clause-again
returns-clause-again c code is listed =
    let read = code_read c.in_ok-segments.segments.items c.of.result c.in_ok-formats.formats.items c.of-2.result c.args.lines.now c.in_ok-segments.at c.of.ensures c.of-2.ensures
    c.in_ok-segments.ensures.read c.in_ok-formats.ensures.read in
    one_code (record { segments = c.of.result; formats = c.of-2.result }) code c.args.lines.now read.0 is read.1 listed
