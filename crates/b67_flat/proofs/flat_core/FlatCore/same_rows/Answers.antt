use Rattle.std.proofs.Common.{◌≡◌, ℕ, length, arith}
use Rattle.std.proofs.lemmas.List.{length-map}
use Rattle.std.specs.Prelude.{option_map}
use Rattle.b67_store.specs.Store.{at_number}
use Rattle.b67_flat.specs.Flat.{row_in, rows_of}
use Rattle.b67_flat.proofs.Same.{all_numbers, one_more}
use Rattle.b67_flat.proofs.flat_core.FlatCore.same_rows.Goals as goal

pub rows-preserved : goal.rows-preserved
rows-preserved c =
    one_more (λ (k : ℕ). at_number (rows_of c.args.self.now) k ≡ at_number (rows_of c.args.other.now) k) c.rows.number c.rows.invariant (c.same_row.ensures c.if-not-same_row.false)

pub returns : goal.returns
returns c = λ h.
    let ours = c.args.self.now in
    let theirs = c.args.other.now in
    let size : length (rows_of ours) ≡ length ours.rows = length-map ours.rows (option_map (row_in ours.memory.words)) in
    let other : length (rows_of theirs) ≡ length theirs.rows = length-map theirs.rows (option_map (row_in theirs.memory.words)) in
    all_numbers (rows_of ours) (rows_of theirs)
    (omega (arith, size, other, c.row_places-places.ensures, c.row_places.ensures, c.if-places-row_places.false))
    (λ k p. c.rows.invariant k (omega (arith, p, size, c.row_places-places.ensures, c.rows-test.false)))
