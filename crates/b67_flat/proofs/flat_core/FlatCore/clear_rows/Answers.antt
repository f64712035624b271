use Rattle.std.proofs.Common.{◌-◌, sym, ◌∙◌, arith}
use Rattle.std.specs.Prelude.{is_ok}
use Rattle.b67_store.specs.Store.{at_number}
use Rattle.b67_flat.specs.Flat.{row_in, rows_of}
use Rattle.b67_flat.proofs.Areas.{at_mapped}
use Rattle.b67_flat.proofs.Same.{closed_from, unmapped}
use Rattle.b67_flat.proofs.flat_core.FlatCore.clear_rows.Goals as goal

pub rows-preserved : goal.rows-preserved
rows-preserved c =
    record {
      stacks = c.close_row.ensures.stacks ∙ c.rows.invariant.stacks;
      closed = closed_from (rows_of c.rows.self) (rows_of c.close_row.new.self) (is_ok c.close_row.result) (c.rows.left - 1) c.close_row.ensures.found c.close_row.ensures.rows
          (λ k p. c.rows.invariant.closed k (omega (arith, p, c.rows-test.true)));
    }

pub forget_rows-requires : goal.forget_rows-requires
forget_rows-requires c = λ k.
    let words = c.rows.self.memory.words in
    unmapped (row_in words) (at_number c.rows.self.rows k) (sym (at_mapped (row_in words) c.rows.self.rows k) ∙ c.rows.invariant.closed k (omega (arith, c.rows-test.false)))
