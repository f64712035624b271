use Rattle.std.specs.Prelude.{replicate}
use Rattle.std.proofs.Common.{◌≡◌, ◌≤◌, refl, sym, subst, ap, ◌∙◌, ℕ, List, All, length}
use Rattle.std.proofs.lemmas.List.{length-replicate}
use Rattle.b67_events.specs.Events.{Events}
use Rattle.b67_segment.specs.declared.code.Segment.{Segment}
use Rattle.b67_segment.specs.declared.code.Code.{Code}
use Rattle.b67_store.specs.Store.{Stacks, Rows, row_limit}
use Rattle.b67_table.specs.Image.{Image}
use Rattle.b67_table.specs.Limits.{segment_limit}
use Rattle.b67_table.specs.Valid.{IsValid}
use Rattle.b67_reach.specs.declared.Parts.{Parts}
use Rattle.b67_reach.specs.Images.{image_of}
use Rattle.b67_load.specs.Closed.{NoneOpen, first_on}
use Rattle.b67_machine.specs.Kept.{operators_counted}
use Rattle.b67_machine.specs.Tables.{AreTables}
use Rattle.b67_machine.proofs.Begun.{none_counted, no_tables}
use Rattle.b67_machine.proofs.Loading.{fresh_on, first_on_is_valid}
use Rattle.b67_machine.proofs.Failures.{without}
use Rattle.b67_machine.proofs.Machine.load.Goals as goal

loaded : (code : Code) (old_stacks stacks : Stacks) (old_rows rows : Rows) (kernel : Events) (parts : Parts) → NoneOpen old_stacks → NoneOpen old_rows → length old_rows ≤ row_limit
    → All (λ (s : Segment). length s.words ≤ segment_limit) code.segments → image_of stacks rows kernel parts ≡ first_on old_stacks old_rows → parts.code ≡ code
    → IsValid parts.code (image_of stacks rows kernel parts)
loaded code old_stacks stacks old_rows rows kernel parts no_stack no_row few short image same =
    subst (λ (x : Image). IsValid parts.code x) (sym image)
    (first_on_is_valid old_stacks old_rows no_stack no_row parts.code few
    (subst (λ (k : Code). All (λ (s : Segment). length s.words ≤ segment_limit) k.segments) (sym same) short))

pub invariant_of-result : goal.invariant_of-result
invariant_of-result g c =
    let parts = c.in_ok-kernel.parts in
    let valid = loaded c.args.code (g.C.Core.stacks c.args.core) (g.C.Core.stacks c.load.new.core) (g.C.Core.rows c.args.core) (g.C.Core.rows c.load.new.core) c.in_ok-kernel.kernel parts
    c.requires.stacks c.requires.rows c.counted.ensures.few c.requires.segments c.in_ok-kernel.ensures.image c.in_ok-kernel.ensures.code in
    let items : c.in_ok-counts.counts.items ≡ replicate 256 0 = c.in_ok-counts.ensures.items_if_clones_equal (λ y h. h) in
    (valid, c.in_ok-kernel.ensures.room, ap length items ∙ length-replicate {A = ℕ} 256 0, subst (AreTables parts.code) (sym c.new.ensures.items) (no_tables parts.code))

pub returns-clause-untried : goal.returns-clause-untried
returns-clause-untried g c =
    let items : c.in_ok-counts.counts.items ≡ replicate 256 0 = c.in_ok-counts.ensures.items_if_clones_equal (λ y h. h) in
    record {
      image = without _ refl ∙ c.in_ok-kernel.ensures.image;
      counts = λ p. subst (λ (xs : List ℕ). operators_counted xs p ≡ 0) (sym items) (none_counted 256 p);
      limit = refl;
      lacked = refl;
      letter = refl;
    }

pub returns-clause-fresh : goal.returns-clause-fresh
returns-clause-fresh g c = λ e f. fresh_on (g.C.Core.stacks c.args.core) (g.C.Core.rows c.args.core) e f (returns-clause-untried g c)
