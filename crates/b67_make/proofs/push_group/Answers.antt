use Rattle.std.proofs.Common.{◌≡◌, ℕ, ◌+◌, ◌-◌, ◌*◌, min, ◌++◌, ap, ◌∙◌}
use Rattle.std.specs.Prelude.{codes}
use Rattle.std.specs.List.{flat_map, range_with_len}
use Rattle.std.specs.Fmt.{decimal}
use Rattle.b67_make.specs.declared.TheConstants.{MOST_ADDED}
use Rattle.b67_make.specs.Made.{adder, addition, numbers_of_group}
use Rattle.b67_make.proofs.Each.{six_steps}
use Rattle.b67_make.proofs.push_group.Goals as goal

pub returns : goal.returns
returns c =
    let n = c.args.n in
    let g = c.args.g in
    let many : c.min-count.result ≡ min (n - MOST_ADDED * g) MOST_ADDED =
    c.min-count.ensures ∙ ap (λ (k : ℕ). min k MOST_ADDED) (c.saturating_sub.ensures ∙ ap (λ (m : ℕ). m - MOST_ADDED * g) c.from.ensures) in
    six_steps c.extend_from_slice-3.result c.args.text.now.items _ _ _ _ _ _ (codes "PROCEDURE G" ++ decimal g) (codes "; BEGIN\nTASK T;\n") (flat_map adder (numbers_of_group n g))
    (codes "PROCEDURE R; BEGIN PROCURE(E); D:=D+1; LIBERATE(E) END;\nPROCESS R[T];\n") (flat_map addition (numbers_of_group n g)) (codes "WAIT(T.EXCEPTIONEVENT)\nEND;\n")
    c.in_ok-push_number.ensures c.in_ok-extend_from_slice.ensures.items
    (c.in_ok-push_adders.ensures ∙ ap (λ (k : ℕ). c.extend_from_slice.new.self.items ++ flat_map adder (range_with_len (MOST_ADDED * g + 1) k)) many)
    c.in_ok-extend_from_slice-2.ensures.items
    (c.in_ok-push_each.ensures ∙ ap (λ (k : ℕ). c.extend_from_slice-2.new.self.items ++ flat_map addition (range_with_len (MOST_ADDED * g + 1) k)) many)
    c.extend_from_slice-3.ensures.items
