use Rattle.std.proofs.Common.{◌≡◌, ◌∙◌, ap, subst, sym, ℕ, ℤ, List, drop, Option, Some, Err}
use Rattle.b67_store.specs.Store.{Stacks}
use Rattle.b67_table.specs.Arguments.{wholes_in}
use Rattle.b67_table.specs.Arrays.{Extents}
use Rattle.b67_table.specs.Intrinsics.{extents, intrinsic_wanted}
use Rattle.b67_table.specs.Look.{look_seen}
use Rattle.b67_table.specs.Program.{asked}
use Rattle.b67_descriptor.specs.Sizes.{extents_of}
use Rattle.b67_reach.specs.declared.Stop.{Stop}
use Rattle.b67_reach.specs.Answers.{looked, whole_outcome}
use Rattle.b67_intrinsics.specs.Called.{arguments, mark_below, IntrinsicLeads}
use Rattle.b67_intrinsics.specs.Arrays.{order_in, array_tests}
use Rattle.b67_intrinsics.proofs.MakingArrays.{order_exit, not_ordered, unchained, unsized, unheld, all_tested}
use Rattle.b67_intrinsics.proofs.allocating.find_order.Goals as goal

pub returns-in_default-clause-leads : goal.returns-in_default-clause-leads
returns-in_default-clause-leads g c = λ img s t.
    let r = c.args.regs.now in
    let m = c.args.mark.now in
    let words = arguments img.stacks r in
    let zs = c.as_slice.result.now in
    let read : wholes_in words ≡ Some zs =
    ap (λ (st : Stacks). wholes_in (arguments st r)) s ∙ c.in_ok-numbers.ensures.items ∙ ap (λ (xs : List ℤ). Some xs) (sym c.as_slice.ensures.value) in
    subst (λ (stop : Stop). IntrinsicLeads {A = ℕ × Extents} img (array_tests r m words) (Err stop)) (sym c.invalid.ensures)
    (not_ordered img r m words zs read (c.order.ensures.order img.stacks ∙ ap (λ (o : Option ℕ). order_in zs o) c.in_default.is))

pub returns-in_err-chained-clause-leads : goal.returns-in_err-chained-clause-leads
returns-in_err-chained-clause-leads g c = λ img s t.
    let r = c.args.regs.now in
    let m = c.args.mark.now in
    let words = arguments img.stacks r in
    let zs = c.as_slice.result.now in
    let read : wholes_in words ≡ Some zs =
    ap (λ (st : Stacks). wholes_in (arguments st r)) s ∙ c.in_ok-numbers.ensures.items ∙ ap (λ (xs : List ℤ). Some xs) (sym c.as_slice.ensures.value) in
    let count = c.in-Some.count in
    let ordered : looked (look_seen img.stacks (intrinsic_wanted zs)) ≡ order_in zs (Some count) = c.in-Some.ensures.order img.stacks in
    order_exit img r m words c.from_residual-in_err-chained.result c.in_err-chained.field-0.0 c.from_residual-in_err-chained.ensures.1
    (unchained img r m words zs read count ordered c.in_err-chained.field-0.0
    (c.in_err-chained.ensures.value ∙ ap (λ (st : Stacks). looked (look_seen st (mark_below r m))) (sym s)))

pub returns-in_err-size-clause-leads : goal.returns-in_err-size-clause-leads
returns-in_err-size-clause-leads g c = λ img s t.
    let r = c.args.regs.now in
    let m = c.args.mark.now in
    let words = arguments img.stacks r in
    let zs = c.as_slice.result.now in
    let read : wholes_in words ≡ Some zs =
    ap (λ (st : Stacks). wholes_in (arguments st r)) s ∙ c.in_ok-numbers.ensures.items ∙ ap (λ (xs : List ℤ). Some xs) (sym c.as_slice.ensures.value) in
    let count = c.in-Some.count in
    let ordered : looked (look_seen img.stacks (intrinsic_wanted zs)) ≡ order_in zs (Some count) = c.in-Some.ensures.order img.stacks in
    let lower = c.in_ok-chained.field-0 in
    let chained = c.in_ok-chained.ensures.value ∙ ap (λ (st : Stacks). looked (look_seen st (mark_below r m))) (sym s) in
    let same : zs ≡ c.as_slice-2.result.now = c.as_slice.ensures.value ∙ sym c.as_slice-2.ensures.value in
    let told = ap (λ (xs : List ℤ). whole_outcome (asked img (extents (drop 1 xs)))) same in
    order_exit img r m words c.from_residual-in_err-size.result c.in_err-size.field-0.0 c.from_residual-in_err-size.ensures.1
    (unsized img r m words zs read count ordered lower chained c.in_err-size.field-0.0 (told ∙ c.in_err-size.ensures.sizes img))

pub returns-in_err-held-clause-leads : goal.returns-in_err-held-clause-leads
returns-in_err-held-clause-leads g c = λ img s t.
    let r = c.args.regs.now in
    let m = c.args.mark.now in
    let words = arguments img.stacks r in
    let zs = c.as_slice.result.now in
    let read : wholes_in words ≡ Some zs =
    ap (λ (st : Stacks). wholes_in (arguments st r)) s ∙ c.in_ok-numbers.ensures.items ∙ ap (λ (xs : List ℤ). Some xs) (sym c.as_slice.ensures.value) in
    let count = c.in-Some.count in
    let ordered : looked (look_seen img.stacks (intrinsic_wanted zs)) ≡ order_in zs (Some count) = c.in-Some.ensures.order img.stacks in
    let lower = c.in_ok-chained.field-0 in
    let chained = c.in_ok-chained.ensures.value ∙ ap (λ (st : Stacks). looked (look_seen st (mark_below r m))) (sym s) in
    let same : zs ≡ c.as_slice-2.result.now = c.as_slice.ensures.value ∙ sym c.as_slice-2.ensures.value in
    let told = ap (λ (xs : List ℤ). whole_outcome (asked img (extents (drop 1 xs)))) same in
    order_exit img r m words c.from_residual-in_err-held.result c.in_err-held.field-0.0 c.from_residual-in_err-held.ensures.1
    (unheld img r m words zs read count ordered lower chained (extents_of c.in_ok-size.size) (told ∙ c.in_ok-size.ensures.sizes img) c.in_err-held.field-0.0
    (c.in_err-held.ensures.told img s t))

pub returns-clause-leads : goal.returns-clause-leads
returns-clause-leads g c = λ img s t.
    let r = c.args.regs.now in
    let m = c.args.mark.now in
    let words = arguments img.stacks r in
    let zs = c.as_slice.result.now in
    let read : wholes_in words ≡ Some zs =
    ap (λ (st : Stacks). wholes_in (arguments st r)) s ∙ c.in_ok-numbers.ensures.items ∙ ap (λ (xs : List ℤ). Some xs) (sym c.as_slice.ensures.value) in
    let count = c.in-Some.count in
    let ordered : looked (look_seen img.stacks (intrinsic_wanted zs)) ≡ order_in zs (Some count) = c.in-Some.ensures.order img.stacks in
    let lower = c.in_ok-chained.field-0 in
    let chained = c.in_ok-chained.ensures.value ∙ ap (λ (st : Stacks). looked (look_seen st (mark_below r m))) (sym s) in
    let same : zs ≡ c.as_slice-2.result.now = c.as_slice.ensures.value ∙ sym c.as_slice-2.ensures.value in
    let told = ap (λ (xs : List ℤ). whole_outcome (asked img (extents (drop 1 xs)))) same in
    all_tested img r m words zs read count ordered lower chained (extents_of c.in_ok-size.size) (told ∙ c.in_ok-size.ensures.sizes img) (c.in_ok-held.ensures.told img s t)
