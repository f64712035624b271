use Rattle.std.proofs.Common.{◌∙◌, ◌+◌, ◌∷◌, [], refl, sym, ap, subst, List, arith, ℕ, ◌≡◌, ◌-◌, length}
use Rattle.std.specs.Prelude.{All}
use Rattle.std.proofs.lemmas.List.Elements.{All-append, All-cons, All-nil}
use Rattle.b67_control.specs.declared.Descriptor.{Descriptor}
use Rattle.b67_control.specs.Control.{Fits_descriptor}
use Rattle.b67_descriptor.specs.Sizes.{extents_of}
use Rattle.b67_descriptor.specs.Arrays.{HaveArrays}
use Rattle.b67_descriptor.proofs.Several.{MakesSome, makes_none, makes_more, one_more, same_arrays, length_last}
use Rattle.b67_descriptor.proofs.arrays.make_arrays.Goals as goal

pub making-init : goal.making-init
making-init g c =
    let before = g.C.Core.rows c.args.core.now in
    let none = c.in-Ok.ensures.items in
    record {
      size = ap (λ (ds : List Descriptor). length ds) none;
      room = c.in-Ok.ensures.capacity;
      fits = subst (λ (ds : List Descriptor). All Fits_descriptor ds) (sym none) (All-nil Fits_descriptor);
      have = λ n. refl;
      makes = subst (λ (ds : List Descriptor). MakesSome c.args.count (extents_of c.args.size) before before ds (c.args.count - 0)) (sym none) (makes_none c.args.count (extents_of c.args.size) before);
      stacks = refl;
    }

pub making-preserved : goal.making-preserved
making-preserved g c =
    let before = g.C.Core.rows c.args.core.now in
    let mid = g.C.Core.rows c.making.core in
    let new = g.C.Core.rows c.make_array.new.core in
    let old = c.making.arrays.items in
    let array = c.in-Ok-make_array.array in
    let added = c.add_array.ensures.items in
    record {
      size = ap (λ (ds : List Descriptor). length ds) added ∙ length_last old array ∙ ap (λ (n : ℕ). n + 1) c.making.invariant.size;
      room = omega (arith, c.making.invariant.room, c.add_array.ensures.capacity);
      fits = subst (λ (ds : List Descriptor). All Fits_descriptor ds) (sym added) (All-append Fits_descriptor old (array ∷ []) c.making.invariant.fits (All-cons Fits_descriptor array [] c.in-Ok-make_array.ensures.fits (All-nil Fits_descriptor)));
      have = subst (λ (ds : List Descriptor). HaveArrays before ds (c.making.counter + 1) new) (sym added)
          (one_more before old array c.making.counter mid new c.making.invariant.size c.in-Ok-make_array.ensures.more c.making.invariant.have);
      makes = subst (λ (ds : List Descriptor). MakesSome c.args.count (extents_of c.args.size) before new ds (c.args.count - (c.making.counter + 1))) (sym added)
          (makes_more c.args.count (extents_of c.args.size) before mid new old array c.making.counter c.making-test.true c.in-Ok-make_array.ensures.made c.making.invariant.makes);
      stacks = c.make_array.ensures.stacks ∙ c.making.invariant.stacks;
    }

pub returns-in-Err-clause-unchanged : goal.returns-in-Err-clause-unchanged
returns-in-Err-clause-unchanged g c =
    let before = g.C.Core.rows c.args.core.now in
    let mid = g.C.Core.rows c.making.core in
    let new = g.C.Core.rows c.make_array.new.core in
    let arrays = c.making.arrays.items in
    let have : HaveArrays before arrays (length arrays) new =
    subst (λ (n : ℕ). HaveArrays before arrays n new) (sym c.making.invariant.size)
    (same_arrays before arrays c.making.counter mid new c.in-Err.ensures.unchanged c.making.invariant.have) in
    c.close_arrays.ensures.closed before (subst (λ (ds : List Descriptor). HaveArrays before ds (length ds) new) (sym c.as_slice.ensures.value) have)

pub returns-clause-made : goal.returns-clause-made
returns-clause-made g c =
    let none : c.args.count - c.making.counter ≡ 0 = omega (arith, c.making-test.false) in
    subst (λ (n : ℕ). MakesSome c.args.count (extents_of c.args.size) (g.C.Core.rows c.args.core.now) (g.C.Core.rows c.making.core) c.making.arrays.items n)
    none c.making.invariant.makes
