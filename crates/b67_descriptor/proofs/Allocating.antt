-- The making of one array: its tests and its rows.
use Rattle.std.proofs.Common.{◌≡◌, sym, ap, subst, ◌∙◌, ◌+◌, ◌*◌, ◌≤◌, ℤ, Bool, true, false, cond, List, Result, Ok, Err, arith}
use Rattle.std.specs.Prelude.{IfOk, IfErr}
use Rattle.std.proofs.lemmas.Bool.{le-leb}
use Rattle.b67_num.specs.declared.FaultKind.TheVariants as kinds
use Rattle.b67_control.specs.declared.Descriptor.{Descriptor}
use Rattle.b67_store.specs.Store.{Rows, counted_words, count_limit, least_free}
use Rattle.b67_table.specs.declared.InterruptKind.TheVariants as stops
use Rattle.b67_table.specs.Effect.{Effect, gives, faults, interrupts}
use Rattle.b67_table.specs.Image.{Image}
use Rattle.b67_table.specs.Beginning.{first_image}
use Rattle.b67_table.specs.Program.{asked, answer, fault}
use Rattle.b67_table.specs.Arrays.{Extents, elements, if_held}
use Rattle.b67_table.specs.Intrinsics.{extents}
use Rattle.b67_table.proofs.Seeing.{after_test, asked_then}
use Rattle.b67_descriptor.specs.declared.DescriptorFault.{DescriptorFault}
use Rattle.b67_descriptor.specs.declared.DescriptorFault.TheVariants.{InvalidIndex, ArraySize, CoreFull, InvalidOperand, NoMemory}
use Rattle.b67_descriptor.specs.declared.sizes.Size.{Size}
use Rattle.b67_descriptor.specs.Sizes.{numbers_of_bounds, extents_of, Sizes}
use Rattle.b67_descriptor.specs.Arrays.{wanted_extents, StoreHolds, ExtentsAnswer, Allocates, Makes, descriptor_by}

abbrev pub AreSized : List (ℤ × ℤ) → Result Size DescriptorFault → Type 0
AreSized bounds r = (img : Image) → Sizes (asked img (extents (numbers_of_bounds bounds))) r

then_held : (bounds : List (ℤ × ℤ)) (img : Image) (effect : Effect Extents) → asked img (extents (numbers_of_bounds bounds)) ≡ effect
    → asked img (wanted_extents bounds) ≡ after_test img effect (if_held 1)
then_held bounds img effect e =
    asked_then img (extents (numbers_of_bounds bounds)) (if_held 1) ∙ ap (λ (x : Effect Extents). after_test img x (if_held 1)) e

pub refused : (bounds : List (ℤ × ℤ)) (before : Rows) (why : DescriptorFault) → AreSized bounds (Err why) → Allocates bounds before before (Err why)
refused bounds before ArraySize h = λ img e. then_held bounds img (faults kinds.ArraySize) (h img)
refused bounds before InvalidOperand h = λ img e. then_held bounds img (interrupts stops.InvalidOperand) (h img)
refused bounds before InvalidIndex h = absurd (h first_image)
refused bounds before CoreFull h = absurd (h first_image)
refused bounds before NoMemory h = absurd (h first_image)

held_by : Image → Extents → Bool → Effect Extents
held_by img e b = asked img (cond b (answer e) (fault kinds.CoreFull))

held : (img : Image) (before : Rows) (e : Extents) → img.rows ≡ before → counted_words before + elements e ≤ count_limit → asked img (if_held 1 e) ≡ gives e
unfolding held_by
held img before e same h =
    ap (λ (b : Bool). held_by img e b) (le-leb (counted_words img.rows + 1 * elements e) count_limit
    (omega (arith, h, ap counted_words same)))

pub tested : (bounds : List (ℤ × ℤ)) (before : Rows) (size : Size) (b : Bool) → AreSized bounds (Ok size) → StoreHolds before (extents_of size) b → b ≡ true
    → ExtentsAnswer bounds before (gives (extents_of size))
tested bounds before size true h k e = λ img same. then_held bounds img (gives (extents_of size)) (h img) ∙ held img before (extents_of size) same k
tested bounds before size false h k e = cc

pub made : (bounds : List (ℤ × ℤ)) (before after : Rows) (size : Size) (r : Result Descriptor DescriptorFault) → ExtentsAnswer bounds before (gives (extents_of size))
    → IfOk r (Makes (extents_of size) before after) → IfOk r (λ d. d ≡ descriptor_by (extents_of size) (least_free before)) → IfErr r (λ why. why ≡ NoMemory)
    → Allocates bounds before after r
made bounds before after size (Ok d) t m e f = record { size = extents_of size; tested = t; made = m; described = e }
made bounds before after size (Err why) t m e f =
    subst (λ (w : DescriptorFault). Allocates bounds before after (Err w)) (sym f) (extents_of size, t)
