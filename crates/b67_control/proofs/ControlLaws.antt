-- The laws of each kind of control word, for proofs above this crate: no bit of a word is seen there.
use Rattle.std.proofs.Common.{◌≡◌, ◌≢◌, ℕ, Bool, true, List, [], ◌∷◌, refl, sym, ◌∙◌, ap, ◌==◌, ◌<◌, ◌^◌, subst, lit<}
use Rattle.std.proofs.lemmas.Bool.{eqb-true, and_parts}
use Rattle.std.specs.Prelude.{ℤ, Option, Some, None}
use Rattle.b67_word.proofs.WordLaws.{as_whole_tag, as_whole_other, as_truth_tag, as_truth_other}
use Rattle.b67_word.specs.Word.{Word, IsWord, field, operand, as_whole, as_truth}
use Rattle.b67_control.specs.Layout.{Layout, Field, Is, Values, Fit, is_laid_out, is_tiled, packed, unpacked, values_in}
use Rattle.b67_control.specs.Kind.{Kind, kind_of}
use Rattle.b67_control.specs.Kind as kind
use Rattle.b67_control.specs.Control.{irw_layout, irw_values, irw_from, Fits_irw, irw_word, as_irw, sirw_layout, sirw_values, sirw_from, Fits_sirw, sirw_word, as_sirw, mscw_layout, mscw_values, mscw_from, Fits_mscw, mscw_word, as_mscw, rcw_layout, rcw_values, rcw_from, Fits_rcw, rcw_word, as_rcw, segment_layout, segment_values, segment_from, Fits_segment, segment_word, as_segment, event_layout, event_values, event_from, Fits_event, event_word, as_event, descriptor_layout, descriptor_values, descriptor_from, Fits_descriptor, descriptor_word, as_descriptor, pcw_layout, pcw_values, pcw_from, Fits_pcw, pcw_word, as_pcw}
use Rattle.b67_control.specs.Laws.{ReadsBack, OperandsAreApart}
use Rattle.b67_control.specs.declared.Irw.{Irw}
use Rattle.b67_control.specs.declared.Sirw.{Sirw}
use Rattle.b67_control.specs.declared.Mscw.{Mscw}
use Rattle.b67_control.specs.declared.Rcw.{Rcw}
use Rattle.b67_control.specs.declared.EventWord.{EventWord}
use Rattle.b67_control.specs.declared.Descriptor.{Descriptor}
use Rattle.b67_control.specs.declared.Pcw.{Pcw}
use Rattle.b67_control.proofs.LayoutLaws.{bits_of_fits, OfKind, packed_values_in, unpacked_packed, unpacked_some, Fit_values_in}

-- what a table of fields and its record have to do with one another
record Shape {K : Type 0} (k : Kind) (l : Layout) (values : K → Values l.fields) (from : Values l.fields → K) : Type 0 where
  tag : l.tag < 2 ^ 3
  tiled : is_tiled 48 l.fields ≡ true
  there : (x : K) → from (values x) ≡ x
  back : (v : Values l.fields) → values (from v) ≡ v
  kind : (w : Word) → OfKind l w → kind_of w ≡ k

none_of : {K : Type 0} (o : Option K) → ((x : K) → o ≡ Some x → ⊥) → o ≡ None
none_of None f = refl
none_of (Some x) f = absurd (f x refl)

-- the laws of a kind, from its table
laws : {K : Type 0} (k : Kind) (l : Layout) (values : K → Values l.fields) (from : Values l.fields → K) → Shape k l values from
    → ReadsBack k (λ x. Fit l.fields (values x)) (λ x. packed l (values x)) (unpacked l from)
laws k l values from s = record {
  back = λ x fit. unpacked_packed l from (values x) s.tiled fit ∙ ap Some (s.there x);
  is_word = λ x fit. record { tag = s.tag; bits = bits_of_fits l.fields (values x) 48 s.tiled fit };
  only = λ w x e. let p = unpacked_some l from w x e in
      packed_values_in l w s.tiled p.0 ∙ ap (packed l) (sym (s.back (values_in l.fields w.bits)) ∙ ap values p.1);
  holds = λ w x e. let p = unpacked_some l from w x e in
      let v = values_in l.fields w.bits in
      subst (λ (u : Values l.fields). Fit l.fields u) (sym (s.back v) ∙ ap values p.1) (Fit_values_in l.fields w.bits p.0.laid_out);
  kind = λ w x e. s.kind w (unpacked_some l from w x e).0;
  other = λ w h. none_of (unpacked l from w) (λ x e. h (s.kind w (unpacked_some l from w x e).0));
}

-- the fields after the first
abbrev rest_of : List Field → List Field
rest_of [] = []
rest_of (f ∷ fields) = fields

-- a fixed field at the top has its value
first_is : (s n value bits : ℕ) (fields : List Field) → is_laid_out (Is s n value ∷ fields) bits ≡ true → field s n bits ≡ value
first_is s n value bits fields e = eqb-true (field s n bits) value (and_parts (field s n bits == value) (is_laid_out fields bits) e).0

-- ---- IRW
irw_kind : (w : Word) → OfKind irw_layout w → kind_of w ≡ kind.irw
unfolding kind_of
irw_kind w k = rw (k.tag, first_is 47 1 0 w.bits (rest_of irw_layout.fields) k.laid_out) refl

pub irw_laws : ReadsBack kind.irw Fits_irw irw_word as_irw
unfolding irw_word as_irw
irw_laws = laws kind.irw irw_layout irw_values irw_from (record { tag = lit< tt; tiled = refl; there = λ x. refl; back = λ v. refl; kind = irw_kind })

pub as_irw_irw_word : (x : Irw) → Fits_irw x → as_irw (irw_word x) ≡ Some x
as_irw_irw_word = irw_laws.back

pub Fits_as_irw : (w : Word) {x : Irw} → as_irw w ≡ Some x → Fits_irw x
Fits_as_irw w {x} e = irw_laws.holds w x e

pub IsWord_irw_word : (x : Irw) → Fits_irw x → IsWord (irw_word x)
IsWord_irw_word = irw_laws.is_word

pub kind_of_irw_word : (x : Irw) → Fits_irw x → kind_of (irw_word x) ≡ kind.irw
kind_of_irw_word x fit = irw_laws.kind (irw_word x) x (irw_laws.back x fit)

-- ---- SIRW
sirw_kind : (w : Word) → OfKind sirw_layout w → kind_of w ≡ kind.sirw
unfolding kind_of
sirw_kind w k = rw (k.tag, first_is 47 1 1 w.bits (rest_of sirw_layout.fields) k.laid_out) refl

pub sirw_laws : ReadsBack kind.sirw Fits_sirw sirw_word as_sirw
unfolding sirw_word as_sirw
sirw_laws = laws kind.sirw sirw_layout sirw_values sirw_from (record { tag = lit< tt; tiled = refl; there = λ x. refl; back = λ v. refl; kind = sirw_kind })

pub Fits_as_sirw : (w : Word) {x : Sirw} → as_sirw w ≡ Some x → Fits_sirw x
Fits_as_sirw w {x} e = sirw_laws.holds w x e

pub IsWord_sirw_word : (x : Sirw) → Fits_sirw x → IsWord (sirw_word x)
IsWord_sirw_word = sirw_laws.is_word

pub as_sirw_other : (w : Word) → kind_of w ≢ kind.sirw → as_sirw w ≡ None
as_sirw_other = sirw_laws.other

-- ---- MSCW
mscw_kind : (w : Word) → OfKind mscw_layout w → kind_of w ≡ kind.mscw
unfolding kind_of
mscw_kind w k = rw (k.tag, first_is 47 2 0 w.bits (rest_of mscw_layout.fields) k.laid_out) refl

pub mscw_laws : ReadsBack kind.mscw Fits_mscw mscw_word as_mscw
unfolding mscw_word as_mscw
mscw_laws = laws kind.mscw mscw_layout mscw_values mscw_from (record { tag = lit< tt; tiled = refl; there = λ x. refl; back = λ v. refl; kind = mscw_kind })

pub as_mscw_mscw_word : (x : Mscw) → Fits_mscw x → as_mscw (mscw_word x) ≡ Some x
as_mscw_mscw_word = mscw_laws.back

pub mscw_word_as_mscw : (w : Word) {x : Mscw} → as_mscw w ≡ Some x → w ≡ mscw_word x
mscw_word_as_mscw w {x} e = mscw_laws.only w x e

pub Fits_as_mscw : (w : Word) {x : Mscw} → as_mscw w ≡ Some x → Fits_mscw x
Fits_as_mscw w {x} e = mscw_laws.holds w x e

pub IsWord_mscw_word : (x : Mscw) → Fits_mscw x → IsWord (mscw_word x)
IsWord_mscw_word = mscw_laws.is_word

-- ---- RCW
rcw_kind : (w : Word) → OfKind rcw_layout w → kind_of w ≡ kind.rcw
unfolding kind_of
rcw_kind w k = rw (k.tag, first_is 47 2 1 w.bits (rest_of rcw_layout.fields) k.laid_out) refl

pub rcw_laws : ReadsBack kind.rcw Fits_rcw rcw_word as_rcw
unfolding rcw_word as_rcw
rcw_laws = laws kind.rcw rcw_layout rcw_values rcw_from (record { tag = lit< tt; tiled = refl; there = λ x. refl; back = λ v. refl; kind = rcw_kind })

pub as_rcw_rcw_word : (x : Rcw) → Fits_rcw x → as_rcw (rcw_word x) ≡ Some x
as_rcw_rcw_word = rcw_laws.back

pub rcw_word_as_rcw : (w : Word) {x : Rcw} → as_rcw w ≡ Some x → w ≡ rcw_word x
rcw_word_as_rcw w {x} e = rcw_laws.only w x e

pub Fits_as_rcw : (w : Word) {x : Rcw} → as_rcw w ≡ Some x → Fits_rcw x
Fits_as_rcw w {x} e = rcw_laws.holds w x e

pub IsWord_rcw_word : (x : Rcw) → Fits_rcw x → IsWord (rcw_word x)
IsWord_rcw_word = rcw_laws.is_word

-- ---- segment descriptors
segment_kind : (w : Word) → OfKind segment_layout w → kind_of w ≡ kind.segment
unfolding kind_of
segment_kind w k = rw (k.tag, first_is 47 2 2 w.bits (rest_of segment_layout.fields) k.laid_out) refl

pub segment_laws : ReadsBack kind.segment Fits_segment segment_word as_segment
unfolding segment_word as_segment
segment_laws = laws kind.segment segment_layout segment_values segment_from (record { tag = lit< tt; tiled = refl; there = λ x. refl; back = λ v. refl; kind = segment_kind })

-- ---- event words
event_kind : (w : Word) → OfKind event_layout w → kind_of w ≡ kind.event
unfolding kind_of
event_kind w k = rw (k.tag, first_is 47 2 3 w.bits (rest_of event_layout.fields) k.laid_out) refl

pub event_laws : ReadsBack kind.event Fits_event event_word as_event
unfolding event_word as_event
event_laws = laws kind.event event_layout event_values event_from (record { tag = lit< tt; tiled = refl; there = λ x. refl; back = λ v. refl; kind = event_kind })

pub IsWord_event_word : (x : EventWord) → Fits_event x → IsWord (event_word x)
IsWord_event_word = event_laws.is_word

-- ---- data descriptors
descriptor_kind : (w : Word) → OfKind descriptor_layout w → kind_of w ≡ kind.descriptor
unfolding kind_of
descriptor_kind w k = rw k.tag refl

pub descriptor_laws : ReadsBack kind.descriptor Fits_descriptor descriptor_word as_descriptor
unfolding descriptor_word as_descriptor
descriptor_laws = laws kind.descriptor descriptor_layout descriptor_values descriptor_from (record { tag = lit< tt; tiled = refl; there = λ x. refl; back = λ v. refl; kind = descriptor_kind })

pub as_descriptor_descriptor_word : (x : Descriptor) → Fits_descriptor x → as_descriptor (descriptor_word x) ≡ Some x
as_descriptor_descriptor_word = descriptor_laws.back

pub descriptor_word_as_descriptor : (w : Word) {x : Descriptor} → as_descriptor w ≡ Some x → w ≡ descriptor_word x
descriptor_word_as_descriptor w {x} e = descriptor_laws.only w x e

pub Fits_as_descriptor : (w : Word) {x : Descriptor} → as_descriptor w ≡ Some x → Fits_descriptor x
Fits_as_descriptor w {x} e = descriptor_laws.holds w x e

pub IsWord_descriptor_word : (x : Descriptor) → Fits_descriptor x → IsWord (descriptor_word x)
IsWord_descriptor_word = descriptor_laws.is_word

-- ---- PCW
pcw_kind : (w : Word) → OfKind pcw_layout w → kind_of w ≡ kind.pcw
unfolding kind_of
pcw_kind w k = rw k.tag refl

pub pcw_laws : ReadsBack kind.pcw Fits_pcw pcw_word as_pcw
unfolding pcw_word as_pcw
pcw_laws = laws kind.pcw pcw_layout pcw_values pcw_from (record { tag = lit< tt; tiled = refl; there = λ x. refl; back = λ v. refl; kind = pcw_kind })

pub as_pcw_pcw_word : (x : Pcw) → Fits_pcw x → as_pcw (pcw_word x) ≡ Some x
as_pcw_pcw_word = pcw_laws.back

pub Fits_as_pcw : (w : Word) {x : Pcw} → as_pcw w ≡ Some x → Fits_pcw x
Fits_as_pcw w {x} e = pcw_laws.holds w x e

pub kind_of_pcw_word : (x : Pcw) → Fits_pcw x → kind_of (pcw_word x) ≡ kind.pcw
kind_of_pcw_word x fit = pcw_laws.kind (pcw_word x) x (pcw_laws.back x fit)

pub as_pcw_other : (w : Word) → kind_of w ≢ kind.pcw → as_pcw w ≡ None
as_pcw_other = pcw_laws.other

-- ---- words of tag 0
pub tag_zero : (w : Word) → w.tag ≡ 0 → kind_of w ≡ kind.operand
unfolding kind_of
tag_zero w e = rw e refl

kind_of_as_whole : (w : Word) {z : ℤ} → as_whole w ≡ Some z → kind_of w ≡ kind.operand
kind_of_as_whole w {z} e = tag_zero w (as_whole_tag w z e)

kind_of_as_truth : (w : Word) {b : Bool} → as_truth w ≡ Some b → kind_of w ≡ kind.operand
kind_of_as_truth w {b} e = tag_zero w (as_truth_tag w b e)

as_whole_no_operand : (w : Word) → kind_of w ≢ kind.operand → as_whole w ≡ None
as_whole_no_operand w h = as_whole_other w (λ e. h (tag_zero w e))

as_truth_no_operand : (w : Word) → kind_of w ≢ kind.operand → as_truth w ≡ None
as_truth_no_operand w h = as_truth_other w (λ e. h (tag_zero w e))

pub operands_apart : OperandsAreApart
operands_apart = record {
  whole_kind = λ w z e. kind_of_as_whole w e;
  whole_other = as_whole_no_operand;
  truth_kind = λ w b e. kind_of_as_truth w e;
  truth_other = as_truth_no_operand;
}
