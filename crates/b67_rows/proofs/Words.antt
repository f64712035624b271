-- What the words of values, events, references and marks are read as.
use Rattle.std.proofs.Common.{◌≡◌, ◌≢◌, refl, sym, ap, ◌∙◌, ℕ, ◌<◌, ◌^◌, Some, None, Bool, true, false, lit<}
use Rattle.b67_rows.proofs.Prelude.{◌==◌, if◌then◌else◌, Value, number, truth, Word, as_sirw_other, as_pcw_other, descriptor_laws, as_irw, as_sirw, as_descriptor, as_mscw, as_pcw, event_word, Pcw, Couple, as_indexed, reference, cell_word, Cell, ValueIs}
use Rattle.b67_word.specs.Word.{field}
use Rattle.b67_word.proofs.WordLaws.{operand_has_tag}
use Rattle.b67_control.specs.Kind as kind
use Rattle.b67_control.specs.Kind.{kind_of}
use Rattle.b67_control.specs.Control.{as_event, pcw_word, sirw_word}
use Rattle.b67_control.proofs.ControlLaws.{as_irw_irw_word, as_mscw_mscw_word, kind_of_irw_word, event_laws, tag_zero}
use Rattle.b67_table.specs.Arrays.{indexed_in}
use Rattle.b67_table.specs.PrivateRows.{open_mark}

pub value_tag : (v : Value) (w : Word) → ValueIs v w → w.tag ≡ 0
value_tag (number z) w is = ap (λ (x : Word). x.tag) is.is ∙ operand_has_tag z
value_tag (truth b) w is = is.tag

pub no_sirw : (w : Word) → w.tag ≡ 0 → as_sirw w ≡ None
no_sirw w e = as_sirw_other w (λ k. let is = sym (tag_zero w e) ∙ k in cc)

pub no_pcw : (w : Word) → w.tag ≡ 0 → as_pcw w ≡ None
no_pcw w e = as_pcw_other w (λ k. let is = sym (tag_zero w e) ∙ k in cc)

pub no_descriptor : (w : Word) → w.tag ≡ 0 → as_descriptor w ≡ None
no_descriptor w e = descriptor_laws.other w (λ k. let is = sym (tag_zero w e) ∙ k in cc)

-- so is the control word of code
pub pcw_kind : (x : Pcw) → kind_of (pcw_word x) ≡ kind.pcw
unfolding kind_of pcw_word
pcw_kind x = refl

pub pcw_describes_nothing : (x : Pcw) → as_descriptor (pcw_word x) ≡ None
pcw_describes_nothing x = descriptor_laws.other (pcw_word x) (λ k. let is = sym (pcw_kind x) ∙ k in cc)

pub pcw_refers_nothing : (x : Pcw) → as_sirw (pcw_word x) ≡ None
pcw_refers_nothing x = as_sirw_other (pcw_word x) (λ k. let is = sym (pcw_kind x) ∙ k in cc)

-- ---- events

pub event_kind : kind_of (event_word (record {})) ≡ kind.event
event_kind = event_laws.kind (event_word (record {})) (record {}) (event_laws.back (record {}) tt)

pub event_read : as_event (event_word (record {})) ≡ Some (record {})
event_read = event_laws.back (record {}) tt

pub event_describes_nothing : as_descriptor (event_word (record {})) ≡ None
event_describes_nothing = descriptor_laws.other (event_word (record {})) (λ k. let is = sym event_kind ∙ k in cc)

pub event_refers_nothing : as_sirw (event_word (record {})) ≡ None
event_refers_nothing = as_sirw_other (event_word (record {})) (λ k. let is = sym event_kind ∙ k in cc)

-- ---- references

pub reference_read : (c : Couple) → c.level < 32 → c.index < 2 ^ 14 → as_irw (reference c) ≡ Some (record { level = c.level; index = c.index })
reference_read c a b = as_irw_irw_word (record { level = c.level; index = c.index }) (a, (b, tt))

pub reference_unindexed : (c : Couple) → c.level < 32 → c.index < 2 ^ 14 → as_indexed (reference c) ≡ None
reference_unindexed c a b =
    ap indexed_in (descriptor_laws.other (reference c) (λ k. let is = sym (kind_of_irw_word (record { level = c.level; index = c.index }) (a, (b, tt))) ∙ k in cc))

-- a word of tag 1 describes nothing
reference_describes_nothing : (w : Word) → w.tag ≡ 1 → as_descriptor w ≡ None
unfolding kind_of
reference_describes_nothing w e = descriptor_laws.other w (by_field (field 47 1 w.bits == 0) (rw e refl))
  where
    by_field : (b : Bool) → kind_of w ≡ (if b then kind.irw else kind.sirw) → kind_of w ≢ kind.descriptor
    by_field true is k = cc
    by_field false is k = cc

-- so does the reference that is read alike everywhere
pub cell_describes_nothing : (c : Cell) → as_descriptor (cell_word c) ≡ None
unfolding sirw_word
cell_describes_nothing c = reference_describes_nothing (cell_word c) refl

-- ---- marks

pub mark_read : (df : ℕ) → df < 2 ^ 16 → as_mscw (open_mark df) ≡ Some (record { entered = false; stack = 0; displacement = 0; df = df })
mark_read df a = as_mscw_mscw_word (record { entered = false; stack = 0; displacement = 0; df = df }) (lit< tt, (lit< tt, (a, tt)))
