-- The control words: for each kind the table of its fields, the word that is packed, and what a word is read as.
use Rattle.std.specs.Prelude.{[], ◌∷◌, Option}
use Rattle.b67_word.specs.Word.{Word}
use Rattle.b67_control.specs.Layout.{Is, Number, Below, Flag, Layout, Values, Fit, packed, unpacked}
use Rattle.b67_control.specs.declared.Irw.{Irw}
use Rattle.b67_control.specs.declared.Sirw.{Sirw}
use Rattle.b67_control.specs.declared.Mscw.{Mscw}
use Rattle.b67_control.specs.declared.Rcw.{Rcw}
use Rattle.b67_control.specs.declared.SegmentWord.{SegmentWord}
use Rattle.b67_control.specs.declared.EventWord.{EventWord}
use Rattle.b67_control.specs.declared.Descriptor.{Descriptor}
use Rattle.b67_control.specs.declared.Pcw.{Pcw}

-- IRW: the level and the index of a couple
abbrev pub irw_layout : Layout
irw_layout = record { tag = 1; fields = Is 47 1 0 ∷ Is 46 28 0 ∷ Number 18 5 ∷ Number 13 14 ∷ [] }

abbrev pub irw_values : Irw → Values irw_layout.fields
irw_values x = (x.level, (x.index, tt))

abbrev pub irw_from : Values irw_layout.fields → Irw
irw_from v = record { level = v.0; index = v.1.0 }

abbrev pub Fits_irw : Irw → Type 0
Fits_irw x = Fit irw_layout.fields (irw_values x)

unfoldable pub irw_word : Irw → Word
irw_word x = packed irw_layout (irw_values x)

unfoldable pub as_irw : Word → Option Irw
as_irw w = unpacked irw_layout irw_from w

-- SIRW: a stack, the displacement of an MSCW in it, and the index of a cell of that frame
abbrev pub sirw_layout : Layout
sirw_layout = record { tag = 1; fields = Is 47 1 1 ∷ Number 46 10 ∷ Number 36 16 ∷ Is 20 7 0 ∷ Number 13 14 ∷ [] }

abbrev pub sirw_values : Sirw → Values sirw_layout.fields
sirw_values x = (x.stack, (x.displacement, (x.index, tt)))

abbrev pub sirw_from : Values sirw_layout.fields → Sirw
sirw_from v = record { stack = v.0; displacement = v.1.0; index = v.1.1.0 }

abbrev pub Fits_sirw : Sirw → Type 0
Fits_sirw x = Fit sirw_layout.fields (sirw_values x)

unfoldable pub sirw_word : Sirw → Word
sirw_word x = packed sirw_layout (sirw_values x)

unfoldable pub as_sirw : Word → Option Sirw
as_sirw w = unpacked sirw_layout sirw_from w

-- MSCW: whether the frame was entered, its static link, and the distance to the MSCW below it
abbrev pub mscw_layout : Layout
mscw_layout = record { tag = 3; fields = Is 47 2 0 ∷ Flag 45 ∷ Number 44 10 ∷ Number 34 16 ∷ Number 18 16 ∷ Is 2 3 0 ∷ [] }

abbrev pub mscw_values : Mscw → Values mscw_layout.fields
mscw_values x = (x.entered, (x.stack, (x.displacement, (x.df, tt))))

abbrev pub mscw_from : Values mscw_layout.fields → Mscw
mscw_from v = record { entered = v.0; stack = v.1.0; displacement = v.1.1.0; df = v.1.1.1.0 }

abbrev pub Fits_mscw : Mscw → Type 0
Fits_mscw x = Fit mscw_layout.fields (mscw_values x)

unfoldable pub mscw_word : Mscw → Word
mscw_word x = packed mscw_layout (mscw_values x)

unfoldable pub as_mscw : Word → Option Mscw
as_mscw w = unpacked mscw_layout mscw_from w

-- RCW: where the caller goes on, the caller's level and cells, and the frame's own level
abbrev pub rcw_layout : Layout
rcw_layout = record { tag = 3; fields = Is 47 2 1 ∷ Number 45 10 ∷ Below 35 3 6 ∷ Number 32 13 ∷ Number 19 5 ∷ Number 14 9 ∷ Number 5 5 ∷ Is 0 1 0 ∷ [] }

abbrev pub rcw_values : Rcw → Values rcw_layout.fields
rcw_values x = (x.segment, (x.psr, (x.pir, (x.caller_level, (x.caller_cells, (x.own_level, tt))))))

abbrev pub rcw_from : Values rcw_layout.fields → Rcw
rcw_from v = record {
  segment = v.0;
  psr = v.1.0;
  pir = v.1.1.0;
  caller_level = v.1.1.1.0;
  caller_cells = v.1.1.1.1.0;
  own_level = v.1.1.1.1.1.0;
}

abbrev pub Fits_rcw : Rcw → Type 0
Fits_rcw x = Fit rcw_layout.fields (rcw_values x)

unfoldable pub rcw_word : Rcw → Word
rcw_word x = packed rcw_layout (rcw_values x)

unfoldable pub as_rcw : Word → Option Rcw
as_rcw w = unpacked rcw_layout rcw_from w

-- segment descriptor: a segment of code, and its length in words
abbrev pub segment_layout : Layout
segment_layout = record { tag = 3; fields = Is 47 2 2 ∷ Number 45 10 ∷ Is 35 22 0 ∷ Number 13 14 ∷ [] }

abbrev pub segment_values : SegmentWord → Values segment_layout.fields
segment_values x = (x.segment, (x.length, tt))

abbrev pub segment_from : Values segment_layout.fields → SegmentWord
segment_from v = record { segment = v.0; length = v.1.0 }

abbrev pub Fits_segment : SegmentWord → Type 0
Fits_segment x = Fit segment_layout.fields (segment_values x)

unfoldable pub segment_word : SegmentWord → Word
segment_word x = packed segment_layout (segment_values x)

unfoldable pub as_segment : Word → Option SegmentWord
as_segment w = unpacked segment_layout segment_from w

-- event word: it holds nothing, since the kernel keeps the event by its place
abbrev pub event_layout : Layout
event_layout = record { tag = 3; fields = Is 47 2 3 ∷ Is 45 46 0 ∷ [] }

abbrev pub event_values : EventWord → Values event_layout.fields
event_values x = tt

abbrev pub event_from : Values event_layout.fields → EventWord
event_from v = record {}

abbrev pub Fits_event : EventWord → Type 0
Fits_event x = Fit event_layout.fields (event_values x)

unfoldable pub event_word : EventWord → Word
event_word x = packed event_layout (event_values x)

unfoldable pub as_event : Word → Option EventWord
as_event w = unpacked event_layout event_from w

-- data descriptor: an array's row, and its length, or an index into it where it is indexed
abbrev pub descriptor_layout : Layout
descriptor_layout = record { tag = 5; fields = Flag 47 ∷ Flag 46 ∷ Flag 45 ∷ Flag 44 ∷ Number 43 22 ∷ Number 21 22 ∷ [] }

abbrev pub descriptor_values : Descriptor → Values descriptor_layout.fields
descriptor_values x = (x.presence, (x.copy, (x.indexed, (x.mother, (x.length, (x.address, tt))))))

abbrev pub descriptor_from : Values descriptor_layout.fields → Descriptor
descriptor_from v = record {
  presence = v.0;
  copy = v.1.0;
  indexed = v.1.1.0;
  mother = v.1.1.1.0;
  length = v.1.1.1.1.0;
  address = v.1.1.1.1.1.0;
}

abbrev pub Fits_descriptor : Descriptor → Type 0
Fits_descriptor x = Fit descriptor_layout.fields (descriptor_values x)

unfoldable pub descriptor_word : Descriptor → Word
descriptor_word x = packed descriptor_layout (descriptor_values x)

unfoldable pub as_descriptor : Word → Option Descriptor
as_descriptor w = unpacked descriptor_layout descriptor_from w

-- PCW: where a procedure's code begins and its level, or the number of an intrinsic
abbrev pub pcw_layout : Layout
pcw_layout = record { tag = 7; fields = Flag 47 ∷ Flag 46 ∷ Number 45 10 ∷ Below 35 3 6 ∷ Number 32 13 ∷ Number 19 5 ∷ Number 14 15 ∷ [] }

abbrev pub pcw_values : Pcw → Values pcw_layout.fields
pcw_values x = (x.intrinsic, (x.names, (x.segment, (x.psr, (x.pir, (x.level, (x.number, tt)))))))

abbrev pub pcw_from : Values pcw_layout.fields → Pcw
pcw_from v = record {
  intrinsic = v.0;
  names = v.1.0;
  segment = v.1.1.0;
  psr = v.1.1.1.0;
  pir = v.1.1.1.1.0;
  level = v.1.1.1.1.1.0;
  number = v.1.1.1.1.1.1.0;
}

abbrev pub Fits_pcw : Pcw → Type 0
Fits_pcw x = Fit pcw_layout.fields (pcw_values x)

unfoldable pub pcw_word : Pcw → Word
pcw_word x = packed pcw_layout (pcw_values x)

unfoldable pub as_pcw : Word → Option Pcw
as_pcw w = unpacked pcw_layout pcw_from w
