-- The kinds of word that the tag and the topmost bits tell apart. A word is read as one kind at most.
use Rattle.std.specs.Prelude.{ℕ, ◌==◌, if◌then◌else◌}
use Rattle.b67_word.specs.Word.{Word, field}

pub data Kind : Type 0 where
  operand : Kind
  irw : Kind
  sirw : Kind
  mscw : Kind
  rcw : Kind
  segment : Kind
  event : Kind
  descriptor : Kind
  pcw : Kind
  no_kind : Kind

abbrev pub kind_by_top : ℕ → Kind
kind_by_top top = if top == 0 then mscw else if top == 1 then rcw else if top == 2 then segment else event

-- the one kind that a word can be read as
unfoldable pub kind_of : Word → Kind
kind_of w =
    if w.tag == 0 then operand
    else if w.tag == 1 then (if field 47 1 w.bits == 0 then irw else sirw)
    else if w.tag == 3 then kind_by_top (field 47 2 w.bits)
    else if w.tag == 5 then descriptor
    else if w.tag == 7 then pcw
    else no_kind
