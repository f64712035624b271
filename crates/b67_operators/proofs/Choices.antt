-- ENTR looks at what it calls, and then does that.
use Rattle.std.proofs.Common.{◌≡◌, refl, sym, ap, ◌∙◌, ℕ, ◌+◌, take, drop, Option, Some, None}
use Rattle.b67_word.specs.Word.{Word}
use Rattle.b67_control.specs.declared.Registers.{Registers}
use Rattle.b67_control.specs.declared.Mscw.{Mscw}
use Rattle.b67_control.specs.declared.Pcw.{Pcw}
use Rattle.b67_control.specs.Control.{as_pcw}
use Rattle.b67_segment.specs.declared.code.Code.{Code}
use Rattle.b67_store.specs.Store.{word_at, words_of}
use Rattle.b67_table.specs.declared.Cell.{Cell}
use Rattle.b67_table.specs.declared.Reached.{Reached}
use Rattle.b67_table.specs.Chains.{place}
use Rattle.b67_table.specs.Image.{Image}
use Rattle.b67_table.specs.Look.{Look, found, stops, at, several, ◌>->◌, valid}
use Rattle.b67_table.specs.Program.{Test, asked, see, ◌>>=◌, effect_of}
use Rattle.b67_table.specs.References.{cell_of, reached}
use Rattle.b67_table.specs.Rows.{marked, enter_by, enter_procedure, level_below}
use Rattle.b67_operators.specs.Entries.{called_by, enter_called, EntersWhatItCalls}

-- a look after another, as one look
one_look : {A B C : Type 0} (img : Image) (l : Look A) (f : A → Look B) (k : B → Test C)
    → asked img (see (l >-> f) >>= k) ≡ asked img (see l >>= (λ a. see (f a) >>= k))
one_look img (found a) f k = refl
one_look img (stops kind) f k = refl
one_look img (at place more) f k = one_look img (more (word_at img.stacks place)) f k
one_look img (several place n more) f k = one_look img (more (take n (drop place.at (words_of img.stacks place.stack)))) f k

-- what comes after a look may be replaced by what is told the same
then_alike : {A C : Type 0} (img : Image) (l : Look A) (f g : A → Test C) → ((a : A) → asked img (f a) ≡ asked img (g a))
    → asked img (see l >>= f) ≡ asked img (see l >>= g)
then_alike img (found a) f g h = h a
then_alike img (stops kind) f g h = refl
then_alike img (at place more) f g h = then_alike img (more (word_at img.stacks place)) f g h
then_alike img (several place n more) f g h = then_alike img (more (take n (drop place.at (words_of img.stacks place.stack)))) f g h

module _ (code : Code) (r : Registers) (next : ℕ) (img : Image) where
  by_word : (m : Mscw) (w : Word) (o : Option Cell) → asked img (enter_by code r next m w o) ≡ asked img (see (called_by r m w o) >>= enter_called code r next)
  by_word m w None =
      sym (one_look img (valid (as_pcw w)) (λ (pcw : Pcw). found (record { mark = m; pcw = pcw; home = level_below r pcw.level })) (enter_called code r next))
  by_word m w (Some c) =
      then_alike img (reached (Some c)) (λ (v : Reached). see (valid (as_pcw v.word)) >>= (λ (pcw : Pcw). enter_procedure code r next m pcw (Some v.cell.frame)))
      (λ (v : Reached). see (valid (as_pcw v.word) >-> (λ (pcw : Pcw). found (record { mark = m; pcw = pcw; home = Some v.cell.frame }))) >>= enter_called code r next)
      (λ (v : Reached). sym (one_look img (valid (as_pcw v.word)) (λ (pcw : Pcw). found (record { mark = m; pcw = pcw; home = Some v.cell.frame })) (enter_called code r next)))
      ∙ sym (one_look img (reached (Some c)) (λ (v : Reached). valid (as_pcw v.word) >-> (λ (pcw : Pcw). found (record { mark = m; pcw = pcw; home = Some v.cell.frame }))) (enter_called code r next))

  abbrev above : Look Word
  above = at (place r.stack (r.f + 1)) (λ (w : Option Word). valid w)

  by_mark : (m : Mscw) → asked img (see above >>= (λ (w : Word). enter_by code r next m w (cell_of r w)))
      ≡ asked img (see (above >-> (λ (w : Word). called_by r m w (cell_of r w))) >>= enter_called code r next)
  by_mark m =
      then_alike img above (λ (w : Word). enter_by code r next m w (cell_of r w)) (λ (w : Word). see (called_by r m w (cell_of r w)) >>= enter_called code r next)
      (λ (w : Word). by_word m w (cell_of r w))
      ∙ sym (one_look img above (λ (w : Word). called_by r m w (cell_of r w)) (enter_called code r next))

pub enters_what_it_calls : EntersWhatItCalls
enters_what_it_calls code r next p img =
    ap (effect_of p img)
    (then_alike img (marked r) (λ (m : Mscw). see (above code r next img) >>= (λ (w : Word). enter_by code r next m w (cell_of r w)))
    (λ (m : Mscw). see (above code r next img >-> (λ (w : Word). called_by r m w (cell_of r w))) >>= enter_called code r next) (by_mark code r next img)
    ∙ sym (one_look img (marked r) (λ (m : Mscw). above code r next img >-> (λ (w : Word). called_by r m w (cell_of r w))) (enter_called code r next)))
