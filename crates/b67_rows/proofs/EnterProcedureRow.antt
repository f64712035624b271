-- ENTR on the reference of a procedure's control word: its home is the frame in which that word lies.
use Rattle.std.proofs.Common.{◌≡◌, ap, ◌∙◌, ℕ, ◌+◌, Option, Some, None, Ok}
use Rattle.b67_rows.proofs.Prelude.{Word, Place, as_irw, as_sirw, as_pcw, Irw, Mscw, Pcw, Registers, Sirw, Code, word_at, Effect, Image, ◌>->◌, valid, look_seen, display_at, Program, effect_of, asked, see, ◌>>=◌, cell_in, cell_of, irw_or_sirw, reached_in, one_sirw, enter_by, enter_procedure, Cell, Reached, called_by, Core}
use Rattle.b67_rows.proofs.EntryRow.{Leads}

module _ (code : Code) (img : Image) (core : Core) (next : ℕ) (reference : Word) (m : Mscw) (c : Pcw) (home : Place) (level index : ℕ)
    (reads : as_irw reference ≡ Some (record { level = level; index = index })) where
  abbrev r : Registers
  r = core.registers

  abbrev cell : Cell
  cell = record { frame = home; index = index }

  abbrev on_pcw : Place → Pcw → Program
  on_pcw h x = enter_procedure code r next m x (Some h)

  abbrev on_entry : Reached → Program
  on_entry v = see (valid (as_pcw v.word)) >>= on_pcw v.cell.frame

  pub procedure_leads : (entry : Word) → display_at core.registers level ≡ Some home → word_at img.stacks (record { stack = home.stack; at = home.at + index }) ≡ Some entry → as_sirw entry ≡ None → as_pcw entry ≡ Some c →
      Leads code img core next reference m c home
  procedure_leads entry shown lies no_sirw reads_entry p =
      ap (λ (i : Option Irw). tested (enter_by code r next m reference (irw_or_sirw r i (as_sirw reference)))) reads
      ∙ ap (λ (o : Option Place). tested (enter_by code r next m reference (cell_in o index))) shown
      ∙ ap (λ (o : Option Word). tested (see (reached_in cell o >-> (λ (v : Reached). one_sirw (as_sirw v.word) v)) >>= on_entry)) lies
      ∙ ap (λ (o : Option Sirw). tested (see (one_sirw o (record { word = entry; cell = cell })) >>= on_entry)) no_sirw
      ∙ ap (λ (o : Option Pcw). tested (see (valid o) >>= on_pcw home)) reads_entry
    where
      tested : Program → Effect Image
      tested t = effect_of p img (asked img t)

  -- that word is what is called
  pub procedure_calls : (entry : Word) → display_at core.registers level ≡ Some home → word_at img.stacks (record { stack = home.stack; at = home.at + index }) ≡ Some entry → as_sirw entry ≡ None → as_pcw entry ≡ Some c →
      look_seen img.stacks (called_by reference (cell_of core.registers reference)) ≡ Ok c
  procedure_calls entry shown lies no_sirw reads_entry =
      ap (λ (i : Option Irw). look_seen img.stacks (called_by reference (irw_or_sirw r i (as_sirw reference)))) reads
      ∙ ap (λ (o : Option Place). look_seen img.stacks (called_by reference (cell_in o index))) shown
      ∙ ap (λ (o : Option Word). look_seen img.stacks (reached_in cell o >-> (λ (v : Reached). one_sirw (as_sirw v.word) v) >-> (λ (v : Reached). valid (as_pcw v.word)))) lies
      ∙ ap (λ (o : Option Sirw). look_seen img.stacks (one_sirw o (record { word = entry; cell = cell }) >-> (λ (v : Reached). valid (as_pcw v.word)))) no_sirw
      ∙ ap (λ (o : Option Pcw). look_seen img.stacks (valid o)) reads_entry
