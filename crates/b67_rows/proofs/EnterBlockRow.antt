-- ENTR on the control word of a block: its home is the frame of the level below.
use Rattle.std.proofs.Common.{◌≡◌, ap, ◌∙◌, ℕ, Option, Some, None, Ok}
use Rattle.b67_rows.proofs.Prelude.{Word, Place, as_irw, as_sirw, as_pcw, Irw, Mscw, Pcw, Registers, Sirw, Code, Effect, Image, valid, look_seen, Program, effect_of, asked, see, ◌>>=◌, irw_or_sirw, cell_of, enter_by, enter_procedure, level_below, called_by, Core}
use Rattle.b67_rows.proofs.EntryRow.{Leads}

module _ (code : Code) (img : Image) (core : Core) (next : ℕ) (control : Word) (m : Mscw) (c : Pcw) (home : Place) (no_irw : as_irw control ≡ None) where
  abbrev r : Registers
  r = core.registers

  abbrev on_pcw : Pcw → Program
  on_pcw x = enter_procedure code r next m x (level_below r x.level)

  pub block_leads : as_sirw control ≡ None → as_pcw control ≡ Some c → level_below core.registers c.level ≡ Some home → Leads code img core next control m c home
  block_leads no_sirw reads home_at p =
      ap (λ (i : Option Irw). tested (enter_by code r next m control (irw_or_sirw r i (as_sirw control)))) no_irw
      ∙ ap (λ (i : Option Sirw). tested (enter_by code r next m control (irw_or_sirw r None i))) no_sirw
      ∙ ap (λ (o : Option Pcw). tested (see (valid o) >>= on_pcw)) reads
      ∙ ap (λ (h : Option Place). tested (enter_procedure code r next m c h)) home_at
    where
      tested : Program → Effect Image
      tested t = effect_of p img (asked img t)

  -- it is what is called
  pub block_calls : as_sirw control ≡ None → as_pcw control ≡ Some c → look_seen img.stacks (called_by control (cell_of core.registers control)) ≡ Ok c
  block_calls no_sirw reads =
      ap (λ (i : Option Irw). look_seen img.stacks (called_by control (irw_or_sirw r i (as_sirw control)))) no_irw
      ∙ ap (λ (i : Option Sirw). look_seen img.stacks (called_by control (irw_or_sirw r None i))) no_sirw
      ∙ ap (λ (o : Option Pcw). look_seen img.stacks (valid o)) reads
