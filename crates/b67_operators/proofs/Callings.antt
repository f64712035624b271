-- What an entry at the mark at F performs, step by step.
use Rattle.std.specs.Result.{IsErrAnd}
use Rattle.std.proofs.Common.{◌≡◌, ℕ, ◌+◌, ◌-◌, nat_le, Some, Result, Ok, Err}
use Rattle.b67_word.specs.declared.Place.{Place}
use Rattle.b67_control.specs.declared.Pcw.{Pcw}
use Rattle.b67_table.specs.declared.Entry.{Entry}
use Rattle.b67_table.specs.Limits.{most_cells}
use Rattle.b67_table.specs.Look.{Look, look_seen}
use Rattle.b67_table.specs.Linkage.{entering, entry}
use Rattle.b67_table.specs.Program.{Program, answer, see}
use Rattle.b67_reach.specs.declared.Stop.{Stop}
use Rattle.b67_reach.specs.Images.{Own}
use Rattle.b67_reach.specs.Answers.{looked, ProgramPerforms}
use Rattle.b67_reach.proofs.Looking.{tells_look, performs_then, performs_stop, exits}
use Rattle.b67_operators.specs.Entries.{entry_opening}

module _ (old : Own) (next df : ℕ) (pcw : Pcw) (home : Place) (r : Result (Unit {0}) Stop) where
  abbrev look : Look Entry
  look = entering old.regs next (nat_le (old.regs.s - (old.regs.f + 2)) most_cells) old.regs.f pcw (Some home)

  abbrev rest : Entry → Program
  rest e = answer (entry_opening old.regs next df pcw e)

  pub entry_goes : (new : Own) (e : Entry) → Ok e ≡ looked (look_seen old.stacks look) → ProgramPerforms (rest e) old new r
      → ProgramPerforms (entry old.regs next df pcw (Some home)) old new r
  entry_goes new e f q = performs_then (see look) rest e old new r (tells_look look old.stacks old.rows (Ok e) f) q

  pub entry_stops : (new : Own) (stop : Stop) → new ≡ old → ◌≡◌ {A = Result Entry Stop} (Err stop) (looked (look_seen old.stacks look)) → IsErrAnd r (λ e. e ≡ stop)
      → ProgramPerforms (entry old.regs next df pcw (Some home)) old new r
  entry_stops new stop same f e =
      exits (entry old.regs next df pcw (Some home)) old new r stop e
      (performs_stop (see look) rest stop old new (tells_look look old.stacks old.rows (Err stop) f) same)
