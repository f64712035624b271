-- What ENTR performs where nothing stops it and the display stays as it is below the level of the frame that is entered.
use Rattle.std.specs.Prelude.{nat_le}
use Rattle.std.proofs.Common.{◌≡◌, sym, ap, subst, ◌∙◌, ℕ, ◌+◌, ◌-◌, ◌≤◌, Bool, true, false, cond, Option, Some, None, Result, Ok}
use Rattle.std.proofs.lemmas.Bool.{le-leb}
use Rattle.b67_word.specs.declared.Place.{Place}
use Rattle.b67_segment.specs.declared.code.Code.{Code}
use Rattle.b67_table.specs.Limits.{most_cells}
use Rattle.b67_table.specs.Look.{look_seen}
use Rattle.b67_table.specs.Linkage.{entering, entry}
use Rattle.b67_table.specs.Outcome.{limited}
use Rattle.b67_table.specs.Program.{Program, answer, see, ◌>>=◌}
use Rattle.b67_table.specs.Rows.{enter}
use Rattle.b67_table.specs.Table.{stack_length}
use Rattle.b67_linkage.specs.Showing.{entry_shown}
use Rattle.b67_reach.specs.declared.Stop.{Stop}
use Rattle.b67_reach.specs.Images.{Own}
use Rattle.b67_reach.specs.Answers.{looked, ProgramPerforms}
use Rattle.b67_reach.proofs.Looking.{tells_look, performs_then}
use Rattle.b67_operators.specs.declared.calling.Called.{Called}
use Rattle.b67_operators.specs.Entries.{entry_opening, procedure_called, enter_called}
use Rattle.b67_operators.proofs.Callings.{entry_goes}
use Rattle.b67_operators.proofs.Choices.{enters_what_it_calls}

pub same_some : {A : Type 0} (o : Option A) (a b : A) → o ≡ Some a → o ≡ Some b → a ≡ b
same_some None a b e f = cc
same_some (Some x) a b e f = cc

abbrev pub well : Result (Unit {0}) Stop
well = Ok (tt {0})

not_chosen : (b : Bool) (x y : Program) (old new : Own) → b ≡ false → ProgramPerforms y old new well → ProgramPerforms (cond b x y) old new well
not_chosen true x y old new e q = cc
not_chosen false x y old new e q = q

module _ (code : Code) (old new : Own) (next : ℕ) (c : Called) (home : Place) where
  abbrev found : Type 0
  found = ◌≡◌ {A = Result Called Stop} (Ok c) (looked (look_seen old.stacks (procedure_called old.regs)))

  pub enters_at_once : found → c.pcw.intrinsic ≡ false → c.home ≡ Some home → old.regs.s - (old.regs.f + 2) ≤ most_cells
      → look_seen old.stacks (entering old.regs next true old.regs.f c.pcw (Some home)) ≡ Ok (entry_shown old.regs old.regs.f c.pcw home)
      → ProgramPerforms (answer (entry_opening old.regs next c.mark.df c.pcw (entry_shown old.regs old.regs.f c.pcw home))) old new well
      → ProgramPerforms (enter code old.regs next) old new well
  enters_at_once is_found plain homely fits goes opens = record {
    outcome = λ p img e f g. ap (limited (stack_length p)) (enters_what_it_calls code old.regs next p img) ∙ by_look.outcome p img e f g;
    stays = tt;
  }
    where
      fit : nat_le (old.regs.s - (old.regs.f + 2)) most_cells ≡ true
      fit = le-leb (old.regs.s - (old.regs.f + 2)) most_cells fits

      entered : ProgramPerforms (entry old.regs next c.mark.df c.pcw (Some home)) old new well
      entered =
          entry_goes old next c.mark.df c.pcw home well new (entry_shown old.regs old.regs.f c.pcw home)
          (sym (ap looked (ap (λ (b : Bool). look_seen old.stacks (entering old.regs next b old.regs.f c.pcw (Some home))) fit ∙ goes))) opens

      by_called : ProgramPerforms (enter_called code old.regs next c) old new well
      by_called =
          not_chosen c.pcw.intrinsic _ (entry old.regs next c.mark.df c.pcw c.home) old new plain
          (subst (λ (h : Option Place). ProgramPerforms (entry old.regs next c.mark.df c.pcw h) old new well) (sym homely) entered)

      by_look : ProgramPerforms (see (procedure_called old.regs) >>= enter_called code old.regs next) old new well
      by_look =
          performs_then (see (procedure_called old.regs)) (enter_called code old.regs next) c old new well
          (tells_look (procedure_called old.regs) old.stacks old.rows (Ok c) is_found) by_called
