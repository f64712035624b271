-- From what is told of states to the outcomes of the source.
use Rattle.std.proofs.Common.{◌≡◌, refl, sym, ap, subst, ◌∙◌, ℕ, List, [], Option, Some, None, inl, inr}
use Rattle.std.specs.Prelude.{◌⊎◌}
use Rattle.std.proofs.lemmas.Option.{same_Some, none-some, slice_get_within}
use Rattle.b67_list.specs.Numbered.{numbered}
use Rattle.algol_tree.specs.Plain.{PProgram}
use Rattle.algol_meaning.specs.World.{World}
use Rattle.algol_meaning.specs.Run.{End, run}
use Rattle.algol_meaning.specs.Run as meaning
use Rattle.b67_segment.specs.declared.code.Code.{Code}
use Rattle.b67_table.specs.Image.{Image}
use Rattle.b67_table.specs.Ending.{ImageEnd, image_end}
use Rattle.b67_table.specs.Ending as machine
use Rattle.b67_table.specs.Table.{length_in, stack_length}
use Rattle.b67_table.specs.Runs.{Runs, TableRun}
use Rattle.b67_table.proofs.Cited.{no_tails}
use Rattle.b67_report.specs.declared.EndWords.TheVariants as ends
use Rattle.b67_faithful.specs.Agreement.{end_as}
use Rattle.b67_faithful.specs.Faithful.{Faithful, ComesToLimit}
use Rattle.b67_outcomes.specs.declared.found.Found.{Found}
use Rattle.b67_outcomes.specs.Entering.{Stops}
use Rattle.b67_outcomes.specs.Finding.{History, IsKept, AreAll}
use Rattle.b67_told.specs.declared.Outcome.{Outcome}
use Rattle.b67_told.specs.declared.Told.{Told}
use Rattle.b67_told.specs.Telling.{OutcomeIsTold, outcomes_in}
use Rattle.b67_teller.specs.Following.{image_words, ended_outcome, stopped_outcome}
use Rattle.b67_teller.specs.Books.{AreTold}
use Rattle.b67_teller.proofs.Leading.{outcome_is}
use Rattle.b67_outcomes_all.specs.Outcomes.{shown_end, SourceComesTo, ComesToStop, IsStopTold, ToldAreAll}
use Rattle.b67_outcomes_all.proofs.Telling.{may_there, told}

-- the end of an image is told as the end of its world
ended : (i : Option ImageEnd) (end : End) → end_as i ≡ Some end → (e : ImageEnd) × (i ≡ Some e) × (shown_end end ≡ image_words e)
ended None end x = absurd (none-some end x)
ended (Some machine.finished) end x = (machine.finished, refl, ap shown_end (sym (same_Some meaning.finished end x)))
ended (Some (machine.faulted kind p)) end x = (machine.faulted kind p, refl, ap shown_end (sym (same_Some (meaning.fault kind p) end x)))
ended (Some machine.all_waiting) end x = (machine.all_waiting, refl, ap shown_end (sym (same_Some meaning.all_waiting end x)))

module _ (tree : PProgram) (code : Code) (found : Found) (os : List Told) (f : Faithful tree code) (all : AreAll code found) (are : AreTold code found os) where
  -- the outcome of a state is told
  state_is : (img : Image) (e : ImageEnd) → IsKept code found.steps.items found.states.items img → image_end img ≡ Some e → OutcomeIsTold os (ended_outcome img e)
  state_is img e k there =
      are.ended k.state.0 k.state.1 k.state.2 k.history img e (subst (λ (n : ℕ). History found.steps.items n k.history) (sym k.state.3) k.is) k.leads there

  told_end : (schedule : List ℕ) (o : Outcome) (c : SourceComesTo tree schedule o) (img : Image) → TableRun code schedule [] img → OutcomeIsTold os o
  told_end schedule o c img t =
      let x = told tree code found f all schedule c.world c.end c.legal c.ends img t in
      let e = ended (image_end x.image) c.end (sym x.tells.ends ∙ c.ends) in
      let same = outcome_is o x.image.output (image_words e.0) (c.output ∙ sym x.tells.output) (c.shown ∙ e.2) in
      subst (λ (z : Outcome). OutcomeIsTold os z) (sym same) (state_is x.image e.0 x.is_kept e.1)

  told_stop : (before : List ℕ) (p : ℕ) (o : Outcome) → ComesToStop code before p o → OutcomeIsTold os o
  told_stop before p o c =
      let same_image = no_tails code 1 c.run.before_tails c.image c.run.after in
      let x =
      all.stops c.run.history c.run.counts c.image c.quiet p (subst (λ (z : Image). Runs code c.run.history c.run.counts z) same_image c.run.runs) c.may c.stops in
      let l = x.noted.1 in
      let contained =
      are.stopped x.noted.0 l (slice_get_within found.limits.items x.noted.0 l x.noted.2) x.noted.2 x.kept.history x.image x.quiet
      (subst (λ (n : ℕ). History found.steps.items n x.kept.history) (sym x.noted.3) x.kept.is) x.kept.leads
      (subst (λ (q : ℕ). Stops code q x.image x.quiet) (sym x.noted.4) x.stops) in
      let own : OutcomeIsTold os (stopped_outcome x.image p x.quiet) = subst (λ (q : ℕ). OutcomeIsTold os (stopped_outcome x.image q x.quiet)) x.noted.4 contained in
      let same =
      outcome_is o x.image.output (ends.StackLimit p (stack_length p x.quiet)) (c.output ∙ sym x.output_is)
      (c.shown ∙ ap (λ (n : ℕ). ends.StackLimit p n) (sym x.words_are)) in
      subst (λ (z : Outcome). OutcomeIsTold os z) (sym same) own

  -- the outcome of the stack limit to which a legal schedule comes
  stop_told : (schedule : List ℕ) (w : World) → run tree schedule ≡ Some w → ComesToLimit code schedule → IsStopTold code (outcomes_in os) schedule
  stop_told schedule w e c =
      let o : Outcome = record { output = c.image.output; end = ends.StackLimit c.next (length_in (numbered c.quiet.regs c.next)) } in
      let comes : ComesToStop code c.before c.next o =
      record {
        image = c.image;
        run = c.run;
        may = may_there tree code f schedule w e c;
        quiet = c.quiet;
        stops = record { count = c.plain; plains = c.plains; at_limit = c.stops };
        output = refl;
        shown = refl;
      } in
      record {
        before = c.before;
        next = c.next;
        later = c.later;
        split = c.split;
        outcome = o;
        comes = comes;
        told = told_stop c.before c.next o comes;
      }

  by_run : (schedule : List ℕ) (o : Outcome) → SourceComesTo tree schedule o → ((img : Image) × TableRun code schedule [] img) ⊎ ComesToLimit code schedule
      → OutcomeIsTold os o ⊎ IsStopTold code (outcomes_in os) schedule
  by_run schedule o c (inl x) = inl (told_end schedule o c x.0 x.1)
  by_run schedule o c (inr x) = inr (stop_told schedule c.world c.legal x)

pub told_are_all : ToldAreAll
told_are_all tree code found os f all are =
    record {
      ends = λ schedule o c. by_run tree code found os f all are schedule o c (f.follows.whole schedule (c.world, c.legal));
      stops = λ schedule w e c. stop_told tree code found os f all are schedule w e c;
      limits = λ before p o c. told_stop tree code found os f all are before p o c;
    }
