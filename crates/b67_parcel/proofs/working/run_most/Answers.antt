use Rattle.std.proofs.Common.{List, sym, subst, ◌∙◌}
use Rattle.std.proofs.lemmas.List.{length-take-le}
use Rattle.b67_deeds.specs.declared.Letter.{Letter}
use Rattle.b67_table.specs.Image.{with_private}
use Rattle.b67_action.specs.Running.{HasRun}
use Rattle.b67_limits.specs.declared.TheConstants.{MOST_RUN}
use Rattle.b67_parcel.proofs.Stretching.{first_is}
use Rattle.b67_parcel.proofs.working.run_most.Goals as goal

pub returns-clause-runs : goal.returns-clause-runs
returns-clause-runs g p =
    λ img valid able whole. subst (λ (ls : List Letter). HasRun g.args.code.now p MOST_RUN img g.run_part.result ls (with_private img p 0 g.run_part.new.part))
    (sym (first_is g.run_part.new.letters _ g.args.room (g.run_part.ensures.size ∙ length-take-le g.args.room g.args.letters.now g.requires.room)))
    (g.run_part.ensures.runs p img valid able whole)
