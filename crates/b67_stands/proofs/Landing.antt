-- A plant stands after a stretch of a process has landed.
use Rattle.std.specs.Prelude.{sum}
use Rattle.std.proofs.Common.{◌≡◌, refl, sym, ap, subst, ◌∙◌, true≢false, ℕ, ◌+◌, ◌≤◌, ◌<◌, true, false, List, Some, None, arith}
use Rattle.b67_list.specs.Numbered.{numbered}
use Rattle.b67_schedule.specs.Schedules.{entries}
use Rattle.b67_segment.specs.declared.code.Code.{Code}
use Rattle.b67_limits.specs.declared.TheConstants.{MOST_STRETCH}
use Rattle.b67_table.specs.declared.ProcessState.{ProcessState}
use Rattle.b67_table.specs.Ending.{image_end}
use Rattle.b67_table.specs.Image.{Image, is_able, is_live}
use Rattle.b67_table.specs.Runs.{Plains, count_of}
use Rattle.b67_table.specs.Valid.{IsValid}
use Rattle.b67_table.proofs.Waking.{able_live}
use Rattle.b67_action.specs.Able.{one_if, able_in}
use Rattle.b67_machine.specs.Kept.{MachineModel}
use Rattle.b67_machine.specs.Stepping.{MachineGoes}
use Rattle.b67_machine.proofs.Ends.{same_end}
use Rattle.b67_machine.proofs.Ends as machine
use Rattle.b67_stands.specs.Tails.{with_more, tail_of}
use Rattle.b67_stands.specs.Going.{LeadsOn}
use Rattle.b67_stands.proofs.Steps.{Same, number_from, number_within}
use Rattle.b67_stands.proofs.Past.{plains_same}
use Rattle.b67_stands.proofs.Advancing.{runs_take_operators}
use Rattle.b67_stands.specs.Running.{Running, answer_of}
use Rattle.b67_stands.specs.Placing.{IsOut, ProcessesPlaced}
use Rattle.b67_stands.specs.Stands.{Stands}
use Rattle.b67_stands.specs.Calls.{LandsOnce}
use Rattle.b67_stands.proofs.Tails.{sum_more, length_more}
use Rattle.b67_stands.proofs.Counts.{counts_more, count_same}
use Rattle.b67_stands.proofs.Places.{held_able, able_more}
use Rattle.b67_stands.proofs.Ends.{GoesOn, goes_on}
use Rattle.b67_stands.proofs.Showing.{shows_is, shows_by}

-- so many operators of the process have landed
abbrev pub landed : Running → MachineModel → ℕ → Running
landed old m n = record old { machine = m; spent = old.spent + n }

placed_same : (a b : Image) (waiting out : List ℕ) → b.states ≡ a.states → ProcessesPlaced a waiting out → ProcessesPlaced b waiting out
placed_same a b waiting out e placed q =
    placed q ∙ ap (λ (ss : List ProcessState). one_if (is_able (numbered ss q))) (sym e)

module _ (code : Code) (budget : ℕ) (old : Running) (p n : ℕ) (m : MachineModel) (stands : Stands code budget old) (going : answer_of budget old ≡ None)
    (held : IsOut old.out p) (few : old.spent + n < budget + MOST_STRETCH) (goes : MachineGoes old.machine p n m) where
  g : GoesOn budget old
  g = goes_on budget old going

  shown : old.machine.image ≡ stands.image
  shown = shows_is old.machine.lacked stands.image old.machine.image g.lacked stands.shows

  able : able_in stands.image p ≡ true
  able = subst (λ (i : Image). able_in i p ≡ true) shown (held_able old.machine.image old.waiting old.out p (stands.placed going) held)

  live : is_live (numbered stands.image.states p) ≡ true
  live = able_live (numbered stands.image.states p) able

  valid_there : IsValid code stands.image
  valid_there = subst (λ (i : Image). IsValid code i) shown stands.valid

  plains : Plains code p stands.image n m.image
  plains = subst (λ (i : Image). Plains code p i n m.image) shown (subst (λ (c : Code). Plains c p old.machine.image n m.image) stands.same goes.performed)

  kept : Same code stands.image m.image
  kept = plains_same code p stands.image m.image n valid_there plains

  least : 1 ≤ p
  least = number_from stands.image p live

  on : LeadsOn code (entries old.schedule.runs) stands.tails stands.image stands.leads p n m.image
  on = runs_take_operators code (entries old.schedule.runs) stands.tails stands.image m.image p n stands.leads live plains

  lacked_same : m.lacked ≡ false
  lacked_same = ap (λ (k : MachineModel). k.lacked) goes.others ∙ g.lacked

  limit_same : m.limit ≡ None
  limit_same = ap (λ (k : MachineModel). k.limit) goes.others ∙ g.limit

  end_none : image_end m.image ≡ None
  end_none = same_end old.machine.image m.image goes.states goes.fault ∙ (machine.goes_on old.machine g.end).end

  stands_landed : Stands code budget (landed old m n)
  stands_landed = record {
    same = ap (λ (k : MachineModel). k.code) goes.others ∙ stands.same;
    valid = kept.valid;
    tails = with_more stands.tails p n;
    image = m.image;
    leads = on.on;
    letters = on.same.letters ∙ stands.letters;
    shows = shows_by m.lacked m.image m.image lacked_same refl;
    few = length_more stands.tails p n m.image.started (omega (arith, stands.few, kept.started)) (omega (arith, number_within code stands.image p valid_there live, kept.started));
    able = able_more stands.image m.image stands.tails p stands.able n kept.states able;
    counts = λ q.
        counts_more old.machine.counts m.counts stands.tails (λ k. count_of k stands.leads.run.history stands.leads.run.counts) p n least goes.counts stands.counts q
        ∙ ap (λ (k : ℕ). k + tail_of (with_more stands.tails p n) q)
        (sym (count_same q on.on.run.history stands.leads.run.history on.on.run.counts stands.leads.run.counts on.same.history on.same.counts));
    spends = omega (arith, stands.spends, sum_more stands.tails p n least, ap sum on.same.counts);
    below = few;
    within = λ h. absurd (h end_none);
    limit = λ q h. let no : None ≡ Some q = sym limit_same ∙ h in cc;
    lacking = λ h. absurd (true≢false (sym h ∙ lacked_same));
    placed = λ e. placed_same old.machine.image m.image old.waiting old.out goes.states (stands.placed going);
    holders = stands.holders;
    acts = stands.acts;
    left = λ h. absurd (stands.left h going);
  }

pub lands_keep : (code : Code) (budget : ℕ) (old new : Running) (p n : ℕ) → Stands code budget old → answer_of budget old ≡ None → IsOut old.out p
    → old.spent + n < budget + MOST_STRETCH → LandsOnce old p n new → Stands code budget new
lands_keep code budget old new p n stands going held few l =
    subst (Stands code budget) (sym l.new_is) (stands_landed code budget old p n new.machine stands going held few l.machine)
