-- A plant stands after a take, and after a leave.
use Rattle.std.specs.Prelude.{slice_get, remove}
use Rattle.std.proofs.Common.{◌≡◌, ◌≢◌, sym, subst, ◌∙◌, ℕ, ◌+◌, ◌≤◌, true, List, length, Some, None, arith}
use Rattle.b67_list.specs.Numbered.{numbered, set_numbered}
use Rattle.b67_segment.specs.declared.code.Code.{Code}
use Rattle.b67_table.specs.Image.{Image}
use Rattle.b67_table.specs.Limits.{most_processes}
use Rattle.b67_table.specs.Valid.{IsValid}
use Rattle.b67_table.proofs.Lists.{numbered_from, numbered_within}
use Rattle.b67_table.proofs.Withdrawing.{length_set}
use Rattle.b67_action.specs.Able.{able_in}
use Rattle.b67_ready.specs.Ready.{counted_on}
use Rattle.b67_joining.proofs.Times.{one_at_most, few_of}
use Rattle.b67_machine.proofs.Entering.{state_of}
use Rattle.b67_stands.specs.Running.{Running, answer_of}
use Rattle.b67_stands.specs.Placing.{ProcessesPlaced}
use Rattle.b67_stands.specs.Stands.{Stands}
use Rattle.b67_stands.specs.Calls.{TakesOne, Leaves}
use Rattle.b67_stands.proofs.Places.{got_times, waiting_able, placed_taken}

-- ---- numbers

-- who is able has a number
pub number_of : (code : Code) (image : Image) (p : ℕ) → IsValid code image → able_in image p ≡ true → (1 ≤ p) × (p ≤ most_processes)
number_of code image p v able =
    let s = state_of (numbered image.states p) able in
    (numbered_from image.states p s.0 s.1, omega (arith, numbered_within image.states p s.0 s.1, v.states, v.most))

-- no more wait than there are processes
pub waiting_few : (code : Code) (image : Image) (waiting out : List ℕ) → IsValid code image → ProcessesPlaced image waiting out → length waiting ≤ most_processes
waiting_few code image waiting out v placed =
    few_of waiting most_processes (λ q. omega (arith, placed q, one_at_most (able_in image q)))
    (λ q h. number_of code image q v (waiting_able image waiting out q placed h))

-- ---- a take

module _ (code : Code) (budget : ℕ) (old : Running) (s : Stands code budget old) where
  -- who is taken has a number
  pub taken_number : (k p : ℕ) → answer_of budget old ≡ None → slice_get old.waiting k ≡ Some p → (1 ≤ p) × (p ≤ most_processes)
  taken_number k p going got =
      number_of code old.machine.image p s.valid
      (waiting_able old.machine.image old.waiting old.out p (s.placed going) (got_times old.waiting k p got))

  stands_taken : (k p me : ℕ) → answer_of budget old ≡ None → slice_get old.waiting k ≡ Some p → 1 ≤ me
      → Stands code budget (record old { waiting = remove old.waiting k; takes = counted_on old.takes; out = set_numbered old.out p me })
  stands_taken k p me going got some =
      let number = taken_number k p going got in
      record {
        same = s.same;
        valid = s.valid;
        tails = s.tails;
        image = s.image;
        leads = s.leads;
        letters = s.letters;
        shows = s.shows;
        counts = s.counts;
        few = s.few;
        able = s.able;
        spends = s.spends;
        below = s.below;
        within = s.within;
        limit = s.limit;
        lacking = s.lacking;
        placed = λ e.
            placed_taken old.machine.image old.waiting old.out (s.placed e) k p me got number.0 (omega (arith, number.1, s.holders)) some;
        holders = length_set old.out p me ∙ s.holders;
        acts = s.acts;
        left = s.left;
      }

  pub takes_keep : (new : Running) (pick : ℕ → ℕ → ℕ) (me p : ℕ) → answer_of budget old ≡ None → 1 ≤ me → TakesOne pick me old p new → Stands code budget new
  takes_keep new pick me p going some t =
      subst (Stands code budget) (sym t.new_is) (stands_taken (pick (length old.waiting) old.takes) p me going t.picked some)

  -- ---- a leave

  pub stands_left : (n : ℕ) → answer_of budget old ≢ None → Stands code budget (record old { leaves = n })
  stands_left n over = record {
    same = s.same;
    valid = s.valid;
    tails = s.tails;
    image = s.image;
    leads = s.leads;
    letters = s.letters;
    shows = s.shows;
    counts = s.counts;
    few = s.few;
    able = s.able;
    spends = s.spends;
    below = s.below;
    within = s.within;
    limit = s.limit;
    lacking = s.lacking;
    placed = λ e. absurd (over e);
    holders = s.holders;
    acts = s.acts;
    left = λ h. over;
  }

  pub leaves_keep : (new : Running) → answer_of budget old ≢ None → Leaves old new → Stands code budget new
  leaves_keep new over l = subst (Stands code budget) (sym l) (stands_left (old.leaves + 1) over)
