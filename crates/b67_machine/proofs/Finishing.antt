-- The beginning of a replay, and its end after all entries.
use Rattle.std.specs.Prelude.{sum, nat_eq, if◌then◌else◌}
use Rattle.std.proofs.Common.{◌≡◌, refl, sym, subst, ◌∙◌, inl, ℕ, ◌+◌, ◌≤◌, Bool, true, false, List, [], ◌∷◌, ◌++◌, length, append-nil, add-zero, arith}
use Rattle.b67_segment.specs.declared.code.Code.{Code}
use Rattle.b67_table.specs.Image.{Image}
use Rattle.b67_deeds.specs.declared.Letter.{Letter}
use Rattle.b67_table.specs.Runs.{Runs, begin, entry, count_of}
use Rattle.b67_letters.specs.Entries.{letters}
use Rattle.b67_machine.specs.declared.replay.Replayed.{Replayed}
use Rattle.b67_machine.specs.declared.replay.Replayed.TheVariants as replayed
use Rattle.b67_machine.specs.Beginning.{IsFresh}
use Rattle.b67_machine.specs.Kept.{MachineModel, operators_counted}
use Rattle.b67_machine.specs.Replaying.{tail_of, ReplayAnswers, MachineStands, is_lacking, ReplaysEntries, Between, EndsAfter}
use Rattle.b67_machine.proofs.Ends.{goes_on, no_end}
use Rattle.b67_machine.proofs.Tailing.{no_tail}

no_letters : {code : Code} {history counts : List ℕ} {img : Image} (r : Runs code history counts img) → history ≡ [] → letters r ≡ []
no_letters begin e = refl
no_letters (entry {p = p} r e) h = cc

first : (m : MachineModel) → IsFresh m → Runs m.code [] [] m.image
first m f = subst (λ (x : Image). Runs m.code [] [] x) (sym f.image) begin

pub begins : (m : MachineModel) → IsFresh m → Between m.code [] [] 0 m
begins m f = record {
  history = [];
  numbers = [];
  order = refl;
  runs = first m f;
  letters_are = no_letters (first m f) refl;
  spends = refl;
  counts = f.counts;
  limit = f.limit;
  lacked = f.lacked;
  same = refl;
}

module _ (code : Code) (budget : ℕ) (done : List ℕ) (noted : List Letter) (spent : ℕ) (m : MachineModel) (b : Between code done noted spent m) (within : spent ≤ budget) where
  whole : (answer : Replayed) → is_lacking answer ≡ false → ReplayAnswers code budget (sum b.numbers + 0) done [] 0 m.image m answer → ReplaysEntries code done budget done noted m answer
  whole answer lacking answers = record {
    left = [];
    tail = 0;
    split = sym (append-nil done);
    image = m.image;
    run = record { history = b.history; counts = b.numbers; before_tails = m.image; order = b.order; runs = b.runs; after = no_tail code [] m.image };
    letters_are = b.letters_are;
    stands = subst (λ (x : Bool). MachineStands x m.image m.image) (sym lacking) refl;
    counts = λ q. b.counts q ∙ sym (add-zero (count_of q b.history b.numbers));
    within = omega (arith, b.spends, within);
    answers = answers;
    lacked = b.lacked ∙ sym lacking;
    same = b.same;
  }

  pub finishes : (answer : Replayed) → EndsAfter m budget spent answer → ReplaysEntries code done budget done noted m answer
  finishes replayed.Ended e = whole replayed.Ended refl (inl (refl, refl, λ i. e (no_end m i b.limit), b.limit))
  finishes replayed.Ran e = whole replayed.Ran refl (refl, refl, (goes_on m e.0).end, omega (arith, b.spends, e.1), b.limit)
  finishes replayed.BudgetSpent e = whole replayed.BudgetSpent refl ((goes_on m e.0).end, omega (arith, b.spends, e.1, within), inl refl, b.limit)
  finishes (replayed.Illegal n) e = absurd e
  finishes replayed.NoMemory e = absurd e
  finishes (replayed.Differs n) e = absurd e

  -- the last entry has another letter than the given one, whatever comes after it
  pub differs_here : (more : List ℕ) (number : ℕ) → number ≡ length done → ReplaysEntries code (done ++ more) budget done noted m (replayed.Differs number)
  differs_here more number e = record {
    left = more;
    tail = 0;
    split = refl;
    image = m.image;
    run = record { history = b.history; counts = b.numbers; before_tails = m.image; order = b.order; runs = b.runs; after = no_tail code more m.image };
    letters_are = b.letters_are;
    stands = refl;
    counts = λ q. none_more q more;
    within = omega (arith, b.spends, within);
    answers = (refl, e, b.limit);
    lacked = b.lacked;
    same = b.same;
  }
    where
      none_by : (t : Bool) (x y : ℕ) → x ≡ y → x ≡ y + (if t then 0 else 0)
      none_by true x y f = omega (arith, f)
      none_by false x y f = omega (arith, f)

      none_more : (q : ℕ) (left : List ℕ) → operators_counted m.counts q ≡ count_of q b.history b.numbers + tail_of left 0 q
      none_more q [] = omega (arith, b.counts q)
      none_more q (p ∷ left) = none_by (nat_eq q p) (operators_counted m.counts q) (count_of q b.history b.numbers) (b.counts q)
