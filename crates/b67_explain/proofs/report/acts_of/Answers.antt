use Rattle.std.proofs.Common.{◌≡◌, ◌<◌, ◌≤◌, ◌+◌, ◌-◌, ◌^◌, ℕ, All, List, [], ◌∷◌, ◌++◌, length, replicate, sym, subst, ap, ◌∙◌, arith}
use Rattle.std.specs.Prelude.{sum}
use Rattle.std.proofs.lemmas.List.{length-append, replicate-append-replicate}
use Rattle.std.proofs.lemmas.List.Elements.{All-nil, All-push}
use Rattle.std.proofs.lemmas.List.Sums.{sum_by_push}
use Rattle.b67_report.specs.Reading.{ReportCounts}
use Rattle.b67_explain.specs.Telling.{AreActs, AreOfFirst}
use Rattle.b67_explain.proofs.report.acts_of.Goals as goal

sum_push : (xs : List ℕ) (y : ℕ) → sum (xs ++ y ∷ []) ≡ sum xs + y
sum_push = sum_by_push (λ (n : ℕ). n)

-- one processor more, which made none
one_more : (count n : ℕ) → 1 ≤ n → (count ∷ replicate (n - 1) 0) ++ 0 ∷ [] ≡ count ∷ replicate (n + 1 - 1) 0
one_more count n some =
    let more : n - 1 + 1 ≡ n + 1 - 1 = omega (arith, some) in
    ap (λ (xs : List ℕ). count ∷ xs) (replicate-append-replicate (n - 1) 1 0 ∙ ap (λ (k : ℕ). replicate k 0) more)

pub others-init : goal.others-init
others-init c =
    let is = c.in_ok-push.ensures.items ∙ ap (λ (xs : List ℕ). xs ++ c.args.count ∷ []) c.new-acts.ensures.items in
    record {
      some = omega arith;
      first = is;
      processors = ap length is;
      sum = ap sum is ∙ omega (arith, sum_push [] c.args.count);
      numbers = subst (All (λ (n : ℕ). n < 2 ^ 64)) (sym is) (All-push (λ (n : ℕ). n < 2 ^ 64) [] c.args.count (All-nil (λ (n : ℕ). n < 2 ^ 64)) (omega arith));
    }

pub others-preserved : goal.others-preserved
others-preserved c =
    let xs = c.others.acts.items in
    let is = c.in_ok-push-2.ensures.items in
    record {
      some = omega (arith, c.others.invariant.some);
      first =
          is ∙ ap (λ (ns : List ℕ). ns ++ 0 ∷ []) c.others.invariant.first ∙ one_more c.args.count c.others.counter c.others.invariant.some;
      processors = ap length is ∙ omega (arith, length-append xs (0 ∷ []), c.others.invariant.processors);
      sum = ap sum is ∙ omega (arith, sum_push xs 0, c.others.invariant.sum);
      numbers = subst (All (λ (n : ℕ). n < 2 ^ 64)) (sym is) (All-push (λ (n : ℕ). n < 2 ^ 64) xs 0 c.others.invariant.numbers (omega arith));
    }

pub returns-clause-acts : goal.returns-clause-acts
returns-clause-acts c =
    subst (AreActs c.args.processors c.args.count) (sym c.of.ensures)
    (record { each = omega (arith, c.others.invariant.processors, c.others-test.false, c.requires); sum_is = c.others.invariant.sum })

pub returns-clause-first : goal.returns-clause-first
returns-clause-first c =
    let all : c.others.counter ≡ c.args.processors = omega (arith, c.others.invariant.processors, c.others-test.false, c.requires, c.others.invariant.some) in
    subst (AreOfFirst c.args.processors c.args.count) (sym c.of.ensures)
    (c.others.invariant.first ∙ ap (λ (n : ℕ). c.args.count ∷ replicate (n - 1) 0) all)

pub returns-clause-numbers : goal.returns-clause-numbers
returns-clause-numbers c =
    subst ReportCounts (sym c.of.ensures)
    (record { each = c.others.invariant.numbers; few = omega (arith, c.others.invariant.processors) })
