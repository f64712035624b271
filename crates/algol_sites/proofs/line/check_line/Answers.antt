use Rattle.std.specs.Prelude.{◌||◌}
use Rattle.std.proofs.Common.{◌≡◌, ◌+◌, ◌≤◌, ◌∙◌, ap, sym, arith, drop}
use Rattle.algol_tree.specs.Phrases.{items_of, columns_of}
use Rattle.algol_sites.specs.Lining.{capped, any_bad, columns_seen, is_none_seen}
use Rattle.algol_sites.proofs.Lines.{phrases_step, or_on, columns_on}
use Rattle.algol_sites.proofs.line.check_line.Goals as goal

pub phrases-preserved : goal.phrases-preserved
phrases-preserved c =
    let rest = drop (c.phrases.text-index + 1) c.args.phrases.now in
    let step = phrases_step c.args.phrases.now c.phrases.text-index c.text-item.result c.phrase_of-phrase.result c.phrases-test.true c.text-item.is c.phrase_of-phrase.ensures in
    let few : c.items.result ≤ 1 = omega (arith, step.few, c.items.ensures) in
    let exact : c.saturating_add-count.result ≡ c.phrases.count + c.items.result = omega arith in
    let counted : items_of (drop c.phrases.text-index c.args.phrases.now) ≡ c.items.result + items_of rest = step.items ∙ ap (λ n. n + items_of rest) (sym c.items.ensures) in (
      ap (λ b. (c.phrases.is_bad || b) || any_bad rest) c.is_none-is_bad.ensures
          ∙ or_on c.phrases.is_bad (is_none_seen c.phrase_of-phrase.result) (any_bad (drop c.phrases.text-index c.args.phrases.now)) (any_bad rest) step.bad
          ∙ c.phrases.invariant.0,
      omega arith,
      omega arith,
      columns_on c.phrases.columns (columns_seen c.phrase_of-phrase.result) c.saturating_add-columns.result (columns_of rest)
          (columns_of (drop c.phrases.text-index c.args.phrases.now)) (c.saturating_add-columns.ensures ∙ ap (λ n. capped (c.phrases.columns + n)) c.columns.ensures) step.columns
          ∙ c.phrases.invariant.3,
      omega arith,
    )
