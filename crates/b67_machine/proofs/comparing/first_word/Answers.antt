use Rattle.std.proofs.Common.{◌≡◌, ◌≢◌, sym, ap, ◌∙◌, ℕ, ◌+◌, ◌-◌, ◌<◌, slice_get, drop, reverse, length, Some, rules, arith}
use Rattle.std.proofs.lemmas.List.{length-drop, length-reverse}
use Rattle.b67_word.specs.Word.{Word}
use Rattle.b67_store.specs.Store.{words_of}
use Rattle.b67_machine.proofs.Differing.{all_same, next_same, from_top}
use Rattle.b67_machine.proofs.comparing.first_word.Goals as goal

pub words-preserved : goal.words-preserved
words-preserved g c =
    let r = c.args.regs.now in
    let ws = words_of (g.C.Core.stacks c.args.core.now) r.stack in
    let i = c.words.position in
    let ours = c.unwrap-ours.result in
    let theirs = c.unwrap-theirs.result in
    let same : ours ≡ theirs = search rules in
    let base = r.s - length c.args.given.now in
    let low : base + i < length ws = omega (arith, c.requires.within, c.requires.linked.size, c.words-test.true, c.len-position-end.ensures.value) in
    let read : slice_get ws (r.s - 1 - i) ≡ Some ours = sym c.read.ensures ∙ c.unwrap-ours.ensures in
    let here = from_top ws base i ours low (ap (λ (n : ℕ). slice_get ws (n - 1 - i)) (sym c.requires.linked.size) ∙ read) in
    let there : slice_get c.args.given.now i ≡ Some theirs = sym c.from_top.ensures ∙ c.unwrap-theirs.ensures in
    record {
      within = omega (arith, c.words-test.true, c.len-position-end.ensures.value);
      before = next_same (reverse (drop base ws)) c.args.given.now i ours here (there ∙ ap (λ (w : Word). Some w) (sym same)) c.words.invariant.before;
    }

pub returns-then-ne-clause-first : goal.returns-then-ne-clause-first
returns-then-ne-clause-first g c =
    let r = c.args.regs.now in
    let ws = words_of (g.C.Core.stacks c.args.core.now) r.stack in
    let i = c.words.position in
    let ours = c.unwrap-ours.result in
    let base = r.s - length c.args.given.now in
    let low : base + i < length ws = omega (arith, c.requires.within, c.requires.linked.size, c.words-test.true, c.len-position-end.ensures.value) in
    let read : slice_get ws (r.s - 1 - i) ≡ Some ours = sym c.read.ensures ∙ c.unwrap-ours.ensures in
    let apart : ours ≢ c.unwrap-theirs.result = search rules in
    record {
      before = c.words.invariant.before;
      here = from_top ws base i ours low (ap (λ (n : ℕ). slice_get ws (n - 1 - i)) (sym c.requires.linked.size) ∙ read);
      there = sym c.from_top.ensures ∙ c.unwrap-theirs.ensures;
      apart = apart;
    }

pub returns-clause-first : goal.returns-clause-first
returns-clause-first g c =
    let r = c.args.regs.now in
    let ws = words_of (g.C.Core.stacks c.args.core.now) r.stack in
    let base = r.s - length c.args.given.now in
    let top = reverse (drop base ws) in
    let i = c.words.position in
    let given : length c.args.given.now ≡ i = omega (arith, c.words.invariant.within, c.words-test.false, c.len-position-end.ensures.value) in
    let kept : length top ≡ i =
    omega (arith, given, c.requires.within, c.requires.linked.size, length-reverse (drop base ws), length-drop base ws) in
    all_same top c.args.given.now i kept given c.words.invariant.before
