use Rattle.std.proofs.Common.{◌≡◌, ℕ, ◌+◌, ◌≤◌, List, [], ◌∷◌, ◌++◌, length, map, drop, append-nil, sym, ap, ◌∙◌}
use Rattle.std.proofs.lemmas.List.{drop_all}
use Rattle.algol_tree.specs.declared.tree.PhraseText.{PhraseText}
use Rattle.algol_meaning.specs.Value as plain
use Rattle.algol_meaning.specs.Lines.{line_of}
use Rattle.algol_cells.specs.SeenValue.{value}
use Rattle.b67_list.proofs.Lists.{drop_read}
use Rattle.algol_step.proofs.writing.push_phrases.Goals as goal

written : (text all : List ℕ) (ps : List PhraseText) (n : ℕ) (vs : List plain.Value) → length ps ≤ n → text ++ line_of (drop n ps) vs ≡ all → text ≡ all
written text all ps n vs h e = sym (append-nil text) ∙ ap (λ (qs : List PhraseText). text ++ line_of qs vs) (sym (drop_all n ps h)) ∙ e

pub writing-preserved : goal.writing-preserved
writing-preserved c =
    c.in_ok-left.ensures (drop (c.writing.phrase-index + 1) c.args.phrases.now)
    ∙ ap (λ (ps : List PhraseText). c.writing.text.items ++ line_of ps (map value c.writing.left.now)) (sym (drop_read c.args.phrases.now c.writing.phrase-index c.phrase-item.result c.writing-test.true c.phrase-item.is))
    ∙ c.writing.invariant

pub returns : goal.returns
returns c = written c.writing.text.items _ c.args.phrases.now c.writing.phrase-index (map value c.writing.left.now) c.writing-test.false c.writing.invariant
