use Rattle.std.proofs.Common.{◌≡◌, Bool, List, Some, sym, ap, ◌∙◌, arith, rules}
use Rattle.b67_word.specs.Word.{Word}
use Rattle.b67_store.specs.Store.{at_number, Row}
use Rattle.b67_flat.specs.Flat.{Flat, memory_of, words_at, row_in, rows_of}
use Rattle.b67_flat.proofs.Stores.{row_within, seen_row}
use Rattle.b67_flat.proofs.flat_core.FlatCore.same_row.Goals as goal

pub words_from-requires : goal.words_from-requires
words_from-requires c =
    let k = c.self.inside in
    let h : at_number k.rows c.args.number ≡ Some c.in-Some.ours = search rules in
    rw (← c.self.view_is) (omega (arith, row_within (memory_of k.words.items k.spans) k.rows c.args.number c.in-Some.ours c.self.invariant.0 c.self.invariant.1 h))

pub words_from-requires-then-ours-theirs : goal.words_from-requires-then-ours-theirs
words_from-requires-then-ours-theirs c =
    let k = c.other.inside in
    let h : at_number k.rows c.args.number ≡ Some c.in-Some-get.theirs = search rules in
    rw (← c.other.view_is) (omega (arith, row_within (memory_of k.words.items k.spans) k.rows c.args.number c.in-Some-get.theirs c.other.invariant.0 c.other.invariant.1 h))

pub returns-then-ours-theirs : goal.returns-then-ours-theirs
returns-then-ours-theirs c = λ same.
    let k = c.self.inside in
    let m = c.other.inside in
    let ours = c.in-Some.ours in
    let theirs = c.in-Some-get.theirs in
    let h : at_number k.rows c.args.number ≡ Some ours = search rules in
    let g : at_number m.rows c.args.number ≡ Some theirs = search rules in
    let words : words_at k.words.items ours.place ours.length ≡ words_at m.words.items theirs.place theirs.length =
    ap (λ (v : Flat). words_at v.memory.words ours.place ours.length) c.self.view_is ∙ sym c.words_from.ensures ∙ c.same_words.ensures same ∙ c.words_from-then-ours-theirs.ensures
    ∙ ap (λ (v : Flat). words_at v.memory.words theirs.place theirs.length) (sym c.other.view_is) in
    let counted : ours.counted ≡ theirs.counted = search rules in
    let row : row_in k.words.items ours ≡ row_in m.words.items theirs =
    ap (λ (ws : List Word). row_of ws ours.counted) words ∙ ap (λ (b : Bool). row_of (words_at m.words.items theirs.place theirs.length) b) counted in
    ap (λ (v : Flat). at_number (rows_of v) c.args.number) (sym c.self.view_is)
    ∙ seen_row k.words.items k.rows c.args.number ours h ∙ ap Some row ∙ sym (seen_row m.words.items m.rows c.args.number theirs g)
    ∙ ap (λ (v : Flat). at_number (rows_of v) c.args.number) c.other.view_is
  where
    row_of : List Word → Bool → Row
    row_of ws b = record { words = ws; counted = b }
