use Rattle.std.proofs.Common.{◌≡◌, ◌+◌, ◌<◌, ◌∷◌, ◌∙◌, length, drop, get_or, sym, ap, arith}
use Rattle.std.proofs.lemmas.List.{drop_more}
use Rattle.b67_emitter.proofs.Appends.{same_level}
use Rattle.b67_emit_stmt.proofs.Worded.{words_more}
use Rattle.b67_emit_stmt.proofs.draft.StmtEmitter.routine_words.Goals as goal

pub words-preserved : goal.words-preserved
words-preserved g c =
    let s = c.args.self.now.known.now in
    let level = c.args.self.now.level in
    let a = c.args.out.now in
    let b = c.words.out in
    let xs = c.args.actuals.now in
    let ats = c.args.places.now in
    let i = c.words.number in
    let x = c.index-actuals-number.result in
    let lo : i < length xs = omega (arith, c.words-test.true) in
    let next : drop i xs ≡ x ∷ drop (i + 1) xs = drop_more xs i x lo ∙ ap (λ y. y ∷ drop (i + 1) xs) (sym c.index-actuals-number.is) in
    let place : drop i ats ≡ get_or ats i 0 ∷ drop (i + 1) ats = drop_more ats i 0 (omega (arith, c.requires.many, lo)) in
    record {
      level = c.in_ok-append_routine.ensures.level ∙ c.words.invariant.level;
      short = omega (arith, c.words.invariant.short, c.in_ok-append_routine.ensures.size);
      code = words_more s level xs ats i x (drop (i + 1) xs) (get_or ats i 0) (drop (i + 1) ats) next place c.has_place.result c.has_place.ensures a b c.append_routine.new.out
          (same_level a b c.words.invariant.level ∙ sym c.requires.level) c.words.invariant.code c.in_ok-append_routine.ensures.code;
    }
