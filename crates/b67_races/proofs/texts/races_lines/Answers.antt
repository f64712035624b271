use Rattle.std.proofs.Common.{◌≡◌, sym, ap, ◌∙◌, ℕ, List, ◌++◌, length, map, arith}
use Rattle.std.specs.Prelude.{codes}
use Rattle.std.specs.List.{flat_map}
use Rattle.std.proofs.lemmas.List.{take_all, length-map}
use Rattle.std.proofs.lemmas.List.Folds.{flat_map-map}
use Rattle.b67_report.specs.Texts.{head_text}
use Rattle.b67_races.specs.declared.telling.Race.{Race}
use Rattle.b67_races.specs.Texts.{race_text, races_text}
use Rattle.b67_races.specs.Told.{race_of}
use Rattle.b67_races.proofs.texts.races_lines.Goals as goal

races_are : (rs : List Race) → head_text (codes "RACES ") (length rs) ++ flat_map (λ (r : Race). race_text (race_of r)) rs ≡ races_text (map race_of rs)
races_are rs =
    ap (λ (n : ℕ). head_text (codes "RACES ") n ++ flat_map (λ (r : Race). race_text (race_of r)) rs) (sym (length-map rs race_of))
    ∙ ap (λ (t : List ℕ). head_text (codes "RACES ") (length (map race_of rs)) ++ t) (sym (flat_map-map race_text race_of rs))

pub returns : goal.returns
returns c =
    let rs = c.args.races.now in
    c.races.invariant
    ∙ ap (λ (few : List Race). head_text (codes "RACES ") (length rs) ++ flat_map (λ (r : Race). race_text (race_of r)) few)
    (take_all c.races.race-index rs (omega (arith, c.races-test.false)))
    ∙ races_are rs
