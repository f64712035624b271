-- Races with names of their own.
use Rattle.std.proofs.Common.{◌≡◌, ap, sym, ◌∙◌, ℕ, ◌+◌, ◌<◌, List, [], ◌∷◌, ◌++◌, length, map, take, get_or}
use Rattle.std.proofs.lemmas.List.{map-append, take_more}
use Rattle.b67_race.specs.Races as races
use Rattle.b67_race.specs.Noted as noted
use Rattle.b67_race.specs.declared.walk.Race as found
use Rattle.b67_races.specs.Told.{race_of}
use Rattle.b67_races.specs.declared.telling.Race.{Race}

-- one more
pub own_more :
    (xs : List found.Race) (i : ℕ) (d : found.Race) (all : List Race) (r : Race) → i < length xs → race_of r ≡ noted.race_of (get_or xs i d)
    → map race_of all ≡ map noted.race_of (take i xs) → map race_of (all ++ r ∷ []) ≡ map noted.race_of (take (i + 1) xs)
own_more xs i d all r less e inv =
    map-append race_of all (r ∷ [])
    ∙ ap (λ (rs : List races.Race). rs ++ race_of r ∷ []) inv
    ∙ ap (λ (s : races.Race). map noted.race_of (take i xs) ++ s ∷ []) e
    ∙ sym (map-append noted.race_of (take i xs) (get_or xs i d ∷ []))
    ∙ ap (λ (ys : List found.Race). map noted.race_of ys) (sym (take_more xs i d less))
