-- What is given from the front of a list is gone from its front.
use Rattle.std.proofs.Common.{◌≡◌, ℕ, ◌+◌, ◌<◌, min, List, [], ◌++◌, length, take, drop, sym, ap, ◌∙◌, arith, take-append-drop, length-drop}
use Rattle.std.proofs.lemmas.List.{drop-drop}
use Rattle.std.proofs.lemmas.List.{nil_from_length}

pub front_given : (bytes piece : List ℕ) (place count : ℕ) → take count piece ≡ take count (drop place bytes)
    → drop place bytes ≡ take count piece ++ drop (place + count) bytes
front_given bytes piece place count copied =
    sym (take-append-drop count (drop place bytes)) ∙ ap (λ l. l ++ drop count (drop place bytes)) (sym copied) ∙ ap (λ l. take count piece ++ l) (drop-drop count place bytes)

pub end_given : (bytes piece : List ℕ) (place most count : ℕ) → count ≡ min most (min (length (drop place bytes)) (length piece)) → 0 < most
    → count ≡ 0 → 0 < length piece → drop (place + count) bytes ≡ []
end_given bytes piece place most count is some none room = nil_from_length _ (omega (arith, length-drop place bytes, length-drop (place + count) bytes))
