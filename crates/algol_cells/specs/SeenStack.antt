-- What is taken from a stack.
use Rattle.std.specs.Prelude.{◌≡◌, List, [], ◌∷◌, Option, Some, None}

-- the newest item is taken, none where there is none
abbrev pub Popped : {A : Type 0} → Option A → List A → List A → Type 0
Popped None before after = (before ≡ []) × (after ≡ [])
Popped (Some x) before after = before ≡ x ∷ after
