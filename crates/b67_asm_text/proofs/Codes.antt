-- The operators, gathered by their codes.
use Rattle.std.proofs.Common.{◌≡◌, ℕ, ◌+◌, List, [], ◌++◌, ap, ◌∙◌, add-one}
use Rattle.std.specs.Prelude.{option_to_list}
use Rattle.b67_ops.specs.declared.table.OperatorKind.{OperatorKind}
use Rattle.b67_ops.specs.Codes.{kind_with}
use Rattle.b67_asm_text.specs.Mnemonics.{operators, operators_below}

pub none_below : (kinds : List OperatorKind) → kinds ≡ [] → kinds ≡ operators_below 0
unfolding operators_below
none_below kinds h = h

pub more_below : (old new : List OperatorKind) (code : ℕ) → old ≡ operators_below code → new ≡ old ++ option_to_list (kind_with code) → new ≡ operators_below (code + 1)
unfolding operators_below
more_below old new code h e = e ∙ rw add-one (ap (λ (ks : List OperatorKind). ks ++ option_to_list (kind_with code)) h)

pub all_below : (kinds : List OperatorKind) (code : ℕ) → code ≡ 256 → kinds ≡ operators_below code → kinds ≡ operators
unfolding operators
all_below kinds code e h = h ∙ ap operators_below e
