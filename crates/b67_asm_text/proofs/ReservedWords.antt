-- The reserved words are those of the language.
use Rattle.std.proofs.Common.{◌≡◌, ℕ, true, false, List, [], ◌∷◌, refl, sym, ap, ◌∙◌, inl, inr, ◌↔◌}
use Rattle.std.specs.Prelude.{IsTrue, ◌||◌}
use Rattle.std.specs.Str.{bytes_eq}
use Rattle.std.proofs.lemmas.Bool.{cases_Bool}
use Rattle.std.proofs.lemmas.Slice.Eq.{bytes_eq-Decides}
use Rattle.algol_tree.specs.declared.token.Reserved.{Reserved}
use Rattle.algol_tree.specs.declared.token.Reserved.TheVariants as words
use Rattle.algol_tree.specs.Spelling.{written, IsReserved}
use Rattle.b67_asm_text.specs.Names.{word_is_one_of, is_reserved}

all : List Reserved
all =
    words.And ∷ words.Array ∷ words.Available ∷ words.Begin ∷ words.Boolean ∷ words.Case ∷ words.Cause ∷ words.CauseAndReset ∷ words.Comment ∷ words.Div ∷ words.Do
    ∷ words.Else ∷ words.End ∷ words.Eql ∷ words.Eqv ∷ words.Event ∷ words.False ∷ words.File ∷ words.Fix ∷ words.For ∷ words.Forward ∷ words.Geq ∷ words.Go
    ∷ words.Gtr ∷ words.Happened ∷ words.If ∷ words.Imp ∷ words.Integer ∷ words.Label ∷ words.Leq ∷ words.Liberate ∷ words.Lss ∷ words.Mod ∷ words.Neq ∷ words.Not
    ∷ words.Of ∷ words.Or ∷ words.Procedure ∷ words.Process ∷ words.Procure ∷ words.Real ∷ words.Reset ∷ words.Step ∷ words.Task ∷ words.Then ∷ words.Thru ∷ words.To
    ∷ words.True ∷ words.Until ∷ words.Value ∷ words.Wait ∷ words.While ∷ words.Write ∷ []

-- the table has them as they are written
in_table : (word : List ℕ) → is_reserved word ≡ word_is_one_of written all word
unfolding is_reserved all
in_table word = refl

is_written : (ws : List Reserved) (word : List ℕ) → word_is_one_of written ws word ≡ true → IsReserved word
is_written [] word h = absurd (let clash : false ≡ true = h in cc)
is_written (w ∷ ws) word h =
    elim (cases_Bool (bytes_eq (written w) word)) [
      | inl same ↦ (w, sym ((bytes_eq-Decides (written w) word).0 same))
      | inr other ↦ is_written ws word (sym (ap (λ b. b || word_is_one_of written ws word) other) ∙ h)
    ]

each : (w : Reserved) → word_is_one_of written all (written w) ≡ true
unfolding all
each w = elim w as (λ v. word_is_one_of written all (written v) ≡ true) [ words.And ↦ refl | _ ↦ refl ]

pub reserved_is : (word : List ℕ) → IsTrue (is_reserved word) ↔ IsReserved word
reserved_is word = (
  λ h. is_written all word (sym (in_table word) ∙ h),
  λ r. in_table word ∙ ap (word_is_one_of written all) r.1 ∙ each r.0,
)
