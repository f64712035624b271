-- What a reader of programs found, said of the grammar.
use Rattle.std.proofs.Common.{◌≡◌, ◌⊎◌, inl, inr, ℕ, List, [], ◌∷◌, refl, sym, subst, ◌∙◌}
use Rattle.algol_tree.specs.declared.token.Spot.{Spot}
use Rattle.algol_tree.specs.declared.token.Token.{Token}
use Rattle.algol_tree.specs.declared.token.TokenKind.TheVariants as kinds
use Rattle.algol_tree.specs.declared.refusal.Code.{Code}
use Rattle.algol_tree.specs.declared.refusal.Code.TheVariants as codes
use Rattle.algol_tree.specs.declared.refusal.Refusal.{Refusal}
use Rattle.algol_tree.specs.declared.refusal.Refusal.TheVariants.{At, NoMemory}
use Rattle.algol_tree.specs.Plain.{PProgram}
use Rattle.algol_tree.specs.Ended.{EndsOnce}
use Rattle.algol_tree.specs.Programs.{IsProgram, Reads}
use Rattle.algol_tree.specs.Refused.{RefusedProgram}
use Rattle.algol_tree.specs.Due.{program, whole_program}
use Rattle.algol_tree.specs.Reading.{to, refused, read}
use Rattle.algol_tree.specs.Found.{ReaderFinds, ReaderRefuses}
use Rattle.algol_expr.proofs.Turns.{read_nothing}
use Rattle.algol_grammar.proofs.Exact.{exact}

module _ (tokens : List Token) (tree : PProgram) (rest : List Token) (f : ReaderFinds program tokens (whole_program tree) rest) {t : Token} {ts : List Token} (is : rest ≡ t ∷ ts) where
  found_to : read 0 tokens (program ∷ []) [] ≡ to (t ∷ ts) (whole_program tree ∷ [])
  found_to = subst (λ r. read 0 tokens (program ∷ []) [] ≡ to r (whole_program tree ∷ [])) is (f.run [] [] ∙ read_nothing 0 rest (whole_program tree ∷ []))

  alone : (us : List Token) → EndsOnce (t ∷ us) → t.kind ≡ kinds.End → IsProgram 0 tokens tree (t ∷ us) → IsProgram 0 tokens tree (t ∷ [])
  alone [] e k p = p
  alone (u ∷ us) e k p = absurd (e.0 k)

  pub program_reads : t.kind ≡ kinds.End → Reads tokens tree
  program_reads k = record { last = t; is = alone ts (subst EndsOnce is f.behind.ended) k ((exact tokens).reads tree (t ∷ ts) found_to); ended = k }

  pub program_behind : (t.kind ≡ kinds.End → ⊥) → (e : Refusal) → e ≡ At t.spot codes.TextAfterEnd → RefusedProgram tokens e
  program_behind k e r = subst (RefusedProgram tokens) (sym r) ((exact tokens).behind t ts tree found_to k)

refused_by : (tokens : List Token) (left : ℕ) (spot : Spot) (code : Code) → (code ≡ codes.Unexpected) ⊎ (code ≡ codes.TooDeep) →
    read 0 tokens (program ∷ []) [] ≡ refused left spot code → RefusedProgram tokens (At spot code)
refused_by tokens left spot code (inl q) e = subst (λ k. RefusedProgram tokens (At spot k)) (sym q)
    ((exact tokens).unexpected left spot (subst (λ k. read 0 tokens (program ∷ []) [] ≡ refused left spot k) q e))
refused_by tokens left spot code (inr q) e = subst (λ k. RefusedProgram tokens (At spot k)) (sym q)
    ((exact tokens).too_deep left spot (subst (λ k. read 0 tokens (program ∷ []) [] ≡ refused left spot k) q e))

pub program_refused : (tokens : List Token) (e : Refusal) → ReaderRefuses (program ∷ []) [] tokens e → RefusedProgram tokens e
program_refused tokens NoMemory r = tt
program_refused tokens (At spot code) r =
    let q = r.fails.run spot code refl [] [] in refused_by tokens r.left spot code ((exact tokens).only r.left spot code q) q
