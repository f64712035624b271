-- The world in which an instance is made, and where the code after an entry ends.
use Rattle.std.proofs.Common.{slice_get, ◌≡◌, ◌≢◌, sym, ap, ◌∙◌, ℕ, zero, suc, ◌+◌, ◌*◌, ◌≤◌, List, [], ◌∷◌, ◌++◌, length, Option, Some, None, arith, length-append}
use Rattle.b67_list.proofs.Lists.{get_front}
use Rattle.b67_list.proofs.Numbers.{none_some}
use Rattle.b67_rows.proofs.Prelude.{numbered, Block, Kind, items, items_of, decls_items, ending, Operator, Spells, Segment}
use Rattle.b67_ops.specs.Spelling.{spelling}
use Rattle.b67_segment.specs.Operators.{Placed, text, size, width, StandsAmong}
use Rattle.b67_segment.proofs.Fetches.{length_syllables}
use Rattle.b67_segment.proofs.Texts.{text_append}
use Rattle.b67_rows.proofs.StackWords.{get_seam}

-- ---- one more in a list by number

pub numbered_last : {A : Type 0} (xs : List A) (x : A) (n : ℕ) → n ≡ length xs + 1 → numbered (xs ++ x ∷ []) n ≡ Some x
numbered_last xs x zero e = absurd (omega (arith, e))
numbered_last xs x (suc k) e = get_seam xs x [] k (omega (arith, e))

pub numbered_before : {A : Type 0} (xs ys : List A) (n : ℕ) (x : A) → numbered xs n ≡ Some x → numbered (xs ++ ys) n ≡ Some x
numbered_before xs ys zero x e = none_some e
numbered_before xs ys (suc k) x e = get_front xs ys k x e

-- all but the last were there before
pub numbered_earlier : {A : Type 0} (xs : List A) (x : A) (n : ℕ) (y : A) → n ≢ length xs + 1 → numbered (xs ++ x ∷ []) n ≡ Some y → numbered xs n ≡ Some y
numbered_earlier {A = A} xs x zero y other e = none_some e
numbered_earlier {A = A} xs x (suc k) y other e = before xs k (λ s. other (omega (arith, s))) e
  where
    before : (xs : List A) (k : ℕ) → k ≢ length xs → slice_get (xs ++ x ∷ []) k ≡ Some y → slice_get xs k ≡ Some y
    before [] zero apart e = absurd (apart (omega arith))
    before [] (suc k) apart e = e
    before (z ∷ zs) zero apart e = e
    before (z ∷ zs) (suc k) apart e = before zs k (λ s. apart (omega (arith, s))) e

-- ---- code

-- the place after an operator lies in its segment, or at the end of it
pub next_within : (ps : List Placed) (segment : Segment) (at level : ℕ) (op : Operator) (next : ℕ) → Spells ps segment → StandsAmong ps at level op next → next ≤ 6 * length segment.words
next_within ps segment at level op next spells stands =
    omega (arith, whole, stands.next_is, stands.at_is, sym (length_syllables segment.words) ∙ ap length spells.code)
  where
    whole : size ps ≡ size stands.before + (length (spelling at level op) + length (text (at + width at (record { level = level; operator = op })) stands.after))
    whole =
        ap size stands.parts
        ∙ ap length (text_append 0 stands.before (record { level = level; operator = op } ∷ stands.after))
        ∙ length-append (text 0 stands.before) (text (0 + size stands.before) (record { level = level; operator = op } ∷ stands.after))
        ∙ ap (λ (n : ℕ). size stands.before + length (text n (record { level = level; operator = op } ∷ stands.after))) here
        ∙ ap (λ (n : ℕ). size stands.before + n) (length-append (spelling at level op) (text (at + width at (record { level = level; operator = op })) stands.after))
      where
        here : 0 + size stands.before ≡ at
        here = omega (arith, stands.at_is)

-- ---- what a block has to do

-- where the block has no result, it has its declarations and its statements to do
pub plain_items : (b : Block) → b.result ≡ None → items_of b ≡ decls_items b.decls ++ items b.stmts []
plain_items b untyped = ap (λ (o : Option Kind). decls_items b.decls ++ items b.stmts (ending (record b { result = o }))) untyped
