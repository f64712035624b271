-- Each block's text stands in a segment, whose number a control word can hold.
use Rattle.std.proofs.Common.{◌≡◌, refl, sym, ap, ◌∙◌, ℕ, zero, suc, ◌+◌, ◌≤◌, List, [], ◌∷◌, length, take, filter, map, cond, Bool, true, false, Some, arith}
use Rattle.b67_rows.proofs.Prelude.{if◌then◌else◌, slice_get, Block, block_numbered, around, is_procedure, segment_of}
use Rattle.algol_paths.specs.Segments.{procedures_before, segment_among}

procedure_passed : (b : Block) (bs : List Block) → (t : Bool) → is_procedure b ≡ t → length (filter is_procedure (b ∷ bs)) ≡ (if t then 1 else 0) + length (filter is_procedure bs)
procedure_passed b bs true e = ap (λ (x : Bool). length (cond x (b ∷ filter is_procedure bs) (filter is_procedure bs))) e ∙ omega arith
procedure_passed b bs false e = ap (λ (x : Bool). length (cond x (b ∷ filter is_procedure bs) (filter is_procedure bs))) e ∙ omega arith

-- one more with a procedure
pub counted : (bs : List Block) (j : ℕ) → is_procedure (block_numbered bs j) ≡ true → procedures_before bs (suc j) ≡ procedures_before bs j + 1
counted [] j e = cc
counted (b ∷ bs) zero e = procedure_passed b [] true e ∙ omega arith
counted (b ∷ bs) (suc j) e =
    omega (arith, procedure_passed b (take (suc j) bs) (is_procedure b) refl, procedure_passed b (take j bs) (is_procedure b) refl, counted bs j e)

pub before_whole : (bs : List Block) (j : ℕ) → procedures_before bs j ≤ length (filter is_procedure bs)
before_whole bs zero = omega arith
before_whole [] (suc j) = omega arith
before_whole (b ∷ bs) (suc j) =
    omega (arith, procedure_passed b (take j bs) (is_procedure b) refl, procedure_passed b bs (is_procedure b) refl, before_whole bs j)

-- a segment's number is no higher than there are procedures before some block
pub segment_low : (bs : List Block) (js : List ℕ) (limit : ℕ) → ((j : ℕ) → procedures_before bs j ≤ limit) → segment_among bs js ≤ limit
segment_low bs [] limit few = omega arith
segment_low bs (j ∷ js) limit few = by_first (segment_low bs js limit few) (is_procedure (block_numbered bs j)) refl
  where
    by_first : segment_among bs js ≤ limit → (t : Bool) → is_procedure (block_numbered bs j) ≡ t → (if is_procedure (block_numbered bs j) then procedures_before bs j + 1 else segment_among bs js) ≤ limit
    by_first later true is =
        let here : (if is_procedure (block_numbered bs j) then procedures_before bs j + 1 else segment_among bs js) ≡ procedures_before bs j + 1 =
        ap (λ (x : Bool). if x then procedures_before bs j + 1 else segment_among bs js) is in
        omega (arith, here, counted bs j is, few (suc j))
    by_first later false is =
        let here : (if is_procedure (block_numbered bs j) then procedures_before bs j + 1 else segment_among bs js) ≡ segment_among bs js =
        ap (λ (x : Bool). if x then procedures_before bs j + 1 else segment_among bs js) is in
        omega (arith, here, later)

-- of a procedure
pub procedure_segment : (bs : List Block) (j : ℕ) → is_procedure (block_numbered bs j) ≡ true → segment_of bs j ≡ procedures_before bs (suc j)
procedure_segment bs j is =
    ap (λ (x : Bool). if x then procedures_before bs j + 1 else segment_among bs (around bs j)) is
    ∙ sym (counted bs j is)

-- a block that is no procedure stands in the segment of the blocks around it
pub inner_segment : (bs : List Block) (j : ℕ) (js : List ℕ) → is_procedure (block_numbered bs j) ≡ false → segment_among bs (j ∷ js) ≡ segment_among bs js
inner_segment bs j js is = ap (λ (x : Bool). if x then procedures_before bs j + 1 else segment_among bs js) is

-- ---- by number in a list

pub get_mapped : {A B : Type 0} (f : A → B) (xs : List A) (k : ℕ) (x : A) → slice_get xs k ≡ Some x → slice_get (map f xs) k ≡ Some (f x)
get_mapped f [] k x e = cc
get_mapped f (y ∷ ys) zero x e = let same : y ≡ x = cc in ap (λ z. Some (f z)) same
get_mapped f (y ∷ ys) (suc k) x e = get_mapped f ys k x e
