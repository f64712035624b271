-- The block of each text, and the text of the outer block and of each procedure's, by their numbers: the procedures have the segments 1, 2, ..
-- in the order of the text.
use Rattle.std.proofs.Common.{arith, ◌≡◌, ◌⊎◌, inl, inr, ℕ, zero, suc, ◌+◌, ◌<◌, ◌≤◌, Bool, true, false, List, [], ◌∷◌, length, filter, take, Some, None, refl, sym, ap, ◌∙◌, subst, slice_get, if◌then◌else◌, add-one}
use Rattle.algol_tree.specs.declared.token.Spot.{Spot}
use Rattle.algol_tree.specs.Accepted.{sites_of}
use Rattle.algol_tree.specs.Ascending.{IsInOrder}
use Rattle.algol_tree.specs.Blocks.{Block, block_numbered, number_at, around, outer_block, blocks_of_program}
use Rattle.algol_tree.specs.Counts.{body_tokens}
use Rattle.algol_tree.specs.Names.{Segment}
use Rattle.algol_tree.specs.Plain as tree
use Rattle.algol_tree.specs.Plain.{PDecls, PStmts, PProgram}
use Rattle.algol_tree.proofs.Trees.{block_is, got_numbered}
use Rattle.algol_paths.specs.Segments.{is_procedure, procedures_before, segment_among, segment_of, segment_tokens, tokens_or_none}
use Rattle.b67_ops.specs.declared.TheConstants.{OUTER_LEVEL}
use Rattle.b67_emit_text.specs.Texts.{Text, outer_text, texts, texts_in_body}
use Rattle.b67_templates.specs.Names.{HasNames}
use Rattle.b67_fitting.proofs.SurroundedSites.{each_number}
use Rattle.b67_compile.proofs.Matching.{IsTextOf, Triples, all_match, segs, text_of}
use Rattle.b67_frames.proofs.Segmenting.{numbered_procedure}

-- ---- among three lists

record OfText (bs : List Block) (ss : List Segment) (k : ℕ) (t : Text) : Type 0 where
  block : Block
  segment : Segment
  block_is : slice_get bs k ≡ Some block
  segment_is : slice_get ss k ≡ Some segment
  fits : IsTextOf block segment t

of_text : (bs : List Block) (ss : List Segment) (ts : List Text) (k : ℕ) (t : Text) → Triples bs ss ts → slice_get ts k ≡ Some t → OfText bs ss k t
of_text [] [] [] k t h e = absurd (let clash : None ≡ Some t = e in cc)
of_text [] [] (u ∷ ts) k t h e = absurd h
of_text [] (s ∷ ss) [] k t h e = absurd h
of_text [] (s ∷ ss) (u ∷ ts) k t h e = absurd h
of_text (b ∷ bs) [] [] k t h e = absurd h
of_text (b ∷ bs) [] (u ∷ ts) k t h e = absurd h
of_text (b ∷ bs) (s ∷ ss) [] k t h e = absurd h
of_text (b ∷ bs) (s ∷ ss) (u ∷ ts) zero t h e =
    let same : u ≡ t = cc in
    record { block = b; segment = s; block_is = refl; segment_is = refl; fits = subst (IsTextOf b s) same h.0 }
of_text (b ∷ bs) (s ∷ ss) (u ∷ ts) (suc k) t h e =
    let r = of_text bs ss ts k t h.1 e in
    record { block = r.block; segment = r.segment; block_is = r.block_is; segment_is = r.segment_is; fits = r.fits }

record OfBlock (ss : List Segment) (ts : List Text) (k : ℕ) (b : Block) : Type 0 where
  segment : Segment
  text : Text
  text_is : slice_get ts k ≡ Some text
  fits : IsTextOf b segment text

of_block : (bs : List Block) (ss : List Segment) (ts : List Text) (k : ℕ) (b : Block) → Triples bs ss ts → slice_get bs k ≡ Some b → OfBlock ss ts k b
of_block [] ss ts k b h e = absurd (let clash : None ≡ Some b = e in cc)
of_block (c ∷ bs) [] [] k b h e = absurd h
of_block (c ∷ bs) [] (u ∷ ts) k b h e = absurd h
of_block (c ∷ bs) (s ∷ ss) [] k b h e = absurd h
of_block (c ∷ bs) (s ∷ ss) (u ∷ ts) zero b h e =
    let same : c ≡ b = cc in
    record { segment = s; text = u; text_is = refl; fits = subst (λ (z : Block). IsTextOf z s u) same h.0 }
of_block (c ∷ bs) (s ∷ ss) (u ∷ ts) (suc k) b h e =
    let r = of_block bs ss ts k b h.1 e in
    record { segment = r.segment; text = r.text; text_is = r.text_is; fits = r.fits }

as_many : (bs : List Block) (ss : List Segment) (ts : List Text) → Triples bs ss ts → length ts ≡ length bs
as_many [] [] [] h = refl
as_many [] [] (u ∷ ts) h = absurd h
as_many [] (s ∷ ss) [] h = absurd h
as_many [] (s ∷ ss) (u ∷ ts) h = absurd h
as_many (b ∷ bs) [] [] h = absurd h
as_many (b ∷ bs) [] (u ∷ ts) h = absurd h
as_many (b ∷ bs) (s ∷ ss) [] h = absurd h
as_many (b ∷ bs) (s ∷ ss) (u ∷ ts) h = omega (arith, as_many bs ss ts h.1)

-- ---- procedures among blocks

-- the procedure with this number is the block with that one, and so many stand before it
record OfNumber (bs : List Block) (k : ℕ) (b : Block) : Type 0 where
  number : ℕ
  there : slice_get bs number ≡ Some b
  own : is_procedure b ≡ true
  before : procedures_before bs number ≡ k

procedure_numbered : (bs : List Block) (k : ℕ) (b : Block) → slice_get (filter is_procedure bs) k ≡ Some b → OfNumber bs k b
procedure_numbered [] k b e = absurd (let clash : None ≡ Some b = e in cc)
procedure_numbered (c ∷ bs) k b e = by (is_procedure c) refl k (λ m f. procedure_numbered bs m b f) e
  where
    counted : (t : Bool) (n : ℕ) → is_procedure c ≡ t →
        procedures_before (c ∷ bs) (suc n) ≡ length (if t then c ∷ filter is_procedure (take n bs) else filter is_procedure (take n bs))
    counted t n g = ap (λ (z : Bool). length (if z then c ∷ filter is_procedure (take n bs) else filter is_procedure (take n bs))) g

    by : (t : Bool) → is_procedure c ≡ t → (m : ℕ) → ((n : ℕ) → slice_get (filter is_procedure bs) n ≡ Some b → OfNumber bs n b) →
        slice_get (if t then c ∷ filter is_procedure bs else filter is_procedure bs) m ≡ Some b → OfNumber (c ∷ bs) m b
    by true g zero later f =
        let same : c ≡ b = cc in
        record { number = 0; there = ap Some same; own = ap is_procedure (sym same) ∙ g; before = refl }
    by true g (suc m) later f =
        let r = later m f in
        record { number = suc r.number; there = r.there; own = r.own; before = counted true r.number g ∙ ap suc r.before }
    by false g m later f =
        let r = later m f in
        record { number = suc r.number; there = r.there; own = r.own; before = counted false r.number g ∙ r.before }

-- the number of its segment
procedure_segment : (bs : List Block) (j : ℕ) → is_procedure (block_numbered bs j) ≡ true → segment_of bs j ≡ suc (procedures_before bs j)
procedure_segment bs j own = ap (λ (t : Bool). if t then procedures_before bs j + 1 else segment_among bs (around bs j)) own ∙ add-one (procedures_before bs j)

-- ---- of a program

-- The segment with this number is that of the block, and its text has at least so many tokens.
pub record IsOf (p : PProgram) (number : ℕ) (b : Block) (tokens : ℕ) : Type 0 where
  pub block : ℕ
  pub there : slice_get (blocks_of_program p) block ≡ Some b
  pub number_is : number_at (blocks_of_program p) b.spot ≡ block
  pub segment : segment_of (blocks_of_program p) block ≡ number
  pub short : tokens ≤ segment_tokens p number

-- the text is that of a block
pub record HasOne (p : PProgram) (number : ℕ) (t : Text) : Type 0 where
  pub block : Block
  pub tokens : ℕ
  pub is : t ≡ text_of block tokens
  pub of : IsOf p number block tokens

-- the block has a text
pub record HasText (p : PProgram) (ts : List Text) (j : ℕ) : Type 0 where
  pub tokens : ℕ
  pub number_is : number_at (blocks_of_program p) (block_numbered (blocks_of_program p) j).spot ≡ j
  pub text : slice_get ts (segment_of (blocks_of_program p) j) ≡ Some (text_of (block_numbered (blocks_of_program p) j) tokens)

module _ (spot : Spot) (ds : PDecls) (ss : PStmts) (order : IsInOrder (tree.program (tree.body spot ds ss)))
    (named : HasNames (tree.program (tree.body spot ds ss))) where
  abbrev p : PProgram
  p = tree.program (tree.body spot ds ss)

  abbrev inner : List Text
  inner = texts_in_body (tree.body spot ds ss) OUTER_LEVEL

  outer_is : IsOf p 0 (outer_block (tree.body spot ds ss)) (body_tokens (tree.body spot ds ss))
  unfolding blocks_of_program
  outer_is = record {
    block = 0;
    there = refl;
    number_is = each_number p order 0 (outer_block (tree.body spot ds ss)) refl;
    segment = refl;
    short = omega arith;
  }

  procedure_is : (k : ℕ) (t : Text) → slice_get inner k ≡ Some t → HasOne p (suc k) t
  procedure_is k t e =
      let bs = blocks_of_program p in
      let r = of_text (filter is_procedure bs) (segs (sites_of p)) inner k t (all_match spot ds ss named) e in
      let n = procedure_numbered bs k r.block r.block_is in
      let own : is_procedure (block_numbered bs n.number) ≡ true = ap is_procedure (block_is bs n.number r.block n.there) ∙ n.own in
      let tokens : r.segment.tokens ≡ segment_tokens p (suc k) = ap tokens_or_none (sym r.segment_is) in
      record {
        block = r.block;
        tokens = r.segment.tokens;
        is = r.fits.is;
        of = record {
          block = n.number;
          there = n.there;
          number_is = each_number p order n.number r.block n.there;
          segment = procedure_segment bs n.number own ∙ ap suc n.before;
          short = omega (arith, tokens);
        };
      }

  pub text_block : (number : ℕ) (t : Text) → slice_get (texts (tree.body spot ds ss)) number ≡ Some t → HasOne p number t
  text_block zero t e =
      let same : outer_text (tree.body spot ds ss) ≡ t = cc in
      record { block = outer_block (tree.body spot ds ss); tokens = body_tokens (tree.body spot ds ss); is = sym same; of = outer_is }
  text_block (suc k) t e = procedure_is k t e

  pub block_text : (j : ℕ) → j < length (blocks_of_program p) → (j ≡ 0) ⊎ (is_procedure (block_numbered (blocks_of_program p) j) ≡ true) → HasText p (texts (tree.body spot ds ss)) j
  unfolding blocks_of_program
  block_text j known (inl first) =
      subst (HasText p (texts (tree.body spot ds ss))) (sym first)
      (record { tokens = body_tokens (tree.body spot ds ss); number_is = each_number p order 0 (outer_block (tree.body spot ds ss)) refl; text = refl })
  block_text j known (inr own) =
      let bs = blocks_of_program p in
      let b = block_numbered bs j in
      let k = procedures_before bs j in
      let there : slice_get bs j ≡ Some b = got_numbered bs j known in
      let r = of_block (filter is_procedure bs) (segs (sites_of p)) inner k b (all_match spot ds ss named) (numbered_procedure bs j b there own) in
      record {
        tokens = r.segment.tokens;
        number_is = each_number p order j b there;
        text = ap (slice_get (texts (tree.body spot ds ss))) (procedure_segment bs j own) ∙ r.text_is ∙ ap Some r.fits.is;
      }

  pub texts_many : length (texts (tree.body spot ds ss)) ≡ 1 + length (filter is_procedure (blocks_of_program p))
  texts_many = omega (arith, as_many (filter is_procedure (blocks_of_program p)) (segs (sites_of p)) inner (all_match spot ds ss named))
