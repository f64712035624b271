-- The labels that the blocks of a program declare are those of the tables of its texts, and have their numbers there.
use Rattle.std.proofs.Common.{arith, ◌≡◌, ℕ, suc, ◌+◌, ◌<◌, List, [], ◌∷◌, ◌++◌, length, Some, refl, sym, ap, ◌∙◌, slice_get}
use Rattle.algol_tree.specs.declared.token.Spot.{Spot}
use Rattle.algol_tree.specs.declared.tree.Named.{Named}
use Rattle.algol_tree.specs.Ascending.{IsInOrder}
use Rattle.algol_tree.specs.Blocks.{Block, block_numbered, number_at, outer_block, blocks_of_program, blocks_in_decls, blocks_in_stmts}
use Rattle.algol_tree.specs.Cells.{level_of}
use Rattle.algol_tree.specs.Plain as tree
use Rattle.algol_tree.specs.Plain.{PDecls, PStmts, PProgram}
use Rattle.algol_tree.specs.Scopes.{scopes_of}
use Rattle.algol_tree.proofs.Trees.{block_is, got_numbered}
use Rattle.algol_paths.specs.Segments.{segment_of}
use Rattle.b67_ops.specs.declared.TheConstants.{OUTER_LEVEL}
use Rattle.b67_templates.specs.Labels.{label_number}
use Rattle.b67_emit_text.specs.Entries.{DeclaredLabel, entries_in_stmts}
use Rattle.b67_emit_text.specs.Texts.{Text, texts, texts_in_body}
use Rattle.b67_templates.specs.Names.{HasNames}
use Rattle.b67_fitting.proofs.SurroundedSites.{each_number}
use Rattle.b67_compile.proofs.Entries.{entries_in_text, entries_numbered, entries_among, IsOwn, AreOwn, AreNumbered, Stands, have_block, stands_plain, stands_within, body_has}
use Rattle.b67_compile.proofs.LabelPlaces.{IsEntry, numbered_entry, InText, in_text}
use Rattle.b67_compile.proofs.Places.{text_block}
use Rattle.b67_fitting.proofs.ActualsCelled.{each_by}

each_numbered : (blocks : List Block) (first : ℕ) (ts : List Text) → ((i : ℕ) (t : Text) → slice_get ts i ≡ Some t → segment_of blocks (number_at blocks t.spot) ≡ first + i) → AreNumbered blocks first ts
each_numbered blocks first [] f = tt
each_numbered blocks first (t ∷ ts) f =
    let here : first + 0 ≡ first = omega arith in
    (f 0 t refl ∙ here, each_numbered blocks (first + 1) ts (λ i u h. let on : first + suc i ≡ first + 1 + i = omega arith in f (suc i) u h ∙ on))

-- a label of a block in the text of its segment
pub record LabelEntry (ts : List Text) (p : PProgram) (j number : ℕ) (name : List ℕ) : Type 0 where
  pub label : Named
  pub name_is : label.name ≡ name
  pub text : Text
  pub text_is : slice_get ts (segment_of (scopes_of p).blocks j) ≡ Some text
  pub entry_is : slice_get (entries_in_text text) number ≡ Some (record { level = level_of (block_numbered (scopes_of p).blocks j); name = label; stmts = (block_numbered (scopes_of p).blocks j).stmts })

module _ (spot : Spot) (ds : PDecls) (ss : PStmts) (order : IsInOrder (tree.program (tree.body spot ds ss)))
    (named : HasNames (tree.program (tree.body spot ds ss))) where
  abbrev p : PProgram
  p = tree.program (tree.body spot ds ss)

  all_own : AreOwn (blocks_of_program p) (blocks_of_program p)
  all_own =
      let bs = blocks_of_program p in
      each_by (IsOwn bs) bs (λ i b h. ap (block_numbered bs) (each_number p order i b h) ∙ block_is bs i b h)

  all_numbered : AreNumbered (blocks_of_program p) 1 (texts_in_body (tree.body spot ds ss) OUTER_LEVEL)
  all_numbered =
      let bs = blocks_of_program p in
      each_numbered bs 1 (texts_in_body (tree.body spot ds ss) OUTER_LEVEL)
      (λ i t h.
      let r = text_block spot ds ss order named (suc i) t h in
      let at : t.spot ≡ r.block.spot = ap (λ (z : Text). z.spot) r.is in
      let same : suc i ≡ 1 + i = omega arith in
      ap (λ (s : Spot). segment_of bs (number_at bs s)) at ∙ ap (segment_of bs) r.of.number_is ∙ r.of.segment ∙ same)

  pub entries_are : (k : ℕ) → entries_among (blocks_of_program p) k (blocks_of_program p) ≡ entries_numbered 0 (texts (tree.body spot ds ss)) k
  unfolding blocks_of_program
  entries_are k =
      let bs = blocks_of_program p in
      let b = outer_block (tree.body spot ds ss) in
      let outer : List Spot = spot ∷ [] in
      let here : IsOwn bs b = all_own.0 in
      let at = stands_plain bs b 0 refl here refl in
      let within : Stands bs outer 0 = stands_within bs b here ∙ at in
      let inside = body_has bs ds ss outer OUTER_LEVEL 0 1 refl (omega arith) within all_own.1 all_numbered in
      have_block bs b 0 1 (entries_in_stmts OUTER_LEVEL ss) (texts_in_body (tree.body spot ds ss) OUTER_LEVEL) (blocks_in_decls ds outer ++ blocks_in_stmts ss outer) at inside k

  pub label_entry : (j number : ℕ) (name : List ℕ) → j < length (scopes_of p).blocks → label_number (scopes_of p) j name ≡ Some number → LabelEntry (texts (tree.body spot ds ss)) p j number name
  unfolding scopes_of
  label_entry j number name known h =
      let bs = blocks_of_program p in
      let sc = scopes_of p in
      let b = block_numbered bs j in
      let own : (i : ℕ) → i < length bs → number_at bs (block_numbered bs i).spot ≡ i = (λ i less. each_number p order i (block_numbered bs i) (got_numbered bs i less)) in
      let r : IsEntry sc (got_numbered bs) own j number name = numbered_entry sc (got_numbered bs) own j number name known h in
      let k = segment_of bs j in
      let e : DeclaredLabel = record { level = level_of b; name = r.label; stmts = b.stmts } in
      let same : 0 + k ≡ k = omega arith in
      let there : slice_get (entries_numbered 0 (texts (tree.body spot ds ss)) (0 + k)) number ≡ Some e =
      ap (λ (n : ℕ). slice_get (entries_numbered 0 (texts (tree.body spot ds ss)) n) number) same ∙ ap (λ (es : List DeclaredLabel). slice_get es number) (sym (entries_are k)) ∙ r.there_is in
      let t : InText (texts (tree.body spot ds ss)) k number e = in_text 0 (texts (tree.body spot ds ss)) k number e there in
      record { label = r.label; name_is = r.name_is; text = t.text; text_is = t.text_is; entry_is = t.entry_is }
