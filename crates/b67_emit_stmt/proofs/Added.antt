-- What is noted for statements: the formats of lines and the labels of one after those of another.
use Rattle.std.proofs.Common.{◌≡◌, ℕ, ◌+◌, ◌<◌, ◌≤◌, List, [], ◌∷◌, ◌++◌, length, map, take, get_or, refl, sym, ap, ◌∙◌, subst, append_assoc}
use Rattle.std.proofs.lemmas.List.{append-nil, map-append, take_all}
use Rattle.algol_tree.specs.declared.token.Spot.{Spot}
use Rattle.algol_tree.specs.declared.tree.Body.{Body}
use Rattle.algol_tree.specs.declared.tree.Named.{Named}
use Rattle.algol_tree.specs.declared.tree.PhraseText.{PhraseText}
use Rattle.algol_tree.specs.declared.tree.Stmt.{Stmt}
use Rattle.algol_tree.specs.declared.tree.Stmt.TheVariants as shapes
use Rattle.algol_tree.specs.Image.{decls, stmt, stmts}
use Rattle.algol_tree.specs.Plain as tree
use Rattle.algol_tree.specs.Plain.{PExpr, PStmt, PStmts}
use Rattle.b67_segment.specs.declared.code.Format.{Format}
use Rattle.b67_segment.specs.declared.code.Phrase.{Phrase}
use Rattle.b67_templates.specs.Code.{AreParts, IsCodePart, text, word}
use Rattle.b67_faithful.specs.Lines.{format_for, formats_for, part_for, stmt_lines, stmts_lines}
use Rattle.b67_emit_stmt.specs.declared.draft.Draft.{Draft}
use Rattle.b67_emit_stmt.specs.declared.draft.Label.{Label}
use Rattle.b67_emit_stmt.specs.Drafts.{DraftAdds, AddsStmt, AddsStmts, DraftNoted, draft_noted, spots_of}
use Rattle.b67_emit_stmt.specs.Labels.{label_spots, label_spots_in}
use Rattle.b67_emit_stmt.proofs.Lists.{front_more}
use Rattle.b67_emit_stmt.proofs.Shapes.{block_as}

-- ---- one format

part_is : (t : PhraseText) (p : Phrase) → IsCodePart t p → p ≡ part_for t
part_is t p (text bytes) = refl
part_is t p (word letters) = refl

parts_are : (ts : List PhraseText) (ps : List Phrase) → AreParts ts ps → ps ≡ map part_for ts
parts_are [] ps e = e
parts_are (t ∷ ts) ps e = e.2 ∙ ap (λ p. p ∷ e.1) (part_is t e.0 e.3) ∙ ap (λ more. part_for t ∷ more) (parts_are ts e.1 e.4)

-- a format of these parts is the format of the line
pub format_is : (ts : List PhraseText) (f : Format) → AreParts ts f.phrases → f ≡ format_for ts
format_is ts f are = let F : List Phrase → Format = λ l. record { phrases = l } in ap F (parts_are ts f.phrases are)

-- ---- one list after another

-- first those of some lines, and then those of others
pub both_added : (before between after : List Format) (xs ys all : List (List PhraseText)) → all ≡ xs ++ ys → between ≡ before ++ formats_for xs → after ≡ between ++ formats_for ys →
    after ≡ before ++ formats_for all
both_added before between after xs ys all are first second =
    second ∙ ap (λ l. l ++ formats_for ys) first ∙ append_assoc before (formats_for xs) (formats_for ys) ∙ ap (λ l. before ++ l) (sym (map-append format_for xs ys))
    ∙ ap (λ ls. before ++ formats_for ls) (sym are)

spots_after : (old mid new xs ys : List Spot) → mid ≡ old ++ xs → new ≡ mid ++ ys → new ≡ old ++ (xs ++ ys)
spots_after old mid new xs ys first second = second ∙ ap (λ (l : List Spot). l ++ ys) first ∙ append_assoc old xs ys

-- ---- what is noted, one piece after another

none_noted : (x : DraftNoted) → DraftAdds x x [] []
none_noted x = record { formats = sym (append-nil x.formats); labels = sym (append-nil (spots_of x.labels)) }

notes_then : (x y z : DraftNoted) (ls ms : List (List PhraseText)) (ss ts : List Spot) → DraftAdds x y ls ss → DraftAdds y z ms ts → DraftAdds x z (ls ++ ms) (ss ++ ts)
notes_then x y z ls ms ss ts h k = record {
  formats = both_added x.formats y.formats z.formats ls ms (ls ++ ms) refl h.formats k.formats;
  labels = spots_after (spots_of x.labels) (spots_of y.labels) (spots_of z.labels) ss ts h.labels k.labels;
}

notes_for : (x y : DraftNoted) (ls ms : List (List PhraseText)) (ss ts : List Spot) → ls ≡ ms → ss ≡ ts → DraftAdds x y ls ss → DraftAdds x y ms ts
notes_for x y ls ms ss ts same same' h = record {
  formats = h.formats ∙ ap (λ l. x.formats ++ formats_for l) same;
  labels = h.labels ∙ ap (λ (l : List Spot). spots_of x.labels ++ l) same';
}

-- ---- of statements

-- nothing
pub none_added : (x : Draft) → AddsStmts x x tree.no_stmts
none_added x = none_noted (draft_noted x)

-- what a statement without statements in it notes that is no line and no label
pub plain_added : (x y : Draft) → draft_noted y ≡ draft_noted x → DraftAdds (draft_noted x) (draft_noted y) [] []
plain_added x y e = let A : DraftNoted → Type 0 = λ n. DraftAdds (draft_noted x) n [] [] in subst A (sym e) (none_noted (draft_noted x))

-- where nothing was noted before
pub then_added : (x y z : Draft) (s : PStmt) → draft_noted y ≡ draft_noted x → AddsStmt y z s → AddsStmt x z s
then_added x y z s e h = let A : DraftNoted → Type 0 = λ n. DraftAdds n (draft_noted z) (stmt_lines s) (label_spots s) in subst A e h

pub all_then_added : (x y z : Draft) (ss : PStmts) → draft_noted y ≡ draft_noted x → AddsStmts y z ss → AddsStmts x z ss
all_then_added x y z ss e h = let A : DraftNoted → Type 0 = λ n. DraftAdds n (draft_noted z) (stmts_lines ss) (label_spots_in ss) in subst A e h

-- a statement in another form
pub added_as : (x y : Draft) (p q : PStmt) → p ≡ q → AddsStmt x y q → AddsStmt x y p
added_as x y p q same h = let A : PStmt → Type 0 = λ s. AddsStmt x y s in subst A (sym same) h

-- a statement that notes nothing, in another form
pub none_as : (x y : Draft) (p q : PStmt) → p ≡ q → draft_noted y ≡ draft_noted x → stmt_lines q ≡ [] → label_spots q ≡ [] → AddsStmt x y p
none_as x y p q same e lines spots =
    added_as x y p q same (notes_for (draft_noted x) (draft_noted y) [] (stmt_lines q) [] (label_spots q) (sym lines) (sym spots) (plain_added x y e))

pub else_added : (x y z : Draft) (c : PExpr) (p q : PStmt) → AddsStmt x y p → AddsStmt y z q → AddsStmt x z (tree.if_else c p q)
else_added x y z c p q h k = notes_then (draft_noted x) (draft_noted y) (draft_noted z) (stmt_lines p) (stmt_lines q) (label_spots p) (label_spots q) h k

-- a label, and the statement after it
pub label_added : (x y z : Draft) (l : Label) (n : Named) (s : PStmt) → y.formats.items ≡ x.formats.items → y.labels.items ≡ x.labels.items ++ l ∷ [] → l.spot ≡ n.spot → AddsStmt y z s →
    AddsStmt x z (tree.label n s)
label_added x y z l n s fs ls at h =
    let first : DraftAdds (draft_noted x) (draft_noted y) [] (n.spot ∷ []) = record {
      formats = fs ∙ sym (append-nil x.formats.items);
      labels = ap spots_of ls ∙ map-append (λ (i : Label). i.spot) x.labels.items (l ∷ []) ∙ ap (λ (i : Spot). spots_of x.labels.items ++ i ∷ []) at;
    } in
    notes_then (draft_noted x) (draft_noted y) (draft_noted z) [] (stmt_lines s) (n.spot ∷ []) (label_spots s) first h

-- ---- statements one after another

one_more : (xs : List Stmt) (x : Stmt) → stmts_lines (stmts (xs ++ x ∷ [])) ≡ stmts_lines (stmts xs) ++ stmt_lines (stmt x)
one_more [] x = append-nil (stmt_lines (stmt x))
one_more (y ∷ ys) x =
    ap (λ ls. stmt_lines (stmt y) ++ ls) (one_more ys x) ∙ sym (append_assoc (stmt_lines (stmt y)) (stmts_lines (stmts ys)) (stmt_lines (stmt x)))

-- up to the next statement
next_lines : (xs : List Stmt) (i : ℕ) (x : Stmt) → i < length xs → x ≡ get_or xs i x →
    stmts_lines (stmts (take (i + 1) xs)) ≡ stmts_lines (stmts (take i xs)) ++ stmt_lines (stmt x)
next_lines xs i x h e = ap (λ (l : List Stmt). stmts_lines (stmts l)) (front_more xs i x h e) ∙ one_more (take i xs) x

one_more_spot : (xs : List Stmt) (x : Stmt) → label_spots_in (stmts (xs ++ x ∷ [])) ≡ label_spots_in (stmts xs) ++ label_spots (stmt x)
one_more_spot [] x = append-nil (label_spots (stmt x))
one_more_spot (y ∷ ys) x =
    ap (λ (l : List Spot). label_spots (stmt y) ++ l) (one_more_spot ys x) ∙ sym (append_assoc (label_spots (stmt y)) (label_spots_in (stmts ys)) (label_spots (stmt x)))

next_spots : (xs : List Stmt) (i : ℕ) (x : Stmt) → i < length xs → x ≡ get_or xs i x →
    label_spots_in (stmts (take (i + 1) xs)) ≡ label_spots_in (stmts (take i xs)) ++ label_spots (stmt x)
next_spots xs i x h e = ap (λ (l : List Stmt). label_spots_in (stmts l)) (front_more xs i x h e) ∙ one_more_spot (take i xs) x

-- one more statement
pub next_added : (x y z : Draft) (xs : List Stmt) (i : ℕ) (s : Stmt) → i < length xs → s ≡ get_or xs i s → AddsStmts x y (stmts (take i xs)) → AddsStmt y z (stmt s) →
    AddsStmts x z (stmts (take (i + 1) xs))
next_added x y z xs i s h e done here =
    let these = stmts (take i xs) in
    let those = stmts (take (i + 1) xs) in
    notes_for (draft_noted x) (draft_noted z) (stmts_lines these ++ stmt_lines (stmt s)) (stmts_lines those) (label_spots_in these ++ label_spots (stmt s)) (label_spots_in those)
    (sym (next_lines xs i s h e)) (sym (next_spots xs i s h e))
    (notes_then (draft_noted x) (draft_noted y) (draft_noted z) (stmts_lines these) (stmt_lines (stmt s)) (label_spots_in these) (label_spots (stmt s)) done here)

-- all of them
pub all_added : (x y : Draft) (xs : List Stmt) (i : ℕ) → length xs ≤ i → AddsStmts x y (stmts (take i xs)) → AddsStmts x y (stmts xs)
all_added x y xs i h done = let A : List Stmt → Type 0 = λ l. AddsStmts x y (stmts l) in subst A (take_all i xs h) done

-- the statements of a block, as it is matched
pub block_added : (x y : Draft) (s : Stmt) (b : Body) (ss : List Stmt) → s ≡ shapes.Block b → ss ≡ b.stmts → AddsStmts x y (stmts ss) → AddsStmt x y (stmt s)
block_added x y s b ss is same h = added_as x y (stmt s) (tree.block (tree.body b.spot (decls b.decls) (stmts ss))) (block_as s b ss is same) h
