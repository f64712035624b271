-- The variables and procedures that are declared.
use Rattle.std.proofs.Common.{rules, ◌≡◌, ◌+◌, List, ◌∷◌, length, ap, sym, ◌∙◌, arith, length-append}
use Rattle.std.proofs.lemmas.List.{length-map}
use Rattle.std.specs.declared.boxed.Box.{Box}
use Rattle.std.specs.declared.alloc.Global.{Global}
use Rattle.algol_tree.specs.declared.tree.Body.{Body}
use Rattle.algol_tree.specs.declared.tree.Stmt.{Stmt}
use Rattle.algol_tree.specs.declared.tree.Decl.{Decl, out-Decl, roll-Decl, roll-out-Decl, the_lemmas}
use Rattle.algol_tree.specs.declared.tree.Decl.TheOpen.{Decl-F}
use Rattle.algol_tree.specs.declared.tree.Decl.TheVariants as shapes
use Rattle.algol_tree.specs.declared.tree.Kind.{Kind}
use Rattle.algol_tree.specs.declared.tree.Named.{Named}
use Rattle.algol_tree.specs.declared.tree.Heading.{Heading}
use Rattle.algol_tree.specs.Image.{decl, decls}
use Rattle.algol_tree.specs.Plain as tree
use Rattle.algol_tree.specs.Plain.{PDecl, PDecls}
use Rattle.algol_tree.proofs.Images.{procedure_is, simple_is}
use Rattle.b67_templates.specs.Cells.{Simple, value, of_kind, procedures, variables}

pub declared : (kind : Kind) (ns : List Named) (ds : PDecls) → length (variables (tree.decls (tree.simple kind ns) ds)) ≡ length ns + length (variables ds)
declared kind ns ds =
    let one : Named → Simple = λ n. record { name = n.name; wanted = value kind } in
    omega (arith, length-append (of_kind kind ns) (variables ds), length-map ns one)

-- a declaration of variables, and those after it
pub variables_more : (d : Decl) (kind : Kind) (ns : List Named) (ds : List Decl) → d ≡ shapes.Simple kind ns →
    length (variables (decls (d ∷ ds))) ≡ length ns + length (variables (decls ds))
variables_more d kind ns ds is =
    ap (λ (x : PDecl). length (variables (tree.decls x (decls ds)))) (ap decl is ∙ simple_is kind ns) ∙ declared kind ns (decls ds)

-- a declaration of something else
no_more : (x : Decl-F Decl Stmt Body) (ds : PDecls) → ((kind : Kind) (ns : List Named) → roll-Decl x ≡ shapes.Simple kind ns → ⊥) →
    length (variables (tree.decls (decl (roll-Decl x)) ds)) ≡ length (variables ds)
no_more (Decl-F.Simple kind ns) ds other = absurd (other kind ns (shapes.rolls-Simple kind ns))
no_more (Decl-F.Files ns) ds other = search (rules, the_lemmas)
no_more (Decl-F.Events ns) ds other = search (rules, the_lemmas)
no_more (Decl-F.Tasks ns) ds other = search (rules, the_lemmas)
no_more (Decl-F.Labels ns) ds other = search (rules, the_lemmas)
no_more (Decl-F.Arrays kind ns pairs) ds other = search (rules, the_lemmas)
no_more (Decl-F.Forward h) ds other = search (rules, the_lemmas)
no_more (Decl-F.Procedure h s) ds other = search (rules, the_lemmas)

pub variables_same : (d : Decl) (ds : List Decl) → ((kind : Kind) (ns : List Named) → d ≡ shapes.Simple kind ns → ⊥) →
    length (variables (decls (d ∷ ds))) ≡ length (variables (decls ds))
variables_same d ds other =
    ap (λ (e : Decl). length (variables (tree.decls (decl e) (decls ds)))) (sym (roll-out-Decl d))
    ∙ no_more (out-Decl d) (decls ds) (λ kind ns e. other kind ns (sym (roll-out-Decl d) ∙ e))

-- ---- procedures

-- a declaration of a procedure, and those after it
pub procedures_more : (d : Decl) (h : Heading) (s : Box Stmt Global) (ds : List Decl) → d ≡ shapes.Procedure h s → procedures (decls (d ∷ ds)) ≡ h.name ∷ procedures (decls ds)
procedures_more d h s ds is = ap (λ (x : PDecl). procedures (tree.decls x (decls ds))) (ap decl is ∙ procedure_is h s)

-- a declaration of something else
none_more : (x : Decl-F Decl Stmt Body) (ds : PDecls) → ((h : Heading) (s : Box Stmt Global) → roll-Decl x ≡ shapes.Procedure h s → ⊥) →
    procedures (tree.decls (decl (roll-Decl x)) ds) ≡ procedures ds
none_more (Decl-F.Simple kind ns) ds other = search (rules, the_lemmas)
none_more (Decl-F.Files ns) ds other = search (rules, the_lemmas)
none_more (Decl-F.Events ns) ds other = search (rules, the_lemmas)
none_more (Decl-F.Tasks ns) ds other = search (rules, the_lemmas)
none_more (Decl-F.Labels ns) ds other = search (rules, the_lemmas)
none_more (Decl-F.Arrays kind ns pairs) ds other = search (rules, the_lemmas)
none_more (Decl-F.Forward h) ds other = search (rules, the_lemmas)
none_more (Decl-F.Procedure h s) ds other = absurd (other h s (shapes.rolls-Procedure h s))

pub procedures_same : (d : Decl) (ds : List Decl) → ((h : Heading) (s : Box Stmt Global) → d ≡ shapes.Procedure h s → ⊥) → procedures (decls (d ∷ ds)) ≡ procedures (decls ds)
procedures_same d ds other =
    ap (λ (e : Decl). procedures (tree.decls (decl e) (decls ds))) (sym (roll-out-Decl d)) ∙ none_more (out-Decl d) (decls ds) (λ h s e. other h s (sym (roll-out-Decl d) ∙ e))
