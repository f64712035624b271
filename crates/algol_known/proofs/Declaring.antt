-- What is seen after a declaration, and of a block that begins.
use Rattle.std.proofs.Common.{◌≡◌, ℕ, Bool, true, false, cond, List, [], ◌∷◌, reverse, Option, Some, refl, ap, sym, ◌∙◌, subst, eq-eqb}
use Rattle.std.specs.Prelude.{◌==◌, ◌&&◌, if◌then◌else◌}
use Rattle.std.specs.Str.{bytes_eq}
use Rattle.algol_tree.specs.Sorts.{same_name, Declared, look_up}
use Rattle.algol_tree.specs.Surroundings.{Surroundings}
use Rattle.algol_known.specs.declared.known.Entry.{Entry}
use Rattle.algol_known.specs.declared.known.Names.{Names}
use Rattle.algol_known.specs.declared.known.Seen.{Seen}
use Rattle.algol_known.specs.declared.known.Seen.TheVariants as seens
use Rattle.algol_known.specs.declared.around.Around.{Around}
use Rattle.algol_known.specs.declared.around.Procedure.{Procedure}
use Rattle.algol_known.specs.Naming.{seen_under, IsBare, NameTable, NamePuts, entry_in, or_else}
use Rattle.algol_known.specs.Looking.{looked_up}
use Rattle.algol_known.specs.Seeing.{Declares, Introduces, NameIsFound, IsEntry, own_declared}

pub same : (xs ys : List ℕ) → same_name xs ys ≡ bytes_eq xs ys
same [] [] = refl
same (x ∷ xs) (y ∷ ys) = ap (λ b. (x == y) && b) (same xs ys)
same [] (y ∷ ys) = refl
same (x ∷ xs) [] = refl

own_more : (a : Surroundings) (d : Declared) → d.block ≡ a.block → own_declared (record a { known = d ∷ a.known }) ≡ d ∷ own_declared a
own_more a d h = ap (λ (b : Bool). if b then d ∷ own_declared a else own_declared a) (eq-eqb d.block a.block h)

-- what is found under a name after a declaration of it, or of another
choose : (ps : List Procedure) (g : Option Entry → Option Entry) (old new : Option Entry) (entry : Entry) (d : Declared) (l : Option Declared) (b s : Bool) →
    g (Some entry) ≡ Some entry → s ≡ b → new ≡ cond b (Some entry) old → IsEntry ps entry d → NameIsFound ps (g old) l →
    NameIsFound ps (g new) (if s then Some d else l)
choose ps g old new entry d l true true h same n e f =
    let P : Option Entry → Type 0 = λ z. NameIsFound ps z (Some d) in subst P (sym (ap g n ∙ h)) e
choose ps g old new entry d l false false h same n e f = let P : Option Entry → Type 0 = λ z. NameIsFound ps (g z) l in subst P (sym n) f
choose ps g old new entry d l true false h same n e f = absurd (let clash : false ≡ true = same in cc)
choose ps g old new entry d l false true h same n e f = absurd (let clash : true ≡ false = same in cc)

named : (d : Declared) (name q : List ℕ) → d.name ≡ name → same_name d.name q ≡ bytes_eq name q
named d name q h = ap (λ z. same_name z q) h ∙ same name q

pub declares : (k : Around) (m : Names) (name : List ℕ) (entry : Entry) → NamePuts k.innermost.declared m.declared name entry →
    m.parameters ≡ k.innermost.parameters → m.block ≡ k.innermost.block → Declares k (record k { innermost = m }) name entry
declares k m name entry p parameters block =
    record {
      sees =
          λ a d s n e.
          record {
            block = block ∙ s.block;
            depth = s.depth;
            names =
                λ q.
                let P : NameTable → Type 0 =
                λ z.
                NameIsFound k.procedures.items (or_else (or_else (entry_in m.declared q) (entry_in z q)) (looked_up (reverse k.outer.items) seens.All q))
                (look_up (d ∷ a.known) q) in
                subst P (sym parameters)
                (choose k.procedures.items
                (λ z. or_else (or_else z (entry_in k.innermost.parameters q)) (looked_up (reverse k.outer.items) seens.All q))
                (entry_in k.innermost.declared q) (entry_in m.declared q) entry d (look_up a.known q) (bytes_eq name q) (same_name d.name q) refl
                (named d name q n) (p q) e (s.names q));
          };
      holds =
          λ a d h n b e.
          record {
            here =
                λ q.
                let P : NameTable → Type 0 =
                λ z. NameIsFound k.procedures.items (or_else (entry_in m.declared q) (entry_in z q)) (look_up (own_declared (record a { known = d ∷ a.known })) q) in
                subst P (sym parameters)
                (let Q : List Declared → Type 0 =
                λ z. NameIsFound k.procedures.items (or_else (entry_in m.declared q) (entry_in k.innermost.parameters q)) (look_up z q) in
                subst Q (sym (own_more a d b))
                (choose k.procedures.items (λ z. or_else z (entry_in k.innermost.parameters q)) (entry_in k.innermost.declared q)
                (entry_in m.declared q) entry d (look_up (own_declared a) q) (bytes_eq name q) (same_name d.name q) refl (named d name q n) (p q) e (h.here q)));
          };
    }

-- ---- a parameter, in a block that declares nothing yet

bare_seen : (declared parameters : NameTable) (sees : Seen) (q : List ℕ) → IsBare declared → seen_under declared parameters sees q ≡ entry_in parameters q
bare_seen declared parameters seens.All q b = ap (λ z. or_else z (entry_in parameters q)) (b q)
bare_seen declared parameters seens.BeforeDeclarations q b = refl

still_bare : (old new : NameTable) → new ≡ old → IsBare old → IsBare new
still_bare old new h b = λ q. ap (λ z. entry_in z q) h ∙ b q

pub introduces : (k : Around) (m : Names) (name : List ℕ) (entry : Entry) → NamePuts k.innermost.parameters m.parameters name entry →
    m.declared ≡ k.innermost.declared → m.block ≡ k.innermost.block → Introduces k (record k { innermost = m }) name entry
introduces k m name entry p same_declared block =
    record {
      sees =
          λ sees a d b s n e.
          record {
            block = block ∙ s.block;
            depth = s.depth;
            names =
                λ q.
                let rest : Option Entry = looked_up (reverse k.outer.items) seens.All q in
                let P : Option Entry → Type 0 = λ z. NameIsFound k.procedures.items (or_else z rest) (look_up a.known q) in
                let Q : Option Entry → Type 0 = λ z. NameIsFound k.procedures.items (or_else z rest) (look_up (d ∷ a.known) q) in
                subst Q (sym (bare_seen m.declared m.parameters sees q (still_bare k.innermost.declared m.declared same_declared b)))
                (choose k.procedures.items (λ z. or_else z rest) (entry_in k.innermost.parameters q) (entry_in m.parameters q) entry d
                (look_up a.known q) (bytes_eq name q) (same_name d.name q) refl (named d name q n) (p q) e
                (subst P (bare_seen k.innermost.declared k.innermost.parameters sees q b) (s.names q)));
          };
      holds =
          λ a d b h n o e.
          record {
            here =
                λ q.
                let P : Option Entry → Type 0 = λ z. NameIsFound k.procedures.items z (look_up (own_declared a) q) in
                let Q : Option Entry → Type 0 = λ z. NameIsFound k.procedures.items z (look_up (own_declared (record a { known = d ∷ a.known })) q) in
                let R : List Declared → Type 0 = λ z. NameIsFound k.procedures.items (entry_in m.parameters q) (look_up z q) in
                subst Q (sym (bare_seen m.declared m.parameters seens.All q (still_bare k.innermost.declared m.declared same_declared b)))
                (subst R (sym (own_more a d o))
                (choose k.procedures.items (λ z. z) (entry_in k.innermost.parameters q) (entry_in m.parameters q) entry d (look_up (own_declared a) q)
                (bytes_eq name q) (same_name d.name q) refl (named d name q n) (p q) e
                (subst P (bare_seen k.innermost.declared k.innermost.parameters seens.All q b) (h.here q))));
          };
    }
