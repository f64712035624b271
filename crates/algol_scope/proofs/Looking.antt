-- What stands ahead of declarations, found from the last to the first.
use Rattle.std.proofs.Common.{◌≡◌, ℕ, ◌+◌, ◌-◌, ◌<◌, ◌≤◌, Bool, true, false, cond, List, [], ◌∷◌, ◌++◌, length, drop, get_or, reverse, Option, Some, None, refl, ap, sym, ◌∙◌, subst, arith, length-append}
use Rattle.std.proofs.lemmas.List.{reverse-append, length-reverse}
use Rattle.std.specs.Prelude.{is_some, if◌then◌else◌}
use Rattle.std.specs.BTreeMap.{BTreeMap}
use Rattle.std.specs.Map.{update}
use Rattle.std.specs.Str.{bytes_eq}
use Rattle.algol_sorts.specs.declared.key.Key.{Key}
use Rattle.algol_tree.specs.declared.tree.Decl.{Decl}
use Rattle.algol_tree.specs.declared.tree.Heading.{Heading}
use Rattle.algol_tree.specs.Plain as tree
use Rattle.algol_tree.specs.Plain.{PDecl, PDecls, PStmt}
use Rattle.algol_tree.specs.Image.{decl, decls}
use Rattle.algol_tree.specs.Sorts.{same_name}
use Rattle.algol_tree.specs.Surroundings.{body_of, heading_or}
use Rattle.algol_known.specs.declared.around.Procedure.{Procedure}
use Rattle.b67_list.proofs.Lists.{drop_past, drop_read_or}
use Rattle.algol_scope.specs.declared.declaration.Ahead.{Ahead}
use Rattle.algol_known.specs.Naming.{sort_named}
use Rattle.algol_known.specs.Seeing.{Extends}
use Rattle.algol_scope.specs.Declaring.{AreAhead, HasBodies, IsAhead, IsBody, IsOf}
use Rattle.algol_known.proofs.Declaring.{same}
use Rattle.algol_scope.proofs.Visiting.{extends_none, extends_then}
use Rattle.algol_scope.proofs.Procedures.{ahead_extends, of_extends}

body_extends : (ps qs : List Procedure) (x : Option Ahead) (h : Option Heading) → Extends ps qs → IsBody ps x h → IsBody qs x h
body_extends ps qs None None e b = tt
body_extends ps qs (Some x) (Some h) e b = (of_extends ps qs x h e b.0, b.1)
body_extends ps qs None (Some h) e b = absurd b
body_extends ps qs (Some x) None e b = absurd b

pub bodies_extends : (ps qs : List Procedure) (table : BTreeMap Key Ahead) (later : PDecls) → Extends ps qs → HasBodies ps table later →
    HasBodies qs table later
bodies_extends ps qs table later e b =
    record { bodies = λ q. body_extends ps qs (sort_named table q) (body_of q later) e (b.bodies q) }

chosen : (ps : List Procedure) (old new : Option Ahead) (x : Ahead) (h : Heading) (l : Option Heading) (b s : Bool) → s ≡ b → new ≡ cond b (Some x) old →
    IsOf ps x h → x.has_body ≡ true → IsBody ps old l → IsBody ps new (if s then Some h else l)
chosen ps old new x h l true true e n of has f = let P : Option Ahead → Type 0 = λ z. IsBody ps z (Some h) in subst P (sym n) (of, has)
chosen ps old new x h l false false e n of has f = let P : Option Ahead → Type 0 = λ z. IsBody ps z l in subst P (sym n) f
chosen ps old new x h l true false e n of has f = absurd (let clash : false ≡ true = e in cc)
chosen ps old new x h l false true e n of has f = absurd (let clash : true ≡ false = e in cc)

-- a procedure with its body comes before these declarations
pub bodies_more : (ps qs : List Procedure) (old new : BTreeMap Key Ahead) (later : PDecls) (h : Heading) (s : PStmt) (name : List ℕ) (x : Ahead) → Extends ps qs →
    HasBodies ps old later → IsOf qs x h → x.has_body ≡ true → name ≡ h.name.name →
    ((q : List ℕ) → sort_named new q ≡ update bytes_eq (sort_named old) name (Some x) q) → HasBodies qs new (tree.decls (tree.procedure h s) later)
bodies_more ps qs old new later h s name x e b of has n u =
    record {
      bodies =
          λ q.
          chosen qs (sort_named old q) (sort_named new q) x h (body_of q later) (bytes_eq name q) (same_name h.name.name q)
          (ap (λ z. same_name z q) (sym n) ∙ same name q) (u q) of has (body_extends ps qs (sort_named old q) (body_of q later) e (b.bodies q));
    }

found_ahead : (ps : List Procedure) (h : Heading) (later : PDecls) (x y : Ahead) (o : Option Ahead) (l : Option Heading) → body_of h.name.name later ≡ l → o ≡ Some x →
    IsBody ps o l → IsOf ps x (heading_or h l) × (x.has_body ≡ is_some l)
found_ahead ps h later x y (Some z) (Some g) e k b =
    let same : z ≡ x = cc in
    let P : Ahead → Type 0 = λ w. IsOf ps w g × (w.has_body ≡ true) in subst P same b
found_ahead ps h later x y None l e k b = absurd (let clash : None ≡ Some x = k in cc)
found_ahead ps h later x y (Some z) None e k b = absurd b

-- the body of a FORWARD is among them
pub ahead_found : (ps : List Procedure) (table : BTreeMap Key Ahead) (h : Heading) (later : PDecls) (x : Ahead) → HasBodies ps table later →
    sort_named table h.name.name ≡ Some x → IsAhead ps (tree.forward h) later x
ahead_found ps table h later x b k =
    found_ahead ps h later x x (sort_named table h.name.name) (body_of h.name.name later) refl k (b.bodies h.name.name)

missing : (ps : List Procedure) (h : Heading) (x : Ahead) (o : Option Ahead) (l : Option Heading) → o ≡ None → IsBody ps o l → (qs : List Procedure) → IsOf qs x h →
    x.has_body ≡ false → IsOf qs x (heading_or h l) × (x.has_body ≡ is_some l)
missing ps h x None None k b qs of has = (of, has)
missing ps h x (Some z) l k b qs of has = absurd (let clash : Some z ≡ None = k in cc)
missing ps h x None (Some g) k b qs of has = absurd b

-- it is not
pub ahead_missing : (ps qs : List Procedure) (table : BTreeMap Key Ahead) (h : Heading) (later : PDecls) (x : Ahead) → HasBodies ps table later →
    sort_named table h.name.name ≡ None → IsOf qs x h → x.has_body ≡ false → IsAhead qs (tree.forward h) later x
ahead_missing ps qs table h later x b k of has =
    missing ps h x (sort_named table h.name.name) (body_of h.name.name later) k (b.bodies h.name.name) qs of has

-- A walk from the last declaration to this one.
pub record Backwards (first now : List Procedure) (table : BTreeMap Key Ahead) (left : List Decl) (found : List Ahead) : Type 0 where
  pub more : Extends first now
  pub ahead : AreAhead now (decls left) (reverse found)
  pub bodies : HasBodies now table (decls left)

pub backwards_none : (ps : List Procedure) (table : BTreeMap Key Ahead) (ds : List Decl) (i : ℕ) (found : List Ahead) → length ds ≤ i → found ≡ [] →
    ((q : List ℕ) → sort_named table q ≡ None) → Backwards ps ps table (drop i ds) found
backwards_none ps table ds i found h e bare =
    let P : List Decl → Type 0 = λ z. Backwards ps ps table z found in
    let Q : List Ahead → Type 0 = λ z. Backwards ps ps table [] z in
    subst P (sym (drop_past ds i h))
    (subst Q (sym e)
    (record {
      more = extends_none ps;
      ahead = tt;
      bodies = record { bodies = λ q. let R : Option Ahead → Type 0 = λ z. IsBody ps z None in subst R (sym (bare q)) tt };
    }))

pub backwards_item : (first now new : List Procedure) (old table : BTreeMap Key Ahead) (ds : List Decl) (at : ℕ) (d : Decl) (found done : List Ahead) (x : Ahead) → 0 < at →
    at ≤ length ds → d ≡ get_or ds (at - 1) d → done ≡ found ++ x ∷ [] → Backwards first now old (drop at ds) found → Extends now new →
    ((later : PDecls) → HasBodies now old later → IsAhead new (decl d) later x) →
    ((later : PDecls) → HasBodies now old later → HasBodies new table (tree.decls (decl d) later)) → Backwards first new table (drop (at - 1) ds) done
backwards_item first now new old table ds at d found done x low high it put b e is bodies =
    let i = at - 1 in
    let next : at ≡ i + 1 = omega (arith, low) in
    let h : i < length ds = omega (arith, low, high) in
    let P : ℕ → Type 0 = λ z. Backwards first now old (drop z ds) found in
    let moved : Backwards first now old (drop (i + 1) ds) found = subst P next b in
    let later : PDecls = decls (drop (i + 1) ds) in
    let Q : List Decl → Type 0 = λ z. Backwards first new table z done in
    let R : List Ahead → Type 0 = λ z. AreAhead new (tree.decls (decl d) later) z in
    subst Q (sym (drop_read_or ds i d h ∙ ap (λ z. z ∷ drop (i + 1) ds) (sym it)))
    (record {
      more = extends_then first now new moved.more e;
      ahead =
          subst R (sym (ap (λ z. reverse z) put ∙ reverse-append found (x ∷ [])))
          (is later moved.bodies, ahead_extends now new later (reverse found) e moved.ahead);
      bodies = bodies later moved.bodies;
    })

pub count_more : (found done : List Ahead) (x : Ahead) (at n : ℕ) → 0 < at → done ≡ found ++ x ∷ [] → length found + at ≡ n → length done + (at - 1) ≡ n
count_more found done x at n low put h =
    let e : length done ≡ length found + 1 = ap (λ z. length z) put ∙ length-append found (x ∷ []) in omega (arith, e, low, h)

pub count_all : (found done : List Ahead) (at n : ℕ) → at ≤ 0 → done ≡ reverse found → length found + at ≡ n → length done ≡ n
count_all found done at n none put h =
    let e : length done ≡ length found = ap (λ z. length z) put ∙ length-reverse found in omega (arith, e, none, h)

pub backwards_all : (first now : List Procedure) (table : BTreeMap Key Ahead) (ds : List Decl) (at : ℕ) (found done : List Ahead) → at ≤ 0 →
    done ≡ reverse found → Backwards first now table (drop at ds) found → AreAhead now (decls ds) done
backwards_all first now table ds at found done h e b =
    let z : at ≡ 0 = omega (arith, h) in
    let P : ℕ → Type 0 = λ z. AreAhead now (decls (drop z ds)) (reverse found) in
    let Q : List Ahead → Type 0 = λ z. AreAhead now (decls ds) z in
    subst Q (sym e) (subst P z b.ahead)

-- ---- by the form of the declaration

pub ahead_by : (ps : List Procedure) (d : Decl) (p : PDecl) (later : PDecls) (x : Ahead) → decl d ≡ p → IsAhead ps p later x → IsAhead ps (decl d) later x
ahead_by ps d p later x e h = let P : PDecl → Type 0 = λ z. IsAhead ps z later x in subst P (sym e) h

pub bodies_by : (ps : List Procedure) (table : BTreeMap Key Ahead) (d : Decl) (p : PDecl) (later : PDecls) → decl d ≡ p →
    HasBodies ps table (tree.decls p later) → HasBodies ps table (tree.decls (decl d) later)
bodies_by ps table d p later e h = let P : PDecl → Type 0 = λ z. HasBodies ps table (tree.decls z later) in subst P (sym e) h

pub bodies_of : (ps : List Procedure) (table : BTreeMap Key Ahead) (p : PDecl) (later : PDecls) → HasBodies ps table later →
    ((name : List ℕ) → body_of name later ≡ body_of name (tree.decls p later)) → HasBodies ps table (tree.decls p later)
bodies_of ps table p later b h =
    record { bodies = λ q. let P : Option Heading → Type 0 = λ z. IsBody ps (sort_named table q) z in subst P (h q) (b.bodies q) }
