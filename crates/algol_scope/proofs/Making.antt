-- Declarations, one step after the other.
use Rattle.std.proofs.Common.{◌≡◌, ℕ, ◌<◌, Bool, true, false, List, [], ◌∷◌, ◌++◌, map, length, Option, Some, None, refl, ap, sym, ◌∙◌, subst, append-nil}
use Rattle.std.specs.Prelude.{is_some, ◌||◌, if◌then◌else◌}
use Rattle.algol_tree.specs.declared.token.Spot.{Spot}
use Rattle.algol_tree.specs.declared.refusal.Fault.{Fault}
use Rattle.algol_tree.specs.Plain.{PDecl, PDecls, PPair}
use Rattle.algol_tree.specs.Sorts.{Declared, look_up, same_name}
use Rattle.algol_tree.specs.Blocks.{Block, block_numbered}
use Rattle.algol_tree.specs.Surroundings.{Surroundings}
use Rattle.algol_tree.specs.Sites.{Site, sites_in_pairs}
use Rattle.algol_tree.specs.Cells as cells
use Rattle.algol_tree.specs.Cells.{cells_at}
use Rattle.algol_tree.specs.Couples.{Known, known_at}
use Rattle.algol_tree.specs.Names.{name_is_one_of, names_here, result_names_of}
use Rattle.algol_known.specs.declared.known.Entry.{Entry}
use Rattle.algol_known.specs.declared.known.Seen.TheVariants as seens
use Rattle.algol_known.specs.declared.around.Procedure.{Procedure}
use Rattle.algol_scope.specs.declared.findings.Findings.{Findings}
use Rattle.algol_scope.specs.declared.resolver.Resolver.{Resolver}
use Rattle.algol_known.specs.Naming.{has_name, is_typed, seen_under}
use Rattle.algol_known.specs.Seeing.{Extends, NameIsFound, own_declared}
use Rattle.algol_scope.specs.Noting.{FindingsAdd, Knows, ScopeWalks, faults_at}
use Rattle.algol_scope.specs.Stating.{AreBefore, WalkSettles, WalkEnters, no_blocks}
use Rattle.algol_scope.specs.Declaring.{Makes, decl_site, no_cells, no_faults, no_uses, nothing_so}
use Rattle.algol_known.specs.Widening.{Widens}
use Rattle.algol_scope.proofs.Walking.{adds_then, adds_as, adds_none}
use Rattle.algol_scope.proofs.Visiting.{comes_then, extends_none, extends_then, keeps_same, numbered_left, numbered_right, settles_kept}

-- ---- one step after the other

pub makes_then : (old mid new : Resolver) (f g : List Block → Surroundings → List Fault) (c d : List Block → Surroundings → List cells.Cell)
    (u v : List Block → Surroundings → List Known) (p q : List Block → Surroundings → Surroundings) → Makes old mid f c u p → Makes mid new g d v q →
    Makes old new (λ blocks a. f blocks a ++ g blocks (p blocks a)) (λ blocks a. c blocks a ++ d blocks (p blocks a))
    (λ blocks a. u blocks a ++ v blocks (p blocks a)) (λ blocks a. q blocks (p blocks a))
makes_then old mid new f g c d u v p q x y =
    record {
      outer = y.outer ∙ x.outer;
      procedures = y.procedures ∙ x.procedures;
      blocks = y.blocks ∙ x.blocks;
      adds =
          λ blocks a spots first s.
          adds_then old.findings mid.findings new.findings (f blocks a) (g blocks (p blocks a)) (c blocks a) (d blocks (p blocks a)) (u blocks a)
          (v blocks (p blocks a)) (x.adds blocks a spots first s) (y.adds blocks (p blocks a) spots first (x.settles blocks a spots first s));
      settles = λ blocks a spots first s. y.settles blocks (p blocks a) spots first (x.settles blocks a spots first s);
    }

pub makes_as : (old new : Resolver) (f g : List Block → Surroundings → List Fault) (c d : List Block → Surroundings → List cells.Cell)
    (u v : List Block → Surroundings → List Known) (p : List Block → Surroundings → Surroundings) →
    ((blocks : List Block) (a : Surroundings) → f blocks a ≡ g blocks a) → ((blocks : List Block) (a : Surroundings) → c blocks a ≡ d blocks a) →
    ((blocks : List Block) (a : Surroundings) → u blocks a ≡ v blocks a) → Makes old new f c u p → Makes old new g d v p
makes_as old new f g c d u v p e h k x =
    record {
      outer = x.outer;
      procedures = x.procedures;
      blocks = x.blocks;
      adds =
          λ blocks a spots first s.
          adds_as old.findings new.findings (f blocks a) (g blocks a) (c blocks a) (d blocks a) (u blocks a) (v blocks a) (e blocks a) (h blocks a)
          (k blocks a) (x.adds blocks a spots first s);
      settles = x.settles;
    }

-- only findings change
pub makes_adds : (old new : Resolver) (f : List Block → Surroundings → List Fault) (c : List Block → Surroundings → List cells.Cell)
    (u : List Block → Surroundings → List Known) → new.around ≡ old.around → new.blocks ≡ old.blocks →
    ((blocks : List Block) (a : Surroundings) (spots : List Spot) (first : List Declared) → WalkSettles blocks old a spots first →
    FindingsAdd old.findings (f blocks a) (c blocks a) (u blocks a) new.findings) → Makes old new f c u nothing_so
makes_adds old new f c u around same h =
    record {
      outer = (let e : new.around.outer.items ≡ old.around.outer.items = cc in e);
      procedures = (let e : new.around.procedures ≡ old.around.procedures = cc in e);
      blocks = same;
      adds = h;
      settles =
          λ blocks a spots first s.
          settles_kept blocks old new a spots first [] (keeps_same old.around new.around around)
          (let e : new.blocks.items ≡ old.blocks.items = cc in e ∙ sym (append-nil old.blocks.items)) s;
    }

pub makes_knows : (old new : Resolver) (names : Surroundings → List Known) → Knows old.around old.findings new.findings names → new.around ≡ old.around →
    new.blocks ≡ old.blocks → Makes old new no_faults no_cells (λ blocks. names) nothing_so
makes_knows old new names k around same =
    makes_adds old new no_faults no_cells (λ blocks. names) around same (λ blocks a spots first s. k.knows a s.stands.sees)

-- ---- what is declared

-- these declarations are of this block
abbrev pub AreOf : ℕ → List Declared → Type 0
AreOf block [] = Unit {0}
AreOf block (d ∷ ds) = (d.block ≡ block) × AreOf block ds

pub before_append : (n block : ℕ) (ds es : List Declared) → AreOf block ds → block < n → AreBefore n es → AreBefore n (ds ++ es)
before_append n block [] es o h b = b
before_append n block (d ∷ ds) es o h b =
    (let P : ℕ → Type 0 = λ z. z < n in subst P (sym o.0) h, before_append n block ds es o.1 h b)

pub makes_widens : (old new : Resolver) (made : List Block → Surroundings → List Declared) →
    ((blocks : List Block) → Widens old.around new.around (λ a. record a { known = made blocks a ++ a.known })) →
    ((blocks : List Block) (a : Surroundings) → AreOf a.block (made blocks a)) → new.findings ≡ old.findings → new.blocks ≡ old.blocks →
    Makes old new no_faults no_cells no_uses (λ blocks a. record a { known = made blocks a ++ a.known })
makes_widens old new made w o f same =
    let count : length new.blocks.items ≡ length old.blocks.items = (let e : new.blocks.items ≡ old.blocks.items = cc in ap (λ z. length z) e) in
    record {
      outer = (let h = (w []).outer in let e : new.around.outer.items ≡ old.around.outer.items = cc in e);
      procedures = (w []).procedures;
      blocks = same;
      adds =
          λ blocks a spots first s.
          let P : Findings → Type 0 = λ z. FindingsAdd old.findings [] [] [] z in subst P (sym f) (adds_none old.findings);
      settles =
          λ blocks a spots first s.
          let known : ℕ → Type 0 = λ z. AreBefore z (made blocks a ++ a.known) in
          let block : ℕ → Type 0 = λ z. a.block < z in
          record {
            stands =
                record {
                  sees = (w blocks).sees a s.stands.sees;
                  known =
                      subst known (sym count)
                      (before_append (length old.blocks.items) a.block (made blocks a) a.known (o blocks a) s.stands.block s.stands.known);
                  block = subst block (sym count) s.stands.block;
                  outer = s.stands.outer;
                };
            holds = (w blocks).holds a s.stands.sees s.holds;
            bounds = (w blocks).before (record a { known = first }) s.bounds;
            typed = λ q. ap (λ z. is_typed z q) (w blocks).typed ∙ s.typed q;
          };
    }

-- ---- which names the block has

is_one_of_append : (xs ys : List (List ℕ)) (q : List ℕ) → name_is_one_of (xs ++ ys) q ≡ (name_is_one_of xs q || name_is_one_of ys q)
is_one_of_append [] ys q = refl
is_one_of_append (x ∷ xs) ys q = step (same_name x q) (is_one_of_append xs ys q)
  where
    step : (b : Bool) → name_is_one_of (xs ++ ys) q ≡ (name_is_one_of xs q || name_is_one_of ys q) →
        (if b then true else name_is_one_of (xs ++ ys) q) ≡ ((if b then true else name_is_one_of xs q) || name_is_one_of ys q)
    step true h = refl
    step false h = h

named_or_not : (ds : List Declared) (q : List ℕ) → name_is_one_of (map (λ (d : Declared). d.name) ds) q ≡ is_some (look_up ds q)
named_or_not [] q = refl
named_or_not (d ∷ ds) q = step (same_name d.name q) (named_or_not ds q)
  where
    step : (b : Bool) → name_is_one_of (map (λ (d : Declared). d.name) ds) q ≡ is_some (look_up ds q) →
        (if b then true else name_is_one_of (map (λ (d : Declared). d.name) ds) q) ≡ is_some (if b then Some d else look_up ds q)
    step true h = refl
    step false h = h

some_found : (ps : List Procedure) (e : Option Entry) (d : Option Declared) → NameIsFound ps e d → is_some d ≡ is_some e
some_found ps None None f = refl
some_found ps (Some e) (Some d) f = refl
some_found ps None (Some d) f = absurd f
some_found ps (Some e) None f = absurd f

pub has_told : (blocks : List Block) (r : Resolver) (a : Surroundings) (spots : List Spot) (first : List Declared) (q : List ℕ) → WalkSettles blocks r a spots first →
    name_is_one_of (result_names_of (block_numbered blocks a.block) ++ names_here a) q ≡
    has_name r.around.innermost.typed r.around.innermost.declared r.around.innermost.parameters q
has_told blocks r a spots first q s =
    let m = r.around.innermost in
    is_one_of_append (result_names_of (block_numbered blocks a.block)) (names_here a) q
    ∙ ap (λ b. b || name_is_one_of (names_here a) q) (sym (s.typed q))
    ∙ ap (λ b. is_typed m.typed q || b)
    (named_or_not (own_declared a) q
    ∙ some_found r.around.procedures.items (seen_under m.declared m.parameters seens.All q) (look_up (own_declared a) q) (s.holds.here q))

-- ---- a declaration only, and declarations one after the other

pub enters_made : (old new : Resolver) (d : PDecl) (later : PDecls) (f : List Block → Surroundings → List Fault) (c : List Block → Surroundings → List cells.Cell)
    (u : List Block → Surroundings → List Known) (p : List Block → Surroundings → Surroundings) →
    ((blocks : List Block) (a : Surroundings) → f blocks a ≡ faults_at blocks (decl_site d later a)) →
    ((blocks : List Block) (a : Surroundings) → c blocks a ≡ cells_at blocks (decl_site d later a)) →
    ((blocks : List Block) (a : Surroundings) → u blocks a ≡ known_at blocks (decl_site d later a)) → Makes old new f c u p →
    WalkEnters old new (λ blocks a first. decl_site d later a ∷ []) no_blocks p
enters_made old new d later f c u p e h k m =
    record {
      outer = m.outer;
      procedures =
          (let same : new.around.procedures.items ≡ old.around.procedures.items = (let x = m.procedures in cc) in
          let P : List Procedure → Type 0 = λ z. Extends old.around.procedures.items z in
          subst P (sym same) (extends_none old.around.procedures.items));
      comes =
          λ blocks a spots first s n.
          record {
            finds =
                adds_as old.findings new.findings (f blocks a) (faults_at blocks (decl_site d later a) ++ []) (c blocks a)
                (cells_at blocks (decl_site d later a) ++ []) (u blocks a) (known_at blocks (decl_site d later a) ++ [])
                (e blocks a ∙ sym (append-nil (faults_at blocks (decl_site d later a)))) (h blocks a ∙ sym (append-nil (cells_at blocks (decl_site d later a))))
                (k blocks a ∙ sym (append-nil (known_at blocks (decl_site d later a)))) (m.adds blocks a spots first s);
            begins =
                (let b = m.blocks in let same : new.blocks.items ≡ old.blocks.items = cc in same ∙ sym (append-nil old.blocks.items));
          };
      settles = λ blocks a spots first s n. m.settles blocks a spots first s;
    }

pub enters_then : (old mid new : Resolver) (f g : List Block → Surroundings → List Declared → List Site) (b c : List Spot → List Block)
    (p q : List Block → Surroundings → Surroundings) → WalkEnters old mid f b p → WalkEnters mid new g c q →
    WalkEnters old new (λ blocks a first. f blocks a first ++ g blocks (p blocks a) first) (λ spots. b spots ++ c spots) (λ blocks a. q blocks (p blocks a))
enters_then old mid new f g b c p q x y =
    record {
      outer = y.outer ∙ x.outer;
      procedures = extends_then old.around.procedures.items mid.around.procedures.items new.around.procedures.items x.procedures y.procedures;
      comes =
          λ blocks a spots first s n.
          let l = numbered_left blocks (length old.blocks.items) (b spots) (c spots) n in
          let one = x.comes blocks a spots first s l in
          comes_then blocks old mid new (f blocks a first) (g blocks (p blocks a) first) (b spots) (c spots) one
          (y.comes blocks (p blocks a) spots first (x.settles blocks a spots first s l)
          (numbered_right blocks old mid (b spots) (c spots) one.begins n));
      settles =
          λ blocks a spots first s n.
          let l = numbered_left blocks (length old.blocks.items) (b spots) (c spots) n in
          let one = x.comes blocks a spots first s l in
          y.settles blocks (p blocks a) spots first (x.settles blocks a spots first s l) (numbered_right blocks old mid (b spots) (c spots) one.begins n);
    }

pub enters_none : (r : Resolver) → WalkEnters r r (λ blocks a first. []) no_blocks nothing_so
enters_none r =
    record {
      outer = refl;
      procedures = extends_none r.around.procedures.items;
      comes = λ blocks a spots first s n. record { finds = adds_none r.findings; begins = sym (append-nil r.blocks.items) };
      settles = λ blocks a spots first s n. s;
    }

-- bounds see what was known at the begin of the block
pub enters_bounds : (old new : Resolver) (ps : List PPair) → ScopeWalks old.around seens.BeforeDeclarations old.findings new.findings (sites_in_pairs ps) →
    new.around ≡ old.around → new.blocks ≡ old.blocks →
    WalkEnters old new (λ blocks a first. sites_in_pairs ps (record a { known = first })) no_blocks nothing_so
enters_bounds old new ps w around same =
    let begins : new.blocks.items ≡ old.blocks.items ++ [] =
    (let e : new.blocks.items ≡ old.blocks.items = cc in e ∙ sym (append-nil old.blocks.items)) in
    record {
      outer = (let e : new.around.outer.items ≡ old.around.outer.items = cc in e);
      procedures = (keeps_same old.around new.around around).procedures;
      comes = λ blocks a spots first s n. record { finds = w.finds blocks (record a { known = first }) s.bounds; begins = begins };
      settles = λ blocks a spots first s n. settles_kept blocks old new a spots first [] (keeps_same old.around new.around around) begins s;
    }
