-- Where no label is bad, each label that a block declares stands before a statement of the block's list.
use Rattle.std.proofs.Common.{◌≡◌, ◌⊎◌, inl, inr, ℕ, ◌==◌, ◌&&◌, not, Bool, true, false, cond, List, [], ◌∷◌, ◌++◌, map, filter, Option, Some, None, refl, sym, ap, ◌∙◌, subst, if◌then◌else◌}
use Rattle.std.proofs.lemmas.Bool.{eqb-true}
use Rattle.std.specs.List.{flat_map, AllByRecursion}
use Rattle.algol_tree.specs.declared.token.Spot.{Spot}
use Rattle.algol_tree.specs.declared.tree.Named.{Named}
use Rattle.algol_tree.specs.Blocks.{Block, same_spot, block_numbered, number_at}
use Rattle.algol_tree.specs.Cells.{Cell}
use Rattle.algol_tree.specs.Checks.{wrong_in_part}
use Rattle.algol_tree.specs.Classes as class
use Rattle.algol_tree.specs.Classes.{Class}
use Rattle.algol_tree.specs.Couples.{Known, known_by, known_at, known_there}
use Rattle.algol_tree.specs.Labels.{Standing, standing_of, standings_part, standings_at, labels_part, bad_standings, bad_label, bad_labels}
use Rattle.algol_tree.specs.Names.{unknown_in_part}
use Rattle.algol_tree.specs.Plain as tree
use Rattle.algol_tree.specs.Plain.{PStmt, PStmts, PDecls}
use Rattle.algol_tree.specs.Sites as parts
use Rattle.algol_tree.specs.Sites.{Part, Site, inside_decl, sites_in_decls, sites_in_stmts}
use Rattle.algol_tree.specs.Sorts as sort
use Rattle.algol_tree.specs.Sorts.{Sort, Declared, same_name, look_up, declare}
use Rattle.algol_tree.specs.Surroundings.{Surroundings, class_of, declared_as, knowing}
use Rattle.algol_tree.proofs.Names.{same_name_is, same_name_itself}
use Rattle.algol_tree.proofs.Spots.{same_spot_is}
use Rattle.algol_meaning.specs.Statements.{is_labelled}
use Rattle.b67_templates.specs.Labels.{labels_in, label_before, label_in}
use Rattle.b67_list.proofs.Lists.{append_none_left, each_both, none_mapped}
use Rattle.b67_fitting.proofs.Apart.{IsIn, each_in, in_front, in_back, in_either, in_flat, in_map, Apart}
use Rattle.b67_fitting.proofs.AtHome.{Heads, StandsIn, AtHome}
use Rattle.b67_fitting.proofs.Clean.{IsClean, AreClean, plain_first, label_of}
use Rattle.b67_fitting.proofs.Coupled.{holds}
use Rattle.b67_fitting.proofs.Framing.{in_filter}
use Rattle.b67_fitting.proofs.Known.{Around, knows_plain, IsLabelled}
use Rattle.b67_fitting.proofs.Listed as listing
use Rattle.b67_fitting.proofs.Listed.{reads_in, IsBlock, Listed, over, passed, turned, site, given, declared, both, block, procedure}
use Rattle.b67_fitting.proofs.Lists.{nil_each}
use Rattle.b67_fitting.proofs.Looked.{known_found}
use Rattle.b67_fitting.proofs.Meant.{declared_label, labelled_of}

-- ---- lists

-- the part at which it stands
from_sites : (t : Standing) (xs : List Site) → IsIn t (flat_map standings_at xs) → (x : Site) × IsIn x xs × IsIn t (standings_at x)
from_sites t [] i = absurd i
from_sites t (x ∷ xs) i = by (in_either t (standings_at x) (flat_map standings_at xs) i) (from_sites t xs)
  where
    by : IsIn t (standings_at x) ⊎ IsIn t (flat_map standings_at xs) → (IsIn t (flat_map standings_at xs) → (y : Site) × IsIn y xs × IsIn t (standings_at y)) →
        (y : Site) × IsIn y (x ∷ xs) × IsIn t (standings_at y)
    by (inl j) later = (x, inl refl, j)
    by (inr j) later =
        let r = later j in
        (r.0, inr r.1, r.2)

-- a name that is declared is known after it
look_new : (k depth : ℕ) (s : Sort) (c : Class) (ns : List Named) (known : List Declared) (n : Named) → IsIn n ns →
    (d : Declared) × (look_up (declare k depth s c ns ++ known) n.name ≡ Some d) × (d.block ≡ k) × (d.name ≡ n.name)
look_new k depth s c [] known n i = absurd i
look_new k depth s c (m ∷ ns) known n i = by (same_name m.name n.name) refl i (look_new k depth s c ns known n)
  where
    first : Declared
    first = record { name = m.name; spot = m.spot; block = k; depth = depth; sort = s; class = c }

    by : (b : Bool) → same_name m.name n.name ≡ b → IsIn n (m ∷ ns) →
        (IsIn n ns → (d : Declared) × (look_up (declare k depth s c ns ++ known) n.name ≡ Some d) × (d.block ≡ k) × (d.name ≡ n.name)) →
        (d : Declared) × ((if b then Some first else look_up (declare k depth s c ns ++ known) n.name) ≡ Some d) × (d.block ≡ k) × (d.name ≡ n.name)
    by true e i later = (first, refl, refl, same_name_is m.name n.name e)
    by false e (inl g) later =
        let clash : true ≡ false = sym (same_name_itself n.name) ∙ ap (λ (z : Named). same_name z.name n.name) g ∙ e in
        absurd cc
    by false e (inr j) later = later j

-- ---- where a list has a label

heads_labelled : (s : PStmt) (m : Named) (name : List ℕ) → m.name ≡ name → Heads m s → is_labelled s name ≡ true
heads_labelled (tree.label n s) m name e (inl same) =
    ap (λ (b : Bool). if b then true else is_labelled s name) (ap (λ (z : List ℕ). same_name z name) (sym (ap (λ (z : Named). z.name) same) ∙ e) ∙ same_name_itself name)
heads_labelled (tree.label n s) m name e (inr h) = ap (λ (b : Bool). if same_name n.name name then true else b) (heads_labelled s m name e h) ∙ either (same_name n.name name)
  where
    either : (b : Bool) → (if b then true else true) ≡ true
    either true = refl
    either false = refl
heads_labelled s m name e h = absurd h

before : (s : PStmt) (name : List ℕ) → is_labelled s name ≡ true → (label : Named) × (label_before s name ≡ Some label)
before (tree.label n s) name h = by (same_name n.name name) (before s name) h
  where
    by : (b : Bool) → (is_labelled s name ≡ true → (label : Named) × (label_before s name ≡ Some label)) → (if b then true else is_labelled s name) ≡ true →
        (label : Named) × ((if b then Some n else label_before s name) ≡ Some label)
    by true later g = (n, refl)
    by false later g = later g
before s name h = absurd (let clash : false ≡ true = h in cc)

found_in : (ss : PStmts) (m : Named) (name : List ℕ) → m.name ≡ name → StandsIn m ss → (label : Named) × (label_in ss name ≡ Some label)
found_in tree.no_stmts m name e h = absurd h
found_in (tree.stmts s ss) m name e h = by (is_labelled s name) refl h (found_in ss m name e)
  where
    by : (b : Bool) → is_labelled s name ≡ b → Heads m s ⊎ StandsIn m ss → (StandsIn m ss → (label : Named) × (label_in ss name ≡ Some label)) →
        (label : Named) × ((if b then label_before s name else label_in ss name) ≡ Some label)
    by true g i later = before s name g
    by false g (inl i) later =
        let clash : true ≡ false = sym (heads_labelled s m name e i) ∙ g in
        absurd cc
    by false g (inr i) later = later i

-- ---- labels that are not bad

module _ (all : List Site) where
  abbrev standings : List Standing
  standings = flat_map standings_at all

  -- one stands where it is declared, in the list of its block
  record IsStanding (spot : Spot) : Type 0 where
    pub one : Standing
    pub there : IsIn one standings
    pub declared_is : one.declared ≡ spot
    pub at_home : one.at_home ≡ true

  home_of : (t : Standing) (ts : List Standing) → filter (λ (u : Standing). not u.at_home) (t ∷ ts) ≡ [] → t.at_home ≡ true
  home_of t ts h = by t.at_home h
    where
      rest : List Standing
      rest = filter (λ (u : Standing). not u.at_home) ts

      by : (b : Bool) → cond (not b) (t ∷ rest) rest ≡ [] → b ≡ true
      by true g = refl
      by false g = absurd (let clash : t ∷ rest ≡ [] = g in cc)

  stands_by : (spot : Spot) → bad_label standings spot ≡ [] → IsStanding spot
  stands_by spot h = by (filter (λ (u : Standing). same_spot u.declared spot) standings) refl h
    where
      by : (ts : List Standing) → filter (λ (u : Standing). same_spot u.declared spot) standings ≡ ts → bad_standings spot ts ≡ [] → IsStanding spot
      by [] e g = absurd (let clash : spot ∷ [] ≡ [] = g in cc)
      by (t ∷ ts) e g =
          let there : IsIn t (filter (λ (u : Standing). same_spot u.declared spot) standings) = subst (λ (z : List Standing). IsIn t z) (sym e) (inl refl) in
          record {
            one = t;
            there = in_filter (λ (u : Standing). same_spot u.declared spot) t standings there;
            declared_is = same_spot_is t.declared spot (holds (λ (u : Standing). same_spot u.declared spot) t standings there);
            at_home = home_of t ts (none_mapped (λ (u : Standing). u.spot) (filter (λ (u : Standing). not u.at_home) (t ∷ ts)) (append_none_left _ (map (λ (u : Standing). u.spot) ts) g));
          }

  -- the part at which a label stands
  record IsPart (x : Site) (t : Standing) : Type 0 where
    pub label : Named
    pub statement : PStmt
    pub part_is : x.part ≡ parts.statement (tree.label label statement) true
    pub one : Declared
    pub is : declared_as x.around label ≡ Some one
    pub declared_is : t.declared ≡ one.spot
    pub block_is : one.block ≡ x.around.block

  part_of : (x : Site) (t : Standing) → IsIn t (standings_at x) → t.at_home ≡ true → IsPart x t
  part_of x t i h = by x.part refl i
    where
      both_so : (s t : Bool) → (s && t) ≡ true → (s ≡ true) × (t ≡ true)
      both_so true true e = (refl, refl)
      both_so true false e = absurd (let clash : false ≡ true = e in cc)
      both_so false t e = absurd (let clash : false ≡ true = e in cc)

      of_declared : (m : Named) (s : PStmt) (listed : Bool) → x.part ≡ parts.statement (tree.label m s) listed → (o : Option Declared) → declared_as x.around m ≡ o → IsIn t (standing_of m listed x.around o) → IsPart x t
      of_declared m s listed p None e j = absurd j
      of_declared m s listed p (Some d) e (inr j) = absurd j
      of_declared m s listed p (Some d) e (inl same) =
          let so = both_so listed (d.block == x.around.block) (sym (ap (λ (z : Standing). z.at_home) same) ∙ h) in
          record {
            label = m;
            statement = s;
            part_is = p ∙ ap (parts.statement (tree.label m s)) so.0;
            one = d;
            is = e;
            declared_is = ap (λ (z : Standing). z.declared) same;
            block_is = eqb-true d.block x.around.block so.1;
          }

      by : (p : Part) → x.part ≡ p → IsIn t (standings_part p x.around) → IsPart x t
      by (parts.statement (tree.label m s) listed) e j = of_declared m s listed e (declared_as x.around m) refl j
      by p e j = absurd j

-- ---- labels that are declared

module _ (blocks : List Block) (all : List Site) where
  -- the label is declared in the block with this number, and known so at its place
  pub record IsKnownLabel (k : ℕ) (n : Named) : Type 0 where
    pub as_one : Declared
    pub place : IsIn n.spot (flat_map (λ (x : Site). labels_part x.part) all)
    pub known : IsIn (record { spot = n.spot; declared = as_one }) (flat_map (known_at blocks) all)
    pub block_is : as_one.block ≡ k
    pub name_is : as_one.name ≡ n.name

  decl_labels : (k : ℕ) (a : Surroundings) (ds : PDecls) (first : List Declared) → a.block ≡ k → ((x : Site) → IsIn x (sites_in_decls blocks ds a first) → IsIn x all) → (n : Named) → IsIn n (labels_in ds) →
      IsKnownLabel k n
  decl_labels k a tree.no_decls first e g n i = absurd i
  decl_labels k a (tree.decls (tree.labels ns) ds) first e g n i =
      by (in_either n ns (labels_in ds) i) (decl_labels k (knowing blocks (tree.labels ns) ds a) ds first e (λ x m. g x (inr m)) n)
    where
      x : Site
      x = record { part = parts.declaration (tree.labels ns) ds; around = a }

      after : Surroundings
      after = knowing blocks (tree.labels ns) ds a

      by : IsIn n ns ⊎ IsIn n (labels_in ds) → (IsIn n (labels_in ds) → IsKnownLabel k n) → IsKnownLabel k n
      by (inr j) later = later j
      by (inl j) later =
          let l = look_new a.block a.depth sort.label class.label ns a.known n j in
          let own : Known = record { spot = n.spot; declared = l.0 } in
          let mine : IsIn own (known_by n.spot (declared_as after n)) = subst (λ (o : Option Declared). IsIn own (known_by n.spot o)) (sym l.1) (inl refl) in
          record {
            as_one = l.0;
            place = in_flat (λ (y : Site). labels_part y.part) x n.spot all (g x (inl refl)) (in_map (λ (m : Named). m.spot) n ns j);
            known = in_flat (known_at blocks) x own all (g x (inl refl)) (in_flat (λ (m : Named). known_by m.spot (declared_as after m)) n own ns j mine);
            block_is = l.2 ∙ e;
            name_is = l.3;
          }
  decl_labels k a (tree.decls d ds) first e g n i =
      let after = knowing blocks d ds a in
      decl_labels k after ds first e (λ x m. g x (inr (in_back x (inside_decl blocks d after first) (sites_in_decls blocks ds after first) m))) n i

  -- a block whose parts are among all
  pub record IsWithin (b : Block) : Type 0 where
    pub own : List Cell
    pub sites : List Site
    pub is : IsBlock blocks b own sites
    pub inside : (x : Site) → IsIn x sites → IsIn x all

  pub all_within : {k : ℕ} {spots : List Spot} {own : List Cell} {bs : List Block} {xs : List Site} → Listed blocks k spots own bs xs → ((x : Site) → IsIn x xs → IsIn x all) → AllByRecursion IsWithin bs
  all_within (over k) g = tt
  all_within (passed k spot l) g = all_within l g
  all_within (turned k spot p q l) g = all_within l g
  all_within (site k x f l) g = all_within l (λ y i. g y (inr i))
  all_within (given k x c f m l) g = tt
  all_within (listing.left k a n e listed b s l) g = all_within l (λ y i. g y (inr i))
  all_within (declared k x names new f l) g = all_within l (λ y i. g y (inr i))
  all_within (both k {bs = bs} {cs = cs} {xs = xs} {ys = ys} i j) g =
      each_both IsWithin bs cs (all_within i (λ x m. g x (in_front x xs ys m))) (all_within j (λ x m. g x (in_back x xs ys m)))
  all_within (block k b {own = own} {xs = xs} e i l) g = (record { own = own; sites = xs; is = i; inside = g }, all_within l g)
  all_within (procedure k x b more {own = own} {xs = xs} f i l) g = (record { own = own; sites = xs; is = i; inside = λ y m. g y (inr m) }, all_within l (λ y m. g y (inr m)))

  label_known : (b : Block) → IsWithin b → (n : Named) → IsIn n (labels_in b.decls) → IsKnownLabel (number_at blocks b.spot) n
  label_known b r n i =
      let its = r.is in
      let declared_sites = sites_in_decls blocks b.decls its.begin its.begin.known in
      let stated_sites = sites_in_stmts blocks b.stmts its.listed its.around in
      decl_labels (number_at blocks b.spot) its.begin b.decls its.begin.known its.begins.block_is
      (λ x m.
      r.inside x (subst (λ (z : List Site). IsIn x z) (sym its.sites_are) (in_front x (its.front ++ declared_sites) stated_sites (in_back x its.front declared_sites m)))) n i

  -- what is around a part that names something
  pub record IsRead (x : Site) : Type 0 where
    pub around : (m : Named) → IsIn m (reads_in x.part) → Around blocks x.around

  none_read : (x : Site) → reads_in x.part ≡ [] → IsRead x
  none_read x e = record { around = λ m i. absurd (subst (λ (z : List Named). IsIn m z) e i) }

  pub all_read : {k : ℕ} {spots : List Spot} {own : List Cell} {bs : List Block} {xs : List Site} → Listed blocks k spots own bs xs → AllByRecursion IsRead xs
  all_read (over k) = tt
  all_read (passed k spot l) = all_read l
  all_read (turned k spot p q l) = all_read l
  all_read (site k x f l) = (record { around = λ m i. f.stands.around }, all_read l)
  all_read (given k x c f m l) = (none_read x f.reads, all_read l)
  all_read (listing.left k a n e listed b s l) = (record { around = λ m i. absurd i }, all_read l)
  all_read (declared k x names new f l) = (none_read x f.reads, all_read l)
  all_read (both k {xs = xs} {ys = ys} i j) = each_both IsRead xs ys (all_read i) (all_read j)
  all_read (block k b e i l) = all_read l
  all_read (procedure k x b more f i l) = (none_read x f.reads, all_read l)

  -- ---- each declared label stands

  module _ (known_apart : Apart (map (λ (k : Known). k.spot) (flat_map (known_at blocks) all))) (good : bad_labels all ≡ []) (clean : AreClean blocks all) (home : AllByRecursion (AtHome blocks) all) (read : AllByRecursion IsRead all)
      (numbered : (b : Block) → IsIn b blocks → block_numbered blocks (number_at blocks b.spot) ≡ b) (within : AllByRecursion IsWithin blocks) where
    -- what stands at a part is a label of a block
    labelled_at : (x : Site) → IsIn x all → (t : Standing) (p : IsPart all x t) → IsLabelled blocks x.around.depth p.label.name p.one
    labelled_at x i t p =
        let m = p.label in
        let c = each_in (IsClean blocks) x all clean i in
        let around = (each_in IsRead x all read i).around m (subst (λ (z : Part). IsIn m (reads_in z)) (sym p.part_is) (inl refl)) in
        let known = subst (λ (z : Part). unknown_in_part z x.around ≡ []) p.part_is c.known in
        let typed = subst (λ (z : Part). wrong_in_part blocks z x.around ≡ []) p.part_is c.typed in
        let class_is : class_of x.around m ≡ class.label = label_of (class_of x.around m) m.spot (plain_first x.around (knows_plain blocks x.around around) m [] known) typed in
        let o = declared_label x.around m class_is in
        let same : o.as_one ≡ p.one = (let e : Some o.as_one ≡ Some p.one = sym o.is ∙ p.is in cc) in
        subst (λ (d : Declared). IsLabelled blocks x.around.depth m.name d) same (labelled_of blocks x.around.depth m.name o.as_one o.class_is (around.each m.name o.as_one o.is))

    pub label_stands : (b : Block) → IsIn b blocks → (n : Named) → IsIn n (labels_in b.decls) → (label : Named) × (label_in b.stmts n.name ≡ Some label)
    label_stands b i n j =
        let mine = label_known b (each_in IsWithin b blocks within i) n j in
        let places = flat_map (λ (x : Site). labels_part x.part) all in
        let bad = each_in (λ (spot : Spot). bad_label (standings all) spot ≡ []) n.spot places (nil_each (bad_label (standings all)) places good) mine.place in
        let t = stands_by all n.spot bad in
        let at = from_sites t.one all t.there in
        let x = at.0 in
        let p = part_of all x t.one at.2 t.at_home in
        let h = labelled_at x at.1 t.one p in
        let its = label_known h.in_block (each_in IsWithin h.in_block blocks within h.there) h.one h.among in
        let spot_is : h.one.spot ≡ n.spot = h.one_spot ∙ sym p.declared_is ∙ t.declared_is in
        let found : known_there (flat_map (known_at blocks) all) n.spot ≡ Some mine.as_one = known_found (flat_map (known_at blocks) all) (record { spot = n.spot; declared = mine.as_one }) known_apart mine.known in
        let other : known_there (flat_map (known_at blocks) all) h.one.spot ≡ Some its.as_one = known_found (flat_map (known_at blocks) all) (record { spot = h.one.spot; declared = its.as_one }) known_apart its.known in
        let one : mine.as_one ≡ its.as_one = (let e : Some mine.as_one ≡ Some its.as_one = sym found ∙ ap (known_there (flat_map (known_at blocks) all)) (sym spot_is) ∙ other in cc) in
        let block_is : x.around.block ≡ number_at blocks b.spot =
        sym p.block_is ∙ h.block_is ∙ sym its.block_is ∙ ap (λ (d : Declared). d.block) (sym one) ∙ mine.block_is in
        let name_is : p.label.name ≡ n.name = sym h.one_name ∙ sym its.name_is ∙ ap (λ (d : Declared). d.name) (sym one) ∙ mine.name_is in
        let stands : StandsIn p.label (block_numbered blocks x.around.block).stmts = (each_in (AtHome blocks) x all home at.1).standing p.label p.statement p.part_is in
        found_in b.stmts p.label n.name name_is (subst (λ (z : Block). StandsIn p.label z.stmts) (ap (block_numbered blocks) block_is ∙ numbered b i) stands)
