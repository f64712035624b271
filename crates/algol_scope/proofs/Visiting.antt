-- The walk over statements and declarations, part by part.
use Rattle.std.proofs.Common.{◌≡◌, ℕ, ◌+◌, ◌<◌, ◌≤◌, List, [], ◌∷◌, ◌++◌, map, length, reverse, Option, Some, None, refl, ap, sym, ◌∙◌, subst, arith, append-nil, length-append}
use Rattle.std.proofs.lemmas.List.{length-map}
use Rattle.std.specs.List.{flat_map}
use Rattle.algol_tree.specs.declared.token.Spot.{Spot}
use Rattle.algol_tree.specs.Classes as classes
use Rattle.algol_tree.specs.Sorts.{Declared, look_up}
use Rattle.algol_tree.specs.Blocks.{Block}
use Rattle.algol_tree.specs.Surroundings.{Surroundings}
use Rattle.algol_tree.specs.Sites.{Site}
use Rattle.algol_tree.specs.Cells.{cells_at}
use Rattle.algol_tree.specs.Couples.{known_at}
use Rattle.algol_sorts.specs.declared.sort.Sort.{Sort}
use Rattle.algol_sorts.specs.declared.sort.Sort.TheVariants as sort
use Rattle.algol_known.specs.declared.known.Class.{Class}
use Rattle.algol_known.specs.declared.known.Entry.{Entry}
use Rattle.algol_known.specs.declared.known.Names.{Names}
use Rattle.algol_known.specs.declared.known.Seen.{Seen}
use Rattle.algol_known.specs.declared.known.Seen.TheVariants as seens
use Rattle.algol_known.specs.declared.around.Around.{Around}
use Rattle.algol_known.specs.declared.around.Procedure.{Procedure}
use Rattle.b67_list.proofs.Numbers.{later_still}
use Rattle.algol_scope.specs.declared.resolver.Resolver.{Resolver}
use Rattle.algol_known.specs.Naming.{seen_under, is_typed}
use Rattle.algol_known.specs.Looking.{looked_up, open_blocks, modes_in, modes_of}
use Rattle.algol_known.specs.Seeing.{Sees, KnownHolds, KnownKeeps, Extends, IsClass, IsEntry, NameIsFound, IsProcedureNumber, own_declared}
use Rattle.algol_scope.specs.Noting.{ScopeWalks, faults_at}
use Rattle.algol_scope.specs.Stating.{AreBefore, AreNumbered, WalkStands, WalkSettles, WalkComes, Visits, stated_block_of, no_blocks}
use Rattle.algol_scope.proofs.Walking.{added, finds_then, again, adds_none}

-- ---- more procedures

pub extends_none : (ps : List Procedure) → Extends ps ps
extends_none ps = record { longer = omega arith; same = λ i h. refl }

less_le : (i m n : ℕ) → i < m → m ≤ n → i < n
less_le i m n h k = omega (arith, h, k)

pub extends_then : (ps qs rs : List Procedure) → Extends ps qs → Extends qs rs → Extends ps rs
extends_then ps qs rs x y =
    record {
      longer = later_still (length ps) (length qs) (length rs) x.longer y.longer;
      same = λ i h. y.same i (less_le i (length ps) (length qs) h x.longer) ∙ x.same i h;
    }

pub class_extends : (ps qs : List Procedure) (c : Class) (d : classes.Class) → Extends ps qs → IsClass ps c d → IsClass qs c d
class_extends ps qs c d x i =
    record {
      simple = i.simple;
      modes = same-modes c.sort c.procedure i.within ∙ i.modes;
      within = still c.sort c.procedure i.within;
    }
  where
    same-modes : (s : Sort) (n : ℕ) → IsProcedureNumber ps s n → modes_in qs (record { sort = s; procedure = n }) ≡ modes_in ps (record { sort = s; procedure = n })
    same-modes (sort.Procedure k) n w = ap modes_of (x.same n w)
    same-modes _ n w = refl

    still : (s : Sort) (n : ℕ) → IsProcedureNumber ps s n → IsProcedureNumber qs s n
    still (sort.Procedure k) n w = less_le n (length ps) (length qs) w x.longer
    still _ n w = tt

pub entry_extends : (ps qs : List Procedure) (e : Entry) (d : Declared) → Extends ps qs → IsEntry ps e d → IsEntry qs e d
entry_extends ps qs e d x i = record { spot = i.spot; block = i.block; level = i.level; class = class_extends ps qs e.class d.class x i.class; sort = i.sort }

found_extends : (ps qs : List Procedure) (e : Option Entry) (d : Option Declared) → Extends ps qs → NameIsFound ps e d → NameIsFound qs e d
found_extends ps qs None None x i = tt
found_extends ps qs (Some e) (Some d) x i = entry_extends ps qs e d x i
found_extends ps qs None (Some d) x i = absurd i
found_extends ps qs (Some e) None x i = absurd i

-- ---- the same names are known

same_lookup : (k m : Around) (seen : Seen) (q : List ℕ) → m.innermost ≡ k.innermost → m.outer.items ≡ k.outer.items →
    looked_up (open_blocks m) seen q ≡ looked_up (open_blocks k) seen q
same_lookup k m seen q i o =
    ap (λ (z : Names). looked_up (z ∷ reverse m.outer.items) seen q) i ∙ ap (λ (z : List Names). looked_up (k.innermost ∷ reverse z) seen q) o

pub sees_kept : (k m : Around) (seen : Seen) (a : Surroundings) → KnownKeeps k m → Sees k seen a → Sees m seen a
sees_kept k m seen a keeps s =
    record {
      block = ap (λ (z : Names). z.block) keeps.innermost ∙ s.block;
      depth = ap (λ (z : List Names). length z) keeps.outer ∙ s.depth;
      names =
          λ q.
          let P : Option Entry → Type 0 = λ z. NameIsFound m.procedures.items z (look_up a.known q) in
          subst P (sym (same_lookup k m seen q keeps.innermost keeps.outer))
          (found_extends k.procedures.items m.procedures.items (looked_up (open_blocks k) seen q) (look_up a.known q) keeps.procedures (s.names q));
    }

pub holds_kept : (k m : Around) (a : Surroundings) → KnownKeeps k m → KnownHolds k a → KnownHolds m a
holds_kept k m a keeps h =
    record {
      here =
          λ q.
          let P : Names → Type 0 = λ z. NameIsFound m.procedures.items (seen_under z.declared z.parameters seens.All q) (look_up (own_declared a) q) in
          subst P (sym keeps.innermost)
          (found_extends k.procedures.items m.procedures.items (seen_under k.innermost.declared k.innermost.parameters seens.All q) (look_up (own_declared a) q)
          keeps.procedures (h.here q));
    }

pub keeps_none : (k : Around) → KnownKeeps k k
keeps_none k = record { innermost = refl; outer = refl; procedures = extends_none k.procedures.items }

pub keeps_then : (k m n : Around) → KnownKeeps k m → KnownKeeps m n → KnownKeeps k n
keeps_then k m n x y =
    record {
      innermost = y.innermost ∙ x.innermost;
      outer = y.outer ∙ x.outer;
      procedures = extends_then k.procedures.items m.procedures.items n.procedures.items x.procedures y.procedures;
    }

pub keeps_same : (k m : Around) → m ≡ k → KnownKeeps k m
keeps_same k m h = let P : Around → Type 0 = λ z. KnownKeeps k z in subst P (sym h) (keeps_none k)

-- ---- where the walk stands

pub before_more : (m n : ℕ) (ds : List Declared) → m ≤ n → AreBefore m ds → AreBefore n ds
before_more m n [] h b = tt
before_more m n (d ∷ ds) h b = (less_le d.block m n b.0 h, before_more m n ds h b.1)

plus_le : (m n l : ℕ) → n ≡ m + l → m ≤ n
plus_le m n l h = omega (arith, h)

pub count_begins : (old new : Resolver) (inner : List Block) → new.blocks.items ≡ old.blocks.items ++ map stated_block_of inner →
    length new.blocks.items ≡ length old.blocks.items + length inner
count_begins old new inner h =
    ap (λ z. length z) h ∙ length-append old.blocks.items (map stated_block_of inner) ∙ ap (λ z. length old.blocks.items + z) (length-map inner stated_block_of)

pub stands_kept : (old new : Resolver) (a : Surroundings) (spots : List Spot) (inner : List Block) → KnownKeeps old.around new.around →
    new.blocks.items ≡ old.blocks.items ++ map stated_block_of inner → WalkStands old a spots → WalkStands new a spots
stands_kept old new a spots inner keeps begins s =
    let more : length old.blocks.items ≤ length new.blocks.items =
    plus_le (length old.blocks.items) (length new.blocks.items) (length inner) (count_begins old new inner begins) in
    record {
      sees = sees_kept old.around new.around seens.All a keeps s.sees;
      known = before_more (length old.blocks.items) (length new.blocks.items) a.known more s.known;
      block = less_le a.block (length old.blocks.items) (length new.blocks.items) s.block more;
      outer = s.outer;
    }

pub settles_kept : (blocks : List Block) (old new : Resolver) (a : Surroundings) (spots : List Spot) (first : List Declared) (inner : List Block) →
    KnownKeeps old.around new.around → new.blocks.items ≡ old.blocks.items ++ map stated_block_of inner → WalkSettles blocks old a spots first →
    WalkSettles blocks new a spots first
settles_kept blocks old new a spots first inner keeps begins s =
    record {
      stands = stands_kept old new a spots inner keeps begins s.stands;
      holds = holds_kept old.around new.around a keeps s.holds;
      bounds = sees_kept old.around new.around seens.BeforeDeclarations (record a { known = first }) keeps s.bounds;
      typed = λ q. ap (λ (z : Names). is_typed z.typed q) keeps.innermost ∙ s.typed q;
    }

-- ---- blocks with numbers

pub numbered_left : (blocks : List Block) (n : ℕ) (xs ys : List Block) → AreNumbered blocks n (xs ++ ys) → AreNumbered blocks n xs
numbered_left blocks n [] ys h = tt
numbered_left blocks n (x ∷ xs) ys h = (h.0, (h.1.0, numbered_left blocks (n + 1) xs ys h.1.1))

numbered_on : (blocks : List Block) (n : ℕ) (xs ys : List Block) → AreNumbered blocks n (xs ++ ys) → AreNumbered blocks (n + length xs) ys
numbered_on blocks n [] ys h =
    let e : n ≡ n + 0 = omega arith in
    let P : ℕ → Type 0 = λ z. AreNumbered blocks z ys in subst P e h
numbered_on blocks n (x ∷ xs) ys h =
    let e : n + 1 + length xs ≡ n + length (x ∷ xs) = omega arith in
    let P : ℕ → Type 0 = λ z. AreNumbered blocks z ys in subst P e (numbered_on blocks (n + 1) xs ys h.1.1)

pub numbered_right : (blocks : List Block) (old new : Resolver) (xs ys : List Block) → new.blocks.items ≡ old.blocks.items ++ map stated_block_of xs →
    AreNumbered blocks (length old.blocks.items) (xs ++ ys) → AreNumbered blocks (length new.blocks.items) ys
numbered_right blocks old new xs ys begins h =
    let P : ℕ → Type 0 = λ z. AreNumbered blocks z ys in
    subst P (sym (count_begins old new xs begins)) (numbered_on blocks (length old.blocks.items) xs ys h)

-- ---- parts one after another

pub comes_then : (blocks : List Block) (old mid new : Resolver) (xs ys : List Site) (bs cs : List Block) → WalkComes blocks old mid xs bs →
    WalkComes blocks mid new ys cs → WalkComes blocks old new (xs ++ ys) (bs ++ cs)
comes_then blocks old mid new xs ys bs cs c d =
    record {
      finds = finds_then blocks old.findings mid.findings new.findings xs ys c.finds d.finds;
      begins = added stated_block_of old.blocks.items mid.blocks.items new.blocks.items bs cs c.begins d.begins;
    }

pub visits_then : (old mid new : Resolver) (f g : List Block → Surroundings → List Site) (b c : List Spot → List Block) → Visits old mid f b → Visits mid new g c →
    Visits old new (λ blocks a. f blocks a ++ g blocks a) (λ spots. b spots ++ c spots)
visits_then old mid new f g b c v w =
    record {
      keeps = keeps_then old.around mid.around new.around v.keeps w.keeps;
      comes =
          λ blocks a spots s n.
          let one = v.comes blocks a spots s (numbered_left blocks (length old.blocks.items) (b spots) (c spots) n) in
          comes_then blocks old mid new (f blocks a) (g blocks a) (b spots) (c spots) one
          (w.comes blocks a spots (stands_kept old mid a spots (b spots) v.keeps one.begins s)
          (numbered_right blocks old mid (b spots) (c spots) one.begins n));
    }

pub visits_none : (r : Resolver) → Visits r r (λ blocks a. []) no_blocks
visits_none r =
    record {
      keeps = keeps_none r.around;
      comes = λ blocks a spots s n. record { finds = adds_none r.findings; begins = sym (append-nil r.blocks.items) };
    }

-- the same faults, cells, names and blocks in other words
pub visits_as : (old new : Resolver) (f g : List Block → Surroundings → List Site) (b c : List Spot → List Block) →
    ((blocks : List Block) (a : Surroundings) → flat_map (faults_at blocks) (f blocks a) ≡ flat_map (faults_at blocks) (g blocks a)) →
    ((blocks : List Block) (a : Surroundings) → flat_map (cells_at blocks) (f blocks a) ≡ flat_map (cells_at blocks) (g blocks a)) →
    ((blocks : List Block) (a : Surroundings) → flat_map (known_at blocks) (f blocks a) ≡ flat_map (known_at blocks) (g blocks a)) →
    ((spots : List Spot) → b spots ≡ c spots) → Visits old new f b → Visits old new g c
visits_as old new f g b c p q r same v =
    record {
      keeps = v.keeps;
      comes =
          λ blocks a spots s n.
          let P : List Block → Type 0 = λ z. AreNumbered blocks (length old.blocks.items) z in
          let one = v.comes blocks a spots s (subst P (sym (same spots)) n) in
          record {
            finds = again blocks old.findings new.findings (f blocks a) (g blocks a) (p blocks a) (q blocks a) (r blocks a) one.finds;
            begins = one.begins ∙ ap (λ z. old.blocks.items ++ map stated_block_of z) (same spots);
          };
    }

-- what is found by what is known around
pub visits_walk : (old new : Resolver) (f : Surroundings → List Site) → ScopeWalks old.around seens.All old.findings new.findings f → new.around ≡ old.around →
    new.blocks ≡ old.blocks → Visits old new (λ blocks. f) no_blocks
visits_walk old new f w around same =
    record {
      keeps = keeps_same old.around new.around around;
      comes =
          λ blocks a spots s n.
          record {
            finds = w.finds blocks a s.sees;
            begins = (let e : new.blocks.items ≡ old.blocks.items = cc in e ∙ sym (append-nil old.blocks.items));
          };
    }
