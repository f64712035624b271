-- Surroundings in which no block has a name at two places, and how they stay so where no name is declared twice.
use Rattle.std.proofs.Common.{◌≡◌, ℕ, ◌+◌, ◌≤◌, Bool, true, false, List, [], ◌∷◌, ◌++◌, map, Option, Some, None, refl, sym, ap, ◌∙◌, arith}
use Rattle.std.specs.Prelude.{◌==◌, if◌then◌else◌, filter}
use Rattle.std.specs.List.{AllByRecursion}
use Rattle.algol_tree.specs.declared.token.Spot.{Spot}
use Rattle.algol_tree.specs.declared.tree.Named.{Named}
use Rattle.algol_tree.specs.declared.tree.Heading.{Heading}
use Rattle.algol_tree.specs.Plain as tree
use Rattle.algol_tree.specs.Plain.{PDecl, PDecls, PStmt}
use Rattle.algol_tree.specs.Classes as class
use Rattle.algol_tree.specs.Classes.{Class}
use Rattle.algol_tree.specs.Sorts as sort
use Rattle.algol_tree.specs.Sorts.{Declared, Sort, declare, declared_parameters, same_name, class_in, sort_in, is_named_in}
use Rattle.algol_tree.specs.Blocks.{Block, block_numbered, number_at}
use Rattle.algol_tree.specs.Surroundings.{Surroundings, announced, body_of, declare_procedure, declared_as, heading_or, inside_procedure, knowing}
use Rattle.algol_tree.specs.Sites as site
use Rattle.algol_tree.specs.Sites.{Site, sites_in_decls}
use Rattle.algol_tree.specs.Names.{declared_twice, is_announced_by, name_is_one_of, names_here, repeated, result_names, result_names_of, specified, twice_here, twice_in_decl, twice_in_heading}
use Rattle.algol_tree.proofs.Names.{same_name_is}
use Rattle.algol_tree.proofs.Trees.{among_behind}
use Rattle.algol_told.proofs.Lists.{all_weaker, all_both}
use Rattle.algol_told.proofs.Known as known
use Rattle.algol_told.proofs.Known.{IsSeen, Tidied, Within, alone_fresh, fresh_alone, put, put_names, put_within}
use Rattle.b67_list.proofs.Lists.{append_none_left, append_none_right}
use Rattle.b67_list.proofs.Numbers.{number_told}

pub record Tidy (a : Surroundings) : Type 0 where
  pub within : AllByRecursion (Within a.block a.depth) a.known
  pub tidied : Tidied a.known

-- ---- what the block has before the place

abbrev own : ℕ → List Declared → List (List ℕ)
own block ds = map (λ (d : Declared). d.name) (filter (λ (d : Declared). d.block == block) ds)

abbrev IsOwn : ℕ → List Declared → Declared → Type 0
IsOwn block ds e = e.block ≡ block → name_is_one_of (own block ds) e.name ≡ true

own_more : (block : ℕ) (d : Declared) (ds : List Declared) (e : Declared) → IsOwn block ds e → IsOwn block (d ∷ ds) e
own_more block d ds e h same = decide (d.block == block)
  where
    decide : (b : Bool) →
        name_is_one_of (map (λ (d : Declared). d.name) (if b then d ∷ filter (λ (d : Declared). d.block == block) ds else filter (λ (d : Declared). d.block == block) ds)) e.name ≡ true
    decide true = among_behind (d.name ∷ []) (own block ds) e.name (h same)
    decide false = h same

own_first : (block : ℕ) (d : Declared) (ds : List Declared) → IsOwn block (d ∷ ds) d
own_first block d ds same =
    ap
    (λ (b : Bool). name_is_one_of (map (λ (d : Declared). d.name) (if b then d ∷ filter (λ (d : Declared). d.block == block) ds else filter (λ (d : Declared). d.block == block) ds)) d.name)
    (number_told d.block block same)
    ∙ known.among_first d.name (own block ds) d.name refl

all_own : (block : ℕ) (ds : List Declared) → AllByRecursion (IsOwn block ds) ds
all_own block [] = tt
all_own block (d ∷ ds) = (own_first block d ds, all_weaker (IsOwn block ds) (IsOwn block (d ∷ ds)) (own_more block d ds) ds (all_own block ds))

-- what is known of the block is among the names that it must not repeat
here_seen : (a : Surroundings) (before : List (List ℕ)) → Tidy a → AllByRecursion (IsSeen a.block a.depth (before ++ names_here a)) a.known
here_seen a before t =
    all_both (Within a.block a.depth) (IsOwn a.block a.known) (IsSeen a.block a.depth (before ++ names_here a))
    (λ e w o deep. among_behind before (names_here a) e.name (o (w.1 deep))) a.known t.within (all_own a.block a.known)

-- ---- declarations

-- a heading that counts for a FORWARD is of its name
body_named : (name : List ℕ) (ds : PDecls) (g : Heading) → body_of name ds ≡ Some g → g.name.name ≡ name
body_named name tree.no_decls g h = absurd (let clash : None ≡ Some g = h in cc)
body_named name (tree.decls (tree.procedure k s) ds) g h = decide (same_name k.name.name name) refl h (λ q. body_named name ds g q)
  where
    decide : (b : Bool) → same_name k.name.name name ≡ b → (if b then Some k else body_of name ds) ≡ Some g →
        (body_of name ds ≡ Some g → g.name.name ≡ name) → g.name.name ≡ name
    decide true e q on = let same : k ≡ g = cc in ap (λ (x : Heading). x.name.name) (sym same) ∙ same_name_is k.name.name name e
    decide false e q on = on q
body_named name (tree.decls (tree.simple kind ns) ds) g h = body_named name ds g h
body_named name (tree.decls (tree.files ns) ds) g h = body_named name ds g h
body_named name (tree.decls (tree.events ns) ds) g h = body_named name ds g h
body_named name (tree.decls (tree.tasks ns) ds) g h = body_named name ds g h
body_named name (tree.decls (tree.labels ns) ds) g h = body_named name ds g h
body_named name (tree.decls (tree.arrays kind ns ps) ds) g h = body_named name ds g h
body_named name (tree.decls (tree.forward k) ds) g h = body_named name ds g h

pub announced_named : (h : Heading) (later : PDecls) → (announced h later).name.name ≡ h.name.name
announced_named h later = decide (body_of h.name.name later) refl
  where
    decide : (o : Option Heading) → body_of h.name.name later ≡ o → (heading_or h o).name.name ≡ h.name.name
    decide None e = refl
    decide (Some g) e = body_named h.name.name later g e

module _ (blocks : List Block) where
  -- the place after these declarations in its block
  declares : (a : Surroundings) (s : Sort) (c : Class) (ns : List Named) → Tidy a → twice_here blocks a ns ≡ [] →
      Tidy (record a { known = declare a.block a.depth s c ns ++ a.known })
  declares a s c ns t h =
      let f : Named → Declared = λ (n : Named). record { name = n.name; spot = n.spot; block = a.block; depth = a.depth; sort = s; class = c } in
      let seen = result_names_of (block_numbered blocks a.block) ++ names_here a in
      record {
        within = put_within a.block a.depth f (λ n. refl) (λ n. refl) (λ n. refl) ns a.known t.within;
        tidied =
            put_names a.block a.depth f (λ n. refl) (λ n. refl) (λ n. refl) seen ns a.known h t.within t.tidied
            (here_seen a (result_names_of (block_numbered blocks a.block)) t);
      }

  announces : (h : Heading) (later : PDecls) (a : Surroundings) → Tidy a → twice_here blocks a (h.name ∷ []) ≡ [] →
      Tidy (record a { known = declare_procedure blocks (announced h later) a ++ a.known })
  announces h later a t k =
      let g = announced h later in
      let seen = result_names_of (block_numbered blocks a.block) ++ names_here a in
      let fresh : name_is_one_of seen g.name.name ≡ false = ap (name_is_one_of seen) (announced_named h later) ∙ alone_fresh seen h.name k in
      declares a (sort.procedure (number_at blocks g.name.spot)) (class.procedure g) (g.name ∷ []) t (fresh_alone seen g.name fresh)

  -- the body is known where its FORWARD is
  follows : (h : Heading) (a : Surroundings) → Tidy a → is_announced_by a.block h (declared_as a h.name) ≡ true →
      Tidy (record a { known = declare_procedure blocks h a ++ a.known })
  follows h a t k =
      let f : Named → Declared =
      λ (n : Named). record { name = n.name; spot = n.spot; block = a.block; depth = a.depth; sort = sort.procedure (number_at blocks h.name.spot); class = class.procedure h } in
      record {
        within = put_within a.block a.depth f (λ n. refl) (λ n. refl) (λ n. refl) (h.name ∷ []) a.known t.within;
        tidied = (put a.block a.depth (f h.name) refl refl a.known t.within (known.announced a.block a.depth h a.known t.within t.tidied k), t.tidied);
      }

  procedure_knows : (h : Heading) (a : Surroundings) → Tidy a →
      (if is_announced_by a.block h (declared_as a h.name) then [] else twice_here blocks a (h.name ∷ [])) ≡ [] →
      Tidy (record a { known = declare_procedure blocks h a ++ a.known })
  procedure_knows h a t k = decide (is_announced_by a.block h (declared_as a h.name)) refl k
    where
      decide : (b : Bool) → is_announced_by a.block h (declared_as a h.name) ≡ b → (if b then [] else twice_here blocks a (h.name ∷ [])) ≡ [] →
          Tidy (record a { known = declare_procedure blocks h a ++ a.known })
      decide true e q = follows h a t e
      decide false e q = declares a (sort.procedure (number_at blocks h.name.spot)) (class.procedure h) (h.name ∷ []) t q

  knows : (d : PDecl) (later : PDecls) (a : Surroundings) → Tidy a → twice_in_decl blocks d a ≡ [] → Tidy (knowing blocks d later a)
  knows (tree.simple kind ns) later a t h = declares a sort.variable (class.simple kind) ns t h
  knows (tree.files ns) later a t h = declares a sort.file class.file ns t h
  knows (tree.events ns) later a t h = declares a sort.event class.event ns t h
  knows (tree.tasks ns) later a t h = declares a sort.event class.task ns t h
  knows (tree.labels ns) later a t h = declares a sort.label class.label ns t h
  knows (tree.arrays kind ns pairs) later a t h = declares a sort.array _ ns t h
  knows (tree.forward g) later a t h = announces g later a t (append_none_left (twice_here blocks a (g.name ∷ [])) (twice_in_heading g) h)
  knows (tree.procedure g s) later a t h =
      procedure_knows g a t
      (append_none_left (if is_announced_by a.block g (declared_as a g.name) then [] else twice_here blocks a (g.name ∷ [])) (twice_in_heading g) h)

  -- ---- blocks

  deeper : (block depth number : ℕ) (e : Declared) → Within block depth e → Within number (depth + 1) e
  deeper block depth number e w =
      let low : e.depth ≤ depth = w.0 in
      (omega (arith, low), λ deep. absurd (omega (arith, low, deep)))

  begins : (number : ℕ) (a : Surroundings) → Tidy a → Tidy (record { block = number; depth = a.depth + 1; known = a.known })
  begins number a t =
      record {
        within = all_weaker (Within a.block a.depth) (Within number (a.depth + 1)) (deeper a.block a.depth number) a.known t.within;
        tidied = t.tidied;
      }

  none_seen : (block depth number : ℕ) (seen : List (List ℕ)) (e : Declared) → Within block depth e → IsSeen number (depth + 1) seen e
  none_seen block depth number seen e w deep = let low : e.depth ≤ depth = w.0 in absurd (omega (arith, low, deep))

  heading_enters : (h : Heading) (a : Surroundings) → Tidy a → twice_in_heading h ≡ [] → Tidy (inside_procedure blocks h a)
  heading_enters h a t k =
      let number = number_at blocks h.name.spot in
      let f : Named → Declared =
      λ (n : Named).
      record {
        name = n.name;
        spot = n.spot;
        block = number;
        depth = a.depth + 1;
        sort = sort_in h.specs (is_named_in h.values n.name) n.name;
        class = class_in h.specs n.name;
      } in
      let b = begins number a t in
      record {
        within = put_within number (a.depth + 1) f (λ n. refl) (λ n. refl) (λ n. refl) h.params a.known b.within;
        tidied =
            put_names number (a.depth + 1) f (λ n. refl) (λ n. refl) (λ n. refl) (result_names h) h.params a.known
            (append_none_left (repeated (result_names h) h.params) (repeated [] (specified h)) k) b.within t.tidied
            (all_weaker (Within a.block a.depth) (IsSeen number (a.depth + 1) (result_names h)) (none_seen a.block a.depth number (result_names h)) a.known t.within);
      }

  -- `a` is the place before the declaration of the procedure, `b` a place in the same block
  enters : (h : Heading) (s : PStmt) (a b : Surroundings) → Tidy b → twice_in_decl blocks (tree.procedure h s) a ≡ [] → Tidy (inside_procedure blocks h b)
  enters h s a b t k =
      heading_enters h b t
      (append_none_right (if is_announced_by a.block h (declared_as a h.name) then [] else twice_here blocks a (h.name ∷ [])) (twice_in_heading h) k)

  -- ---- at the sites of a tree

  abbrev pub IsOnce : Site → Type 0
  IsOnce x = declared_twice blocks x ≡ []

  pub begins_at : (spot : Spot) (a : Surroundings) → Tidy a → Tidy (record { block = number_at blocks spot; depth = a.depth + 1; known = a.known })
  begins_at spot a t = begins (number_at blocks spot) a t

  pub knows_at : (d : PDecl) (ds : PDecls) (a : Surroundings) (begun : List Declared) → Tidy a → AllByRecursion IsOnce (sites_in_decls blocks (tree.decls d ds) a begun) →
      Tidy (knowing blocks d ds a)
  knows_at d ds a begun t o = knows d ds a t o.0

  pub enters_at : (h : Heading) (s : PStmt) (ds : PDecls) (a : Surroundings) → Tidy (knowing blocks (tree.procedure h s) ds a) →
      IsOnce (record { part = site.declaration (tree.procedure h s) ds; around = a }) → Tidy (inside_procedure blocks h (knowing blocks (tree.procedure h s) ds a))
  enters_at h s ds a t o = enters h s a (knowing blocks (tree.procedure h s) ds a) t o
