-- The labels of a text by their places: each that a block declares and that stands in the block's list is among those that are noted.
use Rattle.std.proofs.Common.{arith, ◌≡◌, ◌⊎◌, inl, inr, ℕ, zero, suc, ◌+◌, ◌≤◌, Bool, true, false, if◌then◌else◌, List, [], ◌∷◌, ◌++◌, refl, sym, ap, ◌∙◌}
use Rattle.std.specs.Prelude.{Option, Some, None, slice_get}
use Rattle.std.specs.List.{AllByRecursion}
use Rattle.algol_tree.specs.declared.token.Spot.{Spot}
use Rattle.algol_tree.specs.declared.tree.Named.{Named}
use Rattle.algol_tree.specs.Blocks.{same_spot}
use Rattle.algol_tree.specs.Plain as tree
use Rattle.algol_tree.specs.Plain.{PStmt, PStmts, PDecls}
use Rattle.algol_tree.specs.Sorts.{same_name}
use Rattle.algol_tree.proofs.Spots.{same_spot_is, same_spot_itself}
use Rattle.algol_meaning.specs.Statements.{is_labelled}
use Rattle.b67_templates.specs.Labels.{label_before, label_in, labels_in}
use Rattle.b67_emit_stmt.specs.declared.draft.Label.{Label}
use Rattle.b67_emit_stmt.specs.Drafts.{spots_of}
use Rattle.b67_emit_stmt.specs.Labels.{label_spots, label_spots_in}
use Rattle.b67_list.proofs.Lists.{each_both}
use Rattle.b67_emit_text.specs.Entries.{DeclaredLabel, entries_in_stmt, entries_in_stmts, entries_of, own_entries, label_place_in}
use Rattle.b67_emit_text.specs.Texts.{spot_times}

-- ---- places

-- the place is one of these
abbrev pub Among : Spot → List Spot → Type 0
Among x [] = ⊥
Among x (y ∷ ys) = (x ≡ y) ⊎ Among x ys

in_front : (x : Spot) (xs ys : List Spot) → Among x xs → Among x (xs ++ ys)
in_front x [] ys h = absurd h
in_front x (z ∷ xs) ys (inl e) = inl e
in_front x (z ∷ xs) ys (inr h) = inr (in_front x xs ys h)

in_back : (x : Spot) (xs ys : List Spot) → Among x ys → Among x (xs ++ ys)
in_back x [] ys h = h
in_back x (z ∷ xs) ys h = inr (in_back x xs ys h)

-- ---- a label in a list

before_among : (s : PStmt) (name : List ℕ) (label : Named) → label_before s name ≡ Some label → Among label.spot (label_spots s)
before_among (tree.label n s) name label h = by (same_name n.name name) (before_among s name label) h
  where
    by : (b : Bool) → (label_before s name ≡ Some label → Among label.spot (label_spots s)) → (if b then Some n else label_before s name) ≡ Some label →
        Among label.spot (n.spot ∷ label_spots s)
    by true later e = let same : n ≡ label = cc in inl (ap (λ (m : Named). m.spot) (sym same))
    by false later e = inr (later e)
before_among tree.empty name label h = absurd (let clash : None ≡ Some label = h in cc)
before_among (tree.assign v e) name label h = absurd (let clash : None ≡ Some label = h in cc)
before_among (tree.call_of c) name label h = absurd (let clash : None ≡ Some label = h in cc)
before_among (tree.go_to n) name label h = absurd (let clash : None ≡ Some label = h in cc)
before_among (tree.block b) name label h = absurd (let clash : None ≡ Some label = h in cc)
before_among (tree.if_then c x) name label h = absurd (let clash : None ≡ Some label = h in cc)
before_among (tree.if_else c x y) name label h = absurd (let clash : None ≡ Some label = h in cc)
before_among (tree.while c b) name label h = absurd (let clash : None ≡ Some label = h in cc)
before_among (tree.until b c) name label h = absurd (let clash : None ≡ Some label = h in cc)
before_among (tree.for v a s l b) name label h = absurd (let clash : None ≡ Some label = h in cc)
before_among (tree.thru e b) name label h = absurd (let clash : None ≡ Some label = h in cc)
before_among (tree.case e ss) name label h = absurd (let clash : None ≡ Some label = h in cc)
before_among (tree.process c task) name label h = absurd (let clash : None ≡ Some label = h in cc)
before_among (tree.event act e) name label h = absurd (let clash : None ≡ Some label = h in cc)
before_among (tree.write n spot phrases es) name label h = absurd (let clash : None ≡ Some label = h in cc)

list_among : (ss : PStmts) (name : List ℕ) (label : Named) → label_in ss name ≡ Some label → Among label.spot (label_spots_in ss)
list_among tree.no_stmts name label h = absurd (let clash : None ≡ Some label = h in cc)
list_among (tree.stmts s ss) name label h = by (is_labelled s name) (list_among ss name label) h
  where
    by : (b : Bool) → (label_in ss name ≡ Some label → Among label.spot (label_spots_in ss)) → (if b then label_before s name else label_in ss name) ≡ Some label →
        Among label.spot (label_spots s ++ label_spots_in ss)
    by true later e = in_front label.spot (label_spots s) (label_spots_in ss) (before_among s name label e)
    by false later e = in_back label.spot (label_spots s) (label_spots_in ss) (later e)

-- ---- the labels that blocks declare

-- its label, if it stands in the list of its block, stands at one of these places
abbrev pub Found : List Spot → DeclaredLabel → Type 0
Found spots e = (label : Named) → label_in e.stmts e.name.name ≡ Some label → Among label.spot spots

all_found : (P Q : DeclaredLabel → Type 0) (es : List DeclaredLabel) → ((e : DeclaredLabel) → P e → Q e) → AllByRecursion P es → AllByRecursion Q es
all_found P Q [] f h = tt
all_found P Q (e ∷ es) f h = (f e h.0, all_found P Q es f h.1)

further : (xs ys : List Spot) (es : List DeclaredLabel) → AllByRecursion (Found xs) es → AllByRecursion (Found (xs ++ ys)) es
further xs ys es h = all_found (Found xs) (Found (xs ++ ys)) es (λ e g label there. in_front label.spot xs ys (g label there)) h

behind : (xs ys : List Spot) (es : List DeclaredLabel) → AllByRecursion (Found ys) es → AllByRecursion (Found (xs ++ ys)) es
behind xs ys es h = all_found (Found ys) (Found (xs ++ ys)) es (λ e g label there. in_back label.spot xs ys (g label there)) h

own_found : (level : ℕ) (ss : PStmts) (ns : List Named) → AllByRecursion (Found (label_spots_in ss)) (own_entries level ss ns)
own_found level ss [] = tt
own_found level ss (n ∷ ns) = (λ label there. list_among ss n.name label there, own_found level ss ns)

both_found : (xs ys : List Spot) (es fs : List DeclaredLabel) → AllByRecursion (Found xs) es → AllByRecursion (Found ys) fs → AllByRecursion (Found (xs ++ ys)) (es ++ fs)
both_found xs ys es fs h k = each_both (Found (xs ++ ys)) es fs (further xs ys es h) (behind xs ys fs k)

mutual
  stmt_found : (level : ℕ) (s : PStmt) → AllByRecursion (Found (label_spots s)) (entries_in_stmt level s)
  stmt_found level tree.empty = tt
  stmt_found level (tree.label n s) = behind (n.spot ∷ []) (label_spots s) (entries_in_stmt level s) (stmt_found level s)
  stmt_found level (tree.assign v e) = tt
  stmt_found level (tree.call_of c) = tt
  stmt_found level (tree.go_to n) = tt
  stmt_found level (tree.block (tree.body spot tree.no_decls ss)) = stmts_found level ss
  stmt_found level (tree.block (tree.body spot (tree.decls d ds) ss)) =
      each_both (Found (label_spots_in ss)) (own_entries (level + 1) ss (labels_in (tree.decls d ds))) (entries_in_stmts (level + 1) ss)
      (own_found (level + 1) ss (labels_in (tree.decls d ds))) (stmts_found (level + 1) ss)
  stmt_found level (tree.if_then c x) = stmt_found level x
  stmt_found level (tree.if_else c x y) =
      both_found (label_spots x) (label_spots y) (entries_in_stmt level x) (entries_in_stmt level y) (stmt_found level x) (stmt_found level y)
  stmt_found level (tree.while c b) = stmt_found level b
  stmt_found level (tree.until b c) = stmt_found level b
  stmt_found level (tree.for v a s l b) = stmt_found level b
  stmt_found level (tree.thru e b) = stmt_found level b
  stmt_found level (tree.case e ss) = stmts_found level ss
  stmt_found level (tree.process c task) = tt
  stmt_found level (tree.event act e) = tt
  stmt_found level (tree.write n spot phrases es) = tt

  stmts_found : (level : ℕ) (ss : PStmts) → AllByRecursion (Found (label_spots_in ss)) (entries_in_stmts level ss)
  stmts_found level tree.no_stmts = tt
  stmts_found level (tree.stmts s ss) =
      both_found (label_spots s) (label_spots_in ss) (entries_in_stmt level s) (entries_in_stmts level ss) (stmt_found level s) (stmts_found level ss)

-- those of a text
pub entries_found : (level : ℕ) (ds : PDecls) (ss : PStmts) → AllByRecursion (Found (label_spots_in ss)) (entries_of level ds ss)
entries_found level ds ss =
    each_both (Found (label_spots_in ss)) (own_entries level ss (labels_in ds)) (entries_in_stmts level ss) (own_found level ss (labels_in ds)) (stmts_found level ss)

-- ---- where they were noted

-- the first label that was noted at a place
pub record Noted (ls : List Label) (spot : Spot) : Type 0 where
  pub label : Label
  pub here : label.spot ≡ spot
  pub place : label_place_in ls spot ≡ Some label.place
  pub number : ℕ
  pub there : slice_get ls number ≡ Some label

pub noted_there : (ls : List Label) (spot : Spot) → Among spot (spots_of ls) → Noted ls spot
noted_there [] spot h = absurd h
noted_there (l ∷ ls) spot h = by (same_spot l.spot spot) refl h (noted_there ls spot)
  where
    place : Bool → Option ℕ
    place b = if b then Some l.place else label_place_in ls spot

    by : (b : Bool) → same_spot l.spot spot ≡ b → Among spot (spots_of (l ∷ ls)) → (Among spot (spots_of ls) → Noted ls spot) → Noted (l ∷ ls) spot
    by true q g later = record { label = l; here = same_spot_is l.spot spot q; place = ap place q; number = zero; there = refl }
    by false q (inl e) later =
        let self : same_spot l.spot spot ≡ true = ap (λ (s : Spot). same_spot s spot) (sym e) ∙ same_spot_itself spot in
        absurd (let clash : true ≡ false = sym self ∙ q in cc)
    by false q (inr g) later =
        let more = later g in
        record { label = more.label; here = more.here; place = ap place q ∙ more.place; number = suc more.number; there = more.there }

-- ---- one label at a place

-- the label is found where it was noted
abbrev Own : List Label → Label → Type 0
Own ls l = (label_place_in ls l.spot ≡ Some l.place) × (1 ≤ spot_times l.spot (spots_of ls))

counted : Bool → ℕ → ℕ
counted b n = (if b then 1 else 0) + n

fewer : (b : Bool) (n : ℕ) → counted b n ≤ 1 → n ≤ 1
unfolding counted
fewer true n h = omega (arith, h)
fewer false n h = omega (arith, h)

all_own : (P Q : Label → Type 0) (ls : List Label) → ((l : Label) → P l → Q l) → AllByRecursion P ls → AllByRecursion Q ls
all_own P Q [] f h = tt
all_own P Q (l ∷ ls) f h = (f l h.0, all_own P Q ls f h.1)

own_all : (ls : List Label) → ((spot : Spot) → spot_times spot (spots_of ls) ≤ 1) → AllByRecursion (Own ls) ls
unfolding counted
own_all [] once = tt
own_all (x ∷ xs) once = (
  (ap (λ (b : Bool). if b then Some x.place else label_place_in xs x.spot) (same_spot_itself x.spot), first),
  all_own (Own xs) (Own (x ∷ xs)) xs other (own_all xs (λ spot. fewer (same_spot x.spot spot) (spot_times spot (spots_of xs)) (once spot))),
)
  where
    first : 1 ≤ spot_times x.spot (spots_of (x ∷ xs))
    first =
        let one : spot_times x.spot (spots_of (x ∷ xs)) ≡ 1 + spot_times x.spot (spots_of xs) = ap (λ (b : Bool). (if b then 1 else 0) + spot_times x.spot (spots_of xs)) (same_spot_itself x.spot) in
        omega (arith, one)

    other : (l : Label) → Own xs l → Own (x ∷ xs) l
    other l h = by (same_spot x.spot l.spot) refl
      where
        by : (b : Bool) → same_spot x.spot l.spot ≡ b → Own (x ∷ xs) l
        by true q =
            let two : spot_times l.spot (spots_of (x ∷ xs)) ≡ 1 + spot_times l.spot (spots_of xs) = ap (λ (b : Bool). (if b then 1 else 0) + spot_times l.spot (spots_of xs)) q in
            absurd (omega (arith, two, once l.spot, h.1))
        by false q =
            let same : spot_times l.spot (spots_of (x ∷ xs)) ≡ 0 + spot_times l.spot (spots_of xs) = ap (λ (b : Bool). (if b then 1 else 0) + spot_times l.spot (spots_of xs)) q in
            (ap (λ (b : Bool). if b then Some x.place else label_place_in xs l.spot) q ∙ h.0, omega (arith, same, h.1))

-- where no two stand at one place, each is found there
pub placed_once : (ls : List Label) → ((spot : Spot) → spot_times spot (spots_of ls) ≤ 1) → AllByRecursion (λ (l : Label). label_place_in ls l.spot ≡ Some l.place) ls
placed_once ls once = all_own (Own ls) (λ (l : Label). label_place_in ls l.spot ≡ Some l.place) ls (λ l h. h.0) (own_all ls once)
