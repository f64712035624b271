-- A label has the number in its segment that is its place among the labels of the segment's blocks.
use Rattle.std.proofs.Common.{arith, ◌≡◌, ◌⊎◌, inl, inr, ℕ, zero, suc, ◌+◌, ◌<◌, ◌≤◌, Bool, true, false, List, [], ◌∷◌, ◌++◌, map, length, take, drop, Some, None, refl, sym, ap, ◌∙◌, slice_get, if◌then◌else◌, nat_eq, length-append, append-nil}
use Rattle.std.proofs.lemmas.Bool.Decides.{nat_tests}
use Rattle.std.proofs.lemmas.List.{length-map}
use Rattle.std.proofs.lemmas.Option.{slice_get_within}
use Rattle.algol_tree.specs.declared.tree.Named.{Named}
use Rattle.algol_tree.specs.Blocks.{Block, block_numbered, number_at}
use Rattle.algol_tree.specs.Cells.{level_of}
use Rattle.algol_tree.specs.Scopes.{Scopes}
use Rattle.algol_tree.specs.Sorts.{same_name}
use Rattle.algol_tree.proofs.Names.{same_name_is}
use Rattle.algol_tree.proofs.Trees.{block_is}
use Rattle.algol_paths.specs.Segments.{segment_of}
use Rattle.b67_templates.specs.Labels.{labels_in, labels_before, label_from, label_number}
use Rattle.b67_emit_text.specs.Entries.{DeclaredLabel}
use Rattle.b67_emit_text.specs.Texts.{Text}
use Rattle.b67_list.proofs.Lists.{get_front, slice_either}
use Rattle.b67_compile.proofs.Entries.{chosen, entries_in_text, entries_numbered, numbered_none, segment_at, entries_by, entries_among, among_both}
use Rattle.b67_fitting.proofs.ActualsCelled.{got_map}

-- ---- lists

slice_later : {X : Type 0} (xs ys : List X) (i : ℕ) → slice_get (xs ++ ys) (length xs + i) ≡ slice_get ys i
slice_later [] ys i = let same : 0 + i ≡ i = omega arith in ap (slice_get ys) same
slice_later (x ∷ xs) ys i =
    let more : suc (length xs) + i ≡ suc (length xs + i) = omega arith in
    ap (slice_get (x ∷ (xs ++ ys))) more ∙ slice_later xs ys i

one_more : {X : Type 0} (xs : List X) (j : ℕ) (x : X) → slice_get xs j ≡ Some x → take (suc j) xs ≡ take j xs ++ (x ∷ [])
one_more [] j x h = absurd (let clash : None ≡ Some x = h in cc)
one_more (z ∷ xs) zero x h = let same : z ≡ x = cc in ap (λ y. y ∷ []) same
one_more (z ∷ xs) (suc j) x h = ap (λ (ys : List _). z ∷ ys) (one_more xs j x h)

split_at : {X : Type 0} (xs : List X) (j : ℕ) (x : X) → slice_get xs j ≡ Some x → xs ≡ take j xs ++ (x ∷ drop (suc j) xs)
split_at [] j x h = absurd (let clash : None ≡ Some x = h in cc)
split_at (z ∷ xs) zero x h = let same : z ≡ x = cc in ap (λ y. y ∷ xs) same
split_at (z ∷ xs) (suc j) x h = ap (λ (ys : List _). z ∷ ys) (split_at xs j x h)

chosen_many : (b : Bool) (es : List DeclaredLabel) → length (chosen b es) ≡ (if b then length es else 0)
chosen_many true es = refl
chosen_many false es = refl

-- the first label of a name
found_label : (k : ℕ) (ns : List Named) (name : List ℕ) (number : ℕ) → label_from k ns name ≡ Some number →
    (i : ℕ) × (n : Named) × (slice_get ns i ≡ Some n) × (number ≡ k + i) × (n.name ≡ name)
found_label k [] name number h = absurd (let clash : None ≡ Some number = h in cc)
found_label k (n ∷ ns) name number h = by (same_name n.name name) refl (found_label (k + 1) ns name number) h
  where
    by : (b : Bool) → same_name n.name name ≡ b →
        (label_from (k + 1) ns name ≡ Some number → (i : ℕ) × (m : Named) × (slice_get ns i ≡ Some m) × (number ≡ k + 1 + i) × (m.name ≡ name)) →
        (if b then Some k else label_from (k + 1) ns name) ≡ Some number → (i : ℕ) × (m : Named) × (slice_get (n ∷ ns) i ≡ Some m) × (number ≡ k + i) × (m.name ≡ name)
    by true e later g =
        let same : k ≡ number = cc in
        (0, n, refl, omega (arith, same), same_name_is n.name name e)
    by false e later g =
        let r = later g in
        (suc r.0, r.1, r.2, omega (arith, r.3), r.4)

-- ---- labels by their numbers

module _ (sc : Scopes) (there : (j : ℕ) → j < length sc.blocks → slice_get sc.blocks j ≡ Some (block_numbered sc.blocks j))
    (own : (j : ℕ) → j < length sc.blocks → number_at sc.blocks (block_numbered sc.blocks j).spot ≡ j) where
  abbrev blocks : List Block
  blocks = sc.blocks

  segment_is : (j : ℕ) → j < length blocks → segment_at blocks (block_numbered blocks j) ≡ segment_of blocks j
  segment_is j h = ap (segment_of blocks) (own j h)

  -- so many labels stand before those of a block
  before_many : (k j : ℕ) → j ≤ length blocks → length (entries_among blocks k (take j blocks)) ≡ labels_before sc k j
  before_many k zero h = refl
  before_many k (suc j) h =
      let b = block_numbered blocks j in
      let within : j < length blocks = omega (arith, h) in
      let more : entries_among blocks k (take (suc j) blocks) ≡ entries_among blocks k (take j blocks) ++ (chosen (nat_eq (segment_at blocks b) k) (entries_by blocks b) ++ []) =
      ap (entries_among blocks k) (one_more blocks j b (there j within)) ∙ among_both blocks k (take j blocks) (b ∷ []) in
      let added : length (chosen (nat_eq (segment_at blocks b) k) (entries_by blocks b)) ≡ (if nat_eq (segment_of blocks j) k then length (labels_in b.decls) else 0) =
      chosen_many (nat_eq (segment_at blocks b) k) (entries_by blocks b)
      ∙ ap (λ (n : ℕ). if nat_eq n k then length (entries_by blocks b) else 0) (segment_is j within)
      ∙ ap (λ (n : ℕ). if nat_eq (segment_of blocks j) k then n else 0) (length-map (labels_in b.decls) _) in
      omega (
        arith,
        ap length more,
        length-append (entries_among blocks k (take j blocks)) (chosen (nat_eq (segment_at blocks b) k) (entries_by blocks b) ++ []),
        length-append (chosen (nat_eq (segment_at blocks b) k) (entries_by blocks b)) [],
        added,
        before_many k j (omega (arith, h)),
      )

  -- the label with this number among the labels of its block stands there among those of the segment
  pub entry_at : (j i : ℕ) (n : Named) → j < length blocks → slice_get (labels_in (block_numbered blocks j).decls) i ≡ Some n →
      slice_get (entries_among blocks (segment_of blocks j) blocks) (labels_before sc (segment_of blocks j) j + i)
      ≡ Some (record { level = level_of (block_numbered blocks j); name = n; stmts = (block_numbered blocks j).stmts })
  entry_at j i n h e =
      let b = block_numbered blocks j in
      let k = segment_of blocks j in
      let rest = entries_among blocks k (drop (suc j) blocks) in
      let own_list : List DeclaredLabel = entries_by blocks b in
      let on : nat_eq (segment_at blocks b) k ≡ true = (let same = segment_is j h in grind (arith, nat_tests)) in
      let whole : entries_among blocks k blocks ≡ entries_among blocks k (take j blocks) ++ (own_list ++ rest) =
      ap (entries_among blocks k) (split_at blocks j b (there j h)) ∙ among_both blocks k (take j blocks) (b ∷ drop (suc j) blocks)
      ∙ ap (λ (t : Bool). entries_among blocks k (take j blocks) ++ (chosen t own_list ++ rest)) on in
      ap (λ (es : List DeclaredLabel). slice_get es (labels_before sc k j + i)) whole
      ∙ ap (λ (m : ℕ). slice_get (entries_among blocks k (take j blocks) ++ (own_list ++ rest)) (m + i)) (sym (before_many k j (omega (arith, h))))
      ∙ slice_later (entries_among blocks k (take j blocks)) (own_list ++ rest) i
      ∙ get_front own_list rest i (record { level = level_of b; name = n; stmts = b.stmts })
      (got_map (λ (m : Named). record { level = level_of b; name = m; stmts = b.stmts }) (labels_in b.decls) i n e)

  pub record IsEntry (j number : ℕ) (name : List ℕ) : Type 0 where
    pub label : Named
    pub name_is : label.name ≡ name
    pub there_is : slice_get (entries_among blocks (segment_of blocks j) blocks) number
        ≡ Some (record { level = level_of (block_numbered blocks j); name = label; stmts = (block_numbered blocks j).stmts })

  pub numbered_entry : (j number : ℕ) (name : List ℕ) → j < length blocks → label_number sc j name ≡ Some number → IsEntry j number name
  numbered_entry j number name h e =
      let f = found_label (labels_before sc (segment_of blocks j) j) (labels_in (block_numbered blocks j).decls) name number e in
      record {
        label = f.1;
        name_is = f.4;
        there_is = ap (slice_get (entries_among blocks (segment_of blocks j) blocks)) f.3 ∙ entry_at j f.0 f.1 h f.2;
      }

-- ---- entries by their places

slice_unmap : {X Y : Type 0} (f : X → Y) (xs : List X) (i : ℕ) (y : Y) → slice_get (map f xs) i ≡ Some y → (x : X) × (slice_get xs i ≡ Some x) × (f x ≡ y)
slice_unmap f [] i y h = absurd (let clash : None ≡ Some y = h in cc)
slice_unmap f (x ∷ xs) zero y h = (x, refl, (let same : f x ≡ y = cc in same))
slice_unmap f (x ∷ xs) (suc i) y h = slice_unmap f xs i y h

-- an entry of a segment is that of a block of it
record OfBlock (blocks : List Block) (k place : ℕ) (e : DeclaredLabel) (xs : List Block) : Type 0 where
  number : ℕ
  block : Block
  there : slice_get xs number ≡ Some block
  segment : segment_at blocks block ≡ k
  index : ℕ
  entry_is : slice_get (entries_by blocks block) index ≡ Some e
  place_is : place ≡ length (entries_among blocks k (take number xs)) + index

of_block : (blocks : List Block) (k place : ℕ) (e : DeclaredLabel) (xs : List Block) → slice_get (entries_among blocks k xs) place ≡ Some e → OfBlock blocks k place e xs
of_block blocks k place e [] h = absurd (let clash : None ≡ Some e = h in cc)
of_block blocks k place e (b ∷ xs) h = by (λ m g. of_block blocks k m e xs g) (nat_eq (segment_at blocks b) k) refl
  where
    own : List DeclaredLabel
    own = entries_by blocks b

    rest : List DeclaredLabel
    rest = entries_among blocks k xs

    later : (t : Bool) (m : ℕ) → nat_eq (segment_at blocks b) k ≡ t → place ≡ length (chosen t own) + m → OfBlock blocks k m e xs → OfBlock blocks k place e (b ∷ xs)
    later t m same at r = record {
      number = suc r.number;
      block = r.block;
      there = r.there;
      segment = r.segment;
      index = r.index;
      entry_is = r.entry_is;
      place_is = omega (
        arith,
        at,
        r.place_is,
        length-append (chosen (nat_eq (segment_at blocks b) k) own) (entries_among blocks k (take r.number xs)),
        ap (λ (z : Bool). length (chosen z own)) same,
      );
    }

    inside : ((m : ℕ) → slice_get rest m ≡ Some e → OfBlock blocks k m e xs) → nat_eq (segment_at blocks b) k ≡ true → (slice_get own place ≡ Some e) ⊎ ((m : ℕ) × (place ≡ length own + m) × (slice_get rest m ≡ Some e)) → OfBlock blocks k place e (b ∷ xs)
    inside f on (inl g) = record {
      number = 0;
      block = b;
      there = refl;
      segment = grind (arith, nat_tests);
      index = place;
      entry_is = g;
      place_is = let same : place ≡ 0 + place = omega arith in same;
    }
    inside f on (inr (m, at, g)) = later true m on at (f m g)

    by : ((m : ℕ) → slice_get rest m ≡ Some e → OfBlock blocks k m e xs) → (t : Bool) → nat_eq (segment_at blocks b) k ≡ t → OfBlock blocks k place e (b ∷ xs)
    by f true on = inside f on (slice_either own rest place e (ap (λ (t : Bool). slice_get (chosen t own ++ rest) place) (sym on) ∙ h))
    by f false off = later false place off (let same : place ≡ 0 + place = omega arith in same) (f place (ap (λ (t : Bool). slice_get (chosen t own ++ rest) place) (sym off) ∙ h))

module _ (sc : Scopes) (there : (j : ℕ) → j < length sc.blocks → slice_get sc.blocks j ≡ Some (block_numbered sc.blocks j))
    (own : (j : ℕ) → j < length sc.blocks → number_at sc.blocks (block_numbered sc.blocks j).spot ≡ j) where
  -- the label of an entry, with its number in its block
  pub record IsLabelOf (k place : ℕ) (e : DeclaredLabel) : Type 0 where
    pub block : ℕ
    pub within : block < length sc.blocks
    pub segment : segment_of sc.blocks block ≡ k
    pub index : ℕ
    pub label_is : slice_get (labels_in (block_numbered sc.blocks block).decls) index ≡ Some e.name
    pub place_is : place ≡ labels_before sc k block + index
    pub level_is : e.level ≡ level_of (block_numbered sc.blocks block)

  pub label_of_entry : (k place : ℕ) (e : DeclaredLabel) → slice_get (entries_among sc.blocks k sc.blocks) place ≡ Some e → IsLabelOf k place e
  label_of_entry k place e h =
      let r = of_block sc.blocks k place e sc.blocks h in
      let j = r.number in
      let within = slice_get_within sc.blocks j r.block r.there in
      let b = block_numbered sc.blocks j in
      let same : b ≡ r.block = block_is sc.blocks j r.block r.there in
      let m = slice_unmap (λ (n : Named). record { level = level_of r.block; name = n; stmts = r.block.stmts }) (labels_in r.block.decls) r.index e r.entry_is in
      let name : m.0 ≡ e.name = ap (λ (z : DeclaredLabel). z.name) m.2 in
      let many = before_many sc there own k j (omega (arith, within)) in
      record {
        block = j;
        within = within;
        segment = sym (segment_is sc there own j within) ∙ ap (segment_at sc.blocks) same ∙ r.segment;
        index = r.index;
        label_is = ap (λ (z : Block). slice_get (labels_in z.decls) r.index) same ∙ m.1 ∙ ap Some name;
        place_is = omega (arith, r.place_is, many);
        level_is = sym (ap (λ (z : DeclaredLabel). z.level) m.2) ∙ ap level_of (sym same);
      }

-- ---- in the texts

-- a label of a segment is one of its text
pub record InText (ts : List Text) (k number : ℕ) (e : DeclaredLabel) : Type 0 where
  pub text : Text
  pub text_is : slice_get ts k ≡ Some text
  pub entry_is : slice_get (entries_in_text text) number ≡ Some e

pub in_text : (first : ℕ) (ts : List Text) (k number : ℕ) (e : DeclaredLabel) → slice_get (entries_numbered first ts (first + k)) number ≡ Some e → InText ts k number e
in_text first [] k number e h = absurd (let clash : None ≡ Some e = h in cc)
in_text first (t ∷ ts) zero number e h = by (entries_numbered (first + 1) ts (first + 0)) refl
  where
    later : (rest : List DeclaredLabel) → entries_numbered (first + 1) ts (first + 0) ≡ rest → slice_get (entries_in_text t ++ rest) number ≡ Some e
    later rest same =
        let on : nat_eq first (first + 0) ≡ true = grind (arith, nat_tests) in
        ap (λ (es : List DeclaredLabel). slice_get (entries_in_text t ++ es) number) (sym same) ∙ ap (λ (b : Bool). slice_get (chosen b (entries_in_text t) ++ entries_numbered (first + 1) ts (first + 0)) number) (sym on) ∙ h

    by : (rest : List DeclaredLabel) → entries_numbered (first + 1) ts (first + 0) ≡ rest → InText (t ∷ ts) 0 number e
    by [] same = record { text = t; text_is = refl; entry_is = ap (λ (es : List DeclaredLabel). slice_get es number) (sym (append-nil (entries_in_text t))) ∙ later [] same }
    by (x ∷ rest) same = absurd (let clash : x ∷ rest ≡ [] = sym same ∙ numbered_none (first + 1) ts (first + 0) (omega arith) in cc)
in_text first (t ∷ ts) (suc k) number e h =
    let off : nat_eq first (first + suc k) ≡ false = grind (arith, nat_tests) in
    let same : first + suc k ≡ first + 1 + k = omega arith in
    let rest : slice_get (entries_numbered (first + 1) ts (first + 1 + k)) number ≡ Some e =
    ap (λ (n : ℕ). slice_get (entries_numbered (first + 1) ts n) number) (sym same)
    ∙ ap (λ (b : Bool). slice_get (chosen b (entries_in_text t) ++ entries_numbered (first + 1) ts (first + suc k)) number) (sym off) ∙ h in
    let r = in_text (first + 1) ts k number e rest in
    record { text = r.text; text_is = r.text_is; entry_is = r.entry_is }

-- .. and each of a text is one of its segment
pub of_text : (first : ℕ) (ts : List Text) (k number : ℕ) (t : Text) (e : DeclaredLabel) → slice_get ts k ≡ Some t → slice_get (entries_in_text t) number ≡ Some e →
    slice_get (entries_numbered first ts (first + k)) number ≡ Some e
of_text first [] k number t e h g = absurd (let clash : None ≡ Some t = h in cc)
of_text first (u ∷ ts) zero number t e h g =
    let same : u ≡ t = cc in
    let on : nat_eq first (first + 0) ≡ true = grind (arith, nat_tests) in
    ap (λ (b : Bool). slice_get (chosen b (entries_in_text u) ++ entries_numbered (first + 1) ts (first + 0)) number) on
    ∙ get_front (entries_in_text u) (entries_numbered (first + 1) ts (first + 0)) number e (ap (λ (z : Text). slice_get (entries_in_text z) number) same ∙ g)
of_text first (u ∷ ts) (suc k) number t e h g =
    let off : nat_eq first (first + suc k) ≡ false = grind (arith, nat_tests) in
    let same : first + suc k ≡ first + 1 + k = omega arith in
    ap (λ (b : Bool). slice_get (chosen b (entries_in_text u) ++ entries_numbered (first + 1) ts (first + suc k)) number) off
    ∙ ap (λ (n : ℕ). slice_get (entries_numbered (first + 1) ts n) number) same ∙ of_text (first + 1) ts k number t e h g
