-- Each block of a program has a number of its own, and its cells are those of its heading and of its own text.
use Rattle.std.proofs.Common.{arith, ◌≡◌, ◌⊎◌, inl, inr, ℕ, ◌+◌, ◌<◌, ◌==◌, Bool, true, false, List, [], ◌∷◌, ◌++◌, map, length, slice_get, Option, Some, None, refl, sym, ap, ◌∙◌, subst, add-one, append-nil, if◌then◌else◌}
use Rattle.std.proofs.lemmas.Bool.{eqb-true}
use Rattle.std.proofs.lemmas.Bool.Decides.{nat_tests}
use Rattle.std.proofs.lemmas.List.Concat.{flat_map-append}
use Rattle.std.proofs.lemmas.List.Elements.{filter-append}
use Rattle.std.specs.List.{flat_map, AllByRecursion}
use Rattle.algol_tree.specs.declared.token.Spot.{Spot}
use Rattle.algol_tree.specs.declared.tree.Kind.{Kind}
use Rattle.algol_tree.specs.Ascending.{spots_of_names}
use Rattle.algol_tree.specs.Blocks.{Block, same_spot, block_numbered, number_at}
use Rattle.algol_tree.specs.Cells as cells
use Rattle.algol_tree.specs.Cells.{Cell, cells_for, cells_at}
use Rattle.algol_tree.specs.Scopes.{names_in}
use Rattle.algol_tree.specs.Sites.{Site}
use Rattle.algol_tree.proofs.Spots.{same_spot_itself}
use Rattle.algol_tree.proofs.Trees.{block_is}
use Rattle.b67_list.proofs.Lists.{each_back, each_front}
use Rattle.b67_fitting.proofs.Among.{in_among}
use Rattle.b67_fitting.proofs.Apart.{IsIn, each_in, in_map, in_front, in_back, in_either, IsApart, Apart, apart_sym, apart_front, apart_back, apart_after, apart_across}
use Rattle.b67_fitting.proofs.Frames.{IsOwn, only, only_own, only_other, front_own, control_cell, result_cell, named_of, front_cells}
use Rattle.b67_fitting.proofs.Listed.{IsBlock, Listed, over, passed, turned, site, given, left, declared, both, block, procedure, AllThere}
use Rattle.b67_fitting.proofs.Looked.{all_blocks}

abbrev pub block_spots : List Block → List Spot
block_spots bs = map (λ (b : Block). b.spot) bs

-- ---- numbers

one_on : (c : Block) (bs : List Block) (i : ℕ) → slice_get (c ∷ bs) (i + 1) ≡ slice_get bs i
one_on c bs i = ap (slice_get (c ∷ bs)) (add-one i)

got : (bs : List Block) (b : Block) → Apart (block_spots bs) → IsIn b bs → slice_get bs (number_at bs b.spot) ≡ Some b
got [] b p i = absurd i
got (c ∷ bs) b p (inl e) =
    ap (λ (z : Block). slice_get (c ∷ bs) (number_at (c ∷ bs) z.spot)) e ∙ ap (λ (t : Bool). slice_get (c ∷ bs) (if t then 0 else number_at bs c.spot + 1)) (same_spot_itself c.spot) ∙ ap Some (sym e)
got (c ∷ bs) b p (inr i) =
    ap (λ (t : Bool). slice_get (c ∷ bs) (if t then 0 else number_at bs b.spot + 1)) (each_in (IsApart c.spot) b.spot (block_spots bs) p.0 (in_map (λ (z : Block). z.spot) b bs i))
    ∙ one_on c bs (number_at bs b.spot) ∙ got bs b p.1 i

pub numbered : (bs : List Block) (b : Block) → Apart (block_spots bs) → IsIn b bs → block_numbered bs (number_at bs b.spot) ≡ b
numbered bs b p i = block_is bs (number_at bs b.spot) b (got bs b p i)

pub number_within : (bs : List Block) (b : Block) → IsIn b bs → number_at bs b.spot < length bs
number_within [] b i = absurd i
number_within (c ∷ bs) b i = by (same_spot c.spot b.spot) refl (number_within bs b) i
  where
    by : (t : Bool) → same_spot c.spot b.spot ≡ t → (IsIn b bs → number_at bs b.spot < length bs) → IsIn b (c ∷ bs) → (if t then 0 else number_at bs b.spot + 1) < length (c ∷ bs)
    by true e later j = omega arith
    by false e later (inl same) = absurd (let clash : true ≡ false = sym (same_spot_itself b.spot) ∙ ap (λ (z : Block). same_spot z.spot b.spot) same ∙ e in cc)
    by false e later (inr j) = omega (arith, later j)

-- a place that is no block's has no number
pub number_none : (bs : List Block) (spot : Spot) → AllByRecursion (IsApart spot) (block_spots bs) → number_at bs spot ≡ length bs
number_none [] spot h = refl
number_none (c ∷ bs) spot h =
    ap (λ (t : Bool). if t then 0 else number_at bs spot + 1) (apart_sym spot c.spot h.0) ∙ (let next : number_at bs spot + 1 ≡ length (c ∷ bs) = omega (arith, number_none bs spot h.1) in next)

eqb_sym : (m n : ℕ) → (m == n) ≡ false → (n == m) ≡ false
eqb_sym m n h = grind (arith, nat_tests)

-- `Q`: what holds of each part
module _ (blocks : List Block) (apart : Apart (block_spots blocks)) (Q : Site → Type 0) where
  abbrev pub number_of : Block → ℕ
  number_of b = number_at blocks b.spot

  pub other_number : (b c : Block) → IsIn b blocks → IsIn c blocks → IsApart b.spot c.spot → (number_of c == number_of b) ≡ false
  other_number b c i j h = by (number_of c == number_of b) refl
    where
      by : (t : Bool) → (number_of c == number_of b) ≡ t → t ≡ false
      by false e = refl
      by true e =
          let same : c ≡ b = sym (numbered blocks c apart j) ∙ ap (block_numbered blocks) (eqb-true (number_of c) (number_of b) e) ∙ numbered blocks b apart i in
          let clash : true ≡ false = sym (same_spot_itself b.spot) ∙ ap (λ (z : Block). same_spot b.spot z.spot) (sym same) ∙ h in
          clash

  -- ---- cells

  -- the number is that of none of these blocks
  abbrev pub IsElsewhere : ℕ → List Block → Type 0
  IsElsewhere m bs = (b : Block) → IsIn b bs → (number_of b == m) ≡ false

  abbrev pub front_of : Block → List Cell
  front_of b = front_cells (number_of b) (named_of blocks b) b

  -- these are the cells of the block: those of its heading and those of its text
  pub record HasCells (b : Block) (cs : List Cell) : Type 0 where
    pub own : List Cell
    pub parts : List Site
    pub text : IsBlock blocks b own parts
    pub told : AllByRecursion Q parts
    pub are : cs ≡ front_of b ++ own

  same_cells : (b : Block) (cs ds : List Cell) → ds ≡ cs → HasCells b cs → HasCells b ds
  same_cells b cs ds e h = record { own = h.own; parts = h.parts; text = h.text; told = h.told; are = e ∙ h.are }

  -- The block with this number has these cells, those in it have their own, and no other block has one.
  pub record AreOf (k : ℕ) (own : List Cell) (bs : List Block) (cs : List Cell) : Type 0 where
    pub mine : only k cs ≡ own
    pub here : (b : Block) → IsIn b bs → HasCells b (only (number_of b) cs)
    pub away : (m : ℕ) → (k == m) ≡ false → IsElsewhere m bs → only m cs ≡ []

  abbrev pub cells_in : List Site → List Cell
  cells_in xs = flat_map (cells_at blocks) xs

  parted : (k : ℕ) (xs ys zs os : List Cell) → only k xs ≡ zs → only k ys ≡ os → only k (xs ++ ys) ≡ zs ++ os
  parted k xs ys zs os g h = filter-append (λ (c : Cell). c.block == k) xs ys ∙ ap (λ z. z ++ only k ys) g ∙ ap (λ z. zs ++ z) h

  -- the place of a block is apart from those
  apart_of : (b : Block) (p q : List Spot) → Apart (p ++ q) → IsIn b.spot p → AllByRecursion (IsApart b.spot) q
  apart_of b p q h i = each_in (λ s. AllByRecursion (IsApart s) q) b.spot p (apart_across p q h) i

  both_of : (k : ℕ) (p q : List Spot) (os ns : List Cell) (bs cs : List Block) (xs ys : List Site) → Apart (p ++ q) → AllThere blocks (bs ++ cs) → IsElsewhere k (bs ++ cs) →
      ((b : Block) → IsIn b bs → IsIn b.spot p) → ((b : Block) → IsIn b cs → IsIn b.spot q) → AreOf k os bs (cells_in xs) → AreOf k ns cs (cells_in ys) →
      AreOf k (os ++ ns) (bs ++ cs) (cells_in (xs ++ ys))
  both_of k p q os ns bs cs xs ys h t o f g i j =
      subst (AreOf k (os ++ ns) (bs ++ cs)) (sym (flat_map-append (cells_at blocks) xs ys))
      (record {
        mine = parted k (cells_in xs) (cells_in ys) os ns i.mine j.mine;
        here = λ b m. by b (in_either b bs cs m);
        away =
            λ m e l. parted m (cells_in xs) (cells_in ys) [] [] (i.away m e (λ b n. l b (in_front b bs cs n))) (j.away m e (λ b n. l b (in_back b bs cs n)));
      })
    where
      far : (b c : Block) → IsIn b bs → IsIn c cs → IsApart b.spot c.spot
      far b c m n = each_in (IsApart b.spot) c.spot q (apart_of b p q h (f b m)) (g c n)

      by : (b : Block) → IsIn b bs ⊎ IsIn b cs → HasCells b (only (number_of b) (cells_in xs ++ cells_in ys))
      by b (inl m) =
          same_cells b (only (number_of b) (cells_in xs)) (only (number_of b) (cells_in xs ++ cells_in ys))
          (parted (number_of b) (cells_in xs) (cells_in ys) (only (number_of b) (cells_in xs)) [] refl
          (j.away (number_of b) (eqb_sym (number_of b) k (o b (in_front b bs cs m))) (λ c n. other_number b c (t b (in_front b bs cs m)) (t c (in_back c bs cs n)) (far b c m n)))
          ∙ append-nil (only (number_of b) (cells_in xs)))
          (i.here b m)
      by b (inr m) =
          same_cells b (only (number_of b) (cells_in ys)) (only (number_of b) (cells_in xs ++ cells_in ys))
          (parted (number_of b) (cells_in xs) (cells_in ys) [] (only (number_of b) (cells_in ys))
          (i.away (number_of b) (eqb_sym (number_of b) k (o b (in_back b bs cs m)))
          (λ c n. other_number b c (t b (in_back b bs cs m)) (t c (in_front c bs cs n)) (apart_sym c.spot b.spot (far c b n m))))
          refl)
          (j.here b m)

  -- cells of the block itself in front
  own_of : (k : ℕ) (new own : List Cell) (bs : List Block) (cs : List Cell) → AllByRecursion (IsOwn k) new → IsElsewhere k bs → AreOf k own bs cs → AreOf k (new ++ own) bs (new ++ cs)
  own_of k new own bs cs w o i =
      record {
        mine = parted k new cs new own (only_own k new w) i.mine;
        here =
            λ b m.
            same_cells b (only (number_of b) cs) (only (number_of b) (new ++ cs))
            (parted (number_of b) new cs [] (only (number_of b) cs) (only_other (number_of b) k new (eqb_sym (number_of b) k (o b m)) w) refl) (i.here b m);
        away = λ m e l. parted m new cs [] [] (only_other m k new e w) (i.away m e l);
      }

  -- a block with the cells of its heading in front
  block_of : (k : ℕ) (b : Block) (own : List Cell) (parts : List Site) (bs : List Block) (cs : List Cell) → IsElsewhere k (b ∷ bs) → IsElsewhere (number_of b) bs → IsBlock blocks b own parts → AllByRecursion Q parts →
      AreOf (number_of b) own bs cs → AreOf k [] (b ∷ bs) (front_of b ++ cs)
  block_of k b own parts bs cs o inner text told i =
      record { mine = none k (o b (inl refl)) (λ c m. o c (inr m)); here = λ c m. by c m; away = λ m g l. none m (l b (inl refl)) (λ c n. l c (inr n)) }
    where
      result : List Cell
      result = front_of b

      owns : AllByRecursion (IsOwn (number_of b)) result
      owns = front_own (number_of b) (named_of blocks b) b

      none : (m : ℕ) → (number_of b == m) ≡ false → IsElsewhere m bs → only m (result ++ cs) ≡ []
      none m g l = parted m result cs [] [] (only_other m (number_of b) result g owns) (i.away m g l)

      by : (c : Block) → IsIn c (b ∷ bs) → HasCells c (only (number_of c) (result ++ cs))
      by c (inl same) =
          subst (λ (z : Block). HasCells z (only (number_of z) (result ++ cs))) (sym same)
          (record { own = own; parts = parts; text = text; told = told; are = parted (number_of b) result cs result own (only_own (number_of b) result owns) i.mine })
      by c (inr m) =
          same_cells c (only (number_of c) cs) (only (number_of c) (result ++ cs))
          (parted (number_of c) result cs [] (only (number_of c) cs) (only_other (number_of c) (number_of b) result (eqb_sym (number_of c) (number_of b) (inner c m)) owns) refl) (i.here c m)

  no_front : (b : Block) → b.result ≡ None → named_of blocks b ≡ [] → front_of b ≡ []
  no_front b e n =
      ap (λ (o : Option Kind). result_cell o (number_of b) b.spot ++ cells_for (number_of b) cells.parameter (named_of blocks b)) e ∙ ap (cells_for (number_of b) cells.parameter) n

  -- the blocks in a block have other numbers
  inner_elsewhere : (b : Block) (spots : List Spot) (bs : List Block) → AllThere blocks (b ∷ bs) → AllByRecursion (IsApart b.spot) spots → ((c : Block) → IsIn c bs → IsIn c.spot spots) →
      IsElsewhere (number_of b) bs
  inner_elsewhere b spots bs t p f c m = other_number b c (t b (inl refl)) (t c (inr m)) (each_in (IsApart b.spot) c.spot spots p (f c m))

  in_spots : {k : ℕ} {spots : List Spot} {own : List Cell} {bs : List Block} {xs : List Site} → Listed blocks k spots own bs xs → (b : Block) → IsIn b bs → IsIn b.spot spots
  in_spots {bs = bs} l b i = in_among b.spot (all_blocks blocks l) (in_map (λ (z : Block). z.spot) b bs i)

  pub cells_are : {k : ℕ} {spots : List Spot} {own : List Cell} {bs : List Block} {xs : List Site} → Listed blocks k spots own bs xs → AllByRecursion Q xs → Apart spots → AllThere blocks bs → IsElsewhere k bs →
      AreOf k own bs (cells_in xs)
  cells_are (over k) h p t o = record { mine = refl; here = λ b i. absurd i; away = λ m e l. refl }
  cells_are (passed k spot l) h p t o = cells_are l h p.1 t o
  cells_are (turned k spot ps qs l) h p t o = cells_are l h (apart_after spot ps qs p) t o
  cells_are (site k x {spots = spots} {own = own} {bs = bs} {xs = xs} f l) h p t o =
      subst (λ (z : List Cell). AreOf k own bs (z ++ cells_in xs)) (sym f.cells) (cells_are l h.1 (apart_back (spots_of_names (names_in x.part)) spots p) t o)
  cells_are (given k x c {own = own} {xs = xs} g m l) h p t o =
      subst (λ (z : List Cell). AreOf k (c ∷ own) [] (z ++ cells_in xs)) (sym g.cells) (own_of k (c ∷ []) own [] (cells_in xs) (g.owns, tt) o (cells_are l h.1 p t o))
  cells_are (left k a n e listed b g l) h p t o = cells_are l h.1 p.1 t o
  cells_are (declared k x names new {spots = spots} {own = own} {bs = bs} {xs = xs} f l) h p t o =
      subst (λ (z : List Cell). AreOf k (new ++ own) bs (z ++ cells_in xs)) (sym f.cells) (own_of k new own bs (cells_in xs) f.owns o (cells_are l h.1 (apart_back names spots p) t o))
  cells_are (both k {p = q} {q = r} {os = os} {ns = ns} {bs = bs} {cs = cs} {xs = xs} {ys = ys} i j) h p t o =
      both_of k q r os ns bs cs xs ys p t o (in_spots i) (in_spots j)
      (cells_are i (each_front Q xs ys h) (apart_front q r p) (λ b m. t b (in_front b bs cs m)) (λ b m. o b (in_front b bs cs m)))
      (cells_are j (each_back Q xs ys h) (apart_back q r p) (λ b m. t b (in_back b bs cs m)) (λ b m. o b (in_back b bs cs m)))
  cells_are (block k b {spots = spots} {own = own} {bs = bs} {xs = xs} e i l) h p t o =
      let inner = inner_elsewhere b spots bs t p.0 (in_spots l) in
      subst (λ (z : List Cell). AreOf k [] (b ∷ bs) (z ++ cells_in xs)) (no_front b e.0 e.1)
      (block_of k b own xs bs (cells_in xs) o inner i h (cells_are l h p.1 (λ c m. t c (inr m)) inner))
  cells_are (procedure k x b more {spots = spots} {own = own} {bs = bs} {xs = xs} f i l) h p t o =
      let behind : Apart (b.spot ∷ (more ++ spots)) = p in
      let inner = inner_elsewhere b spots bs t (each_back (IsApart b.spot) more spots behind.0) (in_spots l) in
      let all = block_of k b own xs bs (cells_in xs) o inner i h.1 (cells_are l h.1 (apart_back more spots behind.1) (λ c m. t c (inr m)) inner) in
      subst (λ (z : List Cell). AreOf k (control_cell k b.spot ∷ []) (b ∷ bs) (z ++ cells_in xs)) (sym f.cells)
      (own_of k (control_cell k b.spot ∷ []) [] (b ∷ bs) (front_of b ++ cells_in xs) (refl, tt) o all)
