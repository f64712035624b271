-- The places of the parameters and the declarations of each block are apart, and no variable and no parameter stands where a block does.
use Rattle.std.proofs.Common.{◌≡◌, ◌⊎◌, inl, inr, ℕ, List, [], ◌∷◌, ◌++◌, Option, None, Some, sym, ap, subst}
use Rattle.std.proofs.lemmas.List.{map-append}
use Rattle.std.proofs.lemmas.List.Concat.{flat_map-append}
use Rattle.std.specs.List.{flat_map, AllByRecursion}
use Rattle.algol_tree.specs.declared.token.Spot.{Spot}
use Rattle.algol_tree.specs.declared.tree.Kind.{Kind}
use Rattle.algol_tree.specs.declared.tree.Named.{Named}
use Rattle.algol_tree.specs.Ascending.{spots_of_names, spots_of_decls}
use Rattle.algol_tree.specs.Blocks.{Block, number_at}
use Rattle.algol_tree.specs.Cells as cells
use Rattle.algol_tree.specs.Cells.{Cell, cells_for, cells_at}
use Rattle.algol_tree.specs.Scopes.{names_in}
use Rattle.algol_tree.specs.Sites.{Site}
use Rattle.b67_list.proofs.Lists.{each_back, each_both}
use Rattle.b67_fitting.proofs.Among.{each_among}
use Rattle.b67_fitting.proofs.Apart.{IsIn, each_in, in_front, in_back, in_either, IsApart, Apart, apart_sym, apart_front, apart_back, apart_after, in_after, apart_from, apart_across}
use Rattle.b67_fitting.proofs.Blocked.{block_spots}
use Rattle.b67_fitting.proofs.Frames.{control_cell, result_cell, named_of}
use Rattle.b67_fitting.proofs.Listed.{Listed, over, passed, turned, site, given, left, declared, both, block, procedure}
use Rattle.b67_fitting.proofs.Lists.{each_of}
use Rattle.b67_fitting.proofs.Looked.{all_blocks}
use Rattle.b67_fitting.proofs.Started.{HasCallees}

-- a block whose parameters and declarations are apart from one another and from its own place, and whose procedures have their blocks
pub record IsHome (blocks : List Block) (b : Block) : Type 0 where
  pub apart : Apart (b.spot ∷ (spots_of_names (named_of blocks b) ++ spots_of_decls b.decls))
  pub callees : HasCallees blocks b b.decls

pub all_homes : (blocks : List Block) {k : ℕ} {spots : List Spot} {own : List Cell} {bs : List Block} {xs : List Site} → Listed blocks k spots own bs xs → AllByRecursion (IsHome blocks) bs
all_homes blocks (over k) = tt
all_homes blocks (passed k spot l) = all_homes blocks l
all_homes blocks (turned k spot p q l) = all_homes blocks l
all_homes blocks (site k x f l) = all_homes blocks l
all_homes blocks (given k x c g m l) = all_homes blocks l
all_homes blocks (left k a n e listed b g l) = all_homes blocks l
all_homes blocks (declared k x names new f l) = all_homes blocks l
all_homes blocks (both k {bs = bs} {cs = cs} i j) = each_both (IsHome blocks) bs cs (all_homes blocks i) (all_homes blocks j)
all_homes blocks (block k b e i l) = (record { apart = i.apart; callees = i.callees }, all_homes blocks l)
all_homes blocks (procedure k x b more f i l) = (record { apart = i.apart; callees = i.callees }, all_homes blocks l)

-- the place is among these, and apart from the blocks
pub record IsFar (spots : List Spot) (bs : List Block) (spot : Spot) : Type 0 where
  pub among : IsIn spot spots
  pub apart : AllByRecursion (IsApart spot) (block_spots bs)

-- the cell of a variable, of a parameter or of an actual
abbrev pub IsValue : Cell → Type 0
IsValue c = (c.content ≡ cells.result → ⊥) × (c.content ≡ cells.procedure → ⊥)

no_value : (o : Option Kind) (k : ℕ) (spot : Spot) (c : Cell) → IsIn c (result_cell o k spot) → IsValue c → ⊥
no_value None k spot c i e = absurd i
no_value (Some kind) k spot c (inl same) e = e.0 (ap (λ (z : Cell). z.content) same)
no_value (Some kind) k spot c (inr i) e = absurd i

-- a parameter stands among these places
parameter_there : (k : ℕ) (ns : List Named) (more : List Spot) (c : Cell) → AllByRecursion (λ (n : Named). IsIn n.spot more) ns → IsIn c (cells_for k cells.parameter ns) → IsIn c.spot more
parameter_there k [] more c h i = absurd i
parameter_there k (n ∷ ns) more c h (inl e) = subst (λ (z : Cell). IsIn z.spot more) (sym e) h.0
parameter_there k (n ∷ ns) more c h (inr i) = parameter_there k ns more c h.1 i

module _ (blocks : List Block) where
  abbrev cells_in : List Site → List Cell
  cells_in xs = flat_map (cells_at blocks) xs

  -- of joined parts, in the first or in the second
  far_front : (p q : List Spot) (bs cs : List Block) (spot : Spot) → Apart (p ++ q) → ((P : Spot → Type 0) → AllByRecursion P q → AllByRecursion P (block_spots cs)) → IsFar p bs spot → IsFar (p ++ q) (bs ++ cs) spot
  far_front p q bs cs spot h f r =
      record {
        among = in_front spot p q r.among;
        apart =
            subst (AllByRecursion (IsApart spot)) (sym (map-append (λ (b : Block). b.spot) bs cs))
            (each_both (IsApart spot) (block_spots bs) (block_spots cs) r.apart (f (IsApart spot) (each_in (λ s. AllByRecursion (IsApart s) q) spot p (apart_across p q h) r.among)));
      }

  far_back : (p q : List Spot) (bs cs : List Block) (spot : Spot) → Apart (p ++ q) → ((P : Spot → Type 0) → AllByRecursion P p → AllByRecursion P (block_spots bs)) → IsFar q cs spot → IsFar (p ++ q) (bs ++ cs) spot
  far_back p q bs cs spot h f r =
      record {
        among = in_back spot p q r.among;
        apart =
            subst (AllByRecursion (IsApart spot)) (sym (map-append (λ (b : Block). b.spot) bs cs))
            (each_both (IsApart spot) (block_spots bs) (block_spots cs)
            (f (IsApart spot) (each_of (λ s. IsApart s spot) (IsApart spot) p (λ s g. apart_sym s spot g) (apart_from p q spot h r.among))) r.apart);
      }

  -- in a block
  far_inner : (b : Block) (spots : List Spot) (bs : List Block) (spot : Spot) → AllByRecursion (IsApart b.spot) spots → IsFar spots bs spot → IsFar (b.spot ∷ spots) (b ∷ bs) spot
  far_inner b spots bs spot h r = record { among = inr r.among; apart = (apart_sym b.spot spot (each_in (IsApart b.spot) spot spots h r.among), r.apart) }

  pub all_far : {k : ℕ} {spots : List Spot} {own : List Cell} {bs : List Block} {xs : List Site} → Listed blocks k spots own bs xs → Apart spots → (c : Cell) → IsIn c (cells_in xs) →
      IsValue c → IsFar spots bs c.spot
  all_far (over k) p c i e = absurd i
  all_far (passed k spot l) p c i e =
      let r = all_far l p.1 c i e in
      record { among = inr r.among; apart = r.apart }
  all_far (turned k spot ps qs l) p c i e =
      let r = all_far l (apart_after spot ps qs p) c i e in
      record { among = in_after c.spot spot ps qs r.among; apart = r.apart }
  all_far (site k x {spots = spots} {xs = xs} f l) p c i e =
      let names = spots_of_names (names_in x.part) in
      let r = all_far l (apart_back names spots p) c (subst (λ (z : List Cell). IsIn c (z ++ cells_in xs)) f.cells i) e in
      record { among = in_back c.spot names spots r.among; apart = r.apart }
  all_far (given k x d {spots = spots} {xs = xs} g m l) p c i e = by (subst (λ (z : List Cell). IsIn c (z ++ cells_in xs)) g.cells i) (all_far l p c)
    where
      by : IsIn c (d ∷ cells_in xs) → (IsIn c (cells_in xs) → IsValue c → IsFar (d.spot ∷ spots) [] c.spot) → IsFar (d.spot ∷ spots) [] c.spot
      by (inl same) later = record { among = inl (ap (λ (z : Cell). z.spot) same); apart = tt }
      by (inr j) later = later j e
  all_far (left k a n v listed b g l) p c i e =
      let r = all_far l p.1 c i e in
      record { among = inr r.among; apart = r.apart }
  all_far (declared k x names new {spots = spots} {bs = bs} {xs = xs} f l) p c i e = by (all_far l (apart_back names spots p) c) (in_either c new (cells_in xs) (subst (λ (z : List Cell). IsIn c (z ++ cells_in xs)) f.cells i))
    where
      by : (IsIn c (cells_in xs) → IsValue c → IsFar spots bs c.spot) → IsIn c new ⊎ IsIn c (cells_in xs) → IsFar (names ++ spots) bs c.spot
      by later (inl j) =
          let among = each_in (λ (c : Cell). IsIn c.spot names) c new f.among j in
          record {
            among = in_front c.spot names spots among;
            apart = each_among (IsApart c.spot) (all_blocks blocks l) (each_in (λ s. AllByRecursion (IsApart s) spots) c.spot names (apart_across names spots p) among);
          }
      by later (inr j) =
          let r = later j e in
          record { among = in_back c.spot names spots r.among; apart = r.apart }
  all_far (both k {p = q} {q = r} {bs = bs} {cs = cs} {xs = xs} {ys = ys} m n) p c i e =
      by (all_far m (apart_front q r p) c) (all_far n (apart_back q r p) c)
      (in_either c (cells_in xs) (cells_in ys) (subst (λ (z : List Cell). IsIn c z) (flat_map-append (cells_at blocks) xs ys) i))
    where
      by : (IsIn c (cells_in xs) → IsValue c → IsFar q bs c.spot) → (IsIn c (cells_in ys) → IsValue c → IsFar r cs c.spot) →
          IsIn c (cells_in xs) ⊎ IsIn c (cells_in ys) → IsFar (q ++ r) (bs ++ cs) c.spot
      by first second (inl j) = far_front q r bs cs c.spot p (λ P h. each_among P (all_blocks blocks n) h) (first j e)
      by first second (inr j) = far_back q r bs cs c.spot p (λ P h. each_among P (all_blocks blocks m) h) (second j e)
  all_far (block k b {spots = spots} {bs = bs} v m l) p c i e = far_inner b spots bs c.spot p.0 (all_far l p.1 c i e)
  all_far (procedure k x b more {spots = spots} {bs = bs} {xs = xs} f m l) p c i e =
      by (all_far l (apart_back (b.spot ∷ more) spots p) c)
      (in_either c (control_cell k b.spot ∷ (result_cell b.result (number_at blocks b.spot) b.spot ++ cells_for (number_at blocks b.spot) cells.parameter (named_of blocks b))) (cells_in xs) (subst (λ (z : List Cell). IsIn c (z ++ cells_in xs)) f.cells i))
    where
      of_front : IsIn c (result_cell b.result (number_at blocks b.spot) b.spot) ⊎ IsIn c (cells_for (number_at blocks b.spot) cells.parameter (named_of blocks b)) → IsFar ((b.spot ∷ more) ++ spots) (b ∷ bs) c.spot
      of_front (inl j) = absurd (no_value b.result (number_at blocks b.spot) b.spot c j e)
      of_front (inr j) =
          let among = parameter_there (number_at blocks b.spot) (named_of blocks b) more c f.among j in
          let own : IsApart b.spot c.spot = each_in (IsApart b.spot) c.spot (more ++ spots) p.0 (in_front c.spot more spots among) in
          record {
            among = inr (in_front c.spot more spots among);
            apart = (apart_sym b.spot c.spot own, each_among (IsApart c.spot) (all_blocks blocks l) (each_in (λ s. AllByRecursion (IsApart s) spots) c.spot more (apart_across more spots p.1) among));
          }

      by : (IsIn c (cells_in xs) → IsValue c → IsFar spots bs c.spot) →
          IsIn c (control_cell k b.spot ∷ (result_cell b.result (number_at blocks b.spot) b.spot ++ cells_for (number_at blocks b.spot) cells.parameter (named_of blocks b))) ⊎ IsIn c (cells_in xs) → IsFar ((b.spot ∷ more) ++ spots) (b ∷ bs) c.spot
      by later (inl (inl same)) = absurd (e.1 (ap (λ (z : Cell). z.content) same))
      by later (inl (inr j)) = of_front (in_either c (result_cell b.result (number_at blocks b.spot) b.spot) (cells_for (number_at blocks b.spot) cells.parameter (named_of blocks b)) j)
      by later (inr j) =
          let r = far_inner b spots bs c.spot (each_back (IsApart b.spot) more spots p.0) (later j e) in
          record { among = in_skip r.among; apart = r.apart }
        where
          in_skip : IsIn c.spot (b.spot ∷ spots) → IsIn c.spot (b.spot ∷ (more ++ spots))
          in_skip (inl same) = inl same
          in_skip (inr at) = inr (in_back c.spot more spots at)
