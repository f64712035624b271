-- Places that are found: the subscripts of an element come to stand, then its descriptor. An assignment then puts the value on top of the word of
-- its place.
use Rattle.std.proofs.Common.{◌≡◌, refl, ℕ, ◌+◌, arith, List, [], ◌∷◌}
use Rattle.algol_tree.specs.declared.tree.Kind.{Kind}
use Rattle.algol_tree.specs.declared.tree.Kind.TheVariants as types
use Rattle.algol_tree.specs.declared.tree.Named.{Named}
use Rattle.algol_tree.specs.Plain as tree
use Rattle.algol_tree.specs.Plain.{PExpr, PExprs}
use Rattle.algol_tree.specs.Scopes.{Scopes}
use Rattle.algol_meaning.specs.Value.{number, whole_of}
use Rattle.algol_meaning.specs.Rest as rests
use Rattle.algol_meaning.specs.Rest.{Place, Half, val, busy, Aim, HalfPlace, Item, Rest}
use Rattle.algol_meaning.specs.Settle.{aimed_of, settle, settle_place}
use Rattle.algol_meaning.specs.Statements.{assigned_of, aimed_at}
use Rattle.algol_paths.specs.Arrays.{Shape}
use Rattle.b67_ops.specs.declared.Couple.{Couple}
use Rattle.b67_ops.specs.declared.Operator.TheVariants as ops
use Rattle.b67_ops.specs.declared.PlainKind.TheVariants as kinds
use Rattle.b67_segment.specs.Operators.{Placed}
use Rattle.b67_templates.specs.Contexts.{Context}
use Rattle.b67_templates.specs.Fragments.{Has, moved_number, stop}
use Rattle.b67_templates.specs.Cells.{IsArray}
use Rattle.b67_templates.specs.Code.{ExprAt, SubscriptsAt, ElementAssignAt}
use Rattle.b67_templates.specs.Depths.{depth, line_depth}
use Rattle.b67_standing.specs.Stepping.{PlaceIsFound, held_at, Slot, operand, reference, descriptor, SlotsHaveRoom}
use Rattle.b67_standing.specs.Standing.{pend, SlotsFollow, Shows, Aims, ComesTo}
use Rattle.b67_standing.proofs.Asking.{stores_asks, aims_asks}
use Rattle.b67_standing.proofs.Seeking.{Seeking, no_third}
use Rattle.b67_standing.proofs.Subscripts.{begun_at, last_moved, first_moved}
use Rattle.b67_standing.proofs.Settling.{settle_at}
use Rattle.b67_standing.proofs.Rests.{after_rest, stays_here, heads_ask, value_at}

module _ (sc : Scopes) (context : Context) (ps : List Placed) (level most : ℕ) where
  abbrev Coming : Rest → ℕ → List Slot → Type 0
  Coming = ComesTo sc context ps level most

  abbrev Following : List Item → ℕ → Type 0
  Following = SlotsFollow sc context ps level most

  -- ---- the right side

  pub found_assigned : (p : Place) → PlaceIsFound p → (kind : Kind) (x : Half) (pc : ℕ) (slots : List Slot) (k : List Item) (m next : ℕ) →
      Shows sc context ps level most kind x pc slots (descriptor (held_at p kind) ∷ pend k) m → Has ps level m (ops.Plain kinds.Stod) next → Following k next →
      Coming (assigned_of p x k) pc slots
  found_assigned (rests.there r) found kind (val v) pc slots k m next s h f =
      let floor = descriptor (held_at (rests.there r) kind) ∷ pend k in
      after_rest sc context ps level most (value_at sc context ps level most pc slots v floor m s.0 s.1)
      (stays_here sc context ps level most m (operand v ∷ floor) (rests.store (rests.there r) v k) (stores_asks (rests.there r) v)
      (next, record { kind = kind; fits = s.2; lies = refl; stands = h }, f))
  found_assigned (rests.there r) found kind (busy x) pc slots k m next s h f =
      stays_here sc context ps level most pc slots (rests.storing (rests.there r) x k)
      (heads_ask sc context ps level most kind x pc slots (descriptor (held_at (rests.there r) kind) ∷ pend k) m s) (kind, m, next, s, h, f)
  found_assigned (rests.element_of r ks) found kind (val v) pc slots k m next s h f =
      let floor = descriptor (held_at (rests.element_of r ks) kind) ∷ pend k in
      after_rest sc context ps level most (value_at sc context ps level most pc slots v floor m s.0 s.1)
      (stays_here sc context ps level most m (operand v ∷ floor) (rests.store (rests.element_of r ks) v k) (stores_asks (rests.element_of r ks) v)
      (next, record { kind = kind; fits = s.2; lies = refl; stands = h }, f))
  found_assigned (rests.element_of r ks) found kind (busy x) pc slots k m next s h f =
      stays_here sc context ps level most pc slots (rests.storing (rests.element_of r ks) x k)
      (heads_ask sc context ps level most kind x pc slots (descriptor (held_at (rests.element_of r ks) kind) ∷ pend k) m s) (kind, m, next, s, h, f)
  found_assigned (rests.own n) found kind x pc slots k m next s h f = absurd found

  -- ---- the place

  -- What is done with a place of that kind whose word is to lie on `below`: whether it was found, or the machine stands for it.
  pub record AfterPlace (kind : Kind) (below : List Slot) (m : ℕ) (f : HalfPlace → Rest) : Type 0 where
    pub found : (p : Place) → PlaceIsFound p → Coming (f (rests.at p)) m (descriptor (held_at p kind) ∷ below)
    pub stands : (x : Aim) (pc : ℕ) (slots : List Slot) → Aims sc context ps level most kind x pc slots below m → Coming (f (rests.aims x)) pc slots

  -- an assignment goes on with its right side
  pub assigns : (kind : Kind) (e : PExpr) (k : List Item) (m q next : ℕ) → ExprAt sc context ps level kind e m q q → Has ps level q (ops.Plain kinds.Stod) next →
      Following k next → SlotsHaveRoom most (pend k) (1 + depth e) → AfterPlace kind (pend k) m (λ z. aimed_at z e (settle sc e) k)
  assigns kind e k m q next right store follows room = record {
    found = λ p found.
        let d = settle_at sc context ps level most kind e m q q right stop (descriptor (held_at p kind) ∷ pend k) (omega (arith, room)) in
        after_rest sc context ps level most d.leads (found_assigned p found kind (settle sc e) d.at d.with_slots k q next d.shows store follows);
    stands = λ x pc slots s.
        stays_here sc context ps level most pc slots (rests.aiming x e k) (aims_asks sc context ps level most kind x pc slots (pend k) m s)
        (kind, m, q, next, s, right, store, follows, room);
  }

  -- the array of an element, whose subscripts end at the place t
  pub record IndexAt (n : Named) (a : Shape) (c : Couple) (kind : Kind) (t m : ℕ) : Type 0 where
    pub is_array : IsArray sc context.level n a c
    pub kind_is : a.kind ≡ kind
    pub index : Has ps level t (ops.Plain kinds.Indx) m

  pub aimed_stands : (n : Named) (a : Shape) (c : Couple) (kind : Kind) (t m : ℕ) (below : List Slot) (f : HalfPlace → Rest) → AfterPlace kind below m f → IndexAt n a c kind t m →
      (x : Half) (pc : ℕ) (slots : List Slot) (ks : List ℕ) (es : PExprs) → Seeking sc context ps level most x pc slots n c a.lows ks es below t →
      Coming (f (aimed_of n ks x es)) pc slots
  aimed_stands n a c kind t m below f then i (busy h) pc slots ks es s = then.stands (rests.place_subscript n ks h es) pc slots (a, c, t, i.is_array, i.kind_is, s, i.index)
  aimed_stands n a c kind t m below f then i (val v) pc slots ks tree.none s =
      let l = last_moved sc context ps level most v pc slots n a c a.lows ks below t i.is_array s in
      after_rest sc context ps level most l.leads
      (then.stands (rests.place_index n ks v tree.none) t l.with_slots (record {
        array = a;
        couple = c;
        subscript = whole_of v;
        is_array = i.is_array;
        kind_is = i.kind_is;
        is = l.is;
        whole = l.whole;
        lies = l.lies;
        stands = i.index;
      }))
  aimed_stands n a c kind t m below f then i (val v) pc slots ks (tree.more e tree.none) s =
      let l = first_moved sc context ps level most v pc slots n a c a.lows ks e below t i.is_array s in
      after_rest sc context ps level most l.leads
      (then.stands (rests.place_index n ks v (tree.more e tree.none)) l.at (reference c ∷ operand (number (moved_number l.low (whole_of v))) ∷ below) (
        l.low,
        l.second,
        l.next,
        t,
        record {
          array = a;
          couple = c;
          subscript = whole_of v;
          is_array = i.is_array;
          lows_are = l.lows_are;
          first = l.none;
          is = l.is;
          whole = l.whole;
          lies = refl;
          stands = l.row_at;
        },
        i.kind_is,
        l.second_at,
        i.index,
        l.room,
      ))
  aimed_stands n a c kind t m below f then i (val v) pc slots ks (tree.more e (tree.more e' es)) s =
      absurd (no_third sc context ps level most (λ over m. Shows sc context ps level most types.Number (val v) pc slots over m) n c a.lows ks e e' es below t s)

  -- from the start of the code of an element
  pub element_at : (n : Named) (a : Shape) (c : Couple) (kind : Kind) (i : PExpr) (is : PExprs) (from t m : ℕ) (below : List Slot) (f : HalfPlace → Rest) →
      AfterPlace kind below m f → IndexAt n a c kind t m → SubscriptsAt sc context ps level c a.lows (tree.more i is) from t → SlotsHaveRoom most below (5 + (depth i + line_depth is)) →
      Coming (f (settle_place sc (tree.subscripted n (tree.more i is)))) from below
  element_at n a c kind i is from t m below f then index subscripts room =
      let begun = begun_at sc context ps level most n c a.lows i is from t below room
      (λ m s. settle_at sc context ps level most types.Number i from m m s stop below (omega (arith, room))) subscripts in
      after_rest sc context ps level most begun.leads (aimed_stands n a c kind t m below f then index (settle sc i) begun.at begun.with_slots [] is begun.seeks)

  -- the whole statement
  pub element_assign_at : (n : Named) (i : PExpr) (is : PExprs) (e : PExpr) (f t : ℕ) (k : List Item) → ElementAssignAt sc context ps level n (tree.more i is) e f t → Following k t →
      SlotsHaveRoom most (pend k) (5 + (depth i + line_depth is) + 1 + depth e) →
      Coming (aimed_at (settle_place sc (tree.subscripted n (tree.more i is))) e (settle sc e) k) f (pend k)
  element_assign_at n i is e f t k h follows room =
      let a = h.0 in
      element_at n a h.1 a.kind i is f h.2 h.3 (pend k) (λ z. aimed_at z e (settle sc e) k) (assigns a.kind e k h.3 h.4 t h.8 h.9 follows (omega (arith, room)))
      (record { is_array = h.5; kind_is = refl; index = h.7 }) h.6 (omega (arith, room))
