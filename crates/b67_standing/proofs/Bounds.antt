-- The bounds of arrays: each pair comes to lie above those before it, and those on the number of the arrays. And the making of an event.
use Rattle.std.proofs.Common.{◌≡◌, refl, sym, ap, ◌∙◌, subst, ℕ, ◌+◌, ◌*◌, ◌≤◌, arith, List, [], ◌∷◌, ◌++◌, length, length-append, append_assoc}
use Rattle.std.proofs.lemmas.List.{append-nil}
use Rattle.std.specs.Prelude.{pos}
use Rattle.algol_tree.specs.declared.tree.Kind.{Kind}
use Rattle.algol_tree.specs.declared.tree.Kind.TheVariants as types
use Rattle.algol_tree.specs.declared.tree.Named.{Named}
use Rattle.algol_tree.specs.Plain.{PPair}
use Rattle.algol_tree.specs.Scopes.{Scopes}
use Rattle.algol_meaning.specs.Value.{Value, number}
use Rattle.algol_meaning.specs.Rest as rests
use Rattle.algol_meaning.specs.Rest.{Half, val, busy, Item, Rest}
use Rattle.algol_meaning.specs.Settle.{settle}
use Rattle.algol_meaning.specs.Statements.{bound_of, settle_bounds}
use Rattle.b67_ops.specs.declared.Operator.TheVariants as ops
use Rattle.b67_ops.specs.declared.PlainKind.TheVariants as kinds
use Rattle.b67_ops.specs.declared.intrinsic.Intrinsic.TheVariants.{Arrays, Event}
use Rattle.b67_segment.specs.Operators.{Placed}
use Rattle.b67_templates.specs.Contexts.{Context}
use Rattle.b67_templates.specs.Fragments.{IsWholeNumber, Has, stop}
use Rattle.b67_templates.specs.Events.{EventMadeAt}
use Rattle.b67_templates.specs.Code.{AreDimensions, HasNoCounts, BoundsAt, ArraysAt}
use Rattle.b67_templates.specs.Depths.{depth, bounds_depth, arrays_depth}
use Rattle.b67_standing.specs.Stepping.{Slot, operand, intrinsic, mark, SlotsHaveRoom, push_number, call, there, first}
use Rattle.b67_standing.specs.Standing.{pend, AreNumbers, arrays_begun, extents, AreWholeLows, SlotsFollow, Shows, ComesTo}
use Rattle.b67_standing.proofs.Leading.{depth_positive, pend_none}
use Rattle.b67_standing.proofs.Asking.{arrays_ask, event_asks}
use Rattle.b67_standing.proofs.Settling.{settle_at}
use Rattle.b67_standing.proofs.Rests.{are_numbers_more, after_rest, stays_here, heads_ask, value_at}

-- one pair more lies on top
extents_more : (before : List PPair) (p : PPair) (vs : List Value) (v : Value) (below : List Slot) → length vs ≡ length before →
    extents (before ++ p ∷ []) (vs ++ v ∷ []) below ≡ operand v ∷ operand (number p.low) ∷ extents before vs below
extents_more [] p [] v below e = refl
extents_more (q ∷ before) p (w ∷ vs) v below e = extents_more before p vs v (operand w ∷ operand (number q.low) ∷ below) (omega (arith, e))
extents_more [] p (w ∷ vs) v below e = absurd (omega (arith, e))
extents_more (q ∷ before) p [] v below e = absurd (omega (arith, e))

extents_length : (before : List PPair) (vs : List Value) (below : List Slot) → length vs ≡ length before → length (extents before vs below) ≡ 2 * length vs + length below
extents_length [] [] below e = omega arith
extents_length (q ∷ before) (w ∷ vs) below e = omega (arith, extents_length before vs (operand w ∷ operand (number q.low) ∷ below) (omega (arith, e)))
extents_length [] (w ∷ vs) below e = absurd (omega (arith, e))
extents_length (q ∷ before) [] below e = absurd (omega (arith, e))

module _ (sc : Scopes) (context : Context) (ps : List Placed) (level most : ℕ) where
  abbrev Coming : Rest → ℕ → List Slot → Type 0
  Coming = ComesTo sc context ps level most

  lows_whole : (pairs : List PPair) (f t : ℕ) → BoundsAt sc context ps level pairs f t → AreWholeLows pairs
  lows_whole [] f t h = tt
  lows_whole (p ∷ pairs) f t h = ((h.2).whole, lows_whole pairs h.1 t h.4)

  -- what is asked of the arrays, whose bounds end at the place b
  pub record BoundsOf (ns : List Named) (pairs : List PPair) (k : List Item) (b : ℕ) : Type 0 where
    pub dimensions : AreDimensions pairs
    pub many : IsWholeNumber (pos (length ns))
    pub lows : AreWholeLows pairs
    pub made : ℕ
    pub next : ℕ
    pub enter : Has ps level b (ops.Plain kinds.Entr) made
    pub push : Has ps level made (ops.Plain kinds.Push) next
    pub none : HasNoCounts k
    pub follows : SlotsFollow sc context ps level most k next
    pub some : 1 ≤ length ns

  -- what becomes of the arrays once the upper bounds before these have values
  abbrev pub BoundsOn : List PPair → Kind → List Named → List PPair → List Item → ℕ → Type 0
  BoundsOn later kind ns pairs k m =
      (before : List PPair) (vs : List Value) → pairs ≡ before ++ later → length vs ≡ length before → AreNumbers vs → SlotsHaveRoom most [] (3 + 2 * length vs + bounds_depth later + length ns) →
      Coming (settle_bounds sc later kind ns pairs k vs) m (extents before vs (arrays_begun (length ns) []))

  pub bound_stands : (kind : Kind) (ns : List Named) (pairs : List PPair) (k : List Item) (before : List PPair) (p : PPair) (later : List PPair) (vs : List Value) (x : Half) (pc : ℕ)
      (slots : List Slot) (m b : ℕ) → BoundsOf ns pairs k b → pairs ≡ before ++ p ∷ later → length vs ≡ length before → AreNumbers vs →
      Shows sc context ps level most types.Number x pc slots (operand (number p.low) ∷ extents before vs (arrays_begun (length ns) [])) m → BoundsAt sc context ps level later m b →
      SlotsHaveRoom most [] (3 + 2 * length vs + 2 + bounds_depth later + length ns) → BoundsOn later kind ns pairs k m →
      Coming (bound_of kind ns pairs vs x later k (settle_bounds sc later kind ns pairs k)) pc slots
  bound_stands kind ns pairs k before p later vs (val v) pc slots m b o e same fits sh l room c =
      let begun = arrays_begun (length ns) [] in
      let us = vs ++ v ∷ [] in
      let longer : length us ≡ length vs + 1 = length-append vs (v ∷ []) in
      let more : length (before ++ p ∷ []) ≡ length before + 1 = length-append before (p ∷ []) in
      after_rest sc context ps level most (value_at sc context ps level most pc slots v (operand (number p.low) ∷ extents before vs begun) m sh.0 sh.1)
      (subst (λ y. Coming (settle_bounds sc later kind ns pairs k us) m y) (extents_more before p vs v begun same)
      (c (before ++ p ∷ []) us (e ∙ sym (append_assoc before (p ∷ []) later)) (omega (arith, longer, more, same)) (are_numbers_more vs v fits sh.2) (omega (arith, room, longer))))
  bound_stands kind ns pairs k before p later vs (busy h) pc slots m b o e same fits sh l room c =
      stays_here sc context ps level most pc slots (rests.bounding kind ns pairs vs h later k)
      (heads_ask sc context ps level most types.Number h pc slots (operand (number p.low) ∷ extents before vs (arrays_begun (length ns) [])) m sh)
      (before, p, m, b, o.made, o.next, e, same, o.dimensions, o.many, o.lows, fits, sh, l, o.enter, o.push, o.none, o.follows, room, o.some)

  pub bounds_at : (later : List PPair) (kind : Kind) (ns : List Named) (pairs : List PPair) (k : List Item) (m b : ℕ) → BoundsOf ns pairs k b → BoundsAt sc context ps level later m b →
      BoundsOn later kind ns pairs k m
  bounds_at [] kind ns pairs k m b o l before vs e same fits room =
      let begun = arrays_begun (length ns) [] in
      let all : pairs ≡ before = e ∙ append-nil before in
      stays_here sc context ps level most m (extents before vs begun) (rests.arrays kind ns pairs vs k) (arrays_ask kind ns pairs vs) (
        o.next,
        record {
          dimensions = o.dimensions;
          many = o.many;
          lows = o.lows;
          highs = fits;
          each = same ∙ ap length (sym all);
          lies = ap (λ qs. extents qs vs begun) (sym all);
          made = o.made;
          stands = subst (λ z. Has ps level z (ops.Plain kinds.Entr) o.made) (sym l) o.enter;
          push = o.push;
          some = o.some;
          room = omega (arith, room);
        },
        o.none,
        o.follows,
      )
  bounds_at (p ∷ later) kind ns pairs k m b o l before vs e same fits room =
      let floor = extents before vs (arrays_begun (length ns) []) in
      let size : length floor ≡ 2 * length vs + 3 = extents_length before vs (arrays_begun (length ns) []) same in
      let deep : 1 ≤ depth p.high = depth_positive p.high in
      let d = settle_at sc context ps level most types.Number p.high l.0 l.1 l.1 l.3 stop (operand (number p.low) ∷ floor) (omega (arith, room, size)) in
      after_rest sc context ps level most (first (push_number p.low l.2 (omega (arith, room, size, deep))) d.leads)
      (bound_stands kind ns pairs k before p later vs (settle sc p.high) d.at d.with_slots l.1 b o e same fits d.shows l.4 (omega (arith, room, deep))
      (bounds_at later kind ns pairs k l.1 b o l.4))

  -- the whole of their making, where nothing waits
  pub arrays_at : (kind : Kind) (ns : List Named) (pairs : List PPair) (k : List Item) (f t : ℕ) → ArraysAt sc context ps level (length ns) pairs f t → HasNoCounts k →
      SlotsFollow sc context ps level most k t → SlotsHaveRoom most [] (arrays_depth ns pairs) → Coming (settle_bounds sc pairs kind ns pairs k []) f (pend k)
  arrays_at kind ns pairs k f t h none follows room =
      let o : BoundsOf ns pairs k h.bounded = record {
        dimensions = h.dimensions;
        many = (h.number).whole;
        lows = lows_whole pairs h.numbered h.bounded h.bounds;
        made = h.made;
        next = t;
        enter = h.enter;
        push = h.push;
        none = none;
        follows = follows;
        some = h.some;
      } in
      subst (λ y. Coming (settle_bounds sc pairs kind ns pairs k []) f y) (sym (pend_none k none))
      (after_rest sc context ps level most
      (first (call Arrays h.intrinsic (omega (arith, room))) (first (push_number (pos (length ns)) h.number (omega (arith, room))) there))
      (bounds_at pairs kind ns pairs k h.numbered h.bounded o h.bounds [] [] refl refl tt (omega (arith, room))))

  -- the making of an event, where nothing waits
  pub event_at : (n : Named) (k : List Item) (f t : ℕ) → EventMadeAt sc context ps level f t → HasNoCounts k → SlotsFollow sc context ps level most k t → SlotsHaveRoom most [] 2 →
      Coming (rests.event n k) f (pend k)
  event_at n k f t h none follows room =
      subst (λ y. Coming (rests.event n k) f y) (sym (pend_none k none))
      (after_rest sc context ps level most (first (call Event h.intrinsic (omega (arith, room))) there)
      (stays_here sc context ps level most h.named (intrinsic Event ∷ mark ∷ []) (rests.event n k) (event_asks n)
      (t, record { lies = refl; made = h.made; stands = h.enter; push = h.push }, none, follows)))
