-- Subscripts: each is moved by its lower bound, and the head then reads the element, or leads to the row in which the next subscript counts.
use Rattle.std.proofs.Common.{◌≡◌, refl, sym, ap, subst, ℕ, ◌+◌, ◌<◌, ◌≤◌, Bool, true, false, ℤ, pos, int_eq, arith, List, [], ◌∷◌}
use Rattle.std.specs.Prelude.{neg_ℤ}
use Rattle.algol_tree.specs.declared.tree.Kind.{Kind}
use Rattle.algol_tree.specs.declared.tree.Kind.TheVariants as types
use Rattle.algol_tree.specs.declared.tree.Named.{Named}
use Rattle.algol_tree.specs.Plain as tree
use Rattle.algol_tree.specs.Plain.{PExpr, PExprs}
use Rattle.algol_tree.specs.Scopes.{Scopes}
use Rattle.algol_meaning.specs.Value.{Value, number, truth, whole_of}
use Rattle.algol_meaning.specs.Rest as rests
use Rattle.algol_meaning.specs.Rest.{Half, val, busy}
use Rattle.algol_meaning.specs.Settle.{subscripted_of, settle}
use Rattle.algol_paths.specs.Arrays.{Shape}
use Rattle.b67_ops.specs.declared.Couple.{Couple}
use Rattle.b67_ops.specs.declared.Operator.TheVariants as ops
use Rattle.b67_ops.specs.declared.PlainKind.TheVariants as kinds
use Rattle.b67_segment.specs.Operators.{Placed}
use Rattle.b67_templates.specs.Contexts.{Context}
use Rattle.b67_templates.specs.Fragments.{IsWholeNumber, Has, Low, zero, above, near, far, low_of, moved_by, moved_number, TimesBy, MovedBy, MovedAt, FragmentGoes}
use Rattle.b67_templates.specs.Cells.{IsArray}
use Rattle.b67_templates.specs.Code.{ExprAt, SubscriptsAt, SecondAt}
use Rattle.b67_templates.specs.Depths.{depth, line_depth}
use Rattle.b67_standing.specs.Stepping.{row, Slot, operand, reference, descriptor, SlotsHaveRoom, push_reference, move, exchange, StepsLead, there, first}
use Rattle.b67_standing.specs.Standing.{IsLastSubscript, Shows}
use Rattle.b67_standing.proofs.Leading.{forward, all_forward, on, valued_at}
use Rattle.b67_standing.proofs.Values.{number_is, number_whole}
use Rattle.b67_standing.proofs.Seeking.{Seeking, no_third}
use Rattle.b67_standing.proofs.Halves.{Comes, here}

-- where a lower bound is not 0, what moves a subscript is some code
module _ (ps : List Placed) (level : ℕ) where
  times_forward : (t : Bool) (factor : ℤ) (from to : ℕ) → TimesBy ps level t factor from to → from ≤ to
  times_forward true factor from to e = omega (arith, e)
  times_forward false factor from to h = omega (arith, forward ps level (h.1).stands, forward ps level h.2)

  above_forward : (low : ℤ) (from to : ℕ) → MovedBy ps level above low from to → from < to
  above_forward low from to h =
      omega (
        arith,
        all_forward ps level (kinds.Dupl ∷ kinds.Zero ∷ kinds.Greq ∷ []) from h.0 h.2,
        times_forward (int_eq low (pos 1)) low h.0 h.1 h.3,
        forward ps level h.4,
      )

  near_forward : (low : ℤ) (from to : ℕ) → MovedBy ps level near low from to → from < to
  near_forward low from to h =
      omega (
        arith,
        forward ps level h.4,
        forward ps level h.5,
        all_forward ps level (kinds.Dupl ∷ kinds.Mult ∷ kinds.Lseq ∷ []) h.1 h.2 h.6,
        times_forward (int_eq (neg_ℤ low) (pos 1)) (neg_ℤ low) h.2 h.3 h.7,
        forward ps level h.8,
      )

  far_forward : (low : ℤ) (from to : ℕ) → MovedBy ps level far low from to → from < to
  far_forward low from to h =
      omega (arith, all_forward ps level (kinds.Dupl ∷ kinds.Zero ∷ kinds.Less ∷ kinds.Mult ∷ []) from h.0 h.2, forward ps level (h.3).stands, forward ps level h.4)

module _ (sc : Scopes) (context : Context) (ps : List Placed) (level most : ℕ) where
  abbrev Coming : Kind → ℕ → List Slot → Half → List Slot → ℕ → Type 0
  Coming = Comes sc context ps level most

  abbrev Lead : ℕ → List Slot → ℕ → List Slot → Type 0
  Lead = StepsLead sc context ps level most

  abbrev Showing : Half → ℕ → List Slot → List Slot → ℕ → Type 0
  Showing = Shows sc context ps level most types.Number

  -- this half of an expression is in a subscript
  abbrev InSubscript : Half → ℕ → List Slot → Named → Couple → List ℤ → List ℕ → PExprs → List Slot → ℕ → Type 0
  InSubscript = Seeking sc context ps level most

  -- ---- moving

  moves_by : (l : Low) (low i : ℤ) (pc next : ℕ) (below : List Slot) → low_of low ≡ l → MovedBy ps level l low pc next → IsWholeNumber i → SlotsHaveRoom most below 4 →
      Lead pc (operand (number i) ∷ below) next (operand (number (moved_number low i)) ∷ below)
  moves_by zero low i pc next below e h w room =
      let same : i ≡ moved_number low i = ap (λ l. moved_by l low i) (sym e) in
      subst (λ z. Lead pc (operand (number i) ∷ below) z (operand (number (moved_number low i)) ∷ below)) h
      (subst (λ y. Lead pc (operand (number i) ∷ below) pc (operand (number y) ∷ below)) same there)
  moves_by above low i pc next below e h w room = first (move low i (subst (λ l. MovedBy ps level l low pc next) (sym e) h) w room (above_forward ps level low pc next h)) there
  moves_by near low i pc next below e h w room = first (move low i (subst (λ l. MovedBy ps level l low pc next) (sym e) h) w room (near_forward ps level low pc next h)) there
  moves_by far low i pc next below e h w room = first (move low i (subst (λ l. MovedBy ps level l low pc next) (sym e) h) w room (far_forward ps level low pc next h)) there

  -- the value of a subscript lies there, and is moved
  moved_value : (v : Value) (low : ℤ) (pc : ℕ) (slots over : List Slot) (m next : ℕ) → Showing (val v) pc slots over m → MovedAt ps level low m next → SlotsHaveRoom most over 4 →
      Lead pc slots next (operand (number (moved_number low (whole_of v))) ∷ over)
  moved_value (number z) low pc slots over m next s h room =
      on sc context ps level most (valued_at sc context ps level most pc slots (number z) over m s.0 s.1) (moves_by (low_of low) low z m next over refl h s.2 room)
  moved_value (truth b) low pc slots over m next s h room = absurd s.2

  -- the last subscript is moved
  pub record LastMoved (v : Value) (pc : ℕ) (slots : List Slot) (n : Named) (c : Couple) (lows : List ℤ) (ks : List ℕ) (below : List Slot) (to : ℕ) : Type 0 where
    pub is : v ≡ number (whole_of v)
    pub whole : IsWholeNumber (whole_of v)
    pub with_slots : List Slot
    pub leads : Lead pc slots to with_slots
    pub lies : IsLastSubscript n c lows ks (whole_of v) with_slots below
    pub room : SlotsHaveRoom most below 2

  pub last_moved : (v : Value) (pc : ℕ) (slots : List Slot) (n : Named) (a : Shape) (c : Couple) (lows : List ℤ) (ks : List ℕ) (below : List Slot) (to : ℕ) →
      IsArray sc context.level n a c → InSubscript (val v) pc slots n c lows ks tree.none below to → LastMoved v pc slots n c lows ks below to
  last_moved v pc slots n a c (low ∷ []) [] below to i s = record {
    is = number_is v (s.2).2;
    whole = number_whole v (s.2).2;
    with_slots = reference c ∷ operand (number (moved_number low (whole_of v))) ∷ below;
    leads =
        on sc context ps level most (moved_value v low pc slots below s.0 s.1 s.2 s.3 (omega (arith, s.5))) (first (push_reference c s.4 (omega (arith, s.5))) there);
    lies = refl;
    room = omega (arith, s.5);
  }
  last_moved v pc slots n a c (low ∷ low' ∷ []) (k ∷ []) below to i s = record {
    is = number_is v (s.2).2;
    whole = number_whole v (s.2).2;
    with_slots = descriptor (row n (k ∷ [])) ∷ operand (number (moved_number low' (whole_of v))) ∷ below;
    leads =
        on sc context ps level most (moved_value v low' pc slots (descriptor (row n (k ∷ [])) ∷ below) s.0 s.1 s.2 s.3 (omega (arith, s.5)))
        (first (exchange (number (moved_number low' (whole_of v))) (row n (k ∷ [])) s.4) there);
    lies = refl;
    room = omega (arith, s.5);
  }
  last_moved v pc slots n a c _ _ below to i s = absurd s

  -- the first of two subscripts is moved
  pub record FirstMoved (v : Value) (pc : ℕ) (slots : List Slot) (c : Couple) (lows : List ℤ) (ks : List ℕ) (e : PExpr) (below : List Slot) (to : ℕ) : Type 0 where
    pub is : v ≡ number (whole_of v)
    pub whole : IsWholeNumber (whole_of v)
    pub low : ℤ
    pub second : ℤ
    pub lows_are : lows ≡ low ∷ second ∷ []
    pub none : ks ≡ []
    pub at : ℕ
    pub next : ℕ
    pub leads : Lead pc slots at (reference c ∷ operand (number (moved_number low (whole_of v))) ∷ below)
    pub row_at : Has ps level at (ops.Plain kinds.Nxln) next
    pub second_at : SecondAt sc context ps level second e next to
    pub room : SlotsHaveRoom most below (5 + depth e)

  pub first_moved : (v : Value) (pc : ℕ) (slots : List Slot) (n : Named) (a : Shape) (c : Couple) (lows : List ℤ) (ks : List ℕ) (e : PExpr) (below : List Slot) (to : ℕ) →
      IsArray sc context.level n a c → InSubscript (val v) pc slots n c lows ks (tree.more e tree.none) below to → FirstMoved v pc slots c lows ks e below to
  first_moved v pc slots n a c (low ∷ low' ∷ []) [] e below to i s = record {
    is = number_is v (s.4).2;
    whole = number_whole v (s.4).2;
    low = low;
    second = low';
    lows_are = refl;
    none = refl;
    at = s.2;
    next = s.3;
    leads =
        on sc context ps level most (moved_value v low pc slots below s.0 s.1 s.4 s.5 (omega (arith, s.9))) (first (push_reference c s.6 (omega (arith, s.9))) there);
    row_at = s.7;
    second_at = s.8;
    room = s.9;
  }
  first_moved v pc slots n a c (low ∷ []) [] e below to i s = absurd s
  first_moved v pc slots n a c (low ∷ []) (k ∷ ks) e below to i s = absurd s
  first_moved v pc slots n a c (low ∷ low' ∷ []) (k ∷ []) e below to i s = absurd s
  first_moved v pc slots n a c _ _ e below to i s = absurd s

  -- ---- the subscripts of an element

  -- the first of them comes to stand
  pub record Begun (x : Half) (f : ℕ) (n : Named) (c : Couple) (lows : List ℤ) (es : PExprs) (below : List Slot) (to : ℕ) : Type 0 where
    pub at : ℕ
    pub with_slots : List Slot
    pub leads : Lead f below at with_slots
    pub seeks : InSubscript x at with_slots n c lows [] es below to

  pub begun_at : (n : Named) (c : Couple) (lows : List ℤ) (e : PExpr) (es : PExprs) (f to : ℕ) (below : List Slot) → SlotsHaveRoom most below (5 + (depth e + line_depth es)) →
      ((m : ℕ) → ExprAt sc context ps level types.Number e f m m → Coming types.Number f below (settle sc e) below m) →
      SubscriptsAt sc context ps level c lows (tree.more e es) f to → Begun (settle sc e) f n c lows es below to
  begun_at n c (low ∷ []) e tree.none f to below room go s =
      let d = go s.0 s.2 in record { at = d.at; with_slots = d.with_slots; leads = d.leads; seeks = (s.0, s.1, d.shows, s.3, s.4, omega (arith, room)) }
  begun_at n c (low ∷ low' ∷ []) e (tree.more e' tree.none) f to below room go s =
      let d = go s.0 s.4 in
      record { at = d.at; with_slots = d.with_slots; leads = d.leads; seeks = (s.0, s.1, s.2, s.3, d.shows, s.5, s.6, s.7, s.8, omega (arith, room)) }
  begun_at n c _ e _ f to below room go s = absurd s

  -- an element in an expression, from where a subscript stands
  pub subscript_at : (k : Kind) (n : Named) (a : Shape) (c : Couple) (x : Half) (pc : ℕ) (slots : List Slot) (ks : List ℕ) (es : PExprs) (below : List Slot) (t next to : ℕ) →
      IsArray sc context.level n a c → a.kind ≡ k → InSubscript x pc slots n c a.lows ks es below t → Has ps level t (ops.Plain kinds.Nxlv) next → FragmentGoes ps level next to →
      Coming k pc slots (subscripted_of n ks x es) below to
  subscript_at k n a c (busy h) pc slots ks es below t next to i same s read g =
      here sc context ps level most k pc slots (busy (rests.subscript n ks h es)) below to (a, c, t, next, i, same, s, read, g)
  subscript_at k n a c (val v) pc slots ks tree.none below t next to i same s read g =
      let l = last_moved v pc slots n a c a.lows ks below t i s in
      record {
        at = t;
        with_slots = l.with_slots;
        leads = l.leads;
        shows = (
          next,
          record { array = a; couple = c; subscript = whole_of v; is_array = i; is = l.is; whole = l.whole; lies = l.lies; stands = read },
          same,
          l.room,
          g,
        );
      }
  subscript_at k n a c (val v) pc slots ks (tree.more e tree.none) below t next to i same s read g =
      let l = first_moved v pc slots n a c a.lows ks e below t i s in
      record {
        at = l.at;
        with_slots = reference c ∷ operand (number (moved_number l.low (whole_of v))) ∷ below;
        leads = l.leads;
        shows = (
          l.low,
          l.second,
          l.next,
          t,
          next,
          record {
            array = a;
            couple = c;
            subscript = whole_of v;
            is_array = i;
            lows_are = l.lows_are;
            first = l.none;
            is = l.is;
            whole = l.whole;
            lies = refl;
            stands = l.row_at;
          },
          same,
          l.second_at,
          read,
          l.room,
          g,
        );
      }
  subscript_at k n a c (val v) pc slots ks (tree.more e (tree.more e' es)) below t next to i same s read g =
      absurd (no_third sc context ps level most (λ over m. Showing (val v) pc slots over m) n c a.lows ks e e' es below t s)
