-- Private operators lead forward, and neither they nor actions leave more words than there may be.
use Rattle.std.proofs.Common.{◌≡◌, ap, ℕ, ◌+◌, ◌<◌, ◌≤◌, arith, true, List, [], ◌∷◌, length}
use Rattle.std.proofs.lemmas.Int.{ints}
use Rattle.std.specs.Prelude.{ℤ, pos}
use Rattle.algol_tree.specs.declared.tree.Named.{Named}
use Rattle.algol_tree.specs.Scopes.{Scopes}
use Rattle.algol_meaning.specs.Rest as rests
use Rattle.algol_meaning.specs.Rest.{own, Answer}
use Rattle.algol_meaning.specs.Statements.{is_past}
use Rattle.algol_meaning.specs.Asks as asks
use Rattle.b67_deeds.specs.Deeds as deeds
use Rattle.algol_meaning.specs.Asks.{Ask}
use Rattle.b67_ops.specs.declared.Couple.{Couple}
use Rattle.b67_ops.specs.declared.PlainKind.{PlainKind}
use Rattle.b67_ops.specs.declared.PlainKind.TheVariants as kinds
use Rattle.b67_segment.specs.Operators.{Placed}
use Rattle.b67_templates.specs.Contexts.{Context}
use Rattle.b67_templates.specs.Cells.{parameter_wants}
use Rattle.b67_templates.specs.Code.{StepSign, up, down, still, SignedAt}
use Rattle.b67_standing.specs.Stepping.{Slot, FragmentStep, push_number, push_truth, push_reference, stuff, move, exchange, calculate, negate, invert, false_stays, false_goes, true_stays, true_goes, go, call, announce, summon, drop, counts, spent, within, past, within_literal, past_literal}
use Rattle.b67_standing.specs.Standing.{line_begun, start_begun, IsLastSubscript, of_row, of_element, ActionAt, Acted}
use Rattle.b67_standing.specs.Laws.{LeadsHaveRoom, ActionsHaveRoom, StepsGoForward}
use Rattle.b67_standing.proofs.OnEvents.{acted_on_length}
use Rattle.b67_standing.proofs.Leading.{forward, all_forward, leads_within}
use Rattle.b67_standing.proofs.Actuals.{operands_length, given_slots_above}

-- a step of 0 is never past its limit
not_past : (d : ℤ) → is_past d (pos 0) ≡ true → ⊥
not_past d e = omega (arith, ints)

module _ (sc : Scopes) (context : Context) (ps : List Placed) (level most : ℕ) where
  signed_next : {z : ℤ} (s : StepSign z) (f u to : ℕ) → SignedAt sc context ps level s f u to → f < to
  signed_next (up p) f u to h = omega (arith, all_forward ps level (kinds.Zero ∷ kinds.Grtr ∷ []) f h.0 h.1, forward ps level (h.2).stands)
  signed_next (down p) f u to h = omega (arith, all_forward ps level (kinds.Zero ∷ kinds.Less ∷ []) f h.0 h.1, forward ps level (h.2).stands)
  signed_next still f u to h = forward ps level h

  signed_out : {z : ℤ} (s : StepSign z) (d : ℤ) (f u to : ℕ) → SignedAt sc context ps level s f u to → is_past d z ≡ true → f < u
  signed_out (up p) d f u to h e = omega (arith, all_forward ps level (kinds.Zero ∷ kinds.Grtr ∷ []) f h.0 h.1, (h.2).forward)
  signed_out (down p) d f u to h e = omega (arith, all_forward ps level (kinds.Zero ∷ kinds.Less ∷ []) f h.0 h.1, (h.2).forward)
  signed_out still d f u to h e = absurd (not_past d e)

  abbrev past_kinds : List PlainKind
  past_kinds =
      kinds.Dupl ∷ kinds.Zero ∷ kinds.Grtr ∷ kinds.Exch ∷ kinds.Zero ∷ kinds.Less ∷ kinds.Subt ∷ kinds.Mult ∷ kinds.Zero ∷ kinds.Grtr ∷ []

  abbrev count_kinds : List PlainKind
  count_kinds = kinds.Dupl ∷ kinds.One ∷ kinds.Less ∷ []

  step_forward : {a b : ℕ} {x y : List Slot} → FragmentStep sc context ps level most a x b y → a < b
  step_forward (push_number z h room) = forward ps level h.stands
  step_forward (push_truth b h room) = forward ps level h
  step_forward (push_reference c h room) = forward ps level h
  step_forward (stuff held c i named h) = forward ps level h
  step_forward (move low i h w room on) = on
  step_forward (exchange v h s) = forward ps level s
  step_forward (calculate op v w x h i j e) = forward ps level h
  step_forward (negate z h w) = forward ps level h
  step_forward (invert b h) = forward ps level h
  step_forward (false_stays h) = forward ps level h.stands
  step_forward (false_goes h) = h.forward
  step_forward (true_stays h) = forward ps level h.stands
  step_forward (true_goes h) = h.forward
  step_forward (go h) = h.forward
  step_forward (call name h room) = omega (arith, forward ps level h.1, forward ps level h.2)
  step_forward (announce begin e room) = omega (arith, forward ps level e.mark, forward ps level e.control)
  step_forward (summon n callee c room) = omega (arith, forward ps level c.mark, forward ps level c.reference)
  step_forward (drop v h) = forward ps level h
  step_forward {a} {b} (counts z h w e room) =
      omega (arith, all_forward ps level count_kinds a h.tested h.test, forward ps level (h.branch).stands, all_forward ps level (kinds.One ∷ kinds.Subt ∷ []) h.gone b h.less)
  step_forward {a} (spent z h w e room) = omega (arith, all_forward ps level count_kinds a h.tested h.test, (h.branch).forward)
  step_forward {a} (within d z h i j e room) = omega (arith, all_forward ps level past_kinds a h.tested h.test, forward ps level (h.branch).stands)
  step_forward {a} (past d z h i j e room) = omega (arith, all_forward ps level past_kinds a h.tested h.test, (h.branch).forward)
  step_forward {a} {b} (within_literal u d z s h w e room) = signed_next s a u b h
  step_forward {a} {b} (past_literal next d z s h w e room) = signed_out s d a b next h e

  -- under the last subscript that is moved
  last_within : (n : Named) (c : Couple) (lows : List ℤ) (ks : List ℕ) (i : ℤ) (slots below : List Slot) → IsLastSubscript n c lows ks i slots below → length slots ≡ 2 + length below
  last_within n c (low ∷ []) [] i slots below e = omega (arith, ap length e)
  last_within n c (low ∷ low' ∷ []) (k ∷ []) i slots below e = omega (arith, ap length e)
  last_within n c _ _ i slots below e = absurd e

  -- what an action leaves
  acted_within : (q : Ask) (pc : ℕ) (slots : List Slot) (action : ActionAt sc context ps level most q pc slots) (a : Answer) (at : ℕ) (after : List Slot) →
      Acted sc context ps level most q pc slots action a at after → length slots ≤ most → length after ≤ most
  acted_within (asks.reads n) pc slots h (rests.value v) at after l room = omega (arith, h.3, ap length l.1)
  acted_within (asks.reads_element n ks v) pc slots h (rests.value w) at after l room =
      let r = h.2 in
      omega (arith, room, last_within n r.couple r.array.lows ks r.subscript slots h.1 r.lies, ap length l.1)
  acted_within (asks.indexes n ks v) pc slots (of_row low second next below r) (rests.place (rests.element_of x more)) at after l room =
      omega (arith, room, ap length r.lies, ap length l.1)
  acted_within (asks.indexes n ks v) pc slots (of_element kind next below r) (rests.place (rests.element_of x more)) at after l room =
      omega (arith, room, last_within n r.couple r.array.lows ks r.subscript slots below r.lies, ap length l.1)
  acted_within (asks.makes_arrays kind ns pairs vs) pc slots h rests.done at after l room = omega (arith, ap length l.1)
  acted_within (asks.makes_event n) pc slots h rests.done at after l room = omega (arith, ap length l.1)
  acted_within (asks.event_deed (deeds.tests x) ns) pc slots h (rests.value v) at after l room =
      omega (arith, room, acted_on_length sc context ps level most (deeds.tests x) ns pc h.0 slots h.1 h.2, ap length l.1)
  acted_within (asks.event_deed (deeds.acts act) ns) pc slots h rests.done at after l room =
      omega (arith, room, acted_on_length sc context ps level most (deeds.acts act) ns pc h.0 slots h.1 h.2, ap length l.1)
  acted_within (asks.starts n gs task) pc slots h rests.done at after l room =
      let r = h.3 in
      omega (arith, room, ap length r.lies, given_slots_above (parameter_wants sc h.0) gs (start_begun r.couple r.tasked h.2), ap length l.1)
  acted_within (asks.passes n) pc slots h (rests.cell c) at after l room = omega (arith, room, ap length (h.3).lies, ap length l.1)
  acted_within (asks.resolves n) pc slots h (rests.place (rests.there r)) at after l room = omega (arith, room, ap length (h.3).lies, ap length l.1)
  acted_within (asks.stores (rests.there r) v) pc slots h rests.done at after l room = omega (arith, room, ap length (h.2).lies, ap length l.1)
  acted_within (asks.stores (rests.element_of r ks) v) pc slots h rests.done at after l room = omega (arith, room, ap length (h.2).lies, ap length l.1)
  acted_within (asks.reads_result name) pc slots h (rests.value v) at after l room = omega (arith, h.2, ap length h.1, ap length l.1)
  acted_within (asks.stores (own n) v) pc slots h rests.done at after l room = omega (arith, room, ap length (h.2).lies, ap length l.1)
  acted_within (asks.selects v ss) pc slots h rests.done at after l room = omega (arith, room, ap length (h.2).lies, ap length l.4)
  acted_within asks.turns pc slots h rests.done at after l room = omega (arith, room, ap length l.1)
  acted_within (asks.writes phrases vs) pc slots h rests.done at after l room =
      omega (arith, room, ap length (h.2).lies, operands_length vs (line_begun (h.2).format h.1), ap length l.1)
  acted_within _ pc slots h a at after l room = absurd l

pub steps_go_forward : StepsGoForward
steps_go_forward sc context ps level most a b x y s = step_forward sc context ps level most s

pub leads_have_room : LeadsHaveRoom
leads_have_room sc context ps level most a b x y l room = leads_within sc context ps level most l room

pub actions_have_room : ActionsHaveRoom
actions_have_room sc context ps level most q pc slots h a at after l room = acted_within sc context ps level most q pc slots h a at after l room
