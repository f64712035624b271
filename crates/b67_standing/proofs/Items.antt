-- Whatever is still to be done, the machine comes to where it stands for it after the silent steps.
use Rattle.std.proofs.Common.{refl, ℕ, ◌+◌, arith, List, [], ◌∷◌}
use Rattle.algol_tree.specs.declared.tree.Kind.TheVariants as types
use Rattle.algol_tree.specs.Scopes.{Scopes}
use Rattle.algol_meaning.specs.Rest as rests
use Rattle.algol_meaning.specs.Rest.{Item}
use Rattle.algol_meaning.specs.Settle.{settle}
use Rattle.algol_meaning.specs.Statements.{difference_in, settle_items}
use Rattle.b67_segment.specs.Operators.{Placed}
use Rattle.b67_templates.specs.Contexts.{Context}
use Rattle.b67_templates.specs.Fragments.{stop}
use Rattle.b67_templates.specs.Depths.{depth, stmt_depth}
use Rattle.b67_standing.specs.Stepping.{SlotsHaveRoom}
use Rattle.b67_standing.specs.Standing.{pend, SlotsFollow, RoundAt, ComesTo}
use Rattle.b67_standing.specs.Laws.{ItemsStand}
use Rattle.b67_standing.proofs.Leading.{pend_length, leads_by}
use Rattle.b67_standing.proofs.Asking.{leaves_asks, result_asks}
use Rattle.b67_standing.proofs.Settling.{settle_at}
use Rattle.b67_standing.proofs.Rests.{after_rest, stays_here, turning_at, checked_stands}
use Rattle.b67_standing.proofs.Bounds.{arrays_at, event_at}
use Rattle.b67_standing.proofs.Loops.{RoundRoom, repeated_at, again_at, differed_stands}
use Rattle.b67_standing.proofs.Performing.{stmt_at}

module _ (sc : Scopes) (context : Context) (ps : List Placed) (level most : ℕ) where
  pub items_at : (k : List Item) (pc : ℕ) → SlotsFollow sc context ps level most k pc → ComesTo sc context ps level most (settle_items sc k) pc (pend k)
  items_at [] pc s =
      let h = s.at in after_rest sc context ps level most (leads_by sc context ps level most h.3) (stays_here sc context ps level most h.0 [] rests.over (leaves_asks rests.done) (h.1, h.2, h.4, refl))
  items_at (rests.run x ∷ k) pc s =
      let h = s.at in
      let more : SlotsFollow sc context ps level most k h.2 = record { at = h.6; shallow = (s.shallow).1; counts = s.counts } in
      after_rest sc context ps level most (leads_by sc context ps level most h.3)
      (stmt_at sc context ps level most x h.0 h.1 h.2 h.4 h.5 k (settle_items sc k) more (omega (arith, (s.shallow).0, pend_length k)) (items_at k h.2 more))
  items_at (rests.turn ∷ k) pc s =
      let h = s.at in
      let more : SlotsFollow sc context ps level most k h.1 = record { at = h.5; shallow = (s.shallow).1; counts = s.counts } in
      after_rest sc context ps level most (leads_by sc context ps level most h.3) (turning_at sc context ps level most k h.0 h.1 h.2 h.4 more)
  items_at (rests.count n b ∷ k) pc s =
      let h = s.at in
      let more : SlotsFollow sc context ps level most k h.2 = record { at = h.6; shallow = (s.shallow).1; counts = (s.counts).1 } in
      after_rest sc context ps level most (leads_by sc context ps level most h.3)
      (repeated_at sc context ps level most b k (settle_items sc k) h.0 h.1 h.2 h.4 h.5 more (omega (arith, (s.shallow).0, pend_length k))
      (stmt_at sc context ps level most b (h.4).1 (h.4).2 (h.4).2 (h.4).4 stop) (items_at k h.2 more) n (s.counts).0)
  items_at (rests.check b c ∷ k) pc s =
      let h = s.at in
      let w = h.6 in
      let more : SlotsFollow sc context ps level most k h.3 = record { at = h.8; shallow = (s.shallow).1; counts = s.counts } in
      let room : SlotsHaveRoom most (pend k) (stmt_depth b + depth c) = omega (arith, (s.shallow).0, pend_length k) in
      let d = settle_at sc context ps level most types.Truth c h.0 w.0 w.0 w.2 stop (pend k) (omega (arith, room)) in
      after_rest sc context ps level most (leads_by sc context ps level most h.4)
      (after_rest sc context ps level most d.leads
      (checked_stands sc context ps level most (settle sc c) b c k (settle_items sc k) d.at d.with_slots h.1 h.0 w.0 w.1 h.2 h.3 d.shows h.5 w.2 w.3 w.4 h.7 more room (items_at k h.3 more)))
  items_at (rests.test loop ∷ k) pc s =
      let h = s.at in
      let l = h.4 in
      let more : SlotsFollow sc context ps level most k h.2 = record { at = h.5; shallow = (s.shallow).1; counts = s.counts } in
      let room : RoundRoom sc context ps level most loop k = omega (arith, (s.shallow).0, pend_length k) in
      let d = settle_at sc context ps level most types.Number (difference_in loop) h.0 l.0 l.0 l.4 stop (pend k) (omega (arith, room)) in
      let round : RoundAt sc context ps level most loop h.0 l.1 h.1 = (l.2, l.3, l.6, l.7, l.8) in
      after_rest sc context ps level most (leads_by sc context ps level most h.3)
      (after_rest sc context ps level most d.leads
      (differed_stands sc context ps level most (settle sc (difference_in loop)) loop k (settle_items sc k) d.at d.with_slots h.0 l.0 l.1 h.1 h.2 d.shows l.4 l.5 round more room (items_at k h.2 more)
      (again_at sc context ps level most loop k h.0 l.0 l.1 h.1 h.2 l.4 l.5 round more room (stmt_at sc context ps level most loop.body l.1 l.2 l.2 l.6 stop))))
  items_at (rests.result name ∷ []) pc s =
      let h = s.at in
      after_rest sc context ps level most (leads_by sc context ps level most h.1)
      (stays_here sc context ps level most h.0 [] (rests.reading name) (result_asks name) (h.2, refl, (s.shallow).0))
  items_at (rests.result name ∷ item ∷ k) pc s = absurd s.at
  items_at (rests.make_arrays kind ns pairs ∷ k) pc s =
      let h = s.at in
      let more : SlotsFollow sc context ps level most k h.1 = record { at = h.5; shallow = (s.shallow).1; counts = s.counts } in
      after_rest sc context ps level most (leads_by sc context ps level most h.2)
      (arrays_at sc context ps level most kind ns pairs k h.0 h.1 h.3 h.4 more (omega (arith, (s.shallow).0)))
  items_at (rests.make_event n ∷ k) pc s =
      let h = s.at in
      let more : SlotsFollow sc context ps level most k h.1 = record { at = h.5; shallow = (s.shallow).1; counts = s.counts } in
      after_rest sc context ps level most (leads_by sc context ps level most h.2)
      (event_at sc context ps level most n k h.0 h.1 h.3 h.4 more (omega (arith, (s.shallow).0)))

pub items_stand : ItemsStand
items_stand sc context ps level most k pc s = items_at sc context ps level most k pc s
