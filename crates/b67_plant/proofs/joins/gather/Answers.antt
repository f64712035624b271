use Rattle.std.specs.List.{sum_by}
use Rattle.std.specs.Prelude.{slice_get}
use Rattle.std.proofs.Common.{◌≡◌, ◌<◌, ℕ, [], ◌∷◌, length, length-append, map, Some, refl, subst, sym, ap, ◌∙◌, arith}
use Rattle.std.proofs.lemmas.List.Elements.{All-pop}
use Rattle.std.proofs.lemmas.List.Sums.{sum_by_push}
use Rattle.b67_tally.specs.declared.Tally.{Tally}
use Rattle.b67_stands.specs.Running.{Running}
use Rattle.b67_plant.proofs.Seats.{known, known_first, known_less, known_last, place_left, own_numbers, none_in_all}
use Rattle.b67_plant.proofs.joins.gather.Goals as goal

pub loop-post-init : goal.loop-post-init
loop-post-init g c =
    let posts = c.args.posts.items in
    let left = c.pop.new.self.items in
    let first = c.in-Some.first in
    let is = c.in-Some.ensures.items in
    let longer = ap length is ∙ length-append left (first ∷ []) in
    let some = (All-pop (λ post. 0 < post.seat.left) posts left (Some first) is c.requires.each).1 in
    let counts = ap (sum_by (λ post. post.seat.count)) is ∙ sum_by_push (λ post. post.seat.count) left first in
    let lefts = ap (sum_by (λ post. post.seat.left)) is ∙ sum_by_push (λ post. post.seat.left) left first in
    let placed = place_left (λ post. post.seat.mark.place) posts left first is c.requires.places in
    let numbers = c.args.tally.now.numbers in
    let found : slice_get numbers (length left) ≡ Some first.seat.mark.number =
    subst (λ (k : ℕ). slice_get numbers k ≡ Some first.seat.mark.number) placed.1 c.shares_of-acts.ensures.found in (
      omega (arith, longer, first.seat.one),
      omega (arith, longer, first.seat.one_leaf),
      omega (arith, counts, first.seat.counted),
      omega (arith, lefts, first.seat.lefts),
      omega (arith, some, first.seat.lefts),
      placed.0,
      ap (λ (t : Tally). known (λ post. post.seat.mark.number) t.numbers left) c.shares_of-acts.ensures.same
          ∙ known_less (λ post. post.seat.mark.number) numbers posts left first is found
          ∙ known_first (λ post. post.seat.mark.number) numbers posts c.requires.tally.1,
      refl,
    )

pub loop-post-preserved : goal.loop-post-preserved
loop-post-preserved g c =
    let inv = c.loop-post.invariant in
    let posts = c.loop-post.posts.items in
    let left = c.pop-in-loop-post.new.self.items in
    let post = c.in-Some-pop.post in
    let is = c.in-Some-pop.ensures.items in
    let longer = ap length is ∙ length-append left (post ∷ []) in
    let counts = ap (sum_by (λ post. post.seat.count)) is ∙ sum_by_push (λ post. post.seat.count) left post in
    let lefts = ap (sum_by (λ post. post.seat.left)) is ∙ sum_by_push (λ post. post.seat.left) left post in
    let placed = place_left (λ post. post.seat.mark.place) posts left post is inv.5 in
    let numbers = c.loop-post.tally.numbers in
    let found : slice_get numbers (length left) ≡ Some post.seat.mark.number =
    subst (λ (k : ℕ). slice_get numbers k ≡ Some post.seat.mark.number) placed.1 c.shares_of-more.ensures.found in (
      omega (arith, longer, c.merge.ensures.parts, c.shares_of-more.ensures.acts.0, inv.0),
      omega (arith, longer, c.merge-in-Some-pop.ensures.parts, c.shares_of-more.ensures.leaves.0, inv.1),
      omega (arith, counts, c.merge.ensures.amount, c.shares_of-more.ensures.acts.1, inv.2),
      omega (arith, lefts, c.merge-in-Some-pop.ensures.amount, c.shares_of-more.ensures.leaves.1, inv.3),
      omega (arith, c.merge-in-Some-pop.ensures.amount, inv.4),
      placed.0,
      ap (λ (t : Tally). known (λ post. post.seat.mark.number) t.numbers left) c.shares_of-more.ensures.same
          ∙ known_less (λ post. post.seat.mark.number) numbers posts left post is found
          ∙ inv.6,
      c.shares_of-more.ensures.same ∙ inv.7,
    )

pub returns-clause-own : goal.returns-clause-own
returns-clause-own g c =
    let inv = c.loop-post.invariant in
    let posts = c.args.posts.items in
    let same : c.loop-post.tally ≡ c.args.tally.now = inv.7 ∙ c.shares_of-acts.ensures.same in
    let none : length c.loop-post.posts.items ≡ 0 = omega (arith, c.in_default-pop.ensures.cases.0, c.loop-post.posts.ok.0) in
    let counted = c.audit.ensures.whole (omega (arith, inv.0, none, c.requires.parts)) in
    let are : c.args.tally.now.numbers ≡ map (λ post. post.seat.mark.number) posts =
    ap (λ (t : Tally). t.numbers) (sym same) ∙ sym (known_last (λ post. post.seat.mark.number) c.loop-post.tally.numbers c.loop-post.posts.items none) ∙ inv.6 in
    own_numbers (λ post. post.seat.count) (λ post. post.seat.mark.number) posts c.args.tally.now.numbers (λ post. post.seat.marked) are
    (omega (arith, inv.2, none_in_all (λ post. post.seat.count) c.loop-post.posts.items none, counted, c.requires.book, ap (λ (s : Running). s.acts) c.plant.view_is))
