-- A run has at most as many operators for each entry, and for each tail, as the longest segment has syllables.
use Rattle.std.proofs.Common.{◌≡◌, ℕ, zero, suc, ◌+◌, ◌*◌, ◌≤◌, List, [], ◌∷◌, length, Some, ap, ◌∙◌, arith}
use Rattle.std.specs.Prelude.{slice_get, sum}
use Rattle.std.proofs.lemmas.List.{length-reverse}
use Rattle.std.proofs.lemmas.List.Sums.{sum_by-cons}
use Rattle.std.proofs.Math.Nat.{le-max_left, le-max_right}
use Rattle.algol_tree.specs.Plain.{PProgram}
use Rattle.algol_meaning.specs.World.{World}
use Rattle.b67_segment.specs.declared.code.Code.{Code}
use Rattle.b67_segment.specs.declared.code.Segment.{Segment}
use Rattle.b67_table.specs.Image.{Image}
use Rattle.b67_table.specs.Runs.{Runs, begin, entry, Tails, none, next, TableRun}
use Rattle.b67_listing.specs.Listings.{IsListable}
use Rattle.b67_faithful.specs.Faithful.{HasFormats, HasSegments, IsShortSegment, longest, Faithful}
use Rattle.b67_faithful.specs.Simulation.{Simulates}
use Rattle.b67_faithful.proofs.Contradictions.{some_same}
use Rattle.b67_faithful.proofs.Following.{through, Related, related, simulations_follow}

-- no segment is longer than the longest
pub longest_is : (segments : List Segment) (k : ℕ) (segment : Segment) → slice_get segments k ≡ Some segment → 6 * length segment.words ≤ longest segments
longest_is [] k segment e = cc
longest_is (first ∷ segments) zero segment e =
    let same : length first.words ≡ length segment.words = ap (λ (s : Segment). length s.words) (some_same e) in
    omega (arith, same, le-max_left (6 * length first.words) (longest segments))
longest_is (first ∷ segments) (suc k) segment e = omega (arith, longest_is segments k segment e, le-max_right (6 * length first.words) (longest segments))

module _ (tree : PProgram) (code : Code) (Pictures : World → Image → Type 0) (sim : Simulates tree code Pictures) where
  runs_few : {h counts : List ℕ} {img : Image} → Runs code h counts img → sum counts ≤ length h * longest code.segments
  runs_few begin = omega arith
  runs_few (entry {h} {counts} {a = a} {b = b} {p = p} {n = n} runs e) =
      let so_far : Related tree code Pictures sim h a = related tree code Pictures sim runs in
      let own : n + 1 ≤ longest code.segments = (sim.few so_far.world a e.quiet p n so_far.pictures e.plains).acting b e.action in
      let product : suc (length h) * longest code.segments ≡ longest code.segments + length h * longest code.segments = omega arith in
      omega (arith, runs_few runs, own, product, sum_by-cons (λ x. x) (n + 1) counts)

  tails_few : (w : World) {p : ℕ} {a : Image} {tails : List ℕ} {b : Image} → Pictures w a → Tails code p a tails b → sum tails ≤ length tails * longest code.segments
  tails_few w pic none = omega arith
  tails_few w {p} {a} pic (next {n = n} {b = b} {tails = more} plains after) =
      let own : n ≤ longest code.segments = (sim.few w a b p n pic plains).plain in
      let product : suc (length more) * longest code.segments ≡ longest code.segments + length more * longest code.segments = omega arith in
      omega (arith, tails_few w (through tree code Pictures sim w pic plains) after, own, product, sum_by-cons (λ x. x) n more)

  few : (schedule tails : List ℕ) (image : Image) → (r : TableRun code schedule tails image) → sum r.counts + sum tails ≤ (length schedule + length tails) * longest code.segments
  few schedule tails image r =
      let entries : length schedule ≡ length r.history = ap length r.order ∙ length-reverse r.history in
      let last : Related tree code Pictures sim r.history r.before_tails = related tree code Pictures sim r.runs in
      let apart : (length r.history + length tails) * longest code.segments ≡ length r.history * longest code.segments + length tails * longest code.segments = omega arith in
      let all : (length schedule + length tails) * longest code.segments ≡ length r.history * longest code.segments + length tails * longest code.segments =
      ap (λ (n : ℕ). (n + length tails) * longest code.segments) entries ∙ apart in
      omega (arith, runs_few r.runs, tails_few last.world last.pictures r.after, all)

  pub simulations_are_faithful : HasSegments tree code → HasFormats tree code → IsShortSegment tree code → IsListable code → Faithful tree code
  simulations_are_faithful segments formats short listable =
      record { follows = simulations_follow tree code Pictures sim; segments = segments; formats = formats; short = short; listable = listable; few = few }
