-- A console has one text, and shows the same again.
use Rattle.std.proofs.Common.{◌≡◌, refl, sym, ap, ◌∙◌, subst, ℕ, List, [], ◌∷◌, ◌++◌, take, reverse}
use Rattle.std.proofs.lemmas.List.{append_assoc, reverse-reverse}
use Rattle.algol_tree.specs.Plain.{PProgram}
use Rattle.algol_tree.specs.Scopes.{scopes_of}
use Rattle.algol_meaning.specs.World.{World}
use Rattle.b67_segment.specs.declared.code.Code.{Code}
use Rattle.b67_table.specs.Image.{Image}
use Rattle.b67_faithful.specs.Agreement.{Shows, Fits}
use Rattle.b67_table.specs.Runs.{Runs, Tails, TableRun}
use Rattle.b67_fronts.proofs.One.{runs_same}
use Rattle.b67_judge.proofs.Once.{same_world}
use Rattle.b67_commands.specs.declared.command.Command.{Command}
use Rattle.b67_commands.specs.declared.command.Command.TheVariants.{Go}
use Rattle.b67_commands.specs.Positions.{position_moved}
use Rattle.b67_storing.specs.Stores.{stored_by}
use Rattle.b67_console.specs.Telling.{answer_text, IsAnswer, TextFrom}
use Rattle.b67_console.specs.Laws.{ConsolesHaveOneText, MomentsAreOfOneHistory, TheSameIsShownAgain}

-- ---- one image

tails_none : {code : Code} {p : ℕ} {a b : Image} → Tails code p a [] b → a ≡ b
tails_none Tails.none = refl

pub one_image : (code : Code) (s : List ℕ) (a b : Image) → TableRun code s [] a → TableRun code s [] b → a ≡ b
one_image code s a b r q =
    let same : q.history ≡ r.history = sym (reverse-reverse q.history) ∙ ap reverse (sym q.order ∙ r.order) ∙ reverse-reverse r.history in
    sym (tails_none r.after)
    ∙ (runs_same code r.history r.counts q.counts r.before_tails q.before_tails r.runs (subst (λ (h : List ℕ). Runs code h q.counts q.before_tails) same q.runs)).image
    ∙ tails_none q.after

-- ---- one text

module _ (tree : PProgram) (code : Code) (h : List ℕ) where
  one_answer : (k : ℕ) (command : Command) (t u : List ℕ) → IsAnswer tree code h k command t → IsAnswer tree code h k command u → t ≡ u
  one_answer k command t u a b =
      let w : a.moment.world ≡ b.moment.world = same_world tree (take k h) a.moment.world b.moment.world a.moment.legal b.moment.legal in
      let i : a.moment.image ≡ b.moment.image = one_image code (take k h) a.moment.image b.moment.image a.moment.ran b.moment.ran in
      a.is ∙ ap (λ (x : World). answer_text (scopes_of tree) k x a.moment.image command) w
      ∙ ap (λ (x : Image). answer_text (scopes_of tree) k b.moment.world x command) i ∙ sym b.is

  one_text : (k : ℕ) (commands : List Command) (t u : List ℕ) → TextFrom tree code h k commands t → TextFrom tree code h k commands u → t ≡ u
  one_text k [] t u a b = a ∙ sym b
  one_text k (command ∷ commands) t u (first, rest, is, a, more) (other, left, so, b, also) =
      let front : first ≡ other = one_answer (position_moved (stored_by tree h) k command) command first other a b in
      let back : rest ≡ left = one_text (position_moved (stored_by tree h) k command) commands rest left more also in
      is ∙ ap (λ (xs : List ℕ). xs ++ rest) front ∙ ap (λ (xs : List ℕ). other ++ xs) back ∙ sym so

  -- where a console stands after commands
  after_all : ℕ → List Command → ℕ
  after_all k [] = k
  after_all k (command ∷ commands) = after_all (position_moved (stored_by tree h) k command) commands

  record Parts (k : ℕ) (xs ys : List Command) (text : List ℕ) : Type 0 where
    pub first : List ℕ
    pub rest : List ℕ
    pub is : text ≡ first ++ rest
    pub before : TextFrom tree code h k xs first
    pub after : TextFrom tree code h (after_all k xs) ys rest

  parts : (k : ℕ) (xs ys : List Command) (text : List ℕ) → TextFrom tree code h k (xs ++ ys) text → Parts k xs ys text
  unfolding after_all
  parts k [] ys text t = record { first = []; rest = text; is = refl; before = refl; after = t }
  parts k (command ∷ commands) ys text (first, rest, is, a, more) =
      let s = parts (position_moved (stored_by tree h) k command) commands ys rest more in
      record {
        first = first ++ s.first;
        rest = s.rest;
        is = is ∙ ap (λ (xs : List ℕ). first ++ xs) s.is ∙ sym (append_assoc first s.first s.rest);
        before = (first, s.first, refl, a, s.before);
        after = s.after;
      }

four_parts : (text first rest again left middle last : List ℕ) → text ≡ first ++ rest → rest ≡ again ++ left → left ≡ middle ++ last → last ≡ again
    → text ≡ first ++ (again ++ (middle ++ again))
four_parts text first rest again left middle last is next more same =
    is ∙ ap (λ (xs : List ℕ). first ++ xs) (next ∙ ap (λ (xs : List ℕ). again ++ xs) (more ∙ ap (λ (xs : List ℕ). middle ++ xs) same))

pub texts_are_one : ConsolesHaveOneText
texts_are_one tree code h commands one other a b = one_text tree code h 0 commands one other a b

pub again_the_same : TheSameIsShownAgain
again_the_same tree code h a before shown between text t =
    let s = parts tree code h 0 before ((Go a ∷ shown) ++ (between ++ (Go a ∷ shown))) text t in
    let j = after_all tree code h 0 before in
    let g = parts tree code h j (Go a ∷ shown) (between ++ (Go a ∷ shown)) s.rest s.after in
    let i = after_all tree code h j (Go a ∷ shown) in
    let m = parts tree code h i between (Go a ∷ shown) g.rest g.after in
    let same : m.rest ≡ g.first = one_text tree code h 0 (Go a ∷ shown) m.rest g.first m.after g.before in
    (s.first, g.first, m.first, four_parts text s.first s.rest g.first g.rest m.first m.rest s.is g.is m.is same, s.before, g.before)

pub of_one_history : MomentsAreOfOneHistory
of_one_history tree code h k m faithful =
    let a = faithful.follows.legal (take k h) [] m.image m.ran in
    subst (λ (w : World). Shows code w m.image × Fits tree code w m.image) (same_world tree (take k h) a.world m.world a.is m.legal) (a.shows, a.fits)
