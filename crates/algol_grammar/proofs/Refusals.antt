-- Tokens are refused at one place for one reason, and not where they are a program.
use Rattle.std.proofs.Common.{◌≡◌, ◌≤◌, ◌+◌, ℕ, List, [], ◌∷◌, ◌++◌, length, length-append, refl, sym, subst, ap, ◌∙◌, append_assoc, arith}
use Rattle.std.proofs.lemmas.List.{append-nil}
use Rattle.algol_tree.specs.declared.token.Spot.{Spot}
use Rattle.algol_tree.specs.declared.token.Token.{Token}
use Rattle.algol_tree.specs.declared.refusal.Code.{Code}
use Rattle.algol_tree.specs.declared.refusal.Code.TheVariants as codes
use Rattle.algol_tree.specs.declared.refusal.Refusal.TheVariants.{At}
use Rattle.algol_tree.specs.Plain.{PProgram}
use Rattle.algol_tree.specs.Programs.{Reads}
use Rattle.algol_tree.specs.Refused.{Programs, IsUnexpected, IsTooDeep, IsBehind, RefusedProgram}
use Rattle.algol_tree.specs.Due.{whole_program}
use Rattle.algol_grammar.proofs.Exact.{whole_before}
use Rattle.algol_grammar.proofs.OneTree.{comes_to}
use Rattle.algol_grammar.proofs.Alone.{no_front}
use Rattle.algol_grammar.proofs.Laxer.{keeps_fewer}
use Rattle.algol_grammar.proofs.Ahead.{program_judged}

-- ---- two ways to cut a list

-- at an element each
data Cuts (xs : List Token) (x : Token) (ys zs : List Token) (w : Token) (ws : List Token) : Type 0 where
  alike : xs ≡ zs → x ≡ w → Cuts xs x ys zs w ws
  before : (us : List Token) → zs ≡ xs ++ x ∷ us → ys ≡ us ++ w ∷ ws → Cuts xs x ys zs w ws
  after : (us : List Token) → xs ≡ zs ++ w ∷ us → ws ≡ us ++ x ∷ ys → Cuts xs x ys zs w ws

cuts_of : (xs : List Token) (x : Token) (ys zs : List Token) (w : Token) (ws : List Token) → xs ++ x ∷ ys ≡ zs ++ w ∷ ws → Cuts xs x ys zs w ws
cuts_of [] x ys [] w ws e = let p : x ≡ w = cc in alike refl p
cuts_of [] x ys (z ∷ zs) w ws e = let p : (z ≡ x) × (ys ≡ zs ++ w ∷ ws) = (cc, cc) in before zs (ap (λ z. z ∷ zs) p.0) p.1
cuts_of (q ∷ xs) x ys [] w ws e = let p : (q ≡ w) × (ws ≡ xs ++ x ∷ ys) = (cc, cc) in after xs (ap (λ q. q ∷ xs) p.0) p.1
cuts_of (q ∷ xs) x ys (z ∷ zs) w ws e =
    let p : (q ≡ z) × (xs ++ x ∷ ys ≡ zs ++ w ∷ ws) = (cc, cc) in further p.0 (cuts_of xs x ys zs w ws p.1)
  where
    further : q ≡ z → Cuts xs x ys zs w ws → Cuts (q ∷ xs) x ys (z ∷ zs) w ws
    further h (alike a b) = alike (ap (λ q. q ∷ xs) h ∙ ap (λ xs. z ∷ xs) a) b
    further h (before us a b) = before us (ap (λ zs. z ∷ zs) a ∙ ap (λ z. z ∷ (xs ++ x ∷ us)) (sym h)) b
    further h (after us a b) = after us (ap (λ q. q ∷ xs) h ∙ ap (λ xs. z ∷ xs) a) b

-- between two elements, or at one
data Reach (ahead us : List Token) (w : Token) : Type 0 where
  short : (more : List Token) → us ≡ ahead ++ more → Reach ahead us w
  long : (more : List Token) → ahead ≡ us ++ w ∷ more → Reach ahead us w

reach_of : (ahead rest us : List Token) (w : Token) (ws : List Token) → ahead ++ rest ≡ us ++ w ∷ ws → Reach ahead us w
reach_of ahead [] us w ws e = long ws (sym (append-nil ahead) ∙ e)
reach_of ahead (y ∷ ys) us w ws e = by_cut (cuts_of ahead y ys us w ws e)
  where
    by_cut : Cuts ahead y ys us w ws → Reach ahead us w
    by_cut (alike a b) = short [] (sym a ∙ sym (append-nil ahead))
    by_cut (before vs a b) = short (y ∷ vs) a
    by_cut (after vs a b) = long vs a

-- ---- a program with a token after it

record Stops (tokens : List Token) (token : Token) : Type 0 where
  front : List Token
  rest : List Token
  is : tokens ≡ front ++ token ∷ rest
  whole : Programs 0 front

reads_stops : (tokens : List Token) (tree : PProgram) (r : Reads tokens tree) → Stops tokens r.last
reads_stops tokens tree r =
    let w = whole_before tokens r.last [] (whole_program tree ∷ []) (comes_to tokens tree r) in record { front = w.0; rest = []; is = w.1; whole = w.2 }

behind_stops : (tokens : List Token) (spot : Spot) (b : IsBehind Programs tokens spot) → Stops tokens b.token
behind_stops tokens spot b = record { front = b.front; rest = b.rest; is = b.is; whole = b.good }

-- the tokens of a text after a front that goes on
goes_behind : (free : ℕ) (front : List Token) (t : Token) (us more text : List Token) → text ≡ front ++ t ∷ us → Programs free (text ++ more) → Programs free (front ++ t ∷ (us ++ more))
goes_behind free front t us more text e x =
    subst (Programs free) (ap (λ (xs : List Token). xs ++ more) e ∙ append_assoc front (t ∷ us) more) x

data Refused (tokens : List Token) (spot : Spot) : Code → Type 0 where
  at_unexpected : IsUnexpected Programs tokens spot → Refused tokens spot codes.Unexpected
  at_deep : IsTooDeep Programs tokens spot → Refused tokens spot codes.TooDeep
  at_behind : IsBehind Programs tokens spot → Refused tokens spot codes.TextAfterEnd

module _ (tokens : List Token) where
  stops_once : (t u : Token) → Stops tokens t → Stops tokens u → t ≡ u
  stops_once t u a b = by_cut (cuts_of a.front t a.rest b.front u b.rest (sym a.is ∙ b.is))
    where
      by_cut : Cuts a.front t a.rest b.front u b.rest → t ≡ u
      by_cut (alike p q) = q
      by_cut (before us p q) = absurd (no_front a.front t us 0 a.whole (subst (Programs 0) p b.whole))
      by_cut (after us p q) = absurd (no_front b.front u us 0 b.whole (subst (Programs 0) p a.whole))

  unexpected_stops : (spot : Spot) (u : Token) → IsUnexpected Programs tokens spot → Stops tokens u → ⊥
  unexpected_stops spot u a b = by_cut (cuts_of a.front a.token a.rest b.front u b.rest (sym a.is ∙ b.is))
    where
      by_cut : Cuts a.front a.token a.rest b.front u b.rest → ⊥
      by_cut (alike p q) = a.unfinished 0 (subst (Programs 0) (sym p) b.whole)
      by_cut (before us p q) = a.none 0 us (subst (Programs 0) p b.whole)
      by_cut (after us p q) = no_front b.front u (us ++ a.good.0) (length a.good.0) b.whole (goes_behind (length a.good.0) b.front u us a.good.0 a.front p a.good.1)

  unexpected_once : (spot other : Spot) → IsUnexpected Programs tokens spot → IsUnexpected Programs tokens other → spot ≡ other
  unexpected_once spot other a b = by_cut (cuts_of a.front a.token a.rest b.front b.token b.rest (sym a.is ∙ b.is))
    where
      by_cut : Cuts a.front a.token a.rest b.front b.token b.rest → spot ≡ other
      by_cut (alike p q) = a.place ∙ ap (λ (t : Token). t.spot) q ∙ sym b.place
      by_cut (before us p q) = absurd (a.none (length b.good.0) (us ++ b.good.0) (goes_behind (length b.good.0) a.front a.token us b.good.0 b.front p b.good.1))
      by_cut (after us p q) = absurd (b.none (length a.good.0) (us ++ a.good.0) (goes_behind (length a.good.0) b.front b.token us a.good.0 a.front p a.good.1))

  -- ---- a token that breaks a limit

  module _ (spot : Spot) (a : IsTooDeep Programs tokens spot) where
    -- the text that goes over it, as one that goes on after another front
    passes : (front : List Token) (t : Token) (us : List Token) → a.front ≡ front ++ t ∷ us →
        Programs (1 + length (a.ahead ++ a.good.0)) (front ++ t ∷ (us ++ a.token ∷ (a.ahead ++ a.good.0)))
    passes front t us p = goes_behind (1 + length (a.ahead ++ a.good.0)) front t us (a.token ∷ (a.ahead ++ a.good.0)) a.front p a.good.1

    reaches : (us : List Token) (w : Token) (more : List Token) → a.ahead ≡ us ++ w ∷ more →
        Programs (1 + length (a.ahead ++ a.good.0)) (a.front ++ a.token ∷ (us ++ w ∷ (more ++ a.good.0)))
    reaches us w more p =
        subst (Programs (1 + length (a.ahead ++ a.good.0)))
        (ap (λ (xs : List Token). a.front ++ a.token ∷ xs) (ap (λ (xs : List Token). xs ++ a.good.0) p ∙ append_assoc us (w ∷ more) a.good.0)) a.good.1

    -- no text with the tokens ahead keeps the limits up to it
    none_within : (free : ℕ) (more : List Token) → free ≤ length (a.ahead ++ more) → Programs free (a.front ++ a.token ∷ (a.ahead ++ more)) → ⊥
    none_within free more le x = a.none more (keeps_fewer free (length (a.ahead ++ more)) (a.front ++ a.token ∷ (a.ahead ++ more)) le x)

    deep_stops : (u : Token) → Stops tokens u → ⊥
    deep_stops u b = by_cut (cuts_of a.front a.token (a.ahead ++ a.rest) b.front u b.rest (sym a.is ∙ b.is))
      where
        by_reach : (us : List Token) → b.front ≡ a.front ++ a.token ∷ us → Reach a.ahead us u → ⊥
        by_reach us p (short more q) =
            none_within 0 more (omega arith) (subst (Programs 0) (p ∙ ap (λ (xs : List Token). a.front ++ a.token ∷ xs) q) b.whole)
        by_reach us p (long more q) =
            no_front b.front u (more ++ a.good.0) (1 + length (a.ahead ++ a.good.0)) b.whole
            (subst (Programs (1 + length (a.ahead ++ a.good.0)))
            (sym (ap (λ (xs : List Token). xs ++ u ∷ (more ++ a.good.0)) p ∙ append_assoc a.front (a.token ∷ us) (u ∷ (more ++ a.good.0)))) (reaches us u more q))

        by_cut : Cuts a.front a.token (a.ahead ++ a.rest) b.front u b.rest → ⊥
        by_cut (alike p q) =
            no_front b.front a.token (a.ahead ++ a.good.0) (1 + length (a.ahead ++ a.good.0)) b.whole
            (subst (λ (xs : List Token). Programs (1 + length (a.ahead ++ a.good.0)) (xs ++ a.token ∷ (a.ahead ++ a.good.0))) p a.good.1)
        by_cut (before us p q) = by_reach us p (reach_of a.ahead a.rest us u b.rest q)
        by_cut (after us p q) = no_front b.front u (us ++ a.token ∷ (a.ahead ++ a.good.0)) (1 + length (a.ahead ++ a.good.0)) b.whole (passes b.front u us p)

    deep_unexpected : (other : Spot) → IsUnexpected Programs tokens other → ⊥
    deep_unexpected other b = by_cut (cuts_of a.front a.token (a.ahead ++ a.rest) b.front b.token b.rest (sym a.is ∙ b.is))
      where
        by_reach : (us : List Token) → b.front ≡ a.front ++ a.token ∷ us → Reach a.ahead us b.token → ⊥
        by_reach us p (short more q) =
            let le : length b.good.0 ≤ length (a.ahead ++ (more ++ b.good.0)) = grind (arith, length-append) in
            none_within (length b.good.0) (more ++ b.good.0) le
            (subst (Programs (length b.good.0)) (ap (λ (xs : List Token). a.front ++ a.token ∷ xs) (ap (λ (xs : List Token). xs ++ b.good.0) q ∙ append_assoc a.ahead more b.good.0))
            (goes_behind (length b.good.0) a.front a.token us b.good.0 b.front p b.good.1))
        by_reach us p (long more q) =
            b.none (1 + length (a.ahead ++ a.good.0)) (more ++ a.good.0)
            (subst (Programs (1 + length (a.ahead ++ a.good.0)))
            (sym (ap (λ (xs : List Token). xs ++ b.token ∷ (more ++ a.good.0)) p ∙ append_assoc a.front (a.token ∷ us) (b.token ∷ (more ++ a.good.0)))) (reaches us b.token more q))

        by_cut : Cuts a.front a.token (a.ahead ++ a.rest) b.front b.token b.rest → ⊥
        by_cut (alike p q) =
            b.none (1 + length (a.ahead ++ a.good.0)) (a.ahead ++ a.good.0)
            (subst (λ (t : Token). Programs (1 + length (a.ahead ++ a.good.0)) (b.front ++ t ∷ (a.ahead ++ a.good.0))) q
            (subst (λ (xs : List Token). Programs (1 + length (a.ahead ++ a.good.0)) (xs ++ a.token ∷ (a.ahead ++ a.good.0))) p a.good.1))
        by_cut (before us p q) = by_reach us p (reach_of a.ahead a.rest us b.token b.rest q)
        by_cut (after us p q) = b.none (1 + length (a.ahead ++ a.good.0)) (us ++ a.token ∷ (a.ahead ++ a.good.0)) (passes b.front b.token us p)

    -- no such token stands before another
    no_earlier : (other : Spot) (b : IsTooDeep Programs tokens other) (us : List Token) → b.front ≡ a.front ++ a.token ∷ us →
        a.ahead ++ a.rest ≡ us ++ b.token ∷ (b.ahead ++ b.rest) → ⊥
    no_earlier other b us p q = by_ahead a.ahead a.good a.none q
      where
        later : Programs (1 + length (b.ahead ++ b.good.0)) (a.front ++ a.token ∷ (us ++ b.token ∷ (b.ahead ++ b.good.0)))
        later = goes_behind (1 + length (b.ahead ++ b.good.0)) a.front a.token us (b.token ∷ (b.ahead ++ b.good.0)) b.front p b.good.1

        -- the first token after it
        next : (w : Token) (ws vs : List Token) → w ∷ ws ≡ vs ++ b.token ∷ (b.ahead ++ b.rest) →
            (others : List Token) × (vs ++ b.token ∷ (b.ahead ++ b.good.0) ≡ w ∷ others) × (1 + length (b.ahead ++ b.good.0) ≤ length (w ∷ others))
        next w ws [] e = let same : b.token ≡ w = cc in (b.ahead ++ b.good.0, ap (λ z. z ∷ (b.ahead ++ b.good.0)) same, omega arith)
        next w ws (x ∷ vs) e =
            let same : x ≡ w = cc in
            (vs ++ b.token ∷ (b.ahead ++ b.good.0), ap (λ z. z ∷ (vs ++ b.token ∷ (b.ahead ++ b.good.0))) same, grind (arith, length-append))

        by_ahead : (ahead : List Token) → ((more : List Token) × Programs (1 + length (ahead ++ more)) (a.front ++ a.token ∷ (ahead ++ more))) →
            ((more : List Token) → Programs (length (ahead ++ more)) (a.front ++ a.token ∷ (ahead ++ more)) → ⊥) →
            ahead ++ a.rest ≡ us ++ b.token ∷ (b.ahead ++ b.rest) → ⊥
        by_ahead [] good none e =
            let le : 1 + length (b.ahead ++ b.good.0) ≤ length (us ++ b.token ∷ (b.ahead ++ b.good.0)) = grind (arith, length-append) in
            none (us ++ b.token ∷ (b.ahead ++ b.good.0))
            (keeps_fewer (1 + length (b.ahead ++ b.good.0)) (length (us ++ b.token ∷ (b.ahead ++ b.good.0))) (a.front ++ a.token ∷ (us ++ b.token ∷ (b.ahead ++ b.good.0))) le later)
        by_ahead (w ∷ ahead) good none e =
            let n = next w (ahead ++ a.rest) us e in
            none good.0 (program_judged a.token w (ahead ++ good.0) n.0 (1 + length (b.ahead ++ b.good.0)) n.2 a.front good.1
            (subst (λ (xs : List Token). Programs (1 + length (b.ahead ++ b.good.0)) (a.front ++ a.token ∷ xs)) n.1 later))

  deep_once : (spot other : Spot) → IsTooDeep Programs tokens spot → IsTooDeep Programs tokens other → spot ≡ other
  deep_once spot other a b = by_cut (cuts_of a.front a.token (a.ahead ++ a.rest) b.front b.token (b.ahead ++ b.rest) (sym a.is ∙ b.is))
    where
      by_cut : Cuts a.front a.token (a.ahead ++ a.rest) b.front b.token (b.ahead ++ b.rest) → spot ≡ other
      by_cut (alike p q) = a.place ∙ ap (λ (t : Token). t.spot) q ∙ sym b.place
      by_cut (before us p q) = absurd (no_earlier spot a other b us p q)
      by_cut (after us p q) = absurd (no_earlier other b spot a us p q)

  -- ---- all refusals

  refused_so : (spot : Spot) (code : Code) → RefusedProgram tokens (At spot code) → Refused tokens spot code
  refused_so spot codes.Unexpected r = at_unexpected r
  refused_so spot codes.TooDeep r = at_deep r
  refused_so spot codes.TextAfterEnd r = at_behind r
  refused_so spot code r = absurd r

  once : (spot other : Spot) (code reason : Code) → Refused tokens spot code → Refused tokens other reason → (spot ≡ other) × (code ≡ reason)
  once spot other _ _ (at_unexpected a) (at_unexpected b) = (unexpected_once spot other a b, refl)
  once spot other _ _ (at_unexpected a) (at_deep b) = absurd (deep_unexpected other b spot a)
  once spot other _ _ (at_unexpected a) (at_behind b) = absurd (unexpected_stops spot b.token a (behind_stops tokens other b))
  once spot other _ _ (at_deep a) (at_unexpected b) = absurd (deep_unexpected spot a other b)
  once spot other _ _ (at_deep a) (at_deep b) = (deep_once spot other a b, refl)
  once spot other _ _ (at_deep a) (at_behind b) = absurd (deep_stops spot a b.token (behind_stops tokens other b))
  once spot other _ _ (at_behind a) (at_unexpected b) = absurd (unexpected_stops other a.token b (behind_stops tokens spot a))
  once spot other _ _ (at_behind a) (at_deep b) = absurd (deep_stops other b a.token (behind_stops tokens spot a))
  once spot other _ _ (at_behind a) (at_behind b) =
      (a.place ∙ ap (λ (t : Token). t.spot) (stops_once a.token b.token (behind_stops tokens spot a) (behind_stops tokens other b)) ∙ sym b.place, refl)

  never : (tree : PProgram) (spot : Spot) (code : Code) → Reads tokens tree → Refused tokens spot code → ⊥
  never tree spot _ r (at_unexpected a) = unexpected_stops spot r.last a (reads_stops tokens tree r)
  never tree spot _ r (at_deep a) = deep_stops spot a r.last (reads_stops tokens tree r)
  never tree spot _ r (at_behind a) =
      a.more (ap (λ (t : Token). t.kind) (stops_once a.token r.last (behind_stops tokens spot a) (reads_stops tokens tree r)) ∙ r.ended)

pub one_refusal : (tokens : List Token) (spot other : Spot) (code reason : Code) → RefusedProgram tokens (At spot code) → RefusedProgram tokens (At other reason) →
    (spot ≡ other) × (code ≡ reason)
one_refusal tokens spot other code reason a b = once tokens spot other code reason (refused_so tokens spot code a) (refused_so tokens other reason b)

pub program_not_refused : (tokens : List Token) (tree : PProgram) (spot : Spot) (code : Code) → Reads tokens tree → RefusedProgram tokens (At spot code) → ⊥
program_not_refused tokens tree spot code r a = never tokens tree spot code r (refused_so tokens spot code a)
