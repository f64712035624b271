-- How a statement that is opened goes on.
use Rattle.std.proofs.Common.{◌≡◌, ◌≤◌, ◌<◌, ℕ, List, [], ◌∷◌, ◌++◌, length, Result, IfErr, refl, sym, subst, ap, ◌∙◌, append_assoc, arith}
use Rattle.std.specs.Result.{IfOk}
use Rattle.std.proofs.lemmas.Result.{IfOk-weaker}
use Rattle.algol_tree.specs.declared.TheConstants.{MOST_NESTING}
use Rattle.algol_tree.specs.declared.token.Spot.{Spot}
use Rattle.algol_tree.specs.declared.token.Token.{Token}
use Rattle.algol_tree.specs.declared.tree.Stmt.{Stmt}
use Rattle.algol_tree.specs.declared.refusal.Refusal.{Refusal}
use Rattle.algol_tree.specs.Ended.{EndsOnce}
use Rattle.algol_tree.specs.Plain.{PStmt}
use Rattle.algol_tree.specs.Image as image
use Rattle.algol_tree.specs.Due.{Value, Due, stmt}
use Rattle.algol_tree.specs.Reading.{read}
use Rattle.algol_tree.specs.Found.{IsRest, Completes, ReaderRefuses}
use Rattle.algol_expr.proofs.Chain.{Reaches, if_err}
use Rattle.algol_part.specs.Brings.{Brings}
use Rattle.algol_part.specs.Openings.{behind_word, behind_verb, led, leading, led_by, still_due, so_far, ReaderComesTo, StatementOpens, PartBegins}
use Rattle.algol_part.specs.declared.start.Opener.{Opener}
use Rattle.algol_part.specs.declared.start.Verb.{Verb}
use Rattle.algol_part.specs.declared.opening.Lead.{Lead}
use Rattle.algol_part.specs.declared.opening.Lead.TheVariants as leads
use Rattle.algol_part.specs.declared.opening.Opening.{Opening}
use Rattle.algol_part.specs.declared.opening.Beginning.{Beginning}
use Rattle.algol_part.specs.declared.opening.Beginning.TheVariants as beginnings

-- what is come to at the end of a chain
pub comes : {from : List Due} {us : List Value} {tokens : List Token} {ds : List Due} {ws : List Value} {rest : List Token} → Reaches from us tokens ds ws rest → EndsOnce rest →
    length rest ≤ length tokens → ReaderComesTo from us tokens ds ws rest
comes r e n = record { run = r.run; ended = e; no_longer = n }

-- a chain goes on with a part that makes values
pub coming : {from : List Due} {us : List Value} {tokens : List Token} {part ds : List Due} {ws xs : List Value} {mid rest : List Token} →
    Reaches from us tokens (part ++ ds) ws mid → ReaderComesTo part [] mid [] xs rest → Reaches from us tokens ds (xs ++ ws) rest
coming {part = part} {ds = ds} {ws = ws} {xs = xs} {mid = mid} {rest = rest} r p = record {
  run = λ due vs. r.run due vs ∙ ap (λ x. read 0 mid x (ws ++ vs)) (append_assoc part ds due) ∙ p.run (ds ++ due) (ws ++ vs)
      ∙ ap (read 0 rest (ds ++ due)) (sym (append_assoc xs ws vs));
}

pub ending : {from : List Due} {us : List Value} {tokens : List Token} {v w : Value} {rest : List Token} → Reaches from us tokens [] (v ∷ []) rest → w ≡ v → EndsOnce rest →
    length rest ≤ length tokens → ReaderComesTo from us tokens [] (w ∷ []) rest
ending {from = from} {us = us} {tokens = tokens} {rest = rest} r is e n = subst (λ x. ReaderComesTo from us tokens [] (x ∷ []) rest) (sym is) (comes r e n)

pub opens_so : {s : Due} {tokens : List Token} {ds : List Due} {opening : Opening} {i : ℕ} {mid rest : List Token} → Reaches (s ∷ []) [] tokens ds [] mid → IsRest tokens mid →
    ReaderComesTo ds [] mid (still_due opening i) (so_far opening) rest → StatementOpens s tokens opening i rest
opens_so r b f = record { run = λ due vs. r.run due vs ∙ f.run due vs; behind = record { ended = f.ended; shorter = omega (arith, b.shorter, f.no_longer) } }

pub opens_here : {s : Due} {tokens : List Token} {opening : Opening} {i : ℕ} {rest : List Token} → Reaches (s ∷ []) [] tokens (still_due opening i) (so_far opening) rest →
    IsRest tokens rest → StatementOpens s tokens opening i rest
opens_here r b = record { run = r.run; behind = b }

-- what follows the first token
pub refuses_after : {s : Due} {tokens : List Token} {part : List Due} {mid : List Token} {e : Refusal} → Reaches (s ∷ []) [] tokens part [] mid → ReaderRefuses part [] mid e →
    ReaderRefuses (s ∷ []) [] tokens e
refuses_after r p = record { left = p.left; fails = record { run = λ spot code q due vs. r.run due vs ∙ p.fails.run spot code q due vs } }

pub completes_after : {s : Due} {tokens : List Token} {part : List Due} {mid : List Token} {v : Value} {rest : List Token} → Reaches (s ∷ []) [] tokens part [] mid →
    IsRest tokens mid → Brings part mid v rest → Completes s tokens v rest
completes_after r m p = record { run = λ due vs. r.run due vs ∙ p.run due vs; ended = p.behind.ended; no_longer = omega (arith, m.shorter, p.behind.shorter) }

-- the same by another name of the word or the opening
pub comes_behind : {o p : Opener} → o ≡ p → (spot : Spot) (i : ℕ) {tokens : List Token} {ds : List Due} {ws : List Value} {rest : List Token} →
    ReaderComesTo (behind_word p spot i) [] tokens ds ws rest → ReaderComesTo (behind_word o spot i) [] tokens ds ws rest
comes_behind is spot i {tokens = tokens} {ds = ds} {ws = ws} {rest = rest} f = subst (λ w. ReaderComesTo (behind_word w spot i) [] tokens ds ws rest) (sym is) f

pub refuses_behind : {o p : Opener} → o ≡ p → (spot : Spot) (i : ℕ) {tokens : List Token} {e : Refusal} → ReaderRefuses (behind_word p spot i) [] tokens e →
    ReaderRefuses (behind_word o spot i) [] tokens e
refuses_behind is spot i {tokens = tokens} {e = e} f = subst (λ w. ReaderRefuses (behind_word w spot i) [] tokens e) (sym is) f

-- what a lead makes of a statement
pub led_is_made : (l : Lead) (s : PStmt) (vs : List Value) → leading l (stmt s ∷ (led_by l ++ vs)) ≡ stmt (led l s) ∷ vs
led_is_made (leads.Label n) s vs = refl
led_is_made (leads.While c) s vs = refl
led_is_made (leads.Thru c) s vs = refl
led_is_made (leads.For n from step limit) s vs = refl

-- the two beginnings
pub is_whole : {s : Due} {tokens : List Token} {b : Beginning} {x : Stmt} {rest : List Token} → b ≡ beginnings.Whole x → PartBegins s tokens b rest →
    Completes s tokens (stmt (image.stmt x)) rest
is_whole {s = s} {tokens = tokens} {rest = rest} is f = subst (λ b. PartBegins s tokens b rest) is f

pub is_open : {s : Due} {tokens : List Token} {b : Beginning} {o : Opening} {i : ℕ} {rest : List Token} → b ≡ beginnings.Open o i → PartBegins s tokens b rest → StatementOpens s tokens o i rest
is_open {s = s} {tokens = tokens} {rest = rest} is f = subst (λ b. PartBegins s tokens b rest) is f

begins_behind : {s p : Due} {tokens mid : List Token} → Reaches (s ∷ []) [] tokens (p ∷ []) [] mid → IsRest tokens mid → (b : Beginning) (rest : List Token) → PartBegins p mid b rest →
    PartBegins s tokens b rest
begins_behind r m (beginnings.Whole x) rest f = record { run = λ due vs. r.run due vs ∙ f.run due vs; ended = f.ended; no_longer = omega (arith, m.shorter, f.no_longer) }
begins_behind r m (beginnings.Open o i) rest f = record {
  run = λ due vs. r.run due vs ∙ f.run due vs;
  behind = record { ended = f.behind.ended; shorter = omega (arith, m.shorter, f.behind.shorter) };
}

-- results that are returned as they are

module _ {T : Type 0} (r : Result T Refusal) (begun_as : T → Beginning) (end : T → List Token) where
  pub begins_by : {s p : Due} {tokens mid : List Token} → Reaches (s ∷ []) [] tokens (p ∷ []) [] mid → IsRest tokens mid → IfOk r (λ x. PartBegins p mid (begun_as x) (end x)) →
      IfOk r (λ x. PartBegins s tokens (begun_as x) (end x))
  begins_by a m h = IfOk-weaker r _ _ (λ x f. begins_behind a m (begun_as x) (end x) f) h

module _ {T : Type 0} (r : Result T Refusal) (tree : T → Value) (end : T → List Token) where
  pub opened_found : {s : Due} {tokens mid : List Token} {o : Opening} {i : ℕ} → StatementOpens s tokens o i mid → IfOk r (λ x. ReaderComesTo (still_due o i) (so_far o) mid [] (tree x ∷ []) (end x)) →
      IfOk r (λ x. Completes s tokens (tree x) (end x))
  opened_found b h = IfOk-weaker r _ _
      (λ x f. record { run = λ due vs. b.run due vs ∙ f.run due vs; ended = f.ended; no_longer = omega (arith, b.behind.shorter, f.no_longer) }) h

  pub opened_as : {o p : Opening} → o ≡ p → (i : ℕ) (tokens : List Token) → IfOk r (λ x. ReaderComesTo (still_due p i) (so_far p) tokens [] (tree x ∷ []) (end x)) →
      IfOk r (λ x. ReaderComesTo (still_due o i) (so_far o) tokens [] (tree x ∷ []) (end x))
  opened_as is i tokens h = subst (λ y. IfOk r (λ x. ReaderComesTo (still_due y i) (so_far y) tokens [] (tree x ∷ []) (end x))) (sym is) h

  pub brings_as : {v w : Verb} → v ≡ w → (tokens : List Token) → IfOk r (λ x. Brings (behind_verb w) tokens (tree x) (end x)) →
      IfOk r (λ x. Brings (behind_verb v) tokens (tree x) (end x))
  brings_as is tokens h = subst (λ y. IfOk r (λ x. Brings (behind_verb y) tokens (tree x) (end x))) (sym is) h

module _ {T : Type 0} (r : Result T Refusal) where
  pub opened_refused : {s : Due} {tokens mid : List Token} {o : Opening} {i : ℕ} → StatementOpens s tokens o i mid → IfErr r (λ e. ReaderRefuses (still_due o i) (so_far o) mid e) →
      IfErr r (λ e. ReaderRefuses (s ∷ []) [] tokens e)
  opened_refused b h = if_err r _ _ (λ e f. record { left = f.left; fails = record { run = λ spot code q due vs. b.run due vs ∙ f.fails.run spot code q due vs } }) h

  pub refused_as : {o p : Opening} → o ≡ p → (i : ℕ) (tokens : List Token) → IfErr r (λ e. ReaderRefuses (still_due p i) (so_far p) tokens e) →
      IfErr r (λ e. ReaderRefuses (still_due o i) (so_far o) tokens e)
  refused_as is i tokens h = subst (λ y. IfErr r (λ e. ReaderRefuses (still_due y i) (so_far y) tokens e)) (sym is) h

  pub refuses_verb : {v w : Verb} → v ≡ w → (tokens : List Token) → IfErr r (λ e. ReaderRefuses (behind_verb w) [] tokens e) → IfErr r (λ e. ReaderRefuses (behind_verb v) [] tokens e)
  refuses_verb is tokens h = subst (λ y. IfErr r (λ e. ReaderRefuses (behind_verb y) [] tokens e)) (sym is) h

  pub range_as : (opening : T → Opening) (end : T → List Token) {o p : Opener} → o ≡ p → (spot : Spot) (tokens : List Token) →
      IfOk r (λ x. (i : ℕ) → ReaderComesTo (behind_word p spot i) [] tokens (still_due (opening x) i) (so_far (opening x)) (end x)) →
      IfOk r (λ x. (i : ℕ) → ReaderComesTo (behind_word o spot i) [] tokens (still_due (opening x) i) (so_far (opening x)) (end x))
  range_as opening end is spot tokens h =
      subst (λ y. IfOk r (λ x. (i : ℕ) → ReaderComesTo (behind_word y spot i) [] tokens (still_due (opening x) i) (so_far (opening x)) (end x))) (sym is) h

  pub range_refused : {o p : Opener} → o ≡ p → (spot : Spot) (tokens : List Token) → IfErr r (λ e. (i : ℕ) → ReaderRefuses (behind_word p spot i) [] tokens e) →
      IfErr r (λ e. (i : ℕ) → ReaderRefuses (behind_word o spot i) [] tokens e)
  range_refused is spot tokens h = subst (λ y. IfErr r (λ e. (i : ℕ) → ReaderRefuses (behind_word y spot i) [] tokens e)) (sym is) h

-- the beginning that a label is
pub label_begins : {T : Type 0} (r : Result T Refusal) (begun_as : T → Beginning) (end : T → List Token) {s : Due} {tokens ts : List Token} {o : Opening} {d i : ℕ} →
    (d < MOST_NESTING → StatementOpens s tokens o i ts) → IfOk r (λ x. (d < MOST_NESTING) × (begun_as x ≡ beginnings.Open o i) × (end x ≡ ts)) →
    IfOk r (λ x. PartBegins s tokens (begun_as x) (end x))
label_begins r begun_as end {s = s} {tokens = tokens} {o = o} {i = i} opens h = IfOk-weaker r _ _
    (λ x f. subst (λ b. PartBegins s tokens b (end x)) (sym f.1) (subst (λ rest. StatementOpens s tokens o i rest) (sym f.2) (opens f.0))) h
